-- Changes whose rows become others, each by itself, as it comes or goes: what they stand for.
use Rattle.std.proofs.Common.{◌≡◌, ℕ, zero, suc, ◌+◌, ◌<◌, ◌≤◌, Bool, true, false, cond, List, [], ◌∷◌, ◌++◌, take, Option, Some, None, Ok, Err, refl, sym, ap, subst, ◌∙◌, arith}
use Rattle.std.specs.Prelude.{option_map, is_some}
use Rattle.std.specs.List.{AllByRecursion}
use Rattle.ct_value.specs.Bag.{copies, none, total, one_at}
use Rattle.ct_value.proofs.laws.Bags.{one_at_itself, copies-none, copies-occurs, total-none}
use Rattle.ct_value.specs.Order.{row_cmp, row_total, row_exact}
use Rattle.ct_value.specs.Rows.{project}
use Rattle.ct_value.specs.declared.row.Row.{Row}
use Rattle.ct_change.specs.declared.kind.Kind.{Kind}
use Rattle.ct_change.specs.declared.change.Change.{Change}
use Rattle.ct_change.specs.Changelog.{Mode, retract, upsert, Rows, same_row, adds, admits, addition, additions, removals, last_shown, apply, fold, fold_from, Means}
use Rattle.ct_change.proofs.laws.Meanings.{same_row-true, same_row-itself, means_come, fold_means, valid-upsert, in_key, IsOnce, once_after, copies-upsert}
use Rattle.rel_algebra.specs.Sums.{one, together, plus, sum_over}
use Rattle.rel_algebra.proofs.laws.Bags.{copies-each, copies-one, copies-together, some_weighs, weight, total-one, total-sum_over, sum_over-none, sum_over-together, sum_over-same, sum_over-some}
use Rattle.op_rules.specs.Edges.{IsUnique}
use Rattle.op_rules.specs.Rules.{Answer}
use Rattle.op_rules.specs.Tasks.{total as total_below}
use Rattle.op_rules.proofs.laws.Histories.{both-appended, all-each, ok-same}
use Rattle.emission_rules.specs.Changes.{each_change}
use Rattle.emission_rules.proofs.laws.Weights.{coming, going, means_weighs, total-agree, total-below}

-- what becomes of a row: it is out of range, goes, or becomes a row
abbrev pub Fate : Type 0
Fate = Option (Option Row)

-- the answer for a change of this row with this fate, which becomes one of this kind
abbrev pub moved : Kind → Row → Fate → Answer
moved kind row None = Err row
moved kind row (Some None) = Ok []
moved kind row (Some (Some made)) = Ok (record { kind = kind; row = made } ∷ [])

abbrev pub put : Kind → Fate → List Change → List Change
put kind None rest = rest
put kind (Some None) rest = rest
put kind (Some (Some row)) rest = record { kind = kind; row = row } ∷ rest

-- 1 where it becomes this row
abbrev pub weight_at : Row → Fate → ℕ
weight_at row None = 0
weight_at row (Some None) = 0
weight_at row (Some (Some made)) = one_at row_cmp row made

abbrev pub shown : Option Row → Rows
shown None = none
shown (Some row) = one row

nothing : (b : Bool) → cond {A = ℕ} b 0 0 ≡ 0
nothing true = refl
nothing false = refl

pub one_at-same : (row other : Row) → 0 < one_at row_cmp row other → row ≡ other
one_at-same row other some =
    elim (same_row row other) as (λ b. same_row row other ≡ b → 0 < cond {A = ℕ} b 1 0 → row ≡ other) [
      | true ↦ λ e p. same_row-true row other e
      | false ↦ λ e p. absurd (omega arith)
    ] refl some

one_at-le : (row other : Row) → one_at row_cmp row other ≤ 1
one_at-le row other = elim (same_row row other) as (λ b. cond {A = ℕ} b 1 0 ≤ 1) [ true ↦ omega arith | false ↦ omega arith ]

became : (row : Row) (fate : Fate) → 0 < weight_at row fate → fate ≡ Some (Some row)
became row None some = absurd (omega arith)
became row (Some None) some = absurd (omega arith)
became row (Some (Some made)) some = ap (λ r. Some (Some r)) (sym (one_at-same row made some))

weight_at-le : (row : Row) (fate : Fate) → weight_at row fate ≤ 1
weight_at-le row None = omega arith
weight_at-le row (Some None) = omega arith
weight_at-le row (Some (Some made)) = one_at-le row made

-- the sum of bags
abbrev pub sum_of : ℕ → (ℕ → Rows) → Rows
sum_of zero parts = none
sum_of (suc n) parts = together (sum_of n parts) (parts n)

pub copies-sum_of : (n : ℕ) (parts : ℕ → Rows) (row : Row) → copies (sum_of n parts) row ≡ total_below n (λ j. copies (parts j) row)
copies-sum_of zero parts row = copies-none row_total row
copies-sum_of (suc n) parts row = copies-together row_total row_exact (sum_of n parts) (parts n) row ∙ ap (λ k. k + copies (parts n) row) (copies-sum_of n parts row)

-- what becomes of a row that comes, and of one that goes
module _ (fate : Bool → Row → Fate) (turn : Kind → Kind) (stays : (kind : Kind) → adds (turn kind) ≡ adds kind) where
  abbrev pub fate_of : Change → Fate
  fate_of change = fate (adds change.kind) change.row

  -- what becomes of a list of changes, none of which is out of range
  abbrev pub sent_of : List Change → List Change
  sent_of [] = []
  sent_of (change ∷ changes) = put (turn change.kind) (fate_of change) (sent_of changes)

  abbrev pub AreInRange : List Change → Type 0
  AreInRange changes = AllByRecursion (λ change. is_some (fate_of change) ≡ true) changes

  pub answered : (answer : Change → Answer) → ((change : Change) → answer change ≡ moved (turn change.kind) change.row (fate_of change))
      → (changes sent : List Change) → each_change answer changes ≡ Ok sent → AreInRange changes × (sent ≡ sent_of changes)
  answered answer is [] sent e = (tt, ok-same [] sent e)
  answered answer is (change ∷ changes) sent e =
      let both = both-appended (answer change) (each_change answer changes) sent e in
      let rest = answered answer is changes both.back both.is_back in
      let head = go change both.front (fate_of change) (sym (is change) ∙ both.is_front) in
      ((head.0, rest.0), both.whole ∙ ap (λ xs. both.front ++ xs) rest.1 ∙ head.1 (sent_of changes))
    where
      go : (change : Change) (front : List Change) (o : Fate) → moved (turn change.kind) change.row o ≡ Ok front → (is_some o ≡ true) × ((rest : List Change) → front ++ rest ≡ put (turn change.kind) o rest)
      go change front None e = absurd (cc)
      go change front (Some None) e = (refl, λ rest. ap (λ xs. xs ++ rest) (ok-same [] front e))
      go change front (Some (Some row)) e = (refl, λ rest. ap (λ xs. xs ++ rest) (ok-same (record { kind = turn change.kind; row = row } ∷ []) front e))

  -- each prefix of what is sent is what a prefix becomes
  pub take-sent : (n : ℕ) (changes : List Change) → (m : ℕ) × (take n (sent_of changes) ≡ sent_of (take m changes))
  take-sent zero changes = (0, refl)
  take-sent (suc n) [] = (0, refl)
  take-sent (suc n) (change ∷ changes) = go (fate_of change) refl (take-sent (suc n) changes) (take-sent n changes)
    where
      go : (o : Fate) → fate_of change ≡ o → ((m : ℕ) × (take (suc n) (sent_of changes) ≡ sent_of (take m changes))) → ((m : ℕ) × (take n (sent_of changes) ≡ sent_of (take m changes)))
          → (m : ℕ) × (take (suc n) (put (turn change.kind) o (sent_of changes)) ≡ sent_of (take m (change ∷ changes)))
      go None e later rest = (suc later.0, later.1 ∙ sym (ap (λ x. put (turn change.kind) x (sent_of (take later.0 changes))) e))
      go (Some None) e later rest = (suc later.0, later.1 ∙ sym (ap (λ x. put (turn change.kind) x (sent_of (take later.0 changes))) e))
      go (Some (Some row)) e later rest = (suc rest.0, ap (λ xs. record { kind = turn change.kind; row = row } ∷ xs) rest.1 ∙ sym (ap (λ x. put (turn change.kind) x (sent_of (take rest.0 changes))) e))

  -- what holds of the changes that came, of those that are sent
  pub all-sent : (P Q : Change → Type 0) → ((change : Change) (row : Row) → P change → fate_of change ≡ Some (Some row) → Q (record { kind = turn change.kind; row = row }))
      → (changes : List Change) → AllByRecursion P changes → AllByRecursion Q (sent_of changes)
  all-sent P Q h [] p = tt
  all-sent P Q h (change ∷ changes) p = go (fate_of change) refl (all-sent P Q h changes p.1)
    where
      go : (o : Fate) → fate_of change ≡ o → AllByRecursion Q (sent_of changes) → AllByRecursion Q (put (turn change.kind) o (sent_of changes))
      go None e rest = rest
      go (Some None) e rest = rest
      go (Some (Some row)) e rest = (h change row p.0 e, rest)

  -- ---- what is sent weighs

  -- 1 where the other, standing, becomes this row
  abbrev becomes : Row → Row → ℕ
  becomes row other = weight_at row (fate true other)

  as_coming : (row other : Row) (b : Bool) → cond b (weight_at row (fate b other)) 0 ≡ cond b (becomes row other) 0
  as_coming row other true = refl
  as_coming row other false = refl

  as_going : (row other : Row) → fate false other ≡ fate true other → (b : Bool) → cond b 0 (weight_at row (fate b other)) ≡ cond b 0 (becomes row other)
  as_going row other same true = refl
  as_going row other same false = ap (weight_at row) same

  additions-sent : (row : Row) (changes : List Change) → additions row (sent_of changes) ≡ coming (becomes row) changes
  additions-sent row [] = refl
  additions-sent row (change ∷ changes) =
      go (fate_of change)
      ∙ ap (λ n. n + additions row (sent_of changes)) (as_coming row change.row (adds change.kind))
      ∙ ap (λ n. cond (adds change.kind) (becomes row change.row) 0 + n) (additions-sent row changes)
    where
      go : (o : Fate) → additions row (put (turn change.kind) o (sent_of changes)) ≡ cond (adds change.kind) (weight_at row o) 0 + additions row (sent_of changes)
      go None = omega (arith, nothing (adds change.kind))
      go (Some None) = omega (arith, nothing (adds change.kind))
      go (Some (Some made)) = ap (λ b. cond b (one_at row_cmp row made) 0 + additions row (sent_of changes)) (stays change.kind)

  -- where a row that goes becomes what it became when it came
  removals-sent : ((row : Row) → fate false row ≡ fate true row) → (row : Row) (changes : List Change) → removals row (sent_of changes) ≡ going (becomes row) changes
  removals-sent same row [] = refl
  removals-sent same row (change ∷ changes) =
      go (fate_of change)
      ∙ ap (λ n. n + removals row (sent_of changes)) (as_going row change.row (same change.row) (adds change.kind))
      ∙ ap (λ n. cond (adds change.kind) 0 (becomes row change.row) + n) (removals-sent same row changes)
    where
      go : (o : Fate) → removals row (put (turn change.kind) o (sent_of changes)) ≡ cond (adds change.kind) 0 (weight_at row o) + removals row (sent_of changes)
      go None = omega (arith, nothing (adds change.kind))
      go (Some None) = omega (arith, nothing (adds change.kind))
      go (Some (Some made)) = ap (λ b. cond b 0 (one_at row_cmp row made) + removals row (sent_of changes)) (stays change.kind)

  -- ---- what becomes of a bag

  abbrev pub image : Rows → Option Rows
  image rows = sum_over (λ row. option_map shown (fate true row)) rows

  copies-image : (rows answer : Rows) → image rows ≡ Some answer → (row : Row) → copies answer row ≡ total (becomes row) rows
  copies-image rows answer e row =
      copies-occurs answer row
      ∙ total-sum_over row_total row_exact row_total row_exact (one_at row_cmp row) (λ row. option_map shown (fate true row)) rows answer e
      ∙ ap (λ (g : Row → ℕ). total g rows) (λ i other. go (fate true other) i)
    where
      go : (o : Fate) → weight row_total row_exact row_total row_exact (one_at row_cmp row) (option_map shown o) ≡ weight_at row o
      go None = refl
      go (Some None) = total-none row_total (one_at row_cmp row)
      go (Some (Some made)) = total-one row_total row_exact (one_at row_cmp row) made

  -- it is there where none of its rows is out of range
  image-some : (rows : Rows) → ((row : Row) → 0 < copies rows row → is_some (fate true row) ≡ true) → (answer : Rows) × (image rows ≡ Some answer)
  image-some rows known =
      let all = sum_over-some row_total row_exact row_total row_exact (λ row. Some (sure (fate true row))) (λ row. (sure (fate true row), refl)) rows in (
        all.0,
        sum_over-same row_total row_exact row_total row_exact (λ row. option_map shown (fate true row)) (λ row. Some (sure (fate true row))) rows
            (copies-each row_total row_exact (λ row. option_map shown (fate true row) ≡ Some (sure (fate true row))) rows (λ row p. certain (fate true row) (known row p)))
            ∙ all.1,
      )
    where
      sure : Fate → Rows
      sure None = none
      sure (Some o) = shown o

      certain : (o : Fate) → is_some o ≡ true → option_map shown o ≡ Some (sure o)
      certain None e = absurd (cc)
      certain (Some o) e = refl

  -- each of its rows is what a row became
  pub came_from : (rows answer : Rows) → image rows ≡ Some answer → (row : Row) → 0 < copies answer row → (other : Row) × (0 < copies rows other) × (fate true other ≡ Some (Some row))
  came_from rows answer e row some =
      let at = some_weighs row_total (becomes row) rows (omega (arith, copies-image rows answer e row)) in
      (at.0, at.1, became row (fate true at.0) at.2)

  -- of sums it is the sum
  pub image-sum : (n : ℕ) (parts answers : ℕ → Rows) → ((j : ℕ) → j < n → image (parts j) ≡ Some (answers j)) → image (sum_of n parts) ≡ Some (sum_of n answers)
  image-sum zero parts answers made = sum_over-none row_total row_exact row_cmp (λ row. option_map shown (fate true row))
  image-sum (suc n) parts answers made =
      sum_over-together row_total row_exact row_total row_exact (λ row. option_map shown (fate true row)) (sum_of n parts) (parts n)
      ∙ ap (λ a. plus a (image (parts n))) (image-sum n parts answers (λ j l. made j (omega arith)))
      ∙ ap (plus (Some (sum_of n answers))) (made n (omega arith))

  -- ---- keys

  -- rows that become rows that agree on a set agree on a set of their own
  abbrev pub CarriesAs : Bool → Bool → List ℕ → List ℕ → Type 0
  CarriesAs x y set own = (a b : Row) (fa fb : Row) → fate x a ≡ Some (Some fa) → fate y b ≡ Some (Some fb) → project set fa ≡ project set fb → project own a ≡ project own b

  -- as they stand
  abbrev pub CarriesRows : List ℕ → List ℕ → Type 0
  CarriesRows set own = CarriesAs true true set own

  -- as they come or go
  abbrev pub Carries : List ℕ → List ℕ → Type 0
  Carries set own = (x y : Bool) → CarriesAs x y set own

  pub image_unique : (set own : List ℕ) → CarriesRows set own → (rows answer : Rows) → image rows ≡ Some answer → IsUnique own (copies rows) → IsUnique set (copies answer)
  image_unique set own carries rows answer e unique a b same x y =
      let p = came_from rows answer e a x in
      let q = came_from rows answer e b y in
      let one_row = unique p.0 q.0 (carries p.0 q.0 a b p.2 q.2 same) p.1 q.1 in
      let both : Some (Some a) ≡ Some (Some b) = sym p.2 ∙ (ap (fate true) one_row.0 ∙ q.2) in
      let below : total (becomes a) rows ≤ total (one_at row_cmp p.0) rows =
      total-below (becomes a) (one_at row_cmp p.0) rows (λ row some. go row some (fate true row) refl) in
      (cc, omega (arith, copies-image rows answer e a, below, copies-occurs rows p.0, one_row.1))
    where
      at : (row : Row) → one_at row_cmp row row ≡ 1
      at row = one_at_itself row_cmp row_total row

      go : (row : Row) → 0 < copies rows row → (o : Fate) → fate true row ≡ o → weight_at a o ≤ one_at row_cmp (came_from rows answer e a x).0 row
      go row some None f = omega arith
      go row some (Some None) f = omega arith
      go row some (Some (Some made)) f =
          elim (same_row a made) as (λ t. same_row a made ≡ t → cond {A = ℕ} t 1 0 ≤ one_at row_cmp (came_from rows answer e a x).0 row) [
            | true ↦ λ s.
                let p = came_from rows answer e a x in
                let is : a ≡ made = same_row-true a made s in
                let agree = (unique row p.0 (carries row p.0 made a f p.2 (ap (project set) (sym is))) some p.1).0 in
                let one_ : one_at row_cmp p.0 row ≡ 1 = ap (one_at row_cmp p.0) agree ∙ at p.0 in
                omega arith
            | false ↦ λ s. omega arith
          ] refl

  -- ---- changes of bags

  -- rows that stand are in range
  known_where : (mode : Mode) (changes : List Change) (rows : Rows) → AreInRange changes → Means mode changes rows → (row : Row) → 0 < copies rows row → is_some (fate true row) ≡ true
  known_where mode changes rows known means =
      means_come (λ row. is_some (fate true row) ≡ true) mode changes rows means
      (all-each (λ change. is_some (fate_of change) ≡ true) (λ change. adds change.kind ≡ true → is_some (fate true change.row) ≡ true) (λ change h e. subst (λ b. is_some (fate b change.row) ≡ true) e h) changes known)

  -- where a row that goes becomes what it became when it came
  pub moved_means : ((row : Row) → fate false row ≡ fate true row) → (changes : List Change) (rows : Rows) → AreInRange changes → Means retract changes rows
      → (answer : Rows) × (image rows ≡ Some answer) × Means retract (sent_of changes) answer
  moved_means same changes rows known means =
      let made = image-some rows (known_where retract changes rows known means) in
      (made.0, made.1, λ row. omega (arith, additions-sent row changes, removals-sent same row changes, means_weighs (becomes row) changes rows means, copies-image rows made.0 made.1 row))

  -- ---- changes of last rows

  -- of a row that goes, the key alone counts
  module _ (own key : List ℕ) (never : (x : Bool) (row : Row) → fate x row ≡ Some None → ⊥) (back : Carries key own)
      (forth : (x y : Bool) (a b : Row) (fa fb : Row) → fate x a ≡ Some (Some fa) → fate y b ≡ Some (Some fb) → project own a ≡ project own b → project key fa ≡ project key fb) where
    one_more : (row : Row) (rows : Rows) → IsOnce own rows → (change : Change) (made : Row) → fate_of change ≡ Some (Some made)
        → total (becomes row) (apply (upsert own) rows change) ≡ cond (same_row (project key made) (project key row)) (addition row (record { kind = turn change.kind; row = made })) (total (becomes row) rows)
    one_more row rows once change made f =
        elim (same_row (project key made) (project key row)) as (λ t. same_row (project key made) (project key row) ≡ t → total (becomes row) (apply (upsert own) rows change) ≡ cond t (addition row (record { kind = turn change.kind; row = made })) (total (becomes row) rows)) [
          | true ↦ λ s. here s ∙ sym (ap (λ b. cond b (one_at row_cmp row made) 0) (stays change.kind))
          | false ↦ λ s.
              total-agree (becomes row) (apply (upsert own) rows change) rows (λ other some.
              let is = became row (fate true other) some in
              let apart : same_row (project own change.row) (project own other) ≡ false =
              elim (same_row (project own change.row) (project own other)) as (λ t. same_row (project own change.row) (project own other) ≡ t → t ≡ false) [
                | true ↦ λ t. absurd (
                    let agree : project key made ≡ project key row = forth (adds change.kind) true change.row other made row f is (same_row-true _ _ t) in
                    let yes_ : same_row (project key made) (project key row) ≡ true = ap (λ k. same_row k (project key row)) agree ∙ same_row-itself (project key row) in
                    cc)
                | false ↦ λ t. refl
              ] refl in
              copies-upsert own rows once change other ∙ ap (λ t. cond t (addition other change) (copies rows other)) apart)
        ] refl
      where
        agrees : same_row (project key made) (project key row) ≡ true → (other : Row) → 0 < becomes row other → same_row (project own change.row) (project own other) ≡ true
        agrees s other some =
            let is = became row (fate true other) some in
            ap (λ k. same_row (project own change.row) k) (back true (adds change.kind) other change.row row made is f (sym (same_row-true _ _ s))) ∙ same_row-itself (project own change.row)

        here : same_row (project key made) (project key row) ≡ true → total (becomes row) (apply (upsert own) rows change) ≡ cond (adds change.kind) (one_at row_cmp row made) 0
        here s =
            elim (adds change.kind) as (λ t. adds change.kind ≡ t → total (becomes row) (apply (upsert own) rows change) ≡ cond t (one_at row_cmp row made) 0) [
              | true ↦ λ t.
                  total-agree (becomes row) (apply (upsert own) rows change) (one change.row) (λ other some.
                  copies-upsert own rows once change other
                  ∙ ap (λ b. cond b (addition other change) (copies rows other)) (agrees s other some)
                  ∙ ap (λ b. cond b (one_at row_cmp other change.row) 0) t
                  ∙ sym (copies-one row_total row_exact change.row other))
                  ∙ total-one row_total row_exact (becomes row) change.row
                  ∙ ap (weight_at row) (ap (λ b. fate b change.row) (sym t) ∙ f)
              | false ↦ λ t.
                  total-agree (becomes row) (apply (upsert own) rows change) none (λ other some.
                  copies-upsert own rows once change other
                  ∙ ap (λ b. cond b (addition other change) (copies rows other)) (agrees s other some)
                  ∙ ap (λ b. cond b (one_at row_cmp other change.row) 0) t
                  ∙ sym (copies-none row_total other))
                  ∙ total-none row_total (becomes row)
            ] refl

    last-sent : (row : Row) (rows : Rows) → IsOnce own rows → (changes : List Change) → AreInRange changes
        → total (becomes row) (fold_from (upsert own) rows changes) ≡ last_shown key row (total (becomes row) rows) (sent_of changes)
    last-sent row rows once [] known = refl
    last-sent row rows once (change ∷ changes) known = go (fate_of change) refl known.0 (last-sent row (apply (upsert own) rows change) (once_after own rows once change) changes known.1)
      where
        go : (o : Fate) → fate_of change ≡ o → is_some o ≡ true
            → total (becomes row) (fold_from (upsert own) (apply (upsert own) rows change) changes) ≡ last_shown key row (total (becomes row) (apply (upsert own) rows change)) (sent_of changes)
            → total (becomes row) (fold_from (upsert own) (apply (upsert own) rows change) changes) ≡ last_shown key row (total (becomes row) rows) (put (turn change.kind) o (sent_of changes))
        go None f e rest = absurd (cc)
        go (Some None) f e rest = absurd (never (adds change.kind) change.row f)
        go (Some (Some made)) f e rest = rest ∙ ap (λ n. last_shown key row n (sent_of changes)) (one_more row rows once change made f)

    pub moved_last : (changes : List Change) (rows : Rows) → AllByRecursion (λ change. admits (upsert own) change.kind ≡ true) changes → AreInRange changes → Means (upsert own) changes rows
        → (answer : Rows) × (image rows ≡ Some answer) × Means (upsert key) (sent_of changes) answer
    moved_last changes rows kinds known means =
        let made = image-some rows (known_where (upsert own) changes rows known means) in
        let folded : rows ≡ fold (upsert own) changes = fold_means (upsert own) changes rows (valid-upsert own none changes kinds) means in (
          made.0,
          made.1,
          λ row.
              copies-image rows made.0 made.1 row
              ∙ ap (total (becomes row)) folded
              ∙ last-sent row none (λ other. let e = total-none row_total (in_key own other) in omega arith) changes known
              ∙ ap (λ n. last_shown key row n (sent_of changes)) (total-none row_total (becomes row)),
        )
