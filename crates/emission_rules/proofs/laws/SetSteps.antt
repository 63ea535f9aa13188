-- What a set operation emits along a history, change by change.
use Rattle.std.proofs.Common.{◌≡◌, ℕ, zero, suc, ◌+◌, ◌<◌, ◌≤◌, ◌==◌, ◌⊎◌, Bool, true, false, cond, List, [], ◌∷◌, ◌++◌, take, Ok, refl, sym, ap, subst, ◌∙◌, arith, inl, inr, append_assoc, append-nil}
use Rattle.std.specs.Prelude.{nat_lt}
use Rattle.std.specs.List.{AllByRecursion}
use Rattle.std.specs.Ordering.{eq_by_cmp}
use Rattle.std.proofs.lemmas.Bool.{ltb-true, ltb-false, eq-eqb, eqb-true, eqb-false, ne_eqb}
use Rattle.ct_value.specs.Bag.{copies, one_at}
use Rattle.ct_value.proofs.laws.Bags.{copies-none, one_at_itself, weigh-append}
use Rattle.ct_value.specs.Order.{row_cmp, row_total}
use Rattle.ct_value.specs.declared.row.Row.{Row}
use Rattle.ct_change.specs.declared.kind.Kind.TheVariants.{I, D}
use Rattle.ct_change.specs.declared.change.Change.{Change}
use Rattle.ct_change.specs.Changelog.{Rows, retract, adds, apply, IsValidFrom, addition, removal, additions, removals, Means}
use Rattle.ct_change.proofs.laws.Meanings.{copies-apply, same_row-true}
use Rattle.rel_algebra.specs.Sets.{SetForm, set_form, set_copies, set_rows}
use Rattle.rel_algebra.proofs.laws.Sets.{copies-set_form, none_left, counted_step}
use Rattle.op_rules.specs.History.{Arrival, at_port, joined}
use Rattle.op_rules.specs.Rules.{Answer, appended, along}
use Rattle.emission_rules.specs.SetOps.{SetOperation, rows_of_port, number, told_by_numbers, set_tells, set_emits, set_rule}
use Rattle.emission_rules.proofs.laws.Walks.{rows-push}

-- ---- a number that moves by one at most

pub record IsNear (old new : ℕ) : Type 0 where
  pub up : new ≤ suc old
  pub down : old ≤ suc new

module _ (old new : ℕ) (row x : Row) where
  -- of the row itself, what is told makes up for the difference
  told-here : one_at row_cmp x row ≡ 1 → IsNear old new → additions x (told_by_numbers old new row) + old ≡ removals x (told_by_numbers old new row) + new
  told-here e near =
      let up = near.up in let down = near.down in
      elim (nat_lt old new) as (λ b. nat_lt old new ≡ b → (let changes : List Change = cond b (record { kind = I; row = row } ∷ []) (cond (nat_lt new old) (record { kind = D; row = row } ∷ []) []) in additions x changes + old ≡ removals x changes + new)) [
        | true ↦ λ q. let l = ltb-true old new q in omega arith
        | false ↦ λ q. let m = ltb-false old new q in
            elim (nat_lt new old) as (λ b. nat_lt new old ≡ b → (let changes : List Change = cond b (record { kind = D; row = row } ∷ []) [] in additions x changes + old ≡ removals x changes + new)) [
              | true ↦ λ r. let l = ltb-true new old r in omega arith
              | false ↦ λ r. let l = ltb-false new old r in omega arith
            ] refl
      ] refl

  -- of another one nothing is told
  told-elsewhere : one_at row_cmp x row ≡ 0 → (additions x (told_by_numbers old new row) ≡ 0) × (removals x (told_by_numbers old new row) ≡ 0)
  told-elsewhere e =
      elim (nat_lt old new) as (λ b. let changes : List Change = cond b (record { kind = I; row = row } ∷ []) (cond (nat_lt new old) (record { kind = D; row = row } ∷ []) []) in (additions x changes ≡ 0) × (removals x changes ≡ 0)) [
        | true ↦ (omega arith, omega arith)
        | false ↦ elim (nat_lt new old) as (λ b. let changes : List Change = cond b (record { kind = D; row = row } ∷ []) [] in (additions x changes ≡ 0) × (removals x changes ≡ 0)) [ true ↦ (omega arith, omega arith) | false ↦ (refl, refl) ]
      ]

-- what is told holds what is true of the row that comes and of the one that goes
pub told-all : (P : Change → Type 0) (old new : ℕ) (row : Row) → (old < new → P (record { kind = I; row = row })) → (new < old → P (record { kind = D; row = row })) → AllByRecursion P (told_by_numbers old new row)
told-all P old new row come go =
    elim (nat_lt old new) as (λ b. nat_lt old new ≡ b → AllByRecursion P (cond b (record { kind = I; row = row } ∷ []) (cond (nat_lt new old) (record { kind = D; row = row } ∷ []) []))) [
      | true ↦ λ q. (come (ltb-true old new q), tt)
      | false ↦ λ q. elim (nat_lt new old) as (λ b. nat_lt new old ≡ b → AllByRecursion P (cond b (record { kind = D; row = row } ∷ []) [])) [ true ↦ λ r. (go (ltb-true new old r), tt) | false ↦ λ r. tt ] refl
    ] refl

-- ---- a copy more on one side

left_more : (except all : Bool) (m n : ℕ) → (set_copies (set_form except all) m n ≤ set_copies (set_form except all) (suc m) n) × (set_copies (set_form except all) (suc m) n ≤ suc (set_copies (set_form except all) m n))
left_more true all m n = let s = counted_step all m in let a = s.0 in let b = s.1 in (omega arith, omega arith)
left_more false all m n = let s = counted_step all m in let a = s.0 in let b = s.1 in (omega arith, omega arith)

-- under EXCEPT the number falls where the right has a copy more, and else it rises
right_more : (except all : Bool) (m n : ℕ) → IsNear (set_copies (set_form except all) m n) (set_copies (set_form except all) m (suc n)) × (except ≡ false → set_copies (set_form except all) m n ≤ set_copies (set_form except all) m (suc n))
right_more true all m n = (record { up = omega arith; down = omega arith }, λ e. absurd (cc))
right_more false all m n = (record { up = omega arith; down = omega arith }, λ e. omega arith)

module _ (s : SetOperation) where
  abbrev form : SetForm
  form = set_form s.except s.all

  -- ---- one after the other

  pub set_emits-append : (sofar xs ys : List Arrival) → set_emits s sofar (xs ++ ys) ≡ set_emits s sofar xs ++ set_emits s (sofar ++ xs) ys
  set_emits-append sofar [] ys = ap (λ (b : List Arrival). set_emits s b ys) (sym (append-nil sofar))
  set_emits-append sofar (x ∷ xs) ys =
      ap (λ (cs : List Change). set_tells s sofar x ++ cs) (set_emits-append (sofar ++ x ∷ []) xs ys)
      ∙ sym (append_assoc (set_tells s sofar x) (set_emits s (sofar ++ x ∷ []) xs) (set_emits s ((sofar ++ x ∷ []) ++ xs) ys))
      ∙ ap (λ (b : List Arrival). set_emits s sofar (x ∷ xs) ++ set_emits s b ys) (append_assoc sofar (x ∷ []) xs)

  -- however it is cut into pieces, the same is emitted
  pub along-set : (sofar : List Arrival) (pieces : List (List Arrival)) → along (set_rule s).emits sofar pieces ≡ Ok (set_emits s sofar (joined pieces))
  along-set sofar [] = refl
  along-set sofar (piece ∷ pieces) =
      ap (appended (Ok (set_emits s sofar piece))) (along-set (sofar ++ piece) pieces)
      ∙ ap (λ (cs : List Change). let r : Answer = Ok cs in r) (sym (set_emits-append sofar piece (joined pieces)))

  take-nothing : (n : ℕ) → ◌≡◌ {A = List Change} (take n []) []
  take-nothing zero = refl
  take-nothing (suc n) = refl

  -- each prefix of what is emitted is what is emitted for a prefix of what came
  pub take-emits : (sofar others : List Arrival) (n : ℕ) → (k : ℕ) × (take n (set_emits s sofar others) ≡ set_emits s sofar (take k others))
  take-emits sofar [] n = (0, take-nothing n)
  take-emits sofar (a ∷ others) zero = (0, refl)
  take-emits sofar (a ∷ others) (suc n) =
      let rest = set_emits s (sofar ++ a ∷ []) others in
      let whole : List Change → Type 0 = λ tells. (k : ℕ) × (take (suc n) (tells ++ rest) ≡ tells ++ set_emits s (sofar ++ a ∷ []) (take k others)) in
      let one : (c : Change) → whole (c ∷ []) = λ c. let r = take-emits (sofar ++ a ∷ []) others n in (r.0, ap (λ (cs : List Change). c ∷ cs) r.1) in
      let some : whole (set_tells s sofar a) =
      elim (nat_lt (number s sofar a.change.row) (number s (sofar ++ a ∷ []) a.change.row)) as (λ b. whole (cond b (record { kind = I; row = a.change.row } ∷ []) (cond (nat_lt (number s (sofar ++ a ∷ []) a.change.row) (number s sofar a.change.row)) (record { kind = D; row = a.change.row } ∷ []) []))) [
        | true ↦ one (record { kind = I; row = a.change.row })
        | false ↦ elim (nat_lt (number s (sofar ++ a ∷ []) a.change.row) (number s sofar a.change.row)) as (λ b. whole (cond b (record { kind = D; row = a.change.row } ∷ []) [])) [
          | true ↦ one (record { kind = D; row = a.change.row })
          | false ↦ take-emits (sofar ++ a ∷ []) others (suc n)
        ]
      ] in
      (suc some.0, some.1)

  -- ---- one change

  -- the changes that are left may come where the rows of those before stand
  pub record AreLeft (sofar others : List Arrival) : Type 0 where
    pub known : AllByRecursion (λ a. a.port < 2) others
    pub left : IsValidFrom retract (rows_of_port 0 sofar) (at_port 0 others)
    pub right : IsValidFrom retract (rows_of_port 1 sofar) (at_port 1 others)

  -- what a change does to the rows of its port
  abbrev pub Moves : ℕ → List Arrival → Arrival → Type 0
  Moves port sofar a = (x : Row) → copies (rows_of_port port (sofar ++ a ∷ [])) x + removal x a.change ≡ copies (rows_of_port port sofar) x + addition x a.change

  pub record Stepped (sofar : List Arrival) (a : Arrival) (others : List Arrival) : Type 0 where
    pub step : (Moves 0 sofar a × (rows_of_port 1 (sofar ++ a ∷ []) ≡ rows_of_port 1 sofar)) ⊎ ((rows_of_port 0 (sofar ++ a ∷ []) ≡ rows_of_port 0 sofar) × Moves 1 sofar a)
    pub rest : AreLeft (sofar ++ a ∷ []) others

  pub stepped : (sofar : List Arrival) (a : Arrival) (others : List Arrival) → AreLeft sofar (a ∷ others) → Stepped sofar a others
  stepped sofar a others are =
      let l0 = rows_of_port 0 sofar in
      let r0 = rows_of_port 1 sofar in
      elim (a.port == 0) as (λ b. (a.port == 0) ≡ b → Stepped sofar a others) [
        | true ↦ λ e.
            let zero_port = eqb-true a.port 0 e in
            let not_one : (a.port == 1) ≡ false = ne_eqb a.port 1 (λ o. omega arith) in
            let lv = subst (λ b. IsValidFrom retract l0 (cond b (a.change ∷ at_port 0 others) (at_port 0 others))) e are.left in
            let rv = subst (λ b. IsValidFrom retract r0 (cond b (a.change ∷ at_port 1 others) (at_port 1 others))) not_one are.right in
            let l : rows_of_port 0 (sofar ++ a ∷ []) ≡ apply retract l0 a.change = rows-push retract 0 sofar a ∙ ap (λ b. cond b (apply retract l0 a.change) l0) e in
            let r : rows_of_port 1 (sofar ++ a ∷ []) ≡ r0 = rows-push retract 1 sofar a ∙ ap (λ b. cond b (apply retract r0 a.change) r0) not_one in
            record {
              step = inl (λ x. ap (λ (y : Rows). copies y x + removal x a.change) l ∙ copies-apply l0 a.change x lv.0, r);
              rest = record {
                known = are.known.1;
                left = subst (λ (x : Rows). IsValidFrom retract x (at_port 0 others)) (sym l) lv.1;
                right = subst (λ (x : Rows). IsValidFrom retract x (at_port 1 others)) (sym r) rv;
              };
            }
        | false ↦ λ e.
            let one_port : a.port ≡ 1 = (let k = are.known.0 in let z = eqb-false a.port 0 e in omega arith) in
            let one_ : (a.port == 1) ≡ true = eq-eqb a.port 1 one_port in
            let lv = subst (λ b. IsValidFrom retract l0 (cond b (a.change ∷ at_port 0 others) (at_port 0 others))) e are.left in
            let rv = subst (λ b. IsValidFrom retract r0 (cond b (a.change ∷ at_port 1 others) (at_port 1 others))) one_ are.right in
            let l : rows_of_port 0 (sofar ++ a ∷ []) ≡ l0 = rows-push retract 0 sofar a ∙ ap (λ b. cond b (apply retract l0 a.change) l0) e in
            let r : rows_of_port 1 (sofar ++ a ∷ []) ≡ apply retract r0 a.change = rows-push retract 1 sofar a ∙ ap (λ b. cond b (apply retract r0 a.change) r0) one_ in
            record {
              step = inr (l, λ x. ap (λ (y : Rows). copies y x + removal x a.change) r ∙ copies-apply r0 a.change x rv.0);
              rest = record {
                known = are.known.1;
                left = subst (λ (x : Rows). IsValidFrom retract x (at_port 0 others)) (sym l) lv;
                right = subst (λ (x : Rows). IsValidFrom retract x (at_port 1 others)) (sym r) rv.1;
              };
            }
      ] refl

  -- a copy more, or a copy less, by whether the change adds
  one_copy : (x : Row) (change : Change) (old new : ℕ) → one_at row_cmp x change.row ≡ 1 → new + removal x change ≡ old + addition x change → ((adds change.kind ≡ true) × (new ≡ suc old)) ⊎ ((adds change.kind ≡ false) × (old ≡ suc new))
  one_copy x change old new e m =
      elim (adds change.kind) as (λ b. adds change.kind ≡ b → new + cond b 0 (one_at row_cmp x change.row) ≡ old + cond b (one_at row_cmp x change.row) 0 → ((b ≡ true) × (new ≡ suc old)) ⊎ ((b ≡ false) × (old ≡ suc new))) [
        | true ↦ λ q h. inl (refl, omega arith)
        | false ↦ λ q h. inr (refl, omega arith)
      ] refl m

  same_copies : (x : Row) (change : Change) (old new : ℕ) → one_at row_cmp x change.row ≡ 0 → new + removal x change ≡ old + addition x change → new ≡ old
  same_copies x change old new e m =
      elim (adds change.kind) as (λ b. new + cond b 0 (one_at row_cmp x change.row) ≡ old + cond b (one_at row_cmp x change.row) 0 → new ≡ old) [ true ↦ λ h. omega arith | false ↦ λ h. omega arith ] m

  -- of the change's row the number moves by one at most, and it falls only by a removal, or under EXCEPT
  pub record Numbered (sofar : List Arrival) (a : Arrival) : Type 0 where
    pub near : IsNear (number s sofar a.change.row) (number s (sofar ++ a ∷ []) a.change.row)
    pub falls : s.except ≡ false → adds a.change.kind ≡ true → number s sofar a.change.row ≤ number s (sofar ++ a ∷ []) a.change.row

  one_itself : (row : Row) → one_at row_cmp row row ≡ 1
  one_itself row = one_at_itself row_cmp row_total row

  module _ (sofar : List Arrival) (a : Arrival) where
    abbrev x : Row
    x = a.change.row

    abbrev m0 : ℕ
    m0 = copies (rows_of_port 0 sofar) x

    abbrev n0 : ℕ
    n0 = copies (rows_of_port 1 sofar) x

    abbrev m1 : ℕ
    m1 = copies (rows_of_port 0 (sofar ++ a ∷ [])) x

    abbrev n1 : ℕ
    n1 = copies (rows_of_port 1 (sofar ++ a ∷ [])) x

    left_step : n1 ≡ n0 → ((adds a.change.kind ≡ true) × (m1 ≡ suc m0)) ⊎ ((adds a.change.kind ≡ false) × (m0 ≡ suc m1)) → Numbered sofar a
    left_step same (inl more) =
        let w = left_more s.except s.all m0 n0 in
        let l = w.0 in let u = w.1 in
        let is : set_copies form m1 n1 ≡ set_copies form (suc m0) n0 = (λ i. set_copies form (more.1 i) (same i)) in
        record { near = record { up = omega arith; down = omega arith }; falls = λ e k. omega arith }
    left_step same (inr less) =
        let w = left_more s.except s.all m1 n1 in
        let l = w.0 in let u = w.1 in
        let is : set_copies form m0 n0 ≡ set_copies form (suc m1) n1 = (λ i. set_copies form (less.1 i) (sym same i)) in
        record { near = record { up = omega arith; down = omega arith }; falls = λ e k. absurd (let wrong : true ≡ false = sym k ∙ less.0 in cc) }

    right_step : m1 ≡ m0 → ((adds a.change.kind ≡ true) × (n1 ≡ suc n0)) ⊎ ((adds a.change.kind ≡ false) × (n0 ≡ suc n1)) → Numbered sofar a
    right_step same (inl more) =
        let w = right_more s.except s.all m0 n0 in
        let u = w.0.up in let d = w.0.down in
        let is : set_copies form m1 n1 ≡ set_copies form m0 (suc n0) = (λ i. set_copies form (same i) (more.1 i)) in
        record { near = record { up = omega arith; down = omega arith }; falls = λ e k. (let f = w.1 e in omega arith) }
    right_step same (inr less) =
        let w = right_more s.except s.all m1 n1 in
        let u = w.0.up in let d = w.0.down in
        let is : set_copies form m0 n0 ≡ set_copies form m1 (suc n1) = (λ i. set_copies form (sym same i) (less.1 i)) in
        record { near = record { up = omega arith; down = omega arith }; falls = λ e k. absurd (let wrong : true ≡ false = sym k ∙ less.0 in cc) }

    numbered_by : (Moves 0 sofar a × (rows_of_port 1 (sofar ++ a ∷ []) ≡ rows_of_port 1 sofar)) ⊎ ((rows_of_port 0 (sofar ++ a ∷ []) ≡ rows_of_port 0 sofar) × Moves 1 sofar a) → Numbered sofar a
    numbered_by (inl left) = left_step (ap (λ (r : Rows). copies r x) left.1) (one_copy x a.change m0 m1 (one_itself x) (left.0 x))
    numbered_by (inr right) = right_step (ap (λ (r : Rows). copies r x) right.0) (one_copy x a.change n0 n1 (one_itself x) (right.1 x))

  pub numbered : (sofar : List Arrival) (a : Arrival) (others : List Arrival) → Stepped sofar a others → Numbered sofar a
  numbered sofar a others st = numbered_by sofar a st.step

  -- of another row it stays
  number-elsewhere : (sofar : List Arrival) (a : Arrival) (others : List Arrival) → Stepped sofar a others → (x : Row) → one_at row_cmp x a.change.row ≡ 0 → number s (sofar ++ a ∷ []) x ≡ number s sofar x
  number-elsewhere sofar a others st x e = go st.step
    where
      go : (Moves 0 sofar a × (rows_of_port 1 (sofar ++ a ∷ []) ≡ rows_of_port 1 sofar)) ⊎ ((rows_of_port 0 (sofar ++ a ∷ []) ≡ rows_of_port 0 sofar) × Moves 1 sofar a) → number s (sofar ++ a ∷ []) x ≡ number s sofar x
      go (inl left) =
          let p = same_copies x a.change (copies (rows_of_port 0 sofar) x) (copies (rows_of_port 0 (sofar ++ a ∷ [])) x) e (left.0 x) in
          (λ i. set_copies form (p i) (copies (left.1 i) x))
      go (inr right) =
          let p = same_copies x a.change (copies (rows_of_port 1 sofar) x) (copies (rows_of_port 1 (sofar ++ a ∷ [])) x) e (right.1 x) in
          (λ i. set_copies form (copies (right.0 i) x) (p i))

  -- what is told of a change makes up for what it does to each row's number
  told_balance : (sofar : List Arrival) (a : Arrival) (others : List Arrival) → Stepped sofar a others → (x : Row)
      → additions x (set_tells s sofar a) + number s sofar x ≡ removals x (set_tells s sofar a) + number s (sofar ++ a ∷ []) x
  told_balance sofar a others st x =
      elim (eq_by_cmp row_cmp x a.change.row) as (λ b. eq_by_cmp row_cmp x a.change.row ≡ b → additions x (set_tells s sofar a) + number s sofar x ≡ removals x (set_tells s sofar a) + number s (sofar ++ a ∷ []) x) [
        | true ↦ λ e.
            let same : a.change.row ≡ x = sym (same_row-true x a.change.row e) in
            let at : additions a.change.row (set_tells s sofar a) + number s sofar a.change.row ≡ removals a.change.row (set_tells s sofar a) + number s (sofar ++ a ∷ []) a.change.row =
            told-here (number s sofar a.change.row) (number s (sofar ++ a ∷ []) a.change.row) a.change.row a.change.row (one_itself a.change.row) (numbered sofar a others st).near in
            subst (λ (r : Row). additions r (set_tells s sofar a) + number s sofar r ≡ removals r (set_tells s sofar a) + number s (sofar ++ a ∷ []) r) same at
        | false ↦ λ e.
            let apart : one_at row_cmp x a.change.row ≡ 0 = ap (λ b. cond b 1 0) e in
            let nothing = told-elsewhere (number s sofar a.change.row) (number s (sofar ++ a ∷ []) a.change.row) a.change.row x apart in
            let p = nothing.0 in let q = nothing.1 in
            let stays = number-elsewhere sofar a others st x apart in
            omega arith
      ] refl

  -- ---- along a history

  pub balance : (sofar others : List Arrival) → AreLeft sofar others → (x : Row)
      → additions x (set_emits s sofar others) + number s sofar x ≡ removals x (set_emits s sofar others) + number s (sofar ++ others) x
  balance sofar [] are x = let end : number s sofar x ≡ number s (sofar ++ []) x = ap (λ (b : List Arrival). number s b x) (sym (append-nil sofar)) in omega arith
  balance sofar (a ∷ others) are x =
      let st = stepped sofar a others are in
      let here = told_balance sofar a others st x in
      let rest = balance (sofar ++ a ∷ []) others st.rest x in
      let more = weigh-append (addition x) (set_tells s sofar a) (set_emits s (sofar ++ a ∷ []) others) in
      let less = weigh-append (removal x) (set_tells s sofar a) (set_emits s (sofar ++ a ∷ []) others) in
      let end : number s ((sofar ++ a ∷ []) ++ others) x ≡ number s (sofar ++ a ∷ others) x = ap (λ b. number s b x) (append_assoc sofar (a ∷ []) others) in
      omega arith

  none_at_first : (x : Row) → number s [] x ≡ 0
  none_at_first x = (λ i. set_copies form (copies-none row_total x i) (copies-none row_total x i)) ∙ none_left s.except s.all 0

  -- what was emitted stands for what the operation leaves
  pub emits_mean : (history : List Arrival) → AreLeft [] history → Means retract (set_emits s [] history) (set_rows form (rows_of_port 0 history) (rows_of_port 1 history))
  emits_mean history are row =
      let b = balance [] history are row in
      let z = none_at_first row in
      let c = copies-set_form s.except s.all (rows_of_port 0 history) (rows_of_port 1 history) row in
      omega arith

  -- ---- each change that is told

  -- where the row stood, or came to stand, after a front of what came; and why it is told
  pub record Told (history : List Arrival) (change : Change) : Type 0 where
    pub front : List Arrival
    pub back : List Arrival
    pub is : front ++ back ≡ history
    pub stands : 0 < number s front change.row
    pub kind : (change.kind ≡ I) ⊎ ((change.kind ≡ D) × ((s.except ≡ true) ⊎ ((before : List Arrival) × (a : Arrival) × (after : List Arrival) × (before ++ a ∷ after ≡ history) × (adds a.change.kind ≡ false))))

  told_each : (sofar : List Arrival) (a : Arrival) (others : List Arrival) → Stepped sofar a others → AllByRecursion (Told (sofar ++ a ∷ others)) (set_tells s sofar a)
  told_each sofar a others st =
      told-all (Told (sofar ++ a ∷ others)) (number s sofar a.change.row) (number s (sofar ++ a ∷ []) a.change.row) a.change.row
      (λ l. record { front = sofar ++ a ∷ []; back = others; is = append_assoc sofar (a ∷ []) others; stands = omega arith; kind = inl refl })
      (λ l. record { front = sofar; back = a ∷ others; is = refl; stands = omega arith; kind = inr (refl, why l s.except refl (adds a.change.kind) refl) })
    where
      why : number s (sofar ++ a ∷ []) a.change.row < number s sofar a.change.row → (except : Bool) → s.except ≡ except → (adding : Bool) → adds a.change.kind ≡ adding
          → (s.except ≡ true) ⊎ ((before : List Arrival) × (b : Arrival) × (after : List Arrival) × (before ++ b ∷ after ≡ sofar ++ a ∷ others) × (adds b.change.kind ≡ false))
      why l true e adding k = inl e
      why l false e true k = absurd (let f = (numbered sofar a others st).falls e k in omega arith)
      why l false e false k = inr (sofar, a, others, refl, k)

  all_append : (P : Change → Type 0) (xs ys : List Change) → AllByRecursion P xs → AllByRecursion P ys → AllByRecursion P (xs ++ ys)
  all_append P [] ys p q = q
  all_append P (x ∷ xs) ys p q = (p.0, all_append P xs ys p.1 q)

  pub all_told : (sofar others : List Arrival) → AreLeft sofar others → AllByRecursion (Told (sofar ++ others)) (set_emits s sofar others)
  all_told sofar [] are = tt
  all_told sofar (a ∷ others) are =
      let st = stepped sofar a others are in
      all_append (Told (sofar ++ a ∷ others)) (set_tells s sofar a) (set_emits s (sofar ++ a ∷ []) others)
      (told_each sofar a others st)
      (subst (λ h. AllByRecursion (Told h) (set_emits s (sofar ++ a ∷ []) others)) (append_assoc sofar (a ∷ []) others) (all_told (sofar ++ a ∷ []) others st.rest))
