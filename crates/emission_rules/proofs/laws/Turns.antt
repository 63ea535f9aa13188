-- Rows that are shown and taken away in turn, one at most for each group, and what the changes that tell it mean.
use Rattle.std.specs.Prelude.{◌↔◌}
use Rattle.std.proofs.Common.{◌≡◌, ℕ, zero, suc, ◌+◌, ◌<◌, ◌≤◌, Bool, true, false, cond, List, [], ◌∷◌, ◌++◌, length, take, Option, Some, None, refl, sym, ap, subst, ◌∙◌, arith}
use Rattle.std.specs.List.{AllByRecursion}
use Rattle.std.proofs.lemmas.Bool.{false≢true}
use Rattle.std.proofs.lemmas.List.{length-take-le}
use Rattle.ct_value.specs.Bag.{copies, one_at, none}
use Rattle.ct_value.proofs.laws.Bags.{one_at_itself, copies-none}
use Rattle.ct_value.specs.Order.{row_cmp, row_total}
use Rattle.ct_value.specs.Rows.{project}
use Rattle.ct_value.specs.declared.row.Row.{Row}
use Rattle.ct_change.specs.declared.kind.Kind.TheVariants.{I, UB, UA, D}
use Rattle.ct_change.specs.declared.change.Change.{Change}
use Rattle.ct_change.specs.Changelog.{Mode, append, retract, upsert, Rows, same_row, admits, adds, apply, addition, removal, additions, removals, IsValidFrom, last_shown, Means}
use Rattle.ct_change.specs.Emission.{emission, update}
use Rattle.ct_change.specs.KeyRows.{key_row, deleted}
use Rattle.ct_change.proofs.laws.KeyRows.{key_stays, length-key_row}
use Rattle.ct_change.proofs.laws.Meanings.{same_row-true, same_row-itself, copies-apply, prefixes_mean, valid-upsert}
use Rattle.rel_algebra.specs.GroupedCounts.{one_of}
use Rattle.op_rules.specs.Edges.{meaning_of, ReadsAs}

-- the row that is shown for each group
abbrev pub Shown : Type 0
Shown = Row → Option Row

abbrev pub nothing_shown : Shown
nothing_shown = λ key. None

module _ (keys : ℕ) where
  -- after one more change
  abbrev pub turned : Shown → Change → Shown
  turned shown change = λ key. cond (same_row key (take keys change.row)) (cond (adds change.kind) (Some change.row) None) (shown key)

  -- where changes are read as a bag a row comes where its group shows none, and goes where it is shown
  abbrev pub CanTurn : Mode → Shown → Change → Type 0
  CanTurn append shown change = shown (take keys change.row) ≡ cond (adds change.kind) None (Some change.row)
  CanTurn retract shown change = shown (take keys change.row) ≡ cond (adds change.kind) None (Some change.row)
  CanTurn (upsert key) shown change = admits (upsert key) change.kind ≡ true

  -- the changes lead from these rows to those, each in its turn, and each row names its group
  abbrev pub Turns : Mode → Shown → List Change → Shown → Type 0
  Turns mode shown [] last = shown ≡ last
  Turns mode shown (change ∷ changes) last = (keys ≤ length change.row) × CanTurn mode shown change × Turns mode (turned shown change) changes last

  pub turns-append : (mode : Mode) (a b c : Shown) (xs ys : List Change) → Turns mode a xs b → Turns mode b ys c → Turns mode a (xs ++ ys) c
  turns-append mode a b c [] ys t u = subst (λ s. Turns mode s ys c) (sym t) u
  turns-append mode a b c (x ∷ xs) ys t u = (t.0, t.1, turns-append mode (turned a x) b c xs ys t.2 u)

  pub turns-take : (mode : Mode) (a b : Shown) (n : ℕ) (xs : List Change) → Turns mode a xs b → (c : Shown) × Turns mode a (take n xs) c
  turns-take mode a b zero xs t = (a, refl)
  turns-take mode a b (suc n) [] t = (a, refl)
  turns-take mode a b (suc n) (x ∷ xs) t = let rest = turns-take mode (turned a x) b n xs t.2 in (rest.0, (t.0, t.1, rest.1))

  -- ---- what they mean, as a bag

  -- how often a row is shown
  abbrev pub shown_in : Shown → Row → ℕ
  shown_in shown row = one_of (shown (take keys row)) row

  apart : (a b : Row) → same_row (take keys a) (take keys b) ≡ false → same_row a b ≡ false
  apart a b e =
      elim (same_row a b) as (λ c. same_row a b ≡ c → c ≡ false) [
        | true ↦ λ q. absurd (false≢true (sym e ∙ (ap (λ r. same_row (take keys a) (take keys r)) (sym (same_row-true a b q)) ∙ same_row-itself (take keys a))))
        | false ↦ λ q. refl
      ] refl

  no_more : (b : Bool) → ◌≡◌ {A = ℕ} (cond b 0 0) 0
  no_more true = refl
  no_more false = refl

  turn_means : (shown : Shown) (change : Change) (row : Row) → shown (take keys change.row) ≡ cond (adds change.kind) None (Some change.row)
      → addition row change + shown_in shown row ≡ removal row change + shown_in (turned shown change) row
  turn_means shown change row can =
      elim (same_row (take keys row) (take keys change.row)) as (λ b. same_row (take keys row) (take keys change.row) ≡ b → addition row change + one_of (shown (take keys row)) row ≡ removal row change + one_of (cond b (cond (adds change.kind) (Some change.row) None) (shown (take keys row))) row) [
        | true ↦ λ e.
            let was : shown (take keys row) ≡ cond (adds change.kind) None (Some change.row) = ap shown (same_row-true _ _ e) ∙ can in
            rw was (elim (adds change.kind) as (λ b. cond b (one_at row_cmp row change.row) 0 + one_of (cond b None (Some change.row)) row ≡ cond b 0 (one_at row_cmp row change.row) + one_of (cond b (Some change.row) None) row) [ true ↦ omega arith | false ↦ omega arith ])
        | false ↦ λ e.
            let other : same_row row change.row ≡ false = apart row change.row e in
            let come : addition row change ≡ 0 = ap (λ b. cond (adds change.kind) (cond b 1 0) 0) other ∙ no_more (adds change.kind) in
            let gone : removal row change ≡ 0 = ap (λ b. cond (adds change.kind) 0 (cond b 1 0)) other ∙ no_more (adds change.kind) in
            omega arith
      ] refl

  turns_mean : (a b : Shown) (changes : List Change) → Turns retract a changes b → (row : Row) → additions row changes + shown_in a row ≡ removals row changes + shown_in b row
  turns_mean a b [] t row = ap (λ s. 0 + shown_in s row) t
  turns_mean a b (change ∷ changes) t row =
      let here = turn_means a change row t.1 in
      let rest = turns_mean (turned a change) b changes t.2 row in
      omega arith

  -- they are valid where these rows stand
  valid_turns : (rows : Rows) (a b : Shown) (changes : List Change) → ((row : Row) → copies rows row ≡ shown_in a row) → Turns retract a changes b → IsValidFrom retract rows changes
  valid_turns rows a b [] are t = tt
  valid_turns rows a b (change ∷ changes) are t =
      let may : adds change.kind ≡ false → 0 < copies rows change.row =
      λ e. let is : a (take keys change.row) ≡ Some change.row = t.1 ∙ ap (λ b. cond b None (Some change.row)) e in
      let one : shown_in a change.row ≡ 1 = ap (λ o. one_of o change.row) is ∙ one_at_itself row_cmp row_total change.row in
      let at = are change.row in omega arith in
      (may, valid_turns (apply retract rows change) (turned a change) b changes (λ row. let c = copies-apply rows change row may in let m = turn_means a change row t.1 in let k = are row in omega arith) t.2)

  -- ---- and as last rows

  length-take-most : (n : ℕ) (row : Row) → length (take n row) ≤ length row
  length-take-most zero row = omega arith
  length-take-most (suc n) [] = omega arith
  length-take-most (suc n) (x ∷ row) = let rest = length-take-most n row in omega arith

  -- what is shown for a group names it
  abbrev pub AreNamed : Shown → Type 0
  AreNamed shown = (key row : Row) → shown key ≡ Some row → (take keys row ≡ key) × (keys ≤ length row)

  some_is : (a b : Row) → (let o : Option Row = Some a in o ≡ Some b) → a ≡ b
  some_is a b e = cc

  named-turned : (shown : Shown) (change : Change) → keys ≤ length change.row → AreNamed shown → AreNamed (turned shown change)
  named-turned shown change wide named key row =
      elim (same_row key (take keys change.row)) as (λ b. same_row key (take keys change.row) ≡ b → cond b (cond (adds change.kind) (Some change.row) None) (shown key) ≡ Some row → (take keys row ≡ key) × (keys ≤ length row)) [
        | true ↦ λ s. elim (adds change.kind) as (λ b. cond b (Some change.row) None ≡ Some row → (take keys row ≡ key) × (keys ≤ length row)) [
          | true ↦ λ e. let is = some_is change.row row e in (ap (take keys) (sym is) ∙ sym (same_row-true _ _ s), subst (λ r. keys ≤ length r) is wide)
          | false ↦ λ e. absurd (cc)
        ]
        | false ↦ λ s e. named key row e
      ] refl

  named-nothing : AreNamed nothing_shown
  named-nothing key row e = absurd (cc)

  one_of-some : (o : Option Row) (row : Row) → 0 < one_of o row → o ≡ Some row
  one_of-some None row some = absurd (omega arith)
  one_of-some (Some other) row some = elim (same_row row other) as (λ b. same_row row other ≡ b → 0 < cond b 1 0 → Some other ≡ Some row) [ true ↦ λ e h. ap Some (sym (same_row-true row other e)) | false ↦ λ e h. absurd (omega arith) ] refl some

  pub one_of-le : (o : Option Row) (row : Row) → one_of o row ≤ 1
  one_of-le None row = omega arith
  one_of-le (Some other) row = elim (same_row row other) as (λ s. cond {A = ℕ} s 1 0 ≤ 1) [ true ↦ omega arith | false ↦ omega arith ]

  none_above : (n : ℕ) → (0 < n → ⊥) → n ≡ 0
  none_above zero h = refl
  none_above (suc n) h = absurd (h (omega arith))

  -- a row that is shown is that of its group
  pub is_shown_row : (shown : Shown) (row : Row) → 0 < shown_in shown row → shown (take keys row) ≡ Some row
  is_shown_row shown row some = one_of-some (shown (take keys row)) row some

  module _ (columns : List ℕ) (tells : (a b : Row) → keys ≤ length a → keys ≤ length b → (project columns a ≡ project columns b) ↔ (take keys a ≡ take keys b)) where
    last_turn : (shown : Shown) (change : Change) (row : Row) → AreNamed shown → keys ≤ length change.row
        → cond (same_row (project columns change.row) (project columns row)) (addition row change) (shown_in shown row) ≡ shown_in (turned shown change) row
    last_turn shown change row named wide =
        elim (same_row (take keys row) (take keys change.row)) as (λ b. same_row (take keys row) (take keys change.row) ≡ b → cond (same_row (project columns change.row) (project columns row)) (addition row change) (shown_in shown row) ≡ one_of (cond b (cond (adds change.kind) (Some change.row) None) (shown (take keys row))) row) [
          | true ↦ λ e.
              let group : take keys row ≡ take keys change.row = same_row-true _ _ e in
              let row_wide : keys ≤ length row = long row (ap length group ∙ length-take-le keys change.row wide) in
              let hit : same_row (project columns change.row) (project columns row) ≡ true = ap (same_row (project columns change.row)) ((tells row change.row row_wide wide).1 group) ∙ same_row-itself (project columns change.row) in
              ap (λ b. cond b (addition row change) (shown_in shown row)) hit
              ∙ elim (adds change.kind) as (λ b. cond b (one_at row_cmp row change.row) 0 ≡ one_of (cond b (Some change.row) None) row) [ true ↦ refl | false ↦ refl ]
          | false ↦ λ e.
              elim (same_row (project columns change.row) (project columns row)) as (λ b. same_row (project columns change.row) (project columns row) ≡ b → cond b (addition row change) (shown_in shown row) ≡ shown_in shown row) [
                | true ↦ λ h.
                    let other : same_row row change.row ≡ false = apart row change.row e in
                    let come : addition row change ≡ 0 = ap (λ b. cond (adds change.kind) (cond b 1 0) 0) other ∙ no_more (adds change.kind) in
                    let none_there : shown_in shown row ≡ 0 = none_above (shown_in shown row) (λ some.
                    let is = named (take keys row) row (is_shown_row shown row some) in
                    let group : take keys row ≡ take keys change.row = (tells row change.row is.1 wide).0 (sym (same_row-true _ _ h)) in
                    false≢true (sym e ∙ ap (same_row (take keys row)) (sym group) ∙ same_row-itself (take keys row))) in
                    come ∙ sym none_there
                | false ↦ λ h. refl
              ] refl
        ] refl
      where
        long : (row : Row) → length (take keys row) ≡ keys → keys ≤ length row
        long row e = omega (arith, e, length-take-most keys row)

    last_turns : (a b : Shown) (changes : List Change) → AreNamed a → Turns (upsert columns) a changes b → (row : Row) → last_shown columns row (shown_in a row) changes ≡ shown_in b row
    last_turns a b [] named t row = ap (λ s. shown_in s row) t
    last_turns a b (change ∷ changes) named t row =
        ap (λ n. last_shown columns row n changes) (last_turn a change row named t.0)
        ∙ last_turns (turned a change) b changes (named-turned a change t.0 named) t.2 row

  -- ---- in each mode

  as_bag : (a b : Shown) (changes : List Change) → Turns append a changes b → Turns retract a changes b
  as_bag a b [] t = t
  as_bag a b (change ∷ changes) t = (t.0, t.1, as_bag (turned a change) b changes t.2)

  named_turns : (mode : Mode) (a b : Shown) (changes : List Change) → AreNamed a → Turns mode a changes b → AreNamed b
  named_turns mode a b [] named t = subst AreNamed t named
  named_turns mode a b (change ∷ changes) named t = named_turns mode (turned a change) b changes (named-turned a change t.0 named) t.2

  -- the key of an upsert changelog names the group
  abbrev pub Names : Mode → Type 0
  Names append = Unit {0}
  Names retract = Unit {0}
  Names (upsert columns) = (a b : Row) → keys ≤ length a → keys ≤ length b → (project columns a ≡ project columns b) ↔ (take keys a ≡ take keys b)

  bag_means : (last : Shown) (sent : List Change) → Turns retract nothing_shown sent last → (rows : Rows) → ((row : Row) → copies rows row ≡ shown_in last row) → Means retract sent rows
  bag_means last sent t rows are row = let m = turns_mean nothing_shown last sent t row in let a = are row in omega arith

  -- rows that stand as they are shown at last are what the changes stand for
  pub turns_read : (mode : Mode) → Names mode → (last : Shown) (sent : List Change) → Turns mode nothing_shown sent last → (rows : Rows) → ((row : Row) → copies rows row ≡ shown_in last row) → ReadsAs (meaning_of mode) sent rows
  turns_read append names last sent t rows are = bag_means last sent (as_bag nothing_shown last sent t) rows are
  turns_read retract names last sent t rows are = bag_means last sent t rows are
  turns_read (upsert columns) names last sent t rows are = λ row. are row ∙ sym (last_turns columns names nothing_shown last sent named-nothing t row)

  bag_shown : (last : Shown) (sent : List Change) → Turns retract nothing_shown sent last → (rows : Rows) → Means retract sent rows → (row : Row) → copies rows row ≡ shown_in last row
  bag_shown last sent t rows means row = let m = turns_mean nothing_shown last sent t row in let a = means row in omega arith

  reads_shown : (mode : Mode) → Names mode → (last : Shown) (sent : List Change) → Turns mode nothing_shown sent last → (rows : Rows) → ReadsAs (meaning_of mode) sent rows → (row : Row) → copies rows row ≡ shown_in last row
  reads_shown append names last sent t rows reads = bag_shown last sent (as_bag nothing_shown last sent t) rows reads
  reads_shown retract names last sent t rows reads = bag_shown last sent t rows reads
  reads_shown (upsert columns) names last sent t rows reads = λ row. reads row ∙ last_turns columns names nothing_shown last sent named-nothing t row

  -- what each prefix stands for is what is shown there
  pub prefix_shown : (mode : Mode) → Names mode → (last : Shown) (sent : List Change) → Turns mode nothing_shown sent last → (n : ℕ) (rows : Rows) → ReadsAs (meaning_of mode) (take n sent) rows
      → (shown : Shown) × AreNamed shown × ((row : Row) → copies rows row ≡ shown_in shown row)
  prefix_shown mode names last sent t n rows reads =
      let front = turns-take mode nothing_shown last n sent t in
      (front.0, named_turns mode nothing_shown front.0 (take n sent) named-nothing front.1, reads_shown mode names front.0 (take n sent) front.1 rows reads)

  bag_prefix : (last : Shown) (sent : List Change) → Turns retract nothing_shown sent last → (n : ℕ) → (rows : Rows) × Means retract (take n sent) rows
  bag_prefix last sent t n = prefixes_mean retract sent (valid_turns none nothing_shown last sent (λ row. copies-none row_total row) t) n

  admitted : (key : List ℕ) (a b : Shown) (changes : List Change) → Turns (upsert key) a changes b → AllByRecursion (λ change. admits (upsert key) change.kind ≡ true) changes
  admitted key a b [] t = tt
  admitted key a b (change ∷ changes) t = (t.1, admitted key (turned a change) b changes t.2)

  -- each prefix stands for some rows
  pub prefix_stands : (mode : Mode) (last : Shown) (sent : List Change) → Turns mode nothing_shown sent last → (n : ℕ) → (rows : Rows) × ReadsAs (meaning_of mode) (take n sent) rows
  prefix_stands append last sent t n = bag_prefix last sent (as_bag nothing_shown last sent t) n
  prefix_stands retract last sent t n = bag_prefix last sent t n
  prefix_stands (upsert key) last sent t n = prefixes_mean (upsert key) sent (valid-upsert key none sent (admitted key nothing_shown last sent t)) n

  -- ---- one emission

  -- the row is of the group
  abbrev pub IsOf : Row → Option Row → Type 0
  IsOf key None = Unit {0}
  IsOf key (Some row) = (take keys row ≡ key) × (keys ≤ length row)

  -- so is the row by which a mode tells that it went
  pub is_told : (mode : Mode) → Names mode → (key row : Row) → IsOf key (Some row) → IsOf key (Some (deleted mode row))
  is_told append names key row is = is
  is_told retract names key row is = is
  is_told (upsert columns) names key row is =
      let wide : keys ≤ length (key_row columns row) = (let e = length-key_row columns row in let w = is.1 in omega arith) in
      ((names (key_row columns row) row wide is.1).0 (key_stays columns row) ∙ is.0, wide)

  -- an append changelog tells no row that changes or goes
  abbrev pub CanShow : Mode → Option Row → Option Row → Type 0
  CanShow append old fresh = (row : Row) → old ≡ Some row → fresh ≡ Some row
  CanShow retract old fresh = Unit {0}
  CanShow (upsert key) old fresh = Unit {0}

  -- another row shown for one group
  abbrev pub shown_at : Shown → Row → Option Row → Shown
  shown_at shown key result = λ other. cond (same_row other key) result (shown other)

  pub same_shown : (a b : Shown) → ((key : Row) → a key ≡ b key) → a ≡ b
  same_shown a b h = λ i key. h key i

  stays : (shown : Shown) (key : Row) (result : Option Row) → shown key ≡ result → shown ≡ shown_at shown key result
  stays shown key result e = same_shown _ _ (λ other.
      elim (same_row other key) as (λ b. same_row other key ≡ b → shown other ≡ cond b result (shown other)) [
        | true ↦ λ q. ap shown (same_row-true other key q) ∙ e
        | false ↦ λ q. refl
      ] refl)

  turn-here : (shown : Shown) (key : Row) (change : Change) → take keys change.row ≡ key → turned shown change ≡ shown_at shown key (cond (adds change.kind) (Some change.row) None)
  turn-here shown key change e = same_shown _ _ (λ other. ap (λ k. cond (same_row other k) (cond (adds change.kind) (Some change.row) None) (shown other)) e)

  bag_emission : (shown : Shown) (key : Row) (old fresh : Option Row) → IsOf key old → IsOf key fresh → shown key ≡ old → Turns retract shown (emission retract old fresh) (shown_at shown key fresh)
  bag_emission shown key None None p q e = stays shown key None e
  bag_emission shown key None (Some fresh) p q e = (q.1, ap shown q.0 ∙ e, turn-here shown key (record { kind = I; row = fresh }) q.0)
  bag_emission shown key (Some old) None p q e = (p.1, ap shown p.0 ∙ e, turn-here shown key (record { kind = D; row = old }) p.0)
  bag_emission shown key (Some old) (Some fresh) p q e =
      elim (same_row old fresh) as (λ b. same_row old fresh ≡ b → Turns retract shown (cond b [] (update retract old fresh)) (shown_at shown key (Some fresh))) [
        | true ↦ λ s. stays shown key (Some fresh) (e ∙ ap Some (same_row-true old fresh s))
        | false ↦ λ s.
            let gone : Change = record { kind = UB; row = old } in
            let come : Change = record { kind = UA; row = fresh } in
            let free : turned shown gone (take keys fresh) ≡ None = ap (λ b. cond b None (shown (take keys fresh))) (ap (same_row (take keys fresh)) (p.0 ∙ sym q.0) ∙ same_row-itself (take keys fresh)) in (
              p.1,
              ap shown p.0 ∙ e,
              (
                q.1,
                free,
                turn-here (turned shown gone) key come q.0 ∙ same_shown _ _ (λ other.
                    elim (same_row other key) as (λ b. same_row other key ≡ b → cond b (Some fresh) (cond (same_row other (take keys old)) None (shown other)) ≡ cond b (Some fresh) (shown other)) [
                      | true ↦ λ r. refl
                      | false ↦ λ r. ap (λ b. cond b None (shown other)) (ap (same_row other) p.0 ∙ r)
                    ] refl),
              ),
            )
      ] refl

  upsert_emission : (columns : List ℕ) → Names (upsert columns) → (shown : Shown) (key : Row) (old fresh : Option Row) → IsOf key old → IsOf key fresh → shown key ≡ old → Turns (upsert columns) shown (emission (upsert columns) old fresh) (shown_at shown key fresh)
  upsert_emission columns names shown key None None p q e = stays shown key None e
  upsert_emission columns names shown key None (Some fresh) p q e = (q.1, refl, turn-here shown key (record { kind = I; row = fresh }) q.0)
  upsert_emission columns names shown key (Some old) None p q e =
      let is = is_told (upsert columns) names key old p in
      (is.1, refl, turn-here shown key (record { kind = D; row = key_row columns old }) is.0)
  upsert_emission columns names shown key (Some old) (Some fresh) p q e =
      elim (same_row old fresh) as (λ b. same_row old fresh ≡ b → Turns (upsert columns) shown (cond b [] (update (upsert columns) old fresh)) (shown_at shown key (Some fresh))) [
        | true ↦ λ s. stays shown key (Some fresh) (e ∙ ap Some (same_row-true old fresh s))
        | false ↦ λ s. (q.1, refl, turn-here shown key (record { kind = UA; row = fresh }) q.0)
      ] refl

  append_emission : (shown : Shown) (key : Row) (old fresh : Option Row) → IsOf key old → IsOf key fresh → CanShow append old fresh → shown key ≡ old → Turns append shown (emission append old fresh) (shown_at shown key fresh)
  append_emission shown key None None p q can e = stays shown key None e
  append_emission shown key None (Some fresh) p q can e = (q.1, ap shown q.0 ∙ e, turn-here shown key (record { kind = I; row = fresh }) q.0)
  append_emission shown key (Some old) None p q can e = absurd (let is = can old refl in cc)
  append_emission shown key (Some old) (Some fresh) p q can e =
      let same : Some old ≡ Some fresh = sym (can old refl) in
      elim (same_row old fresh) as (λ b. Turns append shown (cond b [] []) (shown_at shown key (Some fresh))) [ true ↦ stays shown key (Some fresh) (e ∙ same) | false ↦ stays shown key (Some fresh) (e ∙ same) ]

  pub turns_emission : (mode : Mode) → Names mode → (shown : Shown) (key : Row) (old fresh : Option Row) → IsOf key old → IsOf key fresh → CanShow mode old fresh → shown key ≡ old → Turns mode shown (emission mode old fresh) (shown_at shown key fresh)
  turns_emission append names shown key old fresh p q can e = append_emission shown key old fresh p q can e
  turns_emission retract names shown key old fresh p q can e = bag_emission shown key old fresh p q e
  turns_emission (upsert columns) names shown key old fresh p q can e = upsert_emission columns names shown key old fresh p q e
