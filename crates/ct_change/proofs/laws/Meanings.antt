-- What a list of changes means is what it folds to, and a list is valid where each prefix of it means something.
use Rattle.std.proofs.Common.{◌≡◌, ℕ, zero, suc, ◌+◌, ◌≤◌, ◌<◌, ◌==◌, Bool, true, false, cond, List, [], ◌∷◌, take, Option, Some, None, refl, sym, ap, subst, ◌∙◌, arith}
use Rattle.std.specs.List.{find, AllByRecursion}
use Rattle.std.proofs.lemmas.Bool.{eqb-true, eqb-false}
use Rattle.std.specs.Cmp.{Equal-is, tied_itself}
use Rattle.ct_value.specs.Bag.{items, copies, none, add, remove, total, weigh, one_at}
use Rattle.ct_value.proofs.laws.Bags.{one_at_itself, copies-none, copies-add, copies-remove, copies-occurs, same_bag, total-none, total-add, total-remove}
use Rattle.ct_value.specs.Order.{row_cmp, row_total, row_exact}
use Rattle.ct_value.specs.Rows.{project}
use Rattle.ct_value.specs.declared.row.Row.{Row}
use Rattle.ct_change.specs.declared.change.Change.{Change}
use Rattle.ct_change.specs.Changelog.{Mode, append, retract, upsert, Rows, same_row, adds, admits, apply, fold_from, fold, row_at, without, MayCome, IsValidFrom, IsValid, addition, removal, additions, removals, last_shown, Means}
use Rattle.ct_change.proofs.laws.Folds.{append_only, row_at-stands, row_at-key}

-- ---- rows that are one, and rows that agree on a key

pub same_row-true : (a b : Row) → same_row a b ≡ true → a ≡ b
same_row-true a b e = row_exact a b ((Equal-is (row_cmp a b)).0 e)

pub same_row-itself : (a : Row) → same_row a a ≡ true
same_row-itself a = (Equal-is (row_cmp a a)).1 (tied_itself row_total a)

-- 1 where the rows agree on the key
abbrev pub in_key : List ℕ → Row → Row → ℕ
in_key key row other = cond (same_row (project key row) (project key other)) 1 0

-- ---- one more change

-- what one change makes of the copies of a row
pub copies-apply : (rows : Rows) (change : Change) (row : Row) → MayCome retract rows change → copies (apply retract rows change) row + removal row change ≡ copies rows row + addition row change
copies-apply rows change row may =
    elim (adds change.kind) as (λ t. adds change.kind ≡ t → copies (cond t (add rows change.row) (remove rows change.row)) row + cond t 0 (one_at row_cmp row change.row) ≡ copies rows row + cond t (one_at row_cmp row change.row) 0) [
      | true ↦ λ e. omega (arith, copies-add row_total rows change.row row)
      | false ↦ λ e. omega (arith, copies-remove row_total row_exact rows change.row row (may e))
    ] refl

copies-append : (rows : Rows) (change : Change) (row : Row) → MayCome append rows change → copies (apply append rows change) row + removal row change ≡ copies rows row + addition row change
copies-append rows change row may =
    let is : adds change.kind ≡ true = append_only change.kind may in
    rw is (omega (arith, copies-add row_total rows change.row row))

-- ---- append and retract: a list means its fold

means_from-append : (rows : Rows) (changes : List Change) → IsValidFrom append rows changes → (row : Row) → additions row changes + copies rows row ≡ removals row changes + copies (fold_from append rows changes) row
means_from-append rows [] valid row = refl
means_from-append rows (change ∷ changes) valid row =
    let e = copies-append rows change row valid.0 in
    let rest = means_from-append (apply append rows change) changes valid.1 row in
    omega arith

means_from-retract : (rows : Rows) (changes : List Change) → IsValidFrom retract rows changes → (row : Row) → additions row changes + copies rows row ≡ removals row changes + copies (fold_from retract rows changes) row
means_from-retract rows [] valid row = refl
means_from-retract rows (change ∷ changes) valid row =
    let e = copies-apply rows change row valid.0 in
    let rest = means_from-retract (apply retract rows change) changes valid.1 row in
    omega arith

-- ---- upsert: no key has two rows, and so the last row of a key is what stands

weigh-le : (f g : Row → ℕ) → ((row : Row) → f row ≤ g row) → (xs : List Row) → weigh f xs ≤ weigh g xs
weigh-le f g h [] = omega arith
weigh-le f g h (x ∷ xs) = omega (arith, h x, weigh-le f g h xs)

none_weighs : (p : Row → Bool) (xs : List Row) → find p xs ≡ None → weigh (λ row. cond (p row) 1 0) xs ≡ 0
none_weighs p [] e = refl
none_weighs p (x ∷ xs) e =
    elim (p x) as (λ b. cond b (Some x) (find p xs) ≡ None → cond b 1 0 + weigh (λ row. cond (p row) 1 0) xs ≡ 0) [
      | true ↦ λ h. absurd (cc)
      | false ↦ λ h. omega (arith, none_weighs p xs h)
    ] e

-- no key has two rows
abbrev pub IsOnce : List ℕ → Rows → Type 0
IsOnce key rows = (row : Row) → total (in_key key row) rows ≤ 1

one_at-le : (key : List ℕ) (row other : Row) → one_at row_cmp row other ≤ in_key key row other
one_at-le key row other =
    elim (same_row row other) as (λ b. same_row row other ≡ b → cond b 1 0 ≤ in_key key row other) [
      | true ↦ λ e. let same = same_row-true row other e in
          let one : in_key key row other ≡ 1 = ap (λ r. in_key key row r) (sym same) ∙ ap (λ b. cond b 1 0) (same_row-itself (project key row)) in omega arith
      | false ↦ λ e. omega arith
    ] refl

module _ (key : List ℕ) (rows : Rows) (once : IsOnce key rows) (change : Change) where
  abbrev others : Rows
  others = without rows (row_at rows key change.row)

  -- what is taken out weighs
  taken : (f : Row → ℕ) (o : Option Row) → row_at rows key change.row ≡ o → total f (without rows o) ≤ total f rows
  taken f None e = omega arith
  taken f (Some old) e = omega (arith, total-remove row_total row_exact f rows old (row_at-stands rows key change.row old e))

  -- nothing of the change's key is left
  key_gone : (o : Option Row) → row_at rows key change.row ≡ o → total (in_key key change.row) (without rows o) ≡ 0
  key_gone None e = none_weighs (λ other. same_row (project key change.row) (project key other)) (items rows) e
  key_gone (Some old) e =
      let agrees : in_key key change.row old ≡ 1 = ap (λ k. cond (same_row (project key change.row) k) 1 0) (sym (row_at-key rows key change.row old e)) ∙ ap (λ b. cond b 1 0) (same_row-itself (project key change.row)) in
      omega (arith, total-remove row_total row_exact (in_key key change.row) rows old (row_at-stands rows key change.row old e), once change.row)

  -- rows of other keys stay
  other_stays : (row : Row) → same_row (project key change.row) (project key row) ≡ false → (o : Option Row) → row_at rows key change.row ≡ o → copies (without rows o) row ≡ copies rows row
  other_stays row apart None e = refl
  other_stays row apart (Some old) e =
      let here : one_at row_cmp row old ≡ 0 =
      elim (same_row row old) as (λ b. same_row row old ≡ b → cond {A = ℕ} b 1 0 ≡ 0) [
        | true ↦ λ t. absurd (let k : project key change.row ≡ project key row = row_at-key rows key change.row old e ∙ ap (project key) (sym (same_row-true row old t)) in
            let yes_ : same_row (project key change.row) (project key row) ≡ true = ap (λ k. same_row k (project key row)) k ∙ same_row-itself (project key row) in cc)
        | false ↦ λ t. refl
      ] refl in
      omega (arith, copies-remove row_total row_exact rows old row (row_at-stands rows key change.row old e))

  apply-total : (f : Row → ℕ) → total f (apply (upsert key) rows change) ≡ cond (adds change.kind) (f change.row) 0 + total f others
  apply-total f =
      elim (adds change.kind) as (λ t. total f (cond t (add others change.row) others) ≡ cond t (f change.row) 0 + total f others) [
        | true ↦ total-add row_total f others change.row
        | false ↦ omega arith
      ]

  cond-le : (t : Bool) (n : ℕ) → cond t n 0 ≤ n
  cond-le true n = omega arith
  cond-le false n = omega arith

  in_key-le : (row other : Row) → in_key key row other ≤ 1
  in_key-le row other = cond-le (same_row (project key row) (project key other)) 1

  pub once_after : IsOnce key (apply (upsert key) rows change)
  once_after row =
      elim (same_row (project key row) (project key change.row)) as (λ b. same_row (project key row) (project key change.row) ≡ b → total (in_key key row) (apply (upsert key) rows change) ≤ 1) [
        | true ↦ λ e.
            let same : total (in_key key row) others ≡ total (in_key key change.row) others = ap (λ k. total (λ other. cond (same_row k (project key other)) 1 0) others) (same_row-true _ _ e) in
            omega (arith, apply-total (in_key key row), key_gone (row_at rows key change.row) refl, cond-le (adds change.kind) (in_key key row change.row), in_key-le row change.row)
        | false ↦ λ e.
            let nothing : in_key key row change.row ≡ 0 = ap (λ b. cond b 1 0) e in
            omega (arith, apply-total (in_key key row), taken (in_key key row) (row_at rows key change.row) refl, once row, cond-le (adds change.kind) (in_key key row change.row))
      ] refl

  pub copies-upsert : (row : Row) → copies (apply (upsert key) rows change) row ≡ cond (same_row (project key change.row) (project key row)) (addition row change) (copies rows row)
  copies-upsert row =
      let whole : copies (apply (upsert key) rows change) row ≡ addition row change + copies others row =
      copies-occurs (apply (upsert key) rows change) row ∙ apply-total (one_at row_cmp row) ∙ ap (λ n. addition row change + n) (sym (copies-occurs others row)) in
      elim (same_row (project key change.row) (project key row)) as (λ b. same_row (project key change.row) (project key row) ≡ b → copies (apply (upsert key) rows change) row ≡ cond b (addition row change) (copies rows row)) [
        | true ↦ λ e.
            let below = weigh-le (one_at row_cmp row) (in_key key row) (one_at-le key row) (items others) in
            let same : total (in_key key row) others ≡ total (in_key key change.row) others = ap (λ k. total (λ other. cond (same_row k (project key other)) 1 0) others) (sym (same_row-true _ _ e)) in
            omega (arith, whole, copies-occurs others row, key_gone (row_at rows key change.row) refl)
        | false ↦ λ e.
            let apart : one_at row_cmp row change.row ≡ 0 =
            elim (same_row row change.row) as (λ b. same_row row change.row ≡ b → cond {A = ℕ} b 1 0 ≡ 0) [
              | true ↦ λ t. absurd (let yes_ : same_row (project key change.row) (project key row) ≡ true = ap (λ r. same_row (project key change.row) (project key r)) (same_row-true row change.row t) ∙ same_row-itself (project key change.row) in cc)
              | false ↦ λ t. refl
            ] refl in
            omega (arith, whole, other_stays row e (row_at rows key change.row) refl, cond-le (adds change.kind) (one_at row_cmp row change.row))
      ] refl

means_from-upsert : (key : List ℕ) (rows : Rows) (changes : List Change) → IsOnce key rows → (row : Row) → copies (fold_from (upsert key) rows changes) row ≡ last_shown key row (copies rows row) changes
means_from-upsert key rows [] once row = refl
means_from-upsert key rows (change ∷ changes) once row =
    means_from-upsert key (apply (upsert key) rows change) changes (once_after key rows once change) row
    ∙ ap (λ n. last_shown key row n changes) (copies-upsert key rows once change row)

-- ---- what a list means

-- a valid list means its fold
pub means_fold : (mode : Mode) (changes : List Change) → IsValid mode changes → Means mode changes (fold mode changes)
means_fold append changes valid = λ row. let e = means_from-append none changes valid row in omega (arith, copies-none row_total row)
means_fold retract changes valid = λ row. let e = means_from-retract none changes valid row in omega (arith, copies-none row_total row)
means_fold (upsert key) changes valid = λ row.
    means_from-upsert key none changes (λ other. let e = total-none row_total (in_key key other) in omega arith) row
    ∙ ap (λ n. last_shown key row n changes) (copies-none row_total row)

-- a list means one bag
pub means_one : (mode : Mode) (changes : List Change) (a b : Rows) → Means mode changes a → Means mode changes b → a ≡ b
means_one append changes a b m n = same_bag row_total row_exact a b (λ row. omega (arith, m row, n row))
means_one retract changes a b m n = same_bag row_total row_exact a b (λ row. omega (arith, m row, n row))
means_one (upsert key) changes a b m n = same_bag row_total row_exact a b (λ row. m row ∙ sym (n row))

-- what a valid list means is its fold
pub fold_means : (mode : Mode) (changes : List Change) (rows : Rows) → IsValid mode changes → Means mode changes rows → rows ≡ fold mode changes
fold_means mode changes rows valid means = means_one mode changes rows (fold mode changes) means (means_fold mode changes valid)

pub IsValidFrom-take : (mode : Mode) (rows : Rows) (n : ℕ) (changes : List Change) → IsValidFrom mode rows changes → IsValidFrom mode rows (take n changes)
IsValidFrom-take mode rows zero changes valid = tt
IsValidFrom-take mode rows (suc n) [] valid = tt
IsValidFrom-take mode rows (suc n) (change ∷ changes) valid = (valid.0, IsValidFrom-take mode (apply mode rows change) n changes valid.1)

-- each prefix of a valid list means its fold
pub prefixes_mean : (mode : Mode) (changes : List Change) → IsValid mode changes → (n : ℕ) → (rows : Rows) × Means mode (take n changes) rows
prefixes_mean mode changes valid n = (fold mode (take n changes), means_fold mode (take n changes) (IsValidFrom-take mode none n changes valid))

-- ---- a list each of whose prefixes means some bag is valid

abbrev StandFrom : Rows → List Change → Type 0
StandFrom rows changes = (n : ℕ) → (left : Rows) × ((row : Row) → additions row (take n changes) + copies rows row ≡ removals row (take n changes) + copies left row)

valid_from : (rows : Rows) (changes : List Change) → StandFrom rows changes → IsValidFrom retract rows changes
valid_from rows [] stand = tt
valid_from rows (change ∷ changes) stand =
    let may : MayCome retract rows change = λ e.
    let after = (stand 1).1 change.row in
    let a : addition change.row change ≡ 0 = ap (λ t. cond t (one_at row_cmp change.row change.row) 0) e in
    let r : removal change.row change ≡ 1 = ap (λ t. cond t 0 (one_at row_cmp change.row change.row)) e ∙ one_at_itself row_cmp row_total change.row in
    omega arith in (
      may,
      valid_from (apply retract rows change) changes (λ n.
          ((stand (suc n)).0, λ row. let after = (stand (suc n)).1 row in let e = copies-apply rows change row may in omega arith)),
    )

pub valid_where_prefixes_mean : (changes : List Change) → ((n : ℕ) → (rows : Rows) × Means retract (take n changes) rows) → IsValid retract changes
valid_where_prefixes_mean changes stand = valid_from none changes (λ n.
    ((stand n).0, λ row. let e = (stand n).1 row in omega (arith, copies-none row_total row)))

valid-append : (rows : Rows) (changes : List Change) → AllByRecursion (λ change. admits append change.kind ≡ true) changes → IsValidFrom append rows changes
valid-append rows [] kinds = tt
valid-append rows (change ∷ changes) kinds = (kinds.0, valid-append (apply append rows change) changes kinds.1)

pub valid-upsert : (key : List ℕ) (rows : Rows) (changes : List Change) → AllByRecursion (λ change. admits (upsert key) change.kind ≡ true) changes → IsValidFrom (upsert key) rows changes
valid-upsert key rows [] kinds = tt
valid-upsert key rows (change ∷ changes) kinds = (kinds.0, valid-upsert key (apply (upsert key) rows change) changes kinds.1)

-- in each mode: a list of the mode's kinds, each of whose prefixes means some bag
pub valid_where_means : (mode : Mode) (changes : List Change) → AllByRecursion (λ change. admits mode change.kind ≡ true) changes → ((n : ℕ) → (rows : Rows) × Means mode (take n changes) rows) → IsValid mode changes
valid_where_means append changes kinds stand = valid-append none changes kinds
valid_where_means retract changes kinds stand = valid_where_prefixes_mean changes stand
valid_where_means (upsert key) changes kinds stand = valid-upsert key none changes kinds

-- ---- what holds of each row that comes in a list holds of each row that the list means

addition-row : (P : Row → Type 0) (row : Row) (change : Change) → (adds change.kind ≡ true → P change.row) → 0 < addition row change → P row
addition-row P row change p some =
    elim (same_row row change.row) as (λ t. same_row row change.row ≡ t → P row) [
      | true ↦ λ e. elim (adds change.kind) as (λ b. adds change.kind ≡ b → 0 < cond b (one_at row_cmp row change.row) 0 → P row) [
        | true ↦ λ a h. subst P (sym (same_row-true row change.row e)) (p a)
        | false ↦ λ a h. absurd (omega arith)
      ] refl some
      | false ↦ λ e. absurd (
          let nothing : one_at row_cmp row change.row ≡ 0 = ap (λ b. cond b 1 0) e in
          let none_ : addition row change ≡ 0 = rw nothing (elim (adds change.kind) as (λ b. ◌≡◌ {A = ℕ} (cond b 0 0) 0) [ true ↦ refl | false ↦ refl ]) in
          omega arith)
    ] refl

-- what holds of the rows of the changes that add
abbrev pub Come : (Row → Type 0) → List Change → Type 0
Come P changes = AllByRecursion (λ change. adds change.kind ≡ true → P change.row) changes

additions-row : (P : Row → Type 0) (row : Row) (changes : List Change) → Come P changes → 0 < additions row changes → P row
additions-row P row [] all some = absurd (omega arith)
additions-row P row (change ∷ changes) all some =
    elim (addition row change == 0) as (λ b. (addition row change == 0) ≡ b → P row) [
      | true ↦ λ e. additions-row P row changes all.1 (let z = eqb-true (addition row change) 0 e in omega arith)
      | false ↦ λ e. addition-row P row change all.0 (let apart = eqb-false (addition row change) 0 e in omega arith)
    ] refl

last_shown-row : (P : Row → Type 0) (key : List ℕ) (row : Row) (start : ℕ) (changes : List Change) → (0 < start → P row) → Come P changes → 0 < last_shown key row start changes → P row
last_shown-row P key row start [] first all some = first some
last_shown-row P key row start (change ∷ changes) first all some =
    last_shown-row P key row (cond (same_row (project key change.row) (project key row)) (addition row change) start) changes
    (elim (same_row (project key change.row) (project key row)) as (λ b. 0 < cond b (addition row change) start → P row) [ true ↦ addition-row P row change all.0 | false ↦ first ])
    all.1 some

pub means_come : (P : Row → Type 0) (mode : Mode) (changes : List Change) (rows : Rows) → Means mode changes rows → Come P changes → (row : Row) → 0 < copies rows row → P row
means_come P append changes rows means all = λ row some. additions-row P row changes all (let e = means row in omega arith)
means_come P retract changes rows means all = λ row some. additions-row P row changes all (let e = means row in omega arith)
means_come P (upsert key) changes rows means all = λ row some. last_shown-row P key row 0 changes (λ z. absurd (omega arith)) all (let e = means row in omega arith)

all_come : (P : Row → Type 0) (changes : List Change) → AllByRecursion (λ change. P change.row) changes → Come P changes
all_come P [] all = tt
all_come P (change ∷ changes) all = (λ e. all.0, all_come P changes all.1)

pub means_rows : (P : Row → Type 0) (mode : Mode) (changes : List Change) (rows : Rows) → Means mode changes rows → AllByRecursion (λ change. P change.row) changes → (row : Row) → 0 < copies rows row → P row
means_rows P mode changes rows means all = means_come P mode changes rows means (all_come P changes all)
