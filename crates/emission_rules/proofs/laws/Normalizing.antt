-- What a normalize emits: changes that are valid in its mode, and that leave the rows of the table.
use Rattle.std.proofs.Common.{◌≡◌, ℕ, zero, suc, ◌+◌, ◌<◌, ◌≤◌, Bool, true, false, cond, List, [], ◌∷◌, ◌++◌, take, Option, Some, None, refl, sym, ap, subst, ◌∙◌, arith, append_assoc}
use Rattle.std.specs.List.{AllByRecursion, find}
use Rattle.ct_value.specs.Bag.{items, copies, add, remove, total, one_at}
use Rattle.ct_value.proofs.laws.Bags.{weigh-sum, copies-occurs, copies-add, copies-remove, total-remove}
use Rattle.ct_value.specs.Order.{row_cmp, row_total, row_exact}
use Rattle.ct_value.specs.Rows.{project}
use Rattle.ct_value.specs.declared.row.Row.{Row}
use Rattle.ct_change.specs.declared.change.Change.{Change}
use Rattle.ct_change.specs.Changelog.{Mode, append, retract, upsert, Rows, same_row, adds, kinds_of, AreOf, row_at, without, with, apply, fold_from, IsValidFrom}
use Rattle.ct_change.specs.Emission.{emission, update, replaced, CanTell, Tells, Replaces}
use Rattle.ct_change.proofs.laws.Emissions.{emission_replaces, emission_admitted, tells-can, Tell, rows-emission}
use Rattle.ct_change.proofs.laws.Folds.{fold_from-append, IsValidFrom-append, row_at-stands, row_at-key}
use Rattle.ct_change.proofs.laws.Meanings.{same_row-true, same_row-itself, in_key, IsOnce, once_after}
use Rattle.op_rules.specs.Edges.{IsUnique}
use Rattle.op_rules.proofs.laws.Histories.{all-append}
use Rattle.emission_rules.specs.Normalize.{Normalize, row_left, normalized, normalized_all, TellsKey}
use Rattle.emission_rules.proofs.laws.Weights.{total-below}

-- ---- a key that holds of a bag

bit_le : (b : Bool) → cond {A = ℕ} b 1 0 ≤ 1
bit_le true = omega arith
bit_le false = omega arith

pub once_unique : (key : List ℕ) (rows : Rows) → IsOnce key rows → IsUnique key (copies rows)
once_unique key rows once a b same x y =
    let one : copies rows a ≤ 1 =
    let below : total (one_at row_cmp a) rows ≤ total (in_key key a) rows = total-below (one_at row_cmp a) (in_key key a) rows (λ row some. alone row) in
    omega (arith, below, once a, copies-occurs rows a) in (
      elim (same_row a b) as (λ t. same_row a b ≡ t → a ≡ b) [
        | true ↦ λ t. same_row-true a b t
        | false ↦ λ t. absurd (
            let below : total (λ row. one_at row_cmp a row + one_at row_cmp b row) rows ≤ total (in_key key a) rows = total-below (λ row. one_at row_cmp a row + one_at row_cmp b row) (in_key key a) rows (λ row some. both t row) in
            let sum = weigh-sum (one_at row_cmp a) (one_at row_cmp b) (items rows) in
            omega (arith, below, sum, once a, copies-occurs rows a, copies-occurs rows b))
      ] refl,
      one,
    )
  where
    of_key : (c row : Row) → project key a ≡ project key c → same_row c row ≡ true → in_key key a row ≡ 1
    of_key c row agree t =
        ap (λ r. in_key key a r) (sym (same_row-true c row t))
        ∙ ap (λ k. cond {A = ℕ} (same_row (project key a) k) 1 0) (sym agree)
        ∙ ap (λ b. cond {A = ℕ} b 1 0) (same_row-itself (project key a))

    alone : (row : Row) → one_at row_cmp a row ≤ in_key key a row
    alone row =
        elim (same_row a row) as (λ t. same_row a row ≡ t → cond {A = ℕ} t 1 0 ≤ in_key key a row) [
          | true ↦ λ t. omega (arith, of_key a row refl t)
          | false ↦ λ t. omega arith
        ] refl

    both : same_row a b ≡ false → (row : Row) → one_at row_cmp a row + one_at row_cmp b row ≤ in_key key a row
    both apart row =
        elim (same_row a row) as (λ t. same_row a row ≡ t → cond {A = ℕ} t 1 0 + one_at row_cmp b row ≤ in_key key a row) [
          | true ↦ λ t.
              let is : a ≡ row = same_row-true a row t in
              let other : one_at row_cmp b row ≡ 0 =
              elim (same_row b row) as (λ s. same_row b row ≡ s → cond {A = ℕ} s 1 0 ≡ 0) [
                | true ↦ λ s. absurd (
                    let yes_ : same_row a b ≡ true = ap (same_row a) (same_row-true b row s ∙ sym is) ∙ same_row-itself a in
                    cc)
                | false ↦ λ s. refl
              ] refl in
              omega (arith, of_key a row refl t, other)
          | false ↦ λ t.
              elim (same_row b row) as (λ s. same_row b row ≡ s → 0 + cond {A = ℕ} s 1 0 ≤ in_key key a row) [
                | true ↦ λ s. omega (arith, of_key b row same s)
                | false ↦ λ s. omega arith
              ] refl
        ] refl

pub once_remove : (key : List ℕ) (rows : Rows) (old : Row) → 0 < copies rows old → IsOnce key rows → IsOnce key (remove rows old)
once_remove key rows old stands once row = omega (arith, once row, total-remove row_total row_exact (in_key key row) rows old stands)

-- ---- a fact of the rows after each prefix

abbrev pub Along : (Rows → Type 0) → Mode → Rows → List Change → Type 0
Along P mode rows [] = P rows
Along P mode rows (change ∷ changes) = P rows × Along P mode (apply mode rows change) changes

along-append : (P : Rows → Type 0) (mode : Mode) (rows : Rows) (xs ys : List Change) → Along P mode rows xs → Along P mode (fold_from mode rows xs) ys → Along P mode rows (xs ++ ys)
along-append P mode rows [] ys h k = k
along-append P mode rows (x ∷ xs) ys h k = (h.0, along-append P mode (apply mode rows x) xs ys h.1 k)

pub along-take : (P : Rows → Type 0) (mode : Mode) (rows : Rows) (changes : List Change) → Along P mode rows changes → (n : ℕ) → P (fold_from mode rows (take n changes))
along-take P mode rows [] h zero = h
along-take P mode rows [] h (suc n) = h
along-take P mode rows (change ∷ changes) h zero = h.0
along-take P mode rows (change ∷ changes) h (suc n) = along-take P mode (apply mode rows change) changes h.1 n

-- ---- what is emitted for a change

row_at-agree : (rows : Rows) (key : List ℕ) (a b : Row) → project key a ≡ project key b → row_at rows key a ≡ row_at rows key b
row_at-agree rows key a b same = ap (λ (k : Row). find (λ other. same_row k (project key other)) (items rows)) same

tells : (key : List ℕ) (mode : Mode) → TellsKey key mode → (rows : Rows) (row : Row) (o : Option Row) → row_at rows key row ≡ o → (b : Bool) → Tells mode rows o (row_left b row)
tells key append can rows row o e b = absurd can
tells key retract can rows row None e b = tt
tells key retract can rows row (Some old) e b = row_at-stands rows key row old e
tells key (upsert columns) can rows row o e b = subst (λ k. Tells (upsert k) rows o (row_left b row)) (sym can) (by_key o b e)
  where
    of_old : (old : Row) → row_at rows key row ≡ Some old → row_at rows key old ≡ Some old
    of_old old e = row_at-agree rows key old row (sym (row_at-key rows key row old e)) ∙ e

    by_key : (o : Option Row) (b : Bool) → row_at rows key row ≡ o → Tells (upsert key) rows o (row_left b row)
    by_key None true e = e
    by_key None false e = tt
    by_key (Some old) true e = (of_old old e, sym (row_at-key rows key row old e))
    by_key (Some old) false e = of_old old e

replaced-apply : (key : List ℕ) (rows : Rows) (change : Change) → replaced rows (row_at rows key change.row) (row_left (adds change.kind) change.row) ≡ apply (upsert key) rows change
replaced-apply key rows change =
    elim (adds change.kind) as (λ b. with (without rows (row_at rows key change.row)) (row_left b change.row) ≡ cond b (add (without rows (row_at rows key change.row)) change.row) (without rows (row_at rows key change.row))) [ true ↦ refl | false ↦ refl ]

module _ (normalize : Normalize) (can : TellsKey normalize.key normalize.output) where
  one : (rows : Rows) (change : Change) → Replaces normalize.output rows (row_at rows normalize.key change.row) (row_left (adds change.kind) change.row) (normalized normalize rows change)
  one rows change = emission_replaces normalize.output rows (row_at rows normalize.key change.row) (row_left (adds change.kind) change.row) (tells normalize.key normalize.output can rows change.row (row_at rows normalize.key change.row) refl (adds change.kind))

  folds_one : (rows : Rows) (change : Change) → fold_from normalize.output rows (normalized normalize rows change) ≡ apply (upsert normalize.key) rows change
  folds_one rows change = (one rows change).folds ∙ replaced-apply normalize.key rows change

  -- it leaves the rows that what came leaves
  pub folds-normalized : (rows : Rows) (changes : List Change) → fold_from normalize.output rows (normalized_all normalize rows changes) ≡ fold_from (upsert normalize.key) rows changes
  folds-normalized rows [] = refl
  folds-normalized rows (change ∷ changes) =
      fold_from-append normalize.output rows (normalized normalize rows change) (normalized_all normalize (apply (upsert normalize.key) rows change) changes)
      ∙ ap (λ r. fold_from normalize.output r (normalized_all normalize (apply (upsert normalize.key) rows change) changes)) (folds_one rows change)
      ∙ folds-normalized (apply (upsert normalize.key) rows change) changes

  pub valid-normalized : (rows : Rows) (changes : List Change) → IsValidFrom normalize.output rows (normalized_all normalize rows changes)
  valid-normalized rows [] = tt
  valid-normalized rows (change ∷ changes) =
      IsValidFrom-append normalize.output rows (normalized normalize rows change) (normalized_all normalize (apply (upsert normalize.key) rows change) changes)
      (one rows change).valid
      (subst (λ r. IsValidFrom normalize.output r (normalized_all normalize (apply (upsert normalize.key) rows change) changes)) (sym (folds_one rows change)) (valid-normalized (apply (upsert normalize.key) rows change) changes))

  pub kinds-normalized : (rows : Rows) (changes : List Change) → AreOf (kinds_of normalize.output) (normalized_all normalize rows changes)
  kinds-normalized rows [] = tt
  kinds-normalized rows (change ∷ changes) =
      all-append _ (normalized normalize rows change) (normalized_all normalize (apply (upsert normalize.key) rows change) changes)
      (emission_admitted normalize.output (row_at rows normalize.key change.row) (row_left (adds change.kind) change.row)
      (tells-can normalize.output rows _ _ (tells normalize.key normalize.output can rows change.row (row_at rows normalize.key change.row) refl (adds change.kind))))
      (kinds-normalized (apply (upsert normalize.key) rows change) changes)

-- the mode can tell what gives way to what
pub can-normalize : (key : List ℕ) (mode : Mode) → TellsKey key mode → (rows : Rows) (change : Change) → CanTell mode (row_at rows key change.row) (row_left (adds change.kind) change.row)
can-normalize key mode can rows change = tells-can mode rows (row_at rows key change.row) (row_left (adds change.kind) change.row) (tells key mode can rows change.row (row_at rows key change.row) refl (adds change.kind))

-- of lists one after another
pub normalized-append : (normalize : Normalize) (rows : Rows) (xs ys : List Change) → normalized_all normalize rows (xs ++ ys) ≡ normalized_all normalize rows xs ++ normalized_all normalize (fold_from (upsert normalize.key) rows xs) ys
normalized-append normalize rows [] ys = refl
normalized-append normalize rows (x ∷ xs) ys =
    ap (λ zs. normalized normalize rows x ++ zs) (normalized-append normalize (apply (upsert normalize.key) rows x) xs ys)
    ∙ sym (append_assoc (normalized normalize rows x) (normalized_all normalize (apply (upsert normalize.key) rows x) xs) (normalized_all normalize (fold_from (upsert normalize.key) (apply (upsert normalize.key) rows x) xs) ys))

-- ---- its rows are rows that came

left_row : (b : Bool) (row fresh : Row) → row_left b row ≡ Some fresh → (row ≡ fresh) × (b ≡ true)
left_row true row fresh e = (cc, refl)
left_row false row fresh e = absurd (cc)

without_of : (P : Row → Type 0) (rows : Rows) → ((row : Row) → 0 < copies rows row → P row) → (o : Option Row) → ((old : Row) → o ≡ Some old → 0 < copies rows old) → (row : Row) → 0 < copies (without rows o) row → P row
without_of P rows h None stands row some = h row some
without_of P rows h (Some old) stands row some = h row (omega (arith, copies-remove row_total row_exact rows old row (stands old refl)))

added_of : (P : Row → Type 0) (rows : Rows) (fresh : Row) → ((row : Row) → 0 < copies rows row → P row) → P fresh → (row : Row) → 0 < copies (add rows fresh) row → P row
added_of P rows fresh h p row some =
    elim (same_row row fresh) as (λ t. same_row row fresh ≡ t → P row) [
      | true ↦ λ t. subst P (sym (same_row-true row fresh t)) p
      | false ↦ λ t. let z : one_at row_cmp row fresh ≡ 0 = ap (λ b. cond {A = ℕ} b 1 0) t in h row (omega (arith, copies-add row_total rows fresh row))
    ] refl

pub rows-normalized : (P : Row → Type 0) (Q : Change → Type 0) (normalize : Normalize) → Tell P Q normalize.output → (rows : Rows) → ((row : Row) → 0 < copies rows row → P row)
    → (changes : List Change) → AllByRecursion (λ change. adds change.kind ≡ true → P change.row) changes → AllByRecursion Q (normalized_all normalize rows changes)
rows-normalized P Q normalize tell rows h [] all = tt
rows-normalized P Q normalize tell rows h (change ∷ changes) all =
    let o = row_at rows normalize.key change.row in
    let stands : (old : Row) → row_at rows normalize.key change.row ≡ Some old → 0 < copies rows old = λ old e. row_at-stands rows normalize.key change.row old e in
    let left : (row : Row) → 0 < copies (without rows (row_at rows normalize.key change.row)) row → P row = without_of P rows h (row_at rows normalize.key change.row) stands in
    all-append Q (normalized normalize rows change) (normalized_all normalize (apply (upsert normalize.key) rows change) changes)
    (rows-emission P Q normalize.output tell (row_at rows normalize.key change.row) (row_left (adds change.kind) change.row) (λ old e. h old (stands old e))
    (λ fresh e. let is = left_row (adds change.kind) change.row fresh e in subst P is.0 (all.0 is.1)))
    (rows-normalized P Q normalize tell (apply (upsert normalize.key) rows change)
    (elim (adds change.kind) as (λ b. adds change.kind ≡ b → (row : Row) → 0 < copies (cond b (add (without rows (row_at rows normalize.key change.row)) change.row) (without rows (row_at rows normalize.key change.row))) row → P row) [
      | true ↦ λ a. added_of P (without rows (row_at rows normalize.key change.row)) change.row left (all.0 a)
      | false ↦ λ a. left
    ] refl) changes all.1)

-- ---- its key holds after each change that it emits

module _ (normalize : Normalize) (writes : normalize.output ≡ retract) where
  emission-along : (rows : Rows) (change : Change) → IsOnce normalize.key rows → Along (IsOnce normalize.key) retract rows (emission retract (row_at rows normalize.key change.row) (row_left (adds change.kind) change.row))
  emission-along rows change once =
      go (row_at rows normalize.key change.row) refl (adds change.kind) refl
    where
      after : IsOnce normalize.key (apply (upsert normalize.key) rows change)
      after = once_after normalize.key rows once change

      is_after : (o : Option Row) → row_at rows normalize.key change.row ≡ o → (b : Bool) → adds change.kind ≡ b → IsOnce normalize.key (cond b (add (without rows o) change.row) (without rows o))
      is_after o e b t = subst (λ c. IsOnce normalize.key (cond c (add (without rows o) change.row) (without rows o))) t (subst (λ x. IsOnce normalize.key (cond (adds change.kind) (add (without rows x) change.row) (without rows x))) e after)

      go : (o : Option Row) → row_at rows normalize.key change.row ≡ o → (b : Bool) → adds change.kind ≡ b → Along (IsOnce normalize.key) retract rows (emission retract o (row_left b change.row))
      go None e true t = (once, is_after None e true t)
      go None e false t = once
      go (Some old) e false t = (once, is_after (Some old) e false t)
      go (Some old) e true t =
          elim (same_row old change.row) as (λ s. Along (IsOnce normalize.key) retract rows (cond s [] (update retract old change.row))) [
            | true ↦ once
            | false ↦ (once, (once_remove normalize.key rows old (row_at-stands rows normalize.key change.row old e) once, is_after (Some old) e true t))
          ]

  pub along-normalized : (rows : Rows) (changes : List Change) → IsOnce normalize.key rows → Along (IsOnce normalize.key) retract rows (normalized_all normalize rows changes)
  along-normalized rows [] once = once
  along-normalized rows (change ∷ changes) once =
      along-append (IsOnce normalize.key) retract rows (normalized normalize rows change) (normalized_all normalize (apply (upsert normalize.key) rows change) changes)
      (subst (λ m. Along (IsOnce normalize.key) retract rows (emission m (row_at rows normalize.key change.row) (row_left (adds change.kind) change.row))) (sym writes) (emission-along rows change once))
      (subst (λ r. Along (IsOnce normalize.key) retract r (normalized_all normalize (apply (upsert normalize.key) rows change) changes))
      (sym (subst (λ m. fold_from m rows (normalized normalize rows change) ≡ apply (upsert normalize.key) rows change) writes (folds_one normalize (subst (TellsKey normalize.key) (sym writes) tt) rows change)))
      (along-normalized (apply (upsert normalize.key) rows change) changes (once_after normalize.key rows once change)))
