-- The last row of each key after one more change, and what it tells of the change.
use Rattle.std.proofs.Common.{◌≡◌, ℕ, ◌+◌, ◌≤◌, Bool, true, false, cond, List, [], ◌∷◌, Option, Some, None, refl, sym, ap, subst, ◌∙◌, arith}
use Rattle.std.specs.List.{find}
use Rattle.std.specs.Ordering.{eq_by_cmp}
use Rattle.std.specs.Cmp.{Equal-is, tied_itself}
use Rattle.std.specs.FinMap as map
use Rattle.ct_value.specs.Bag.{items, none, add, remove, total, weigh, put, drop_one}
use Rattle.ct_value.proofs.laws.Bags.{items-add, items-remove, items-none, total-none, total-add, total-remove}
use Rattle.ct_value.specs.Order.{row_cmp, row_total, row_exact}
use Rattle.ct_value.specs.Rows.{project}
use Rattle.ct_value.specs.declared.row.Row.{Row}
use Rattle.ct_change.specs.declared.change.Change.{Change}
use Rattle.ct_change.specs.Changelog.{Rows, same_row, row_at, without, adds, apply, upsert}
use Rattle.ct_change.specs.Emission.{difference, replaced_by}
use Rattle.ct_change.specs.LastRows.{Lasts, has_key, AreLast, last_after}
use Rattle.ct_change.proofs.laws.Folds.{row_at-stands, row_at-key}
use Rattle.std.specs.Ordering.{is_gt}

abbrev bit : (Row → Bool) → Row → ℕ
bit p row = cond (p row) 1 0

-- ---- finding, and weighing

none_found : (p : Row → Bool) (xs : List Row) → weigh (bit p) xs ≡ 0 → find p xs ≡ None
none_found p [] e = refl
none_found p (x ∷ xs) e =
    elim (p x) as (λ b. cond b 1 0 + weigh (bit p) xs ≡ 0 → cond b (Some x) (find p xs) ≡ None) [
      | true ↦ λ h. absurd (omega arith)
      | false ↦ λ h. none_found p xs (omega arith)
    ] e

none_weighs : (p : Row → Bool) (xs : List Row) → find p xs ≡ None → weigh (bit p) xs ≡ 0
none_weighs p [] e = refl
none_weighs p (x ∷ xs) e =
    elim (p x) as (λ b. cond b (Some x) (find p xs) ≡ None → cond b 1 0 + weigh (bit p) xs ≡ 0) [
      | true ↦ λ h. absurd (cc)
      | false ↦ λ h. omega (arith, none_weighs p xs h)
    ] e

find-put_other : (p : Row → Bool) (x : Row) (xs : List Row) → p x ≡ false → find p (put row_cmp x xs) ≡ find p xs
find-put_other p x [] e = rw e
find-put_other p x (y ∷ ys) e =
    elim (is_gt (row_cmp x y)) as (λ b. find p (cond b (y ∷ put row_cmp x ys) (x ∷ y ∷ ys)) ≡ cond (p y) (Some y) (find p ys)) [
      | true ↦ ap (cond (p y) (Some y)) (find-put_other p x ys e)
      | false ↦ rw e
    ]

find-put_new : (p : Row → Bool) (x : Row) (xs : List Row) → p x ≡ true → find p xs ≡ None → find p (put row_cmp x xs) ≡ Some x
find-put_new p x [] e n = rw e
find-put_new p x (y ∷ ys) e n =
    elim (is_gt (row_cmp x y)) as (λ b. find p (cond b (y ∷ put row_cmp x ys) (x ∷ y ∷ ys)) ≡ Some x) [
      | true ↦ elim (p y) as (λ b. cond b (Some y) (find p ys) ≡ None → cond b (Some y) (find p (put row_cmp x ys)) ≡ Some x) [ true ↦ λ h. absurd (cc) | false ↦ λ h. find-put_new p x ys e h ] n
      | false ↦ rw e
    ]

find-drop_other : (p : Row → Bool) (x : Row) (xs : List Row) → p x ≡ false → find p (drop_one row_cmp x xs) ≡ find p xs
find-drop_other p x [] e = refl
find-drop_other p x (y ∷ ys) e =
    elim (eq_by_cmp row_cmp x y) as (λ b. eq_by_cmp row_cmp x y ≡ b → find p (cond b ys (y ∷ drop_one row_cmp x ys)) ≡ cond (p y) (Some y) (find p ys)) [
      | true ↦ λ t. let same : p y ≡ false = ap p (sym (row_exact x y ((Equal-is (row_cmp x y)).0 t))) ∙ e in rw same
      | false ↦ λ t. ap (cond (p y) (Some y)) (find-drop_other p x ys e)
    ] refl

-- ---- without the row of a key, and with one

module _ (columns : List ℕ) (kept : Lasts) (rows : Rows) (last : AreLast columns kept rows) (row : Row) where
  abbrev key : Row
  key = project columns row

  same-key : (k : Row) → same_row k key ≡ true → k ≡ key
  same-key k e = row_exact k key ((Equal-is (row_cmp k key)).0 e)

  flipped : (k : Row) (b : Bool) → same_row k key ≡ b → eq_by_cmp row_cmp k key ≡ b
  flipped k b e = e

  gone_at : (o : Option Row) → row_at rows columns row ≡ o → (k : Row) → (find (has_key columns k) (items (without rows o)) ≡ map.get (map.remove kept key) k) × (total (bit (has_key columns k)) (without rows o) ≤ 1)
  gone_at None e k =
      let here : map.get kept key ≡ None = sym (last.found key) ∙ e in (
        last.found k ∙ elim (same_row k key) as (λ b. same_row k key ≡ b → map.get kept k ≡ cond b None (map.get kept k)) [
          | true ↦ λ t. ap (map.get kept) (same-key k t) ∙ here
          | false ↦ λ t. refl
        ] refl ∙ sym (map.get-remove row_total kept key k),
        last.once k,
      )
  gone_at (Some old) e k =
      let stands = row_at-stands rows columns row old e in
      let of_key : project columns old ≡ key = sym (row_at-key rows columns row old e) in
      let less = total-remove row_total row_exact (bit (has_key columns k)) rows old stands in
      let found : find (has_key columns k) (items (remove rows old)) ≡ cond (same_row k key) None (map.get kept k) =
      elim (same_row k key) as (λ b. same_row k key ≡ b → find (has_key columns k) (items (remove rows old)) ≡ cond b None (map.get kept k)) [
        | true ↦ λ t.
            let one : bit (has_key columns k) old ≡ 1 = ap (λ c. cond (same_row k c) 1 0) of_key ∙ ap (λ b. cond b 1 0) t in
            none_found (has_key columns k) (items (remove rows old)) (let a = last.once k in omega arith)
        | false ↦ λ t.
            let other : has_key columns k old ≡ false = ap (same_row k) of_key ∙ t in
            rw (items-remove row_total) (find-drop_other (has_key columns k) old (items rows) other) ∙ last.found k
      ] refl in
      (found ∙ sym (map.get-remove row_total kept key k), let a = last.once k in omega arith)

  pub last_without : AreLast columns (map.remove kept key) (without rows (row_at rows columns row))
  last_without = record { found = λ k. (gone_at (row_at rows columns row) refl k).0; once = λ k. (gone_at (row_at rows columns row) refl k).1 }

module _ (columns : List ℕ) (kept : Lasts) (rows : Rows) (last : AreLast columns kept rows) (row : Row) (absent : map.get kept (project columns row) ≡ None) where
  abbrev own : Row
  own = project columns row

  pub last_with : AreLast columns (map.insert kept own row) (add rows row)
  last_with = record {
    found = λ k. rw (items-add row_total) (elim (same_row k own) as (λ b. same_row k own ≡ b → find (has_key columns k) (put row_cmp row (items rows)) ≡ cond b (Some row) (map.get kept k)) [
      | true ↦ λ t.
          let same : k ≡ own = row_exact k own ((Equal-is (row_cmp k own)).0 t) in
          find-put_new (has_key columns k) row (items rows) t (last.found k ∙ ap (map.get kept) same ∙ absent)
      | false ↦ λ t. find-put_other (has_key columns k) row (items rows) t ∙ last.found k
    ] refl ∙ sym (map.get-insert row_total kept own row k));
    once = λ k.
        let e = total-add row_total (bit (has_key columns k)) rows row in
        elim (same_row k own) as (λ b. same_row k own ≡ b → total (bit (has_key columns k)) (add rows row) ≤ 1) [
          | true ↦ λ t.
              let same : k ≡ own = row_exact k own ((Equal-is (row_cmp k own)).0 t) in
              let zero_ : weigh (bit (has_key columns k)) (items rows) ≡ 0 = none_weighs (has_key columns k) (items rows) (last.found k ∙ ap (map.get kept) same ∙ absent) in
              let one : bit (has_key columns k) row ≡ 1 = ap (λ b. cond b 1 0) t in
              omega arith
          | false ↦ λ t.
              let none_ : bit (has_key columns k) row ≡ 0 = ap (λ b. cond b 1 0) t in
              let a = last.once k in
              omega arith
        ] refl;
  }

-- a row set over another
pub last_over : (columns : List ℕ) (kept : Lasts) (rows : Rows) → AreLast columns kept rows → (row : Row) → AreLast columns (map.insert kept (project columns row) row) (add (without rows (row_at rows columns row)) row)
last_over columns kept rows last row =
    let own = project columns row in
    let itself : same_row own own ≡ true = (Equal-is (row_cmp own own)).1 (tied_itself row_total own) in
    let absent : map.get (map.remove kept own) own ≡ None = map.get-remove row_total kept own own ∙ ap (λ b. cond b None (map.get kept own)) itself in
    let over : map.insert (map.remove kept own) own row ≡ map.insert kept own row = map.same_map row_total row_exact _ _ (λ k.
    map.get-insert row_total (map.remove kept own) own row k
    ∙ ap (cond (same_row k own) (Some row)) (map.get-remove row_total kept own k)
    ∙ elim (same_row k own) as (λ b. cond b (Some row) (cond b None (map.get kept k)) ≡ cond b (Some row) (map.get kept k)) [ true ↦ refl | false ↦ refl ]
    ∙ sym (map.get-insert row_total kept own row k)) in
    subst (λ m. AreLast columns m (add (without rows (row_at rows columns row)) row)) over
    (last_with columns (map.remove kept own) (without rows (row_at rows columns row)) (last_without columns kept rows last row) row absent)

pub last_none : (columns : List ℕ) → AreLast columns map.empty none
last_none columns = record {
  found = λ k. rw items-none (sym (map.get-empty row_cmp k));
  once = λ k. let e = total-none row_total (bit (has_key columns k)) in omega arith;
}

-- ---- what an upsert changelog's mode keeps and answers

module _ (columns : List ℕ) (kept : Lasts) (rows : Rows) (last : AreLast columns kept rows) (change : Change) where
  -- what goes and what comes is told by the row that is kept
  pub difference-last : replaced_by (map.get kept (project columns change.row)) change ≡ difference (upsert columns) rows change
  difference-last = ap (λ (o : Option Row). replaced_by o change) (sym (last.found (project columns change.row)))

  -- the rows that are kept after a change are the last ones
  pub last-after : AreLast columns (last_after columns kept change) (apply (upsert columns) rows change)
  last-after = elim (adds change.kind) as (λ b. AreLast columns (cond b (map.insert kept (project columns change.row) change.row) (map.remove kept (project columns change.row))) (cond b (add (without rows (row_at rows columns change.row)) change.row) (without rows (row_at rows columns change.row)))) [
    | true ↦ last_over columns kept rows last change.row
    | false ↦ last_without columns kept rows last change.row
  ]
