-- What the row of a key tells of the rows that stand.
use Rattle.std.proofs.Common.{◌≡◌, ℕ, ◌+◌, ◌≤◌, ◌==◌, Bool, true, false, not, ◌||◌, ◌&&◌, cond, List, [], ◌∷◌, Option, Some, None, refl, sym, ap, subst, ◌∙◌, arith}
use Rattle.std.specs.List.{find}
use Rattle.std.specs.FinMap as map
use Rattle.ct_value.specs.Bag.{items, copies, add, remove, total, weigh, one_at}
use Rattle.ct_value.proofs.laws.Bags.{total-remove, copies-occurs, copies-remove}
use Rattle.ct_value.specs.Order.{row_cmp, row_total, row_exact}
use Rattle.ct_value.specs.Rows.{project}
use Rattle.ct_value.specs.declared.codes.ChangeCode.TheVariants.{KeyPresent, RowAbsent}
use Rattle.ct_value.specs.declared.row.Row.{Row}
use Rattle.ct_change.specs.declared.change.Change.{Change}
use Rattle.ct_change.specs.Changelog.{Rows, append, retract, adds, apply, row_at, same_row, without}
use Rattle.ct_change.specs.LastRows.{AreLast, Lasts, has_key}
use Rattle.ct_change.proofs.laws.Folds.{row_at-key, row_at-stands}
use Rattle.ct_change.proofs.laws.Lasts.{last_with, last_without}
use Rattle.ct_change.proofs.laws.Meanings.{same_row-itself, same_row-true}
use Rattle.stream_model.specs.Tables.{is_there, key_refusal_by, or_else, row_refusal}
use Rattle.source_lines.specs.Kept.{is_row, keyed_after, keyed_refusal}
use Rattle.source_lines.proofs.Counts.{weigh-more}

abbrev bit : (Row → Bool) → Row → ℕ
bit p row = cond (p row) 1 0

none_weighs : (p : Row → Bool) (xs : List Row) → find p xs ≡ None → weigh (bit p) xs ≡ 0
none_weighs p [] e = refl
none_weighs p (x ∷ xs) e =
    elim (p x) as (λ b. cond b (Some x) (find p xs) ≡ None → cond b 1 0 + weigh (bit p) xs ≡ 0) [
      | true ↦ λ h. absurd (cc)
      | false ↦ λ h. omega (arith, none_weighs p xs h)
    ] e

-- how many copies of a row its key's row makes
abbrev pub copies_at : Option Row → Row → ℕ
copies_at None row = 0
copies_at (Some old) row = one_at row_cmp row old

module _ (columns : List ℕ) (kept : Lasts) (rows : Rows) (last : AreLast columns kept rows) (row : Row) where
  abbrev key : Row
  key = project columns row

  one-of_key : (x : Row) → one_at row_cmp row x ≤ bit (has_key columns key) x
  one-of_key x =
      elim (same_row row x) as (λ b. same_row row x ≡ b → cond b 1 0 ≤ bit (has_key columns key) x) [
        | true ↦ λ t.
            let same = same_row-true row x t in
            let has : has_key columns key x ≡ true = ap (λ r. same_row key (project columns r)) (sym same) ∙ same_row-itself key in
            let one : bit (has_key columns key) x ≡ 1 = ap (λ b. cond b 1 0) has in
            omega (arith, one)
        | false ↦ λ f. omega arith
      ] refl

  few : (others : Rows) → copies others row ≤ total (bit (has_key columns key)) others
  few others =
      let own : copies others row ≡ weigh (one_at row_cmp row) (items others) = copies-occurs others row in
      omega (arith, own, weigh-more (one_at row_cmp row) (bit (has_key columns key)) one-of_key (items others))

  copies-by : (o : Option Row) → row_at rows columns row ≡ o → copies rows row ≡ copies_at o row
  copies-by None e =
      let zero_ : total (bit (has_key columns key)) rows ≡ 0 = none_weighs (has_key columns key) (items rows) e in
      omega (arith, few rows, zero_)
  copies-by (Some old) e =
      let stands = row_at-stands rows columns row old e in
      let has : has_key columns key old ≡ true = ap (same_row key) (sym (row_at-key rows columns row old e)) ∙ same_row-itself key in
      let one : bit (has_key columns key) old ≡ 1 = ap (λ b. cond b 1 0) has in
      let less = total-remove row_total row_exact (bit (has_key columns key)) rows old stands in
      omega (arith, copies-remove row_total row_exact rows old row stands, few (remove rows old), last.once key, less, one)

  -- the copies of a row are told by its key's row
  pub copies-kept : copies rows row ≡ copies_at (map.get kept key) row
  copies-kept = copies-by (map.get kept key) (last.found key)

module _ (columns : List ℕ) (kept : Lasts) (rows : Rows) (last : AreLast columns kept rows) (change : Change) where
  abbrev own : Row
  own = project columns change.row

  removal-by : (o : Option Row) → copies rows change.row ≡ copies_at o change.row
      → or_else (cond (not (copies rows change.row == 0)) None (Some RowAbsent)) None ≡ cond (is_row o change.row) None (Some RowAbsent)
  removal-by None e = rw e refl
  removal-by (Some old) e =
      rw e (elim (same_row change.row old) as (λ b. or_else (cond (not (cond b 1 0 == 0)) None (Some RowAbsent)) None ≡ cond b None (Some RowAbsent)) [ true ↦ refl | false ↦ refl ])

  -- what is refused of a keyed retract table
  pub keyed-retract : or_else (row_refusal retract rows change) (key_refusal_by retract (Some columns) rows change) ≡ keyed_refusal (map.get kept own) change
  keyed-retract =
      elim (adds change.kind) as (λ b. or_else (cond (b || not (copies rows change.row == 0)) None (Some RowAbsent)) (cond (b && is_there (row_at rows columns change.row)) (Some KeyPresent) None)
      ≡ cond b (cond (is_there (map.get kept own)) (Some KeyPresent) None) (cond (is_row (map.get kept own) change.row) None (Some RowAbsent))) [
        | true ↦ ap (λ o. cond (is_there o) (Some KeyPresent) None) (last.found own)
        | false ↦ removal-by (map.get kept own) (copies-kept columns kept rows last change.row)
      ]

  -- what is refused of a keyed append table
  pub keyed-append : adds change.kind ≡ true → or_else (row_refusal append rows change) (key_refusal_by append (Some columns) rows change) ≡ keyed_refusal (map.get kept own) change
  keyed-append a = rw a (ap (λ o. cond (is_there o) (Some KeyPresent) None) (last.found own))

  absent : (o : Option Row) → cond (is_there o) (Some KeyPresent) None ≡ None → o ≡ None
  absent None e = refl
  absent (Some old) e = cc e

  own-row : (o : Option Row) → cond (is_row o change.row) None (Some RowAbsent) ≡ None → o ≡ Some change.row
  own-row None e = cc e
  own-row (Some old) e =
      elim (same_row change.row old) as (λ b. same_row change.row old ≡ b → cond b None (Some RowAbsent) ≡ None → Some old ≡ Some change.row) [
        | true ↦ λ t h. ap Some (sym (same_row-true change.row old t))
        | false ↦ λ f h. cc h
      ] refl e

  -- the rows of keys after a change that isn't refused
  pub keyed-taken : keyed_refusal (map.get kept own) change ≡ None → AreLast columns (keyed_after kept own change) (apply retract rows change)
  keyed-taken e =
      elim (adds change.kind) as (λ b. cond b (cond (is_there (map.get kept own)) (Some KeyPresent) None) (cond (is_row (map.get kept own) change.row) None (Some RowAbsent)) ≡ None
      → AreLast columns (cond b (map.insert kept own change.row) (map.remove kept own)) (cond b (add rows change.row) (remove rows change.row))) [
        | true ↦ λ h. last_with columns kept rows last change.row (absent (map.get kept own) h)
        | false ↦ λ h.
            let found : row_at rows columns change.row ≡ Some change.row = last.found own ∙ own-row (map.get kept own) h in
            subst (λ o. AreLast columns (map.remove kept own) (without rows o)) found (last_without columns kept rows last change.row)
      ] e
