-- What each row that comes has, each row that stands has.
use Rattle.std.proofs.Common.{◌≡◌, ◌<◌, ◌==◌, ℕ, zero, suc, Bool, true, false, cond, ◌||◌, not, Option, Some, None, refl, arith}
use Rattle.ct_value.specs.Bag.{copies, add, remove}
use Rattle.ct_value.proofs.laws.Bags.{copies-remove}
use Rattle.ct_value.specs.Order.{row_total, row_exact}
use Rattle.ct_value.specs.declared.row.Row.{Row}
use Rattle.ct_value.specs.declared.codes.ChangeCode.{ChangeCode}
use Rattle.ct_change.specs.declared.change.Change.{Change}
use Rattle.ct_change.specs.Changelog.{Mode, append, retract, upsert, Rows, adds, admits, apply, row_at, without}
use Rattle.ct_change.proofs.laws.Folds.{append_only, row_at-stands}
use Rattle.rel_algebra.specs.Sums.{Each}
use Rattle.rel_algebra.proofs.laws.Bags.{copies-each, each-add, each-copies}
use Rattle.stream_model.specs.Tables.{Table, asked, key_refusal_by, kind_refusal, null_refusal, or_else, refusal, row_refusal}

module _ (P : Row → Type 0) where
  each_without : (rows : Rows) (row : Row) → 0 < copies rows row → Each P rows → Each P (remove rows row)
  each_without rows row some h = copies-each row_total row_exact P (remove rows row) (λ other there. each-copies row_total row_exact P rows h other (omega (arith, there, copies-remove row_total row_exact rows row other some)))

  each_others : (rows : Rows) (o : Option Row) → ((row : Row) → o ≡ Some row → 0 < copies rows row) → Each P rows → Each P (without rows o)
  each_others rows None stands h = h
  each_others rows (Some row) stands h = each_without rows row (stands row refl) h

  each_if : (test : Bool) (rows : Rows) (row : Row) → (test ≡ true → P row) → Each P rows → Each P (cond test (add rows row) rows)
  each_if true rows row p h = each-add row_total row_exact P rows row (p refl) h
  each_if false rows row p h = h

  some_stand : (n : ℕ) (code : ChangeCode) → cond (false || not (n == 0)) None (Some code) ≡ None → 0 < n
  some_stand zero code e = absurd (cc (e))
  some_stand (suc n) code e = omega arith

  each_moved : (test : Bool) (rows : Rows) (row : Row) (code : ChangeCode) → (test ≡ true → P row) → cond (test || not (copies rows row == 0)) None (Some code) ≡ None → Each P rows → Each P (cond test (add rows row) (remove rows row))
  each_moved true rows row code p e h = each-add row_total row_exact P rows row (p refl) h
  each_moved false rows row code p e h = each_without rows row (some_stand (copies rows row) code e) h

  each_applied : (mode : Mode) (rows : Rows) (change : Change) → admits mode change.kind ≡ true → (adds change.kind ≡ true → P change.row) → row_refusal mode rows change ≡ None → Each P rows → Each P (apply mode rows change)
  each_applied append rows change a p e h = each-add row_total row_exact P rows change.row (p (append_only change.kind a)) h
  each_applied retract rows change a p e h = each_moved (adds change.kind) rows change.row _ p e h
  each_applied (upsert key) rows change a p e h =
      each_if (adds change.kind) (without rows (row_at rows key change.row)) change.row p (each_others rows (row_at rows key change.row) (λ row is. row_at-stands rows key change.row row is) h)

first_none : (a b : Option ChangeCode) → or_else a b ≡ None → (a ≡ None) × (b ≡ None)
first_none None b e = (refl, e)
first_none (Some code) b e = absurd (cc (e))

-- a change that isn't refused has no NULL where none may stand, and isn't refused by the rows
pub unrefused : (table : Table) (rows : Rows) (change : Change) → refusal table rows change ≡ None → (null_refusal (asked table change) change.row ≡ None) × (row_refusal table.mode rows change ≡ None)
unrefused table rows change e =
    let by_row = or_else (row_refusal table.mode rows change) (key_refusal_by table.mode table.key rows change) in
    let a = first_none (kind_refusal table.mode change) (or_else (null_refusal (asked table change) change.row) by_row) e in
    let b = first_none (null_refusal (asked table change) change.row) by_row a.1 in
    let c = first_none (row_refusal table.mode rows change) (key_refusal_by table.mode table.key rows change) b.1 in
    (b.0, c.0)

pub each_after : (P : Row → Type 0) (table : Table) (rows : Rows) (change : Change) → admits table.mode change.kind ≡ true → (adds change.kind ≡ true → P change.row) → refusal table rows change ≡ None → Each P rows
    → Each P (apply table.mode rows change)
each_after P table rows change a p e h = each_applied P table.mode rows change a p (unrefused table rows change e).1 h
