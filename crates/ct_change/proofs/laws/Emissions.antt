-- What is emitted for a row that is replaced: folded, it replaces it; it is of the mode's kinds, and nothing where the row stays.
use Rattle.std.proofs.Common.{◌≡◌, ℕ, ◌<◌, Bool, true, false, cond, List, [], Option, Some, None, refl, sym, ap, ◌∙◌}
use Rattle.std.specs.Cmp.{Equal-is}
use Rattle.std.specs.List.{find, AllByRecursion}
use Rattle.ct_value.specs.Bag.{items, copies, add, remove}
use Rattle.ct_value.proofs.laws.Bags.{add-remove}
use Rattle.ct_value.specs.Order.{row_cmp, row_total, row_exact}
use Rattle.ct_value.specs.Rows.{project}
use Rattle.ct_value.specs.declared.row.Row.{Row}
use Rattle.ct_change.specs.declared.kind.Kind.{Kind}
use Rattle.ct_change.specs.declared.kind.Kind.TheVariants.{I, UB, UA, D}
use Rattle.ct_change.specs.declared.change.Change.{Change}
use Rattle.ct_change.specs.Changelog.{Mode, append, retract, upsert, Rows, adds, kinds_of, AreOf, row_at, without, same_row}
use Rattle.ct_change.specs.Emission.{emission, update, CanTell, Tells, Replaces}
use Rattle.ct_change.proofs.laws.Folds.{row_at-stands}
use Rattle.ct_change.specs.KeyRows.{row_told, AreKeyed}
use Rattle.ct_change.proofs.laws.Meanings.{same_row-itself}
use Rattle.ct_change.proofs.laws.KeyRows.{row_at-key_row, is_key_row}

nothing : (mode : Mode) (rows : Rows) (old fresh : Row) → same_row old fresh ≡ true → 0 < copies rows old → Replaces mode rows (Some old) (Some fresh) []
nothing mode rows old fresh e stands =
    let same : old ≡ fresh = row_exact old fresh ((Equal-is (row_cmp old fresh)).0 e) in
    record { folds = sym (ap (add (remove rows old)) (sym same) ∙ add-remove row_total row_exact rows old stands); valid = tt }

both_rows : (mode : Mode) (rows : Rows) (old fresh : Row) (b : Bool) → same_row old fresh ≡ b → 0 < copies rows old → (b ≡ false → Replaces mode rows (Some old) (Some fresh) (update mode old fresh)) → Replaces mode rows (Some old) (Some fresh) (cond b [] (update mode old fresh))
both_rows mode rows old fresh true e stands h = nothing mode rows old fresh e stands
both_rows mode rows old fresh false e stands h = h refl

row_at-same : (rows : Rows) (key : List ℕ) (old fresh : Row) → project key old ≡ project key fresh → row_at rows key fresh ≡ row_at rows key old
row_at-same rows key old fresh e = ap (λ (k : Row). find (λ other. same_row k (project key other)) (items rows)) (sym e)

pub emission_replaces : (mode : Mode) (rows : Rows) (old fresh : Option Row) → Tells mode rows old fresh → Replaces mode rows old fresh (emission mode old fresh)
emission_replaces append rows None None t = record { folds = refl; valid = tt }
emission_replaces append rows None (Some fresh) t = record { folds = refl; valid = (refl, tt) }
emission_replaces append rows (Some old) fresh t = absurd (cc)
emission_replaces retract rows None None t = record { folds = refl; valid = tt }
emission_replaces retract rows None (Some fresh) t = record { folds = refl; valid = (λ e. absurd (cc), tt) }
emission_replaces retract rows (Some old) None t = record { folds = refl; valid = (λ e. t, tt) }
emission_replaces retract rows (Some old) (Some fresh) t = both_rows retract rows old fresh (same_row old fresh) refl t (λ _. record { folds = refl; valid = (λ e. t, (λ e. absurd (cc), tt)) })
emission_replaces (upsert key) rows None None t = record { folds = refl; valid = tt }
emission_replaces (upsert key) rows None (Some fresh) t = record { folds = ap (λ o. add (without rows o) fresh) t; valid = (refl, tt) }
emission_replaces (upsert key) rows (Some old) None t = record { folds = ap (without rows) (row_at-key_row rows key old ∙ t); valid = (refl, tt) }
emission_replaces (upsert key) rows (Some old) (Some fresh) t =
    both_rows (upsert key) rows old fresh (same_row old fresh) refl (row_at-stands rows key old old t.0)
    (λ _. record { folds = ap (λ o. add (without rows o) fresh) (row_at-same rows key old fresh t.1 ∙ t.0); valid = (refl, tt) })

-- what replaces a row as it stands can be told
pub tells-can : (mode : Mode) (rows : Rows) (old fresh : Option Row) → Tells mode rows old fresh → CanTell mode old fresh
tells-can append rows old fresh t = t
tells-can retract rows old fresh t = tt
tells-can (upsert key) rows None fresh t = tt
tells-can (upsert key) rows (Some old) None t = tt
tells-can (upsert key) rows (Some old) (Some fresh) t = t.1

-- a row that stays is told by nothing
pub emission-same : (mode : Mode) (row : Option Row) → emission mode row row ≡ []
emission-same mode None = refl
emission-same mode (Some row) = ap (λ b. cond b [] (update mode row row)) (same_row-itself row)

update_admitted : (mode : Mode) (old fresh : Row) (b : Bool) → CanTell mode (Some old) (Some fresh) → AreOf (kinds_of mode) (cond b [] (update mode old fresh))
update_admitted mode old fresh true can = tt
update_admitted append old fresh false can = tt
update_admitted retract old fresh false can = (refl, (refl, tt))
update_admitted (upsert key) old fresh false can = (refl, tt)

-- what is emitted is of the mode's kinds
pub emission_admitted : (mode : Mode) (old fresh : Option Row) → CanTell mode old fresh → AreOf (kinds_of mode) (emission mode old fresh)
emission_admitted mode None None can = tt
emission_admitted append None (Some fresh) can = (refl, tt)
emission_admitted retract None (Some fresh) can = (refl, tt)
emission_admitted (upsert key) None (Some fresh) can = (refl, tt)
emission_admitted append (Some old) None can = absurd (cc)
emission_admitted retract (Some old) None can = (refl, tt)
emission_admitted (upsert key) (Some old) None can = (refl, tt)
emission_admitted mode (Some old) (Some fresh) can = update_admitted mode old fresh (same_row old fresh) can

-- and each removal in it is told by the key alone, where the mode has one
update_keyed : (mode : Mode) (old fresh : Row) (b : Bool) → AreKeyed mode (cond b [] (update mode old fresh))
update_keyed mode old fresh true = tt
update_keyed append old fresh false = tt
update_keyed retract old fresh false = (tt, (tt, tt))
update_keyed (upsert key) old fresh false = (λ e. absurd (cc), tt)

pub emission_keyed : (mode : Mode) (old fresh : Option Row) → AreKeyed mode (emission mode old fresh)
emission_keyed mode None None = tt
emission_keyed append None (Some fresh) = (tt, tt)
emission_keyed retract None (Some fresh) = (tt, tt)
emission_keyed (upsert key) None (Some fresh) = (λ e. absurd (cc), tt)
emission_keyed append (Some old) None = (tt, tt)
emission_keyed retract (Some old) None = (tt, tt)
emission_keyed (upsert key) (Some old) None = (λ e. is_key_row key old, tt)
emission_keyed mode (Some old) (Some fresh) = update_keyed mode old fresh (same_row old fresh)

-- ---- what holds of each change that is emitted, where it holds of each row that is told

-- Q holds of a change of each kind by which a mode tells a row of which P holds
abbrev pub Tell : (Row → Type 0) → (Change → Type 0) → Mode → Type 0
Tell P Q mode = (kind : Kind) (row : Row) → P row → Q (record { kind = kind; row = row_told mode (adds kind) row })

module _ (P : Row → Type 0) (Q : Change → Type 0) where
  rows-update : (mode : Mode) → Tell P Q mode → (old fresh : Row) → P old → P fresh → AllByRecursion Q (update mode old fresh)
  rows-update append tell old fresh p q = tt
  rows-update retract tell old fresh p q = (tell UB old p, (tell UA fresh q, tt))
  rows-update (upsert key) tell old fresh p q = (tell UA fresh q, tt)

  pub both-emission : (mode : Mode) → Tell P Q mode → (old fresh : Row) → P old → P fresh → AllByRecursion Q (emission mode (Some old) (Some fresh))
  both-emission mode tell old fresh p q = elim (same_row old fresh) as (λ b. AllByRecursion Q (cond b [] (update mode old fresh))) [ true ↦ tt | false ↦ rows-update mode tell old fresh p q ]

  pub rows-emission : (mode : Mode) → Tell P Q mode → (o f : Option Row) → ((old : Row) → o ≡ Some old → P old) → ((fresh : Row) → f ≡ Some fresh → P fresh) → AllByRecursion Q (emission mode o f)
  rows-emission mode tell None None p q = tt
  rows-emission mode tell None (Some fresh) p q = (tell I fresh (q fresh refl), tt)
  rows-emission mode tell (Some old) None p q = (tell D old (p old refl), tt)
  rows-emission mode tell (Some old) (Some fresh) p q = both-emission mode tell old fresh (p old refl) (q fresh refl)
