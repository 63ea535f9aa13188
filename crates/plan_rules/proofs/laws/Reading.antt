-- How the changes of an edge are written, and how its consumer reads them.
use Rattle.std.specs.Prelude.{◌≡◌, Bool, cond, ◌||◌}
use Rattle.std.proofs.Common.{true, false, refl, sym, ◌∙◌}
use Rattle.ct_change.specs.Changelog.{Mode, admits, append, has, retract}
use Rattle.ct_change.specs.declared.kind.Kind.{Kind}
use Rattle.ct_change.specs.declared.kind.Kind.TheVariants.{I, UB, UA, D}
use Rattle.ct_change.specs.declared.kind.KindSet.{KindSet}
use Rattle.ct_change.specs.Kinds.{has_more_than_inserts}
use Rattle.op_rules.specs.Edges.{meaning_of}
use Rattle.ct_change.specs.declared.update.Update.{Update}
use Rattle.ct_change.specs.declared.update.Update.TheVariants.{Absent, After, Both}
use Rattle.plan_rules.specs.Plans.{meaning_by}
use Rattle.plan_rules.specs.Around.{mode_read, mode_told}

-- they are written as the edge means them
pub meaning_told : (update : Update) → meaning_by update ≡ meaning_of (mode_told update)
meaning_told Absent = refl
meaning_told (After columns) = refl
meaning_told Both = refl

-- without updates they are read as inserts or as a bag, whichever comes
pub of_no_updates : (P : Mode → Type 0) (kinds : KindSet) → P append → P retract → P (mode_read kinds Absent)
of_no_updates P kinds inserts whole = elim (has_more_than_inserts kinds) as (λ more. P (cond more retract append)) [ true ↦ whole | false ↦ inserts ]

-- they are read as the edge means them
pub meaning_read : (kinds : KindSet) (update : Update) → meaning_by update ≡ meaning_of (mode_read kinds update)
meaning_read kinds Absent = of_no_updates (λ mode. meaning_by Absent ≡ meaning_of mode) kinds refl refl
meaning_read kinds (After columns) = refl
meaning_read kinds Both = refl

-- ---- the kinds that come belong to the mode

pub retract_admits : (kind : Kind) → admits retract kind ≡ true
retract_admits I = refl
retract_admits UB = refl
retract_admits UA = refl
retract_admits D = refl

left_of : (a b : Bool) → a ≡ true → (a || b) ≡ true
left_of true b e = refl
left_of false b e = absurd (cc)

right_of : (a b : Bool) → b ≡ true → (a || b) ≡ true
right_of true b e = refl
right_of false b e = e

only_inserts : (kinds : KindSet) → has_more_than_inserts kinds ≡ false → (kind : Kind) → has kinds kind ≡ true → admits append kind ≡ true
only_inserts kinds none I h = refl
only_inserts kinds none UB h = sym none ∙ left_of kinds.ub (kinds.ua || kinds.d) h
only_inserts kinds none UA h = sym none ∙ right_of kinds.ub (kinds.ua || kinds.d) (left_of kinds.ua kinds.d h)
only_inserts kinds none D h = sym none ∙ right_of kinds.ub (kinds.ua || kinds.d) (right_of kinds.ua kinds.d h)

pub kinds_read : (kinds : KindSet) (kind : Kind) → has kinds kind ≡ true → admits (mode_read kinds Absent) kind ≡ true
kinds_read kinds kind h = go (has_more_than_inserts kinds) refl
  where
    go : (more : Bool) → has_more_than_inserts kinds ≡ more → admits (cond more retract append) kind ≡ true
    go true is = retract_admits kind
    go false is = only_inserts kinds is kind h
