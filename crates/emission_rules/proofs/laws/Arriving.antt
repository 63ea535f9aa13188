-- A row that comes is told whole.
use Rattle.std.proofs.Common.{◌≡◌, true, List, refl}
use Rattle.std.specs.List.{AllByRecursion}
use Rattle.ct_value.specs.declared.ty.ColTy.{ColTy}
use Rattle.ct_change.specs.declared.kind.Kind.{Kind}
use Rattle.ct_change.specs.declared.change.Change.{Change}
use Rattle.ct_change.specs.Changelog.{Mode, append, retract, upsert, adds}
use Rattle.rel_algebra.specs.Clauses.{Fits}
use Rattle.op_rules.proofs.laws.Histories.{all-each}
use Rattle.emission_rules.specs.Arriving.{is_whole, FitsIn}

pub whole-adds : (mode : Mode) (kind : Kind) → adds kind ≡ true → is_whole mode kind ≡ true
whole-adds append kind e = refl
whole-adds retract kind e = refl
whole-adds (upsert key) kind e = e

pub come-fit : (mode : Mode) (columns : List ColTy) (change : Change) → FitsIn mode columns change → adds change.kind ≡ true → Fits columns change.row
come-fit mode columns change fits e = fits.whole (whole-adds mode change.kind e)

pub all-come-fit : (mode : Mode) (columns : List ColTy) (changes : List Change) → AllByRecursion (FitsIn mode columns) changes → AllByRecursion (λ change. adds change.kind ≡ true → Fits columns change.row) changes
all-come-fit mode columns changes all = all-each (FitsIn mode columns) (λ change. adds change.kind ≡ true → Fits columns change.row) (come-fit mode columns) changes all
