-- What is known of the row of a change that comes to a port: an upsert changelog tells of a row that went its key alone.
use Rattle.std.specs.Prelude.{◌≡◌, Bool, true, List}
use Rattle.ct_value.specs.declared.ty.ColTy.{ColTy}
use Rattle.ct_change.specs.declared.kind.Kind.{Kind}
use Rattle.ct_change.specs.declared.change.Change.{Change}
use Rattle.ct_change.specs.Changelog.{Mode, append, retract, upsert, adds}
use Rattle.rel_algebra.specs.Clauses.{Fits}
use Rattle.op_rules.specs.Values.{types_fit}

-- whether a change of this kind tells its whole row
abbrev pub is_whole : Mode → Kind → Bool
is_whole append kind = true
is_whole retract kind = true
is_whole (upsert key) kind = adds kind

-- the row has the types of these columns, and where it is told whole it fits them
pub record FitsIn (mode : Mode) (columns : List ColTy) (change : Change) : Type 0 where
  pub types : types_fit columns change.row ≡ true
  pub whole : is_whole mode change.kind ≡ true → Fits columns change.row
