-- Sets of kinds, and which tables are keyed.
use Rattle.std.specs.Prelude.{Bool, true, false, ◌||◌}
use Rattle.ct_change.specs.declared.kind.Declared.{Declared}
use Rattle.ct_change.specs.declared.kind.Declared.TheVariants.{Append, Retract, Upsert}
use Rattle.ct_change.specs.declared.kind.KindSet.{KindSet}

-- whether there are other kinds than +I
abbrev pub has_more_than_inserts : KindSet → Bool
has_more_than_inserts kinds = kinds.ub || (kinds.ua || kinds.d)

-- whether a table's rows are known by its key alone
abbrev pub is_upsert : Declared → Bool
is_upsert Append = false
is_upsert Retract = false
is_upsert Upsert = true
