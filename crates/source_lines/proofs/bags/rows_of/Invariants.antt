use Rattle.std.proofs.Common.{List}
use Rattle.std.specs.Vec.Iter.{into_iter_items}
use Rattle.ct_catalog.specs.declared.table.TableDef.{TableDef}
use Rattle.source_lines.specs.Standing.{StandAll}
use Rattle.source_lines.specs.Taken.{Taken}
use Rattle.source_lines.proofs.Rows.{Reached}
use Rattle.source_lines.proofs.bags.rows_of.Given as goal

abbrev pub invariant-loop-folded : goal.invariant-loop-folded
invariant-loop-folded l = (sources : List TableDef) (taken : Taken) → StandAll sources l.fn.folds.items taken → Reached sources taken (into_iter_items l.folded-iterator) l.bags
