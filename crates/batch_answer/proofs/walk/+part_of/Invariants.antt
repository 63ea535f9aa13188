use Rattle.rel_algebra.specs.Rel.{Union, rels}
use Rattle.rel_algebra.specs.View.{rels_view}
use Rattle.batch_answer.specs.Tables.{IsTyped, tables_of}
use Rattle.batch_answer.proofs.Inputs.{InputsLeft, from}
use Rattle.batch_answer.proofs.walk.+part_of.Given as goal

abbrev pub invariant-union_part-loop-input : goal.invariant-union_part-loop-input
invariant-union_part-loop-input l = IsTyped (tables_of l.types l.tables) (Union (rels (rels_view l.inputs))) → InputsLeft (tables_of l.types l.tables) (rels (rels_view l.inputs)) (from l.input-items l.input-index) l.columns l.rows
