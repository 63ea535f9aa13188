use Rattle.std.proofs.Common.{ap, map, ◌∙◌, length}
use Rattle.ct_catalog.specs.Columns.{column_types}
use Rattle.rel_algebra.specs.View.{rel_view}
use Rattle.job_judgement.specs.Views.{accepted_view}
use Rattle.job_batch.proofs.Over.{is_typed, over_fault, over_result, wide_result}
use Rattle.job_batch.proofs.Tables.{same_length, same_tables}
use Rattle.job_batch.proofs.answers.evaluated.Goals as goal
use Rattle.job_judgement.proofs.laws.Theorems.{accepted_is_bound}
use Rattle.query_laws.proofs.laws.Theorems.{inserts_keep_the_answer, bound_inserts_are_well_typed_columns, bound_inserts_are_well_typed_sink}
use Rattle.typing_laws.proofs.laws.AnswerTypes.{answers_fit}

pub answer_of-requires-clause-tables : goal.answer_of-requires-clause-tables
answer_of-requires-clause-tables c = ap length (c.in_ok-types.ensures ∙ ap (map column_types) c.as_slice.ensures) ∙ same_length c.args.script.now.inserted.sources c.args.tables.now c.requires.fit

pub answer_of-requires-clause-typed : goal.answer_of-requires-clause-typed
answer_of-requires-clause-typed c =
    is_typed (accepted_view c.args.script.now) (accepted_is_bound (accepted_view c.args.script.now) c.requires.judged) c.args.tables.now c.requires.fit c.in_ok-types.types (c.in_ok-types.ensures ∙ ap (map column_types) c.as_slice.ensures) bound_inserts_are_well_typed_columns _ (ap rel_view c.deref.ensures)

pub returns-clause-ok : goal.returns-clause-ok
returns-clause-ok c =
    over_result (accepted_view c.args.script.now) (accepted_is_bound (accepted_view c.args.script.now) c.requires.judged) c.args.tables.now c.requires.fit c.in_ok-types.types (c.in_ok-types.ensures ∙ ap (map column_types) c.as_slice.ensures) inserts_keep_the_answer
    _ (same_tables c.args.script.now.inserted.sources c.args.tables.now c.in_ok-types.types (c.in_ok-types.ensures ∙ ap (map column_types) c.as_slice.ensures)) _ (ap rel_view c.deref.ensures) c.answer_of.result c.answer_of.ensures.value c.answer_of.ensures.narrow

pub returns-clause-wide : goal.returns-clause-wide
returns-clause-wide c =
    wide_result (accepted_view c.args.script.now) (accepted_is_bound (accepted_view c.args.script.now) c.requires.judged) c.args.tables.now c.requires.fit c.in_ok-types.types (c.in_ok-types.ensures ∙ ap (map column_types) c.as_slice.ensures) bound_inserts_are_well_typed_columns bound_inserts_are_well_typed_sink answers_fit
    _ (same_tables c.args.script.now.inserted.sources c.args.tables.now c.in_ok-types.types (c.in_ok-types.ensures ∙ ap (map column_types) c.as_slice.ensures)) _ (ap rel_view c.deref.ensures) c.answer_of.result c.answer_of.ensures.value

pub returns-clause-out : goal.returns-clause-out
returns-clause-out c = λ out.
    over_fault (accepted_view c.args.script.now) (accepted_is_bound (accepted_view c.args.script.now) c.requires.judged) c.args.tables.now c.requires.fit c.in_ok-types.types (c.in_ok-types.ensures ∙ ap (map column_types) c.as_slice.ensures) inserts_keep_the_answer
    _ (same_tables c.args.script.now.inserted.sources c.args.tables.now c.in_ok-types.types (c.in_ok-types.ensures ∙ ap (map column_types) c.as_slice.ensures)) _ (ap rel_view c.deref.ensures) (c.answer_of.ensures.out out)
