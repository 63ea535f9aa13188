-- The answer of an accepted query as it is written, and that of the tree to which it is bound.
use Rattle.std.specs.Prelude.{◌≡◌, List, [], ◌∷◌, ◌++◌, Option}
use Rattle.ct_value.specs.Bag.{none}
use Rattle.ct_change.specs.Changelog.{Rows}
use Rattle.rel_algebra.specs.Answer as algebra
use Rattle.query_answer.specs.Answer.{answer}
use Rattle.query_laws.specs.Statement.{filled, tables_of}
use Rattle.source_lines.specs.Fitting.{RowsFit}
use Rattle.job_judgement.specs.Judged.{IsJudged}
use Rattle.job_judgement.specs.Judgement.{Accepted}
use Rattle.job_batch.specs.Batch.{with_rows}

-- the answer of the query on its tree, over these rows of the sources, while no row is in the sink
abbrev pub query_answer : Accepted → List Rows → Option Rows
query_answer script rows = (answer (with_rows script.inserted.sources rows ++ filled script.inserted.sink none ∷ []) script.query).rows

-- the tree to which it is bound has this answer, over rows that have the columns of their sources
abbrev pub AnswersAgree : Type 0
AnswersAgree = (script : Accepted) → IsJudged script → (rows : List Rows) → RowsFit script.inserted.sources rows → algebra.answer (tables_of (with_rows script.inserted.sources rows)) script.inserted.query.rel ≡ query_answer script rows
