-- The columns of what a run prints, however it ends.
use Rattle.std.specs.Prelude.{◌≡◌, ℕ, true, List, length}
use Rattle.std.specs.List.{AllByRecursion}
use Rattle.ct_value.specs.declared.ty.ColTy.{ColTy}
use Rattle.phys_plan.specs.declared.plan.Plan.{Plan}
use Rattle.stream_model.specs.Runs.{changes_in}
use Rattle.stream_model.specs.KeysTold.{told_fits, told_key}
use Rattle.ct_catalog.specs.Columns.{column_types, table_mode}
use Rattle.plan_rules.specs.Columns.{columns_at}
use Rattle.plan_rules.specs.Doings.{network}
use Rattle.plan_check.specs.Types.{fit_sink}
use Rattle.sound_plans.specs.Sound.{IsRuled}
use Rattle.job_text.specs.declared.orders.OrderLine.{OrderLine}
use Rattle.source_lines.specs.Run.{printed_by, whole_run}
use Rattle.source_lines.specs.declared.supply.ChangeFiles.{ChangeFiles}

-- the columns that a plan's sink sends
abbrev pub sent_columns : Plan → List ColTy
sent_columns plan = columns_at plan.sources plan.nodes (length plan.nodes)

-- they may go into its table
abbrev pub SinksFit : Type 0
SinksFit = (plan : Plan) → IsRuled plan → fit_sink (sent_columns plan) (column_types plan.sink) ≡ true

-- each row that a run over a sound plan has printed has these columns; where a `-D` into an upsert sink tells its key alone, those of the key
abbrev pub RunsPrintRows : Type 0
RunsPrintRows = (plan : Plan) → IsRuled plan → (limit : ℕ) (files : ChangeFiles) (orders : List OrderLine)
    → AllByRecursion (λ change. told_fits (told_key (table_mode plan.sink) change.kind) (sent_columns plan) change.row ≡ true)
    (changes_in (printed_by (whole_run (network plan) limit plan.sources files orders)))
