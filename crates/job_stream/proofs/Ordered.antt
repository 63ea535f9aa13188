-- A line of an order, along a run.
use Rattle.std.specs.Prelude.{◌≡◌, ℕ, Option}
use Rattle.std.proofs.Common.{Some, refl, sym, ap, None}
use Rattle.ct_value.specs.declared.codes.OrderCode.{OrderCode}
use Rattle.job_text.specs.declared.orders.OrderLine.{OrderLine}
use Rattle.phys_plan.specs.declared.plan.Plan.{Plan}
use Rattle.plan_rules.specs.Doings.{network}
use Rattle.stream_model.specs.Machine.{State}
use Rattle.source_lines.specs.Run as run
use Rattle.source_lines.specs.Run.{At, Went, disordered, job_of}
use Rattle.job_ending.specs.declared.halt.Halt.TheVariants.{Order}
use Rattle.job_stream.specs.declared.sheet.Sheet.{Sheet}
use Rattle.job_stream.specs.Parts.{order_run, refusal_at, verb_run}
use Rattle.job_stream.specs.Writing.{Halts, Told}
use Rattle.job_stream.proofs.Going.{halts_here}

module _ (sheet : Sheet) (plan : Plan) (limit : ℕ) (p : At State) (at : Told) (order : OrderLine) where
  abbrev Begun : Option OrderCode → Went (At State)
  Begun o = run.begins (job_of (network plan) limit) plan.sources sheet.by_table p order.line o (verb_run order.verb sheet.by_table plan limit p)

  -- it can't begin
  pub order_refused : (code : OrderCode) → Some code ≡ refusal_at order.verb sheet.by_table plan limit p → Halts sheet (order_run order sheet.by_table plan limit p) p at at (Order code order.line)
  order_refused code is = halts_here sheet (order_run order sheet.by_table plan limit p) p at (disordered code order.line) (Order code order.line) (ap Begun (sym is)) refl

  -- it begins
  pub order_begins : None ≡ refusal_at order.verb sheet.by_table plan limit p → order_run order sheet.by_table plan limit p ≡ verb_run order.verb sheet.by_table plan limit p
  order_begins is = ap Begun (sym is)
