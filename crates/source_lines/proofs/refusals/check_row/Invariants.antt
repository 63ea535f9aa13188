use Rattle.std.proofs.Common.{◌≡◌, map}
use Rattle.stream_model.specs.Tables.{null_refusal}
use Rattle.plan_rules.specs.Plans.{required_from}
use Rattle.source_lines.proofs.Nulls.{null_left}
use Rattle.source_lines.proofs.refusals.check_row.Given as goal

abbrev pub invariant-loop-i : goal.invariant-loop-i
invariant-loop-i l = null_refusal (required_from 0 (map (λ c. c.ty) l.cols)) l.row ≡ null_left l.cols l.row l.i
