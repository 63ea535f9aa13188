use Rattle.std.proofs.Common.{◌≡◌, drop}
use Rattle.csv.specs.Records.{fields_of}
use Rattle.job_text.specs.Lines.{values_from}
use Rattle.job_text.proofs.Values.{behind, left_from}
use Rattle.job_text.proofs.line.row_of.Given as goal

abbrev pub invariant-loop-i : goal.invariant-loop-i
invariant-loop-i l = values_from 1 l.cols (drop l.first (fields_of l.fields)) ≡ behind l.values (left_from l.first l.cols (fields_of l.fields) l.i)
