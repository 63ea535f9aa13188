use Rattle.std.proofs.Common.{◌≡◌, ◌≤◌, ◌+◌, drop, length}
use Rattle.csv.specs.Records.{fields_of}
use Rattle.job_text.specs.Lines.{key_fields, key_values}
use Rattle.job_text.proofs.Values.{behind, key_left}
use Rattle.job_text.proofs.line.key_row_of.Given as goal

abbrev pub invariant-column : goal.invariant-column
invariant-column l = record {
  place : l.place ≤ l.i + l.first;
  so_far : key_values l.key 0 l.cols (key_fields l.key (length l.cols) (drop l.first (fields_of l.fields))) ≡ behind l.values (key_left l.key l.whole l.cols (fields_of l.fields) l.i l.place);
}
