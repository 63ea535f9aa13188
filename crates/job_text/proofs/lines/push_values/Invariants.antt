use Rattle.std.proofs.Common.{◌≡◌, ◌++◌, drop}
use Rattle.job_text.specs.Printed.{field_texts, fields_behind}
use Rattle.job_text.proofs.lines.push_values.Given as goal

abbrev pub invariant-loop-i : goal.invariant-loop-i
invariant-loop-i l = l.line ++ fields_behind (field_texts (drop l.i l.fn.tys) (drop l.i l.fn.values)) ≡ l.initial.line ++ fields_behind (field_texts l.fn.tys l.fn.values)
