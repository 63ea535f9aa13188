use Rattle.std.proofs.Common.{◌≡◌, ◌++◌}
use Rattle.job_text.specs.Printed.{fields_behind}
use Rattle.job_text.proofs.Texts.{key_texts}
use Rattle.job_text.proofs.lines.push_key_values.Given as goal

abbrev pub invariant-loop-i : goal.invariant-loop-i
invariant-loop-i l = l.line ++ fields_behind (key_texts l.key l.fn.tys l.fn.values l.i) ≡ l.initial.line ++ fields_behind (key_texts l.key l.fn.tys l.fn.values 0)
