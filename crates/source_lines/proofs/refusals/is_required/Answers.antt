use Rattle.std.proofs.Common.{◌∙◌, Some, ap, sym}
use Rattle.std.proofs.lemmas.Option.{slice_get-get_or}
use Rattle.source_lines.proofs.Nulls.{required_past, required_there}
use Rattle.source_lines.proofs.refusals.is_required.Goals as goal

pub returns-in-Some : goal.returns-in-Some
returns-in-Some c =
    let cols = c.args.cols.now in
    let found = c.in-Some.ensures.lookup in
    let there = slice_get-get_or cols c.args.column c.in-Some.col.now found.3.0 ∙ ap Some (sym found.1) in
    sym (required_there cols c.args.column c.in-Some.col.now there)

pub returns-in-None : goal.returns-in-None
returns-in-None c = sym (required_past c.args.cols.now c.args.column c.in-None.ensures.lookup.3)
