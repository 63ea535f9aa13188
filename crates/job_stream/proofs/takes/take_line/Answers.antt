use Rattle.std.proofs.Common.{◌≡◌, ◌<◌, Some, length, slice_get, refl, ap, sym, subst, ◌∙◌, arith, [], ◌∷◌, false}
use Rattle.std.proofs.lemmas.Option.{slice_get-get_or}
use Rattle.job_ending.specs.declared.halt.Halt.{Halt}
use Rattle.job_stream.specs.Parts.{line_run}
use Rattle.job_stream.specs.Writing.{Halts}
use Rattle.job_stream.proofs.Taken.{file_is, line_ahead, line_halts, no_file, none_past}
use Rattle.stream_model.specs.Machine.{State}
use Rattle.source_lines.specs.Run.{At}
use Rattle.job_stream.proofs.takes.take_line.Goals as goal

pub returns-in-None-clause-ok : goal.returns-in-None-clause-ok
returns-in-None-clause-ok g c = λ sheet at plan limit p is same stands.
    let files = c.args.files.now in
    no_file sheet plan limit p c.args.place at c.args.session files.items stands (none_past files.items c.args.place (λ l. let many = files.ok in let none = c.in-None.ensures.variant.1 (omega (arith, l, many)) in cc (none)))

pub returns-in-Ok-clause-ok : goal.returns-in-Ok-clause-ok
returns-in-Ok-clause-ok g c = λ sheet at plan limit p is same stands.
    let files = c.args.files.now in
    let file = c.in-Some.lines.now in
    let within : c.args.place < length files.items = let there = c.in-Some.ensures.variant.0 refl in let many = files.ok in omega (arith, there, many) in
    let found : slice_get files.items c.args.place ≡ Some file = slice_get-get_or files.items c.args.place file within ∙ ap Some (sym c.in-Some.ensures.value) in
    line_ahead sheet plan limit p c.args.place at files.items file stands.files_are found c.in-Ok.next c.take_next.new.lines _ refl
    (c.in-Ok.ensures.ok plan limit sheet.by_table p c.args.place same stands.stands (file_is sheet plan limit p c.args.place at files.items file stands.files_are found))

pub returns-in-Err-clause-halts : goal.returns-in-Err-clause-halts
returns-in-Err-clause-halts g c = λ sheet at plan limit p is same stands.
    let files = c.args.files.now in
    let file = c.in-Some.lines.now in
    let within : c.args.place < length files.items = let there = c.in-Some.ensures.variant.0 refl in let many = files.ok in omega (arith, there, many) in
    let found : slice_get files.items c.args.place ≡ Some file = slice_get-get_or files.items c.args.place file within ∙ ap Some (sym c.in-Some.ensures.value) in
    subst (λ (halt : Halt). Halts sheet (line_run c.args.place sheet.by_table plan limit p) p at at halt) (sym c.halt_at.ensures)
    (line_halts sheet plan limit p c.args.place at files.items file stands.files_are found c.in-Err.fault
    (c.in-Err.ensures.stopped plan limit sheet.by_table p c.args.place same stands.stands (file_is sheet plan limit p c.args.place at files.items file stands.files_are found)))

pub returns-in-Ok-clause-may : goal.returns-in-Ok-clause-may
returns-in-Ok-clause-may g c =
    let r = c.requires.ready in
    let at : At State = record { state = r.2; files = c.in-Some.lines.now ∷ [] } in
    let taken = c.in-Ok.ensures.ok r.0 r.1 false at 0 r.3 r.4 refl in
    (r.0, r.1, taken.state, r.3, taken.stands)
