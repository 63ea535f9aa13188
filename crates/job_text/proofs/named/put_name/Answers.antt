use Rattle.std.proofs.Common.{◌∙◌, Some, cond, ap}
use Rattle.std.specs.Str.{bytes_eq}
use Rattle.job_text.specs.Names.{place_of}
use Rattle.job_text.proofs.Names.{entered}
use Rattle.job_text.proofs.named.put_name.Goals as goal

pub returns : goal.returns
returns c = λ name.
    let key = c.in_ok-from_slice.field-0 in
    let old = c.args.places.now in
    entered key old c.insert.new.self c.args.place c.in_ok-insert.ensures.updates name
    ∙ ap (λ word. cond (bytes_eq word name) (Some c.args.place) (place_of old name)) c.in_ok-from_slice.ensures.items
