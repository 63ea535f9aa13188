use Rattle.std.proofs.Common.{Err, ap, subst, sym}
use Rattle.std.specs.List.{AllByRecursion}
use Rattle.std.specs.Prelude.{IsTrue, List}
use Rattle.ct_value.specs.declared.ty.Ty.{Ty}
use Rattle.ct_field.specs.Numbers.{is_type}
use Rattle.exec_core.proofs.laws.Rows.{sink_types_exist}
use Rattle.job_stream.proofs.Stepped.{handed_wide, stands_out}
use Rattle.job_stream.proofs.steps.hand_out.Goals as goal

pub put_items-requires-clause-wide : goal.put_items-requires-clause-wide
put_items-requires-clause-wide g c =
    let r = c.requires.ready in
    handed_wide r.0 r.1 r.2 c.hand_over.new.to r.5.items c.args.session c.args.sheet.now r.4 r.5.stands (c.hand_over.ensures.items r.0 r.1 r.2 r.5.items r.5.stands)

pub put_items-requires-clause-types : goal.put_items-requires-clause-types
put_items-requires-clause-types g c =
    let r = c.requires.ready in
    subst (λ (l : List Ty). AllByRecursion (λ ty. IsTrue (is_type ty)) l) (sym r.4.types) (sink_types_exist r.0 r.5.stands.ruled.sound)

pub returns-in-Ok-clause-ok : goal.returns-in-Ok-clause-ok
returns-in-Ok-clause-ok g c = λ plan limit handed s stands.
    let out = stands_out plan limit handed c.hand_over.new.to s c.args.session c.hand_over.new.self stands (c.hand_over.ensures.items plan limit handed stands.items stands.stands) (c.hand_over.ensures.stands plan limit handed stands.items stands.stands) in
    record { stands = out.1; more = c.hand_over.new.to; printed = out.0; written = c.in-Ok.ensures.whole; later = c.in-Ok.ensures.later }

pub returns-in-Err-Failed-clause-halts : goal.returns-in-Err-Failed-clause-halts
returns-in-Err-Failed-clause-halts g c = λ plan limit handed s stands.
    let out = stands_out plan limit handed c.hand_over.new.to s c.args.session c.hand_over.new.self stands (c.hand_over.ensures.items plan limit handed stands.items stands.stands) (c.hand_over.ensures.stands plan limit handed stands.items stands.stands) in
    record { more = c.hand_over.new.to; printed = out.0; runs = λ ending. record { cause = c.in-Err-Failed.ensures.failed (ap Err c.in-Err-Failed.field-0-is); part = c.in-Err-Failed.ensures.part; whole = λ free. absurd (cc (free)) } }

pub returns-clause-halts : goal.returns-clause-halts
returns-clause-halts g c = λ plan limit handed s stands.
    let out = stands_out plan limit handed c.hand_over.new.to s c.args.session c.hand_over.new.self stands (c.hand_over.ensures.items plan limit handed stands.items stands.stands) (c.hand_over.ensures.stands plan limit handed stands.items stands.stands) in
    record { more = c.hand_over.new.to; printed = out.0; runs = λ ending. record { cause = tt; part = c.in-Err-Memory.ensures.part; whole = λ free. absurd (cc (free)) } }
