use Rattle.std.proofs.Common.{refl, subst}
use Rattle.ct_io.specs.Written.{Appends, AppendsPart}
use Rattle.job_stream.specs.Early.{kept_lines}
use Rattle.job_stream.specs.Writing.{told}
use Rattle.job_stream.proofs.EarlyEnds.{kept_ends, kept_fails, kept_halts}
use Rattle.job_stream.proofs.Results.{err_weaker, ok_weaker}
use Rattle.job_stream.proofs.early.EarlySession.write.Goals as goal

pub tell_quiet-requires : goal.tell_quiet-requires
tell_quiet-requires g c =
    let r = c.requires.ready in
    let f = r.6 in
    record { ready = (r.0, r.1, f.state, r.5, f.stands.stands) }

pub returns-in-Ok-clause-ok : goal.returns-in-Ok-clause-ok
returns-in-Ok-clause-ok g c = ok_weaker c.tell_quiet.result c.tell_quiet.ensures.ok (λ next out plan limit p files is f.
    kept_ends c.args.sheet.now plan limit p c.args.self files f (told g.K.Sink.written g.K.Sink.faults c.args.out.now) (told g.K.Sink.written g.K.Sink.faults c.put_kept.new.out) (told g.K.Sink.written g.K.Sink.faults c.tell_quiet.new.out)
    (subst (λ l. Appends (g.K.Sink.written c.args.out.now) (g.K.Sink.written c.put_kept.new.out) (kept_lines l)) c.deref.ensures.value c.in-Ok.ensures.whole) c.put_kept.ensures.later next _ (out plan.sources files plan limit _ is refl f.stands))

pub returns-in-Ok-clause-halts : goal.returns-in-Ok-clause-halts
returns-in-Ok-clause-halts g c = err_weaker c.tell_quiet.result c.tell_quiet.ensures.halts (λ halt out plan limit p files is f.
    kept_halts c.args.sheet.now plan limit p c.args.self files f (told g.K.Sink.written g.K.Sink.faults c.args.out.now) (told g.K.Sink.written g.K.Sink.faults c.put_kept.new.out) (told g.K.Sink.written g.K.Sink.faults c.tell_quiet.new.out)
    (subst (λ l. Appends (g.K.Sink.written c.args.out.now) (g.K.Sink.written c.put_kept.new.out) (kept_lines l)) c.deref.ensures.value c.in-Ok.ensures.whole) c.put_kept.ensures.later halt (out plan.sources files plan limit _ is refl f.stands))

pub returns-in-Err-clause-halts : goal.returns-in-Err-clause-halts
returns-in-Err-clause-halts g c = λ plan limit p files is f. kept_fails c.args.sheet.now plan limit p c.args.self files f (told g.K.Sink.written g.K.Sink.faults c.args.out.now) (told g.K.Sink.written g.K.Sink.faults c.put_kept.new.out)
    (subst (λ l. AppendsPart (g.K.Sink.written c.args.out.now) (g.K.Sink.written c.put_kept.new.out) (kept_lines l)) c.deref.ensures.value c.put_kept.ensures.part) c.in-Err.ensures.rose
