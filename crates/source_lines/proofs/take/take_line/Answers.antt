use Rattle.std.proofs.Common.{Err, ◌∙◌, ◌<◌, length, ap, refl, subst, sym, arith}
use Rattle.source_lines.specs.Taken.{IsRefused, unless_refused}
use Rattle.source_lines.proofs.Stand.{changed, found, refusal_at}
use Rattle.source_lines.proofs.take.take_line.Goals as goal

pub check-requires : goal.check-requires
check-requires c =
    let r = c.requires in
    let line = c.args.line in
    let within : line.table < length c.args.folds.now.items = let there = c.in-Some.ensures.variant.0 refl in let many = c.args.folds.now.ok in omega (arith, there, many) in
    let f = found r.0 c.args.folds.now.items r.1 line.table c.in-Some.folded.now r.2 within c.in-Some.ensures.value in
    (f.0, r.1 line.table, f.2, r.3 line.table)

pub returns-in-Ok-clause-ok : goal.returns-in-Ok-clause-ok
returns-in-Ok-clause-ok c = λ sources taken stand.
    let line = c.args.line in
    let within : line.table < length c.args.folds.now.items = let there = c.in-Some.ensures.variant.0 refl in let many = c.args.folds.now.ok in omega (arith, there, many) in
    let f = found sources c.args.folds.now.items taken line.table c.in-Some.folded.now stand within c.in-Some.ensures.value in
    let told = c.in-Ok.ensures.ok f.0 (taken line.table) f.2 in
    (refusal_at sources taken line f.0 f.1 ∙ told.0, changed sources c.args.folds.now.items taken f.0 line c.check.new.self stand f.1 told.1)

pub returns-in-Err-Refused-clause-refused : goal.returns-in-Err-Refused-clause-refused
returns-in-Err-Refused-clause-refused c = λ sources taken stand.
    let line = c.args.line in
    let within : line.table < length c.args.folds.now.items = let there = c.in-Some.ensures.variant.0 refl in let many = c.args.folds.now.ok in omega (arith, there, many) in
    let f = found sources c.args.folds.now.items taken line.table c.in-Some.folded.now stand within c.in-Some.ensures.value in
    let told = c.in-Err-Refused.ensures.refused c.in-Err-Refused.code (ap Err c.in-Err-Refused.field-0-is) f.0 (taken line.table) f.2 in
    subst (IsRefused c.refusal.result) (sym (ap (unless_refused c.args.feed c.args.number taken line) (refusal_at sources taken line f.0 f.1 ∙ told))) c.refusal.ensures
