use Rattle.std.proofs.Common.{◌+◌, ◌-◌, ◌≡◌, arith, refl}
use Rattle.std.proofs.lemmas.Result.{err_from_is_err_and}
use Rattle.job_stream.specs.Parts.{line_run, lines_run}
use Rattle.job_stream.proofs.Chains.{goes_end, goes_next, halts_next, goes_start}
use Rattle.job_stream.proofs.Unfold.{lines_unfold, no_lines}
use Rattle.job_stream.proofs.takes.take_many.Goals as goal

pub returns-in_err-taken-clause-halts : goal.returns-in_err-taken-clause-halts
returns-in_err-taken-clause-halts g c = let p = err_from_is_err_and c.from_residual.result c.from_residual.ensures.1 in rw (p.1, p.2) (λ sheet at.
    let left = c.lines.left in
    let one : left ≡ (left - 1) + 1 = omega (arith, c.lines-test.true) in
    halts_next sheet c.args.sources.now c.args.session c.args.files.now.items (lines_run c.args.place c.args.count) (lines_run c.args.place left) c.lines.taken c.lines.files.items at at (c.lines.invariant.0 sheet at)
    (line_run c.args.place) (lines_run c.args.place (left - 1)) at c.in_err-taken.field-0.0 (lines_unfold c.args.place left (left - 1) one) (c.in_err-taken.ensures.halts sheet at))

pub lines-preserved : goal.lines-preserved
lines-preserved g c = (
  λ sheet at.
      let left = c.lines.left in
      let one : left ≡ (left - 1) + 1 = omega (arith, c.lines-test.true) in
      goes_next sheet c.args.sources.now c.args.session c.args.files.now.items (lines_run c.args.place c.args.count) (lines_run c.args.place left) c.lines.taken c.lines.files.items at at (c.lines.invariant.0 sheet at)
      (line_run c.args.place) (lines_run c.args.place (left - 1)) c.in_ok-taken.taken _ at (lines_unfold c.args.place left (left - 1) one) (c.in_ok-taken.ensures.ok sheet at),
  c.in_ok-taken.ensures.may,
)

pub returns-clause-ok : goal.returns-clause-ok
returns-clause-ok g c = λ sheet at.
    let left = c.lines.left in
    let none : left ≡ 0 = omega (arith, c.lines-test.false) in
    goes_end sheet c.args.sources.now c.args.session c.args.files.now.items (lines_run c.args.place c.args.count) (lines_run c.args.place left) c.lines.taken c.lines.files.items at at (c.lines.invariant.0 sheet at) (no_lines c.args.place left none)

pub returns-clause-may : goal.returns-clause-may
returns-clause-may g c = c.lines.invariant.1

pub lines-init : goal.lines-init
lines-init g c = (
  λ sheet at.
      let all = lines_run c.args.place c.args.count in
      goes_start sheet c.args.sources.now c.args.session c.args.files.now.items all all at (λ by_table plan limit p. refl),
  c.requires.ready,
)

pub take_line-requires : goal.take_line-requires
take_line-requires g c = record { ready = c.lines.invariant.1 }
