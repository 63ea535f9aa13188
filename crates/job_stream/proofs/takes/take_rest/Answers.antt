use Rattle.std.proofs.Common.{◌+◌, ◌-◌, ◌≡◌, length, refl, ap, ◌∙◌, arith}
use Rattle.std.proofs.lemmas.Result.{err_from_is_err_and}
use Rattle.job_stream.specs.Parts.{lines_run, rest_run}
use Rattle.job_stream.proofs.Chains.{goes_next, halts_next, goes_start}
use Rattle.job_stream.proofs.Going.{ahead_same, halts_same}
use Rattle.job_stream.proofs.Unfold.{file_lines, file_run, files_run, files_unfold, no_files, rest_files}
use Rattle.job_stream.proofs.takes.take_rest.Goals as goal

pub returns-in_err-taken-clause-halts : goal.returns-in_err-taken-clause-halts
returns-in_err-taken-clause-halts g c = let p = err_from_is_err_and c.from_residual.result c.from_residual.ensures.1 in rw (p.1, p.2) (λ sheet at plan limit p is same stands.
    let count = c.len-count.result in
    let place = c.files.place in
    let left = c.left_at-left.result in
    let files = c.files.files.items in
    let by = sheet.by_table in
    let many : count ≡ length c.args.files.now.items = let own = c.args.files.now.ok in let told = c.len-count.ensures in omega (arith, own, told) in
    let one : count - place ≡ (count - (place + 1)) + 1 = omega (arith, c.files-test.true) in
    halts_same sheet (files_run 0 count by plan limit p) (rest_run by plan limit p) p at at c.in_err-taken.field-0.0 (rest_files count c.args.files.now.items by plan limit p stands.files_are many)
    (halts_next sheet c.args.sources.now c.args.session c.args.files.now.items (files_run 0 count) (files_run place (count - place)) c.files.taken files at at (c.files.invariant.0 sheet at)
    (file_run place) (files_run (place + 1) (count - (place + 1))) at c.in_err-taken.field-0.0 (files_unfold place (count - place) (place + 1) (count - (place + 1)) one refl)
    (λ plan limit q is same here. halts_same sheet (lines_run place left by plan limit q) (file_run place by plan limit q) q at at c.in_err-taken.field-0.0
    (file_lines place left files by plan limit q here.files_are (c.left_at-left.ensures plan limit by)) (c.in_err-taken.ensures.halts sheet at plan limit q is same here)) plan limit p is same stands))

pub files-preserved : goal.files-preserved
files-preserved g c = (
  λ sheet at.
      let count = c.len-count.result in
      let place = c.files.place in
      let left = c.left_at-left.result in
      let files = c.files.files.items in
      let one : count - place ≡ (count - (place + 1)) + 1 = omega (arith, c.files-test.true) in
      goes_next sheet c.args.sources.now c.args.session c.args.files.now.items (files_run 0 count) (files_run place (count - place)) c.files.taken files at at (c.files.invariant.0 sheet at)
      (file_run place) (files_run (place + 1) (count - (place + 1))) c.in_ok-taken.taken _ at (files_unfold place (count - place) (place + 1) (count - (place + 1)) one refl)
      (λ plan limit p is same stands. ahead_same sheet plan limit (lines_run place left sheet.by_table plan limit p) (file_run place sheet.by_table plan limit p) _ p c.in_ok-taken.taken _ at at
      (file_lines place left files sheet.by_table plan limit p stands.files_are (c.left_at-left.ensures plan limit sheet.by_table)) (c.in_ok-taken.ensures.ok sheet at plan limit p is same stands)),
  c.in_ok-taken.ensures.may,
)

pub returns-clause-ok : goal.returns-clause-ok
returns-clause-ok g c = λ sheet at plan limit p is same stands.
    let count = c.len-count.result in
    let place = c.files.place in
    let a = c.files.invariant.0 sheet at plan limit p is same stands in
    let many : count ≡ length c.args.files.now.items = let own = c.args.files.now.ok in let told = c.len-count.ensures in omega (arith, own, told) in
    let none : count - place ≡ 0 = omega (arith, c.files-test.false) in
    record {
      place = a.place;
      goes = rest_files count c.args.files.now.items sheet.by_table plan limit p stands.files_are many ∙ a.goes ∙ no_files place (count - place) none sheet.by_table plan limit a.place;
      stands = a.stands;
      more = a.more;
      printed = a.printed;
      written = a.written;
      later = a.later;
    }

pub returns-clause-may : goal.returns-clause-may
returns-clause-may g c = c.files.invariant.1

pub files-init : goal.files-init
files-init g c = (
  λ sheet at.
      let count = c.len-count.result in
      goes_start sheet c.args.sources.now c.args.session c.args.files.now.items (files_run 0 count) (files_run 0 (count - 0)) at
      (λ by_table plan limit p. let same : count ≡ count - 0 = omega arith in ap (λ n. files_run 0 n by_table plan limit p) same),
  c.requires.ready,
)

pub take_many-requires : goal.take_many-requires
take_many-requires g c = record { ready = c.files.invariant.1 }
