use Rattle.std.proofs.Common.{◌≡◌, ◌+◌, ◌-◌, length, refl, ap, ◌∙◌, arith}
use Rattle.source_lines.specs.Run.{and_then}
use Rattle.job_stream.proofs.Unfold.{file_lines, files_run, files_unfold, no_files, rest_files}
use Rattle.job_stream.proofs.early.EarlySession.take_rest.Goals as goal

pub files-init : goal.files-init
files-init g c = λ plan limit p here.
    let count = c.len-count.result in
    record { place = p; goes = (let same : count ≡ count - 0 = omega arith in ap (λ n. files_run 0 n c.args.sheet.now.by_table plan limit p) same); silent = refl; early = here }

pub take_file-requires : goal.take_file-requires
take_file-requires g c = let r = c.requires.ready in let t = c.files.invariant r.0 r.1 r.2 r.3 in record { ready = (r.0, r.1, t.place, t.early) }

pub files-preserved : goal.files-preserved
files-preserved g c = λ plan limit p here.
    let by = c.args.sheet.now.by_table in
    let count = c.len-count.result in
    let place = c.files.place in
    let t = c.files.invariant plan limit p here in
    let v = c.in_ok-early.ensures plan limit t.place t.early in
    let one : count - place ≡ (count - (place + 1)) + 1 = omega (arith, c.files-test.true) in
    let u = files_unfold place (count - place) (place + 1) (count - (place + 1)) one refl by plan limit t.place in
    let goes = file_lines place c.left_at-left.result c.files.files.items by plan limit t.place t.early.stands.files_are (c.left_at-left.ensures plan limit by) ∙ v.goes in
    record { place = v.place; goes = t.goes ∙ u.is ∙ ap (λ w. and_then w u.tail) goes ∙ u.rest_is v.place goes; silent = v.silent ∙ t.silent; early = v.early }

pub returns : goal.returns
returns g c = λ plan limit p here.
    let by = c.args.sheet.now.by_table in
    let count = c.len-count.result in
    let place = c.files.place in
    let t = c.files.invariant plan limit p here in
    let many : count ≡ length c.args.files.now.items = let own = c.args.files.now.ok in let told = c.len-count.ensures in omega (arith, own, told) in
    let none : count - place ≡ 0 = omega (arith, c.files-test.false) in
    record { place = t.place; goes = rest_files count c.args.files.now.items by plan limit p here.stands.files_are many ∙ t.goes ∙ no_files place (count - place) none by plan limit t.place; silent = t.silent; early = t.early }
