use Rattle.std.proofs.Common.{◌∙◌, arith, refl}
use Rattle.job_text.proofs.RecordEnds.{last_line, more_lines, none_behind}
use Rattle.job_text.proofs.counting.ends_lines.Goals as goal

pub loop-at-init : goal.loop-at-init
loop-at-init c = record { within = omega arith; more = λ some. refl; all = λ none. none_behind c.args.bytes.now none }

pub loop-at-preserved : goal.loop-at-preserved
loop-at-preserved c =
    let bytes = c.args.bytes.now in
    let inside = c.loop-at-test.true in
    let so_far = c.loop-at.invariant.more inside in
    let end = c.record_end-end.result in
    record {
      within = omega (arith, c.record_end-end.ensures.within);
      more = λ more. more_lines bytes c.loop-at.at end _ inside c.record_end-end.ensures.is so_far more;
      all = λ all. c.begins_behind-begins.ensures ∙ last_line bytes c.loop-at.at end _ inside c.record_end-end.ensures.is so_far all;
    }
