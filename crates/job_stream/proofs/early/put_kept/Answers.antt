use Rattle.std.proofs.Common.{◌≡◌, ◌+◌, ◌++◌, drop, arith, ap, sym, ◌∙◌}
use Rattle.ct_io.proofs.laws.Pieces.{part_in_piece, up_to_piece}
use Rattle.job_stream.specs.Early.{kept_lines}
use Rattle.job_stream.proofs.Items.{item_next}
use Rattle.job_stream.proofs.early.put_kept.Goals as goal

pub returns-in_err-put_all-clause-part : goal.returns-in_err-put_all-clause-part
returns-in_err-put_all-clause-part g c =
    let all = c.args.kept.now in
    let i = c.stages.stage-index in
    let next = item_next all i c.stage-item.result c.stages-test.true c.stage-item.is in
    let is : kept_lines (drop i all) ≡ c.written.result.now ++ kept_lines (drop (i + 1) all) = ap kept_lines next ∙ ap (λ l. l ++ kept_lines (drop (i + 1) all)) (sym c.written.ensures) in
    part_in_piece _ _ _ (kept_lines all) (kept_lines (drop i all)) c.written.result.now (kept_lines (drop (i + 1) all)) c.stages.invariant.taken is c.in_err-put_all.ensures.part

pub stages-preserved : goal.stages-preserved
stages-preserved g c =
    let all = c.args.kept.now in
    let i = c.stages.stage-index in
    let next = item_next all i c.stage-item.result c.stages-test.true c.stage-item.is in
    let is : kept_lines (drop i all) ≡ c.written.result.now ++ kept_lines (drop (i + 1) all) = ap kept_lines next ∙ ap (λ l. l ++ kept_lines (drop (i + 1) all)) (sym c.written.ensures) in
    record {
      taken = up_to_piece _ _ _ (kept_lines all) (kept_lines (drop i all)) c.written.result.now (kept_lines (drop (i + 1) all)) c.stages.invariant.taken is c.in_ok-put_all.ensures.whole;
      later = let was = c.stages.invariant.later in let now = c.in_ok-put_all.ensures.cause.later in omega (arith, was, now);
    }
