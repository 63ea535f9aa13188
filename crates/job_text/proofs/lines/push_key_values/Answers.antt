use Rattle.std.proofs.Common.{◌≡◌, ◌<◌, ◌∙◌, false, length, sym, arith}
use Rattle.std.proofs.lemmas.List.{get_or_default}
use Rattle.ct_change.specs.KeyRows.{is_among}
use Rattle.job_text.proofs.Texts.{key_texts_step}
use Rattle.job_text.proofs.lines.push_key_values.Goals as goal

pub loop-i-preserved : goal.loop-i-preserved
loop-i-preserved c =
    let key = c.args.key.now in
    let i = c.loop-i.i in
    let within = c.loop-i-test.true in
    let marks = c.in_ok-in_key.in_key.items in
    let b = c.index.result.now in
    let marked : i < length marks = omega (arith, within, c.in_ok-in_key.ensures.len) in
    let is : is_among key i ≡ b = sym (c.in_ok-in_key.ensures.told i within) ∙ get_or_default marks i false b marked ∙ sym c.index.ensures in
    key_texts_step key _ _ _ c.args.tys.now c.args.values.now i _ _ b c.requires.wide within c.index-values-i.is is c.in_ok-push_at_key.ensures c.loop-i.invariant
