use Rattle.std.proofs.Common.{length, ap, arith}
use Rattle.std.proofs.lemmas.List.{length-map}
use Rattle.session_core.specs.LaidOut.{stage_of}
use Rattle.session_core.proofs.session.Session.stage.Goals as goal

pub stage-requires : goal.stage-requires
stage-requires b c =
    let r = c.requires in
    let laid = r.4.keeps.laid in
    omega (arith, r.5, ap length laid.stages_are, length-map c.args.self.now.wiring.stages.items stage_of)
