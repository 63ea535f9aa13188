use Rattle.std.proofs.Common.{◌≡◌, ◌+◌, List, ◌∷◌, drop, subst}
use Rattle.stream_model.specs.Drain.{Stage}
use Rattle.session_core.specs.LaidOut.{stage_of}
use Rattle.session_core.proofs.Wires.{drop_stage}
use Rattle.session_core.proofs.wiring.Wiring.stage.Goals as goal

pub returns-clause-next : goal.returns-clause-next
returns-clause-next c = λ g limit laid.
    subst (λ (l : List Stage). drop c.args.number l ≡ stage_of c.index.result.now ∷ drop (c.args.number + 1) l) laid.stages_are
    (drop_stage c.args.self.now.stages.items c.args.number c.index.result.now c.requires c.index.ensures)
