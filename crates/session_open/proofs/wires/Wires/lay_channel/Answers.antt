use Rattle.std.proofs.Common.{◌≡◌, List, true, false, Some, slice_get, sym, ap, subst, ◌∙◌, arith}
use Rattle.std.proofs.lemmas.Option.{slice_get-get_or}
use Rattle.stream_model.specs.Drain.{channels_to}
use Rattle.session_core.specs.declared.wiring.Stage.{Stage}
use Rattle.session_open.specs.Wired.{Lays}
use Rattle.session_open.proofs.Stages.{lays_channel, lays_no_channel}
use Rattle.session_open.proofs.wires.Wires.lay_channel.Goals as goal

pub returns-then-not-joins : goal.returns-then-not-joins
returns-then-not-joins c = λ g wires.
    let route = c.index.result.now in
    let at : slice_get c.args.self.now.routes.items c.args.edge ≡ Some route = slice_get-get_or c.args.self.now.routes.items c.args.edge route c.requires.edge ∙ ap Some (sym c.index.ensures) in
    lays_no_channel g c.args.stages.now.items c.args.edge c.args.from c.args.to (omega (arith, c.requires.from, wires.subtasks)) (omega (arith, c.requires.to, wires.subtasks))
    (sym c.if-not-joins.true ∙ c.joins.ensures g.subtasks (g.edge c.args.edge) (wires.routes c.args.edge route at))

pub returns : goal.returns
returns c = λ g wires.
    let route = c.index.result.now in
    let at : slice_get c.args.self.now.routes.items c.args.edge ≡ Some route = slice_get-get_or c.args.self.now.routes.items c.args.edge route c.requires.edge ∙ ap Some (sym c.index.ensures) in
    subst (λ (l : List Stage). Lays g c.args.stages.now.items l (channels_to g c.args.edge c.args.from c.args.to 1)) (sym c.in_ok-push.ensures.items)
    (lays_channel g c.args.stages.now.items c.args.edge c.args.from c.args.to (omega (arith, c.requires.edge, wires.routes_many)) (omega (arith, c.requires.from, wires.subtasks)) (omega (arith, c.requires.to, wires.subtasks))
    (sym c.if-not-joins.false ∙ c.joins.ensures g.subtasks (g.edge c.args.edge) (wires.routes c.args.edge route at)))
