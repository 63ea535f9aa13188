use Rattle.session_core.proofs.Wires.{get_at}
use Rattle.session_core.proofs.wiring.Wiring.joins.Goals as goal

pub returns : goal.returns
returns c = λ g limit laid.
    let route = c.index.result.now in
    c.joins.ensures g.subtasks (g.edge c.args.edge) (laid.routes c.args.edge route (get_at c.args.self.now.routes.items c.args.edge route c.requires.edge c.index.ensures))
