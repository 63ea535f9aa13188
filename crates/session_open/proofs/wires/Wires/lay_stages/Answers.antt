use Rattle.std.proofs.Common.{refl}
use Rattle.stream_model.specs.Drain.{bundles_at, channels_into}
use Rattle.session_open.specs.Wired.{node_part}
use Rattle.session_open.proofs.Stages.{lays_more}
use Rattle.session_open.proofs.wires.Wires.lay_stages.Goals as goal

pub returns : goal.returns
returns c = λ g wires.
    lays_more g c.args.stages.now.items c.lay_node.new.stages.items c.lay_bundles.new.stages.items (channels_into g c.args.node 1 g.count) (bundles_at g c.args.node (g.bundle c.args.node)) (node_part g c.args.node)
    (c.in_ok-lay_node.ensures g wires) (c.in_ok-lay_bundles.ensures g wires) refl
