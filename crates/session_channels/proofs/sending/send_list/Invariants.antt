use Rattle.std.proofs.Common.{◌≡◌, ℕ, ◌+◌, List, length}
use Rattle.ct_change.specs.declared.change.Change.{Change}
use Rattle.op_rules.specs.Edges.{Edge}
use Rattle.session_channels.specs.Routes.{RoutesFor}
use Rattle.session_channels.specs.Sending.{Carry, sent_by}
use Rattle.session_channels.proofs.sending.send_list.Given as goal

abbrev pub invariant-loop-change : goal.invariant-loop-change
invariant-loop-change l = record {
  carry : (of : Edge) (flight : ℕ → ℕ → ℕ → List Change) → RoutesFor l.fn.channels.width l.route of → Carry l.fn.channels flight → Carry l.channels (sent_by of flight l.edge l.from l.yielded);
  sent : l.channels.sent ≡ l.fn.channels.sent + length l.yielded;
  width : l.channels.width ≡ l.fn.channels.width;
  edges : l.channels.edges ≡ l.fn.channels.edges;
}
