use Rattle.std.proofs.Common.{◌≡◌, ℕ, ◌+◌, List, take}
use Rattle.ct_change.specs.declared.change.Change.{Change}
use Rattle.op_rules.specs.Edges.{Edge}
use Rattle.session_channels.specs.Sending.{AllRoute, Carry, scanned_by}
use Rattle.session_channels.proofs.sending.scan_all.Given as goal

abbrev pub invariant-loop-done : goal.invariant-loop-done
invariant-loop-done l = record {
  carry : (edges : ℕ → Edge) (flight : ℕ → ℕ → ℕ → List Change) → AllRoute l.fn.channels.width l.routes.items edges → Carry l.fn.channels flight → Carry l.channels (scanned_by edges l.from l.change flight (take l.done l.scans));
  sent : l.channels.sent ≡ l.fn.channels.sent + l.done;
  width : l.channels.width ≡ l.fn.channels.width;
  edges : l.channels.edges ≡ l.fn.channels.edges;
}
