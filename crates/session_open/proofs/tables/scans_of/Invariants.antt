use Rattle.std.proofs.Common.{◌≡◌, ℕ, List}
use Rattle.ct_value.specs.declared.ty.ColTy.{ColTy}
use Rattle.plan_rules.specs.Plans.{Doing, network_of}
use Rattle.session_core.specs.LaidOut.{scans_below}
use Rattle.session_open.proofs.tables.scans_of.Given as goal

abbrev pub invariant-loop-node : goal.invariant-loop-node
invariant-loop-node l = (of : ℕ → List ColTy) (doing : ℕ → Doing) → l.scans ≡ scans_below (network_of of doing l.plan) l.table l.node
