-- The algebra of a plan: the tree of each of its nodes, without exchanges, normalizers and the sink.
use Rattle.std.specs.Prelude.{ℕ, List, [], length}
use Rattle.rel_algebra.specs.Rel.{Rel}
use Rattle.phys_plan.specs.Reading.{at, read_up, wires}
use Rattle.phys_plan.specs.declared.node.Node.{Node}
use Rattle.phys_plan.specs.declared.plan.Plan.{Plan}
use Rattle.plan_rules.specs.Roles.{nothing, role, tree_of}

-- those of all nodes, each made of those of its inputs
abbrev pub trees_of : List Node → List Rel
trees_of nodes = read_up (λ w below. tree_of (role w.op) below) nothing [] (wires nodes)

-- that of a node by its number, from 1
abbrev pub erased_at : Plan → ℕ → Rel
erased_at plan v = at nothing (trees_of plan.nodes) v

-- that of the last node
abbrev pub erased : Plan → Rel
erased plan = erased_at plan (length plan.nodes)
