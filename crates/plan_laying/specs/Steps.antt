-- What stands at a node of a tree, as the code lays it.
use Rattle.std.specs.Prelude.{◌≡◌, ℕ, Bool, ◌&&◌, cond, Option, Some, None}
use Rattle.std.specs.List.{list_all}
use Rattle.ct_change.specs.declared.kind.KindSet.{KindSet}
use Rattle.rel_algebra.specs.Rel as r
use Rattle.rel_algebra.specs.Rel.{Unary, Binary, Rel, One, Two}
use Rattle.rel_algebra.specs.View.{rel_view, rels_view}
use Rattle.phys_plan.specs.declared.node.Op.{Op}
use Rattle.phys_plan.specs.declared.node.Op.TheVariants as op
use Rattle.plan_rules.specs.Phases.{has_parts}
use Rattle.plan_rules.specs.Roles.{unary_way, binary_way}
use Rattle.plan_laying.specs.declared.steps.Step.{Step}
use Rattle.plan_laying.specs.declared.steps.Step.TheVariants as step

-- it is what the tree says: a table, trees whose rows are put together, or the operator of its node, where bundles hold so many changes, with
-- its second input where it has one
abbrev pub IsStep : ℕ → Rel → Step → Type 0
IsStep mini_batch rel (step.Table source) = rel ≡ r.Scan source
IsStep mini_batch rel (step.All inputs) = rel ≡ r.Union (r.rels (rels_view inputs.now))
IsStep mini_batch rel (step.One operator) = (how : Unary) × (input : Rel) × (rel ≡ One how input) × (operator ≡ (unary_way how).op mini_batch)
IsStep mini_batch rel (step.Two operator right) = (how : Binary) × (left : Rel) × (rel ≡ Two how left (rel_view right.now)) × (operator ≡ (binary_way how).op)

-- the local group below an operator over changes of these kinds: below a group in bundles, where groups are taken in two phases and all its
-- calls have parts
abbrev pub local_of : Bool → Op → KindSet → Option Op
local_of two_phase (op.BatchGroup keys aggs) kinds = cond (two_phase && list_all (λ agg. has_parts kinds agg.call) aggs) (Some (op.LocalGroup keys aggs)) None
local_of two_phase operator kinds = None
