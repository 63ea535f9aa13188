-- What follows of an operator's rule and role, whatever these are.
use Rattle.std.proofs.Common.{◌≡◌, ℕ, [], Option, Some, None, refl, ap}
use Rattle.op_rules.specs.Rules.{Rule}
use Rattle.op_rules.specs.Tasks.{Task}
use Rattle.phys_plan.specs.declared.node.Op.{Op}
use Rattle.phys_plan.specs.declared.node.Op.TheVariants as op
use Rattle.plan_rules.specs.Around.{Around, second}
use Rattle.plan_rules.specs.Behaviours.{rule_of, Behaviour, behaviour, behaviour_by, doing_of, ports_by, range_types_by, TakesBy}
use Rattle.plan_rules.specs.Plans.{scan_of}
use Rattle.plan_rules.specs.Roles.{Role, role}

-- a scan has no rule
scan_rule : (o : Op) (source : ℕ) → scan_of o ≡ Some source → rule_of o ≡ None
scan_rule (op.Scan table) source e = refl
scan_rule _ source e = absurd (cc)

-- so it has no behaviour
pub scans_have_none : (o : Op) (around : Around) (source : ℕ) → scan_of o ≡ Some source → behaviour o around ≡ None
scans_have_none o around source e = ap (λ (rule : Option (Around → Rule)). behaviour_by rule (role o) around) (scan_rule o source e)

-- and opens with nothing
pub scans_open : (o : Op) (around : Around) (source j : ℕ) → scan_of o ≡ Some source → (doing_of (behaviour o around)).opening j ≡ []
scans_open o around source j e = ap (λ (b : Option Behaviour). (doing_of b).opening j) (scans_have_none o around source e)

-- the types of the row at which a node is out of range go by the columns of its first two inputs
pub types_told : (rule : Option (Around → Rule)) (r : Role) (around : Around) → range_types_by rule r around.columns (second around).columns ≡ (doing_of (behaviour_by rule r around)).range_types
types_told None r around = refl
types_told (Some rule) r around = refl

-- a node whose ports take what their edges carry has as many as its rule
pub ports_taken : (b : Option Behaviour) (task : Task) → TakesBy b task → task.ports ≡ ports_by b
ports_taken None task t = absurd t
ports_taken (Some b) task t = t.0
