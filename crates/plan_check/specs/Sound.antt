-- Sound plans: rules, each met or broken by each node.
use Rattle.std.specs.Prelude.{◌≡◌, ℕ, zero, suc, ◌+◌, ◌<◌, ◌≤◌, max, Bool, true, false, cond, List, [], ◌∷◌, map, length, Option, Some, None, unwrap_or}
use Rattle.ct_value.specs.declared.ty.ColTy.{ColTy}
use Rattle.phys_plan.specs.declared.plan.Plan.{Plan}
use Rattle.phys_plan.specs.declared.plan.Rule.{Rule}
use Rattle.phys_plan.specs.declared.plan.Rule.TheVariants as rule
use Rattle.plan_shape.specs.Shape.{has_shape}
use Rattle.plan_inferred.specs.declared.inferred.Inferred.{Inferred}
use Rattle.plan_inferred.specs.Inferred.{inferred}
use Rattle.plan_inferred.specs.Rules.{has_keys, has_kinds, has_update, is_exchanged, suits_sink}
use Rattle.plan_check.specs.Types.{all_types, has_types}

-- the columns that each node sends, by its number, with none at 0; a node that isn't well-typed counts as one without columns
abbrev pub columns_or_none : Option (List ColTy) → List ColTy
columns_or_none columns = unwrap_or columns []

abbrev pub sent_columns : List (Option (List ColTy)) → List (List ColTy)
sent_columns types = [] ∷ map columns_or_none types

-- what is inferred of a plan
abbrev pub inferred_of : Plan → Inferred
inferred_of plan = inferred (sent_columns (all_types plan.sources plan.nodes)) plan

-- whether a node meets a rule, by its number, from 1
abbrev pub meets : Rule → Plan → ℕ → Bool
meets rule.Shape plan v = has_shape plan v
meets rule.Types plan v = has_types plan v
meets rule.Keys plan v = has_keys (inferred_of plan) plan v
meets rule.Kinds plan v = has_kinds (inferred_of plan) plan v
meets rule.UpdateKind plan v = has_update (inferred_of plan) plan v
meets rule.Exchanged plan v = is_exchanged plan v
meets rule.SinkKey plan v = suits_sink (inferred_of plan) plan v

-- how many numbers are looked at: at least one, as what Shape says of the whole plan counts at node 1
abbrev pub looked_at : Plan → ℕ
looked_at plan = max 1 (length plan.nodes)

abbrev pub Meets : Rule → Plan → Type 0
Meets r plan = (v : ℕ) → 1 ≤ v → v ≤ looked_at plan → meets r plan v ≡ true

-- each node meets each rule
abbrev pub IsSound : Plan → Type 0
IsSound plan = (r : Rule) → Meets r plan

-- the place of a rule among the rules
abbrev pub place : Rule → ℕ
place rule.Shape = 0
place rule.Types = 1
place rule.Keys = 2
place rule.Kinds = 3
place rule.UpdateKind = 4
place rule.Exchanged = 5
place rule.SinkKey = 6

-- the first number, from 1, at which a test fails
pub record FailsFirst (test : ℕ → Bool) (v : ℕ) : Type 0 where
  pub positive : 1 ≤ v
  pub here : test v ≡ false
  pub before : (u : ℕ) → 1 ≤ u → u < v → test u ≡ true

-- the rule fails first at this node, and all nodes meet the rules before it
pub record IsFirstBroken (plan : Plan) (r : Rule) (v : ℕ) : Type 0 where
  pub first : FailsFirst (meets r plan) v
  pub looked : v ≤ looked_at plan
  pub earlier : (q : Rule) → place q < place r → Meets q plan

-- each node meets the first rules, so many
abbrev pub MeetsFirst : ℕ → Plan → Type 0
MeetsFirst many plan = (r : Rule) → place r < many → Meets r plan

-- the first number from which a test fails, of so many
abbrev pub first_failing : (ℕ → Bool) → ℕ → ℕ → Option ℕ
first_failing test from zero = None
first_failing test from (suc many) = cond (test from) (first_failing test (from + 1) many) (Some from)
