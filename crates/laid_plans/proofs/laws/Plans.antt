-- A plan of the right shape, types and exchanges is sound with what is inferred of it.
use Rattle.std.specs.Prelude.{◌≡◌, ℕ, ◌≤◌, length, max, Option}
use Rattle.std.proofs.Common.{zero, suc, true, refl, sym, ap, subst, ◌∙◌, Some, None}
use Rattle.phys_plan.specs.declared.node.Node.{Node}
use Rattle.phys_plan.specs.declared.plan.Plan.{Plan}
use Rattle.phys_plan.specs.declared.plan.Rule.TheVariants as rule
use Rattle.phys_plan.specs.Reading.{numbered as item, numbered}
use Rattle.phys_plan.specs.Columns.{columns_in}
use Rattle.plan_inferred.specs.Rules.{has_keys, has_kinds, has_old_rows, has_update, says_kinds, says_update, suits_sink}
use Rattle.plan_shape.specs.Shaped.{MeetsShape, ShapedPlansHaveShape}
use Rattle.plan_check.specs.Sound.{inferred_of, IsSound, Meets}
use Rattle.plan_rules.specs.Behaviours.{has_rule}
use Rattle.sound_plans.proofs.laws.Shapes as s
use Rattle.laid_plans.specs.Inferred.{InferredKindsSuit, InferredPlansAreSound, with_inferred}
use Rattle.laid_plans.proofs.laws.Columns.{typed_same}
use Rattle.laid_plans.proofs.laws.Inferences.{exchanged_same, inferred_same, sink_same}
use Rattle.laid_plans.proofs.laws.Nodes.{item_read, many_from}
use Rattle.laid_plans.proofs.laws.Same.{both_hold, keys_said, kinds_hold, modes_said, update_holds}
use Rattle.laid_plans.proofs.laws.Shapes.{shape_stays}
use Rattle.laid_plans.proofs.laws.Tables.{edge_modes_many, keys_many}
use Rattle.laid_plans.proofs.laws.Updates.{old_rows_come}

module _ (shaped : ShapedPlansHaveShape) (plan : Plan) (rules : (v : ℕ) (node : Node) → numbered plan.nodes v ≡ Some node → has_rule node.op ≡ true)
    (kinds : InferredKindsSuit plan)
    (shape : Meets rule.Shape plan) (types : Meets rule.Types plan) (exchanged : Meets rule.Exchanged plan) (sink : Meets rule.SinkKey plan) where
  -- the plan with what is inferred of it
  abbrev made : Plan
  made = with_inferred plan

  -- the plan has the right shape
  meets : MeetsShape plan
  meets v low high = shape v low high

  -- of which the same is inferred
  inferred_is : inferred_of made ≡ inferred_of plan
  inferred_is = inferred_same (inferred_of plan).keys (inferred_of plan).modes plan

  -- a number that is looked at is looked at in the plan as it was
  looked : (v : ℕ) → v ≤ max 1 (length made.nodes) → v ≤ max 1 (length plan.nodes)
  looked v high = subst (λ n. v ≤ max 1 n) (many_from (inferred_of plan).keys 1 plan.nodes) high

  -- Keys
  keys_hold : (v : ℕ) → has_keys (inferred_of made) made v ≡ true
  keys_hold v =
      ap (λ x. has_keys x made v) inferred_is
      ∙ keys_said (inferred_of plan).keys plan.nodes (keys_many (columns_in (inferred_of plan).columns) plan.sources plan.edges plan.nodes) v

  -- a mode for each edge
  modes_many : length (inferred_of plan).modes ≡ length plan.edges
  modes_many = edge_modes_many (columns_in (inferred_of plan).columns) plan.sources plan.sink plan.nodes ∙ sym (s.edges_many plan meets shaped)

  -- Kinds
  kinds_are_said : (v : ℕ) → has_kinds (inferred_of made) made v ≡ true
  kinds_are_said v = ap (λ x. has_kinds x made v) inferred_is ∙ modes_said (inferred_of plan).modes says_kinds kinds_hold plan.edges modes_many v

  -- new rows alone don't come to a node that needs the old ones
  old_rows : (v : ℕ) (node : Option Node) → numbered plan.nodes v ≡ node → has_old_rows made.edges node ≡ true
  old_rows v None e = refl
  old_rows v (Some node) e = old_rows_come plan meets shaped rules (columns_in (inferred_of plan).columns) v node e

  -- the two ways to number nodes agree
  alike : (v : ℕ) → numbered plan.nodes v ≡ item plan.nodes v
  alike zero = refl
  alike (suc n) = refl

  -- UpdateKind
  updates_are_said : (v : ℕ) → has_update (inferred_of made) made v ≡ true
  updates_are_said v =
      ap (λ x. has_update x made v) inferred_is
      ∙ both_hold (says_update (item (inferred_of plan).modes v) (item made.edges v)) (has_old_rows made.edges (item made.nodes v))
      (modes_said (inferred_of plan).modes says_update update_holds plan.edges modes_many v)
      (item_read (inferred_of plan).keys (has_old_rows made.edges) (λ node keys. refl) plan.nodes v ∙ old_rows v (item plan.nodes v) (alike v))

  -- each rule
  sound : IsSound made
  sound rule.Shape v low high = shape_stays (inferred_of plan).keys (inferred_of plan).modes plan kinds v ∙ shape v low (looked v high)
  sound rule.Types v low high = typed_same (inferred_of plan).keys plan.sources plan.nodes plan.sink v ∙ types v low (looked v high)
  sound rule.Keys v low high = keys_hold v
  sound rule.Kinds v low high = kinds_are_said v
  sound rule.UpdateKind v low high = updates_are_said v
  sound rule.Exchanged v low high =
      exchanged_same (inferred_of plan).keys (inferred_of plan).modes plan v ∙ exchanged v low (looked v high)
  sound rule.SinkKey v low high =
      ap (λ x. suits_sink x made v) inferred_is ∙ sink_same (inferred_of plan).keys (inferred_of plan).modes plan (inferred_of plan) v ∙ sink v low (looked v high)

-- the law, on that of shapes
pub inferred_plans_are_sound : ShapedPlansHaveShape → InferredPlansAreSound
inferred_plans_are_sound shaped plan rules kinds shape types exchanged sink = sound shaped plan rules kinds shape types exchanged sink
