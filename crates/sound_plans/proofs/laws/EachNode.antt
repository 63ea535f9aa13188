-- Each node of a sound plan, by what is known of its operator.
use Rattle.std.specs.Prelude.{◌≡◌, ℕ, ◌<◌, slice_get}
use Rattle.std.proofs.Common.{zero, suc, refl, arith, Some}
use Rattle.phys_plan.specs.declared.node.Node.{Node}
use Rattle.phys_plan.specs.declared.plan.Plan.{Plan}
use Rattle.phys_plan.specs.Reading.{numbered}
use Rattle.mode_infer.specs.Kinds.{asked}
use Rattle.sound_plans.specs.Promises.{Laws}
use Rattle.sound_plans.specs.Sound.{IsRuled, SoundPlansSuit}
use Rattle.sound_plans.proofs.laws.Agreed.{AreProper, meets}
use Rattle.sound_plans.proofs.laws.Asked.{AsksFor}
use Rattle.sound_plans.proofs.laws.Lawful.{IsOverProper, LawfulAt, lawful}
use Rattle.sound_plans.proofs.laws.Shapes as s
use Rattle.sound_plans.proofs.laws.Stands.{NodeStands}

module _ (laws : Laws) (plan : Plan) (ruled : IsRuled plan) where
  by_op : (v : ℕ) (node : Node) → IsOverProper laws plan ruled v node → LawfulAt laws plan ruled v node node.op
  by_op v node over = (lawful node.op (ruled.rules v node over.there)).at laws plan ruled v node over refl

  -- by the numbers below a bound
  up_to : (bound v : ℕ) (node : Node) → v < bound → numbered plan.nodes v ≡ Some node → NodeStands laws plan ruled v node
  up_to zero v node l e = absurd (omega arith)
  up_to (suc bound) v node l e =
      (by_op v node (record {
        there = e;
        lower = λ w other k f. (up_to bound w other (omega (arith, k, l)) f).proper;
        proper = λ p input h.
            let there = (s.input_there plan (meets laws plan ruled) laws.shaped v node p input e h).1 in
            (up_to bound input there.0 (let k = there.2 in omega arith) there.1).proper;
      })).stands

  pub node_stands : (v : ℕ) (node : Node) → numbered plan.nodes v ≡ Some node → NodeStands laws plan ruled v node
  node_stands v node e = up_to (suc v) v node (omega arith) e

  pub proper_inputs : (v : ℕ) (node : Node) → numbered plan.nodes v ≡ Some node → AreProper laws plan ruled node.inputs
  proper_inputs v node e p input h = let there = (s.input_there plan (meets laws plan ruled) laws.shaped v node p input e h).1 in (node_stands input there.0 there.1).proper

  is_lawful : (v : ℕ) (node : Node) → numbered plan.nodes v ≡ Some node → LawfulAt laws plan ruled v node node.op
  is_lawful v node e = by_op v node (record { there = e; lower = λ w other k f. (node_stands w other f).proper; proper = proper_inputs v node e })

  pub asks : (v : ℕ) (node : Node) (p input : ℕ) → numbered plan.nodes v ≡ Some node → slice_get node.inputs p ≡ Some input → AsksFor plan input (asked node.op p)
  asks v node p input e h = (is_lawful v node e).asks p input h

pub sound_plans_suit : Laws → SoundPlansSuit
sound_plans_suit laws plan ruled v node e = (is_lawful laws plan ruled v node e).suits
