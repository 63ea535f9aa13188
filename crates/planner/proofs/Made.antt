-- What is planned is sound, and its operators have rules.
use Rattle.std.specs.Prelude.{◌≡◌, ℕ, Bool, ◌⊎◌, cond, List, Option}
use Rattle.std.proofs.Common.{true, false, refl, sym, ap, subst, ◌∙◌, Some, None, inl, inr}
use Rattle.ct_value.specs.declared.codes.ScriptCode.{ScriptCode}
use Rattle.ct_change.specs.declared.kind.Declared.{Declared}
use Rattle.ct_change.specs.declared.kind.Declared.TheVariants.{Append, Retract, Upsert}
use Rattle.ct_catalog.specs.declared.settings.Materialize.{Materialize}
use Rattle.rel_algebra.specs.Rel.{Rel}
use Rattle.phys_plan.specs.Reading.{numbered}
use Rattle.phys_plan.specs.declared.node.Node.{Node}
use Rattle.phys_plan.specs.declared.plan.Plan.{Plan}
use Rattle.phys_plan.specs.declared.plan.Rule.TheVariants as rule
use Rattle.plan_inferred.specs.Rules.{way_at}
use Rattle.plan_inferred.specs.declared.inferred.Inferred.{Inferred}
use Rattle.plan_rules.specs.Behaviours.{has_rule}
use Rattle.plan_rules.specs.Pieces.{Top, bare, shown}
use Rattle.plan_shape.specs.Shaped.{ShapedPlansHaveShape}
use Rattle.plan_check.specs.Sound.{inferred_of, IsSound, Meets}
use Rattle.sound_plans.specs.Sound.{IsRuled}
use Rattle.laid_plans.specs.Inferred.{InferredPlansAreSound, with_inferred}
use Rattle.laid_plans.specs.Shapes.{HasTreeShape, IsLaidOut, LaidPlansHaveShape}
use Rattle.laid_plans.proofs.laws.Nodes.{node_read}
use Rattle.planner.specs.Planned.{IsLaidPlan, Planned, PlannedPlansAreRuled, made_by, sink_top}
use Rattle.planner.specs.Refusals.{below_sink, has_materializer, is_forced, refusal, sink_way, way_into}
use Rattle.plan_laying.specs.Topped.{topped_plan}
use Rattle.planner.specs.Tops.{top_by, top_of}
use Rattle.planner.proofs.Refused as plain
use Rattle.planner.proofs.Shown as behind
use Rattle.planner.proofs.laws.Topped.{laid_with}

-- ---- what stands before the sink

-- nothing
record IsBare (way_has : Bool) (top : Top) : Type 0 where
  top_is : top ≡ bare
  none : way_has ≡ false

-- a materializer, by an upsert table's key
record IsShown (mode : Declared) (of_sink : Option (List ℕ)) (way_has : Bool) (top : Top) : Type 0 where
  key : List ℕ
  is_mode : mode ≡ Upsert
  is_key : of_sink ≡ Some key
  top_is : top ≡ shown key
  some : way_has ≡ true

either : (inferred : Inferred) (force : Bool) (mode : Declared) (of_sink : Option (List ℕ)) (input : ℕ)
    → IsBare (has_materializer (way_into inferred force mode of_sink input)) (top_by (way_into inferred force mode of_sink input) of_sink)
    ⊎ IsShown mode of_sink (has_materializer (way_into inferred force mode of_sink input)) (top_by (way_into inferred force mode of_sink input) of_sink)
either inferred force Append of_sink input = inl (record { top_is = refl; none = refl })
either inferred force Retract of_sink input = inl (record { top_is = refl; none = refl })
either inferred force Upsert None input = inl (record { top_is = refl; none = refl })
either inferred force Upsert (Some key) input = go (has_materializer (way_at inferred force key input))
  where
    go : (b : Bool) → IsBare b (top_of (cond b (Some key) None)) ⊎ IsShown Upsert (Some key) b (top_of (cond b (Some key) None))
    go true = inr (record { key = key; is_mode = refl; is_key = refl; top_is = refl; some = refl })
    go false = inl (record { top_is = refl; none = refl })

-- an operator has a rule, whatever keys its node says
abbrev ruled_in : Option Node → Bool
ruled_in None = true
ruled_in (Some node) = has_rule node.op

-- a plan of the right shape, of which what comes to its sink suits the table
module _ (sound : InferredPlansAreSound) (plan : Plan) (has : HasTreeShape plan) (sink_key : Meets rule.SinkKey plan) where
  ruled_below : (v : ℕ) (o : Option Node) → numbered plan.nodes v ≡ o → ruled_in o ≡ true
  ruled_below v None e = refl
  ruled_below v (Some node) e = has.rules v node e

  each_ruled : (v : ℕ) (node : Node) → numbered (with_inferred plan).nodes v ≡ Some node → has_rule node.op ≡ true
  each_ruled v node e =
      sym (ap ruled_in e) ∙ node_read (inferred_of plan).keys ruled_in (λ node keys. refl) plan.nodes v ∙ ruled_below v (numbered plan.nodes v) refl

  ruled_with : IsRuled (with_inferred plan)
  ruled_with = record { sound = sound plan has.rules has.kinds has.shape has.types has.exchanged sink_key; rules = each_ruled }

module _ (laid : Plan) (rel : Rel) (is : IsLaidPlan laid rel) (setting : Materialize) where
  -- the plan of the tree, with that
  pub laid_so : IsLaidOut (topped_plan (sink_top laid setting) laid) rel
  laid_so = go (either (inferred_of laid) (is_forced setting) laid.sink.mode laid.sink.key (below_sink laid.nodes))
    where
      go : IsBare (has_materializer (sink_way (inferred_of laid) laid setting)) (sink_top laid setting) ⊎ IsShown laid.sink.mode laid.sink.key (has_materializer (sink_way (inferred_of laid) laid setting)) (sink_top laid setting)
          → IsLaidOut (topped_plan (sink_top laid setting) laid) rel
      go (inl b) = subst (λ (top : Top). IsLaidOut (topped_plan top laid) rel) (sym b.top_is) (record { two_phase = is.two_phase; top = bare; suits = tt; laid = is.laid_out })
      go (inr s) =
          subst (λ (top : Top). IsLaidOut (topped_plan top laid) rel) (sym s.top_is)
          (record { two_phase = is.two_phase; top = shown s.key; suits = behind.suits_sink laid rel is setting s.key s.is_mode s.is_key; laid = laid_with s.key laid rel is.two_phase is.laid_out })

  module _ (shapes : LaidPlansHaveShape) (sound : InferredPlansAreSound) (shaped : ShapedPlansHaveShape) (accepted : refusal (inferred_of laid) laid setting ≡ None) where
    pub made_is_ruled : IsRuled (with_inferred (topped_plan (sink_top laid setting) laid))
    made_is_ruled = go (either (inferred_of laid) (is_forced setting) laid.sink.mode laid.sink.key (below_sink laid.nodes))
      where
        go : IsBare (has_materializer (sink_way (inferred_of laid) laid setting)) (sink_top laid setting) ⊎ IsShown laid.sink.mode laid.sink.key (has_materializer (sink_way (inferred_of laid) laid setting)) (sink_top laid setting)
            → IsRuled (with_inferred (topped_plan (sink_top laid setting) laid))
        go (inl b) =
            subst (λ (top : Top). IsRuled (with_inferred (topped_plan top laid))) (sym b.top_is)
            (ruled_with sound laid (plain.has laid rel is setting accepted shapes shaped b.none) (plain.sink_key laid rel is setting accepted shapes shaped b.none))
        go (inr s) =
            subst (λ (top : Top). IsRuled (with_inferred (topped_plan top laid))) (sym s.top_is)
            (ruled_with sound (topped_plan (shown s.key) laid) (behind.has laid rel is setting s.key s.is_mode s.is_key shapes shaped accepted s.some)
            (behind.sink_key laid rel is setting s.key s.is_mode s.is_key shapes shaped accepted s.some))

    pub made_is_sound : IsSound (with_inferred (topped_plan (sink_top laid setting) laid))
    made_is_sound = made_is_ruled.sound

-- ---- the law

-- what is planned isn't refused
pub by_made : (laid plan : Plan) (code : Option ScriptCode) (top : Top) → made_by laid code top ≡ Planned plan → (code ≡ None) × (with_inferred (topped_plan top laid) ≡ plan)
by_made laid plan (Some code) top e = absurd (cc)
by_made laid plan None top e = (refl, cc)

pub planned_is_ruled : LaidPlansHaveShape → InferredPlansAreSound → ShapedPlansHaveShape → PlannedPlansAreRuled
planned_is_ruled shapes sound shaped laid rel setting plan is e =
    let m = by_made laid plan (refusal (inferred_of laid) laid setting) (sink_top laid setting) e in
    subst IsRuled m.1 (made_is_ruled laid rel is setting shapes sound shaped m.0)
