-- What the operators of a sound plan ask of what is around them holds, where the nodes below are proper.
use Rattle.std.specs.Prelude.{◌≡◌, ◌==◌, ℕ, Bool, List, map, slice_get}
use Rattle.std.proofs.Common.{false, [], ◌∷◌, refl, sym, ap, subst, ◌∙◌, Some}
use Rattle.rel_algebra.specs.declared.agg.Agg.{Agg}
use Rattle.rel_algebra.specs.declared.sort.SortCol.{SortCol}
use Rattle.phys_plan.specs.declared.node.Node.{Node}
use Rattle.phys_plan.specs.declared.node.Op.{Op}
use Rattle.phys_plan.specs.declared.node.Op.TheVariants as op
use Rattle.phys_plan.specs.declared.plan.Plan.{Plan}
use Rattle.phys_plan.specs.Reading.{numbered}
use Rattle.plan_rules.specs.Around.{Around, local_of}
use Rattle.plan_rules.specs.Behaviours.{Suits}
use Rattle.plan_rules.specs.Doings.{around_of}
use Rattle.plan_rules.specs.Plans.{HasShape}
use Rattle.plan_shape.specs.Shape.{takes as ports_of}
use Rattle.sound_plans.specs.Agrees.{Agrees}
use Rattle.sound_plans.specs.Outputs.{Output, around_by}
use Rattle.sound_plans.specs.Promises.{Laws}
use Rattle.sound_plans.specs.Sound.{IsRuled}
use Rattle.sound_plans.proofs.laws.Agreed as agreed
use Rattle.sound_plans.proofs.laws.Consumers.{by_test}
use Rattle.sound_plans.proofs.laws.Groups.{as_group, groups_fit}
use Rattle.sound_plans.proofs.laws.Normalizes.{normalizes_fit}
use Rattle.sound_plans.proofs.laws.Outputs.{around_is, around_parts, output_at}
use Rattle.sound_plans.proofs.laws.Phases.{local_groups_fit, merging_groups_fit}
use Rattle.sound_plans.proofs.laws.Shapes as shapes
use Rattle.sound_plans.proofs.laws.Stands.{AreLower, first_rows, grouping_there, lower_proper, only_plain}
use Rattle.sound_plans.proofs.laws.TopN.{topns_fit}

module _ (laws : Laws) (plan : Plan) (ruled : IsRuled plan) where
  shape : HasShape plan
  shape = shapes.shape plan (agreed.meets laws plan ruled) laws.shaped

  -- what isn't a group in bundles takes rows
  plain : (v : ℕ) (node : Node) → numbered plan.nodes v ≡ Some node → {o : Op} → node.op ≡ o → shapes.takes_parts o ≡ false → agreed.ArePlain laws plan ruled node.inputs
  plain v node e is n = agreed.all_plain laws plan ruled v node e (ap shapes.takes_parts is ∙ n)

  -- what fits a node with one input, by what the input sends
  suits_over : (v : ℕ) (node : Node) (o : Op) (input : ℕ) → numbered plan.nodes v ≡ Some node → agreed.ArePlain laws plan ruled node.inputs → node.inputs ≡ input ∷ [] → Suits o (around_by plan.sink (output_at plan input ∷ []) (output_at plan v)) → Suits o (around_of plan v node.inputs)
  suits_over v node o input e are_plain are fits =
      subst (λ (inputs : List ℕ). Suits o (around_of plan v inputs)) (sym are) (subst (λ (around : Around). Suits o around) (sym (around_is plan v input [] (first_rows laws plan ruled v node input e are_plain (ap (λ (xs : List ℕ). slice_get xs 0) are)))) fits)

  agrees_over : (v : ℕ) (node : Node) → numbered plan.nodes v ≡ Some node → agreed.AreProper laws plan ruled node.inputs → (o : Op) (input : ℕ) → node.op ≡ o → agreed.ArePlain laws plan ruled node.inputs → node.inputs ≡ input ∷ []
      → agreed.scans o ≡ false → agreed.normalizes o ≡ false → agreed.materializes o ≡ false → agreed.sinks o ≡ false → Agrees plan.sources plan.sink o (output_at plan input ∷ []) (output_at plan v)
  agrees_over v node e proper o input is are_plain are scans normalizes materializes sinks =
      let agrees = agreed.agrees laws plan ruled v node e are_plain (ap agreed.scans is ∙ scans) (ap agreed.normalizes is ∙ normalizes) (ap agreed.materializes is ∙ materializes) (ap agreed.sinks is ∙ sinks) proper in
      subst (λ (outs : List Output). Agrees plan.sources plan.sink o outs (output_at plan v)) (ap (map (output_at plan)) are)
      (subst (λ (p : Op). Agrees plan.sources plan.sink p (map (output_at plan) node.inputs) (output_at plan v)) is agrees)

  pub one_input : (v : ℕ) (node : Node) → numbered plan.nodes v ≡ Some node → (o : Op) → node.op ≡ o → ((n : ℕ) → ports_of o n ≡ (n == 1)) → (input : ℕ) × (node.inputs ≡ input ∷ [])
  one_input v node e o is takes_one = agreed.one_input laws plan ruled v node e (λ n. ap (λ p. ports_of p n) is ∙ takes_one n)

  pub normalizes : (v : ℕ) (node : Node) → numbered plan.nodes v ≡ Some node → agreed.AreProper laws plan ruled node.inputs → (key : List ℕ) → node.op ≡ op.Normalize key → Suits (op.Normalize key) (around_of plan v node.inputs)
  normalizes v node e proper key is =
      let i = one_input v node e (op.Normalize key) is (λ n. refl) in
      let agrees = agreed.normalize_agrees laws plan ruled v node key i.0 e is i.1 proper in
      let fits = normalizes_fit plan.parallelism shape.parallel plan.sink key (output_at plan i.0) (output_at plan v) agrees in
      suits_over v node (op.Normalize key) i.0 e (plain v node e is refl) i.1 fits.0.tells

  pub groups : (v : ℕ) (node : Node) → numbered plan.nodes v ≡ Some node → agreed.AreProper laws plan ruled node.inputs → (keys : ℕ) (aggs : List Agg) → node.op ≡ op.Group keys aggs → Suits (op.Group keys aggs) (around_of plan v node.inputs)
  groups v node e proper keys aggs is =
      let i = one_input v node e (op.Group keys aggs) is (λ n. refl) in
      let agrees = agrees_over v node e proper (op.Group keys aggs) i.0 is (plain v node e is refl) i.1 refl refl refl refl in
      let fits = groups_fit plan.parallelism shape.parallel plan.sources plan.sink keys aggs (output_at plan i.0) (output_at plan v) agrees in
      suits_over v node (op.Group keys aggs) i.0 e (plain v node e is refl) i.1 fits.0.sound

  over_rows : (v : ℕ) (node : Node) (input : ℕ) → numbered plan.nodes v ≡ Some node → agreed.AreProper laws plan ruled node.inputs → (keys : ℕ) (aggs : List Agg) → node.op ≡ op.BatchGroup keys aggs → agreed.ArePlain laws plan ruled node.inputs → node.inputs ≡ input ∷ []
      → Suits (op.BatchGroup keys aggs) (around_of plan v node.inputs)
  over_rows v node input e proper keys aggs is are_plain are =
      let agrees = agrees_over v node e proper (op.BatchGroup keys aggs) input is are_plain are refl refl refl refl in
      let fits = groups_fit plan.parallelism shape.parallel plan.sources plan.sink keys aggs (output_at plan input) (output_at plan v) (as_group plan.sources plan.sink keys aggs (output_at plan input) (output_at plan v) agrees) in
      suits_over v node (op.BatchGroup keys aggs) input e are_plain are fits.0.sound

  over_parts : (v : ℕ) (node : Node) (below_at : ℕ) (below : Node) → numbered plan.nodes v ≡ Some node → (keys : ℕ) (aggs : List Agg) → node.op ≡ op.BatchGroup keys aggs → node.inputs ≡ below_at ∷ [] → numbered plan.nodes below_at ≡ Some below
      → agreed.AreProper laws plan ruled below.inputs → (under : ℕ) (calls : List Agg) → below.op ≡ op.LocalGroup under calls → Suits (op.BatchGroup keys aggs) (around_of plan v node.inputs)
  over_parts v node below_at below e keys aggs is are f proper under calls is_local =
      let i = one_input below_at below f (op.LocalGroup under calls) is_local (λ n. refl) in
      let agrees = agreed.merge_agrees laws plan ruled v node below_at below i.0 keys aggs under calls e is are f is_local i.1 proper in
      let fits = merging_groups_fit plan.parallelism shape.parallel plan.sources plan.sink under calls (output_at plan i.0) (output_at plan below_at) (output_at plan v) agrees in
      let there = grouping_there laws plan ruled below_at below under calls i.0 f is_local i.1 in
      subst (λ (inputs : List ℕ). Suits (op.BatchGroup keys aggs) (around_of plan v inputs)) (sym are)
      (subst (λ (around : Around). Suits (op.BatchGroup keys aggs) around) (sym (around_parts plan (local_of under calls (around_by plan.sink (output_at plan i.0 ∷ []) (output_at plan below_at))) v below_at [] there)) (fits.0.sums_up, fits.0.group.sound))

  pub bundles : (v : ℕ) (node : Node) → numbered plan.nodes v ≡ Some node → AreLower laws plan ruled v → agreed.AreProper laws plan ruled node.inputs → (keys : ℕ) (aggs : List Agg) → node.op ≡ op.BatchGroup keys aggs → Suits (op.BatchGroup keys aggs) (around_of plan v node.inputs)
  bundles v node e lower proper keys aggs is =
      let i = one_input v node e (op.BatchGroup keys aggs) is (λ n. refl) in
      let there = (shapes.input_there plan (agreed.meets laws plan ruled) laws.shaped v node 0 i.0 e (ap (λ (xs : List ℕ). slice_get xs 0) i.1)).1 in
      by_test (shapes.sends_parts there.0.op)
      (λ t. let local = shapes.is_local there.0.op t in over_parts v node i.0 there.0 e keys aggs is i.1 there.1 (lower_proper laws plan ruled v lower i.0 there.0 there.1 there.2) local.0 local.1 local.2)
      (λ n. over_rows v node i.0 e proper keys aggs is (only_plain laws plan ruled node i.0 there.0 there.1 i.1 n) i.1)

  pub locals : (v : ℕ) (node : Node) → numbered plan.nodes v ≡ Some node → agreed.AreProper laws plan ruled node.inputs → (keys : ℕ) (aggs : List Agg) → node.op ≡ op.LocalGroup keys aggs → Suits (op.LocalGroup keys aggs) (around_of plan v node.inputs)
  locals v node e proper keys aggs is =
      let i = one_input v node e (op.LocalGroup keys aggs) is (λ n. refl) in
      let agrees = agreed.local_agrees laws plan ruled v node keys aggs i.0 e is i.1 (agreed.under_there laws plan ruled v node keys aggs e is) proper in
      let fits = local_groups_fit plan.parallelism shape.parallel plan.sources plan.sink keys aggs (output_at plan i.0) (output_at plan v) agrees in
      suits_over v node (op.LocalGroup keys aggs) i.0 e (plain v node e is refl) i.1 (fits.0.sums_up, fits.0.of_bags)

  pub ranks : (v : ℕ) (node : Node) → numbered plan.nodes v ≡ Some node → agreed.AreProper laws plan ruled node.inputs → (partition : List ℕ) (order : List SortCol) (bound : ℕ) (ranked : Bool) → node.op ≡ op.TopN partition order bound ranked
      → Suits (op.TopN partition order bound ranked) (around_of plan v node.inputs)
  ranks v node e proper partition order bound ranked is =
      let i = one_input v node e (op.TopN partition order bound ranked) is (λ n. refl) in
      let agrees = agrees_over v node e proper (op.TopN partition order bound ranked) i.0 is (plain v node e is refl) i.1 refl refl refl refl in
      let fits = topns_fit plan.parallelism shape.parallel plan.sources plan.sink partition order bound ranked (output_at plan i.0) (output_at plan v) agrees in
      suits_over v node (op.TopN partition order bound ranked) i.0 e (plain v node e is refl) i.1 fits.0.sound
