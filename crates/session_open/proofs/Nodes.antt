-- What the nodes of a plan's network are made of.
use Rattle.std.proofs.Common.{◌≡◌, ℕ, ◌<◌, Bool, true, List, [], ◌∷◌, length, Option, Some, None, get_or, refl, sym, ap, subst, ◌∙◌}
use Rattle.std.specs.Option.{unwrap_or}
use Rattle.std.specs.Prelude.{slice_get}
use Rattle.std.proofs.lemmas.Option.{none-some, get_or_from_slice_get, unwrap_or-slice_get}
use Rattle.ct_value.specs.declared.ty.ColTy.{ColTy}
use Rattle.ct_change.specs.Changelog.{Mode}
use Rattle.ct_change.specs.declared.update.Update.{Update}
use Rattle.ct_change.specs.declared.update.Update.TheVariants.{Absent, After, Both}
use Rattle.rel_algebra.specs.declared.agg.Agg.{Agg}
use Rattle.op_rules.specs.History.{Arrival}
use Rattle.op_rules.specs.Ports.{TakesAll}
use Rattle.op_rules.specs.Rules.{Rule}
use Rattle.emission_rules.specs.Grouping.{group_rule, IsSound as GroupsWell}
use Rattle.phase_rules.specs.LocalGrouping.{LocalGrouping, SumsUp}
use Rattle.phase_rules.specs.Merging.{Merging, in_one_phase, merge_rule}
use Rattle.op_merge.specs.Groups.{CanMerge}
use Rattle.phys_plan.specs.declared.node.Node.{Node}
use Rattle.phys_plan.specs.declared.plan.Plan.{Plan}
use Rattle.stream_model.specs.Network.{Network, task}
use Rattle.plan_rules.specs.Plans.{Doing, bundle_in, bundle_of, inputs_in, kinds_in, scan_of, update_in}
use Rattle.phys_plan.specs.Reading.{numbered, first_input}
use Rattle.plan_rules.specs.Around.{Around, mode_read, mode_told, second}
use Rattle.plan_rules.specs.Behaviours.{Behaviour, behaviour, bundled_rule, BundlesWell, doing_of, range_types_by, rule_of, TakesBy}
use Rattle.plan_rules.specs.Doings.{around_of, doing_in, network}
use Rattle.plan_rules.specs.Roles.{role}
use Rattle.plan_rules.proofs.laws.Behaviours.{scans_have_none, types_told}
use Rattle.session_open.specs.declared.locals.Local.{Local}
use Rattle.session_open.specs.Locals.{IsLocal}
use Rattle.session_open.specs.Opening.{IsMade}
use Rattle.session_open.specs.Running.{IsBuiltPlan, IsOperatorBy, TakesBundles, second_input}

-- the columns of a node's second input
pub others_of : (plan : Plan) (columns : List (List ColTy)) (g : Network) (v : ℕ) (inputs : List ℕ) → IsBuiltPlan plan columns g → get_or columns (second_input inputs) [] ≡ (second (around_of plan v inputs)).columns
others_of plan columns g v [] built = built.columns_are 0
others_of plan columns g v (first ∷ []) built = built.columns_are 0
others_of plan columns g v (first ∷ (other ∷ others)) built = built.columns_are other

-- the mode in which its edge is read
pub other_mode : (plan : Plan) (v : ℕ) (inputs : List ℕ)
    → mode_read (kinds_in (numbered plan.edges (second_input inputs))) (update_in (numbered plan.edges (second_input inputs)))
    ≡ mode_read (second (around_of plan v inputs)).kinds (second (around_of plan v inputs)).input
other_mode plan v [] = refl
other_mode plan v (first ∷ []) = refl
other_mode plan v (first ∷ (other ∷ others)) = refl

-- the types of the row at which a node is out of range
pub types_none : (plan : Plan) (columns : List (List ColTy)) (g : Network) (v : ℕ) → IsBuiltPlan plan columns g → numbered plan.nodes v ≡ None → [] ≡ g.range_types v
types_none plan columns g v built is = subst (λ (g : Network). [] ≡ g.range_types v) (sym built.network_is) (sym (ap (λ n. (doing_in plan v n).range_types) is))

pub types_of : (plan : Plan) (columns : List (List ColTy)) (g : Network) (v : ℕ) (node : Node) → IsBuiltPlan plan columns g → numbered plan.nodes v ≡ Some node
    → range_types_by (rule_of node.op) (role node.op) (get_or columns (first_input node.inputs) []) (get_or columns (second_input node.inputs) []) ≡ g.range_types v
types_of plan columns g v node built is =
    let around = around_of plan v node.inputs in
    subst (λ (g : Network). range_types_by (rule_of node.op) (role node.op) (get_or columns (first_input node.inputs) []) (get_or columns (second_input node.inputs) []) ≡ g.range_types v) (sym built.network_is)
    ((λ i. range_types_by (rule_of node.op) (role node.op) (built.columns_are (first_input node.inputs) i) (others_of plan columns g v node.inputs built i))
    ∙ (types_told (rule_of node.op) (role node.op) around ∙ sym (ap (λ n. (doing_in plan v n).range_types) is)))

module _ {O : Type 0} (rule_is : O → Rule) (is_broken : O → Bool) (stands : O → List Arrival → Type 0) (takes_pieces : O → Bool) (plan : Plan) (columns : List (List ColTy)) (g : Network) (v : ℕ) (built : IsBuiltPlan plan columns g) where
  pub none_made : numbered plan.nodes v ≡ None → IsMade rule_is is_broken stands takes_pieces g v None
  none_made is = subst (λ (g : Network). IsMade rule_is is_broken stands takes_pieces g v None) (sym built.network_is) (ap (λ n. length (inputs_in n)) is, λ j. ap (λ n. (doing_in plan v n).opening j) is)

  takes_bundles : (bundle : Option ℕ) (made : O) (size : ℕ) → bundle ≡ Some size → TakesBundles rule_is is_broken stands takes_pieces bundle made → takes_pieces made ≡ true
  takes_bundles None made size is takes = absurd (none-some size is)
  takes_bundles (Some other) made size is takes = takes

  -- a node is made of its behaviour
  made_by : (node : Node) (made : Option O) → numbered plan.nodes v ≡ Some node → (scan : Option ℕ) → scan_of node.op ≡ scan → (b : Option Behaviour) → behaviour node.op (around_of plan v node.inputs) ≡ b
      → IsOperatorBy rule_is is_broken stands takes_pieces b (bundle_of plan.mini_batch node.op) made → IsMade rule_is is_broken stands takes_pieces (network plan) v made
  made_by node None is (Some source) scans None none of =
      (ap (λ n. length (inputs_in n)) is ∙ ap length ((built.nodes v node is).scans source scans), λ j. ap (λ n. (doing_in plan v n).opening j) is ∙ ap (λ (b : Option Behaviour). (doing_of b).opening j) none)
  made_by node (Some made) is (Some source) scans None none of = absurd of
  made_by node made is (Some source) scans (Some b) some of = absurd (none-some b (sym (scans_have_none node.op (around_of plan v node.inputs) source scans) ∙ some))
  made_by node made is None works None none of = absurd (subst (λ (b : Option Behaviour). TakesBy b (task (network plan) v)) none ((built.nodes v node is).takes works))
  made_by node None is None works (Some b) some of = absurd of
  made_by node (Some made) is None works (Some b) some of =
      let does : doing_in plan v (numbered plan.nodes v) ≡ doing_of (Some b) = ap (doing_in plan v) is ∙ ap doing_of some in (
        subst (λ (n : ℕ). 0 < n) (sym (ap (λ n. length (inputs_in n)) is)) ((built.nodes v node is).ports works),
        record {
          emits = ap (λ (r : Rule). r.emits) of.0.rule_is_so ∙ sym (ap (λ (d : Doing). d.emits) does);
          opens = ap (λ (r : Rule). r.opening) of.0.rule_is_so ∙ sym (ap (λ (d : Doing). d.opening) does);
          takes = subst (λ (r : Rule). TakesAll r (task (network plan) v)) (sym of.0.rule_is_so) (subst (λ (b : Option Behaviour). TakesBy b (task (network plan) v)) some ((built.nodes v node is).takes works));
          whole = of.0.whole;
          stands_for = of.0.stands_so;
          pieces = λ size some. takes_bundles (bundle_of plan.mini_batch node.op) made size (sym (ap (bundle_in plan.mini_batch) is) ∙ some) of.1;
        },
      )

  pub node_made : (node : Node) (made : Option O) → numbered plan.nodes v ≡ Some node → IsOperatorBy rule_is is_broken stands takes_pieces (behaviour node.op (around_of plan v node.inputs)) (bundle_of plan.mini_batch node.op) made → IsMade rule_is is_broken stands takes_pieces g v made
  node_made node made is of =
      subst (λ (g : Network). IsMade rule_is is_broken stands takes_pieces g v made) (sym built.network_is) (made_by node made is (scan_of node.op) refl (behaviour node.op (around_of plan v node.inputs)) refl of)

-- ---- groups in bundles

-- they tell rows that change and go
can_merge : (l : LocalGrouping) (update : Update) → SumsUp l → GroupsWell (in_one_phase (record { local = l; output = mode_told update })) → CanMerge (record { local = l; output = mode_told update })
can_merge l Absent sums sound = record { have_partials = sums.have_partials; tells = tt }
can_merge l (After key) sums sound = record { have_partials = sums.have_partials; tells = sound.tells }
can_merge l Both sums sound = record { have_partials = sums.have_partials; tells = tt }

no_local : (o : Option LocalGrouping) → IsLocal None o → o ≡ None
no_local None is = refl
no_local (Some l) is = absurd is

module _ (keys : ℕ) (aggs : List Agg) (around : Around) where
  -- over rows
  module _ (types : List ColTy) (mode own : Mode) (rows : IsLocal None around.partial) (t : types ≡ around.columns) (m : mode ≡ mode_read around.kinds around.input) (o : own ≡ mode_told around.own) where
    pub group_suits : BundlesWell keys aggs around around.partial → GroupsWell (record { keys = keys; aggs = aggs; columns = types; input = mode; output = own })
    group_suits suits =
        subst GroupsWell (λ i. record { keys = keys; aggs = aggs; columns = sym t i; input = sym m i; output = sym o i }) (subst (BundlesWell keys aggs around) (no_local around.partial rows) suits)

    pub group_told : group_rule (record { keys = keys; aggs = aggs; columns = types; input = mode; output = own }) ≡ bundled_rule keys aggs around around.partial
    group_told =
        (λ i. group_rule (record { keys = keys; aggs = aggs; columns = t i; input = m i; output = o i })) ∙ ap (bundled_rule keys aggs around) (sym (no_local around.partial rows))

  -- over partial rows
  module _ (local : Local) (own : Mode) (o : own ≡ mode_told around.own) where
    abbrev merging : Mode → Mode → Merging
    merging input output = record { local = record { keys = local.keys; aggs = local.aggs; columns = local.types; input = input }; output = output }

    pub merge_suits : (partial : Option LocalGrouping) → IsLocal (Some local) partial → BundlesWell keys aggs around partial → (input : Mode) × CanMerge (merging input own)
    merge_suits None is suits = absurd is
    merge_suits (Some l) is suits =
        let can = can_merge l around.own suits.0 suits.1 in (
          l.input,
          subst CanMerge (λ i. record { local = record { keys = is.0 i; aggs = is.1 i; columns = is.2 i; input = l.input }; output = sym o i }) can,
        )

    pub merge_told : (rule : Rule) (partial : Option LocalGrouping) → IsLocal (Some local) partial → ((input : Mode) → rule ≡ merge_rule (merging input own)) → rule ≡ bundled_rule keys aggs around partial
    merge_told rule None is told = absurd is
    merge_told rule (Some l) is told =
        told l.input ∙ (λ i. merge_rule (record { local = record { keys = sym is.0 i; aggs = sym is.1 i; columns = sym is.2 i; input = l.input }; output = o i }))

-- the types at a number, none past the end
pub types_there : (columns : List (List ColTy)) (n : ℕ) (types : List ColTy) → slice_get columns n ≡ Some types → types ≡ get_or columns n []
types_there columns n types is = sym (get_or_from_slice_get columns n types [] is)

pub types_past : (columns : List (List ColTy)) (n : ℕ) → slice_get columns n ≡ None → [] ≡ get_or columns n []
types_past columns n is = ap (λ o. unwrap_or o []) (sym is) ∙ unwrap_or-slice_get columns n []
