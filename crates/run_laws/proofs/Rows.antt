-- The row at which a node is out of range is one that came to it whole, or the key of a group of rows that came.
use Rattle.std.specs.Prelude.{◌≡◌, ℕ, ◌<◌, ◌==◌, Bool, cond, not, List, ◌++◌, length, map, take, slice_index_or, Option, option_map}
use Rattle.std.proofs.Common.{zero, suc, true, false, [], ◌∷◌, refl, sym, ap, subst, ◌∙◌, arith, Some, None, Ok, Err}
use Rattle.std.specs.List.{AllByRecursion, filter}
use Rattle.std.proofs.lemmas.Bool.{and_parts}
use Rattle.ct_value.specs.declared.row.Row.{Row}
use Rattle.ct_value.specs.declared.ty.ColTy.{ColTy}
use Rattle.ct_field.specs.Typed.{row_fits}
use Rattle.ct_change.specs.declared.change.Change.{Change}
use Rattle.ct_change.specs.Changelog.{Mode, append, retract, upsert, adds, fold, same_row}
use Rattle.ct_expr.specs.Expr.{Expr}
use Rattle.ct_expr.specs.View.{expr_view}
use Rattle.rel_algebra.specs.GroupedCounts.{first_seen}
use Rattle.op_rules.specs.History.{Arrival, at_port}
use Rattle.op_rules.specs.Ports.{TakesAll}
use Rattle.op_rules.specs.Rules.{Answer, Rule}
use Rattle.op_rules.specs.Tasks.{IsReady}
use Rattle.emission_rules.specs.Changes.{after_key, changes_of, each_change, mode_after}
use Rattle.emission_rules.specs.Filter.{kept_where, filter_change, filter_rule}
use Rattle.emission_rules.specs.Project.{with_row, row_made, row_after, row_gone, project_change, project_rule}
use Rattle.emission_rules.specs.Union.{union_change}
use Rattle.emission_rules.specs.Sink.{sink_change}
use Rattle.emission_rules.specs.Grouping.{KeepsGroups, answers, group_emits, group_rule, groups_of}
use Rattle.rel_algebra.specs.Clauses.{holds}
use Rattle.rel_algebra.specs.declared.agg.Agg.{Agg}
use Rattle.phase_rules.specs.LocalFits.{IsOfBags}
use Rattle.phase_rules.specs.LocalGrouping.{LocalGrouping, local_answer, local_rule, members_of}
use Rattle.phase_rules.specs.Merging.{amounts_in, merge_answer, merge_rule}
use Rattle.ct_expr.specs.Eval.{eval}
use Rattle.phys_plan.specs.declared.node.Op.{Op}
use Rattle.phys_plan.specs.declared.node.Op.TheVariants as op
use Rattle.phys_plan.specs.declared.node.Node.{Node}
use Rattle.phys_plan.specs.declared.plan.Plan.{Plan}
use Rattle.phys_plan.specs.declared.plan.Rule.TheVariants as rule
use Rattle.stream_model.specs.Network.{task}
use Rattle.plan_rules.specs.Plans.{change_fits, inputs_in, kinds_in, local_in, scan_of, update_in}
use Rattle.plan_rules.specs.Phases.{fits_sent, local_by}
use Rattle.phys_plan.specs.Reading.{numbered, first_input}
use Rattle.plan_rules.specs.Columns.{columns_at}
use Rattle.plan_rules.specs.Around.{Around, first_side, second, filter_of, project_of, grouping_of, join_of, local_of, merging_of, mode_read, semi_of, sink_of}
use Rattle.plan_rules.specs.Behaviours.{behaviour, bundled_rule, BundlesWell, Suits, TakesBy}
use Rattle.plan_rules.specs.Doings.{other_inputs, side_of, around_of, doing_by, doing_in, network}
use Rattle.plan_shape.specs.Shape.{takes as ports_of}
use Rattle.plan_shape.specs.Shaped.{MeetsShape}
use Rattle.plan_shape.proofs.laws.Theorems.{shaped_plans_have_shape}
use Rattle.sound_plans.specs.Sound.{IsRuled, SoundPlansSuit, SoundPortsTake}
use Rattle.sound_plans.proofs.laws.Agreed as agreed
use Rattle.sound_plans.proofs.laws.Lists.{the_same}
use Rattle.sound_plans.proofs.laws.Numbers.{index_at}
use Rattle.sound_plans.proofs.laws.Outputs.{local_at}
use Rattle.sound_plans.proofs.laws.Shapes.{input_there, plain_below, takes_parts}
use Rattle.sound_plans.proofs.laws.EachNode.{proper_inputs}
use Rattle.sound_plans.proofs.laws.Stands.{sends_rows}
use Rattle.sound_plans.proofs.laws.Theorems.{nodes_fit}
use Rattle.emission_rules.specs.Joining.{Joining, emits, join_rule}
use Rattle.run_laws.proofs.Answers.{not_err, err_same, OutsAt, outs_both}
use Rattle.run_laws.proofs.Joins.{all_arrive, joins_out, Arrives, IsTold, Left, Right}
use Rattle.run_laws.proofs.Whole.{Fit, group_fits, whole_fits}
use Rattle.run_laws.specs.Stops.{RunsStopWhereOut, RunsStopAtRows}

-- ---- answers, one behind the other

module _ (P : Row → Type 0) where
  outs_each : (answer : Change → Answer) (changes : List Change) → AllByRecursion (λ change. OutsAt P (answer change)) changes → OutsAt P (each_change answer changes)
  outs_each answer [] h row e = not_err [] row e
  outs_each answer (change ∷ changes) h row e = outs_both P (answer change) (each_change answer changes) h.0 (outs_each answer changes h.1) row e

  outs_groups : (answer : Row → Answer) (keys : List Row) → AllByRecursion (λ key. OutsAt P (answer key)) keys → OutsAt P (answers answer keys)
  outs_groups answer [] h row e = not_err [] row e
  outs_groups answer (key ∷ keys) h row e = outs_both P (answer key) (answers answer keys) h.0 (outs_groups answer keys h.1) row e

  outs_kept : (change : Change) → P change.row → (o : Option Bool) → OutsAt P (kept_where change o)
  outs_kept change p None row e = subst P (err_same change.row row e) p
  outs_kept change p (Some true) row e = not_err (change ∷ []) row e
  outs_kept change p (Some false) row e = not_err [] row e

  outs_made : (change : Change) → P change.row → (o : Option Row) → OutsAt P (with_row change o)
  outs_made change p None row e = subst P (err_same change.row row e) p
  outs_made change p (Some made) row e = not_err (record { kind = change.kind; row = made } ∷ []) row e

  outs_by_key : (key : List ℕ) (items : List Expr) (change : Change) (b : Bool) → (b ≡ true → P change.row) → OutsAt P (with_row change (row_after (Some key) items b change.row))
  outs_by_key key items change true p = outs_made change (p refl) (row_made items change.row)
  outs_by_key key items change false p = λ row e. not_err (record { kind = change.kind; row = row_gone items key change.row } ∷ []) row e

  -- a project is out of range at a row that is told whole
  outs_sent : (after : Option (List ℕ)) (items : List Expr) (change : Change) → IsTold P (mode_after after) change → OutsAt P (with_row change (row_after after items (adds change.kind) change.row))
  outs_sent None items change p = outs_made change (p refl) (row_made items change.row)
  outs_sent (Some key) items change p = outs_by_key key items change (adds change.kind) p

  outs_if : (b : Bool) (xs : List Change) (key : Row) → P key → OutsAt P (cond b (Ok xs) (Err key))
  outs_if true xs key p row e = not_err xs row e
  outs_if false xs key p row e = subst P (err_same key row e) p

-- ---- lists

all_weaker : {A : Type 0} (P Q : A → Type 0) → ((x : A) → P x → Q x) → (xs : List A) → AllByRecursion P xs → AllByRecursion Q xs
all_weaker P Q f [] h = tt
all_weaker P Q f (x ∷ xs) h = (f x h.0, all_weaker P Q f xs h.1)

all_any : {A : Type 0} (P : A → Type 0) → ((x : A) → P x) → (xs : List A) → AllByRecursion P xs
all_any P f [] = tt
all_any P f (x ∷ xs) = (f x, all_any P f xs)

all_left : {A : Type 0} (P : A → Type 0) (xs ys : List A) → AllByRecursion P (xs ++ ys) → AllByRecursion P xs
all_left P [] ys h = tt
all_left P (x ∷ xs) ys h = (h.0, all_left P xs ys h.1)

all_right : {A : Type 0} (P : A → Type 0) (xs ys : List A) → AllByRecursion P (xs ++ ys) → AllByRecursion P ys
all_right P [] ys h = h
all_right P (x ∷ xs) ys h = all_right P xs ys h.1

all_filter : {A : Type 0} (P : A → Type 0) (q : A → Bool) (xs : List A) → AllByRecursion P xs → AllByRecursion P (filter q xs)
all_filter P q [] h = tt
all_filter P q (x ∷ xs) h =
    elim (q x) as (λ b. AllByRecursion P (cond b (x ∷ filter q xs) (filter q xs))) [ true ↦ (h.0, all_filter P q xs h.1) | false ↦ all_filter P q xs h.1 ]

all_seen : (P : Row → Type 0) (rows : List Row) → AllByRecursion P rows → AllByRecursion P (first_seen rows)
all_seen P [] h = tt
all_seen P (row ∷ rows) h = (h.0, all_filter P (λ other. not (same_row row other)) (first_seen rows) (all_seen P rows h.1))

all_made : {A B : Type 0} (P : A → Type 0) (Q : B → Type 0) (f : A → B) → ((x : A) → P x → Q (f x)) → (xs : List A) → AllByRecursion P xs → AllByRecursion Q (map f xs)
all_made P Q f h [] k = tt
all_made P Q f h (x ∷ xs) k = (h x k.0, all_made P Q f h xs k.1)

-- ---- what came

module _ (P : Change → Type 0) where
  all_later : (b : Bool) (change : Change) (changes : List Change) → AllByRecursion P (cond b (change ∷ changes) changes) → AllByRecursion P changes
  all_later true change changes h = h.1
  all_later false change changes h = h

  -- what holds of the changes at a port holds of those of the later ones
  all_behind : (port : ℕ) (before piece : List Arrival) → AllByRecursion P (at_port port (before ++ piece)) → AllByRecursion P (at_port port piece)
  all_behind port [] piece h = h
  all_behind port (a ∷ before) piece h = all_behind port before piece (all_later (a.port == port) a.change (at_port port (before ++ piece)) h)

  -- of a node with one port these are all
  at_zero : (n : ℕ) → n < 1 → (n == 0) ≡ true
  at_zero zero l = refl
  at_zero (suc n) l = absurd (omega (arith, l))

  all_came : (piece : List Arrival) → AllByRecursion (λ a. a.port < 1) piece → AllByRecursion P (at_port 0 piece) → AllByRecursion P (changes_of piece)
  all_came [] w h = tt
  all_came (a ∷ piece) w h =
      let k = subst (λ b. AllByRecursion P (cond b (a.change ∷ at_port 0 piece) (at_port 0 piece))) (at_zero a.port w.0) h in
      (k.0, all_came piece w.1 k.1)

-- ---- nodes

module _ (plan : Plan) (ruled : IsRuled plan) (takes : SoundPortsTake) (suited : SoundPlansSuit) (v j : ℕ) (before piece : List Arrival) (ready : IsReady (task (network plan) v) j (before ++ piece)) where
  first_is : (inputs : List ℕ) → slice_index_or inputs 0 0 ≡ first_input inputs
  first_is [] = refl
  first_is (input ∷ inputs) = refl

  module _ (node : Node) (there : numbered plan.nodes v ≡ Some node) where
    abbrev around : Around
    around = around_of plan v node.inputs

    -- its ports take what their edges carry
    taken : (o : Op) → node.op ≡ o → scan_of o ≡ None → TakesBy (behaviour o around) (task (network plan) v)
    taken o own no_scan = subst (λ (p : Op). TakesBy (behaviour p around) (task (network plan) v)) own (takes plan ruled v node there (ap scan_of own ∙ no_scan))

    second_is : (inputs : List ℕ) → length inputs ≡ 2 → columns_at plan.sources plan.nodes (slice_index_or inputs 1 0) ≡ (first_side (map (side_of plan) (other_inputs inputs))).columns
    second_is [] two = absurd (omega (arith, two))
    second_is (input ∷ []) two = absurd (omega (arith, two))
    second_is (input ∷ other ∷ inputs) two = refl

    -- the rule Shape
    meets : MeetsShape plan
    meets w low high = ruled.sound rule.Shape w low high

    -- at none of its ports partial rows come
    abbrev RowsCome : Type 0
    RowsCome = (p : ℕ) → p < (task (network plan) v).ports → local_at plan (slice_index_or (inputs_in (numbered plan.nodes v)) p 0) ≡ None

    rows_come : takes_parts node.op ≡ false → RowsCome
    rows_come n p l =
        let near : p < length node.inputs = subst (λ o. p < length (inputs_in o)) there l in
        let i = index_at node.inputs p near in
        let below = (input_there plan meets shaped_plans_have_shape v node p (slice_index_or node.inputs p 0) there i).1 in
        ap (λ o. local_at plan (slice_index_or (inputs_in o) p 0)) there
        ∙ sends_rows nodes_fit plan ruled (slice_index_or node.inputs p 0) below.0 below.1 (plain_below plan meets shaped_plans_have_shape v node p (slice_index_or node.inputs p 0) below.0 there n i below.1)

    -- each change that came at a port has the port's columns, where its row is told whole
    abbrev Told : Mode → List ColTy → Change → Type 0
    Told mode columns = IsTold (Fit columns) mode

    port_fits : (rule : Rule) → TakesAll rule (task (network plan) v) → RowsCome → (p : ℕ) → p < (task (network plan) v).ports → AllByRecursion (Told (rule.mode p) (columns_at plan.sources plan.nodes (slice_index_or (inputs_in (numbered plan.nodes v)) p 0))) (at_port p (before ++ piece))
    port_fits rule takes_all rows p l =
        let columns = columns_at plan.sources plan.nodes (slice_index_or (inputs_in (numbered plan.nodes v)) p 0) in
        let edge = (task (network plan) v).input p in
        all_weaker (λ change. edge.fits change ≡ true) (Told (rule.mode p) columns) (λ change fits. whole_fits edge.meaning (rule.mode p) columns change (takes_all.1 p l).reads (subst (λ o. fits_sent o (change_fits edge.meaning columns) change ≡ true) (rows p l) fits)) (at_port p (before ++ piece)) (ready.types p l)

    -- what comes to the sides of a join has their columns
    both_fit : (j : Joining) → TakesAll (join_rule j) (task (network plan) v) → RowsCome → j.left_columns ≡ around.columns → j.right_columns ≡ (second around).columns → AllByRecursion (Arrives (Left j) (Right j)) (before ++ piece)
    both_fit j takes_all rows left_is right_is =
        let two : (task (network plan) v).ports ≡ 2 = takes_all.0 in
        let many : length node.inputs ≡ 2 = sym (ap (λ o. length (inputs_in o)) there) ∙ two in
        let left = port_fits (join_rule j) takes_all rows 0 (omega (arith, two)) in
        let right = port_fits (join_rule j) takes_all rows 1 (omega (arith, two)) in
        let first : columns_at plan.sources plan.nodes (slice_index_or (inputs_in (numbered plan.nodes v)) 0 0) ≡ around.columns =
        ap (λ o. columns_at plan.sources plan.nodes (slice_index_or (inputs_in o) 0 0)) there ∙ ap (columns_at plan.sources plan.nodes) (first_is node.inputs) in
        let other : columns_at plan.sources plan.nodes (slice_index_or (inputs_in (numbered plan.nodes v)) 1 0) ≡ (second around).columns =
        ap (λ o. columns_at plan.sources plan.nodes (slice_index_or (inputs_in o) 1 0)) there ∙ second_is node.inputs many in
        all_arrive (Left j) (Right j) (before ++ piece) (subst (λ n. AllByRecursion (λ a. a.port < n) (before ++ piece)) two ready.ports)
        (subst (λ (c : List ColTy). AllByRecursion (Told j.left c) (at_port 0 (before ++ piece))) (first ∙ sym left_is) left)
        (subst (λ (c : List ColTy). AllByRecursion (Told j.right c) (at_port 1 (before ++ piece))) (other ∙ sym right_is) right)

    both_out : (j : Joining) → AllByRecursion (Arrives (Left j) (Right j)) (before ++ piece) → OutsAt (Fit (j.left_columns ++ j.right_columns)) (emits j before piece)
    both_out j fit = joins_out j before piece (all_left (Arrives (Left j) (Right j)) before piece fit) (all_right (Arrives (Left j) (Right j)) before piece fit)

    -- of the first input
    first_of : slice_index_or (inputs_in (numbered plan.nodes v)) 0 0 ≡ first_input node.inputs
    first_of = ap (λ o. slice_index_or (inputs_in o) 0 0) there ∙ first_is node.inputs

    -- all that came at the only port has the columns of the input
    fit_all : (rule : Rule) → TakesAll rule (task (network plan) v) → RowsCome → rule.ports ≡ 1 → AllByRecursion (Told (rule.mode 0) around.columns) (changes_of piece)
    fit_all rule takes_all rows one =
        let ports : (task (network plan) v).ports ≡ 1 = takes_all.0 ∙ one in
        let within = subst (λ n. AllByRecursion (λ a. a.port < n) (before ++ piece)) ports ready.ports in
        let fit = subst (λ e. AllByRecursion (Told (rule.mode 0) (columns_at plan.sources plan.nodes e)) (at_port 0 (before ++ piece))) first_of (port_fits rule takes_all rows 0 (omega (arith, ports))) in
        all_came (Told (rule.mode 0) around.columns) piece (all_right (λ a. a.port < 1) before piece within) (all_behind (Told (rule.mode 0) around.columns) 0 before piece fit)

    -- and the groups' keys have their columns
    fit_keys : (rule : Rule) (keys : ℕ) → TakesAll rule (task (network plan) v) → rule.ports ≡ 1 → RowsCome → KeepsGroups keys (rule.mode 0) → AllByRecursion (λ change. Fit (take keys around.columns) (take keys change.row)) (at_port 0 piece)
    fit_keys rule keys takes_all one rows keeps =
        let ports : (task (network plan) v).ports ≡ 1 = takes_all.0 ∙ one in
        let some : 0 < (task (network plan) v).ports = omega (arith, ports) in
        let edge = (task (network plan) v).input 0 in
        let columns = columns_at plan.sources plan.nodes (slice_index_or (inputs_in (numbered plan.nodes v)) 0 0) in
        let all = all_weaker (λ change. edge.fits change ≡ true) (λ change. Fit (take keys columns) (take keys change.row))
        (λ change fits. group_fits edge.meaning (rule.mode 0) keys columns change keeps (takes_all.1 0 some).reads (subst (λ o. fits_sent o (change_fits edge.meaning columns) change ≡ true) (rows 0 some) fits)) (at_port 0 (before ++ piece)) (ready.types 0 some) in
        all_behind (λ change. Fit (take keys around.columns) (take keys change.row)) 0 before piece
        (subst (λ (c : List ColTy). AllByRecursion (λ change. Fit (take keys c) (take keys change.row)) (at_port 0 (before ++ piece))) (ap (columns_at plan.sources plan.nodes) first_of) all)

    -- an answer for each group is out of range at the key of one
    keyed_outs : (keys : ℕ) (columns : List ColTy) (answer : Row → Answer) → ((key : Row) → Fit (take keys columns) key → OutsAt (Fit (take keys columns)) (answer key)) → AllByRecursion (λ change. Fit (take keys columns) (take keys change.row)) (at_port 0 piece)
        → OutsAt (Fit (take keys columns)) (answers answer (groups_of keys (at_port 0 piece)))
    keyed_outs keys columns answer outs fit =
        let came = at_port 0 piece in
        let named = all_seen (Fit (take keys columns)) (map (λ change. take keys change.row) came)
        (all_made (λ change. Fit (take keys columns) (take keys change.row)) (Fit (take keys columns)) (λ change. take keys change.row) (λ change h. h) came fit) in
        outs_groups (Fit (take keys columns)) answer (groups_of keys came) (all_weaker (Fit (take keys columns)) (λ key. OutsAt (Fit (take keys columns)) (answer key)) outs (groups_of keys came) named)

    group_outs : (keys : ℕ) (aggs : List Agg) → TakesAll (group_rule (grouping_of keys aggs around)) (task (network plan) v) → RowsCome → KeepsGroups keys (grouping_of keys aggs around).input
        → OutsAt (Fit (take keys around.columns)) ((group_rule (grouping_of keys aggs around)).emits before piece)
    group_outs keys aggs takes_all rows keeps =
        let g = grouping_of keys aggs around in
        keyed_outs keys around.columns (group_emits g (fold g.input (at_port 0 before)) (at_port 0 piece)) (λ key h. outs_if (Fit (take keys around.columns)) _ _ key h) (fit_keys (group_rule g) keys takes_all refl rows keeps)

    -- ---- local groups

    keeps_bags : (keys : ℕ) (mode : Mode) → IsOfBags mode → KeepsGroups keys mode
    keeps_bags keys append of_bags = tt
    keeps_bags keys retract of_bags = tt
    keeps_bags keys (upsert key) of_bags = absurd of_bags

    local_outs : (keys : ℕ) (aggs : List Agg) → node.op ≡ op.LocalGroup keys aggs → OutsAt (Fit (take keys around.columns)) ((local_rule (local_of keys aggs around)).emits before piece)
    local_outs keys aggs own =
        let l = local_of keys aggs around in
        let suits = subst (λ (p : Op). Suits p around) own (suited plan ruled v node there) in
        keyed_outs keys around.columns (λ key. local_answer aggs key (members_of keys key (at_port 0 piece))) (λ key h. outs_if (Fit (take keys around.columns)) _ _ key h)
        (fit_keys (local_rule l) keys (taken (op.LocalGroup keys aggs) own refl) refl (rows_come (ap takes_parts own)) (keeps_bags keys l.input suits.1))

    -- ---- groups in bundles

    -- the keys of partial rows have the columns of the group's
    keys_sent : (l : LocalGrouping) → around.partial ≡ Some l → (task (network plan) v).ports ≡ 1 → AllByRecursion (λ change. Fit (take l.keys l.columns) (take l.keys change.row)) (at_port 0 piece)
    keys_sent l some ports =
        let within : 0 < (task (network plan) v).ports = omega (arith, ports) in
        let edge = (task (network plan) v).input 0 in
        let columns = columns_at plan.sources plan.nodes (slice_index_or (inputs_in (numbered plan.nodes v)) 0 0) in
        let sends : local_at plan (slice_index_or (inputs_in (numbered plan.nodes v)) 0 0) ≡ Some l = ap (local_at plan) first_of ∙ some in
        all_behind (λ change. Fit (take l.keys l.columns) (take l.keys change.row)) 0 before piece
        (all_weaker (λ change. edge.fits change ≡ true) (λ change. Fit (take l.keys l.columns) (take l.keys change.row))
        (λ change fits. (and_parts (row_fits (take l.keys l.columns) (take l.keys change.row)) _ (subst (λ o. fits_sent o (change_fits edge.meaning columns) change ≡ true) sends fits)).0) (at_port 0 (before ++ piece)) (ready.types 0 within))

    record IsLocalNode (w : ℕ) (l : LocalGrouping) : Type 0 where
      below : Node
      is_below : numbered plan.nodes w ≡ Some below
      keys : ℕ
      aggs : List Agg
      is_local : below.op ≡ op.LocalGroup keys aggs
      same_keys : l.keys ≡ keys
      same_columns : l.columns ≡ columns_at plan.sources plan.nodes (first_input below.inputs)

    local_node : (w : ℕ) (l : LocalGrouping) → local_at plan w ≡ Some l → IsLocalNode w l
    local_node w l e = go (numbered plan.nodes w) refl e
      where
        by_op : (below : Node) → numbered plan.nodes w ≡ Some below → (o : Op) → below.op ≡ o
            → local_by o (columns_at plan.sources plan.nodes (first_input below.inputs)) (mode_read (kinds_in (numbered plan.edges (first_input below.inputs))) (update_in (numbered plan.edges (first_input below.inputs)))) ≡ Some l → IsLocalNode w l
        by_op below is (op.LocalGroup keys aggs) own h =
            let same = the_same _ l h in
            record { below = below; is_below = is; keys = keys; aggs = aggs; is_local = own; same_keys = sym (ap (λ (x : LocalGrouping). x.keys) same); same_columns = sym (ap (λ (x : LocalGrouping). x.columns) same) }
        by_op below is _ own h = absurd (cc)

        go : (o : Option Node) → numbered plan.nodes w ≡ o → local_in (columns_at plan.sources plan.nodes) plan o ≡ Some l → IsLocalNode w l
        go None is h = absurd (cc)
        go (Some below) is h = by_op below is below.op refl h

    same_key_columns : (l : LocalGrouping) → around.partial ≡ Some l → (keys : ℕ) (aggs : List Agg) → node.op ≡ op.BatchGroup keys aggs → take l.keys l.columns ≡ take keys around.columns
    same_key_columns l some keys aggs own =
        let n = local_node (first_input node.inputs) l some in
        let i = agreed.one_input nodes_fit plan ruled v node there (λ m. ap (λ x. ports_of x m) own) in
        let first : first_input node.inputs ≡ i.0 = ap first_input i.1 in
        let below_there : numbered plan.nodes i.0 ≡ Some n.below = ap (numbered plan.nodes) (sym first) ∙ n.is_below in
        let shared = agreed.calls_shared nodes_fit plan ruled v node i.0 n.below keys aggs n.keys n.aggs there own i.1 below_there n.is_local in
        let k = agreed.one_input nodes_fit plan ruled i.0 n.below below_there (λ m. ap (λ x. ports_of x m) n.is_local) in
        let agrees = agreed.local_agrees nodes_fit plan ruled i.0 n.below n.keys n.aggs k.0 below_there n.is_local k.1 (agreed.under_there nodes_fit plan ruled i.0 n.below n.keys n.aggs below_there n.is_local) (proper_inputs nodes_fit plan ruled i.0 n.below below_there) in
        let typed : columns_at plan.sources plan.nodes k.0 ≡ columns_at plan.sources plan.nodes i.0 = the_same _ _ agrees.agrees.typed in
        let columns : l.columns ≡ around.columns =
        n.same_columns ∙ ap (λ (xs : List ℕ). columns_at plan.sources plan.nodes (first_input xs)) k.1 ∙ typed ∙ ap (columns_at plan.sources plan.nodes) (sym first) in
        λ i. take ((n.same_keys ∙ sym shared.0) i) (columns i)

    bundle_outs : (keys : ℕ) (aggs : List Agg) → node.op ≡ op.BatchGroup keys aggs → (partial : Option LocalGrouping) → around.partial ≡ partial → OutsAt (Fit (take keys around.columns)) ((bundled_rule keys aggs around partial).emits before piece)
    bundle_outs keys aggs own None none =
        let suits : BundlesWell keys aggs around None = subst (BundlesWell keys aggs around) none (subst (λ (p : Op). Suits p around) own (suited plan ruled v node there)) in
        let takes_all : TakesAll (group_rule (grouping_of keys aggs around)) (task (network plan) v) = subst (λ x. TakesAll (bundled_rule keys aggs around x) (task (network plan) v)) none (taken (op.BatchGroup keys aggs) own refl) in
        group_outs keys aggs takes_all (only_rows takes_all.0) suits.keeps
      where
        only_rows : (task (network plan) v).ports ≡ 1 → RowsCome
        only_rows one zero l = ap (local_at plan) first_of ∙ none
        only_rows one (suc p) l = absurd (omega (arith, one, l))
    bundle_outs keys aggs own (Some l) some =
        let takes_all : TakesAll (merge_rule (merging_of l around)) (task (network plan) v) = subst (λ x. TakesAll (bundled_rule keys aggs around x) (task (network plan) v)) some (taken (op.BatchGroup keys aggs) own refl) in
        subst (λ (columns : List ColTy). OutsAt (Fit columns) ((merge_rule (merging_of l around)).emits before piece)) (same_key_columns l some keys aggs own)
        (keyed_outs l.keys l.columns
        (λ key. merge_answer (merging_of l around) key (amounts_in l.keys key (at_port 0 before)) (amounts_in l.keys key (at_port 0 piece))) (λ key h. outs_if (Fit (take l.keys l.columns)) _ _ key h) (keys_sent l some takes_all.0))

    op_outs : (o : Op) → node.op ≡ o → OutsAt (Fit (doing_by o around).range_types) ((doing_by o around).emits before piece)
    op_outs (op.Filter cond) own =
        outs_each (Fit around.columns) (filter_change (filter_of (expr_view cond))) (changes_of piece)
        (all_weaker (Told retract around.columns) (λ change. OutsAt (Fit around.columns) (filter_change (filter_of (expr_view cond)) change))
        (λ change h. outs_kept (Fit around.columns) change (h refl) (holds (eval (expr_view cond)) change.row)) (changes_of piece) (fit_all (filter_rule (filter_of (expr_view cond))) (taken (op.Filter cond) own refl) (rows_come (ap takes_parts own)) refl))
    op_outs (op.Project items) own =
        outs_each (Fit around.columns) (project_change (project_of (map expr_view items) around)) (changes_of piece)
        (all_weaker (Told (mode_after (after_key around.input)) around.columns) (λ change. OutsAt (Fit around.columns) (project_change (project_of (map expr_view items) around) change))
        (λ change h. outs_sent (Fit around.columns) (after_key around.input) (map expr_view items) change h) (changes_of piece) (fit_all (project_rule (project_of (map expr_view items) around)) (taken (op.Project items) own refl) (rows_come (ap takes_parts own)) refl))
    op_outs op.Union own =
        outs_each (Fit around.columns) union_change (changes_of piece) (all_any (λ change. OutsAt (Fit around.columns) (union_change change)) (λ change row e. not_err (change ∷ []) row e) (changes_of piece))
    op_outs (op.Group keys aggs) own =
        let suits = subst (λ (p : Op). Suits p around) own (suited plan ruled v node there) in
        group_outs keys aggs (taken (op.Group keys aggs) own refl) (rows_come (ap takes_parts own)) suits.keeps
    op_outs (op.BatchGroup keys aggs) own = bundle_outs keys aggs own around.partial refl
    op_outs (op.LocalGroup keys aggs) own = local_outs keys aggs own
    op_outs (op.Join kind on rest) own = let j = join_of kind on (option_map expr_view rest) around in both_out j (both_fit j (taken (op.Join kind on rest) own refl) (rows_come (ap takes_parts own)) refl refl)
    op_outs (op.Semi anti on rest) own = let j = semi_of anti on (option_map expr_view rest) around in both_out j (both_fit j (taken (op.Semi anti on rest) own refl) (rows_come (ap takes_parts own)) refl refl)
    op_outs op.Sink own =
        outs_each (Fit around.columns) (sink_change (sink_of around)) (changes_of piece) (all_any (λ change. OutsAt (Fit around.columns) (sink_change (sink_of around) change)) (λ change row e. not_err _ row e) (changes_of piece))
    -- all others calculate nothing
    op_outs _ own = λ row e. not_err _ row e

  node_outs : (o : Option Node) → numbered plan.nodes v ≡ o → OutsAt (Fit (doing_in plan v o).range_types) ((doing_in plan v o).emits before piece)
  node_outs None there = λ row e. not_err [] row e
  node_outs (Some node) there = op_outs node there node.op refl

  pub outs_at_rows : OutsAt (Fit ((network plan).range_types v)) ((network plan).emits v before piece)
  outs_at_rows = node_outs (numbered plan.nodes v) refl

pub stop_at_rows : SoundPortsTake → SoundPlansSuit → RunsStopWhereOut → RunsStopAtRows
stop_at_rows takes suited where_out plan ruled limit files orders node subtask row types p e =
    let stop = where_out plan ruled limit files orders node subtask row types p e in
    let at = stop.1 in
    subst (λ (c : List ColTy). row_fits c row ≡ true) (sym stop.0) (outs_at_rows plan ruled takes suited node subtask at.before at.piece at.ready row at.out)
