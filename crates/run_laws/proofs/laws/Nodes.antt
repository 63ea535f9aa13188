-- Each node of a plan that calculates nothing stays in range, between what its inputs send and what it sends.
use Rattle.std.specs.Prelude.{◌≡◌, ℕ, ◌+◌, ◌*◌, ◌<◌, ◌≤◌, ◌++◌, Bool, List, length, slice_get, slice_index_or, Option}
use Rattle.std.proofs.Common.{zero, suc, true, [], ◌∷◌, refl, sym, ap, subst, ◌∙◌, arith, Some, None}
use Rattle.std.specs.List.{AllByRecursion, list_all}
use Rattle.std.proofs.lemmas.Bool.{and_parts}
use Rattle.ct_value.specs.declared.ty.ColTy.{ColTy}
use Rattle.ct_change.specs.Changelog.{Mode}
use Rattle.ct_change.specs.declared.change.Change.{Change}
use Rattle.phase_rules.specs.LocalGrouping.{LocalGrouping}
use Rattle.phys_plan.specs.declared.node.Op.{Op}
use Rattle.phys_plan.specs.declared.node.Op.TheVariants as op
use Rattle.phys_plan.specs.declared.node.Node.{Node}
use Rattle.phys_plan.specs.declared.plan.Plan.{Plan}
use Rattle.phys_plan.specs.Reading.{first_input, numbered}
use Rattle.op_rules.specs.History.{Arrival, arrival}
use Rattle.op_rules.specs.Ports.{ReadyArrives}
use Rattle.op_rules.specs.Tasks.{IsReady}
use Rattle.stream_model.specs.Machine.{is_number, size_of}
use Rattle.stream_model.specs.Network.{Feed, IsWired, task}
use Rattle.plan_rules.specs.Around.{Around, mode_read}
use Rattle.plan_rules.specs.Behaviours.{Behaviour, Suits, TakesBy, behaviour, doing_of, has_rule}
use Rattle.plan_rules.specs.Columns.{columns_at}
use Rattle.plan_rules.specs.Doings.{around_of, doing_in, network}
use Rattle.plan_rules.specs.Phases.{local_by, sends_parts}
use Rattle.plan_rules.specs.Plans.{bundle_in, bundle_of, inputs_in, kinds_in, local_in, scan_in, scan_of, update_in}
use Rattle.sound_plans.proofs.laws.Lists.{the_same}
use Rattle.range_rules.specs.Tame.{only_counts}
use Rattle.range_rules.specs.Ranges.{IsShort, IsAnswerOf, GoesShort, ComesShort}
use Rattle.sound_plans.specs.TameOps.{is_tame_op}
use Rattle.sound_plans.proofs.laws.Lawful.{lawful}
use Rattle.sound_plans.proofs.laws.Stays.{AreCounted, StaysBy}
use Rattle.run_laws.specs.Runs.{is_tame_plan}
use Rattle.run_laws.proofs.laws.Steps.{StayInRange, piece_size, some_size}

-- a node among those that calculate nothing
tame_at : (nodes : List Node) → list_all (λ node. is_tame_op node.op) nodes ≡ true → (n : ℕ) (node : Node) → slice_get nodes n ≡ Some node → is_tame_op node.op ≡ true
tame_at [] all n node e = absurd (cc)
tame_at (first ∷ nodes) all zero node e = ap (λ (x : Node). is_tame_op x.op) (sym (the_same first node e)) ∙ (and_parts _ _ all).0
tame_at (first ∷ nodes) all (suc n) node e = tame_at nodes (and_parts _ _ all).1 n node e

-- ---- by operator

-- what comes to a node's rule; to one without a rule anything
abbrev ComesBy : ℕ → Option LocalGrouping → Option Behaviour → Arrival → Type 0
ComesBy most partial None a = Unit {0}
ComesBy most partial (Some b) a = ComesShort most partial b.rule a

-- all calls of what partial rows sum up count or choose
abbrev all_count : Option LocalGrouping → Bool
all_count None = true
all_count (Some l) = list_all (λ agg. only_counts agg.call) l.aggs

module _ (most limit : ℕ) (small : limit < 9223372036854775808) where
  -- of what a node does
  opens_by : (partial own : Option LocalGrouping) (b : Option Behaviour) → StaysBy most limit small partial own b → (subtask : ℕ) → AllByRecursion (GoesShort most own) ((doing_of b).opening subtask)
  opens_by partial own None stays subtask = tt
  opens_by partial own (Some b) stays subtask = stays.opens subtask

  answers_by : (partial own : Option LocalGrouping) (b : Option Behaviour) → StaysBy most limit small partial own b → (before piece : List Arrival) → AllByRecursion (ComesBy most partial b) before → AllByRecursion (ComesBy most partial b) piece
      → length piece ≤ most → length before + length piece ≤ limit → IsAnswerOf (GoesShort most own) ((doing_of b).emits before piece)
  answers_by partial own None stays before piece h k few within = tt
  answers_by partial own (Some b) stays before piece h k few within = stays.answers before piece h k few within

-- a scan sends rows
scan_sends : (most : ℕ) (o : Op) (columns : List ColTy) (mode : Mode) (table : ℕ) (change : Change) → is_number table (scan_of o) ≡ true → IsShort change → GoesShort most (local_by o columns mode) change
scan_sends most (op.Scan source) columns mode table change is short = short
scan_sends most _ columns mode table change is short = absurd (cc)

-- an operator with a rule scans no table
no_scan : (o : Op) (around : Around) (b : Behaviour) → behaviour o around ≡ Some b → scan_of o ≡ None
no_scan (op.Scan source) around b is = absurd (cc)
no_scan _ around b is = refl

-- bundles are as large as the plan's, or pieces are single changes
bundle_fits : (size : ℕ) (o : Op) → piece_size (size_of (bundle_of size o)) ≤ piece_size size
bundle_fits size (op.BatchGroup keys aggs) = omega arith
bundle_fits size (op.LocalGroup keys aggs) = omega arith
bundle_fits size _ = some_size size

-- the first port is the first input's
first_port : (inputs : List ℕ) (e : ℕ) → slice_index_or inputs 0 0 ≡ e → first_input inputs ≡ e
first_port [] e is = is
first_port (input ∷ inputs) e is = is

-- ---- a plan

module _ (plan : Plan) where
  abbrev most : ℕ
  most = piece_size plan.mini_batch

  abbrev local_at : Option Node → Option LocalGrouping
  local_at o = local_in (columns_at plan.sources plan.nodes) plan o

  abbrev does_at : ℕ → Node → Option Behaviour
  does_at v node = behaviour node.op (around_of plan v node.inputs)

  -- what a node sends, and what comes to it
  abbrev pub Sends : ℕ → Change → Type 0
  Sends v change = GoesShort most (local_at (numbered plan.nodes v)) change

  abbrev ComesAt : ℕ → Option Node → Arrival → Type 0
  ComesAt v None a = Unit {0}
  ComesAt v (Some node) a = ComesBy most (around_of plan v node.inputs).partial (does_at v node) a

  abbrev pub Comes : ℕ → Arrival → Type 0
  Comes v a = ComesAt v (numbered plan.nodes v) a

  module _ (tame : is_tame_plan plan ≡ true) (limit : ℕ) (small : limit < 9223372036854775808)
      (parts_small : (v : ℕ) (node : Node) → numbered plan.nodes v ≡ Some node → sends_parts node.op ≡ true → limit * plan.mini_batch < 9223372036854775808)
      (wired : IsWired (network plan))
      (take : (v : ℕ) (node : Node) → numbered plan.nodes v ≡ Some node → scan_of node.op ≡ None → TakesBy (does_at v node) (task (network plan) v))
      (rules : (v : ℕ) (node : Node) → numbered plan.nodes v ≡ Some node → has_rule node.op ≡ true)
      (suit : (v : ℕ) (node : Node) → numbered plan.nodes v ≡ Some node → Suits node.op (around_of plan v node.inputs)) (ready : ReadyArrives) where
    numbered_tame : (v : ℕ) (node : Node) → numbered plan.nodes v ≡ Some node → is_tame_op node.op ≡ true
    numbered_tame zero node e = absurd (cc)
    numbered_tame (suc n) node e = tame_at plan.nodes tame n node e

    sized : (size : ℕ) → limit * size < 9223372036854775808 → limit * piece_size size < 9223372036854775808
    sized zero few = omega (arith, small)
    sized (suc size) few = few

    -- what the partial rows of a node sum up
    counted : (v : ℕ) (o : Option Node) → numbered plan.nodes v ≡ o → (l : LocalGrouping) → local_at o ≡ Some l → AreCounted most limit l
    counted v None there l e = absurd (cc)
    counted v (Some node) there l e =
        by_op node.op (numbered_tame v node there) (parts_small v node there) (columns_at plan.sources plan.nodes (first_input node.inputs))
        (mode_read (kinds_in (numbered plan.edges (first_input node.inputs))) (update_in (numbered plan.edges (first_input node.inputs)))) e
      where
        by_op : (o : Op) → is_tame_op o ≡ true → (sends_parts o ≡ true → limit * plan.mini_batch < 9223372036854775808) → (columns : List ColTy) (mode : Mode) → local_by o columns mode ≡ Some l → AreCounted most limit l
        by_op (op.LocalGroup keys aggs) counts few columns mode is =
            record { few = sized plan.mini_batch (few refl); tame = ap (λ (o : Option LocalGrouping). all_count o) (sym is) ∙ counts }
        by_op _ counts few columns mode is = absurd (cc)

    node_stays : (v : ℕ) (node : Node) → numbered plan.nodes v ≡ Some node → StaysBy most limit small (around_of plan v node.inputs).partial (local_at (Some node)) (does_at v node)
    node_stays v node there =
        (lawful node.op (rules v node there)).stays most limit small (around_of plan v node.inputs) (numbered_tame v node there) (suit v node there)
        (λ l e. counted (first_input node.inputs) (numbered plan.nodes (first_input node.inputs)) refl l e)

    opens : (v i : ℕ) (o : Option Node) → numbered plan.nodes v ≡ o → AllByRecursion (GoesShort most (local_at o)) ((doing_in plan v o).opening i)
    opens v i None there = tt
    opens v i (Some node) there = opens_by most limit small (around_of plan v node.inputs).partial (local_at (Some node)) (does_at v node) (node_stays v node there) i

    scans : (table e : ℕ) (change : Change) (o : Option Node) → is_number table (scan_in o) ≡ true → IsShort change → GoesShort most (local_at o) change
    scans table e change None is short = short
    scans table e change (Some node) is short =
        scan_sends most node.op (columns_at plan.sources plan.nodes (first_input node.inputs))
        (mode_read (kinds_in (numbered plan.edges (first_input node.inputs))) (update_in (numbered plan.edges (first_input node.inputs)))) table change is short

    -- a change that its first input sends, or another
    comes_by : (v e port i j : ℕ) (node : Node) → numbered plan.nodes v ≡ Some node → (port ≡ 0 → first_input node.inputs ≡ e) → (b : Option Behaviour) → does_at v node ≡ b → (before : List Arrival) (change : Change)
        → IsReady (task (network plan) v) j (before ++ arrival port i change ∷ []) → Sends e change → IsShort change → ComesBy most (around_of plan v node.inputs).partial b (arrival port i change)
    comes_by v e port i j node there first None is before change may sends short = tt
    comes_by v e port i j node there first (Some b) is before change may sends short =
        let takes : TakesBy (Some b) (task (network plan) v) = subst (λ x. TakesBy x (task (network plan) v)) is (take v node there (no_scan node.op (around_of plan v node.inputs) b is)) in
        record {
          short = short;
          sent = λ at_first. subst (λ w. GoesShort most (local_at (numbered plan.nodes w)) change) (sym (first at_first)) sends;
          fits = (ready b.rule (task (network plan) v) takes j before (arrival port i change) may).fits;
        }

    is_short : (o : Option LocalGrouping) (change : Change) → GoesShort most o change → IsShort change
    is_short None change h = h
    is_short (Some l) change h = h.short

    arrives : (e : ℕ) (feed : Feed) → (network plan).fed e ≡ Some feed → (i j : ℕ) (before : List Arrival) (change : Change) → IsReady (task (network plan) feed.node) j (before ++ arrival feed.port i change ∷ [])
        → Sends e change → (o : Option Node) → numbered plan.nodes feed.node ≡ o → ComesAt feed.node o (arrival feed.port i change)
    arrives e feed fed i j before change may sends None there = tt
    arrives e feed fed i j before change may sends (Some node) there =
        comes_by feed.node e feed.port i j node there first (does_at feed.node node) refl before change may sends (is_short (local_at (numbered plan.nodes e)) change sends)
      where
        first : feed.port ≡ 0 → first_input node.inputs ≡ e
        first at_first =
            first_port node.inputs e
            (ap (λ port. slice_index_or node.inputs port 0) (sym at_first) ∙ ap (λ o. slice_index_or (inputs_in o) feed.port 0) (sym there) ∙ (wired.feeds_port e feed fed).1)

    answers : (v : ℕ) (o : Option Node) → numbered plan.nodes v ≡ o → (before piece : List Arrival) → AllByRecursion (ComesAt v o) before → AllByRecursion (ComesAt v o) piece → length piece ≤ most → length before + length piece ≤ limit
        → IsAnswerOf (GoesShort most (local_at o)) ((doing_in plan v o).emits before piece)
    answers v None there before piece h k few within = tt
    answers v (Some node) there before piece h k few within =
        answers_by most limit small (around_of plan v node.inputs).partial (local_at (Some node)) (does_at v node) (node_stays v node there) before piece h k few within

    piece_fits : (o : Option Node) → piece_size (size_of (bundle_in plan.mini_batch o)) ≤ most
    piece_fits None = some_size plan.mini_batch
    piece_fits (Some node) = bundle_fits plan.mini_batch node.op

    pub nodes_stay : StayInRange (network plan) limit Sends Comes
    nodes_stay = record {
      opens = λ v i. opens v i (numbered plan.nodes v) refl;
      scans = λ table e change is short. scans table e change (numbered plan.nodes e) is short;
      arrives = λ e feed fed i j before change may sends. arrives e feed fed i j before change may sends (numbered plan.nodes feed.node) refl;
      answers = λ v before piece h k few within. answers v (numbered plan.nodes v) refl before piece h k (let f = piece_fits (numbered plan.nodes v) in omega (arith, few, f)) within;
    }
