-- What operators do: the table of their rules, and what a node does by it.
use Rattle.std.specs.Prelude.{ℕ, ◌||◌, Bool, List, [], map, Option, Some, None, option_map, is_some, Ok}
use Rattle.ct_value.specs.declared.ty.ColTy.{ColTy}
use Rattle.ct_change.specs.Changelog.{Rows}
use Rattle.ct_expr.specs.View.{expr_view}
use Rattle.op_rules.specs.Ports.{TakesAll}
use Rattle.op_rules.specs.Rules.{Rule}
use Rattle.op_rules.specs.Tasks.{Task}
use Rattle.emission_rules.specs.Filter.{filter_rule}
use Rattle.emission_rules.specs.Project.{project_rule}
use Rattle.emission_rules.specs.Union.{union_rule}
use Rattle.emission_rules.specs.Normalize.{normalize_rule, TellsKey}
use Rattle.emission_rules.specs.Materialize.{materialize_rule}
use Rattle.emission_rules.specs.SetOps.{set_rule}
use Rattle.emission_rules.specs.Sink.{sink_rule}
use Rattle.emission_rules.specs.Grouping.{group_rule, IsSound as GroupsWell}
use Rattle.emission_rules.specs.Joining.{join_rule}
use Rattle.emission_rules.specs.Ranking.{topn_rule, IsSound as RanksWell}
use Rattle.rel_algebra.specs.declared.agg.Agg.{Agg}
use Rattle.phase_rules.specs.LocalFits.{IsOfBags}
use Rattle.phase_rules.specs.LocalGrouping.{LocalGrouping, SumsUp, local_rule}
use Rattle.phase_rules.specs.Merging.{in_one_phase, merge_rule}
use Rattle.phys_plan.specs.declared.node.Op.{Op}
use Rattle.phys_plan.specs.declared.node.Op.TheVariants as op
use Rattle.plan_rules.specs.Around.{Around, mode_told, second, filter_of, project_of, union_of, normalize_of, grouping_of, local_of, merging_of, join_of, semi_of, ranking_of, sink_of}
use Rattle.plan_rules.specs.Plans.{Doing, scan_of}
use Rattle.plan_rules.specs.Roles.{Role, role, batch_by, part_by, range_by}

-- ---- the table

-- a group in bundles goes over rows, or over partial rows
abbrev pub bundled_rule : ℕ → List Agg → Around → Option LocalGrouping → Rule
bundled_rule keys aggs around None = group_rule (grouping_of keys aggs around)
bundled_rule keys aggs around (Some l) = merge_rule (merging_of l around)

-- by which rule an operator tells its answer, among what is around it; none for a scan, and where the rule isn't built yet
abbrev pub rule_of : Op → Option (Around → Rule)
rule_of (op.Scan source) = None
rule_of (op.Filter cond) = Some (λ around. filter_rule (filter_of (expr_view cond)))
rule_of (op.Project items) = Some (λ around. project_rule (project_of (map expr_view items) around))
rule_of op.Union = Some (λ around. union_rule (union_of around))
rule_of (op.Normalize key) = Some (λ around. normalize_rule (normalize_of key around))
rule_of (op.Group keys aggs) = Some (λ around. group_rule (grouping_of keys aggs around))
rule_of (op.BatchGroup keys aggs) = Some (λ around. bundled_rule keys aggs around around.partial)
rule_of (op.Join kind on rest) = Some (λ around. join_rule (join_of kind on (option_map expr_view rest) around))
rule_of (op.Semi anti on rest) = Some (λ around. join_rule (semi_of anti on (option_map expr_view rest) around))
rule_of (op.TopN partition order bound ranked) = Some (λ around. topn_rule (ranking_of partition order bound ranked around))
rule_of (op.Materialize key) = Some (λ around. materialize_rule key)
rule_of op.Sink = Some (λ around. sink_rule (sink_of around))
rule_of (op.LocalGroup keys aggs) = Some (λ around. local_rule (local_of keys aggs around))
rule_of (op.MultiJoin on) = None
rule_of (op.SetOp except all columns) = Some (λ around. set_rule (record { except = except; all = all }))

-- a group's calls have types and modes suit it, and it sums up what can be summed up
abbrev pub BundlesWell : ℕ → List Agg → Around → Option LocalGrouping → Type 0
BundlesWell keys aggs around None = GroupsWell (grouping_of keys aggs around)
BundlesWell keys aggs around (Some l) = SumsUp l × GroupsWell (in_one_phase (merging_of l around))

-- what an operator asks of what is around it: a normalizer tells by its key, a group's calls have types and modes suit it, and a Top-N's
-- columns are there and modes suit it
abbrev pub Suits : Op → Around → Type 0
Suits (op.Scan source) around = Unit {0}
Suits (op.Filter cond) around = Unit {0}
Suits (op.Project items) around = Unit {0}
Suits op.Union around = Unit {0}
Suits (op.Normalize key) around = TellsKey key (mode_told around.own)
Suits (op.Group keys aggs) around = GroupsWell (grouping_of keys aggs around)
Suits (op.BatchGroup keys aggs) around = BundlesWell keys aggs around around.partial
Suits (op.Join kind on rest) around = Unit {0}
Suits (op.Semi anti on rest) around = Unit {0}
Suits (op.TopN partition order bound ranked) around = RanksWell (ranking_of partition order bound ranked around)
Suits (op.Materialize key) around = Unit {0}
Suits op.Sink around = Unit {0}
Suits (op.LocalGroup keys aggs) around = SumsUp (local_of keys aggs around) × IsOfBags (local_of keys aggs around).input
Suits (op.MultiJoin on) around = Unit {0}
Suits (op.SetOp except all columns) around = Unit {0}

-- it scans a table, or its rule is built
abbrev pub has_rule : Op → Bool
has_rule operator = is_some (scan_of operator) || is_some (rule_of operator)

-- ---- what a node does

-- its rule, the batch answer of a subtask and of the node, and the types of the row at which it is out of range
pub record Behaviour : Type 0 where
  pub rule : Rule
  pub part : ℕ → (ℕ → Rows) → Option Rows
  pub batch : (ℕ → Rows) → Option Rows
  pub range_types : List ColTy

-- by its rule and its role
abbrev pub behaviour_by : Option (Around → Rule) → Role → Around → Option Behaviour
behaviour_by None r around = None
behaviour_by (Some rule) r around = Some (record { rule = rule around; part = λ subtask rows. part_by r around subtask rows; batch = λ rows. batch_by r around rows; range_types = range_by r around.columns (second around).columns })

abbrev pub behaviour : Op → Around → Option Behaviour
behaviour operator around = behaviour_by (rule_of operator) (role operator) around

-- the types alone, by the columns of its first and of its second input; none where its rule isn't built
abbrev pub range_types_by : Option (Around → Rule) → Role → List ColTy → List ColTy → List ColTy
range_types_by None r columns others = []
range_types_by (Some rule) r columns others = range_by r columns others

-- nothing: a scan's changes come from its table, and no plan that runs has a node whose rule isn't built
abbrev pub idle : Doing
idle = record { opening = λ subtask. []; emits = λ before piece. Ok []; range_types = []; part = λ subtask rows. None; batch = λ rows. None }

-- as a node of a network
abbrev pub doing_of : Option Behaviour → Doing
doing_of None = idle
doing_of (Some b) = record { opening = b.rule.opening; emits = b.rule.emits; range_types = b.range_types; part = b.part; batch = b.batch }

-- how many ports it has
abbrev pub ports_by : Option Behaviour → ℕ
ports_by None = 0
ports_by (Some b) = b.rule.ports

-- it has a rule, each of whose ports takes what its edge carries
abbrev pub TakesBy : Option Behaviour → Task → Type 0
TakesBy None task = ⊥
TakesBy (Some b) task = TakesAll b.rule task
