-- The types of the columns of a row at which a run stops exist: they are made of those of a node's inputs.
use Rattle.std.specs.Prelude.{ℕ, List, map, take, Option}
use Rattle.std.proofs.Common.{zero, suc, [], ◌∷◌, sym, subst, Some, None}
use Rattle.std.specs.List.{AllByRecursion}
use Rattle.ct_value.specs.declared.ty.ColTy.{ColTy}
use Rattle.rel_algebra.specs.Rel.{Unary, filter_by, project_on, group_by, rank_in}
use Rattle.op_rules.specs.Rules.{Rule}
use Rattle.phys_plan.specs.Reading.{numbered, first_input}
use Rattle.phys_plan.specs.declared.node.Node.{Node}
use Rattle.phys_plan.specs.declared.plan.Plan.{Plan}
use Rattle.plan_rules.specs.Around.{Around, first_side, second}
use Rattle.plan_rules.specs.Behaviours.{behaviour_by, doing_of, rule_of}
use Rattle.plan_rules.specs.Columns.{columns_at}
use Rattle.plan_rules.specs.Doings.{other_inputs, side_of, around_of, doing_in, network}
use Rattle.plan_rules.specs.Roles.{Role, reads_table, one_of, two_of, all_of, same_as, part_of, not_told, range_by, range_of_one, role}
use Rattle.sound_plans.specs.Sound.{IsRuled}
use Rattle.sound_plans.proofs.laws.SentTypes.{ColumnsHaveTypes, all_both, sent_types_exist}
use Rattle.typing_laws.specs.Exist.{Exist}
use Rattle.run_laws.specs.Stops.{RunsStopWhereOut, StopsHaveTypes}

all_first : {A : Type 0} (P : A → Type 0) (n : ℕ) (xs : List A) → AllByRecursion P xs → AllByRecursion P (take n xs)
all_first P zero xs h = tt
all_first P (suc n) [] h = tt
all_first P (suc n) (x ∷ xs) h = (h.0, all_first P n xs h.1)

-- ---- the types that a stop names

module _ (types_exist : ColumnsHaveTypes) (plan : Plan) (ruled : IsRuled plan) where
  known : (v : ℕ) → Exist (columns_at plan.sources plan.nodes v)
  known v = sent_types_exist types_exist plan ruled v

  second_known : (inputs : List ℕ) → Exist (first_side (map (side_of plan) (other_inputs inputs))).columns
  second_known [] = tt
  second_known (input ∷ []) = tt
  second_known (input ∷ (other ∷ inputs)) = known other

  one_types : (how : Unary) (columns : List ColTy) → Exist columns → Exist (range_of_one how columns)
  one_types (filter_by condition) columns h = h
  one_types (project_on items) columns h = h
  one_types (group_by keys aggs) columns h = all_first _ keys columns h
  one_types (rank_in partition order bound ranked) columns h = h

  role_types : (r : Role) (columns others : List ColTy) → Exist columns → Exist others → Exist (range_by r columns others)
  role_types (reads_table source) columns others h k = tt
  role_types (one_of how) columns others h k = one_types how columns h
  role_types (two_of how) columns others h k = all_both _ columns others h k
  role_types all_of columns others h k = h
  role_types same_as columns others h k = h
  role_types (part_of keys aggs) columns others h k = all_first _ keys columns h
  role_types (not_told so_many) columns others h k = tt

  does_types : (told : Option (Around → Rule)) (r : Role) (around : Around) → Exist around.columns → Exist (second around).columns → Exist (doing_of (behaviour_by told r around)).range_types
  does_types None r around h k = tt
  does_types (Some told) r around h k = role_types r around.columns (second around).columns h k

  node_types : (v : ℕ) (o : Option Node) → Exist (doing_in plan v o).range_types
  node_types v None = tt
  node_types v (Some node) = does_types (rule_of node.op) (role node.op) (around_of plan v node.inputs) (known (first_input node.inputs)) (second_known node.inputs)

  range_types_exist : (v : ℕ) → Exist ((network plan).range_types v)
  range_types_exist v = node_types v (numbered plan.nodes v)

pub stops_have_types : ColumnsHaveTypes → RunsStopWhereOut → StopsHaveTypes
stops_have_types types_exist where_out plan ruled limit files orders node subtask row types p e =
    let stop = where_out plan ruled limit files orders node subtask row types p e in
    subst Exist (sym stop.0) (range_types_exist types_exist plan ruled node)
