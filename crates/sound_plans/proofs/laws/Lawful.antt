-- What is known of an operator, in one record: that its node stands between its edges, that what its rule asks of what is around it holds, that
-- it asks its inputs for columns that they have, and that it stays in range where it calculates nothing. What columns it sends, and of which
-- types the row is at which it is out of range, is told by its role for all operators at once (SentTypes).
use Rattle.std.specs.Prelude.{◌≡◌, ℕ, ◌<◌, Bool, List, map, slice_get, Option, option_map}
use Rattle.std.proofs.Common.{true, refl, Some}
use Rattle.ct_expr.specs.declared.expr.Expr.{Expr}
use Rattle.ct_expr.specs.View.{expr_view}
use Rattle.rel_algebra.specs.declared.agg.Agg.{Agg}
use Rattle.rel_algebra.specs.declared.join.JoinKind.{JoinKind}
use Rattle.rel_algebra.specs.declared.join.Pair.{Pair}
use Rattle.rel_algebra.specs.declared.sort.SortCol.{SortCol}
use Rattle.rel_algebra.specs.Joins.{join_columns}
use Rattle.phase_rules.specs.LocalGrouping.{LocalGrouping}
use Rattle.phys_plan.specs.declared.node.Node.{Node}
use Rattle.phys_plan.specs.declared.node.Op.{Op}
use Rattle.phys_plan.specs.declared.node.Op.TheVariants as op
use Rattle.phys_plan.specs.declared.plan.Plan.{Plan}
use Rattle.phys_plan.specs.Reading.{numbered}
use Rattle.mode_infer.specs.Kinds.{asked}
use Rattle.plan_rules.specs.Around.{Around, mode_read, filter_of, project_of, union_of, normalize_of, grouping_of, local_of, join_of, semi_of, ranking_of, sink_of}
use Rattle.plan_rules.specs.Behaviours.{Suits, behaviour, has_rule}
use Rattle.plan_rules.specs.Doings.{around_of}
use Rattle.plan_rules.specs.Phases.{local_by}
use Rattle.range_rules.proofs.laws.Rows.{filters_stay, projects_stay, unions_stay, normalizes_stay, sinks_stay}
use Rattle.range_rules.proofs.laws.Groups.{groups_stay}
use Rattle.range_rules.proofs.laws.Joins.{joins_stay}
use Rattle.range_rules.proofs.laws.LocalGroups.{local_groups_stay}
use Rattle.range_rules.proofs.laws.Materializes.{materializes_stay}
use Rattle.range_rules.proofs.laws.Ranks.{topns_stay}
use Rattle.range_rules.proofs.laws.SetOps.{set_operations_stay}
use Rattle.sound_plans.specs.Promises.{Laws}
use Rattle.sound_plans.specs.Sound.{IsRuled}
use Rattle.sound_plans.specs.TameOps.{is_tame_op}
use Rattle.sound_plans.proofs.laws.Agreed.{AreProper}
use Rattle.sound_plans.proofs.laws.Asked as a
use Rattle.sound_plans.proofs.laws.Asked.{AsksFor}
use Rattle.sound_plans.proofs.laws.Stands as t
use Rattle.sound_plans.proofs.laws.Stands.{AreLower, NodeStands}
use Rattle.sound_plans.proofs.laws.Stays.{AreCounted, StaysBy, bundled, rows}
use Rattle.sound_plans.proofs.laws.Suits as s

-- ---- the record

module _ (laws : Laws) (plan : Plan) (ruled : IsRuled plan) where
  -- a node of a plan, below which all nodes are proper
  pub record IsOverProper (v : ℕ) (node : Node) : Type 0 where
    pub there : numbered plan.nodes v ≡ Some node
    pub lower : AreLower laws plan ruled v
    pub proper : AreProper laws plan ruled node.inputs

  -- what is known of it, where it has this operator
  pub record LawfulAt (v : ℕ) (node : Node) (o : Op) : Type 0 where
    pub stands : NodeStands laws plan ruled v node
    pub suits : Suits o (around_of plan v node.inputs)
    pub asks : (p input : ℕ) → slice_get node.inputs p ≡ Some input → AsksFor plan input (asked o p)

pub record Lawful (o : Op) : Type 0 where
  pub at : (laws : Laws) (plan : Plan) (ruled : IsRuled plan) (v : ℕ) (node : Node) → IsOverProper laws plan ruled v node → node.op ≡ o → LawfulAt laws plan ruled v node o
  pub stays : (most limit : ℕ) (small : limit < 9223372036854775808) (around : Around) → is_tame_op o ≡ true → Suits o around
      → ((l : LocalGrouping) → around.partial ≡ Some l → AreCounted most limit l)
      → StaysBy most limit small around.partial (local_by o around.columns (mode_read around.kinds around.input)) (behaviour o around)

-- ---- by operator

scans : (source : ℕ) → Lawful (op.Scan source)
scans source = record {
  at = λ laws plan ruled v node over is. record {
    stands = t.scan laws plan ruled v node over.there source is;
    suits = tt;
    asks = λ p input h. tt;
  };
  stays = λ most limit small around tame suits counted. tt;
}

filters : (cond : Expr) → Lawful (op.Filter cond)
filters cond = record {
  at = λ laws plan ruled v node over is. record {
    stands = t.one laws plan ruled v node over.there (op.Filter cond) is (λ n. refl) (t.plain laws plan ruled v node over.there is refl) refl refl refl refl refl refl over.proper (t.filter_works plan.parallelism (t.some laws plan ruled) plan.sources plan.sink cond);
    suits = tt;
    asks = λ p input h. tt;
  };
  stays = λ most limit small around tame suits counted. rows most limit small _ around.partial (filters_stay (filter_of (expr_view cond)) tame);
}

projects : (items : List Expr) → Lawful (op.Project items)
projects items = record {
  at = λ laws plan ruled v node over is. record {
    stands = t.one laws plan ruled v node over.there (op.Project items) is (λ n. refl) (t.plain laws plan ruled v node over.there is refl) refl refl refl refl refl refl over.proper (t.project_works plan.parallelism (t.some laws plan ruled) plan.sources plan.sink items);
    suits = tt;
    asks = λ p input h. tt;
  };
  stays = λ most limit small around tame suits counted. rows most limit small _ around.partial (projects_stay (project_of (map expr_view items) around) tame);
}

unions : Lawful op.Union
unions = record {
  at = λ laws plan ruled v node over is. record {
    stands = t.union laws plan ruled v node over.there is over.proper;
    suits = tt;
    asks = λ p input h. tt;
  };
  stays = λ most limit small around tame suits counted. rows most limit small _ around.partial (unions_stay (union_of around));
}

normalizes : (key : List ℕ) → Lawful (op.Normalize key)
normalizes key = record {
  at = λ laws plan ruled v node over is. record {
    stands = t.normalize laws plan ruled v node over.there key is over.proper;
    suits = s.normalizes laws plan ruled v node over.there over.proper key is;
    asks = λ p input h. a.key_there laws plan ruled v node p input over.there over.proper h key is;
  };
  stays = λ most limit small around tame suits counted. rows most limit small _ around.partial (normalizes_stay (normalize_of key around));
}

groups : (keys : ℕ) (aggs : List Agg) → Lawful (op.Group keys aggs)
groups keys aggs = record {
  at = λ laws plan ruled v node over is. record {
    stands = t.one laws plan ruled v node over.there (op.Group keys aggs) is (λ n. refl) (t.plain laws plan ruled v node over.there is refl) refl refl refl refl refl refl over.proper (t.group_works plan.parallelism (t.some laws plan ruled) plan.sources plan.sink keys aggs);
    suits = s.groups laws plan ruled v node over.there over.proper keys aggs is;
    asks = λ p input h. a.groups_there laws plan ruled v node p input over.there h (op.Group keys aggs) is (λ n. refl) keys aggs (λ inputs. refl);
  };
  stays = λ most limit small around tame suits counted. rows most limit small _ around.partial (groups_stay (grouping_of keys aggs around) tame);
}

bundles : (keys : ℕ) (aggs : List Agg) → Lawful (op.BatchGroup keys aggs)
bundles keys aggs = record {
  at = λ laws plan ruled v node over is. record {
    stands = t.bundled_node laws plan ruled v node over.there keys aggs is over.lower over.proper;
    suits = s.bundles laws plan ruled v node over.there over.lower over.proper keys aggs is;
    asks = λ p input h. a.groups_there laws plan ruled v node p input over.there h (op.BatchGroup keys aggs) is (λ n. refl) keys aggs (λ inputs. refl);
  };
  stays = λ most limit small around tame suits counted. bundled most limit small keys aggs around around.partial tame suits counted;
}

local_groups : (keys : ℕ) (aggs : List Agg) → Lawful (op.LocalGroup keys aggs)
local_groups keys aggs = record {
  at = λ laws plan ruled v node over is. record {
    stands = t.local_node laws plan ruled v node over.there keys aggs is over.proper;
    suits = s.locals laws plan ruled v node over.there over.proper keys aggs is;
    asks = λ p input h. tt;
  };
  stays = λ most limit small around tame suits counted. local_groups_stay (local_of keys aggs around) suits.0 tame most limit around.partial;
}

joins : (kind : JoinKind) (on : List Pair) (rest : Option Expr) → Lawful (op.Join kind on rest)
joins kind on rest = record {
  at = λ laws plan ruled v node over is. record {
    stands = t.two laws plan ruled v node over.there (op.Join kind on rest) is (λ n. refl) (t.plain laws plan ruled v node over.there is refl) refl refl refl refl refl refl over.proper (t.join_works plan.parallelism (t.some laws plan ruled) plan.sources plan.sink kind on rest);
    suits = tt;
    asks = λ p input h. a.sides_there laws plan ruled v node p input over.there h (op.Join kind on rest) is (λ n. refl) on (option_map expr_view rest) (join_columns kind) (λ inputs. refl);
  };
  stays = λ most limit small around tame suits counted. rows most limit small _ around.partial (joins_stay (join_of kind on (option_map expr_view rest) around) tame);
}

semi_joins : (anti : Bool) (on : List Pair) (rest : Option Expr) → Lawful (op.Semi anti on rest)
semi_joins anti on rest = record {
  at = λ laws plan ruled v node over is. record {
    stands = t.two laws plan ruled v node over.there (op.Semi anti on rest) is (λ n. refl) (t.plain laws plan ruled v node over.there is refl) refl refl refl refl refl refl over.proper (t.semi_works plan.parallelism (t.some laws plan ruled) plan.sources plan.sink anti on rest);
    suits = tt;
    asks = λ p input h. a.sides_there laws plan ruled v node p input over.there h (op.Semi anti on rest) is (λ n. refl) on (option_map expr_view rest) (λ left right. left) (λ inputs. refl);
  };
  stays = λ most limit small around tame suits counted. rows most limit small _ around.partial (joins_stay (semi_of anti on (option_map expr_view rest) around) tame);
}

set_operations : (except all : Bool) (columns : ℕ) → Lawful (op.SetOp except all columns)
set_operations except all columns = record {
  at = λ laws plan ruled v node over is. record {
    stands = t.two laws plan ruled v node over.there (op.SetOp except all columns) is (λ n. refl) (t.plain laws plan ruled v node over.there is refl) refl refl refl refl refl refl over.proper (t.set_works plan.parallelism (t.some laws plan ruled) plan.sources plan.sink except all columns);
    suits = tt;
    asks = λ p input h. a.all_there laws plan ruled v node p input over.there h except all columns is;
  };
  stays = λ most limit small around tame suits counted. rows most limit small _ around.partial (set_operations_stay (record { except = except; all = all }));
}

ranks : (partition : List ℕ) (order : List SortCol) (bound : ℕ) (ranked : Bool) → Lawful (op.TopN partition order bound ranked)
ranks partition order bound ranked = record {
  at = λ laws plan ruled v node over is. record {
    stands = t.one laws plan ruled v node over.there (op.TopN partition order bound ranked) is (λ n. refl) (t.plain laws plan ruled v node over.there is refl) refl refl refl refl refl refl over.proper (t.rank_works plan.parallelism (t.some laws plan ruled) plan.sources plan.sink partition order bound ranked);
    suits = s.ranks laws plan ruled v node over.there over.proper partition order bound ranked is;
    asks = λ p input h. a.partition_there laws plan ruled v node p input over.there over.proper h partition order bound ranked is;
  };
  stays = λ most limit small around tame suits counted. rows most limit small _ around.partial (topns_stay (ranking_of partition order bound ranked around));
}

materializes : (key : List ℕ) → Lawful (op.Materialize key)
materializes key = record {
  at = λ laws plan ruled v node over is. record {
    stands = t.materialize laws plan ruled v node over.there key is over.proper;
    suits = tt;
    asks = λ p input h. a.shown_there laws plan ruled v node p input over.there over.proper h key is;
  };
  stays = λ most limit small around tame suits counted. rows most limit small _ around.partial (materializes_stay key);
}

sinks : Lawful op.Sink
sinks = record {
  at = λ laws plan ruled v node over is. record {
    stands = t.sink laws plan ruled v node over.there is over.proper;
    suits = tt;
    asks = λ p input h. tt;
  };
  stays = λ most limit small around tame suits counted. rows most limit small _ around.partial (sinks_stay (sink_of around));
}

-- ---- each operator

pub lawful : (o : Op) → has_rule o ≡ true → Lawful o
lawful (op.Scan source) r = scans source
lawful (op.Filter cond) r = filters cond
lawful (op.Project items) r = projects items
lawful op.Union r = unions
lawful (op.Normalize key) r = normalizes key
lawful (op.Group keys aggs) r = groups keys aggs
lawful (op.BatchGroup keys aggs) r = bundles keys aggs
lawful (op.LocalGroup keys aggs) r = local_groups keys aggs
lawful (op.Join kind on rest) r = joins kind on rest
lawful (op.Semi anti on rest) r = semi_joins anti on rest
lawful (op.SetOp except all columns) r = set_operations except all columns
lawful (op.TopN partition order bound ranked) r = ranks partition order bound ranked
lawful (op.Materialize key) r = materializes key
lawful op.Sink r = sinks
lawful (op.MultiJoin on) r = absurd (cc)
