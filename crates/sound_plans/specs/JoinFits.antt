-- Joins, semi joins, set operations and Top-N of a sound plan fit between their edges.
use Rattle.std.specs.Prelude.{ℕ, ◌<◌, Bool, List, [], ◌∷◌, Option, option_map}
use Rattle.ct_catalog.specs.declared.table.TableDef.{TableDef}
use Rattle.ct_expr.specs.View.{expr_view}
use Rattle.ct_expr.specs.declared.expr.Expr.{Expr}
use Rattle.rel_algebra.specs.declared.join.JoinKind.{JoinKind}
use Rattle.rel_algebra.specs.declared.join.Pair.{Pair}
use Rattle.rel_algebra.specs.declared.sort.SortCol.{SortCol}
use Rattle.op_rules.specs.Edges.{IsKeyedBy}
use Rattle.ct_change.specs.declared.update.Update.{Update}
use Rattle.phys_plan.specs.declared.node.Op.{Op}
use Rattle.phys_plan.specs.declared.node.Op.TheVariants as op
use Rattle.emission_rules.specs.JoinFits.{JoinFits}
use Rattle.emission_rules.specs.SetOps.{SetFits}
use Rattle.emission_rules.specs.TopFits.{TopNFits}
use Rattle.column_sets.specs.Places.{first_columns}
use Rattle.plan_rules.specs.Plans.{exchange_of, meaning_by}
use Rattle.plan_rules.specs.Around.{join_of, ranking_of, semi_of}
use Rattle.sound_plans.specs.Outputs.{Output, IsProper, around_by, edge_of, edges_of}
use Rattle.sound_plans.specs.Agrees.{Agrees, IsAsked}

abbrev pub JoinsFit : Type 0
JoinsFit = (many : ℕ) → 0 < many → (sources : List TableDef) (sink : TableDef) (kind : JoinKind) (on : List Pair) (rest : Option Expr) (left right own : Output)
    → Agrees sources sink (op.Join kind on rest) (left ∷ (right ∷ [])) own
    → JoinFits many (join_of kind on (option_map expr_view rest) (around_by sink (left ∷ (right ∷ [])) own)) (edges_of many (left ∷ (right ∷ []))) (edge_of many own) × IsProper own

abbrev pub SemisFit : Type 0
SemisFit = (many : ℕ) → 0 < many → (sources : List TableDef) (sink : TableDef) (anti : Bool) (on : List Pair) (rest : Option Expr) (left right own : Output)
    → Agrees sources sink (op.Semi anti on rest) (left ∷ (right ∷ [])) own
    → JoinFits many (semi_of anti on (option_map expr_view rest) (around_by sink (left ∷ (right ∷ [])) own)) (edges_of many (left ∷ (right ∷ []))) (edge_of many own) × IsProper own

abbrev pub SetOperationsFit : Type 0
SetOperationsFit = (many : ℕ) → 0 < many → (sources : List TableDef) (sink : TableDef) (except all : Bool) (columns : ℕ) (left right own : Output)
    → Agrees sources sink (op.SetOp except all columns) (left ∷ (right ∷ [])) own
    → SetFits many (record { except = except; all = all }) (first_columns columns) left.columns right.columns (edges_of many (left ∷ (right ∷ []))) (edge_of many own) × IsProper own

abbrev pub TopNsFit : Type 0
TopNsFit = (many : ℕ) → 0 < many → (sources : List TableDef) (sink : TableDef) (partition : List ℕ) (order : List SortCol) (bound : ℕ) (ranked : Bool) (input own : Output)
    → Agrees sources sink (op.TopN partition order bound ranked) (input ∷ []) own
    → TopNFits many (ranking_of partition order bound ranked (around_by sink (input ∷ []) own)) (edge_of many input) (edge_of many own) × IsProper own

-- an edge that carries new rows alone keeps each key in one channel
abbrev pub EdgesAreKeyed : Type 0
EdgesAreKeyed = (sink : TableDef) (o : Op) (own : Update) (port : ℕ) (input : Output) → IsAsked sink o own port input
    → IsKeyedBy (meaning_by input.edge.update) (exchange_of input.edge.exchange)
