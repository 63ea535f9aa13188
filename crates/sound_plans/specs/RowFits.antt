-- Nodes of a sound plan with one input, unions and scans fit between their edges.
use Rattle.std.specs.Prelude.{◌≡◌, ℕ, ◌<◌, true, List, [], ◌∷◌, map}
use Rattle.ct_change.specs.declared.kind.Kind.{Kind}
use Rattle.ct_change.specs.Changelog.{has, admits}
use Rattle.ct_catalog.specs.declared.table.TableDef.{TableDef}
use Rattle.ct_expr.specs.View.{expr_view}
use Rattle.ct_expr.specs.declared.expr.Expr.{Expr}
use Rattle.rel_algebra.specs.declared.agg.Agg.{Agg}
use Rattle.phys_plan.specs.declared.node.Op.TheVariants as op
use Rattle.emission_rules.specs.Filter.{FilterFits}
use Rattle.emission_rules.specs.Project.{ProjectFits}
use Rattle.emission_rules.specs.Union.{UnionFits}
use Rattle.emission_rules.specs.Normalize.{NormalizeFits}
use Rattle.emission_rules.specs.Materialize.{MaterializeFits}
use Rattle.emission_rules.specs.Sink.{SinkFits}
use Rattle.emission_rules.specs.GroupFits.{GroupFits}
use Rattle.phase_rules.specs.LocalFits.{LocalFits}
use Rattle.phase_rules.specs.MergeFits.{MergeFits}
use Rattle.column_sets.specs.Places.{first_columns}
use Rattle.stream_model.specs.Scans.{CarriesTable}
use Rattle.plan_rules.specs.Plans.{table_of}
use Rattle.ct_catalog.specs.Columns.{table_mode}
use Rattle.plan_rules.specs.Around.{project_of, union_of, normalize_of, grouping_of, local_of, merging_of, sink_of}
use Rattle.sound_plans.specs.Outputs.{Output, IsProper, around_by, edge_of, edges_of, partial_edge, printed_edge, without_local}
use Rattle.sound_plans.specs.Agrees.{Agrees, LocalAgrees, MaterializeAgrees, MergeAgrees, NormalizeAgrees, ScanAgrees, SinkAgrees}

abbrev pub FiltersFit : Type 0
FiltersFit = (many : ℕ) (sources : List TableDef) (sink : TableDef) (cond : Expr) (input own : Output) → Agrees sources sink (op.Filter cond) (input ∷ []) own
    → FilterFits (edge_of many input) (edge_of many own) × IsProper own

abbrev pub ProjectsFit : Type 0
ProjectsFit = (many : ℕ) (sources : List TableDef) (sink : TableDef) (items : List Expr) (input own : Output) → Agrees sources sink (op.Project items) (input ∷ []) own
    → ProjectFits (project_of (map expr_view items) (around_by sink (input ∷ []) own)) (edge_of many input) (edge_of many own) × IsProper own

abbrev pub UnionsFit : Type 0
UnionsFit = (many : ℕ) (sources : List TableDef) (sink : TableDef) (inputs : List Output) (own : Output) → Agrees sources sink op.Union inputs own
    → UnionFits (union_of (around_by sink inputs own)) (edges_of many inputs) (edge_of many own) × IsProper own

abbrev pub NormalizesFit : Type 0
NormalizesFit = (many : ℕ) → 0 < many → (sink : TableDef) (key : List ℕ) (input own : Output) → NormalizeAgrees key input own
    → NormalizeFits (normalize_of key (around_by sink (input ∷ []) own)) many (edge_of many input) (edge_of many own) × IsProper own

abbrev pub MaterializesFit : Type 0
MaterializesFit = (many : ℕ) → 0 < many → (sink : TableDef) (key : List ℕ) (input own : Output) → MaterializeAgrees sink key input own
    → MaterializeFits key many (edge_of many input) (edge_of many own) × IsProper own

abbrev pub GroupsFit : Type 0
GroupsFit = (many : ℕ) → 0 < many → (sources : List TableDef) (sink : TableDef) (keys : ℕ) (aggs : List Agg) (input own : Output) → Agrees sources sink (op.Group keys aggs) (input ∷ []) own
    → GroupFits many (grouping_of keys aggs (around_by sink (input ∷ []) own)) (edge_of many input) (edge_of many own) × IsProper own

abbrev pub LocalGroupsFit : Type 0
LocalGroupsFit = (many : ℕ) → 0 < many → (sources : List TableDef) (sink : TableDef) (keys : ℕ) (aggs : List Agg) (input own : Output) → LocalAgrees sources sink keys aggs input own
    → LocalFits many (local_of keys aggs (around_by sink (input ∷ []) own)) (edge_of many input) (partial_edge many (local_of keys aggs (around_by sink (input ∷ []) own)) own) × IsProper own

-- where no local group stood, the group would take what comes to that
abbrev pub MergingGroupsFit : Type 0
MergingGroupsFit = (many : ℕ) → 0 < many → (sources : List TableDef) (sink : TableDef) (keys : ℕ) (aggs : List Agg) (input below own : Output) → MergeAgrees sources sink keys aggs input below own
    → MergeFits many (merging_of (local_of keys aggs (around_by sink (input ∷ []) below)) (around_by sink (below ∷ []) own)) (edge_of many (without_local (first_columns keys) input))
    (partial_edge many (local_of keys aggs (around_by sink (input ∷ []) below)) below) (edge_of many own) × IsProper own

-- and a sink prints kinds of its table's mode alone
abbrev pub SinksFit : Type 0
SinksFit = (many : ℕ) (sink : TableDef) (input own : Output) → SinkAgrees sink input own
    → SinkFits (sink_of (around_by sink (input ∷ []) own)) (edge_of many input) (printed_edge many sink own) × IsProper own
    × ((kind : Kind) → has own.edge.kinds kind ≡ true → admits (table_mode sink) kind ≡ true)

abbrev pub ScansFit : Type 0
ScansFit = (many : ℕ) → 0 < many → (table : TableDef) (own : Output) → ScanAgrees table own → CarriesTable many (table_of many table) (edge_of many own) × IsProper own
