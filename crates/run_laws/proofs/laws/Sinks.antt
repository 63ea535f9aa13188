-- What the sink of a sound plan sends may go into its table.
use Rattle.std.specs.Prelude.{◌≡◌, ℕ, List, length, unwrap_or}
use Rattle.std.proofs.Common.{true, [], refl, sym, ap, subst, ◌∙◌, arith, Some}
use Rattle.std.specs.List.{AllByRecursion}
use Rattle.ct_value.specs.declared.ty.ColTy.{ColTy}
use Rattle.phys_plan.specs.declared.node.Node.{Node}
use Rattle.phys_plan.specs.declared.node.Op.{Op}
use Rattle.phys_plan.specs.declared.node.Op.TheVariants as op
use Rattle.phys_plan.specs.declared.plan.Plan.{Plan}
use Rattle.phys_plan.specs.declared.plan.Rule.TheVariants as rule
use Rattle.phys_plan.specs.Reading.{numbered}
use Rattle.ct_catalog.specs.Columns.{column_types}
use Rattle.plan_shape.specs.Shape.{is_sink}
use Rattle.plan_shape.specs.Shaped.{MeetsShape, ShapedPlansHaveShape}
use Rattle.plan_check.specs.Types.{fit_sink, is_typed, is_typed_by, types_at}
use Rattle.sound_plans.specs.Sound.{IsRuled}
use Rattle.sound_plans.proofs.laws.Columns.{columns_are}
use Rattle.sound_plans.proofs.laws.Shapes.{IsBefore, among, inputs_there, last_sinks, shape}
use Rattle.run_laws.specs.Rows.{sent_columns, SinksFit}

module _ (shaped : ShapedPlansHaveShape) (plan : Plan) (ruled : IsRuled plan) where
  meets : MeetsShape plan
  meets v low high = ruled.sound rule.Shape v low high

  typed : (v : ℕ) (node : Node) → numbered plan.nodes v ≡ Some node → is_typed_by plan.sink node.op (types_at plan.sources plan.nodes v) ≡ true
  typed v node e =
      let a = among plan.nodes v node e in
      sym (ap (λ o. is_typed plan.sink o (types_at plan.sources plan.nodes v)) e)
      ∙ ruled.sound rule.Types v (let n = a.number in omega arith) (let f = a.few in omega arith)

  before : (v : ℕ) (node : Node) → numbered plan.nodes v ≡ Some node → AllByRecursion (IsBefore plan meets shaped v) node.inputs
  before v node e = inputs_there plan meets shaped v node e

  typed_sink : (o : Op) (columns : List ColTy) → is_sink (Some o) ≡ true → is_typed_by plan.sink o (Some columns) ≡ true → fit_sink columns (column_types plan.sink) ≡ true
  typed_sink op.Sink columns h t = t
  typed_sink _ columns h t = absurd (cc)

  pub sink_fits : fit_sink (sent_columns plan) (column_types plan.sink) ≡ true
  sink_fits =
      let count = length plan.nodes in
      let last = (shape plan meets shaped).last in
      let has = columns_are plan.sources plan.sink plan.nodes ruled.rules before typed count last.0 last.1 in
      let same : has.0 ≡ sent_columns plan = sym (ap (λ o. unwrap_or o []) has.2) in
      let told : is_typed_by plan.sink last.0.op (Some has.0) ≡ true = sym (ap (is_typed_by plan.sink last.0.op) has.1) ∙ typed count last.0 last.1 in
      subst (λ (c : List ColTy). fit_sink c (column_types plan.sink) ≡ true) same
      (typed_sink last.0.op has.0 (last_sinks plan meets shaped count last.0 last.1 refl) told)

pub sinks_fit : ShapedPlansHaveShape → SinksFit
sinks_fit shaped plan ruled = sink_fits shaped plan ruled
