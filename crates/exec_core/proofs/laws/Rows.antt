-- What a run over a sound plan prints is as wide as the table of its sink.
use Rattle.std.specs.Prelude.{◌≡◌, ◌≤◌, ℕ, max, IsTrue, List, length, map, unwrap_or}
use Rattle.std.proofs.Common.{suc, true, [], ◌∷◌, refl, sym, ap, subst, ◌∙◌, arith, Some}
use Rattle.std.specs.List.{AllByRecursion, list_all}
use Rattle.ct_value.specs.declared.ty.ColTy.{ColTy}
use Rattle.ct_field.specs.Numbers.{is_type}
use Rattle.ct_catalog.specs.declared.table.ColDef.{ColDef}
use Rattle.ct_catalog.specs.Columns.{column_types}
use Rattle.job_text.specs.Printed.{IsWide}
use Rattle.op_rules.specs.Edges.{Meaning}
use Rattle.op_rules.proofs.laws.Values.{types-length}
use Rattle.phys_plan.specs.declared.node.Node.{Node}
use Rattle.phys_plan.specs.declared.node.Op.{Op}
use Rattle.phys_plan.specs.declared.node.Op.TheVariants as op
use Rattle.phys_plan.specs.declared.plan.Plan.{Plan}
use Rattle.phys_plan.specs.declared.plan.Rule.TheVariants as rule
use Rattle.phys_plan.specs.Reading.{numbered}
use Rattle.plan_check.specs.Sound.{IsSound}
use Rattle.plan_check.specs.Types.{is_typed, is_typed_by, keep_nulls, types_at}
use Rattle.plan_rules.specs.Columns.{columns_at}
use Rattle.plan_rules.specs.Doings.{network}
use Rattle.plan_rules.specs.Phases.{fits_sent}
use Rattle.plan_rules.specs.Plans.{change_fits}
use Rattle.plan_shape.specs.Shape.{has_sizes, is_shaped, is_sink, is_whole}
use Rattle.plan_shape.specs.Shaped.{MeetsShape}
use Rattle.plan_shape.specs.Tables.{are_tables, has_columns, has_type, is_declarable, key_fits}
use Rattle.plan_shape.proofs.laws.Theorems.{shaped_plans_have_shape}
use Rattle.rel_algebra.specs.GoesInto.{go_into, goes_into}
use Rattle.sound_plans.specs.Sound.{IsRuled}
use Rattle.sound_plans.proofs.laws.Columns.{columns_are}
use Rattle.sound_plans.proofs.laws.Lists.{both}
use Rattle.sound_plans.proofs.laws.Shapes.{IsBefore, among, inputs_there, last_sinks, shape}
use Rattle.sound_plans.proofs.laws.Theorems.{sink_sends_rows, sound_plans_are_wired, sound_plans_meet_facts_facts}
use Rattle.stream_model.specs.declared.events.PrintItem.{PrintItem}
use Rattle.stream_model.specs.declared.events.PrintItem.TheVariants.{Change as Printed, Quiet}
use Rattle.stream_model.specs.Machine.{opened}
use Rattle.stream_model.specs.Runs.{Item, after, changes_in, AreTyped}
use Rattle.stream_model.proofs.laws.KeysTold.{told-types}
use Rattle.stream_model.proofs.laws.Theorems.{plans_compose}

-- ---- the sink sends as many columns as its table has

abbrev sent_columns : Plan → List ColTy
sent_columns plan = columns_at plan.sources plan.nodes (length plan.nodes)

go_length : (columns sinks : List ColTy) → go_into columns sinks ≡ true → length columns ≡ length sinks
go_length [] [] e = refl
go_length [] (sink ∷ sinks) e = absurd (cc (e))
go_length (column ∷ columns) [] e = absurd (cc (e))
go_length (column ∷ columns) (sink ∷ sinks) e = ap suc (go_length columns sinks (both (goes_into column sink) (go_into columns sinks) e).1)

module _ (plan : Plan) (ruled : IsRuled plan) where
  meets : MeetsShape plan
  meets v low high = ruled.sound rule.Shape v low high

  typed : (v : ℕ) (node : Node) → numbered plan.nodes v ≡ Some node → is_typed_by plan.sink node.op (types_at plan.sources plan.nodes v) ≡ true
  typed v node e =
      let a = among plan.nodes v node e in
      sym (ap (λ o. is_typed plan.sink o (types_at plan.sources plan.nodes v)) e)
      ∙ ruled.sound rule.Types v (let n = a.number in omega arith) (let f = a.few in omega arith)

  before : (v : ℕ) (node : Node) → numbered plan.nodes v ≡ Some node → AllByRecursion (IsBefore plan meets shaped_plans_have_shape v) node.inputs
  before v node e = inputs_there plan meets shaped_plans_have_shape v node e

  sink_length : (o : Op) (columns : List ColTy) → is_sink (Some o) ≡ true → is_typed_by plan.sink o (Some columns) ≡ true → length columns ≡ length (column_types plan.sink)
  sink_length op.Sink columns h t = go_length columns (column_types plan.sink) (both (go_into columns (column_types plan.sink)) (keep_nulls columns (column_types plan.sink)) t).0
  sink_length _ columns h t = absurd (cc)

  sent_length : length (sent_columns plan) ≡ length (column_types plan.sink)
  sent_length =
      let count = length plan.nodes in
      let last = (shape plan meets shaped_plans_have_shape).last in
      let has = columns_are plan.sources plan.sink plan.nodes ruled.rules before typed count last.0 last.1 in
      let same : has.0 ≡ sent_columns plan = sym (ap (λ o. unwrap_or o []) has.2) in
      let told : is_typed_by plan.sink last.0.op (Some has.0) ≡ true = sym (ap (is_typed_by plan.sink last.0.op) has.1) ∙ typed count last.0 last.1 in
      ap length (sym same) ∙ sink_length last.0.op has.0 (last_sinks plan meets shaped_plans_have_shape count last.0 last.1 refl) told

-- ---- so do the changes that it prints

module _ (columns : List ColTy) (width : ℕ) (same : length columns ≡ width) where
  items_wide : (meaning : Meaning) (items : List PrintItem) → AllByRecursion (λ change. change_fits meaning columns change ≡ true) (changes_in items) → AllByRecursion (IsWide width) items
  items_wide meaning [] h = tt
  items_wide meaning (Printed change ∷ items) h = (types-length columns change.row (told-types _ columns change.row h.0) ∙ same, items_wide meaning items h.1)
  items_wide meaning (Quiet counts ∷ items) h = (tt, items_wide meaning items h)

types_length : (cols : List ColDef) → length (map (λ c. c.ty) cols) ≡ length (map (λ c. c.ty.ty) cols)
types_length [] = refl
types_length (col ∷ cols) = ap suc (types_length cols)

-- each item that a run over a sound plan has printed is as wide as the table of the sink
pub printed_wide : (plan : Plan) → IsRuled plan → (limit : ℕ) (items : List Item) → AreTyped (network plan) items
    → AllByRecursion (IsWide (length (map (λ c. c.ty.ty) plan.sink.cols))) (after (network plan) limit (opened (network plan)) items).printed
printed_wide plan ruled limit items typed =
    let g = network plan in
    let holds = plans_compose g (sound_plans_are_wired plan ruled) (sound_plans_meet_facts_facts plan ruled) limit items typed in
    let printed = (after g limit (opened g) items).printed in
    let rows = subst (λ o. AllByRecursion (λ change. fits_sent o (change_fits (g.edge g.count).meaning (sent_columns plan)) change ≡ true) (changes_in printed)) (sink_sends_rows plan ruled) holds.printed_fits in
    items_wide (sent_columns plan) (length (map (λ c. c.ty.ty) plan.sink.cols)) (sent_length plan ruled ∙ types_length plan.sink.cols) (g.edge g.count).meaning printed rows

-- ---- the types of its columns exist

types_exist : (cols : List ColDef) → list_all has_type cols ≡ true → AllByRecursion (λ ty. IsTrue (is_type ty)) (map (λ c. c.ty.ty) cols)
types_exist [] h = tt
types_exist (col ∷ cols) h = let b = both (has_type col) (list_all has_type cols) h in (b.0, types_exist cols b.1)

-- the table of a sound plan may be declared
pub sink_types_exist : (plan : Plan) → IsSound plan → AllByRecursion (λ ty. IsTrue (is_type ty)) (map (λ c. c.ty.ty) plan.sink.cols)
sink_types_exist plan sound =
    let high : 1 ≤ max 1 (length plan.nodes) = omega arith in
    let whole : is_whole plan ≡ true = (both (is_whole plan) (is_shaped plan 1 (numbered plan.nodes 1)) (sound rule.Shape 1 (omega arith) high)).0 in
    let tables = (both (has_sizes plan) (are_tables (plan.sink ∷ plan.sources)) whole).1 in
    let sink = (both (is_declarable plan.sink) (list_all is_declarable plan.sources) (both (list_all is_declarable (plan.sink ∷ plan.sources)) _ tables).0).0 in
    let columns = (both (has_columns plan.sink) (key_fits plan.sink.mode plan.sink.cols plan.sink.key) sink).0 in
    types_exist plan.sink.cols (both _ (list_all has_type plan.sink.cols) (both _ _ columns).1).1
