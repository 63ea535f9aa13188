use Rattle.std.proofs.Common.{◌≡◌, ℕ, List, [], ◌∷◌, Some, length, get_or, slice_get, ap, sym, subst, ◌∙◌, arith}
use Rattle.std.proofs.lemmas.List.{length-append}
use Rattle.std.proofs.lemmas.Option.{same_Some, slice_get-get_or}
use Rattle.ct_value.specs.declared.ty.ColTy.{ColTy}
use Rattle.ct_catalog.specs.declared.table.TableDef.{TableDef}
use Rattle.plan_rules.specs.Plans.{Doing, network_of, spread_of}
use Rattle.ct_catalog.specs.Columns.{column_types}
use Rattle.session_core.specs.declared.wiring.TableWiring.{TableWiring}
use Rattle.session_core.specs.LaidOut.{scans_below}
use Rattle.session_open.specs.Opening.{AreRoutable, IsKeyRoute}
use Rattle.session_open.proofs.Laying.{Each, each_push}
use Rattle.session_open.proofs.tables.tables_of.Goals as goal

pub spread_by-requires : goal.spread_by-requires
spread_by-requires c =
    let table = c.index-as_slice-number.result in
    let number = c.loop-number.number in
    let at : table ≡ get_or c.args.plan.now.sources number table = c.index-as_slice-number.is ∙ ap (λ (l : List TableDef). get_or l number table) c.as_slice.ensures in
    subst (λ (t : TableDef). AreRoutable (column_types t) (spread_of t)) (sym at) (c.requires.spread number table (omega (arith, c.loop-number-test.true, c.len-number-end.ensures)))

pub loop-number-preserved : goal.loop-number-preserved
loop-number-preserved c =
    let table = c.index-as_slice-number.result in
    let number = c.loop-number.number in
    let sources = c.args.plan.now.sources in
    let old = c.loop-number.tables.items in
    let made : TableWiring = record { spread = c.in_ok-spread.spread; scans = c.in_ok-scans.scans } in
    let at : table ≡ get_or sources number table = c.index-as_slice-number.is ∙ ap (λ (l : List TableDef). get_or l number table) c.as_slice.ensures in
    let found : slice_get sources number ≡ Some table = slice_get-get_or sources number table (omega (arith, c.loop-number-test.true, c.len-number-end.ensures)) ∙ ap Some (sym at) in
    let P : ℕ → TableWiring → Type 0 = λ n kept. (t : TableDef) → slice_get sources n ≡ Some t
    → IsKeyRoute (column_types t) (spread_of t) kept.spread × ((of : ℕ → List ColTy) (doing : ℕ → Doing) → kept.scans ≡ scans_below (network_of of doing c.args.plan.now) n (length c.args.plan.now.nodes)) in
    let here : P number made = λ t is. (subst (λ (x : TableDef). IsKeyRoute (column_types x) (spread_of x) c.in_ok-spread.spread) (same_Some table t (sym found ∙ is)) c.in_ok-spread.ensures, c.in_ok-scans.ensures) in
    let longer = ap length c.in_ok-push.ensures.items in
    let sum = length-append old (made ∷ []) in
    record {
      count = omega (arith, longer, sum, c.loop-number.invariant.count);
      tables = subst (Each P) (sym c.in_ok-push.ensures.items) (each_push P old made c.loop-number.invariant.tables (subst (λ (n : ℕ). P n made) (sym c.loop-number.invariant.count) here));
    }
