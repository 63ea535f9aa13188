use Rattle.std.proofs.Common.{◌≡◌, ℕ, List, length, slice_get, Some}
use Rattle.ct_value.specs.declared.ty.ColTy.{ColTy}
use Rattle.ct_catalog.specs.declared.table.TableDef.{TableDef}
use Rattle.plan_rules.specs.Plans.{Doing, network_of, spread_of}
use Rattle.ct_catalog.specs.Columns.{column_types}
use Rattle.session_core.specs.LaidOut.{scans_below}
use Rattle.session_open.specs.Opening.{IsKeyRoute}
use Rattle.session_open.proofs.Laying.{Each}
use Rattle.session_open.proofs.tables.tables_of.Given as goal

abbrev pub invariant-loop-number : goal.invariant-loop-number
invariant-loop-number l = record {
  count : length l.tables.items ≡ l.number;
  tables : Each (λ number kept. (table : TableDef) → slice_get l.plan.sources number ≡ Some table
      → IsKeyRoute (column_types table) (spread_of table) kept.spread × ((of : ℕ → List ColTy) (doing : ℕ → Doing) → kept.scans ≡ scans_below (network_of of doing l.plan) number (length l.plan.nodes))) l.tables.items;
}
