use Rattle.std.proofs.Common.{◌≡◌, [], Some, length, slice_get}
use Rattle.ct_catalog.specs.declared.table.TableDef.{TableDef}
use Rattle.plan_rules.specs.Plans.{table_of}
use Rattle.session_open.proofs.Laying.{Each}
use Rattle.session_open.proofs.sources.sources_of.Given as goal

abbrev pub invariant-loop-number : goal.invariant-loop-number
invariant-loop-number b l = record {
  count : length l.sources.items ≡ l.number;
  sources : Each (λ number source. (table : TableDef) → slice_get l.plan.sources number ≡ Some table → b.S.SourceCheck.stands_for source (table_of l.plan.parallelism table) []) l.sources.items;
}
