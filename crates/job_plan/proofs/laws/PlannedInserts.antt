-- The theorems of this crate, put together of its lemmas.
use Rattle.job_plan.proofs.Settings as settings
use Rattle.job_plan.specs.Inserts.{SettingsAreFew, InsertsHaveLaidPlans}
use Rattle.job_plan.proofs.Plans.{have_laid_plans}
use Rattle.query_laws.proofs.laws.Theorems.{bound_inserts_are_well_typed_columns, bound_inserts_are_well_typed_unions, bound_inserts_are_well_typed_sink}
use Rattle.judge.proofs.laws.DeclaredTables.{tables_are_well_declared_types}

-- A script sets one subtask to sixteen, and at most a million changes in a bundle.
pub settings_are_few : SettingsAreFew
settings_are_few = settings.settings_are_few

-- The plan that is laid of what an INSERT is bound to is that of a well-typed tree with full unions, whose columns go into the sink's, over
-- tables that may be declared, in 1 to 16 subtasks and bundles of at most 1,000,000 changes.
pub inserts_have_laid_plans : InsertsHaveLaidPlans
inserts_have_laid_plans =
    have_laid_plans bound_inserts_are_well_typed_columns bound_inserts_are_well_typed_unions bound_inserts_are_well_typed_sink
    tables_are_well_declared_types settings_are_few
