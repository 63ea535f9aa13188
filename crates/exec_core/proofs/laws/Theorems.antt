-- The theorems of this crate, put together of its lemmas.
use Rattle.std.proofs.Common.{◌≡◌, sym, subst}
use Rattle.exec_core.proofs.Plans.{plans_open as plans_open_lemma}
use Rattle.phys_plan.specs.declared.plan.Plan.{Plan}
use Rattle.plan_inferred.specs.declared.inferred.Inferred.{Inferred}
use Rattle.plan_check.specs.Sound.{inferred_of}
use Rattle.exec_core.specs.Opening.{CanOpen, PlansOpen}
use Rattle.sound_plans.specs.Sound.{IsRuled}
use Rattle.sound_plans.proofs.laws.Theorems.{sound_plans_are_wired, sound_plans_keep_columns, sound_plans_meet_facts_facts, sound_plans_meet_facts_takes, sound_plans_suit, nodes_fit}
use Rattle.typing_laws.proofs.laws.Columns.{columns_exist as columns_have_types}

-- A job of a sound plan whose operators have rules can be opened with the operators of its nodes and the columns that they send.
pub plans_open : PlansOpen
plans_open = plans_open_lemma columns_have_types nodes_fit sound_plans_are_wired sound_plans_meet_facts_facts sound_plans_meet_facts_takes sound_plans_suit

-- So with the columns that are inferred of it.
pub kept_plans_open : (checked plan : Plan) → IsRuled checked → plan ≡ checked → (kept : Inferred) → kept ≡ inferred_of checked → CanOpen plan kept.columns
kept_plans_open checked plan ruled same kept known =
    let columns = sound_plans_keep_columns checked ruled in
    subst (λ (p : Plan). CanOpen p kept.columns) (sym same) (subst (λ (x : Inferred). CanOpen checked x.columns) (sym known) (plans_open checked (inferred_of checked).columns ruled columns.0 columns.1))
