-- What the planner makes of the plan that is laid of a script's query.
use Rattle.std.specs.Prelude.{◌≡◌, ℕ, List, map, Option, Result, IfOk, IfErr}
use Rattle.std.proofs.Common.{false, refl, sym, ap, subst, ◌∙◌, Some, None, Ok, Err}
use Rattle.ct_value.specs.declared.codes.ScriptCode.{ScriptCode}
use Rattle.ct_catalog.specs.Catalogue.{Catalogue}
use Rattle.ct_catalog.specs.declared.settings.Materialize.{Materialize}
use Rattle.ct_catalog.specs.declared.table.TableDef.{TableDef}
use Rattle.rel_algebra.specs.Rel.{Rel}
use Rattle.rel_algebra.specs.Types.{columns_of}
use Rattle.sql_syntax.specs.Tree.{Query, Text}
use Rattle.query_answer.specs.Answer.{types}
use Rattle.binding.specs.Checked.{Checked}
use Rattle.binding.specs.Inserts.{Inserted, insert_bound}
use Rattle.ct_catalog.specs.Columns.{column_types}
use Rattle.phys_plan.specs.declared.plan.Plan.{Plan}
use Rattle.plan_laying.specs.Faults.{lacks_table}
use Rattle.plan_rules.specs.Pieces.{Top, bare, plan_of_tree}
use Rattle.plan_check.specs.declared.checked.CheckedPlan.{CheckedPlan}
use Rattle.plan_check.specs.Checked.{plan_in}
use Rattle.plan_check.specs.Sound.{inferred_of}
use Rattle.planner.specs.Refusals.{refusal}
use Rattle.sound_plans.specs.Sound.{IsRuled}
use Rattle.laid_plans.specs.Inferred.{with_inferred}
use Rattle.planner.specs.declared.fault.PlannerFault.{PlannerFault}
use Rattle.planner.specs.Planned.{IsLaidPlan, Made, Refused, Planned, PlannedPlansAreRuled, Says, ToppedPlansAreLaidOut, made, made_by, sink_top}
use Rattle.plan_laying.specs.Topped.{topped_plan}
use Rattle.job_plan.specs.Inserts.{InsertsHaveLaidPlans}
use Rattle.job_judgement.specs.Judged.{IsBound, IsJudged}
use Rattle.job_judgement.specs.Judgement.{Accepted}
use Rattle.job_plan.specs.Promises.{ScriptsArePlanned}
use Rattle.job_plan.specs.Planned.{laid, mini_batch_of, planned_by}

-- ---- the plan that is laid

of_ok : (o : Checked Inserted) (bound : Inserted) (P : Inserted → Type 0) → o ≡ Ok bound → IfOk o P → P bound
of_ok (Ok x) bound P e p = let same : x ≡ bound = cc in subst P same p
of_ok (Err code) bound P e p = absurd (cc)

abbrev pub InsertsAreTyped : Type 0
InsertsAreTyped = (tables : List TableDef) (name : Text) (query : Query) → IfOk (insert_bound tables name query) (λ b. columns_of (map column_types b.sources) b.query.rel ≡ Some (types b.query.scope))

abbrev pub TypedTreesHaveTables : Type 0
TypedTreesHaveTables = (sources : List TableDef) (rel : Rel) (columns : List _) → columns_of (map column_types sources) rel ≡ Some columns → lacks_table sources rel ≡ false

module _ (script : Accepted) (bound : IsBound script) where
  -- each table of the tree is there
  pub have_tables : InsertsAreTyped → TypedTreesHaveTables → lacks_table script.inserted.sources script.inserted.query.rel ≡ false
  have_tables typed have =
      have script.inserted.sources script.inserted.query.rel (types script.inserted.query.scope)
      (of_ok (insert_bound script.catalogue.tables bound.table script.query) script.inserted (λ b. columns_of (map column_types b.sources) b.query.rel ≡ Some (types b.query.scope)) bound.bound (typed script.catalogue.tables bound.table script.query))

  -- a plan that is the definition's
  pub laid_well : InsertsHaveLaidPlans → (plan : Plan) → plan ≡ laid script → IsLaidPlan plan script.inserted.query.rel
  laid_well inserts plan is =
      let sources : plan.sources ≡ script.inserted.sources = ap (λ (p : Plan). p.sources) is in
      let sink : plan.sink ≡ script.inserted.sink = ap (λ (p : Plan). p.sink) is in
      let parallelism : plan.parallelism ≡ script.catalogue.settings.parallelism = ap (λ (p : Plan). p.parallelism) is in
      let mini_batch : plan.mini_batch ≡ mini_batch_of script.catalogue.settings = ap (λ (p : Plan). p.mini_batch) is in
      let phases : bound.asked.catalogue.settings.two_phase ≡ script.catalogue.settings.two_phase = ap (λ (c : Catalogue). c.settings.two_phase) bound.tables in
      inserts bound.text bound.table script.query script.inserted plan (record {
        asked = bound.asked;
        is_asked = bound.asks;
        is_bound = ap (λ (c : Catalogue). insert_bound c.tables bound.table script.query) bound.tables ∙ bound.bound;
        laid_out = is ∙ sym (λ i. plan_of_tree (sources i) (sink i) (parallelism i) (record { size = mini_batch i; two_phase = phases i }) bare script.inserted.query.rel);
        sources = sources;
        sink = sink;
        parallelism = parallelism ∙ sym (ap (λ (c : Catalogue). c.settings.parallelism) bound.tables);
        mini_batch = mini_batch ∙ sym (ap (λ (c : Catalogue). mini_batch_of c.settings) bound.tables);
      })

-- ---- what the planner makes of it

module _ (script : Accepted) (plan : Plan) (is : plan ≡ laid script) (setting : Materialize) where
  pub answers : (r : Result CheckedPlan PlannerFault) → IfOk r (λ checked. made plan setting ≡ Planned (plan_in checked)) → IfOk r (λ checked. made (laid script) setting ≡ Planned (plan_in checked))
  answers r e = subst (λ (p : Plan). IfOk r (λ checked. made p setting ≡ Planned (plan_in checked))) is e

  pub faults : (r : Result CheckedPlan PlannerFault) → IfErr r (λ f. Says (made plan setting) f) → IfErr r (λ f. Says (made (laid script) setting) f)
  faults r e = subst (λ (p : Plan). IfErr r (λ f. Says (made p setting) f)) is e

pub ruled : PlannedPlansAreRuled → (script : Accepted) (plan : Plan) → IsLaidPlan plan script.inserted.query.rel → (setting : Materialize) (r : Result CheckedPlan PlannerFault)
    → IfOk r (λ checked. made plan setting ≡ Planned (plan_in checked)) → IfOk r (λ checked. IsRuled (plan_in checked))
ruled planned script plan is setting (Ok checked) e = planned plan script.inserted.query.rel setting (plan_in checked) is e
ruled planned script plan is setting (Err f) e = tt

-- ---- the law

of_planned : (statement : ℕ) (m : Made) (plan : Plan) → planned_by statement m ≡ Ok plan → m ≡ Planned plan
of_planned statement (Refused code) plan e = absurd (cc (e))
of_planned statement (Planned own) plan e = let same : own ≡ plan = cc (e) in ap Planned same

inferred_is : (p plan : Plan) (code : Option ScriptCode) (top : Top) → made_by p code top ≡ Planned plan → plan ≡ with_inferred (topped_plan top p)
inferred_is p plan (Some code) top e = absurd (cc)
inferred_is p plan None top e = sym (let same : with_inferred (topped_plan top p) ≡ plan = cc (e) in same)

pub are_planned : ((script : Accepted) → IsJudged script → IsBound script) → InsertsHaveLaidPlans → PlannedPlansAreRuled → ToppedPlansAreLaidOut → ScriptsArePlanned
are_planned bound inserts rules tops script judged plan e =
    let b = bound script judged in
    let setting = script.catalogue.settings.materialize in
    let m : made (laid script) setting ≡ Planned plan = of_planned script.statement (made (laid script) setting) plan e in
    let well = laid_well script b inserts (laid script) refl in
    record {
      laid_well = well;
      laid_out = tops (laid script) script.inserted.query.rel setting well;
      is = inferred_is (laid script) plan (refusal (inferred_of (laid script)) (laid script) setting) (sink_top (laid script) setting) m;
      ruled = rules (laid script) script.inserted.query.rel setting plan well m;
    }
