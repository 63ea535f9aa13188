use Rattle.std.proofs.Common.{inl, refl, subst}
use Rattle.job_ending.proofs.laws.Runs.{done_is}
use Rattle.job_ending.specs.Runs.{IsCaused}
use Rattle.job_run.specs.Outcome.{outcome}
use Rattle.job_run.specs.Answers.{AreAnswers}
use Rattle.job_run.specs.Edges.{AreCarried}
use Rattle.job_run.proofs.Headline.{Laws, answers, carried, headline, wrote}
use Rattle.job_run.proofs.InRange.{stays_in_range}
use Rattle.job_run.proofs.requests.run.Goals as goal
use Rattle.job_batch.proofs.laws.Theorems.{accepted_queries_keep_their_answers}
use Rattle.job_judgement.proofs.laws.Theorems.{accepted_is_bound}
use Rattle.job_plan.proofs.laws.Theorems.{scripts_are_planned}
use Rattle.laid_plans.proofs.laws.Theorems.{inferred_plans_answer}
use Rattle.source_lines.proofs.laws.Theorems.{taken_files_fit}
use Rattle.sql_grammar.proofs.laws.Theorems.{text_is_script}
use Rattle.judge.proofs.laws.DeclaredTables.{tables_are_well_declared_types}
use Rattle.run_laws.proofs.laws.Theorems.{runs_carry_admitted, runs_end_quiet, runs_print_answers, runs_print_rows, sinks_take_columns}
use Rattle.range_rules.proofs.laws.Theorems.{inserts_are_tame}
use Rattle.run_laws.proofs.laws.TameTheorems.{runs_stay_in_range}
use Rattle.run_laws.proofs.laws.Trees.{trees_have_tame_plans}

laws : Laws
laws = record {
  prints = runs_print_answers;
  carries = runs_carry_admitted;
  ends_quiet = runs_end_quiet;
  rows = runs_print_rows;
  sinks = sinks_take_columns;
  can = scripts_are_planned;
  answers = inferred_plans_answer;
  agree = accepted_queries_keep_their_answers;
  fit = taken_files_fit;
  reads = text_is_script;
  typed = tables_are_well_declared_types;
}

pub returns-clause-answers : goal.returns-clause-answers
returns-clause-answers g c = λ h is.
    wrote _ _ (outcome c.args.words.now h).bytes (AreAnswers c.args.words.now h) (c.run_asked.ensures.runs.part h is) (answers laws h c.args.words.now)

pub returns-clause-edges : goal.returns-clause-edges
returns-clause-edges g c = λ h is.
    wrote _ _ (outcome c.args.words.now h).bytes (AreCarried c.args.words.now h) (c.run_asked.ensures.runs.part h is) (carried laws h c.args.words.now)

pub returns-clause-headline : goal.returns-clause-headline
returns-clause-headline g c = λ done h is.
    headline laws h c.args.words.now (done_is _ (outcome c.args.words.now) _ _ _ _ (inl refl) c.run_asked.ensures.runs.cause done h is)

pub returns-clause-range : goal.returns-clause-range
returns-clause-range g c = λ h is none node subtask row columns out.
    stays_in_range accepted_is_bound inserts_are_tame scripts_are_planned trees_have_tame_plans runs_stay_in_range text_is_script h node subtask row columns c.args.words.now none
    (subst (IsCaused _ (outcome c.args.words.now) _ _) out c.run_asked.ensures.runs.cause h is)
