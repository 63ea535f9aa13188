-- A run of a script without arithmetic never leaves a type's range.
use Rattle.std.specs.Prelude.{◌↔◌}
use Rattle.std.proofs.Common.{◌≡◌, ℕ, ◌+◌, ◌≤◌, Bool, true, false, ◌||◌, List, [], ◌∷◌, Option, Result, Ok, Err, refl, sym, ap, subst, ◌∙◌, arith}
use Rattle.ct_value.specs.declared.codes.ScriptCode.{ScriptCode}
use Rattle.ct_value.specs.declared.row.Row.{Row}
use Rattle.ct_value.specs.declared.ty.ColTy.{ColTy}
use Rattle.command_line.specs.Words.{FileNames, Request}
use Rattle.ct_io.specs.Holdings.{Holdings, Loaded, Whole, loaded}
use Rattle.sql_syntax.specs.Tree as t
use Rattle.sql_grammar.specs.ReadsScripts as s
use Rattle.sql_grammar.specs.Scripts.{IsScript}
use Rattle.ct_catalog.specs.Catalogue.{Catalogue, applied, empty}
use Rattle.judge.specs.Judgement.{Asked, Insert, Judged, asked_after, asked_by, asked_from, asked_of, declared_then, then}
use Rattle.binding.specs.Checked.{Checked}
use Rattle.binding.specs.Inserts.{Inserted, insert_bound}
use Rattle.range_rules.specs.Arithmetic.{in_query, in_statement, in_statements}
use Rattle.phys_plan.specs.declared.plan.Plan.{Plan}
use Rattle.job_ending.specs.declared.ending.Ending.TheVariants as e
use Rattle.job_ending.specs.declared.ending.LimitName.TheVariants.{Script as ScriptLimit}
use Rattle.job_ending.specs.Outcome.{Outcome}
use Rattle.job_judgement.specs.Judged.{IsBound, IsJudged}
use Rattle.job_judgement.specs.Judgement.{Accepted, accepted_of, at_statement, bound_insert, first_bound, judgement}
use Rattle.job_stream.specs.Stream.{most_sent, sink_key, sink_types, streamed}
use Rattle.plan_rules.specs.Doings.{network}
use Rattle.job_text.specs.declared.orders.OrderLine.{OrderLine}
use Rattle.source_lines.specs.Run.{whole_run}
use Rattle.source_lines.specs.Supply.{is_by_table}
use Rattle.source_lines.specs.declared.supply.ChangeFiles.{ChangeFiles}
use Rattle.range_rules.specs.Statement.{InsertsAreTame}
use Rattle.run_laws.specs.Runs.{RunsStayInRange, TreesHaveTamePlans, is_tame_plan}
use Rattle.job_plan.specs.Promises.{ScriptsArePlanned}
use Rattle.job_plan.specs.Planned.{planned, topped}
use Rattle.job_run.specs.Complete.{HasNoArithmetic}
use Rattle.job_run.specs.Outcome.{after_judgement, after_load, outcome, run_plan, run_script, script_limit, with_order, with_request}
use Rattle.job_run.proofs.Inputs.{HoldsBefore, at_input, at_order}
use Rattle.job_run.proofs.Printable.{stopped_so}

or_parts : (a b : Bool) → (a || b) ≡ false → (a ≡ false) × (b ≡ false)
or_parts true b e = absurd (cc (e))
or_parts false b e = (refl, e)

-- ---- the query of an accepted script is one of its statements

abbrev Free : List Insert → Type 0
Free [] = Unit {0}
Free (insert ∷ inserts) = (in_statement insert.statement ≡ false) × Free inserts

free_then : (others : Catalogue → Judged Asked) (number : ℕ) (o : Result Catalogue ScriptCode) (asked : Asked) → ((c : Catalogue) → others c ≡ Ok asked → Free asked.inserts) → declared_then others number o ≡ Ok asked → Free asked.inserts
free_then others number (Ok c) asked later e = later c e
free_then others number (Err code) asked later e = absurd (cc (e))

free_from : (c : Catalogue) (number : ℕ) (xs : List t.Statement) (asked : Asked) → in_statements xs ≡ false → asked_from c number xs ≡ Ok asked → Free asked.inserts
free_from c number [] asked none e = absurd (cc (e))
free_from c number (t.Insert table query ∷ []) asked none e =
    let same : asked_by c number (t.Insert table query) ≡ asked = cc (e) in
    subst (λ (a : Asked). Free a.inserts) same ((or_parts (in_query query) false none).0, tt)
free_from c number (t.Insert table query ∷ x ∷ xs) asked none e = absurd (cc (e))
free_from c number (t.Create name elements options ∷ xs) asked none e =
    free_then (λ more. asked_from more (number + 1) xs) number (applied c (t.Create name elements options)) asked (λ more is. free_from more (number + 1) xs asked none is) e
free_from c number (t.Set key value ∷ xs) asked none e =
    free_then (λ more. asked_from more (number + 1) xs) number (applied c (t.Set key value)) asked (λ more is. free_from more (number + 1) xs asked none is) e

free_bound : (c : Catalogue) (number : ℕ) (query : t.Query) (o : Checked Inserted) (script : Accepted) → in_query query ≡ false → at_statement c number query o ≡ Ok script → in_query script.query ≡ false
free_bound c number query (Ok inserted) script none e =
    let same : record { statement = number; catalogue = c; query = query; inserted = inserted } ≡ script = cc (e) in
    sym (ap (λ (x : Accepted). in_query x.query) same) ∙ none
free_bound c number query (Err code) script none e = absurd (cc (e))

free_insert : (c : Catalogue) (number : ℕ) (statement : t.Statement) (script : Accepted) → in_statement statement ≡ false → bound_insert c number statement ≡ Ok script → in_query script.query ≡ false
free_insert c number (t.Insert table query) script none e = free_bound c number query (insert_bound c.tables table query) script none e
free_insert c number (t.Create name elements options) script none e = absurd (cc (e))
free_insert c number (t.Set key value) script none e = absurd (cc (e))

free_first : (c : Catalogue) (inserts : List Insert) (script : Accepted) → Free inserts → first_bound c inserts ≡ Ok script → in_query script.query ≡ false
free_first c [] script free e = absurd (cc (e))
free_first c (insert ∷ others) script free e = free_insert c insert.number insert.statement script free.0 e

free_asked : (r : Judged Asked) (script : Accepted) → ((asked : Asked) → r ≡ Ok asked → Free asked.inserts) → then accepted_of r ≡ Ok script → in_query script.query ≡ false
free_asked (Ok asked) script free e = free_first asked.catalogue asked.inserts script (free asked refl) e
free_asked (Err refusal) script free e = absurd (cc (e))

free_query : (text : List ℕ) (statements : List t.Statement) (script : Accepted) → s.read_text text ≡ s.answered statements → in_statements statements ≡ false → judgement text ≡ Ok script → in_query script.query ≡ false
free_query text statements script read none e =
    free_asked (asked_of text) script (λ asked is. free_from empty 1 statements asked none (sym (ap asked_after read) ∙ is)) e

-- ---- the run

module _ (bound : (script : Accepted) → IsJudged script → IsBound script) (tame : InsertsAreTame) (can : ScriptsArePlanned) (trees : TreesHaveTamePlans) (stays : RunsStayInRange) (h : Holdings) (node subtask : ℕ) (row : Row) (columns : List ColTy) (names : FileNames) (order : Option (List ℕ))
    (script_text : List ℕ) (statements : List t.Statement) (read : s.read_text script_text ≡ s.answered statements) (none : in_statements statements ≡ false) where
  abbrev Stays : Outcome → Type 0
  Stays o = o.ending ≡ e.Range node subtask row columns → ⊥

  halts_before : HoldsBefore Stays
  halts_before = record { missing = λ out. absurd (cc (out)); long = λ name out. absurd (cc (out)); bad = λ line out. absurd (cc (out)) }

  run_stays : (script : Accepted) → judgement script_text ≡ Ok script → (plan : Plan) → planned script ≡ Ok plan → (files : ChangeFiles) (orders : List OrderLine) → Stays (streamed plan files orders)
  run_stays script judged plan runs files orders out =
      let is : IsJudged script = record { text = script_text; judged = judged } in
      let b = bound script is in
      let calculates_nothing = tame script.catalogue.tables b.table script.query script.inserted b.bound (free_query script_text statements script read none judged) in
      let ran = stopped_so (is_by_table files) (sink_types plan.sink) (sink_key plan.sink) (whole_run (network plan) most_sent plan.sources files orders) node subtask row columns out in
      let of = can script is plan runs in
      let tame_plan : is_tame_plan plan ≡ true = ap is_tame_plan of.is ∙ trees (topped script) script.inserted.query.rel of.laid_out calculates_nothing in
      let bundled : plan.mini_batch ≤ 1000000 = subst (λ (p : Plan). p.mini_batch ≤ 1000000) (sym of.is) of.laid_well.bundled in
      stays plan of.ruled tame_plan most_sent (omega arith) (λ v node there sends. omega (arith, bundled)) files orders node subtask row columns ran.0 ran.1

  plan_stays : (script : Accepted) → judgement script_text ≡ Ok script → (j : Judged Plan) → planned script ≡ j → Stays (after_judgement (run_plan h names.input order) j)
  plan_stays script judged (Err refusal) is = λ out. absurd (cc (out))
  plan_stays script judged (Ok plan) is =
      at_input h Stays halts_before names.input plan.sources (λ files. with_order h order (is_by_table files) (streamed plan files))
      (λ files held. at_order h Stays halts_before order (is_by_table files) (streamed plan files) (λ orders ordered. run_stays script judged plan is files orders))

  script_stays : (j : Judged Accepted) → judgement script_text ≡ j → Stays (after_judgement (run_script h names.input order) j)
  script_stays (Err refusal) is = λ out. absurd (cc (out))
  script_stays (Ok script) is = plan_stays script is (planned script) refl

  file_stays : (l : Loaded) → l ≡ Whole script_text → Stays (after_load ScriptLimit (λ text. after_judgement (run_script h names.input order) (judgement text)) l)
  file_stays l is = subst (λ (x : Loaded). Stays (after_load ScriptLimit (λ text. after_judgement (run_script h names.input order) (judgement text)) x)) (sym is) (script_stays (judgement script_text) refl)

pub stays_in_range : ((script : Accepted) → IsJudged script → IsBound script) → InsertsAreTame → ScriptsArePlanned → TreesHaveTamePlans → RunsStayInRange → ((text : List ℕ) (x : t.Script) → (s.read_text text ≡ s.answered x.statements) ↔ IsScript text x)
    → (h : Holdings) (node subtask : ℕ) (row : Row) (columns : List ColTy) (words : List (List ℕ)) → HasNoArithmetic words h → (outcome words h).ending ≡ e.Range node subtask row columns → ⊥
stays_in_range bound tame can trees stays reads h node subtask row columns words free out =
    file_stays bound tame can trees stays h node subtask row columns free.names free.order free.script_text free.script.statements ((reads free.script_text free.script).1 free.spelled) free.none
    (loaded h free.names.script script_limit) free.script_held (sym (ap (λ (o : Option Request). (with_request h o).ending) free.named) ∙ out)
