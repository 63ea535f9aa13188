-- What a job has written, whatever its ending, and what one has written that ends well.
use Rattle.std.proofs.Common.{◌≡◌, ◌≤◌, ◌+◌, ◌++◌, ℕ, suc, Bool, true, false, List, [], ◌∷◌, length, Option, Some, None, Result, Ok, Err, inl, inr, refl, sym, ap, subst, ◌∙◌, arith, append_assoc, append-nil, cond, nat_le}
use Rattle.std.proofs.lemmas.Bool.Decides.{nat_tests}
use Rattle.std.proofs.lemmas.List.Sums.{sum_by-cons}
use Rattle.command_line.specs.Words.{FileNames, Request, run, batch, explain, load, request_of}
use Rattle.ct_value.specs.Bag.{items}
use Rattle.ct_value.specs.declared.codes.OrderCode.TheVariants.{BadLine}
use Rattle.ct_catalog.specs.declared.table.TableDef.{TableDef}
use Rattle.ct_change.specs.declared.change.Change.{Change}
use Rattle.ct_change.specs.Changelog.{Mode, Rows}
use Rattle.ct_field.proofs.laws.Numbers.{first_true}
use Rattle.ct_io.specs.Holdings.{Holdings, Loaded, Missing, Long, Whole, loaded}
use Rattle.ct_io.specs.Written.{AppendsPart}
use Rattle.job_text.specs.Lines.{LinesLeft, records_of}
use Rattle.job_text.specs.Printed.{item_lines, numbers_told, row_lines, sum_of}
use Rattle.job_text.specs.Told.{AreItemsOf}
use Rattle.job_text.specs.declared.orders.OrderLine.{OrderLine}
use Rattle.job_text.proofs.laws.Records.{few_records}
use Rattle.judge.specs.Judgement.{Judged}
use Rattle.rel_algebra.specs.Answer.{Table, answer}
use Rattle.rel_algebra.specs.GoesInto.{go_into}
use Rattle.rel_algebra.specs.Rel.{Rel}
use Rattle.sql_syntax.specs.Tree.{Query}
use Rattle.query_laws.specs.Statement.{tables_of}
use Rattle.source_lines.specs.Fitting.{RowsFit}
use Rattle.source_lines.specs.Supply.{AreFor, all_unread, is_by_table, unread_from}
use Rattle.source_lines.specs.Taken.{RefusedLine, Taken, firsts, nothing_taken, rows_of, take_files, taken_of}
use Rattle.source_lines.specs.Run.{At, Went, on, halts, refused, disordered, stopped, printed_by}
use Rattle.source_lines.specs.declared.supply.ChangeFiles.{ChangeFiles}
use Rattle.source_lines.specs.declared.supply.ChangeFiles.TheVariants.{One, Each}
use Rattle.job_ending.specs.declared.ending.Ending.{Ending}
use Rattle.job_ending.specs.declared.ending.Ending.TheVariants as e
use Rattle.job_ending.specs.declared.ending.LimitName.TheVariants.{Changes as ChangesLimit, Script as ScriptLimit}
use Rattle.job_ending.specs.Outcome.{Outcome, ends}
use Rattle.phys_plan.specs.declared.plan.Plan.{Plan}
use Rattle.plan_check.specs.Types.{keep_nulls}
use Rattle.stream_model.specs.declared.events.PrintItem.{PrintItem}
use Rattle.stream_model.specs.declared.events.PrintItem.TheVariants.{Quiet}
use Rattle.stream_model.specs.declared.events.StepFault.TheVariants as fault
use Rattle.stream_model.specs.Machine.{State}
use Rattle.stream_model.specs.Runs.{changes_in}
use Rattle.ct_catalog.specs.Columns.{table_mode, column_types}
use Rattle.run_laws.specs.Headline.{AreAnswered, AreWithin, IsAnswered, RunsCarryAdmitted, RunsEndQuiet, RunsPrintAnswers, with_rows as rows_in}
use Rattle.run_laws.specs.Rows.{RunsPrintRows, SinksFit, sent_columns}
use Rattle.job_judgement.specs.Judged.{IsJudged}
use Rattle.job_judgement.specs.Judgement.{Accepted, judgement}
use Rattle.job_batch.specs.Agree.{AnswersAgree, query_answer}
use Rattle.job_batch.specs.Batch.{after_lines, answered, sink_types as answer_types, with_changes as batch_changes, with_rows}
use Rattle.job_plan.specs.Shown.{shown}
use Rattle.job_stream.specs.Stream.{most_sent, outcome_of, sink_key, sink_types, streamed}
use Rattle.laid_plans.specs.Erased.{InferredPlansAnswer}
use Rattle.plan_rules.specs.Answers.{Answers}
use Rattle.sound_plans.specs.Sound.{IsRuled}
use Rattle.job_plan.specs.Promises.{IsScriptPlan, ScriptsArePlanned}
use Rattle.job_plan.specs.Planned.{planned, topped}
use Rattle.job_run.specs.Answers.{AreAnswers, AreAnswersOf, HasAnswers, HasRun, Wrote}
use Rattle.job_run.specs.Edges.{AreCarried, AreCarriedOf, run_of}
use Rattle.job_run.specs.Headline.{AreRows, HasAnswered, HasExplained, HasLoaded, HasSummed, IsHeadline, IsHeadlineOf}
use Rattle.job_run.specs.Held.{IsInput, IsOrder}
use Rattle.job_run.specs.Insert.{Insert, answer_of, answer_over, sources_of}
use Rattle.job_run.specs.Loads.{load_holdings, load_names, printed_feed, sums_script, summary_of}
use Rattle.job_run.specs.Outcome.{after_judgement, after_load, batch_named, batch_script, explain_script, changes_limit, load_of, load_run, over_input, run_named, run_plan, run_script, summed, sums_answer, sums_over, where_well, with_order, with_request, with_script, outcome}
use Rattle.job_run.proofs.Inputs.{HoldsBefore, at_input, at_order, bytes_in, files_of, input_for, input_short}
use Rattle.job_run.proofs.Inserted.{Found, IsInsertOf, Reads, TablesHaveTypes, found}
use Rattle.job_run.proofs.Printed.{items_of_sink}
use Rattle.job_run.proofs.Torn.{first_part, nothing_left}

-- ---- the answer of the tree is the query's

same_rows : (sources : List TableDef) (rows : List Rows) → rows_in sources rows ≡ tables_of (with_rows sources rows)
same_rows [] rows = refl
same_rows (source ∷ sources) [] = refl
same_rows (source ∷ sources) (rows ∷ others) = ap (λ (ts : List Table). (record { columns = column_types source; rows = rows }) ∷ ts) (same_rows sources others)

abbrev RowsTakenFit : Type 0
RowsTakenFit = (sources : List TableDef) (files : List LinesLeft) (taken : Taken) → take_files sources nothing_taken files ≡ Ok taken → RowsFit sources (rows_of sources taken)

module _ (agree : AnswersAgree) (fit : RowsTakenFit) (script : Accepted) (judged : IsJudged script) (files : ChangeFiles) where
  abbrev sources : List TableDef
  sources = script.inserted.sources

  abbrev rel : Rel
  rel = script.inserted.query.rel

  answered_so : (mode : Mode) (counts : List ℕ) (printed : List Change) → IsAnswered mode sources (λ rows. answer (rows_in sources rows) rel) files counts printed → IsAnswered mode sources (query_answer script) files counts printed
  answered_so mode counts printed is = record {
    within = is.within;
    taken = is.taken;
    is_taken = is.is_taken;
    counted = is.counted;
    valid = is.valid;
    folds =
        sym (agree script judged (rows_of sources is.taken) (fit sources (firsts (numbers_told (is_by_table files) counts) (all_unread files)) is.taken is.is_taken))
        ∙ ap (λ (ts : List Table). answer ts rel) (sym (same_rows sources (rows_of sources is.taken))) ∙ is.folds;
  }

  all_so : (mode : Mode) (items : List PrintItem) → AreAnswered mode sources (λ rows. answer (rows_in sources rows) rel) files items → AreAnswered mode sources (query_answer script) files items
  all_so mode items all before after counts is = answered_so mode counts (changes_in before) (all before after counts is)

  -- in the words of the text's INSERT
  pub insert_so : {text : List ℕ} (insert : Insert text) → IsInsertOf script insert → (items : List PrintItem) → AreAnswered (table_mode script.inserted.sink) sources (λ rows. answer (rows_in sources rows) rel) files items
      → AreAnswered (table_mode insert.sink) (sources_of insert) (answer_of insert) files items
  insert_so insert of items all =
      subst (λ (query : Query). AreAnswered (table_mode insert.sink) (sources_of insert) (answer_over (sources_of insert) insert.sink query) files items) of.query
      (subst (λ (sink : TableDef). AreAnswered (table_mode sink) (sources_of insert) (answer_over (sources_of insert) sink script.query) files items) of.sink
      (subst (λ (tables : List TableDef). AreAnswered (table_mode script.inserted.sink) tables (answer_over tables script.inserted.sink script.query) files items) of.sources
      (all_so (table_mode script.inserted.sink) items all)))

-- ---- rows

module _ (text : List ℕ) (script : Accepted) (f : Found text script) (first : Option ℕ) (files : ChangeFiles) where
  abbrev WellRows : Outcome → Type 0
  WellRows o = o.ending ≡ e.Done → AreRows f.insert first files o.bytes

  rows_here : (taken : Taken) → taken_of script.inserted.sources first files ≡ Ok taken → (b : Bool) (o : Option Rows) → query_answer script (rows_of script.inserted.sources taken) ≡ o → WellRows (answered (answer_types script) b o)
  rows_here taken is true o answers done = absurd (cc (done))
  rows_here taken is false None answers done = absurd (cc (done))
  rows_here taken is false (Some rows) answers done = record {
    taken = taken;
    rows = rows;
    lines_taken = ap (λ (tables : List TableDef). taken_of tables first files) (sym f.of.sources) ∙ is;
    answers = sym (λ i. answer_over (f.of.sources i) (f.of.sink i) (f.of.query i) (rows_of (f.of.sources i) taken)) ∙ answers;
    reads = ap (λ (sink : TableDef). row_lines (sink_types sink) (items rows)) f.of.sink;
  }

  pub lines_here : (r : Result Taken RefusedLine) → taken_of script.inserted.sources first files ≡ r → WellRows (after_lines script r)
  lines_here (Err refusal) is done = absurd (cc (done))
  lines_here (Ok taken) is done = rows_here taken is _ _ refl done

-- ---- the plan answers what the script's tree does

plan_answers : InferredPlansAnswer → (script : Accepted) (plan : Plan) → IsScriptPlan script plan → Answers plan script.inserted.query.rel
plan_answers answers script plan is =
    subst (λ (p : Plan). Answers p script.inserted.query.rel) (sym is.is) (answers (topped script) script.inserted.query.rel is.laid_out (subst IsRuled is.is is.ruled))

-- ---- how many changes a quiet moment tells

none_few : 0 ≤ 0
none_few = omega arith

both_few : (a b c d e : ℕ) → a ≤ c → c ≤ d → b ≤ e → a + b ≤ d + e
both_few a b c d e one lines others = omega (arith, one, lines, others)

one_few : (a c d : ℕ) → a ≤ c → c ≤ d → a ≤ d + 0
one_few a c d one lines = omega (arith, one, lines)

fed_few : (counts : List ℕ) (place : ℕ) (files : List (List ℕ)) → AreWithin counts (unread_from place files) → sum_of counts ≤ bytes_in files
fed_few [] place [] within = none_few
fed_few [] place (bytes ∷ files) within = absurd within
fed_few (count ∷ counts) place [] within = absurd within
fed_few (count ∷ counts) place (bytes ∷ files) within =
    subst (λ (n : ℕ). n ≤ bytes_in (bytes ∷ files)) (sym (sum_by-cons (λ x. x) count counts))
    (both_few count (sum_of counts) (length (records_of bytes)) (length bytes) (bytes_in files) within.0 (few_records bytes) (fed_few counts (suc place) files within.1))

few_told : (files : ChangeFiles) (counts : List ℕ) → AreWithin (numbers_told (is_by_table files) counts) (all_unread files) → sum_of counts ≤ bytes_in (files_of files)
few_told (One bytes) counts within = one_few (sum_of counts) (length (records_of bytes)) (length bytes) within.0 (few_records bytes)
few_told (Each files) counts within = fed_few counts 0 files within

-- ---- what halts before a run doesn't end well

halts_before : (Q : Outcome → Type 0) → ((ending : Ending) → (ending ≡ e.Done → ⊥) → Q (ends ending)) → HoldsBefore Q
halts_before Q none = record {
  missing = none e.ReadFault (λ done. absurd (cc (done)));
  long = λ name. none (e.Limit name) (λ done. absurd (cc (done)));
  bad = λ line. none (e.Order BadLine line) (λ done. absurd (cc (done)));
}

-- ---- the laws that stand behind a run

pub record Laws : Type 0 where
  pub prints : RunsPrintAnswers
  pub carries : RunsCarryAdmitted
  pub ends_quiet : RunsEndQuiet
  pub rows : RunsPrintRows
  pub sinks : SinksFit
  pub can : ScriptsArePlanned
  pub answers : InferredPlansAnswer
  pub agree : AnswersAgree
  pub fit : RowsTakenFit
  pub reads : Reads
  pub typed : TablesHaveTypes

module _ (h : Holdings) (names : FileNames) (text : List ℕ) (script_held : loaded h names.script 262144 ≡ Whole text) (script : Accepted) (accepted : judgement text ≡ Ok script) where
  abbrev is_judged : IsJudged script
  is_judged = record { text = text; judged = accepted }

  -- ---- a run

  module _ (laws : Laws) (order : Option (List ℕ)) (plan : Plan) (runs : planned script ≡ Ok plan) (files : ChangeFiles) (held : IsInput h names.input plan.sources files) (orders : List OrderLine) (ordered : IsOrder h order (is_by_table files) orders) where
    abbrev went : Went (At State)
    went = run_of plan files orders

    of_plan : IsScriptPlan script plan
    of_plan = laws.can script is_judged plan runs

    sources_same : plan.sources ≡ script.inserted.sources
    sources_same = ap (λ (p : Plan). p.sources) of_plan.is

    sink_same : plan.sink ≡ script.inserted.sink
    sink_same = ap (λ (p : Plan). p.sink) of_plan.is

    of_sources : AreFor files plan.sources
    of_sources = input_for h names.input plan.sources files held

    abbrev Answered : TableDef → List TableDef → Type 0
    Answered sink sources = AreAnswered (table_mode sink) sources (λ rows. answer (rows_in sources rows) script.inserted.query.rel) files (printed_by went)

    module _ (f : Found text script) where
      sinks_same : plan.sink ≡ f.insert.sink
      sinks_same = sink_same ∙ f.of.sink

      files_held : IsInput h names.input (sources_of f.insert) files
      files_held = subst (λ (sources : List TableDef). IsInput h names.input sources files) (sources_same ∙ f.of.sources) held

      run_answered : AreAnswered (table_mode f.insert.sink) (sources_of f.insert) (answer_of f.insert) files (printed_by went)
      run_answered =
          insert_so laws.agree laws.fit script is_judged files f.insert f.of (printed_by went)
          (subst (λ (sink : TableDef). Answered sink script.inserted.sources) sink_same
          (subst (λ (sources : List TableDef). Answered plan.sink sources) sources_same
          (laws.prints plan script.inserted.query.rel of_plan.ruled (plan_answers laws.answers script plan of_plan) most_sent files orders of_sources)))

      run_within : (before after : List PrintItem) (counts : List ℕ) → printed_by went ≡ before ++ Quiet counts ∷ after → sum_of counts ≤ 67108864
      run_within before after counts is =
          let few = few_told files counts (run_answered before after counts is).within in
          omega (arith, few, input_short h names.input plan.sources files held)

      run_typed : AreItemsOf (sink_types f.insert.sink) (sink_key f.insert.sink) (printed_by went)
      run_typed =
          subst (λ (sink : TableDef). AreItemsOf (sink_types sink) (sink_key sink) (printed_by went)) sinks_same
          (items_of_sink (sent_columns plan) plan.sink.cols (sink_key plan.sink) (first_true (go_into (sent_columns plan) (column_types plan.sink)) (keep_nulls (sent_columns plan) (column_types plan.sink)) (laws.sinks plan of_plan.ruled))
          (printed_by went) 67108864 (omega arith) run_within (laws.rows plan of_plan.ruled most_sent files orders))

      has_answers : (written rest : List ℕ) → item_lines (is_by_table files) (sink_types plan.sink) (sink_key plan.sink) (printed_by went) ≡ written ++ rest → HasAnswers names order h written
      has_answers written rest is =
          let p = first_part (is_by_table files) (sink_types f.insert.sink) (sink_key f.insert.sink) (printed_by went) written rest run_typed
          (ap (λ (sink : TableDef). item_lines (is_by_table files) (sink_types sink) (sink_key sink) (printed_by went)) (sym sinks_same) ∙ is) in
          record {
            text = text;
            script_held = script_held;
            insert = f.insert;
            files = files;
            files_held = files_held;
            orders = orders;
            order_held = ordered;
            items = p.whole;
            torn = p.torn;
            reads = p.reads;
            is_torn = p.is_torn;
            types = f.types;
            typed = p.typed;
            answered = λ before after counts cut. run_answered before (after ++ p.others) counts (p.split ∙ ap (λ items. items ++ p.others) cut ∙ append_assoc before (Quiet counts ∷ after) p.others);
          }

      run_ended : (p : At State) → went ≡ on p → HasRun names order h (item_lines (is_by_table files) (sink_types plan.sink) (sink_key plan.sink) p.state.printed)
      run_ended p is = record {
        answers = record {
          text = text;
          script_held = script_held;
          insert = f.insert;
          files = files;
          files_held = files_held;
          orders = orders;
          order_held = ordered;
          items = p.state.printed;
          torn = [];
          reads =
              ap (λ (sink : TableDef). item_lines (is_by_table files) (sink_types sink) (sink_key sink) p.state.printed) sinks_same
              ∙ sym (append-nil (item_lines (is_by_table files) (sink_types f.insert.sink) (sink_key f.insert.sink) p.state.printed));
          is_torn = inl refl;
          types = f.types;
          typed = subst (λ (w : Went (At State)). AreItemsOf (sink_types f.insert.sink) (sink_key f.insert.sink) (printed_by w)) is run_typed;
          answered = subst (λ (w : Went (At State)). AreAnswered (table_mode f.insert.sink) (sources_of f.insert) (answer_of f.insert) files (printed_by w)) is run_answered;
        };
        whole = refl;
        ends = laws.ends_quiet plan most_sent files orders of_sources p is;
      }

      run_well : (w : Went (At State)) → went ≡ w → (outcome_of (is_by_table files) (sink_types plan.sink) (sink_key plan.sink) w).ending ≡ e.Done
          → HasRun names order h (outcome_of (is_by_table files) (sink_types plan.sink) (sink_key plan.sink) w).bytes
      run_well (on p) is done = run_ended p is
      run_well (halts (refused code line table) p) is done = absurd (cc (done))
      run_well (halts (disordered code line) p) is done = absurd (cc (done))
      run_well (halts (stopped (fault.Change code)) p) is done = absurd (cc (done))
      run_well (halts (stopped (fault.Order code)) p) is done = absurd (cc (done))
      run_well (halts (stopped (fault.Range node subtask row types)) p) is done = absurd (cc (done))
      run_well (halts (stopped fault.Limit) p) is done = absurd (cc (done))
      run_well (halts (stopped fault.Memory) p) is done = absurd (cc (done))

    abbrev is_found : Found text script
    is_found = found laws.reads laws.typed text script accepted

    -- whatever its ending
    pub stream_answers : (written rest : List ℕ) → (streamed plan files orders).bytes ≡ written ++ rest → HasAnswers names order h written
    stream_answers written rest is = has_answers is_found written rest is

    pub stream_well : (streamed plan files orders).ending ≡ e.Done → HasRun names order h (streamed plan files orders).bytes
    stream_well done = run_well is_found went refl done

    pub stream_carried : (written rest : List ℕ) → (streamed plan files orders).bytes ≡ written ++ rest → AreCarriedOf (Some (run names order)) h written
    stream_carried written rest is = inr (record {
      script = script;
      plan = plan;
      files = files;
      orders = orders;
      held = record { script_text = text; script_held = script_held; accepted = accepted; input_held = held; order_held = ordered };
      runs = runs;
      sound = of_plan.ruled;
      rest = rest;
      reads = is;
      carried = laws.carries plan of_plan.ruled most_sent files orders;
    })

  -- what holds of a run holds where nothing is run
  module _ (order : Option (List ℕ)) (Q : Outcome → Type 0) (none : (ending : Ending) → (ending ≡ e.Done → ⊥) → Q (ends ending))
      (ran : (plan : Plan) → planned script ≡ Ok plan → (files : ChangeFiles) → IsInput h names.input plan.sources files → (orders : List OrderLine) → IsOrder h order (is_by_table files) orders → Q (streamed plan files orders)) where
    over_plan : (j : Judged Plan) → planned script ≡ j → Q (after_judgement (run_plan h names.input order) j)
    over_plan (Err refusal) is = none (e.Script refusal.code refusal.statement) (λ done. absurd (cc (done)))
    over_plan (Ok plan) is =
        at_input h Q (halts_before Q none) names.input plan.sources (λ files. with_order h order (is_by_table files) (streamed plan files))
        (λ files held. at_order h Q (halts_before Q none) order (is_by_table files) (streamed plan files) (λ orders ordered. ran plan is files held orders ordered))

    pub over_script : Q (run_script h names.input order script)
    over_script = over_plan (planned script) refl

  -- ---- a batch answer

  module _ (first : Option ℕ) (f : Found text script) where
    abbrev WellAnswered : Outcome → Type 0
    WellAnswered o = o.ending ≡ e.Done → HasAnswered names first h o.bytes

    batch_lines : (files : ChangeFiles) → IsInput h names.input script.inserted.sources files → (r : Result Taken RefusedLine) → taken_of script.inserted.sources first files ≡ r → WellAnswered (after_lines script r)
    batch_lines files held r is done = record {
      text = text;
      script_held = script_held;
      insert = f.insert;
      files = files;
      files_held = subst (λ (sources : List TableDef). IsInput h names.input sources files) f.of.sources held;
      answers = lines_here text script f first files r is done;
    }

    batch_planned : (j : Judged Plan) → WellAnswered (after_judgement (λ plan. over_input h names.input script.inserted.sources (batch_changes script first)) j)
    batch_planned (Err refusal) = λ done. absurd (cc (done))
    batch_planned (Ok plan) =
        at_input h WellAnswered (halts_before WellAnswered (λ ending other done. absurd (other done))) names.input script.inserted.sources (batch_changes script first)
        (λ files held. batch_lines files held (taken_of script.inserted.sources first files) refl)

    pub batch_here : WellAnswered (batch_script h names.input first script)
    batch_here = batch_planned (planned script)

-- ---- a plan

module _ (h : Holdings) (name script_text : List ℕ) (script_held : loaded h name 262144 ≡ Whole script_text) (script : Accepted) (accepted : judgement script_text ≡ Ok script) (can : ScriptsArePlanned) where
  explained_so : (j : Judged Plan) → planned script ≡ j → (after_judgement shown j).ending ≡ e.Done → HasExplained name h (after_judgement shown j).bytes
  explained_so (Err refusal) is done = absurd (cc (done))
  explained_so (Ok plan) is done = record {
    script_text = script_text;
    script = script;
    plan = plan;
    script_held = script_held;
    accepted = accepted;
    runs = is;
    sound = (can script (record { text = script_text; judged = accepted }) plan is).ruled;
    reads = refl;
  }

  pub explained_here : (explain_script script).ending ≡ e.Done → HasExplained name h (explain_script script).bytes
  explained_here done = explained_so (planned script) refl done

-- ---- what holds behind the judgement of the script holds of the job

module _ (h : Holdings) (name : List ℕ) (next : Accepted → Outcome) (Q : Outcome → Type 0) (none : (ending : Ending) → (ending ≡ e.Done → ⊥) → Q (ends ending))
    (here : (text : List ℕ) → loaded h name 262144 ≡ Whole text → (script : Accepted) → judgement text ≡ Ok script → Q (next script)) where
  at_script : (text : List ℕ) → loaded h name 262144 ≡ Whole text → (j : Judged Accepted) → judgement text ≡ j → Q (after_judgement next j)
  at_script text held (Err refusal) is = none (e.Script refusal.code refusal.statement) (λ done. absurd (cc (done)))
  at_script text held (Ok script) is = here text held script is

  at_load : (l : Loaded) → loaded h name 262144 ≡ l → Q (after_load ScriptLimit (λ text. after_judgement next (judgement text)) l)
  at_load Missing is = none e.ReadFault (λ done. absurd (cc (done)))
  at_load Long is = none (e.Limit ScriptLimit) (λ done. absurd (cc (done)))
  at_load (Whole text) is = at_script text is (judgement text) refl

  pub at_name : Q (with_script h name next)
  at_name = at_load (loaded h name 262144) refl

-- what is said of each first part of the bytes
abbrev OfParts : (List ℕ → Type 0) → Outcome → Type 0
OfParts P o = (written rest : List ℕ) → o.bytes ≡ written ++ rest → P written

-- and of the bytes of what ends well
abbrev OfWell : (List ℕ → Type 0) → Outcome → Type 0
OfWell P o = o.ending ≡ e.Done → P o.bytes

not_well : (P : List ℕ → Type 0) (ending : Ending) → (ending ≡ e.Done → ⊥) → OfWell P (ends ending)
not_well P ending other done = absurd (other done)

module _ (laws : Laws) (h : Holdings) where
  no_answers : (names : FileNames) (order : Option (List ℕ)) (ending : Ending) → (ending ≡ e.Done → ⊥) → OfParts (AreAnswersOf (Some (run names order)) h) (ends ending)
  no_answers names order ending other written rest is = inl (nothing_left written rest is)

  none_carried : (names : FileNames) (order : Option (List ℕ)) (ending : Ending) → (ending ≡ e.Done → ⊥) → OfParts (AreCarriedOf (Some (run names order)) h) (ends ending)
  none_carried names order ending other written rest is = inl (nothing_left written rest is)

  answers_at : (o : Option Request) → OfParts (AreAnswersOf o h) (with_request h o)
  answers_at None = λ written rest is. nothing_left written rest is
  answers_at (Some (run names order)) =
      at_name h names.script (run_script h names.input order) (OfParts (AreAnswersOf (Some (run names order)) h)) (no_answers names order)
      (λ text held script is. over_script h names text held script is order (OfParts (AreAnswersOf (Some (run names order)) h)) (no_answers names order)
      (λ plan runs files there orders ordered written rest cut. inr (stream_answers h names text held script is laws order plan runs files there orders ordered written rest cut)))
  answers_at (Some (batch names first)) = λ written rest is. tt
  answers_at (Some (explain name)) = λ written rest is. tt
  answers_at (Some (load seed lines)) = λ written rest is. tt

  carried_at : (o : Option Request) → OfParts (AreCarriedOf o h) (with_request h o)
  carried_at None = λ written rest is. nothing_left written rest is
  carried_at (Some (run names order)) =
      at_name h names.script (run_script h names.input order) (OfParts (AreCarriedOf (Some (run names order)) h)) (none_carried names order)
      (λ text held script is. over_script h names text held script is order (OfParts (AreCarriedOf (Some (run names order)) h)) (none_carried names order)
      (λ plan runs files there orders ordered. stream_carried h names text held script is laws order plan runs files there orders ordered))
  carried_at (Some (batch names first)) = λ written rest is. tt
  carried_at (Some (explain name)) = λ written rest is. tt
  carried_at (Some (load seed lines)) = λ written rest is. tt

  run_headline : (names : FileNames) (order : Option (List ℕ)) → OfWell (HasRun names order h) (run_named names order h)
  run_headline names order =
      at_name h names.script (run_script h names.input order) (OfWell (HasRun names order h)) (not_well (HasRun names order h))
      (λ text held script is. over_script h names text held script is order (OfWell (HasRun names order h)) (not_well (HasRun names order h))
      (λ plan runs files there orders ordered. stream_well h names text held script is laws order plan runs files there orders ordered))

  batch_headline : (names : FileNames) (first : Option ℕ) → OfWell (HasAnswered names first h) (batch_named names first h)
  batch_headline names first =
      at_name h names.script (batch_script h names.input first) (OfWell (HasAnswered names first h)) (not_well (HasAnswered names first h))
      (λ text held script is. batch_here h names text held script is first (found laws.reads laws.typed text script is))

-- what is behind a part that ended well
behind_well : (next : List ℕ → Outcome) (bytes : List ℕ) (ending : Ending) → (where_well next bytes ending).ending ≡ e.Done → (ending ≡ e.Done) × (where_well next bytes ending ≡ next bytes)
behind_well next bytes e.Done done = (refl, refl)
behind_well next bytes e.Usage done = absurd (cc (done))
behind_well next bytes (e.Script code statement) done = absurd (cc (done))
behind_well next bytes (e.Change code line table) done = absurd (cc (done))
behind_well next bytes (e.Order code line) done = absurd (cc (done))
behind_well next bytes (e.Range node subtask row types) done = absurd (cc (done))
behind_well next bytes (e.Limit name) done = absurd (cc (done))
behind_well next bytes e.ReadFault done = absurd (cc (done))
behind_well next bytes e.WriteFault done = absurd (cc (done))
behind_well next bytes e.Memory done = absurd (cc (done))

-- the sums over what a load prints
module _ (laws : Laws) (feed : List ℕ) where
  sums_judged : length feed ≤ changes_limit → (j : Judged Accepted) → judgement sums_script ≡ j → OfWell (HasSummed feed) (after_judgement (sums_over feed) j)
  sums_judged few (Err refusal) is done = absurd (cc (done))
  sums_judged few (Ok script) is done =
      let f = found laws.reads laws.typed sums_script script is in
      record { insert = f.insert; within = few; answers = lines_here sums_script script f None (Each (feed ∷ [])) (taken_of script.inserted.sources None (Each (feed ∷ []))) refl done }

  sums_sized : (b : Bool) → nat_le (length feed) 67108864 ≡ b → OfWell (HasSummed feed) (after_load ChangesLimit (λ bytes. after_judgement (sums_over bytes) (judgement sums_script)) (cond b (Whole feed) Long))
  sums_sized true is done = let few : length feed ≤ 67108864 = grind (arith, nat_tests, is) in sums_judged few (judgement sums_script) refl done
  sums_sized false is done = absurd (cc (done))

  sums_headline : OfWell (HasSummed feed) (sums_answer feed)
  sums_headline = sums_sized (nat_le (length feed) 67108864) refl

load_headline : (laws : Laws) (seed lines : ℕ) → OfWell (HasLoaded seed lines) (load_of seed lines)
load_headline laws seed lines done =
    let ran = load_run seed lines in
    let first = behind_well (summed lines) ran.bytes ran.ending done in
    let answered = sums_answer (printed_feed lines ran.bytes) in
    let second = behind_well (λ sums. record { ending = e.Done; bytes = summary_of lines ran.bytes sums }) answered.bytes answered.ending (sym (ap (λ (o : Outcome). o.ending) first.1) ∙ done) in
    record {
      printed = ran.bytes;
      sums = answered.bytes;
      ran = run_headline laws (load_holdings seed lines) load_names None first.0;
      summed = sums_headline laws (printed_feed lines ran.bytes) second.0;
      reads = ap (λ (o : Outcome). o.bytes) first.1 ∙ ap (λ (o : Outcome). o.bytes) second.1;
    }

module _ (laws : Laws) (h : Holdings) where
  well_at : (o : Option Request) → OfWell (IsHeadlineOf o h) (with_request h o)
  well_at None = λ done. absurd (cc (done))
  well_at (Some (run names order)) = run_headline laws h names order
  well_at (Some (batch names first)) = batch_headline laws h names first
  well_at (Some (explain name)) =
      at_name h name explain_script (OfWell (HasExplained name h)) (not_well (HasExplained name h))
      (λ text held script is. explained_here h name text held script is laws.can)
  well_at (Some (load seed lines)) = load_headline laws seed lines

  pub answers : (words : List (List ℕ)) (written rest : List ℕ) → (outcome words h).bytes ≡ written ++ rest → AreAnswers words h written
  answers words = answers_at laws h (request_of words)

  pub carried : (words : List (List ℕ)) (written rest : List ℕ) → (outcome words h).bytes ≡ written ++ rest → AreCarried words h written
  carried words = carried_at laws h (request_of words)

  pub headline : (words : List (List ℕ)) → (outcome words h).ending ≡ e.Done → IsHeadline words h (outcome words h).bytes
  headline words = well_at (request_of words)

-- ---- what was written

pub wrote : (old new : Option (List ℕ)) (whole : List ℕ) (P : List ℕ → Type 0) → AppendsPart old new whole → ((written rest : List ℕ) → whole ≡ written ++ rest → P written) → Wrote old new P
wrote old None whole P part holds = tt
wrote None (Some new) whole P part holds = absurd part.up_to.appends.told
wrote (Some old) (Some new) whole P part holds = (part.up_to.part, part.up_to.appends.told, holds part.up_to.part part.rest part.up_to.split)
