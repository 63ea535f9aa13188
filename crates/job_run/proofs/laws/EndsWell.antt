-- A job of which nothing is refused ends well.
use Rattle.std.proofs.Common.{◌≡◌, ℕ, false, Bool, List, Option, Some, None, Result, Ok, refl, ap, ◌∙◌}
use Rattle.command_line.specs.Words.{FileNames, Request, run, batch, explain, load, request_of}
use Rattle.ct_io.specs.Holdings.{Holdings, Loaded, Whole, loaded}
use Rattle.ct_value.specs.declared.codes.OrderCode.{OrderCode}
use Rattle.ct_value.specs.declared.row.Row.{Row}
use Rattle.ct_value.specs.declared.ty.ColTy.{ColTy}
use Rattle.ct_value.specs.declared.ty.Ty.{Ty}
use Rattle.ct_change.specs.Changelog.{Rows}
use Rattle.judge.specs.Judgement.{Judged}
use Rattle.source_lines.specs.Taken.{RefusedLine, Taken, rows_of, taken_of}
use Rattle.job_ending.specs.declared.ending.Ending.TheVariants.{Done}
use Rattle.job_ending.specs.declared.ending.LimitName.TheVariants.{Changes as ChangesLimit, Script as ScriptLimit}
use Rattle.job_ending.specs.Outcome.{Outcome}
use Rattle.phys_plan.specs.declared.plan.Plan.{Plan}
use Rattle.stream_model.specs.declared.events.StepFault.TheVariants as fault
use Rattle.stream_model.specs.Machine.{State}
use Rattle.source_lines.specs.Run.{At, Went, on, halts, refused, disordered, stopped}
use Rattle.source_lines.specs.Supply.{is_by_table}
use Rattle.run_laws.specs.Stops.{EndsOrStops}
use Rattle.run_laws.proofs.laws.Theorems.{runs_end_or_stop}
use Rattle.job_plan.proofs.laws.Theorems.{scripts_are_planned}
use Rattle.job_judgement.specs.Judgement.{Accepted, judgement}
use Rattle.job_batch.specs.Agree.{query_answer}
use Rattle.job_batch.specs.Batch.{after_lines as batch_lines, answered, sink_types as answer_types, with_changes as batch_changes}
use Rattle.job_plan.specs.Shown.{shown}
use Rattle.job_stream.specs.Stream.{most_sent, outcome_of, sink_key, sink_types, streamed}
use Rattle.job_run.specs.Edges.{run_of}
use Rattle.job_run.specs.Outcome.{script_limit, after_load, after_judgement, over_input, with_order, with_script, run_plan, run_script, batch_script, explain_script, load_of, load_run, summed, sums_answer, sums_over, where_well, with_request, outcome}
use Rattle.job_run.proofs.Inputs.{input_for, input_is, order_is}
use Rattle.job_run.proofs.Summed.{is_whole}
use Rattle.job_run.specs.Complete.{MayRun, MayAnswer, MayExplain, MayLoad, MaySum, MayEndWellBy, MayEndWell}
use Rattle.job_run.specs.Loads.{load_holdings, load_names, printed_feed, sums_script, summary_of}

script_well : (name text : List ℕ) (h : Holdings) (script : Accepted) → loaded h name script_limit ≡ Whole text → judgement text ≡ Ok script → (next : Accepted → Outcome) → (with_script h name next).ending ≡ (next script).ending
script_well name text h script held accepted next =
    ap (λ (l : Loaded). (after_load ScriptLimit (λ text. after_judgement next (judgement text)) l).ending) held
    ∙ ap (λ (j : Judged Accepted). (after_judgement next j).ending) accepted

-- a run of which no line of the order is refused, and which is neither out of range nor past the limit
ended_well : (by_table : Bool) (tys : List Ty) (key : Option (List ℕ)) (w : Went (At State)) → EndsOrStops w → ((code : OrderCode) (line : ℕ) (p : At State) → w ≡ halts (disordered code line) p → ⊥)
    → ((node subtask : ℕ) (row : Row) (types : List ColTy) (p : At State) → w ≡ halts (stopped (fault.Range node subtask row types)) p → ⊥) → ((p : At State) → w ≡ halts (stopped fault.Limit) p → ⊥)
    → (outcome_of by_table tys key w).ending ≡ Done
ended_well by_table tys key (on p) ends lawful in_range few = refl
ended_well by_table tys key (halts (refused code line table) p) ends lawful in_range few = absurd ends
ended_well by_table tys key (halts (disordered code line) p) ends lawful in_range few = absurd (lawful code line p refl)
ended_well by_table tys key (halts (stopped (fault.Range node subtask row types)) p) ends lawful in_range few = absurd (in_range node subtask row types p refl)
ended_well by_table tys key (halts (stopped fault.Limit) p) ends lawful in_range few = absurd (few p refl)
ended_well by_table tys key (halts (stopped (fault.Change code)) p) ends lawful in_range few = absurd ends
ended_well by_table tys key (halts (stopped (fault.Order code)) p) ends lawful in_range few = absurd ends
ended_well by_table tys key (halts (stopped fault.Memory) p) ends lawful in_range few = absurd ends

run_well : (names : FileNames) (order : Option (List ℕ)) (h : Holdings) → MayRun names order h → (with_script h names.script (run_script h names.input order)).ending ≡ Done
run_well names order h may =
    let plan = may.plan in
    let by_table = is_by_table may.files in
    let is = scripts_are_planned may.script (record { text = may.held.script_text; judged = may.held.accepted }) plan may.runs in
    let passes : taken_of plan.sources None may.files ≡ Ok may.taken = ap (λ (p : Plan). taken_of p.sources None may.files) is.is ∙ may.lines_taken in
    let for_sources = input_for h names.input plan.sources may.files may.held.input_held in
    script_well names.script may.held.script_text h may.script may.held.script_held may.held.accepted (run_script h names.input order)
    ∙ ap (λ (j : Judged Plan). (after_judgement (run_plan h names.input order) j).ending) may.runs
    ∙ ap (λ (o : Outcome). o.ending) (input_is h names.input plan.sources may.files (λ files. with_order h order (is_by_table files) (streamed plan files)) may.held.input_held)
    ∙ ap (λ (o : Outcome). o.ending) (order_is h order by_table may.orders (streamed plan may.files) may.held.order_held)
    ∙ ended_well by_table (sink_types plan.sink) (sink_key plan.sink) (run_of plan may.files may.orders) (runs_end_or_stop plan is.ruled most_sent may.files may.orders may.taken for_sources passes) may.lawful may.in_range may.few

answer_well : (names : FileNames) (first : Option ℕ) (h : Holdings) → MayAnswer names first h → (with_script h names.script (batch_script h names.input first)).ending ≡ Done
answer_well names first h may =
    let sources = may.script.inserted.sources in
    script_well names.script may.held.script_text h may.script may.held.script_held may.held.accepted (batch_script h names.input first)
    ∙ ap (λ (j : Judged Plan). (after_judgement (λ plan. over_input h names.input sources (batch_changes may.script first)) j).ending) may.planned_so
    ∙ ap (λ (o : Outcome). o.ending) (input_is h names.input sources may.files (batch_changes may.script first) may.held.input_held)
    ∙ ap (λ (r : Result Taken RefusedLine). (batch_lines may.script r).ending) may.lines_taken
    ∙ ap (λ (b : Bool). (answered (answer_types may.script) b (query_answer may.script (rows_of sources may.taken))).ending) may.narrow
    ∙ ap (λ (o : Option Rows). (answered (answer_types may.script) false o).ending) may.answers

explain_well : (name : List ℕ) (h : Holdings) → MayExplain name h → (with_script h name explain_script).ending ≡ Done
explain_well name h may =
    script_well name may.script_text h may.script may.script_held may.accepted explain_script ∙ ap (λ (j : Judged Plan). (after_judgement shown j).ending) may.runs

sums_well : (feed : List ℕ) → MaySum feed → (sums_answer feed).ending ≡ Done
sums_well feed may =
    let sources = may.script.inserted.sources in
    ap (λ (l : Loaded). (after_load ChangesLimit (λ bytes. after_judgement (sums_over bytes) (judgement sums_script)) l).ending) (is_whole feed may.within)
    ∙ ap (λ (j : Judged Accepted). (after_judgement (sums_over feed) j).ending) may.accepted
    ∙ ap (λ (r : Result Taken RefusedLine). (batch_lines may.script r).ending) may.lines_taken
    ∙ ap (λ (b : Bool). (answered (answer_types may.script) b (query_answer may.script (rows_of sources may.taken))).ending) may.narrow
    ∙ ap (λ (o : Option Rows). (answered (answer_types may.script) false o).ending) may.answers

load_well : (seed lines : ℕ) → MayLoad seed lines → (load_of seed lines).ending ≡ Done
load_well seed lines may =
    let ran = load_run seed lines in
    let printed = ran.bytes in
    ap (λ ending. (where_well (summed lines) printed ending).ending) (run_well load_names None (load_holdings seed lines) may.runs)
    ∙ ap (λ ending. (where_well (λ sums. record { ending = Done; bytes = summary_of lines printed sums }) (sums_answer (printed_feed lines printed)).bytes ending).ending)
    (sums_well (printed_feed lines printed) may.sums)

by_request : (request : Option Request) (h : Holdings) → MayEndWellBy request h → (with_request h request).ending ≡ Done
by_request None h may = absurd may
by_request (Some (run names order)) h may = run_well names order h may
by_request (Some (batch names first)) h may = answer_well names first h may
by_request (Some (explain name)) h may = explain_well name h may
by_request (Some (load seed lines)) h may = load_well seed lines may

pub ends_well : (words : List (List ℕ)) (h : Holdings) → MayEndWell words h → (outcome words h).ending ≡ Done
ends_well words h may = by_request (request_of words) h may
