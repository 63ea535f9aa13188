-- What a job needs to end well, and which scripts never leave a type's range as they run.
use Rattle.std.specs.Prelude.{◌≡◌, ◌≤◌, ℕ, false, List, [], ◌∷◌, length, Option, Some, None, Ok}
use Rattle.command_line.specs.Words.{FileNames, Request, run, batch, explain, load, request_of}
use Rattle.ct_io.specs.Holdings.{Holdings, Whole, loaded}
use Rattle.ct_value.specs.declared.codes.OrderCode.{OrderCode}
use Rattle.ct_value.specs.declared.row.Row.{Row}
use Rattle.ct_value.specs.declared.ty.ColTy.{ColTy}
use Rattle.ct_change.specs.Changelog.{Rows}
use Rattle.sql_syntax.specs.Tree.{Script}
use Rattle.sql_grammar.specs.Scripts.{IsScript}
use Rattle.rel_algebra.specs.Answer.{wide}
use Rattle.query_laws.specs.Statement.{tables_of}
use Rattle.source_lines.specs.Taken.{Taken, rows_of, taken_of}
use Rattle.phys_plan.specs.declared.plan.Plan.{Plan}
use Rattle.stream_model.specs.declared.events.StepFault.TheVariants.{Limit, Range}
use Rattle.stream_model.specs.Machine.{State}
use Rattle.job_text.specs.declared.orders.OrderLine.{OrderLine}
use Rattle.source_lines.specs.Run.{At, halts, disordered, stopped}
use Rattle.source_lines.specs.declared.supply.ChangeFiles.{ChangeFiles}
use Rattle.source_lines.specs.declared.supply.ChangeFiles.TheVariants.{Each}
use Rattle.job_judgement.specs.Judgement.{Accepted, judgement}
use Rattle.range_rules.specs.Arithmetic.{in_statements}
use Rattle.job_batch.specs.Agree.{query_answer}
use Rattle.job_batch.specs.Batch.{with_rows}
use Rattle.job_plan.specs.Planned.{planned}
use Rattle.job_run.specs.Edges.{run_of}
use Rattle.job_run.specs.Held.{AreHeld}
use Rattle.job_run.specs.Loads.{load_holdings, load_names, printed_feed, sums_script}
use Rattle.job_run.specs.Outcome.{changes_limit, load_run, script_limit}

-- nothing is refused: the files are held, each within its limit; the script is accepted and can be run; each line passes, and each line of the
-- order can be read and begins; and the machine's run of its plan is nowhere out of range, nor would it pass the limit on changes
pub record MayRun (names : FileNames) (order : Option (List ℕ)) (h : Holdings) : Type 0 where
  pub script : Accepted
  pub plan : Plan
  pub files : ChangeFiles
  pub orders : List OrderLine
  pub taken : Taken
  pub held : AreHeld names order h script plan.sources files orders
  pub runs : planned script ≡ Ok plan
  pub lines_taken : taken_of script.inserted.sources None files ≡ Ok taken
  pub lawful : (code : OrderCode) (line : ℕ) (p : At State) → run_of plan files orders ≡ halts (disordered code line) p → ⊥
  pub in_range : (node subtask : ℕ) (row : Row) (types : List ColTy) (p : At State) → run_of plan files orders ≡ halts (stopped (Range node subtask row types)) p → ⊥
  pub few : (p : At State) → run_of plan files orders ≡ halts (stopped Limit) p → ⊥

-- the same of a batch answer: the script has a plan, the first lines are taken, and nothing that is evaluated is out of range
pub record MayAnswer (names : FileNames) (first : Option ℕ) (h : Holdings) : Type 0 where
  pub script : Accepted
  pub files : ChangeFiles
  pub taken : Taken
  pub rows : Rows
  pub plan : Plan
  pub held : AreHeld names None h script script.inserted.sources files []
  pub planned_so : planned script ≡ Ok plan
  pub lines_taken : taken_of script.inserted.sources first files ≡ Ok taken
  pub answers : query_answer script (rows_of script.inserted.sources taken) ≡ Some rows
  pub narrow : wide (tables_of (with_rows script.inserted.sources (rows_of script.inserted.sources taken))) script.inserted.query.rel ≡ false

-- the same of a plan
pub record MayExplain (name : List ℕ) (h : Holdings) : Type 0 where
  pub script_text : List ℕ
  pub script : Accepted
  pub plan : Plan
  pub script_held : loaded h name script_limit ≡ Whole script_text
  pub accepted : judgement script_text ≡ Ok script
  pub runs : planned script ≡ Ok plan

-- the same of sums over what was printed
pub record MaySum (feed : List ℕ) : Type 0 where
  pub script : Accepted
  pub taken : Taken
  pub rows : Rows
  pub within : length feed ≤ changes_limit
  pub accepted : judgement sums_script ≡ Ok script
  pub lines_taken : taken_of script.inserted.sources None (Each (feed ∷ [])) ≡ Ok taken
  pub answers : query_answer script (rows_of script.inserted.sources taken) ≡ Some rows
  pub narrow : wide (tables_of (with_rows script.inserted.sources (rows_of script.inserted.sources taken))) script.inserted.query.rel ≡ false

-- the same of a load: of its run, and of the sums over what that prints
pub record MayLoad (seed lines : ℕ) : Type 0 where
  pub runs : MayRun load_names None (load_holdings seed lines)
  pub sums : MaySum (printed_feed lines (load_run seed lines).bytes)

abbrev pub MayEndWellBy : Option Request → Holdings → Type 0
MayEndWellBy None h = ⊥
MayEndWellBy (Some (run names order)) h = MayRun names order h
MayEndWellBy (Some (batch names first)) h = MayAnswer names first h
MayEndWellBy (Some (explain name)) h = MayExplain name h
MayEndWellBy (Some (load seed lines)) h = MayLoad seed lines

-- a job on these words and holdings, of which nothing is refused
abbrev pub MayEndWell : List (List ℕ) → Holdings → Type 0
MayEndWell words h = MayEndWellBy (request_of words) h

-- the words ask for a run, and the script that they name has no arithmetic in it
pub record HasNoArithmetic (words : List (List ℕ)) (h : Holdings) : Type 0 where
  pub names : FileNames
  pub order : Option (List ℕ)
  pub script_text : List ℕ
  pub script : Script
  pub named : request_of words ≡ Some (run names order)
  pub script_held : loaded h names.script script_limit ≡ Whole script_text
  pub spelled : IsScript script_text script
  pub none : in_statements script.statements ≡ false
