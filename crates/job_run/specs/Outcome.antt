-- What a job answers and writes, composed of the script's judgement, its plan, and the run of that or the batch answer over its change files;
-- or the plan itself, or sums over a run on lines that are made.
use Rattle.std.specs.Prelude.{ℕ, ◌-◌, Bool, List, [], ◌∷◌, ◌++◌, length, Option, Some, None, Result, Ok, Err, codes}
use Rattle.ct_value.specs.declared.codes.OrderCode.TheVariants.{BadLine}
use Rattle.ct_catalog.specs.declared.table.TableDef.{TableDef}
use Rattle.command_line.specs.Words.{FileNames, Input, changes, feeds, Request, run, batch, explain, load, request_of}
use Rattle.ct_io.specs.Holdings.{Holdings, Loaded, Missing, Long, Whole, loaded, within}
use Rattle.judge.specs.Judgement.{Judged}
use Rattle.phys_plan.specs.declared.plan.Plan.{Plan}
use Rattle.job_text.specs.Orders.{orders_of}
use Rattle.job_text.specs.Printed.{but_last}
use Rattle.job_text.specs.declared.orders.OrderLine.{OrderLine}
use Rattle.source_lines.specs.Supply.{is_by_table}
use Rattle.source_lines.specs.declared.supply.ChangeFiles.{ChangeFiles}
use Rattle.source_lines.specs.declared.supply.ChangeFiles.TheVariants.{One, Each}
use Rattle.job_ending.specs.declared.ending.Ending.{Ending}
use Rattle.job_ending.specs.declared.ending.Ending.TheVariants.{Done, Usage, Script, Order, Limit, ReadFault}
use Rattle.job_ending.specs.declared.ending.LimitName.{LimitName}
use Rattle.job_ending.specs.declared.ending.LimitName.TheVariants.{Script as ScriptLimit, Changes as ChangesLimit, Order as OrderLimit}
use Rattle.job_ending.specs.Outcome.{Outcome, ends}
use Rattle.job_judgement.specs.Judgement.{Accepted, judgement}
use Rattle.job_batch.specs.Batch.{with_changes as batch_changes}
use Rattle.job_plan.specs.Shown.{shown}
use Rattle.job_plan.specs.Planned.{planned}
use Rattle.job_stream.specs.Stream.{streamed}
use Rattle.route.specs.Routing.{key_hash}
use Rattle.job_run.specs.Loads.{line_count, load_holdings, load_names, printed_feed, sums_script, summary}

-- the largest script, change file and order, in bytes; all feeds together are no larger than a change file
abbrev pub script_limit : ℕ
script_limit = 262144

abbrev pub changes_limit : ℕ
changes_limit = 67108864

abbrev pub order_limit : ℕ
order_limit = 67108864

abbrev pub after_load : LimitName → (List ℕ → Outcome) → Loaded → Outcome
after_load over next Missing = ends ReadFault
after_load over next Long = ends (Limit over)
after_load over next (Whole bytes) = next bytes

abbrev pub after_judgement : {A : Type 0} → (A → Outcome) → Judged A → Outcome
after_judgement next (Err refusal) = ends (Script refusal.code refusal.statement)
after_judgement next (Ok script) = next script

-- the script of a name is loaded and judged
abbrev pub with_script : Holdings → List ℕ → (Accepted → Outcome) → Outcome
with_script holdings name next = after_load ScriptLimit (λ text. after_judgement next (judgement text)) (loaded holdings name script_limit)

-- ---- change files

-- the file of a table, behind a prefix
abbrev pub feed_name : List ℕ → TableDef → List ℕ
feed_name prefix table = prefix ++ (table.name ++ codes ".csv")

-- the feeds of tables are loaded one after the other, each within what the earlier ones left of a limit
abbrev pub over_feeds : Holdings → List ℕ → ℕ → List TableDef → List (List ℕ) → (ChangeFiles → Outcome) → Outcome
over_feeds holdings prefix limit [] before next = next (Each before)
over_feeds holdings prefix limit (table ∷ tables) before next =
    after_load ChangesLimit (λ bytes. over_feeds holdings prefix (limit - length bytes) tables (before ++ bytes ∷ []) next) (loaded holdings (feed_name prefix table) limit)

-- the change file is loaded, or the feed of each source
abbrev pub over_input : Holdings → Input → List TableDef → (ChangeFiles → Outcome) → Outcome
over_input holdings (changes name) sources next = after_load ChangesLimit (λ bytes. next (One bytes)) (loaded holdings name changes_limit)
over_input holdings (feeds prefix) sources next = over_feeds holdings prefix changes_limit sources [] next

-- ---- the order

abbrev pub after_order : (List OrderLine → Outcome) → Result (List OrderLine) ℕ → Outcome
after_order next (Err line) = ends (Order BadLine line)
after_order next (Ok orders) = next orders

-- the order of a name is loaded and read; without one nothing is ordered
abbrev pub with_order : Holdings → Option (List ℕ) → Bool → (List OrderLine → Outcome) → Outcome
with_order holdings None by_table next = next []
with_order holdings (Some name) by_table next = after_load OrderLimit (λ bytes. after_order next (orders_of by_table bytes)) (loaded holdings name order_limit)

-- ---- requests

-- the changelog that a run of a plan over change files prints: the order is loaded
abbrev pub run_files : Holdings → Option (List ℕ) → Plan → ChangeFiles → Outcome
run_files holdings order plan files = with_order holdings order (is_by_table files) (streamed plan files)

-- its change files are loaded, then the order
abbrev pub run_plan : Holdings → Input → Option (List ℕ) → Plan → Outcome
run_plan holdings input order plan = over_input holdings input plan.sources (run_files holdings order plan)

-- that of the script's plan, where the script can be run
abbrev pub run_script : Holdings → Input → Option (List ℕ) → Accepted → Outcome
run_script holdings input order script = after_judgement (run_plan holdings input order) (planned script)

-- the batch answer, where the script has a plan or waits for one
abbrev pub batch_script : Holdings → Input → Option ℕ → Accepted → Outcome
batch_script holdings input first script = after_judgement (λ plan. over_input holdings input script.inserted.sources (batch_changes script first)) (planned script)

-- the same of the script of a name
abbrev pub run_named : FileNames → Option (List ℕ) → Holdings → Outcome
run_named names order holdings = with_script holdings names.script (run_script holdings names.input order)

abbrev pub batch_named : FileNames → Option ℕ → Holdings → Outcome
batch_named names first holdings = with_script holdings names.script (batch_script holdings names.input first)

-- the script's plan
abbrev pub explain_script : Accepted → Outcome
explain_script script = after_judgement shown (planned script)

-- what is made of all that was written where that ended well
abbrev pub where_well : (List ℕ → Outcome) → List ℕ → Ending → Outcome
where_well next bytes Done = next bytes
where_well next bytes ending = ends ending

abbrev pub behind : (List ℕ → Outcome) → Outcome → Outcome
behind next went = where_well next went.bytes went.ending

-- a run on so many lines made from a seed
abbrev pub load_run : ℕ → ℕ → Outcome
load_run seed lines = run_named load_names None (load_holdings seed lines)

-- the batch answer of the script that sums, where these lines are those of its first table
abbrev pub sums_over : List ℕ → Accepted → Outcome
sums_over feed script = batch_changes script None (Each (feed ∷ []))

-- the same over what that printed, which is within the limit of change files
abbrev pub sums_answer : List ℕ → Outcome
sums_answer feed = after_load ChangesLimit (λ bytes. after_judgement (sums_over bytes) (judgement sums_script)) (within changes_limit feed)

-- the line of a load behind that answer, by the feed and the hash of all that was printed
abbrev pub summed_over : ℕ → List ℕ → ℕ → Outcome
summed_over lines feed hash = behind (λ sums. record { ending = Done; bytes = summary lines (line_count feed) (but_last sums) hash }) (sums_answer feed)

abbrev pub summed : ℕ → List ℕ → Outcome
summed lines printed = summed_over lines (printed_feed lines printed) (key_hash printed)

abbrev pub load_of : ℕ → ℕ → Outcome
load_of seed lines = behind (summed lines) (load_run seed lines)

abbrev pub with_request : Holdings → Option Request → Outcome
with_request holdings None = ends Usage
with_request holdings (Some (run names order)) = run_named names order holdings
with_request holdings (Some (batch names first)) = batch_named names first holdings
with_request holdings (Some (explain name)) = with_script holdings name explain_script
with_request holdings (Some (load seed lines)) = load_of seed lines

-- what a job on these words and holdings answers and writes
abbrev pub outcome : List (List ℕ) → Holdings → Outcome
outcome words holdings = with_request holdings (request_of words)
