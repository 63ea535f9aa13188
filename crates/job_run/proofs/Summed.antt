-- How the sums of a load end.
use Rattle.std.proofs.Common.{◌≡◌, ◌≤◌, ◌<◌, ◌+◌, ◌∙◌, ℕ, List, [], ◌∷◌, ◌++◌, length, Some, None, Result, Ok, Err, refl, sym, ap, subst, arith, append_assoc, length-append, true, false, cond, nat_le}
use Rattle.std.proofs.lemmas.List.{append-nil}
use Rattle.std.proofs.lemmas.Bool.Decides.{nat_tests}
use Rattle.std.specs.FinMap.{empty}
use Rattle.ct_value.specs.declared.codes.ChangeCode.{ChangeCode}
use Rattle.ct_change.specs.Changelog.{Rows}
use Rattle.ct_catalog.specs.declared.table.TableDef.{TableDef}
use Rattle.ct_io.specs.Holdings.{Holdings, Whole, Long, within}
use Rattle.judge.specs.Judgement.{Judged}
use Rattle.route.specs.Routing.{key_hash}
use Rattle.job_text.specs.Lines.{Record, records_of}
use Rattle.job_text.specs.Printed.{but_last}
use Rattle.source_lines.specs.Feeds.{feed_taken}
use Rattle.source_lines.specs.Fitting.{RowsFit}
use Rattle.source_lines.specs.Taken.{IsRefused, Taken, rows_of}
use Rattle.source_lines.specs.declared.fault.TakeFault.TheVariants.{Refused}
use Rattle.source_lines.specs.declared.supply.ChangeFiles.TheVariants.{Each}
use Rattle.source_lines.proofs.laws.Parts.{feed_is_file, refused_behind}
use Rattle.source_lines.proofs.laws.Theorems.{taken_rows_fit}
use Rattle.job_ending.specs.declared.ending.Ending.TheVariants as e
use Rattle.job_ending.specs.declared.ending.LimitName.TheVariants.{Changes as ChangesLimit}
use Rattle.job_ending.specs.declared.halt.Halt.{Halt}
use Rattle.job_ending.specs.declared.halt.Halt.TheVariants.{Script, Change, Order, Range, Limit, ReadFault, WriteFault, Memory}
use Rattle.job_ending.specs.Outcome.{Outcome, ends}
use Rattle.job_ending.specs.Runs.{IsBefore, RunsThere, ending_of}
use Rattle.job_ending.proofs.laws.Runs.{runs_there}
use Rattle.job_judgement.specs.Judgement.{Accepted, judgement}
use Rattle.job_batch.specs.Batch.{after_lines, over_tables, with_rows}
use Rattle.job_run.specs.declared.running_sums.Taking.{Taking}
use Rattle.job_run.specs.declared.running_sums.Taking.TheVariants.{Halted}
use Rattle.job_run.specs.Kept.{IsKept}
use Rattle.job_run.specs.Loads.{line_count, printed_feed, sums_script, summary}
use Rattle.job_run.specs.Outcome.{after_judgement, after_load, behind, changes_limit, summed, sums_answer, sums_over}
use Rattle.job_run.specs.Sums.{IsRest, TakesAs, sums_of}
use Rattle.job_run.proofs.KeptRuns.{runs_kept}

-- ---- by the records of the file

by_records : (bytes : List ℕ) (j : Judged Accepted) → after_judgement (sums_over bytes) j ≡ after_judgement (λ script. after_lines script (feed_taken script.inserted.sources (records_of bytes))) j
by_records bytes (Err refusal) = refl
by_records bytes (Ok script) = ap (after_lines script) (feed_is_file script.inserted.sources bytes)

pub is_whole : (bytes : List ℕ) → length bytes ≤ changes_limit → within changes_limit bytes ≡ Whole bytes
is_whole bytes few = let yes : nat_le (length bytes) 67108864 ≡ true = grind (arith, nat_tests) in ap (λ b. cond b (Whole bytes) Long) yes

is_long : (bytes : List ℕ) → changes_limit < length bytes → within changes_limit bytes ≡ Long
is_long bytes many = let no : nat_le (length bytes) 67108864 ≡ false = grind (arith, nat_tests) in ap (λ b. cond b (Whole bytes) Long) no

pub answer_within : (feed : List ℕ) → length feed ≤ changes_limit → sums_answer feed ≡ sums_of (records_of feed)
answer_within feed few = ap (after_load ChangesLimit (λ bytes. after_judgement (sums_over bytes) (judgement sums_script))) (is_whole feed few) ∙ by_records feed (judgement sums_script)

pub answer_beyond : (feed : List ℕ) → changes_limit < length feed → sums_answer feed ≡ ends (e.Limit ChangesLimit)
answer_beyond feed many = ap (after_load ChangesLimit (λ bytes. after_judgement (sums_over bytes) (judgement sums_script))) (is_long feed many)

-- ---- halts

-- what is made of an outcome that didn't end well is that outcome
pub halt_behind : (halt : Halt) (there : Outcome) → IsBefore halt there → (next : List ℕ → Outcome) → IsBefore halt (behind next there)
halt_behind (Script code statement) there is next = ap (behind next) is
halt_behind (Change code line table) there is next = ap (behind next) is
halt_behind (Order code line) there is next = ap (behind next) is
halt_behind (Range node subtask row types) there is next = ap (behind next) is
halt_behind (Limit name) there is next = ap (behind next) is
halt_behind ReadFault there is next = absurd is
halt_behind WriteFault there is next = absurd is
halt_behind Memory there is next = tt

-- what halts stays halted
pub halted_more : (halt : Halt) (records more : List Record) → TakesAs (Halted halt) records → TakesAs (Halted halt) (records ++ more)
halted_more halt records more takes = (takes.0, (λ rest. subst (λ rs. IsBefore halt (sums_of rs)) (sym (append_assoc records more rest)) (takes.1 (more ++ rest))))

module _ (script : Accepted) (accepted : judgement sums_script ≡ Ok script) where
  of_script : (records : List Record) → sums_of records ≡ after_lines script (feed_taken script.inserted.sources records)
  of_script records = ap (after_judgement (λ s. after_lines s (feed_taken s.inserted.sources records))) accepted

  -- a line that is refused
  pub refused_sums : (code : ChangeCode) (line table : ℕ) (records : List Record) → IsRefused (Refused code line table) (feed_taken script.inserted.sources records) → (more : List Record)
      → sums_of (records ++ more) ≡ ends (e.Change code line table)
  refused_sums code line table records is more = of_script (records ++ more) ∙ ap (after_lines script) (refused_behind script.inserted.sources (Refused code line table) records more is)

  -- the sums over the rows that lines leave
  pub sums_over_rows : (records : List Record) (taken : Taken) (rows : List Rows) → feed_taken script.inserted.sources records ≡ Ok taken → rows ≡ rows_of script.inserted.sources taken
      → sums_of records ≡ over_tables script (with_rows script.inserted.sources rows)
  sums_over_rows records taken rows is are =
      of_script records ∙ ap (after_lines script) is ∙ ap (λ (r : List Rows). over_tables script (with_rows script.inserted.sources r)) (sym are)

-- the rows of a whole file fit its tables
pub rows_fit : (sources : List TableDef) (bytes : List ℕ) (taken : Taken) (rows : List Rows) → feed_taken sources (records_of bytes) ≡ Ok taken → rows ≡ rows_of sources taken → RowsFit sources rows
rows_fit sources bytes taken rows is are = subst (λ (r : List Rows). RowsFit sources r) (sym are) (taken_rows_fit sources None (Each (bytes ∷ [])) taken (feed_is_file sources bytes ∙ is))

-- ---- an answer in memory

no_files : Holdings
no_files = record { files = empty; others = false }

pub there_kept : {T : Type 0} (there : Outcome) (write : Type 0) (old bytes : List ℕ) (result : Result T Halt) → old ≡ [] → RunsThere there write (Some old) (Some bytes) result → IsKept there (ending_of result) bytes
there_kept there write old bytes result none started =
    let ran = subst (λ (xs : List ℕ). RunsThere there write (Some xs) (Some bytes) result) none started in
    runs_kept no_files (λ h. there) (Unit {0}) write bytes (ending_of result) (runs_there (Some no_files) (λ h. there) (Unit {0}) write (Some []) (Some bytes) there result (λ h is. refl) ran)

-- ---- the last lines

-- a whole file
module _ (taking : Taking) (count : ℕ) (rest gone : List ℕ) (r : IsRest taking count rest gone) where
  whole_long : length (gone ++ rest) ≡ count + length rest
  whole_long = let n = length-append gone rest in omega (arith, n, r.count_is)

  pub whole_within : count + length rest ≤ changes_limit → sums_answer (gone ++ rest) ≡ sums_of (records_of (gone ++ rest))
  whole_within few = answer_within (gone ++ rest) (omega (arith, few, whole_long))

  pub whole_beyond : changes_limit < count + length rest → (next : List ℕ → Outcome) → IsBefore (Limit ChangesLimit) (behind next (sums_answer (gone ++ rest)))
  whole_beyond many next = halt_behind (Limit ChangesLimit) _ (answer_beyond (gone ++ rest) (omega (arith, many, whole_long))) next

  pub whole_taken : (now : Taking) → TakesAs now (records_of gone ++ records_of rest) → TakesAs now (records_of (gone ++ rest))
  whole_taken now takes = subst (TakesAs now) (sym r.joined) takes

  pub whole_halted : count + length rest ≤ changes_limit → (halt : Halt) → TakesAs (Halted halt) (records_of gone ++ records_of rest) → (next : List ℕ → Outcome) → IsBefore halt (behind next (sums_answer (gone ++ rest)))
  whole_halted few halt takes next =
      halt_behind halt _ (subst (IsBefore halt) (ap sums_of (append-nil (records_of gone ++ records_of rest) ∙ sym r.joined) ∙ sym (whole_within few)) (takes.1 [])) next

-- ---- the line

pub summed_is : (lines : ℕ) (printed feed : List ℕ) (hash changes : ℕ) → printed_feed lines printed ≡ feed → hash ≡ key_hash printed → changes ≡ line_count feed
    → summed lines printed ≡ behind (λ sums. record { ending = e.Done; bytes = summary lines changes (but_last sums) hash }) (sums_answer feed)
summed_is lines printed feed hash changes feed_is hash_is changes_are =
    sym (λ i. behind (λ sums. record { ending = e.Done; bytes = summary lines ((changes_are ∙ ap line_count (sym feed_is)) i) (but_last sums) (hash_is i) }) (sums_answer (sym feed_is i)))
