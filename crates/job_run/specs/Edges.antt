-- By which plan and which run of the machine a run has written what it has, whatever its ending, and which kinds its edges carried.
use Rattle.std.specs.Prelude.{◌≡◌, ◌⊎◌, ℕ, List, [], ◌++◌, Option, Some, None, Ok}
use Rattle.command_line.specs.Words.{FileNames, Request, run, batch, explain, load, request_of}
use Rattle.ct_io.specs.Holdings.{Holdings}
use Rattle.phys_plan.specs.declared.plan.Plan.{Plan}
use Rattle.stream_model.specs.Machine.{State}
use Rattle.plan_rules.specs.Doings.{network}
use Rattle.sound_plans.specs.Sound.{IsRuled}
use Rattle.job_text.specs.Printed.{item_lines}
use Rattle.job_text.specs.declared.orders.OrderLine.{OrderLine}
use Rattle.run_laws.specs.Headline.{CarriesAdmitted}
use Rattle.source_lines.specs.Run.{At, Went, place_of, printed_by, whole_run}
use Rattle.source_lines.specs.Supply.{is_by_table}
use Rattle.source_lines.specs.declared.supply.ChangeFiles.{ChangeFiles}
use Rattle.job_judgement.specs.Judgement.{Accepted}
use Rattle.job_plan.specs.Planned.{planned}
use Rattle.job_stream.specs.Stream.{most_sent, sink_key, sink_types}
use Rattle.job_run.specs.Held.{AreHeld}

-- the machine's run of a plan over change files by an order, and where it came to
abbrev pub run_of : Plan → ChangeFiles → List OrderLine → Went (At State)
run_of plan files orders = whole_run (network plan) most_sent plan.sources files orders

-- the script's plan is sound; the machine ran it over the change files by the order, and in the state to which it came, however it ended, every
-- edge had carried only changes that it admits; and what is written is a first part of the lines of what that run printed
pub record HasCarried (names : FileNames) (order : Option (List ℕ)) (holdings : Holdings) (written : List ℕ) : Type 0 where
  pub script : Accepted
  pub plan : Plan
  pub files : ChangeFiles
  pub orders : List OrderLine
  pub held : AreHeld names order holdings script plan.sources files orders
  pub runs : planned script ≡ Ok plan
  pub sound : IsRuled plan
  pub rest : List ℕ
  pub reads : item_lines (is_by_table files) (sink_types plan.sink) (sink_key plan.sink) (printed_by (run_of plan files orders)) ≡ written ++ rest
  pub carried : CarriesAdmitted (network plan) (place_of (run_of plan files orders)).state (printed_by (run_of plan files orders))

abbrev pub AreCarriedOf : Option Request → Holdings → List ℕ → Type 0
AreCarriedOf (Some (run names order)) holdings written = (written ≡ []) ⊎ HasCarried names order holdings written
AreCarriedOf (Some (batch names first)) holdings written = Unit {0}
AreCarriedOf (Some (explain name)) holdings written = Unit {0}
AreCarriedOf (Some (load seed lines)) holdings written = Unit {0}
AreCarriedOf None holdings written = written ≡ []

-- what a job on these words and holdings has written: a run nothing, or what a sound plan printed
abbrev pub AreCarried : List (List ℕ) → Holdings → List ℕ → Type 0
AreCarried words holdings written = AreCarriedOf (request_of words) holdings written
