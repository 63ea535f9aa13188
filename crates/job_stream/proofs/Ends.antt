-- How a run ends, behind its opening.
use Rattle.std.specs.Prelude.{◌≡◌, ℕ, ◌≤◌, cond, Bool, List, ◌++◌, Option, Result}
use Rattle.std.proofs.Common.{[], sym, ap, subst, ◌∙◌, Ok, Err}
use Rattle.std.proofs.lemmas.Bool.{le-leb}
use Rattle.ct_io.specs.Counts.{Rose}
use Rattle.ct_io.specs.Written.{Appends}
use Rattle.ct_io.proofs.laws.Appending.{part_none, part_of_whole}
use Rattle.ct_value.specs.declared.ty.Ty.{Ty}
use Rattle.ct_catalog.specs.declared.table.TableDef.{TableDef}
use Rattle.job_text.specs.declared.orders.OrderLine.{OrderLine}
use Rattle.job_text.specs.Printed.{item_lines}
use Rattle.stream_model.specs.declared.events.StepFault.TheVariants as fault
use Rattle.stream_model.specs.declared.events.PrintItem.{PrintItem}
use Rattle.stream_model.specs.Network.{Network}
use Rattle.stream_model.specs.Machine.{State, opened}
use Rattle.source_lines.specs.Run.{At, Went, and_then, goes, halts, job_of, on, printed_by, stopped, whole_run}
use Rattle.source_lines.specs.Supply.{is_by_table}
use Rattle.source_lines.specs.declared.supply.ChangeFiles.{ChangeFiles}
use Rattle.job_ending.specs.declared.halt.Halt.{Halt}
use Rattle.job_ending.specs.declared.halt.Halt.TheVariants as h
use Rattle.job_ending.specs.Outcome.{Outcome}
use Rattle.job_ending.specs.Runs.{RunsThere}
use Rattle.job_stream.specs.declared.sheet.Sheet.{Sheet}
use Rattle.job_stream.specs.Stream.{ending_of_run, outcome_of, sink_key, sink_types}
use Rattle.job_stream.specs.Early.{EndsWell, opening}
use Rattle.job_stream.specs.Writing.{Halts, IsSheetOf, Told, lines_on, outcome_on}

-- ---- the opening

module _ (g : Network) (limit : ℕ) (sources : List TableDef) (files : ChangeFiles) (orders : List OrderLine) where
  abbrev Begun : Bool → Went (At State)
  Begun b = and_then (cond b (on (opening g files)) (halts (stopped fault.Limit) (opening g files))) (λ p. goes (job_of g limit) sources (is_by_table files) p orders)

  -- behind an opening within the limit
  pub whole_opened : (opened g).sends ≤ limit → whole_run g limit sources files orders ≡ goes (job_of g limit) sources (is_by_table files) (opening g files) orders
  whole_opened within = ap Begun (le-leb (opened g).sends limit within)

-- ---- the ending

module _ (sink : TableDef) (sheet : Sheet) (by_table : Bool) (is : IsSheetOf sink sheet) (by : sheet.by_table ≡ by_table) (went : Went (At State)) (p : At State) (nothing : p.state.printed ≡ []) (old new : Told) where
  abbrev There : Outcome
  There = outcome_of by_table (sink_types sink) (sink_key sink) went

  -- the lines of all that was printed
  all_lines : (more : List PrintItem) → printed_by went ≡ p.state.printed ++ more → outcome_on sheet went more ≡ There
  all_lines more printed =
      let items : more ≡ printed_by went = sym (printed ∙ ap (λ l. l ++ more) nothing) in
      ap (λ bytes. record { ending = ending_of_run went; bytes = bytes })
      (ap (lines_on sheet) items ∙ ap (λ b. item_lines b sheet.tys.items sheet.key (printed_by went)) by ∙ ap (λ (tys : List Ty). item_lines by_table tys sheet.key (printed_by went)) is.types
      ∙ ap (λ (key : Option (List ℕ)). item_lines by_table (sink_types sink) key (printed_by went)) is.key_is)

  -- it went to its end
  pub ends_well : (write : Type 0) → EndsWell sheet went p old new → let result : Result (Unit {0}) Halt = Ok tt in RunsThere There write old.written new.written result
  ends_well write well =
      let same = all_lines well.more (ap printed_by well.goes ∙ well.printed) in
      let put : Appends old.written new.written There.bytes = subst (λ (o : Outcome). Appends old.written new.written o.bytes) same well.written in
      record { cause = ap ending_of_run well.goes; part = part_of_whole put; whole = λ free. put }

  -- it halted
  pub ends_halted : (halt : Halt) → Halts sheet went p old new halt → let result : Result (Unit {0}) Halt = Err halt in RunsThere There (Rose old.faults new.faults) old.written new.written result
  ends_halted halt halted =
      subst (λ (o : Outcome). let result : Result (Unit {0}) Halt = Err halt in RunsThere o (Rose old.faults new.faults) old.written new.written result) (all_lines halted.more halted.printed) halted.runs

-- memory was wanting before anything was written
pub ends_wanting : (there : Outcome) (write : Type 0) (o : Option (List ℕ)) → let result : Result (Unit {0}) Halt = Err h.Memory in RunsThere there write o o result
ends_wanting there write o = record { cause = tt; part = part_none o there.bytes; whole = λ free. absurd (cc (free)) }
