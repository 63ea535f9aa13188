-- What was printed stays, along each part of a run.
use Rattle.std.specs.Prelude.{◌≡◌, ℕ, Bool, List, ◌++◌, Option, Result, length, slice_get}
use Rattle.std.proofs.Common.{zero, suc, [], ◌∷◌, sym, ap, ◌∙◌, Some, None, Ok, Err, append_assoc, append-nil}
use Rattle.ct_value.specs.declared.codes.ChangeCode.{ChangeCode}
use Rattle.ct_value.specs.declared.codes.OrderCode.{OrderCode}
use Rattle.ct_catalog.specs.declared.table.TableDef.{TableDef}
use Rattle.job_text.specs.declared.line.Line.{Line}
use Rattle.job_text.specs.declared.orders.OrderLine.{OrderLine}
use Rattle.job_text.specs.declared.orders.Verb.{Verb}
use Rattle.job_text.specs.declared.orders.Verb.TheVariants.{Take, Move, Flush, Drain}
use Rattle.job_text.specs.Lines.{LinesLeft, Record, line_in}
use Rattle.stream_model.specs.declared.events.StepFault.{StepFault}
use Rattle.stream_model.specs.declared.events.StepFault.TheVariants as fault
use Rattle.stream_model.specs.declared.events.PrintItem.{PrintItem}
use Rattle.stream_model.specs.Network.{Network}
use Rattle.stream_model.specs.Machine.{State}
use Rattle.stream_model.specs.Runs.{Item, step_item}
use Rattle.source_lines.specs.Run as run
use Rattle.source_lines.specs.Run.{At, Begins, Went, and_then, halts, job_of, on}
use Rattle.source_lines.specs.Supply.{file_named, read_on}
use Rattle.source_lines.proofs.laws.Along.{PrintsOn, begins_along, item_prints, take_prints}

-- a run that has printed no more than this
pub begins_here : (printed : List PrintItem) → (rest : List PrintItem) × (printed ≡ printed ++ rest)
begins_here printed = ([], sym (append-nil printed))

-- what goes on from where a run has come
pub begins_then : (printed : List PrintItem) (went : Went (At State)) (next : At State → Went (At State)) → Begins printed went → ((q : At State) → Begins q.state.printed (next q)) → Begins printed (and_then went next)
begins_then printed (on q) next so_far later =
    let rest = later q in
    (so_far.0 ++ rest.0, rest.1 ∙ ap (λ items. items ++ rest.0) so_far.1 ∙ append_assoc printed so_far.0 rest.0)
begins_then printed (halts cause q) next so_far later = so_far

module _ (g : Network) (limit : ℕ) (sources : List TableDef) (by_table : Bool) where
  abbrev Ran : At State → Went (At State) → Type 0
  Ran p went = Begins p.state.printed went

  pub begins_step : (p : At State) (r : Result State StepFault) → PrintsOn g limit p.state r → Ran p (run.stepped (job_of g limit) sources by_table p r)
  begins_step p (Ok next) prints = prints
  begins_step p (Err cause) prints = begins_here p.state.printed

  pub begins_item : (p : At State) (item : Item) → Ran p (run.stepped (job_of g limit) sources by_table p (step_item g limit p.state item))
  begins_item p item = begins_step p (step_item g limit p.state item) (item_prints g limit p.state item)

  begins_took : (p : At State) (place : ℕ) (file : LinesLeft) (r : Result State StepFault) → PrintsOn g limit p.state r → Ran p (run.took (job_of g limit) sources by_table p place file r)
  begins_took p place file (Ok next) prints = prints
  begins_took p place file (Err (fault.Change code)) prints = begins_here p.state.printed
  begins_took p place file (Err (fault.Order code)) prints = begins_here p.state.printed
  begins_took p place file (Err (fault.Range node subtask row types)) prints = begins_here p.state.printed
  begins_took p place file (Err fault.Limit) prints = begins_here p.state.printed
  begins_took p place file (Err fault.Memory) prints = begins_here p.state.printed

  begins_line : (p : At State) (place : ℕ) (file : LinesLeft) (r : Result Line ChangeCode) → Ran p (run.take_line (job_of g limit) sources by_table p place file r)
  begins_line p place file (Err code) = begins_here p.state.printed
  begins_line p place file (Ok line) = begins_took p place file ((job_of g limit).take p.state line) (take_prints g limit p.state line.table line.change (g.tables line.table))

  begins_first : (p : At State) (place : ℕ) (file : LinesLeft) (records : List Record) → Ran p (run.take_first (job_of g limit) sources by_table p place file records)
  begins_first p place file [] = begins_here p.state.printed
  begins_first p place file (fields ∷ rest) = begins_line p place (read_on file rest) (line_in sources file.feed fields)

  pub begins_from : (p : At State) (place : ℕ) (o : Option LinesLeft) → Ran p (run.take_from (job_of g limit) sources by_table p place o)
  begins_from p place None = begins_here p.state.printed
  begins_from p place (Some file) = begins_first p place file file.records

  pub begins_many : (p : At State) (place count : ℕ) → Ran p (run.take_many (job_of g limit) sources by_table p place count)
  begins_many p place zero = begins_here p.state.printed
  begins_many p place (suc count) =
      begins_then p.state.printed (run.take_from (job_of g limit) sources by_table p place (slice_get p.files place)) (λ q. run.take_many (job_of g limit) sources by_table q place count)
      (begins_from p place (slice_get p.files place)) (λ q. begins_many q place count)

  pub begins_rest : (p : At State) (place count : ℕ) → Ran p (run.take_rest (job_of g limit) sources by_table p place count)
  begins_rest p place zero = begins_here p.state.printed
  begins_rest p place (suc count) =
      let left = run.left_at (job_of g limit) sources by_table (slice_get p.files place) in
      begins_then p.state.printed (run.take_many (job_of g limit) sources by_table p place left) (λ q. run.take_rest (job_of g limit) sources by_table q (suc place) count)
      (begins_many p place left) (λ q. begins_rest q (suc place) count)

  begins_named : (p : At State) (o : Option ℕ) (count : ℕ) → Ran p (run.take_named (job_of g limit) sources by_table p o count)
  begins_named p None count = begins_here p.state.printed
  begins_named p (Some place) count = begins_many p place count

  begins_verb : (p : At State) (verb : Verb) → Ran p (run.acts (job_of g limit) sources by_table p verb)
  begins_verb p (Take table count) = begins_named p (file_named by_table table) count
  begins_verb p (Move edge from to count) = begins_along g limit sources by_table p ((job_of g limit).steps p.state (Move edge from to count))
  begins_verb p (Flush node subtask) = begins_along g limit sources by_table p ((job_of g limit).steps p.state (Flush node subtask))
  begins_verb p Drain = begins_along g limit sources by_table p ((job_of g limit).steps p.state Drain)

  begins_unless : (p : At State) (line : ℕ) (o : Option OrderCode) (went : Went (At State)) → Ran p went → Ran p (run.begins (job_of g limit) sources by_table p line o went)
  begins_unless p line None went h = h
  begins_unless p line (Some code) went h = begins_here p.state.printed

  pub begins_order : (p : At State) (order : OrderLine) → Ran p (run.begins (job_of g limit) sources by_table p order.line (run.verb_refusal (job_of g limit) sources by_table p order.verb) (run.acts (job_of g limit) sources by_table p order.verb))
  begins_order p order = begins_unless p order.line (run.verb_refusal (job_of g limit) sources by_table p order.verb) (run.acts (job_of g limit) sources by_table p order.verb) (begins_verb p order.verb)

  pub begins_orders : (p : At State) (orders : List OrderLine) → Ran p (run.follow (job_of g limit) sources by_table p orders)
  begins_orders p [] = begins_here p.state.printed
  begins_orders p (order ∷ orders) =
      begins_then p.state.printed (run.begins (job_of g limit) sources by_table p order.line (run.verb_refusal (job_of g limit) sources by_table p order.verb) (run.acts (job_of g limit) sources by_table p order.verb))
      (λ q. run.follow (job_of g limit) sources by_table q orders) (begins_order p order) (λ q. begins_orders q orders)

  pub begins_end : (p : At State) → Ran p (run.finishes (job_of g limit) sources by_table p)
  begins_end p =
      begins_then p.state.printed (run.take_rest (job_of g limit) sources by_table p 0 (length p.files)) (λ q. run.go_along (job_of g limit) sources by_table q ((job_of g limit).drain q.state))
      (begins_rest p 0 (length p.files)) (λ q. begins_along g limit sources by_table q ((job_of g limit).drain q.state))
