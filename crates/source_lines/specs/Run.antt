-- How a run goes over its change files and an order: each line of the order is some steps of the job, or lines that are taken; then what is
-- left of the files is taken, and the job is drained.
use Rattle.std.specs.Prelude.{◌≡◌, ℕ, zero, suc, nat_le, Bool, cond, List, [], ◌∷◌, ◌++◌, length, set, slice_get, Option, Some, None, Result, Ok, Err}
use Rattle.ct_value.specs.declared.codes.ChangeCode.{ChangeCode}
use Rattle.ct_value.specs.declared.codes.OrderCode.{OrderCode}
use Rattle.ct_value.specs.declared.codes.OrderCode.TheVariants.{NoSuchPlace, NoMoreChanges}
use Rattle.ct_catalog.specs.declared.table.TableDef.{TableDef}
use Rattle.job_text.specs.declared.line.Line.{Line}
use Rattle.job_text.specs.declared.orders.OrderLine.{OrderLine}
use Rattle.job_text.specs.declared.orders.Verb.{Verb}
use Rattle.job_text.specs.declared.orders.Verb.TheVariants.{Take, Move, Flush, Drain}
use Rattle.job_text.specs.Lines.{Record, LinesLeft, line_in}
use Rattle.stream_model.specs.declared.events.Event.TheVariants as event
use Rattle.stream_model.specs.declared.events.StepFault.{StepFault}
use Rattle.stream_model.specs.declared.events.StepFault.TheVariants as fault
use Rattle.stream_model.specs.declared.events.PrintItem.{PrintItem}
use Rattle.stream_model.specs.Network.{Network}
use Rattle.stream_model.specs.Machine.{State, opened, take}
use Rattle.stream_model.specs.Looks.{flush_refusal, move_refusal}
use Rattle.stream_model.specs.Runs.{Item, happens, step_item}
use Rattle.stream_model.specs.Drain.{drain, moves}
use Rattle.source_lines.specs.declared.supply.ChangeFiles.{ChangeFiles}
use Rattle.source_lines.specs.Supply.{all_unread, file_named, is_by_table, read_on, table_told}

-- why a run goes no further: a line of a change file is refused, by its number in the file and its table as that is told; a line of the
-- order is refused as it begins, by its number; or the job stops
pub data Cause : Type 0 where
  refused : ChangeCode → ℕ → ℕ → Cause
  disordered : OrderCode → ℕ → Cause
  stopped : StepFault → Cause

-- where a run goes on, or where it halts
pub data Went (A : Type 0) : Type 0 where
  on : A → Went A
  halts : Cause → A → Went A

abbrev pub and_then : {A : Type 0} → Went A → (A → Went A) → Went A
and_then (on p) next = next p
and_then (halts cause p) next = halts cause p

abbrev pub place_of : {A : Type 0} → Went A → A
place_of (on p) = p
place_of (halts cause p) = p

-- what a run asks of a job with states `S`, which goes by steps `I`
pub record Job (S I : Type 0) : Type 0 where
  pub take : S → Line → Result S StepFault
  pub step : S → I → Result S StepFault
  -- the steps of a verb that takes no lines, and why they can't begin
  pub steps : S → Verb → List I
  pub refusal : S → Verb → Option OrderCode
  pub drain : S → List I

-- a job's state, and how far its files were read
pub record At (S : Type 0) : Type 0 where
  pub state : S
  pub files : List LinesLeft

module _ {S I : Type 0} (job : Job S I) (sources : List TableDef) (by_table : Bool) where
  -- ---- steps

  abbrev pub stepped : At S → Result S StepFault → Went (At S)
  stepped p (Ok next) = on (record p { state = next })
  stepped p (Err cause) = halts (stopped cause) p

  -- these steps, one after the other
  abbrev pub go_along : At S → List I → Went (At S)
  go_along p [] = on p
  go_along p (step ∷ steps) = and_then (stepped p (job.step p.state step)) (λ q. go_along q steps)

  -- ---- lines

  -- a line, behind which its file is so, and which is taken
  abbrev pub took : At S → ℕ → LinesLeft → Result S StepFault → Went (At S)
  took p place file (Ok next) = on (record { state = next; files = set p.files place file })
  took p place file (Err (fault.Change code)) = halts (refused code file.read (table_told file.feed)) p
  took p place file (Err (fault.Order code)) = halts (stopped (fault.Order code)) p
  took p place file (Err (fault.Range node subtask row types)) = halts (stopped (fault.Range node subtask row types)) p
  took p place file (Err fault.Limit) = halts (stopped fault.Limit) p
  took p place file (Err fault.Memory) = halts (stopped fault.Memory) p

  abbrev pub take_line : At S → ℕ → LinesLeft → Result Line ChangeCode → Went (At S)
  take_line p place file (Err code) = halts (refused code file.read (table_told file.feed)) p
  take_line p place file (Ok line) = took p place file (job.take p.state line)

  abbrev pub take_first : At S → ℕ → LinesLeft → List Record → Went (At S)
  take_first p place file [] = on p
  take_first p place file (fields ∷ rest) = take_line p place (read_on file rest) (line_in sources file.feed fields)

  abbrev pub take_from : At S → ℕ → Option LinesLeft → Went (At S)
  take_from p place None = on p
  take_from p place (Some file) = take_first p place file file.records

  -- so many next lines of the file at a place, as far as there are any
  abbrev pub take_many : At S → ℕ → ℕ → Went (At S)
  take_many p place zero = on p
  take_many p place (suc count) = and_then (take_from p place (slice_get p.files place)) (λ q. take_many q place count)

  abbrev pub left_at : Option LinesLeft → ℕ
  left_at None = 0
  left_at (Some file) = length file.records

  -- all that is left of so many files, from the one at a place on
  abbrev pub take_rest : At S → ℕ → ℕ → Went (At S)
  take_rest p place zero = on p
  take_rest p place (suc count) = and_then (take_many p place (left_at (slice_get p.files place))) (λ q. take_rest q (suc place) count)

  -- ---- the order

  abbrev pub few_left : Option LinesLeft → ℕ → Option OrderCode
  few_left None count = Some NoSuchPlace
  few_left (Some file) count = cond (nat_le count (length file.records)) None (Some NoMoreChanges)

  abbrev pub take_refusal : List LinesLeft → Option ℕ → ℕ → Option OrderCode
  take_refusal files None count = Some NoSuchPlace
  take_refusal files (Some place) count = few_left (slice_get files place) count

  -- why a line of the order can't begin
  abbrev pub verb_refusal : At S → Verb → Option OrderCode
  verb_refusal p (Take table count) = take_refusal p.files (file_named by_table table) count
  verb_refusal p (Move edge from to count) = job.refusal p.state (Move edge from to count)
  verb_refusal p (Flush node subtask) = job.refusal p.state (Flush node subtask)
  verb_refusal p Drain = job.refusal p.state Drain

  abbrev pub take_named : At S → Option ℕ → ℕ → Went (At S)
  take_named p None count = on p
  take_named p (Some place) count = take_many p place count

  abbrev pub acts : At S → Verb → Went (At S)
  acts p (Take table count) = take_named p (file_named by_table table) count
  acts p (Move edge from to count) = go_along p (job.steps p.state (Move edge from to count))
  acts p (Flush node subtask) = go_along p (job.steps p.state (Flush node subtask))
  acts p Drain = go_along p (job.steps p.state Drain)

  abbrev pub begins : At S → ℕ → Option OrderCode → Went (At S) → Went (At S)
  begins p line None went = went
  begins p line (Some code) went = halts (disordered code line) p

  -- these lines of an order, one after the other
  abbrev pub follow : At S → List OrderLine → Went (At S)
  follow p [] = on p
  follow p (order ∷ orders) = and_then (begins p order.line (verb_refusal p order.verb) (acts p order.verb)) (λ q. follow q orders)

  -- ---- the end

  -- what is left is taken, file by file, and the job is drained
  abbrev pub finishes : At S → Went (At S)
  finishes p = and_then (take_rest p 0 (length p.files)) (λ q. go_along q (job.drain q.state))

  abbrev pub goes : At S → List OrderLine → Went (At S)
  goes p orders = and_then (follow p orders) finishes

-- ---- the machine's run

module _ (g : Network) (limit : ℕ) where
  abbrev pub verb_steps : State → Verb → List Item
  verb_steps s (Take table count) = []
  verb_steps s (Move edge from to count) = moves edge from to count
  verb_steps s (Flush node subtask) = happens (event.Flush node subtask) ∷ []
  verb_steps s Drain = drain g limit s

  abbrev pub step_refusal : State → Verb → Option OrderCode
  step_refusal s (Take table count) = None
  step_refusal s (Move edge from to count) = move_refusal g s edge from to count
  step_refusal s (Flush node subtask) = flush_refusal g node subtask
  step_refusal s Drain = None

  abbrev pub job_of : Job State Item
  job_of = record {
    take = λ s line. take g limit s line.table line.change;
    step = step_item g limit;
    steps = verb_steps;
    refusal = step_refusal;
    drain = drain g limit;
  }

  -- the job opens, where what it opens with doesn't pass the limit
  abbrev pub begun : ChangeFiles → Went (At State)
  begun files =
      cond (nat_le (opened g).sends limit) (on (record { state = opened g; files = all_unread files })) (halts (stopped fault.Limit) (record { state = opened g; files = all_unread files }))

  -- the job opens, and goes over the files by an order
  abbrev pub whole_run : List TableDef → ChangeFiles → List OrderLine → Went (At State)
  whole_run sources files orders = and_then (begun files) (λ p. goes job_of sources (is_by_table files) p orders)

-- what a run has printed
abbrev pub printed_by : Went (At State) → List PrintItem
printed_by went = (place_of went).state.printed

-- ---- where a run stops

-- a run has printed these items, and may have printed more
abbrev pub Begins : List PrintItem → Went (At State) → Type 0
Begins printed went = (rest : List PrintItem) × (printed_by went ≡ printed ++ rest)

-- a run halts by this fault, where it has printed these items
pub record HaltsBy (cause : StepFault) (printed : List PrintItem) (went : Went (At State)) : Type 0 where
  pub place : At State
  pub halted : went ≡ halts (stopped cause) place
  pub same : place.state.printed ≡ printed

-- why a run stopped, and what it had printed; where memory was wanting, that is a first part of what a run prints that had enough
abbrev pub IsStop : StepFault → List PrintItem → Went (At State) → Type 0
IsStop (fault.Change code) printed went = HaltsBy (fault.Change code) printed went
IsStop (fault.Order code) printed went = HaltsBy (fault.Order code) printed went
IsStop (fault.Range node subtask row types) printed went = HaltsBy (fault.Range node subtask row types) printed went
IsStop fault.Limit printed went = HaltsBy fault.Limit printed went
IsStop fault.Memory printed went = Begins printed went
