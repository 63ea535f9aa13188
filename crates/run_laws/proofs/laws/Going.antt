-- A run over change files by an order, position by position.
use Rattle.std.specs.Prelude.{◌≡◌, ℕ, ◌+◌, ◌<◌, ◌≤◌, nat_le, Bool, cond, Option, Result, List, ◌++◌, length, set, slice_get}
use Rattle.std.proofs.Common.{zero, suc, true, false, [], ◌∷◌, refl, sym, ap, subst, ◌∙◌, arith, Some, None, Ok, Err, inl, inr, append-nil}
use Rattle.std.proofs.lemmas.Bool.{cases_eq, leb-true}
use Rattle.std.proofs.lemmas.Option.{slice_get_past}
use Rattle.ct_value.specs.declared.codes.ChangeCode.{ChangeCode}
use Rattle.ct_value.specs.declared.codes.OrderCode.{OrderCode}
use Rattle.ct_catalog.specs.declared.table.TableDef.{TableDef}
use Rattle.job_text.specs.declared.line.Line.{Line}
use Rattle.job_text.specs.declared.orders.OrderLine.{OrderLine}
use Rattle.job_text.specs.declared.orders.Verb.{Verb}
use Rattle.job_text.specs.declared.orders.Verb.TheVariants as says
use Rattle.job_text.specs.Lines.{Record, LinesLeft, line_in}
use Rattle.phys_plan.specs.declared.plan.Plan.{Plan}
use Rattle.sound_plans.proofs.laws.Numbers.{side}
use Rattle.stream_model.specs.declared.events.Event.TheVariants.{Flush}
use Rattle.stream_model.specs.declared.events.StepFault.{StepFault}
use Rattle.stream_model.specs.declared.events.StepFault.TheVariants.{Change as Refused, Order, Range, Limit, Memory}
use Rattle.stream_model.specs.declared.events.PrintItem.{PrintItem}
use Rattle.stream_model.specs.declared.events.PrintItem.TheVariants.{Quiet}
use Rattle.stream_model.specs.Network.{Network, IsWired}
use Rattle.stream_model.specs.Machine.{State, opened, take, IsQuiet}
use Rattle.stream_model.specs.Runs.{Item, happens, quiet, counts, told_quiet, step_item}
use Rattle.stream_model.specs.Drain.{Drains, IsDrainFault, Leads, RunsDrain, StopsAlong, StopsBy, drain, drain_stages, moves, stages}
use Rattle.plan_rules.specs.Doings.{network}
use Rattle.source_lines.specs.Fitting.{LinesFitColumns}
use Rattle.source_lines.specs.Run as run
use Rattle.source_lines.specs.Run.{At, Cause, Went, and_then, begun, disordered, halts, job_of, on, refused, stopped, whole_run}
use Rattle.source_lines.specs.Supply.{all_unread, file_named, is_by_table, read_on}
use Rattle.source_lines.specs.Taken.{Taken}
use Rattle.source_lines.specs.declared.supply.ChangeFiles.{ChangeFiles}
use Rattle.source_lines.proofs.laws.Along.{AreMoves, IsMove, leads_both, moves_from, moves_stages}
use Rattle.source_lines.proofs.laws.Files.{AreFronts}
use Rattle.run_laws.proofs.laws.Faults.{order_flush_stops, order_moves_stop}
use Rattle.run_laws.proofs.laws.Standing.{Stands, moved_stands, opened_stands, quiet_stands, taken_stands}
use Rattle.run_laws.proofs.laws.Taking.{Answers, answers}

-- ---- files

-- how many lines a file has left, where there is one
abbrev left_in : Option LinesLeft → ℕ
left_in None = 0
left_in (Some file) = length file.records

set_here : {A : Type 0} (xs : List A) (k : ℕ) (x y : A) → slice_get xs k ≡ Some x → slice_get (set xs k y) k ≡ Some y
set_here [] k x y e = absurd (cc (e))
set_here (z ∷ xs) zero x y e = refl
set_here (z ∷ xs) (suc k) x y e = set_here xs k x y e

set_there : {A : Type 0} (xs : List A) (k place : ℕ) (y : A) → (k ≡ place → ⊥) → slice_get (set xs place y) k ≡ slice_get xs k
set_there [] k place y apart = refl
set_there (z ∷ xs) zero zero y apart = absurd (apart refl)
set_there (z ∷ xs) zero (suc place) y apart = refl
set_there (z ∷ xs) (suc k) zero y apart = refl
set_there (z ∷ xs) (suc k) (suc place) y apart = set_there xs k place y (λ same. apart (ap suc same))

no_records : (records : List Record) → length records ≡ 0 → records ≡ []
no_records [] none = refl
no_records (fields ∷ records) none = absurd (omega (arith, none))

many_fronts : (sources : List TableDef) (wholes nows : List LinesLeft) (taken : Taken) → AreFronts sources wholes nows taken → length nows ≡ length wholes
many_fronts sources [] [] taken h = refl
many_fronts sources [] (now ∷ nows) taken h = absurd h
many_fronts sources (whole ∷ wholes) [] taken h = absurd h
many_fronts sources (whole ∷ wholes) (now ∷ nows) taken h = ap suc (many_fronts sources wholes nows taken h.1)

-- ---- stops

stops_by : (r : Result State StepFault) (cause : StepFault) → r ≡ Err cause → StopsBy r cause
stops_by r (Refused code) e = e
stops_by r (Order code) e = e
stops_by r (Range v j row types) e = e
stops_by r Limit e = e
stops_by r Memory e = tt

stops_more : (g : Network) (limit : ℕ) (s : State) (xs ys : List Item) (cause : StepFault) (printed : List PrintItem) → StopsAlong g limit s xs cause printed → StopsAlong g limit s (xs ++ ys) cause printed
stops_more g limit s [] ys cause printed stop = absurd stop
stops_more g limit s (x ∷ xs) ys cause printed (inl here) = inl here
stops_more g limit s (x ∷ xs) ys cause printed (inr later) = inr (later.0, later.1, stops_more g limit later.0 xs ys cause printed later.2)

module _ (plan : Plan) (limit : ℕ) (files : ChangeFiles) where
  abbrev g : Network
  g = network plan

  -- a step by which the job stops
  pub record StopsAt (cause : StepFault) (s : State) : Type 0 where
    pub starts : (opened g).sends ≤ limit
    pub item : Item
    pub moves : IsMove item
    pub stops : step_item g limit s item ≡ Err cause

  -- the limit also stops a job that opens, and one that takes a line
  abbrev pub IsCause : StepFault → State → Type 0
  IsCause Limit s = Unit {0}
  IsCause cause s = StopsAt cause s

  pub record Stops (cause : StepFault) (s : State) : Type 0 where
    pub why : IsWired g → IsDrainFault cause
    pub cause_is : IsCause cause s

  abbrev pub Refuses : State → Result Line ChangeCode → Type 0
  Refuses s (Err code) = Unit {0}
  Refuses s (Ok line) = (code : ChangeCode) × (take g limit s line.table line.change ≡ Err (Refused code))

  -- the next line of a file is refused
  pub record RefusesAt (p : At State) : Type 0 where
    pub place : ℕ
    pub file : LinesLeft
    pub there : slice_get p.files place ≡ Some file
    pub fields : Record
    pub rest : List Record
    pub next : file.records ≡ fields ∷ rest
    pub refuses : Refuses p.state (line_in plan.sources file.feed fields)

  abbrev pub Halts : Cause → At State → Type 0
  Halts (refused code line table) p = RefusesAt p
  Halts (disordered code line) p = Unit {0}
  Halts (stopped cause) p = Stops cause p.state

  -- what is known of a run, with a property of where it goes on
  abbrev pub Ends : (At State → Type 0) → Went (At State) → Type 0
  Ends Q (on p) = Stands plan limit files p × Q p
  Ends Q (halts cause p) = Stands plan limit files p × Halts cause p

  abbrev pub Anywhere : At State → Type 0
  Anywhere p = Unit {0}

  pub ends_then : (Q R : At State → Type 0) (went : Went (At State)) (next : At State → Went (At State)) → Ends Q went → ((p : At State) → Stands plan limit files p → Q p → Ends R (next p)) → Ends R (and_then went next)
  ends_then Q R (on p) next h later = later p h.0 h.1
  ends_then Q R (halts cause p) next h later = h

  ends_with : (Q R : At State → Type 0) (went : Went (At State)) → Ends Q went → ((p : At State) → Q p → R p) → Ends R went
  ends_with Q R (on p) h more = (h.0, more p h.1)
  ends_with Q R (halts cause p) h more = h

  abbrev Here : At State → Type 0
  Here = Stands plan limit files

  -- the parts of the run

  abbrev stepped : At State → Result State StepFault → Went (At State)
  stepped = run.stepped (job_of g limit) plan.sources (is_by_table files)

  abbrev steps : At State → List Item → Went (At State)
  steps = run.go_along (job_of g limit) plan.sources (is_by_table files)

  abbrev take_from : At State → ℕ → Option LinesLeft → Went (At State)
  take_from = run.take_from (job_of g limit) plan.sources (is_by_table files)

  abbrev take_many : At State → ℕ → ℕ → Went (At State)
  take_many = run.take_many (job_of g limit) plan.sources (is_by_table files)

  abbrev lines_left : Option LinesLeft → ℕ
  lines_left = run.left_at (job_of g limit) plan.sources (is_by_table files)

  abbrev take_rest : At State → ℕ → ℕ → Went (At State)
  take_rest = run.take_rest (job_of g limit) plan.sources (is_by_table files)

  abbrev verb_refusal : At State → Verb → Option OrderCode
  verb_refusal = run.verb_refusal (job_of g limit) plan.sources (is_by_table files)

  abbrev acts : At State → Verb → Went (At State)
  acts = run.acts (job_of g limit) plan.sources (is_by_table files)

  abbrev begins : At State → ℕ → Option OrderCode → Went (At State) → Went (At State)
  begins = run.begins (job_of g limit) plan.sources (is_by_table files)

  abbrev follow : At State → List OrderLine → Went (At State)
  follow = run.follow (job_of g limit) plan.sources (is_by_table files)

  abbrev finishes : At State → Went (At State)
  finishes = run.finishes (job_of g limit) plan.sources (is_by_table files)

  abbrev goes : At State → List OrderLine → Went (At State)
  goes = run.goes (job_of g limit) plan.sources (is_by_table files)

  -- how many lines a file has left
  abbrev left_at : At State → ℕ → ℕ
  left_at p place = left_in (slice_get p.files place)

  left_same : (o : Option LinesLeft) → left_in o ≡ lines_left o
  left_same None = refl
  left_same (Some file) = refl

  -- a quiet moment was told last, behind which the files are as they were
  record IsDrained (p q : At State) : Type 0 where
    before : List PrintItem
    printed : q.state.printed ≡ before ++ Quiet (counts g q.state) ∷ []
    same : q.files ≡ p.files

  -- and no file has a line left
  pub record IsDone (p : At State) : Type 0 where
    pub before : List PrintItem
    pub printed : p.state.printed ≡ before ++ Quiet (counts g p.state) ∷ []
    pub none_left : (place : ℕ) (file : LinesLeft) → slice_get p.files place ≡ Some file → file.records ≡ []

  -- a file has one line fewer, where it had one, and each other as many as before
  record ReadsOn (p : At State) (place : ℕ) (q : At State) : Type 0 where
    here : (n : ℕ) → left_at p place ≡ suc n → left_at q place ≡ n
    there : (k : ℕ) → (k ≡ place → ⊥) → left_at q k ≡ left_at p k

  -- the files below a place have no line left
  abbrev AreEmpty : ℕ → At State → Type 0
  AreEmpty place p = (k : ℕ) → k < place → left_at p k ≡ 0

  -- these steps stop for no other reason than a drain does
  abbrev StopDrained : State → List Item → Type 0
  StopDrained s items = (cause : StepFault) (printed : List PrintItem) → StopsAlong g limit s items cause printed → IsWired g → IsDrainFault cause

  module _ (fit : LinesFitColumns) (drains : RunsDrain) (starts : (opened g).sends ≤ limit) where
    -- ---- steps

    stop_here : (s : State) (item : Item) (cause : StepFault) → IsMove item → step_item g limit s item ≡ Err cause → IsCause cause s
    stop_here s item (Refused code) is e = record { starts = starts; item = item; moves = is; stops = e }
    stop_here s item (Order code) is e = record { starts = starts; item = item; moves = is; stops = e }
    stop_here s item (Range v j row types) is e = record { starts = starts; item = item; moves = is; stops = e }
    stop_here s item Limit is e = tt
    stop_here s item Memory is e = record { starts = starts; item = item; moves = is; stops = e }

    module _ (Q : At State → Type 0) (behind : List Item) where
      -- where moves and flushes led, the items behind them go on
      abbrev GoOn : At State → List Item → Type 0
      GoOn p items = (q : At State) → Here q → Leads g limit p.state items q.state → q.files ≡ p.files → Ends Q (steps q behind)

      move_ends : (p : At State) (item : Item) (items : List Item) (r : Result State StepFault) → step_item g limit p.state item ≡ r → IsMove item → Here p → StopDrained p.state (item ∷ items) → GoOn p (item ∷ items)
          → ((t : State) → Here (record p { state = t }) → StopDrained t items → GoOn (record p { state = t }) items → Ends Q (steps (record p { state = t }) (items ++ behind)))
          → Ends Q (and_then (stepped p r) (λ q. steps q (items ++ behind)))
      move_ends p item items (Ok t) e is here stops go_on later =
          later t (moved_stands plan limit files p t item is e here) (λ cause printed stop. stops cause printed (inr (t, e, stop))) (λ q there leads same. go_on q there (t, e, leads) same)
      move_ends p item items (Err cause) e is here stops go_on later =
          (here, record { why = stops cause p.state.printed (inl (stops_by (step_item g limit p.state item) cause e, refl)); cause_is = stop_here p.state item cause is e })

      moves_end : (items : List Item) (p : At State) → AreMoves items → Here p → StopDrained p.state items → GoOn p items → Ends Q (steps p (items ++ behind))
      moves_end [] p all here stops go_on = go_on p here refl refl
      moves_end (item ∷ items) p all here stops go_on =
          move_ends p item items (step_item g limit p.state item) refl all.0 here stops go_on (λ t. moves_end items (record p { state = t }) all.1)

    only_moves : (items : List Item) (p : At State) → AreMoves items → Here p → StopDrained p.state items → Ends Anywhere (steps p items)
    only_moves items p all here stops = subst (λ x. Ends Anywhere (steps p x)) (append-nil items) (moves_end Anywhere [] items p all here stops (λ q there leads same. (there, tt)))

    -- ---- a drain

    still_before : (s : State) → IsQuiet g (told_quiet g s) → IsQuiet g s
    still_before s still = record { flight = still.flight; bundle = still.bundle }

    drains_at : (p : At State) → Here p → IsWired g → Drains g limit p.state
    drains_at p here wired = let reached = here.is_at.reached in subst (Drains g limit) reached.there (drains g wired limit reached.events reached.typed)

    drain_ends : (p : At State) → Here p → Ends (IsDrained p) (steps p (drain g limit p.state))
    drain_ends p here =
        let staged = drain_stages g limit p.state (stages g) in
        moves_end (IsDrained p) (quiet ∷ []) staged p (moves_stages g limit p.state (stages g)) here
        (λ cause printed stop wired. (drains_at p here wired).stops cause printed (stops_more g limit p.state staged (quiet ∷ []) cause printed stop))
        (λ q there leads same.
        let told = told_quiet g q.state in
        let all : Leads g limit p.state (drain g limit p.state) told = leads_both g limit p.state staged (quiet ∷ []) q.state told leads (told, refl, refl) in
        (quiet_stands plan limit files q there (λ wired. still_before q.state ((drains_at p here wired).drained told all)), record { before = q.state.printed; printed = refl; same = same }))

    -- ---- lines

    module _ (p : At State) (place : ℕ) (here : Here p) where
      module _ (file : LinesLeft) (fields : Record) (rest : List Record) (there : slice_get p.files place ≡ Some file) (next : file.records ≡ fields ∷ rest) where
        reads_on : (t : State) → ReadsOn p place (record { state = t; files = set p.files place (read_on file rest) })
        reads_on t = record {
          here = λ n left.
              let now = ap left_in (set_here p.files place file (read_on file rest) there) in
              let was = ap left_in there in
              let many = ap length next in
              omega (arith, left, now, was, many);
          there = λ k apart. ap left_in (set_there p.files k place (read_on file rest) apart);
        }

        refuses_here : Refuses p.state (line_in plan.sources file.feed fields) → RefusesAt p
        refuses_here h = record { place = place; file = file; there = there; fields = fields; rest = rest; next = next; refuses = h }

        took_ends : (line : Line) → line_in plan.sources file.feed fields ≡ Ok line → (r : Result State StepFault) → take g limit p.state line.table line.change ≡ r → Answers r
            → Ends (ReadsOn p place) (run.took (job_of g limit) plan.sources (is_by_table files) p place (read_on file rest) r)
        took_ends line is (Ok t) e may = (taken_stands plan limit files fit p place file fields rest line t there next is e here, reads_on t)
        took_ends line is (Err (Refused code)) e may = (here, let no_more : Refuses p.state (Ok line) = (code, e) in refuses_here (subst (Refuses p.state) (sym is) no_more))
        took_ends line is (Err (Order code)) e may = absurd may
        took_ends line is (Err (Range v j row types)) e may = absurd may
        took_ends line is (Err Limit) e may = (here, record { why = λ wired. tt; cause_is = tt })
        took_ends line is (Err Memory) e may = absurd may

        line_ends : (r : Result Line ChangeCode) → line_in plan.sources file.feed fields ≡ r → Ends (ReadsOn p place) (run.take_line (job_of g limit) plan.sources (is_by_table files) p place (read_on file rest) r)
        line_ends (Err code) is = (here, refuses_here (subst (Refuses p.state) (sym is) tt))
        line_ends (Ok line) is = took_ends line is (take g limit p.state line.table line.change) refl (answers plan limit p.state line fit file.feed fields is)

      no_line : left_at p place ≡ 0 → ReadsOn p place p
      no_line none = record { here = λ n left. absurd (omega (arith, none, left)); there = λ k apart. refl }

      first_ends : (file : LinesLeft) → slice_get p.files place ≡ Some file → (records : List Record) → file.records ≡ records → Ends (ReadsOn p place) (run.take_first (job_of g limit) plan.sources (is_by_table files) p place file records)
      first_ends file there [] is = (here, no_line (ap left_in there ∙ ap length is))
      first_ends file there (fields ∷ rest) is = line_ends file fields rest there is (line_in plan.sources file.feed fields) refl

      from_ends : (o : Option LinesLeft) → slice_get p.files place ≡ o → Ends (ReadsOn p place) (take_from p place o)
      from_ends None there = (here, no_line (ap left_in there))
      from_ends (Some file) there = first_ends file there file.records refl

    -- so many lines of a file, by what holds with each
    many_end : (place : ℕ) (Q : ℕ → At State → Type 0) → ((n : ℕ) (p q : At State) → Q (suc n) p → ReadsOn p place q → Q n q) → (n : ℕ) (p : At State) → Here p → Q n p → Ends (Q 0) (take_many p place n)
    many_end place Q more zero p here h = (here, h)
    many_end place Q more (suc n) p here h =
        ends_then (ReadsOn p place) (Q 0) (take_from p place (slice_get p.files place)) (λ q. take_many q place n) (from_ends p place here (slice_get p.files place) refl)
        (λ q there reads. many_end place Q more n q there (more n p q h reads))

    -- all lines of a file
    abbrev IsEmptying : ℕ → ℕ → At State → Type 0
    IsEmptying place n p = AreEmpty place p × (left_at p place ≡ n)

    empties : (place n : ℕ) (p q : At State) → IsEmptying place (suc n) p → ReadsOn p place q → IsEmptying place n q
    empties place n p q h reads = (λ k low. reads.there k (λ same. omega (arith, low, same)) ∙ h.0 k low, reads.here n h.1)

    emptied : (place : ℕ) (p : At State) → IsEmptying place 0 p → AreEmpty (suc place) p
    emptied place p h k low = elim (cases_eq k place) [
      | inl same ↦ ap (left_at p) same ∙ h.1
      | inr apart ↦ h.0 k (omega (arith, low, apart))
    ]

    file_ends : (place : ℕ) (p : At State) → Here p → AreEmpty place p → Ends (AreEmpty (suc place)) (take_many p place (lines_left (slice_get p.files place)))
    file_ends place p here empty =
        let n = lines_left (slice_get p.files place) in
        ends_with (IsEmptying place 0) (AreEmpty (suc place)) (take_many p place n) (many_end place (IsEmptying place) (empties place) n p here (empty, left_same (slice_get p.files place))) (emptied place)

    rest_ends : (count place all : ℕ) (p : At State) → place + count ≡ all → Here p → AreEmpty place p → Ends (AreEmpty all) (take_rest p place count)
    rest_ends zero place all p many here empty = (here, λ k low. empty k (omega (arith, low, many)))
    rest_ends (suc count) place all p many here empty =
        ends_then (AreEmpty (suc place)) (AreEmpty all) (take_many p place (lines_left (slice_get p.files place)))
        (λ q. take_rest q (suc place) count) (file_ends place p here empty)
        (λ q there behind. rest_ends count (suc place) all q (omega (arith, many)) there behind)

    -- ---- the order

    begins_end : (p : At State) (line : ℕ) (refusal : Option OrderCode) (went : Went (At State)) → Here p → (refusal ≡ None → Ends Anywhere went) → Ends Anywhere (begins p line refusal went)
    begins_end p line None went here free = free refl
    begins_end p line (Some code) went here free = (here, tt)

    named_ends : (p : At State) (o : Option ℕ) (count : ℕ) → Here p → Ends Anywhere (run.take_named (job_of g limit) plan.sources (is_by_table files) p o count)
    named_ends p None count here = (here, tt)
    named_ends p (Some place) count here = many_end place (λ n. Anywhere) (λ n q r h reads. tt) count p here tt

    acts_end : (p : At State) (verb : Verb) → Here p → verb_refusal p verb ≡ None → Ends Anywhere (acts p verb)
    acts_end p (says.Take table count) here free = named_ends p (file_named (is_by_table files) table) count here
    acts_end p (says.Move edge from to count) here free =
        only_moves (moves edge from to count) p (moves_from edge from to count) here (λ cause printed stop wired. order_moves_stop g limit p.state edge from to count free cause printed stop)
    acts_end p (says.Flush node subtask) here free =
        only_moves (happens (Flush node subtask) ∷ []) p (tt, tt) here (λ cause printed stop wired. order_flush_stops g limit p.state node subtask free cause printed stop)
    acts_end p says.Drain here free = ends_with (IsDrained p) Anywhere (steps p (drain g limit p.state)) (drain_ends p here) (λ q drained. tt)

    follow_ends : (orders : List OrderLine) (p : At State) → Here p → Ends Anywhere (follow p orders)
    follow_ends [] p here = (here, tt)
    follow_ends (order ∷ orders) p here =
        let refusal = verb_refusal p order.verb in
        let acted = acts p order.verb in
        ends_then Anywhere Anywhere (begins p order.line refusal acted) (λ q. follow q orders)
        (begins_end p order.line refusal acted here (acts_end p order.verb here)) (λ q there h. follow_ends orders q there)

    -- ---- the end

    -- there are as many files as before
    all_empty : (p q : At State) → Here p → Here q → AreEmpty (length p.files) q → (k : ℕ) → left_at q k ≡ 0
    all_empty p q here there empty k = elim (side (length p.files) k) [
      | inl past ↦
          let before = many_fronts plan.sources (all_unread files) p.files p.state.taken here.is_at.read.fronts in
          let behind = many_fronts plan.sources (all_unread files) q.files q.state.taken there.is_at.read.fronts in
          ap left_in (slice_get_past q.files k (omega (arith, past, before, behind)))
      | inr low ↦ empty k low
    ]

    finishes_end : (p : At State) → Here p → Ends IsDone (finishes p)
    finishes_end p here =
        ends_then (AreEmpty (length p.files)) IsDone (take_rest p 0 (length p.files)) (λ q. steps q (drain g limit q.state))
        (rest_ends (length p.files) 0 (length p.files) p (omega arith) here (λ k low. absurd (omega (arith, low))))
        (λ q there empty. ends_with (IsDrained q) IsDone (steps q (drain g limit q.state)) (drain_ends q there)
        (λ r drained. record {
          before = drained.before;
          printed = drained.printed;
          none_left = λ k file at. no_records file.records (ap left_in (sym at) ∙ ap (λ (all : List LinesLeft). left_in (slice_get all k)) drained.same ∙ all_empty p q here there empty k);
        }))

    goes_end : (p : At State) (orders : List OrderLine) → Here p → Ends IsDone (goes p orders)
    goes_end p orders here =
        ends_then Anywhere IsDone (follow p orders) (finishes) (follow_ends orders p here) (λ q there h. finishes_end q there)

  -- ---- the run

  abbrev Starts : At State → Type 0
  Starts p = (opened g).sends ≤ limit

  begun_ends : (b : Bool) → nat_le (opened g).sends limit ≡ b → Ends Starts (cond b (on (record { state = opened g; files = all_unread files })) (halts (stopped Limit) (record { state = opened g; files = all_unread files })))
  begun_ends true is = (opened_stands plan limit files, leb-true (opened g).sends limit is)
  begun_ends false is = (opened_stands plan limit files, record { why = λ wired. tt; cause_is = tt })

  pub run_ends : LinesFitColumns → RunsDrain → (orders : List OrderLine) → Ends IsDone (whole_run g limit plan.sources files orders)
  run_ends fit drains orders =
      ends_then Starts IsDone (begun g limit files) (λ p. goes p orders) (begun_ends (nat_le (opened g).sends limit) refl)
      (λ p here starts. goes_end fit drains starts p orders here)
