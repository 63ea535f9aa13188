-- What a session stands for.
use Rattle.std.specs.Prelude.{◌≡◌, ℕ, ◌+◌, ◌<◌, Bool, cond, List, [], ◌∷◌, ◌++◌, length, take, true, Option, Some, None, Result, Ok}
use Rattle.ct_change.specs.declared.change.Change.{Change}
use Rattle.ct_change.specs.declared.kind.Kind.{Kind}
use Rattle.ct_change.specs.Changelog.{Mode, admits, fold, has}
use Rattle.ct_change.specs.KeyRows.{IsChangelog, IsKeyed}
use Rattle.op_rules.specs.Edges.{meaning_of}
use Rattle.op_rules.specs.History.{Arrival}
use Rattle.op_rules.specs.Rules.{Rule}
use Rattle.op_rules.specs.Tasks.{IsReady}
use Rattle.stream_model.specs.declared.events.Event.{Event}
use Rattle.stream_model.specs.declared.events.PrintItem.{PrintItem}
use Rattle.stream_model.specs.declared.events.StepFault.{StepFault}
use Rattle.stream_model.specs.Tables.{Table}
use Rattle.stream_model.specs.Network.{Network, task, IsAnswer, MeetsFacts}
use Rattle.stream_model.specs.Machine.{State, consumed, flushed, opened, is_place, step, IsQuiet}
use Rattle.stream_model.specs.Runs.{Item, happens, quiet, after, changes_in, AreTyped, IsTyped}
use Rattle.stream_model.specs.Drain.{Leads, IsSafe, StopsAlong, IsDrainFault, drain, moves, stage_items, stages}
use Rattle.stream_model.specs.Theorem.{table_rows}
use Rattle.session_core.specs.LaidOut.{IsLaidOut, IsStageThere, stage_of}
use Rattle.session_core.specs.Kept.{Carries, AllFit}
use Rattle.session_core.specs.declared.traffic.Traffic.{Traffic}
use Rattle.session_core.specs.declared.wiring.Lane.{Lane}
use Rattle.session_core.specs.declared.wiring.Stage.{Stage}
use Rattle.session_core.specs.declared.wiring.Wiring.{Wiring}
use Rattle.session_core.specs.declared.operators.Operators.{Operators}
use Rattle.session_core.specs.declared.session.Buffer.{Buffer}
use Rattle.session_core.specs.declared.session.Buffer.TheVariants.{NoPlace, NoBuffer, Holds}
use Rattle.session_core.specs.declared.session.Session.{Session}
use Rattle.session_core.specs.Runs.{AllRun, AllHaveRun}
use Rattle.session_core.specs.Sources.{AllCheck}

-- the state to which a run leads
abbrev pub reached : Network → ℕ → List Item → State
reached g limit items = after g limit (opened g) items

-- what the sink prints is read as this mode says, is of the mode's kinds, and tells no more than the mode does
pub record PrintsIn (g : Network) (mode : Mode) : Type 0 where
  pub meaning : (g.edge g.count).meaning ≡ meaning_of mode
  pub kinds : (kind : Kind) → has (g.edge g.count).kinds kind ≡ true → admits mode kind ≡ true
  pub keyed : (change : Change) → admits mode change.kind ≡ true → (g.edge g.count).fits change ≡ true → IsKeyed mode change

-- each prefix of what was printed is a changelog of the mode, and all of it folds to the sink's batch answer over what was taken
pub record HasAnswered (g : Network) (mode : Mode) (s : State) : Type 0 where
  pub valid : (n : ℕ) → IsChangelog mode (take n (changes_in s.printed))
  pub answer : IsAnswer g (table_rows g s) g.count (fold mode (changes_in s.printed))

-- in each state that items lead to, the front of each channel may be consumed, each subtask may rely on what it consumed, and what
-- was sent has its edge's columns
pub record StaysOpen (g : Network) (limit : ℕ) (s : State) : Type 0 where
  pub safe : IsSafe g limit s
  pub ready : (items : List Item) → AreTyped g items → (t : State) → Leads g limit s items t → (v j : ℕ) → j < g.subtasks → IsReady (task g v) j (consumed t v j)
  pub fits : (items : List Item) → AreTyped g items → (t : State) → Leads g limit s items t → AllFit g t

-- the state after a subtask's bundle is folded, if it is due
abbrev pub next_if : Bool → Network → ℕ → ℕ → ℕ → State → Result State StepFault
next_if due g limit v j s = cond due (flushed g limit v j s) (Ok s)

module _ {O S : Type 0} (rule_is : O → Rule) (is_broken : O → Bool) (stands : O → List Arrival → Type 0) (takes_pieces : O → Bool) (checks : S → Table → List Change → Type 0) where
  -- a session that handed out these items keeps what is needed of a state
  pub record Keeps (g : Network) (limit : ℕ) (session : Session O S) (handed : List PrintItem) (s : State) : Type 0 where
    pub laid : IsLaidOut session.wiring g limit
    pub nodes_are : session.operators.nodes ≡ g.count + 1
    pub width_is : session.operators.width ≡ g.subtasks
    pub carries : Carries session.traffic g limit handed s
    pub runs : AllRun rule_is is_broken stands takes_pieces g session.operators.width session.operators.items.items s.pieces s.bundle
    pub sources : AllCheck checks g session.sources.items s.taken
    pub outside : (v j : ℕ) → g.count < v → s.bundle v j ≡ []
    pub opens : StaysOpen g limit s

  -- a session whose subtask's bundle is due or not, and emitted this for it where it is, which isn't handed on yet
  pub record Pends (session : Session O S) (v j : ℕ) (sent : Option (List Change)) (due : Bool) (g : Network) (limit : ℕ) (handed : List PrintItem) (s : State) : Type 0 where
    pub laid : IsLaidOut session.wiring g limit
    pub nodes_are : session.operators.nodes ≡ g.count + 1
    pub width_is : session.operators.width ≡ g.subtasks
    pub carries : Carries session.traffic g limit handed s
    pub runs : AllHaveRun rule_is is_broken stands takes_pieces due g session.operators.width session.operators.items.items s.pieces s.bundle v j sent
    pub sources : AllCheck checks g session.sources.items s.taken
    pub outside : (w k : ℕ) → g.count < w → s.bundle w k ≡ []
    pub subtask : j < g.subtasks
    pub opens : (next : State) → next_if due g limit v j s ≡ Ok next → StaysOpen g limit next

  -- parts of a session that agree with the opening state
  pub record Opens (g : Network) (limit : ℕ) (operators : Operators O) (sources : List S) (traffic : Traffic) (wiring : Wiring) : Type 0 where
    pub laid : IsLaidOut wiring g limit
    pub nodes_are : operators.nodes ≡ g.count + 1
    pub width_is : operators.width ≡ g.subtasks
    pub carries : Carries traffic g limit [] (opened g)
    pub runs : AllRun rule_is is_broken stands takes_pieces g operators.width operators.items.items (λ v j. []) (λ v j. [])
    pub sources_are : AllCheck checks g sources (λ table. [])

  -- a session that handed out these printed items stands for a run of the network, a list of events and of quiet items
  pub record StandsFor (g : Network) (limit : ℕ) (session : Session O S) (handed : List PrintItem) (items : List Item) : Type 0 where
    pub typed : AreTyped g items
    pub keeps : Keeps g limit session handed (reached g limit items)

  -- a session stands for the empty run of each network whose opening state its parts agree with, and whose nodes meet their facts
  abbrev pub HasOpened : Operators O → List S → Traffic → Wiring → Session O S → Type 0
  HasOpened operators sources traffic wiring session = (g : Network) (limit : ℕ) → MeetsFacts g → Opens g limit operators sources traffic wiring → StandsFor g limit session [] []

  -- ---- what holds of some state that a session keeps, and of each

  abbrev pub KeepsSome : Session O S → Type 0
  KeepsSome session = (g : Network) × (limit : ℕ) × (handed : List PrintItem) × (s : State) × Keeps g limit session handed s

  abbrev pub ForKept : Session O S → (Network → ℕ → List PrintItem → State → Type 0) → Type 0
  ForKept session P = (g : Network) (limit : ℕ) (handed : List PrintItem) (s : State) → Keeps g limit session handed s → P g limit handed s

  -- what a subtask of a session emitted is to be handed on, in some state, and in each
  abbrev pub PendsSome : Session O S → ℕ → ℕ → Option (List Change) → Type 0
  PendsSome session v j sent = (due : Bool) × (g : Network) × (limit : ℕ) × (handed : List PrintItem) × (s : State) × Pends session v j sent due g limit handed s

  abbrev pub ForPending : Session O S → ℕ → ℕ → Option (List Change) → (Network → ℕ → List PrintItem → Result State StepFault → Type 0) → Type 0
  ForPending session v j sent P = (due : Bool) (g : Network) (limit : ℕ) (handed : List PrintItem) (s : State) → Pends session v j sent due g limit handed s → P g limit handed (next_if due g limit v j s)

  -- the same where an event comes whose change fits its table
  abbrev pub MayApply : Session O S → Event → Type 0
  MayApply session event = (g : Network) × (limit : ℕ) × (handed : List PrintItem) × (s : State) × Keeps g limit session handed s × IsTyped g (happens event)

  abbrev pub ForApplied : Session O S → Event → (Network → ℕ → List PrintItem → State → Type 0) → Type 0
  ForApplied session event P = (g : Network) (limit : ℕ) (handed : List PrintItem) (s : State) → Keeps g limit session handed s → IsTyped g (happens event) → P g limit handed s

  -- a session keeps the state that the machine answers
  abbrev pub KeepsAnswer : Result State StepFault → Session O S → Network → ℕ → List PrintItem → Type 0
  KeepsAnswer answer session g limit handed = (next : State) × (answer ≡ Ok next) × Keeps g limit session handed next

  -- a session keeps a state to which items lead
  abbrev pub KeepsAlong : List Item → Session O S → Network → ℕ → List PrintItem → State → Type 0
  KeepsAlong items session g limit handed s = (next : State) × Leads g limit s items next × Keeps g limit session handed next

  -- wherever a session keeps a state, another one keeps the state that the machine answers there
  abbrev pub KeepsNext : Session O S → (Network → ℕ → State → Result State StepFault) → Session O S → Type 0
  KeepsNext old next new = ForKept old (λ g limit handed s. KeepsAnswer (next g limit s) new g limit handed)

  -- the same where an event comes whose change fits its table
  abbrev pub KeepsApplied : Session O S → Event → (Network → ℕ → State → Result State StepFault) → Session O S → Type 0
  KeepsApplied old event next new = ForApplied old event (λ g limit handed s. KeepsAnswer (next g limit s) new g limit handed)

  -- the same where what a subtask emitted is handed on
  abbrev pub KeepsPending : Session O S → ℕ → ℕ → Option (List Change) → Session O S → Type 0
  KeepsPending old v j sent new = ForPending old v j sent (λ g limit handed next. KeepsAnswer next new g limit handed)

  -- another one keeps the state to which items lead from there
  abbrev pub KeepsBehind : Session O S → (Network → ℕ → State → List Item) → Session O S → Type 0
  KeepsBehind old items new = ForKept old (λ g limit handed s. KeepsAlong (items g limit s) new g limit handed s)

  -- the same of a stage whose channel is there, and of what stops along it
  abbrev pub KeepsBehindStage : Session O S → Stage → Session O S → Type 0
  KeepsBehindStage old stage new = ForKept old (λ g limit handed s. IsStageThere g stage → KeepsAlong (stage_items s (stage_of stage)) new g limit handed s)

  abbrev pub StopsAlongStage : Session O S → Stage → StepFault → List PrintItem → Type 0
  StopsAlongStage old stage fault printed = ForKept old (λ g limit handed s. IsStageThere g stage → StopsAlong g limit s (stage_items s (stage_of stage)) fault (handed ++ printed))

  -- ---- what holds of some run that a session stands for, and of each

  abbrev pub StandsForSome : Session O S → Type 0
  StandsForSome session = (g : Network) × (limit : ℕ) × (handed : List PrintItem) × (items : List Item) × StandsFor g limit session handed items

  abbrev pub ForRuns : Session O S → (Network → ℕ → List PrintItem → List Item → Type 0) → Type 0
  ForRuns session P = (g : Network) (limit : ℕ) (handed : List PrintItem) (items : List Item) → StandsFor g limit session handed items → P g limit handed items

  -- the same where an event comes whose change fits its table
  abbrev pub MayStep : Session O S → Event → Type 0
  MayStep session event = (g : Network) × (limit : ℕ) × (handed : List PrintItem) × (items : List Item) × StandsFor g limit session handed items × IsTyped g (happens event)

  abbrev pub ForSteps : Session O S → Event → (Network → ℕ → List PrintItem → List Item → Type 0) → Type 0
  ForSteps session event P = (g : Network) (limit : ℕ) (handed : List PrintItem) (items : List Item) → StandsFor g limit session handed items → IsTyped g (happens event) → P g limit handed items

  -- the machine makes the event, and the next session stands for the run with it
  abbrev pub HasStepped : Session O S → Event → Session O S → Type 0
  HasStepped session event next = ForSteps session event (λ g limit handed items. (now : State) × (step g limit (reached g limit items) event ≡ Ok now) × StandsFor g limit next handed (items ++ happens event ∷ []))

  -- the machine makes all of a drain, and the next session, which is quiet, stands for the run with it
  abbrev pub HasDrained : Session O S → Session O S → Type 0
  HasDrained session next = ForRuns session (λ g limit handed items. (now : State) × Leads g limit (reached g limit items) (drain g limit (reached g limit items)) now
      × StandsFor g limit next handed (items ++ drain g limit (reached g limit items)) × IsQuiet g now)

  -- the machine makes so many moves from a channel, and the next session stands for the run with them
  abbrev pub HasMoved : Session O S → Lane → ℕ → Session O S → Type 0
  HasMoved session lane count next = ForRuns session (λ g limit handed items. (now : State) × Leads g limit (reached g limit items) (moves lane.edge lane.from lane.to count) now
      × StandsFor g limit next handed (items ++ moves lane.edge lane.from lane.to count))

  -- it stops along them, by this fault and after these items, of which some were handed out before
  abbrev pub StopsMoving : Session O S → Lane → ℕ → StepFault → List PrintItem → Type 0
  StopsMoving session lane count fault printed = ForRuns session (λ g limit handed items. StopsAlong g limit (reached g limit items) (moves lane.edge lane.from lane.to count) fault (handed ++ printed))

  -- a drain of some such run has a stage of this number, from 0
  abbrev pub HasStage : Session O S → ℕ → Type 0
  HasStage session number = (g : Network) × (limit : ℕ) × (handed : List PrintItem) × (items : List Item) × StandsFor g limit session handed items × (number < length (stages g))

  -- the next session stands for the run at whose end the job is told to be quiet
  abbrev pub HasTold : Session O S → Session O S → Type 0
  HasTold session next = ForRuns session (λ g limit handed items. StandsFor g limit next handed (items ++ quiet ∷ []))

  -- the machine stops along a drain, by this fault and after these items, of which some were handed out before
  abbrev pub StopsDraining : Session O S → StepFault → List PrintItem → Type 0
  StopsDraining session fault printed = ForRuns session (λ g limit handed items. StopsAlong g limit (reached g limit items) (drain g limit (reached g limit items)) fault (handed ++ printed) × IsDrainFault fault)

abbrev pub buffer_in : Option ℕ → ℕ → Buffer
buffer_in None held = NoBuffer
buffer_in (Some size) held = Holds held

-- what a subtask keeps of a bundle
abbrev pub buffer_at : Network → State → ℕ → ℕ → Buffer
buffer_at g s v j = cond (is_place g v j) (buffer_in (g.bundle v) (length (s.bundle v j))) NoPlace
