-- What a session of a plan stands for: runs of the plan's own network.
use Rattle.std.specs.Prelude.{◌≡◌, ℕ, ◌<◌, List, [], ◌∷◌, ◌++◌, length, Ok}
use Rattle.phys_plan.specs.declared.plan.Plan.{Plan}
use Rattle.plan_rules.specs.Doings.{network}
use Rattle.sound_plans.specs.Sound.{IsRuled}
use Rattle.stream_model.specs.declared.events.Event.{Event}
use Rattle.stream_model.specs.declared.events.PrintItem.{PrintItem}
use Rattle.stream_model.specs.declared.events.StepFault.{StepFault}
use Rattle.stream_model.specs.Machine.{State, step, IsQuiet}
use Rattle.stream_model.specs.Runs.{Item, happens, quiet, IsTyped}
use Rattle.stream_model.specs.Drain.{Leads, StopsAlong, IsDrainFault, drain, moves, stages}
use Rattle.session_core.specs.declared.session.Session as of_any
use Rattle.session_core.specs.declared.wiring.Lane.{Lane}
use Rattle.session_core.specs.Stands as of_network
use Rattle.session_open.specs.declared.any.AnyOperator.{AnyOperator}
use Rattle.session_open.specs.contracts.any.AnyOperatorOperator.TheImpl.{ghosts}
use Rattle.session_open.specs.contracts.any.AnyOperatorPieceOperator.TheImpl.{ghosts as piece_ghosts}
use Rattle.exec_core.specs.declared.check.TableCheck.{TableCheck}
use Rattle.exec_core.specs.declared.session.Session.{Session}
use Rattle.exec_core.specs.Checked.{HasChecked}

-- the state to which a run of a plan leads
abbrev pub reached : Plan → ℕ → List Item → State
reached plan limit items = of_network.reached (network plan) limit items

-- a session over any network, of the operators and the tests of a plan
abbrev pub Job : Type 0
Job = of_any.Session AnyOperator TableCheck

-- such a job that handed out these items stands for this run of the plan's network, which sends at most so many changes
abbrev pub RunsBy : Job → Plan → ℕ → List PrintItem → List Item → Type 0
RunsBy job plan limit handed items = of_network.StandsFor ghosts.rule ghosts.broken ghosts.stands_for piece_ghosts.takes_pieces HasChecked (network plan) limit job handed items

-- the plan's operators have rules, and a session that handed out these items stands for this run
pub record Stands (session : Session) (plan : Plan) (limit : ℕ) (handed : List PrintItem) (items : List Item) : Type 0 where
  pub ruled : IsRuled plan
  pub stands_for : RunsBy session.job.value plan limit handed items

-- ---- what holds of some run that a session stands for, and of each

abbrev pub StandsForSome : Session → Type 0
StandsForSome session = (plan : Plan) × (limit : ℕ) × (handed : List PrintItem) × (items : List Item) × Stands session plan limit handed items

abbrev pub ForRuns : Session → (Plan → ℕ → List PrintItem → List Item → Type 0) → Type 0
ForRuns session P = (plan : Plan) (limit : ℕ) (handed : List PrintItem) (items : List Item) → Stands session plan limit handed items → P plan limit handed items

-- the same where an event comes whose change fits its table
abbrev pub MayStep : Session → Event → Type 0
MayStep session event = (plan : Plan) × (limit : ℕ) × (handed : List PrintItem) × (items : List Item) × Stands session plan limit handed items × IsTyped (network plan) (happens event)

abbrev pub ForSteps : Session → Event → (Plan → ℕ → List PrintItem → List Item → Type 0) → Type 0
ForSteps session event P = (plan : Plan) (limit : ℕ) (handed : List PrintItem) (items : List Item) → Stands session plan limit handed items → IsTyped (network plan) (happens event) → P plan limit handed items

-- the machine makes the event, and the next session stands for the run with it
abbrev pub HasStepped : Session → Event → Session → Type 0
HasStepped session event next = ForSteps session event (λ plan limit handed items. (now : State) × (step (network plan) limit (reached plan limit items) event ≡ Ok now) × Stands next plan limit handed (items ++ happens event ∷ []))

-- the machine makes all of a drain, and the next session, which is quiet, stands for the run with it
abbrev pub HasDrained : Session → Session → Type 0
HasDrained session next = ForRuns session (λ plan limit handed items. (now : State) × Leads (network plan) limit (reached plan limit items) (drain (network plan) limit (reached plan limit items)) now
    × Stands next plan limit handed (items ++ drain (network plan) limit (reached plan limit items)) × IsQuiet (network plan) now)

-- the machine makes so many moves from a channel, and the next session stands for the run with them
abbrev pub HasMoved : Session → Lane → ℕ → Session → Type 0
HasMoved session lane count next = ForRuns session (λ plan limit handed items. (now : State) × Leads (network plan) limit (reached plan limit items) (moves lane.edge lane.from lane.to count) now
    × Stands next plan limit handed (items ++ moves lane.edge lane.from lane.to count))

-- it stops along them, by this fault and after these items, of which some were handed out before
abbrev pub StopsMoving : Session → Lane → ℕ → StepFault → List PrintItem → Type 0
StopsMoving session lane count fault printed = ForRuns session (λ plan limit handed items. StopsAlong (network plan) limit (reached plan limit items) (moves lane.edge lane.from lane.to count) fault (handed ++ printed))

-- a drain of some such run has a stage of this number, from 0
abbrev pub HasStage : Session → ℕ → Type 0
HasStage session number = (plan : Plan) × (limit : ℕ) × (handed : List PrintItem) × (items : List Item) × Stands session plan limit handed items × (number < length (stages (network plan)))

-- the next session stands for the run at whose end the job is told to be quiet
abbrev pub HasTold : Session → Session → Type 0
HasTold session next = ForRuns session (λ plan limit handed items. Stands next plan limit handed (items ++ quiet ∷ []))

-- the machine stops along a drain, by this fault and after these items, of which some were handed out before
abbrev pub StopsDraining : Session → StepFault → List PrintItem → Type 0
StopsDraining session fault printed = ForRuns session (λ plan limit handed items. StopsAlong (network plan) limit (reached plan limit items) (drain (network plan) limit (reached plan limit items)) fault (handed ++ printed)
    × IsDrainFault fault)
