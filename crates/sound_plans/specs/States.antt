-- What holds in every state of every run over a sound plan, in however many subtasks it runs.
use Rattle.std.specs.Prelude.{◌≡◌, ℕ, ◌<◌, true, List}
use Rattle.std.specs.List.{AllByRecursion}
use Rattle.ct_value.specs.Rows.{project}
use Rattle.op_rules.specs.Edges.{goes, last_rows}
use Rattle.phys_plan.specs.declared.plan.Plan.{Plan}
use Rattle.plan_rules.specs.Doings.{network}
use Rattle.stream_model.specs.Machine.{State, opened}
use Rattle.stream_model.specs.Network.{Network, IsNode}
use Rattle.stream_model.specs.Runs.{Item, after, AreTyped}
use Rattle.stream_model.specs.Theorem.{Holds}
use Rattle.sound_plans.specs.Sound.{IsRuled}

-- over an edge that is read as the last row of each key, changes that agree on the key go through one channel: they come from one subtask and
-- go to one subtask
abbrev pub KeysKeepToChannels : Network → State → Type 0
KeysKeepToChannels g s = (v i j to others_to : ℕ) (key : List ℕ) → IsNode g v → i < g.subtasks → j < g.subtasks → (g.edge v).meaning ≡ last_rows key
    → AllByRecursion (λ change. AllByRecursion (λ other. project key change.row ≡ project key other.row → goes (g.edge v) i to change.row ≡ true → goes (g.edge v) j others_to other.row ≡ true → (i ≡ j) × (to ≡ others_to)) (s.sent v j)) (s.sent v i)

-- all that the composition theorem says, of every list of events, of which each that can't be changes nothing
pub record StateHolds (plan : Plan) (s : State) : Type 0 where
  pub holds : Holds (network plan) s
  pub channels : KeysKeepToChannels (network plan) s

abbrev pub SoundPlansHold : Type 0
SoundPlansHold = (plan : Plan) → IsRuled plan → (limit : ℕ) (items : List Item) → AreTyped (network plan) items → StateHolds plan (after (network plan) limit (opened (network plan)) items)
