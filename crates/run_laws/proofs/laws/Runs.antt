-- A run over a sound plan that calculates nothing never stops by range.
use Rattle.std.specs.Prelude.{◌≡◌, ℕ, ◌≤◌, Result, List, ◌++◌}
use Rattle.std.proofs.Common.{[], ◌∷◌, refl, sym, subst, Ok, Err, append_assoc, append-nil}
use Rattle.std.specs.List.{AllByRecursion}
use Rattle.stream_model.specs.declared.events.StepFault.{StepFault}
use Rattle.stream_model.specs.declared.events.StepFault.TheVariants.{Range}
use Rattle.ct_change.specs.declared.change.Change.{Change}
use Rattle.op_rules.specs.History.{Arrival}
use Rattle.op_rules.specs.Ports.{ReadyArrives}
use Rattle.stream_model.specs.Network.{Network, IsWired, MeetsFacts}
use Rattle.stream_model.specs.Machine.{State, opened}
use Rattle.stream_model.specs.Runs.{Item, step_item, state_in, after, AreTyped}
use Rattle.stream_model.specs.Drain.{IsOpen, RunsAreSafe, RunsDrain}
use Rattle.plan_rules.specs.Doings.{network}
use Rattle.sound_plans.specs.Sound.{SoundPlansAreWired, SoundPlansMeetFacts, SoundPlansSuit, SoundPortsTake}
use Rattle.source_lines.specs.Fitting.{LinesFitColumns}
use Rattle.source_lines.proofs.laws.Along.{typed_both}
use Rattle.run_laws.specs.Runs.{RunsStayInRange}
use Rattle.run_laws.proofs.laws.Going.{Ends, IsDone, StopsAt, run_ends}
use Rattle.run_laws.proofs.laws.Nodes.{Comes, Sends, nodes_stay}
use Rattle.run_laws.proofs.laws.Standing.{after_one, move_short}
use Rattle.run_laws.proofs.laws.Steps.{IsHeld, InRange, StayInRange, TakesShort, opened_held, item_in_range}

module _ (g : Network) (wired : IsWired g) (meets : MeetsFacts g) (safe : RunsAreSafe) (limit : ℕ) (goes : ℕ → Change → Type 0) (arrives : ℕ → Arrival → Type 0) (stays : StayInRange g limit goes arrives) (starts : (opened g).sends ≤ limit) where
  abbrev Reaches : List Item → State
  Reaches = after g limit (opened g)

  abbrev Held : State → Type 0
  Held = IsHeld g limit goes arrives

  held_in : (s : State) (r : Result State StepFault) → Held s → InRange g limit goes arrives r → Held (state_in s r)
  held_in s (Ok t) held h = h
  held_in s (Err cause) held h = held

  is_open : (items : List Item) → AreTyped g items → IsOpen g limit (Reaches items)
  is_open items typed = safe g wired meets limit starts items typed [] tt (Reaches items) refl

  -- behind items that led to such a state, others do
  held_behind : (items before : List Item) → AreTyped g before → AreTyped g items → AllByRecursion TakesShort items → Held (Reaches before) → Held (Reaches (before ++ items))
  held_behind [] before typed all takes held = subst (λ x. Held (Reaches x)) (sym (append-nil before)) held
  held_behind (item ∷ items) before typed all takes held =
      let s = Reaches before in
      let next : Held (Reaches (before ++ item ∷ [])) =
      subst Held (sym (after_one g limit (opened g) before item))
      (held_in s (step_item g limit s item) held (item_in_range g limit goes arrives stays s item takes.0 (is_open before typed) held)) in
      subst (λ x. Held (Reaches x)) (append_assoc before (item ∷ []) items)
      (held_behind items (before ++ item ∷ []) (typed_both g before (item ∷ []) typed (all.0, tt)) all.1 takes.1 next)

  pub in_range_at : (s : State) (items : List Item) → AreTyped g items → AllByRecursion TakesShort items → Reaches items ≡ s → (item : Item) → TakesShort item → InRange g limit goes arrives (step_item g limit s item)
  in_range_at s items typed takes there item short =
      subst (λ t. InRange g limit goes arrives (step_item g limit t item)) there
      (item_in_range g limit goes arrives stays (Reaches items) item short (is_open items typed) (held_behind items [] tt typed takes (opened_held g limit goes arrives stays)))

-- ---- the law

pub runs_stay : LinesFitColumns → SoundPlansAreWired → SoundPlansMeetFacts → SoundPortsTake → SoundPlansSuit → ReadyArrives → RunsAreSafe → RunsDrain → RunsStayInRange
runs_stay fit wired meets take suit ready safe drains plan ruled tame limit small parts_small files orders node subtask row types p stops =
    let g = network plan in
    let ends = subst (Ends plan limit files (IsDone plan limit files)) stops (run_ends plan limit files fit drains orders) in
    let stop : StopsAt plan limit files (Range node subtask row types) p.state = ends.1.cause_is in
    let reached = ends.0.is_at.reached in
    let stays = nodes_stay plan tame limit small parts_small (wired plan ruled) (take plan ruled) ruled.rules (suit plan ruled) ready in
    subst (InRange g limit (Sends plan) (Comes plan)) stop.stops
    (in_range_at g (wired plan ruled) (meets plan ruled) safe limit (Sends plan) (Comes plan) stays stop.starts p.state reached.events reached.typed reached.short reached.there stop.item (move_short stop.item stop.moves))
