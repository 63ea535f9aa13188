-- A run stops out of range at a step of the machine, in a state that it has reached.
use Rattle.std.specs.Prelude.{◌≡◌, ℕ, ◌+◌, ◌<◌, ◌==◌, ◌&&◌, nat_le, nat_lt, Bool, cond, Option, Result, List, ◌++◌, length}
use Rattle.std.proofs.Common.{true, false, [], ◌∷◌, refl, sym, ap, subst, ◌∙◌, Some, None, Ok, Err, append_assoc}
use Rattle.std.proofs.lemmas.Bool.{eq-eqb, and_parts, ltb-true}
use Rattle.ct_value.specs.declared.codes.ChangeCode.{ChangeCode}
use Rattle.ct_value.specs.declared.codes.OrderCode.TheVariants.{NoSuchPlace}
use Rattle.ct_change.specs.declared.change.Change.{Change}
use Rattle.ct_change.specs.Changelog.{fold}
use Rattle.op_rules.specs.History.{Arrival, arrival, joined}
use Rattle.op_rules.specs.Rules.{Answer}
use Rattle.op_rules.specs.Tasks.{IsReady}
use Rattle.stream_model.specs.declared.events.Event.TheVariants.{Take, Move, Flush}
use Rattle.stream_model.specs.declared.events.StepFault.{StepFault}
use Rattle.stream_model.specs.declared.events.StepFault.TheVariants.{Change as Refused, Order, Range, Limit, Memory}
use Rattle.stream_model.specs.Tables.{Table as Source, scanned_at, refusal}
use Rattle.stream_model.specs.Network.{Feed, Network, task}
use Rattle.stream_model.specs.Machine.{State, put, send, print, joins, folded, answered, flushed, size_of, is_channel, move_front, move_to, flush_held, flush_bundle, is_place, scan_count, scanned, take_unless, take_of}
use Rattle.stream_model.specs.Runs.{Item, happens, quiet, step_item}
use Rattle.stream_model.specs.Theorem.{Composes, Holds}
use Rattle.stream_model.specs.Drain.{RunsDrain}
use Rattle.plan_rules.specs.Doings.{network}
use Rattle.sound_plans.specs.Sound.{SoundPlansAreWired, SoundPlansMeetFacts}
use Rattle.source_lines.specs.Fitting.{LinesFitColumns}
use Rattle.run_laws.specs.Stops.{IsOutAt, RunsStopWhereOut}
use Rattle.run_laws.proofs.laws.Going.{Ends, IsDone, StopsAt, run_ends}

-- ---- steps

-- a stop out of range has its cause, any other is not spoken of
abbrev Causes : Network → StepFault → Type 0
Causes g (Refused code) = Unit {0}
Causes g (Order code) = Unit {0}
Causes g (Range node subtask row types) = (types ≡ g.range_types node) × IsOutAt g node subtask row
Causes g Limit = Unit {0}
Causes g Memory = Unit {0}

abbrev StopsIn : Network → Result State StepFault → Type 0
StopsIn g (Ok t) = Unit {0}
StopsIn g (Err cause) = Causes g cause

module _ (g : Network) (limit : ℕ) where
  within_stops : (b : Bool) (v j : ℕ) (changes : List Change) (s : State) → StopsIn g (cond b (Ok (send g v j changes s)) (Err Limit))
  within_stops true v j changes s = tt
  within_stops false v j changes s = tt

  hands_stop : (b : Bool) (v j : ℕ) (changes : List Change) (s : State) → StopsIn g (cond b (Ok (print v j changes s)) (cond (nat_le (s.sends + length changes) limit) (Ok (send g v j changes s)) (Err Limit)))
  hands_stop true v j changes s = tt
  hands_stop false v j changes s = within_stops (nat_le (s.sends + length changes) limit) v j changes s

  answers_stop : (v j : ℕ) (before piece : List Arrival) → IsReady (task g v) j (before ++ piece) → (answer : Answer) → g.emits v before piece ≡ answer → (s : State) → StopsIn g (answered g limit v j answer s)
  answers_stop v j before piece ready (Ok changes) is s = hands_stop (v == g.count) v j changes s
  answers_stop v j before piece ready (Err row) is s = (refl, record { before = before; piece = piece; ready = ready; out = is })

  flushes_stop : (s : State) (v j : ℕ) → IsReady (task g v) j (joined (s.pieces v j) ++ s.bundle v j) → StopsIn g (flushed g limit v j s)
  flushes_stop s v j ready = answers_stop v j (joined (s.pieces v j)) (s.bundle v j) ready (g.emits v (joined (s.pieces v j)) (s.bundle v j)) refl (folded v j s)

  full_stops : (b : Bool) (s : State) (v j : ℕ) → IsReady (task g v) j (joined (s.pieces v j) ++ s.bundle v j) → StopsIn g (cond b (flushed g limit v j s) (Ok s))
  full_stops true s v j ready = flushes_stop s v j ready
  full_stops false s v j ready = tt

  put_there : {A : Type 0} (f : ℕ → ℕ → A) (a b : ℕ) (x : A) → put f a b x a b ≡ x
  put_there f a b x = ap (λ t. cond (t && (b == b)) x (f a b)) (eq-eqb a a refl) ∙ ap (λ t. cond t x (f a b)) (eq-eqb b b refl)

  module _ (s : State) (holds : Holds g s) where
    front_stops : (e i j : ℕ) (feed : Feed) → g.fed e ≡ Some feed → i < g.subtasks → j < g.subtasks → (changes : List Change) → s.flight e i j ≡ changes → StopsIn g (move_front g limit s e i j feed changes)
    front_stops e i j feed fed low lower [] is = tt
    front_stops e i j feed fed low lower (change ∷ rest) is =
        let u = joins e i j feed change rest s in
        let a = arrival feed.port i change in
        let ready = (holds.fronts e i j feed change rest fed low lower is).ready in
        let joined_up = joined (s.pieces feed.node j) in
        let same : (joined_up ++ s.bundle feed.node j) ++ a ∷ [] ≡ joined_up ++ u.bundle feed.node j =
        append_assoc joined_up (s.bundle feed.node j) (a ∷ []) ∙ ap (λ b. joined_up ++ b) (sym (put_there s.bundle feed.node j (s.bundle feed.node j ++ a ∷ []))) in
        full_stops (nat_le (size_of (g.bundle feed.node)) (length (u.bundle feed.node j))) u feed.node j (subst (IsReady (task g feed.node) j) same ready)

    channel_stops : (b : Bool) (e i j : ℕ) (feed : Feed) → g.fed e ≡ Some feed → is_channel g e i j ≡ b → StopsIn g (cond b (move_front g limit s e i j feed (s.flight e i j)) (Err (Order NoSuchPlace)))
    channel_stops true e i j feed fed is =
        let a = and_parts _ _ is in
        let b = and_parts _ _ a.1 in
        front_stops e i j feed fed (ltb-true i g.subtasks a.0) (ltb-true j g.subtasks b.0) (s.flight e i j) refl
    channel_stops false e i j feed fed is = tt

    move_stops : (e i j : ℕ) (o : Option Feed) → g.fed e ≡ o → StopsIn g (move_to g limit s e i j o)
    move_stops e i j None fed = tt
    move_stops e i j (Some feed) fed = channel_stops (is_channel g e i j) e i j feed fed refl

    held_stops : (v j : ℕ) → j < g.subtasks → (b : List Arrival) → s.bundle v j ≡ b → StopsIn g (flush_held g limit s v j b)
    held_stops v j low [] is = tt
    held_stops v j low (a ∷ others) is = flushes_stop s v j (holds.ready v j low)

    bundle_stops : (v j : ℕ) → j < g.subtasks → (o : Option ℕ) → StopsIn g (flush_bundle g limit s v j o)
    bundle_stops v j low None = tt
    bundle_stops v j low (Some size) = held_stops v j low (s.bundle v j) refl

    place_stops : (b : Bool) (v j : ℕ) → is_place g v j ≡ b → StopsIn g (cond b (flush_bundle g limit s v j (g.bundle v)) (Err (Order NoSuchPlace)))
    place_stops true v j is = let a = and_parts _ _ is in let b = and_parts _ _ a.1 in bundle_stops v j (ltb-true j g.subtasks b.1) (g.bundle v)
    place_stops false v j is = tt

    scan_stops : (b : Bool) (table : ℕ) (change : Change) (i : ℕ) → StopsIn g (cond b (Ok (scanned g table i change s)) (Err Limit))
    scan_stops true table change i = tt
    scan_stops false table change i = tt

    unless_stops : (table : ℕ) (change : Change) (i : ℕ) (o : Option ChangeCode) → StopsIn g (take_unless g limit s table change i o)
    unless_stops table change i (Some code) = tt
    unless_stops table change i None = scan_stops (nat_lt s.took limit && nat_le (s.sends + scan_count g table) limit) table change i

    take_stops : (table : ℕ) (change : Change) (o : Option Source) → StopsIn g (take_of g limit s table change o)
    take_stops table change None = tt
    take_stops table change (Some t) = unless_stops table change (scanned_at t change) (refusal t (fold t.mode (s.taken table)) change)

    item_stops : (item : Item) → StopsIn g (step_item g limit s item)
    item_stops quiet = tt
    item_stops (happens (Take table change)) = take_stops table change (g.tables table)
    item_stops (happens (Move e i j)) = move_stops e i j (g.fed e) refl
    item_stops (happens (Flush v j)) = place_stops (is_place g v j) v j refl

-- ---- the law

pub stops_where_out : LinesFitColumns → SoundPlansAreWired → SoundPlansMeetFacts → Composes → RunsDrain → RunsStopWhereOut
stops_where_out fit wired meets composes drains plan ruled limit files orders node subtask row types p e =
    let g = network plan in
    let ends = subst (Ends plan limit files (IsDone plan limit files)) e (run_ends plan limit files fit drains orders) in
    let stop : StopsAt plan limit files (Range node subtask row types) p.state = ends.1.cause_is in
    let reached = ends.0.is_at.reached in
    let holds : Holds g p.state = subst (Holds g) reached.there (composes g (wired plan ruled) (meets plan ruled) limit reached.events reached.typed) in
    subst (StopsIn g) stop.stops (item_stops g limit p.state holds stop.item)
