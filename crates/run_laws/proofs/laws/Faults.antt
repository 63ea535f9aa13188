-- By what steps of the machine stop: never for want of memory, and the steps of an order's line that may begin only out of range or by the limit.
use Rattle.std.specs.Prelude.{◌≡◌, ℕ, ◌+◌, ◌≤◌, ◌==◌, ◌&&◌, nat_le, nat_lt, Bool, cond, Option, Result, List, ◌++◌, length}
use Rattle.std.proofs.Common.{zero, suc, true, false, [], ◌∷◌, refl, sym, ap, subst, ◌∙◌, arith, Some, None, Ok, Err, inl, inr}
use Rattle.std.specs.List.{filter}
use Rattle.std.proofs.lemmas.List.{length-append}
use Rattle.std.proofs.lemmas.Bool.{and_parts, eq-eqb, eqb-true, leb-true}
use Rattle.ct_value.specs.declared.codes.ChangeCode.{ChangeCode}
use Rattle.ct_value.specs.declared.codes.OrderCode.TheVariants.{NoSuchPlace, TooFew}
use Rattle.ct_change.specs.declared.change.Change.{Change}
use Rattle.ct_change.specs.Changelog.{fold}
use Rattle.op_rules.specs.Edges.{goes}
use Rattle.op_rules.specs.History.{Arrival, joined}
use Rattle.op_rules.specs.Rules.{Answer}
use Rattle.stream_model.specs.declared.events.Event.TheVariants.{Take, Move, Flush}
use Rattle.stream_model.specs.declared.events.StepFault.{StepFault}
use Rattle.stream_model.specs.declared.events.StepFault.TheVariants.{Change as Refused, Order, Range, Limit, Memory}
use Rattle.stream_model.specs.declared.events.PrintItem.{PrintItem}
use Rattle.stream_model.specs.Tables.{Table as Source, scanned_at, refusal}
use Rattle.stream_model.specs.Network.{Feed, Network}
use Rattle.stream_model.specs.Machine.{State, answered, flush_bundle, flush_held, flushed, folded, is_channel, is_place, joins, move, move_front, move_to, print, scan_count, scanned, send, size_of, take_of, take_unless}
use Rattle.stream_model.specs.Runs.{Item, happens, quiet, step_item}
use Rattle.stream_model.specs.Drain.{IsDrainFault, StopsAlong, StopsBy, moves}
use Rattle.stream_model.specs.Looks.{few_in_flight, flight_at, flush_refusal, move_refusal, no_bundle}

module _ (g : Network) (limit : ℕ) where
  -- ---- what a bundle's flush stops by

  -- no channel has fewer changes in flight
  abbrev NoFewer : State → State → Type 0
  NoFewer s t = (e i j : ℕ) → length (s.flight e i j) ≤ length (t.flight e i j)

  -- a step that takes nothing out of a channel goes on, or stops out of range or by the limit
  abbrev Flushes : State → Result State StepFault → Type 0
  Flushes s (Ok t) = NoFewer s t
  Flushes s (Err (Refused code)) = ⊥
  Flushes s (Err (Order code)) = ⊥
  Flushes s (Err (Range v j row types)) = Unit {0}
  Flushes s (Err Limit) = Unit {0}
  Flushes s (Err Memory) = ⊥

  sends_more : (v i : ℕ) (changes : List Change) (s : State) → NoFewer s (send g v i changes s)
  sends_more v i changes s e k j =
      elim ((e == v) && (k == i)) as (λ b. ((e == v) && (k == i)) ≡ b → length (s.flight e k j) ≤ length ((cond b (λ n. s.flight v i n ++ filter (λ change. goes (g.edge v) i n change.row) changes) (s.flight e k)) j)) [
        | true ↦ λ q.
            let p = and_parts _ _ q in
            let same : length (s.flight e k j) ≡ length (s.flight v i j) = ap (λ x. length (s.flight x k j)) (eqb-true e v p.0) ∙ ap (λ y. length (s.flight v y j)) (eqb-true k i p.1) in
            let more = length-append (s.flight v i j) (filter (λ change. goes (g.edge v) i j change.row) changes) in
            omega (arith, same, more)
        | false ↦ λ q. omega arith
      ] refl

  flushes_within : (b : Bool) (v j : ℕ) (changes : List Change) (s : State) → Flushes s (cond b (Ok (send g v j changes s)) (Err Limit))
  flushes_within true v j changes s = sends_more v j changes s
  flushes_within false v j changes s = tt

  flushes_on : (b c : Bool) (v j : ℕ) (changes : List Change) (s : State) → Flushes s (cond b (Ok (print v j changes s)) (cond c (Ok (send g v j changes s)) (Err Limit)))
  flushes_on true c v j changes s = λ e i k. omega arith
  flushes_on false c v j changes s = flushes_within c v j changes s

  flushes_answered : (v j : ℕ) (answer : Answer) (s : State) → Flushes s (answered g limit v j answer s)
  flushes_answered v j (Err row) s = tt
  flushes_answered v j (Ok changes) s = flushes_on (v == g.count) (nat_le (s.sends + length changes) limit) v j changes s

  from_folded : (s : State) (v j : ℕ) (r : Result State StepFault) → Flushes (folded v j s) r → Flushes s r
  from_folded s v j (Ok t) h = h
  from_folded s v j (Err (Refused code)) h = h
  from_folded s v j (Err (Order code)) h = h
  from_folded s v j (Err (Range w k row types)) h = tt
  from_folded s v j (Err Limit) h = tt
  from_folded s v j (Err Memory) h = h

  flushes_flushed : (s : State) (v j : ℕ) → Flushes s (flushed g limit v j s)
  flushes_flushed s v j = from_folded s v j (flushed g limit v j s) (flushes_answered v j (g.emits v (joined (s.pieces v j)) (s.bundle v j)) (folded v j s))

  flushes_full : (b : Bool) (s : State) (v j : ℕ) → Flushes s (cond b (flushed g limit v j s) (Ok s))
  flushes_full true s v j = flushes_flushed s v j
  flushes_full false s v j = λ e i k. omega arith

  flushes_front : (s : State) (e i j : ℕ) (feed : Feed) (change : Change) (rest : List Change) → Flushes (joins e i j feed change rest s) (move_front g limit s e i j feed (change ∷ rest))
  flushes_front s e i j feed change rest =
      let u = joins e i j feed change rest s in
      flushes_full (nat_le (size_of (g.bundle feed.node)) (length (u.bundle feed.node j))) u feed.node j

  flushes_held : (s : State) (v j : ℕ) (b : List Arrival) → Flushes s (flush_held g limit s v j b)
  flushes_held s v j [] = λ e i k. omega arith
  flushes_held s v j (a ∷ others) = flushes_flushed s v j

  -- ---- the machine never wants memory

  abbrev pub IsKnown : Result State StepFault → Type 0
  IsKnown (Err Memory) = ⊥
  IsKnown _ = Unit {0}

  known_flushes : (s : State) (r : Result State StepFault) → Flushes s r → IsKnown r
  known_flushes s (Ok t) h = tt
  known_flushes s (Err (Refused code)) h = tt
  known_flushes s (Err (Order code)) h = tt
  known_flushes s (Err (Range v j row types)) h = tt
  known_flushes s (Err Limit) h = tt
  known_flushes s (Err Memory) h = h

  known_front : (s : State) (e i j : ℕ) (feed : Feed) (changes : List Change) → IsKnown (move_front g limit s e i j feed changes)
  known_front s e i j feed [] = tt
  known_front s e i j feed (change ∷ rest) = known_flushes (joins e i j feed change rest s) (move_front g limit s e i j feed (change ∷ rest)) (flushes_front s e i j feed change rest)

  known_channel : (b : Bool) (s : State) (e i j : ℕ) (feed : Feed) → IsKnown (cond b (move_front g limit s e i j feed (s.flight e i j)) (Err (Order NoSuchPlace)))
  known_channel true s e i j feed = known_front s e i j feed (s.flight e i j)
  known_channel false s e i j feed = tt

  known_move : (s : State) (e i j : ℕ) (o : Option Feed) → IsKnown (move_to g limit s e i j o)
  known_move s e i j None = tt
  known_move s e i j (Some feed) = known_channel (is_channel g e i j) s e i j feed

  known_bundle : (s : State) (v j : ℕ) (o : Option ℕ) → IsKnown (flush_bundle g limit s v j o)
  known_bundle s v j None = tt
  known_bundle s v j (Some size) = known_flushes s (flush_held g limit s v j (s.bundle v j)) (flushes_held s v j (s.bundle v j))

  known_place : (b : Bool) (s : State) (v j : ℕ) → IsKnown (cond b (flush_bundle g limit s v j (g.bundle v)) (Err (Order NoSuchPlace)))
  known_place true s v j = known_bundle s v j (g.bundle v)
  known_place false s v j = tt

  known_within : (b : Bool) (t : State) → IsKnown (cond b (Ok t) (Err Limit))
  known_within true t = tt
  known_within false t = tt

  known_unless : (s : State) (table : ℕ) (change : Change) (i : ℕ) (o : Option ChangeCode) → IsKnown (take_unless g limit s table change i o)
  known_unless s table change i (Some code) = tt
  known_unless s table change i None = known_within (nat_lt s.took limit && nat_le (s.sends + scan_count g table) limit) (scanned g table i change s)

  known_take : (s : State) (table : ℕ) (change : Change) (o : Option Source) → IsKnown (take_of g limit s table change o)
  known_take s table change None = tt
  known_take s table change (Some t) = known_unless s table change (scanned_at t change) (refusal t (fold t.mode (s.taken table)) change)

  pub known_item : (s : State) (item : Item) → IsKnown (step_item g limit s item)
  known_item s quiet = tt
  known_item s (happens (Take table change)) = known_take s table change (g.tables table)
  known_item s (happens (Move e i j)) = known_move s e i j (g.fed e)
  known_item s (happens (Flush v j)) = known_place (is_place g v j) s v j

  -- ---- the steps of an order's line

  by_flushes : (s : State) (r : Result State StepFault) (cause : StepFault) → Flushes s r → StopsBy r cause → IsDrainFault cause
  by_flushes s r (Refused code) h e = subst (Flushes s) e h
  by_flushes s r (Order code) h e = subst (Flushes s) e h
  by_flushes s r (Range v j row types) h e = tt
  by_flushes s r Limit h e = tt
  by_flushes s r Memory h e = tt

  -- so many changes are in flight in a channel
  record MayMove (s : State) (e i j count : ℕ) : Type 0 where
    feed : Feed
    fed : g.fed e ≡ Some feed
    channel : is_channel g e i j ≡ true
    enough : count ≤ length (s.flight e i j)

  enough_is : (b : Bool) (count held : ℕ) → nat_le count held ≡ b → cond b None (Some (TooFew held)) ≡ None → count ≤ held
  enough_is true count held is e = leb-true count held is
  enough_is false count held is e = absurd (cc (e))

  may_through : (s : State) (e i j count : ℕ) (feed : Feed) (b : Bool) → g.fed e ≡ Some feed → is_channel g e i j ≡ b → few_in_flight (cond b (Some (length (s.flight e i j))) None) count ≡ None → MayMove s e i j count
  may_through s e i j count feed true fed is h = record { feed = feed; fed = fed; channel = is; enough = enough_is (nat_le count (length (s.flight e i j))) count (length (s.flight e i j)) refl h }
  may_through s e i j count feed false fed is h = absurd (cc (h))

  may_from : (s : State) (e i j count : ℕ) (o : Option Feed) → g.fed e ≡ o → few_in_flight (flight_at g s e i j o) count ≡ None → MayMove s e i j count
  may_from s e i j count None fed h = absurd (cc (h))
  may_from s e i j count (Some feed) fed h = may_through s e i j count feed (is_channel g e i j) fed refl h

  may_move : (s : State) (e i j count : ℕ) → move_refusal g s e i j count ≡ None → MayMove s e i j count
  may_move s e i j count h = may_from s e i j count (g.fed e) refl h

  -- a move takes the front of its channel
  move_is : (s : State) (e i j count : ℕ) → (may : MayMove s e i j count) → move g limit s e i j ≡ move_front g limit s e i j may.feed (s.flight e i j)
  move_is s e i j count may = ap (move_to g limit s e i j) may.fed ∙ ap (λ b. cond b (move_front g limit s e i j may.feed (s.flight e i j)) (Err (Order NoSuchPlace))) may.channel

  joins_here : (s : State) (e i j : ℕ) (feed : Feed) (change : Change) (rest : List Change) → (joins e i j feed change rest s).flight e i j ≡ rest
  joins_here s e i j feed change rest =
      ap (λ b. (cond (b && (i == i)) (λ k. cond (k == j) rest (s.flight e i k)) (s.flight e i)) j) (eq-eqb e e refl)
      ∙ ap (λ b. (cond b (λ k. cond (k == j) rest (s.flight e i k)) (s.flight e i)) j) (eq-eqb i i refl)
      ∙ ap (λ b. cond b rest (s.flight e i j)) (eq-eqb j j refl)

  module _ (e i j : ℕ) (cause : StepFault) (printed : List PrintItem) where
    abbrev Stopping : ℕ → State → Type 0
    Stopping n s = MayMove s e i j n → StopsAlong g limit s (moves e i j n) cause printed → IsDrainFault cause

    move_stops : (n : ℕ) (s : State) → ((t : State) → Stopping n t) → (may : MayMove s e i j (suc n)) → (changes : List Change) → s.flight e i j ≡ changes → StopsAlong g limit s (moves e i j (suc n)) cause printed → IsDrainFault cause
    move_stops n s later may [] is stop = absurd (let none = ap length is in let some = may.enough in omega (arith, none, some))
    move_stops n s later may (change ∷ rest) is (inl here) =
        by_flushes (joins e i j may.feed change rest s) (move g limit s e i j) cause
        (subst (Flushes (joins e i j may.feed change rest s)) (sym (move_is s e i j (suc n) may ∙ ap (move_front g limit s e i j may.feed) is)) (flushes_front s e i j may.feed change rest)) here.0
    move_stops n s later may (change ∷ rest) is (inr next) =
        let t = next.0 in
        let goes_on : NoFewer (joins e i j may.feed change rest s) t =
        subst (Flushes (joins e i j may.feed change rest s)) (sym (move_is s e i j (suc n) may ∙ ap (move_front g limit s e i j may.feed) is) ∙ next.1) (flushes_front s e i j may.feed change rest) in
        let left : length rest ≤ length (t.flight e i j) = subst (λ changes. length changes ≤ length (t.flight e i j)) (joins_here s e i j may.feed change rest) (goes_on e i j) in
        let many = ap length is in
        let some = may.enough in
        later t (record { feed = may.feed; fed = may.fed; channel = may.channel; enough = omega (arith, left, many, some) }) next.2

    moves_stop : (n : ℕ) (s : State) → Stopping n s
    moves_stop zero s may stop = absurd stop
    moves_stop (suc n) s may stop = move_stops n s (moves_stop n) may (s.flight e i j) refl stop

  -- moves that may begin stop only so
  pub order_moves_stop : (s : State) (e i j count : ℕ) → move_refusal g s e i j count ≡ None → (cause : StepFault) (printed : List PrintItem) → StopsAlong g limit s (moves e i j count) cause printed → IsDrainFault cause
  order_moves_stop s e i j count free cause printed stop = moves_stop e i j cause printed count s (may_move s e i j count free) stop

  bundle_stops : (s : State) (v j : ℕ) (o : Option ℕ) (cause : StepFault) → no_bundle o ≡ None → StopsBy (flush_bundle g limit s v j o) cause → IsDrainFault cause
  bundle_stops s v j None cause free stop = absurd (cc (free))
  bundle_stops s v j (Some size) cause free stop = by_flushes s (flush_held g limit s v j (s.bundle v j)) cause (flushes_held s v j (s.bundle v j)) stop

  place_stops : (b : Bool) (s : State) (v j : ℕ) (cause : StepFault) → cond b (no_bundle (g.bundle v)) (Some NoSuchPlace) ≡ None → StopsBy (cond b (flush_bundle g limit s v j (g.bundle v)) (Err (Order NoSuchPlace))) cause → IsDrainFault cause
  place_stops true s v j cause free stop = bundle_stops s v j (g.bundle v) cause free stop
  place_stops false s v j cause free stop = absurd (cc (free))

  -- so does a flush that may begin
  pub order_flush_stops : (s : State) (v j : ℕ) → flush_refusal g v j ≡ None → (cause : StepFault) (printed : List PrintItem) → StopsAlong g limit s (happens (Flush v j) ∷ []) cause printed → IsDrainFault cause
  order_flush_stops s v j free cause printed (inl here) = place_stops (is_place g v j) s v j cause free here.0
  order_flush_stops s v j free cause printed (inr next) = absurd next.2
