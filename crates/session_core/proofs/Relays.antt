-- A change leaves the front of a channel, is emitted as it came, and printed.
use Rattle.std.proofs.Common.{◌≡◌, ℕ, zero, suc, ◌+◌, ◌*◌, ◌<◌, Bool, true, List, [], ◌∷◌, ◌++◌, length, map, get_or, set, Option, Some, None, refl, sym, ap, subst, ◌∙◌, arith}
use Rattle.std.proofs.lemmas.List.{append_assoc, set-get_or}
use Rattle.ct_change.specs.declared.change.Change.{Change}
use Rattle.op_rules.specs.History.{Arrival, arrival}
use Rattle.op_rules.specs.Rules.{Rule}
use Rattle.stream_model.specs.declared.events.PrintItem.{PrintItem}
use Rattle.stream_model.specs.declared.events.PrintItem.TheVariants.{Change as Printed}
use Rattle.stream_model.specs.Network.{Network}
use Rattle.stream_model.specs.Machine.{State, is_channel, print}
use Rattle.session_channels.specs.declared.channels.Channels.{Channels}
use Rattle.session_channels.specs.Lanes.{IsTaken, flight_in}
use Rattle.session_subtasks.specs.declared.subtask.Subtask.{Subtask}
use Rattle.session_subtasks.specs.Subtasks.{is_full}
use Rattle.session_subtasks.proofs.laws.Alone.{relayed}
use Rattle.session_core.specs.LaidOut.{IsLaidOut, port_of}
use Rattle.session_core.specs.Kept.{Carries, Fetches, HasHandedOn, MayHandOn}
use Rattle.session_core.specs.Relay.{RelaysIn}
use Rattle.session_core.specs.Runs.{AllHaveRun, HasTakenIn, MayConsumeAt, bundle_after}
use Rattle.session_core.specs.declared.traffic.Traffic.{Traffic}
use Rattle.session_core.specs.declared.wiring.Feed.{Feed}
use Rattle.session_core.specs.declared.wiring.Wiring.{Wiring}
use Rattle.session_core.proofs.Flights.{carry_front, handed_print}
use Rattle.session_core.proofs.Slots.{consumed_in}
use Rattle.session_core.proofs.Wires.{channel_there, fed_there}

-- the front of a channel was taken
pub front_taken : (w : Wiring) (g : Network) (limit : ℕ) (handed : List PrintItem) (s : State) (old : Traffic) (new : Channels) (e i j : ℕ) (feed : Feed) (change : Change)
    → IsLaidOut w g limit → Carries old g limit handed s → g.fed e ≡ Some (port_of feed) → is_channel g e i j ≡ true
    → IsTaken (flight_in old.channels.width old.channels.lanes.items) (flight_in new.width new.lanes.items) e i j change
    → new.width ≡ old.channels.width → new.edges ≡ old.channels.edges → new.sent ≡ old.channels.sent → Fetches (record old { channels = new }) e i j feed change g limit handed s
front_taken w g limit handed s old new e i j feed change laid kept fed on some width edges sent =
    let there = channel_there g e i j on in
    let edge = (fed_there g laid.wired e (port_of feed) fed).edge in
    let rest = flight_in new.width new.lanes.items e i j in
    record {
      fed = fed;
      channel = on;
      rest = rest;
      front = sym (kept.flight.at e i j (omega (arith, edge, kept.edges)) (omega (arith, there.0, kept.width)) (omega (arith, there.1, kept.width))) ∙ some.0;
      carries = record {
        width = width ∙ kept.width;
        edges = edges ∙ kept.edges;
        flight = carry_front old.channels new s.flight e i j rest kept.flight edges width some.1;
        sends = sent ∙ kept.sends;
        within = kept.within;
        took = kept.took;
        few = kept.few;
        counted = kept.counted;
        shares = kept.shares;
        printed = kept.printed;
      };
    }

-- what the sink emitted was printed
pub printed_on : (w : Wiring) (t : Traffic) (v j : ℕ) (changes : List Change) (g : Network) (limit : ℕ) (handed : List PrintItem) (s : State) (new : List PrintItem)
    → MayHandOn w t v j changes g limit handed s → v ≡ g.count → new ≡ t.printed ++ map Printed changes → HasHandedOn (record t { printed = new }) v j changes g limit handed s
printed_on w t v j changes g limit handed s new may last is =
    let kept = may.carries in (
      print v j changes s,
      handed_print g limit v j changes s last,
      record { pieces = refl; bundle = refl; taken = refl },
      record {
        width = kept.width;
        edges = kept.edges;
        flight = kept.flight;
        sends = kept.sends;
        within = kept.within;
        took = kept.took;
        few = kept.few;
        counted = kept.counted;
        shares = kept.shares;
        printed = ap (λ (l : List PrintItem). l ++ map Printed changes) kept.printed
            ∙ (append_assoc handed t.printed (map Printed changes) ∙ ap (λ (l : List PrintItem). handed ++ l) (sym is));
      },
    )

module _ {O : Type 0} (rule_is : O → Rule) (is_broken : O → Bool) (stands : O → List Arrival → Type 0) (takes_pieces : O → Bool) where
  -- the place of such a subtask is there
  relays_within : (items : List (Option (Subtask O))) (p : ℕ) → RelaysIn rule_is stands (get_or items p None) → p < length items
  relays_within [] p r = absurd r
  relays_within (x ∷ items) zero r = omega arith
  relays_within (x ∷ items) (suc p) r = let l = relays_within items p r in omega (arith, l)

  relayed_in : (slot : Option (Subtask O)) (port : ℕ) (change : Change) → RelaysIn rule_is stands slot → HasTakenIn rule_is is_broken stands takes_pieces slot slot None port change (Some (change ∷ []))
  relayed_in None port change r = absurd r
  relayed_in (Some subtask) port change r = (
    subtask,
    refl,
    λ g v j history bundle from m.
        relayed rule_is is_broken stands takes_pieces subtask port change g v j history bundle from m
        (r.emits history (arrival port from change)) (r.stays history (arrival port from change) m.stands_as.runs.stands_for),
  )

  -- such a subtask took a change, and all are as they were
  pub relayed_at : (width : ℕ) (items : List (Option (Subtask O))) (v j port : ℕ) (change : Change) (g : Network) (pieces : ℕ → ℕ → List (List Arrival)) (bundle : ℕ → ℕ → List Arrival) (from : ℕ)
      → MayConsumeAt rule_is is_broken stands takes_pieces width items None v j port change g pieces bundle from → RelaysIn rule_is stands (get_or items (v * width + j) None) → j < width
      → AllHaveRun rule_is is_broken stands takes_pieces (is_full g v (bundle_after bundle v j (arrival port from change) v j)) g width items pieces (bundle_after bundle v j (arrival port from change)) v j (Some (change ∷ []))
  relayed_at width items v j port change g pieces bundle from m r lj =
      let p = v * width + j in
      let slot = get_or items p None in
      subst (λ (xs : List (Option (Subtask O))). AllHaveRun rule_is is_broken stands takes_pieces (is_full g v (bundle_after bundle v j (arrival port from change) v j)) g width xs pieces (bundle_after bundle v j (arrival port from change)) v j (Some (change ∷ [])))
      (set-get_or items p None)
      (consumed_in rule_is is_broken stands takes_pieces width items None v j port change g pieces bundle from p slot slot (Some (change ∷ [])) m (m.all.at v j m.there lj) lj refl (relays_within items p r) (relayed_in slot port change r))
