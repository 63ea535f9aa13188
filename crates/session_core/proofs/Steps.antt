-- A change moves, or is taken, or a bundle is flushed: the parts of the step joined.
use Rattle.std.proofs.Common.{◌≡◌, ℕ, ◌+◌, zero, suc, ◌<◌, ◌≤◌, nat_lt, nat_le, eqb, ◌&&◌, Bool, true, false, cond, List, [], ◌∷◌, ◌++◌, length, Option, Some, None, Result, Ok, Err, refl, sym, ap, subst, ◌∙◌, arith, inl, inr, slice_get, set}
use Rattle.std.proofs.lemmas.Bool.{and_parts, leb-true, ltb-true, cases_eq, eq-eqb, ne_eqb}
use Rattle.ct_value.specs.declared.codes.OrderCode.TheVariants.{NoSuchPlace, NoBuffer}
use Rattle.ct_value.specs.declared.codes.ChangeCode.{ChangeCode}
use Rattle.ct_change.specs.declared.change.Change.{Change}
use Rattle.ct_change.specs.Changelog.{fold}
use Rattle.op_rules.specs.History.{Arrival, arrival, joined}
use Rattle.stream_model.specs.declared.events.PrintItem.{PrintItem}
use Rattle.stream_model.specs.declared.events.StepFault.{StepFault}
use Rattle.stream_model.specs.declared.events.StepFault.TheVariants.{Change as Refused, Order, Range, Limit, Memory}
use Rattle.stream_model.specs.Tables.{Table, scanned_at, refusal}
use Rattle.stream_model.specs.Network.{Feed, Network, IsWired}
use Rattle.stream_model.specs.Machine.{State, put, consumed, joins, folded, answered, flushed, is_channel, has_channel, move, move_front, move_to, flush, flush_bundle, flush_held, is_place, take, take_of, take_unless, take_within}
use Rattle.stream_model.specs.Runs.{Item, step_item, IsTyped}
use Rattle.stream_model.specs.Drain.{StopsBy}
use Rattle.session_core.specs.declared.traffic.Traffic.{Traffic}
use Rattle.session_core.specs.Kept.{Carries, AllFit, fetched}
use Rattle.session_core.specs.LaidOut.{HasBundle}
use Rattle.session_subtasks.specs.Subtasks.{MayTake, holds_some, is_full}
use Rattle.session_core.specs.Runs.{IsOutAt}
use Rattle.session_core.specs.Sources.{ChecksIn, AllCheck, taken_after}
use Rattle.session_core.specs.Stands.{StaysOpen, next_if}
use Rattle.session_core.proofs.Running.{at_or_off}

-- ---- an edge and a channel that are there

pub record IsFed (g : Network) (e : ℕ) (feed : Feed) : Type 0 where
  pub ports : 0 < g.ports feed.node
  pub node : feed.node < g.count + 1

pub fed_there : (g : Network) → IsWired g → (e : ℕ) (feed : Feed) → g.fed e ≡ Some feed → IsFed g e feed
fed_there g wired e feed q =
    let p = wired.feeds_port e feed q in
    let some : 0 < g.ports feed.node = omega (arith, p.0) in
    let top = wired.counted feed.node some in
    record { ports = some; node = omega (arith, top) }

pub channel_there : (g : Network) (e i j : ℕ) → is_channel g e i j ≡ true → (i < g.subtasks) × (j < g.subtasks)
channel_there g e i j q =
    let a = and_parts (nat_lt i g.subtasks) (nat_lt j g.subtasks && has_channel (g.edge e).exchange i j) q in
    (ltb-true i g.subtasks a.0, ltb-true j g.subtasks (and_parts (nat_lt j g.subtasks) (has_channel (g.edge e).exchange i j) a.1).0)

-- ---- a subtask's bundle is folded, if it is due

-- a change joins its subtask's bundle, which is due where it is full
pub move_next : (g : Network) (limit : ℕ) (s : State) (e i j : ℕ) (feed : Feed) (change : Change) (rest : List Change) → g.fed e ≡ Some feed → is_channel g e i j ≡ true → s.flight e i j ≡ change ∷ rest
    → move g limit s e i j ≡ next_if (is_full g feed.node ((joins e i j feed change rest s).bundle feed.node j)) g limit feed.node j (joins e i j feed change rest s)
move_next g limit s e i j feed change rest fed channel front =
    ap (move_to g limit s e i j) fed
    ∙ (ap (λ b. cond b (move_front g limit s e i j feed (s.flight e i j)) (Err (Order NoSuchPlace))) channel
    ∙ ap (move_front g limit s e i j feed) front)

held_next : (g : Network) (limit : ℕ) (s : State) (v j : ℕ) (bundle : List Arrival) → flush_held g limit s v j bundle ≡ cond (holds_some bundle) (flushed g limit v j s) (Ok s)
held_next g limit s v j [] = refl
held_next g limit s v j (a ∷ others) = refl

-- a bundle that is flushed is due where it holds something
pub flush_next : (g : Network) (limit : ℕ) (s : State) (v j : ℕ) → HasBundle g v j → flush g limit s v j ≡ next_if (holds_some (s.bundle v j)) g limit v j s
flush_next g limit s v j has =
    ap (λ b. cond b (flush_bundle g limit s v j (g.bundle v)) (Err (Order NoSuchPlace))) has.place
    ∙ (ap (flush_bundle g limit s v j) has.bundled
    ∙ held_next g limit s v j (s.bundle v j))

pub joins_carries : (g : Network) (limit : ℕ) (s : State) (e i j : ℕ) (feed : Feed) (change : Change) (rest : List Change) (t : Traffic) (handed : List PrintItem) → Carries t g limit handed (fetched e i j rest s) → Carries t g limit handed (joins e i j feed change rest s)
joins_carries g limit s e i j feed change rest t handed kept = record {
  width = kept.width;
  edges = kept.edges;
  flight = kept.flight;
  sends = kept.sends;
  within = kept.within;
  took = kept.took;
  few = kept.few;
  counted = kept.counted;
  shares = kept.shares;
  printed = kept.printed;
}

pub folded_carries : (g : Network) (limit : ℕ) (s : State) (v j : ℕ) (t : Traffic) (handed : List PrintItem) → Carries t g limit handed s → Carries t g limit handed (folded v j s)
folded_carries g limit s v j t handed kept = record {
  width = kept.width;
  edges = kept.edges;
  flight = kept.flight;
  sends = kept.sends;
  within = kept.within;
  took = kept.took;
  few = kept.few;
  counted = kept.counted;
  shares = kept.shares;
  printed = kept.printed;
}

-- bundles changed at a node that is there
pub outside_put : (g : Network) (bundle : ℕ → ℕ → List Arrival) (v j : ℕ) (x : List Arrival) → v ≤ g.count → ((w k : ℕ) → g.count < w → bundle w k ≡ []) → (w k : ℕ) → g.count < w → put bundle v j x w k ≡ []
outside_put g bundle v j x there none w k above = elim (at_or_off w v k j) [
  | inl p ↦ absurd (omega (arith, p.0, there, above))
  | inr f ↦ rw f (none w k above)
]

-- the change at the front may be taken
pub may_take : (g : Network) (limit : ℕ) (s : State) (e i j : ℕ) (feed : Feed) (change : Change) (rest : List Change) → limit < 4294967296 → StaysOpen g limit s
    → g.fed e ≡ Some feed → is_channel g e i j ≡ true → s.flight e i j ≡ change ∷ rest → MayTake g feed.node j (consumed s feed.node j) (arrival feed.port i change)
may_take g limit s e i j feed change rest small opens fed channel front =
    let now = opens.safe [] tt s refl in
    let there = channel_there g e i j channel in
    let may = now.may e i j feed change rest fed there.0 there.1 front in
    record {
      ready = may.ready;
      few = let few = may.few in omega (arith, few, now.few, small);
    }

pub place_there : (g : Network) (v j : ℕ) → is_place g v j ≡ true → (v < g.count + 1) × (j < g.subtasks)
place_there g v j q =
    let a = and_parts (nat_lt 0 v) (nat_le v g.count && nat_lt j g.subtasks) q in
    let p = and_parts (nat_le v g.count) (nat_lt j g.subtasks) a.1 in
    (let l = leb-true v g.count p.0 in omega (arith, l), ltb-true j g.subtasks p.1)

-- a rule that is out of range stops the step
pub stops_out : (g : Network) (limit v j : ℕ) (due : Bool) (s : State) (next : Result State StepFault) (fault : StepFault) → next ≡ next_if due g limit v j s → IsOutAt g v j due (g.emits v (joined (s.pieces v j)) (s.bundle v j)) fault → StopsBy next fault
stops_out g limit v j due s next (Refused code) e out = absurd out
stops_out g limit v j due s next (Order code) e out = absurd out
stops_out g limit v j due s next (Range node subtask row types) e out =
    e ∙ (ap (λ b. cond b (flushed g limit v j s) (Ok s)) out.0 ∙ (ap (λ a. answered g limit v j a (folded v j s)) out.4 ∙ rw (out.1, out.2, out.3) refl))
stops_out g limit v j due s next Limit e out = absurd out
stops_out g limit v j due s next Memory e out = tt

-- what stops one also stops an equal one
pub stops_same : (x y : Result State StepFault) (fault : StepFault) → x ≡ y → StopsBy y fault → StopsBy x fault
stops_same x y fault e = subst (λ r. StopsBy r fault) (sym e)

-- what stays open does so after a step
pub open_after : (g : Network) (limit : ℕ) (s : State) (item : Item) (next : State) → step_item g limit s item ≡ Ok next → IsTyped g item → StaysOpen g limit s → StaysOpen g limit next
open_after g limit s item next e typed opens = record {
  safe = λ items all t leads. opens.safe (item ∷ items) (typed, all) t (next, e, leads);
  ready = λ items all t leads. opens.ready (item ∷ items) (typed, all) t (next, e, leads);
  fits = λ items all t leads. opens.fits (item ∷ items) (typed, all) t (next, e, leads);
}

-- ---- a take

module _ (g : Network) (limit : ℕ) (s : State) (number : ℕ) (change : Change) where
  pub take_unknown : g.tables number ≡ None → take g limit s number change ≡ Err (Order NoSuchPlace)
  take_unknown none = ap (take_of g limit s number change) none

  module _ (table : Table) (is : g.tables number ≡ Some table) where
    pub take_refused : (code : ChangeCode) → refusal table (fold table.mode (s.taken number)) change ≡ Some code → take g limit s number change ≡ Err (Refused code)
    take_refused code refused = ap (take_of g limit s number change) is ∙ ap (take_unless g limit s number change (scanned_at table change)) refused

    pub take_accepted : refusal table (fold table.mode (s.taken number)) change ≡ None → take g limit s number change ≡ take_within g limit s number change (scanned_at table change)
    take_accepted accepted = ap (take_of g limit s number change) is ∙ ap (take_unless g limit s number change (scanned_at table change)) accepted

-- ---- the checks of the sources

module _ {S : Type 0} (stands : S → Table → List Change → Type 0) where
  no_check : (table : Option Table) (taken : List Change) → ChecksIn stands None table taken → table ≡ None
  no_check None taken h = refl
  no_check (Some table) taken h = absurd h

  pub unknown_there : (g : Network) (sources : List S) (taken : ℕ → List Change) (number : ℕ) → AllCheck stands g sources taken → slice_get sources number ≡ None → g.tables number ≡ None
  unknown_there g sources taken number all none = no_check (g.tables number) (taken number) (subst (λ (x : Option S). ChecksIn stands x (g.tables number) (taken number)) none (all.at number))

  has_check : (source : S) (table : Option Table) (taken : List Change) → ChecksIn stands (Some source) table taken → (t : Table) × (table ≡ Some t) × stands source t taken
  has_check source None taken h = absurd h
  has_check source (Some table) taken h = (table, refl, h)

  pub check_there : (g : Network) (sources : List S) (taken : ℕ → List Change) (number : ℕ) (source : S) → AllCheck stands g sources taken → slice_get sources number ≡ Some source
      → (t : Table) × (g.tables number ≡ Some t) × stands source t (taken number)
  check_there g sources taken number source all there = has_check source (g.tables number) (taken number) (subst (λ (x : Option S). ChecksIn stands x (g.tables number) (taken number)) there (all.at number))

  get_set_here : (sources : List S) (n : ℕ) (x : S) → n < length sources → slice_get (set sources n x) n ≡ Some x
  get_set_here [] n x l = absurd (omega (arith, l))
  get_set_here (y ∷ sources) zero x l = refl
  get_set_here (y ∷ sources) (suc n) x l = get_set_here sources n x (omega (arith, l))

  get_set_there : (sources : List S) (n m : ℕ) (x : S) → (m ≡ n → ⊥) → slice_get (set sources n x) m ≡ slice_get sources m
  get_set_there [] n m x off = refl
  get_set_there (y ∷ sources) zero zero x off = absurd (off refl)
  get_set_there (y ∷ sources) zero (suc m) x off = refl
  get_set_there (y ∷ sources) (suc n) zero x off = refl
  get_set_there (y ∷ sources) (suc n) (suc m) x off = get_set_there sources n m x (λ e. off (ap suc e))

  -- one check took a change
  pub all_check_after : (g : Network) (sources : List S) (taken : ℕ → List Change) (number : ℕ) (change : Change) (table : Table) (source : S) → AllCheck stands g sources taken → g.tables number ≡ Some table → number < length sources
      → stands source table (taken number ++ change ∷ []) → AllCheck stands g (set sources number source) (taken_after taken number change)
  all_check_after g sources taken number change table source all is within now = record {
    at = λ n.
        elim (cases_eq n number) [
          | inl same ↦
              let here : eqb number number ≡ true = eq-eqb number number refl in
              subst (λ (m : ℕ). ChecksIn stands (slice_get (set sources number source) m) (g.tables m) (taken_after taken number change m)) (sym same)
              (subst (λ (x : Option S). ChecksIn stands x (g.tables number) (taken_after taken number change number)) (sym (get_set_here sources number source within))
              (subst (λ (t : Option Table). ChecksIn stands (Some source) t (taken_after taken number change number)) (sym is)
              (subst (λ (b : Bool). stands source table (cond b (taken number ++ change ∷ []) (taken number))) (sym here) now)))
          | inr other ↦
              let off : eqb n number ≡ false = ne_eqb n number other in
              subst (λ (b : Bool). ChecksIn stands (slice_get (set sources number source) n) (g.tables n) (cond b (taken n ++ change ∷ []) (taken n))) (sym off)
              (subst (λ (x : Option S). ChecksIn stands x (g.tables n) (taken n)) (sym (get_set_there sources number n source other)) (all.at n))
        ];
  }

-- ---- a flush

pub flush_nowhere : (g : Network) (limit : ℕ) (s : State) (v j : ℕ) → is_place g v j ≡ false → flush g limit s v j ≡ Err (Order NoSuchPlace)
flush_nowhere g limit s v j off = ap (λ b. cond b (flush_bundle g limit s v j (g.bundle v)) (Err (Order NoSuchPlace))) off

pub flush_unbundled : (g : Network) (limit : ℕ) (s : State) (v j : ℕ) → is_place g v j ≡ true → g.bundle v ≡ None → flush g limit s v j ≡ Err (Order NoBuffer)
flush_unbundled g limit s v j on none = ap (λ b. cond b (flush_bundle g limit s v j (g.bundle v)) (Err (Order NoSuchPlace))) on ∙ ap (flush_bundle g limit s v j) none

-- ---- what was sent fits after a step

pub fits_after : (g : Network) (limit : ℕ) (s : State) (item : Item) (next : Result State StepFault) → StaysOpen g limit s → step_item g limit s item ≡ next → IsTyped g item → (after : State) → next ≡ Ok after → AllFit g after
fits_after g limit s item next opens is typed after done = opens.fits (item ∷ []) (typed, tt) after (after, is ∙ done, refl)
