-- Runs are safe, and drain.
use Rattle.std.specs.Prelude.{◌≡◌, ℕ, ◌+◌, ◌<◌, ◌≤◌, ◌==◌, ◌&&◌, nat_le, nat_lt, Bool, cond, Option, Result, List, ◌++◌, length}
use Rattle.std.proofs.Common.{zero, suc, true, false, [], ◌∷◌, refl, sym, ap, subst, ◌∙◌, arith, inl, inr, ◌⊎◌, eqb, Some, None, Ok, Err}
use Rattle.std.specs.List.{AllByRecursion, filter}
use Rattle.std.proofs.lemmas.List.{append_assoc, length-append}
use Rattle.std.proofs.lemmas.Bool.{cases_Bool, eqb-true, eq-eqb, ne_eqb, cases_eq, and_parts, and_from, leb-true, lt-ltb, le-leb, false≢true}
use Rattle.ct_change.specs.declared.change.Change.{Change}
use Rattle.ct_change.specs.Changelog.{fold}
use Rattle.ct_value.specs.declared.codes.ChangeCode.{ChangeCode}
use Rattle.ct_value.specs.declared.codes.OrderCode.TheVariants.{NoSuchPlace}
use Rattle.op_rules.specs.History.{Arrival, arrival, joined}
use Rattle.op_rules.specs.Rules.{Answer}
use Rattle.op_rules.specs.Edges.{Exchange, forward, hash, goes_by}
use Rattle.stream_model.specs.declared.events.Event.TheVariants.{Take, Move, Flush}
use Rattle.stream_model.specs.declared.events.StepFault.{StepFault}
use Rattle.stream_model.specs.declared.events.StepFault.TheVariants.{Change as Refused, Order, Range, Limit, Memory}
use Rattle.stream_model.specs.declared.events.PrintItem.{PrintItem}
use Rattle.stream_model.specs.Tables.{Table, scanned_at, refusal}
use Rattle.stream_model.specs.Network.{Feed, Network, IsWired}
use Rattle.stream_model.specs.Machine.{State, put, opened, send, print, joins, folded, answered, flushed, size_of, flushed_if_full, has_channel, is_channel, move_front, move_to, flush_held, flush_bundle, is_place, flush, scan_count, scanned, take_unless, take_of, step, IsQuiet}
use Rattle.stream_model.specs.Runs.{Item, happens, quiet, told_quiet, step_item, state_in, after, AreTyped}
use Rattle.stream_model.specs.Theorem.{Holds}
use Rattle.stream_model.specs.Drain.{Leads, StopsBy, StopsAlong, Stage, delivers, flushes, moves, stage_items, drain_stages, channels_to, channels_from, feeds_node, channels_into, bundles_from, bundles_at, stages_from, stages, IsDrainFault, RunsAreSafe, RunsDrain}
use Rattle.stream_model.proofs.Steps.{put_cases, put_here, put_there, HangsTogether, hangs_opened, hangs_after}
use Rattle.stream_model.proofs.Theorem.{composes}

module _ (g : Network) (limit : ℕ) where
  -- ---- runs

  after-append : (s : State) (xs ys : List Item) → after g limit s (xs ++ ys) ≡ after g limit (after g limit s xs) ys
  after-append s [] ys = refl
  after-append s (x ∷ xs) ys = after-append (state_in s (step_item g limit s x)) xs ys

  leads_after : (s : State) (items : List Item) (t : State) → Leads g limit s items t → after g limit s items ≡ t
  leads_after s [] t e = e
  leads_after s (item ∷ items) t h = ap (λ r. after g limit (state_in s r) items) h.1 ∙ leads_after h.0 items t h.2

  leads_split : (s : State) (xs ys : List Item) (t : State) → Leads g limit s (xs ++ ys) t → (u : State) × Leads g limit s xs u × Leads g limit u ys t
  leads_split s [] ys t h = (s, refl, h)
  leads_split s (x ∷ xs) ys t h = let rest = leads_split h.0 xs ys t h.2 in (rest.0, (h.0, h.1, rest.1), rest.2)

  stops_split : (s : State) (xs ys : List Item) (fault : StepFault) (printed : List PrintItem) → StopsAlong g limit s (xs ++ ys) fault printed → StopsAlong g limit s xs fault printed ⊎ ((u : State) × Leads g limit s xs u × StopsAlong g limit u ys fault printed)
  stops_split s [] ys fault printed h = inr (s, refl, h)
  stops_split s (x ∷ xs) ys fault printed (inl here) = inl (inl here)
  stops_split s (x ∷ xs) ys fault printed (inr later) =
      elim (stops_split later.0 xs ys fault printed later.2) [
        | inl a ↦ inl (inr (later.0, later.1, a))
        | inr b ↦ inr (b.0, (later.0, later.1, b.1), b.2)
      ]

  -- ---- no more than the limit is sent

  abbrev IsWithin : Result State StepFault → Type 0
  IsWithin (Ok t) = t.sends ≤ limit
  IsWithin (Err fault) = Unit {0}

  within_flushed : (s : State) (v j : ℕ) → s.sends ≤ limit → IsWithin (flushed g limit v j s)
  within_flushed s v j l = go (g.emits v (joined (s.pieces v j)) (s.bundle v j))
    where
      go : (a : Answer) → IsWithin (answered g limit v j a (folded v j s))
      go (Err row) = tt
      go (Ok cs) = elim (v == g.count) as (λ b. IsWithin (cond b (Ok (print v j cs (folded v j s))) (cond (nat_le (s.sends + length cs) limit) (Ok (send g v j cs (folded v j s))) (Err Limit)))) [
        | true ↦ l
        | false ↦ elim (nat_le (s.sends + length cs) limit) as (λ b. nat_le (s.sends + length cs) limit ≡ b → IsWithin (cond b (Ok (send g v j cs (folded v j s))) (Err Limit))) [
          | true ↦ λ e. leb-true (s.sends + length cs) limit e
          | false ↦ λ e. tt
        ] refl
      ]

  within_move : (s : State) (e i j : ℕ) → s.sends ≤ limit → (o : Option Feed) → IsWithin (move_to g limit s e i j o)
  within_move s e i j l None = tt
  within_move s e i j l (Some feed) =
      elim (is_channel g e i j) as (λ b. IsWithin (cond b (move_front g limit s e i j feed (s.flight e i j)) (Err (Order NoSuchPlace)))) [ true ↦ front (s.flight e i j) | false ↦ tt ]
    where
      front : (l : List Change) → IsWithin (move_front g limit s e i j feed l)
      front [] = tt
      front (c ∷ rest) =
          elim (nat_le (size_of (g.bundle feed.node)) (length ((joins e i j feed c rest s).bundle feed.node j))) as (λ b. IsWithin (cond b (flushed g limit feed.node j (joins e i j feed c rest s)) (Ok (joins e i j feed c rest s)))) [
            | true ↦ within_flushed (joins e i j feed c rest s) feed.node j l
            | false ↦ l
          ]

  within_take : (s : State) (table : ℕ) (change : Change) → s.sends ≤ limit → (o : Option Table) → IsWithin (take_of g limit s table change o)
  within_take s table change l None = tt
  within_take s table change l (Some t) = go (refusal t (fold t.mode (s.taken table)) change)
    where
      go : (r : Option ChangeCode) → IsWithin (take_unless g limit s table change (scanned_at t change) r)
      go (Some code) = tt
      go None =
          elim (nat_lt s.took limit && nat_le (s.sends + scan_count g table) limit) as (λ b. (nat_lt s.took limit && nat_le (s.sends + scan_count g table) limit) ≡ b → IsWithin (cond b (Ok (scanned g table (scanned_at t change) change s)) (Err Limit))) [
            | true ↦ λ e. leb-true (s.sends + scan_count g table) limit (and_parts _ _ e).1
            | false ↦ λ e. tt
          ] refl

  within_flush : (s : State) (v j : ℕ) → s.sends ≤ limit → IsWithin (flush g limit s v j)
  within_flush s v j l = elim (is_place g v j) as (λ b. IsWithin (cond b (flush_bundle g limit s v j (g.bundle v)) (Err (Order NoSuchPlace)))) [ true ↦ at (g.bundle v) | false ↦ tt ]
    where
      held : (b : List Arrival) → IsWithin (flush_held g limit s v j b)
      held [] = l
      held (a ∷ others) = within_flushed s v j l

      at : (o : Option ℕ) → IsWithin (flush_bundle g limit s v j o)
      at None = tt
      at (Some size) = held (s.bundle v j)

  within_item : (s : State) (item : Item) → s.sends ≤ limit → IsWithin (step_item g limit s item)
  within_item s quiet l = l
  within_item s (happens (Take table change)) l = within_take s table change l (g.tables table)
  within_item s (happens (Move e i j)) l = within_move s e i j l (g.fed e)
  within_item s (happens (Flush v j)) l = within_flush s v j l

  within_in : (s : State) (r : Result State StepFault) → s.sends ≤ limit → IsWithin r → (state_in s r).sends ≤ limit
  within_in s (Err fault) l w = l
  within_in s (Ok later) l w = w

  within_after : (s : State) (items : List Item) → s.sends ≤ limit → (after g limit s items).sends ≤ limit
  within_after s [] l = l
  within_after s (item ∷ items) l = within_after (state_in s (step_item g limit s item)) items (within_in s (step_item g limit s item) l (within_item s item l))

typed-append : (g : Network) (xs ys : List Item) → AreTyped g xs → AreTyped g ys → AreTyped g (xs ++ ys)
typed-append g [] ys a b = b
typed-append g (x ∷ xs) ys a b = (a.0, typed-append g xs ys a.1 b)

pub runs_are_safe : RunsAreSafe
runs_are_safe g wired facts limit few items typed more typed_more t leads =
    let all : after g limit (opened g) (items ++ more) ≡ t = after-append g limit (opened g) items more ∙ leads_after g limit (after g limit (opened g) items) more t leads in
    let h : Holds g t = subst (Holds g) all (composes g wired facts limit (items ++ more) (typed-append g items more typed typed_more)) in
    record {
      may = λ e i j feed change rest fed il jl at. h.fronts e i j feed change rest fed il jl at;
      few = subst (λ (u : State). u.sends ≤ limit) all (within_after g limit (opened g) (items ++ more) few);
    }

-- ---- the drain

ok_is : (a b : State) → (let r : Result State StepFault = Ok a in r ≡ Ok b) → a ≡ b
ok_is a b e = cc

not_ok : (f : StepFault) (b : State) → (let r : Result State StepFault = Err f in r ≡ Ok b) → ⊥
not_ok f b e = cc

-- a fault of a drain
abbrev OnlyDrains : Result State StepFault → Type 0
OnlyDrains (Ok t) = Unit {0}
OnlyDrains (Err fault) = IsDrainFault fault

stops_is : (r : Result State StepFault) (fault : StepFault) → OnlyDrains r → StopsBy r fault → IsDrainFault fault
stops_is r (Refused code) o e = subst OnlyDrains e o
stops_is r (Order code) o e = subst OnlyDrains e o
stops_is r (Range v j row types) o e = tt
stops_is r Limit o e = tt
stops_is r Memory o e = tt

nothing_left : {A : Type 0} (l : List A) → length l ≡ 0 → l ≡ []
nothing_left [] e = refl
nothing_left (x ∷ l) e = absurd (omega arith)

back_empty : {A : Type 0} (a b : List A) → a ++ b ≡ [] → b ≡ []
back_empty a b e = nothing_left b (let n = length-append a b in let z : length (a ++ b) ≡ 0 = ap length e in omega arith)

module _ (g : Network) (wired : IsWired g) (limit : ℕ) where
  -- what a flush changes: the edge of its node, and its bundle
  pub record AfterFlush (s : State) (v j : ℕ) (u : State) : Type 0 where
    pub flight : (e i k : ℕ) → (e ≡ v → ⊥) → u.flight e i k ≡ s.flight e i k
    pub bundle : (w k : ℕ) → u.bundle w k ≡ put s.bundle v j [] w k

  after_flush : (s : State) (v j : ℕ) (u : State) → flushed g limit v j s ≡ Ok u → AfterFlush s v j u
  after_flush s v j u = go (g.emits v (joined (s.pieces v j)) (s.bundle v j))
    where
      go : (a : Answer) → answered g limit v j a (folded v j s) ≡ Ok u → AfterFlush s v j u
      go (Err row) q = absurd (not_ok (Range v j row (g.range_types v)) u q)
      go (Ok cs) q =
          elim (v == g.count) as (λ b. cond b (Ok (print v j cs (folded v j s))) (cond (nat_le (s.sends + length cs) limit) (Ok (send g v j cs (folded v j s))) (Err Limit)) ≡ Ok u → AfterFlush s v j u) [
            | true ↦ λ q. subst (AfterFlush s v j) (ok_is (print v j cs (folded v j s)) u q) (record { flight = λ e i k d. refl; bundle = λ w k. refl })
            | false ↦ elim (nat_le (s.sends + length cs) limit) as (λ b. cond b (Ok (send g v j cs (folded v j s))) (Err Limit) ≡ Ok u → AfterFlush s v j u) [
              | true ↦ λ q. subst (AfterFlush s v j) (ok_is (send g v j cs (folded v j s)) u q)
                  (record { flight = λ e i k d. ap (λ f. f k) (put_there s.flight v j _ e i (λ z. d z.0)); bundle = λ w k. refl })
              | false ↦ λ q. absurd (not_ok Limit u q)
            ]
          ] q

  flush_faults : (s : State) (v j : ℕ) → OnlyDrains (flushed g limit v j s)
  flush_faults s v j = go (g.emits v (joined (s.pieces v j)) (s.bundle v j))
    where
      go : (a : Answer) → OnlyDrains (answered g limit v j a (folded v j s))
      go (Err row) = tt
      go (Ok cs) =
          elim (v == g.count) as (λ b. OnlyDrains (cond b (Ok (print v j cs (folded v j s))) (cond (nat_le (s.sends + length cs) limit) (Ok (send g v j cs (folded v j s))) (Err Limit)))) [
            | true ↦ tt
            | false ↦ elim (nat_le (s.sends + length cs) limit) as (λ b. OnlyDrains (cond b (Ok (send g v j cs (folded v j s))) (Err Limit))) [ true ↦ tt | false ↦ tt ]
          ]

  -- what a move changes: the front of its channel, the edge of its consumer, and its consumer's bundle
  pub record AfterMove (s : State) (e i j : ℕ) (feed : Feed) (rest : List Change) (u : State) : Type 0 where
    pub here : u.flight e i j ≡ rest
    pub flight : (d k n : ℕ) → (d ≡ feed.node → ⊥) → ((d ≡ e) × (k ≡ i) × (n ≡ j) → ⊥) → u.flight d k n ≡ s.flight d k n
    pub bundle : (w k : ℕ) → (w ≡ feed.node → ⊥) → u.bundle w k ≡ s.bundle w k
    -- without bundles all is folded
    pub folded_all : g.bundle feed.node ≡ None → (k : ℕ) → (s.bundle feed.node k ≡ []) → u.bundle feed.node k ≡ []

  edge_before : (e : ℕ) (feed : Feed) → g.fed e ≡ Some feed → e < feed.node
  edge_before e feed fed = let p = wired.feeds_port e feed fed in subst (λ n. n < feed.node) p.1 (wired.below feed.node feed.port p.0)

  joins_here : (s : State) (e i j : ℕ) (feed : Feed) (c : Change) (rest : List Change) → (joins e i j feed c rest s).flight e i j ≡ rest
  joins_here s e i j feed c rest =
      ap (λ f. f j) (put_here s.flight e i (λ k. cond (k == j) rest (s.flight e i k)))
      ∙ (let q : eqb j j ≡ true = eq-eqb j j refl in rw q refl)

  joins_there : (s : State) (e i j : ℕ) (feed : Feed) (c : Change) (rest : List Change) (d k n : ℕ) → ((d ≡ e) × (k ≡ i) × (n ≡ j) → ⊥) → (joins e i j feed c rest s).flight d k n ≡ s.flight d k n
  joins_there s e i j feed c rest d k n apart =
      elim (put_cases d e k i) [
        | inr z ↦ rw z refl
        | inl z ↦
            let aside : n ≡ j → ⊥ = λ q. apart (z.0, z.1, q) in
            rw (z.0, z.1) (ap (λ f. f n) (put_here s.flight e i (λ k. cond (k == j) rest (s.flight e i k))) ∙ (let q : eqb n j ≡ false = ne_eqb n j aside in rw q refl))
      ]

  after_move : (s : State) (e i j : ℕ) (feed : Feed) (c : Change) (rest : List Change) (u : State) → g.fed e ≡ Some feed → flushed_if_full g limit feed.node j (joins e i j feed c rest s) ≡ Ok u → AfterMove s e i j feed rest u
  after_move s e i j feed c rest u fed =
      elim (nat_le (size_of (g.bundle feed.node)) (length ((joins e i j feed c rest s).bundle feed.node j))) as (λ b. nat_le (size_of (g.bundle feed.node)) (length ((joins e i j feed c rest s).bundle feed.node j)) ≡ b → cond b (flushed g limit feed.node j (joins e i j feed c rest s)) (Ok (joins e i j feed c rest s)) ≡ Ok u → AfterMove s e i j feed rest u) [
        | true ↦ λ full q. let a = after_flush (joins e i j feed c rest s) feed.node j u q in record {
          here = a.flight e i j before ∙ joins_here s e i j feed c rest;
          flight = λ d k n away apart. a.flight d k n away ∙ joins_there s e i j feed c rest d k n apart;
          bundle = λ w k away. a.bundle w k ∙ (put_there (joins e i j feed c rest s).bundle feed.node j [] w k (λ z. away z.0) ∙ put_there s.bundle feed.node j _ w k (λ z. away z.0));
          folded_all = λ none k empty. a.bundle feed.node k ∙ emptied k empty;
        }
        | false ↦ λ full q. subst (AfterMove s e i j feed rest) (ok_is (joins e i j feed c rest s) u q) (record {
          here = joins_here s e i j feed c rest;
          flight = λ d k n away apart. joins_there s e i j feed c rest d k n apart;
          bundle = λ w k away. put_there s.bundle feed.node j _ w k (λ z. away z.0);
          folded_all = λ none k empty. absurd (not_full none full);
        })
      ] refl
    where
      before : e ≡ feed.node → ⊥
      before q = let l = edge_before e feed fed in omega arith

      emptied : (k : ℕ) → s.bundle feed.node k ≡ [] → put (joins e i j feed c rest s).bundle feed.node j [] feed.node k ≡ []
      emptied k empty =
          elim (cases_eq k j) [
            | inl q ↦ rw q (put_here (joins e i j feed c rest s).bundle feed.node j [])
            | inr d ↦ put_there (joins e i j feed c rest s).bundle feed.node j [] feed.node k (λ z. d z.1) ∙ (put_there s.bundle feed.node j _ feed.node k (λ z. d z.1) ∙ empty)
          ]

      not_full : g.bundle feed.node ≡ None → nat_le (size_of (g.bundle feed.node)) (length ((joins e i j feed c rest s).bundle feed.node j)) ≡ false → ⊥
      not_full none full =
          let held : (joins e i j feed c rest s).bundle feed.node j ≡ s.bundle feed.node j ++ arrival feed.port i c ∷ [] = put_here s.bundle feed.node j _ in
          let long = ap length held ∙ length-append (s.bundle feed.node j) (arrival feed.port i c ∷ []) in
          let small : nat_le 1 (length ((joins e i j feed c rest s).bundle feed.node j)) ≡ false = subst (λ o. nat_le (size_of o) (length ((joins e i j feed c rest s).bundle feed.node j)) ≡ false) none full in
          false≢true (sym small ∙ le-leb 1 (length ((joins e i j feed c rest s).bundle feed.node j)) (omega arith))

  move_faults : (s : State) (e i j : ℕ) (feed : Feed) (c : Change) (rest : List Change) → OnlyDrains (flushed_if_full g limit feed.node j (joins e i j feed c rest s))
  move_faults s e i j feed c rest =
      elim (nat_le (size_of (g.bundle feed.node)) (length ((joins e i j feed c rest s).bundle feed.node j))) as (λ b. OnlyDrains (cond b (flushed g limit feed.node j (joins e i j feed c rest s)) (Ok (joins e i j feed c rest s)))) [ true ↦ flush_faults (joins e i j feed c rest s) feed.node j | false ↦ tt ]

  -- the step of a move from a channel that exists
  move_is : (s : State) (e i j : ℕ) (feed : Feed) → g.fed e ≡ Some feed → is_channel g e i j ≡ true → step g limit s (Move e i j) ≡ move_front g limit s e i j feed (s.flight e i j)
  move_is s e i j feed fed channel = ap (move_to g limit s e i j) fed ∙ ap (λ b. cond b (move_front g limit s e i j feed (s.flight e i j)) (Err (Order NoSuchPlace))) channel

  -- ---- stages

  abbrev rank_of : Option Feed → ℕ
  rank_of None = 0
  rank_of (Some feed) = feed.node + feed.node

  abbrev rank : Stage → ℕ
  rank (delivers e i j) = rank_of (g.fed e)
  rank (flushes v j) = suc (v + v)

  abbrev IsStage : Stage → Type 0
  IsStage (delivers e i j) = (feed : Feed) × (g.fed e ≡ Some feed) × (is_channel g e i j ≡ true)
  IsStage (flushes v j) = (size : ℕ) × (g.bundle v ≡ Some size) × (is_place g v j ≡ true)

  abbrev IsCleared : State → Stage → Type 0
  IsCleared s (delivers e i j) = s.flight e i j ≡ []
  IsCleared s (flushes v j) = s.bundle v j ≡ []

  abbrev Keeps : State → ℕ → State → Type 0
  Keeps s n u = (stage : Stage) → IsStage stage → rank stage ≤ n → IsCleared s stage → IsCleared u stage

  moved_keeps : (s : State) (e i j : ℕ) (feed : Feed) (c : Change) (rest : List Change) (u : State) → g.fed e ≡ Some feed → s.flight e i j ≡ c ∷ rest → AfterMove s e i j feed rest u → Keeps s (feed.node + feed.node) u
  moved_keeps s e i j feed c rest u fed front a (delivers d k n) is low clear =
      let before = edge_before d is.0 is.1 in
      let ranked : is.0.node + is.0.node ≤ feed.node + feed.node = subst (λ o. rank_of o ≤ feed.node + feed.node) is.1 low in
      a.flight d k n (λ q. omega (arith, before, ranked)) (λ z. full (sym clear ∙ (ap (λ d. s.flight d k n) z.0 ∙ (ap (λ k. s.flight e k n) z.1 ∙ (ap (λ n. s.flight e i n) z.2 ∙ front))))) ∙ clear
    where
      full : (let l : List Change = [] in l ≡ c ∷ rest) → ⊥
      full q = cc
  moved_keeps s e i j feed c rest u fed front a (flushes v k) is low clear = a.bundle v k (λ q. omega (arith, low)) ∙ clear

  delivered : (e i j : ℕ) (feed : Feed) → g.fed e ≡ Some feed → is_channel g e i j ≡ true → (n : ℕ) (s u : State) → length (s.flight e i j) ≡ n → Leads g limit s (moves e i j n) u → (u.flight e i j ≡ []) × Keeps s (feed.node + feed.node) u
  delivered e i j feed fed channel zero s u len leads =
      (subst (λ (t : State). t.flight e i j ≡ []) leads (nothing_left (s.flight e i j) len), λ stage is low clear. subst (λ t. IsCleared t stage) leads clear)
  delivered e i j feed fed channel (suc n) s u len leads = go (λ x y z w. delivered e i j feed fed channel n x y z w) (s.flight e i j) refl
    where
      go : ((x y : State) → length (x.flight e i j) ≡ n → Leads g limit x (moves e i j n) y → (y.flight e i j ≡ []) × Keeps x (feed.node + feed.node) y) → (l : List Change) → s.flight e i j ≡ l → (u.flight e i j ≡ []) × Keeps s (feed.node + feed.node) u
      go more [] f = absurd (let z : length (s.flight e i j) ≡ 0 = ap length f in omega arith)
      go more (c ∷ rest) f =
          let q : flushed_if_full g limit feed.node j (joins e i j feed c rest s) ≡ Ok leads.0 = sym (move_is s e i j feed fed channel ∙ ap (move_front g limit s e i j feed) f) ∙ leads.1 in
          let a = after_move s e i j feed c rest leads.0 fed q in
          let less : length (leads.0.flight e i j) ≡ n = (let x : length (s.flight e i j) ≡ suc (length rest) = ap length f in let y : length (leads.0.flight e i j) ≡ length rest = ap length a.here in omega arith) in
          let later = more leads.0 u less leads.2 in
          (later.0, λ stage is low clear. later.1 stage is low (moved_keeps s e i j feed c rest leads.0 fed f a stage is low clear))

  flush_is : (s : State) (v j size : ℕ) → g.bundle v ≡ Some size → is_place g v j ≡ true → step g limit s (Flush v j) ≡ flush_held g limit s v j (s.bundle v j)
  flush_is s v j size keeps place = ap (λ b. cond b (flush_bundle g limit s v j (g.bundle v)) (Err (Order NoSuchPlace))) place ∙ ap (flush_bundle g limit s v j) keeps

  emptied_bundle : (s : State) (v j : ℕ) (u : State) → step g limit s (Flush v j) ≡ flush_held g limit s v j (s.bundle v j) → step g limit s (Flush v j) ≡ Ok u → (u.bundle v j ≡ []) × Keeps s (suc (v + v)) u
  emptied_bundle s v j u is ok = go (s.bundle v j) refl
    where
      go : (l : List Arrival) → s.bundle v j ≡ l → (u.bundle v j ≡ []) × Keeps s (suc (v + v)) u
      go [] f =
          let same = ok_is s u (sym (is ∙ ap (flush_held g limit s v j) f) ∙ ok) in
          (subst (λ (t : State). t.bundle v j ≡ []) same f, λ stage st low clear. subst (λ t. IsCleared t stage) same clear)
      go (x ∷ others) f =
          let a = after_flush s v j u (sym (is ∙ ap (flush_held g limit s v j) f) ∙ ok) in
          (a.bundle v j ∙ put_here s.bundle v j [], keeps a)
        where
          keeps : AfterFlush s v j u → Keeps s (suc (v + v)) u
          keeps a (delivers d k n) st low clear =
              let before = edge_before d st.0 st.1 in
              let ranked : st.0.node + st.0.node ≤ suc (v + v) = subst (λ o. rank_of o ≤ suc (v + v)) st.1 low in
              a.flight d k n (λ q. omega (arith, before, ranked)) ∙ clear
          keeps a (flushes w k) st low clear =
              a.bundle w k ∙ elim (put_cases w v k j) [ inl z ↦ rw (z.0, z.1) (put_here s.bundle v j []) | inr z ↦ rw z clear ]

  stage_done : (stage : Stage) → IsStage stage → (s u : State) → Leads g limit s (stage_items s stage) u → IsCleared u stage × Keeps s (rank stage) u
  stage_done (delivers e i j) is s u leads =
      let d = delivered e i j is.0 is.1 is.2 (length (s.flight e i j)) s u refl leads in
      (d.0, subst (λ o. Keeps s (rank_of o) u) (sym is.1) d.1)
  stage_done (flushes v j) is s u leads = emptied_bundle s v j u (flush_is s v j is.0 is.1 is.2) (leads.1 ∙ ap (λ (t : State). let r : Result State StepFault = Ok t in r) leads.2)

  abbrev AreInOrder : ℕ → List Stage → Type 0
  AreInOrder n [] = Unit {0}
  AreInOrder n (stage ∷ later) = (n ≤ rank stage) × IsStage stage × AreInOrder (rank stage) later

  stages_done : (n : ℕ) (list : List Stage) (s t : State) → AreInOrder n list → Leads g limit s (drain_stages g limit s list) t → Keeps s n t × AllByRecursion (IsCleared t) list
  stages_done n [] s t order leads = (λ stage is low clear. subst (λ u. IsCleared u stage) leads clear, tt)
  stages_done n (stage ∷ later) s t order leads =
      let split = leads_split g limit s (stage_items s stage) (drain_stages g limit (after g limit s (stage_items s stage)) later) t leads in
      let u : State = split.0 in
      let one = stage_done stage order.1 s u split.1 in
      let rest = stages_done (rank stage) later u t order.2 (subst (λ x. Leads g limit u (drain_stages g limit x later) t) (leads_after g limit s (stage_items s stage) u split.1) split.2) in (
        λ other is low clear. rest.0 other is (let a = order.0 in omega arith) (one.1 other is (let a = order.0 in omega arith) clear),
        (rest.0 stage order.1 (omega arith) one.0, rest.1),
      )

  -- ---- the list of stages

  in_order-lower : (n m : ℕ) (list : List Stage) → n ≤ m → AreInOrder m list → AreInOrder n list
  in_order-lower n m [] l h = tt
  in_order-lower n m (stage ∷ later) l h = (let a = h.0 in omega arith, h.1, h.2)

  abbrev AreOf : ℕ → List Stage → Type 0
  AreOf r list = AllByRecursion (λ stage. IsStage stage × (rank stage ≡ r)) list

  in_order-append : (n r : ℕ) (front back : List Stage) → n ≤ r → AreOf r front → AreInOrder r back → AreInOrder n (front ++ back)
  in_order-append n r [] back l h o = in_order-lower n r back l o
  in_order-append n r (stage ∷ front) back l h o =
      (let a = h.0.1 in omega arith, h.0.0, in_order-append (rank stage) r front back (let a = h.0.1 in omega arith) h.1 o)

  all-both : (P : Stage → Type 0) (a b : List Stage) → AllByRecursion P a → AllByRecursion P b → AllByRecursion P (a ++ b)
  all-both P [] b h k = k
  all-both P (x ∷ a) b h k = (h.0, all-both P a b h.1 k)

  of_channels_to : (e i j n : ℕ) (feed : Feed) → g.fed e ≡ Some feed → AreOf (feed.node + feed.node) (channels_to g e i j n)
  of_channels_to e i j zero feed fed = tt
  of_channels_to e i j (suc n) feed fed =
      elim (is_channel g e i j) as (λ b. is_channel g e i j ≡ b → AreOf (feed.node + feed.node) (cond b (delivers e i j ∷ channels_to g e i (j + 1) n) (channels_to g e i (j + 1) n))) [
        | true ↦ λ q. (((feed, fed, q), ap rank_of fed), of_channels_to e i (j + 1) n feed fed)
        | false ↦ λ q. of_channels_to e i (j + 1) n feed fed
      ] refl

  of_channels_from : (e i n : ℕ) (feed : Feed) → g.fed e ≡ Some feed → AreOf (feed.node + feed.node) (channels_from g e i n)
  of_channels_from e i zero feed fed = tt
  of_channels_from e i (suc n) feed fed = all-both _ (channels_to g e i 0 g.subtasks) (channels_from g e (i + 1) n) (of_channels_to e i 0 g.subtasks feed fed) (of_channels_from e (i + 1) n feed fed)

  of_channels_into : (v e n : ℕ) → AreOf (v + v) (channels_into g v e n)
  of_channels_into v e zero = tt
  of_channels_into v e (suc n) = go (of_channels_into v (e + 1) n) (g.fed e) refl
    where
      go : AreOf (v + v) (channels_into g v (e + 1) n) → (o : Option Feed) → g.fed e ≡ o → AreOf (v + v) (cond (feeds_node v o) (channels_from g e 0 g.subtasks ++ channels_into g v (e + 1) n) (channels_into g v (e + 1) n))
      go more None fed = more
      go more (Some feed) fed =
          elim (feed.node == v) as (λ b. (feed.node == v) ≡ b → AreOf (v + v) (cond b (channels_from g e 0 g.subtasks ++ channels_into g v (e + 1) n) (channels_into g v (e + 1) n))) [
            | true ↦ λ q. all-both _ (channels_from g e 0 g.subtasks) (channels_into g v (e + 1) n) (subst (λ w. AreOf (w + w) (channels_from g e 0 g.subtasks)) (eqb-true feed.node v q) (of_channels_from e 0 g.subtasks feed fed)) more
            | false ↦ λ q. more
          ] refl

  of_bundles_from : (v j n size : ℕ) → g.bundle v ≡ Some size → 0 < v → v ≤ g.count → j + n ≤ g.subtasks → AreOf (suc (v + v)) (bundles_from v j n)
  of_bundles_from v j zero size keeps low high l = tt
  of_bundles_from v j (suc n) size keeps low high l =
      (((size, keeps, and_from _ _ (lt-ltb 0 v low) (and_from _ _ (le-leb v g.count high) (lt-ltb j g.subtasks (omega arith)))), refl), of_bundles_from v (j + 1) n size keeps low high (omega arith))

  of_bundles_at : (v : ℕ) (o : Option ℕ) → g.bundle v ≡ o → 0 < v → v ≤ g.count → AreOf (suc (v + v)) (bundles_at g v o)
  of_bundles_at v None keeps low high = tt
  of_bundles_at v (Some size) keeps low high = of_bundles_from v 0 g.subtasks size keeps low high (omega arith)

  in_order_from : (v n m : ℕ) → 0 < v → v + n ≤ suc g.count → m ≤ v + v → AreInOrder m (stages_from g v n)
  in_order_from v zero m low high l = tt
  in_order_from v (suc n) m low high l =
      subst (AreInOrder m) (sym (append_assoc (channels_into g v 1 g.count) (bundles_at g v (g.bundle v)) (stages_from g (v + 1) n)))
      (in_order-append m (v + v) (channels_into g v 1 g.count) (bundles_at g v (g.bundle v) ++ stages_from g (v + 1) n) l (of_channels_into v 1 g.count)
      (in_order-append (v + v) (suc (v + v)) (bundles_at g v (g.bundle v)) (stages_from g (v + 1) n) (omega arith) (of_bundles_at v (g.bundle v) refl low (omega arith))
      (in_order_from (v + 1) n (suc (v + v)) (omega arith) (omega arith) (omega arith))))

  in_order : AreInOrder 0 (stages g)
  in_order = in_order_from 1 g.count 0 (omega arith) (omega arith) (omega arith)

  -- ---- each channel and each bundle is in it

  all-left : (P : Stage → Type 0) (a b : List Stage) → AllByRecursion P (a ++ b) → AllByRecursion P a
  all-left P [] b h = tt
  all-left P (x ∷ a) b h = (h.0, all-left P a b h.1)

  all-right : (P : Stage → Type 0) (a b : List Stage) → AllByRecursion P (a ++ b) → AllByRecursion P b
  all-right P [] b h = h
  all-right P (x ∷ a) b h = all-right P a b h.1

  module _ (P : Stage → Type 0) where
    at_to : (e i j from n : ℕ) → is_channel g e i j ≡ true → from ≤ j → j < from + n → AllByRecursion P (channels_to g e i from n) → P (delivers e i j)
    at_to e i j from zero c l m h = absurd (omega arith)
    at_to e i j from (suc n) c l m h =
        elim (cases_eq from j) [
          | inl q ↦
              let here : is_channel g e i from ≡ true = ap (is_channel g e i) q ∙ c in
              subst (λ k. P (delivers e i k)) q (subst (λ b. AllByRecursion P (cond b (delivers e i from ∷ channels_to g e i (from + 1) n) (channels_to g e i (from + 1) n))) here h).0
          | inr d ↦ at_to e i j (from + 1) n c (omega arith) (omega arith)
              (elim (is_channel g e i from) as (λ b. AllByRecursion P (cond b (delivers e i from ∷ channels_to g e i (from + 1) n) (channels_to g e i (from + 1) n)) → AllByRecursion P (channels_to g e i (from + 1) n)) [ true ↦ λ k. k.1 | false ↦ λ k. k ] h)
        ]

    at_from : (e i j from n : ℕ) → is_channel g e i j ≡ true → j < g.subtasks → from ≤ i → i < from + n → AllByRecursion P (channels_from g e from n) → P (delivers e i j)
    at_from e i j from zero c jl l m h = absurd (omega arith)
    at_from e i j from (suc n) c jl l m h =
        elim (cases_eq from i) [
          | inl q ↦ at_to e i j 0 g.subtasks c (omega arith) (omega arith) (subst (λ k. AllByRecursion P (channels_to g e k 0 g.subtasks)) q (all-left P (channels_to g e from 0 g.subtasks) (channels_from g e (from + 1) n) h))
          | inr d ↦ at_from e i j (from + 1) n c jl (omega arith) (omega arith) (all-right P (channels_to g e from 0 g.subtasks) (channels_from g e (from + 1) n) h)
        ]

    at_into : (e i j from n : ℕ) (feed : Feed) → g.fed e ≡ Some feed → is_channel g e i j ≡ true → i < g.subtasks → j < g.subtasks → from ≤ e → e < from + n → AllByRecursion P (channels_into g feed.node from n) → P (delivers e i j)
    at_into e i j from zero feed fed c il jl l m h = absurd (omega arith)
    at_into e i j from (suc n) feed fed c il jl l m h =
        elim (cases_eq from e) [
          | inl q ↦
              let fits : feeds_node feed.node (g.fed from) ≡ true = ap (feeds_node feed.node) (ap g.fed q ∙ fed) ∙ eq-eqb feed.node feed.node refl in
              let here = subst (λ b. AllByRecursion P (cond b (channels_from g from 0 g.subtasks ++ channels_into g feed.node (from + 1) n) (channels_into g feed.node (from + 1) n))) fits h in
              at_from e i j 0 g.subtasks c jl (omega arith) (omega arith) (subst (λ k. AllByRecursion P (channels_from g k 0 g.subtasks)) q (all-left P (channels_from g from 0 g.subtasks) (channels_into g feed.node (from + 1) n) here))
          | inr d ↦ at_into e i j (from + 1) n feed fed c il jl (omega arith) (omega arith)
              (elim (feeds_node feed.node (g.fed from)) as (λ b. AllByRecursion P (cond b (channels_from g from 0 g.subtasks ++ channels_into g feed.node (from + 1) n) (channels_into g feed.node (from + 1) n)) → AllByRecursion P (channels_into g feed.node (from + 1) n)) [
                | true ↦ λ k. all-right P (channels_from g from 0 g.subtasks) (channels_into g feed.node (from + 1) n) k
                | false ↦ λ k. k
              ] h)
        ]

    at_bundle : (v j from n : ℕ) → from ≤ j → j < from + n → AllByRecursion P (bundles_from v from n) → P (flushes v j)
    at_bundle v j from zero l m h = absurd (omega arith)
    at_bundle v j from (suc n) l m h =
        elim (cases_eq from j) [
          | inl q ↦ subst (λ k. P (flushes v k)) q h.0
          | inr d ↦ at_bundle v j (from + 1) n (omega arith) (omega arith) h.1
        ]

    at_node : (v from n : ℕ) → from ≤ v → v < from + n → AllByRecursion P (stages_from g from n) → AllByRecursion P (channels_into g v 1 g.count ++ bundles_at g v (g.bundle v))
    at_node v from zero l m h = absurd (omega arith)
    at_node v from (suc n) l m h =
        elim (cases_eq from v) [
          | inl q ↦ subst (λ w. AllByRecursion P (channels_into g w 1 g.count ++ bundles_at g w (g.bundle w))) q (all-left P (channels_into g from 1 g.count ++ bundles_at g from (g.bundle from)) (stages_from g (from + 1) n) h)
          | inr d ↦ at_node v (from + 1) n (omega arith) (omega arith) (all-right P (channels_into g from 1 g.count ++ bundles_at g from (g.bundle from)) (stages_from g (from + 1) n) h)
        ]

  -- ---- nodes without bundles hold nothing back

  abbrev IsTidy : State → Type 0
  IsTidy s = (v j : ℕ) → g.bundle v ≡ None → s.bundle v j ≡ []

  abbrev TidyIn : Result State StepFault → Type 0
  TidyIn (Ok t) = IsTidy t
  TidyIn (Err fault) = Unit {0}

  tidy_if : (r : Result State StepFault) → ((u : State) → r ≡ Ok u → IsTidy u) → TidyIn r
  tidy_if (Err fault) h = tt
  tidy_if (Ok u) h = h u refl

  tidy_flushed : (s : State) (v j : ℕ) → IsTidy s → TidyIn (flushed g limit v j s)
  tidy_flushed s v j tidy = tidy_if (flushed g limit v j s) (λ u q w k none.
      let a = after_flush s v j u q in
      a.bundle w k ∙ elim (put_cases w v k j) [ inl z ↦ rw (z.0, z.1) (put_here s.bundle v j []) | inr z ↦ rw z (tidy w k none) ])

  tidy_move : (s : State) (e i j : ℕ) → IsTidy s → (o : Option Feed) → g.fed e ≡ o → TidyIn (move_to g limit s e i j o)
  tidy_move s e i j tidy None fed = tt
  tidy_move s e i j tidy (Some feed) fed =
      elim (is_channel g e i j) as (λ b. TidyIn (cond b (move_front g limit s e i j feed (s.flight e i j)) (Err (Order NoSuchPlace)))) [ true ↦ front (s.flight e i j) | false ↦ tt ]
    where
      front : (l : List Change) → TidyIn (move_front g limit s e i j feed l)
      front [] = tt
      front (c ∷ rest) = tidy_if (flushed_if_full g limit feed.node j (joins e i j feed c rest s)) (λ u q w k none.
          let a = after_move s e i j feed c rest u fed q in
          elim (cases_eq w feed.node) [
            | inl z ↦ rw z (a.folded_all (subst (λ n. g.bundle n ≡ None) z none) k (tidy feed.node k (subst (λ n. g.bundle n ≡ None) z none)))
            | inr d ↦ a.bundle w k d ∙ tidy w k none
          ])

  tidy_item : (s : State) (item : Item) → IsTidy s → TidyIn (step_item g limit s item)
  tidy_item s quiet tidy = tidy
  tidy_item s (happens (Take table change)) tidy = take_of_tidy (g.tables table)
    where
      unless_tidy : (t : Table) (r : Option ChangeCode) → TidyIn (take_unless g limit s table change (scanned_at t change) r)
      unless_tidy t (Some code) = tt
      unless_tidy t None = elim (nat_lt s.took limit && nat_le (s.sends + scan_count g table) limit) as (λ b. TidyIn (cond b (Ok (scanned g table (scanned_at t change) change s)) (Err Limit))) [ true ↦ tidy | false ↦ tt ]

      take_of_tidy : (o : Option Table) → TidyIn (take_of g limit s table change o)
      take_of_tidy None = tt
      take_of_tidy (Some t) = unless_tidy t (refusal t (fold t.mode (s.taken table)) change)
  tidy_item s (happens (Move e i j)) tidy = tidy_move s e i j tidy (g.fed e) refl
  tidy_item s (happens (Flush v j)) tidy =
      elim (is_place g v j) as (λ b. TidyIn (cond b (flush_bundle g limit s v j (g.bundle v)) (Err (Order NoSuchPlace)))) [ true ↦ at (g.bundle v) | false ↦ tt ]
    where
      held : (b : List Arrival) → TidyIn (flush_held g limit s v j b)
      held [] = tidy
      held (a ∷ others) = tidy_flushed s v j tidy

      at : (o : Option ℕ) → TidyIn (flush_bundle g limit s v j o)
      at None = tt
      at (Some size) = held (s.bundle v j)

  tidy_after : (s : State) (items : List Item) → IsTidy s → IsTidy (after g limit s items)
  tidy_after s [] tidy = tidy
  tidy_after s (item ∷ items) tidy = tidy_after (state_in s (step_item g limit s item)) items (go (step_item g limit s item) (tidy_item s item tidy))
    where
      go : (r : Result State StepFault) → TidyIn r → IsTidy (state_in s r)
      go (Err fault) h = tidy
      go (Ok u) h = h

  -- ---- a drained state is quiet

  typed_moves : (e i j n : ℕ) → AreTyped g (moves e i j n)
  typed_moves e i j zero = tt
  typed_moves e i j (suc n) = (tt, typed_moves e i j n)

  typed_stage : (s : State) (stage : Stage) → AreTyped g (stage_items s stage)
  typed_stage s (delivers e i j) = typed_moves e i j (length (s.flight e i j))
  typed_stage s (flushes v j) = (tt, tt)

  typed_stages : (s : State) (list : List Stage) → AreTyped g (drain_stages g limit s list)
  typed_stages s [] = tt
  typed_stages s (stage ∷ later) = typed-append g (stage_items s stage) (drain_stages g limit (after g limit s (stage_items s stage)) later) (typed_stage s stage) (typed_stages (after g limit s (stage_items s stage)) later)

  none_through : (x : Exchange) (i j : ℕ) (route : _) → has_channel x i j ≡ false → (changes : List Change) → filter (λ change. goes_by x route i j change.row) changes ≡ []
  none_through (hash columns) i j route e changes = absurd (false≢true (sym e))
  none_through forward i j route e [] = refl
  none_through forward i j route e (c ∷ changes) = ap (λ b. cond b (c ∷ filter (λ change. goes_by forward route i j change.row) changes) (filter (λ change. goes_by forward route i j change.row) changes)) e ∙ none_through forward i j route e changes

  quiet_where : (t : State) → HangsTogether g wired t → IsTidy t → AllByRecursion (IsCleared t) (stages g) → IsQuiet g t
  quiet_where t h tidy cleared = record {
    flight = λ e i j feed fed il jl.
        let port = wired.feeds_port e feed fed in
        elim (cases_Bool (is_channel g e i j)) [
          | inl c ↦
              let low : 0 < e = subst (λ n. 0 < n) port.1 (wired.numbered feed.node feed.port port.0) in
              let before = edge_before e feed fed in
              let high = wired.counted feed.node (omega (arith, port.0)) in
              at_into (IsCleared t) e i j 1 g.count feed fed c il jl (omega arith) (omega arith)
              (all-left (IsCleared t) (channels_into g feed.node 1 g.count) (bundles_at g feed.node (g.bundle feed.node)) (at_node (IsCleared t) feed.node 1 g.count (omega arith) (omega arith) cleared))
          | inr c ↦
              let none : has_channel (g.edge e).exchange i j ≡ false = not_channel i j il jl (has_channel (g.edge e).exchange i j) c in
              let all = h.fed feed.node j feed.port i port.0 in
              subst (λ n. t.flight n i j ≡ []) port.1 (back_empty _ (t.flight (g.source feed.node feed.port) i j) (all ∙ none_through (g.edge (g.source feed.node feed.port)).exchange i j (g.edge (g.source feed.node feed.port)).route (subst (λ n. has_channel (g.edge n).exchange i j ≡ false) (sym port.1) none) (t.sent (g.source feed.node feed.port) i)))
        ];
    bundle = λ v j jl. held v j jl (g.bundle v) refl (t.bundle v j) refl;
  }
    where
      not_channel : (i j : ℕ) → i < g.subtasks → j < g.subtasks → (b : Bool) → (nat_lt i g.subtasks && (nat_lt j g.subtasks && b)) ≡ false → b ≡ false
      not_channel i j il jl true e = absurd (false≢true (sym e ∙ and_from _ _ (lt-ltb i g.subtasks il) (and_from _ _ (lt-ltb j g.subtasks jl) refl)))
      not_channel i j il jl false e = refl

      -- what is held back came to a port
      held : (v j : ℕ) → j < g.subtasks → (o : Option ℕ) → g.bundle v ≡ o → (b : List Arrival) → t.bundle v j ≡ b → t.bundle v j ≡ []
      held v j jl None keeps b is = tidy v j keeps
      held v j jl (Some size) keeps [] is = is
      held v j jl (Some size) keeps (a ∷ others) is =
          let some : a.port < g.ports v = some_port (joined (t.pieces v j)) (subst (λ b. AllByRecursion (λ a. a.port < g.ports v) (joined (t.pieces v j) ++ b)) is (h.ports v j)) in
          let low = wired.below v a.port some in
          let high = wired.counted v (omega arith) in
          at_bundle (IsCleared t) v j 0 g.subtasks (omega arith) (omega arith)
          (subst (λ o. AllByRecursion (IsCleared t) (bundles_at g v o)) keeps (all-right (IsCleared t) (channels_into g v 1 g.count) (bundles_at g v (g.bundle v)) (at_node (IsCleared t) v 1 g.count (omega arith) (omega arith) cleared)))
        where
          some_port : (xs : List Arrival) → AllByRecursion (λ a. a.port < g.ports v) (xs ++ a ∷ others) → a.port < g.ports v
          some_port [] all = all.0
          some_port (x ∷ xs) all = some_port xs all.1

  -- ---- what stops a drain

  moves_stop : (e i j : ℕ) (feed : Feed) → g.fed e ≡ Some feed → is_channel g e i j ≡ true → (fault : StepFault) (printed : List PrintItem) (n : ℕ) (s : State) → length (s.flight e i j) ≡ n → StopsAlong g limit s (moves e i j n) fault printed → IsDrainFault fault
  moves_stop e i j feed fed channel fault printed zero s len stops = absurd stops
  moves_stop e i j feed fed channel fault printed (suc n) s len stops = go (λ x y z. moves_stop e i j feed fed channel fault printed n x y z) (s.flight e i j) refl stops
    where
      go : ((x : State) → length (x.flight e i j) ≡ n → StopsAlong g limit x (moves e i j n) fault printed → IsDrainFault fault) → (l : List Change) → s.flight e i j ≡ l → StopsAlong g limit s (moves e i j (suc n)) fault printed → IsDrainFault fault
      go more [] f stops = absurd (let z : length (s.flight e i j) ≡ 0 = ap length f in omega arith)
      go more (c ∷ rest) f (inl here) = stops_is (step g limit s (Move e i j)) fault (subst OnlyDrains (sym (move_is s e i j feed fed channel ∙ ap (move_front g limit s e i j feed) f)) (move_faults s e i j feed c rest)) here.0
      go more (c ∷ rest) f (inr later) =
          let q : flushed_if_full g limit feed.node j (joins e i j feed c rest s) ≡ Ok later.0 = sym (move_is s e i j feed fed channel ∙ ap (move_front g limit s e i j feed) f) ∙ later.1 in
          let a = after_move s e i j feed c rest later.0 fed q in
          let less : length (later.0.flight e i j) ≡ n = (let x : length (s.flight e i j) ≡ suc (length rest) = ap length f in let y : length (later.0.flight e i j) ≡ length rest = ap length a.here in omega arith) in
          more later.0 less later.2

  stage_stops : (stage : Stage) → IsStage stage → (s : State) (fault : StepFault) (printed : List PrintItem) → StopsAlong g limit s (stage_items s stage) fault printed → IsDrainFault fault
  stage_stops (delivers e i j) is s fault printed stops = moves_stop e i j is.0 is.1 is.2 fault printed (length (s.flight e i j)) s refl stops
  stage_stops (flushes v j) is s fault printed (inl here) = stops_is (step g limit s (Flush v j)) fault (subst OnlyDrains (sym (flush_is s v j is.0 is.1 is.2)) (held (s.bundle v j))) here.0
    where
      held : (b : List Arrival) → OnlyDrains (flush_held g limit s v j b)
      held [] = tt
      held (a ∷ others) = flush_faults s v j
  stage_stops (flushes v j) is s fault printed (inr later) = absurd later.2

  stages_stop : (n : ℕ) (list : List Stage) (s : State) → AreInOrder n list → (fault : StepFault) (printed : List PrintItem) → StopsAlong g limit s (drain_stages g limit s list) fault printed → IsDrainFault fault
  stages_stop n [] s order fault printed stops = absurd stops
  stages_stop n (stage ∷ later) s order fault printed stops =
      elim (stops_split g limit s (stage_items s stage) (drain_stages g limit (after g limit s (stage_items s stage)) later) fault printed stops) [
        | inl here ↦ stage_stops stage order.1 s fault printed here
        | inr there ↦ stages_stop (rank stage) later there.0 order.2 fault printed (subst (λ x. StopsAlong g limit there.0 (drain_stages g limit x later) fault printed) (leads_after g limit s (stage_items s stage) there.0 there.1) there.2)
      ]

pub runs_drain : RunsDrain
runs_drain g wired limit items typed =
    let s : State = after g limit (opened g) items in
    record {
      drained = λ t leads.
          let split = leads_split g limit s (drain_stages g limit s (stages g)) (quiet ∷ []) t leads in
          let u : State = split.0 in
          let is : after g limit (opened g) (items ++ drain_stages g limit s (stages g)) ≡ u = after-append g limit (opened g) items (drain_stages g limit s (stages g)) ∙ leads_after g limit s (drain_stages g limit s (stages g)) u split.1 in
          let h : HangsTogether g wired u = subst (HangsTogether g wired) is (hangs_after g wired limit (opened g) (items ++ drain_stages g limit s (stages g)) (typed-append g items (drain_stages g limit s (stages g)) typed (typed_stages g wired limit s (stages g))) (hangs_opened g wired)) in
          let tidy : (v j : ℕ) → g.bundle v ≡ None → u.bundle v j ≡ [] = subst (λ (x : State). (v j : ℕ) → g.bundle v ≡ None → x.bundle v j ≡ []) is (tidy_after g wired limit (opened g) (items ++ drain_stages g limit s (stages g)) (λ v j none. refl)) in
          let cleared = (stages_done g wired limit 0 (stages g) s u (in_order g wired limit) split.1).1 in
          let still : IsQuiet g u = quiet_where g wired limit u h tidy cleared in
          let told : told_quiet g u ≡ t = ok_is (told_quiet g u) t (split.2.1 ∙ ap (λ (x : State). let r : Result State StepFault = Ok x in r) split.2.2) in
          subst (IsQuiet g) told (record { flight = still.flight; bundle = still.bundle });
      stops = λ fault printed stopped.
          elim (stops_split g limit s (drain_stages g limit s (stages g)) (quiet ∷ []) fault printed stopped) [
            | inl here ↦ stages_stop g wired limit 0 (stages g) s (in_order g wired limit) fault printed here
            | inr there ↦ elim there.2 [
              | inl q ↦ stops_is (Ok (told_quiet g there.0)) fault tt q.0
              | inr later ↦ absurd later.2
            ]
          ];
    }
