-- No step of the machine stops by range, over nodes that stay in range: what is in flight is what its node may send, what is consumed may
-- come to its node, no subtask consumes more changes than the limit, and no piece is larger than a bundle.
use Rattle.std.specs.Prelude.{◌≡◌, ℕ, ◌+◌, ◌<◌, ◌≤◌, ◌==◌, ◌&&◌, nat_le, nat_lt, Bool, cond, Option, Result, List, ◌++◌, length}
use Rattle.std.proofs.Common.{zero, suc, true, false, [], ◌∷◌, refl, sym, ap, subst, ◌∙◌, arith, Some, None, Ok, Err, append_assoc, append-nil, length-append}
use Rattle.std.specs.List.{AllByRecursion, filter}
use Rattle.std.proofs.lemmas.Bool.{and_parts, eq-eqb, eqb-true, leb-false, ltb-true}
use Rattle.ct_value.specs.declared.codes.ChangeCode.{ChangeCode}
use Rattle.ct_value.specs.declared.codes.OrderCode.TheVariants.{NoSuchPlace}
use Rattle.ct_change.specs.declared.change.Change.{Change}
use Rattle.ct_change.specs.Changelog.{fold}
use Rattle.op_rules.specs.Edges.{goes}
use Rattle.op_rules.specs.History.{Arrival, arrival, joined}
use Rattle.op_rules.specs.Rules.{Answer}
use Rattle.op_rules.specs.Tasks.{IsReady}
use Rattle.op_rules.proofs.laws.Histories.{all-append}
use Rattle.stream_model.specs.declared.events.Event.TheVariants.{Take, Move, Flush}
use Rattle.stream_model.specs.declared.events.StepFault.{StepFault}
use Rattle.stream_model.specs.declared.events.StepFault.TheVariants.{Change as Refused, Order, Range, Limit, Memory}
use Rattle.stream_model.specs.Tables.{Table, scanned_at, refusal}
use Rattle.stream_model.specs.Network.{Feed, Network, task}
use Rattle.stream_model.specs.Machine.{State, opened, send, print, joins, folded, answered, flushed, size_of, is_channel, move_front, move_to, flush_held, flush_bundle, is_place, is_scan_of, scan_count, scanned, take_unless, take_of}
use Rattle.stream_model.specs.Runs.{Item, happens, quiet, step_item}
use Rattle.stream_model.specs.Drain.{IsOpen}
use Rattle.range_rules.specs.Ranges.{IsShort, IsAnswerOf}

-- ---- lists

joined-push : (pieces : List (List Arrival)) (piece : List Arrival) → joined (pieces ++ piece ∷ []) ≡ joined pieces ++ piece
joined-push [] piece = append-nil piece
joined-push (first ∷ pieces) piece = ap (λ others. first ++ others) (joined-push pieces piece) ∙ sym (append_assoc first (joined pieces) piece)

module _ {A : Type 0} (P : A → Type 0) where
  all-filter : (test : A → Bool) (xs : List A) → AllByRecursion P xs → AllByRecursion P (filter test xs)
  all-filter test [] h = tt
  all-filter test (x ∷ xs) h = kept (test x) (filter test xs) (all-filter test xs h.1)
    where
      kept : (b : Bool) (others : List A) → AllByRecursion P others → AllByRecursion P (cond b (x ∷ others) others)
      kept true others k = (h.0, k)
      kept false others k = k

-- what is put at a place, and elsewhere
at_place : (e v k i : ℕ) (Q : Bool → Type 0) → (e ≡ v → Q true) → Q false → Q ((e == v) && (k == i))
at_place e v k i Q here there =
    elim ((e == v) && (k == i)) as (λ b. ((e == v) && (k == i)) ≡ b → Q b) [ true ↦ λ q. here (eqb-true e v (and_parts (e == v) (k == i) q).0) | false ↦ λ q. there ] refl

-- what holds by the place's first number
module _ {A : Type 0} (P : ℕ → A → Type 0) (e v k i : ℕ) where
  all_at : (xs ys : List A) → AllByRecursion (P v) xs → AllByRecursion (P e) ys → AllByRecursion (P e) (cond ((e == v) && (k == i)) xs ys)
  all_at xs ys h l = at_place e v k i (λ b. AllByRecursion (P e) (cond b xs ys)) (λ same. subst (λ x. AllByRecursion (P x) xs) (sym same) h) l

  -- in one of the channels there
  all_along : (f h : ℕ → List A) (j : ℕ) → AllByRecursion (P v) (f j) → AllByRecursion (P e) (h j) → AllByRecursion (P e) ((cond ((e == v) && (k == i)) f h) j)
  all_along f h j a c = at_place e v k i (λ b. AllByRecursion (P e) ((cond b f h) j)) (λ same. subst (λ x. AllByRecursion (P x) (f j)) (sym same) a) c

all_joined : (Q : ℕ → Arrival → Type 0) (w v k j : ℕ) (xs ys : List (List Arrival)) → AllByRecursion (Q v) (joined xs) → AllByRecursion (Q w) (joined ys) → AllByRecursion (Q w) (joined (cond ((w == v) && (k == j)) xs ys))
all_joined Q w v k j xs ys h l = at_place w v k j (λ b. AllByRecursion (Q w) (joined (cond b xs ys))) (λ same. subst (λ x. AllByRecursion (Q x) (joined xs)) (sym same) h) l

-- a subtask that folds its bundle has consumed as many changes as before
folded_few : (b : Bool) (limit : ℕ) (pieces other_pieces : List (List Arrival)) (bundle other_bundle : List Arrival) → length (joined pieces) + length bundle ≤ limit → length (joined other_pieces) + length other_bundle ≤ limit
    → length (joined (cond b (pieces ++ bundle ∷ []) other_pieces)) + length (cond b [] other_bundle) ≤ limit
folded_few true limit pieces other_pieces bundle other_bundle h k =
    let e : length (joined (pieces ++ bundle ∷ [])) ≡ length (joined pieces ++ bundle) = ap length (joined-push pieces bundle) in
    let a = length-append (joined pieces) bundle in
    omega arith
folded_few false limit pieces other_pieces bundle other_bundle h k = k

-- one that takes a change more has consumed one more
joins_few : (limit v j : ℕ) (pieces : ℕ → ℕ → List (List Arrival)) (bundle : ℕ → ℕ → List Arrival) (a : Arrival) → length (joined (pieces v j)) + length (bundle v j) + 1 ≤ limit
    → (w k : ℕ) → length (joined (pieces w k)) + length (bundle w k) ≤ limit → length (joined (pieces w k)) + length (cond ((w == v) && (k == j)) (bundle v j ++ a ∷ []) (bundle w k)) ≤ limit
joins_few limit v j pieces bundle a fits w k h =
    elim ((w == v) && (k == j)) as (λ b. ((w == v) && (k == j)) ≡ b → length (joined (pieces w k)) + length (cond b (bundle v j ++ a ∷ []) (bundle w k)) ≤ limit) [
      | true ↦ λ e.
          let q = and_parts _ _ e in
          subst (λ x. length (joined (pieces x k)) + length (bundle v j ++ a ∷ []) ≤ limit) (sym (eqb-true w v q.0))
          (subst (λ y. length (joined (pieces v y)) + length (bundle v j ++ a ∷ []) ≤ limit) (sym (eqb-true k j q.1)) (let l = length-append (bundle v j) (a ∷ []) in omega arith))
      | false ↦ λ e. h
    ] refl

-- ---- pieces

-- how many changes a piece has at the most, of a node whose bundles are of this size
abbrev pub piece_size : ℕ → ℕ
piece_size zero = 1
piece_size (suc size) = suc size

pub some_size : (size : ℕ) → 1 ≤ piece_size size
some_size zero = omega arith
some_size (suc size) = omega arith

pub whole_size : (size : ℕ) → size ≤ piece_size size
whole_size zero = omega arith
whole_size (suc size) = omega arith

-- nodes that stay in range: what each sends, by its number, and what comes to each
pub record StayInRange (g : Network) (limit : ℕ) (Sends : ℕ → Change → Type 0) (Comes : ℕ → Arrival → Type 0) : Type 0 where
  pub opens : (v i : ℕ) → AllByRecursion (Sends v) (g.opening v i)
  pub scans : (table e : ℕ) (change : Change) → is_scan_of g table e ≡ true → IsShort change → Sends e change
  pub arrives : (e : ℕ) (feed : Feed) → g.fed e ≡ Some feed → (i j : ℕ) (before : List Arrival) (change : Change) → IsReady (task g feed.node) j (before ++ arrival feed.port i change ∷ [])
      → Sends e change → Comes feed.node (arrival feed.port i change)
  pub answers : (v : ℕ) (before piece : List Arrival) → AllByRecursion (Comes v) before → AllByRecursion (Comes v) piece → length piece ≤ piece_size (size_of (g.bundle v)) → length before + length piece ≤ limit
      → IsAnswerOf (Sends v) (g.emits v before piece)

-- ---- states

-- what an item takes has short texts
abbrev pub TakesShort : Item → Type 0
TakesShort quiet = Unit {0}
TakesShort (happens (Take table change)) = IsShort change
TakesShort (happens (Move e i j)) = Unit {0}
TakesShort (happens (Flush v j)) = Unit {0}

module _ (g : Network) (limit : ℕ) (Sends : ℕ → Change → Type 0) (Comes : ℕ → Arrival → Type 0) where
  -- all that is in flight is what its node sends, all that is consumed comes to its node, and no subtask consumed more changes than the limit
  pub record IsShortState (s : State) : Type 0 where
    pub flight : (e i j : ℕ) → AllByRecursion (Sends e) (s.flight e i j)
    pub pieces : (v j : ℕ) → AllByRecursion (Comes v) (joined (s.pieces v j))
    pub bundle : (v j : ℕ) → AllByRecursion (Comes v) (s.bundle v j)
    pub few : (v j : ℕ) → j < g.subtasks → length (joined (s.pieces v j)) + length (s.bundle v j) ≤ limit

  -- each bundle has room for a change
  abbrev pub HasRoom : State → Type 0
  HasRoom s = (v j : ℕ) → length (s.bundle v j) + 1 ≤ piece_size (size_of (g.bundle v))

  abbrev pub IsHeld : State → Type 0
  IsHeld s = IsShortState s × HasRoom s

  -- a step that isn't out of range: it leads to such a state, or stops for another reason
  abbrev pub InRange : Result State StepFault → Type 0
  InRange (Ok s) = IsHeld s
  InRange (Err (Refused code)) = Unit {0}
  InRange (Err (Order code)) = Unit {0}
  InRange (Err (Range v j row types)) = ⊥
  InRange (Err Limit) = Unit {0}
  InRange (Err Memory) = Unit {0}

  module _ (stays : StayInRange g limit Sends Comes) where
    pub opened_held : IsHeld (opened g)
    opened_held = (
      record {
        flight = λ e i j. all-filter (Sends e) (λ change. goes (g.edge e) i j change.row) (g.opening e i) (stays.opens e i);
        pieces = λ v j. tt;
        bundle = λ v j. tt;
        few = λ v j l. omega arith;
      },
      λ v j. let l = some_size (size_of (g.bundle v)) in omega (arith, l),
    )

    -- ---- what is handed on

    printed_held : (v j : ℕ) (changes : List Change) (s : State) → IsHeld s → IsHeld (print v j changes s)
    printed_held v j changes s h = (record { flight = h.0.flight; pieces = h.0.pieces; bundle = h.0.bundle; few = h.0.few }, h.1)

    sent_held : (v i : ℕ) (changes : List Change) (s : State) → AllByRecursion (Sends v) changes → IsHeld s → IsHeld (send g v i changes s)
    sent_held v i changes s short h = (
      record {
        flight = λ e k j. all_along Sends e v k i (λ j. s.flight v i j ++ filter (λ change. goes (g.edge v) i j change.row) changes) (s.flight e k) j
            (all-append (Sends v) (s.flight v i j) (filter (λ change. goes (g.edge v) i j change.row) changes) (h.0.flight v i j) (all-filter (Sends v) (λ change. goes (g.edge v) i j change.row) changes short))
            (h.0.flight e k j);
        pieces = h.0.pieces;
        bundle = h.0.bundle;
        few = h.0.few;
      },
      h.1,
    )

    within_limit : (b : Bool) (v j : ℕ) (changes : List Change) (s : State) → AllByRecursion (Sends v) changes → IsHeld s → InRange (cond b (Ok (send g v j changes s)) (Err Limit))
    within_limit true v j changes s short h = sent_held v j changes s short h
    within_limit false v j changes s short h = tt

    hands_on : (b : Bool) (v j : ℕ) (changes : List Change) (s : State) → AllByRecursion (Sends v) changes → IsHeld s
        → InRange (cond b (Ok (print v j changes s)) (cond (nat_le (s.sends + length changes) limit) (Ok (send g v j changes s)) (Err Limit)))
    hands_on true v j changes s short h = printed_held v j changes s h
    hands_on false v j changes s short h = within_limit (nat_le (s.sends + length changes) limit) v j changes s short h

    answers : (v j : ℕ) (answer : Answer) (s : State) → IsAnswerOf (Sends v) answer → IsHeld s → InRange (answered g limit v j answer s)
    answers v j (Err row) s short h = absurd short
    answers v j (Ok changes) s short h = hands_on (v == g.count) v j changes s short h

    -- ---- a bundle is flushed

    folded_short : (v j : ℕ) (s : State) → j < g.subtasks → IsShortState s → IsShortState (folded v j s)
    folded_short v j s l h = record {
      flight = h.flight;
      pieces = λ w k. all_joined Comes w v k j (s.pieces v j ++ s.bundle v j ∷ []) (s.pieces w k)
          (subst (λ xs. AllByRecursion (Comes v) xs) (sym (joined-push (s.pieces v j) (s.bundle v j))) (all-append (Comes v) (joined (s.pieces v j)) (s.bundle v j) (h.pieces v j) (h.bundle v j))) (h.pieces w k);
      bundle = λ w k. all_at Comes w v k j [] (s.bundle w k) tt (h.bundle w k);
      few = λ w k m. folded_few ((w == v) && (k == j)) limit (s.pieces v j) (s.pieces w k) (s.bundle v j) (s.bundle w k) (h.few v j l) (h.few w k m);
    }

    flushes : (v j : ℕ) (s : State) → j < g.subtasks → length (s.bundle v j) ≤ piece_size (size_of (g.bundle v)) → IsShortState s → HasRoom (folded v j s) → InRange (flushed g limit v j s)
    flushes v j s l fits h room =
        answers v j (g.emits v (joined (s.pieces v j)) (s.bundle v j)) (folded v j s)
        (stays.answers v (joined (s.pieces v j)) (s.bundle v j) (h.pieces v j) (h.bundle v j) fits (h.few v j l)) (folded_short v j s l h, room)

    -- ---- move

    module _ (e i j : ℕ) (feed : Feed) (change : Change) (rest : List Change) (s : State) where
      abbrev t : State
      t = joins e i j feed change rest s

      joins_short : Comes feed.node (arrival feed.port i change) → length (joined (s.pieces feed.node j)) + length (s.bundle feed.node j) + 1 ≤ limit → AllByRecursion (Sends e) rest → IsShortState s → IsShortState t
      joins_short comes fits front h = record {
        flight = λ d k m. all_along Sends d e k i (λ k. cond (k == j) rest (s.flight e i k)) (s.flight d k) m
            (elim (m == j) as (λ b. AllByRecursion (Sends e) (cond b rest (s.flight e i m))) [ true ↦ front | false ↦ h.flight e i m ]) (h.flight d k m);
        pieces = h.pieces;
        bundle = λ w k. all_at Comes w feed.node k j (s.bundle feed.node j ++ arrival feed.port i change ∷ []) (s.bundle w k)
            (all-append (Comes feed.node) (s.bundle feed.node j) (arrival feed.port i change ∷ []) (h.bundle feed.node j) (comes, tt)) (h.bundle w k);
        few = λ w k m. joins_few limit feed.node j s.pieces s.bundle (arrival feed.port i change) fits w k (h.few w k m);
      }

      one_more : length (t.bundle feed.node j) ≡ length (s.bundle feed.node j) + 1
      one_more =
          elim ((feed.node == feed.node) && (j == j)) as (λ b. ((feed.node == feed.node) && (j == j)) ≡ b → length (cond b (s.bundle feed.node j ++ arrival feed.port i change ∷ []) (s.bundle feed.node j)) ≡ length (s.bundle feed.node j) + 1) [
            | true ↦ λ q. length-append (s.bundle feed.node j) (arrival feed.port i change ∷ [])
            | false ↦ λ q. absurd (not_itself q)
          ] refl
        where
          not_itself : ((feed.node == feed.node) && (j == j)) ≡ false → ⊥
          not_itself q = cc (q, eq-eqb feed.node feed.node refl, eq-eqb j j refl)

      room_folded : HasRoom s → HasRoom (folded feed.node j t)
      room_folded room w k =
          elim ((w == feed.node) && (k == j)) as (λ b. length (cond b [] (cond b (s.bundle feed.node j ++ arrival feed.port i change ∷ []) (s.bundle w k))) + 1 ≤ piece_size (size_of (g.bundle w))) [
            | true ↦ (let l = some_size (size_of (g.bundle w)) in omega (arith, l))
            | false ↦ room w k
          ]

      room_left : HasRoom s → length (s.bundle feed.node j) + 1 < size_of (g.bundle feed.node) → HasRoom t
      room_left room less w k =
          at_place w feed.node k j (λ b. length (cond b (s.bundle feed.node j ++ arrival feed.port i change ∷ []) (s.bundle w k)) + 1 ≤ piece_size (size_of (g.bundle w)))
          (λ same.
          let a = length-append (s.bundle feed.node j) (arrival feed.port i change ∷ []) in
          let c = whole_size (size_of (g.bundle feed.node)) in
          subst (λ x. length (s.bundle feed.node j ++ arrival feed.port i change ∷ []) + 1 ≤ piece_size (size_of (g.bundle x))) (sym same) (omega (arith, a, c, less)))
          (room w k)

      full : (b : Bool) → nat_le (size_of (g.bundle feed.node)) (length (t.bundle feed.node j)) ≡ b → j < g.subtasks → IsShortState t → HasRoom s → InRange (cond b (flushed g limit feed.node j t) (Ok t))
      full true e l h room = flushes feed.node j t l (let r = room feed.node j in omega (arith, one_more, r)) h (room_folded room)
      full false e l h room = (h, room_left room (let less = leb-false (size_of (g.bundle feed.node)) (length (t.bundle feed.node j)) e in omega (arith, one_more, less)))

    front : (e i j : ℕ) (feed : Feed) (s : State) → g.fed e ≡ Some feed → i < g.subtasks → j < g.subtasks → IsOpen g limit s → IsHeld s → (changes : List Change) → s.flight e i j ≡ changes → InRange (move_front g limit s e i j feed changes)
    front e i j feed s fed l m open_here h [] is = tt
    front e i j feed s fed l m open_here h (change ∷ rest) is =
        let may = open_here.may e i j feed change rest fed l m is in
        let first = may.few in
        let sends = open_here.few in
        let count = length-append (joined (s.pieces feed.node j)) (s.bundle feed.node j) in
        let flying : AllByRecursion (Sends e) (change ∷ rest) = subst (λ xs. AllByRecursion (Sends e) xs) is (h.0.flight e i j) in
        let comes = stays.arrives e feed fed i j (joined (s.pieces feed.node j) ++ s.bundle feed.node j) change may.ready flying.0 in
        full e i j feed change rest s (nat_le (size_of (g.bundle feed.node)) (length ((joins e i j feed change rest s).bundle feed.node j))) refl m
        (joins_short e i j feed change rest s comes (omega (arith, first, sends, count)) flying.1 h.0) h.1

    channel : (b : Bool) (e i j : ℕ) (feed : Feed) (s : State) → g.fed e ≡ Some feed → is_channel g e i j ≡ b → IsOpen g limit s → IsHeld s
        → InRange (cond b (move_front g limit s e i j feed (s.flight e i j)) (Err (Order NoSuchPlace)))
    channel true e i j feed s fed is open_here h =
        let a = and_parts _ _ is in
        let b = and_parts _ _ a.1 in
        front e i j feed s fed (ltb-true i g.subtasks a.0) (ltb-true j g.subtasks b.0) open_here h (s.flight e i j) refl
    channel false e i j feed s fed is open_here h = tt

    moves : (e i j : ℕ) (s : State) (o : Option Feed) → g.fed e ≡ o → IsOpen g limit s → IsHeld s → InRange (move_to g limit s e i j o)
    moves e i j s None fed open_here h = tt
    moves e i j s (Some feed) fed open_here h = channel (is_channel g e i j) e i j feed s fed refl open_here h

    -- ---- flush

    room_flushed : (v j : ℕ) (s : State) → HasRoom s → HasRoom (folded v j s)
    room_flushed v j s room w k =
        elim ((w == v) && (k == j)) as (λ b. length (cond b [] (s.bundle w k)) + 1 ≤ piece_size (size_of (g.bundle w))) [
          | true ↦ (let l = some_size (size_of (g.bundle w)) in omega (arith, l))
          | false ↦ room w k
        ]

    held : (v j : ℕ) (s : State) (bundle : List Arrival) → j < g.subtasks → IsHeld s → InRange (flush_held g limit s v j bundle)
    held v j s [] l h = h
    held v j s (a ∷ others) l h = flushes v j s l (let r = h.1 v j in omega (arith, r)) h.0 (room_flushed v j s h.1)

    bundled : (v j : ℕ) (s : State) (o : Option ℕ) → j < g.subtasks → IsHeld s → InRange (flush_bundle g limit s v j o)
    bundled v j s None l h = tt
    bundled v j s (Some size) l h = held v j s (s.bundle v j) l h

    place : (b : Bool) (v j : ℕ) (s : State) → is_place g v j ≡ b → IsHeld s → InRange (cond b (flush_bundle g limit s v j (g.bundle v)) (Err (Order NoSuchPlace)))
    place true v j s is h = let a = and_parts _ _ is in let b = and_parts _ _ a.1 in bundled v j s (g.bundle v) (ltb-true j g.subtasks b.1) h
    place false v j s is h = tt

    -- ---- take

    scanned_held : (table i : ℕ) (change : Change) (s : State) → IsShort change → IsHeld s → IsHeld (scanned g table i change s)
    scanned_held table i change s short h = (record { flight = flight; pieces = h.0.pieces; bundle = h.0.bundle; few = h.0.few }, h.1)
      where
        flight : (e k j : ℕ) → AllByRecursion (Sends e) ((scanned g table i change s).flight e k j)
        flight e k j =
            elim (is_scan_of g table e && (k == i)) as (λ b. (is_scan_of g table e && (k == i)) ≡ b → AllByRecursion (Sends e) (cond b (s.flight e k j ++ filter (λ change. goes (g.edge e) k j change.row) (change ∷ [])) (s.flight e k j))) [
              | true ↦ λ q.
                  all-append (Sends e) (s.flight e k j) (filter (λ change. goes (g.edge e) k j change.row) (change ∷ [])) (h.0.flight e k j)
                  (all-filter (Sends e) (λ change. goes (g.edge e) k j change.row) (change ∷ []) (stays.scans table e change (and_parts _ _ q).0 short, tt))
              | false ↦ λ q. h.0.flight e k j
            ] refl

    taken_within : (b : Bool) (table i : ℕ) (change : Change) (s : State) → IsShort change → IsHeld s → InRange (cond b (Ok (scanned g table i change s)) (Err Limit))
    taken_within true table i change s short h = scanned_held table i change s short h
    taken_within false table i change s short h = tt

    taken_unless : (table i : ℕ) (change : Change) (s : State) (o : Option ChangeCode) → IsShort change → IsHeld s → InRange (take_unless g limit s table change i o)
    taken_unless table i change s (Some code) short h = tt
    taken_unless table i change s None short h = taken_within (nat_lt s.took limit && nat_le (s.sends + scan_count g table) limit) table i change s short h

    taken_of : (table : ℕ) (change : Change) (s : State) (o : Option Table) → IsShort change → IsHeld s → InRange (take_of g limit s table change o)
    taken_of table change s None short h = tt
    taken_of table change s (Some t) short h = taken_unless table (scanned_at t change) change s (refusal t (fold t.mode (s.taken table)) change) short h

    -- ---- each item

    pub item_in_range : (s : State) (item : Item) → TakesShort item → IsOpen g limit s → IsHeld s → InRange (step_item g limit s item)
    item_in_range s quiet takes open_here h = (record { flight = h.0.flight; pieces = h.0.pieces; bundle = h.0.bundle; few = h.0.few }, h.1)
    item_in_range s (happens (Take table change)) takes open_here h = taken_of table change s (g.tables table) takes h
    item_in_range s (happens (Move e i j)) takes open_here h = moves e i j s (g.fed e) refl open_here h
    item_in_range s (happens (Flush v j)) takes open_here h = place (is_place g v j) v j s refl h
