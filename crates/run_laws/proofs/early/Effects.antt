-- Steps of the machine as changes of states, which go the same way from each state in which what they read is the same.
use Rattle.std.specs.Prelude.{◌≡◌, ℕ, ◌+◌, ◌≤◌, ◌==◌, ◌&&◌, nat_le, nat_lt, Bool, cond, drop, List, ◌++◌, length, Option, Result}
use Rattle.std.proofs.Common.{true, false, [], ◌∷◌, refl, sym, ap, ◌∙◌, inl, inr, Some, None, Ok, Err, append-nil}
use Rattle.std.proofs.Math.Path.{fun_ext}
use Rattle.std.proofs.lemmas.Bool.{eqb-true, cases_Bool, le-leb, leb-true}
use Rattle.ct_value.specs.declared.codes.ChangeCode.{ChangeCode}
use Rattle.ct_value.specs.declared.codes.OrderCode.TheVariants.{NoSuchPlace, TooFew}
use Rattle.ct_change.specs.declared.change.Change.{Change}
use Rattle.ct_change.specs.Changelog.{fold}
use Rattle.op_rules.specs.History.{Arrival, arrival, joined}
use Rattle.op_rules.specs.Rules.{Answer}
use Rattle.stream_model.specs.declared.events.PrintItem.{PrintItem}
use Rattle.stream_model.specs.declared.events.StepFault.{StepFault}
use Rattle.stream_model.specs.declared.events.StepFault.TheVariants.{Order, Limit}
use Rattle.stream_model.specs.Tables.{Table, scanned_at, refusal}
use Rattle.stream_model.specs.Network.{Feed, Network}
use Rattle.stream_model.specs.Machine.{State, put, joins, folded, answered, flushed, size_of, flushed_if_full, is_channel, move, move_front, move_to, flush, flush_held, flush_bundle, is_place, scan_count, scanned, take, take_of, take_unless, take_within}
use Rattle.run_laws.proofs.early.Places.{put_here}
use Rattle.run_laws.proofs.early.Edits.{popped, holds}
use Rattle.run_laws.proofs.early.Deeds.{done, flat, told, printing, gives, shown, hands, fits}

module _ (g : Network) (limit : ℕ) where
  -- ---- a subtask folds what it holds, and hands on what it emits

  module _ (v j : ℕ) (s : State) where
    abbrev Answers : Answer
    Answers = g.emits v (joined (s.pieces v j)) (s.bundle v j)

    answers_at : (u : State) (answer : Answer) → u.bundle v j ≡ s.bundle v j → u.pieces v j ≡ s.pieces v j → Answers ≡ answer → flushed g limit v j u ≡ answered g limit v j answer (folded v j u)
    answers_at u answer bundle pieces is =
        ap (λ (l : List Arrival). answered g limit v j (g.emits v (joined (u.pieces v j)) l) (folded v j u)) bundle
        ∙ ap (λ (l : List (List Arrival)). answered g limit v j (g.emits v (joined l) (s.bundle v j)) (folded v j u)) pieces
        ∙ ap (λ a. answered g limit v j a (folded v j u)) is

    pub record Folds (t : State) : Type 0 where
      pub out : List Change
      pub is : t ≡ printing g (gives g v j out (folded v j s)) (shown g v out)
      pub within : (gives g v j out (folded v j s)).sends ≤ limit
      pub again : (u : State) → u.bundle v j ≡ s.bundle v j → u.pieces v j ≡ s.pieces v j → (gives g v j out (folded v j u)).sends ≤ limit
          → flushed g limit v j u ≡ Ok (printing g (gives g v j out (folded v j u)) (shown g v out))

    folds_answer : (answer : Answer) (t : State) → Answers ≡ answer → s.sends ≤ limit → answered g limit v j answer (folded v j s) ≡ Ok t → Folds t
    folds_answer (Err row) t is few ok = absurd (cc (ok))
    folds_answer (Ok out) t is few ok =
        let within = fits g limit v j out (folded v j s) t few ok in
        let there = hands g limit v j out (folded v j s) within in
        record {
          out = out;
          is = let both = sym ok ∙ there in cc (both);
          within = within;
          again = λ u bundle pieces fine. answers_at u (Ok out) bundle pieces is ∙ hands g limit v j out (folded v j u) fine;
        }

    pub folds : (t : State) → s.sends ≤ limit → flushed g limit v j s ≡ Ok t → Folds t
    folds t few ok = folds_answer Answers t refl few ok

  -- ---- a move

  module _ (e i j : ℕ) (feed : Feed) (fed : g.fed e ≡ Some feed) where
    abbrev pub moved : Bool → List Change → Change → State → State
    moved full out change s = done g feed.node j full out (arrival feed.port i change) (popped e i j s)

    pub record Moves (s t : State) : Type 0 where
      pub full : Bool
      pub out : List Change
      pub change : Change
      pub rest : List Change
      pub front : s.flight e i j ≡ change ∷ rest
      pub is : t ≡ printing g (moved full out change s) (told g feed.node full out)
      pub within : (moved full out change s).sends ≤ limit
      pub again : (u : State) (others : List Change) → u.flight e i j ≡ change ∷ others → u.bundle feed.node j ≡ s.bundle feed.node j → u.pieces feed.node j ≡ s.pieces feed.node j → (moved full out change u).sends ≤ limit
          → move g limit u e i j ≡ Ok (printing g (moved full out change u) (told g feed.node full out))

    module _ (change : Change) where
      abbrev Start : State → State
      Start u = holds feed.node j (arrival feed.port i change) (popped e i j u)

      row_at : (u : State) (others : List Change) (b : Bool) (k : ℕ) → u.flight e i j ≡ change ∷ others → (k == j) ≡ b → cond b others (u.flight e i k) ≡ cond b (drop 1 (u.flight e i k)) (u.flight e i k)
      row_at u others false k front is = refl
      row_at u others true k front is = sym (ap (drop 1) (ap (u.flight e i) (eqb-true k j is) ∙ front))

      joins_is : (u : State) (others : List Change) → u.flight e i j ≡ change ∷ others → joins e i j feed change others u ≡ Start u
      joins_is u others front =
          ap (λ (row : ℕ → List Change). record u { flight = put u.flight e i row; bundle = put u.bundle feed.node j (u.bundle feed.node j ++ arrival feed.port i change ∷ []) })
          (fun_ext (λ k. row_at u others (k == j) k front refl))

      start_bundle : (u : State) → (Start u).bundle feed.node j ≡ u.bundle feed.node j ++ arrival feed.port i change ∷ []
      start_bundle u = put_here u.bundle feed.node j (u.bundle feed.node j ++ arrival feed.port i change ∷ [])

      module _ (channel : is_channel g e i j ≡ true) (s : State) where
        goes_from : (u : State) (others : List Change) → u.flight e i j ≡ change ∷ others → move g limit u e i j ≡ flushed_if_full g limit feed.node j (Start u)
        goes_from u others is =
            ap (λ o. move_to g limit u e i j o) fed
            ∙ ap (λ b. cond b (move_front g limit u e i j feed (u.flight e i j)) (Err (Order NoSuchPlace))) channel
            ∙ ap (λ l. move_front g limit u e i j feed l) is
            ∙ ap (flushed_if_full g limit feed.node j) (joins_is u others is)

        same_start : (u : State) → u.bundle feed.node j ≡ s.bundle feed.node j → (Start u).bundle feed.node j ≡ (Start s).bundle feed.node j
        same_start u same = start_bundle u ∙ ap (λ (l : List Arrival). l ++ arrival feed.port i change ∷ []) same ∙ sym (start_bundle s)

        full_at : (u : State) (full : Bool) → u.bundle feed.node j ≡ s.bundle feed.node j → nat_le (size_of (g.bundle feed.node)) (length ((Start s).bundle feed.node j)) ≡ full
            → flushed_if_full g limit feed.node j (Start u) ≡ cond full (flushed g limit feed.node j (Start u)) (Ok (Start u))
        full_at u full same is =
            ap (λ (l : List Arrival). cond (nat_le (size_of (g.bundle feed.node)) (length l)) (flushed g limit feed.node j (Start u)) (Ok (Start u))) (same_start u same)
            ∙ ap (λ b. cond b (flushed g limit feed.node j (Start u)) (Ok (Start u))) is

        moves_full : (rest : List Change) (full : Bool) (t : State) → s.flight e i j ≡ change ∷ rest → s.sends ≤ limit → nat_le (size_of (g.bundle feed.node)) (length ((Start s).bundle feed.node j)) ≡ full
            → cond full (flushed g limit feed.node j (Start s)) (Ok (Start s)) ≡ Ok t → Moves s t
        moves_full rest true t front few is ok =
            let f = folds feed.node j (Start s) t few ok in
            record {
              full = true;
              out = f.out;
              change = change;
              rest = rest;
              front = front;
              is = f.is;
              within = f.within;
              again = λ u others now bundle pieces fine. goes_from u others now ∙ full_at u true bundle is ∙ f.again (Start u) (same_start u bundle) pieces fine;
            }
        moves_full rest false t front few is ok = record {
          full = false;
          out = [];
          change = change;
          rest = rest;
          front = front;
          is = let same : Start s ≡ t = cc (ok) in sym same ∙ ap (λ (l : List PrintItem). record (Start s) { printed = l }) (sym (append-nil s.printed));
          within = few;
          again = λ u others now bundle pieces fine.
              goes_from u others now ∙ full_at u false bundle is ∙ ap (λ (l : List PrintItem). (let r : Result State StepFault = Ok (record (Start u) { printed = l }) in r)) (sym (append-nil u.printed));
        }

        moves_change : (rest : List Change) (t : State) → s.flight e i j ≡ change ∷ rest → s.sends ≤ limit → move g limit s e i j ≡ Ok t → Moves s t
        moves_change rest t front few ok =
            let full = nat_le (size_of (g.bundle feed.node)) (length ((Start s).bundle feed.node j)) in
            moves_full rest full t front few refl (sym (goes_from s rest front ∙ full_at s full refl refl) ∙ ok)

    moves_front : (s t : State) (l : List Change) → is_channel g e i j ≡ true → s.flight e i j ≡ l → s.sends ≤ limit → move g limit s e i j ≡ Ok t → Moves s t
    moves_front s t (change ∷ rest) channel front few ok = moves_change change channel s rest t front few ok
    moves_front s t [] channel front few ok =
        let stuck : move g limit s e i j ≡ Err (Order (TooFew 0)) =
        ap (λ o. move_to g limit s e i j o) fed ∙ ap (λ b. cond b (move_front g limit s e i j feed (s.flight e i j)) (Err (Order NoSuchPlace))) channel ∙ ap (λ l. move_front g limit s e i j feed l) front in
        absurd (let both = sym stuck ∙ ok in cc (both))

    pub moves_as : (s t : State) → s.sends ≤ limit → move g limit s e i j ≡ Ok t → Moves s t
    moves_as s t few ok = elim (cases_Bool (is_channel g e i j)) [
      | inl channel ↦ moves_front s t (s.flight e i j) channel refl few ok
      | inr none ↦
          let stuck : move g limit s e i j ≡ Err (Order NoSuchPlace) = ap (λ o. move_to g limit s e i j o) fed ∙ ap (λ b. cond b (move_front g limit s e i j feed (s.flight e i j)) (Err (Order NoSuchPlace))) none in
          absurd (let both = sym stuck ∙ ok in cc (both))
    ]

  -- a move of an edge that feeds nothing can't be
  pub fed_by : (e i j : ℕ) (s t : State) (o : Option Feed) → g.fed e ≡ o → move g limit s e i j ≡ Ok t → (feed : Feed) × (g.fed e ≡ Some feed)
  fed_by e i j s t (Some feed) fed ok = (feed, fed)
  fed_by e i j s t None fed ok = absurd (let both = sym (ap (λ o. move_to g limit s e i j o) fed) ∙ ok in cc (both))

  -- ---- a flush

  module _ (v j : ℕ) where
    pub record Flushes (s t : State) : Type 0 where
      pub some : Bool
      pub out : List Change
      pub is : t ≡ printing g (flat g v j some out s) (told g v some out)
      pub within : (flat g v j some out s).sends ≤ limit
      pub again : (u : State) → u.bundle v j ≡ s.bundle v j → u.pieces v j ≡ s.pieces v j → (flat g v j some out u).sends ≤ limit → flush g limit u v j ≡ Ok (printing g (flat g v j some out u) (told g v some out))

    module _ (s t : State) (place : is_place g v j ≡ true) (size : ℕ) (bundled : g.bundle v ≡ Some size) where
      held_at : (u : State) (l : List Arrival) → u.bundle v j ≡ l → flush g limit u v j ≡ flush_held g limit u v j l
      held_at u l is =
          ap (λ b. cond b (flush_bundle g limit u v j (g.bundle v)) (Err (Order NoSuchPlace))) place ∙ ap (λ o. flush_bundle g limit u v j o) bundled ∙ ap (λ b. flush_held g limit u v j b) is

      flushes_held : (l : List Arrival) → s.bundle v j ≡ l → s.sends ≤ limit → flush_held g limit s v j l ≡ Ok t → Flushes s t
      flushes_held [] is few ok = record {
        some = false;
        out = [];
        is = let same : s ≡ t = cc (ok) in sym same ∙ ap (λ (l : List PrintItem). record s { printed = l }) (sym (append-nil s.printed));
        within = few;
        again = λ u bundle pieces fine. held_at u [] (bundle ∙ is) ∙ ap (λ (l : List PrintItem). (let r : Result State StepFault = Ok (record u { printed = l }) in r)) (sym (append-nil u.printed));
      }
      flushes_held (a ∷ others) is few ok =
          let f = folds v j s t few ok in
          record {
            some = true;
            out = f.out;
            is = f.is;
            within = f.within;
            again = λ u bundle pieces fine. held_at u (a ∷ others) (bundle ∙ is) ∙ f.again u bundle pieces fine;
          }

    flushes_bundle : (s t : State) (o : Option ℕ) → is_place g v j ≡ true → g.bundle v ≡ o → s.sends ≤ limit → flush g limit s v j ≡ Ok t → Flushes s t
    flushes_bundle s t (Some size) place is few ok = flushes_held s t place size is (s.bundle v j) refl few (sym (held_at s t place size is s (s.bundle v j) refl) ∙ ok)
    flushes_bundle s t None place is few ok =
        let stuck = ap (λ b. cond b (flush_bundle g limit s v j (g.bundle v)) (Err (Order NoSuchPlace))) place ∙ ap (λ o. flush_bundle g limit s v j o) is in
        absurd (let both = sym stuck ∙ ok in cc (both))

    pub flushes_as : (s t : State) → s.sends ≤ limit → flush g limit s v j ≡ Ok t → Flushes s t
    flushes_as s t few ok = elim (cases_Bool (is_place g v j)) [
      | inl place ↦ flushes_bundle s t (g.bundle v) place refl few ok
      | inr none ↦
          let stuck = ap (λ b. cond b (flush_bundle g limit s v j (g.bundle v)) (Err (Order NoSuchPlace))) none in
          absurd (let both = sym stuck ∙ ok in cc (both))
    ]

  -- ---- a change that is taken

  module _ (table : ℕ) (change : Change) where
    pub record TakesAs (s t : State) : Type 0 where
      pub at : ℕ
      pub is : t ≡ scanned g table at change s
      pub within : (scanned g table at change s).sends ≤ limit
      pub again : (u : State) → u.taken ≡ s.taken → u.took ≡ s.took → (scanned g table at change u).sends ≤ limit → take g limit u table change ≡ Ok (scanned g table at change u)

    module _ (s t : State) (of : Table) (is_of : g.tables table ≡ Some of) where
      room_at : (u : State) (i : ℕ) → nat_lt u.took limit ≡ true → (scanned g table i change u).sends ≤ limit → take_within g limit u table change i ≡ Ok (scanned g table i change u)
      room_at u i few within =
          let more : nat_le (u.sends + scan_count g table) limit ≡ true = le-leb (u.sends + scan_count g table) limit within in
          rw (few, more) refl

      takes_room : (b c : Bool) → nat_lt s.took limit ≡ b → nat_le (s.sends + scan_count g table) limit ≡ c → refusal of (fold of.mode (s.taken table)) change ≡ None
          → cond (b && c) (Ok (scanned g table (scanned_at of change) change s)) (Err Limit) ≡ Ok t → TakesAs s t
      takes_room true true few room none ok = record {
        at = scanned_at of change;
        is = let same : scanned g table (scanned_at of change) change s ≡ t = cc (ok) in sym same;
        within = leb-true (s.sends + scan_count g table) limit room;
        again = λ u taken took fine.
            ap (λ o. take_of g limit u table change o) is_of
            ∙ ap (λ (l : ℕ → List Change). take_unless g limit u table change (scanned_at of change) (refusal of (fold of.mode (l table)) change)) taken
            ∙ ap (λ o. take_unless g limit u table change (scanned_at of change) o) none
            ∙ room_at u (scanned_at of change) (ap (λ n. nat_lt n limit) took ∙ few) fine;
      }
      takes_room true false few room none ok = absurd (cc (ok))
      takes_room false c few room none ok = absurd (cc (ok))

      takes_unless : (o : Option ChangeCode) → refusal of (fold of.mode (s.taken table)) change ≡ o → take_unless g limit s table change (scanned_at of change) o ≡ Ok t → TakesAs s t
      takes_unless (Some code) is ok = absurd (cc (ok))
      takes_unless None is ok = takes_room (nat_lt s.took limit) (nat_le (s.sends + scan_count g table) limit) refl refl is ok

    takes_of : (s t : State) (o : Option Table) → g.tables table ≡ o → take g limit s table change ≡ Ok t → TakesAs s t
    takes_of s t (Some of) is ok =
        takes_unless s t of is (refusal of (fold of.mode (s.taken table)) change) refl (sym (ap (λ o. take_of g limit s table change o) is) ∙ ok)
    takes_of s t None is ok = absurd (let both = sym (ap (λ o. take_of g limit s table change o) is) ∙ ok in cc (both))

    pub takes_as : (s t : State) → take g limit s table change ≡ Ok t → TakesAs s t
    takes_as s t ok = takes_of s t (g.tables table) refl ok
