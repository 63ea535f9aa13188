-- A step that has nothing to do with a subtask goes before a move to that as it does behind it.
use Rattle.std.specs.Prelude.{◌≡◌, ℕ, ◌+◌, ◌≤◌, ◌==◌, ◌&&◌, Bool, cond, List, ◌++◌, Result}
use Rattle.std.proofs.Common.{arith, true, false, [], ◌∷◌, refl, sym, ap, subst, ◌∙◌, Some, Ok, append-nil}
use Rattle.ct_change.specs.declared.change.Change.{Change}
use Rattle.std.specs.List.{filter}
use Rattle.op_rules.specs.Edges.{goes}
use Rattle.op_rules.specs.History.{arrival}
use Rattle.stream_model.specs.declared.events.Event.TheVariants.{Take, Move, Flush}
use Rattle.stream_model.specs.declared.events.PrintItem.{PrintItem}
use Rattle.stream_model.specs.declared.events.StepFault.{StepFault}
use Rattle.stream_model.specs.Network.{Feed, Network}
use Rattle.stream_model.specs.Machine.{State, scanned, is_scan_of}
use Rattle.stream_model.specs.Runs.{Item, happens, step_item}
use Rattle.run_laws.specs.Early.{hushed}
use Rattle.run_laws.proofs.early.Edits.{popped, pops_both, scanned_pops}
use Rattle.run_laws.proofs.early.Deeds.{done, flat, told, printing, done_done, flat_done, done_pops_off, done_pops_on, flat_pops_on, scanned_done, done_bundle, done_pieces, flat_bundle, flat_pieces, done_flight, done_front, flat_front, popped_off, counts_more, done_sends, done_taken, done_took, done_printed, flat_printed, done_hushed, flat_hushed}
use Rattle.run_laws.proofs.early.Effects.{Moves, moved, Flushes, TakesAs}

module _ (g : Network) (limit : ℕ) where
  -- the item leads from the state to another, printing these
  pub record Does (item : Item) (s t : State) (out : List PrintItem) : Type 0 where
    pub ok : step_item g limit s item ≡ Ok t
    pub printed : t.printed ≡ s.printed ++ out
    pub within : t.sends ≤ limit

  -- what the item and the move do, in the other order
  pub record Swapped (item : Item) (e i j : ℕ) (u w : State) (first second : List PrintItem) : Type 0 where
    pub between : State
    pub end : State
    pub sooner : Does item u between first
    pub later : Does (happens (Move e i j)) between end second
    pub same : hushed end ≡ hushed w

  module _ (e i j : ℕ) (feed : Feed) (fed : g.fed e ≡ Some feed) where
    abbrev M : Bool → List Change → Change → State → State
    M full out change s = moved g limit e i j feed fed full out change s

    abbrev Y : (u v : State) → Moves g limit e i j feed fed u v → State → State
    Y u v m = M m.full m.out m.change

    moved_sends : (full : Bool) (out : List Change) (change : Change) (s : State) → (M full out change s).sends ≡ s.sends + counts_more g feed.node full out
    moved_sends full out change s = done_sends g feed.node j full out (arrival feed.port i change) (popped e i j s)

    pub moved_printed : (full : Bool) (out : List Change) (change : Change) (s : State) → (M full out change s).printed ≡ s.printed
    moved_printed full out change s = done_printed g feed.node j full out (arrival feed.port i change) (popped e i j s)

    pub moved_hushed : (full : Bool) (out : List Change) (change : Change) (s : State) (items : List PrintItem) → M full out change (record s { printed = items }) ≡ record (M full out change s) { printed = items }
    moved_hushed full out change s items = done_hushed g feed.node j full out (arrival feed.port i change) (popped e i j s) items

    -- a move, as it does
    pub moves_does : (s t : State) (m : Moves g limit e i j feed fed s t) → step_item g limit s (happens (Move e i j)) ≡ Ok t → Does (happens (Move e i j)) s t (told g feed.node m.full m.out)
    moves_does s t m ok = record {
      ok = ok;
      printed = ap (λ (x : State). x.printed) m.is ∙ ap (λ l. l ++ told g feed.node m.full m.out) (moved_printed m.full m.out m.change s);
      within = subst (λ (x : State). x.sends ≤ limit) (sym m.is) m.within;
    }

    -- the same from a state in which what it reads is the same
    pub moves_again : (s t : State) (m : Moves g limit e i j feed fed s t) (u : State) (others : List Change) → u.flight e i j ≡ m.change ∷ others → u.bundle feed.node j ≡ s.bundle feed.node j → u.pieces feed.node j ≡ s.pieces feed.node j
        → (Y s t m u).sends ≤ limit → Does (happens (Move e i j)) u (printing g (Y s t m u) (told g feed.node m.full m.out)) (told g feed.node m.full m.out)
    moves_again s t m u others front bundle pieces fine = record {
      ok = m.again u others front bundle pieces fine;
      printed = ap (λ l. l ++ told g feed.node m.full m.out) (moved_printed m.full m.out m.change u);
      within = fine;
    }

    -- ---- beside a step x that leads from v to w, behind the move from u to v

    module _ (u v : State) (m : Moves g limit e i j feed fed u v) (X : State → State) (item : Item) (out : List PrintItem)
        (commutes : Y u v m (X u) ≡ X (Y u v m u)) (front : (left : List Change) × ((X u).flight e i j ≡ m.change ∷ left)) (bundle : (X u).bundle feed.node j ≡ u.bundle feed.node j) (pieces : (X u).pieces feed.node j ≡ u.pieces feed.node j)
        (quiet_x : (s : State) (items : List PrintItem) → X (record s { printed = items }) ≡ record (X s) { printed = items }) (printed_x : (s : State) → (X s).printed ≡ s.printed)
        (w : State) (is : w ≡ printing g (X v) out) (within : (X v).sends ≤ limit) where
      abbrev Between : State
      Between = printing g (X u) out

      -- the number of what is sent in the end
      xv : X v ≡ record (X (Y u v m u)) { printed = (X v).printed }
      xv =
          let there : X v ≡ record (X (Y u v m u)) { printed = (Y u v m u).printed ++ told g feed.node m.full m.out } = ap X m.is ∙ quiet_x (Y u v m u) ((Y u v m u).printed ++ told g feed.node m.full m.out) in
          subst (λ (l : List PrintItem). X v ≡ record (X (Y u v m u)) { printed = l }) (sym (ap (λ (x : State). x.printed) there)) there

      ends_within : (Y u v m (X u)).sends ≤ limit
      ends_within = subst (λ (x : State). x.sends ≤ limit) (sym commutes) (subst (λ (n : ℕ). n ≤ limit) (ap (λ (x : State). x.sends) xv) within)

      pub between_within : (X u).sends ≤ limit
      between_within = let sum = moved_sends m.full m.out m.change (X u) in omega (arith, sum, ends_within)

      ends_from : (Y u v m Between).sends ≤ limit
      ends_from = subst (λ (x : State). x.sends ≤ limit) (sym (moved_hushed m.full m.out m.change (X u) ((X u).printed ++ out))) ends_within

      pub swaps : Does item u Between out → Swapped item e i j u w out (told g feed.node m.full m.out)
      swaps sooner = record {
        between = Between;
        end = printing g (Y u v m Between) (told g feed.node m.full m.out);
        sooner = sooner;
        later = moves_again u v m Between front.0 front.1 bundle pieces ends_from;
        same = ap hushed (moved_hushed m.full m.out m.change (X u) ((X u).printed ++ out)) ∙ ap hushed commutes ∙ sym (ap hushed is ∙ ap hushed xv);
      }

    abbrev U : (u v : State) → Moves g limit e i j feed fed u v → State
    U u v m = Y u v m u

    -- ---- a change that is taken

    behind_front : (b : Bool) (l more : List Change) (first : Change) (rest : List Change) → l ≡ first ∷ rest → (left : List Change) × (cond b (l ++ more) l ≡ first ∷ left)
    behind_front true l more first rest is = (rest ++ more, ap (λ z. z ++ more) is)
    behind_front false l more first rest is = (rest, is)

    module _ (u v w : State) (m : Moves g limit e i j feed fed u v) (table : ℕ) (change : Change) (off : is_scan_of g table feed.node ≡ false) (x : TakesAs g limit table change v w) where
      abbrev T : State → State
      T s = scanned g table x.at change s

      take_commutes : Y u v m (T u) ≡ T (U u v m)
      take_commutes =
          ap (done g feed.node j m.full m.out (arrival feed.port i m.change)) (scanned_pops g table x.at change u e i j m.change m.rest m.front)
          ∙ scanned_done g table x.at feed.node j change m.full m.out (arrival feed.port i m.change) (popped e i j u) off

      take_front : (left : List Change) × ((T u).flight e i j ≡ m.change ∷ left)
      take_front = behind_front (is_scan_of g table e && (i == x.at)) (u.flight e i j) (filter (λ change. goes (g.edge e) i j change.row) (change ∷ [])) m.change m.rest m.front

      silent_take : (s : State) → T s ≡ printing g (T s) []
      silent_take s = ap (λ (l : List PrintItem). record (T s) { printed = l }) (sym (append-nil s.printed))

      pub take_swaps : Swapped (happens (Take table change)) e i j u w [] (told g feed.node m.full m.out)
      take_swaps =
          let taken : u.taken ≡ v.taken = sym (ap (λ (y : State). y.taken) m.is ∙ done_taken g feed.node j m.full m.out (arrival feed.port i m.change) (popped e i j u)) in
          let took : u.took ≡ v.took = sym (ap (λ (y : State). y.took) m.is ∙ done_took g feed.node j m.full m.out (arrival feed.port i m.change) (popped e i j u)) in
          let fine = between_within u v m T (happens (Take table change)) [] take_commutes take_front refl refl (λ s items. refl) (λ s. refl) w (x.is ∙ silent_take v) x.within in
          swaps u v m T (happens (Take table change)) [] take_commutes take_front refl refl (λ s items. refl) (λ s. refl) w (x.is ∙ silent_take v) x.within
          (record { ok = x.again u taken took fine ∙ ap (λ (y : State). (let r : Result State StepFault = Ok y in r)) (silent_take u); printed = refl; within = fine })

    -- ---- a move from another channel

    module _ (u v w : State) (m : Moves g limit e i j feed fed u v) (a b c : ℕ) (port : Feed) (fed_too : g.fed a ≡ Some port) (edge : (a ≡ feed.node) → ⊥) (off : (port.node ≡ feed.node) × (c ≡ j) → ⊥) (x : Moves g limit a b c port fed_too v w) where
      abbrev N : State → State
      N s = moved g limit a b c port fed_too x.full x.out x.change s

      off_back : (feed.node ≡ port.node) × (j ≡ c) → ⊥
      off_back q = off (sym q.0, sym q.1)

      lanes : (e ≡ a) × (i ≡ b) × (j ≡ c) → ⊥
      lanes q =
          let both : Some feed ≡ Some port = sym fed ∙ ap g.fed q.0 ∙ fed_too in
          let same : feed ≡ port = cc (both) in
          off (sym (ap (λ (f : Feed). f.node) same), sym q.2)

      lanes_back : (a ≡ e) × (b ≡ i) × (c ≡ j) → ⊥
      lanes_back q = lanes (sym q.0, sym q.1, sym q.2)

      front_there : (popped a b c u).flight e i j ≡ m.change ∷ m.rest
      front_there = popped_off g a b c e i j u lanes ∙ m.front

      abbrev Dy : State → State
      Dy s = done g feed.node j m.full m.out (arrival feed.port i m.change) s

      abbrev Dx : State → State
      Dx s = done g port.node c x.full x.out (arrival port.port b x.change) s

      move_commutes : Y u v m (N u) ≡ N (U u v m)
      move_commutes =
          ap Dy (done_pops_on g e i j port.node c x.full x.out (arrival port.port b x.change) (popped a b c u) m.change m.rest front_there)
          ∙ done_done g feed.node j port.node c off_back m.full x.full m.out x.out (arrival feed.port i m.change) (arrival port.port b x.change) (popped e i j (popped a b c u))
          ∙ ap (λ s. Dx (Dy s)) (pops_both e i j a b c u)
          ∙ ap Dx (sym (done_pops_off g a b c feed.node j m.full m.out (arrival feed.port i m.change) (popped e i j u) edge))

      same_front : u.flight a b c ≡ x.change ∷ x.rest
      same_front =
          sym (ap (λ (y : State). y.flight a b c) m.is ∙ done_flight g feed.node j a b c m.full m.out (arrival feed.port i m.change) (popped e i j u) edge ∙ popped_off g e i j a b c u lanes_back) ∙ x.front

      same_bundle : u.bundle port.node c ≡ v.bundle port.node c
      same_bundle = sym (ap (λ (y : State). y.bundle port.node c) m.is ∙ done_bundle g feed.node j port.node c m.full m.out (arrival feed.port i m.change) (popped e i j u) off)

      same_pieces : u.pieces port.node c ≡ v.pieces port.node c
      same_pieces = sym (ap (λ (y : State). y.pieces port.node c) m.is ∙ done_pieces g feed.node j port.node c m.full m.out (arrival feed.port i m.change) (popped e i j u) off)

      move_front_is : (left : List Change) × ((N u).flight e i j ≡ m.change ∷ left)
      move_front_is = done_front g port.node c e i j x.full x.out (arrival port.port b x.change) (popped a b c u) m.change m.rest front_there

      move_bundle : (N u).bundle feed.node j ≡ u.bundle feed.node j
      move_bundle = done_bundle g port.node c feed.node j x.full x.out (arrival port.port b x.change) (popped a b c u) off_back

      move_pieces : (N u).pieces feed.node j ≡ u.pieces feed.node j
      move_pieces = done_pieces g port.node c feed.node j x.full x.out (arrival port.port b x.change) (popped a b c u) off_back

      quiet_move : (s : State) (items : List PrintItem) → N (record s { printed = items }) ≡ record (N s) { printed = items }
      quiet_move s items = done_hushed g port.node c x.full x.out (arrival port.port b x.change) (popped a b c s) items

      printed_move : (s : State) → (N s).printed ≡ s.printed
      printed_move s = done_printed g port.node c x.full x.out (arrival port.port b x.change) (popped a b c s)

      pub move_swaps : Swapped (happens (Move a b c)) e i j u w (told g port.node x.full x.out) (told g feed.node m.full m.out)
      move_swaps =
          let fine = between_within u v m N (happens (Move a b c)) (told g port.node x.full x.out) move_commutes move_front_is move_bundle move_pieces quiet_move printed_move w x.is x.within in
          swaps u v m N (happens (Move a b c)) (told g port.node x.full x.out) move_commutes move_front_is move_bundle move_pieces quiet_move printed_move w x.is x.within
          (record { ok = x.again u x.rest same_front same_bundle same_pieces fine; printed = ap (λ l. l ++ told g port.node x.full x.out) (printed_move u); within = fine })

    -- ---- a flush of another bundle

    module _ (u v w : State) (m : Moves g limit e i j feed fed u v) (p c : ℕ) (off : (p ≡ feed.node) × (c ≡ j) → ⊥) (x : Flushes g limit p c v w) where
      abbrev F : State → State
      F s = flat g p c x.some x.out s

      away : (feed.node ≡ p) × (j ≡ c) → ⊥
      away q = off (sym q.0, sym q.1)

      flush_commutes : Y u v m (F u) ≡ F (U u v m)
      flush_commutes =
          ap (done g feed.node j m.full m.out (arrival feed.port i m.change)) (flat_pops_on g e i j p c x.some x.out u m.change m.rest m.front)
          ∙ sym (flat_done g p c feed.node j off x.some m.full x.out m.out (arrival feed.port i m.change) (popped e i j u))

      flush_front_is : (left : List Change) × ((F u).flight e i j ≡ m.change ∷ left)
      flush_front_is = flat_front g p c e i j x.some x.out u m.change m.rest m.front

      flush_bundle_is : (F u).bundle feed.node j ≡ u.bundle feed.node j
      flush_bundle_is = flat_bundle g p c feed.node j x.some x.out u away

      flush_pieces_is : (F u).pieces feed.node j ≡ u.pieces feed.node j
      flush_pieces_is = flat_pieces g p c feed.node j x.some x.out u away

      held_bundle : u.bundle p c ≡ v.bundle p c
      held_bundle = sym (ap (λ (y : State). y.bundle p c) m.is ∙ done_bundle g feed.node j p c m.full m.out (arrival feed.port i m.change) (popped e i j u) off)

      held_pieces : u.pieces p c ≡ v.pieces p c
      held_pieces = sym (ap (λ (y : State). y.pieces p c) m.is ∙ done_pieces g feed.node j p c m.full m.out (arrival feed.port i m.change) (popped e i j u) off)

      quiet_flush : (s : State) (items : List PrintItem) → F (record s { printed = items }) ≡ record (F s) { printed = items }
      quiet_flush s items = flat_hushed g p c x.some x.out s items

      printed_flush : (s : State) → (F s).printed ≡ s.printed
      printed_flush s = flat_printed g p c x.some x.out s

      pub flush_swaps : Swapped (happens (Flush p c)) e i j u w (told g p x.some x.out) (told g feed.node m.full m.out)
      flush_swaps =
          let fine = between_within u v m F (happens (Flush p c)) (told g p x.some x.out) flush_commutes flush_front_is flush_bundle_is flush_pieces_is quiet_flush printed_flush w x.is x.within in
          swaps u v m F (happens (Flush p c)) (told g p x.some x.out) flush_commutes flush_front_is flush_bundle_is flush_pieces_is quiet_flush printed_flush w x.is x.within
          (record { ok = x.again u held_bundle held_pieces fine; printed = ap (λ l. l ++ told g p x.some x.out) (printed_flush u); within = fine })
