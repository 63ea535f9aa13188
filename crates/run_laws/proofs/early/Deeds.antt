-- What a subtask does in one step, as a change of states: it takes a change from a channel, and folds its bundle and hands on what it emits,
-- where that is due.
use Rattle.std.specs.Prelude.{◌≡◌, ℕ, ◌+◌, ◌≤◌, ◌==◌, ◌&&◌, nat_le, Bool, cond, drop, List, ◌++◌, length, map}
use Rattle.std.proofs.Common.{arith, true, false, [], ◌∷◌, refl, sym, ap, ◌∙◌, inl, inr, Ok, Err, append-nil}
use Rattle.std.proofs.Math.Path.{fun_ext}
use Rattle.std.specs.List.{filter}
use Rattle.std.proofs.lemmas.Bool.{eqb-true, eq-eqb, cases_Bool, le-leb, leb-true}
use Rattle.ct_change.specs.declared.change.Change.{Change}
use Rattle.op_rules.specs.Edges.{goes}
use Rattle.op_rules.specs.History.{Arrival}
use Rattle.stream_model.specs.declared.events.PrintItem.{PrintItem}
use Rattle.stream_model.specs.declared.events.PrintItem.TheVariants.{Change as Printed}
use Rattle.stream_model.specs.declared.events.StepFault.TheVariants.{Limit}
use Rattle.stream_model.specs.Network.{Network}
use Rattle.stream_model.specs.Machine.{State, send, print, folded, hand_on, is_scan_of, scanned}
use Rattle.run_laws.proofs.early.Places.{at_both, change_at, put_here, put_off}
use Rattle.run_laws.proofs.early.Edits.{less, popped, holds, more, handed, pops_off, pops_on, handed_both, holds_both, folded_holds, folded_both, scanned_handed}

module _ (g : Network) where
  -- ---- what a subtask hands on: the sink prints it, another node sends it

  abbrev added_if : Bool → ℕ → ℕ → List Change → ℕ → List Change
  added_if last v j out k = cond last [] (filter (λ change. goes (g.edge v) j k change.row) out)

  abbrev shown_if : Bool → List Change → List PrintItem
  shown_if last out = cond last (map Printed out) []

  abbrev gives_if : Bool → ℕ → ℕ → List Change → State → State
  gives_if last v j out s = handed v j out (added_if last v j out) (cond last 0 (length out)) s

  abbrev pub shown : ℕ → List Change → List PrintItem
  shown v out = shown_if (v == g.count) out

  abbrev pub gives : ℕ → ℕ → List Change → State → State
  gives v j out s = gives_if (v == g.count) v j out s

  -- it has printed that behind the rest
  abbrev pub printing : State → List PrintItem → State
  printing s items = record s { printed = s.printed ++ items }

  none_more : (f : ℕ → ℕ → ℕ → List Change) (v j : ℕ) → change_at (more (λ k. [])) v j f ≡ f
  none_more f v j = fun_ext (λ m. fun_ext (λ n. fun_ext (λ k. none_at ((m == v) && (n == j)) m n k refl)))
    where
      none_at : (b : Bool) (m n k : ℕ) → ((m == v) && (n == j)) ≡ b → cond b (more (λ k. []) (f v j)) (f m n) k ≡ f m n k
      none_at false m n k is = refl
      none_at true m n k is = let p = at_both m n v j is in append-nil (f v j k) ∙ ap (λ x. f x j k) (sym p.0) ∙ ap (λ y. f m y k) (sym p.1)

  print_is : (v j : ℕ) (out : List Change) (s : State) → print v j out s ≡ printing (gives_if true v j out s) (shown_if true out)
  print_is v j out s =
      let none : s.sends ≡ s.sends + 0 = omega arith in
      ap (λ (f : ℕ → ℕ → ℕ → List Change). record (print v j out s) { flight = f }) (sym (none_more s.flight v j))
      ∙ ap (λ (n : ℕ). record (print v j out s) { flight = change_at (more (λ k. [])) v j s.flight; sends = n }) none

  send_is : (v j : ℕ) (out : List Change) (s : State) → send g v j out s ≡ printing (gives_if false v j out s) (shown_if false out)
  send_is v j out s = ap (λ (l : List PrintItem). record (send g v j out s) { printed = l }) (sym (append-nil s.printed))

  module _ (limit : ℕ) where
    at_end : (v j : ℕ) (out : List Change) (s : State) → (v == g.count) ≡ true → hand_on g limit v j out s ≡ Ok (print v j out s)
    at_end v j out s is = ap (λ b. cond b (Ok (print v j out s)) (cond (nat_le (s.sends + length out) limit) (Ok (send g v j out s)) (Err Limit))) is

    before_end : (v j : ℕ) (out : List Change) (s : State) → (v == g.count) ≡ false → hand_on g limit v j out s ≡ cond (nat_le (s.sends + length out) limit) (Ok (send g v j out s)) (Err Limit)
    before_end v j out s is = ap (λ b. cond b (Ok (print v j out s)) (cond (nat_le (s.sends + length out) limit) (Ok (send g v j out s)) (Err Limit))) is

    -- it hands on what it may
    hands_if : (b : Bool) (v j : ℕ) (out : List Change) (s : State) → (v == g.count) ≡ b → (gives_if b v j out s).sends ≤ limit → hand_on g limit v j out s ≡ Ok (printing (gives_if b v j out s) (shown_if b out))
    hands_if true v j out s is within = at_end v j out s is ∙ ap Ok (print_is v j out s)
    hands_if false v j out s is within =
        let fits : nat_le (s.sends + length out) limit ≡ true = le-leb (s.sends + length out) limit within in
        before_end v j out s is ∙ ap (λ b. cond b (Ok (send g v j out s)) (Err Limit)) fits ∙ ap Ok (send_is v j out s)

    pub hands : (v j : ℕ) (out : List Change) (s : State) → (gives v j out s).sends ≤ limit → hand_on g limit v j out s ≡ Ok (printing (gives v j out s) (shown v out))
    hands v j out s within = hands_if (v == g.count) v j out s refl within

    -- and what it hands on it may
    fits_if : (b c : Bool) (v j : ℕ) (out : List Change) (s t : State) → s.sends ≤ limit → (v == g.count) ≡ b → nat_le (s.sends + length out) limit ≡ c → hand_on g limit v j out s ≡ Ok t → (gives_if b v j out s).sends ≤ limit
    fits_if true c v j out s t few is fits ok = omega (arith, few)
    fits_if false true v j out s t few is fits ok = leb-true (s.sends + length out) limit fits
    fits_if false false v j out s t few is fits ok =
        absurd (let stuck = sym (before_end v j out s is ∙ ap (λ b. cond b (Ok (send g v j out s)) (Err Limit)) fits) ∙ ok in cc (stuck))

    pub fits : (v j : ℕ) (out : List Change) (s t : State) → s.sends ≤ limit → hand_on g limit v j out s ≡ Ok t → (gives v j out s).sends ≤ limit
    fits v j out s t few ok = fits_if (v == g.count) (nat_le (s.sends + length out) limit) v j out s t few refl refl ok

  -- ---- it takes an arrival, and where it is full then, folds its bundle and hands on what it emits

  abbrev pub done : ℕ → ℕ → Bool → List Change → Arrival → State → State
  done v j true out a s = gives v j out (folded v j (holds v j a s))
  done v j false out a s = holds v j a s

  -- it folds its bundle and hands on what it emits, where it holds something
  abbrev pub flat : ℕ → ℕ → Bool → List Change → State → State
  flat v j true out s = gives v j out (folded v j s)
  flat v j false out s = s

  abbrev pub told : ℕ → Bool → List Change → List PrintItem
  told v true out = shown v out
  told v false out = []

  -- ---- in either order with what another subtask does

  module _ (v j p c : ℕ) (off : (v ≡ p) × (j ≡ c) → ⊥) where
    off_sym : (p ≡ v) × (c ≡ j) → ⊥
    off_sym q = off (sym q.0, sym q.1)

    gives_both : (out others : List Change) (s : State) → gives p c others (gives v j out s) ≡ gives v j out (gives p c others s)
    gives_both out others s =
        handed_both v j p c off out others (added_if (v == g.count) v j out) (added_if (p == g.count) p c others) (cond (v == g.count) 0 (length out)) (cond (p == g.count) 0 (length others)) s

    holds_done : (full : Bool) (out : List Change) (a b : Arrival) (s : State) → holds v j a (done p c full out b s) ≡ done p c full out b (holds v j a s)
    holds_done true out a b s =
        ap (gives p c out) (sym (folded_holds v j p c off a (holds p c b s)) ∙ ap (folded p c) (holds_both p c v j off_sym b a s))
    holds_done false out a b s = holds_both p c v j off_sym b a s

    folded_done : (full : Bool) (out : List Change) (b : Arrival) (s : State) → folded v j (done p c full out b s) ≡ done p c full out b (folded v j s)
    folded_done true out b s = ap (gives p c out) (folded_both p c v j off_sym (holds p c b s) ∙ ap (folded p c) (folded_holds p c v j off_sym b s))
    folded_done false out b s = folded_holds p c v j off_sym b s

    gives_done : (full : Bool) (out others : List Change) (b : Arrival) (s : State) → gives v j out (done p c full others b s) ≡ done p c full others b (gives v j out s)
    gives_done true out others b s = sym (gives_both out others (folded p c (holds p c b s)))
    gives_done false out others b s = refl

    pub done_done : (full all : Bool) (out others : List Change) (a b : Arrival) (s : State) → done v j full out a (done p c all others b s) ≡ done p c all others b (done v j full out a s)
    done_done true all out others a b s =
        ap (λ (x : State). gives v j out (folded v j x)) (holds_done all others a b s)
        ∙ ap (gives v j out) (folded_done all others b (holds v j a s))
        ∙ gives_done all out others b (folded v j (holds v j a s))
    done_done false all out others a b s = holds_done all others a b s

    pub flat_done : (some all : Bool) (out others : List Change) (b : Arrival) (s : State) → flat v j some out (done p c all others b s) ≡ done p c all others b (flat v j some out s)
    flat_done true all out others b s = ap (gives v j out) (folded_done all others b s) ∙ gives_done all out others b (folded v j s)
    flat_done false all out others b s = refl

  -- with a channel of an edge on which it doesn't send
  pub done_pops_off : (a b c v j : ℕ) (full : Bool) (out : List Change) (x : Arrival) (s : State) → ((a ≡ v) → ⊥) → popped a b c (done v j full out x s) ≡ done v j full out x (popped a b c s)
  done_pops_off a b c v j true out x s off = pops_off a b c v j out (added_if (v == g.count) v j out) (cond (v == g.count) 0 (length out)) (folded v j (holds v j x s)) off
  done_pops_off a b c v j false out x s off = refl

  -- with a channel in which something is in front
  pub done_pops_on : (e i j v w : ℕ) (full : Bool) (out : List Change) (x : Arrival) (s : State) (first : Change) (rest : List Change) → s.flight e i j ≡ first ∷ rest
      → popped e i j (done v w full out x s) ≡ done v w full out x (popped e i j s)
  done_pops_on e i j v w true out x s first rest front = pops_on e i j v w out (added_if (v == g.count) v w out) (cond (v == g.count) 0 (length out)) (folded v w (holds v w x s)) first rest front
  done_pops_on e i j v w false out x s first rest front = refl

  pub flat_pops_on : (e i j v w : ℕ) (some : Bool) (out : List Change) (s : State) (first : Change) (rest : List Change) → s.flight e i j ≡ first ∷ rest → popped e i j (flat v w some out s) ≡ flat v w some out (popped e i j s)
  flat_pops_on e i j v w true out s first rest front = pops_on e i j v w out (added_if (v == g.count) v w out) (cond (v == g.count) 0 (length out)) (folded v w s) first rest front
  flat_pops_on e i j v w false out s first rest front = refl

  -- with a scan's sending
  pub scanned_done : (table i v j : ℕ) (change : Change) (full : Bool) (out : List Change) (x : Arrival) (s : State) → is_scan_of g table v ≡ false → done v j full out x (scanned g table i change s) ≡ scanned g table i change (done v j full out x s)
  scanned_done table i v j change true out x s off = scanned_handed g table i change (folded v j (holds v j x s)) v j off out (added_if (v == g.count) v j out) (cond (v == g.count) 0 (length out))
  scanned_done table i v j change false out x s off = refl

  -- ---- what stays, and what a subtask counts

  pub done_bundle : (v j p c : ℕ) (full : Bool) (out : List Change) (a : Arrival) (s : State) → ((p ≡ v) × (c ≡ j) → ⊥) → (done v j full out a s).bundle p c ≡ s.bundle p c
  done_bundle v j p c true out a s off = put_off (holds v j a s).bundle v j p c [] off ∙ put_off s.bundle v j p c (s.bundle v j ++ a ∷ []) off
  done_bundle v j p c false out a s off = put_off s.bundle v j p c (s.bundle v j ++ a ∷ []) off

  pub done_pieces : (v j p c : ℕ) (full : Bool) (out : List Change) (a : Arrival) (s : State) → ((p ≡ v) × (c ≡ j) → ⊥) → (done v j full out a s).pieces p c ≡ s.pieces p c
  done_pieces v j p c true out a s off = put_off s.pieces v j p c (s.pieces v j ++ (holds v j a s).bundle v j ∷ []) off
  done_pieces v j p c false out a s off = refl

  pub flat_bundle : (v j p c : ℕ) (some : Bool) (out : List Change) (s : State) → ((p ≡ v) × (c ≡ j) → ⊥) → (flat v j some out s).bundle p c ≡ s.bundle p c
  flat_bundle v j p c true out s off = put_off s.bundle v j p c [] off
  flat_bundle v j p c false out s off = refl

  pub flat_pieces : (v j p c : ℕ) (some : Bool) (out : List Change) (s : State) → ((p ≡ v) × (c ≡ j) → ⊥) → (flat v j some out s).pieces p c ≡ s.pieces p c
  flat_pieces v j p c true out s off = put_off s.pieces v j p c (s.pieces v j ++ s.bundle v j ∷ []) off
  flat_pieces v j p c false out s off = refl

  -- what is in flight on an edge on which it doesn't send
  pub done_flight : (v j a b c : ℕ) (full : Bool) (out : List Change) (x : Arrival) (s : State) → ((a ≡ v) → ⊥) → (done v j full out x s).flight a b c ≡ s.flight a b c
  done_flight v j a b c true out x s off = ap (λ (row : ℕ → List Change). row c) (put_off s.flight v j a b (more (added_if (v == g.count) v j out) (s.flight v j)) (λ p. off p.0))
  done_flight v j a b c false out x s off = refl

  -- what is in front of a channel stays there
  gives_front : (v j a b c : ℕ) (out : List Change) (s : State) (first : Change) (rest : List Change) → s.flight a b c ≡ first ∷ rest → (left : List Change) × ((gives v j out s).flight a b c ≡ first ∷ left)
  gives_front v j a b c out s first rest front = elim (cases_Bool ((a == v) && (b == j))) [
    | inl here ↦ (
      rest ++ added_if (v == g.count) v j out c,
      (let p = at_both a b v j here in
          let row : (gives v j out s).flight a b ≡ more (added_if (v == g.count) v j out) (s.flight v j) = ap (λ x. cond x (more (added_if (v == g.count) v j out) (s.flight v j)) (s.flight a b)) here in
          let same : s.flight v j c ≡ first ∷ rest = sym (ap (λ x. s.flight x b c) p.0 ∙ ap (λ y. s.flight v y c) p.1) ∙ front in
          ap (λ (r : ℕ → List Change). r c) row ∙ ap (λ l. l ++ added_if (v == g.count) v j out c) same),
    )
    | inr away ↦ (rest, ap (λ x. cond x (more (added_if (v == g.count) v j out) (s.flight v j)) (s.flight a b) c) away ∙ front)
  ]

  pub done_front : (v j a b c : ℕ) (full : Bool) (out : List Change) (x : Arrival) (s : State) (first : Change) (rest : List Change) → s.flight a b c ≡ first ∷ rest → (left : List Change) × ((done v j full out x s).flight a b c ≡ first ∷ left)
  done_front v j a b c true out x s first rest front = gives_front v j a b c out (folded v j (holds v j x s)) first rest front
  done_front v j a b c false out x s first rest front = (rest, front)

  pub flat_front : (v j a b c : ℕ) (some : Bool) (out : List Change) (s : State) (first : Change) (rest : List Change) → s.flight a b c ≡ first ∷ rest → (left : List Change) × ((flat v j some out s).flight a b c ≡ first ∷ left)
  flat_front v j a b c true out s first rest front = gives_front v j a b c out (folded v j s) first rest front
  flat_front v j a b c false out s first rest front = (rest, front)

  pub popped_off : (e i j a b c : ℕ) (s : State) → ((a ≡ e) × (b ≡ i) × (c ≡ j) → ⊥) → (popped e i j s).flight a b c ≡ s.flight a b c
  popped_off e i j a b c s off = elim (cases_Bool ((a == e) && (b == i))) [
    | inl here ↦ (let p = at_both a b e i here in
        ap (λ x. cond x (less j (s.flight e i)) (s.flight a b) c) here
        ∙ ap (λ x. cond x (drop 1 (s.flight e i c)) (s.flight e i c)) (other p.0 p.1)
        ∙ sym (ap (λ x. s.flight x b c) p.0 ∙ ap (λ y. s.flight e y c) p.1))
    | inr away ↦ ap (λ x. cond x (less j (s.flight e i)) (s.flight a b) c) away
  ]
    where
      other : a ≡ e → b ≡ i → (c == j) ≡ false
      other first second = elim (cases_Bool (c == j)) [ inl q ↦ absurd (off (first, second, eqb-true c j q)) | inr q ↦ q ]

  pub popped_here : (e i j : ℕ) (s : State) → (popped e i j s).flight e i j ≡ drop 1 (s.flight e i j)
  popped_here e i j s =
      let here : (j == j) ≡ true = eq-eqb j j refl in
      ap (λ (row : ℕ → List Change). row j) (put_here s.flight e i (less j (s.flight e i))) ∙ ap (λ b. cond b (drop 1 (s.flight e i j)) (s.flight e i j)) here

  -- what a subtask puts into channels
  abbrev pub counts_more : ℕ → Bool → List Change → ℕ
  counts_more v true out = cond (v == g.count) 0 (length out)
  counts_more v false out = 0

  pub done_sends : (v j : ℕ) (full : Bool) (out : List Change) (a : Arrival) (s : State) → (done v j full out a s).sends ≡ s.sends + counts_more v full out
  done_sends v j true out a s = refl
  done_sends v j false out a s = omega arith

  -- nothing else is touched, and what was printed doesn't matter
  pub done_taken : (v j : ℕ) (full : Bool) (out : List Change) (a : Arrival) (s : State) → (done v j full out a s).taken ≡ s.taken
  done_taken v j true out a s = refl
  done_taken v j false out a s = refl

  pub done_took : (v j : ℕ) (full : Bool) (out : List Change) (a : Arrival) (s : State) → (done v j full out a s).took ≡ s.took
  done_took v j true out a s = refl
  done_took v j false out a s = refl

  pub done_printed : (v j : ℕ) (full : Bool) (out : List Change) (a : Arrival) (s : State) → (done v j full out a s).printed ≡ s.printed
  done_printed v j true out a s = refl
  done_printed v j false out a s = refl

  pub flat_printed : (v j : ℕ) (some : Bool) (out : List Change) (s : State) → (flat v j some out s).printed ≡ s.printed
  flat_printed v j true out s = refl
  flat_printed v j false out s = refl

  pub done_hushed : (v j : ℕ) (full : Bool) (out : List Change) (a : Arrival) (s : State) (items : List PrintItem) → done v j full out a (record s { printed = items }) ≡ record (done v j full out a s) { printed = items }
  done_hushed v j true out a s items = refl
  done_hushed v j false out a s items = refl

  pub flat_hushed : (v j : ℕ) (some : Bool) (out : List Change) (s : State) (items : List PrintItem) → flat v j some out (record s { printed = items }) ≡ record (flat v j some out s) { printed = items }
  flat_hushed v j true out s items = refl
  flat_hushed v j false out s items = refl
