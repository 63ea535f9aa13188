-- What steps do to a state, in pieces that may be done in either order.
use Rattle.std.specs.Prelude.{◌≡◌, ℕ, ◌+◌, ◌==◌, ◌&&◌, Bool, cond, drop, List, ◌++◌}
use Rattle.std.proofs.Common.{arith, true, false, [], ◌∷◌, refl, sym, ap, subst, ◌∙◌, inl, inr}
use Rattle.std.proofs.Math.Path.{fun_ext}
use Rattle.std.specs.List.{filter}
use Rattle.std.proofs.lemmas.Bool.{eqb-true}
use Rattle.ct_change.specs.declared.change.Change.{Change}
use Rattle.op_rules.specs.Edges.{goes}
use Rattle.op_rules.specs.History.{Arrival}
use Rattle.stream_model.specs.Network.{Network}
use Rattle.stream_model.specs.Machine.{State, put, folded, is_scan_of, scan_count, scanned}
use Rattle.run_laws.proofs.early.Places.{at_both, change_at, put_off, put_swap, swap_at, same_or_off, same_place, both_ways}

-- ---- the pieces

-- one change less stands in front of a channel
abbrev pub less : ℕ → (ℕ → List Change) → ℕ → List Change
less j row k = cond (k == j) (drop 1 (row k)) (row k)

abbrev pub popped : ℕ → ℕ → ℕ → State → State
popped e i j s = record s { flight = change_at (less j) e i s.flight }

-- a bundle holds an arrival more
abbrev pub holds : ℕ → ℕ → Arrival → State → State
holds v j a s = record s { bundle = change_at (λ l. l ++ a ∷ []) v j s.bundle }

-- a subtask has sent changes, these are behind what is in flight from it, and count so many
abbrev pub more : (ℕ → List Change) → (ℕ → List Change) → ℕ → List Change
more added row k = row k ++ added k

abbrev pub handed : ℕ → ℕ → List Change → (ℕ → List Change) → ℕ → State → State
handed v j out added n s = record s { sent = change_at (λ l. l ++ out) v j s.sent; flight = change_at (more added) v j s.flight; sends = s.sends + n }

-- ---- two of them at different subtasks

two_drops : (p q : Bool) (l : List Change) → cond q (drop 1 (cond p (drop 1 l) l)) (cond p (drop 1 l) l) ≡ cond p (drop 1 (cond q (drop 1 l) l)) (cond q (drop 1 l) l)
two_drops true true l = refl
two_drops true false l = refl
two_drops false q l = refl

pub pops_both : (a b c e i j : ℕ) (s : State) → popped a b c (popped e i j s) ≡ popped e i j (popped a b c s)
pops_both a b c e i j s =
    ap (λ (f : ℕ → ℕ → ℕ → List Change). record s { flight = f }) (both_ways s.flight e i a b (less j) (less c) (λ row. fun_ext (λ k. two_drops (k == j) (k == c) (row k))))

-- a channel of an edge on which the subtask doesn't send
pub pops_off : (a b c v j : ℕ) (out : List Change) (added : ℕ → List Change) (n : ℕ) (s : State) → ((a ≡ v) → ⊥) → popped a b c (handed v j out added n s) ≡ handed v j out added n (popped a b c s)
pops_off a b c v j out added n s off =
    ap (λ (f : ℕ → ℕ → ℕ → List Change). record s { sent = change_at (λ l. l ++ out) v j s.sent; flight = f; sends = s.sends + n })
    (swap_at s.flight v j a b (more added) (less c) (λ p. off (sym p.0)))

-- a channel in which something is in front
module _ (e i j v w : ℕ) (out : List Change) (added : ℕ → List Change) (n : ℕ) (s : State) (first : Change) (rest : List Change) (front : s.flight e i j ≡ first ∷ rest) where
  front_stays : (b : Bool) (k : ℕ) → (k == j) ≡ b → cond b (drop 1 (s.flight e i k)) (s.flight e i k) ++ added k ≡ cond b (drop 1 (s.flight e i k ++ added k)) (s.flight e i k ++ added k)
  front_stays false k is = refl
  front_stays true k is =
      let here : s.flight e i k ≡ first ∷ rest = ap (s.flight e i) (eqb-true k j is) ∙ front in
      ap (λ l. drop 1 l ++ added k) here ∙ sym (ap (λ l. drop 1 (l ++ added k)) here)

  flight_on : change_at (less j) e i (change_at (more added) v w s.flight) ≡ change_at (more added) v w (change_at (less j) e i s.flight)
  flight_on = elim (same_or_off e i v w) [
    | inl p ↦ sym (same_place s.flight e i v w (less j) (more added) p.0 p.1 (fun_ext (λ k. front_stays (k == j) k refl)))
    | inr off ↦ sym (swap_at s.flight e i v w (less j) (more added) off)
  ]

  pub pops_on : popped e i j (handed v w out added n s) ≡ handed v w out added n (popped e i j s)
  pops_on = ap (λ (f : ℕ → ℕ → ℕ → List Change). record s { sent = change_at (λ l. l ++ out) v w s.sent; flight = f; sends = s.sends + n }) flight_on

module _ (v j p c : ℕ) (off : (v ≡ p) × (j ≡ c) → ⊥) where
  off_sym : (p ≡ v) × (c ≡ j) → ⊥
  off_sym q = off (sym q.0, sym q.1)

  pub handed_both : (out others : List Change) (added adding : ℕ → List Change) (n m : ℕ) (s : State) → handed p c others adding m (handed v j out added n s) ≡ handed v j out added n (handed p c others adding m s)
  handed_both out others added adding n m s =
      let sum : (s.sends + n) + m ≡ (s.sends + m) + n = omega arith in
      ap (λ (x : ℕ → ℕ → List Change). record s { sent = x; flight = change_at (more adding) p c (change_at (more added) v j s.flight); sends = (s.sends + n) + m })
      (swap_at s.sent v j p c (λ l. l ++ out) (λ l. l ++ others) off)
      ∙ ap (λ (f : ℕ → ℕ → ℕ → List Change). record s { sent = change_at (λ l. l ++ out) v j (change_at (λ l. l ++ others) p c s.sent); flight = f; sends = (s.sends + n) + m })
      (swap_at s.flight v j p c (more added) (more adding) off)
      ∙ ap (λ (k : ℕ). record s { sent = change_at (λ l. l ++ out) v j (change_at (λ l. l ++ others) p c s.sent); flight = change_at (more added) v j (change_at (more adding) p c s.flight); sends = k }) sum

  pub holds_both : (a b : Arrival) (s : State) → holds p c b (holds v j a s) ≡ holds v j a (holds p c b s)
  holds_both a b s = ap (λ (x : ℕ → ℕ → List Arrival). record s { bundle = x }) (swap_at s.bundle v j p c (λ l. l ++ a ∷ []) (λ l. l ++ b ∷ []) off)

  pub folded_holds : (a : Arrival) (s : State) → folded p c (holds v j a s) ≡ holds v j a (folded p c s)
  folded_holds a s =
      ap (λ (x : List Arrival). record s { pieces = put s.pieces p c (s.pieces p c ++ x ∷ []); bundle = put (change_at (λ l. l ++ a ∷ []) v j s.bundle) p c [] }) (put_off s.bundle v j p c (s.bundle v j ++ a ∷ []) off_sym)
      ∙ ap (λ (b : ℕ → ℕ → List Arrival). record s { pieces = put s.pieces p c (s.pieces p c ++ s.bundle p c ∷ []); bundle = b }) (swap_at s.bundle v j p c (λ l. l ++ a ∷ []) (λ l. []) off)

  pub folded_both : (s : State) → folded p c (folded v j s) ≡ folded v j (folded p c s)
  folded_both s =
      ap (λ (x : List Arrival). record s {
        pieces = put (put s.pieces v j (s.pieces v j ++ s.bundle v j ∷ [])) p c (put s.pieces v j (s.pieces v j ++ s.bundle v j ∷ []) p c ++ x ∷ []);
        bundle = put (put s.bundle v j []) p c [];
      }) (put_off s.bundle v j p c [] off_sym)
      ∙ ap (λ (x : ℕ → ℕ → List (List Arrival)). record s { pieces = x; bundle = put (put s.bundle v j []) p c [] })
      (swap_at s.pieces v j p c (λ l. l ++ s.bundle v j ∷ []) (λ l. l ++ s.bundle p c ∷ []) off)
      ∙ ap (λ (b : ℕ → ℕ → List Arrival). record s { pieces = put (put s.pieces p c (s.pieces p c ++ s.bundle p c ∷ [])) v j (put s.pieces p c (s.pieces p c ++ s.bundle p c ∷ []) v j ++ s.bundle v j ∷ []); bundle = b })
      (put_swap s.bundle v j p c [] [] off)
      ∙ ap (λ (x : List Arrival). record s {
        pieces = put (put s.pieces p c (s.pieces p c ++ s.bundle p c ∷ [])) v j (put s.pieces p c (s.pieces p c ++ s.bundle p c ∷ []) v j ++ x ∷ []);
        bundle = put (put s.bundle p c []) v j [];
      }) (sym (put_off s.bundle p c v j [] off))

-- ---- a scan sends a change

module _ (g : Network) (table i : ℕ) (change : Change) (s : State) where
  abbrev Scans : ℕ → ℕ → Bool
  Scans v k = is_scan_of g table v && (k == i)

  abbrev adds : ℕ → ℕ → ℕ → List Change
  adds e k j = filter (λ change. goes (g.edge e) k j change.row) (change ∷ [])

  abbrev Flown : (ℕ → ℕ → ℕ → List Change) → ℕ → ℕ → ℕ → List Change
  Flown f e k j = cond (Scans e k) (f e k j ++ adds e k j) (f e k j)

  scan_less : (q r : Bool) (l m : List Change) → (r ≡ true → (x : Change) × (xs : List Change) × (l ≡ x ∷ xs)) → cond r (drop 1 (cond q (l ++ m) l)) (cond q (l ++ m) l) ≡ cond q (cond r (drop 1 l) l ++ m) (cond r (drop 1 l) l)
  scan_less true true l m front = let h = front refl in ap (λ z. drop 1 (z ++ m)) h.2 ∙ sym (ap (λ z. drop 1 z ++ m) h.2)
  scan_less true false l m front = refl
  scan_less false true l m front = refl
  scan_less false false l m front = refl

  module _ (e w j : ℕ) (first : Change) (rest : List Change) (front : s.flight e w j ≡ first ∷ rest) where
    flown_here : (k : ℕ) → less j (Flown s.flight e w) k ≡ cond (Scans e w) (less j (s.flight e w) k ++ adds e w k) (less j (s.flight e w) k)
    flown_here k = scan_less (Scans e w) (k == j) (s.flight e w k) (adds e w k) (λ is. (first, rest, ap (s.flight e w) (eqb-true k j is) ∙ front))

    flown_at : (b : Bool) (m n k : ℕ) → ((m == e) && (n == w)) ≡ b
        → cond b (less j (Flown s.flight e w)) (Flown s.flight m n) k ≡ cond (Scans m n) (cond b (less j (s.flight e w)) (s.flight m n) k ++ adds m n k) (cond b (less j (s.flight e w)) (s.flight m n) k)
    flown_at false m n k is = refl
    flown_at true m n k is =
        let p = at_both m n e w is in
        subst (λ x. less j (Flown s.flight e w) k ≡ cond (Scans x n) (less j (s.flight e w) k ++ adds x n k) (less j (s.flight e w) k)) (sym p.0)
        (subst (λ y. less j (Flown s.flight e w) k ≡ cond (Scans e y) (less j (s.flight e w) k ++ adds e y k) (less j (s.flight e w) k)) (sym p.1) (flown_here k))

    pub scanned_pops : popped e w j (scanned g table i change s) ≡ scanned g table i change (popped e w j s)
    scanned_pops =
        ap (λ (f : ℕ → ℕ → ℕ → List Change). record (scanned g table i change s) { flight = f }) (fun_ext (λ m. fun_ext (λ n. fun_ext (λ k. flown_at ((m == e) && (n == w)) m n k refl))))

  module _ (v j : ℕ) (no_scan : is_scan_of g table v ≡ false) where
    never : (k : ℕ) → Scans v k ≡ false
    never k = rw no_scan refl

    sent_at : (b : Bool) (m n : ℕ) (out : List Change) → ((m == v) && (n == j)) ≡ b
        → cond b (cond (Scans v j) (s.sent v j ++ change ∷ []) (s.sent v j) ++ out) (cond (Scans m n) (s.sent m n ++ change ∷ []) (s.sent m n))
        ≡ cond (Scans m n) (cond b (s.sent v j ++ out) (s.sent m n) ++ change ∷ []) (cond b (s.sent v j ++ out) (s.sent m n))
    sent_at false m n out is = refl
    sent_at true m n out is =
        let p = at_both m n v j is in
        let off : Scans m n ≡ false = ap (λ x. Scans x n) p.0 ∙ never n in
        ap (λ b. cond b (s.sent v j ++ change ∷ []) (s.sent v j) ++ out) (never j) ∙ sym (ap (λ b. cond b ((s.sent v j ++ out) ++ change ∷ []) (s.sent v j ++ out)) off)

    flight_at : (b : Bool) (m n k : ℕ) (added : ℕ → List Change) → ((m == v) && (n == j)) ≡ b
        → cond b (more added (Flown s.flight v j)) (Flown s.flight m n) k ≡ cond (Scans m n) (cond b (more added (s.flight v j)) (s.flight m n) k ++ adds m n k) (cond b (more added (s.flight v j)) (s.flight m n) k)
    flight_at false m n k added is = refl
    flight_at true m n k added is =
        let p = at_both m n v j is in
        let off : Scans m n ≡ false = ap (λ x. Scans x n) p.0 ∙ never n in
        ap (λ b. cond b (s.flight v j k ++ adds v j k) (s.flight v j k) ++ added k) (never j) ∙ sym (ap (λ b. cond b ((s.flight v j k ++ added k) ++ adds m n k) (s.flight v j k ++ added k)) off)

    pub scanned_handed : (out : List Change) (added : ℕ → List Change) (n : ℕ) → handed v j out added n (scanned g table i change s) ≡ scanned g table i change (handed v j out added n s)
    scanned_handed out added n =
        let S = scanned g table i change s in
        let sum : (s.sends + scan_count g table) + n ≡ (s.sends + n) + scan_count g table = omega arith in
        ap (λ (x : ℕ → ℕ → List Change). record S { sent = x; flight = change_at (more added) v j S.flight; sends = (s.sends + scan_count g table) + n }) (fun_ext (λ m. fun_ext (λ k. sent_at ((m == v) && (k == j)) m k out refl)))
        ∙ ap (λ (f : ℕ → ℕ → ℕ → List Change). record S { sent = (scanned g table i change (handed v j out added n s)).sent; flight = f; sends = (s.sends + scan_count g table) + n })
        (fun_ext (λ m. fun_ext (λ k. fun_ext (λ l. flight_at ((m == v) && (k == j)) m k l added refl))))
        ∙ ap (λ (k : ℕ). record (scanned g table i change (handed v j out added n s)) { sends = k }) sum
