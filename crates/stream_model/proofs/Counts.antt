-- A subtask consumes no more than was sent.
use Rattle.std.specs.Prelude.{◌≡◌, ℕ, ◌+◌, ◌<◌, ◌≤◌, ◌==◌, Bool, cond, List, length, Option}
use Rattle.std.proofs.Common.{zero, suc, true, false, [], ◌∷◌, refl, sym, ap, ◌∙◌, arith, eqb, Some}
use Rattle.std.specs.List.{AllByRecursion, filter}
use Rattle.std.proofs.lemmas.List.{length-append}
use Rattle.std.proofs.lemmas.Bool.{eq-eqb, ne_eqb}
use Rattle.op_rules.specs.History.{Arrival, from_port}
use Rattle.op_rules.specs.Edges.{goes}
use Rattle.op_rules.specs.Tasks.{total}
use Rattle.stream_model.specs.Network.{Feed, Network, IsWired}
use Rattle.stream_model.specs.Machine.{State, consumed}
use Rattle.stream_model.proofs.Sums.{total-zero, total-sum, total-same, total_le, total_one}
use Rattle.stream_model.proofs.Steps.{HangsTogether, total_more}

filter_shorter : {A : Type 0} (q : A → Bool) (xs : List A) → length (filter q xs) ≤ length xs
filter_shorter q [] = omega arith
filter_shorter q (x ∷ xs) = elim (q x) as (λ b. length (cond b (x ∷ filter q xs) (filter q xs)) ≤ suc (length xs)) [ true ↦ omega (arith, filter_shorter q xs) | false ↦ omega (arith, filter_shorter q xs) ]

-- what was consumed, port by port and subtask by subtask
length-ports : (ports many : ℕ) (c : List Arrival) → AllByRecursion (λ a. a.port < ports) c → AllByRecursion (λ a. a.from < many) c → length c ≡ total ports (λ p. total many (λ i. length (from_port p i c)))
length-ports ports many [] hp hf = sym (total-same ports _ _ (λ p l. total-zero many) ∙ total-zero ports)
length-ports ports many (x ∷ xs) hp hf =
    let rest = length-ports ports many xs hp.1 hf.1 in
    sym (total-same ports _ (λ p. total many (λ i. length (from_port p i xs)) + cond (x.port == p) 1 0) (λ p l. at p)
    ∙ (total-sum ports (λ p. total many (λ i. length (from_port p i xs))) (λ p. cond (x.port == p) 1 0)
    ∙ (let one = total_one ports x.port 1 hp.0 in omega arith)))
  where
    at : (p : ℕ) → total many (λ i. length (from_port p i (x ∷ xs))) ≡ total many (λ i. length (from_port p i xs)) + cond (x.port == p) 1 0
    at p =
        elim (x.port == p) as (λ b. total many (λ i. length (cond b (cond (x.from == i) (x.change ∷ from_port p i xs) (from_port p i xs)) (from_port p i xs))) ≡ total many (λ i. length (from_port p i xs)) + cond b 1 0) [
          | false ↦ omega arith
          | true ↦
              total-same many _ (λ i. length (from_port p i xs) + cond (x.from == i) 1 0) (λ i l.
              elim (x.from == i) as (λ b. length (cond b (x.change ∷ from_port p i xs) (from_port p i xs)) ≡ length (from_port p i xs) + cond b 1 0) [ true ↦ omega arith | false ↦ omega arith ])
              ∙ (total-sum many (λ i. length (from_port p i xs)) (λ i. cond (x.from == i) 1 0)
              ∙ ap (λ n. total many (λ i. length (from_port p i xs)) + n) (total_one many x.from 1 hf.0))
        ]

-- a sum over distinct numbers below m is no more than that over all of them
total_distinct : (n m : ℕ) (s f : ℕ → ℕ) → ((p : ℕ) → p < n → s p < m) → ((p q : ℕ) → p < n → q < n → s p ≡ s q → p ≡ q) → total n (λ p. f (s p)) ≤ total m f
total_distinct zero m s f below distinct = omega arith
total_distinct (suc n) m s f below distinct =
    let others : ℕ → ℕ = λ u. cond (eqb u (s n)) 0 (f u) in
    let same : total n (λ p. f (s p)) ≡ total n (λ p. others (s p)) = total-same n _ _ (λ p l. ap (λ b. cond b 0 (f (s p))) (sym (ne_eqb (s p) (s n) (λ e. let z = distinct p n (omega arith) (omega arith) e in omega arith)))) in
    let before = total_distinct n m s others (λ p l. below p (omega arith)) (λ p q pl ql. distinct p q (omega arith) (omega arith)) in
    let more : total m f ≡ total m others + f (s n) = total_more m (s n) (f (s n)) others f (below n (omega arith))
    (let q : eqb (s n) (s n) ≡ true = eq-eqb (s n) (s n) refl in rw q (omega arith))
    (λ k d. let q : eqb k (s n) ≡ false = ne_eqb k (s n) d in rw q refl) in
    omega arith

pub consumed_few : (g : Network) (wired : IsWired g) (s : State) → HangsTogether g wired s → (v j : ℕ) → length (consumed s v j) ≤ s.sends
consumed_few g wired s h v j =
    let a = length-ports (g.ports v) g.subtasks (consumed s v j) (h.ports v j) (h.within v j) in
    let b : total (g.ports v) (λ p. total g.subtasks (λ i. length (from_port p i (consumed s v j)))) ≤ total (g.ports v) (λ p. total g.subtasks (λ i. length (s.sent (g.source v p) i))) =
    total_le (g.ports v) _ _ (λ p pl. total_le g.subtasks _ _ (λ i il. came p i pl)) in
    let c : total (g.ports v) (λ p. total g.subtasks (λ i. length (s.sent (g.source v p) i))) ≤ total g.count (λ u. total g.subtasks (λ i. length (s.sent u i))) =
    total_distinct (g.ports v) g.count (g.source v) (λ u. total g.subtasks (λ i. length (s.sent u i)))
    (λ p pl. let x = wired.below v p pl in let y = wired.counted v (omega arith) in omega arith) one_source in
    omega (arith, a, b, c, h.counted)
  where
    came : (p i : ℕ) → p < g.ports v → length (from_port p i (consumed s v j)) ≤ length (s.sent (g.source v p) i)
    came p i pl =
        let e = ap length (h.fed v j p i pl) in
        let f = length-append (from_port p i (consumed s v j)) (s.flight (g.source v p) i j) in
        let q = filter_shorter (λ change. goes (g.edge (g.source v p)) i j change.row) (s.sent (g.source v p) i) in
        omega arith

    one_source : (p q : ℕ) → p < g.ports v → q < g.ports v → g.source v p ≡ g.source v q → p ≡ q
    one_source p q pl ql e =
        let both : ◌≡◌ {A = Option Feed} (Some (record { node = v; port = p })) (Some (record { node = v; port = q })) = sym (wired.feeds v p pl) ∙ (ap g.fed e ∙ wired.feeds v q ql) in
        let one : ◌≡◌ {A = Feed} (record { node = v; port = p }) (record { node = v; port = q }) = cc in
        ap Feed.port one
