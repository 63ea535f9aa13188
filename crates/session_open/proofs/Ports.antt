-- The first port that an edge feeds, found step by step.
use Rattle.std.proofs.Common.{◌≡◌, ℕ, zero, suc, ◌+◌, ◌<◌, ◌≤◌, ◌==◌, true, false, cond, List, [], ◌∷◌, length, drop, get_or, Option, Some, None, refl, sym, ap, ◌∙◌, arith}
use Rattle.std.specs.Option.{option_map}
use Rattle.phys_plan.specs.declared.node.Node.{Node}
use Rattle.plan_rules.specs.Plans.{port_of, feed_at, feed_from}

-- what is left of a list at an index
pub drop_at : {A : Type 0} (xs : List A) (n : ℕ) (x : A) → n < length xs → x ≡ get_or xs n x → drop n xs ≡ x ∷ drop (suc n) xs
drop_at [] n x within is = absurd (omega (arith, within))
drop_at (y ∷ ys) zero x within is = ap (λ z. z ∷ ys) (sym is)
drop_at (y ∷ ys) (suc n) x within is = drop_at ys n x (omega (arith, within)) is

pub drop_none : {A : Type 0} (xs : List A) (n : ℕ) → length xs ≤ n → drop n xs ≡ []
drop_none [] zero h = refl
drop_none [] (suc n) h = refl
drop_none (x ∷ xs) zero h = absurd (omega (arith, h))
drop_none (x ∷ xs) (suc n) h = drop_none xs n (omega (arith, h))

-- a port, so many further on
abbrev pub further : ℕ → Option ℕ → Option ℕ
further k None = None
further k (Some n) = Some (k + n)

pub further_none : (port : Option ℕ) → port ≡ further 0 port
further_none None = refl
further_none (Some n) = ap Some (let e : n ≡ 0 + n = omega arith in e)

further_suc : (k : ℕ) (port : Option ℕ) → further k (option_map suc port) ≡ further (k + 1) port
further_suc k None = refl
further_suc k (Some n) = ap Some (let e : k + suc n ≡ k + 1 + n = omega arith in e)

-- the edge isn't this input
pub port_next : (e k input : ℕ) (inputs : List ℕ) → k < length inputs → input ≡ get_or inputs k input → (input == e) ≡ false
    → further k (port_of e (drop k inputs)) ≡ further (k + 1) (port_of e (drop (k + 1) inputs))
port_next e k input inputs within is off =
    ap (λ l. further k (port_of e l)) (drop_at inputs k input within is)
    ∙ (ap (λ b. further k (cond b (Some 0) (option_map suc (port_of e (drop (suc k) inputs))))) off
    ∙ (further_suc k (port_of e (drop (suc k) inputs))
    ∙ ap (λ n. further (k + 1) (port_of e (drop n inputs))) (let same : suc k ≡ k + 1 = omega arith in same)))

-- it is
pub port_here : (e k input : ℕ) (inputs : List ℕ) → k < length inputs → input ≡ get_or inputs k input → (input == e) ≡ true → Some k ≡ further k (port_of e (drop k inputs))
port_here e k input inputs within is on =
    ap Some (let same : k ≡ k + 0 = omega arith in same)
    ∙ sym (ap (λ l. further k (port_of e l)) (drop_at inputs k input within is) ∙ ap (λ b. further k (cond b (Some 0) (option_map suc (port_of e (drop (suc k) inputs))))) on)

pub port_nowhere : (e k : ℕ) (inputs : List ℕ) → length inputs ≤ k → None ≡ further k (port_of e (drop k inputs))
port_nowhere e k inputs all = sym (ap (λ l. further k (port_of e l)) (drop_none inputs k all))

-- the edge feeds no port of this node
pub feed_next : (e k : ℕ) (node : Node) (nodes : List Node) → k < length nodes → node ≡ get_or nodes k node → None ≡ port_of e node.inputs
    → feed_from (k + 1) e (drop k nodes) ≡ feed_from (k + 1 + 1) e (drop (k + 1) nodes)
feed_next e k node nodes within is off =
    ap (feed_from (k + 1) e) (drop_at nodes k node within is)
    ∙ (ap (λ port. feed_at (k + 1) port (feed_from (suc (k + 1)) e (drop (suc k) nodes))) (sym off)
    ∙ (ap (λ n. feed_from n e (drop (suc k) nodes)) (let same : suc (k + 1) ≡ k + 1 + 1 = omega arith in same)
    ∙ ap (λ n. feed_from (k + 1 + 1) e (drop n nodes)) (let same : suc k ≡ k + 1 = omega arith in same)))

-- it feeds this one
pub feed_here : (e k port : ℕ) (node : Node) (nodes : List Node) → k < length nodes → node ≡ get_or nodes k node → Some port ≡ port_of e node.inputs
    → Some (record { node = k + 1; port = port }) ≡ feed_from (k + 1) e (drop k nodes)
feed_here e k port node nodes within is on =
    sym (ap (feed_from (k + 1) e) (drop_at nodes k node within is) ∙ ap (λ p. feed_at (k + 1) p (feed_from (suc (k + 1)) e (drop (suc k) nodes))) (sym on))

pub feed_nowhere : (e k : ℕ) (nodes : List Node) → length nodes ≤ k → None ≡ feed_from (k + 1) e (drop k nodes)
feed_nowhere e k nodes all = sym (ap (feed_from (k + 1) e) (drop_none nodes k all))
