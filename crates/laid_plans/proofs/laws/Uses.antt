-- Of the nodes of a plan, the one that has a number among its inputs, at one port.
use Rattle.std.specs.Prelude.{◌≡◌, ℕ, ◌+◌, ◌==◌, Bool, ◌&&◌, cond, List, slice_get}
use Rattle.std.proofs.Common.{zero, suc, true, false, [], ◌∷◌, refl, sym, ap, ◌∙◌, arith, Some, None}
use Rattle.std.specs.List.{find, list_all}
use Rattle.std.proofs.lemmas.Bool.{eqb-true, eq-eqb}
use Rattle.phys_plan.specs.declared.node.Node.{Node}
use Rattle.mode_infer.specs.Updates.{is_input, port_of}
use Rattle.plan_inferred.specs.Rules.{consumer}
use Rattle.plan_shape.specs.Shape.{has_input, times, uses}
use Rattle.sound_plans.proofs.laws.Lists.{is_somewhere, is_there, the_same}
use Rattle.sound_plans.proofs.laws.Consumers.{IsOnly, by_test, consumer_is, finds, port_is}

-- ---- tests

-- both of two tests that hold
pub and : (a b : Bool) → a ≡ true → b ≡ true → (a && b) ≡ true
and true b e f = f
and false b e f = absurd (cc)

-- a test that each item passes
pub all_pass : {A : Type 0} (test : A → Bool) (xs : List A) → ((n : ℕ) (x : A) → slice_get xs n ≡ Some x → test x ≡ true) → list_all test xs ≡ true
all_pass test [] h = refl
all_pass test (x ∷ xs) h = and (test x) (list_all test xs) (h 0 x refl) (all_pass test xs (λ n y e. h (suc n) y e))

-- ---- how often a number stands in a list

-- two numbers that aren't the same
differ : (m n : ℕ) → (m ≡ n → ⊥) → (m == n) ≡ false
differ m n d = by_test (m == n) (λ t. absurd (d (eqb-true m n t))) (λ f. f)

-- a number that stands at no place
never : (v : ℕ) (inputs : List ℕ) → ((p : ℕ) → slice_get inputs p ≡ Some v → ⊥) → times v inputs ≡ 0
never v [] h = refl
never v (x ∷ xs) h =
    let first : (v == x) ≡ false = differ v x (λ e. h 0 (ap (λ y. Some y) (sym e))) in
    let z : 0 + 0 ≡ 0 = omega arith in
    (λ i. cond (first i) 1 0 + never v xs (λ p e. h (suc p) e) i) ∙ z

-- a number that stands at one place
one_time : (v : ℕ) (inputs : List ℕ) (p : ℕ) → slice_get inputs p ≡ Some v → ((q : ℕ) → slice_get inputs q ≡ Some v → q ≡ p) → times v inputs ≡ 1
one_time v [] p e once = absurd (cc)
one_time v (x ∷ xs) zero e once =
    let first : (v == x) ≡ true = eq-eqb v x (sym (the_same x v e)) in
    let z : 1 + 0 ≡ 1 = omega arith in
    (λ i. cond (first i) 1 0 + never v xs (λ p f. let h : suc p ≡ 0 = once (suc p) f in omega arith) i) ∙ z
one_time v (x ∷ xs) (suc p) e once =
    let first : (v == x) ≡ false = differ v x (λ f. let h : 0 ≡ suc p = once 0 (ap (λ y. Some y) (sym f)) in omega arith) in
    let z : 0 + 1 ≡ 1 = omega arith in
    (λ i. cond (first i) 1 0 + one_time v xs p e (λ q f. let h : suc q ≡ suc p = once (suc q) f in omega arith) i) ∙ z

-- ---- how often it is an input

-- a number that is no input
unused : (v : ℕ) (nodes : List Node) → ((n p : ℕ) (node : Node) → slice_get nodes n ≡ Some node → slice_get node.inputs p ≡ Some v → ⊥) → uses v nodes ≡ 0
unused v [] h = refl
unused v (node ∷ nodes) h =
    let z : 0 + 0 ≡ 0 = omega arith in
    (λ i. never v node.inputs (λ p e. h 0 p node refl e) i + unused v nodes (λ n p other e f. h (suc n) p other e f) i) ∙ z

-- among these nodes the one at this place alone has the number, at this port alone
pub record IsUsedOnce (v : ℕ) (nodes : List Node) (place port : ℕ) (node : Node) : Type 0 where
  pub is_node : slice_get nodes place ≡ Some node
  pub is_input : slice_get node.inputs port ≡ Some v
  pub once : (n p : ℕ) (other : Node) → slice_get nodes n ≡ Some other → slice_get other.inputs p ≡ Some v → (n ≡ place) × (p ≡ port)

-- behind a node that hasn't the number
used_later : (v : ℕ) (first : Node) (nodes : List Node) (place port : ℕ) (node : Node) → IsUsedOnce v (first ∷ nodes) (suc place) port node → IsUsedOnce v nodes place port node
used_later v first nodes place port node is = record {
  is_node = is.is_node;
  is_input = is.is_input;
  once = λ n p other e f. let h = is.once (suc n) p other e f in let k : suc n ≡ suc place = h.0 in (omega arith, h.1);
}

-- a number that is an input at one port is one once
pub used_once : (v : ℕ) (nodes : List Node) (place port : ℕ) (node : Node) → IsUsedOnce v nodes place port node → uses v nodes ≡ 1
used_once v [] place port node is = absurd (let h = is.is_node in cc)
used_once v (first ∷ nodes) zero port node is =
    let same : first ≡ node = the_same first node is.is_node in
    let there : slice_get first.inputs port ≡ Some v = ap (λ (n : Node). slice_get n.inputs port) same ∙ is.is_input in
    let z : 1 + 0 ≡ 1 = omega arith in
    (λ i. one_time v first.inputs port there (λ q f. (is.once 0 q first refl f).1) i
    + unused v nodes (λ n p other e f. let h : suc n ≡ 0 = (is.once (suc n) p other e f).0 in omega arith) i) ∙ z
used_once v (first ∷ nodes) (suc place) port node is =
    let z : 0 + 1 ≡ 1 = omega arith in
    (λ i. never v first.inputs (λ p f. let h : 0 ≡ suc place = (is.once 0 p first refl f).0 in omega arith) i
    + used_once v nodes place port node (used_later v first nodes place port node is) i) ∙ z

-- ---- the consumer

-- the node at this place is the only one that has it
only_one : (v : ℕ) (nodes : List Node) (place port : ℕ) (node : Node) → IsUsedOnce v nodes place port node → IsOnly v nodes place node
only_one v nodes place port node is = record {
  is_node = is.is_node;
  has_it = is_there v node.inputs port is.is_input;
  only = λ m other e h. let q = is_somewhere v other.inputs h in (is.once m q.0 other e q.1).0;
}

-- so it is the one that is found
pub found_once : (v : ℕ) (nodes : List Node) (place port : ℕ) (node : Node) → IsUsedOnce v nodes place port node → find (has_input v) nodes ≡ Some node
found_once v nodes place port node is = finds v nodes place node (only_one v nodes place port node is)

-- and the consumer
pub consumer_once : (v : ℕ) (nodes : List Node) (place port : ℕ) (node : Node) → IsUsedOnce v nodes place port node → consumer v nodes ≡ Some node
consumer_once v nodes place port node is = consumer_is v nodes place node (only_one v nodes place port node is)

-- at its only port
pub port_once : (v : ℕ) (nodes : List Node) (place port : ℕ) (node : Node) → IsUsedOnce v nodes place port node → port_of v node.inputs ≡ port
port_once v nodes place port node is = port_is v node.inputs port is.is_input (λ q f. (is.once place q node is.is_node f).1)

-- a number that is no input has no consumer
pub no_consumer : (v : ℕ) (nodes : List Node) → ((n p : ℕ) (node : Node) → slice_get nodes n ≡ Some node → slice_get node.inputs p ≡ Some v → ⊥) → consumer v nodes ≡ None
no_consumer v [] h = refl
no_consumer v (node ∷ nodes) h =
    by_test (is_input v node.inputs) (λ t. let q = is_somewhere v node.inputs t in absurd (h 0 q.0 node refl q.1))
    (λ f. ap (λ b. cond b (Some node) (consumer v nodes)) f ∙ no_consumer v nodes (λ n p other e g. h (suc n) p other e g))
