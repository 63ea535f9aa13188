-- What is inferred of a node, from what is inferred of its inputs: the tables that are read from the inputs up, at one number.
use Rattle.std.specs.Prelude.{◌≡◌, ℕ, ◌+◌, ◌<◌, List, map, slice_get, unwrap_or}
use Rattle.std.proofs.Common.{zero, suc, [], ◌∷◌, refl, ap, subst, ◌∙◌, arith, Some}
use Rattle.std.specs.List.{AllByRecursion}
use Rattle.phys_plan.specs.declared.node.Node.{Node}
use Rattle.phys_plan.specs.Reading.{Wire, at, numbered, wire, wires}
use Rattle.plan_inferred.specs.Local.{AreOrdered, AreOrderedFrom, AgreeFrom, IsLocal}
use Rattle.sound_plans.proofs.laws.Lists.{map_at, the_same}

-- each node stands behind its inputs, where that is so of each by its number
ordered_from : (v : ℕ) (nodes : List Node) → ((n : ℕ) (node : Node) → slice_get nodes n ≡ Some node → AllByRecursion (λ input. input < v + n) node.inputs) → AreOrderedFrom v (wires nodes)
ordered_from v [] h = tt
ordered_from v (node ∷ nodes) h =
    let here : v + 0 ≡ v = omega arith in (
      subst (λ k. AllByRecursion (λ input. input < k) node.inputs) here (h 0 node refl),
      ordered_from (suc v) nodes (λ n other e. let there : v + suc n ≡ suc v + n = omega arith in subst (λ k. AllByRecursion (λ input. input < k) other.inputs) there (h (suc n) other e)),
    )

pub ordered : (nodes : List Node) → ((v : ℕ) (node : Node) → numbered nodes v ≡ Some node → AllByRecursion (λ input. input < v) node.inputs) → AreOrdered (wires nodes)
ordered nodes h = ordered_from 1 nodes (λ n node e. let there : suc n ≡ 1 + n = omega arith in subst (λ k. AllByRecursion (λ input. input < k) node.inputs) there (h (suc n) node e))

agree_at : {B : Type 0} (f : Wire → List B → B) (d : B) (table : List B) (v : ℕ) (ws : List Wire) → AgreeFrom f d table v ws → (n : ℕ) (w : Wire) → slice_get ws n ≡ Some w → at d table (v + n) ≡ f w (map (at d table) w.inputs)
agree_at f d table v [] a n w e = absurd (cc)
agree_at f d table v (x ∷ ws) a zero w e =
    let here : v + 0 ≡ v = omega arith in
    ap (at d table) here ∙ a.0 ∙ ap (λ (y : Wire). f y (map (at d table) y.inputs)) (the_same x w e)
agree_at f d table v (x ∷ ws) a (suc n) w e =
    let there : v + suc n ≡ suc v + n = omega arith in
    ap (at d table) there ∙ agree_at f d table (suc v) ws a.1 n w e

-- the value of a node is made of it and of its inputs' values
pub made_at : {B : Type 0} (f : Wire → List B → B) (d : B) (nodes : List Node) (table : List B) → IsLocal f d (wires nodes) table → (v : ℕ) (node : Node) → numbered nodes v ≡ Some node
    → at d table v ≡ f (wire node) (map (at d table) node.inputs)
made_at f d nodes table is zero node e = absurd (cc)
made_at f d nodes table is (suc n) node e = let there : suc n ≡ 1 + n = omega arith in ap (at d table) there ∙ agree_at f d table 1 (wires nodes) is.agree n (wire node) (map_at wire nodes n node e)

-- a value that is there
pub at_is : {B : Type 0} (d : B) (table : List B) (v : ℕ) (b : B) → numbered table v ≡ Some b → at d table v ≡ b
at_is d table v b e = ap (λ o. unwrap_or o d) e
