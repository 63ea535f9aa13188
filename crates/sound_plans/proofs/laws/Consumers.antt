-- The consumer of an edge: the one node that has its number among its inputs.
use Rattle.std.specs.Prelude.{◌≡◌, ℕ, ◌+◌, ◌==◌, Bool, cond, List, drop, slice_get}
use Rattle.std.proofs.Common.{zero, suc, true, false, [], ◌∷◌, refl, sym, ap, ◌∙◌, arith, Some}
use Rattle.std.proofs.lemmas.Bool.{eqb-true, eq-eqb}
use Rattle.std.specs.List.{find}
use Rattle.ct_catalog.specs.declared.table.TableDef.{TableDef}
use Rattle.ct_change.specs.declared.update.Update.{Update}
use Rattle.phys_plan.specs.declared.node.Node.{Node}
use Rattle.phys_plan.specs.Reading.{wires}
use Rattle.mode_infer.specs.Updates.{is_input, port_of, takes, takes_after}
use Rattle.plan_inferred.specs.Rules.{consumer}
use Rattle.plan_shape.specs.Shape.{has_input}
use Rattle.sound_plans.proofs.laws.Lists.{drop_at, the_same}

-- by the value of a test that isn't in sight
pub by_test : {P : Type 0} (b : Bool) → (b ≡ true → P) → (b ≡ false → P) → P
by_test true t f = t refl
by_test false t f = f refl

-- the first place of a number is its only one
pub port_is : (v : ℕ) (inputs : List ℕ) (p : ℕ) → slice_get inputs p ≡ Some v → ((q : ℕ) → slice_get inputs q ≡ Some v → q ≡ p) → port_of v inputs ≡ p
port_is v [] p e once = absurd (cc)
port_is v (x ∷ xs) zero e once =
    let same : (x == v) ≡ true = eq-eqb x v (the_same x v e) in
    ap (λ b. cond b 0 (suc (port_of v xs))) same
port_is v (x ∷ xs) (suc p) e once =
    by_test (x == v)
    (λ t. absurd (let h : 0 ≡ suc p = once 0 (ap (λ y. Some y) (eqb-true x v t)) in omega arith))
    (λ f. ap (λ b. cond b 0 (suc (port_of v xs))) f ∙ ap suc (port_is v xs p e (λ q g. let h : suc q ≡ suc p = once (suc q) g in omega arith)))

module _ (v : ℕ) (nodes : List Node) (n : ℕ) (node : Node) where
  -- among these nodes only the one at this place has the number among its inputs
  pub record IsOnly : Type 0 where
    pub is_node : slice_get nodes n ≡ Some node
    pub has_it : is_input v node.inputs ≡ true
    pub only : (m : ℕ) (other : Node) → slice_get nodes m ≡ Some other → is_input v other.inputs ≡ true → m ≡ n

only_later : (v : ℕ) (first : Node) (nodes : List Node) (n : ℕ) (node : Node) → IsOnly v (first ∷ nodes) (suc n) node → IsOnly v nodes n node
only_later v first nodes n node is = record {
  is_node = is.is_node;
  has_it = is.has_it;
  only = λ m other e h. let k : suc m ≡ suc n = is.only (suc m) other e h in omega arith;
}

first_has_not : (v : ℕ) (first : Node) (nodes : List Node) (n : ℕ) (node : Node) → IsOnly v (first ∷ nodes) (suc n) node → is_input v first.inputs ≡ false
first_has_not v first nodes n node is =
    by_test (is_input v first.inputs) (λ t. absurd (let h : 0 ≡ suc n = is.only 0 first refl t in omega arith)) (λ f. f)

first_has : (v : ℕ) (first : Node) (nodes : List Node) (node : Node) → IsOnly v (first ∷ nodes) 0 node → is_input v first.inputs ≡ true
first_has v first nodes node is = ap (λ (x : Node). is_input v x.inputs) (the_same first node is.is_node) ∙ is.has_it

pub consumer_is : (v : ℕ) (nodes : List Node) (n : ℕ) (node : Node) → IsOnly v nodes n node → consumer v nodes ≡ Some node
consumer_is v [] n node is = absurd (let h = is.is_node in cc)
consumer_is v (first ∷ nodes) zero node is =
    ap (λ b. cond b (Some first) (consumer v nodes)) (first_has v first nodes node is) ∙ is.is_node
consumer_is v (first ∷ nodes) (suc n) node is =
    ap (λ b. cond b (Some first) (consumer v nodes)) (first_has_not v first nodes n node is) ∙ consumer_is v nodes n node (only_later v first nodes n node is)

pub finds : (v : ℕ) (nodes : List Node) (n : ℕ) (node : Node) → IsOnly v nodes n node → find (has_input v) nodes ≡ Some node
finds v [] n node is = absurd (let h = is.is_node in cc)
finds v (first ∷ nodes) zero node is =
    ap (λ b. cond b (Some first) (find (has_input v) nodes)) (first_has v first nodes node is) ∙ is.is_node
finds v (first ∷ nodes) (suc n) node is =
    ap (λ b. cond b (Some first) (find (has_input v) nodes)) (first_has_not v first nodes n node is) ∙ finds v nodes n node (only_later v first nodes n node is)

-- whether the consumer takes new rows alone, with the updates of the nodes beside them
pub taken_is : (sink : TableDef) (key : List ℕ) (v : ℕ) (nodes : List Node) (updates : List Update) (n : ℕ) (node : Node) (update : Update) → IsOnly v nodes n node → slice_get updates n ≡ Some update
    → takes_after sink key v (wires nodes) updates ≡ takes sink node.op (port_of v node.inputs) update key
taken_is sink key v [] updates n node update is e = absurd (let h = is.is_node in cc)
taken_is sink key v (first ∷ nodes) [] n node update is e = absurd (cc)
taken_is sink key v (first ∷ nodes) (u ∷ updates) zero node update is e =
    ap (λ b. cond b (takes sink first.op (port_of v first.inputs) u key) (takes_after sink key v (wires nodes) updates)) (first_has v first nodes node is)
    ∙ (λ i. takes sink (the_same first node is.is_node i).op (port_of v (the_same first node is.is_node i).inputs) (the_same u update e i) key)
taken_is sink key v (first ∷ nodes) (u ∷ updates) (suc n) node update is e =
    ap (λ b. cond b (takes sink first.op (port_of v first.inputs) u key) (takes_after sink key v (wires nodes) updates)) (first_has_not v first nodes n node is)
    ∙ taken_is sink key v nodes updates n node update (only_later v first nodes n node is) e

-- behind the nodes up to a number, the one that is the only one among all
pub only_behind : (v : ℕ) (nodes : List Node) (n m : ℕ) (node : Node) → v + m ≡ n → IsOnly v nodes n node → IsOnly v (drop v nodes) m node
only_behind v nodes n m node number is = record {
  is_node = drop_at nodes v m ∙ ap (slice_get nodes) number ∙ is.is_node;
  has_it = is.has_it;
  only = λ k other e h. let same : v + k ≡ n = is.only (v + k) other (sym (drop_at nodes v k) ∙ e) h in omega (arith, number);
}
