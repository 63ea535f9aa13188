-- Nodes that are given keys: all else of them stays.
use Rattle.std.specs.Prelude.{◌≡◌, ℕ, ◌+◌, Bool, cond, List, length, slice_get, Option}
use Rattle.std.proofs.Common.{zero, suc, true, false, [], ◌∷◌, refl, ap, Some}
use Rattle.std.specs.List.{find}
use Rattle.phys_plan.specs.declared.node.KeyInfo.{KeyInfo}
use Rattle.phys_plan.specs.declared.node.Node.{Node}
use Rattle.phys_plan.specs.Reading.{numbered as item, numbered}
use Rattle.upsert_keys.specs.Keys.{keyed, keyed_from}
use Rattle.plan_inferred.specs.Rules.{consumer as first_consumer}
use Rattle.plan_shape.specs.Shape.{consumer, has_input, op_in, times, uses}

-- a node with these keys
abbrev pub with_keys : KeyInfo → Node → Node
with_keys keys node = record { op = node.op; inputs = node.inputs; keys = keys }

-- what is read of a node without its keys
abbrev pub IgnoresKeys : {X : Type 0} → (Option Node → X) → Type 0
IgnoresKeys read = (node : Node) (keys : KeyInfo) → read (Some (with_keys keys node)) ≡ read (Some node)

-- the first of two nodes of which a test holds
first_of : {X : Type 0} (read : Option Node → X) (b : Bool) (one other : Node) (ones others : Option Node) → read (Some one) ≡ read (Some other) → read ones ≡ read others → read (cond b (Some one) ones) ≡ read (cond b (Some other) others)
first_of read true one other ones others here later = here
first_of read false one other ones others here later = later

module _ (table : List KeyInfo) where
  -- nodes stay as many
  pub many_from : (v : ℕ) (nodes : List Node) → length (keyed_from v table nodes) ≡ length nodes
  many_from v [] = refl
  many_from v (node ∷ nodes) = ap suc (many_from (v + 1) nodes)

  -- of a node by its place
  node_from : {X : Type 0} (read : Option Node → X) → IgnoresKeys read → (v : ℕ) (nodes : List Node) (n : ℕ) → read (slice_get (keyed_from v table nodes) n) ≡ read (slice_get nodes n)
  node_from read same v [] n = refl
  node_from read same v (node ∷ nodes) zero = same node _
  node_from read same v (node ∷ nodes) (suc n) = node_from read same (v + 1) nodes n

  -- of a node by its number
  pub node_read : {X : Type 0} (read : Option Node → X) → IgnoresKeys read → (nodes : List Node) (v : ℕ) → read (numbered (keyed table nodes) v) ≡ read (numbered nodes v)
  node_read read same nodes zero = refl
  node_read read same nodes (suc n) = node_from read same 1 nodes n

  -- the same, by numbers as the inferences read them
  pub item_read : {X : Type 0} (read : Option Node → X) → IgnoresKeys read → (nodes : List Node) (v : ℕ) → read (item (keyed table nodes) v) ≡ read (item nodes v)
  item_read read same nodes zero = refl
  item_read read same nodes (suc n) = node_from read same 1 nodes n

  -- how often a number is an input, of nodes from a number on
  uses_from : (input v : ℕ) (nodes : List Node) → uses input (keyed_from v table nodes) ≡ uses input nodes
  uses_from input v [] = refl
  uses_from input v (node ∷ nodes) = ap (λ n. times input node.inputs + n) (uses_from input (v + 1) nodes)

  -- and of all nodes
  pub used : (input : ℕ) (nodes : List Node) → uses input (keyed table nodes) ≡ uses input nodes
  used input nodes = uses_from input 1 nodes

  -- the node that has an input, from a number on
  finds_from : {X : Type 0} (read : Option Node → X) → IgnoresKeys read → (input v : ℕ) (nodes : List Node) → read (find (has_input input) (keyed_from v table nodes)) ≡ read (find (has_input input) nodes)
  finds_from read same input v [] = refl
  finds_from read same input v (node ∷ nodes) =
      first_of read (has_input input node) _ node (find (has_input input) (keyed_from (v + 1) table nodes)) (find (has_input input) nodes) (same node _) (finds_from read same input (v + 1) nodes)

  -- its operator, among all nodes
  pub consumer_read : (input : ℕ) (nodes : List Node) → consumer input (keyed table nodes) ≡ consumer input nodes
  consumer_read input nodes = finds_from op_in (λ node keys. refl) input 1 nodes

  -- the same, by the test of the inferences
  consumer_from : {X : Type 0} (read : Option Node → X) → IgnoresKeys read → (input v : ℕ) (nodes : List Node) → read (first_consumer input (keyed_from v table nodes)) ≡ read (first_consumer input nodes)
  consumer_from read same input v [] = refl
  consumer_from read same input v (node ∷ nodes) =
      first_of read (has_input input node) _ node (first_consumer input (keyed_from (v + 1) table nodes)) (first_consumer input nodes) (same node _) (consumer_from read same input (v + 1) nodes)

  -- and among all nodes
  pub first_consumer_read : {X : Type 0} (read : Option Node → X) → IgnoresKeys read → (input : ℕ) (nodes : List Node) → read (first_consumer input (keyed table nodes)) ≡ read (first_consumer input nodes)
  first_consumer_read read same input nodes = consumer_from read same input 1 nodes
