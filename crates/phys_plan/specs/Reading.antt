-- What the nodes of a plan have by what their inputs have: read from the inputs up, node by node.
use Rattle.std.specs.Prelude.{ℕ, zero, suc, List, [], ◌∷◌, ◌++◌, map, slice_get, Option, None, unwrap_or}
use Rattle.phys_plan.specs.declared.node.Op.{Op}
use Rattle.phys_plan.specs.declared.node.Node.{Node}
use Rattle.phys_plan.specs.declared.node.KeyInfo.{KeyInfo}

-- a node without its keys: its operator, and the numbers of the nodes that feed it
pub record Wire : Type 0 where
  pub op : Op
  pub inputs : List ℕ

abbrev pub wire : Node → Wire
wire node = record { op = node.op; inputs = node.inputs }

abbrev pub wires : List Node → List Wire
wires nodes = map wire nodes

-- an item by its number, from 1
abbrev pub numbered : {A : Type 0} → List A → ℕ → Option A
numbered items zero = None
numbered items (suc n) = slice_get items n

-- the number of the first input, and 0 where there is none
abbrev pub first_input : List ℕ → ℕ
first_input [] = 0
first_input (input ∷ inputs) = input

-- a node without keys
abbrev pub no_keys : KeyInfo
no_keys = record { unique = []; local = []; fixing = [] }

abbrev pub at : {B : Type 0} → B → List B → ℕ → B
at d done v = unwrap_or (numbered done v) d

-- a value for each node, behind those of the nodes before it: made of the node and of its inputs' values
abbrev pub read_up : {B : Type 0} → (Wire → List B → B) → B → List B → List Wire → List B
read_up f d done [] = done
read_up f d done (w ∷ ws) = read_up f d (done ++ f w (map (at d done) w.inputs) ∷ []) ws
