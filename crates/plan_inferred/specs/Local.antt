-- What nodes have by what their inputs have, node by node in a table of all.
use Rattle.std.specs.Prelude.{◌≡◌, ℕ, suc, ◌<◌, List, [], ◌∷◌, length, map}
use Rattle.std.specs.List.{AllByRecursion}
use Rattle.phys_plan.specs.Reading.{Wire, at}

-- each of these nodes, which are numbered from here, stands behind its inputs
abbrev pub AreOrderedFrom : ℕ → List Wire → Type 0
AreOrderedFrom v [] = Unit {0}
AreOrderedFrom v (w ∷ ws) = AllByRecursion (λ input. input < v) w.inputs × AreOrderedFrom (suc v) ws

abbrev pub AreOrdered : List Wire → Type 0
AreOrdered ws = AreOrderedFrom 1 ws

-- the value of each of these nodes is the one that is made of it and of its inputs' values
abbrev pub AgreeFrom : {B : Type 0} → (Wire → List B → B) → B → List B → ℕ → List Wire → Type 0
AgreeFrom f d table v [] = Unit {0}
AgreeFrom f d table v (w ∷ ws) = (at d table v ≡ f w (map (at d table) w.inputs)) × AgreeFrom f d table (suc v) ws

-- a table with one value for each node, each made of its inputs' values
pub record IsLocal {B : Type 0} (f : Wire → List B → B) (d : B) (ws : List Wire) (table : List B) : Type 0 where
  pub whole : length table ≡ length ws
  pub agree : AgreeFrom f d table 1 ws
