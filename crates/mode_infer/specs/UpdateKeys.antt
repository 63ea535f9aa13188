-- The update key of each node, read from the inputs up: the columns by which the new row of an update tells which row it replaces.
use Rattle.std.specs.Prelude.{ℕ, List, [], ◌∷◌, length, Option, None}
use Rattle.ct_value.specs.declared.ty.ColTy.{ColTy}
use Rattle.phys_plan.specs.Reading.{Wire, read_up}
pub use Rattle.mode_infer.specs.Kinds.{group_key, top_key, project_key, update_key_of}

-- how many columns the first of these inputs sends
abbrev pub input_width : (ℕ → List ColTy) → List ℕ → ℕ
input_width columns [] = 0
input_width columns (input ∷ inputs) = length (columns input)

-- the update keys of the nodes, behind those of the nodes before them
abbrev pub update_keys_after : (ℕ → List ColTy) → List (Option (List ℕ)) → List Wire → List (Option (List ℕ))
update_keys_after columns done ws = read_up (λ w. update_key_of (input_width columns w.inputs) w.op) None done ws

abbrev pub update_keys : (ℕ → List ColTy) → List Wire → List (Option (List ℕ))
update_keys columns ws = update_keys_after columns [] ws
