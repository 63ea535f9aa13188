-- How each edge tells updates, found from the sink down: whether the old rows may be left out depends on who takes the new ones.
use Rattle.std.specs.Prelude.{ℕ, suc, ◌+◌, ◌==◌, Bool, false, cond, List, [], ◌∷◌, Option, None, Some}
use Rattle.std.specs.List.{list_any}
use Rattle.ct_catalog.specs.declared.table.TableDef.{TableDef}
use Rattle.ct_change.specs.declared.update.Update.{Update}
use Rattle.phys_plan.specs.Reading.{Wire, at}
use Rattle.mode_infer.specs.declared.kinds.Flow.{Flow}
use Rattle.mode_infer.specs.Kinds.{no_flow}
pub use Rattle.mode_infer.specs.Kinds.{same_key, is_after, takes, in_full, told, table_update, scan_update, update_of}

-- ---- who takes an edge

-- the first place of a number
abbrev pub port_of : ℕ → List ℕ → ℕ
port_of v [] = 0
port_of v (input ∷ inputs) = cond (input == v) 0 (suc (port_of v inputs))

abbrev pub is_input : ℕ → List ℕ → Bool
is_input v inputs = list_any (λ input. input == v) inputs

-- whether the consumer of an edge takes new rows alone: the first of the nodes behind it that has the edge among its inputs
abbrev pub takes_after : TableDef → List ℕ → ℕ → List Wire → List Update → Bool
takes_after sink key v [] updates = false
takes_after sink key v (w ∷ ws) [] = false
takes_after sink key v (w ∷ ws) (update ∷ updates) = cond (is_input v w.inputs) (takes sink w.op (port_of v w.inputs) update key) (takes_after sink key v ws updates)

abbrev pub is_taken : TableDef → Option (List ℕ) → ℕ → List Wire → List Update → Bool
is_taken sink None v ws updates = false
is_taken sink (Some key) v ws updates = takes_after sink key v ws updates

-- the edges of nodes behind so many others, by the kinds and the update key of each node: each edge is found from those behind it
abbrev pub updates_behind : List TableDef → TableDef → List Flow → List (Option (List ℕ)) → ℕ → List Wire → List Update
updates_behind sources sink flows keys before [] = []
updates_behind sources sink flows keys before (w ∷ ws) =
    let later = updates_behind sources sink flows keys (before + 1) ws in
    update_of sources w.op (at no_flow flows (before + 1)).sent (at None keys (before + 1)) (is_taken sink (at None keys (before + 1)) (before + 1) ws later) ∷ later
