-- How edges tell updates, and what they carry, at one number.
use Rattle.std.specs.Prelude.{◌≡◌, ℕ, ◌+◌, List, drop, slice_get, Option}
use Rattle.std.proofs.Common.{zero, suc, [], ◌∷◌, ap, ◌∙◌, arith, Some, None}
use Rattle.ct_catalog.specs.declared.table.TableDef.{TableDef}
use Rattle.ct_change.specs.declared.kind.Declared.{Declared}
use Rattle.ct_change.specs.declared.update.Update.{Update}
use Rattle.phys_plan.specs.declared.node.Node.{Node}
use Rattle.phys_plan.specs.declared.node.Op.{Op}
use Rattle.phys_plan.specs.Reading.{Wire, at, wires}
use Rattle.mode_infer.specs.declared.kinds.Flow.{Flow}
use Rattle.mode_infer.specs.declared.modes.EdgeMode.{EdgeMode}
use Rattle.mode_infer.specs.Kinds.{no_flow}
use Rattle.mode_infer.specs.Updates.{is_taken, update_of, updates_behind}
use Rattle.mode_infer.specs.Modes.{all_modes, mode, modes_of, with_sink}
use Rattle.sound_plans.proofs.laws.Lists.{the_same}

module _ (sources : List TableDef) (sink : TableDef) (flows : List Flow) (keys : List (Option (List ℕ))) where
  -- how the edge of a node tells updates, with the nodes behind it and how theirs do
  abbrev pub told_at : ℕ → Op → List Wire → List Update → Update
  told_at v o ws later = update_of sources o (at no_flow flows v).sent (at None keys v) (is_taken sink (at None keys v) v ws later)

  abbrev behind : ℕ → List Node → List Update
  behind before nodes = updates_behind sources sink flows keys before (wires nodes)

  update_from : (before : ℕ) (nodes : List Node) (n : ℕ) (node : Node) (v : ℕ) → slice_get nodes n ≡ Some node → before + suc n ≡ v
      → slice_get (behind before nodes) n ≡ Some (told_at v node.op (wires (drop (suc n) nodes)) (drop (suc n) (behind before nodes)))
  update_from before [] n node v e number = absurd (cc)
  update_from before (first ∷ nodes) zero node v e number =
      (λ i. Some (told_at (number i) first.op (wires nodes) (behind (before + 1) nodes)))
      ∙ ap (λ (x : Node). Some (told_at v x.op (wires nodes) (behind (before + 1) nodes))) (the_same first node e)
  update_from before (first ∷ nodes) (suc n) node v e number = update_from (before + 1) nodes n node v e (omega (arith, number))

  pub update_at : (nodes : List Node) (n : ℕ) (node : Node) → slice_get nodes n ≡ Some node
      → slice_get (behind 0 nodes) n ≡ Some (told_at (suc n) node.op (wires (drop (suc n) nodes)) (drop (suc n) (behind 0 nodes)))
  update_at nodes n node e = update_from 0 nodes n node (suc n) e (omega arith)

pub mode_at : (flows : List Flow) (updates : List Update) (n : ℕ) (flow : Flow) (update : Update) → slice_get flows n ≡ Some flow → slice_get updates n ≡ Some update
    → slice_get (modes_of flows updates) n ≡ Some (mode flow.sent update)
mode_at [] updates n flow update e f = absurd (cc)
mode_at (x ∷ flows) [] n flow update e f = absurd (cc)
mode_at (x ∷ flows) (y ∷ updates) zero flow update e f = λ i. Some (mode (the_same x flow e i).sent (the_same y update f i))
mode_at (x ∷ flows) (y ∷ updates) (suc n) flow update e f = mode_at flows updates n flow update e f

pub sunk_at : (declared : Declared) (modes : List EdgeMode) (nodes : List Node) (own : List EdgeMode) (n : ℕ) (node : Node) (one : EdgeMode) → slice_get nodes n ≡ Some node → slice_get own n ≡ Some one
    → slice_get (all_modes declared modes (wires nodes) own) n ≡ Some (with_sink declared modes node.op node.inputs one)
sunk_at declared modes [] own n node one e f = absurd (cc)
sunk_at declared modes (x ∷ nodes) [] n node one e f = absurd (cc)
sunk_at declared modes (x ∷ nodes) (y ∷ own) zero node one e f =
    λ i. Some (with_sink declared modes (the_same x node e i).op (the_same x node e i).inputs (the_same y one f i))
sunk_at declared modes (x ∷ nodes) (y ∷ own) (suc n) node one e f = sunk_at declared modes nodes own n node one e f
