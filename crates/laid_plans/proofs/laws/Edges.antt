-- Edges that are given modes: their exchanges stay.
use Rattle.std.specs.Prelude.{◌≡◌, ℕ, ◌+◌, List, length, slice_get, Option}
use Rattle.std.proofs.Common.{zero, suc, [], ◌∷◌, refl, ap, ◌∙◌, sym, arith, Some}
use Rattle.phys_plan.specs.declared.edge.Edge.{Edge}
use Rattle.phys_plan.specs.Reading.{at, numbered as item}
use Rattle.mode_infer.specs.declared.modes.EdgeMode.{EdgeMode}
use Rattle.mode_infer.specs.Modes.{moded, moded_from, no_mode}
use Rattle.sound_plans.proofs.laws.Lists.{the_same}

-- an edge with this mode
abbrev pub with_mode : EdgeMode → Edge → Edge
with_mode mode edge = record { exchange = edge.exchange; kinds = mode.kinds; update = mode.update }

-- what is read of an edge without its mode
abbrev pub IgnoresMode : {X : Type 0} → (Option Edge → X) → Type 0
IgnoresMode read = (edge : Edge) (mode : EdgeMode) → read (Some (with_mode mode edge)) ≡ read (Some edge)

module _ (table : List EdgeMode) where
  -- edges stay as many
  pub edges_from : (v : ℕ) (edges : List Edge) → length (moded_from v table edges) ≡ length edges
  edges_from v [] = refl
  edges_from v (edge ∷ edges) = ap suc (edges_from (v + 1) edges)

  -- of an edge by its place
  edge_from : {X : Type 0} (read : Option Edge → X) → IgnoresMode read → (v : ℕ) (edges : List Edge) (n : ℕ) → read (slice_get (moded_from v table edges) n) ≡ read (slice_get edges n)
  edge_from read same v [] n = refl
  edge_from read same v (edge ∷ edges) zero = same edge (at no_mode table v)
  edge_from read same v (edge ∷ edges) (suc n) = edge_from read same (v + 1) edges n

  -- of an edge by its number
  pub edge_read : {X : Type 0} (read : Option Edge → X) → IgnoresMode read → (edges : List Edge) (v : ℕ) → read (item (moded table edges) v) ≡ read (item edges v)
  edge_read read same edges zero = refl
  edge_read read same edges (suc n) = edge_from read same 1 edges n

  -- the mode of an edge by its place, where edges are numbered from here
  mode_from : (v : ℕ) (edges : List Edge) (n : ℕ) (edge : Edge) → slice_get edges n ≡ Some edge → slice_get (moded_from v table edges) n ≡ Some (with_mode (at no_mode table (v + n)) edge)
  mode_from v [] n edge e = absurd (cc)
  mode_from v (first ∷ edges) zero edge e = let here : v + 0 ≡ v = omega arith in λ i. Some (with_mode (at no_mode table (sym here i)) (the_same first edge e i))
  mode_from v (first ∷ edges) (suc n) edge e =
      let there : v + 1 + n ≡ v + suc n = omega arith in
      mode_from (v + 1) edges n edge e ∙ ap (λ k. Some (with_mode (at no_mode table k) edge)) there

  -- an edge has the mode of its number
  pub mode_given : (edges : List Edge) (n : ℕ) (edge : Edge) → slice_get edges n ≡ Some edge → slice_get (moded table edges) n ≡ Some (with_mode (at no_mode table (suc n)) edge)
  mode_given edges n edge e =
      let number : 1 + n ≡ suc n = omega arith in
      mode_from 1 edges n edge e ∙ ap (λ k. Some (with_mode (at no_mode table k) edge)) number
