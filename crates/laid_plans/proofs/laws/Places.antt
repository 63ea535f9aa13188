-- Where pieces stand in a list of nodes and one of edges.
use Rattle.std.specs.Prelude.{◌≡◌, ℕ, ◌+◌, List, ◌++◌, length, slice_get}
use Rattle.std.proofs.Common.{suc, [], ◌∷◌, refl, sym, subst, arith, Some}
use Rattle.phys_plan.specs.declared.edge.Edge.{Edge}
use Rattle.phys_plan.specs.declared.node.Node.{Node}
use Rattle.plan_rules.specs.Pieces.{Piece, nodes_in, edges_in}

pub one_longer : {A : Type 0} (xs : List A) (y : A) → length (xs ++ y ∷ []) ≡ length xs + 1
one_longer [] y = refl
one_longer (x ∷ xs) y = omega (arith, one_longer xs y)

-- ---- pieces behind n others

module _ (nodes : List Node) (edges : List Edge) where
  abbrev pub Stand : ℕ → List Piece → Type 0
  Stand n [] = Unit {0}
  Stand n (p ∷ pieces) = (slice_get nodes n ≡ Some p.node) × (slice_get edges n ≡ Some p.edge) × Stand (suc n) pieces

  pub front_stands : (n : ℕ) (ps qs : List Piece) → Stand n (ps ++ qs) → Stand n ps
  front_stands n [] qs s = tt
  front_stands n (p ∷ ps) qs s = (s.0, s.1, front_stands (suc n) ps qs s.2)

  pub back_stands : (n : ℕ) (ps qs : List Piece) → Stand n (ps ++ qs) → Stand (n + length ps) qs
  back_stands n [] qs s = let none : n + 0 ≡ n = omega arith in subst (λ m. Stand m qs) (sym none) s
  back_stands n (p ∷ ps) qs s =
      let next : n + length (p ∷ ps) ≡ suc n + length ps = omega arith in subst (λ m. Stand m qs) (sym next) (back_stands (suc n) ps qs s.2)

-- ---- a node and an edge more in front

pub outer : (x : Node) (nodes : List Node) (y : Edge) (edges : List Edge) (n : ℕ) (ps : List Piece) → Stand nodes edges n ps → Stand (x ∷ nodes) (y ∷ edges) (suc n) ps
outer x nodes y edges n [] s = tt
outer x nodes y edges n (p ∷ ps) s = (s.0, s.1, outer x nodes y edges (suc n) ps s.2)

-- ---- pieces that are all there is

pub stand_alone : (ps : List Piece) → Stand (nodes_in ps) (edges_in ps) 0 ps
stand_alone [] = tt
stand_alone (p ∷ ps) = (refl, refl, outer p.node (nodes_in ps) p.edge (edges_in ps) 0 ps (stand_alone ps))
