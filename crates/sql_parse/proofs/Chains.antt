-- The node of a chain, by whether its operand is the only one.
use Rattle.std.proofs.Common.{◌≡◌, List, [], ◌∷◌, ◌++◌, length, refl, ap, length-append, arith}
use Rattle.sql_syntax.specs.declared.tree.Tree.{Tree}
use Rattle.sql_syntax.specs.declared.tree.Tree.TheVariants as trees
use Rattle.sql_syntax.specs.View.{view, trees_view}
use Rattle.sql_syntax.proofs.laws.Views.{tree_and, tree_or}
use Rattle.sql_grammar.specs.Nodes.{and_of, or_of}

-- the last of one is the only one
pub only_one : (xs ys : List Tree) (x : Tree) → length xs ≡ 1 → xs ≡ ys ++ x ∷ [] → trees_view xs ≡ view x ∷ []
only_one xs [] x one e = ap trees_view e
only_one xs (y ∷ ys) x one e = absurd (omega (arith, ap length e, length-append ys (x ∷ [])))

pub and_more : (xs : List Tree) → ¬ (length xs ≡ 1) → view (trees.And xs) ≡ and_of (trees_view xs)
and_more [] h = tree_and []
and_more (x ∷ []) h = absurd (h refl)
and_more (x ∷ y ∷ xs) h = tree_and (x ∷ y ∷ xs)

pub or_more : (xs : List Tree) → ¬ (length xs ≡ 1) → view (trees.Or xs) ≡ or_of (trees_view xs)
or_more [] h = tree_or []
or_more (x ∷ []) h = absurd (h refl)
or_more (x ∷ y ∷ xs) h = tree_or (x ∷ y ∷ xs)
