-- The node of a chain, by whether its first operand is alone.
use Rattle.std.proofs.Common.{◌≡◌, true, false, ◌==◌, List, [], ◌∷◌, length, refl, arith}
use Rattle.sql_syntax.specs.declared.tree.ProductTail.{ProductTail}
use Rattle.sql_syntax.specs.declared.tree.SumTail.{SumTail}
use Rattle.sql_syntax.specs.declared.tree.Tree.{Tree}
use Rattle.sql_syntax.specs.declared.tree.Tree.TheVariants as trees
use Rattle.sql_syntax.specs.View.{view, sum_tails_view, product_tails_view}
use Rattle.sql_syntax.proofs.laws.Views.{tree_sum, tree_product}
use Rattle.sql_grammar.specs.Nodes.{sum_node, product_node}

filled : {A : Type 0} (x : A) (xs : List A) → (length (x ∷ xs) == 0) ≡ true → ⊥
filled x xs e = let zero : length (x ∷ xs) ≡ 0 = grind arith in absurd (omega arith)

pub sum_alone : (u : Tree) (xs : List SumTail) → (length xs == 0) ≡ true → view u ≡ sum_node (view u) (sum_tails_view xs)
sum_alone u [] e = refl
sum_alone u (x ∷ xs) e = absurd (filled x xs e)

pub sum_more : (u : Tree) (xs : List SumTail) → (length xs == 0) ≡ false → view (trees.Sum u xs) ≡ sum_node (view u) (sum_tails_view xs)
sum_more u [] e = absurd (cc)
sum_more u (x ∷ xs) e = tree_sum u (x ∷ xs)

pub product_alone : (u : Tree) (xs : List ProductTail) → (length xs == 0) ≡ true → view u ≡ product_node (view u) (product_tails_view xs)
product_alone u [] e = refl
product_alone u (x ∷ xs) e = absurd (filled x xs e)

pub product_more : (u : Tree) (xs : List ProductTail) → (length xs == 0) ≡ false → view (trees.Product u xs) ≡ product_node (view u) (product_tails_view xs)
product_more u [] e = absurd (cc)
product_more u (x ∷ xs) e = tree_product u (x ∷ xs)
