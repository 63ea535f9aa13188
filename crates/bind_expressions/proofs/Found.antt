-- Look-ups among the GROUP BY expressions.
use Rattle.std.proofs.Common.{◌≡◌, ◌==◌, ℕ, true, List, [], ◌∷◌, Option, None, length, refl, ap, ◌∙◌, arith, false}
use Rattle.std.specs.BTreeMap.{BTreeMap, get}
use Rattle.std.specs.Cmp.Lexicographic.{slice_cmp}
use Rattle.std.specs.Ordering.{nat_cmp}
use Rattle.std.proofs.lemmas.Bool.Decides.{nat_tests}
use Rattle.sql_syntax.specs.Tree.{Tree}
use Rattle.sql_syntax.specs.declared.tree.Tree.{Tree as SyntaxTree}
use Rattle.sql_syntax.specs.View.{trees_view}
use Rattle.query_answer.specs.Names.{Scope, find}
use Rattle.query_answer.specs.Shapes.{Shape, place_of}
use Rattle.binding.specs.Nodes as n
use Rattle.binding.specs.InGroups.{key_for, key_column, has_no_keys}
use Rattle.bind_nodes.specs.declared.bound.Bound.{Bound}
use Rattle.bind_nodes.specs.Views.{bounds_view}
use Rattle.bind_shapes.specs.Codes.{code}

pub no_keys : (xs : List Bound) → (length xs == 0) ≡ has_no_keys (bounds_view xs)
no_keys [] = refl
no_keys (x ∷ xs) = grind (arith, nat_tests)

-- a code tells which GROUP BY expression it is
pub told : (scope : Scope) (trees : List Tree) (keys : List n.Bound) (places : BTreeMap (List ℕ) ℕ) (x : Shape) (word : List ℕ) (place : Option ℕ)
    → ((y : Shape) → get (slice_cmp nat_cmp) places (code y) ≡ place_of (find scope) trees y) → word ≡ code x → place ≡ get (slice_cmp nat_cmp) places word → key_column keys place ≡ key_for scope trees keys x
told scope trees keys places x word place found w p = ap (key_column keys) (p ∙ ap (get (slice_cmp nat_cmp) places) w ∙ found x)

-- without GROUP BY there is none
pub none_there : (scope : Scope) (trees : List SyntaxTree) (keys : List n.Bound) (x : Shape) → (length trees == 0) ≡ true → None ≡ key_for scope (trees_view trees) keys x
none_there scope [] keys x e = refl
none_there scope (t ∷ ts) keys x e = absurd (let some : (length (t ∷ ts) == 0) ≡ false = grind (arith, nat_tests) in cc)
