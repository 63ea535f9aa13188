-- Arguments of calls: one value, and the first of several.
use Rattle.std.proofs.Common.{◌≡◌, ◌==◌, Bool, false, List, [], ◌∷◌, Some, None, length, refl, sym, arith}
use Rattle.std.specs.Prelude.{slice_get}
use Rattle.std.proofs.lemmas.Bool.Decides.{nat_tests}
use Rattle.rel_algebra.specs.declared.agg.AggCall.{AggCall}
use Rattle.sql_syntax.specs.declared.tree.Tree.{Tree}
use Rattle.sql_syntax.specs.Tree as t
use Rattle.sql_syntax.specs.View.{trees_view}
use Rattle.binding.specs.InGroups.{first_column, has_operands}
use Rattle.bind_nodes.specs.declared.bound.Bound.{Bound}
use Rattle.bind_nodes.specs.Views.{bounds_view}

several : {A : Type 0} (x y : A) (xs : List A) → false ≡ (length (x ∷ y ∷ xs) == 1)
several x y xs = sym (let more : (length (x ∷ y ∷ xs) == 1) ≡ false = grind (arith, nat_tests) in more)

pub one_value : (c : AggCall) (distinct : Bool) (xs : List Tree) → has_operands c (t.Values distinct (t.trees (trees_view xs))) ≡ (length xs == 1)
one_value c distinct [] = refl
one_value c distinct (x ∷ []) = refl
one_value c distinct (x ∷ y ∷ xs) = several x y xs

pub first_there : (xs : List Bound) (x : Bound) → Some x ≡ slice_get xs 0 → Some x.column ≡ first_column (bounds_view xs)
first_there [] x e = absurd (cc)
first_there (y ∷ ys) x e = cc

pub first_absent : (xs : List Bound) → None ≡ slice_get xs 0 → None ≡ first_column (bounds_view xs)
first_absent [] e = refl
first_absent (y ∷ ys) e = absurd (cc)
