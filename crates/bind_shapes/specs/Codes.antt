-- Shapes as lists of numbers: equal shapes have equal lists, and no list begins another.
use Rattle.std.specs.Prelude.{ℕ, suc, cond, List, [], ◌∷◌, ◌++◌, map, Option, Some, None}
use Rattle.std.specs.Str.{bytes_eq}
use Rattle.sql_syntax.specs.Tree.{Tree}
use Rattle.query_answer.specs.Names.{Lookup}
use Rattle.query_answer.specs.Shapes.{Shape, Shapes, shape_of, no_shapes, shape_and, shape}

-- what a node says itself, and an end
abbrev pub word : List ℕ → List ℕ
word w = map suc w ++ 0 ∷ []

abbrev mutual
  pub code : Shape → List ℕ
  code (shape_of w xs) = word w ++ codes xs

  pub codes : Shapes → List ℕ
  codes no_shapes = 0 ∷ []
  codes (shape_and x xs) = 1 ∷ (code x ++ codes xs)

-- the place of the first of these lists that is one
abbrev pub place_in : ℕ → List (List ℕ) → List ℕ → Option ℕ
place_in n [] x = None
place_in n (y ∷ ys) x = cond (bytes_eq x y) (Some n) (place_in (suc n) ys x)

-- the codes of trees
abbrev pub codes_of : Lookup → List Tree → List (List ℕ)
codes_of look xs = map (λ x. code (shape look x)) xs
