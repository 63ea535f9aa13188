-- The way down the first inputs of a tree.
use Rattle.std.specs.Prelude.{List, [], ◌∷◌, Option, Some, None}
use Rattle.std.specs.Borrow.{Bor}
use Rattle.rel_algebra.specs.declared.rel.Rel.{Rel as CodeRel}
use Rattle.rel_algebra.specs.Rel.{Rel, Scan, One, Two, Many}
use Rattle.rel_algebra.specs.View.{rel_view}

-- a tree that is handed out
abbrev pub seen : Bor CodeRel → Rel
seen rel = rel_view rel.now

abbrev pub first_input : Rel → Option Rel
first_input (Scan source) = None
first_input (One how input) = Some input
first_input (Two how left right) = Some left
first_input (Many inputs) = None

-- a tree, its first input, the first input of that, and so on
abbrev pub way_of : Rel → List Rel
way_of (Scan source) = Scan source ∷ []
way_of (One how input) = One how input ∷ way_of input
way_of (Two how left right) = Two how left right ∷ way_of left
way_of (Many inputs) = Many inputs ∷ []
