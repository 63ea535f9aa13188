-- Walks over all parts of a tree.
use Rattle.std.specs.Prelude.{Bool, false, ◌||◌}
use Rattle.rel_algebra.specs.Rel.{Rel, Rels, Scan, One, Two, Many, no_rels, rel_and}

module _ (test : Rel → Bool) where
  abbrev mutual
    -- the tree or one of its parts passes
    pub some_part : Rel → Bool
    some_part (Scan source) = test (Scan source)
    some_part (One how input) = test (One how input) || some_part input
    some_part (Two how left right) = test (Two how left right) || (some_part left || some_part right)
    some_part (Many inputs) = test (Many inputs) || some_part_of_any inputs

    pub some_part_of_any : Rels → Bool
    some_part_of_any no_rels = false
    some_part_of_any (rel_and input inputs) = some_part input || some_part_of_any inputs
