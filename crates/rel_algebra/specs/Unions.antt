-- Trees in which each Union has two inputs or more.
use Rattle.std.specs.Prelude.{Bool, true, false, ◌&&◌}
use Rattle.rel_algebra.specs.Rel.{Rel, Rels, Scan, One, Two, Many, no_rels, rel_and}

abbrev pub has_two : Rels → Bool
has_two no_rels = false
has_two (rel_and x no_rels) = false
has_two (rel_and x (rel_and y ys)) = true

abbrev mutual
  -- each Union has two inputs or more
  pub has_full_unions : Rel → Bool
  has_full_unions (Scan source) = true
  has_full_unions (One how input) = has_full_unions input
  has_full_unions (Two how left right) = has_full_unions left && has_full_unions right
  has_full_unions (Many inputs) = has_two inputs && all_have_full_unions inputs

  pub all_have_full_unions : Rels → Bool
  all_have_full_unions no_rels = true
  all_have_full_unions (rel_and input inputs) = has_full_unions input && all_have_full_unions inputs
