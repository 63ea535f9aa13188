-- Two conditions as a list.
use Rattle.std.proofs.Common.{◌≡◌, List, [], ◌∷◌, ◌++◌, ap}
use Rattle.bind_nodes.specs.declared.bound.Bound.{Bound}
use Rattle.bind_nodes.specs.Views.{bound_view, bounds_view}

pub two_views : (xs : List Bound) (x y : Bound) → xs ≡ ([] ++ x ∷ []) ++ y ∷ [] → bounds_view xs ≡ bound_view x ∷ bound_view y ∷ []
two_views xs x y e = ap bounds_view e
