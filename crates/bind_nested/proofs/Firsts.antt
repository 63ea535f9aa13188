-- The items of a list with a rank, and how many columns its rows have.
use Rattle.std.proofs.Common.{◌≡◌, ◌+◌, Bool, true, false, List, [], ◌∷◌, ◌++◌, length, refl, ap, ◌∙◌, append_assoc, length-append}
use Rattle.std.proofs.lemmas.List.{map-append, length-map}
use Rattle.rel_algebra.specs.Ranks.{rank_column, rank_columns}
use Rattle.query_answer.specs.Answer.{types}
use Rattle.query_answer.specs.Names.{Scope}
use Rattle.query_answer.specs.Ranks.{with_rank}
use Rattle.binding.specs.Nodes.{Bound}
use Rattle.bind_nodes.specs.Views.{bound_view, bounds_view}
use Rattle.bind_nodes.specs.declared.bound.Bound.{Bound as CodeBound}
use Rattle.bind_nested.specs.Sorts.{with_bound}

with_others : (kept : Bool) (xs : List Bound) (x : Bound) (ys : List Bound) → with_bound kept xs x ++ ys ≡ with_rank kept xs x ys
with_others true xs x ys = append_assoc xs (x ∷ []) ys
with_others false xs x ys = refl

pub all_bound : (es ds : List CodeBound) (kept : Bool) (xs : List Bound) (x : Bound) → bounds_view es ≡ with_bound kept xs x → bounds_view (es ++ ds) ≡ with_rank kept xs x (bounds_view ds)
all_bound es ds kept xs x h = map-append bound_view es ds ∙ (ap (λ zs. zs ++ bounds_view ds) h ∙ with_others kept xs x (bounds_view ds))

pub not_wide : (scope : Scope) → length (rank_columns false (types scope)) ≡ length scope
not_wide scope = length-map scope (λ c. c.ty)

pub wide : (scope : Scope) → length (rank_columns true (types scope)) ≡ length scope + 1
wide scope = length-append (types scope) (rank_column ∷ []) ∙ ap (λ n. n + 1) (length-map scope (λ c. c.ty))
