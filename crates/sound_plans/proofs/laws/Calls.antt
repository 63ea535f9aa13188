-- Calls that are told as the same are the same.
use Rattle.std.specs.Prelude.{◌≡◌, ℕ, List, Option}
use Rattle.std.proofs.Common.{true, [], ◌∷◌, refl, ap, Some, None}
use Rattle.std.proofs.lemmas.Bool.{eqb-true}
use Rattle.rel_algebra.specs.declared.agg.Agg.{Agg}
use Rattle.rel_algebra.specs.declared.agg.AggCall.{AggCall}
use Rattle.rel_algebra.specs.declared.agg.AggCall.TheVariants.{CountAll, Count, CountDistinct, Sum, Min, Max, Avg}
use Rattle.plan_shape.specs.Shape.{same_agg, same_aggs, same_call, same_column}
use Rattle.sound_plans.proofs.laws.Lists.{both}

call_same : (call other : AggCall) → same_call call other ≡ true → call ≡ other
call_same CountAll CountAll h = refl
call_same Count Count h = refl
call_same CountDistinct CountDistinct h = refl
call_same Sum Sum h = refl
call_same Min Min h = refl
call_same Max Max h = refl
call_same Avg Avg h = refl
call_same _ _ h = absurd (cc)

column_same : (column other : Option ℕ) → same_column column other ≡ true → column ≡ other
column_same None None h = refl
column_same None (Some other) h = absurd (cc)
column_same (Some column) None h = absurd (cc)
column_same (Some column) (Some other) h = ap (λ n. Some n) (eqb-true column other h)

agg_is : (agg other : Agg) → same_agg agg other ≡ true → agg ≡ other
agg_is agg other h =
    let calls = both (same_call agg.call other.call) _ h in
    let columns = both (same_column agg.arg other.arg) (same_column agg.filter other.filter) calls.1 in
    λ i. record { call = call_same agg.call other.call calls.0 i; arg = column_same agg.arg other.arg columns.0 i; filter = column_same agg.filter other.filter columns.1 i }

pub aggs_same : (aggs others : List Agg) → same_aggs aggs others ≡ true → aggs ≡ others
aggs_same [] [] h = refl
aggs_same [] (other ∷ others) h = absurd (cc)
aggs_same (agg ∷ aggs) [] h = absurd (cc)
aggs_same (agg ∷ aggs) (other ∷ others) h = let b = both (same_agg agg other) (same_aggs aggs others) h in λ i. agg_is agg other b.0 i ∷ aggs_same aggs others b.1 i
