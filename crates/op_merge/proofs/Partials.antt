-- The partials of calls, one call's behind another's, read call by call.
use Rattle.std.proofs.Common.{◌≡◌, ◌&&◌, ◌++◌, Bool, true, false, List, [], ◌∷◌, drop, length, Option, refl}
use Rattle.std.proofs.lemmas.List.{map-append}
use Rattle.ct_value.specs.declared.ty.ColTy.{ColTy}
use Rattle.ct_value.specs.declared.ty.Ty.{Ty}
use Rattle.ct_value.specs.declared.value.Value.{Value}
use Rattle.ct_field.specs.Typed.{cell}
use Rattle.rel_algebra.specs.declared.agg.Agg.{Agg}
use Rattle.rel_algebra.specs.declared.agg.AggCall.{AggCall}
use Rattle.rel_algebra.specs.declared.agg.AggCall.TheVariants.{CountAll, Count, CountDistinct, Sum, Min, Max, Avg}
use Rattle.agg_fns.specs.Partial.{partials_sum}
use Rattle.agg_fns.specs.PartialResults.{result_fits, result_of}
use Rattle.agg_fns.specs.Reading.{Part, summed, lowest, highest, parts_by, is_blank, all_blank}
use Rattle.phase_rules.specs.LocalGrouping.{parts_of_calls}
use Rattle.phase_rules.specs.Merging.{argument_type, sums_of_calls, sums_within, values_from}
use Rattle.op_merge.specs.Kept.{behind_call}

-- ---- the partial of the first call

module _ (rows : List (List Value)) (rest : List Value) where
  result_ahead : (call : AggCall) (ty : Ty) → result_of call ty (partials_sum call rows ++ rest) ≡ result_of call ty (partials_sum call rows)
  result_ahead CountAll ty = refl
  result_ahead Count ty = refl
  result_ahead CountDistinct ty = refl
  result_ahead Sum ty = refl
  result_ahead Min ty = refl
  result_ahead Max ty = refl
  result_ahead Avg ty = refl

  fits_ahead : (call : AggCall) (ty : Ty) → result_fits call ty (partials_sum call rows ++ rest) ≡ result_fits call ty (partials_sum call rows)
  fits_ahead CountAll ty = refl
  fits_ahead Count ty = refl
  fits_ahead CountDistinct ty = refl
  fits_ahead Sum ty = refl
  fits_ahead Min ty = refl
  fits_ahead Max ty = refl
  fits_ahead Avg ty = refl

  drop_ahead : (call : AggCall) → drop (length (parts_by call)) (partials_sum call rows ++ rest) ≡ rest
  drop_ahead CountAll = refl
  drop_ahead Count = refl
  drop_ahead CountDistinct = refl
  drop_ahead Sum = refl
  drop_ahead Min = refl
  drop_ahead Max = refl
  drop_ahead Avg = refl

  one_ahead : (b c : Bool) → (b && c) ≡ ((b && true) && c)
  one_ahead true c = refl
  one_ahead false c = refl

  two_ahead : (a b c : Bool) → (a && (b && c)) ≡ ((a && (b && true)) && c)
  two_ahead true b c = one_ahead b c
  two_ahead false b c = refl

  blank_ahead : (call : AggCall) (ps : List Part) → all_blank (parts_by call ++ ps) (partials_sum call rows ++ rest) ≡ (all_blank (parts_by call) (partials_sum call rows) && all_blank ps rest)
  blank_ahead CountAll ps = one_ahead (is_blank summed (cell 0 (partials_sum CountAll rows))) (all_blank ps rest)
  blank_ahead Count ps = one_ahead (is_blank summed (cell 0 (partials_sum Count rows))) (all_blank ps rest)
  blank_ahead CountDistinct ps = refl
  blank_ahead Sum ps = two_ahead (is_blank summed (cell 0 (partials_sum Sum rows))) (is_blank summed (cell 1 (partials_sum Sum rows))) (all_blank ps rest)
  blank_ahead Min ps = one_ahead (is_blank lowest (cell 0 (partials_sum Min rows))) (all_blank ps rest)
  blank_ahead Max ps = one_ahead (is_blank highest (cell 0 (partials_sum Max rows))) (all_blank ps rest)
  blank_ahead Avg ps = two_ahead (is_blank summed (cell 0 (partials_sum Avg rows))) (is_blank summed (cell 1 (partials_sum Avg rows))) (all_blank ps rest)

-- ---- all calls

pub blank_cons : (agg : Agg) (aggs : List Agg) (rows : List (List Value)) → all_blank (parts_of_calls (agg ∷ aggs)) (sums_of_calls (agg ∷ aggs) rows)
    ≡ (all_blank (parts_by agg.call) (partials_sum agg.call rows) && all_blank (parts_of_calls aggs) (sums_of_calls aggs (behind_call agg rows)))
blank_cons agg aggs rows = blank_ahead rows (sums_of_calls aggs (behind_call agg rows)) agg.call (parts_of_calls aggs)

module _ (columns : List ColTy) where
  abbrev pub values : List Agg → List (List Value) → List (Option Value)
  values aggs rows = values_from columns aggs (sums_of_calls aggs rows)

  abbrev pub within : List Agg → List (List Value) → Bool
  within aggs rows = sums_within columns aggs (sums_of_calls aggs rows)

  pub values_cons : (agg : Agg) (aggs : List Agg) (rows : List (List Value)) → values (agg ∷ aggs) rows ≡ result_of agg.call (argument_type columns agg) (partials_sum agg.call rows) ∷ values aggs (behind_call agg rows)
  values_cons agg aggs rows =
      let rest = sums_of_calls aggs (behind_call agg rows) in
      λ i. result_ahead rows rest agg.call (argument_type columns agg) i ∷ values_from columns aggs (drop_ahead rows rest agg.call i)

  pub within_cons : (agg : Agg) (aggs : List Agg) (rows : List (List Value)) → within (agg ∷ aggs) rows ≡ (result_fits agg.call (argument_type columns agg) (partials_sum agg.call rows) && within aggs (behind_call agg rows))
  within_cons agg aggs rows =
      let rest = sums_of_calls aggs (behind_call agg rows) in
      λ i. fits_ahead rows rest agg.call (argument_type columns agg) i && sums_within columns aggs (drop_ahead rows rest agg.call i)

-- ---- with a partial row more

pub behind_push : (agg : Agg) (rows : List (List Value)) (row : List Value) → behind_call agg (rows ++ row ∷ []) ≡ behind_call agg rows ++ drop (length (parts_by agg.call)) row ∷ []
behind_push agg rows row = map-append (λ (r : List Value). drop (length (parts_by agg.call)) r) rows (row ∷ [])
