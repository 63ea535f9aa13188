-- What is kept of a group of which partial rows came, and what it amounts to.
use Rattle.std.specs.Prelude.{◌≡◌, Bool, true, List, [], ◌∷◌, drop, length, map, Option, Some, None, is_some}
use Rattle.ct_value.specs.declared.ty.ColTy.{ColTy}
use Rattle.ct_value.specs.declared.ty.Ty.TheVariants.{BigInt}
use Rattle.ct_value.specs.declared.value.Value.{Value}
use Rattle.rel_algebra.specs.declared.agg.Agg.{Agg}
use Rattle.rel_algebra.specs.declared.agg.AggCall.TheVariants.{CountAll}
use Rattle.agg_fns.specs.MergedPartials.{StandsForPartials}
use Rattle.agg_fns.specs.Reading.{parts_by, all_blank}
use Rattle.phase_rules.specs.LocalGrouping.{LocalGrouping, parts}
use Rattle.phase_rules.specs.Merging.{argument_type, merged, results_from, sums_within}
use Rattle.op_merge.specs.declared.kept.Kept.{Kept}
use Rattle.op_merge.specs.declared.merger.Merger.{Merger}

-- what partial rows have behind the columns of a call
abbrev pub behind_call : Agg → List (List Value) → List (List Value)
behind_call agg rows = map (λ row. drop (length (parts_by agg.call)) row) rows

-- each call's accumulator stands for what partial rows have in the call's columns, which stand one call's behind
-- another's
abbrev pub StandAll : List ColTy → List Merger → List (List Value) → Type 0
StandAll columns [] rows = Unit {0}
StandAll columns (merger ∷ mergers) rows = StandsForPartials merger.agg.call (argument_type columns merger.agg) merger.acc rows × StandAll columns mergers (behind_call merger.agg rows)

abbrev pub calls : List Merger → List Agg
calls mergers = map (λ merger. merger.agg) mergers

-- what is kept of a group stands for what its partial rows have behind the key: how many more rows have come than gone,
-- then the partials
pub record IsKept (l : LocalGrouping) (kept : Kept) (rows : List (List Value)) : Type 0 where
  pub count : StandsForPartials CountAll BigInt kept.rows rows
  pub calls_are : calls kept.mergers.items ≡ l.aggs
  pub stand : StandAll l.columns kept.mergers.items (map (λ row. drop 1 row) rows)

-- whether partial rows amount to nothing, as none do
abbrev pub is_nothing : LocalGrouping → List (List Value) → Bool
is_nothing l rows = all_blank (parts l.aggs) (merged l.aggs rows)

-- what is kept of a group, if anything is, stands for its partial rows; nothing is of a group whose partial rows amount
-- to nothing
abbrev pub KeptAt : LocalGrouping → List (List Value) → Option Kept → Type 0
KeptAt l rows None = is_nothing l rows ≡ true
KeptAt l rows (Some kept) = IsKept l kept rows

-- what is kept of a group stands for some partial rows
abbrev pub IsOfSome : Kept → Type 0
IsOfSome kept = (l : LocalGrouping) × (rows : List (List Value)) × IsKept l kept rows

-- so it is of all partial rows for which what is kept stands
abbrev pub ForKept : Kept → (LocalGrouping → List (List Value) → Type 0) → Type 0
ForKept kept P = (l : LocalGrouping) (rows : List (List Value)) → IsKept l kept rows → P l rows

-- whether the sums in what partial rows amount to are within their limits
abbrev pub is_within : LocalGrouping → List (List Value) → Bool
is_within l rows = sums_within l.columns l.aggs (drop 1 (merged l.aggs rows))

-- whether the calls over the rows for which partial rows stand have results
abbrev pub has_results : LocalGrouping → List (List Value) → Bool
has_results l rows = is_some (results_from l.columns l.aggs (merged l.aggs rows))
