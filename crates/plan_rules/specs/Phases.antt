-- Groups in two phases: which nodes send partial rows, and what goes over their edges.
use Rattle.std.specs.Prelude.{ℕ, ◌==◌, pos, int_lt, Bool, true, false, cond, not, ◌&&◌, ◌||◌, List, take, Option, Some, None}
use Rattle.std.specs.List.{list_all}
use Rattle.ct_value.specs.Order.{number_of}
use Rattle.ct_value.specs.declared.ty.ColTy.{ColTy}
use Rattle.ct_value.specs.declared.value.Value.{Value}
use Rattle.ct_field.specs.Typed.{cell, row_fits}
use Rattle.ct_change.specs.declared.change.Change.{Change}
use Rattle.ct_change.specs.Changelog.{Mode, append, retract, upsert}
use Rattle.ct_change.specs.declared.kind.KindSet.{KindSet}
use Rattle.rel_algebra.specs.declared.agg.Agg.{Agg}
use Rattle.rel_algebra.specs.declared.agg.AggCall.{AggCall}
use Rattle.rel_algebra.specs.declared.agg.AggCall.TheVariants.{CountAll, Count, CountDistinct, Sum, Min, Max, Avg}
use Rattle.rel_algebra.specs.Rel.{Unary, filter_by, project_on, group_by, rank_in}
use Rattle.op_rules.specs.Edges.{Meaning, partials}
use Rattle.phase_rules.specs.LocalGrouping.{LocalGrouping, partials_of}
use Rattle.phase_rules.specs.Merging.{is_partial_row}
use Rattle.phys_plan.specs.declared.node.Op.{Op}
use Rattle.phys_plan.specs.declared.node.Op.TheVariants.{LocalGroup}

-- the local grouping of an operator, over rows of these columns from a changelog in this mode; none of one that sends rows
abbrev pub local_by : Op → List ColTy → Mode → Option LocalGrouping
local_by (LocalGroup keys aggs) columns input = Some (record { keys = keys; aggs = aggs; columns = columns; input = input })
local_by operator columns input = None

-- whether it sends partial rows
abbrev pub sends_parts : Op → Bool
sends_parts (LocalGroup keys aggs) = true
sends_parts operator = false

-- where rows only come in, a partial row says that some have
abbrev pub says_some : Mode → Value → Bool
says_some append count = int_lt (pos 0) (number_of count)
says_some retract count = true
says_some (upsert key) count = true

-- a partial row, as a local group sends it: its key fits the key's columns
abbrev pub is_sent : LocalGrouping → Change → Bool
is_sent l change = row_fits (take l.keys l.columns) (take l.keys change.row) && (is_partial_row l change.row && says_some l.input (cell l.keys change.row))

-- how an edge is read that is read like this where rows go over it, and which changes go over it
abbrev pub meaning_sent : Option LocalGrouping → Meaning → Meaning
meaning_sent None meaning = meaning
meaning_sent (Some l) meaning = partials (partials_of l)

abbrev pub fits_sent : Option LocalGrouping → (Change → Bool) → Change → Bool
fits_sent None fits change = fits change
fits_sent (Some l) fits change = is_sent l change

-- ---- which groups are taken in two phases

abbrev pub only_inserts : KindSet → Bool
only_inserts kinds = kinds.i && (not kinds.ub && (not kinds.ua && not kinds.d))

-- a call of which parts can be summed up, over changes of these kinds
abbrev pub has_parts : KindSet → AggCall → Bool
has_parts kinds CountAll = true
has_parts kinds Count = true
has_parts kinds CountDistinct = false
has_parts kinds Sum = true
has_parts kinds Min = only_inserts kinds
has_parts kinds Max = only_inserts kinds
has_parts kinds Avg = true

-- how many changes a bundle holds, 0 where there are no bundles, and whether groups in bundles are taken in two phases
pub record Bundles : Type 0 where
  pub size : ℕ
  pub two_phase : Bool

-- whether a group by so many columns over changes of these kinds is taken in two phases
abbrev pub in_phases : Bundles → ℕ → List Agg → KindSet → Bool
in_phases b keys aggs kinds = b.two_phase && (not (b.size == 0 || keys == 0) && list_all (λ agg. has_parts kinds agg.call) aggs)

-- the local group below a group of a tree, whose input sends these kinds; none where the group is taken in one phase
abbrev pub local_below : Bundles → Unary → KindSet → Option Op
local_below b (group_by keys aggs) kinds = cond (in_phases b keys aggs kinds) (Some (LocalGroup keys aggs)) None
local_below b (filter_by condition) kinds = None
local_below b (project_on items) kinds = None
local_below b (rank_in partition order bound ranked) kinds = None
