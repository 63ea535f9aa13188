-- The rule of a group: what it emits for what comes, from the rows of each group before it and after each change of it.
use Rattle.std.specs.Prelude.{◌≡◌, ℕ, ◌+◌, ◌*◌, ◌≤◌, ◌==◌, ◌↔◌, Bool, true, cond, not, ◌&&◌, ◌||◌, List, [], ◌∷◌, ◌++◌, length, map, take, Option, Some, None, option_map, is_some, Ok, Err}
use Rattle.std.specs.List.{list_all}
use Rattle.ct_value.specs.Bag.{none, total}
use Rattle.ct_value.specs.Rows.{project}
use Rattle.ct_value.specs.declared.row.Row.{Row}
use Rattle.ct_value.specs.declared.ty.Ty.{Ty}
use Rattle.ct_value.specs.declared.ty.ColTy.{ColTy}
use Rattle.ct_change.specs.declared.change.Change.{Change}
use Rattle.ct_change.specs.Changelog.{Mode, append, retract, upsert, Rows, apply, fold, fold_from}
use Rattle.ct_change.specs.Emission.{emission}
use Rattle.op_rules.specs.Values.{types_fit}
use Rattle.rel_algebra.specs.declared.agg.Agg.{Agg}
use Rattle.rel_algebra.specs.Aggregates.{values_of, type_in, ty_or_bigint, agg_results, sum_fits}
use Rattle.rel_algebra.specs.Groups.{group_columns}
use Rattle.rel_algebra.specs.Keys.{rows_of_key}
use Rattle.rel_algebra.specs.GroupedCounts.{first_seen, in_group}
use Rattle.op_rules.specs.History.{Arrival, at_port}
use Rattle.op_rules.specs.Rules.{Answer, appended, Rule}

-- rows of these columns are grouped by so many first ones, with calls over the rows of each group, from a changelog in one
-- mode to one in another
pub record Grouping : Type 0 where
  pub keys : ℕ
  pub aggs : List Agg
  pub columns : List ColTy
  pub input : Mode
  pub output : Mode

-- the rows of a group
abbrev pub members : Grouping → Row → Rows → Rows
members g key rows = rows_of_key (take g.keys) key rows

-- how many they are
abbrev pub row_count : Rows → ℕ
row_count rows = total (λ _. 1) rows

-- a group has a row where it has members; the group of all rows, which has no key columns, always has one
abbrev pub is_shown : Grouping → Rows → Bool
is_shown g rows = (g.keys == 0) || not (row_count rows == 0)

-- the results of the calls over the members of a group, none where one is out of range
abbrev pub results : Grouping → Rows → Option Row
results g rows = agg_results g.columns g.aggs rows

-- a group's row: its key, then the results
abbrev pub row_of : Grouping → Row → Rows → Option Row
row_of g key rows = option_map (λ values. key ++ values) (results g rows)

-- the row of a group where these rows stand, none where it has none
abbrev pub group_row : Grouping → Rows → Row → Option Row
group_row g rows key = cond (is_shown g (members g key rows)) (row_of g key (members g key rows)) None

-- ---- what is out of range

-- the type of a call's argument
abbrev pub arg_type : Grouping → Agg → Ty
arg_type g agg = ty_or_bigint (type_in g.columns agg.arg)

-- whether the sums that the calls keep of a group's members are within their limits
abbrev pub sums_fit : Grouping → Rows → Bool
sums_fit g rows = list_all (λ agg. sum_fits agg.call (arg_type g agg) (values_of agg rows)) g.aggs

-- whether they are after each of these changes that is one of the group's
abbrev pub fits_along : Grouping → Row → Rows → List Change → Bool
fits_along g key rows [] = true
fits_along g key rows (change ∷ changes) = (not (in_group g.keys key change.row) || sums_fit g (members g key (apply g.input rows change))) && fits_along g key (apply g.input rows change) changes

-- whether all calls have results over a group's members
abbrev pub is_counted : Grouping → Rows → Row → Bool
is_counted g rows key = is_some (results g (members g key rows))

-- ---- what is emitted

-- the groups of these changes, in first-seen order
abbrev pub groups_of : ℕ → List Change → List Row
groups_of keys changes = first_seen (map (λ change. take keys change.row) changes)

-- the answers for these groups, in order
abbrev pub answers : (Row → Answer) → List Row → Answer
answers answer [] = Ok []
answers answer (key ∷ keys) = appended (answer key) (answers answer keys)

-- for a group, its row before these changes is replaced by its row after them; a sum that leaves its limit on the way, or a
-- call that is out of range at the end, is out of range at the group's key
abbrev pub group_emits : Grouping → Rows → List Change → Row → Answer
group_emits g rows changes key =
    let fresh = fold_from g.input rows changes in
    cond (fits_along g key rows changes && is_counted g fresh key) (Ok (emission g.output (group_row g rows key) (group_row g fresh key))) (Err key)

-- for a piece, each of its groups in first-seen order
abbrev pub emits : Grouping → List Arrival → List Arrival → Answer
emits g before piece = answers (group_emits g (fold g.input (at_port 0 before)) (at_port 0 piece)) (groups_of g.keys (at_port 0 piece))

-- when the job opens: the row of the group of all rows, at subtask 0
abbrev pub opening : Grouping → ℕ → List Change
opening g subtask = cond (g.keys == 0) (cond (subtask == 0) (emission g.output None (group_row g none [])) []) []

abbrev pub group_rule : Grouping → Rule
group_rule g = record {
  ports = 1;
  mode = λ port. g.input;
  fits = λ port change. types_fit g.columns change.row;
  opening = opening g;
  emits = emits g;
  work = λ before a. 2 + 3 * length g.aggs;
}

-- ---- what a grouping needs

-- rows with one key of the mode are of one group
abbrev pub KeepsGroups : ℕ → Mode → Type 0
KeepsGroups keys append = Unit {0}
KeepsGroups keys retract = Unit {0}
KeepsGroups keys (upsert key) = (a b : Row) → keys ≤ length a → keys ≤ length b → project key a ≡ project key b → take keys a ≡ take keys b

-- a row that may change or go can be told: an append changelog tells only groups without calls of rows that stay, and the
-- key of an upsert changelog names the group
abbrev pub TellsGroups : Grouping → Mode → Type 0
TellsGroups g append = (g.aggs ≡ []) × (g.input ≡ append)
TellsGroups g retract = Unit {0}
TellsGroups g (upsert key) = (a b : Row) → g.keys ≤ length a → g.keys ≤ length b → (project key a ≡ project key b) ↔ (take g.keys a ≡ take g.keys b)

-- the calls have types, which are the columns made, and the modes suit the groups
pub record IsSound (g : Grouping) : Type 0 where
  pub made : List ColTy
  pub typed : group_columns g.keys g.columns g.aggs ≡ Some made
  pub keeps : KeepsGroups g.keys g.input
  pub tells : TellsGroups g g.output
