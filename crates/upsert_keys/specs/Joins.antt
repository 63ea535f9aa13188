-- The keys of joins.
use Rattle.std.specs.Prelude.{ℕ, Bool, true, false, not, List, [], ◌∷◌, ◌++◌, length, filter, slice_get, Option, None, Some}
use Rattle.std.specs.List.{list_any}
use Rattle.ct_value.specs.declared.ty.ColTy.{ColTy}
use Rattle.rel_algebra.specs.declared.join.JoinKind.{JoinKind}
use Rattle.rel_algebra.specs.declared.join.JoinKind.TheVariants.{Inner, Left, Right, Full}
use Rattle.rel_algebra.specs.declared.join.Pair.{Pair}
use Rattle.rel_algebra.specs.Joins.{left_columns, right_columns}
use Rattle.phys_plan.specs.declared.edge.Exchange.TheVariants.{Forward}
use Rattle.phys_plan.specs.declared.node.KeyInfo.{KeyInfo}
use Rattle.column_sets.specs.Sets.{set_of, union, unions, has_within}
use Rattle.column_sets.specs.Places.{shift, shifted}
use Rattle.upsert_keys.specs.declared.seen.Seen.{Seen}
use Rattle.upsert_keys.specs.declared.joins.Joining.{Joining}
use Rattle.upsert_keys.specs.Seen.{families, seen_over}

-- how two sides are joined, by columns of the joined row, which has the left's columns and then the right's
abbrev pub joining : JoinKind → List Pair → Seen → Seen → Joining
joining kind on left right = record {
  kind = kind;
  left = left_columns on;
  right = shift (length left.columns) (right_columns on);
  columns = left.columns ++ right.columns;
}

abbrev pub when : Bool → List (List ℕ) → List (List ℕ)
when true sets = sets
when false sets = []

-- NULL may not stand in the column
abbrev pub is_required : Option ColTy → Bool
is_required None = false
is_required (Some column) = not column.nullable

abbrev pub has_required : List ColTy → List ℕ → Bool
has_required columns set = list_any (λ col. is_required (slice_get columns col)) set

-- a row of the left has at most one match where a key of the right lies in the columns by which it is joined; so a key of the left
-- is one of the joined rows
abbrev pub of_left : Joining → List (List ℕ) → List (List ℕ) → List (List ℕ)
of_left join lefts rights = when (has_within rights join.right) lefts

abbrev pub of_right : Joining → List (List ℕ) → List (List ℕ) → List (List ℕ)
of_right join lefts rights = when (has_within lefts join.left) rights

-- the keys of joined rows, from keys of both sides. A side whose rows may be missing is no key by itself; where both may, rows of
-- either side without a match are told apart by a column in which NULL doesn't stand otherwise
abbrev pub join_sets : JoinKind → Joining → List (List ℕ) → List (List ℕ) → List (List ℕ)
join_sets Inner join lefts rights = unions lefts rights ++ (of_left join lefts rights ++ of_right join lefts rights)
join_sets Left join lefts rights = unions lefts rights ++ of_left join lefts rights
join_sets Right join lefts rights = unions lefts rights ++ of_right join lefts rights
join_sets Full join lefts rights = filter (has_required join.columns) (unions lefts rights)

-- which sets fix the subtask of a joined row: the columns of a side that is never missing
abbrev pub join_fixing : JoinKind → Joining → List (List ℕ)
join_fixing Inner join = set_of join.left ∷ (set_of join.right ∷ [])
join_fixing Left join = set_of join.left ∷ []
join_fixing Right join = set_of join.right ∷ []
join_fixing Full join = union join.left join.right ∷ []

abbrev pub keys_joined : Joining → Seen → Seen → KeyInfo
keys_joined join left right =
    families
    (join_sets join.kind join left.unique (shifted (length left.columns) right.unique))
    (join_sets join.kind join left.everywhere (shifted (length left.columns) right.everywhere))
    (join_fixing join.kind join)

abbrev pub join_keys : JoinKind → List Pair → Seen → Seen → KeyInfo
join_keys kind on left right = keys_joined (joining kind on left right) left right

-- a row that passes stands as often as on the left, and where the left's exchange columns say
abbrev pub semi_keys : List Pair → Seen → KeyInfo
semi_keys on left = families left.unique left.everywhere (set_of (left_columns on) ∷ [])

-- ---- several inputs, joined one after the other

-- what is seen of the rows joined so far and of one input more
abbrev pub joined : List Pair → Seen → Seen → Seen
joined on so_far input = seen_over Forward (so_far.columns ++ input.columns) (join_keys Inner on so_far input)

abbrev pub chain : Seen → List (List Pair) → List Seen → Seen
chain so_far [] inputs = so_far
chain so_far (on ∷ more) [] = so_far
chain so_far (on ∷ more) (input ∷ inputs) = chain (joined on so_far input) more inputs

abbrev pub keys_in : Seen → KeyInfo
keys_in seen = record { unique = seen.unique; local = seen.local; fixing = seen.fixing }

abbrev pub chain_keys : List (List Pair) → List Seen → KeyInfo
chain_keys on [] = record { unique = []; local = []; fixing = [] }
chain_keys on (input ∷ inputs) = keys_in (chain input on inputs)
