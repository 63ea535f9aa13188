-- The columns that each node of a plan sends.
use Rattle.std.specs.Prelude.{◌≡◌, ℕ, cond, List, [], ◌∷◌, ◌++◌, map, slice_get, get_or, Option, None, option_map, option_and_then, unwrap_or}
use Rattle.ct_value.specs.declared.ty.ColTy.{ColTy}
use Rattle.ct_catalog.specs.Columns.{column_types}
use Rattle.ct_catalog.specs.declared.table.TableDef.{TableDef}
use Rattle.ct_expr.specs.Expr.{Expr}
use Rattle.ct_expr.specs.Types.{both_of}
use Rattle.rel_algebra.specs.declared.join.Pair.{Pair}
use Rattle.rel_algebra.specs.Types.{columns_if, match_fits, common_columns, unary_columns, binary_columns}
use Rattle.phys_plan.specs.declared.node.Op.{Op}
use Rattle.phys_plan.specs.declared.node.Node.{Node}
use Rattle.phys_plan.specs.Reading.{numbered}
use Rattle.plan_rules.specs.Behaviours.{has_rule}
use Rattle.plan_rules.specs.Roles.{Role, reads_table, one_of, two_of, all_of, same_as, part_of, not_told, role}

-- column by column the common columns of these and of further inputs, one after the other
abbrev pub common_with : Option (List ColTy) → List (Option (List ColTy)) → Option (List ColTy)
common_with columns [] = columns
common_with columns (input ∷ inputs) = common_with (both_of common_columns columns input) inputs

-- those of one input or more
abbrev pub common_of : List (Option (List ColTy)) → Option (List ColTy)
common_of [] = None
common_of (input ∷ inputs) = common_with input inputs

abbrev pub only : List (Option (List ColTy)) → Option (List ColTy)
only (input ∷ []) = input
only _ = None

-- of two inputs: what is made of the columns of both
abbrev pub of_two : (List ColTy → List ColTy → Option (List ColTy)) → List (Option (List ColTy)) → Option (List ColTy)
of_two made (left ∷ (right ∷ [])) = both_of made left right
of_two made _ = None

-- of two that are joined on these pairs and this rest, where the condition fits them
abbrev pub matched_columns : List Pair → Option Expr → (List ColTy → List ColTy → List ColTy) → List (Option (List ColTy)) → Option (List ColTy)
matched_columns on rest made inputs = of_two (λ l r. columns_if (match_fits l r on rest) (made l r)) inputs

-- by the role of a node
abbrev pub columns_as : List TableDef → Role → List (Option (List ColTy)) → Option (List ColTy)
columns_as sources (reads_table source) inputs = option_map column_types (slice_get sources source)
columns_as sources (one_of how) inputs = option_and_then (unary_columns how) (only inputs)
columns_as sources (two_of how) inputs = of_two (binary_columns how) inputs
columns_as sources all_of inputs = common_of inputs
columns_as sources same_as inputs = only inputs
columns_as sources (part_of keys aggs) inputs = only inputs
columns_as sources (not_told so_many) inputs = None

-- the columns of a node, from those of its inputs; none where it isn't well-typed, or isn't built yet
abbrev pub columns_by : List TableDef → Op → List (Option (List ColTy)) → Option (List ColTy)
columns_by sources operator inputs = cond (has_rule operator) (columns_as sources (role operator) inputs) None

-- those of a node by its number, from 1, among these; none where there is no such node, or it has none
abbrev pub numbered_columns : List (Option (List ColTy)) → ℕ → Option (List ColTy)
numbered_columns done v = option_and_then (λ columns. columns) (numbered done v)

-- those of a node behind these
abbrev pub next_columns : List TableDef → List (Option (List ColTy)) → Node → Option (List ColTy)
next_columns sources done node = columns_by sources node.op (map (numbered_columns done) node.inputs)

-- those of the nodes, each after its inputs, behind those of the nodes before them
abbrev pub columns_after : List TableDef → List (Option (List ColTy)) → List Node → List (Option (List ColTy))
columns_after sources done [] = done
columns_after sources done (node ∷ nodes) = columns_after sources (done ++ next_columns sources done node ∷ []) nodes

-- the columns of a node by its number, from 1
abbrev pub node_columns : List TableDef → List Node → ℕ → Option (List ColTy)
node_columns sources nodes v = numbered_columns (columns_after sources [] nodes) v

-- a node that isn't well-typed counts as one without columns
abbrev pub columns_at : List TableDef → List Node → ℕ → List ColTy
columns_at sources nodes v = unwrap_or (node_columns sources nodes v) []

-- kept columns are those of each node, by its number
abbrev pub AreColumns : List (List ColTy) → (ℕ → List ColTy) → Type 0
AreColumns kept columns = (v : ℕ) → get_or kept v [] ≡ columns v
