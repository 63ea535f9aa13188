-- The batch answer of a tree of the algebra: one case for each variant, each a function of the inputs' whole bags.
use Rattle.std.specs.Prelude.{ℕ, ◌^◌, nat_le, Bool, false, List, [], map, slice_get, Option, Some, None, option_and_then}
use Rattle.std.specs.List.{list_any, AllByRecursion}
use Rattle.std.specs.Option.{unwrap_or}
use Rattle.ct_value.specs.Bag.{items, copies, none}
use Rattle.ct_value.specs.declared.ty.ColTy.{ColTy}
use Rattle.ct_change.specs.Changelog.{Rows}
use Rattle.ct_expr.specs.Types.{both_of}
use Rattle.rel_algebra.specs.Clauses.{Fits}
use Rattle.rel_algebra.specs.Sums.{Each, plus}
use Rattle.rel_algebra.specs.Rel.{Rel, Rels, Scan, One, Two, Many, no_rels, rel_and}
use Rattle.rel_algebra.specs.Batch.{unary_answer, binary_answer}
use Rattle.rel_algebra.specs.Walks.{some_part, some_part_of_any}
use Rattle.rel_algebra.specs.Types.{columns_of}

-- the types of a table's columns, and its rows
pub record Table : Type 0 where
  pub columns : List ColTy
  pub rows : Rows

abbrev pub types_in : List Table → List (List ColTy)
types_in tables = map (λ table. table.columns) tables

-- no rows where there is no such table
abbrev pub rows_in : List Table → ℕ → Rows
rows_in tables source = unwrap_or (slice_get (map (λ table. table.rows) tables) source) none

module _ (tables : List Table) where
  -- the columns of a part; a part that isn't well-typed has none
  abbrev pub columns_in : Rel → List ColTy
  columns_in rel = unwrap_or (columns_of (types_in tables) rel) []

  abbrev mutual
    -- the rows, or none where something that is evaluated is out of range
    pub answer : Rel → Option Rows
    answer (Scan source) = Some (rows_in tables source)
    answer (One how input) = option_and_then (unary_answer how (columns_in input)) (answer input)
    answer (Two how left right) = both_of (binary_answer how (columns_in left) (columns_in right)) (answer left) (answer right)
    answer (Many inputs) = answers inputs

    -- the rows of all inputs
    pub answers : Rels → Option Rows
    answers no_rels = Some none
    answers (rel_and input inputs) = plus (answer input) (answers inputs)

  -- ---- more copies of a row than can be counted

  -- some row has 2^64 copies or more
  abbrev pub too_many : Option Rows → Bool
  too_many None = false
  too_many (Some rows) = list_any (λ row. nat_le (2 ^ 64) (copies rows row)) (items rows)

  -- the answer of the tree, or of one of its parts, has so many copies of a row
  abbrev pub wide : Rel → Bool
  wide = some_part (λ rel. too_many (answer rel))

  abbrev pub any_wide : Rels → Bool
  any_wide = some_part_of_any (λ rel. too_many (answer rel))

-- ---- what is known of tables

-- each row of a table has its columns
abbrev pub AreTyped : List Table → Type 0
AreTyped tables = AllByRecursion (λ table. Each (Fits table.columns) table.rows) tables
