-- The relational algebra: its trees, over the expressions of the definitions.
use Rattle.std.specs.Prelude.{ℕ, Bool, List, [], ◌∷◌, Option}
use Rattle.ct_expr.specs.Expr.{Expr}
use Rattle.rel_algebra.specs.declared.agg.Agg.{Agg}
use Rattle.rel_algebra.specs.declared.join.JoinKind.{JoinKind}
use Rattle.rel_algebra.specs.declared.join.Pair.{Pair}
use Rattle.rel_algebra.specs.declared.sort.SortCol.{SortCol}

-- how rows are made of those of one input
pub data Unary : Type 0 where
  filter_by : Expr → Unary
  project_on : List Expr → Unary
  -- how many of the first columns are the key, aggregates
  group_by : ℕ → List Agg → Unary
  -- partition, order, bound, whether the rank is kept
  rank_in : List ℕ → List SortCol → ℕ → Bool → Unary

-- how rows are made of those of two inputs
pub data Binary : Type 0 where
  -- kind, pairs, rest
  join_on : JoinKind → List Pair → Option Expr → Binary
  -- anti, pairs, rest
  semi_on : Bool → List Pair → Option Expr → Binary
  -- EXCEPT, or else INTERSECT, whether each copy of a row counts, and how many columns both have
  set_by : Bool → Bool → ℕ → Binary

mutual
  pub data Rel : Type 0 where
    -- the table's number, from 0
    Scan : ℕ → Rel
    One : Unary → Rel → Rel
    Two : Binary → Rel → Rel → Rel
    Many : Rels → Rel

  pub data Rels : Type 0 where
    no_rels : Rels
    rel_and : Rel → Rels → Rels

-- ---- operators by name, as terms and as patterns

pattern abbrev pub Filter : Rel → Expr → Rel
Filter input condition = One (filter_by condition) input

pattern abbrev pub Project : Rel → List Expr → Rel
Project input items = One (project_on items) input

pattern abbrev pub Union : Rels → Rel
Union inputs = Many inputs

pattern abbrev pub Group : Rel → ℕ → List Agg → Rel
Group input keys aggs = One (group_by keys aggs) input

pattern abbrev pub Join : Rel → Rel → JoinKind → List Pair → Option Expr → Rel
Join left right kind pairs rest = Two (join_on kind pairs rest) left right

pattern abbrev pub Semi : Rel → Rel → Bool → List Pair → Option Expr → Rel
Semi left right anti pairs rest = Two (semi_on anti pairs rest) left right

pattern abbrev pub SetOp : Rel → Rel → Bool → Bool → ℕ → Rel
SetOp left right except all columns = Two (set_by except all columns) left right

pattern abbrev pub Rank : Rel → List ℕ → List SortCol → ℕ → Bool → Rel
Rank input partition order bound ranked = One (rank_in partition order bound ranked) input

abbrev pub rels : List Rel → Rels
rels [] = no_rels
rels (rel ∷ others) = rel_and rel (rels others)
