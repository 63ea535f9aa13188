-- Worked examples: tables, a query over them as a tree of the algebra, its columns, and its rows in order, or out of range.
use Rattle.std.specs.Prelude.{ℕ, pos, negsuc, true, false, List, [], ◌∷◌, codes, Option, Some, None}
use Rattle.ct_value.specs.declared.row.Row.{Row}
use Rattle.ct_value.specs.declared.ty.Ty.{Ty}
use Rattle.ct_value.specs.declared.ty.Ty.TheVariants.{Bool as Truths, Int, BigInt, Decimal, Text as Texts}
use Rattle.ct_value.specs.declared.ty.ColTy.{ColTy}
use Rattle.ct_value.specs.declared.value.CompareOp.TheVariants.{Lt, Gt}
use Rattle.ct_value.specs.declared.value.Value.{Value}
use Rattle.ct_value.specs.declared.value.Value.TheVariants.{Null, Bool as Truth, Num, Text}
use Rattle.ct_expr.specs.declared.expr.ArithOp.TheVariants.{Add}
use Rattle.ct_expr.specs.Expr.{Column, Literal, Arith, Compare, Not, InList, exprs}
use Rattle.rel_algebra.specs.declared.agg.Agg.{Agg}
use Rattle.rel_algebra.specs.declared.agg.AggCall.{AggCall}
use Rattle.rel_algebra.specs.declared.agg.AggCall.TheVariants.{CountAll, Count, CountDistinct, Sum, Min, Max, Avg}
use Rattle.rel_algebra.specs.declared.join.Pair.{Pair}
use Rattle.rel_algebra.specs.declared.join.JoinKind.TheVariants.{Inner, Left, Right, Full}
use Rattle.rel_algebra.specs.declared.sort.SortCol.{SortCol}
use Rattle.rel_algebra.specs.Rel.{Rel, Scan, Filter, Project, Union, Group, Join, Semi, Rank, rels}
use Rattle.query_examples.specs.Listed.{ListedTable}

pub record Example : Type 0 where
  pub tables : List ListedTable
  pub rel : Rel
  pub columns : Option (List ColTy)
  pub rows : Option (List Row)

-- ---- words

abbrev pub n : ℕ → Value
n k = Num (pos k)

abbrev pub t : List ℕ → Value
t word = Text word

abbrev pub may : Ty → ColTy
may ty = record { ty = ty; nullable = true }

abbrev pub must : Ty → ColTy
must ty = record { ty = ty; nullable = false }

abbrev pub table : List ColTy → List Row → ListedTable
table columns rows = record { columns = columns; rows = rows }

abbrev pub pair : ℕ → ℕ → Pair
pair left right = record { left = left; right = right }

abbrev pub all_rows : Agg
all_rows = record { call = CountAll; arg = None; filter = None }

abbrev pub of : AggCall → ℕ → Agg
of call column = record { call = call; arg = Some column; filter = None }

abbrev pub of_where : AggCall → ℕ → ℕ → Agg
of_where call column filter = record { call = call; arg = Some column; filter = Some filter }

-- ---- Filter, Project, Union

abbrev pub numbers : ListedTable
numbers = table (may Int ∷ []) ((n 1 ∷ []) ∷ (n 2 ∷ []) ∷ (Null ∷ []) ∷ (n 2 ∷ []) ∷ [])

-- a condition that is NULL keeps no row
abbrev pub a_filter : Example
a_filter = record {
  tables = numbers ∷ [];
  rel = Filter (Scan 0) (Compare Gt (Column 0 Int) (Literal (n 1) Int));
  columns = Some (may Int ∷ []);
  rows = Some ((n 2 ∷ []) ∷ (n 2 ∷ []) ∷ []);
}

-- x NOT IN (1, NULL) is never TRUE
abbrev pub not_in_null : Example
not_in_null = record {
  tables = numbers ∷ [];
  rel = Filter (Scan 0) (Not (InList (Column 0 Int) (exprs (Literal (n 1) Int ∷ Literal Null Int ∷ []))));
  columns = Some (may Int ∷ []);
  rows = Some [];
}

-- a sum that leaves INT is out of range, though the row is not kept later
abbrev pub a_project_out : Example
a_project_out = record {
  tables = table (must Int ∷ []) ((n 2147483647 ∷ []) ∷ []) ∷ [];
  rel = Project (Scan 0) (Arith Add (Column 0 Int) (Literal (n 1) Int) ∷ []);
  columns = Some (must Int ∷ []);
  rows = None;
}

-- each copy stays; INT beside BIGINT gives BIGINT
abbrev pub a_union : Example
a_union = record {
  tables = table (must Int ∷ []) ((n 7 ∷ []) ∷ []) ∷ table (may BigInt ∷ []) ((n 7 ∷ []) ∷ (Null ∷ []) ∷ []) ∷ [];
  rel = Union (rels (Scan 0 ∷ Scan 1 ∷ []));
  columns = Some (may BigInt ∷ []);
  rows = Some ((Null ∷ []) ∷ (n 7 ∷ []) ∷ (n 7 ∷ []) ∷ []);
}

-- ---- joins; a is (id, k), b is (k, x)

abbrev pub a_rows : ListedTable
a_rows = table (must Int ∷ may Int ∷ []) ((n 1 ∷ n 5 ∷ []) ∷ (n 2 ∷ Null ∷ []) ∷ (n 3 ∷ n 6 ∷ []) ∷ [])

abbrev pub b_rows : ListedTable
b_rows = table (may Int ∷ may Texts ∷ []) ((n 5 ∷ t (codes "x") ∷ []) ∷ (n 5 ∷ t (codes "y") ∷ []) ∷ (Null ∷ t (codes "z") ∷ []) ∷ [])

abbrev pub sides : List ListedTable
sides = a_rows ∷ b_rows ∷ []

-- NULL equals nothing, NULL neither
abbrev pub an_inner_join : Example
an_inner_join = record {
  tables = sides;
  rel = Join (Scan 0) (Scan 1) Inner (pair 1 0 ∷ []) None;
  columns = Some (must Int ∷ may Int ∷ may Int ∷ may Texts ∷ []);
  rows = Some ((n 1 ∷ n 5 ∷ n 5 ∷ t (codes "x") ∷ []) ∷ (n 1 ∷ n 5 ∷ n 5 ∷ t (codes "y") ∷ []) ∷ []);
}

abbrev pub a_left_join : Example
a_left_join = record {
  tables = sides;
  rel = Join (Scan 0) (Scan 1) Left (pair 1 0 ∷ []) (Some (Compare Lt (Column 3 Texts) (Literal (t (codes "y")) Texts)));
  columns = Some (must Int ∷ may Int ∷ may Int ∷ may Texts ∷ []);
  rows = Some ((n 1 ∷ n 5 ∷ n 5 ∷ t (codes "x") ∷ []) ∷ (n 2 ∷ Null ∷ Null ∷ Null ∷ []) ∷ (n 3 ∷ n 6 ∷ Null ∷ Null ∷ []) ∷ []);
}

abbrev pub a_right_join : Example
a_right_join = record {
  tables = sides;
  rel = Join (Scan 0) (Scan 1) Right (pair 1 0 ∷ []) None;
  columns = Some (may Int ∷ may Int ∷ may Int ∷ may Texts ∷ []);
  rows = Some ((Null ∷ Null ∷ Null ∷ t (codes "z") ∷ []) ∷ (n 1 ∷ n 5 ∷ n 5 ∷ t (codes "x") ∷ []) ∷ (n 1 ∷ n 5 ∷ n 5 ∷ t (codes "y") ∷ []) ∷ []);
}

-- two counts by key, of tables whose one key is NULL, joined in full
abbrev pub a_full_join : Example
a_full_join = record {
  tables = table (may Int ∷ []) ((Null ∷ []) ∷ []) ∷ table (may Int ∷ []) ((Null ∷ []) ∷ []) ∷ [];
  rel = Join (Group (Scan 0) 1 (all_rows ∷ [])) (Group (Scan 1) 1 (all_rows ∷ [])) Full (pair 0 0 ∷ []) None;
  columns = Some (may Int ∷ may BigInt ∷ may Int ∷ may BigInt ∷ []);
  rows = Some ((Null ∷ Null ∷ Null ∷ n 1 ∷ []) ∷ (Null ∷ n 1 ∷ Null ∷ Null ∷ []) ∷ []);
}

-- a row with two matches stands once
abbrev pub exists : Example
exists = record {
  tables = sides;
  rel = Semi (Scan 0) (Scan 1) false (pair 1 0 ∷ []) None;
  columns = Some (must Int ∷ may Int ∷ []);
  rows = Some ((n 1 ∷ n 5 ∷ []) ∷ []);
}

-- a row whose key is NULL has no match
abbrev pub not_exists : Example
not_exists = record {
  tables = sides;
  rel = Semi (Scan 0) (Scan 1) true (pair 1 0 ∷ []) None;
  columns = Some (must Int ∷ may Int ∷ []);
  rows = Some ((n 2 ∷ Null ∷ []) ∷ (n 3 ∷ n 6 ∷ []) ∷ []);
}

-- ---- grouping; words with numbers

abbrev pub words : ListedTable
words = table (may Texts ∷ may Int ∷ may Truths ∷ [])
    ((t (codes "a") ∷ n 3 ∷ Truth true ∷ []) ∷ (t (codes "a") ∷ Null ∷ Truth true ∷ []) ∷ (t (codes "a") ∷ n 3 ∷ Null ∷ []) ∷ (Null ∷ n 4 ∷ Truth false ∷ []) ∷ (Null ∷ n 9 ∷ Truth true ∷ []) ∷ [])

-- NULLs are one group; NULL isn't counted, each of two equal values once
abbrev pub counts : Example
counts = record {
  tables = words ∷ [];
  rel = Group (Scan 0) 1 (all_rows ∷ of Count 1 ∷ of CountDistinct 1 ∷ []);
  columns = Some (may Texts ∷ must BigInt ∷ must BigInt ∷ must BigInt ∷ []);
  rows = Some ((Null ∷ n 2 ∷ n 2 ∷ n 2 ∷ []) ∷ (t (codes "a") ∷ n 3 ∷ n 2 ∷ n 1 ∷ []) ∷ []);
}

-- a filter keeps rows on which its column is TRUE
abbrev pub filtered : Example
filtered = record {
  tables = words ∷ [];
  rel = Group (Scan 0) 1 (of_where Sum 1 2 ∷ of_where Min 1 2 ∷ []);
  columns = Some (may Texts ∷ may Int ∷ may Int ∷ []);
  rows = Some ((Null ∷ n 9 ∷ n 9 ∷ []) ∷ (t (codes "a") ∷ n 3 ∷ n 3 ∷ []) ∷ []);
}

-- of no rows: one row, in which counts are 0 and the others NULL
abbrev pub of_nothing : Example
of_nothing = record {
  tables = table (must Int ∷ []) [] ∷ [];
  rel = Group (Scan 0) 0 (all_rows ∷ of Count 0 ∷ of Sum 0 ∷ of Min 0 ∷ of Avg 0 ∷ []);
  columns = Some (must BigInt ∷ must BigInt ∷ may Int ∷ may Int ∷ may Int ∷ []);
  rows = Some ((n 0 ∷ n 0 ∷ Null ∷ Null ∷ Null ∷ []) ∷ []);
}

-- texts by their bytes, so capital letters come first
abbrev pub texts : Example
texts = record {
  tables = table (may Texts ∷ []) ((t (codes "b") ∷ []) ∷ (t (codes "B") ∷ []) ∷ (Null ∷ []) ∷ (t (codes "ab") ∷ []) ∷ []) ∷ [];
  rel = Group (Scan 0) 0 (of Min 0 ∷ of Max 0 ∷ []);
  columns = Some (may Texts ∷ may Texts ∷ []);
  rows = Some ((t (codes "B") ∷ t (codes "b") ∷ []) ∷ []);
}

-- the average of -7 and 2 is -2, that of 1.00 and 2.01 is 1.505000
abbrev pub averages : Example
averages = record {
  tables = table (must Int ∷ must (Decimal 10 2) ∷ []) ((Num (negsuc 6) ∷ n 100 ∷ []) ∷ (n 2 ∷ n 201 ∷ []) ∷ []) ∷ [];
  rel = Group (Scan 0) 0 (of Avg 0 ∷ of Avg 1 ∷ of Sum 1 ∷ []);
  columns = Some (may Int ∷ may (Decimal 38 6) ∷ may (Decimal 38 2) ∷ []);
  rows = Some ((Num (negsuc 1) ∷ n 1505000 ∷ n 301 ∷ []) ∷ []);
}

abbrev pub largest : Value
largest = n 9223372036854775807

-- a sum that leaves BIGINT is out of range
abbrev pub a_sum_out : Example
a_sum_out = record {
  tables = table (must Texts ∷ must BigInt ∷ []) ((t (codes "a") ∷ largest ∷ []) ∷ (t (codes "a") ∷ n 1 ∷ []) ∷ []) ∷ [];
  rel = Group (Scan 0) 1 (of Sum 1 ∷ []);
  columns = Some (must Texts ∷ must BigInt ∷ []);
  rows = None;
}

abbrev pub a_sum_in : Example
a_sum_in = record {
  tables = table (must Texts ∷ must BigInt ∷ []) ((t (codes "a") ∷ largest ∷ []) ∷ (t (codes "a") ∷ Num (negsuc 0) ∷ []) ∷ []) ∷ [];
  rel = Group (Scan 0) 1 (of Sum 1 ∷ []);
  columns = Some (must Texts ∷ must BigInt ∷ []);
  rows = Some ((t (codes "a") ∷ n 9223372036854775806 ∷ []) ∷ []);
}

-- ---- Top-N: (id, g, v), the first two of each g by v downwards and id

abbrev pub down : ℕ → SortCol
down column = record { col = column; desc = true }

abbrev pub up : ℕ → SortCol
up column = record { col = column; desc = false }

abbrev pub top_two : List Row → List Row → Example
top_two rows answer = record {
  tables = table (must Int ∷ may Texts ∷ may Int ∷ []) rows ∷ [];
  rel = Project (Rank (Scan 0) (1 ∷ []) (down 2 ∷ up 0 ∷ []) 2 true) (Column 3 BigInt ∷ Column 0 Int ∷ Column 2 Int ∷ []);
  columns = Some (must BigInt ∷ must Int ∷ may Int ∷ []);
  rows = Some answer;
}

abbrev pub id_g_v : ℕ → ℕ → Row
id_g_v id v = n id ∷ t (codes "a") ∷ n v ∷ []

abbrev pub three_of_one : Example
three_of_one = top_two (id_g_v 1 10 ∷ id_g_v 2 20 ∷ id_g_v 3 30 ∷ []) ((n 1 ∷ n 3 ∷ n 30 ∷ []) ∷ (n 2 ∷ n 2 ∷ n 20 ∷ []) ∷ [])

abbrev pub two_of_one : Example
two_of_one = top_two (id_g_v 1 10 ∷ id_g_v 2 20 ∷ []) ((n 1 ∷ n 2 ∷ n 20 ∷ []) ∷ (n 2 ∷ n 1 ∷ n 10 ∷ []) ∷ [])

-- equal rows have ranks one after the other, and NULL is lowest: last where the order runs down
abbrev pub equal_rows : Example
equal_rows = top_two ((n 1 ∷ t (codes "a") ∷ Null ∷ []) ∷ id_g_v 2 20 ∷ id_g_v 2 20 ∷ []) ((n 1 ∷ n 2 ∷ n 20 ∷ []) ∷ (n 2 ∷ n 2 ∷ n 20 ∷ []) ∷ [])

-- ---- the cities that paid most, over orders, customers and payments

abbrev pub money : Ty
money = Decimal 10 2

abbrev pub cities : List Row → List Row → List Row → List Row → Example
cities orders customers payments answer = record {
  tables = table (must Int ∷ may Int ∷ may money ∷ []) orders ∷ table (must Int ∷ must Texts ∷ []) customers ∷ table (must Int ∷ may Int ∷ may money ∷ []) payments ∷ [];
  rel =
      Project (Rank (Group (Project
      (Join (Join (Scan 0) (Scan 1) Inner (pair 1 0 ∷ []) None) (Scan 2) Left (pair 0 1 ∷ []) None)
      (Column 4 Texts ∷ Column 7 money ∷ [])) 1 (of Sum 1 ∷ [])) [] (down 1 ∷ up 0 ∷ []) 3 true)
      (Column 2 BigInt ∷ Column 0 Texts ∷ Column 1 (Decimal 38 2) ∷ []);
  columns = Some (must BigInt ∷ must Texts ∷ may (Decimal 38 2) ∷ []);
  rows = Some answer;
}

abbrev pub rome : Value
rome = t (codes "Rome")

abbrev pub oslo : Value
oslo = t (codes "Oslo")

abbrev pub lima : Value
lima = t (codes "Lima")

abbrev pub cities_at_first : Example
cities_at_first = cities
    ((n 10 ∷ n 1 ∷ n 2000 ∷ []) ∷ (n 11 ∷ n 2 ∷ n 3550 ∷ []) ∷ [])
    ((n 1 ∷ rome ∷ []) ∷ (n 2 ∷ oslo ∷ []) ∷ (n 3 ∷ rome ∷ []) ∷ [])
    ((n 100 ∷ n 10 ∷ n 2000 ∷ []) ∷ (n 101 ∷ n 11 ∷ n 3000 ∷ []) ∷ [])
    ((n 1 ∷ oslo ∷ n 3000 ∷ []) ∷ (n 2 ∷ rome ∷ n 2000 ∷ []) ∷ [])

abbrev pub cities_later : Example
cities_later = cities
    ((n 10 ∷ n 1 ∷ n 2000 ∷ []) ∷ (n 11 ∷ n 2 ∷ n 3550 ∷ []) ∷ (n 12 ∷ n 3 ∷ n 1525 ∷ []) ∷ (n 13 ∷ n 4 ∷ n 999 ∷ []) ∷ [])
    ((n 1 ∷ rome ∷ []) ∷ (n 2 ∷ oslo ∷ []) ∷ (n 3 ∷ rome ∷ []) ∷ (n 4 ∷ lima ∷ []) ∷ [])
    ((n 100 ∷ n 10 ∷ n 2000 ∷ []) ∷ (n 101 ∷ n 11 ∷ n 3000 ∷ []) ∷ (n 102 ∷ n 12 ∷ n 1525 ∷ []) ∷ [])
    ((n 1 ∷ rome ∷ n 3525 ∷ []) ∷ (n 2 ∷ oslo ∷ n 3000 ∷ []) ∷ (n 3 ∷ lima ∷ Null ∷ []) ∷ [])

abbrev pub cities_at_last : Example
cities_at_last = cities
    ((n 10 ∷ n 1 ∷ n 2000 ∷ []) ∷ (n 12 ∷ n 3 ∷ n 1525 ∷ []) ∷ (n 13 ∷ n 4 ∷ n 999 ∷ []) ∷ [])
    ((n 1 ∷ rome ∷ []) ∷ (n 2 ∷ oslo ∷ []) ∷ (n 3 ∷ oslo ∷ []) ∷ (n 4 ∷ lima ∷ []) ∷ [])
    ((n 100 ∷ n 10 ∷ n 2000 ∷ []) ∷ (n 101 ∷ n 11 ∷ n 3000 ∷ []) ∷ (n 102 ∷ n 12 ∷ n 1525 ∷ []) ∷ (n 103 ∷ n 13 ∷ n 5000 ∷ []) ∷ [])
    ((n 1 ∷ lima ∷ n 5000 ∷ []) ∷ (n 2 ∷ rome ∷ n 2000 ∷ []) ∷ (n 3 ∷ oslo ∷ n 1525 ∷ []) ∷ [])

abbrev pub examples : List Example
examples =
    a_filter ∷ not_in_null ∷ a_project_out ∷ a_union
    ∷ an_inner_join ∷ a_left_join ∷ a_right_join ∷ a_full_join ∷ exists ∷ not_exists
    ∷ counts ∷ filtered ∷ of_nothing ∷ texts ∷ averages ∷ a_sum_out ∷ a_sum_in
    ∷ three_of_one ∷ two_of_one ∷ equal_rows
    ∷ cities_at_first ∷ cities_later ∷ cities_at_last ∷ []
