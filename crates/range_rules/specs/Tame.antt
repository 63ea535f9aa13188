-- Trees of the algebra that calculate nothing: they have no sum, product, sign, cast or concatenation, no SUM and no AVG, and the texts that
-- are written in them are as short as a field's. Such a tree hands on values that stand in its tables or in itself, compares and counts them.
use Rattle.std.specs.Prelude.{Bool, true, false, ◌&&◌, nat_le, length, Option, Some, None}
use Rattle.std.specs.List.{list_all}
use Rattle.ct_value.specs.declared.value.Value.{Value}
use Rattle.ct_value.specs.declared.value.Value.TheVariants.{Null, Bool as Truth, Num, Text}
use Rattle.ct_field.specs.Fields.{longest_field}
use Rattle.ct_expr.specs.Expr as e
use Rattle.rel_algebra.specs.declared.agg.AggCall.{AggCall}
use Rattle.rel_algebra.specs.declared.agg.AggCall.TheVariants as call
use Rattle.rel_algebra.specs.Rel.{Unary, filter_by, project_on, group_by, rank_in, Binary, join_on, semi_on, set_by, Rel, Rels, Scan, One, Two, Many, no_rels, rel_and}

-- a text is as short as a field's
abbrev pub is_short : Value → Bool
is_short Null = true
is_short (Truth b) = true
is_short (Num n) = true
is_short (Text text) = nat_le (length text) longest_field

abbrev mutual
  pub is_tame : e.Expr → Bool
  is_tame (e.Column n ty) = true
  is_tame (e.Literal value ty) = is_short value
  is_tame (e.Neg x) = false
  is_tame (e.Arith op x y) = false
  is_tame (e.Compare op x y) = is_tame x && is_tame y
  is_tame (e.And xs) = are_tame xs
  is_tame (e.Or xs) = are_tame xs
  is_tame (e.Not x) = is_tame x
  is_tame (e.IsNull x) = is_tame x
  is_tame (e.InList x xs) = is_tame x && are_tame xs
  is_tame (e.Case whens otherwise) = whens_are_tame whens && is_none_or_tame otherwise
  is_tame (e.Coalesce xs) = are_tame xs
  is_tame (e.NullIf x y) = is_tame x && is_tame y
  is_tame (e.Cast x ty) = false
  is_tame (e.Concat x y) = false
  is_tame (e.CharLength x) = is_tame x
  is_tame (e.Like x y) = is_tame x && is_tame y

  pub are_tame : e.Exprs → Bool
  are_tame e.no_exprs = true
  are_tame (e.expr_and x xs) = is_tame x && are_tame xs

  pub whens_are_tame : e.Whens → Bool
  whens_are_tame e.no_whens = true
  whens_are_tame (e.when_and condition result whens) = is_tame condition && (is_tame result && whens_are_tame whens)

  pub is_none_or_tame : e.OptionalExpr → Bool
  is_none_or_tame e.no_expr = true
  is_none_or_tame (e.some_expr x) = is_tame x

-- an aggregate that counts or chooses
abbrev pub only_counts : AggCall → Bool
only_counts call.CountAll = true
only_counts call.Count = true
only_counts call.CountDistinct = true
only_counts call.Sum = false
only_counts call.Min = true
only_counts call.Max = true
only_counts call.Avg = false

abbrev pub rest_is_tame : Option e.Expr → Bool
rest_is_tame None = true
rest_is_tame (Some rest) = is_tame rest

-- what makes rows of those of one input, and of two, calculates nothing
abbrev pub is_tame_unary : Unary → Bool
is_tame_unary (filter_by condition) = is_tame condition
is_tame_unary (project_on items) = list_all is_tame items
is_tame_unary (group_by keys aggs) = list_all (λ agg. only_counts agg.call) aggs
is_tame_unary (rank_in partition order bound ranked) = true

abbrev pub is_tame_binary : Binary → Bool
is_tame_binary (join_on kind pairs rest) = rest_is_tame rest
is_tame_binary (semi_on anti pairs rest) = rest_is_tame rest
is_tame_binary (set_by except all columns) = true

abbrev mutual
  pub is_tame_rel : Rel → Bool
  is_tame_rel (Scan source) = true
  is_tame_rel (One how input) = is_tame_rel input && is_tame_unary how
  is_tame_rel (Two how left right) = is_tame_rel left && (is_tame_rel right && is_tame_binary how)
  is_tame_rel (Many inputs) = are_tame_rels inputs

  pub are_tame_rels : Rels → Bool
  are_tame_rels no_rels = true
  are_tame_rels (rel_and input inputs) = is_tame_rel input && are_tame_rels inputs
