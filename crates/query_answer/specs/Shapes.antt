-- When two trees are equal once names are resolved to columns and parentheses are left aside: they have the same shape.
use Rattle.std.specs.Prelude.{ℕ, suc, Bool, true, false, cond, ◌&&◌, List, [], ◌∷◌, Option, Some, None}
use Rattle.std.specs.Str.{bytes_eq}
use Rattle.ct_value.specs.declared.ty.Ty.{Ty}
use Rattle.ct_value.specs.declared.ty.Ty.TheVariants.{Bool as Truths, Int, BigInt, Decimal, Text as Texts}
use Rattle.ct_value.specs.declared.value.CompareOp.{CompareOp}
use Rattle.ct_value.specs.declared.value.CompareOp.TheVariants.{Eq, Ne, Lt, Le, Gt, Ge}
use Rattle.ct_catalog.specs.Types.{type_of}
use Rattle.rel_algebra.specs.declared.agg.AggCall.{AggCall}
use Rattle.rel_algebra.specs.declared.agg.AggCall.TheVariants.{CountAll, Count, CountDistinct, Sum, Min, Max, Avg}
use Rattle.sql_syntax.specs.declared.tree.ProductWord.{ProductWord}
use Rattle.sql_syntax.specs.declared.tree.ProductWord.TheVariants.{Times, Divide, Modulo}
use Rattle.sql_syntax.specs.declared.tree.SumWord.{SumWord}
use Rattle.sql_syntax.specs.declared.tree.SumWord.TheVariants.{Plus, Minus, Concat}
use Rattle.sql_syntax.specs.Tree.{Tree}
use Rattle.sql_syntax.specs.Tree as t
use Rattle.query_answer.specs.declared.function.Function.{Function}
use Rattle.query_answer.specs.declared.function.Function.TheVariants.{Aggregate, Coalesce, NullIf, CharLength, RowNumber, Changing, Unknown}
use Rattle.query_answer.specs.declared.scope.Found.{Found}
use Rattle.query_answer.specs.declared.scope.Found.TheVariants.{Absent, At, Several}
use Rattle.query_answer.specs.Functions.{function_of}
use Rattle.query_answer.specs.Names.{Lookup}

mutual
  -- a node: what it says itself, and the shapes of its operands
  pub data Shape : Type 0 where
    shape_of : List ℕ → Shapes → Shape

  pub data Shapes : Type 0 where
    no_shapes : Shapes
    shape_and : Shape → Shapes → Shapes

abbrev mutual
  pub same_shape : Shape → Shape → Bool
  same_shape (shape_of v xs) (shape_of w ys) = bytes_eq v w && same_shapes xs ys

  pub same_shapes : Shapes → Shapes → Bool
  same_shapes no_shapes no_shapes = true
  same_shapes (shape_and x xs) (shape_and y ys) = same_shape x y && same_shapes xs ys
  same_shapes _ _ = false

-- ---- what nodes say themselves: a number for each kind of node, and then what isn't an operand

abbrev pub flag : Bool → ℕ
flag false = 0
flag true = 1

-- a name is the column that it finds
abbrev pub column_word : Found → List ℕ
column_word Absent = 0 ∷ []
column_word (At n ty) = 1 ∷ n ∷ []
column_word Several = 0 ∷ []

abbrev pub compare_number : CompareOp → ℕ
compare_number Eq = 0
compare_number Ne = 1
compare_number Lt = 2
compare_number Le = 3
compare_number Gt = 4
compare_number Ge = 5

abbrev pub sum_number : SumWord → ℕ
sum_number Plus = 0
sum_number Minus = 1
sum_number Concat = 2

abbrev pub product_number : ProductWord → ℕ
product_number Times = 0
product_number Divide = 1
product_number Modulo = 2

-- a type is what its name means
abbrev pub type_word : Option Ty → List ℕ
type_word None = 0 ∷ []
type_word (Some Truths) = 1 ∷ []
type_word (Some Int) = 2 ∷ []
type_word (Some BigInt) = 3 ∷ []
type_word (Some (Decimal p s)) = 4 ∷ p ∷ s ∷ []
type_word (Some Texts) = 5 ∷ []

abbrev pub agg_number : AggCall → ℕ
agg_number CountAll = 0
agg_number Count = 1
agg_number CountDistinct = 2
agg_number Sum = 3
agg_number Min = 4
agg_number Max = 5
agg_number Avg = 6

-- a function is what its name means
abbrev pub function_word : Function → List ℕ
function_word (Aggregate c) = 0 ∷ agg_number c ∷ []
function_word Coalesce = 1 ∷ []
function_word NullIf = 2 ∷ []
function_word CharLength = 3 ∷ []
function_word RowNumber = 4 ∷ []
function_word Changing = 5 ∷ []
function_word Unknown = 6 ∷ []

abbrev pub args_number : t.Args → ℕ
args_number t.Empty = 0
args_number t.Star = 1
args_number (t.Values false xs) = 2
args_number (t.Values true xs) = 3

abbrev pub has_tree : t.OptionalTree → Bool
has_tree t.no_tree = false
has_tree (t.some_tree x) = true

abbrev pub has_over : t.OptionalOver → Bool
has_over t.no_over = false
has_over (t.some_over x) = true

abbrev pub call_word : t.Args → t.OptionalTree → t.OptionalOver → Function → List ℕ
call_word args filter over function = 2 ∷ args_number args ∷ flag (has_tree filter) ∷ flag (has_over over) ∷ function_word function

abbrev pub one_shape : Shape → Shapes
one_shape x = shape_and x no_shapes

abbrev pub two_shapes : Shape → Shape → Shapes
two_shapes x y = shape_and x (one_shape y)

abbrev mutual
  pub shape : Lookup → Tree → Shape
  shape look (t.Or xs) = shape_of (3 ∷ []) (all_shapes look xs)
  shape look (t.And xs) = shape_of (4 ∷ []) (all_shapes look xs)
  shape look (t.Not x) = shape_of (5 ∷ []) (one_shape (shape look x))
  shape look (t.Exists q) = shape_of (6 ∷ []) no_shapes
  shape look (t.Compare op x y) = shape_of (7 ∷ compare_number op ∷ []) (two_shapes (shape look x) (shape look y))
  shape look (t.IsNull x negated) = shape_of (8 ∷ flag negated ∷ []) (one_shape (shape look x))
  shape look (t.Between x low high negated) = shape_of (9 ∷ flag negated ∷ []) (shape_and (shape look x) (two_shapes (shape look low) (shape look high)))
  shape look (t.InList x xs negated) = shape_of (10 ∷ flag negated ∷ []) (shape_and (shape look x) (all_shapes look xs))
  shape look (t.InQuery x q negated) = shape_of (11 ∷ []) no_shapes
  shape look (t.Like x y negated) = shape_of (12 ∷ flag negated ∷ []) (two_shapes (shape look x) (shape look y))
  shape look (t.Sum x xs) = shape_of (13 ∷ []) (shape_and (shape look x) (sum_shapes look xs))
  shape look (t.Product x xs) = shape_of (14 ∷ []) (shape_and (shape look x) (product_shapes look xs))
  shape look (t.Sign minus x) = shape_of (15 ∷ flag minus ∷ []) (one_shape (shape look x))
  shape look (t.Number text) = shape_of (16 ∷ text) no_shapes
  shape look (t.Str text) = shape_of (17 ∷ text) no_shapes
  shape look (t.Truth truth) = shape_of (18 ∷ flag truth ∷ []) no_shapes
  shape look t.Null = shape_of (19 ∷ []) no_shapes
  shape look (t.Name of name quoted) = shape_of (column_word (look of name)) no_shapes
  shape look (t.Call name args filter over) = shape_of (call_word args filter over (function_of name)) (args_shapes look args)
  shape look (t.Cast x ty) = shape_of (20 ∷ type_word (type_of ty)) (one_shape (shape look x))
  shape look (t.Paren x) = shape look x
  shape look (t.Sub q) = shape_of (21 ∷ []) no_shapes
  shape look (t.Case whens otherwise) = shape_of (22 ∷ flag (has_tree otherwise) ∷ []) (shape_and (otherwise_shape look otherwise) (when_shapes look whens))

  pub all_shapes : Lookup → t.Trees → Shapes
  all_shapes look t.no_trees = no_shapes
  all_shapes look (t.tree_and x xs) = shape_and (shape look x) (all_shapes look xs)

  pub sum_shapes : Lookup → t.SumTails → Shapes
  sum_shapes look t.no_sum_tails = no_shapes
  sum_shapes look (t.sum_tail_and (t.sum_tail_of word x) xs) = shape_and (shape_of (sum_number word ∷ []) (one_shape (shape look x))) (sum_shapes look xs)

  pub product_shapes : Lookup → t.ProductTails → Shapes
  product_shapes look t.no_product_tails = no_shapes
  product_shapes look (t.product_tail_and (t.product_tail_of word x) xs) = shape_and (shape_of (product_number word ∷ []) (one_shape (shape look x))) (product_shapes look xs)

  pub when_shapes : Lookup → t.TreeWhens → Shapes
  when_shapes look t.no_tree_whens = no_shapes
  when_shapes look (t.tree_when_and (t.tree_when_of c x) ws) = shape_and (shape look c) (shape_and (shape look x) (when_shapes look ws))

  pub otherwise_shape : Lookup → t.OptionalTree → Shape
  otherwise_shape look t.no_tree = shape_of [] no_shapes
  otherwise_shape look (t.some_tree x) = shape look x

  pub args_shapes : Lookup → t.Args → Shapes
  args_shapes look t.Empty = no_shapes
  args_shapes look t.Star = no_shapes
  args_shapes look (t.Values distinct xs) = all_shapes look xs

abbrev pub equal_once_resolved : Lookup → Tree → Tree → Bool
equal_once_resolved look x y = same_shape (shape look x) (shape look y)

-- the place of the first of these trees that has a shape
abbrev pub place_from : ℕ → Lookup → List Tree → Shape → Option ℕ
place_from n look [] x = None
place_from n look (y ∷ ys) x = cond (same_shape x (shape look y)) (Some n) (place_from (suc n) look ys x)

abbrev pub place_of : Lookup → List Tree → Shape → Option ℕ
place_of look ys x = place_from 0 look ys x

-- the shape of the column at a place
abbrev pub column_shape : ℕ → Shape
column_shape n = shape_of (1 ∷ n ∷ []) no_shapes
