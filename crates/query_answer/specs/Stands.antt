-- What a tree stands for, where `leaf` says which whole nodes stand for something of their own: a name among the columns in reach, a
-- GROUP BY expression or an aggregate call in a group. All else goes by the table of expressions.
use Rattle.std.specs.Prelude.{ℤ, Bool, true, false, cond, List, [], ◌∷◌, Option, Some, None}
use Rattle.ct_value.specs.declared.ty.Ty.{Ty}
use Rattle.ct_value.specs.declared.ty.Ty.TheVariants.{Bool as Truths, Text as Texts}
use Rattle.ct_value.specs.declared.value.Value.TheVariants.{Null, Num, Bool as Truth, Text as Words}
use Rattle.ct_expr.specs.declared.expr.ArithOp.TheVariants.{Add, Sub, Mul}
use Rattle.ct_catalog.specs.Types.{type_of}
use Rattle.sql_syntax.specs.declared.tree.ProductWord.{ProductWord}
use Rattle.sql_syntax.specs.declared.tree.ProductWord.TheVariants.{Times, Divide, Modulo}
use Rattle.sql_syntax.specs.declared.tree.SumWord.{SumWord}
use Rattle.sql_syntax.specs.declared.tree.SumWord.TheVariants.{Plus, Minus, Concat}
use Rattle.sql_syntax.specs.Tree.{Tree}
use Rattle.sql_syntax.specs.Tree as t
use Rattle.query_answer.specs.declared.function.Function.{Function}
use Rattle.query_answer.specs.declared.function.Function.TheVariants.{Coalesce, NullIf, CharLength}
use Rattle.query_answer.specs.Functions.{function_of}
use Rattle.query_answer.specs.Literals.{number_of, is_null}
use Rattle.query_answer.specs.Table.{Typed, nothing, constant, positive, negative, arith, concat, compare, conjunction, disjunction, negation, null_test, between, in_list, like, negated_if, coalesce, null_if, char_length, cast, case}

abbrev pub Leaf : Type 0
Leaf = Tree → Option Typed

abbrev pub or_else : Option Typed → Typed → Typed
or_else None x = x
or_else (Some y) x = y

abbrev pub number : Option (ℤ × Ty) → Typed
number None = nothing
number (Some n) = constant (Num n.0) n.1

abbrev pub signed : Bool → Typed → Typed
signed true x = negative x
signed false x = positive x

-- one more operand of a chain of + - ||
abbrev pub added : SumWord → Typed → Typed → Typed
added Plus x y = arith Add x y
added Minus x y = arith Sub x y
added Concat x y = concat x y

-- one more operand of a chain of *
abbrev pub multiplied : ProductWord → Typed → Typed → Typed
multiplied Times x y = arith Mul x y
multiplied Divide x y = nothing
multiplied Modulo x y = nothing

-- a function of its operands; an aggregate has a meaning in a group alone
abbrev pub applied : Function → List Typed → Typed
applied Coalesce xs = coalesce xs
applied NullIf (x ∷ y ∷ []) = null_if x y
applied CharLength (x ∷ []) = char_length x
applied _ _ = nothing

-- None stands for the literal NULL
abbrev pub unless_null : Tree → Typed → Option Typed
unless_null x y = cond (is_null x) None (Some y)

-- to a type that there is
abbrev pub cast_to : Option Ty → Option Typed → Typed
cast_to None x = nothing
cast_to (Some ty) None = constant Null ty
cast_to (Some ty) (Some x) = cast ty x

abbrev mutual
  pub stands : Leaf → Tree → Typed
  stands leaf (t.Or xs) = or_else (leaf (t.Or xs)) (disjunction (all_stand leaf xs))
  stands leaf (t.And xs) = or_else (leaf (t.And xs)) (conjunction (all_stand leaf xs))
  stands leaf (t.Not x) = or_else (leaf (t.Not x)) (negation (stands leaf x))
  stands leaf (t.Exists q) = or_else (leaf (t.Exists q)) nothing
  stands leaf (t.Compare op x y) = or_else (leaf (t.Compare op x y)) (compare op (stands leaf x) (stands leaf y))
  stands leaf (t.IsNull x negated) = or_else (leaf (t.IsNull x negated)) (negated_if negated (null_test (stands leaf x)))
  stands leaf (t.Between x low high negated) = or_else (leaf (t.Between x low high negated)) (negated_if negated (between (stands leaf x) (stands leaf low) (stands leaf high)))
  stands leaf (t.InList x xs negated) = or_else (leaf (t.InList x xs negated)) (negated_if negated (in_list (stands leaf x) (all_stand leaf xs)))
  stands leaf (t.InQuery x q negated) = or_else (leaf (t.InQuery x q negated)) nothing
  stands leaf (t.Like x y negated) = or_else (leaf (t.Like x y negated)) (negated_if negated (like (stands leaf x) (stands leaf y)))
  stands leaf (t.Sum x xs) = or_else (leaf (t.Sum x xs)) (sum_stands leaf (stands leaf x) xs)
  stands leaf (t.Product x xs) = or_else (leaf (t.Product x xs)) (product_stands leaf (stands leaf x) xs)
  stands leaf (t.Sign minus x) = or_else (leaf (t.Sign minus x)) (signed minus (stands leaf x))
  stands leaf (t.Number text) = or_else (leaf (t.Number text)) (number (number_of text))
  stands leaf (t.Str text) = or_else (leaf (t.Str text)) (constant (Words text) Texts)
  stands leaf (t.Truth truth) = or_else (leaf (t.Truth truth)) (constant (Truth truth) Truths)
  stands leaf t.Null = or_else (leaf t.Null) nothing
  stands leaf (t.Name of name quoted) = or_else (leaf (t.Name of name quoted)) nothing
  stands leaf (t.Call name args filter over) = or_else (leaf (t.Call name args filter over)) (applied (function_of name) (args_stand leaf args))
  stands leaf (t.Cast x ty) = or_else (leaf (t.Cast x ty)) (cast_to (type_of ty) (unless_null x (stands leaf x)))
  stands leaf (t.Paren x) = or_else (leaf (t.Paren x)) (stands leaf x)
  stands leaf (t.Sub q) = or_else (leaf (t.Sub q)) nothing
  stands leaf (t.Case whens otherwise) = or_else (leaf (t.Case whens otherwise)) (case (whens_stand leaf whens) (otherwise_stands leaf otherwise))

  pub all_stand : Leaf → t.Trees → List Typed
  all_stand leaf t.no_trees = []
  all_stand leaf (t.tree_and x xs) = stands leaf x ∷ all_stand leaf xs

  -- chains are read from the left
  pub sum_stands : Leaf → Typed → t.SumTails → Typed
  sum_stands leaf x t.no_sum_tails = x
  sum_stands leaf x (t.sum_tail_and (t.sum_tail_of word y) ys) = sum_stands leaf (added word x (stands leaf y)) ys

  pub product_stands : Leaf → Typed → t.ProductTails → Typed
  product_stands leaf x t.no_product_tails = x
  product_stands leaf x (t.product_tail_and (t.product_tail_of word y) ys) = product_stands leaf (multiplied word x (stands leaf y)) ys

  pub whens_stand : Leaf → t.TreeWhens → List (Typed × Option Typed)
  whens_stand leaf t.no_tree_whens = []
  whens_stand leaf (t.tree_when_and (t.tree_when_of c x) ws) = (stands leaf c, unless_null x (stands leaf x)) ∷ whens_stand leaf ws

  pub otherwise_stands : Leaf → t.OptionalTree → Option (Option Typed)
  otherwise_stands leaf t.no_tree = None
  otherwise_stands leaf (t.some_tree x) = Some (unless_null x (stands leaf x))

  pub args_stand : Leaf → t.Args → List Typed
  args_stand leaf t.Empty = []
  args_stand leaf t.Star = []
  args_stand leaf (t.Values distinct xs) = all_stand leaf xs
