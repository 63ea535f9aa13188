-- Binding of expressions: the first refusal of the walk, or an expression over columns.
use Rattle.std.specs.Prelude.{ℕ, suc, ◌+◌, nat_lt, Bool, true, false, cond, List, [], ◌∷◌, ◌++◌, length, Option, Some, None, Ok, Err}
use Rattle.ct_value.specs.declared.codes.ScriptCode.TheVariants.{UnknownColumn, AmbiguousColumn, TypeMismatch, Unsupported, Nondeterministic}
use Rattle.ct_value.specs.declared.ty.ColTy.{ColTy}
use Rattle.ct_value.specs.declared.ty.Ty.TheVariants.{Bool as Truths, Text as Texts}
use Rattle.ct_value.specs.declared.value.Value.TheVariants.{Bool as Truth, Text as Words}
use Rattle.ct_expr.specs.Expr as e
use Rattle.ct_expr.specs.Types.{all_truths}
use Rattle.ct_catalog.specs.Types.{type_of}
use Rattle.sql_syntax.specs.Tree.{Tree, Text}
use Rattle.sql_syntax.specs.Tree as t
use Rattle.query_answer.specs.declared.scope.Found.{Found}
use Rattle.query_answer.specs.declared.scope.Found.TheVariants.{Absent, At, Several}
use Rattle.query_answer.specs.Calls.{calls, all_calls, args_calls, optional_calls, when_calls}
use Rattle.query_answer.specs.Functions.{function_of, is_changing}
use Rattle.query_answer.specs.Literals.{number_of, is_null, is_short}
use Rattle.query_answer.specs.Names.{Scope, Lookup, find}
use Rattle.query_answer.specs.Shapes.{has_tree, has_over}
use Rattle.binding.specs.Checked.{Checked, ◌>>=◌, refused_if}
use Rattle.binding.specs.Nodes.{Bound, CallForm, columns, literal, number, signed, added, multiplied, compare, conjunction, disjunction, negation, negated_if, null_test, between, in_list, like, cast_to, case, call}

-- what a whole node is bound to, the n-th aggregate call of the walk being next; None where its operands decide
abbrev pub Leaf : Type 0
Leaf = ℕ → Tree → Checked (Option Bound)

abbrev pub or_else : Checked Bound → Option Bound → Checked Bound
or_else y None = y
or_else y (Some x) = Ok x

-- None for the literal NULL
abbrev pub unless_null : Tree → Checked Bound → Checked (Option Bound)
unless_null x y = cond (is_null x) (Ok None) (y >>= λ z. Ok (Some z))

-- a chain has at most 512 operands
abbrev pub sum_length : t.SumTails → ℕ
sum_length t.no_sum_tails = 1
sum_length (t.sum_tail_and x xs) = suc (sum_length xs)

abbrev pub product_length : t.ProductTails → ℕ
product_length t.no_product_tails = 1
product_length (t.product_tail_and x xs) = suc (product_length xs)

abbrev pub is_long : ℕ → Bool
is_long operands = nat_lt 512 operands

abbrev pub is_distinct : t.Args → Bool
is_distinct t.Empty = false
is_distinct t.Star = false
is_distinct (t.Values distinct xs) = distinct

abbrev pub form_of : t.Args → t.OptionalTree → t.OptionalOver → CallForm
form_of args filter over = record { distinct = is_distinct args; filter = has_tree filter; over = has_over over }

-- operands are walked from the left, before the node itself; what a chain's length refuses comes before its operands
abbrev mutual
  pub bound : Leaf → ℕ → Tree → Checked Bound
  bound leaf n (t.Or xs) = leaf n (t.Or xs) >>= or_else (all_bound leaf n xs >>= disjunction)
  bound leaf n (t.And xs) = leaf n (t.And xs) >>= or_else (all_bound leaf n xs >>= conjunction)
  bound leaf n (t.Not x) = leaf n (t.Not x) >>= or_else (bound leaf n x >>= negation)
  bound leaf n (t.Exists q) = leaf n (t.Exists q) >>= or_else (Err Unsupported)
  bound leaf n (t.Compare op x y) = leaf n (t.Compare op x y) >>= or_else (bound leaf n x >>= λ a. bound leaf (n + length (calls x)) y >>= λ b. compare op a b)
  bound leaf n (t.IsNull x negated) = leaf n (t.IsNull x negated) >>= or_else (bound leaf n x >>= null_test >>= negated_if negated)
  bound leaf n (t.Between x low high negated) =
      leaf n (t.Between x low high negated) >>= or_else (
      bound leaf n x >>= λ a. bound leaf (n + length (calls x)) low >>= λ b. bound leaf (n + length (calls x) + length (calls low)) high >>= λ c. between a b c >>= negated_if negated)
  bound leaf n (t.InList x xs negated) = leaf n (t.InList x xs negated) >>= or_else (bound leaf n x >>= λ a. all_bound leaf (n + length (calls x)) xs >>= λ bs. in_list a bs >>= negated_if negated)
  bound leaf n (t.InQuery x q negated) = leaf n (t.InQuery x q negated) >>= or_else (bound leaf n x >>= λ a. Err Unsupported)
  bound leaf n (t.Like x y negated) = leaf n (t.Like x y negated) >>= or_else (bound leaf n x >>= λ a. bound leaf (n + length (calls x)) y >>= λ b. like a b >>= negated_if negated)
  bound leaf n (t.Sum x xs) = leaf n (t.Sum x xs) >>= or_else (refused_if (is_long (sum_length xs)) Unsupported (bound leaf n x >>= λ a. sum_bound leaf (n + length (calls x)) a xs))
  bound leaf n (t.Product x xs) = leaf n (t.Product x xs) >>= or_else (refused_if (is_long (product_length xs)) Unsupported (bound leaf n x >>= λ a. product_bound leaf (n + length (calls x)) a xs))
  bound leaf n (t.Sign minus x) = leaf n (t.Sign minus x) >>= or_else (bound leaf n x >>= signed minus)
  bound leaf n (t.Number text) = leaf n (t.Number text) >>= or_else (number (number_of text))
  bound leaf n (t.Str text) = leaf n (t.Str text) >>= or_else (cond (is_short text) (literal (Words text) Texts) (Err Unsupported))
  bound leaf n (t.Truth truth) = leaf n (t.Truth truth) >>= or_else (literal (Truth truth) Truths)
  bound leaf n t.Null = leaf n t.Null >>= or_else (Err TypeMismatch)
  bound leaf n (t.Name of name quoted) = leaf n (t.Name of name quoted) >>= or_else (Err UnknownColumn)
  bound leaf n (t.Call name args filter over) =
      leaf n (t.Call name args filter over) >>= or_else (
      args_bound leaf n args >>= λ xs. optional_bound leaf (n + length (args_calls args)) filter >>= λ c.
      window_bound leaf (n + length (args_calls args) + length (optional_calls filter)) over >>= λ ys. call (function_of name) (form_of args filter over) xs)
  bound leaf n (t.Cast x ty) = leaf n (t.Cast x ty) >>= or_else (unless_null x (bound leaf n x) >>= cast_to (type_of ty))
  bound leaf n (t.Paren x) = leaf n (t.Paren x) >>= or_else (bound leaf n x)
  bound leaf n (t.Sub q) = leaf n (t.Sub q) >>= or_else (Err Unsupported)
  bound leaf n (t.Case whens otherwise) =
      leaf n (t.Case whens otherwise) >>= or_else (
      whens_bound leaf n whens >>= λ branches. otherwise_bound leaf (n + length (when_calls whens)) otherwise >>= λ x. case branches x)

  pub all_bound : Leaf → ℕ → t.Trees → Checked (List Bound)
  all_bound leaf n t.no_trees = Ok []
  all_bound leaf n (t.tree_and x xs) = bound leaf n x >>= λ a. all_bound leaf (n + length (calls x)) xs >>= λ bs. Ok (a ∷ bs)

  pub sum_bound : Leaf → ℕ → Bound → t.SumTails → Checked Bound
  sum_bound leaf n a t.no_sum_tails = Ok a
  sum_bound leaf n a (t.sum_tail_and (t.sum_tail_of word x) xs) = bound leaf n x >>= λ b. added word a b >>= λ c. sum_bound leaf (n + length (calls x)) c xs

  pub product_bound : Leaf → ℕ → Bound → t.ProductTails → Checked Bound
  product_bound leaf n a t.no_product_tails = Ok a
  product_bound leaf n a (t.product_tail_and (t.product_tail_of word x) xs) = bound leaf n x >>= λ b. multiplied word a b >>= λ c. product_bound leaf (n + length (calls x)) c xs

  pub whens_bound : Leaf → ℕ → t.TreeWhens → Checked (List (Bound × Option Bound))
  whens_bound leaf n t.no_tree_whens = Ok []
  whens_bound leaf n (t.tree_when_and (t.tree_when_of c x) ws) =
      bound leaf n c >>= λ a. unless_null x (bound leaf (n + length (calls c)) x) >>= λ b. whens_bound leaf (n + length (calls c) + length (calls x)) ws >>= λ bs. Ok ((a, b) ∷ bs)

  pub otherwise_bound : Leaf → ℕ → t.OptionalTree → Checked (Option (Option Bound))
  otherwise_bound leaf n t.no_tree = Ok None
  otherwise_bound leaf n (t.some_tree x) = unless_null x (bound leaf n x) >>= λ a. Ok (Some a)

  pub optional_bound : Leaf → ℕ → t.OptionalTree → Checked (Option Bound)
  optional_bound leaf n t.no_tree = Ok None
  optional_bound leaf n (t.some_tree x) = bound leaf n x >>= λ a. Ok (Some a)

  -- OVER's operands: PARTITION BY, then ORDER BY
  pub window_bound : Leaf → ℕ → t.OptionalOver → Checked (List Bound)
  window_bound leaf n t.no_over = Ok []
  window_bound leaf n (t.some_over (t.over_of partition order)) = all_bound leaf n partition >>= λ xs. order_bound leaf (n + length (all_calls partition)) order

  pub order_bound : Leaf → ℕ → t.SortList → Checked (List Bound)
  order_bound leaf n t.no_sorts = Ok []
  order_bound leaf n (t.sort_and (t.sort_of x desc) xs) = bound leaf n x >>= λ a. order_bound leaf (n + length (calls x)) xs >>= λ bs. Ok (a ∷ bs)

  pub args_bound : Leaf → ℕ → t.Args → Checked (List Bound)
  args_bound leaf n t.Empty = Ok []
  args_bound leaf n t.Star = Ok []
  args_bound leaf n (t.Values distinct xs) = all_bound leaf n xs

-- ---- names over the columns in reach

-- a name without source and backticks may be that of a function whose answer changes
abbrev pub may_change : Option Text → Text → Bool → Bool
may_change None name false = is_changing (function_of name)
may_change None name true = false
may_change (Some source) name quoted = false

abbrev pub column : ℕ → ColTy → Bound
column n ty = record { expr = e.Column n ty.ty; column = ty }

abbrev pub found_column : Bool → Found → Checked Bound
found_column changing Absent = cond changing (Err Nondeterministic) (Err UnknownColumn)
found_column changing (At n ty) = Ok (column n ty)
found_column changing Several = Err AmbiguousColumn

abbrev pub names_by : Lookup → Leaf
names_by look n (t.Name of name quoted) = found_column (may_change of name quoted) (look of name) >>= λ x. Ok (Some x)
names_by look n _ = Ok None

abbrev pub names : Scope → Leaf
names scope = names_by (find scope)

-- a tree whose names stand for columns by this look-up; it has no place for aggregate calls
abbrev pub bound_by : Lookup → Tree → Checked Bound
bound_by look x = bound (names_by look) 0 x

-- a tree over the columns in reach
abbrev pub bound_over : Scope → Tree → Checked Bound
bound_over scope x = bound_by (find scope) x

abbrev pub each_bound : Scope → List Tree → Checked (List Bound)
each_bound scope [] = Ok []
each_bound scope (x ∷ xs) = bound_over scope x >>= λ a. each_bound scope xs >>= λ bs. Ok (a ∷ bs)

-- ---- conditions

-- each is BOOLEAN
abbrev pub truths : List Bound → Option ColTy → Checked (List Bound)
truths xs None = Err TypeMismatch
truths xs (Some column) = Ok xs

abbrev pub conditions : List Bound → Checked (List Bound)
conditions xs = truths xs (all_truths (columns xs))

-- the top-level conjuncts: the operands of an AND are walked first, and then have to be BOOLEAN
abbrev mutual
  pub conjuncts_bound : Scope → Tree → Checked (List Bound)
  conjuncts_bound scope (t.And xs) = all_conjuncts_bound scope xs >>= conditions
  conjuncts_bound scope (t.Paren x) = conjuncts_bound scope x
  conjuncts_bound scope x = bound_over scope x >>= λ a. Ok (a ∷ [])

  pub all_conjuncts_bound : Scope → t.Trees → Checked (List Bound)
  all_conjuncts_bound scope t.no_trees = Ok []
  all_conjuncts_bound scope (t.tree_and x xs) = conjuncts_bound scope x >>= λ bs. all_conjuncts_bound scope xs >>= λ cs. Ok (bs ++ cs)
