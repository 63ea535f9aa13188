-- A node whose operands decide what it is bound to: what the walk does behind the leaf.
use Rattle.std.specs.Prelude.{ℕ, ◌+◌, cond, List, [], ◌∷◌, length, Ok, Err}
use Rattle.ct_value.specs.declared.codes.ScriptCode.TheVariants.{UnknownColumn, TypeMismatch, Unsupported}
use Rattle.ct_value.specs.declared.ty.Ty.TheVariants.{Bool as Truths, Text as Texts}
use Rattle.ct_value.specs.declared.value.Value.TheVariants.{Bool as Truth, Text as Words}
use Rattle.ct_catalog.specs.Types.{type_of}
use Rattle.sql_syntax.specs.Tree.{Tree}
use Rattle.sql_syntax.specs.Tree as t
use Rattle.query_answer.specs.Calls.{calls, args_calls, optional_calls, when_calls}
use Rattle.query_answer.specs.Functions.{function_of}
use Rattle.query_answer.specs.Literals.{number_of, is_short}
use Rattle.query_answer.specs.Names.{Scope}
use Rattle.binding.specs.Checked.{Checked, ◌>>=◌, refused_if}
use Rattle.binding.specs.Nodes.{Bound, literal, number, signed, compare, conjunction, disjunction, negation, negated_if, null_test, between, in_list, like, cast_to, case, call}
use Rattle.binding.specs.Expressions.{Leaf, bound, bound_over, all_bound, sum_bound, product_bound, whens_bound, otherwise_bound, optional_bound, window_bound, args_bound, unless_null, is_long, sum_length, product_length, form_of}

abbrev pub node : Leaf → ℕ → Tree → Checked Bound
node leaf n (t.Or xs) = all_bound leaf n xs >>= disjunction
node leaf n (t.And xs) = all_bound leaf n xs >>= conjunction
node leaf n (t.Not x) = bound leaf n x >>= negation
node leaf n (t.Exists q) = Err Unsupported
node leaf n (t.Compare op x y) = bound leaf n x >>= λ a. bound leaf (n + length (calls x)) y >>= λ b. compare op a b
node leaf n (t.IsNull x negated) = bound leaf n x >>= null_test >>= negated_if negated
node leaf n (t.Between x low high negated) = bound leaf n x >>= λ a. bound leaf (n + length (calls x)) low >>= λ b. bound leaf (n + length (calls x) + length (calls low)) high >>= λ c. between a b c >>= negated_if negated
node leaf n (t.InList x xs negated) = bound leaf n x >>= λ a. all_bound leaf (n + length (calls x)) xs >>= λ bs. in_list a bs >>= negated_if negated
node leaf n (t.InQuery x q negated) = bound leaf n x >>= λ a. Err Unsupported
node leaf n (t.Like x y negated) = bound leaf n x >>= λ a. bound leaf (n + length (calls x)) y >>= λ b. like a b >>= negated_if negated
node leaf n (t.Sum x xs) = refused_if (is_long (sum_length xs)) Unsupported (bound leaf n x >>= λ a. sum_bound leaf (n + length (calls x)) a xs)
node leaf n (t.Product x xs) = refused_if (is_long (product_length xs)) Unsupported (bound leaf n x >>= λ a. product_bound leaf (n + length (calls x)) a xs)
node leaf n (t.Sign minus x) = bound leaf n x >>= signed minus
node leaf n (t.Number text) = number (number_of text)
node leaf n (t.Str text) = cond (is_short text) (literal (Words text) Texts) (Err Unsupported)
node leaf n (t.Truth truth) = literal (Truth truth) Truths
node leaf n t.Null = Err TypeMismatch
node leaf n (t.Name of name quoted) = Err UnknownColumn
node leaf n (t.Call name args filter over) = args_bound leaf n args >>= λ xs. optional_bound leaf (n + length (args_calls args)) filter >>= λ c. window_bound leaf (n + length (args_calls args) + length (optional_calls filter)) over >>= λ ys. call (function_of name) (form_of args filter over) xs
node leaf n (t.Cast x ty) = unless_null x (bound leaf n x) >>= cast_to (type_of ty)
node leaf n (t.Paren x) = bound leaf n x
node leaf n (t.Sub q) = Err Unsupported
node leaf n (t.Case whens otherwise) = whens_bound leaf n whens >>= λ branches. otherwise_bound leaf (n + length (when_calls whens)) otherwise >>= λ x. case branches x

-- a tree that is one conjunct
abbrev pub only_conjunct : Scope → Tree → Checked (List Bound)
only_conjunct scope x = bound_over scope x >>= λ a. Ok (a ∷ [])
