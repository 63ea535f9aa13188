-- Each exit of the walk of a node: what the definition answers there.
use Rattle.std.proofs.Common.{◌≡◌, ℕ, suc, ◌+◌, Bool, true, false, List, Option, Ok, Err, length, ap, sym, subst, ◌∙◌}
use Rattle.std.specs.Prelude.{Result, IfOk}
use Rattle.ct_value.specs.declared.codes.ScriptCode.{ScriptCode}
use Rattle.ct_value.specs.declared.codes.ScriptCode.TheVariants.{Unsupported}
use Rattle.ct_value.specs.declared.value.CompareOp.{CompareOp}
use Rattle.ct_catalog.specs.Types.{type_of}
use Rattle.sql_syntax.specs.declared.statement.TypeName.{TypeName}
use Rattle.sql_syntax.specs.Tree.{Tree}
use Rattle.sql_syntax.specs.Tree as t
use Rattle.query_answer.specs.Calls.{calls, args_calls, optional_calls, when_calls}
use Rattle.query_answer.specs.Functions.{function_of}
use Rattle.binding.specs.Checked.{Checked, ◌>>=◌, refused_if}
use Rattle.binding.specs.Nodes.{Bound, signed, compare, conjunction, disjunction, negation, negated_if, null_test, between, in_list, like, cast_to, case, call}
use Rattle.binding.specs.Expressions.{Leaf, bound, all_bound, sum_bound, product_bound, whens_bound, otherwise_bound, optional_bound, window_bound, args_bound, unless_null, is_long, sum_length, product_length, form_of}
use Rattle.bind_names.specs.declared.fault.BindFault.{BindFault}
use Rattle.bind_nodes.specs.declared.bound.Bound.{Bound as Made}
use Rattle.bind_nodes.specs.Views.{bound_view}
use Rattle.bind_expressions.specs.Walk.{node}

-- a chain of so many more operands is refused as this
abbrev pub Long : ℕ → ScriptCode → Type 0
Long others code = (is_long (suc others) ≡ true) × (code ≡ Unsupported)

-- an answer of something equal
pub ok_as : (r : Result Made BindFault) (p q : Checked Bound) → p ≡ q → IfOk r (λ x. q ≡ Ok (bound_view x)) → IfOk r (λ x. p ≡ Ok (bound_view x))
ok_as r p q e h = subst (λ (s : Checked Bound). IfOk r (λ x. s ≡ Ok (bound_view x))) (sym e) h

module _ (leaf : Leaf) (n : ℕ) where
  pub or_1 : (xs : t.Trees) (code : ScriptCode) → all_bound leaf n xs ≡ Err code → node leaf n (t.Or xs) ≡ Err code
  or_1 xs code h = ap (λ r. r >>= disjunction) h

  pub or_2 : (xs : t.Trees) (bs : List Bound) → all_bound leaf n xs ≡ Ok bs → node leaf n (t.Or xs) ≡ disjunction bs
  or_2 xs bs h = ap (λ r. r >>= disjunction) h

  pub and_1 : (xs : t.Trees) (code : ScriptCode) → all_bound leaf n xs ≡ Err code → node leaf n (t.And xs) ≡ Err code
  and_1 xs code h = ap (λ r. r >>= conjunction) h

  pub and_2 : (xs : t.Trees) (bs : List Bound) → all_bound leaf n xs ≡ Ok bs → node leaf n (t.And xs) ≡ conjunction bs
  and_2 xs bs h = ap (λ r. r >>= conjunction) h

  pub not_1 : (x : Tree) (code : ScriptCode) → bound leaf n x ≡ Err code → node leaf n (t.Not x) ≡ Err code
  not_1 x code h = ap (λ r. r >>= negation) h

  pub not_2 : (x : Tree) (a : Bound) → bound leaf n x ≡ Ok a → node leaf n (t.Not x) ≡ negation a
  not_2 x a h = ap (λ r. r >>= negation) h

  pub sign_1 : (minus : Bool) (x : Tree) (code : ScriptCode) → bound leaf n x ≡ Err code → node leaf n (t.Sign minus x) ≡ Err code
  sign_1 minus x code h = ap (λ r. r >>= signed minus) h

  pub sign_2 : (minus : Bool) (x : Tree) (a : Bound) → bound leaf n x ≡ Ok a → node leaf n (t.Sign minus x) ≡ signed minus a
  sign_2 minus x a h = ap (λ r. r >>= signed minus) h

  pub compare_1 : (op : CompareOp) (x y : Tree) (code : ScriptCode) → bound leaf n x ≡ Err code → node leaf n (t.Compare op x y) ≡ Err code
  compare_1 op x y code h = (λ i. h i >>= λ a. bound leaf (n + length (calls x)) y >>= λ b. compare op a b)

  pub compare_2 : (op : CompareOp) (x y : Tree) (a : Bound) (code : ScriptCode) → bound leaf n x ≡ Ok a → bound leaf (n + length (calls x)) y ≡ Err code → node leaf n (t.Compare op x y) ≡ Err code
  compare_2 op x y a code h k = (λ i. h i >>= λ a. k i >>= λ b. compare op a b)

  pub compare_3 : (op : CompareOp) (x y : Tree) (a b : Bound) → bound leaf n x ≡ Ok a → bound leaf (n + length (calls x)) y ≡ Ok b → node leaf n (t.Compare op x y) ≡ compare op a b
  compare_3 op x y a b h k = (λ i. h i >>= λ a. k i >>= λ b. compare op a b)

  pub is_null_1 : (x : Tree) (negated : Bool) (code : ScriptCode) → bound leaf n x ≡ Err code → node leaf n (t.IsNull x negated) ≡ Err code
  is_null_1 x negated code h = ap (λ r. r >>= null_test >>= negated_if negated) h

  pub is_null_2 : (x : Tree) (negated : Bool) (a : Bound) (code : ScriptCode) → bound leaf n x ≡ Ok a → null_test a ≡ Err code → node leaf n (t.IsNull x negated) ≡ Err code
  is_null_2 x negated a code h k = ap (λ r. r >>= null_test >>= negated_if negated) h ∙ ap (λ r. r >>= negated_if negated) k

  pub is_null_3 : (x : Tree) (negated : Bool) (a b : Bound) → bound leaf n x ≡ Ok a → null_test a ≡ Ok b → node leaf n (t.IsNull x negated) ≡ negated_if negated b
  is_null_3 x negated a b h k = ap (λ r. r >>= null_test >>= negated_if negated) h ∙ ap (λ r. r >>= negated_if negated) k

  pub between_1 : (x low high : Tree) (negated : Bool) (code : ScriptCode) → bound leaf n x ≡ Err code → node leaf n (t.Between x low high negated) ≡ Err code
  between_1 x low high negated code h = (λ i. h i >>= λ a. bound leaf (n + length (calls x)) low >>= λ b. bound leaf (n + length (calls x) + length (calls low)) high >>= λ c. between a b c >>= negated_if negated)

  pub between_2 : (x low high : Tree) (negated : Bool) (a : Bound) (code : ScriptCode) → bound leaf n x ≡ Ok a → bound leaf (n + length (calls x)) low ≡ Err code → node leaf n (t.Between x low high negated) ≡ Err code
  between_2 x low high negated a code h k = (λ i. h i >>= λ a. k i >>= λ b. bound leaf (n + length (calls x) + length (calls low)) high >>= λ c. between a b c >>= negated_if negated)

  pub between_3 : (x low high : Tree) (negated : Bool) (a b : Bound) (code : ScriptCode) → bound leaf n x ≡ Ok a → bound leaf (n + length (calls x)) low ≡ Ok b → bound leaf (n + length (calls x) + length (calls low)) high ≡ Err code → node leaf n (t.Between x low high negated) ≡ Err code
  between_3 x low high negated a b code h k m = (λ i. h i >>= λ a. k i >>= λ b. m i >>= λ c. between a b c >>= negated_if negated)

  pub between_4 : (x low high : Tree) (negated : Bool) (a b c : Bound) (code : ScriptCode) → bound leaf n x ≡ Ok a → bound leaf (n + length (calls x)) low ≡ Ok b → bound leaf (n + length (calls x) + length (calls low)) high ≡ Ok c → between a b c ≡ Err code → node leaf n (t.Between x low high negated) ≡ Err code
  between_4 x low high negated a b c code h k m t = (λ i. h i >>= λ a. k i >>= λ b. m i >>= λ c. between a b c >>= negated_if negated) ∙ ap (λ r. r >>= negated_if negated) t

  pub between_5 : (x low high : Tree) (negated : Bool) (a b c d : Bound) → bound leaf n x ≡ Ok a → bound leaf (n + length (calls x)) low ≡ Ok b → bound leaf (n + length (calls x) + length (calls low)) high ≡ Ok c → between a b c ≡ Ok d → node leaf n (t.Between x low high negated) ≡ negated_if negated d
  between_5 x low high negated a b c d h k m t = (λ i. h i >>= λ a. k i >>= λ b. m i >>= λ c. between a b c >>= negated_if negated) ∙ ap (λ r. r >>= negated_if negated) t

  pub in_list_1 : (x : Tree) (xs : t.Trees) (negated : Bool) (code : ScriptCode) → bound leaf n x ≡ Err code → node leaf n (t.InList x xs negated) ≡ Err code
  in_list_1 x xs negated code h = (λ i. h i >>= λ a. all_bound leaf (n + length (calls x)) xs >>= λ b. in_list a b >>= negated_if negated)

  pub in_list_2 : (x : Tree) (xs : t.Trees) (negated : Bool) (a : Bound) (code : ScriptCode) → bound leaf n x ≡ Ok a → all_bound leaf (n + length (calls x)) xs ≡ Err code → node leaf n (t.InList x xs negated) ≡ Err code
  in_list_2 x xs negated a code h k = (λ i. h i >>= λ a. k i >>= λ b. in_list a b >>= negated_if negated)

  pub in_list_3 : (x : Tree) (xs : t.Trees) (negated : Bool) (a : Bound) (b : List Bound) (code : ScriptCode) → bound leaf n x ≡ Ok a → all_bound leaf (n + length (calls x)) xs ≡ Ok b → in_list a b ≡ Err code → node leaf n (t.InList x xs negated) ≡ Err code
  in_list_3 x xs negated a b code h k t = (λ i. h i >>= λ a. k i >>= λ b. in_list a b >>= negated_if negated) ∙ ap (λ r. r >>= negated_if negated) t

  pub in_list_4 : (x : Tree) (xs : t.Trees) (negated : Bool) (a : Bound) (b : List Bound) (d : Bound) → bound leaf n x ≡ Ok a → all_bound leaf (n + length (calls x)) xs ≡ Ok b → in_list a b ≡ Ok d → node leaf n (t.InList x xs negated) ≡ negated_if negated d
  in_list_4 x xs negated a b d h k t = (λ i. h i >>= λ a. k i >>= λ b. in_list a b >>= negated_if negated) ∙ ap (λ r. r >>= negated_if negated) t

  pub like_1 : (x y : Tree) (negated : Bool) (code : ScriptCode) → bound leaf n x ≡ Err code → node leaf n (t.Like x y negated) ≡ Err code
  like_1 x y negated code h = (λ i. h i >>= λ a. bound leaf (n + length (calls x)) y >>= λ b. like a b >>= negated_if negated)

  pub like_2 : (x y : Tree) (negated : Bool) (a : Bound) (code : ScriptCode) → bound leaf n x ≡ Ok a → bound leaf (n + length (calls x)) y ≡ Err code → node leaf n (t.Like x y negated) ≡ Err code
  like_2 x y negated a code h k = (λ i. h i >>= λ a. k i >>= λ b. like a b >>= negated_if negated)

  pub like_3 : (x y : Tree) (negated : Bool) (a : Bound) (b : Bound) (code : ScriptCode) → bound leaf n x ≡ Ok a → bound leaf (n + length (calls x)) y ≡ Ok b → like a b ≡ Err code → node leaf n (t.Like x y negated) ≡ Err code
  like_3 x y negated a b code h k t = (λ i. h i >>= λ a. k i >>= λ b. like a b >>= negated_if negated) ∙ ap (λ r. r >>= negated_if negated) t

  pub like_4 : (x y : Tree) (negated : Bool) (a : Bound) (b : Bound) (d : Bound) → bound leaf n x ≡ Ok a → bound leaf (n + length (calls x)) y ≡ Ok b → like a b ≡ Ok d → node leaf n (t.Like x y negated) ≡ negated_if negated d
  like_4 x y negated a b d h k t = (λ i. h i >>= λ a. k i >>= λ b. like a b >>= negated_if negated) ∙ ap (λ r. r >>= negated_if negated) t

  pub in_query_1 : (x : Tree) (q : t.Query) (negated : Bool) (code : ScriptCode) → bound leaf n x ≡ Err code → node leaf n (t.InQuery x q negated) ≡ Err code
  in_query_1 x q negated code h = ap (λ r. r >>= λ a. Err Unsupported) h

  pub in_query_2 : (x : Tree) (q : t.Query) (negated : Bool) (a : Bound) → bound leaf n x ≡ Ok a → node leaf n (t.InQuery x q negated) ≡ Err Unsupported
  in_query_2 x q negated a h = ap (λ r. r >>= λ a. Err Unsupported) h

  pub sum_long : (x : Tree) (xs : t.SumTails) → is_long (sum_length xs) ≡ true → node leaf n (t.Sum x xs) ≡ Err Unsupported
  sum_long x xs l = (λ i. refused_if (l i) Unsupported (bound leaf n x >>= λ a. sum_bound leaf (n + length (calls x)) a xs))

  pub sum_1 : (x : Tree) (xs : t.SumTails) (code : ScriptCode) → is_long (sum_length xs) ≡ false → bound leaf n x ≡ Err code → node leaf n (t.Sum x xs) ≡ Err code
  sum_1 x xs code l h = (λ i. refused_if (l i) Unsupported (h i >>= λ a. sum_bound leaf (n + length (calls x)) a xs))

  pub sum_2 : (x : Tree) (xs : t.SumTails) (a : Bound) → is_long (sum_length xs) ≡ false → bound leaf n x ≡ Ok a → node leaf n (t.Sum x xs) ≡ sum_bound leaf (n + length (calls x)) a xs
  sum_2 x xs a l h = (λ i. refused_if (l i) Unsupported (h i >>= λ a. sum_bound leaf (n + length (calls x)) a xs))

  pub product_long : (x : Tree) (xs : t.ProductTails) → is_long (product_length xs) ≡ true → node leaf n (t.Product x xs) ≡ Err Unsupported
  product_long x xs l = (λ i. refused_if (l i) Unsupported (bound leaf n x >>= λ a. product_bound leaf (n + length (calls x)) a xs))

  pub product_1 : (x : Tree) (xs : t.ProductTails) (code : ScriptCode) → is_long (product_length xs) ≡ false → bound leaf n x ≡ Err code → node leaf n (t.Product x xs) ≡ Err code
  product_1 x xs code l h = (λ i. refused_if (l i) Unsupported (h i >>= λ a. product_bound leaf (n + length (calls x)) a xs))

  pub product_2 : (x : Tree) (xs : t.ProductTails) (a : Bound) → is_long (product_length xs) ≡ false → bound leaf n x ≡ Ok a → node leaf n (t.Product x xs) ≡ product_bound leaf (n + length (calls x)) a xs
  product_2 x xs a l h = (λ i. refused_if (l i) Unsupported (h i >>= λ a. product_bound leaf (n + length (calls x)) a xs))

  pub call_1 : (name : List ℕ) (args : t.Args) (filter : t.OptionalTree) (over : t.OptionalOver) (code : ScriptCode) → args_bound leaf n args ≡ Err code → node leaf n (t.Call name args filter over) ≡ Err code
  call_1 name args filter over code h =
      (λ i. h i >>= λ xs. optional_bound leaf (n + length (args_calls args)) filter >>= λ c. window_bound leaf (n + length (args_calls args) + length (optional_calls filter)) over >>= λ ys. call (function_of name) (form_of args filter over) xs)

  pub call_2 : (name : List ℕ) (args : t.Args) (filter : t.OptionalTree) (over : t.OptionalOver) (xs : List Bound) (code : ScriptCode) → args_bound leaf n args ≡ Ok xs → optional_bound leaf (n + length (args_calls args)) filter ≡ Err code → node leaf n (t.Call name args filter over) ≡ Err code
  call_2 name args filter over xs code h k =
      (λ i. h i >>= λ xs. k i >>= λ c. window_bound leaf (n + length (args_calls args) + length (optional_calls filter)) over >>= λ ys. call (function_of name) (form_of args filter over) xs)

  pub call_3 : (name : List ℕ) (args : t.Args) (filter : t.OptionalTree) (over : t.OptionalOver) (xs : List Bound) (c : Option Bound) (code : ScriptCode) → args_bound leaf n args ≡ Ok xs → optional_bound leaf (n + length (args_calls args)) filter ≡ Ok c
      → window_bound leaf (n + length (args_calls args) + length (optional_calls filter)) over ≡ Err code → node leaf n (t.Call name args filter over) ≡ Err code
  call_3 name args filter over xs c code h k w = (λ i. h i >>= λ xs. k i >>= λ c. w i >>= λ ys. call (function_of name) (form_of args filter over) xs)

  pub call_4 : (name : List ℕ) (args : t.Args) (filter : t.OptionalTree) (over : t.OptionalOver) (xs : List Bound) (c : Option Bound) (ys : List Bound) → args_bound leaf n args ≡ Ok xs → optional_bound leaf (n + length (args_calls args)) filter ≡ Ok c
      → window_bound leaf (n + length (args_calls args) + length (optional_calls filter)) over ≡ Ok ys → node leaf n (t.Call name args filter over) ≡ call (function_of name) (form_of args filter over) xs
  call_4 name args filter over xs c ys h k w = (λ i. h i >>= λ xs. k i >>= λ c. w i >>= λ ys. call (function_of name) (form_of args filter over) xs)

  pub cast_1 : (x : Tree) (ty : TypeName) (code : ScriptCode) → unless_null x (bound leaf n x) ≡ Err code → node leaf n (t.Cast x ty) ≡ Err code
  cast_1 x ty code h = ap (λ r. r >>= cast_to (type_of ty)) h

  pub cast_2 : (x : Tree) (ty : TypeName) (o : Option Bound) → unless_null x (bound leaf n x) ≡ Ok o → node leaf n (t.Cast x ty) ≡ cast_to (type_of ty) o
  cast_2 x ty o h = ap (λ r. r >>= cast_to (type_of ty)) h

  pub case_1 : (whens : t.TreeWhens) (otherwise : t.OptionalTree) (code : ScriptCode) → whens_bound leaf n whens ≡ Err code → node leaf n (t.Case whens otherwise) ≡ Err code
  case_1 whens otherwise code h = (λ i. h i >>= λ branches. otherwise_bound leaf (n + length (when_calls whens)) otherwise >>= λ x. case branches x)

  pub case_2 : (whens : t.TreeWhens) (otherwise : t.OptionalTree) (bs : List (Bound × Option Bound)) (code : ScriptCode) → whens_bound leaf n whens ≡ Ok bs → otherwise_bound leaf (n + length (when_calls whens)) otherwise ≡ Err code → node leaf n (t.Case whens otherwise) ≡ Err code
  case_2 whens otherwise bs code h k = (λ i. h i >>= λ branches. k i >>= λ x. case branches x)

  pub case_3 : (whens : t.TreeWhens) (otherwise : t.OptionalTree) (bs : List (Bound × Option Bound)) (o : Option (Option Bound)) → whens_bound leaf n whens ≡ Ok bs → otherwise_bound leaf (n + length (when_calls whens)) otherwise ≡ Ok o → node leaf n (t.Case whens otherwise) ≡ case bs o
  case_3 whens otherwise bs o h k = (λ i. h i >>= λ branches. k i >>= λ x. case branches x)
