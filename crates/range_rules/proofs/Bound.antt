-- A tree without arithmetic is bound to an expression that calculates nothing: one induction over trees, for every meaning of whole nodes
-- that calculates nothing.
use Rattle.std.proofs.Common.{◌≡◌, ℕ, ◌+◌, Bool, true, false, List, [], ◌∷◌, ◌++◌, length, Option, Some, None, cond, Ok, Err, IfOk, refl}
use Rattle.ct_value.specs.declared.codes.ScriptCode.TheVariants.{Unsupported}
use Rattle.ct_value.specs.declared.ty.ColTy.{ColTy}
use Rattle.ct_value.specs.declared.ty.Ty.TheVariants.{Bool as Truths, Text as Texts}
use Rattle.ct_value.specs.declared.value.Value.TheVariants.{Bool as Truth, Text as Words}
use Rattle.sql_syntax.specs.Tree.{Tree}
use Rattle.sql_syntax.specs.Tree as t
use Rattle.query_answer.specs.declared.function.Function.{Function}
use Rattle.query_answer.specs.declared.scope.Found.{Found}
use Rattle.query_answer.specs.declared.scope.Found.TheVariants.{Absent, At, Several}
use Rattle.query_answer.specs.Answer.{conjuncts, all_conjuncts}
use Rattle.query_answer.specs.Calls.{calls, when_calls, args_calls, optional_calls}
use Rattle.query_answer.specs.Functions.{function_of}
use Rattle.query_answer.specs.Literals.{number_of, is_null, is_short}
use Rattle.query_answer.specs.Names.{Scope, Lookup, find}
use Rattle.range_rules.specs.Arithmetic.{is_sum_or_avg, in_tree, in_trees, in_when, in_whens, in_args, in_optional}
use Rattle.binding.specs.Checked.{Checked, ◌>>=◌}
use Rattle.binding.specs.Expressions.{Leaf, or_else, unless_null, form_of, bound, all_bound, whens_bound, otherwise_bound, optional_bound, window_bound, args_bound, may_change, found_column, names, names_by, bound_by, bound_over, each_bound, truths, conditions}
use Rattle.binding.specs.Nodes.{Bound, columns}
use Rattle.binding.specs.Nodes as node_of
use Rattle.ct_expr.specs.Types.{all_truths}
use Rattle.range_rules.proofs.Checked.{bind, then, neither, impossible}
use Rattle.range_rules.proofs.Nodes.{Tame, AllTame, MayBe, Branches, Otherwise, literal_tame, number_tame, compare_tame, conjunction_tame, disjunction_tame, negation_tame, negated_tame, null_test_tame, between_tame, in_list_tame, like_tame, call_tame, case_tame}

-- no arithmetic is written in a tree
abbrev pub IsFree : Tree → Type 0
IsFree x = in_tree x ≡ false

abbrev pub AllFree : List Tree → Type 0
AllFree [] = Unit {0}
AllFree (x ∷ xs) = IsFree x × AllFree xs

pub free_append : (xs ys : List Tree) → AllFree xs → AllFree ys → AllFree (xs ++ ys)
free_append [] ys h k = k
free_append (x ∷ xs) ys h k = (h.0, free_append xs ys h.1 k)

pub tame_append : (xs ys : List Bound) → AllTame xs → AllTame ys → AllTame (xs ++ ys)
tame_append [] ys h k = k
tame_append (x ∷ xs) ys h k = (h.0, tame_append xs ys h.1 k)

-- a node for itself, or over its operands
node : (r : Checked (Option Bound)) (x : Checked Bound) → IfOk r MayBe → IfOk x Tame → IfOk (r >>= or_else x) Tame
node (Err code) x h l = tt
node (Ok None) x h l = l
node (Ok (Some y)) x h l = h

not_null : (x : Tree) (r : Checked Bound) → IfOk r Tame → IfOk (unless_null x r) MayBe
not_null x r h = go (is_null x)
  where
    go : (t : Bool) → IfOk (cond t (Ok None) (r >>= λ y. Ok (Some y))) MayBe
    go true = tt
    go false = bind r _ Tame _ h (λ y p. p)

-- what whole nodes are bound to calculates nothing
module _ (b : Leaf) (leaves : (n : ℕ) (x : Tree) → IfOk (b n x) MayBe) where
  call_node : (n m : ℕ) (f : Function) (args : t.Args) (filter : t.OptionalTree) (over : t.OptionalOver) → IfOk (args_bound b n args) AllTame
      → IfOk (args_bound b n args >>= λ xs. optional_bound b m filter >>= λ c. window_bound b (m + length (optional_calls filter)) over >>= λ ys. node_of.call f (form_of args filter over) xs) Tame
  call_node n m f args filter over h =
      bind (args_bound b n args) _ AllTame _ h (λ xs p. then (optional_bound b m filter) _ _ (λ o. then (window_bound b (m + length (optional_calls filter)) over) _ _ (λ ys. call_tame f (form_of args filter over) xs p)))

  mutual
    unfolding in_tree in_trees in_whens in_when in_optional in_args

    pub bound_tame : (x : Tree) (n : ℕ) → IsFree x → IfOk (bound b n x) Tame
    bound_tame (t.Or xs) n f = node (b n (t.Or xs)) _ (leaves n (t.Or xs)) (bind (all_bound b n xs) _ AllTame _ (all_tame xs n f) (λ ys p. disjunction_tame ys p))
    bound_tame (t.And xs) n f = node (b n (t.And xs)) _ (leaves n (t.And xs)) (bind (all_bound b n xs) _ AllTame _ (all_tame xs n f) (λ ys p. conjunction_tame ys p))
    bound_tame (t.Not x) n f = node (b n (t.Not x)) _ (leaves n (t.Not x)) (bind (bound b n x) _ Tame _ (bound_tame x n f) (λ y p. negation_tame y p))
    bound_tame (t.Exists q) n f = node (b n (t.Exists q)) _ (leaves n (t.Exists q)) tt
    bound_tame (t.Compare op x y) n f =
        let g = neither (in_tree x) (in_tree y) f in
        node (b n (t.Compare op x y)) _ (leaves n (t.Compare op x y))
        (bind (bound b n x) _ Tame _ (bound_tame x n g.0) (λ v p.
        bind (bound b (n + length (calls x)) y) _ Tame _ (bound_tame y (n + length (calls x)) g.1) (λ w q.
        compare_tame op v w p q)))
    bound_tame (t.IsNull x negated) n f =
        node (b n (t.IsNull x negated)) _ (leaves n (t.IsNull x negated))
        (bind (bound b n x >>= node_of.null_test) _ Tame _ (bind (bound b n x) _ Tame _ (bound_tame x n f) (λ v p. null_test_tame v p)) (λ v p.
        negated_tame negated v p))
    bound_tame (t.Between x low high negated) n f =
        let g = neither (in_tree x) _ f in
        let k = neither (in_tree low) (in_tree high) g.1 in
        node (b n (t.Between x low high negated)) _ (leaves n (t.Between x low high negated))
        (bind (bound b n x) _ Tame _ (bound_tame x n g.0) (λ v p.
        bind (bound b (n + length (calls x)) low) _ Tame _ (bound_tame low (n + length (calls x)) k.0) (λ w q.
        bind (bound b (n + length (calls x) + length (calls low)) high) _ Tame _ (bound_tame high (n + length (calls x) + length (calls low)) k.1) (λ u r.
        bind (node_of.between v w u) _ Tame _ (between_tame v w u p q r) (λ z l.
        negated_tame negated z l)))))
    bound_tame (t.InList x xs negated) n f =
        let g = neither (in_tree x) (in_trees xs) f in
        node (b n (t.InList x xs negated)) _ (leaves n (t.InList x xs negated))
        (bind (bound b n x) _ Tame _ (bound_tame x n g.0) (λ v p.
        bind (all_bound b (n + length (calls x)) xs) _ AllTame _ (all_tame xs (n + length (calls x)) g.1) (λ ys q.
        bind (node_of.in_list v ys) _ Tame _ (in_list_tame v ys p q) (λ z l.
        negated_tame negated z l))))
    bound_tame (t.InQuery x q negated) n f = node (b n (t.InQuery x q negated)) _ (leaves n (t.InQuery x q negated)) (then (bound b n x) _ Tame (λ v. tt))
    bound_tame (t.Like x y negated) n f =
        let g = neither (in_tree x) (in_tree y) f in
        node (b n (t.Like x y negated)) _ (leaves n (t.Like x y negated))
        (bind (bound b n x) _ Tame _ (bound_tame x n g.0) (λ v p.
        bind (bound b (n + length (calls x)) y) _ Tame _ (bound_tame y (n + length (calls x)) g.1) (λ w q.
        bind (node_of.like v w) _ Tame _ (like_tame v w p q) (λ z l.
        negated_tame negated z l))))
    bound_tame (t.Sum x xs) n f = impossible f
    bound_tame (t.Product x xs) n f = impossible f
    bound_tame (t.Sign minus x) n f = impossible f
    bound_tame (t.Number text) n f = node (b n (t.Number text)) _ (leaves n (t.Number text)) (number_tame (number_of text))
    bound_tame (t.Str text) n f = node (b n (t.Str text)) _ (leaves n (t.Str text)) (short (is_short text) refl)
      where
        short : (s : Bool) → is_short text ≡ s → IfOk (cond s (node_of.literal (Words text) Texts) (Err Unsupported)) Tame
        short true i = literal_tame (Words text) Texts i
        short false i = tt
    bound_tame (t.Truth truth) n f = node (b n (t.Truth truth)) _ (leaves n (t.Truth truth)) (literal_tame (Truth truth) Truths refl)
    bound_tame t.Null n f = node (b n t.Null) _ (leaves n t.Null) tt
    bound_tame (t.Name of name quoted) n f = node (b n (t.Name of name quoted)) _ (leaves n (t.Name of name quoted)) tt
    bound_tame (t.Call name args filter over) n f =
        let g = neither (is_sum_or_avg name) _ f in
        let k = neither (in_args args) _ g.1 in
        node (b n (t.Call name args filter over)) _ (leaves n (t.Call name args filter over))
        (call_node n (n + length (args_calls args)) (function_of name) args filter over (args_tame args n k.0))
    bound_tame (t.Cast x ty) n f = impossible f
    bound_tame (t.Paren x) n f = node (b n (t.Paren x)) _ (leaves n (t.Paren x)) (bound_tame x n f)
    bound_tame (t.Sub q) n f = node (b n (t.Sub q)) _ (leaves n (t.Sub q)) tt
    bound_tame (t.Case whens otherwise) n f =
        let g = neither (in_whens whens) (in_optional otherwise) f in
        node (b n (t.Case whens otherwise)) _ (leaves n (t.Case whens otherwise))
        (bind (whens_bound b n whens) _ Branches _ (whens_tame whens n g.0) (λ bs p.
        bind (otherwise_bound b (n + length (when_calls whens)) otherwise) _ Otherwise _ (otherwise_tame otherwise (n + length (when_calls whens)) g.1) (λ o q.
        case_tame bs o p q)))

    pub all_tame : (xs : t.Trees) (n : ℕ) → in_trees xs ≡ false → IfOk (all_bound b n xs) AllTame
    all_tame t.no_trees n f = tt
    all_tame (t.tree_and x xs) n f =
        let g = neither (in_tree x) (in_trees xs) f in
        bind (bound b n x) _ Tame _ (bound_tame x n g.0) (λ y p.
        bind (all_bound b (n + length (calls x)) xs) _ AllTame _ (all_tame xs (n + length (calls x)) g.1) (λ ys q.
        (p, q)))

    whens_tame : (ws : t.TreeWhens) (n : ℕ) → in_whens ws ≡ false → IfOk (whens_bound b n ws) Branches
    whens_tame t.no_tree_whens n f = tt
    whens_tame (t.tree_when_and (t.tree_when_of c x) ws) n f =
        let g = neither _ (in_whens ws) f in
        let k = neither (in_tree c) (in_tree x) g.0 in
        let first = n + length (calls c) in
        bind (bound b n c) _ Tame _ (bound_tame c n k.0) (λ y p.
        bind (unless_null x (bound b first x)) _ MayBe _ (not_null x (bound b first x) (bound_tame x first k.1)) (λ o q.
        bind (whens_bound b (first + length (calls x)) ws) _ Branches _ (whens_tame ws (first + length (calls x)) g.1) (λ bs l.
        (p, q, l))))

    otherwise_tame : (o : t.OptionalTree) (n : ℕ) → in_optional o ≡ false → IfOk (otherwise_bound b n o) Otherwise
    otherwise_tame t.no_tree n f = tt
    otherwise_tame (t.some_tree x) n f = bind (unless_null x (bound b n x)) _ MayBe _ (not_null x (bound b n x) (bound_tame x n f)) (λ o p. p)

    pub args_tame : (args : t.Args) (n : ℕ) → in_args args ≡ false → IfOk (args_bound b n args) AllTame
    args_tame t.Empty n f = tt
    args_tame t.Star n f = tt
    args_tame (t.Values distinct xs) n f = all_tame xs n f

-- ---- names over the columns in reach

pub found_tame : (changing : Bool) (f : Found) → IfOk (found_column changing f) Tame
found_tame true Absent = tt
found_tame false Absent = tt
found_tame changing (At n ty) = refl
found_tame changing Several = tt

pub names_by_tame : (look : Lookup) (n : ℕ) (x : Tree) → IfOk (names_by look n x) MayBe
names_by_tame look n (t.Name of name quoted) = bind (found_column (may_change of name quoted) (look of name)) _ Tame _ (found_tame (may_change of name quoted) (look of name)) (λ y p. p)
names_by_tame look n x = tt

pub names_tame : (scope : Scope) (n : ℕ) (x : Tree) → IfOk (names scope n x) MayBe
names_tame scope = names_by_tame (find scope)

pub by_tame : (look : Lookup) (x : Tree) → IsFree x → IfOk (bound_by look x) Tame
by_tame look x f = bound_tame (names_by look) (names_by_tame look) x 0 f

pub over_tame : (scope : Scope) (x : Tree) → IsFree x → IfOk (bound_over scope x) Tame
over_tame scope x f = by_tame (find scope) x f

pub each_tame : (scope : Scope) (xs : List Tree) → AllFree xs → IfOk (each_bound scope xs) AllTame
each_tame scope [] f = tt
each_tame scope (x ∷ xs) f =
    bind (bound_over scope x) _ Tame _ (over_tame scope x f.0) (λ y p.
    bind (each_bound scope xs) _ AllTame _ (each_tame scope xs f.1) (λ ys q.
    (p, q)))

-- ---- conditions

pub conditions_tame : (xs : List Bound) → AllTame xs → IfOk (conditions xs) AllTame
conditions_tame xs h = go (all_truths (columns xs))
  where
    go : (o : Option ColTy) → IfOk (truths xs o) AllTame
    go None = tt
    go (Some c) = h

-- the conjuncts themselves
mutual
  unfolding in_tree in_trees

  pub conjuncts_free : (x : Tree) → IsFree x → AllFree (conjuncts x)
  conjuncts_free (t.And xs) f = all_conjuncts_free xs f
  conjuncts_free (t.Paren x) f = conjuncts_free x f
  conjuncts_free x f = (f, tt)

  all_conjuncts_free : (xs : t.Trees) → in_trees xs ≡ false → AllFree (all_conjuncts xs)
  all_conjuncts_free t.no_trees f = tt
  all_conjuncts_free (t.tree_and x xs) f =
      let g = neither (in_tree x) (in_trees xs) f in
      free_append (conjuncts x) (all_conjuncts xs) (conjuncts_free x g.0) (all_conjuncts_free xs g.1)
