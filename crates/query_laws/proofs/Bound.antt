-- What a tree is bound to is what it stands for: one induction over trees, for every meaning of whole nodes.
use Rattle.std.proofs.Common.{◌≡◌, ℕ, suc, ◌+◌, Bool, true, false, List, [], ◌∷◌, ◌++◌, length, Option, Some, None, cond, Ok, Err, IfOk, subst, option_map, arith}
use Rattle.ct_value.specs.declared.codes.ScriptCode.{ScriptCode}
use Rattle.ct_value.specs.declared.codes.ScriptCode.TheVariants.{Unsupported}
use Rattle.ct_value.specs.declared.row.Row.{Row}
use Rattle.ct_value.specs.declared.ty.ColTy.{ColTy}
use Rattle.ct_value.specs.declared.ty.Ty.TheVariants.{Bool as Truths, Text as Texts}
use Rattle.ct_value.specs.declared.value.Value.TheVariants.{Bool as Truth, Text as Words}
use Rattle.ct_catalog.specs.Types.{type_of}
use Rattle.sql_syntax.specs.Tree.{Tree}
use Rattle.sql_syntax.specs.Tree as t
use Rattle.query_answer.specs.declared.function.Function.{Function}
use Rattle.query_answer.specs.declared.function.Function.TheVariants.{Aggregate, Coalesce, NullIf, CharLength, RowNumber, Changing, Unknown}
use Rattle.query_answer.specs.Calls.{Call, calls, all_calls, sum_calls, product_calls, when_calls, optional_calls, args_calls, window_calls, aggregate_of, call_of, call_at, call_or}
use Rattle.query_answer.specs.Functions.{function_of}
use Rattle.query_answer.specs.Literals.{number_of, is_null, is_short}
use Rattle.query_answer.specs.Stands.{stands, all_stand, sum_stands, product_stands, whens_stand, otherwise_stands, args_stand, applied}
use Rattle.query_answer.specs.Stands as s
use Rattle.query_answer.specs.Table.{Typed}
use Rattle.query_answer.specs.Table as tab
use Rattle.binding.specs.Checked.{Checked, ◌>>=◌}
use Rattle.binding.specs.Expressions.{Leaf, or_else, unless_null, is_long, sum_length, product_length, form_of, bound, all_bound, sum_bound, product_bound, whens_bound, otherwise_bound, optional_bound, window_bound, args_bound}
use Rattle.binding.specs.Nodes.{Bound}
use Rattle.binding.specs.Nodes as node_of
use Rattle.query_laws.proofs.Nodes as k
use Rattle.query_laws.proofs.Options.{bind, then, tested}

refused : {A B : Type 0} (r : Checked A) (code : ScriptCode) (Q : B → Type 0) → IfOk (r >>= λ _. Err code) Q
refused (Ok x) code Q = tt
refused (Err c) code Q = tt

-- over the rows of the algebra, which R ties to those at which trees are told; `leaf` says what whole nodes stand for, and `b` what they are
-- bound to; C says what is known of the n-th aggregate call
module _ (cols : List ColTy) (R : Row → Row → Type 0) (leaf : s.Leaf) (b : Leaf) (C : ℕ → Call → Type 0) where
  abbrev pub Is : Bound → Typed → Type 0
  Is = k.Is cols R

  abbrev pub AllAre : List Bound → List Typed → Type 0
  AllAre = k.AllAre cols R

  abbrev pub MayBe : Option Bound → Option Typed → Type 0
  MayBe = k.MayBe cols R

  -- the calls from the n-th on
  abbrev pub Known : ℕ → List Call → Type 0
  Known n [] = Unit {0}
  Known n (c ∷ cs) = C n c × Known (suc n) cs

  -- whole nodes are bound to what they stand for
  abbrev pub Leaves : Type 0
  Leaves = (n : ℕ) (x : Tree) → ((c : Call) → call_at x ≡ Some c → C n c) → IfOk (b n x) (λ o. MayBe o (leaf x))

  pub front : (n : ℕ) (cs ds : List Call) → Known n (cs ++ ds) → Known n cs
  front n [] ds h = tt
  front n (c ∷ cs) ds h = (h.0, front (suc n) cs ds h.1)

  pub back : (n : ℕ) (cs ds : List Call) → Known n (cs ++ ds) → Known (n + length cs) ds
  back n [] ds h = let e : n ≡ n + 0 = omega arith in subst (λ m. Known m ds) e h
  back n (c ∷ cs) ds h = let e : suc n + length cs ≡ n + suc (length cs) = omega arith in subst (λ m. Known m ds) e (back (suc n) cs ds h.1)

  -- a node that isn't a call, and one that may be
  no_call : (n : ℕ) (c : Call) → None ≡ Some c → C n c
  no_call n c e = absurd (cc)

  node : (r : Checked (Option Bound)) (o : Option Typed) (x : Checked Bound) (z : Typed) → IfOk r (λ p. MayBe p o) → IfOk x (λ y. Is y z) → IfOk (r >>= or_else x) (λ y. Is y (s.or_else o z))
  node (Err code) o x z h l = tt
  node (Ok None) None x z h l = l
  node (Ok None) (Some w) x z h l = absurd h
  node (Ok (Some y)) None x z h l = absurd h
  node (Ok (Some y)) (Some w) x z h l = h

  -- what is known of a call node, and of the calls in it where it is none
  the_call : (n : ℕ) (o : Option Call) (others : List Call) → Known n (call_or o others) → (c : Call) → o ≡ Some c → C n c
  the_call n None others h c e = absurd (cc)
  the_call n (Some d) others h c e = let i : d ≡ c = cc in subst (λ x. C n x) i h.0

  not_null : (x : Tree) (r : Checked Bound) (z : Typed) → IfOk r (λ y. Is y z) → IfOk (unless_null x r) (λ o. MayBe o (s.unless_null x z))
  not_null x r z h = go (is_null x)
    where
      go : (t : Bool) → IfOk (cond t (Ok None) (r >>= λ y. Ok (Some y))) (λ o. MayBe o (cond t None (Some z)))
      go true = tt
      go false = bind r _ (λ y. Is y z) _ h (λ y p. p)

  abbrev CallRight : ℕ → ℕ → Function → t.Args → t.OptionalTree → t.OptionalOver → Type 0
  CallRight n m f args filter over = IfOk (args_bound b n args >>= λ xs. optional_bound b m filter >>= λ c. window_bound b (m + length (optional_calls filter)) over >>= λ ys. node_of.call f (form_of args filter over) xs) (λ y. Is y (applied f (args_stand leaf args)))

  plain_call : (n m : ℕ) (f : Function) (args : t.Args) (filter : t.OptionalTree) (over : t.OptionalOver) → IfOk (args_bound b n args) (λ xs. AllAre xs (args_stand leaf args)) → CallRight n m f args filter over
  plain_call n m f args filter over h =
      bind (args_bound b n args) _ (λ xs. AllAre xs (args_stand leaf args)) _ h (λ xs p. then (optional_bound b m filter) _ _ (λ o i. then (window_bound b (m + length (optional_calls filter)) over) _ _ (λ ys j. k.call_is cols R f (form_of args filter over) xs (args_stand leaf args) p)))

  -- of the operands of an aggregate nothing is asked, as it is refused
  call_node : (n m : ℕ) (f : Function) (args : t.Args) (filter : t.OptionalTree) (over : t.OptionalOver) (others : List Call)
      → Known n (call_or (option_map (λ c. call_of c args filter) (aggregate_of f over)) (args_calls args ++ others))
      → (Known n (args_calls args) → IfOk (args_bound b n args) (λ xs. AllAre xs (args_stand leaf args)))
      → CallRight n m f args filter over
  call_node n m (Aggregate c) args filter over others h ih =
      then (args_bound b n args) _ _ (λ xs e. then (optional_bound b m filter) _ _ (λ o i. then (window_bound b (m + length (optional_calls filter)) over) _ _ (λ ys j. k.aggregate_is_refused cols R c (form_of args filter over) xs (λ y. Is y (applied (Aggregate c) (args_stand leaf args))))))
  call_node n m Coalesce args filter over others h ih = plain_call n m Coalesce args filter over (ih (front n (args_calls args) others h))
  call_node n m NullIf args filter over others h ih = plain_call n m NullIf args filter over (ih (front n (args_calls args) others h))
  call_node n m CharLength args filter over others h ih = plain_call n m CharLength args filter over (ih (front n (args_calls args) others h))
  call_node n m RowNumber args filter over others h ih = plain_call n m RowNumber args filter over (ih (front n (args_calls args) others h))
  call_node n m Changing args filter over others h ih = plain_call n m Changing args filter over (ih (front n (args_calls args) others h))
  call_node n m Unknown args filter over others h ih = plain_call n m Unknown args filter over (ih (front n (args_calls args) others h))

  mutual
    pub bound_means : Leaves → (x : Tree) (n : ℕ) → Known n (calls x) → IfOk (bound b n x) (λ y. Is y (stands leaf x))
    bound_means h (t.Or xs) n f =
        node (b n (t.Or xs)) _ _ _ (h n (t.Or xs) (no_call n)) (bind (all_bound b n xs) _ (λ ys. AllAre ys (all_stand leaf xs)) _ (all_mean h xs n f) (λ ys p. k.disjunction_is cols R ys (all_stand leaf xs) p))
    bound_means h (t.And xs) n f =
        node (b n (t.And xs)) _ _ _ (h n (t.And xs) (no_call n)) (bind (all_bound b n xs) _ (λ ys. AllAre ys (all_stand leaf xs)) _ (all_mean h xs n f) (λ ys p. k.conjunction_is cols R ys (all_stand leaf xs) p))
    bound_means h (t.Not x) n f =
        node (b n (t.Not x)) _ _ _ (h n (t.Not x) (no_call n)) (bind (bound b n x) _ (λ y. Is y (stands leaf x)) _ (bound_means h x n f) (λ y p. k.negation_is cols R y (stands leaf x) p))
    bound_means h (t.Exists q) n f = node (b n (t.Exists q)) _ _ _ (h n (t.Exists q) (no_call n)) tt
    bound_means h (t.Compare op x y) n f =
        node (b n (t.Compare op x y)) _ _ _ (h n (t.Compare op x y) (no_call n))
        (bind (bound b n x) _ (λ v. Is v (stands leaf x)) _ (bound_means h x n (front n (calls x) (calls y) f)) (λ v p.
        bind (bound b (n + length (calls x)) y) _ (λ w. Is w (stands leaf y)) _ (bound_means h y (n + length (calls x)) (back n (calls x) (calls y) f)) (λ w q.
        k.compare_is cols R op v w (stands leaf x) (stands leaf y) p q)))
    bound_means h (t.IsNull x negated) n f =
        node (b n (t.IsNull x negated)) _ _ _ (h n (t.IsNull x negated) (no_call n))
        (bind (bound b n x >>= node_of.null_test) _ (λ v. Is v (tab.null_test (stands leaf x))) _ (bind (bound b n x) _ (λ v. Is v (stands leaf x)) _ (bound_means h x n f) (λ v p. k.null_test_is cols R v (stands leaf x) p)) (λ v p.
        k.negated_is cols R negated v (tab.null_test (stands leaf x)) p))
    bound_means h (t.Between x low high negated) n f =
        node (b n (t.Between x low high negated)) _ _ _ (h n (t.Between x low high negated) (no_call n))
        (bind (bound b n x) _ (λ v. Is v (stands leaf x)) _ (bound_means h x n (front n (calls x) (calls low ++ calls high) f)) (λ v p.
        bind (bound b (n + length (calls x)) low) _ (λ w. Is w (stands leaf low)) _ (bound_means h low (n + length (calls x)) (front (n + length (calls x)) (calls low) (calls high) (back n (calls x) (calls low ++ calls high) f))) (λ w q.
        bind (bound b (n + length (calls x) + length (calls low)) high) _ (λ u. Is u (stands leaf high)) _ (bound_means h high (n + length (calls x) + length (calls low)) (back (n + length (calls x)) (calls low) (calls high) (back n (calls x) (calls low ++ calls high) f))) (λ u r.
        bind (node_of.between v w u) _ (λ z. Is z (tab.between (stands leaf x) (stands leaf low) (stands leaf high))) _ (k.between_is cols R v w u (stands leaf x) (stands leaf low) (stands leaf high) p q r) (λ z l.
        k.negated_is cols R negated z (tab.between (stands leaf x) (stands leaf low) (stands leaf high)) l)))))
    bound_means h (t.InList x xs negated) n f =
        node (b n (t.InList x xs negated)) _ _ _ (h n (t.InList x xs negated) (no_call n))
        (bind (bound b n x) _ (λ v. Is v (stands leaf x)) _ (bound_means h x n (front n (calls x) (all_calls xs) f)) (λ v p.
        bind (all_bound b (n + length (calls x)) xs) _ (λ ys. AllAre ys (all_stand leaf xs)) _ (all_mean h xs (n + length (calls x)) (back n (calls x) (all_calls xs) f)) (λ ys q.
        bind (node_of.in_list v ys) _ (λ z. Is z (tab.in_list (stands leaf x) (all_stand leaf xs))) _ (k.in_list_is cols R v ys (stands leaf x) (all_stand leaf xs) p q) (λ z l.
        k.negated_is cols R negated z (tab.in_list (stands leaf x) (all_stand leaf xs)) l))))
    bound_means h (t.InQuery x q negated) n f = node (b n (t.InQuery x q negated)) _ _ _ (h n (t.InQuery x q negated) (no_call n)) (refused (bound b n x) Unsupported _)
    bound_means h (t.Like x y negated) n f =
        node (b n (t.Like x y negated)) _ _ _ (h n (t.Like x y negated) (no_call n))
        (bind (bound b n x) _ (λ v. Is v (stands leaf x)) _ (bound_means h x n (front n (calls x) (calls y) f)) (λ v p.
        bind (bound b (n + length (calls x)) y) _ (λ w. Is w (stands leaf y)) _ (bound_means h y (n + length (calls x)) (back n (calls x) (calls y) f)) (λ w q.
        bind (node_of.like v w) _ (λ z. Is z (tab.like (stands leaf x) (stands leaf y))) _ (k.like_is cols R v w (stands leaf x) (stands leaf y) p q) (λ z l.
        k.negated_is cols R negated z (tab.like (stands leaf x) (stands leaf y)) l))))
    bound_means h (t.Sum x xs) n f =
        node (b n (t.Sum x xs)) _ _ _ (h n (t.Sum x xs) (no_call n))
        (tested (is_long (sum_length xs)) Unsupported (bound b n x >>= λ v. sum_bound b (n + length (calls x)) v xs) _
        (bind (bound b n x) _ (λ v. Is v (stands leaf x)) _ (bound_means h x n (front n (calls x) (sum_calls xs) f)) (λ v p.
        sum_means h xs (n + length (calls x)) v (stands leaf x) (back n (calls x) (sum_calls xs) f) p)))
    bound_means h (t.Product x xs) n f =
        node (b n (t.Product x xs)) _ _ _ (h n (t.Product x xs) (no_call n))
        (tested (is_long (product_length xs)) Unsupported (bound b n x >>= λ v. product_bound b (n + length (calls x)) v xs) _
        (bind (bound b n x) _ (λ v. Is v (stands leaf x)) _ (bound_means h x n (front n (calls x) (product_calls xs) f)) (λ v p.
        product_means h xs (n + length (calls x)) v (stands leaf x) (back n (calls x) (product_calls xs) f) p)))
    bound_means h (t.Sign minus x) n f =
        node (b n (t.Sign minus x)) _ _ _ (h n (t.Sign minus x) (no_call n)) (bind (bound b n x) _ (λ v. Is v (stands leaf x)) _ (bound_means h x n f) (λ v p. k.signed_is cols R minus v (stands leaf x) p))
    bound_means h (t.Number text) n f = node (b n (t.Number text)) _ _ _ (h n (t.Number text) (no_call n)) (k.number_is cols R (number_of text))
    bound_means h (t.Str text) n f = node (b n (t.Str text)) _ _ _ (h n (t.Str text) (no_call n)) (short (is_short text))
      where
        short : (t : Bool) → IfOk (cond t (node_of.literal (Words text) Texts) (Err Unsupported)) (λ y. Is y (tab.constant (Words text) Texts))
        short true = k.literal_is cols R (Words text) Texts
        short false = tt
    bound_means h (t.Truth truth) n f = node (b n (t.Truth truth)) _ _ _ (h n (t.Truth truth) (no_call n)) (k.literal_is cols R (Truth truth) Truths)
    bound_means h t.Null n f = node (b n t.Null) _ _ _ (h n t.Null (no_call n)) tt
    bound_means h (t.Name of name quoted) n f = node (b n (t.Name of name quoted)) _ _ _ (h n (t.Name of name quoted) (no_call n)) tt
    bound_means h (t.Call name args filter over) n f =
        node (b n (t.Call name args filter over)) _ _ _ (h n (t.Call name args filter over) (the_call n (call_at (t.Call name args filter over)) (args_calls args ++ (optional_calls filter ++ window_calls over)) f))
        (call_node n (n + length (args_calls args)) (function_of name) args filter over (optional_calls filter ++ window_calls over) f (args_mean h args n))
    bound_means h (t.Cast x ty) n f =
        node (b n (t.Cast x ty)) _ _ _ (h n (t.Cast x ty) (no_call n))
        (bind (unless_null x (bound b n x)) _ (λ o. MayBe o (s.unless_null x (stands leaf x))) _ (not_null x (bound b n x) (stands leaf x) (bound_means h x n f)) (λ o p.
        k.cast_is cols R (type_of ty) o (s.unless_null x (stands leaf x)) p))
    bound_means h (t.Paren x) n f = node (b n (t.Paren x)) _ _ _ (h n (t.Paren x) (no_call n)) (bound_means h x n f)
    bound_means h (t.Sub q) n f = node (b n (t.Sub q)) _ _ _ (h n (t.Sub q) (no_call n)) tt
    bound_means h (t.Case whens otherwise) n f =
        node (b n (t.Case whens otherwise)) _ _ _ (h n (t.Case whens otherwise) (no_call n))
        (bind (whens_bound b n whens) _ (λ bs. k.BranchesAre cols R bs (whens_stand leaf whens)) _ (whens_mean h whens n (front n (when_calls whens) (optional_calls otherwise) f)) (λ bs p.
        bind (otherwise_bound b (n + length (when_calls whens)) otherwise) _ (λ o. k.OtherwiseIs cols R o (otherwise_stands leaf otherwise)) _ (otherwise_means h otherwise (n + length (when_calls whens)) (back n (when_calls whens) (optional_calls otherwise) f)) (λ o q.
        k.case_is cols R bs (whens_stand leaf whens) o (otherwise_stands leaf otherwise) p q)))

    pub all_mean : Leaves → (xs : t.Trees) (n : ℕ) → Known n (all_calls xs) → IfOk (all_bound b n xs) (λ ys. AllAre ys (all_stand leaf xs))
    all_mean h t.no_trees n f = tt
    all_mean h (t.tree_and x xs) n f =
        bind (bound b n x) _ (λ y. Is y (stands leaf x)) _ (bound_means h x n (front n (calls x) (all_calls xs) f)) (λ y p.
        bind (all_bound b (n + length (calls x)) xs) _ (λ ys. AllAre ys (all_stand leaf xs)) _ (all_mean h xs (n + length (calls x)) (back n (calls x) (all_calls xs) f)) (λ ys q. (p, q)))

    pub sum_means : Leaves → (xs : t.SumTails) (n : ℕ) (v : Bound) (z : Typed) → Known n (sum_calls xs) → Is v z → IfOk (sum_bound b n v xs) (λ y. Is y (sum_stands leaf z xs))
    sum_means h t.no_sum_tails n v z f p = p
    sum_means h (t.sum_tail_and (t.sum_tail_of word x) xs) n v z f p =
        bind (bound b n x) _ (λ y. Is y (stands leaf x)) _ (bound_means h x n (front n (calls x) (sum_calls xs) f)) (λ y q.
        bind (node_of.added word v y) _ (λ w. Is w (s.added word z (stands leaf x))) _ (k.added_is cols R word v y z (stands leaf x) p q) (λ w l.
        sum_means h xs (n + length (calls x)) w (s.added word z (stands leaf x)) (back n (calls x) (sum_calls xs) f) l))

    pub product_means : Leaves → (xs : t.ProductTails) (n : ℕ) (v : Bound) (z : Typed) → Known n (product_calls xs) → Is v z → IfOk (product_bound b n v xs) (λ y. Is y (product_stands leaf z xs))
    product_means h t.no_product_tails n v z f p = p
    product_means h (t.product_tail_and (t.product_tail_of word x) xs) n v z f p =
        bind (bound b n x) _ (λ y. Is y (stands leaf x)) _ (bound_means h x n (front n (calls x) (product_calls xs) f)) (λ y q.
        bind (node_of.multiplied word v y) _ (λ w. Is w (s.multiplied word z (stands leaf x))) _ (k.multiplied_is cols R word v y z (stands leaf x) p q) (λ w l.
        product_means h xs (n + length (calls x)) w (s.multiplied word z (stands leaf x)) (back n (calls x) (product_calls xs) f) l))

    pub whens_mean : Leaves → (ws : t.TreeWhens) (n : ℕ) → Known n (when_calls ws) → IfOk (whens_bound b n ws) (λ bs. k.BranchesAre cols R bs (whens_stand leaf ws))
    whens_mean h t.no_tree_whens n f = tt
    whens_mean h (t.tree_when_and (t.tree_when_of c x) ws) n f =
        let first = n + length (calls c) in
        let rest = back n (calls c) (calls x ++ when_calls ws) f in
        bind (bound b n c) _ (λ y. Is y (stands leaf c)) _ (bound_means h c n (front n (calls c) (calls x ++ when_calls ws) f)) (λ y p.
        bind (unless_null x (bound b first x)) _ (λ o. MayBe o (s.unless_null x (stands leaf x))) _ (not_null x (bound b first x) (stands leaf x) (bound_means h x first (front first (calls x) (when_calls ws) rest))) (λ o q.
        bind (whens_bound b (first + length (calls x)) ws) _ (λ bs. k.BranchesAre cols R bs (whens_stand leaf ws)) _ (whens_mean h ws (first + length (calls x)) (back first (calls x) (when_calls ws) rest)) (λ bs l. (p, q, l))))

    pub otherwise_means : Leaves → (o : t.OptionalTree) (n : ℕ) → Known n (optional_calls o) → IfOk (otherwise_bound b n o) (λ p. k.OtherwiseIs cols R p (otherwise_stands leaf o))
    otherwise_means h t.no_tree n f = tt
    otherwise_means h (t.some_tree x) n f =
        bind (unless_null x (bound b n x)) _ (λ o. MayBe o (s.unless_null x (stands leaf x))) _ (not_null x (bound b n x) (stands leaf x) (bound_means h x n f)) (λ o p. p)

    pub args_mean : Leaves → (args : t.Args) (n : ℕ) → Known n (args_calls args) → IfOk (args_bound b n args) (λ ys. AllAre ys (args_stand leaf args))
    args_mean h t.Empty n f = tt
    args_mean h t.Star n f = tt
    args_mean h (t.Values distinct xs) n f = all_mean h xs n f
