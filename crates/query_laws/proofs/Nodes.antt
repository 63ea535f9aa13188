-- Node by node: what a node is bound to is what it stands for, where its operands are.
use Rattle.std.proofs.Common.{◌≡◌, Bool, true, false, ◌&&◌, ◌||◌, not, List, [], ◌∷◌, ◌++◌, map, Option, Some, None, cond, Err, IfOk, refl, sym, ap, ◌∙◌, subst, option_and_then, option_map, ℤ}
use Rattle.ct_value.specs.declared.codes.ScriptCode.{ScriptCode}
use Rattle.ct_value.specs.declared.codes.ScriptCode.TheVariants.{Unsupported, NotGrouped}
use Rattle.ct_value.specs.declared.row.Row.{Row}
use Rattle.ct_value.specs.declared.ty.ColTy.{ColTy}
use Rattle.ct_value.specs.declared.ty.Ty.{Ty}
use Rattle.ct_value.specs.declared.ty.Ty.TheVariants.{Bool as Truths, Text as Texts}
use Rattle.ct_value.specs.declared.value.CompareOp.{CompareOp}
use Rattle.ct_value.specs.declared.value.CompareOp.TheVariants.{Le, Ge}
use Rattle.ct_value.specs.declared.value.Value.{Value}
use Rattle.ct_value.specs.declared.value.Value.TheVariants.{Null, Num}
use Rattle.ct_expr.specs.declared.expr.ArithOp.{ArithOp}
use Rattle.ct_expr.specs.declared.expr.ArithOp.TheVariants.{Add, Sub, Mul}
use Rattle.ct_expr.specs.Eval.{eval, evals, typed_evals, branches, typed as typed_value}
use Rattle.ct_expr.specs.Expr.{Expr, whens, no_expr, some_expr}
use Rattle.ct_expr.specs.Expr as e
use Rattle.ct_expr.specs.Types as y
use Rattle.ct_expr.specs.Types.{type_of, types_of, conds_of, results_of, ty_of, both_of}
use Rattle.ct_expr.specs.Values as v
use Rattle.rel_algebra.specs.declared.agg.AggCall.{AggCall}
use Rattle.sql_syntax.specs.declared.tree.ProductWord.{ProductWord}
use Rattle.sql_syntax.specs.declared.tree.ProductWord.TheVariants.{Times, Divide, Modulo}
use Rattle.sql_syntax.specs.declared.tree.SumWord.{SumWord}
use Rattle.sql_syntax.specs.declared.tree.SumWord.TheVariants.{Plus, Minus, Concat}
use Rattle.query_answer.specs.declared.function.Function.{Function}
use Rattle.query_answer.specs.declared.function.Function.TheVariants.{Aggregate, Coalesce, NullIf, CharLength, RowNumber, Changing, Unknown}
use Rattle.query_answer.specs.Stands as s
use Rattle.query_answer.specs.Table.{Typed, ty_in, columns, values, typed_values}
use Rattle.query_answer.specs.Table as t
use Rattle.binding.specs.Checked.{Checked, ◌>>=◌}
use Rattle.binding.specs.Nodes.{Bound, CallForm, typed, operands}
use Rattle.binding.specs.Nodes as n
use Rattle.query_laws.proofs.Options.{bind, cond_some, tested}
use Rattle.query_laws.proofs.Types.{says}

-- over the rows of the algebra, with these columns; R ties each to the row at which trees are told
module _ (cols : List ColTy) (R : Row → Row → Type 0) where
  -- an expression with its type is what a tree stands for
  abbrev pub Is : Bound → Typed → Type 0
  Is x z = (z.column ≡ Some x.column) × (type_of x.expr cols ≡ Some x.column) × ((r g : Row) → R r g → eval x.expr r ≡ z.value g)

  abbrev pub AllAre : List Bound → List Typed → Type 0
  AllAre [] [] = Unit {0}
  AllAre [] (z ∷ zs) = ⊥
  AllAre (x ∷ xs) [] = ⊥
  AllAre (x ∷ xs) (z ∷ zs) = Is x z × AllAre xs zs

  -- None stands for a literal NULL
  abbrev pub MayBe : Option Bound → Option Typed → Type 0
  MayBe None None = Unit {0}
  MayBe None (Some z) = ⊥
  MayBe (Some x) None = ⊥
  MayBe (Some x) (Some z) = Is x z

  pub ty_is : (x : Bound) (z : Typed) → Is x z → ty_of x.expr ≡ ty_in z.column
  ty_is x z h = says x.expr cols x.column h.1 ∙ ap ty_in (sym h.0)

  -- a node of its type
  pub typed_is : (o : Option ColTy) (x : Expr) (z : Typed) → ((c : ColTy) → o ≡ Some c → type_of x cols ≡ Some c) → z.column ≡ o → ((r g : Row) → R r g → eval x r ≡ z.value g) → IfOk (typed o x) (λ b. Is b z)
  typed_is None x z h k l = tt
  typed_is (Some c) x z h k l = (k, h c refl, l)

  -- its type being that of the table
  node_is : (o : Option ColTy) (x : Expr) (z : Typed) → type_of x cols ≡ o → z.column ≡ o → ((r g : Row) → R r g → eval x r ≡ z.value g) → IfOk (typed o x) (λ b. Is b z)
  node_is o x z h k l = typed_is o x z (λ c i. h ∙ i) k l

  -- ---- lists of operands

  pub columns_are : (xs : List Bound) (zs : List Typed) → AllAre xs zs → columns zs ≡ n.columns xs
  columns_are [] [] h = refl
  columns_are [] (z ∷ zs) h = absurd h
  columns_are (x ∷ xs) [] h = absurd h
  columns_are (x ∷ xs) (z ∷ zs) h = λ i. h.0.0 i ∷ columns_are xs zs h.1 i

  pub types_are : (xs : List Bound) (zs : List Typed) → AllAre xs zs → types_of (operands xs) cols ≡ n.columns xs
  types_are [] [] h = refl
  types_are [] (z ∷ zs) h = absurd h
  types_are (x ∷ xs) [] h = absurd h
  types_are (x ∷ xs) (z ∷ zs) h = λ i. h.0.1 i ∷ types_are xs zs h.1 i

  pub evals_are : (xs : List Bound) (zs : List Typed) → AllAre xs zs → (r g : Row) → R r g → evals (operands xs) r ≡ values zs g
  evals_are [] [] h r g k = refl
  evals_are [] (z ∷ zs) h r g k = absurd h
  evals_are (x ∷ xs) [] h r g k = absurd h
  evals_are (x ∷ xs) (z ∷ zs) h r g k = λ i. h.0.2 r g k i ∷ evals_are xs zs h.1 r g k i

  typed_are : (xs : List Bound) (zs : List Typed) → AllAre xs zs → (r g : Row) → R r g → typed_evals (operands xs) r ≡ typed_values zs g
  typed_are [] [] h r g k = refl
  typed_are [] (z ∷ zs) h r g k = absurd h
  typed_are (x ∷ xs) [] h r g k = absurd h
  typed_are (x ∷ xs) (z ∷ zs) h r g k = λ i. typed_value (ty_is x z h.0 i) (h.0.2 r g k i) ∷ typed_are xs zs h.1 r g k i

  -- ---- literals, signs, sums and products

  pub literal_is : (value : Value) (ty : Ty) → IfOk (n.literal value ty) (λ b. Is b (t.constant value ty))
  literal_is value ty = node_is (y.literal_col value ty) (e.Literal value ty) (t.constant value ty) refl refl (λ r g k. refl)

  pub number_is : (o : Option (ℤ × Ty)) → IfOk (n.number o) (λ b. Is b (s.number o))
  number_is None = tt
  number_is (Some m) = literal_is (Num m.0) m.1

  pub signed_is : (minus : Bool) (x : Bound) (z : Typed) → Is x z → IfOk (n.signed minus x) (λ b. Is b (s.signed minus z))
  signed_is true x z h =
      node_is (y.number_col x.column) (e.Neg x.expr) (t.negative z) (ap (option_and_then y.number_col) h.1) (ap (option_and_then y.number_col) h.0)
      (λ r g k i. v.minus (ty_is x z h i) (h.2 r g k i))
  signed_is false x z h =
      typed_is (y.number_col x.column) x.expr (t.positive z) (λ c i. h.1 ∙ ap Some (cond_some (y.is_number x.column.ty) x.column c i)) (ap (option_and_then y.number_col) h.0) h.2

  pub arith_is : (op : ArithOp) (x w : Bound) (z u : Typed) → Is x z → Is w u → IfOk (n.arith op x w) (λ b. Is b (t.arith op z u))
  arith_is op x w z u h k =
      node_is (y.arith_col op x.column w.column) (e.Arith op x.expr w.expr) (t.arith op z u) (λ i. both_of (y.arith_col op) (h.1 i) (k.1 i)) (λ i. both_of (y.arith_col op) (h.0 i) (k.0 i))
      (λ r g l i. v.arithmetic op (ty_is x z h i) (ty_is w u k i) (h.2 r g l i) (k.2 r g l i))

  pub added_is : (word : SumWord) (x w : Bound) (z u : Typed) → Is x z → Is w u → IfOk (n.added word x w) (λ b. Is b (s.added word z u))
  added_is Plus x w z u h k = arith_is Add x w z u h k
  added_is Minus x w z u h k = arith_is Sub x w z u h k
  added_is Concat x w z u h k =
      node_is (y.texts_col Texts x.column w.column) (e.Concat x.expr w.expr) (t.concat z u) (λ i. both_of (y.texts_col Texts) (h.1 i) (k.1 i)) (λ i. both_of (y.texts_col Texts) (h.0 i) (k.0 i))
      (λ r g l i. v.concatenation (h.2 r g l i) (k.2 r g l i))

  pub multiplied_is : (word : ProductWord) (x w : Bound) (z u : Typed) → Is x z → Is w u → IfOk (n.multiplied word x w) (λ b. Is b (s.multiplied word z u))
  multiplied_is Times x w z u h k = arith_is Mul x w z u h k
  multiplied_is Divide x w z u h k = tt
  multiplied_is Modulo x w z u h k = tt

  -- ---- tests

  pub compare_is : (op : CompareOp) (x w : Bound) (z u : Typed) → Is x z → Is w u → IfOk (n.compare op x w) (λ b. Is b (t.compare op z u))
  compare_is op x w z u h k =
      node_is (y.compare_col x.column w.column) (e.Compare op x.expr w.expr) (t.compare op z u) (λ i. both_of y.compare_col (h.1 i) (k.1 i)) (λ i. both_of y.compare_col (h.0 i) (k.0 i))
      (λ r g l i. v.comparison op (ty_is x z h i) (ty_is w u k i) (h.2 r g l i) (k.2 r g l i))

  pub conjunction_is : (xs : List Bound) (zs : List Typed) → AllAre xs zs → IfOk (n.conjunction xs) (λ b. Is b (t.conjunction zs))
  conjunction_is xs zs h =
      node_is (y.all_truths (n.columns xs)) (e.And (operands xs)) (t.conjunction zs) (ap y.all_truths (types_are xs zs h)) (ap y.all_truths (columns_are xs zs h))
      (λ r g l. ap v.conjunction (evals_are xs zs h r g l))

  pub disjunction_is : (xs : List Bound) (zs : List Typed) → AllAre xs zs → IfOk (n.disjunction xs) (λ b. Is b (t.disjunction zs))
  disjunction_is xs zs h =
      node_is (y.all_truths (n.columns xs)) (e.Or (operands xs)) (t.disjunction zs) (ap y.all_truths (types_are xs zs h)) (ap y.all_truths (columns_are xs zs h))
      (λ r g l. ap v.disjunction (evals_are xs zs h r g l))

  pub negation_is : (x : Bound) (z : Typed) → Is x z → IfOk (n.negation x) (λ b. Is b (t.negation z))
  negation_is x z h = node_is (y.truth_col x.column) (e.Not x.expr) (t.negation z) (ap (option_and_then y.truth_col) h.1) (ap (option_and_then y.truth_col) h.0) (λ r g k i. v.negation (h.2 r g k i))

  pub negated_is : (negated : Bool) (x : Bound) (z : Typed) → Is x z → IfOk (n.negated_if negated x) (λ b. Is b (t.negated_if negated z))
  negated_is true x z h = negation_is x z h
  negated_is false x z h = h

  pub null_test_is : (x : Bound) (z : Typed) → Is x z → IfOk (n.null_test x) (λ b. Is b (t.null_test z))
  null_test_is x z h = node_is (y.null_test_col x.column) (e.IsNull x.expr) (t.null_test z) (ap (option_and_then y.null_test_col) h.1) (ap (option_and_then y.null_test_col) h.0) (λ r g k i. v.null_test (h.2 r g k i))

  pub between_is : (x low high : Bound) (z a b : Typed) → Is x z → Is low a → Is high b → IfOk (n.between x low high) (λ w. Is w (t.between z a b))
  between_is x low high z a b h k l =
      bind (n.compare Ge x low) _ (λ c. Is c (t.compare Ge z a)) _ (compare_is Ge x low z a h k) (λ c p.
      bind (n.compare Le x high) _ (λ d. Is d (t.compare Le z b)) _ (compare_is Le x high z b h l) (λ d q.
      conjunction_is (c ∷ d ∷ []) (t.compare Ge z a ∷ t.compare Le z b ∷ []) (p, (q, tt))))

  pub in_list_is : (x : Bound) (xs : List Bound) (z : Typed) (zs : List Typed) → Is x z → AllAre xs zs → IfOk (n.in_list x xs) (λ b. Is b (t.in_list z zs))
  in_list_is x xs z zs h k =
      node_is (y.in_list_col x.column (n.columns xs)) (e.InList x.expr (operands xs)) (t.in_list z zs)
      (λ i. option_and_then (λ c. y.in_list_col c (types_are xs zs k i)) (h.1 i)) (λ i. option_and_then (λ c. y.in_list_col c (columns_are xs zs k i)) (h.0 i))
      (λ r g l i. v.in_list (ty_is x z h i) (h.2 r g l i) (typed_are xs zs k r g l i))

  pub like_is : (x w : Bound) (z u : Typed) → Is x z → Is w u → IfOk (n.like x w) (λ b. Is b (t.like z u))
  like_is x w z u h k =
      node_is (y.texts_col Truths x.column w.column) (e.Like x.expr w.expr) (t.like z u) (λ i. both_of (y.texts_col Truths) (h.1 i) (k.1 i)) (λ i. both_of (y.texts_col Truths) (h.0 i) (k.0 i))
      (λ r g l i. v.likeness (h.2 r g l i) (k.2 r g l i))

  -- ---- casts and functions

  pub cast_is : (o : Option Ty) (x : Option Bound) (z : Option Typed) → MayBe x z → IfOk (n.cast_to o x) (λ b. Is b (s.cast_to o z))
  cast_is None x z h = tt
  cast_is (Some ty) None None h = literal_is Null ty
  cast_is (Some ty) None (Some z) h = absurd h
  cast_is (Some ty) (Some x) None h = absurd h
  cast_is (Some ty) (Some x) (Some z) h =
      node_is (y.cast_col ty x.column) (e.Cast x.expr ty) (t.cast ty z) (ap (option_and_then (y.cast_col ty)) h.1) (ap (option_and_then (y.cast_col ty)) h.0) (λ r g k i. v.conversion (ty_is x z h i) ty (h.2 r g k i))

  coalesce_is : (xs : List Bound) (zs : List Typed) → AllAre xs zs → IfOk (n.applied Coalesce xs) (λ b. Is b (t.coalesce zs))
  coalesce_is xs zs h =
      node_is (y.gather_some y.coalesce_col (n.columns xs)) (e.Coalesce (operands xs)) (t.coalesce zs) (ap (y.gather_some y.coalesce_col) (types_are xs zs h)) (ap (y.gather_some y.coalesce_col) (columns_are xs zs h))
      (λ r g l. ap v.first_known (evals_are xs zs h r g l))

  null_if_is : (xs : List Bound) (zs : List Typed) → AllAre xs zs → IfOk (n.applied NullIf xs) (λ b. Is b (s.applied NullIf zs))
  null_if_is [] zs h = tt
  null_if_is (x ∷ []) zs h = tt
  null_if_is (x ∷ w ∷ []) [] h = absurd h
  null_if_is (x ∷ w ∷ []) (z ∷ []) h = absurd h.1
  null_if_is (x ∷ w ∷ []) (z ∷ u ∷ []) h =
      node_is (y.null_if_col x.column w.column) (e.NullIf x.expr w.expr) (t.null_if z u) (λ i. both_of y.null_if_col (h.0.1 i) (h.1.0.1 i)) (λ i. both_of y.null_if_col (h.0.0 i) (h.1.0.0 i))
      (λ r g l i. v.null_if (ty_is x z h.0 i) (ty_is w u h.1.0 i) (h.0.2 r g l i) (h.1.0.2 r g l i))
  null_if_is (x ∷ w ∷ []) (z ∷ u ∷ p ∷ q) h = absurd h.1.1
  null_if_is (x ∷ w ∷ p ∷ q) zs h = tt

  length_is : (xs : List Bound) (zs : List Typed) → AllAre xs zs → IfOk (n.applied CharLength xs) (λ b. Is b (s.applied CharLength zs))
  length_is [] zs h = tt
  length_is (x ∷ []) [] h = absurd h
  length_is (x ∷ []) (z ∷ []) h =
      node_is (y.char_length_col x.column) (e.CharLength x.expr) (t.char_length z) (ap (option_and_then y.char_length_col) h.0.1) (ap (option_and_then y.char_length_col) h.0.0) (λ r g k i. v.char_length (h.0.2 r g k i))
  length_is (x ∷ []) (z ∷ u ∷ zs) h = absurd h.1
  length_is (x ∷ w ∷ xs) zs h = tt

  either : {A : Type 0} (b : Bool) (c d : ScriptCode) (P : A → Type 0) → IfOk (cond b (Err c) (Err d)) P
  either true c d P = tt
  either false c d P = tt

  pub aggregate_is_refused : (c : AggCall) (form : CallForm) (xs : List Bound) (P : Bound → Type 0) → IfOk (n.call (Aggregate c) form xs) P
  aggregate_is_refused c form xs P = either (form.over || (form.distinct && not (n.is_count c))) Unsupported NotGrouped P

  scalar : (form : CallForm) (r : Checked Bound) (P : Bound → Type 0) → IfOk r P → IfOk (cond (form.distinct || (form.filter || form.over)) (Err Unsupported) r) P
  scalar form r P h = tested (form.distinct || (form.filter || form.over)) Unsupported r P h

  -- a call whose operands are what theirs are; of an aggregate nothing is asked, as it is refused
  pub call_is : (f : Function) (form : CallForm) (xs : List Bound) (zs : List Typed) → AllAre xs zs → IfOk (n.call f form xs) (λ b. Is b (s.applied f zs))
  call_is (Aggregate c) form xs zs h = aggregate_is_refused c form xs (λ b. Is b (s.applied (Aggregate c) zs))
  call_is Coalesce form xs zs h = scalar form (n.applied Coalesce xs) (λ b. Is b (s.applied Coalesce zs)) (coalesce_is xs zs h)
  call_is NullIf form xs zs h = scalar form (n.applied NullIf xs) (λ b. Is b (s.applied NullIf zs)) (null_if_is xs zs h)
  call_is CharLength form xs zs h = scalar form (n.applied CharLength xs) (λ b. Is b (s.applied CharLength zs)) (length_is xs zs h)
  call_is RowNumber form xs zs h = tt
  call_is Changing form xs zs h = tt
  call_is Unknown form xs zs h = tt

  -- ---- CASE

  abbrev pub BranchesAre : List (Bound × Option Bound) → List (Typed × Option Typed) → Type 0
  BranchesAre [] [] = Unit {0}
  BranchesAre [] (z ∷ zs) = ⊥
  BranchesAre (x ∷ xs) [] = ⊥
  BranchesAre (x ∷ xs) (z ∷ zs) = Is x.0 z.0 × MayBe x.1 z.1 × BranchesAre xs zs

  abbrev pub OtherwiseIs : Option (Option Bound) → Option (Option Typed) → Type 0
  OtherwiseIs None None = Unit {0}
  OtherwiseIs None (Some z) = ⊥
  OtherwiseIs (Some x) None = ⊥
  OtherwiseIs (Some x) (Some z) = MayBe x z

  abbrev PairsAre : List (Bound × Bound) → List (Typed × Typed) → Type 0
  PairsAre [] [] = Unit {0}
  PairsAre [] (z ∷ zs) = ⊥
  PairsAre (x ∷ xs) [] = ⊥
  PairsAre (x ∷ xs) (z ∷ zs) = Is x.0 z.0 × Is x.1 z.1 × PairsAre xs zs

  -- what CASE reads of branches
  conds_are : (xs : List (Bound × Bound)) (zs : List (Typed × Typed)) → PairsAre xs zs → map (λ b. b.0.column) zs ≡ map (λ b. Some b.0.column) xs
  conds_are [] [] h = refl
  conds_are [] (z ∷ zs) h = absurd h
  conds_are (x ∷ xs) [] h = absurd h
  conds_are (x ∷ xs) (z ∷ zs) h = λ i. h.0.0 i ∷ conds_are xs zs h.2 i

  cond_types : (xs : List (Bound × Bound)) (zs : List (Typed × Typed)) → PairsAre xs zs → conds_of (whens (map (λ b. (b.0.expr, b.1.expr)) xs)) cols ≡ map (λ b. Some b.0.column) xs
  cond_types [] [] h = refl
  cond_types [] (z ∷ zs) h = absurd h
  cond_types (x ∷ xs) [] h = absurd h
  cond_types (x ∷ xs) (z ∷ zs) h = λ i. h.0.1 i ∷ cond_types xs zs h.2 i

  results_are : (xs : List (Bound × Bound)) (zs : List (Typed × Typed)) → PairsAre xs zs → map (λ b. b.1.column) zs ≡ map (λ b. Some b.1.column) xs
  results_are [] [] h = refl
  results_are [] (z ∷ zs) h = absurd h
  results_are (x ∷ xs) [] h = absurd h
  results_are (x ∷ xs) (z ∷ zs) h = λ i. h.1.0 i ∷ results_are xs zs h.2 i

  result_types : (xs : List (Bound × Bound)) (zs : List (Typed × Typed)) → PairsAre xs zs → results_of (whens (map (λ b. (b.0.expr, b.1.expr)) xs)) cols ≡ map (λ b. Some b.1.column) xs
  result_types [] [] h = refl
  result_types [] (z ∷ zs) h = absurd h
  result_types (x ∷ xs) [] h = absurd h
  result_types (x ∷ xs) (z ∷ zs) h = λ i. h.1.1 i ∷ result_types xs zs h.2 i

  branch_values : (xs : List (Bound × Bound)) (zs : List (Typed × Typed)) → PairsAre xs zs → (r g : Row) → R r g → branches (whens (map (λ b. (b.0.expr, b.1.expr)) xs)) r ≡ map (λ b. (b.0.value g, b.1.value g)) zs
  branch_values [] [] h r g k = refl
  branch_values [] (z ∷ zs) h r g k = absurd h
  branch_values (x ∷ xs) [] h r g k = absurd h
  branch_values (x ∷ xs) (z ∷ zs) h r g k = λ i. (h.0.2 r g k i, h.1.2 r g k i) ∷ branch_values xs zs h.2 r g k i

  choice_is : (xs : List (Bound × Bound)) (zs : List (Typed × Typed)) (o : Option Bound) (p : Option Typed) → PairsAre xs zs → MayBe o p → IfOk (n.choice xs o) (λ b. Is b (t.choice zs p))
  choice_is xs zs None None h k =
      node_is _ (e.Case (whens (map (λ b. (b.0.expr, b.1.expr)) xs)) no_expr) (t.choice zs None)
      (λ i. option_and_then (λ _. option_and_then y.or_null (y.gather_some y.case_col (result_types xs zs h i))) (y.all_truths (cond_types xs zs h i)))
      (λ i. option_and_then (λ _. option_and_then y.or_null (y.gather_some y.case_col (results_are xs zs h i))) (y.all_truths (conds_are xs zs h i)))
      (λ r g l i. v.first_chosen (branch_values xs zs h r g l i) (Some Null))
  choice_is xs zs None (Some z) h k = absurd k
  choice_is xs zs (Some x) None h k = absurd k
  choice_is xs zs (Some x) (Some z) h k =
      node_is _ (e.Case (whens (map (λ b. (b.0.expr, b.1.expr)) xs)) (some_expr x.expr)) (t.choice zs (Some z))
      (λ i. option_and_then (λ _. both_of y.case_col (y.gather_some y.case_col (result_types xs zs h i)) (k.1 i)) (y.all_truths (cond_types xs zs h i)))
      (λ i. option_and_then (λ _. both_of y.case_col (y.gather_some y.case_col (results_are xs zs h i)) (k.0 i)) (y.all_truths (conds_are xs zs h i)))
      (λ r g l i. v.first_chosen (branch_values xs zs h r g l i) (k.2 r g l i))

  -- a literal NULL becomes one of the common type
  or_null_is : (common : Option ColTy) (o : Option Bound) (p : Option Typed) → MayBe o p → IfOk (n.or_null_of common o) (λ b. Is b (t.or_null_of common p))
  or_null_is None None None h = tt
  or_null_is (Some c) None None h = literal_is Null c.ty
  or_null_is common None (Some z) h = absurd h
  or_null_is common (Some x) None h = absurd h
  or_null_is common (Some x) (Some z) h = h

  with_nulls_are : (common : Option ColTy) (xs : List (Bound × Option Bound)) (zs : List (Typed × Option Typed)) → BranchesAre xs zs → IfOk (n.with_nulls common xs) (λ bs. PairsAre bs (map (λ b. (b.0, t.or_null_of common b.1)) zs))
  with_nulls_are common [] [] h = tt
  with_nulls_are common [] (z ∷ zs) h = absurd h
  with_nulls_are common (x ∷ xs) [] h = absurd h
  with_nulls_are common (x ∷ xs) (z ∷ zs) h =
      bind (n.or_null_of common x.1) _ (λ b. Is b (t.or_null_of common z.1)) _ (or_null_is common x.1 z.1 h.1) (λ b p.
      bind (n.with_nulls common xs) _ (λ bs. PairsAre bs (map (λ b. (b.0, t.or_null_of common b.1)) zs)) _ (with_nulls_are common xs zs h.2) (λ bs q.
      (h.0, p, q)))

  otherwise_is : (common : Option ColTy) (o : Option (Option Bound)) (p : Option (Option Typed)) → OtherwiseIs o p → IfOk (n.otherwise_with_null common o) (λ b. MayBe b (option_map (t.or_null_of common) p))
  otherwise_is common None None h = tt
  otherwise_is common None (Some z) h = absurd h
  otherwise_is common (Some x) None h = absurd h
  otherwise_is common (Some x) (Some z) h = bind (n.or_null_of common x) _ (λ b. Is b (t.or_null_of common z)) _ (or_null_is common x z h) (λ b q. q)

  -- the columns of the results that aren't NULL
  with_known : (o : Option Bound) (p : Option Typed) (os : List (Option Bound)) (ps : List (Option Typed)) → MayBe o p → t.known_columns ps ≡ n.known_columns os → t.known_columns (p ∷ ps) ≡ n.known_columns (o ∷ os)
  with_known None None os ps h k = k
  with_known None (Some z) os ps h k = absurd h
  with_known (Some x) None os ps h k = absurd h
  with_known (Some x) (Some z) os ps h k = λ i. h.0 i ∷ k i

  known_are : (xs : List (Bound × Option Bound)) (zs : List (Typed × Option Typed)) (os : List (Option Bound)) (ps : List (Option Typed)) → BranchesAre xs zs → t.known_columns ps ≡ n.known_columns os
      → t.known_columns (map (λ b. b.1) zs ++ ps) ≡ n.known_columns (map (λ b. b.1) xs ++ os)
  known_are [] [] os ps h k = k
  known_are [] (z ∷ zs) os ps h k = absurd h
  known_are (x ∷ xs) [] os ps h k = absurd h
  known_are (x ∷ xs) (z ∷ zs) os ps h k = with_known x.1 z.1 (map (λ b. b.1) xs ++ os) (map (λ b. b.1) zs ++ ps) h.1 (known_are xs zs os ps h.2 k)

  known_all : (xs : List (Bound × Option Bound)) (zs : List (Typed × Option Typed)) (o : Option (Option Bound)) (p : Option (Option Typed)) → BranchesAre xs zs → OtherwiseIs o p
      → t.known_columns (t.results_of zs p) ≡ n.known_columns (n.results_of xs o)
  known_all xs zs None None h k = plain xs zs h
    where
      plain : (xs : List (Bound × Option Bound)) (zs : List (Typed × Option Typed)) → BranchesAre xs zs → t.known_columns (map (λ b. b.1) zs) ≡ n.known_columns (map (λ b. b.1) xs)
      plain [] [] h = refl
      plain [] (z ∷ zs) h = absurd h
      plain (x ∷ xs) [] h = absurd h
      plain (x ∷ xs) (z ∷ zs) h = with_known x.1 z.1 (map (λ b. b.1) xs) (map (λ b. b.1) zs) h.1 (plain xs zs h.2)
  known_all xs zs None (Some z) h k = absurd k
  known_all xs zs (Some x) None h k = absurd k
  known_all xs zs (Some x) (Some z) h k = known_are xs zs (x ∷ []) (z ∷ []) h (with_known x z [] [] k refl)

  pub case_is : (xs : List (Bound × Option Bound)) (zs : List (Typed × Option Typed)) (o : Option (Option Bound)) (p : Option (Option Typed)) → BranchesAre xs zs → OtherwiseIs o p → IfOk (n.case xs o) (λ b. Is b (t.case zs p))
  case_is xs zs o p h k = go (y.gather_some y.case_col (t.known_columns (t.results_of zs p))) (ap (y.gather_some y.case_col) (known_all xs zs o p h k))
    where
      made : Option ColTy → Checked Bound
      made common = n.with_nulls common xs >>= λ bs. n.otherwise_with_null common o >>= λ b. n.choice bs b

      told : Option ColTy → Typed
      told common = t.choice (map (λ b. (b.0, t.or_null_of common b.1)) zs) (option_map (t.or_null_of common) p)

      same : (common : Option ColTy) → IfOk (made common) (λ b. Is b (told common))
      same common =
          bind (n.with_nulls common xs) _ (λ bs. PairsAre bs (map (λ b. (b.0, t.or_null_of common b.1)) zs)) _ (with_nulls_are common xs zs h) (λ bs q.
          bind (n.otherwise_with_null common o) _ (λ b. MayBe b (option_map (t.or_null_of common) p)) _ (otherwise_is common o p k) (λ b l.
          choice_is bs (map (λ b. (b.0, t.or_null_of common b.1)) zs) b (option_map (t.or_null_of common) p) q l))

      go : (common : Option ColTy) → common ≡ y.gather_some y.case_col (n.known_columns (n.results_of xs o)) → IfOk (made (y.gather_some y.case_col (n.known_columns (n.results_of xs o)))) (λ b. Is b (told common))
      go common q = subst (λ c. IfOk (made c) (λ b. Is b (told common))) q (same common)
