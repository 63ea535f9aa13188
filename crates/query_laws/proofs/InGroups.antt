-- In a grouped select: what a tree is bound to is at a group's row what the tree stands for in the group.
use Rattle.std.proofs.Common.{◌≡◌, ℕ, zero, suc, ◌+◌, Bool, true, false, ◌&&◌, ◌||◌, List, [], ◌∷◌, ◌++◌, map, length, Option, Some, None, cond, Err, IfOk, refl, sym, ap, ◌∙◌, subst, option_map, slice_get, is_some, not, arith}
use Rattle.ct_value.specs.declared.codes.ScriptCode.TheVariants.{NotGrouped, TypeMismatch, Unsupported}
use Rattle.ct_value.specs.declared.row.Row.{Row}
use Rattle.ct_value.specs.declared.ty.ColTy.{ColTy}
use Rattle.ct_value.specs.declared.ty.Ty.{Ty}
use Rattle.ct_value.specs.declared.ty.Ty.TheVariants.{Bool as Truths, Int, BigInt, Decimal, Text as Texts}
use Rattle.ct_value.specs.declared.value.Value.{Value}
use Rattle.ct_change.specs.Changelog.{Rows}
use Rattle.ct_field.specs.Typed.{cell, is_truths}
use Rattle.ct_expr.specs.Types as y
use Rattle.rel_algebra.specs.declared.agg.AggCall.{AggCall}
use Rattle.rel_algebra.specs.Aggregates.{call_type, column_is_truth}
use Rattle.rel_algebra.specs.Clauses.{row_of, collect}
use Rattle.sql_syntax.specs.Tree.{Tree}
use Rattle.sql_syntax.specs.Tree as t
use Rattle.query_answer.specs.declared.scope.Found.{Found}
use Rattle.query_answer.specs.declared.scope.Found.TheVariants.{Absent, At, Several}
use Rattle.query_answer.specs.Answer.{Listed, Placed, Written, NoSource, over, some_column, listed_calls}
use Rattle.query_answer.specs.Answer as a
use Rattle.query_answer.specs.Calls.{Call, calls, call_of, call_at, aggregate_of, agg_call, agg_arg, optional}
use Rattle.query_answer.specs.Functions.{function_of}
use Rattle.query_answer.specs.Groups.{meanings, key_at, call_column, is_condition_if, is_typed_if, has_no_keys}
use Rattle.query_answer.specs.Groups as g
use Rattle.query_answer.specs.Names.{Scope, find, named}
use Rattle.query_answer.specs.Shapes.{shape, place_of, column_shape}
use Rattle.query_answer.specs.Stands.{stands, args_stand, or_else}
use Rattle.query_answer.specs.Table.{Typed, nothing}
use Rattle.binding.specs.Checked.{◌>>=◌, or_code}
use Rattle.binding.specs.Expressions.{names, column, found_column, may_change, bound, bound_over, args_bound, optional_bound, is_distinct}
use Rattle.binding.specs.InGroups.{in_group, key_for, key_column, or_refused, ungrouped, call_bound, call_or_key, has_operands, first_column, column_if}
use Rattle.binding.specs.InGroups as b
use Rattle.binding.specs.Nodes.{Bound, is_count}
use Rattle.binding.specs.Queries.{group_listed}
use Rattle.query_laws.proofs.Bound.{Known, bound_means}
use Rattle.query_laws.proofs.Clauses.{tys}
use Rattle.query_laws.proofs.Lists.{map_length, slice_map, slice_before, slice_past, slice_there, cell_before, cell_past}
use Rattle.query_laws.proofs.Names.{AllAre, column_typed, over_means, args_over}
use Rattle.query_laws.proofs.Names as n
use Rattle.query_laws.proofs.Nodes as k
use Rattle.query_laws.proofs.Options.{bind, tested, some_is, map_parts}

-- ---- values that were collected

-- the n-th value
pub nth_collected : (os : List (Option Value)) (vs : Row) (m : ℕ) (o : Option Value) → collect os ≡ Some vs → slice_get os m ≡ Some o → o ≡ Some (cell m vs)
nth_collected [] vs m o h e = absurd (cc)
nth_collected (None ∷ os) vs m o h e = absurd (cc)
nth_collected (Some v ∷ os) vs m o h e = go m (map_parts (λ ws. v ∷ ws) (collect os) vs h) e (λ ws j p q. nth_collected os ws j o p q)
  where
    go : (m : ℕ) → (ws : Row) × (collect os ≡ Some ws) × ((v ∷ ws) ≡ vs) → slice_get (Some v ∷ os) m ≡ Some o → ((ws : Row) (j : ℕ) → collect os ≡ Some ws → slice_get os j ≡ Some o → o ≡ Some (cell j ws)) → o ≡ Some (cell m vs)
    go zero p e ih = sym (some_is (Some v) o e) ∙ ap (λ ws. Some (cell 0 ws)) p.2
    go (suc m) p e ih = ih p.0 m p.1 e ∙ ap (λ ws. Some (cell (suc m) ws)) p.2

-- ---- what is the same of what is bound and of what is told

pub truth_types : (t : Ty) → is_truths t ≡ y.is_truths t
truth_types Truths = refl
truth_types Int = refl
truth_types BigInt = refl
truth_types (Decimal p s) = refl
truth_types Texts = refl

module _ (scope : Scope) where
  pub keys_or_none : (keys : List Bound) (zs : List Typed) → AllAre scope keys zs → b.has_no_keys keys ≡ has_no_keys zs
  keys_or_none [] [] h = refl
  keys_or_none [] (z ∷ zs) h = absurd h
  keys_or_none (x ∷ xs) [] h = absurd h
  keys_or_none (x ∷ xs) (z ∷ zs) h = refl

  -- a FILTER condition that is BOOLEAN
  condition_same : (o : Option Bound) (p : Option Typed) → n.MayBe scope o p → b.is_condition_if o ≡ is_condition_if p
  condition_same None None h = refl
  condition_same None (Some z) h = absurd h
  condition_same (Some x) None h = absurd h
  condition_same (Some x) (Some z) h = sym (truth_types x.column.ty) ∙ ap column_is_truth (sym h.0)

  there_same : (o : Option Bound) (p : Option Typed) → n.MayBe scope o p → is_some o ≡ is_some p
  there_same None None h = refl
  there_same None (Some z) h = absurd h
  there_same (Some x) None h = absurd h
  there_same (Some x) (Some z) h = refl

  column_same : (o : Option Bound) (p : Option Typed) → n.MayBe scope o p → g.column_of p ≡ b.bound_column o
  column_same None None h = refl
  column_same None (Some z) h = absurd h
  column_same (Some x) None h = absurd h
  column_same (Some x) (Some z) h = h.0

  typed_if : (o : Option Bound) (p : Option Typed) → n.MayBe scope o p → is_typed_if p ≡ true
  typed_if None None h = refl
  typed_if None (Some z) h = absurd h
  typed_if (Some x) None h = absurd h
  typed_if (Some x) (Some z) h = ap is_some h.0

  -- the column of a call, from its operands
  pub call_columns : (global : Bool) (c : AggCall) (o f : Option Bound) (p q : Option Typed) → n.MayBe scope o p → n.MayBe scope f q → call_column global c p q ≡ b.column_of global c o f
  call_columns global c o f p q h l =
      (λ i. cond (sym (condition_same f q l) i && typed_if o p h i) (call_type (global || sym (there_same f q l) i) c (column_same o p h i)) None) ∙ ap (λ t. cond t (call_type (global || is_some f) c (b.bound_column o)) None) (with_true (b.is_condition_if f))
    where
      with_true : (t : Bool) → (t && true) ≡ t
      with_true true = refl
      with_true false = refl

  pub optional_means : (o : Option Tree) → IfOk (b.optional_over scope o) (λ x. n.MayBe scope x (option_map (over scope) o))
  optional_means None = tt
  optional_means (Some x) = bind (bound_over scope x) _ (λ v. n.Is scope v (over scope x)) _ (over_means scope x) (λ v p. p)

  filter_means : (o : t.OptionalTree) → IfOk (optional_bound (names scope) 0 o) (λ x. n.MayBe scope x (option_map (over scope) (optional o)))
  filter_means t.no_tree = tt
  filter_means (t.some_tree x) = bind (bound_over scope x) _ (λ v. n.Is scope v (over scope x)) _ (over_means scope x) (λ v p. p)

  -- the operand of a call that has one, or the star
  abbrev first_bound : List Bound → Option Bound
  first_bound [] = None
  first_bound (x ∷ xs) = Some x

  operand_is : (c : AggCall) (args : t.Args) (xs : List Bound) → AllAre scope xs (args_stand (named (find scope)) args) → has_operands c args ≡ true → n.MayBe scope (first_bound xs) (option_map (over scope) (agg_arg args))
  operand_is c t.Empty xs h e = absurd (cc)
  operand_is c t.Star [] h e = tt
  operand_is c t.Star (x ∷ xs) h e = absurd h
  operand_is c (t.Values distinct t.no_trees) xs h e = absurd (cc)
  operand_is c (t.Values distinct (t.tree_and x t.no_trees)) [] h e = absurd h
  operand_is c (t.Values distinct (t.tree_and x t.no_trees)) (v ∷ vs) h e = h.0
  operand_is c (t.Values distinct (t.tree_and x (t.tree_and w ws))) xs h e = absurd (cc)

  first_columns : (xs : List Bound) → first_column xs ≡ b.bound_column (first_bound xs)
  first_columns [] = refl
  first_columns (x ∷ xs) = refl

module _ (scope : Scope) (groups : List Tree) (keys : List Bound) (hk : AllAre scope keys (map (over scope) groups)) (cs : List Call) (rows : Rows) where
  abbrev pub width : ℕ
  width = length keys

  abbrev pub told : Call → Typed
  told c = a.call_in scope groups rows c

  -- the columns of a group's row: the keys, then the calls
  abbrev pub group_cols : List ColTy
  group_cols = tys keys ++ map (λ c. some_column (told c).column) cs

  -- a group's row is its key with the values of its calls
  abbrev pub RowOf : Row → Row → Type 0
  RowOf r key = (vs : Row) × (r ≡ key ++ vs) × (length key ≡ width) × (row_of (meanings (map told cs)) key ≡ Some vs)

  -- the n-th call is this one
  abbrev pub Nth : ℕ → Call → Type 0
  Nth m c = slice_get cs m ≡ Some c

  abbrev pub Is : Bound → Typed → Type 0
  Is = k.Is group_cols RowOf

  abbrev pub MayBe : Option Bound → Option Typed → Type 0
  MayBe = k.MayBe group_cols RowOf

  -- ---- a key's column

  keys_width : length (tys keys) ≡ width
  keys_width = map_length (λ x. x.column) keys

  key_there : (m : ℕ) (x : Bound) → slice_get keys m ≡ Some x → slice_get group_cols m ≡ Some x.column
  key_there m x e =
      let l = slice_there keys m x e in
      slice_before (tys keys) (map (λ c. some_column (told c).column) cs) m (let q = keys_width in omega arith) ∙ slice_map (λ z. z.column) keys m ∙ ap (option_map (λ z. z.column)) e

  -- a place among the keys, as bound and as told
  abbrev Both : ℕ → Option Bound → Option Typed → Type 0
  Both m None None = Unit {0}
  Both m None (Some z) = ⊥
  Both m (Some x) None = ⊥
  Both m (Some x) (Some z) = (slice_get keys m ≡ Some x) × (z.column ≡ Some x.column)

  both_at : (m : ℕ) → Both m (slice_get keys m) (slice_get (map (over scope) groups) m)
  both_at m = go keys (map (over scope) groups) hk m (λ j x e. e)
    where
      go : (xs : List Bound) (zs : List Typed) → AllAre scope xs zs → (j : ℕ) → ((i : ℕ) (x : Bound) → slice_get xs j ≡ Some x → slice_get keys m ≡ Some x) → Both m (slice_get xs j) (slice_get zs j)
      go [] [] h j f = tt
      go [] (z ∷ zs) h j f = absurd h
      go (x ∷ xs) [] h j f = absurd h
      go (x ∷ xs) (z ∷ zs) h zero f = (f 0 x refl, h.0.0)
      go (x ∷ xs) (z ∷ zs) h (suc j) f = go xs zs h.1 j f

  key_is : (m : ℕ) (o : Option Bound) (p : Option Typed) → Both m o p → MayBe (option_map (λ key. column m key.column) o) (option_map (λ key. record { column = key.column; value = λ group. Some (cell m group) }) p)
  key_is m None None h = tt
  key_is m None (Some z) h = absurd h
  key_is m (Some x) None h = absurd h
  key_is m (Some x) (Some z) h = (
    h.1,
    column_typed group_cols m x.column (key_there m x h.0),
    λ r key q. ap (λ w. Some (cell m w)) q.1 ∙ ap Some (cell_before key q.0 m (let l = slice_there keys m x h.0 in let w : length key ≡ width = q.2 in omega arith)),
  )

  pub key_leaf : (o : Option ℕ) → MayBe (key_column keys o) (key_at (map (over scope) groups) o)
  key_leaf None = tt
  key_leaf (Some m) = key_is m (slice_get keys m) (slice_get (map (over scope) groups) m) (both_at m)

  -- ---- a call's column

  nth_value : (m : ℕ) (c : Call) (key vs : Row) → Nth m c → row_of (meanings (map told cs)) key ≡ Some vs → (told c).value key ≡ Some (cell m vs)
  nth_value m c key vs e h = nth_collected (map (λ f. f key) (meanings (map told cs))) vs m ((told c).value key) h (at_place cs m e)
    where
      at_place : (ds : List Call) (m : ℕ) → slice_get ds m ≡ Some c → slice_get (map (λ f. f key) (meanings (map told ds))) m ≡ Some ((told c).value key)
      at_place [] m e = absurd (cc)
      at_place (d ∷ ds) zero e = ap (λ o. option_map (λ z. (told z).value key) o) e
      at_place (d ∷ ds) (suc m) e = at_place ds m e

  call_is : (m : ℕ) (c : Call) (ty : ColTy) → Nth m c → (told c).column ≡ Some ty → Is (column (width + m) ty) (told c)
  call_is m c ty e h = (
    h,
    column_typed group_cols (width + m) ty
        (ap (λ w. slice_get group_cols (w + m)) (sym keys_width) ∙ slice_past (tys keys) (map (λ c. some_column (told c).column) cs) m ∙ slice_map (λ c. some_column (told c).column) cs m ∙ ap (option_map (λ c. some_column (told c).column)) e ∙ ap (λ o. Some (some_column o)) h),
    λ r key q. ap (λ w. Some (cell (width + m) w)) q.1 ∙ ap Some (cell_past key q.0 width m q.2) ∙ sym (nth_value m c key q.0 e q.3),
  )

  -- its operands being bound
  typed_call : (m : ℕ) (c : AggCall) (args : t.Args) (filter : t.OptionalTree) (xs : List Bound) (f : Option Bound) → Nth m (call_of c args filter)
      → AllAre scope xs (args_stand (named (find scope)) args) → n.MayBe scope f (option_map (over scope) (optional filter))
      → IfOk (b.call_column (b.has_no_keys keys) (width + m) c args xs f) (λ v. Is v (told (call_of c args filter)))
  typed_call m c args filter xs f e h l =
      tested (is_distinct args && not (is_count c)) Unsupported _ _ (made (has_operands c args) (b.is_condition_if f) refl refl)
    where
      made_of : has_operands c args ≡ true → b.is_condition_if f ≡ true → (o : Option ColTy) → call_type (b.has_no_keys keys || is_some f) (agg_call c args) (first_column xs) ≡ o → IfOk (column_if (width + m) o) (λ v. Is v (told (call_of c args filter)))
      made_of p q None i = tt
      made_of p q (Some ty) i =
          call_is m (call_of c args filter) ty e
          (ap (λ t. call_column t (agg_call c args) (option_map (over scope) (agg_arg args)) (option_map (over scope) (optional filter))) (sym (keys_or_none scope keys (map (over scope) groups) hk))
          ∙ call_columns scope (b.has_no_keys keys) (agg_call c args) (first_bound scope xs) f (option_map (over scope) (agg_arg args)) (option_map (over scope) (optional filter)) (operand_is scope c args xs h p) l
          ∙ ap (λ t. cond t (call_type (b.has_no_keys keys || is_some f) (agg_call c args) (b.bound_column (first_bound scope xs))) None) q
          ∙ ap (call_type (b.has_no_keys keys || is_some f) (agg_call c args)) (sym (first_columns scope xs))
          ∙ i)

      made : (p q : Bool) → has_operands c args ≡ p → b.is_condition_if f ≡ q → IfOk (cond (p && q) (column_if (width + m) (call_type (b.has_no_keys keys || is_some f) (agg_call c args) (first_column xs))) (Err TypeMismatch)) (λ v. Is v (told (call_of c args filter)))
      made true true i j = made_of i j (call_type (b.has_no_keys keys || is_some f) (agg_call c args) (first_column xs)) refl
      made true false i j = tt
      made false q i j = tt

  call_means : (m : ℕ) (c : AggCall) (args : t.Args) (filter : t.OptionalTree) → Nth m (call_of c args filter) → IfOk (call_bound scope (b.has_no_keys keys) (width + m) c args filter) (λ v. Is v (told (call_of c args filter)))
  call_means m c args filter e =
      bind (args_bound (names scope) 0 args) _ (λ xs. AllAre scope xs (args_stand (named (find scope)) args)) _ (args_over scope args) (λ xs p.
      bind (optional_bound (names scope) 0 filter) _ (λ f. n.MayBe scope f (option_map (over scope) (optional filter))) _ (filter_means scope filter) (λ f q.
      typed_call m c args filter xs f e p q))

  -- ---- whole nodes

  ungrouped_refused : (changing : Bool) (f : Found) (P : Option Bound → Type 0) → IfOk (found_column changing f >>= ungrouped) P
  ungrouped_refused true Absent P = tt
  ungrouped_refused false Absent P = tt
  ungrouped_refused changing (At m ty) P = tt
  ungrouped_refused changing Several P = tt

  name_leaf : (of : Option t.Text) (name : t.Text) (quoted : Bool) (o : Option Bound) (p : Option Typed) → MayBe o p → IfOk (or_refused scope (t.Name of name quoted) o) (λ v. MayBe v p)
  name_leaf of name quoted None p h = ungrouped_refused (may_change of name quoted) (find scope of name) (λ v. MayBe v p)
  name_leaf of name quoted (Some x) p h = h

  call_leaf : (m : ℕ) (o : Option AggCall) (x : Tree) (args : t.Args) (filter : t.OptionalTree) → ((c : Call) → option_map (λ c. call_of c args filter) o ≡ Some c → Nth m c)
      → IfOk (call_or_key scope groups keys m o x args filter) (λ v. MayBe v (a.call_or_key scope groups rows (option_map (λ c. call_of c args filter) o) x))
  call_leaf m None x args filter h = key_leaf (place_of (find scope) groups (shape (find scope) x))
  call_leaf m (Some c) x args filter h = bind (call_bound scope (b.has_no_keys keys) (width + m) c args filter) _ (λ v. Is v (told (call_of c args filter))) _ (call_means m c args filter (h (call_of c args filter) refl)) (λ v p. p)

  abbrev plain_key : (x : Tree) → MayBe (key_for scope groups keys (shape (find scope) x)) (key_at (map (over scope) groups) (place_of (find scope) groups (shape (find scope) x)))
  plain_key x = key_leaf (place_of (find scope) groups (shape (find scope) x))

  pub leaves : (m : ℕ) (x : Tree) → ((c : Call) → call_at x ≡ Some c → Nth m c) → IfOk (in_group scope groups keys m x) (λ v. MayBe v (a.in_group scope groups rows x))
  leaves m (t.Call name args filter o) h = call_leaf m (aggregate_of (function_of name) o) (t.Call name args filter o) args filter h
  leaves m (t.Name of name quoted) h = name_leaf of name quoted _ _ (plain_key (t.Name of name quoted))
  leaves m (t.Or xs) h = plain_key (t.Or xs)
  leaves m (t.And xs) h = plain_key (t.And xs)
  leaves m (t.Not x) h = plain_key (t.Not x)
  leaves m (t.Exists q) h = plain_key (t.Exists q)
  leaves m (t.Compare op x y) h = plain_key (t.Compare op x y)
  leaves m (t.IsNull x negated) h = plain_key (t.IsNull x negated)
  leaves m (t.Between x low high negated) h = plain_key (t.Between x low high negated)
  leaves m (t.InList x xs negated) h = plain_key (t.InList x xs negated)
  leaves m (t.InQuery x q negated) h = plain_key (t.InQuery x q negated)
  leaves m (t.Like x y negated) h = plain_key (t.Like x y negated)
  leaves m (t.Sum x xs) h = plain_key (t.Sum x xs)
  leaves m (t.Product x xs) h = plain_key (t.Product x xs)
  leaves m (t.Sign minus x) h = plain_key (t.Sign minus x)
  leaves m (t.Number text) h = plain_key (t.Number text)
  leaves m (t.Str text) h = plain_key (t.Str text)
  leaves m (t.Truth truth) h = plain_key (t.Truth truth)
  leaves m t.Null h = plain_key t.Null
  leaves m (t.Cast x ty) h = plain_key (t.Cast x ty)
  leaves m (t.Paren x) h = plain_key (t.Paren x)
  leaves m (t.Sub q) h = plain_key (t.Sub q)
  leaves m (t.Case whens otherwise) h = plain_key (t.Case whens otherwise)

  -- a tree of a grouped select, the m-th call being its first
  pub in_group_means : (m : ℕ) (x : Tree) → Known group_cols RowOf (a.in_group scope groups rows) (in_group scope groups keys) Nth m (calls x) → IfOk (bound (in_group scope groups keys) m x) (λ v. Is v (stands (a.in_group scope groups rows) x))
  in_group_means m x f = bound_means group_cols RowOf (a.in_group scope groups rows) (in_group scope groups keys) Nth leaves x m f

  placed_key : (o : Option Bound) (p : Option Typed) → MayBe o p → IfOk (or_code NotGrouped o) (λ v. Is v (or_else p nothing))
  placed_key None p h = tt
  placed_key (Some x) None h = absurd h
  placed_key (Some x) (Some z) h = h

  pub group_listing : (m : ℕ) (l : Listed) → Known group_cols RowOf (a.in_group scope groups rows) (in_group scope groups keys) Nth m (listed_calls l) → IfOk (group_listed scope groups keys m l) (λ v. Is v (a.listed_in scope groups rows l))
  group_listing m (Placed i) f = placed_key _ _ (key_leaf (place_of (find scope) groups (column_shape i)))
  group_listing m (Written x) f = in_group_means m x f
  group_listing m NoSource f = tt

  -- all calls are the calls
  pub all_known : (m : ℕ) (ds : List Call) → ((j : ℕ) (c : Call) → slice_get ds j ≡ Some c → Nth (m + j) c) → Known group_cols RowOf (a.in_group scope groups rows) (in_group scope groups keys) Nth m ds
  all_known m [] h = tt
  all_known m (d ∷ ds) h = (
    (let e : m + 0 ≡ m = omega arith in subst (λ i. Nth i d) e (h 0 d refl)),
    all_known (suc m) ds (λ j c q. let e : m + suc j ≡ suc m + j = omega arith in subst (λ i. Nth i c) e (h (suc j) c q)),
  )
