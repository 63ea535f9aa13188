-- The aggregates of a Group are the calls of its select.
use Rattle.std.proofs.Common.{◌≡◌, ℕ, zero, suc, ◌+◌, Bool, ◌&&◌, ◌||◌, List, [], ◌∷◌, map, Option, Some, None, cond, Ok, IfOk, refl, sym, ap, ◌∙◌, subst, option_map, slice_get, is_some, unwrap_or, arith}
use Rattle.ct_value.specs.Order.{row_cmp, row_total, row_exact, value_total, value_exact}
use Rattle.ct_value.specs.declared.codes.ScriptCode.TheVariants.{TypeMismatch}
use Rattle.ct_value.specs.declared.row.Row.{Row}
use Rattle.ct_value.specs.declared.ty.ColTy.{ColTy}
use Rattle.ct_value.specs.declared.value.Value.TheVariants.{Null}
use Rattle.ct_change.specs.Changelog.{Rows}
use Rattle.ct_field.specs.Typed.{cell, is_true}
use Rattle.rel_algebra.specs.Aggregates.{Values, agg_value, agg_result, agg_type, agg_types, call_type, column_before, column_is_truth, ty_or_bigint, type_in, argument, passes, filter_fits, arg_fits}
use Rattle.rel_algebra.specs.Clauses.{row_of}
use Rattle.rel_algebra.specs.Sums.{Each, mapped, restrict}
use Rattle.sql_syntax.specs.Tree.{Tree}
use Rattle.query_answer.specs.Answer.{over, some_column}
use Rattle.query_answer.specs.Calls.{Call, arguments, filters, with_tree}
use Rattle.query_answer.specs.Groups.{meanings, taken, counts, column_of, is_condition_if, is_typed_if, call_column, call_value}
use Rattle.query_answer.specs.Names.{Scope}
use Rattle.query_answer.specs.Table.{Typed}
use Rattle.binding.specs.Checked.{◌>>=◌, or_code}
use Rattle.binding.specs.InGroups.{BoundCall, optional_over, operands_bound, calls_bound, bound_arguments, bound_filters, with_bound}
use Rattle.binding.specs.InGroups as b
use Rattle.binding.specs.Nodes.{Bound}
use Rattle.binding.specs.Queries.{aggs_from, place_if, next}
use Rattle.query_laws.proofs.Bags.{restrict_mapped, mapped_mapped, mapped_same, restrict_same, each_restrict, each_map}
use Rattle.query_laws.proofs.Clauses.{tys}
use Rattle.query_laws.proofs.InGroups.{nth_collected, call_columns, optional_means}
use Rattle.query_laws.proofs.Names.{AllAre, MayBe}
use Rattle.query_laws.proofs.Options.{bind}

module _ (scope : Scope) (global : Bool) where
  -- the column of a call by its operands
  abbrev pub column_told : Call → Option ColTy
  column_told c = call_column global c.call (option_map (over scope) c.arg) (option_map (over scope) c.filter)

  -- ---- what the calls of a select are bound to

  abbrev pub CallIs : Call → BoundCall → Type 0
  CallIs c x = MayBe scope x.arg (option_map (over scope) c.arg) × MayBe scope x.filter (option_map (over scope) c.filter) × (column_told c ≡ Some x.column)

  abbrev pub CallsAre : List Call → List BoundCall → Type 0
  CallsAre [] [] = Unit {0}
  CallsAre [] (x ∷ xs) = ⊥
  CallsAre (c ∷ cs) [] = ⊥
  CallsAre (c ∷ cs) (x ∷ xs) = CallIs c x × CallsAre cs xs

  call_means : (c : Call) → IfOk (operands_bound scope global c) (CallIs c)
  call_means c =
      bind (optional_over scope c.arg) _ (λ x. MayBe scope x (option_map (over scope) c.arg)) _ (optional_means scope c.arg) (λ arg p.
      bind (optional_over scope c.filter) _ (λ x. MayBe scope x (option_map (over scope) c.filter)) _ (optional_means scope c.filter) (λ filter q.
      typed_call arg filter p q (b.column_of global c.call arg filter) refl))
    where
      typed_call : (arg filter : Option Bound) → MayBe scope arg (option_map (over scope) c.arg) → MayBe scope filter (option_map (over scope) c.filter) → (o : Option ColTy) → b.column_of global c.call arg filter ≡ o
          → IfOk (or_code TypeMismatch o >>= λ ty. Ok (record { arg = arg; filter = filter; column = ty })) (CallIs c)
      typed_call arg filter p q None e = tt
      typed_call arg filter p q (Some ty) e = (p, q, call_columns scope global c.call arg filter (option_map (over scope) c.arg) (option_map (over scope) c.filter) p q ∙ e)

  pub calls_mean : (cs : List Call) → IfOk (calls_bound scope global cs) (CallsAre cs)
  calls_mean [] = tt
  calls_mean (c ∷ cs) = bind (operands_bound scope global c) _ (CallIs c) _ (call_means c) (λ x p. bind (calls_bound scope global cs) _ (CallsAre cs) _ (calls_mean cs) (λ xs q. (p, q)))

  one_more : (o : Option Bound) (p : Option Tree) (xs : List Bound) (ts : List Tree) → MayBe scope o (option_map (over scope) p) → AllAre scope xs (map (over scope) ts) → AllAre scope (with_bound o xs) (map (over scope) (with_tree p ts))
  one_more None None xs ts h l = l
  one_more None (Some x) xs ts h l = absurd h
  one_more (Some y) None xs ts h l = absurd h
  one_more (Some y) (Some x) xs ts h l = (h, l)

  pub arguments_are : (cs : List Call) (xs : List BoundCall) → CallsAre cs xs → AllAre scope (bound_arguments xs) (map (over scope) (arguments cs))
  arguments_are [] [] h = tt
  arguments_are [] (x ∷ xs) h = absurd h
  arguments_are (c ∷ cs) [] h = absurd h
  arguments_are (c ∷ cs) (x ∷ xs) h = one_more x.arg c.arg (bound_arguments xs) (arguments cs) h.0.0 (arguments_are cs xs h.1)

  pub filters_are : (cs : List Call) (xs : List BoundCall) → CallsAre cs xs → AllAre scope (bound_filters xs) (map (over scope) (filters cs))
  filters_are [] [] h = tt
  filters_are [] (x ∷ xs) h = absurd h
  filters_are (c ∷ cs) [] h = absurd h
  filters_are (c ∷ cs) (x ∷ xs) h = one_more x.filter c.filter (bound_filters xs) (filters cs) h.0.1 (filters_are cs xs h.1)

-- ---- keys, arguments and conditions on every row

-- what is bound and what is told at one place
pub types_at : (scope : Scope) (ys : List Bound) (zs : List Typed) → AllAre scope ys zs → (m : ℕ) (z : Typed) → slice_get zs m ≡ Some z → slice_get (tys ys) m ≡ z.column
types_at scope [] [] h m z e = absurd (cc)
types_at scope [] (u ∷ zs) h m z e = absurd h
types_at scope (y ∷ ys) [] h m z e = absurd h
types_at scope (y ∷ ys) (u ∷ zs) h zero z e = let i : u ≡ z = cc in sym h.0.0 ∙ ap (λ w. w.column) i
types_at scope (y ∷ ys) (u ∷ zs) h (suc m) z e = types_at scope ys zs h.1 m z e

meanings_at : (zs : List Typed) (x : Row) (m : ℕ) (z : Typed) → slice_get zs m ≡ Some z → slice_get (map (λ f. f x) (meanings zs)) m ≡ Some (z.value x)
meanings_at [] x m z e = absurd (cc)
meanings_at (u ∷ zs) x zero z e = let i : u ≡ z = cc in ap (λ w. Some (w.value x)) i
meanings_at (u ∷ zs) x (suc m) z e = meanings_at zs x m z e

module _ (scope : Scope) (ys : List Bound) (zs : List Typed) (h : AllAre scope ys zs) where
  -- the row of all their values
  abbrev pub made : Row → Row
  made x = unwrap_or (row_of (meanings zs) x) []

  -- all are evaluated on the row
  abbrev pub IsMade : Row → Type 0
  IsMade x = row_of (meanings zs) x ≡ Some (made x)

  abbrev pub PlacesAt : ℕ → List Typed → Type 0
  PlacesAt m ws = (j : ℕ) (z : Typed) → slice_get ws j ≡ Some z → slice_get zs (m + j) ≡ Some z

  at_first : (m : ℕ) (z : Typed) (ws : List Typed) → PlacesAt m (z ∷ ws) → slice_get zs m ≡ Some z
  at_first m z ws k = let e : m + 0 ≡ m = omega arith in subst (λ i. slice_get zs i ≡ Some z) e (k 0 z refl)

  at_others : (m : ℕ) (z : Typed) (ws : List Typed) → PlacesAt m (z ∷ ws) → PlacesAt (suc m) ws
  at_others m z ws k = λ j w e. let i : m + suc j ≡ suc m + j = omega arith in subst (λ l. slice_get zs l ≡ Some w) i (k (suc j) w e)

  -- an operand's type and value
  operand_type : (m : ℕ) (o : Option Tree) (ts : List Tree) → PlacesAt m (map (over scope) (with_tree o ts)) → type_in (tys ys) (place_if m o) ≡ column_of (option_map (over scope) o)
  operand_type m None ts k = refl
  operand_type m (Some x) ts k = types_at scope ys zs h m (over scope x) (at_first m (over scope x) (map (over scope) ts) k)

  operand_value : (m : ℕ) (z : Typed) → slice_get zs m ≡ Some z → (x : Row) → IsMade x → unwrap_or (z.value x) Null ≡ cell m (made x)
  operand_value m z e x p = ap (λ o. unwrap_or o Null) (nth_collected (map (λ f. f x) (meanings zs)) (made x) m (z.value x) p (meanings_at zs x m z e))

  argument_same : (m : ℕ) (o : Option Tree) (ts : List Tree) → PlacesAt m (map (over scope) (with_tree o ts)) → (x : Row) → IsMade x → argument (place_if m o) (made x) ≡ taken (option_map (over scope) o) x
  argument_same m None ts k x p = refl
  argument_same m (Some t) ts k x p = sym (operand_value m (over scope t) (at_first m (over scope t) (map (over scope) ts) k) x p)

  passes_same : (m : ℕ) (o : Option Tree) (ts : List Tree) → PlacesAt m (map (over scope) (with_tree o ts)) → (x : Row) → IsMade x → passes (place_if m o) (made x) ≡ counts (option_map (over scope) o) x
  passes_same m None ts k x p = refl
  passes_same m (Some t) ts k x p = ap is_true (sym (operand_value m (over scope t) (at_first m (over scope t) (map (over scope) ts) k) x p))

  filter_same : (m : ℕ) (o : Option Tree) (ts : List Tree) → PlacesAt m (map (over scope) (with_tree o ts)) → filter_fits (tys ys) (place_if m o) ≡ is_condition_if (option_map (over scope) o)
  filter_same m None ts k = refl
  filter_same m (Some x) ts k = ap column_is_truth (types_at scope ys zs h m (over scope x) (at_first m (over scope x) (map (over scope) ts) k))

  arg_same : (m : ℕ) (o : Option Tree) (ts : List Tree) → PlacesAt m (map (over scope) (with_tree o ts)) → arg_fits (tys ys) (place_if m o) ≡ is_typed_if (option_map (over scope) o)
  arg_same m None ts k = refl
  arg_same m (Some x) ts k = ap is_some (types_at scope ys zs h m (over scope x) (at_first m (over scope x) (map (over scope) ts) k))

  has_same : (m : ℕ) (o : Option Tree) → is_some (place_if m o) ≡ is_some (option_map (over scope) o)
  has_same m None = refl
  has_same m (Some x) = refl

  next_places : (m : ℕ) (o : Option Tree) (ts : List Tree) → PlacesAt m (map (over scope) (with_tree o ts)) → PlacesAt (next m o) (map (over scope) ts)
  next_places m None ts k = k
  next_places m (Some x) ts k = at_others m (over scope x) (map (over scope) ts) k

  -- a call's aggregate has its column
  agg_column : (global : Bool) (m n : ℕ) (c : Call) (ts us : List Tree) → PlacesAt m (map (over scope) (with_tree c.arg ts)) → PlacesAt n (map (over scope) (with_tree c.filter us))
      → agg_type (tys ys) global (record { call = c.call; arg = place_if m c.arg; filter = place_if n c.filter }) ≡ column_told scope global c
  agg_column global m n c ts us k l i =
      cond (filter_same n c.filter us l i && arg_same m c.arg ts k i) (call_type (global || has_same n c.filter i) c.call (operand_type m c.arg ts k i)) None

  pub agg_columns : (global : Bool) (m n : ℕ) (cs : List Call) (xs : List BoundCall) → CallsAre scope global cs xs → PlacesAt m (map (over scope) (arguments cs)) → PlacesAt n (map (over scope) (filters cs))
      → agg_types (tys ys) global (aggs_from m n cs) ≡ Some (map (λ c. some_column (column_told scope global c)) cs)
  agg_columns global m n [] [] p k l = refl
  agg_columns global m n [] (x ∷ xs) p k l = absurd p
  agg_columns global m n (c ∷ cs) [] p k l = absurd p
  agg_columns global m n (c ∷ cs) (x ∷ xs) p k l =
      let first = agg_column global m n c (arguments cs) (filters cs) k l ∙ p.0.2 in
      let others = agg_columns global (next m c.arg) (next n c.filter) cs xs p.1 (next_places m c.arg (arguments cs) k) (next_places n c.filter (filters cs) l) in
      (λ i. column_before (first i) (others i)) ∙ ap (λ z. Some (z ∷ map (λ c. some_column (column_told scope global c)) cs)) (ap some_column (sym p.0.2))

  -- and its value over rows
  agg_same : (m n : ℕ) (c : Call) (ts us : List Tree) → PlacesAt m (map (over scope) (with_tree c.arg ts)) → PlacesAt n (map (over scope) (with_tree c.filter us)) → (rows : Rows) → Each IsMade rows
      → agg_result (tys ys) (mapped {S = row_cmp} made rows) (record { call = c.call; arg = place_if m c.arg; filter = place_if n c.filter })
      ≡ call_value c.call (option_map (over scope) c.arg) (option_map (over scope) c.filter) rows
  agg_same m n c ts us k l rows e i = agg_value c.call (ty_or_bigint (operand_type m c.arg ts k i)) (values_same i)
    where
      argT : Option Typed
      argT = option_map (over scope) c.arg

      filterT : Option Typed
      filterT = option_map (over scope) c.filter

      values_same : ◌≡◌ {A = Values} (mapped (argument (place_if m c.arg)) (restrict (passes (place_if n c.filter)) (mapped {S = row_cmp} made rows))) (mapped (taken (option_map (over scope) c.arg)) (restrict (counts (option_map (over scope) c.filter)) rows))
      values_same =
          ap (mapped (argument (place_if m c.arg))) (restrict_mapped row_total row_exact row_total row_exact (passes (place_if n c.filter)) made rows)
          ∙ mapped_mapped row_total row_exact row_total row_exact value_total value_exact (argument (place_if m c.arg)) made (restrict (λ x. passes (place_if n c.filter) (made x)) rows)
          ∙ mapped_same row_total row_exact value_total value_exact (λ x. argument (place_if m c.arg) (made x)) (taken (option_map (over scope) c.arg)) (restrict (λ x. passes (place_if n c.filter) (made x)) rows)
          (each_map IsMade _ (λ x p. argument_same m c.arg ts k x p) (restrict (λ x. passes (place_if n c.filter) (made x)) rows) (each_restrict row_total row_exact IsMade (λ x. passes (place_if n c.filter) (made x)) rows e))
          ∙ ap (mapped (taken (option_map (over scope) c.arg))) (restrict_same row_total row_exact (λ x. passes (place_if n c.filter) (made x)) (counts (option_map (over scope) c.filter)) rows (each_map IsMade _ (λ x p. passes_same n c.filter us l x p) rows e))

  pub aggs_same : (m n : ℕ) (cs : List Call) → PlacesAt m (map (over scope) (arguments cs)) → PlacesAt n (map (over scope) (filters cs)) → (rows : Rows) → Each IsMade rows
      → map (agg_result (tys ys) (mapped {S = row_cmp} made rows)) (aggs_from m n cs) ≡ map (λ c. call_value c.call (option_map (over scope) c.arg) (option_map (over scope) c.filter) rows) cs
  aggs_same m n [] k l rows e = refl
  aggs_same m n (c ∷ cs) k l rows e =
      λ i. agg_same m n c (arguments cs) (filters cs) k l rows e i ∷ aggs_same (next m c.arg) (next n c.filter) cs (next_places m c.arg (arguments cs) k) (next_places n c.filter (filters cs) l) rows e i
