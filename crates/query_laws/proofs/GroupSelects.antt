-- A grouped select: a Project, a Group, a Filter for HAVING and a Project.
use Rattle.std.proofs.Common.{◌≡◌, ℕ, suc, ◌+◌, ◌==◌, Bool, true, false, List, [], ◌∷◌, ◌++◌, map, length, take, Option, Some, None, cond, refl, sym, ap, ◌∙◌, subst, option_and_then, option_map, slice_get, unwrap_or, ◌≤◌, arith, length-append, le-leb, eqb-true}
use Rattle.ct_value.specs.Bag.{none}
use Rattle.ct_value.specs.Order.{row_cmp, row_total, row_exact}
use Rattle.ct_value.specs.declared.row.Row.{Row}
use Rattle.ct_change.specs.Changelog.{Rows, same_row}
use Rattle.ct_field.specs.Typed.{is_true}
use Rattle.ct_expr.specs.Expr.{Expr}
use Rattle.ct_expr.specs.Eval.{eval}
use Rattle.rel_algebra.specs.declared.agg.Agg.{Agg}
use Rattle.rel_algebra.specs.Aggregates.{agg_results, agg_types}
use Rattle.rel_algebra.specs.Clauses.{row_of, collect, project_rows}
use Rattle.rel_algebra.specs.Groups.{group_rows, group_columns}
use Rattle.rel_algebra.specs.Sums.{one, mapped, sum_over, Each}
use Rattle.rel_algebra.proofs.laws.Bags.{each-sum_over, each-add, each-none}
use Rattle.rel_algebra.proofs.laws.Clauses.{length-collect}
use Rattle.rel_algebra.specs.Types.{is_boolean}
use Rattle.sql_syntax.specs.Tree.{Tree}
use Rattle.sql_syntax.specs.Tree as t
use Rattle.query_answer.specs.Answer.{Entry, over, some_column}
use Rattle.query_answer.specs.Answer as a
use Rattle.query_answer.specs.Calls.{Call, arguments, filters}
use Rattle.query_answer.specs.Groups.{meanings, key_of, groups_of, members, grouped_rows, filter_if, call_value, call_column}
use Rattle.query_answer.specs.Names.{Scope}
use Rattle.query_answer.specs.Stands.{stands}
use Rattle.query_answer.specs.Table.{Typed}
use Rattle.binding.specs.InGroups.{in_group, BoundCall, bound_arguments, bound_filters}
use Rattle.binding.specs.InGroups as bg
use Rattle.binding.specs.Nodes.{Bound, expr_list}
use Rattle.binding.specs.Queries.{aggs_from}
use Rattle.query_laws.proofs.Bags.{made_one, each_restrict}
use Rattle.query_laws.proofs.Calls.{CallsAre, column_told, arguments_are, filters_are, made, IsMade, PlacesAt, agg_columns, aggs_same}
use Rattle.query_laws.proofs.Clauses.{tys}
use Rattle.query_laws.proofs.Grouped.{meanings_append, meanings_length, key_made, entry, group_made, groups_wide, Alike, Having, filter_rel, filter_none, over_groups}
use Rattle.query_laws.proofs.InGroups.{RowOf, group_cols, told, keys_or_none}
use Rattle.query_laws.proofs.Lists.{map_length, slice_past, slice_before, slice_there, take_front}
use Rattle.query_laws.proofs.Names.{AllAre, all_append}
use Rattle.query_laws.proofs.Nodes as k
use Rattle.query_laws.proofs.Options.{map_append}

-- as many are told as are bound
are_length : (scope : Scope) (ys : List Bound) (zs : List Typed) → AllAre scope ys zs → length zs ≡ length ys
are_length scope [] [] h = refl
are_length scope [] (z ∷ zs) h = absurd h
are_length scope (y ∷ ys) [] h = absurd h
are_length scope (y ∷ ys) (z ∷ zs) h = ap suc (are_length scope ys zs h.1)

no_keys : (keys : List Bound) → (length keys == 0) ≡ bg.has_no_keys keys
no_keys [] = refl
no_keys (x ∷ xs) = go (suc (length xs) == 0) refl
  where
    go : (b : Bool) → (suc (length xs) == 0) ≡ b → b ≡ false
    go true e = absurd (let q = eqb-true (suc (length xs)) 0 e in omega arith)
    go false e = refl

abbrev pub expr_of : Option Bound → Option Expr
expr_of None = None
expr_of (Some v) = Some v.expr

module _ (scope : Scope) (groups : List Tree) (keys : List Bound) (hk : AllAre scope keys (map (over scope) groups)) (cs : List Call) (bcs : List BoundCall) (hb : CallsAre scope (bg.has_no_keys keys) cs bcs) where
  abbrev pub KZ : List Typed
  KZ = map (over scope) groups

  abbrev AZ : List Typed
  AZ = map (over scope) (arguments cs)

  abbrev FZ : List Typed
  FZ = map (over scope) (filters cs)

  abbrev pub ys : List Bound
  ys = keys ++ (bound_arguments bcs ++ bound_filters bcs)

  abbrev pub zs : List Typed
  zs = KZ ++ (AZ ++ FZ)

  pub hz : AllAre scope ys zs
  hz = all_append scope keys (bound_arguments bcs ++ bound_filters bcs) KZ (AZ ++ FZ) hk (all_append scope (bound_arguments bcs) (bound_filters bcs) AZ FZ (arguments_are scope (bg.has_no_keys keys) cs bcs hb) (filters_are scope (bg.has_no_keys keys) cs bcs hb))

  abbrev pub width : ℕ
  width = length keys

  abbrev filters_from : ℕ
  filters_from = width + length (bound_arguments bcs)

  abbrev pub aggs : List Agg
  aggs = aggs_from width filters_from cs

  keys_width : length KZ ≡ width
  keys_width = are_length scope keys KZ hk

  arguments_width : length AZ ≡ length (bound_arguments bcs)
  arguments_width = are_length scope (bound_arguments bcs) AZ (arguments_are scope (bg.has_no_keys keys) cs bcs hb)

  arguments_at : PlacesAt scope ys zs hz width AZ
  arguments_at j z e =
      ap (λ w. slice_get zs (w + j)) (sym keys_width) ∙ slice_past KZ (AZ ++ FZ) j ∙ slice_before AZ FZ j (slice_there AZ j z e) ∙ e

  filters_at : PlacesAt scope ys zs hz filters_from FZ
  filters_at j z e =
      let moved : filters_from + j ≡ length KZ + (length AZ + j) = (let p = keys_width in let q = arguments_width in omega arith) in
      ap (slice_get zs) moved ∙ slice_past KZ (AZ ++ FZ) (length AZ + j) ∙ slice_past AZ FZ j ∙ e

  -- ---- the columns of the Group

  call_column_told : (c : Call) → column_told scope (bg.has_no_keys keys) c ≡ (told scope groups keys hk cs none c).column
  call_column_told c = ap (λ b. call_column b c.call (option_map (over scope) c.arg) (option_map (over scope) c.filter)) (keys_or_none scope keys KZ hk)

  front_types : take width (tys ys) ≡ tys keys
  front_types = ap (take width) (map_append (λ x. x.column) keys (bound_arguments bcs ++ bound_filters bcs)) ∙ take_front (tys keys) (tys (bound_arguments bcs ++ bound_filters bcs)) width (map_length (λ x. x.column) keys)

  enough : width ≤ length (tys ys)
  enough = let p = map_length (λ x. x.column) ys in let q = length-append keys (bound_arguments bcs ++ bound_filters bcs) in omega arith

  pub group_typed : group_columns width (tys ys) aggs ≡ Some (group_cols scope groups keys hk cs none)
  group_typed =
      ap (λ b. cond b (option_map (λ results. take width (tys ys) ++ results) (agg_types (tys ys) (width == 0) aggs)) None) (le-leb width (length (tys ys)) enough)
      ∙ ap (λ b. option_map (λ results. take width (tys ys) ++ results) (agg_types (tys ys) b aggs)) (no_keys keys)
      ∙ ap (option_map (λ results. take width (tys ys) ++ results)) (agg_columns scope ys zs hz (bg.has_no_keys keys) width filters_from cs bcs hb arguments_at filters_at)
      ∙ (λ i. Some (front_types i ++ map (λ c. some_column (call_column_told c i)) cs))

  pub columns_width : length (group_cols scope groups keys hk cs none) ≡ width + length cs
  columns_width = let p = length-append (tys keys) (map (λ c. some_column (told scope groups keys hk cs none c).column) cs) in let l = map_length (λ x. x.column) keys in let m = map_length (λ c. some_column (told scope groups keys hk cs none c).column) cs in omega arith

  -- ---- the rows of the Group

  module _ (rows : Rows) where
    abbrev V : Row → Option Row
    V = row_of (meanings (map (told scope groups keys hk cs rows) cs))

    abbrev gs : Rows
    gs = groups_of (meanings KZ) rows

    abbrev E : Row → Type 0
    E = IsMade scope ys zs hz

    abbrev F : Row → Row
    F = made scope ys zs hz

    key_fact : (x : Row) → E x → (key_of (meanings KZ) x ≡ take width (F x)) × (length (take width (F x)) ≡ width)
    key_fact x p =
        let q = key_made KZ (AZ ++ FZ) x (F x) p in
        (ap (λ o. unwrap_or o []) q.0 ∙ ap (λ w. take w (F x)) keys_width, subst (λ w. length (take w (F x)) ≡ w) keys_width q.1)

    told_values : (ds : List Call) (key : Row) → map (λ f. f key) (meanings (map (told scope groups keys hk cs rows) ds)) ≡ map (λ c. call_value c.call (option_map (over scope) c.arg) (option_map (over scope) c.filter) (members (meanings KZ) key rows)) ds
    told_values [] key = refl
    told_values (d ∷ ds) key = ap (λ vs. call_value d.call (option_map (over scope) d.arg) (option_map (over scope) d.filter) (members (meanings KZ) key rows) ∷ vs) (told_values ds key)

    results_fact : Each E rows → (key : Row) → agg_results (tys ys) aggs (mapped F (members (meanings KZ) key rows)) ≡ V key
    results_fact e key =
        ap collect (aggs_same scope ys zs hz width filters_from cs arguments_at filters_at (members (meanings KZ) key rows) (each_restrict row_total row_exact E (λ row. same_row key (key_of (meanings KZ) row)) rows e)
        ∙ sym (told_values cs key))

    -- where keys and operands are evaluated on all rows
    group_is : Each E rows → group_rows width (agg_results (tys ys) aggs) (mapped F rows) ≡ sum_over (entry V) gs
    group_is e = group_made rows F E e V KZ width (agg_results (tys ys) aggs) keys_width (λ x p. (key_fact x p).0) (results_fact e)

    pub group_answered : option_and_then (group_rows width (agg_results (tys ys) aggs)) (project_rows (meanings zs) rows) ≡ option_and_then (λ _. sum_over (entry V) gs) (project_rows (meanings zs) rows)
    group_answered = go (project_rows (meanings zs) rows) refl
      where
        go : (o : Option Rows) → project_rows (meanings zs) rows ≡ o → option_and_then (group_rows width (agg_results (tys ys) aggs)) o ≡ option_and_then (λ _. sum_over (entry V) gs) o
        go None q = refl
        go (Some m) q = let p = made_one row_total row_exact row_total row_exact (row_of (meanings zs)) [] rows m q in ap (group_rows width (agg_results (tys ys) aggs)) p.0 ∙ group_is p.1

    -- each row has the columns
    pub group_wide : (c : Rows) → option_and_then (λ _. sum_over (entry V) gs) (project_rows (meanings zs) rows) ≡ Some c → Each (λ row. length row ≡ length (group_cols scope groups keys hk cs none)) c
    group_wide c q = go (project_rows (meanings zs) rows) refl q
      where
        values_width : (key vs : Row) → V key ≡ Some vs → length vs ≡ length cs
        values_width key vs e = length-collect (map (λ f. f key) (meanings (map (told scope groups keys hk cs rows) cs))) vs e ∙ map_length (λ f. f key) (meanings (map (told scope groups keys hk cs rows) cs)) ∙ meanings_length (map (told scope groups keys hk cs rows) cs) ∙ map_length (told scope groups keys hk cs rows) cs

        one_wide : (key : Row) → length key ≡ width → (o : Option Row) → V key ≡ o → (d : Rows) → option_map (λ vs. one {R = row_cmp} (key ++ vs)) o ≡ Some d → Each (λ row. length row ≡ length (group_cols scope groups keys hk cs none)) d
        one_wide key l None e d i = absurd (cc)
        one_wide key l (Some vs) e d i =
            let j : one (key ++ vs) ≡ d = cc in
            subst (λ (b : Rows). Each (λ row. length row ≡ length (group_cols scope groups keys hk cs none)) b) j
            (each-add row_total row_exact (λ row. length row ≡ length (group_cols scope groups keys hk cs none)) none (key ++ vs)
            (let p = length-append key vs in let w = values_width key vs e in let u = columns_width in omega arith)
            (each-none row_total row_exact (λ row. length row ≡ length (group_cols scope groups keys hk cs none))))

        go : (o : Option Rows) → project_rows (meanings zs) rows ≡ o → option_and_then (λ _. sum_over (entry V) gs) o ≡ Some c → Each (λ row. length row ≡ length (group_cols scope groups keys hk cs none)) c
        go None p i = absurd (cc)
        go (Some m) p i =
            let made_all = made_one row_total row_exact row_total row_exact (row_of (meanings zs)) [] rows m p in
            each-sum_over row_total row_exact row_total row_exact (λ key. length key ≡ width) (λ row. length row ≡ length (group_cols scope groups keys hk cs none)) (entry V) (λ key d l j. one_wide key l (V key) refl d j) gs
            (groups_wide rows F E made_all.1 V KZ width keys_width (λ x e. ap length (key_fact x e).0 ∙ (key_fact x e).1)) c i

    -- HAVING is BOOLEAN, and means what it stands for
    abbrev pub HavingIs : Option Bound → t.OptionalTree → Type 0
    HavingIs None t.no_tree = Unit {0}
    HavingIs None (t.some_tree x) = ⊥
    HavingIs (Some v) t.no_tree = ⊥
    HavingIs (Some v) (t.some_tree x) = k.Is (group_cols scope groups keys hk cs none) (RowOf scope groups keys hk cs rows) v (stands (a.in_group scope groups rows) x) × (is_boolean (Some v.column) ≡ true)

    -- HAVING and the items over it
    module _ (h : Option Bound) (having : t.OptionalTree) (xs : List Bound) (es : List Entry) where
      abbrev pub ItemsAre : Type 0
      ItemsAre = k.AllAre (group_cols scope groups keys hk cs none) (RowOf scope groups keys hk cs rows) xs (map (λ e. a.listed_in scope groups rows e.listed) es)

      having_alike : (o : Option Bound) (w : t.OptionalTree) → HavingIs o w → Having V width (expr_of o) (a.having_in scope groups rows w)
      having_alike None t.no_tree p = tt
      having_alike None (t.some_tree x) p = absurd p
      having_alike (Some v) t.no_tree p = absurd p
      having_alike (Some v) (t.some_tree x) p = λ key vs l e. ap (option_map is_true) (p.0.2 (key ++ vs) key (vs, refl, l, e))

      items_alike : ItemsAre → Alike V width (row_of (map eval (expr_list xs))) (row_of (meanings (map (λ e. a.listed_in scope groups rows e.listed) es)))
      items_alike p key vs l e = ap collect (go xs (map (λ e. a.listed_in scope groups rows e.listed) es) p)
        where
          go : (ws : List Bound) (us : List Typed) → k.AllAre (group_cols scope groups keys hk cs none) (RowOf scope groups keys hk cs rows) ws us → map (λ f. f (key ++ vs)) (map eval (expr_list ws)) ≡ map (λ f. f key) (meanings us)
          go [] [] p = refl
          go [] (u ∷ us) p = absurd p
          go (w ∷ ws) [] p = absurd p
          go (w ∷ ws) (u ∷ us) p = λ i. p.0.2 (key ++ vs) key (vs, refl, l, e) i ∷ go ws us p.1 i

      operands_told : meanings zs ≡ meanings KZ ++ meanings (map (over scope) (arguments cs ++ filters cs))
      operands_told = meanings_append KZ (AZ ++ FZ) ∙ ap (λ (ws : List Typed). meanings KZ ++ meanings ws) (sym (map_append (over scope) (arguments cs) (filters cs)))

      pub rows_are : HavingIs h having → ItemsAre
          → option_and_then (project_rows (map eval (expr_list xs))) (filter_rel (expr_of h) (option_and_then (group_rows width (agg_results (tys ys) aggs)) (project_rows (meanings zs) rows)))
          ≡ grouped_rows (meanings KZ) (meanings (map (over scope) (arguments cs ++ filters cs))) (meanings (map (told scope groups keys hk cs rows) cs)) (a.having_in scope groups rows having) (meanings (map (λ e. a.listed_in scope groups rows e.listed) es)) rows
      rows_are p q =
          ap (λ o. option_and_then (project_rows (map eval (expr_list xs))) (filter_rel (expr_of h) o)) group_answered
          ∙ go (project_rows (meanings zs) rows) refl
          ∙ ap (λ ms. option_and_then (λ _. option_and_then (λ _. option_and_then (project_rows (meanings (map (λ e. a.listed_in scope groups rows e.listed) es))) (filter_if (a.having_in scope groups rows having) gs)) (project_rows (meanings (map (told scope groups keys hk cs rows) cs)) gs)) (project_rows ms rows)) operands_told
        where
          go : (o : Option Rows) → project_rows (meanings zs) rows ≡ o
              → option_and_then (project_rows (map eval (expr_list xs))) (filter_rel (expr_of h) (option_and_then (λ _. sum_over (entry V) gs) o))
              ≡ option_and_then (λ _. option_and_then (λ _. option_and_then (project_rows (meanings (map (λ e. a.listed_in scope groups rows e.listed) es))) (filter_if (a.having_in scope groups rows having) gs)) (project_rows (meanings (map (told scope groups keys hk cs rows) cs)) gs)) o
          go None i = ap (option_and_then (project_rows (map eval (expr_list xs)))) (filter_none (expr_of h))
          go (Some m) i =
              let made_all = made_one row_total row_exact row_total row_exact (row_of (meanings zs)) [] rows m i in
              over_groups rows F E made_all.1 V width gs (groups_wide rows F E made_all.1 V KZ width keys_width (λ x e. ap length (key_fact x e).0 ∙ (key_fact x e).1))
              (expr_of h) (a.having_in scope groups rows having) (having_alike h having p)
              (map eval (expr_list xs)) (meanings (map (λ e. a.listed_in scope groups rows e.listed) es)) (items_alike q)
