-- A grouped select is bound to the algebra whose answer is that of the select.
use Rattle.std.proofs.Common.{◌≡◌, ℕ, ◌+◌, true, List, [], map, length, Option, Some, None, Ok, IfOk, refl, sym, ap, ◌∙◌, subst, option_and_then, slice_get, unwrap_or, arith}
use Rattle.std.specs.Prelude.{flat_map}
use Rattle.ct_value.specs.Bag.{none}
use Rattle.ct_value.specs.declared.codes.ScriptCode.TheVariants.{TypeMismatch}
use Rattle.ct_value.specs.declared.row.Row.{Row}
use Rattle.ct_value.specs.declared.ty.ColTy.{ColTy}
use Rattle.ct_change.specs.Changelog.{Rows}
use Rattle.ct_expr.specs.Expr.{Expr}
use Rattle.ct_expr.specs.Eval.{eval}
use Rattle.rel_algebra.specs.declared.agg.Agg.{Agg}
use Rattle.rel_algebra.specs.Aggregates.{agg_results}
use Rattle.rel_algebra.specs.Clauses.{Meaning, project_rows}
use Rattle.rel_algebra.specs.Groups.{group_rows, group_columns}
use Rattle.rel_algebra.specs.Sums.{Each}
use Rattle.rel_algebra.specs.Answer.{Table, answer}
use Rattle.rel_algebra.specs.Rel.{Rel}
use Rattle.rel_algebra.specs.Types.{is_boolean}
use Rattle.sql_syntax.specs.Tree.{Tree}
use Rattle.sql_syntax.specs.Tree as t
use Rattle.query_answer.specs.Answer.{Entry, over, types, listed_calls, having_calls, select_calls}
use Rattle.query_answer.specs.Answer as a
use Rattle.query_answer.specs.Calls.{Call}
use Rattle.query_answer.specs.Groups.{meanings}
use Rattle.query_answer.specs.Names.{Scope}
use Rattle.query_answer.specs.Stands.{stands}
use Rattle.query_answer.specs.Table.{Typed}
use Rattle.binding.specs.Checked.{◌>>=◌}
use Rattle.binding.specs.Expressions.{bound, each_bound}
use Rattle.binding.specs.InGroups.{in_group, BoundCall, calls_bound, bound_arguments, bound_filters}
use Rattle.binding.specs.InGroups as bg
use Rattle.binding.specs.Nodes.{Bound, expr_list}
use Rattle.binding.specs.Queries.{Relation, list_bound, group_listed, having_bound, condition, projected, filter_if, group_rel}
use Rattle.binding.specs.Queries as b
use Rattle.query_laws.proofs.Bound.{Known, front, back}
use Rattle.query_laws.proofs.Calls.{CallsAre, calls_mean}
use Rattle.query_laws.proofs.Clauses.{tys, Fine}
use Rattle.query_laws.proofs.Grouped.{filter_rel, filter_none}
use Rattle.query_laws.proofs.GroupSelects.{ys, zs, hz, aggs, group_typed, columns_width, group_answered, group_wide, HavingIs, expr_of, rows_are}
use Rattle.query_laws.proofs.InGroups.{RowOf, Nth, group_cols, group_listing, in_group_means, all_known}
use Rattle.query_laws.proofs.Lists.{map_length}
use Rattle.query_laws.proofs.Names.{Same, AllAre, each_means}
use Rattle.query_laws.proofs.Nodes as k
use Rattle.query_laws.proofs.Options.{bind, for_all, tested_else}
use Rattle.query_laws.proofs.Selects.{AreListed, list_means, typed_all, headed_same, types_headed, length_headed, plain_meanings, filter_fine, projected_right, reach, FineAt, Selected}

-- ---- HAVING and the items, as they are bound

module _ (scope : Scope) (groups : List Tree) (keys : List Bound) (hk : AllAre scope keys (map (over scope) groups)) (es : List Entry) (having : t.OptionalTree) where
  abbrev cs : List Call
  cs = select_calls es having

  abbrev item_calls : List Call
  item_calls = flat_map (λ e. listed_calls e.listed) es

  module _ (rows : Rows) where
    abbrev cols : List ColTy
    cols = group_cols scope groups keys hk cs rows

    abbrev R : Row → Row → Type 0
    R = RowOf scope groups keys hk cs rows

    abbrev KnownIn : ℕ → List Call → Type 0
    KnownIn = Known cols R (a.in_group scope groups rows) (in_group scope groups keys) (Nth scope groups keys hk cs rows)

    all_of_them : KnownIn 0 cs
    all_of_them = all_known scope groups keys hk cs rows 0 cs (λ j c q. let e : j ≡ 0 + j = omega arith in subst (λ i. slice_get cs i ≡ Some c) e q)

    items_known : KnownIn 0 item_calls
    items_known = front cols R (a.in_group scope groups rows) (in_group scope groups keys) (Nth scope groups keys hk cs rows) 0 item_calls (having_calls having) all_of_them

    having_known : KnownIn (length item_calls) (having_calls having)
    having_known =
        let e : 0 + length item_calls ≡ length item_calls = omega arith in
        subst (λ i. KnownIn i (having_calls having)) e (back cols R (a.in_group scope groups rows) (in_group scope groups keys) (Nth scope groups keys hk cs rows) 0 item_calls (having_calls having) all_of_them)

    -- HAVING is BOOLEAN and means what it stands for
    abbrev pub HavingAt : Option Bound → t.OptionalTree → Type 0
    HavingAt None t.no_tree = Unit {0}
    HavingAt None (t.some_tree x) = ⊥
    HavingAt (Some v) t.no_tree = ⊥
    HavingAt (Some v) (t.some_tree x) = k.Is cols R v (stands (a.in_group scope groups rows) x) × (is_boolean (Some v.column) ≡ true)

    having_means : (m : ℕ) (o : t.OptionalTree) → KnownIn m (having_calls o) → IfOk (having_bound (in_group scope groups keys) m o) (λ h. HavingAt h o)
    having_means m t.no_tree f = tt
    having_means m (t.some_tree x) f =
        let z = stands (a.in_group scope groups rows) x in
        bind (bound (in_group scope groups keys) m x >>= condition) _ (λ v. k.Is cols R v z × (is_boolean (Some v.column) ≡ true)) _
        (bind (bound (in_group scope groups keys) m x) condition (λ v. k.Is cols R v z) (λ v. k.Is cols R v z × (is_boolean (Some v.column) ≡ true)) (in_group_means scope groups keys hk cs rows m x f) (λ v p.
        tested_else (is_boolean (Some v.column)) (Ok v) TypeMismatch (λ v. k.Is cols R v z × (is_boolean (Some v.column) ≡ true)) (λ e. (p, e))))
        (λ v p. p)

    pub having_in_means : IfOk (having_bound (in_group scope groups keys) (length item_calls) having) (λ h. HavingAt h having)
    having_in_means = having_means (length item_calls) having having_known

    abbrev pub ItemsAt : List Bound → Type 0
    ItemsAt xs = AreListed cols R (a.in_group scope groups rows) (in_group scope groups keys) (Nth scope groups keys hk cs rows) (group_listed scope groups keys) (a.listed_in scope groups rows) es xs

    pub items_mean : IfOk (list_bound (group_listed scope groups keys) es) ItemsAt
    items_mean = list_means cols R (a.in_group scope groups rows) (in_group scope groups keys) (Nth scope groups keys hk cs rows) (group_listed scope groups keys) (a.listed_in scope groups rows) (group_listing scope groups keys hk cs rows) es items_known

module _ (tables : List Table) where
  -- ---- the Group, and the Filter of HAVING

  module _ (x : Relation) (f : FineAt tables x) (groups : List Tree) (keys : List Bound) (hk : AllAre x.scope keys (map (over x.scope) groups)) (cs : List Call) (bcs : List BoundCall) (hb : CallsAre x.scope (bg.has_no_keys keys) cs bcs) where
    abbrev ys' : List Bound
    ys' = ys x.scope groups keys hk cs bcs hb

    abbrev zs' : List Typed
    zs' = zs x.scope groups keys hk cs bcs hb

    abbrev aggs' : List Agg
    aggs' = aggs x.scope groups keys hk cs bcs hb

    abbrev P : Rel
    P = projected (length x.scope) ys' x.rel

    abbrev G : Rel
    G = group_rel (length x.scope) keys (bound_arguments bcs) (bound_filters bcs) cs x.rel

    abbrev group_columns_of : List ColTy
    group_columns_of = group_cols x.scope groups keys hk cs none

    the_project : (answer tables P ≡ option_and_then (project_rows (map eval (expr_list ys'))) (answer tables x.rel)) × Fine tables P (tys ys')
    the_project = projected_right tables x.rel (types x.scope) (length x.scope) (sym (map_length (λ c. c.ty) x.scope)) f ys' (typed_all (types x.scope) (Same x.scope) ys' zs' (hz x.scope groups keys hk cs bcs hb))

    abbrev made_of : Rows → Option Rows
    made_of rows = option_and_then (group_rows (length keys) (agg_results (tys ys') aggs')) (project_rows (meanings zs') rows)

    then_twice : (m n : Rows → Option Rows) (o : Option Rows) → option_and_then m (option_and_then n o) ≡ option_and_then (λ rows. option_and_then m (n rows)) o
    then_twice m n None = refl
    then_twice m n (Some rows) = refl

    pub group_answer_is : answer tables G ≡ option_and_then made_of (answer tables x.rel)
    group_answer_is =
        (λ i. option_and_then (group_rows (length keys) (agg_results (unwrap_or (the_project.1.typed i) []) aggs')) (the_project.0 i))
        ∙ ap (λ ms. option_and_then (group_rows (length keys) (agg_results (tys ys') aggs')) (option_and_then (project_rows ms) (answer tables x.rel))) (plain_meanings x.scope ys' zs' (hz x.scope groups keys hk cs bcs hb))
        ∙ then_twice (group_rows (length keys) (agg_results (tys ys') aggs')) (project_rows (meanings zs')) (answer tables x.rel)

    pub group_fine : Fine tables G group_columns_of
    group_fine = record {
      typed = ap (option_and_then (λ columns. group_columns (length keys) columns aggs')) the_project.1.typed ∙ group_typed x.scope groups keys hk cs bcs hb;
      wide = λ c q. go (answer tables x.rel) c (sym group_answer_is ∙ q);
      unions = the_project.1.unions;
      projects = the_project.1.projects;
    }
      where
        go : (o : Option Rows) (c : Rows) → option_and_then made_of o ≡ Some c → Each (λ row. length row ≡ length group_columns_of) c
        go None c q = absurd (cc)
        go (Some rows) c q = group_wide x.scope groups keys hk cs bcs hb rows c (sym (group_answered x.scope groups keys hk cs bcs hb rows) ∙ q)

    having_fine : (h : Option Bound) (having : t.OptionalTree) → HavingIs x.scope groups keys hk cs bcs hb none h having → Fine tables (filter_if h G) group_columns_of
    having_fine None t.no_tree p = group_fine
    having_fine None (t.some_tree c) p = absurd p
    having_fine (Some v) t.no_tree p = absurd p
    having_fine (Some v) (t.some_tree c) p = filter_fine tables G group_columns_of v.expr group_fine (ap is_boolean p.0.1 ∙ p.1)

    filter_answer_is : (h : Option Bound) → answer tables (filter_if h G) ≡ filter_rel (expr_of h) (answer tables G)
    filter_answer_is None = refl
    filter_answer_is (Some v) = refl

  module _ (es : List Entry) (having : t.OptionalTree) (x : Relation) (f : FineAt tables x) (groups : List Tree) (keys : List Bound) (hk : AllAre x.scope keys (map (over x.scope) groups)) (h : Option Bound)
      (ph : (rows : Rows) → HavingAt x.scope groups keys hk es having rows h having) (xs : List Bound) (px : (rows : Rows) → ItemsAt x.scope groups keys hk es having rows xs)
      (bcs : List BoundCall) (hb : CallsAre x.scope (bg.has_no_keys keys) (select_calls es having) bcs) where
    abbrev calls' : List Call
    calls' = select_calls es having

    abbrev filtered : Rel
    filtered = filter_if h (group_rel (length x.scope) keys (bound_arguments bcs) (bound_filters bcs) calls' x.rel)

    abbrev items' : List Meaning
    items' = map eval (expr_list xs)

    abbrev condition' : Option Expr
    condition' = expr_of h

    last_project : (answer tables (projected (length keys + length calls') xs filtered) ≡ option_and_then (project_rows items') (answer tables filtered)) × Fine tables (projected (length keys + length calls') xs filtered) (tys xs)
    last_project = projected_right tables filtered (group_cols x.scope groups keys hk calls' none) (length keys + length calls') (sym (columns_width x.scope groups keys hk calls' bcs hb))
        (having_fine x f groups keys hk calls' bcs hb h having (ph none)) xs
        (typed_all (group_cols x.scope groups keys hk calls' none) (RowOf x.scope groups keys hk calls' none) xs (map (λ e. a.listed_in x.scope groups none e.listed) es) (px none).0)

    rows_of : (o : Option Rows) → option_and_then (project_rows items') (filter_rel condition' (option_and_then (made_of x f groups keys hk calls' bcs hb) o)) ≡ option_and_then (λ rows. a.grouped x.scope groups rows es having) o
    rows_of None = ap (option_and_then (project_rows items')) (filter_none condition')
    rows_of (Some rows) = rows_are x.scope groups keys hk calls' bcs hb rows h having xs es (ph rows) (px rows).0

    pub selected_is : Selected tables es (record { rel = projected (length keys + length calls') xs filtered; scope = b.headed es xs }) (a.grouped_select es groups having (reach tables x))
    selected_is = (
      λ i. record {
        scope = headed_same (group_cols x.scope groups keys hk calls' none) (RowOf x.scope groups keys hk calls' none) es xs (map (λ e. a.listed_in x.scope groups none e.listed) es) (px none).0 i;
        rows =
            (last_project.0
            ∙ ap (option_and_then (project_rows items')) (filter_answer_is x f groups keys hk calls' bcs hb h ∙ ap (filter_rel condition') (group_answer_is x f groups keys hk calls' bcs hb))
            ∙ rows_of (answer tables x.rel)) i;
      },
      subst (λ cs. Fine tables (projected (length keys + length calls') xs filtered) cs) (sym (types_headed es xs (px none).1)) last_project.1,
      length_headed es xs (px none).1,
    )

  pub grouped_right : (es : List Entry) (groups : List Tree) (having : t.OptionalTree) (x : Relation) → FineAt tables x → IfOk (b.grouped_select es groups having x) (λ y. Selected tables es y (a.grouped_select es groups having (reach tables x)))
  grouped_right es groups having x f =
      bind (each_bound x.scope groups) _ (λ keys. AllAre x.scope keys (map (over x.scope) groups)) _ (each_means x.scope groups) (λ keys hk.
      bind (having_bound (in_group x.scope groups keys) (length (flat_map (λ e. listed_calls e.listed) es)) having) _ (λ h. (rows : Rows) → HavingAt x.scope groups keys hk es having rows h having) _
      (for_all (having_bound (in_group x.scope groups keys) (length (flat_map (λ e. listed_calls e.listed) es)) having) (λ rows h. HavingAt x.scope groups keys hk es having rows h having) (λ rows. having_in_means x.scope groups keys hk es having rows)) (λ h ph.
      bind (list_bound (group_listed x.scope groups keys) es) _ (λ xs. (rows : Rows) → ItemsAt x.scope groups keys hk es having rows xs) _
      (for_all (list_bound (group_listed x.scope groups keys) es) (λ rows xs. ItemsAt x.scope groups keys hk es having rows xs) (λ rows. items_mean x.scope groups keys hk es having rows)) (λ xs px.
      bind (calls_bound x.scope (bg.has_no_keys keys) (select_calls es having)) _ (CallsAre x.scope (bg.has_no_keys keys) (select_calls es having)) _ (calls_mean x.scope (bg.has_no_keys keys) (select_calls es having)) (λ bcs hb.
      selected_is es having x f groups keys hk h ph xs px bcs hb))))
