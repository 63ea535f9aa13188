-- WHERE, the select list and DISTINCT: what `reach` says of the bound clause is the clause of what it says.
use Rattle.std.proofs.Common.{◌≡◌, ℕ, suc, ◌+◌, Bool, true, false, List, [], ◌∷◌, ◌++◌, map, length, take, Option, Some, None, cond, Ok, IfOk, refl, sym, ap, ◌∙◌, subst, option_and_then, option_map, slice_get, arith, append-nil}
use Rattle.std.specs.Prelude.{flat_map, nat_lt}
use Rattle.std.proofs.Common.{le-leb}
use Rattle.ct_value.specs.Order.{row_cmp, row_total, row_exact}
use Rattle.ct_value.specs.declared.codes.ScriptCode.TheVariants.{UnknownColumn, TooManyColumns}
use Rattle.ct_value.specs.declared.row.Row.{Row}
use Rattle.ct_value.specs.declared.ty.ColTy.{ColTy}
use Rattle.ct_change.specs.Changelog.{Rows}
use Rattle.ct_expr.specs.Expr.{Expr}
use Rattle.ct_expr.specs.Eval.{eval}
use Rattle.rel_algebra.specs.Aggregates.{agg_results}
use Rattle.rel_algebra.specs.Clauses.{holds, project_rows, filter_rows}
use Rattle.rel_algebra.specs.Groups.{group_rows, group_columns}
use Rattle.rel_algebra.specs.Sums.{one, distinct, sum_over, Each}
use Rattle.rel_algebra.proofs.laws.Bags.{each-distinct}
use Rattle.rel_algebra.proofs.laws.Clauses.{each-rows_where}
use Rattle.rel_algebra.specs.Answer.{Table, answer, columns_in}
use Rattle.rel_algebra.specs.Rel.{Rel}
use Rattle.rel_algebra.specs.Rel as r
use Rattle.rel_algebra.specs.Types.{columns_if, is_condition}
use Rattle.sql_syntax.specs.Tree as t
use Rattle.query_answer.specs.declared.scope.ScopeColumn.{ScopeColumn}
use Rattle.query_answer.specs.Answer.{Reach, Listed, Placed, Written, NoSource, Entry, listed_over, found_at, listed_calls, types, under, some_column}
use Rattle.query_answer.specs.Answer as a
use Rattle.query_answer.specs.Calls.{Call}
use Rattle.query_answer.specs.Groups.{meanings}
use Rattle.query_answer.specs.Names.{Scope, column_at}
use Rattle.query_answer.specs.Stands as s
use Rattle.query_answer.specs.Table.{Typed}
use Rattle.binding.specs.Checked.{or_code}
use Rattle.binding.specs.Expressions.{Leaf, column}
use Rattle.binding.specs.Nodes.{Bound, expr_list}
use Rattle.binding.specs.Queries.{Relation, Lister, projected, in_turn, few, list_bound, plain_listed}
use Rattle.binding.specs.Queries as b
use Rattle.query_laws.proofs.Bags.{made_all, mapped_itself, each_map, each_any}
use Rattle.query_laws.proofs.Bound.{Known, front, back}
use Rattle.query_laws.proofs.Clauses.{AllTyped, tys, Fine, projected_rows}
use Rattle.query_laws.proofs.Lists.{map_length, slice_map, take_whole}
use Rattle.query_laws.proofs.Names.{Same, SameRow, Is, AllAre, column_is, over_means}
use Rattle.query_laws.proofs.Nodes as k
use Rattle.query_laws.proofs.Options.{bind, tested}

-- ---- what is listed, one after the other

module _ (cols : List ColTy) (R : Row → Row → Type 0) (leaf : s.Leaf) (w : Leaf) (C : ℕ → Call → Type 0) (list : Lister) (told : Listed → Typed) where
  -- each is bound to what it stands for
  abbrev pub Listing : Type 0
  Listing = (n : ℕ) (l : Listed) → Known cols R leaf w C n (listed_calls l) → IfOk (list n l) (λ y. k.Is cols R y (told l))

  abbrev pub AreListed : List Entry → List Bound → Type 0
  AreListed es ys = k.AllAre cols R ys (map (λ e. told e.listed) es) × (length ys ≡ length es)

  pub in_turn_means : Listing → (n : ℕ) (es : List Entry) → Known cols R leaf w C n (flat_map (λ e. listed_calls e.listed) es) → IfOk (in_turn list n es) (AreListed es)
  in_turn_means h n [] f = (tt, refl)
  in_turn_means h n (e ∷ es) f =
      let own = listed_calls e.listed in
      let others = flat_map (λ e. listed_calls e.listed) es in
      bind (list n e.listed) _ (λ y. k.Is cols R y (told e.listed)) _ (h n e.listed (front cols R leaf w C n own others f)) (λ y p.
      bind (in_turn list (n + length own) es) _ (AreListed es) _ (in_turn_means h (n + length own) es (back cols R leaf w C n own others f)) (λ ys q.
      ((p, q.0), ap suc q.1)))

  pub list_means : Listing → (es : List Entry) → Known cols R leaf w C 0 (flat_map (λ e. listed_calls e.listed) es) → IfOk (list_bound list es) (AreListed es)
  list_means h es f = bind (in_turn list 0 es) few (AreListed es) (AreListed es) (in_turn_means h 0 es f) (λ ys p. tested (nat_lt 64 (length ys)) TooManyColumns (Ok ys) (AreListed es) p)

module _ (cols : List ColTy) (R : Row → Row → Type 0) where
  pub typed_all : (ys : List Bound) (zs : List Typed) → k.AllAre cols R ys zs → AllTyped cols ys
  typed_all [] [] h = tt
  typed_all [] (z ∷ zs) h = absurd h
  typed_all (y ∷ ys) [] h = absurd h
  typed_all (y ∷ ys) (z ∷ zs) h = (h.0.1, typed_all ys zs h.1)

  pub headed_same : (es : List Entry) (ys : List Bound) (zs : List Typed) → k.AllAre cols R ys zs → b.headed es ys ≡ a.headed es zs
  headed_same [] ys zs h = refl
  headed_same (e ∷ es) [] [] h = refl
  headed_same (e ∷ es) [] (z ∷ zs) h = absurd h
  headed_same (e ∷ es) (y ∷ ys) [] h = absurd h
  headed_same (e ∷ es) (y ∷ ys) (z ∷ zs) h = λ i. under None e.name (ap some_column (sym h.0.0) i) ∷ headed_same es ys zs h.1 i

pub types_headed : (es : List Entry) (ys : List Bound) → length ys ≡ length es → types (b.headed es ys) ≡ tys ys
types_headed [] [] l = refl
types_headed [] (y ∷ ys) l = absurd (omega arith)
types_headed (e ∷ es) [] l = absurd (omega arith)
types_headed (e ∷ es) (y ∷ ys) l = ap (λ zs. y.column ∷ zs) (types_headed es ys (let p = l in omega arith))

pub length_headed : (es : List Entry) (ys : List Bound) → length ys ≡ length es → length (b.headed es ys) ≡ length es
length_headed [] [] l = refl
length_headed [] (y ∷ ys) l = absurd (omega arith)
length_headed (e ∷ es) [] l = absurd (omega arith)
length_headed (e ∷ es) (y ∷ ys) l = ap suc (length_headed es ys (omega arith))

-- the values of expressions are those of what is told
pub meanings_same : (cols : List ColTy) (ys : List Bound) (zs : List Typed) → k.AllAre cols SameRow ys zs → map eval (expr_list ys) ≡ meanings zs
meanings_same cols [] [] h = refl
meanings_same cols [] (z ∷ zs) h = absurd h
meanings_same cols (y ∷ ys) [] h = absurd h
meanings_same cols (y ∷ ys) (z ∷ zs) h = λ i. (λ row. h.0.2 row row refl i) ∷ meanings_same cols ys zs h.1 i

-- ---- over the columns in reach

module _ (scope : Scope) where
  placed_means : (m : ℕ) (o : Option ScopeColumn) → slice_get scope m ≡ o → IfOk (or_code UnknownColumn (option_map (λ c. column m c.ty) o)) (λ y. Is scope y (column_at (found_at m o)))
  placed_means m None q = tt
  placed_means m (Some c) q = column_is scope m c.ty (slice_map (λ z. z.ty) scope m ∙ ap (option_map (λ z. z.ty)) q)

  listed_means : (n : ℕ) (l : Listed) → IfOk (plain_listed scope n l) (λ y. Is scope y (listed_over scope l))
  listed_means n (Placed m) = placed_means m (slice_get scope m) refl
  listed_means n (Written x) = over_means scope x
  listed_means n NoSource = tt

  -- the values of expressions are those of what is told
  pub plain_meanings : (ys : List Bound) (zs : List Typed) → AllAre scope ys zs → map eval (expr_list ys) ≡ meanings zs
  plain_meanings = meanings_same (types scope)

  Nothing : ℕ → Call → Type 0
  Nothing n c = Unit {0}

module _ (tables : List Table) where
  -- the columns in reach of what was bound, with the rows of its answer
  abbrev pub reach : Relation → Reach
  reach x = record { scope = x.scope; rows = answer tables x.rel }

  abbrev pub FineAt : Relation → Type 0
  FineAt x = Fine tables x.rel (types x.scope)

  -- ---- a Filter

  pub filter_fine : (rel : Rel) (columns : List ColTy) (condition : Expr) → Fine tables rel columns → is_condition columns condition ≡ true → Fine tables (r.Filter rel condition) columns
  filter_fine rel columns condition f h = record {
    typed = ap (option_and_then (λ cs. columns_if (is_condition cs condition) cs)) f.typed ∙ ap (λ t. cond t (Some columns) None) h;
    wide = λ rows q. kept (answer tables rel) refl rows q;
    unions = f.unions;
    projects = f.projects;
  }
    where
      kept : (o : Option Rows) → answer tables rel ≡ o → (rows : Rows) → option_and_then (filter_rows (eval condition)) o ≡ Some rows → Each (λ row. length row ≡ length columns) rows
      kept None i rows q = absurd (cc)
      kept (Some all) i rows q = each-rows_where (λ row. length row ≡ length columns) (holds (eval condition)) all rows (f.wide all i) q

  -- ---- a select without groups

  pub projected_right : (rel : Rel) (columns : List ColTy) (width : ℕ) → width ≡ length columns → Fine tables rel columns → (ys : List Bound) → AllTyped columns ys
      → (answer tables (projected width ys rel) ≡ option_and_then (project_rows (map eval (expr_list ys))) (answer tables rel)) × Fine tables (projected width ys rel) (tys ys)
  projected_right rel columns width w f ys h =
      subst (λ n. (answer tables (projected n ys rel) ≡ option_and_then (project_rows (map eval (expr_list ys))) (answer tables rel)) × Fine tables (projected n ys rel) (tys ys)) (sym w)
      (projected_rows tables rel columns f ys h)

  abbrev pub Selected : List Entry → Relation → Reach → Type 0
  Selected es y x = (reach y ≡ x) × FineAt y × (length y.scope ≡ length es)

  pub plain_right : (es : List Entry) (x : Relation) → FineAt x → IfOk (b.plain_select es x) (λ y. Selected es y (a.plain_select es (reach x)))
  plain_right es x f =
      let zs = map (λ e. listed_over x.scope e.listed) es in
      let cols = types x.scope in
      let R = Same x.scope in
      bind (list_bound (plain_listed x.scope) es) _ (λ ys. AllAre x.scope ys zs × (length ys ≡ length es)) _
      (list_means cols R (λ y. None) (λ n y. Ok None) (λ n c. Unit {0}) (plain_listed x.scope) (listed_over x.scope) (λ n l h. listed_means x.scope n l) es (nothing_known cols R 0 _)) (λ ys p.
      let q = projected_right x.rel cols (length x.scope) (sym (map_length (λ c. c.ty) x.scope)) f ys (typed_all cols R ys zs p.0) in (
        λ i. record {
          scope = headed_same cols R es ys zs p.0 i;
          rows = (q.0 ∙ ap (λ ms. option_and_then (project_rows ms) (answer tables x.rel)) (plain_meanings x.scope ys zs p.0)) i;
        },
        subst (λ cs. Fine tables (projected (length x.scope) ys x.rel) cs) (sym (types_headed es ys p.1)) q.1,
        length_headed es ys p.1,
      ))
    where
      nothing_known : (cols : List ColTy) (R : Row → Row → Type 0) (n : ℕ) (cs : List Call) → Known cols R (λ y. None) (λ n y. Ok None) (λ n c. Unit {0}) n cs
      nothing_known cols R n [] = tt
      nothing_known cols R n (c ∷ cs) = (tt, nothing_known cols R (suc n) cs)

  -- ---- DISTINCT

  distinct_rows : (n : ℕ) (columns : List ColTy) (rows : Rows) → Each (λ row. length row ≡ suc n) rows → group_rows (suc n) (agg_results columns []) rows ≡ Some (distinct rows)
  distinct_rows n columns rows wide =
      ap (λ c. sum_over (λ key. Some (one {R = row_cmp} (key ++ []))) (distinct c)) (mapped_itself row_total row_exact (take (suc n)) rows (each_map (λ row. length row ≡ suc n) (λ row. take (suc n) row ≡ row) (λ row l. take_whole row (suc n) l) rows wide))
      ∙ made_all row_total row_exact row_total row_exact (λ key. Some (key ++ [])) (λ key. key) (distinct rows) (each_any (λ key. Some (key ++ []) ≡ Some key) (λ key. ap Some (append-nil key)) (distinct rows))
      ∙ ap Some (mapped_itself row_total row_exact (λ key. key) (distinct rows) (each_any (λ key. key ≡ key) (λ key. refl) (distinct rows)))

  pub once_right : (d : Bool) (x : Relation) (n : ℕ) → FineAt x → length x.scope ≡ suc n → (reach (b.once d x) ≡ a.once d (reach x)) × FineAt (b.once d x)
  once_right false x n f l = (refl, f)
  once_right true x n f l = (
    λ i. record { scope = x.scope; rows = rows_same (answer tables x.rel) refl i },
    record {
      typed =
          ap (option_and_then (λ cs. group_columns (length x.scope) cs [])) f.typed
          ∙ ap (λ t. cond t (Some (take (length x.scope) (types x.scope) ++ [])) None) (le-leb (length x.scope) (length (types x.scope)) (let q = width in omega arith))
          ∙ ap Some (append-nil (take (length x.scope) (types x.scope)) ∙ take_whole (types x.scope) (length x.scope) width);
      wide = λ rows q. subst (λ (c : Rows). Each (λ row. length row ≡ length (types x.scope)) c) refl (kept (answer tables x.rel) refl rows (sym (rows_same (answer tables x.rel) refl) ∙ q));
      unions = f.unions;
      projects = f.projects;
    },
  )
    where
      width : length (types x.scope) ≡ length x.scope
      width = map_length (λ c. c.ty) x.scope

      of_width : (rows : Rows) → answer tables x.rel ≡ Some rows → Each (λ row. length row ≡ suc n) rows
      of_width rows q = each_map (λ row. length row ≡ length (types x.scope)) (λ row. length row ≡ suc n) (λ row e. e ∙ (width ∙ l)) rows (f.wide rows q)

      rows_same : (o : Option Rows) → answer tables x.rel ≡ o → option_and_then (group_rows (length x.scope) (agg_results (columns_in tables x.rel) [])) o ≡ option_map distinct o
      rows_same None q = refl
      rows_same (Some rows) q = ap (λ k. group_rows k (agg_results (columns_in tables x.rel) []) rows) l ∙ distinct_rows n (columns_in tables x.rel) rows (of_width rows q)

      kept : (o : Option Rows) → answer tables x.rel ≡ o → (rows : Rows) → option_map distinct o ≡ Some rows → Each (λ row. length row ≡ length (types x.scope)) rows
      kept None i rows q = absurd (cc)
      kept (Some all) i rows q = let j : distinct all ≡ rows = cc in subst (λ (c : Rows). Each (λ row. length row ≡ length (types x.scope)) c) j (each-distinct row_total row_exact (λ row. length row ≡ length (types x.scope)) all (f.wide all i))
