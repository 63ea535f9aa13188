-- What a query is bound to has the query's answer: one induction over the tree, a clause a step.
use Rattle.std.proofs.Common.{◌≡◌, ℕ, zero, suc, ◌+◌, ◌-◌, ◌<◌, ◌≤◌, nat_lt, ltb-true, ltb-false, ◌==◌, Bool, true, false, ◌&&◌, ◌||◌, List, [], ◌∷◌, ◌++◌, map, length, Option, Some, None, cond, Ok, Err, IfOk, refl, sym, ap, ◌∙◌, subst, option_map, slice_get, unwrap_or, arith, eq-eqb, length-append}
use Rattle.std.specs.List.{list_all}
use Rattle.std.proofs.lemmas.List.{length-map}
use Rattle.std.specs.Str.{bytes_eq}
use Rattle.ct_value.specs.Bag.{none}
use Rattle.ct_value.specs.Order.{row_total, row_exact}
use Rattle.ct_value.specs.declared.codes.ScriptCode.TheVariants.{TypeMismatch, Unsupported}
use Rattle.ct_value.specs.declared.ty.ColTy.{ColTy}
use Rattle.ct_change.specs.Changelog.{Rows}
use Rattle.ct_expr.specs.Types.{both_of}
use Rattle.ct_catalog.specs.declared.table.TableDef.{TableDef}
use Rattle.rel_algebra.specs.Sums.{plus, Each}
use Rattle.rel_algebra.proofs.laws.Bags.{plus-assoc, plus-none, plus-none-right, plus_parts, each-together}
use Rattle.rel_algebra.specs.Answer.{Table, answer, answers, types_in}
use Rattle.rel_algebra.proofs.laws.Sets.{each-set_rows, set_columns-lengths}
use Rattle.rel_algebra.specs.Rel.{Binary, set_by, Rel, Rels, no_rels, rel_and, rels}
use Rattle.rel_algebra.specs.Rel as r
use Rattle.rel_algebra.specs.declared.sets.SetKind.TheVariants.{Union}
use Rattle.rel_algebra.specs.Sets.{set_columns, set_form, set_kind, set_rows}
use Rattle.rel_algebra.specs.Types.{binary_columns, columns_of, common_from, common_columns}
use Rattle.sql_syntax.specs.declared.tree.SetWord.{SetWord}
use Rattle.sql_syntax.specs.declared.tree.SetWord.TheVariants.{UnionAll, Except, ExceptAll}
use Rattle.sql_syntax.specs.Tree.{Text}
use Rattle.sql_syntax.specs.Tree as t
use Rattle.query_answer.specs.Answer.{TableRows, Reach, Entry, types, entries, listed_trees, is_grouped, union, retyped, find_table, table_scope}
use Rattle.query_answer.specs.Answer as a
use Rattle.query_answer.specs.Forms.{is_plain, is_simple, is_sole}
use Rattle.query_answer.specs.Joins.{kind_of}
use Rattle.query_answer.specs.Names.{Scope, find}
use Rattle.query_answer.specs.Ranks.{Ranked, Top, ranked_query, ranked_select, without}
use Rattle.binding.specs.Checked.{Checked, ◌>>=◌, or_code}
use Rattle.binding.specs.Queries.{Relation, Outside, RankedList, Run, begun, closed, query_bound, source_bound, find_source, union_of, united, is_test, tests, plain_part, own_value, member_part, alone, ranked_list}
use Rattle.binding.specs.Queries as b
use Rattle.query_laws.specs.Statement.{HaveWidths, tables_of, table_of, any_has_idle_project, has_idle_project}
use Rattle.rel_algebra.specs.Unions.{all_have_full_unions, has_full_unions}
use Rattle.query_laws.proofs.Bags.{each_map}
use Rattle.query_laws.proofs.Clauses.{Fine}
use Rattle.query_laws.proofs.GroupRight.{grouped_right}
use Rattle.query_laws.proofs.Joins.{joined_right}
use Rattle.query_laws.proofs.Lists.{slice_map}
use Rattle.query_laws.proofs.Options.{bind, then, weaker, tested_else, map_map, both_parts, some_is}
use Rattle.query_laws.proofs.Ranks.{ListIs, TopFits, list_right, first_right, top_fits, without_front, without_behind}
use Rattle.query_laws.proofs.Parts.{PartIs, PartsAre, ValueIs, parts_append, plain_means, kept_right, exists_right, value_means, member_right, tests_pass}
use Rattle.query_laws.proofs.Selects.{reach, FineAt, Selected, plain_right, once_right}

-- ---- FROM

-- a table found among the declared ones, and among those with rows
abbrev IsFound : List TableRows → ℕ → Option (ℕ × TableDef) → Option TableRows → Type 0
IsFound xs n None None = Unit {0}
IsFound xs n None (Some y) = ⊥
IsFound xs n (Some f) None = ⊥
IsFound xs n (Some f) (Some y) = (m : ℕ) × (f.0 ≡ n + m) × (f.1 ≡ y.table) × (slice_get xs m ≡ Some y)

later : (x : TableRows) (xs : List TableRows) (n : ℕ) (o : Option (ℕ × TableDef)) (p : Option TableRows) → IsFound xs (suc n) o p → IsFound (x ∷ xs) n o p
later x xs n None None h = tt
later x xs n None (Some y) h = absurd h
later x xs n (Some f) None h = absurd h
later x xs n (Some f) (Some y) h = (suc h.0, (let q : f.0 ≡ suc n + h.0 = h.1 in omega arith), h.2, h.3)

found_at : (n : ℕ) (xs : List TableRows) (name : Text) → IsFound xs n (find_source n (map (λ x. x.table) xs) name) (find_table xs name)
found_at n [] name = tt
found_at n (x ∷ xs) name = which n x xs (bytes_eq name x.table.name) (find_source (suc n) (map (λ x. x.table) xs) name) (find_table xs name) (found_at (suc n) xs name)
  where
    which : (n : ℕ) (x : TableRows) (xs : List TableRows) (t : Bool) (o : Option (ℕ × TableDef)) (p : Option TableRows) → IsFound xs (suc n) o p → IsFound (x ∷ xs) n (cond t (Some (n, x.table)) o) (cond t (Some x) p)
    which n x xs true o p h = (0, (let e : n ≡ n + 0 = omega arith in e), refl, refl)
    which n x xs false o p h = later x xs n o p h

module _ (tables : List TableRows) (fit : HaveWidths (tables_of tables)) where
  abbrev T : List Table
  T = tables_of tables

  abbrev R : Relation → Reach
  R = reach T

  -- what is bound has the answer
  abbrev pub Right : Relation → Reach → Type 0
  Right x w = (R x ≡ w) × FineAt T x

  rows_there : (m : ℕ) (y : TableRows) → slice_get tables m ≡ Some y → answer T (r.Scan m) ≡ Some y.rows
  rows_there m y e = ap (λ o. Some (unwrap_or o none)) (slice_map (λ z. z.rows) T m ∙ ap (option_map (λ z. z.rows)) (slice_map table_of tables m ∙ ap (option_map table_of) e))

  columns_there : (m : ℕ) (y : TableRows) → slice_get tables m ≡ Some y → columns_of (types_in T) (r.Scan m) ≡ Some (map (λ c. c.ty) y.table.cols)
  columns_there m y e = slice_map (λ z. z.columns) T m ∙ ap (option_map (λ z. z.columns)) (slice_map table_of tables m ∙ ap (option_map table_of) e)

  width_there : (xs : List TableRows) (m : ℕ) (y : TableRows) → HaveWidths (tables_of xs) → slice_get xs m ≡ Some y → Each (λ row. length row ≡ length (map (λ c. c.ty) y.table.cols)) y.rows
  width_there [] m y h e = absurd (cc)
  width_there (x ∷ xs) zero y h e = let i : x ≡ y = cc in subst (λ z. Each (λ row. length row ≡ length (map (λ c. c.ty) z.table.cols)) z.rows) i h.0
  width_there (x ∷ xs) (suc m) y h e = width_there xs m y h.1 e

  scope_types : (alias : Option Text) (table : TableDef) → types (table_scope alias table) ≡ map (λ c. c.ty) table.cols
  scope_types alias table = map_map (λ c. c.ty) (λ c. a.under (Some (unwrap_or alias table.name)) (Some c.name) c.ty) table.cols

  read_right : (alias : Option Text) (o : Option (ℕ × TableDef)) (p : Option TableRows) → IsFound tables 0 o p → IfOk (b.read alias o) (λ x. Right x (a.read alias p))
  read_right alias None p h = tt
  read_right alias (Some f) None h = absurd h
  read_right alias (Some f) (Some y) h =
      let at : h.0 ≡ f.0 = (let q : f.0 ≡ 0 + h.0 = h.1 in omega arith) in
      let there : slice_get tables f.0 ≡ Some y = subst (λ m. slice_get tables m ≡ Some y) at h.3 in
      let cols : types (table_scope alias f.1) ≡ map (λ c. c.ty) y.table.cols = scope_types alias f.1 ∙ ap (λ d. map (λ c. c.ty) d.cols) h.2 in (
        λ i. record { scope = table_scope alias (h.2 i); rows = rows_there f.0 y there i },
        subst (λ cs. Fine T (r.Scan f.0) cs) (sym cols) (record {
          typed = columns_there f.0 y there;
          wide = λ rows q. let e : y.rows ≡ rows = some_is y.rows rows (sym (rows_there f.0 y there) ∙ q) in
              subst (λ (c : Rows). Each (λ row. length row ≡ length (map (λ c. c.ty) y.table.cols)) c) e (width_there tables f.0 y fit there);
          unions = refl;
          projects = refl;
        }),
      )

  renamed_right : (alias : Option Text) (x : Relation) (w : Reach) → Right x w → Right (b.renamed alias x) (a.renamed alias w)
  renamed_right alias x w h = (
    ap (a.renamed alias) h.0,
    subst (λ cs. Fine T x.rel cs) (sym (map_map (λ c. c.ty) (λ c. a.under alias c.name c.ty) x.scope)) h.1,
  )

  -- ---- a select

  selected_right : (d : Bool) (es : List Entry) (groups : t.Trees) (having : t.OptionalTree) (x : Relation) → FineAt T x → IfOk (b.selected d es (listed_trees groups) having x) (λ y. Right y (a.selected d es (listed_trees groups) having (R x)))
  selected_right d [] groups having x f = tt
  selected_right d (e ∷ es) groups having x f = go (is_grouped (e ∷ es) (listed_trees groups) having)
    where
      last : (o : Checked Relation) (w : Reach) → IfOk o (λ y. Selected T (e ∷ es) y w) → IfOk (o >>= λ y. Ok (b.once d y)) (λ y. Right y (a.once d w))
      last o w h = bind o _ (λ y. Selected T (e ∷ es) y w) _ h (λ y p. let q = once_right T d y (length es) p.1 p.2 in (q.0 ∙ ap (a.once d) p.0, q.1))

      go : (t : Bool) → IfOk (cond t (b.grouped_select (e ∷ es) (listed_trees groups) having x) (b.plain_select (e ∷ es) x) >>= λ y. Ok (b.once d y))
          (λ y. Right y (a.once d (cond t (a.grouped_select (e ∷ es) (listed_trees groups) having (R x)) (a.plain_select (e ∷ es) (R x)))))
      go true = last (b.grouped_select (e ∷ es) (listed_trees groups) having x) (a.grouped_select (e ∷ es) (listed_trees groups) having (R x)) (grouped_right T (e ∷ es) (listed_trees groups) having x f)
      go false = last (b.plain_select (e ∷ es) x) (a.plain_select (e ∷ es) (R x)) (plain_right T (e ∷ es) x f)

  -- ---- UNION ALL

  -- a run so far: the algebra of its terms, and the columns that are common to all
  pub record RunIs (run : Run) (w : Reach) : Type 0 where
    pub reach_is : record { scope = run.scope; rows = plus (answer T run.first) (answers T (rels run.others)) } ≡ w
    pub typed : common_from (types_in T) (columns_of (types_in T) run.first) (rels run.others) ≡ Some (types run.scope)
    pub wide : (rows : Rows) → plus (answer T run.first) (answers T (rels run.others)) ≡ Some rows → Each (λ row. length row ≡ length (types run.scope)) rows
    pub unions : (has_full_unions run.first && all_have_full_unions (rels run.others)) ≡ true
    pub projects : (has_idle_project (types_in T) run.first || any_has_idle_project (types_in T) (rels run.others)) ≡ false

  and-true : (b : Bool) → (b && true) ≡ b
  and-true true = refl
  and-true false = refl

  or-false : (b : Bool) → (b || false) ≡ b
  or-false true = refl
  or-false false = refl

  begun_is : (x : Relation) (w : Reach) → Right x w → RunIs (begun x) w
  begun_is x w h = record {
    reach_is = ap (λ z. record { scope = x.scope; rows = z }) (plus-none-right row_total row_exact (answer T x.rel)) ∙ h.0;
    typed = h.1.typed;
    wide = λ rows q. h.1.wide rows (sym (plus-none-right row_total row_exact (answer T x.rel)) ∙ q);
    unions = and-true (has_full_unions x.rel) ∙ h.1.unions;
    projects = or-false (has_idle_project (types_in T) x.rel) ∙ h.1.projects;
  }

  closed_right : (run : Run) (w : Reach) → RunIs run w → Right (closed run) w
  closed_right run w h = go (rels run.others) refl
    where
      go : (ys : Rels) → rels run.others ≡ ys → Right (record { rel = union_of run.first ys; scope = run.scope }) w
      go no_rels e = (
        ap (λ z. record { scope = run.scope; rows = z }) (sym (plus-none-right row_total row_exact (answer T run.first)) ∙ ap (λ z. plus (answer T run.first) (answers T z)) (sym e)) ∙ h.reach_is,
        record {
          typed = ap (common_from (types_in T) (columns_of (types_in T) run.first)) (sym e) ∙ h.typed;
          wide = λ rows q. h.wide rows (ap (λ z. plus (answer T run.first) (answers T z)) e ∙ plus-none-right row_total row_exact (answer T run.first) ∙ q);
          unions = sym (and-true (has_full_unions run.first)) ∙ ap (λ z. has_full_unions run.first && all_have_full_unions z) (sym e) ∙ h.unions;
          projects = sym (or-false (has_idle_project (types_in T) run.first)) ∙ ap (λ z. has_idle_project (types_in T) run.first || any_has_idle_project (types_in T) z) (sym e) ∙ h.projects;
        },
      )
      go (rel_and y ys) e = (
        ap (λ z. record { scope = run.scope; rows = plus (answer T run.first) (answers T z) }) (sym e) ∙ h.reach_is,
        record {
          typed = ap (common_from (types_in T) (columns_of (types_in T) run.first)) (sym e) ∙ h.typed;
          wide = λ rows q. h.wide rows (ap (λ z. plus (answer T run.first) (answers T z)) e ∙ q);
          unions = ap (λ z. has_full_unions run.first && all_have_full_unions z) (sym e) ∙ h.unions;
          projects = ap (λ z. has_idle_project (types_in T) run.first || any_has_idle_project (types_in T) z) (sym e) ∙ h.projects;
        },
      )

  retyped_types : (scope : Scope) (cs : List ColTy) → length cs ≡ length (types scope) → types (retyped scope cs) ≡ cs
  retyped_types [] [] l = refl
  retyped_types [] (c ∷ cs) l = absurd (omega arith)
  retyped_types (s ∷ scope) [] l = absurd (omega arith)
  retyped_types (s ∷ scope) (c ∷ cs) l = ap (λ ds. c ∷ ds) (retyped_types scope cs (omega arith))

  -- one more term, behind the others
  answers_more : (os : List Rel) (x : Rel) → answers T (rels (os ++ x ∷ [])) ≡ plus (answers T (rels os)) (answer T x)
  answers_more [] x = plus-none-right row_total row_exact (answer T x) ∙ sym (plus-none row_total row_exact (answer T x))
  answers_more (o ∷ os) x = ap (plus (answer T o)) (answers_more os x) ∙ sym (plus-assoc row_total row_exact (answer T o) (answers T (rels os)) (answer T x))

  common_more : (columns : Option (List ColTy)) (os : List Rel) (x : Rel) → common_from (types_in T) columns (rels (os ++ x ∷ [])) ≡ both_of common_columns (common_from (types_in T) columns (rels os)) (columns_of (types_in T) x)
  common_more columns [] x = refl
  common_more columns (o ∷ os) x = common_more (both_of common_columns columns (columns_of (types_in T) o)) os x

  unions_more : (b : Bool) (os : List Rel) (x : Rel) → (b && all_have_full_unions (rels os)) ≡ true → has_full_unions x ≡ true → (b && all_have_full_unions (rels (os ++ x ∷ []))) ≡ true
  unions_more true [] x h k = and-true (has_full_unions x) ∙ k
  unions_more true (o ∷ os) x h k = unions_more (has_full_unions o) os x h k
  unions_more false os x h k = absurd (cc)

  projects_more : (b : Bool) (os : List Rel) (x : Rel) → (b || any_has_idle_project (types_in T) (rels os)) ≡ false → has_idle_project (types_in T) x ≡ false → (b || any_has_idle_project (types_in T) (rels (os ++ x ∷ []))) ≡ false
  projects_more true os x h k = absurd (cc)
  projects_more false [] x h k = or-false (has_idle_project (types_in T) x) ∙ k
  projects_more false (o ∷ os) x h k = projects_more (has_idle_project (types_in T) o) os x h k

  abbrev longer : Run → Relation → Scope → Run
  longer run x both = record { first = run.first; others = run.others ++ x.rel ∷ []; scope = both }

  one_more : (run : Run) (x : Relation) (cs : List ColTy) (w v : Reach) → RunIs run w → Right x v → common_columns (types run.scope) (types x.scope) ≡ Some cs → RunIs (longer run x (retyped run.scope cs)) (union w v)
  one_more run x cs w v h k q =
      let l = set_columns-lengths Union (types run.scope) (types x.scope) cs q in
      let same : types (retyped run.scope cs) ≡ cs = retyped_types run.scope cs l.0 in
      let width : length (types (retyped run.scope cs)) ≡ length (types run.scope) = ap length same ∙ l.0 in
      let A = plus (answer T run.first) (answers T (rels run.others)) in
      let rows_are : plus (answer T run.first) (answers T (rels (run.others ++ x.rel ∷ []))) ≡ plus A (answer T x.rel) =
      ap (plus (answer T run.first)) (answers_more run.others x.rel) ∙ sym (plus-assoc row_total row_exact (answer T run.first) (answers T (rels run.others)) (answer T x.rel)) in
      record {
        reach_is =
            (λ i. record { scope = sym (ap (λ o. retyped run.scope (unwrap_or o [])) q) i; rows = rows_are i })
            ∙ (λ i. union (h.reach_is i) (k.0 i));
        typed = common_more (columns_of (types_in T) run.first) run.others x.rel ∙ (λ i. both_of common_columns (h.typed i) (k.1.typed i)) ∙ q ∙ ap Some (sym same);
        wide = λ rows e.
            let p = plus_parts row_total row_exact A (answer T x.rel) rows (sym rows_are ∙ e) in
            let before : Each (λ row. length row ≡ length (types (retyped run.scope cs))) p.0 = each_map (λ row. length row ≡ length (types run.scope)) (λ row. length row ≡ length (types (retyped run.scope cs))) (λ row m. m ∙ sym width) p.0 (h.wide p.0 p.2.0) in
            let behind : Each (λ row. length row ≡ length (types (retyped run.scope cs))) p.1 = each_map (λ row. length row ≡ length (types x.scope)) (λ row. length row ≡ length (types (retyped run.scope cs))) (λ row m. m ∙ sym l.1 ∙ ap length (sym same)) p.1 (k.1.wide p.1 p.2.1) in
            subst (λ (d : Rows). Each (λ row. length row ≡ length (types (retyped run.scope cs))) d) (sym p.2.2) (each-together row_total row_exact (λ row. length row ≡ length (types (retyped run.scope cs))) p.0 p.1 before behind);
        unions = unions_more (has_full_unions run.first) run.others x.rel h.unions k.1.unions;
        projects = projects_more (has_idle_project (types_in T) run.first) run.others x.rel h.projects k.1.projects;
      }

  united_right : (scope other : Scope) → IfOk (united scope other) (λ both. (cs : List ColTy) × (common_columns (types scope) (types other) ≡ Some cs) × (retyped scope cs ≡ both))
  united_right scope other = go (common_columns (types scope) (types other)) refl
    where
      go : (o : Option (List ColTy)) → common_columns (types scope) (types other) ≡ o → IfOk (or_code TypeMismatch (option_map (retyped scope) o)) (λ both. (cs : List ColTy) × (common_columns (types scope) (types other) ≡ Some cs) × (retyped scope cs ≡ both))
      go None q = tt
      go (Some cs) q = (cs, q, refl)

  -- ---- words between terms

  operated_right : (except all : Bool) (x y : Relation) (w v : Reach) → Right x w → Right y v → IfOk (b.operated except all x y) (λ z. Right z (a.operated except all w v))
  operated_right except all x y w v h k = go (set_columns (set_kind except) (types x.scope) (types y.scope)) refl
    where
      how : Binary
      how = set_by except all (length x.scope)

      made : Scope → Relation
      made both = record { rel = r.SetOp x.rel y.rel except all (length x.scope); scope = both }

      go : (o : Option (List ColTy)) → set_columns (set_kind except) (types x.scope) (types y.scope) ≡ o → IfOk (or_code TypeMismatch (option_map (retyped x.scope) o) >>= λ both. Ok (made both)) (λ z. Right z (a.operated except all w v))
      go None q = tt
      go (Some cs) q =
          let l = set_columns-lengths (set_kind except) (types x.scope) (types y.scope) cs q in
          let same : types (retyped x.scope cs) ≡ cs = retyped_types x.scope cs l.0 in
          let width : length (types x.scope) ≡ length (types (retyped x.scope cs)) = sym (ap length same ∙ l.0) in
          let few : (length (types x.scope) == length x.scope) ≡ true = eq-eqb (length (types x.scope)) (length x.scope) (length-map x.scope (λ c. c.ty)) in
          let reach_is : R (made (retyped x.scope cs)) ≡ a.operated except all w v =
          (λ i. record { scope = sym (ap (λ o. retyped x.scope (unwrap_or o [])) q) i; rows = both_of (λ left right. Some (set_rows (set_form except all) left right)) (answer T x.rel) (answer T y.rel) })
          ∙ (λ i. a.operated except all (h.0 i) (k.0 i)) in
          let fine : FineAt T (made (retyped x.scope cs)) = record {
            typed = (λ i. both_of (binary_columns how) (h.1.typed i) (k.1.typed i)) ∙ ap (λ b. cond b (set_columns (set_kind except) (types x.scope) (types y.scope)) None) few ∙ q ∙ ap Some (sym same);
            wide = λ rows e.
                let p = both_parts (λ left right. Some (set_rows (set_form except all) left right)) (answer T x.rel) (answer T y.rel) rows e in
                let wide_left : Each (λ row. length row ≡ length (types (retyped x.scope cs))) p.0 =
                each_map (λ row. length row ≡ length (types x.scope)) (λ row. length row ≡ length (types (retyped x.scope cs))) (λ row m. m ∙ width) p.0 (h.1.wide p.0 p.2) in
                subst (λ (d : Rows). Each (λ row. length row ≡ length (types (retyped x.scope cs))) d) (some_is (set_rows (set_form except all) p.0 p.1) rows p.4)
                (each-set_rows (λ row. length row ≡ length (types (retyped x.scope cs))) except all p.0 p.1 wide_left);
            unions = λ i. h.1.unions i && k.1.unions i;
            projects = λ i. h.1.projects i || k.1.projects i;
          } in
          (reach_is, fine)

  excepted_right : (all : Bool) (run : Run) (x : Relation) (w v : Reach) → RunIs run w → Right x v → IfOk (b.operated true all (closed run) x >>= λ y. Ok (begun y)) (λ next. RunIs next (a.operated true all w v))
  excepted_right all run x w v h k =
      bind (b.operated true all (closed run) x) (λ y. Ok (begun y)) (λ y. Right y (a.operated true all w v)) (λ next. RunIs next (a.operated true all w v)) (operated_right true all (closed run) x w v (closed_right run w h) k) (λ y l. begun_is y (a.operated true all w v) l)

  word_right : (word : SetWord) (run : Run) (x : Relation) (w v : Reach) → RunIs run w → Right x v → IfOk (b.by_word word run x) (λ next. RunIs next (a.by_word word w v))
  word_right UnionAll run x w v h k =
      bind (united run.scope x.scope) _ (λ both. (cs : List ColTy) × (common_columns (types run.scope) (types x.scope) ≡ Some cs) × (retyped run.scope cs ≡ both)) _ (united_right run.scope x.scope) (λ both p.
      subst (λ s. RunIs (longer run x s) (union w v)) p.2 (one_more run x p.0 w v h k p.1))
  word_right Except run x w v h k = excepted_right false run x w v h k
  word_right ExceptAll run x w v h k = excepted_right true run x w v h k

  -- ---- the tree

  abbrev D : List TableDef
  D = map (λ x. x.table) tables

  -- ---- conjuncts of a WHERE

  -- what is left of conjuncts that are one alone
  only_one : (outside : Outside) (own : Scope) (n : ℕ) (p : a.Part) → n < 1 → PartsAre T outside own [] (without n (p ∷ []))
  only_one outside own zero p l = tt
  only_one outside own (suc n) p l = absurd (omega arith)

  plain_right_part : (outside : Outside) (own : Scope) (c : t.Tree) → IfOk (plain_part outside own c >>= alone) (λ ps. PartsAre T outside own ps (a.Plain c ∷ []))
  plain_right_part outside own c = bind (plain_part outside own c) alone (λ p. PartIs T outside own p (a.Plain c)) _ (plain_means T outside own c) (λ p h. (h, tt))

  alone_part : (outside : Outside) (own : Scope) (o : Checked b.Part) (q : a.Part) → IfOk o (λ p. PartIs T outside own p q) → IfOk (o >>= alone) (λ ps. PartsAre T outside own ps (q ∷ []))
  alone_part outside own o q h = bind o alone (λ p. PartIs T outside own p q) _ h (λ p k. (k, tt))

  one_part : (outside : Outside) (own : Scope) (o : Checked b.Part) (q : a.Part) → IfOk o (λ p. (outside : Outside) → PartIs T outside own p q) → IfOk (o >>= alone) (λ ps. PartsAre T outside own ps (q ∷ []))
  one_part outside own o q h = bind o alone (λ p. (outside : Outside) → PartIs T outside own p q) _ h (λ p k. (k outside, tt))

  -- sources, joined from the left
  sources_right : (from : t.Source) (joins : t.JoinItems) → IfOk (source_bound false D from) (λ x. Right x (a.answer_source tables from)) → ((x : Relation) (w : Reach) → Right x w → IfOk (b.joins_bound false D joins x) (λ y. Right y (a.from_joins tables w joins)))
      → IfOk (source_bound false D from >>= b.joins_bound false D joins) (λ x. Right x (a.from_joins tables (a.answer_source tables from) joins))
  sources_right from joins h k = bind (source_bound false D from) (b.joins_bound false D joins) (λ x. Right x (a.answer_source tables from)) _ h (λ x l. k x (a.answer_source tables from) l)

  -- ---- FROM and WHERE

  -- all conjuncts but the one that is spent
  abbrev left_of : Option ℕ → List a.Part → List a.Part
  left_of None qs = qs
  left_of (Some n) qs = without n qs

  -- what is spent is there
  abbrev IsSpent : t.OptionalTree → Option ℕ → Type 0
  IsSpent c None = Unit {0}
  IsSpent c (Some n) = n < length (a.conjuncts_if c)

  mutual
    parts_count : (x : t.Tree) → length (a.parts tables x) ≡ length (a.conjuncts x)
    parts_count (t.And xs) = all_parts_count xs
    parts_count (t.Paren x) = parts_count x
    parts_count (t.InQuery x q false) = refl
    parts_count (t.InQuery x q true) = refl
    parts_count _ = refl

    all_parts_count : (xs : t.Trees) → length (a.all_parts tables xs) ≡ length (a.all_conjuncts xs)
    all_parts_count t.no_trees = refl
    all_parts_count (t.tree_and x xs) =
        length-append (a.parts tables x) (a.all_parts tables xs) ∙ ((λ i. parts_count x i + all_parts_count xs i) ∙ sym (length-append (a.conjuncts x) (a.all_conjuncts xs)))

  -- a query with a rank, bound
  pub record AloneIs (y : b.Alone) (w : a.Alone) : Type 0 where
    pub alias_is : y.alias ≡ w.alias
    pub query : Ranked
    pub over : Relation
    pub list_is : ListIs query over y.list
    pub ranked_is : query ≡ w.list
    pub reach_is : R y.list.input ≡ w.reach
    pub fine : FineAt T y.list.input

  abbrev ReadIs : b.Read → a.Read → Type 0
  ReadIs (b.Joined x) (a.Joined w) = Right x w
  ReadIs (b.Joined x) (a.Only w) = ⊥
  ReadIs (b.Only y) (a.Joined w) = ⊥
  ReadIs (b.Only y) (a.Only w) = AloneIs y w

  abbrev AlonesAre : Option (Checked b.Alone) → Option a.Alone → Type 0
  AlonesAre None None = Unit {0}
  AlonesAre None (Some w) = ⊥
  AlonesAre (Some o) None = ⊥
  AlonesAre (Some o) (Some w) = IfOk o (λ y. AloneIs y w)

  read_is : (joins : t.JoinItems) (o : Option (Checked b.Alone)) (p : Option a.Alone) (r : Checked Relation) (w : Reach) → AlonesAre o p → IfOk r (λ x. Right x w) → IfOk (b.read_by joins o r) (λ y. ReadIs y (a.read_by joins p w))
  read_is t.no_joins None None r w h k = bind r _ (λ x. Right x w) (λ y. ReadIs y (a.Joined w)) k (λ x l. l)
  read_is t.no_joins None (Some v) r w h k = absurd h
  read_is t.no_joins (Some o) None r w h k = absurd h
  read_is t.no_joins (Some o) (Some v) r w h k = bind o _ (λ y. AloneIs y v) (λ y. ReadIs y (a.Only v)) h (λ y l. l)
  read_is (t.join_and j js) o p r w h k = bind r _ (λ x. Right x w) (λ y. ReadIs y (a.Joined w)) k (λ x l. l)

  -- the columns in reach, with what is spent of the conjuncts
  pub record FrameIs (outer : t.Select) (w : a.Read) (f : b.Framed) : Type 0 where
    pub reach_is : (ps : List a.Part) → R f.relation ≡ (a.from_where D outer w ps).reach
    pub fine : FineAt T f.relation
    pub parts_are : (ps : List a.Part) → left_of f.spent ps ≡ (a.from_where D outer w ps).parts
    pub there : (n : ℕ) → f.spent ≡ Some n → n < length (a.select_conjuncts outer)

  abbrev BoundedIs : t.Select → a.Alone → Option Top → b.Framed → Type 0
  BoundedIs outer w o f =
      ((ps : List a.Part) → R f.relation ≡ (a.bounded D w outer o ps).reach) × FineAt T f.relation × ((ps : List a.Part) → left_of f.spent ps ≡ (a.bounded D w outer o ps).parts) × ((n : ℕ) → f.spent ≡ Some n → n < length (a.select_conjuncts outer))

  bounded_right : (outer : t.Select) (y : b.Alone) (w : a.Alone) → AloneIs y w → (o : Option Top) → TopFits 0 (a.select_conjuncts outer) o → IfOk (b.bounded false D outer y o) (BoundedIs outer w o)
  bounded_right outer y w h None l = tt
  bounded_right outer y w h (Some top) l =
      let kept = a.is_kept D y.alias y.list.list outer top.conjunct in
      let p = first_right T h.query h.over y.list top.bound kept h.list_is h.fine l.0 in
      let x = b.first_ranked top.bound kept y.list in
      let q = renamed_right y.alias x (a.first_ranked y.list.list top.bound kept (R y.list.input)) p in
      let lists : y.list.list ≡ w.list = h.list_is.list_is ∙ h.ranked_is in (
        λ ps. q.0 ∙ (λ i. a.renamed (h.alias_is i) (a.first_ranked (lists i) top.bound (a.is_kept D (h.alias_is i) (lists i) outer top.conjunct) (h.reach_is i))),
        q.1,
        λ ps. refl,
        λ n e. let j : top.conjunct ≡ n = some_is top.conjunct n e in subst (λ m. m < length (a.select_conjuncts outer)) j (let k : top.conjunct < 0 + length (a.select_conjuncts outer) = l.2 in omega arith),
      )

  frame_right : (outer : t.Select) (y : b.Read) (w : a.Read) → ReadIs y w → IfOk (b.framed false D outer y) (FrameIs outer w)
  frame_right outer (b.Joined x) (a.Joined w) h = record { reach_is = λ ps. h.0; fine = h.1; parts_are = λ ps. refl; there = λ n e. absurd (cc) }
  frame_right outer (b.Joined x) (a.Only w) h = absurd h
  frame_right outer (b.Only y) (a.Joined w) h = absurd h
  frame_right outer (b.Only y) (a.Only w) h =
      let cs = a.select_conjuncts outer in
      let lists : y.list.list ≡ w.list = h.list_is.list_is ∙ h.ranked_is in
      let top = a.top_of y.alias y.list.input.scope y.list.list cs in
      let same : top ≡ a.top_of w.alias w.reach.scope w.list cs = (λ i. a.top_of (h.alias_is i) (h.reach_is i).scope (lists i) cs) in
      weaker (b.framed false D outer (b.Only y)) (BoundedIs outer w top) (FrameIs outer (a.Only w))
      (bounded_right outer y w h top (top_fits 0 (find (a.ranked_names y.alias y.list.input.scope y.list.list)) (length (entries y.list.input.scope y.list.list.ahead)) cs))
      (λ f k. record {
        reach_is = λ ps. k.0 ps ∙ (λ i. (a.bounded D w outer (same i) ps).reach);
        fine = k.1;
        parts_are = λ ps. k.2 ps ∙ (λ i. (a.bounded D w outer (same i) ps).parts);
        there = k.3;
      })

  -- what FROM and WHERE of a select are bound to
  pub record GatheredIs (outside : Outside) (f : b.FromWhere) (g : a.FromWhere) : Type 0 where
    pub reach_is : R f.relation ≡ g.reach
    pub fine : FineAt T f.relation
    pub parts_are : PartsAre T outside f.relation.scope f.parts g.parts
    pub tested : list_all is_test f.parts ≡ true

  -- the rows that they give
  gathered_kept : (f : b.FromWhere) (g : a.FromWhere) → GatheredIs None f g → Right (b.kept f.parts f.relation) (a.filtered g.parts g.reach)
  gathered_kept f g h =
      let p = kept_right T None f.relation f.parts g.parts h.parts_are h.tested h.fine in
      (p.0 ∙ ap (a.filtered g.parts) h.reach_is, p.1)

  refused : (o : Checked RankedList) (P : Relation → Type 0) → IfOk (o >>= b.unbounded false) P
  refused (Ok x) P = tt
  refused (Err code) P = tt

  listed_right : (x : t.Select) (f : b.FromWhere) (g : a.FromWhere) → GatheredIs None f g → IfOk (b.select_over false x f) (λ y. Right y (a.select_over x g))
  listed_right (t.select_of distinct items from joins condition groups having) f g h = go (ranked_select (t.select_of distinct items from joins condition groups having))
    where
      go : (o : Option Ranked) → IfOk (b.listed_by false o (t.select_of distinct items from joins condition groups having) (b.kept f.parts f.relation)) (λ y. Right y (a.select_over (t.select_of distinct items from joins condition groups having) g))
      go None =
          let y = b.kept f.parts f.relation in
          let p = gathered_kept f g h in
          weaker (b.selected distinct (entries y.scope items) (listed_trees groups) having y) _ _ (selected_right distinct (entries y.scope items) groups having y p.1)
          (λ z k. (k.0 ∙ ap (λ v. a.selected distinct (entries v.scope items) (listed_trees groups) having v) p.0, k.1))
      go (Some q) = refused (ranked_list q (b.kept f.parts f.relation)) (λ y. Right y (a.select_over (t.select_of distinct items from joins condition groups having) g))

  select_is : (x : t.Select) → IfOk (b.gathered_bound false D None x) (λ f. GatheredIs None f (a.gathered tables x)) → IfOk (b.select_bound false D x) (λ y. Right y (a.answer_select tables x))
  select_is x h = bind (b.gathered_bound false D None x) (b.select_over false x) (λ f. GatheredIs None f (a.gathered tables x)) _ h (λ f k. listed_right x f (a.gathered tables x) k)

  inside_is : (anti : Bool) (own : Scope) (x : t.Select) (xs : t.SelectTails) (ts : t.TermTails) (order : t.SortList) (limit : Option Text) → IfOk (b.gathered_bound false D (Some own) x) (λ f. GatheredIs (Some own) f (a.gathered tables x))
      → IfOk (b.inside_bound false D anti own x) (λ p. (outside : Outside) → PartIs T outside own p (a.Exists anti (a.inside tables (t.query_of (t.term_of x xs) ts order limit))))
  inside_is anti own x xs ts order limit h =
      bind (b.gathered_bound false D (Some own) x) (b.exists_over false anti x) (λ f. GatheredIs (Some own) f (a.gathered tables x)) _ h (λ f k.
      then (b.list_inside false (ranked_select x) x f.relation) _ _ (λ listed e outside.
      exists_right T anti own f.relation (a.gathered tables x).reach f.parts (a.gathered tables x).parts k.reach_is k.fine k.parts_are k.tested))

  alone_is : (alias : Option Text) (x : t.Select) → IfOk (b.gathered_bound false D None x) (λ f. GatheredIs None f (a.gathered tables x)) → (o : Option Ranked)
      → AlonesAre (option_map (b.alone_of alias (b.gathered_bound false D None x)) o) (a.alone_of alias o (a.gathered tables x))
  alone_is alias x h None = tt
  alone_is alias x h (Some q) =
      bind (b.gathered_bound false D None x) _ (λ f. GatheredIs None f (a.gathered tables x)) _ h (λ f k.
      let p = gathered_kept f (a.gathered tables x) k in
      let z = b.kept f.parts f.relation in
      bind (ranked_list q z) _ (ListIs q z) _ (list_right q z) (λ y l.
      record {
        alias_is = refl;
        query = q;
        over = z;
        list_is = l;
        ranked_is = refl;
        reach_is = ap R l.input_is ∙ p.0;
        fine = subst (FineAt T) (sym l.input_is) p.1;
      }))

  mutual
    pub query_right : (q : t.Query) → IfOk (query_bound false D q) (λ x. Right x (a.answer tables q))
    query_right (t.query_of first rest order limit) =
        let w = a.answer_term tables first in
        bind (b.term_bound false D first) _ (λ x. Right x w) _ (term_right first) (λ x h.
        bind (b.beside_bound false D rest (begun x)) _ (λ run. RunIs run (a.beside tables w rest)) _ (beside_right rest (begun x) w (begun_is x w h)) (λ run k.
        tested_else (is_plain order limit) (Ok (closed run)) Unsupported (λ z. Right z (a.beside tables w rest)) (λ e. closed_right run (a.beside tables w rest) k)))

    beside_right : (xs : t.TermTails) (run : Run) (w : Reach) → RunIs run w → IfOk (b.beside_bound false D xs run) (λ next. RunIs next (a.beside tables w xs))
    beside_right t.no_term_tails run w h = h
    beside_right (t.term_tail_and (t.term_tail_of word x) xs) run w h =
        let v = a.answer_term tables x in
        bind (b.term_bound false D x) _ (λ y. Right y v) _ (term_right x) (λ y k.
        bind (b.by_word word run y) (b.beside_bound false D xs) (λ next. RunIs next (a.by_word word w v)) _ (word_right word run y w v h k) (λ next l. beside_right xs next (a.by_word word w v) l))

    term_right : (x : t.Term) → IfOk (b.term_bound false D x) (λ y. Right y (a.answer_term tables x))
    term_right (t.term_of x xs) =
        bind (b.select_bound false D x) (b.intersected_bound false D xs) (λ y. Right y (a.answer_select tables x)) _ (select_is x (gathered_right None x)) (λ y h. intersected_right xs y (a.answer_select tables x) h)

    intersected_right : (xs : t.SelectTails) (x : Relation) (w : Reach) → Right x w → IfOk (b.intersected_bound false D xs x) (λ y. Right y (a.intersected tables w xs))
    intersected_right t.no_select_tails x w h = h
    intersected_right (t.select_tail_and (t.select_tail_of all y) ys) x w h =
        let v = a.answer_select tables y in
        bind (b.select_bound false D y) _ (λ z. Right z v) _ (select_is y (gathered_right None y)) (λ z k.
        bind (b.operated false all x z) (b.intersected_bound false D ys) (λ u. Right u (a.operated false all w v)) _ (operated_right false all x z w v h k) (λ u l. intersected_right ys u (a.operated false all w v) l))

    gathered_right : (outside : Outside) (x : t.Select) → IfOk (b.gathered_bound false D outside x) (λ f. GatheredIs outside f (a.gathered tables x))
    gathered_right outside (t.select_of distinct items from joins condition groups having) =
        let outer = t.select_of distinct items from joins condition groups having in
        let joined = a.from_joins tables (a.answer_source tables from) joins in
        let w = a.read_by joins (a.alone_in tables from) joined in
        let C = a.where_parts tables condition in
        bind (b.read_by joins (b.alone_bound false D from) (source_bound false D from >>= b.joins_bound false D joins) >>= b.framed false D outer) _ (FrameIs outer w) _
        (bind (b.read_by joins (b.alone_bound false D from) (source_bound false D from >>= b.joins_bound false D joins)) (b.framed false D outer) (λ y. ReadIs y w) (FrameIs outer w)
        (read_is joins (b.alone_bound false D from) (a.alone_in tables from) (source_bound false D from >>= b.joins_bound false D joins) joined (alone_right from) (sources_right from joins (source_right from) (joins_right joins)))
        (λ y h. frame_right outer y w h))
        (λ f h.
        bind (b.where_bound false D f.spent outside f.relation.scope condition) _ (λ ps. PartsAre T outside f.relation.scope ps (left_of f.spent C) × (list_all is_test ps ≡ true)) _
        (where_right f.spent outside f.relation.scope condition (spent_there f.spent condition h.there))
        (λ ps k. record {
          reach_is = h.reach_is C;
          fine = h.fine;
          parts_are = subst (λ (qs : List a.Part). PartsAre T outside f.relation.scope ps qs) (h.parts_are C) k.0;
          tested = k.1;
        }))
      where
        spent_there : (o : Option ℕ) (c : t.OptionalTree) → ((n : ℕ) → o ≡ Some n → n < length (a.conjuncts_if c)) → IsSpent c o
        spent_there None c h = tt
        spent_there (Some n) c h = h n refl

    -- a query of one select, which has a rank
    alone_right : (from : t.Source) → AlonesAre (b.alone_bound false D from) (a.alone_in tables from)
    alone_right (t.Table name alias) = tt
    alone_right (t.FromQuery (t.query_of (t.term_of x xs) ts order limit) alias) = alone_is alias x (gathered_right None x) (ranked_query (t.query_of (t.term_of x xs) ts order limit))

    where_right : (spent : Option ℕ) (outside : Outside) (own : Scope) (c : t.OptionalTree) → IsSpent c spent → IfOk (b.where_bound false D spent outside own c) (λ ps. PartsAre T outside own ps (left_of spent (a.where_parts tables c)) × (list_all is_test ps ≡ true))
    where_right None outside own t.no_tree l = (tt, refl)
    where_right (Some n) outside own t.no_tree l = (tt, refl)
    where_right None outside own (t.some_tree x) l =
        bind (b.parts_bound false D outside own x) tests (λ ps. PartsAre T outside own ps (a.parts tables x)) _ (parts_right outside own x) (λ ps h. tests_pass ps (λ qs. PartsAre T outside own qs (a.parts tables x)) h)
    where_right (Some n) outside own (t.some_tree x) l =
        bind (b.parts_but false D n outside own x) tests (λ ps. PartsAre T outside own ps (without n (a.parts tables x))) _ (but_right n outside own x l) (λ ps h. tests_pass ps (λ qs. PartsAre T outside own qs (without n (a.parts tables x))) h)

    -- all conjuncts but one
    but_right : (n : ℕ) (outside : Outside) (own : Scope) (x : t.Tree) → n < length (a.conjuncts x) → IfOk (b.parts_but false D n outside own x) (λ ps. PartsAre T outside own ps (without n (a.parts tables x)))
    but_right n outside own (t.And xs) l =
        bind (b.all_parts_but false D n outside own xs) tests (λ ps. PartsAre T outside own ps (without n (a.all_parts tables xs))) _ (all_but_right n outside own xs l) (λ ps h.
        weaker (tests ps) _ _ (tests_pass ps (λ qs. PartsAre T outside own qs (without n (a.all_parts tables xs))) h) (λ qs k. k.0))
    but_right n outside own (t.Paren x) l = but_right n outside own x l
    but_right n outside own (t.Exists q) l = only_one outside own n (a.Exists false (a.inside tables q)) l
    but_right n outside own (t.Not x) l = only_one outside own n (a.denied tables (t.Not x) x) l
    but_right n outside own (t.InQuery x q false) l = only_one outside own n (a.Member x (a.answer tables q)) l
    but_right n outside own (t.InQuery x q true) l = only_one outside own n (a.Plain (t.InQuery x q true)) l
    but_right n outside own (t.Or xs) l = only_one outside own n (a.Plain (t.Or xs)) l
    but_right n outside own (t.Compare op x y) l = only_one outside own n (a.Plain (t.Compare op x y)) l
    but_right n outside own (t.IsNull x negated) l = only_one outside own n (a.Plain (t.IsNull x negated)) l
    but_right n outside own (t.Between x low high negated) l = only_one outside own n (a.Plain (t.Between x low high negated)) l
    but_right n outside own (t.InList x xs negated) l = only_one outside own n (a.Plain (t.InList x xs negated)) l
    but_right n outside own (t.Like x y negated) l = only_one outside own n (a.Plain (t.Like x y negated)) l
    but_right n outside own (t.Sum x xs) l = only_one outside own n (a.Plain (t.Sum x xs)) l
    but_right n outside own (t.Product x xs) l = only_one outside own n (a.Plain (t.Product x xs)) l
    but_right n outside own (t.Sign minus x) l = only_one outside own n (a.Plain (t.Sign minus x)) l
    but_right n outside own (t.Number text) l = only_one outside own n (a.Plain (t.Number text)) l
    but_right n outside own (t.Str text) l = only_one outside own n (a.Plain (t.Str text)) l
    but_right n outside own (t.Truth truth) l = only_one outside own n (a.Plain (t.Truth truth)) l
    but_right n outside own t.Null l = only_one outside own n (a.Plain t.Null) l
    but_right n outside own (t.Name of name quoted) l = only_one outside own n (a.Plain (t.Name of name quoted)) l
    but_right n outside own (t.Call name args filter o) l = only_one outside own n (a.Plain (t.Call name args filter o)) l
    but_right n outside own (t.Cast x ty) l = only_one outside own n (a.Plain (t.Cast x ty)) l
    but_right n outside own (t.Sub q) l = only_one outside own n (a.Plain (t.Sub q)) l
    but_right n outside own (t.Case whens otherwise) l = only_one outside own n (a.Plain (t.Case whens otherwise)) l

    all_but_right : (n : ℕ) (outside : Outside) (own : Scope) (xs : t.Trees) → n < length (a.all_conjuncts xs) → IfOk (b.all_parts_but false D n outside own xs) (λ ps. PartsAre T outside own ps (without n (a.all_parts tables xs)))
    all_but_right n outside own t.no_trees l = absurd (omega arith)
    all_but_right n outside own (t.tree_and x xs) l =
        let C = a.conjuncts x in
        let P = a.parts tables x in
        let Q = a.all_parts tables xs in
        go (nat_lt n (length C)) refl
        (λ s. bind (b.parts_but false D n outside own x) _ (λ ps. PartsAre T outside own ps (without n P)) _ (but_right n outside own x s) (λ ps h.
        bind (b.all_parts_bound false D outside own xs) _ (λ qs. PartsAre T outside own qs Q) _ (all_parts_right outside own xs) (λ qs k.
        subst (λ (zs : List a.Part). PartsAre T outside own (ps ++ qs) zs) (sym (without_front n P Q (subst (λ m. n < m) (sym (parts_count x)) s))) (parts_append T outside own ps qs (without n P) Q h k))))
        (λ s. bind (b.parts_bound false D outside own x) _ (λ ps. PartsAre T outside own ps P) _ (parts_right outside own x) (λ ps h.
        bind (b.all_parts_but false D (n - length C) outside own xs) _ (λ qs. PartsAre T outside own qs (without (n - length C) Q)) _
        (all_but_right (n - length C) outside own xs (let e = length-append C (a.all_conjuncts xs) in let m : n < length (C ++ a.all_conjuncts xs) = l in omega (arith, e))) (λ qs k.
        subst (λ (zs : List a.Part). PartsAre T outside own (ps ++ qs) zs)
        (sym (without_behind n P Q (subst (λ m. m ≤ n) (sym (parts_count x)) s) ∙ ap (λ m. P ++ without (n - m) Q) (parts_count x)))
        (parts_append T outside own ps qs P (without (n - length C) Q) h k))))
      where
        go : (t : Bool) → nat_lt n (length (a.conjuncts x)) ≡ t
            → (n < length (a.conjuncts x) → IfOk (b.parts_but false D n outside own x >>= λ ps. b.all_parts_bound false D outside own xs >>= λ qs. Ok (ps ++ qs)) (λ ps. PartsAre T outside own ps (without n (a.parts tables x ++ a.all_parts tables xs))))
            → (length (a.conjuncts x) ≤ n → IfOk (b.parts_bound false D outside own x >>= λ ps. b.all_parts_but false D (n - length (a.conjuncts x)) outside own xs >>= λ qs. Ok (ps ++ qs)) (λ ps. PartsAre T outside own ps (without n (a.parts tables x ++ a.all_parts tables xs))))
            → IfOk (cond t (b.parts_but false D n outside own x >>= λ ps. b.all_parts_bound false D outside own xs >>= λ qs. Ok (ps ++ qs)) (b.parts_bound false D outside own x >>= λ ps. b.all_parts_but false D (n - length (a.conjuncts x)) outside own xs >>= λ qs. Ok (ps ++ qs)))
            (λ ps. PartsAre T outside own ps (without n (a.parts tables x ++ a.all_parts tables xs)))
        go true e h k = h (ltb-true n (length (a.conjuncts x)) e)
        go false e h k = k (let s = ltb-false n (length (a.conjuncts x)) e in omega arith)

    parts_right : (outside : Outside) (own : Scope) (x : t.Tree) → IfOk (b.parts_bound false D outside own x) (λ ps. PartsAre T outside own ps (a.parts tables x))
    parts_right outside own (t.And xs) =
        bind (b.all_parts_bound false D outside own xs) tests (λ ps. PartsAre T outside own ps (a.all_parts tables xs)) _ (all_parts_right outside own xs) (λ ps h.
        weaker (tests ps) _ _ (tests_pass ps (λ qs. PartsAre T outside own qs (a.all_parts tables xs)) h) (λ qs k. k.0))
    parts_right outside own (t.Paren x) = parts_right outside own x
    parts_right outside own (t.Exists q) = one_part outside own (b.exists_bound false D false own q) (a.Exists false (a.inside tables q)) (exists_query_right false own q)
    parts_right outside own (t.Not x) = alone_part outside own (b.denied_bound false D outside own (t.Not x) x) (a.denied tables (t.Not x) x) (denied_right outside own (t.Not x) x)
    parts_right outside own (t.InQuery x q false) =
        bind (plain_part outside own x >>= own_value) _ (ValueIs T own x) _ (value_means T outside own x) (λ v h.
        alone_part outside own (query_bound false D q >>= member_part own x v) (a.Member x (a.answer tables q))
        (bind (query_bound false D q) (member_part own x v) (λ y. Right y (a.answer tables q)) _ (query_right q) (λ y k.
        weaker (member_part own x v y) _ _ (member_right T own x v y (a.answer tables q) h k.0 k.1) (λ p l. l outside))))
    parts_right outside own (t.InQuery x q true) = plain_right_part outside own (t.InQuery x q true)
    parts_right outside own (t.Or xs) = plain_right_part outside own (t.Or xs)
    parts_right outside own (t.Compare op x y) = plain_right_part outside own (t.Compare op x y)
    parts_right outside own (t.IsNull x negated) = plain_right_part outside own (t.IsNull x negated)
    parts_right outside own (t.Between x low high negated) = plain_right_part outside own (t.Between x low high negated)
    parts_right outside own (t.InList x xs negated) = plain_right_part outside own (t.InList x xs negated)
    parts_right outside own (t.Like x y negated) = plain_right_part outside own (t.Like x y negated)
    parts_right outside own (t.Sum x xs) = plain_right_part outside own (t.Sum x xs)
    parts_right outside own (t.Product x xs) = plain_right_part outside own (t.Product x xs)
    parts_right outside own (t.Sign minus x) = plain_right_part outside own (t.Sign minus x)
    parts_right outside own (t.Number text) = plain_right_part outside own (t.Number text)
    parts_right outside own (t.Str text) = plain_right_part outside own (t.Str text)
    parts_right outside own (t.Truth truth) = plain_right_part outside own (t.Truth truth)
    parts_right outside own t.Null = plain_right_part outside own t.Null
    parts_right outside own (t.Name of name quoted) = plain_right_part outside own (t.Name of name quoted)
    parts_right outside own (t.Call name args filter o) = plain_right_part outside own (t.Call name args filter o)
    parts_right outside own (t.Cast x ty) = plain_right_part outside own (t.Cast x ty)
    parts_right outside own (t.Sub q) = plain_right_part outside own (t.Sub q)
    parts_right outside own (t.Case whens otherwise) = plain_right_part outside own (t.Case whens otherwise)

    all_parts_right : (outside : Outside) (own : Scope) (xs : t.Trees) → IfOk (b.all_parts_bound false D outside own xs) (λ ps. PartsAre T outside own ps (a.all_parts tables xs))
    all_parts_right outside own t.no_trees = tt
    all_parts_right outside own (t.tree_and x xs) =
        bind (b.parts_bound false D outside own x) _ (λ ps. PartsAre T outside own ps (a.parts tables x)) _ (parts_right outside own x) (λ ps h.
        bind (b.all_parts_bound false D outside own xs) _ (λ qs. PartsAre T outside own qs (a.all_parts tables xs)) _ (all_parts_right outside own xs) (λ qs k.
        parts_append T outside own ps qs (a.parts tables x) (a.all_parts tables xs) h k))

    denied_right : (outside : Outside) (own : Scope) (whole x : t.Tree) → IfOk (b.denied_bound false D outside own whole x) (λ p. PartIs T outside own p (a.denied tables whole x))
    denied_right outside own whole (t.Paren x) = denied_right outside own whole x
    denied_right outside own whole (t.Exists q) = weaker (b.exists_bound false D true own q) _ _ (exists_query_right true own q) (λ p h. h outside)
    denied_right outside own whole (t.And xs) = plain_means T outside own whole
    denied_right outside own whole (t.Or xs) = plain_means T outside own whole
    denied_right outside own whole (t.Not x) = plain_means T outside own whole
    denied_right outside own whole (t.InQuery x q negated) = plain_means T outside own whole
    denied_right outside own whole (t.Compare op x y) = plain_means T outside own whole
    denied_right outside own whole (t.IsNull x negated) = plain_means T outside own whole
    denied_right outside own whole (t.Between x low high negated) = plain_means T outside own whole
    denied_right outside own whole (t.InList x xs negated) = plain_means T outside own whole
    denied_right outside own whole (t.Like x y negated) = plain_means T outside own whole
    denied_right outside own whole (t.Sum x xs) = plain_means T outside own whole
    denied_right outside own whole (t.Product x xs) = plain_means T outside own whole
    denied_right outside own whole (t.Sign minus x) = plain_means T outside own whole
    denied_right outside own whole (t.Number text) = plain_means T outside own whole
    denied_right outside own whole (t.Str text) = plain_means T outside own whole
    denied_right outside own whole (t.Truth truth) = plain_means T outside own whole
    denied_right outside own whole t.Null = plain_means T outside own whole
    denied_right outside own whole (t.Name of name quoted) = plain_means T outside own whole
    denied_right outside own whole (t.Call name args filter o) = plain_means T outside own whole
    denied_right outside own whole (t.Cast x ty) = plain_means T outside own whole
    denied_right outside own whole (t.Sub q) = plain_means T outside own whole
    denied_right outside own whole (t.Case whens otherwise) = plain_means T outside own whole

    exists_query_right : (anti : Bool) (own : Scope) (q : t.Query) → IfOk (b.exists_bound false D anti own q) (λ p. (outside : Outside) → PartIs T outside own p (a.Exists anti (a.inside tables q)))
    exists_query_right anti own (t.query_of (t.term_of x xs) ts order limit) =
        tested_else (is_simple x && is_sole (t.query_of (t.term_of x xs) ts order limit)) (b.inside_bound false D anti own x) Unsupported _ (λ e. inside_is anti own x xs ts order limit (gathered_right (Some own) x))

    pub source_right : (from : t.Source) → IfOk (source_bound false D from) (λ x. Right x (a.answer_source tables from))
    source_right (t.Table name alias) = read_right alias (find_source 0 D name) (find_table tables name) (found_at 0 tables name)
    source_right (t.FromQuery q alias) = bind (query_bound false D q) _ (λ x. Right x (a.answer tables q)) _ (query_right q) (λ x h. renamed_right alias x (a.answer tables q) h)

    pub joins_right : (js : t.JoinItems) (x : Relation) (w : Reach) → Right x w → IfOk (b.joins_bound false D js x) (λ y. Right y (a.from_joins tables w js))
    joins_right t.no_joins x w h = h
    joins_right (t.join_and (t.join_of word source on) js) x w h =
        let other = a.answer_source tables source in
        bind (source_bound false D source) _ (λ y. Right y other) _ (source_right source) (λ y k.
        bind (b.joined (kind_of word) x y on) (b.joins_bound false D js) (λ z. Right z (a.joined (kind_of word) w other on)) (λ z. Right z (a.from_joins tables (a.joined (kind_of word) w other on) js))
        (weaker (b.joined (kind_of word) x y on) _ _ (joined_right T (kind_of word) x y on h.1 k.1) (λ z l. (l.0 ∙ (λ i. a.joined (kind_of word) (h.0 i) (k.0 i) on), l.1)))
        (λ z l. joins_right js z (a.joined (kind_of word) w other on) l))
