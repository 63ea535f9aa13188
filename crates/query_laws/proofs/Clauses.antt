-- Each clause of the binding makes the algebra whose answer is that clause of the query's answer.
use Rattle.std.proofs.Common.{◌≡◌, ℕ, suc, ◌+◌, Bool, true, false, ◌||◌, List, [], ◌∷◌, ◌++◌, map, length, Option, Some, None, cond, refl, sym, ap, ◌∙◌, subst, option_and_then, option_map, slice_get, unwrap_or, arith, append_assoc, length-append, eqb-true}
use Rattle.ct_value.specs.Order.{row_total, row_exact}
use Rattle.ct_value.specs.declared.row.Row.{Row}
use Rattle.ct_value.specs.declared.ty.ColTy.{ColTy}
use Rattle.ct_value.specs.declared.ty.Ty.{Ty}
use Rattle.ct_change.specs.Changelog.{Rows}
use Rattle.ct_expr.specs.Expr.{Expr}
use Rattle.ct_expr.specs.Expr as e
use Rattle.ct_expr.specs.Eval.{eval}
use Rattle.ct_expr.specs.Types.{type_of, both_of, same_ty}
use Rattle.rel_algebra.specs.Clauses.{row_of, collect, project_rows}
use Rattle.rel_algebra.specs.Sums.{Each}
use Rattle.rel_algebra.proofs.laws.Clauses.{each-project_rows, length-collect}
use Rattle.rel_algebra.specs.Answer.{Table, answer, types_in}
use Rattle.rel_algebra.specs.Rel.{Rel}
use Rattle.rel_algebra.specs.Rel as r
use Rattle.rel_algebra.specs.Types.{columns_of, item_columns}
use Rattle.binding.specs.Nodes.{Bound, expr_list}
use Rattle.binding.specs.Queries.{is_column, is_in_place, projected}
use Rattle.query_laws.specs.Statement.{has_idle_project}
use Rattle.rel_algebra.specs.Unions.{has_full_unions}
use Rattle.query_laws.proofs.Bags.{made_all, mapped_itself, each_map, each_any}
use Rattle.query_laws.proofs.Lists.{map_length, slice_behind, cell_behind, no_length, both_true}
use Rattle.query_laws.proofs.Options.{cond_some, and_then_parts, some_is}

-- ---- items in place

-- each expression has its type over these columns
abbrev pub AllTyped : List ColTy → List Bound → Type 0
AllTyped cols [] = Unit {0}
AllTyped cols (x ∷ xs) = (type_of x.expr cols ≡ Some x.column) × AllTyped cols xs

abbrev pub tys : List Bound → List ColTy
tys xs = map (λ x. x.column) xs

-- what is in place: the n-th column, and there are as many columns as items
column_there : (n : ℕ) (x : Expr) → is_column n x ≡ true → (ty : Ty) × (x ≡ e.Column n ty)
column_there n (e.Column m ty) h = (ty, ap (λ k. e.Column k ty) (sym (eqb-true n m h)))
column_there n _ h = absurd (cc)

place_length : (n width : ℕ) (xs : List Bound) → is_in_place n width (expr_list xs) ≡ true → n + length xs ≡ width
place_length n width [] h = let q = eqb-true n width h in omega arith
place_length n width (x ∷ xs) h = let p = both_true (is_column n x.expr) _ h in let q = place_length (suc n) width xs p.1 in omega arith

place_row : (n width : ℕ) (xs : List Bound) (pre rest : Row) → length pre ≡ n → length (pre ++ rest) ≡ width → is_in_place n width (expr_list xs) ≡ true → row_of (map eval (expr_list xs)) (pre ++ rest) ≡ Some rest
place_row n width [] pre rest l w h = ap Some (sym (no_length rest (let q = eqb-true n width h in omega (arith, length-append pre rest))))
place_row n width (x ∷ xs) pre [] l w h = absurd (let p = both_true (is_column n x.expr) _ h in let q = place_length (suc n) width xs p.1 in omega (arith, length-append pre []))
place_row n width (x ∷ xs) pre (v ∷ rest) l w h =
    let p = both_true (is_column n x.expr) _ h in
    let c = column_there n x.expr p.0 in
    let value : eval x.expr (pre ++ v ∷ rest) ≡ Some v = ap (λ z. eval z (pre ++ v ∷ rest)) c.1 ∙ ap Some (cell_behind pre rest v n l) in
    let moved : (pre ++ v ∷ []) ++ rest ≡ pre ++ v ∷ rest = append_assoc pre (v ∷ []) rest in
    let others : row_of (map eval (expr_list xs)) (pre ++ v ∷ rest) ≡ Some rest =
    ap (row_of (map eval (expr_list xs))) (sym moved) ∙ place_row (suc n) width xs (pre ++ v ∷ []) rest (omega (arith, length-append pre (v ∷ []))) (ap length moved ∙ w) p.1 in
    ap (λ o. collect (o ∷ map (λ f. f (pre ++ v ∷ rest)) (map eval (expr_list xs)))) value ∙ ap (option_map (λ vs. v ∷ vs)) others

place_types : (n width : ℕ) (xs : List Bound) (pre rest : List ColTy) → length pre ≡ n → length (pre ++ rest) ≡ width → is_in_place n width (expr_list xs) ≡ true → AllTyped (pre ++ rest) xs → rest ≡ tys xs
place_types n width [] pre rest l w h k = no_length rest (let q = eqb-true n width h in omega (arith, length-append pre rest))
place_types n width (x ∷ xs) pre [] l w h k = absurd (let p = both_true (is_column n x.expr) _ h in let q = place_length (suc n) width xs p.1 in omega (arith, length-append pre []))
place_types n width (x ∷ xs) pre (c ∷ rest) l w h k =
    let p = both_true (is_column n x.expr) _ h in
    let d = column_there n x.expr p.0 in
    let found = and_then_parts (λ z. cond (same_ty z.ty d.0) (Some z) None) (slice_get (pre ++ c ∷ rest) n) x.column (sym (ap (λ z. type_of z (pre ++ c ∷ rest)) d.1) ∙ k.0) in
    let there : c ≡ found.0 = some_is c found.0 (sym (slice_behind pre rest c n l) ∙ found.1) in
    let first : c ≡ x.column = there ∙ cond_some (same_ty found.0.ty d.0) found.0 x.column found.2 in
    let moved : (pre ++ c ∷ []) ++ rest ≡ pre ++ c ∷ rest = append_assoc pre (c ∷ []) rest in
    let others : rest ≡ tys xs = place_types (suc n) width xs (pre ++ c ∷ []) rest (omega (arith, length-append pre (c ∷ []))) (ap length moved ∙ w) p.1 (subst (λ cols. AllTyped cols xs) (sym moved) k.1) in
    λ i. first i ∷ others i

-- the columns of items that have their types
items_typed : (cols : List ColTy) (xs : List Bound) → AllTyped cols xs → item_columns cols (expr_list xs) ≡ Some (tys xs)
items_typed cols [] h = refl
items_typed cols (x ∷ xs) h = λ i. both_of (λ column others. Some (column ∷ others)) (h.0 i) (items_typed cols xs h.1 i)

module _ (tables : List Table) where
  -- ---- what is known of an algebra with its columns in reach

  pub record Fine (rel : Rel) (columns : List ColTy) : Type 0 where
    -- it is well-typed
    pub typed : columns_of (types_in tables) rel ≡ Some columns
    -- its rows are as wide
    pub wide : (rows : Rows) → answer tables rel ≡ Some rows → Each (λ row. length row ≡ length columns) rows
    pub unions : has_full_unions rel ≡ true
    pub projects : has_idle_project (types_in tables) rel ≡ false

  -- ---- a Project, also where it is left out

  project_wide : (xs : List Bound) (o : Option Rows) (rows : Rows) → option_and_then (project_rows (map eval (expr_list xs))) o ≡ Some rows → Each (λ row. length row ≡ length (tys xs)) rows
  project_wide xs None rows q = absurd (cc)
  project_wide xs (Some first) rows q =
      each-project_rows (λ row. Unit {0}) (λ row. length row ≡ length (tys xs)) (map eval (expr_list xs))
      (λ row made u k. length-collect (map (λ f. f row) (map eval (expr_list xs))) made k ∙ map_length (λ f. f row) (map eval (expr_list xs)) ∙ map_length eval (expr_list xs) ∙ map_length (λ x. x.expr) xs ∙ sym (map_length (λ x. x.column) xs))
      first rows (each_any (λ row. Unit {0}) (λ row. tt) first) q

  -- rows whose items are in place are themselves
  in_place_rows : (width : ℕ) (xs : List Bound) (rows : Rows) → is_in_place 0 width (expr_list xs) ≡ true → Each (λ row. length row ≡ width) rows → project_rows (map eval (expr_list xs)) rows ≡ Some rows
  in_place_rows width xs rows h wide =
      made_all row_total row_exact row_total row_exact (row_of (map eval (expr_list xs))) (λ row. row) rows (each_map (λ row. length row ≡ width) (λ row. row_of (map eval (expr_list xs)) row ≡ Some row) (λ row l. place_row 0 width xs [] row refl l h) rows wide)
      ∙ ap Some (mapped_itself row_total row_exact (λ row. row) rows (each_any (λ row. row ≡ row) (λ row. refl) rows))

  pub projected_rows : (rel : Rel) (columns : List ColTy) → Fine rel columns → (xs : List Bound) → AllTyped columns xs
      → (answer tables (projected (length columns) xs rel) ≡ option_and_then (project_rows (map eval (expr_list xs))) (answer tables rel)) × Fine (projected (length columns) xs rel) (tys xs)
  projected_rows rel columns f xs h = go (is_in_place 0 (length columns) (expr_list xs)) refl
    where
      same : (o : Option Rows) → answer tables rel ≡ o → is_in_place 0 (length columns) (expr_list xs) ≡ true → o ≡ option_and_then (project_rows (map eval (expr_list xs))) o
      same None q k = refl
      same (Some rows) q k = sym (in_place_rows (length columns) xs rows k (f.wide rows q))

      go : (b : Bool) → is_in_place 0 (length columns) (expr_list xs) ≡ b
          → (answer tables (cond b rel (r.Project rel (expr_list xs))) ≡ option_and_then (project_rows (map eval (expr_list xs))) (answer tables rel)) × Fine (cond b rel (r.Project rel (expr_list xs))) (tys xs)
      go true q =
          let they : columns ≡ tys xs = place_types 0 (length columns) xs [] columns refl refl q h in (
            same (answer tables rel) refl q,
            subst (λ cs. Fine rel cs) they f,
          )
      go false q = (
        refl,
        record {
          typed = ap (option_and_then (λ cs. item_columns cs (expr_list xs))) f.typed ∙ items_typed columns xs h;
          wide = λ rows k. project_wide xs (answer tables rel) rows k;
          unions = f.unions;
          projects = (λ i. is_in_place 0 (width i) (expr_list xs) || f.projects i) ∙ ap (λ t. t || false) q;
        },
      )
        where
          width : length (unwrap_or (columns_of (types_in tables) rel) []) ≡ length columns
          width = ap (λ o. length (unwrap_or o [])) f.typed
