-- The rows of an answer have the columns that its tree's types tell.
use Rattle.std.proofs.Common.{◌≡◌, ℕ, zero, suc, List, [], ◌∷◌, Option, Some, None, refl, sym, ap, ◌∙◌, subst}
use Rattle.std.specs.Prelude.{slice_get, option_and_then}
use Rattle.std.specs.List.{AllByRecursion}
use Rattle.std.specs.Option.{unwrap_or}
use Rattle.ct_value.specs.Bag.{items, none}
use Rattle.ct_value.specs.Order.{row_total, row_exact}
use Rattle.ct_value.specs.declared.row.Row.{Row}
use Rattle.ct_value.specs.declared.ty.ColTy.{ColTy}
use Rattle.ct_change.specs.Changelog.{Rows}
use Rattle.ct_expr.specs.Types.{both_of}
use Rattle.rel_algebra.specs.Sums.{Each, plus, together}
use Rattle.rel_algebra.specs.Clauses.{Fits}
use Rattle.rel_algebra.proofs.laws.Bags.{each-none, each-together, plus_parts}
use Rattle.typing_laws.proofs.laws.CommonColumns.{both_parts, left_row, right_row}
use Rattle.typing_laws.proofs.laws.Operators.{unary_types, binary_types}
use Rattle.rel_algebra.specs.Rel.{Rel, Rels, Scan, One, Two, Many, no_rels, rel_and}
use Rattle.rel_algebra.specs.Batch.{unary_answer, binary_answer}
use Rattle.rel_algebra.specs.Types.{common_columns, unary_columns, binary_columns, columns_of, common_from}
use Rattle.rel_algebra.specs.Answer.{Table, types_in, rows_in, columns_in, answer, answers, AreTyped}

-- ---- parts of what is there

then_parts : {A B : Type 0} (f : A → Option B) (o : Option A) (b : B) → option_and_then f o ≡ Some b → (a : A) × (o ≡ Some a) × (f a ≡ Some b)
then_parts f None b e = absurd (cc)
then_parts f (Some a) b e = (a, refl, e)

all_rows : (columns common : List ColTy) → ((row : Row) → Fits columns row → Fits common row) → (rows : Rows) → Each (Fits columns) rows → Each (Fits common) rows
all_rows columns common m rows h = go (items rows) h
  where
    go : (xs : List Row) → AllByRecursion (Fits columns) xs → AllByRecursion (Fits common) xs
    go [] k = tt
    go (x ∷ xs) k = (m x k.0, go xs k.1)

-- ---- each node

scan_fits : (tables : List Table) (source : ℕ) (columns : List ColTy) → AreTyped tables → slice_get (types_in tables) source ≡ Some columns → Each (Fits columns) (rows_in tables source)
scan_fits [] source columns h e = absurd (cc)
scan_fits (table ∷ tables) zero columns h e = let i : table.columns ≡ columns = cc in subst (λ c. Each (Fits c) table.rows) i h.0
scan_fits (table ∷ tables) (suc source) columns h e = scan_fits tables source columns h.1 e

plus_both : (a b : Option Rows) (c : Rows) → plus a b ≡ Some c → (d e : Rows) × ((a ≡ Some d) × (b ≡ Some e) × (c ≡ together d e))
plus_both a b c e = plus_parts row_total row_exact a b c e

module _ (tables : List Table) (typed : AreTyped tables) where
  in_columns : (rel : Rel) (columns : List ColTy) → columns_of (types_in tables) rel ≡ Some columns → columns_in tables rel ≡ columns
  in_columns rel columns e = ap (λ o. unwrap_or o []) e

  mutual
    tree_fits : (rel : Rel) (columns : List ColTy) (rows : Rows) → columns_of (types_in tables) rel ≡ Some columns → answer tables rel ≡ Some rows → Each (Fits columns) rows
    tree_fits (Scan source) columns rows t e = let i : rows_in tables source ≡ rows = cc in subst (λ (r : Rows). Each (Fits columns) r) i (scan_fits tables source columns typed t)
    tree_fits (One how input) columns rows t e =
        let p = then_parts (unary_columns how) (columns_of (types_in tables) input) columns t in
        let q = then_parts (unary_answer how (columns_in tables input)) (answer tables input) rows e in
        (unary_types how).fits p.0 columns q.0 rows p.2 (tree_fits input p.0 q.0 p.1 q.1) (ap (λ c. unary_answer how c q.0) (sym (in_columns input p.0 p.1)) ∙ q.2)
    tree_fits (Two how left right) columns rows t e =
        let p = both_parts (binary_columns how) (columns_of (types_in tables) left) (columns_of (types_in tables) right) columns t in
        let q = both_parts (binary_answer how (columns_in tables left) (columns_in tables right)) (answer tables left) (answer tables right) rows e in
        (binary_types how).fits p.0 p.1 columns q.0 q.1 rows p.4 (tree_fits left p.0 q.0 p.2 q.2) (tree_fits right p.1 q.1 p.3 q.3)
        (sym (λ i. binary_answer how (in_columns left p.0 p.2 i) (in_columns right p.1 p.3 i) q.0 q.1) ∙ q.4)
    tree_fits (Many no_rels) columns rows t e = absurd (cc)
    tree_fits (Many (rel_and input inputs)) columns rows t e =
        let p = plus_both (answer tables input) (answers tables inputs) rows e in
        let q = trees_fit inputs (columns_of (types_in tables) input) columns p.1 t p.2.1 in
        subst (λ (r : Rows). Each (Fits columns) r) (sym p.2.2) (each-together row_total row_exact (Fits columns) p.0 p.1
        (all_rows q.0 columns q.2 p.0 (tree_fits input q.0 p.0 q.1 p.2.0)) q.3)

    trees_fit : (inputs : Rels) (start : Option (List ColTy)) (columns : List ColTy) (rows : Rows) → common_from (types_in tables) start inputs ≡ Some columns → answers tables inputs ≡ Some rows
        → (first_columns : List ColTy) × (start ≡ Some first_columns) × ((row : Row) → Fits first_columns row → Fits columns row) × Each (Fits columns) rows
    trees_fit no_rels start columns rows t e = (columns, t, (λ row h. h), let i : none ≡ rows = cc in subst (λ (r : Rows). Each (Fits columns) r) i (each-none row_total row_exact (Fits columns)))
    trees_fit (rel_and input inputs) start columns rows t e =
        let p = plus_both (answer tables input) (answers tables inputs) rows e in
        let q = trees_fit inputs (both_of common_columns start (columns_of (types_in tables) input)) columns p.1 t p.2.1 in
        let r = both_parts common_columns start (columns_of (types_in tables) input) q.0 q.1 in (
          r.0,
          r.2,
          (λ row h. q.2 row (left_row r.0 r.1 q.0 row r.4 h)),
          subst (λ (c : Rows). Each (Fits columns) c) (sym p.2.2) (each-together row_total row_exact (Fits columns) p.0 p.1
              (all_rows r.1 columns (λ row h. q.2 row (right_row r.0 r.1 q.0 row r.4 h)) p.0 (tree_fits input r.1 p.0 r.3 p.2.0)) q.3),
        )

pub answers_fit : (tables : List Table) → AreTyped tables → (rel : Rel) (columns : List ColTy) (rows : Rows) → columns_of (types_in tables) rel ≡ Some columns → answer tables rel ≡ Some rows → Each (Fits columns) rows
answers_fit tables typed rel columns rows t e = tree_fits tables typed rel columns rows t e
