-- A tree that doesn't scan the last table has its answer and its columns without that table.
use Rattle.std.proofs.Common.{◌≡◌, ℕ, zero, suc, ◌==◌, Bool, true, false, ◌||◌, List, [], ◌∷◌, ◌++◌, map, length, Option, Some, refl, sym, ap, ◌∙◌, option_and_then, slice_get, unwrap_or, eq-eqb, eqb-true}
use Rattle.ct_value.specs.Bag.{none}
use Rattle.ct_value.specs.declared.ty.ColTy.{ColTy}
use Rattle.ct_expr.specs.Types.{both_of}
use Rattle.rel_algebra.specs.Sums.{plus}
use Rattle.rel_algebra.specs.Answer.{Table, answer, answers, types_in}
use Rattle.rel_algebra.specs.Batch.{unary_answer, binary_answer}
use Rattle.rel_algebra.specs.Rel.{Rel, Rels, Scan, One, Two, Many, no_rels, rel_and}
use Rattle.rel_algebra.specs.Types.{columns_of, union_columns, common_from, common_columns, unary_columns, binary_columns}
use Rattle.binding.specs.Inserts.{scans, any_scans}
use Rattle.query_laws.proofs.Options.{map_append}

pub none_of : (a b : Bool) → (a || b) ≡ false → (a ≡ false) × (b ≡ false)
none_of true b e = absurd (cc)
none_of false true e = absurd (cc)
none_of false false e = (refl, refl)

-- a place that isn't the last one
not_last : {A : Type 0} (xs : List A) (x : A) (n : ℕ) → (length xs == n) ≡ false → slice_get (xs ++ x ∷ []) n ≡ slice_get xs n
not_last [] x zero e = absurd (let q = eq-eqb 0 0 refl in let p : true ≡ false = sym q ∙ e in cc)
not_last [] x (suc n) e = refl
not_last (y ∷ xs) x zero e = refl
not_last (y ∷ xs) x (suc n) e = not_last xs x n (unequal (length xs) n e)
  where
    unequal : (a b : ℕ) → (suc a == suc b) ≡ false → (a == b) ≡ false
    unequal a b e = go (a == b) refl
      where
        go : (t : Bool) → (a == b) ≡ t → t ≡ false
        go false q = refl
        go true q = absurd (let i = eqb-true a b q in let j = eq-eqb (suc a) (suc b) (ap suc i) in let p : true ≡ false = sym j ∙ e in cc)

module _ (tables : List Table) (table : Table) where
  abbrev all : List Table
  all = tables ++ table ∷ []

  abbrev n : ℕ
  n = length tables

  mapped_length : {A : Type 0} (f : Table → A) (xs : List Table) → length (map f xs) ≡ length xs
  mapped_length f [] = refl
  mapped_length f (x ∷ xs) = ap suc (mapped_length f xs)

  at_source : {A : Type 0} (f : Table → A) (source : ℕ) → (n == source) ≡ false → slice_get (map f all) source ≡ slice_get (map f tables) source
  at_source f source e = ap (λ xs. slice_get xs source) (map_append f tables (table ∷ [])) ∙ not_last (map f tables) (f table) source (ap (λ m. m == source) (mapped_length f tables) ∙ e)

  mutual
    pub columns_without : (rel : Rel) → scans n rel ≡ false → columns_of (types_in all) rel ≡ columns_of (types_in tables) rel
    columns_without (Scan source) e = at_source (λ t. t.columns) source e
    columns_without (One how input) e = ap (option_and_then (unary_columns how)) (columns_without input e)
    columns_without (Two how left right) e =
        let p = none_of (scans n left) (scans n right) e in
        λ i. both_of (binary_columns how) (columns_without left p.0 i) (columns_without right p.1 i)
    columns_without (Many inputs) e = union_without inputs e

    union_without : (inputs : Rels) → any_scans n inputs ≡ false → union_columns (types_in all) inputs ≡ union_columns (types_in tables) inputs
    union_without no_rels e = refl
    union_without (rel_and input inputs) e =
        let p = none_of (scans n input) (any_scans n inputs) e in
        common_without inputs p.1 (columns_of (types_in all) input) ∙ ap (λ c. common_from (types_in tables) c inputs) (columns_without input p.0)

    common_without : (inputs : Rels) → any_scans n inputs ≡ false → (c : Option (List ColTy)) → common_from (types_in all) c inputs ≡ common_from (types_in tables) c inputs
    common_without no_rels e c = refl
    common_without (rel_and input inputs) e c =
        let p = none_of (scans n input) (any_scans n inputs) e in
        common_without inputs p.1 (both_of common_columns c (columns_of (types_in all) input)) ∙ ap (λ d. common_from (types_in tables) (both_of common_columns c d) inputs) (columns_without input p.0)

  in_without : (rel : Rel) → scans n rel ≡ false → unwrap_or (columns_of (types_in all) rel) [] ≡ unwrap_or (columns_of (types_in tables) rel) []
  in_without rel e = ap (λ o. unwrap_or o []) (columns_without rel e)

  mutual
    pub answer_without : (rel : Rel) → scans n rel ≡ false → answer all rel ≡ answer tables rel
    answer_without (Scan source) e = ap (λ o. Some (unwrap_or o none)) (at_source (λ t. t.rows) source e)
    answer_without (One how input) e = λ i. option_and_then (unary_answer how (in_without input e i)) (answer_without input e i)
    answer_without (Two how left right) e =
        let p = none_of (scans n left) (scans n right) e in
        λ i. both_of (binary_answer how (in_without left p.0 i) (in_without right p.1 i)) (answer_without left p.0 i) (answer_without right p.1 i)
    answer_without (Many inputs) e = answers_without inputs e

    answers_without : (inputs : Rels) → any_scans n inputs ≡ false → answers all inputs ≡ answers tables inputs
    answers_without no_rels e = refl
    answers_without (rel_and input inputs) e =
        let p = none_of (scans n input) (any_scans n inputs) e in
        λ i. plus (answer_without input p.0 i) (answers_without inputs p.1 i)
