-- A tree that is well-typed over some tables scans none but these.
use Rattle.std.specs.Prelude.{◌≡◌, ◌||◌, List, map, is_none, slice_get, Option, option_and_then}
use Rattle.std.proofs.Common.{zero, suc, false, [], ◌∷◌, refl, ap, ◌∙◌, ℕ, Bool, Some, None}
use Rattle.ct_value.specs.declared.ty.ColTy.{ColTy}
use Rattle.ct_catalog.specs.declared.table.TableDef.{TableDef}
use Rattle.ct_expr.specs.Types.{both_of}
use Rattle.rel_algebra.specs.Rel.{Rel, Rels, Scan, One, Two, Many, no_rels, rel_and}
use Rattle.rel_algebra.specs.Types.{columns_of, union_columns, common_from, common_columns}
use Rattle.ct_catalog.specs.Columns.{column_types}
use Rattle.plan_laying.specs.Faults.{lacks_table, any_lacks}

or_not : (a b : Bool) → a ≡ false → b ≡ false → (a || b) ≡ false
or_not a b p q = ap (λ x. x || b) p ∙ q

-- what comes of an input has an input
input_of : (o : Option (List ColTy)) (more : List ColTy → Option (List ColTy)) (columns : List ColTy) → option_and_then more o ≡ Some columns → (found : List ColTy) × (o ≡ Some found)
input_of None more columns e = absurd (cc)
input_of (Some found) more columns e = (found, refl)

both_in : (a b : Option (List ColTy)) (f : List ColTy → List ColTy → Option (List ColTy)) (columns : List ColTy) → both_of f a b ≡ Some columns → ((left : List ColTy) × (a ≡ Some left)) × ((right : List ColTy) × (b ≡ Some right))
both_in None b f columns e = absurd (cc)
both_in (Some left) None f columns e = absurd (cc)
both_in (Some left) (Some right) f columns e = ((left, refl), (right, refl))

scanned : (sources : List TableDef) (source : ℕ) (columns : List ColTy) → slice_get (map column_types sources) source ≡ Some columns → is_none (slice_get sources source) ≡ false
scanned [] source columns e = absurd (cc)
scanned (table ∷ sources) zero columns e = refl
scanned (table ∷ sources) (suc source) columns e = scanned sources source columns e

module _ (sources : List TableDef) where
  mutual
    pub have : (rel : Rel) (columns : List ColTy) → columns_of (map column_types sources) rel ≡ Some columns → lacks_table sources rel ≡ false
    have (Scan source) columns e = scanned sources source columns e
    have (One how input) columns e = let below = input_of (columns_of (map column_types sources) input) _ columns e in have input below.0 below.1
    have (Two how left right) columns e =
        let sides = both_in (columns_of (map column_types sources) left) (columns_of (map column_types sources) right) _ columns e in
        or_not (lacks_table sources left) (lacks_table sources right) (have left sides.0.0 sides.0.1) (have right sides.1.0 sides.1.1)
    have (Many inputs) columns e = have_all inputs columns e

    have_all : (inputs : Rels) (columns : List ColTy) → union_columns (map column_types sources) inputs ≡ Some columns → any_lacks sources inputs ≡ false
    have_all no_rels columns e = absurd (cc)
    have_all (rel_and input inputs) columns e =
        let more = have_more inputs (columns_of (map column_types sources) input) columns e in
        or_not (lacks_table sources input) (any_lacks sources inputs) (have input more.0.0 more.0.1) more.1

    have_more : (inputs : Rels) (first : Option (List ColTy)) (columns : List ColTy) → common_from (map column_types sources) first inputs ≡ Some columns → ((found : List ColTy) × (first ≡ Some found)) × (any_lacks sources inputs ≡ false)
    have_more no_rels first columns e = ((columns, e), refl)
    have_more (rel_and input inputs) first columns e =
        let more = have_more inputs (both_of common_columns first (columns_of (map column_types sources) input)) columns e in
        let sides = both_in first (columns_of (map column_types sources) input) common_columns more.0.0 more.0.1 in
        (sides.0, or_not (lacks_table sources input) (any_lacks sources inputs) (have input sides.1.0 sides.1.1) more.1)
