-- A row of the columns of one input of a union is one of the union's columns.
use Rattle.std.specs.Prelude.{◌≡◌, ℕ, List, slice_get, Option}
use Rattle.std.proofs.Common.{zero, suc, [], ◌∷◌, sym, subst, Some}
use Rattle.ct_value.specs.declared.row.Row.{Row}
use Rattle.ct_value.specs.declared.ty.ColTy.{ColTy}
use Rattle.ct_expr.specs.Types.{both_of}
use Rattle.rel_algebra.specs.Clauses.{Fits}
use Rattle.rel_algebra.specs.Types.{common_columns}
use Rattle.typing_laws.proofs.laws.CommonColumns.{both_parts, left_row, right_row}
use Rattle.plan_rules.specs.Columns.{common_with}

-- the first, and each of the others
pub all_wider : (start : Option (List ColTy)) (inputs : List (Option (List ColTy))) (common : List ColTy) → common_with start inputs ≡ Some common
    → (first : List ColTy) × (start ≡ Some first) × ((row : Row) → Fits first row → Fits common row)
    × ((p : ℕ) (columns : List ColTy) → slice_get inputs p ≡ Some (Some columns) → (row : Row) → Fits columns row → Fits common row)
all_wider start [] common e = (common, e, (λ row h. h), λ p columns s row h. absurd (cc))
all_wider start (input ∷ inputs) common e =
    let q = all_wider (both_of common_columns start input) inputs common e in
    let r = both_parts common_columns start input q.0 q.1 in
    (r.0, r.2, (λ row h. q.2 row (left_row r.0 r.1 q.0 row r.4 h)), each q.0 r.1 (λ row h. q.2 row (right_row r.0 r.1 q.0 row r.4 h)) r.3 q.3)
  where
    each : (mid second : List ColTy) → ((row : Row) → Fits second row → Fits common row) → input ≡ Some second
        → ((p : ℕ) (columns : List ColTy) → slice_get inputs p ≡ Some (Some columns) → (row : Row) → Fits columns row → Fits common row)
        → (p : ℕ) (columns : List ColTy) → slice_get (input ∷ inputs) p ≡ Some (Some columns) → (row : Row) → Fits columns row → Fits common row
    each mid second wide is later zero columns s row h = let same : second ≡ columns = cc in wide row (subst (λ c. Fits c row) (sym same) h)
    each mid second wide is later (suc p) columns s row h = later p columns s row h
