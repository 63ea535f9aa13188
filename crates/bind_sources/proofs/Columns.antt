-- The columns of both sides as one list are those of a join.
use Rattle.std.proofs.Common.{◌≡◌, ℕ, suc, ◌-◌, ◌==◌, false, [], ◌∷◌, ◌++◌, cond, length, refl, sym, ap, ◌∙◌, append_assoc, arith}
use Rattle.std.proofs.lemmas.Bool.{ne_eqb}
use Rattle.rel_algebra.specs.declared.join.JoinKind.{JoinKind}
use Rattle.rel_algebra.specs.Joins.{keeps_left, keeps_right}
use Rattle.query_answer.specs.declared.scope.ScopeColumn.{ScopeColumn}
use Rattle.query_answer.specs.Joins.{nullable_scope, join_scope}
use Rattle.query_answer.specs.Names.{Scope}
use Rattle.bind_sources.specs.Columns.{column_of, columns, nullable}

right-columns : (kind : JoinKind) (right : Scope) → columns kind 0 right ≡ nullable_scope (keeps_left kind) right
right-columns kind [] = refl
right-columns kind (c ∷ right) = ap (λ cs. column_of kind 0 c ∷ cs) (right-columns kind right)

pub columns_are : (kind : JoinKind) (left right : Scope) → columns kind (length left) (left ++ right) ≡ join_scope kind left right
columns_are kind [] right = right-columns kind right
columns_are kind (c ∷ left) right =
    let some : (suc (length left) == 0) ≡ false = ne_eqb (suc (length left)) 0 (λ e. omega arith) in
    let one : suc (length left) - 1 ≡ length left = omega arith in
    (λ i. cond (some i) (nullable (keeps_left kind) c) (nullable (keeps_right kind) c) ∷ columns kind (one i) (left ++ right))
    ∙ ap (λ cs. nullable (keeps_right kind) c ∷ cs) (columns_are kind left right)

-- one column more
pub columns_step : (kind : JoinKind) (n m : ℕ) (xs ys : Scope) (c : ScopeColumn) (made whole : Scope) → made ++ columns kind n xs ≡ whole → xs ≡ c ∷ ys → m ≡ n - 1
    → (made ++ column_of kind n c ∷ []) ++ columns kind m ys ≡ whole
columns_step kind n m xs ys c made whole e h k =
    append_assoc made (column_of kind n c ∷ []) (columns kind m ys)
    ∙ (λ j. made ++ column_of kind n c ∷ columns kind (k j) ys)
    ∙ sym (ap (λ cs. made ++ columns kind n cs) h)
    ∙ e
