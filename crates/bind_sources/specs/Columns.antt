-- The columns of a join, told on both sides' as one list.
use Rattle.std.specs.Prelude.{ℕ, ◌-◌, ◌==◌, Bool, cond, [], ◌∷◌}
use Rattle.rel_algebra.specs.declared.join.JoinKind.{JoinKind}
use Rattle.rel_algebra.specs.Joins.{keeps_left, keeps_right, nullable_if}
use Rattle.query_answer.specs.declared.scope.ScopeColumn.{ScopeColumn}
use Rattle.query_answer.specs.Names.{Scope}

abbrev pub nullable : Bool → ScopeColumn → ScopeColumn
nullable may c = record { source = c.source; name = c.name; ty = nullable_if may c.ty }

-- a column behind which, itself counted, n of the left side are left
abbrev pub column_of : JoinKind → ℕ → ScopeColumn → ScopeColumn
column_of kind n c = cond (n == 0) (nullable (keeps_left kind) c) (nullable (keeps_right kind) c)

-- the first n are the left's
abbrev pub columns : JoinKind → ℕ → Scope → Scope
columns kind n [] = []
columns kind n (c ∷ cs) = column_of kind n c ∷ columns kind (n - 1) cs
