-- ON: the key pairs of a join, which are tested first, and the rest of its condition.
use Rattle.std.specs.Prelude.{ℕ, ◌-◌, nat_lt, nat_le, Bool, cond, ◌&&◌, List, [], ◌∷◌, ◌++◌, map, Option, Some, None, is_some}
use Rattle.ct_value.specs.declared.ty.ColTy.{ColTy}
use Rattle.ct_value.specs.declared.value.CompareOp.TheVariants.{Eq}
use Rattle.ct_expr.specs.Types.{common_ty}
use Rattle.rel_algebra.specs.declared.join.JoinKind.{JoinKind}
use Rattle.rel_algebra.specs.declared.join.JoinKind.TheVariants as k
use Rattle.rel_algebra.specs.declared.join.Pair.{Pair}
use Rattle.rel_algebra.specs.Joins.{keeps_left, keeps_right, nullable_if}
use Rattle.sql_syntax.specs.declared.tree.JoinWord.{JoinWord}
use Rattle.sql_syntax.specs.declared.tree.JoinWord.TheVariants as w
use Rattle.sql_syntax.specs.Tree.{Tree}
use Rattle.sql_syntax.specs.Tree as t
use Rattle.query_answer.specs.declared.scope.Found.{Found}
use Rattle.query_answer.specs.declared.scope.Found.TheVariants.{Absent, At}
use Rattle.query_answer.specs.Names.{Scope, Lookup}

abbrev pub kind_of : JoinWord → JoinKind
kind_of w.Inner = k.Inner
kind_of w.Left = k.Left
kind_of w.Right = k.Right
kind_of w.Full = k.Full

-- ---- key pairs

-- the column that a plain column stands for, also in parentheses
abbrev pub plain_column : Lookup → Tree → Found
plain_column look (t.Name of name quoted) = look of name
plain_column look (t.Paren x) = plain_column look x
plain_column look _ = Absent

-- the m-th column, of the left side, which has so many, and the n-th, of the right side, where they have a common type
abbrev pub pair_at : ℕ → ℕ → ColTy → ℕ → ColTy → Option Pair
pair_at width m s n u = cond ((nat_lt m width && nat_le width n) && is_some (common_ty s.ty u.ty)) (Some (record { left = m; right = n - width })) None

abbrev pub or_pair : Option Pair → Option Pair → Option Pair
or_pair None pair = pair
or_pair (Some pair) other = Some pair

-- a column of one side and one of the other
abbrev pub pair_found : ℕ → Found → Found → Option Pair
pair_found width (At m s) (At n u) = or_pair (pair_at width m s n u) (pair_at width n u m s)
pair_found width _ _ = None

-- the key pair that a conjunct is
abbrev pub pair_of : ℕ → Lookup → Tree → Option Pair
pair_of width look (t.Compare Eq x y) = pair_found width (plain_column look x) (plain_column look y)
pair_of width look _ = None

abbrev pub with_pair : Option Pair → List Pair → List Pair
with_pair None pairs = pairs
with_pair (Some pair) pairs = pair ∷ pairs

abbrev pub pairs_of : ℕ → Lookup → List Tree → List Pair
pairs_of width look [] = []
pairs_of width look (c ∷ cs) = with_pair (pair_of width look c) (pairs_of width look cs)

abbrev pub unless_pair : Option Pair → Tree → List Tree → List Tree
unless_pair None c cs = c ∷ cs
unless_pair (Some pair) c cs = cs

-- the conjuncts that aren't
abbrev pub rest_of : ℕ → Lookup → List Tree → List Tree
rest_of width look [] = []
rest_of width look (c ∷ cs) = unless_pair (pair_of width look c) c (rest_of width look cs)

-- ---- columns

-- NULL may stand in the columns of a side whose rows may be missing
abbrev pub nullable_scope : Bool → Scope → Scope
nullable_scope may scope = map (λ c. record { source = c.source; name = c.name; ty = nullable_if may c.ty }) scope

abbrev pub join_scope : JoinKind → Scope → Scope → Scope
join_scope kind left right = nullable_scope (keeps_right kind) left ++ nullable_scope (keeps_left kind) right
