-- What names stand for: the columns in reach, and the look-up of a name among them.
use Rattle.std.specs.Prelude.{ℕ, suc, Bool, false, cond, ◌&&◌, List, [], ◌∷◌, length, Option, Some, None}
use Rattle.std.specs.Str.{bytes_eq}
use Rattle.ct_value.specs.declared.ty.ColTy.{ColTy}
use Rattle.ct_field.specs.Typed.{cell}
use Rattle.sql_syntax.specs.Tree.{Tree, Text}
use Rattle.sql_syntax.specs.Tree as t
use Rattle.query_answer.specs.declared.scope.Found.{Found}
use Rattle.query_answer.specs.declared.scope.Found.TheVariants.{Absent, At, Several}
use Rattle.query_answer.specs.declared.scope.ScopeColumn.{ScopeColumn}
use Rattle.query_answer.specs.Table.{Typed, nothing}

-- the columns in reach, side by side as in a row
abbrev pub Scope : Type 0
Scope = List ScopeColumn

-- what a name stands for, with the source's name before it or without
abbrev pub Lookup : Type 0
Lookup = Option Text → Text → Found

-- a name that is there, and is this one
abbrev pub is_called : Text → Option Text → Bool
is_called name None = false
is_called name (Some own) = bytes_eq name own

abbrev pub is_named : Option Text → Text → ScopeColumn → Bool
is_named None name column = is_called name column.name
is_named (Some source) name column = is_called source column.source && is_called name column.name

-- one more column that has the name
abbrev pub also : ℕ → ColTy → Found → Found
also n ty Absent = At n ty
also n ty (At m other) = Several
also n ty Several = Several

abbrev pub find_from : ℕ → Scope → Lookup
find_from n [] of name = Absent
find_from n (column ∷ scope) of name = cond (is_named of name column) (also n column.ty (find_from (suc n) scope of name)) (find_from (suc n) scope of name)

-- the one column of that name among those in reach
abbrev pub find : Scope → Lookup
find scope = find_from 0 scope

-- what is found among a subquery's own columns hides what is found outside
abbrev pub or_outside : Found → Found → Found
or_outside Absent outside = outside
or_outside (At n ty) outside = At n ty
or_outside Several outside = Several

-- within a subquery of a WHERE: the one column of that name among its own, or else among those outside, which stand before them in a
-- row of both
abbrev pub find_linked : Scope → Scope → Lookup
find_linked outside own of name = or_outside (find_from (length outside) own of name) (find outside of name)

-- a column at each row
abbrev pub column_at : Found → Typed
column_at Absent = nothing
column_at (At n ty) = record { column = Some ty; value = λ row. Some (cell n row) }
column_at Several = nothing

-- over the rows of the sources, a name stands for the column that it finds
abbrev pub named : Lookup → Tree → Option Typed
named look (t.Name of name quoted) = Some (column_at (look of name))
named look _ = None
