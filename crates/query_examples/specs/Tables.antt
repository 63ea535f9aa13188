-- The tables of the examples.
use Rattle.std.specs.Prelude.{true, false, List, [], ◌∷◌, None, codes}
use Rattle.ct_value.specs.declared.ty.Ty.{Ty}
use Rattle.ct_value.specs.declared.ty.Ty.TheVariants.{Bool as Truths, Int, BigInt, Decimal, Text as Texts}
use Rattle.ct_change.specs.declared.kind.Declared.TheVariants.{Append}
use Rattle.ct_catalog.specs.declared.table.ColDef.{ColDef}
use Rattle.ct_catalog.specs.declared.table.TableDef.{TableDef}
use Rattle.sql_syntax.specs.Tree.{Text}

-- a column in which NULL may stand, and one in which it may not
abbrev pub may : Text → Ty → ColDef
may name ty = record { name = name; ty = record { ty = ty; nullable = true } }

abbrev pub must : Text → Ty → ColDef
must name ty = record { name = name; ty = record { ty = ty; nullable = false } }

abbrev pub table : Text → List ColDef → TableDef
table name cols = record { name = name; cols = cols; key = None; mode = Append }

-- t (a INT, b INT NOT NULL, s STRING, d DECIMAL(5, 2), f BOOLEAN, g BIGINT NOT NULL)
abbrev pub t : TableDef
t = table (codes "t") (may (codes "a") Int ∷ must (codes "b") Int ∷ may (codes "s") Texts ∷ may (codes "d") (Decimal 5 2) ∷ may (codes "f") Truths ∷ must (codes "g") BigInt ∷ [])

-- u (a INT, x STRING NOT NULL)
abbrev pub u : TableDef
u = table (codes "u") (may (codes "a") Int ∷ must (codes "x") Texts ∷ [])

-- o (n BIGINT, w STRING)
abbrev pub o : TableDef
o = table (codes "o") (may (codes "n") BigInt ∷ may (codes "w") Texts ∷ [])

abbrev pub all : List TableDef
all = t ∷ u ∷ o ∷ []
