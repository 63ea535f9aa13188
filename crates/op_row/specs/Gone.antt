-- What a project keeps so as to tell that a row of a key went.
use Rattle.std.specs.Prelude.{◌≡◌, ℕ, List, Option, Some, None}
use Rattle.ct_expr.specs.Expr.{Expr}
use Rattle.emission_rules.specs.Project.{handed, image_of}
use Rattle.op_row.specs.declared.gone.Gone.{Gone}

abbrev pub key_of : Gone → List ℕ
key_of gone = gone.key

-- it is the items': the columns that they hand on, and the key's image
abbrev pub TellsGone : List Expr → Option Gone → Type 0
TellsGone items None = Unit {0}
TellsGone items (Some gone) = (gone.handed ≡ handed items) × (gone.places ≡ image_of items gone.key)
