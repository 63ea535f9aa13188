-- The names of kinds as they are put behind a text, one after the other.
use Rattle.std.specs.Prelude.{ℕ, Bool, cond, List, [], ◌++◌, codes}

-- a name where it is held, with a comma where it stands behind others
abbrev pub name_part : Bool → Bool → List ℕ → List ℕ
name_part held behind name = cond held (cond behind (codes ",") [] ++ name) []
