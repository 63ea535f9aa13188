-- Which trees get no plan, and why.
use Rattle.std.specs.Prelude.{◌≡◌, Bool, true, false, ◌||◌, List, is_none, slice_get, ⊤}
use Rattle.ct_catalog.specs.declared.table.TableDef.{TableDef}
use Rattle.rel_algebra.specs.Rel.{Rel, Rels, no_rels, rel_and}
use Rattle.rel_algebra.specs.Rel as r
use Rattle.plan_laying.specs.declared.laying_fault.LayingFault.{LayingFault}
use Rattle.plan_laying.specs.declared.laying_fault.LayingFault.TheVariants.{NoTable, Memory}

-- over these tables
module _ (sources : List TableDef) where
  abbrev mutual
    -- a part of the tree scans a table that isn't there
    pub lacks_table : Rel → Bool
    lacks_table (r.Scan source) = is_none (slice_get sources source)
    lacks_table (r.One how input) = lacks_table input
    lacks_table (r.Two how left right) = lacks_table left || lacks_table right
    lacks_table (r.Many inputs) = any_lacks inputs

    pub any_lacks : Rels → Bool
    any_lacks no_rels = false
    any_lacks (rel_and input inputs) = lacks_table input || any_lacks inputs

-- what a fault says of a tree
abbrev pub Says : List TableDef → Rel → LayingFault → Type 0
Says sources rel NoTable = lacks_table sources rel ≡ true
Says sources rel Memory = ⊤
