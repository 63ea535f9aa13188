-- The kinds that the plan of a tree sends, as long as no edge leaves out old rows.
use Rattle.std.specs.Prelude.{true, List, [], ◌∷◌, fold, slice_get, Option, Some, None}
use Rattle.ct_change.specs.declared.kind.Declared.{Declared}
use Rattle.ct_change.specs.declared.kind.Declared.TheVariants.{Append, Retract, Upsert}
use Rattle.ct_change.specs.declared.kind.KindSet.{KindSet}
use Rattle.ct_catalog.specs.declared.table.TableDef.{TableDef}
use Rattle.mode_infer.specs.Kinds.{either, flow_of, kind_set, no_kinds, plain, scan_kinds}
use Rattle.rel_algebra.specs.Rel.{Rel, Rels, Scan, One, Two, Many, no_rels, rel_and}
use Rattle.plan_rules.specs.Roles.{unary_way, binary_way}

-- a table's; an upsert table is normalized
abbrev pub kinds_declared : Declared → KindSet → KindSet
kinds_declared Append kinds = kinds
kinds_declared Retract kinds = kinds
kinds_declared Upsert kinds = kind_set true true true true

abbrev pub table_kinds : Option TableDef → KindSet
table_kinds None = no_kinds
table_kinds (Some table) = kinds_declared table.mode (scan_kinds (Some table))

module _ (sources : List TableDef) where
  abbrev mutual
    pub tree_kinds : Rel → KindSet
    tree_kinds (Scan source) = table_kinds (slice_get sources source)
    tree_kinds (One how input) = (flow_of sources ((unary_way how).op 0) (plain (tree_kinds input) ∷ [])).sent
    tree_kinds (Two how left right) = (flow_of sources (binary_way how).op (plain (tree_kinds left) ∷ (plain (tree_kinds right) ∷ []))).sent
    tree_kinds (Many inputs) = fold either no_kinds (trees_kinds inputs)

    -- of several trees
    pub trees_kinds : Rels → List KindSet
    trees_kinds no_rels = []
    trees_kinds (rel_and input inputs) = tree_kinds input ∷ trees_kinds inputs
