-- What a worked plan is, and the words in which it is told.
use Rattle.std.specs.Prelude.{ℕ, true, false, List, [], ◌∷◌, map, Option}
use Rattle.ct_value.specs.declared.ty.Ty.TheVariants.{Int}
use Rattle.ct_value.specs.declared.ty.ColTy.{ColTy}
use Rattle.ct_change.specs.declared.kind.Declared.{Declared}
use Rattle.ct_change.specs.declared.kind.KindSet.{KindSet}
use Rattle.ct_catalog.specs.declared.table.TableDef.{TableDef}
use Rattle.phys_plan.specs.declared.edge.Edge.{Edge}
use Rattle.phys_plan.specs.declared.edge.Exchange.{Exchange}
use Rattle.phys_plan.specs.declared.edge.Exchange.TheVariants.{Forward, Hash}
use Rattle.ct_change.specs.declared.update.Update.{Update}
use Rattle.ct_change.specs.declared.update.Update.TheVariants.{Absent}
use Rattle.phys_plan.specs.declared.node.KeyInfo.{KeyInfo}
use Rattle.phys_plan.specs.declared.node.Node.{Node}
use Rattle.phys_plan.specs.declared.node.Op.{Op}
use Rattle.phys_plan.specs.Reading.{wires, no_keys}
use Rattle.phys_plan.specs.Columns.{columns_in}
use Rattle.upsert_keys.specs.Keys.{keys}
use Rattle.mode_infer.specs.declared.modes.EdgeMode.{EdgeMode}
use Rattle.mode_infer.specs.Kinds.{no_kinds}
use Rattle.mode_infer.specs.Modes.{edge_modes}

-- a node with the exchange of the edge that leaves it, and the columns that it sends
pub record Laid : Type 0 where
  pub op : Op
  pub inputs : List ℕ
  pub exchange : Exchange
  pub columns : List ColTy

-- a plan of which neither keys nor modes are known, and then what is inferred of it
pub record Example : Type 0 where
  pub sources : List TableDef
  pub sink : TableDef
  pub laid : List Laid
  pub kinds : List KindSet
  pub keys : List KeyInfo
  pub updates : List Update

-- ---- words

-- a column in which NULL may not stand, and one in which it may
abbrev pub must : ColTy
must = record { ty = Int; nullable = false }

abbrev pub may : ColTy
may = record { ty = Int; nullable = true }

-- a table whose columns have all one name, which no plan looks at
abbrev pub table : List ℕ → List ColTy → Declared → Option (List ℕ) → TableDef
table name columns mode key = record { name = name; cols = map (λ ty. record { name = name; ty = ty }) columns; key = key; mode = mode }

abbrev pub forward : Op → List ℕ → List ColTy → Laid
forward op inputs columns = record { op = op; inputs = inputs; exchange = Forward; columns = columns }

abbrev pub hashed : ℕ → Op → List ℕ → List ColTy → Laid
hashed col op inputs columns = record { op = op; inputs = inputs; exchange = Hash (col ∷ []); columns = columns }

abbrev pub families : List (List ℕ) → List (List ℕ) → List (List ℕ) → KeyInfo
families unique local fixing = record { unique = unique; local = local; fixing = fixing }

-- one key, which holds at every moment and fixes the subtask
abbrev pub keyed : ℕ → KeyInfo
keyed col = families ((col ∷ []) ∷ []) ((col ∷ []) ∷ []) ((col ∷ []) ∷ [])

-- no key, but a column that fixes the subtask
abbrev pub fixed : ℕ → KeyInfo
fixed col = families [] [] ((col ∷ []) ∷ [])

abbrev pub keyless : KeyInfo
keyless = no_keys

-- ---- what is inferred

abbrev pub bare_node : Laid → Node
bare_node l = record { op = l.op; inputs = l.inputs; keys = no_keys }

abbrev pub bare_edge : Laid → Edge
bare_edge l = record { exchange = l.exchange; kinds = no_kinds; update = Absent }

abbrev pub nodes_of : Example → List Node
nodes_of e = map bare_node e.laid

abbrev pub edges_of : Example → List Edge
edges_of e = map bare_edge e.laid

abbrev pub columns_of : Example → ℕ → List ColTy
columns_of e = columns_in ([] ∷ map (λ l. l.columns) e.laid)

abbrev pub modes_of : Example → List EdgeMode
modes_of e = edge_modes (columns_of e) e.sources e.sink (wires (nodes_of e))

abbrev pub kinds_of : Example → List KindSet
kinds_of e = map (λ mode. mode.kinds) (modes_of e)

abbrev pub keys_of : Example → List KeyInfo
keys_of e = keys (columns_of e) e.sources (edges_of e) (wires (nodes_of e))

abbrev pub updates_of : Example → List Update
updates_of e = map (λ mode. mode.update) (modes_of e)
