-- What a sound plan says of a node: that what it sends is what is inferred of it, by what its inputs send.
use Rattle.std.specs.Prelude.{◌≡◌, ◌⊎◌, ◌<◌, ℕ, suc, Bool, true, false, List, [], ◌∷◌, length, map, Option, None, Some}
use Rattle.std.specs.List.{list_all}
use Rattle.ct_value.specs.declared.ty.ColTy.{ColTy}
use Rattle.ct_change.specs.declared.kind.Declared.{Declared}
use Rattle.ct_change.specs.declared.kind.Declared.TheVariants.{Append, Retract, Upsert}
use Rattle.ct_catalog.specs.declared.table.TableDef.{TableDef}
use Rattle.rel_algebra.specs.declared.agg.Agg.{Agg}
use Rattle.rel_algebra.specs.Groups.{group_columns}
use Rattle.phys_plan.specs.declared.edge.Exchange.TheVariants.{Forward, Hash}
use Rattle.ct_change.specs.declared.update.Update.{Update}
use Rattle.ct_change.specs.declared.update.Update.TheVariants.{Absent, After}
use Rattle.phys_plan.specs.declared.node.Op.{Op}
use Rattle.phys_plan.specs.declared.node.Op.TheVariants as op
use Rattle.column_sets.specs.Sets.{set_of}
use Rattle.column_sets.specs.Places.{first_columns}
use Rattle.ct_catalog.specs.Columns.{column_types}
use Rattle.plan_rules.specs.Columns.{columns_by}
use Rattle.upsert_keys.specs.Keys.{keys_of, keyed_by, table_keys}
use Rattle.phys_plan.specs.Reading.{no_keys}
use Rattle.mode_infer.specs.Kinds.{flow_of, group_kinds, kind_set, plain, scan_kinds, asked}
use Rattle.ct_change.specs.Kinds.{has_more_than_inserts}
use Rattle.mode_infer.specs.Modes.{edge_kinds, printed}
use Rattle.mode_infer.specs.UpdateKeys.{group_key, update_key_of}
use Rattle.mode_infer.specs.Updates.{scan_update, takes, told}
use Rattle.plan_inferred.specs.Ways.{way_of}
use Rattle.plan_inferred.specs.Rules.{by_columns, is_direct, is_shown}
use Rattle.plan_shape.specs.Shape.{has_parts}
use Rattle.sound_plans.specs.Outputs.{Output, AreWithin, IsProper, seen}

-- its edge carries the kinds that it sends, without old rows where these are left out
abbrev pub Carries : Output → Type 0
Carries out = out.edge.kinds ≡ edge_kinds out.sent out.edge.update

-- whether the consumer takes new rows alone at a port
abbrev pub taken_by : TableDef → Op → ℕ → Update → Option (List ℕ) → Bool
taken_by sink o port update None = false
taken_by sink o port update (Some key) = takes sink o port update key

-- an input between its producer, whose edge leaves out old rows where it can, and its consumer, which asks for it
pub record IsAsked (sink : TableDef) (o : Op) (own : Update) (port : ℕ) (input : Output) : Type 0 where
  pub proper : IsProper input
  pub carries : Carries input
  pub tells : input.edge.update ≡ told input.sent input.update_key (taken_by sink o port own input.update_key)
  pub exchanged : input.edge.exchange ≡ by_columns (asked o port)

-- each input, by its port, from this one on
abbrev pub AtPorts : (ℕ → Output → Type 0) → ℕ → List Output → Type 0
AtPorts P port [] = Unit {0}
AtPorts P port (input ∷ inputs) = P port input × AtPorts P (suc port) inputs

abbrev pub first_width : List Output → ℕ
first_width [] = 0
first_width (input ∷ inputs) = length input.columns

-- a node that neither scans nor normalizes nor materializes and isn't the sink, where no partial rows come
pub record Agrees (sources : List TableDef) (sink : TableDef) (o : Op) (inputs : List Output) (own : Output) : Type 0 where
  pub inputs_asked : AtPorts (IsAsked sink o own.edge.update) 0 inputs
  pub typed : columns_by sources o (map (λ input. Some input.columns) inputs) ≡ Some own.columns
  pub keyed : own.keys ≡ keys_of sources o (map seen inputs)
  pub sends : own.sent ≡ (flow_of sources o (map (λ input. plain input.sent) inputs)).sent
  pub updates : own.update_key ≡ update_key_of (first_width inputs) o (map (λ input. input.update_key) inputs)
  pub carries : Carries own
  -- where its consumer takes new rows alone
  pub taken : Bool
  pub tells : own.edge.update ≡ told own.sent own.update_key taken

-- a local group, of key columns: groups of what comes have columns, each call is one that can be summed up, and partial rows go by key
pub record LocalAgrees (sources : List TableDef) (sink : TableDef) (keys : ℕ) (aggs : List Agg) (input own : Output) : Type 0 where
  pub agrees : Agrees sources sink (op.LocalGroup keys aggs) (input ∷ []) own
  pub some_keys : 0 < keys
  pub made : List ColTy
  pub grouped : group_columns keys input.columns aggs ≡ Some made
  pub sum_up : list_all (λ agg. has_parts input.edge.kinds agg.call) aggs ≡ true
  pub exchanged : own.edge.exchange ≡ Hash (first_columns keys)

-- a group in bundles above a local group, which in turn agrees with its input
pub record MergeAgrees (sources : List TableDef) (sink : TableDef) (keys : ℕ) (aggs : List Agg) (input below own : Output) : Type 0 where
  pub local : LocalAgrees sources sink keys aggs input below
  pub typed : group_columns keys input.columns aggs ≡ Some own.columns
  pub keyed : own.keys ≡ keyed_by (first_columns keys)
  pub sends : own.sent ≡ group_kinds keys aggs input.sent
  pub updates : own.update_key ≡ group_key keys aggs
  pub carries : Carries own
  pub taken : Bool
  pub tells : own.edge.update ≡ told own.sent own.update_key taken

-- a key whose columns stand in the order of their positions, each once
abbrev pub IsOrdered : List ℕ → Type 0
IsOrdered key = set_of key ≡ key

-- a scan of a table
pub record ScanAgrees (table : TableDef) (own : Output) : Type 0 where
  pub typed : own.columns ≡ column_types table
  pub ordered : (key : List ℕ) → table.key ≡ Some key → IsOrdered key
  pub within : (key : List ℕ) → table.key ≡ Some key → AreWithin (length table.cols) key
  pub has_key : table.mode ≡ Upsert → (key : List ℕ) × (table.key ≡ Some key)
  pub keyed : own.keys ≡ table_keys table.key (length table.cols)
  pub sends : own.sent ≡ scan_kinds (Some table)
  pub updates : own.update_key ≡ None
  pub carries : Carries own
  pub tells : own.edge.update ≡ scan_update (Some table) own.sent

-- a normalizer, on what an upsert table's scan sends
pub record NormalizeAgrees (key : List ℕ) (input own : Output) : Type 0 where
  pub ordered : IsOrdered key
  pub within : AreWithin (length input.columns) key
  -- what comes
  pub input_proper : IsProper input
  pub input_carries : Carries input
  pub input_sent : input.sent ≡ kind_set true false true true
  pub input_tells : input.edge.update ≡ After key
  pub input_keyed : input.keys ≡ keyed_by key
  pub exchanged : input.edge.exchange ≡ Hash key
  -- what leaves
  pub typed : own.columns ≡ input.columns
  pub keyed : own.keys ≡ keyed_by key
  pub sends : own.sent ≡ kind_set true true true true
  pub updates : own.update_key ≡ Some (set_of key)
  pub carries : Carries own
  pub taken : Bool
  pub tells : own.edge.update ≡ told own.sent own.update_key taken

-- a materializer, on what is told in full; a key of its input lies in its key
pub record MaterializeAgrees (sink : TableDef) (key : List ℕ) (input own : Output) : Type 0 where
  pub ordered : IsOrdered key
  pub within : AreWithin (length input.columns) key
  -- what comes
  pub asked : IsAsked sink (op.Materialize key) own.edge.update 0 input
  pub suits : is_shown (way_of true key input.sent input.update_key input.keys) ≡ true
  -- what leaves
  pub typed : own.columns ≡ input.columns
  pub keyed : own.keys ≡ keyed_by key
  pub sends : own.sent ≡ kind_set true false true true
  pub updates : own.update_key ≡ None
  pub carries : Carries own
  pub tells : own.edge.update ≡ After key

-- what comes to a sink suits its table: inserts alone, anything, or what is told by the sink's key
abbrev pub SuitsKey : Option (List ℕ) → Output → Type 0
SuitsKey None input = ⊥
SuitsKey (Some key) input = is_direct (way_of false key input.sent input.update_key input.keys) ≡ true

abbrev pub Suits : Declared → Option (List ℕ) → Output → Type 0
Suits Append key input = has_more_than_inserts input.edge.kinds ≡ false
Suits Retract key input = Unit {0}
Suits Upsert key input = SuitsKey key input

-- it comes as the sink asks for it
pub record ComesDirect (sink : TableDef) (input : Output) : Type 0 where
  pub asked : IsAsked sink op.Sink Absent 0 input
  pub suits : Suits sink.mode sink.key input

-- or from a materializer, which tells by the key of an upsert table
pub record ComesShown (sink : TableDef) (input : Output) : Type 0 where
  pub key : List ℕ
  pub upserts : sink.mode ≡ Upsert
  pub key_is : sink.key ≡ Some key
  pub within : AreWithin (length input.columns) key
  pub proper : IsProper input
  pub carries : Carries input
  pub tells : input.edge.update ≡ After key
  pub forwards : input.edge.exchange ≡ Forward

-- the sink, whose edge carries what it prints
pub record SinkAgrees (sink : TableDef) (input own : Output) : Type 0 where
  pub comes : ComesDirect sink input ⊎ ComesShown sink input
  pub typed : own.columns ≡ input.columns
  pub keyed : own.keys ≡ no_keys
  pub sends : own.sent ≡ input.sent
  pub updates : own.update_key ≡ None
  pub forwards : own.edge.exchange ≡ Forward
  pub tells : own.edge.update ≡ Absent
  pub prints : own.edge.kinds ≡ printed sink.mode (record { kinds = input.edge.kinds; update = input.edge.update })
