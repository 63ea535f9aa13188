-- The edge of a scan carries what its table takes.
use Rattle.std.proofs.Common.{◌≡◌, ℕ, zero, suc, ◌+◌, ◌<◌, true, List, [], ◌∷◌, length, Option, Some, None, refl, sym, ap, subst, ◌∙◌, arith}
use Rattle.std.specs.Prelude.{unwrap_or}
use Rattle.std.specs.List.{AllByRecursion, Contains, range_with_len}
use Rattle.std.proofs.lemmas.List.{length-map}
use Rattle.ct_value.specs.declared.row.Row.{Row}
use Rattle.ct_value.specs.declared.ty.ColTy.{ColTy}
use Rattle.ct_change.specs.declared.kind.Kind.{Kind}
use Rattle.ct_change.specs.declared.kind.KindSet.{KindSet}
use Rattle.ct_change.specs.declared.change.Change.{Change}
use Rattle.ct_change.specs.declared.kind.Declared.{Declared}
use Rattle.ct_change.specs.declared.kind.Declared.TheVariants.{Append, Retract, Upsert}
use Rattle.ct_change.specs.Changelog.{append, retract, mode_of, kinds_of, has, admits}
use Rattle.ct_catalog.specs.declared.table.TableDef.{TableDef}
use Rattle.rel_algebra.specs.Clauses.{Fits}
use Rattle.phys_plan.specs.declared.edge.Exchange.TheVariants.{Hash}
use Rattle.phys_plan.specs.declared.node.KeyInfo.{KeyInfo}
use Rattle.rel_algebra.proofs.laws.Fits.{first, second}
use Rattle.op_rules.specs.Edges.{Meaning, meaning_of, LiesIn, KeepsKeys}
use Rattle.op_rules.specs.Values.{types_fit}
use Rattle.stream_model.specs.KeysTold.{is_told, is_typed, told_fits, told_key}
use Rattle.stream_model.specs.Tables.{asked_of, null_refusal}
use Rattle.stream_model.specs.Scans.{IsKeyBy, CarriesTable}
use Rattle.column_sets.specs.Sets.{set_of, family, is_within}
use Rattle.column_sets.specs.Places.{first_columns}
use Rattle.upsert_keys.specs.Keys.{table_keys}
use Rattle.mode_infer.specs.Modes.{edge_kinds}
use Rattle.mode_infer.specs.Updates.{table_update}
use Rattle.plan_rules.specs.Plans.{change_fits, meaning_by, columns_from, required_from, spread_of, table_of}
use Rattle.plan_rules.proofs.laws.ChangeFits.{table_fits}
use Rattle.plan_rules.proofs.laws.Columns.{row_of_types, told_of_types}
use Rattle.ct_catalog.specs.Columns.{column_types, table_mode}
use Rattle.sound_plans.specs.Outputs.{Output, AreTold, AreWithin, IsProper, edge_of}
use Rattle.sound_plans.specs.Agrees.{IsOrdered, ScanAgrees}
use Rattle.sound_plans.proofs.laws.Members.{none as in_none}
use Rattle.sound_plans.proofs.laws.Sets.{lies_itself}
use Rattle.sound_plans.proofs.laws.Widths.{first_within}
use Rattle.sound_plans.specs.RowFits.{ScansFit}
use Rattle.sound_plans.proofs.laws.RowFamilies.{from_family, each_from_family, set_in, the_only}
use Rattle.sound_plans.proofs.laws.RowInputs.{routed}
use Rattle.sound_plans.proofs.laws.Told.{full_tells}
use Rattle.sound_plans.proofs.laws.Updates.{meaning_full, kinds_full}

-- ---- updates and kinds, by the mode that the table declares

-- an upsert table has a key
abbrev HasKeyIn : Declared → Option (List ℕ) → Type 0
HasKeyIn mode o = mode ≡ Upsert → (key : List ℕ) × (o ≡ Some key)

keyless : {A : Type 0} → HasKeyIn Upsert None → A
keyless has = absurd (let k = has refl in let e : None ≡ Some k.0 = k.1 in cc)

-- the edge is read as the table is declared, and carries the kinds that the table takes
scan_means : (mode : Declared) (o : Option (List ℕ)) (kinds : KindSet) → HasKeyIn mode o → meaning_by (table_update mode o kinds) ≡ meaning_of (mode_of mode (unwrap_or o []))
scan_means Append o kinds has_key = meaning_full kinds
scan_means Retract o kinds has_key = meaning_full kinds
scan_means Upsert None kinds has_key = keyless has_key
scan_means Upsert (Some key) kinds has_key = refl

scan_carries : (mode : Declared) (o : Option (List ℕ)) (kinds : KindSet) (kind : Kind) → HasKeyIn mode o → admits (mode_of mode (unwrap_or o [])) kind ≡ true
    → has (edge_kinds (kinds_of (mode_of mode [])) (table_update mode o kinds)) kind ≡ true
scan_carries Append o kinds kind has_key h = subst (λ (k : KindSet). has k kind ≡ true) (sym (kinds_full (kinds_of append) kinds)) h
scan_carries Retract o kinds kind has_key h = subst (λ (k : KindSet). has k kind ≡ true) (sym (kinds_full (kinds_of retract) kinds)) h
scan_carries Upsert None kinds kind has_key h = keyless has_key
scan_carries Upsert (Some key) kinds kind has_key h = h

-- rows come, and with old rows new ones
scan_inserts : (mode : Declared) → (kinds_of (mode_of mode [])).i ≡ true
scan_inserts Append = refl
scan_inserts Retract = refl
scan_inserts Upsert = refl

scan_replaces : (mode : Declared) → (kinds_of (mode_of mode [])).ub ≡ true → (kinds_of (mode_of mode [])).ua ≡ true
scan_replaces Append h = h
scan_replaces Retract h = refl
scan_replaces Upsert h = refl

-- ---- keys

-- a table without a key is spread by all columns
all_columns : (column n : ℕ) → columns_from column n ≡ range_with_len column n
all_columns column zero = refl
all_columns column (suc n) = let next : suc column ≡ column + 1 = omega arith in λ i. column ∷ (all_columns (suc column) n ∙ ap (λ c. range_with_len c n) next) i

-- the only set of a family of a table's key is the key
the_key : (key : List ℕ) → IsOrdered key → (sets : List (List ℕ)) → sets ≡ family (set_of key ∷ []) → (set : List ℕ) → Contains sets set → key ≡ set
the_key key ordered sets is set c = sym ordered ∙ the_only (set_of key) sets is set c

-- which is a key of the table in each mode
by_key : (mode : Declared) (key set : List ℕ) → key ≡ set → IsKeyBy (mode_of mode key) (Some key) set
by_key Append key set e = ap (λ (k : List ℕ). Some k) e
by_key Retract key set e = ap (λ (k : List ℕ). Some k) e
by_key Upsert key set e = e

module _ (width : ℕ) where
  -- as a key of what is sent it holds at every moment
  as_local : (o : Option (List ℕ)) → (table_keys o width).local ≡ (table_keys o width).unique
  as_local None = refl
  as_local (Some key) = refl

  is_key : (mode : Declared) (o : Option (List ℕ)) → ((key : List ℕ) → o ≡ Some key → IsOrdered key) → (sets : List (List ℕ)) → sets ≡ (table_keys o width).unique → (set : List ℕ) → Contains sets set → IsKeyBy (mode_of mode (unwrap_or o [])) o set
  is_key mode None ordered sets is set c = absurd (in_none set (from_family [] sets is set c))
  is_key mode (Some key) ordered sets is set c = by_key mode key set (the_key key (ordered key refl) sets is set c)

  -- a table is spread by its key or by all columns, which lie in what fixes the subtask
  spread_lies : (o : Option (List ℕ)) → ((key : List ℕ) → o ≡ Some key → IsOrdered key) → (sets : List (List ℕ)) → sets ≡ (table_keys o width).fixing → (set : List ℕ) → Contains sets set
      → LiesIn (unwrap_or o (columns_from 0 width)) set
  spread_lies None ordered sets is set c = subst (λ s. LiesIn s set) (sym (all_columns 0 width ∙ the_only (first_columns width) sets is set c)) (lies_itself set)
  spread_lies (Some key) ordered sets is set c = subst (λ s. LiesIn s set) (sym (the_key key (ordered key refl) sets is set c)) (lies_itself set)

  spread_keeps : (mode : Declared) (o : Option (List ℕ)) → HasKeyIn mode o → KeepsKeys (mode_of mode (unwrap_or o [])) (unwrap_or o (columns_from 0 width))
  spread_keeps Append o has_key = tt
  spread_keeps Retract o has_key = tt
  spread_keeps Upsert None has_key = keyless has_key
  spread_keeps Upsert (Some key) has_key = lies_itself key

  -- the key of an upsert table, which is told alone, is what fixes the subtask
  scan_tells : (mode : Declared) (o : Option (List ℕ)) (kinds : KindSet) (sets : List (List ℕ)) → sets ≡ (table_keys o width).fixing → AreTold (table_update mode o kinds) sets
  scan_tells Append o kinds sets is = full_tells kinds sets
  scan_tells Retract o kinds sets is = full_tells kinds sets
  scan_tells Upsert None kinds sets is = full_tells kinds sets
  scan_tells Upsert (Some key) kinds sets is = each_from_family (λ set. is_within set key ≡ true) (set_of key ∷ []) sets is (set_in key, tt)

  -- their columns are there
  abbrev Within : List (List ℕ) → Type 0
  Within sets = AllByRecursion (AreWithin width) sets

  ordered_there : (key : List ℕ) → IsOrdered key → AreWithin width key → Within (set_of key ∷ [])
  ordered_there key ordered within = (subst (AreWithin width) (sym ordered) within, tt)

  keys_there : (o : Option (List ℕ)) → ((key : List ℕ) → o ≡ Some key → IsOrdered key) → ((key : List ℕ) → o ≡ Some key → AreWithin width key) → (keys : KeyInfo) → keys ≡ table_keys o width
      → Within keys.unique × Within keys.local × Within keys.fixing
  keys_there None ordered within keys is = (
    each_from_family (AreWithin width) [] keys.unique (ap (λ (k : KeyInfo). k.unique) is) tt,
    each_from_family (AreWithin width) [] keys.local (ap (λ (k : KeyInfo). k.local) is) tt,
    each_from_family (AreWithin width) (first_columns width ∷ []) keys.fixing (ap (λ (k : KeyInfo). k.fixing) is) (first_within width width (omega arith), tt),
  )
  keys_there (Some key) ordered within keys is =
      let all = ordered_there key (ordered key refl) (within key refl) in (
        each_from_family (AreWithin width) (set_of key ∷ []) keys.unique (ap (λ (k : KeyInfo). k.unique) is) all,
        each_from_family (AreWithin width) (set_of key ∷ []) keys.local (ap (λ (k : KeyInfo). k.local) is) all,
        each_from_family (AreWithin width) (set_of key ∷ []) keys.fixing (ap (λ (k : KeyInfo). k.fixing) is) all,
      )

-- ---- the node

module _ (many : ℕ) (some : 0 < many) (table : TableDef) (own : Output) (agrees : ScanAgrees table own) where
  -- its kinds, its columns and its keys are the table's
  own_kinds : own.edge.kinds ≡ edge_kinds (kinds_of (mode_of table.mode [])) (table_update table.mode table.key own.sent)
  own_kinds = agrees.carries ∙ (λ i. edge_kinds (agrees.sends i) (agrees.tells i))

  row_comes : (row : Row) → Fits (column_types table) row → Fits own.columns row
  row_comes row h = subst (λ (columns : List ColTy). Fits columns row) (sym agrees.typed) h

  -- a change that is taken has the table's columns, or where it tells its key alone, those of the key
  has_types : (change : Change) → is_typed (table_mode table) (column_types table) change ≡ true → types_fit (column_types table) change.row ≡ true
  has_types change h = first (types_fit (column_types table) change.row) (is_told (told_key (table_mode table) change.kind) change.row) h

  taken_fits : (change : Change) → is_typed (table_mode table) (column_types table) change ≡ true
      → null_refusal (asked_of (required_from 0 (column_types table)) (told_key (table_mode table) change.kind)) change.row ≡ None
      → told_fits (told_key (table_mode table) change.kind) (column_types table) change.row ≡ true
  taken_fits change h free =
      told_of_types (column_types table) (told_key (table_mode table) change.kind) change.row (has_types change h)
      (second (types_fit (column_types table) change.row) (is_told (told_key (table_mode table) change.kind) change.row) h) free

  -- the edge is read as the table declares
  reads : meaning_by own.edge.update ≡ meaning_of (table_mode table)
  reads = ap meaning_by agrees.tells ∙ scan_means table.mode table.key own.sent agrees.has_key

  change_comes : (change : Change) → change_fits (meaning_of (table_mode table)) (column_types table) change ≡ true → change_fits (meaning_by own.edge.update) own.columns change ≡ true
  change_comes change h =
      subst (λ (columns : List ColTy). change_fits (meaning_by own.edge.update) columns change ≡ true) (sym agrees.typed)
      (subst (λ (m : Meaning). change_fits m (column_types table) change ≡ true) (sym reads) h)

  key_sets : own.keys.unique ≡ (table_keys table.key (length table.cols)).unique
  key_sets = ap (λ (k : KeyInfo). k.unique) agrees.keyed

  local_sets : own.keys.local ≡ (table_keys table.key (length table.cols)).unique
  local_sets = ap (λ (k : KeyInfo). k.local) agrees.keyed ∙ as_local (length table.cols) table.key

  carries_table : CarriesTable many (table_of many table) (edge_of many own)
  carries_table = record {
    routed = λ key. routed many some (column_types table) (Hash (spread_of table)) key;
    spread = spread_keeps (length table.cols) table.mode table.key agrees.has_key;
    meaning = reads;
    kinds = λ kind h. subst (λ (k : KindSet). has k kind ≡ true) (sym own_kinds) (scan_carries table.mode table.key own.sent kind agrees.has_key h);
    fits = λ change admitted h free. change_comes change (table_fits (table_mode table) (column_types table) change admitted (taken_fits change h free));
    holds = λ change h free comes. row_comes change.row (row_of_types (column_types table) change.row (has_types change h) free);
    unique = λ key h. is_key (length table.cols) table.mode table.key agrees.ordered own.keys.unique key_sets key h;
    local = λ key h. is_key (length table.cols) table.mode table.key agrees.ordered own.keys.local local_sets key h;
    fixing = λ columns h. spread_lies (length table.cols) table.key agrees.ordered own.keys.fixing (ap (λ (k : KeyInfo). k.fixing) agrees.keyed) columns h;
  }

  width : length table.cols ≡ length own.columns
  width = sym (ap length agrees.typed ∙ length-map table.cols (λ column. column.ty))

  scan_proper : IsProper own
  scan_proper =
      let all = keys_there (length table.cols) table.key agrees.ordered agrees.within own.keys agrees.keyed in
      record {
        unique = subst (λ n. AllByRecursion (AreWithin n) own.keys.unique) width all.0;
        local = subst (λ n. AllByRecursion (AreWithin n) own.keys.local) width all.1;
        fixing = subst (λ n. AllByRecursion (AreWithin n) own.keys.fixing) width all.2;
        update_key = λ key is. absurd (let none : None ≡ Some key = sym agrees.updates ∙ is in cc);
        told = subst (λ update. AreTold update own.keys.fixing) (sym agrees.tells) (scan_tells (length table.cols) table.mode table.key own.sent own.keys.fixing (ap (λ (k : KeyInfo). k.fixing) agrees.keyed));
        inserts = ap (λ (k : KindSet). k.i) agrees.sends ∙ scan_inserts table.mode;
        replaces = λ h. ap (λ (k : KindSet). k.ua) agrees.sends ∙ scan_replaces table.mode (sym (ap (λ (k : KindSet). k.ub) agrees.sends) ∙ h);
      }

pub scans_fit : ScansFit
scans_fit many some table own agrees = (carries_table many some table own agrees, scan_proper many some table own agrees)
