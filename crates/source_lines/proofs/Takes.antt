-- What a table refuses by the rows that stand, by what is kept of them.
use Rattle.std.proofs.Common.{◌≡◌, ℕ, ◌≤◌, true, List, [], ◌∷◌, length, Option, Some, None, ◌⊎◌, inl, inr, ◌≢◌, ◌+◌, ◌<◌, ◌^◌, ◌++◌, refl, sym, subst, ap, arith, ◌∙◌}
use Rattle.std.specs.Prelude.{unwrap_or}
use Rattle.std.specs.FinMap as map
use Rattle.ct_value.specs.Bag.{copies}
use Rattle.ct_value.specs.Rows.{project}
use Rattle.ct_value.specs.declared.codes.ChangeCode.{ChangeCode}
use Rattle.ct_value.specs.declared.row.Row.{Row}
use Rattle.ct_change.specs.declared.kind.Declared.{Declared}
use Rattle.ct_change.specs.declared.kind.Declared.TheVariants.{Append, Retract, Upsert}
use Rattle.ct_change.specs.declared.change.Change.{Change}
use Rattle.ct_change.specs.Changelog.{Rows, append, retract, admits, apply, fold, mode_of}
use Rattle.ct_change.specs.LastRows.{AreLast, Lasts}
use Rattle.ct_change.proofs.laws.Folds.{append_only, fold-push}
use Rattle.ct_change.proofs.laws.Lasts.{last-after}
use Rattle.stream_model.specs.Tables.{asked, key_refusal_by, null_refusal, or_else, refusal, row_refusal}
use Rattle.ct_catalog.specs.declared.table.TableDef.{TableDef}
use Rattle.ct_catalog.specs.Columns.{table_mode}
use Rattle.source_lines.specs.declared.kept.Kept.{Kept}
use Rattle.source_lines.specs.declared.kept.Kept.TheVariants.{Nothing, Rows as Standing, Keyed}
use Rattle.source_lines.specs.Kept.{HasKey, HasNoKey, HasRoom, IsKept, refusal_after, rows_refusal, taker_of, NeedsNothing, keyed_after, keyed_refusal}
use Rattle.source_lines.proofs.Counts.{few_appended, few_retracted}
use Rattle.source_lines.proofs.Keyed.{keyed-append, keyed-retract, keyed-taken}

pub or_else-none : (o : Option ChangeCode) → or_else o None ≡ o
or_else-none None = refl
or_else-none (Some code) = refl

-- a table that needs nothing refuses nothing by its rows
pub nothing-refused : (declared : Declared) (key : Option (List ℕ)) → NeedsNothing declared key → (rows : Rows) (change : Change)
    → or_else (row_refusal (mode_of declared (unwrap_or key [])) rows change) (key_refusal_by (mode_of declared (unwrap_or key [])) key rows change) ≡ None
nothing-refused Append None n rows change = refl
nothing-refused Append (Some key) n rows change = absurd n
nothing-refused Retract key n rows change = absurd n
nothing-refused Upsert key n rows change = refl

-- a table without a key refuses what a retract table refuses
pub no_key-refused : (declared : Declared) (key : Option (List ℕ)) → HasNoKey declared key → (rows : Rows) (change : Change) → admits (mode_of declared (unwrap_or key [])) change.kind ≡ true
    → or_else (row_refusal (mode_of declared (unwrap_or key [])) rows change) (key_refusal_by (mode_of declared (unwrap_or key [])) key rows change) ≡ row_refusal retract rows change
no_key-refused Append None n rows change a = rw (append_only change.kind a) refl
no_key-refused Append (Some key) n rows change a = absurd n
no_key-refused Retract None n rows change a = or_else-none (row_refusal retract rows change)
no_key-refused Retract (Some key) n rows change a = absurd n
no_key-refused Upsert key n rows change a = absurd n

-- and its rows after a change are those of a retract table
pub no_key-applied : (declared : Declared) (key : Option (List ℕ)) → HasNoKey declared key → (rows : Rows) (change : Change) → admits (mode_of declared (unwrap_or key [])) change.kind ≡ true
    → apply (mode_of declared (unwrap_or key [])) rows change ≡ apply retract rows change
no_key-applied Append None n rows change a = rw (append_only change.kind a) refl
no_key-applied Append (Some key) n rows change a = absurd n
no_key-applied Retract None n rows change a = refl
no_key-applied Retract (Some key) n rows change a = absurd n
no_key-applied Upsert key n rows change a = absurd n

-- no row of it stands more often than it has changes
pub no_key-few : (declared : Declared) (key : Option (List ℕ)) → HasNoKey declared key → (changes : List Change) (row : Row)
    → copies (fold (mode_of declared (unwrap_or key [])) changes) row ≤ length changes
no_key-few Append None n changes row = few_appended changes row
no_key-few Append (Some key) n changes row = absurd n
no_key-few Retract None n changes row = few_retracted changes row
no_key-few Retract (Some key) n changes row = absurd n
no_key-few Upsert key n changes row = absurd n

-- what a table with a key refuses, by what its key has
pub keyed-refused : (declared : Declared) (key : Option (List ℕ)) → HasKey declared key → (lasts : Lasts) (rows : Rows) → AreLast (unwrap_or key []) lasts rows
    → (change : Change) → admits (mode_of declared (unwrap_or key [])) change.kind ≡ true → declared ≢ Upsert
    → or_else (row_refusal (mode_of declared (unwrap_or key [])) rows change) (key_refusal_by (mode_of declared (unwrap_or key [])) key rows change)
    ≡ keyed_refusal (map.get lasts (project (unwrap_or key []) change.row)) change
keyed-refused Append None h lasts rows last change a n = absurd h
keyed-refused Append (Some key) h lasts rows last change a n = keyed-append key lasts rows last change (append_only change.kind a)
keyed-refused Retract None h lasts rows last change a n = absurd h
keyed-refused Retract (Some key) h lasts rows last change a n = keyed-retract key lasts rows last change
keyed-refused Upsert key h lasts rows last change a n = absurd (n refl)

-- a change that isn't refused so, or one of an upsert table, leaves the rows that are kept
pub keyed-takes : (declared : Declared) (key : Option (List ℕ)) → HasKey declared key → (lasts : Lasts) (rows : Rows) → AreLast (unwrap_or key []) lasts rows
    → (change : Change) → admits (mode_of declared (unwrap_or key [])) change.kind ≡ true
    → (declared ≡ Upsert) ⊎ (keyed_refusal (map.get lasts (project (unwrap_or key []) change.row)) change ≡ None)
    → (or_else (row_refusal (mode_of declared (unwrap_or key [])) rows change) (key_refusal_by (mode_of declared (unwrap_or key [])) key rows change) ≡ None)
    × AreLast (unwrap_or key []) (keyed_after lasts (project (unwrap_or key []) change.row) change) (apply (mode_of declared (unwrap_or key [])) rows change)
keyed-takes Append None h lasts rows last change a t = absurd h
keyed-takes Append (Some key) h lasts rows last change a (inl e) = cc e
keyed-takes Append (Some key) h lasts rows last change a (inr t) =
    let adding = append_only change.kind a in
    let same : apply retract rows change ≡ apply append rows change = rw adding refl in
    (keyed-append key lasts rows last change adding ∙ t, subst (AreLast key (keyed_after lasts (project key change.row) change)) same (keyed-taken key lasts rows last change t))
keyed-takes Retract None h lasts rows last change a t = absurd h
keyed-takes Retract (Some key) h lasts rows last change a (inl e) = cc e
keyed-takes Retract (Some key) h lasts rows last change a (inr t) = (keyed-retract key lasts rows last change ∙ t, keyed-taken key lasts rows last change t)
keyed-takes Upsert key h lasts rows last change a t = (refl, last-after (unwrap_or key []) lasts rows last change)

-- fewer changes than can be counted leave room for one more copy of each row
pub room_left : (table : TableDef) (kept : Kept) (changes : List Change) → IsKept table kept (fold (table_mode table) changes) → length changes + 1 < 2 ^ 64 → HasRoom kept
room_left table Nothing changes k h = tt
room_left table (Standing bag) changes k h = λ row. omega (arith, h, no_key-few table.mode table.key k.0 changes row, ap (λ b. copies b row) k.1)
room_left table (Keyed lasts) changes k h = tt

-- a change that isn't refused by its kind or its values is refused by the rows that stand
pub by_rows : (table : TableDef) (rows : Rows) (change : Change) (refused : Option ChangeCode) → admits (table_mode table) change.kind ≡ true
    → null_refusal (asked (taker_of table) change) change.row ≡ None → rows_refusal table rows change ≡ refused → refusal (taker_of table) rows change ≡ refused
by_rows table rows change refused a n r = rw a (rw n r)

-- one change more
pub took : (own table : TableDef) (old new : Kept) (changes : List Change) (change : Change) → own ≡ table → IsKept table old (fold (table_mode table) changes)
    → ((rows : Rows) → IsKept own old rows → (refusal (taker_of own) rows change ≡ None) × IsKept own new (apply (table_mode own) rows change))
    → (refusal_after table changes change ≡ None) × IsKept table new (fold (table_mode table) (changes ++ change ∷ []))
took own table old new changes change e kept takes =
    let taken = (rw e at takes) (fold (table_mode table) changes) kept in
    (taken.0, subst (IsKept table new) (sym (fold-push (table_mode table) changes change)) taken.1)
