-- What a table that isn't refused keeps to.
use Rattle.std.proofs.Common.{◌≡◌, ◌≤◌, Bool, true, false, List, [], ◌∷◌, Option, Some, None, refl, length, arith}
use Rattle.std.specs.Prelude.{◌||◌, not, nat_lt, if◌then◌else◌}
use Rattle.sql_syntax.specs.declared.statement.Element.{Element}
use Rattle.sql_syntax.specs.declared.statement.TextPair.{TextPair}
use Rattle.sql_syntax.specs.Tree as t
use Rattle.ct_value.specs.declared.codes.ScriptCode.{ScriptCode}
use Rattle.ct_value.specs.declared.codes.ScriptCode.TheVariants.{DuplicateName, Unsupported, TooManyColumns, KeyMissing, BadSetting}
use Rattle.ct_catalog.specs.Tables.{has_table, repeats, has_types, column_names, keys, is_upsert, declared_mode, has_unknown_mode, lacks_key, first_code, create_refusal}
use Rattle.ct_catalog.specs.declared.table.TableDef.{TableDef}

third_fails : (a b c : Bool) (x y z : ScriptCode) (rest : Option ScriptCode) → (if a then Some x else (if b then Some y else (if c then Some z else rest))) ≡ None → c ≡ false
third_fails true b c x y z rest e = absurd (cc)
third_fails false true c x y z rest e = absurd (cc)
third_fails false false true x y z rest e = absurd (cc)
third_fails false false false x y z rest e = refl

pub few_columns : (tables : List TableDef) (name : t.Text) (elements : List Element) (options : List TextPair) → create_refusal tables name elements options ≡ None → length (column_names elements) ≤ 64
few_columns tables name elements options e =
    let h : nat_lt 64 (length (column_names elements)) ≡ false =
    third_fails (has_table tables name || repeats (column_names elements)) (not (has_types elements)) (nat_lt 64 (length (column_names elements))) DuplicateName Unsupported TooManyColumns
    (first_code ((lacks_key (is_upsert (declared_mode options)) (column_names elements) (keys elements), KeyMissing) ∷ (has_unknown_mode options, BadSetting) ∷ [])) e
    in grind arith
