-- No table of a judged script has more than 64 columns.
use Rattle.std.proofs.Common.{◌≡◌, ◌≤◌, ◌+◌, ℕ, suc, Bool, List, [], ◌∷◌, ◌++◌, length, Option, Some, None, Result, Ok, Err, refl, subst, arith}
use Rattle.std.specs.Prelude.{unwrap_or}
use Rattle.ct_value.specs.declared.codes.ScriptCode.{ScriptCode}
use Rattle.ct_value.specs.declared.ty.Ty.{Ty}
use Rattle.sql_syntax.specs.declared.statement.Element.{Element}
use Rattle.sql_syntax.specs.declared.statement.Element.TheVariants as el
use Rattle.sql_syntax.specs.declared.statement.TextPair.{TextPair}
use Rattle.sql_syntax.specs.Tree as t
use Rattle.sql_grammar.specs.ReadsScripts as s
use Rattle.sql_grammar.specs.ReadsScripts.{read_text}
use Rattle.ct_catalog.specs.Catalogue.{Catalogue, applied, empty, with_table, with_settings}
use Rattle.ct_catalog.specs.Setting.{set_of}
use Rattle.ct_catalog.specs.Tables.{column_names, columns, create_refusal, first_key, table_of, with_column}
use Rattle.ct_catalog.specs.Types.{type_of}
use Rattle.ct_catalog.specs.declared.settings.Settings.{Settings}
use Rattle.ct_catalog.specs.declared.table.ColDef.{ColDef}
use Rattle.ct_catalog.specs.declared.table.TableDef.{TableDef}
use Rattle.ct_catalog.proofs.laws.Refusals.{few_columns}
use Rattle.judge.specs.Judgement.{Judged, Asked, asked_by, asked_after, asked_from, asked_of, declared_then}
use Rattle.judge.specs.Tables.{AreFew}

few-more : (tables : List TableDef) (table : TableDef) → AreFew tables → length table.cols ≤ 64 → AreFew (tables ++ table ∷ [])
few-more [] table few one = (one, tt)
few-more (other ∷ tables) table few one = (few.0, few-more tables table few.1 one)

few-with : (name : List ℕ) (nullable : Bool) (ty : Option Ty) (cols : List ColDef) (n : ℕ) → length cols ≤ n → length (with_column name nullable ty cols) ≤ suc n
few-with name nullable None cols n few = omega (arith, few)
few-with name nullable (Some ty) cols n few = omega (arith, few)

few-columns : (key : List (List ℕ)) (elements : List Element) → length (columns key elements) ≤ length (column_names elements)
few-columns key [] = omega arith
few-columns key (el.Column name ty not_null own ∷ elements) = few-with name _ (type_of ty) (columns key elements) (length (column_names elements)) (few-columns key elements)
few-columns key (el.Key names ∷ elements) = few-columns key elements

few-created : (c d : Catalogue) (name : List ℕ) (elements : List Element) (options : List TextPair) (o : Option ScriptCode) → create_refusal c.tables name elements options ≡ o
    → with_table c (table_of name elements options) o ≡ Ok d → AreFew c.tables → AreFew d.tables
few-created c d name elements options (Some code) is e few = absurd (cc)
few-created c d name elements options None is e few =
    let bound : length (column_names elements) ≤ 64 = few_columns c.tables name elements options is in
    let less = few-columns (unwrap_or (first_key elements) []) elements in
    let one : length (table_of name elements options).cols ≤ 64 = omega (arith, bound, less) in
    let same : record c { tables = c.tables ++ table_of name elements options ∷ [] } ≡ d = cc in
    subst (λ (x : Catalogue). AreFew x.tables) same (few-more c.tables (table_of name elements options) few one)

few-set : (c d : Catalogue) (r : Result Settings ScriptCode) → with_settings c r ≡ Ok d → AreFew c.tables → AreFew d.tables
few-set c d (Err code) e few = absurd (cc)
few-set c d (Ok settings) e few = let same : record c { settings = settings } ≡ d = cc in subst (λ (x : Catalogue). AreFew x.tables) same few

few-applied : (c d : Catalogue) (x : t.Statement) → applied c x ≡ Ok d → AreFew c.tables → AreFew d.tables
few-applied c d (t.Create name elements options) e few = few-created c d name elements options _ refl e few
few-applied c d (t.Set key value) e few = few-set c d (set_of key value c.settings) e few
few-applied c d (t.Insert table query) e few = let same : c ≡ d = cc in subst (λ (x : Catalogue). AreFew x.tables) same few

-- ---- statement by statement

few-then : (c : Catalogue) (number : ℕ) (x : t.Statement) (others : Catalogue → Judged Asked) (asked : Asked) (r : Result Catalogue ScriptCode) → applied c x ≡ r → AreFew c.tables
    → ((d : Catalogue) → AreFew d.tables → others d ≡ Ok asked → AreFew asked.catalogue.tables) → declared_then others number r ≡ Ok asked → AreFew asked.catalogue.tables
few-then c number x others asked (Err code) is few behind e = absurd (cc)
few-then c number x others asked (Ok d) is few behind e = behind d (few-applied c d x is few) e

few-from : (c : Catalogue) (number : ℕ) (xs : List t.Statement) (asked : Asked) → AreFew c.tables → asked_from c number xs ≡ Ok asked → AreFew asked.catalogue.tables
few-from c number [] asked few e = absurd (cc)
few-from c number (t.Insert table query ∷ []) asked few e =
    let same : asked_by c number (t.Insert table query) ≡ asked = cc in subst (λ (x : Asked). AreFew x.catalogue.tables) same few
few-from c number (t.Insert table query ∷ x ∷ xs) asked few e = absurd (cc)
few-from c number (t.Create name elements options ∷ xs) asked few e =
    few-then c number (t.Create name elements options) (λ more. asked_from more (number + 1) xs) asked (applied c (t.Create name elements options)) refl few
    (λ d few_d is. few-from d (number + 1) xs asked few_d is) e
few-from c number (t.Set key value ∷ xs) asked few e =
    few-then c number (t.Set key value) (λ more. asked_from more (number + 1) xs) asked (applied c (t.Set key value)) refl few
    (λ d few_d is. few-from d (number + 1) xs asked few_d is) e

few-after : (answer : s.Answer) (asked : Asked) → asked_after answer ≡ Ok asked → AreFew asked.catalogue.tables
few-after (s.answered statements) asked e = few-from empty 1 statements asked tt e
few-after (s.refused code number) asked e = absurd (cc)

pub few_asked : (text : List ℕ) (asked : Asked) → asked_of text ≡ Ok asked → AreFew asked.catalogue.tables
few_asked text asked e = few-after (read_text text) asked e
