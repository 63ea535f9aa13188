-- What every table keeps to that a CREATE TABLE declares, the tables of a judged script keep to.
use Rattle.std.proofs.Common.{◌≡◌, ◌+◌, ℕ, List, [], ◌∷◌, ◌++◌, Option, Some, None, Result, Ok, Err, refl, subst}
use Rattle.std.specs.List.{AllByRecursion}
use Rattle.ct_value.specs.declared.codes.ScriptCode.{ScriptCode}
use Rattle.sql_syntax.specs.declared.statement.Element.{Element}
use Rattle.sql_syntax.specs.declared.statement.TextPair.{TextPair}
use Rattle.sql_syntax.specs.Tree as t
use Rattle.sql_grammar.specs.ReadsScripts as s
use Rattle.sql_grammar.specs.ReadsScripts.{read_text}
use Rattle.ct_catalog.specs.Catalogue.{Catalogue, applied, empty, with_table, with_settings}
use Rattle.ct_catalog.specs.Setting.{set_of}
use Rattle.ct_catalog.specs.Tables.{create_refusal, table_of}
use Rattle.ct_catalog.specs.declared.settings.Settings.{Settings}
use Rattle.ct_catalog.specs.declared.table.TableDef.{TableDef}
use Rattle.judge.specs.Judgement.{Judged, Asked, asked_by, asked_after, asked_from, asked_of, declared_then}

module _ (P : TableDef → Type 0) (created : (tables : List TableDef) (name : t.Text) (elements : List Element) (options : List TextPair) → create_refusal tables name elements options ≡ None → P (table_of name elements options)) where
  abbrev Keep : List TableDef → Type 0
  Keep tables = AllByRecursion P tables

  kept-more : (tables : List TableDef) (table : TableDef) → Keep tables → P table → Keep (tables ++ table ∷ [])
  kept-more [] table kept one = (one, tt)
  kept-more (other ∷ tables) table kept one = (kept.0, kept-more tables table kept.1 one)

  kept-created : (c d : Catalogue) (name : List ℕ) (elements : List Element) (options : List TextPair) (o : Option ScriptCode) → create_refusal c.tables name elements options ≡ o
      → with_table c (table_of name elements options) o ≡ Ok d → Keep c.tables → Keep d.tables
  kept-created c d name elements options (Some code) is e kept = absurd (cc)
  kept-created c d name elements options None is e kept =
      let same : record c { tables = c.tables ++ table_of name elements options ∷ [] } ≡ d = cc (e) in
      subst (λ (x : Catalogue). Keep x.tables) same (kept-more c.tables (table_of name elements options) kept (created c.tables name elements options is))

  kept-set : (c d : Catalogue) (r : Result Settings ScriptCode) → with_settings c r ≡ Ok d → Keep c.tables → Keep d.tables
  kept-set c d (Err code) e kept = absurd (cc)
  kept-set c d (Ok settings) e kept = let same : record c { settings = settings } ≡ d = cc in subst (λ (x : Catalogue). Keep x.tables) same kept

  kept-applied : (c d : Catalogue) (x : t.Statement) → applied c x ≡ Ok d → Keep c.tables → Keep d.tables
  kept-applied c d (t.Create name elements options) e kept = kept-created c d name elements options _ refl e kept
  kept-applied c d (t.Set key value) e kept = kept-set c d (set_of key value c.settings) e kept
  kept-applied c d (t.Insert table query) e kept = let same : c ≡ d = cc in subst (λ (x : Catalogue). Keep x.tables) same kept

  kept-then : (c : Catalogue) (number : ℕ) (x : t.Statement) (others : Catalogue → Judged Asked) (asked : Asked) (r : Result Catalogue ScriptCode) → applied c x ≡ r → Keep c.tables
      → ((d : Catalogue) → Keep d.tables → others d ≡ Ok asked → Keep asked.catalogue.tables) → declared_then others number r ≡ Ok asked → Keep asked.catalogue.tables
  kept-then c number x others asked (Err code) is kept behind e = absurd (cc)
  kept-then c number x others asked (Ok d) is kept behind e = behind d (kept-applied c d x is kept) e

  kept-from : (c : Catalogue) (number : ℕ) (xs : List t.Statement) (asked : Asked) → Keep c.tables → asked_from c number xs ≡ Ok asked → Keep asked.catalogue.tables
  kept-from c number [] asked kept e = absurd (cc)
  kept-from c number (t.Insert table query ∷ []) asked kept e =
      let same : asked_by c number (t.Insert table query) ≡ asked = cc in subst (λ (x : Asked). Keep x.catalogue.tables) same kept
  kept-from c number (t.Insert table query ∷ x ∷ xs) asked kept e = absurd (cc)
  kept-from c number (t.Create name elements options ∷ xs) asked kept e =
      kept-then c number (t.Create name elements options) (λ more. asked_from more (number + 1) xs) asked (applied c (t.Create name elements options)) refl kept
      (λ d kept_d is. kept-from d (number + 1) xs asked kept_d is) e
  kept-from c number (t.Set key value ∷ xs) asked kept e =
      kept-then c number (t.Set key value) (λ more. asked_from more (number + 1) xs) asked (applied c (t.Set key value)) refl kept
      (λ d kept_d is. kept-from d (number + 1) xs asked kept_d is) e

  kept-after : (answer : s.Answer) (asked : Asked) → asked_after answer ≡ Ok asked → Keep asked.catalogue.tables
  kept-after (s.answered statements) asked e = kept-from empty 1 statements asked tt e
  kept-after (s.refused code number) asked e = absurd (cc)

  pub kept_asked : (text : List ℕ) (asked : Asked) → asked_of text ≡ Ok asked → Keep asked.catalogue.tables
  kept_asked text asked e = kept-after (read_text text) asked e
