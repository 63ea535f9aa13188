-- An accepted script is the INSERT that its text asks for.
use Rattle.std.specs.Prelude.{◌↔◌, ◌+◌, Bool, cond, map}
use Rattle.std.proofs.Common.{◌≡◌, ◌∙◌, ℕ, true, false, List, [], ◌∷◌, ◌++◌, Option, Some, Result, Ok, Err, refl, sym, ap, subst}
use Rattle.std.specs.List.{AllByRecursion, find}
use Rattle.ct_value.specs.declared.codes.ScriptCode.{ScriptCode}
use Rattle.ct_field.specs.Numbers.{is_type}
use Rattle.sql_syntax.specs.Tree as t
use Rattle.sql_grammar.specs.ReadsScripts as s
use Rattle.sql_grammar.specs.Scripts.{IsScript}
use Rattle.ct_catalog.specs.Catalogue.{Catalogue, applied, empty}
use Rattle.ct_catalog.specs.declared.table.ColDef.{ColDef}
use Rattle.ct_catalog.specs.declared.table.TableDef.{TableDef}
use Rattle.judge.specs.Judgement.{Asked, Judged, asked_after, asked_by, asked_from, asked_of, declared_then, then}
use Rattle.judge.specs.WellDeclared.{HasTypes}
use Rattle.binding.specs.Checked.{Checked}
use Rattle.binding.specs.Inserts.{Inserted, insert_bound, is_table}
use Rattle.job_judgement.specs.Judgement.{Accepted, accepted_of, at_statement, first_bound, judgement}
use Rattle.job_plan.proofs.laws.BoundTo.{of_insert}
use Rattle.job_stream.specs.Stream.{sink_types}
use Rattle.job_text.specs.Told.{AreTypes}
use Rattle.job_run.specs.Insert.{Declare, Insert, sources_of}

-- ---- the statements

-- statements end with an INSERT, behind declarations
record EndsWith (c : Catalogue) (xs : List t.Statement) (asked : Asked) : Type 0 where
  number : ℕ
  before : List t.Statement
  table : t.Text
  query : t.Query
  are : xs ≡ before ++ t.Insert table query ∷ []
  declared : Declare c before asked.catalogue
  asks : asked ≡ asked_by asked.catalogue number (t.Insert table query)

one_before : (c more : Catalogue) (x : t.Statement) (xs : List t.Statement) (asked : Asked) → applied c x ≡ Ok more → EndsWith more xs asked → EndsWith c (x ∷ xs) asked
one_before c more x xs asked is e = record {
  number = e.number;
  before = x ∷ e.before;
  table = e.table;
  query = e.query;
  are = ap (λ ys. x ∷ ys) e.are;
  declared = (more, is, e.declared);
  asks = e.asks;
}

declared_ends : (c : Catalogue) (number : ℕ) (x : t.Statement) (xs : List t.Statement) (asked : Asked) (o : Result Catalogue ScriptCode) → applied c x ≡ o → ((more : Catalogue) → asked_from more (number + 1) xs ≡ Ok asked → EndsWith more xs asked)
    → declared_then (λ more. asked_from more (number + 1) xs) number o ≡ Ok asked → EndsWith c (x ∷ xs) asked
declared_ends c number x xs asked (Ok more) is later e = one_before c more x xs asked is (later more e)
declared_ends c number x xs asked (Err code) is later e = absurd (cc (e))

ends_with : (c : Catalogue) (number : ℕ) (xs : List t.Statement) (asked : Asked) → asked_from c number xs ≡ Ok asked → EndsWith c xs asked
ends_with c number [] asked e = absurd (cc (e))
ends_with c number (t.Insert table query ∷ []) asked e =
    let same : asked_by c number (t.Insert table query) ≡ asked = cc (e) in
    record {
      number = number;
      before = [];
      table = table;
      query = query;
      are = refl;
      declared = ap (λ (a : Asked). a.catalogue) same;
      asks = sym same ∙ ap (λ (d : Catalogue). asked_by d number (t.Insert table query)) (ap (λ (a : Asked). a.catalogue) same);
    }
ends_with c number (t.Insert table query ∷ x ∷ xs) asked e = absurd (cc (e))
ends_with c number (t.Create name elements options ∷ xs) asked e =
    declared_ends c number (t.Create name elements options) xs asked (applied c (t.Create name elements options)) refl (λ more is. ends_with more (number + 1) xs asked is) e
ends_with c number (t.Set key value ∷ xs) asked e =
    declared_ends c number (t.Set key value) xs asked (applied c (t.Set key value)) refl (λ more is. ends_with more (number + 1) xs asked is) e

-- ---- the INSERT

-- the INSERT of a text is that of an accepted script
pub record IsInsertOf (script : Accepted) {text : List ℕ} (insert : Insert text) : Type 0 where
  pub sources : script.inserted.sources ≡ sources_of insert
  pub sink : script.inserted.sink ≡ insert.sink
  pub query : script.query ≡ insert.query

pub record Found (text : List ℕ) (script : Accepted) : Type 0 where
  pub insert : Insert text
  pub of : IsInsertOf script insert
  pub types : AreTypes (sink_types insert.sink)

abbrev pub Reads : Type 0
Reads = (text : List ℕ) (x : t.Script) → (s.read_text text ≡ s.answered x.statements) ↔ IsScript text x

abbrev pub TablesHaveTypes : Type 0
TablesHaveTypes = (text : List ℕ) (asked : Asked) → asked_of text ≡ Ok asked → AllByRecursion HasTypes asked.catalogue.tables

-- a property of all tables is one of that which is found
found_if : (P : TableDef → Type 0) (table found : TableDef) (o : Option TableDef) (test : Bool) → P table → (o ≡ Some found → P found) → cond test (Some table) o ≡ Some found → P found
found_if P table found o true here behind is = let same : table ≡ found = cc (is) in subst P same here
found_if P table found o false here behind is = behind is

found_has : (P : TableDef → Type 0) (test : TableDef → Bool) (tables : List TableDef) (found : TableDef) → AllByRecursion P tables → find test tables ≡ Some found → P found
found_has P test [] found all is = absurd (cc (is))
found_has P test (table ∷ tables) found all is = found_if P table found (find test tables) (test table) all.0 (λ behind. found_has P test tables found all.1 behind) is

types_exist : (cols : List ColDef) → AllByRecursion (λ column. is_type column.ty.ty ≡ true) cols → AreTypes (map (λ c. c.ty.ty) cols)
types_exist [] all = tt
types_exist (col ∷ cols) all = (all.0, types_exist cols all.1)

module _ (reads : Reads) (typed : TablesHaveTypes) (text : List ℕ) (script : Accepted) where
  found_bound : (statements : List t.Statement) → IsScript text (record { statements = statements }) → (asked : Asked) → asked_of text ≡ Ok asked → (e : EndsWith empty statements asked)
      → (inserted : Inserted) → insert_bound asked.catalogue.tables e.table e.query ≡ Ok inserted → record { statement = e.number; catalogue = asked.catalogue; query = e.query; inserted = inserted } ≡ script → Found text script
  found_bound statements spelled asked asks e inserted bound same =
      let is = of_insert asked.catalogue.tables e.table e.query inserted bound in
      record {
        insert = record {
          script = record { statements = statements };
          spelled = spelled;
          before = e.before;
          table = e.table;
          query = e.query;
          statements = e.are;
          catalogue = asked.catalogue;
          declared = e.declared;
          sink = inserted.sink;
          fills = is.sink;
        };
        of = record {
          sources = sym (ap (λ (x : Accepted). x.inserted.sources) same) ∙ is.sources;
          sink = sym (ap (λ (x : Accepted). x.inserted.sink) same);
          query = sym (ap (λ (x : Accepted). x.query) same);
        };
        types = types_exist inserted.sink.cols (found_has HasTypes (is_table e.table) asked.catalogue.tables inserted.sink (typed text asked asks) is.sink);
      }

  found_at : (statements : List t.Statement) → IsScript text (record { statements = statements }) → (asked : Asked) → asked_of text ≡ Ok asked → (e : EndsWith empty statements asked)
      → (o : Checked Inserted) → insert_bound asked.catalogue.tables e.table e.query ≡ o → at_statement asked.catalogue e.number e.query o ≡ Ok script → Found text script
  found_at statements spelled asked asks e (Err code) bound judged = absurd (cc (judged))
  found_at statements spelled asked asks e (Ok inserted) bound judged =
      let same : record { statement = e.number; catalogue = asked.catalogue; query = e.query; inserted = inserted } ≡ script = cc (judged) in
      found_bound statements spelled asked asks e inserted bound same

  found_asked : (statements : List t.Statement) → IsScript text (record { statements = statements }) → (j : Judged Asked) → asked_of text ≡ j → asked_from empty 1 statements ≡ j → then accepted_of j ≡ Ok script → Found text script
  found_asked statements spelled (Err refusal) asks from judged = absurd (cc (judged))
  found_asked statements spelled (Ok asked) asks from judged =
      let e = ends_with empty 1 statements asked from in
      found_at statements spelled asked asks e (insert_bound asked.catalogue.tables e.table e.query) refl
      (ap (λ (a : Asked). first_bound asked.catalogue a.inserts) (sym e.asks) ∙ judged)

  found_read : (answer : s.Answer) → s.read_text text ≡ answer → then accepted_of (asked_after answer) ≡ Ok script → Found text script
  found_read (s.refused code number) read judged = absurd (cc (judged))
  found_read (s.answered statements) read judged =
      found_asked statements ((reads text (record { statements = statements })).0 read) (asked_from empty 1 statements) (ap asked_after read) refl judged

  pub found : judgement text ≡ Ok script → Found text script
  found judged = found_read (s.read_text text) refl judged
