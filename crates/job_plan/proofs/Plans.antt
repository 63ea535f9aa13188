-- The plan that is laid of what an INSERT is bound to.
use Rattle.std.specs.Prelude.{◌≡◌, ℕ, ◌<◌, ◌≤◌, ◌&&◌, Bool, not, cond, List, map, filter, Option, Ok, Err, IfOk}
use Rattle.std.specs.List.{AllByRecursion, find, list_all, list_any}
use Rattle.std.specs.Str.{bytes_eq}
use Rattle.std.proofs.lemmas.Bool.{and_from, not_from_false, or_from, or_parts}
use Rattle.std.proofs.lemmas.Slice.Eq.{bytes_eq-Decides}
use Rattle.std.proofs.Common.{true, false, [], ◌∷◌, refl, sym, ap, subst, ◌∙◌, arith, Some}
use Rattle.ct_catalog.specs.Tables.{repeats}
use Rattle.ct_catalog.specs.declared.settings.Settings.{Settings}
use Rattle.ct_catalog.specs.declared.table.TableDef.{TableDef}
use Rattle.rel_algebra.specs.Types.{columns_of}
use Rattle.sql_syntax.specs.Tree.{Query, Text}
use Rattle.query_answer.specs.Answer.{types}
use Rattle.rel_algebra.specs.Unions.{has_full_unions}
use Rattle.binding.specs.Checked.{Checked}
use Rattle.binding.specs.Inserts.{Inserted, insert_bound, is_table, sources_for}
use Rattle.rel_algebra.specs.GoesInto.{go_into}
use Rattle.ct_catalog.specs.Columns.{column_types}
use Rattle.plan_shape.specs.Tables.{are_tables, is_declarable, table_name}
use Rattle.job_plan.specs.Inserts.{AreFew, InsertsHaveLaidPlans, SettingsAreFew}
use Rattle.judge.specs.Judgement.{Asked, asked_of}
use Rattle.judge.specs.WellDeclared.{HasTypes}
use Rattle.job_plan.proofs.Tables.{AreDeclared, are_declared}
use Rattle.job_plan.proofs.laws.BoundTo.{IsOf, of_insert}

-- ---- are ones that a plan may have

both : (a b : Bool) → (a && b) ≡ true → (a ≡ true) × (b ≡ true)
both true b e = (refl, e)
both false b e = absurd (cc)

declarable_if : (test : Bool) (table : TableDef) (others : List TableDef) → is_declarable table ≡ true → list_all is_declarable others ≡ true → list_all is_declarable (cond test (table ∷ others) others) ≡ true
declarable_if true table others one all = and_from (is_declarable table) (list_all is_declarable others) one all
declarable_if false table others one all = all

declarable_among : (test : TableDef → Bool) (tables : List TableDef) → list_all is_declarable tables ≡ true → list_all is_declarable (filter test tables) ≡ true
declarable_among test [] all = refl
declarable_among test (table ∷ tables) all =
    let b = both (is_declarable table) (list_all is_declarable tables) all in
    declarable_if (test table) table (filter test tables) b.0 (declarable_among test tables b.1)

-- a name that no table has, none of some of them has
unnamed_if : (name : Text → Bool) (test : Bool) (table : TableDef) (others : List TableDef) → name table.name ≡ false → list_any name (map table_name others) ≡ false → list_any name (map table_name (cond test (table ∷ others) others)) ≡ false
unnamed_if name true table others one all = or_from (name table.name) (list_any name (map table_name others)) one all
unnamed_if name false table others one all = all

unnamed_among : (name : Text → Bool) (test : TableDef → Bool) (tables : List TableDef) → list_any name (map table_name tables) ≡ false → list_any name (map table_name (filter test tables)) ≡ false
unnamed_among name test [] all = refl
unnamed_among name test (table ∷ tables) all =
    let b = or_parts (name table.name) (list_any name (map table_name tables)) all in
    unnamed_if name (test table) table (filter test tables) b.0 (unnamed_among name test tables b.1)

apart_if : (test : Bool) (table : TableDef) (others : List TableDef) → list_any (bytes_eq table.name) (map table_name others) ≡ false → repeats (map table_name others) ≡ false → repeats (map table_name (cond test (table ∷ others) others)) ≡ false
apart_if true table others one all = or_from (list_any (bytes_eq table.name) (map table_name others)) (repeats (map table_name others)) one all
apart_if false table others one all = all

apart_among : (test : TableDef → Bool) (tables : List TableDef) → repeats (map table_name tables) ≡ false → repeats (map table_name (filter test tables)) ≡ false
apart_among test [] all = refl
apart_among test (table ∷ tables) all =
    let b = or_parts (list_any (bytes_eq table.name) (map table_name tables)) (repeats (map table_name tables)) all in
    apart_if (test table) table (filter test tables) (unnamed_among (bytes_eq table.name) test tables b.0) (apart_among test tables b.1)

-- the sources have other names than the sink
other_if : (name : Text) (test : Bool) (table : TableDef) (others : List TableDef) → is_table name table ≡ test → list_any (bytes_eq name) (map table_name others) ≡ false → list_any (bytes_eq name) (map table_name (cond (not test) (table ∷ others) others)) ≡ false
other_if name true table others is all = all
other_if name false table others is all = or_from (bytes_eq name table.name) (list_any (bytes_eq name) (map table_name others)) is all

others_named : (name : Text) (tables : List TableDef) → list_any (bytes_eq name) (map table_name (sources_for tables name)) ≡ false
others_named name [] = refl
others_named name (table ∷ tables) = other_if name (is_table name table) table (sources_for tables name) refl (others_named name tables)

found_if : (P : TableDef → Type 0) (table found : TableDef) (later : Option TableDef) (b : Bool) → (b ≡ true → P table) → (later ≡ Some found → P found) → cond b (Some table) later ≡ Some found → P found
found_if P table found later true here behind is = let same : table ≡ found = cc in subst P same (here refl)
found_if P table found later false here behind is = behind is

-- what is found passes the test, and is as all tables are
found_has : (P : TableDef → Type 0) (test : TableDef → Bool) (tables : List TableDef) (found : TableDef) → list_all is_declarable tables ≡ true → ((table : TableDef) → test table ≡ true → is_declarable table ≡ true → P table)
    → find test tables ≡ Some found → P found
found_has P test [] found all made e = absurd (cc)
found_has P test (table ∷ tables) found all made e =
    let b = both (is_declarable table) (list_all is_declarable tables) all in
    found_if P table found (find test tables) (test table) (λ passes. made table passes b.0) (found_has P test tables found b.1 made) e

sink_is : (tables : List TableDef) (name : Text) (sink : TableDef) → list_all is_declarable tables ≡ true → find (is_table name) tables ≡ Some sink → (name ≡ sink.name) × (is_declarable sink ≡ true)
sink_is tables name sink all e = found_has (λ table. (name ≡ table.name) × (is_declarable table ≡ true)) (is_table name) tables sink all (λ table named one. ((bytes_eq-Decides name table.name).0 named, one)) e

are_tables_of : (tables : List TableDef) (name : Text) (bound : Inserted) → AreDeclared tables → IsOf tables name bound → are_tables (bound.sink ∷ bound.sources) ≡ true
are_tables_of tables name bound declared of =
    let sink = sink_is tables name bound.sink declared.all of.sink in
    let test : TableDef → Bool = λ table. not (is_table name table) in
    let others : list_all is_declarable bound.sources ≡ true = ap (list_all is_declarable) of.sources ∙ declarable_among test tables declared.all in
    let apart : repeats (map table_name bound.sources) ≡ false = ap (λ (sources : List TableDef). repeats (map table_name sources)) of.sources ∙ apart_among test tables declared.apart in
    let other : list_any (bytes_eq bound.sink.name) (map table_name bound.sources) ≡ false =
    (λ i. list_any (bytes_eq (sym sink.0 i)) (map table_name (of.sources i))) ∙ others_named name tables in
    and_from (list_all is_declarable (bound.sink ∷ bound.sources)) (not (repeats (map table_name (bound.sink ∷ bound.sources)))) (and_from (is_declarable bound.sink) (list_all is_declarable bound.sources) sink.1 others)
    (not_from_false (repeats (map table_name (bound.sink ∷ bound.sources))) (or_from (list_any (bytes_eq bound.sink.name) (map table_name bound.sources)) (repeats (map table_name bound.sources)) other apart))

-- ---- its plan

of_ok : (o : Checked Inserted) (bound : Inserted) (P : Inserted → Type 0) → o ≡ Ok bound → IfOk o P → P bound
of_ok (Ok x) bound P e p = let same : x ≡ bound = cc in subst P same p
of_ok (Err code) bound P e p = absurd (cc)

abbrev pub TablesHaveTypes : Type 0
TablesHaveTypes = (text : List ℕ) (asked : Asked) → asked_of text ≡ Ok asked → AllByRecursion HasTypes asked.catalogue.tables

abbrev pub OfInserts : (Inserted → Type 0) → Type 0
OfInserts P = (tables : List TableDef) (name : Text) (query : Query) → IfOk (insert_bound tables name query) P

pub have_laid_plans : OfInserts (λ bound. columns_of (map column_types bound.sources) bound.query.rel ≡ Some (types bound.query.scope)) → OfInserts (λ bound. has_full_unions bound.query.rel ≡ true)
    → OfInserts (λ bound. go_into (types bound.query.scope) (column_types bound.sink) ≡ true) → TablesHaveTypes → SettingsAreFew → InsertsHaveLaidPlans
have_laid_plans typed unions goes declared few text name query bound plan is = record {
  two_phase = is.asked.catalogue.settings.two_phase;
  laid_out = is.laid_out;
  columns = types bound.query.scope;
  typed = ap (λ (sources : List TableDef). columns_of (map column_types sources) bound.query.rel) is.sources
      ∙ of_ok (insert_bound tables name query) bound (λ b. columns_of (map column_types b.sources) b.query.rel ≡ Some (types b.query.scope)) is.is_bound (typed tables name query);
  unions = of_ok (insert_bound tables name query) bound (λ b. has_full_unions b.query.rel ≡ true) is.is_bound (unions tables name query);
  goes = ap (λ (sink : TableDef). go_into (types bound.query.scope) (column_types sink)) is.sink
      ∙ of_ok (insert_bound tables name query) bound (λ b. go_into (types b.query.scope) (column_types b.sink) ≡ true) is.is_bound (goes tables name query);
  tables = (λ i. are_tables (is.sink i ∷ is.sources i)) ∙ are_tables_of tables name bound (are_declared declared text is.asked is.is_asked) (of_insert tables name query bound is.is_bound);
  parallel = subst (λ n. 0 < n) (sym is.parallelism) settings.0;
  narrow = subst (λ n. n ≤ 16) (sym is.parallelism) settings.1;
  bundled = subst (λ n. n ≤ 1000000) (sym is.mini_batch) (few_bundled is.asked.catalogue.settings is.asked.catalogue.settings.batching settings.2);
}
  where
    tables : List TableDef
    tables = is.asked.catalogue.tables

    settings : AreFew is.asked.catalogue.settings
    settings = few text is.asked is.is_asked

    few_bundled : (s : Settings) (batching : Bool) → s.batch_size ≤ 1000000 → cond batching s.batch_size 0 ≤ 1000000
    few_bundled s true h = h
    few_bundled s false h = omega arith
