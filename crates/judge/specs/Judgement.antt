-- What a script is judged to be, step by step: each step answers what the next one needs, or refuses the script at a statement.
--     The first step is here. It takes the text first, then the statements in their order: CREATE TABLE and SET go to the
--     catalogue, and an INSERT is the last. Later steps stand behind it in crates of their own.
use Rattle.std.specs.Prelude.{◌≡◌, ℕ, ◌+◌, List, [], ◌∷◌, map, Result, Ok, Err}
use Rattle.ct_value.specs.declared.codes.ScriptCode.{ScriptCode}
use Rattle.ct_value.specs.declared.codes.ScriptCode.TheVariants.{NotOneInsert}
use Rattle.sql_syntax.specs.Tree as t
use Rattle.sql_syntax.specs.View.{statement_view}
use Rattle.sql_grammar.specs.ReadsScripts as s
use Rattle.sql_grammar.specs.ReadsScripts.{read_text}
use Rattle.ct_catalog.specs.Catalogue.{Catalogue, empty, applied}
use Rattle.judge.specs.declared.asked.Asked.{Asked as AskedValue}
use Rattle.judge.specs.declared.asked.Insert.{Insert as InsertValue}
use Rattle.judge.specs.declared.statements.JudgeFault.{JudgeFault}
use Rattle.judge.specs.declared.statements.JudgeFault.TheVariants.{Refused, Memory}

-- ---- steps

-- a refusal at a statement, the first of all having the number 1
pub record Refusal : Type 0 where
  pub code : ScriptCode
  pub statement : ℕ

-- what a step answers
abbrev pub Judged : Type 0 → Type 0
Judged A = Result A Refusal

abbrev pub refused : {A : Type 0} → ScriptCode → ℕ → Judged A
refused code number = Err (record { code = code; statement = number })

-- a step, and the next one where it refuses nothing
abbrev pub then : {A B : Type 0} → (A → Judged B) → Judged A → Judged B
then next (Ok answer) = next answer
then next (Err refusal) = Err refusal

-- the fault is the step's refusal, or it is want of memory
abbrev pub IsRefused : {A : Type 0} → JudgeFault → Judged A → Type 0
IsRefused (Refused code number) judged = judged ≡ refused code number
IsRefused Memory judged = Unit {0}

-- ---- the first step

-- an INSERT, and the number of its statement
pub record Insert : Type 0 where
  pub number : ℕ
  pub statement : t.Statement

-- what a script asks for: its tables and settings, and its INSERTs
pub record Asked : Type 0 where
  pub catalogue : Catalogue
  pub inserts : List Insert

abbrev pub asked_by : Catalogue → ℕ → t.Statement → Asked
asked_by c number insert = record { catalogue = c; inserts = record { number = number; statement = insert } ∷ [] }

abbrev pub declared_then : {A : Type 0} → (Catalogue → Judged A) → ℕ → Result Catalogue ScriptCode → Judged A
declared_then others number (Ok c) = others c
declared_then others number (Err code) = refused code number

-- statements from this number on, over the catalogue of those before
abbrev pub asked_from : Catalogue → ℕ → List t.Statement → Judged Asked
asked_from c number [] = refused NotOneInsert number
asked_from c number (t.Insert table query ∷ []) = Ok (asked_by c number (t.Insert table query))
asked_from c number (t.Insert table query ∷ x ∷ xs) = refused NotOneInsert (number + 1)
asked_from c number (x ∷ xs) = declared_then (λ more. asked_from more (number + 1) xs) number (applied c x)

abbrev pub asked_after : s.Answer → Judged Asked
asked_after (s.answered statements) = asked_from empty 1 statements
asked_after (s.refused code number) = refused code number

-- what a text asks for
abbrev pub asked_of : List ℕ → Judged Asked
asked_of text = asked_after (read_text text)

-- ---- what the code answers, as the definitions see it

abbrev pub insert_view : InsertValue → Insert
insert_view x = record { number = x.number; statement = statement_view x.statement }

abbrev pub asked_view : AskedValue → Asked
asked_view x = record { catalogue = x.catalog; inserts = map insert_view x.inserts }
