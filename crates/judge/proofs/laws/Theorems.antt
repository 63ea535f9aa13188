-- The theorems of this crate, put together of its lemmas.
use Rattle.judge.proofs.Tables.{few_asked}
use Rattle.std.specs.Prelude.{◌≡◌, ℕ, List, Ok, ◌⊎◌}
use Rattle.judge.specs.Judgement.{Asked, asked_of, asked_after, asked_from, refused}
use Rattle.judge.specs.Tables.{AreFew}
use Rattle.std.proofs.Common.{ap}
use Rattle.sql_syntax.specs.Tree.{Script}
use Rattle.sql_grammar.specs.Scripts.{IsScript, TextRefusal}
use Rattle.ct_catalog.specs.Catalogue.{empty}
use Rattle.sql_grammar.proofs.laws.Theorems.{text_is_script, text_is_refused}
use Rattle.ct_value.specs.declared.codes.ScriptCode.{ScriptCode}
use Rattle.judge.proofs.Texts.{each_is_one}

-- No table that a script asks for has more than 64 columns.
pub tables_have_few_columns : (text : List ℕ) (asked : Asked) → asked_of text ≡ Ok asked → AreFew asked.catalogue.tables
tables_have_few_columns = few_asked

-- A text that spells a script is judged by its statements.
pub script_is_judged : (text : List ℕ) (script : Script) → IsScript text script → asked_of text ≡ asked_from empty 1 script.statements
script_is_judged text script h = ap asked_after ((text_is_script text script).1 h)

-- A text that the grammar refuses is refused for the same reason at the same statement.
pub text_refusal_is_judged : (text : List ℕ) (code : ScriptCode) (number : ℕ) → TextRefusal text code number → asked_of text ≡ refused code number
text_refusal_is_judged text code number h = ap asked_after ((text_is_refused text code number).1 h)

-- Each text is one or the other.
pub each_text_is_one : (text : List ℕ) → ((script : Script) × IsScript text script) ⊎ ((code : ScriptCode) × (number : ℕ) × TextRefusal text code number)
each_text_is_one text = each_is_one (λ t x. (text_is_script t x).0) (λ t code number. (text_is_refused t code number).0) text
