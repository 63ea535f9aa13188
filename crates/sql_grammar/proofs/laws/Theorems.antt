-- The theorems of this crate, put together of its lemmas.
use Rattle.sql_grammar.proofs.Grammar.{one_statement, spelled_parse, parse_spelled, no_statement, unread_statement}
use Rattle.std.specs.Prelude.{◌≡◌, List, ◌↔◌, Some, None, ℕ}
use Rattle.sql_tokens.specs.declared.token.Token.{Token}
use Rattle.sql_syntax.specs.Tree.{Statement, Script}
use Rattle.sql_grammar.specs.Spells.{Spells}
use Rattle.sql_grammar.specs.Reads.{parse}
use Rattle.sql_grammar.proofs.Scripts.{script_read, is_read, read_refusal, refusal_read}
use Rattle.sql_grammar.specs.ReadsScripts.{answered, read_text, refused}
use Rattle.sql_grammar.specs.Scripts.{IsScript, TextRefusal}
use Rattle.ct_value.specs.declared.codes.ScriptCode.{ScriptCode}

-- The tokens of one statement have at most one tree.
pub one_tree_each : (ts : List Token) (x y : Statement) → Spells ts x → Spells ts y → x ≡ y
one_tree_each = one_statement

-- What is read as a statement is what the tokens spell.
pub read_is_spelled : (ts : List Token) (x : Statement) → (parse ts ≡ Some x) ↔ Spells ts x
read_is_spelled ts x = (spelled_parse ts x, parse_spelled ts x)

-- Tokens read nothing exactly where they spell no statement.
pub unread_is_unspelled : (ts : List Token) → (parse ts ≡ None) ↔ ((x : Statement) → ¬ (Spells ts x))
unread_is_unspelled ts = (no_statement ts, unread_statement ts)

-- A text is read as the statements that it spells.
pub text_is_script : (text : List ℕ) (x : Script) → (read_text text ≡ answered x.statements) ↔ IsScript text x
text_is_script text x = (script_read text x, is_read text x)

-- A text is read as a refusal where it has one, at the first statement that is refused.
pub text_is_refused : (text : List ℕ) (code : ScriptCode) (number : ℕ) → (read_text text ≡ refused code number) ↔ TextRefusal text code number
text_is_refused text code number = (read_refusal text code number, refusal_read text code number)
