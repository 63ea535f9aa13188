-- Each text is a script or is refused.
use Rattle.std.proofs.Common.{◌≡◌, ◌⊎◌, inl, inr, ℕ, List, refl}
use Rattle.ct_value.specs.declared.codes.ScriptCode.{ScriptCode}
use Rattle.sql_syntax.specs.Tree.{Script}
use Rattle.sql_grammar.specs.ReadsScripts.{Answer, answered, refused, read_text}
use Rattle.sql_grammar.specs.Scripts.{IsScript, TextRefusal}

module _ (script_read : (text : List ℕ) (x : Script) → read_text text ≡ answered x.statements → IsScript text x)
    (read_refusal : (text : List ℕ) (code : ScriptCode) (number : ℕ) → read_text text ≡ refused code number → TextRefusal text code number) where
  one_of : (text : List ℕ) (a : Answer) → read_text text ≡ a → ((script : Script) × IsScript text script) ⊎ ((code : ScriptCode) × (number : ℕ) × TextRefusal text code number)
  one_of text (answered xs) e = inl (record { statements = xs }, script_read text (record { statements = xs }) e)
  one_of text (refused code number) e = inr (code, number, read_refusal text code number e)

  pub each_is_one : (text : List ℕ) → ((script : Script) × IsScript text script) ⊎ ((code : ScriptCode) × (number : ℕ) × TextRefusal text code number)
  each_is_one text = one_of text (read_text text) refl
