-- The reading answers the statement that the tokens spell, and nothing exactly where they spell none.
use Rattle.std.proofs.Common.{◌≡◌, suc, List, [], ◌∷◌, length, Option, Some, None, refl, sym, ap, ◌∙◌, subst, append-nil}
use Rattle.sql_tokens.specs.declared.token.Token.{Token}
use Rattle.sql_syntax.specs.Tree.{Statement}
use Rattle.sql_grammar.specs.Spells.{Spells, StatementOf, within}
use Rattle.sql_grammar.specs.Reads.{statement_at, readers, whole, parse}
use Rattle.sql_grammar.proofs.WordReading.{IfRead}
use Rattle.sql_grammar.proofs.SoundShapes.{Took}
use Rattle.sql_grammar.proofs.SoundStatements.{statement_sound}
use Rattle.sql_grammar.proofs.SoundStatements as sound
use Rattle.sql_grammar.proofs.CompleteStatements.{statement_complete}
use Rattle.sql_grammar.proofs.CompleteStatements as complete
use Rattle.sql_grammar.proofs.Deeper.{deeper}

-- What is spelled is read.
pub parse_spelled : (ts : List Token) (x : Statement) → Spells ts x → parse ts ≡ Some x
unfolding parse
parse_spelled ts x (depth, s) =
    ap whole (ap (statement_at (readers (suc (length ts)))) (sym (append-nil ts))
    ∙ statement_complete (readers (suc (length ts))) (within (suc (length ts))) (complete.query_within (suc (length ts))) ts x [] (deeper depth ts x s) tt)

-- What is read is spelled.
pub spelled_parse : (ts : List Token) (x : Statement) → parse ts ≡ Some x → Spells ts x
unfolding parse
spelled_parse ts x = go (statement_at (readers (suc (length ts))) ts) (statement_sound (readers (suc (length ts))) (within (suc (length ts))) (sound.query_within (suc (length ts))) ts)
  where
    go : (o : Option (Statement × List Token)) → IfRead o (Took (StatementOf (within (suc (length ts)))) ts) → whole o ≡ Some x → Spells ts x
    go None h e = absurd (cc)
    go (Some (y, [])) h e =
        let is : y ≡ x = cc in
        let all : h.taken ≡ ts = sym (h.is ∙ append-nil h.taken) in
        (suc (length ts), subst (λ (a : List Token). StatementOf (within (suc (length ts))) a x) all (subst (λ (z : Statement). StatementOf (within (suc (length ts))) h.taken z) is h.spelled))
    go (Some (y, t ∷ rest)) h e = absurd (cc)

-- A list of tokens has at most one tree.
pub one_statement : (ts : List Token) (x y : Statement) → Spells ts x → Spells ts y → x ≡ y
one_statement ts x y a b = let e : Some x ≡ Some y = sym (parse_spelled ts x a) ∙ parse_spelled ts y b in cc

-- What reads nothing is spelled by no tree.
pub no_statement : (ts : List Token) → parse ts ≡ None → (x : Statement) → Spells ts x → ⊥
no_statement ts e x h = let clash : None ≡ Some x = sym e ∙ parse_spelled ts x h in absurd (cc)

-- Where no tree is spelled, nothing is read.
pub unread_statement : (ts : List Token) → ((x : Statement) → Spells ts x → ⊥) → parse ts ≡ None
unread_statement ts h = go (parse ts) refl
  where
    go : (o : Option Statement) → parse ts ≡ o → o ≡ None
    go None e = refl
    go (Some x) e = absurd (h x (spelled_parse ts x e))
