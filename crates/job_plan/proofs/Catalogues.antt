-- What holds of the catalogue of a script, where each statement keeps it.
use Rattle.std.proofs.Common.{◌≡◌, ◌+◌, ℕ, List, [], ◌∷◌, Result, Ok, Err, refl, subst}
use Rattle.ct_value.specs.declared.codes.ScriptCode.{ScriptCode}
use Rattle.sql_syntax.specs.Tree as t
use Rattle.sql_grammar.specs.ReadsScripts as s
use Rattle.sql_grammar.specs.ReadsScripts.{read_text}
use Rattle.ct_catalog.specs.Catalogue.{Catalogue, applied, empty}
use Rattle.judge.specs.Judgement.{Judged, Asked, asked_by, asked_after, asked_from, asked_of, declared_then}

module _ (P : Catalogue → Type 0) (kept : (c next : Catalogue) (x : t.Statement) → P c → applied c x ≡ Ok next → P next) where
  of_next : (c : Catalogue) (number : ℕ) (x : t.Statement) (others : Catalogue → Judged Asked) (asked : Asked) (o : Result Catalogue ScriptCode) → applied c x ≡ o → P c
      → ((next : Catalogue) → P next → others next ≡ Ok asked → P asked.catalogue) → declared_then others number o ≡ Ok asked → P asked.catalogue
  of_next c number x others asked (Err code) is p behind e = absurd (cc)
  of_next c number x others asked (Ok next) is p behind e = behind next (kept c next x p is) e

  of_rest : (c : Catalogue) (number : ℕ) (xs : List t.Statement) (asked : Asked) → P c → asked_from c number xs ≡ Ok asked → P asked.catalogue
  of_rest c number [] asked p e = absurd (cc)
  of_rest c number (t.Insert table query ∷ []) asked p e =
      let same : asked_by c number (t.Insert table query) ≡ asked = cc in subst (λ (a : Asked). P a.catalogue) same p
  of_rest c number (t.Insert table query ∷ x ∷ xs) asked p e = absurd (cc)
  of_rest c number (t.Create name elements options ∷ xs) asked p e =
      of_next c number (t.Create name elements options) (λ more. asked_from more (number + 1) xs) asked (applied c (t.Create name elements options)) refl p
      (λ next q is. of_rest next (number + 1) xs asked q is) e
  of_rest c number (t.Set key value ∷ xs) asked p e =
      of_next c number (t.Set key value) (λ more. asked_from more (number + 1) xs) asked (applied c (t.Set key value)) refl p
      (λ next q is. of_rest next (number + 1) xs asked q is) e

  of_answer : P empty → (answer : s.Answer) (asked : Asked) → asked_after answer ≡ Ok asked → P asked.catalogue
  of_answer p (s.answered statements) asked e = of_rest empty 1 statements asked p e
  of_answer p (s.refused code number) asked e = absurd (cc)

  pub of_asked : P empty → (text : List ℕ) (asked : Asked) → asked_of text ≡ Ok asked → P asked.catalogue
  of_asked p text asked e = of_answer p (read_text text) asked e
