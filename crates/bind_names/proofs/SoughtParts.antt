-- Whether such a name stands in a tree or in what a walk has still to come to.
use Rattle.std.proofs.Common.{◌≡◌, ℕ, Bool, true, false, ◌||◌, List, [], ◌∷◌, Option, ap, ◌∙◌}
use Rattle.sql_syntax.specs.Tree.{Tree}
use Rattle.sql_syntax.specs.Walks.{parts}
use Rattle.sql_syntax.proofs.laws.Walks.{any_part, some_by_parts}
use Rattle.query_answer.specs.Mentions.{in_tree, is_such}

module _ (test : Option (List ℕ) → List ℕ → Bool) where
  abbrev pub any_has : List Tree → Bool
  any_has = any_part (is_such test)

  pub such : (x : Tree) → is_such test x ≡ true → in_tree test x ≡ true
  such x e = some_by_parts (is_such test) x ∙ ap (λ b. b || any_has (parts x)) e

  pub not_such : (x : Tree) → is_such test x ≡ false → in_tree test x ≡ any_has (parts x)
  not_such x e = some_by_parts (is_such test) x ∙ ap (λ b. b || any_has (parts x)) e

  pub first_has : (all rest : List Tree) (x : Tree) → all ≡ x ∷ rest → in_tree test x ≡ true → any_has all ≡ true
  first_has all rest x e h = ap any_has e ∙ ap (λ b. b || any_has rest) h

  pub first_lacks : (all rest : List Tree) (x : Tree) → all ≡ x ∷ rest → in_tree test x ≡ false → any_has all ≡ any_has rest
  first_lacks all rest x e h = ap any_has e ∙ ap (λ b. b || any_has rest) h

  pub nothing_has : (all : List Tree) → all ≡ [] → any_has all ≡ false
  nothing_has all e = ap any_has e
