-- When a select is grouped.
use Rattle.std.proofs.Common.{◌≡◌, ◌==◌, true, false, List, [], ◌∷◌, length, refl, ap, sym, ◌∙◌, append-nil, arith}
use Rattle.std.specs.Prelude.{not, flat_map}
use Rattle.std.proofs.lemmas.Bool.Decides.{nat_tests}
use Rattle.sql_syntax.specs.Tree.{Tree, OptionalTree, no_tree, some_tree}
use Rattle.query_answer.specs.Answer.{Entry, is_grouped, listed_calls}
use Rattle.query_answer.specs.Calls.{Call}

pub by_groups : (es : List Entry) (groups : List Tree) (having : OptionalTree) → (length groups == 0) ≡ false → is_grouped es groups having ≡ true
by_groups es [] having h = absurd (cc)
by_groups es (x ∷ xs) having h = refl

pub by_having : (es : List Entry) (groups : List Tree) (having : Tree) → is_grouped es groups (some_tree having) ≡ true
by_having es [] having = refl
by_having es (x ∷ xs) having = refl

some-groups : (x : Tree) (xs : List Tree) → (length (x ∷ xs) == 0) ≡ true → ⊥
some-groups x xs h = let some : (length (x ∷ xs) == 0) ≡ false = grind (arith, nat_tests) in cc

pub by_calls : (es : List Entry) (groups : List Tree) (cs : List Call) → (length groups == 0) ≡ true → cs ≡ flat_map (λ e. listed_calls e.listed) es → is_grouped es groups no_tree ≡ not (length cs == 0)
by_calls es [] cs h e = ap (λ xs. not (length xs == 0)) (append-nil (flat_map (λ e. listed_calls e.listed) es) ∙ sym e)
by_calls es (x ∷ xs) cs h e = absurd (some-groups x xs h)
