-- The key pairs and the rest of the conjuncts of several trees.
use Rattle.std.proofs.Common.{◌≡◌, ℕ, ◌+◌, ◌<◌, List, [], ◌∷◌, ◌++◌, Option, Some, None, length, drop, get_or, Ok, Err, refl, sym, ap, ◌∙◌, append_assoc, append-nil}
use Rattle.std.proofs.lemmas.List.{at_drop_more}
use Rattle.ct_value.specs.declared.codes.ScriptCode.{ScriptCode}
use Rattle.rel_algebra.specs.declared.join.Pair.{Pair}
use Rattle.sql_syntax.specs.declared.tree.Tree as d
use Rattle.sql_syntax.specs.Tree.{Tree}
use Rattle.sql_syntax.specs.View.{view}
use Rattle.query_answer.specs.Answer.{conjuncts}
use Rattle.query_answer.specs.Joins.{pair_of, pairs_of, rest_of, with_pair, unless_pair}
use Rattle.query_answer.specs.Names.{Lookup, Scope, find}
use Rattle.binding.specs.Checked.{Checked, ◌>>=◌}
use Rattle.binding.specs.Expressions.{bound_over, each_bound}
use Rattle.binding.specs.Nodes.{Bound}
use Rattle.bind_sources.specs.Splits.{behind, conjuncts_of, pairs_in, rest_in}

-- ---- of two lists of conjuncts

with-both : (o : Option Pair) (ps qs : List Pair) → with_pair o (ps ++ qs) ≡ with_pair o ps ++ qs
with-both None ps qs = refl
with-both (Some pair) ps qs = refl

pairs-both : (width : ℕ) (look : Lookup) (xs ys : List Tree) → pairs_of width look (xs ++ ys) ≡ pairs_of width look xs ++ pairs_of width look ys
pairs-both width look [] ys = refl
pairs-both width look (x ∷ xs) ys = ap (with_pair (pair_of width look x)) (pairs-both width look xs ys) ∙ with-both (pair_of width look x) (pairs_of width look xs) (pairs_of width look ys)

unless-both : (o : Option Pair) (x : Tree) (xs ys : List Tree) → unless_pair o x (xs ++ ys) ≡ unless_pair o x xs ++ ys
unless-both None x xs ys = refl
unless-both (Some pair) x xs ys = refl

rest-both : (width : ℕ) (look : Lookup) (xs ys : List Tree) → rest_of width look (xs ++ ys) ≡ rest_of width look xs ++ rest_of width look ys
rest-both width look [] ys = refl
rest-both width look (x ∷ xs) ys = ap (unless_pair (pair_of width look x) x) (rest-both width look xs ys) ∙ unless-both (pair_of width look x) x (rest_of width look xs) (rest_of width look ys)

abbrev also : Checked (List Bound) → Checked (List Bound) → Checked (List Bound)
also r s = r >>= λ xs. s >>= λ ys. Ok (xs ++ ys)

also-nothing : (s : Checked (List Bound)) → s ≡ (s >>= λ ys. Ok ys)
also-nothing (Ok ys) = refl
also-nothing (Err code) = refl

also-one : (a : Bound) (r s : Checked (List Bound)) → (also r s >>= λ zs. Ok (a ∷ zs)) ≡ also (r >>= λ xs. Ok (a ∷ xs)) s
also-one a (Ok xs) (Ok ys) = refl
also-one a (Ok xs) (Err code) = refl
also-one a (Err code) s = refl

one-more : (r : Checked Bound) (all some others : Checked (List Bound)) → all ≡ also some others → (r >>= λ a. all >>= λ zs. Ok (a ∷ zs)) ≡ also (r >>= λ a. some >>= λ zs. Ok (a ∷ zs)) others
one-more (Ok a) all some others e = ap (λ r. r >>= λ zs. Ok (a ∷ zs)) e ∙ also-one a some others
one-more (Err code) all some others e = refl

each-both : (scope : Scope) (xs ys : List Tree) → each_bound scope (xs ++ ys) ≡ also (each_bound scope xs) (each_bound scope ys)
each-both scope [] ys = also-nothing (each_bound scope ys)
each-both scope (x ∷ xs) ys = one-more (bound_over scope x) (each_bound scope (xs ++ ys)) (each_bound scope xs) (each_bound scope ys) (each-both scope xs ys)

rest-also : (scope : Scope) (width : ℕ) (xs ys : List Tree) → rest_in scope width (xs ++ ys) ≡ also (rest_in scope width xs) (rest_in scope width ys)
rest-also scope width xs ys = ap (each_bound scope) (rest-both width (find scope) xs ys) ∙ each-both scope (rest_of width (find scope) xs) (rest_of width (find scope) ys)

-- ---- behind what was found

pub behind_none : {A : Type 0} (xs : List A) → behind xs (Ok []) ≡ Ok xs
behind_none xs = ap Ok (append-nil xs)

behind-also : (xs zs : List Bound) (r s : Checked (List Bound)) → behind xs r ≡ Ok zs → behind xs (also r s) ≡ behind zs s
behind-also xs zs (Ok ys) (Ok ws) e = ap Ok (sym (append_assoc xs ys ws)) ∙ ap (λ r. r >>= λ vs. Ok (vs ++ ws)) e
behind-also xs zs (Ok ys) (Err code) e = refl
behind-also xs zs (Err code) s e = absurd (cc)

behind-refused : (xs : List Bound) (r : Checked (List Bound)) (code : ScriptCode) → behind xs r ≡ Err code → r ≡ Err code
behind-refused xs (Ok ys) code e = absurd (cc)
behind-refused xs (Err other) code e = e

-- ---- as far as a loop over trees has come

conjuncts-step : (xs : List d.Tree) (i : ℕ) (x : d.Tree) → i < length xs → x ≡ get_or xs i x → conjuncts_of (drop i xs) ≡ conjuncts (view x) ++ conjuncts_of (drop (i + 1) xs)
conjuncts-step xs i x l h = at_drop_more conjuncts_of xs i x l ∙ ap (λ y. conjuncts_of (y ∷ drop (i + 1) xs)) (sym h)

module _ (scope : Scope) (width : ℕ) (xs : List d.Tree) (i : ℕ) (x : d.Tree) (l : i < length xs) (h : x ≡ get_or xs i x) where
  pub pairs_turn : (found more whole : List Pair) → found ++ pairs_in scope width (conjuncts_of (drop i xs)) ≡ whole → more ≡ found ++ pairs_in scope width (conjuncts (view x))
      → more ++ pairs_in scope width (conjuncts_of (drop (i + 1) xs)) ≡ whole
  pairs_turn found more whole e k =
      ap (λ ps. ps ++ pairs_in scope width (conjuncts_of (drop (i + 1) xs))) k
      ∙ append_assoc found (pairs_in scope width (conjuncts (view x))) (pairs_in scope width (conjuncts_of (drop (i + 1) xs)))
      ∙ ap (λ ps. found ++ ps) (sym (pairs-both width (find scope) (conjuncts (view x)) (conjuncts_of (drop (i + 1) xs))) ∙ sym (ap (pairs_in scope width) (conjuncts-step xs i x l h)))
      ∙ e

  step : rest_in scope width (conjuncts_of (drop i xs)) ≡ also (rest_in scope width (conjuncts (view x))) (rest_in scope width (conjuncts_of (drop (i + 1) xs)))
  step = ap (rest_in scope width) (conjuncts-step xs i x l h) ∙ rest-also scope width (conjuncts (view x)) (conjuncts_of (drop (i + 1) xs))

  pub rest_turn : (found more : List Bound) (whole : Checked (List Bound)) → behind found (rest_in scope width (conjuncts_of (drop i xs))) ≡ whole → behind found (rest_in scope width (conjuncts (view x))) ≡ Ok more
      → behind more (rest_in scope width (conjuncts_of (drop (i + 1) xs))) ≡ whole
  rest_turn found more whole e k = sym (behind-also found more (rest_in scope width (conjuncts (view x))) (rest_in scope width (conjuncts_of (drop (i + 1) xs))) k) ∙ sym (ap (behind found) step) ∙ e

  -- what one of them is refused for, all are
  pub rest_refused : (found before : List Bound) (whole : Checked (List Bound)) (code : ScriptCode) → behind found (rest_in scope width (conjuncts_of (drop i xs))) ≡ behind before whole → rest_in scope width (conjuncts (view x)) ≡ Err code
      → whole ≡ Err code
  rest_refused found before whole code e k =
      behind-refused before whole code (sym e ∙ ap (behind found) (step ∙ ap (λ r. also r (rest_in scope width (conjuncts_of (drop (i + 1) xs)))) k))
