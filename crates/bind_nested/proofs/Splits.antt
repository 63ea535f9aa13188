-- Conjuncts by what they are, one after the other.
use Rattle.std.proofs.Common.{◌≡◌, suc, ◌==◌, true, false, List, [], ◌∷◌, ◌++◌, Some, None, length, refl, sym, ap, ◌∙◌, append_assoc, arith}
use Rattle.std.proofs.lemmas.Bool.Decides.{nat_tests}
use Rattle.rel_algebra.specs.Rel.{Rel}
use Rattle.rel_algebra.specs.Rel as r
use Rattle.binding.specs.Nodes.{Bound}
use Rattle.binding.specs.Queries.{Part, Own, Linked, Matched, all_if, all_matched, all_of, links, owns, rests, where_all}
use Rattle.bind_nodes.specs.declared.bound.Bound.{Bound as Made}
use Rattle.bind_nodes.specs.Views.{bounds_view}
use Rattle.bind_nested.specs.Splits.{subqueries}

-- ---- the first, and the others

pub owns_first : (p : Part) (ps : List Part) → owns (p ∷ ps) ≡ owns (p ∷ []) ++ owns ps
owns_first (Own a) ps = refl
owns_first (Linked pair a) ps = refl
owns_first (Matched anti right pairs rest) ps = refl

pub links_first : (p : Part) (ps : List Part) → links (p ∷ ps) ≡ links (p ∷ []) ++ links ps
links_first (Own a) ps = refl
links_first (Linked None a) ps = refl
links_first (Linked (Some pair) a) ps = refl
links_first (Matched anti right pairs rest) ps = refl

pub rests_first : (p : Part) (ps : List Part) → rests (p ∷ ps) ≡ rests (p ∷ []) ++ rests ps
rests_first (Own a) ps = refl
rests_first (Linked None a) ps = refl
rests_first (Linked (Some pair) a) ps = refl
rests_first (Matched anti right pairs rest) ps = refl

pub subqueries_first : (p : Part) (ps : List Part) → subqueries (p ∷ ps) ≡ subqueries (p ∷ []) ++ subqueries ps
subqueries_first (Own a) ps = refl
subqueries_first (Linked pair a) ps = refl
subqueries_first (Matched anti right pairs rest) ps = refl

-- one more put behind those found, before those that are left
pub put : {A : Type 0} (f : List Part → List A) → ((p : Part) (ps : List Part) → f (p ∷ ps) ≡ f (p ∷ []) ++ f ps) → (found more whole : List A) (p : Part) (ps : List Part) → found ++ f (p ∷ ps) ≡ whole → more ≡ found ++ f (p ∷ []) → more ++ f ps ≡ whole
put f first found more whole p ps h e = ap (λ xs. xs ++ f ps) e ∙ append_assoc found (f (p ∷ [])) (f ps) ∙ ap (λ xs. found ++ xs) (sym (first p ps)) ∙ h

-- ---- subqueries alone

pub matched_first : (p : Part) (ps : List Part) (input : Rel) → all_matched (p ∷ ps) input ≡ all_matched ps (all_matched (p ∷ []) input)
matched_first (Own a) ps input = refl
matched_first (Linked pair a) ps input = refl
matched_first (Matched anti right pairs rest) ps input = refl

pub only_subqueries : (ps : List Part) (input : Rel) → all_matched (subqueries ps) input ≡ all_matched ps input
only_subqueries [] input = refl
only_subqueries (Own a ∷ ps) input = only_subqueries ps input
only_subqueries (Linked pair a ∷ ps) input = only_subqueries ps input
only_subqueries (Matched anti right pairs rest ∷ ps) input = only_subqueries ps (r.Semi input right anti pairs rest)

-- ---- conditions, if there are any

some : {A : Type 0} (x : A) (xs : List A) → (length (x ∷ xs) == 0) ≡ false
some x xs = grind (arith, nat_tests)

pub no_filter : (xs : List Bound) (input : Rel) → (length xs == 0) ≡ true → where_all xs input ≡ input
no_filter [] input e = refl
no_filter (x ∷ xs) input e = absurd (let h = some x xs in cc)

pub some_filter : (xs : List Bound) (input : Rel) → (length xs == 0) ≡ false → where_all xs input ≡ r.Filter input (all_of xs)
some_filter [] input e = absurd (cc)
some_filter (x ∷ xs) input e = refl

pub no_rest : (xs : List Bound) → (length xs == 0) ≡ true → all_if xs ≡ None
no_rest [] e = refl
no_rest (x ∷ xs) e = absurd (let h = some x xs in cc)

pub some_rest : (xs : List Bound) → (length xs == 0) ≡ false → all_if xs ≡ Some (all_of xs)
some_rest [] e = absurd (cc)
some_rest (x ∷ xs) e = refl

-- of the code's own list
pub bounds_length : (xs : List Made) → length (bounds_view xs) ≡ length xs
bounds_length [] = refl
bounds_length (x ∷ xs) = ap suc (bounds_length xs)
