-- A run of UNION ALL, by the list of the terms behind its first, and a set operation.
use Rattle.std.proofs.Common.{◌≡◌, ℕ, ◌==◌, Bool, true, false, List, [], ◌∷◌, ◌++◌, Ok, Err, length, refl, sym, ap, ◌∙◌, arith}
use Rattle.std.proofs.lemmas.Bool.Decides.{nat_tests}
use Rattle.std.proofs.lemmas.List.{map-append}
use Rattle.ct_value.specs.declared.codes.ScriptCode.{ScriptCode}
use Rattle.rel_algebra.specs.declared.rel.Rel.{Rel}
use Rattle.rel_algebra.specs.declared.rel.Rel.TheVariants as v
use Rattle.rel_algebra.specs.View.{rel_view, rels_view}
use Rattle.rel_algebra.specs.Rel.{rels}
use Rattle.rel_algebra.specs.Rel as r
use Rattle.rel_algebra.specs.Sets.{set_kind}
use Rattle.rel_algebra.proofs.laws.Views.{view_union}
use Rattle.query_answer.specs.Names.{Scope}
use Rattle.binding.specs.Checked.{Checked, ◌>>=◌}
use Rattle.binding.specs.Queries.{Relation, Run, operated, union_of, united, united_by, with_term}

some : {A : Type 0} (x : A) (xs : List A) → (length (x ∷ xs) == 0) ≡ false
some x xs = grind (arith, nat_tests)

pub single : (x : Rel) (xs : List Rel) → (length xs == 0) ≡ true → union_of (rel_view x) (rels (rels_view xs)) ≡ rel_view x
single x [] e = refl
single x (y ∷ ys) e = absurd (let h = some y ys in cc)

pub several : (x : Rel) (xs : List Rel) → (length xs == 0) ≡ false → union_of (rel_view x) (rels (rels_view xs)) ≡ rel_view (v.Union (x ∷ xs))
several x [] e = absurd (cc)
several x (y ∷ ys) e = sym (view_union (x ∷ y ∷ ys))

pub pushed : (xs : List Rel) (x : Rel) → rels_view (xs ++ x ∷ []) ≡ rels_view xs ++ rel_view x ∷ []
pushed xs x = map-append rel_view xs (x ∷ [])

abbrev grown : Run → List r.Rel → Scope → Run
grown run others scope = record { first = run.first; others = others; scope = scope }

pub one_more : (run : Run) (x : Relation) (both : Scope) (others : List r.Rel) → united run.scope x.scope ≡ Ok both → others ≡ run.others ++ x.rel ∷ [] → with_term run x ≡ Ok (grown run others both)
one_more run x both others h k = ap (λ (c : Checked Scope). c >>= λ s. Ok (grown run (run.others ++ x.rel ∷ []) s)) h ∙ ap (λ (ys : List r.Rel). Ok (grown run ys both)) (sym k)

-- ---- INTERSECT and EXCEPT

abbrev operation : Bool → Bool → Relation → Relation → ℕ → Scope → Relation
operation except all x y n both = record { rel = r.SetOp x.rel y.rel except all n; scope = both }

pub operated_is : (except all : Bool) (x y : Relation) (both : Scope) (n : ℕ) (rel : r.Rel) → united_by (set_kind except) x.scope y.scope ≡ Ok both → n ≡ length x.scope → rel ≡ r.SetOp x.rel y.rel except all n
    → operated except all x y ≡ Ok (record { rel = rel; scope = both })
operated_is except all x y both n rel h k l =
    ap (λ (c : Checked Scope). c >>= λ s. Ok (operation except all x y (length x.scope) s)) h
    ∙ (λ i. Ok (operation except all x y (sym k i) both)) ∙ (λ i. Ok (record { rel = sym l i; scope = both }))

pub operated_refused : (except all : Bool) (x y : Relation) (code : ScriptCode) → united_by (set_kind except) x.scope y.scope ≡ Err code → operated except all x y ≡ Err code
operated_refused except all x y code h = ap (λ (c : Checked Scope). c >>= λ s. Ok (operation except all x y (length x.scope) s)) h
