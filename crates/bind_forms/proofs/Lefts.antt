-- All conjuncts but one: those before it and those behind it.
use Rattle.std.proofs.Common.{◌≡◌, ℕ, zero, suc, ◌+◌, ◌-◌, ◌<◌, Bool, true, false, ◌||◌, List, [], ◌∷◌, length, take, drop, map, Option, refl, sym, ap, ◌∙◌, arith}
use Rattle.std.proofs.lemmas.List.{length-drop}
use Rattle.std.proofs.Math.Seq.{take-length}
use Rattle.ct_catalog.specs.declared.table.TableDef.{TableDef}
use Rattle.sql_syntax.specs.Tree.{Text}
use Rattle.query_answer.specs.Mentions.{in_conjunct, in_conjuncts}
use Rattle.query_answer.specs.Ranks.{without}
use Rattle.bind_forms.specs.Views.{conjunct_view}
use Rattle.bind_forms.specs.declared.conjuncts.Conjunct.{Conjunct}

or_more : (a b c : Bool) → ((a || b) || c) ≡ (a || (b || c))
or_more true b c = refl
or_more false b c = refl

all_but_one : (tables : List TableDef) (test : Option Text → Text → Bool) (xs : List Conjunct) (n : ℕ) → n < length xs → (in_conjuncts tables test (map conjunct_view (take n xs)) || in_conjuncts tables test (map conjunct_view (drop (n + 1) xs))) ≡ in_conjuncts tables test (without n (map conjunct_view xs))
all_but_one tables test [] n l = absurd (omega arith)
all_but_one tables test (x ∷ xs) zero l = refl
all_but_one tables test (x ∷ xs) (suc n) l =
    let k : suc n + 1 ≡ suc (n + 1) = omega arith in
    ap (λ m. in_conjuncts tables test (map conjunct_view (take (suc n) (x ∷ xs))) || in_conjuncts tables test (map conjunct_view (drop m (x ∷ xs)))) k
    ∙ or_more (in_conjunct tables test (conjunct_view x)) (in_conjuncts tables test (map conjunct_view (take n xs))) (in_conjuncts tables test (map conjunct_view (drop (n + 1) xs)))
    ∙ ap (λ b. in_conjunct tables test (conjunct_view x) || b) (all_but_one tables test xs n (omega arith))

pub mentioned_before : (tables : List TableDef) (test : Option Text → Text → Bool) (xs : List Conjunct) (n : ℕ) → n < length xs → in_conjuncts tables test (map conjunct_view (take n xs)) ≡ true → in_conjuncts tables test (without n (map conjunct_view xs)) ≡ true
mentioned_before tables test xs n l h = sym (all_but_one tables test xs n l) ∙ ap (λ b. b || in_conjuncts tables test (map conjunct_view (drop (n + 1) xs))) h

-- a slice from here to the end
abbrev from : List Conjunct → ℕ → List Conjunct
from xs m = take (length xs - m) (drop m xs)

all_from : (xs : List Conjunct) (m : ℕ) → from xs m ≡ drop m xs
all_from xs m = (λ i. take (sym (length-drop m xs) i) (drop m xs)) ∙ take-length (drop m xs)

pub not_before : (tables : List TableDef) (test : Option Text → Text → Bool) (xs : List Conjunct) (n : ℕ) (b : Bool) → n < length xs → in_conjuncts tables test (map conjunct_view (take n xs)) ≡ false
    → b ≡ in_conjuncts tables test (map conjunct_view (take (length xs - (n + 1)) (drop (n + 1) xs))) → b ≡ in_conjuncts tables test (without n (map conjunct_view xs))
not_before tables test xs n b l h k =
    k ∙ ap (λ ys. in_conjuncts tables test (map conjunct_view ys)) (all_from xs (n + 1)) ∙ sym (ap (λ b. b || in_conjuncts tables test (map conjunct_view (drop (n + 1) xs))) h) ∙ all_but_one tables test xs n l
