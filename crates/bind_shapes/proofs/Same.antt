-- Equal codes are those of equal shapes.
use Rattle.std.proofs.Common.{◌≡◌, ℕ, suc, Bool, true, false, ◌&&◌, cond, List, [], ◌∷◌, ◌++◌, Some, Decides, refl, ap, sym, ◌∙◌, append_assoc}
use Rattle.std.specs.BTreeMap.{BTreeMap, get}
use Rattle.std.specs.Cmp.Lexicographic.{slice_cmp}
use Rattle.std.specs.Ordering.{nat_cmp}
use Rattle.std.specs.Str.{bytes_eq}
use Rattle.std.proofs.lemmas.Bool.Decides.{same_from_decides}
use Rattle.std.proofs.lemmas.Slice.Eq.{bytes_eq-Decides}
use Rattle.sql_syntax.specs.Tree.{Tree}
use Rattle.query_answer.specs.Names.{Lookup}
use Rattle.query_answer.specs.Shapes.{Shape, Shapes, shape_of, no_shapes, shape_and, same_shape, same_shapes, shape, place_from, place_of}
use Rattle.bind_shapes.specs.Codes.{code, codes, word, place_in, codes_of}

-- ---- codes tell shapes, also where something stands behind them

word_inj : (v w r s : List ℕ) → word v ++ r ≡ word w ++ s → (v ≡ w) × (r ≡ s)
word_inj [] [] r s e = (refl, cc)
word_inj [] (m ∷ w) r s e = absurd (cc)
word_inj (n ∷ v) [] r s e = absurd (cc)
word_inj (n ∷ v) (m ∷ w) r s e =
    let head : n ≡ m = cc in
    let tail : word v ++ r ≡ word w ++ s = cc in
    let k = word_inj v w r s tail in
    ((λ i. head i ∷ k.0 i), k.1)

mutual
  code_inj : (x y : Shape) (r s : List ℕ) → code x ++ r ≡ code y ++ s → (x ≡ y) × (r ≡ s)
  code_inj (shape_of v xs) (shape_of w ys) r s e =
      let k = word_inj v w (codes xs ++ r) (codes ys ++ s) (sym (append_assoc (word v) (codes xs) r) ∙ e ∙ append_assoc (word w) (codes ys) s) in
      let m = codes_inj xs ys r s k.1 in
      ((λ i. shape_of (k.0 i) (m.0 i)), m.1)

  codes_inj : (xs ys : Shapes) (r s : List ℕ) → codes xs ++ r ≡ codes ys ++ s → (xs ≡ ys) × (r ≡ s)
  codes_inj no_shapes no_shapes r s e = (refl, cc)
  codes_inj no_shapes (shape_and y ys) r s e = absurd (cc)
  codes_inj (shape_and x xs) no_shapes r s e = absurd (cc)
  codes_inj (shape_and x xs) (shape_and y ys) r s e =
      let tail : (code x ++ codes xs) ++ r ≡ (code y ++ codes ys) ++ s = cc in
      let k = code_inj x y (codes xs ++ r) (codes ys ++ s) (sym (append_assoc (code x) (codes xs) r) ∙ tail ∙ append_assoc (code y) (codes ys) s) in
      let m = codes_inj xs ys r s k.1 in
      ((λ i. shape_and (k.0 i) (m.0 i)), m.1)

-- ---- so does the test of shapes

both-true : (p q : Bool) → (p && q) ≡ true → (p ≡ true) × (q ≡ true)
both-true true true e = (refl, refl)
both-true true false e = absurd (cc)
both-true false q e = absurd (cc)

mutual
  shape_sound : (x y : Shape) → same_shape x y ≡ true → x ≡ y
  shape_sound (shape_of v xs) (shape_of w ys) e =
      let k = both-true (bytes_eq v w) (same_shapes xs ys) e in
      let words = (bytes_eq-Decides v w).0 k.0 in
      let parts = shapes_sound xs ys k.1 in
      λ i. shape_of (words i) (parts i)

  shapes_sound : (xs ys : Shapes) → same_shapes xs ys ≡ true → xs ≡ ys
  shapes_sound no_shapes no_shapes e = refl
  shapes_sound no_shapes (shape_and y ys) e = absurd (cc)
  shapes_sound (shape_and x xs) no_shapes e = absurd (cc)
  shapes_sound (shape_and x xs) (shape_and y ys) e =
      let k = both-true (same_shape x y) (same_shapes xs ys) e in
      let first = shape_sound x y k.0 in
      let others = shapes_sound xs ys k.1 in
      λ i. shape_and (first i) (others i)

mutual
  shape_refl : (x : Shape) → same_shape x x ≡ true
  shape_refl (shape_of v xs) = λ i. (bytes_eq-Decides v v).1 refl i && shapes_refl xs i

  shapes_refl : (xs : Shapes) → same_shapes xs xs ≡ true
  shapes_refl no_shapes = refl
  shapes_refl (shape_and x xs) = λ i. shape_refl x i && shapes_refl xs i

shape_decides : (x y : Shape) → Decides (same_shape x y) (x ≡ y)
shape_decides x y = (shape_sound x y, λ e. ap (λ z. same_shape x z) (sym e) ∙ shape_refl x)

code_decides : (x y : Shape) → Decides (bytes_eq (code x) (code y)) (x ≡ y)
code_decides x y =
    let d = bytes_eq-Decides (code x) (code y) in
    ((λ e. (code_inj x y [] [] (ap (λ c. c ++ []) (d.0 e))).0), λ e. d.1 (ap code e))

pub same : (x y : Shape) → bytes_eq (code x) (code y) ≡ same_shape x y
same x y = same_from_decides (bytes_eq (code x) (code y)) (same_shape x y) (code_decides x y) (shape_decides x y)

places_from : (n : ℕ) (look : Lookup) (ys : List Tree) (x : Shape) → place_in n (codes_of look ys) (code x) ≡ place_from n look ys x
places_from n look [] x = refl
places_from n look (y ∷ ys) x = λ i. cond (same x (shape look y) i) (Some n) (places_from (suc n) look ys x i)

-- what is found by code is found by shape
pub placed : (look : Lookup) (ys : List Tree) (cs : List (List ℕ)) (places : BTreeMap (List ℕ) ℕ) (x : Shape) → cs ≡ codes_of look ys → ((word : List ℕ) → get (slice_cmp nat_cmp) places word ≡ place_in 0 cs word)
    → get (slice_cmp nat_cmp) places (code x) ≡ place_of look ys x
placed look ys cs places x same found = found (code x) ∙ ap (λ zs. place_in 0 zs (code x)) same ∙ places_from 0 look ys x
