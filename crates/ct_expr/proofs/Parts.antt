-- Patterns part by part: where a part is matched first is enough.
use Rattle.std.proofs.Common.{◌≡◌, ◌≢◌, ℕ, zero, suc, ◌+◌, ◌-◌, ◌<◌, ◌≤◌, Bool, true, false, List, [], ◌∷◌, length, take, drop, get_or, refl, sym, ap, ◌∙◌, arith}
use Rattle.std.specs.Prelude.{◌==◌, ◌&&◌, ◌||◌}
use Rattle.std.specs.List.{list_any}
use Rattle.std.proofs.lemmas.Bool.Decides.{nat_tests}
use Rattle.ct_expr.specs.Values.{is_like, rests}
use Rattle.ct_expr.specs.Like.{part_len, fits}

-- whether some rest of a text is like a pattern
abbrev pub some_rest : List ℕ → List ℕ → Bool
some_rest ps cs = list_any (is_like ps) (rests cs)

-- ---- truth values

cut : (a : Bool) (B : Type 0) → (a ≡ true → B) → (a ≡ false → B) → B
cut a B f g = elim a as (λ b. a ≡ b → B) [
  | true ↦ f
  | false ↦ g
] refl

never : (B : Type 0) (a : Bool) → a ≡ true → a ≡ false → B
never B a t f = absurd (differ (sym t ∙ f))
  where
    differ : true ≡ false → ⊥
    differ e = cc

and_left : (a b : Bool) → (a && b) ≡ true → a ≡ true
and_left true b h = refl
and_left false b h = h

and_right : (a b : Bool) → (a && b) ≡ true → b ≡ true
and_right true b h = h
and_right false b h = absurd (differ (h))
  where
    differ : false ≡ true → ⊥
    differ e = cc

and_both : (a b : Bool) → a ≡ true → b ≡ true → (a && b) ≡ true
and_both a b h k = rw (h, k) refl

and_of_and : (a b c : Bool) → (a && (b && c)) ≡ ((a && b) && c)
and_of_and true b c = refl
and_of_and false b c = refl

or_right : (a b : Bool) → b ≡ true → (a || b) ≡ true
or_right true b h = refl
or_right false b h = h

or_none : (a : Bool) → (a || false) ≡ a
or_none true = refl
or_none false = refl

-- equal where each is true where the other is
both_ways : (a b : Bool) → (a ≡ true → b ≡ true) → (b ≡ true → a ≡ true) → a ≡ b
both_ways true b f g = sym (f refl)
both_ways false true f g = g refl
both_ways false false f g = refl

not_percent : (p : ℕ) → p ≢ 37 → (p == 37) ≡ false
not_percent p h = grind (arith, nat_tests)

-- ---- one part

abbrev Parted : List ℕ → List ℕ → ℕ → Type 0
Parted ps cs k = is_like ps cs ≡ (fits (take k ps) cs && some_rest (drop (suc k) ps) (drop k cs))

parted_percent : (p : ℕ) (ps cs : List ℕ) (k : ℕ) → (p == 37) ≡ true → k ≡ 0 → Parted (p ∷ ps) cs k
parted_percent p ps cs k t z = rw (t, z) refl

parted_item : (p : ℕ) (ps cs : List ℕ) (k : ℕ) → (p == 37) ≡ false → ((ds : List ℕ) → Parted ps ds k) → Parted (p ∷ ps) cs (suc k)
parted_item p ps [] k f h = rw (f) refl
parted_item p ps (c ∷ cs) k f h = rw (f) (ap (λ b. ((p == 95) || (p == c)) && b) (h cs) ∙ and_of_and ((p == 95) || (p == c)) (fits (take k ps) cs) (some_rest (drop (suc k) ps) (drop k cs)))

long_percent : (p : ℕ) (ps : List ℕ) (k : ℕ) → (p == 37) ≡ true → k ≡ part_len (p ∷ ps) → k ≡ 0
long_percent p ps k t e = e ∙ rw (t) refl

long_item : (p : ℕ) (ps : List ℕ) (k : ℕ) → (p == 37) ≡ false → k ≡ part_len (p ∷ ps) → k ≡ suc (part_len ps)
long_item p ps k f e = e ∙ rw (f) refl

-- a part and what is behind its percent sign
pub first_part : (ps cs : List ℕ) (k : ℕ) → k ≡ part_len ps → k < length ps → Parted ps cs k
first_part [] cs k e l = absurd (omega arith)
first_part (p ∷ ps) cs zero e l = cut (p == 37) _ (λ t. parted_percent p ps cs zero t refl) (λ f. absurd (let z = long_item p ps zero f e in omega arith))
first_part (p ∷ ps) cs (suc k) e l = cut (p == 37) _ (λ t. absurd (let z = long_percent p ps (suc k) t e in omega arith))
    (λ f. parted_item p ps cs k f (λ ds. first_part ps ds k (let z = long_item p ps (suc k) f e in omega arith) (omega arith)))

-- ---- rests

some_more : (g : List ℕ → Bool) (cs : List ℕ) (k : ℕ) → list_any g (rests (drop (suc k) cs)) ≡ true → list_any g (rests (drop k cs)) ≡ true
some_more g [] zero h = h
some_more g [] (suc k) h = h
some_more g (c ∷ cs) zero h = or_right (g (c ∷ cs)) (list_any g (rests cs)) h
some_more g (c ∷ cs) (suc k) h = some_more g cs k h

first_rest : (f : List ℕ → Bool) (cs : List ℕ) → f cs ≡ true → list_any f (rests cs) ≡ true
first_rest f [] h = rw (h) refl
first_rest f (c ∷ cs) h = rw (h) refl

-- where some rest is like the whole, some rest behind as many characters as the part has is like what is behind the part
behind : (ps cs : List ℕ) (k : ℕ) → k ≡ part_len ps → k < length ps → some_rest ps cs ≡ true → some_rest (drop (suc k) ps) (drop k cs) ≡ true
behind ps [] k e l h = and_right (fits (take k ps) []) (some_rest (drop (suc k) ps) (drop k [])) (sym (first_part ps [] k e l) ∙ (sym (or_none (is_like ps [])) ∙ h))
behind ps (c ∷ cs) k e l h = cut (is_like ps (c ∷ cs)) _
    (λ t. and_right (fits (take k ps) (c ∷ cs)) (some_rest (drop (suc k) ps) (drop k (c ∷ cs))) (sym (first_part ps (c ∷ cs) k e l) ∙ t))
    (λ f. some_more (is_like (drop (suc k) ps)) (c ∷ cs) k (behind ps cs k e l (later f h)))
  where
    later : is_like ps (c ∷ cs) ≡ false → some_rest ps (c ∷ cs) ≡ true → some_rest ps cs ≡ true
    later f h = ap (λ b. b || some_rest ps cs) (sym f) ∙ h

-- where the part is matched at once, no later place of it is needed
pub found_here : (ps cs : List ℕ) (k : ℕ) → k ≡ part_len ps → k < length ps → true ≡ fits (take k ps) cs → some_rest ps cs ≡ some_rest (drop (suc k) ps) (drop k cs)
found_here ps cs k e l t = both_ways (some_rest ps cs) (some_rest (drop (suc k) ps) (drop k cs)) (behind ps cs k e l)
    (λ h. first_rest (is_like ps) cs (first_part ps cs k e l ∙ and_both (fits (take k ps) cs) (some_rest (drop (suc k) ps) (drop k cs)) (sym t) h))

not_here : (ps cs : List ℕ) (k : ℕ) → k ≡ part_len ps → k < length ps → false ≡ fits (take k ps) cs → is_like ps cs ≡ false
not_here ps cs k e l f = first_part ps cs k e l ∙ ap (λ b. b && some_rest (drop (suc k) ps) (drop k cs)) (sym f)

pub found_later : (ps cs : List ℕ) (k : ℕ) → k ≡ part_len ps → k < length ps → false ≡ fits (take k ps) cs → 0 < length cs → some_rest ps cs ≡ some_rest ps (drop 1 cs)
found_later ps [] k e l f n = absurd (omega arith)
found_later ps (c ∷ cs) k e l f n = ap (λ b. b || some_rest ps cs) (not_here ps (c ∷ cs) k e l f)

pub found_nowhere : (ps cs : List ℕ) (k : ℕ) → k ≡ part_len ps → k < length ps → false ≡ fits (take k ps) cs → length cs ≡ 0 → false ≡ some_rest ps cs
found_nowhere ps [] k e l f n = sym (ap (λ b. b || false) (not_here ps [] k e l f))
found_nowhere ps (c ∷ cs) k e l f n = absurd (omega arith)

-- the part that a text begins with
pub begins : (ps cs : List ℕ) (k : ℕ) → k ≡ part_len ps → k ≢ length ps → k ≤ length ps → true ≡ fits (take k ps) cs → some_rest (drop (k + 1) ps) (drop k cs) ≡ is_like ps cs
begins ps cs k e n m t = let l : k < length ps = omega arith in ap (λ i. some_rest (drop i ps) (drop k cs)) (one_more k) ∙ (ap (λ b. b && some_rest (drop (suc k) ps) (drop k cs)) t ∙ sym (first_part ps cs k e l))
  where
    one_more : (k : ℕ) → k + 1 ≡ suc k
    one_more k = omega arith

pub begins_not : (ps cs : List ℕ) (k : ℕ) → k ≡ part_len ps → k ≢ length ps → k ≤ length ps → false ≡ fits (take k ps) cs → false ≡ is_like ps cs
begins_not ps cs k e n m f = let l : k < length ps = omega arith in sym (not_here ps cs k e l f)

-- ---- the last part

no_percent : (p : ℕ) (ps : List ℕ) → part_len (p ∷ ps) ≡ length (p ∷ ps) → (p == 37) ≡ false
no_percent p ps e = cut (p == 37) _ (λ t. absurd (let z = long_percent p ps (part_len (p ∷ ps)) t refl in omega arith)) (λ f. f)

plain_behind : (p : ℕ) (ps : List ℕ) → part_len (p ∷ ps) ≡ length (p ∷ ps) → part_len ps ≡ length ps
plain_behind p ps e = let z = long_item p ps (part_len (p ∷ ps)) (no_percent p ps e) refl in omega arith

pub like_last : (ps cs : List ℕ) → part_len ps ≡ length ps → length cs ≡ length ps → is_like ps cs ≡ fits ps cs
like_last [] [] e l = refl
like_last [] (c ∷ cs) e l = absurd (omega arith)
like_last (p ∷ ps) [] e l = absurd (omega arith)
like_last (p ∷ ps) (c ∷ cs) e l = rw (no_percent p ps e) (ap (λ b. ((p == 95) || (p == c)) && b) (like_last ps cs (plain_behind p ps e) (omega arith)))

and_never : (a b : Bool) → b ≡ false → (a && b) ≡ false
and_never true b h = h
and_never false b h = refl

pub other_length : (ps cs : List ℕ) → part_len ps ≡ length ps → length cs ≢ length ps → is_like ps cs ≡ false
other_length [] [] e l = absurd (l refl)
other_length [] (c ∷ cs) e l = refl
other_length (p ∷ ps) [] e l = rw (no_percent p ps e) refl
other_length (p ∷ ps) (c ∷ cs) e l = rw (no_percent p ps e) (and_never ((p == 95) || (p == c)) (is_like ps cs) (other_length ps cs (plain_behind p ps e) (λ h. l (ap suc h))))

pub too_short : (ps cs : List ℕ) → part_len ps ≡ length ps → length cs < length ps → some_rest ps cs ≡ false
too_short ps [] e l = ap (λ b. b || false) (other_length ps [] e (λ h. absurd (omega arith)))
too_short ps (c ∷ cs) e l = ap (λ b. b || some_rest ps cs) (other_length ps (c ∷ cs) e (λ h. absurd (omega arith))) ∙ too_short ps cs e (omega arith)

pub at_the_end : (ps cs : List ℕ) → part_len ps ≡ length ps → length ps ≤ length cs → some_rest ps cs ≡ fits ps (drop (length cs - length ps) cs)
at_the_end ps cs e l = whole ps cs (length cs - length ps) e (omega arith)
  where
    whole : (ps cs : List ℕ) (n : ℕ) → part_len ps ≡ length ps → n + length ps ≡ length cs → some_rest ps cs ≡ fits ps (drop n cs)
    whole ps [] zero e l = or_none (is_like ps []) ∙ like_last ps [] e (omega arith)
    whole ps [] (suc n) e l = absurd (omega arith)
    whole ps (c ∷ cs) zero e l = ap (λ b. is_like ps (c ∷ cs) || b) (too_short ps cs e (omega arith)) ∙ (or_none (is_like ps (c ∷ cs)) ∙ like_last ps (c ∷ cs) e (omega arith))
    whole ps (c ∷ cs) (suc n) e l = ap (λ b. b || some_rest ps cs) (other_length ps (c ∷ cs) e (λ h. absurd (omega arith))) ∙ whole ps cs n e (omega arith)

-- ---- loops

pub part_more : (ps : List ℕ) (k x : ℕ) → k < length ps → x ≡ get_or ps k x → x ≢ 37 → k + part_len (drop k ps) ≡ suc k + part_len (drop (suc k) ps)
part_more [] k x l h n = absurd (omega arith)
part_more (p ∷ ps) zero x l h n = let z = long_item p ps (part_len (p ∷ ps)) (ap (λ q. q == 37) (sym h) ∙ not_percent x n) refl in omega arith
part_more (p ∷ ps) (suc k) x l h n = let m = part_more ps k x (omega arith) h n in omega arith

pub part_here : (ps : List ℕ) (k x : ℕ) → k < length ps → x ≡ get_or ps k x → x ≡ 37 → part_len (drop k ps) ≡ 0
part_here [] k x l h n = absurd (omega arith)
part_here (p ∷ ps) zero x l h n = let q : p ≡ 37 = sym h ∙ n in rw (q) refl
part_here (p ∷ ps) (suc k) x l h n = part_here ps k x (omega arith) h n

pub part_end : (ps : List ℕ) (k : ℕ) → length ps ≤ k → part_len (drop k ps) ≡ 0
part_end [] zero l = refl
part_end [] (suc k) l = refl
part_end (p ∷ ps) zero l = absurd (omega arith)
part_end (p ∷ ps) (suc k) l = part_end ps k (omega arith)

pub part_len_most : (ps : List ℕ) → part_len ps ≤ length ps
part_len_most [] = omega arith
part_len_most (p ∷ ps) = cut (p == 37) _ (λ t. let z = long_percent p ps (part_len (p ∷ ps)) t refl in omega arith) (λ f. let z = long_item p ps (part_len (p ∷ ps)) f refl in let m = part_len_most ps in omega arith)

pub last_part : (ps : List ℕ) (k : ℕ) → k ≡ part_len ps → length ps ≤ k → part_len ps ≡ length ps
last_part ps k e l = let m = part_len_most ps in omega arith

pub fits_more : (ps cs : List ℕ) (k p c : ℕ) → k < length ps → k < length cs → p ≡ get_or ps k p → c ≡ get_or cs k c → fits (drop k ps) (drop k cs) ≡ (((p == 95) || (p == c)) && fits (drop (suc k) ps) (drop (suc k) cs))
fits_more [] cs k p c l m h g = absurd (omega arith)
fits_more (q ∷ ps) [] k p c l m h g = absurd (omega arith)
fits_more (q ∷ ps) (d ∷ cs) zero p c l m h g = λ i. (((sym h) i == 95) || ((sym h) i == (sym g) i)) && fits ps cs
fits_more (q ∷ ps) (d ∷ cs) (suc k) p c l m h g = fits_more ps cs k p c (omega arith) (omega arith) h g

pub fits_end : (ps cs : List ℕ) (k : ℕ) → length ps ≤ k → fits (drop k ps) cs ≡ true
fits_end [] cs zero l = refl
fits_end [] cs (suc k) l = refl
fits_end (p ∷ ps) cs zero l = absurd (omega arith)
fits_end (p ∷ ps) cs (suc k) l = fits_end ps cs k (omega arith)

pub fits_short : (ps cs : List ℕ) → length cs < length ps → fits ps cs ≡ false
fits_short [] cs l = absurd (omega arith)
fits_short (p ∷ ps) [] l = refl
fits_short (p ∷ ps) (c ∷ cs) l = and_never ((p == 95) || (p == c)) (fits ps cs) (fits_short ps cs (omega arith))

-- what a part is matched by is as long as the part
pub fits_within : (ps cs : List ℕ) → true ≡ fits ps cs → length ps ≤ length cs
fits_within [] cs h = omega arith
fits_within (p ∷ ps) [] h = never _ (fits (p ∷ ps) []) (sym h) refl
fits_within (p ∷ ps) (c ∷ cs) h = let m = fits_within ps cs (sym (and_right ((p == 95) || (p == c)) (fits ps cs) (sym h))) in omega arith
