-- Names that stand twice, name by name.
use Rattle.std.proofs.Common.{◌≡◌, ℕ, ◌+◌, ◌<◌, Bool, true, false, cond, List, [], ◌∷◌, ◌++◌, refl, sym, ap, ◌∙◌, length, take, drop, get_or, append_assoc, append-nil}
use Rattle.std.proofs.lemmas.List.{take_more, take-append-drop}
use Rattle.std.proofs.lemmas.Map.Text.{is_eq-slice_cmp}
use Rattle.std.specs.Cmp.Lexicographic.{slice_cmp}
use Rattle.std.specs.Ordering.{nat_cmp, is_eq}
use Rattle.std.specs.Borrow.{Bor}
use Rattle.std.specs.Prelude.{◌||◌, not}
use Rattle.std.specs.List.{list_any}
use Rattle.std.specs.Str.{bytes_eq}
use Rattle.ct_catalog.specs.Tables.{has_name, repeats}

four : (a b c d : Bool) → ((a || b) || (c || d)) ≡ ((a || c) || (b || d))
four true b c d = refl
four false true true d = refl
four false true false d = refl
four false false true d = refl
four false false false d = refl

one_more : (f : List ℕ → Bool) (xs : List (List ℕ)) (x : List ℕ) → list_any f (xs ++ x ∷ []) ≡ (list_any f xs || f x)
one_more f [] x = or-false (f x)
  where
    or-false : (a : Bool) → (a || false) ≡ a
    or-false true = refl
    or-false false = refl
one_more f (y ∷ ys) x = ap (λ b. f y || b) (one_more f ys x) ∙ assoc (f y) (list_any f ys) (f x)
  where
    assoc : (a b c : Bool) → (a || (b || c)) ≡ ((a || b) || c)
    assoc true b c = refl
    assoc false b c = refl

pub has_name-push : (xs : List (List ℕ)) (x q : List ℕ) → has_name (xs ++ x ∷ []) q ≡ (has_name xs q || bytes_eq x q)
has_name-push xs x q = one_more (λ n. bytes_eq n q) xs x

pub repeats-push : (xs : List (List ℕ)) (x : List ℕ) → repeats (xs ++ x ∷ []) ≡ (repeats xs || has_name xs x)
repeats-push [] x = refl
repeats-push (y ∷ ys) x =
    ap (λ b. b || repeats (ys ++ x ∷ [])) (one_more (bytes_eq y) ys x)
    ∙ ap (λ b. (list_any (bytes_eq y) ys || bytes_eq y x) || b) (repeats-push ys x)
    ∙ four (list_any (bytes_eq y) ys) (bytes_eq y x) (repeats ys) (has_name ys x)

-- what stands twice among the first ones stands twice
pub repeats-append : (xs ys : List (List ℕ)) → repeats xs ≡ true → repeats (xs ++ ys) ≡ true
repeats-append xs [] e = ap repeats (append-nil xs) ∙ e
repeats-append xs (y ∷ ys) e =
    ap repeats (sym (append_assoc xs (y ∷ []) ys)) ∙ repeats-append (xs ++ y ∷ []) ys (repeats-push xs y ∙ ap (λ b. b || has_name xs y) e)

or_true : (a b : Bool) → b ≡ true → (a || b) ≡ true
or_true true b e = refl
or_true false b e = e

-- the name at a place stands among those before it
found_again : (names : List (List ℕ)) (i : ℕ) (x : List ℕ) → i < length names → x ≡ get_or names i x → has_name (take i names) x ≡ true → true ≡ repeats names
found_again names i x l e h =
    let k : take (i + 1) names ≡ take i names ++ x ∷ [] = take_more names i x l ∙ ap (λ y. take i names ++ y ∷ []) (sym e) in
    let r : repeats (take (i + 1) names) ≡ true = ap repeats k ∙ repeats-push (take i names) x ∙ or_true _ _ h in
    sym (ap repeats (sym (take-append-drop (i + 1) names)) ∙ repeats-append (take (i + 1) names) (drop (i + 1) names) r)

or_flip : (a b : Bool) → cond a true b ≡ (b || a)
or_flip true true = refl
or_flip true false = refl
or_flip false true = refl
or_flip false false = refl

not_false : (a b : Bool) → a ≡ not b → a ≡ false → b ≡ true
not_false a true e h = refl
not_false a false e h = absurd (cc)

not_true : (a b : Bool) → a ≡ not b → a ≡ true → b ≡ false
not_true a true e h = absurd (cc)
not_true a false e h = refl

-- a name that was seen before stands twice
pub seen_again : (names : List (List ℕ)) (i : ℕ) (x : List ℕ) (key : Bor (List ℕ)) (before : Bor (List ℕ) → Bool) (added : Bool) → i < length names → x ≡ get_or names i x → key.now ≡ x
    → ((q : Bor (List ℕ)) → before q ≡ has_name (take i names) q.now) → added ≡ not (before key) → added ≡ false → true ≡ repeats names
seen_again names i x key before added l e k h a f =
    found_again names i x l e (ap (has_name (take i names)) (sym k) ∙ sym (h key) ∙ not_false added (before key) a f)

-- the names seen, with one more
pub seen_more : (names : List (List ℕ)) (i : ℕ) (x : List ℕ) (key : Bor (List ℕ)) (before now : Bor (List ℕ) → Bool) → i < length names → x ≡ get_or names i x → key.now ≡ x
    → ((q : Bor (List ℕ)) → before q ≡ has_name (take i names) q.now) → ((q : Bor (List ℕ)) → now q ≡ cond (is_eq (slice_cmp nat_cmp key.now q.now)) true (before q))
    → (q : Bor (List ℕ)) → now q ≡ has_name (take (i + 1) names) q.now
seen_more names i x key before now l e k h u q =
    let taken : take (i + 1) names ≡ take i names ++ x ∷ [] = take_more names i x l ∙ ap (λ y. take i names ++ y ∷ []) (sym e) in
    u q ∙ ap (λ b. cond b true (before q)) (is_eq-slice_cmp key.now q.now) ∙ ap (λ y. cond (bytes_eq y q.now) true (before q)) k ∙ ap (λ b. cond (bytes_eq x q.now) true b) (h q) ∙ or_flip (bytes_eq x q.now) (has_name (take i names) q.now)
    ∙ sym (ap (λ ns. has_name ns q.now) taken ∙ has_name-push (take i names) x q.now)

-- a name that wasn't seen stands once so far
pub apart_more : (names : List (List ℕ)) (i : ℕ) (x : List ℕ) (key : Bor (List ℕ)) (before : Bor (List ℕ) → Bool) (added : Bool) → i < length names → x ≡ get_or names i x → key.now ≡ x
    → ((q : Bor (List ℕ)) → before q ≡ has_name (take i names) q.now) → repeats (take i names) ≡ false → added ≡ not (before key) → added ≡ true → repeats (take (i + 1) names) ≡ false
apart_more names i x key before added l e k h a f g =
    let taken : take (i + 1) names ≡ take i names ++ x ∷ [] = take_more names i x l ∙ ap (λ y. take i names ++ y ∷ []) (sym e) in
    let fresh : has_name (take i names) x ≡ false = ap (has_name (take i names)) (sym k) ∙ sym (h key) ∙ not_true added (before key) f g in
    ap repeats taken ∙ repeats-push (take i names) x ∙ ap (λ b. b || has_name (take i names) x) a ∙ fresh
