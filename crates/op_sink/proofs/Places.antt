-- Where the first copy of a row stands in a list, and which row is last without it.
use Rattle.std.proofs.Common.{◌≡◌, ℕ, zero, suc, ◌+◌, ◌<◌, ◌≤◌, Bool, true, false, cond, List, [], ◌∷◌, ◌++◌, length, take, drop, slice_index_or, Option, Some, None, OnSome, refl, sym, ap, ◌∙◌, arith}
use Rattle.std.specs.List.{last_or, remove}
use Rattle.ct_value.specs.Bag.{drop_one}
use Rattle.ct_value.specs.Order.{row_cmp}
use Rattle.ct_value.specs.declared.row.Row.{Row}
use Rattle.ct_change.specs.Changelog.{same_row}
use Rattle.ct_change.proofs.laws.Meanings.{same_row-true}
use Rattle.op_sink.specs.Kept.{Left}

-- ---- the walk to the first copy

-- the list from a place on begins with the row that is read there
at_place : (xs : List Row) (place : ℕ) (x : Row) → place < length xs → x ≡ slice_index_or xs place x → drop place xs ≡ x ∷ drop (suc place) xs
at_place [] place x l e = absurd (omega arith)
at_place (y ∷ ys) zero x l e = ap (λ z. z ∷ ys) (sym e)
at_place (y ∷ ys) (suc place) x l e = at_place ys place x (omega arith) e

front_more : (xs : List Row) (place : ℕ) (x : Row) → place < length xs → x ≡ slice_index_or xs place x → take (suc place) xs ≡ take place xs ++ x ∷ []
front_more [] place x l e = absurd (omega arith)
front_more (y ∷ ys) zero x l e = ap (λ z. z ∷ []) (sym e)
front_more (y ∷ ys) (suc place) x l e = ap (λ zs. y ∷ zs) (front_more ys place x (omega arith) e)

together : (xs ys : List Row) (x : Row) → (xs ++ x ∷ []) ++ ys ≡ xs ++ x ∷ ys
together [] ys x = refl
together (z ∷ zs) ys x = ap (λ ws. z ∷ ws) (together zs ys x)

take-drop : (xs : List Row) (n : ℕ) → xs ≡ take n xs ++ drop n xs
take-drop xs zero = refl
take-drop [] (suc n) = refl
take-drop (x ∷ xs) (suc n) = ap (λ ys. x ∷ ys) (take-drop xs n)

length-front : (xs : List Row) (n : ℕ) → n ≤ length xs → length (take n xs) ≡ n
length-front xs zero l = refl
length-front [] (suc n) l = absurd (omega arith)
length-front (x ∷ xs) (suc n) l = ap suc (length-front xs n (omega arith))

-- the rows read so far stay, and the rest is without its first copy
abbrev pub Walked : Row → List Row → ℕ → Type 0
Walked row xs place = take place xs ++ drop_one row_cmp row (drop place xs) ≡ drop_one row_cmp row xs

module _ (row : Row) (xs : List Row) (place : ℕ) where
  module _ (x : Row) (within : place < length xs) (read : x ≡ slice_index_or xs place x) (walked : Walked row xs place) where
    here : (b : Bool) → same_row row x ≡ b → take place xs ++ cond b (drop (suc place) xs) (x ∷ drop_one row_cmp row (drop (suc place) xs)) ≡ drop_one row_cmp row xs
    here b e =
        ap (λ c. take place xs ++ cond c (drop (suc place) xs) (x ∷ drop_one row_cmp row (drop (suc place) xs))) (sym e)
        ∙ ap (λ ys. take place xs ++ drop_one row_cmp row ys) (sym (at_place xs place x within read))
        ∙ walked

    -- another row is walked past
    pub walked_past : same_row row x ≡ false → Walked row xs (suc place)
    walked_past apart =
        ap (λ ys. ys ++ drop_one row_cmp row (drop (suc place) xs)) (front_more xs place x within read)
        ∙ together (take place xs) (drop_one row_cmp row (drop (suc place) xs)) x
        ∙ here false apart

    -- the first copy is found
    pub found : same_row row x ≡ true → Left row place xs (drop_one row_cmp row xs)
    found same = record {
      front = take place xs;
      back = drop (suc place) xs;
      place = length-front xs place (omega arith);
      before = take-drop xs place ∙ ap (λ ys. take place xs ++ ys) (at_place xs place x within read ∙ ap (λ r. r ∷ drop (suc place) xs) (sym (same_row-true row x same)));
      after = sym (here true same);
    }

  -- there is none
  pub not_found : length xs ≤ place → Walked row xs place → drop_one row_cmp row xs ≡ xs
  not_found past walked = sym walked ∙ ap (λ ys. take place xs ++ drop_one row_cmp row ys) (nothing xs place past) ∙ ap (λ ys. take place xs ++ ys) (sym (nothing xs place past)) ∙ sym (take-drop xs place)
    where
      nothing : (ys : List Row) (n : ℕ) → length ys ≤ n → drop n ys ≡ []
      nothing [] zero l = refl
      nothing [] (suc n) l = refl
      nothing (y ∷ ys) zero l = absurd (omega arith)
      nothing (y ∷ ys) (suc n) l = nothing ys n (omega arith)

-- a row that is taken out of its place
pub taken_out : (row : Row) (at : ℕ) (old new : List Row) → Left row at old new → remove old at ≡ new
taken_out row at old new left = ap (λ xs. remove xs at) left.before ∙ ap (remove (left.front ++ row ∷ left.back)) (sym left.place) ∙ go left.front ∙ sym left.after
  where
    go : (front : List Row) → remove (front ++ row ∷ left.back) (length front) ≡ front ++ left.back
    go [] = refl
    go (x ∷ front) = ap (λ ys. x ∷ ys) (go front)

-- what an answer says of the row that it has
pub on_some : {A : Type 0} (P : Type 0) (o : Option A) (x : A) → o ≡ Some x → OnSome o P → P
on_some P None x e h = absurd (cc)
on_some P (Some y) x e h = h

pub left_same : (row : Row) (at : ℕ) (old new same other : List Row) → old ≡ same → new ≡ other → Left row at old new → Left row at same other
left_same row at old new same other e f left = record { front = left.front; back = left.back; place = left.place; before = sym e ∙ left.before; after = sym f ∙ left.after }

pub left_within : (row : Row) (at : ℕ) (old new : List Row) → Left row at old new → at < length old
left_within row at old new left = let e = ap length left.before in omega (arith, e, left.place, longer left.front)
  where
    longer : (front : List Row) → length front < length (front ++ row ∷ left.back)
    longer [] = omega arith
    longer (x ∷ front) = omega (arith, longer front)

-- ---- the last row

-- the one that is read at the end
pub last_at : (xs : List Row) (place : ℕ) (x : Row) → length xs ≡ suc place → x ≡ slice_index_or xs place x → Some x ≡ last_or None xs
last_at xs place x l e = go None xs place l e
  where
    go : (o : Option Row) (xs : List Row) (place : ℕ) → length xs ≡ suc place → x ≡ slice_index_or xs place x → Some x ≡ last_or o xs
    go o [] place l e = absurd (omega arith)
    go o (y ∷ []) zero l e = ap Some e
    go o (y ∷ []) (suc place) l e = absurd (omega arith)
    go o (y ∷ z ∷ zs) zero l e = absurd (omega arith)
    go o (y ∷ z ∷ zs) (suc place) l e = go (Some y) (z ∷ zs) place (omega arith) e

-- behind a row others are last
last_behind : (o : Option Row) (front : List Row) (row : Row) (back : List Row) → 0 < length back → last_or o (front ++ row ∷ back) ≡ last_or o (front ++ back)
last_behind o [] row [] some = absurd (omega arith)
last_behind o [] row (x ∷ back) some = refl
last_behind o (x ∷ front) row back some = last_behind (Some x) front row back some

last_itself : (o : Option Row) (front : List Row) (row : Row) (back : List Row) → length back ≡ 0 → last_or o (front ++ row ∷ back) ≡ Some row
last_itself o [] row [] none = refl
last_itself o [] row (x ∷ back) none = absurd (omega arith)
last_itself o (x ∷ front) row back none = last_itself (Some x) front row back none

length-both : (front back : List Row) → length (front ++ back) ≡ length front + length back
length-both [] back = omega arith
length-both (x ∷ front) back = omega (arith, length-both front back)

-- the row that is put behind the others is last
pub last_push : (rows : List Row) (row : Row) → last_or None (rows ++ row ∷ []) ≡ Some row
last_push rows row = last_itself None rows row [] refl

-- where a row that isn't the last one went, the last one stays
pub last_stays : (row : Row) (at : ℕ) (old new : List Row) → Left row at old new → at < length new → last_or None old ≡ last_or None new
last_stays row at old new left before =
    let e = ap length left.after in
    ap (last_or None) left.before ∙ last_behind None left.front row left.back (omega (arith, e, left.place, length-both left.front left.back, before)) ∙ ap (last_or None) (sym left.after)

-- and where the last one went, it was that one
pub last_went : (row : Row) (at : ℕ) (old new : List Row) → Left row at old new → length new ≤ at → last_or None old ≡ Some row
last_went row at old new left past =
    let e = ap length left.after in
    ap (last_or None) left.before ∙ last_itself None left.front row left.back (omega (arith, e, left.place, length-both left.front left.back, past))
