-- The first and the last item of a list in order, and of one with an item put in.
use Rattle.std.proofs.Common.{◌≡◌, ◌≢◌, ℕ, zero, suc, ◌+◌, ◌<◌, Bool, true, false, cond, T, not, ◌&&◌, length, List, [], ◌∷◌, Option, Some, None, refl, sym, ap, subst, ◌∙◌, arith}
use Rattle.std.specs.Ordering.{is_gt, is_lt, eq_by_cmp, ordering_reverse}
use Rattle.std.specs.declared.cmp.Ordering.TheVariants.{Less, Equal, Greater}
use Rattle.std.specs.Cmp.{Equal-is, alike_right}
use Rattle.std.specs.Option.{unwrap_or, IsSome}
use Rattle.std.specs.BTreeMap.{BTreeMap, get, IsLowerBound, IsUpperBound}
use Rattle.ct_value.specs.Bag.{put, at_most_all, in_order, occurs, items, items_in_order, add, bag_of_counts}
use Rattle.ct_value.proofs.laws.Bags.{in_order-put, one_at_itself, items-none, items-add, copies-occurs}
use Rattle.ct_value.specs.Order.{value_cmp, value_total, value_exact}
use Rattle.ct_value.specs.declared.value.Value.{Value}
use Rattle.rel_algebra.specs.Aggregates.{Values}
use Rattle.agg_fns.specs.Counts.{AreCounts}
use Rattle.agg_fns.specs.Standing.{first_item, last_item, is_below, is_above}
use Rattle.agg_fns.proofs.Counts.{bag_in, count_at, copies_in}

first : (a b : Bool) → T (a && b) → T a
first true b p = tt
first false b p = p

second : (a b : Bool) → T (a && b) → T b
second true b p = p
second false b p = absurd p

was_not : (b : Bool) → T (not b) → b ≡ false
was_not true p = absurd p
was_not false p = refl

neither_above : (x y : Value) → is_gt (value_cmp x y) ≡ false → is_gt (value_cmp y x) ≡ false → x ≡ y
neither_above x y p q = value_exact x y (
    elim (value_cmp x y) as (λ r. value_cmp y x ≡ ordering_reverse r → is_gt r ≡ false → r ≡ Equal) [
      | Less ↦ λ e g. absurd (let h : is_gt (value_cmp y x) ≡ true = ap is_gt e in cc)
      | Equal ↦ λ e g. refl
      | Greater ↦ λ e g. absurd (cc)
    ] (value_total.antisymm y x) p)

at_most_each : (x y : Value) (ys : List Value) → T (at_most_all value_cmp x ys) → 0 < occurs value_cmp y ys → is_gt (value_cmp x y) ≡ false
at_most_each x y [] h p = absurd (omega arith)
at_most_each x y (z ∷ zs) h p =
    elim (eq_by_cmp value_cmp y z) as (λ b. eq_by_cmp value_cmp y z ≡ b → 0 < cond b 1 0 + occurs value_cmp y zs → is_gt (value_cmp x y) ≡ false) [
      | true ↦ λ e q. ap is_gt (alike_right value_total y z x ((Equal-is (value_cmp y z)).0 e)) ∙ was_not _ (first _ _ h)
      | false ↦ λ e q. at_most_each x y zs (second _ _ h) (omega arith)
    ] refl p

-- what is at most each item is the first
pub first_is : (xs : List Value) (p : Value) → T (in_order value_cmp xs) → 0 < occurs value_cmp p xs → ((q : Value) → 0 < occurs value_cmp q xs → is_gt (value_cmp p q) ≡ false) → first_item xs ≡ Some p
first_is [] p s some least = absurd (omega arith)
first_is (x ∷ xs) p s some least =
    elim (eq_by_cmp value_cmp p x) as (λ b. eq_by_cmp value_cmp p x ≡ b → 0 < cond b 1 0 + occurs value_cmp p xs → Some x ≡ Some p) [
      | true ↦ λ e q. ap Some (sym (value_exact p x ((Equal-is (value_cmp p x)).0 e)))
      | false ↦ λ e q. ap Some (neither_above x p (at_most_each x p xs (first _ _ s) (omega arith)) (least x (omega (arith, one_at_itself value_cmp value_total x))))
    ] refl some

not_below : (x y : Value) → is_lt (value_cmp x y) ≡ false → is_gt (value_cmp y x) ≡ false
not_below x y p =
    elim (value_cmp x y) as (λ r. value_cmp y x ≡ ordering_reverse r → is_lt r ≡ false → is_gt (value_cmp y x) ≡ false) [
      | Less ↦ λ e g. absurd (cc)
      | Equal ↦ λ e g. ap is_gt e
      | Greater ↦ λ e g. ap is_gt e
    ] (value_total.antisymm y x) p

some_at : (y : Value) (ys : List Value) → 0 < occurs value_cmp y (y ∷ ys)
some_at y ys = omega (arith, one_at_itself value_cmp value_total y)

some_here : (x y : Value) (ys : List Value) → 0 < occurs value_cmp y (x ∷ y ∷ ys)
some_here x y ys = omega (arith, one_at_itself value_cmp value_total y)

-- what is at least each item is the last
pub last_is : (xs : List Value) (p : Value) → T (in_order value_cmp xs) → 0 < occurs value_cmp p xs → ((q : Value) → 0 < occurs value_cmp q xs → is_lt (value_cmp p q) ≡ false) → last_item xs ≡ Some p
last_is [] p s some greatest = absurd (omega arith)
last_is (x ∷ []) p s some greatest =
    elim (eq_by_cmp value_cmp p x) as (λ b. eq_by_cmp value_cmp p x ≡ b → 0 < cond b 1 0 + 0 → Some x ≡ Some p) [
      | true ↦ λ e q. ap Some (sym (value_exact p x ((Equal-is (value_cmp p x)).0 e)))
      | false ↦ λ e q. absurd (omega arith)
    ] refl some
last_is (x ∷ y ∷ ys) p s some greatest =
    last_is (y ∷ ys) p (second _ _ s) (
    elim (eq_by_cmp value_cmp p x) as (λ b. eq_by_cmp value_cmp p x ≡ b → 0 < cond b 1 0 + occurs value_cmp p (y ∷ ys) → 0 < occurs value_cmp p (y ∷ ys)) [
      | true ↦ λ e q.
          let same : p ≡ x = value_exact p x ((Equal-is (value_cmp p x)).0 e) in
          let here : 0 < occurs value_cmp y (x ∷ y ∷ ys) = some_here x y ys in
          let below : is_gt (value_cmp x y) ≡ false = was_not (is_gt (value_cmp x y)) (first (not (is_gt (value_cmp x y))) _ (first _ _ s)) in
          let above : is_gt (value_cmp y p) ≡ false = not_below p y (greatest y here) in
          let alike : p ≡ y = neither_above p y (subst (λ v. is_gt (value_cmp v y) ≡ false) (sym same) below) above in
          subst (λ v. 0 < occurs value_cmp v (y ∷ ys)) (sym alike) (some_at y ys)
      | false ↦ λ e q. omega arith
    ] refl some)
    (λ q some. greatest q (omega arith))

-- the lesser of a value and the first so far
abbrev pub lesser : Value → Option Value → Option Value
lesser x None = Some x
lesser x (Some y) = Some (cond (is_gt (value_cmp x y)) y x)

-- the greater of a value and the last so far
abbrev pub greater : Value → Option Value → Option Value
greater x None = Some x
greater x (Some y) = Some (cond (is_gt (value_cmp x y)) x y)

pub first-put : (x : Value) (xs : List Value) → first_item (put value_cmp x xs) ≡ lesser x (first_item xs)
first-put x [] = refl
first-put x (y ∷ ys) = elim (is_gt (value_cmp x y)) as (λ b. first_item (cond b (y ∷ put value_cmp x ys) (x ∷ y ∷ ys)) ≡ Some (cond b y x)) [ true ↦ refl | false ↦ refl ]

last-cons : (y : Value) (xs : List Value) → 0 < length xs → last_item (y ∷ xs) ≡ last_item xs
last-cons y [] h = absurd (omega arith)
last-cons y (x ∷ xs) h = refl

length-put : (x : Value) (xs : List Value) → 0 < length (put value_cmp x xs)
length-put x [] = omega arith
length-put x (y ∷ ys) = elim (is_gt (value_cmp x y)) as (λ b. 0 < length (cond b (y ∷ put value_cmp x ys) (x ∷ y ∷ ys))) [ true ↦ omega arith | false ↦ omega arith ]

-- where a value is at most each of a list, the last of the list stays the last
at_last : (x y : Value) (ys : List Value) → T (at_most_all value_cmp x (y ∷ ys)) → greater x (last_item (y ∷ ys)) ≡ last_item (y ∷ ys)
at_last x y [] h = ap (λ b. Some (cond b x y)) (was_not _ (first _ _ h))
at_last x y (z ∷ zs) h = at_last x z zs (second _ _ h)

pub last-put : (x : Value) (xs : List Value) → T (in_order value_cmp xs) → last_item (put value_cmp x xs) ≡ greater x (last_item xs)
last-put x [] s = refl
last-put x (y ∷ ys) s =
    elim (is_gt (value_cmp x y)) as (λ b. is_gt (value_cmp x y) ≡ b → T (in_order value_cmp (cond b (y ∷ put value_cmp x ys) (x ∷ y ∷ ys))) → last_item (cond b (y ∷ put value_cmp x ys) (x ∷ y ∷ ys)) ≡ greater x (last_item (y ∷ ys))) [
      | true ↦ λ e t. last-cons y (put value_cmp x ys) (length-put x ys) ∙ last-put x ys (second _ _ s) ∙ beyond ys e
      | false ↦ λ e t. sym (at_last x y ys (first _ _ t))
    ] refl (in_order-put value_cmp value_total x (y ∷ ys) s)
  where
    beyond : (ys : List Value) → is_gt (value_cmp x y) ≡ true → greater x (last_item ys) ≡ greater x (last_item (y ∷ ys))
    beyond [] e = sym (ap (λ b. Some (cond b x y)) e)
    beyond (z ∷ zs) e = refl

lesser_takes : (x : Value) (o : Option Value) → is_below x o ≡ true → lesser x o ≡ Some x
lesser_takes x None e = refl
lesser_takes x (Some y) e = elim (value_cmp x y) as (λ r. is_lt r ≡ true → Some (cond (is_gt r) y x) ≡ Some x) [
  | Less ↦ λ g. refl
  | Equal ↦ λ g. absurd (cc)
  | Greater ↦ λ g. absurd (cc)
] e

lesser_stays : (x : Value) (o : Option Value) → is_below x o ≡ false → lesser x o ≡ o
lesser_stays x None e = absurd (cc)
lesser_stays x (Some y) e = elim (value_cmp x y) as (λ r. value_cmp x y ≡ r → is_lt r ≡ false → Some (cond (is_gt r) y x) ≡ Some y) [
  | Less ↦ λ f g. absurd (cc)
  | Equal ↦ λ f g. ap Some (value_exact x y f)
  | Greater ↦ λ f g. refl
] refl e

greater_takes : (x : Value) (o : Option Value) → is_above x o ≡ true → greater x o ≡ Some x
greater_takes x None e = refl
greater_takes x (Some y) e = ap (λ b. Some (cond b x y)) e

greater_stays : (x : Value) (o : Option Value) → is_above x o ≡ false → greater x o ≡ o
greater_stays x None e = absurd (cc)
greater_stays x (Some y) e = ap (λ b. Some (cond b x y)) e

pub first-add : (kept : Values) (value : Value) (o : Option Value) → o ≡ first_item (items kept) → first_item (items (add kept value)) ≡ lesser value o
first-add kept value o e = ap first_item (items-add value_total kept value) ∙ first-put value (items kept) ∙ ap (lesser value) (sym e)

pub last-add : (kept : Values) (value : Value) (o : Option Value) → o ≡ last_item (items kept) → last_item (items (add kept value)) ≡ greater value o
last-add kept value o e = ap last_item (items-add value_total kept value) ∙ last-put value (items kept) (items_in_order kept) ∙ ap (greater value) (sym e)

pub least_taken : (kept : Values) (value : Value) (o : Option Value) → o ≡ first_item (items kept) → is_below value o ≡ true → Some value ≡ first_item (items (add kept value))
least_taken kept value o e b = sym (first-add kept value o e ∙ lesser_takes value o b)

pub least_stays : (kept : Values) (value : Value) (o : Option Value) → o ≡ first_item (items kept) → is_below value o ≡ false → o ≡ first_item (items (add kept value))
least_stays kept value o e b = sym (first-add kept value o e ∙ lesser_stays value o b)

pub greatest_taken : (kept : Values) (value : Value) (o : Option Value) → o ≡ last_item (items kept) → is_above value o ≡ true → Some value ≡ last_item (items (add kept value))
greatest_taken kept value o e b = sym (last-add kept value o e ∙ greater_takes value o b)

pub greatest_stays : (kept : Values) (value : Value) (o : Option Value) → o ≡ last_item (items kept) → is_above value o ≡ false → o ≡ last_item (items (add kept value))
greatest_stays kept value o e b = sym (last-add kept value o e ∙ greater_stays value o b)

-- the first and the last of what is kept as counts
occurs_kept : (counts : BTreeMap Value ℕ) → AreCounts counts → (q : Value) → 0 < occurs value_cmp q (items (bag_in counts)) → IsSome (get value_cmp counts q)
occurs_kept counts are q some = some_of (get value_cmp counts q) (let a = copies_in counts q are.ordered in let b = copies-occurs (bag_in counts) q in omega arith)
  where
    some_of : (o : Option ℕ) → 0 < unwrap_or o 0 → IsSome o
    some_of None h = absurd (omega arith)
    some_of (Some n) h = refl

kept_occurs : (counts : BTreeMap Value ℕ) → AreCounts counts → (p : Value) (n : ℕ) → get value_cmp counts p ≡ Some n → 0 < occurs value_cmp p (items (bag_in counts))
kept_occurs counts are p n e =
    let here : count_at counts p ≡ n = ap (λ o. unwrap_or o 0) e in
    let some : n ≢ 0 = λ z. are.positive p (e ∙ ap Some z) in
    omega (arith, copies_in counts p are.ordered, copies-occurs (bag_in counts) p)

pub first_kept : (counts : BTreeMap Value ℕ) → AreCounts counts → (p : Value) (n : ℕ) → get value_cmp counts p ≡ Some n → IsLowerBound value_cmp counts p → first_item (items (bag_in counts)) ≡ Some p
first_kept counts are p n e least = first_is (items (bag_in counts)) p (items_in_order (bag_in counts)) (kept_occurs counts are p n e) (λ q some. least q (occurs_kept counts are q some))

pub last_kept : (counts : BTreeMap Value ℕ) → AreCounts counts → (p : Value) (n : ℕ) → get value_cmp counts p ≡ Some n → IsUpperBound value_cmp counts p → last_item (items (bag_in counts)) ≡ Some p
last_kept counts are p n e greatest = last_is (items (bag_in counts)) p (items_in_order (bag_in counts)) (kept_occurs counts are p n e) (λ q some. greatest q (occurs_kept counts are q some))

none_in : (entries : List (Value × ℕ)) → length entries ≡ 0 → items (bag_of_counts {R = value_cmp} entries) ≡ []
none_in [] e = items-none value_cmp
none_in (entry ∷ entries) e = absurd (omega arith)

pub first_of_none : (counts : BTreeMap Value ℕ) → length counts.entries ≡ 0 → first_item (items (bag_in counts)) ≡ None
first_of_none counts e = ap first_item (none_in counts.entries e)

pub last_of_none : (counts : BTreeMap Value ℕ) → length counts.entries ≡ 0 → last_item (items (bag_in counts)) ≡ None
last_of_none counts e = ap last_item (none_in counts.entries e)

pub no_more : (n : ℕ) → (0 < n → false ≡ true) → n ≡ 0
no_more zero h = refl
no_more (suc n) h = absurd (let e : false ≡ true = h (omega arith) in cc)
