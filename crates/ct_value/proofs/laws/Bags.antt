-- Laws of bags: what one weighs, its copies, its items, and that two bags with the same copies are one where the order is total and exact.
use Rattle.std.specs.Prelude.{◌≡◌, ℕ, zero, suc, ◌*◌, Some, ◌+◌, ◌≤◌, ◌<◌, Bool, true, false, cond, not, ◌&&◌, T, List, [], ◌∷◌, ◌++◌}
use Rattle.std.proofs.Common.{refl, sym, ap, subst, ◌∙◌, arith}
use Rattle.std.specs.Ordering.{is_eq, is_gt, eq_by_cmp, ordering_reverse}
use Rattle.std.specs.declared.cmp.Ordering.{Ordering}
use Rattle.std.specs.declared.cmp.Ordering.TheVariants.{Less, Equal, Greater}
use Rattle.std.specs.Cmp.{IsTotalOrder, eq_by_cmp_equiv, tied_itself, alike_right, Equal-is, upto}
use Rattle.std.specs.FinMap.{IsAntisymmetric}
use Rattle.std.specs.List.{IsDistinct}
use Rattle.std.specs.Map.{lookup, keys_of}
use Rattle.std.specs.BTreeMap.{is_at}
use Rattle.std.specs.Option.{unwrap_or}
use Rattle.std.proofs.lemmas.Map.{NonePasses}
use Rattle.std.proofs.lemmas.Map.Keys.{IsDistinct-tail}
use Rattle.std.proofs.lemmas.Map.Entries.{none_past_head}
use Rattle.ct_value.specs.Bag.{Bag, weigh, one_at, occurs, put, drop_one, at_most_all, in_order, items, items_in_order, same_items_bag, copies, total, none, checked, add, remove, bag_of, add_many, bag_of_counts}

pub weigh-append : {A : Type 0} (f : A → ℕ) (xs ys : List A) → weigh f (xs ++ ys) ≡ weigh f xs + weigh f ys
weigh-append f [] ys = omega arith
weigh-append f (x ∷ xs) ys = omega (arith, weigh-append f xs ys)

-- a weight by parts
pub weigh-sum : {A : Type 0} (f g : A → ℕ) (xs : List A) → weigh (λ x. f x + g x) xs ≡ weigh f xs + weigh g xs
weigh-sum f g [] = refl
weigh-sum f g (x ∷ xs) = omega (arith, weigh-sum f g xs)

both : (a b : Bool) → T a → T b → T (a && b)
both true b p q = q
both false b p q = p

first : (a b : Bool) → T (a && b) → T a
first true b p = tt
first false b p = p

second : (a b : Bool) → T (a && b) → T b
second true b p = p
second false b p = absurd p

module _ {A : Type 0} (R : A → A → Ordering) where
  pub weigh-put : (f : A → ℕ) (x : A) (xs : List A) → weigh f (put R x xs) ≡ f x + weigh f xs
  weigh-put f x [] = refl
  weigh-put f x (y ∷ ys) =
      elim (is_gt (R x y)) as (λ b. weigh f (cond b (y ∷ put R x ys) (x ∷ y ∷ ys)) ≡ f x + (f y + weigh f ys)) [ true ↦ omega (arith, weigh-put f x ys) | false ↦ refl ]

  module _ (o : IsTotalOrder R) where
    pub one_at_itself : (x : A) → one_at R x x ≡ 1
    one_at_itself x = ap (λ r. cond (is_eq r) 1 0) (tied_itself o x)

    not_above : (x y : A) → is_gt (R x y) ≡ true → is_gt (R y x) ≡ false
    not_above x y h =
        elim (R x y) as (λ r. R y x ≡ ordering_reverse r → is_gt r ≡ true → is_gt (R y x) ≡ false) [
          | Less ↦ λ e g. absurd (cc)
          | Equal ↦ λ e g. absurd (cc)
          | Greater ↦ λ e g. ap is_gt e
        ] (o.antisymm y x) h

    is_not : (b : Bool) → b ≡ false → T (not b)
    is_not b e = subst (λ c. T (not c)) (sym e) tt

    was_not : (b : Bool) → T (not b) → b ≡ false
    was_not true p = absurd p
    was_not false p = refl

    at_most_all-lower : (x y : A) (ys : List A) → is_gt (R x y) ≡ false → T (at_most_all R y ys) → T (at_most_all R x ys)
    at_most_all-lower x y [] p h = tt
    at_most_all-lower x y (z ∷ zs) p h = both _ _ (is_not _ (upto o x y z p (was_not _ (first _ _ h)))) (at_most_all-lower x y zs p (second _ _ h))

    at_most_all-put : (x y : A) (ys : List A) → is_gt (R x y) ≡ false → T (at_most_all R x ys) → T (at_most_all R x (put R y ys))
    at_most_all-put x y [] p h = both _ _ (is_not _ p) tt
    at_most_all-put x y (z ∷ zs) p h =
        elim (is_gt (R y z)) as (λ b. T (at_most_all R x (cond b (z ∷ put R y zs) (y ∷ z ∷ zs)))) [
          | true ↦ both _ _ (first _ _ h) (at_most_all-put x y zs p (second _ _ h))
          | false ↦ both _ _ (is_not _ p) h
        ]

    pub in_order-put : (x : A) (xs : List A) → T (in_order R xs) → T (in_order R (put R x xs))
    in_order-put x [] h = tt
    in_order-put x (y ∷ ys) h =
        elim (is_gt (R x y)) as (λ b. is_gt (R x y) ≡ b → T (in_order R (cond b (y ∷ put R x ys) (x ∷ y ∷ ys)))) [
          | true ↦ λ e. both _ _ (at_most_all-put y x ys (not_above x y e) (first _ _ h)) (in_order-put x ys (second _ _ h))
          | false ↦ λ e. both _ _ (both _ _ (is_not _ e) (at_most_all-lower x y ys e (first _ _ h))) h
        ] refl

    at_most_all-drop_one : (x y : A) (ys : List A) → T (at_most_all R x ys) → T (at_most_all R x (drop_one R y ys))
    at_most_all-drop_one x y [] h = tt
    at_most_all-drop_one x y (z ∷ zs) h =
        elim (eq_by_cmp R y z) as (λ b. T (at_most_all R x (cond b zs (z ∷ drop_one R y zs)))) [
          | true ↦ second _ _ h
          | false ↦ both _ _ (first _ _ h) (at_most_all-drop_one x y zs (second _ _ h))
        ]

    pub in_order-drop_one : (x : A) (xs : List A) → T (in_order R xs) → T (in_order R (drop_one R x xs))
    in_order-drop_one x [] h = tt
    in_order-drop_one x (y ∷ ys) h =
        elim (eq_by_cmp R x y) as (λ b. T (in_order R (cond b ys (y ∷ drop_one R x ys)))) [
          | true ↦ second _ _ h
          | false ↦ both _ _ (at_most_all-drop_one y x ys (first _ _ h)) (in_order-drop_one x ys (second _ _ h))
        ]

    -- the first item is at most each that occurs
    at_most-occurs : (x y : A) (ys : List A) → T (at_most_all R x ys) → 0 < occurs R y ys → is_gt (R x y) ≡ false
    at_most-occurs x y [] h p = absurd (omega arith)
    at_most-occurs x y (z ∷ zs) h p =
        elim (eq_by_cmp R y z) as (λ b. eq_by_cmp R y z ≡ b → 0 < cond b 1 0 + occurs R y zs → is_gt (R x y) ≡ false) [
          | true ↦ λ e q. ap is_gt (alike_right o y z x ((Equal-is (R y z)).0 e)) ∙ was_not _ (first _ _ h)
          | false ↦ λ e q. at_most-occurs x y zs (second _ _ h) (omega arith)
        ] refl p

    module _ (exact : IsAntisymmetric R) where
      neither_above : (x y : A) → is_gt (R x y) ≡ false → is_gt (R y x) ≡ false → x ≡ y
      neither_above x y p q = exact x y (
          elim (R x y) as (λ r. R y x ≡ ordering_reverse r → is_gt r ≡ false → r ≡ Equal) [
            | Less ↦ λ e g. absurd (let h : is_gt (R y x) ≡ true = ap is_gt e in cc)
            | Equal ↦ λ e g. refl
            | Greater ↦ λ e g. absurd (cc)
          ] (o.antisymm y x) p)

      -- two lists in order with the same copies are one
      pub same_items : (xs ys : List A) → T (in_order R xs) → T (in_order R ys) → ((x : A) → occurs R x xs ≡ occurs R x ys) → xs ≡ ys
      same_items [] [] p q h = refl
      same_items [] (y ∷ ys) p q h = absurd (let a = h y in let b = one_at_itself y in omega arith)
      same_items (x ∷ xs) [] p q h = absurd (let a = h x in let b = one_at_itself x in omega arith)
      same_items (x ∷ xs) (y ∷ ys) p q h =
          let itself : (z : A) → is_gt (R z z) ≡ false = λ z. ap is_gt (tied_itself o z) in
          let below : is_gt (R x y) ≡ false = at_most-occurs x y (x ∷ xs) (both _ _ (is_not _ (itself x)) (first _ _ p)) (omega (arith, h y, one_at_itself y)) in
          let above : is_gt (R y x) ≡ false = at_most-occurs y x (y ∷ ys) (both _ _ (is_not _ (itself y)) (first _ _ q)) (omega (arith, h x, one_at_itself x)) in
          let e : x ≡ y = neither_above x y below above in
          let rest : (z : A) → occurs R z xs ≡ occurs R z ys = λ z. let a = h z in let b : one_at R z x ≡ one_at R z y = ap (one_at R z) e in omega arith in
          λ i. e i ∷ same_items xs ys (second _ _ p) (second _ _ q) rest i

      pub weigh-drop_one : (f : A → ℕ) (x : A) (xs : List A) → 0 < occurs R x xs → f x + weigh f (drop_one R x xs) ≡ weigh f xs
      weigh-drop_one f x [] h = absurd (omega arith)
      weigh-drop_one f x (y ∷ ys) h =
          elim (eq_by_cmp R x y) as (λ b. eq_by_cmp R x y ≡ b → 0 < cond b 1 0 + occurs R x ys → f x + weigh f (cond b ys (y ∷ drop_one R x ys)) ≡ f y + weigh f ys) [
            | true ↦ λ e q. ap (λ z. f z + weigh f ys) (exact x y ((Equal-is (R x y)).0 e))
            | false ↦ λ e q. let a = weigh-drop_one f x ys (omega arith) in omega arith
          ] refl h

module _ {A : Type 0} {R : A → A → Ordering} where
  pub copies-occurs : (b : Bag R) (x : A) → copies b x ≡ occurs R x (items b)
  unfolding copies
  copies-occurs b x = refl

  items-checked : (xs : List A) (b : Bool) (e : in_order R xs ≡ b) (a : Bag R) → T b → items (checked xs b e a) ≡ xs
  unfolding items checked
  items-checked xs true e a h = refl
  items-checked xs false e a h = absurd h

pub items-none : {A : Type 0} (R : A → A → Ordering) → items (none {R = R}) ≡ []
unfolding items none
items-none R = refl

module _ {A : Type 0} {R : A → A → Ordering} (o : IsTotalOrder R) where
  pub items-add : (b : Bag R) (x : A) → items (add b x) ≡ put R x (items b)
  unfolding add
  items-add b x = items-checked _ _ refl b (in_order-put R o x (items b) (items_in_order b))

  pub items-remove : (b : Bag R) (x : A) → items (remove b x) ≡ drop_one R x (items b)
  unfolding remove
  items-remove b x = items-checked _ _ refl b (in_order-drop_one R o x (items b) (items_in_order b))

  pub total-none : (f : A → ℕ) → total {R = R} f none ≡ 0
  total-none f = ap (weigh f) (items-none R)

  pub total-add : (f : A → ℕ) (b : Bag R) (x : A) → total f (add b x) ≡ f x + total f b
  total-add f b x = ap (weigh f) (items-add b x) ∙ weigh-put R f x (items b)

  pub total-bag_of : (f : A → ℕ) (xs : List A) → total {R = R} f (bag_of xs) ≡ weigh f xs
  total-bag_of f [] = total-none f
  total-bag_of f (x ∷ xs) = total-add f (bag_of xs) x ∙ ap (λ n. f x + n) (total-bag_of f xs)

  pub copies-none : (x : A) → copies {R = R} none x ≡ 0
  unfolding copies
  copies-none x = total-none (one_at R x)

  pub copies-add : (b : Bag R) (x y : A) → copies (add b x) y ≡ one_at R y x + copies b y
  unfolding copies
  copies-add b x y = total-add (one_at R y) b x

  pub copies-bag_of : (xs : List A) (x : A) → copies {R = R} (bag_of xs) x ≡ occurs R x xs
  unfolding copies
  copies-bag_of xs x = total-bag_of (one_at R x) xs

  module _ (exact : IsAntisymmetric R) where
    pub total-remove : (f : A → ℕ) (b : Bag R) (x : A) → 0 < copies b x → f x + total f (remove b x) ≡ total f b
    unfolding copies
    total-remove f b x h = ap (λ xs. f x + weigh f xs) (items-remove b x) ∙ weigh-drop_one R o exact f x (items b) h

    pub copies-remove : (b : Bag R) (x y : A) → 0 < copies b x → one_at R y x + copies (remove b x) y ≡ copies b y
    unfolding copies
    copies-remove b x y h = total-remove (one_at R y) b x h

    -- two bags with the same copies are one
    pub same_bag : (a b : Bag R) → ((x : A) → copies a x ≡ copies b x) → a ≡ b
    unfolding copies
    same_bag a b h = same_items_bag a b (same_items R o exact (items a) (items b) (items_in_order a) (items_in_order b) h)

    pub remove-add : (b : Bag R) (x : A) → remove (add b x) x ≡ b
    remove-add b x = same_bag _ _ (λ y. omega (arith, copies-add b x y, copies-remove (add b x) x y (omega (arith, copies-add b x x, one_at_itself R o x))))

    pub add-remove : (b : Bag R) (x : A) → 0 < copies b x → add (remove b x) x ≡ b
    add-remove b x h = same_bag _ _ (λ y. omega (arith, copies-add (remove b x) x y, copies-remove b x y h))

    pub add-add : (b : Bag R) (x y : A) → add (add b x) y ≡ add (add b y) x
    add-add b x y = same_bag _ _ (λ z. omega (arith, copies-add (add b x) y z, copies-add b x z, copies-add (add b y) x z, copies-add b y z))

module _ {A : Type 0} {R : A → A → Ordering} (o : IsTotalOrder R) where
  pub total-add_many : (f : A → ℕ) (b : Bag R) (x : A) (n : ℕ) → total f (add_many b x n) ≡ n * f x + total f b
  total-add_many f b x zero = omega arith
  total-add_many f b x (suc n) = total-add o f (add_many b x n) x ∙ let h = total-add_many f b x n in omega arith

  pub total-bag_of_counts : (f : A → ℕ) (es : List (A × ℕ)) → total {R = R} f (bag_of_counts es) ≡ weigh (λ e. e.1 * f e.0) es
  total-bag_of_counts f [] = total-none o f
  total-bag_of_counts f (e ∷ es) = total-add_many f (bag_of_counts es) e.0 e.1 ∙ ap (λ n. e.1 * f e.0 + n) (total-bag_of_counts f es)

  no_weight : (x : A) (es : List (A × ℕ)) → NonePasses (eq_by_cmp R x) es → weigh (λ e. e.1 * one_at R x e.0) es ≡ 0
  no_weight x [] h = refl
  no_weight x (e ∷ es) h = let a : one_at R x e.0 ≡ 0 = ap (λ b. cond b 1 0) h.0 in rw a (omega (arith, no_weight x es h.1))

  -- what distinct entries weigh at x is the count that a look-up finds
  pub weigh-lookup : (x : A) (es : List (A × ℕ)) → IsDistinct (eq_by_cmp R) (keys_of es) → weigh (λ e. e.1 * one_at R x e.0) es ≡ unwrap_or (lookup (is_at (R x)) es) 0
  weigh-lookup x [] d = refl
  weigh-lookup x (e ∷ es) d =
      elim (eq_by_cmp R x e.0) as (λ b. eq_by_cmp R x e.0 ≡ b → e.1 * cond b 1 0 + weigh (λ e. e.1 * one_at R x e.0) es ≡ unwrap_or (cond b (Some e.1) (lookup (is_at (R x)) es)) 0) [
        | true ↦ λ t. omega (arith, no_weight x es (none_past_head (eq_by_cmp_equiv o) x e es d t))
        | false ↦ λ t. let h = weigh-lookup x es (IsDistinct-tail (eq_by_cmp R) e.0 (keys_of es) d) in omega arith
      ] refl

  pub copies-bag_of_counts : (es : List (A × ℕ)) (x : A) → IsDistinct (eq_by_cmp R) (keys_of es) → copies {R = R} (bag_of_counts es) x ≡ unwrap_or (lookup (is_at (R x)) es) 0
  copies-bag_of_counts es x d = copies-occurs (bag_of_counts es) x ∙ total-bag_of_counts (one_at R x) es ∙ weigh-lookup x es d

weigh-le : {A : Type 0} (f : A → ℕ) → ((x : A) → f x ≤ 1) → (xs : List A) → weigh f xs ≤ weigh (λ _. 1) xs
weigh-le f h [] = omega arith
weigh-le f h (x ∷ xs) = let a = h x in let b = weigh-le f h xs in omega arith

-- what weighs at most 1 each weighs at most the number of items
pub total-le : {A : Type 0} {R : A → A → Ordering} (f : A → ℕ) → ((x : A) → f x ≤ 1) → (b : Bag R) → total f b ≤ total (λ _. 1) b
total-le f h b = weigh-le f h (items b)
