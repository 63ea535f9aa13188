-- Sums over mapped lists, lists with the same items, and the rows beyond those of another list.
use Rattle.std.proofs.Common.{◌≡◌, ℕ, zero, suc, ◌+◌, ◌<◌, ◌≤◌, ◌==◌, true, false, cond, nat_le, List, [], ◌∷◌, ◌++◌, length, map, take, refl, sym, ap, subst, ◌∙◌, arith}
use Rattle.std.specs.List.{AllByRecursion}
use Rattle.std.specs.Ordering.{eq_by_cmp}
use Rattle.std.specs.Cmp.{Equal-is}
use Rattle.std.proofs.lemmas.Bool.{eqb-true, eqb-false, leb-true, leb-false}
use Rattle.ct_value.specs.Bag.{Bag, items, bag_of, weigh, occurs, one_at, drop_one}
use Rattle.ct_value.proofs.laws.Bags.{weigh-append, one_at_itself, copies-bag_of, total-bag_of, same_bag, weigh-drop_one}
use Rattle.ct_value.specs.Order.{row_cmp, row_total, row_exact}
use Rattle.ct_value.specs.declared.row.Row.{Row}
use Rattle.emission_rules.specs.Ranking.{beyond}

pub weigh-same : {A : Type 0} (f g : A → ℕ) → ((x : A) → f x ≡ g x) → (xs : List A) → weigh f xs ≡ weigh g xs
weigh-same f g h [] = refl
weigh-same f g h (x ∷ xs) = omega (arith, h x, weigh-same f g h xs)

pub weigh-map : {A B : Type 0} (f : B → ℕ) (g : A → B) (xs : List A) → weigh f (map g xs) ≡ weigh (λ x. f (g x)) xs
weigh-map f g [] = refl
weigh-map f g (x ∷ xs) = omega (arith, weigh-map f g xs)

-- ---- fronts of lists

pub weigh-take : {A : Type 0} (f : A → ℕ) (n : ℕ) (xs : List A) → weigh f (take n xs) ≤ weigh f xs
weigh-take f zero xs = omega arith
weigh-take f (suc n) [] = omega arith
weigh-take f (suc n) (x ∷ xs) = omega (arith, weigh-take f n xs)

pub all-take : {A : Type 0} (P : A → Type 0) (n : ℕ) (xs : List A) → AllByRecursion P xs → AllByRecursion P (take n xs)
all-take P zero xs h = tt
all-take P (suc n) [] h = tt
all-take P (suc n) (x ∷ xs) h = (h.0, all-take P n xs h.1)

pub take-le : (n : ℕ) (xs ys : List Row) → length xs ≤ length ys → length (take n xs) ≤ length (take n ys)
take-le zero xs ys h = omega arith
take-le (suc n) [] ys h = omega arith
take-le (suc n) (x ∷ xs) [] h = absurd (omega arith)
take-le (suc n) (x ∷ xs) (y ∷ ys) h = let r = take-le n xs ys (omega arith) in omega arith

pub length-weigh : (xs : List Row) → length xs ≡ weigh (λ _. 1) xs
length-weigh [] = refl
length-weigh (x ∷ xs) = omega (arith, length-weigh xs)

-- ---- what occurs in a list

pub at_occurs : (P : Row → Type 0) (xs : List Row) → AllByRecursion P xs → (x : Row) → 0 < occurs row_cmp x xs → P x
at_occurs P [] h x some = absurd (omega arith)
at_occurs P (y ∷ ys) h x some =
    elim (eq_by_cmp row_cmp x y) as (λ b. eq_by_cmp row_cmp x y ≡ b → 0 < cond b 1 0 + occurs row_cmp x ys → P x) [
      | true ↦ λ e s. subst P (sym (row_exact x y ((Equal-is (row_cmp x y)).0 e))) h.0
      | false ↦ λ e s. at_occurs P ys h.1 x (omega arith)
    ] refl some

pub of_occurs : (P : Row → Type 0) (xs : List Row) → ((x : Row) → 0 < occurs row_cmp x xs → P x) → AllByRecursion P xs
of_occurs P [] h = tt
of_occurs P (y ∷ ys) h = (h y (let e = one_at_itself row_cmp row_total y in omega arith), of_occurs P ys (λ x some. h x (omega arith)))

-- ---- lists with the same items weigh the same

pub weigh-same_items : (xs ys : List Row) → ((x : Row) → occurs row_cmp x xs ≡ occurs row_cmp x ys) → (f : Row → ℕ) → weigh f xs ≡ weigh f ys
weigh-same_items xs ys h f =
    let same : bag_of {R = row_cmp} xs ≡ bag_of ys = same_bag row_total row_exact _ _ (λ x. copies-bag_of row_total xs x ∙ h x ∙ sym (copies-bag_of row_total ys x)) in
    sym (total-bag_of row_total f xs) ∙ ap (λ (b : Bag row_cmp). weigh f (items b)) same ∙ total-bag_of row_total f ys

-- ---- the rows beyond those of another list

-- so many copies beyond so many others
pub record IsBeyond (n have others : ℕ) : Type 0 where
  pub more : others ≤ have → n + others ≡ have
  pub fewer : have ≤ others → n ≡ 0

pub occurs-beyond : (xs ys : List Row) (x : Row) → IsBeyond (occurs row_cmp x (beyond xs ys)) (occurs row_cmp x xs) (occurs row_cmp x ys)
occurs-beyond [] ys x = record { more = λ h. omega arith; fewer = λ h. refl }
occurs-beyond (a ∷ xs) ys x =
    elim (occurs row_cmp a ys == 0) as (λ b. (occurs row_cmp a ys == 0) ≡ b → IsBeyond (occurs row_cmp x (cond b (a ∷ beyond xs ys) (beyond xs (drop_one row_cmp a ys)))) (one_at row_cmp x a + occurs row_cmp x xs) (occurs row_cmp x ys)) [
      | true ↦ λ e. fresh (eqb-true (occurs row_cmp a ys) 0 e) (occurs-beyond xs ys x)
      | false ↦ λ e.
          let gone = weigh-drop_one row_cmp row_total row_exact (one_at row_cmp x) a ys (let apart = eqb-false (occurs row_cmp a ys) 0 e in omega arith) in
          let rest = occurs-beyond xs (drop_one row_cmp a ys) x in
          record {
            more = λ h. let r = rest.more (omega arith) in omega arith;
            fewer = λ h. rest.fewer (omega arith);
          }
    ] refl
  where
    fresh : occurs row_cmp a ys ≡ 0 → IsBeyond (occurs row_cmp x (beyond xs ys)) (occurs row_cmp x xs) (occurs row_cmp x ys) → IsBeyond (one_at row_cmp x a + occurs row_cmp x (beyond xs ys)) (one_at row_cmp x a + occurs row_cmp x xs) (occurs row_cmp x ys)
    fresh none rest =
        elim (eq_by_cmp row_cmp x a) as (λ b. eq_by_cmp row_cmp x a ≡ b → IsBeyond (cond b 1 0 + occurs row_cmp x (beyond xs ys)) (cond b 1 0 + occurs row_cmp x xs) (occurs row_cmp x ys)) [
          | true ↦ λ e.
              let same : x ≡ a = row_exact x a ((Equal-is (row_cmp x a)).0 e) in
              let nothing : occurs row_cmp x ys ≡ 0 = ap (λ r. occurs row_cmp r ys) same ∙ none in
              record { more = λ h. let r = rest.more (omega arith) in omega arith; fewer = λ h. absurd (omega arith) }
          | false ↦ λ e. record { more = λ h. let r = rest.more (omega arith) in omega arith; fewer = λ h. let r = rest.fewer (omega arith) in omega arith }
        ] refl

-- what is beyond, with the others, weighs the same from either side
pub weigh-beyond : (f : Row → ℕ) (xs ys : List Row) → weigh f (beyond xs ys) + weigh f ys ≡ weigh f (beyond ys xs) + weigh f xs
weigh-beyond f xs ys =
    let all = weigh-same_items (beyond xs ys ++ ys) (beyond ys xs ++ xs) (λ x. even x) f in
    omega (arith, all, weigh-append f (beyond xs ys) ys, weigh-append f (beyond ys xs) xs)
  where
    even : (x : Row) → occurs row_cmp x (beyond xs ys ++ ys) ≡ occurs row_cmp x (beyond ys xs ++ xs)
    even x =
        let a = occurs-beyond xs ys x in
        let b = occurs-beyond ys xs x in
        weigh-append (one_at row_cmp x) (beyond xs ys) ys
        ∙ elim (nat_le (occurs row_cmp x xs) (occurs row_cmp x ys)) as (λ t. nat_le (occurs row_cmp x xs) (occurs row_cmp x ys) ≡ t → occurs row_cmp x (beyond xs ys) + occurs row_cmp x ys ≡ occurs row_cmp x (beyond ys xs) + occurs row_cmp x xs) [
          | true ↦ λ e. let le = leb-true (occurs row_cmp x xs) (occurs row_cmp x ys) e in omega (arith, a.fewer le, b.more le)
          | false ↦ λ e. let le = leb-false (occurs row_cmp x xs) (occurs row_cmp x ys) e in omega (arith, a.more (omega arith), b.fewer (omega arith))
        ] refl
        ∙ sym (weigh-append (one_at row_cmp x) (beyond ys xs) xs)

pub weigh-beyond-le : (f : Row → ℕ) (xs ys : List Row) → weigh f (beyond xs ys) ≤ weigh f xs
weigh-beyond-le f [] ys = omega arith
weigh-beyond-le f (x ∷ xs) ys =
    elim (occurs row_cmp x ys == 0) as (λ b. weigh f (cond b (x ∷ beyond xs ys) (beyond xs (drop_one row_cmp x ys))) ≤ f x + weigh f xs) [
      | true ↦ omega (arith, weigh-beyond-le f xs ys)
      | false ↦ omega (arith, weigh-beyond-le f xs (drop_one row_cmp x ys))
    ]
