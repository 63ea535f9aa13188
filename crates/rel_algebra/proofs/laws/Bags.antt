-- Laws of sums of bags: what is made item by item, by steps that may be taken in any order, is made of a sum of bags part by part.
use Rattle.std.proofs.Common.{◌≡◌, ℕ, zero, suc, ◌+◌, ◌<◌, ◌==◌, Bool, true, false, cond, not, List, [], ◌∷◌, Option, Some, None, refl, sym, ap, ◌∙◌, subst, arith}
use Rattle.std.specs.Prelude.{◌&&◌, is_some}
use Rattle.std.specs.List.{AllByRecursion, list_all}
use Rattle.std.proofs.lemmas.Bool.{eqb-true}
use Rattle.std.specs.Ordering.{is_gt, eq_by_cmp}
use Rattle.std.specs.declared.cmp.Ordering.{Ordering}
use Rattle.std.specs.Cmp.{IsTotalOrder, Equal-is}
use Rattle.std.specs.FinMap.{IsAntisymmetric}
use Rattle.ct_value.specs.Bag.{Bag, items, none, add, put, bag_of, copies, occurs, total, weigh, one_at}
use Rattle.ct_value.proofs.laws.Bags.{items-none, items-add, add-add, copies-none, copies-add, copies-bag_of, copies-occurs, same_bag, total-none, total-add, one_at_itself}
use Rattle.rel_algebra.specs.Sums.{gather, one, together, plus, add_where, restrict, distinct, Each, mapped, sum_over}

-- ---- steps that may be taken in any order

abbrev pub Commutes : {A S : Type 0} → (A → S → S) → Type 0
Commutes {A} {S} step = (x y : A) (s : S) → step x (step y s) ≡ step y (step x s)

gather-put : {A S : Type 0} (R : A → A → Ordering) (step : A → S → S) (s : S) → Commutes step → (x : A) (xs : List A) → gather step s (put R x xs) ≡ step x (gather step s xs)
gather-put R step s c x [] = refl
gather-put R step s c x (y ∷ ys) =
    elim (is_gt (R x y)) as (λ b. gather step s (cond b (y ∷ put R x ys) (x ∷ y ∷ ys)) ≡ step x (step y (gather step s ys))) [
      | true ↦ ap (step y) (gather-put R step s c x ys) ∙ c y x (gather step s ys)
      | false ↦ refl
    ]

module _ {A : Type 0} {R : A → A → Ordering} (o : IsTotalOrder R) (exact : IsAntisymmetric R) where
  pub gather-add : {S : Type 0} (step : A → S → S) (s : S) → Commutes step → (b : Bag R) (x : A) → gather step s (items (add b x)) ≡ step x (gather step s (items b))
  gather-add step s c b x = ap (gather step s) (items-add o b x) ∙ gather-put R step s c x (items b)

  add_commutes : Commutes (λ x (c : Bag R). add c x)
  add_commutes x y c = add-add o exact c y x

  -- a bag is that of its items
  pub bag_of-items : (b : Bag R) → bag_of (items b) ≡ b
  bag_of-items b = same_bag o exact _ _ (λ x. copies-bag_of o (items b) x ∙ sym (copies-occurs b x))

  -- what holds of no items, and of one item more where it holds without it, holds of every bag
  pub by_items : (P : Bag R → Type 0) → P none → ((b : Bag R) (x : A) → P b → P (add b x)) → (b : Bag R) → P b
  by_items P start more b = subst P (bag_of-items b) (go (items b))
    where
      go : (xs : List A) → P (bag_of xs)
      go [] = start
      go (x ∷ xs) = more (bag_of xs) x (go xs)

  -- ---- together

  pub together-none : (b : Bag R) → together none b ≡ b
  unfolding together
  together-none b = ap (gather (λ x c. add c x) b) (items-none R)

  pub together-add : (a b : Bag R) (x : A) → together (add a x) b ≡ add (together a b) x
  unfolding together
  together-add a b x = gather-add (λ x c. add c x) b add_commutes a x

  pub total-together : (f : A → ℕ) (a b : Bag R) → total f (together a b) ≡ total f a + total f b
  total-together f a b = by_items (λ a. total f (together a b) ≡ total f a + total f b)
      (ap (total f) (together-none b) ∙ let e = total-none o f in omega arith)
      (λ a x h. ap (total f) (together-add a b x) ∙ omega (arith, total-add o f (together a b) x, total-add o f a x))
      a

  pub copies-together : (a b : Bag R) (x : A) → copies (together a b) x ≡ copies a x + copies b x
  copies-together a b x = omega (arith, copies-occurs (together a b) x, copies-occurs a x, copies-occurs b x, total-together (one_at R x) a b)

  pub copies-one : (x y : A) → copies {R = R} (one x) y ≡ one_at R y x
  copies-one x y = omega (arith, copies-add o (none {R = R}) x y, copies-none o y)

  pub total-one : (f : A → ℕ) (x : A) → total {R = R} f (one x) ≡ f x
  total-one f x = omega (arith, total-add o f (none {R = R}) x, total-none {R = R} o f)

  pub together-comm : (a b : Bag R) → together a b ≡ together b a
  together-comm a b = same_bag o exact _ _ (λ x. omega (arith, copies-together a b x, copies-together b a x))

  pub together-assoc : (a b c : Bag R) → together (together a b) c ≡ together a (together b c)
  together-assoc a b c = same_bag o exact _ _ (λ x. omega (arith, copies-together (together a b) c x, copies-together a b x, copies-together a (together b c) x, copies-together b c x))

  pub together-one : (b : Bag R) (x : A) → together (one x) b ≡ add b x
  together-one b x = together-add none b x ∙ ap (λ c. add c x) (together-none b)

  pub plus-none : (b : Option (Bag R)) → plus (Some none) b ≡ b
  plus-none None = refl
  plus-none (Some b) = ap Some (together-none b)

  pub plus-comm : (a b : Option (Bag R)) → plus a b ≡ plus b a
  plus-comm None None = refl
  plus-comm None (Some b) = refl
  plus-comm (Some a) None = refl
  plus-comm (Some a) (Some b) = ap Some (together-comm a b)

  pub plus-assoc : (a b c : Option (Bag R)) → plus (plus a b) c ≡ plus a (plus b c)
  plus-assoc None b c = refl
  plus-assoc (Some a) None c = refl
  plus-assoc (Some a) (Some b) None = refl
  plus-assoc (Some a) (Some b) (Some c) = ap Some (together-assoc a b c)

  pub plus-out : (a : Option (Bag R)) → plus a None ≡ None
  plus-out None = refl
  plus-out (Some a) = refl

  pub plus-none-right : (b : Option (Bag R)) → plus b (Some none) ≡ b
  plus-none-right b = plus-comm b (Some none) ∙ plus-none b

  plus_turned : (a b c : Option (Bag R)) → plus a (plus b c) ≡ plus b (plus a c)
  plus_turned a b c = sym (plus-assoc a b c) ∙ ap (λ d. plus d c) (plus-comm a b) ∙ plus-assoc b a c

  pub plus-plus : (a b c d : Option (Bag R)) → plus (plus a b) (plus c d) ≡ plus (plus a c) (plus b d)
  plus-plus a b c d = plus-assoc a b (plus c d) ∙ ap (plus a) (plus_turned b c d) ∙ sym (plus-assoc a c (plus b d))

  pub plus-one : (b : Bag R) (x : A) → plus (Some (one x)) (Some b) ≡ Some (add b x)
  plus-one b x = ap Some (together-one b x)

  -- ---- the items that pass a test

  where_commutes : (s t : Bool) (x y : A) (c : Bag R) → add_where s x (add_where t y c) ≡ add_where t y (add_where s x c)
  where_commutes true true x y c = add-add o exact c y x
  where_commutes true false x y c = refl
  where_commutes false true x y c = refl
  where_commutes false false x y c = refl

  pub restrict-none : (test : A → Bool) → restrict {R = R} test none ≡ none
  unfolding restrict
  restrict-none test = ap (gather (λ x c. add_where (test x) x c) none) (items-none R)

  pub restrict-add : (test : A → Bool) (b : Bag R) (x : A) → restrict test (add b x) ≡ add_where (test x) x (restrict test b)
  unfolding restrict
  restrict-add test b x = gather-add (λ x c. add_where (test x) x c) none (λ x y c. where_commutes (test x) (test y) x y c) b x

  total-add_where : (f : A → ℕ) (t : Bool) (x : A) (b : Bag R) → total f (add_where t x b) ≡ cond t (f x) 0 + total f b
  total-add_where f true x b = total-add o f b x
  total-add_where f false x b = omega arith

  pub total-restrict : (f : A → ℕ) (test : A → Bool) (b : Bag R) → total f (restrict test b) ≡ total (λ x. cond (test x) (f x) 0) b
  total-restrict f test b = by_items (λ b. total f (restrict test b) ≡ total (λ x. cond (test x) (f x) 0) b)
      (ap (total f) (restrict-none test) ∙ total-none o f ∙ sym (total-none o (λ x. cond (test x) (f x) 0)))
      (λ b x h. ap (total f) (restrict-add test b x) ∙ total-add_where f (test x) x (restrict test b) ∙ ap (λ n. cond (test x) (f x) 0 + n) h ∙ sym (total-add o (λ x. cond (test x) (f x) 0) b x))
      b

  at_test : (test : A → Bool) (x y : A) → cond (test y) (one_at R x y) 0 ≡ cond (test x) (one_at R x y) 0
  at_test test x y =
      elim (eq_by_cmp R x y) as (λ b. eq_by_cmp R x y ≡ b → ◌≡◌ {A = ℕ} (cond (test y) (cond b 1 0) 0) (cond (test x) (cond b 1 0) 0)) [
        | true ↦ λ e. ap (λ z. cond {A = ℕ} (test z) 1 0) (sym (exact x y ((Equal-is (R x y)).0 e)))
        | false ↦ λ e. both_zero (test y) ∙ sym (both_zero (test x))
      ] refl
    where
      both_zero : (b : Bool) → cond {A = ℕ} b 0 0 ≡ 0
      both_zero true = refl
      both_zero false = refl

  pub copies-restrict : (test : A → Bool) (b : Bag R) (x : A) → copies (restrict test b) x ≡ cond (test x) (copies b x) 0
  copies-restrict test b x =
      copies-occurs (restrict test b) x ∙ total-restrict (one_at R x) test b ∙ ap (λ f. total f b) (λ i y. at_test test x y i)
      ∙ out (test x) ∙ ap (λ n. cond (test x) n 0) (sym (copies-occurs b x))
    where
      out : (t : Bool) → total (λ y. cond t (one_at R x y) 0) b ≡ cond t (total (one_at R x) b) 0
      out true = refl
      out false = by_items (λ b. total (λ y. 0) b ≡ 0) (total-none o (λ y. 0)) (λ b y h. omega (arith, total-add o (λ y. 0) b y)) b

  pub restrict-together : (test : A → Bool) (a b : Bag R) → restrict test (together a b) ≡ together (restrict test a) (restrict test b)
  restrict-together test a b = same_bag o exact _ _ (λ x.
      copies-restrict test (together a b) x ∙ ap (λ n. cond (test x) n 0) (copies-together a b x) ∙ split (test x) (copies a x) (copies b x)
      ∙ sym (copies-together (restrict test a) (restrict test b) x ∙ let p = copies-restrict test a x in let q = copies-restrict test b x in cc))
    where
      split : (t : Bool) (m n : ℕ) → cond t (m + n) 0 ≡ cond t m 0 + cond t n 0
      split true m n = refl
      split false m n = refl

  -- the items that pass a test, and those that don't, are all
  pub restrict-both : (test : A → Bool) (b : Bag R) → together (restrict test b) (restrict (λ x. not (test x)) b) ≡ b
  restrict-both test b = same_bag o exact _ _ (λ x.
      copies-together (restrict test b) (restrict (λ x. not (test x)) b) x
      ∙ let p = copies-restrict test b x in let q = copies-restrict (λ x. not (test x)) b x in joined (test x) (copies b x) _ _ p q)
    where
      joined : (t : Bool) (n p q : ℕ) → p ≡ cond t n 0 → q ≡ cond (not t) n 0 → p + q ≡ n
      joined true n p q e f = omega arith
      joined false n p q e f = omega arith

  -- ---- each item once

  copies-add_where : (t : Bool) (x y : A) (b : Bag R) → copies (add_where t x b) y ≡ cond t (one_at R y x) 0 + copies b y
  copies-add_where true x y b = copies-add o b x y
  copies-add_where false x y b = omega arith

  -- how often an item is in what takes each item of a list once
  pub distinct_from : (xs : List A) (y : A) → copies (gather (λ x c. add_where (copies c x == 0) x c) (none {R = R}) xs) y ≡ cond (occurs R y xs == 0) 0 1
  distinct_from [] y = copies-none o y
  distinct_from (x ∷ xs) y =
      let rest : Bag R = gather (λ x c. add_where (copies c x == 0) x c) none xs in
      copies-add_where (copies rest x == 0) x y rest ∙ go rest (distinct_from xs x) (distinct_from xs y)
    where
      once : (n : ℕ) (c : ℕ) → c ≡ cond (n == 0) 0 1 → cond (c == 0) 1 0 + c ≡ 1
      once n c e = elim (n == 0) as (λ b. c ≡ cond b 0 1 → cond (c == 0) 1 0 + c ≡ 1) [ true ↦ λ f. rw f refl | false ↦ λ f. rw f refl ] e

      some_test : (n : ℕ) → (1 + n == 0) ≡ false
      some_test n = elim (1 + n == 0) as (λ b. (1 + n == 0) ≡ b → b ≡ false) [ true ↦ λ e. absurd (let z = eqb-true (1 + n) 0 e in omega arith) | false ↦ λ e. refl ] refl

      apart : (b : Bool) (n : ℕ) → cond {A = ℕ} b 0 0 + n ≡ n
      apart true n = omega arith
      apart false n = omega arith

      go : (rest : Bag R) → copies rest x ≡ cond (occurs R x xs == 0) 0 1 → copies rest y ≡ cond (occurs R y xs == 0) 0 1
          → cond (copies rest x == 0) (one_at R y x) 0 + copies rest y ≡ cond (one_at R y x + occurs R y xs == 0) 0 1
      go rest p q =
          elim (eq_by_cmp R y x) as (λ b. eq_by_cmp R y x ≡ b → cond (copies rest x == 0) (cond b 1 0) 0 + copies rest y ≡ cond (cond b 1 0 + occurs R y xs == 0) 0 1) [
            | true ↦ λ e.
                let same : y ≡ x = exact y x ((Equal-is (R y x)).0 e) in
                let f : copies rest y ≡ copies rest x = ap (copies rest) same in
                ap (λ n. cond (copies rest x == 0) 1 0 + n) f ∙ once (occurs R x xs) (copies rest x) p ∙ sym (ap (λ b. cond b 0 1) (some_test (occurs R y xs)))
            | false ↦ λ e. apart (copies rest x == 0) (copies rest y) ∙ q ∙ ap (λ n. cond (n == 0) 0 1) (let g : occurs R y xs ≡ 0 + occurs R y xs = omega arith in g)
          ] refl

  pub copies-distinct : (b : Bag R) (x : A) → copies (distinct b) x ≡ cond (copies b x == 0) 0 1
  unfolding distinct
  copies-distinct b x = distinct_from (items b) x ∙ ap (λ n. cond (n == 0) 0 1) (sym (copies-occurs b x))

  pub distinct-none : distinct {R = R} none ≡ none
  distinct-none = same_bag o exact _ _ (λ x. copies-distinct none x ∙ let e = copies-none {R = R} o x in rw e refl)

  -- ---- a fact of each item

  each_put : (P : A → Type 0) (x : A) (xs : List A) → P x → AllByRecursion P xs → AllByRecursion P (put R x xs)
  each_put P x [] p h = (p, tt)
  each_put P x (y ∷ ys) p h = elim (is_gt (R x y)) as (λ b. AllByRecursion P (cond b (y ∷ put R x ys) (x ∷ y ∷ ys))) [ true ↦ (h.0, each_put P x ys p h.1) | false ↦ (p, h) ]

  pub each-none : (P : A → Type 0) → Each {R = R} P none
  each-none P = subst (λ xs. AllByRecursion P xs) (sym (items-none R)) tt

  pub each-add : (P : A → Type 0) (b : Bag R) (x : A) → P x → Each P b → Each P (add b x)
  each-add P b x p h = subst (λ (xs : List A). AllByRecursion P xs) (sym (items-add o b x)) (each_put P x (items b) p h)

  -- what holds of each item holds of what has a copy, and the other way round
  at_occurs : (P : A → Type 0) (xs : List A) → AllByRecursion P xs → (x : A) → 0 < occurs R x xs → P x
  at_occurs P [] h x some = absurd (omega arith)
  at_occurs P (y ∷ ys) h x some =
      elim (eq_by_cmp R x y) as (λ b. eq_by_cmp R x y ≡ b → 0 < cond b 1 0 + occurs R x ys → P x) [
        | true ↦ λ e s. subst P (sym (exact x y ((Equal-is (R x y)).0 e))) h.0
        | false ↦ λ e s. at_occurs P ys h.1 x (omega arith)
      ] refl some

  of_occurs : (P : A → Type 0) (xs : List A) → ((x : A) → 0 < occurs R x xs → P x) → AllByRecursion P xs
  of_occurs P [] h = tt
  of_occurs P (y ∷ ys) h = (h y (let e = one_at_itself R o y in omega arith), of_occurs P ys (λ x some. h x (omega arith)))

  pub each-copies : (P : A → Type 0) (b : Bag R) → Each P b → (x : A) → 0 < copies b x → P x
  each-copies P b h x some = at_occurs P (items b) h x (let e = copies-occurs b x in omega arith)

  pub copies-each : (P : A → Type 0) (b : Bag R) → ((x : A) → 0 < copies b x → P x) → Each P b
  copies-each P b h = of_occurs P (items b) (λ x some. h x (let e = copies-occurs b x in omega arith))

  pub each-together : (P : A → Type 0) (a b : Bag R) → Each P a → Each P b → Each P (together a b)
  each-together P a b h k = copies-each P (together a b) (λ x some. which x (copies a x) refl some)
    where
      which : (x : A) (n : ℕ) → copies a x ≡ n → 0 < copies (together a b) x → P x
      which x zero e some = each-copies P b k x (let s = copies-together a b x in omega arith)
      which x (suc n) e some = each-copies P a h x (omega arith)

  pub each-restrict : (P : A → Type 0) (test : A → Bool) (b : Bag R) → Each P b → Each (λ x. P x × (test x ≡ true)) (restrict test b)
  each-restrict P test b h = copies-each _ (restrict test b) (λ x some. (each-copies P b h x (let e = copies-restrict test b x in first (test x) (copies b x) _ e some), passed (test x) (copies b x) _ (copies-restrict test b x) some))
    where
      first : (t : Bool) (n m : ℕ) → m ≡ cond t n 0 → 0 < m → 0 < n
      first true n m e s = omega arith
      first false n m e s = absurd (omega arith)

      passed : (t : Bool) (n m : ℕ) → m ≡ cond t n 0 → 0 < m → t ≡ true
      passed true n m e s = refl
      passed false n m e s = absurd (omega arith)

  pub each-distinct : (P : A → Type 0) (b : Bag R) → Each P b → Each P (distinct b)
  each-distinct P b h = copies-each P (distinct b) (λ x some. each-copies P b h x (which (copies b x) (copies-distinct b x) some))
    where
      which : {m : ℕ} (n : ℕ) → m ≡ cond (n == 0) 0 1 → 0 < m → 0 < n
      which zero e s = absurd (omega arith)
      which (suc n) e s = omega arith

  pub each-bag_of : (P : A → Type 0) (xs : List A) → AllByRecursion P xs → Each {R = R} P (bag_of xs)
  each-bag_of P [] h = each-none P
  each-bag_of P (x ∷ xs) h = each-add P (bag_of xs) x h.0 (each-bag_of P xs h.1)

  -- what holds of no items, and of one item more that has the fact, holds of every bag whose items have it
  pub by_each : (Q : A → Type 0) (P : Bag R → Type 0) → P none → ((b : Bag R) (x : A) → Q x → P b → P (add b x)) → (b : Bag R) → Each Q b → P b
  by_each Q P start more b h = subst P (bag_of-items b) (go (items b) h)
    where
      go : (xs : List A) → AllByRecursion Q xs → P (bag_of xs)
      go [] h = start
      go (x ∷ xs) h = more (bag_of xs) x h.0 (go xs h.1)

module _ {A : Type 0} {R : A → A → Ordering} (o : IsTotalOrder R) where
  -- where something weighs, an item does
  some_at : (w : A → ℕ) (xs : List A) → 0 < weigh w xs → (x : A) × (0 < occurs R x xs) × (0 < w x)
  some_at w [] some = absurd (omega arith)
  some_at w (x ∷ xs) some = go (w x) refl (λ h. some_at w xs h)
    where
      go : (n : ℕ) → w x ≡ n → (0 < weigh w xs → (y : A) × (0 < occurs R y xs) × (0 < w y)) → (y : A) × (0 < occurs R y (x ∷ xs)) × (0 < w y)
      go zero e ih = let q = ih (omega arith) in (q.0, (let h : 0 < occurs R q.0 xs = q.1 in omega arith), q.2)
      go (suc n) e ih = (x, (let h = one_at_itself R o x in omega arith), omega arith)

  pub some_weighs : (w : A → ℕ) (b : Bag R) → 0 < total w b → (x : A) × (0 < copies b x) × (0 < w x)
  some_weighs w b some = let q = some_at w (items b) some in (q.0, (let h : 0 < occurs R q.0 (items b) = q.1 in let e = copies-occurs b q.0 in omega arith), q.2)

-- items that weigh alike
pub total-same : {A : Type 0} {R : A → A → Ordering} (f g : A → ℕ) (b : Bag R) → Each (λ x. f x ≡ g x) b → total f b ≡ total g b
total-same {A} f g b h = go (items b) h
  where
    go : (xs : List A) → AllByRecursion (λ x. f x ≡ g x) xs → weigh f xs ≡ weigh g xs
    go [] h = refl
    go (x ∷ xs) h = let e : f x ≡ g x = h.0 in let i = go xs h.1 in omega arith

-- where nothing weighs, no item does
pub nothing_weighs : {A : Type 0} {R : A → A → Ordering} (w : A → ℕ) (b : Bag R) → total w b ≡ 0 → Each (λ x. w x ≡ 0) b
nothing_weighs {A} w b e = go (items b) e
  where
    go : (xs : List A) → weigh w xs ≡ 0 → AllByRecursion (λ x. w x ≡ 0) xs
    go [] e = tt
    go (x ∷ xs) e = (omega arith, go xs (omega arith))

module _ {B : Type 0} {S : B → B → Ordering} (p : IsTotalOrder S) (exactS : IsAntisymmetric S) where
  -- two sums of which neither is out of range
  pub plus_parts : (a b : Option (Bag S)) (c : Bag S) → plus a b ≡ Some c → (d e : Bag S) × ((a ≡ Some d) × (b ≡ Some e) × (c ≡ together d e))
  plus_parts None b c e = absurd (cc)
  plus_parts (Some a) None c e = absurd (cc)
  plus_parts (Some a) (Some b) c e = (a, b, (refl, refl, cc))

  plus_commutes : {A : Type 0} (f : A → Option (Bag S)) → Commutes (λ x s. plus (f x) s)
  plus_commutes f x y s = plus_turned p exactS (f x) (f y) s

  add_mapped_commutes : {A : Type 0} (f : A → B) → Commutes (λ x (c : Bag S). add c (f x))
  add_mapped_commutes f x y c = add-add p exactS c (f y) (f x)

  pub mapped-none : {A : Type 0} (R : A → A → Ordering) (f : A → B) → mapped {R = R} {S = S} f none ≡ none
  unfolding mapped
  mapped-none R f = ap (gather (λ x c. add c (f x)) none) (items-none R)

  pub sum_over-none : {A : Type 0} (R : A → A → Ordering) (f : A → Option (Bag S)) → sum_over {R = R} f none ≡ Some none
  unfolding sum_over
  sum_over-none R f = ap (gather (λ x s. plus (f x) s) (Some none)) (items-none R)

  module _ {A : Type 0} {R : A → A → Ordering} (o : IsTotalOrder R) (exact : IsAntisymmetric R) where
    -- ---- what f makes of each item

    pub mapped-add : (f : A → B) (b : Bag R) (x : A) → mapped {S = S} f (add b x) ≡ add (mapped f b) (f x)
    unfolding mapped
    mapped-add f b x = gather-add o exact (λ x c. add c (f x)) none (add_mapped_commutes f) b x

    pub total-mapped : (w : B → ℕ) (f : A → B) (b : Bag R) → total w (mapped {S = S} f b) ≡ total (λ x. w (f x)) b
    total-mapped w f b = by_items o exact (λ b. total w (mapped {S = S} f b) ≡ total (λ x. w (f x)) b)
        (ap (total w) (mapped-none R f) ∙ total-none p w ∙ sym (total-none o (λ x. w (f x))))
        (λ b x h. ap (total w) (mapped-add f b x) ∙ omega (arith, total-add p w (mapped {S = S} f b) (f x), total-add o (λ x. w (f x)) b x))
        b

    pub mapped-together : (f : A → B) (a b : Bag R) → mapped {S = S} f (together a b) ≡ together (mapped f a) (mapped f b)
    mapped-together f a b = same_bag p exactS _ _ (λ y.
        copies-occurs (mapped f (together a b)) y ∙ total-mapped (one_at S y) f (together a b) ∙ total-together o exact (λ x. one_at S y (f x)) a b
        ∙ sym (omega (arith, copies-together p exactS (mapped f a) (mapped f b) y, copies-occurs (mapped {S = S} f a) y, copies-occurs (mapped {S = S} f b) y, total-mapped (one_at S y) f a, total-mapped (one_at S y) f b)))

    pub each-mapped : (P : A → Type 0) (Q : B → Type 0) (f : A → B) → ((x : A) → P x → Q (f x)) → (b : Bag R) → Each P b → Each Q (mapped {S = S} f b)
    each-mapped P Q f m b h = by_each o exact P (λ b. Each Q (mapped {S = S} f b))
        (subst (λ c. Each Q c) (sym (mapped-none R f)) (each-none p exactS Q))
        (λ b x k l. subst (λ c. Each Q c) (sym (mapped-add f b x)) (each-add p exactS Q (mapped f b) (f x) (m x k) l))
        b h

    -- ---- what f makes of the items, all together

    pub sum_over-add : (f : A → Option (Bag S)) (b : Bag R) (x : A) → sum_over f (add b x) ≡ plus (f x) (sum_over f b)
    unfolding sum_over
    sum_over-add f b x = gather-add o exact (λ x s. plus (f x) s) (Some none) (plus_commutes f) b x

    pub sum_over-one : (f : A → Option (Bag S)) (x : A) → sum_over {R = R} f (one x) ≡ f x
    sum_over-one f x = sum_over-add f none x ∙ ap (plus (f x)) (sum_over-none R f) ∙ plus-none-right p exactS (f x)

    -- of a sum of bags it is the sum
    pub sum_over-together : (f : A → Option (Bag S)) (a b : Bag R) → sum_over f (together a b) ≡ plus (sum_over f a) (sum_over f b)
    sum_over-together f a b = by_items o exact (λ a. sum_over f (together a b) ≡ plus (sum_over f a) (sum_over f b))
        (ap (sum_over f) (together-none o exact b) ∙ sym (ap (λ s. plus s (sum_over f b)) (sum_over-none R f) ∙ plus-none p exactS (sum_over f b)))
        (λ a x h. ap (sum_over f) (together-add o exact a b x) ∙ sum_over-add f (together a b) x ∙ ap (plus (f x)) h
        ∙ sym (ap (λ s. plus s (sum_over f b)) (sum_over-add f a x) ∙ plus-assoc p exactS (f x) (sum_over f a) (sum_over f b)))
        a

    -- of sums it is the sum
    pub sum_over-plus : (f g : A → Option (Bag S)) (b : Bag R) → sum_over (λ x. plus (f x) (g x)) b ≡ plus (sum_over f b) (sum_over g b)
    sum_over-plus f g b = by_items o exact (λ b. sum_over (λ x. plus (f x) (g x)) b ≡ plus (sum_over f b) (sum_over g b))
        (sum_over-none R (λ x. plus (f x) (g x)) ∙ sym (ap (λ s. plus s (sum_over {R = R} g none)) (sum_over-none R f) ∙ plus-none p exactS (sum_over {R = R} g none) ∙ sum_over-none R g))
        (λ b x h. sum_over-add (λ x. plus (f x) (g x)) b x ∙ ap (plus (plus (f x) (g x))) h ∙ plus-plus p exactS (f x) (g x) (sum_over f b) (sum_over g b)
        ∙ sym (ap (λ s. plus s (sum_over g (add b x))) (sum_over-add f b x) ∙ ap (plus (plus (f x) (sum_over f b))) (sum_over-add g b x)))
        b

    pub sum_over-nothing : (b : Bag R) → sum_over {S = S} (λ x. Some none) b ≡ Some none
    sum_over-nothing b = by_items o exact (λ b. sum_over {S = S} (λ x. Some none) b ≡ Some none)
        (sum_over-none R (λ x. Some none))
        (λ b x h. sum_over-add (λ x. Some none) b x ∙ ap (plus (Some none)) h ∙ plus-none p exactS (Some none))
        b

    -- functions that agree on the items
    pub sum_over-same : (f g : A → Option (Bag S)) (b : Bag R) → Each (λ x. f x ≡ g x) b → sum_over f b ≡ sum_over g b
    sum_over-same f g b h = by_each o exact (λ x. f x ≡ g x) (λ b. sum_over f b ≡ sum_over g b)
        (sum_over-none R f ∙ sym (sum_over-none R g))
        (λ b x k l. sum_over-add f b x ∙ ap (λ s. plus s (sum_over f b)) k ∙ ap (plus (g x)) l ∙ sym (sum_over-add g b x))
        b h

    -- a weight of what is made
    abbrev pub weight : (B → ℕ) → Option (Bag S) → ℕ
    weight w None = 0
    weight w (Some c) = total w c

    pub total-sum_over : (w : B → ℕ) (f : A → Option (Bag S)) (b : Bag R) (c : Bag S) → sum_over f b ≡ Some c → total w c ≡ total (λ x. weight w (f x)) b
    total-sum_over w f b = by_items o exact (λ b. (c : Bag S) → sum_over f b ≡ Some c → total w c ≡ total (λ x. weight w (f x)) b)
        (λ c e. let i : none ≡ c = let j = sum_over-none R f in cc in ap (total w) (sym i) ∙ total-none p w ∙ sym (total-none o (λ x. weight w (f x))))
        (λ b x h c e.
        let q = plus_parts (f x) (sum_over f b) c (sym (sum_over-add f b x) ∙ e) in
        ap (total w) q.2.2 ∙ total-together p exactS w q.0 q.1 ∙ let i = h q.1 q.2.1 in let j : weight w (f x) ≡ total w q.0 = ap (weight w) q.2.0 in omega (arith, total-add o (λ x. weight w (f x)) b x))
        b

    -- what holds of all that is made
    pub each-sum_over : (P : A → Type 0) (Q : B → Type 0) (f : A → Option (Bag S)) → ((x : A) (c : Bag S) → P x → f x ≡ Some c → Each Q c) → (b : Bag R) → Each P b → (c : Bag S) → sum_over f b ≡ Some c → Each Q c
    each-sum_over P Q f m b h = by_each o exact P (λ b. (c : Bag S) → sum_over f b ≡ Some c → Each Q c)
        (λ c e. let i : none ≡ c = let j = sum_over-none R f in cc in subst (λ (d : Bag S). Each Q d) i (each-none p exactS Q))
        (λ b x k l c e.
        let q = plus_parts (f x) (sum_over f b) c (sym (sum_over-add f b x) ∙ e) in
        subst (λ (d : Bag S). Each Q d) (sym q.2.2) (each-together p exactS Q q.0 q.1 (m x q.0 k q.2.0) (l q.1 q.2.1)))
        b h

    -- it is out of range exactly where one of them is
    pub is_some-sum_over : (f : A → Option (Bag S)) (b : Bag R) → is_some (sum_over f b) ≡ list_all (λ x. is_some (f x)) (items b)
    unfolding sum_over
    is_some-sum_over f b = go (items b)
      where
        both : (a s : Option (Bag S)) → is_some (plus a s) ≡ (is_some a && is_some s)
        both None s = refl
        both (Some a) None = refl
        both (Some a) (Some c) = refl

        go : (xs : List A) → is_some (gather (λ x s. plus (f x) s) (Some none) xs) ≡ list_all (λ x. is_some (f x)) xs
        go [] = refl
        go (x ∷ xs) = both (f x) (gather (λ x s. plus (f x) s) (Some none) xs) ∙ ap (λ t. is_some (f x) && t) (go xs)

    pub sum_over-some : (f : A → Option (Bag S)) → ((x : A) → (c : Bag S) × (f x ≡ Some c)) → (b : Bag R) → (c : Bag S) × (sum_over f b ≡ Some c)
    sum_over-some f h b = by_items o exact (λ b. (c : Bag S) × (sum_over f b ≡ Some c))
        (none, sum_over-none R f)
        (λ b x k. (together (h x).0 k.0, sum_over-add f b x ∙ ap (λ s. plus s (sum_over f b)) (h x).1 ∙ ap (plus (Some (h x).0)) k.1))
        b
