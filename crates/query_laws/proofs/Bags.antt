-- Bags that are made row by row from others.
use Rattle.std.proofs.Common.{◌≡◌, ℕ, ◌<◌, Bool, true, false, cond, List, [], ◌∷◌, Option, Some, None, refl, sym, ap, ◌∙◌, option_map, arith, unwrap_or}
use Rattle.std.specs.List.{AllByRecursion}
use Rattle.std.specs.declared.cmp.Ordering.{Ordering}
use Rattle.std.specs.Cmp.{IsTotalOrder}
use Rattle.std.specs.FinMap.{IsAntisymmetric}
use Rattle.ct_value.specs.Bag.{Bag, items, none, add}
use Rattle.rel_algebra.specs.Sums.{one, together, plus, add_where, restrict, Each, mapped, sum_over}
use Rattle.rel_algebra.proofs.laws.Bags.{by_items, by_each, each-none, each-add, plus-one, plus_parts, together-one, restrict-none, restrict-add, mapped-none, mapped-add, sum_over-none, sum_over-add, copies-restrict, each-copies, copies-each}

-- a fact of each item that follows from another
pub each_map : {A : Type 0} {R : A → A → Ordering} (P Q : A → Type 0) → ((x : A) → P x → Q x) → (b : Bag R) → Each P b → Each Q b
each_map {A} P Q m b h = go (items b) h
  where
    go : (xs : List A) → AllByRecursion P xs → AllByRecursion Q xs
    go [] h = tt
    go (x ∷ xs) h = (m x h.0, go xs h.1)

pub each_both : {A : Type 0} {R : A → A → Ordering} (P Q : A → Type 0) (b : Bag R) → Each P b → Each Q b → Each (λ x. P x × Q x) b
each_both {A} P Q b h k = go (items b) h k
  where
    go : (xs : List A) → AllByRecursion P xs → AllByRecursion Q xs → AllByRecursion (λ x. P x × Q x) xs
    go [] h k = tt
    go (x ∷ xs) h k = ((h.0, k.0), go xs h.1 k.1)

pub each_any : {A : Type 0} {R : A → A → Ordering} (P : A → Type 0) → ((x : A) → P x) → (b : Bag R) → Each P b
each_any {A} P h b = go (items b)
  where
    go : (xs : List A) → AllByRecursion P xs
    go [] = tt
    go (x ∷ xs) = (h x, go xs)

module _ {A : Type 0} {R : A → A → Ordering} (o : IsTotalOrder R) (exact : IsAntisymmetric R) where
  -- tests that agree on the items
  pub restrict_same : (s t : A → Bool) (b : Bag R) → Each (λ x. s x ≡ t x) b → restrict s b ≡ restrict t b
  restrict_same s t b h = by_each o exact (λ x. s x ≡ t x) (λ b. restrict s b ≡ restrict t b)
      (restrict-none o exact s ∙ sym (restrict-none o exact t))
      (λ b x e k. restrict-add o exact s b x ∙ (λ i. add_where (e i) x (k i)) ∙ sym (restrict-add o exact t b x))
      b h

  pub each_restrict : (P : A → Type 0) (t : A → Bool) (b : Bag R) → Each P b → Each P (restrict t b)
  each_restrict P t b h = copies-each o exact P (restrict t b) (λ x some. each-copies o exact P b h x (less (t x) _ _ (copies-restrict o exact t b x) some))
    where
      less : (s : Bool) (n m : ℕ) → m ≡ cond s n 0 → 0 < m → 0 < n
      less true n m e some = omega arith
      less false n m e some = absurd (omega arith)

  module _ {B : Type 0} {S : B → B → Ordering} (p : IsTotalOrder S) (exactS : IsAntisymmetric S) where
    -- functions that agree on the items
    pub mapped_same : (f g : A → B) (b : Bag R) → Each (λ x. f x ≡ g x) b → mapped {S = S} f b ≡ mapped g b
    mapped_same f g b h = by_each o exact (λ x. f x ≡ g x) (λ b. mapped {S = S} f b ≡ mapped g b)
        (mapped-none p exactS R f ∙ sym (mapped-none p exactS R g))
        (λ b x e k. mapped-add p exactS o exact f b x ∙ (λ i. add (k i) (e i)) ∙ sym (mapped-add p exactS o exact g b x))
        b h

    -- those of the images that pass are the images of those whose images pass
    pub restrict_mapped : (t : B → Bool) (f : A → B) (b : Bag R) → restrict t (mapped {S = S} f b) ≡ mapped f (restrict (λ x. t (f x)) b)
    restrict_mapped t f b = by_items o exact (λ b. restrict t (mapped {S = S} f b) ≡ mapped f (restrict (λ x. t (f x)) b))
        (ap (restrict t) (mapped-none p exactS R f) ∙ restrict-none p exactS t ∙ sym (ap (mapped f) (restrict-none o exact (λ x. t (f x))) ∙ mapped-none p exactS R f))
        (λ b x k.
        ap (restrict t) (mapped-add p exactS o exact f b x) ∙ restrict-add p exactS t (mapped f b) (f x) ∙ ap (add_where (t (f x)) (f x)) k
        ∙ moved (t (f x)) x (restrict (λ x. t (f x)) b) ∙ sym (ap (mapped f) (restrict-add o exact (λ x. t (f x)) b x)))
        b
      where
        moved : (s : Bool) (x : A) (c : Bag R) → add_where s (f x) (mapped {S = S} f c) ≡ mapped f (add_where s x c)
        moved true x c = sym (mapped-add p exactS o exact f c x)
        moved false x c = refl

    -- what is made one by one and is never out of range
    pub made_one : (f : A → Option B) (d : B) (b : Bag R) (c : Bag S) → sum_over (λ x. option_map (one {R = S}) (f x)) b ≡ Some c
        → (c ≡ mapped (λ x. unwrap_or (f x) d) b) × Each (λ x. f x ≡ Some (unwrap_or (f x) d)) b
    made_one f d b = by_items o exact (λ b. (c : Bag S) → sum_over (λ x. option_map (one {R = S}) (f x)) b ≡ Some c → (c ≡ mapped (λ x. unwrap_or (f x) d) b) × Each (λ x. f x ≡ Some (unwrap_or (f x) d)) b)
        (λ c e. (let i : none ≡ c = let j = sum_over-none p exactS R (λ x. option_map (one {R = S}) (f x)) in cc in sym i ∙ sym (mapped-none p exactS R (λ x. unwrap_or (f x) d)), each-none o exact _))
        (λ b x k c e. more b x k c (f x) refl (sym (sum_over-add p exactS o exact (λ x. option_map (one {R = S}) (f x)) b x) ∙ e))
        b
      where
        more : (b : Bag R) (x : A) → ((c : Bag S) → sum_over (λ x. option_map (one {R = S}) (f x)) b ≡ Some c → (c ≡ mapped (λ x. unwrap_or (f x) d) b) × Each (λ x. f x ≡ Some (unwrap_or (f x) d)) b)
            → (c : Bag S) (y : Option B) → f x ≡ y → plus (option_map (one {R = S}) (f x)) (sum_over (λ x. option_map (one {R = S}) (f x)) b) ≡ Some c
            → (c ≡ mapped (λ x. unwrap_or (f x) d) (add b x)) × Each (λ x. f x ≡ Some (unwrap_or (f x) d)) (add b x)
        more b x k c None i e = absurd (let j : plus (option_map (one {R = S}) None) (sum_over (λ x. option_map (one {R = S}) (f x)) b) ≡ Some c = ap (λ z. plus (option_map (one {R = S}) z) (sum_over (λ x. option_map (one {R = S}) (f x)) b)) (sym i) ∙ e in let l : None ≡ Some c = j in cc)
        more b x k c (Some y) i e =
            let q = plus_parts p exactS (option_map (one {R = S}) (f x)) (sum_over (λ x. option_map (one {R = S}) (f x)) b) c e in
            let h = k q.1 q.2.1 in
            let y_is : y ≡ unwrap_or (f x) d = sym (ap (λ z. unwrap_or z d) i) in
            let d_is : q.0 ≡ one y = let j : Some (one y) ≡ Some q.0 = ap (option_map (one {R = S})) (sym i) ∙ q.2.0 in sym (let l : one y ≡ q.0 = cc in l) in (
              q.2.2 ∙ (λ j. together (d_is j) (h.0 j)) ∙ together-one p exactS (mapped (λ x. unwrap_or (f x) d) b) y ∙ ap (add (mapped (λ x. unwrap_or (f x) d) b)) y_is ∙ sym (mapped-add p exactS o exact (λ x. unwrap_or (f x) d) b x),
              each-add o exact (λ x. f x ≡ Some (unwrap_or (f x) d)) b x (i ∙ ap Some y_is) h.1,
            )

    -- and the other way round
    pub made_all : (f : A → Option B) (g : A → B) (b : Bag R) → Each (λ x. f x ≡ Some (g x)) b → sum_over (λ x. option_map (one {R = S}) (f x)) b ≡ Some (mapped g b)
    made_all f g b h = by_each o exact (λ x. f x ≡ Some (g x)) (λ b. sum_over (λ x. option_map (one {R = S}) (f x)) b ≡ Some (mapped g b))
        (sum_over-none p exactS R (λ x. option_map (one {R = S}) (f x)) ∙ ap Some (sym (mapped-none p exactS R g)))
        (λ b x e k.
        sum_over-add p exactS o exact (λ x. option_map (one {R = S}) (f x)) b x ∙ (λ i. plus (option_map (one {R = S}) (e i)) (k i))
        ∙ plus-one p exactS (mapped g b) (g x) ∙ ap Some (sym (mapped-add p exactS o exact g b x)))
        b h

    module _ {C : Type 0} {T : C → C → Ordering} (q : IsTotalOrder T) (exactT : IsAntisymmetric T) where
      pub mapped_mapped : (g : B → C) (f : A → B) (b : Bag R) → mapped {S = T} g (mapped {S = S} f b) ≡ mapped (λ x. g (f x)) b
      mapped_mapped g f b = by_items o exact (λ b. mapped {S = T} g (mapped {S = S} f b) ≡ mapped (λ x. g (f x)) b)
          (ap (mapped g) (mapped-none p exactS R f) ∙ mapped-none q exactT S g ∙ sym (mapped-none q exactT R (λ x. g (f x))))
          (λ b x k. ap (mapped g) (mapped-add p exactS o exact f b x) ∙ mapped-add q exactT p exactS g (mapped f b) (f x) ∙ ap (λ c. add c (g (f x))) k ∙ sym (mapped-add q exactT o exact (λ x. g (f x)) b x))
          b

      pub sum_over_mapped : (g : B → Option (Bag T)) (f : A → B) (b : Bag R) → sum_over g (mapped {S = S} f b) ≡ sum_over (λ x. g (f x)) b
      sum_over_mapped g f b = by_items o exact (λ b. sum_over g (mapped {S = S} f b) ≡ sum_over (λ x. g (f x)) b)
          (ap (sum_over g) (mapped-none p exactS R f) ∙ sum_over-none q exactT S g ∙ sym (sum_over-none q exactT R (λ x. g (f x))))
          (λ b x k. ap (sum_over g) (mapped-add p exactS o exact f b x) ∙ sum_over-add q exactT p exactS g (mapped f b) (f x) ∙ ap (plus (g (f x))) k ∙ sym (sum_over-add q exactT o exact (λ x. g (f x)) b x))
          b

  -- what is made of each item by nothing
  pub mapped_itself : (f : A → A) (b : Bag R) → Each (λ x. f x ≡ x) b → mapped {S = R} f b ≡ b
  mapped_itself f b h = by_each o exact (λ x. f x ≡ x) (λ b. mapped {S = R} f b ≡ b)
      (mapped-none o exact R f)
      (λ b x e k. mapped-add o exact o exact f b x ∙ (λ i. add (k i) (e i)))
      b h
