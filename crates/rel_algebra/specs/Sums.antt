-- Sums of bags, and what is made of a bag item by item. None stands for out of range.
use Rattle.std.specs.Prelude.{ℕ, ◌==◌, nat_lt, Bool, true, false, List, [], ◌∷◌, Option, Some, None}
use Rattle.std.specs.List.{AllByRecursion}
use Rattle.std.specs.declared.cmp.Ordering.{Ordering}
use Rattle.ct_value.specs.Bag.{Bag, items, none, add, copies}

-- item by item, the last one first
abbrev pub gather : {A S : Type 0} → (A → S → S) → S → List A → S
gather step s [] = s
gather step s (x ∷ xs) = step x (gather step s xs)

module _ {A : Type 0} {R : A → A → Ordering} where
  -- one copy of an item
  abbrev pub one : A → Bag R
  one x = add none x

  -- one copy where it is kept, and nothing where it isn't
  abbrev pub kept : Bool → A → Bag R
  kept true x = one x
  kept false x = none

  -- the items of both, each as often as in the two
  unfoldable pub together : Bag R → Bag R → Bag R
  together a b = gather (λ x c. add c x) b (items a)

  -- the same where neither is out of range
  abbrev pub plus : Option (Bag R) → Option (Bag R) → Option (Bag R)
  plus None b = None
  plus (Some a) None = None
  plus (Some a) (Some b) = Some (together a b)

  abbrev pub add_where : Bool → A → Bag R → Bag R
  add_where true x b = add b x
  add_where false x b = b

  -- the items that pass a test
  unfoldable pub restrict : (A → Bool) → Bag R → Bag R
  restrict test b = gather (λ x c. add_where (test x) x c) none (items b)

  -- each item once
  unfoldable pub distinct : Bag R → Bag R
  distinct b = gather (λ x c. add_where (copies c x == 0) x c) none (items b)

  -- at most so many copies of each item
  unfoldable pub thinned : (A → ℕ) → Bag R → Bag R
  thinned most b = gather (λ x c. add_where (nat_lt (copies c x) (most x)) x c) none (items b)

  -- a fact of each item
  abbrev pub Each : (A → Type 0) → Bag R → Type 0
  Each P b = AllByRecursion P (items b)

module _ {A B : Type 0} {R : A → A → Ordering} {S : B → B → Ordering} where
  -- what f makes of each item
  unfoldable pub mapped : (A → B) → Bag R → Bag S
  mapped f b = gather (λ x c. add c (f x)) none (items b)

  -- the bags that f makes of the items, all together; out of range where one of them is
  unfoldable pub sum_over : (A → Option (Bag S)) → Bag R → Option (Bag S)
  sum_over f b = gather (λ x s. plus (f x) s) (Some none) (items b)
