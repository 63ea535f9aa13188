-- Walks go by the parts of a tree.
use Rattle.std.proofs.Common.{◌≡◌, ℕ, suc, ◌+◌, ◌<◌, Bool, true, false, ◌||◌, List, [], ◌∷◌, ◌++◌, refl, sym, ap, ◌∙◌, arith}
use Rattle.sql_syntax.specs.Tree as t
use Rattle.sql_syntax.specs.Tree.{Tree}
use Rattle.sql_syntax.specs.Walks as w
use Rattle.sql_syntax.specs.Walks.{args_parts, listed, optional_parts, or_below, over_parts, parts, product_parts, some_part, sort_parts, sum_parts, weight, when_parts}

module _ (A : Type 0) (none : A) (join : A → A → A) (node : Tree → A → A) where
  -- what these trees come to
  abbrev pub joined : List Tree → A
  joined [] = none
  joined (x ∷ xs) = join (w.of_tree A none join node x) (joined xs)

module _ (A : Type 0) (none : A) (join : A → A → A) (node : Tree → A → A) (left : (a : A) → join none a ≡ a) (right : (a : A) → join a none ≡ a) (assoc : (a b c : A) → join (join a b) c ≡ join a (join b c)) where
  both : (xs ys : List Tree) → joined A none join node (xs ++ ys) ≡ join (joined A none join node xs) (joined A none join node ys)
  both [] ys = sym (left (joined A none join node ys))
  both (x ∷ xs) ys =
      ap (join (w.of_tree A none join node x)) (both xs ys)
      ∙ sym (assoc (w.of_tree A none join node x) (joined A none join node xs) (joined A none join node ys))

  of_listed : (xs : t.Trees) → w.of_trees A none join node xs ≡ joined A none join node (listed xs)
  of_listed t.no_trees = refl
  of_listed (t.tree_and x xs) = ap (join (w.of_tree A none join node x)) (of_listed xs)

  of_sums : (xs : t.SumTails) → w.of_sums A none join node xs ≡ joined A none join node (sum_parts xs)
  of_sums t.no_sum_tails = refl
  of_sums (t.sum_tail_and (t.sum_tail_of word x) xs) = ap (join (w.of_tree A none join node x)) (of_sums xs)

  of_products : (xs : t.ProductTails) → w.of_products A none join node xs ≡ joined A none join node (product_parts xs)
  of_products t.no_product_tails = refl
  of_products (t.product_tail_and (t.product_tail_of word x) xs) = ap (join (w.of_tree A none join node x)) (of_products xs)

  of_whens : (xs : t.TreeWhens) → w.of_whens A none join node xs ≡ joined A none join node (when_parts xs)
  of_whens t.no_tree_whens = refl
  of_whens (t.tree_when_and (t.tree_when_of c x) xs) =
      ap (λ a. join (w.of_tree A none join node c) (join (w.of_tree A none join node x) a)) (of_whens xs)

  of_sorts : (xs : t.SortList) → w.of_sorts A none join node xs ≡ joined A none join node (sort_parts xs)
  of_sorts t.no_sorts = refl
  of_sorts (t.sort_and (t.sort_of x descending) xs) = ap (join (w.of_tree A none join node x)) (of_sorts xs)

  of_optional : (x : t.OptionalTree) → w.of_optional A none join node x ≡ joined A none join node (optional_parts x)
  of_optional t.no_tree = refl
  of_optional (t.some_tree x) = sym (right (w.of_tree A none join node x))

  of_args : (x : t.Args) → w.of_args A none join node x ≡ joined A none join node (args_parts x)
  of_args t.Empty = refl
  of_args t.Star = refl
  of_args (t.Values distinct xs) = of_listed xs

  of_over : (x : t.OptionalOver) → w.of_over A none join node x ≡ joined A none join node (over_parts x)
  of_over t.no_over = refl
  of_over (t.some_over (t.over_of partition order)) = (λ j. join (of_listed partition j) (of_sorts order j)) ∙ sym (both (listed partition) (sort_parts order))

  one : (x : Tree) → w.of_tree A none join node x ≡ joined A none join node (x ∷ [])
  one x = sym (right (w.of_tree A none join node x))

  two : (x y : Tree) → join (w.of_tree A none join node x) (w.of_tree A none join node y) ≡ joined A none join node (x ∷ y ∷ [])
  two x y = ap (join (w.of_tree A none join node x)) (one y)

  -- a tree comes to what its node makes of what its parts come to
  pub by_parts : (x : Tree) → w.of_tree A none join node x ≡ node x (joined A none join node (parts x))
  unfolding parts
  by_parts (t.Or xs) = ap (node (t.Or xs)) (of_listed xs)
  by_parts (t.And xs) = ap (node (t.And xs)) (of_listed xs)
  by_parts (t.Not x) = ap (node (t.Not x)) (one x)
  by_parts (t.Exists q) = refl
  by_parts (t.Compare op x y) = ap (node (t.Compare op x y)) (two x y)
  by_parts (t.IsNull x negated) = ap (node (t.IsNull x negated)) (one x)
  by_parts (t.Between x low high negated) = ap (λ a. node (t.Between x low high negated) (join (w.of_tree A none join node x) a)) (two low high)
  by_parts (t.InList x xs negated) = ap (λ a. node (t.InList x xs negated) (join (w.of_tree A none join node x) a)) (of_listed xs)
  by_parts (t.InQuery x q negated) = ap (node (t.InQuery x q negated)) (one x)
  by_parts (t.Like x y negated) = ap (node (t.Like x y negated)) (two x y)
  by_parts (t.Sum x xs) = ap (λ a. node (t.Sum x xs) (join (w.of_tree A none join node x) a)) (of_sums xs)
  by_parts (t.Product x xs) = ap (λ a. node (t.Product x xs) (join (w.of_tree A none join node x) a)) (of_products xs)
  by_parts (t.Sign minus x) = ap (node (t.Sign minus x)) (one x)
  by_parts (t.Number text) = refl
  by_parts (t.Str text) = refl
  by_parts (t.Truth truth) = refl
  by_parts t.Null = refl
  by_parts (t.Name of name quoted) = refl
  by_parts (t.Call name args filter over) =
      ap (node (t.Call name args filter over)) (
      (λ j. join (of_args args j) (((λ i. join (of_optional filter i) (of_over over i)) ∙ sym (both (optional_parts filter) (over_parts over))) j))
      ∙ sym (both (args_parts args) (optional_parts filter ++ over_parts over)))
  by_parts (t.Cast x ty) = ap (node (t.Cast x ty)) (one x)
  by_parts (t.Paren x) = ap (node (t.Paren x)) (one x)
  by_parts (t.Sub q) = refl
  by_parts (t.Case whens otherwise) =
      ap (node (t.Case whens otherwise)) ((λ j. join (of_whens whens j) (of_optional otherwise j)) ∙ sym (both (when_parts whens) (optional_parts otherwise)))

or_false : (a : Bool) → (a || false) ≡ a
or_false true = refl
or_false false = refl

or_assoc : (a b c : Bool) → ((a || b) || c) ≡ (a || (b || c))
or_assoc true b c = refl
or_assoc false b c = refl

-- ---- whether a part passes a test

module _ (test : Tree → Bool) where
  abbrev pub any_part : List Tree → Bool
  any_part = joined Bool false (λ a b. a || b) (or_below test)

  pub some_by_parts : (x : Tree) → some_part test x ≡ (test x || any_part (parts x))
  some_by_parts x = by_parts Bool false (λ a b. a || b) (or_below test) (λ a. refl) or_false or_assoc x

-- ---- the weight of trees

abbrev pub weights : List Tree → ℕ
weights = joined ℕ 0 (λ a b. a + b) (λ x below. suc below)

pub weight_by_parts : (x : Tree) → weight x ≡ suc (weights (parts x))
weight_by_parts x = by_parts ℕ 0 (λ a b. a + b) (λ y below. suc below) (λ a. omega arith) (λ a. omega arith) (λ a b c. omega arith) x

-- what a walk has still to come to is lighter than the tree
pub first_weighs : (x : Tree) (all rest : List Tree) (w : ℕ) → all ≡ x ∷ rest → weights all < w → weight x < w
first_weighs x all rest w e h = let k : weights all ≡ weight x + weights rest = ap weights e in omega (arith, k, h)

pub others_weigh : (x : Tree) (all rest : List Tree) (w : ℕ) → all ≡ x ∷ rest → weights all < w → weights rest < w
others_weigh x all rest w e h = let k : weights all ≡ weight x + weights rest = ap weights e in omega (arith, k, h)

pub parts_weigh : (x : Tree) → weights (parts x) < weight x
parts_weigh x = let e = weight_by_parts x in omega (arith, e)
