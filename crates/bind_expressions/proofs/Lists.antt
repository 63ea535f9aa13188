-- Lists that are bound item by item, as far as a loop has come.
use Rattle.std.proofs.Common.{◌≡◌, ℕ, suc, ◌+◌, ◌<◌, ◌≤◌, List, [], ◌∷◌, ◌++◌, Option, length, drop, get_or, Ok, Err, refl, ap, sym, ◌∙◌, append_assoc, append-nil}
use Rattle.std.proofs.lemmas.List.{at_drop_more, drop_all}
use Rattle.ct_value.specs.declared.codes.ScriptCode.{ScriptCode}
use Rattle.sql_syntax.specs.declared.tree.ProductTail.{ProductTail}
use Rattle.sql_syntax.specs.declared.tree.Sort.{Sort}
use Rattle.sql_syntax.specs.declared.tree.SumTail.{SumTail}
use Rattle.sql_syntax.specs.declared.tree.Tree.{Tree}
use Rattle.sql_syntax.specs.declared.tree.TreeWhen.{TreeWhen}
use Rattle.sql_syntax.specs.Tree as t
use Rattle.sql_syntax.specs.View.{view, sorts_view, trees_view, sum_tails_view, product_tails_view, whens_view}
use Rattle.sql_syntax.proofs.laws.Views.{sort, sum_tail, product_tail, tree_when}
use Rattle.query_answer.specs.Calls.{calls}
use Rattle.query_answer.specs.Names.{Scope}
use Rattle.binding.specs.Checked.{Checked, ◌>>=◌}
use Rattle.binding.specs.Nodes.{Bound, added, multiplied}
use Rattle.binding.specs.Expressions.{Leaf, bound, bound_over, each_bound, conjuncts_bound, all_conjuncts_bound, all_bound, sum_bound, sum_length, product_length, product_bound, order_bound, unless_null, whens_bound}

-- these, and then those that are left
abbrev pub behind : {A : Type 0} → List A → Checked (List A) → Checked (List A)
behind xs (Ok ys) = Ok (xs ++ ys)
behind xs (Err code) = Err code

pub nothing_before : {A : Type 0} (r : Checked (List A)) → behind [] r ≡ r
nothing_before (Ok ys) = refl
nothing_before (Err code) = refl

pub one_behind : {A : Type 0} (xs : List A) (x : A) (r : Checked (List A)) → behind xs (r >>= λ ys. Ok (x ∷ ys)) ≡ behind (xs ++ x ∷ []) r
one_behind xs x (Ok ys) = ap Ok (sym (append_assoc xs (x ∷ []) ys))
one_behind xs x (Err code) = refl

abbrev pub trees_from : Leaf → ℕ → List Tree → Checked (List Bound)
trees_from leaf n xs = all_bound leaf n (t.trees (trees_view xs))

abbrev pub sorts_from : Leaf → ℕ → List Sort → Checked (List Bound)
sorts_from leaf n xs = order_bound leaf n (t.sort_list (sorts_view xs))

abbrev pub sums_from : Leaf → ℕ → Bound → List SumTail → Checked Bound
sums_from leaf n a xs = sum_bound leaf n a (t.sum_tails (sum_tails_view xs))

abbrev pub products_from : Leaf → ℕ → Bound → List ProductTail → Checked Bound
products_from leaf n a xs = product_bound leaf n a (t.product_tails (product_tails_view xs))

abbrev pub whens_from : Leaf → ℕ → List TreeWhen → Checked (List (Bound × Option Bound))
whens_from leaf n xs = whens_bound leaf n (t.tree_whens (whens_view xs))

pub trees_step : (leaf : Leaf) (n : ℕ) (xs : List Tree) (i : ℕ) (x : Tree) → i < length xs → x ≡ get_or xs i x
    → trees_from leaf n (drop i xs) ≡ (bound leaf n (view x) >>= λ a. trees_from leaf (n + length (calls (view x))) (drop (i + 1) xs) >>= λ bs. Ok (a ∷ bs))
trees_step leaf n xs i x l h = at_drop_more (trees_from leaf n) xs i x l ∙ ap (λ y. trees_from leaf n (y ∷ drop (i + 1) xs)) (sym h)

pub sorts_step : (leaf : Leaf) (n : ℕ) (xs : List Sort) (i : ℕ) (x : Sort) → i < length xs → x ≡ get_or xs i x
    → sorts_from leaf n (drop i xs) ≡ (bound leaf n (view x.value) >>= λ a. sorts_from leaf (n + length (calls (view x.value))) (drop (i + 1) xs) >>= λ bs. Ok (a ∷ bs))
sorts_step leaf n xs i x l h =
    at_drop_more (sorts_from leaf n) xs i x l ∙ ap (λ y. sorts_from leaf n (y ∷ drop (i + 1) xs)) (sym h)
    ∙ ap (λ v. order_bound leaf n (t.sort_and v (t.sort_list (sorts_view (drop (i + 1) xs))))) (sort x)

pub sums_step : (leaf : Leaf) (n : ℕ) (a : Bound) (xs : List SumTail) (i : ℕ) (x : SumTail) → i < length xs → x ≡ get_or xs i x
    → sums_from leaf n a (drop i xs) ≡ (bound leaf n (view x.value) >>= λ b. added x.word a b >>= λ c. sums_from leaf (n + length (calls (view x.value))) c (drop (i + 1) xs))
sums_step leaf n a xs i x l h =
    at_drop_more (sums_from leaf n a) xs i x l ∙ ap (λ y. sums_from leaf n a (y ∷ drop (i + 1) xs)) (sym h)
    ∙ ap (λ v. sum_bound leaf n a (t.sum_tail_and v (t.sum_tails (sum_tails_view (drop (i + 1) xs))))) (sum_tail x)

pub products_step : (leaf : Leaf) (n : ℕ) (a : Bound) (xs : List ProductTail) (i : ℕ) (x : ProductTail) → i < length xs → x ≡ get_or xs i x
    → products_from leaf n a (drop i xs) ≡ (bound leaf n (view x.value) >>= λ b. multiplied x.word a b >>= λ c. products_from leaf (n + length (calls (view x.value))) c (drop (i + 1) xs))
products_step leaf n a xs i x l h =
    at_drop_more (products_from leaf n a) xs i x l ∙ ap (λ y. products_from leaf n a (y ∷ drop (i + 1) xs)) (sym h)
    ∙ ap (λ v. product_bound leaf n a (t.product_tail_and v (t.product_tails (product_tails_view (drop (i + 1) xs))))) (product_tail x)

pub whens_step : (leaf : Leaf) (n : ℕ) (xs : List TreeWhen) (i : ℕ) (x : TreeWhen) → i < length xs → x ≡ get_or xs i x
    → whens_from leaf n (drop i xs) ≡ (bound leaf n (view x.cond) >>= λ a. unless_null (view x.result) (bound leaf (n + length (calls (view x.cond))) (view x.result)) >>= λ b. whens_from leaf (n + length (calls (view x.cond)) + length (calls (view x.result))) (drop (i + 1) xs) >>= λ bs. Ok ((a, b) ∷ bs))
whens_step leaf n xs i x l h =
    at_drop_more (whens_from leaf n) xs i x l ∙ ap (λ y. whens_from leaf n (y ∷ drop (i + 1) xs)) (sym h)
    ∙ ap (λ v. whens_bound leaf n (t.tree_when_and v (t.tree_whens (whens_view (drop (i + 1) xs))))) (tree_when x)

-- ---- how long chains are

pub sum_length_is : (xs : List SumTail) → sum_length (t.sum_tails (sum_tails_view xs)) ≡ suc (length xs)
sum_length_is [] = refl
sum_length_is (x ∷ xs) = ap suc (sum_length_is xs)

pub product_length_is : (xs : List ProductTail) → product_length (t.product_tails (product_tails_view xs)) ≡ suc (length xs)
product_length_is [] = refl
product_length_is (x ∷ xs) = ap suc (product_length_is xs)

-- ---- trees over the columns in reach, and conjuncts

abbrev pub each_from : Scope → List Tree → Checked (List Bound)
each_from scope xs = each_bound scope (trees_view xs)

abbrev pub conjuncts_from : Scope → List Tree → Checked (List Bound)
conjuncts_from scope xs = all_conjuncts_bound scope (t.trees (trees_view xs))

pub each_step : (scope : Scope) (xs : List Tree) (i : ℕ) (x : Tree) → i < length xs → x ≡ get_or xs i x
    → each_from scope (drop i xs) ≡ (bound_over scope (view x) >>= λ a. each_from scope (drop (i + 1) xs) >>= λ bs. Ok (a ∷ bs))
each_step scope xs i x l h = at_drop_more (each_from scope) xs i x l ∙ ap (λ y. each_from scope (y ∷ drop (i + 1) xs)) (sym h)

pub conjuncts_step : (scope : Scope) (xs : List Tree) (i : ℕ) (x : Tree) → i < length xs → x ≡ get_or xs i x
    → conjuncts_from scope (drop i xs) ≡ (conjuncts_bound scope (view x) >>= λ bs. conjuncts_from scope (drop (i + 1) xs) >>= λ cs. Ok (bs ++ cs))
conjuncts_step scope xs i x l h = at_drop_more (conjuncts_from scope) xs i x l ∙ ap (λ y. conjuncts_from scope (y ∷ drop (i + 1) xs)) (sym h)

pub more_behind : {A : Type 0} (xs ys : List A) (r : Checked (List A)) → behind xs (r >>= λ zs. Ok (ys ++ zs)) ≡ behind (xs ++ ys) r
more_behind xs ys (Ok zs) = ap Ok (sym (append_assoc xs ys zs))
more_behind xs ys (Err code) = refl

-- ---- one turn of a loop, a refusal in it, and its end

module _ (leaf : Leaf) (n : ℕ) (whole : Checked (List Bound)) (xs : List Tree) (i : ℕ) (bs : List Bound) (from : whole ≡ behind bs (trees_from leaf n (drop i xs))) where
  pub trees_failed : (x : Tree) (code : ScriptCode) → i < length xs → x ≡ get_or xs i x → bound leaf n (view x) ≡ Err code → whole ≡ Err code
  trees_failed x code l h k =
      from ∙ ap (behind bs) (trees_step leaf n xs i x l h ∙ ap (λ r. r >>= λ a. trees_from leaf (n + length (calls (view x))) (drop (i + 1) xs) >>= λ bs. Ok (a ∷ bs)) k)

  pub trees_turn : (x : Tree) (a : Bound) (m : ℕ) (more : List Bound) → i < length xs → x ≡ get_or xs i x → bound leaf n (view x) ≡ Ok a → m ≡ n + length (calls (view x)) → more ≡ bs ++ a ∷ []
      → whole ≡ behind more (trees_from leaf m (drop (i + 1) xs))
  trees_turn x a m more l h k e p =
      from ∙ ap (behind bs) (trees_step leaf n xs i x l h ∙ ap (λ r. r >>= λ a. trees_from leaf (n + length (calls (view x))) (drop (i + 1) xs) >>= λ bs. Ok (a ∷ bs)) k)
      ∙ one_behind bs a (trees_from leaf (n + length (calls (view x))) (drop (i + 1) xs))
      ∙ (λ j. behind (sym p j) (trees_from leaf (sym e j) (drop (i + 1) xs)))

  pub trees_end : length xs ≤ i → whole ≡ Ok bs
  trees_end l = from ∙ ap (λ (ys : List Tree). behind bs (trees_from leaf n ys)) (drop_all i xs l) ∙ ap Ok (append-nil bs)

module _ (leaf : Leaf) (n : ℕ) (whole : Checked (List Bound)) (xs : List Sort) (i : ℕ) (bs : List Bound) (from : whole ≡ behind bs (sorts_from leaf n (drop i xs))) where
  pub sorts_failed : (x : Sort) (code : ScriptCode) → i < length xs → x ≡ get_or xs i x → bound leaf n (view x.value) ≡ Err code → whole ≡ Err code
  sorts_failed x code l h k =
      from ∙ ap (behind bs) (sorts_step leaf n xs i x l h ∙ ap (λ r. r >>= λ a. sorts_from leaf (n + length (calls (view x.value))) (drop (i + 1) xs) >>= λ bs. Ok (a ∷ bs)) k)

  pub sorts_turn : (x : Sort) (a : Bound) (m : ℕ) (more : List Bound) → i < length xs → x ≡ get_or xs i x → bound leaf n (view x.value) ≡ Ok a → m ≡ n + length (calls (view x.value)) → more ≡ bs ++ a ∷ []
      → whole ≡ behind more (sorts_from leaf m (drop (i + 1) xs))
  sorts_turn x a m more l h k e p =
      from ∙ ap (behind bs) (sorts_step leaf n xs i x l h ∙ ap (λ r. r >>= λ a. sorts_from leaf (n + length (calls (view x.value))) (drop (i + 1) xs) >>= λ bs. Ok (a ∷ bs)) k)
      ∙ one_behind bs a (sorts_from leaf (n + length (calls (view x.value))) (drop (i + 1) xs))
      ∙ (λ j. behind (sym p j) (sorts_from leaf (sym e j) (drop (i + 1) xs)))

  pub sorts_end : length xs ≤ i → whole ≡ Ok bs
  sorts_end l = from ∙ ap (λ (ys : List Sort). behind bs (sorts_from leaf n ys)) (drop_all i xs l) ∙ ap Ok (append-nil bs)

module _ (leaf : Leaf) (n : ℕ) (whole : Checked Bound) (xs : List SumTail) (i : ℕ) (a : Bound) (from : whole ≡ sums_from leaf n a (drop i xs)) where
  pub sums_failed : (x : SumTail) (code : ScriptCode) → i < length xs → x ≡ get_or xs i x → bound leaf n (view x.value) ≡ Err code → whole ≡ Err code
  sums_failed x code l h k =
      from ∙ sums_step leaf n a xs i x l h ∙ ap (λ r. r >>= λ b. added x.word a b >>= λ c. sums_from leaf (n + length (calls (view x.value))) c (drop (i + 1) xs)) k

  pub sums_refused : (x : SumTail) (b : Bound) (code : ScriptCode) → i < length xs → x ≡ get_or xs i x → bound leaf n (view x.value) ≡ Ok b → added x.word a b ≡ Err code → whole ≡ Err code
  sums_refused x b code l h k p =
      from ∙ sums_step leaf n a xs i x l h ∙ ap (λ r. r >>= λ b. added x.word a b >>= λ c. sums_from leaf (n + length (calls (view x.value))) c (drop (i + 1) xs)) k
      ∙ ap (λ r. r >>= λ c. sums_from leaf (n + length (calls (view x.value))) c (drop (i + 1) xs)) p

  pub sums_turn : (x : SumTail) (b c : Bound) (m : ℕ) → i < length xs → x ≡ get_or xs i x → bound leaf n (view x.value) ≡ Ok b → added x.word a b ≡ Ok c → m ≡ n + length (calls (view x.value))
      → whole ≡ sums_from leaf m c (drop (i + 1) xs)
  sums_turn x b c m l h k p e =
      from ∙ sums_step leaf n a xs i x l h ∙ ap (λ r. r >>= λ b. added x.word a b >>= λ c. sums_from leaf (n + length (calls (view x.value))) c (drop (i + 1) xs)) k
      ∙ ap (λ r. r >>= λ c. sums_from leaf (n + length (calls (view x.value))) c (drop (i + 1) xs)) p ∙ ap (λ j. sums_from leaf j c (drop (i + 1) xs)) (sym e)

  pub sums_end : length xs ≤ i → whole ≡ Ok a
  sums_end l = from ∙ ap (λ (ys : List SumTail). sums_from leaf n a ys) (drop_all i xs l)

module _ (leaf : Leaf) (n : ℕ) (whole : Checked Bound) (xs : List ProductTail) (i : ℕ) (a : Bound) (from : whole ≡ products_from leaf n a (drop i xs)) where
  pub products_failed : (x : ProductTail) (code : ScriptCode) → i < length xs → x ≡ get_or xs i x → bound leaf n (view x.value) ≡ Err code → whole ≡ Err code
  products_failed x code l h k =
      from ∙ products_step leaf n a xs i x l h ∙ ap (λ r. r >>= λ b. multiplied x.word a b >>= λ c. products_from leaf (n + length (calls (view x.value))) c (drop (i + 1) xs)) k

  pub products_refused : (x : ProductTail) (b : Bound) (code : ScriptCode) → i < length xs → x ≡ get_or xs i x → bound leaf n (view x.value) ≡ Ok b → multiplied x.word a b ≡ Err code → whole ≡ Err code
  products_refused x b code l h k p =
      from ∙ products_step leaf n a xs i x l h ∙ ap (λ r. r >>= λ b. multiplied x.word a b >>= λ c. products_from leaf (n + length (calls (view x.value))) c (drop (i + 1) xs)) k
      ∙ ap (λ r. r >>= λ c. products_from leaf (n + length (calls (view x.value))) c (drop (i + 1) xs)) p

  pub products_turn : (x : ProductTail) (b c : Bound) (m : ℕ) → i < length xs → x ≡ get_or xs i x → bound leaf n (view x.value) ≡ Ok b → multiplied x.word a b ≡ Ok c → m ≡ n + length (calls (view x.value))
      → whole ≡ products_from leaf m c (drop (i + 1) xs)
  products_turn x b c m l h k p e =
      from ∙ products_step leaf n a xs i x l h ∙ ap (λ r. r >>= λ b. multiplied x.word a b >>= λ c. products_from leaf (n + length (calls (view x.value))) c (drop (i + 1) xs)) k
      ∙ ap (λ r. r >>= λ c. products_from leaf (n + length (calls (view x.value))) c (drop (i + 1) xs)) p ∙ ap (λ j. products_from leaf j c (drop (i + 1) xs)) (sym e)

  pub products_end : length xs ≤ i → whole ≡ Ok a
  products_end l = from ∙ ap (λ (ys : List ProductTail). products_from leaf n a ys) (drop_all i xs l)

module _ (leaf : Leaf) (n : ℕ) (whole : Checked (List (Bound × Option Bound))) (xs : List TreeWhen) (i : ℕ) (bs : List (Bound × Option Bound)) (from : whole ≡ behind bs (whens_from leaf n (drop i xs))) where
  pub whens_failed : (x : TreeWhen) (code : ScriptCode) → i < length xs → x ≡ get_or xs i x → bound leaf n (view x.cond) ≡ Err code → whole ≡ Err code
  whens_failed x code l h k =
      let m = n + length (calls (view x.cond)) in
      from ∙ ap (behind bs) (whens_step leaf n xs i x l h ∙ ap (λ r. r >>= λ a. unless_null (view x.result) (bound leaf m (view x.result)) >>= λ b. whens_from leaf (m + length (calls (view x.result))) (drop (i + 1) xs) >>= λ bs. Ok ((a, b) ∷ bs)) k)

  pub whens_refused : (x : TreeWhen) (a : Bound) (code : ScriptCode) → i < length xs → x ≡ get_or xs i x → bound leaf n (view x.cond) ≡ Ok a
      → unless_null (view x.result) (bound leaf (n + length (calls (view x.cond))) (view x.result)) ≡ Err code → whole ≡ Err code
  whens_refused x a code l h k p =
      let m = n + length (calls (view x.cond)) in
      from ∙ ap (behind bs) (whens_step leaf n xs i x l h ∙ (λ j. k j >>= λ a. p j >>= λ b. whens_from leaf (m + length (calls (view x.result))) (drop (i + 1) xs) >>= λ bs. Ok ((a, b) ∷ bs)))

  pub whens_turn : (x : TreeWhen) (a : Bound) (o : Option Bound) (m : ℕ) (more : List (Bound × Option Bound)) → i < length xs → x ≡ get_or xs i x → bound leaf n (view x.cond) ≡ Ok a
      → unless_null (view x.result) (bound leaf (n + length (calls (view x.cond))) (view x.result)) ≡ Ok o → m ≡ n + length (calls (view x.cond)) + length (calls (view x.result)) → more ≡ bs ++ (a, o) ∷ []
      → whole ≡ behind more (whens_from leaf m (drop (i + 1) xs))
  whens_turn x a o last more l h k p e q =
      let m = n + length (calls (view x.cond)) in
      from ∙ ap (behind bs) (whens_step leaf n xs i x l h ∙ (λ j. k j >>= λ a. p j >>= λ b. whens_from leaf (m + length (calls (view x.result))) (drop (i + 1) xs) >>= λ bs. Ok ((a, b) ∷ bs)))
      ∙ one_behind bs (a, o) (whens_from leaf (m + length (calls (view x.result))) (drop (i + 1) xs))
      ∙ (λ j. behind (sym q j) (whens_from leaf (sym e j) (drop (i + 1) xs)))

  pub whens_end : length xs ≤ i → whole ≡ Ok bs
  whens_end l = from ∙ ap (λ (ys : List TreeWhen). behind bs (whens_from leaf n ys)) (drop_all i xs l) ∙ ap Ok (append-nil bs)

module _ (scope : Scope) (whole : Checked (List Bound)) (xs : List Tree) (i : ℕ) (bs : List Bound) (from : whole ≡ behind bs (each_from scope (drop i xs))) where
  pub each_failed : (x : Tree) (code : ScriptCode) → i < length xs → x ≡ get_or xs i x → bound_over scope (view x) ≡ Err code → whole ≡ Err code
  each_failed x code l h k = from ∙ ap (behind bs) (each_step scope xs i x l h ∙ ap (λ r. r >>= λ a. each_from scope (drop (i + 1) xs) >>= λ bs. Ok (a ∷ bs)) k)

  pub each_turn : (x : Tree) (a : Bound) (more : List Bound) → i < length xs → x ≡ get_or xs i x → bound_over scope (view x) ≡ Ok a → more ≡ bs ++ a ∷ [] → whole ≡ behind more (each_from scope (drop (i + 1) xs))
  each_turn x a more l h k p =
      from ∙ ap (behind bs) (each_step scope xs i x l h ∙ ap (λ r. r >>= λ a. each_from scope (drop (i + 1) xs) >>= λ bs. Ok (a ∷ bs)) k)
      ∙ one_behind bs a (each_from scope (drop (i + 1) xs)) ∙ ap (λ cs. behind cs (each_from scope (drop (i + 1) xs))) (sym p)

  pub each_end : length xs ≤ i → whole ≡ Ok bs
  each_end l = from ∙ ap (λ (ys : List Tree). behind bs (each_from scope ys)) (drop_all i xs l) ∙ ap Ok (append-nil bs)

module _ (scope : Scope) (whole : Checked (List Bound)) (xs : List Tree) (i : ℕ) (bs : List Bound) (from : whole ≡ behind bs (conjuncts_from scope (drop i xs))) where
  pub conjuncts_failed : (x : Tree) (code : ScriptCode) → i < length xs → x ≡ get_or xs i x → conjuncts_bound scope (view x) ≡ Err code → whole ≡ Err code
  conjuncts_failed x code l h k = from ∙ ap (behind bs) (conjuncts_step scope xs i x l h ∙ ap (λ r. r >>= λ bs. conjuncts_from scope (drop (i + 1) xs) >>= λ cs. Ok (bs ++ cs)) k)

  pub conjuncts_turn : (x : Tree) (cs more : List Bound) → i < length xs → x ≡ get_or xs i x → conjuncts_bound scope (view x) ≡ Ok cs → more ≡ bs ++ cs → whole ≡ behind more (conjuncts_from scope (drop (i + 1) xs))
  conjuncts_turn x cs more l h k p =
      from ∙ ap (behind bs) (conjuncts_step scope xs i x l h ∙ ap (λ r. r >>= λ bs. conjuncts_from scope (drop (i + 1) xs) >>= λ cs. Ok (bs ++ cs)) k)
      ∙ more_behind bs cs (conjuncts_from scope (drop (i + 1) xs)) ∙ ap (λ ds. behind ds (conjuncts_from scope (drop (i + 1) xs))) (sym p)

  pub conjuncts_end : length xs ≤ i → whole ≡ Ok bs
  conjuncts_end l = from ∙ ap (λ (ys : List Tree). behind bs (conjuncts_from scope ys)) (drop_all i xs l) ∙ ap Ok (append-nil bs)
