-- What a `Parts` has still to come to, item by item.
use Rattle.std.proofs.Common.{◌≡◌, List, [], ◌∷◌, ◌++◌, ap, sym, ◌∙◌, append-nil, append_assoc}
use Rattle.sql_syntax.specs.declared.tree.Args.TheViews.{out-Over}
use Rattle.sql_syntax.specs.declared.tree.Over.{Over}
use Rattle.sql_syntax.specs.declared.tree.ProductTail.{ProductTail}
use Rattle.sql_syntax.specs.declared.tree.Sort.{Sort}
use Rattle.sql_syntax.specs.declared.tree.SumTail.{SumTail}
use Rattle.sql_syntax.specs.declared.tree.TreeWhen.{TreeWhen}
use Rattle.sql_syntax.specs.Tree as t
use Rattle.sql_syntax.specs.View.{view, over_view, product_tails_view, sorts_view, sum_tails_view, trees_view, whens_view}
use Rattle.sql_syntax.specs.Walks.{listed, over_parts, product_parts, sort_parts, sum_parts, when_parts}
use Rattle.sql_syntax.proofs.laws.Views.{over, product_tail, sort, sum_tail, tree_when}

pub first_sum : (all xs : List SumTail) (x : SumTail) → all ≡ x ∷ xs → sum_parts (t.sum_tails (sum_tails_view all)) ≡ view x.value ∷ sum_parts (t.sum_tails (sum_tails_view xs))
first_sum all xs x e = ap (λ ys. sum_parts (t.sum_tails (sum_tails_view ys))) e ∙ ap (λ v. sum_parts (t.sum_tail_and v (t.sum_tails (sum_tails_view xs)))) (sum_tail x)

pub first_product : (all xs : List ProductTail) (x : ProductTail) → all ≡ x ∷ xs → product_parts (t.product_tails (product_tails_view all)) ≡ view x.value ∷ product_parts (t.product_tails (product_tails_view xs))
first_product all xs x e =
    ap (λ ys. product_parts (t.product_tails (product_tails_view ys))) e ∙ ap (λ v. product_parts (t.product_tail_and v (t.product_tails (product_tails_view xs)))) (product_tail x)

pub first_sort : (all xs : List Sort) (x : Sort) → all ≡ x ∷ xs → sort_parts (t.sort_list (sorts_view all)) ≡ view x.value ∷ sort_parts (t.sort_list (sorts_view xs))
first_sort all xs x e = ap (λ ys. sort_parts (t.sort_list (sorts_view ys))) e ∙ ap (λ v. sort_parts (t.sort_and v (t.sort_list (sorts_view xs)))) (sort x)

pub first_when : (all xs : List TreeWhen) (x : TreeWhen) → all ≡ x ∷ xs → when_parts (t.tree_whens (whens_view all)) ≡ view x.cond ∷ view x.result ∷ when_parts (t.tree_whens (whens_view xs))
first_when all xs x e = ap (λ ys. when_parts (t.tree_whens (whens_view ys))) e ∙ ap (λ v. when_parts (t.tree_when_and v (t.tree_whens (whens_view xs)))) (tree_when x)

pub of_over : (x : Over) → over_parts (t.some_over (over_view x)) ≡ listed (t.trees (trees_view (out-Over x).partition)) ++ sort_parts (t.sort_list (sorts_view (out-Over x).order))
of_over x = ap (λ v. over_parts (t.some_over v)) (over x)

pub nothing_behind : (xs ys : List t.Tree) → xs ++ (ys ++ []) ≡ xs ++ ys
nothing_behind xs ys = ap (λ zs. xs ++ zs) (append-nil ys)

-- where the first tree stands, with what is left
pub first_in_few : (x : t.Tree) (few others behind : List t.Tree) → few ≡ x ∷ others → few ++ behind ≡ x ∷ (others ++ behind)
first_in_few x few others behind e = ap (λ xs. xs ++ behind) e

pub first_in_series : (x : t.Tree) (few series others rest behind : List t.Tree) → few ≡ [] → series ≡ x ∷ (others ++ rest) → few ++ (series ++ behind) ≡ x ∷ (others ++ (rest ++ behind))
first_in_series x few series others rest behind e h =
    ap (λ xs. xs ++ (series ++ behind)) e ∙ ap (λ xs. xs ++ behind) h ∙ ap (λ xs. x ∷ xs) (append_assoc others rest behind)

pub first_in_order : (x : t.Tree) (few series last partition order others : List t.Tree) → few ≡ [] → series ≡ [] → last ≡ [] → partition ≡ [] → order ≡ x ∷ others
    → few ++ (series ++ (last ++ (partition ++ order))) ≡ x ∷ (few ++ (series ++ (last ++ (partition ++ others))))
first_in_order x few series last partition order others e f g h k =
    (λ j. e j ++ (f j ++ (g j ++ (h j ++ k j)))) ∙ ap (λ ys. x ∷ ys) (sym (λ j. e j ++ (f j ++ (g j ++ (h j ++ others)))))
