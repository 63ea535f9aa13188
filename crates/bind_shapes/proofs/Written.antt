-- The numbers of lists of shapes.
use Rattle.std.proofs.Common.{◌≡◌, ℕ, ◌+◌, ◌<◌, List, [], ◌∷◌, ◌++◌, length, drop, get_or, sym, ap, ◌∙◌, append_assoc}
use Rattle.std.proofs.lemmas.List.{at_drop_more}
use Rattle.sql_syntax.specs.declared.tree.SumTail.{SumTail}
use Rattle.sql_syntax.specs.declared.tree.ProductTail.{ProductTail}
use Rattle.sql_syntax.specs.declared.tree.Tree.{Tree}
use Rattle.sql_syntax.specs.declared.tree.TreeWhen.{TreeWhen}
use Rattle.sql_syntax.specs.Tree as t
use Rattle.sql_syntax.specs.View.{view, trees_view, sum_tails_view, product_tails_view, whens_view}
use Rattle.sql_syntax.proofs.laws.Views.{sum_tail, product_tail, tree_when}
use Rattle.query_answer.specs.Names.{Lookup}
use Rattle.query_answer.specs.Shapes.{shape, all_shapes, sum_shapes, product_shapes, when_shapes, one_shape, sum_number, product_number}
use Rattle.bind_shapes.specs.Codes.{code, codes, word}

abbrev pub of_trees : Lookup → List Tree → List ℕ
of_trees look xs = codes (all_shapes look (t.trees (trees_view xs)))

abbrev pub of_sums : Lookup → List SumTail → List ℕ
of_sums look xs = codes (sum_shapes look (t.sum_tails (sum_tails_view xs)))

abbrev pub of_products : Lookup → List ProductTail → List ℕ
of_products look xs = codes (product_shapes look (t.product_tails (product_tails_view xs)))

abbrev pub of_whens : Lookup → List TreeWhen → List ℕ
of_whens look xs = codes (when_shapes look (t.tree_whens (whens_view xs)))

pub trees_step : (look : Lookup) (xs : List Tree) (i : ℕ) (x : Tree) → i < length xs → x ≡ get_or xs i x → of_trees look (drop i xs) ≡ 1 ∷ (code (shape look (view x)) ++ of_trees look (drop (i + 1) xs))
trees_step look xs i x l h = at_drop_more (of_trees look) xs i x l ∙ ap (λ y. of_trees look (y ∷ drop (i + 1) xs)) (sym h)

pub sums_step : (look : Lookup) (xs : List SumTail) (i : ℕ) (x : SumTail) → i < length xs → x ≡ get_or xs i x
    → of_sums look (drop i xs) ≡ 1 ∷ ((word (sum_number x.word ∷ []) ++ codes (one_shape (shape look (view x.value)))) ++ of_sums look (drop (i + 1) xs))
sums_step look xs i x l h =
    at_drop_more (of_sums look) xs i x l ∙ ap (λ y. of_sums look (y ∷ drop (i + 1) xs)) (sym h)
    ∙ ap (λ v. codes (sum_shapes look (t.sum_tail_and v (t.sum_tails (sum_tails_view (drop (i + 1) xs)))))) (sum_tail x)

pub products_step : (look : Lookup) (xs : List ProductTail) (i : ℕ) (x : ProductTail) → i < length xs → x ≡ get_or xs i x
    → of_products look (drop i xs) ≡ 1 ∷ ((word (product_number x.word ∷ []) ++ codes (one_shape (shape look (view x.value)))) ++ of_products look (drop (i + 1) xs))
products_step look xs i x l h =
    at_drop_more (of_products look) xs i x l ∙ ap (λ y. of_products look (y ∷ drop (i + 1) xs)) (sym h)
    ∙ ap (λ v. codes (product_shapes look (t.product_tail_and v (t.product_tails (product_tails_view (drop (i + 1) xs)))))) (product_tail x)

pub whens_step : (look : Lookup) (xs : List TreeWhen) (i : ℕ) (x : TreeWhen) → i < length xs → x ≡ get_or xs i x
    → of_whens look (drop i xs) ≡ 1 ∷ (code (shape look (view x.cond)) ++ 1 ∷ (code (shape look (view x.result)) ++ of_whens look (drop (i + 1) xs)))
whens_step look xs i x l h =
    at_drop_more (of_whens look) xs i x l ∙ ap (λ y. of_whens look (y ∷ drop (i + 1) xs)) (sym h)
    ∙ ap (λ v. codes (when_shapes look (t.tree_when_and v (t.tree_whens (whens_view (drop (i + 1) xs)))))) (tree_when x)

-- what was written, with a mark, a word and a part more
pub tail_turn : (written marked worded more part rest left whole : List ℕ) (n m : ℕ) → n ≡ m → marked ≡ written ++ 1 ∷ [] → worded ≡ marked ++ word (n ∷ []) → more ≡ worded ++ part → left ≡ 1 ∷ ((word (m ∷ []) ++ part) ++ rest)
    → written ++ left ≡ whole → more ++ rest ≡ whole
tail_turn written marked worded more part rest left whole n m e mark kind last step same =
    ap (λ xs. xs ++ rest) (last ∙ ap (λ xs. xs ++ part) (kind ∙ (λ i. mark i ++ word (e i ∷ []))))
    ∙ append_assoc ((written ++ 1 ∷ []) ++ word (m ∷ [])) part rest ∙ append_assoc (written ++ 1 ∷ []) (word (m ∷ [])) (part ++ rest) ∙ append_assoc written (1 ∷ []) (word (m ∷ []) ++ (part ++ rest))
    ∙ ap (λ xs. written ++ 1 ∷ xs) (sym (append_assoc (word (m ∷ [])) part rest)) ∙ ap (λ xs. written ++ xs) (sym step) ∙ same

-- and with two marked parts more
pub when_turn : (written once twice part other rest left whole : List ℕ) → once ≡ written ++ 1 ∷ part → twice ≡ once ++ 1 ∷ other → left ≡ 1 ∷ (part ++ 1 ∷ (other ++ rest)) → written ++ left ≡ whole → twice ++ rest ≡ whole
when_turn written once twice part other rest left whole first second step same =
    ap (λ xs. xs ++ rest) (second ∙ ap (λ xs. xs ++ 1 ∷ other) first)
    ∙ append_assoc (written ++ 1 ∷ part) (1 ∷ other) rest ∙ append_assoc written (1 ∷ part) (1 ∷ (other ++ rest))
    ∙ ap (λ xs. written ++ xs) (sym step) ∙ same
