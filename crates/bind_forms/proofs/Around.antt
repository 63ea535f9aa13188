-- Where the only rank of a list stands, as far as a loop has come, and the list around it.
use Rattle.std.proofs.Common.{◌≡◌, ℕ, suc, ◌+◌, ◌<◌, ◌≤◌, Bool, true, false, List, [], ◌∷◌, length, take, drop, get_or, Option, Some, None, cond, option_map, slice_get, refl, sym, ap, ◌∙◌, arith}
use Rattle.std.proofs.lemmas.List.{at_drop_more, drop_all}
use Rattle.sql_syntax.specs.Tree.{Text}
use Rattle.sql_syntax.specs.Tree as t
use Rattle.sql_syntax.specs.View.{item_view, items_view}
use Rattle.sql_syntax.specs.declared.tree.Item.{Item}
use Rattle.query_answer.specs.Ranks.{Ranked, has_rank, item_over, named_rank, one_ahead, ranked_from, ranked_items, written_name}
use Rattle.query_answer.specs.Shapes.{has_over}
use Rattle.bind_forms.specs.Lists.{only_place, over_ranked, place_from, ranked_by}

abbrev list_of : List Item → t.Items
list_of xs = t.items (items_view xs)

-- from the i-th item on
abbrev pub from : List Item → ℕ → Option ℕ
from xs i = option_map (λ n. i + n) (only_place (list_of (drop i xs)))

step : (xs : List Item) (i : ℕ) (x : Item) → i < length xs → x ≡ get_or xs i x → only_place (list_of (drop i xs)) ≡ place_from (item_over (item_view x)) (list_of (drop (i + 1) xs)) (only_place (list_of (drop (i + 1) xs)))
step xs i x l h = at_drop_more (λ ys. only_place (list_of ys)) xs i x l ∙ ap (λ y. only_place (list_of (y ∷ drop (i + 1) xs))) (sym h)

pub begins : (xs : List Item) → only_place (list_of xs) ≡ from xs 0
begins xs = go (only_place (list_of xs))
  where
    go : (o : Option ℕ) → o ≡ option_map (λ n. 0 + n) o
    go None = refl
    go (Some n) = ap Some (let e : n ≡ 0 + n = omega arith in e)

pub further : (xs : List Item) (i : ℕ) (x : Item) → i < length xs → x ≡ get_or xs i x → has_over (item_over (item_view x)) ≡ false → from xs i ≡ from xs (i + 1)
further xs i x l h e = ap (option_map (λ n. i + n)) (step xs i x l h) ∙ go (item_over (item_view x)) e (only_place (list_of (drop (i + 1) xs)))
  where
    go : (o : t.OptionalOver) → has_over o ≡ false → (p : Option ℕ) → option_map (λ n. i + n) (place_from o (list_of (drop (i + 1) xs)) p) ≡ option_map (λ n. i + 1 + n) p
    go t.no_over f None = refl
    go t.no_over f (Some n) = ap Some (let k : i + suc n ≡ i + 1 + n = omega arith in k)
    go (t.some_over over) f p = absurd (cc)

pub here : (xs : List Item) (i : ℕ) (x : Item) → i < length xs → x ≡ get_or xs i x → has_over (item_over (item_view x)) ≡ true → from xs i ≡ cond (has_rank (list_of (drop (i + 1) xs))) None (Some i)
here xs i x l h e = ap (option_map (λ n. i + n)) (step xs i x l h) ∙ go (item_over (item_view x)) e (has_rank (list_of (drop (i + 1) xs))) refl
  where
    go : (o : t.OptionalOver) → has_over o ≡ true → (b : Bool) → has_rank (list_of (drop (i + 1) xs)) ≡ b → option_map (λ n. i + n) (place_from o (list_of (drop (i + 1) xs)) (only_place (list_of (drop (i + 1) xs)))) ≡ cond (has_rank (list_of (drop (i + 1) xs))) None (Some i)
    go t.no_over f b k = absurd (cc)
    go (t.some_over over) f true k = ap (λ c. option_map (λ n. i + n) (cond c None (Some 0))) k ∙ sym (ap (λ c. cond c None (Some i)) k)
    go (t.some_over over) f false k = ap (λ c. option_map (λ n. i + n) (cond c None (Some 0))) k ∙ ap Some (let j : i + 0 ≡ i = omega arith in j) ∙ sym (ap (λ c. cond c None (Some i)) k)

pub nowhere : (xs : List Item) (i : ℕ) → length xs ≤ i → from xs i ≡ None
nowhere xs i l = ap (λ ys. option_map (λ n. i + n) (only_place (list_of ys))) (drop_all i xs l)

-- ---- the list around it

abbrev at : Option ℕ → List Item → Option Ranked
at None xs = None
at (Some n) xs = ranked_by (items_view (take n xs)) (option_map item_view (slice_get xs n)) (items_view (drop (n + 1) xs))

one_more : (x : t.Item) (xs : List t.Item) (o : t.OptionalOver) (name : Option Text) (ys : List t.Item) → option_map (one_ahead x) (over_ranked xs o name ys) ≡ over_ranked (x ∷ xs) o name ys
one_more x xs t.no_over name ys = refl
one_more x xs (t.some_over over) None ys = refl
one_more x xs (t.some_over (t.over_of partition order)) (Some name) ys = refl

more : (x : t.Item) (xs : List t.Item) (o : Option t.Item) (ys : List t.Item) → option_map (one_ahead x) (ranked_by xs o ys) ≡ ranked_by (x ∷ xs) o ys
more x xs None ys = refl
more x xs (Some y) ys = one_more x xs (item_over y) (written_name y) ys

named_is : (name : Option Text) (over : t.Over) (ys : List t.Item) → named_rank name over (t.items ys) ≡ over_ranked [] (t.some_over over) name ys
named_is None over ys = refl
named_is (Some name) (t.over_of partition order) ys = refl

split : (xs : List Item) → ranked_items (list_of xs) ≡ at (only_place (list_of xs)) xs
split [] = refl
split (x ∷ xs) = go (item_over (item_view x)) refl (only_place (list_of xs)) (ranked_items (list_of xs)) (split xs)
  where
    go : (o : t.OptionalOver) → item_over (item_view x) ≡ o → (p : Option ℕ) (others : Option Ranked) → others ≡ at p xs → ranked_from o (item_view x) (list_of xs) others ≡ at (place_from o (list_of xs) p) (x ∷ xs)
    go t.no_over e None others h = ap (option_map (one_ahead (item_view x))) h
    go t.no_over e (Some n) others h =
        let j : suc n + 1 ≡ suc (n + 1) = omega arith in
        ap (option_map (one_ahead (item_view x))) h
        ∙ more (item_view x) (items_view (take n xs)) (option_map item_view (slice_get xs n)) (items_view (drop (n + 1) xs))
        ∙ ap (λ m. ranked_by (items_view (take (suc n) (x ∷ xs))) (option_map item_view (slice_get (x ∷ xs) (suc n))) (items_view (drop m (x ∷ xs)))) (sym j)
    go (t.some_over over) e p others h = last (has_rank (list_of xs))
      where
        last : (b : Bool) → cond b None (named_rank (written_name (item_view x)) over (list_of xs)) ≡ at (cond b None (Some 0)) (x ∷ xs)
        last true = refl
        last false =
            named_is (written_name (item_view x)) over (items_view xs)
            ∙ ap (λ o. over_ranked [] o (written_name (item_view x)) (items_view xs)) (sym e)

pub split_none : (xs : List Item) → only_place (list_of xs) ≡ None → ranked_items (list_of xs) ≡ None
split_none xs e = split xs ∙ ap (λ p. at p xs) e

pub split_at : (xs : List Item) (n : ℕ) → only_place (list_of xs) ≡ Some n → ranked_items (list_of xs) ≡ ranked_by (items_view (take n xs)) (option_map item_view (slice_get xs n)) (items_view (drop (n + 1) xs))
split_at xs n e = split xs ∙ ap (λ p. at p xs) e
