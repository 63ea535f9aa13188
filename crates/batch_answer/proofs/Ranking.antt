-- The first rows of a partition, from its rows sorted with their counts.
use Rattle.std.proofs.Common.{◌≡◌, ℕ, zero, suc, ◌+◌, ◌*◌, ◌-◌, ◌<◌, ◌≤◌, ◌^◌, Bool, true, false, not, T, List, [], ◌∷◌, map, take, length, get_or, Some, refl, sym, ap, ◌∙◌, subst, arith}
use Rattle.std.specs.Prelude.{◌&&◌}
use Rattle.std.specs.List.{AllByRecursion, sum_by}
use Rattle.std.specs.List.Sorted.{IsSortedBy, IsPermutation}
use Rattle.std.specs.Ordering.{is_lt, is_gt, ordering_reverse}
use Rattle.std.specs.declared.cmp.Ordering.{Ordering}
use Rattle.std.specs.declared.cmp.Ordering.TheVariants.{Less, Equal, Greater}
use Rattle.std.specs.Cmp.{tied_itself}
use Rattle.std.proofs.lemmas.List.Sorted.{sum_by-IsPermutation, sorted_far, ranks_by}
use Rattle.std.proofs.lemmas.List.Sums.{sum_by-cons}
use Rattle.ct_value.specs.Bag.{items, items_in_order, none, add, add_many, bag_of, bag_of_counts, copies, weigh, one_at, at_most_all, in_order}
use Rattle.ct_value.proofs.laws.Bags.{copies-occurs, copies-bag_of, same_items, total-bag_of_counts}
use Rattle.ct_value.specs.Order.{row_cmp, row_total, row_exact}
use Rattle.ct_value.specs.Rows.{project}
use Rattle.ct_value.specs.declared.row.Row.{Row}
use Rattle.ct_change.specs.Changelog.{Rows}
use Rattle.ct_change.specs.Counts.{each_copy, repeated}
use Rattle.rel_algebra.specs.declared.sort.SortCol.{SortCol}
use Rattle.rel_algebra.specs.Keys.{rows_of_key}
use Rattle.rel_algebra.specs.Ranks.{rank_cmp, in_rank_order, ranked_from, shown, first_rows}
use Rattle.rel_algebra.proofs.laws.Ranks.{rank_total, rank_exact}
use Rattle.rel_algebra.specs.Sums.{together, plus}
use Rattle.rel_algebra.proofs.laws.Bags.{plus-none-right, together-comm, together-none}
use Rattle.batch_answer.specs.Ranking.{tail}
use Rattle.batch_answer.specs.Tallies.{OfRows, Unfit, times}
use Rattle.batch_answer.proofs.Indexes.{together-shift}
use Rattle.batch_answer.proofs.Sums.{unfit-plus, unfit-many, unfit-same}

-- ---- what sorted entries list

weigh-repeated : (f : Row → ℕ) (row : Row) (n : ℕ) (rows : List Row) → weigh f (repeated row n rows) ≡ n * f row + weigh f rows
weigh-repeated f row zero rows = omega arith
weigh-repeated f row (suc n) rows = let h = weigh-repeated f row n rows in omega arith

weigh-copies : (f : Row → ℕ) (entries : List (Row × ℕ)) → weigh f (each_copy entries) ≡ weigh (λ e. e.1 * f e.0) entries
weigh-copies f [] = refl
weigh-copies f (entry ∷ entries) = weigh-repeated f entry.0 entry.1 (each_copy entries) ∙ ap (λ n. entry.1 * f entry.0 + n) (weigh-copies f entries)

weigh-sum_by : (f : Row × ℕ → ℕ) (entries : List (Row × ℕ)) → weigh f entries ≡ sum_by f entries
weigh-sum_by f [] = refl
weigh-sum_by f (entry ∷ entries) = ap (λ n. f entry + n) (weigh-sum_by f entries) ∙ sym (sum_by-cons f entry entries)

module _ (sorts : List SortCol) where
  both : (a b : Bool) → T a → T b → T (a && b)
  both true b p q = q
  both false b p q = p

  is_not : (b : Bool) → b ≡ false → T (not b)
  is_not b e = subst (λ c. T (not c)) (sym e) tt

  below-repeated : (row other : Row) (n : ℕ) (rows : List Row) → is_gt (rank_cmp sorts row other) ≡ false → T (at_most_all (rank_cmp sorts) row rows) → T (at_most_all (rank_cmp sorts) row (repeated other n rows))
  below-repeated row other zero rows e h = h
  below-repeated row other (suc n) rows e h = both _ _ (is_not _ e) (below-repeated row other n rows e h)

  below-copies : (row : Row) (entries : List (Row × ℕ)) → AllByRecursion (λ e. is_gt (rank_cmp sorts row e.0) ≡ false) entries → T (at_most_all (rank_cmp sorts) row (each_copy entries))
  below-copies row [] h = tt
  below-copies row (entry ∷ entries) h = below-repeated row entry.0 entry.1 (each_copy entries) h.0 (below-copies row entries h.1)

  in_order-repeated : (row : Row) (n : ℕ) (rows : List Row) → T (at_most_all (rank_cmp sorts) row rows) → T (in_order (rank_cmp sorts) rows) → T (in_order (rank_cmp sorts) (repeated row n rows))
  in_order-repeated row zero rows h g = g
  in_order-repeated row (suc n) rows h g = both _ _ (below-repeated row row n rows (ap is_gt (tied_itself (rank_total sorts) row)) h) (in_order-repeated row n rows h g)

  -- each entry's row stands at most at those behind it
  abbrev pub Rising : List (Row × ℕ) → Type 0
  Rising [] = Unit {0}
  Rising (entry ∷ entries) = AllByRecursion (λ e. is_gt (rank_cmp sorts entry.0 e.0) ≡ false) entries × Rising entries

  in_order-copies : (entries : List (Row × ℕ)) → Rising entries → T (in_order (rank_cmp sorts) (each_copy entries))
  in_order-copies [] h = tt
  in_order-copies (entry ∷ entries) h = in_order-repeated entry.0 entry.1 (each_copy entries) (below-copies entry.0 entries h.0) (in_order-copies entries h.1)

  not_less : (row other : Row) → is_lt (rank_cmp sorts other row) ≡ false → is_gt (rank_cmp sorts row other) ≡ false
  not_less row other e = go (rank_cmp sorts other row) ((rank_total sorts).antisymm row other) e
    where
      go : (r : Ordering) → rank_cmp sorts row other ≡ ordering_reverse r → is_lt r ≡ false → is_gt (rank_cmp sorts row other) ≡ false
      go Less g f = absurd (cc)
      go Equal g f = ap is_gt g
      go Greater g f = ap is_gt g

  abbrev pub lt : Row × ℕ → Row × ℕ → Bool
  lt x y = is_lt (rank_cmp sorts x.0 y.0)

  all_below : (entry : Row × ℕ) (entries : List (Row × ℕ)) → ((k : ℕ) → k < length entries → lt (get_or entries k entry) entry ≡ false) → AllByRecursion (λ e. is_gt (rank_cmp sorts entry.0 e.0) ≡ false) entries
  all_below entry [] h = tt
  all_below entry (other ∷ entries) h = (not_less entry.0 other.0 (h zero (omega arith)), all_below entry entries (λ k l. h (suc k) (omega arith)))

  rising : (entries : List (Row × ℕ)) → ((i j : ℕ) (d : Row × ℕ) → i ≤ j → j < length entries → lt (get_or entries j d) (get_or entries i d) ≡ false) → Rising entries
  rising [] h = tt
  rising (entry ∷ entries) h = (all_below entry entries (λ k l. h zero (suc k) entry (omega arith) (omega arith)), rising entries (λ i j d p q. h (suc i) (suc j) d (omega arith) (omega arith)))

  pub rising-sorted : (entries : List (Row × ℕ)) → IsSortedBy lt entries → Rising entries
  rising-sorted entries h = rising entries (λ i j d p q. sorted_far lt (ranks_by (rank_total sorts) (λ (e : Row × ℕ). e.0)) entries h i j d p q)

  -- the rows in rank order are the sorted entries, each copy by itself
  pub order-sorted : (members entries : List (Row × ℕ)) → IsPermutation members entries → IsSortedBy lt entries → in_rank_order sorts (bag_of_counts members) ≡ each_copy entries
  order-sorted members entries p h =
      same_items (rank_cmp sorts) (rank_total sorts) (rank_exact sorts) (in_rank_order sorts (bag_of_counts members)) (each_copy entries)
      (items_in_order (bag_of {R = rank_cmp sorts} (items (bag_of_counts {R = row_cmp} members))))
      (in_order-copies entries (rising-sorted entries h))
      (λ x.
      sym (copies-occurs (bag_of {R = rank_cmp sorts} (items (bag_of_counts {R = row_cmp} members))) x)
      ∙ copies-bag_of (rank_total sorts) (items (bag_of_counts {R = row_cmp} members)) x
      ∙ total-bag_of_counts row_total (one_at (rank_cmp sorts) x) members
      ∙ weigh-sum_by (λ e. e.1 * one_at (rank_cmp sorts) x e.0) members
      ∙ sym (sum_by-IsPermutation (λ e. e.1 * one_at (rank_cmp sorts) x e.0) members entries p)
      ∙ sym (weigh-sum_by (λ e. e.1 * one_at (rank_cmp sorts) x e.0) entries)
      ∙ sym (weigh-copies (one_at (rank_cmp sorts) x) entries))

  pub first-tail : (bound : ℕ) (ranked : Bool) (members entries : List (Row × ℕ)) → IsPermutation members entries → IsSortedBy lt entries → first_rows sorts bound ranked (bag_of_counts members) ≡ tail bound ranked 0 (each_copy entries)
  first-tail bound ranked members entries p h =
      ap (λ rows. bag_of (map (shown ranked) (take bound (ranked_from 1 rows)))) (order-sorted members entries p h)
      ∙ ap (λ n. bag_of (map (shown ranked) (take n (ranked_from 1 (each_copy entries))))) (let e : bound ≡ bound - 0 = omega arith in e)

-- ---- one copy more

module _ (bound : ℕ) (ranked : Bool) where
  tail-empty : (taken : ℕ) (rows : List Row) → bound ≤ taken → tail bound ranked taken rows ≡ none
  tail-empty taken rows h = ap (λ n. bag_of (map (shown ranked) (take n (ranked_from (taken + 1) rows)))) (let e : bound - taken ≡ 0 = omega arith in e)

  tail-more : (taken : ℕ) (row : Row) (rows : List Row) → taken < bound → tail bound ranked taken (row ∷ rows) ≡ add (tail bound ranked (taken + 1) rows) (shown ranked (row, taken + 1))
  tail-more taken row rows h =
      ap (λ n. bag_of (map (shown ranked) (take n (ranked_from (taken + 1) (row ∷ rows))))) (let e : bound - taken ≡ suc (bound - (taken + 1)) = omega arith in e)
      ∙ ap (λ k. add (bag_of (map (shown ranked) (take (bound - (taken + 1)) (ranked_from k rows)))) (shown ranked (row, taken + 1))) (let e : suc (taken + 1) ≡ taken + 1 + 1 = omega arith in e)

  pub taken-more : (sum new : Rows) (taken left : ℕ) (row made : Row) (rest : List Row) → taken < bound → made ≡ shown ranked (row, taken + 1) → new ≡ add_many sum made 1
      → together new (tail bound ranked (taken + 1) (repeated row left rest)) ≡ together sum (tail bound ranked taken (repeated row (suc left) rest))
  taken-more sum new taken left row made rest h e g =
      ap (λ (r : Rows). together r (tail bound ranked (taken + 1) (repeated row left rest))) g
      ∙ together-shift sum (tail bound ranked (taken + 1) (repeated row left rest)) made 1
      ∙ ap (λ r. together sum (add (tail bound ranked (taken + 1) (repeated row left rest)) r)) e
      ∙ ap (together sum) (sym (tail-more taken row (repeated row left rest) h))

  pub taken-full : (sum : Rows) (taken left : ℕ) (row made : Row) (rest : List Row) → taken < bound → made ≡ shown ranked (row, taken + 1) → 2 ^ 64 ≤ copies sum made + 1
      → Unfit (Some (together sum (tail bound ranked taken (repeated row (suc left) rest))))
  taken-full sum taken left row made rest h e many =
      unfit-same (Some (together (add_many sum made 1) (tail bound ranked (taken + 1) (repeated row left rest)))) _ (ap Some (taken-more sum (add_many sum made 1) taken left row made rest h e refl))
      (unfit-plus (Some (add_many sum made 1)) (Some (tail bound ranked (taken + 1) (repeated row left rest))) (unfit-many sum made 1 many))

  pub taken-end : (sum : Rows) (taken left : ℕ) (row : Row) (rest : List Row) → (0 < left → taken < bound → ⊥) → together sum (tail bound ranked taken rest) ≡ together sum (tail bound ranked taken (repeated row left rest))
  taken-end sum taken zero row rest h = refl
  taken-end sum taken (suc left) row rest h =
      let full : bound ≤ taken = omega (arith, h (omega arith)) in
      ap (together sum) (tail-empty taken rest full ∙ sym (tail-empty taken (repeated row (suc left) rest) full))

  pub tail-nothing : (taken : ℕ) → tail bound ranked taken [] ≡ none
  tail-nothing taken = go (bound - taken)
    where
      go : (n : ℕ) → bag_of {R = row_cmp} (map (shown ranked) (take n [])) ≡ none
      go zero = refl
      go (suc n) = refl

-- ---- each partition

-- what a partition's key gives
abbrev pub firsts : List ℕ → List SortCol → ℕ → Bool → Rows → OfRows
firsts partition sorts bound ranked rows key = Some (first_rows sorts bound ranked (rows_of_key (project partition) key rows))

-- a partition's first rows beside the others
pub firsts-beside : (sum new made : Rows) → new ≡ together sum made → plus (Some sum) (times 1 (Some made)) ≡ Some new
firsts-beside sum new made e = ap (plus (Some sum)) (plus-none-right row_total row_exact (Some made)) ∙ ap Some (sym e)

pub firsts-unfit : (sum made : Rows) → Unfit (Some (together sum made)) → Unfit (plus (Some sum) (times 1 (Some made)))
firsts-unfit sum made u = unfit-same (Some (together sum made)) (plus (Some sum) (times 1 (Some made))) (sym (firsts-beside sum (together sum made) made refl)) u

pub nothing-beside : (sum : Rows) (rows : List (Row × ℕ)) (bound : ℕ) (ranked : Bool) (taken : ℕ) → rows ≡ [] → together sum (tail bound ranked taken (each_copy rows)) ≡ sum
nothing-beside sum rows bound ranked taken e =
    ap (λ es. together sum (tail bound ranked taken (each_copy es))) e ∙ ap (together sum) (tail-nothing bound ranked taken) ∙ together-comm row_total row_exact sum none ∙ together-none row_total row_exact sum
