-- The first and the last of the values that a call takes, row by row from the last.
use Rattle.std.proofs.Common.{◌≡◌, ℕ, zero, suc, ◌+◌, ◌<◌, ◌≤◌, Bool, true, false, cond, not, T, List, [], ◌∷◌, drop, length, get_or, Option, Some, None, refl, sym, ap, ◌∙◌, subst, arith}
use Rattle.std.specs.Prelude.{◌&&◌}
use Rattle.std.specs.Ordering.{is_gt}
use Rattle.std.specs.Cmp.{upto}
use Rattle.std.proofs.lemmas.List.{at_drop_more, at_drop_all}
use Rattle.ct_value.specs.Bag.{items, items_in_order, none, add, add_many, bag_of_counts, put, at_most_all, in_order}
use Rattle.ct_value.proofs.laws.Bags.{items-add}
use Rattle.ct_value.specs.Order.{value_cmp, value_total, value_exact, row_cmp, row_total, row_exact}
use Rattle.ct_value.specs.declared.row.Row.{Row}
use Rattle.ct_value.specs.declared.value.Value.{Value}
use Rattle.ct_change.specs.Changelog.{Rows}
use Rattle.ct_field.specs.Typed.{is_null}
use Rattle.rel_algebra.specs.declared.agg.Agg.{Agg}
use Rattle.rel_algebra.specs.Aggregates.{Values, known, values_of, argument, passes, first_value, last_value}
use Rattle.rel_algebra.specs.Sums.{add_where, restrict, mapped}
use Rattle.rel_algebra.proofs.laws.Bags.{restrict-add, restrict-none, mapped-add, mapped-none}
use Rattle.agg_results.specs.Extremes.{lesser, greater}
use Rattle.agg_results.specs.Taken.{AreCounted, taken, or_null}

abbrev pub first_item : List Value → Option Value
first_item [] = None
first_item (value ∷ values) = Some value

abbrev pub last_item : List Value → Option Value
last_item [] = None
last_item (value ∷ []) = Some value
last_item (value ∷ other ∷ values) = last_item (other ∷ values)

pub first-value : (values : List Value) → or_null (first_item values) ≡ first_value values
first-value [] = refl
first-value (value ∷ values) = refl

pub last-value : (values : List Value) → or_null (last_item values) ≡ last_value values
last-value [] = refl
last-value (value ∷ []) = refl
last-value (value ∷ other ∷ values) = last-value (other ∷ values)

-- ---- one row more

-- a bag of values with the value, where there is one
abbrev pub add_taken : Option Value → Values → Values
add_taken None values = values
add_taken (Some value) values = add values value

abbrev pub add_taken_many : Option Value → Values → ℕ → Values
add_taken_many None values n = values
add_taken_many (Some value) values n = add_many values value n

known-add : (agg : Agg) (rows : Rows) (row : Row) → known (values_of agg (add rows row)) ≡ add_taken (taken agg row) (known (values_of agg rows))
known-add agg rows row =
    ap (λ (r : Rows). known (mapped (argument agg.arg) r)) (restrict-add row_total row_exact (passes agg.filter) rows row)
    ∙ go (passes agg.filter row)
  where
    at : (b : Bool) (value : Value) (values : Values) → add_where b value values ≡ add_taken (cond b (Some value) None) values
    at true value values = refl
    at false value values = refl

    go : (b : Bool) → known (mapped (argument agg.arg) (add_where b row (restrict (passes agg.filter) rows))) ≡ add_taken (cond (b && not (is_null (argument agg.arg row))) (Some (argument agg.arg row)) None) (known (values_of agg rows))
    go true =
        ap known (mapped-add value_total value_exact row_total row_exact (argument agg.arg) (restrict (passes agg.filter) rows) row)
        ∙ restrict-add value_total value_exact (λ value. not (is_null value)) (values_of agg rows) (argument agg.arg row)
        ∙ at (not (is_null (argument agg.arg row))) (argument agg.arg row) (known (values_of agg rows))
    go false = refl

pub known-many : (agg : Agg) (rows : Rows) (row : Row) (n : ℕ) → known (values_of agg (add_many rows row n)) ≡ add_taken_many (taken agg row) (known (values_of agg rows)) n
known-many agg rows row zero = go (taken agg row)
  where
    go : (o : Option Value) → known (values_of agg rows) ≡ add_taken_many o (known (values_of agg rows)) zero
    go None = refl
    go (Some value) = refl
known-many agg rows row (suc n) = known-add agg (add_many rows row n) row ∙ ap (add_taken (taken agg row)) (known-many agg rows row n) ∙ go (taken agg row)
  where
    go : (o : Option Value) → add_taken o (add_taken_many o (known (values_of agg rows)) n) ≡ add_taken_many o (known (values_of agg rows)) (suc n)
    go None = refl
    go (Some value) = refl

-- ---- the first

first-put : (value : Value) (values : List Value) → first_item (put value_cmp value values) ≡ lesser (Some value) (first_item values)
first-put value [] = refl
first-put value (other ∷ values) = elim (is_gt (value_cmp value other)) as (λ b. first_item (cond b (other ∷ put value_cmp value values) (value ∷ other ∷ values)) ≡ cond b (Some other) (Some value)) [ true ↦ refl | false ↦ refl ]

same_twice : (b : Bool) (value : Value) → cond b (Some value) (Some value) ≡ Some value
same_twice true value = refl
same_twice false value = refl

lesser-twice : (value : Value) (best : Option Value) → lesser (Some value) (lesser (Some value) best) ≡ lesser (Some value) best
lesser-twice value None = same_twice (is_gt (value_cmp value value)) value
lesser-twice value (Some other) = elim (is_gt (value_cmp value other)) as (λ b. is_gt (value_cmp value other) ≡ b → lesser (Some value) (cond b (Some other) (Some value)) ≡ cond b (Some other) (Some value)) [
  | true ↦ λ e. ap (λ b. cond b (Some other) (Some value)) e
  | false ↦ λ e. same_twice (is_gt (value_cmp value value)) value
] refl

first-many : (values : Values) (value : Value) (n : ℕ) → first_item (items (add_many values value (suc n))) ≡ lesser (Some value) (first_item (items values))
first-many values value zero = ap first_item (items-add value_total values value) ∙ first-put value (items values)
first-many values value (suc n) =
    ap first_item (items-add value_total (add_many values value (suc n)) value) ∙ first-put value (items (add_many values value (suc n)))
    ∙ ap (lesser (Some value)) (first-many values value n) ∙ lesser-twice value (first_item (items values))

-- ---- the last

at_least-last : (value : Value) (values : List Value) (last : Value) → T (at_most_all value_cmp value values) → last_item values ≡ Some last → is_gt (value_cmp value last) ≡ false
at_least-last value [] last h e = absurd (cc)
at_least-last value (other ∷ []) last h e = let same : other ≡ last = cc in subst (λ v. is_gt (value_cmp value v) ≡ false) same (was_not (is_gt (value_cmp value other)) (first_of (not (is_gt (value_cmp value other))) true h))
  where
    first_of : (a b : Bool) → T (a && b) → T a
    first_of true b p = tt
    first_of false b p = p

    was_not : (b : Bool) → T (not b) → b ≡ false
    was_not true p = absurd p
    was_not false p = refl
at_least-last value (other ∷ third ∷ values) last h e = at_least-last value (third ∷ values) last (second_of (not (is_gt (value_cmp value other))) _ h) e
  where
    second_of : (a b : Bool) → T (a && b) → T b
    second_of true b p = p
    second_of false b p = absurd p

some_last : (value : Value) (values : List Value) → (last : Value) × (last_item (value ∷ values) ≡ Some last)
some_last value [] = (value, refl)
some_last value (other ∷ values) = some_last other values

last-more : (value : Value) (values : List Value) (last : Value) → last_item values ≡ Some last → last_item (value ∷ values) ≡ Some last
last-more value [] last e = absurd (cc)
last-more value (other ∷ values) last e = e

put-some : (value : Value) (values : List Value) → (first : Value) × (rest : List Value) × (put value_cmp value values ≡ first ∷ rest)
put-some value [] = (value, [], refl)
put-some value (other ∷ values) = elim (is_gt (value_cmp value other)) as (λ b. (first : Value) × (rest : List Value) × (cond b (other ∷ put value_cmp value values) (value ∷ other ∷ values) ≡ first ∷ rest)) [
  | true ↦ (other, put value_cmp value values, refl)
  | false ↦ (value, other ∷ values, refl)
]

skip-first : (value : Value) (values : List Value) (first : Value) (rest : List Value) → values ≡ first ∷ rest → last_item (value ∷ values) ≡ last_item values
skip-first value values first rest e = ap (λ vs. last_item (value ∷ vs)) e ∙ ap last_item (sym e)

last-put : (value : Value) (values : List Value) → T (in_order value_cmp values) → last_item (put value_cmp value values) ≡ greater (Some value) (last_item values)
last-put value [] h = refl
last-put value (other ∷ values) h =
    elim (is_gt (value_cmp value other)) as (λ b. is_gt (value_cmp value other) ≡ b → last_item (cond b (other ∷ put value_cmp value values) (value ∷ other ∷ values)) ≡ greater (Some value) (last_item (other ∷ values))) [
      | true ↦ λ e. let p = put-some value values in skip-first other (put value_cmp value values) p.0 p.1 p.2 ∙ last-put value values (second_of (at_most_all value_cmp other values) _ h) ∙ beyond values e
      | false ↦ λ e. let last = some_last other values in last.1 ∙ sym (ap (greater (Some value)) last.1 ∙ ap (λ b. cond b (Some value) (Some last.0)) (kept values h e last.0 last.1))
    ] refl
  where
    second_of : (a b : Bool) → T (a && b) → T b
    second_of true b p = p
    second_of false b p = absurd p

    first_of : (a b : Bool) → T (a && b) → T a
    first_of true b p = tt
    first_of false b p = p

    both : (a b : Bool) → T a → T b → T (a && b)
    both true b p q = q
    both false b p q = p

    beyond : (values : List Value) → is_gt (value_cmp value other) ≡ true → greater (Some value) (last_item values) ≡ greater (Some value) (last_item (other ∷ values))
    beyond [] e = sym (ap (λ b. cond b (Some value) (Some other)) e)
    beyond (third ∷ values) e = refl

    kept : (values : List Value) → T (in_order value_cmp (other ∷ values)) → is_gt (value_cmp value other) ≡ false → (last : Value) → last_item (other ∷ values) ≡ Some last → is_gt (value_cmp value last) ≡ false
    kept [] g e last l = let same : other ≡ last = cc in subst (λ v. is_gt (value_cmp value v) ≡ false) same e
    kept (third ∷ values) g e last l = upto value_total value other last e (at_least-last other (third ∷ values) last (first_of _ _ g) l)

greater-twice : (value : Value) (best : Option Value) → greater (Some value) (greater (Some value) best) ≡ greater (Some value) best
greater-twice value None = same_twice (is_gt (value_cmp value value)) value
greater-twice value (Some other) = elim (is_gt (value_cmp value other)) as (λ b. is_gt (value_cmp value other) ≡ b → greater (Some value) (cond b (Some value) (Some other)) ≡ cond b (Some value) (Some other)) [
  | true ↦ λ e. same_twice (is_gt (value_cmp value value)) value
  | false ↦ λ e. ap (λ b. cond b (Some value) (Some other)) e
] refl

last-many : (values : Values) (value : Value) (n : ℕ) → last_item (items (add_many values value (suc n))) ≡ greater (Some value) (last_item (items values))
last-many values value zero = ap last_item (items-add value_total values value) ∙ last-put value (items values) (items_in_order values)
last-many values value (suc n) =
    ap last_item (items-add value_total (add_many values value (suc n)) value) ∙ last-put value (items (add_many values value (suc n))) (items_in_order (add_many values value (suc n)))
    ∙ ap (greater (Some value)) (last-many values value n) ∙ greater-twice value (last_item (items values))

-- ---- one entry more

module _ (agg : Agg) (row : Row) (entries : List (Row × ℕ)) where
  pub first-more : (n : ℕ) → 0 < n → first_item (items (known (values_of agg (bag_of_counts ((row, n) ∷ entries))))) ≡ lesser (taken agg row) (first_item (items (known (values_of agg (bag_of_counts entries)))))
  first-more zero h = absurd (omega arith)
  first-more (suc n) h = ap (λ values. first_item (items values)) (known-many agg (bag_of_counts entries) row (suc n)) ∙ go (taken agg row)
    where
      go : (o : Option Value) → first_item (items (add_taken_many o (known (values_of agg (bag_of_counts entries))) (suc n))) ≡ lesser o (first_item (items (known (values_of agg (bag_of_counts entries)))))
      go None = refl
      go (Some value) = first-many (known (values_of agg (bag_of_counts entries))) value n

  pub last-more-entry : (n : ℕ) → 0 < n → last_item (items (known (values_of agg (bag_of_counts ((row, n) ∷ entries))))) ≡ greater (taken agg row) (last_item (items (known (values_of agg (bag_of_counts entries)))))
  last-more-entry zero h = absurd (omega arith)
  last-more-entry (suc n) h = ap (λ values. last_item (items values)) (known-many agg (bag_of_counts entries) row (suc n)) ∙ go (taken agg row)
    where
      go : (o : Option Value) → last_item (items (add_taken_many o (known (values_of agg (bag_of_counts entries))) (suc n))) ≡ greater o (last_item (items (known (values_of agg (bag_of_counts entries)))))
      go None = refl
      go (Some value) = last-many (known (values_of agg (bag_of_counts entries))) value n

pub known-none : (agg : Agg) → known (values_of agg none) ≡ none
known-none agg = ap (λ (r : Rows). known (mapped (argument agg.arg) r)) (restrict-none row_total row_exact (passes agg.filter)) ∙ ap known (mapped-none value_total value_exact row_cmp (argument agg.arg)) ∙ restrict-none value_total value_exact (λ value. not (is_null value))

-- ---- entries from the last on

pub counted_at : (entries : List (Row × ℕ)) (i : ℕ) (x : Row × ℕ) → i < length entries → x ≡ get_or entries i x → AreCounted entries → 0 < x.1
counted_at [] i x l e h = absurd (omega arith)
counted_at (entry ∷ entries) zero x l e h = subst (λ (y : Row × ℕ). 0 < y.1) (sym e) h.0.0
counted_at (entry ∷ entries) (suc i) x l e h = counted_at entries i x (omega arith) e h.1

pub drop_more : {X : Type 0} (xs : List X) (i : ℕ) (x : X) → i < length xs → x ≡ get_or xs i x → drop i xs ≡ x ∷ drop (i + 1) xs
drop_more xs i x l h = at_drop_more (λ ys. ys) xs i x l ∙ ap (λ y. y ∷ drop (i + 1) xs) (sym h)

pub drop_end : {X : Type 0} (xs : List X) (i : ℕ) → length xs ≤ i → drop i xs ≡ []
drop_end xs i l = at_drop_all (λ ys. ys) xs i l
