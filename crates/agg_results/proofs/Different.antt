-- Different values, one by one.
use Rattle.std.proofs.Common.{◌≡◌, ℕ, zero, suc, ◌+◌, ◌<◌, ◌==◌, Bool, true, false, cond, List, [], ◌∷◌, length, Option, Some, None, refl, sym, ap, ◌∙◌, arith}
use Rattle.std.specs.List.Sorted.{IsStrictlySortedBy}
use Rattle.std.specs.Ordering.{match_ordering, is_eq, eq_by_cmp}
use Rattle.std.specs.declared.cmp.Ordering.TheVariants.{Less, Equal, Greater}
use Rattle.std.specs.BTreeMap.{insert_entry, is_at}
use Rattle.std.specs.Map.{keys_of}
use Rattle.std.specs.Cmp.{Equal-is}
use Rattle.std.proofs.lemmas.Bool.{eqb-true}
use Rattle.std.proofs.lemmas.Map.{NonePasses}
use Rattle.std.proofs.lemmas.Map.Keys.{sorted_tail}
use Rattle.std.proofs.lemmas.Map.Entries.{none_below_head}
use Rattle.ct_value.specs.Bag.{none, add, add_many, bag_of, bag_of_counts, copies, one_at, weigh}
use Rattle.ct_value.proofs.laws.Bags.{add-add, copies-none, copies-add, same_bag, one_at_itself, total-bag_of}
use Rattle.ct_value.specs.Order.{value_cmp, value_total, value_exact}
use Rattle.ct_value.specs.declared.row.Row.{Row}
use Rattle.ct_value.specs.declared.value.Value.{Value}
use Rattle.rel_algebra.specs.declared.agg.Agg.{Agg}
use Rattle.rel_algebra.specs.Aggregates.{Values, size, known, values_of}
use Rattle.rel_algebra.specs.Sums.{distinct}
use Rattle.rel_algebra.proofs.laws.Bags.{copies-distinct, distinct-none}
use Rattle.agg_results.specs.Seen.{seen_too}
use Rattle.agg_results.specs.Taken.{taken}
use Rattle.agg_results.proofs.ExtremeItems.{known-many, known-none, add_taken_many}

-- ---- one value more

-- 1 where there is something
abbrev pub once : ℕ → ℕ
once n = cond {A = ℕ} (n == 0) 0 1

some_test : (n : ℕ) → 0 < n → (n == 0) ≡ false
some_test n h = elim (n == 0) as (λ b. (n == 0) ≡ b → b ≡ false) [ true ↦ λ e. absurd (let z = eqb-true n 0 e in omega arith) | false ↦ λ e. refl ] refl

once-some : (n : ℕ) → 0 < n → once n ≡ 1
once-some n h = ap (λ b. cond {A = ℕ} b 0 1) (some_test n h)

-- a value that is there isn't put again
seen-there : (values : Values) (value : Value) → 0 < copies values value → seen_too (Some value) values ≡ values
seen-there values value h = ap (λ b. cond b (add values value) values) (some_test (copies values value) h)

-- one that isn't there is
seen-new : (values : Values) (value : Value) → copies values value ≡ 0 → seen_too (Some value) values ≡ add values value
seen-new values value e = ap (λ (n : ℕ). cond (n == 0) (add values value) values) e

distinct-add : (values : Values) (value : Value) → distinct (add values value) ≡ seen_too (Some value) (distinct values)
distinct-add values value = same_bag value_total value_exact _ _ (λ w. go w (eq_by_cmp value_cmp w value) refl (copies values value) refl)
  where
    before : (w : Value) → copies (distinct (add values value)) w ≡ once (one_at value_cmp w value + copies values w)
    before w = copies-distinct value_total value_exact (add values value) w ∙ ap once (copies-add value_total values value w)

    at : (w : Value) → copies (distinct values) w ≡ once (copies values w)
    at w = copies-distinct value_total value_exact values w

    go : (w : Value) (t : Bool) → eq_by_cmp value_cmp w value ≡ t → (k : ℕ) → copies values value ≡ k → copies (distinct (add values value)) w ≡ copies (seen_too (Some value) (distinct values)) w
    go w true e zero g =
        let same : w ≡ value = value_exact w value ((Equal-is (value_cmp w value)).0 e) in
        let one_ : one_at value_cmp w value ≡ 1 = ap (λ b. cond b 1 0) e in
        let here : copies values w ≡ 0 = ap (copies values) same ∙ g in
        let new : copies (seen_too (Some value) (distinct values)) w ≡ one_at value_cmp w value + copies (distinct values) w = ap (λ (b : Values). copies b w) (seen-new (distinct values) value (at value ∙ ap once g)) ∙ copies-add value_total (distinct values) value w in
        let left : once (one_at value_cmp w value + copies values w) ≡ 1 = once-some _ (omega arith) in
        let right : copies (distinct values) w ≡ 0 = at w ∙ ap once here in
        omega (arith, before w, left, new, right, one_)
    go w false e zero g =
        let none_ : one_at value_cmp w value ≡ 0 = ap (λ b. cond b 1 0) e in
        let new : copies (seen_too (Some value) (distinct values)) w ≡ one_at value_cmp w value + copies (distinct values) w = ap (λ (b : Values). copies b w) (seen-new (distinct values) value (at value ∙ ap once g)) ∙ copies-add value_total (distinct values) value w in
        let left : once (one_at value_cmp w value + copies values w) ≡ once (copies values w) = ap once (let h : one_at value_cmp w value + copies values w ≡ copies values w = omega arith in h) in
        omega (arith, before w, left, new, at w, none_)
    go w true e (suc k) g =
        let same : w ≡ value = value_exact w value ((Equal-is (value_cmp w value)).0 e) in
        let one_ : one_at value_cmp w value ≡ 1 = ap (λ b. cond b 1 0) e in
        let there : once (copies values value) ≡ 1 = once-some _ (omega arith) in
        let kept : copies (seen_too (Some value) (distinct values)) w ≡ copies (distinct values) w = ap (λ (b : Values). copies b w) (seen-there (distinct values) value (omega (arith, at value, there))) in
        let left : once (one_at value_cmp w value + copies values w) ≡ 1 = once-some _ (omega arith) in
        let right : copies (distinct values) w ≡ 1 = ap (copies (distinct values)) same ∙ at value ∙ there in
        omega (arith, before w, left, kept, right)
    go w false e (suc k) g =
        let none_ : one_at value_cmp w value ≡ 0 = ap (λ b. cond b 1 0) e in
        let there : once (copies values value) ≡ 1 = once-some _ (omega arith) in
        let kept : copies (seen_too (Some value) (distinct values)) w ≡ copies (distinct values) w = ap (λ (b : Values). copies b w) (seen-there (distinct values) value (omega (arith, at value, there))) in
        let left : once (one_at value_cmp w value + copies values w) ≡ once (copies values w) = ap once (let h : one_at value_cmp w value + copies values w ≡ copies values w = omega arith in h) in
        omega (arith, before w, left, kept, at w)

seen-twice : (values : Values) (value : Value) → seen_too (Some value) (seen_too (Some value) values) ≡ seen_too (Some value) values
seen-twice values value = go (copies values value) refl
  where
    go : (n : ℕ) → copies values value ≡ n → seen_too (Some value) (seen_too (Some value) values) ≡ seen_too (Some value) values
    go zero e = ap (seen_too (Some value)) (seen-new values value e)
        ∙ seen-there (add values value) value (let h = copies-add value_total values value value in let i = one_at_itself value_cmp value_total value in omega arith)
        ∙ sym (seen-new values value e)
    go (suc n) e = ap (seen_too (Some value)) (seen-there values value (omega arith))

distinct-many : (values : Values) (value : Value) (n : ℕ) → distinct (add_many values value (suc n)) ≡ seen_too (Some value) (distinct values)
distinct-many values value zero = distinct-add values value
distinct-many values value (suc n) = distinct-add (add_many values value (suc n)) value ∙ ap (seen_too (Some value)) (distinct-many values value n) ∙ seen-twice (distinct values) value

pub distinct-entry : (agg : Agg) (row : Row) (entries : List (Row × ℕ)) (n : ℕ) → 0 < n → distinct (known (values_of agg (bag_of_counts ((row, n) ∷ entries)))) ≡ seen_too (taken agg row) (distinct (known (values_of agg (bag_of_counts entries))))
distinct-entry agg row entries zero h = absurd (omega arith)
distinct-entry agg row entries (suc n) h = ap (λ (b : Values). distinct b) (known-many agg (bag_of_counts entries) row (suc n)) ∙ go (taken agg row)
  where
    go : (o : Option Value) → distinct (add_taken_many o (known (values_of agg (bag_of_counts entries))) (suc n)) ≡ seen_too o (distinct (known (values_of agg (bag_of_counts entries))))
    go None = refl
    go (Some value) = distinct-many (known (values_of agg (bag_of_counts entries))) value n

pub distinct-start : (agg : Agg) → distinct (known (values_of agg none)) ≡ none
distinct-start agg = ap (λ (b : Values). distinct b) (known-none agg) ∙ distinct-none value_total value_exact

-- ---- values that were seen, in a map

absent : (value : Value) (entries : List (Value × Unit {0})) → NonePasses (is_at (value_cmp value)) entries → copies (bag_of {R = value_cmp} (keys_of entries)) value ≡ 0
absent value [] h = copies-none value_total value
absent value (entry ∷ entries) h =
    copies-add value_total (bag_of (keys_of entries)) entry.0 value
    ∙ let a : one_at value_cmp value entry.0 ≡ 0 = ap (λ b. cond b 1 0) h.0 in let b = absent value entries h.1 in omega arith

pub keys-insert : (entries : List (Value × Unit {0})) (value : Value) (mark : Unit {0}) → IsStrictlySortedBy value_cmp (keys_of entries) → bag_of {R = value_cmp} (keys_of (insert_entry value_cmp entries value mark)) ≡ seen_too (Some value) (bag_of (keys_of entries))
keys-insert [] value mark s = sym (seen-new none value (copies-none value_total value))
keys-insert (entry ∷ entries) value mark s =
    elim (value_cmp value entry.0) as (λ o. value_cmp value entry.0 ≡ o → bag_of {R = value_cmp} (keys_of (match_ordering o ((value, mark) ∷ entry ∷ entries) ((entry.0, mark) ∷ entries) (entry ∷ insert_entry value_cmp entries value mark))) ≡ seen_too (Some value) (bag_of (keys_of (entry ∷ entries)))) [
      | Less ↦ λ g. sym (seen-new (bag_of (keys_of (entry ∷ entries))) value (absent value (entry ∷ entries) (none_below_head value_total value entry entries s g)))
      | Equal ↦ λ g. sym (seen-there (bag_of (keys_of (entry ∷ entries))) value (
          let a = copies-add value_total (bag_of (keys_of entries)) entry.0 value in
          let b : one_at value_cmp value entry.0 ≡ 1 = ap (λ o. cond (is_eq o) 1 0) g in omega arith))
      | Greater ↦ λ g. ap (λ (b : Values). add b entry.0) (keys-insert entries value mark (sorted_tail value_cmp entry.0 (keys_of entries) s)) ∙ behind (bag_of (keys_of entries)) g
    ] refl
  where
    behind : (values : Values) → value_cmp value entry.0 ≡ Greater → add (seen_too (Some value) values) entry.0 ≡ seen_too (Some value) (add values entry.0)
    behind values g = go (copies values value) refl
      where
        apart : one_at value_cmp value entry.0 ≡ 0
        apart = ap (λ o. cond (is_eq o) 1 0) g

        go : (n : ℕ) → copies values value ≡ n → add (seen_too (Some value) values) entry.0 ≡ seen_too (Some value) (add values entry.0)
        go zero e =
            ap (λ (b : Values). add b entry.0) (seen-new values value e) ∙ add-add value_total value_exact values value entry.0
            ∙ sym (seen-new (add values entry.0) value (let a = copies-add value_total values entry.0 value in let b = apart in omega arith))
        go (suc n) e =
            ap (λ (b : Values). add b entry.0) (seen-there values value (omega arith))
            ∙ sym (seen-there (add values entry.0) value (let a = copies-add value_total values entry.0 value in let b = apart in omega arith))

pub size-bag_of : (values : List Value) → size (bag_of values) ≡ length values
size-bag_of values = total-bag_of value_total (λ _. 1) values ∙ go values
  where
    go : (values : List Value) → weigh (λ _. 1) values ≡ length values
    go [] = refl
    go (value ∷ values) = let h = go values in omega arith
