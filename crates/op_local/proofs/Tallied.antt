-- What tallies stand for with a row more, come or gone.
use Rattle.std.proofs.Common.{◌≡◌, ℕ, zero, suc, ◌<◌, ◌≤◌, ◌+◌, ◌^◌, ◌&&◌, Bool, true, false, cond, List, [], ◌∷◌, ◌++◌, length, take, Some, None, refl, sym, ap, subst, ◌∙◌, arith, slice_index_or}
use Rattle.std.specs.Prelude.{ℤ, pos, neg_ℤ, ◌+ℤ◌, ◌-ℤ◌, ◌<ℤ◌, ◌≤ℤ◌, Result, Ok, Err, OnOk, IfErr}
use Rattle.std.specs.List.{list_all, AllByRecursion}
use Rattle.std.proofs.lemmas.Int.{ints}
use Rattle.std.proofs.lemmas.List.{length-map, map-append, take_more}
use Rattle.ct_value.specs.Bag.{add}
use Rattle.ct_value.proofs.laws.Bags.{total-add}
use Rattle.ct_value.specs.Order.{row_total}
use Rattle.ct_value.specs.declared.row.Row.{Row}
use Rattle.ct_value.specs.declared.value.Value.{Value}
use Rattle.ct_field.specs.Numbers.{has_38_digits}
use Rattle.ct_change.specs.Changelog.{Rows}
use Rattle.rel_algebra.specs.declared.agg.Agg.{Agg}
use Rattle.rel_algebra.specs.declared.agg.AggCall.{AggCall}
use Rattle.rel_algebra.specs.Aggregates.{Values, size, values_of, argument, passes}
use Rattle.agg_fns.specs.declared.local_acc.LocalAcc.{LocalAcc}
use Rattle.agg_fns.specs.declared.local_acc.LocalAcc.TheVariants.{RowCount, ValueCount, Total, Average, Least, Greatest}
use Rattle.agg_fns.specs.ComeAndGone.{StandsForBoth}
use Rattle.agg_fns.specs.Partial.{net, net_sum, partial_fits}
use Rattle.agg_fns.specs.Picked.{picked}
use Rattle.agg_fns.proofs.laws.Picked.{values_few}
use Rattle.agg_fns.proofs.laws.Upto.{Upto, fails_at}
use Rattle.op_rules.proofs.laws.Histories.{all-append}
use Rattle.emission_rules.specs.Grouping.{row_count}
use Rattle.phase_rules.specs.LocalGrouping.{amounts_fit}
use Rattle.phase_rules.proofs.laws.LocalWorths.{values_more}
use Rattle.op_local.specs.declared.tally.Tally.{Tally}
use Rattle.op_local.specs.Amounting.{with_come, with_gone, Stands, AllStand, calls}

-- ---- the values of one call

module _ (agg : Agg) (rows : Rows) (row : Row) where
  -- a row without a value for the call adds none
  pub not_picked : picked agg (Some row) ≡ None → values_of agg (add rows row) ≡ values_of agg rows
  not_picked e =
      values_more agg rows row
      ∙ elim (passes agg.filter row) as (λ b. cond b (Some (argument agg.arg row)) None ≡ None → cond b (add (values_of agg rows) (argument agg.arg row)) (values_of agg rows) ≡ values_of agg rows) [
        | true ↦ λ q. absurd (cc)
        | false ↦ λ q. refl
      ] e

  pub is_picked : (value : Value) → picked agg (Some row) ≡ Some value → values_of agg (add rows row) ≡ add (values_of agg rows) value
  is_picked value e =
      values_more agg rows row
      ∙ elim (passes agg.filter row) as (λ b. cond b (Some (argument agg.arg row)) None ≡ Some value → cond b (add (values_of agg rows) (argument agg.arg row)) (values_of agg rows) ≡ add (values_of agg rows) value) [
        | true ↦ λ q. let is : argument agg.arg row ≡ value = cc in ap (add (values_of agg rows)) is
        | false ↦ λ q. absurd (cc)
      ] e

module _ (agg : Agg) (come gone : Rows) (comes : Bool) (row : Row) where
  pub come_same : picked agg (Some row) ≡ None → values_of agg (with_come come comes row) ≡ values_of agg come
  come_same e = elim comes as (λ b. values_of agg (with_come come b row) ≡ values_of agg come) [ true ↦ not_picked agg come row e | false ↦ refl ]

  pub gone_same : picked agg (Some row) ≡ None → values_of agg (with_gone gone comes row) ≡ values_of agg gone
  gone_same e = elim comes as (λ b. values_of agg (with_gone gone b row) ≡ values_of agg gone) [ true ↦ refl | false ↦ not_picked agg gone row e ]

  pub come_more : (value : Value) → picked agg (Some row) ≡ Some value → values_of agg (with_come come comes row) ≡ cond comes (add (values_of agg come) value) (values_of agg come)
  come_more value e = elim comes as (λ b. values_of agg (with_come come b row) ≡ cond b (add (values_of agg come) value) (values_of agg come)) [ true ↦ is_picked agg come row value e | false ↦ refl ]

  pub gone_more : (value : Value) → picked agg (Some row) ≡ Some value → values_of agg (with_gone gone comes row) ≡ cond comes (values_of agg gone) (add (values_of agg gone) value)
  gone_more value e = elim comes as (λ b. values_of agg (with_gone gone b row) ≡ cond b (values_of agg gone) (add (values_of agg gone) value)) [ true ↦ refl | false ↦ is_picked agg gone row value e ]

module _ (agg : Agg) (acc : LocalAcc) (come gone : Rows) (comes : Bool) (row : Row) where
  -- what stands for rows stands for them with a row more that has no value
  pub stands_without : picked agg (Some row) ≡ None → StandsForBoth agg.call acc (values_of agg come) (values_of agg gone) → StandsForBoth agg.call acc (values_of agg (with_come come comes row)) (values_of agg (with_gone gone comes row))
  stands_without e stands =
      subst (λ v. StandsForBoth agg.call acc v (values_of agg (with_gone gone comes row))) (sym (come_same agg come gone comes row e))
      (subst (λ v. StandsForBoth agg.call acc (values_of agg come) v) (sym (gone_same agg come gone comes row e)) stands)

  module _ (value : Value) (e : picked agg (Some row) ≡ Some value) where
    -- with one that has this value
    pub stands_with : StandsForBoth agg.call acc (cond comes (add (values_of agg come) value) (values_of agg come)) (cond comes (values_of agg gone) (add (values_of agg gone) value))
        → StandsForBoth agg.call acc (values_of agg (with_come come comes row)) (values_of agg (with_gone gone comes row))
    stands_with stands =
        subst (λ v. StandsForBoth agg.call acc v (values_of agg (with_gone gone comes row))) (sym (come_more agg come gone comes row value e))
        (subst (λ v. StandsForBoth agg.call acc (cond comes (add (values_of agg come) value) (values_of agg come)) v) (sym (gone_more agg come gone comes row value e)) stands)

    pub out_with : partial_fits agg.call (cond comes (add (values_of agg come) value) (values_of agg come)) (cond comes (values_of agg gone) (add (values_of agg gone) value)) ≡ false
        → partial_fits agg.call (values_of agg (with_come come comes row)) (values_of agg (with_gone gone comes row)) ≡ false
    out_with out = (λ i. partial_fits agg.call (come_more agg come gone comes row value e i) (gone_more agg come gone comes row value e i)) ∙ out

  -- there is room for one more
  pub room : row_count come + row_count gone + 1 < 2 ^ 63 → size (values_of agg come) + size (values_of agg gone) + 1 < 2 ^ 63
  room few = let a = values_few agg come in let b = values_few agg gone in omega (arith, a, b, few)

digits : (sum change : ℤ) → sum ≡ change → has_38_digits sum ≡ true → has_38_digits change ≡ true
digits sum change e h = ap has_38_digits (sym e) ∙ h

-- what stands for values is within its limit
pub fits : (call : AggCall) (acc : LocalAcc) (come gone : Values) → StandsForBoth call acc come gone → partial_fits call come gone ≡ true
fits call (RowCount count) come gone stands = ap (λ c. partial_fits c come gone) stands.0
fits call (ValueCount count) come gone stands = ap (λ c. partial_fits c come gone) stands.0
fits call (Total numbers) come gone (is, (count_is, sum_is, few)) = ap (λ c. partial_fits c come gone) is ∙ digits numbers.sum (net_sum come gone) sum_is few
fits call (Average numbers) come gone (is, (count_is, sum_is, few)) = ap (λ c. partial_fits c come gone) is ∙ digits numbers.sum (net_sum come gone) sum_is few
fits call (Least kept) come gone stands = ap (λ c. partial_fits c come gone) stands.0
fits call (Greatest kept) come gone stands = ap (λ c. partial_fits c come gone) stands.0

-- ---- all calls

-- a tally with a row more
pub record IsTaken (comes : Bool) (row : Row) (old new : Tally) : Type 0 where
  pub agg : new.agg ≡ old.agg
  pub stands : (come gone : Rows) → Stands come gone old → Stands (with_come come comes row) (with_gone gone comes row) new

module _ (comes : Bool) (row : Row) where
  pub all_taken : (come gone : Rows) (n : ℕ) (olds news : List Tally) → Upto (IsTaken comes row) n olds news → length olds ≤ n → AllStand come gone olds → AllStand (with_come come comes row) (with_gone gone comes row) news
  all_taken come gone n [] [] u l all = tt
  all_taken come gone n [] (new ∷ news) u l all = absurd u
  all_taken come gone n (old ∷ olds) [] u l all = absurd u
  all_taken come gone zero (old ∷ olds) (new ∷ news) u l all = absurd (omega arith)
  all_taken come gone (suc n) (old ∷ olds) (new ∷ news) u l all = ((u.0).stands come gone all.0, all_taken come gone n olds news u.1 (omega arith) all.1)

  pub same_calls : (n : ℕ) (olds news : List Tally) → Upto (IsTaken comes row) n olds news → length olds ≤ n → calls news ≡ calls olds
  same_calls n [] [] u l = refl
  same_calls n [] (new ∷ news) u l = absurd u
  same_calls n (old ∷ olds) [] u l = absurd u
  same_calls zero (old ∷ olds) (new ∷ news) u l = absurd (omega arith)
  same_calls (suc n) (old ∷ olds) (new ∷ news) u l = ap (λ a. a ∷ calls news) (u.0).agg ∙ ap (λ aggs. old.agg ∷ aggs) (same_calls n olds news u.1 (omega arith))

list_all-calls : (test : Agg → Bool) (tallies : List Tally) → list_all test (calls tallies) ≡ list_all (λ tally. test tally.agg) tallies
list_all-calls test [] = refl
list_all-calls test (tally ∷ tallies) = ap (λ b. test tally.agg && b) (list_all-calls test tallies)

-- one sum that is out of range is one too many
pub out_of_all : (R : Tally → Tally → Type 0) (come gone : Rows) (n : ℕ) (olds news : List Tally) (d : Tally) → Upto R n olds news → n < length olds
    → partial_fits (slice_index_or news n d).agg.call (values_of (slice_index_or news n d).agg come) (values_of (slice_index_or news n d).agg gone) ≡ false → amounts_fit (calls olds) come gone ≡ false
out_of_all R come gone n olds news d u l out =
    list_all-calls (λ agg. partial_fits agg.call (values_of agg come) (values_of agg gone)) olds
    ∙ fails_at R (λ tally. partial_fits tally.agg.call (values_of tally.agg come) (values_of tally.agg gone)) n olds news d u l out

both : (a b : Bool) → a ≡ true → b ≡ true → (a && b) ≡ true
both true b e f = f
both false b e f = e

-- tallies that stand for rows are within their limits
pub all_fit : (come gone : Rows) (tallies : List Tally) → AllStand come gone tallies → amounts_fit (calls tallies) come gone ≡ true
all_fit come gone [] all = refl
all_fit come gone (tally ∷ tallies) all =
    both (partial_fits tally.agg.call (values_of tally.agg come) (values_of tally.agg gone)) (amounts_fit (calls tallies) come gone)
    (fits tally.agg.call tally.acc (values_of tally.agg come) (values_of tally.agg gone) all.0) (all_fit come gone tallies all.1)

-- what holds of each call holds of each tally's
pub of_calls : (P : Agg → Type 0) (tallies : List Tally) → AllByRecursion P (calls tallies) → AllByRecursion (λ tally. P tally.agg) tallies
of_calls P [] all = tt
of_calls P (tally ∷ tallies) all = (all.0, of_calls P tallies all.1)

-- ---- one tally more

pub stand_push : (come gone : Rows) (tallies : List Tally) (tally : Tally) → AllStand come gone tallies → Stands come gone tally → AllStand come gone (tallies ++ tally ∷ [])
stand_push come gone tallies tally all stands = all-append (Stands come gone) tallies (tally ∷ []) all (stands, tt)

pub calls_push : (n : ℕ) (aggs : List Agg) (d : Agg) (tallies : List Tally) (tally : Tally) → n < length aggs → calls tallies ≡ take n aggs → tally.agg ≡ slice_index_or aggs n d → calls (tallies ++ tally ∷ []) ≡ take (n + 1) aggs
calls_push n aggs d tallies tally l before is = map-append (λ (t : Tally). t.agg) tallies (tally ∷ []) ∙ (λ i. before i ++ is i ∷ []) ∙ sym (take_more aggs n d l)

-- ---- what follows of a result

pub on_ok : {T E : Type 0} (r : Result T E) {P Q : Type 0} → (P → Q) → OnOk r P → OnOk r Q
on_ok (Ok x) h p = h p
on_ok (Err x) h p = tt

pub if_err : {T E : Type 0} (r : Result T E) {P Q : E → Type 0} → ((e : E) → P e → Q e) → IfErr r P → IfErr r Q
if_err (Ok x) h p = tt
if_err (Err e) h p = h e p

-- ---- the number of rows, and of tallies

module _ (a b : ℕ) (z : ℤ) (is : z ≡ net a b) (few : a + b + 1 < 2 ^ 63) where
  pub room_above : (z +ℤ pos 1) <ℤ pos (2 ^ 63)
  room_above = omega (arith, ints, is, few)

  pub room_below : neg_ℤ (pos (2 ^ 63)) ≤ℤ (z -ℤ pos 1)
  room_below = omega (arith, ints, is, few)

net_more : (m a b : ℕ) (z : ℤ) → m ≡ 1 + a → z ≡ net a b → z +ℤ pos 1 ≡ net m b
net_more m a b z e f = omega (arith, ints, e, f)

net_less : (m a b : ℕ) (z : ℤ) → m ≡ 1 + b → z ≡ net a b → z -ℤ pos 1 ≡ net a m
net_less m a b z e f = omega (arith, ints, e, f)

-- with a row more come, or gone
pub recount : (b : Bool) (come gone : Rows) (row : Row) (z : ℤ) → z ≡ net (row_count come) (row_count gone) → cond b (z +ℤ pos 1) (z -ℤ pos 1) ≡ net (row_count (with_come come b row)) (row_count (with_gone gone b row))
recount true come gone row z e = net_more (row_count (add come row)) (row_count come) (row_count gone) z (total-add row_total (λ _. 1) come row) e
recount false come gone row z e = net_less (row_count (add gone row)) (row_count come) (row_count gone) z (total-add row_total (λ _. 1) gone row) e

-- equally many calls are of equally many tallies
pub as_many : (xs ys : List Tally) → calls xs ≡ calls ys → length xs ≡ length ys
as_many xs ys e = sym (length-map xs (λ (tally : Tally). tally.agg)) ∙ ap length e ∙ length-map ys (λ (tally : Tally). tally.agg)

-- a sum that is out of range with a row more
pub out_taken : (aggs : List Agg) (come gone : Rows) (xs : List Tally) → calls xs ≡ aggs → (comes b : Bool) → comes ≡ b → (row : Row) → amounts_fit (calls xs) (with_come come comes row) (with_gone gone comes row) ≡ false
    → amounts_fit aggs (with_come come b row) (with_gone gone b row) ≡ false
out_taken aggs come gone xs e comes b is row out = (λ i. amounts_fit (sym e i) (with_come come (sym is i) row) (with_gone gone (sym is i) row)) ∙ out
