-- Counters of which the first ones were shifted, and what they then stand for.
use Rattle.std.proofs.Common.{◌≡◌, ℕ, zero, suc, ◌<◌, ◌≤◌, ◌+◌, ◌&&◌, ◌++◌, Bool, true, false, cond, List, [], ◌∷◌, map, take, length, Option, Some, None, refl, sym, ap, subst, ◌∙◌, arith, append_assoc, slice_index_or, Bor}
use Rattle.std.specs.Prelude.{IsSome, is_some, option_map, option_copied}
use Rattle.std.specs.List.{list_all, AllByRecursion}
use Rattle.std.proofs.lemmas.Bool.{and_parts}
use Rattle.ct_value.specs.Bag.{none, add, remove, copies}
use Rattle.ct_value.proofs.laws.Bags.{one_at_itself, total-add, copies-none, same_bag, copies-add, add-remove, remove-add}
use Rattle.ct_value.specs.Order.{value_cmp, value_total, value_exact, row_cmp, row_total, row_exact}
use Rattle.ct_value.specs.declared.row.Row.{Row}
use Rattle.ct_value.specs.declared.ty.Ty.{Ty}
use Rattle.ct_value.specs.declared.ty.ColTy.{ColTy}
use Rattle.ct_value.specs.declared.value.Value.{Value}
use Rattle.ct_change.specs.Changelog.{Rows}
use Rattle.ct_change.specs.Emission.{replaced}
use Rattle.rel_algebra.specs.declared.agg.Agg.{Agg}
use Rattle.rel_algebra.specs.Aggregates.{Values, values_of, argument, passes, agg_result, agg_results, sum_fits}
use Rattle.rel_algebra.specs.Clauses.{collect}
use Rattle.rel_algebra.specs.Sums.{add_where, mapped, restrict}
use Rattle.rel_algebra.proofs.laws.Bags.{restrict-add, restrict-none, mapped-add, mapped-none, each-copies, nothing_weighs}
use Rattle.agg_fns.specs.Picked.{picked}
use Rattle.agg_fns.specs.Standing.{StandsFor, retracts}
use Rattle.agg_fns.proofs.laws.Upto.{Upto, fails_at}
use Rattle.emission_rules.specs.Grouping.{row_count}
use Rattle.emission_rules.proofs.laws.Pieces.{counted_none}
use Rattle.op_group.specs.declared.counter.Counter.{Counter}
use Rattle.op_group.specs.declared.kept.Kept.{Kept}
use Rattle.op_group.specs.Kept.{shifted, HasValue, HasRow, type_among, Stands, AllStand, AllRetract, calls, all_fit, all_counted, IsKept}

-- ---- the values of a call

module _ (agg : Agg) where
  pub values-none : values_of agg none ≡ none
  values-none = ap (mapped (argument agg.arg)) (restrict-none {R = row_cmp} row_total row_exact (passes agg.filter)) ∙ mapped-none {S = value_cmp} value_total value_exact row_cmp (argument agg.arg)

  values-add : (rows : Rows) (row : Row) → values_of agg (add rows row) ≡ shifted (values_of agg rows) None (picked agg (Some row))
  values-add rows row =
      ap (mapped (argument agg.arg)) (restrict-add row_total row_exact (passes agg.filter) rows row)
      ∙ elim (passes agg.filter row) as (λ b. mapped {S = value_cmp} (argument agg.arg) (add_where b row (restrict (passes agg.filter) rows)) ≡ shifted (values_of agg rows) None (cond b (Some (argument agg.arg row)) None)) [
        | true ↦ mapped-add value_total value_exact row_total row_exact (argument agg.arg) (restrict (passes agg.filter) rows) row
        | false ↦ refl
      ]

  values-remove : (rows : Rows) (row : Row) → 0 < copies rows row → values_of agg (remove rows row) ≡ shifted (values_of agg rows) (picked agg (Some row)) None
  values-remove rows row some =
      let back : values_of agg rows ≡ shifted (values_of agg (remove rows row)) None (picked agg (Some row)) = ap (values_of agg) (sym (add-remove row_total row_exact rows row some)) ∙ values-add (remove rows row) row in
      elim (passes agg.filter row) as (λ b. values_of agg rows ≡ shifted (values_of agg (remove rows row)) None (cond b (Some (argument agg.arg row)) None) → values_of agg (remove rows row) ≡ shifted (values_of agg rows) (cond b (Some (argument agg.arg row)) None) None) [
        | true ↦ λ e. sym (ap (λ b. remove b (argument agg.arg row)) e ∙ remove-add value_total value_exact (values_of agg (remove rows row)) (argument agg.arg row))
        | false ↦ λ e. sym e
      ] back

  one_after : (values : Values) (old fresh : Option Value) → shifted (shifted values old None) None fresh ≡ shifted values old fresh
  one_after values None None = refl
  one_after values None (Some fresh) = refl
  one_after values (Some old) None = refl
  one_after values (Some old) (Some fresh) = refl

  pub values_replaced : (rows : Rows) (gone come : Option Row) → HasRow rows gone → values_of agg (replaced rows gone come) ≡ shifted (values_of agg rows) (picked agg gone) (picked agg come)
  values_replaced rows None None has = refl
  values_replaced rows None (Some come) has = values-add rows come
  values_replaced rows (Some gone) None has = values-remove rows gone has
  values_replaced rows (Some gone) (Some come) has =
      values-add (remove rows gone) come ∙ ap (λ v. shifted v None (picked agg (Some come))) (values-remove rows gone has) ∙ one_after (values_of agg rows) (picked agg (Some gone)) (picked agg (Some come))

  pub has_value : (rows : Rows) (gone : Option Row) → HasRow rows gone → HasValue (values_of agg rows) (picked agg gone)
  has_value rows None has = tt
  has_value rows (Some row) has =
      let back : values_of agg rows ≡ shifted (values_of agg (remove rows row)) None (picked agg (Some row)) = ap (values_of agg) (sym (add-remove row_total row_exact rows row has)) ∙ values-add (remove rows row) row in
      elim (passes agg.filter row) as (λ b. values_of agg rows ≡ shifted (values_of agg (remove rows row)) None (cond b (Some (argument agg.arg row)) None) → HasValue (values_of agg rows) (cond b (Some (argument agg.arg row)) None)) [
        | true ↦ λ e.
            let more = copies-add value_total (values_of agg (remove rows row)) (argument agg.arg row) (argument agg.arg row) in
            let itself = one_at_itself value_cmp value_total (argument agg.arg row) in
            let same = ap (λ v. copies v (argument agg.arg row)) e in
            omega arith
        | false ↦ λ e. tt
      ] back

-- the number of rows
pub count_replaced : (rows : Rows) (gone come : Option Row) → HasRow rows gone → cond (is_some gone) 1 0 + row_count (replaced rows gone come) ≡ cond (is_some come) 1 0 + row_count rows
count_replaced rows None None has = refl
count_replaced rows None (Some come) has = let a = total-add row_total (λ _. 1) rows come in omega arith
count_replaced rows (Some gone) None has = let a = total-add row_total (λ _. 1) (remove rows gone) gone in let b = ap row_count (add-remove row_total row_exact rows gone has) in omega arith
count_replaced rows (Some gone) (Some come) has =
    let a = total-add row_total (λ _. 1) (remove rows gone) gone in let b = ap row_count (add-remove row_total row_exact rows gone has) in let c = total-add row_total (λ _. 1) (remove rows gone) come in omega arith

pub some_row : (rows : Rows) (gone : Option Row) → HasRow rows gone → is_some gone ≡ true → 0 < row_count rows
some_row rows None has e = absurd (cc)
some_row rows (Some row) has e = let a = total-add row_total (λ _. 1) (remove rows row) row in let b = ap row_count (add-remove row_total row_exact rows row has) in omega arith

-- a counter with a row away and another one added
pub record IsShifted (gone come : Option Row) (old new : Counter) : Type 0 where
  pub agg : new.agg ≡ old.agg
  pub stands : (ty : Ty) (values : Values) → StandsFor old.agg.call ty old.acc values → HasValue values (picked old.agg gone) → StandsFor old.agg.call ty new.acc (shifted values (picked old.agg gone) (picked old.agg come))
  pub fits : (ty : Ty) (values : Values) → StandsFor old.agg.call ty old.acc values → HasValue values (picked old.agg gone) → sum_fits old.agg.call ty values ≡ true → sum_fits old.agg.call ty (shifted values (picked old.agg gone) (picked old.agg come)) ≡ true
  pub retracting : retracts new.acc ≡ retracts old.acc

-- ---- all counters

list_all-calls : (test : Agg → Bool) (counters : List Counter) → list_all test (calls counters) ≡ list_all (λ counter. test counter.agg) counters
list_all-calls test [] = refl
list_all-calls test (counter ∷ counters) = ap (λ b. test counter.agg && b) (list_all-calls test counters)

module _ (gone come : Option Row) where
  abbrev R : Counter → Counter → Type 0
  R = IsShifted gone come

  stands_one : (columns : List ColTy) (rows : Rows) → HasRow rows gone → (old new : Counter) → IsShifted gone come old new → Stands columns rows old → Stands columns (replaced rows gone come) new
  stands_one columns rows has old new shift stands =
      subst (λ a. StandsFor a.call (type_among columns a) new.acc (values_of a (replaced rows gone come))) (sym shift.agg)
      (subst (StandsFor old.agg.call (type_among columns old.agg) new.acc) (sym (values_replaced old.agg rows gone come has)) (shift.stands (type_among columns old.agg) (values_of old.agg rows) stands (has_value old.agg rows gone has)))

  pub stand_all : (columns : List ColTy) (rows : Rows) → HasRow rows gone → (n : ℕ) (olds news : List Counter) → Upto R n olds news → length olds ≤ n → AllStand columns rows olds → AllStand columns (replaced rows gone come) news
  stand_all columns rows has n [] [] u l all = tt
  stand_all columns rows has n [] (new ∷ news) u l all = absurd u
  stand_all columns rows has n (old ∷ olds) [] u l all = absurd u
  stand_all columns rows has zero (old ∷ olds) (new ∷ news) u l all = absurd (omega arith)
  stand_all columns rows has (suc n) (old ∷ olds) (new ∷ news) u l all = (stands_one columns rows has old new u.0 all.0, stand_all columns rows has n olds news u.1 (omega arith) all.1)

  pub calls_all : (n : ℕ) (olds news : List Counter) → Upto R n olds news → length olds ≤ n → calls news ≡ calls olds
  calls_all n [] [] u l = refl
  calls_all n [] (new ∷ news) u l = absurd u
  calls_all n (old ∷ olds) [] u l = absurd u
  calls_all zero (old ∷ olds) (new ∷ news) u l = absurd (omega arith)
  calls_all (suc n) (old ∷ olds) (new ∷ news) u l = ap (λ a. a ∷ calls news) (u.0).agg ∙ ap (λ aggs. old.agg ∷ aggs) (calls_all n olds news u.1 (omega arith))

  pub retract_all : (n : ℕ) (olds news : List Counter) → Upto R n olds news → length olds ≤ n → AllRetract olds → AllRetract news
  retract_all n [] [] u l all = tt
  retract_all n [] (new ∷ news) u l all = absurd u
  retract_all n (old ∷ olds) [] u l all = absurd u
  retract_all zero (old ∷ olds) (new ∷ news) u l all = absurd (omega arith)
  retract_all (suc n) (old ∷ olds) (new ∷ news) u l all = ((u.0).retracting ∙ all.0, retract_all n olds news u.1 (omega arith) all.1)

  fits_one : (columns : List ColTy) (rows : Rows) → HasRow rows gone → (old new : Counter) → IsShifted gone come old new → Stands columns rows old → sum_fits old.agg.call (type_among columns old.agg) (values_of old.agg rows) ≡ true
      → sum_fits old.agg.call (type_among columns old.agg) (values_of old.agg (replaced rows gone come)) ≡ true
  fits_one columns rows has old new shift stands fits =
      ap (sum_fits old.agg.call (type_among columns old.agg)) (values_replaced old.agg rows gone come has)
      ∙ shift.fits (type_among columns old.agg) (values_of old.agg rows) stands (has_value old.agg rows gone has) fits

  both : (a b : Bool) → a ≡ true → b ≡ true → (a && b) ≡ true
  both true b e f = f
  both false b e f = e

  pub fits_all : (columns : List ColTy) (rows : Rows) → HasRow rows gone → (n : ℕ) (olds news : List Counter) → Upto R n olds news → length olds ≤ n → AllStand columns rows olds
      → all_fit columns (calls olds) rows ≡ true → all_fit columns (calls olds) (replaced rows gone come) ≡ true
  fits_all columns rows has n [] [] u l all fits = refl
  fits_all columns rows has n [] (new ∷ news) u l all fits = absurd u
  fits_all columns rows has n (old ∷ olds) [] u l all fits = absurd u
  fits_all columns rows has zero (old ∷ olds) (new ∷ news) u l all fits = absurd (omega arith)
  fits_all columns rows has (suc n) (old ∷ olds) (new ∷ news) u l all fits =
      let parts = and_parts (sum_fits old.agg.call (type_among columns old.agg) (values_of old.agg rows)) (all_fit columns (calls olds) rows) fits in
      both (sum_fits old.agg.call (type_among columns old.agg) (values_of old.agg (replaced rows gone come))) (all_fit columns (calls olds) (replaced rows gone come)) (fits_one columns rows has old new u.0 all.0 parts.0) (fits_all columns rows has n olds news u.1 (omega arith) all.1 parts.1)

  pub unfit_all : (columns : List ColTy) (rows : Rows) (n : ℕ) (olds news : List Counter) (d : Counter) → Upto R n olds news → n < length olds
      → ((counter : Counter) → counter ≡ slice_index_or news n d → sum_fits counter.agg.call (type_among columns counter.agg) (values_of counter.agg (replaced rows gone come)) ≡ false) → all_fit columns (calls olds) (replaced rows gone come) ≡ false
  unfit_all columns rows n olds news d u l unfit =
      list_all-calls (λ agg. sum_fits agg.call (type_among columns agg) (values_of agg (replaced rows gone come))) olds
      ∙ fails_at R (λ counter. sum_fits counter.agg.call (type_among columns counter.agg) (values_of counter.agg (replaced rows gone come))) n olds news d u l (unfit (slice_index_or news n d) refl)

-- ---- results

module _ (columns : List ColTy) (rows : Rows) where
  abbrev made : List Counter → Option Row
  made counters = agg_results columns (calls counters) rows

  behind : (value : Value) (v : Value) (o : Option Row) → option_map (λ values. v ∷ values) (option_map (λ values. values ++ value ∷ []) o) ≡ option_map (λ values. values ++ value ∷ []) (option_map (λ values. v ∷ values) o)
  behind value v None = refl
  behind value v (Some values) = refl

  after_first : (o : Option Value) (others : List Counter) (value : Value) (more : Option Row) → more ≡ option_map (λ values. values ++ value ∷ []) (made others)
      → (rest : List (Option Value)) → collect rest ≡ more → collect (o ∷ rest) ≡ option_map (λ values. values ++ value ∷ []) (collect (o ∷ map (agg_result columns rows) (calls others)))
  after_first None others value more e rest f = refl
  after_first (Some v) others value more e rest f = ap (option_map (λ values. v ∷ values)) (f ∙ e) ∙ behind value v (made others)

  made_next : (n : ℕ) (counters : List Counter) (d : Counter) (value : Value) → n < length counters → ((counter : Counter) → counter ≡ slice_index_or counters n d → agg_result columns rows counter.agg ≡ Some value)
      → made (take (suc n) counters) ≡ option_map (λ values. values ++ value ∷ []) (made (take n counters))
  made_next n [] d value l h = absurd (omega arith)
  made_next zero (counter ∷ counters) d value l h = ap (λ o. collect (o ∷ [])) (h counter refl)
  made_next (suc n) (counter ∷ counters) d value l h =
      after_first (agg_result columns rows counter.agg) (take n counters) value (made (take (suc n) counters)) (made_next n counters d value (omega arith) h) (map (agg_result columns rows) (calls (take (suc n) counters))) refl

  pub result_more : (key row : Row) (n : ℕ) (counters : List Counter) (d : Counter) (value : Value) → n < length counters → ((counter : Counter) → counter ≡ slice_index_or counters n d → agg_result columns rows counter.agg ≡ Some value)
      → option_map (λ values. key ++ values) (made (take n counters)) ≡ Some row → option_map (λ values. key ++ values) (made (take (n + 1) counters)) ≡ Some (row ++ value ∷ [])
  result_more key row n counters d value l h e =
      ap (λ m. option_map (λ values. key ++ values) (made (take m counters))) (let q : n + 1 ≡ suc n = omega arith in q)
      ∙ ap (option_map (λ values. key ++ values)) (made_next n counters d value l h) ∙ go (made (take n counters)) e
    where
      go : (o : Option Row) → option_map (λ values. key ++ values) o ≡ Some row → option_map (λ values. key ++ values) (option_map (λ values. values ++ value ∷ []) o) ≡ Some (row ++ value ∷ [])
      go None q = absurd (cc)
      go (Some values) q = let is : key ++ values ≡ row = cc in ap Some (sym (append_assoc key values (value ∷ [])) ∙ ap (λ r. r ++ value ∷ []) is)

  pub result_out : (n : ℕ) (counters : List Counter) (d : Counter) → n < length counters → ((counter : Counter) → counter ≡ slice_index_or counters n d → agg_result columns rows counter.agg ≡ None) → is_some (made counters) ≡ false
  result_out n [] d l h = absurd (omega arith)
  result_out zero (counter ∷ counters) d l h = ap (λ o. is_some (collect (o ∷ map (agg_result columns rows) (calls counters)))) (h counter refl)
  result_out (suc n) (counter ∷ counters) d l h = go (agg_result columns rows counter.agg) (made counters) (result_out n counters d (omega arith) h) refl
    where
      more : (v : Value) (o : Option Row) → is_some o ≡ false → is_some (option_map (λ values. v ∷ values) o) ≡ false
      more v None e = e
      more v (Some values) e = absurd (cc)

      go : (o : Option Value) (rest : Option Row) → is_some rest ≡ false → rest ≡ made counters → is_some (collect (o ∷ map (agg_result columns rows) (calls counters))) ≡ false
      go None rest e f = refl
      go (Some v) rest e f = more v (made counters) (ap is_some (sym f) ∙ e)

  pub item_of : (P : Counter → Type 0) (n : ℕ) (counters : List Counter) (d : Counter) → n < length counters → AllByRecursion P counters → P (slice_index_or counters n d)
  item_of P n [] d l all = absurd (omega arith)
  item_of P zero (counter ∷ counters) d l all = all.0
  item_of P (suc n) (counter ∷ counters) d l all = item_of P n counters d (omega arith) all.1

pub picked_some : (agg : Agg) (o : Option Row) → IsSome (picked agg o) → IsSome o
picked_some agg None some = some
picked_some agg (Some row) some = refl

-- ---- new counters

pub fresh_stands : (columns : List ColTy) (agg : Agg) (counter : Counter) → counter.agg ≡ agg → StandsFor agg.call (type_among columns agg) counter.acc none → Stands columns none counter
fresh_stands columns agg counter is stands =
    subst (λ a. StandsFor a.call (type_among columns a) counter.acc (values_of a none)) (sym is) (subst (StandsFor agg.call (type_among columns agg) counter.acc) (sym (values-none agg)) stands)

pub all_push : {A : Type 0} (P : A → Type 0) (xs : List A) (x : A) → AllByRecursion P xs → P x → AllByRecursion P (xs ++ x ∷ [])
all_push P [] x all p = (p, tt)
all_push P (y ∷ xs) x all p = (all.0, all_push P xs x all.1 p)

calls-push : (xs : List Counter) (x : Counter) → calls (xs ++ x ∷ []) ≡ calls xs ++ x.agg ∷ []
calls-push [] x = refl
calls-push (y ∷ xs) x = ap (λ aggs. y.agg ∷ aggs) (calls-push xs x)

take-next : (n : ℕ) (aggs : List Agg) (d : Agg) → n < length aggs → take (suc n) aggs ≡ take n aggs ++ slice_index_or aggs n d ∷ []
take-next n [] d l = absurd (omega arith)
take-next zero (agg ∷ aggs) d l = refl
take-next (suc n) (agg ∷ aggs) d l = ap (λ xs. agg ∷ xs) (take-next n aggs d (omega arith))

pub calls_more : (n : ℕ) (aggs : List Agg) (d : Agg) (xs : List Counter) (x : Counter) → n < length aggs → calls xs ≡ take n aggs → x.agg ≡ slice_index_or aggs n d → calls (xs ++ x ∷ []) ≡ take (n + 1) aggs
calls_more n aggs d xs x l before is =
    calls-push xs x ∙ (λ i. before i ++ is i ∷ []) ∙ sym (ap (λ m. take m aggs) (let q : n + 1 ≡ suc n = omega arith in q) ∙ take-next n aggs d l)

pub copied_some : (o : Option (Bor Row)) → is_some (option_copied o) ≡ is_some o
copied_some None = refl
copied_some (Some row) = refl

calls-length : (xs : List Counter) → length (calls xs) ≡ length xs
calls-length [] = refl
calls-length (x ∷ xs) = ap suc (calls-length xs)

-- equally many calls are of equally many counters
pub as_many : (xs ys : List Counter) → calls xs ≡ calls ys → length xs ≡ length ys
as_many xs ys e = sym (calls-length xs) ∙ ap length e ∙ calls-length ys

-- ---- no rows, and what is kept by its own calls

pub no_rows : (rows : Rows) → row_count rows ≡ 0 → rows ≡ none
no_rows rows e = same_bag row_total row_exact _ _ (λ row. nothing (copies rows row) (λ some.
    let one : 1 ≡ 0 = each-copies row_total row_exact (λ _. 1 ≡ 0) rows (nothing_weighs (λ _. 1) rows e) row some in absurd (omega arith)) ∙ sym (copies-none row_total row))
  where
    nothing : (n : ℕ) → (0 < n → ⊥) → n ≡ 0
    nothing zero h = refl
    nothing (suc n) h = absurd (h (omega arith))

pub empty_counted : (columns : List ColTy) (aggs : List Agg) (rows : Rows) → row_count rows ≡ 0 → all_counted columns aggs rows ≡ true
empty_counted columns aggs rows e = ap (λ r. is_some (agg_results columns aggs r)) (no_rows rows e) ∙ counted_none columns aggs

pub own_calls : (columns : List ColTy) (aggs : List Agg) (kept : Kept) (rows : Rows) → IsKept columns aggs kept rows → IsKept columns (calls kept.counters.items) kept rows
own_calls columns aggs kept rows is = record { count = is.count; calls_are = refl; stand = is.stand }

pub both_true : (a b : Bool) → a ≡ true → b ≡ true → (a && b) ≡ true
both_true true b e f = f
both_true false b e f = e

pub second_false : (a b : Bool) → b ≡ false → (a && b) ≡ false
second_false true b f = f
second_false false b f = refl
