-- What rows come and gone amount to is worth what those come are, less what those gone are.
use Rattle.std.proofs.Common.{◌≡◌, ℕ, zero, suc, ◌+◌, Bool, true, false, cond, ◌||◌, List, [], ◌∷◌, ◌++◌, length, refl, sym, ap, subst, ◌∙◌, arith}
use Rattle.std.specs.Prelude.{ℤ, pos, ◌+ℤ◌, ◌&&◌, drop, slice_get}
use Rattle.std.specs.List.{AllByRecursion}
use Rattle.std.proofs.lemmas.Int.{ints}
use Rattle.ct_value.specs.Bag.{bag_of, none, add}
use Rattle.ct_value.proofs.laws.Bags.{total-none, total-add}
use Rattle.ct_value.specs.Order.{row_cmp, row_total, row_exact, value_cmp, value_total, value_exact}
use Rattle.ct_value.specs.declared.row.Row.{Row}
use Rattle.ct_value.specs.declared.value.Value.{Value}
use Rattle.ct_value.specs.declared.value.Value.TheVariants.{Num}
use Rattle.ct_field.specs.Typed.{cell}
use Rattle.ct_change.specs.Changelog.{Rows}
use Rattle.rel_algebra.specs.declared.agg.Agg.{Agg}
use Rattle.rel_algebra.specs.declared.agg.AggCall.{AggCall}
use Rattle.rel_algebra.specs.declared.agg.AggCall.TheVariants.{CountAll, Count, CountDistinct, Sum, Min, Max, Avg}
use Rattle.rel_algebra.specs.Aggregates.{Values, argument, passes, values_of}
use Rattle.rel_algebra.specs.Sums.{add_where, restrict, mapped}
use Rattle.rel_algebra.proofs.laws.Bags.{restrict-none, restrict-add, mapped-none, mapped-add}
use Rattle.agg_fns.specs.Partial.{is_signed, net, partial_of}
use Rattle.agg_fns.specs.Reading.{Part, summed, parts_by, is_blank, all_blank, AllAddUp}
use Rattle.agg_fns.proofs.laws.Readings.{partial_come, partial_go, partial_none, partial_blank, blank_adds}
use Rattle.op_rules.specs.Partials.{Worth, nothing, plus}
use Rattle.op_rules.proofs.laws.Worths.{plus_comm, plus_assoc, nothing_plus}
use Rattle.emission_rules.specs.Grouping.{row_count}
use Rattle.phase_rules.specs.LocalGrouping.{amounts, partials_of_calls, parts, parts_of_calls, sum_at, reached_at, worth_of_values}

-- ---- columns

pub next : (c : ℕ) (xs : List Value) → cell c (drop 1 xs) ≡ cell (suc c) xs
next c [] = refl
next c (x ∷ xs) = refl

sums_add : (ps : List Part) (xs ys zs : List Value) → AllAddUp ps xs ys zs → (c : ℕ) → (sum_at (slice_get ps c) (cell c xs) +ℤ sum_at (slice_get ps c) (cell c ys)) ≡ sum_at (slice_get ps c) (cell c zs)
sums_add [] xs ys zs h c = refl
sums_add (p ∷ ps) xs ys zs h zero = h.0.sums
sums_add (p ∷ ps) xs ys zs h (suc c) =
    (λ i. sum_at (slice_get ps c) (sym (next c xs) i) +ℤ sum_at (slice_get ps c) (sym (next c ys) i))
    ∙ sums_add ps (drop 1 xs) (drop 1 ys) (drop 1 zs) h.1 c
    ∙ ap (sum_at (slice_get ps c)) (next c zs)

reached_add : (ps : List Part) (xs ys zs : List Value) → AllAddUp ps xs ys zs → (c : ℕ) (limit : Value) → (reached_at (slice_get ps c) (cell c xs) limit || reached_at (slice_get ps c) (cell c ys) limit) ≡ reached_at (slice_get ps c) (cell c zs) limit
reached_add [] xs ys zs h c limit = refl
reached_add (p ∷ ps) xs ys zs h zero limit = h.0.reached limit
reached_add (p ∷ ps) xs ys zs h (suc c) limit =
    (λ i. reached_at (slice_get ps c) (sym (next c xs) i) limit || reached_at (slice_get ps c) (sym (next c ys) i) limit)
    ∙ reached_add ps (drop 1 xs) (drop 1 ys) (drop 1 zs) h.1 c limit
    ∙ ap (λ v. reached_at (slice_get ps c) v limit) (next c zs)

-- columns that add up are worth together what their sums are
pub worth_adds : (ps : List Part) (xs ys zs : List Value) → AllAddUp ps xs ys zs → plus (worth_of_values ps xs) (worth_of_values ps ys) ≡ worth_of_values ps zs
worth_adds ps xs ys zs h = λ i. record { sums = λ c. sums_add ps xs ys zs h c i; reached = λ c limit. reached_add ps xs ys zs h c limit i }

pub first : (a b : Bool) → (a && b) ≡ true → a ≡ true
first true b e = refl
first false b e = e

pub second : (a b : Bool) → (a && b) ≡ true → b ≡ true
second true b e = e
second false b e = absurd (cc)

blank_sum : (ps : List Part) (xs : List Value) → all_blank ps xs ≡ true → (c : ℕ) → sum_at (slice_get ps c) (cell c xs) ≡ pos 0
blank_sum [] xs e c = refl
blank_sum (p ∷ ps) xs e zero = (blank_adds p (cell 0 xs) (first (is_blank p (cell 0 xs)) (all_blank ps (drop 1 xs)) e)).0
blank_sum (p ∷ ps) xs e (suc c) = ap (sum_at (slice_get ps c)) (sym (next c xs)) ∙ blank_sum ps (drop 1 xs) (second (is_blank p (cell 0 xs)) (all_blank ps (drop 1 xs)) e) c

blank_reached : (ps : List Part) (xs : List Value) → all_blank ps xs ≡ true → (c : ℕ) (limit : Value) → reached_at (slice_get ps c) (cell c xs) limit ≡ false
blank_reached [] xs e c limit = refl
blank_reached (p ∷ ps) xs e zero limit = (blank_adds p (cell 0 xs) (first (is_blank p (cell 0 xs)) (all_blank ps (drop 1 xs)) e)).1 limit
blank_reached (p ∷ ps) xs e (suc c) limit =
    ap (λ v. reached_at (slice_get ps c) v limit) (sym (next c xs)) ∙ blank_reached ps (drop 1 xs) (second (is_blank p (cell 0 xs)) (all_blank ps (drop 1 xs)) e) c limit

-- blank columns are worth nothing
pub blank_worth : (ps : List Part) (xs : List Value) → all_blank ps xs ≡ true → worth_of_values ps xs ≡ nothing
blank_worth ps xs e = λ i. record { sums = λ c. blank_sum ps xs e c i; reached = λ c limit. blank_reached ps xs e c limit i }

-- ---- columns behind one another

pub append_adds : (ps qs : List Part) (xs ys zs us vs ws : List Value) → length ps ≡ length xs → length ps ≡ length ys → length ps ≡ length zs
    → AllAddUp ps xs ys zs → AllAddUp qs us vs ws → AllAddUp (ps ++ qs) (xs ++ us) (ys ++ vs) (zs ++ ws)
append_adds [] qs [] [] [] us vs ws l m n h k = k
append_adds [] qs (x ∷ xs) ys zs us vs ws l m n h k = absurd (omega (arith, l))
append_adds [] qs [] (y ∷ ys) zs us vs ws l m n h k = absurd (omega (arith, m))
append_adds [] qs [] [] (z ∷ zs) us vs ws l m n h k = absurd (omega (arith, n))
append_adds (p ∷ ps) qs [] ys zs us vs ws l m n h k = absurd (omega (arith, l))
append_adds (p ∷ ps) qs (x ∷ xs) [] zs us vs ws l m n h k = absurd (omega (arith, m))
append_adds (p ∷ ps) qs (x ∷ xs) (y ∷ ys) [] us vs ws l m n h k = absurd (omega (arith, n))
append_adds (p ∷ ps) qs (x ∷ xs) (y ∷ ys) (z ∷ zs) us vs ws l m n h k = (h.0, append_adds ps qs xs ys zs us vs ws (omega (arith, l)) (omega (arith, m)) (omega (arith, n)) h.1 k)

pub append_blank : (ps qs : List Part) (xs us : List Value) → length ps ≡ length xs → all_blank ps xs ≡ true → all_blank qs us ≡ true → all_blank (ps ++ qs) (xs ++ us) ≡ true
append_blank [] qs [] us l h k = k
append_blank [] qs (x ∷ xs) us l h k = absurd (omega (arith, l))
append_blank (p ∷ ps) qs [] us l h k = absurd (omega (arith, l))
append_blank (p ∷ ps) qs (x ∷ xs) us l h k =
    ap (λ b. b && all_blank (ps ++ qs) (xs ++ us)) (first (is_blank p x) (all_blank ps xs) h) ∙ append_blank ps qs xs us (omega (arith, l)) (second (is_blank p x) (all_blank ps xs) h) k

pub as_many : (call : AggCall) (come gone : Values) → length (parts_by call) ≡ length (partial_of call come gone)
as_many CountAll come gone = refl
as_many Count come gone = refl
as_many CountDistinct come gone = refl
as_many Sum come gone = refl
as_many Min come gone = refl
as_many Max come gone = refl
as_many Avg come gone = refl

-- ---- one call

pub values_more : (agg : Agg) (rows : Rows) (row : Row) → values_of agg (add rows row) ≡ cond (passes agg.filter row) (add (values_of agg rows) (argument agg.arg row)) (values_of agg rows)
values_more agg rows row = ap (mapped (argument agg.arg)) (restrict-add row_total row_exact (passes agg.filter) rows row) ∙ by (passes agg.filter row)
  where
    by : (b : Bool) → mapped {S = value_cmp} (argument agg.arg) (add_where b row (restrict (passes agg.filter) rows)) ≡ cond b (add (values_of agg rows) (argument agg.arg row)) (values_of agg rows)
    by true = mapped-add value_total value_exact row_total row_exact (argument agg.arg) (restrict (passes agg.filter) rows) row
    by false = refl

pub values_nothing : (agg : Agg) → values_of agg none ≡ none
values_nothing agg = ap (mapped (argument agg.arg)) (restrict-none row_total row_exact (passes agg.filter)) ∙ mapped-none value_total value_exact row_cmp (argument agg.arg)

module _ (agg : Agg) (come gone : Rows) (row : Row) where
  abbrev ps : List Part
  ps = parts_by agg.call

  abbrev v : Value
  v = argument agg.arg row

  abbrev part : Values → Values → List Value
  part = partial_of agg.call

  one_of : (b : Bool) → passes agg.filter row ≡ b → (rows : Rows) → values_of agg (add rows row) ≡ cond b (add (values_of agg rows) v) (values_of agg rows)
  one_of b e rows = values_more agg rows row ∙ ap (λ t. cond t (add (values_of agg rows) v) (values_of agg rows)) e

  alone_of : (b : Bool) → passes agg.filter row ≡ b → values_of agg (add none row) ≡ cond b (add none v) none
  alone_of b e = one_of b e none ∙ ap (λ n. cond b (add n v) n) (values_nothing agg)

  come_one : AllAddUp ps (part (values_of agg (add none row)) (values_of agg none)) (part (values_of agg come) (values_of agg gone)) (part (values_of agg (add come row)) (values_of agg gone))
  come_one =
      subst (λ n. AllAddUp ps (part (values_of agg (add none row)) n) (part (values_of agg come) (values_of agg gone)) (part (values_of agg (add come row)) (values_of agg gone))) (sym (values_nothing agg))
      (elim (passes agg.filter row) as (λ b. passes agg.filter row ≡ b → AllAddUp ps (part (values_of agg (add none row)) none) (part (values_of agg come) (values_of agg gone)) (part (values_of agg (add come row)) (values_of agg gone))) [
        | true ↦ λ e.
            subst (λ n. AllAddUp ps (part n none) (part (values_of agg come) (values_of agg gone)) (part (values_of agg (add come row)) (values_of agg gone))) (sym (alone_of true e))
            (subst (λ n. AllAddUp ps (part (add none v) none) (part (values_of agg come) (values_of agg gone)) (part n (values_of agg gone))) (sym (one_of true e come))
            (partial_come agg.call (values_of agg come) (values_of agg gone) v))
        | false ↦ λ e.
            subst (λ n. AllAddUp ps (part n none) (part (values_of agg come) (values_of agg gone)) (part (values_of agg (add come row)) (values_of agg gone))) (sym (alone_of false e))
            (subst (λ n. AllAddUp ps (part none none) (part (values_of agg come) (values_of agg gone)) (part n (values_of agg gone))) (sym (one_of false e come))
            (partial_none agg.call (values_of agg come) (values_of agg gone)))
      ] refl)

  go_one : is_signed agg.call ≡ true → AllAddUp ps (part (values_of agg (add none row)) (values_of agg none)) (part (values_of agg come) (values_of agg (add gone row))) (part (values_of agg come) (values_of agg gone))
  go_one signed =
      subst (λ n. AllAddUp ps (part (values_of agg (add none row)) n) (part (values_of agg come) (values_of agg (add gone row))) (part (values_of agg come) (values_of agg gone))) (sym (values_nothing agg))
      (elim (passes agg.filter row) as (λ b. passes agg.filter row ≡ b → AllAddUp ps (part (values_of agg (add none row)) none) (part (values_of agg come) (values_of agg (add gone row))) (part (values_of agg come) (values_of agg gone))) [
        | true ↦ λ e.
            subst (λ n. AllAddUp ps (part n none) (part (values_of agg come) (values_of agg (add gone row))) (part (values_of agg come) (values_of agg gone))) (sym (alone_of true e))
            (subst (λ n. AllAddUp ps (part (add none v) none) (part (values_of agg come) n) (part (values_of agg come) (values_of agg gone))) (sym (one_of true e gone))
            (partial_go agg.call signed (values_of agg come) (values_of agg gone) v))
        | false ↦ λ e.
            subst (λ n. AllAddUp ps (part n none) (part (values_of agg come) (values_of agg (add gone row))) (part (values_of agg come) (values_of agg gone))) (sym (alone_of false e))
            (subst (λ n. AllAddUp ps (part none none) (part (values_of agg come) n) (part (values_of agg come) (values_of agg gone))) (sym (one_of false e gone))
            (partial_none agg.call (values_of agg come) (values_of agg gone)))
      ] refl)

-- ---- all calls

calls_come : (aggs : List Agg) (come gone : Rows) (row : Row) → AllAddUp (parts_of_calls aggs) (partials_of_calls aggs (add none row) none) (partials_of_calls aggs come gone) (partials_of_calls aggs (add come row) gone)
calls_come [] come gone row = tt
calls_come (agg ∷ aggs) come gone row =
    append_adds (parts_by agg.call) (parts_of_calls aggs) _ _ _ _ _ _ (as_many agg.call _ _) (as_many agg.call _ _) (as_many agg.call _ _) (come_one agg come gone row) (calls_come aggs come gone row)

calls_go : (aggs : List Agg) → AllByRecursion (λ agg. is_signed agg.call ≡ true) aggs → (come gone : Rows) (row : Row) → AllAddUp (parts_of_calls aggs) (partials_of_calls aggs (add none row) none) (partials_of_calls aggs come (add gone row)) (partials_of_calls aggs come gone)
calls_go [] signed come gone row = tt
calls_go (agg ∷ aggs) signed come gone row =
    append_adds (parts_by agg.call) (parts_of_calls aggs) _ _ _ _ _ _ (as_many agg.call _ _) (as_many agg.call _ _) (as_many agg.call _ _) (go_one agg come gone row signed.0) (calls_go aggs signed.1 come gone row)

calls_blank : (aggs : List Agg) → all_blank (parts_of_calls aggs) (partials_of_calls aggs none none) ≡ true
calls_blank [] = refl
calls_blank (agg ∷ aggs) =
    append_blank (parts_by agg.call) (parts_of_calls aggs) _ _ (as_many agg.call _ _)
    (subst (λ n. all_blank (parts_by agg.call) (partial_of agg.call n n) ≡ true) (sym (values_nothing agg)) (partial_blank agg.call)) (calls_blank aggs)

one_more : (a z c g m : ℕ) → a ≡ 1 + z → m ≡ 1 + c → z ≡ 0 → (net a z +ℤ net c g) ≡ net m g
one_more a z c g m p q r = omega (arith, ints)

one_less : (a z c g m : ℕ) → a ≡ 1 + z → m ≡ 1 + g → z ≡ 0 → (net a z +ℤ net c m) ≡ net c g
one_less a z c g m p q r = omega (arith, ints)

pub counts : (rows : Rows) (row : Row) → row_count (add rows row) ≡ 1 + row_count rows
counts rows row = total-add row_total (λ _. 1) rows row

pub no_rows : ◌≡◌ {A = ℕ} (row_count none) 0
no_rows = total-none row_total (λ _. 1)

module _ (aggs : List Agg) where
  -- what rows come and gone are worth
  abbrev worth : Rows → Rows → Worth
  worth come gone = worth_of_values (parts aggs) (amounts aggs come gone)

  abbrev own : Row → Worth
  own row = worth (add none row) none

  pub worth_come : (come gone : Rows) (row : Row) → plus (own row) (worth come gone) ≡ worth (add come row) gone
  worth_come come gone row = worth_adds (parts aggs) (amounts aggs (add none row) none) (amounts aggs come gone) (amounts aggs (add come row) gone) (
    record { sums = one_more (row_count (add none row)) (row_count none) (row_count come) (row_count gone) (row_count (add come row)) (counts none row) (counts come row) no_rows; reached = λ limit. refl },
    calls_come aggs come gone row,
  )

  pub worth_go : AllByRecursion (λ agg. is_signed agg.call ≡ true) aggs → (come gone : Rows) (row : Row) → plus (own row) (worth come (add gone row)) ≡ worth come gone
  worth_go signed come gone row = worth_adds (parts aggs) (amounts aggs (add none row) none) (amounts aggs come (add gone row)) (amounts aggs come gone) (
    record { sums = one_less (row_count (add none row)) (row_count none) (row_count come) (row_count gone) (row_count (add gone row)) (counts none row) (counts gone row) no_rows; reached = λ limit. refl },
    calls_go aggs signed come gone row,
  )

  -- what rows are worth together
  abbrev pub together_worth : List Row → Worth
  together_worth [] = nothing
  together_worth (row ∷ rows) = plus (own row) (together_worth rows)

  pub worth_rows_come : (rows : List Row) (gone : Rows) → worth (bag_of rows) gone ≡ plus (together_worth rows) (worth none gone)
  worth_rows_come [] gone = sym (nothing_plus (worth none gone))
  worth_rows_come (row ∷ rows) gone =
      sym (worth_come (bag_of rows) gone row) ∙ ap (plus (own row)) (worth_rows_come rows gone) ∙ sym (plus_assoc (own row) (together_worth rows) (worth none gone))

  pub worth_rows_go : AllByRecursion (λ agg. is_signed agg.call ≡ true) aggs → (come : Rows) (rows : List Row) → plus (together_worth rows) (worth come (bag_of rows)) ≡ worth come none
  worth_rows_go signed come [] = nothing_plus (worth come none)
  worth_rows_go signed come (row ∷ rows) =
      plus_assoc (own row) (together_worth rows) (worth come (add (bag_of rows) row))
      ∙ ap (plus (own row)) (plus_comm (together_worth rows) (worth come (add (bag_of rows) row)))
      ∙ sym (plus_assoc (own row) (worth come (add (bag_of rows) row)) (together_worth rows))
      ∙ ap (λ w. plus w (together_worth rows)) (worth_go signed come (bag_of rows) row)
      ∙ plus_comm (worth come (bag_of rows)) (together_worth rows)
      ∙ worth_rows_go signed come rows

  pub worth_none : worth none none ≡ nothing
  worth_none = blank_worth (parts aggs) (amounts aggs none none) (ap (λ n. is_zero n && all_blank (parts_of_calls aggs) (partials_of_calls aggs none none)) zero_net ∙ calls_blank aggs)
    where
      is_zero : ℤ → Bool
      is_zero n = is_blank summed (Num n)

      zero_net : net (row_count none) (row_count none) ≡ pos 0
      zero_net = same (row_count none)
        where
          same : (n : ℕ) → net n n ≡ pos 0
          same n = omega (arith, ints)
