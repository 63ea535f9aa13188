-- With a value more, come or gone, a partial is worth so much more, or so much less, as that of the value alone is.
use Rattle.std.proofs.Common.{◌≡◌, ℕ, ◌<◌, Bool, true, false, cond, not, ◌||◌, List, [], ◌∷◌, Option, Some, None, refl, sym, ap, ◌∙◌, arith}
use Rattle.std.specs.Prelude.{ℤ, pos, ◌+ℤ◌, ◌-ℤ◌, ◌&&◌, is_some}
use Rattle.std.specs.List.{AllByRecursion}
use Rattle.std.specs.Ordering.{eq_by_cmp, is_gt, ordering_reverse}
use Rattle.std.specs.declared.cmp.Ordering.TheVariants.{Less, Equal, Greater}
use Rattle.std.specs.Cmp.{alike_right, Equal-is, tied_itself}
use Rattle.std.proofs.lemmas.Bool.{false≢true}
use Rattle.std.proofs.lemmas.Int.{ints}
use Rattle.std.specs.Option.{unwrap_or}
use Rattle.ct_value.specs.Bag.{items, none, add, copies}
use Rattle.ct_value.specs.Order.{value_cmp, value_total, value_exact, number_of}
use Rattle.ct_value.specs.declared.value.Value.{Value}
use Rattle.ct_value.specs.declared.value.Value.TheVariants.{Null, Num}
use Rattle.ct_field.specs.Typed.{is_null}
use Rattle.rel_algebra.specs.declared.agg.AggCall.{AggCall}
use Rattle.rel_algebra.specs.declared.agg.AggCall.TheVariants.{CountAll, Count, CountDistinct, Sum, Min, Max, Avg}
use Rattle.rel_algebra.specs.Aggregates.{Values, size, known, first_value, last_value}
use Rattle.rel_algebra.proofs.laws.Bags.{copies-each, copies-restrict}
use Rattle.agg_fns.specs.Partial.{is_signed, net, net_known, net_sum, partial_of}
use Rattle.agg_fns.specs.Reading.{Part, summed, lowest, highest, parts_by, adds_to_sum, reaches, is_blank, all_blank, AddUp, AllAddUp}
use Rattle.agg_fns.specs.Standing.{first_item, last_item}
use Rattle.agg_fns.proofs.Added.{known_add}
use Rattle.agg_fns.proofs.Ends.{lesser, greater, first-add, last-add}
use Rattle.agg_fns.proofs.Locals.{net_none, net_known_none, net_sum_none, net_come, net_gone, net_known_come, net_known_gone, net_sum_come, net_sum_gone}
use Rattle.agg_fns.proofs.Stands.{first_none, last_none, first_unwrapped, last_unwrapped}

-- ---- numbers

more : (a z n m d : ℤ) → a ≡ d +ℤ z → pos 0 ≡ z → m ≡ d +ℤ n → a +ℤ n ≡ m
more a z n m d p q r = omega (arith, ints)

less : (a z n m d : ℤ) → a ≡ d +ℤ z → pos 0 ≡ z → m ≡ n -ℤ d → a +ℤ m ≡ n
less a z n m d p q r = omega (arith, ints)

numbers : (x y z : ℤ) → x +ℤ y ≡ z → AddUp summed (Num x) (Num y) (Num z)
numbers x y z e = record { sums = e; reached = λ limit. refl }

-- ---- limits

at_most_trans : (x y z : Value) → is_gt (value_cmp x y) ≡ false → is_gt (value_cmp y z) ≡ false → is_gt (value_cmp x z) ≡ false
at_most_trans x y z p q =
    elim (value_cmp x y) as (λ r. value_cmp x y ≡ r → is_gt r ≡ false → is_gt (value_cmp x z) ≡ false) [
      | Less ↦ λ e g.
          elim (value_cmp y z) as (λ s. value_cmp y z ≡ s → is_gt s ≡ false → is_gt (value_cmp x z) ≡ false) [
            | Less ↦ λ f h. ap is_gt (value_total.trans x y z e f)
            | Equal ↦ λ f h. ap is_gt (sym (alike_right value_total y z x f) ∙ e)
            | Greater ↦ λ f h. absurd (cc)
          ] refl q
      | Equal ↦ λ e g. ap is_gt (value_total.congr x y z e) ∙ q
      | Greater ↦ λ e g. absurd (cc)
    ] refl p

turned : (x y : Value) → is_gt (value_cmp x y) ≡ true → is_gt (value_cmp y x) ≡ false
turned x y p =
    elim (value_cmp x y) as (λ r. value_cmp y x ≡ ordering_reverse r → is_gt r ≡ true → is_gt (value_cmp y x) ≡ false) [
      | Less ↦ λ e g. absurd (cc)
      | Equal ↦ λ e g. absurd (cc)
      | Greater ↦ λ e g. ap is_gt e
    ] (value_total.antisymm y x) p

or_left : (p q : Bool) → (q ≡ false → p ≡ false) → not p ≡ (not p || not q)
or_left true true h = refl
or_left true false h = absurd (false≢true (sym (h refl)))
or_left false q h = refl

or_right : (p q : Bool) → (p ≡ false → q ≡ false) → not q ≡ (not p || not q)
or_right true q h = refl
or_right false true h = absurd (false≢true (sym (h refl)))
or_right false false h = refl

or_none : (b : Bool) → b ≡ (b || false)
or_none true = refl
or_none false = refl

-- whether the first item reaches down to a limit, and the last one up to it
abbrev first_reaches : Option Value → Value → Bool
first_reaches None limit = false
first_reaches (Some x) limit = not (is_gt (value_cmp x limit))

abbrev last_reaches : Option Value → Value → Bool
last_reaches None limit = false
last_reaches (Some x) limit = not (is_gt (value_cmp limit x))

lesser_reaches : (x : Value) (o : Option Value) (limit : Value) → first_reaches (lesser x o) limit ≡ (not (is_gt (value_cmp x limit)) || first_reaches o limit)
lesser_reaches x None limit = or_none (not (is_gt (value_cmp x limit)))
lesser_reaches x (Some y) limit =
    elim (is_gt (value_cmp x y)) as (λ b. is_gt (value_cmp x y) ≡ b → not (is_gt (value_cmp (cond b y x) limit)) ≡ (not (is_gt (value_cmp x limit)) || not (is_gt (value_cmp y limit)))) [
      | true ↦ λ e. or_right (is_gt (value_cmp x limit)) (is_gt (value_cmp y limit)) (λ h. at_most_trans y x limit (turned x y e) h)
      | false ↦ λ e. or_left (is_gt (value_cmp x limit)) (is_gt (value_cmp y limit)) (λ h. at_most_trans x y limit e h)
    ] refl

greater_reaches : (x : Value) (o : Option Value) (limit : Value) → last_reaches (greater x o) limit ≡ (not (is_gt (value_cmp limit x)) || last_reaches o limit)
greater_reaches x None limit = or_none (not (is_gt (value_cmp limit x)))
greater_reaches x (Some y) limit =
    elim (is_gt (value_cmp x y)) as (λ b. is_gt (value_cmp x y) ≡ b → not (is_gt (value_cmp limit (cond b x y))) ≡ (not (is_gt (value_cmp limit x)) || not (is_gt (value_cmp limit y)))) [
      | true ↦ λ e. or_left (is_gt (value_cmp limit x)) (is_gt (value_cmp limit y)) (λ h. at_most_trans limit y x h (turned x y e))
      | false ↦ λ e. or_right (is_gt (value_cmp limit x)) (is_gt (value_cmp limit y)) (λ h. at_most_trans limit x y h e)
    ] refl

-- values that aren't NULL are none of them NULL
pub knowns : (values : Values) → AllByRecursion (λ value. is_null value ≡ false) (items (known values))
knowns values = copies-each value_total value_exact (λ value. is_null value ≡ false) (known values) (λ value some. passed (is_null value) (copies values value) _ (copies-restrict value_total value_exact (λ other. not (is_null other)) values value) some)
  where
    passed : (t : Bool) (n m : ℕ) → m ≡ cond (not t) n 0 → 0 < m → t ≡ false
    passed true n m e s = absurd (omega arith)
    passed false n m e s = refl

first_told : (xs : List Value) → AllByRecursion (λ value. is_null value ≡ false) xs → (limit : Value) → reaches lowest (first_value xs) limit ≡ first_reaches (first_item xs) limit
first_told [] h limit = refl
first_told (x ∷ xs) h limit = ap (λ b. not b && not (is_gt (value_cmp x limit))) h.0

last_told : (xs : List Value) → AllByRecursion (λ value. is_null value ≡ false) xs → (limit : Value) → reaches highest (last_value xs) limit ≡ last_reaches (last_item xs) limit
last_told [] h limit = refl
last_told (x ∷ []) h limit = ap (λ b. not b && not (is_gt (value_cmp limit x))) h.0
last_told (x ∷ y ∷ ys) h limit = last_told (y ∷ ys) h.1 limit

-- ---- the least and the greatest with a value more

abbrev least : Values → Value → Bool
least values limit = reaches lowest (first_value (items (known values))) limit

abbrev greatest : Values → Value → Bool
greatest values limit = reaches highest (last_value (items (known values))) limit

least_more : (values : Values) (value limit : Value) → least (add values value) limit ≡ (reaches lowest value limit || least values limit)
least_more values value limit =
    elim (is_null value) as (λ b. is_null value ≡ b → least (add values value) limit ≡ ((not b && not (is_gt (value_cmp value limit))) || least values limit)) [
      | true ↦ λ e. ap (λ k. reaches lowest (first_value (items k)) limit) (known_add values value ∙ ap (λ b. cond b (known values) (add (known values) value)) e)
      | false ↦ λ e.
          first_told (items (known (add values value))) (knowns (add values value)) limit
          ∙ ap (λ k. first_reaches (first_item (items k)) limit) (known_add values value ∙ ap (λ b. cond b (known values) (add (known values) value)) e)
          ∙ ap (λ o. first_reaches o limit) (first-add (known values) value (first_item (items (known values))) refl)
          ∙ lesser_reaches value (first_item (items (known values))) limit
          ∙ ap (λ b. not (is_gt (value_cmp value limit)) || b) (sym (first_told (items (known values)) (knowns values) limit))
    ] refl

greatest_more : (values : Values) (value limit : Value) → greatest (add values value) limit ≡ (reaches highest value limit || greatest values limit)
greatest_more values value limit =
    elim (is_null value) as (λ b. is_null value ≡ b → greatest (add values value) limit ≡ ((not b && not (is_gt (value_cmp limit value))) || greatest values limit)) [
      | true ↦ λ e. ap (λ k. reaches highest (last_value (items k)) limit) (known_add values value ∙ ap (λ b. cond b (known values) (add (known values) value)) e)
      | false ↦ λ e.
          last_told (items (known (add values value))) (knowns (add values value)) limit
          ∙ ap (λ k. last_reaches (last_item (items k)) limit) (known_add values value ∙ ap (λ b. cond b (known values) (add (known values) value)) e)
          ∙ ap (λ o. last_reaches o limit) (last-add (known values) value (last_item (items (known values))) refl)
          ∙ greater_reaches value (last_item (items (known values))) limit
          ∙ ap (λ b. not (is_gt (value_cmp limit value)) || b) (sym (last_told (items (known values)) (knowns values) limit))
    ] refl

least_none : (limit : Value) → least none limit ≡ false
least_none limit = first_told (items (known none)) (knowns none) limit ∙ sym (ap (λ o. first_reaches o limit) first_none)

greatest_none : (limit : Value) → greatest none limit ≡ false
greatest_none limit = last_told (items (known none)) (knowns none) limit ∙ sym (ap (λ o. last_reaches o limit) last_none)

least_add : (come : Values) (value : Value) → AddUp lowest (first_value (items (known (add none value)))) (first_value (items (known come))) (first_value (items (known (add come value))))
least_add come value = record {
  sums = refl;
  reached = λ limit.
      ap (λ b. b || least come limit) (least_more none value limit ∙ ap (λ b. reaches lowest value limit || b) (least_none limit) ∙ sym (or_none (reaches lowest value limit)))
      ∙ sym (least_more come value limit);
}

greatest_add : (come : Values) (value : Value) → AddUp highest (last_value (items (known (add none value)))) (last_value (items (known come))) (last_value (items (known (add come value))))
greatest_add come value = record {
  sums = refl;
  reached = λ limit.
      ap (λ b. b || greatest come limit) (greatest_more none value limit ∙ ap (λ b. reaches highest value limit || b) (greatest_none limit) ∙ sym (or_none (reaches highest value limit)))
      ∙ sym (greatest_more come value limit);
}

-- ---- partials

rows_come : (come gone : Values) (value : Value) → AddUp summed (Num (net (size (add none value)) (size none))) (Num (net (size come) (size gone))) (Num (net (size (add come value)) (size gone)))
rows_come come gone value =
    numbers (net (size (add none value)) (size none)) (net (size come) (size gone)) (net (size (add come value)) (size gone))
    (more (net (size (add none value)) (size none)) (net (size none) (size none)) (net (size come) (size gone)) (net (size (add come value)) (size gone)) (pos 1) (net_come none none value) net_none (net_come come gone value))

known_come : (come gone : Values) (value : Value) → AddUp summed (Num (net_known (add none value) none)) (Num (net_known come gone)) (Num (net_known (add come value) gone))
known_come come gone value =
    numbers (net_known (add none value) none) (net_known come gone) (net_known (add come value) gone)
    (more (net_known (add none value) none) (net_known none none) (net_known come gone) (net_known (add come value) gone) (pos (cond (is_null value) 0 1)) (net_known_come none none value) net_known_none (net_known_come come gone value))

sum_come : (come gone : Values) (value : Value) → AddUp summed (Num (net_sum (add none value) none)) (Num (net_sum come gone)) (Num (net_sum (add come value) gone))
sum_come come gone value = numbers _ _ _ (more _ _ _ _ _ (net_sum_come none none value) net_sum_none (net_sum_come come gone value))

-- a value comes
pub partial_come : (call : AggCall) (come gone : Values) (value : Value) → AllAddUp (parts_by call) (partial_of call (add none value) none) (partial_of call come gone) (partial_of call (add come value) gone)
partial_come CountAll come gone value = (rows_come come gone value, tt)
partial_come Count come gone value = (known_come come gone value, tt)
partial_come CountDistinct come gone value = tt
partial_come Sum come gone value = (known_come come gone value, (sum_come come gone value, tt))
partial_come Min come gone value = (least_add come value, tt)
partial_come Max come gone value = (greatest_add come value, tt)
partial_come Avg come gone value = (known_come come gone value, (sum_come come gone value, tt))

rows_go : (come gone : Values) (value : Value) → AddUp summed (Num (net (size (add none value)) (size none))) (Num (net (size come) (size (add gone value)))) (Num (net (size come) (size gone)))
rows_go come gone value =
    numbers (net (size (add none value)) (size none)) (net (size come) (size (add gone value))) (net (size come) (size gone))
    (less (net (size (add none value)) (size none)) (net (size none) (size none)) (net (size come) (size gone)) (net (size come) (size (add gone value))) (pos 1) (net_come none none value) net_none (net_gone come gone value))

known_go : (come gone : Values) (value : Value) → AddUp summed (Num (net_known (add none value) none)) (Num (net_known come (add gone value))) (Num (net_known come gone))
known_go come gone value =
    numbers (net_known (add none value) none) (net_known come (add gone value)) (net_known come gone)
    (less (net_known (add none value) none) (net_known none none) (net_known come gone) (net_known come (add gone value)) (pos (cond (is_null value) 0 1)) (net_known_come none none value) net_known_none (net_known_gone come gone value))

sum_go : (come gone : Values) (value : Value) → AddUp summed (Num (net_sum (add none value) none)) (Num (net_sum come (add gone value))) (Num (net_sum come gone))
sum_go come gone value = numbers _ _ _ (less _ _ _ _ _ (net_sum_come none none value) net_sum_none (net_sum_gone come gone value))

-- a value goes
pub partial_go : (call : AggCall) → is_signed call ≡ true → (come gone : Values) (value : Value) → AllAddUp (parts_by call) (partial_of call (add none value) none) (partial_of call come (add gone value)) (partial_of call come gone)
partial_go CountAll s come gone value = (rows_go come gone value, tt)
partial_go Count s come gone value = (known_go come gone value, tt)
partial_go CountDistinct s come gone value = tt
partial_go Sum s come gone value = (known_go come gone value, (sum_go come gone value, tt))
partial_go Min s come gone value = absurd (cc)
partial_go Max s come gone value = absurd (cc)
partial_go Avg s come gone value = (known_go come gone value, (sum_go come gone value, tt))

zero_more : (z n : ℤ) → pos 0 ≡ z → z +ℤ n ≡ n
zero_more z n e = omega (arith, ints)

-- of no values
pub partial_none : (call : AggCall) (come gone : Values) → AllAddUp (parts_by call) (partial_of call none none) (partial_of call come gone) (partial_of call come gone)
partial_none CountAll come gone = (numbers _ _ _ (zero_more _ _ net_none), tt)
partial_none Count come gone = (numbers _ _ _ (zero_more _ _ net_known_none), tt)
partial_none CountDistinct come gone = tt
partial_none Sum come gone = (numbers _ _ _ (zero_more _ _ net_known_none), (numbers _ _ _ (zero_more _ _ net_sum_none), tt))
partial_none Min come gone = (record { sums = refl; reached = λ limit. ap (λ b. b || least come limit) (least_none limit) }, tt)
partial_none Max come gone = (record { sums = refl; reached = λ limit. ap (λ b. b || greatest come limit) (greatest_none limit) }, tt)
partial_none Avg come gone = (numbers _ _ _ (zero_more _ _ net_known_none), (numbers _ _ _ (zero_more _ _ net_sum_none), tt))

-- ---- what is worth nothing

pub zero_blank : (n : ℤ) → pos 0 ≡ n → is_blank summed (Num n) ≡ true
zero_blank n e = ap (λ m. eq_by_cmp value_cmp (Num m) (Num (pos 0))) (sym e) ∙ (Equal-is (value_cmp (Num (pos 0)) (Num (pos 0)))).1 (tied_itself value_total (Num (pos 0)))

both : (a b : Bool) → a ≡ true → b ≡ true → (a && (b && true)) ≡ true
both a b p q = ap (λ c. c && (b && true)) p ∙ ap (λ c. c && true) q

alone : (a : Bool) → a ≡ true → (a && true) ≡ true
alone a p = ap (λ c. c && true) p

-- the partial of no values
pub partial_blank : (call : AggCall) → all_blank (parts_by call) (partial_of call none none) ≡ true
partial_blank CountAll = alone _ (zero_blank _ net_none)
partial_blank Count = alone _ (zero_blank _ net_known_none)
partial_blank CountDistinct = refl
partial_blank Sum = both _ _ (zero_blank _ net_known_none) (zero_blank _ net_sum_none)
partial_blank Min = alone _ (ap is_null (sym (first_unwrapped (items (known none))) ∙ ap (λ o. unwrap_or o Null) (sym first_none)))
partial_blank Max = alone _ (ap is_null (sym (last_unwrapped (items (known none))) ∙ ap (λ o. unwrap_or o Null) (sym last_none)))
partial_blank Avg = both _ _ (zero_blank _ net_known_none) (zero_blank _ net_sum_none)

-- what is blank adds nothing
pub blank_adds : (part : Part) (x : Value) → is_blank part x ≡ true → (adds_to_sum part x ≡ pos 0) × ((limit : Value) → reaches part x limit ≡ false)
blank_adds summed x e = (ap number_of (value_exact x (Num (pos 0)) ((Equal-is (value_cmp x (Num (pos 0)))).0 e)), λ limit. refl)
blank_adds lowest x e = (refl, λ limit. ap (λ b. not b && not (is_gt (value_cmp x limit))) e)
blank_adds highest x e = (refl, λ limit. ap (λ b. not b && not (is_gt (value_cmp limit x))) e)

-- the least or the greatest of values is NULL where there is none
pub first_blank : (values : Values) → is_null (first_value (items (known values))) ≡ not (is_some (first_item (items (known values))))
first_blank values = by (items (known values)) (knowns values)
  where
    by : (xs : List Value) → AllByRecursion (λ value. is_null value ≡ false) xs → is_null (first_value xs) ≡ not (is_some (first_item xs))
    by [] h = refl
    by (x ∷ xs) h = h.0

pub last_blank : (values : Values) → is_null (last_value (items (known values))) ≡ not (is_some (last_item (items (known values))))
last_blank values = by (items (known values)) (knowns values)
  where
    by : (xs : List Value) → AllByRecursion (λ value. is_null value ≡ false) xs → is_null (last_value xs) ≡ not (is_some (last_item xs))
    by [] h = refl
    by (x ∷ []) h = h.0
    by (x ∷ y ∷ ys) h = by (y ∷ ys) h.1
