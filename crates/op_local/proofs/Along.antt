-- Changes of a group, one after the other.
use Rattle.std.proofs.Common.{◌≡◌, ℕ, suc, ◌<◌, ◌≤◌, ◌+◌, ◌&&◌, not, Bool, true, false, cond, List, [], ◌∷◌, ◌++◌, length, map, take, drop, refl, sym, ap, subst, ◌∙◌, ◌^◌, arith, slice_index_or, append-nil, append_assoc}
use Rattle.std.specs.Prelude.{filter}
use Rattle.std.proofs.lemmas.List.{map-append, take_more, drop_more, take-append-drop, take_all, length-take-le}
use Rattle.std.proofs.lemmas.List.Elements.{filter-append}
use Rattle.ct_value.specs.Bag.{bag_of, none, add}
use Rattle.ct_value.proofs.laws.Bags.{total-add, total-none, add-add}
use Rattle.ct_value.specs.Order.{row_cmp, row_total, row_exact}
use Rattle.ct_value.specs.declared.row.Row.{Row}
use Rattle.ct_change.specs.declared.change.Change.{Change}
use Rattle.ct_change.specs.Changelog.{Rows, adds}
use Rattle.rel_algebra.specs.declared.agg.Agg.{Agg}
use Rattle.emission_rules.specs.Grouping.{row_count}
use Rattle.phase_rules.specs.LocalGrouping.{amounts_fit, fit_after, rows_come, rows_gone}
use Rattle.op_local.specs.declared.amounts.Amounts.{Amounts}
use Rattle.op_local.specs.Amounting.{with_come, with_gone, AmountsTo}
use Rattle.op_local.proofs.Tallied.{all_fit}

-- ---- the rows

bag_push : (rows : List Row) (row : Row) → bag_of {R = row_cmp} (rows ++ row ∷ []) ≡ add (bag_of rows) row
bag_push [] row = refl
bag_push (first ∷ rows) row = ap (λ b. add b first) (bag_push rows row) ∙ add-add row_total row_exact (bag_of rows) row first

abbrev row_in : Change → Row
row_in c = c.row

abbrev comes : Change → Bool
comes c = adds c.kind

abbrev goes : Change → Bool
goes c = not (adds c.kind)

module _ (earlier : List Change) (change : Change) where
  abbrev bag : List Row → Rows
  bag rows = bag_of rows

  rows_of : (test : Change → Bool) → bag (map row_in (filter test (earlier ++ change ∷ []))) ≡ bag (map row_in (filter test earlier) ++ map row_in (cond (test change) (change ∷ []) []))
  rows_of test = ap bag (ap (map row_in) (filter-append test earlier (change ∷ [])) ∙ map-append row_in (filter test earlier) (cond (test change) (change ∷ []) []))

  one_or_none : (b : Bool) (rows : List Row) → bag (rows ++ map row_in (cond b (change ∷ []) [])) ≡ cond b (add (bag rows) change.row) (bag rows)
  one_or_none true rows = bag_push rows change.row
  one_or_none false rows = ap bag (append-nil rows)

  none_or_one : (b : Bool) (rows : Rows) → cond (not b) (add rows change.row) rows ≡ cond b rows (add rows change.row)
  none_or_one true rows = refl
  none_or_one false rows = refl

  -- with one change more
  pub come_next : rows_come (earlier ++ change ∷ []) ≡ with_come (rows_come earlier) (adds change.kind) change.row
  come_next = rows_of comes ∙ one_or_none (adds change.kind) (map row_in (filter comes earlier))

  pub gone_next : rows_gone (earlier ++ change ∷ []) ≡ with_gone (rows_gone earlier) (adds change.kind) change.row
  gone_next = rows_of goes ∙ one_or_none (not (adds change.kind)) (map row_in (filter goes earlier)) ∙ none_or_one (adds change.kind) (rows_gone earlier)

  come_first : rows_come (change ∷ earlier) ≡ with_come (rows_come earlier) (adds change.kind) change.row
  come_first = elim (adds change.kind) as (λ b. bag (map row_in (cond b (change ∷ filter comes earlier) (filter comes earlier))) ≡ cond b (add (rows_come earlier) change.row) (rows_come earlier)) [ true ↦ refl | false ↦ refl ]

  gone_first : rows_gone (change ∷ earlier) ≡ with_gone (rows_gone earlier) (adds change.kind) change.row
  gone_first = elim (adds change.kind) as (λ b. bag (map row_in (cond (not b) (change ∷ filter goes earlier) (filter goes earlier))) ≡ cond b (rows_gone earlier) (add (rows_gone earlier) change.row)) [ true ↦ refl | false ↦ refl ]

no_rows : ◌≡◌ {A = ℕ} (row_count none) 0
no_rows = total-none row_total (λ _. 1)

none_counted : (z : ℕ) → z ≡ 0 → z + z ≡ 0
none_counted z e = omega (arith, e)

one_counted : (b : Bool) (come gone : Rows) (row : Row) (n : ℕ) → row_count come + row_count gone ≡ n → row_count (with_come come b row) + row_count (with_gone gone b row) ≡ suc n
one_counted true come gone row n e = let one = total-add row_total (λ _. 1) come row in omega (arith, e, one)
one_counted false come gone row n e = let one = total-add row_total (λ _. 1) gone row in omega (arith, e, one)

-- rows come and gone are as many as the changes
pub counted : (changes : List Change) → row_count (rows_come changes) + row_count (rows_gone changes) ≡ length changes
counted [] = none_counted (row_count none) no_rows
counted (change ∷ changes) =
    (λ i. row_count (come_first changes change i) + row_count (gone_first changes change i))
    ∙ one_counted (adds change.kind) (rows_come changes) (rows_gone changes) change.row (length changes) (counted changes)

-- ---- the sums

and_assoc : (a b c : Bool) → ((a && b) && c) ≡ (a && (b && c))
and_assoc true b c = refl
and_assoc false b c = refl

fit-append : (aggs : List Agg) (earlier xs ys : List Change) → fit_after aggs earlier (xs ++ ys) ≡ (fit_after aggs earlier xs && fit_after aggs (earlier ++ xs) ys)
fit-append aggs earlier [] ys = ap (λ l. fit_after aggs l ys) (sym (append-nil earlier))
fit-append aggs earlier (x ∷ xs) ys =
    let now = amounts_fit aggs (rows_come (earlier ++ x ∷ [])) (rows_gone (earlier ++ x ∷ [])) in
    ap (λ b. now && b) (fit-append aggs (earlier ++ x ∷ []) xs ys ∙ ap (λ l. fit_after aggs (earlier ++ x ∷ []) xs && fit_after aggs l ys) (append_assoc earlier (x ∷ []) xs))
    ∙ sym (and_assoc now (fit_after aggs (earlier ++ x ∷ []) xs) (fit_after aggs (earlier ++ x ∷ xs) ys))

module _ (aggs : List Agg) (earlier : List Change) (change : Change) where
  -- with one change more, after which they fit
  pub fit_next : fit_after aggs [] earlier ≡ true → amounts_fit aggs (rows_come (earlier ++ change ∷ [])) (rows_gone (earlier ++ change ∷ [])) ≡ true → fit_after aggs [] (earlier ++ change ∷ []) ≡ true
  fit_next e f = fit-append aggs [] earlier (change ∷ []) ∙ (λ i. e i && (f i && true))

  -- and with one after which they don't
  pub fit_no_more : (later : List Change) → amounts_fit aggs (rows_come (earlier ++ change ∷ [])) (rows_gone (earlier ++ change ∷ [])) ≡ false → fit_after aggs [] (earlier ++ change ∷ later) ≡ false
  fit_no_more later f = fit-append aggs [] earlier (change ∷ later) ∙ (λ i. fit_after aggs [] earlier && (f i && fit_after aggs (earlier ++ change ∷ []) later)) ∙ never (fit_after aggs [] earlier)
    where
      never : (b : Bool) → (b && false) ≡ false
      never true = refl
      never false = refl

-- ---- a change among others

module _ (aggs : List Agg) (changes : List Change) (n : ℕ) (here : Change) (l : n < length changes) (is : here ≡ slice_index_or changes n here) where
  next : take (n + 1) changes ≡ take n changes ++ here ∷ []
  next = take_more changes n here l ∙ ap (λ c. take n changes ++ c ∷ []) (sym is)

  come_taken : rows_come (take (n + 1) changes) ≡ with_come (rows_come (take n changes)) (adds here.kind) here.row
  come_taken = ap rows_come next ∙ come_next (take n changes) here

  gone_taken : rows_gone (take (n + 1) changes) ≡ with_gone (rows_gone (take n changes)) (adds here.kind) here.row
  gone_taken = ap rows_gone next ∙ gone_next (take n changes) here

  -- what is kept after it
  pub kept_next : (kept : Amounts) → AmountsTo aggs kept (with_come (rows_come (take n changes)) (adds here.kind) here.row) (with_gone (rows_gone (take n changes)) (adds here.kind) here.row)
      → AmountsTo aggs kept (rows_come (take (n + 1) changes)) (rows_gone (take (n + 1) changes))
  kept_next kept to =
      subst (λ r. AmountsTo aggs kept r (rows_gone (take (n + 1) changes))) (sym come_taken)
      (subst (λ r. AmountsTo aggs kept (with_come (rows_come (take n changes)) (adds here.kind) here.row) r) (sym gone_taken) to)

  -- the sums fit
  pub still_fit : (kept : Amounts) → AmountsTo aggs kept (rows_come (take (n + 1) changes)) (rows_gone (take (n + 1) changes)) → fit_after aggs [] (take n changes) ≡ true → fit_after aggs [] (take (n + 1) changes) ≡ true
  still_fit kept to before =
      let all = all_fit (rows_come (take (n + 1) changes)) (rows_gone (take (n + 1) changes)) kept.tallies.items to.stand in
      let now : amounts_fit aggs (rows_come (take (n + 1) changes)) (rows_gone (take (n + 1) changes)) ≡ true = ap (λ cs. amounts_fit cs (rows_come (take (n + 1) changes)) (rows_gone (take (n + 1) changes))) (sym to.calls_are) ∙ all in
      ap (fit_after aggs []) next ∙ fit_next aggs (take n changes) here before (subst (λ cs. amounts_fit aggs (rows_come cs) (rows_gone cs) ≡ true) next now)

  -- or one doesn't
  pub not_fit : amounts_fit aggs (with_come (rows_come (take n changes)) (adds here.kind) here.row) (with_gone (rows_gone (take n changes)) (adds here.kind) here.row) ≡ false → fit_after aggs [] changes ≡ false
  not_fit out =
      ap (fit_after aggs []) (sym (take-append-drop n changes) ∙ ap (λ cs. take n changes ++ cs) (drop_more changes n here l) ∙ ap (λ c. take n changes ++ c ∷ drop (n + 1) changes) (sym is))
      ∙ fit_no_more aggs (take n changes) here (drop (n + 1) changes) ((λ i. amounts_fit aggs (come_next (take n changes) here i) (gone_next (take n changes) here i)) ∙ out)

-- there is room for one more
pub room_for : (changes : List Change) (n : ℕ) → n < length changes → length changes < 2 ^ 32 → row_count (rows_come (take n changes)) + row_count (rows_gone (take n changes)) + 1 < 2 ^ 63
room_for changes n l few = let size = counted (take n changes) in let least = length-take-le n changes (omega (arith, l)) in omega (arith, size, least, few, l)

-- all were taken
pub all_taken_kept : (aggs : List Agg) (changes : List Change) (n : ℕ) (kept : Amounts) → length changes ≤ n → AmountsTo aggs kept (rows_come (take n changes)) (rows_gone (take n changes)) → AmountsTo aggs kept (rows_come changes) (rows_gone changes)
all_taken_kept aggs changes n kept l to = subst (λ cs. AmountsTo aggs kept (rows_come cs) (rows_gone cs)) (take_all n changes l) to

pub all_taken_fit : (aggs : List Agg) (changes : List Change) (n : ℕ) → length changes ≤ n → fit_after aggs [] (take n changes) ≡ true → fit_after aggs [] changes ≡ true
all_taken_fit aggs changes n l e = ap (fit_after aggs []) (sym (take_all n changes l)) ∙ e
