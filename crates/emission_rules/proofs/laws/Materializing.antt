-- What a materializer emits: the rows that stand in order of arrival are those of the bag, and what is emitted leaves the last of each key.
use Rattle.std.proofs.Common.{◌≡◌, ℕ, ◌+◌, ◌<◌, ◌≤◌, ◌==◌, Bool, true, false, cond, List, [], ◌∷◌, ◌++◌, length, take, Option, Some, None, refl, sym, ap, subst, ◌∙◌, arith, append_assoc}
use Rattle.std.specs.List.{AllByRecursion, filter, fold, last_or}
use Rattle.std.specs.Cmp.{eq_by_cmp_equiv}
use Rattle.std.proofs.lemmas.Bool.{eqb-true, eqb-false}
use Rattle.std.proofs.lemmas.List.Elements.{filter-append}
use Rattle.ct_value.specs.Bag.{items, copies, none, add, remove, occurs, one_at, drop_one}
use Rattle.ct_value.proofs.laws.Bags.{weigh-append, one_at_itself, weigh-drop_one, copies-occurs, items-none, items-add, items-remove, weigh-put}
use Rattle.ct_value.specs.Order.{row_cmp, row_total, row_exact}
use Rattle.ct_value.specs.Rows.{project}
use Rattle.ct_value.specs.declared.row.Row.{Row}
use Rattle.ct_change.specs.declared.change.Change.{Change}
use Rattle.ct_change.specs.Changelog.{retract, upsert, Rows, same_row, adds, kinds_of, AreOf, apply, fold_from, fold as fold_rows, addition, last_shown, Means}
use Rattle.ct_change.specs.Emission.{emission, update, CanTell}
use Rattle.ct_change.specs.KeyRows.{key_row, AreKeyed, IsKeyed, IsChangelog}
use Rattle.ct_change.specs.LastRows.{has_key}
use Rattle.ct_change.proofs.laws.Emissions.{emission_admitted, emission_keyed, Tell, rows-emission}
use Rattle.ct_change.proofs.laws.KeyRows.{key_stays}
use Rattle.ct_change.proofs.laws.Meanings.{same_row-true, same_row-itself, valid-upsert, means_fold}
use Rattle.op_rules.specs.Edges.{IsUnique}
use Rattle.op_rules.proofs.laws.Histories.{all-append, all-each}
use Rattle.emission_rules.specs.Materialize.{stands_after, standing, under, shown, materialized, materialized_all, count_in, AreShown}
use Rattle.emission_rules.proofs.laws.Lists.{all-take, at_occurs, of_occurs}

-- ---- lists

last-push : (o : Option Row) (xs : List Row) (x : Row) → last_or o (xs ++ x ∷ []) ≡ Some x
last-push o [] x = refl
last-push o (y ∷ ys) x = last-push (Some y) ys x

-- what holds of each row holds of the last one
last-of : (P : Row → Type 0) (o : Option Row) (xs : List Row) → AllByRecursion P xs → ((x : Row) → o ≡ Some x → P x) → (x : Row) → last_or o xs ≡ Some x → P x
last-of P o [] all h x e = h x e
last-of P o (y ∷ ys) all h x e = last-of P (Some y) ys all.1 (λ z q. let is : y ≡ z = cc in subst P is all.0) x e

-- a list with a row has a last one
last-some : (o : Option Row) (xs : List Row) → 0 < length xs → (x : Row) × (last_or o xs ≡ Some x)
last-some o [] some = absurd (omega arith)
last-some o (x ∷ []) some = (x, refl)
last-some o (x ∷ y ∷ ys) some = last-some (Some x) (y ∷ ys) (omega arith)

all-filter : (p : Row → Bool) (xs : List Row) → AllByRecursion (λ x. p x ≡ true) (filter p xs)
all-filter p [] = tt
all-filter p (x ∷ xs) = elim (p x) as (λ b. p x ≡ b → AllByRecursion (λ x. p x ≡ true) (cond b (x ∷ filter p xs) (filter p xs))) [ true ↦ λ e. (e, all-filter p xs) | false ↦ λ e. all-filter p xs ] refl

filter-all : (P : Row → Type 0) (p : Row → Bool) (xs : List Row) → AllByRecursion P xs → AllByRecursion P (filter p xs)
filter-all P p [] all = tt
filter-all P p (x ∷ xs) all = elim (p x) as (λ b. AllByRecursion P (cond b (x ∷ filter p xs) (filter p xs))) [ true ↦ (all.0, filter-all P p xs all.1) | false ↦ filter-all P p xs all.1 ]

drop_one-all : (P : Row → Type 0) (x : Row) (xs : List Row) → AllByRecursion P xs → AllByRecursion P (drop_one row_cmp x xs)
drop_one-all P x [] all = tt
drop_one-all P x (y ∷ ys) all = elim (same_row x y) as (λ b. AllByRecursion P (cond b ys (y ∷ drop_one row_cmp x ys))) [ true ↦ all.1 | false ↦ (all.0, drop_one-all P x ys all.1) ]

drop_one-absent : (x : Row) (xs : List Row) → occurs row_cmp x xs ≡ 0 → drop_one row_cmp x xs ≡ xs
drop_one-absent x [] z = refl
drop_one-absent x (y ∷ ys) z =
    elim (same_row x y) as (λ b. cond b 1 0 + occurs row_cmp x ys ≡ 0 → cond b ys (y ∷ drop_one row_cmp x ys) ≡ y ∷ ys) [
      | true ↦ λ q. absurd (omega arith)
      | false ↦ λ q. ap (λ zs. y ∷ zs) (drop_one-absent x ys (omega arith))
    ] z

-- rows that pass, without a row that does, and without one that doesn't
filter-drop_one : (p : Row → Bool) (x : Row) (xs : List Row) → p x ≡ true → filter p (drop_one row_cmp x xs) ≡ drop_one row_cmp x (filter p xs)
filter-drop_one p x [] passes = refl
filter-drop_one p x (y ∷ ys) passes =
    elim (same_row x y) as (λ b. same_row x y ≡ b → filter p (cond b ys (y ∷ drop_one row_cmp x ys)) ≡ drop_one row_cmp x (filter p (y ∷ ys))) [
      | true ↦ λ e.
          let here : p y ≡ true = ap p (sym (same_row-true x y e)) ∙ passes in
          sym (ap (λ b. drop_one row_cmp x (cond b (y ∷ filter p ys) (filter p ys))) here ∙ ap (λ b. cond b (filter p ys) (y ∷ drop_one row_cmp x (filter p ys))) e)
      | false ↦ λ e.
          elim (p y) as (λ b. cond b (y ∷ filter p (drop_one row_cmp x ys)) (filter p (drop_one row_cmp x ys)) ≡ drop_one row_cmp x (cond b (y ∷ filter p ys) (filter p ys))) [
            | true ↦ ap (λ zs. y ∷ zs) (filter-drop_one p x ys passes) ∙ sym (ap (λ b. cond b (filter p ys) (y ∷ drop_one row_cmp x (filter p ys))) e)
            | false ↦ filter-drop_one p x ys passes
          ]
    ] refl

filter-drop_other : (p : Row → Bool) (x : Row) (xs : List Row) → p x ≡ false → filter p (drop_one row_cmp x xs) ≡ filter p xs
filter-drop_other p x [] fails = refl
filter-drop_other p x (y ∷ ys) fails =
    elim (same_row x y) as (λ b. same_row x y ≡ b → filter p (cond b ys (y ∷ drop_one row_cmp x ys)) ≡ filter p (y ∷ ys)) [
      | true ↦ λ e.
          let here : p y ≡ false = ap p (sym (same_row-true x y e)) ∙ fails in
          sym (ap (λ b. cond b (y ∷ filter p ys) (filter p ys)) here)
      | false ↦ λ e. ap (λ zs. cond (p y) (y ∷ zs) zs) (filter-drop_other p x ys fails)
    ] refl

-- ---- the rows that stand are those of the bag

same-after : (xs : List Row) (rows : Rows) → ((row : Row) → occurs row_cmp row xs ≡ copies rows row) → (change : Change) (row : Row) → occurs row_cmp row (stands_after xs change) ≡ copies (apply retract rows change) row
same-after xs rows same change row =
    elim (adds change.kind) as (λ b. occurs row_cmp row (cond b (xs ++ change.row ∷ []) (drop_one row_cmp change.row xs)) ≡ copies (cond b (add rows change.row) (remove rows change.row)) row) [
      | true ↦
          let pushed = weigh-append (one_at row_cmp row) xs (change.row ∷ []) in
          let added : occurs row_cmp row (items (add rows change.row)) ≡ one_at row_cmp row change.row + occurs row_cmp row (items rows) = ap (occurs row_cmp row) (items-add row_total rows change.row) ∙ weigh-put row_cmp (one_at row_cmp row) change.row (items rows) in
          omega (arith, same row, copies-occurs rows row, copies-occurs (add rows change.row) row)
      | false ↦
          let removed : occurs row_cmp row (items (remove rows change.row)) ≡ occurs row_cmp row (drop_one row_cmp change.row (items rows)) = ap (occurs row_cmp row) (items-remove row_total rows change.row) in
          elim (occurs row_cmp change.row xs == 0) as (λ z. (occurs row_cmp change.row xs == 0) ≡ z → occurs row_cmp row (drop_one row_cmp change.row xs) ≡ copies (remove rows change.row) row) [
            | true ↦ λ z.
                let nothing = eqb-true (occurs row_cmp change.row xs) 0 z in
                let here : occurs row_cmp change.row (items rows) ≡ 0 = omega (arith, nothing, same change.row, copies-occurs rows change.row) in
                let left : occurs row_cmp row (drop_one row_cmp change.row xs) ≡ occurs row_cmp row xs = ap (occurs row_cmp row) (drop_one-absent change.row xs nothing) in
                let right : occurs row_cmp row (drop_one row_cmp change.row (items rows)) ≡ occurs row_cmp row (items rows) = ap (occurs row_cmp row) (drop_one-absent change.row (items rows) here) in
                omega (arith, left, right, removed, same row, copies-occurs rows row, copies-occurs (remove rows change.row) row)
            | false ↦ λ z.
                let some = eqb-false (occurs row_cmp change.row xs) 0 z in
                let there : 0 < occurs row_cmp change.row (items rows) = omega (arith, some, same change.row, copies-occurs rows change.row) in
                let left = weigh-drop_one row_cmp row_total row_exact (one_at row_cmp row) change.row xs (omega arith) in
                let right = weigh-drop_one row_cmp row_total row_exact (one_at row_cmp row) change.row (items rows) there in
                omega (arith, left, right, removed, same row, copies-occurs rows row, copies-occurs (remove rows change.row) row)
          ] refl
    ]

same-from : (xs : List Row) (rows : Rows) → ((row : Row) → occurs row_cmp row xs ≡ copies rows row) → (changes : List Change) (row : Row) → occurs row_cmp row (fold stands_after xs changes) ≡ copies (fold_from retract rows changes) row
same-from xs rows same [] row = same row
same-from xs rows same (change ∷ changes) row = same-from (stands_after xs change) (apply retract rows change) (same-after xs rows same change) changes row

-- a row stands as often as it is in the bag
pub copies-standing : (changes : List Change) (row : Row) → occurs row_cmp row (standing changes) ≡ copies (fold_rows retract changes) row
copies-standing changes row = same-from [] none (λ row. sym (copies-occurs none row ∙ ap (occurs row_cmp row) (items-none row_cmp))) changes row

pub standing-append : (xs ys : List Change) → standing (xs ++ ys) ≡ fold stands_after (standing xs) ys
standing-append xs ys = go [] xs
  where
    go : (rows : List Row) (xs : List Change) → fold stands_after rows (xs ++ ys) ≡ fold stands_after (fold stands_after rows xs) ys
    go rows [] = refl
    go rows (x ∷ xs) = go (stands_after rows x) xs

-- ---- under a key

module _ (key : List ℕ) where
  key-true : (values : Row) (row : Row) → has_key key values row ≡ true → values ≡ project key row
  key-true values row e = same_row-true values (project key row) e

  pub under-own : (values : Row) (rows : List Row) (change : Change) → has_key key values change.row ≡ true → under key values (stands_after rows change) ≡ stands_after (under key values rows) change
  under-own values rows change own =
      elim (adds change.kind) as (λ b. filter (has_key key values) (cond b (rows ++ change.row ∷ []) (drop_one row_cmp change.row rows)) ≡ cond b (filter (has_key key values) rows ++ change.row ∷ []) (drop_one row_cmp change.row (filter (has_key key values) rows))) [
        | true ↦ filter-append (has_key key values) rows (change.row ∷ []) ∙ ap (λ b. filter (has_key key values) rows ++ cond b (change.row ∷ []) []) own
        | false ↦ filter-drop_one (has_key key values) change.row rows own
      ]

  pub under-other : (values : Row) (rows : List Row) (change : Change) → has_key key values change.row ≡ false → under key values (stands_after rows change) ≡ under key values rows
  under-other values rows change other =
      elim (adds change.kind) as (λ b. filter (has_key key values) (cond b (rows ++ change.row ∷ []) (drop_one row_cmp change.row rows)) ≡ filter (has_key key values) rows) [
        | true ↦ filter-append (has_key key values) rows (change.row ∷ []) ∙ ap (λ b. filter (has_key key values) rows ++ cond b (change.row ∷ []) []) other ∙ append-nothing (filter (has_key key values) rows)
        | false ↦ filter-drop_other (has_key key values) change.row rows other
      ]
    where
      append-nothing : (xs : List Row) → xs ++ [] ≡ xs
      append-nothing [] = refl
      append-nothing (x ∷ xs) = ap (λ zs. x ∷ zs) (append-nothing xs)

  -- the row that is shown under a key has it
  pub key-shown : (values : Row) (rows : List Row) (row : Row) → shown key values rows ≡ Some row → project key row ≡ values
  key-shown values rows row e = last-of (λ x. project key x ≡ values) None (under key values rows) (all-each (λ x. has_key key values x ≡ true) (λ x. project key x ≡ values) (λ x p. sym (key-true values x p)) (under key values rows) (all-filter (has_key key values) rows)) (λ x q. absurd (cc)) row e

  -- and what holds of all rows that stand
  pub all-shown : (P : Row → Type 0) (values : Row) (rows : List Row) → AllByRecursion P rows → (row : Row) → shown key values rows ≡ Some row → P row
  all-shown P values rows all row e = last-of P None (under key values rows) (filter-all P (has_key key values) rows all) (λ x q. absurd (cc)) row e

  same-keys : (values : Row) (old fresh : Option Row) → ((row : Row) → old ≡ Some row → project key row ≡ values) → ((row : Row) → fresh ≡ Some row → project key row ≡ values) → CanTell (upsert key) old fresh
  same-keys values None fresh p q = tt
  same-keys values (Some old) None p q = tt
  same-keys values (Some old) (Some fresh) p q = p old refl ∙ sym (q fresh refl)

  -- the row that is shown can give way to the one that is shown after a change
  pub can-materialize : (values : Row) (before after : List Row) → CanTell (upsert key) (shown key values before) (shown key values after)
  can-materialize values before after = same-keys values (shown key values before) (shown key values after) (key-shown values before) (key-shown values after)

  -- ---- what is emitted, by itself

  pub kinds-materialized : (rows : List Row) (changes : List Change) → AreOf (kinds_of (upsert key)) (materialized_all key rows changes)
  kinds-materialized rows [] = tt
  kinds-materialized rows (change ∷ changes) =
      all-append _ (materialized key rows change) (materialized_all key (stands_after rows change) changes)
      (emission_admitted (upsert key) _ _ (can-materialize (project key change.row) rows (stands_after rows change)))
      (kinds-materialized (stands_after rows change) changes)

  keyed-materialized : (rows : List Row) (changes : List Change) → AreKeyed (upsert key) (materialized_all key rows changes)
  keyed-materialized rows [] = tt
  keyed-materialized rows (change ∷ changes) =
      all-append (IsKeyed (upsert key)) (materialized key rows change) (materialized_all key (stands_after rows change) changes)
      (emission_keyed (upsert key) (shown key (project key change.row) rows) (shown key (project key change.row) (stands_after rows change)))
      (keyed-materialized (stands_after rows change) changes)

  -- each prefix is a changelog as it is written by the key
  pub changelog-materialized : (rows : List Row) (changes : List Change) (n : ℕ) → IsChangelog (upsert key) (take n (materialized_all key rows changes))
  changelog-materialized rows changes n = record {
    valid = valid-upsert key none (take n (materialized_all key rows changes)) (all-take _ n (materialized_all key rows changes) (kinds-materialized rows changes));
    keyed = all-take (IsKeyed (upsert key)) n (materialized_all key rows changes) (keyed-materialized rows changes);
  }

  -- of lists one after another
  pub materialized-append : (rows : List Row) (xs ys : List Change) → materialized_all key rows (xs ++ ys) ≡ materialized_all key rows xs ++ materialized_all key (fold stands_after rows xs) ys
  materialized-append rows [] ys = refl
  materialized-append rows (x ∷ xs) ys =
      ap (λ zs. materialized key rows x ++ zs) (materialized-append (stands_after rows x) xs ys)
      ∙ sym (append_assoc (materialized key rows x) (materialized_all key (stands_after rows x) xs) (materialized_all key (fold stands_after (stands_after rows x) xs) ys))

  -- its rows are rows that came
  pub rows-materialized : (P : Row → Type 0) (Q : Change → Type 0) → Tell P Q (upsert key) → (rows : List Row) → AllByRecursion P rows
      → (changes : List Change) → AllByRecursion (λ change. adds change.kind ≡ true → P change.row) changes → AllByRecursion Q (materialized_all key rows changes)
  rows-materialized P Q tell rows stand [] all = tt
  rows-materialized P Q tell rows stand (change ∷ changes) all =
      all-append Q (materialized key rows change) (materialized_all key (stands_after rows change) changes)
      (rows-emission P Q (upsert key) tell _ _ (all-shown P (project key change.row) rows stand) (all-shown P (project key change.row) (stands_after rows change) after))
      (rows-materialized P Q tell (stands_after rows change) after changes all.1)
    where
      after : AllByRecursion P (stands_after rows change)
      after = elim (adds change.kind) as (λ b. adds change.kind ≡ b → AllByRecursion P (cond b (rows ++ change.row ∷ []) (drop_one row_cmp change.row rows))) [
        | true ↦ λ e. all-append P rows (change.row ∷ []) stand (all.0 e, tt)
        | false ↦ λ e. drop_one-all P change.row rows stand
      ] refl

  -- ---- what is emitted leaves the rows that are shown

  last_shown-append : (row : Row) (start : ℕ) (xs ys : List Change) → last_shown key row start (xs ++ ys) ≡ last_shown key row (last_shown key row start xs) ys
  last_shown-append row start [] ys = refl
  last_shown-append row start (x ∷ xs) ys = last_shown-append row (cond (same_row (project key x.row) (project key row)) (addition row x) start) xs ys

  -- of the key of what is replaced
  module _ (row values : Row) (same : project key row ≡ values) where
    agrees : (other : Row) → project key other ≡ values → same_row (project key other) (project key row) ≡ true
    agrees other e = ap (λ k. same_row k (project key row)) (e ∙ sym same) ∙ same_row-itself (project key row)

    replaced-own : (old fresh : Option Row) → ((other : Row) → old ≡ Some other → project key other ≡ values) → ((other : Row) → fresh ≡ Some other → project key other ≡ values)
        → last_shown key row (count_in old row) (emission (upsert key) old fresh) ≡ count_in fresh row
    replaced-own None None p q = refl
    replaced-own None (Some fresh) p q = ap (λ b. cond b (one_at row_cmp row fresh) 0) (agrees fresh (q fresh refl))
    replaced-own (Some old) None p q = ap (λ b. cond b 0 (one_at row_cmp row old)) (agrees (key_row key old) (key_stays key old ∙ p old refl))
    replaced-own (Some old) (Some fresh) p q =
        elim (same_row old fresh) as (λ b. same_row old fresh ≡ b → last_shown key row (one_at row_cmp row old) (cond b [] (update (upsert key) old fresh)) ≡ one_at row_cmp row fresh) [
          | true ↦ λ e. ap (one_at row_cmp row) (same_row-true old fresh e)
          | false ↦ λ e. ap (λ b. cond b (one_at row_cmp row fresh) (one_at row_cmp row old)) (agrees fresh (q fresh refl))
        ] refl

  -- of another key
  module _ (row values : Row) (other : same_row values (project key row) ≡ false) (start : ℕ) where
    differs : (told : Row) → project key told ≡ values → same_row (project key told) (project key row) ≡ false
    differs told e = ap (λ k. same_row k (project key row)) e ∙ other

    replaced-other : (old fresh : Option Row) → ((row : Row) → old ≡ Some row → project key row ≡ values) → ((row : Row) → fresh ≡ Some row → project key row ≡ values)
        → last_shown key row start (emission (upsert key) old fresh) ≡ start
    replaced-other None None p q = refl
    replaced-other None (Some fresh) p q = ap (λ b. cond b (one_at row_cmp row fresh) start) (differs fresh (q fresh refl))
    replaced-other (Some old) None p q = ap (λ b. cond b 0 start) (differs (key_row key old) (key_stays key old ∙ p old refl))
    replaced-other (Some old) (Some fresh) p q =
        elim (same_row old fresh) as (λ b. last_shown key row start (cond b [] (update (upsert key) old fresh)) ≡ start) [
          | true ↦ refl
          | false ↦ ap (λ b. cond b (one_at row_cmp row fresh) start) (differs fresh (q fresh refl))
        ]

  one-materialized : (row : Row) (rows : List Row) (change : Change)
      → last_shown key row (count_in (shown key (project key row) rows) row) (materialized key rows change) ≡ count_in (shown key (project key row) (stands_after rows change)) row
  one-materialized row rows change =
      elim (same_row (project key change.row) (project key row)) as (λ b. same_row (project key change.row) (project key row) ≡ b → last_shown key row (count_in (shown key (project key row) rows) row) (materialized key rows change) ≡ count_in (shown key (project key row) (stands_after rows change)) row) [
        | true ↦ λ e.
            let same : project key row ≡ (project key change.row) = sym (same_row-true (project key change.row) (project key row) e) in
            ap (λ k. last_shown key row (count_in (shown key k rows) row) (materialized key rows change)) same
            ∙ replaced-own row (project key change.row) same (shown key (project key change.row) rows) (shown key (project key change.row) (stands_after rows change)) (key-shown (project key change.row) rows) (key-shown (project key change.row) (stands_after rows change))
            ∙ ap (λ k. count_in (shown key k (stands_after rows change)) row) (sym same)
        | false ↦ λ e.
            let apart : has_key key (project key row) change.row ≡ false = sym ((eq_by_cmp_equiv row_total).symm (project key change.row) (project key row)) ∙ e in
            replaced-other row (project key change.row) e (count_in (shown key (project key row) rows) row) (shown key (project key change.row) rows) (shown key (project key change.row) (stands_after rows change)) (key-shown (project key change.row) rows) (key-shown (project key change.row) (stands_after rows change))
            ∙ ap (λ (xs : List Row). count_in (last_or None xs) row) (sym (under-other (project key row) rows change apart))
      ] refl

  shown-from : (row : Row) (rows : List Row) (changes : List Change)
      → last_shown key row (count_in (shown key (project key row) rows) row) (materialized_all key rows changes) ≡ count_in (shown key (project key row) (fold stands_after rows changes)) row
  shown-from row rows [] = refl
  shown-from row rows (change ∷ changes) =
      last_shown-append row (count_in (shown key (project key row) rows) row) (materialized key rows change) (materialized_all key (stands_after rows change) changes)
      ∙ ap (λ n. last_shown key row n (materialized_all key (stands_after rows change) changes)) (one-materialized row rows change)
      ∙ shown-from row (stands_after rows change) changes

  -- what is emitted stands for the rows that are shown, by the key, and for no others
  pub means-materialized : (changes : List Change) (rows : Rows) → AreShown key (standing changes) rows → Means (upsert key) (materialized_all key [] changes) rows
  means-materialized changes rows are row = are row ∙ sym (shown-from row [] changes)

  pub materialized-means : (changes : List Change) (rows : Rows) → Means (upsert key) (materialized_all key [] changes) rows → AreShown key (standing changes) rows
  materialized-means changes rows means row = means row ∙ shown-from row [] changes

  pub fold-materialized : (changes : List Change) → AreShown key (standing changes) (fold_rows (upsert key) (materialized_all key [] changes))
  fold-materialized changes = materialized-means changes _ (means_fold (upsert key) (materialized_all key [] changes) (valid-upsert key none (materialized_all key [] changes) (kinds-materialized [] changes)))

  -- ---- where the key holds of the bag

  -- a row that passes is kept
  occurs-filter : (p : Row → Bool) (row : Row) → p row ≡ true → (xs : List Row) → occurs row_cmp row (filter p xs) ≡ occurs row_cmp row xs
  occurs-filter p row passes [] = refl
  occurs-filter p row passes (x ∷ xs) =
      elim (same_row row x) as (λ b. same_row row x ≡ b → occurs row_cmp row (filter p (x ∷ xs)) ≡ cond b 1 0 + occurs row_cmp row xs) [
        | true ↦ λ e.
            let kept : filter p (x ∷ xs) ≡ x ∷ filter p xs = ap (λ b. cond b (x ∷ filter p xs) (filter p xs)) (ap p (sym (same_row-true row x e)) ∙ passes) in
            let one : one_at row_cmp row x ≡ 1 = ap (λ b. cond {A = ℕ} b 1 0) e in
            let whole : occurs row_cmp row (filter p (x ∷ xs)) ≡ one_at row_cmp row x + occurs row_cmp row (filter p xs) = ap (occurs row_cmp row) kept in
            omega (arith, one, whole, occurs-filter p row passes xs)
        | false ↦ λ e.
            let none_ : one_at row_cmp row x ≡ 0 = ap (λ b. cond {A = ℕ} b 1 0) e in
            elim (p x) as (λ b. occurs row_cmp row (cond b (x ∷ filter p xs) (filter p xs)) ≡ 0 + occurs row_cmp row xs) [
              | true ↦ omega (arith, none_, occurs-filter p row passes xs)
              | false ↦ omega (arith, occurs-filter p row passes xs)
            ]
      ] refl

  occurs-some : (row : Row) (xs : List Row) → 0 < occurs row_cmp row xs → 0 < length xs
  occurs-some row [] some = absurd (omega arith)
  occurs-some row (x ∷ xs) some = omega arith

  module _ (rows : List Row) (unique : IsUnique key (λ row. occurs row_cmp row rows)) where
    -- at most one row stands under each key
    pub one-stands : (values : Row) → length (under key values rows) ≤ 1
    one-stands values = go (under key values rows) (of_occurs _ (under key values rows) (λ x some. some)) (all-filter (has_key key values) rows) (λ row some. once row (at_occurs (λ x. has_key key values x ≡ true) (under key values rows) (all-filter (has_key key values) rows) row some))
      where
        once : (row : Row) → has_key key values row ≡ true → occurs row_cmp row (under key values rows) ≡ occurs row_cmp row rows
        once row passes = occurs-filter (has_key key values) row passes rows

        go : (xs : List Row) → AllByRecursion (λ x. 0 < occurs row_cmp x xs) xs → AllByRecursion (λ x. has_key key values x ≡ true) xs → ((row : Row) → 0 < occurs row_cmp row xs → occurs row_cmp row xs ≡ occurs row_cmp row rows) → length xs ≤ 1
        go [] some have same = omega arith
        go (x ∷ []) some have same = omega arith
        go (x ∷ y ∷ ys) some have same =
            let one = unique x y (sym (key-true values x have.0) ∙ key-true values y have.1.0) (subst (λ n. 0 < n) (same x some.0) some.0) (subst (λ n. 0 < n) (same y some.1.0) some.1.0) in
            let both : same_row x y ≡ true = ap (same_row x) (sym one.0) ∙ same_row-itself x in
            let own = one_at_itself row_cmp row_total x in
            let two : one_at row_cmp x y ≡ 1 = ap (λ b. cond {A = ℕ} b 1 0) both in
            absurd (omega (arith, one.1, same x some.0, own, two))

    -- and so each row that stands is shown, once
    pub each-shown : (row : Row) → occurs row_cmp row rows ≡ count_in (shown key (project key row) rows) row
    each-shown row =
        elim (occurs row_cmp row rows == 0) as (λ z. (occurs row_cmp row rows == 0) ≡ z → occurs row_cmp row rows ≡ count_in (shown key (project key row) rows) row) [
          | true ↦ λ z.
              let nothing = eqb-true (occurs row_cmp row rows) 0 z in
              nothing ∙ sym (absent nothing (shown key (project key row) rows) refl)
          | false ↦ λ z.
              let some = eqb-false (occurs row_cmp row rows) 0 z in
              there (omega arith)
        ] refl
      where
        -- a row that is shown stands
        stands : (values other : Row) → shown key values rows ≡ Some other → 0 < occurs row_cmp other rows
        stands values other e = all-shown (λ x. 0 < occurs row_cmp x rows) values rows (of_occurs _ rows (λ x some. some)) other e

        absent : occurs row_cmp row rows ≡ 0 → (o : Option Row) → shown key (project key row) rows ≡ o → count_in o row ≡ 0
        absent z None e = refl
        absent z (Some other) e =
            elim (same_row row other) as (λ b. same_row row other ≡ b → cond {A = ℕ} b 1 0 ≡ 0) [
              | true ↦ λ t. absurd (let s = stands (project key row) other e in let is : occurs row_cmp other rows ≡ occurs row_cmp row rows = ap (λ r. occurs row_cmp r rows) (sym (same_row-true row other t)) in omega arith)
              | false ↦ λ t. refl
            ] refl

        there : 0 < occurs row_cmp row rows → occurs row_cmp row rows ≡ count_in (shown key (project key row) rows) row
        there some =
            let own : has_key key (project key row) row ≡ true = same_row-itself (project key row) in
            let kept = occurs-filter (has_key key (project key row)) row own rows in
            let last = last-some None (under key (project key row) rows) (occurs-some row (under key (project key row) rows) (omega arith)) in
            let one = unique row last.0 (sym (key-shown (project key row) rows last.0 last.1)) some (stands (project key row) last.0 last.1) in
            let is : count_in (shown key (project key row) rows) row ≡ 1 = ap (λ o. count_in o row) last.1 ∙ ap (one_at row_cmp row) (sym one.0) ∙ one_at_itself row_cmp row_total row in
            omega (arith, one.1, is)

  -- where the key holds of the bag, the rows that are shown are the bag
  pub bag-shown : (changes : List Change) → IsUnique key (copies (fold_rows retract changes)) → AreShown key (standing changes) (fold_rows retract changes)
  bag-shown changes unique row =
      sym (copies-standing changes row)
      ∙ each-shown (standing changes) (λ a b same x y. let one = unique a b same (subst (λ n. 0 < n) (copies-standing changes a) x) (subst (λ n. 0 < n) (copies-standing changes b) y) in (one.0, subst (λ n. n ≤ 1) (sym (copies-standing changes a)) one.1)) row

  -- and at most one row stands under each key
  pub one-standing : (changes : List Change) → IsUnique key (copies (fold_rows retract changes)) → (values : Row) → length (under key values (standing changes)) ≤ 1
  one-standing changes unique values =
      one-stands (standing changes) (λ a b same x y. let one = unique a b same (subst (λ n. 0 < n) (copies-standing changes a) x) (subst (λ n. 0 < n) (copies-standing changes b) y) in (one.0, subst (λ n. n ≤ 1) (sym (copies-standing changes a)) one.1)) values
