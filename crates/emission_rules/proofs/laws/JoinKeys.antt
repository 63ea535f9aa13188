-- Keys as weights: a key holds of rows where those with one value of it weigh 1 at most. What stands where two sides are joined
-- weighs 1 at most, where one of the sides leads.
use Rattle.std.proofs.Common.{◌≡◌, ℕ, ◌+◌, ◌<◌, ◌≤◌, ◌==◌, Bool, true, false, cond, List, [], ◌∷◌, refl, sym, ap, ◌∙◌, arith, inl, inr, ◌⊎◌}
use Rattle.std.specs.List.{AllByRecursion}
use Rattle.std.proofs.lemmas.Bool.{eqb-true, eqb-false}
use Rattle.ct_value.specs.Bag.{copies, items, one_at, total, weigh}
use Rattle.ct_value.proofs.laws.Bags.{copies-occurs, one_at_itself, weigh-sum}
use Rattle.ct_value.specs.Order.{row_cmp, row_total}
use Rattle.ct_value.specs.Rows.{project}
use Rattle.ct_value.specs.declared.row.Row.{Row}
use Rattle.ct_change.specs.Changelog.{Rows, same_row}
use Rattle.ct_change.proofs.laws.Meanings.{same_row-true, same_row-itself}
use Rattle.rel_algebra.specs.Sums.{Each}
use Rattle.rel_algebra.proofs.laws.Bags.{some_weighs}
use Rattle.op_rules.specs.Edges.{IsUnique}
use Rattle.emission_rules.proofs.laws.Weights.{total-below}
use Rattle.emission_rules.specs.Joins.{Join, match_count}
use Rattle.emission_rules.proofs.laws.Sums.{weigh-le, weigh-nothing, weigh-same}
use Rattle.emission_rules.proofs.laws.JoinStanding.{standing, shown_at, paired_at, alone_at}

abbrev pub one_if : Bool → ℕ
one_if b = cond b 1 0

abbrev pub has_value : List ℕ → Row → Row → Bool
has_value key value row = same_row (project key row) value

-- 1 for the rows with this value of a key
abbrev pub of_value : List ℕ → Row → Row → ℕ
of_value key value row = one_if (has_value key value row)

pub one_if-le : (b : Bool) → one_if b ≤ 1
one_if-le true = omega arith
one_if-le false = omega arith

pub one_if-some : (b : Bool) → 0 < one_if b → b ≡ true
one_if-some true h = refl
one_if-some false h = absurd (omega arith)

pub has_it : (key : List ℕ) (value row : Row) → 0 < of_value key value row → project key row ≡ value
has_it key value row some = same_row-true (project key row) value (one_if-some (has_value key value row) some)

-- ---- a key of rows

pub few_of_key : (key : List ℕ) (rows : Rows) → IsUnique key (copies rows) → (value : Row) → total (of_value key value) rows ≤ 1
few_of_key key rows unique value =
    elim (total (of_value key value) rows == 0) as (λ b. (total (of_value key value) rows == 0) ≡ b → total (of_value key value) rows ≤ 1) [
      | true ↦ λ z. let e = eqb-true (total (of_value key value) rows) 0 z in omega arith
      | false ↦ λ z.
          let apart = eqb-false (total (of_value key value) rows) 0 z in
          let found = some_weighs {R = row_cmp} row_total (of_value key value) rows (omega arith) in
          let is = has_it key value found.0 found.2 in
          let below = total-below (of_value key value) (one_at row_cmp found.0) rows (λ row there. at row there found.0 found.1 is) in
          let count = copies-occurs rows found.0 in
          let once = (unique found.0 found.0 refl found.1 found.1).1 in
          omega arith
    ] refl
  where
    at : (row : Row) → 0 < copies rows row → (first : Row) → 0 < copies rows first → project key first ≡ value → of_value key value row ≤ one_at row_cmp first row
    at row there first stands is =
        elim (has_value key value row) as (λ b. has_value key value row ≡ b → one_if b ≤ one_at row_cmp first row) [
          | true ↦ λ e.
              let same : row ≡ first = (unique row first (same_row-true (project key row) value e ∙ sym is) there stands).0 in
              let one : one_at row_cmp first row ≡ 1 = ap (one_at row_cmp first) same ∙ one_at_itself row_cmp row_total first in omega arith
          | false ↦ λ e. omega arith
        ] refl

pub unique_where : (key : List ℕ) (rows : Rows) → ((a : Row) → 0 < copies rows a → total (of_value key (project key a)) rows ≤ 1) → IsUnique key (copies rows)
unique_where key rows few a b same x y =
    let w = of_value key (project key a) in
    let all = few a x in
    let alone = total-below (one_at row_cmp a) w rows (λ row there. one_below row) in
    let of_a = copies-occurs rows a in
    let of_b = copies-occurs rows b in (
      elim (same_row a b) as (λ t. same_row a b ≡ t → a ≡ b) [
        | true ↦ λ e. same_row-true a b e
        | false ↦ λ e.
            let two = total-below (λ row. one_at row_cmp a row + one_at row_cmp b row) w rows (λ row there. both_below e row) in
            let sum = weigh-sum (one_at row_cmp a) (one_at row_cmp b) (items rows) in
            absurd (omega arith)
      ] refl,
      omega arith,
    )
  where
    weighs : (row : Row) → project key row ≡ project key a → of_value key (project key a) row ≡ 1
    weighs row e = ap (λ b. one_if b) (ap (λ v. same_row v (project key a)) e ∙ same_row-itself (project key a))

    one_below : (row : Row) → one_at row_cmp a row ≤ of_value key (project key a) row
    one_below row =
        elim (same_row a row) as (λ t. same_row a row ≡ t → cond t 1 0 ≤ of_value key (project key a) row) [
          | true ↦ λ e. let one = weighs row (ap (project key) (sym (same_row-true a row e))) in omega arith
          | false ↦ λ e. omega arith
        ] refl

    both_below : same_row a b ≡ false → (row : Row) → one_at row_cmp a row + one_at row_cmp b row ≤ of_value key (project key a) row
    both_below apart row =
        elim (same_row a row) as (λ t. same_row a row ≡ t → cond t 1 0 + one_at row_cmp b row ≤ of_value key (project key a) row) [
          | true ↦ λ e.
              let is = same_row-true a row e in
              let one = weighs row (ap (project key) (sym is)) in
              elim (same_row b row) as (λ u. same_row b row ≡ u → 1 + cond u 1 0 ≤ of_value key (project key a) row) [
                | true ↦ λ f. let is_b = same_row-true b row f in let wrong : true ≡ false = sym (same_row-itself a) ∙ ap (same_row a) (is ∙ sym is_b) ∙ apart in absurd (cc)
                | false ↦ λ f. omega arith
              ] refl
          | false ↦ λ e.
              elim (same_row b row) as (λ u. same_row b row ≡ u → 0 + cond u 1 0 ≤ of_value key (project key a) row) [
                | true ↦ λ f. let one = weighs row (ap (project key) (sym (same_row-true b row f)) ∙ sym same) in omega arith
                | false ↦ λ f. omega arith
              ] refl
        ] refl

-- ---- what stands

weigh-below : (f g : Row → ℕ) (xs : List Row) → AllByRecursion (λ x. f x ≤ g x) xs → weigh f xs ≤ weigh g xs
weigh-below f g [] h = omega arith
weigh-below f g (x ∷ xs) h = let a : f x ≤ g x = h.0 in let b = weigh-below f g xs h.1 in omega arith

both-hold : (P Q S : Row → Type 0) → ((x : Row) → P x → Q x → S x) → (xs : List Row) → AllByRecursion P xs → AllByRecursion Q xs → AllByRecursion S xs
both-hold P Q S h [] p q = tt
both-hold P Q S h (x ∷ xs) p q = (h x p.0 q.0, both-hold P Q S h xs p.1 q.1)

-- the rows of the own side with a value are few, what is shown for each weighs no more than it, and no row of the other side
-- weighs by itself
pub record Leads (w : Row → ℕ) (join : Join) (own : Row → Bool) (rows others : Rows) : Type 0 where
  pub pairs : Each (λ x. total (paired_at w join x) others ≤ one_if (own x)) rows
  pub form : Each (λ x. w (join.own.form x) ≤ one_if (own x)) rows
  pub apart : (join.own.matched ≡ false) ⊎ (join.pairs ≡ false)
  pub few : total (λ x. one_if (own x)) rows ≤ 1
  pub other_none : total (λ y. alone_at w join.other (match_count (λ x. join.matches x y) rows) y) others ≡ 0

module _ (w : Row → ℕ) (small : (row : Row) → w row ≤ 1) (join : Join) (own : Row → Bool) (rows others : Rows) (leads : Leads w join own rows others) where
  cond-nothing : (b : Bool) → ◌≡◌ {A = ℕ} (cond b 0 0) 0
  cond-nothing true = refl
  cond-nothing false = refl

  below-count : (x y : Row) → paired_at w join x y ≤ one_if (join.matches x y)
  below-count x y =
      elim (join.matches x y) as (λ b. cond b (cond join.pairs (w (join.pair x y)) 0) 0 ≤ one_if b) [
        | true ↦ elim join.pairs as (λ p. cond p (w (join.pair x y)) 0 ≤ 1) [ true ↦ small (join.pair x y) | false ↦ omega arith ]
        | false ↦ omega arith
      ]

  no_pairs : join.pairs ≡ false → (x : Row) → total (paired_at w join x) others ≡ 0
  no_pairs e x = weigh-same _ _ (λ y. ap (λ p. cond (join.matches x y) (cond p (w (join.pair x y)) 0) 0) e ∙ cond-nothing (join.matches x y)) (items others) ∙ weigh-nothing (items others)

  shown-le : (x : Row) → total (paired_at w join x) others ≤ one_if (own x) → w (join.own.form x) ≤ one_if (own x) → shown_at w join others x ≤ one_if (own x)
  shown-le x pairs form =
      let none = weigh-le (paired_at w join x) (λ y. one_if (join.matches x y)) (below-count x) (items others) in
      elim (match_count (join.matches x) others == 0) as (λ z. (match_count (join.matches x) others == 0) ≡ z → total (paired_at w join x) others + cond (cond z join.own.unmatched join.own.matched) (w (join.own.form x)) 0 ≤ one_if (own x)) [
        | true ↦ λ e.
            let zero_ = eqb-true (match_count (join.matches x) others) 0 e in
            elim join.own.unmatched as (λ u. total (paired_at w join x) others + cond u (w (join.own.form x)) 0 ≤ one_if (own x)) [ true ↦ omega arith | false ↦ omega arith ]
        | false ↦ λ e. alone leads.apart
      ] refl
    where
      alone : (join.own.matched ≡ false) ⊎ (join.pairs ≡ false) → total (paired_at w join x) others + cond join.own.matched (w (join.own.form x)) 0 ≤ one_if (own x)
      alone (inl m) = let z : cond join.own.matched (w (join.own.form x)) 0 ≡ 0 = ap (λ b. cond b (w (join.own.form x)) 0) m in omega arith
      alone (inr p) =
          let z = no_pairs p x in
          elim join.own.matched as (λ u. total (paired_at w join x) others + cond u (w (join.own.form x)) 0 ≤ one_if (own x)) [ true ↦ omega arith | false ↦ omega arith ]

  pub stands_once : standing w join rows others ≤ 1
  stands_once =
      let shown = weigh-below (shown_at w join others) (λ x. one_if (own x)) (items rows) (both-hold _ _ _ (λ x p f. shown-le x p f) (items rows) leads.pairs leads.form) in
      let few = leads.few in
      let none = leads.other_none in
      omega arith
