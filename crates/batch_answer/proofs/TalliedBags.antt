-- Rows with counts as bags: their copies, the runs of a bag's items, and a loop that adds them one by one.
use Rattle.std.proofs.Common.{◌≡◌, ℕ, suc, ◌+◌, ◌*◌, ◌<◌, ◌≤◌, ◌^◌, true, false, cond, List, [], ◌∷◌, Some, refl, sym, ap, ◌∙◌, arith}
use Rattle.std.specs.List.{AllByRecursion}
use Rattle.std.specs.Map.{lookup}
use Rattle.std.specs.Option.{unwrap_or}
use Rattle.std.specs.BTreeMap.{BTreeMap, keys, is_at}
use Rattle.std.proofs.lemmas.Map.Keys.{IsDistinct-from_sorted}
use Rattle.ct_value.specs.Bag.{items, none, add, add_many, bag_of, bag_of_counts, copies, one_at}
use Rattle.ct_value.proofs.laws.Bags.{copies-occurs, copies-bag_of_counts, one_at_itself, same_bag, total-add_many}
use Rattle.ct_value.specs.Order.{row_cmp, row_total, row_exact}
use Rattle.ct_value.specs.declared.row.Row.{Row}
use Rattle.ct_change.specs.Changelog.{Rows, same_row}
use Rattle.ct_change.specs.Counts.{one_more, runs}
use Rattle.ct_change.proofs.laws.Meanings.{same_row-true}
use Rattle.rel_algebra.specs.Sums.{together}
use Rattle.rel_algebra.proofs.laws.Bags.{bag_of-items, copies-together, together-none, together-comm}
use Rattle.batch_answer.specs.Tallies.{AreCounted, IsTally, Unfit}
use Rattle.batch_answer.specs.Parts.{IsFew}

copies-many : (rows : Rows) (row other : Row) (n : ℕ) → copies (add_many rows row n) other ≡ n * one_at row_cmp other row + copies rows other
copies-many rows row other n = copies-occurs (add_many rows row n) other ∙ total-add_many row_total (one_at row_cmp other) rows row n ∙ ap (λ k. n * one_at row_cmp other row + k) (sym (copies-occurs rows other))

-- ---- counts that the program keeps

counted_below : (entries : List (Row × ℕ)) (row : Row) → AreCounted entries → unwrap_or (lookup (is_at (row_cmp row)) entries) 0 < 2 ^ 64
counted_below [] row h = omega arith
counted_below (entry ∷ entries) row h =
    elim (is_at (row_cmp row) entry.0) as (λ b. unwrap_or (cond b (Some entry.1) (lookup (is_at (row_cmp row)) entries)) 0 < 2 ^ 64) [ true ↦ h.0.1 | false ↦ counted_below entries row h.1 ]

pub few-tally : (counts : BTreeMap Row ℕ) (rows : Rows) → IsTally counts → bag_of_counts counts.entries ≡ rows → IsFew rows
few-tally counts rows are e row =
    let same : copies (bag_of_counts {R = row_cmp} counts.entries) row ≡ copies rows row = ap (λ (r : Rows). copies r row) e in
    let found = copies-bag_of_counts row_total counts.entries row (IsDistinct-from_sorted row_cmp (keys counts) are.ordered) in
    let below = counted_below counts.entries row are.counted in
    omega arith

-- ---- runs

bag-one_more : (row : Row) (entries : List (Row × ℕ)) → bag_of_counts {R = row_cmp} (one_more row entries) ≡ add (bag_of_counts entries) row
bag-one_more row [] = refl
bag-one_more row (entry ∷ entries) =
    elim (same_row row entry.0) as (λ b. same_row row entry.0 ≡ b → bag_of_counts {R = row_cmp} (cond b ((row, suc entry.1) ∷ entries) ((row, 1) ∷ entry ∷ entries)) ≡ add (bag_of_counts (entry ∷ entries)) row) [
      | true ↦ λ e. ap (λ (r : Row). add (add_many (bag_of_counts entries) r entry.1) row) (same_row-true row entry.0 e)
      | false ↦ λ e. refl
    ] refl

bag-runs : (rows : List Row) → bag_of_counts {R = row_cmp} (runs rows) ≡ bag_of rows
bag-runs [] = refl
bag-runs (row ∷ rows) = bag-one_more row (runs rows) ∙ ap (λ (r : Rows). add r row) (bag-runs rows)

-- each run has a row
abbrev pub ArePositive : List (Row × ℕ) → Type 0
ArePositive entries = AllByRecursion (λ entry. 0 < entry.1) entries

positive-one_more : (row : Row) (entries : List (Row × ℕ)) → ArePositive entries → ArePositive (one_more row entries)
positive-one_more row [] h = (omega arith, tt)
positive-one_more row (entry ∷ entries) h =
    elim (same_row row entry.0) as (λ b. ArePositive (cond b ((row, suc entry.1) ∷ entries) ((row, 1) ∷ entry ∷ entries))) [ true ↦ (omega arith, h.1) | false ↦ (omega arith, h) ]

pub positive-runs : (rows : List Row) → ArePositive (runs rows)
positive-runs [] = tt
positive-runs (row ∷ rows) = positive-one_more row (runs rows) (positive-runs rows)

-- ---- rows added one by one

pub added-start : (all so_far : Rows) (entries : List (Row × ℕ)) → so_far ≡ none → bag_of_counts entries ≡ all → together so_far (bag_of_counts entries) ≡ all
added-start all so_far entries e g = ap (λ (r : Rows). together r (bag_of_counts entries)) e ∙ together-none row_total row_exact (bag_of_counts entries) ∙ g

pub added-runs : (all so_far : Rows) → so_far ≡ none → together so_far (bag_of_counts (runs (items all))) ≡ all
added-runs all so_far e = added-start all so_far (runs (items all)) e (bag-runs (items all) ∙ bag_of-items row_total row_exact all)

module _ (all so_far : Rows) (row : Row) (n : ℕ) (entries : List (Row × ℕ)) (before : together so_far (bag_of_counts ((row, n) ∷ entries)) ≡ all) where
  pub added-turn : (new : Rows) → new ≡ add_many so_far row n → together new (bag_of_counts entries) ≡ all
  added-turn new e =
      ap (λ (r : Rows). together r (bag_of_counts entries)) e
      ∙ same_bag row_total row_exact _ _ (λ other.
      let a = copies-together row_total row_exact (add_many so_far row n) (bag_of_counts entries) other in
      let b = copies-many so_far row other n in
      let c = copies-together row_total row_exact so_far (bag_of_counts ((row, n) ∷ entries)) other in
      let d = copies-many (bag_of_counts entries) row other n in
      omega arith)
      ∙ before

  -- the row has these copies in the whole
  pub added-least : copies so_far row + n ≤ copies all row
  added-least =
      let same : copies (together so_far (bag_of_counts ((row, n) ∷ entries))) row ≡ copies all row = ap (λ (r : Rows). copies r row) before in
      let c = copies-together row_total row_exact so_far (bag_of_counts ((row, n) ∷ entries)) row in
      let d = copies-many (bag_of_counts entries) row row n in
      let i : one_at row_cmp row row ≡ 1 = one_at_itself row_cmp row_total row in
      let j : n * one_at row_cmp row row ≡ n = ap (λ k. n * k) i ∙ omega arith in
      omega arith

  pub added-full : 2 ^ 64 ≤ copies so_far row + n → Unfit (Some all)
  added-full h = (row, let l = added-least in omega arith)

  pub added-room : IsFew all → copies so_far row + n < 2 ^ 64
  added-room few = let f = few row in let l = added-least in omega arith

pub added-end : (all so_far : Rows) (entries : List (Row × ℕ)) → entries ≡ [] → together so_far (bag_of_counts entries) ≡ all → so_far ≡ all
added-end all so_far entries e h = sym (together-none row_total row_exact so_far) ∙ together-comm row_total row_exact none so_far ∙ ap (λ es. together so_far (bag_of_counts es)) (sym e) ∙ h
