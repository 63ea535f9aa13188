-- A Top-N stays in range: it shows rows that stand, with a number behind them.
use Rattle.std.proofs.Common.{◌≡◌, ℕ, suc, pos, ◌+◌, Bool, true, false, List, [], ◌∷◌, length, map, refl}
use Rattle.std.specs.List.{AllByRecursion}
use Rattle.ct_value.specs.Bag.{none}
use Rattle.ct_value.specs.Order.{row_total, row_exact}
use Rattle.ct_value.specs.declared.row.Row.{Row}
use Rattle.ct_value.specs.declared.value.Value.TheVariants.{Num}
use Rattle.ct_change.specs.declared.change.Change.{Change}
use Rattle.ct_change.specs.Changelog.{Rows, adds, apply, fold}
use Rattle.rel_algebra.specs.Ranks.{ranked_from, shown}
use Rattle.rel_algebra.proofs.laws.Bags.{each-copies}
use Rattle.op_rules.specs.History.{at_port}
use Rattle.op_rules.proofs.laws.Histories.{all-append, all-each}
use Rattle.emission_rules.specs.Ranking.{Ranking, key_of, first, tells, tells_all}
use Rattle.emission_rules.proofs.laws.Ranked.{all-first}
use Rattle.emission_rules.proofs.laws.TopTold.{rows_told}
use Rattle.range_rules.specs.Ranges.{IsShortRow, IsShort, TopNsStayInRange}
use Rattle.range_rules.proofs.laws.Folds.{AreShort, none_short, one_after, all_after}
use Rattle.range_rules.proofs.laws.Answers.{told_short, at_port_short, both_short}

shown_short : (ranked : Bool) (row : Row) (rank : ℕ) → IsShortRow row → IsShortRow (shown ranked (row, rank))
shown_short true row rank h = both_short row (Num (pos rank) ∷ []) h (refl, tt)
shown_short false row rank h = h

all_shown : (ranked : Bool) (rank : ℕ) (rows : List Row) → AllByRecursion IsShortRow rows → AllByRecursion IsShortRow (map (shown ranked) (ranked_from rank rows))
all_shown ranked rank [] h = tt
all_shown ranked rank (row ∷ rows) h = (shown_short ranked row rank h.0, all_shown ranked (suc rank) rows h.1)

module _ (r : Ranking) where
  first_short : (n : ℕ) (key : Row) (rows : Rows) → AreShort n rows → AllByRecursion IsShortRow (map (shown r.ranked) (ranked_from 1 (first r key rows)))
  first_short n key rows short =
      all_shown r.ranked 1 (first r key rows)
      (all-each (λ row. (key ≡ key_of r row) × IsShortRow row) IsShortRow (λ row h. h.1) (first r key rows) (all-first r IsShortRow key rows (each-copies row_total row_exact IsShortRow rows short.each)))

  one_short : (n : ℕ) (rows : Rows) (change : Change) → AreShort n rows → IsShort change → AllByRecursion IsShort (tells r rows change)
  one_short n rows change short h =
      let key = key_of r change.row in
      let after = apply r.input rows change in
      rows_told IsShortRow IsShort r (λ kind row h. told_short r.output (adds kind) row h) (λ e row h. h) (first r key rows) (first r key after) (first_short n key rows short) (first_short (n + 1) key after (one_after r.input n rows change h short))

  all_short : (n : ℕ) (rows : Rows) (changes : List Change) → AreShort n rows → AllByRecursion IsShort changes → AllByRecursion IsShort (tells_all r rows changes)
  all_short n rows [] short h = tt
  all_short n rows (change ∷ changes) short h =
      all-append IsShort (tells r rows change) (tells_all r (apply r.input rows change) changes) (one_short n rows change short h.0)
      (all_short (n + 1) (apply r.input rows change) changes (one_after r.input n rows change h.0 short) h.1)

pub topns_stay : TopNsStayInRange
topns_stay r = record {
  opens = λ subtask. tt;
  answers = λ before piece h k few.
      all_short r (0 + length (at_port 0 before)) (fold r.input (at_port 0 before)) (at_port 0 piece)
      (all_after r.input 0 none (at_port 0 before) (at_port_short 0 before h) none_short) (at_port_short 0 piece k);
}
