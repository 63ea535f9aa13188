-- The theorems of this crate, put together of its lemmas.
use Rattle.ct_value.specs.Bag.{copies, items}
use Rattle.ct_value.proofs.laws.Bags.{same_bag}
use Rattle.ct_value.specs.Order.{row_total, row_exact, row_cmp}
use Rattle.std.specs.Prelude.{◌≡◌, Option, is_some, Bool}
use Rattle.ct_value.specs.declared.row.Row.{Row}
use Rattle.ct_change.specs.Changelog.{Rows}
use Rattle.rel_algebra.proofs.laws.Bags.{sum_over-together, is_some-sum_over}
use Rattle.rel_algebra.specs.Sums.{together, plus, sum_over}
use Rattle.std.specs.List.{list_all}
use Rattle.rel_algebra.proofs.laws.Joins.{semi_join-together}
use Rattle.rel_algebra.specs.Joins.{Matching, MatchNone, semi_join}

-- Two bags with the same copies of each row are one: whatever a clause answers, it depends on its bags
-- alone.
pub bags_of_same_copies : (rows others : Rows) → ((row : Row) → copies rows row ≡ copies others row) → rows ≡ others
bags_of_same_copies = same_bag row_total row_exact

-- What is made of the items of a bag, all together: of a sum of bags it is the sum, and it is out of range
-- exactly where what is made of one of the items is.
pub sum_over_a_sum_parts : (make : Row → Option Rows) (rows others : Rows) → sum_over make (together rows others) ≡ plus (sum_over make rows) (sum_over make others)
sum_over_a_sum_parts = sum_over-together row_total row_exact row_total row_exact

-- What is made of the items of a bag, all together: of a sum of bags it is the sum, and it is out of range
-- exactly where what is made of one of the items is.
pub sum_over_a_sum_in_range : (make : Row → Option Rows) (rows : Rows) → is_some (sum_over {S = row_cmp} make rows) ≡ list_all (λ row. is_some (make row)) (items rows)
sum_over_a_sum_in_range = is_some-sum_over row_total row_exact row_total row_exact

-- Where the rows of each part match rows of the same part alone, a join of the sums is the sum of the joins
-- of the parts: for each kind of join, for semi and for anti joins.
pub join_of_parts_semi : (anti : Bool) (match : Matching) (a b c d : Rows) → MatchNone match a d → MatchNone match b c → semi_join anti match (together a b) (together c d) ≡ plus (semi_join anti match a c) (semi_join anti match b d)
join_of_parts_semi = λ anti match a b c d apart other_apart. semi_join-together match a b c d apart other_apart anti
