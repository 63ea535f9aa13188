-- The theorems of this crate, put together of its lemmas.
use Rattle.std.proofs.Common.{rules, arith}
use Rattle.std.proofs.lemmas.Grind.{common_steps}
use Rattle.std.specs.Prelude.{◌≡◌, []}
use Rattle.ct_value.specs.Bag.{none}
use Rattle.ct_change.specs.Changelog.{Mode, fold}

-- An empty changelog leaves no rows, and one more change changes what the list before it leaves.
pub fold_takes_each_change_empty : (mode : Mode) → fold mode [] ≡ none
fold_takes_each_change_empty = first_of (search rules, grind (arith, common_steps))
