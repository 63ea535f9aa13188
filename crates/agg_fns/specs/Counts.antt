-- Values with their counts, as a bag of values keeps them.
use Rattle.std.specs.Prelude.{◌≢◌, ℕ, Some}
use Rattle.std.specs.BTreeMap.{BTreeMap, IsOrdered, get}
use Rattle.ct_value.specs.Order.{value_cmp}
use Rattle.ct_value.specs.declared.value.Value.{Value}

-- the values stand in order, and no count is 0
pub record AreCounts (counts : BTreeMap Value ℕ) : Type 0 where
  pub ordered : IsOrdered value_cmp counts
  pub positive : (value : Value) → get value_cmp counts value ≢ Some 0
