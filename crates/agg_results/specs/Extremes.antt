-- The lesser and the greater of two values of which each may be missing.
use Rattle.std.specs.Prelude.{cond, Option, Some, None}
use Rattle.std.specs.Ordering.{is_gt}
use Rattle.ct_value.specs.Order.{value_cmp}
use Rattle.ct_value.specs.declared.value.Value.{Value}

abbrev pub lesser : Option Value → Option Value → Option Value
lesser None best = best
lesser (Some value) None = Some value
lesser (Some value) (Some other) = cond (is_gt (value_cmp value other)) (Some other) (Some value)

abbrev pub greater : Option Value → Option Value → Option Value
greater None best = best
greater (Some value) None = Some value
greater (Some value) (Some other) = cond (is_gt (value_cmp value other)) (Some value) (Some other)
