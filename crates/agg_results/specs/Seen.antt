-- Different values, each once.
use Rattle.std.specs.Prelude.{◌==◌, cond, Option, Some, None}
use Rattle.ct_value.specs.Bag.{add, copies}
use Rattle.ct_value.specs.declared.value.Value.{Value}
use Rattle.rel_algebra.specs.Aggregates.{Values}

-- with a value, where there is one and it isn't there
abbrev pub seen_too : Option Value → Values → Values
seen_too None values = values
seen_too (Some value) values = cond (copies values value == 0) (add values value) values
