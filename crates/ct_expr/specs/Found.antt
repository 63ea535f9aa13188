-- What a found value is.
use Rattle.std.specs.Prelude.{Option, Some, None, option_map}
use Rattle.ct_value.specs.declared.value.Value.{Value}
use Rattle.ct_expr.specs.declared.found.Found.{Found}
use Rattle.ct_expr.specs.declared.found.Found.TheVariants.{Lent, Made}
use Rattle.ct_expr.specs.declared.found.Choice.{Choice}
use Rattle.ct_expr.specs.declared.found.Choice.TheVariants.{Chosen, Otherwise}

abbrev pub held : Found → Value
held (Lent v) = v.now
held (Made v) = v

abbrev pub meaning : Option Found → Option Value
meaning o = option_map held o

abbrev pub both_held : Option (Found × Found) → Option (Value × Value)
both_held None = None
both_held (Some p) = Some (held p.0, held p.1)

abbrev pub pair_of : Value → Value → Option (Value × Value)
pair_of v w = Some (v, w)

-- what it comes to with an ELSE of this meaning
abbrev pub with_else : Choice → Option Value → Option Value
with_else (Chosen m) o = meaning m
with_else Otherwise o = o
