-- Values that differ in their abbreviations are told apart by them.
use Rattle.std.proofs.Common.{◌≡◌, ◌<◌, ◌^◌, [], ◌∷◌, refl, sym, Ordering, Less, Equal, Greater}
use Rattle.std.specs.Ordering.{ordering_then}
use Rattle.ct_value.specs.declared.value.Value.{Value}
use Rattle.ct_value.specs.Order.{value_cmp}
use Rattle.ct_value.specs.Abbreviations.{value_abbreviation}
use Rattle.ct_value.proofs.Abbreviations.{less_first, row_small}

then_none : (o : Ordering) → ordering_then o Equal ≡ Less → o ≡ Less
then_none Less h = refl
then_none Equal h = h
then_none Greater h = absurd (cc)

-- of two values that differ in their abbreviations the one with the less stands first
pub value_first : (v w : Value) → value_abbreviation v < value_abbreviation w → value_cmp v w ≡ Less
value_first v w h = then_none (value_cmp v w) (sym (less_first (v ∷ []) (w ∷ []) h))

-- an abbreviation has room in 64 bits
pub value_small : (v : Value) → value_abbreviation v < 2 ^ 64
value_small v = row_small (v ∷ [])
