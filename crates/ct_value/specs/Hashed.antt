-- What values and rows feed a hasher: the parts by which they are compared, so that equal ones feed alike.
use Rattle.std.specs.Prelude.{◌≡◌, true, List, [], ◌++◌}
use Rattle.std.proofs.Common.{ap}
use Rattle.std.specs.Hash as fed
use Rattle.std.specs.Ordering.{eq_by_cmp}
use Rattle.std.specs.Cmp.{Equal-is}
use Rattle.ct_value.specs.declared.value.Value.{Value}
use Rattle.ct_value.specs.declared.value.Value.TheVariants.{Null, Bool as Truth, Num, Text}
use Rattle.ct_value.specs.Order.{rank, value_cmp, value_exact, row_cmp, row_exact}

-- the number, or the text
abbrev pub part_input : Value → fed.HashWrites
part_input Null = []
part_input (Truth b) = []
part_input (Num n) = fed.i128 n
part_input (Text t) = fed.str t

abbrev pub value_input : Value → fed.HashWrites
value_input v = fed.u8 (rank v) ++ part_input v

-- the number of values, and then each
abbrev pub row_input : List Value → fed.HashWrites
row_input = fed.slice value_input

pub value_fed : (v w : Value) → eq_by_cmp value_cmp v w ≡ true → value_input v ≡ value_input w
value_fed v w e = ap value_input (value_exact v w ((Equal-is (value_cmp v w)).0 e))

pub row_fed : (r s : List Value) → eq_by_cmp row_cmp r s ≡ true → row_input r ≡ row_input s
row_fed r s e = ap row_input (row_exact r s ((Equal-is (row_cmp r s)).0 e))
