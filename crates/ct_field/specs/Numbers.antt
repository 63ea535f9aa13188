-- Which number fits a type, and a number taken to another scale.
use Rattle.std.specs.Prelude.{ℕ, ◌+◌, ◌*◌, ◌-◌, ◌/◌, ◌^◌, ℤ, pos, neg_ℤ, ◌*ℤ◌, unsigned_abs, int_le, int_lt, nat_lt, nat_le, Bool, true, false, ◌&&◌, cond, Option, Some, None, option_and_then}
use Rattle.std.specs.Int.{is_negative}
use Rattle.ct_value.specs.declared.ty.Ty.{Ty}
use Rattle.ct_value.specs.declared.ty.Ty.TheVariants.{Bool as Truth, Int, BigInt, Decimal, Text}

-- whether a decimal has 1 to 38 digits, at most all of them behind the point
abbrev pub is_type : Ty → Bool
is_type (Decimal p s) = nat_le 1 p && (nat_le p 38 && nat_le s p)
is_type ty = true

-- whether a number, unscaled, is one of a type
abbrev pub in_range : Ty → ℤ → Bool
in_range Truth n = false
in_range Int n = int_le (neg_ℤ (pos (2 ^ 31))) n && int_lt n (pos (2 ^ 31))
in_range BigInt n = int_le (neg_ℤ (pos (2 ^ 63))) n && int_lt n (pos (2 ^ 63))
in_range (Decimal p s) n = nat_lt (unsigned_abs n) (10 ^ p)
in_range Text n = false

-- a number of this magnitude, negative or not
abbrev pub signed : Bool → ℕ → ℤ
signed false n = pos n
signed true n = neg_ℤ (pos n)

abbrev pub has_38_digits : ℤ → Bool
has_38_digits n = nat_lt (unsigned_abs n) (10 ^ 38)

-- with so many more decimals, where that has at most 38 digits
abbrev pub raised : ℤ → ℕ → Option ℤ
raised n k = let m = n *ℤ pos (10 ^ k) in cond (has_38_digits m) (Some m) None

-- n / d, to the nearest, and up where two are equally near
abbrev pub nearest_magnitude : ℕ → ℕ → ℕ
nearest_magnitude n d = (2 * n + d) / (2 * d)

-- with so many decimals less: the nearest, and of two equally near ones the one farther from zero
abbrev pub nearest : ℤ → ℕ → ℤ
nearest n k = signed (is_negative n) (nearest_magnitude (unsigned_abs n) (10 ^ k))

-- an unscaled number of one scale at another
abbrev pub rescale : ℤ → ℕ → ℕ → Option ℤ
rescale n from to = cond (nat_le from to) (raised n (to - from)) (Some (nearest n (from - to)))

-- a number without a sign, where it has at most 38 digits
abbrev pub bounded_number : ℕ → Option ℕ
bounded_number n = cond (nat_lt n (10 ^ 38)) (Some n) None

abbrev pub bounded : Option ℕ → Option ℕ
bounded o = option_and_then bounded_number o
