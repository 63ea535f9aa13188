-- The order of values and of rows, that it is total, and that it tells all of them apart.
use Rattle.std.specs.Prelude.{◌≡◌, ℕ, ℤ, pos, List, [], true, false, cond, ◌==◌}
use Rattle.std.specs.Coded.{Coded, code_by, coded×, coded_ℕ, coded_ℤ, coded_list}
use Rattle.std.proofs.Common.{refl, ap}
use Rattle.std.specs.Ordering.{nat_cmp, int_cmp, then_cmp, on, ordering_then}
use Rattle.std.specs.declared.cmp.Ordering.{Ordering}
use Rattle.std.specs.declared.cmp.Ordering.TheVariants.{Less, Equal, Greater}
use Rattle.std.specs.Cmp.{IsTotalOrder, nat_cmp_total, int_cmp_total, on_total, then_total}
use Rattle.std.specs.Cmp.Lexicographic.{slice_cmp, lists_total}
use Rattle.std.specs.FinMap.{IsAntisymmetric, nat_cmp-IsAntisymmetric, int_cmp-IsAntisymmetric, slice_cmp-IsAntisymmetric}
use Rattle.ct_value.specs.declared.value.Value.{Value}
use Rattle.ct_value.specs.declared.value.Value.TheVariants.{Null, Bool as Truth, Num, Text}

-- NULL, FALSE, TRUE, then all numbers, then all texts
abbrev pub rank : Value → ℕ
rank Null = 0
rank (Truth false) = 1
rank (Truth true) = 2
rank (Num n) = 3
rank (Text t) = 4

abbrev pub number_of : Value → ℤ
number_of Null = pos 0
number_of (Truth b) = pos 0
number_of (Num n) = n
number_of (Text t) = pos 0

abbrev pub text_of : Value → List ℕ
text_of Null = []
text_of (Truth b) = []
text_of (Num n) = []
text_of (Text t) = t

-- by rank, numbers by value and texts by their bytes
abbrev pub value_cmp : Value → Value → Ordering
value_cmp = then_cmp (on rank nat_cmp) (then_cmp (on number_of int_cmp) (on text_of (slice_cmp nat_cmp)))

-- value by value, and a row that begins a longer one before it
abbrev pub row_cmp : List Value → List Value → Ordering
row_cmp = slice_cmp value_cmp

pub value_total : IsTotalOrder value_cmp
value_total = then_total (on_total rank nat_cmp_total) (then_total (on_total number_of int_cmp_total) (on_total text_of (lists_total nat_cmp_total)))

pub row_total : IsTotalOrder row_cmp
row_total = lists_total value_total

first_tied : (r s : Ordering) → ordering_then r s ≡ Equal → r ≡ Equal
first_tied Less s e = absurd (cc)
first_tied Equal s e = refl
first_tied Greater s e = absurd (cc)

-- values that compare alike are one
pub value_exact : IsAntisymmetric value_cmp
value_exact Null Null e = refl
value_exact Null (Truth false) e = absurd (cc)
value_exact Null (Truth true) e = absurd (cc)
value_exact Null (Num b) e = absurd (cc)
value_exact Null (Text b) e = absurd (cc)
value_exact (Truth false) Null e = absurd (cc)
value_exact (Truth false) (Truth false) e = refl
value_exact (Truth false) (Truth true) e = absurd (cc)
value_exact (Truth false) (Num b) e = absurd (cc)
value_exact (Truth false) (Text b) e = absurd (cc)
value_exact (Truth true) Null e = absurd (cc)
value_exact (Truth true) (Truth false) e = absurd (cc)
value_exact (Truth true) (Truth true) e = refl
value_exact (Truth true) (Num b) e = absurd (cc)
value_exact (Truth true) (Text b) e = absurd (cc)
value_exact (Num a) Null e = absurd (cc)
value_exact (Num a) (Truth false) e = absurd (cc)
value_exact (Num a) (Truth true) e = absurd (cc)
value_exact (Num a) (Num b) e = ap Num (int_cmp-IsAntisymmetric a b (first_tied _ _ e))
value_exact (Num a) (Text b) e = absurd (cc)
value_exact (Text a) Null e = absurd (cc)
value_exact (Text a) (Truth false) e = absurd (cc)
value_exact (Text a) (Truth true) e = absurd (cc)
value_exact (Text a) (Num b) e = absurd (cc)
value_exact (Text a) (Text b) e = ap Text (slice_cmp-IsAntisymmetric nat_cmp-IsAntisymmetric a b e)

-- rows that compare alike are one
pub row_exact : IsAntisymmetric row_cmp
row_exact = slice_cmp-IsAntisymmetric value_exact

-- the value of a rank, with this number or this text
abbrev pub value_from : ℕ → ℤ → List ℕ → Value
value_from k n t = cond (k == 0) Null (cond (k == 1) (Truth false) (cond (k == 2) (Truth true) (cond (k == 3) (Num n) (Text t))))

pub value_back : (v : Value) → value_from (rank v) (number_of v) (text_of v) ≡ v
value_back Null = refl
value_back (Truth false) = refl
value_back (Truth true) = refl
value_back (Num n) = refl
value_back (Text t) = refl

-- the codes of values and rows, by which a proof tells them apart
abbrev pub coded_value : Coded Value
coded_value = code_by (ℕ × (ℤ × List ℕ)) (coded× coded_ℕ (coded× coded_ℤ (coded_list coded_ℕ)))
    (λ v. (rank v, (number_of v, text_of v))) (λ p. value_from p.0 p.1.0 p.1.1) value_back

abbrev pub coded_row : Coded (List Value)
coded_row = coded_list coded_value
