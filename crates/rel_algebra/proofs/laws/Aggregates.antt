-- Laws of the numbers that aggregates are made of: those of a sum of bags are sums.
use Rattle.std.proofs.Common.{◌≡◌, ◌+◌, sym, ap, ◌∙◌}
use Rattle.std.proofs.Math.IntN.{+ℤ_assoc, +ℤ_comm, +ℤ_idl}
use Rattle.std.specs.Prelude.{ℤ, pos, ◌+ℤ◌, not}
use Rattle.ct_value.specs.Bag.{none, add}
use Rattle.ct_value.proofs.laws.Bags.{items-none}
use Rattle.ct_value.specs.Order.{value_cmp, value_total, value_exact, number_of, row_total, row_exact}
use Rattle.ct_value.specs.declared.value.Value.{Value}
use Rattle.ct_change.specs.Changelog.{Rows}
use Rattle.rel_algebra.specs.declared.agg.Agg.{Agg}
use Rattle.rel_algebra.specs.Sums.{gather, together, restrict, mapped}
use Rattle.ct_field.specs.Typed.{is_null}
use Rattle.rel_algebra.specs.Aggregates.{Values, size, known, sum_of, argument, passes, values_of}
use Rattle.rel_algebra.proofs.laws.Bags.{Commutes, gather-add, by_items, together-none, together-add, total-together, restrict-together, mapped-together}

pub size-together : (a b : Values) → size (together a b) ≡ size a + size b
size-together a b = total-together value_total value_exact (λ _. 1) a b

pub known-together : (a b : Values) → known (together a b) ≡ together (known a) (known b)
known-together a b = restrict-together value_total value_exact (λ value. not (is_null value)) a b

add_commutes : Commutes (λ (value : Value) (sum : ℤ). number_of value +ℤ sum)
add_commutes x y s =
    sym (+ℤ_assoc (number_of x) (number_of y) s) ∙ ap (λ n. n +ℤ s) (+ℤ_comm (number_of x) (number_of y)) ∙ +ℤ_assoc (number_of y) (number_of x) s

pub sum_of-none : sum_of none ≡ pos 0
unfolding sum_of
sum_of-none = ap (gather (λ value sum. number_of value +ℤ sum) (pos 0)) (items-none value_cmp)

pub sum_of-add : (values : Values) (value : Value) → sum_of (add values value) ≡ number_of value +ℤ sum_of values
unfolding sum_of
sum_of-add values value = gather-add value_total value_exact (λ value sum. number_of value +ℤ sum) (pos 0) add_commutes values value

pub sum_of-together : (a b : Values) → sum_of (together a b) ≡ sum_of a +ℤ sum_of b
sum_of-together a b = by_items value_total value_exact (λ a. sum_of (together a b) ≡ sum_of a +ℤ sum_of b)
    (ap sum_of (together-none value_total value_exact b) ∙ sym (ap (λ n. n +ℤ sum_of b) sum_of-none ∙ +ℤ_idl (sum_of b)))
    (λ a x h. ap sum_of (together-add value_total value_exact a b x) ∙ sum_of-add (together a b) x ∙ ap (λ n. number_of x +ℤ n) h
    ∙ sym (ap (λ n. n +ℤ sum_of b) (sum_of-add a x) ∙ +ℤ_assoc (number_of x) (sum_of a) (sum_of b)))
    a

-- the values that a call takes of a sum of bags
pub values_of-together : (agg : Agg) (a b : Rows) → values_of agg (together a b) ≡ together (values_of agg a) (values_of agg b)
values_of-together agg a b =
    ap (mapped (argument agg.arg)) (restrict-together row_total row_exact (passes agg.filter) a b)
    ∙ mapped-together value_total value_exact row_total row_exact (argument agg.arg) (restrict (passes agg.filter) a) (restrict (passes agg.filter) b)
