-- Numbers beyond 128 bits, and numbers of two scales.
use Rattle.std.proofs.Common.{◌≡◌, ℕ, suc, zero, ◌*◌, ◌-◌, ◌^◌, ◌<◌, ◌≤◌, ◌/◌, ℤ, pos, negsuc, neg_ℤ, ◌*ℤ◌, true, false, None, refl, arith, sym, lit<}
use Rattle.std.specs.Prelude.{nat_lt, unsigned_abs, int_lt}
use Rattle.std.specs.Int.{w128}
use Rattle.std.specs.Int.RustNames.{FitsSigned}
use Rattle.std.specs.Ordering.{int_cmp, ordering_reverse}
use Rattle.std.specs.declared.cmp.Ordering.TheVariants.{Less, Greater}
use Rattle.std.specs.Cmp.{int_cmp_total}
use Rattle.std.proofs.lemmas.Int.{fits_signed_from_abs}
use Rattle.std.proofs.Math.IntN.{*ℤ-one, one}
use Rattle.std.proofs.Math.Nat.{div-le_self}
use Rattle.std.proofs.lemmas.Bool.Decides.{nat_tests}
use Rattle.ct_value.specs.declared.ty.Ty.{Ty}
use Rattle.ct_expr.specs.Values.{ranged, number_cmp}

below : (n : ℤ) → nat_lt (unsigned_abs n) (10 ^ 38) ≡ true → unsigned_abs n < 2 ^ 127
below n e = grind (arith, nat_tests)

long : (n : ℤ) → ¬ (FitsSigned w128 n) → nat_lt (unsigned_abs n) (10 ^ 38) ≡ false
long n h = elim (nat_lt (unsigned_abs n) (10 ^ 38)) as (λ b. nat_lt (unsigned_abs n) (10 ^ 38) ≡ b → b ≡ false) [
  | true ↦ λ e. absurd (h (fits_signed_from_abs w128 n (below n e)))
  | false ↦ λ e. refl
] refl

-- a number that doesn't fit 128 bits has more than 38 digits
pub ranged_beyond : (ty : Ty) (n : ℤ) → ¬ (FitsSigned w128 n) → None ≡ ranged ty n
ranged_beyond ty n h = rw (long n h) refl

large : (n : ℕ) → ¬ (FitsSigned w128 (pos n)) → 2 ^ 127 ≤ n
large n h = elim (nat_lt n (2 ^ 127)) as (λ b. nat_lt n (2 ^ 127) ≡ b → 2 ^ 127 ≤ n) [
  | true ↦ λ e. absurd (h (let l : n < 2 ^ 127 = from_test n (2 ^ 127) e in record { sfits = l }))
  | false ↦ λ e. past_test n (2 ^ 127) e
] refl
  where
    from_test : (a b : ℕ) → nat_lt a b ≡ true → a < b
    from_test a b e = grind (arith, nat_tests)

    past_test : (a b : ℕ) → nat_lt a b ≡ false → b ≤ a
    past_test a b e = grind (arith, nat_tests)

above : (a : ℕ) (b : ℤ) → 2 ^ 127 ≤ a → FitsSigned w128 b → Greater ≡ int_cmp (pos a) b
above a (pos b) h f = let l : b < 2 ^ 127 = f.sfits in grind (arith, nat_tests)
above a (negsuc b) h f = refl

pub beyond_above : (n b : ℤ) (p : ℕ) → ¬ (FitsSigned w128 (n *ℤ pos p)) → FitsSigned w128 b → int_lt n (pos 0) ≡ false → Greater ≡ int_cmp (n *ℤ pos p) b
beyond_above (pos a) b p h f s = above (a * p) b (large (a * p) h) f
beyond_above (negsuc a) b p h f s = absurd (cc)

small_zero : ¬ (FitsSigned w128 (pos 0)) → ⊥
small_zero h = h (record { sfits = lit< tt })

large_below : (n : ℕ) → ¬ (FitsSigned w128 (negsuc n)) → 2 ^ 127 ≤ n
large_below n h = large n (λ f. h (let l : n < 2 ^ 127 = f.sfits in record { sfits = l }))

beneath : (m : ℕ) (b : ℤ) → ¬ (FitsSigned w128 (neg_ℤ (pos m))) → FitsSigned w128 b → Less ≡ int_cmp (neg_ℤ (pos m)) b
beneath zero b h f = absurd (small_zero h)
beneath (suc k) (pos b) h f = refl
beneath (suc k) (negsuc b) h f = let l : b < 2 ^ 127 = f.sfits in let m : 2 ^ 127 ≤ k = large_below k h in grind (arith, nat_tests)

pub beyond_below : (n b : ℤ) (p : ℕ) → ¬ (FitsSigned w128 (n *ℤ pos p)) → FitsSigned w128 b → int_lt n (pos 0) ≡ true → Less ≡ int_cmp (n *ℤ pos p) b
beyond_below (pos a) b p h f s = absurd (not_negative a s)
  where
    not_negative : (a : ℕ) → nat_lt a 0 ≡ true → ⊥
    not_negative a s = let l : a < 0 = grind (arith, nat_tests) in omega arith
beyond_below (negsuc a) b p h f s = beneath (suc a * p) b h f

no_more : (a : ℤ) → a *ℤ pos (10 ^ 0) ≡ a
unfolding one
no_more a = *ℤ-one a

-- where the scales are one, or the first is the smaller, or the larger
pub same_scale : (s t : ℕ) (a b : ℤ) → s ≡ t → int_cmp a b ≡ number_cmp s t a b
same_scale s t a b e = let d : t - s ≡ 0 = omega arith in let u : s - t ≡ 0 = omega arith in rw (d, u, no_more a, no_more b) refl

pub smaller_scale : (s t : ℕ) (a b : ℤ) → s < t → int_cmp (a *ℤ pos (10 ^ (t - s))) b ≡ number_cmp s t a b
smaller_scale s t a b h = let u : s - t ≡ 0 = omega arith in rw (u, no_more b) refl

pub larger_scale : (s t : ℕ) (a b : ℤ) → t < s → ordering_reverse (int_cmp (b *ℤ pos (10 ^ (s - t))) a) ≡ number_cmp s t a b
larger_scale s t a b h = let u : t - s ≡ 0 = omega arith in rw (u, no_more a) (sym (int_cmp_total.antisymm a (b *ℤ pos (10 ^ (s - t)))))

pub divided_small : (n : ℤ) (p : ℕ) → unsigned_abs n / p ≤ unsigned_abs n
divided_small n p = div-le_self (unsigned_abs n) p
