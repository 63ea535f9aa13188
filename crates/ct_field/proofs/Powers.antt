-- Powers of ten.
use Rattle.std.proofs.Common.{◌≡◌, ℕ, zero, suc, ◌^◌, ◌<◌, ◌≤◌, ℤ, pos, negsuc, true, arith, lit<}
use Rattle.std.specs.Prelude.{unsigned_abs, nat_lt}
use Rattle.std.specs.Int.RustNames.{FitsSigned}
use Rattle.std.specs.Int.{w128}
use Rattle.std.proofs.lemmas.Bool.Decides.{nat_tests}
use Rattle.std.proofs.Math.Nat.{pow-le-pow_right, pow-suc}

pub ten_most : (k : ℕ) → k ≤ 38 → 10 ^ k ≤ 10 ^ 38
ten_most k h = pow-le-pow_right (lit< tt) h

pub ten_least : (k : ℕ) → k < 10 ^ k
ten_least zero = lit< tt
ten_least (suc k) = let h = ten_least k in omega (arith, pow-suc 10 k)

ten_more : (k : ℕ) → 38 < k → 10 ^ 39 ≤ 10 ^ k
ten_more k h = pow-le-pow_right (lit< tt) (let e : 39 ≤ k = omega arith in e)

pub abs_most : (n : ℤ) → FitsSigned w128 n → unsigned_abs n ≤ 2 ^ 127
abs_most (pos a) f = let h : a < 2 ^ 127 = f.sfits in omega arith
abs_most (negsuc a) f = let h : a < 2 ^ 127 = f.sfits in omega arith

-- no number of 128 bits has more than 39 digits
pub any_below : (n : ℤ) (k : ℕ) → FitsSigned w128 n → 38 < k → true ≡ nat_lt (unsigned_abs n) (10 ^ k)
any_below n k f h =
    let below : unsigned_abs n < 10 ^ k = omega (arith, ten_more k h, abs_most n f) in
    grind (arith, nat_tests)
