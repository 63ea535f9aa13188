-- Products by halves, and quotients.
use Rattle.std.proofs.Common.{◌≡◌, ℕ, ◌+◌, ◌*◌, ◌<◌, ◌≤◌, ◌^◌, arith}
use Rattle.std.proofs.lemmas.Nat.{mul-le}

pub half_product : (x y : ℕ) → x < 2 ^ 64 → y < 2 ^ 64 → x * y ≤ 340282366920938463426481119284349108225
half_product x y p q = mul-le x y 18446744073709551615 18446744073709551615 (omega arith) (omega arith)

spread : (m n k : ℕ) → (m + n) * k ≡ m * k + n * k
spread m n k = omega arith

pub expanded : (p q r s : ℕ) → p * r * 2 ^ 128 + (p * s + q * r) * 2 ^ 64 + q * s ≡ (p * 2 ^ 64 + q) * (r * 2 ^ 64 + s)
expanded p q r s = grind arith
