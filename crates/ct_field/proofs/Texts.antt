-- Texts in UTF-8.
use Rattle.std.proofs.Common.{◌≡◌, ℕ, List, true, false, cond, Some, None, refl}
use Rattle.std.specs.Str.{IsUtf8, is_utf8}
use Rattle.std.proofs.lemmas.Str.{IsUtf8-from_is_utf8, is_utf8-from_IsUtf8}

pub utf8_kept : (t : List ℕ) → IsUtf8 t → cond (is_utf8 t) (Some t) None ≡ Some t
utf8_kept t h = rw (is_utf8-from_IsUtf8 t h) refl

pub utf8_dropped : (t : List ℕ) → ¬ (IsUtf8 t) → cond (is_utf8 t) (Some t) None ≡ None
utf8_dropped t h = elim (is_utf8 t) as (λ b. is_utf8 t ≡ b → cond b (Some t) None ≡ None) [
  | true ↦ λ e. absurd (h (IsUtf8-from_is_utf8 t e))
  | false ↦ λ e. refl
] refl
