-- Words and numbers are ASCII, so they are UTF-8.
use Rattle.std.proofs.Common.{◌≡◌, ℕ, zero, suc, ◌+◌, ◌-◌, ◌<◌, true, false, ◌==◌, ◌&&◌, List, [], ◌∷◌, Some, None, refl, sym, ap, ◌∙◌, take, drop, get_or, arith, nat_lt, inl, inr}
use Rattle.std.specs.Prelude.{if◌then◌else◌}
use Rattle.std.specs.Char.{is_ascii_digit}
use Rattle.std.specs.List.{prefix_len}
use Rattle.std.specs.Str.{IsAscii, IsUtf8, is_utf8}
use Rattle.std.proofs.lemmas.Bool.{cases_lt}
use Rattle.std.proofs.lemmas.List.{get_or-drop}
use Rattle.std.proofs.lemmas.List.Sums.{prefix_len_passes}
use Rattle.std.proofs.lemmas.Str.{IsUtf8-from_is_utf8, is_utf8-from_IsUtf8}
use Rattle.sql_tokens.specs.Tokens.{is_word_byte, number_len}

pub IsAscii-front : (n : ℕ) (text : List ℕ) → ((i : ℕ) → i < n → get_or text i 0 < 128) → IsAscii (take n text)
IsAscii-front zero text h i = omega arith
IsAscii-front (suc n) [] h i = omega arith
IsAscii-front (suc n) (b ∷ text) h zero = h zero (omega arith)
IsAscii-front (suc n) (b ∷ text) h (suc i) = IsAscii-front n text (λ j l. h (suc j) (omega arith)) i

word_small : (b : ℕ) → is_word_byte b ≡ true → b < 128
word_small b e = grind arith

digit_small : (b : ℕ) → is_ascii_digit b ≡ true → b < 128
digit_small b e = grind arith

IsAscii-word : (text : List ℕ) → IsAscii (take (prefix_len is_word_byte text) text)
IsAscii-word text = IsAscii-front _ text (λ i l. word_small (get_or text i 0) (prefix_len_passes is_word_byte text i 0 l))

-- digits, one ASCII byte, and digits
digits_point_digits : (text : List ℕ) (whole fraction : ℕ) → whole ≡ prefix_len is_ascii_digit text → fraction ≡ prefix_len is_ascii_digit (drop (whole + 1) text) → get_or text whole 0 < 128
    → (i : ℕ) → i < whole + 1 + fraction → get_or text i 0 < 128
digits_point_digits text whole fraction e f point i l = elim (cases_lt i whole) [
  | inl a ↦ digit_small (get_or text i 0) (prefix_len_passes is_ascii_digit text i 0 (omega arith))
  | inr a ↦ elim (cases_lt whole i) [
    | inl b ↦
        let k : whole + 1 + (i - (whole + 1)) ≡ i = omega arith in
        let m : get_or (drop (whole + 1) text) (i - (whole + 1)) 0 ≡ get_or text i 0 = get_or-drop (whole + 1) text (i - (whole + 1)) 0 ∙ ap (λ j. get_or text j 0) k in
        rw (← m) (digit_small _ (prefix_len_passes is_ascii_digit (drop (whole + 1) text) (i - (whole + 1)) 0 (omega arith)))
    | inr b ↦ let k : i ≡ whole = omega arith in rw k point
  ]
]

IsAscii-number : (text : List ℕ) → IsAscii (take (number_len text) text)
IsAscii-number text = go _ _ refl refl
  where
    go : (whole fraction : ℕ) → whole ≡ prefix_len is_ascii_digit text → fraction ≡ prefix_len is_ascii_digit (drop (whole + 1) text)
        → IsAscii (take (if get_or text whole 0 == 46 && nat_lt 0 fraction then whole + 1 + fraction else whole) text)
    go whole fraction e f = elim (get_or text whole 0 == 46) as (λ t. (get_or text whole 0 == 46) ≡ t → IsAscii (take (if t && nat_lt 0 fraction then whole + 1 + fraction else whole) text)) [
      | true ↦ λ p. elim (nat_lt 0 fraction) as (λ u. IsAscii (take (if true && u then whole + 1 + fraction else whole) text)) [
        | true ↦ IsAscii-front _ text (digits_point_digits text whole fraction e f (grind arith))
        | false ↦ run e
      ]
      | false ↦ λ p. run e
    ] refl
      where
        run : whole ≡ prefix_len is_ascii_digit text → IsAscii (take whole text)
        run e = IsAscii-front whole text (λ i l. digit_small (get_or text i 0) (prefix_len_passes is_ascii_digit text i 0 (omega arith)))

pub word_is_ascii : (text front : List ℕ) (n : ℕ) → front ≡ take n text → n ≡ prefix_len is_word_byte text → IsAscii front
word_is_ascii text front n e f = rw (e, f) (IsAscii-word text)

pub number_is_ascii : (text front : List ℕ) (n : ℕ) → front ≡ take n text → n ≡ number_len text → IsAscii front
number_is_ascii text front n e f = rw (e, f) (IsAscii-number text)

pub text_if_utf8 : (bytes copy text : List ℕ) → copy ≡ bytes → text ≡ copy → IsUtf8 copy → Some text ≡ (if is_utf8 bytes then Some bytes else None)
text_if_utf8 bytes copy text e f h =
    let k : is_utf8 bytes ≡ true = ap is_utf8 (sym e) ∙ is_utf8-from_IsUtf8 copy h in
    ap Some (f ∙ e) ∙ sym (ap (λ t. if t then Some bytes else None) k)

pub none_if_not_utf8 : (bytes copy : List ℕ) → copy ≡ bytes → ¬ (IsUtf8 copy) → None ≡ (if is_utf8 bytes then Some bytes else None)
none_if_not_utf8 bytes copy e h = elim (is_utf8 copy) as (λ t. is_utf8 copy ≡ t → None ≡ (if is_utf8 bytes then Some bytes else None)) [
  | true ↦ λ k. absurd (h (IsUtf8-from_is_utf8 copy k))
  | false ↦ λ k. sym (ap (λ t. if t then Some bytes else None) (ap is_utf8 (sym e) ∙ k))
] refl
