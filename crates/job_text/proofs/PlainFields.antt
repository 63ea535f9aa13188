-- The texts of values behind commas: those of numbers and truth values hold no byte that needs quotes.
use Rattle.std.proofs.Common.{◌≡◌, ◌<◌, ◌+◌, ◌/◌, ◌%◌, ◌^◌, ◌==◌, ◌∙◌, ℕ, zero, suc, ℤ, true, false, cond, List, [], ◌∷◌, ◌++◌, refl, sym, ap, append_assoc, arith}
use Rattle.std.specs.Prelude.{if◌then◌else◌, nat_lt, unsigned_abs, ◌||◌}
use Rattle.std.specs.Int.{is_negative}
use Rattle.std.specs.Fmt.{decimal, digit_glyph, digits, digits_onto}
use Rattle.std.proofs.lemmas.Bool.{ne_eqb}
use Rattle.std.proofs.lemmas.List.{append-nil}
use Rattle.std.proofs.lemmas.List.Folds.{list_any-append}
use Rattle.csv.specs.Writing as csv
use Rattle.ct_value.specs.declared.ty.Ty.{Ty}
use Rattle.ct_value.specs.declared.value.Value.{Value}
use Rattle.ct_value.specs.declared.value.Value.TheVariants.{Null, Bool as Truth, Num, Text}
use Rattle.ct_field.specs.Fields.{field_text, last_digits, number_text, scale_of, sign_text, unsigned_text}
use Rattle.job_text.specs.Printed.{fields_behind}

abbrev pub IsPlain : List ℕ → Type 0
IsPlain text = csv.needs_quotes csv.default_writer text ≡ false

-- a byte above the comma needs none
next_plain : (c : ℕ) (text : List ℕ) → 44 < c → IsPlain text → IsPlain (c ∷ text)
next_plain c text above plain = rw (below 44 (omega arith), below 34 (omega arith), below 13 (omega arith), below 10 (omega arith)) plain
  where
    below : (mark : ℕ) → mark < c → (c == mark) ≡ false
    below mark h = ne_eqb c mark (λ e. omega (arith, e))

both_plain : (xs ys : List ℕ) → IsPlain xs → IsPlain ys → IsPlain (xs ++ ys)
both_plain xs ys p q = list_any-append (csv.needs_byte csv.default_writer) xs ys ∙ ap (λ b. b || csv.needs_quotes csv.default_writer ys) p ∙ q

-- ---- numbers

glyph_above : (digit : ℕ) → 44 < digit_glyph false digit
glyph_above digit = elim (nat_lt digit 10) as (λ b. 44 < (if b then 48 + digit else 87 + digit)) [ true ↦ omega arith | false ↦ omega arith ]

onto_plain : (k n : ℕ) (text : List ℕ) → IsPlain text → IsPlain (digits_onto k 10 false n text)
onto_plain zero n text plain = plain
onto_plain (suc k) n text plain =
    let last = digit_glyph false (n % 10) ∷ text in
    let more : IsPlain last = next_plain (digit_glyph false (n % 10)) text (glyph_above (n % 10)) plain in
    elim (n / 10 == 0) as (λ b. IsPlain (if b then last else digits_onto k 10 false (n / 10) last)) [ true ↦ more | false ↦ onto_plain k (n / 10) last more ]

decimal_plain : (n : ℕ) → IsPlain (decimal n)
unfolding digits
decimal_plain n = onto_plain 64 n [] refl

last_plain : (k n : ℕ) → IsPlain (last_digits k n)
last_plain zero n = refl
last_plain (suc k) n = both_plain (last_digits k (n / 10)) ((48 + n % 10) ∷ []) (last_plain k (n / 10)) (next_plain (48 + n % 10) [] (omega arith) refl)

unsigned_plain : (s n : ℕ) → IsPlain (unsigned_text s n)
unsigned_plain s n = elim (s == 0) as (λ b. IsPlain (cond b (decimal n) (decimal (n / 10 ^ s) ++ 46 ∷ last_digits s n))) [
  | true ↦ decimal_plain n
  | false ↦ both_plain (decimal (n / 10 ^ s)) (46 ∷ last_digits s n) (decimal_plain (n / 10 ^ s)) (next_plain 46 (last_digits s n) (omega arith) (last_plain s n))
]

sign_plain : (z : ℤ) → IsPlain (sign_text z)
sign_plain z = elim (is_negative z) as (λ b. IsPlain (cond b (45 ∷ []) [])) [ true ↦ refl | false ↦ refl ]

number_plain : (s : ℕ) (z : ℤ) → IsPlain (number_text s z)
number_plain s z = both_plain (sign_text z) (unsigned_text s (unsigned_abs z)) (sign_plain z) (unsigned_plain s (unsigned_abs z))

-- ---- values

-- a value is no text
abbrev pub IsNoText : Value → Type 0
IsNoText value = (text : List ℕ) → value ≡ Text text → ⊥

value_plain : (ty : Ty) (value : Value) → IsNoText value → IsPlain (field_text ty value)
value_plain ty Null none = refl
value_plain ty (Truth false) none = refl
value_plain ty (Truth true) none = refl
value_plain ty (Num z) none = number_plain (scale_of ty) z
value_plain ty (Text text) none = absurd (none text refl)

-- a field behind a comma
pub field_behind : (line field : List ℕ) → (line ++ csv.comma ∷ []) ++ csv.field_text csv.default_writer field ≡ line ++ fields_behind (field ∷ [])
unfolding csv.fields_text
field_behind line field =
    append_assoc line (csv.comma ∷ []) (csv.field_text csv.default_writer field) ∙ ap (λ xs. line ++ csv.comma ∷ xs) (sym (append-nil (csv.field_text csv.default_writer field)))

-- the text of a value that is none stands as it is
pub plain_behind : (line : List ℕ) (ty : Ty) (value : Value) → IsNoText value → (line ++ csv.comma ∷ []) ++ field_text ty value ≡ line ++ fields_behind (field_text ty value ∷ [])
plain_behind line ty value none =
    let field = field_text ty value in
    ap (λ xs. (line ++ csv.comma ∷ []) ++ xs) (sym (ap (λ b. if b then csv.quoted csv.default_writer field else field) (value_plain ty value none))) ∙ field_behind line field
