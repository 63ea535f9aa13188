-- How the lines of an order file are cut and read.
use Rattle.std.proofs.Common.{◌≡◌, ◌∙◌, ◌+◌, ◌-◌, ◌<◌, ◌==◌, ℕ, Bool, true, false, cond, List, [], ◌∷◌, length, take, drop, Option, Some, None, refl, sym, ap, subst, arith}
use Rattle.std.specs.Prelude.{nat_lt, option_and_then, position, if◌then◌else◌}
use Rattle.std.specs.List.{join_with_byte, onto_first, position_or_len, slice_split}
use Rattle.std.specs.Str.Lines.{lines, lines_of_parts, strip_carriage_return}
use Rattle.std.proofs.lemmas.Bool.{ltb-false, ltb-true, ne_eqb}
use Rattle.std.proofs.lemmas.List.{length-drop, take_all}
use Rattle.std.proofs.lemmas.List.Splits.{join_with_byte-slice_split, slice_split_first, slice_split_none}
use Rattle.std.proofs.lemmas.List.Sums.{fails_before_first}
use Rattle.job_text.specs.declared.orders.Verb.{Verb}
use Rattle.job_text.specs.Cuts.{sole_number}
use Rattle.job_text.specs.Orders.{drain_of, number_before, numbers_of, words_of}

-- ---- where a text is cut

held : (b : Bool) (n at : ℕ) → cond b (Some n) None ≡ Some at → (b ≡ true) × (n ≡ at)
held true n at e = (refl, cc (e))
held false n at e = absurd (cc (e))

not_held : (b : Bool) (n : ℕ) → (let found : Option ℕ = cond b (Some n) None in found ≡ None) → b ≡ false
not_held true n e = absurd (cc (e))
not_held false n e = refl

cut_place : (byte : ℕ) (text : List ℕ) (at : ℕ) → position (λ b. b == byte) text ≡ Some at → slice_split (λ b. b == byte) text ≡ take at text ∷ slice_split (λ b. b == byte) (drop (at + 1) text)
cut_place byte text at e =
    let place = position_or_len (λ b. b == byte) text in
    let given = held (nat_lt place (length text)) place at e in
    slice_split_first (λ b. b == byte) text 0 (ltb-true place (length text) given.0)
    ∙ ap (λ n. take n text ∷ slice_split (λ b. b == byte) (drop (n + 1) text)) given.1

-- where the rest is a slice up to the end
pub cut_some : (byte : ℕ) (text : List ℕ) (at : ℕ) → position (λ b. b == byte) text ≡ Some at
    → slice_split (λ b. b == byte) text ≡ take at text ∷ slice_split (λ b. b == byte) (take (length text - (at + 1)) (drop (at + 1) text))
cut_some byte text at e =
    let whole : take (length text - (at + 1)) (drop (at + 1) text) ≡ drop (at + 1) text = take_all (length text - (at + 1)) (drop (at + 1) text) (omega (arith, length-drop (at + 1) text)) in
    cut_place byte text at e ∙ ap (λ rest. take at text ∷ slice_split (λ b. b == byte) rest) (sym whole)

pub cut_none : (byte : ℕ) (text : List ℕ) → position (λ b. b == byte) text ≡ None → slice_split (λ b. b == byte) text ≡ text ∷ []
cut_none byte text e =
    let place = position_or_len (λ b. b == byte) text in
    let past = ltb-false place (length text) (not_held (nat_lt place (length text)) place e) in
    slice_split_none (λ b. b == byte) text (λ k d within. fails_before_first (λ b. b == byte) text k d (omega (arith, past, within)))

-- a text has a first part
pub record HasFirst (parts : List (List ℕ)) : Type 0 where
  pub first : List ℕ
  pub others : List (List ℕ)
  pub is : parts ≡ first ∷ others

onto_has : (byte : ℕ) (parts : List (List ℕ)) → HasFirst (onto_first byte parts)
onto_has byte [] = record { first = byte ∷ []; others = []; is = refl }
onto_has byte (part ∷ parts) = record { first = byte ∷ part; others = parts; is = refl }

pub split_has : (byte : ℕ) (text : List ℕ) → HasFirst (slice_split (λ b. b == byte) text)
split_has byte [] = record { first = []; others = []; is = refl }
split_has byte (b ∷ bytes) = by (b == byte)
  where
    by : (t : Bool) → HasFirst (cond t ([] ∷ slice_split (λ x. x == byte) bytes) (onto_first b (slice_split (λ x. x == byte) bytes)))
    by true = record { first = []; others = slice_split (λ x. x == byte) bytes; is = refl }
    by false = onto_has b (slice_split (λ x. x == byte) bytes)

-- ---- lines

-- a line that LF ends
pub line_some : (text line behind : List ℕ) → slice_split (λ b. b == 10) text ≡ line ∷ slice_split (λ b. b == 10) behind → lines text ≡ strip_carriage_return line ∷ lines behind
line_some text line behind e =
    let has = split_has 10 behind in
    let is = has.is in
    ap lines_of_parts (e ∙ ap (λ parts. line ∷ parts) is) ∙ ap (λ parts. strip_carriage_return line ∷ lines_of_parts parts) (sym is)

-- the last line, which the end of the text ends
pub line_last : (text line : List ℕ) → slice_split (λ b. b == 10) text ≡ line ∷ [] → 0 < length text → lines text ≡ line ∷ []
line_last text line e some =
    let same : line ≡ text = sym (ap (join_with_byte 10) e) ∙ join_with_byte-slice_split 10 text in
    ap lines_of_parts e ∙ by line (subst (λ bytes. 0 < length bytes) (sym same) some)
  where
    by : (bytes : List ℕ) → 0 < length bytes → (if length bytes == 0 then [] else bytes ∷ []) ≡ bytes ∷ []
    by [] some = absurd (omega (arith, some))
    by (b ∷ bytes) some = let some_bytes : (length (b ∷ bytes) == 0) ≡ false = ne_eqb (length (b ∷ bytes)) 0 (λ none. omega arith) in rw some_bytes refl

pub not_empty : (text : List ℕ) → (length text == 0) ≡ false → 0 < length text
not_empty [] e = absurd (cc (e))
not_empty (b ∷ bytes) e = omega arith

-- ---- words behind the last number

before_is_more : (f : List ℕ → Option Verb) → ((number : ℕ) (numbers : List ℕ) → f (number ∷ numbers) ≡ None) → (first : Option ℕ) (others : Option (List ℕ)) → option_and_then f (number_before first others) ≡ None
before_is_more f none None others = refl
before_is_more f none (Some first) None = refl
before_is_more f none (Some first) (Some others) = none first others

-- words behind `drain`
pub drain_more : (text : List ℕ) → option_and_then drain_of (numbers_of (words_of text)) ≡ None
drain_more text =
    let has = split_has 32 text in
    let is = has.is in
    ap (λ words. option_and_then drain_of (numbers_of words)) is ∙ before_is_more drain_of (λ number numbers. refl) _ _

-- words behind the one number
sole_more : (number : ℕ) (first : Option ℕ) (others : Option (List ℕ)) → option_and_then sole_number (number_before (Some number) (number_before first others)) ≡ None
sole_more number None others = refl
sole_more number (Some first) None = refl
sole_more number (Some first) (Some others) = refl

pub sole_no_more : (number : ℕ) (text : List ℕ) → option_and_then sole_number (number_before (Some number) (numbers_of (words_of text))) ≡ None
sole_no_more number text =
    let has = split_has 32 text in
    let is = has.is in
    ap (λ words. option_and_then sole_number (number_before (Some number) (numbers_of words))) is ∙ sole_more number _ _
