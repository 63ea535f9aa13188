-- A line is a verb exactly where it is the verb's text.
use Rattle.std.proofs.Common.{◌≡◌, ◌∙◌, ◌<◌, ◌≤◌, ◌==◌, ◌^◌, ℕ, zero, suc, Bool, true, false, List, [], ◌∷◌, map, Option, Some, None, refl, sym, ap, subst, arith}
use Rattle.std.specs.Prelude.{not, if◌then◌else◌, codes}
use Rattle.std.specs.Fmt.{decimal}
use Rattle.std.specs.List.{All, AllByRecursion, join_with_byte, list_all}
use Rattle.std.specs.Str.{bytes_eq}
use Rattle.std.specs.Str.Parse.{AllDigits}
use Rattle.std.proofs.lemmas.Bool.{ne_eqb, not-true}
use Rattle.std.proofs.lemmas.Fmt.{decimal_is_IsNumeral}
use Rattle.std.proofs.lemmas.List.Splits.{join_with_byte-slice_split, slice_split_at, slice_split_none}
use Rattle.std.proofs.lemmas.List.Sums.{AllPass-from_list_all}
use Rattle.std.proofs.lemmas.Slice.Eq.{bytes_eq-Decides}
use Rattle.std.proofs.lemmas.Str.Parse.{digit_from_value}
use Rattle.job_text.specs.declared.orders.Verb.{Verb}
use Rattle.job_text.specs.declared.orders.Verb.TheVariants.{Take, Move, Flush, Drain}
use Rattle.job_text.specs.Orders.{IsNumber, IsVerb, VerbsAreWritten, counted, drain_of, flush_of, move_of, number_before, number_of, numbers_of, take_of, verb_numbers, verb_of, verb_text, verb_word, word_verb, words_of, words_verb}
use Rattle.job_text.proofs.Numerals.{number_text, text_number}
use Rattle.job_text.proofs.Verbs.{split_has}

some_same : {A : Type 0} (x y : A) → Some x ≡ Some y → x ≡ y
some_same x y e = cc (e)

-- ---- numbers and their texts

abbrev AreNumbers : List ℕ → Type 0
AreNumbers numbers = AllByRecursion IsNumber numbers

-- words are the texts of numbers
record AreTexts (words : List (List ℕ)) (numbers : List ℕ) : Type 0 where
  texts : words ≡ map decimal numbers
  few : AreNumbers numbers

texts_before : (word : List ℕ) (words : List (List ℕ)) (first : Option ℕ) (others : Option (List ℕ)) (numbers : List ℕ) → number_of word ≡ first → ((more : List ℕ) → others ≡ Some more → AreTexts words more)
    → number_before first others ≡ Some numbers → AreTexts (word ∷ words) numbers
texts_before word words None others numbers is texts e = absurd (cc (e))
texts_before word words (Some number) None numbers is texts e = absurd (cc (e))
texts_before word words (Some number) (Some more) numbers is texts e =
    let first = number_text word number is in
    let rest = texts more refl in
    let same : number ∷ more ≡ numbers = some_same (number ∷ more) numbers e in
    let first_text = first.0 in
    let rest_texts = rest.texts in
    subst (λ ns. AreTexts (word ∷ words) ns) same (record { texts = rw (first_text, rest_texts) refl; few = (first.1, rest.few) })

numbers_told : (words : List (List ℕ)) (numbers : List ℕ) → numbers_of words ≡ Some numbers → AreTexts words numbers
numbers_told [] numbers e = subst (λ ns. AreTexts [] ns) (some_same [] numbers e) (record { texts = refl; few = tt })
numbers_told (word ∷ words) numbers e = texts_before word words (number_of word) (numbers_of words) numbers refl (λ more told. numbers_told words more told) e

texts_read : (numbers : List ℕ) → AreNumbers numbers → numbers_of (map decimal numbers) ≡ Some numbers
texts_read [] few = refl
texts_read (number ∷ numbers) few = rw (text_number number few.0, texts_read numbers few.1) refl

-- ---- a verb tells its word and its numbers

record IsTold (by_table : Bool) (word : List ℕ) (numbers : List ℕ) (verb : Verb) : Type 0 where
  word_is : word ≡ verb_word verb
  numbers_are : numbers ≡ verb_numbers by_table verb
  is_verb : AreNumbers numbers → IsVerb by_table verb

told_as : (by_table : Bool) (word : List ℕ) (numbers : List ℕ) (verb other : Verb) → IsTold by_table word numbers verb → Some verb ≡ Some other → IsTold by_table word numbers other
told_as by_table word numbers verb other told e = subst (IsTold by_table word numbers) (some_same verb other e) told

take_told : (by_table : Bool) (numbers : List ℕ) (verb : Verb) → take_of by_table numbers ≡ Some verb → IsTold by_table (codes "take") numbers verb
take_told true [] verb e = absurd (cc (e))
take_told true (table ∷ []) verb e = absurd (cc (e))
take_told true (table ∷ zero ∷ []) verb e = absurd (cc (e))
take_told true (table ∷ suc count ∷ []) verb e =
    told_as true (codes "take") (table ∷ suc count ∷ []) (Take table (suc count)) verb (record { word_is = refl; numbers_are = refl; is_verb = λ few. (few.0, (omega arith, few.1.0)) }) e
take_told true (table ∷ count ∷ next ∷ numbers) verb e = absurd (cc (e))
take_told false [] verb e = absurd (cc (e))
take_told false (zero ∷ []) verb e = absurd (cc (e))
take_told false (suc count ∷ []) verb e =
    told_as false (codes "take") (suc count ∷ []) (Take 0 (suc count)) verb (record { word_is = refl; numbers_are = refl; is_verb = λ few. (refl, (omega arith, few.0)) }) e
take_told false (count ∷ next ∷ numbers) verb e = absurd (cc (e))

move_told : (by_table : Bool) (numbers : List ℕ) (verb : Verb) → move_of numbers ≡ Some verb → IsTold by_table (codes "move") numbers verb
move_told by_table [] verb e = absurd (cc (e))
move_told by_table (edge ∷ []) verb e = absurd (cc (e))
move_told by_table (edge ∷ from ∷ []) verb e = absurd (cc (e))
move_told by_table (edge ∷ from ∷ to ∷ []) verb e = absurd (cc (e))
move_told by_table (edge ∷ from ∷ to ∷ zero ∷ []) verb e = absurd (cc (e))
move_told by_table (edge ∷ from ∷ to ∷ suc count ∷ []) verb e =
    told_as by_table (codes "move") (edge ∷ from ∷ to ∷ suc count ∷ []) (Move edge from to (suc count)) verb
    (record { word_is = refl; numbers_are = by by_table; is_verb = λ few. is by_table few }) e
  where
    by : (t : Bool) → edge ∷ from ∷ to ∷ suc count ∷ [] ≡ verb_numbers t (Move edge from to (suc count))
    by true = refl
    by false = refl

    is : (t : Bool) → AreNumbers (edge ∷ from ∷ to ∷ suc count ∷ []) → IsVerb t (Move edge from to (suc count))
    is true few = (few.0, few.1.0, few.1.1.0, (omega arith, few.1.1.1.0))
    is false few = (few.0, few.1.0, few.1.1.0, (omega arith, few.1.1.1.0))
move_told by_table (edge ∷ from ∷ to ∷ count ∷ next ∷ numbers) verb e = absurd (cc (e))

flush_told : (by_table : Bool) (numbers : List ℕ) (verb : Verb) → flush_of numbers ≡ Some verb → IsTold by_table (codes "flush") numbers verb
flush_told by_table [] verb e = absurd (cc (e))
flush_told by_table (node ∷ []) verb e = absurd (cc (e))
flush_told by_table (node ∷ subtask ∷ []) verb e =
    told_as by_table (codes "flush") (node ∷ subtask ∷ []) (Flush node subtask) verb (record { word_is = refl; numbers_are = by by_table; is_verb = λ few. is by_table few }) e
  where
    by : (t : Bool) → node ∷ subtask ∷ [] ≡ verb_numbers t (Flush node subtask)
    by true = refl
    by false = refl

    is : (t : Bool) → AreNumbers (node ∷ subtask ∷ []) → IsVerb t (Flush node subtask)
    is true few = (few.0, few.1.0)
    is false few = (few.0, few.1.0)
flush_told by_table (node ∷ subtask ∷ next ∷ numbers) verb e = absurd (cc (e))

drain_told : (by_table : Bool) (numbers : List ℕ) (verb : Verb) → drain_of numbers ≡ Some verb → IsTold by_table (codes "drain") numbers verb
drain_told true [] verb e = told_as true (codes "drain") [] Drain verb (record { word_is = refl; numbers_are = refl; is_verb = λ few. tt }) e
drain_told false [] verb e = told_as false (codes "drain") [] Drain verb (record { word_is = refl; numbers_are = refl; is_verb = λ few. tt }) e
drain_told by_table (number ∷ numbers) verb e = absurd (cc (e))

-- by the word that it is
module _ (by_table : Bool) (word : List ℕ) (numbers : List ℕ) (verb : Verb) where
  told_here : (text : List ℕ) → bytes_eq word text ≡ true → IsTold by_table text numbers verb → IsTold by_table word numbers verb
  told_here text same told = subst (λ w. IsTold by_table w numbers verb) (sym ((bytes_eq-Decides word text).0 same)) told

  by_drain : (t : Bool) → bytes_eq word (codes "drain") ≡ t → (if t then drain_of numbers else None) ≡ Some verb → IsTold by_table word numbers verb
  by_drain true same e = told_here (codes "drain") same (drain_told by_table numbers verb e)
  by_drain false same e = absurd (cc (e))

  by_flush : (t : Bool) → bytes_eq word (codes "flush") ≡ t → (if t then flush_of numbers else (if bytes_eq word (codes "drain") then drain_of numbers else None)) ≡ Some verb → IsTold by_table word numbers verb
  by_flush true same e = told_here (codes "flush") same (flush_told by_table numbers verb e)
  by_flush false same e = by_drain (bytes_eq word (codes "drain")) refl e

  by_move : (t : Bool) → bytes_eq word (codes "move") ≡ t
      → (if t then move_of numbers else (if bytes_eq word (codes "flush") then flush_of numbers else (if bytes_eq word (codes "drain") then drain_of numbers else None))) ≡ Some verb → IsTold by_table word numbers verb
  by_move true same e = told_here (codes "move") same (move_told by_table numbers verb e)
  by_move false same e = by_flush (bytes_eq word (codes "flush")) refl e

  by_take : (t : Bool) → bytes_eq word (codes "take") ≡ t
      → (if t then take_of by_table numbers else (if bytes_eq word (codes "move") then move_of numbers else (if bytes_eq word (codes "flush") then flush_of numbers else (if bytes_eq word (codes "drain") then drain_of numbers else None)))) ≡ Some verb
      → IsTold by_table word numbers verb
  by_take true same e = told_here (codes "take") same (take_told by_table numbers verb e)
  by_take false same e = by_move (bytes_eq word (codes "move")) refl e

  word_told : word_verb by_table word (Some numbers) ≡ Some verb → IsTold by_table word numbers verb
  word_told e = by_take (bytes_eq word (codes "take")) refl e

-- words of which one is no number are no verb
no_verb : (by_table : Bool) (word : List ℕ) → word_verb by_table word None ≡ None
no_verb by_table word = by (bytes_eq word (codes "take")) (bytes_eq word (codes "move")) (bytes_eq word (codes "flush")) (bytes_eq word (codes "drain"))
  where
    by : (t m f d : Bool) → (let none : Option Verb = None in (if t then none else (if m then none else (if f then none else (if d then none else none))))) ≡ None
    by true m f d = refl
    by false true f d = refl
    by false false true d = refl
    by false false false true = refl
    by false false false false = refl

-- ---- a verb is its text

IsWritten : Bool → List ℕ → Verb → Type 0
IsWritten by_table line verb = (line ≡ verb_text by_table verb) × IsVerb by_table verb

written_words : (by_table : Bool) (line word : List ℕ) (words : List (List ℕ)) (verb : Verb) → join_with_byte 32 (word ∷ words) ≡ line → (numbers : Option (List ℕ)) → numbers_of words ≡ numbers
    → word_verb by_table word numbers ≡ Some verb → IsWritten by_table line verb
unfolding IsWritten
written_words by_table line word words verb joins None are e = let none : None ≡ Some verb = sym (no_verb by_table word) ∙ e in absurd (cc (none))
written_words by_table line word words verb joins (Some numbers) are e =
    let texts = numbers_told words numbers are in
    let told = word_told by_table word numbers verb e in
    let words_are = texts.texts in
    let word_is = told.word_is in
    let numbers_are = told.numbers_are in (
      sym joins ∙ ap (λ ws. join_with_byte 32 (word ∷ ws)) words_are ∙ ap (λ w. join_with_byte 32 (w ∷ map decimal numbers)) word_is ∙ ap (λ ns. join_with_byte 32 (verb_word verb ∷ map decimal ns)) numbers_are,
      told.is_verb texts.few,
    )

written : (by_table : Bool) (line : List ℕ) (verb : Verb) → verb_of by_table line ≡ Some verb → IsWritten by_table line verb
written by_table line verb e =
    let has = split_has 32 line in
    let is = has.is in
    written_words by_table line has.first has.others verb (sym (ap (join_with_byte 32) is) ∙ join_with_byte-slice_split 32 line) (numbers_of has.others) refl
    (sym (ap (words_verb by_table) is) ∙ e)

-- ---- the text of a verb is the verb

-- words without a space
abbrev is_whole : List ℕ → Bool
is_whole word = list_all (λ b. not (b == 32)) word

no_space : (word : List ℕ) → is_whole word ≡ true → All (λ b. (b == 32) ≡ false) word
no_space word whole k d within = not-true _ (AllPass-from_list_all (λ b. not (b == 32)) word whole k d within)

digit_whole : (b : ℕ) → 48 ≤ b → not (b == 32) ≡ true
digit_whole b low = let apart : (b == 32) ≡ false = ne_eqb b 32 (λ same. absurd (omega (arith, same, low))) in ap not apart

digits_whole : (digits : List ℕ) → AllDigits 10 digits → is_whole digits ≡ true
digits_whole [] all = refl
digits_whole (digit ∷ digits) all = rw (digit_whole digit (digit_from_value digit all.0).0, digits_whole digits all.1) refl

number_whole : (number : ℕ) → IsNumber number → is_whole (decimal number) ≡ true
number_whole number few = let small : number < 2 ^ 64 = omega (arith, few) in digits_whole (decimal number) (decimal_is_IsNumeral number small).0.1

-- words that are joined are cut again
splits_join : (word : List ℕ) (words : List (List ℕ)) → is_whole word ≡ true → AllByRecursion (λ w. is_whole w ≡ true) words → words_of (join_with_byte 32 (word ∷ words)) ≡ word ∷ words
splits_join word [] whole others = slice_split_none (λ b. b == 32) word (no_space word whole)
splits_join word (next ∷ words) whole others =
    slice_split_at (λ b. b == 32) word 32 (join_with_byte 32 (next ∷ words)) (no_space word whole) refl ∙ ap (λ ws. word ∷ ws) (splits_join next words others.0 others.1)

all_whole : (numbers : List ℕ) → AreNumbers numbers → AllByRecursion (λ w. is_whole w ≡ true) (map decimal numbers)
all_whole [] few = tt
all_whole (number ∷ numbers) few = (number_whole number few.0, all_whole numbers few.1)

word_whole : (verb : Verb) → is_whole (verb_word verb) ≡ true
word_whole (Take table count) = refl
word_whole (Move edge from to count) = refl
word_whole (Flush node subtask) = refl
word_whole Drain = refl

verb_few : (by_table : Bool) (verb : Verb) → IsVerb by_table verb → AreNumbers (verb_numbers by_table verb)
verb_few true (Take table count) is = (is.0, (is.1.1, tt))
verb_few false (Take table count) is = (is.1.1, tt)
verb_few true (Move edge from to count) is = (is.0, (is.1, (is.2, (is.3.1, tt))))
verb_few false (Move edge from to count) is = (is.0, (is.1, (is.2, (is.3.1, tt))))
verb_few true (Flush node subtask) is = (is.0, (is.1, tt))
verb_few false (Flush node subtask) is = (is.0, (is.1, tt))
verb_few true Drain is = tt
verb_few false Drain is = tt

counts : (count : ℕ) (verb : Verb) → 0 < count → counted count verb ≡ Some verb
counts zero verb some = absurd (omega (arith, some))
counts (suc count) verb some = refl

verb_read : (by_table : Bool) (verb : Verb) → IsVerb by_table verb → word_verb by_table (verb_word verb) (Some (verb_numbers by_table verb)) ≡ Some verb
verb_read true (Take table count) is = counts count (Take table count) is.1.0
verb_read false (Take table count) is = counts count (Take 0 count) is.1.0 ∙ ap (λ t. Some (Take t count)) (sym is.0)
verb_read true (Move edge from to count) is = counts count (Move edge from to count) is.3.0
verb_read false (Move edge from to count) is = counts count (Move edge from to count) is.3.0
verb_read true (Flush node subtask) is = refl
verb_read false (Flush node subtask) is = refl
verb_read true Drain is = refl
verb_read false Drain is = refl

text_read : (by_table : Bool) (verb : Verb) → IsVerb by_table verb → verb_of by_table (verb_text by_table verb) ≡ Some verb
text_read by_table verb is =
    let numbers = verb_numbers by_table verb in
    let few = verb_few by_table verb is in
    ap (words_verb by_table) (splits_join (verb_word verb) (map decimal numbers) (word_whole verb) (all_whole numbers few))
    ∙ ap (word_verb by_table (verb_word verb)) (texts_read numbers few) ∙ verb_read by_table verb is

pub verbs_are_written : VerbsAreWritten
unfolding IsWritten
verbs_are_written by_table line verb = ((λ e. written by_table line verb e), (λ text is. ap (verb_of by_table) text ∙ text_read by_table verb is))
