-- Order files: the verb that each line is, and the first line that is none.
use Rattle.std.specs.Prelude.{◌≡◌, ℕ, zero, suc, ◌+◌, ◌==◌, ◌<◌, ◌≤◌, ◌&&◌, not, nat_le, Bool, true, false, List, [], ◌∷◌, map, Option, Some, None, option_and_then, Result, Ok, Err, if◌then◌else◌, codes}
use Rattle.std.specs.Char.{is_ascii_digit}
use Rattle.std.specs.Fmt.{decimal}
use Rattle.std.specs.List.{join_with_byte, slice_split}
use Rattle.std.specs.Str.{all_ascii_digits, bytes_eq}
use Rattle.std.specs.Str.Lines.{lines}
use Rattle.std.specs.Str.Parse.{digits_value}
use Rattle.job_text.specs.declared.orders.Verb.{Verb}
use Rattle.job_text.specs.declared.orders.Verb.TheVariants.{Take, Move, Flush, Drain}
use Rattle.job_text.specs.declared.orders.OrderLine.{OrderLine}

-- ---- the numbers of a line

-- digits without a leading zero, of which there is one at least
abbrev pub is_numeral : List ℕ → Bool
is_numeral [] = false
is_numeral (digit ∷ []) = is_ascii_digit digit
is_numeral (digit ∷ next ∷ digits) = not (digit == 48) && all_ascii_digits (digit ∷ next ∷ digits)

-- the number that a word spells, which is one of 32 bits
abbrev pub number_of : List ℕ → Option ℕ
number_of word = if is_numeral word && nat_le (digits_value 10 word) 4294967295 then Some (digits_value 10 word) else None

-- a number before those behind it, where all are numbers
abbrev pub number_before : Option ℕ → Option (List ℕ) → Option (List ℕ)
number_before None others = None
number_before (Some number) None = None
number_before (Some number) (Some numbers) = Some (number ∷ numbers)

-- the numbers that words spell
abbrev pub numbers_of : List (List ℕ) → Option (List ℕ)
numbers_of [] = Some []
numbers_of (word ∷ words) = number_before (number_of word) (numbers_of words)

-- ---- the verb that a line is

-- a verb for so many changes, of which there is one at least
abbrev pub counted : ℕ → Verb → Option Verb
counted zero verb = None
counted (suc count) verb = Some verb

-- so many changes are taken: of the source of a number, where each source has a change file of its own, or of the one change file
abbrev pub take_of : Bool → List ℕ → Option Verb
take_of true (table ∷ count ∷ []) = counted count (Take table count)
take_of false (count ∷ []) = counted count (Take 0 count)
take_of by_table numbers = None

abbrev pub move_of : List ℕ → Option Verb
move_of (edge ∷ from ∷ to ∷ count ∷ []) = counted count (Move edge from to count)
move_of numbers = None

abbrev pub flush_of : List ℕ → Option Verb
flush_of (node ∷ subtask ∷ []) = Some (Flush node subtask)
flush_of numbers = None

abbrev pub drain_of : List ℕ → Option Verb
drain_of [] = Some Drain
drain_of (number ∷ numbers) = None

-- the verb of a word and the numbers behind it
abbrev pub word_verb : Bool → List ℕ → Option (List ℕ) → Option Verb
word_verb by_table word numbers =
    if bytes_eq word (codes "take") then option_and_then (take_of by_table) numbers
    else (if bytes_eq word (codes "move") then option_and_then move_of numbers
    else (if bytes_eq word (codes "flush") then option_and_then flush_of numbers
    else (if bytes_eq word (codes "drain") then option_and_then drain_of numbers else None)))

abbrev pub words_verb : Bool → List (List ℕ) → Option Verb
words_verb by_table [] = None
words_verb by_table (word ∷ words) = word_verb by_table word (numbers_of words)

-- the words of a line stand between single spaces
abbrev pub words_of : List ℕ → List (List ℕ)
words_of line = slice_split (λ b. b == 32) line

abbrev pub verb_of : Bool → List ℕ → Option Verb
verb_of by_table line = words_verb by_table (words_of line)

-- ---- all lines

-- an empty line, or a remark
abbrev pub is_skipped : List ℕ → Bool
is_skipped [] = true
is_skipped (byte ∷ bytes) = byte == 35

-- the verb of a line of this number before the orders behind it; a line without a verb comes before a later one
abbrev pub order_before : ℕ → Option Verb → Result (List OrderLine) ℕ → Result (List OrderLine) ℕ
order_before number None others = Err number
order_before number (Some verb) (Err line) = Err line
order_before number (Some verb) (Ok orders) = Ok (record { line = number; verb = verb } ∷ orders)

-- a line of this number before the orders behind it
abbrev pub line_before : Bool → ℕ → List ℕ → Result (List OrderLine) ℕ → Result (List OrderLine) ℕ
line_before by_table number line others = if is_skipped line then others else order_before number (verb_of by_table line) others

-- the orders of lines, of which the first has this number
abbrev pub orders_from : Bool → ℕ → List (List ℕ) → Result (List OrderLine) ℕ
orders_from by_table number [] = Ok []
orders_from by_table number (line ∷ others) = line_before by_table number line (orders_from by_table (number + 1) others)

-- the orders of a file, whose lines end by LF or CR and LF and the last also by its end, or the number of its first bad line
abbrev pub orders_of : Bool → List ℕ → Result (List OrderLine) ℕ
orders_of by_table bytes = orders_from by_table 1 (lines bytes)

-- ---- the one way to write a verb

abbrev pub verb_word : Verb → List ℕ
verb_word (Take table count) = codes "take"
verb_word (Move edge from to count) = codes "move"
verb_word (Flush node subtask) = codes "flush"
verb_word Drain = codes "drain"

abbrev pub verb_numbers : Bool → Verb → List ℕ
verb_numbers true (Take table count) = table ∷ count ∷ []
verb_numbers false (Take table count) = count ∷ []
verb_numbers by_table (Move edge from to count) = edge ∷ from ∷ to ∷ count ∷ []
verb_numbers by_table (Flush node subtask) = node ∷ subtask ∷ []
verb_numbers by_table Drain = []

abbrev pub verb_text : Bool → Verb → List ℕ
verb_text by_table verb = join_with_byte 32 (verb_word verb ∷ map decimal (verb_numbers by_table verb))

abbrev pub IsNumber : ℕ → Type 0
IsNumber number = number ≤ 4294967295

abbrev pub IsCount : ℕ → Type 0
IsCount count = (0 < count) × IsNumber count

-- the source that a take names: 0 where no take names one
abbrev pub IsSource : Bool → ℕ → Type 0
IsSource true table = IsNumber table
IsSource false table = table ≡ 0

-- the numbers of a verb are those that a line may have
abbrev pub IsVerb : Bool → Verb → Type 0
IsVerb by_table (Take table count) = IsSource by_table table × IsCount count
IsVerb by_table (Move edge from to count) = IsNumber edge × IsNumber from × IsNumber to × IsCount count
IsVerb by_table (Flush node subtask) = IsNumber node × IsNumber subtask
IsVerb by_table Drain = Unit {0}

-- ---- the law

-- a line is a verb exactly where it is the verb's text and the verb's numbers are a line's
abbrev pub VerbsAreWritten : Type 0
VerbsAreWritten = (by_table : Bool) (line : List ℕ) (verb : Verb) → ((verb_of by_table line ≡ Some verb) → (line ≡ verb_text by_table verb) × IsVerb by_table verb)
    × (line ≡ verb_text by_table verb → IsVerb by_table verb → verb_of by_table line ≡ Some verb)
