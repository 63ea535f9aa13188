-- The change lines that are made from a seed: four rows come, and the first of them goes again, over and over.
use Rattle.std.specs.Prelude.{◌≡◌, ℕ, zero, suc, ◌+◌, ◌-◌, ◌*◌, ◌/◌, ◌%◌, ◌^◌, ◌==◌, if◌then◌else◌, pos, ◌-ℤ◌, List, [], ◌++◌, codes}
use Rattle.std.specs.Fmt.{decimal}
use Rattle.ct_value.specs.declared.ty.Ty.TheVariants.{Int}
use Rattle.ct_value.specs.declared.value.Value.TheVariants.{Num}
use Rattle.ct_field.specs.Fields.{field_text}

-- the number behind a number of 64 bits
abbrev pub next_number : ℕ → ℕ
next_number number = (number * 6364136223846793005 + 1442695040888963407) % 2 ^ 64

-- the number so many places behind the seed
abbrev pub number_at : ℕ → ℕ → ℕ
number_at seed zero = seed
number_at seed (suc k) = next_number (number_at seed k)

-- the row that a number makes: one of 1,000 words, and a value from -1000 to 1000
abbrev pub made_row : ℕ → List ℕ
made_row number = codes "w" ++ (decimal ((number / 2 ^ 33) % 1000) ++ (codes "," ++ (field_text Int (Num (pos ((number / 2 ^ 43) % 2001) -ℤ pos 1000)) ++ codes "\n")))

-- the line of a number, counted from 1: of five the last takes back the row of the first
abbrev pub made_line : ℕ → ℕ → List ℕ
made_line seed k = if (k % 5) == 0 then codes "t,-D," ++ made_row (number_at seed (k - 4)) else codes "t,+I," ++ made_row (number_at seed k)

-- so many lines
abbrev pub made_lines : ℕ → ℕ → List ℕ
made_lines seed zero = []
made_lines seed (suc k) = made_lines seed k ++ made_line seed (suc k)

-- the numbers of the last lines, behind so many: of the last line, and of those one, two and three lines before it
pub record AreLast (seed k : ℕ) (last second third fourth : ℕ) : Type 0 where
  pub last_is : last ≡ number_at seed k
  pub second_is : second ≡ number_at seed (k - 1)
  pub third_is : third ≡ number_at seed (k - 2)
  pub fourth_is : fourth ≡ number_at seed (k - 3)
