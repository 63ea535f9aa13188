-- The lines that are made, one after the other.
use Rattle.std.proofs.Common.{◌≡◌, ◌+◌, ◌-◌, ◌%◌, ◌==◌, ◌∙◌, ℕ, suc, false, List, ◌++◌, Result, Ok, Err, OnOk, ap, append_assoc, arith, codes, sym}
use Rattle.std.specs.Prelude.{if◌then◌else◌}
use Rattle.job_text.specs.Made.{made_line, made_lines, made_row, next_number, number_at}

pub on_ok_more : {T E : Type 0} {P Q : Type 0} (r : Result T E) → (P → Q) → OnOk r P → OnOk r Q
on_ok_more (Ok x) more is = more is
on_ok_more (Err e) more is = tt

next_at : (seed k : ℕ) → number_at seed (k + 1) ≡ next_number (number_at seed k)
next_at seed k = let e : k + 1 ≡ suc k = omega arith in ap (number_at seed) e

-- a line whose row comes
pub line_comes : (seed k number last row : ℕ) (old mid new : List ℕ) → ((number % 5) == 0) ≡ false → number ≡ k + 1 → last ≡ number_at seed k → row ≡ next_number last → mid ≡ old ++ codes "t,+I,"
    → new ≡ mid ++ made_row row → new ≡ old ++ made_line seed number
line_comes seed k number last row old mid new other place last_is row_is mid_is new_is =
    let here : row ≡ number_at seed number = row_is ∙ ap next_number last_is ∙ sym (next_at seed k) ∙ ap (number_at seed) (sym place) in
    new_is ∙ ap (λ xs. xs ++ made_row row) mid_is ∙ append_assoc old (codes "t,+I,") (made_row row)
    ∙ ap (λ n. old ++ (codes "t,+I," ++ made_row n)) here
    ∙ sym (ap (λ b. old ++ (if b then codes "t,-D," ++ made_row (number_at seed (number - 4)) else codes "t,+I," ++ made_row (number_at seed number))) other)

-- the lines with one more
pub lines_more : (seed k : ℕ) (old new : List ℕ) → old ≡ made_lines seed k → new ≡ old ++ made_line seed (k + 1) → new ≡ made_lines seed (k + 1)
lines_more seed k old new old_is new_is =
    let e : k + 1 ≡ suc k = omega arith in
    new_is ∙ ap (λ xs. xs ++ made_line seed (k + 1)) old_is ∙ ap (λ n. made_lines seed k ++ made_line seed n) e ∙ sym (ap (made_lines seed) e)
