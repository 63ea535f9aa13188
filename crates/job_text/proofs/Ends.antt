-- How many records a text has, byte by byte.
use Rattle.std.proofs.Common.{◌≡◌, ◌≤◌, ◌<◌, ◌+◌, ◌∙◌, ℕ, zero, suc, List, [], ◌∷◌, length, drop, take, get_or, ◌-◌, Option, Some, None, Bool, true, false, refl, sym, ap, arith, inl, inr}
use Rattle.std.specs.Prelude.{cond, not, if◌then◌else◌}
use Rattle.std.proofs.lemmas.List.{drop_all, take_rest}
use Rattle.csv.specs.Machine.{Read, ends_at_end, is_end, next_record, step}
use Rattle.csv.specs.Reading.{default_config, is_bom, records_from, strip_bom}
use Rattle.csv.specs.declared.parser.State.{State}
use Rattle.csv.specs.declared.parser.State.TheVariants as st
use Rattle.job_text.specs.Ends.{ends_in, is_unmarked}
use Rattle.job_text.specs.Lines.{records_of}
use Rattle.job_text.proofs.Reading.{next-cases, next-leaves, next-shorter, some-same, strip_bom-few}

end-counts : (b : Bool) (f : List (List ℕ)) (p : Read) → (if b then Some (f, st.StartRecord, []) else None) ≡ Some p → cond b 1 0 ≡ 1 + ends_in p.1 p.2
unfolding ends_in
end-counts true f p e = let s = some-same _ p e in rw (← s) refl
end-counts false f p e = cc e

step-counts : (b : Bool) (f : List (List ℕ)) (t : State) (rest : List ℕ) (o : Option Read) (p : Read) → (if b then Some (f, t, rest) else o) ≡ Some p
    → (o ≡ Some p → ends_in t rest ≡ 1 + ends_in p.1 p.2) → cond b 1 0 + ends_in t rest ≡ 1 + ends_in p.1 p.2
step-counts true f t rest o p e later = let s = some-same _ p e in rw (← s) refl
step-counts false f t rest o p e later = omega (arith, later e)

-- a read of a record takes one of the records that end in a text
read-counts : (xs : List ℕ) (s : State) (f : List (List ℕ)) (g : List ℕ) (p : Read) → next_record default_config s f g xs ≡ Some p → ends_in s xs ≡ 1 + ends_in p.1 p.2
unfolding next_record ends_in
read-counts [] s f g p e = end-counts (ends_at_end s) _ p e
read-counts (c ∷ rest) s f g p e = step-counts (is_end (step default_config s c).1) _ (step default_config s c).0 rest _ p e (λ later. read-counts rest _ _ _ p later)

none-end : (b : Bool) (q : Read) → (if b then Some q else None) ≡ None → ◌≡◌ {A = ℕ} (cond b 1 0) 0
none-end true q e = cc e
none-end false q e = refl

none-step : (b : Bool) (q : Read) (o : Option Read) (n : ℕ) → (if b then Some q else o) ≡ None → (o ≡ None → n ≡ 0) → cond b 1 0 + n ≡ 0
none-step true q o n e later = cc e
none-step false q o n e later = omega (arith, later e)

-- and one that finds none leaves none
none-counts : (xs : List ℕ) (s : State) (f : List (List ℕ)) (g : List ℕ) → next_record default_config s f g xs ≡ None → ends_in s xs ≡ 0
unfolding next_record ends_in
none-counts [] s f g e = none-end (ends_at_end s) _ e
none-counts (c ∷ rest) s f g e = none-step (is_end (step default_config s c).1) _ _ _ e (λ later. none-counts rest _ _ _ later)

counted : (n : ℕ) (s : State) (xs : List ℕ) → ends_at_end s ≡ false → length xs < n → length (records_from default_config n s xs) ≡ ends_in s xs
unfolding records_from
counted zero s xs b h = absurd (omega arith)
counted (suc n) s xs b h = elim (next-cases (next_record default_config s [] [] xs)) [
  | inl none ↦ let none_left = none-counts xs s [] [] none in rw none (sym none_left)
  | inr some ↦
      let l = next-leaves xs s [] [] some.0 some.1 in
      let short : length some.0.2 < length xs = next-shorter s xs some.0 b some.1 in
      let more = counted n some.0.1 some.0.2 l.between (omega arith) in
      let here = read-counts xs s [] [] some.0 some.1 in
      rw some.1 (omega (arith, more, here))
]

-- the records of a file
pub all_counted : (bytes : List ℕ) → ends_in st.StartRecord (strip_bom bytes) ≡ length (records_of bytes)
all_counted bytes = sym (counted (length (strip_bom bytes) + 1) st.StartRecord (strip_bom bytes) refl (omega arith))

-- all of a file, behind its last record
pub total : (bytes text : List ℕ) (at count : ℕ) → text ≡ strip_bom bytes → length text ≤ at → count + ends_in st.StartRecord (drop at text) ≡ ends_in st.StartRecord text → count ≡ length (records_of bytes)
unfolding ends_in
total bytes text at count is past counts =
    let none : ends_in st.StartRecord (drop at text) ≡ 0 = ap (λ t. ends_in st.StartRecord t) (drop_all at text past) in
    let all : count ≡ ends_in st.StartRecord text = omega (arith, none, counts) in
    all ∙ ap (λ t. ends_in st.StartRecord t) is ∙ all_counted bytes

-- a text of a file is no longer than the file
pub no_longer : (bytes text : List ℕ) → text ≡ strip_bom bytes → length text ≤ length bytes
no_longer bytes text is = rw is (strip_bom-few bytes)

-- ---- a byte order mark

pub unmarked_short : (xs : List ℕ) → length xs < 3 → xs ≡ strip_bom xs
unfolding strip_bom
unmarked_short [] short = refl
unmarked_short (a ∷ []) short = refl
unmarked_short (a ∷ b ∷ []) short = refl
unmarked_short (a ∷ b ∷ c ∷ rest) short = absurd (omega arith)

pub unmarked : (xs : List ℕ) → 3 ≤ length xs → is_bom (get_or xs 0 0) (get_or xs 1 0) (get_or xs 2 0) ≡ false → xs ≡ strip_bom xs
unfolding strip_bom
unmarked [] long other = refl
unmarked (a ∷ []) long other = refl
unmarked (a ∷ b ∷ []) long other = refl
unmarked (a ∷ b ∷ c ∷ rest) long other = sym (ap (λ is. if is then rest else a ∷ b ∷ c ∷ rest) other)

stripped : (xs : List ℕ) → 3 ≤ length xs → is_bom (get_or xs 0 0) (get_or xs 1 0) (get_or xs 2 0) ≡ true → drop 3 xs ≡ strip_bom xs
unfolding strip_bom
stripped [] long mark = absurd (omega arith)
stripped (a ∷ []) long mark = absurd (omega arith)
stripped (a ∷ b ∷ []) long mark = absurd (omega arith)
stripped (a ∷ b ∷ c ∷ rest) long mark = sym (ap (λ is. if is then rest else a ∷ b ∷ c ∷ rest) mark)

pub marked : (xs : List ℕ) → 3 ≤ length xs → is_bom (get_or xs 0 0) (get_or xs 1 0) (get_or xs 2 0) ≡ true → take (length xs - 3) (drop 3 xs) ≡ strip_bom xs
marked xs long mark = take_rest xs 3 ∙ stripped xs long mark

-- ---- where a file may be cut

pub few_unmarked : (xs : List ℕ) → length xs < 3 → is_unmarked xs ≡ false
few_unmarked [] short = refl
few_unmarked (a ∷ []) short = refl
few_unmarked (a ∷ b ∷ []) short = refl
few_unmarked (a ∷ b ∷ c ∷ rest) short = absurd (omega arith)

pub unmarked_of : (xs : List ℕ) → 3 ≤ length xs → is_unmarked xs ≡ not (is_bom (get_or xs 0 0) (get_or xs 1 0) (get_or xs 2 0))
unmarked_of [] long = absurd (omega arith)
unmarked_of (a ∷ []) long = absurd (omega arith)
unmarked_of (a ∷ b ∷ []) long = absurd (omega arith)
unmarked_of (a ∷ b ∷ c ∷ rest) long = refl
