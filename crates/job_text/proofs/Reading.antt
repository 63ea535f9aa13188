-- How one read of a record follows the records that a text has.
use Rattle.std.proofs.Common.{◌≡◌, ◌≤◌, ◌<◌, ◌+◌, ℕ, zero, suc, List, [], ◌∷◌, ◌++◌, length, Option, Some, None, Bool, true, false, refl, ap, arith, add-one, ◌⊎◌, inl, inr}
use Rattle.std.specs.Prelude.{◌==◌, ◌&&◌, ◌||◌, if◌then◌else◌}
use Rattle.csv.specs.Machine.{Read, step, in_field, start_field, start_record, after_end, ends_at_end, is_end, next_record}
use Rattle.csv.specs.Reading.{records_from, default_config, is_bom, strip_bom}
use Rattle.csv.specs.declared.parser.State.{State}
use Rattle.csv.specs.declared.parser.State.TheVariants as st
use Rattle.csv.specs.declared.parser.Action.{Action}
use Rattle.csv.specs.declared.parser.Action.TheVariants as act
use Rattle.csv.specs.declared.parser.Terminator.TheVariants as term
use Rattle.job_text.specs.Lines.{records_of}
use Rattle.job_text.specs.Reading.{records_after}

-- a step that ends a record stands between two records
abbrev Ends : State × Action → Type 0
Ends p = is_end p.1 ≡ true → ends_at_end p.0 ≡ false

either : (b : Bool) (x y : State × Action) → Ends x → Ends y → Ends (if b then x else y)
either true x y p q = p
either false x y p q = q

between_cr : (b : Bool) → ends_at_end (if b then st.AfterCr else st.StartRecord) ≡ false
between_cr true = refl
between_cr false = refl

in_field-ends : (c : ℕ) → Ends (in_field default_config c)
in_field-ends c = either (c == 44) (st.StartField, act.EndField) _ (λ e. cc e)
    (either ((c == 13) || (c == 10)) (after_end term.CRLF c, act.EndRecord) (st.InField, act.Copy) (λ e. between_cr (c == 13)) (λ e. cc e))

start_field-ends : (c : ℕ) → Ends (start_field default_config c)
start_field-ends c = either (true && (c == 34)) (st.InQuoted, act.Skip) (in_field default_config c) (λ e. cc e) (in_field-ends c)

start_record-ends : (c : ℕ) → Ends (start_record default_config c)
start_record-ends c = either ((c == 13) || (c == 10)) (st.StartRecord, act.Skip) _ (λ e. cc e) (start_field-ends c)

step-ends : (s : State) (c : ℕ) → Ends (step default_config s c)
step-ends st.StartRecord c = start_record-ends c
step-ends st.StartField c = start_field-ends c
step-ends st.InField c = in_field-ends c
step-ends st.InQuoted c = either (true && (c == 34)) (st.AfterQuote, act.Skip) _ (λ e. cc e) (λ e. cc e)
step-ends st.InEscape c = λ e. cc e
step-ends st.AfterQuote c = either (true && (true && (c == 34))) (st.InQuoted, act.Copy) (in_field default_config c) (λ e. cc e) (in_field-ends c)
step-ends st.InComment c = either (c == 10) (st.StartRecord, act.Skip) (st.InComment, act.Skip) (λ e. cc e) (λ e. cc e)
step-ends st.AfterCr c = either (c == 10) (st.StartRecord, act.Skip) (start_record default_config c) (λ e. cc e) (start_record-ends c)

-- what a read of a record leaves
pub record Leaves (p : Read) (n : ℕ) : Type 0 where
  pub shorter : length p.2 ≤ n
  pub between : ends_at_end p.1 ≡ false

leaves-more : (p : Read) (n m : ℕ) → n ≤ m → Leaves p n → Leaves p m
leaves-more p n m h l = record { shorter = omega arith; between = l.between }

pub some-same : (p q : Read) → Some p ≡ Some q → p ≡ q
some-same p q e = cc e

-- what ends a record at the end of a text
end-leaves : (b : Bool) (f : List (List ℕ)) (p : Read) → (if b then Some (f, st.StartRecord, []) else None) ≡ Some p → Leaves p 0
end-leaves true f p e = let s = some-same _ p e in rw (← s) (record { shorter = omega arith; between = refl })
end-leaves false f p e = cc e

-- a step's own record, or what the rest gives
step-leaves : (b : Bool) (q : Read) (o : Option Read) (p : Read) (n : ℕ) → (if b then Some q else o) ≡ Some p
    → (b ≡ true → Leaves q n) → (o ≡ Some p → Leaves p n) → Leaves p n
step-leaves true q o p n e here later = let s = some-same q p e in rw (← s) (here refl)
step-leaves false q o p n e here later = later e

-- a read of a record leaves no more bytes than there were, and stands between two records
pub next-leaves : (xs : List ℕ) (s : State) (f : List (List ℕ)) (g : List ℕ) (p : Read) → next_record default_config s f g xs ≡ Some p → Leaves p (length xs)
unfolding next_record
next-leaves [] s f g p e = end-leaves (ends_at_end s) (f ++ (g ∷ [])) p e
next-leaves (c ∷ rest) s f g p e = step-leaves (is_end (step default_config s c).1) _ _ p (length (c ∷ rest)) e
    (λ ends. record { shorter = omega arith; between = step-ends s c ends })
    (λ later. leaves-more p (length rest) (length (c ∷ rest)) (omega arith) (next-leaves rest _ _ _ p later))

-- a read from between two records takes a byte at least
pub next-shorter : (s : State) (xs : List ℕ) (p : Read) → ends_at_end s ≡ false → next_record default_config s [] [] xs ≡ Some p → length p.2 < length xs
unfolding next_record
next-shorter s [] p b e = cc (rw b at e)
next-shorter s (c ∷ rest) p b e =
    let l = step-leaves (is_end (step default_config s c).1) _ _ p (length rest) e
    (λ ends. record { shorter = omega arith; between = step-ends s c ends })
    (λ later. next-leaves rest _ _ _ p later) in
    let h : length p.2 ≤ length rest = l.shorter in omega arith

pub next-cases : (o : Option Read) → (o ≡ None) ⊎ ((p : Read) × (o ≡ Some p))
next-cases None = inl refl
next-cases (Some p) = inr (p, refl)

-- the bound on the number of records counts for nothing once it is above the length
records-fuel : (n m : ℕ) (s : State) (xs : List ℕ) → ends_at_end s ≡ false → length xs < n → length xs < m
    → records_from default_config n s xs ≡ records_from default_config m s xs
unfolding records_from
records-fuel zero m s xs b h k = absurd (omega arith)
records-fuel (suc n) zero s xs b h k = absurd (omega arith)
records-fuel (suc n) (suc m) s xs b h k =
    elim (next-cases (next_record default_config s [] [] xs)) [
      | inl none ↦ rw none refl
      | inr some ↦
          let l = next-leaves xs s [] [] some.0 some.1 in
          let short : length some.0.2 < length xs = next-shorter s xs some.0 b some.1 in
          rw some.1 (ap (λ (t : List (List (List ℕ))). some.0.0 ∷ t) (records-fuel n m some.0.1 some.0.2 l.between (omega arith) (omega arith)))
    ]

-- the records after a state, at a read that found none, and at one that found one
pub after-none : (s : State) (xs : List ℕ) → next_record default_config s [] [] xs ≡ None → records_after s xs ≡ []
unfolding records_after records_from
after-none s xs e = rw (add-one, e) refl

pub after-some : (s : State) (xs : List ℕ) (p : Read) → ends_at_end s ≡ false → next_record default_config s [] [] xs ≡ Some p
    → records_after s xs ≡ p.0 ∷ records_after p.1 p.2
unfolding records_after records_from
after-some s xs p b e =
    let l = next-leaves xs s [] [] p e in
    let short : length p.2 < length xs = next-shorter s xs p b e in
    rw (add-one, e) (ap (λ (t : List (List (List ℕ))). p.0 ∷ t) (records-fuel (length xs) (length p.2 + 1) p.1 p.2 l.between (omega arith) (omega arith)))

-- a text has no more records than bytes
records-few : (n : ℕ) (s : State) (xs : List ℕ) → ends_at_end s ≡ false → length (records_from default_config n s xs) ≤ length xs
unfolding records_from
records-few zero s xs b = omega arith
records-few (suc n) s xs b = elim (next-cases (next_record default_config s [] [] xs)) [
  | inl none ↦ rw none (omega arith)
  | inr some ↦
      let l = next-leaves xs s [] [] some.0 some.1 in
      let short : length some.0.2 < length xs = next-shorter s xs some.0 b some.1 in
      let few = records-few n some.0.1 some.0.2 l.between in
      rw some.1 (omega (arith, few))
]

-- the records of a file
pub records_of-after : (xs : List ℕ) → records_of xs ≡ records_after st.StartRecord (strip_bom xs)
unfolding records_after
records_of-after xs = refl

pub strip_bom-few : (xs : List ℕ) → length (strip_bom xs) ≤ length xs
unfolding strip_bom
strip_bom-few [] = omega arith
strip_bom-few (a ∷ []) = omega arith
strip_bom-few (a ∷ b ∷ []) = omega arith
strip_bom-few (a ∷ b ∷ c ∷ rest) = by (is_bom a b c)
  where
    by : (mark : Bool) → length (if mark then rest else a ∷ b ∷ c ∷ rest) ≤ length (a ∷ b ∷ c ∷ rest)
    by true = omega arith
    by false = omega arith

-- a file has no more records than bytes
pub few_records : (xs : List ℕ) → length (records_of xs) ≤ length xs
few_records xs = omega (arith, records-few (length (strip_bom xs) + 1) st.StartRecord (strip_bom xs) refl, strip_bom-few xs)
