-- Where records end.
use Rattle.std.proofs.Common.{◌≡◌, ◌≤◌, ◌<◌, ◌+◌, ◌==◌, ◌∙◌, ◌⊎◌, inl, inr, ℕ, suc, Bool, true, false, cond, ◌&&◌, ◌||◌, List, [], ◌∷◌, length, drop, get_or, refl, sym, ap, arith}
use Rattle.std.specs.Prelude.{if◌then◌else◌, nat_lt}
use Rattle.std.specs.List.{prefix_len}
use Rattle.std.proofs.lemmas.Bool.{and_from, cases_lt, eq-eqb, eqb-true, false≢true, le-ltb, lt-ltb, ne_eqb}
use Rattle.std.proofs.lemmas.Bool.Decides.{nat_tests}
use Rattle.std.proofs.lemmas.List.{drop-drop, drop_all, drop_more, get_or-drop, get_or_past, length-drop}
use Rattle.std.proofs.Math.Numerals.{one-add}
use Rattle.csv.specs.Machine.{ends_at_end, in_field, is_end, start_record, step}
use Rattle.csv.specs.Reading.{default_config}
use Rattle.csv.specs.declared.parser.Action.{Action}
use Rattle.csv.specs.declared.parser.Action.TheVariants as act
use Rattle.csv.specs.declared.parser.State.{State}
use Rattle.csv.specs.declared.parser.State.TheVariants as st
use Rattle.job_text.specs.Ends.{before_end, ends_in, field_ends, is_field_start, is_plain, is_start, state_behind}

-- ---- steps within a record

-- a place within a record, where there are no comments and no escapes
abbrev is_in : State → Bool
is_in st.StartField = true
is_in st.InField = true
is_in st.InQuoted = true
is_in st.AfterQuote = true
is_in s = false

-- the step stays within the record
record Stays (p : State × Action) : Type 0 where
  within : is_in p.0 ≡ true
  lasts : ends_at_end p.0 ≡ true
  none : is_end p.1 ≡ false

-- or its byte ends it
abbrev Leaves : ℕ → State × Action → Type 0
Leaves c p = ((c ≡ 13) × (p ≡ (st.AfterCr, act.EndRecord))) ⊎ ((c ≡ 10) × (p ≡ (st.StartRecord, act.EndRecord)))

abbrev Steps : ℕ → State × Action → Type 0
Steps c p = Stays p ⊎ Leaves c p

either : (P : State × Action → Type 0) (b : Bool) (x y : State × Action) → P x → P y → P (if b then x else y)
either P true x y p q = p
either P false x y p q = q

line_steps : (c : ℕ) (back feed : Bool) → (c == 13) ≡ back → (c == 10) ≡ feed → Steps c (if back || feed then ((if back then st.AfterCr else st.StartRecord), act.EndRecord) else (st.InField, act.Copy))
line_steps c true feed p q = inr (inl (eqb-true c 13 p, refl))
line_steps c false true p q = inr (inr (eqb-true c 10 q, refl))
line_steps c false false p q = inl (record { within = refl; lasts = refl; none = refl })

field_steps : (c : ℕ) → Steps c (in_field default_config c)
field_steps c = either (Steps c) (c == 44) (st.StartField, act.EndField) _ (inl (record { within = refl; lasts = refl; none = refl })) (line_steps c (c == 13) (c == 10) refl refl)

in_steps : (s : State) (c : ℕ) → is_in s ≡ true → Steps c (step default_config s c)
in_steps st.StartRecord c e = cc e
in_steps st.StartField c e = either (Steps c) (true && (c == 34)) (st.InQuoted, act.Skip) (in_field default_config c) (inl (record { within = refl; lasts = refl; none = refl })) (field_steps c)
in_steps st.InField c e = field_steps c
in_steps st.InQuoted c e = either (Steps c) (true && (c == 34)) (st.AfterQuote, act.Skip) (st.InQuoted, act.Copy) (inl (record { within = refl; lasts = refl; none = refl })) (inl (record { within = refl; lasts = refl; none = refl }))
in_steps st.InEscape c e = cc e
in_steps st.AfterQuote c e = either (Steps c) (true && (true && (c == 34))) (st.InQuoted, act.Copy) (in_field default_config c) (inl (record { within = refl; lasts = refl; none = refl })) (field_steps c)
in_steps st.InComment c e = cc e
in_steps st.AfterCr c e = cc e

-- a byte where a record begins: it begins one, or is the end of an empty line
abbrev Begins : State × Action → Type 0
Begins p = (p ≡ (st.StartRecord, act.Skip)) ⊎ Stays p

first_steps : (c : ℕ) (back feed : Bool) → (c == 13) ≡ back → (c == 10) ≡ feed
    → Begins (if back || feed then (st.StartRecord, act.Skip) else if true && (c == 34) then (st.InQuoted, act.Skip) else if c == 44 then (st.StartField, act.EndField)
    else if back || feed then ((if back then st.AfterCr else st.StartRecord), act.EndRecord) else (st.InField, act.Copy))
first_steps c true feed p q = inl refl
first_steps c false true p q = inl refl
first_steps c false false p q = either Begins (true && (c == 34)) (st.InQuoted, act.Skip) _ (inr (record { within = refl; lasts = refl; none = refl }))
    (either Begins (c == 44) (st.StartField, act.EndField) (st.InField, act.Copy) (inr (record { within = refl; lasts = refl; none = refl })) (inr (record { within = refl; lasts = refl; none = refl })))

begin_steps : (c : ℕ) → Begins (start_record default_config c)
begin_steps c = first_steps c (c == 13) (c == 10) refl refl

-- behind a return the reader does as where a record begins
behind_return : (c : ℕ) → step default_config st.AfterCr c ≡ start_record default_config c
behind_return c = by (c == 10) refl
  where
    by : (feed : Bool) → (c == 10) ≡ feed → (if feed then (st.StartRecord, act.Skip) else start_record default_config c) ≡ start_record default_config c
    by true e = sym (ap (start_record default_config) (eqb-true c 10 e))
    by false e = refl

-- ---- how many records end

return_ends : (xs : List ℕ) → ends_in st.AfterCr xs ≡ ends_in st.StartRecord xs
unfolding ends_in
return_ends [] = refl
return_ends (c ∷ rest) = ap (λ p. cond (is_end p.1) 1 0 + ends_in p.0 rest) (behind_return c)

in_ends : (xs : List ℕ) (s : State) → is_in s ≡ true → ends_at_end s ≡ true → ends_in s xs ≡ suc (ends_in st.StartRecord (drop (suc (before_end s xs)) xs))
unfolding ends_in before_end
in_ends [] s within lasts = rw lasts refl
in_ends (c ∷ rest) s within lasts = elim (in_steps s c within) [
  | inl stays ↦ let more = in_ends rest (step default_config s c).0 stays.within stays.lasts in rw (stays.lasts, stays.none) (omega (arith, more))
  | inr (inl leaves) ↦ let same = return_ends rest in rw leaves.1 (omega (arith, same))
  | inr (inr leaves) ↦ rw leaves.1 (omega arith)
]

one_ends : (xs : List ℕ) → ends_in st.StartRecord xs ≡ cond (nat_lt 0 (before_end st.StartRecord xs)) 1 0 + ends_in st.StartRecord (drop (suc (before_end st.StartRecord xs)) xs)
unfolding ends_in before_end
one_ends [] = refl
one_ends (c ∷ rest) = elim (begin_steps c) [
  | inl empty ↦ rw empty refl
  | inr stays ↦
      let n = before_end (start_record default_config c).0 rest in
      let more = in_ends rest (start_record default_config c).0 stays.within stays.lasts in
      let one : ◌≡◌ {A = ℕ} (cond (nat_lt 0 (cond true (suc n) 0)) 1 0) 1 = ap (λ b. cond b 1 0) (lt-ltb 0 (suc n) (omega arith)) in
      rw (stays.lasts, stays.none) (omega (arith, more, one))
]

-- ---- steps of loops over a text

-- the records from a place on: one at most before the byte behind its end
pub one_record : (text : List ℕ) (at end : ℕ) → end ≡ at + before_end st.StartRecord (drop at text)
    → ends_in st.StartRecord (drop at text) ≡ cond (nat_lt at end) 1 0 + ends_in st.StartRecord (drop (end + 1) text)
one_record text at end is =
    let n = before_end st.StartRecord (drop at text) in
    let behind : drop (suc n) (drop at text) ≡ drop (end + 1) text = drop-drop (suc n) at text ∙ ap (λ k. drop k text) (omega (arith, is)) in
    let more : nat_lt 0 n ≡ nat_lt at end = ltb_shift n at end is in
    one_ends (drop at text) ∙ ap (λ b. cond b 1 0 + ends_in st.StartRecord (drop (suc n) (drop at text))) more ∙ ap (λ xs. cond (nat_lt at end) 1 0 + ends_in st.StartRecord xs) behind
  where
    ltb_shift : (n at end : ℕ) → end ≡ at + n → nat_lt 0 n ≡ nat_lt at end
    ltb_shift n at end is = grind (arith, nat_tests)

-- one more byte, which leaves the machine within a record
pub one_within : (text : List ℕ) (i : ℕ) (s : State) → i < length text → ends_at_end (step default_config s (get_or text i 0)).0 ≡ true
    → before_end s (drop i text) ≡ suc (before_end (step default_config s (get_or text i 0)).0 (drop (i + 1) text))
unfolding before_end
one_within text i s inside lasts = rw (drop_more text i 0 inside, lasts) refl

-- or between two
pub one_out : (text : List ℕ) (i : ℕ) (s : State) → i < length text → ends_at_end (step default_config s (get_or text i 0)).0 ≡ false → before_end s (drop i text) ≡ 0
unfolding before_end
one_out text i s inside closed = rw (drop_more text i 0 inside, closed) refl

pub none_before : (text : List ℕ) (i : ℕ) (s : State) → i ≡ length text → before_end s (drop i text) ≡ 0
unfolding before_end
none_before text i s all = rw (drop_all i text (omega (arith, all))) refl

-- the end is no place past the text
before_few : (xs : List ℕ) (s : State) → before_end s xs ≤ length xs
unfolding before_end
before_few [] s = omega arith
before_few (c ∷ rest) s = elim (ends_at_end (step default_config s c).0) as (λ b. cond b (suc (before_end (step default_config s c).0 rest)) 0 ≤ suc (length rest)) [
  | true ↦ let few = before_few rest (step default_config s c).0 in omega arith
  | false ↦ omega arith
]

pub end_within : (text : List ℕ) (at end : ℕ) → at ≤ length text → end ≡ at + before_end st.StartRecord (drop at text) → end ≤ length text
end_within text at end inside is = omega (arith, is, before_few (drop at text) st.StartRecord, length-drop at text)

-- ---- a record without quotes

-- a state outside quotes
abbrev is_bare : State → Bool
is_bare st.StartRecord = true
is_bare st.StartField = true
is_bare st.InField = true
is_bare s = false

record Goes (p : State × Action) : Type 0 where
  bare : is_bare p.0 ≡ true
  lasts : ends_at_end p.0 ≡ true

plain_field : (c : ℕ) → (c == 13) ≡ false → (c == 10) ≡ false → Goes (in_field default_config c)
plain_field c p q = either Goes (c == 44) (st.StartField, act.EndField) _ (record { bare = refl; lasts = refl }) (rw (p, q) (record { bare = refl; lasts = refl }))

-- what holds of each of them
of_bare : (P : State → Type 0) → P st.StartRecord → P st.StartField → P st.InField → (s : State) → is_bare s ≡ true → P s
of_bare P record_start field_start field st.StartRecord e = record_start
of_bare P record_start field_start field st.StartField e = field_start
of_bare P record_start field_start field st.InField e = field
of_bare P record_start field_start field st.InQuoted e = cc e
of_bare P record_start field_start field st.InEscape e = cc e
of_bare P record_start field_start field st.AfterQuote e = cc e
of_bare P record_start field_start field st.InComment e = cc e
of_bare P record_start field_start field st.AfterCr e = cc e

plain_step : (s : State) (c : ℕ) → is_bare s ≡ true → (c == 34) ≡ false → (c == 13) ≡ false → (c == 10) ≡ false → Goes (step default_config s c)
plain_step s c bare q b f = let g = plain_field c b f in of_bare (λ t. Goes (step default_config t c)) (rw (b, f, q) (rw (b, f) at g)) (rw q g) g s bare

return_step : (s : State) → is_bare s ≡ true → ends_at_end (step default_config s 13).0 ≡ false
return_step = of_bare (λ s. ends_at_end (step default_config s 13).0 ≡ false) refl refl refl

feed_step : (s : State) → is_bare s ≡ true → ends_at_end (step default_config s 10).0 ≡ false
feed_step = of_bare (λ s. ends_at_end (step default_config s 10).0 ≡ false) refl refl refl

abbrev IsUnquoted : List ℕ → Type 0
IsUnquoted xs = get_or xs (prefix_len is_plain xs) 0 ≡ 34 → ⊥

bare_end : (xs : List ℕ) (s : State) → is_bare s ≡ true → IsUnquoted xs → before_end s xs ≡ prefix_len is_plain xs
unfolding before_end
bare_end [] s bare none = refl
bare_end (c ∷ rest) s bare none = by (bare_end rest (step default_config s c).0) (c == 34) (c == 13) (c == 10) refl refl refl
  where
    by : (is_bare (step default_config s c).0 ≡ true → IsUnquoted rest → before_end (step default_config s c).0 rest ≡ prefix_len is_plain rest)
        → (quote back feed : Bool) → (c == 34) ≡ quote → (c == 13) ≡ back → (c == 10) ≡ feed
        → cond (ends_at_end (step default_config s c).0) (suc (before_end (step default_config s c).0 rest)) 0 ≡ cond (is_plain c) (1 + prefix_len is_plain rest) 0
    by later true back feed q b f = absurd (none (let is : get_or (c ∷ rest) (cond (is_plain c) (1 + prefix_len is_plain rest) 0) 0 ≡ c = rw q refl in is ∙ eqb-true c 34 q))
    by later false true feed q b f = let out = ap (λ k. ends_at_end (step default_config s k).0) (eqb-true c 13 b) ∙ return_step s bare in rw (out, q, b) refl
    by later false false true q b f = let out = ap (λ k. ends_at_end (step default_config s k).0) (eqb-true c 10 f) ∙ feed_step s bare in rw (out, q, b, f) refl
    by later false false false q b f =
        let goes = plain_step s c bare q b f in
        let unquoted : IsUnquoted rest = λ is. none (let same : get_or (c ∷ rest) (cond (is_plain c) (1 + prefix_len is_plain rest) 0) 0 ≡ get_or rest (prefix_len is_plain rest) 0 = rw (q, b, f, one-add) refl in same ∙ is) in
        let more : before_end (step default_config s c).0 rest ≡ prefix_len is_plain rest = later goes.bare unquoted in
        let lasts = goes.lasts in
        rw (lasts, q, b, f, one-add) (ap suc more)

-- the end of a record whose bytes before the first that isn't plain are followed by no quote
pub plain_record : (text : List ℕ) (at end : ℕ) (quoted : Bool) → end ≡ at + prefix_len is_plain (drop at text)
    → quoted ≡ (nat_lt end (length text) && (get_or text end 0 == 34)) → quoted ≡ false → end ≡ at + before_end st.StartRecord (drop at text)
plain_record text at end quoted is quoted_is none =
    is ∙ ap (λ n. at + n) (sym (bare_end (drop at text) st.StartRecord refl unquoted))
  where
    unquoted : IsUnquoted (drop at text)
    unquoted same =
        let here : get_or text end 0 ≡ 34 = ap (λ k. get_or text k 0) is ∙ sym (get_or-drop at text (prefix_len is_plain (drop at text)) 0) ∙ same in
        elim (cases_lt end (length text)) [
          | inl inside ↦ absurd (false≢true (sym none ∙ quoted_is ∙ and_from (nat_lt end (length text)) (get_or text end 0 == 34) (lt-ltb end (length text) inside) (eq-eqb (get_or text end 0) 34 here)))
          | inr past ↦ absurd (let gone : get_or text end 0 ≡ 0 = get_or_past text end 0 past in omega (arith, gone, here))
        ]

-- ---- where the machine is behind a record

-- behind a record that ends within a text the machine goes on as from its start
record IsBehind (s : State) (xs : List ℕ) (n : ℕ) : Type 0 where
  more : suc n < length xs → state_behind s xs ≡ state_behind st.StartRecord (drop (suc n) xs)
  last : length xs ≤ suc n → is_start (state_behind s xs) ≡ (nat_lt n (length xs) && (get_or xs n 0 == 10))

no_start : (s : State) → is_in s ≡ true → is_start s ≡ false
no_start st.StartRecord e = cc
no_start st.StartField e = refl
no_start st.InField e = refl
no_start st.InQuoted e = refl
no_start st.InEscape e = refl
no_start st.AfterQuote e = refl
no_start st.InComment e = refl
no_start st.AfterCr e = refl

both_more : (m n : ℕ) → nat_lt m n ≡ nat_lt (suc m) (suc n)
both_more m n = grind (arith, nat_tests)

byte_more : (s : State) (c : ℕ) (rest : List ℕ) (m : ℕ) → IsBehind (step default_config s c).0 rest m → IsBehind s (c ∷ rest) (suc m)
unfolding state_behind
byte_more s c rest m behind = record {
  more = λ h. behind.more (omega arith);
  last = λ h. behind.last (omega arith) ∙ ap (λ b. b && (get_or rest m 0 == 10)) (both_more m (length rest));
}

at_feed : (s : State) (c : ℕ) (rest : List ℕ) → c ≡ 10 → (step default_config s c).0 ≡ st.StartRecord → IsBehind s (c ∷ rest) 0
unfolding state_behind
at_feed s c [] is to = record { more = λ h. absurd (omega arith); last = λ h. ap is_start to ∙ sym (ap (λ k. k == 10) is) }
at_feed s c (d ∷ rest) is to = record { more = λ h. ap (λ t. state_behind t (d ∷ rest)) to; last = λ h. absurd (omega arith) }

at_return : (s : State) (c : ℕ) (rest : List ℕ) → c ≡ 13 → (step default_config s c).0 ≡ st.AfterCr → IsBehind s (c ∷ rest) 0
unfolding state_behind
at_return s c [] is to = record { more = λ h. absurd (omega arith); last = λ h. ap is_start to ∙ sym (ap (λ k. k == 10) is) }
at_return s c (d ∷ rest) is to = record { more = λ h. ap (λ t. state_behind t (d ∷ rest)) to ∙ ap (λ p. state_behind p.0 rest) (behind_return d); last = λ h. absurd (omega arith) }

in_behind : (xs : List ℕ) (s : State) → is_in s ≡ true → IsBehind s xs (before_end s xs)
unfolding before_end state_behind
in_behind [] s within = record { more = λ h. absurd (omega arith); last = λ h. no_start s within }
in_behind (c ∷ rest) s within = elim (in_steps s c within) [
  | inl stays ↦ rw stays.lasts (byte_more s c rest (before_end (step default_config s c).0 rest) (in_behind rest (step default_config s c).0 stays.within))
  | inr (inl leaves) ↦ let to = ap (λ p. p.0) leaves.1 in rw to (at_return s c rest leaves.0 to)
  | inr (inr leaves) ↦ let to = ap (λ p. p.0) leaves.1 in rw to (at_feed s c rest leaves.0 to)
]

-- the same of a record or an empty line from its start
record IsBehindLine (xs : List ℕ) (n : ℕ) : Type 0 where
  more : suc n < length xs → state_behind st.StartRecord xs ≡ state_behind st.StartRecord (drop (suc n) xs)
  last : length xs ≤ suc n → is_start (state_behind st.StartRecord xs) ≡ (nat_lt n (length xs) && ((0 == n) || (get_or xs n 0 == 10)))

empty_behind : (c : ℕ) (rest : List ℕ) → (step default_config st.StartRecord c).0 ≡ st.StartRecord → IsBehindLine (c ∷ rest) 0
unfolding state_behind
empty_behind c [] to = record { more = λ h. absurd (omega arith); last = λ h. ap is_start to }
empty_behind c (d ∷ rest) to = record { more = λ h. ap (λ t. state_behind t (d ∷ rest)) to; last = λ h. absurd (omega arith) }

line_behind : (xs : List ℕ) → 0 < length xs → IsBehindLine xs (before_end st.StartRecord xs)
unfolding before_end
line_behind [] some = absurd (omega arith)
line_behind (c ∷ rest) some = elim (begin_steps c) [
  | inl empty ↦ let to = ap (λ p. p.0) empty in rw to (empty_behind c rest to)
  | inr stays ↦
      let m = before_end (start_record default_config c).0 rest in
      let behind = byte_more st.StartRecord c rest m (in_behind rest (start_record default_config c).0 stays.within) in
      let later : (0 == suc m) ≡ false = ne_eqb 0 (suc m) (λ e. omega (arith, e)) in
      rw stays.lasts (record { more = behind.more; last = λ h. behind.last h ∙ ap (λ b. nat_lt (suc m) (suc (length rest)) && (b || (get_or rest m 0 == 10))) (sym later) })
]

pub more_lines : (bytes : List ℕ) (at end : ℕ) (begins : Bool) → at < length bytes → end ≡ at + before_end st.StartRecord (drop at bytes)
    → is_start (state_behind st.StartRecord (drop at bytes)) ≡ begins → end + 1 < length bytes → is_start (state_behind st.StartRecord (drop (end + 1) bytes)) ≡ begins
more_lines bytes at end begins inside is so_far more =
    let n = before_end st.StartRecord (drop at bytes) in
    let len = length-drop at bytes in
    let behind : state_behind st.StartRecord (drop at bytes) ≡ state_behind st.StartRecord (drop (suc n) (drop at bytes)) = (line_behind (drop at bytes) (omega (arith, len))).more (omega (arith, len, is)) in
    let place : drop (suc n) (drop at bytes) ≡ drop (end + 1) bytes = drop-drop (suc n) at bytes ∙ ap (λ k. drop k bytes) (omega (arith, is)) in
    ap (λ xs. is_start (state_behind st.StartRecord xs)) (sym place) ∙ sym (ap is_start behind) ∙ so_far

pub last_line : (bytes : List ℕ) (at end : ℕ) (begins : Bool) → at < length bytes → end ≡ at + before_end st.StartRecord (drop at bytes)
    → is_start (state_behind st.StartRecord (drop at bytes)) ≡ begins → length bytes ≤ end + 1 → (nat_lt end (length bytes) && ((at == end) || (get_or bytes end 0 == 10))) ≡ begins
last_line bytes at end begins inside is so_far all =
    let n = before_end st.StartRecord (drop at bytes) in
    let len = length-drop at bytes in
    let behind = (line_behind (drop at bytes) (omega (arith, len))).last (omega (arith, len, is)) in
    let byte : get_or (drop at bytes) n 0 ≡ get_or bytes end 0 = get_or-drop at bytes n 0 ∙ ap (λ k. get_or bytes k 0) (sym is) in
    let within : nat_lt n (length (drop at bytes)) ≡ nat_lt end (length bytes) = shifted n (length (drop at bytes)) at end (length bytes) is (omega (arith, len)) in
    let none : (0 == n) ≡ (at == end) = same n at end is in
    sym (ap (λ b. b && ((at == end) || (get_or bytes end 0 == 10))) within)
    ∙ sym (ap (λ b. nat_lt n (length (drop at bytes)) && (b || (get_or bytes end 0 == 10))) none)
    ∙ sym (ap (λ k. nat_lt n (length (drop at bytes)) && ((0 == n) || (k == 10))) byte)
    ∙ sym behind ∙ so_far
  where
    shifted : (n m at end len : ℕ) → end ≡ at + n → m + at ≡ len → nat_lt n m ≡ nat_lt end len
    shifted n m at end len is all = grind (arith, nat_tests)

    same : (n at end : ℕ) → end ≡ at + n → (0 == n) ≡ (at == end)
    same n at end is = grind (arith, nat_tests)

-- no bytes leave the machine at its start
pub none_behind : (bytes : List ℕ) → length bytes ≤ 0 → true ≡ is_start (state_behind st.StartRecord bytes)
unfolding state_behind
none_behind [] none = refl
none_behind (c ∷ rest) none = absurd (omega arith)

-- ---- fields of a record

fields_few : (xs : List ℕ) (s : State) → field_ends s xs ≤ length xs
unfolding field_ends
fields_few [] s = omega arith
fields_few (c ∷ rest) s =
    let few = fields_few rest (step default_config s c).0 in
    elim (is_field_start (step default_config s c).0) as (λ b. cond b 1 0 + field_ends (step default_config s c).0 rest ≤ suc (length rest)) [ true ↦ omega arith | false ↦ omega arith ]

pub few_fields : (bytes : List ℕ) → length bytes ≤ 1048576 → nat_lt 1048576 (field_ends st.StartRecord bytes) ≡ false
few_fields bytes few = le-ltb 1048576 (field_ends st.StartRecord bytes) (omega (arith, few, fields_few bytes st.StartRecord))

pub one_field : (bytes : List ℕ) (i : ℕ) (s : State) → i < length bytes
    → field_ends s (drop i bytes) ≡ cond (is_field_start (step default_config s (get_or bytes i 0)).0) 1 0 + field_ends (step default_config s (get_or bytes i 0)).0 (drop (i + 1) bytes)
unfolding field_ends
one_field bytes i s inside = rw (drop_more bytes i 0 inside) refl

pub no_field : (bytes : List ℕ) (i : ℕ) (s : State) → i ≡ length bytes → field_ends s (drop i bytes) ≡ 0
unfolding field_ends
no_field bytes i s all = rw (drop_all i bytes (omega (arith, all))) refl
