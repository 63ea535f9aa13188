-- The records of a file that is cut where it may be are those of its parts.
use Rattle.std.proofs.Common.{◌≡◌, ◌<◌, ◌∙◌, ◌⊎◌, inl, inr, ℕ, zero, suc, Bool, true, false, List, [], ◌∷◌, ◌++◌, length, Option, Some, None, refl, sym, ap, subst, arith}
use Rattle.std.specs.Prelude.{◌==◌, ◌&&◌, ◌||◌, not, if◌then◌else◌}
use Rattle.std.proofs.lemmas.Bool.{and_parts}
use Rattle.csv.specs.Machine.{Read, after_end, ends_at_end, field_after, fields_after, in_field, is_end, next_record, start_field, start_record, step}
use Rattle.csv.specs.Reading.{default_config, is_bom, strip_bom}
use Rattle.csv.specs.declared.parser.Action.{Action}
use Rattle.csv.specs.declared.parser.Action.TheVariants as act
use Rattle.csv.specs.declared.parser.State.{State}
use Rattle.csv.specs.declared.parser.State.TheVariants as st
use Rattle.csv.specs.declared.parser.Terminator.TheVariants as term
use Rattle.job_text.specs.Ends.{is_start, is_unmarked, may_cut, state_behind}
use Rattle.job_text.specs.Lines.{records_of}
use Rattle.job_text.specs.Reading.{records_after}
use Rattle.job_text.proofs.Reading.{after-none, after-some, next-cases, next-leaves, next-shorter, records_of-after, some-same}

-- ---- within a record and between two

-- a place within a record, where there are no comments and no escapes
abbrev is_in : State → Bool
is_in st.StartField = true
is_in st.InField = true
is_in st.InQuoted = true
is_in st.AfterQuote = true
is_in s = false

-- a step that ends no record leads within one
abbrev Leads : State × Action → Type 0
Leads p = is_end p.1 ≡ false → is_in p.0 ≡ true

-- or skips a byte between two
abbrev Skips : State × Action → Type 0
Skips p = (p ≡ (st.StartRecord, act.Skip)) ⊎ Leads p

either : (P : State × Action → Type 0) (b : Bool) (x y : State × Action) → P x → P y → P (if b then x else y)
either P true x y p q = p
either P false x y p q = q

field_leads : (c : ℕ) → Leads (in_field default_config c)
field_leads c = either Leads (c == 44) (st.StartField, act.EndField) _ (λ e. refl)
    (either Leads ((c == 13) || (c == 10)) (after_end term.CRLF c, act.EndRecord) (st.InField, act.Copy) (λ e. cc e) (λ e. refl))

start_leads : (c : ℕ) → Leads (start_field default_config c)
start_leads c = either Leads (true && (c == 34)) (st.InQuoted, act.Skip) (in_field default_config c) (λ e. refl) (field_leads c)

step_leads : (s : State) (c : ℕ) → is_in s ≡ true → Leads (step default_config s c)
step_leads st.StartRecord c e = cc e
step_leads st.StartField c e = start_leads c
step_leads st.InField c e = field_leads c
step_leads st.InQuoted c e = either Leads (true && (c == 34)) (st.AfterQuote, act.Skip) (st.InQuoted, act.Copy) (λ d. refl) (λ d. refl)
step_leads st.InEscape c e = cc e
step_leads st.AfterQuote c e = either Leads (true && (true && (c == 34))) (st.InQuoted, act.Copy) (in_field default_config c) (λ d. refl) (field_leads c)
step_leads st.InComment c e = cc e
step_leads st.AfterCr c e = cc e

record_skips : (c : ℕ) → Skips (start_record default_config c)
record_skips c = either Skips ((c == 13) || (c == 10)) (st.StartRecord, act.Skip) (start_field default_config c) (inl refl) (inr (start_leads c))

step_skips : (s : State) (c : ℕ) → ends_at_end s ≡ false → Skips (step default_config s c)
step_skips st.StartRecord c e = record_skips c
step_skips st.StartField c e = cc e
step_skips st.InField c e = cc e
step_skips st.InQuoted c e = cc e
step_skips st.InEscape c e = cc e
step_skips st.AfterQuote c e = cc e
step_skips st.InComment c e = cc e
step_skips st.AfterCr c e = either Skips (c == 10) (st.StartRecord, act.Skip) (start_record default_config c) (inl refl) (record_skips c)

in_ends : (s : State) → is_in s ≡ true → ends_at_end s ≡ true
in_ends st.StartRecord e = cc e
in_ends st.StartField e = refl
in_ends st.InField e = refl
in_ends st.InQuoted e = refl
in_ends st.InEscape e = cc e
in_ends st.AfterQuote e = refl
in_ends st.InComment e = cc e
in_ends st.AfterCr e = cc e

start_is : (s : State) → is_start s ≡ true → s ≡ st.StartRecord
start_is st.StartRecord e = refl
start_is st.StartField e = cc e
start_is st.InField e = cc e
start_is st.InQuoted e = cc e
start_is st.InEscape e = cc e
start_is st.AfterQuote e = cc e
start_is st.InComment e = cc e
start_is st.AfterCr e = cc e

-- ---- one read

none_end : (b : Bool) (q : Read) → (if b then Some q else None) ≡ None → b ≡ true → ⊥
none_end true q e h = cc e
none_end false q e h = cc h

none_step : (b : Bool) (q : Read) (o : Option Read) → (if b then Some q else o) ≡ None → (b ≡ false) × (o ≡ None)
none_step true q o e = cc e
none_step false q o e = (refl, e)

-- within a record each read finds it
none_in : (xs : List ℕ) (s : State) (f : List (List ℕ)) (g : List ℕ) → is_in s ≡ true → next_record default_config s f g xs ≡ None → ⊥
unfolding next_record
none_in [] s f g h e = none_end (ends_at_end s) _ e (in_ends s h)
none_in (c ∷ rest) s f g h e =
    let n = none_step (is_end (step default_config s c).1) _ _ e in
    none_in rest (step default_config s c).0 _ _ (step_leads s c h n.0) n.1

-- a read that finds none goes on behind the text
none_more : (xs ys : List ℕ) (s : State) → ends_at_end s ≡ false → next_record default_config s [] [] xs ≡ None
    → next_record default_config s [] [] (xs ++ ys) ≡ next_record default_config (state_behind s xs) [] [] ys
unfolding next_record state_behind
none_more [] ys s b e = refl
none_more (c ∷ rest) ys s b e =
    let n = none_step (is_end (step default_config s c).1) _ _ e in
    elim (step_skips s c b) [
      | inl skips ↦ rw skips (none_more rest ys st.StartRecord refl (rw skips at n.1))
      | inr leads ↦ absurd (none_in rest (step default_config s c).0 _ _ (leads n.0) n.1)
    ]

-- a read that finds one finds it in a longer text too
record Finds (xs ys : List ℕ) (s : State) (f : List (List ℕ)) (g : List ℕ) (p : Read) : Type 0 where
  found : next_record default_config s f g (xs ++ ys) ≡ Some (p.0, p.1, p.2 ++ ys)
  behind : state_behind p.1 p.2 ≡ state_behind s xs

no_end : (s : State) (q p : Read) → is_start s ≡ true → (if ends_at_end s then Some q else None) ≡ Some p → ⊥
no_end s q p h e = let is = start_is s h in cc (rw is at e)

-- the state, the fields and the field at hand behind a byte
abbrev state_after : State → ℕ → State
state_after s c = (step default_config s c).0

abbrev record_after : State → ℕ → List (List ℕ) → List ℕ → List (List ℕ)
record_after s c f g = fields_after (step default_config s c).1 f g

abbrev at_hand : State → ℕ → List ℕ → List ℕ
at_hand s c g = field_after (step default_config s c).1 c g

find_step : (c : ℕ) (rest ys : List ℕ) (s : State) (f : List (List ℕ)) (g : List ℕ) (p : Read) (b : Bool) → is_end (step default_config s c).1 ≡ b
    → (if b then Some (record_after s c f g, state_after s c, rest) else next_record default_config (state_after s c) (record_after s c f g) (at_hand s c g) rest) ≡ Some p
    → (next_record default_config (state_after s c) (record_after s c f g) (at_hand s c g) rest ≡ Some p → Finds rest ys (state_after s c) (record_after s c f g) (at_hand s c g) p)
    → Finds (c ∷ rest) ys s f g p
unfolding next_record state_behind
find_step c rest ys s f g p true is e later =
    let same = some-same (record_after s c f g, state_after s c, rest) p e in
    subst (λ (q : Read). Finds (c ∷ rest) ys s f g q) same (record {
      found = ap (λ b. if b then Some (record_after s c f g, state_after s c, rest ++ ys) else next_record default_config (state_after s c) (record_after s c f g) (at_hand s c g) (rest ++ ys)) is;
      behind = refl;
    })
find_step c rest ys s f g p false is e later =
    let more = later e in
    record {
      found = ap (λ b. if b then Some (record_after s c f g, state_after s c, rest ++ ys) else next_record default_config (state_after s c) (record_after s c f g) (at_hand s c g) (rest ++ ys)) is ∙ more.found;
      behind = more.behind;
    }

find_more : (xs ys : List ℕ) (s : State) (f : List (List ℕ)) (g : List ℕ) (p : Read) → is_start (state_behind s xs) ≡ true → next_record default_config s f g xs ≡ Some p → Finds xs ys s f g p
unfolding next_record state_behind
find_more [] ys s f g p h e = absurd (no_end s _ p h e)
find_more (c ∷ rest) ys s f g p h e = find_step c rest ys s f g p (is_end (step default_config s c).1) refl e (λ later. find_more rest ys (state_after s c) (record_after s c f g) (at_hand s c g) p h later)

-- ---- all records

-- where two reads give the same, so do all behind them
same_reads : (s t : State) (xs ys : List ℕ) → ends_at_end s ≡ false → ends_at_end t ≡ false → next_record default_config s [] [] xs ≡ next_record default_config t [] [] ys → records_after s xs ≡ records_after t ys
same_reads s t xs ys b d same =
    elim (next-cases (next_record default_config t [] [] ys)) [
      | inl none ↦ after-none s xs (same ∙ none) ∙ sym (after-none t ys none)
      | inr some ↦ after-some s xs some.0 b (same ∙ some.1) ∙ sym (after-some t ys some.0 d some.1)
    ]

joined : (n : ℕ) (s : State) (xs ys : List ℕ) → ends_at_end s ≡ false → length xs < n → is_start (state_behind s xs) ≡ true → records_after s (xs ++ ys) ≡ records_after s xs ++ records_after st.StartRecord ys
joined zero s xs ys b short h = absurd (omega arith)
joined (suc n) s xs ys b short h =
    elim (next-cases (next_record default_config s [] [] xs)) [
      | inl none ↦
          let start = start_is (state_behind s xs) h in
          same_reads s st.StartRecord (xs ++ ys) ys b refl (none_more xs ys s b none ∙ ap (λ t. next_record default_config t [] [] ys) start)
          ∙ sym (ap (λ rs. rs ++ records_after st.StartRecord ys) (after-none s xs none))
      | inr some ↦
          let p = some.0 in
          let l = next-leaves xs s [] [] p some.1 in
          let shorter : length p.2 < length xs = next-shorter s xs p b some.1 in
          let more = find_more xs ys s [] [] p h some.1 in
          after-some s (xs ++ ys) (p.0, p.1, p.2 ++ ys) b more.found
          ∙ ap (λ rs. p.0 ∷ rs) (joined n p.1 p.2 ys l.between (omega arith) (ap is_start more.behind ∙ h))
          ∙ sym (ap (λ rs. rs ++ records_after st.StartRecord ys) (after-some s xs p b some.1))
    ]

-- ---- byte order marks

no_mark : (m : Bool) (rest all : List ℕ) → not m ≡ true → (if m then rest else all) ≡ all
no_mark true rest all h = cc h
no_mark false rest all h = refl

stays : (xs more : List ℕ) → is_unmarked xs ≡ true → strip_bom (xs ++ more) ≡ xs ++ more
unfolding strip_bom
stays [] more h = cc h
stays (a ∷ []) more h = cc h
stays (a ∷ b ∷ []) more h = cc h
stays (a ∷ b ∷ c ∷ rest) more h = no_mark (is_bom a b c) (rest ++ more) (a ∷ b ∷ c ∷ (rest ++ more)) h

stays_alone : (xs : List ℕ) → is_unmarked xs ≡ true → strip_bom xs ≡ xs
unfolding strip_bom
stays_alone [] h = cc h
stays_alone (a ∷ []) h = cc h
stays_alone (a ∷ b ∷ []) h = cc h
stays_alone (a ∷ b ∷ c ∷ rest) h = no_mark (is_bom a b c) rest (a ∷ b ∷ c ∷ rest) h

-- whatever stands behind the rest
pub records_of_parts : (bytes rest : List ℕ) → may_cut bytes rest ≡ true → (more : List ℕ) → records_of (bytes ++ (rest ++ more)) ≡ records_of bytes ++ records_of (rest ++ more)
records_of_parts bytes rest may more =
    let first = and_parts (is_unmarked bytes) _ may in
    let second = and_parts (is_unmarked rest) _ first.1 in
    let after = λ (xs : List ℕ). records_after st.StartRecord xs in
    records_of-after (bytes ++ (rest ++ more)) ∙ ap after (stays bytes (rest ++ more) first.0)
    ∙ joined (suc (length bytes)) st.StartRecord bytes (rest ++ more) refl (omega arith) second.1
    ∙ ap (λ xs. after xs ++ after (rest ++ more)) (sym (stays_alone bytes first.0)) ∙ ap (λ xs. after (strip_bom bytes) ++ after xs) (sym (stays rest more second.0))
    ∙ ap (λ rs. rs ++ after (strip_bom (rest ++ more))) (sym (records_of-after bytes)) ∙ ap (λ rs. records_of bytes ++ rs) (sym (records_of-after (rest ++ more)))
