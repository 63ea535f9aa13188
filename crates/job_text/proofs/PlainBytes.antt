-- Where bytes leave a reader that are no quotes and no ends of lines.
use Rattle.std.proofs.Common.{◌≡◌, ◌==◌, ◌&&◌, ℕ, true, false, not, refl}
use Rattle.std.proofs.lemmas.Bool.{and_parts, ne_eqb, not-true}
use Rattle.csv.specs.Machine.{step}
use Rattle.csv.specs.Reading.{default_config}
use Rattle.csv.specs.declared.parser.State.TheVariants as st
use Rattle.job_text.specs.declared.counting.Place.{Place}
use Rattle.job_text.specs.declared.counting.Place.TheVariants.{RecordStart, BehindReturn, FieldStart, Plain, Quoted, BehindQuote}
use Rattle.job_text.specs.Ends.{is_plain, state_at}

record IsOther (c : ℕ) : Type 0 where
  quote : (c == 34) ≡ false
  back : (c == 13) ≡ false
  feed : (c == 10) ≡ false

other : (c : ℕ) → is_plain c ≡ true → IsOther c
other c plain =
    let first = and_parts (not (c == 34)) (not (c == 13) && not (c == 10)) plain in
    let ends = and_parts (not (c == 13)) (not (c == 10)) first.1 in
    record { quote = not-true (c == 34) first.0; back = not-true (c == 13) ends.0; feed = not-true (c == 10) ends.1 }

pub quoted_stays : (place : Place) (c : ℕ) → is_plain c ≡ true → place ≡ Quoted → st.InQuoted ≡ (step default_config (state_at place) c).0
quoted_stays place c plain is = let o = other c plain in rw (is, o.quote) refl

pub comma_starts : (place : Place) (c : ℕ) → c ≡ 44 → (place ≡ Quoted → ⊥) → st.StartField ≡ (step default_config (state_at place) c).0
comma_starts RecordStart c is n = rw is refl
comma_starts BehindReturn c is n = rw is refl
comma_starts FieldStart c is n = rw is refl
comma_starts Plain c is n = rw is refl
comma_starts Quoted c is n = absurd (n refl)
comma_starts BehindQuote c is n = rw is refl

pub other_plain : (place : Place) (c : ℕ) → is_plain c ≡ true → (c ≡ 44 → ⊥) → (place ≡ Quoted → ⊥) → st.InField ≡ (step default_config (state_at place) c).0
other_plain RecordStart c plain apart n = let o = other c plain in let comma = ne_eqb c 44 apart in rw (o.back, o.feed, o.quote, comma) refl
other_plain BehindReturn c plain apart n = let o = other c plain in let comma = ne_eqb c 44 apart in rw (o.feed, o.back, o.quote, comma) refl
other_plain FieldStart c plain apart n = let o = other c plain in let comma = ne_eqb c 44 apart in rw (o.quote, comma, o.back, o.feed) refl
other_plain Plain c plain apart n = let o = other c plain in let comma = ne_eqb c 44 apart in rw (comma, o.back, o.feed) refl
other_plain Quoted c plain apart n = absurd (n refl)
other_plain BehindQuote c plain apart n = let o = other c plain in let comma = ne_eqb c 44 apart in rw (o.quote, comma, o.back, o.feed) refl
