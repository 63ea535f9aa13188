-- What tells nothing, and the partials of calls, one call after the other.
use Rattle.std.proofs.Common.{◌≡◌, ℕ, ◌<◌, ◌≤◌, ◌+◌, ◌&&◌, not, Bool, true, false, List, [], ◌∷◌, ◌++◌, length, drop, Option, refl, sym, ap, ◌∙◌, arith, append_assoc, append-nil, slice_index_or}
use Rattle.std.specs.Prelude.{is_some}
use Rattle.std.proofs.lemmas.List.{drop_more, drop_all}
use Rattle.ct_value.specs.Bag.{items}
use Rattle.ct_value.specs.declared.value.Value.{Value}
use Rattle.ct_field.specs.Typed.{is_null}
use Rattle.ct_change.specs.Changelog.{Rows}
use Rattle.rel_algebra.specs.declared.agg.AggCall.{AggCall}
use Rattle.rel_algebra.specs.Aggregates.{Values, known, first_value, last_value, values_of}
use Rattle.agg_fns.specs.declared.local_acc.LocalAcc.TheVariants.{Least, Greatest}
use Rattle.agg_fns.specs.ComeAndGone.{StandsForBoth}
use Rattle.agg_fns.specs.Partial.{partial_of}
use Rattle.agg_fns.specs.Reading.{Part, parts_by, is_blank, all_blank}
use Rattle.agg_fns.proofs.laws.Readings.{first_blank, last_blank}
use Rattle.phase_rules.specs.LocalGrouping.{parts_of_calls, partials_of_calls}
use Rattle.phase_rules.proofs.laws.LocalWorths.{as_many}
use Rattle.op_local.specs.declared.tally.Tally.{Tally}
use Rattle.op_local.specs.Amounting.{calls}

-- ---- the least and the greatest value

and_true : (b : Bool) → b ≡ (b && true)
and_true true = refl
and_true false = refl

module _ (call : AggCall) (kept : Option Value) (come gone : Values) where
  abbrev told : AggCall → Bool
  told c = all_blank (parts_by c) (partial_of c come gone)

  pub least_blank : StandsForBoth call (Least kept) come gone → not (is_some kept) ≡ all_blank (parts_by call) (partial_of call come gone)
  least_blank (is, none_gone, kept_is) = ap (λ o. not (is_some o)) kept_is ∙ sym (first_blank come) ∙ and_true (is_null (first_value (items (known come)))) ∙ sym (ap told is)

  pub greatest_blank : StandsForBoth call (Greatest kept) come gone → not (is_some kept) ≡ all_blank (parts_by call) (partial_of call come gone)
  greatest_blank (is, none_gone, kept_is) = ap (λ o. not (is_some o)) kept_is ∙ sym (last_blank come) ∙ and_true (is_null (last_value (items (known come)))) ∙ sym (ap told is)

-- ---- many

all_blank-append : (ps qs : List Part) (xs us : List Value) → length ps ≡ length xs → all_blank (ps ++ qs) (xs ++ us) ≡ (all_blank ps xs && all_blank qs us)
all_blank-append [] qs [] us l = refl
all_blank-append [] qs (x ∷ xs) us l = absurd (omega (arith, l))
all_blank-append (p ∷ ps) qs [] us l = absurd (omega (arith, l))
all_blank-append (p ∷ ps) qs (x ∷ xs) us l = ap (λ b. is_blank p x && b) (all_blank-append ps qs xs us (omega (arith, l))) ∙ sym (and_assoc (is_blank p x) (all_blank ps xs) (all_blank qs us))
  where
    and_assoc : (a b c : Bool) → ((a && b) && c) ≡ (a && (b && c))
    and_assoc true b c = refl
    and_assoc false b c = refl

module _ (come gone : Rows) where
  -- whether tallies have nothing to tell of rows
  abbrev pub blank : Tally → Bool
  blank tally = all_blank (parts_by tally.agg.call) (partial_of tally.agg.call (values_of tally.agg come) (values_of tally.agg gone))

  abbrev pub blanks : List Tally → Bool
  blanks tallies = all_blank (parts_of_calls (calls tallies)) (partials_of_calls (calls tallies) come gone)

  blanks_first : (tally : Tally) (tallies : List Tally) → blanks (tally ∷ tallies) ≡ (blank tally && blanks tallies)
  blanks_first tally tallies = all_blank-append (parts_by tally.agg.call) (parts_of_calls (calls tallies)) (partial_of tally.agg.call (values_of tally.agg come) (values_of tally.agg gone)) (partials_of_calls (calls tallies) come gone) (as_many tally.agg.call (values_of tally.agg come) (values_of tally.agg gone))

  module _ (tallies : List Tally) (n : ℕ) (d : Tally) (l : n < length tallies) where
    blanks_next : blanks (drop n tallies) ≡ (blank (slice_index_or tallies n d) && blanks (drop (n + 1) tallies))
    blanks_next = ap blanks (drop_more tallies n d l) ∙ blanks_first (slice_index_or tallies n d) (drop (n + 1) tallies)

    -- one that has none leaves it to the others
    pub still_blank : blank (slice_index_or tallies n d) ≡ true → blanks (drop n tallies) ≡ blanks (drop (n + 1) tallies)
    still_blank e = blanks_next ∙ ap (λ b. b && blanks (drop (n + 1) tallies)) e

    pub not_blank : blank (slice_index_or tallies n d) ≡ false → blanks (drop n tallies) ≡ false
    not_blank e = blanks_next ∙ ap (λ b. b && blanks (drop (n + 1) tallies)) e

  pub none_left : (tallies : List Tally) (n : ℕ) → length tallies ≤ n → blanks (drop n tallies) ≡ true
  none_left tallies n l = ap blanks (drop_all n tallies l)

  -- ---- partials

  abbrev pub partials : List Tally → List Value
  partials tallies = partials_of_calls (calls tallies) come gone

  pub partials_next : (whole more : List Value) (tallies : List Tally) (n : ℕ) (d : Tally) → n < length tallies
      → more ≡ partial_of (slice_index_or tallies n d).agg.call (values_of (slice_index_or tallies n d).agg come) (values_of (slice_index_or tallies n d).agg gone)
      → (whole ++ more) ++ partials (drop (n + 1) tallies) ≡ whole ++ partials (drop n tallies)
  partials_next whole more tallies n d l e =
      append_assoc whole more (partials (drop (n + 1) tallies))
      ∙ ap (λ m. whole ++ (m ++ partials (drop (n + 1) tallies))) e
      ∙ sym (ap (λ ts. whole ++ partials ts) (drop_more tallies n d l))

  pub partials_end : (whole : List Value) (tallies : List Tally) (n : ℕ) → length tallies ≤ n → whole ++ partials (drop n tallies) ≡ whole
  partials_end whole tallies n l = ap (λ ts. whole ++ partials ts) (drop_all n tallies l) ∙ append-nil whole
