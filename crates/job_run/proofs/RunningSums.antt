-- Sums as bytes come, and at their end.
use Rattle.std.proofs.Common.{◌≡◌, ◌==◌, if◌then◌else◌, fold, Bool, false, inl, inr, ◌≤◌, ◌<◌, ◌+◌, ◌-◌, ◌∙◌, ℕ, List, [], ◌∷◌, ◌++◌, length, take, drop, true, refl, sym, ap, subst, arith, append_assoc, length-append, codes, decimal, ◌^◌}
use Rattle.std.proofs.lemmas.List.{append-nil, length-take-le, take-append-drop}
use Rattle.std.proofs.lemmas.Fmt.{length-decimal-le_wide}
use Rattle.std.proofs.lemmas.List.Sums.{fold-append}
use Rattle.std.proofs.Math.Seq.{take-append-add}
use Rattle.route.specs.Routing.{key_hash, with_byte}
use Rattle.job_text.specs.Ends.{may_cut}
use Rattle.job_text.specs.Lines.{Record, records_of}
use Rattle.job_text.specs.Printed.{commaed, quiet_line}
use Rattle.job_text.proofs.laws.CutFiles.{records_of_parts}
use Rattle.job_text.proofs.laws.Records.{few_records}
use Rattle.job_run.specs.declared.running_sums.Sums.{Sums}
use Rattle.job_run.specs.Loads.{line_count, printed_feed, with_end}
use Rattle.job_run.specs.Sums.{AreSums, IsCut, IsRest, TakesAs}

pub hash_more : (xs ys : List ℕ) → key_hash (xs ++ ys) ≡ fold with_byte (key_hash xs) ys
hash_more xs ys = fold-append with_byte 0 xs ys

ends_onto : (count : ℕ) (ys : List ℕ) → fold with_end count ys ≡ count + line_count ys
ends_onto count [] = omega arith
ends_onto count (y ∷ ys) =
    let more = ends_onto (with_end count y) ys in
    let first = ends_onto (with_end 0 y) ys in
    omega (arith, more, first)

pub ends_more : (xs ys : List ℕ) → line_count (xs ++ ys) ≡ line_count xs + line_count ys
ends_more xs ys = fold-append with_end 0 xs ys ∙ ends_onto (line_count xs) ys

with_one : (count : ℕ) (b : Bool) → count + (if b then 1 else 0) ≤ count + 1
with_one count true = omega arith
with_one count false = omega arith

few_onto : (count : ℕ) (ys : List ℕ) → fold with_end count ys ≤ count + length ys
few_onto count [] = omega arith
few_onto count (y ∷ ys) = let more = few_onto (with_end count y) ys in let one = with_one count (y == 10) in omega (arith, more, one)

pub few_ends : (xs : List ℕ) → line_count xs ≤ length xs
few_ends xs = omega (arith, few_onto 0 xs)

-- a quiet line is short
pub few_quiet : (lines : ℕ) → lines < 2 ^ 64 → length (quiet_line (lines ∷ [])) ≤ 32
few_quiet lines small =
    let digits = length-decimal-le_wide 20 lines (omega arith) (omega (arith, small)) (omega (arith, small)) in
    let a = length-append (commaed (lines ∷ [])) (codes "\n") in
    let b = length-append (decimal lines) (commaed []) in
    omega (arith, digits, a, b)

none_in : (rs : List Record) → length rs ≤ 0 → rs ≡ []
none_in [] few = refl
none_in (r ∷ rs) few = absurd (omega (arith, few))

pub none_read : records_of [] ≡ []
none_read = none_in (records_of []) (few_records [])

-- no bytes
pub no_sums : (new : Sums) → new.block ≡ [] → new.held ≡ [] → TakesAs new.taking [] → new.count ≡ 0 → new.ends ≡ 0 → new.hash ≡ 0 → AreSums new []
no_sums new block held taken count ends hash = record {
  gone = [];
  start = [];
  other = [];
  parts = sym (λ i. block i ++ held i);
  block_is = block;
  cut = λ more. sym (ap (λ rs. rs ++ records_of more) none_read);
  taken = subst (TakesAs new.taking) (sym none_read) taken;
  count_is = count;
  few = omega arith;
  ends_are = ends;
  hash_is = hash;
  left = inl refl;
}

-- ---- bytes that go

module _ (old : Sums) (bytes : List ℕ) (s : AreSums old bytes) where
  all_gone : records_of (s.gone ++ old.block) ≡ records_of s.gone ++ records_of old.block
  all_gone = ap (λ xs. records_of (s.gone ++ xs)) s.block_is ∙ s.cut s.other ∙ ap (λ xs. records_of s.gone ++ records_of xs) (sym s.block_is)

  -- the records that are gone are no more than the bytes
  pub few_gone : (part : ℕ) → part ≡ length old.block → old.count + length old.block ≤ 67108864 → length (records_of s.gone) + part ≤ 67108864
  few_gone part is within = omega (arith, is, few_records s.gone, s.count_is, within)

  pub ends_fit : (more part : ℕ) → more ≤ part → part ≡ length old.block → old.count + length old.block ≤ 67108864 → old.ends + more ≤ 67108864
  ends_fit more part few is within = omega (arith, few, is, within, s.ends_are, few_ends s.gone, s.count_is)

  module _ (room : 32 ≤ length old.held) (within : old.count + length old.block ≤ 67108864) (cuts : may_cut old.block (take (length old.held - 32) old.held) ≡ true) where
    abbrev start : List ℕ
    start = take (length old.held - 32) old.held

    abbrev other : List ℕ
    other = drop (length old.held - 32) old.held

    halves : old.held ≡ start ++ other
    halves = sym (take-append-drop (length old.held - 32) old.held)

    cut_again : IsCut (s.gone ++ old.block) start
    cut_again more =
        let rest = start ++ more in
        ap records_of (append_assoc s.gone old.block rest ∙ ap (λ xs. s.gone ++ (xs ++ rest)) s.block_is ∙ ap (λ xs. s.gone ++ xs) (append_assoc s.start s.other rest))
        ∙ s.cut (s.other ++ rest)
        ∙ ap (λ xs. records_of s.gone ++ records_of xs) (sym (append_assoc s.start s.other rest) ∙ ap (λ xs. xs ++ rest) (sym s.block_is))
        ∙ ap (λ rs. records_of s.gone ++ rs) (records_of_parts old.block start cuts more)
        ∙ sym (append_assoc (records_of s.gone) (records_of old.block) (records_of rest)) ∙ ap (λ rs. rs ++ records_of rest) (sym all_gone)

    pub let_go : (new : Sums) → new.block ≡ old.held → new.held ≡ [] → new.count ≡ old.count + length old.block → new.ends ≡ old.ends + line_count old.block → new.hash ≡ old.hash
        → ((records : List Record) → TakesAs old.taking records → TakesAs new.taking (records ++ records_of old.block)) → AreSums new bytes
    let_go new block held count ends hash takes =
        let many = length-append s.gone old.block in
        let own = ap length halves in
        let both = length-append start other in
        let cut_len = length-take-le (length old.held - 32) old.held (omega arith) in
        record {
          gone = s.gone ++ old.block;
          start = start;
          other = other;
          parts = s.parts ∙ sym (append_assoc s.gone old.block old.held) ∙ ap (λ xs. (s.gone ++ old.block) ++ xs) (sym (append-nil old.held) ∙ sym (λ i. block i ++ held i));
          block_is = block ∙ halves;
          cut = cut_again;
          taken = subst (TakesAs new.taking) (sym all_gone) (takes (records_of s.gone) s.taken);
          count_is = omega (arith, count, s.count_is, many);
          few = omega (arith, s.count_is, many, within);
          ends_are = let sum = ends_more s.gone old.block in omega (arith, ends, s.ends_are, sum);
          hash_is = hash ∙ s.hash_is;
          left = inr (omega (arith, own, both, cut_len, room));
        }

  -- ---- bytes that come

  pub keep : (new : Sums) (piece more : List ℕ) → new.block ++ new.held ≡ (old.block ++ old.held) ++ piece → new.block ≡ old.block ++ more → new.hash ≡ fold with_byte old.hash piece → new.taking ≡ old.taking
      → new.count ≡ old.count → new.ends ≡ old.ends → AreSums new (bytes ++ piece)
  keep new piece more whole first hash taking count ends =
      let n = length-append s.other more in
      record {
        gone = s.gone;
        start = s.start;
        other = s.other ++ more;
        parts = ap (λ xs. xs ++ piece) s.parts ∙ append_assoc s.gone (old.block ++ old.held) piece ∙ ap (λ xs. s.gone ++ xs) (sym whole);
        block_is = first ∙ ap (λ xs. xs ++ more) s.block_is ∙ append_assoc s.start s.other more;
        cut = s.cut;
        taken = subst (λ t. TakesAs t (records_of s.gone)) (sym taking) s.taken;
        count_is = count ∙ s.count_is;
        few = s.few;
        ends_are = ends ∙ s.ends_are;
        hash_is = hash ∙ ap (λ h. fold with_byte h piece) s.hash_is ∙ sym (hash_more bytes piece);
        left = elim s.left [ inl none ↦ inl none | inr few ↦ inr (omega (arith, few, n)) ];
      }

  -- ---- the end

  module _ (tail : ℕ) (small : tail ≤ 32) where
    abbrev kept : List ℕ
    kept = old.block ++ old.held

    abbrev last_part : List ℕ
    last_part = take (length kept - tail) kept

    -- all but the quiet line
    cut_feed : (all : List ℕ) → all ≡ s.gone ++ kept → tail ≤ length kept → take (length all - tail) all ≡ s.gone ++ last_part
    cut_feed all is few =
        let n = length-append s.gone kept in
        let m = ap length is in
        let same : length all - tail ≡ length s.gone + (length kept - tail) = omega (arith, n, m, few) in
        ap (λ k. take k all) same ∙ ap (take (length s.gone + (length kept - tail))) is ∙ take-append-add s.gone kept (length kept - tail)

    block_long : length old.block ≡ length s.start + length s.other
    block_long = ap length s.block_is ∙ length-append s.start s.other

    kept_long : length kept ≡ length old.block + length old.held
    kept_long = length-append old.block old.held

    pub feed_is : (lines : ℕ) → tail ≡ length (quiet_line (lines ∷ [])) → printed_feed lines bytes ≡ s.gone ++ last_part
    feed_is lines is_tail =
        ap (λ n. take (length bytes - n) bytes) (sym is_tail)
        ∙ elim s.left [
          | inl none ↦ ap (λ all. take (length all - tail) all) (s.parts ∙ ap (λ xs. xs ++ kept) none) ∙ sym (ap (λ xs. xs ++ last_part) none)
          | inr few ↦ cut_feed bytes s.parts (omega (arith, few, small, block_long, kept_long))
        ]

    joined_far : 32 ≤ length s.other → records_of (s.gone ++ last_part) ≡ records_of s.gone ++ records_of last_part
    joined_far few =
        let tail_part = s.other ++ old.held in
        let n = length-append s.other old.held in
        let all : kept ≡ s.start ++ tail_part = ap (λ xs. xs ++ old.held) s.block_is ∙ append_assoc s.start s.other old.held in
        let same : length kept - tail ≡ length s.start + (length tail_part - tail) = omega (arith, n, few, small, block_long, kept_long) in
        let part : last_part ≡ s.start ++ take (length tail_part - tail) tail_part =
        ap (λ k. take k kept) same ∙ ap (take (length s.start + (length tail_part - tail))) all ∙ take-append-add s.start tail_part (length tail_part - tail) in
        ap (λ xs. records_of (s.gone ++ xs)) part ∙ s.cut (take (length tail_part - tail) tail_part) ∙ ap (λ xs. records_of s.gone ++ records_of xs) (sym part)

    joined_near : (gone : List ℕ) → gone ≡ [] → records_of (gone ++ last_part) ≡ records_of gone ++ records_of last_part
    joined_near gone none = ap (λ xs. records_of (xs ++ last_part)) none ∙ sym (ap (λ xs. records_of xs ++ records_of last_part) none ∙ ap (λ rs. rs ++ records_of last_part) none_read)

    pub rest_is : (rest : List ℕ) → rest ≡ last_part → IsRest old.taking old.count rest s.gone
    rest_is rest is = record {
      taken = s.taken;
      count_is = s.count_is;
      joined = subst (λ xs. records_of (s.gone ++ xs) ≡ records_of s.gone ++ records_of xs) (sym is) (elim s.left [ inl none ↦ joined_near s.gone none | inr few ↦ joined_far few ]);
    }
