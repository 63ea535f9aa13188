-- Laws of pieces that are written one after the other.
use Rattle.std.proofs.Common.{◌≡◌, ℕ, zero, suc, ◌<◌, ◌+◌, ◌-◌, List, [], ◌++◌, Option, sym, ◌∙◌, ap, subst, append_assoc, arith}
use Rattle.ct_io.specs.Written.{Appends, AppendsUpTo, AppendsPart}
use Rattle.ct_io.proofs.laws.Appending.{appends_both, up_to_end}
use Rattle.ct_io.specs.Copies.{copies_text}

-- one piece more
pub up_to_piece : (a b c : Option (List ℕ)) (whole rest piece last : List ℕ) → AppendsUpTo a b whole rest → rest ≡ piece ++ last → Appends b c piece → AppendsUpTo a c whole last
up_to_piece a b c whole rest piece last so_far is more = record {
  part = so_far.part ++ piece;
  split = so_far.split ∙ ap (λ (l : List ℕ). so_far.part ++ l) is ∙ sym (append_assoc so_far.part piece last);
  appends = appends_both so_far.appends more;
}

-- a first part of one piece more
pub part_in_piece : (a b c : Option (List ℕ)) (whole rest piece last : List ℕ) → AppendsUpTo a b whole rest → rest ≡ piece ++ last → AppendsPart b c piece → AppendsPart a c whole
part_in_piece a b c whole rest piece last so_far is more = record {
  rest = more.rest ++ last;
  up_to = record {
    part = so_far.part ++ more.up_to.part;
    split = so_far.split
        ∙ ap (λ (l : List ℕ). so_far.part ++ l) (is ∙ ap (λ (l : List ℕ). l ++ last) more.up_to.split ∙ append_assoc more.up_to.part more.rest last)
        ∙ sym (append_assoc so_far.part more.up_to.part (more.rest ++ last));
    appends = appends_both so_far.appends more.up_to.appends;
  };
}

-- no piece more
pub whole_at_end : (a b : Option (List ℕ)) (whole rest : List ℕ) → AppendsUpTo a b whole rest → rest ≡ [] → Appends a b whole
whole_at_end a b whole rest so_far is = up_to_end (subst (λ (l : List ℕ). AppendsUpTo a b whole l) is so_far)

-- the first of some copies
one_copy : (left rest : ℕ) (line : List ℕ) → left ≡ rest + 1 → copies_text left line ≡ line ++ copies_text rest line
one_copy zero rest line is = absurd (omega (arith, is))
one_copy (suc left) rest line is = let same : left ≡ rest = omega (arith, is) in ap (λ n. line ++ copies_text n line) same

first_copy : (left : ℕ) (line : List ℕ) → 0 < left → copies_text left line ≡ line ++ copies_text (left - 1) line
first_copy left line some = one_copy left (left - 1) line (omega (arith, some))

pub up_to_copy : {a b c : Option (List ℕ)} {whole line : List ℕ} {left : ℕ} → 0 < left → AppendsUpTo a b whole (copies_text left line) → Appends b c line → AppendsUpTo a c whole (copies_text (left - 1) line)
up_to_copy {a = a} {b = b} {c = c} {whole = whole} {line = line} {left = left} some so_far more = up_to_piece a b c whole _ line (copies_text (left - 1) line) so_far (first_copy left line some) more

pub part_in_copy : {a b c : Option (List ℕ)} {whole line : List ℕ} {left : ℕ} → 0 < left → AppendsUpTo a b whole (copies_text left line) → AppendsPart b c line → AppendsPart a c whole
part_in_copy {a = a} {b = b} {c = c} {whole = whole} {line = line} {left = left} some so_far more = part_in_piece a b c whole _ line (copies_text (left - 1) line) so_far (first_copy left line some) more

pub whole_copies : {a b : Option (List ℕ)} {whole : List ℕ} (line : List ℕ) → AppendsUpTo a b whole (copies_text 0 line) → Appends a b whole
whole_copies line so_far = up_to_end so_far
