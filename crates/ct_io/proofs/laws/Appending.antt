-- Laws of written bytes: what is appended piece by piece.
use Rattle.std.proofs.Common.{◌≡◌, ℕ, List, [], ◌++◌, Option, Some, None, refl, sym, ◌∙◌, ap, append_assoc}
use Rattle.std.proofs.lemmas.List.{append-nil}
use Rattle.ct_io.specs.Written.{Appends, AppendsWhereTold, AppendsUpTo, AppendsPart}

nothing : (o : Option (List ℕ)) → AppendsWhereTold o o []
nothing None = tt
nothing (Some old) = sym (append-nil old)

joined : (a b c : Option (List ℕ)) (x y : List ℕ) → AppendsWhereTold a b x → AppendsWhereTold b c y → AppendsWhereTold a c (x ++ y)
joined a b None x y p q = tt
joined a None (Some c) x y p q = absurd q
joined None (Some b) (Some c) x y p q = absurd p
joined (Some a) (Some b) (Some c) x y p q = q ∙ ap (λ (l : List ℕ). l ++ y) p ∙ append_assoc a x y

pub appends_nothing : (o : Option (List ℕ)) → Appends o o []
appends_nothing o = record { told = nothing o }

pub appends_both : {a b c : Option (List ℕ)} {x y : List ℕ} → Appends a b x → Appends b c y → Appends a c (x ++ y)
appends_both {a = a} {b = b} {c = c} {x = x} {y = y} p q = record { told = joined a b c x y p.told q.told }

pub up_to_start : (o : Option (List ℕ)) (whole : List ℕ) → AppendsUpTo o o whole whole
up_to_start o whole = record { part = []; split = refl; appends = appends_nothing o }

pub up_to_more : {a b c : Option (List ℕ)} {whole rest last : List ℕ} → AppendsUpTo a b whole rest → AppendsUpTo b c rest last → AppendsUpTo a c whole last
up_to_more {last = last} p q = record {
  part = p.part ++ q.part;
  split = p.split ∙ ap (λ (l : List ℕ). p.part ++ l) q.split ∙ sym (append_assoc p.part q.part last);
  appends = appends_both p.appends q.appends;
}

pub up_to_end : {a b : Option (List ℕ)} {whole : List ℕ} → AppendsUpTo a b whole [] → Appends a b whole
up_to_end {a = a} {b = b} p =
    let whole_is : _ ≡ p.part = p.split ∙ append-nil p.part in
    rw whole_is p.appends

-- nothing more after a part
pub part_then_nothing : {a b c : Option (List ℕ)} {whole rest : List ℕ} → AppendsUpTo a b whole rest → Appends b c [] → AppendsPart a c whole
part_then_nothing {rest = rest} p q = record {
  rest = rest;
  up_to = record { part = p.part ++ []; split = p.split ∙ ap (λ (l : List ℕ). l ++ rest) (sym (append-nil p.part)); appends = appends_both p.appends q };
}

pub part_of_whole : {a b : Option (List ℕ)} {whole : List ℕ} → Appends a b whole → AppendsPart a b whole
part_of_whole {whole = whole} p = record { rest = []; up_to = record { part = whole; split = sym (append-nil whole); appends = p } }

-- nothing is a first part of any bytes
pub part_none : (o : Option (List ℕ)) (bytes : List ℕ) → AppendsPart o o bytes
part_none o bytes = record { rest = bytes; up_to = up_to_start o bytes }
