-- The loop over the fronts of a text.
use Rattle.std.proofs.Common.{◌≡◌, ℕ, zero, suc, ◌<◌, true, false, List, [], ◌∷◌, ◌++◌, sym, ap, ◌∙◌, length, append_assoc, append-nil, arith}
use Rattle.sql_tokens.specs.declared.token.Token.{Token}
use Rattle.sql_tokens.specs.Tokens.{nothing, bad, gap, token, Read, read_on, read_fronts, tokens_of, front}

-- a read with these tokens before its own
abbrev pub after : List Token → Read → Read
after ts r = record { tokens = ts ++ r.tokens; is_whole = r.is_whole }

-- these tokens were read, and the rest is still to be read
pub record ReadFrom (start : List ℕ) (ts : List Token) (rest : List ℕ) : Type 0 where
  pub turns : ℕ
  pub enough : length rest < turns
  pub same : after ts (read_fronts turns rest) ≡ tokens_of start

pub read_start : (start : List ℕ) (ts : List Token) → ts ≡ [] → ReadFrom start ts start
read_start start ts e = record {
  turns = suc (length start);
  enough = omega arith;
  same = ap (λ a. after a (tokens_of start)) e;
}

pub read_gap : (start : List ℕ) (ts : List Token) (rest rest' : List ℕ) → ReadFrom start ts rest → gap rest' ≡ front rest → length rest' < length rest → ReadFrom start ts rest'
unfolding read_fronts
read_gap start ts rest rest' from is less = go from.turns from.enough from.same
  where
    go : (n : ℕ) → length rest < n → after ts (read_fronts n rest) ≡ tokens_of start → ReadFrom start ts rest'
    go zero h same = absurd (omega arith)
    go (suc n) h same = record {
      turns = n;
      enough = omega arith;
      same = ap (λ f. after ts (read_on (read_fronts n) f)) is ∙ same;
    }

pub read_token : (start : List ℕ) (ts ts' : List Token) (t : Token) (rest rest' : List ℕ) → ReadFrom start ts rest → token t rest' ≡ front rest → length rest' < length rest
    → ts' ≡ ts ++ t ∷ [] → ReadFrom start ts' rest'
unfolding read_fronts
read_token start ts ts' t rest rest' from is less pushed = go from.turns from.enough from.same
  where
    go : (n : ℕ) → length rest < n → after ts (read_fronts n rest) ≡ tokens_of start → ReadFrom start ts' rest'
    go zero h same = absurd (omega arith)
    go (suc n) h same = record {
      turns = n;
      enough = omega arith;
      same = ap (λ a. after a (read_fronts n rest')) pushed
          ∙ ap (λ a. let r : Read = record { tokens = a; is_whole = (read_fronts n rest').is_whole } in r) (append_assoc ts (t ∷ []) (read_fronts n rest').tokens)
          ∙ ap (λ f. after ts (read_on (read_fronts n) f)) is ∙ same;
    }

pub read_end : (start : List ℕ) (ts : List Token) (rest : List ℕ) → ReadFrom start ts rest → nothing ≡ front rest → record { tokens = ts; is_whole = true } ≡ tokens_of start
unfolding read_fronts
read_end start ts rest from is = go from.turns from.enough from.same
  where
    go : (n : ℕ) → length rest < n → after ts (read_fronts n rest) ≡ tokens_of start → record { tokens = ts; is_whole = true } ≡ tokens_of start
    go zero h same = absurd (omega arith)
    go (suc n) h same =
        ap (λ a. let r : Read = record { tokens = a; is_whole = true } in r) (sym (append-nil ts))
        ∙ ap (λ f. after ts (read_on (read_fronts n) f)) is ∙ same

pub read_bad : (start : List ℕ) (ts : List Token) (rest : List ℕ) → ReadFrom start ts rest → bad ≡ front rest → record { tokens = ts; is_whole = false } ≡ tokens_of start
unfolding read_fronts
read_bad start ts rest from is = go from.turns from.enough from.same
  where
    go : (n : ℕ) → length rest < n → after ts (read_fronts n rest) ≡ tokens_of start → record { tokens = ts; is_whole = false } ≡ tokens_of start
    go zero h same = absurd (omega arith)
    go (suc n) h same =
        ap (λ a. let r : Read = record { tokens = a; is_whole = false } in r) (sym (append-nil ts))
        ∙ ap (λ f. after ts (read_on (read_fronts n) f)) is ∙ same
