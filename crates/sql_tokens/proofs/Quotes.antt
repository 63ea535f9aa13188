-- The loop over the bytes within quotes.
use Rattle.std.proofs.Common.{◌≡◌, ℕ, ◌≤◌, ◌<◌, Bool, true, false, ◌==◌, List, [], ◌∷◌, ◌++◌, Option, Some, None, refl, sym, ap, ◌∙◌, length, append_assoc, arith}
use Rattle.std.specs.Prelude.{option_map, if◌then◌else◌}
use Rattle.sql_tokens.specs.Tokens.{quoted}
use Rattle.sql_tokens.specs.Fronts.{quoted_byte}

-- what was read within the quotes, with these bytes before it
abbrev pub behind : List ℕ → Option (List ℕ × List ℕ) → Option (List ℕ × List ℕ)
behind bs r = option_map (λ r. (bs ++ r.0, r.1)) r

-- these bytes were read within the quotes, and the rest is still to be read
pub record QuotedFrom (quote : ℕ) (start bs rest : List ℕ) : Type 0 where
  pub same : behind bs (quoted quote rest) ≡ quoted quote start
  pub shorter : length rest ≤ length start

behind-nil : (r : Option (List ℕ × List ℕ)) → behind [] r ≡ r
behind-nil None = refl
behind-nil (Some r) = refl

behind-behind : (bs : List ℕ) (b : ℕ) (r : Option (List ℕ × List ℕ)) → behind (bs ++ b ∷ []) r ≡ behind bs (option_map (λ r. (b ∷ r.0, r.1)) r)
behind-behind bs b None = refl
behind-behind bs b (Some r) = ap (λ a. Some (a, r.1)) (append_assoc bs (b ∷ []) r.0)

pub quoted_start : (quote : ℕ) (start bs : List ℕ) → bs ≡ [] → QuotedFrom quote start bs start
quoted_start quote start bs e = record {
  same = ap (λ a. behind a (quoted quote start)) e ∙ behind-nil _;
  shorter = omega arith;
}

-- a byte within the quotes goes before what is read behind it
before : ℕ × List ℕ → ℕ → Option (List ℕ × List ℕ)
before p quote = option_map (λ r. (p.0 ∷ r.0, r.1)) (quoted quote p.1)

same_front : (p q : ℕ × List ℕ) (quote : ℕ) → Some p ≡ Some q → before q quote ≡ before p quote
same_front p q quote e = let k : q ≡ p = cc in ap (λ a. before a quote) k

one : (t : Bool) (quote c b : ℕ) (rest : List ℕ) → ◌≡◌ {A = Option (ℕ × List ℕ)} (Some (b, rest)) (if t then None else Some (c, [])) → ◌≡◌ {A = Option (List ℕ × List ℕ)} (if t then Some ([], []) else None) (option_map (λ r. (b ∷ r.0, r.1)) (quoted quote rest))
unfolding before
one true quote c b rest e = absurd (cc)
one false quote c b rest e = same_front (b, rest) (c, []) quote e

two : (t u : Bool) (quote c d b : ℕ) (more rest : List ℕ) → ◌≡◌ {A = Option (ℕ × List ℕ)} (Some (b, rest)) (if t then (if u then Some (quote, more) else None) else Some (c, d ∷ more))
    → ◌≡◌ {A = Option (List ℕ × List ℕ)} (if t then (if u then option_map (λ r. (quote ∷ r.0, r.1)) (quoted quote more) else Some ([], d ∷ more)) else option_map (λ r. (c ∷ r.0, r.1)) (quoted quote (d ∷ more)))
    (option_map (λ r. (b ∷ r.0, r.1)) (quoted quote rest))
unfolding before
two true true quote c d b more rest e = same_front (b, rest) (quote, more) quote e
two true false quote c d b more rest e = absurd (cc)
two false u quote c d b more rest e = same_front (b, rest) (c, d ∷ more) quote e

pub quoted_step : (quote : ℕ) (text rest : List ℕ) (b : ℕ) → Some (b, rest) ≡ quoted_byte quote text → quoted quote text ≡ option_map (λ r. (b ∷ r.0, r.1)) (quoted quote rest)
quoted_step quote [] rest b e = absurd (cc)
quoted_step quote (c ∷ []) rest b e = one (c == quote) quote c b rest e
quoted_step quote (c ∷ d ∷ more) rest b e = two (c == quote) (d == quote) quote c d b more rest e

pub quoted_more : (quote : ℕ) (start bs bs' text rest : List ℕ) (b : ℕ) → QuotedFrom quote start bs text → Some (b, rest) ≡ quoted_byte quote text → length rest < length text → bs' ≡ bs ++ b ∷ []
    → QuotedFrom quote start bs' rest
quoted_more quote start bs bs' text rest b from is less pushed = record {
  same = ap (λ a. behind a (quoted quote rest)) pushed ∙ behind-behind bs b (quoted quote rest) ∙ ap (behind bs) (sym (quoted_step quote text rest b is)) ∙ from.same;
  shorter = omega (arith, from.shorter);
}
