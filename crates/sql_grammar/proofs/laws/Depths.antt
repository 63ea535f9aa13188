-- How the readers of a depth read: nothing at depth 0, and else by those one less deep.
use Rattle.std.proofs.Common.{◌≡◌, ℕ, zero, suc, ◌+◌, ◌-◌, ◌<◌, List, length, None, refl, sym, ap, arith}
use Rattle.sql_tokens.specs.declared.token.Token.{Token}
use Rattle.sql_grammar.specs.Reads.{readers, expr_at, query_at, statement_at, whole, parse}

pub expr_none : (depth : ℕ) (ts : List Token) → depth ≡ 0 → (readers depth).expr ts ≡ None
unfolding readers
expr_none zero ts e = refl
expr_none (suc depth) ts e = absurd (omega arith)

pub expr_below : (depth : ℕ) (ts : List Token) → 0 < depth → (readers depth).expr ts ≡ expr_at (readers (depth - 1)) ts
unfolding readers
expr_below zero ts h = absurd (omega arith)
expr_below (suc depth) ts h = let e : suc depth - 1 ≡ depth = omega arith in ap (λ d. expr_at (readers d) ts) (sym e)

pub query_none : (depth : ℕ) (ts : List Token) → depth ≡ 0 → (readers depth).query ts ≡ None
unfolding readers
query_none zero ts e = refl
query_none (suc depth) ts e = absurd (omega arith)

pub query_below : (depth : ℕ) (ts : List Token) → 0 < depth → (readers depth).query ts ≡ query_at (readers (depth - 1)) ts
unfolding readers
query_below zero ts h = absurd (omega arith)
query_below (suc depth) ts h = let e : suc depth - 1 ≡ depth = omega arith in ap (λ d. query_at (readers d) ts) (sym e)

-- a depth of one more than there are tokens suffices
pub parse_whole : (ts : List Token) → whole (statement_at (readers (length ts + 1)) ts) ≡ parse ts
unfolding parse
parse_whole ts = let same : length ts + 1 ≡ suc (length ts) = omega arith in ap (λ d. whole (statement_at (readers d) ts)) same
