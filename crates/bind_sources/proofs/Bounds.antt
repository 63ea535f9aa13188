-- The condition of a join: refused as a whole, or split.
use Rattle.std.proofs.Common.{◌≡◌, ℕ, List, [], ◌∷◌, ◌++◌, Option, Some, Ok, Err, length, refl, sym, ap, ◌∙◌}
use Rattle.ct_value.specs.declared.codes.ScriptCode.{ScriptCode}
use Rattle.ct_expr.specs.Expr.{Expr}
use Rattle.rel_algebra.specs.Rel as r
use Rattle.rel_algebra.specs.declared.join.JoinKind.{JoinKind}
use Rattle.rel_algebra.specs.declared.join.Pair.{Pair}
use Rattle.sql_syntax.specs.Tree.{Tree}
use Rattle.query_answer.specs.Answer.{conjuncts}
use Rattle.query_answer.specs.Joins.{rest_of, join_scope}
use Rattle.query_answer.specs.Names.{Scope, find}
use Rattle.binding.specs.Checked.{Checked, ◌>>=◌}
use Rattle.binding.specs.Expressions.{bound_over, each_bound, conditions}
use Rattle.binding.specs.Nodes.{Bound}
use Rattle.binding.specs.Queries.{Relation, all_of, rest_bound, on_bound}
use Rattle.bind_sources.specs.Splits.{accepted, accepted_tests, behind, rest_if, rest_in, pairs_in, tests}

rest-is : (scope : Scope) (xs : List Tree) → rest_bound scope xs ≡ (each_bound scope xs >>= rest_if)
rest-is scope [] = refl
rest-is scope (x ∷ xs) = go (bound_over scope x) (each_bound scope xs)
  where
    go : (a : Checked Bound) (bs : Checked (List Bound)) → ((a >>= λ a. bs >>= λ bs. Ok (a ∷ bs)) >>= conditions >>= λ ys. Ok (Some (all_of ys))) ≡ ((a >>= λ a. bs >>= λ bs. Ok (a ∷ bs)) >>= rest_if)
    go (Ok a) (Ok bs) = refl
    go (Ok a) (Err code) = refl
    go (Err code) bs = refl

module _ (kind : JoinKind) (x y : Relation) (on : Tree) where
  abbrev both : Scope
  both = x.scope ++ y.scope

  abbrev made : List Pair × Option Expr → Relation
  made t = record { rel = r.Join x.rel y.rel kind t.0 t.1; scope = join_scope kind x.scope y.scope }

  abbrev pub split : Checked (List Pair × Option Expr)
  split = accepted_tests both (length x.scope) on

  on-is : on_bound kind x y on ≡ (split >>= λ t. Ok (made t))
  on-is = (λ i. accepted both on >>= λ all. rest-is both (rest_of (length x.scope) (find both) (conjuncts on)) i >>= λ rest. Ok (made (pairs_in both (length x.scope) (conjuncts on), rest)))
      ∙ go (accepted both on) (each_bound both (rest_of (length x.scope) (find both) (conjuncts on)) >>= rest_if) (pairs_in both (length x.scope) (conjuncts on))
    where
      go : (all : Checked (List Bound)) (rest : Checked (Option Expr)) (pairs : List Pair) → (all >>= λ all. rest >>= λ rest. Ok (made (pairs, rest))) ≡ ((all >>= λ all. rest >>= λ rest. let o : Checked (List Pair × Option Expr) = Ok (pairs, rest) in o) >>= λ t. Ok (made t))
      go (Ok all) (Ok rest) pairs = refl
      go (Ok all) (Err code) pairs = refl
      go (Err code) rest pairs = refl

  pub on_ok : (pairs : List Pair) (rest : Option Expr) → split ≡ Ok (pairs, rest) → on_bound kind x y on ≡ Ok (made (pairs, rest))
  on_ok pairs rest e = on-is ∙ ap (λ t. t >>= λ t. Ok (made t)) e

  pub on_refused : (code : ScriptCode) → split ≡ Err code → on_bound kind x y on ≡ Err code
  on_refused code e = on-is ∙ ap (λ t. t >>= λ t. Ok (made t)) e

  -- the Join that is made of it
  pub on_made : (pairs : List Pair) (rest : Option Expr) (rel : r.Rel) (scope : Scope) → split ≡ Ok (pairs, rest) → rel ≡ r.Join x.rel y.rel kind pairs rest → scope ≡ join_scope kind x.scope y.scope
      → on_bound kind x y on ≡ Ok (record { rel = rel; scope = scope })
  on_made pairs rest rel scope e f g = on_ok pairs rest e ∙ (λ i. Ok (record { rel = sym f i; scope = sym g i }))

-- what is found behind nothing
pub tests_made : (scope : Scope) (width : ℕ) (on : Tree) (xs : List Bound) (pairs : List Pair) (rest : Option Expr) → behind [] (rest_in scope width (conjuncts on)) ≡ Ok xs → pairs ≡ pairs_in scope width (conjuncts on) → rest_if xs ≡ Ok rest
    → tests scope width on ≡ Ok (pairs, rest)
tests_made scope width on xs pairs rest e f g =
    ap (λ r. r >>= rest_if >>= λ rest. Ok (pairs_in scope width (conjuncts on), rest)) (sym (nothing-before (rest_in scope width (conjuncts on))) ∙ e)
    ∙ ap (λ r. r >>= λ rest. Ok (pairs_in scope width (conjuncts on), rest)) g
    ∙ (λ i. Ok (sym f i, rest))
  where
    nothing-before : (r : Checked (List Bound)) → behind [] r ≡ r
    nothing-before (Ok ys) = refl
    nothing-before (Err code) = refl
