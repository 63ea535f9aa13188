-- Names looked for from the last column to the first.
use Rattle.std.proofs.lemmas.List.{at_drop_more, drop_all}
use Rattle.std.proofs.Common.{◌≡◌, ℕ, suc, ◌+◌, ◌≤◌, length, drop, get_or, true, false, cond, List, ◌∷◌, Option, sym, ap, ◌∙◌, arith}
use Rattle.query_answer.specs.declared.scope.ScopeColumn.{ScopeColumn}
use Rattle.query_answer.specs.declared.scope.Found.{Found}
use Rattle.query_answer.specs.declared.scope.Found.TheVariants.{Absent}
use Rattle.query_answer.specs.Names.{find_from, is_named, also}

-- what is found among the columns from the i-th on, of which the first has the number k
pub record FoundFrom (k i : ℕ) (cs : List ScopeColumn) (of : Option (List ℕ)) (name : List ℕ) (all : Found) : Type 0 where
  pub within : i ≤ length cs
  pub same : all ≡ find_from (k + i) (drop i cs) of name

pub none_yet : (k : ℕ) (cs : List ScopeColumn) (i : ℕ) (of : Option (List ℕ)) (name : List ℕ) → i ≡ length cs → FoundFrom k i cs of name Absent
none_yet k cs i of name h = record { within = omega arith; same = sym (ap (λ (ds : List ScopeColumn). find_from (k + i) ds of name) (drop_all i cs (omega arith))) }

-- it was found among all of them
pub whole : (k : ℕ) (cs : List ScopeColumn) (i : ℕ) (of : Option (List ℕ)) (name : List ℕ) (all : Found) → i ≡ 0 → FoundFrom k i cs of name all → all ≡ find_from k cs of name
whole k cs i of name all e h = h.same ∙ ap (λ n. find_from n (drop i cs) of name) (let q : k + i ≡ k = omega arith in q) ∙ ap (λ n. find_from k (drop n cs) of name) e

more : (k : ℕ) (cs : List ScopeColumn) (i : ℕ) (of : Option (List ℕ)) (name : List ℕ) (c : ScopeColumn) (all : Found) → FoundFrom k (suc i) cs of name all → c ≡ get_or cs i c
    → find_from (k + i) (drop i cs) of name ≡ cond (is_named of name c) (also (k + i) c.ty all) all
more k cs i of name c all h e =
    at_drop_more (λ ds. find_from (k + i) ds of name) cs i c (let w = h.within in omega arith)
    ∙ ap (λ d. find_from (k + i) (d ∷ drop (i + 1) cs) of name) (sym e)
    ∙ (let one : i + 1 ≡ suc i = omega arith in let next : suc (k + i) ≡ k + suc i = omega arith in λ j. cond (is_named of name c) (also (k + i) c.ty (find_from (next j) (drop (one j) cs) of name)) (find_from (next j) (drop (one j) cs) of name))
    ∙ ap (λ f. cond (is_named of name c) (also (k + i) c.ty f) f) (sym h.same)

pub one_more : (k : ℕ) (cs : List ScopeColumn) (i : ℕ) (of : Option (List ℕ)) (name : List ℕ) (c : ScopeColumn) (all : Found) → FoundFrom k (suc i) cs of name all → c ≡ get_or cs i c → is_named of name c ≡ true → FoundFrom k i cs of name (also (k + i) c.ty all)
one_more k cs i of name c all h e t = record { within = (let w = h.within in omega arith); same = sym (more k cs i of name c all h e ∙ ap (λ b. cond b (also (k + i) c.ty all) all) t) }

pub no_more : (k : ℕ) (cs : List ScopeColumn) (i : ℕ) (of : Option (List ℕ)) (name : List ℕ) (c : ScopeColumn) (all : Found) → FoundFrom k (suc i) cs of name all → c ≡ get_or cs i c → is_named of name c ≡ false → FoundFrom k i cs of name all
no_more k cs i of name c all h e t = record { within = (let w = h.within in omega arith); same = sym (more k cs i of name c all h e ∙ ap (λ b. cond b (also (k + i) c.ty all) all) t) }
