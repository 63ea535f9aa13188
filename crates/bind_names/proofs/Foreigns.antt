-- Whether none of what is left of the columns has a name.
use Rattle.std.proofs.Common.{◌≡◌, ℕ, suc, ◌+◌, ◌<◌, ◌≤◌, Bool, true, false, cond, List, ◌∷◌, Option, length, drop, get_or, refl, sym, ap, ◌∙◌, arith}
use Rattle.std.proofs.lemmas.List.{at_drop_more, drop_all}
use Rattle.ct_value.specs.declared.ty.ColTy.{ColTy}
use Rattle.query_answer.specs.declared.scope.Found.{Found}
use Rattle.query_answer.specs.declared.scope.Found.TheVariants.{Absent, At, Several}
use Rattle.query_answer.specs.declared.scope.ScopeColumn.{ScopeColumn}
use Rattle.query_answer.specs.Names.{find_from, is_named, also}
use Rattle.query_answer.specs.Outside.{is_absent}

abbrev pub absent_from : ℕ → List ScopeColumn → Option (List ℕ) → List ℕ → Bool
absent_from i cs of name = is_absent (find_from i (drop i cs) of name)

is_there : (n : ℕ) (ty : ColTy) (f : Found) → is_absent (also n ty f) ≡ false
is_there n ty Absent = refl
is_there n ty (At m other) = refl
is_there n ty Several = refl

column_step : (cs : List ScopeColumn) (i : ℕ) (of : Option (List ℕ)) (name : List ℕ) (c : ScopeColumn) → i < length cs → c ≡ get_or cs i c
    → absent_from i cs of name ≡ cond (is_named of name c) false (absent_from (i + 1) cs of name)
column_step cs i of name c l h =
    at_drop_more (λ ds. is_absent (find_from i ds of name)) cs i c l
    ∙ ap (λ d. is_absent (find_from i (d ∷ drop (i + 1) cs) of name)) (sym h)
    ∙ split (is_named of name c)
    ∙ (let one : suc i ≡ i + 1 = omega arith in ap (λ n. cond (is_named of name c) false (is_absent (find_from n (drop (i + 1) cs) of name))) one)
  where
    split : (b : Bool) → is_absent (cond b (also i c.ty (find_from (suc i) (drop (i + 1) cs) of name)) (find_from (suc i) (drop (i + 1) cs) of name)) ≡ cond b false (is_absent (find_from (suc i) (drop (i + 1) cs) of name))
    split true = is_there i c.ty (find_from (suc i) (drop (i + 1) cs) of name)
    split false = refl

pub named : (cs : List ScopeColumn) (i : ℕ) (of : Option (List ℕ)) (name : List ℕ) (c : ScopeColumn) → i < length cs → c ≡ get_or cs i c → is_named of name c ≡ true → absent_from i cs of name ≡ false
named cs i of name c l h e = column_step cs i of name c l h ∙ ap (λ b. cond b false (absent_from (i + 1) cs of name)) e

pub not_named : (cs : List ScopeColumn) (i : ℕ) (of : Option (List ℕ)) (name : List ℕ) (c : ScopeColumn) → i < length cs → c ≡ get_or cs i c → is_named of name c ≡ false → absent_from i cs of name ≡ absent_from (i + 1) cs of name
not_named cs i of name c l h e = column_step cs i of name c l h ∙ ap (λ b. cond b false (absent_from (i + 1) cs of name)) e

pub all_tried : (cs : List ScopeColumn) (i : ℕ) (of : Option (List ℕ)) (name : List ℕ) → length cs ≤ i → absent_from i cs of name ≡ true
all_tried cs i of name l = ap (λ (ds : List ScopeColumn). is_absent (find_from i ds of name)) (drop_all i cs l)
