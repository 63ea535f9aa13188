-- Lists without their last, and edges of which the last goes by an exchange.
use Rattle.std.specs.Prelude.{◌≡◌, ℕ, ◌<◌, List, ◌++◌, length, slice_get, Option, option_to_list, IfNone}
use Rattle.std.proofs.Common.{zero, suc, [], ◌∷◌, refl, sym, ap, ◌∙◌, arith, Some, None}
use Rattle.std.proofs.lemmas.List.{append-nil}
use Rattle.phys_plan.specs.declared.edge.Edge.{Edge}
use Rattle.phys_plan.specs.declared.edge.Exchange.{Exchange}
use Rattle.plan_laying.specs.Topped.{all_but_last, sent_by, send_last}

-- ---- all but the last

pub all_of : {A : Type 0} (xs : List A) (x : A) → all_but_last (xs ++ x ∷ []) ≡ xs
all_of [] x = refl
all_of (y ∷ []) x = refl
all_of (y ∷ (z ∷ xs)) x = ap (λ ys. y ∷ ys) (all_of (z ∷ xs) x)

pub popped : {A : Type 0} (old new : List A) (o : Option A) → old ≡ new ++ option_to_list o → IfNone o (old ≡ []) → new ≡ all_but_last old
popped old new None e none = sym (append-nil new) ∙ sym e ∙ none ∙ sym (ap all_but_last none)
popped old new (Some x) e none = sym (ap all_but_last e ∙ all_of new x)

-- lists that aren't empty have a last
pub has_last : {A : Type 0} (xs : List A) → 0 < length xs → (x : A) × (xs ≡ all_but_last xs ++ x ∷ [])
has_last [] l = absurd (omega arith)
has_last (x ∷ []) l = (x, refl)
has_last (x ∷ (y ∷ xs)) l = let rest = has_last (y ∷ xs) (omega arith) in (rest.0, ap (λ ys. x ∷ ys) rest.1)

-- ---- edges of which the last goes by an exchange

pub hashed : (x : Exchange) (es : List Edge) (e : Edge) → send_last x (es ++ e ∷ []) ≡ es ++ sent_by x e ∷ []
hashed x [] e = refl
hashed x (f ∷ []) e = refl
hashed x (f ∷ (g ∷ es)) e = ap (λ fs. f ∷ fs) (hashed x (g ∷ es) e)

-- one that is taken off is put back so
pub hashed_at_end : (x : Exchange) (old rest new : List Edge) (o : Option Edge) (edge : Edge) → o ≡ Some edge → old ≡ rest ++ option_to_list o → new ≡ rest ++ sent_by x edge ∷ [] → new ≡ send_last x old
hashed_at_end x old rest new o edge is e put = put ∙ sym (ap (send_last x) (e ∙ ap (λ (p : Option Edge). rest ++ option_to_list p) is) ∙ hashed x rest edge)

pub hashed_none : (x : Exchange) (old new : List Edge) (o : Option Edge) → o ≡ None → old ≡ new ++ option_to_list o → IfNone o (old ≡ []) → new ≡ send_last x old
hashed_none x old new None is e none = sym (append-nil new) ∙ sym e ∙ none ∙ sym (ap (send_last x) none)
hashed_none x old new (Some edge) is e none = absurd (cc)

-- those before it stay, as many as they were
pub hashed_many : (x : Exchange) (es : List Edge) → length (send_last x es) ≡ length es
hashed_many x [] = refl
hashed_many x (e ∷ []) = refl
hashed_many x (e ∷ (f ∷ es)) = ap suc (hashed_many x (f ∷ es))

pub hashed_ahead : (x : Exchange) (es : List Edge) (n : ℕ) → suc n < length es → slice_get (send_last x es) n ≡ slice_get es n
hashed_ahead x [] n l = absurd (omega arith)
hashed_ahead x (e ∷ []) n l = absurd (omega arith)
hashed_ahead x (e ∷ (f ∷ es)) zero l = refl
hashed_ahead x (e ∷ (f ∷ es)) (suc n) l = hashed_ahead x (f ∷ es) n (omega arith)
