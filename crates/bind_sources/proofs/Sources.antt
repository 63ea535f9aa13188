-- Names of sources, and the columns of a join that misses no rows.
use Rattle.std.proofs.Common.{◌≡◌, ◌==◌, ℕ, ◌-◌, Bool, [], ◌∷◌, Option, Some, None, true, false, cond, refl, sym, ap, ◌∙◌}
use Rattle.std.proofs.lemmas.Slice.Eq.{bytes_eq-Decides}
use Rattle.ct_value.specs.declared.text.Text.{Text}
use Rattle.rel_algebra.specs.declared.join.JoinKind.{JoinKind}
use Rattle.rel_algebra.specs.Joins.{keeps_left, keeps_right}
use Rattle.query_answer.specs.declared.scope.ScopeColumn.{ScopeColumn}
use Rattle.query_answer.specs.Names.{Scope, is_called}
use Rattle.bind_sources.specs.Columns.{columns, nullable}

pub again : (name : Text) (own : Option Text) → is_called name own ≡ true → own ≡ Some name
again name None e = absurd (cc)
again name (Some own) e = ap Some (sym ((bytes_eq-Decides name own).0 e))

either : (b : Bool) (c : ScopeColumn) → cond b (nullable false c) (nullable false c) ≡ c
either true c = refl
either false c = refl

pub unchanged : (kind : JoinKind) (n : ℕ) (cs : Scope) → keeps_left kind ≡ false → keeps_right kind ≡ false → columns kind n cs ≡ cs
unchanged kind n [] l r = refl
unchanged kind n (c ∷ cs) l r =
    (λ i. cond (n == 0) (nullable (l i) c) (nullable (r i) c) ∷ columns kind (n - 1) cs) ∙ ap (λ d. d ∷ columns kind (n - 1) cs) (either (n == 0) c)
    ∙ ap (λ ds. c ∷ ds) (unchanged kind (n - 1) cs l r)
