-- The first number at which a test fails, and rules met one after the other.
use Rattle.std.proofs.Common.{◌≡◌, ℕ, zero, suc, ◌+◌, ◌-◌, ◌<◌, ◌≤◌, Bool, true, false, cond, Some, None, refl, sym, ap, ◌∙◌, subst, arith, ⊎_elim}
use Rattle.std.proofs.Math.Nat.{eq-or-lt_of_le}
use Rattle.phys_plan.specs.declared.plan.Plan.{Plan}
use Rattle.phys_plan.specs.declared.plan.Rule.{Rule}
use Rattle.phys_plan.specs.declared.plan.Rule.TheVariants as rule
use Rattle.plan_check.specs.Sound.{first_failing, IsFirstBroken, IsSound, Meets, MeetsFirst, looked_at, meets, place}

either : {P : Type 0} (b : Bool) → (b ≡ true → P) → (b ≡ false → P) → P
either true t f = t refl
either false t f = f refl

rest_of : (test : ℕ → Bool) (from n : ℕ) → test from ≡ true → first_failing test from (suc n) ≡ first_failing test (from + 1) n
rest_of test from n t = ap (λ b. cond b (first_failing test (from + 1) n) (Some from)) t

pub passes : (test : ℕ → Bool) (from n : ℕ) → first_failing test from n ≡ None → (v : ℕ) → from ≤ v → v < from + n → test v ≡ true
passes test from zero e v p q = absurd (omega arith)
passes test from (suc n) e v p q =
    either (test from)
    (λ t. ⊎_elim (λ here. subst (λ u. test u ≡ true) here t) (λ (more : from < v). let m : from + 1 ≤ v = omega arith in passes test (from + 1) n (sym (rest_of test from n t) ∙ e) v m (omega arith)) (eq-or-lt_of_le p))
    (λ t. let f : Some from ≡ None = sym (ap (λ b. cond b (first_failing test (from + 1) n) (Some from)) t) ∙ e in absurd (cc))

-- the first number from this one on
record Failing (test : ℕ → Bool) (from n v : ℕ) : Type 0 where
  here : test v ≡ false
  low : from ≤ v
  high : v < from + n
  before : (u : ℕ) → from ≤ u → u < v → test u ≡ true

fails : (test : ℕ → Bool) (from n v : ℕ) → first_failing test from n ≡ Some v → Failing test from n v
fails test from zero v e = absurd (cc)
fails test from (suc n) v e =
    either (test from)
    (λ t.
    let h = fails test (from + 1) n v (sym (rest_of test from n t) ∙ e) in
    let low = h.low in
    let high = h.high in
    record {
      here = h.here;
      low = omega arith;
      high = omega arith;
      before = λ u p q. ⊎_elim (λ same. subst (λ w. test w ≡ true) same t) (λ (more : from < u). let m : from + 1 ≤ u = omega arith in h.before u m q) (eq-or-lt_of_le p);
    })
    (λ t.
    let f : Some from ≡ Some v = sym (ap (λ b. cond b (first_failing test (from + 1) n) (Some from)) t) ∙ e in
    let g : from ≡ v = cc in
    record { here = subst (λ w. test w ≡ false) g t; low = omega arith; high = omega arith; before = λ u p q. absurd (omega arith) })

-- a loop's step
pub one_further : (test : ℕ → Bool) (from n i : ℕ) → i < n → test (from + i) ≡ true → first_failing test (from + i) (n - i) ≡ first_failing test (from + (i + 1)) (n - (i + 1))
one_further test from n i h t =
    let e : n - i ≡ suc (n - (i + 1)) = omega arith in
    let k : from + i + 1 ≡ from + (i + 1) = omega arith in
    ap (first_failing test (from + i)) e ∙ rest_of test (from + i) (n - (i + 1)) t ∙ ap (λ m. first_failing test m (n - (i + 1))) k

pub found_here : (test : ℕ → Bool) (from n i : ℕ) → i < n → test (from + i) ≡ false → first_failing test (from + i) (n - i) ≡ Some (from + i)
found_here test from n i h t =
    let e : n - i ≡ suc (n - (i + 1)) = omega arith in
    ap (first_failing test (from + i)) e ∙ ap (λ b. cond b (first_failing test (from + i + 1) (n - (i + 1))) (Some (from + i))) t

-- at the turn of a loop over the nodes of a plan, which looks at the one behind so many
module _ (plan : Plan) (r : Rule) (i : ℕ) (low : i < looked_at plan) where
  same : i + 1 ≡ 1 + i
  same = omega arith

  pub met_here : meets r plan (i + 1) ≡ true → first_failing (meets r plan) (1 + i) (looked_at plan - i) ≡ first_failing (meets r plan) (1 + (i + 1)) (looked_at plan - (i + 1))
  met_here t = one_further (meets r plan) 1 (looked_at plan) i low (subst (λ n. meets r plan n ≡ true) same t)

  pub broken_here : meets r plan (i + 1) ≡ false → first_failing (meets r plan) (1 + i) (looked_at plan - i) ≡ Some (i + 1)
  broken_here t = found_here (meets r plan) 1 (looked_at plan) i low (subst (λ n. meets r plan n ≡ false) same t) ∙ ap (λ n. Some n) (sym same)

-- ---- one rule behind the other

pub none_met : (plan : Plan) → MeetsFirst 0 plan
none_met plan r h = absurd (omega arith)

same_place : (q r : Rule) → place q ≡ place r → q ≡ r
same_place rule.Shape rule.Shape e = refl
same_place rule.Types rule.Types e = refl
same_place rule.Keys rule.Keys e = refl
same_place rule.Kinds rule.Kinds e = refl
same_place rule.UpdateKind rule.UpdateKind e = refl
same_place rule.Exchanged rule.Exchanged e = refl
same_place rule.SinkKey rule.SinkKey e = refl
same_place q r e = absurd (omega arith)

pub one_more : (plan : Plan) (r : Rule) → MeetsFirst (place r) plan → first_failing (meets r plan) 1 (looked_at plan) ≡ None → MeetsFirst (suc (place r)) plan
one_more plan r first e q h =
    ⊎_elim
    (λ same. subst (λ p. Meets p plan) (sym (same_place q r same)) (λ v p k. passes (meets r plan) 1 (looked_at plan) e v p (omega arith)))
    (λ (lower : place q < place r). first q lower)
    (eq-or-lt_of_le (omega (arith, h)))

pub broken : (plan : Plan) (r : Rule) (v : ℕ) → MeetsFirst (place r) plan → first_failing (meets r plan) 1 (looked_at plan) ≡ Some v → IsFirstBroken plan r v
broken plan r v first e =
    let h = fails (meets r plan) 1 (looked_at plan) v e in
    let high = h.high in
    record {
      first = record { positive = h.low; here = h.here; before = h.before };
      looked = omega arith;
      earlier = first;
    }

pub all_met : (plan : Plan) → MeetsFirst 7 plan → IsSound plan
all_met plan first rule.Shape = first rule.Shape (omega arith)
all_met plan first rule.Types = first rule.Types (omega arith)
all_met plan first rule.Keys = first rule.Keys (omega arith)
all_met plan first rule.Kinds = first rule.Kinds (omega arith)
all_met plan first rule.UpdateKind = first rule.UpdateKind (omega arith)
all_met plan first rule.Exchanged = first rule.Exchanged (omega arith)
all_met plan first rule.SinkKey = first rule.SinkKey (omega arith)
