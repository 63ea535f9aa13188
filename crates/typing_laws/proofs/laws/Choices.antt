-- CASE and COALESCE: what is chosen is a value of the common column.
use Rattle.std.proofs.Common.{◌≡◌, ℕ, ℤ, pos, ◌^◌, ◌≤◌, ◌==◌, Bool, true, false, cond, not, ◌&&◌, ◌||◌, List, [], ◌∷◌, Option, Some, None, refl, sym, ap, ◌∙◌, subst, arith}
use Rattle.std.specs.Prelude.{neg_ℤ, ◌+ℤ◌, ◌≤ℤ◌, int_le, int_lt, unsigned_abs, max, option_map, option_and_then}
use Rattle.std.proofs.lemmas.Bool.{ltb-true, lt-ltb}
use Rattle.std.proofs.lemmas.Int.{ints}
use Rattle.std.proofs.Math.Nat.{pow-le-pow_right}
use Rattle.ct_value.specs.declared.value.Value.{Value}
use Rattle.ct_value.specs.declared.value.Value.TheVariants.{Null, Bool as Truth, Num, Text}
use Rattle.ct_value.specs.declared.ty.Ty.{Ty}
use Rattle.ct_value.specs.declared.ty.Ty.TheVariants.{Bool as Truths, Int, BigInt, Decimal, Text as Texts}
use Rattle.ct_value.specs.declared.ty.ColTy.{ColTy}
use Rattle.ct_field.specs.Typed.{value_fits, is_null}
use Rattle.ct_expr.specs.Types as t
use Rattle.ct_expr.specs.Types.{common_ty, col, both_of, joined, gather_some, case_col, coalesce_col, or_null}
use Rattle.ct_expr.specs.Values.{is_true, first_known, first_chosen}
use Rattle.typing_laws.proofs.laws.Lifted.{Lift, LiftAll}
use Rattle.typing_laws.proofs.laws.Kinds.{Holds, both_true, first_true, second_true, or_true, null_fits, same_null}

-- ---- parts of what is there

if_some : {A : Type 0} (test : Bool) (a b : A) → cond test (Some a) None ≡ Some b → (test ≡ true) × (a ≡ b)
if_some true a b e = (refl, cc)
if_some false a b e = absurd (cc)

then_parts : {A B : Type 0} (f : A → Option B) (o : Option A) (b : B) → option_and_then f o ≡ Some b → (a : A) × (o ≡ Some a) × (f a ≡ Some b)
then_parts f None b e = absurd (cc)
then_parts f (Some a) b e = (a, refl, e)

both_parts : {A B C : Type 0} (f : A → B → Option C) (o : Option A) (p : Option B) (c : C) → both_of f o p ≡ Some c → (a : A) × (b : B) × (o ≡ Some a) × (p ≡ Some b) × (f a b ≡ Some c)
both_parts f None p c e = absurd (cc)
both_parts f (Some a) None c e = absurd (cc)
both_parts f (Some a) (Some b) c e = (a, b, refl, refl, e)

-- ---- a common type holds the values of both

-- a type that holds the values of another
abbrev Widens : Ty → Ty → Type 0
Widens ty common = (v : Value) → value_fits ty v ≡ true → value_fits common v ≡ true

le_of : (a b : ℤ) → int_le a b ≡ true → a ≤ℤ b
le_of a b e = grind (arith, ints)

lt_of : (a b : ℤ) → int_lt a b ≡ true → (a +ℤ pos 1) ≤ℤ b
lt_of a b e = grind (arith, ints)

le_test : (a b : ℤ) → a ≤ℤ b → int_le a b ≡ true
le_test a b h = grind (arith, ints)

lt_test : (a b : ℤ) → (a +ℤ pos 1) ≤ℤ b → int_lt a b ≡ true
lt_test a b h = grind (arith, ints)

within : ℕ → ℤ → Bool
within bound n = int_le (neg_ℤ (pos bound)) n && int_lt n (pos bound)

within_widens : (bound other : ℕ) (n : ℤ) → bound ≤ other → within bound n ≡ true → within other n ≡ true
unfolding within
within_widens bound other n l e =
    let h = le_of (neg_ℤ (pos bound)) n (first_true (int_le (neg_ℤ (pos bound)) n) _ e) in
    let k = lt_of n (pos bound) (second_true (int_le (neg_ℤ (pos bound)) n) _ e) in
    both_true (int_le (neg_ℤ (pos other)) n) _ (le_test (neg_ℤ (pos other)) n (omega (arith, ints))) (lt_test n (pos other) (omega (arith, ints)))

int_widens : Widens Int BigInt
unfolding within
int_widens Null e = refl
int_widens (Truth b) e = absurd (cc)
int_widens (Num n) e = within_widens (2 ^ 31) (2 ^ 63) n (omega arith) e
int_widens (Text bytes) e = absurd (cc)

decimal_widens : (p q s u : ℕ) → p ≤ q → Widens (Decimal p s) (Decimal q u)
decimal_widens p q s u l Null e = refl
decimal_widens p q s u l (Truth b) e = absurd (cc)
decimal_widens p q s u l (Num n) e = lt-ltb _ _ (let h = ltb-true (unsigned_abs n) (10 ^ p) e in let k : 10 ^ p ≤ 10 ^ q = pow-le-pow_right (let g : 1 ≤ 10 = omega arith in g) l in omega arith)
decimal_widens p q s u l (Text bytes) e = absurd (cc)

along : (ty common other : Ty) → Some common ≡ Some other → Widens ty common → Widens ty other
along ty common other e w v h = let i : common ≡ other = cc in subst (λ u. value_fits u v ≡ true) i (w v h)

common_left : (s u common : Ty) → common_ty s u ≡ Some common → Widens s common
common_left Truths Truths common e = along Truths Truths common e (λ v h. h)
common_left Int Int common e = along Int Int common e (λ v h. h)
common_left Int BigInt common e = along Int BigInt common e int_widens
common_left BigInt Int common e = along BigInt BigInt common e (λ v h. h)
common_left BigInt BigInt common e = along BigInt BigInt common e (λ v h. h)
common_left (Decimal p s) (Decimal q r) common e = along (Decimal p s) (Decimal (max p q) s) common (ap Some (if_some (s == r) (Decimal (max p q) s) common e).1) (decimal_widens p (max p q) s s (omega arith))
common_left Texts Texts common e = along Texts Texts common e (λ v h. h)
common_left s u common e = absurd (cc)

common_right : (s u common : Ty) → common_ty s u ≡ Some common → Widens u common
common_right Truths Truths common e = along Truths Truths common e (λ v h. h)
common_right Int Int common e = along Int Int common e (λ v h. h)
common_right Int BigInt common e = along BigInt BigInt common e (λ v h. h)
common_right BigInt Int common e = along Int BigInt common e int_widens
common_right BigInt BigInt common e = along BigInt BigInt common e (λ v h. h)
common_right (Decimal p s) (Decimal q r) common e = along (Decimal q r) (Decimal (max p q) s) common (ap Some (if_some (s == r) (Decimal (max p q) s) common e).1) (decimal_widens q (max p q) r s (omega arith))
common_right Texts Texts common e = along Texts Texts common e (λ v h. h)
common_right s u common e = absurd (cc)

-- ---- columns with a common type

map_parts : (n : Bool) (o : Option Ty) (c : ColTy) → option_map (λ ty. col ty n) o ≡ Some c → (o ≡ Some c.ty) × (n ≡ c.nullable)
map_parts n None c e = absurd (cc)
map_parts n (Some ty) c e = let i : col ty n ≡ c = cc in (ap Some (ap (λ (d : ColTy). d.ty) i), ap (λ (d : ColTy). d.nullable) i)

-- a column that holds the values of another
abbrev Under : ColTy → ColTy → Type 0
Under c d = (v : Value) → Holds c v → Holds d v

null_stays : (a b c : Bool) → (a || c) ≡ true → (a ≡ true → b ≡ true) → (b || c) ≡ true
null_stays true b c e f = ap (λ d. d || c) (f refl)
null_stays false true c e f = refl
null_stays false false c e f = e

case_left : (c d e : ColTy) → case_col c d ≡ Some e → Under c e
case_left c d e h v k =
    let p = map_parts (c.nullable || d.nullable) (common_ty c.ty d.ty) e h in
    (common_left c.ty d.ty e.ty p.0 v k.0, null_stays c.nullable e.nullable (not (is_null v)) k.1 (λ i. sym p.1 ∙ ap (λ b. b || d.nullable) i))

case_right : (c d e : ColTy) → case_col c d ≡ Some e → Under d e
case_right c d e h v k =
    let p = map_parts (c.nullable || d.nullable) (common_ty c.ty d.ty) e h in
    (common_right c.ty d.ty e.ty p.0 v k.0, null_stays d.nullable e.nullable (not (is_null v)) k.1 (λ i. sym p.1 ∙ ap (λ b. c.nullable || b) i ∙ or_true c.nullable))

-- a type that is there, of values that the column holds
abbrev UnderOne : Option ColTy → ColTy → Type 0
UnderOne None c = ⊥
UnderOne (Some d) c = Under d c

abbrev UnderAll : List (Option ColTy) → ColTy → Type 0
UnderAll [] c = Unit {0}
UnderAll (o ∷ os) c = UnderOne o c × UnderAll os c

cases_under : (os : List (Option ColTy)) (b c : ColTy) → joined case_col (Some b) os ≡ Some c → Under b c × UnderAll os c
cases_under [] b c e = (let i : b ≡ c = cc in λ v h. subst (λ d. Holds d v) i h, tt)
cases_under (None ∷ os) b c e = absurd (cc)
cases_under (Some d ∷ os) b c e =
    let p = then_parts (λ a. joined case_col (Some a) os) (case_col b d) c e in
    let q = cases_under os p.0 c p.2 in
    ((λ v h. q.0 v (case_left b d p.0 p.1 v h)), ((λ v h. q.0 v (case_right b d p.0 p.1 v h)), q.1))

results_under : (os : List (Option ColTy)) (c : ColTy) → gather_some case_col os ≡ Some c → UnderAll os c
results_under [] c e = absurd (cc)
results_under (None ∷ os) c e = absurd (cc)
results_under (Some d ∷ os) c e = cases_under os d c e

-- ---- CASE

-- the results of branches, of which nothing is known but their types
abbrev pub LiftResults : List (Option ColTy) → List (Option Value × Option Value) → Type 0
LiftResults [] [] = Unit {0}
LiftResults [] (b ∷ bs) = ⊥
LiftResults (o ∷ os) [] = ⊥
LiftResults (o ∷ os) (b ∷ bs) = Lift Holds o b.1 × LiftResults os bs

one_under : (o : Option ColTy) (c : ColTy) (m : Option Value) → UnderOne o c → Lift Holds o m → Lift Holds (Some c) m
one_under None c m u h = absurd u
one_under (Some d) c None u h = tt
one_under (Some d) c (Some v) u h = u v h

pub chosen_holds : (c : ColTy) (os : List (Option ColTy)) (bs : List (Option Value × Option Value)) (m : Option Value) → UnderAll os c → LiftResults os bs → Lift Holds (Some c) m → Lift Holds (Some c) (first_chosen bs m)
chosen_holds c [] [] m u h k = k
chosen_holds c [] (b ∷ bs) m u h k = absurd h
chosen_holds c (o ∷ os) [] m u h k = absurd h
chosen_holds c (o ∷ os) (b ∷ bs) m u h k = elim b.0 as (λ test. Lift Holds (Some c) (option_and_then (λ v. cond (is_true v) b.1 (first_chosen bs m)) test)) [
  | None ↦ tt
  | Some v ↦ elim (is_true v) as (λ yes. Lift Holds (Some c) (cond yes b.1 (first_chosen bs m))) [ true ↦ one_under o c b.1 u.0 h.0 | false ↦ chosen_holds c os bs m u.1 h.1 k ]
]

-- without an ELSE it may be NULL
pub no_else_holds : (r : Option ColTy) (os : List (Option ColTy)) (bs : List (Option Value × Option Value)) → gather_some case_col os ≡ r → LiftResults os bs → Lift Holds (option_and_then or_null r) (first_chosen bs (Some Null))
no_else_holds None os bs e h = tt
no_else_holds (Some c) os bs e h = chosen_holds (col c.ty true) os bs (Some Null) (or_null_under os (results_under os c e)) h (null_fits c.ty, refl)
  where
    or_null_one : (o : Option ColTy) → UnderOne o c → UnderOne o (col c.ty true)
    or_null_one None u = absurd u
    or_null_one (Some d) u = λ v k. ((u v k).0, refl)

    or_null_under : (os : List (Option ColTy)) → UnderAll os c → UnderAll os (col c.ty true)
    or_null_under [] u = tt
    or_null_under (o ∷ os) u = (or_null_one o u.0, or_null_under os u.1)

pub else_holds : (r : Option ColTy) (o : Option ColTy) (m : Option Value) (os : List (Option ColTy)) (bs : List (Option Value × Option Value)) → gather_some case_col os ≡ r → LiftResults os bs → Lift Holds o m → Lift Holds (both_of case_col r o) (first_chosen bs m)
else_holds None o m os bs e h k = tt
else_holds (Some c) None m os bs e h k = tt
else_holds (Some c) (Some d) m os bs e h k = go (case_col c d) refl
  where
    further : (made : ColTy) → Under c made → (os : List (Option ColTy)) → UnderAll os c → UnderAll os made
    further made w [] u = tt
    further made w (None ∷ os) u = absurd u.0
    further made w (Some a ∷ os) u = ((λ v i. w v (u.0 v i)), further made w os u.1)

    of_else : (made : ColTy) → Under d made → (m : Option Value) → Lift Holds (Some d) m → Lift Holds (Some made) m
    of_else made w None i = tt
    of_else made w (Some v) i = w v i

    go : (made : Option ColTy) → case_col c d ≡ made → Lift Holds made (first_chosen bs m)
    go None i = tt
    go (Some made) i = chosen_holds made os bs m (further made (case_left c d made i) os (results_under os c e)) h (of_else made (case_right c d made i) m k)

-- ---- COALESCE

-- of the column's type; and it isn't NULL where the column or what stood before may be it
abbrev HoldsAfter : Bool → ColTy → Value → Type 0
HoldsAfter before c v = (value_fits c.ty v ≡ true) × (((c.nullable || not (is_null v)) || not before) ≡ true)

always : (b : Bool) → ((b || false) || not b) ≡ true
always true = refl
always false = refl

not_null : (v : Value) → t.is_null v ≡ false → not (is_null v) ≡ true
not_null v e = ap not (sym (same_null v) ∙ e)

is_NULL : (v : Value) → t.is_null v ≡ true → v ≡ Null
is_NULL Null e = refl
is_NULL (Truth b) e = absurd (cc)
is_NULL (Num n) e = absurd (cc)
is_NULL (Text bytes) e = absurd (cc)

known_there : (c : ColTy) (v : Value) (before : Bool) → not (is_null v) ≡ true → ((c.nullable || not (is_null v)) || not before) ≡ true
known_there c v before e = ap (λ b. (c.nullable || b) || not before) e ∙ go c.nullable
  where
    go : (b : Bool) → ((b || true) || not before) ≡ true
    go true = refl
    go false = refl

-- the types of both lie under the common one
coalesce_parts : (b d c : ColTy) → coalesce_col b d ≡ Some c → Widens b.ty c.ty × Widens d.ty c.ty × (c.nullable ≡ (b.nullable && d.nullable))
coalesce_parts b d c e =
    let p = map_parts (b.nullable && d.nullable) (common_ty b.ty d.ty) c e in
    (common_left b.ty d.ty c.ty p.0, common_right b.ty d.ty c.ty p.0, sym p.1)

joined_widens : (os : List (Option ColTy)) (b c : ColTy) → joined coalesce_col (Some b) os ≡ Some c → Widens b.ty c.ty
joined_widens [] b c e = let i : b ≡ c = cc in λ v h. subst (λ (d : ColTy). value_fits d.ty v ≡ true) i h
joined_widens (None ∷ os) b c e = absurd (cc)
joined_widens (Some d ∷ os) b c e =
    let p = then_parts (λ a. joined coalesce_col (Some a) os) (coalesce_col b d) c e in
    λ v h. joined_widens os p.0 c p.2 v ((coalesce_parts b d p.0 p.1).0 v h)

known_after : (os : List (Option ColTy)) (ms : List (Option Value)) (b c : ColTy) → joined coalesce_col (Some b) os ≡ Some c → LiftAll Holds os ms → Lift (HoldsAfter b.nullable) (Some c) (first_known ms)
known_after [] [] b c e h = let i : b ≡ c = cc in (null_fits c.ty, subst (λ (d : ColTy). ((c.nullable || false) || not d.nullable) ≡ true) (sym i) (always c.nullable))
known_after [] (m ∷ ms) b c e h = absurd h
known_after (o ∷ os) [] b c e h = absurd h
known_after (None ∷ os) (m ∷ ms) b c e h = absurd (cc)
known_after (Some d ∷ os) (None ∷ ms) b c e h = tt
known_after (Some d ∷ os) (Some v ∷ ms) b c e h =
    let p = then_parts (λ a. joined coalesce_col (Some a) os) (coalesce_col b d) c e in
    let q = coalesce_parts b d p.0 p.1 in
    elim (t.is_null v) as (λ n. t.is_null v ≡ n → Lift (HoldsAfter b.nullable) (Some c) (cond n (first_known ms) (Some v))) [
      | true ↦ λ n.
          let at_null : Holds d Null = subst (λ u. Holds d u) (is_NULL v n) h.0 in
          let same : p.0.nullable ≡ b.nullable = q.2 ∙ ap (λ f. b.nullable && f) (or_no d.nullable at_null.1) ∙ and_true b.nullable in
          subst (λ f. Lift (HoldsAfter f) (Some c) (first_known ms)) same (known_after os ms p.0 c p.2 h.1)
      | false ↦ λ n. (joined_widens os p.0 c p.2 v (q.1 v h.0.0), known_there c v b.nullable (not_null v n))
    ] refl
  where
    or_no : (f : Bool) → (f || false) ≡ true → f ≡ true
    or_no true i = refl
    or_no false i = i

    and_true : (f : Bool) → (f && true) ≡ f
    and_true true = refl
    and_true false = refl

pub coalesce_holds : (r : Option ColTy) (os : List (Option ColTy)) (ms : List (Option Value)) → gather_some coalesce_col os ≡ r → LiftAll Holds os ms → Lift Holds r (first_known ms)
coalesce_holds None os ms e h = tt
coalesce_holds (Some c) [] ms e h = absurd (cc)
coalesce_holds (Some c) (o ∷ os) [] e h = absurd h
coalesce_holds (Some c) (None ∷ os) (m ∷ ms) e h = absurd (cc)
coalesce_holds (Some c) (Some d ∷ os) (None ∷ ms) e h = tt
coalesce_holds (Some c) (Some d ∷ os) (Some v ∷ ms) e h =
    elim (t.is_null v) as (λ n. t.is_null v ≡ n → Lift Holds (Some c) (cond n (first_known ms) (Some v))) [
      | true ↦ λ n. let at_null : Holds d Null = subst (λ u. Holds d u) (is_NULL v n) h.0 in settled d.nullable (first_known ms) at_null.1 (known_after os ms d c e h.1)
      | false ↦ λ n. (joined_widens os d c e v h.0.0, ap (λ b. c.nullable || b) (not_null v n) ∙ or_true c.nullable)
    ] refl
  where
    drop_before : (b f : Bool) → (b || not true) ≡ true → b ≡ true
    drop_before true f i = refl
    drop_before false f i = i

    settled : (before : Bool) (m : Option Value) → (before || false) ≡ true → Lift (HoldsAfter before) (Some c) m → Lift Holds (Some c) m
    settled true None i k = tt
    settled true (Some w) i k = (k.0, drop_before (c.nullable || not (is_null w)) true k.1)
    settled false m i k = absurd (cc)
