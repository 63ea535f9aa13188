-- Reading from the inputs up gives the one table in which each value is made of its inputs' values.
use Rattle.std.proofs.Common.{◌≡◌, ℕ, zero, suc, ◌+◌, ◌<◌, List, [], ◌∷◌, ◌++◌, length, map, get_or, refl, sym, ap, ◌∙◌, append-nil, append_assoc, arith, subst}
use Rattle.std.specs.List.{AllByRecursion}
use Rattle.std.proofs.lemmas.List.{get_or_append_left, get_or_at, length_push}
use Rattle.std.proofs.lemmas.Option.{unwrap_or-slice_get}
use Rattle.phys_plan.specs.Reading.{Wire, at, read_up}
use Rattle.plan_inferred.specs.Local.{AreOrdered, AreOrderedFrom, AgreeFrom, IsLocal}

-- ---- tables by number

at-suc : {B : Type 0} (d : B) (xs : List B) (i : ℕ) → at d xs (suc i) ≡ get_or xs i d
at-suc d xs i = unwrap_or-slice_get xs i d

at-front : {B : Type 0} (d : B) (xs ys : List B) (v : ℕ) → v < suc (length xs) → at d (xs ++ ys) v ≡ at d xs v
at-front d xs ys zero h = refl
at-front d xs ys (suc i) h = at-suc d (xs ++ ys) i ∙ get_or_append_left xs ys d i (omega (arith, h)) ∙ sym (at-suc d xs i)

all-front : {B : Type 0} (d : B) (xs ys : List B) (inputs : List ℕ) → AllByRecursion (λ input. input < suc (length xs)) inputs → map (at d (xs ++ ys)) inputs ≡ map (at d xs) inputs
all-front d xs ys [] h = refl
all-front d xs ys (input ∷ inputs) h =
    ap (λ x. x ∷ map (at d (xs ++ ys)) inputs) (at-front d xs ys input h.0) ∙ ap (λ zs. at d xs input ∷ zs) (all-front d xs ys inputs h.1)

at-next : {B : Type 0} (d : B) (xs : List B) (y : B) (ys : List B) → at d (xs ++ y ∷ ys) (suc (length xs)) ≡ y
at-next d xs y ys = at-suc d (xs ++ y ∷ ys) (length xs) ∙ get_or_at xs y ys d (length xs) refl

pushed : {B : Type 0} (xs : List B) (y : B) (ys : List B) → (xs ++ y ∷ []) ++ ys ≡ xs ++ y ∷ ys
pushed xs y ys = append_assoc xs (y ∷ []) ys

-- ---- what is read is local

extends : {B : Type 0} (f : Wire → List B → B) (d : B) (done : List B) (ws : List Wire) → (more : List B) × (read_up f d done ws ≡ done ++ more)
extends f d done [] = ([], sym (append-nil done))
extends f d done (w ∷ ws) =
    let x = f w (map (at d done) w.inputs) in
    let h = extends f d (done ++ x ∷ []) ws in
    (x ∷ h.0, h.1 ∙ pushed done x h.0)

read-agrees : {B : Type 0} (f : Wire → List B → B) (d : B) (done : List B) (v : ℕ) (ws : List Wire) → suc (length done) ≡ v → AreOrderedFrom v ws → AgreeFrom f d (read_up f d done ws) v ws
read-agrees f d done v [] e o = o
read-agrees {B = B} f d done v (w ∷ ws) e o =
    let x = f w (map (at d done) w.inputs) in
    let more : List B = (extends f d (done ++ x ∷ []) ws).0 in
    let table = read_up f d (done ++ x ∷ []) ws in
    let is : table ≡ done ++ x ∷ more = (extends f d (done ++ x ∷ []) ws).1 ∙ pushed done x more in
    let own : at d table v ≡ x = ap (λ t. at d t v) is ∙ ap (at d (done ++ x ∷ more)) (sym e) ∙ at-next d done x more in
    let inputs : map (at d table) w.inputs ≡ map (at d done) w.inputs =
    ap (λ t. map (at d t) w.inputs) is ∙ all-front d done (x ∷ more) w.inputs (subst (λ k. AllByRecursion (λ input. input < k) w.inputs) (sym e) o.0) in
    let long : suc (length (done ++ x ∷ [])) ≡ suc v = omega (arith, length_push done x, e) in
    (own ∙ ap (f w) (sym inputs), read-agrees f d (done ++ x ∷ []) (suc v) ws long o.1)

read-length : {B : Type 0} (f : Wire → List B → B) (d : B) (done : List B) (ws : List Wire) → length (read_up f d done ws) ≡ length done + length ws
read-length f d done [] = omega arith
read-length f d done (w ∷ ws) =
    let x = f w (map (at d done) w.inputs) in
    omega (arith, read-length f d (done ++ x ∷ []) ws, length_push done x)

pub read-is-local : {B : Type 0} (f : Wire → List B → B) (d : B) (ws : List Wire) → AreOrdered ws → IsLocal f d ws (read_up f d [] ws)
read-is-local f d ws o =
    let from : 0 + length ws ≡ length ws = omega arith in
    record { whole = read-length f d [] ws ∙ from; agree = read-agrees f d [] 1 ws refl o }

-- ---- what is local is read

local-read : {B : Type 0} (f : Wire → List B → B) (d : B) (done rest : List B) (v : ℕ) (ws : List Wire) → suc (length done) ≡ v → length rest ≡ length ws → AreOrderedFrom v ws → AgreeFrom f d (done ++ rest) v ws → done ++ rest ≡ read_up f d done ws
local-read f d done [] v [] e l o a = append-nil done
local-read f d done (y ∷ rest) v [] e l o a = absurd (omega (arith, l))
local-read f d done [] v (w ∷ ws) e l o a = absurd (omega (arith, l))
local-read f d done (y ∷ rest) v (w ∷ ws) e l o a =
    let x = f w (map (at d done) w.inputs) in
    let own : at d (done ++ y ∷ rest) v ≡ y = ap (at d (done ++ y ∷ rest)) (sym e) ∙ at-next d done y rest in
    let inputs : map (at d (done ++ y ∷ rest)) w.inputs ≡ map (at d done) w.inputs =
    all-front d done (y ∷ rest) w.inputs (subst (λ k. AllByRecursion (λ input. input < k) w.inputs) (sym e) o.0) in
    let same : y ≡ x = sym own ∙ a.0 ∙ ap (f w) inputs in
    let whole : done ++ y ∷ rest ≡ (done ++ x ∷ []) ++ rest = ap (λ z. done ++ z ∷ rest) same ∙ sym (pushed done x rest) in
    let long : suc (length (done ++ x ∷ [])) ≡ suc v = omega (arith, length_push done x, e) in
    let left : length rest ≡ length ws = omega (arith, l) in
    whole ∙ local-read f d (done ++ x ∷ []) rest (suc v) ws long left o.1 (subst (λ t. AgreeFrom f d t (suc v) ws) whole a.1)

pub local-is-read : {B : Type 0} (f : Wire → List B → B) (d : B) (ws : List Wire) (table : List B) → AreOrdered ws → IsLocal f d ws table → table ≡ read_up f d [] ws
local-is-read f d ws table o h = local-read f d [] table 1 ws refl h.whole o h.agree
