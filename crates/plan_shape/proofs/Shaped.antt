-- The rule Shape, read as the composition theorem asks it.
use Rattle.std.proofs.Common.{◌≡◌, ℕ, zero, suc, ◌<◌, ◌≤◌, ◌==◌, Bool, true, false, ◌&&◌, ◌||◌, not, cond, List, [], ◌∷◌, length, Some, None, refl, sym, ap, ◌∙◌, subst, arith}
use Rattle.std.specs.Prelude.{nat_lt, max, slice_get}
use Rattle.std.specs.List.{list_all}
use Rattle.std.proofs.lemmas.Bool.{eqb-true, eqb-false, leb-true, ltb-true}
use Rattle.std.proofs.lemmas.Option.{slice_get_within}
use Rattle.phys_plan.specs.declared.node.Node.{Node}
use Rattle.phys_plan.specs.declared.node.Op.{Op}
use Rattle.phys_plan.specs.declared.node.Op.TheVariants as op
use Rattle.phys_plan.specs.declared.plan.Plan.{Plan}
use Rattle.plan_rules.specs.Plans.{HasInput, HasShape, scan_of}
use Rattle.phys_plan.specs.Reading.{numbered}
use Rattle.plan_shape.specs.Shape.{are_before, consumer, has_sizes, is_consumed, is_fed, is_shaped, is_sink, is_whole, node_has_shape, suits_consumer, suits_plan, takes, times, uses}
use Rattle.plan_shape.specs.Shaped.{MeetsShape}

-- ---- tests

pub both : (a b : Bool) → (a && b) ≡ true → (a ≡ true) × (b ≡ true)
both true b e = (refl, e)
both false b e = absurd (cc)

either : {P : Type 0} (b : Bool) → (b ≡ true → P) → (b ≡ false → P) → P
either true t f = t refl
either false t f = f refl

not_true : (a : Bool) → not a ≡ true → a ≡ false
not_true true e = absurd (cc)
not_true false e = refl

-- ---- lists

all_at : {X : Type 0} (p : X → Bool) (xs : List X) (i : ℕ) (x : X) → list_all p xs ≡ true → slice_get xs i ≡ Some x → p x ≡ true
all_at p [] i x a e = absurd (cc)
all_at p (y ∷ xs) zero x a e = let h : y ≡ x = cc in subst (λ z. p z ≡ true) h (both (p y) (list_all p xs) a).0
all_at p (y ∷ xs) (suc i) x a e = all_at p xs i x (both (p y) (list_all p xs) a).1 e

eqb-same : (v : ℕ) → (v == v) ≡ true
eqb-same v = either (v == v) (λ t. t) (λ f. absurd (eqb-false v v f refl))

-- a number that stands in a list counts
times_at : (v : ℕ) (xs : List ℕ) (p : ℕ) → slice_get xs p ≡ Some v → 1 ≤ times v xs
times_at v [] p e = absurd (cc)
times_at v (x ∷ xs) zero e =
    let h : x ≡ v = cc in
    let t : (v == x) ≡ true = ap (λ y. v == y) h ∙ eqb-same v in
    let k : ◌≡◌ {A = ℕ} (cond (v == x) 1 0) 1 = ap (λ b. cond b 1 0) t in
    omega (arith, k)
times_at v (x ∷ xs) (suc p) e = let h : 1 ≤ times v xs = times_at v xs p e in omega (arith, h)

-- one that counts once stands at one place
times_one : (v : ℕ) (xs : List ℕ) (p q : ℕ) → times v xs ≤ 1 → slice_get xs p ≡ Some v → slice_get xs q ≡ Some v → p ≡ q
times_one v [] p q l e f = absurd (cc)
times_one v (x ∷ xs) zero zero l e f = refl
times_one v (x ∷ xs) zero (suc q) l e f =
    let h : x ≡ v = cc in
    let t : (v == x) ≡ true = ap (λ y. v == y) h ∙ eqb-same v in
    let k : ◌≡◌ {A = ℕ} (cond (v == x) 1 0) 1 = ap (λ b. cond b 1 0) t in
    let more : 1 ≤ times v xs = times_at v xs q f in
    absurd (omega (arith, k, more, l))
times_one v (x ∷ xs) (suc p) zero l e f =
    let h : x ≡ v = cc in
    let t : (v == x) ≡ true = ap (λ y. v == y) h ∙ eqb-same v in
    let k : ◌≡◌ {A = ℕ} (cond (v == x) 1 0) 1 = ap (λ b. cond b 1 0) t in
    let more : 1 ≤ times v xs = times_at v xs p e in
    absurd (omega (arith, k, more, l))
times_one v (x ∷ xs) (suc p) (suc q) l e f = let m : times v xs ≤ 1 = omega (arith, l) in ap suc (times_one v xs p q m e f)

uses_at : (v : ℕ) (nodes : List Node) (n p : ℕ) (node : Node) → slice_get nodes n ≡ Some node → slice_get node.inputs p ≡ Some v → 1 ≤ uses v nodes
uses_at v [] n p node e i = absurd (cc)
uses_at v (x ∷ nodes) zero p node e i =
    let h : x ≡ node = cc in
    let k : slice_get x.inputs p ≡ Some v = ap (λ (y : Node). slice_get y.inputs p) h ∙ i in
    let m : 1 ≤ times v x.inputs = times_at v x.inputs p k in
    omega (arith, m)
uses_at v (x ∷ nodes) (suc n) p node e i = let m : 1 ≤ uses v nodes = uses_at v nodes n p node e i in omega (arith, m)

-- a node that is used once feeds one port of one node
uses_one : (v : ℕ) (nodes : List Node) (n m p q : ℕ) (a b : Node) → uses v nodes ≤ 1 → slice_get nodes n ≡ Some a → slice_get nodes m ≡ Some b → slice_get a.inputs p ≡ Some v → slice_get b.inputs q ≡ Some v → (n ≡ m) × (p ≡ q)
uses_one v [] n m p q a b l e f i j = absurd (cc)
uses_one v (x ∷ nodes) zero zero p q a b l e f i j =
    let h : x ≡ a = cc in
    let k : x ≡ b = cc in
    let once : times v x.inputs ≤ 1 = omega (arith, l) in
    (refl, times_one v x.inputs p q once (ap (λ (y : Node). slice_get y.inputs p) h ∙ i) (ap (λ (y : Node). slice_get y.inputs q) k ∙ j))
uses_one v (x ∷ nodes) zero (suc m) p q a b l e f i j =
    let h : x ≡ a = cc in
    let one : 1 ≤ times v x.inputs = times_at v x.inputs p (ap (λ (y : Node). slice_get y.inputs p) h ∙ i) in
    let more : 1 ≤ uses v nodes = uses_at v nodes m q b f j in
    absurd (omega (arith, one, more, l))
uses_one v (x ∷ nodes) (suc n) zero p q a b l e f i j =
    let k : x ≡ b = cc in
    let one : 1 ≤ times v x.inputs = times_at v x.inputs q (ap (λ (y : Node). slice_get y.inputs q) k ∙ j) in
    let more : 1 ≤ uses v nodes = uses_at v nodes n p a e i in
    absurd (omega (arith, one, more, l))
uses_one v (x ∷ nodes) (suc n) (suc m) p q a b l e f i j =
    let few : uses v nodes ≤ 1 = omega (arith, l) in
    let r = uses_one v nodes n m p q a b few e f i j in
    (ap suc r.0, r.1)

-- ---- operators

no_inputs : (operator : Op) (source : ℕ) (inputs : List ℕ) → scan_of operator ≡ Some source → takes operator (length inputs) ≡ true → inputs ≡ []
no_inputs (op.Scan s) source [] e t = refl
no_inputs (op.Scan s) source (input ∷ inputs) e t = let h : suc (length inputs) ≡ 0 = eqb-true (suc (length inputs)) 0 t in absurd (omega (arith, h))
no_inputs _ source inputs e t = absurd (cc)

is_there : (plan : Plan) (operator : Op) (source : ℕ) → scan_of operator ≡ Some source → suits_plan plan operator ≡ true → source < length plan.sources
is_there plan (op.Scan s) source e t = let h : s ≡ source = cc in subst (λ n. n < length plan.sources) h (ltb-true s (length plan.sources) t)
is_there plan _ source e t = absurd (cc)

-- none but a scan takes no input
some_inputs : (operator : Op) (n : ℕ) → scan_of operator ≡ None → takes operator n ≡ true → 0 < n
some_inputs (op.Scan s) n e t = absurd (cc)
some_inputs _ zero e t = absurd (cc)
some_inputs _ (suc n) e t = omega arith

sinks_do_not_scan : (operator : Op) → is_sink (Some operator) ≡ true → scan_of operator ≡ None
sinks_do_not_scan (op.Scan s) t = absurd (cc)
sinks_do_not_scan _ t = refl

-- ---- nodes

record Within (nodes : List Node) (v : ℕ) (node : Node) : Type 0 where
  low : 1 ≤ v
  high : v ≤ length nodes
  place : ℕ
  number_is : v ≡ suc place
  is : slice_get nodes place ≡ Some node

within : (nodes : List Node) (v : ℕ) (node : Node) → numbered nodes v ≡ Some node → Within nodes v node
within nodes zero node e = absurd (cc)
within nodes (suc n) node e = let h : n < length nodes = slice_get_within nodes n node e in record { low = omega arith; high = omega (arith, h); place = n; number_is = refl; is = e }

-- what the rule says of a node
record Tells (plan : Plan) (v : ℕ) (node : Node) : Type 0 where
  before : are_before v node.inputs ≡ true
  suits : suits_plan plan node.op ≡ true
  fed : takes node.op (length node.inputs) ≡ true
  consumed : is_consumed plan v node.op ≡ true

module _ (plan : Plan) (meets : MeetsShape plan) where
  tells : (v : ℕ) (node : Node) → numbered plan.nodes v ≡ Some node → Tells plan v node
  tells v node e =
      let w = within plan.nodes v node e in
      let low : 1 ≤ v = w.low in
      let high : v ≤ max 1 (length plan.nodes) = omega (arith, w.high) in
      let here = (both (not (v == 1) || is_whole plan) (is_shaped plan v (numbered plan.nodes v)) (meets v low high)).1 in
      let node_is : node_has_shape plan v node ≡ true = sym (ap (is_shaped plan v) e) ∙ here in
      let first = both (are_before v node.inputs) _ node_is in
      let second = both (suits_plan plan node.op) _ first.1 in
      let third = both (is_fed plan node) _ second.1 in
      record { before = first.0; suits = second.0; fed = (both (takes node.op (length node.inputs)) _ third.0).0; consumed = third.1 }

  whole : is_whole plan ≡ true
  whole =
      let high : 1 ≤ max 1 (length plan.nodes) = omega arith in
      (both (is_whole plan) (is_shaped plan 1 (numbered plan.nodes 1)) (meets 1 (omega arith) high)).0

  sized : has_sizes plan ≡ true
  sized = (both (has_sizes plan) _ whole).0

  some_nodes : 1 ≤ length plan.nodes
  some_nodes = let n = both _ _ sized in let m = both _ _ n.0 in leb-true 1 (length plan.nodes) (both _ _ m.0).0

  some_subtasks : 1 ≤ plan.parallelism
  some_subtasks = let n = both _ _ sized in let m = both _ _ n.1 in leb-true 1 plan.parallelism (both _ _ m.1).0

  before-all : (v port input : ℕ) → HasInput plan v port input → (0 < input) × (input < v)
  before-all v port input has =
      let t = tells v has.node has.is_node in
      let b = both (nat_lt 0 input) (nat_lt input v) (all_at (λ i. nat_lt 0 i && nat_lt i v) has.node.inputs port input t.before has.is_input) in
      (ltb-true 0 input b.0, ltb-true input v b.1)

  -- what is asked of a node before the last
  abbrev feeds_one : ℕ → Op → Bool
  feeds_one v operator = not (is_sink (Some operator)) && (uses v plan.nodes == 1 && suits_consumer plan.sources operator (consumer v plan.nodes))

  at_last : (v : ℕ) (operator : Op) → (v == length plan.nodes) ≡ true → is_consumed plan v operator ≡ true → is_sink (Some operator) ≡ true
  at_last v operator e c = sym (ap (λ b. cond b (is_sink (Some operator)) (feeds_one v operator)) e) ∙ c

  at_inner : (v : ℕ) (operator : Op) → (v == length plan.nodes) ≡ false → is_consumed plan v operator ≡ true → feeds_one v operator ≡ true
  at_inner v operator e c = sym (ap (λ b. cond b (is_sink (Some operator)) (feeds_one v operator)) e) ∙ c

  -- a node with a consumer isn't the last
  once-used : (v port input : ℕ) (a : Node) → HasInput plan v port input → numbered plan.nodes input ≡ Some a → uses input plan.nodes ≤ 1
  once-used v port input a has is =
      let t = tells input a is in
      let b = before-all v port input has in
      let below : input < v = b.1 in
      let w = within plan.nodes v has.node has.is_node in
      let high : v ≤ length plan.nodes = w.high in
      either (input == length plan.nodes)
      (λ last. let l : input ≡ length plan.nodes = eqb-true input (length plan.nodes) last in absurd (omega (arith, l, below, high)))
      (λ inner.
      let consumed = at_inner input a.op inner t.consumed in
      let second = (both (not (is_sink (Some a.op))) (uses input plan.nodes == 1 && suits_consumer plan.sources a.op (consumer input plan.nodes)) consumed).1 in
      let one = (both (uses input plan.nodes == 1) (suits_consumer plan.sources a.op (consumer input plan.nodes)) second).0 in
      let u : uses input plan.nodes ≡ 1 = eqb-true (uses input plan.nodes) 1 one in
      omega (arith, u))

  found : (v : ℕ) → 1 ≤ v → v ≤ length plan.nodes → (node : Node) × (numbered plan.nodes v ≡ Some node)
  found zero l h = absurd (omega (arith, l))
  found (suc n) l h = at plan.nodes n (omega (arith, h))
    where
      at : (nodes : List Node) (i : ℕ) → i < length nodes → (node : Node) × (slice_get nodes i ≡ Some node)
      at [] i l = absurd (omega (arith, l))
      at (x ∷ nodes) zero l = (x, refl)
      at (x ∷ nodes) (suc i) l = at nodes i (omega (arith, l))

  once-all : (v w p q input : ℕ) → HasInput plan v p input → HasInput plan w q input → (v ≡ w) × (p ≡ q)
  once-all v w p q input has other =
      let b = before-all v p input has in
      let low : 0 < input = b.0 in
      let below : input < v = b.1 in
      let x = within plan.nodes v has.node has.is_node in
      let y = within plan.nodes w other.node other.is_node in
      let high : v ≤ length plan.nodes = x.high in
      let a = found input (omega (arith, low)) (omega (arith, below, high)) in
      let few : uses input plan.nodes ≤ 1 = once-used v p input a.0 has a.1 in
      let r = uses_one input plan.nodes x.place y.place p q has.node other.node few x.is y.is has.is_input other.is_input in
      (x.number_is ∙ ap suc r.0 ∙ sym y.number_is, r.1)

  scans-all : (v source : ℕ) (node : Node) → numbered plan.nodes v ≡ Some node → scan_of node.op ≡ Some source → (node.inputs ≡ []) × (source < length plan.sources) × (v < length plan.nodes)
  scans-all v source node e s =
      let t = tells v node e in
      let w = within plan.nodes v node e in
      let high : v ≤ length plan.nodes = w.high in
      let inner : v < length plan.nodes =
      either (v == length plan.nodes)
      (λ last.
      let sink : is_sink (Some node.op) ≡ true = at_last v node.op last t.consumed in
      let none : scan_of node.op ≡ None = sinks_do_not_scan node.op sink in
      let clash : Some source ≡ None = sym s ∙ none in
      absurd (cc))
      (λ other. let apart = eqb-false v (length plan.nodes) other in omega (arith, apart, high)) in
      (no_inputs node.op source node.inputs s t.fed, is_there plan node.op source s t.suits, inner)

  last-is : (node : Node) × (numbered plan.nodes (length plan.nodes) ≡ Some node) × (scan_of node.op ≡ None)
  last-is =
      let some : 1 ≤ length plan.nodes = some_nodes in
      let a = found (length plan.nodes) some (omega arith) in
      let t = tells (length plan.nodes) a.0 a.1 in
      let last : (length plan.nodes == length plan.nodes) ≡ true = eqb-same (length plan.nodes) in
      let sink : is_sink (Some a.0.op) ≡ true = at_last (length plan.nodes) a.0.op last t.consumed in
      (a.0, a.1, sinks_do_not_scan a.0.op sink)

  pub has_the_shape : HasShape plan
  has_the_shape = record {
    parallel = some_subtasks;
    before = before-all;
    once = once-all;
    scans = scans-all;
    others = λ v node e s. some_inputs node.op (length node.inputs) s (tells v node e).fed;
    last = last-is;
  }
