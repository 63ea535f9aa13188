-- Nodes that lie behind one another, with those of them that still feed no node: each input of one of them is one of them and lies
-- before it, none is an input twice, and each has a property.
use Rattle.std.specs.Prelude.{◌≡◌, ℕ, ◌+◌, ◌<◌, ◌≤◌, ◌⊎◌, List, slice_get}
use Rattle.std.proofs.Common.{zero, suc, [], ◌∷◌, refl, sym, ap, subst, ◌∙◌, arith, Some, inl, inr}
use Rattle.phys_plan.specs.declared.node.Node.{Node}
use Rattle.phys_plan.specs.declared.plan.Plan.{Plan}
use Rattle.plan_rules.specs.Plans.{HasInput}
use Rattle.phys_plan.specs.Reading.{numbered}
use Rattle.sound_plans.proofs.laws.Numbers.{the_same, side}

module _ (plan : Plan) (P : ℕ → Type 0) where
  -- the nodes behind n, up to the last, with their roots
  pub record Segment (n last : ℕ) (roots : List ℕ) : Type 0 where
    pub grows : n ≤ last
    pub contains : (p r : ℕ) → slice_get roots p ≡ Some r → (n < r) × (r ≤ last)
    pub distinct : (p q r : ℕ) → slice_get roots p ≡ Some r → slice_get roots q ≡ Some r → p ≡ q
    pub free : (v p q r : ℕ) → n < v → v ≤ last → HasInput plan v p r → slice_get roots q ≡ Some r → ⊥
    pub before : (v p input : ℕ) → n < v → v ≤ last → HasInput plan v p input → (n < input) × (input < v)
    pub once : (v w p q input : ℕ) → n < v → v ≤ last → n < w → w ≤ last → HasInput plan v p input → HasInput plan w q input → (v ≡ w) × (p ≡ q)
    pub each : (v : ℕ) → n < v → v ≤ last → P v

  pub nothing : (n : ℕ) → Segment n n []
  nothing n = record {
    grows = omega arith;
    contains = λ p r e. absurd (cc);
    distinct = λ p q r e f. absurd (cc);
    free = λ v p q r a b h e. absurd (cc);
    before = λ v p input a b h. absurd (omega arith);
    once = λ v w p q input a b c d h k. absurd (omega arith);
    each = λ v a b. absurd (omega arith);
  }

  -- a tree, and others behind it
  module _ (n mid last : ℕ) (others : List ℕ) (s : Segment n mid (mid ∷ [])) (t : Segment mid last others) where
    start : n < mid
    start = (s.contains 0 mid refl).0

    contains_both : (p r : ℕ) → slice_get (mid ∷ others) p ≡ Some r → (n < r) × (r ≤ last)
    contains_both zero r e = let same : mid ≡ r = the_same mid r e in let a = start in let b = t.grows in (omega arith, omega arith)
    contains_both (suc p) r e = let c = t.contains p r e in let a = start in (let d = c.0 in omega arith, c.1)

    distinct_both : (p q r : ℕ) → slice_get (mid ∷ others) p ≡ Some r → slice_get (mid ∷ others) q ≡ Some r → p ≡ q
    distinct_both zero zero r e f = refl
    distinct_both zero (suc q) r e f = absurd (let same = the_same mid r e in let c = (t.contains q r f).0 in omega arith)
    distinct_both (suc p) zero r e f = absurd (let same = the_same mid r f in let c = (t.contains p r e).0 in omega arith)
    distinct_both (suc p) (suc q) r e f = ap suc (t.distinct p q r e f)

    free_both : (v p q r : ℕ) → n < v → v ≤ last → HasInput plan v p r → slice_get (mid ∷ others) q ≡ Some r → ⊥
    free_both v p zero r a b h e =
        let same = the_same mid r e in
        elim (side v mid) [ inl c ↦ s.free v p 0 r a c h e | inr c ↦ let d = (t.before v p r c b h).0 in omega arith ]
    free_both v p (suc q) r a b h e =
        elim (side v mid) [
          | inl c ↦ let d = (s.before v p r a c h).1 in let f = (t.contains q r e).0 in omega arith
          | inr c ↦ t.free v p q r c b h e
        ]

    before_both : (v p input : ℕ) → n < v → v ≤ last → HasInput plan v p input → (n < input) × (input < v)
    before_both v p input a b h =
        elim (side v mid) [
          | inl c ↦ s.before v p input a c h
          | inr c ↦ let d = t.before v p input c b h in let e = d.0 in let f = start in (omega arith, d.1)
        ]

    once_both : (v w p q input : ℕ) → n < v → v ≤ last → n < w → w ≤ last → HasInput plan v p input → HasInput plan w q input → (v ≡ w) × (p ≡ q)
    once_both v w p q input a b c d h k = go (side v mid) (side w mid)
      where
        go : (v ≤ mid) ⊎ (mid < v) → (w ≤ mid) ⊎ (mid < w) → (v ≡ w) × (p ≡ q)
        go (inl e) (inl f) = s.once v w p q input a e c f h k
        go (inr e) (inr f) = t.once v w p q input e b f d h k
        go (inl e) (inr f) = absurd (let x = (s.before v p input a e h).1 in let y = (t.before w q input f d k).0 in omega arith)
        go (inr e) (inl f) = absurd (let x = (t.before v p input e b h).0 in let y = (s.before w q input c f k).1 in omega arith)

    pub both : Segment n last (mid ∷ others)
    both = record {
      grows = let a = start in let b = t.grows in omega arith;
      contains = contains_both;
      distinct = distinct_both;
      free = free_both;
      before = before_both;
      once = once_both;
      each = λ v a b. elim (side v mid) [ inl c ↦ s.each v a c | inr c ↦ t.each v c b ];
    }

  -- a node behind the last, which all roots feed
  module _ (n last root : ℕ) (roots : List ℕ) (node : Node) (s : Segment n last roots) (next : root ≡ last + 1)
      (is : numbered plan.nodes root ≡ Some node) (inputs_are : node.inputs ≡ roots) (here : P root) where
    input_of : (v p input : ℕ) → v ≡ root → HasInput plan v p input → slice_get roots p ≡ Some input
    input_of v p input e h =
        let same : h.node ≡ node = the_same h.node node (sym h.is_node ∙ ap (numbered plan.nodes) e ∙ is) in
        subst (λ inputs. slice_get inputs p ≡ Some input) (ap (λ (x : Node). x.inputs) same ∙ inputs_are) h.is_input

    contains_more : (p r : ℕ) → slice_get (root ∷ []) p ≡ Some r → (n < r) × (r ≤ root)
    contains_more zero r e = let same : root ≡ r = the_same root r e in let g = s.grows in (omega arith, omega arith)
    contains_more (suc p) r e = absurd (cc)

    distinct_more : (p q r : ℕ) → slice_get (root ∷ []) p ≡ Some r → slice_get (root ∷ []) q ≡ Some r → p ≡ q
    distinct_more zero zero r e f = refl
    distinct_more zero (suc q) r e f = absurd (cc)
    distinct_more (suc p) q r e f = absurd (cc)

    before_more : (v p input : ℕ) → n < v → v ≤ root → HasInput plan v p input → (n < input) × (input < v)
    before_more v p input a b h =
        elim (side v last) [
          | inl c ↦ s.before v p input a c h
          | inr c ↦ let e : v ≡ root = omega arith in let d = s.contains p input (input_of v p input e h) in (d.0, let f = d.1 in omega arith)
        ]

    free_more : (v p q r : ℕ) → n < v → v ≤ root → HasInput plan v p r → slice_get (root ∷ []) q ≡ Some r → ⊥
    free_more v p zero r a b h e = let same = the_same root r e in let d = (before_more v p r a b h).1 in omega arith
    free_more v p (suc q) r a b h e = absurd (cc)

    once_more : (v w p q input : ℕ) → n < v → v ≤ root → n < w → w ≤ root → HasInput plan v p input → HasInput plan w q input → (v ≡ w) × (p ≡ q)
    once_more v w p q input a b c d h k = go (side v last) (side w last)
      where
        go : (v ≤ last) ⊎ (last < v) → (w ≤ last) ⊎ (last < w) → (v ≡ w) × (p ≡ q)
        go (inl e) (inl f) = s.once v w p q input a e c f h k
        go (inr e) (inr f) =
            let i : v ≡ root = omega arith in
            let j : w ≡ root = omega arith in
            (i ∙ sym j, s.distinct p q input (input_of v p input i h) (input_of w q input j k))
        go (inl e) (inr f) = absurd (s.free v p q input a e h (input_of w q input (omega arith) k))
        go (inr e) (inl f) = absurd (s.free w q p input c f k (input_of v p input (omega arith) h))

    pub more : Segment n root (root ∷ [])
    more = record {
      grows = let g = s.grows in omega arith;
      contains = contains_more;
      distinct = distinct_more;
      free = free_more;
      before = before_more;
      once = once_more;
      each = λ v a b. elim (side v last) [ inl c ↦ s.each v a c | inr c ↦ subst P (let e : root ≡ v = omega arith in e) here ];
    }
