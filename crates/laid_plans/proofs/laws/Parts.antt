-- Nodes of a plan that lie behind one another, each of which meets what its operator asks, and each of which feeds one of them or is a root.
use Rattle.std.specs.Prelude.{◌≡◌, ℕ, ◌+◌, ◌<◌, ◌≤◌, ◌⊎◌, List, slice_get}
use Rattle.std.proofs.Common.{zero, suc, [], ◌∷◌, ap, ◌∙◌, arith, Some, inl, inr}
use Rattle.phys_plan.specs.declared.node.Op.{Op}
use Rattle.phys_plan.specs.declared.plan.Plan.{Plan}
use Rattle.plan_rules.specs.Plans.{HasInput}
use Rattle.laid_plans.proofs.laws.LaidTrees.{HasNode}
use Rattle.sound_plans.proofs.laws.Numbers.{side}
use Rattle.laid_plans.proofs.laws.Segments.{Segment, nothing, both, more}
use Rattle.laid_plans.proofs.laws.LaidNodes.{NodeMeets, OpMeets, node_meets}

module _ (plan : Plan) where
  -- a number of these
  abbrev pub IsAmong : List ℕ → ℕ → Type 0
  IsAmong roots v = (q : ℕ) × (slice_get roots q ≡ Some v)

  -- an input of a node up to the last
  abbrev pub IsUsed : ℕ → ℕ → Type 0
  IsUsed last v = (w : ℕ) × (p : ℕ) × (w ≤ last) × HasInput plan w p v

  -- the nodes behind n, up to the last, with their roots
  pub record Part (n last : ℕ) (roots : List ℕ) : Type 0 where
    pub segment : Segment plan (NodeMeets plan) n last roots
    pub used : (v : ℕ) → n < v → v ≤ last → IsAmong roots v ⊎ IsUsed last v

  -- none
  pub no_part : (n : ℕ) → Part n n []
  no_part n = record { segment = nothing plan (NodeMeets plan) n; used = λ v a b. absurd (omega arith) }

  -- an input of an earlier node
  used_earlier : (mid last v : ℕ) → mid ≤ last → IsUsed mid v → IsUsed last v
  used_earlier mid last v l u = (u.0, u.1, let k = u.2 in omega arith, u.3)

  -- a tree, and others behind it
  pub two_parts : (n mid last : ℕ) (others : List ℕ) → Part n mid (mid ∷ []) → Part mid last others → Part n last (mid ∷ others)
  two_parts n mid last others s t = record { segment = both plan (NodeMeets plan) n mid last others s.segment t.segment; used = λ v a b. go v b (side v mid) a }
    where
      first_of : (v q : ℕ) → slice_get (mid ∷ []) q ≡ Some v → slice_get (mid ∷ others) 0 ≡ Some v
      first_of v zero e = e
      first_of v (suc q) e = absurd (cc)

      go : (v : ℕ) → v ≤ last → (v ≤ mid) ⊎ (mid < v) → n < v → IsAmong (mid ∷ others) v ⊎ IsUsed last v
      go v b (inl c) a = elim (s.used v a c) [ inl r ↦ inl (0, first_of v r.0 r.1) | inr u ↦ inr (used_earlier mid last v t.segment.grows u) ]
      go v b (inr c) a = elim (t.used v c b) [ inl r ↦ inl (suc r.0, r.1) | inr u ↦ inr u ]

  -- a node behind the last, which all roots feed
  pub next_part : (n last root : ℕ) (roots : List ℕ) (o : Op) → Part n last roots → root ≡ last + 1 → HasNode plan root o roots → OpMeets plan root o roots → Part n root (root ∷ [])
  next_part n last root roots o s next has m =
      record { segment = more plan (NodeMeets plan) n last root roots has.node s.segment next has.is_there has.inputs_are (node_meets plan root o roots has m); used = λ v a b. go v a b (side v last) }
    where
      feeds : (v : ℕ) → IsAmong roots v → IsUsed root v
      feeds v r =
          let l : root ≤ root = omega arith in
          (root, r.0, l, record { node = has.node; is_node = has.is_there; is_input = ap (λ (ins : List ℕ). slice_get ins r.0) has.inputs_are ∙ r.1 })

      go : (v : ℕ) → n < v → v ≤ root → (v ≤ last) ⊎ (last < v) → IsAmong (root ∷ []) v ⊎ IsUsed root v
      go v a b (inl c) =
          let l : last ≤ root = omega arith in
          elim (s.used v a c) [ inl r ↦ inr (feeds v r) | inr u ↦ inr (used_earlier last root v l u) ]
      go v a b (inr c) = let e : root ≡ v = omega arith in inl (0, ap (λ y. Some y) e)
