-- The consumer of an edge, as far as a loop has come.
use Rattle.std.proofs.Common.{◌≡◌, ℕ, ◌+◌, ◌<◌, true, false, cond, List, ◌∷◌, length, drop, get_or, Some, sym, ap, ◌∙◌}
use Rattle.std.proofs.lemmas.List.{at_drop_more}
use Rattle.phys_plan.specs.declared.node.Node.{Node}
use Rattle.mode_infer.specs.Updates.{is_input}
use Rattle.plan_inferred.specs.Rules.{consumer}

more : (v : ℕ) (nodes : List Node) (i : ℕ) (node : Node) → i < length nodes → node ≡ get_or nodes i node
    → consumer v (drop i nodes) ≡ cond (is_input v node.inputs) (Some node) (consumer v (drop (i + 1) nodes))
more v nodes i node l h = at_drop_more (consumer v) nodes i node l ∙ ap (λ (x : Node). consumer v (x ∷ drop (i + 1) nodes)) (sym h)

pub found_here : (v : ℕ) (nodes : List Node) (i : ℕ) (node : Node) → i < length nodes → node ≡ get_or nodes i node → is_input v node.inputs ≡ true → consumer v (drop i nodes) ≡ Some node
found_here v nodes i node l h t = more v nodes i node l h ∙ ap (λ b. cond b (Some node) (consumer v (drop (i + 1) nodes))) t

pub not_here : (v : ℕ) (nodes : List Node) (i : ℕ) (node : Node) → i < length nodes → node ≡ get_or nodes i node → is_input v node.inputs ≡ false → consumer v (drop i nodes) ≡ consumer v (drop (i + 1) nodes)
not_here v nodes i node l h t = more v nodes i node l h ∙ ap (λ b. cond b (Some node) (consumer v (drop (i + 1) nodes))) t
