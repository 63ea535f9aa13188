-- Reading from the inputs up goes node by node.
use Rattle.std.proofs.Common.{◌≡◌, ℕ, ◌+◌, ◌<◌, List, [], ◌∷◌, ◌++◌, length, map, drop, get_or, refl, sym, ap, ◌∙◌}
use Rattle.std.proofs.lemmas.List.{drop_more}
use Rattle.phys_plan.specs.declared.node.Node.{Node}
use Rattle.phys_plan.specs.Reading.{Wire, wire, wires, at, read_up}

-- one node more
pub read_more : {B : Type 0} (f : Wire → List B → B) (d : B) (done : List B) (nodes : List Node) (i : ℕ) (node : Node) → i < length nodes → node ≡ get_or nodes i node → read_up f d (done ++ f (wire node) (map (at d done) node.inputs) ∷ []) (wires (drop (i + 1) nodes)) ≡ read_up f d done (wires (drop i nodes))
read_more f d done nodes i node h e =
    ap (λ (n : Node). read_up f d (done ++ f (wire n) (map (at d done) n.inputs) ∷ []) (wires (drop (i + 1) nodes))) e
    ∙ sym (ap (λ ns. read_up f d done (wires ns)) (drop_more nodes i node h))

-- nodes behind others are read behind them
pub read_append : {B : Type 0} (f : Wire → List B → B) (d : B) (done : List B) (xs ys : List Wire) → read_up f d done (xs ++ ys) ≡ read_up f d (read_up f d done xs) ys
read_append f d done [] ys = refl
read_append f d done (x ∷ xs) ys = read_append f d (done ++ f x (map (at d done) x.inputs) ∷ []) xs ys
