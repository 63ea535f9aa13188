-- The last edge of a tree goes as what is laid above it asks.
use Rattle.std.specs.Prelude.{◌≡◌, ℕ, List, ◌++◌, length}
use Rattle.std.proofs.Common.{[], ◌∷◌, refl, sym, ap, subst, ◌∙◌}
use Rattle.mode_infer.specs.Kinds.{asked, by_columns, plain}
use Rattle.rel_algebra.specs.Rel.{Unary, filter_by, project_on, group_by, rank_in, Binary, join_on, semi_on, set_by, Rel, Two}
use Rattle.phys_plan.specs.declared.edge.Exchange.{Exchange}
use Rattle.phys_plan.specs.declared.edge.Exchange.TheVariants.{Forward}
use Rattle.phys_plan.specs.declared.node.Node.{Node}
use Rattle.phys_plan.specs.declared.node.Op.{Op}
use Rattle.plan_rules.specs.Roles.{unary_way, binary_way}
use Rattle.plan_rules.proofs.laws.Erasing.{of_groups}
use Rattle.plan_laying.specs.declared.laying_fault.LayingFault.{LayingFault}
use Rattle.plan_laying.specs.declared.laying_fault.LayingFault.TheVariants.{NoTable, Memory}
use Rattle.plan_laying.specs.declared.laying.Laid.{Laid}
use Rattle.plan_laying.specs.declared.laying.Laying.{Laying}
use Rattle.plan_laying.specs.Faults.{lacks_table}
use Rattle.plan_laying.specs.Laying.{bundles_of, Fails, Lays, Resent, Sends, Tops}
use Rattle.plan_laying.specs.Topped.{send_last}
use Rattle.plan_laying.proofs.laws.Laid.{two_lay}
use Rattle.plan_laying.proofs.laws.LastPieces.{same_nodes, other_edges}

-- then the tree is laid for that exchange
pub resent_lays : (old mid ahead : Laying) (x y : Exchange) (rel : Rel) (below : Laid) → Lays old mid x rel below → Resent y mid ahead → Lays old ahead y rel below
resent_lays old mid ahead x y rel below l s = record {
  adds = record {
    sources = s.sources ∙ l.adds.sources;
    bundles = s.bundles ∙ l.adds.bundles;
    nodes = s.nodes ∙ l.adds.nodes ∙ ap (λ (ns : List Node). old.nodes ++ ns) (same_nodes old.sources (bundles_of old) (length old.nodes) rel x y);
    edges = s.edges ∙ ap (send_last y) l.adds.edges ∙ other_edges old.sources (bundles_of old) (length old.nodes) rel x y old.edges;
  };
  root_is = l.root_is ∙ sym (ap length s.nodes);
  sends = l.sends;
  tables = l.tables;
}

pub resent_fails : (old ahead : Laying) (x : Exchange) (rel : Rel) (fault : LayingFault) → Resent x old ahead → Fails ahead rel fault → Fails old rel fault
resent_fails old ahead x rel NoTable s f = ap (λ sources. lacks_table sources rel) (sym s.sources) ∙ f
resent_fails old ahead x rel Memory s f = tt

-- ---- the operators of trees ask as their ways say

pub unary_asks : (size : ℕ) (how : Unary) → by_columns (asked ((unary_way how).op size) 0) ≡ (unary_way how).asks
unary_asks size (filter_by condition) = refl
unary_asks size (project_on items) = refl
unary_asks size (group_by keys aggs) = of_groups (λ o. by_columns (asked o 0) ≡ (unary_way (group_by keys aggs)).asks) size keys aggs refl (λ some keyed. refl)
unary_asks size (rank_in partition order bound ranked) = refl

left_asks : (how : Binary) → by_columns (asked (binary_way how).op 0) ≡ (binary_way how).left
left_asks (join_on kind pairs rest) = refl
left_asks (semi_on anti pairs rest) = refl
left_asks (set_by except all columns) = refl

right_asks : (how : Binary) → by_columns (asked (binary_way how).op 1) ≡ (binary_way how).right
right_asks (join_on kind pairs rest) = refl
right_asks (semi_on anti pairs rest) = refl
right_asks (set_by except all columns) = refl

-- an operator over two trees
pub two_tops : (mid ahead behind last new : Laying) (below second : Laid) (right : Rel) (o : Op) (root : Laid) → Resent (by_columns (asked o 0)) mid ahead → Lays ahead behind Forward right second → Resent (by_columns (asked o 1)) behind last
    → Sends last new o (below.root ∷ (second.root ∷ [])) (plain below.kinds ∷ (plain second.kinds ∷ [])) Forward root → (how : Binary) (left : Rel) → o ≡ (binary_way how).op → Tops mid new below (Two how left right) root
two_tops mid ahead behind last new below second right o root first m other p how left is =
    let to_left : Resent (binary_way how).left mid ahead = subst (λ (x : Exchange). Resent x mid ahead) (ap (λ (q : Op). by_columns (asked q 0)) is ∙ left_asks how) first in
    let to_right : Resent (binary_way how).right behind last = subst (λ (x : Exchange). Resent x behind last) (ap (λ (q : Op). by_columns (asked q 1)) is ∙ right_asks how) other in
    let sends = subst (λ (q : Op). Sends last new q (below.root ∷ (second.root ∷ [])) (plain below.kinds ∷ (plain second.kinds ∷ [])) Forward root) is p in
    record {
      tops = λ old l. two_lay old ahead last new Forward how left right below second root (resent_lays old mid ahead Forward (binary_way how).left left below l to_left)
          (resent_lays ahead behind last Forward (binary_way how).right right second m to_right) sends;
    }
