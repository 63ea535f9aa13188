-- The last piece of a tree: only its edge goes as the consumer asks for it, and its node is no materializer.
use Rattle.std.specs.Prelude.{◌≡◌, ℕ, ◌+◌, List, ◌++◌, length, slice_get, Option}
use Rattle.std.proofs.Common.{false, [], ◌∷◌, refl, sym, ap, ◌∙◌, Some, None}
use Rattle.std.proofs.lemmas.List.{append_assoc, map-append}
use Rattle.ct_change.specs.Changelog.{append, retract, upsert, kinds_of}
use Rattle.ct_change.specs.declared.kind.Declared.{Declared}
use Rattle.ct_change.specs.declared.kind.Declared.TheVariants.{Append, Retract, Upsert}
use Rattle.ct_change.specs.declared.kind.KindSet.{KindSet}
use Rattle.ct_change.specs.declared.update.Update.TheVariants.{After, Both}
use Rattle.ct_catalog.specs.declared.table.TableDef.{TableDef}
use Rattle.mode_infer.specs.Kinds.{inserts, no_kinds}
use Rattle.rel_algebra.specs.Rel.{Unary, filter_by, project_on, group_by, rank_in, Binary, join_on, Rel, Scan, One, Two, Many}
use Rattle.phys_plan.specs.declared.edge.Edge.{Edge}
use Rattle.phys_plan.specs.declared.edge.Exchange.{Exchange}
use Rattle.phys_plan.specs.declared.edge.Exchange.TheVariants.{Forward, Hash}
use Rattle.phys_plan.specs.declared.node.Op.{Op}
use Rattle.phys_plan.specs.declared.node.Op.TheVariants as op
use Rattle.plan_rules.specs.Phases.{Bundles, local_below}
use Rattle.plan_rules.specs.Pieces.{Piece, edge_of, piece, full_piece, one_pieces, topped, scan_pieces, source_pieces, pieces_of, pieces_of_all, roots_of, nodes_in, edges_in}
use Rattle.plan_rules.specs.Roles.{unary_way, binary_way}
use Rattle.plan_rules.specs.TreeKinds.{tree_kinds}
use Rattle.plan_rules.proofs.laws.Erasing.{of_groups}
use Rattle.sound_plans.proofs.laws.Agreed.{materializes}
use Rattle.plan_laying.specs.Topped.{send_last}
use Rattle.plan_laying.proofs.laws.LastEdges.{hashed}

pub record EndsAsAsked (pieces : Exchange → List Piece) : Type 0 where
  pub front : List Piece
  pub operator : Op
  pub inputs : List ℕ
  pub kinds : KindSet
  pub other : materializes operator ≡ false
  pub are : (x : Exchange) → pieces x ≡ front ++ full_piece operator inputs x kinds ∷ []

scan_ends : (n source : ℕ) (mode : Declared) (key : List ℕ) → EndsAsAsked (λ x. scan_pieces n x source mode key)
scan_ends n source Append key = record { front = []; operator = op.Scan source; inputs = []; kinds = kinds_of append; other = refl; are = λ x. refl }
scan_ends n source Retract key = record { front = []; operator = op.Scan source; inputs = []; kinds = kinds_of retract; other = refl; are = λ x. refl }
scan_ends n source Upsert key =
    record { front = piece (op.Scan source) [] (Hash key) (kinds_of (upsert key)) (After key) ∷ []; operator = op.Normalize key; inputs = (n + 1) ∷ []; kinds = kinds_of retract; other = refl; are = λ x. refl }

source_ends : (n source : ℕ) (table : Option TableDef) → EndsAsAsked (λ x. source_pieces n x source table)
source_ends n source None = record { front = []; operator = op.Scan source; inputs = []; kinds = no_kinds; other = refl; are = λ x. refl }
source_ends n source (Some table) = scan_ends n source table.mode _

unary_other : (size : ℕ) (how : Unary) → materializes ((unary_way how).op size) ≡ false
unary_other size (filter_by condition) = refl
unary_other size (project_on items) = refl
unary_other size (group_by keys aggs) = of_groups (λ o. materializes o ≡ false) size keys aggs refl (λ some keyed. refl)
unary_other size (rank_in partition order bound ranked) = refl

binary_other : (how : Binary) → materializes (binary_way how).op ≡ false
binary_other (join_on kind pairs rest) = refl
binary_other _ = refl

one_ends : (n : ℕ) (b : Bundles) (how : Unary) (below : Exchange → List Piece) (kinds : KindSet) (local : Option Op) → EndsAsAsked (λ x. one_pieces n b how local below x kinds)
one_ends n b how below kinds None =
    record { front = below (unary_way how).asks; operator = (unary_way how).op b.size; inputs = (n + length (below (unary_way how).asks)) ∷ []; kinds = kinds; other = unary_other b.size how; are = λ x. refl }
one_ends n b how below kinds (Some local) =
    let qs = topped n (below Forward) local (unary_way how).asks inserts in
    record { front = qs; operator = (unary_way how).op b.size; inputs = (n + length qs) ∷ []; kinds = kinds; other = unary_other b.size how; are = λ x. refl }

pub tree_ends : (sources : List TableDef) (b : Bundles) (n : ℕ) (rel : Rel) → EndsAsAsked (λ x. pieces_of sources b n x rel)
tree_ends sources b n (Scan source) = source_ends n source (slice_get sources source)
tree_ends sources b n (One how input) = one_ends n b how (λ asks. pieces_of sources b n asks input) (tree_kinds sources (One how input)) (local_below b how (tree_kinds sources input))
tree_ends sources b n (Two how left right) =
    let ps = pieces_of sources b n (binary_way how).left left in
    let qs = pieces_of sources b (n + length (pieces_of sources b n (binary_way how).left left)) (binary_way how).right right in
    record {
      front = ps ++ qs;
      operator = (binary_way how).op;
      inputs = (n + length ps) ∷ ((n + length ps + length qs) ∷ []);
      kinds = tree_kinds sources (Two how left right);
      other = binary_other how;
      are = λ x. refl;
    }
tree_ends sources b n (Many inputs) =
    record { front = pieces_of_all sources b n inputs; operator = op.Union; inputs = roots_of sources b n inputs; kinds = tree_kinds sources (Many inputs); other = refl; are = λ x. refl }

pub nodes_end : (ps : List Piece) (p : Piece) → nodes_in (ps ++ p ∷ []) ≡ nodes_in ps ++ p.node ∷ []
nodes_end ps p = map-append (λ (q : Piece). q.node) ps (p ∷ [])

pub edges_end : (ps : List Piece) (p : Piece) → edges_in (ps ++ p ∷ []) ≡ edges_in ps ++ p.edge ∷ []
edges_end ps p = map-append (λ (q : Piece). q.edge) ps (p ∷ [])

-- a tree for another exchange: the same nodes, and its last edge goes by that
module _ (sources : List TableDef) (b : Bundles) (n : ℕ) (rel : Rel) (x y : Exchange) where
  abbrev ends : EndsAsAsked (λ z. pieces_of sources b n z rel)
  ends = tree_ends sources b n rel

  pub same_nodes : nodes_in (pieces_of sources b n x rel) ≡ nodes_in (pieces_of sources b n y rel)
  same_nodes =
      ap nodes_in (ends.are x) ∙ nodes_end ends.front (full_piece ends.operator ends.inputs x ends.kinds)
      ∙ sym (ap nodes_in (ends.are y) ∙ nodes_end ends.front (full_piece ends.operator ends.inputs y ends.kinds))

  pub other_edges : (ahead : List Edge) → send_last y (ahead ++ edges_in (pieces_of sources b n x rel)) ≡ ahead ++ edges_in (pieces_of sources b n y rel)
  other_edges ahead =
      let own : (z : Exchange) → edges_in (pieces_of sources b n z rel) ≡ edges_in ends.front ++ edge_of z ends.kinds Both ∷ [] =
      λ z. ap edges_in (ends.are z) ∙ edges_end ends.front (full_piece ends.operator ends.inputs z ends.kinds) in
      ap (λ (es : List Edge). send_last y (ahead ++ es)) (own x) ∙ ap (send_last y) (sym (append_assoc ahead (edges_in ends.front) (edge_of x ends.kinds Both ∷ [])))
      ∙ hashed y (ahead ++ edges_in ends.front) (edge_of x ends.kinds Both) ∙ append_assoc ahead (edges_in ends.front) (edge_of y ends.kinds Both ∷ []) ∙ ap (λ (es : List Edge). ahead ++ es) (sym (own y))
