-- The tree of the plan of a tree is that tree.
use Rattle.std.proofs.Common.{◌≡◌, ℕ, zero, suc, ◌+◌, ◌<◌, ◌==◌, ◌||◌, Bool, true, false, cond, List, [], ◌∷◌, ◌++◌, length, map, slice_get, Option, Some, None, option_map, refl, sym, ap, subst, ◌∙◌, arith, append_assoc, append-nil, length-append}
use Rattle.std.specs.Option.{unwrap_or}
use Rattle.std.proofs.lemmas.Bool.{eqb-false}
use Rattle.std.proofs.lemmas.List.{length-map, map-append}
use Rattle.ct_change.specs.Changelog.{append, retract, upsert, kinds_of}
use Rattle.ct_change.specs.declared.kind.Declared.{Declared}
use Rattle.ct_change.specs.declared.kind.Declared.TheVariants.{Append, Retract, Upsert}
use Rattle.ct_change.specs.declared.kind.KindSet.{KindSet}
use Rattle.ct_change.specs.declared.update.Update.{Update}
use Rattle.ct_change.specs.declared.update.Update.TheVariants.{Absent, After, Both}
use Rattle.ct_catalog.specs.declared.table.TableDef.{TableDef}
use Rattle.ct_expr.specs.Expr.{Expr}
use Rattle.ct_expr.specs.View.{expr_view}
use Rattle.ct_expr.specs.Views.{expr_of}
use Rattle.ct_expr.proofs.laws.Seen.{seen}
use Rattle.mode_infer.specs.Kinds.{inserts, no_kinds}
use Rattle.rel_algebra.specs.declared.agg.Agg.{Agg}
use Rattle.rel_algebra.specs.Rel.{Unary, filter_by, project_on, group_by, rank_in, Binary, join_on, semi_on, Rel, Rels, Scan, One, Two, Many, no_rels, rel_and, rels}
use Rattle.phys_plan.specs.Reading.{at, numbered, read_up, wire, wires}
use Rattle.phys_plan.specs.declared.edge.Exchange.{Exchange}
use Rattle.phys_plan.specs.declared.edge.Exchange.TheVariants.{Forward, Hash}
use Rattle.phys_plan.specs.declared.node.Op.{Op}
use Rattle.phys_plan.specs.declared.node.Op.TheVariants as op
use Rattle.phys_plan.proofs.laws.Reading.{read_append}
use Rattle.plan_rules.specs.Answers.{TreesAreErased}
use Rattle.plan_rules.specs.Phases.{Bundles, in_phases, local_below}
use Rattle.plan_rules.specs.Pieces.{Piece, piece, scan_pieces, source_pieces, topped, topped_both, one_pieces, pieces_of, pieces_of_all, roots_of, nodes_in, Top, bare, shown, asks_of, with_top, with_sink}
use Rattle.plan_rules.specs.Roles.{nothing, one_of, two_of, same_as, role, tree_of, group_op, unary_way, binary_way}
use Rattle.plan_rules.specs.TreeKinds.{tree_kinds}
use Rattle.plan_rules.proofs.laws.Numbers.{get_at, get_more}

-- ---- expressions are seen

pub each_seen : (items : List Expr) → map expr_view (map expr_of items) ≡ items
each_seen [] = refl
each_seen (x ∷ items) = λ i. seen x i ∷ each_seen items i

pub rest_seen : (rest : Option Expr) → option_map expr_view (option_map expr_of rest) ≡ rest
rest_seen None = refl
rest_seen (Some x) = ap Some (seen x)

-- ---- by operator

some_held : (n : ℕ) → (n == 0) ≡ false → 0 < n
some_held n e = let other = eqb-false n 0 e in omega (arith, other)

-- what is said of a group without bundles, and of one by keys in bundles that hold something, is said of the group of a tree
pub of_groups : (Holds : Op → Type 0) (mini_batch keys : ℕ) (aggs : List Agg) → Holds (op.Group keys aggs) → (0 < mini_batch → 0 < keys → Holds (op.BatchGroup keys aggs)) → Holds (group_op mini_batch keys aggs)
of_groups Holds mini_batch keys aggs plain bundles = by (mini_batch == 0) (keys == 0) refl refl
  where
    by : (none global : Bool) → (mini_batch == 0) ≡ none → (keys == 0) ≡ global → Holds (cond (none || global) (op.Group keys aggs) (op.BatchGroup keys aggs))
    by true global e f = plain
    by false true e f = plain
    by false false e f = bundles (some_held mini_batch e) (some_held keys f)

-- what is said of local groups is said of the one below a group of a tree
pub of_local : (Holds : Op → Type 0) → ((keys : ℕ) (aggs : List Agg) → Holds (op.LocalGroup keys aggs)) → (b : Bundles) (how : Unary) (kinds : KindSet) (local : Op) → local_below b how kinds ≡ Some local → Holds local
of_local Holds said b (group_by keys aggs) kinds local e = by (in_phases b keys aggs kinds) e
  where
    by : (t : Bool) → cond t (Some (op.LocalGroup keys aggs)) None ≡ Some local → Holds local
    by true h = let same : op.LocalGroup keys aggs ≡ local = cc in subst Holds same (said keys aggs)
    by false h = absurd (cc)
of_local Holds said b (filter_by condition) kinds local e = absurd (cc)
of_local Holds said b (project_on items) kinds local e = absurd (cc)
of_local Holds said b (rank_in partition order bound ranked) kinds local e = absurd (cc)

-- the operator of a tree's way is the tree's
pub unary_told : (mini_batch : ℕ) (how : Unary) → role ((unary_way how).op mini_batch) ≡ one_of how
unary_told mini_batch (filter_by condition) = ap (λ c. one_of (filter_by c)) (seen condition)
unary_told mini_batch (project_on items) = ap (λ l. one_of (project_on l)) (each_seen items)
unary_told mini_batch (group_by keys aggs) = of_groups (λ o. role o ≡ one_of (group_by keys aggs)) mini_batch keys aggs refl (λ some keyed. refl)
unary_told mini_batch (rank_in partition order bound ranked) = refl

pub binary_told : (how : Binary) → role (binary_way how).op ≡ two_of how
binary_told (join_on kind pairs rest) = ap (λ r. two_of (join_on kind pairs r)) (rest_seen rest)
binary_told (semi_on anti pairs rest) = ap (λ r. two_of (semi_on anti pairs r)) (rest_seen rest)
-- all others hold no expression
binary_told _ = refl

-- ---- the trees of pieces behind these trees

abbrev after : List Rel → List Piece → List Rel
after done pieces = read_up (λ w below. tree_of (role w.op) below) nothing done (wires (nodes_in pieces))

after_more : (done : List Rel) (ps qs : List Piece) → after done (ps ++ qs) ≡ after (after done ps) qs
after_more done ps qs =
    ap (λ ns. read_up (λ w below. tree_of (role w.op) below) nothing done (wires ns)) (map-append (λ (p : Piece). p.node) ps qs)
    ∙ ap (read_up (λ w below. tree_of (role w.op) below) nothing done) (map-append wire (nodes_in ps) (nodes_in qs))
    ∙ read_append (λ w below. tree_of (role w.op) below) nothing done (wires (nodes_in ps)) (wires (nodes_in qs))

number_more : (xs ys : List Rel) (v : ℕ) (x : Rel) → numbered xs v ≡ Some x → numbered (xs ++ ys) v ≡ Some x
number_more xs ys zero x e = absurd (cc)
number_more xs ys (suc v) x e = get_more xs ys v x e

-- behind n trees, those of pieces go on, one for each
record GoOn (n : ℕ) (done : List Rel) (pieces : List Piece) : Type 0 where
  pub more : List Rel
  pub begins : after done pieces ≡ done ++ more
  pub many : length (after done pieces) ≡ n + length pieces

-- and the last is this
record Ends (n : ℕ) (done : List Rel) (pieces : List Piece) (rel : Rel) : Type 0 where
  pub goes : GoOn n done pieces
  pub root : numbered (after done pieces) (n + length pieces) ≡ Some rel

-- those of pieces and of others behind them
both_go : (n : ℕ) (done : List Rel) (ps qs : List Piece) → GoOn n done ps → GoOn (n + length ps) (after done ps) qs → GoOn n done (ps ++ qs)
both_go n done ps qs p q = record {
  more = p.more ++ q.more;
  begins = after_more done ps qs ∙ q.begins ∙ ap (λ l. l ++ q.more) p.begins ∙ append_assoc done p.more q.more;
  many = let count = ap length (after_more done ps qs) ∙ q.many in omega (arith, count, length-append ps qs);
}

-- a tree that was there stays
stays : (n : ℕ) (done : List Rel) (ps qs : List Piece) (v : ℕ) (rel : Rel) → GoOn (n + length ps) (after done ps) qs → numbered (after done ps) v ≡ Some rel → at nothing (after done (ps ++ qs)) v ≡ rel
stays n done ps qs v rel q e =
    ap (λ l. at nothing l v) (after_more done ps qs ∙ q.begins) ∙ ap (λ o. unwrap_or o nothing) (number_more (after done ps) q.more v rel e)

-- a node more, whose tree is this
ends_on : (n : ℕ) (done : List Rel) (ps : List Piece) (o : Op) (inputs : List ℕ) (x : Exchange) (kinds : KindSet) (update : Update) (rel : Rel) → GoOn n done ps
    → tree_of (role o) (map (at nothing (after done ps)) inputs) ≡ rel → Ends n done (ps ++ piece o inputs x kinds update ∷ []) rel
ends_on n done ps o inputs x kinds update rel p e =
    let last = piece o inputs x kinds update in
    let trees = after done ps in
    let is : after done (ps ++ last ∷ []) ≡ trees ++ rel ∷ [] = after_more done ps (last ∷ []) ∙ ap (λ r. trees ++ r ∷ []) e in
    let size = length-append ps (last ∷ []) in
    let count : length (after done (ps ++ last ∷ [])) ≡ n + length (ps ++ last ∷ []) = ap length is ∙ (let own = length-append trees (rel ∷ []) in omega (arith, own, p.many, size)) in
    let place : n + length (ps ++ last ∷ []) ≡ suc (length trees) = omega (arith, p.many, size) in
    record {
      goes = record { more = p.more ++ rel ∷ []; begins = is ∙ ap (λ l. l ++ rel ∷ []) p.begins ∙ append_assoc done p.more (rel ∷ []); many = count };
      root = (λ i. numbered (is i) (place i)) ∙ get_at trees [] rel;
    }

-- the tree at the root of pieces
root_is : (n : ℕ) (done : List Rel) (ps : List Piece) (rel : Rel) → Ends n done ps rel → at nothing (after done ps) (n + length ps) ≡ rel
root_is n done ps rel e = ap (λ o. unwrap_or o nothing) e.root

-- over one root
topped_ends : (n : ℕ) (done : List Rel) (ps : List Piece) (o : Op) (x : Exchange) (kinds : KindSet) (input rel : Rel) → Ends n done ps input → tree_of (role o) (input ∷ []) ≡ rel → Ends n done (topped n ps o x kinds) rel
topped_ends n done ps o x kinds input rel p e =
    ends_on n done ps o ((n + length ps) ∷ []) x kinds Both rel p.goes (ap (λ t. tree_of (role o) (t ∷ [])) (root_is n done ps input p) ∙ e)

-- and over two
both_end : (n : ℕ) (done : List Rel) (ps qs : List Piece) (o : Op) (x : Exchange) (kinds : KindSet) (left right rel : Rel) → Ends n done ps left → Ends (n + length ps) (after done ps) qs right
    → tree_of (role o) (left ∷ (right ∷ [])) ≡ rel → Ends n done (topped_both n ps qs o x kinds) rel
both_end n done ps qs o x kinds left right rel p q e =
    let first : at nothing (after done (ps ++ qs)) (n + length ps) ≡ left = stays n done ps qs (n + length ps) left q.goes p.root in
    let second : at nothing (after done (ps ++ qs)) (n + length ps + length qs) ≡ right =
    ap (λ l. at nothing l (n + length ps + length qs)) (after_more done ps qs) ∙ root_is (n + length ps) (after done ps) qs right q in
    ends_on n done (ps ++ qs) o ((n + length ps) ∷ ((n + length ps + length qs) ∷ [])) x kinds Both rel (both_go n done ps qs p.goes q.goes)
    ((λ i. tree_of (role o) (first i ∷ (second i ∷ []))) ∙ e)

-- ---- tables

-- nothing more
none_more : (n : ℕ) (done : List Rel) → length done ≡ n → GoOn n done []
none_more n done size = record { more = []; begins = sym (append-nil done); many = (let same : length done ≡ n + 0 = omega (arith, size) in same) }

scan_ends : (n : ℕ) (done : List Rel) (size : length done ≡ n) (x : Exchange) (source : ℕ) (mode : Declared) (key : List ℕ) → Ends n done (scan_pieces n x source mode key) (Scan source)
scan_ends n done size x source Append key = ends_on n done [] (op.Scan source) [] x (kinds_of append) Both (Scan source) (none_more n done size) refl
scan_ends n done size x source Retract key = ends_on n done [] (op.Scan source) [] x (kinds_of retract) Both (Scan source) (none_more n done size) refl
scan_ends n done size x source Upsert key =
    let scan = piece (op.Scan source) [] (Hash key) (kinds_of (upsert key)) (After key) in
    let first : Ends n done (scan ∷ []) (Scan source) = ends_on n done [] (op.Scan source) [] (Hash key) (kinds_of (upsert key)) (After key) (Scan source) (none_more n done size) refl in
    topped_ends n done (scan ∷ []) (op.Normalize key) x (kinds_of retract) (Scan source) (Scan source) first refl

source_ends : (n : ℕ) (done : List Rel) (size : length done ≡ n) (x : Exchange) (source : ℕ) (table : Option TableDef) → Ends n done (source_pieces n x source table) (Scan source)
source_ends n done size x source None = ends_on n done [] (op.Scan source) [] x no_kinds Both (Scan source) (none_more n done size) refl
source_ends n done size x source (Some table) = scan_ends n done size x source table.mode (unwrap_or table.key [])

-- ---- the tree

-- a local group's tree is its input's
pub local_told : (b : Bundles) (how : Unary) (kinds : KindSet) (local : Op) (input : Rel) → local_below b how kinds ≡ Some local → tree_of (role local) (input ∷ []) ≡ input
local_told b how kinds local input e = of_local (λ o. tree_of (role o) (input ∷ []) ≡ input) (λ keys aggs. refl) b how kinds local e

module _ (sources : List TableDef) (b : Bundles) where
  -- a node with one input, over a local group or not
  one_ends : (how : Unary) (input : Rel) (n : ℕ) (done : List Rel) (x : Exchange) (kinds : KindSet) → ((asks : Exchange) → Ends n done (pieces_of sources b n asks input) input) → (local : Option Op) → local_below b how (tree_kinds sources input) ≡ local
      → Ends n done (one_pieces n b how local (λ asks. pieces_of sources b n asks input) x kinds) (One how input)
  one_ends how input n done x kinds below None e =
      topped_ends n done (pieces_of sources b n (unary_way how).asks input) ((unary_way how).op b.size) x kinds input (One how input) (below (unary_way how).asks) (ap (λ r. tree_of r (input ∷ [])) (unary_told b.size how))
  one_ends how input n done x kinds below (Some local) e =
      let ps = pieces_of sources b n Forward input in
      let under : Ends n done (topped n ps local (unary_way how).asks inserts) input =
      topped_ends n done ps local (unary_way how).asks inserts input input (below Forward) (local_told b how (tree_kinds sources input) local input e) in
      topped_ends n done (topped n ps local (unary_way how).asks inserts) ((unary_way how).op b.size) x kinds input (One how input) under (ap (λ r. tree_of r (input ∷ [])) (unary_told b.size how))

  -- several trees behind n trees
  record AllEnd (n : ℕ) (done : List Rel) (inputs : Rels) : Type 0 where
    pub goes : GoOn n done (pieces_of_all sources b n inputs)
    pub trees : rels (map (at nothing (after done (pieces_of_all sources b n inputs))) (roots_of sources b n inputs)) ≡ inputs

  mutual
    tree_ends : (rel : Rel) (n : ℕ) (done : List Rel) → length done ≡ n → (x : Exchange) → Ends n done (pieces_of sources b n x rel) rel
    tree_ends (Scan source) n done size x = source_ends n done size x source (slice_get sources source)
    tree_ends (One how input) n done size x = one_ends how input n done x (tree_kinds sources (One how input)) (λ asks. tree_ends input n done size asks) (local_below b how (tree_kinds sources input)) refl
    tree_ends (Two how left right) n done size x =
        let ps = pieces_of sources b n (binary_way how).left left in
        let qs = pieces_of sources b (n + length ps) (binary_way how).right right in
        let first : Ends n done ps left = tree_ends left n done size (binary_way how).left in
        both_end n done ps qs (binary_way how).op x (tree_kinds sources (Two how left right)) left right (Two how left right) first (tree_ends right (n + length ps) (after done ps) first.goes.many (binary_way how).right) (ap (λ r. tree_of r (left ∷ (right ∷ []))) (binary_told how))
    tree_ends (Many inputs) n done size x =
        let all = trees_end inputs n done size in
        ends_on n done (pieces_of_all sources b n inputs) op.Union (roots_of sources b n inputs) x (tree_kinds sources (Many inputs)) Both (Many inputs) all.goes (ap Many all.trees)

    trees_end : (inputs : Rels) (n : ℕ) (done : List Rel) → length done ≡ n → AllEnd n done inputs
    trees_end no_rels n done size = record { goes = none_more n done size; trees = refl }
    trees_end (rel_and input inputs) n done size =
        let ps = pieces_of sources b n Forward input in
        let qs = pieces_of_all sources b (n + length ps) inputs in
        let first : Ends n done ps input = tree_ends input n done size Forward in
        let others : AllEnd (n + length ps) (after done ps) inputs = trees_end inputs (n + length ps) (after done ps) first.goes.many in
        let own : at nothing (after done (ps ++ qs)) (n + length ps) ≡ input = stays n done ps qs (n + length ps) input others.goes first.root in
        let rest : rels (map (at nothing (after done (ps ++ qs))) (roots_of sources b (n + length ps) inputs)) ≡ inputs =
        ap (λ l. rels (map (at nothing l) (roots_of sources b (n + length ps) inputs))) (after_more done ps qs) ∙ others.trees in
        record { goes = both_go n done ps qs first.goes others.goes; trees = λ i. rel_and (own i) (rest i) }

-- a node more over the root that passes its rows on leaves the tree
passed_on : (ps : List Piece) (o : Op) (x : Exchange) (kinds : KindSet) (update : Update) (rel : Rel) → role o ≡ same_as → Ends 0 [] ps rel
    → Ends 0 [] (ps ++ piece o (length ps ∷ []) x kinds update ∷ []) rel
passed_on ps o x kinds update rel same e =
    let number : length ps ≡ 0 + length ps = omega arith in
    let root : at nothing (after [] ps) (length ps) ≡ rel = ap (at nothing (after [] ps)) number ∙ root_is 0 [] ps rel e in
    ends_on 0 [] ps o (length ps ∷ []) x kinds update rel e.goes (ap (λ r. tree_of r (at nothing (after [] ps) (length ps) ∷ [])) same ∙ root)

topped_on : (top : Top) (ps : List Piece) (rel : Rel) → Ends 0 [] ps rel → Ends 0 [] (with_top top ps) rel
topped_on bare ps rel e = e
topped_on (shown key) ps rel e = topped_ends 0 [] ps (op.Materialize key) Forward (kinds_of (upsert key)) rel rel e refl

pub trees_are_erased : TreesAreErased
trees_are_erased sources sink parallelism b top rel =
    let ps = with_top top (pieces_of sources b 0 (asks_of top) rel) in
    let tree : Ends 0 [] ps rel = topped_on top (pieces_of sources b 0 (asks_of top) rel) rel (tree_ends sources b rel 0 [] refl (asks_of top)) in
    let whole : Ends 0 [] (with_sink ps) rel = passed_on ps op.Sink Forward (kinds_of retract) Absent rel refl tree in
    let count : length (nodes_in (with_sink ps)) ≡ 0 + length (with_sink ps) = length-map (with_sink ps) (λ p. p.node) ∙ (let same : length (with_sink ps) ≡ 0 + length (with_sink ps) = omega arith in same) in
    ap (at nothing (after [] (with_sink ps))) count ∙ root_is 0 [] (with_sink ps) rel whole
