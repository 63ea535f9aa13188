-- Each node of a plan whose operators have rules answers as its tree does.
use Rattle.std.proofs.Common.{◌≡◌, ℕ, zero, suc, ◌<◌, ◌==◌, eqb-true, true, cond, List, [], ◌∷◌, ◌++◌, length, map, slice_index_or, Option, Some, None, option_and_then, refl, sym, ap, ap₂, subst, ◌∙◌, arith}
use Rattle.std.specs.Option.{unwrap_or}
use Rattle.std.proofs.lemmas.List.{length-map}
use Rattle.std.proofs.lemmas.Option.{slice_get-map}
use Rattle.ct_value.specs.declared.ty.ColTy.{ColTy}
use Rattle.ct_catalog.specs.Columns.{column_types}
use Rattle.ct_catalog.specs.declared.table.TableDef.{TableDef}
use Rattle.ct_change.specs.Changelog.{Rows}
use Rattle.ct_expr.specs.Types.{both_of}
use Rattle.rel_algebra.specs.Answer.{types_in, rows_in, columns_in, answer, answers}
use Rattle.rel_algebra.specs.Batch.{unary_answer, binary_answer}
use Rattle.rel_algebra.specs.Clauses.{union_rows}
use Rattle.rel_algebra.specs.Rel.{Rel, Scan, rels}
use Rattle.rel_algebra.specs.Sums.{plus}
use Rattle.rel_algebra.specs.Types.{common_columns, columns_of, common_from}
use Rattle.emission_rules.specs.Union.{rows_of_ports}
use Rattle.op_rules.specs.Rules.{Rule}
use Rattle.phys_plan.specs.Reading.{at, numbered, read_up, wires}
use Rattle.phys_plan.specs.declared.node.Node.{Node}
use Rattle.phys_plan.specs.declared.node.Op.{Op}
use Rattle.phys_plan.specs.declared.node.Op.TheVariants as op
use Rattle.phys_plan.specs.declared.plan.Plan.{Plan}
use Rattle.stream_model.specs.Network.{IsAnswer, of_scan, of_node}
use Rattle.plan_rules.specs.Answers.{tables_with, HasRoles, PlansAnswerAsErased}
use Rattle.plan_rules.specs.Around.{Around}
use Rattle.plan_rules.specs.Behaviours.{has_rule, rule_of, behaviour_by, doing_of}
use Rattle.plan_rules.specs.Columns.{common_with, columns_as, columns_by, numbered_columns, next_columns, columns_after, node_columns, columns_at}
use Rattle.plan_rules.specs.Doings.{around_of, doing_in, network}
use Rattle.plan_rules.specs.Erased.{erased_at}
use Rattle.plan_rules.specs.Plans.{inputs_in, scan_of, scan_in, HasShape}
use Rattle.plan_rules.specs.Roles.{Role, reads_table, one_of, two_of, all_of, same_as, part_of, not_told, role, takes, nothing, tree_of, batch_by}
use Rattle.plan_rules.proofs.laws.Numbers.{numbered_below, numbered_within, index_there, map_same, read_at}

-- ---- lists

map_map : {A B : Type 0} (f : A → B) (g : ℕ → A) (xs : List ℕ) → map (λ x. f (g x)) xs ≡ map f (map g xs)
map_map f g [] = refl
map_map f g (x ∷ xs) = ap (λ l. f (g x) ∷ l) (map_map f g xs)

-- lists of one, and of two
one_list : {A : Type 0} (xs : List A) → (length xs == 1) ≡ true → (x : A) × (xs ≡ x ∷ [])
one_list [] t = absurd (cc)
one_list (x ∷ []) t = (x, refl)
one_list (x ∷ (y ∷ xs)) t = absurd (omega (arith, eqb-true (length (x ∷ (y ∷ xs))) 1 t))

two_list : {A : Type 0} (xs : List A) → (length xs == 2) ≡ true → (x y : A) × (xs ≡ x ∷ (y ∷ []))
two_list [] t = absurd (cc)
two_list (x ∷ []) t = absurd (omega (arith, eqb-true (length (x ∷ [])) 2 t))
two_list (x ∷ (y ∷ [])) t = (x, y, refl)
two_list (x ∷ (y ∷ (z ∷ xs))) t = absurd (omega (arith, eqb-true (length (x ∷ (y ∷ (z ∷ xs)))) 2 t))

-- ---- the trees of nodes

-- the tree of a node is made of those of its inputs, where these have smaller numbers
pub tree_is : (plan : Plan) (v : ℕ) (node : Node) → numbered plan.nodes v ≡ Some node → ((p : ℕ) → p < length node.inputs → slice_index_or node.inputs p 0 < v)
    → erased_at plan v ≡ tree_of (role node.op) (map (erased_at plan) node.inputs)
tree_is plan v node is before = read_at (λ w below. tree_of (role w.op) below) nothing plan.nodes v node is before

-- ---- one operator: its columns are its tree's

module _ (sources : List TableDef) where
  abbrev types : List (List ColTy)
  types = map column_types sources

  abbrev Typed : Role → List Rel → Type 0
  Typed r inputs = columns_as sources r (map (columns_of types) inputs) ≡ columns_of types (tree_of r inputs)

  common_same : (inputs : List Rel) (first : Option (List ColTy)) → common_with first (map (columns_of types) inputs) ≡ common_from types first (rels inputs)
  common_same [] first = refl
  common_same (input ∷ inputs) first = common_same inputs (both_of common_columns first (columns_of types input))

  common_is : (inputs : List Rel) → Typed all_of inputs
  common_is [] = refl
  common_is (input ∷ inputs) = common_same inputs (columns_of types input)

  role_columns : (r : Role) (inputs : List Rel) → takes r (length inputs) ≡ true → Typed r inputs
  role_columns (reads_table source) inputs t = sym (slice_get-map column_types sources source)
  role_columns (one_of how) inputs t = let one = one_list inputs t in subst (Typed (one_of how)) (sym one.1) refl
  role_columns (two_of how) inputs t = let two = two_list inputs t in subst (Typed (two_of how)) (sym two.2) refl
  role_columns all_of inputs t = common_is inputs
  role_columns same_as inputs t = let one = one_list inputs t in subst (Typed same_as) (sym one.1) refl
  role_columns (part_of keys aggs) inputs t = let one = one_list inputs t in subst (Typed (part_of keys aggs)) (sym one.1) refl
  role_columns (not_told so_many) inputs t = refl

  op_columns : (o : Op) (inputs : List Rel) → takes (role o) (length inputs) ≡ true → has_rule o ≡ true → columns_by sources o (map (columns_of types) inputs) ≡ columns_of types (tree_of (role o) inputs)
  op_columns o inputs t ruled = ap (λ b. cond b (columns_as sources (role o) (map (columns_of types) inputs)) None) ruled ∙ role_columns (role o) inputs t

-- where it has a batch answer, that is its role's
batch_of : (rule : Option (Around → Rule)) (r : Role) (around : Around) (whole : ℕ → Rows) (result : Rows) → (doing_of (behaviour_by rule r around)).batch whole ≡ Some result → batch_by r around whole ≡ Some result
batch_of None r around whole result e = absurd (cc)
batch_of (Some rule) r around whole result e = e

-- a scan's tree is its table
scan_tree : (o : Op) (source : ℕ) (inputs : List Rel) → scan_of o ≡ Some source → tree_of (role o) inputs ≡ Scan source
scan_tree (op.Scan s) source inputs e = let same : s ≡ source = cc in ap Scan same
scan_tree _ source inputs e = absurd (cc)

-- ---- tables

types_are : (sources : List TableDef) (rows : ℕ → Rows) → types_in (tables_with sources rows) ≡ map column_types sources
types_are [] rows = refl
types_are (source ∷ sources) rows = ap (λ types. column_types source ∷ types) (types_are sources (λ table. rows (suc table)))

rows_are : (sources : List TableDef) (rows : ℕ → Rows) (n : ℕ) → n < length sources → rows_in (tables_with sources rows) n ≡ rows n
rows_are [] rows n l = absurd (omega arith)
rows_are (source ∷ sources) rows zero l = refl
rows_are (source ∷ sources) rows (suc n) l = rows_are sources (λ t. rows (suc t)) n (omega arith)

-- ---- columns are read up too

flat : {A : Type 0} (o : Option (Option A)) → option_and_then (λ x. x) o ≡ unwrap_or o None
flat None = refl
flat (Some x) = refl

map_flat : (done : List (Option (List ColTy))) (inputs : List ℕ) → map (numbered_columns done) inputs ≡ map (at None done) inputs
map_flat done inputs = map_same (numbered_columns done) (at None done) inputs (λ p l. flat (numbered done (slice_index_or inputs p 0)))

read_columns : (sources : List TableDef) (done : List (Option (List ColTy))) (nodes : List Node) → columns_after sources done nodes ≡ read_up (λ w below. columns_by sources w.op below) None done (wires nodes)
read_columns sources done [] = refl
read_columns sources done (node ∷ nodes) =
    read_columns sources (done ++ next_columns sources done node ∷ []) nodes
    ∙ ap (λ below. read_up (λ w below. columns_by sources w.op below) None (done ++ columns_by sources node.op below ∷ []) (wires nodes)) (map_flat done node.inputs)

columns_are : (sources : List TableDef) (nodes : List Node) (v : ℕ) → node_columns sources nodes v ≡ at None (read_up (λ w below. columns_by sources w.op below) None [] (wires nodes)) v
columns_are sources nodes v = flat (numbered (columns_after sources [] nodes) v) ∙ ap (λ l. at None l v) (read_columns sources [] nodes)

-- the columns of a node are made of those of its inputs, where these have smaller numbers
pub columns_made : (sources : List TableDef) (nodes : List Node) (v : ℕ) (node : Node) → numbered nodes v ≡ Some node → ((p : ℕ) → p < length node.inputs → slice_index_or node.inputs p 0 < v)
    → node_columns sources nodes v ≡ columns_by sources node.op (map (node_columns sources nodes) node.inputs)
columns_made sources nodes v node is lower =
    columns_are sources nodes v ∙ read_at (λ w below. columns_by sources w.op below) None nodes v node is lower
    ∙ ap (columns_by sources node.op) (map_same (at None (read_up (λ w below. columns_by sources w.op below) None [] (wires nodes))) (node_columns sources nodes) node.inputs
    (λ p l. sym (columns_are sources nodes (slice_index_or node.inputs p 0))))

module _ (plan : Plan) (has : HasRoles plan) where
  abbrev shape : HasShape plan
  shape = has.shape

  abbrev columns : ℕ → Option (List ColTy)
  columns v = node_columns plan.sources plan.nodes v

  abbrev tree_columns_at : ℕ → Option (List ColTy)
  tree_columns_at v = columns_of (map column_types plan.sources) (erased_at plan v)

  module _ (v : ℕ) (node : Node) (is : numbered plan.nodes v ≡ Some node) where
    abbrev input : ℕ → ℕ
    input p = slice_index_or node.inputs p 0

    before : (p : ℕ) → p < length node.inputs → (0 < input p) × (input p < v)
    before p l = shape.before v p (input p) (record { node = node; is_node = is; is_input = index_there node.inputs p l })

    below : (p : ℕ) → p < length node.inputs → input p < v
    below p l = (before p l).1

    -- each input is a node
    input_node : (p : ℕ) → p < length node.inputs → (other : Node) × (numbered plan.nodes (input p) ≡ Some other)
    input_node p l =
        let some = numbered_within plan.nodes v node is in
        let b = before p l in
        numbered_below plan.nodes (input p) b.0 (omega (arith, b.1, some.1))

  columns_below : (n v : ℕ) (node : Node) → numbered plan.nodes v ≡ Some node → v < n → columns v ≡ tree_columns_at v
  columns_below zero v node is l = absurd (omega arith)
  columns_below (suc n) v node is l =
      columns_made plan.sources plan.nodes v node is (below v node is)
      ∙ ap (columns_by plan.sources node.op) (map_same columns tree_columns_at node.inputs
      (λ p m. let other = input_node v node is p m in columns_below n (slice_index_or node.inputs p 0) other.0 other.1 (omega (arith, below v node is p m)))
      ∙ map_map (columns_of (map column_types plan.sources)) (erased_at plan) node.inputs)
      ∙ op_columns plan.sources node.op (map (erased_at plan) node.inputs) (ap (takes (role node.op)) (length-map node.inputs (erased_at plan)) ∙ has.takes v node is) (has.rules v node is)
      ∙ sym (ap (columns_of (map column_types plan.sources)) (tree_is plan v node is (below v node is)))

  module _ (rows : ℕ → Rows) where
    -- the columns of a node's tree are its own
    columns_told : (v : ℕ) (node : Node) → numbered plan.nodes v ≡ Some node → columns_in (tables_with plan.sources rows) (erased_at plan v) ≡ columns_at plan.sources plan.nodes v
    columns_told v node is =
        ap (λ types. unwrap_or (columns_of types (erased_at plan v)) []) (types_are plan.sources rows) ∙ ap (λ o. unwrap_or o []) (sym (columns_below (suc v) v node is (omega arith)))

    abbrev answer_at : ℕ → Option Rows
    answer_at v = answer (tables_with plan.sources rows) (erased_at plan v)

    answers_together : (inputs : List ℕ) (whole : ℕ → Rows) → ((p : ℕ) → p < length inputs → answer_at (slice_index_or inputs p 0) ≡ Some (whole p))
        → answers (tables_with plan.sources rows) (rels (map (erased_at plan) inputs)) ≡ Some (union_rows (rows_of_ports (length inputs) whole))
    answers_together [] whole each = refl
    answers_together (k ∷ inputs) whole each = ap₂ plus (each 0 (omega arith)) (answers_together inputs (λ p. whole (suc p)) (λ p l. each (suc p) (omega arith)))

    -- a role's tree answers as its batch function, over the columns of the inputs
    role_answers : (r : Role) (v : ℕ) (inputs : List ℕ) (whole : ℕ → Rows) (result : Rows) → takes r (length inputs) ≡ true
        → ((p : ℕ) → p < length inputs → columns_in (tables_with plan.sources rows) (erased_at plan (slice_index_or inputs p 0)) ≡ columns_at plan.sources plan.nodes (slice_index_or inputs p 0))
        → ((p : ℕ) → p < length inputs → answer_at (slice_index_or inputs p 0) ≡ Some (whole p)) → batch_by r (around_of plan v inputs) whole ≡ Some result
        → answer (tables_with plan.sources rows) (tree_of r (map (erased_at plan) inputs)) ≡ Some result
    role_answers (reads_table source) v inputs whole result t told each e = absurd (cc)
    role_answers (one_of how) v [] whole result t told each e = absurd (cc)
    role_answers (one_of how) v (k ∷ inputs) whole result t told each e = ap₂ (λ c o. option_and_then (unary_answer how c) o) (told 0 (omega arith)) (each 0 (omega arith)) ∙ e
    role_answers (two_of how) v [] whole result t told each e = absurd (cc)
    role_answers (two_of how) v (k ∷ []) whole result t told each e = absurd (omega (arith, eqb-true (length (k ∷ [])) 2 t))
    role_answers (two_of how) v (k ∷ (l ∷ inputs)) whole result t told each e =
        ap₂ (λ c d. both_of (binary_answer how c d) (answer_at k) (answer_at l)) (told 0 (omega arith)) (told 1 (omega arith))
        ∙ ap₂ (both_of (binary_answer how (columns_at plan.sources plan.nodes k) (columns_at plan.sources plan.nodes l))) (each 0 (omega arith)) (each 1 (omega arith))
        ∙ e
    role_answers all_of v inputs whole result t told each e = answers_together inputs whole each ∙ e
    role_answers same_as v [] whole result t told each e = absurd (cc)
    role_answers same_as v (k ∷ inputs) whole result t told each e = each 0 (omega arith) ∙ e
    role_answers (part_of keys aggs) v [] whole result t told each e = absurd (cc)
    role_answers (part_of keys aggs) v (k ∷ inputs) whole result t told each e = each 0 (omega arith) ∙ e
    role_answers (not_told so_many) v inputs whole result t told each e = absurd (cc)

    scanned : (v source : ℕ) (o : Option Node) → numbered plan.nodes v ≡ o → scan_in o ≡ Some source → answer_at v ≡ Some (rows source)
    scanned v source None is e = absurd (cc)
    scanned v source (Some node) is e =
        ap (answer (tables_with plan.sources rows)) (tree_is plan v node is (below v node is) ∙ scan_tree node.op source (map (erased_at plan) node.inputs) e)
        ∙ ap Some (rows_are plan.sources rows source (shape.scans v source node is e).1)

    worked : (v : ℕ) (o : Option Node) → numbered plan.nodes v ≡ o → (whole : ℕ → Rows) (result : Rows) → ((p : ℕ) → p < length (inputs_in o) → answer_at (slice_index_or (inputs_in o) p 0) ≡ Some (whole p))
        → (doing_in plan v o).batch whole ≡ Some result → answer_at v ≡ Some result
    worked v None is whole result each e = absurd (cc)
    worked v (Some node) is whole result each e =
        ap (answer (tables_with plan.sources rows)) (tree_is plan v node is (below v node is))
        ∙ role_answers (role node.op) v node.inputs whole result (has.takes v node is)
        (λ p l. let other = input_node v node is p l in columns_told (slice_index_or node.inputs p 0) other.0 other.1) each (batch_of (rule_of node.op) (role node.op) (around_of plan v node.inputs) whole result e)

    as_erased : {v : ℕ} {result : Rows} → IsAnswer (network plan) rows v result → answer_at v ≡ Some result
    as_erased (of_scan {v = v} {table = source} s) = scanned v source (numbered plan.nodes v) refl s
    as_erased (of_node {v = v} {answer = result} whole some each e) = worked v (numbered plan.nodes v) refl whole result (λ p l. as_erased (each p l)) e

pub plans_answer_as_erased : PlansAnswerAsErased
plans_answer_as_erased plan has rows v result a = as_erased plan has rows a
