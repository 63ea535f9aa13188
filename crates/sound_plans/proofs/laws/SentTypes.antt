-- The types of the columns of a sound plan's nodes exist: they are made of those of its tables.
use Rattle.std.specs.Prelude.{◌≡◌, ℕ, ◌≤◌, ◌==◌, ◌||◌, Bool, cond, not, max, List, ◌++◌, length, map, slice_get, Option, option_and_then, option_map, unwrap_or}
use Rattle.std.proofs.Common.{zero, suc, true, false, [], ◌∷◌, refl, arith, Some, None}
use Rattle.std.specs.List.{AllByRecursion, list_all}
use Rattle.std.proofs.lemmas.Bool.{and_parts}
use Rattle.ct_value.specs.declared.ty.ColTy.{ColTy}
use Rattle.ct_catalog.specs.Columns.{column_types}
use Rattle.ct_catalog.specs.declared.table.ColDef.{ColDef}
use Rattle.ct_catalog.specs.declared.table.TableDef.{TableDef}
use Rattle.ct_expr.specs.Types.{both_of}
use Rattle.rel_algebra.specs.Rel.{Unary, Binary, Rel, Scan, One, Two, Many, no_rels, rel_and}
use Rattle.rel_algebra.specs.Types.{common_columns, columns_of, unary_columns, binary_columns}
use Rattle.phys_plan.specs.Reading.{numbered}
use Rattle.phys_plan.specs.declared.node.Node.{Node}
use Rattle.phys_plan.specs.declared.node.Op.{Op}
use Rattle.phys_plan.specs.declared.plan.Plan.{Plan}
use Rattle.phys_plan.specs.declared.plan.Rule.TheVariants as rule
use Rattle.plan_rules.specs.Behaviours.{has_rule}
use Rattle.plan_rules.specs.Columns.{only, of_two, common_with, common_of, columns_as, columns_by, numbered_columns, next_columns, columns_after, node_columns, columns_at}
use Rattle.plan_rules.specs.Roles.{Role, reads_table, one_of, two_of, all_of, same_as, part_of, not_told, role}
use Rattle.plan_shape.specs.Shape.{has_shape, has_sizes, is_shaped, is_whole}
use Rattle.plan_shape.specs.Tables.{are_tables, has_columns, has_type, is_declarable}
use Rattle.typing_laws.specs.Exist.{Exist}
use Rattle.sound_plans.specs.Sound.{IsRuled}

-- the columns of well-typed trees have types that exist, where those of the tables have
abbrev pub ColumnsHaveTypes : Type 0
ColumnsHaveTypes = (tables : List (List ColTy)) → AllByRecursion Exist tables → (rel : Rel) (columns : List ColTy) → columns_of tables rel ≡ Some columns → Exist columns

-- the types of these exist, where there are any
abbrev ExistIf : Option (List ColTy) → Type 0
ExistIf None = Unit {0}
ExistIf (Some columns) = Exist columns

pub all_both : {A : Type 0} (P : A → Type 0) (xs ys : List A) → AllByRecursion P xs → AllByRecursion P ys → AllByRecursion P (xs ++ ys)
all_both P [] ys h k = k
all_both P (x ∷ xs) ys h k = (h.0, all_both P xs ys h.1 k)

-- ---- columns that may be missing

if_some : (o : Option (List ColTy)) → ((columns : List ColTy) → o ≡ Some columns → Exist columns) → ExistIf o
if_some None h = tt
if_some (Some columns) h = h columns refl

or_none : (o : Option (List ColTy)) → ExistIf o → Exist (unwrap_or o [])
or_none None h = tt
or_none (Some columns) h = h

only_exist : (inputs : List (Option (List ColTy))) → AllByRecursion ExistIf inputs → ExistIf (only inputs)
only_exist [] h = tt
only_exist (input ∷ []) h = h.0
only_exist (input ∷ (other ∷ inputs)) h = tt

then_exist : (made : List ColTy → Option (List ColTy)) → ((columns : List ColTy) → Exist columns → ExistIf (made columns)) → (o : Option (List ColTy)) → ExistIf o → ExistIf (option_and_then made o)
then_exist made each None h = tt
then_exist made each (Some columns) h = each columns h

both_exist : (made : List ColTy → List ColTy → Option (List ColTy)) → ((left right : List ColTy) → Exist left → Exist right → ExistIf (made left right)) → (o p : Option (List ColTy)) → ExistIf o → ExistIf p → ExistIf (both_of made o p)
both_exist made each None p h k = tt
both_exist made each (Some left) None h k = tt
both_exist made each (Some left) (Some right) h k = each left right h k

-- ---- a node, read as a tree over the columns of its inputs

module _ (types_exist : ColumnsHaveTypes) where
  of_one : (how : Unary) (columns : List ColTy) → Exist columns → ExistIf (unary_columns how columns)
  of_one how columns h = if_some (unary_columns how columns) (types_exist (columns ∷ []) (h, tt) (One how (Scan 0)))

  of_both : (how : Binary) (left right : List ColTy) → Exist left → Exist right → ExistIf (binary_columns how left right)
  of_both how left right h k = if_some (binary_columns how left right) (types_exist (left ∷ (right ∷ [])) (h, (k, tt)) (Two how (Scan 0) (Scan 1)))

  of_all : (left right : List ColTy) → Exist left → Exist right → ExistIf (common_columns left right)
  of_all left right h k = if_some (common_columns left right) (types_exist (left ∷ (right ∷ [])) (h, (k, tt)) (Many (rel_and (Scan 0) (rel_and (Scan 1) no_rels))))

  sides_exist : (how : Binary) (inputs : List (Option (List ColTy))) → AllByRecursion ExistIf inputs → ExistIf (of_two (binary_columns how) inputs)
  sides_exist how [] h = tt
  sides_exist how (left ∷ []) h = tt
  sides_exist how (left ∷ (right ∷ [])) h = both_exist (binary_columns how) (of_both how) left right h.0 h.1.0
  sides_exist how (left ∷ (right ∷ (other ∷ inputs))) h = tt

  common_exist : (o : Option (List ColTy)) (inputs : List (Option (List ColTy))) → ExistIf o → AllByRecursion ExistIf inputs → ExistIf (common_with o inputs)
  common_exist o [] h k = h
  common_exist o (input ∷ inputs) h k =
      common_exist (both_of common_columns o input) inputs (both_exist common_columns of_all o input h k.0) k.1

  union_exists : (inputs : List (Option (List ColTy))) → AllByRecursion ExistIf inputs → ExistIf (common_of inputs)
  union_exists [] h = tt
  union_exists (input ∷ inputs) h = common_exist input inputs h.0 h.1

  scan_exists : (sources : List TableDef) → AllByRecursion (λ table. Exist (column_types table)) sources → (source : ℕ) → ExistIf (option_map column_types (slice_get sources source))
  scan_exists [] h source = tt
  scan_exists (table ∷ sources) h zero = h.0
  scan_exists (table ∷ sources) h (suc source) = scan_exists sources h.1 source

  module _ (sources : List TableDef) (exist : AllByRecursion (λ table. Exist (column_types table)) sources) where
    role_exists : (r : Role) (inputs : List (Option (List ColTy))) → AllByRecursion ExistIf inputs → ExistIf (columns_as sources r inputs)
    role_exists (reads_table source) inputs h = scan_exists sources exist source
    role_exists (one_of how) inputs h = then_exist (unary_columns how) (of_one how) (only inputs) (only_exist inputs h)
    role_exists (two_of how) inputs h = sides_exist how inputs h
    role_exists all_of inputs h = union_exists inputs h
    role_exists same_as inputs h = only_exist inputs h
    role_exists (part_of keys aggs) inputs h = only_exist inputs h
    role_exists (not_told so_many) inputs h = tt

    -- where an operator has a rule
    exist_where : (ruled : Bool) (o : Option (List ColTy)) → ExistIf o → ExistIf (cond ruled o None)
    exist_where true o h = h
    exist_where false o h = tt

    op_exists : (o : Op) (inputs : List (Option (List ColTy))) → AllByRecursion ExistIf inputs → ExistIf (columns_by sources o inputs)
    op_exists o inputs h = exist_where (has_rule o) (columns_as sources (role o) inputs) (role_exists (role o) inputs h)

    -- ---- all nodes, behind those before them

    place_exists : (done : List (Option (List ColTy))) → AllByRecursion ExistIf done → (n : ℕ) → ExistIf (option_and_then (λ columns. columns) (slice_get done n))
    place_exists [] h n = tt
    place_exists (columns ∷ done) h zero = h.0
    place_exists (columns ∷ done) h (suc n) = place_exists done h.1 n

    number_exists : (done : List (Option (List ColTy))) → AllByRecursion ExistIf done → (v : ℕ) → ExistIf (numbered_columns done v)
    number_exists done h zero = tt
    number_exists done h (suc n) = place_exists done h n

    inputs_exist : (done : List (Option (List ColTy))) → AllByRecursion ExistIf done → (inputs : List ℕ) → AllByRecursion ExistIf (map (numbered_columns done) inputs)
    inputs_exist done h [] = tt
    inputs_exist done h (input ∷ inputs) = (number_exists done h input, inputs_exist done h inputs)

    all_exist : (nodes : List Node) (done : List (Option (List ColTy))) → AllByRecursion ExistIf done → AllByRecursion ExistIf (columns_after sources done nodes)
    all_exist [] done h = h
    all_exist (node ∷ nodes) done h =
        let next = next_columns sources done node in
        let made : ExistIf next = op_exists node.op (map (numbered_columns done) node.inputs) (inputs_exist done h node.inputs) in
        all_exist nodes (done ++ next ∷ []) (all_both ExistIf done (next ∷ []) h (made, tt))

    columns_exist : (nodes : List Node) (v : ℕ) → Exist (columns_at sources nodes v)
    columns_exist nodes v = or_none (node_columns sources nodes v) (number_exists (columns_after sources [] nodes) (all_exist nodes [] tt) v)

-- ---- the tables of a sound plan

cols_exist : (cols : List ColDef) → list_all has_type cols ≡ true → Exist (map (λ column. column.ty) cols)
cols_exist [] h = tt
cols_exist (col ∷ cols) h = let p = and_parts (has_type col) (list_all has_type cols) h in (p.0, cols_exist cols p.1)

tables_exist : (tables : List TableDef) → list_all is_declarable tables ≡ true → AllByRecursion (λ table. Exist (column_types table)) tables
tables_exist [] h = tt
tables_exist (table ∷ tables) h =
    let p = and_parts (is_declarable table) (list_all is_declarable tables) h in
    let columns = (and_parts (has_columns table) _ p.0).0 in
    (cols_exist table.cols (and_parts _ (list_all has_type table.cols) (and_parts _ _ columns).1).1, tables_exist tables p.1)

sources_exist : (plan : Plan) → IsRuled plan → AllByRecursion (λ table. Exist (column_types table)) plan.sources
sources_exist plan ruled =
    let low : 1 ≤ 1 = omega arith in
    let high : 1 ≤ max 1 (length plan.nodes) = omega arith in
    let shape : has_shape plan 1 ≡ true = ruled.sound rule.Shape 1 low high in
    let whole : is_whole plan ≡ true = (and_parts (not (1 == 1) || is_whole plan) (is_shaped plan 1 (numbered plan.nodes 1)) shape).0 in
    let tables = (and_parts (has_sizes plan) (are_tables (plan.sink ∷ plan.sources)) whole).1 in
    (tables_exist (plan.sink ∷ plan.sources) (and_parts (list_all is_declarable (plan.sink ∷ plan.sources)) _ tables).0).1

pub sent_types_exist : ColumnsHaveTypes → (plan : Plan) → IsRuled plan → (v : ℕ) → Exist (columns_at plan.sources plan.nodes v)
sent_types_exist types_exist plan ruled v = columns_exist types_exist plan.sources (sources_exist plan ruled) plan.nodes v
