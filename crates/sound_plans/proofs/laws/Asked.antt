-- The columns by which an operator of a sound plan asks an input for its rows are there, where the nodes below are proper.
use Rattle.std.specs.Prelude.{◌≡◌, ℕ, ◌<◌, ◌≤◌, ◌==◌, nat_le, Bool, cond, List, ◌++◌, length, map, slice_get, Option, option_and_then}
use Rattle.std.proofs.Common.{zero, suc, true, false, [], ◌∷◌, refl, sym, ap, subst, ◌∙◌, arith, Some, None}
use Rattle.std.specs.List.{AllByRecursion}
use Rattle.std.proofs.lemmas.Bool.{leb-true, eqb-true}
use Rattle.ct_value.specs.declared.ty.ColTy.{ColTy}
use Rattle.ct_expr.specs.Expr.{Expr}
use Rattle.rel_algebra.specs.declared.agg.Agg.{Agg}
use Rattle.rel_algebra.specs.declared.join.Pair.{Pair}
use Rattle.rel_algebra.specs.declared.sort.SortCol.{SortCol}
use Rattle.rel_algebra.specs.Groups.{group_columns}
use Rattle.rel_algebra.specs.Sets.{set_columns, set_kind}
use Rattle.rel_algebra.proofs.laws.Sets.{set_columns-lengths}
use Rattle.typing_laws.proofs.laws.CommonColumns.{if_all}
use Rattle.rel_algebra.specs.Types.{columns_if, is_condition_if, match_fits, pairs_fit}
use Rattle.phys_plan.specs.declared.node.Node.{Node}
use Rattle.phys_plan.specs.declared.node.Op.{Op}
use Rattle.phys_plan.specs.declared.node.Op.TheVariants as op
use Rattle.phys_plan.specs.declared.plan.Plan.{Plan}
use Rattle.mode_infer.specs.Kinds.{side_columns}
use Rattle.column_sets.specs.Places.{first_columns}
use Rattle.phys_plan.specs.Reading.{numbered, first_input}
use Rattle.plan_rules.specs.Columns.{columns_at, columns_by, matched_columns, only}
use Rattle.plan_shape.specs.Shape.{takes as ports_of}
use Rattle.sound_plans.specs.Outputs.{Output}
use Rattle.sound_plans.proofs.laws.Widths.{first_within}
use Rattle.sound_plans.proofs.laws.JoinColumns.{made_if}
use Rattle.sound_plans.proofs.laws.Routes.{left_within, right_within}
use Rattle.sound_plans.specs.Sound.{IsRuled}
use Rattle.sound_plans.proofs.laws.Agreed as agreed
use Rattle.sound_plans.specs.Promises.{Laws}
use Rattle.sound_plans.proofs.laws.Lists.{both, the_same, within}
use Rattle.sound_plans.proofs.laws.Local as local
use Rattle.sound_plans.proofs.laws.Outputs.{output_at}
use Rattle.sound_plans.proofs.laws.Suits as suited

-- a group's key columns are there
pub keys_there : (keys : ℕ) (columns : List ColTy) (aggs : List Agg) (made : List ColTy) → group_columns keys columns aggs ≡ Some made → keys ≤ length columns
keys_there keys columns aggs made is = by (nat_le keys (length columns)) refl _ is
  where
    by : (b : Bool) → nat_le keys (length columns) ≡ b → (o : Option (List ColTy)) → cond b o None ≡ Some made → keys ≤ length columns
    by true e o k = leb-true keys (length columns) e
    by false e o k = absurd (cc)

-- the columns of a join's pairs
pairs_there : (left right : List ColTy) (on : List Pair) (rest : Option Expr) (joined made : List ColTy) → columns_if (match_fits left right on rest) joined ≡ Some made → pairs_fit left right on ≡ true
pairs_there left right on rest joined made is = (both (pairs_fit left right on) (is_condition_if (left ++ right) rest) (made_if (match_fits left right on rest) joined made is).0).0

only_there : (x y p : ℕ) → slice_get (x ∷ []) p ≡ Some y → x ≡ y
only_there x y zero e = the_same x y e
only_there x y (suc p) e = absurd (cc)

-- by what an operator asks for an input: columns that it sends
abbrev pub AsksFor : Plan → ℕ → Option (List ℕ) → Type 0
AsksFor plan input None = Unit {0}
AsksFor plan input (Some columns) = AllByRecursion (λ column. column < length (columns_at plan.sources plan.nodes input)) columns

module _ (laws : Laws) (plan : Plan) (ruled : IsRuled plan) where
  abbrev columns_of : ℕ → List ColTy
  columns_of v = columns_at plan.sources plan.nodes v

  -- the columns that a node sends, as they are made of those of its inputs
  made_of : (v : ℕ) (node : Node) → numbered plan.nodes v ≡ Some node → (o : Op) (inputs : List ℕ) → node.op ≡ o → node.inputs ≡ inputs
      → columns_by plan.sources o (map (λ (out : Output). Some out.columns) (map (output_at plan) inputs)) ≡ Some (columns_of v)
  made_of v node e o inputs is are =
      sym (λ k. columns_by plan.sources (is k) (map (λ (out : Output). Some out.columns) (map (output_at plan) (are k)))) ∙ local.columns_made laws plan ruled v node e

  abbrev AreThere : ℕ → List ℕ → Type 0
  AreThere input columns = AllByRecursion (λ column. column < length (columns_of input)) columns

  -- the input of a node that has only one
  is_only : (v : ℕ) (node : Node) (p input : ℕ) → numbered plan.nodes v ≡ Some node → slice_get node.inputs p ≡ Some input
      → (o : Op) → node.op ≡ o → ((n : ℕ) → ports_of o n ≡ (n == 1)) → node.inputs ≡ input ∷ []
  is_only v node p input e h o is takes_one =
      let i = suited.one_input laws plan ruled v node e o is takes_one in
      subst (λ (n : ℕ). node.inputs ≡ n ∷ []) (only_there i.0 input p (sym (ap (λ (inputs : List ℕ). slice_get inputs p) i.1) ∙ h)) i.1

  pub key_there : (v : ℕ) (node : Node) (p input : ℕ) → numbered plan.nodes v ≡ Some node → agreed.AreProper laws plan ruled node.inputs → slice_get node.inputs p ≡ Some input → (key : List ℕ) → node.op ≡ op.Normalize key → AreThere input key
  key_there v node p input e proper h key is =
      let are = is_only v node p input e h (op.Normalize key) is (λ n. refl) in
      (agreed.normalize_agrees laws plan ruled v node key input e is are proper).within

  pub groups_there : (v : ℕ) (node : Node) (p input : ℕ) → numbered plan.nodes v ≡ Some node → slice_get node.inputs p ≡ Some input
      → (o : Op) → node.op ≡ o → ((n : ℕ) → ports_of o n ≡ (n == 1))
      → (keys : ℕ) (aggs : List Agg) → ((inputs : List (Option (List ColTy))) → columns_by plan.sources o inputs ≡ option_and_then (λ columns. group_columns keys columns aggs) (only inputs))
      → AreThere input (first_columns keys)
  groups_there v node p input e h o is takes_one keys aggs same =
      let are = is_only v node p input e h o is takes_one in
      let typed = sym (same (Some (columns_of input) ∷ [])) ∙ made_of v node e o (input ∷ []) is are in
      first_within keys (length (columns_of input)) (keys_there keys (columns_of input) aggs (columns_of v) typed)

  pub partition_there : (v : ℕ) (node : Node) (p input : ℕ) → numbered plan.nodes v ≡ Some node → agreed.AreProper laws plan ruled node.inputs → slice_get node.inputs p ≡ Some input
      → (partition : List ℕ) (order : List SortCol) (bound : ℕ) (ranked : Bool) → node.op ≡ op.TopN partition order bound ranked → AreThere input partition
  partition_there v node p input e proper h partition order bound ranked is =
      let are = is_only v node p input e h (op.TopN partition order bound ranked) is (λ n. refl) in
      subst (λ (inputs : List ℕ). AreThere (first_input inputs) partition) are (suited.ranks laws plan ruled v node e proper partition order bound ranked is).within

  pub shown_there : (v : ℕ) (node : Node) (p input : ℕ) → numbered plan.nodes v ≡ Some node → agreed.AreProper laws plan ruled node.inputs → slice_get node.inputs p ≡ Some input → (key : List ℕ) → node.op ≡ op.Materialize key → AreThere input key
  shown_there v node p input e proper h key is =
      let are = is_only v node p input e h (op.Materialize key) is (λ n. refl) in
      (agreed.materialize_agrees laws plan ruled v node key input e is are proper).within

  at_port : (left right input p : ℕ) (on : List Pair) → pairs_fit (columns_of left) (columns_of right) on ≡ true → slice_get (left ∷ (right ∷ [])) p ≡ Some input → AreThere input (side_columns on p)
  at_port left right input zero on fits h = subst (λ (n : ℕ). AreThere n (side_columns on zero)) (the_same left input h) (left_within (columns_of left) (columns_of right) on fits)
  at_port left right input (suc zero) on fits h = subst (λ (n : ℕ). AreThere n (side_columns on (suc zero))) (the_same right input h) (right_within (columns_of left) (columns_of right) on fits)
  at_port left right input (suc (suc p)) on fits h = absurd (cc)

  pub sides_there : (v : ℕ) (node : Node) (p input : ℕ) → numbered plan.nodes v ≡ Some node → slice_get node.inputs p ≡ Some input
      → (o : Op) → node.op ≡ o → ((n : ℕ) → ports_of o n ≡ (n == 2))
      → (on : List Pair) (rest : Option Expr) (joined : List ColTy → List ColTy → List ColTy) → ((inputs : List (Option (List ColTy))) → columns_by plan.sources o inputs ≡ matched_columns on rest joined inputs)
      → AreThere input (side_columns on p)
  sides_there v node p input e h o is takes_two on rest joined same =
      let i = agreed.two_inputs laws plan ruled v node e (λ n. ap (λ x. ports_of x n) is ∙ takes_two n) in
      let left = columns_of i.0 in
      let right = columns_of i.1 in
      let typed = sym (same (Some left ∷ (Some right ∷ []))) ∙ made_of v node e o (i.0 ∷ (i.1 ∷ [])) is i.2 in
      at_port i.0 i.1 input p on (pairs_there left right on rest (joined left right) (columns_of v) typed) (sym (ap (λ (inputs : List ℕ). slice_get inputs p) i.2) ∙ h)

  at_both : (left right input p columns : ℕ) → length (columns_of left) ≡ columns → length (columns_of right) ≡ columns → slice_get (left ∷ (right ∷ [])) p ≡ Some input → AreThere input (first_columns columns)
  at_both left right input zero columns l r h = subst (λ (n : ℕ). AreThere n (first_columns columns)) (the_same left input h) (first_within columns (length (columns_of left)) (omega arith))
  at_both left right input (suc zero) columns l r h = subst (λ (n : ℕ). AreThere n (first_columns columns)) (the_same right input h) (first_within columns (length (columns_of right)) (omega arith))
  at_both left right input (suc (suc p)) columns l r h = absurd (cc)

  pub all_there : (v : ℕ) (node : Node) (p input : ℕ) → numbered plan.nodes v ≡ Some node → slice_get node.inputs p ≡ Some input
      → (except all : Bool) (columns : ℕ) → node.op ≡ op.SetOp except all columns → AreThere input (first_columns columns)
  all_there v node p input e h except all columns is =
      let i = agreed.two_inputs laws plan ruled v node e (λ n. ap (λ x. ports_of x n) is) in
      let left = columns_of i.0 in
      let right = columns_of i.1 in
      let typed = if_all (length left == columns) (set_columns (set_kind except) left right) (columns_of v) (made_of v node e (op.SetOp except all columns) (i.0 ∷ (i.1 ∷ [])) is i.2) in
      let many : length left ≡ columns = eqb-true (length left) columns typed.0 in
      let as_many = set_columns-lengths (set_kind except) left right (columns_of v) typed.1 in
      at_both i.0 i.1 input p columns many (sym as_many.1 ∙ as_many.0 ∙ many) (sym (ap (λ (inputs : List ℕ). slice_get inputs p) i.2) ∙ h)
