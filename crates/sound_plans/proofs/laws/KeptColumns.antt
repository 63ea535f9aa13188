-- The columns that are inferred of a sound plan are those that its network's nodes send.
use Rattle.std.specs.Prelude.{◌≡◌, ℕ, ◌+◌, ◌≤◌, List, ◌++◌, get_or, length, map, slice_get, Option, option_and_then, unwrap_or}
use Rattle.std.proofs.Common.{zero, suc, [], ◌∷◌, refl, sym, ap, ◌∙◌, arith, Some, None}
use Rattle.ct_value.specs.declared.ty.ColTy.{ColTy}
use Rattle.ct_catalog.specs.declared.table.TableDef.{TableDef}
use Rattle.phys_plan.specs.declared.node.Node.{Node}
use Rattle.phys_plan.specs.declared.plan.Plan.{Plan}
use Rattle.phys_plan.specs.Reading.{numbered}
use Rattle.plan_rules.specs.Columns.{columns_after, columns_at, next_columns}
use Rattle.plan_check.specs.Sound.{columns_or_none, sent_columns}
use Rattle.plan_check.specs.Types.{all_types, next_types, types_after}
use Rattle.sound_plans.specs.Promises.{Laws}
use Rattle.sound_plans.specs.Sound.{IsRuled, SoundPlansKeepColumns}
use Rattle.sound_plans.proofs.laws.Columns.{longer}
use Rattle.sound_plans.proofs.laws.Lists.{map_length}
use Rattle.sound_plans.proofs.laws.Local as local

-- ---- past the last node

none_past : {A : Type 0} (xs : List A) (n : ℕ) → length xs ≤ n → slice_get xs n ≡ None
none_past [] n l = refl
none_past (x ∷ xs) zero l = absurd (omega arith)
none_past (x ∷ xs) (suc n) l = none_past xs n (omega arith)

is_past : {A : Type 0} (xs : List A) (n : ℕ) → slice_get xs n ≡ None → length xs ≤ n
is_past [] n e = omega arith
is_past (x ∷ xs) zero e = absurd (cc)
is_past (x ∷ xs) (suc n) e = let l = is_past xs n e in omega arith

empty_past : {A : Type 0} (xs : List (List A)) (n : ℕ) → length xs ≤ n → get_or xs n [] ≡ []
empty_past [] n l = refl
empty_past (x ∷ xs) zero l = absurd (omega arith)
empty_past (x ∷ xs) (suc n) l = empty_past xs n (omega arith)

-- ---- one for each node

module _ (sources : List TableDef) where
  typed_many : (done : List (Option (List ColTy))) (nodes : List Node) → length (types_after sources done nodes) ≡ length done + length nodes
  typed_many done [] = omega arith
  typed_many done (node ∷ nodes) =
      let more = typed_many (done ++ next_types sources done node ∷ []) nodes in
      let one = longer done (next_types sources done node) in
      omega (arith, more, one)

  sent_many : (done : List (Option (List ColTy))) (nodes : List Node) → length (columns_after sources done nodes) ≡ length done + length nodes
  sent_many done [] = omega arith
  sent_many done (node ∷ nodes) =
      let more = sent_many (done ++ next_columns sources done node ∷ []) nodes in
      let one = longer done (next_columns sources done node) in
      omega (arith, more, one)

-- ---- a plan

module _ (laws : Laws) (plan : Plan) (ruled : IsRuled plan) where
  abbrev kept : List (List ColTy)
  kept = sent_columns (all_types plan.sources plan.nodes)

  many : length kept ≡ length plan.nodes + 1
  many =
      let typed = typed_many plan.sources [] plan.nodes in
      let mapped = map_length columns_or_none (all_types plan.sources plan.nodes) in
      omega (arith, typed, mapped)

  past : (v : ℕ) → numbered plan.nodes v ≡ None → get_or kept v [] ≡ columns_at plan.sources plan.nodes v
  past zero e = refl
  past (suc n) e =
      let far = is_past plan.nodes n e in
      let typed = many in
      let sent = sent_many plan.sources [] plan.nodes in
      empty_past kept (suc n) (omega (arith, far, typed))
      ∙ sym (ap (λ o. unwrap_or (option_and_then (λ columns. columns) o) []) (none_past (columns_after plan.sources [] plan.nodes) n (omega (arith, far, sent))))

  by : (v : ℕ) (o : Option Node) → numbered plan.nodes v ≡ o → get_or kept v [] ≡ columns_at plan.sources plan.nodes v
  by v None e = past v e
  by v (Some node) e = local.inferred_same laws plan ruled v node e

pub sound_plans_keep_columns : Laws → SoundPlansKeepColumns
sound_plans_keep_columns laws plan ruled = (λ v. by laws plan ruled v (numbered plan.nodes v) refl, many laws plan ruled)
