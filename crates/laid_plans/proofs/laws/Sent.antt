-- What operators send, as the ways of a tree say it.
use Rattle.std.specs.Prelude.{◌≡◌, ℕ, List}
use Rattle.std.proofs.Common.{[], ◌∷◌, refl}
use Rattle.ct_catalog.specs.declared.table.TableDef.{TableDef}
use Rattle.ct_change.specs.declared.kind.KindSet.{KindSet}
use Rattle.mode_infer.specs.Kinds.{flow_of, group_kinds, plain}
use Rattle.plan_rules.proofs.laws.Erasing.{of_groups}
use Rattle.plan_rules.specs.Roles.{unary_way, binary_way}
use Rattle.rel_algebra.specs.Rel.{Unary, filter_by, project_on, group_by, rank_in, Binary, join_on}

module _ (sources : List TableDef) where
  -- whether a group is one in bundles doesn't matter
  pub way_sends : (size : ℕ) (how : Unary) (kinds : KindSet) → flow_of sources ((unary_way how).op size) (plain kinds ∷ []) ≡ plain (flow_of sources ((unary_way how).op 0) (plain kinds ∷ [])).sent
  way_sends size (filter_by condition) kinds = refl
  way_sends size (project_on items) kinds = refl
  way_sends size (group_by keys aggs) kinds = of_groups (λ o. flow_of sources o (plain kinds ∷ []) ≡ plain (group_kinds keys aggs kinds)) size keys aggs refl (λ some keyed. refl)
  way_sends size (rank_in partition order bound ranked) kinds = refl

  pub ways_send : (how : Binary) (one other : KindSet) → flow_of sources (binary_way how).op (plain one ∷ (plain other ∷ [])) ≡ plain (flow_of sources (binary_way how).op (plain one ∷ (plain other ∷ []))).sent
  ways_send (join_on kind pairs rest) one other = refl
  ways_send _ one other = refl
