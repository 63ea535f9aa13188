-- The columns that the rule Types finds don't depend on the keys of nodes.
use Rattle.std.specs.Prelude.{◌≡◌, ℕ, ◌+◌, List, ◌++◌, Option}
use Rattle.std.proofs.Common.{[], ◌∷◌, refl, ap, ◌∙◌}
use Rattle.ct_value.specs.declared.ty.ColTy.{ColTy}
use Rattle.ct_catalog.specs.declared.table.TableDef.{TableDef}
use Rattle.phys_plan.specs.declared.node.KeyInfo.{KeyInfo}
use Rattle.phys_plan.specs.declared.node.Node.{Node}
use Rattle.phys_plan.specs.Reading.{numbered}
use Rattle.upsert_keys.specs.Keys.{keyed, keyed_from}
use Rattle.plan_rules.specs.Columns.{numbered_columns}
use Rattle.plan_check.specs.Types.{all_types, is_typed, next_types, types_after, types_at}
use Rattle.laid_plans.proofs.laws.Nodes.{node_read}

module _ (table : List KeyInfo) (sources : List TableDef) (all : List Node) where
  -- those of nodes behind others
  types_from : (done : List (Option (List ColTy))) (v : ℕ) (nodes : List Node) → types_after sources done (keyed_from v table nodes) ≡ types_after sources done nodes
  types_from done v [] = refl
  types_from done v (node ∷ nodes) = types_from (done ++ next_types sources done node ∷ []) (v + 1) nodes

  -- those of all nodes
  pub types_same : all_types sources (keyed table all) ≡ all_types sources all
  types_same = types_from [] 1 all

  -- whether a node is typed
  pub typed_same : (sink : TableDef) (v : ℕ) → is_typed sink (numbered (keyed table all) v) (types_at sources (keyed table all) v) ≡ is_typed sink (numbered all v) (types_at sources all v)
  typed_same sink v =
      node_read table (λ node. is_typed sink node (types_at sources (keyed table all) v)) (λ node keys. refl) all v
      ∙ ap (λ types. is_typed sink (numbered all v) (numbered_columns types v)) types_same
