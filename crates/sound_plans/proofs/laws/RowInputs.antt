-- What comes from an input: as it comes or by columns, and in full where its consumer doesn't take new rows alone.
use Rattle.std.proofs.Common.{◌≡◌, ℕ, ◌<◌, true, false, List, Option, sym, ap, subst, ◌∙◌}
use Rattle.std.proofs.Math.Nat.{mod-lt}
use Rattle.ct_value.specs.declared.row.Row.{Row}
use Rattle.ct_value.specs.declared.ty.ColTy.{ColTy}
use Rattle.ct_change.specs.declared.change.Change.{Change}
use Rattle.ct_catalog.specs.declared.table.TableDef.{TableDef}
use Rattle.rel_algebra.specs.Clauses.{Fits}
use Rattle.phys_plan.specs.declared.edge.Exchange.{Exchange}
use Rattle.phys_plan.specs.declared.edge.Exchange.TheVariants.{Forward, Hash}
use Rattle.ct_change.specs.declared.update.Update.{Update}
use Rattle.phys_plan.specs.declared.node.Op.{Op}
use Rattle.op_rules.specs.Edges.{Meaning, bag}
use Rattle.route.specs.Routing.{key_hash, key_text, types_at}
use Rattle.mode_infer.specs.Kinds.{asked}
use Rattle.mode_infer.specs.Modes.{edge_kinds}
use Rattle.mode_infer.specs.Updates.{in_full, told}
use Rattle.plan_inferred.specs.Rules.{by_columns}
use Rattle.plan_rules.specs.Plans.{change_fits, exchange_of, route_by, meaning_by}
use Rattle.sound_plans.specs.Outputs.{Output}
use Rattle.sound_plans.specs.Agrees.{Carries, taken_by, IsAsked}
use Rattle.sound_plans.proofs.laws.Updates.{meaning_full, kinds_full, told_untaken, KeyIs, told_keyed}

-- an input is exchanged as its consumer asks for it, and told in full or by the new rows of its update key
module _ (sink : TableDef) (o : Op) (own : Update) (port : ℕ) (input : Output) (asks : IsAsked sink o own port input) where
  pub comes_by : (columns : Option (List ℕ)) → asked o port ≡ columns → input.edge.exchange ≡ by_columns columns
  comes_by columns e = asks.exchanged ∙ ap by_columns e

  pub comes_full : taken_by sink o port own input.update_key ≡ false → input.edge.update ≡ in_full input.sent
  comes_full e = asks.tells ∙ ap (told input.sent input.update_key) e ∙ told_untaken input.sent input.update_key

  pub comes_keyed : KeyIs input.update_key input.edge.update
  comes_keyed = subst (KeyIs input.update_key) (sym asks.tells) (told_keyed input.sent input.update_key (taken_by sink o port own input.update_key))

-- an edge in full is read as a bag, and carries the kinds that its node sends
pub reads_full : (out : Output) → out.edge.update ≡ in_full out.sent → meaning_by out.edge.update ≡ bag
reads_full out full = ap meaning_by full ∙ meaning_full out.sent

-- and each of its changes has the columns
pub full_fits : (out : Output) → out.edge.update ≡ in_full out.sent → (change : Change) → change_fits (meaning_by out.edge.update) out.columns change ≡ true → Fits out.columns change.row
full_fits out full change h = subst (λ (m : Meaning). change_fits m out.columns change ≡ true) (reads_full out full) h

pub fits_full : (out : Output) → out.edge.update ≡ in_full out.sent → (change : Change) → Fits out.columns change.row → change_fits (meaning_by out.edge.update) out.columns change ≡ true
fits_full out full change h = subst (λ (m : Meaning). change_fits m out.columns change ≡ true) (sym (reads_full out full)) h

pub carries_full : (out : Output) → Carries out → out.edge.update ≡ in_full out.sent → out.edge.kinds ≡ out.sent
carries_full out carries full = carries ∙ ap (edge_kinds out.sent) full ∙ kinds_full out.sent out.sent

-- each row goes to a subtask
pub routed : (many : ℕ) → 0 < many → (columns : List ColTy) (exchange : Exchange) (key : Row) → route_by many columns (exchange_of exchange) key < many
routed many some columns Forward key = some
routed many some columns (Hash set) key = mod-lt (key_hash (key_text (types_at set columns) key)) some
