-- A filter fits between its edges.
use Rattle.std.proofs.Common.{◌≡◌, ℕ, Bool, true, false, List, [], ◌∷◌, length, Option, Some, None, refl, sym, ap, subst, ◌∙◌}
use Rattle.std.specs.List.{AllByRecursion}
use Rattle.ct_value.specs.declared.ty.ColTy.{ColTy}
use Rattle.ct_field.specs.Typed.{row_fits}
use Rattle.ct_change.specs.declared.kind.KindSet.{KindSet}
use Rattle.ct_change.specs.Changelog.{has}
use Rattle.ct_catalog.specs.declared.table.TableDef.{TableDef}
use Rattle.ct_expr.specs.View.{expr_view}
use Rattle.ct_expr.specs.declared.expr.Expr.{Expr}
use Rattle.rel_algebra.specs.Types.{columns_if, is_condition}
use Rattle.phys_plan.specs.declared.edge.Exchange.TheVariants.{Forward}
use Rattle.ct_change.specs.declared.update.Update.{Update}
use Rattle.phys_plan.specs.declared.node.KeyInfo.{KeyInfo}
use Rattle.phys_plan.specs.declared.node.Op.TheVariants as op
use Rattle.emission_rules.specs.Filter.{FilterFits}
use Rattle.upsert_keys.specs.Keys.{filter_keys}
use Rattle.upsert_keys.specs.Seen.{families, seen_over}
use Rattle.mode_infer.specs.Updates.{in_full, told}
use Rattle.plan_rules.specs.Plans.{exchange_of}
use Rattle.sound_plans.specs.Outputs.{Output, AreWithin, IsProper, edge_of}
use Rattle.sound_plans.specs.Agrees.{Agrees, taken_by}
use Rattle.sound_plans.specs.RowFits.{FiltersFit}
use Rattle.sound_plans.proofs.laws.RowFamilies.{from_family, each_from_family}
use Rattle.sound_plans.proofs.laws.Told.{told_in_full}
use Rattle.sound_plans.proofs.laws.RowInputs.{comes_by, comes_full, reads_full, full_fits, fits_full, carries_full}

-- it never takes new rows alone
untaken : (sink : TableDef) (cond : Expr) (update : Update) (key : Option (List ℕ)) → taken_by sink (op.Filter cond) 0 update key ≡ false
untaken sink cond update None = refl
untaken sink cond update (Some key) = refl

-- rows that pass have the columns that they came with
columns_kept : (test : Bool) (columns made : List ColTy) → columns_if test columns ≡ Some made → columns ≡ made
columns_kept true columns made e = cc
columns_kept false columns made e = absurd (cc)

-- ---- the node

module _ (many : ℕ) (sources : List TableDef) (sink : TableDef) (cond : Expr) (input own : Output) (agrees : Agrees sources sink (op.Filter cond) (input ∷ []) own) where
  forwards : input.edge.exchange ≡ Forward
  forwards = comes_by sink (op.Filter cond) own.edge.update 0 input agrees.inputs_asked.0 None refl

  -- what comes and what leaves is told in full
  full : input.edge.update ≡ in_full input.sent
  full = comes_full sink (op.Filter cond) own.edge.update 0 input agrees.inputs_asked.0 (untaken sink cond own.edge.update input.update_key)

  own_full : own.edge.update ≡ in_full own.sent
  own_full = agrees.tells ∙ ap (λ key. told own.sent key agrees.taken) agrees.updates

  same_kinds : input.edge.kinds ≡ own.edge.kinds
  same_kinds = carries_full input agrees.inputs_asked.0.carries full ∙ sym agrees.sends ∙ sym (carries_full own agrees.carries own_full)

  same_columns : input.columns ≡ own.columns
  same_columns = columns_kept (is_condition input.columns (expr_view cond)) input.columns own.columns agrees.typed

  -- a forward edge keeps all keys
  keys : own.keys ≡ families input.keys.unique input.keys.local input.keys.fixing
  keys = agrees.keyed ∙ ap (λ x. filter_keys (seen_over x input.columns input.keys)) forwards

  filter_fits : FilterFits (edge_of many input) (edge_of many own)
  filter_fits = record {
    forwards = ap exchange_of forwards;
    reads = reads_full input full;
    writes = reads_full own own_full;
    kinds = λ kind h. subst (λ (k : KindSet). has k kind ≡ true) same_kinds h;
    fits = λ change h. fits_full own own_full change (subst (λ columns. row_fits columns change.row ≡ true) same_columns (full_fits input full change h));
    holds = λ row h. subst (λ columns. row_fits columns row ≡ true) same_columns h;
    unique = λ key h. from_family input.keys.unique own.keys.unique (ap (λ (k : KeyInfo). k.unique) keys) key h;
    local = λ key h. from_family input.keys.local own.keys.local (ap (λ (k : KeyInfo). k.local) keys) key h;
    fixing = λ set h. from_family input.keys.fixing own.keys.fixing (ap (λ (k : KeyInfo). k.fixing) keys) set h;
  }

  -- sets whose columns come leave with them
  kept : (sets : List (List ℕ)) → AllByRecursion (AreWithin (length input.columns)) sets → AllByRecursion (AreWithin (length own.columns)) sets
  kept sets all = subst (λ (columns : List ColTy). AllByRecursion (AreWithin (length columns)) sets) same_columns all

  filter_proper : IsProper own
  filter_proper = record {
    unique = each_from_family (AreWithin (length own.columns)) input.keys.unique own.keys.unique (ap (λ (k : KeyInfo). k.unique) keys) (kept input.keys.unique agrees.inputs_asked.0.proper.unique);
    local = each_from_family (AreWithin (length own.columns)) input.keys.local own.keys.local (ap (λ (k : KeyInfo). k.local) keys) (kept input.keys.local agrees.inputs_asked.0.proper.local);
    fixing = each_from_family (AreWithin (length own.columns)) input.keys.fixing own.keys.fixing (ap (λ (k : KeyInfo). k.fixing) keys) (kept input.keys.fixing agrees.inputs_asked.0.proper.fixing);
    update_key = λ key is. absurd (let none : None ≡ Some key = sym agrees.updates ∙ is in cc);
    told = told_in_full own own_full;
    inserts = ap (λ (k : KindSet). k.i) agrees.sends ∙ agrees.inputs_asked.0.proper.inserts;
    replaces = λ h. ap (λ (k : KindSet). k.ua) agrees.sends ∙ agrees.inputs_asked.0.proper.replaces (sym (ap (λ (k : KindSet). k.ub) agrees.sends) ∙ h);
  }

pub filters_fit : FiltersFit
filters_fit many sources sink cond input own agrees = (filter_fits many sources sink cond input own agrees, filter_proper many sources sink cond input own agrees)
