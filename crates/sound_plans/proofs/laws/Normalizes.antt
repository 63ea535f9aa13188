-- A normalizer fits between its edges.
use Rattle.std.proofs.Common.{◌≡◌, ℕ, ◌<◌, true, false, List, [], ◌∷◌, length, Some, sym, ap, subst, ◌∙◌, inl}
use Rattle.std.specs.List.{AllByRecursion, Contains}
use Rattle.ct_value.specs.declared.ty.ColTy.{ColTy}
use Rattle.ct_field.specs.Typed.{row_fits}
use Rattle.ct_change.specs.declared.kind.Kind.{Kind}
use Rattle.ct_change.specs.declared.kind.KindSet.{KindSet}
use Rattle.ct_change.specs.declared.change.Change.{Change}
use Rattle.ct_change.specs.Changelog.{upsert, adds, has, admits}
use Rattle.ct_catalog.specs.declared.table.TableDef.{TableDef}
use Rattle.ct_change.specs.declared.update.Update.{Update}
use Rattle.ct_change.specs.declared.update.Update.TheVariants.{Absent, After, Both}
use Rattle.phys_plan.specs.declared.node.KeyInfo.{KeyInfo}
use Rattle.op_rules.specs.Edges.{LiesIn}
use Rattle.emission_rules.specs.Normalize.{TellsKey, NormalizeFits}
use Rattle.column_sets.specs.Sets.{set_of, family, is_within}
use Rattle.mode_infer.specs.Kinds.{kind_set}
use Rattle.mode_infer.specs.Modes.{edge_kinds}
use Rattle.mode_infer.specs.Updates.{told}
use Rattle.plan_rules.specs.Plans.{change_fits, exchange_of, meaning_by}
use Rattle.plan_rules.specs.Around.{mode_told, normalize_of}
use Rattle.plan_rules.proofs.laws.ChangeFits.{fits_whole, fits_width, told_out}
use Rattle.plan_rules.proofs.laws.Reading.{meaning_told}
use Rattle.sound_plans.specs.Outputs.{Output, AreWithin, IsProper, around_by, edge_of}
use Rattle.sound_plans.specs.Agrees.{IsOrdered, NormalizeAgrees}
use Rattle.sound_plans.proofs.laws.Sets.{lies_itself}
use Rattle.sound_plans.specs.RowFits.{NormalizesFit}
use Rattle.sound_plans.proofs.laws.RowFamilies.{the_only, each_from_family, within_itself}
use Rattle.sound_plans.proofs.laws.RowInputs.{routed}
use Rattle.sound_plans.proofs.laws.Told.{told_by_key}
use Rattle.sound_plans.proofs.laws.Updates.{KeyIs, told_keyed, columns_there}

-- it leaves out old rows by its key alone
tells : (key : List ℕ) → IsOrdered key → (update : Update) → KeyIs (Some (set_of key)) update → TellsKey key (mode_told update)
tells key ordered Absent is = tt
tells key ordered (After own) is = let same : set_of key ≡ own = cc in sym same ∙ ordered
tells key ordered Both is = tt

-- and carries all kinds otherwise
carries_any : (update : Update) (kind : Kind) → admits (mode_told update) kind ≡ true → has (edge_kinds (kind_set true true true true) update) kind ≡ true
carries_any Absent kind h = h
carries_any (After key) kind h = h
carries_any Both kind h = h

-- what comes is of the kinds of an upsert changelog
comes_upsert : (key : List ℕ) (kind : Kind) → has (edge_kinds (kind_set true false true true) (After key)) kind ≡ true → admits (upsert key) kind ≡ true
comes_upsert key kind h = h

module _ (many : ℕ) (some : 0 < many) (sink : TableDef) (key : List ℕ) (input own : Output) (agrees : NormalizeAgrees key input own) where
  -- how its edge tells updates, and what it carries
  own_keyed : KeyIs (Some (set_of key)) own.edge.update
  own_keyed =
      let told_so : own.edge.update ≡ told own.sent (Some (set_of key)) agrees.taken = agrees.tells ∙ ap (λ k. told own.sent k agrees.taken) agrees.updates in
      subst (KeyIs (Some (set_of key))) (sym told_so) (told_keyed own.sent (Some (set_of key)) agrees.taken)

  own_kinds : own.edge.kinds ≡ edge_kinds (kind_set true true true true) own.edge.update
  own_kinds = agrees.carries ∙ ap (λ (k : KindSet). edge_kinds k own.edge.update) agrees.sends

  input_kinds : input.edge.kinds ≡ edge_kinds (kind_set true false true true) (After key)
  input_kinds = agrees.input_carries ∙ (λ i. edge_kinds (agrees.input_sent i) (agrees.input_tells i))

  same_columns : input.columns ≡ own.columns
  same_columns = sym agrees.typed

  -- each of its keys is the key
  is_key : (sets : List (List ℕ)) → sets ≡ family (set_of key ∷ []) → (set : List ℕ) → Contains sets set → LiesIn key set
  is_key sets is set c = subst (λ s. LiesIn key s) (sym agrees.ordered ∙ the_only (set_of key) sets is set c) (lies_itself key)

  -- a row that comes leaves as it is
  row_comes : (change : Change) → change_fits (meaning_by input.edge.update) input.columns change ≡ true → adds change.kind ≡ true → row_fits own.columns change.row ≡ true
  row_comes change h comes =
      subst (λ (columns : List ColTy). row_fits columns change.row ≡ true) same_columns
      (fits_whole (upsert key) input.columns change (subst (λ (update : Update). change_fits (meaning_by update) input.columns change ≡ true) agrees.input_tells h) comes)

  -- and its key tells the subtask
  key_tells : (own_key : List ℕ) → own.update_key ≡ Some own_key → AllByRecursion (λ set. is_within set own_key ≡ true) own.keys.fixing
  key_tells own_key is =
      let same : set_of key ≡ own_key = cc (sym agrees.updates ∙ is) in
      subst (λ (k : List ℕ). AllByRecursion (λ set. is_within set k ≡ true) own.keys.fixing) same
      (each_from_family (λ set. is_within set (set_of key) ≡ true) (set_of key ∷ []) own.keys.fixing (ap (λ (k : KeyInfo). k.fixing) agrees.keyed) (within_itself (set_of key), tt))

  normalize_fits : NormalizeFits (normalize_of key (around_by sink (input ∷ []) own)) many (edge_of many input) (edge_of many own)
  normalize_fits = record {
    routed = λ k. routed many some input.columns input.edge.exchange k;
    hashed = ap exchange_of agrees.exchanged;
    reads = ap meaning_by agrees.input_tells;
    tells = tells key agrees.ordered own.edge.update own_keyed;
    writes = meaning_told own.edge.update;
    admitted = λ kind h. comes_upsert key kind (subst (λ (k : KindSet). has k kind ≡ true) input_kinds h);
    keyed = λ change h. columns_there input.columns key agrees.within change.row (fits_width (meaning_by input.edge.update) input.columns change h);
    kinds = λ kind h. subst (λ (k : KindSet). has k kind ≡ true) (sym own_kinds) (carries_any own.edge.update kind h);
    fits = λ change kind h comes. told_out own.edge.update own.columns kind change.row (row_comes change h comes);
    holds = λ row h. subst (λ (columns : List ColTy). row_fits columns row ≡ true) same_columns h;
    unique = λ set c. inl (subst (λ (k : KeyInfo). Contains k.unique set) (agrees.keyed ∙ sym agrees.input_keyed) c);
    local = λ set c. is_key own.keys.local (ap (λ (k : KeyInfo). k.local) agrees.keyed) set c;
    fixing = λ set c. is_key own.keys.fixing (ap (λ (k : KeyInfo). k.fixing) agrees.keyed) set c;
  }

  -- its columns are there
  there : AreWithin (length own.columns) (set_of key)
  there = subst (AreWithin (length own.columns)) (sym agrees.ordered) (subst (λ (columns : List ColTy). AreWithin (length columns) key) same_columns agrees.within)

  keys_there : (sets : List (List ℕ)) → sets ≡ family (set_of key ∷ []) → AllByRecursion (AreWithin (length own.columns)) sets
  keys_there sets is = each_from_family (AreWithin (length own.columns)) (set_of key ∷ []) sets is (there, tt)

  normalize_proper : IsProper own
  normalize_proper = record {
    unique = keys_there own.keys.unique (ap (λ (k : KeyInfo). k.unique) agrees.keyed);
    local = keys_there own.keys.local (ap (λ (k : KeyInfo). k.local) agrees.keyed);
    fixing = keys_there own.keys.fixing (ap (λ (k : KeyInfo). k.fixing) agrees.keyed);
    update_key = λ k is. let e : Some (set_of key) ≡ Some k = sym agrees.updates ∙ is in let same : set_of key ≡ k = cc in subst (AreWithin (length own.columns)) same there;
    told = told_by_key own agrees.taken agrees.tells key_tells;
    inserts = ap (λ (k : KindSet). k.i) agrees.sends;
    replaces = λ h. ap (λ (k : KindSet). k.ua) agrees.sends;
  }

pub normalizes_fit : NormalizesFit
normalizes_fit many some sink key input own agrees = (normalize_fits many some sink key input own agrees, normalize_proper many some sink key input own agrees)
