-- A materializer fits between its edges.
use Rattle.std.proofs.Common.{◌≡◌, ◌⊎◌, ℕ, ◌<◌, Bool, true, false, cond, ◌||◌, List, [], ◌∷◌, length, Option, Some, None, refl, sym, ap, subst, ◌∙◌, inl, inr}
use Rattle.std.specs.List.{AllByRecursion, Contains}
use Rattle.ct_value.specs.declared.ty.ColTy.{ColTy}
use Rattle.ct_field.specs.Typed.{row_fits}
use Rattle.ct_change.specs.declared.kind.Kind.{Kind}
use Rattle.ct_change.specs.declared.kind.KindSet.{KindSet}
use Rattle.ct_change.specs.declared.change.Change.{Change}
use Rattle.ct_change.specs.Changelog.{upsert, adds, has, admits}
use Rattle.ct_change.specs.KeyRows.{row_told}
use Rattle.ct_catalog.specs.declared.table.TableDef.{TableDef}
use Rattle.ct_change.specs.declared.update.Update.{Update}
use Rattle.ct_change.specs.declared.update.Update.TheVariants.{After}
use Rattle.phys_plan.specs.declared.node.KeyInfo.{KeyInfo}
use Rattle.phys_plan.specs.declared.node.Op.TheVariants as op
use Rattle.op_rules.specs.Edges.{HoldsOver, LiesIn}
use Rattle.emission_rules.specs.Materialize.{MaterializeFits}
use Rattle.column_sets.specs.Sets.{set_of, family, is_within}
use Rattle.mode_infer.specs.Kinds.{kind_set}
use Rattle.mode_infer.specs.Modes.{edge_kinds}
use Rattle.mode_infer.specs.Updates.{in_full}
use Rattle.plan_inferred.specs.declared.ways.Way.TheVariants.{Forced, Refused}
use Rattle.plan_inferred.specs.Ways.{holds_everywhere, holds_in_answers}
use Rattle.plan_inferred.specs.Rules.{is_shown}
use Rattle.plan_rules.specs.Plans.{change_fits, exchange_of, meaning_by}
use Rattle.plan_rules.proofs.laws.ChangeFits.{fits_width, told_fits_in}
use Rattle.sound_plans.specs.Outputs.{Output, AreTold, AreWithin, IsProper, edge_of}
use Rattle.sound_plans.specs.Agrees.{MaterializeAgrees, taken_by}
use Rattle.sound_plans.specs.RowFits.{MaterializesFit}
use Rattle.sound_plans.proofs.laws.KeyFamilies.{one_within}
use Rattle.sound_plans.proofs.laws.RowFamilies.{the_only, each_from_family, set_in}
use Rattle.sound_plans.proofs.laws.RowInputs.{comes_by, comes_full, full_fits, reads_full, routed}
use Rattle.sound_plans.proofs.laws.Seen.{holds_over}
use Rattle.sound_plans.proofs.laws.Sets.{lies_itself, lies_within}
use Rattle.sound_plans.proofs.laws.Updates.{columns_there}

-- it takes no new rows alone
untaken : (sink : TableDef) (shown : List ℕ) (update : Update) (key : Option (List ℕ)) → taken_by sink (op.Materialize shown) 0 update key ≡ false
untaken sink shown update None = refl
untaken sink shown update (Some key) = refl

-- what leaves are the kinds of an upsert changelog
leaves_upsert : (key : List ℕ) (kind : Kind) → admits (upsert key) kind ≡ true → has (edge_kinds (kind_set true false true true) (After key)) kind ≡ true
leaves_upsert key kind h = h

-- there is a materializer where a key holds, everywhere or in answers
shown_where : (holds : Bool) → is_shown (cond holds Forced Refused) ≡ true → holds ≡ true
shown_where true e = refl
shown_where false e = absurd (let h : false ≡ true = e in cc)

module _ (many : ℕ) (some : 0 < many) (sink : TableDef) (key : List ℕ) (input own : Output) (agrees : MaterializeAgrees sink key input own) where
  full : input.edge.update ≡ in_full input.sent
  full = comes_full sink (op.Materialize key) own.edge.update 0 input agrees.asked (untaken sink key own.edge.update input.update_key)

  same_columns : input.columns ≡ own.columns
  same_columns = sym agrees.typed

  -- it tells new rows alone, by its key, and carries all kinds that such changes have
  own_means : meaning_by own.edge.update ≡ meaning_by (After key)
  own_means = ap meaning_by agrees.tells

  own_kinds : own.edge.kinds ≡ edge_kinds (kind_set true false true true) (After key)
  own_kinds = agrees.carries ∙ (λ i. edge_kinds (agrees.sends i) (agrees.tells i))

  -- a key of what comes lies in its key
  key_below : (all some : Bool) → holds_everywhere input.keys key ≡ all → holds_in_answers input.keys key ≡ some → (all || some) ≡ true
      → (one : List ℕ) × (Contains input.keys.unique one ⊎ HoldsOver (edge_of many input) one) × LiesIn one key
  key_below true some all_hold holds e = (key, inr (holds_over many input key all_hold), lies_itself key)
  key_below false true all_hold holds e = let one = one_within input.keys.unique key holds in (one.0, inl one.1, lies_within one.0 key one.2)
  key_below false false all_hold holds e = absurd (let h : false ≡ true = e in cc)

  below : (one : List ℕ) × (Contains input.keys.unique one ⊎ HoldsOver (edge_of many input) one) × LiesIn one key
  below = key_below (holds_everywhere input.keys key) (holds_in_answers input.keys key) refl refl (shown_where (holds_everywhere input.keys key || holds_in_answers input.keys key) agrees.suits)

  -- each of its keys is its key
  is_key : (sets : List (List ℕ)) → sets ≡ family (set_of key ∷ []) → (set : List ℕ) → Contains sets set → LiesIn key set
  is_key sets is set c = subst (λ s. LiesIn key s) (sym agrees.ordered ∙ the_only (set_of key) sets is set c) (lies_itself key)

  -- a row that comes is told as it is where it comes, and by its key alone where it goes
  row_leaves : (change : Change) (kind : Kind) → change_fits (meaning_by input.edge.update) input.columns change ≡ true
      → change_fits (meaning_by own.edge.update) own.columns (record { kind = kind; row = row_told (upsert key) (adds kind) change.row }) ≡ true
  row_leaves change kind h =
      let whole : row_fits own.columns change.row ≡ true = subst (λ (columns : List ColTy). row_fits columns change.row ≡ true) same_columns (full_fits input full change h) in
      subst (λ (update : Update). change_fits (meaning_by update) own.columns (record { kind = kind; row = row_told (upsert key) (adds kind) change.row }) ≡ true) (sym agrees.tells)
      (told_fits_in (upsert key) own.columns kind change.row whole)

  materialize_fits : MaterializeFits key many (edge_of many input) (edge_of many own)
  materialize_fits = record {
    routed = λ k. routed many some input.columns input.edge.exchange k;
    hashed = ap exchange_of (comes_by sink (op.Materialize key) own.edge.update 0 input agrees.asked (Some key) refl);
    reads = reads_full input full;
    writes = own_means;
    own = below.0;
    is_key = below.1;
    lies = below.2;
    keyed = λ change h. columns_there input.columns key agrees.within change.row (fits_width (meaning_by input.edge.update) input.columns change h);
    kinds = λ kind h. subst (λ (k : KindSet). has k kind ≡ true) (sym own_kinds) (leaves_upsert key kind h);
    fits = λ change kind h comes. row_leaves change kind h;
    holds = λ row h. subst (λ (columns : List ColTy). row_fits columns row ≡ true) same_columns h;
    unique = λ set c. is_key own.keys.unique (ap (λ (k : KeyInfo). k.unique) agrees.keyed) set c;
    local = λ set c. is_key own.keys.local (ap (λ (k : KeyInfo). k.local) agrees.keyed) set c;
    fixing = λ set c. is_key own.keys.fixing (ap (λ (k : KeyInfo). k.fixing) agrees.keyed) set c;
  }

  -- its columns are there
  there : AreWithin (length own.columns) (set_of key)
  there = subst (AreWithin (length own.columns)) (sym agrees.ordered) (subst (λ (columns : List ColTy). AreWithin (length columns) key) same_columns agrees.within)

  keys_there : (sets : List (List ℕ)) → sets ≡ family (set_of key ∷ []) → AllByRecursion (AreWithin (length own.columns)) sets
  keys_there sets is = each_from_family (AreWithin (length own.columns)) (set_of key ∷ []) sets is (there, tt)

  -- and its key, which is told alone, tells the subtask
  key_tells : AreTold own.edge.update own.keys.fixing
  key_tells =
      subst (λ (update : Update). AreTold update own.keys.fixing) (sym agrees.tells)
      (each_from_family (λ set. is_within set key ≡ true) (set_of key ∷ []) own.keys.fixing (ap (λ (k : KeyInfo). k.fixing) agrees.keyed) (set_in key, tt))

  materialize_proper : IsProper own
  materialize_proper = record {
    unique = keys_there own.keys.unique (ap (λ (k : KeyInfo). k.unique) agrees.keyed);
    local = keys_there own.keys.local (ap (λ (k : KeyInfo). k.local) agrees.keyed);
    fixing = keys_there own.keys.fixing (ap (λ (k : KeyInfo). k.fixing) agrees.keyed);
    update_key = λ k is. absurd (let none : None ≡ Some k = sym agrees.updates ∙ is in cc);
    told = key_tells;
    inserts = ap (λ (k : KindSet). k.i) agrees.sends;
    replaces = λ h. ap (λ (k : KindSet). k.ua) agrees.sends;
  }

pub materializes_fit : MaterializesFit
materializes_fit many some sink key input own agrees = (materialize_fits many some sink key input own agrees, materialize_proper many some sink key input own agrees)
