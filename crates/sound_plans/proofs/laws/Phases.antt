-- A local group, and the group in bundles above it, fit between their edges.
use Rattle.std.proofs.Common.{◌≡◌, ℕ, ◌<◌, Bool, true, false, cond, not, ◌&&◌, ◌||◌, List, [], ◌∷◌, length, take, Option, Some, None, refl, sym, ap, subst, ◌∙◌, arith}
use Rattle.std.specs.Prelude.{pos, int_lt, ◌<ℤ◌}
use Rattle.std.specs.List.{AllByRecursion, Contains, list_all}
use Rattle.std.proofs.lemmas.Bool.{and_parts}
use Rattle.std.proofs.lemmas.Int.{ints}
use Rattle.ct_value.specs.Order.{number_of}
use Rattle.ct_value.specs.declared.ty.ColTy.{ColTy}
use Rattle.ct_value.specs.declared.value.Value.{Value}
use Rattle.ct_field.specs.Typed.{cell, row_fits}
use Rattle.ct_change.specs.Changelog.{Mode, append, retract, upsert, has, admits}
use Rattle.ct_change.specs.Kinds.{has_more_than_inserts}
use Rattle.ct_change.specs.declared.change.Change.{Change}
use Rattle.ct_change.specs.declared.kind.Kind.{Kind}
use Rattle.ct_change.specs.declared.kind.Kind.TheVariants.{I, UB, UA, D}
use Rattle.ct_change.specs.declared.kind.KindSet.{KindSet}
use Rattle.ct_change.specs.declared.update.Update.{Update}
use Rattle.ct_change.specs.declared.update.Update.TheVariants.{Absent, After, Both}
use Rattle.ct_catalog.specs.declared.table.TableDef.{TableDef}
use Rattle.rel_algebra.specs.declared.agg.Agg.{Agg}
use Rattle.rel_algebra.specs.declared.agg.AggCall.{AggCall}
use Rattle.rel_algebra.specs.declared.agg.AggCall.TheVariants.{CountAll, Count, CountDistinct, Sum, Min, Max, Avg}
use Rattle.agg_fns.specs.Partial.{has_partial, is_signed}
use Rattle.op_rules.specs.Edges.{hash}
use Rattle.phase_rules.specs.LocalGrouping.{LocalGrouping, SumsUp, partial_row}
use Rattle.phase_rules.specs.LocalFits.{IsOfBags, LocalFits}
use Rattle.phase_rules.specs.MergeFits.{MergeFits}
use Rattle.phase_rules.specs.Merging.{Merging, is_partial_row}
use Rattle.phase_rules.proofs.laws.LocalTold.{partial_key_fits, partial_row_fits, partial_row_grows}
use Rattle.phys_plan.specs.declared.node.KeyInfo.{KeyInfo}
use Rattle.phys_plan.specs.declared.node.Op.TheVariants as op
use Rattle.phys_plan.specs.Reading.{no_keys}
use Rattle.column_sets.specs.Places.{first_columns}
use Rattle.mode_infer.specs.Kinds.{inserts}
use Rattle.mode_infer.specs.Modes.{edge_kinds}
use Rattle.mode_infer.specs.Updates.{in_full, told}
use Rattle.plan_rules.specs.Plans.{exchange_of, route_by}
use Rattle.plan_rules.specs.Around.{local_of, merging_of, mode_read}
use Rattle.plan_rules.specs.Phases.{is_sent, says_some}
use Rattle.plan_shape.specs.Shape.{has_parts, only_inserts}
use Rattle.sound_plans.specs.Outputs.{AreTold, AreWithin, IsProper, Output, around_by, edge_of, partial_edge, without_local}
use Rattle.sound_plans.specs.Agrees.{Agrees, IsAsked, LocalAgrees, MergeAgrees, taken_by}
use Rattle.sound_plans.specs.RowFits.{LocalGroupsFit, MergingGroupsFit}
use Rattle.sound_plans.proofs.laws.Groups.{groups_fit, untaken}
use Rattle.sound_plans.proofs.laws.Lists.{the_same}
use Rattle.sound_plans.proofs.laws.RowInputs.{carries_full, comes_by, comes_full, full_fits, reads_full}
use Rattle.sound_plans.proofs.laws.Updates.{kinds_full_read, mode_full}

-- ---- kinds

none_of_three : (a b c : Bool) → (a || (b || c)) ≡ false → b ≡ false
none_of_three true b c h = absurd (cc)
none_of_three false true c h = absurd (cc)
none_of_three false false c h = refl

-- where inserts alone come in full, they are read as such
reads_inserts : (kinds sent : KindSet) → kinds ≡ sent → has_more_than_inserts kinds ≡ false → mode_read kinds (in_full sent) ≡ append
reads_inserts kinds sent same none =
    let no_updates : sent.ua ≡ false = sym (ap (λ (k : KindSet). k.ua) same) ∙ none_of_three kinds.ub kinds.ua kinds.d none in
    ap (λ b. mode_read kinds (cond b Both Absent)) no_updates ∙ ap (λ b. cond b retract append) none

no_more : (i ub ua d : Bool) → (i && (not ub && (not ua && not d))) ≡ true → (ub || (ua || d)) ≡ false
no_more false ub ua d h = absurd (cc)
no_more true true ua d h = absurd (cc)
no_more true false true d h = absurd (cc)
no_more true false false true h = absurd (cc)
no_more true false false false h = refl

insert_carried : (update : Update) → has (edge_kinds inserts update) I ≡ true
insert_carried Absent = refl
insert_carried (After key) = refl
insert_carried Both = refl

inserts_alone : (update : Update) (kind : Kind) → has (edge_kinds inserts update) kind ≡ true → kind ≡ I
inserts_alone update I h = refl
inserts_alone Absent UB h = absurd (cc)
inserts_alone Absent UA h = absurd (cc)
inserts_alone Absent D h = absurd (cc)
inserts_alone (After key) UB h = absurd (cc)
inserts_alone (After key) UA h = absurd (cc)
inserts_alone (After key) D h = absurd (cc)
inserts_alone Both UB h = absurd (cc)
inserts_alone Both UA h = absurd (cc)
inserts_alone Both D h = absurd (cc)

-- ---- calls

call_has : (kinds : KindSet) (call : AggCall) → has_parts kinds call ≡ true → has_partial call ≡ true
call_has kinds CountAll h = refl
call_has kinds Count h = refl
call_has kinds CountDistinct h = absurd (cc)
call_has kinds Sum h = refl
call_has kinds Min h = refl
call_has kinds Max h = refl
call_has kinds Avg h = refl

calls_have : (kinds : KindSet) (aggs : List Agg) → list_all (λ agg. has_parts kinds agg.call) aggs ≡ true → AllByRecursion (λ agg. has_partial agg.call ≡ true) aggs
calls_have kinds [] h = tt
calls_have kinds (agg ∷ aggs) h = let p = and_parts (has_parts kinds agg.call) (list_all (λ other. has_parts kinds other.call) aggs) h in (call_has kinds agg.call p.0, calls_have kinds aggs p.1)

-- values of MIN and MAX can't be taken back, so they are of inserts
call_stays : (kinds : KindSet) (call : AggCall) → has_parts kinds call ≡ true → is_signed call ≡ false → only_inserts kinds ≡ true
call_stays kinds CountAll h s = absurd (cc)
call_stays kinds Count h s = absurd (cc)
call_stays kinds CountDistinct h s = absurd (cc)
call_stays kinds Sum h s = absurd (cc)
call_stays kinds Min h s = h
call_stays kinds Max h s = h
call_stays kinds Avg h s = absurd (cc)

calls_stay : (kinds : KindSet) (mode : Mode) → (only_inserts kinds ≡ true → mode ≡ append) → (aggs : List Agg) → list_all (λ agg. has_parts kinds agg.call) aggs ≡ true
    → AllByRecursion (λ agg. is_signed agg.call ≡ false → mode ≡ append) aggs
calls_stay kinds mode reads [] h = tt
calls_stay kinds mode reads (agg ∷ aggs) h =
    let p = and_parts (has_parts kinds agg.call) (list_all (λ other. has_parts kinds other.call) aggs) h in
    (λ s. reads (call_stays kinds agg.call p.0 s), calls_stay kinds mode reads aggs p.1)

-- ---- what partial rows say

says : (mode : Mode) (count : Value) → (mode ≡ append → pos 0 <ℤ number_of count) → says_some mode count ≡ true
says append count some = go (int_lt (pos 0) (number_of count)) refl
  where
    go : (b : Bool) → int_lt (pos 0) (number_of count) ≡ b → b ≡ true
    go true e = refl
    go false e = absurd (let more = some refl in omega (arith, ints))
says retract count some = refl
says (upsert key) count some = refl

said : (mode : Mode) (count : Value) → mode ≡ append → says_some mode count ≡ true → pos 0 <ℤ number_of count
said append count is h = omega (arith, ints)
said retract count is h = absurd (cc)
said (upsert key) count is h = absurd (cc)

both_hold : (a b : Bool) → a ≡ true → b ≡ true → (a && b) ≡ true
both_hold true b p q = q
both_hold false b p q = absurd (cc)

nothing_in : (key : List ℕ) → Contains {X = List ℕ} [] key → ⊥
nothing_in key c = let few = c.1 in omega (arith, few)

told_nothing : (update : Update) → AreTold update []
told_nothing Absent = tt
told_nothing (After key) = tt
told_nothing Both = tt

-- neither takes new rows alone
local_untaken : (sink : TableDef) (keys : ℕ) (aggs : List Agg) (update : Update) (key : Option (List ℕ)) → taken_by sink (op.LocalGroup keys aggs) 0 update key ≡ false
local_untaken sink keys aggs update None = refl
local_untaken sink keys aggs update (Some key) = refl

-- ---- a local group

module _ (many : ℕ) (sources : List TableDef) (sink : TableDef) (keys : ℕ) (aggs : List Agg) (input own : Output) (a : LocalAgrees sources sink keys aggs input own) where
  abbrev l : LocalGrouping
  l = local_of keys aggs (around_by sink (input ∷ []) own)

  abbrev asked : IsAsked sink (op.LocalGroup keys aggs) own.edge.update 0 input
  asked = a.agrees.inputs_asked.0

  full : input.edge.update ≡ in_full input.sent
  full = comes_full sink (op.LocalGroup keys aggs) own.edge.update 0 input asked (local_untaken sink keys aggs own.edge.update input.update_key)

  whole_kinds : input.edge.kinds ≡ input.sent
  whole_kinds = carries_full input asked.carries full

  reads_append : has_more_than_inserts input.edge.kinds ≡ false → l.input ≡ append
  reads_append none = ap (mode_read input.edge.kinds) full ∙ reads_inserts input.edge.kinds input.sent whole_kinds none

  sums_up : SumsUp l
  sums_up = record {
    some_keys = a.some_keys;
    made = a.made;
    typed = a.grouped;
    have_partials = calls_have input.edge.kinds aggs a.sum_up;
    stay =
        calls_stay input.edge.kinds l.input (λ only. reads_append (no_more input.edge.kinds.i input.edge.kinds.ub input.edge.kinds.ua input.edge.kinds.d only)) aggs a.sum_up;
  }

  same_columns : input.columns ≡ own.columns
  same_columns = the_same input.columns own.columns a.agrees.typed

  keys_none : own.keys ≡ no_keys
  keys_none = a.agrees.keyed

  sends_inserts : own.sent ≡ inserts
  sends_inserts = a.agrees.sends

  own_kinds : own.edge.kinds ≡ edge_kinds inserts own.edge.update
  own_kinds = a.agrees.carries ∙ ap (λ (k : KindSet). edge_kinds k own.edge.update) sends_inserts

  hashed : exchange_of own.edge.exchange ≡ hash (first_columns keys)
  hashed = ap exchange_of a.exchanged

  local_fits : LocalFits many l (edge_of many input) (partial_edge many l own)
  local_fits = record {
    sums_up = sums_up;
    of_bags = subst (λ update. IsOfBags (mode_read input.edge.kinds update)) (sym full) (mode_full IsOfBags input.edge.kinds input.sent tt tt);
    reads = reads_full input full;
    forwards = ap exchange_of (comes_by sink (op.LocalGroup keys aggs) own.edge.update 0 input asked None refl);
    kinds = λ kind h. subst (λ update. admits (mode_read input.edge.kinds update) kind ≡ true) (sym full) (kinds_full_read input.edge.kinds input.sent kind h);
    fits = λ change h. full_fits input full change h;
    writes = refl;
    hashed = hashed;
    comes = subst (λ (k : KindSet). has k I ≡ true) (sym own_kinds) (insert_carried own.edge.update);
    out_fits = λ key changes summed.
        both_hold (row_fits (take l.keys l.columns) (take l.keys (partial_row l.aggs key changes))) (is_partial_row l (partial_row l.aggs key changes) && says_some l.input (cell l.keys (partial_row l.aggs key changes))) (partial_key_fits l key changes summed)
        (both_hold (is_partial_row l (partial_row l.aggs key changes)) (says_some l.input (cell l.keys (partial_row l.aggs key changes))) (partial_row_fits l key changes summed)
        (says l.input (cell l.keys (partial_row l.aggs key changes)) (partial_row_grows l key changes summed)));
    out_holds = λ row h. subst (λ (columns : List ColTy). row_fits columns row ≡ true) same_columns h;
    unique = λ key c. absurd (nothing_in key (subst (λ (k : KeyInfo). Contains k.unique key) keys_none c));
    local = λ key c. nothing_in key (subst (λ (k : KeyInfo). Contains k.local key) keys_none c);
    fixing = λ set c. nothing_in set (subst (λ (k : KeyInfo). Contains k.fixing set) keys_none c);
  }

  local_proper : IsProper own
  local_proper = record {
    unique = subst (λ (k : KeyInfo). AllByRecursion (AreWithin (length own.columns)) k.unique) (sym keys_none) tt;
    local = subst (λ (k : KeyInfo). AllByRecursion (AreWithin (length own.columns)) k.local) (sym keys_none) tt;
    fixing = subst (λ (k : KeyInfo). AllByRecursion (AreWithin (length own.columns)) k.fixing) (sym keys_none) tt;
    update_key = λ key is. absurd (let none : None ≡ Some key = sym a.agrees.updates ∙ is in cc);
    told = subst (λ (k : KeyInfo). AreTold own.edge.update k.fixing) (sym keys_none) (told_nothing own.edge.update);
    inserts = ap (λ (k : KindSet). k.i) sends_inserts;
    replaces = λ h. absurd (let none : false ≡ true = sym (ap (λ (k : KindSet). k.ub) sends_inserts) ∙ h in cc);
  }

pub local_groups_fit : LocalGroupsFit
local_groups_fit many some sources sink keys aggs input own a = (local_fits many sources sink keys aggs input own a, local_proper many sources sink keys aggs input own a)

-- ---- the group above it

module _ (many : ℕ) (some : 0 < many) (sources : List TableDef) (sink : TableDef) (keys : ℕ) (aggs : List Agg) (input below own : Output) (a : MergeAgrees sources sink keys aggs input below own) where
  abbrev summed : LocalGrouping
  summed = local_of keys aggs (around_by sink (input ∷ []) below)

  abbrev merged_by : Merging
  merged_by = merging_of summed (around_by sink (below ∷ []) own)

  abbrev raw : Output
  raw = without_local (first_columns keys) input

  abbrev asked_below : IsAsked sink (op.LocalGroup keys aggs) below.edge.update 0 input
  asked_below = a.local.agrees.inputs_asked.0

  raw_proper : IsProper raw
  raw_proper = record {
    unique = tt;
    local = tt;
    fixing = tt;
    update_key = asked_below.proper.update_key;
    told = told_nothing input.edge.update;
    inserts = asked_below.proper.inserts;
    replaces = asked_below.proper.replaces;
  }

  -- as if it stood there alone
  agrees : Agrees sources sink (op.Group keys aggs) (raw ∷ []) own
  agrees = record {
    inputs_asked = (
      record {
        proper = raw_proper;
        carries = asked_below.carries;
        tells = asked_below.tells ∙ ap (told input.sent input.update_key) (local_untaken sink keys aggs below.edge.update input.update_key ∙ sym (untaken sink keys aggs own.edge.update input.update_key));
        exchanged = refl;
      },
      tt,
    );
    typed = a.typed;
    keyed = a.keyed;
    sends = a.sends;
    updates = a.updates;
    carries = a.carries;
    taken = a.taken;
    tells = a.tells;
  }

  told_parts : (change : Change) → is_sent summed change ≡ true → (is_partial_row summed change.row && says_some summed.input (cell summed.keys change.row)) ≡ true
  told_parts change h = (and_parts (row_fits (take summed.keys summed.columns) (take summed.keys change.row)) _ h).1

  merge_fits : MergeFits many merged_by (edge_of many raw) (partial_edge many summed below) (edge_of many own)
  merge_fits = record {
    sums_up = sums_up many sources sink keys aggs input below a.local;
    group = (groups_fit many some sources sink keys aggs raw own agrees).0;
    reads = refl;
    hashed = hashed many sources sink keys aggs input below a.local;
    routes = λ key i. route_by many (sym (same_columns many sources sink keys aggs input below a.local) i) (exchange_of (a.local.exchanged i)) key;
    comes = λ kind h. inserts_alone below.edge.update kind (subst (λ (k : KindSet). has k kind ≡ true) (own_kinds many sources sink keys aggs input below a.local) h);
    fits = λ change h. (and_parts (is_partial_row summed change.row) (says_some summed.input (cell summed.keys change.row)) (told_parts change h)).0;
    grows = λ none change h.
        said summed.input (cell summed.keys change.row) (reads_append many sources sink keys aggs input below a.local none) (and_parts (is_partial_row summed change.row) (says_some summed.input (cell summed.keys change.row)) (told_parts change h)).1;
    holds = λ row h. subst (λ (columns : List ColTy). row_fits columns row ≡ true) (sym (same_columns many sources sink keys aggs input below a.local)) h;
  }

pub merging_groups_fit : MergingGroupsFit
merging_groups_fit many some sources sink keys aggs input below own a =
    (merge_fits many some sources sink keys aggs input below own a, (groups_fit many some sources sink keys aggs (without_local (first_columns keys) input) own (agrees many some sources sink keys aggs input below own a)).1)
