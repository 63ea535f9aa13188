-- A group fits between its edges.
use Rattle.std.proofs.Common.{◌≡◌, ℕ, ◌<◌, ◌≤◌, ◌%◌, ◌==◌, Bool, true, false, cond, not, ◌&&◌, List, [], ◌∷◌, ◌++◌, length, take, Option, Some, None, refl, sym, ap, subst, ◌∙◌, arith}
use Rattle.std.specs.Prelude.{option_map, nat_le}
use Rattle.std.specs.List.{AllByRecursion, Contains}
use Rattle.std.proofs.lemmas.Bool.{leb-true}
use Rattle.std.proofs.lemmas.List.{length-append, length-take-le}
use Rattle.std.proofs.Math.Nat.{zero-mod}
use Rattle.ct_value.specs.Rows.{project}
use Rattle.ct_value.specs.declared.row.Row.{Row}
use Rattle.ct_value.specs.declared.ty.Ty.{Ty}
use Rattle.ct_value.specs.declared.ty.ColTy.{ColTy}
use Rattle.ct_change.specs.declared.kind.Kind.{Kind}
use Rattle.ct_change.specs.declared.kind.Kind.TheVariants.{I, UB, UA, D}
use Rattle.ct_change.specs.declared.kind.KindSet.{KindSet}
use Rattle.ct_change.specs.Changelog.{Mode, append, retract, has, admits, HasKey}
use Rattle.ct_catalog.specs.declared.table.TableDef.{TableDef}
use Rattle.rel_algebra.specs.declared.agg.Agg.{Agg}
use Rattle.rel_algebra.specs.Groups.{group_columns}
use Rattle.rel_algebra.proofs.laws.Fits.{second}
use Rattle.phys_plan.specs.declared.edge.Exchange.TheVariants.{Hash}
use Rattle.ct_change.specs.declared.update.Update.{Update}
use Rattle.ct_change.specs.declared.update.Update.TheVariants.{Absent, After, Both}
use Rattle.phys_plan.specs.declared.node.KeyInfo.{KeyInfo}
use Rattle.phys_plan.specs.declared.node.Op.TheVariants as op
use Rattle.op_rules.specs.Edges.{hash, LiesIn}
use Rattle.emission_rules.specs.Grouping.{Grouping, KeepsGroups, TellsGroups}
use Rattle.emission_rules.specs.GroupFits.{GroupFits, output_kinds}
use Rattle.ct_change.specs.Kinds.{has_more_than_inserts}
use Rattle.emission_rules.proofs.laws.Columns.{project-first}
use Rattle.route.specs.Routing.{key_hash, key_text, types_at}
use Rattle.column_sets.specs.Sets.{set_of, family, is_within}
use Rattle.column_sets.specs.Places.{first_columns}
use Rattle.mode_infer.specs.Kinds.{group_kinds, kind_set}
use Rattle.mode_infer.specs.Modes.{edge_kinds}
use Rattle.mode_infer.specs.UpdateKeys.{group_key}
use Rattle.mode_infer.specs.Updates.{in_full, told}
use Rattle.plan_rules.specs.Plans.{exchange_of, route_by}
use Rattle.plan_rules.specs.Around.{grouping_of, mode_read, mode_told}
use Rattle.plan_rules.proofs.laws.ChangeFits.{read_in, told_out}
use Rattle.plan_rules.proofs.laws.Reading.{meaning_read, meaning_told}
use Rattle.sound_plans.specs.Outputs.{Output, AreWithin, IsProper, around_by, edge_of}
use Rattle.sound_plans.specs.Agrees.{Agrees, taken_by}
use Rattle.sound_plans.proofs.laws.Sets.{lies_in_set}
use Rattle.sound_plans.proofs.laws.Widths.{first_within, set_within}
use Rattle.sound_plans.specs.RowFits.{GroupsFit}
use Rattle.sound_plans.proofs.laws.RowFamilies.{the_only, each_from_family, set_in}
use Rattle.sound_plans.proofs.laws.RowInputs.{comes_by, comes_full, carries_full, routed}
use Rattle.sound_plans.proofs.laws.Told.{told_by_key}
use Rattle.sound_plans.proofs.laws.Updates.{mode_full, kinds_full_read, KeyIs, told_keyed}

-- ---- the first columns

-- a group sends its key columns
keys_exist : (keys : ℕ) (columns made : List ColTy) (aggs : List Agg) → group_columns keys columns aggs ≡ Some made → keys ≤ length made
keys_exist keys columns made aggs e = go (nat_le keys (length columns)) refl _ e
  where
    by : (o : Option (List ColTy)) → keys ≤ length columns → option_map (λ results. take keys columns ++ results) o ≡ Some made → keys ≤ length made
    by None le k = absurd (cc)
    by (Some results) le k =
        let same : take keys columns ++ results ≡ made = cc in
        let size : length (take keys columns ++ results) ≡ length made = ap length same in
        omega (arith, length-append (take keys columns) results, length-take-le keys columns le)

    go : (b : Bool) → nat_le keys (length columns) ≡ b → (o : Option (List ColTy)) → cond b (option_map (λ results. take keys columns ++ results) o) None ≡ Some made → keys ≤ length made
    go true is o k = by o (leb-true keys (length columns) is) k
    go false is o k = absurd (cc)

-- ---- what it tells

abbrev group_by : ℕ → List Agg → List ColTy → Mode → Mode → Grouping
group_by keys aggs columns input output = record { keys = keys; aggs = aggs; columns = columns; input = input; output = output }

-- it leaves out old rows by its key columns, and without calls never
tells_by : (keys : ℕ) (aggs : List Agg) (columns : List ColTy) (input output : Mode) (key : List ℕ) → group_key keys aggs ≡ Some key
    → (a b : Row) → keys ≤ length a → keys ≤ length b → ((project key a ≡ project key b → take keys a ≡ take keys b) × (take keys a ≡ take keys b → project key a ≡ project key b))
tells_by keys [] columns input output key is a b la lb = absurd (cc)
tells_by keys (agg ∷ aggs) columns input output key is a b la lb =
    let same : first_columns keys ≡ key = cc in
    let pa = ap (λ k. project k a) (sym same) ∙ project-first keys a la in
    let pb = ap (λ k. project k b) (sym same) ∙ project-first keys b lb in
    (λ e. sym pa ∙ e ∙ pb, λ e. pa ∙ e ∙ sym pb)

tells : (keys : ℕ) (aggs : List Agg) (columns : List ColTy) (input : Mode) (update : Update) → KeyIs (group_key keys aggs) update → TellsGroups (group_by keys aggs columns input (mode_told update)) (mode_told update)
tells keys aggs columns input Absent is = tt
tells keys aggs columns input (After key) is = λ a b la lb. tells_by keys aggs columns input retract key is a b la lb
tells keys aggs columns input Both is = tt

-- ---- its kinds

-- where no old rows are sent none is left out
none_left_out : (i ua d : Bool) (update : Update) → edge_kinds (kind_set i false ua d) update ≡ kind_set i false ua d
none_left_out i ua d Absent = refl
none_left_out i ua d (After key) = refl
none_left_out i ua d Both = refl

without_calls : (below goes : Bool) (kind : Kind) → (goes ≡ true → below ≡ true) → has (kind_set true false false goes) kind ≡ true → has (kind_set true false false below) kind ≡ true
without_calls below goes I lives h = refl
without_calls below goes UB lives h = h
without_calls below goes UA lives h = h
without_calls below goes D lives h = lives h

with_calls : (goes : Bool) (update : Update) (kind : Kind) → has (kind_set true (admits (mode_told update) UB) (admits (mode_told update) UA) goes) kind ≡ true → has (edge_kinds (kind_set true true true goes) update) kind ≡ true
with_calls goes Absent kind h = h
with_calls goes (After key) kind h = h
with_calls goes Both kind h = h

leaves : (keys : ℕ) (aggs : List Agg) (columns : List ColTy) (input : Mode) (update : Update) (kinds : KindSet) (kind : Kind)
    → has (output_kinds (group_by keys aggs columns input (mode_told update)) kinds) kind ≡ true → has (edge_kinds (group_kinds keys aggs kinds) update) kind ≡ true
leaves keys [] columns input update kinds kind h =
    subst (λ (k : KindSet). has k kind ≡ true) (sym (none_left_out true false (has_more_than_inserts kinds) update))
    (without_calls (has_more_than_inserts kinds) (not (keys == 0) && has_more_than_inserts kinds) kind (λ e. second (not (keys == 0)) (has_more_than_inserts kinds) e) h)
leaves keys (agg ∷ aggs) columns input update kinds kind h = with_calls (not (keys == 0) && has_more_than_inserts kinds) update kind h

-- rows come, and with old rows new ones
group_inserts : (keys : ℕ) (aggs : List Agg) (kinds : KindSet) → (group_kinds keys aggs kinds).i ≡ true
group_inserts keys [] kinds = refl
group_inserts keys (agg ∷ aggs) kinds = refl

group_replaces : (keys : ℕ) (aggs : List Agg) (kinds : KindSet) → (group_kinds keys aggs kinds).ub ≡ true → (group_kinds keys aggs kinds).ua ≡ true
group_replaces keys [] kinds h = h
group_replaces keys (agg ∷ aggs) kinds h = refl

-- ---- where its rows go

-- without key columns all rows have the empty text, and go to subtask 0
no_text : (types : List Ty) → key_text types [] ≡ []
no_text [] = refl
no_text (ty ∷ types) = refl

goes_home : (many : ℕ) (columns : List ColTy) (set : List ℕ) → route_by many columns (hash set) [] ≡ 0
goes_home many columns set = ap (λ text. key_hash text % many) (no_text (types_at set columns)) ∙ zero-mod many

-- it never takes new rows alone
pub untaken : (sink : TableDef) (keys : ℕ) (aggs : List Agg) (update : Update) (key : Option (List ℕ)) → taken_by sink (op.Group keys aggs) 0 update key ≡ false
untaken sink keys aggs update None = refl
untaken sink keys aggs update (Some key) = refl

-- nor does one in bundles; what is said of that is said of a group without them
taken_alike : (sink : TableDef) (keys : ℕ) (aggs : List Agg) (update : Update) (key : Option (List ℕ)) → taken_by sink (op.BatchGroup keys aggs) 0 update key ≡ taken_by sink (op.Group keys aggs) 0 update key
taken_alike sink keys aggs update None = refl
taken_alike sink keys aggs update (Some key) = refl

pub as_group : (sources : List TableDef) (sink : TableDef) (keys : ℕ) (aggs : List Agg) (input own : Output) → Agrees sources sink (op.BatchGroup keys aggs) (input ∷ []) own → Agrees sources sink (op.Group keys aggs) (input ∷ []) own
as_group sources sink keys aggs input own agrees =
    let asked = agrees.inputs_asked.0 in
    record {
      inputs_asked = (
        record {
          proper = asked.proper;
          carries = asked.carries;
          tells = asked.tells ∙ ap (told input.sent input.update_key) (taken_alike sink keys aggs own.edge.update input.update_key);
          exchanged = asked.exchanged;
        },
        tt,
      );
      typed = agrees.typed;
      keyed = agrees.keyed;
      sends = agrees.sends;
      updates = agrees.updates;
      carries = agrees.carries;
      taken = agrees.taken;
      tells = agrees.tells;
    }

-- ---- the node

key_there : (keys : ℕ) (aggs : List Agg) (width : ℕ) (key : List ℕ) → keys ≤ width → group_key keys aggs ≡ Some key → AreWithin width key
key_there keys [] width key le is = absurd (cc)
key_there keys (agg ∷ aggs) width key le is = let same : first_columns keys ≡ key = cc in subst (AreWithin width) same (first_within keys width le)

-- which has the columns that fix a row's subtask
key_tells : (keys : ℕ) (aggs : List Agg) (key : List ℕ) → group_key keys aggs ≡ Some key → (sets : List (List ℕ)) → sets ≡ family (set_of (first_columns keys) ∷ []) → AllByRecursion (λ set. is_within set key ≡ true) sets
key_tells keys [] key is sets e = absurd (cc)
key_tells keys (agg ∷ aggs) key is sets e =
    let same : first_columns keys ≡ key = cc in
    subst (λ (k : List ℕ). AllByRecursion (λ set. is_within set k ≡ true) sets) same
    (each_from_family (λ set. is_within set (first_columns keys) ≡ true) (set_of (first_columns keys) ∷ []) sets e (set_in (first_columns keys), tt))

module _ (many : ℕ) (some : 0 < many) (sources : List TableDef) (sink : TableDef) (keys : ℕ) (aggs : List Agg) (input own : Output) (agrees : Agrees sources sink (op.Group keys aggs) (input ∷ []) own) where
  -- rows come by the key columns, and in full
  hashed : input.edge.exchange ≡ Hash (first_columns keys)
  hashed = comes_by sink (op.Group keys aggs) own.edge.update 0 input agrees.inputs_asked.0 (Some (first_columns keys)) refl

  full : input.edge.update ≡ in_full input.sent
  full = comes_full sink (op.Group keys aggs) own.edge.update 0 input agrees.inputs_asked.0 (untaken sink keys aggs own.edge.update input.update_key)

  -- so they are read as inserts or as a bag
  abbrev mode : Mode
  mode = mode_read input.edge.kinds input.edge.update

  comes_whole : (P : Mode → Type 0) → P append → P retract → P mode
  comes_whole P inserts whole = subst (λ update. P (mode_read input.edge.kinds update)) (sym full) (mode_full P input.edge.kinds input.sent inserts whole)

  comes_kind : (kind : Kind) → has input.edge.kinds kind ≡ true → admits mode kind ≡ true
  comes_kind kind h = subst (λ update. admits (mode_read input.edge.kinds update) kind ≡ true) (sym full) (kinds_full_read input.edge.kinds input.sent kind h)

  own_keyed : KeyIs (group_key keys aggs) own.edge.update
  own_keyed =
      let told_so : own.edge.update ≡ told own.sent (group_key keys aggs) agrees.taken = agrees.tells ∙ ap (λ k. told own.sent k agrees.taken) agrees.updates in
      subst (KeyIs (group_key keys aggs)) (sym told_so) (told_keyed own.sent (group_key keys aggs) agrees.taken)

  own_kinds : own.edge.kinds ≡ edge_kinds (group_kinds keys aggs input.sent) own.edge.update
  own_kinds = agrees.carries ∙ ap (λ (k : KindSet). edge_kinds k own.edge.update) agrees.sends

  input_kinds : input.edge.kinds ≡ input.sent
  input_kinds = carries_full input agrees.inputs_asked.0.carries full

  typed : group_columns keys input.columns aggs ≡ Some own.columns
  typed = agrees.typed

  -- its columns lie in each of its keys
  lies_in_key : (sets : List (List ℕ)) → sets ≡ family (set_of (first_columns keys) ∷ []) → (set : List ℕ) → Contains sets set → LiesIn (first_columns keys) set
  lies_in_key sets is set c =
      subst (λ s. LiesIn (first_columns keys) s) (the_only (set_of (first_columns keys)) sets is set c) (lies_in_set (first_columns keys))

  group_fits : GroupFits many (grouping_of keys aggs (around_by sink (input ∷ []) own)) (edge_of many input) (edge_of many own)
  group_fits = record {
    sound = record {
      made = own.columns;
      typed = typed;
      keeps = comes_whole (KeepsGroups keys) tt tt;
      tells = tells keys aggs input.columns mode own.edge.update own_keyed;
    };
    reads = meaning_read input.edge.kinds input.edge.update;
    hashed = ap exchange_of hashed;
    routed = λ key. routed many some input.columns input.edge.exchange key;
    home = λ e. ap (λ x. route_by many input.columns (exchange_of x) []) hashed ∙ goes_home many input.columns (first_columns keys);
    kinds = comes_kind;
    fits = λ change h. read_in input.edge.kinds input.edge.update input.columns change h;
    keyed = λ change h. comes_whole (λ m. HasKey m change.row) tt tt;
    holds = λ row h. h;
    writes = meaning_told own.edge.update;
    out_kinds = λ kind h.
        subst (λ (k : KindSet). has k kind ≡ true) (sym own_kinds)
        (leaves keys aggs input.columns mode own.edge.update input.sent kind
        (subst (λ (k : KindSet). has (output_kinds (grouping_of keys aggs (around_by sink (input ∷ []) own)) k) kind ≡ true) input_kinds h));
    out_fits = λ kind row h. told_out own.edge.update own.columns kind row h;
    out_holds = λ row h. h;
    unique = λ key h. lies_in_key own.keys.unique (ap (λ (k : KeyInfo). k.unique) agrees.keyed) key h;
    local = λ key h. lies_in_key own.keys.local (ap (λ (k : KeyInfo). k.local) agrees.keyed) key h;
    fixing = λ set h. lies_in_key own.keys.fixing (ap (λ (k : KeyInfo). k.fixing) agrees.keyed) set h;
  }

  -- their columns are there
  few : keys ≤ length own.columns
  few = keys_exist keys input.columns own.columns aggs typed

  keys_there : (sets : List (List ℕ)) → sets ≡ family (set_of (first_columns keys) ∷ []) → AllByRecursion (AreWithin (length own.columns)) sets
  keys_there sets is =
      each_from_family (AreWithin (length own.columns)) (set_of (first_columns keys) ∷ []) sets is
      (set_within (length own.columns) (first_columns keys) (first_within keys (length own.columns) few), tt)

  group_proper : IsProper own
  group_proper = record {
    unique = keys_there own.keys.unique (ap (λ (k : KeyInfo). k.unique) agrees.keyed);
    local = keys_there own.keys.local (ap (λ (k : KeyInfo). k.local) agrees.keyed);
    fixing = keys_there own.keys.fixing (ap (λ (k : KeyInfo). k.fixing) agrees.keyed);
    update_key = λ key is. key_there keys aggs (length own.columns) key few (sym agrees.updates ∙ is);
    told = told_by_key own agrees.taken agrees.tells (λ key is. key_tells keys aggs key (sym agrees.updates ∙ is) own.keys.fixing (ap (λ (k : KeyInfo). k.fixing) agrees.keyed));
    inserts = ap (λ (k : KindSet). k.i) agrees.sends ∙ group_inserts keys aggs input.sent;
    replaces = λ h. ap (λ (k : KindSet). k.ua) agrees.sends ∙ group_replaces keys aggs input.sent (sym (ap (λ (k : KindSet). k.ub) agrees.sends) ∙ h);
  }

pub groups_fit : GroupsFit
groups_fit many some sources sink keys aggs input own agrees = (group_fits many some sources sink keys aggs input own agrees, group_proper many some sources sink keys aggs input own agrees)
