-- A Top-N of a sound plan fits between its edges.
use Rattle.std.specs.Prelude.{◌≡◌, ℕ, ◌<◌, ◌≤◌, ◌^◌, ◌⊎◌, ◌&&◌, nat_le, Bool, cond, List, ◌++◌, length}
use Rattle.std.proofs.Common.{true, false, [], ◌∷◌, refl, sym, ap, subst, ◌∙◌, inl, arith, Some}
use Rattle.std.proofs.lemmas.Bool.{and_parts, leb-true}
use Rattle.std.specs.List.{AllByRecursion, Contains, list_all}
use Rattle.ct_value.specs.declared.ty.ColTy.{ColTy}
use Rattle.ct_field.specs.Typed.{row_fits}
use Rattle.ct_change.specs.Changelog.{admits, has}
use Rattle.ct_change.specs.declared.kind.Kind.{Kind}
use Rattle.ct_change.specs.declared.kind.Kind.TheVariants.{I, UB, UA, D}
use Rattle.ct_change.specs.declared.kind.KindSet.{KindSet}
use Rattle.ct_catalog.specs.declared.table.TableDef.{TableDef}
use Rattle.rel_algebra.specs.declared.sort.SortCol.{SortCol}
use Rattle.rel_algebra.specs.Ranks.{rank_columns}
use Rattle.rel_algebra.specs.Types.{is_column, largest_bound, rank_fits}
use Rattle.op_rules.specs.Edges.{HoldsOver, IsSeen, LiesIn}
use Rattle.emission_rules.specs.TopFits.{IsLocalKey, IsUniqueKey, TopNFits, output_kinds}
use Rattle.emission_rules.specs.Ranking.{IsSound, Ranking, TellsRanks}
use Rattle.emission_rules.specs.JoinFits.{SideFits}
use Rattle.phys_plan.specs.declared.edge.Exchange.TheVariants.{Hash}
use Rattle.ct_change.specs.declared.update.Update.{Update}
use Rattle.ct_change.specs.declared.update.Update.TheVariants.{Absent, After, Both}
use Rattle.phys_plan.specs.declared.node.KeyInfo.{KeyInfo}
use Rattle.phys_plan.specs.declared.node.Op.{Op}
use Rattle.phys_plan.specs.declared.node.Op.TheVariants as op
use Rattle.column_sets.specs.Sets.{family, is_within, set_of}
use Rattle.upsert_keys.specs.Keys.{top_keys}
use Rattle.upsert_keys.specs.Seen.{everywhere, families}
use Rattle.mode_infer.specs.Kinds.{kind_set, top_kinds}
use Rattle.ct_change.specs.Kinds.{has_more_than_inserts}
use Rattle.mode_infer.specs.Modes.{edge_kinds}
use Rattle.plan_rules.specs.Around.{mode_read, mode_told, ranking_of}
use Rattle.plan_rules.proofs.laws.ChangeFits.{told_out}
use Rattle.plan_rules.proofs.laws.Reading.{meaning_told}
use Rattle.sound_plans.specs.Agrees.{Agrees, IsAsked}
use Rattle.sound_plans.specs.Outputs.{AreWithin, IsProper, Output, around_by, edge_of}
use Rattle.sound_plans.proofs.laws.KeyFamilies.{each_family, of_family}
use Rattle.sound_plans.proofs.laws.Members.{only_one}
use Rattle.sound_plans.proofs.laws.Seen.{everywhere_within, seen_hashed, seen_over_all}
use Rattle.sound_plans.proofs.laws.Sets.{lies_in_set}
use Rattle.sound_plans.proofs.laws.Widths.{all_within, each_appended, each_wider, set_within, wider}
use Rattle.sound_plans.specs.JoinFits.{TopNsFit}
use Rattle.sound_plans.proofs.laws.JoinInputs.{exchanged, input_fits, keeps}
use Rattle.sound_plans.proofs.laws.Kinds.{more_sent, of_told}
use Rattle.sound_plans.proofs.laws.JoinColumns.{made_if}
use Rattle.sound_plans.proofs.laws.Names.{key_of_rows, keys_are, local_sets, local_within, named, named_within, of_named, of_top_key, rank_width, ranks, top_key_tells, top_key_within}
use Rattle.sound_plans.proofs.laws.Told.{told_by_key}

-- ---- kinds

-- what is told of ranks, or of rows that come and go
abbrev rule_kinds : Bool → Update → KindSet → KindSet
rule_kinds by_rank own below = cond by_rank (record { i = true; ub = admits (mode_told own) UB; ua = admits (mode_told own) UA; d = has_more_than_inserts below }) (record { i = true; ub = false; ua = false; d = true })

-- what is inferred of it
abbrev inferred_kinds : Bool → KindSet → KindSet
inferred_kinds by_rank below = cond by_rank (kind_set true true true (has_more_than_inserts below)) (kind_set true false false true)

-- the edge carries all that is told
kinds_told : (by_rank : Bool) (below : KindSet) (input own : Update) (kind : Kind) → has (rule_kinds by_rank own (edge_kinds below input)) kind ≡ true → has (edge_kinds (inferred_kinds by_rank below) own) kind ≡ true
kinds_told true below input Absent I h = refl
kinds_told true below input Absent UB h = refl
kinds_told true below input Absent UA h = refl
kinds_told true below input Absent D h = more_sent below input h
kinds_told true below input (After key) I h = refl
kinds_told true below input (After key) UB h = absurd (cc)
kinds_told true below input (After key) UA h = refl
kinds_told true below input (After key) D h = more_sent below input h
kinds_told true below input Both I h = refl
kinds_told true below input Both UB h = refl
kinds_told true below input Both UA h = refl
kinds_told true below input Both D h = more_sent below input h
kinds_told false below input Absent I h = refl
kinds_told false below input Absent UB h = absurd (cc)
kinds_told false below input Absent UA h = absurd (cc)
kinds_told false below input Absent D h = refl
kinds_told false below input (After key) I h = refl
kinds_told false below input (After key) UB h = absurd (cc)
kinds_told false below input (After key) UA h = absurd (cc)
kinds_told false below input (After key) D h = refl
kinds_told false below input Both I h = refl
kinds_told false below input Both UB h = absurd (cc)
kinds_told false below input Both UA h = absurd (cc)
kinds_told false below input Both D h = refl

-- inserts come, and with old rows new ones
top_inserts : (by_rank : Bool) (below : KindSet) → (inferred_kinds by_rank below).i ≡ true
top_inserts true below = refl
top_inserts false below = refl

top_replaces : (by_rank : Bool) (below : KindSet) → (inferred_kinds by_rank below).ub ≡ true → (inferred_kinds by_rank below).ua ≡ true
top_replaces true below e = refl
top_replaces false below e = absurd (cc)

-- ---- the columns of the input

module _ (columns : List ColTy) (partition : List ℕ) (order : List SortCol) (bound : ℕ) (fits : rank_fits columns partition order bound ≡ true) where
  abbrev sorts : Bool
  sorts = list_all (λ sort. is_column columns sort.col) order

  abbrev limits : Bool
  limits = nat_le 1 bound && nat_le bound largest_bound

  -- the columns of the partition are there
  partition_within : AreWithin (length columns) partition
  partition_within = all_within columns partition (and_parts (list_all (is_column columns) partition) (sorts && limits) fits).0

  -- the bound is a number of the rank's column
  bound_few : bound < 2 ^ 63
  bound_few =
      let others = (and_parts (list_all (is_column columns) partition) (sorts && limits) fits).1 in
      let least = (and_parts sorts limits others).1 in
      let most : bound ≤ largest_bound = leb-true bound largest_bound (and_parts (nat_le 1 bound) (nat_le bound largest_bound) least).1 in
      omega arith

-- ---- a Top-N

module _ (many : ℕ) (some : 0 < many) (sources : List TableDef) (sink : TableDef) (partition : List ℕ) (order : List SortCol) (bound : ℕ) (ranked : Bool) (input own : Output)
    (agrees : Agrees sources sink (op.TopN partition order bound ranked) (input ∷ []) own) where
  abbrev top : Op
  top = op.TopN partition order bound ranked

  abbrev input_asked : IsAsked sink top own.edge.update 0 input
  input_asked = agrees.inputs_asked.0

  abbrev r : Ranking
  r = ranking_of partition order bound ranked (around_by sink (input ∷ []) own)

  -- its columns are those of the input, with the rank where it is shown
  typed : (rank_fits input.columns partition order bound ≡ true) × (rank_columns ranked input.columns ≡ own.columns)
  typed = made_if (rank_fits input.columns partition order bound) (rank_columns ranked input.columns) own.columns agrees.typed

  there : AreWithin (length input.columns) partition
  there = partition_within input.columns partition order bound typed.0

  -- what is told of what leaves
  tells : TellsRanks r (mode_told own.edge.update)
  tells =
      subst (λ update. TellsRanks r (mode_told update)) (sym agrees.tells)
      (of_told (λ update. TellsRanks r (mode_told update)) own.sent own.update_key agrees.taken tt tt
      (λ key is told taken. of_top_key ranked partition bound (length input.columns) key (sym agrees.updates ∙ is)))

  -- rows that agree on what tells them apart are of one partition
  sound : IsSound r
  sound = record {
    within = there;
    few = bound_few input.columns partition order bound typed.0;
    keeps = keeps many some sink top own.edge.update 0 partition input input_asked refl (λ key taken. taken);
    tells = tells;
  }

  -- ---- keys

  -- over a hash edge
  hash_is : input.edge.exchange ≡ Hash partition
  hash_is = exchanged many some sink top own.edge.update 0 partition input input_asked refl

  abbrev unique_sets : List (List ℕ)
  unique_sets = input.keys.unique ++ named ranked partition bound (length input.columns)

  abbrev moment_sets : List (List ℕ)
  moment_sets = local_sets ranked partition bound (length input.columns) (everywhere input.keys)

  -- the keys are those that are inferred
  keys : own.keys ≡ families unique_sets moment_sets (set_of partition ∷ [])
  keys =
      agrees.keyed ∙ ap (λ s. top_keys ranked partition bound s) (seen_hashed input partition hash_is) ∙ keys_are ranked partition bound input.columns input.keys

  unique_is : own.keys.unique ≡ family unique_sets
  unique_is = ap (λ (info : KeyInfo). info.unique) keys

  local_is : own.keys.local ≡ family moment_sets
  local_is = ap (λ (info : KeyInfo). info.local) keys

  fixing_is : own.keys.fixing ≡ family (set_of partition ∷ [])
  fixing_is = ap (λ (info : KeyInfo). info.fixing) keys

  -- in answers
  unique : (set : List ℕ) → Contains own.keys.unique set → IsUniqueKey (λ columns. Contains input.keys.unique columns ⊎ HoldsOver (edge_of many input) columns) r set
  unique set c =
      key_of_rows (λ columns. Contains input.keys.unique columns ⊎ HoldsOver (edge_of many input) columns) ranked partition bound (length input.columns) input.keys.unique (λ key d. inl d) input_asked.proper.unique set
      (of_family unique_sets set (subst (λ (sets : List (List ℕ)). Contains sets set) unique_is c))

  -- at every moment
  local_by : (is_ranked : Bool) → (set : List ℕ) → Contains (local_sets is_ranked partition bound (length input.columns) (everywhere input.keys)) set
      → IsLocalKey (IsSeen (edge_of many input)) (ranking_of partition order bound is_ranked (around_by sink (input ∷ []) own)) set
  local_by true set c = (of_named true partition bound (length input.columns) set c).1
  local_by false set c =
      key_of_rows (IsSeen (edge_of many input)) false partition bound (length input.columns) (everywhere input.keys) (λ key d. seen_over_all many input key partition hash_is d) (everywhere_within input input_asked.proper) set c

  local : (set : List ℕ) → Contains own.keys.local set → IsLocalKey (IsSeen (edge_of many input)) r set
  local set c = local_by ranked set (of_family moment_sets set (subst (λ (sets : List (List ℕ)). Contains sets set) local_is c))

  -- the partition fixes the subtask
  fixing : (set : List ℕ) → Contains own.keys.fixing set → LiesIn partition set
  fixing set c =
      let one = of_family (set_of partition ∷ []) set (subst (λ (sets : List (List ℕ)). Contains sets set) fixing_is c) in
      subst (λ s. LiesIn partition s) (only_one (set_of partition) set one) (lies_in_set partition)

  -- ---- their columns are there

  -- of a family, in all columns that leave
  moved : (sets made : List (List ℕ)) → made ≡ family sets → AllByRecursion (AreWithin (length (rank_columns ranked input.columns))) sets → AllByRecursion (AreWithin (length own.columns)) made
  moved sets made e h =
      subst (λ (s : List (List ℕ)). AllByRecursion (AreWithin (length own.columns)) s) (sym e)
      (each_family (AreWithin (length own.columns)) sets (subst (λ (columns : List ColTy). AllByRecursion (AreWithin (length columns)) sets) typed.1 h))

  unique_within : AllByRecursion (AreWithin (length (rank_columns ranked input.columns))) unique_sets
  unique_within =
      each_appended (length (rank_columns ranked input.columns)) input.keys.unique (named ranked partition bound (length input.columns))
      (each_wider (length input.columns) (length (rank_columns ranked input.columns)) input.keys.unique (rank_width ranked input.columns) input_asked.proper.unique) (named_within ranked input.columns partition bound there)

  update_key_within : (key : List ℕ) → own.update_key ≡ Some key → AreWithin (length own.columns) key
  update_key_within key e =
      subst (λ (columns : List ColTy). AreWithin (length columns) key) typed.1 (top_key_within ranked input.columns partition bound there key (sym agrees.updates ∙ e))

  -- the partition lies in the update key
  key_tells : (key : List ℕ) → own.update_key ≡ Some key → AllByRecursion (λ set. is_within set key ≡ true) own.keys.fixing
  key_tells key e =
      subst (λ (s : List (List ℕ)). AllByRecursion (λ set. is_within set key ≡ true) s) (sym fixing_is)
      (each_family (λ set. is_within set key ≡ true) (set_of partition ∷ []) (top_key_tells ranked partition bound (length input.columns) key (sym agrees.updates ∙ e), tt))

  top_proper : IsProper own
  top_proper = record {
    unique = moved unique_sets own.keys.unique unique_is unique_within;
    local = moved moment_sets own.keys.local local_is (local_within ranked partition bound input.columns (everywhere input.keys) there (everywhere_within input input_asked.proper));
    fixing = moved (set_of partition ∷ []) own.keys.fixing fixing_is
        (wider (length input.columns) (length (rank_columns ranked input.columns)) (set_of partition) (rank_width ranked input.columns) (set_within (length input.columns) partition there), tt);
    update_key = update_key_within;
    told = told_by_key own agrees.taken agrees.tells key_tells;
    inserts = subst (λ (kinds : KindSet). kinds.i ≡ true) (sym agrees.sends) (top_inserts (ranks ranked bound) input.sent);
    replaces = subst (λ (kinds : KindSet). kinds.ub ≡ true → kinds.ua ≡ true) (sym agrees.sends) (top_replaces (ranks ranked bound) input.sent);
  }

  -- ---- between the edges

  -- the input fits as a side of a join does
  abbrev side : SideFits many (mode_read input.edge.kinds input.edge.update) input.columns partition (edge_of many input)
  side = input_fits many some sink top own.edge.update 0 partition input input_asked refl

  out_kinds : (kind : Kind) → has (output_kinds r input.edge.kinds) kind ≡ true → has own.edge.kinds kind ≡ true
  out_kinds kind h =
      let carried : own.edge.kinds ≡ edge_kinds (top_kinds ranked bound input.sent) own.edge.update = agrees.carries ∙ ap (λ kinds. edge_kinds kinds own.edge.update) agrees.sends in
      let told : has (output_kinds r (edge_kinds input.sent input.edge.update)) kind ≡ true = subst (λ kinds. has (output_kinds r kinds) kind ≡ true) input_asked.carries h in
      subst (λ kinds. has kinds kind ≡ true) (sym carried) (kinds_told (ranks ranked bound) input.sent input.edge.update own.edge.update kind told)

  top_between : TopNFits many r (edge_of many input) (edge_of many own)
  top_between = record {
    sound = sound;
    reads = side.reads;
    hashed = side.hashed;
    routed = side.routed;
    kinds = side.kinds;
    fits = side.fits;
    keyed = side.keyed;
    holds = side.holds;
    writes = meaning_told own.edge.update;
    out_kinds = out_kinds;
    out_fits = λ kind row h. told_out own.edge.update own.columns kind row (subst (λ columns. row_fits columns row ≡ true) typed.1 h);
    out_holds = λ row h. subst (λ columns. row_fits columns row ≡ true) typed.1 h;
    unique = unique;
    local = local;
    fixing = fixing;
  }

pub topns_fit : TopNsFit
topns_fit many some sources sink partition order bound ranked input own agrees =
    (top_between many some sources sink partition order bound ranked input own agrees, top_proper many some sources sink partition order bound ranked input own agrees)
