-- A sink fits between its edges, and prints kinds of its table's mode alone.
use Rattle.std.proofs.Common.{◌≡◌, ℕ, Bool, true, false, cond, ◌&&◌, ◌||◌, List, [], ◌∷◌, length, Option, Some, None, refl, sym, ap, subst, ◌∙◌, ⊎_elim}
use Rattle.std.specs.Prelude.{unwrap_or}
use Rattle.ct_value.specs.declared.row.Row.{Row}
use Rattle.ct_value.specs.declared.ty.ColTy.{ColTy}
use Rattle.ct_field.specs.Typed.{row_fits}
use Rattle.ct_change.specs.declared.kind.Kind.{Kind}
use Rattle.ct_change.specs.declared.kind.Kind.TheVariants.{I, UB, UA, D}
use Rattle.ct_change.specs.declared.kind.KindSet.{KindSet}
use Rattle.ct_change.specs.declared.kind.Declared.{Declared}
use Rattle.ct_change.specs.declared.kind.Declared.TheVariants.{Append, Retract, Upsert}
use Rattle.ct_change.specs.declared.change.Change.{Change}
use Rattle.ct_change.specs.Changelog.{append, retract, upsert, mode_of, adds, has, admits, HasKey}
use Rattle.ct_change.specs.KeyRows.{row_told}
use Rattle.ct_catalog.specs.declared.table.TableDef.{TableDef}
use Rattle.rel_algebra.specs.Clauses.{Fits}
use Rattle.rel_algebra.proofs.laws.Fits.{first, second}
use Rattle.ct_change.specs.declared.update.Update.{Update}
use Rattle.ct_change.specs.declared.update.Update.TheVariants.{Absent, After, Both}
use Rattle.phys_plan.specs.declared.edge.Exchange.TheVariants.{Forward}
use Rattle.phys_plan.specs.declared.node.KeyInfo.{KeyInfo}
use Rattle.phys_plan.specs.declared.node.Op.TheVariants as op
use Rattle.op_rules.specs.Edges.{Meaning, bag, last_rows, meaning_of}
use Rattle.emission_rules.specs.Changes.{after_key, mode_after}
use Rattle.stream_model.specs.KeysTold.{told_fits}
use Rattle.emission_rules.specs.Sink.{splits, kind_alone, kind_printed, printed as printed_change, MayBeRead, SinkFits}
use Rattle.column_sets.specs.Sets.{is_within, same_set}
use Rattle.ct_change.specs.Kinds.{has_more_than_inserts, is_upsert}
use Rattle.mode_infer.specs.Modes.{edge_kinds, printed}
use Rattle.mode_infer.specs.Updates.{same_key, in_full, told}
use Rattle.plan_inferred.specs.declared.ways.Way.TheVariants.{NewRows, Direct, Materialized, Refused}
use Rattle.plan_inferred.specs.Ways.{holds_everywhere, holds_in_answers, tells_by}
use Rattle.plan_inferred.specs.Rules.{is_direct}
use Rattle.plan_rules.specs.Plans.{change_fits, exchange_of, key_alone, meaning_by}
use Rattle.plan_rules.proofs.laws.ChangeFits.{fits_width, part_fits, row_fits_told, told_fits_in}
use Rattle.ct_catalog.specs.Columns.{table_mode}
use Rattle.plan_rules.specs.Around.{sink_of}
use Rattle.plan_rules.proofs.laws.Reading.{retract_admits}
use Rattle.sound_plans.specs.Outputs.{Output, AreTold, AreWithin, IsProper, around_by, edge_of, printed_edge}
use Rattle.sound_plans.specs.Agrees.{Carries, ComesDirect, ComesShown, taken_by, Suits, SinkAgrees}
use Rattle.sound_plans.proofs.laws.Kinds.{of_told}
use Rattle.sound_plans.proofs.laws.Seen.{holds_over}
use Rattle.sound_plans.proofs.laws.Sets.{lies_itself, lies_same}
use Rattle.sound_plans.specs.RowFits.{SinksFit}
use Rattle.sound_plans.proofs.laws.RowFamilies.{among_within, from_none, each_from_none, within_itself}
use Rattle.sound_plans.proofs.laws.RowInputs.{comes_by, comes_keyed}
use Rattle.sound_plans.proofs.laws.Updates.{meaning_full, told_untaken, meaning_after, columns_there, kinds_admitted, mode_keyed}

-- ---- kinds

-- an edge without updates has no rows of updates, and one of new rows no old ones
abbrev IsQuiet : KindSet → Update → Type 0
IsQuiet kinds Absent = (kinds.ub ≡ false) × (kinds.ua ≡ false)
IsQuiet kinds (After key) = kinds.ub ≡ false
IsQuiet kinds Both = Unit {0}

wrong : (b : Bool) → b ≡ false → b ≡ true → ⊥
wrong b e h = let both : false ≡ true = sym e ∙ h in cc

never : (b c : Bool) → (b ≡ true → c ≡ true) → c ≡ false → b ≡ false
never true c h e = absurd (wrong c e (h refl))
never false c h e = refl

quiet_full : (sent : KindSet) → (sent.ub ≡ true → sent.ua ≡ true) → IsQuiet (edge_kinds sent (in_full sent)) (in_full sent)
quiet_full sent replaces = go sent.ua refl
  where
    go : (b : Bool) → sent.ua ≡ b → IsQuiet (edge_kinds sent (cond b Both Absent)) (cond b Both Absent)
    go true is = tt
    go false is = (never sent.ub sent.ua replaces is, is)

quiet_told : (sent : KindSet) (key : Option (List ℕ)) (taken : Bool) → (sent.ub ≡ true → sent.ua ≡ true) → IsQuiet (edge_kinds sent (told sent key taken)) (told sent key taken)
quiet_told sent None taken replaces = quiet_full sent replaces
quiet_told sent (Some key) taken replaces =
    elim (sent.ua && taken) as (λ b. IsQuiet (edge_kinds sent (cond b (After key) (in_full sent))) (cond b (After key) (in_full sent))) [ true ↦ refl | false ↦ quiet_full sent replaces ]

-- all that comes is printed, as it is or split
prints : (mode : Declared) (kinds : KindSet) (update : Update) (kind : Kind) → IsQuiet kinds update → has kinds kind ≡ true
    → has (printed mode (record { kinds = kinds; update = update })) (kind_printed (splits mode (after_key update)) kind) ≡ true
prints Append kinds update kind quiet h = h
prints Retract kinds update kind quiet h = h
prints Upsert kinds Absent I quiet h = h
prints Upsert kinds Absent UB quiet h = absurd (wrong kinds.ub quiet.0 h)
prints Upsert kinds Absent UA quiet h = absurd (wrong kinds.ua quiet.1 h)
prints Upsert kinds Absent D quiet h = h
prints Upsert kinds (After key) kind quiet h = h
prints Upsert kinds Both I quiet h = refl
prints Upsert kinds Both UB quiet h = refl
prints Upsert kinds Both UA quiet h = refl
prints Upsert kinds Both D quiet h = refl

-- inserts alone
only_inserts : (kinds : KindSet) (kind : Kind) → has_more_than_inserts kinds ≡ false → has kinds kind ≡ true → has (record { i = true; ub = false; ua = false; d = false }) kind ≡ true
only_inserts kinds I none h = refl
only_inserts kinds UB none h = absurd (wrong (has_more_than_inserts kinds) none (ap (λ b. b || (kinds.ua || kinds.d)) h))
only_inserts kinds UA none h = absurd (wrong (has_more_than_inserts kinds) none (ap (λ b. kinds.ub || (b || kinds.d)) h ∙ ends kinds.ub))
  where
    ends : (b : Bool) → (b || true) ≡ true
    ends true = refl
    ends false = refl
only_inserts kinds D none h = absurd (wrong (has_more_than_inserts kinds) none (ap (λ b. kinds.ub || (kinds.ua || b)) h ∙ ends kinds.ub kinds.ua))
  where
    ends : (a b : Bool) → (a || (b || true)) ≡ true
    ends true b = refl
    ends false true = refl
    ends false false = refl

-- an append table takes inserts alone
abbrev InsertsFor : Declared → KindSet → Type 0
InsertsFor Append kinds = has_more_than_inserts kinds ≡ false
InsertsFor Retract kinds = Unit {0}
InsertsFor Upsert kinds = Unit {0}

inserts_for : (mode : Declared) (key : Option (List ℕ)) (input : Output) → Suits mode key input → InsertsFor mode input.edge.kinds
inserts_for Append key input suits = suits
inserts_for Retract key input suits = tt
inserts_for Upsert key input suits = tt

-- what is printed is of a kind of the table's mode
printed_admitted : (mode : Declared) (key : Option (List ℕ)) (kinds : KindSet) (update : Update) (kind : Kind) → IsQuiet kinds update → InsertsFor mode kinds
    → has (printed mode (record { kinds = kinds; update = update })) kind ≡ true → admits (mode_of mode (unwrap_or key [])) kind ≡ true
printed_admitted Append key kinds update kind quiet inserts h = only_inserts kinds kind inserts h
printed_admitted Retract key kinds update kind quiet inserts h = retract_admits kind
printed_admitted Upsert key kinds Absent I quiet inserts h = refl
printed_admitted Upsert key kinds Absent UB quiet inserts h = absurd (wrong kinds.ub quiet.0 h)
printed_admitted Upsert key kinds Absent UA quiet inserts h = refl
printed_admitted Upsert key kinds Absent D quiet inserts h = refl
printed_admitted Upsert key kinds (After own) I quiet inserts h = refl
printed_admitted Upsert key kinds (After own) UB quiet inserts h = absurd (wrong kinds.ub quiet h)
printed_admitted Upsert key kinds (After own) UA quiet inserts h = refl
printed_admitted Upsert key kinds (After own) D quiet inserts h = refl
printed_admitted Upsert key kinds Both kind quiet inserts h = split kind h
  where
    split : (kind : Kind) → has (record { i = true; ub = false; ua = false; d = true }) kind ≡ true → admits (mode_of Upsert (unwrap_or key [])) kind ≡ true
    split I h = refl
    split UB h = h
    split UA h = refl
    split D h = refl

-- ---- how what was printed may be read

-- whether a table of this mode and key takes new rows alone by a key
abbrev takes_by : Declared → Option (List ℕ) → Option (List ℕ) → Bool
takes_by mode own None = false
takes_by mode own (Some key) = is_upsert mode && same_key own key

-- as the sink of the table does
takes_so : (sink : TableDef) (key : Option (List ℕ)) → taken_by sink op.Sink 0 Absent key ≡ takes_by sink.mode sink.key key
takes_so sink None = refl
takes_so sink (Some key) = refl

both_ways : (a b : Bool) → (a && b) ≡ (b && a)
both_ways true true = refl
both_ways true false = refl
both_ways false true = refl
both_ways false false = refl

-- an upsert table takes new rows alone where they tell by its key
told_new : (sent : KindSet) (key : List ℕ) (own : Option (List ℕ)) → told sent own (takes_by Upsert (Some key) own) ≡ cond (tells_by sent own key) (After (unwrap_or own [])) (in_full sent)
told_new sent key None = refl
told_new sent key (Some own) = ap (λ b. cond (sent.ua && b) (After own) (in_full sent)) (both_ways (is_within key own) (is_within own key))

tells_same : (sent : KindSet) (own : Option (List ℕ)) (key : List ℕ) → tells_by sent own key ≡ true → same_set (unwrap_or own []) key ≡ true
tells_same sent None key e = absurd (cc)
tells_same sent (Some own) key e = second sent.ua (same_set own key) e

-- and otherwise rows as they come, where a set of columns holds everywhere
direct_holds : (all some : Bool) → is_direct (cond all Direct (cond some Materialized Refused)) ≡ true → all ≡ true
direct_holds true some e = refl
direct_holds false true e = absurd (let h : false ≡ true = e in cc)
direct_holds false false e = absurd (let h : false ≡ true = e in cc)

module _ (many : ℕ) (input : Output) where
  -- what comes in full may be read as a bag, and by a key that holds everywhere
  read_in_full : (update : Update) (meaning : Meaning) → update ≡ in_full input.sent → MayBeRead (edge_of many input) bag meaning → MayBeRead (edge_of many input) (meaning_by update) meaning
  read_in_full update meaning is may = subst (λ (m : Meaning). MayBeRead (edge_of many input) m meaning) (sym (ap meaning_by is ∙ meaning_full input.sent)) may

  by_key : (key : List ℕ) (update : Update) (b : Bool) → tells_by input.sent input.update_key key ≡ b → update ≡ cond b (After (unwrap_or input.update_key [])) (in_full input.sent)
      → is_direct (cond b NewRows (cond (holds_everywhere input.keys key) Direct (cond (holds_in_answers input.keys key) Materialized Refused))) ≡ true
      → MayBeRead (edge_of many input) (meaning_by update) (last_rows key)
  by_key key update true tells is direct =
      subst (λ (u : Update). MayBeRead (edge_of many input) (meaning_by u) (last_rows key)) (sym is) (lies_same (unwrap_or input.update_key []) key (tells_same input.sent input.update_key key tells))
  by_key key update false tells is direct =
      read_in_full update (last_rows key) is (holds_over many input key (direct_holds (holds_everywhere input.keys key) (holds_in_answers input.keys key) direct))

  may_be_read : (mode : Declared) (key : Option (List ℕ)) (update : Update) → update ≡ told input.sent input.update_key (takes_by mode key input.update_key) → Suits mode key input
      → MayBeRead (edge_of many input) (meaning_by update) (meaning_of (mode_of mode (unwrap_or key [])))
  may_be_read Append key update is suits = read_in_full update bag (is ∙ ap (told input.sent input.update_key) (not_taken input.update_key) ∙ told_untaken input.sent input.update_key) tt
    where
      not_taken : (own : Option (List ℕ)) → takes_by Append key own ≡ false
      not_taken None = refl
      not_taken (Some own) = refl
  may_be_read Retract key update is suits = read_in_full update bag (is ∙ ap (told input.sent input.update_key) (not_taken input.update_key) ∙ told_untaken input.sent input.update_key) tt
    where
      not_taken : (own : Option (List ℕ)) → takes_by Retract key own ≡ false
      not_taken None = refl
      not_taken (Some own) = refl
  may_be_read Upsert None update is suits = absurd suits
  may_be_read Upsert (Some key) update is suits = by_key key update (tells_by input.sent input.update_key key) refl (is ∙ told_new input.sent key input.update_key) suits

-- ---- what is printed

-- new rows alone come by the key of an upsert table
abbrev ComesFor : Update → Declared → Option (List ℕ) → Type 0
ComesFor Absent mode own = Unit {0}
ComesFor (After key) Append own = ⊥
ComesFor (After key) Retract own = ⊥
ComesFor (After key) Upsert None = ⊥
ComesFor (After key) Upsert (Some own) = is_within own key ≡ true
ComesFor Both mode own = Unit {0}

comes_taken : (mode : Declared) (own : Option (List ℕ)) (key : List ℕ) → takes_by mode own (Some key) ≡ true → ComesFor (After key) mode own
comes_taken Append own key h = absurd (cc (h))
comes_taken Retract own key h = absurd (cc (h))
comes_taken Upsert None key h = absurd (cc (h))
comes_taken Upsert (Some own) key h = first (is_within own key) (is_within key own) h

comes_for : (sent : KindSet) (key : Option (List ℕ)) (mode : Declared) (own : Option (List ℕ)) → ComesFor (told sent key (takes_by mode own key)) mode own
comes_for sent key mode own =
    of_told (λ update. ComesFor update mode own) sent key (takes_by mode own key) tt tt
    (λ columns is updates taken. comes_taken mode own columns (subst (λ (k : Option (List ℕ)). takes_by mode own k ≡ true) is taken))

-- a row that is printed by itself goes or comes as it did
alone_adds : (kind : Kind) → adds (kind_alone kind) ≡ adds kind
alone_adds I = refl
alone_adds UB = refl
alone_adds UA = refl
alone_adds D = refl

-- of a row that came in full
full_printed : (mode : Declared) (key : List ℕ) (columns : List ColTy) (change : Change) → Fits columns change.row
    → change_fits (meaning_of (mode_of mode key)) columns (printed_change (record { declared = mode; key = key; after = None }) change) ≡ true
full_printed Append key columns change h = told_fits_in append columns change.kind change.row h
full_printed Retract key columns change h = told_fits_in retract columns change.kind change.row h
full_printed Upsert key columns change h =
    subst (λ b. told_fits (key_alone (Some key) b) columns (row_told (upsert key) (adds change.kind) change.row) ≡ true) (sym (alone_adds change.kind))
    (row_fits_told (upsert key) columns (adds change.kind) change.row h)

-- and of one that came over an after-only edge
after_printed : (key own : List ℕ) (columns : List ColTy) (comes : Bool) (row : Row) → is_within own key ≡ true → told_fits (key_alone (Some key) comes) columns row ≡ true
    → told_fits (key_alone (Some own) comes) columns (row_told (upsert own) comes row) ≡ true
after_printed key own columns true row within h = h
after_printed key own columns false row within h = part_fits key own (λ column has. among_within own key column within has) columns row h

printed_fits : (update : Update) (mode : Declared) (own : Option (List ℕ)) (columns : List ColTy) (change : Change) → ComesFor update mode own → change_fits (meaning_by update) columns change ≡ true
    → change_fits (meaning_of (mode_of mode (unwrap_or own []))) columns (printed_change (record { declared = mode; key = unwrap_or own []; after = after_key update }) change) ≡ true
printed_fits Absent mode own columns change comes h = full_printed mode (unwrap_or own []) columns change h
printed_fits (After key) Append own columns change comes h = absurd comes
printed_fits (After key) Retract own columns change comes h = absurd comes
printed_fits (After key) Upsert None columns change comes h = absurd comes
printed_fits (After key) Upsert (Some own) columns change comes h = after_printed key own columns (adds change.kind) change.row comes h
printed_fits Both mode own columns change comes h = full_printed mode (unwrap_or own []) columns change h

-- ---- what comes

-- how what comes is read, printed and told, be it as the sink asks for it or from a materializer
record Comes (many : ℕ) (sink : TableDef) (input : Output) : Type 0 where
  proper : IsProper input
  carries : Carries input
  forwards : input.edge.exchange ≡ Forward
  quiet : IsQuiet (edge_kinds input.sent input.edge.update) input.edge.update
  inserts : InsertsFor sink.mode input.edge.kinds
  for_table : ComesFor input.edge.update sink.mode sink.key
  may : MayBeRead (edge_of many input) (meaning_by input.edge.update) (meaning_of (mode_of sink.mode (unwrap_or sink.key [])))
  keyed : (row : Row) → length row ≡ length input.columns → HasKey (mode_after (after_key input.edge.update)) row

-- of an upsert table and an edge of new rows alone, by its key
of_shown : (P : Update → Declared → Option (List ℕ) → Type 0) (key : List ℕ) (update : Update) (mode : Declared) (own : Option (List ℕ)) → update ≡ After key → mode ≡ Upsert → own ≡ Some key
    → P (After key) Upsert (Some key) → P update mode own
of_shown P key update mode own tells upserts is h =
    subst (λ u. P u mode own) (sym tells) (subst (λ m. P (After key) m own) (sym upserts) (subst (λ o. P (After key) Upsert o) (sym is) h))

module _ (many : ℕ) (sink : TableDef) (input : Output) where
  comes_direct : ComesDirect sink input → Comes many sink input
  comes_direct direct =
      let asks = direct.asked in
      let told_so : input.edge.update ≡ told input.sent input.update_key (takes_by sink.mode sink.key input.update_key) = asks.tells ∙ ap (told input.sent input.update_key) (takes_so sink input.update_key) in
      record {
        proper = asks.proper;
        carries = asks.carries;
        forwards = comes_by sink op.Sink Absent 0 input asks None refl;
        quiet =
            subst (λ (u : Update). IsQuiet (edge_kinds input.sent u) u) (sym told_so)
            (quiet_told input.sent input.update_key (takes_by sink.mode sink.key input.update_key) asks.proper.replaces);
        inserts = inserts_for sink.mode sink.key input direct.suits;
        for_table = subst (λ (update : Update). ComesFor update sink.mode sink.key) (sym told_so) (comes_for input.sent input.update_key sink.mode sink.key);
        may = may_be_read many input sink.mode sink.key input.edge.update told_so direct.suits;
        keyed = λ row wide. mode_keyed input.columns input.update_key input.edge.update (comes_keyed sink op.Sink Absent 0 input asks) asks.proper.update_key row wide;
      }

  comes_shown : ComesShown sink input → Comes many sink input
  comes_shown shown = record {
    proper = shown.proper;
    carries = shown.carries;
    forwards = shown.forwards;
    quiet = subst (λ (u : Update). IsQuiet (edge_kinds input.sent u) u) (sym shown.tells) refl;
    inserts = subst (λ mode. InsertsFor mode input.edge.kinds) (sym shown.upserts) tt;
    for_table = of_shown ComesFor shown.key input.edge.update sink.mode sink.key shown.tells shown.upserts shown.key_is (within_itself shown.key);
    may =
        of_shown (λ update mode own. MayBeRead (edge_of many input) (meaning_by update) (meaning_of (mode_of mode (unwrap_or own []))))
        shown.key input.edge.update sink.mode sink.key shown.tells shown.upserts shown.key_is (lies_itself shown.key, lies_itself shown.key);
    keyed = λ row wide. subst (λ (u : Update). HasKey (mode_after (after_key u)) row) (sym shown.tells) (columns_there input.columns shown.key shown.within row wide);
  }

-- ---- the node

module _ (many : ℕ) (sink : TableDef) (input own : Output) (agrees : SinkAgrees sink input own) where
  comes : Comes many sink input
  comes = ⊎_elim (comes_direct many sink input) (comes_shown many sink input) agrees.comes

  quiet : IsQuiet input.edge.kinds input.edge.update
  quiet = subst (λ (k : KindSet). IsQuiet k input.edge.update) (sym comes.carries) comes.quiet

  same_columns : input.columns ≡ own.columns
  same_columns = sym agrees.typed

  sink_fits : SinkFits (sink_of (around_by sink (input ∷ []) own)) (edge_of many input) (printed_edge many sink own)
  sink_fits = record {
    forwards = ap exchange_of comes.forwards;
    reads = meaning_after input.edge.update;
    writes = refl;
    may = comes.may;
    admitted = λ kind h. kinds_admitted input.sent input.edge.update kind (subst (λ (k : KindSet). has k kind ≡ true) comes.carries h);
    keyed = λ change h. comes.keyed change.row (fits_width (meaning_by input.edge.update) input.columns change h);
    kinds = λ kind h.
        subst (λ (k : KindSet). has k (kind_printed (splits sink.mode (after_key input.edge.update)) kind) ≡ true) (sym agrees.prints)
        (prints sink.mode input.edge.kinds input.edge.update kind quiet h);
    fits = λ change h.
        subst (λ (columns : List ColTy). change_fits (meaning_of (table_mode sink)) columns (printed_change (sink_of (around_by sink (input ∷ []) own)) change) ≡ true) same_columns
        (printed_fits input.edge.update sink.mode sink.key input.columns change comes.for_table h);
    holds = λ row h. subst (λ (columns : List ColTy). row_fits columns row ≡ true) same_columns h;
    unique = λ key h. absurd (from_none own.keys.unique (ap (λ (k : KeyInfo). k.unique) agrees.keyed) key h);
    local = λ key h. absurd (from_none own.keys.local (ap (λ (k : KeyInfo). k.local) agrees.keyed) key h);
    fixing = λ set h. absurd (from_none own.keys.fixing (ap (λ (k : KeyInfo). k.fixing) agrees.keyed) set h);
  }

  sink_proper : IsProper own
  sink_proper = record {
    unique = each_from_none (AreWithin (length own.columns)) own.keys.unique (ap (λ (k : KeyInfo). k.unique) agrees.keyed);
    local = each_from_none (AreWithin (length own.columns)) own.keys.local (ap (λ (k : KeyInfo). k.local) agrees.keyed);
    fixing = each_from_none (AreWithin (length own.columns)) own.keys.fixing (ap (λ (k : KeyInfo). k.fixing) agrees.keyed);
    update_key = λ key is. absurd (let none : None ≡ Some key = sym agrees.updates ∙ is in cc);
    told = subst (λ (update : Update). AreTold update own.keys.fixing) (sym agrees.tells) tt;
    inserts = ap (λ (k : KindSet). k.i) agrees.sends ∙ comes.proper.inserts;
    replaces = λ h. ap (λ (k : KindSet). k.ua) agrees.sends ∙ comes.proper.replaces (sym (ap (λ (k : KindSet). k.ub) agrees.sends) ∙ h);
  }

  of_mode : (kind : Kind) → has own.edge.kinds kind ≡ true → admits (table_mode sink) kind ≡ true
  of_mode kind h =
      printed_admitted sink.mode sink.key input.edge.kinds input.edge.update kind quiet comes.inserts
      (subst (λ (k : KindSet). has k kind ≡ true) agrees.prints h)

pub sinks_fit : SinksFit
sinks_fit many sink input own agrees = (sink_fits many sink input own agrees, sink_proper many sink input own agrees, of_mode many sink input own agrees)
