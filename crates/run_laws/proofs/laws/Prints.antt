-- What a run prints has the columns of the sink's edge.
use Rattle.std.specs.Prelude.{◌≡◌, ◌==◌, ℕ, cond, List, length, Option}
use Rattle.std.proofs.Common.{true, [], ◌∷◌, refl, sym, ap, subst}
use Rattle.std.specs.List.{AllByRecursion}
use Rattle.std.proofs.lemmas.Bool.{eq-eqb}
use Rattle.ct_value.specs.Bag.{none}
use Rattle.ct_value.specs.declared.ty.ColTy.{ColTy}
use Rattle.ct_catalog.specs.Columns.{table_mode}
use Rattle.ct_change.specs.declared.change.Change.{Change}
use Rattle.ct_change.specs.Changelog.{Mode, append, retract, upsert, Rows, admits, apply, IsValidFrom, MayCome}
use Rattle.op_rules.specs.Edges.{Meaning, meaning_of}
use Rattle.phys_plan.specs.declared.plan.Plan.{Plan}
use Rattle.phys_plan.specs.Reading.{numbered}
use Rattle.stream_model.specs.KeysTold.{told_fits, told_key}
use Rattle.stream_model.specs.Machine.{State, opened}
use Rattle.stream_model.specs.Runs.{Item, after, changes_in, AreTyped}
use Rattle.stream_model.specs.Theorem.{Composes}
use Rattle.stream_model.specs.Drain.{RunsDrain}
use Rattle.plan_rules.specs.Doings.{network}
use Rattle.plan_rules.specs.Phases.{fits_sent, meaning_sent}
use Rattle.plan_rules.specs.Plans.{change_fits, meaning_in}
use Rattle.plan_rules.proofs.laws.ChangeFits.{key_told}
use Rattle.plan_rules.proofs.laws.Reading.{retract_admits}
use Rattle.sound_plans.specs.Sound.{IsRuled, SoundPlansAreWired, SoundPlansMeetFacts, SoundPlansPrint}
use Rattle.sound_plans.proofs.laws.Outputs.{local_at}
use Rattle.sound_plans.proofs.laws.Theorems.{sink_sends_rows}
use Rattle.source_lines.specs.Fitting.{LinesFitColumns}
use Rattle.source_lines.specs.Run.{whole_run}
use Rattle.run_laws.specs.Rows.{sent_columns, RunsPrintRows}
use Rattle.run_laws.proofs.laws.Answered.{stands_at, take_whole}
use Rattle.run_laws.proofs.laws.Going.{IsDone, run_ends}

-- ---- what a mode tells

may_admit : (mode : Mode) (rows : Rows) (change : Change) → MayCome mode rows change → admits mode change.kind ≡ true
may_admit append rows change may = may
may_admit retract rows change may = retract_admits change.kind
may_admit (upsert key) rows change may = may

-- of a mode's kinds, changes that fit tell the key that the mode says
told_all : (mode : Mode) (columns : List ColTy) (rows : Rows) (changes : List Change) → IsValidFrom mode rows changes → AllByRecursion (λ change. change_fits (meaning_of mode) columns change ≡ true) changes
    → AllByRecursion (λ change. told_fits (told_key mode change.kind) columns change.row ≡ true) changes
told_all mode columns rows [] valid fit = tt
told_all mode columns rows (change ∷ changes) valid fit =
    let same = key_told mode change.kind (may_admit mode rows change valid.0) in
    (subst (λ (told : Option (List ℕ)). told_fits told columns change.row ≡ true) (sym same) fit.0, told_all mode columns (apply mode rows change) changes valid.1 fit.1)

-- ---- the sink

-- the sink's changes are read as its table declares
abbrev meaning_last : Plan → Meaning
meaning_last plan = cond (length plan.nodes == length plan.nodes) (meaning_of (table_mode plan.sink)) (meaning_sent (local_at plan (length plan.nodes)) (meaning_in (numbered plan.edges (length plan.nodes))))

last_meaning : (plan : Plan) → meaning_last plan ≡ meaning_of (table_mode plan.sink)
last_meaning plan =
    ap (λ b. cond b (meaning_of (table_mode plan.sink)) (meaning_sent (local_at plan (length plan.nodes)) (meaning_in (numbered plan.edges (length plan.nodes))))) (eq-eqb (length plan.nodes) (length plan.nodes) refl)

-- in each state to which items lead, whose changes have their tables' columns, each row that was printed has the sink's
abbrev pub PrintedRowsFit : Plan → Type 0
PrintedRowsFit plan = (limit : ℕ) (items : List Item) → AreTyped (network plan) items
    → AllByRecursion (λ change. told_fits (told_key (table_mode plan.sink) change.kind) (sent_columns plan) change.row ≡ true) (changes_in (after (network plan) limit (opened (network plan)) items).printed)

pub printed_fit : SoundPlansAreWired → SoundPlansMeetFacts → SoundPlansPrint → Composes → (plan : Plan) → IsRuled plan → PrintedRowsFit plan
printed_fit wired meets prints composes plan ruled limit items typed =
    let g = network plan in
    let printed = changes_in (after g limit (opened g) items).printed in
    let all = (composes g (wired plan ruled) (meets plan ruled) limit items typed).printed_fits in
    let rows = subst (λ o. AllByRecursion (λ change. fits_sent o (change_fits (meaning_last plan) (sent_columns plan)) change ≡ true) printed) (sink_sends_rows plan ruled) all in
    let read = subst (λ (m : Meaning). AllByRecursion (λ change. change_fits m (sent_columns plan) change ≡ true) printed) (last_meaning plan) rows in
    let told = (prints plan ruled limit items typed).valid (length printed) in
    let valid = subst (IsValidFrom (table_mode plan.sink) none) (take_whole printed) told.valid in
    told_all (table_mode plan.sink) (sent_columns plan) none printed valid read

-- ---- the law

pub prints_rows : LinesFitColumns → SoundPlansAreWired → SoundPlansMeetFacts → SoundPlansPrint → Composes → RunsDrain → RunsPrintRows
prints_rows fit wired meets prints composes drains plan ruled limit files orders =
    let went = whole_run (network plan) limit plan.sources files orders in
    let reached = (stands_at plan limit files (IsDone plan limit files) went (run_ends plan limit files fit drains orders)).is_at.reached in
    subst (λ (s : State). AllByRecursion (λ change. told_fits (told_key (table_mode plan.sink) change.kind) (sent_columns plan) change.row ≡ true) (changes_in s.printed)) reached.there
    (printed_fit wired meets prints composes plan ruled limit reached.events reached.typed)
