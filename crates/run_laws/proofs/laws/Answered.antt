-- What a run has printed before each quiet item folds to the answer, a run that goes to its end tells such an item last, and every edge carries
-- only changes that it admits.
use Rattle.std.specs.Prelude.{◌≡◌, ℕ, Option, List, length, option_map, slice_get, take}
use Rattle.std.proofs.Common.{suc, [], ◌∷◌, refl, sym, ap, subst, ◌∙◌, Some, Ok}
use Rattle.ct_catalog.specs.declared.table.TableDef.{TableDef}
use Rattle.ct_catalog.specs.Columns.{table_mode}
use Rattle.ct_change.specs.Changelog.{Mode, Rows, fold}
use Rattle.ct_change.specs.KeyRows.{IsChangelog}
use Rattle.job_text.specs.Lines.{LinesLeft}
use Rattle.job_text.specs.Printed.{numbers_told}
use Rattle.rel_algebra.specs.Rel.{Rel}
use Rattle.rel_algebra.specs.Answer.{answer}
use Rattle.phys_plan.specs.declared.plan.Plan.{Plan}
use Rattle.stream_model.specs.declared.events.PrintItem.{PrintItem}
use Rattle.stream_model.specs.Network.{Network}
use Rattle.stream_model.specs.Machine.{State, opened, IsQuiet}
use Rattle.stream_model.specs.Runs.{Item, AreTyped, after, changes_in, counts}
use Rattle.stream_model.specs.Theorem.{Composes, Holds, PrintsAnswer, rows_left, table_rows}
use Rattle.stream_model.specs.Drain.{RunsDrain}
use Rattle.plan_rules.specs.Answers.{Answers, tables_with}
use Rattle.plan_rules.specs.Doings.{network}
use Rattle.plan_rules.specs.Plans.{table_of}
use Rattle.sound_plans.specs.Sound.{IsRuled, SoundPlansAreWired, SoundPlansMeetFacts, SoundPlansPrint}
use Rattle.source_lines.specs.Fitting.{LinesFitColumns}
use Rattle.source_lines.specs.Run.{At, Went, halts, on, place_of, printed_by, whole_run}
use Rattle.source_lines.specs.Supply.{all_unread, is_by_table, AreFor}
use Rattle.source_lines.specs.Taken.{Taken, firsts, nothing_taken, rows_of, take_files}
use Rattle.source_lines.specs.declared.supply.ChangeFiles.{ChangeFiles}
use Rattle.source_lines.proofs.laws.Files.{AreFronts, all_read, front_within, interleaved_done, interleaved_taken, interleaved_told}
use Rattle.run_laws.specs.Headline.{AreAnswered, AreWithin, CarriesAdmitted, EndsQuiet, IsAnswered, RunsCarryAdmitted, RunsEndQuiet, RunsPrintAnswers, with_rows}
use Rattle.run_laws.proofs.laws.Going.{Ends, IsDone, run_ends}
use Rattle.run_laws.proofs.laws.Standing.{IsAt, Reached, Stands, Told, ToldAt}

with_same : (sources : List TableDef) (rows : ℕ → Rows) (taken : Taken) → ((k : ℕ) (table : TableDef) → slice_get sources k ≡ Some table → rows k ≡ fold (table_mode table) (taken k)) → tables_with sources rows ≡ with_rows sources (rows_of sources taken)
with_same [] rows taken same = refl
with_same (source ∷ sources) rows taken same =
    let first = same 0 source refl in
    let others = with_same sources (λ k. rows (suc k)) (λ k. taken (suc k)) (λ k. same (suc k)) in
    rw (first, others) refl

pub take_whole : {A : Type 0} (xs : List A) → take (length xs) xs ≡ xs
take_whole [] = refl
take_whole (x ∷ xs) = ap (λ ys. x ∷ ys) (take_whole xs)

-- of each file no more lines were read than there are
fronts_within : (sources : List TableDef) (wholes nows : List LinesLeft) (taken : Taken) → AreFronts sources wholes nows taken → AreWithin (all_read nows) wholes
fronts_within sources [] [] taken h = tt
fronts_within sources [] (now ∷ nows) taken h = absurd h
fronts_within sources (whole ∷ wholes) [] taken h = absurd h
fronts_within sources (whole ∷ wholes) (now ∷ nows) taken h = (front_within sources whole now taken h.0, fronts_within sources wholes nows taken h.1)

module _ (plan : Plan) (limit : ℕ) (files : ChangeFiles) where
  abbrev g : Network
  g = network plan

  -- a run comes to where it can be, however it ends
  pub stands_at : (Q : At State → Type 0) (went : Went (At State)) → Ends plan limit files Q went → Stands plan limit files (place_of went)
  stands_at Q (on p) h = h.0
  stands_at Q (halts cause p) h = h.0

  -- ---- the answers

  module _ (are_for : AreFor files plan.sources) where
    -- a quiet moment tells how many lines of each file were read
    told_read : (p : At State) → IsAt plan limit files p → numbers_told (is_by_table files) (counts g p.state) ≡ all_read p.files
    told_read p at = interleaved_told plan.sources files p.files p.state.taken at.read are_for

    module _ (ruled : IsRuled plan) (wired : SoundPlansAreWired) (prints : SoundPlansPrint) (rel : Rel) (told : Answers plan rel) where
      abbrev mode : Mode
      mode = table_mode plan.sink

      abbrev answers : List Rows → Option Rows
      answers rows = answer (with_rows plan.sources rows) rel

      folds_at : (s : State) → PrintsAnswer g mode s → IsQuiet g s → answers (rows_of plan.sources s.taken) ≡ Some (fold mode (changes_in s.printed))
      folds_at s tells still =
          let rows = with_same plan.sources (table_rows g s) s.taken (λ k table at. ap (λ (o : Option TableDef). rows_left (option_map (table_of plan.parallelism) o) (s.taken k)) at) in
          subst (λ tables. answer tables rel ≡ Some (fold mode (changes_in s.printed))) rows (told (table_rows g s) (fold mode (changes_in s.printed)) (tells.folds still))

      answered_at : (printed : List PrintItem) (numbers : List ℕ) → ToldAt plan limit files printed numbers → IsAnswered mode plan.sources answers files numbers (changes_in printed)
      answered_at printed numbers t =
          let s = t.place.state in
          let r = t.is_at.reached in
          let tells : PrintsAnswer g mode s = subst (PrintsAnswer g mode) r.there (prints plan ruled limit r.events r.typed) in
          let read = t.is_at.read in
          let numbers_read : all_read t.place.files ≡ numbers_told (is_by_table files) numbers = sym (told_read t.place t.is_at) ∙ ap (numbers_told (is_by_table files)) t.count in
          record {
            within = subst (λ ns. AreWithin ns (all_unread files)) numbers_read (fronts_within plan.sources (all_unread files) t.place.files s.taken read.fronts);
            taken = s.taken;
            is_taken = subst (λ ns. take_files plan.sources nothing_taken (firsts ns (all_unread files)) ≡ Ok s.taken) numbers_read (interleaved_taken plan.sources files t.place.files s.taken read);
            counted = sym t.count;
            valid = subst (IsChangelog mode) (take_whole (changes_in s.printed) ∙ ap changes_in t.same) (tells.valid (length (changes_in s.printed)));
            folds = folds_at s tells (t.still (wired plan ruled)) ∙ ap (λ items. Some (fold mode (changes_in items))) t.same;
          }

      pub all_answered : (items : List PrintItem) → Told plan limit files items → AreAnswered mode plan.sources answers files items
      all_answered items all before behind numbers cut = answered_at before numbers (all before behind numbers cut)

    -- ---- the end

    pub quiet_at_end : (p : At State) → Stands plan limit files p → IsDone plan limit files p → EndsQuiet files p.state.printed
    quiet_at_end p here done = (done.before, counts g p.state, done.printed, told_read p here.is_at ∙ interleaved_done plan.sources files p.files p.state.taken here.is_at.read done.none_left)

  -- ---- the edges

  pub carried_at : ((items : List Item) → AreTyped g items → Holds g (after g limit (opened g) items)) → (s : State) → Reached plan limit s → CarriesAdmitted g s s.printed
  carried_at holds s r =
      let all = subst (Holds g) r.there (holds r.events r.typed) in
      record {
        edges = λ v i node li. ((all.fine v node).kinds i li, (all.fine v node).types i li);
        printed = (all.printed_kinds, all.printed_fits);
      }

-- ---- the laws

pub print_answers : LinesFitColumns → SoundPlansAreWired → SoundPlansPrint → RunsDrain → RunsPrintAnswers
print_answers fit wired prints drains plan rel ruled told limit files orders are_for =
    let went = whole_run (network plan) limit plan.sources files orders in
    all_answered plan limit files are_for ruled wired prints rel told (printed_by went) (stands_at plan limit files (IsDone plan limit files) went (run_ends plan limit files fit drains orders)).told

pub carry_admitted : LinesFitColumns → SoundPlansAreWired → SoundPlansMeetFacts → Composes → RunsDrain → RunsCarryAdmitted
carry_admitted fit wired meets composes drains plan ruled limit files orders =
    let went = whole_run (network plan) limit plan.sources files orders in
    carried_at plan limit files (composes (network plan) (wired plan ruled) (meets plan ruled) limit) (place_of went).state
    (stands_at plan limit files (IsDone plan limit files) went (run_ends plan limit files fit drains orders)).is_at.reached

pub ends_quiet : LinesFitColumns → RunsDrain → RunsEndQuiet
ends_quiet fit drains plan limit files orders are_for p e =
    let ends = subst (Ends plan limit files (IsDone plan limit files)) e (run_ends plan limit files fit drains orders) in
    quiet_at_end plan limit files are_for p ends.0 ends.1
