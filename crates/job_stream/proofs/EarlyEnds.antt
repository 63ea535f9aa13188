-- How a run ends whose moves were made early: what was kept is written, and the quiet item behind it.
use Rattle.std.specs.Prelude.{◌≡◌, ℕ, ◌≤◌, List, ◌++◌}
use Rattle.std.proofs.Common.{[], ◌∷◌, sym, ap, subst, ◌∙◌, append_assoc}
use Rattle.std.proofs.lemmas.List.{append_cancel_left}
use Rattle.ct_io.specs.Counts.{Rose}
use Rattle.ct_io.specs.Written.{Appends, AppendsPart}
use Rattle.ct_io.proofs.laws.Appending.{appends_both}
use Rattle.ct_catalog.specs.declared.table.TableDef.{TableDef}
use Rattle.phys_plan.specs.declared.plan.Plan.{Plan}
use Rattle.plan_rules.specs.Doings.{network}
use Rattle.job_text.specs.Lines.{LinesLeft}
use Rattle.job_ending.specs.declared.halt.Halt.{Halt}
use Rattle.job_ending.specs.declared.halt.Halt.TheVariants as h
use Rattle.stream_model.specs.declared.events.PrintItem.{PrintItem}
use Rattle.stream_model.specs.declared.events.PrintItem.TheVariants.{Quiet}
use Rattle.stream_model.specs.declared.events.StepFault.TheVariants as fault
use Rattle.stream_model.specs.Network.{Network}
use Rattle.stream_model.specs.Machine.{State, opened}
use Rattle.stream_model.specs.Runs.{counts, quiet, told_quiet}
use Rattle.source_lines.specs.Run.{At, Went, and_then, on, printed_by, whole_run}
use Rattle.source_lines.specs.Supply.{is_by_table}
use Rattle.source_lines.specs.declared.supply.ChangeFiles.{ChangeFiles}
use Rattle.source_lines.proofs.laws.Along.{on_same}
use Rattle.exec_core.specs.declared.session.Session.{Session}
use Rattle.job_stream.specs.declared.early.EarlySession.{EarlySession}
use Rattle.job_stream.specs.declared.sheet.Sheet.{Sheet}
use Rattle.job_stream.specs.Early.{EndsWell, HasTakenEarly, IsFinished, kept_lines, lines_and_stages, opening}
use Rattle.job_stream.specs.Parts.{drain_run, end_run, item_run, opened_run, rest_run, stages_run}
use Rattle.job_stream.specs.Writing.{Ahead, Halts, Told, lines_on, nothing}
use Rattle.job_stream.proofs.EarlyRuns.{and_on}
use Rattle.job_stream.proofs.Ends.{whole_opened}
use Rattle.job_stream.proofs.Going.{fault_behind, halts_later}
use Rattle.job_stream.proofs.Items.{lines_both}
use Rattle.job_stream.proofs.Unfold.{drain_unfolds}

-- the stages are gone through behind all lines
pub finished_behind : (sheet : Sheet) (sources : List TableDef) (plan : Plan) (limit : ℕ) (p : At State) (mid later : EarlySession) (files left : List LinesLeft)
    → (t : HasTakenEarly sheet sources plan limit (rest_run sheet.by_table plan limit p) (nothing sheet.by_table plan limit) p mid files)
    → IsFinished sheet plan limit (stages_run 0 sheet.by_table plan limit t.place) t.place later left → IsFinished sheet plan limit (lines_and_stages sheet.by_table plan limit p) p later left
finished_behind sheet sources plan limit p mid later files left t f = record {
  place = f.place;
  goes = ap (λ w. and_then w (stages_run 0 sheet.by_table plan limit)) t.goes ∙ f.goes;
  more = f.more;
  printed = f.printed ∙ ap (λ l. l ++ f.more) t.silent;
  lines = f.lines;
  state = f.state;
  same = f.same;
  stands = f.stands;
}

-- the whole run without an order, from where the job opens
pub whole_end : (sheet : Sheet) (plan : Plan) (limit : ℕ) (p : At State) (files : ChangeFiles) → p ≡ opening (network plan) files → sheet.by_table ≡ is_by_table files → (opened (network plan)).sends ≤ limit
    → whole_run (network plan) limit plan.sources files [] ≡ end_run sheet.by_table plan limit p
whole_end sheet plan limit p files here by within =
    whole_opened (network plan) limit plan.sources files [] within ∙ ap (λ b. opened_run [] b plan limit (opening (network plan) files)) (sym by) ∙ ap (λ q. end_run sheet.by_table plan limit q) (sym here)

module _ (sheet : Sheet) (plan : Plan) (limit : ℕ) (p : At State) (early : EarlySession) (files : List LinesLeft) (f : IsFinished sheet plan limit (lines_and_stages sheet.by_table plan limit p) p early files) where
  abbrev G : Network
  G = network plan

  abbrev End : Went (At State)
  End = end_run sheet.by_table plan limit p

  -- where the session stands, and where the run ends
  abbrev Before : At State
  Before = record f.place { state = f.state }

  abbrev Last : At State
  Last = record f.place { state = told_quiet G f.place.state }

  abbrev Item : List PrintItem
  Item = Quiet (counts G f.place.state) ∷ []

  ends_quiet : End ≡ on Last
  ends_quiet =
      let parts = and_on (rest_run sheet.by_table plan limit p) (stages_run 0 sheet.by_table plan limit) f.place f.goes in
      let d = drain_unfolds sheet.by_table plan limit parts.0 in
      ap (λ w. and_then w (drain_run sheet.by_table plan limit)) parts.1 ∙ d.is ∙ ap (λ w. and_then w d.tail) parts.2 ∙ d.rest_is f.place parts.2

  -- the quiet item tells as much of states that agree but for what was printed
  same_item : (more : List PrintItem) → (told_quiet G f.state).printed ≡ f.state.printed ++ more → more ≡ Item
  same_item more is = sym (append_cancel_left f.state.printed (Quiet (counts G f.state) ∷ []) more is) ∙ ap (λ (s : State). Quiet (counts G s) ∷ []) (sym f.same)

  printed_last : Last.state.printed ≡ (p.state.printed ++ f.more) ++ Item
  printed_last = ap (λ l. l ++ Item) f.printed

  module _ (old mid new : Told) (put : Appends old.written mid.written (kept_lines early.stages.items)) (later : old.faults ≤ mid.faults) where
    put_more : Appends old.written mid.written (lines_on sheet f.more)
    put_more = subst (Appends old.written mid.written) f.lines put

    pub kept_ends : (next : Session) (left : List LinesLeft) → Ahead sheet plan limit (item_run quiet sheet.by_table plan limit Before) on Before next left mid new → EndsWell sheet End p old new
    kept_ends next left ahead =
        let there = on_same (record f.place { state = told_quiet G f.state }) ahead.place ahead.goes in
        let item = same_item ahead.more (ap (λ (q : At State). q.state.printed) there ∙ ahead.printed) in
        record {
          place = Last;
          goes = ends_quiet;
          more = f.more ++ ahead.more;
          printed = printed_last ∙ append_assoc p.state.printed f.more Item ∙ ap (λ l. p.state.printed ++ (f.more ++ l)) (sym item);
          written = subst (Appends old.written new.written) (sym (lines_both sheet.by_table sheet.tys.items sheet.key f.more ahead.more)) (appends_both put_more ahead.written);
        }

    pub kept_halts : (halt : Halt) → Halts sheet (item_run quiet sheet.by_table plan limit Before) Before mid new halt → Halts sheet End p old new halt
    kept_halts halt halted = halts_later sheet End (item_run quiet sheet.by_table plan limit f.place) p f.place f.more old mid new halt ends_quiet f.printed put_more later (record {
      more = halted.more;
      printed = ap (λ l. f.place.state.printed ++ l) (sym (same_item halted.more halted.printed));
      runs = halted.runs;
    })

  pub kept_fails : (old new : Told) → AppendsPart old.written new.written (kept_lines early.stages.items) → Rose old.faults new.faults → Halts sheet End p old new h.WriteFault
  kept_fails old new part rose = fault_behind sheet End p f.more old new fault.Memory (Item, ap printed_by ends_quiet ∙ printed_last) (subst (AppendsPart old.written new.written) f.lines part) rose
