-- A run each of whose lines may be taken goes to its end, or halts at a line of its order, out of range or by the limit.
use Rattle.std.specs.Prelude.{◌≡◌, ℕ, Result}
use Rattle.std.proofs.Common.{sym, ap, subst, ◌∙◌, None, Ok, Err}
use Rattle.ct_value.specs.declared.codes.ChangeCode.{ChangeCode}
use Rattle.job_text.specs.declared.line.Line.{Line}
use Rattle.job_text.specs.Lines.{line_in}
use Rattle.phys_plan.specs.declared.plan.Plan.{Plan}
use Rattle.stream_model.specs.declared.events.StepFault.{StepFault}
use Rattle.stream_model.specs.declared.events.StepFault.TheVariants.{Change as Refused, Order, Range, Limit, Memory}
use Rattle.stream_model.specs.Network.{Network, IsWired}
use Rattle.stream_model.specs.Machine.{State}
use Rattle.stream_model.specs.Drain.{RunsDrain}
use Rattle.plan_rules.specs.Doings.{network}
use Rattle.sound_plans.specs.Sound.{SoundPlansAreWired}
use Rattle.source_lines.specs.Fitting.{LinesFitColumns}
use Rattle.source_lines.specs.Run.{At, Cause, Went, disordered, halts, on, refused, stopped, whole_run}
use Rattle.source_lines.specs.Supply.{all_unread}
use Rattle.source_lines.specs.Taken.{Taken, nothing_taken, take_files, taken_of}
use Rattle.source_lines.specs.declared.supply.ChangeFiles.{ChangeFiles}
use Rattle.source_lines.proofs.laws.Along.{ok_same}
use Rattle.source_lines.proofs.laws.Files.{all_firsts, interleaved_free}
use Rattle.run_laws.specs.Stops.{EndsOrStops, RunsEndOrStop}
use Rattle.run_laws.proofs.laws.Faults.{IsKnown, known_item}
use Rattle.run_laws.proofs.laws.Going.{Ends, Halts, IsDone, Refuses, RefusesAt, Stops, StopsAt, run_ends}
use Rattle.run_laws.proofs.laws.Standing.{Stands}
use Rattle.run_laws.proofs.laws.Taking.{not_refused}

module _ (plan : Plan) (limit : ℕ) (files : ChangeFiles) where
  abbrev g : Network
  g = network plan

  -- ---- no line is refused

  not_refused_in : (s : State) (r : Result Line ChangeCode) (line : Line) → r ≡ Ok line → Refuses plan limit files s r → ((code : ChangeCode) → Refuses plan limit files s (Ok line) → ⊥) → ⊥
  not_refused_in s (Err code) line is refuses never = cc (is)
  not_refused_in s (Ok other) line is refuses never = never refuses.0 (subst (λ l. Refuses plan limit files s (Ok l)) (ok_same other line is) refuses)

  no_refusal : (end : Taken) → taken_of plan.sources None files ≡ Ok end → (p : At State) → Stands plan limit files p → RefusesAt plan limit files p → ⊥
  no_refusal end all p here r =
      let whole = ap (take_files plan.sources nothing_taken) (sym (all_firsts (all_unread files))) ∙ all in
      let next = interleaved_free plan.sources files p.files p.state.taken end r.place r.file r.fields r.rest whole here.is_at.read r.there r.next in
      not_refused_in p.state (line_in plan.sources r.file.feed r.fields) next.0 next.1 r.refuses (λ code refuses. not_refused plan limit p.state next.0 refuses.0 next.2 refuses.1)

  -- ---- no step stops otherwise

  no_memory : (s : State) → StopsAt plan limit files Memory s → ⊥
  no_memory s stop = subst (IsKnown g limit) stop.stops (known_item g limit s stop.item)

  stop_is : (wired : IsWired g) (cause : StepFault) (p : At State) → Stops plan limit files cause p.state → EndsOrStops (halts (stopped cause) p)
  stop_is wired (Refused code) p stop = absurd (stop.why wired)
  stop_is wired (Order code) p stop = absurd (stop.why wired)
  stop_is wired (Range node subtask row types) p stop = tt
  stop_is wired Limit p stop = tt
  stop_is wired Memory p stop = absurd (no_memory p.state stop.cause_is)

  halt_is : (wired : IsWired g) (end : Taken) → taken_of plan.sources None files ≡ Ok end → (cause : Cause) (p : At State) → Stands plan limit files p → Halts plan limit files cause p → EndsOrStops (halts cause p)
  halt_is wired end all (refused code line table) p here h = absurd (no_refusal end all p here h)
  halt_is wired end all (disordered code line) p here h = tt
  halt_is wired end all (stopped cause) p here h = stop_is wired cause p h

  pub ends_or_stops : (wired : IsWired g) (end : Taken) → taken_of plan.sources None files ≡ Ok end → (went : Went (At State)) → Ends plan limit files (IsDone plan limit files) went → EndsOrStops went
  ends_or_stops wired end all (on p) h = tt
  ends_or_stops wired end all (halts cause p) h = halt_is wired end all cause p h.0 h.1

pub end_or_stop : LinesFitColumns → SoundPlansAreWired → RunsDrain → RunsEndOrStop
end_or_stop fit wired drains plan ruled limit files orders taken are_for all =
    ends_or_stops plan limit files (wired plan ruled) taken all (whole_run (network plan) limit plan.sources files orders) (run_ends plan limit files fit drains orders)
