-- Where a run over change files can be: in a state that the machine reaches, which has taken of each file some first lines, and which told each
-- quiet moment in a quiet state.
use Rattle.std.specs.Prelude.{◌≡◌, ℕ, List, ◌++◌, set, slice_get}
use Rattle.std.proofs.Common.{[], ◌∷◌, refl, sym, ap, subst, ◌∙◌, Ok, Some, inl, inr, ◌⊎◌}
use Rattle.std.specs.List.{AllByRecursion}
use Rattle.job_text.specs.declared.line.Line.{Line}
use Rattle.job_text.specs.Lines.{Record, LinesLeft, line_in}
use Rattle.op_rules.proofs.laws.Histories.{all-append}
use Rattle.phys_plan.specs.declared.plan.Plan.{Plan}
use Rattle.stream_model.specs.declared.events.Event.TheVariants.{Take, Move, Flush}
use Rattle.stream_model.specs.declared.events.PrintItem.{PrintItem}
use Rattle.stream_model.specs.declared.events.PrintItem.TheVariants.{Quiet}
use Rattle.stream_model.specs.Network.{Network, IsWired}
use Rattle.stream_model.specs.Machine.{State, opened, take, IsQuiet}
use Rattle.stream_model.specs.Runs.{Item, happens, quiet, counts, told_quiet, step_item, state_in, after, IsTyped, AreTyped}
use Rattle.plan_rules.specs.Doings.{network}
use Rattle.source_lines.specs.Fitting.{LinesFitColumns}
use Rattle.source_lines.specs.Run.{At}
use Rattle.source_lines.specs.Supply.{all_unread, read_on}
use Rattle.source_lines.specs.Taken.{Taken}
use Rattle.source_lines.specs.declared.supply.ChangeFiles.{ChangeFiles}
use Rattle.source_lines.proofs.laws.Along.{Goes, GoesTo, IsMove, goes_item, moves_typed, typed_both}
use Rattle.source_lines.proofs.laws.Files.{Interleaved, interleaved_start, interleaved_step}
use Rattle.run_laws.proofs.laws.Lines.{lines_are_short}
use Rattle.run_laws.proofs.laws.Quiets.{IsAmong, IsLast, before_changes, before_quiet, no_quiet_in}
use Rattle.run_laws.proofs.laws.Steps.{TakesShort}
use Rattle.run_laws.proofs.laws.Taking.{one_typed, took_one}

pub after_one : (g : Network) (limit : ℕ) (s : State) (items : List Item) (item : Item) → after g limit s (items ++ item ∷ []) ≡ state_in (after g limit s items) (step_item g limit (after g limit s items) item)
after_one g limit s [] item = refl
after_one g limit s (first ∷ items) item = after_one g limit (state_in s (step_item g limit s first)) items item

pub move_short : (item : Item) → IsMove item → TakesShort item
move_short quiet is = absurd is
move_short (happens (Take table change)) is = absurd is
move_short (happens (Move e i j)) is = tt
move_short (happens (Flush v j)) is = tt

module _ (plan : Plan) (limit : ℕ) where
  abbrev g : Network
  g = network plan

  -- by these items, whose changes have short texts, the machine came to a state
  pub record Reached (s : State) : Type 0 where
    pub events : List Item
    pub typed : AreTyped g events
    pub short : AllByRecursion TakesShort events
    pub there : after g limit (opened g) events ≡ s

  opened_reached : Reached (opened g)
  opened_reached = record { events = []; typed = tt; short = tt; there = refl }

  reached_one : (s t : State) (item : Item) → IsTyped g item → TakesShort item → step_item g limit s item ≡ Ok t → Reached s → Reached t
  reached_one s t item one short e r = record {
    events = r.events ++ item ∷ [];
    typed = typed_both g r.events (item ∷ []) r.typed (one, tt);
    short = all-append TakesShort r.events (item ∷ []) r.short (short, tt);
    there = after_one g limit (opened g) r.events item ∙ ap (λ u. state_in u (step_item g limit u item)) r.there ∙ ap (state_in s) e;
  }

  module _ (files : ChangeFiles) where
    abbrev Read : List LinesLeft → Taken → Type 0
    Read = Interleaved plan.sources files

    pub record IsAt (p : At State) : Type 0 where
      pub reached : Reached p.state
      pub read : Read p.files p.state.taken

    -- a quiet moment was told in a quiet state, in which so much was printed and so many changes of each table were taken
    pub record ToldAt (printed : List PrintItem) (numbers : List ℕ) : Type 0 where
      pub place : At State
      pub is_at : IsAt place
      pub still : IsWired g → IsQuiet g place.state
      pub same : place.state.printed ≡ printed
      pub count : counts g place.state ≡ numbers

    abbrev pub Told : List PrintItem → Type 0
    Told items = (before behind : List PrintItem) (numbers : List ℕ) → items ≡ before ++ Quiet numbers ∷ behind → ToldAt before numbers

    pub record Stands (p : At State) : Type 0 where
      pub is_at : IsAt p
      pub told : Told p.state.printed

    pub opened_stands : Stands (record { state = opened g; files = all_unread files })
    opened_stands = record {
      is_at = record { reached = opened_reached; read = interleaved_start plan.sources files };
      told = λ before behind numbers cut. absurd (no_quiet_in [] before behind numbers cut);
    }

    -- ---- one step more

    at_one : (p : At State) (t : State) (item : Item) → IsTyped g item → TakesShort item → step_item g limit p.state item ≡ Ok t → t.taken ≡ p.state.taken → IsAt p → IsAt (record p { state = t })
    at_one p t item one short e taken h = record { reached = reached_one p.state t item one short e h.reached; read = subst (Read p.files) (sym taken) h.read }

    pub moved_stands : (p : At State) (t : State) (item : Item) → IsMove item → step_item g limit p.state item ≡ Ok t → Stands p → Stands (record p { state = t })
    moved_stands p t item is e h =
        let goes : Goes p.state t = subst (GoesTo g limit p.state) e (goes_item g limit p.state item is) in
        record {
          is_at = at_one p t item (moves_typed g (item ∷ []) (is, tt)).0 (move_short item is) e goes.taken h.is_at;
          told = λ before behind numbers cut. let among = before_changes p.state.printed goes.more before behind numbers (sym goes.printed ∙ cut) in h.told before among.0 numbers among.1;
        }

    told_last : (p : At State) → Stands p → (IsWired g → IsQuiet g p.state) → (before : List PrintItem) (numbers : List ℕ) → IsAmong p.state.printed before numbers ⊎ IsLast p.state.printed before (counts g p.state) numbers → ToldAt before numbers
    told_last p h still before numbers (inl among) = h.told before among.0 numbers among.1
    told_last p h still before numbers (inr last) = record { place = p; is_at = h.is_at; still = still; same = last.0; count = last.1 }

    pub quiet_stands : (p : At State) → Stands p → (IsWired g → IsQuiet g p.state) → Stands (record p { state = told_quiet g p.state })
    quiet_stands p h still = record {
      is_at = at_one p (told_quiet g p.state) quiet tt tt refl refl h.is_at;
      told = λ before behind numbers cut. told_last p h still before numbers (before_quiet p.state.printed (counts g p.state) before behind numbers cut);
    }

    -- ---- a line is taken

    pub taken_stands : LinesFitColumns → (p : At State) (place : ℕ) (file : LinesLeft) (fields : Record) (rest : List Record) (line : Line) (t : State) → slice_get p.files place ≡ Some file → file.records ≡ fields ∷ rest
        → line_in plan.sources file.feed fields ≡ Ok line → take g limit p.state line.table line.change ≡ Ok t → Stands p → Stands (record { state = t; files = set p.files place (read_on file rest) })
    taken_stands fit p place file fields rest line t there next is e h =
        let one = took_one plan limit p.state line t e in
        let item = happens (Take line.table line.change) in
        record {
          is_at = record {
            reached = reached_one p.state t item (one_typed plan limit p.state line fit file.feed fields is one.free) (lines_are_short plan.sources file.feed fields line is) e h.is_at.reached;
            read = subst (Read (set p.files place (read_on file rest))) (sym one.taken) (interleaved_step plan.sources files p.files p.state.taken place file fields rest line h.is_at.read there next is one.free);
          };
          told = subst Told (sym one.printed) h.told;
        }
