-- The stages of a drain: each is a channel that is there, or a bundle.
use Rattle.std.specs.Prelude.{◌≡◌, ◌==◌, ℕ, ◌+◌, Bool, cond, List, ◌++◌, drop, length, Option}
use Rattle.std.proofs.Common.{zero, suc, true, false, [], ◌∷◌, refl, sym, ap, subst, ◌∙◌, Some, None}
use Rattle.std.specs.List.{AllByRecursion}
use Rattle.phys_plan.specs.declared.plan.Plan.{Plan}
use Rattle.plan_rules.specs.Doings.{network}
use Rattle.sound_plans.proofs.laws.SentTypes.{all_both}
use Rattle.stream_model.specs.declared.events.Event.TheVariants.{Flush}
use Rattle.stream_model.specs.Network.{Feed, Network}
use Rattle.stream_model.specs.Runs.{happens}
use Rattle.stream_model.specs.Machine.{State, is_channel}
use Rattle.stream_model.specs.Drain.{Stage, delivers, flushes, bundles_at, bundles_from, channels_from, channels_into, channels_to, feeds_node, stages, stages_from}
use Rattle.stream_model.specs.Looks.{flight_at, in_flight}
use Rattle.source_lines.specs.Run.{At}
use Rattle.session_core.specs.LaidOut.{stage_of}
use Rattle.session_core.specs.declared.wiring.Lane.{Lane}
use Rattle.session_core.specs.declared.wiring.Stage.{Stage as SessionStage}
use Rattle.session_core.specs.declared.wiring.Stage.TheVariants.{Deliver}
use Rattle.exec_core.specs.declared.session.Session.{Session}
use Rattle.exec_core.specs.Stands.{ForRuns, reached}
use Rattle.job_stream.specs.declared.sheet.Sheet.{Sheet}
use Rattle.job_stream.specs.Parts.{first_run, item_run, moves_run, stage_run}
use Rattle.job_stream.specs.Writing.{MayMoveStage}
use Rattle.job_stream.proofs.Along.{along_one}

module _ (g : Network) where
  -- a channel of an edge that feeds a port
  abbrev IsChannel : Stage → Type 0
  IsChannel (delivers e i j) = (feed : Feed) × (g.fed e ≡ Some feed) × (is_channel g e i j ≡ true)
  IsChannel (flushes v j) = Unit {0}

  abbrev AreChannels : List Stage → Type 0
  AreChannels all = AllByRecursion IsChannel all

  to_next : (e i j : ℕ) (feed : Feed) (others : List Stage) (b : Bool) → g.fed e ≡ Some feed → is_channel g e i j ≡ b → AreChannels others → AreChannels (cond b (delivers e i j ∷ others) others)
  to_next e i j feed others true fed is h = ((feed, fed, is), h)
  to_next e i j feed others false fed is h = h

  all_to : (e i j n : ℕ) (feed : Feed) → g.fed e ≡ Some feed → AreChannels (channels_to g e i j n)
  all_to e i j zero feed fed = tt
  all_to e i j (suc n) feed fed = to_next e i j feed (channels_to g e i (j + 1) n) (is_channel g e i j) fed refl (all_to e i (j + 1) n feed fed)

  all_from : (e i n : ℕ) (feed : Feed) → g.fed e ≡ Some feed → AreChannels (channels_from g e i n)
  all_from e i zero feed fed = tt
  all_from e i (suc n) feed fed = all_both IsChannel (channels_to g e i 0 g.subtasks) (channels_from g e (i + 1) n) (all_to e i 0 g.subtasks feed fed) (all_from e (i + 1) n feed fed)

  into_next : (v e : ℕ) (others : List Stage) (o : Option Feed) → g.fed e ≡ o → AreChannels others → AreChannels (cond (feeds_node v o) (channels_from g e 0 g.subtasks ++ others) others)
  into_next v e others None fed h = h
  into_next v e others (Some feed) fed h = by (feed.node == v)
    where
      by : (b : Bool) → AreChannels (cond b (channels_from g e 0 g.subtasks ++ others) others)
      by true = all_both IsChannel (channels_from g e 0 g.subtasks) others (all_from e 0 g.subtasks feed fed) h
      by false = h

  all_into : (v e n : ℕ) → AreChannels (channels_into g v e n)
  all_into v e zero = tt
  all_into v e (suc n) = into_next v e (channels_into g v (e + 1) n) (g.fed e) refl (all_into v (e + 1) n)

  all_bundles : (v j n : ℕ) → AreChannels (bundles_from v j n)
  all_bundles v j zero = tt
  all_bundles v j (suc n) = (tt, all_bundles v (j + 1) n)

  all_at : (v : ℕ) (o : Option ℕ) → AreChannels (bundles_at g v o)
  all_at v None = tt
  all_at v (Some size) = all_bundles v 0 g.subtasks

  all_stages : (v n : ℕ) → AreChannels (stages_from g v n)
  all_stages v zero = tt
  all_stages v (suc n) = all_both IsChannel (channels_into g v 1 g.count ++ bundles_at g v (g.bundle v)) (stages_from g (v + 1) n) (all_both IsChannel (channels_into g v 1 g.count) (bundles_at g v (g.bundle v)) (all_into v 1 g.count) (all_at v (g.bundle v))) (all_stages (v + 1) n)

  all_behind : (n : ℕ) (all : List Stage) → AreChannels all → AreChannels (drop n all)
  all_behind zero all h = h
  all_behind (suc n) [] h = tt
  all_behind (suc n) (stage ∷ all) h = all_behind n all h.1

  -- so what is in flight in a stage's channel is told
  pub told_flight : (s : State) (n e i j : ℕ) (others : List Stage) → drop n (stages g) ≡ delivers e i j ∷ others → in_flight g s e i j ≡ Some (length (s.flight e i j))
  told_flight s n e i j others is =
      let here = (subst AreChannels is (all_behind n (stages g) (all_stages 1 g.count))).0 in
      ap (flight_at g s e i j) here.1 ∙ ap (λ b. cond b (Some (length (s.flight e i j))) None) here.2

-- so a session that has a channel's stage tells what the channel holds
pub stage_is_held : (sheet : Sheet) (session : Session) (number : ℕ) → MayMoveStage sheet session number
    → (stage : SessionStage) (lane : Lane) → stage ≡ Deliver lane → ForRuns session (λ plan limit handed items. drop number (stages (network plan)) ≡ stage_of stage ∷ drop (number + 1) (stages (network plan)))
    → (held : Option ℕ) → held ≡ None → ForRuns session (λ plan limit handed items. held ≡ in_flight (network plan) (reached plan limit items) lane.edge lane.from lane.to) → ⊥
stage_is_held sheet session number may stage lane delivered next held none told =
    let g = network may.0 in
    let stands = may.5 in
    let first = subst (λ (x : SessionStage). drop number (stages g) ≡ stage_of x ∷ drop (number + 1) (stages g)) delivered (next may.0 may.1 may.2.printed stands.items stands.stands) in
    let flight = told may.0 may.1 may.2.printed stands.items stands.stands ∙ ap (λ (s : State). in_flight g s lane.edge lane.from lane.to) stands.is in
    let is = sym none ∙ flight ∙ told_flight g may.2 number lane.edge lane.from lane.to (drop (number + 1) (stages g)) first in
    absurd (cc (is))

-- a channel's stage is so many moves
pub stage_moves : (by_table : Bool) (plan : Plan) (limit : ℕ) (p : At State) (number : ℕ) (lane : Lane) (held : ℕ) (rest : List Stage) → drop number (stages (network plan)) ≡ delivers lane.edge lane.from lane.to ∷ rest
    → Some held ≡ in_flight (network plan) p.state lane.edge lane.from lane.to → stage_run number by_table plan limit p ≡ moves_run lane.edge lane.from lane.to held by_table plan limit p
stage_moves by_table plan limit p number lane held rest next is =
    let all : Some (length (p.state.flight lane.edge lane.from lane.to)) ≡ Some held = sym (is ∙ told_flight (network plan) p.state number lane.edge lane.from lane.to rest next) in
    let same : length (p.state.flight lane.edge lane.from lane.to) ≡ held = cc (all) in
    ap (λ l. first_run l by_table plan limit p) next ∙ ap (λ n. moves_run lane.edge lane.from lane.to n by_table plan limit p) same

-- a bundle's stage is one event
pub stage_flushes : (by_table : Bool) (plan : Plan) (limit : ℕ) (p : At State) (number v j : ℕ) (rest : List Stage) → drop number (stages (network plan)) ≡ flushes v j ∷ rest
    → stage_run number by_table plan limit p ≡ item_run (happens (Flush v j)) by_table plan limit p
stage_flushes by_table plan limit p number v j rest next =
    ap (λ l. first_run l by_table plan limit p) next ∙ along_one (network plan) limit plan.sources by_table p (happens (Flush v j))
