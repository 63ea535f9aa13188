-- How a session whose moves are made early goes along a run.
use Rattle.std.specs.Prelude.{◌≡◌, ℕ, ◌<◌, ◌≤◌, ◌+◌, ◌*◌, Bool, List, ◌++◌, drop, length, map, set, slice_get, take, Option, Result}
use Rattle.std.proofs.Common.{true, false, zero, suc, [], ◌∷◌, refl, sym, ap, subst, ◌∙◌, Ok, Err, Some, None, append_assoc, append-nil, arith}
use Rattle.std.specs.List.{AllByRecursion}
use Rattle.std.specs.Ordering.{nat_cmp}
use Rattle.std.specs.BTreeSet.{BTreeSet, contains}
use Rattle.std.proofs.lemmas.Bool.{false≢true}
use Rattle.std.proofs.lemmas.List.{length-drop}
use Rattle.ct_io.specs.InMemory.{GrowingState}
use Rattle.ct_io.specs.Written.{Appends}
use Rattle.ct_value.specs.declared.codes.ChangeCode.{ChangeCode}
use Rattle.ct_catalog.specs.declared.table.TableDef.{TableDef}
use Rattle.phys_plan.specs.declared.plan.Plan.{Plan}
use Rattle.plan_rules.specs.Doings.{network}
use Rattle.job_text.specs.Lines.{LinesLeft, Record, line_in}
use Rattle.job_text.specs.declared.line.Line.{Line}
use Rattle.sound_plans.proofs.laws.SentTypes.{all_both}
use Rattle.stream_model.specs.declared.events.PrintItem.{PrintItem}
use Rattle.stream_model.specs.declared.events.StepFault.{StepFault}
use Rattle.stream_model.specs.declared.events.StepFault.TheVariants as fault
use Rattle.stream_model.specs.Network.{Network, IsWired}
use Rattle.stream_model.specs.Machine as machine
use Rattle.stream_model.specs.Machine.{State}
use Rattle.stream_model.specs.Runs.{Item}
use Rattle.stream_model.specs.Drain.{Stage, delivers, flushes, moves, stage_items, stages}
use Rattle.source_lines.specs.Run as run
use Rattle.source_lines.specs.Run.{At, Went, and_then, halts, job_of, on}
use Rattle.source_lines.specs.Supply.{read_on}
use Rattle.source_lines.proofs.laws.Along.{along_leads, leads_along, on_same}
use Rattle.run_laws.specs.Early.{AreOrdered, Early, Made, MayPass, Tells, bumped, hushed, made_of, stage_item}
use Rattle.run_laws.proofs.laws.Early.{made_bumped, made_stage, made_takes, ordered_bumped}
use Rattle.session_core.specs.LaidOut.{taker_of}
use Rattle.exec_core.specs.declared.session.Session.{Session}
use Rattle.exec_core.specs.Goes.{StandsAt, StandsIn}
use Rattle.job_stream.specs.declared.early.EarlySession.{EarlySession}
use Rattle.job_stream.specs.declared.early.EarlyStage.{EarlyStage}
use Rattle.job_stream.specs.declared.sheet.Sheet.{Sheet}
use Rattle.job_stream.specs.Early.{AreBegun, AreKept, HasDrainedEarly, HasTakenEarly, IsEarly, IsFinished, IsKept, begun, kept_lines}
use Rattle.job_stream.specs.Parts.{first_run, lines_run, moves_run, stage_run, stages_run}
use Rattle.job_stream.specs.Writing.{Ahead, IsSheetOf, Told, lines_on}
use Rattle.job_stream.proofs.EarlyStages.{IsBefore, all_weaker, before, ordered_push, passes, sorted_stages}
use Rattle.job_stream.proofs.Items.{lines_both}
use Rattle.job_stream.proofs.Unfold.{drop_more, drop_past, no_stages, stages_unfold}

-- ---- what is known of a session's state

pub few_sent : (session : Session) (plan : Plan) (limit : ℕ) (handed : List PrintItem) (s : State) → StandsIn session plan limit handed s → s.sends ≤ limit
few_sent session plan limit handed s stands = subst (λ (x : State). x.sends ≤ limit) stands.is stands.stands.stands_for.keeps.carries.within

pub wired_of : (session : Session) (plan : Plan) (limit : ℕ) (handed : List PrintItem) (s : State) → StandsIn session plan limit handed s → IsWired (network plan)
wired_of session plan limit handed s stands = stands.stands.stands_for.keeps.laid.wired

-- ---- stages and what is kept of them

-- the stage of a number, and those behind it
pub stage_there : (all : List Stage) (number : ℕ) → number < length all → (stage : Stage) × (rest : List Stage) × (drop number all ≡ stage ∷ rest)
stage_there [] number below = absurd (omega (arith, below))
stage_there (stage ∷ all) zero below = (stage, all, refl)
stage_there (stage ∷ all) (suc number) below = stage_there all number (omega (arith, below))

kept_long : (sheet : Sheet) (xs : List Early) (kept : List EarlyStage) → AreKept sheet xs kept → length xs ≡ length kept
kept_long sheet [] [] are = refl
kept_long sheet (x ∷ xs) (stage ∷ kept) are = ap suc (kept_long sheet xs kept are.1)
kept_long sheet [] (stage ∷ kept) are = absurd are
kept_long sheet (x ∷ xs) [] are = absurd are

map_long : (xs : List Early) → length (map (λ (x : Early). x.stage) xs) ≡ length xs
map_long [] = refl
map_long (x ∷ xs) = ap suc (map_long xs)

-- the stage at a place
record Found (sheet : Sheet) (xs : List Early) (place : ℕ) (stage : Stage) (kept : EarlyStage) : Type 0 where
  it : Early
  is : slice_get xs place ≡ Some it
  stage_is : it.stage ≡ stage
  kept_is : IsKept sheet it kept

find_at : (sheet : Sheet) (xs : List Early) (kept : List EarlyStage) (place : ℕ) (stage : Stage) (rest : List Stage) (k : EarlyStage) → AreKept sheet xs kept → drop place (map (λ (x : Early). x.stage) xs) ≡ stage ∷ rest
    → slice_get kept place ≡ Some k → Found sheet xs place stage k
find_at sheet [] kept zero stage rest k are here at = absurd (cc (here))
find_at sheet [] kept (suc place) stage rest k are here at = absurd (cc (here))
find_at sheet (x ∷ xs) [] place stage rest k are here at = absurd are
find_at sheet (x ∷ xs) (y ∷ kept) zero stage rest k are here at =
    let same : y ≡ k = cc (at) in
    let first : x.stage ≡ stage = cc (here) in
    record { it = x; is = refl; stage_is = first; kept_is = subst (IsKept sheet x) same are.0 }
find_at sheet (x ∷ xs) (y ∷ kept) (suc place) stage rest k are here at = let f = find_at sheet xs kept place stage rest k are.1 here at in record { it = f.it; is = f.is; stage_is = f.stage_is; kept_is = f.kept_is }

more_kept : (sheet : Sheet) (xs : List Early) (kept : List EarlyStage) (place count : ℕ) (more : List PrintItem) (k : EarlyStage) (now : GrowingState) → AreKept sheet xs kept → slice_get kept place ≡ Some k → now.bytes ≡ k.kept.bytes ++ lines_on sheet more
    → AreKept sheet (bumped place count more xs) (set kept place (record k { kept = now }))
more_kept sheet [] [] place count more k now are at is = absurd (none place at)
  where
    none : (place : ℕ) → (let nothing : List EarlyStage = [] in slice_get nothing place ≡ Some k) → ⊥
    none zero e = cc (e)
    none (suc n) e = cc (e)
more_kept sheet [] (y ∷ kept) place count more k now are at is = absurd are
more_kept sheet (x ∷ xs) [] place count more k now are at is = absurd are
more_kept sheet (x ∷ xs) (y ∷ kept) zero count more k now are at is =
    let same : y ≡ k = cc (at) in
    let here = subst (IsKept sheet x) same are.0 in
    (record { early = here.early; lines = is ∙ ap (λ l. l ++ lines_on sheet more) here.lines ∙ sym (lines_both sheet.by_table sheet.tys.items sheet.key x.out more) }, are.1)
more_kept sheet (x ∷ xs) (y ∷ kept) (suc place) count more k now are at is = (are.0, more_kept sheet xs kept place count more k now are.1 at is)

bumped_stages : (place count : ℕ) (more : List PrintItem) (xs : List Early) → map (λ (x : Early). x.stage) (bumped place count more xs) ≡ map (λ (x : Early). x.stage) xs
bumped_stages place count more [] = refl
bumped_stages zero count more (x ∷ xs) = refl
bumped_stages (suc place) count more (x ∷ xs) = ap (λ l. x.stage ∷ l) (bumped_stages place count more xs)

-- a part that has another behind it goes to its end where that does
pub and_on : {A : Type 0} (w : Went A) (next : A → Went A) (q : A) → and_then w next ≡ on q → (r : A) × (w ≡ on r) × (next r ≡ on q)
and_on (on r) next q is = (r, refl, is)
and_on (halts cause r) next q is = absurd (cc (is))

module _ (sheet : Sheet) (sources : List TableDef) (plan : Plan) (limit : ℕ) where
  abbrev G : Network
  G = network plan

  abbrev Along : At State → List Item → Went (At State)
  Along p items = run.go_along (job_of G limit) plan.sources sheet.by_table p items

  abbrev Here : ℕ → At State → EarlySession → List LinesLeft → Type 0
  Here number p early files = IsEarly sheet sources plan limit number p early files

  -- there are as many stages as the drain has
  pub all_stages : (p : At State) (early : EarlySession) (files : List LinesLeft) → Here 0 p early files → length early.stages.items ≡ length (stages G)
  all_stages p early files here = sym (kept_long sheet here.left early.stages.items here.kept) ∙ sym (map_long here.left) ∙ ap length here.stages_are

  -- so a stage of this number is there
  pub stage_below : (number : ℕ) (p : At State) (early : EarlySession) (files : List LinesLeft) → Here number p early files → number < length early.stages.items → number < length (stages G)
  stage_below number p early files here within =
      let items = length-drop number early.stages.items in
      let all = length-drop number (stages G) in
      let left = kept_long sheet here.left (drop number early.stages.items) here.kept in
      let mapped = map_long here.left in
      let same = ap length here.stages_are in
      omega (arith, within, items, all, left, mapped, same)

  pub stage_above : (number : ℕ) (p : At State) (early : EarlySession) (files : List LinesLeft) → Here number p early files → number < length (stages G) → number < length early.stages.items
  stage_above number p early files here below =
      let items = length-drop number early.stages.items in
      let all = length-drop number (stages G) in
      let left = kept_long sheet here.left (drop number early.stages.items) here.kept in
      let mapped = map_long here.left in
      let same = ap length here.stages_are in
      omega (arith, below, items, all, left, mapped, same)

  -- ---- moves are made early

  module _ (p : At State) (early : EarlySession) (files : List LinesLeft) (here : Here 0 p early files) (number : ℕ) (e i j : ℕ) (rest : List Stage) (stage_is : drop number (stages G) ≡ delivers e i j ∷ rest) (k : EarlyStage)
      (at : slice_get early.stages.items number ≡ Some k) (is_early : k.early ≡ true) where
    abbrev There : At State
    There = record p { state = here.state }

    pub early_more : (n : ℕ) (next : Session) (now : GrowingState) (later : EarlySession) (old new : Told) → old.written ≡ Some k.kept.bytes → new.written ≡ Some now.bytes
        → Ahead sheet plan limit (moves_run e i j n sheet.by_table plan limit There) on There next files old new → later.session ≡ next → later.stages.items ≡ set early.stages.items number (record k { kept = now }) → Here 0 p later files
    early_more n next now later old new was is ahead session_is stages_now =
        let leads = along_leads G limit plan.sources sheet.by_table There ahead.place (moves e i j n) ahead.goes in
        let f = find_at sheet here.left early.stages.items number (delivers e i j) rest k here.kept (ap (drop number) here.stages_are ∙ stage_is) at in
        let told : Tells G limit here.state (moves e i j n) ahead.place.state ahead.more = record { leads = leads; printed = ahead.printed } in
        let within = few_sent early.session plan limit here.state.printed here.state here.stands.stands in
        let written : Appends (Some k.kept.bytes) (Some now.bytes) (lines_on sheet ahead.more) = subst (λ o. Appends o (Some now.bytes) (lines_on sheet ahead.more)) was (subst (λ o. Appends old.written o (lines_on sheet ahead.more)) is ahead.written) in
        record {
          sheet_is = here.sheet_is;
          sources_are = here.sources_are;
          left = bumped number n ahead.more here.left;
          stages_are = bumped_stages number n ahead.more here.left ∙ here.stages_are;
          kept = subst (AreKept sheet (bumped number n ahead.more here.left)) (sym stages_now) (more_kept sheet here.left early.stages.items number n ahead.more k now here.kept at written.told);
          ordered = ordered_bumped G limit number n ahead.more here.left here.ordered;
          few = here.few;
          state = ahead.place.state;
          made = made_bumped G limit number here.left f.it e i j n ahead.more p.state here.state ahead.place.state f.is (f.kept_is.early ∙ is_early) f.stage_is here.ordered here.few within here.made told;
          stands = subst (λ (s : Session). StandsAt s plan limit files (record p { state = ahead.place.state })) (sym session_is) (record { stands = ahead.stands.stands; files_are = here.stands.files_are });
        }

  -- ---- lines are taken

  module _ (wired : IsWired G) (xs : List Early) where
    -- the run has come to the same files, and all that was made early leads on from there
    record Lined (went : Went (At State)) (s : State) (q : At State) : Type 0 where
      next : State
      goes : went ≡ on (record { state = next; files = q.files })
      silent : next.printed ≡ s.printed
      within : next.sends ≤ limit
      made : Made G limit xs next q.state

    abbrev At_ : State → List LinesLeft → At State
    At_ s files = record { state = s; files = files }

    stays_there : (s t : State) (files : List LinesLeft) (q : At State) → s.sends ≤ limit → Made G limit xs s t → on (At_ t files) ≡ on q → Lined (on (At_ s files)) s q
    stays_there s t files q few made is =
        let same = on_same (At_ t files) q is in
        record { next = s; goes = ap (λ (r : At State). on (At_ s r.files)) same; silent = refl; within = few; made = subst (λ (r : At State). Made G limit xs s r.state) same made }

    abbrev Took : State → List LinesLeft → ℕ → LinesLeft → Result State StepFault → Went (At State)
    Took s files place file r = run.took (job_of G limit) plan.sources sheet.by_table (At_ s files) place file r

    line_taken : (s t : State) (files : List LinesLeft) (place : ℕ) (file : LinesLeft) (line : Line) (r : Result State StepFault) (q : At State) → s.sends ≤ limit → Made G limit xs s t → machine.take G limit t line.table line.change ≡ r
        → Took t files place file r ≡ on q → Lined (Took s files place file (machine.take G limit s line.table line.change)) s q
    line_taken s t files place file line (Ok w) q few made taken is =
        let there = made_takes G limit wired line.table line.change xs s t w few made taken in
        let same = on_same (At_ w (set files place file)) q is in
        record {
          next = there.next;
          goes = ap (Took s files place file) there.ok ∙ ap (λ (r : At State). on (At_ there.next r.files)) same;
          silent = there.silent;
          within = there.within;
          made = subst (λ (r : At State). Made G limit xs there.next r.state) same there.made;
        }
    line_taken s t files place file line (Err (fault.Change code)) q few made taken is = absurd (cc (is))
    line_taken s t files place file line (Err (fault.Order code)) q few made taken is = absurd (cc (is))
    line_taken s t files place file line (Err (fault.Range node subtask row types)) q few made taken is = absurd (cc (is))
    line_taken s t files place file line (Err fault.Limit) q few made taken is = absurd (cc (is))
    line_taken s t files place file line (Err fault.Memory) q few made taken is = absurd (cc (is))

    abbrev OfLine : State → List LinesLeft → ℕ → LinesLeft → Result Line ChangeCode → Went (At State)
    OfLine s files place file r = run.take_line (job_of G limit) plan.sources sheet.by_table (At_ s files) place file r

    line_read : (s t : State) (files : List LinesLeft) (place : ℕ) (file : LinesLeft) (r : Result Line ChangeCode) (q : At State) → s.sends ≤ limit → Made G limit xs s t → OfLine t files place file r ≡ on q → Lined (OfLine s files place file r) s q
    line_read s t files place file (Ok line) q few made is = line_taken s t files place file line (machine.take G limit t line.table line.change) q few made refl is
    line_read s t files place file (Err code) q few made is = absurd (cc (is))

    first_read : (s t : State) (files : List LinesLeft) (place : ℕ) (file : LinesLeft) (records : List Record) (q : At State) → s.sends ≤ limit → Made G limit xs s t
        → run.take_first (job_of G limit) plan.sources sheet.by_table (At_ t files) place file records ≡ on q → Lined (run.take_first (job_of G limit) plan.sources sheet.by_table (At_ s files) place file records) s q
    first_read s t files place file [] q few made is = stays_there s t files q few made is
    first_read s t files place file (fields ∷ rest) q few made is = line_read s t files place (read_on file rest) (line_in plan.sources file.feed fields) q few made is

    from_file : (s t : State) (files : List LinesLeft) (place : ℕ) (o : Option LinesLeft) (q : At State) → s.sends ≤ limit → Made G limit xs s t
        → run.take_from (job_of G limit) plan.sources sheet.by_table (At_ t files) place o ≡ on q → Lined (run.take_from (job_of G limit) plan.sources sheet.by_table (At_ s files) place o) s q
    from_file s t files place None q few made is = stays_there s t files q few made is
    from_file s t files place (Some file) q few made is = first_read s t files place file file.records q few made is

    abbrev Many : At State → ℕ → ℕ → Went (At State)
    Many p place count = run.take_many (job_of G limit) plan.sources sheet.by_table p place count

    many_taken : (s t : State) (files : List LinesLeft) (place count : ℕ) (q : At State) → s.sends ≤ limit → Made G limit xs s t → Many (At_ t files) place count ≡ on q → Lined (Many (At_ s files) place count) s q
    many_taken s t files place zero q few made is = stays_there s t files q few made is
    many_taken s t files place (suc count) q few made is =
        let parts = and_on (run.take_from (job_of G limit) plan.sources sheet.by_table (At_ t files) place (slice_get files place)) (λ r. Many r place count) q is in
        let one = from_file s t files place (slice_get files place) parts.0 few made parts.1 in
        let rest = many_taken one.next parts.0.state parts.0.files place count q one.within one.made parts.2 in
        record {
          next = rest.next;
          goes = ap (λ w. and_then w (λ r. Many r place count)) one.goes ∙ rest.goes;
          silent = rest.silent ∙ one.silent;
          within = rest.within;
          made = rest.made;
        }

  pub early_taken : (p : At State) (early : EarlySession) (files : List LinesLeft) (here : Here 0 p early files) (place count : ℕ) (next : Session) (later : EarlySession) (left : List LinesLeft) (old new : Told)
      → Ahead sheet plan limit (lines_run place count sheet.by_table plan limit (record p { state = here.state })) on (record p { state = here.state }) next left old new → later.session ≡ next → later.stages ≡ early.stages
      → HasTakenEarly sheet sources plan limit (lines_run place count sheet.by_table plan limit p) on p later left
  early_taken p early files here place count next later left old new ahead session_is stages_are =
      let wired = wired_of early.session plan limit here.state.printed here.state here.stands.stands in
      let lined = many_taken wired here.left p.state here.state p.files place count ahead.place here.few here.made ahead.goes in
      record {
        place = record { state = lined.next; files = ahead.place.files };
        goes = lined.goes;
        silent = lined.silent;
        early = record {
          sheet_is = here.sheet_is;
          sources_are = here.sources_are;
          left = here.left;
          stages_are = here.stages_are;
          kept = subst (λ stages. AreKept sheet here.left stages.items) (sym stages_are) here.kept;
          ordered = here.ordered;
          few = lined.within;
          state = ahead.place.state;
          made = lined.made;
          stands = subst (λ (s : Session). StandsAt s plan limit left ahead.place) (sym session_is) ahead.stands;
        };
      }

  then_both : (w : Went (At State)) (f h : At State → Went (At State)) (k : At State → Went (At State)) → ((q : At State) → f q ≡ and_then (h q) k) → and_then w f ≡ and_then (and_then w h) k
  then_both (on q) f h k same = same q
  then_both (halts cause q) f h k same = refl

  lines_parts : (place part rest all : ℕ) → all ≡ part + rest → (q : At State) → lines_run place all sheet.by_table plan limit q ≡ and_then (lines_run place part sheet.by_table plan limit q) (lines_run place rest sheet.by_table plan limit)
  lines_parts place zero rest all is q = let same : all ≡ rest = omega (arith, is) in ap (λ n. lines_run place n sheet.by_table plan limit q) same
  lines_parts place (suc part) rest zero is q = absurd (omega (arith, is))
  lines_parts place (suc part) rest (suc all) is q =
      let same : all ≡ part + rest = omega (arith, is) in
      then_both (run.take_from (job_of G limit) plan.sources sheet.by_table q place (slice_get q.files place)) (lines_run place all sheet.by_table plan limit) (lines_run place part sheet.by_table plan limit) (lines_run place rest sheet.by_table plan limit)
      (lines_parts place part rest all same)

  pub taken_then : (place part rest all : ℕ) → all ≡ part + rest → (went : Went (At State)) (p q : At State) → went ≡ lines_run place all sheet.by_table plan limit q → q.state.printed ≡ p.state.printed
      → (r : At State) → lines_run place part sheet.by_table plan limit q ≡ on r → r.state.printed ≡ q.state.printed → (later : EarlySession) (files : List LinesLeft) → Here 0 r later files → HasTakenEarly sheet sources plan limit went (lines_run place rest sheet.by_table plan limit) p later files
  taken_then place part rest all is went p q so_far silent r goes more later files here = record {
    place = r;
    goes = so_far ∙ lines_parts place part rest all is q ∙ ap (λ w. and_then w (lines_run place rest sheet.by_table plan limit)) goes;
    silent = more ∙ silent;
    early = here;
  }

  -- ---- a stage of the drain is gone through

  drop_found : {A : Type 0} (xs : List A) (n : ℕ) (x : A) → slice_get xs n ≡ Some x → drop n xs ≡ x ∷ drop (suc n) xs
  drop_found [] zero x is = absurd (cc (is))
  drop_found [] (suc n) x is = absurd (cc (is))
  drop_found (y ∷ xs) zero x is = let same : y ≡ x = cc (is) in ap (λ z. z ∷ xs) same
  drop_found (y ∷ xs) (suc n) x is = drop_found xs n x is

  set_take : (xs : List EarlyStage) (n : ℕ) (x y : EarlyStage) → slice_get xs n ≡ Some x → take (suc n) (set xs n y) ≡ take n xs ++ y ∷ []
  set_take [] zero x y is = absurd (cc (is))
  set_take [] (suc n) x y is = absurd (cc (is))
  set_take (z ∷ xs) zero x y is = refl
  set_take (z ∷ xs) (suc n) x y is = ap (λ l. z ∷ l) (set_take xs n x y is)

  set_drop : (xs : List EarlyStage) (n : ℕ) (y : EarlyStage) → drop (suc n) (set xs n y) ≡ drop (suc n) xs
  set_drop [] zero y = refl
  set_drop [] (suc n) y = refl
  set_drop (z ∷ xs) zero y = refl
  set_drop (z ∷ xs) (suc n) y = set_drop xs n y

  kept_both : (xs ys : List EarlyStage) → kept_lines (xs ++ ys) ≡ kept_lines xs ++ kept_lines ys
  kept_both [] ys = refl
  kept_both (x ∷ xs) ys = ap (λ l. x.kept.bytes ++ l) (kept_both xs ys) ∙ sym (append_assoc x.kept.bytes (kept_lines xs) (kept_lines ys))

  -- the run has gone through the stage, and all else that was made early leads on from there
  record Through (stage : Stage) (rest : List Stage) (k : EarlyStage) (kept : List EarlyStage) (more : List PrintItem) (s w : State) : Type 0 where
    others : List Early
    stages_are : map (λ (x : Early). x.stage) others ≡ rest
    kept_are : AreKept sheet others kept
    ordered : AreOrdered G others
    out : List PrintItem
    lines : k.kept.bytes ≡ lines_on sheet out
    next : State
    tells : Tells G limit s (stage_items s stage) next (out ++ more)
    within : next.sends ≤ limit
    made : Made G limit others next w

  through : IsWired G → (left : List Early) (stage : Stage) (rest : List Stage) (k : EarlyStage) (kept : List EarlyStage) (more : List PrintItem) (s t w : State) → map (λ (x : Early). x.stage) left ≡ stage ∷ rest → AreKept sheet left (k ∷ kept) → AreOrdered G left
      → s.sends ≤ limit → t.sends ≤ limit → Made G limit left s t → Tells G limit t (stage_items t stage) w more → Through stage rest k kept more s w
  through wired [] stage rest k kept more s t w are is ordered few within made tells = absurd (cc (are))
  through wired (x ∷ xs) stage rest k kept more s t w are is ordered few within made tells =
      let first : x.stage ≡ stage = cc (are) in
      let done = made_stage G limit wired x xs s t w more few within ordered made (subst (λ st. Tells G limit t (stage_items t st) w more) (sym first) tells) in
      record {
        others = xs;
        stages_are = cc (are);
        kept_are = is.1;
        ordered = ordered.1;
        out = x.out;
        lines = is.0.lines;
        next = done.0;
        tells = subst (λ st. Tells G limit s (stage_items s st) done.0 (x.out ++ more)) first done.1;
        within = done.3;
        made = done.2;
      }

  module _ (number : ℕ) (p : At State) (early : EarlySession) (files : List LinesLeft) (here : Here number p early files) (stage : Stage) (rest : List Stage) (stage_is : drop number (stages G) ≡ stage ∷ rest) (k : EarlyStage)
      (at : slice_get early.stages.items number ≡ Some k) where
    abbrev Now : At State
    Now = record p { state = here.state }

    run_is : (q : At State) → stage_run number sheet.by_table plan limit q ≡ Along q (stage_items q.state stage)
    run_is q = ap (λ l. first_run l sheet.by_table plan limit q) stage_is

    pub stage_finished : (next : Session) (now : GrowingState) (later : EarlySession) (old new : Told) → old.written ≡ Some k.kept.bytes → new.written ≡ Some now.bytes → Ahead sheet plan limit (stage_run number sheet.by_table plan limit Now) on Now next files old new
        → later.session ≡ next → later.stages.items ≡ set early.stages.items number (record k { kept = now })
        → HasDrainedEarly sheet sources plan limit (number + 1) (stage_run number sheet.by_table plan limit p) on p (kept_lines (take number early.stages.items)) later files
    stage_finished next now later old new was is ahead session_is stages_now =
        let wired = wired_of early.session plan limit here.state.printed here.state here.stands.stands in
        let within = few_sent early.session plan limit here.state.printed here.state here.stands.stands in
        let leads = along_leads G limit plan.sources sheet.by_table Now ahead.place (stage_items here.state stage) (sym (run_is Now) ∙ ahead.goes) in
        let told : Tells G limit here.state (stage_items here.state stage) ahead.place.state ahead.more = record { leads = leads; printed = ahead.printed } in
        let kept = drop (suc number) early.stages.items in
        let th = through wired here.left stage rest k kept ahead.more p.state here.state ahead.place.state (here.stages_are ∙ stage_is) (subst (AreKept sheet here.left) (drop_found early.stages.items number k at) here.kept) here.ordered here.few within here.made told in
        let written : Appends (Some k.kept.bytes) (Some now.bytes) (lines_on sheet ahead.more) = subst (λ o. Appends o (Some now.bytes) (lines_on sheet ahead.more)) was (subst (λ o. Appends old.written o (lines_on sheet ahead.more)) is ahead.written) in
        let y : EarlyStage = record k { kept = now } in
        let lines : now.bytes ≡ lines_on sheet (th.out ++ ahead.more) = written.told ∙ ap (λ l. l ++ lines_on sheet ahead.more) th.lines ∙ sym (lines_both sheet.by_table sheet.tys.items sheet.key th.out ahead.more) in
        let one : number + 1 ≡ suc number = omega arith in
        let behind : drop (suc number) (stages G) ≡ rest = drop_more (stages G) number stage rest stage_is in
        record {
          place = record p { state = th.next };
          goes = run_is p ∙ leads_along G limit plan.sources sheet.by_table p (stage_items p.state stage) th.next th.tells.leads;
          more = th.out ++ ahead.more;
          printed = th.tells.printed;
          lines = ap (λ n. kept_lines (take n later.stages.items)) one ∙ ap (λ l. kept_lines (take (suc number) l)) stages_now ∙ ap kept_lines (set_take early.stages.items number k y at)
              ∙ kept_both (take number early.stages.items) (y ∷ []) ∙ ap (λ l. kept_lines (take number early.stages.items) ++ l) (append-nil now.bytes ∙ lines);
          early = record {
            sheet_is = here.sheet_is;
            sources_are = here.sources_are;
            left = th.others;
            stages_are = th.stages_are ∙ sym behind ∙ ap (λ n. drop n (stages G)) (sym one);
            kept = subst (AreKept sheet th.others) (sym (set_drop early.stages.items number y) ∙ ap (drop (suc number)) (sym stages_now) ∙ ap (λ n. drop n later.stages.items) (sym one)) th.kept_are;
            ordered = th.ordered;
            few = th.within;
            state = ahead.place.state;
            made = th.made;
            stands = subst (λ (s : Session). StandsAt s plan limit files (record p { state = ahead.place.state })) (sym session_is) (record { stands = ahead.stands.stands; files_are = here.stands.files_are });
          };
        }

  pub drained_then : (p : At State) (number : ℕ) (mid later : EarlySession) (files : List LinesLeft) (a : HasDrainedEarly sheet sources plan limit number (stages_run 0 sheet.by_table plan limit p) (stages_run number sheet.by_table plan limit) p [] mid files)
      → HasDrainedEarly sheet sources plan limit (number + 1) (stage_run number sheet.by_table plan limit a.place) on a.place (kept_lines (take number mid.stages.items)) later files
      → HasDrainedEarly sheet sources plan limit (number + 1) (stages_run 0 sheet.by_table plan limit p) (stages_run (number + 1) sheet.by_table plan limit) p [] later files
  drained_then p number mid later files a b =
      let u = stages_unfold number (number + 1) refl sheet.by_table plan limit a.place in
      record {
        place = b.place;
        goes = a.goes ∙ u.is ∙ ap (λ w. and_then w u.tail) b.goes ∙ u.rest_is b.place b.goes;
        more = a.more ++ b.more;
        printed = b.printed ∙ ap (λ l. l ++ b.more) a.printed ∙ append_assoc p.state.printed a.more b.more;
        lines = b.lines ∙ ap (λ l. l ++ lines_on sheet b.more) a.lines ∙ sym (lines_both sheet.by_table sheet.tys.items sheet.key a.more b.more);
        early = b.early;
      }

  -- all of them were
  pub early_finished : (p : At State) (number : ℕ) (later : EarlySession) (files : List LinesLeft) → number ≡ length (stages G)
      → HasDrainedEarly sheet sources plan limit number (stages_run 0 sheet.by_table plan limit p) (stages_run number sheet.by_table plan limit) p [] later files → IsFinished sheet plan limit (stages_run 0 sheet.by_table plan limit p) p later files
  early_finished p number later files all done =
      let here = done.early in
      let none = here.stages_are ∙ drop_past (stages G) number all in
      record {
        place = done.place;
        goes = done.goes ∙ no_stages number sheet.by_table plan limit done.place all;
        more = done.more;
        printed = done.printed;
        lines = ap kept_lines (sym (none_left here.left (drop number later.stages.items) number later.stages.items refl none here.kept)) ∙ done.lines;
        state = here.state;
        same = last here.left done.place.state here.state none here.made;
        stands = here.stands;
      }
    where
      last : (left : List Early) (s t : State) → map (λ (x : Early). x.stage) left ≡ [] → Made G limit left s t → hushed s ≡ hushed t
      last [] s t none made = made
      last (x ∷ xs) s t none made = absurd (cc (none))

      all_taken : (n : ℕ) (items : List EarlyStage) → drop n items ≡ [] → take n items ≡ items
      all_taken zero [] is = refl
      all_taken zero (x ∷ items) is = absurd (cc (is))
      all_taken (suc n) [] is = refl
      all_taken (suc n) (x ∷ items) is = ap (λ l. x ∷ l) (all_taken n items is)

      none_left : (left : List Early) (behind : List EarlyStage) (n : ℕ) (items : List EarlyStage) → drop n items ≡ behind → map (λ (x : Early). x.stage) left ≡ [] → AreKept sheet left behind → take n items ≡ items
      none_left [] [] n items is none kept = all_taken n items is
      none_left [] (k ∷ behind) n items is none kept = absurd kept
      none_left (x ∷ xs) behind n items is none kept = absurd (cc (none))

  -- ---- nothing was made yet

  none_made : (s : State) (early : Bool) (stage : Stage) → Tells G limit s (made_of early stage 0) s []
  none_made s true (delivers e i j) = record { leads = refl; printed = sym (append-nil s.printed) }
  none_made s true (flushes v j) = record { leads = refl; printed = sym (append-nil s.printed) }
  none_made s false stage = record { leads = refl; printed = sym (append-nil s.printed) }

  begun_made : (all : List Stage) (kept : List EarlyStage) (s : State) → Made G limit (begun all kept) s s
  begun_made [] kept s = refl
  begun_made (stage ∷ all) [] s = refl
  begun_made (stage ∷ all) (x ∷ kept) s = (s, none_made s x.early stage, begun_made all kept s)

  begun_kept : (all : List Stage) (kept : List EarlyStage) → length kept ≡ length all → AllByRecursion (λ (stage : EarlyStage). stage.kept.bytes ≡ []) kept → AreKept sheet (begun all kept) kept
  begun_kept [] [] long empty = tt
  begun_kept [] (x ∷ kept) long empty = absurd (omega (arith, long))
  begun_kept (stage ∷ all) [] long empty = absurd (omega (arith, long))
  begun_kept (stage ∷ all) (x ∷ kept) long empty = (record { early = refl; lines = empty.0 }, begun_kept all kept (omega (arith, long)) empty.1)

  begun_stages : (all : List Stage) (kept : List EarlyStage) → length kept ≡ length all → map (λ (x : Early). x.stage) (begun all kept) ≡ all
  begun_stages [] kept long = refl
  begun_stages (stage ∷ all) [] long = absurd (omega (arith, long))
  begun_stages (stage ∷ all) (x ∷ kept) long = let more : length kept ≡ length all = omega (arith, long) in ap (λ l. stage ∷ l) (begun_stages all kept more)

  pub early_begins : (p : At State) (session : Session) (early : EarlySession) (kept : List EarlyStage) (files : List LinesLeft) → IsSheetOf plan.sink sheet → plan.sources ≡ sources → StandsAt session plan limit files p → AreBegun kept plan
      → early.session ≡ session → early.stages.items ≡ kept → Here 0 p early files
  early_begins p session early kept files is same stands begins session_is stages_now = record {
    sheet_is = is;
    sources_are = same;
    left = begun (stages G) kept;
    stages_are = begun_stages (stages G) kept begins.long;
    kept = subst (AreKept sheet (begun (stages G) kept)) (sym stages_now) (begun_kept (stages G) kept begins.long begins.empty);
    ordered = begins.ordered;
    few = few_sent session plan limit p.state.printed p.state stands.stands;
    state = p.state;
    made = begun_made (stages G) kept p.state;
    stands = subst (λ (s : Session). StandsAt s plan limit files p) (sym session_is) stands;
  }

-- ---- which stages are early

abbrev IsSeen : Network → BTreeSet ℕ → Stage → Type 0
IsSeen g seen stage = (v j : ℕ) → taker_of g stage ≡ Some (v, j) → contains nat_cmp seen (v * 4294967296 + j) ≡ true

-- of so many first stages it is told, and their subtasks were seen
pub record AreBegunTo (seen : BTreeSet ℕ) (kept : List EarlyStage) (n : ℕ) (plan : Plan) : Type 0 where
  pub long : length kept ≡ n
  pub empty : AllByRecursion (λ (stage : EarlyStage). stage.kept.bytes ≡ []) kept
  pub ordered : AreOrdered (network plan) (begun (take n (stages (network plan))) kept)
  pub seen_are : AllByRecursion (IsSeen (network plan) seen) (take n (stages (network plan)))

take_next : {A : Type 0} (all : List A) (n : ℕ) (x : A) (rest : List A) → drop n all ≡ x ∷ rest → take (suc n) all ≡ take n all ++ x ∷ []
take_next [] zero x rest is = absurd (cc (is))
take_next [] (suc n) x rest is = absurd (cc (is))
take_next (y ∷ all) zero x rest is = let same : y ≡ x = cc (is) in ap (λ z. z ∷ []) same
take_next (y ∷ all) (suc n) x rest is = ap (λ l. y ∷ l) (take_next all n x rest is)

begun_push : (all : List Stage) (kept : List EarlyStage) (stage : Stage) (x : EarlyStage) → length kept ≡ length all → begun (all ++ stage ∷ []) (kept ++ x ∷ []) ≡ begun all kept ++ record { stage = stage; early = x.early; count = 0; out = [] } ∷ []
begun_push [] [] stage x long = refl
begun_push [] (y ∷ kept) stage x long = absurd (omega (arith, long))
begun_push (z ∷ all) [] stage x long = absurd (omega (arith, long))
begun_push (z ∷ all) (y ∷ kept) stage x long =
    let more : length kept ≡ length all = omega (arith, long) in ap (λ l. record { stage = z; early = y.early; count = 0; out = [] } ∷ l) (begun_push all kept stage x more)

all_begun : (P : Stage → Type 0) (all : List Stage) (kept : List EarlyStage) → AllByRecursion P all → AllByRecursion (λ (y : Early). P y.stage) (begun all kept)
all_begun P [] kept h = tt
all_begun P (stage ∷ all) [] h = tt
all_begun P (stage ∷ all) (x ∷ kept) h = (h.0, all_begun P all kept h.1)

all_with : {A : Type 0} (P Q R : A → Type 0) (xs : List A) → ((x : A) → P x → Q x → R x) → AllByRecursion P xs → AllByRecursion Q xs → AllByRecursion R xs
all_with P Q R [] f h k = tt
all_with P Q R (x ∷ xs) f h k = (f x h.0 k.0, all_with P Q R xs f h.1 k.1)

take_long : {A : Type 0} (all : List A) (n : ℕ) (x : A) (rest : List A) → drop n all ≡ x ∷ rest → length (take n all) ≡ n
take_long [] zero x rest is = absurd (cc (is))
take_long [] (suc n) x rest is = absurd (cc (is))
take_long (y ∷ all) zero x rest is = refl
take_long (y ∷ all) (suc n) x rest is = ap suc (take_long all n x rest is)

pub begun_next : (plan : Plan) (seen more : BTreeSet ℕ) (kept : List EarlyStage) (n : ℕ) (stage : Stage) (rest : List Stage) (x : EarlyStage) → IsWired (network plan) → drop n (stages (network plan)) ≡ stage ∷ rest → AreBegunTo seen kept n plan
    → x.kept.bytes ≡ [] → (x.early ≡ true → (v j : ℕ) → taker_of (network plan) stage ≡ Some (v, j) → contains nat_cmp seen (v * 4294967296 + j) ≡ false)
    → ((number : ℕ) → contains nat_cmp seen number ≡ true → contains nat_cmp more number ≡ true) → IsSeen (network plan) more stage → AreBegunTo more (kept ++ x ∷ []) (n + 1) plan
begun_next plan seen more kept n stage rest x wired is so_far empty first stays put =
    let g = network plan in
    let all = take n (stages g) in
    let one : n + 1 ≡ suc n = omega arith in
    let taken : take (n + 1) (stages g) ≡ all ++ stage ∷ [] = ap (λ m. take m (stages g)) one ∙ take_next (stages g) n stage rest is in
    let long : length kept ≡ length all = so_far.long ∙ sym (take_long (stages g) n stage rest is) in
    let before_it = before g (stages g) n stage rest (sorted_stages g 1 g.count) is in
    let new : Early = record { stage = stage; early = x.early; count = 0; out = [] } in
    let may = all_with (IsBefore g stage) (IsSeen g seen) (λ other. MayPass g (stage_item other) new) all (λ other at known.
    passes g wired other stage x.early at (λ early v j of_stage of_other. false≢true (sym (first early v j of_stage) ∙ known v j of_other))) before_it so_far.seen_are in
    record {
      long = let pushed = length_push kept x in let was = so_far.long in omega (arith, pushed, was);
      empty = all_both (λ (stage : EarlyStage). stage.kept.bytes ≡ []) kept (x ∷ []) so_far.empty (empty, tt);
      ordered = subst (λ l. AreOrdered g (begun l (kept ++ x ∷ []))) (sym taken) (subst (AreOrdered g) (sym (begun_push all kept stage x long))
          (ordered_push g (begun all kept) new so_far.ordered (all_begun (λ other. MayPass g (stage_item other) new) all kept may)));
      seen_are = subst (AllByRecursion (IsSeen g more)) (sym taken) (all_both (IsSeen g more) all (stage ∷ []) (all_weaker (IsSeen g seen) (IsSeen g more) all (λ other known v j of_other. stays (v * 4294967296 + j) (known v j of_other)) so_far.seen_are) (put, tt));
    }
  where
    length_push : (xs : List EarlyStage) (y : EarlyStage) → length (xs ++ y ∷ []) ≡ length xs + 1
    length_push [] y = refl
    length_push (z ∷ xs) y = let more = length_push xs y in omega (arith, more)

pub begun_none : (plan : Plan) (seen : BTreeSet ℕ) → AreBegunTo seen [] 0 plan
begun_none plan seen = record { long = refl; empty = tt; ordered = tt; seen_are = tt }

pub begun_all : (plan : Plan) (seen : BTreeSet ℕ) (kept : List EarlyStage) (n : ℕ) → n ≡ length (stages (network plan)) → AreBegunTo seen kept n plan → AreBegun kept plan
begun_all plan seen kept n is begins =
    let g = network plan in
    record { long = begins.long ∙ is; empty = begins.empty; ordered = subst (λ l. AreOrdered g (begun l kept)) (ap (λ m. take m (stages g)) is ∙ whole (stages g)) begins.ordered }
  where
    whole : (all : List Stage) → take (length all) all ≡ all
    whole [] = refl
    whole (x ∷ all) = ap (λ l. x ∷ l) (whole all)
