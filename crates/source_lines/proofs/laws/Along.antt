-- What the items of a run do to its state and to what was printed, and where a run along them halts.
use Rattle.std.specs.Prelude.{◌≡◌, ℕ, ◌+◌, ◌==◌, ◌&&◌, nat_le, nat_lt, Bool, cond, Option, Result, List, ◌++◌, length, map}
use Rattle.std.proofs.Common.{zero, suc, true, false, [], ◌∷◌, refl, sym, ap, subst, ◌∙◌, Some, None, Ok, Err, inl, inr, append_assoc, append-nil}
use Rattle.std.proofs.lemmas.List.{map-append}
use Rattle.ct_value.specs.declared.codes.ChangeCode.{ChangeCode}
use Rattle.ct_value.specs.declared.codes.OrderCode.TheVariants.{NoSuchPlace}
use Rattle.ct_change.specs.declared.change.Change.{Change}
use Rattle.ct_change.specs.Changelog.{fold}
use Rattle.ct_catalog.specs.declared.table.TableDef.{TableDef}
use Rattle.op_rules.specs.History.{Arrival, joined}
use Rattle.op_rules.specs.Rules.{Answer}
use Rattle.stream_model.specs.declared.events.Event.TheVariants.{Take, Move, Flush}
use Rattle.stream_model.specs.declared.events.StepFault.{StepFault}
use Rattle.stream_model.specs.declared.events.StepFault.TheVariants.{Change as Refused, Order, Range, Limit, Memory}
use Rattle.stream_model.specs.declared.events.PrintItem.{PrintItem}
use Rattle.stream_model.specs.declared.events.PrintItem.TheVariants.{Change as Printed, Quiet}
use Rattle.stream_model.specs.Tables.{Table as Source, scanned_at, refusal}
use Rattle.stream_model.specs.Network.{Feed, Network}
use Rattle.stream_model.specs.Machine.{State, send, print, joins, folded, answered, flushed, size_of, flushed_if_full, is_channel, move_front, move_to, flush_held, flush_bundle, is_place, scan_count, scanned, take_unless, take_of}
use Rattle.stream_model.specs.Runs.{Item, happens, quiet, counts, counts_below, told_quiet, step_item, state_in, after, AreTyped}
use Rattle.stream_model.specs.Drain.{Leads, StopsBy, StopsAlong, Stage, delivers, flushes, moves, stage_items, drain_stages, stages, drain}
use Rattle.source_lines.specs.Run as run
use Rattle.source_lines.specs.Run.{At, Went, on, halts, and_then, place_of, job_of, stepped, Begins, HaltsBy, IsStop}

pub ok_same : {A B : Type 0} (x y : A) → (let r : Result A B = Ok x in r ≡ Ok y) → x ≡ y
ok_same x y e = cc

pub on_same : {A : Type 0} (p q : A) → on p ≡ on q → p ≡ q
on_same p q e = cc

module _ (g : Network) (limit : ℕ) where
  pub leads_both : (s : State) (xs ys : List Item) (u t : State) → Leads g limit s xs u → Leads g limit u ys t → Leads g limit s (xs ++ ys) t
  leads_both s [] ys u t h k = subst (λ v. Leads g limit v ys t) (sym h) k
  leads_both s (x ∷ xs) ys u t h k = (h.0, h.1, leads_both h.0 xs ys u t h.2 k)

  pub leads_split : (s : State) (xs ys : List Item) (t : State) → Leads g limit s (xs ++ ys) t → (u : State) × Leads g limit s xs u × Leads g limit u ys t
  leads_split s [] ys t h = (s, refl, h)
  leads_split s (x ∷ xs) ys t h = let rest = leads_split h.0 xs ys t h.2 in (rest.0, (h.0, h.1, rest.1), rest.2)

  pub leads_after : (s : State) (items : List Item) (t : State) → Leads g limit s items t → after g limit s items ≡ t
  leads_after s [] t e = e
  leads_after s (item ∷ items) t h = ap (λ r. after g limit (state_in s r) items) h.1 ∙ leads_after h.0 items t h.2

pub typed_both : (g : Network) (xs ys : List Item) → AreTyped g xs → AreTyped g ys → AreTyped g (xs ++ ys)
typed_both g [] ys a b = b
typed_both g (x ∷ xs) ys a b = (a.0, typed_both g xs ys a.1 b)

-- ---- the drain

-- only changes were printed
abbrev pub NoQuiet : List PrintItem → Type 0
NoQuiet [] = Unit {0}
NoQuiet (Printed change ∷ items) = NoQuiet items
NoQuiet (Quiet n ∷ items) = ⊥

pub no_quiet_more : (items : List PrintItem) (changes : List Change) → NoQuiet items → NoQuiet (items ++ map Printed changes)
no_quiet_more [] [] h = tt
no_quiet_more [] (change ∷ changes) h = no_quiet_more [] changes tt
no_quiet_more (Printed change ∷ items) changes h = no_quiet_more items changes h
no_quiet_more (Quiet n ∷ items) changes h = absurd h

-- nothing is taken, and nothing but changes is printed
pub record Goes (s t : State) : Type 0 where
  pub taken : t.taken ≡ s.taken
  pub counted : t.took ≡ s.took
  pub more : List Change
  pub printed : t.printed ≡ s.printed ++ map Printed more

pub goes_both : (s u t : State) → Goes s u → Goes u t → Goes s t
goes_both s u t a b = record {
  taken = b.taken ∙ a.taken;
  counted = b.counted ∙ a.counted;
  more = a.more ++ b.more;
  printed = b.printed ∙ ap (λ items. items ++ map Printed b.more) a.printed ∙ append_assoc s.printed (map Printed a.more) (map Printed b.more) ∙ sym (ap (λ items. s.printed ++ items) (map-append Printed a.more b.more));
}

pub goes_same : (s u t : State) → Goes s u → u ≡ t → Goes s t
goes_same s u t a e = subst (Goes s) e a

pub stays : (s : State) → Goes s s
stays s = record { taken = refl; counted = refl; more = []; printed = sym (append-nil s.printed) }

pub goes_no_quiet : (s t : State) → Goes s t → NoQuiet s.printed → NoQuiet t.printed
goes_no_quiet s t goes h = subst NoQuiet (sym goes.printed) (no_quiet_more s.printed goes.more h)

-- an item that takes nothing and tells nothing
abbrev pub IsMove : Item → Type 0
IsMove quiet = ⊥
IsMove (happens (Take table change)) = ⊥
IsMove (happens (Move e i j)) = Unit {0}
IsMove (happens (Flush v j)) = Unit {0}

abbrev pub AreMoves : List Item → Type 0
AreMoves [] = Unit {0}
AreMoves (item ∷ items) = IsMove item × AreMoves items

pub moves_both : (xs ys : List Item) → AreMoves xs → AreMoves ys → AreMoves (xs ++ ys)
moves_both [] ys a b = b
moves_both (x ∷ xs) ys a b = (a.0, moves_both xs ys a.1 b)

pub moves_from : (e i j n : ℕ) → AreMoves (moves e i j n)
moves_from e i j zero = tt
moves_from e i j (suc n) = (tt, moves_from e i j n)

pub moves_typed : (g : Network) (items : List Item) → AreMoves items → AreTyped g items
moves_typed g [] a = tt
moves_typed g (quiet ∷ items) a = absurd a.0
moves_typed g (happens (Take table change) ∷ items) a = absurd a.0
moves_typed g (happens (Move e i j) ∷ items) a = (tt, moves_typed g items a.1)
moves_typed g (happens (Flush v j) ∷ items) a = (tt, moves_typed g items a.1)

module _ (g : Network) (limit : ℕ) where
  pub moves_stage : (s : State) (stage : Stage) → AreMoves (stage_items s stage)
  moves_stage s (delivers e i j) = moves_from e i j (length (s.flight e i j))
  moves_stage s (flushes v j) = (tt, tt)

  pub moves_stages : (s : State) (all : List Stage) → AreMoves (drain_stages g limit s all)
  moves_stages s [] = tt
  moves_stages s (stage ∷ others) = moves_both (stage_items s stage) (drain_stages g limit (after g limit s (stage_items s stage)) others) (moves_stage s stage) (moves_stages (after g limit s (stage_items s stage)) others)

  -- what a step that could be goes to
  abbrev pub GoesTo : State → Result State StepFault → Type 0
  GoesTo s (Ok t) = Goes s t
  GoesTo s (Err cause) = Unit {0}

  pub prints : (v i : ℕ) (changes : List Change) (s : State) → Goes s (print v i changes s)
  prints v i changes s = record { taken = refl; counted = refl; more = changes; printed = refl }

  pub sends : (v i : ℕ) (changes : List Change) (s : State) → Goes s (send g v i changes s)
  sends v i changes s = record { taken = refl; counted = refl; more = []; printed = sym (append-nil s.printed) }

  pub goes_limit : (b : Bool) (v j : ℕ) (changes : List Change) (s : State) → GoesTo s (cond b (Ok (send g v j changes s)) (Err Limit))
  goes_limit true v j changes s = sends v j changes s
  goes_limit false v j changes s = tt

  pub goes_on : (b : Bool) (v j : ℕ) (changes : List Change) (s : State) → GoesTo s (cond b (Ok (print v j changes s)) (cond (nat_le (s.sends + length changes) limit) (Ok (send g v j changes s)) (Err Limit)))
  goes_on true v j changes s = prints v j changes s
  goes_on false v j changes s = goes_limit (nat_le (s.sends + length changes) limit) v j changes s

  pub goes_answered : (v j : ℕ) (answer : Answer) (s : State) → GoesTo s (answered g limit v j answer s)
  goes_answered v j (Err row) s = tt
  goes_answered v j (Ok changes) s = goes_on (v == g.count) v j changes s

  pub from_folded : (s : State) (v j : ℕ) (r : Result State StepFault) → GoesTo (folded v j s) r → GoesTo s r
  from_folded s v j (Ok t) h = record { taken = h.taken; counted = h.counted; more = h.more; printed = h.printed }
  from_folded s v j (Err cause) h = tt

  pub goes_flushed : (s : State) (v j : ℕ) → GoesTo s (flushed g limit v j s)
  goes_flushed s v j = from_folded s v j (flushed g limit v j s) (goes_answered v j (g.emits v (joined (s.pieces v j)) (s.bundle v j)) (folded v j s))

  pub goes_full : (b : Bool) (s : State) (v j : ℕ) → GoesTo s (cond b (flushed g limit v j s) (Ok s))
  goes_full true s v j = goes_flushed s v j
  goes_full false s v j = stays s

  pub from_joins : (s : State) (e i j : ℕ) (feed : Feed) (change : Change) (rest : List Change) (r : Result State StepFault) → GoesTo (joins e i j feed change rest s) r → GoesTo s r
  from_joins s e i j feed change rest (Ok t) h = record { taken = h.taken; counted = h.counted; more = h.more; printed = h.printed }
  from_joins s e i j feed change rest (Err cause) h = tt

  pub goes_front : (s : State) (e i j : ℕ) (feed : Feed) (changes : List Change) → GoesTo s (move_front g limit s e i j feed changes)
  goes_front s e i j feed [] = tt
  goes_front s e i j feed (change ∷ rest) =
      let u = joins e i j feed change rest s in
      from_joins s e i j feed change rest (flushed_if_full g limit feed.node j u) (goes_full (nat_le (size_of (g.bundle feed.node)) (length (u.bundle feed.node j))) u feed.node j)

  pub goes_channel : (b : Bool) (s : State) (e i j : ℕ) (feed : Feed) → GoesTo s (cond b (move_front g limit s e i j feed (s.flight e i j)) (Err (Order NoSuchPlace)))
  goes_channel true s e i j feed = goes_front s e i j feed (s.flight e i j)
  goes_channel false s e i j feed = tt

  pub goes_move : (s : State) (e i j : ℕ) (o : Option Feed) → GoesTo s (move_to g limit s e i j o)
  goes_move s e i j None = tt
  goes_move s e i j (Some feed) = goes_channel (is_channel g e i j) s e i j feed

  pub goes_held : (s : State) (v j : ℕ) (b : List Arrival) → GoesTo s (flush_held g limit s v j b)
  goes_held s v j [] = stays s
  goes_held s v j (a ∷ others) = goes_flushed s v j

  pub goes_bundle : (s : State) (v j : ℕ) (o : Option ℕ) → GoesTo s (flush_bundle g limit s v j o)
  goes_bundle s v j None = tt
  goes_bundle s v j (Some size) = goes_held s v j (s.bundle v j)

  pub goes_place : (b : Bool) (s : State) (v j : ℕ) → GoesTo s (cond b (flush_bundle g limit s v j (g.bundle v)) (Err (Order NoSuchPlace)))
  goes_place true s v j = goes_bundle s v j (g.bundle v)
  goes_place false s v j = tt

  pub goes_item : (s : State) (item : Item) → IsMove item → GoesTo s (step_item g limit s item)
  goes_item s quiet h = absurd h
  goes_item s (happens (Take table change)) h = absurd h
  goes_item s (happens (Move e i j)) h = goes_move s e i j (g.fed e)
  goes_item s (happens (Flush v j)) h = goes_place (is_place g v j) s v j

  pub goes_along : (s : State) (items : List Item) (t : State) → AreMoves items → Leads g limit s items t → Goes s t
  goes_along s [] t all leads = goes_same s s t (stays s) leads
  goes_along s (item ∷ items) t all leads =
      goes_both s leads.0 t (subst (GoesTo s) leads.1 (goes_item s item all.0)) (goes_along leads.0 items t all.1 leads.2)

  -- a drain, and the quiet item behind what it printed
  pub record Drained (s t : State) : Type 0 where
    pub before : List PrintItem
    pub no_quiet : NoQuiet s.printed → NoQuiet before
    pub printed : t.printed ≡ before ++ Quiet (counts g s) ∷ []
    pub taken : t.taken ≡ s.taken

  pub drained_parts : (s t : State) → Leads g limit s (drain g limit s) t → Drained s t
  drained_parts s t leads =
      let split = leads_split g limit s (drain_stages g limit s (stages g)) (quiet ∷ []) t leads in
      let goes = goes_along s (drain_stages g limit s (stages g)) split.0 (moves_stages s (stages g)) split.1 in
      let told : told_quiet g split.0 ≡ t = ok_same (told_quiet g split.0) split.2.0 split.2.1 ∙ split.2.2 in
      record {
        before = split.0.printed;
        no_quiet = goes_no_quiet s split.0 goes;
        printed = sym (ap (λ (u : State). u.printed) told) ∙ ap (λ taken. split.0.printed ++ Quiet (counts_below taken g.table_count) ∷ []) goes.taken;
        taken = sym (ap (λ (u : State). u.taken) told) ∙ goes.taken;
      }

  pub typed_drain : (s : State) → AreTyped g (drain g limit s)
  typed_drain s = typed_both g (drain_stages g limit s (stages g)) (quiet ∷ []) (moves_typed g (drain_stages g limit s (stages g)) (moves_stages s (stages g))) (tt, tt)

module _ (g : Network) (limit : ℕ) where
  -- what a step that could be printed
  abbrev pub PrintsOn : State → Result State StepFault → Type 0
  PrintsOn s (Ok t) = (rest : List PrintItem) × (t.printed ≡ s.printed ++ rest)
  PrintsOn s (Err cause) = Unit {0}

  pub by_goes : (s : State) (r : Result State StepFault) → GoesTo g limit s r → PrintsOn s r
  by_goes s (Ok t) goes = (map Printed goes.more, goes.printed)
  by_goes s (Err cause) goes = tt

  pub taken_prints : (s : State) (table : ℕ) (change : Change) (i : ℕ) (b : Bool) → PrintsOn s (cond b (Ok (scanned g table i change s)) (Err Limit))
  taken_prints s table change i true = ([], sym (append-nil s.printed))
  taken_prints s table change i false = tt

  pub unless_prints : (s : State) (table : ℕ) (change : Change) (i : ℕ) (o : Option ChangeCode) → PrintsOn s (take_unless g limit s table change i o)
  unless_prints s table change i (Some code) = tt
  unless_prints s table change i None = taken_prints s table change i (nat_lt s.took limit && nat_le (s.sends + scan_count g table) limit)

  pub take_prints : (s : State) (table : ℕ) (change : Change) (o : Option Source) → PrintsOn s (take_of g limit s table change o)
  take_prints s table change None = tt
  take_prints s table change (Some t) = unless_prints s table change (scanned_at t change) (refusal t (fold t.mode (s.taken table)) change)

  pub item_prints : (s : State) (item : Item) → PrintsOn s (step_item g limit s item)
  item_prints s quiet = (Quiet (counts g s) ∷ [], refl)
  item_prints s (happens (Take table change)) = take_prints s table change (g.tables table)
  item_prints s (happens (Move e i j)) = by_goes s (step_item g limit s (happens (Move e i j))) (goes_item g limit s (happens (Move e i j)) tt)
  item_prints s (happens (Flush v j)) = by_goes s (step_item g limit s (happens (Flush v j))) (goes_item g limit s (happens (Flush v j)) tt)

-- ---- a run along items

module _ (g : Network) (limit : ℕ) (sources : List TableDef) (by_table : Bool) where
  abbrev pub Along : At State → List Item → Went (At State)
  Along p items = run.go_along (job_of g limit) sources by_table p items

  -- the items behind a step
  abbrev pub Then : At State → List Item → Result State StepFault → Went (At State)
  Then p items r = and_then (stepped (job_of g limit) sources by_table p r) (λ q. Along q items)

  -- items that lead to a state are gone along
  pub leads_along : (p : At State) (items : List Item) (t : State) → Leads g limit p.state items t → Along p items ≡ on (record p { state = t })
  leads_along p [] t h = ap (λ (s : State). on (record p { state = s })) h
  leads_along p (item ∷ items) t h = ap (Then p items) h.1 ∙ leads_along (record p { state = h.0 }) items t h.2

  -- and who goes along them is led
  along_step : (p q : At State) (item : Item) (items : List Item) (r : Result State StepFault) → step_item g limit p.state item ≡ r → Then p items r ≡ on q
      → ((s : State) → Along (record p { state = s }) items ≡ on q → Leads g limit s items q.state) → Leads g limit p.state (item ∷ items) q.state
  along_step p q item items (Ok next) is e later = (next, is, later next e)
  along_step p q item items (Err cause) is e later = absurd (cc (e))

  pub along_leads : (p q : At State) (items : List Item) → Along p items ≡ on q → Leads g limit p.state items q.state
  along_leads p q [] e = ap (λ (r : At State). r.state) (on_same p q e)
  along_leads p q (item ∷ items) e = along_step p q item items (step_item g limit p.state item) refl e (λ s later. along_leads (record p { state = s }) q items later)

  -- no line of a file is read on the way
  files_then : (p : At State) (items : List Item) (r : Result State StepFault) → ((s : State) → (place_of (Along (record p { state = s }) items)).files ≡ p.files) → (place_of (Then p items r)).files ≡ p.files
  files_then p items (Ok next) later = later next
  files_then p items (Err cause) later = refl

  pub along_files : (p : At State) (items : List Item) → (place_of (Along p items)).files ≡ p.files
  along_files p [] = refl
  along_files p (item ∷ items) = files_then p items (step_item g limit p.state item) (λ s. along_files (record p { state = s }) items)

  -- what was printed stays
  begins_then : (p : At State) (items : List Item) (r : Result State StepFault) → PrintsOn g limit p.state r → ((s : State) → Begins s.printed (Along (record p { state = s }) items)) → Begins p.state.printed (Then p items r)
  begins_then p items (Err cause) more later = ([], sym (append-nil p.state.printed))
  begins_then p items (Ok next) more later =
      let rest = later next in
      (more.0 ++ rest.0, rest.1 ∙ ap (λ printed. printed ++ rest.0) more.1 ∙ append_assoc p.state.printed more.0 rest.0)

  pub begins_along : (p : At State) (items : List Item) → Begins p.state.printed (Along p items)
  begins_along p [] = ([], sym (append-nil p.state.printed))
  begins_along p (item ∷ items) = begins_then p items (step_item g limit p.state item) (item_prints g limit p.state item) (λ s. begins_along (record p { state = s }) items)

  -- a step that can't be halts the run
  halts_here : (p : At State) (item : Item) (items : List Item) (cause : StepFault) → step_item g limit p.state item ≡ Err cause → HaltsBy cause p.state.printed (Along p (item ∷ items))
  halts_here p item items cause is = record { place = p; halted = ap (Then p items) is; same = refl }

  pub stop_here : (p : At State) (item : Item) (items : List Item) (cause : StepFault) → StopsBy (step_item g limit p.state item) cause → IsStop cause p.state.printed (Along p (item ∷ items))
  stop_here p item items (Refused code) is = halts_here p item items (Refused code) is
  stop_here p item items (Order code) is = halts_here p item items (Order code) is
  stop_here p item items (Range node subtask row types) is = halts_here p item items (Range node subtask row types) is
  stop_here p item items Limit is = halts_here p item items Limit is
  stop_here p item items Memory is = begins_along p (item ∷ items)

  -- a run halts where its items stop
  pub stops_along : (p : At State) (items : List Item) (cause : StepFault) (printed : List PrintItem) → StopsAlong g limit p.state items cause printed → IsStop cause printed (Along p items)
  stops_along p [] cause printed stop = absurd stop
  stops_along p (item ∷ items) cause printed (inl here) = subst (λ items_printed. IsStop cause items_printed (Along p (item ∷ items))) here.1 (stop_here p item items cause here.0)
  stops_along p (item ∷ items) cause printed (inr later) =
      subst (IsStop cause printed) (sym (ap (Then p items) later.1)) (stops_along (record p { state = later.0 }) items cause printed later.2)
