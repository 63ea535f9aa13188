-- Moves may be made early: where they lead to and what they print is what they do in their place.
use Rattle.std.specs.Prelude.{◌≡◌, ℕ, ◌+◌, ◌≤◌, Bool, drop, List, ◌++◌, length, slice_get, Option, Result}
use Rattle.std.proofs.Common.{arith, true, false, zero, suc, [], ◌∷◌, refl, sym, ap, subst, ◌∙◌, inl, inr, Some, None, Ok, append-nil, append_assoc}
use Rattle.std.specs.List.{AllByRecursion}
use Rattle.std.proofs.lemmas.Bool.{cases_Bool, false≢true}
use Rattle.ct_change.specs.declared.change.Change.{Change}
use Rattle.op_rules.specs.History.{arrival}
use Rattle.stream_model.specs.declared.events.Event.TheVariants.{Take, Move, Flush}
use Rattle.stream_model.specs.declared.events.PrintItem.{PrintItem}
use Rattle.stream_model.specs.declared.events.StepFault.{StepFault}
use Rattle.stream_model.specs.Network.{Feed, Network, IsWired}
use Rattle.stream_model.specs.Machine.{State, is_number, is_scan_of}
use Rattle.stream_model.specs.Runs.{Item, happens, quiet, step_item}
use Rattle.stream_model.specs.Drain.{Leads, Stage, delivers, flushes, moves, stage_items}
use Rattle.source_lines.proofs.laws.Along.{leads_both}
use Rattle.run_laws.specs.Early.{AreOrdered, Early, IsApart, Made, MayPass, MayPassStage, Tells, bumped, hushed, made_of, stage_item}
use Rattle.run_laws.proofs.early.Edits.{popped}
use Rattle.run_laws.proofs.early.Deeds.{flat, told, printing, popped_here, popped_off, done_flight, flat_hushed, flat_printed}
use Rattle.run_laws.proofs.early.Effects.{Moves, moves_as, moved, fed_by, flushes_as, takes_as}
use Rattle.run_laws.proofs.early.Swaps.{Does, Swapped, moves_does, moves_again, moved_hushed, take_swaps, move_swaps, flush_swaps}

cancel : {A : Type 0} (l a b : List A) → l ++ a ≡ l ++ b → a ≡ b
cancel [] a b e = e
cancel (x ∷ l) a b e = cancel l a b (cc (e))

nothing : {A : Type 0} (l a : List A) → l ≡ l ++ a → a ≡ []
nothing l a e = sym (cancel l [] a (append-nil l ∙ e))

-- the first of so many moves
pub moves_first : (e i j first rest all : ℕ) → all ≡ first + rest → moves e i j all ≡ moves e i j first ++ moves e i j rest
moves_first e i j zero rest all is = let same : all ≡ rest = omega (arith, is) in ap (moves e i j) same
moves_first e i j (suc first) rest zero is = absurd (omega (arith, is))
moves_first e i j (suc first) rest (suc all) is = let same : all ≡ first + rest = omega (arith, is) in ap (λ items. happens (Move e i j) ∷ items) (moves_first e i j first rest all same)

module _ (g : Network) (limit : ℕ) where
  abbrev DoesIt : Item → State → State → List PrintItem → Type 0
  DoesIt item s t out = Does g limit item s t out

  abbrev SwappedIt : Item → ℕ → ℕ → ℕ → State → State → List PrintItem → List PrintItem → Type 0
  SwappedIt item e i j u w first second = Swapped g limit item e i j u w first second

  abbrev TellsIt : State → List Item → State → List PrintItem → Type 0
  TellsIt s items t out = Tells g limit s items t out

  -- ---- an item goes before a move

  swap_fed : (item : Item) (e i j : ℕ) (feed : Feed) (fed : g.fed e ≡ Some feed) (u v w : State) (m : Moves g limit e i j feed fed u v) (first : List PrintItem) → v.sends ≤ limit → DoesIt item v w first → IsApart g feed.node j item
      → SwappedIt item e i j u w first (told g feed.node m.full m.out)
  swap_fed quiet e i j feed fed u v w m first few does apart = absurd apart
  swap_fed (happens (Take table change)) e i j feed fed u v w m first few does apart =
      let x = takes_as g limit table change v w does.ok in
      let none : first ≡ [] = nothing v.printed first (sym (ap (λ (y : State). y.printed) x.is) ∙ does.printed) in
      subst (λ l. SwappedIt (happens (Take table change)) e i j u w l (told g feed.node m.full m.out)) (sym none) (take_swaps g limit e i j feed fed u v w m table change apart x)
  swap_fed (happens (Move a b c)) e i j feed fed u v w m first few does apart =
      let port = fed_by g limit a b c v w (g.fed a) refl does.ok in
      let x = moves_as g limit a b c port.0 port.1 v w few does.ok in
      let same = cancel v.printed (told g port.0.node x.full x.out) first (sym (moves_does g limit a b c port.0 port.1 v w x does.ok).printed ∙ does.printed) in
      subst (λ l. SwappedIt (happens (Move a b c)) e i j u w l (told g feed.node m.full m.out)) same (move_swaps g limit e i j feed fed u v w m a b c port.0 port.1 apart.0 (apart.1 port.0 port.1) x)
  swap_fed (happens (Flush p c)) e i j feed fed u v w m first few does apart =
      let x = flushes_as g limit p c v w few does.ok in
      let out = ap (λ (y : State). y.printed) x.is ∙ ap (λ l. l ++ told g p x.some x.out) (flat_printed g p c x.some x.out v) in
      let same = cancel v.printed (told g p x.some x.out) first (sym out ∙ does.printed) in
      subst (λ l. SwappedIt (happens (Flush p c)) e i j u w l (told g feed.node m.full m.out)) same (flush_swaps g limit e i j feed fed u v w m p c apart x)

  swap : (item : Item) (e i j : ℕ) (u v w : State) (first second : List PrintItem) → u.sends ≤ limit → DoesIt (happens (Move e i j)) u v second → DoesIt item v w first
      → ((feed : Feed) → g.fed e ≡ Some feed → IsApart g feed.node j item) → SwappedIt item e i j u w first second
  swap item e i j u v w first second few move does apart =
      let port = fed_by g limit e i j u v (g.fed e) refl move.ok in
      let m = moves_as g limit e i j port.0 port.1 u v few move.ok in
      let same = cancel u.printed (told g port.0.node m.full m.out) second (sym (moves_does g limit e i j port.0 port.1 u v m move.ok).printed ∙ move.printed) in
      subst (λ l. SwappedIt item e i j u w first l) same (swap_fed item e i j port.0 port.1 u v w m first move.within does (apart port.0 port.1))

  -- ---- what was printed doesn't matter to a step

  abbrev SameStep : Item → State → State → List PrintItem → Type 0
  SameStep item u t out = (next : State) × DoesIt item u next out × (hushed next ≡ hushed t)

  same_state : (s u : State) → hushed s ≡ hushed u → u ≡ record s { printed = u.printed }
  same_state s u same = sym (ap (λ (x : State). record x { printed = u.printed }) same)

  abbrev IsEvent : Item → Type 0
  IsEvent quiet = ⊥
  IsEvent (happens event) = Unit {0}

  from_other : (item : Item) (s t : State) (out l : List PrintItem) → IsEvent item → s.sends ≤ limit → DoesIt item s t out → SameStep item (record s { printed = l }) t out
  from_other quiet s t out l never few does = absurd never
  from_other (happens (Take table change)) s t out l event few does =
      let x = takes_as g limit table change s t does.ok in
      let none : out ≡ [] = nothing s.printed out (sym (ap (λ (y : State). y.printed) x.is) ∙ does.printed) in
      let u : State = record s { printed = l } in
      let ok = x.again u refl refl x.within in (
        record t { printed = l },
        record {
          ok = ok ∙ ap (λ (y : State). (let r : Result State StepFault = Ok (record y { printed = l }) in r)) (sym x.is);
          printed = sym (append-nil l) ∙ ap (λ k. l ++ k) (sym none);
          within = does.within;
        },
        refl,
      )
  from_other (happens (Move a b c)) s t out l event few does =
      let port = fed_by g limit a b c s t (g.fed a) refl does.ok in
      let x = moves_as g limit a b c port.0 port.1 s t few does.ok in
      let same = cancel s.printed (told g port.0.node x.full x.out) out (sym (moves_does g limit a b c port.0 port.1 s t x does.ok).printed ∙ does.printed) in
      let u : State = record s { printed = l } in
      let quiet_u = moved_hushed g limit a b c port.0 port.1 x.full x.out x.change s l in
      let again = moves_again g limit a b c port.0 port.1 s t x u x.rest x.front refl refl (subst (λ (y : State). y.sends ≤ limit) (sym quiet_u) x.within) in (
        printing g (moved g limit a b c port.0 port.1 x.full x.out x.change u) (told g port.0.node x.full x.out),
        subst (DoesIt (happens (Move a b c)) u (printing g (moved g limit a b c port.0 port.1 x.full x.out x.change u) (told g port.0.node x.full x.out))) same again,
        ap hushed quiet_u ∙ sym (ap hushed x.is),
      )
  from_other (happens (Flush p c)) s t out l event few does =
      let x = flushes_as g limit p c s t few does.ok in
      let told_there = ap (λ (y : State). y.printed) x.is ∙ ap (λ k. k ++ told g p x.some x.out) (flat_printed g p c x.some x.out s) in
      let same = cancel s.printed (told g p x.some x.out) out (sym told_there ∙ does.printed) in
      let u : State = record s { printed = l } in
      let quiet_u = flat_hushed g p c x.some x.out s l in
      let fine = subst (λ (y : State). y.sends ≤ limit) (sym quiet_u) x.within in (
        printing g (flat g p c x.some x.out u) (told g p x.some x.out),
        record {
          ok = x.again u refl refl fine;
          printed = ap (λ k. k ++ told g p x.some x.out) (flat_printed g p c x.some x.out u) ∙ ap (λ k. u.printed ++ k) same;
          within = fine;
        },
        ap hushed quiet_u ∙ sym (ap hushed x.is),
      )

  same_step : (item : Item) (s t u : State) (out : List PrintItem) → IsEvent item → s.sends ≤ limit → hushed s ≡ hushed u → DoesIt item s t out → SameStep item u t out
  same_step item s t u out event few same does =
      subst (λ (x : State). SameStep item x t out) (sym (same_state s u same)) (from_other item s t out u.printed event few does)

  -- ---- so many moves

  move_does : (e i j : ℕ) (s t : State) → s.sends ≤ limit → step_item g limit s (happens (Move e i j)) ≡ Ok t → (out : List PrintItem) × DoesIt (happens (Move e i j)) s t out
  move_does e i j s t few ok =
      let port = fed_by g limit e i j s t (g.fed e) refl ok in
      let m = moves_as g limit e i j port.0 port.1 s t few ok in
      (told g port.0.node m.full m.out, moves_does g limit e i j port.0 port.1 s t m ok)

  record Begun (e i j n : ℕ) (s t : State) (out : List PrintItem) : Type 0 where
    next : State
    first : List PrintItem
    left : List PrintItem
    does : DoesIt (happens (Move e i j)) s next first
    tells : TellsIt next (moves e i j n) t left
    parts : out ≡ first ++ left

  leads_tell : (e i j n : ℕ) (s t : State) → s.sends ≤ limit → Leads g limit s (moves e i j n) t → (out : List PrintItem) × TellsIt s (moves e i j n) t out
  leads_tell e i j zero s t few leads = ([], record { leads = leads; printed = sym (ap (λ (x : State). x.printed) leads) ∙ sym (append-nil s.printed) })
  leads_tell e i j (suc n) s t few leads =
      let one = move_does e i j s leads.0 few leads.1 in
      let rest = leads_tell e i j n leads.0 t one.1.within leads.2 in
      (one.0 ++ rest.0, record { leads = leads; printed = rest.1.printed ∙ ap (λ l. l ++ rest.0) one.1.printed ∙ append_assoc s.printed one.0 rest.0 })

  begun : (e i j n : ℕ) (s t : State) (out : List PrintItem) → s.sends ≤ limit → TellsIt s (moves e i j (suc n)) t out → Begun e i j n s t out
  begun e i j n s t out few tells =
      let leads = tells.leads in
      let one = move_does e i j s leads.0 few leads.1 in
      let rest = leads_tell e i j n leads.0 t one.1.within leads.2 in
      record {
        next = leads.0;
        first = one.0;
        left = rest.0;
        does = one.1;
        tells = rest.1;
        parts = cancel s.printed out (one.0 ++ rest.0) (sym tells.printed ∙ rest.1.printed ∙ ap (λ l. l ++ rest.0) one.1.printed ∙ append_assoc s.printed one.0 rest.0);
      }

  go_on : (e i j n : ℕ) (s u t : State) (first left : List PrintItem) → DoesIt (happens (Move e i j)) s u first → TellsIt u (moves e i j n) t left → TellsIt s (moves e i j (suc n)) t (first ++ left)
  go_on e i j n s u t first left does tells = record { leads = (u, does.ok, tells.leads); printed = tells.printed ∙ ap (λ l. l ++ left) does.printed ∙ append_assoc s.printed first left }

  -- none
  stays : (s t : State) (out : List PrintItem) → TellsIt s [] t out → out ≡ []
  stays s t out tells = nothing s.printed out (ap (λ (x : State). x.printed) tells.leads ∙ tells.printed)

  stays_at : (s : State) (out : List PrintItem) → out ≡ [] → TellsIt s [] s out
  stays_at s out none = record { leads = refl; printed = sym (append-nil s.printed) ∙ ap (λ l. s.printed ++ l) (sym none) }

  moves_within : (e i j n : ℕ) (s t : State) (out : List PrintItem) → s.sends ≤ limit → TellsIt s (moves e i j n) t out → t.sends ≤ limit
  moves_within e i j zero s t out few tells = subst (λ (x : State). x.sends ≤ limit) tells.leads few
  moves_within e i j (suc n) s t out few tells = let b = begun e i j n s t out few tells in moves_within e i j n b.next t b.left b.does.within b.tells

  same_moves : (e i j n : ℕ) (s t u : State) (out : List PrintItem) → s.sends ≤ limit → hushed s ≡ hushed u → TellsIt s (moves e i j n) t out → (next : State) × TellsIt u (moves e i j n) next out × (hushed next ≡ hushed t)
  same_moves e i j zero s t u out few same tells = (u, stays_at u out (stays s t out tells), sym same ∙ ap hushed tells.leads)
  same_moves e i j (suc n) s t u out few same tells =
      let b = begun e i j n s t out few tells in
      let one = same_step (happens (Move e i j)) s b.next u b.first tt few same b.does in
      let rest = same_moves e i j n b.next t one.0 b.left b.does.within (sym one.2) b.tells in
      (rest.0, subst (TellsIt u (moves e i j (suc n)) rest.0) (sym b.parts) (go_on e i j n u one.0 rest.0 b.first b.left one.1 rest.1), rest.2)

  record Past (item : Item) (items : List Item) (u w : State) (first out : List PrintItem) : Type 0 where
    between : State
    end : State
    sooner : DoesIt item u between first
    later : TellsIt between items end out
    same : hushed end ≡ hushed w

  past_none : (item : Item) (u v w : State) (first out : List PrintItem) → TellsIt u [] v out → DoesIt item v w first → Past item [] u w first out
  past_none item u v w first out tells does = record {
    between = w;
    end = w;
    sooner = subst (λ (x : State). DoesIt item x w first) (sym tells.leads) does;
    later = stays_at w out (stays u v out tells);
    same = refl;
  }

  past_moves : (item : Item) (e i j n : ℕ) (u v w : State) (first out : List PrintItem) → u.sends ≤ limit → ((feed : Feed) → g.fed e ≡ Some feed → IsApart g feed.node j item) → TellsIt u (moves e i j n) v out → DoesIt item v w first
      → Past item (moves e i j n) u w first out
  past_moves item e i j zero u v w first out few apart tells does = past_none item u v w first out tells does
  past_moves item e i j (suc n) u v w first out few apart tells does =
      let b = begun e i j n u v out few tells in
      let rest = past_moves item e i j n b.next v w first b.left b.does.within apart b.tells does in
      let sw = swap item e i j u b.next rest.between first b.first few b.does rest.sooner apart in
      let more = same_moves e i j n rest.between rest.end sw.end b.left rest.sooner.within (sym sw.same) rest.later in
      record {
        between = sw.between;
        end = more.0;
        sooner = sw.sooner;
        later = subst (TellsIt sw.between (moves e i j (suc n)) more.0) (sym b.parts) (go_on e i j n sw.between sw.end more.0 b.first b.left sw.later more.1);
        same = more.2 ∙ rest.same;
      }

  past_stage : (item : Item) (early : Bool) (stage : Stage) (count : ℕ) (u v w : State) (first out : List PrintItem) → u.sends ≤ limit → MayPassStage g item early stage → TellsIt u (made_of early stage count) v out → DoesIt item v w first
      → Past item (made_of early stage count) u w first out
  past_stage item true (delivers e i j) count u v w first out few may tells does = past_moves item e i j count u v w first out few may tells does
  past_stage item true (flushes v j) count u v' w first out few may tells does = past_none item u v' w first out tells does
  past_stage item false stage count u v w first out few may tells does = past_none item u v w first out tells does

  stage_within : (early : Bool) (stage : Stage) (count : ℕ) (s t : State) (out : List PrintItem) → s.sends ≤ limit → TellsIt s (made_of early stage count) t out → t.sends ≤ limit
  stage_within true (delivers e i j) count s t out few tells = moves_within e i j count s t out few tells
  stage_within true (flushes v j) count s t out few tells = subst (λ (x : State). x.sends ≤ limit) tells.leads few
  stage_within false stage count s t out few tells = subst (λ (x : State). x.sends ≤ limit) tells.leads few

  same_stage : (early : Bool) (stage : Stage) (count : ℕ) (s t u : State) (out : List PrintItem) → s.sends ≤ limit → hushed s ≡ hushed u → TellsIt s (made_of early stage count) t out
      → (next : State) × TellsIt u (made_of early stage count) next out × (hushed next ≡ hushed t)
  same_stage true (delivers e i j) count s t u out few same tells = same_moves e i j count s t u out few same tells
  same_stage true (flushes v j) count s t u out few same tells = (u, stays_at u out (stays s t out tells), sym same ∙ ap hushed tells.leads)
  same_stage false stage count s t u out few same tells = (u, stays_at u out (stays s t out tells), sym same ∙ ap hushed tells.leads)

  -- ---- an item goes before all that is made early

  made_same : (xs : List Early) (s t u : State) → s.sends ≤ limit → hushed s ≡ hushed u → Made g limit xs s t → Made g limit xs u t
  made_same [] s t u few same made = sym same ∙ made
  made_same (x ∷ xs) s t u few same made =
      let next = same_stage x.early x.stage x.count s made.0 u x.out few same made.1 in
      (next.0, next.1, made_same xs made.0 t next.0 (stage_within x.early x.stage x.count s made.0 x.out few made.1) (sym next.2) made.2)

  pub made_passes : (item : Item) (xs : List Early) (s t w : State) (out : List PrintItem) → IsEvent item → AllByRecursion (MayPass g item) xs → s.sends ≤ limit → Made g limit xs s t → DoesIt item t w out
      → (next : State) × DoesIt item s next out × Made g limit xs next w
  made_passes item [] s t w out event may few made does =
      let there = same_step item t w s out event (subst (λ (n : ℕ). n ≤ limit) (ap (λ (x : State). x.sends) made) few) (sym made) does in (there.0, there.1, there.2)
  made_passes item (x ∷ xs) s t w out event may few made does =
      let u = made.0 in
      let within = stage_within x.early x.stage x.count s u x.out few made.1 in
      let rest = made_passes item xs u t w out event may.1 within made.2 does in
      let past = past_stage item x.early x.stage x.count s u rest.0 out x.out few may.0 made.1 rest.1 in
      (past.between, past.sooner, (past.end, past.later, made_same xs rest.0 w past.end rest.1.within (sym past.same) rest.2))

  -- ---- so many moves go before all that is made early

  made_moves : (e i j n : ℕ) (xs : List Early) (s t w : State) (out : List PrintItem) → s.sends ≤ limit → t.sends ≤ limit → AllByRecursion (MayPass g (happens (Move e i j))) xs → Made g limit xs s t → TellsIt t (moves e i j n) w out
      → (next : State) × TellsIt s (moves e i j n) next out × Made g limit xs next w
  made_moves e i j zero xs s t w out few within may made tells = (s, stays_at s out (stays t w out tells), subst (Made g limit xs s) tells.leads made)
  made_moves e i j (suc n) xs s t w out few within may made tells =
      let b = begun e i j n t w out within tells in
      let one = made_passes (happens (Move e i j)) xs s t b.next b.first tt may few made b.does in
      let rest = made_moves e i j n xs one.0 b.next w b.left one.1.within b.does.within may one.2 b.tells in
      (rest.0, subst (TellsIt s (moves e i j (suc n)) rest.0) (sym b.parts) (go_on e i j n s one.0 rest.0 b.first b.left one.1 rest.1), rest.2)

  both_moves : (e i j m n all : ℕ) (s u t : State) (first left : List PrintItem) → all ≡ m + n → TellsIt s (moves e i j m) u first → TellsIt u (moves e i j n) t left → TellsIt s (moves e i j all) t (first ++ left)
  both_moves e i j m n all s u t first left is one two = record {
    leads = subst (λ items. Leads g limit s items t) (sym (moves_first e i j m n all is)) (leads_both g limit s (moves e i j m) (moves e i j n) u t one.leads two.leads);
    printed = two.printed ∙ ap (λ l. l ++ left) one.printed ∙ append_assoc s.printed first left;
  }

  -- ---- more moves of a stage are made early

  pub made_more : (e i j count n : ℕ) (o out : List PrintItem) (xs : List Early) (s t w : State) → s.sends ≤ limit → t.sends ≤ limit → AllByRecursion (MayPass g (happens (Move e i j))) xs
      → Made g limit (record { stage = delivers e i j; early = true; count = count; out = o } ∷ xs) s t → TellsIt t (moves e i j n) w out
      → Made g limit (record { stage = delivers e i j; early = true; count = count + n; out = o ++ out } ∷ xs) s w
  made_more e i j count n o out xs s t w few within may made tells =
      let rest = made_moves e i j n xs made.0 t w out (moves_within e i j count s made.0 o few made.1) within may made.2 tells in
      (rest.0, both_moves e i j count n (count + n) s made.0 rest.0 o out refl made.1 rest.1, rest.2)

  record IsLane (x : Early) (e i j : ℕ) : Type 0 where
    early : x.early ≡ true
    stage : x.stage ≡ delivers e i j

  more_of : (x : Early) (e i j n : ℕ) (out : List PrintItem) (xs : List Early) (s t w : State) → IsLane x e i j → s.sends ≤ limit → t.sends ≤ limit → AllByRecursion (MayPass g (stage_item x.stage)) xs
      → Made g limit (x ∷ xs) s t → TellsIt t (moves e i j n) w out → Made g limit (record x { count = x.count + n; out = x.out ++ out } ∷ xs) s w
  more_of x e i j n out xs s t w is few within may made tells =
      let lane : Stage → Bool → Early = λ stage early. record { stage = stage; early = early; count = x.count; out = x.out } in
      let more : Stage → Bool → Early = λ stage early. record { stage = stage; early = early; count = x.count + n; out = x.out ++ out } in
      let there : Made g limit (lane (delivers e i j) true ∷ xs) s t = subst (λ b. Made g limit (lane (delivers e i j) b ∷ xs) s t) is.early (subst (λ stage. Made g limit (lane stage x.early ∷ xs) s t) is.stage made) in
      let passes = subst (λ stage. AllByRecursion (MayPass g (stage_item stage)) xs) is.stage may in
      let made_so = made_more e i j x.count n x.out out xs s t w few within passes there tells in
      subst (λ stage. Made g limit (more stage x.early ∷ xs) s w) (sym is.stage) (subst (λ b. Made g limit (more (delivers e i j) b ∷ xs) s w) (sym is.early) made_so)

  pub made_bumped : (place : ℕ) (xs : List Early) (x : Early) (e i j n : ℕ) (out : List PrintItem) (s t w : State) → slice_get xs place ≡ Some x → x.early ≡ true → x.stage ≡ delivers e i j → AreOrdered g xs → s.sends ≤ limit → t.sends ≤ limit
      → Made g limit xs s t → TellsIt t (moves e i j n) w out → Made g limit (bumped place n out xs) s w
  made_bumped place [] x e i j n out s t w is early stage ordered few within made tells = absurd (none_at place is)
    where
      none_at : (place : ℕ) → (let none : List Early = [] in slice_get none place ≡ Some x) → ⊥
      none_at zero e = cc (e)
      none_at (suc n) e = cc (e)
  made_bumped zero (y ∷ xs) x e i j n out s t w is early stage ordered few within made tells =
      let same : y ≡ x = cc (is) in
      more_of y e i j n out xs s t w (record { early = ap (λ (z : Early). z.early) same ∙ early; stage = ap (λ (z : Early). z.stage) same ∙ stage }) few within ordered.0 made tells
  made_bumped (suc place) (y ∷ xs) x e i j n out s t w is early stage ordered few within made tells =
      (made.0, made.1, made_bumped place xs x e i j n out made.0 t w is early stage ordered.1 (stage_within y.early y.stage y.count s made.0 y.out few made.1) within made.2 tells)

  passes_bumped : (item : Item) (place n : ℕ) (out : List PrintItem) (xs : List Early) → AllByRecursion (MayPass g item) xs → AllByRecursion (MayPass g item) (bumped place n out xs)
  passes_bumped item place n out [] all = tt
  passes_bumped item zero n out (x ∷ xs) all = all
  passes_bumped item (suc place) n out (x ∷ xs) all = (all.0, passes_bumped item place n out xs all.1)

  pub ordered_bumped : (place n : ℕ) (out : List PrintItem) (xs : List Early) → AreOrdered g xs → AreOrdered g (bumped place n out xs)
  ordered_bumped place n out [] ordered = tt
  ordered_bumped zero n out (x ∷ xs) ordered = ordered
  ordered_bumped (suc place) n out (x ∷ xs) ordered = (passes_bumped (stage_item x.stage) place n out xs ordered.0, ordered_bumped place n out xs ordered.1)

  -- ---- what is in flight

  off_edge : IsWired g → (e : ℕ) (feed : Feed) → g.fed e ≡ Some feed → (e ≡ feed.node) → ⊥
  off_edge wired e feed fed same =
      let port = wired.feeds_port e feed fed in
      let before = wired.below feed.node feed.port port.0 in
      let is = port.1 in
      omega (arith, before, is, same)

  move_flight : IsWired g → (e i j : ℕ) (s t : State) (out : List PrintItem) → s.sends ≤ limit → DoesIt (happens (Move e i j)) s t out → length (s.flight e i j) ≡ suc (length (t.flight e i j))
  move_flight wired e i j s t out few does =
      let port = fed_by g limit e i j s t (g.fed e) refl does.ok in
      let m = moves_as g limit e i j port.0 port.1 s t few does.ok in
      let there : t.flight e i j ≡ m.rest =
      ap (λ (x : State). x.flight e i j) m.is ∙ done_flight g port.0.node j e i j m.full m.out (arrival port.0.port i m.change) (popped e i j s) (off_edge wired e port.0 port.1)
      ∙ popped_here g e i j s ∙ ap (drop 1) m.front in
      ap length m.front ∙ ap (λ l. suc (length l)) (sym there)

  moves_flight : IsWired g → (e i j n : ℕ) (s t : State) (out : List PrintItem) → s.sends ≤ limit → TellsIt s (moves e i j n) t out → length (s.flight e i j) ≡ n + length (t.flight e i j)
  moves_flight wired e i j zero s t out few tells = let same = ap (λ (x : State). length (x.flight e i j)) tells.leads in omega (arith, same)
  moves_flight wired e i j (suc n) s t out few tells =
      let b = begun e i j n s t out few tells in
      let one = move_flight wired e i j s b.next b.first few b.does in
      let rest = moves_flight wired e i j n b.next t b.left b.does.within b.tells in
      omega (arith, one, rest)

  other_flight : (e i j a b c : ℕ) (s t : State) (out : List PrintItem) → s.sends ≤ limit → ((feed : Feed) → g.fed a ≡ Some feed → IsApart g feed.node c (happens (Move e i j))) → DoesIt (happens (Move a b c)) s t out → s.flight e i j ≡ t.flight e i j
  other_flight e i j a b c s t out few apart does =
      let port = fed_by g limit a b c s t (g.fed a) refl does.ok in
      let m = moves_as g limit a b c port.0 port.1 s t few does.ok in
      let away = apart port.0 port.1 in
      sym (ap (λ (x : State). x.flight e i j) m.is ∙ done_flight g port.0.node c e i j m.full m.out (arrival port.0.port b m.change) (popped a b c s) away.0
      ∙ popped_off g a b c e i j s (λ q. away.1 port.0 (ap g.fed q.0 ∙ port.1) (refl, q.2)))

  others_flight : (e i j a b c n : ℕ) (s t : State) (out : List PrintItem) → s.sends ≤ limit → ((feed : Feed) → g.fed a ≡ Some feed → IsApart g feed.node c (happens (Move e i j))) → TellsIt s (moves a b c n) t out → s.flight e i j ≡ t.flight e i j
  others_flight e i j a b c zero s t out few apart tells = ap (λ (x : State). x.flight e i j) tells.leads
  others_flight e i j a b c (suc n) s t out few apart tells =
      let step = begun a b c n s t out few tells in
      other_flight e i j a b c s step.next step.first few apart step.does ∙ others_flight e i j a b c n step.next t step.left step.does.within apart step.tells

  stage_flight : (e i j : ℕ) (early : Bool) (stage : Stage) (count : ℕ) (s t : State) (out : List PrintItem) → s.sends ≤ limit → MayPassStage g (happens (Move e i j)) early stage → TellsIt s (made_of early stage count) t out
      → s.flight e i j ≡ t.flight e i j
  stage_flight e i j true (delivers a b c) count s t out few may tells = others_flight e i j a b c count s t out few may tells
  stage_flight e i j true (flushes v w) count s t out few may tells = ap (λ (x : State). x.flight e i j) tells.leads
  stage_flight e i j false stage count s t out few may tells = ap (λ (x : State). x.flight e i j) tells.leads

  made_flight : (e i j : ℕ) (xs : List Early) (s t : State) → s.sends ≤ limit → AllByRecursion (MayPass g (happens (Move e i j))) xs → Made g limit xs s t → s.flight e i j ≡ t.flight e i j
  made_flight e i j [] s t few may made = ap (λ (x : State). x.flight e i j) made
  made_flight e i j (x ∷ xs) s t few may made =
      stage_flight e i j x.early x.stage x.count s made.0 x.out few may.0 made.1
      ∙ made_flight e i j xs made.0 t (stage_within x.early x.stage x.count s made.0 x.out few made.1) may.1 made.2

  -- ---- a stage of the drain, of which some moves were made early

  abbrev StageDone : Stage → List PrintItem → List Early → State → State → Type 0
  StageDone stage out xs s w = (next : State) × TellsIt s (stage_items s stage) next out × Made g limit xs next w × (next.sends ≤ limit)

  lane_done : IsWired g → (e i j count : ℕ) (o out : List PrintItem) (xs : List Early) (s u t w : State) → s.sends ≤ limit → t.sends ≤ limit → AllByRecursion (MayPass g (happens (Move e i j))) xs → TellsIt s (moves e i j count) u o → Made g limit xs u t
      → TellsIt t (moves e i j (length (t.flight e i j))) w out → StageDone (delivers e i j) (o ++ out) xs s w
  lane_done wired e i j count o out xs s u t w few within may early made tells =
      let held = length (t.flight e i j) in
      let sent = moves_within e i j count s u o few early in
      let rest = made_moves e i j held xs u t w out sent within may made tells in
      let whole = both_moves e i j count held (count + held) s u rest.0 o out refl early rest.1 in
      let fine = moves_within e i j held u rest.0 out sent rest.1 in
      let there = moves_flight wired e i j (count + held) s rest.0 (o ++ out) few whole in
      let gone = moves_flight wired e i j held t w out within tells in
      let same = ap length (made_flight e i j xs rest.0 w fine may rest.2) in
      let all : count + held ≡ length (s.flight e i j) = omega (arith, there, gone, same) in
      (rest.0, subst (λ n. TellsIt s (moves e i j n) rest.0 (o ++ out)) all whole, rest.2, fine)

  flush_done : (v j : ℕ) (o out : List PrintItem) (xs : List Early) (s u t w : State) → s.sends ≤ limit → t.sends ≤ limit → AllByRecursion (MayPass g (happens (Flush v j))) xs → TellsIt s [] u o → Made g limit xs u t → TellsIt t (happens (Flush v j) ∷ []) w out
      → StageDone (flushes v j) (o ++ out) xs s w
  flush_done v j o out xs s u t w few within may early made tells =
      let ok : step_item g limit t (happens (Flush v j)) ≡ Ok w = tells.leads.1 ∙ ap (λ (y : State). (let r : Result State StepFault = Ok y in r)) tells.leads.2 in
      let x = flushes_as g limit v j t w within ok in
      let does : DoesIt (happens (Flush v j)) t w out = record { ok = ok; printed = tells.printed; within = subst (λ (y : State). y.sends ≤ limit) (sym x.is) x.within } in
      let start = subst (λ (y : State). y.sends ≤ limit) early.leads few in
      let there = made_passes (happens (Flush v j)) xs u t w out tt may start made does in
      let whole : TellsIt u (happens (Flush v j) ∷ []) there.0 out = record { leads = (there.0, there.1.ok, refl); printed = there.1.printed } in
      let none = stays s u o early in
      let from_start = subst (λ (y : State). TellsIt y (happens (Flush v j) ∷ []) there.0 out) (sym early.leads) whole in
      (there.0, subst (λ l. TellsIt s (happens (Flush v j) ∷ []) there.0 (l ++ out)) (sym none) from_start, there.2, there.1.within)

  stage_done : IsWired g → (early : Bool) (stage : Stage) (count : ℕ) (o out : List PrintItem) (xs : List Early) (s u t w : State) → s.sends ≤ limit → t.sends ≤ limit → AllByRecursion (MayPass g (stage_item stage)) xs
      → TellsIt s (made_of early stage count) u o → Made g limit xs u t → TellsIt t (stage_items t stage) w out → StageDone stage (o ++ out) xs s w
  stage_done wired true (delivers e i j) count o out xs s u t w few within may made others tells = lane_done wired e i j count o out xs s u t w few within may made others tells
  stage_done wired false (delivers e i j) count o out xs s u t w few within may made others tells = lane_done wired e i j 0 o out xs s u t w few within may made others tells
  stage_done wired true (flushes v j) count o out xs s u t w few within may made others tells = flush_done v j o out xs s u t w few within may made others tells
  stage_done wired false (flushes v j) count o out xs s u t w few within may made others tells = flush_done v j o out xs s u t w few within may made others tells

  pub made_stage : IsWired g → (x : Early) (xs : List Early) (s t w : State) (out : List PrintItem) → s.sends ≤ limit → t.sends ≤ limit → AreOrdered g (x ∷ xs) → Made g limit (x ∷ xs) s t → TellsIt t (stage_items t x.stage) w out
      → StageDone x.stage (x.out ++ out) xs s w
  made_stage wired x xs s t w out few within ordered made tells = stage_done wired x.early x.stage x.count x.out out xs s made.0 t w few within ordered.0 made.1 made.2 tells

  -- ---- a change is taken

  no_scan_if : (o : Option ℕ) (table : ℕ) (b : Bool) → is_number table o ≡ b → (b ≡ true → (number : ℕ) × (o ≡ Some number))
  no_scan_if None table b is told_so = absurd (false≢true (is ∙ told_so))
  no_scan_if (Some number) table b is told_so = (number, refl)

  no_scan : IsWired g → (e table : ℕ) (feed : Feed) → g.fed e ≡ Some feed → is_scan_of g table feed.node ≡ false
  no_scan wired e table feed fed = elim (cases_Bool (is_scan_of g table feed.node)) [
    | inl scans ↦
        let scan = no_scan_if (g.scans feed.node) table true scans refl in
        let none = wired.scan_ports feed.node scan.0 scan.1 in
        let port = (wired.feeds_port e feed fed).0 in
        absurd (omega (arith, none, port))
    | inr none ↦ none
  ]

  take_stage : IsWired g → (table : ℕ) (change : Change) (early : Bool) (stage : Stage) → MayPassStage g (happens (Take table change)) early stage
  take_stage wired table change true (delivers e i j) = λ feed fed. no_scan wired e table feed fed
  take_stage wired table change true (flushes v j) = tt
  take_stage wired table change false stage = tt

  takes_pass : IsWired g → (table : ℕ) (change : Change) (xs : List Early) → AllByRecursion (MayPass g (happens (Take table change))) xs
  takes_pass wired table change [] = tt
  takes_pass wired table change (x ∷ xs) = (take_stage wired table change x.early x.stage, takes_pass wired table change xs)

  -- where it is taken behind what was made early, it is taken before that
  pub record Taken (table : ℕ) (change : Change) (xs : List Early) (s w : State) : Type 0 where
    pub next : State
    pub ok : step_item g limit s (happens (Take table change)) ≡ Ok next
    pub silent : next.printed ≡ s.printed
    pub within : next.sends ≤ limit
    pub made : Made g limit xs next w

  pub made_takes : IsWired g → (table : ℕ) (change : Change) (xs : List Early) (s t w : State) → s.sends ≤ limit → Made g limit xs s t → step_item g limit t (happens (Take table change)) ≡ Ok w → Taken table change xs s w
  made_takes wired table change xs s t w few made ok =
      let x = takes_as g limit table change t w ok in
      let does : DoesIt (happens (Take table change)) t w [] = record {
        ok = ok;
        printed = ap (λ (y : State). y.printed) x.is ∙ sym (append-nil t.printed);
        within = subst (λ (y : State). y.sends ≤ limit) (sym x.is) x.within;
      } in
      let there = made_passes (happens (Take table change)) xs s t w [] tt (takes_pass wired table change xs) few made does in
      record { next = there.0; ok = there.1.ok; silent = there.1.printed ∙ append-nil s.printed; within = there.1.within; made = there.2 }
