-- Runs one after the other, and the stages of a drain.
use Rattle.std.proofs.Common.{◌≡◌, ℕ, zero, suc, ◌+◌, ◌≤◌, List, [], ◌∷◌, ◌++◌, length, drop, Ok, refl, sym, ap, subst, ◌∙◌, arith, inl, inr}
use Rattle.stream_model.specs.declared.events.Event.TheVariants.{Move}
use Rattle.stream_model.specs.declared.events.StepFault.{StepFault}
use Rattle.stream_model.specs.declared.events.PrintItem.{PrintItem}
use Rattle.stream_model.specs.Network.{Network}
use Rattle.stream_model.specs.Machine.{State, step}
use Rattle.stream_model.specs.Runs.{Item, quiet, state_in, step_item, after, AreTyped}
use Rattle.stream_model.specs.Drain.{Leads, StopsBy, StopsAlong, Stage, delivers, flushes, moves, stage_items, drain_stages, stages, drain}

module _ (g : Network) (limit : ℕ) where
  pub leads-append : (s : State) (front : List Item) (t : State) (back : List Item) (u : State) → Leads g limit s front t → Leads g limit t back u → Leads g limit s (front ++ back) u
  leads-append s [] t back u e more = subst (λ t. Leads g limit t back u) (sym e) more
  leads-append s (item ∷ front) t back u h more = (h.0, h.1, leads-append h.0 front t back u h.2 more)

  -- the state that items lead to
  pub after_leads : (s : State) (items : List Item) (t : State) → Leads g limit s items t → after g limit s items ≡ t
  after_leads s [] t e = e
  after_leads s (item ∷ items) t h = ap (λ r. after g limit (state_in s r) items) h.1 ∙ after_leads h.0 items t h.2

  pub after-append : (s : State) (xs ys : List Item) → after g limit s (xs ++ ys) ≡ after g limit (after g limit s xs) ys
  after-append s [] ys = refl
  after-append s (x ∷ xs) ys = after-append (state_in s (step_item g limit s x)) xs ys

  -- one more move from a channel
  leads_suc : (e i j n : ℕ) (s t u : State) → Leads g limit s (moves e i j n) t → step g limit t (Move e i j) ≡ Ok u → Leads g limit s (moves e i j (suc n)) u
  leads_suc e i j zero s t u h more = (u, subst (λ t. step g limit t (Move e i j) ≡ Ok u) (sym h) more, refl)
  leads_suc e i j (suc n) s t u h more = (h.0, h.1, leads_suc e i j n h.0 t u h.2 more)

  pub leads_move : (e i j n : ℕ) (s t u : State) → Leads g limit s (moves e i j n) t → step g limit t (Move e i j) ≡ Ok u → Leads g limit s (moves e i j (n + 1)) u
  leads_move e i j n s t u h more = subst (λ k. Leads g limit s (moves e i j k) u) (let same : suc n ≡ n + 1 = omega arith in same) (leads_suc e i j n s t u h more)

  -- a move that can't be, after some that can
  pub stops_move : (e i j n m : ℕ) (s t : State) (fault : StepFault) (printed : List PrintItem) → Leads g limit s (moves e i j n) t → StopsBy (step g limit t (Move e i j)) fault → t.printed ≡ printed → StopsAlong g limit s (moves e i j (n + suc m)) fault printed
  stops_move e i j zero m s t fault printed h stop out =
      let p : StopsAlong g limit s (moves e i j (suc m)) fault printed = inl (subst (λ t. StopsBy (step g limit t (Move e i j)) fault) (sym h) stop, ap State.printed h ∙ out) in
      subst (λ k. StopsAlong g limit s (moves e i j k) fault printed) (let same : suc m ≡ 0 + suc m = omega arith in same) p
  stops_move e i j (suc n) m s t fault printed h stop out =
      let p : StopsAlong g limit s (moves e i j (suc (n + suc m))) fault printed = inr (h.0, h.1, stops_move e i j n m h.0 t fault printed h.2 stop out) in
      subst (λ k. StopsAlong g limit s (moves e i j k) fault printed) (let same : suc (n + suc m) ≡ suc n + suc m = omega arith in same) p

  pub stops_behind : (s : State) (front : List Item) (t : State) (back : List Item) (fault : StepFault) (printed : List PrintItem) → Leads g limit s front t → StopsAlong g limit t back fault printed → StopsAlong g limit s (front ++ back) fault printed
  stops_behind s [] t back fault printed e stop = subst (λ t. StopsAlong g limit t back fault printed) (sym e) stop
  stops_behind s (item ∷ front) t back fault printed h stop = inr (h.0, h.1, stops_behind h.0 front t back fault printed h.2 stop)

  pub stops_before : (s : State) (front back : List Item) (fault : StepFault) (printed : List PrintItem) → StopsAlong g limit s front fault printed → StopsAlong g limit s (front ++ back) fault printed
  stops_before s [] back fault printed stop = absurd stop
  stops_before s (item ∷ front) back fault printed (inl here) = inl here
  stops_before s (item ∷ front) back fault printed (inr later) = inr (later.0, later.1, stops_before later.0 front back fault printed later.2)

-- ---- items that take nothing

pub typed_moves : (g : Network) (e i j n : ℕ) → AreTyped g (moves e i j n)
typed_moves g e i j zero = tt
typed_moves g e i j (suc n) = (tt, typed_moves g e i j n)

pub typed-append : (g : Network) (xs ys : List Item) → AreTyped g xs → AreTyped g ys → AreTyped g (xs ++ ys)
typed-append g [] ys h k = k
typed-append g (x ∷ xs) ys h k = (h.0, typed-append g xs ys h.1 k)

typed_stage : (g : Network) (s : State) (stage : Stage) → AreTyped g (stage_items s stage)
typed_stage g s (delivers e i j) = typed_moves g e i j (length (s.flight e i j))
typed_stage g s (flushes v j) = (tt, tt)

typed_stages : (g : Network) (limit : ℕ) (s : State) (stages : List Stage) → AreTyped g (drain_stages g limit s stages)
typed_stages g limit s [] = tt
typed_stages g limit s (stage ∷ stages) = typed-append g (stage_items s stage) (drain_stages g limit (after g limit s (stage_items s stage)) stages) (typed_stage g s stage) (typed_stages g limit (after g limit s (stage_items s stage)) stages)

pub typed_drain : (g : Network) (limit : ℕ) (s : State) → AreTyped g (drain g limit s)
typed_drain g limit s = typed-append g (drain_stages g limit s (stages g)) (quiet ∷ []) (typed_stages g limit s (stages g)) (tt, tt)

pub drop_all : {A : Type 0} (xs : List A) (n : ℕ) → length xs ≤ n → drop n xs ≡ []
drop_all [] zero h = refl
drop_all [] (suc n) h = refl
drop_all (x ∷ xs) zero h = absurd (omega (arith, h))
drop_all (x ∷ xs) (suc n) h = drop_all xs n (omega (arith, h))
