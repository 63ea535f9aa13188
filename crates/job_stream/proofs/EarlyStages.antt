-- The stages of a drain stand in the order of their nodes: so what one does may pass what one behind it does early, where that has another
-- subtask.
use Rattle.std.specs.Prelude.{◌≡◌, ℕ, ◌≤◌, ◌+◌, Bool, cond, List, ◌++◌, drop, take, Option}
use Rattle.std.proofs.Common.{arith, true, false, zero, suc, [], ◌∷◌, refl, sym, ap, subst, ◌∙◌, Some, None}
use Rattle.std.proofs.lemmas.Bool.{eqb-true, false≢true}
use Rattle.std.specs.List.{AllByRecursion}
use Rattle.sound_plans.proofs.laws.SentTypes.{all_both}
use Rattle.stream_model.specs.Network.{Feed, Network, IsWired}
use Rattle.stream_model.specs.Machine.{is_channel}
use Rattle.stream_model.specs.Drain.{Stage, delivers, flushes, bundles_at, bundles_from, channels_from, channels_into, channels_to, feeds_node, stages, stages_from}
use Rattle.run_laws.specs.Early.{AreOrdered, Early, MayPass, MayPassStage, stage_item}
use Rattle.session_core.specs.LaidOut.{fed_at, taker_of}

pub all_weaker : {A : Type 0} (P Q : A → Type 0) (xs : List A) → ((x : A) → P x → Q x) → AllByRecursion P xs → AllByRecursion Q xs
all_weaker P Q [] f h = tt
all_weaker P Q (x ∷ xs) f h = (f x h.0, all_weaker P Q xs f h.1)

all_there : {A : Type 0} (P : A → Type 0) (xs : List A) (n : ℕ) (x : A) (rest : List A) → AllByRecursion P xs → drop n xs ≡ x ∷ rest → P x
all_there P [] zero x rest h is = absurd (cc (is))
all_there P [] (suc n) x rest h is = absurd (cc (is))
all_there P (y ∷ xs) zero x rest h is = let same : y ≡ x = cc (is) in subst P same h.0
all_there P (y ∷ xs) (suc n) x rest h is = all_there P xs n x rest h.1 is

module _ (g : Network) where
  -- the node whose subtask a stage has is this, or stands no earlier
  abbrev AtNode : ℕ → Stage → Type 0
  AtNode v (delivers e i j) = (feed : Feed) × (g.fed e ≡ Some feed) × (feed.node ≡ v)
  AtNode v (flushes w j) = w ≡ v

  abbrev FromNode : ℕ → Stage → Type 0
  FromNode v (delivers e i j) = (feed : Feed) × (g.fed e ≡ Some feed) × (v ≤ feed.node)
  FromNode v (flushes w j) = v ≤ w

  from_at : (v : ℕ) (stage : Stage) → AtNode v stage → FromNode v stage
  from_at v (delivers e i j) at = let same = at.2 in (at.0, at.1, omega (arith, same))
  from_at v (flushes w j) at = omega (arith, at)

  from_less : (v : ℕ) (stage : Stage) → FromNode (v + 1) stage → FromNode v stage
  from_less v (delivers e i j) from = let more = from.2 in (from.0, from.1, omega (arith, more))
  from_less v (flushes w j) from = omega (arith, from)

  -- ---- the stages of a node

  at_next : (v e i j : ℕ) (others : List Stage) (feed : Feed) (b : Bool) → g.fed e ≡ Some feed → feed.node ≡ v → AllByRecursion (AtNode v) others → AllByRecursion (AtNode v) (cond b (delivers e i j ∷ others) others)
  at_next v e i j others feed true fed is h = ((feed, fed, is), h)
  at_next v e i j others feed false fed is h = h

  at_to : (v e i j n : ℕ) (feed : Feed) → g.fed e ≡ Some feed → feed.node ≡ v → AllByRecursion (AtNode v) (channels_to g e i j n)
  at_to v e i j zero feed fed is = tt
  at_to v e i j (suc n) feed fed is = at_next v e i j (channels_to g e i (j + 1) n) feed (is_channel g e i j) fed is (at_to v e i (j + 1) n feed fed is)

  at_froms : (v e i n : ℕ) (feed : Feed) → g.fed e ≡ Some feed → feed.node ≡ v → AllByRecursion (AtNode v) (channels_from g e i n)
  at_froms v e i zero feed fed is = tt
  at_froms v e i (suc n) feed fed is = all_both (AtNode v) (channels_to g e i 0 g.subtasks) (channels_from g e (i + 1) n) (at_to v e i 0 g.subtasks feed fed is) (at_froms v e (i + 1) n feed fed is)

  at_edge : (v e : ℕ) (others : List Stage) (o : Option Feed) (b : Bool) → g.fed e ≡ o → feeds_node v o ≡ b → AllByRecursion (AtNode v) others → AllByRecursion (AtNode v) (cond b (channels_from g e 0 g.subtasks ++ others) others)
  at_edge v e others o false fed is h = h
  at_edge v e others None true fed is h = absurd (false≢true is)
  at_edge v e others (Some feed) true fed is h = all_both (AtNode v) (channels_from g e 0 g.subtasks) others (at_froms v e 0 g.subtasks feed fed (eqb-true feed.node v is)) h

  at_into : (v e n : ℕ) → AllByRecursion (AtNode v) (channels_into g v e n)
  at_into v e zero = tt
  at_into v e (suc n) = at_edge v e (channels_into g v (e + 1) n) (g.fed e) (feeds_node v (g.fed e)) refl refl (at_into v (e + 1) n)

  at_bundles : (v j n : ℕ) → AllByRecursion (AtNode v) (bundles_from v j n)
  at_bundles v j zero = tt
  at_bundles v j (suc n) = (refl, at_bundles v (j + 1) n)

  at_bundle : (v : ℕ) (o : Option ℕ) → AllByRecursion (AtNode v) (bundles_at g v o)
  at_bundle v None = tt
  at_bundle v (Some size) = at_bundles v 0 g.subtasks

  -- ---- all of them

  abbrev Sorted : List Stage → Type 0
  Sorted [] = Unit {0}
  Sorted (x ∷ xs) = (v : ℕ) × AtNode v x × AllByRecursion (FromNode v) xs × Sorted xs

  sorted_both : (v : ℕ) (xs ys : List Stage) → AllByRecursion (AtNode v) xs → AllByRecursion (FromNode v) ys → Sorted ys → Sorted (xs ++ ys)
  sorted_both v [] ys at from sorted = sorted
  sorted_both v (x ∷ xs) ys at from sorted = (v, at.0, all_both (FromNode v) xs ys (all_weaker (AtNode v) (FromNode v) xs (from_at v) at.1) from, sorted_both v xs ys at.1 from sorted)

  abbrev OfNode : ℕ → List Stage
  OfNode v = channels_into g v 1 g.count ++ bundles_at g v (g.bundle v)

  at_node : (v : ℕ) → AllByRecursion (AtNode v) (OfNode v)
  at_node v = all_both (AtNode v) (channels_into g v 1 g.count) (bundles_at g v (g.bundle v)) (at_into v 1 g.count) (at_bundle v (g.bundle v))

  from_stages : (v n : ℕ) → AllByRecursion (FromNode v) (stages_from g v n)
  from_stages v zero = tt
  from_stages v (suc n) =
      all_both (FromNode v) (OfNode v) (stages_from g (v + 1) n) (all_weaker (AtNode v) (FromNode v) (OfNode v) (from_at v) (at_node v))
      (all_weaker (FromNode (v + 1)) (FromNode v) (stages_from g (v + 1) n) (from_less v) (from_stages (v + 1) n))

  pub sorted_stages : (v n : ℕ) → Sorted (stages_from g v n)
  sorted_stages v zero = tt
  sorted_stages v (suc n) =
      sorted_both v (OfNode v) (stages_from g (v + 1) n) (at_node v) (all_weaker (FromNode (v + 1)) (FromNode v) (stages_from g (v + 1) n) (from_less v) (from_stages (v + 1) n)) (sorted_stages (v + 1) n)

  abbrev pub IsBefore : Stage → Stage → Type 0
  IsBefore stage other = (v : ℕ) × AtNode v other × FromNode v stage

  pub before : (all : List Stage) (n : ℕ) (stage : Stage) (rest : List Stage) → Sorted all → drop n all ≡ stage ∷ rest → AllByRecursion (IsBefore stage) (take n all)
  before all zero stage rest sorted is = tt
  before [] (suc n) stage rest sorted is = tt
  before (x ∷ xs) (suc n) stage rest sorted is = ((sorted.0, sorted.1, all_there (FromNode sorted.0) xs n stage rest sorted.2 is), before xs n stage rest sorted.3 is)

  -- ---- so it may pass

  abbrev HasOther : Stage → Stage → Type 0
  HasOther stage other = (v j : ℕ) → taker_of g stage ≡ Some (v, j) → taker_of g other ≡ Some (v, j) → ⊥

  pub passes : IsWired g → (other stage : Stage) (early : Bool) → IsBefore stage other → (early ≡ true → HasOther stage other) → MayPassStage g (stage_item other) early stage
  passes wired other stage false is apart = tt
  passes wired other (flushes w k) true is apart = tt
  passes wired (delivers a b c) (delivers e i j) true is apart = λ feed fed. (
    λ same.
        let one = is.1 in
        let two = is.2 in
        let port = wired.feeds_port a one.0 one.1 in
        let below = wired.below one.0.node one.0.port port.0 in
        let from = port.1 in
        let there : Some two.0 ≡ Some feed = sym two.1 ∙ fed in
        let node : two.0.node ≡ feed.node = let f : two.0 ≡ feed = cc (there) in ap (λ (x : Feed). x.node) f in
        let at = one.2 in
        let more = two.2 in
        omega (arith, below, from, same, node, at, more),
    λ port fed_too both.
        apart refl feed.node j (ap (fed_at j) fed) (ap (fed_at c) fed_too ∙ ap (λ v. Some (v, c)) both.0 ∙ ap (λ k. Some (feed.node, k)) both.1),
  )
  passes wired (flushes w k) (delivers e i j) true is apart = λ feed fed both.
      apart refl feed.node j (ap (fed_at j) fed) (ap (λ v. Some (v, k)) both.0 ∙ ap (λ n. Some (feed.node, n)) both.1)

  pub ordered_push : (xs : List Early) (x : Early) → AreOrdered g xs → AllByRecursion (λ y. MayPass g (stage_item y.stage) x) xs → AreOrdered g (xs ++ x ∷ [])
  ordered_push [] x ordered may = (tt, tt)
  ordered_push (y ∷ xs) x ordered may = (all_both (MayPass g (stage_item y.stage)) xs (x ∷ []) ordered.0 (may.0, tt), ordered_push xs x ordered.1 may.1)
