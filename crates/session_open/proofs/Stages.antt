-- The stages of a drain, laid out one after the other.
use Rattle.std.proofs.Common.{◌≡◌, ℕ, zero, suc, ◌+◌, ◌<◌, nat_lt, Bool, true, false, cond, List, [], ◌∷◌, ◌++◌, map, refl, sym, ap, ◌∙◌, arith}
use Rattle.std.specs.List.{All}
use Rattle.std.proofs.lemmas.List.{append_assoc, append-nil}
use Rattle.std.proofs.lemmas.Bool.{lt-ltb}
use Rattle.std.proofs.lemmas.List.Elements.{All-append}
use Rattle.stream_model.specs.Network.{Network}
use Rattle.stream_model.specs.Machine.{is_channel, has_channel}
use Rattle.stream_model.specs.Drain.{Stage, delivers, flushes, channels_to, channels_from, channels_into, bundles_from, feeds_node, stages_from}
use Rattle.session_core.specs.declared.wiring.Stage as wiring
use Rattle.session_core.specs.declared.wiring.Stage.TheVariants.{Deliver, Flush}
use Rattle.session_core.specs.LaidOut.{IsStageThere, stage_of}
use Rattle.session_open.specs.Wired.{Lays, node_part}

-- a list of parts, each part behind those before it
parts_end : (F : ℕ → ℕ → List Stage) (part : ℕ → List Stage) → ((k : ℕ) → F k 0 ≡ []) → ((k n : ℕ) → F k (suc n) ≡ part k ++ F (k + 1) n) → (k n : ℕ) → F k (suc n) ≡ F k n ++ part (k + n)
parts_end F part none step k zero = step k 0 ∙ (ap (λ l. part k ++ l) (none (k + 1)) ∙ (append-nil (part k) ∙ (ap part (let e : k ≡ k + 0 = omega arith in e) ∙ ap (λ l. l ++ part (k + 0)) (sym (none k)))))
parts_end F part none step k (suc n) =
    step k (suc n)
    ∙ (ap (λ l. part k ++ l) (parts_end F part none step (k + 1) n)
    ∙ (sym (append_assoc (part k) (F (k + 1) n) (part (k + 1 + n)))
    ∙ (ap (λ l. l ++ part (k + 1 + n)) (sym (step k n))
    ∙ ap (λ m. F k (suc n) ++ part m) (let e : k + 1 + n ≡ k + suc n = omega arith in e))))

parts_next : (F : ℕ → ℕ → List Stage) (part : ℕ → List Stage) → ((k : ℕ) → F k 0 ≡ []) → ((k n : ℕ) → F k (suc n) ≡ part k ++ F (k + 1) n) → (k n : ℕ) → F k (n + 1) ≡ F k n ++ part (k + n)
parts_next F part none step k n = ap (F k) (let e : n + 1 ≡ suc n = omega arith in e) ∙ parts_end F part none step k n

module _ (g : Network) where
  pub to_next : (e i n : ℕ) → channels_to g e i 0 (n + 1) ≡ channels_to g e i 0 n ++ channels_to g e i n 1
  to_next e i n = parts_next (channels_to g e i) (λ j. channels_to g e i j 1) (λ k. refl) (λ k m. elim (is_channel g e i k) as (λ b. cond b (delivers e i k ∷ channels_to g e i (k + 1) m) (channels_to g e i (k + 1) m) ≡ cond b (delivers e i k ∷ []) [] ++ channels_to g e i (k + 1) m) [ true ↦ refl | false ↦ refl ]) 0 n
      ∙ ap (λ m. channels_to g e i 0 n ++ channels_to g e i m 1) (let same : 0 + n ≡ n = omega arith in same)

  pub from_next : (e n : ℕ) → channels_from g e 0 (n + 1) ≡ channels_from g e 0 n ++ channels_to g e n 0 g.subtasks
  from_next e n = parts_next (channels_from g e) (λ i. channels_to g e i 0 g.subtasks) (λ k. refl) (λ k m. refl) 0 n
      ∙ ap (λ m. channels_from g e 0 n ++ channels_to g e m 0 g.subtasks) (let same : 0 + n ≡ n = omega arith in same)

  abbrev pub edge_part : ℕ → ℕ → List Stage
  edge_part v e = cond (feeds_node v (g.fed e)) (channels_from g e 0 g.subtasks) []

  pub into_next : (v n : ℕ) → channels_into g v 1 (n + 1) ≡ channels_into g v 1 n ++ edge_part v (1 + n)
  into_next v n = parts_next (channels_into g v) (edge_part v) (λ k. refl) (λ k m. elim (feeds_node v (g.fed k)) as (λ b. cond b (channels_from g k 0 g.subtasks ++ channels_into g v (k + 1) m) (channels_into g v (k + 1) m) ≡ cond b (channels_from g k 0 g.subtasks) [] ++ channels_into g v (k + 1) m) [ true ↦ refl | false ↦ refl ]) 1 n

  pub stages_next : (n : ℕ) → stages_from g 1 (n + 1) ≡ stages_from g 1 n ++ node_part g (1 + n)
  stages_next n = parts_next (stages_from g) (node_part g) (λ k. refl) (λ k m. refl) 1 n

  pub bundles_next : (v n : ℕ) → bundles_from v 0 (n + 1) ≡ bundles_from v 0 n ++ flushes v n ∷ []
  bundles_next v n = parts_next (bundles_from v) (λ j. flushes v j ∷ []) (λ k. refl) (λ k m. refl) 0 n
      ∙ ap (λ m. bundles_from v 0 n ++ flushes v m ∷ []) (let same : 0 + n ≡ n = omega arith in same)

  -- nothing laid
  pub lays_none : (stages : List wiring.Stage) → Lays g stages stages []
  lays_none stages = record { laid = sym (append-nil (map stage_of stages)); there = λ all. all }

  -- one part more
  pub lays_more : (old now new : List wiring.Stage) (before part after : List Stage) → Lays g old now before → Lays g now new part → after ≡ before ++ part → Lays g old new after
  lays_more old now new before part after first second is = record {
    laid = second.laid ∙ (ap (λ l. l ++ part) first.laid ∙ (append_assoc (map stage_of old) before part ∙ ap (λ l. map stage_of old ++ l) (sym is)));
    there = λ all. second.there (first.there all);
  }

  map_push : (stages : List wiring.Stage) (stage : wiring.Stage) → map stage_of (stages ++ stage ∷ []) ≡ map stage_of stages ++ stage_of stage ∷ []
  map_push [] stage = refl
  map_push (x ∷ stages) stage = ap (λ l. stage_of x ∷ l) (map_push stages stage)

  channel_is : (e i j : ℕ) → i < g.subtasks → j < g.subtasks → (b : Bool) → b ≡ has_channel (g.edge e).exchange i j → is_channel g e i j ≡ b
  channel_is e i j li lj b is =
      let p : nat_lt i g.subtasks ≡ true = lt-ltb i g.subtasks li in
      let q : nat_lt j g.subtasks ≡ true = lt-ltb j g.subtasks lj in
      rw (p, q) (sym is)

  -- a channel that the edge has
  pub lays_channel : (stages : List wiring.Stage) (e i j : ℕ) → e < g.count + 1 → i < g.subtasks → j < g.subtasks → true ≡ has_channel (g.edge e).exchange i j
      → Lays g stages (stages ++ Deliver (record { edge = e; from = i; to = j }) ∷ []) (channels_to g e i j 1)
  lays_channel stages e i j le li lj is = record {
    laid = map_push stages (Deliver (record { edge = e; from = i; to = j })) ∙ ap (λ b. map stage_of stages ++ cond b (delivers e i j ∷ []) []) (sym (channel_is e i j li lj true is));
    there = λ all. All-append (IsStageThere g) stages (Deliver (record { edge = e; from = i; to = j }) ∷ []) all (one (Deliver (record { edge = e; from = i; to = j })) (record { edge = le; from = li; to = lj }));
  }
    where
      one : (stage : wiring.Stage) → IsStageThere g stage → All (IsStageThere g) (stage ∷ [])
      one stage h zero d l = h
      one stage h (suc k) d l = absurd (omega (arith, l))

  -- a bundle
  pub lays_bundle : (stages : List wiring.Stage) (v j : ℕ) → Lays g stages (stages ++ Flush v j ∷ []) (flushes v j ∷ [])
  lays_bundle stages v j = record {
    laid = map_push stages (Flush v j);
    there = λ all. All-append (IsStageThere g) stages (Flush v j ∷ []) all flush_there;
  }
    where
      flush_there : All (IsStageThere g) (Flush v j ∷ [])
      flush_there zero d l = tt
      flush_there (suc k) d l = absurd (omega (arith, l))

  -- one that it doesn't have
  pub lays_no_channel : (stages : List wiring.Stage) (e i j : ℕ) → i < g.subtasks → j < g.subtasks → false ≡ has_channel (g.edge e).exchange i j → Lays g stages stages (channels_to g e i j 1)
  lays_no_channel stages e i j li lj is = record {
    laid = sym (append-nil (map stage_of stages)) ∙ ap (λ b. map stage_of stages ++ cond b (delivers e i j ∷ []) []) (sym (channel_is e i j li lj false is));
    there = λ all. all;
  }
