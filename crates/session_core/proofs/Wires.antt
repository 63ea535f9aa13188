-- What the wiring says of an edge, of a channel and of a table.
use Rattle.std.proofs.Common.{◌≡◌, ℕ, zero, suc, ◌+◌, ◌<◌, ◌≤◌, nat_lt, ◌&&◌, true, false, cond, List, [], ◌∷◌, map, length, drop, get_or, slice_get, Option, Some, None, Err, sym, ap, subst, ◌∙◌, arith}
use Rattle.std.proofs.lemmas.Bool.{and_parts, ltb-true}
use Rattle.std.proofs.lemmas.Option.{slice_get-get_or}
use Rattle.ct_value.specs.declared.codes.OrderCode.TheVariants.{NoSuchPlace, TooFew}
use Rattle.stream_model.specs.declared.events.StepFault.TheVariants.{Order}
use Rattle.stream_model.specs.Tables.{Table}
use Rattle.stream_model.specs.Network.{Feed, Network, IsWired}
use Rattle.stream_model.specs.Machine.{State, has_channel, is_channel, move, move_front, move_to}
use Rattle.stream_model.specs.Looks.{flight_at, in_flight}
use Rattle.session_core.specs.declared.wiring.Stage.{Stage}
use Rattle.session_core.specs.declared.wiring.TableWiring.{TableWiring}
use Rattle.session_core.specs.declared.wiring.Wiring.{Wiring}
use Rattle.session_core.specs.LaidOut.{IsLaidOut, IsTable, IsTableIn, stage_of}

-- an edge that feeds a port
pub record IsFed (g : Network) (e : ℕ) (feed : Feed) : Type 0 where
  pub edge : e < g.count
  pub ports : 0 < g.ports feed.node
  pub node : feed.node ≤ g.count

pub fed_there : (g : Network) → IsWired g → (e : ℕ) (feed : Feed) → g.fed e ≡ Some feed → IsFed g e feed
fed_there g wired e feed q =
    let p = wired.feeds_port e feed q in
    let some : 0 < g.ports feed.node = omega (arith, p.0) in
    let low = wired.below feed.node feed.port p.0 in
    let top = wired.counted feed.node some in
    record { edge = omega (arith, p.1, low, top); ports = some; node = top }

pub channel_there : (g : Network) (e i j : ℕ) → is_channel g e i j ≡ true → (i < g.subtasks) × (j < g.subtasks)
channel_there g e i j q =
    let a = and_parts (nat_lt i g.subtasks) (nat_lt j g.subtasks && has_channel (g.edge e).exchange i j) q in
    (ltb-true i g.subtasks a.0, ltb-true j g.subtasks (and_parts (nat_lt j g.subtasks) (has_channel (g.edge e).exchange i j) a.1).0)

-- what stands at an index
pub get_at : {A : Type 0} (xs : List A) (n : ℕ) (x : A) → n < length xs → x ≡ get_or xs n x → slice_get xs n ≡ Some x
get_at xs n x within is = slice_get-get_or xs n x within ∙ ap Some (sym is)

-- ---- a move that can't be

module _ (g : Network) (limit : ℕ) (s : State) (e i j : ℕ) where
  pub move_unfed : g.fed e ≡ None → move g limit s e i j ≡ Err (Order NoSuchPlace)
  move_unfed fed = ap (move_to g limit s e i j) fed

  pub move_off : (feed : Feed) → g.fed e ≡ Some feed → is_channel g e i j ≡ false → move g limit s e i j ≡ Err (Order NoSuchPlace)
  move_off feed fed off = ap (move_to g limit s e i j) fed ∙ ap (λ b. cond b (move_front g limit s e i j feed (s.flight e i j)) (Err (Order NoSuchPlace))) off

  pub move_on : (feed : Feed) → g.fed e ≡ Some feed → is_channel g e i j ≡ true → move g limit s e i j ≡ move_front g limit s e i j feed (s.flight e i j)
  move_on feed fed on = ap (move_to g limit s e i j) fed ∙ ap (λ b. cond b (move_front g limit s e i j feed (s.flight e i j)) (Err (Order NoSuchPlace))) on

  pub move_empty : (feed : Feed) → g.fed e ≡ Some feed → is_channel g e i j ≡ true → s.flight e i j ≡ [] → move g limit s e i j ≡ Err (Order (TooFew 0))
  move_empty feed fed on none = move_on feed fed on ∙ ap (move_front g limit s e i j feed) none

  pub flight_unfed : g.fed e ≡ None → None ≡ in_flight g s e i j
  flight_unfed fed = sym (ap (flight_at g s e i j) fed)

  pub flight_off : (feed : Feed) → g.fed e ≡ Some feed → is_channel g e i j ≡ false → None ≡ in_flight g s e i j
  flight_off feed fed off = sym (ap (flight_at g s e i j) fed ∙ ap (λ b. cond b (Some (length (s.flight e i j))) None) off)

  pub flight_on : (feed : Feed) (n : ℕ) → g.fed e ≡ Some feed → is_channel g e i j ≡ true → n ≡ length (s.flight e i j) → Some n ≡ in_flight g s e i j
  flight_on feed n fed on is = ap Some is ∙ sym (ap (flight_at g s e i j) fed ∙ ap (λ b. cond b (Some (length (s.flight e i j))) None) on)

-- ---- the stages of a drain

drop_suc : (stages : List Stage) (n : ℕ) (stage : Stage) → n < length stages → stage ≡ get_or stages n stage → drop n (map stage_of stages) ≡ stage_of stage ∷ drop (suc n) (map stage_of stages)
drop_suc [] n stage within is = absurd (omega (arith, within))
drop_suc (x ∷ stages) zero stage within is = ap (λ y. stage_of y ∷ map stage_of stages) (sym is)
drop_suc (x ∷ stages) (suc n) stage within is = drop_suc stages n stage (omega (arith, within)) is

-- what is left of a drain at a stage
pub drop_stage : (stages : List Stage) (n : ℕ) (stage : Stage) → n < length stages → stage ≡ get_or stages n stage → drop n (map stage_of stages) ≡ stage_of stage ∷ drop (n + 1) (map stage_of stages)
drop_stage stages n stage within is = subst (λ m. drop n (map stage_of stages) ≡ stage_of stage ∷ drop m (map stage_of stages)) (let same : suc n ≡ n + 1 = omega arith in same) (drop_suc stages n stage within is)

-- ---- tables

pub is_table : (w : Wiring) (g : Network) (limit number : ℕ) (kept : TableWiring) (of : Table) → IsLaidOut w g limit → slice_get w.tables.items number ≡ Some kept → g.tables number ≡ Some of → IsTable g number kept of
is_table w g limit number kept of laid here there =
    subst (IsTableIn g number (Some kept)) there (subst (λ (k : Option TableWiring). IsTableIn g number k (g.tables number)) here (laid.tables number))

pub no_table : (w : Wiring) (g : Network) (limit number : ℕ) (of : Table) → IsLaidOut w g limit → slice_get w.tables.items number ≡ None → g.tables number ≡ Some of → ⊥
no_table w g limit number of laid here there =
    subst (IsTableIn g number None) there (subst (λ (k : Option TableWiring). IsTableIn g number k (g.tables number)) here (laid.tables number))
