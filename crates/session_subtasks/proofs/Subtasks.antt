-- One subtask takes a change, holds it, or folds what it holds.
use Rattle.std.proofs.Common.{◌≡◌, ℕ, ◌+◌, ◌<◌, ◌==◌, nat_le, Bool, true, false, List, [], ◌∷◌, ◌++◌, length, map, Option, Some, None, Ok, Err, refl, sym, ap, subst, ◌∙◌, arith}
use Rattle.std.proofs.lemmas.List.{append_assoc, append-nil, length-append, length-map}
use Rattle.std.proofs.lemmas.Bool.{false≢true, le-leb, lt-leb}
use Rattle.std.proofs.lemmas.Option.{none-some}
use Rattle.ct_value.specs.declared.row.Row.{Row}
use Rattle.ct_change.specs.declared.change.Change.{Change}
use Rattle.op_rules.specs.History.{Arrival, arrival}
use Rattle.op_rules.specs.Rules.{Rule, Answer, MayArrive, MayTakePiece}
use Rattle.op_rules.specs.Ports.{TakesAll}
use Rattle.op_rules.specs.Tasks.{IsReady}
use Rattle.op_rules.proofs.laws.Ready.{ready_arrives}
use Rattle.stream_model.specs.Network.{Network, task}
use Rattle.stream_model.specs.Machine.{size_of}
use Rattle.session_subtasks.specs.declared.subtask.Subtask.{Subtask}
use Rattle.session_subtasks.specs.Subtasks.{HasRun, IsOutOf, MayConsume, MayFlush, RunsAs, StandsAs, holds_some, is_full}
use Rattle.session_subtasks.proofs.Pieces.{piece_arrives}

abbrev change_of : Arrival → Change
change_of a = a.change

some_none : {n : ℕ} {x : Option ℕ} → None ≡ x → x ≡ Some n → ⊥
some_none p q = none-some _ (p ∙ q)

map_push : (xs : List Arrival) (a : Arrival) → map change_of (xs ++ a ∷ []) ≡ map change_of xs ++ a.change ∷ []
map_push [] a = refl
map_push (x ∷ xs) a = ap (λ l. x.change ∷ l) (map_push xs a)

pub nothing_held : (bundle : List Arrival) (held : List Change) → map change_of bundle ≡ held → length held ≡ 0 → bundle ≡ []
nothing_held [] held is none = refl
nothing_held (a ∷ bundle) held is none = absurd (let e : length (map change_of (a ∷ bundle)) ≡ 0 = ap length is ∙ none in omega (arith, e))

pub something_held : (bundle : List Arrival) (held : List Change) → map change_of bundle ≡ held → (length held == 0) ≡ false → holds_some bundle ≡ true
something_held [] held is some = absurd (false≢true (sym some ∙ ap (λ (l : List Change). length l == 0) (sym is)))
something_held (a ∷ bundle) held is some = refl

module _ {O : Type 0} (rule_is : O → Rule) (is_broken : O → Bool) (stands : O → List Arrival → Type 0) (takes_pieces : O → Bool) where
  -- an operator that took more by the same rule
  pub runs_on : (g : Network) (v : ℕ) (old new : O) (before after : List Arrival) → RunsAs rule_is is_broken stands takes_pieces g v old before → rule_is new ≡ rule_is old → is_broken new ≡ false
      → ((size : ℕ) → g.bundle v ≡ Some size → takes_pieces new ≡ true) → stands new after → RunsAs rule_is is_broken stands takes_pieces g v new after
  runs_on g v old new before after runs same whole pieces now = record {
    emits = ap (λ (r : Rule). r.emits) same ∙ runs.emits;
    opens = ap (λ (r : Rule). r.opening) same ∙ runs.opens;
    takes = subst (λ (r : Rule). TakesAll r (task g v)) (sym same) runs.takes;
    whole = whole;
    stands_for = now;
    pieces = pieces;
  }

  abbrev Stands : Network → ℕ → Subtask O → List Arrival → List Arrival → Type 0
  Stands = StandsAs rule_is is_broken stands takes_pieces

  abbrev Run : Bool → Network → ℕ → Subtask O → List Arrival → List Arrival → Option (List Change) → Type 0
  Run = HasRun rule_is is_broken stands takes_pieces

  pub run_as : (due due' : Bool) (g : Network) (v : ℕ) (new : Subtask O) (history bundle : List Arrival) (sent : Option (List Change)) → due' ≡ due → Run due g v new history bundle sent → Run due' g v new history bundle sent
  run_as due due' g v new history bundle sent same = subst (λ (d : Bool). Run d g v new history bundle sent) (sym same)

  -- ---- a node that keeps no bundles

  module _ (old : Subtask O) (port : ℕ) (change : Change) (g : Network) (v j : ℕ) (history bundle : List Arrival) (from : ℕ) (m : MayConsume rule_is is_broken stands takes_pieces old None port change g v j history bundle from) where
    abbrev a : Arrival
    a = arrival port from change

    none : bundle ≡ []
    none = m.stands_as.alone (sym m.size_is)

    same : history ++ bundle ≡ history
    same = ap (λ (l : List Arrival). history ++ l) none ∙ append-nil history

    pub alone_arrives : MayArrive (rule_is old.operator) history a
    alone_arrives = ready_arrives (rule_is old.operator) (task g v) m.stands_as.runs.takes j history a (subst (λ (l : List Arrival). IsReady (task g v) j (l ++ a ∷ [])) same m.may.ready)

    pub alone_few : length history + 1 < 4294967296
    alone_few = subst (λ (l : List Arrival). length l + 1 < 4294967296) same m.may.few

    one : bundle ++ a ∷ [] ≡ a ∷ []
    one = ap (λ (l : List Arrival). l ++ a ∷ []) none

    full : is_full g v (bundle ++ a ∷ []) ≡ true
    full = ap (λ (b : Option ℕ). nat_le (size_of b) (length (bundle ++ a ∷ []))) (sym m.size_is) ∙ ap (λ (l : List Arrival). nat_le 1 (length l)) one

    emits_is : (answer : Answer) → (rule_is old.operator).emits history (a ∷ []) ≡ answer → g.emits v history (bundle ++ a ∷ []) ≡ answer
    emits_is answer is = ap (g.emits v history) one ∙ (sym (ap (λ (f : List Arrival → List Arrival → Answer). f history (a ∷ [])) m.stands_as.runs.emits) ∙ is)

    pub alone_ok : (new : Subtask O) (sent : List Change) → rule_is new.operator ≡ rule_is old.operator → is_broken new.operator ≡ false → new.held ≡ old.held
        → (rule_is old.operator).emits history (a ∷ []) ≡ Ok sent → stands new.operator (history ++ a ∷ []) → Run (is_full g v (bundle ++ a ∷ [])) g v new history (bundle ++ a ∷ []) (Some sent)
    alone_ok new sent rule whole held told now = (
      full,
      emits_is (Ok sent) told,
      record {
        node = m.stands_as.node;
        runs = runs_on g v old.operator new.operator history (history ++ (bundle ++ a ∷ [])) m.stands_as.runs rule whole (λ size some. absurd (some_none m.size_is some))
            (subst (λ (l : List Arrival). stands new.operator (history ++ l)) (sym one) now);
        held = ap (map change_of) (sym none) ∙ (m.stands_as.held ∙ sym held);
        alone = λ off. refl;
        few = let n = length-append (history ++ (bundle ++ a ∷ [])) [] in let p = length-append history (bundle ++ a ∷ []) in let q = length-append bundle (a ∷ []) in let r = length-append history bundle in let few = m.may.few in omega (arith, n, p, q, r, few);
      },
    )

    pub alone_range : (row : Row) → (rule_is old.operator).emits history (a ∷ []) ≡ Err row → IsOutOf (is_full g v (bundle ++ a ∷ [])) (g.emits v history (bundle ++ a ∷ [])) row
    alone_range row told = (full, emits_is (Err row) told)

  -- ---- a change joins a bundle

  module _ (old : Subtask O) (size port : ℕ) (change : Change) (g : Network) (v j : ℕ) (history bundle : List Arrival) (from : ℕ) (m : MayConsume rule_is is_broken stands takes_pieces old (Some size) port change g v j history bundle from) where
    abbrev b : Arrival
    b = arrival port from change

    -- the subtask that holds it
    pub holds : (new : Subtask O) → new.operator ≡ old.operator → new.held ≡ old.held ++ change ∷ [] → Stands g v new history (bundle ++ b ∷ [])
    holds new same held = record {
      node = m.stands_as.node;
      runs = subst (λ (op : O). RunsAs rule_is is_broken stands takes_pieces g v op history) (sym same) m.stands_as.runs;
      held = map_push bundle b ∙ (ap (λ (l : List Change). l ++ change ∷ []) m.stands_as.held ∙ sym held);
      alone = λ off. absurd (some_none (sym off) (sym m.size_is));
      few = let p = length-append history (bundle ++ b ∷ []) in let q = length-append bundle (b ∷ []) in let r = length-append history bundle in let few = m.may.few in omega (arith, p, q, r, few);
    }

    pub held_few : length old.held + 1 < 4294967296
    held_few =
        let few = m.may.few in
        let p = length-append history bundle in
        let q : length old.held ≡ length bundle = sym (ap length m.stands_as.held) ∙ length-map bundle change_of in
        omega (arith, few, p, q)

    held_is : (held : List Change) → held ≡ old.held ++ change ∷ [] → length held ≡ length (bundle ++ b ∷ [])
    held_is held is = ap length (is ∙ (ap (λ (l : List Change). l ++ change ∷ []) (sym m.stands_as.held) ∙ sym (map_push bundle b))) ∙ length-map (bundle ++ b ∷ []) change_of

    pub not_full : (held : List Change) → held ≡ old.held ++ change ∷ [] → length held < size → is_full g v (bundle ++ b ∷ []) ≡ false
    not_full held is few =
        ap (λ (n : Option ℕ). nat_le (size_of n) (length (bundle ++ b ∷ []))) (sym m.size_is) ∙ lt-leb size (length (bundle ++ b ∷ [])) (let e = held_is held is in omega (arith, few, e))

    pub fills : (held : List Change) → held ≡ old.held ++ change ∷ [] → (length held < size → ⊥) → is_full g v (bundle ++ b ∷ []) ≡ true
    fills held is full =
        ap (λ (n : Option ℕ). nat_le (size_of n) (length (bundle ++ b ∷ []))) (sym m.size_is) ∙ le-leb size (length (bundle ++ b ∷ [])) (let e = held_is held is in omega (arith, full, e))

    pub may_fold : (new : Subtask O) → new.operator ≡ old.operator → new.held ≡ old.held ++ change ∷ [] → MayFlush rule_is is_broken stands takes_pieces new g v j history (bundle ++ b ∷ [])
    may_fold new same held =
        record {
          stands_as = holds new same held;
          size = size;
          bundled = sym m.size_is;
          ready = subst (IsReady (task g v) j) (append_assoc history bundle (b ∷ [])) m.may.ready;
        }

  -- ---- what is held is folded

  module _ (old : Subtask O) (g : Network) (v j : ℕ) (history bundle : List Arrival) (m : MayFlush rule_is is_broken stands takes_pieces old g v j history bundle) where
    pub piece_may : MayTakePiece (rule_is old.operator) history bundle old.held
    piece_may = record {
      is = m.stands_as.held;
      arrive = piece_arrives (rule_is old.operator) (task g v) m.stands_as.runs.takes j history bundle m.ready;
      few = let few = m.stands_as.few in let e = length-append history bundle in omega (arith, few, e);
    }

    pub piece_emits : (answer : Answer) → (rule_is old.operator).emits history bundle ≡ answer → g.emits v history bundle ≡ answer
    piece_emits answer told = sym (ap (λ (f : List Arrival → List Arrival → Answer). f history bundle) m.stands_as.runs.emits) ∙ told

    pub piece_ok : (new : Subtask O) (sent : List Change) → rule_is new.operator ≡ rule_is old.operator → is_broken new.operator ≡ false → takes_pieces new.operator ≡ takes_pieces old.operator → new.held ≡ []
        → (rule_is old.operator).emits history bundle ≡ Ok sent → stands new.operator (history ++ bundle) → Run true g v new history bundle (Some sent)
    piece_ok new sent rule whole pieces held told now = (
      refl,
      piece_emits (Ok sent) told,
      record {
        node = m.stands_as.node;
        runs = runs_on g v old.operator new.operator history (history ++ bundle) m.stands_as.runs rule whole (λ size some. pieces ∙ m.stands_as.runs.pieces size some) now;
        held = sym held;
        alone = λ off. refl;
        few = let few = m.stands_as.few in let e = length-append (history ++ bundle) [] in omega (arith, few, e);
      },
    )
