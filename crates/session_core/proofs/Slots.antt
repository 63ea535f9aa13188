-- The subtask in a slot does what one of many does.
use Rattle.std.proofs.Common.{◌≡◌, ℕ, ◌+◌, ◌*◌, ◌<◌, Bool, List, [], ◌∷◌, ◌++◌, length, set, Option, Some, None, refl, sym, ap, subst, arith}
use Rattle.ct_value.specs.declared.row.Row.{Row}
use Rattle.ct_change.specs.declared.change.Change.{Change}
use Rattle.op_rules.specs.History.{Arrival, arrival, joined}
use Rattle.op_rules.specs.Rules.{Rule}
use Rattle.stream_model.specs.Network.{Network}
use Rattle.session_subtasks.specs.declared.subtask.Subtask.{Subtask}
use Rattle.session_subtasks.specs.Subtasks.{IsOutOf, holds_some, is_full}
use Rattle.session_core.specs.Runs.{AllHaveRun, HasFlushedIn, HasRunning, HasTakenIn, IsOutFlushingIn, IsOutTakingIn, MayConsumeAt, MayFlushAt, MayFlushIn, MayTakeIn, bundle_after}
use Rattle.session_core.proofs.Running.{all_consumed, all_have_run, all_run_after, put_here}

module _ {O : Type 0} (rule_is : O → Rule) (is_broken : O → Bool) (stands : O → List Arrival → Type 0) (takes_pieces : O → Bool) (width : ℕ) (items : List (Option (Subtask O))) where
  module _ (size : Option ℕ) (v j port : ℕ) (change : Change) (g : Network) (pieces : ℕ → ℕ → List (List Arrival)) (bundle : ℕ → ℕ → List Arrival) (from : ℕ) where
    abbrev May : Type 0
    May = MayConsumeAt rule_is is_broken stands takes_pieces width items size v j port change g pieces bundle from

    abbrev Here : Option (Subtask O) → Type 0
    Here slot = HasRunning rule_is is_broken stands takes_pieces g v slot (joined (pieces v j)) (bundle v j)

    abbrev a : Arrival
    a = arrival port from change

    pub may_take_in : (slot : Option (Subtask O)) → May → Here slot → MayTakeIn rule_is is_broken stands takes_pieces slot size port change
    may_take_in None m here = let none = here.0 in let some = m.node in absurd (omega (arith, none, some))
    may_take_in (Some subtask) m here = (g, v, j, joined (pieces v j), bundle v j, from, record { stands_as = here; size_is = m.size_is; may = m.may })

    pub consumed_in : (p : ℕ) (slot new : Option (Subtask O)) (sent : Option (List Change)) → May → Here slot → j < width → p ≡ v * width + j → p < length items
        → HasTakenIn rule_is is_broken stands takes_pieces slot new size port change sent
        → AllHaveRun rule_is is_broken stands takes_pieces (is_full g v (bundle_after bundle v j a v j)) g width (set items p new) pieces (bundle_after bundle v j a) v j sent
    consumed_in p None new sent m here lj is there told = absurd told
    consumed_in p (Some subtask) new sent m here lj is there told =
        subst (λ (n : Option (Subtask O)). AllHaveRun rule_is is_broken stands takes_pieces (is_full g v (bundle_after bundle v j a v j)) g width (set items p n) pieces (bundle_after bundle v j a) v j sent) (sym told.1)
        (all_consumed rule_is is_broken stands takes_pieces g width items pieces bundle v j p a told.0 sent m.all lj is there
        (told.2 g v j (joined (pieces v j)) (bundle v j) from (record { stands_as = here; size_is = m.size_is; may = m.may })))

    pub out_taking_in : (slot : Option (Subtask O)) (row : Row) → May → Here slot → IsOutTakingIn rule_is is_broken stands takes_pieces slot size port change row
        → IsOutOf (is_full g v (bundle_after bundle v j a v j)) (g.emits v (joined (pieces v j)) (bundle_after bundle v j a v j)) row
    out_taking_in None row m here told = absurd told
    out_taking_in (Some subtask) row m here told =
        subst (λ (l : List Arrival). IsOutOf (is_full g v l) (g.emits v (joined (pieces v j)) l) row) (sym (put_here bundle v j (bundle v j ++ a ∷ [])))
        (told g v j (joined (pieces v j)) (bundle v j) from (record { stands_as = here; size_is = m.size_is; may = m.may }))

  module _ (v j : ℕ) (g : Network) (pieces : ℕ → ℕ → List (List Arrival)) (bundle : ℕ → ℕ → List Arrival) where
    abbrev MayNow : Type 0
    MayNow = MayFlushAt rule_is is_broken stands takes_pieces width items v j g pieces bundle

    abbrev Standing : Option (Subtask O) → Type 0
    Standing slot = HasRunning rule_is is_broken stands takes_pieces g v slot (joined (pieces v j)) (bundle v j)

    pub may_flush_in : (slot : Option (Subtask O)) → MayNow → Standing slot → MayFlushIn rule_is is_broken stands takes_pieces slot
    may_flush_in None m here = tt
    may_flush_in (Some subtask) m here = (g, v, j, joined (pieces v j), bundle v j, record { stands_as = here; size = m.size; bundled = m.bundled; ready = m.ready })

    pub flushed_in : (p : ℕ) (slot new : Option (Subtask O)) (sent : Option (List Change)) → MayNow → Standing slot → j < width → p ≡ v * width + j → p < length items
        → HasFlushedIn rule_is is_broken stands takes_pieces slot new sent → AllHaveRun rule_is is_broken stands takes_pieces (holds_some (bundle v j)) g width (set items p new) pieces bundle v j sent
    flushed_in p None new sent m here lj is there told =
        subst (λ (n : Option (Subtask O)). AllHaveRun rule_is is_broken stands takes_pieces (holds_some (bundle v j)) g width (set items p n) pieces bundle v j sent) (sym told.0)
        (subst (λ (s : Option (List Change)). AllHaveRun rule_is is_broken stands takes_pieces (holds_some (bundle v j)) g width (set items p None) pieces bundle v j s) (sym told.1)
        (ap holds_some here.1, all_run_after rule_is is_broken stands takes_pieces g width items pieces pieces bundle bundle v j p None m.all lj is there here (λ n k off. (refl, refl))))
    flushed_in p (Some subtask) new sent m here lj is there told =
        subst (λ (n : Option (Subtask O)). AllHaveRun rule_is is_broken stands takes_pieces (holds_some (bundle v j)) g width (set items p n) pieces bundle v j sent) (sym told.1)
        (all_have_run rule_is is_broken stands takes_pieces (holds_some (bundle v j)) g width items pieces bundle bundle v j p told.0 sent m.all lj is there (λ n k off. refl)
        (told.2 g v j (joined (pieces v j)) (bundle v j) (record { stands_as = here; size = m.size; bundled = m.bundled; ready = m.ready })))

    pub out_flushing_in : (slot : Option (Subtask O)) (row : Row) → MayNow → Standing slot → IsOutFlushingIn rule_is is_broken stands takes_pieces slot row
        → IsOutOf (holds_some (bundle v j)) (g.emits v (joined (pieces v j)) (bundle v j)) row
    out_flushing_in None row m here told = absurd told
    out_flushing_in (Some subtask) row m here told = told g v j (joined (pieces v j)) (bundle v j) (record { stands_as = here; size = m.size; bundled = m.bundled; ready = m.ready })
