-- A subtask of a node without bundles that emits a change as it came.
use Rattle.std.proofs.Common.{◌≡◌, ℕ, Bool, List, [], ◌∷◌, ◌++◌, Option, Some, None, Ok, refl}
use Rattle.ct_change.specs.declared.change.Change.{Change}
use Rattle.op_rules.specs.History.{Arrival, arrival}
use Rattle.op_rules.specs.Rules.{Rule}
use Rattle.stream_model.specs.Network.{Network}
use Rattle.session_subtasks.specs.declared.subtask.Subtask.{Subtask}
use Rattle.session_subtasks.specs.Subtasks.{HasRun, MayConsume, is_full}
use Rattle.session_subtasks.proofs.Subtasks.{alone_ok}

module _ {O : Type 0} (rule_is : O → Rule) (is_broken : O → Bool) (stands : O → List Arrival → Type 0) (takes_pieces : O → Bool) where
  -- where its operator stands for the change as it is, it has run without a call
  pub relayed : (subtask : Subtask O) (port : ℕ) (change : Change) (g : Network) (v j : ℕ) (history bundle : List Arrival) (from : ℕ)
      → MayConsume rule_is is_broken stands takes_pieces subtask None port change g v j history bundle from
      → (rule_is subtask.operator).emits history (arrival port from change ∷ []) ≡ Ok (change ∷ []) → stands subtask.operator (history ++ arrival port from change ∷ [])
      → HasRun rule_is is_broken stands takes_pieces (is_full g v (bundle ++ arrival port from change ∷ [])) g v subtask history (bundle ++ arrival port from change ∷ []) (Some (change ∷ []))
  relayed subtask port change g v j history bundle from m told now =
      alone_ok rule_is is_broken stands takes_pieces subtask port change g v j history bundle from m subtask (change ∷ []) refl m.stands_as.runs.whole refl told now
