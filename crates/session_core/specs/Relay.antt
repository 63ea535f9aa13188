-- Operators that emit each change as it came.
use Rattle.std.specs.Prelude.{◌≡◌, List, [], ◌∷◌, ◌++◌, Option, Some, None, Ok}
use Rattle.op_rules.specs.History.{Arrival}
use Rattle.op_rules.specs.Rules.{Rule}
use Rattle.session_subtasks.specs.declared.subtask.Subtask.{Subtask}

-- each change is emitted as it came, and what stands for what came stands for the change too
pub record Relays (rule : Rule) (stands : List Arrival → Type 0) : Type 0 where
  pub emits : (before : List Arrival) (a : Arrival) → rule.emits before (a ∷ []) ≡ Ok (a.change ∷ [])
  pub stays : (before : List Arrival) (a : Arrival) → stands before → stands (before ++ a ∷ [])

module _ {O : Type 0} (rule_is : O → Rule) (stands : O → List Arrival → Type 0) where
  -- there is a subtask, whose operator is such a one
  abbrev pub RelaysIn : Option (Subtask O) → Type 0
  RelaysIn None = ⊥
  RelaysIn (Some subtask) = Relays (rule_is subtask.operator) (stands subtask.operator)
