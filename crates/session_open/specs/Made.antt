-- What is said of operators that are made for nodes, of any of the kinds that a plan has.
use Rattle.std.specs.Prelude.{ℕ, List, Option}
use Rattle.ct_expr.specs.Expr.{Expr}
use Rattle.rel_algebra.specs.declared.join.Pair.{Pair}
use Rattle.op_rules.specs.Rules.{Rule}
use Rattle.emission_rules.specs.Joining.{Joining, Shape}
use Rattle.plan_rules.specs.Behaviours.{Behaviour}
use Rattle.session_open.specs.declared.any.AnyOperator.{AnyOperator}
use Rattle.session_open.specs.contracts.any.AnyOperatorOperator.TheImpl.{ghosts}
use Rattle.session_open.specs.contracts.any.AnyOperatorPieceOperator.TheImpl.{ghosts as piece_ghosts}
use Rattle.session_open.specs.declared.inputs.Input.{Input}
use Rattle.session_open.specs.Modes.{mode_in}
use Rattle.session_open.specs.Running.{IsNew, IsOperatorBy}

-- the join of two inputs, in a shape
abbrev pub joining_of : Shape → List Pair → Option Expr → Input × Input → Joining
joining_of shape on rest sides = record { shape = shape; on = on; rest = rest; left_columns = sides.0.types; right_columns = sides.1.types; left = mode_in sides.0.mode; right = mode_in sides.1.mode }

-- one that runs by a rule and took nothing
abbrev pub IsNewOperator : AnyOperator → Rule → Type 0
IsNewOperator made rule = IsNew ghosts.rule ghosts.broken ghosts.stands_for piece_ghosts.takes_pieces made rule

-- the one of a node, by what the node does, and by how many changes its bundle holds, if it keeps bundles
abbrev pub IsMadeBy : Option Behaviour → Option ℕ → Option AnyOperator → Type 0
IsMadeBy does bundle made = IsOperatorBy ghosts.rule ghosts.broken ghosts.stands_for piece_ghosts.takes_pieces does bundle made
