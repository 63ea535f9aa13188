use Rattle.std.proofs.Common.{ℕ, Option, OnOk, sym, subst}
use Rattle.op_rules.specs.Faults.{IfRange}
use Rattle.session_subtasks.specs.Subtasks.{ForTaken, HasRun, IsOutOf, is_full}
use Rattle.session_subtasks.proofs.subtask.Subtask.take.Goals as goal

pub returns-in-None-clause-ok : goal.returns-in-None-clause-ok
returns-in-None-clause-ok b c = subst (λ (size : Option ℕ). OnOk c.take_alone.result (ForTaken b.O.Operator.rule b.O.Operator.broken b.O.Operator.stands_for b.O.PieceOperator.takes_pieces c.args.self.now size c.args.port c.args.change (λ g v history bundle. HasRun b.O.Operator.rule b.O.Operator.broken b.O.Operator.stands_for b.O.PieceOperator.takes_pieces (is_full g v bundle) g v c.take_alone.new.self history bundle c.take_alone.new.to))) (sym c.in-None.is) c.take_alone.ensures.ok

pub returns-in-None-clause-range : goal.returns-in-None-clause-range
returns-in-None-clause-range b c = subst (λ (size : Option ℕ). IfRange c.take_alone.result (λ row. ForTaken b.O.Operator.rule b.O.Operator.broken b.O.Operator.stands_for b.O.PieceOperator.takes_pieces c.args.self.now size c.args.port c.args.change (λ g v history bundle. IsOutOf (is_full g v bundle) (g.emits v history bundle) row))) (sym c.in-None.is) c.take_alone.ensures.range

pub returns-in-Some-clause-ok : goal.returns-in-Some-clause-ok
returns-in-Some-clause-ok b c = subst (λ (size : Option ℕ). OnOk c.hold.result (ForTaken b.O.Operator.rule b.O.Operator.broken b.O.Operator.stands_for b.O.PieceOperator.takes_pieces c.args.self.now size c.args.port c.args.change (λ g v history bundle. HasRun b.O.Operator.rule b.O.Operator.broken b.O.Operator.stands_for b.O.PieceOperator.takes_pieces (is_full g v bundle) g v c.hold.new.self history bundle c.hold.new.to))) (sym c.in-Some.is) c.hold.ensures.ok

pub returns-in-Some-clause-range : goal.returns-in-Some-clause-range
returns-in-Some-clause-range b c = subst (λ (size : Option ℕ). IfRange c.hold.result (λ row. ForTaken b.O.Operator.rule b.O.Operator.broken b.O.Operator.stands_for b.O.PieceOperator.takes_pieces c.args.self.now size c.args.port c.args.change (λ g v history bundle. IsOutOf (is_full g v bundle) (g.emits v history bundle) row))) (sym c.in-Some.is) c.hold.ensures.range
