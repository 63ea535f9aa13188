use Rattle.session_open.proofs.any.AnyOperatorPieceOperator.take_piece.Goals as goal

pub returns-in-Group-clause-sent : goal.returns-in-Group-clause-sent
returns-in-Group-clause-sent g c = rw c.in-Group.is c.take_piece.ensures.sent

pub returns-in-Group-clause-stands : goal.returns-in-Group-clause-stands
returns-in-Group-clause-stands g c = rw c.in-Group.is c.take_piece.ensures.stands

pub returns-in-Group-clause-range : goal.returns-in-Group-clause-range
returns-in-Group-clause-range g c = rw c.in-Group.is c.take_piece.ensures.range

pub returns-in-Group-clause-cost : goal.returns-in-Group-clause-cost
returns-in-Group-clause-cost g c = rw c.in-Group.is c.take_piece.ensures.cost

pub returns-in-Local-clause-sent : goal.returns-in-Local-clause-sent
returns-in-Local-clause-sent g c = rw c.in-Local.is c.take_piece-in-Local.ensures.sent

pub returns-in-Local-clause-stands : goal.returns-in-Local-clause-stands
returns-in-Local-clause-stands g c = rw c.in-Local.is c.take_piece-in-Local.ensures.stands

pub returns-in-Local-clause-range : goal.returns-in-Local-clause-range
returns-in-Local-clause-range g c = rw c.in-Local.is c.take_piece-in-Local.ensures.range

pub returns-in-Local-clause-cost : goal.returns-in-Local-clause-cost
returns-in-Local-clause-cost g c = rw c.in-Local.is c.take_piece-in-Local.ensures.cost

pub returns-in-Merge-clause-sent : goal.returns-in-Merge-clause-sent
returns-in-Merge-clause-sent g c = rw c.in-Merge.is c.take_piece-in-Merge.ensures.sent

pub returns-in-Merge-clause-stands : goal.returns-in-Merge-clause-stands
returns-in-Merge-clause-stands g c = rw c.in-Merge.is c.take_piece-in-Merge.ensures.stands

pub returns-in-Merge-clause-range : goal.returns-in-Merge-clause-range
returns-in-Merge-clause-range g c = rw c.in-Merge.is c.take_piece-in-Merge.ensures.range

pub returns-in-Merge-clause-cost : goal.returns-in-Merge-clause-cost
returns-in-Merge-clause-cost g c = rw c.in-Merge.is c.take_piece-in-Merge.ensures.cost
