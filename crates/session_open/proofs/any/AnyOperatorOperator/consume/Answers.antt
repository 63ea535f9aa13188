use Rattle.session_open.proofs.any.AnyOperatorOperator.consume.Goals as goal

pub returns-in-Filter-clause-ok : goal.returns-in-Filter-clause-ok
returns-in-Filter-clause-ok g c = rw c.in-Filter.is c.consume.ensures.ok

pub returns-in-Filter-clause-range : goal.returns-in-Filter-clause-range
returns-in-Filter-clause-range g c = rw c.in-Filter.is c.consume.ensures.range

pub returns-in-Filter-clause-cost : goal.returns-in-Filter-clause-cost
returns-in-Filter-clause-cost g c = rw c.in-Filter.is c.consume.ensures.cost

pub returns-in-Project-clause-ok : goal.returns-in-Project-clause-ok
returns-in-Project-clause-ok g c = rw c.in-Project.is c.consume-in-Project.ensures.ok

pub returns-in-Project-clause-range : goal.returns-in-Project-clause-range
returns-in-Project-clause-range g c = rw c.in-Project.is c.consume-in-Project.ensures.range

pub returns-in-Project-clause-cost : goal.returns-in-Project-clause-cost
returns-in-Project-clause-cost g c = rw c.in-Project.is c.consume-in-Project.ensures.cost

pub returns-in-Union-clause-ok : goal.returns-in-Union-clause-ok
returns-in-Union-clause-ok g c = rw c.in-Union.is c.consume-in-Union.ensures.ok

pub returns-in-Union-clause-range : goal.returns-in-Union-clause-range
returns-in-Union-clause-range g c = rw c.in-Union.is c.consume-in-Union.ensures.range

pub returns-in-Union-clause-cost : goal.returns-in-Union-clause-cost
returns-in-Union-clause-cost g c = rw c.in-Union.is c.consume-in-Union.ensures.cost

pub returns-in-Normalize-clause-ok : goal.returns-in-Normalize-clause-ok
returns-in-Normalize-clause-ok g c = rw c.in-Normalize.is c.consume-in-Normalize.ensures.ok

pub returns-in-Normalize-clause-range : goal.returns-in-Normalize-clause-range
returns-in-Normalize-clause-range g c = rw c.in-Normalize.is c.consume-in-Normalize.ensures.range

pub returns-in-Normalize-clause-cost : goal.returns-in-Normalize-clause-cost
returns-in-Normalize-clause-cost g c = rw c.in-Normalize.is c.consume-in-Normalize.ensures.cost

pub returns-in-Group-clause-ok : goal.returns-in-Group-clause-ok
returns-in-Group-clause-ok g c = rw c.in-Group.is c.consume-in-Group.ensures.ok

pub returns-in-Group-clause-range : goal.returns-in-Group-clause-range
returns-in-Group-clause-range g c = rw c.in-Group.is c.consume-in-Group.ensures.range

pub returns-in-Group-clause-cost : goal.returns-in-Group-clause-cost
returns-in-Group-clause-cost g c = rw c.in-Group.is c.consume-in-Group.ensures.cost

pub returns-in-Join-clause-rule_stays : goal.returns-in-Join-clause-rule_stays
returns-in-Join-clause-rule_stays g c = rw c.in-Join.is c.consume-in-Join.ensures.rule_stays

pub returns-in-Join-clause-ok : goal.returns-in-Join-clause-ok
returns-in-Join-clause-ok g c = rw c.in-Join.is c.consume-in-Join.ensures.ok

pub returns-in-Join-clause-range : goal.returns-in-Join-clause-range
returns-in-Join-clause-range g c = rw c.in-Join.is c.consume-in-Join.ensures.range

pub returns-in-Join-clause-cost : goal.returns-in-Join-clause-cost
returns-in-Join-clause-cost g c = rw c.in-Join.is c.consume-in-Join.ensures.cost

pub returns-in-Semi-clause-rule_stays : goal.returns-in-Semi-clause-rule_stays
returns-in-Semi-clause-rule_stays g c = rw c.in-Semi.is c.consume-in-Semi.ensures.rule_stays

pub returns-in-Semi-clause-ok : goal.returns-in-Semi-clause-ok
returns-in-Semi-clause-ok g c = rw c.in-Semi.is c.consume-in-Semi.ensures.ok

pub returns-in-Semi-clause-range : goal.returns-in-Semi-clause-range
returns-in-Semi-clause-range g c = rw c.in-Semi.is c.consume-in-Semi.ensures.range

pub returns-in-Semi-clause-cost : goal.returns-in-Semi-clause-cost
returns-in-Semi-clause-cost g c = rw c.in-Semi.is c.consume-in-Semi.ensures.cost

pub returns-in-TopN-clause-ok : goal.returns-in-TopN-clause-ok
returns-in-TopN-clause-ok g c = rw c.in-TopN.is c.consume-in-TopN.ensures.ok

pub returns-in-TopN-clause-range : goal.returns-in-TopN-clause-range
returns-in-TopN-clause-range g c = rw c.in-TopN.is c.consume-in-TopN.ensures.range

pub returns-in-TopN-clause-cost : goal.returns-in-TopN-clause-cost
returns-in-TopN-clause-cost g c = rw c.in-TopN.is c.consume-in-TopN.ensures.cost

pub returns-in-Materialize-clause-ok : goal.returns-in-Materialize-clause-ok
returns-in-Materialize-clause-ok g c = rw c.in-Materialize.is c.consume-in-Materialize.ensures.ok

pub returns-in-Materialize-clause-range : goal.returns-in-Materialize-clause-range
returns-in-Materialize-clause-range g c = rw c.in-Materialize.is c.consume-in-Materialize.ensures.range

pub returns-in-Materialize-clause-cost : goal.returns-in-Materialize-clause-cost
returns-in-Materialize-clause-cost g c = rw c.in-Materialize.is c.consume-in-Materialize.ensures.cost

pub returns-in-Sink-clause-ok : goal.returns-in-Sink-clause-ok
returns-in-Sink-clause-ok g c = rw c.in-Sink.is c.consume-in-Sink.ensures.ok

pub returns-in-Sink-clause-range : goal.returns-in-Sink-clause-range
returns-in-Sink-clause-range g c = rw c.in-Sink.is c.consume-in-Sink.ensures.range

pub returns-in-Sink-clause-cost : goal.returns-in-Sink-clause-cost
returns-in-Sink-clause-cost g c = rw c.in-Sink.is c.consume-in-Sink.ensures.cost

pub returns-in-SetOp-clause-ok : goal.returns-in-SetOp-clause-ok
returns-in-SetOp-clause-ok g c = rw c.in-SetOp.is c.consume-in-SetOp.ensures.ok

pub returns-in-SetOp-clause-range : goal.returns-in-SetOp-clause-range
returns-in-SetOp-clause-range g c = rw c.in-SetOp.is c.consume-in-SetOp.ensures.range

pub returns-in-SetOp-clause-cost : goal.returns-in-SetOp-clause-cost
returns-in-SetOp-clause-cost g c = rw c.in-SetOp.is c.consume-in-SetOp.ensures.cost

pub returns-in-Local-clause-ok : goal.returns-in-Local-clause-ok
returns-in-Local-clause-ok g c = rw c.in-Local.is c.consume-in-Local.ensures.ok

pub returns-in-Local-clause-range : goal.returns-in-Local-clause-range
returns-in-Local-clause-range g c = rw c.in-Local.is c.consume-in-Local.ensures.range

pub returns-in-Local-clause-cost : goal.returns-in-Local-clause-cost
returns-in-Local-clause-cost g c = rw c.in-Local.is c.consume-in-Local.ensures.cost

pub returns-in-Merge-clause-ok : goal.returns-in-Merge-clause-ok
returns-in-Merge-clause-ok g c = rw c.in-Merge.is c.consume-in-Merge.ensures.ok

pub returns-in-Merge-clause-cost : goal.returns-in-Merge-clause-cost
returns-in-Merge-clause-cost g c = rw c.in-Merge.is c.consume-in-Merge.ensures.cost
