use Rattle.std.proofs.Common.{refl}
use Rattle.job_run.proofs.RunningSums.{keep}
use Rattle.job_run.proofs.running_sums.Sums.keep.Goals as goal

pub returns-clause-ok : goal.returns-clause-ok
returns-clause-ok c = λ bytes s.
    let put = c.in_ok-put_behind.ensures in
    keep c.args.self.now bytes s _ c.args.piece.now put.first.0 put.whole put.first.1 c.hash_onto-self.ensures refl refl refl
