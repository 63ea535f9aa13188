use Rattle.std.proofs.Common.{◌≡◌, ◌+◌, ◌==◌, false, length, sym}
use Rattle.plan_check.proofs.Walked.{uneven-columns}
use Rattle.plan_check.proofs.chains.chain_columns.Goals as goal

pub returns-else-are_fed : goal.returns-else-are_fed
returns-else-are_fed c =
    let apart : (length c.args.inputs.now == length c.args.on.now + 1) ≡ false = cc in
    sym (uneven-columns _ c.args.on.now c.args.inputs.now apart)
