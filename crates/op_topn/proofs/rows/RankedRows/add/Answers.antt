use Rattle.std.proofs.Common.{◌+◌, refl}
use Rattle.std.specs.BTreeMap.{get}
use Rattle.std.specs.Option.{unwrap_or}
use Rattle.op_topn.specs.Keys.{key_cmp}
use Rattle.op_topn.proofs.Links.{keeps-add}
use Rattle.op_topn.proofs.rows.RankedRows.add.Goals as goal

pub returns : goal.returns
returns c = λ order rows k keeps.
    let told = c.in_ok-count_one.ensures in
    keeps-add order c.args.self.now.counts c.count_one.new.counts c.args.key rows (unwrap_or (get key_cmp c.args.self.now.counts c.args.key) 0 + 1) k refl told.ordered told.entries told.at keeps
