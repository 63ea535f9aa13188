use Rattle.ct_change.proofs.laws.Lasts.{last_none}
use Rattle.ct_change.proofs.upsert.UpsertByInMode.fresh.Goals as goal

pub returns : goal.returns
returns c = rw c.new.ensures (last_none c.args.self.now.key)
