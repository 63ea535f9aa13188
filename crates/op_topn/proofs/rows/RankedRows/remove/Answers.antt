use Rattle.std.proofs.Common.{◌≡◌, ◌-◌, true, false, refl, arith}
use Rattle.std.specs.BTreeMap.{get}
use Rattle.std.specs.Option.{unwrap_or}
use Rattle.ct_value.specs.Bag as bag
use Rattle.op_topn.specs.Keys.{key_cmp}
use Rattle.op_topn.specs.RankedRows.{IsRanked}
use Rattle.op_topn.proofs.Links.{keeps-less, keeps-gone}
use Rattle.op_topn.proofs.rows.RankedRows.remove.Goals as goal

pub returns : goal.returns
returns c = λ order rows k keeps.
    let told = c.in_ok-count_less.ensures in
    elim c.in_ok-count_less.field-0 as (λ b. c.in_ok-count_less.field-0 ≡ b → IsRanked order c.count_less.new.counts (bag.remove rows c.args.key.1)) [
      | true ↦ λ e.
          keeps-less order c.args.self.now.counts c.count_less.new.counts c.args.key rows (unwrap_or (get key_cmp c.args.self.now.counts c.args.key) 0 - 1) k (omega (arith, told.many e)) told.ordered (told.left e) (told.left_at e) keeps
      | false ↦ λ e.
          let gone = told.last e in
          keeps-gone order c.args.self.now.counts c.count_less.new.counts c.args.key rows k gone.0 told.ordered gone.1 (told.last_at e) keeps
    ] refl
