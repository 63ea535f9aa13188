use Rattle.std.proofs.Common.{Option, true, false, OnOk, refl, sym, subst, ◌∙◌}
use Rattle.std.specs.Option.{IsSome}
use Rattle.ct_value.specs.declared.row.Row.{Row}
use Rattle.ct_change.specs.Changelog.{Rows}
use Rattle.op_topn.specs.declared.rows.RankedRows.{RankedRows}
use Rattle.op_topn.specs.Kept.{HasRow, AreKept, IsTurned}
use Rattle.op_topn.proofs.Turns.{kept_there, kept_after, written, written_then_gone}
use Rattle.op_topn.proofs.partitions.turn_partition.Goals as goal
use Rattle.op_topn.proofs.partitions.turn_partition.Goals.{then-is_empty, else-is_empty}

pub start_partition-requires-clause-kept : goal.start_partition-requires-clause-kept
start_partition-requires-clause-kept g c =
    let r = c.requires.kept in
    (r.0, subst (λ m. AreKept c.args.by.now.order m r.0) (sym c.get_mut.follows.holds-at-none) r.1, r.2, r.3)

pub returns-in_default-clause-kept : goal.returns-in_default-clause-kept
returns-in_default-clause-kept g c =
    let order = c.args.by.now.order in
    subst (λ m. OnOk c.start_partition.result ((of after : Row → Rows) → AreKept order m of → HasRow (of c.args.key.now) c.args.gone → IsTurned c.args.key.now of after c.args.gone c.args.come → AreKept order c.start_partition.new.partitions after))
    c.get_mut.follows.holds-at-none c.start_partition.ensures.kept

pub turn_rows-requires : goal.turn_rows-requires
turn_rows-requires g c =
    let r = c.requires.kept in
    (r.0 c.args.key.now, kept_there c.args.by.now.order c.args.partitions.now r.0 r.1 c.args.key.now c.in-Some.kept.now (sym c.in-Some.ensures.value), r.2, r.3)

pub returns-clause-firsts : goal.returns-clause-firsts
returns-clause-firsts g c = λ of all has.
    c.in_ok-firsts.ensures.firsts (of c.args.key.now) (kept_there c.args.by.now.order c.args.partitions.now of all c.args.key.now c.in-Some.kept.now (sym c.in-Some.ensures.value)) has

pub returns-clause-kept : goal.returns-clause-kept
returns-clause-kept g c = λ of after all has turned.
    let order = c.args.by.now.order in
    let key = c.args.key.now in
    let before = kept_there order c.args.partitions.now of all key c.in-Some.kept.now (sym c.in-Some.ensures.value) in
    let kept : RankedRows = c.turn_rows.new.kept in
    let is = c.in_ok-firsts.ensures.kept (of key) before has in
    let P : Option RankedRows → Type 0 = λ o. IsSome o in
    let writes = c.get_mut.follows.holds kept in
    let at = (writes.3 (subst P c.in-Some.ensures.value refl)).0 in
    let mid = c.get_mut.follows.lender kept in
    elim c.if-is_empty.branch [
      | then-is_empty w ↦
          subst (λ m. AreKept order m after) (sym w.partitions-is)
          (kept_after order key of after c.args.gone c.args.come turned c.args.partitions.now w.forget.new.partitions kept all is
          (written_then_gone key c.args.partitions.now mid w.forget.new.partitions kept (sym c.is_empty.ensures ∙ w.if-is_empty.true) at w.forget.ensures.gone)
          w.forget.ensures.ordered)
      | else-is_empty w ↦
          subst (λ m. AreKept order m after) (sym w.partitions-is)
          (kept_after order key of after c.args.gone c.args.come turned c.args.partitions.now mid kept all is
          (written key c.args.partitions.now mid kept (sym c.is_empty.ensures ∙ w.if-is_empty.false) at)
          writes.4)
    ]
