use Rattle.std.proofs.Common.{◌≡◌, Option, true, OnOk, refl, sym, subst, option_copied, arith}
use Rattle.std.specs.Option.{IsSome}
use Rattle.std.proofs.lemmas.Bool.{eq-eqb, ne_eqb}
use Rattle.ct_value.specs.declared.row.Row.{Row}
use Rattle.ct_change.specs.Changelog.{Rows}
use Rattle.ct_change.specs.Emission.{replaced}
use Rattle.op_group.specs.declared.kept.Kept.{Kept}
use Rattle.op_group.specs.Kept.{AllRetract, IsKept, HasRow}
use Rattle.op_group.specs.Groups.{AreKept, IsTurned}
use Rattle.op_group.proofs.Shifts.{own_calls}
use Rattle.op_group.proofs.Turns.{kept_there, kept_after, written, written_then_gone}
use Rattle.op_group.proofs.groups.turn_group.Goals as goal
use Rattle.op_group.proofs.groups.turn_group.Goals.{then-kept-eq0, else-kept-eq0}

pub start_group-requires-clause-kept : goal.start_group-requires-clause-kept
start_group-requires-clause-kept c =
    let r = c.requires.kept in
    (r.0, subst (λ m. AreKept c.args.by.now m r.0) (sym c.get_mut.follows.holds-at-none) r.1, r.2, r.3)

pub returns-in_default-clause-kept : goal.returns-in_default-clause-kept
returns-in_default-clause-kept c =
    let gone = option_copied c.args.gone in
    let come = option_copied c.args.come in
    subst (λ m. OnOk c.start_group.result ((of after : Row → Rows) → AreKept c.args.by.now m of → HasRow (of c.args.key.now) gone → IsTurned c.args.key.now of after gone come → AreKept c.args.by.now c.start_group.new.groups after))
    c.get_mut.follows.holds-at-none c.start_group.ensures.kept

pub take_turn-requires-clause-kept : goal.take_turn-requires-clause-kept
take_turn-requires-clause-kept c =
    let by = c.args.by.now in
    let r = c.requires.kept in
    let there = kept_there by c.args.groups.now r.0 r.1 c.args.key.now c.in-Some.kept.now (sym c.in-Some.ensures.value) in
    (by.tys, r.0 c.args.key.now, own_calls by.tys by.aggs c.in-Some.kept.now (r.0 c.args.key.now) there.0, r.2, r.3)

pub returns-clause-kept : goal.returns-clause-kept
returns-clause-kept c = λ of after all has turned.
    let by = c.args.by.now in
    let gone = option_copied c.args.gone in
    let come = option_copied c.args.come in
    let before = kept_there by c.args.groups.now of all c.args.key.now c.in-Some.kept.now (sym c.in-Some.ensures.value) in
    let kept : Kept = c.take_turn.new.kept in
    let is = subst (λ aggs. IsKept by.tys aggs kept (replaced (of c.args.key.now) gone come)) before.0.calls_are
    (c.in-Ok.ensures.kept by.tys (of c.args.key.now) (own_calls by.tys by.aggs c.in-Some.kept.now (of c.args.key.now) before.0) has) in
    let retract : by.retracting ≡ true → AllRetract kept.counters.items = λ r. c.in-Ok.ensures.retracts (before.1 r) in
    let P : Option Kept → Type 0 = λ o. IsSome o in
    let writes = c.get_mut.follows.holds kept in
    let at = (writes.3 (subst P c.in-Some.ensures.value refl)).0 in
    let mid = c.get_mut.follows.lender kept in
    elim c.if-kept-eq0.branch [
      | then-kept-eq0 w ↦
          subst (λ m. AreKept by m after) (sym w.groups-is)
          (kept_after by c.args.key.now of after gone come turned c.args.groups.now w.forget.new.groups kept all is retract
          (written_then_gone c.args.key.now c.args.groups.now mid w.forget.new.groups kept (eq-eqb kept.rows 0 w.if-kept-eq0.true) at w.forget.ensures.gone)
          w.forget.ensures.ordered)
      | else-kept-eq0 w ↦
          subst (λ m. AreKept by m after) (sym w.groups-is)
          (kept_after by c.args.key.now of after gone come turned c.args.groups.now mid kept all is retract
          (written c.args.key.now c.args.groups.now mid kept (ne_eqb kept.rows 0 (λ e. omega (arith, e, w.if-kept-eq0.false))) at)
          writes.4)
    ]
