use Rattle.std.proofs.Common.{◌≡◌, ℕ, ◌+◌, ◌-◌, List, length, take, refl, sym, ap, subst, ◌∙◌, arith}
use Rattle.std.proofs.Math.Seq.{take-length}
use Rattle.ct_change.specs.declared.change.Change.{Change}
use Rattle.session_channels.specs.Sending.{AllRoute, Carry, scanned_by}
use Rattle.session_channels.proofs.sending.scan_all.Goals as goal

pub loop-done-init : goal.loop-done-init
loop-done-init c = record { carry = λ edges flight all kept. kept; sent = omega arith; width = refl; edges = refl }

pub loop-done-preserved : goal.loop-done-preserved
loop-done-preserved c =
    let kept = c.loop-done.invariant in
    let now = c.in_ok-scan_one.ensures in
    let copy = c.in_ok-copy.ensures in record {
      carry = λ edges flight all was.
          subst (λ (x : Change). Carry c.scan_one.new.channels (scanned_by edges c.args.from x flight (take (c.loop-done.done + 1) c.args.scans.now))) copy
          (now.ok edges flight (subst (λ (w : ℕ). AllRoute w c.args.routes.now.items edges) (sym kept.width) all)
          (subst (λ (x : Change). Carry c.loop-done.channels (scanned_by edges c.args.from x flight (take c.loop-done.done c.args.scans.now))) (sym copy) (kept.carry edges flight all was)));
      sent = omega (arith, kept.sent, now.sent);
      width = now.width ∙ kept.width;
      edges = now.edges ∙ kept.edges;
    }

pub returns-clause-ok : goal.returns-clause-ok
returns-clause-ok c = λ edges flight all was.
    let kept = c.loop-done.invariant in
    let scans = c.args.scans.now in
    let last : c.loop-done.done ≡ c.len-count.result - 1 = omega (arith, c.loop-done-test.false, c.loop-done.auto.done-end) in
    let whole : take (c.len-count.result - 1 + 1) scans ≡ scans = ap (λ (n : ℕ). take n scans) (let n : c.len-count.result - 1 + 1 ≡ length scans = omega (arith, c.if-count-eq0.false, c.len-count.ensures) in n) ∙ take-length scans in
    subst (λ (l : List ℕ). Carry c.scan_one-2.new.channels (scanned_by edges c.args.from c.args.change flight l)) whole
    (c.in_ok-scan_one-2.ensures.ok edges flight (subst (λ (w : ℕ). AllRoute w c.args.routes.now.items edges) (sym kept.width) all)
    (subst (λ (n : ℕ). Carry c.loop-done.channels (scanned_by edges c.args.from c.args.change flight (take n scans))) last (kept.carry edges flight all was)))
