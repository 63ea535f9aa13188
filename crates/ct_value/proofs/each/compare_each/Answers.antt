use Rattle.std.proofs.Common.{ℕ, ◌+◌, drop, sym, ap, ◌∙◌, arith}
use Rattle.std.specs.Cmp.Lexicographic.{slice_cmp}
use Rattle.std.specs.Ordering.{ordering_then}
use Rattle.ct_value.proofs.Turns.{begun, ended, decides, defers}
use Rattle.ct_value.proofs.each.compare_each.Goals as goal

pub returns-then-is_ne : goal.returns-then-is_ne
returns-then-is_ne g c =
    let xs = c.args.left.now in
    let ys = c.args.right.now in
    let i : ℕ = c.loop-i.i in
    let inv = c.loop-i.invariant in
    let t = c.loop-i-test.true in
    let m = inv.0 in
    let x = c.index-left-i in
    let y = c.index-right-i in
    let R = g.T.Ord.cmp in
    let rest = slice_cmp R (drop (i + 1) xs) (drop (i + 1) ys) in
    decides _ rest (sym c.is_ne.ensures ∙ c.if-is_ne.true) ∙ ap (λ k. ordering_then k rest) c.cmp-found.ensures
    ∙ begun R xs ys i x.result y.result (omega arith) (omega arith) x.is y.is ∙ inv.2

pub loop-i-preserved : goal.loop-i-preserved
loop-i-preserved g c =
    let xs = c.args.left.now in
    let ys = c.args.right.now in
    let i : ℕ = c.loop-i.i in
    let inv = c.loop-i.invariant in
    let t = c.loop-i-test.true in
    let m = inv.0 in
    let x = c.index-left-i in
    let y = c.index-right-i in
    let R = g.T.Ord.cmp in
    let rest = slice_cmp R (drop (i + 1) xs) (drop (i + 1) ys) in (
      m,
      omega arith,
      defers _ rest (sym c.is_ne.ensures ∙ c.if-is_ne.false) ∙ ap (λ k. ordering_then k rest) c.cmp-found.ensures
          ∙ begun R xs ys i x.result y.result (omega arith) (omega arith) x.is y.is ∙ inv.2,
    )

pub returns : goal.returns
returns g c =
    let inv = c.loop-i.invariant in
    let m = inv.0 in
    let p = inv.1 in
    let q = c.loop-i-test.false in
    ended g.T.Ord.cmp c.args.left.now c.args.right.now c.loop-i.i c.cmp.result (omega arith) c.cmp.ensures ∙ inv.2
