use Rattle.std.proofs.Common.{◌-◌, ◌++◌, List, map, take, replicate, ap, ◌∙◌, arith, append_assoc}
use Rattle.std.proofs.lemmas.List.{length-map}
use Rattle.ct_value.specs.declared.row.Row.{Row}
use Rattle.op_topn.proofs.FirstRows.{filled}
use Rattle.op_topn.proofs.rows.push_some.Goals as goal

pub returns-clause-ok : goal.returns-clause-ok
returns-clause-ok g c = λ more.
    let room = c.args.bound - c.len.result in
    let rows = map (λ key. key.now.1) c.args.keys.now.items in
    let same = length-map c.args.keys.now.items (λ key. key.now.1) in
    ap (λ (xs : List Row). take c.args.bound (xs ++ more)) c.in_ok-push_copies.ensures.ok
    ∙ ap (take c.args.bound) (append_assoc rows (replicate c.min.result c.args.key.now.1) more)
    ∙ filled c.args.bound room c.min.result c.args.copies rows c.args.key.now.1 more (omega (arith, c.len.ensures, c.requires, same))
    (record { left = λ h. omega (arith, c.min.ensures); right = λ h. omega (arith, c.min.ensures) })
