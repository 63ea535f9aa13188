use Rattle.std.specs.Prelude.{option_to_list}
use Rattle.ct_catalog.specs.Tables.{keys}
use Rattle.ct_catalog.proofs.Elements.{keys_one_by_one, gathered_step}
use Rattle.ct_catalog.proofs.create.keys.Goals as goal

pub loop-element-preserved : goal.loop-element-preserved
loop-element-preserved c =
    gathered_step keys keys_one_by_one c.args.elements.now c.loop-element.element-index c.element-item.result c.loop-element.list c.push_found.new.list (option_to_list c.in_ok-found.found) _
    c.loop-element-test.true c.element-item.is c.loop-element.invariant c.in_ok-found.ensures c.in_ok-push_found.ensures
