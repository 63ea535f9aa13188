use Rattle.std.proofs.Common.{◌≡◌, ◌-◌, length}
use Rattle.sql_syntax.specs.Tree.{items}
use Rattle.sql_syntax.specs.View.{items_view}
use Rattle.bind_forms.specs.Lists.{only_place}
use Rattle.bind_forms.proofs.Around.{from}
use Rattle.bind_forms.proofs.places.only_place.Given as goal

abbrev pub invariant-items : goal.invariant-items
invariant-items l = only_place (items (items_view l.items)) ≡ from l.items l.place

abbrev pub decreases-items : goal.decreases-items
decreases-items l = length l.items - l.place
