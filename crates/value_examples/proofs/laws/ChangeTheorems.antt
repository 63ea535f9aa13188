-- The theorems of this crate, put together of its lemmas.
use Rattle.std.proofs.Common.{refl}
use Rattle.value_examples.specs.Changes.{AgreesWith, kinds, kind_facts, emissions, emission_facts, differences, difference_facts, groups, group_facts, routes, route_facts}

-- Which kinds add their row, and which modes admit them.
pub kinds_as_worked : AgreesWith kind_facts kinds
kinds_as_worked = refl

-- What is emitted for a row that is replaced.
pub emissions_as_worked : AgreesWith emission_facts emissions
emissions_as_worked = refl

-- What goes and what comes by a change of an upsert changelog.
pub differences_as_worked : AgreesWith difference_facts differences
differences_as_worked = refl

-- What a group emits when its size changes.
pub sized_as_worked : AgreesWith group_facts groups
sized_as_worked = refl

-- To which subtask a key goes.
pub routes_as_worked : AgreesWith route_facts routes
routes_as_worked = refl
