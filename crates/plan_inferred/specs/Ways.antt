-- How an upsert sink takes the changes of the node below it, a materializer aside.
use Rattle.std.specs.Prelude.{ℕ, Bool, false, cond, ◌&&◌, ◌||◌, List, Option, None, Some}
use Rattle.ct_change.specs.declared.kind.KindSet.{KindSet}
use Rattle.phys_plan.specs.declared.node.KeyInfo.{KeyInfo}
use Rattle.column_sets.specs.Sets.{has_within, same_set}
use Rattle.upsert_keys.specs.Seen.{everywhere}
use Rattle.plan_inferred.specs.declared.ways.Way.{Way}
use Rattle.plan_inferred.specs.declared.ways.Way.TheVariants.{Forced, NewRows, Direct, Materialized, Refused}

-- whether one row stands under each of the sink's keys, over all subtasks and at every moment
abbrev pub holds_everywhere : KeyInfo → List ℕ → Bool
holds_everywhere keys sink = has_within (everywhere keys) sink

-- whether one row stands under each of the sink's keys in each answer
abbrev pub holds_in_answers : KeyInfo → List ℕ → Bool
holds_in_answers keys sink = has_within keys.unique sink

-- whether new rows tell by the sink's key which rows they replace
abbrev pub tells_by : KindSet → Option (List ℕ) → List ℕ → Bool
tells_by kinds None sink = false
tells_by kinds (Some key) sink = kinds.ua && same_set key sink

-- where a materializer is asked for: there is one, where a key holds in answers
abbrev pub forced_way : List ℕ → KeyInfo → Way
forced_way sink keys = cond (holds_everywhere keys sink || holds_in_answers keys sink) Forced Refused

-- otherwise the first of the ways that is open
abbrev pub open_way : List ℕ → KindSet → Option (List ℕ) → KeyInfo → Way
open_way sink kinds key keys =
    cond (tells_by kinds key sink) NewRows (cond (holds_everywhere keys sink) Direct (cond (holds_in_answers keys sink) Materialized Refused))

-- by the sink's key, and the kinds, the update key and the keys of the node
abbrev pub way_of : Bool → List ℕ → KindSet → Option (List ℕ) → KeyInfo → Way
way_of force sink kinds key keys = cond force (forced_way sink keys) (open_way sink kinds key keys)
