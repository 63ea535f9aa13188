-- What stands between a tree and its sink: nothing, or a materializer by the sink's key.
use Rattle.std.specs.Prelude.{ℕ, List, cond, Option, None, Some}
use Rattle.plan_inferred.specs.declared.ways.Way.{Way}
use Rattle.plan_rules.specs.Pieces.{Top, bare, shown}
use Rattle.planner.specs.Refusals.{has_materializer}

-- the key of the materializer before a sink with this key, which takes what comes in this way
abbrev pub shown_key : Way → Option (List ℕ) → Option (List ℕ)
shown_key way key = cond (has_materializer way) key None

abbrev pub top_of : Option (List ℕ) → Top
top_of None = bare
top_of (Some key) = shown key

abbrev pub top_by : Way → Option (List ℕ) → Top
top_by way key = top_of (shown_key way key)
