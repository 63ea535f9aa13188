-- EXCEPT, as one step of a walk over terms.
use Rattle.std.specs.Prelude.{Bool, true, Ok}
use Rattle.binding.specs.Checked.{Checked, ◌>>=◌}
use Rattle.binding.specs.Queries.{Relation, Run, begun, closed, operated}

-- what is left of all that stands before it begins a run
abbrev pub excepted : Bool → Run → Relation → Checked Run
excepted all run x = operated true all (closed run) x >>= λ y. Ok (begun y)
