-- Which sinks print each change as it came.
use Rattle.std.specs.Prelude.{Bool, true, false}
use Rattle.ct_change.specs.declared.kind.Declared.{Declared}
use Rattle.ct_change.specs.declared.kind.Declared.TheVariants.{Append, Retract, Upsert}

-- all but upsert ones, which tell of a row that goes by its key
abbrev pub relays : Declared → Bool
relays Append = true
relays Retract = true
relays Upsert = false
