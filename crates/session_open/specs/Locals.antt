-- What is kept of a local group below a node.
use Rattle.std.specs.Prelude.{◌≡◌, Option, Some, None}
use Rattle.phase_rules.specs.LocalGrouping.{LocalGrouping}
use Rattle.session_open.specs.declared.locals.Local.{Local}

-- it sums up what this grouping sums up, however rows come to it
abbrev pub IsLocal : Option Local → Option LocalGrouping → Type 0
IsLocal None None = Unit {0}
IsLocal None (Some l) = ⊥
IsLocal (Some local) None = ⊥
IsLocal (Some local) (Some l) = (l.keys ≡ local.keys) × (l.aggs ≡ local.aggs) × (l.columns ≡ local.types)
