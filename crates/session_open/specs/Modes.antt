-- The mode of an edge as it is decided when a job opens, and what is kept of the rows that it tells.
use Rattle.std.specs.Prelude.{ℕ}
use Rattle.ct_change.specs.Changelog.{Mode, Rows, append, retract, upsert}
use Rattle.ct_change.specs.LastRows.{AreLast}
use Rattle.phys_plan.specs.declared.plan.Plan.{Plan}
use Rattle.phys_plan.specs.Reading.{numbered}
use Rattle.plan_rules.specs.Around.{mode_read}
use Rattle.plan_rules.specs.Plans.{kinds_in, update_in}
use Rattle.session_open.specs.declared.mode.AnyKept.{AnyKept}
use Rattle.session_open.specs.declared.mode.AnyKept.TheVariants.{Nothing, LastRows}
use Rattle.session_open.specs.declared.mode.AnyMode.{AnyMode}
use Rattle.session_open.specs.declared.mode.AnyMode.TheVariants.{Append, Retract, UpsertBy}

abbrev pub mode_in : AnyMode → Mode
mode_in Append = append
mode_in Retract = retract
mode_in (UpsertBy by) = upsert by.key

-- the mode in which the edge of a plan's node is read
abbrev pub mode_from : Plan → ℕ → Mode
mode_from plan number = mode_read (kinds_in (numbered plan.edges number)) (update_in (numbered plan.edges number))

-- what is kept is that of the mode, and stands for these rows
abbrev pub IsKeptFor : AnyMode → AnyKept → Rows → Type 0
IsKeptFor Append Nothing rows = Unit {0}
IsKeptFor Append (LastRows lasts) rows = ⊥
IsKeptFor Retract Nothing rows = Unit {0}
IsKeptFor Retract (LastRows lasts) rows = ⊥
IsKeptFor (UpsertBy by) Nothing rows = ⊥
IsKeptFor (UpsertBy by) (LastRows lasts) rows = AreLast by.key lasts rows
