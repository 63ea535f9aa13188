-- Answers with short texts: one behind the other, and those that replace a row by another.
use Rattle.std.proofs.Common.{◌≡◌, ℕ, zero, suc, ◌==◌, ◌≤◌, Bool, true, false, cond, List, [], ◌∷◌, ◌++◌, length, take, Option, Some, None, Ok, Err, refl, arith}
use Rattle.std.specs.List.{AllByRecursion, find}
use Rattle.std.proofs.lemmas.Bool.{eqb-true}
use Rattle.ct_value.specs.declared.row.Row.{Row}
use Rattle.ct_change.specs.declared.change.Change.{Change}
use Rattle.ct_change.specs.Changelog.{Mode, append, retract, upsert, same_row}
use Rattle.ct_value.specs.declared.value.Value.TheVariants.{Null}
use Rattle.ct_change.specs.Emission.{update, emission}
use Rattle.ct_change.specs.KeyRows.{is_among, keyed_from, key_row, row_told}
use Rattle.op_rules.specs.History.{Arrival, at_port}
use Rattle.op_rules.specs.Rules.{Answer, appended}
use Rattle.op_rules.proofs.laws.Histories.{all-append, all-each}
use Rattle.range_rules.specs.Tame.{is_short}
use Rattle.range_rules.specs.Ranges.{IsShortRow, IsShort, ArrivesShort, IsAnswerOf, IsShortAnswer}

-- ---- one behind the other

pub appended_all : (P : Change → Type 0) (a b : Answer) → IsAnswerOf P a → IsAnswerOf P b → IsAnswerOf P (appended a b)
appended_all P (Ok changes) (Ok others) h k = all-append P changes others h k
appended_all P (Ok changes) (Err row) h k = absurd k
appended_all P (Err row) b h k = absurd h

pub appended_short : (a b : Answer) → IsShortAnswer a → IsShortAnswer b → IsShortAnswer (appended a b)
appended_short a b h k = appended_all IsShort a b h k

pub all_if : (P : Change → Type 0) (b : Bool) (changes others : List Change) → AllByRecursion P changes → AllByRecursion P others → AllByRecursion P (cond b changes others)
all_if P true changes others h k = h
all_if P false changes others h k = k

-- ---- a row is replaced by another

-- a row, if there is one, has short texts
abbrev pub IsShortIf : Option Row → Type 0
IsShortIf None = Unit {0}
IsShortIf (Some row) = IsShortRow row

update_short : (mode : Mode) (old fresh : Row) → IsShortRow old → IsShortRow fresh → AllByRecursion IsShort (update mode old fresh)
update_short append old fresh h k = tt
update_short retract old fresh h k = (h, (k, tt))
update_short (upsert key) old fresh h k = (k, tt)

-- a row that went is told by values of its own
keyed_short : (key : List ℕ) (column : ℕ) (row : Row) → IsShortRow row → IsShortRow (keyed_from key column row)
keyed_short key column [] h = tt
keyed_short key column (value ∷ values) h = (elim (is_among key column) as (λ b. is_short (cond b value Null) ≡ true) [ true ↦ h.0 | false ↦ refl ], keyed_short key (suc column) values h.1)

pub key_row_short : (key : List ℕ) (row : Row) → IsShortRow row → IsShortRow (key_row key row)
key_row_short key row h = keyed_short key 0 row h

pub told_short : (mode : Mode) (comes : Bool) (row : Row) → IsShortRow row → IsShortRow (row_told mode comes row)
told_short mode true row h = h
told_short append false row h = h
told_short retract false row h = h
told_short (upsert key) false row h = key_row_short key row h

pub emission_short : (mode : Mode) (old fresh : Option Row) → IsShortIf old → IsShortIf fresh → AllByRecursion IsShort (emission mode old fresh)
emission_short mode None None h k = tt
emission_short mode None (Some fresh) h k = (k, tt)
emission_short mode (Some old) None h k = (told_short mode false old h, tt)
emission_short mode (Some old) (Some fresh) h k = all_if IsShort (same_row old fresh) [] (update mode old fresh) tt (update_short mode old fresh h k)

found_here : (b : Bool) (row : Row) (o : Option Row) → IsShortRow row → IsShortIf o → IsShortIf (cond b (Some row) o)
found_here true row o h k = h
found_here false row o h k = k

pub found_short : (test : Row → Bool) (rows : List Row) → AllByRecursion IsShortRow rows → IsShortIf (find test rows)
found_short test [] h = tt
found_short test (row ∷ rows) h = found_here (test row) row (find test rows) h.0 (found_short test rows h.1)

-- ---- what came to a port

pub at_port_all : (P : Change → Type 0) (port : ℕ) (arrivals : List Arrival) → AllByRecursion (λ a. a.port ≡ port → P a.change) arrivals → AllByRecursion P (at_port port arrivals)
at_port_all P port [] h = tt
at_port_all P port (a ∷ others) h =
    elim (a.port == port) as (λ b. (a.port == port) ≡ b → AllByRecursion P (cond b (a.change ∷ at_port port others) (at_port port others))) [
      | true ↦ λ e. (h.0 (eqb-true a.port port e), at_port_all P port others h.1)
      | false ↦ λ e. at_port_all P port others h.1
    ] refl

pub at_port_short : (port : ℕ) (arrivals : List Arrival) → AllByRecursion ArrivesShort arrivals → AllByRecursion IsShort (at_port port arrivals)
at_port_short port arrivals h = at_port_all IsShort port arrivals (all-each ArrivesShort (λ a. a.port ≡ port → IsShort a.change) (λ a k e. k) arrivals h)

pub at_port_few : (port : ℕ) (arrivals : List Arrival) → length (at_port port arrivals) ≤ length arrivals
at_port_few port [] = omega arith
at_port_few port (a ∷ others) =
    elim (a.port == port) as (λ b. length (cond b (a.change ∷ at_port port others) (at_port port others)) ≤ length (a ∷ others)) [
      | true ↦ omega (arith, at_port_few port others)
      | false ↦ omega (arith, at_port_few port others)
    ]

-- ---- parts of rows

pub take_short : (n : ℕ) (row : Row) → IsShortRow row → IsShortRow (take n row)
take_short n [] h = nothing n
  where
    nothing : (n : ℕ) → IsShortRow (take n [])
    nothing zero = tt
    nothing (suc n) = tt
take_short zero (value ∷ row) h = tt
take_short (suc n) (value ∷ row) h = (h.0, take_short n row h.1)

pub both_short : (row other : Row) → IsShortRow row → IsShortRow other → IsShortRow (row ++ other)
both_short [] other h k = k
both_short (value ∷ row) other h k = (h.0, both_short row other h.1 k)
