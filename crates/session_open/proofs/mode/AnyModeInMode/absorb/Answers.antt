use Rattle.std.proofs.Common.{rules}
use Rattle.std.proofs.lemmas.Result.{IfOk-weaker}
use Rattle.session_open.proofs.mode.AnyModeInMode.absorb.Goals.{in-Append-Nothing, in-Retract-Nothing, in-UpsertBy-LastRows}
use Rattle.session_open.proofs.mode.AnyModeInMode.absorb.Goals as goal

pub absorb-requires-clause-may : goal.absorb-requires-clause-may
absorb-requires-clause-may c = let may = c.requires.may in (may.0, tt, rw c.in-Append-Nothing.is-0 at may.2)

pub absorb-requires-in-Retract-Nothing-clause-may : goal.absorb-requires-in-Retract-Nothing-clause-may
absorb-requires-in-Retract-Nothing-clause-may c = let may = c.requires.may in (may.0, tt, rw c.in-Retract-Nothing.is-0 at may.2)

pub absorb-requires-in-UpsertBy-LastRows-clause-may : goal.absorb-requires-in-UpsertBy-LastRows-clause-may
absorb-requires-in-UpsertBy-LastRows-clause-may c =
    let may = c.requires.may in
    let is = c.in-UpsertBy-LastRows in
    (may.0, rw (is.is-0, is.is-1) at may.1, rw is.is-0 at may.2)

pub returns-clause-ok : goal.returns-clause-ok
returns-clause-ok c = elim c.match-self.branch [
  | in-Append-Nothing w ↦ rw (w.result-is, w.kept-is, w.in-Append-Nothing.is-0, w.in-Append-Nothing.is-1) (IfOk-weaker w.absorb.result _ _ (λ diff ok rows kept may. ok rows tt may) w.absorb.ensures.ok)
  | in-Retract-Nothing w ↦ search rules
  | in-UpsertBy-LastRows w ↦ search rules
]
