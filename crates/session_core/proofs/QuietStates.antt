-- A state is quiet where no channel and no bundle holds anything.
use Rattle.std.proofs.Common.{◌≡◌, ℕ, ◌+◌, ◌<◌, [], arith, inl, inr}
use Rattle.std.proofs.lemmas.Bool.{cases_lt}
use Rattle.stream_model.specs.Network.{Network, IsWired}
use Rattle.stream_model.specs.Machine.{State, IsQuiet}
use Rattle.session_core.specs.Kept.{IsFlightQuiet}
use Rattle.session_core.specs.Runs.{AreEmpty}

pub is_quiet : (g : Network) (width : ℕ) (s : State) → IsWired g → width ≡ g.subtasks → ((v j : ℕ) → g.count < v → s.bundle v j ≡ []) → IsFlightQuiet g s → AreEmpty g width s.bundle → IsQuiet g s
is_quiet g width s wired same outside flight empty = record {
  flight = λ e i j feed fed li lj. flight e i j feed fed li lj;
  bundle = λ v j lj. elim (cases_lt v (g.count + 1)) [
    | inl lv ↦ empty v lv j (omega (arith, lj, same))
    | inr past ↦ outside v j (omega (arith, past))
  ];
}

pub all_empty : (g : Network) (width : ℕ) (s : State) → width ≡ g.subtasks → IsQuiet g s → AreEmpty g width s.bundle
all_empty g width s same quiet v lv j lj = quiet.bundle v j (omega (arith, lj, same))
