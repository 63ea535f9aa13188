use Rattle.std.proofs.Common.{◌≡◌, ◌+◌, ◌++◌, drop, map}
use Rattle.std.specs.Fmt.{decimal}
use Rattle.phys_plan.specs.Explained.{behind_commas}
use Rattle.phys_plan.proofs.texts.push_others.Given as goal

abbrev pub invariant-loop-number : goal.invariant-loop-number
invariant-loop-number l =
    l.text ++ behind_commas (map decimal (map (λ n. l.before + n) (drop l.number-index l.numbers))) ≡ l.initial.text ++ behind_commas (map decimal (map (λ n. l.before + n) l.numbers))
