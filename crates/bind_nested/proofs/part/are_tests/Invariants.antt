use Rattle.std.proofs.Common.{◌≡◌, drop}
use Rattle.bind_nested.proofs.Plains.{tests_from}
use Rattle.bind_nested.proofs.part.are_tests.Given as goal

abbrev pub invariant-loop-part : goal.invariant-loop-part
invariant-loop-part l = tests_from l.parts ≡ tests_from (drop l.part-index l.part-items)
