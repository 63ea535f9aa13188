use Rattle.typing_laws.proofs.laws.Typed.{is_of_its_column}
use Rattle.typing_laws.proofs.of_expressions.values_are_of_their_column.Goals as goal

pub returns : goal.returns
returns c columns row fits expr column e = is_of_its_column columns row fits expr column e
