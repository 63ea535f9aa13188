use Rattle.typing_laws.proofs.laws.AnswerTypes.{answers_fit}
use Rattle.typing_laws.proofs.of_answers.answers_fit.Goals as goal

pub returns : goal.returns
returns c tables typed rel columns rows t e = answers_fit tables typed rel columns rows t e
