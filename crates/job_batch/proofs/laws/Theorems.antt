-- The theorems of this crate, put together of its lemmas.
use Rattle.std.proofs.Common.{refl}
use Rattle.job_batch.proofs.Over.{same_answer}
use Rattle.job_batch.specs.Agree.{AnswersAgree}
use Rattle.job_judgement.proofs.laws.Theorems.{accepted_is_bound}
use Rattle.query_laws.proofs.laws.Theorems.{inserts_keep_the_answer}

-- The tree to which an accepted query is bound has the answer of the query as it is written.
pub accepted_queries_keep_their_answers : AnswersAgree
accepted_queries_keep_their_answers = λ script judged rows fit. same_answer script (accepted_is_bound script judged) rows fit _ refl inserts_keep_the_answer
