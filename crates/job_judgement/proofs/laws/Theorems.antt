-- The theorems of this crate, put together of its lemmas.
use Rattle.job_judgement.proofs.Bound.{script_bound}
use Rattle.job_judgement.specs.Judged.{IsBound, IsJudged}
use Rattle.job_judgement.specs.Judgement.{Accepted}

-- The query of an accepted script is bound over the tables that its text declares.
pub accepted_is_bound : (script : Accepted) → IsJudged script → IsBound script
accepted_is_bound = script_bound
