-- What is known of an accepted script.
use Rattle.std.specs.Prelude.{◌≡◌, ℕ, List, Ok}
use Rattle.sql_syntax.specs.Tree.{Text}
use Rattle.judge.specs.Judgement.{Asked, asked_of}
use Rattle.binding.specs.Inserts.{insert_bound}
use Rattle.job_judgement.specs.Judgement.{Accepted, judgement}

-- it is what a text is judged to be
pub record IsJudged (script : Accepted) : Type 0 where
  pub text : List ℕ
  pub judged : judgement text ≡ Ok script

-- its tables and settings are those of a text, and its query is bound over them
pub record IsBound (script : Accepted) : Type 0 where
  pub text : List ℕ
  pub asked : Asked
  pub table : Text
  pub asks : asked_of text ≡ Ok asked
  pub tables : asked.catalogue ≡ script.catalogue
  pub bound : insert_bound script.catalogue.tables table script.query ≡ Ok script.inserted
