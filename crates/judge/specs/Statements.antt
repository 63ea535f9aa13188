-- Statements of which the last is the INSERT.
use Rattle.std.specs.Prelude.{◌≡◌, ℕ, List, [], ◌∷◌, ◌++◌, map, Ok}
use Rattle.sql_syntax.specs.declared.statement.Statement.{Statement}
use Rattle.sql_syntax.specs.View.{statement_view}
use Rattle.ct_catalog.specs.Catalogue.{Catalogue, empty}
use Rattle.judge.specs.Judgement.{asked_by, asked_from}

-- behind the statements that lead to this catalogue stands the INSERT, with this number
pub record EndsWithInsert (statements : List Statement) (c : Catalogue) (number : ℕ) : Type 0 where
  pub before : List Statement
  pub last : Statement
  pub are : statements ≡ before ++ last ∷ []
  pub asks : asked_from empty 1 (map statement_view statements) ≡ Ok (asked_by c number (statement_view last))
