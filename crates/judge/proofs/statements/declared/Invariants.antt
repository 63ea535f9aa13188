use Rattle.std.proofs.Common.{◌≡◌, ◌≤◌, ◌+◌, ◌++◌, List, map, length}
use Rattle.sql_syntax.specs.declared.statement.Statement.{Statement}
use Rattle.sql_syntax.specs.View.{statement_view}
use Rattle.ct_catalog.specs.Catalogue.{empty}
use Rattle.judge.specs.Judgement.{asked_from}
use Rattle.judge.proofs.statements.declared.Given as goal

abbrev pub invariant-statements : goal.invariant-statements
invariant-statements l = record {
  before : List Statement;
  are : l.statements ≡ before ++ l.rest;
  same : asked_from l.catalog l.number (map statement_view l.rest) ≡ asked_from empty 1 (map statement_view l.statements);
  few : l.number + length l.rest ≤ 262146;
}

abbrev pub decreases-statements : goal.decreases-statements
decreases-statements l = length l.rest
