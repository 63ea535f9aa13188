-- An accepted script as the definitions see it.
use Rattle.sql_syntax.specs.View.{query_view}
use Rattle.rewrite.specs.Views.{inserted_view}
use Rattle.job_judgement.specs.declared.accepted.Accepted.{Accepted as AcceptedValue}
use Rattle.job_judgement.specs.Judgement.{Accepted}

abbrev pub accepted_view : AcceptedValue → Accepted
accepted_view x = record { statement = x.statement; catalogue = x.catalog; query = query_view x.query; inserted = inserted_view x.inserted }
