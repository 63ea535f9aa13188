-- The theorems of this crate, put together of its lemmas.
use Rattle.range_rules.proofs.Queries as queries
use Rattle.range_rules.specs.Statement.{QueriesAreTame, InsertsAreTame}

-- Over any tables, a query without arithmetic is bound to a tree that calculates nothing.
pub queries_are_tame : QueriesAreTame
queries_are_tame = queries.queries_are_tame

-- So is the query of an INSERT.
pub inserts_are_tame : InsertsAreTame
inserts_are_tame = queries.inserts_are_tame
