-- The subquery of an EXISTS by its first select.
use Rattle.std.proofs.Common.{◌≡◌, Bool, List, sym, ap, ◌∙◌}
use Rattle.ct_catalog.specs.declared.table.TableDef.{TableDef}
use Rattle.sql_syntax.specs.declared.tree.Args.TheViews.{out-Query, out-Term}
use Rattle.sql_syntax.specs.declared.tree.Query.{Query}
use Rattle.sql_syntax.specs.View.{query_view, select_view}
use Rattle.sql_syntax.proofs.laws.Views.{query_parts}
use Rattle.query_answer.specs.Forms.{is_sole}
use Rattle.query_answer.specs.Names.{Scope}
use Rattle.binding.specs.Queries.{exists_bound}
use Rattle.binder.specs.Steps.{exists_simple}

pub by_exists : (free : Bool) (sources : List TableDef) (anti : Bool) (outside : Scope) (x : Query)
    → exists_bound free sources anti outside (query_view x) ≡ exists_simple free sources anti outside (is_sole (query_view x)) (select_view (out-Term (out-Query x).first).first)
by_exists free sources anti outside x =
    ap (exists_bound free sources anti outside) (query_parts x)
    ∙ ap (λ q. exists_simple free sources anti outside (is_sole q) (select_view (out-Term (out-Query x).first).first)) (sym (query_parts x))
