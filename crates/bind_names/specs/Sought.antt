-- Which names the code looks for.
use Rattle.std.specs.Prelude.{Bool, ◌&&◌, Option, Some, None}
use Rattle.std.specs.Str.{bytes_eq}
use Rattle.sql_syntax.specs.Tree.{Text}
use Rattle.query_answer.specs.Names.{is_called}
use Rattle.query_answer.specs.Outside.{is_foreign}
use Rattle.bind_names.specs.declared.sought.RankName.{RankName}
use Rattle.bind_names.specs.declared.sought.Sought.{Sought}
use Rattle.bind_names.specs.declared.sought.Sought.TheVariants as s

abbrev pub reads : RankName → Option Text → Text → Bool
reads x None name = x.bare && bytes_eq x.name.now name
reads x (Some source) name = x.sourced && (is_called source x.alias.now && bytes_eq x.name.now name)

abbrev pub is_sought : Sought → Option Text → Text → Bool
is_sought (s.Foreign own) = is_foreign own.now
is_sought (s.Rank x) = reads x
