-- Of which names the sources of a FROM have columns.
use Rattle.std.specs.Prelude.{Bool, true, false, ◌&&◌, ◌||◌, List, Option, Some, None}
use Rattle.std.specs.List.{list_any}
use Rattle.std.specs.Option.{unwrap_or}
use Rattle.std.specs.Str.{bytes_eq}
use Rattle.ct_catalog.specs.declared.table.TableDef.{TableDef}
use Rattle.sql_syntax.specs.Tree.{Tree, Text}
use Rattle.sql_syntax.specs.Tree as t
use Rattle.query_answer.specs.Names.{is_called}

-- a plain column gives its name
abbrev pub plain_name : Tree → Option Text
plain_name (t.Name of name quoted) = Some name
plain_name (t.Paren x) = plain_name x
plain_name _ = None

abbrev pub item_name : Tree → Option Text → Option Text
item_name x None = plain_name x
item_name x (Some name) = Some name

-- an item other than a star makes a column of this name
abbrev pub makes : Text → t.Items → Bool
makes name t.no_items = false
makes name (t.item_and (t.One x own) xs) = is_called name (item_name x own) || makes name xs
makes name (t.item_and _ xs) = makes name xs

-- whether a source of this name, if it has one, is meant: by a name's source, or by a star
abbrev pub of_source : Option Text → Option Text → Bool
of_source None source = true
of_source (Some name) source = is_called name source

abbrev pub by_star : t.Items → Option Text → Bool
by_star t.no_items source = false
by_star (t.item_and t.All xs) source = true
by_star (t.item_and (t.AllOf name) xs) source = is_called name source || by_star xs source
by_star (t.item_and (t.One x name) xs) source = by_star xs source

module _ (tables : List TableDef) where
  abbrev pub table_has : Text → Text → Bool
  table_has table name = list_any (λ x. bytes_eq table x.name && list_any (λ c. bytes_eq name c.name) x.cols) tables

  abbrev mutual
    -- a source that is meant has a column of this name
    pub source_has : (Option Text → Bool) → Text → t.Source → Bool
    source_has meant name (t.Table table alias) = meant (Some (unwrap_or alias table)) && table_has table name
    source_has meant name (t.FromQuery q alias) = meant alias && query_has name q

    pub joins_have : (Option Text → Bool) → Text → t.JoinItems → Bool
    joins_have meant name t.no_joins = false
    joins_have meant name (t.join_and (t.join_of word source on) js) = source_has meant name source || joins_have meant name js

    -- by its first select
    pub query_has : Text → t.Query → Bool
    query_has name (t.query_of (t.term_of x xs) ts order limit) = select_has name x

    -- by its items, or by the sources whose columns these list
    pub select_has : Text → t.Select → Bool
    select_has name (t.select_of distinct items from joins condition groups having) =
        makes name items || (source_has (by_star items) name from || joins_have (by_star items) name joins)

  abbrev pub sources_have : (Option Text → Bool) → Text → t.Source → t.JoinItems → Bool
  sources_have meant name from joins = source_has meant name from || joins_have meant name joins
