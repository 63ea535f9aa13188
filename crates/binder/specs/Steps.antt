-- Steps of the walk of a query, as the code takes them.
use Rattle.std.specs.Prelude.{◌≡◌, ℕ, ◌-◌, nat_lt, length, Bool, false, not, ◌&&◌, ◌||◌, cond, List, Option, Some, None, Ok, Err}
use Rattle.ct_value.specs.declared.codes.ScriptCode.TheVariants.{RankUnbounded, Unsupported}
use Rattle.ct_catalog.specs.declared.table.TableDef.{TableDef}
use Rattle.sql_syntax.specs.Tree.{Tree, Text}
use Rattle.sql_syntax.specs.Tree as t
use Rattle.query_answer.specs.Answer.{Entry, conjuncts, entries, is_grouped, types}
use Rattle.query_answer.specs.Forms.{is_plain, is_simple}
use Rattle.query_answer.specs.Names.{Scope}
use Rattle.query_answer.specs.Ranks.{Ranked}
use Rattle.binding.specs.Checked.{Checked, ◌>>=◌}
use Rattle.binding.specs.Inserts.{scans}
use Rattle.rel_algebra.specs.GoesInto.{go_into}
use Rattle.ct_catalog.specs.Columns.{column_types}
use Rattle.binding.specs.Queries.{Outside, Part, Relation, Run, Framed, FromWhere, Only, all_parts_bound, all_parts_but, alone, alone_bound, closed, denied_bound, exists_bound, exists_part, framed, grouped_select, inside_bound, joins_bound, kept, list_bound, member_part, own_value, parts_bound, parts_but, plain_listed, plain_part, plain_select, query_bound, ranked_list, read_by, source_bound}

-- a query with ORDER BY or LIMIT is refused behind its terms
abbrev pub unless_ordered : t.SortList → Option Text → Run → Checked Relation
unless_ordered order limit run = cond (is_plain order limit) (Ok (closed run)) (Err Unsupported)

-- the select list, before DISTINCT
abbrev pub listed : List Entry → List Tree → t.OptionalTree → Relation → Checked Relation
listed es groups having x = cond (is_grouped es groups having) (grouped_select es groups having x) (plain_select es x)

-- a query that reads its sink, whose number is this one, or whose columns don't go into it
abbrev pub misfits : ℕ → Relation → TableDef → Bool
misfits number x sink = scans number x.rel || not (go_into (types x.scope) (column_types sink))

-- ---- subqueries

-- it isn't refused
abbrev pub IsOk : {A : Type 0} → Checked A → Type 0
IsOk {A} r = (x : A) × (r ≡ Ok x)

abbrev pub member_bound : Bool → List TableDef → Outside → Scope → Tree → t.Query → Checked Part
member_bound free sources outside own x q = plain_part outside own x >>= own_value >>= λ a. query_bound free sources q >>= member_part own x a

-- a conjunct that is neither an AND nor in parentheses
abbrev pub part_bound : Bool → List TableDef → Outside → Scope → Tree → Checked Part
part_bound free sources outside own (t.Exists q) = exists_bound free sources false own q
part_bound free sources outside own (t.Not x) = denied_bound free sources outside own (t.Not x) x
part_bound free sources outside own (t.InQuery x q false) = member_bound free sources outside own x q
part_bound free sources outside own x = plain_part outside own x

abbrev pub only_part : Bool → List TableDef → Outside → Scope → Tree → Checked (List Part)
only_part free sources outside own x = part_bound free sources outside own x >>= alone

-- the subquery of an EXISTS, by its first select; it is sole where nothing else stands in it
abbrev pub exists_simple : Bool → List TableDef → Bool → Scope → Bool → t.Select → Checked Part
exists_simple free sources anti outside sole x = cond (is_simple x && sole) (inside_bound free sources anti outside x) (Err Unsupported)

-- ---- conjuncts, but for one that may be spent

abbrev pub left_bound : Bool → List TableDef → Option ℕ → Outside → Scope → Tree → Checked (List Part)
left_bound free sources None outside own x = parts_bound free sources outside own x
left_bound free sources (Some n) outside own x = parts_but free sources n outside own x

abbrev pub all_left_bound : Bool → List TableDef → Option ℕ → Outside → Scope → t.Trees → Checked (List Part)
all_left_bound free sources None outside own xs = all_parts_bound free sources outside own xs
all_left_bound free sources (Some n) outside own xs = all_parts_but free sources n outside own xs

-- in a tree itself, and behind it
abbrev pub spent_here : Option ℕ → Tree → Option ℕ
spent_here None x = None
spent_here (Some n) x = cond (nat_lt n (length (conjuncts x))) (Some n) None

abbrev pub spent_behind : Option ℕ → Tree → Option ℕ
spent_behind None x = None
spent_behind (Some n) x = cond (nat_lt n (length (conjuncts x))) None (Some (n - length (conjuncts x)))

-- ---- what a select reads

abbrev pub joined_framed : Bool → List TableDef → t.Select → Checked Framed
joined_framed free sources (t.select_of distinct items from joins condition groups having) =
    source_bound free sources from >>= joins_bound free sources joins >>= λ x. Ok (record { relation = x; spent = None })

abbrev pub only_framed : Bool → List TableDef → t.Select → t.Source → Checked Framed
only_framed free sources outer from = read_by t.no_joins (alone_bound free sources from) (source_bound free sources from) >>= framed free sources outer

abbrev pub read_framed : Bool → List TableDef → t.Select → Checked Framed
read_framed free sources (t.select_of distinct items from joins condition groups having) =
    read_by joins (alone_bound free sources from) (source_bound free sources from >>= joins_bound free sources joins) >>= framed free sources (t.select_of distinct items from joins condition groups having)

-- of a query with a rank
abbrev pub from_list : Bool → List TableDef → t.Select → Option Text → Ranked → FromWhere → Checked Framed
from_list free sources outer alias q f = ranked_list q (kept f.parts f.relation) >>= λ x. framed free sources outer (Only (record { alias = alias; list = x }))

-- ---- the list of an EXISTS's subquery

abbrev pub plain_exists : Bool → t.Select → FromWhere → Checked Part
plain_exists anti (t.select_of distinct items from joins condition groups having) f =
    list_bound (plain_listed f.relation.scope) (entries f.relation.scope items) >>= λ listed. Ok (exists_part anti f.parts f.relation)

abbrev pub ranked_exists : Bool → Bool → Ranked → FromWhere → Checked Part
ranked_exists free anti q f = ranked_list q f.relation >>= λ x. cond free (Ok (exists_part anti f.parts f.relation)) (Err RankUnbounded)
