-- The form Top-N: a select list with a rank, and the bound that the select outside sets on it.
use Rattle.std.specs.Prelude.{ℕ, zero, suc, ◌-◌, ◌==◌, nat_le, Bool, true, false, cond, ◌&&◌, ◌||◌, List, [], ◌∷◌, ◌++◌, ℤ, unsigned_abs, Option, Some, None, option_map}
use Rattle.std.specs.Str.{bytes_eq}
use Rattle.ct_value.specs.declared.ty.Ty.{Ty}
use Rattle.ct_value.specs.declared.ty.Ty.TheVariants.{Int}
use Rattle.ct_value.specs.declared.value.CompareOp.{CompareOp}
use Rattle.ct_value.specs.declared.value.CompareOp.TheVariants.{Eq, Lt, Le}
use Rattle.ct_catalog.specs.declared.table.TableDef.{TableDef}
use Rattle.rel_algebra.specs.declared.sort.SortCol.{SortCol}
use Rattle.rel_algebra.specs.Types.{largest_bound}
use Rattle.sql_syntax.specs.Tree.{Tree, Text}
use Rattle.sql_syntax.specs.Tree as t
use Rattle.query_answer.specs.declared.function.Function.{Function}
use Rattle.query_answer.specs.declared.function.Function.TheVariants.{RowNumber}
use Rattle.query_answer.specs.declared.scope.Found.{Found}
use Rattle.query_answer.specs.declared.scope.Found.TheVariants.{Absent, At, Several}
use Rattle.query_answer.specs.Forms.{first_select, is_simple, is_sole}
use Rattle.query_answer.specs.Functions.{function_of}
use Rattle.query_answer.specs.Joins.{plain_column}
use Rattle.query_answer.specs.Literals.{number_of}
use Rattle.query_answer.specs.Mentions.{in_conjuncts, in_items, in_optional, in_trees}
use Rattle.query_answer.specs.Names.{Lookup, is_called}
use Rattle.query_answer.specs.Shapes.{has_over}

-- ---- a rank in a select list

-- the OVER of a call of ROW_NUMBER with nothing else at it
abbrev pub row_number_over : Function → t.Args → t.OptionalTree → t.OptionalOver → t.OptionalOver
row_number_over RowNumber t.Empty t.no_tree over = over
row_number_over _ _ _ _ = t.no_over

-- that of a tree which is such a call as a whole, also in parentheses
abbrev pub rank_over : Tree → t.OptionalOver
rank_over (t.Call name args filter over) = row_number_over (function_of name) args filter over
rank_over (t.Paren x) = rank_over x
rank_over _ = t.no_over

abbrev pub item_over : t.Item → t.OptionalOver
item_over t.All = t.no_over
item_over (t.AllOf source) = t.no_over
item_over (t.One x name) = rank_over x

-- the name that AS gives
abbrev pub written_name : t.Item → Option Text
written_name t.All = None
written_name (t.AllOf source) = None
written_name (t.One x name) = name

abbrev pub has_rank : t.Items → Bool
has_rank t.no_items = false
has_rank (t.item_and x xs) = has_over (item_over x) || has_rank xs

-- a select list with one rank, which has a name, and the items that stand ahead of it and behind it
pub record Ranked : Type 0 where
  pub ahead : t.Items
  pub name : Text
  pub partition : t.Trees
  pub order : t.SortList
  pub behind : t.Items

abbrev pub one_ahead : t.Item → Ranked → Ranked
one_ahead x q = record { ahead = t.item_and x q.ahead; name = q.name; partition = q.partition; order = q.order; behind = q.behind }

abbrev pub named_rank : Option Text → t.Over → t.Items → Option Ranked
named_rank None over xs = None
named_rank (Some name) (t.over_of partition order) xs = Some (record { ahead = t.no_items; name = name; partition = partition; order = order; behind = xs })

-- a list that begins with this item, from the others alone
abbrev pub ranked_from : t.OptionalOver → t.Item → t.Items → Option Ranked → Option Ranked
ranked_from t.no_over x xs others = option_map (one_ahead x) others
ranked_from (t.some_over over) x xs others = cond (has_rank xs) None (named_rank (written_name x) over xs)

abbrev pub ranked_items : t.Items → Option Ranked
ranked_items t.no_items = None
ranked_items (t.item_and x xs) = ranked_from (item_over x) x xs (ranked_items xs)

-- a select with a rank: it has neither DISTINCT nor groups
abbrev pub ranked_select : t.Select → Option Ranked
ranked_select (t.select_of distinct items from joins condition groups having) =
    cond (is_simple (t.select_of distinct items from joins condition groups having)) (ranked_items items) None

-- a query that is such a select
abbrev pub ranked_query : t.Query → Option Ranked
ranked_query q = cond (is_sole q) (ranked_select (first_select q)) None

-- ---- PARTITION BY and ORDER BY

abbrev pub with_place : Found → List ℕ → List ℕ
with_place Absent ns = ns
with_place (At n ty) ns = n ∷ ns
with_place Several ns = ns

-- the places of plain columns; a query that is accepted has no other tree here
abbrev pub places : Lookup → t.Trees → List ℕ
places look t.no_trees = []
places look (t.tree_and x xs) = with_place (plain_column look x) (places look xs)

abbrev pub with_sort : Found → Bool → List SortCol → List SortCol
with_sort Absent desc sorts = sorts
with_sort (At n ty) desc sorts = record { col = n; desc = desc } ∷ sorts
with_sort Several desc sorts = sorts

abbrev pub sorts : Lookup → t.SortList → List SortCol
sorts look t.no_sorts = []
sorts look (t.sort_and (t.sort_of x desc) xs) = with_sort (plain_column look x) desc (sorts look xs)

-- ---- the bound

abbrev pub int_if : Ty → ℕ → Option ℕ
int_if Int n = Some n
int_if _ n = None

-- the number of a literal that is an INT
abbrev pub int_of : Option (ℤ × Ty) → Option ℕ
int_of None = None
int_of (Some n) = int_if n.1 (unsigned_abs n.0)

-- that of a tree which is such a literal, also in parentheses
abbrev pub int_literal : Tree → Option ℕ
int_literal (t.Number text) = int_of (number_of text)
int_literal (t.Paren x) = int_literal x
int_literal _ = None

-- how many ranks a comparison with a number leaves, from the first
abbrev pub ranks_left : CompareOp → ℕ → ℕ
ranks_left Le n = n
ranks_left Lt n = n - 1
ranks_left Eq n = cond (n == 1) 1 0
ranks_left _ n = 0

-- a bound is 1 to 10,000
abbrev pub bound_if : ℕ → Option ℕ
bound_if n = cond (nat_le 1 n && nat_le n largest_bound) (Some n) None

abbrev pub bound_by : CompareOp → Option ℕ → Option ℕ
bound_by op None = None
bound_by op (Some n) = bound_if (ranks_left op n)

abbrev pub is_at : ℕ → Found → Bool
is_at place Absent = false
is_at place (At n ty) = n == place
is_at place Several = false

-- the bound that a conjunct sets on the column at this place
abbrev pub bound_of : Lookup → ℕ → Tree → Option ℕ
bound_of look place (t.Compare op x y) = cond (is_at place (plain_column look x)) (bound_by op (int_literal y)) None
bound_of look place _ = None

-- a bound, and which conjunct sets it
pub record Top : Type 0 where
  pub conjunct : ℕ
  pub bound : ℕ

abbrev pub top_or : ℕ → Option ℕ → Option Top → Option Top
top_or n None others = others
top_or n (Some bound) others = Some (record { conjunct = n; bound = bound })

-- the first conjunct that sets one, counted from n
abbrev pub top_from : ℕ → Lookup → ℕ → List Tree → Option Top
top_from n look place [] = None
top_from n look place (c ∷ cs) = top_or n (bound_of look place c) (top_from (suc n) look place cs)

-- all but the n-th
abbrev pub without : {A : Type 0} → ℕ → List A → List A
without n [] = []
without zero (x ∷ xs) = xs
without (suc n) (x ∷ xs) = x ∷ without n xs

-- ---- whether the rank is kept

-- what is told with the rank, where it is kept
abbrev pub with_rank : {A : Type 0} → Bool → List A → A → List A → List A
with_rank true xs x ys = xs ++ x ∷ ys
with_rank false xs x ys = xs ++ ys

abbrev pub has_star : t.Items → Bool
has_star t.no_items = false
has_star (t.item_and t.All xs) = true
has_star (t.item_and (t.AllOf source) xs) = true
has_star (t.item_and (t.One x name) xs) = has_star xs

-- a name that may be the rank's, whose query has this alias
abbrev pub reads_rank : Option Text → Text → Option Text → Text → Bool
reads_rank alias rank None name = bytes_eq rank name
reads_rank alias rank (Some source) name = is_called source alias && bytes_eq rank name

-- the select outside lists a star, or has such a name, with these conjuncts besides the bound
abbrev pub is_looked_at : List TableDef → (Option Text → Text → Bool) → t.Items → List Tree → t.Trees → t.OptionalTree → Bool
is_looked_at tables test items others groups having = has_star items || (in_items test items || (in_conjuncts tables test others || (in_trees test groups || in_optional test having)))
