-- What the view of each variant and of each struct is.
use Rattle.std.proofs.Common.{◌≡◌, ℕ, Bool, List, Option, Some, None, sym, ap, ◌∙◌}
use Rattle.std.specs.Prelude.{option_map}
use Rattle.ct_value.specs.declared.value.CompareOp.{CompareOp}
use Rattle.sql_syntax.specs.declared.statement.TypeName.{TypeName}
use Rattle.sql_syntax.specs.declared.tree.Args.TheFolds.{fold-roll-Args, fold-roll-Item, fold-roll-Source, fold-roll-Tree, fold_out-JoinItem, fold_out-ProductTail, fold_out-Sort, fold_out-SumTail, fold_out-TreeWhen, fold-roll-Over, fold-roll-Query, fold-roll-Select, fold-roll-SelectTail, fold-roll-Term, fold-roll-TermTail}
use Rattle.sql_syntax.specs.declared.tree.Args.TheViews.{out-Over, roll-Over, roll-out-Over, out-Query, roll-Query, roll-out-Query, out-Select, roll-Select, roll-out-Select, out-SelectTail, roll-SelectTail, roll-out-SelectTail, out-Term, roll-Term, roll-out-Term, out-TermTail, roll-TermTail, roll-out-TermTail}
use Rattle.sql_syntax.specs.declared.tree.Args.TheOpen.{Args-F, Item-F, Source-F, Tree-F}
use Rattle.sql_syntax.specs.declared.tree.Args.{Args}
use Rattle.sql_syntax.specs.declared.tree.Args.TheVariants as argss
use Rattle.sql_syntax.specs.declared.tree.Item.{Item}
use Rattle.sql_syntax.specs.declared.tree.Item.TheVariants as items
use Rattle.sql_syntax.specs.declared.tree.JoinItem.{JoinItem}
use Rattle.sql_syntax.specs.declared.tree.Over.{Over}
use Rattle.sql_syntax.specs.declared.tree.ProductTail.{ProductTail}
use Rattle.sql_syntax.specs.declared.tree.Query.{Query}
use Rattle.sql_syntax.specs.declared.tree.Select.{Select}
use Rattle.sql_syntax.specs.declared.tree.SelectTail.{SelectTail}
use Rattle.sql_syntax.specs.declared.tree.SetWord.{SetWord}
use Rattle.sql_syntax.specs.declared.tree.Sort.{Sort}
use Rattle.sql_syntax.specs.declared.tree.Source.{Source}
use Rattle.sql_syntax.specs.declared.tree.Source.TheVariants as sources
use Rattle.sql_syntax.specs.declared.tree.SumTail.{SumTail}
use Rattle.sql_syntax.specs.declared.tree.Term.{Term}
use Rattle.sql_syntax.specs.declared.tree.TermTail.{TermTail}
use Rattle.sql_syntax.specs.declared.tree.Tree.{Tree}
use Rattle.sql_syntax.specs.declared.tree.Tree.TheVariants as trees
use Rattle.sql_syntax.specs.declared.tree.TreeWhen.{TreeWhen}
use Rattle.sql_syntax.specs.Tree as t
use Rattle.sql_syntax.specs.View.{args_view, item_view, source_view, view, items_view, join_view, joins_view, over_view, product_view, product_tails_view, query_view, select_view, select_tail_view, select_tails_view, sort_view, sorts_view, sum_view, sum_tails_view, term_view, term_tail_view, term_tails_view, when_view, whens_view, trees_view, args_step, item_step, source_step, tree_step, join_step, over_step, product_step, query_step, select_step, select_tail_step, sort_step, sum_step, term_step, term_tail_step, when_step}

pub args_empty : args_view argss.Empty ≡ t.Empty
unfolding args_view
args_empty = ap args_view (sym argss.rolls-Empty) ∙ fold-roll-Args t.Args t.Item t.Source t.Tree t.JoinItem t.Over t.ProductTail t.Query t.Select t.SelectTail t.Sort t.SumTail t.Term t.TermTail t.TreeWhen args_step item_step source_step tree_step join_step over_step product_step query_step select_step select_tail_step sort_step sum_step term_step term_tail_step when_step Args-F.Empty

pub args_star : args_view argss.Star ≡ t.Star
unfolding args_view
args_star = ap args_view (sym argss.rolls-Star) ∙ fold-roll-Args t.Args t.Item t.Source t.Tree t.JoinItem t.Over t.ProductTail t.Query t.Select t.SelectTail t.Sort t.SumTail t.Term t.TermTail t.TreeWhen args_step item_step source_step tree_step join_step over_step product_step query_step select_step select_tail_step sort_step sum_step term_step term_tail_step when_step Args-F.Star

pub args_list : (distinct : Bool) (xs : List Tree) → args_view (argss.List distinct xs) ≡ t.Values distinct (t.trees (trees_view xs))
unfolding args_view view
args_list distinct xs = ap args_view (sym (argss.rolls-List distinct xs)) ∙ fold-roll-Args t.Args t.Item t.Source t.Tree t.JoinItem t.Over t.ProductTail t.Query t.Select t.SelectTail t.Sort t.SumTail t.Term t.TermTail t.TreeWhen args_step item_step source_step tree_step join_step over_step product_step query_step select_step select_tail_step sort_step sum_step term_step term_tail_step when_step (Args-F.List distinct xs)

pub item_all : item_view items.All ≡ t.All
unfolding item_view
item_all = ap item_view (sym items.rolls-All) ∙ fold-roll-Item t.Args t.Item t.Source t.Tree t.JoinItem t.Over t.ProductTail t.Query t.Select t.SelectTail t.Sort t.SumTail t.Term t.TermTail t.TreeWhen args_step item_step source_step tree_step join_step over_step product_step query_step select_step select_tail_step sort_step sum_step term_step term_tail_step when_step Item-F.All

pub item_all_of : (table : List ℕ) → item_view (items.AllOf table) ≡ t.AllOf table
unfolding item_view
item_all_of table = ap item_view (sym (items.rolls-AllOf table)) ∙ fold-roll-Item t.Args t.Item t.Source t.Tree t.JoinItem t.Over t.ProductTail t.Query t.Select t.SelectTail t.Sort t.SumTail t.Term t.TermTail t.TreeWhen args_step item_step source_step tree_step join_step over_step product_step query_step select_step select_tail_step sort_step sum_step term_step term_tail_step when_step (Item-F.AllOf table)

pub item_one : (u : Tree) (name : Option (List ℕ)) → item_view (items.One u name) ≡ t.One (view u) name
unfolding item_view view
item_one u name = ap item_view (sym (items.rolls-One u name)) ∙ fold-roll-Item t.Args t.Item t.Source t.Tree t.JoinItem t.Over t.ProductTail t.Query t.Select t.SelectTail t.Sort t.SumTail t.Term t.TermTail t.TreeWhen args_step item_step source_step tree_step join_step over_step product_step query_step select_step select_tail_step sort_step sum_step term_step term_tail_step when_step (Item-F.One u name)

pub source_table : (name : List ℕ) (alias : Option (List ℕ)) → source_view (sources.Table name alias) ≡ t.Table name alias
unfolding source_view
source_table name alias = ap source_view (sym (sources.rolls-Table name alias)) ∙ fold-roll-Source t.Args t.Item t.Source t.Tree t.JoinItem t.Over t.ProductTail t.Query t.Select t.SelectTail t.Sort t.SumTail t.Term t.TermTail t.TreeWhen args_step item_step source_step tree_step join_step over_step product_step query_step select_step select_tail_step sort_step sum_step term_step term_tail_step when_step (Source-F.Table name alias)

pub source_sub : (q : Query) (alias : Option (List ℕ)) → source_view (sources.Sub q alias) ≡ t.FromQuery (query_view q) alias
unfolding source_view query_view
source_sub q alias = ap source_view (sym (sources.rolls-Sub q alias)) ∙ fold-roll-Source t.Args t.Item t.Source t.Tree t.JoinItem t.Over t.ProductTail t.Query t.Select t.SelectTail t.Sort t.SumTail t.Term t.TermTail t.TreeWhen args_step item_step source_step tree_step join_step over_step product_step query_step select_step select_tail_step sort_step sum_step term_step term_tail_step when_step (Source-F.Source::Sub q alias)

pub tree_or : (xs : List Tree) → view (trees.Or xs) ≡ t.Or (t.trees (trees_view xs))
unfolding view
tree_or xs = ap view (sym (trees.rolls-Or xs)) ∙ fold-roll-Tree t.Args t.Item t.Source t.Tree t.JoinItem t.Over t.ProductTail t.Query t.Select t.SelectTail t.Sort t.SumTail t.Term t.TermTail t.TreeWhen args_step item_step source_step tree_step join_step over_step product_step query_step select_step select_tail_step sort_step sum_step term_step term_tail_step when_step (Tree-F.Or xs)

pub tree_and : (xs : List Tree) → view (trees.And xs) ≡ t.And (t.trees (trees_view xs))
unfolding view
tree_and xs = ap view (sym (trees.rolls-And xs)) ∙ fold-roll-Tree t.Args t.Item t.Source t.Tree t.JoinItem t.Over t.ProductTail t.Query t.Select t.SelectTail t.Sort t.SumTail t.Term t.TermTail t.TreeWhen args_step item_step source_step tree_step join_step over_step product_step query_step select_step select_tail_step sort_step sum_step term_step term_tail_step when_step (Tree-F.And xs)

pub tree_not : (u : Tree) → view (trees.Not u) ≡ t.Not (view u)
unfolding view
tree_not u = ap view (sym (trees.rolls-Not u)) ∙ fold-roll-Tree t.Args t.Item t.Source t.Tree t.JoinItem t.Over t.ProductTail t.Query t.Select t.SelectTail t.Sort t.SumTail t.Term t.TermTail t.TreeWhen args_step item_step source_step tree_step join_step over_step product_step query_step select_step select_tail_step sort_step sum_step term_step term_tail_step when_step (Tree-F.Not u)

pub tree_exists : (q : Query) → view (trees.Exists q) ≡ t.Exists (query_view q)
unfolding view query_view
tree_exists q = ap view (sym (trees.rolls-Exists q)) ∙ fold-roll-Tree t.Args t.Item t.Source t.Tree t.JoinItem t.Over t.ProductTail t.Query t.Select t.SelectTail t.Sort t.SumTail t.Term t.TermTail t.TreeWhen args_step item_step source_step tree_step join_step over_step product_step query_step select_step select_tail_step sort_step sum_step term_step term_tail_step when_step (Tree-F.Exists q)

pub tree_compare : (op : CompareOp) (u : Tree) (v : Tree) → view (trees.Compare op u v) ≡ t.Compare op (view u) (view v)
unfolding view
tree_compare op u v = ap view (sym (trees.rolls-Compare op u v)) ∙ fold-roll-Tree t.Args t.Item t.Source t.Tree t.JoinItem t.Over t.ProductTail t.Query t.Select t.SelectTail t.Sort t.SumTail t.Term t.TermTail t.TreeWhen args_step item_step source_step tree_step join_step over_step product_step query_step select_step select_tail_step sort_step sum_step term_step term_tail_step when_step (Tree-F.Compare op u v)

pub tree_is_null : (u : Tree) (negated : Bool) → view (trees.IsNull u negated) ≡ t.IsNull (view u) negated
unfolding view
tree_is_null u negated = ap view (sym (trees.rolls-IsNull u negated)) ∙ fold-roll-Tree t.Args t.Item t.Source t.Tree t.JoinItem t.Over t.ProductTail t.Query t.Select t.SelectTail t.Sort t.SumTail t.Term t.TermTail t.TreeWhen args_step item_step source_step tree_step join_step over_step product_step query_step select_step select_tail_step sort_step sum_step term_step term_tail_step when_step (Tree-F.IsNull u negated)

pub tree_between : (u : Tree) (low : Tree) (high : Tree) (negated : Bool) → view (trees.Between u low high negated) ≡ t.Between (view u) (view low) (view high) negated
unfolding view
tree_between u low high negated = ap view (sym (trees.rolls-Between u low high negated)) ∙ fold-roll-Tree t.Args t.Item t.Source t.Tree t.JoinItem t.Over t.ProductTail t.Query t.Select t.SelectTail t.Sort t.SumTail t.Term t.TermTail t.TreeWhen args_step item_step source_step tree_step join_step over_step product_step query_step select_step select_tail_step sort_step sum_step term_step term_tail_step when_step (Tree-F.Between u low high negated)

pub tree_in_list : (u : Tree) (xs : List Tree) (negated : Bool) → view (trees.InList u xs negated) ≡ t.InList (view u) (t.trees (trees_view xs)) negated
unfolding view
tree_in_list u xs negated = ap view (sym (trees.rolls-InList u xs negated)) ∙ fold-roll-Tree t.Args t.Item t.Source t.Tree t.JoinItem t.Over t.ProductTail t.Query t.Select t.SelectTail t.Sort t.SumTail t.Term t.TermTail t.TreeWhen args_step item_step source_step tree_step join_step over_step product_step query_step select_step select_tail_step sort_step sum_step term_step term_tail_step when_step (Tree-F.InList u xs negated)

pub tree_in_query : (u : Tree) (q : Query) (negated : Bool) → view (trees.InQuery u q negated) ≡ t.InQuery (view u) (query_view q) negated
unfolding view query_view
tree_in_query u q negated = ap view (sym (trees.rolls-InQuery u q negated)) ∙ fold-roll-Tree t.Args t.Item t.Source t.Tree t.JoinItem t.Over t.ProductTail t.Query t.Select t.SelectTail t.Sort t.SumTail t.Term t.TermTail t.TreeWhen args_step item_step source_step tree_step join_step over_step product_step query_step select_step select_tail_step sort_step sum_step term_step term_tail_step when_step (Tree-F.InQuery u q negated)

pub tree_like : (u : Tree) (v : Tree) (negated : Bool) → view (trees.Like u v negated) ≡ t.Like (view u) (view v) negated
unfolding view
tree_like u v negated = ap view (sym (trees.rolls-Like u v negated)) ∙ fold-roll-Tree t.Args t.Item t.Source t.Tree t.JoinItem t.Over t.ProductTail t.Query t.Select t.SelectTail t.Sort t.SumTail t.Term t.TermTail t.TreeWhen args_step item_step source_step tree_step join_step over_step product_step query_step select_step select_tail_step sort_step sum_step term_step term_tail_step when_step (Tree-F.Like u v negated)

pub tree_sum : (u : Tree) (xs : List SumTail) → view (trees.Sum u xs) ≡ t.Sum (view u) (t.sum_tails (sum_tails_view xs))
unfolding view sum_view
tree_sum u xs = ap view (sym (trees.rolls-Sum u xs)) ∙ fold-roll-Tree t.Args t.Item t.Source t.Tree t.JoinItem t.Over t.ProductTail t.Query t.Select t.SelectTail t.Sort t.SumTail t.Term t.TermTail t.TreeWhen args_step item_step source_step tree_step join_step over_step product_step query_step select_step select_tail_step sort_step sum_step term_step term_tail_step when_step (Tree-F.Sum u xs)

pub tree_product : (u : Tree) (xs : List ProductTail) → view (trees.Product u xs) ≡ t.Product (view u) (t.product_tails (product_tails_view xs))
unfolding view product_view
tree_product u xs = ap view (sym (trees.rolls-Product u xs)) ∙ fold-roll-Tree t.Args t.Item t.Source t.Tree t.JoinItem t.Over t.ProductTail t.Query t.Select t.SelectTail t.Sort t.SumTail t.Term t.TermTail t.TreeWhen args_step item_step source_step tree_step join_step over_step product_step query_step select_step select_tail_step sort_step sum_step term_step term_tail_step when_step (Tree-F.Product u xs)

pub tree_sign : (minus : Bool) (u : Tree) → view (trees.Sign minus u) ≡ t.Sign minus (view u)
unfolding view
tree_sign minus u = ap view (sym (trees.rolls-Sign minus u)) ∙ fold-roll-Tree t.Args t.Item t.Source t.Tree t.JoinItem t.Over t.ProductTail t.Query t.Select t.SelectTail t.Sort t.SumTail t.Term t.TermTail t.TreeWhen args_step item_step source_step tree_step join_step over_step product_step query_step select_step select_tail_step sort_step sum_step term_step term_tail_step when_step (Tree-F.Sign minus u)

pub tree_number : (text : List ℕ) → view (trees.Number text) ≡ t.Number text
unfolding view
tree_number text = ap view (sym (trees.rolls-Number text)) ∙ fold-roll-Tree t.Args t.Item t.Source t.Tree t.JoinItem t.Over t.ProductTail t.Query t.Select t.SelectTail t.Sort t.SumTail t.Term t.TermTail t.TreeWhen args_step item_step source_step tree_step join_step over_step product_step query_step select_step select_tail_step sort_step sum_step term_step term_tail_step when_step (Tree-F.Number text)

pub tree_str : (text : List ℕ) → view (trees.Str text) ≡ t.Str text
unfolding view
tree_str text = ap view (sym (trees.rolls-Str text)) ∙ fold-roll-Tree t.Args t.Item t.Source t.Tree t.JoinItem t.Over t.ProductTail t.Query t.Select t.SelectTail t.Sort t.SumTail t.Term t.TermTail t.TreeWhen args_step item_step source_step tree_step join_step over_step product_step query_step select_step select_tail_step sort_step sum_step term_step term_tail_step when_step (Tree-F.Str text)

pub tree_bool : (truth : Bool) → view (trees.Bool truth) ≡ t.Truth truth
unfolding view
tree_bool truth = ap view (sym (trees.rolls-Bool truth)) ∙ fold-roll-Tree t.Args t.Item t.Source t.Tree t.JoinItem t.Over t.ProductTail t.Query t.Select t.SelectTail t.Sort t.SumTail t.Term t.TermTail t.TreeWhen args_step item_step source_step tree_step join_step over_step product_step query_step select_step select_tail_step sort_step sum_step term_step term_tail_step when_step (Tree-F.Bool truth)

pub tree_null : view trees.Null ≡ t.Null
unfolding view
tree_null = ap view (sym trees.rolls-Null) ∙ fold-roll-Tree t.Args t.Item t.Source t.Tree t.JoinItem t.Over t.ProductTail t.Query t.Select t.SelectTail t.Sort t.SumTail t.Term t.TermTail t.TreeWhen args_step item_step source_step tree_step join_step over_step product_step query_step select_step select_tail_step sort_step sum_step term_step term_tail_step when_step Tree-F.Null

pub tree_name : (of : Option (List ℕ)) (name : List ℕ) (quoted : Bool) → view (trees.Name of name quoted) ≡ t.Name of name quoted
unfolding view
tree_name of name quoted = ap view (sym (trees.rolls-Name of name quoted)) ∙ fold-roll-Tree t.Args t.Item t.Source t.Tree t.JoinItem t.Over t.ProductTail t.Query t.Select t.SelectTail t.Sort t.SumTail t.Term t.TermTail t.TreeWhen args_step item_step source_step tree_step join_step over_step product_step query_step select_step select_tail_step sort_step sum_step term_step term_tail_step when_step (Tree-F.Name of name quoted)

pub tree_call : (name : List ℕ) (args : Args) (filter : Option Tree) (over : Option Over) → view (trees.Call name args filter over) ≡ t.Call name (args_view args) (t.optional_tree (option_map view filter)) (t.optional_over (option_map over_view over))
unfolding view args_view over_view
tree_call name args None None = ap view (sym (trees.rolls-Call name args None None)) ∙ fold-roll-Tree t.Args t.Item t.Source t.Tree t.JoinItem t.Over t.ProductTail t.Query t.Select t.SelectTail t.Sort t.SumTail t.Term t.TermTail t.TreeWhen args_step item_step source_step tree_step join_step over_step product_step query_step select_step select_tail_step sort_step sum_step term_step term_tail_step when_step (Tree-F.Call name args None None)
tree_call name args None (Some y3) = ap view (sym (trees.rolls-Call name args None (Some y3))) ∙ fold-roll-Tree t.Args t.Item t.Source t.Tree t.JoinItem t.Over t.ProductTail t.Query t.Select t.SelectTail t.Sort t.SumTail t.Term t.TermTail t.TreeWhen args_step item_step source_step tree_step join_step over_step product_step query_step select_step select_tail_step sort_step sum_step term_step term_tail_step when_step (Tree-F.Call name args None (Some y3))
tree_call name args (Some y2) None = ap view (sym (trees.rolls-Call name args (Some y2) None)) ∙ fold-roll-Tree t.Args t.Item t.Source t.Tree t.JoinItem t.Over t.ProductTail t.Query t.Select t.SelectTail t.Sort t.SumTail t.Term t.TermTail t.TreeWhen args_step item_step source_step tree_step join_step over_step product_step query_step select_step select_tail_step sort_step sum_step term_step term_tail_step when_step (Tree-F.Call name args (Some y2) None)
tree_call name args (Some y2) (Some y3) = ap view (sym (trees.rolls-Call name args (Some y2) (Some y3))) ∙ fold-roll-Tree t.Args t.Item t.Source t.Tree t.JoinItem t.Over t.ProductTail t.Query t.Select t.SelectTail t.Sort t.SumTail t.Term t.TermTail t.TreeWhen args_step item_step source_step tree_step join_step over_step product_step query_step select_step select_tail_step sort_step sum_step term_step term_tail_step when_step (Tree-F.Call name args (Some y2) (Some y3))

pub tree_cast : (u : Tree) (ty : TypeName) → view (trees.Cast u ty) ≡ t.Cast (view u) ty
unfolding view
tree_cast u ty = ap view (sym (trees.rolls-Cast u ty)) ∙ fold-roll-Tree t.Args t.Item t.Source t.Tree t.JoinItem t.Over t.ProductTail t.Query t.Select t.SelectTail t.Sort t.SumTail t.Term t.TermTail t.TreeWhen args_step item_step source_step tree_step join_step over_step product_step query_step select_step select_tail_step sort_step sum_step term_step term_tail_step when_step (Tree-F.Cast u ty)

pub tree_paren : (u : Tree) → view (trees.Paren u) ≡ t.Paren (view u)
unfolding view
tree_paren u = ap view (sym (trees.rolls-Paren u)) ∙ fold-roll-Tree t.Args t.Item t.Source t.Tree t.JoinItem t.Over t.ProductTail t.Query t.Select t.SelectTail t.Sort t.SumTail t.Term t.TermTail t.TreeWhen args_step item_step source_step tree_step join_step over_step product_step query_step select_step select_tail_step sort_step sum_step term_step term_tail_step when_step (Tree-F.Paren u)

pub tree_sub : (q : Query) → view (trees.Sub q) ≡ t.Sub (query_view q)
unfolding view query_view
tree_sub q = ap view (sym (trees.rolls-Sub q)) ∙ fold-roll-Tree t.Args t.Item t.Source t.Tree t.JoinItem t.Over t.ProductTail t.Query t.Select t.SelectTail t.Sort t.SumTail t.Term t.TermTail t.TreeWhen args_step item_step source_step tree_step join_step over_step product_step query_step select_step select_tail_step sort_step sum_step term_step term_tail_step when_step (Tree-F.Tree::Sub q)

pub tree_case : (xs : List TreeWhen) (o : Option Tree) → view (trees.Case xs o) ≡ t.Case (t.tree_whens (whens_view xs)) (t.optional_tree (option_map view o))
unfolding view when_view
tree_case xs None = ap view (sym (trees.rolls-Case xs None)) ∙ fold-roll-Tree t.Args t.Item t.Source t.Tree t.JoinItem t.Over t.ProductTail t.Query t.Select t.SelectTail t.Sort t.SumTail t.Term t.TermTail t.TreeWhen args_step item_step source_step tree_step join_step over_step product_step query_step select_step select_tail_step sort_step sum_step term_step term_tail_step when_step (Tree-F.Case xs None)
tree_case xs (Some y1) = ap view (sym (trees.rolls-Case xs (Some y1))) ∙ fold-roll-Tree t.Args t.Item t.Source t.Tree t.JoinItem t.Over t.ProductTail t.Query t.Select t.SelectTail t.Sort t.SumTail t.Term t.TermTail t.TreeWhen args_step item_step source_step tree_step join_step over_step product_step query_step select_step select_tail_step sort_step sum_step term_step term_tail_step when_step (Tree-F.Case xs (Some y1))

pub join_item : (x : JoinItem) → join_view x ≡ t.join_of x.kind (source_view x.source) (view x.on)
unfolding join_view source_view view
join_item x = fold_out-JoinItem t.Args t.Item t.Source t.Tree t.JoinItem t.Over t.ProductTail t.Query t.Select t.SelectTail t.Sort t.SumTail t.Term t.TermTail t.TreeWhen args_step item_step source_step tree_step join_step over_step product_step query_step select_step select_tail_step sort_step sum_step term_step term_tail_step when_step x

pub over_made : (partition : List Tree) (order : List Sort) → over_view (roll-Over (record { partition = partition; order = order })) ≡ t.over_of (t.trees (trees_view partition)) (t.sort_list (sorts_view order))
unfolding over_view view sort_view
over_made partition order = fold-roll-Over t.Args t.Item t.Source t.Tree t.JoinItem t.Over t.ProductTail t.Query t.Select t.SelectTail t.Sort t.SumTail t.Term t.TermTail t.TreeWhen args_step item_step source_step tree_step join_step over_step product_step query_step select_step select_tail_step sort_step sum_step term_step term_tail_step when_step (record { partition = partition; order = order })

pub over : (x : Over) → over_view x ≡ t.over_of (t.trees (trees_view (out-Over x).partition)) (t.sort_list (sorts_view (out-Over x).order))
over x = ap over_view (sym (roll-out-Over x)) ∙ over_made (out-Over x).partition (out-Over x).order

pub product_tail : (x : ProductTail) → product_view x ≡ t.product_tail_of x.word (view x.value)
unfolding product_view view
product_tail x = fold_out-ProductTail t.Args t.Item t.Source t.Tree t.JoinItem t.Over t.ProductTail t.Query t.Select t.SelectTail t.Sort t.SumTail t.Term t.TermTail t.TreeWhen args_step item_step source_step tree_step join_step over_step product_step query_step select_step select_tail_step sort_step sum_step term_step term_tail_step when_step x

pub query_made : (first : Term) (rest : List TermTail) (order : List Sort) (limit : Option (List ℕ)) → query_view (roll-Query (record { first = first; rest = rest; order = order; limit = limit })) ≡ t.query_of (term_view first) (t.term_tails (term_tails_view rest)) (t.sort_list (sorts_view order)) limit
unfolding query_view term_view term_tail_view sort_view
query_made first rest order limit = fold-roll-Query t.Args t.Item t.Source t.Tree t.JoinItem t.Over t.ProductTail t.Query t.Select t.SelectTail t.Sort t.SumTail t.Term t.TermTail t.TreeWhen args_step item_step source_step tree_step join_step over_step product_step query_step select_step select_tail_step sort_step sum_step term_step term_tail_step when_step (record { first = first; rest = rest; order = order; limit = limit })

pub query : (x : Query) → query_view x ≡ t.query_of (term_view (out-Query x).first) (t.term_tails (term_tails_view (out-Query x).rest)) (t.sort_list (sorts_view (out-Query x).order)) (out-Query x).limit
query x = ap query_view (sym (roll-out-Query x)) ∙ query_made (out-Query x).first (out-Query x).rest (out-Query x).order (out-Query x).limit

pub select_made : (distinct : Bool) (items : List Item) (from : Source) (joins : List JoinItem) (cond : Option Tree) (groups : List Tree) (having : Option Tree) → select_view (roll-Select (record { distinct = distinct; items = items; from = from; joins = joins; cond = cond; groups = groups; having = having })) ≡ t.select_of distinct (t.items (items_view items)) (source_view from) (t.joins (joins_view joins)) (t.optional_tree (option_map view cond)) (t.trees (trees_view groups)) (t.optional_tree (option_map view having))
unfolding select_view item_view source_view join_view view
select_made distinct items from joins None groups None = fold-roll-Select t.Args t.Item t.Source t.Tree t.JoinItem t.Over t.ProductTail t.Query t.Select t.SelectTail t.Sort t.SumTail t.Term t.TermTail t.TreeWhen args_step item_step source_step tree_step join_step over_step product_step query_step select_step select_tail_step sort_step sum_step term_step term_tail_step when_step (record { distinct = distinct; items = items; from = from; joins = joins; cond = None; groups = groups; having = None })
select_made distinct items from joins None groups (Some having) = fold-roll-Select t.Args t.Item t.Source t.Tree t.JoinItem t.Over t.ProductTail t.Query t.Select t.SelectTail t.Sort t.SumTail t.Term t.TermTail t.TreeWhen args_step item_step source_step tree_step join_step over_step product_step query_step select_step select_tail_step sort_step sum_step term_step term_tail_step when_step (record { distinct = distinct; items = items; from = from; joins = joins; cond = None; groups = groups; having = (Some having) })
select_made distinct items from joins (Some cond) groups None = fold-roll-Select t.Args t.Item t.Source t.Tree t.JoinItem t.Over t.ProductTail t.Query t.Select t.SelectTail t.Sort t.SumTail t.Term t.TermTail t.TreeWhen args_step item_step source_step tree_step join_step over_step product_step query_step select_step select_tail_step sort_step sum_step term_step term_tail_step when_step (record { distinct = distinct; items = items; from = from; joins = joins; cond = (Some cond); groups = groups; having = None })
select_made distinct items from joins (Some cond) groups (Some having) = fold-roll-Select t.Args t.Item t.Source t.Tree t.JoinItem t.Over t.ProductTail t.Query t.Select t.SelectTail t.Sort t.SumTail t.Term t.TermTail t.TreeWhen args_step item_step source_step tree_step join_step over_step product_step query_step select_step select_tail_step sort_step sum_step term_step term_tail_step when_step (record { distinct = distinct; items = items; from = from; joins = joins; cond = (Some cond); groups = groups; having = (Some having) })

pub select : (x : Select) → select_view x ≡ t.select_of (out-Select x).distinct (t.items (items_view (out-Select x).items)) (source_view (out-Select x).from) (t.joins (joins_view (out-Select x).joins)) (t.optional_tree (option_map view (out-Select x).cond)) (t.trees (trees_view (out-Select x).groups)) (t.optional_tree (option_map view (out-Select x).having))
select x = ap select_view (sym (roll-out-Select x)) ∙ select_made (out-Select x).distinct (out-Select x).items (out-Select x).from (out-Select x).joins (out-Select x).cond (out-Select x).groups (out-Select x).having

pub select_tail_made : (all : Bool) (select : Select) → select_tail_view (roll-SelectTail (record { all = all; select = select })) ≡ t.select_tail_of all (select_view select)
unfolding select_tail_view select_view
select_tail_made all select = fold-roll-SelectTail t.Args t.Item t.Source t.Tree t.JoinItem t.Over t.ProductTail t.Query t.Select t.SelectTail t.Sort t.SumTail t.Term t.TermTail t.TreeWhen args_step item_step source_step tree_step join_step over_step product_step query_step select_step select_tail_step sort_step sum_step term_step term_tail_step when_step (record { all = all; select = select })

pub select_tail : (x : SelectTail) → select_tail_view x ≡ t.select_tail_of (out-SelectTail x).all (select_view (out-SelectTail x).select)
select_tail x = ap select_tail_view (sym (roll-out-SelectTail x)) ∙ select_tail_made (out-SelectTail x).all (out-SelectTail x).select

pub sort : (x : Sort) → sort_view x ≡ t.sort_of (view x.value) x.desc
unfolding sort_view view
sort x = fold_out-Sort t.Args t.Item t.Source t.Tree t.JoinItem t.Over t.ProductTail t.Query t.Select t.SelectTail t.Sort t.SumTail t.Term t.TermTail t.TreeWhen args_step item_step source_step tree_step join_step over_step product_step query_step select_step select_tail_step sort_step sum_step term_step term_tail_step when_step x

pub sum_tail : (x : SumTail) → sum_view x ≡ t.sum_tail_of x.word (view x.value)
unfolding sum_view view
sum_tail x = fold_out-SumTail t.Args t.Item t.Source t.Tree t.JoinItem t.Over t.ProductTail t.Query t.Select t.SelectTail t.Sort t.SumTail t.Term t.TermTail t.TreeWhen args_step item_step source_step tree_step join_step over_step product_step query_step select_step select_tail_step sort_step sum_step term_step term_tail_step when_step x

pub term_made : (first : Select) (rest : List SelectTail) → term_view (roll-Term (record { first = first; rest = rest })) ≡ t.term_of (select_view first) (t.select_tails (select_tails_view rest))
unfolding term_view select_view select_tail_view
term_made first rest = fold-roll-Term t.Args t.Item t.Source t.Tree t.JoinItem t.Over t.ProductTail t.Query t.Select t.SelectTail t.Sort t.SumTail t.Term t.TermTail t.TreeWhen args_step item_step source_step tree_step join_step over_step product_step query_step select_step select_tail_step sort_step sum_step term_step term_tail_step when_step (record { first = first; rest = rest })

pub term : (x : Term) → term_view x ≡ t.term_of (select_view (out-Term x).first) (t.select_tails (select_tails_view (out-Term x).rest))
term x = ap term_view (sym (roll-out-Term x)) ∙ term_made (out-Term x).first (out-Term x).rest

pub query_parts : (x : Query) → query_view x ≡ t.query_of (t.term_of (select_view (out-Term (out-Query x).first).first) (t.select_tails (select_tails_view (out-Term (out-Query x).first).rest))) (t.term_tails (term_tails_view (out-Query x).rest)) (t.sort_list (sorts_view (out-Query x).order)) (out-Query x).limit
query_parts x = query x ∙ ap (λ first. t.query_of first (t.term_tails (term_tails_view (out-Query x).rest)) (t.sort_list (sorts_view (out-Query x).order)) (out-Query x).limit) (term (out-Query x).first)

pub term_tail_made : (word : SetWord) (term : Term) → term_tail_view (roll-TermTail (record { word = word; term = term })) ≡ t.term_tail_of word (term_view term)
unfolding term_tail_view term_view
term_tail_made word term = fold-roll-TermTail t.Args t.Item t.Source t.Tree t.JoinItem t.Over t.ProductTail t.Query t.Select t.SelectTail t.Sort t.SumTail t.Term t.TermTail t.TreeWhen args_step item_step source_step tree_step join_step over_step product_step query_step select_step select_tail_step sort_step sum_step term_step term_tail_step when_step (record { word = word; term = term })

pub term_tail : (x : TermTail) → term_tail_view x ≡ t.term_tail_of (out-TermTail x).word (term_view (out-TermTail x).term)
term_tail x = ap term_tail_view (sym (roll-out-TermTail x)) ∙ term_tail_made (out-TermTail x).word (out-TermTail x).term

pub tree_when : (x : TreeWhen) → when_view x ≡ t.tree_when_of (view x.cond) (view x.result)
unfolding when_view view
tree_when x = fold_out-TreeWhen t.Args t.Item t.Source t.Tree t.JoinItem t.Over t.ProductTail t.Query t.Select t.SelectTail t.Sort t.SumTail t.Term t.TermTail t.TreeWhen args_step item_step source_step tree_step join_step over_step product_step query_step select_step select_tail_step sort_step sum_step term_step term_tail_step when_step x
