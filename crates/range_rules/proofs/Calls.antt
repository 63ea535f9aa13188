-- The aggregate calls of trees without arithmetic: they count or choose, and their operands are without arithmetic.
use Rattle.std.proofs.Common.{◌≡◌, ℕ, Bool, true, false, ◌&&◌, ◌||◌, List, [], ◌∷◌, ◌++◌, Option, Some, None, if◌then◌else◌, codes, refl, sym, ap, ◌∙◌, option_map}
use Rattle.std.specs.List.{list_all}
use Rattle.std.specs.Str.{bytes_eq, str_eq_ignore_ascii_case, str_to_ascii_lowercase}
use Rattle.std.proofs.lemmas.Slice.Eq.{bytes_eq-Decides}
use Rattle.rel_algebra.specs.declared.agg.AggCall.{AggCall}
use Rattle.rel_algebra.specs.declared.agg.AggCall.TheVariants.{Count}
use Rattle.sql_syntax.specs.Tree.{Tree, Text}
use Rattle.sql_syntax.specs.Tree as t
use Rattle.query_answer.specs.declared.function.Function.{Function}
use Rattle.query_answer.specs.declared.function.Function.TheVariants.{Aggregate, Coalesce, NullIf, CharLength, RowNumber, Changing, Unknown}
use Rattle.query_answer.specs.Calls.{Call, aggregate_of, of_all, of_distinct, optional, first_tree, agg_call, agg_arg, call_of, call_or, calls, all_calls, when_calls, optional_calls, args_calls, window_calls, sort_calls}
use Rattle.query_answer.specs.Functions.{functions, function_in, function_of}
use Rattle.range_rules.specs.Arithmetic.{is_sum_or_avg, in_tree, in_trees, in_when, in_whens, in_args, in_optional, in_optional_over, in_over, in_sorts, in_sort}
use Rattle.range_rules.specs.Tame.{only_counts}
use Rattle.binding.specs.Queries.{aggs_from, next}
use Rattle.range_rules.proofs.Bound.{IsFree}
use Rattle.range_rules.proofs.Checked.{both, neither, impossible}

-- ---- names of functions

-- an aggregate that counts or chooses, or no aggregate
abbrev counts : Function → Bool
counts (Aggregate c) = only_counts c
counts Coalesce = true
counts NullIf = true
counts CharLength = true
counts RowNumber = true
counts Changing = true
counts Unknown = true

-- such a function, or one of the names SUM and AVG
abbrev counts_or_adds : Text × Function → Bool
counts_or_adds f = counts f.1 || is_sum_or_avg f.0

the_first : (a b : Bool) → (a || b) ≡ true → b ≡ false → a ≡ true
the_first true b h e = refl
the_first false b h e = impossible (sym h ∙ e)

one_counts : (name : Text) (f : Text × Function) → is_sum_or_avg name ≡ false → counts_or_adds f ≡ true → str_eq_ignore_ascii_case f.0 name ≡ true → counts f.1 ≡ true
one_counts name f none h e =
    let low = str_to_ascii_lowercase in
    let same : low f.0 ≡ low name = (bytes_eq-Decides (low f.0) (low name)).0 e in
    let other : is_sum_or_avg f.0 ≡ false = ap (λ word. bytes_eq word (low (codes "SUM")) || bytes_eq word (low (codes "AVG"))) same ∙ none in
    the_first (counts f.1) (is_sum_or_avg f.0) h other

found_counts : (name : Text) (fs : List (Text × Function)) → is_sum_or_avg name ≡ false → list_all counts_or_adds fs ≡ true → counts (function_in fs name) ≡ true
found_counts name [] none h = refl
found_counts name (f ∷ fs) none h =
    let g = both (counts_or_adds f) (list_all counts_or_adds fs) h in
    go (str_eq_ignore_ascii_case f.0 name) (λ e. one_counts name f none g.0 e) (found_counts name fs none g.1)
  where
    go : (b : Bool) → (b ≡ true → counts f.1 ≡ true) → counts (function_in fs name) ≡ true → counts (if b then f.1 else function_in fs name) ≡ true
    go true k l = k refl
    go false k l = l

function_counts : (name : Text) → is_sum_or_avg name ≡ false → counts (function_of name) ≡ true
unfolding function_of
function_counts name none = found_counts name functions none refl

-- ---- the calls of a tree

abbrev pub FreeIf : Option Tree → Type 0
FreeIf None = Unit {0}
FreeIf (Some x) = IsFree x

abbrev pub IsCount : Call → Type 0
IsCount c = (only_counts c.call ≡ true) × FreeIf c.arg × FreeIf c.filter

abbrev pub AreCounts : List Call → Type 0
AreCounts [] = Unit {0}
AreCounts (c ∷ cs) = IsCount c × AreCounts cs

pub counts_append : (cs ds : List Call) → AreCounts cs → AreCounts ds → AreCounts (cs ++ ds)
counts_append [] ds h k = k
counts_append (c ∷ cs) ds h k = (h.0, counts_append cs ds h.1 k)

of_all_counts : (c : AggCall) → only_counts c ≡ true → only_counts (of_all c) ≡ true
of_all_counts Count h = refl
of_all_counts c h = h

of_distinct_counts : (c : AggCall) → only_counts c ≡ true → only_counts (of_distinct c) ≡ true
of_distinct_counts Count h = refl
of_distinct_counts c h = h

call_counts : (c : AggCall) (args : t.Args) → only_counts c ≡ true → only_counts (agg_call c args) ≡ true
call_counts c t.Empty h = h
call_counts c t.Star h = of_all_counts c h
call_counts c (t.Values true xs) h = of_distinct_counts c h
call_counts c (t.Values false xs) h = h

first_free : (xs : t.Trees) → in_trees xs ≡ false → FreeIf (first_tree xs)
unfolding in_trees
first_free t.no_trees f = tt
first_free (t.tree_and x xs) f = (neither (in_tree x) (in_trees xs) f).0

arg_free : (args : t.Args) → in_args args ≡ false → FreeIf (agg_arg args)
unfolding in_args
arg_free t.Empty f = tt
arg_free t.Star f = tt
arg_free (t.Values distinct xs) f = first_free xs f

filter_free : (filter : t.OptionalTree) → in_optional filter ≡ false → FreeIf (optional filter)
unfolding in_optional
filter_free t.no_tree f = tt
filter_free (t.some_tree x) f = f

-- the call that a node is, or those in it
node_counts : (fn : Function) (args : t.Args) (filter : t.OptionalTree) (over : t.OptionalOver) (others : List Call) → counts fn ≡ true → in_args args ≡ false → in_optional filter ≡ false → AreCounts others
    → AreCounts (call_or (option_map (λ c. call_of c args filter) (aggregate_of fn over)) others)
node_counts (Aggregate c) args filter t.no_over others h f g k = ((call_counts c args h, arg_free args f, filter_free filter g), tt)
node_counts (Aggregate c) args filter (t.some_over x) others h f g k = k
node_counts Coalesce args filter over others h f g k = k
node_counts NullIf args filter over others h f g k = k
node_counts CharLength args filter over others h f g k = k
node_counts RowNumber args filter over others h f g k = k
node_counts Changing args filter over others h f g k = k
node_counts Unknown args filter over others h f g k = k

mutual
  unfolding in_tree in_trees in_whens in_when in_optional in_args in_optional_over in_over in_sorts in_sort

  pub calls_count : (x : Tree) → IsFree x → AreCounts (calls x)
  calls_count (t.Or xs) f = all_calls_count xs f
  calls_count (t.And xs) f = all_calls_count xs f
  calls_count (t.Not x) f = calls_count x f
  calls_count (t.Exists q) f = tt
  calls_count (t.Compare op x y) f = let g = neither (in_tree x) (in_tree y) f in counts_append (calls x) (calls y) (calls_count x g.0) (calls_count y g.1)
  calls_count (t.IsNull x negated) f = calls_count x f
  calls_count (t.Between x low high negated) f =
      let g = neither (in_tree x) _ f in
      let k = neither (in_tree low) (in_tree high) g.1 in
      counts_append (calls x) (calls low ++ calls high) (calls_count x g.0) (counts_append (calls low) (calls high) (calls_count low k.0) (calls_count high k.1))
  calls_count (t.InList x xs negated) f = let g = neither (in_tree x) (in_trees xs) f in counts_append (calls x) (all_calls xs) (calls_count x g.0) (all_calls_count xs g.1)
  calls_count (t.InQuery x q negated) f = calls_count x (neither (in_tree x) _ f).0
  calls_count (t.Like x y negated) f = let g = neither (in_tree x) (in_tree y) f in counts_append (calls x) (calls y) (calls_count x g.0) (calls_count y g.1)
  calls_count (t.Sum x xs) f = impossible f
  calls_count (t.Product x xs) f = impossible f
  calls_count (t.Sign minus x) f = impossible f
  calls_count (t.Number text) f = tt
  calls_count (t.Str text) f = tt
  calls_count (t.Truth truth) f = tt
  calls_count t.Null f = tt
  calls_count (t.Name of name quoted) f = tt
  calls_count (t.Call name args filter over) f =
      let g = neither (is_sum_or_avg name) _ f in
      let k = neither (in_args args) _ g.1 in
      let l = neither (in_optional filter) _ k.1 in
      node_counts (function_of name) args filter over (args_calls args ++ (optional_calls filter ++ window_calls over)) (function_counts name g.0) k.0 l.0
      (counts_append (args_calls args) (optional_calls filter ++ window_calls over) (args_count args k.0) (counts_append (optional_calls filter) (window_calls over) (optional_count filter l.0) (window_count over l.1)))
  calls_count (t.Cast x ty) f = impossible f
  calls_count (t.Paren x) f = calls_count x f
  calls_count (t.Sub q) f = tt
  calls_count (t.Case whens otherwise) f =
      let g = neither (in_whens whens) (in_optional otherwise) f in
      counts_append (when_calls whens) (optional_calls otherwise) (whens_count whens g.0) (optional_count otherwise g.1)

  all_calls_count : (xs : t.Trees) → in_trees xs ≡ false → AreCounts (all_calls xs)
  all_calls_count t.no_trees f = tt
  all_calls_count (t.tree_and x xs) f = let g = neither (in_tree x) (in_trees xs) f in counts_append (calls x) (all_calls xs) (calls_count x g.0) (all_calls_count xs g.1)

  whens_count : (ws : t.TreeWhens) → in_whens ws ≡ false → AreCounts (when_calls ws)
  whens_count t.no_tree_whens f = tt
  whens_count (t.tree_when_and (t.tree_when_of c x) ws) f =
      let g = neither _ (in_whens ws) f in
      let k = neither (in_tree c) (in_tree x) g.0 in
      counts_append (calls c) (calls x ++ when_calls ws) (calls_count c k.0) (counts_append (calls x) (when_calls ws) (calls_count x k.1) (whens_count ws g.1))

  pub optional_count : (o : t.OptionalTree) → in_optional o ≡ false → AreCounts (optional_calls o)
  optional_count t.no_tree f = tt
  optional_count (t.some_tree x) f = calls_count x f

  args_count : (args : t.Args) → in_args args ≡ false → AreCounts (args_calls args)
  args_count t.Empty f = tt
  args_count t.Star f = tt
  args_count (t.Values distinct xs) f = all_calls_count xs f

  window_count : (o : t.OptionalOver) → in_optional_over o ≡ false → AreCounts (window_calls o)
  window_count t.no_over f = tt
  window_count (t.some_over (t.over_of partition order)) f =
      let g = neither (in_trees partition) (in_sorts order) f in
      counts_append (all_calls partition) (sort_calls order) (all_calls_count partition g.0) (sorts_count order g.1)

  sorts_count : (xs : t.SortList) → in_sorts xs ≡ false → AreCounts (sort_calls xs)
  sorts_count t.no_sorts f = tt
  sorts_count (t.sort_and (t.sort_of x desc) xs) f =
      let g = neither (in_tree x) (in_sorts xs) f in
      counts_append (calls x) (sort_calls xs) (calls_count x g.0) (sorts_count xs g.1)

-- the aggregates of calls
pub aggs_count : (m n : ℕ) (cs : List Call) → AreCounts cs → list_all (λ agg. only_counts agg.call) (aggs_from m n cs) ≡ true
aggs_count m n [] h = refl
aggs_count m n (c ∷ cs) h = λ i. h.0.0 i && aggs_count (next m c.arg) (next n c.filter) cs h.1 i
