-- Top-N: a list with a rank is bound to the Rank whose answer is that of the clause, and the list over it.
use Rattle.std.proofs.Common.{◌≡◌, ℕ, zero, suc, ◌+◌, ◌-◌, ◌<◌, ◌≤◌, nat_le, lt-ltb, Bool, true, false, ◌&&◌, List, [], ◌∷◌, ◌++◌, map, length, take, Option, Some, None, cond, Ok, IfOk, refl, sym, ap, ◌∙◌, subst, option_and_then, option_map, slice_get, arith, length-append}
use Rattle.std.specs.List.{list_all, AllByRecursion}
use Rattle.std.specs.Prelude.{pos}
use Rattle.ct_value.specs.Bag.{items}
use Rattle.ct_value.specs.Order.{row_total, row_exact}
use Rattle.ct_value.specs.Rows.{project}
use Rattle.ct_value.specs.declared.codes.ScriptCode.TheVariants.{UnknownColumn}
use Rattle.ct_value.specs.declared.row.Row.{Row}
use Rattle.ct_value.specs.declared.ty.ColTy.{ColTy}
use Rattle.ct_value.specs.declared.value.CompareOp.{CompareOp}
use Rattle.ct_value.specs.declared.value.Value.TheVariants.{Num}
use Rattle.ct_change.specs.Changelog.{Rows, same_row}
use Rattle.rel_algebra.specs.declared.sort.SortCol.{SortCol}
use Rattle.rel_algebra.specs.Clauses.{project_rows}
use Rattle.rel_algebra.specs.Ranks.{in_rank_order, ranked_from, shown, first_rows, rank_rows, rank_column, rank_columns}
use Rattle.rel_algebra.proofs.laws.Ranks.{rank_total, rank_exact}
use Rattle.rel_algebra.specs.Sums.{Each}
use Rattle.rel_algebra.proofs.laws.Bags.{each-bag_of}
use Rattle.rel_algebra.proofs.laws.Keys.{each-by_key}
use Rattle.rel_algebra.specs.Answer.{Table, answer}
use Rattle.rel_algebra.specs.Rel.{Rel}
use Rattle.rel_algebra.specs.Rel as r
use Rattle.rel_algebra.specs.Types.{columns_if, is_column, largest_bound, rank_fits}
use Rattle.sql_syntax.specs.Tree.{Tree}
use Rattle.sql_syntax.specs.Tree as t
use Rattle.query_answer.specs.declared.scope.Found.{Found}
use Rattle.query_answer.specs.declared.scope.Found.TheVariants.{Absent, At, Several}
use Rattle.query_answer.specs.declared.scope.ScopeColumn.{ScopeColumn}
use Rattle.query_answer.specs.Answer.{Listed, Placed, Written, NoSource, entries, listed_over, found_at, told, types}
use Rattle.query_answer.specs.Answer as a
use Rattle.query_answer.specs.Calls.{Call}
use Rattle.query_answer.specs.Joins.{plain_column}
use Rattle.query_answer.specs.Names.{Scope, Lookup, find, column_at}
use Rattle.query_answer.specs.Ranks.{Ranked, Top, places, sorts, with_place, with_sort, int_literal, ranks_left, bound_if, bound_by, is_at, bound_of, top_or, top_from, with_rank, without}
use Rattle.query_answer.specs.Table.{Typed}
use Rattle.binding.specs.Checked.{or_code}
use Rattle.binding.specs.Expressions.{column, names, window_bound}
use Rattle.binding.specs.Nodes.{Bound}
use Rattle.binding.specs.Queries.{Relation, RankedList, plain_listed, projected, plain_place, places_bound, sorts_bound, items_bound, rank_bound, few, ranked_list}
use Rattle.binding.specs.Queries as b
use Rattle.query_laws.proofs.Bound.{Known}
use Rattle.query_laws.proofs.Clauses.{Fine}
use Rattle.query_laws.proofs.Lists.{map_length, slice_map, slice_before, slice_behind, slice_there}
use Rattle.query_laws.proofs.Names.{SameRow, IsThere, LooksUp, finds, finds_before, column_there, by_means}
use Rattle.query_laws.proofs.Nodes as k
use Rattle.query_laws.proofs.Options.{bind, then, for_all}
use Rattle.query_laws.proofs.Selects.{reach, FineAt, in_turn_means, typed_all, headed_same, types_headed, meanings_same, projected_right}

-- ---- the rows of Top-N are made of the rows that it is given

module _ (P Q : Row → Type 0) (sorts : List SortCol) (most : ℕ) (ranked : Bool) (m : (row : Row) (rank : ℕ) → P row → Q (shown ranked (row, rank))) where
  firsts : (rank count : ℕ) (rows : List Row) → AllByRecursion P rows → AllByRecursion Q (map (shown ranked) (take count (ranked_from rank rows)))
  firsts rank zero rows h = tt
  firsts rank (suc count) [] h = tt
  firsts rank (suc count) (row ∷ rows) h = (m row rank h.0, firsts (suc rank) count rows h.1)

  of_partition : (members : Rows) → Each P members → Each Q (first_rows sorts most ranked members)
  of_partition members h =
      each-bag_of row_total row_exact Q (map (shown ranked) (take most (ranked_from 1 (in_rank_order sorts members))))
      (firsts 1 most (in_rank_order sorts members) (each-bag_of (rank_total sorts) (rank_exact sorts) P (items members) h))

  pub each_ranked : (partition : List ℕ) (rows answer : Rows) → Each P rows → rank_rows partition sorts most ranked rows ≡ Some answer → Each Q answer
  each_ranked partition rows answer h e =
      each-by_key (project partition) (λ key members. Some (first_rows sorts most ranked members)) P Q
      (λ key members c k some i. let j : first_rows sorts most ranked members ≡ c = cc in subst (λ (d : Rows). Each Q d) j (of_partition members (alone key (items members) k)))
      rows answer h e
    where
      alone : (key : Row) (xs : List Row) → AllByRecursion (λ row. P row × (same_row key (project partition row) ≡ true)) xs → AllByRecursion P xs
      alone key [] k = tt
      alone key (x ∷ xs) k = (k.0.0, alone key xs k.1)

ranked_width : (ranked : Bool) (columns : List ColTy) (row : Row) (rank : ℕ) → length row ≡ length columns → length (shown ranked (row, rank)) ≡ length (rank_columns ranked columns)
ranked_width false columns row rank l = l
ranked_width true columns row rank l = length-append row (Num (pos rank) ∷ []) ∙ (ap (λ n. n + 1) l ∙ sym (length-append columns (rank_column ∷ [])))

-- ---- PARTITION BY and ORDER BY

-- a plain column that is there
abbrev IsPlain : Scope → Tree → ℕ → Type 0
IsPlain scope x n = (ty : ColTy) × (plain_column (find scope) x ≡ At n ty) × (is_column (types scope) n ≡ true)

plain_there : (scope : Scope) (x : Tree) → IsThere (types scope) (plain_column (find scope) x)
plain_there scope (t.Name of name quoted) = finds scope of name
plain_there scope (t.Paren x) = plain_there scope x
plain_there scope _ = tt

plain_is : (scope : Scope) (x : Tree) → IfOk (plain_place (plain_column (find scope) x)) (IsPlain scope x)
plain_is scope x = go (plain_column (find scope) x) refl (plain_there scope x)
  where
    go : (f : Found) → plain_column (find scope) x ≡ f → IsThere (types scope) f → IfOk (plain_place f) (IsPlain scope x)
    go Absent e h = tt
    go (At n ty) e h = (ty, e, lt-ltb n (length (types scope)) (slice_there (types scope) n ty h))
    go Several e h = tt

abbrev pub ArePlaces : Scope → t.Trees → List ℕ → Type 0
ArePlaces scope xs ns = (ns ≡ places (find scope) xs) × (list_all (is_column (types scope)) ns ≡ true)

places_are : (scope : Scope) (xs : t.Trees) → IfOk (places_bound scope xs) (ArePlaces scope xs)
places_are scope t.no_trees = (refl, refl)
places_are scope (t.tree_and x xs) =
    bind (plain_place (plain_column (find scope) x)) _ (IsPlain scope x) _ (plain_is scope x) (λ n p.
    bind (places_bound scope xs) _ (ArePlaces scope xs) _ (places_are scope xs) (λ ns q.
    (λ i. with_place (sym p.1 i) (q.0 i), λ i. p.2 i && q.1 i)))

abbrev pub AreSorts : Scope → t.SortList → List SortCol → Type 0
AreSorts scope xs ss = (ss ≡ sorts (find scope) xs) × (list_all (λ sort. is_column (types scope) sort.col) ss ≡ true)

sorts_are : (scope : Scope) (xs : t.SortList) → IfOk (sorts_bound scope xs) (AreSorts scope xs)
sorts_are scope t.no_sorts = (refl, refl)
sorts_are scope (t.sort_and (t.sort_of x desc) xs) =
    bind (plain_place (plain_column (find scope) x)) _ (IsPlain scope x) _ (plain_is scope x) (λ n p.
    bind (sorts_bound scope xs) _ (AreSorts scope xs) _ (sorts_are scope xs) (λ ss q.
    (λ i. with_sort (sym p.1 i) desc (q.0 i), λ i. p.2 i && q.1 i)))

-- ---- items over the columns of the sources, also where the rank stands behind them

abbrev cols_of : Scope → Bool → List ColTy
cols_of scope kept = rank_columns kept (types scope)

looks_up : (scope : Scope) (kept : Bool) → LooksUp (cols_of scope kept) (find scope)
looks_up scope true = finds_before scope (rank_column ∷ [])
looks_up scope false = finds scope

still_there : (scope : Scope) (kept : Bool) (n : ℕ) (ty : ColTy) → slice_get (types scope) n ≡ Some ty → slice_get (cols_of scope kept) n ≡ Some ty
still_there scope true n ty h = slice_before (types scope) (rank_column ∷ []) n (slice_there (types scope) n ty h) ∙ h
still_there scope false n ty h = h

module _ (scope : Scope) (kept : Bool) where
  abbrev pub Are : List Bound → List Typed → Type 0
  Are = k.AllAre (cols_of scope kept) SameRow

  placed_is : (m : ℕ) (o : Option ScopeColumn) → slice_get scope m ≡ o → IfOk (or_code UnknownColumn (option_map (λ c. column m c.ty) o)) (λ y. k.Is (cols_of scope kept) SameRow y (column_at (found_at m o)))
  placed_is m None q = tt
  placed_is m (Some c) q = column_there (cols_of scope kept) m c.ty (still_there scope kept m c.ty (slice_map (λ z. z.ty) scope m ∙ ap (option_map (λ z. z.ty)) q))

  listed_is : (n : ℕ) (l : Listed) → IfOk (plain_listed scope n l) (λ y. k.Is (cols_of scope kept) SameRow y (listed_over scope l))
  listed_is n (Placed m) = placed_is m (slice_get scope m) refl
  listed_is n (Written x) = by_means (cols_of scope kept) (find scope) (looks_up scope kept) x
  listed_is n NoSource = tt

  nothing_known : (n : ℕ) (cs : List Call) → Known (cols_of scope kept) SameRow (λ y. None) (λ n y. Ok None) (λ n c. Unit {0}) n cs
  nothing_known n [] = tt
  nothing_known n (c ∷ cs) = (tt, nothing_known (suc n) cs)

  items_are : (xs : t.Items) → IfOk (items_bound scope xs) (λ ys. Are ys (told scope xs) × (length ys ≡ length (entries scope xs)))
  items_are xs = in_turn_means (cols_of scope kept) SameRow (λ y. None) (λ n y. Ok None) (λ n c. Unit {0}) (plain_listed scope) (listed_over scope) (λ n l h. listed_is n l) 0 (entries scope xs) (nothing_known 0 _)

abbrev pub ItemsAre : Scope → t.Items → List Bound → Type 0
ItemsAre scope xs ys = (kept : Bool) → Are scope kept ys (told scope xs) × (length ys ≡ length (entries scope xs))

items_mean : (scope : Scope) (xs : t.Items) → IfOk (items_bound scope xs) (ItemsAre scope xs)
items_mean scope xs = for_all (items_bound scope xs) (λ kept ys. Are scope kept ys (told scope xs) × (length ys ≡ length (entries scope xs))) (λ kept. items_are scope kept xs)

-- ---- a list with a rank

pub record ListIs (q : Ranked) (x : Relation) (y : RankedList) : Type 0 where
  pub list_is : y.list ≡ q
  pub input_is : y.input ≡ x
  pub ahead_is : ItemsAre y.input.scope y.list.ahead y.ahead
  pub partition_is : ArePlaces y.input.scope y.list.partition y.partition
  pub order_is : AreSorts y.input.scope y.list.order y.order
  pub behind_is : ItemsAre y.input.scope y.list.behind y.behind

pub list_right : (q : Ranked) (x : Relation) → IfOk (ranked_list q x) (ListIs q x)
list_right q x =
    bind (items_bound x.scope q.ahead) _ (ItemsAre x.scope q.ahead) _ (items_mean x.scope q.ahead) (λ xs h.
    then (window_bound (names x.scope) 0 (t.some_over (t.over_of q.partition q.order))) _ (ListIs q x) (λ walked w.
    bind (places_bound x.scope q.partition) _ (ArePlaces x.scope q.partition) _ (places_are x.scope q.partition) (λ ns p.
    bind (sorts_bound x.scope q.order) _ (AreSorts x.scope q.order) _ (sorts_are x.scope q.order) (λ ss s.
    bind (items_bound x.scope q.behind) _ (ItemsAre x.scope q.behind) _ (items_mean x.scope q.behind) (λ ys l.
    then (few (with_rank true xs (rank_bound x.scope) ys)) _ (ListIs q x) (λ all e.
    record { list_is = refl; input_is = refl; ahead_is = h; partition_is = p; order_is = s; behind_is = l }))))))

-- with the rank, where it is kept
module _ (cols : List ColTy) where
  are_append : (xs ys : List Bound) (zs ws : List Typed) → k.AllAre cols SameRow xs zs → k.AllAre cols SameRow ys ws → k.AllAre cols SameRow (xs ++ ys) (zs ++ ws)
  are_append [] ys [] ws h l = l
  are_append [] ys (z ∷ zs) ws h l = absurd h
  are_append (x ∷ xs) ys [] ws h l = absurd h
  are_append (x ∷ xs) ys (z ∷ zs) ws h l = (h.0, are_append xs ys zs ws h.1 l)

rank_is : (scope : Scope) → k.Is (cols_of scope true) SameRow (rank_bound scope) (column_at (At (length scope) rank_column))
rank_is scope = column_there (cols_of scope true) (length scope) rank_column (slice_behind (types scope) [] rank_column (length scope) (map_length (λ c. c.ty) scope))

all_are : (scope : Scope) (kept : Bool) (xs ys : List Bound) (zs ws : List Typed) → Are scope kept xs zs → Are scope kept ys ws
    → Are scope kept (with_rank kept xs (rank_bound scope) ys) (with_rank kept zs (column_at (At (length scope) rank_column)) ws)
all_are scope true xs ys zs ws h l = are_append (cols_of scope true) xs (rank_bound scope ∷ ys) zs (column_at (At (length scope) rank_column) ∷ ws) h (rank_is scope, l)
all_are scope false xs ys zs ws h l = are_append (cols_of scope false) xs ys zs ws h l

as_many : {A B : Type 0} (kept : Bool) (xs : List A) (x : A) (ys : List A) (es : List B) (e : B) (ds : List B) → length xs ≡ length es → length ys ≡ length ds → length (with_rank kept xs x ys) ≡ length (with_rank kept es e ds)
as_many true xs x ys es e ds h l = length-append xs (x ∷ ys) ∙ ((λ i. h i + suc (l i)) ∙ sym (length-append es (e ∷ ds)))
as_many false xs x ys es e ds h l = length-append xs ys ∙ ((λ i. h i + l i) ∙ sym (length-append es ds))

-- a bound is 1 to 10,000
abbrev pub IsBound : ℕ → Type 0
IsBound n = (nat_le 1 n && nat_le n largest_bound) ≡ true

module _ (T : List Table) where
  rank_fine : (rel : Rel) (columns : List ColTy) (partition : List ℕ) (order : List SortCol) (most : ℕ) (kept : Bool) → Fine T rel columns → rank_fits columns partition order most ≡ true → Fine T (r.Rank rel partition order most kept) (rank_columns kept columns)
  rank_fine rel columns partition order most kept f h = record {
    typed = ap (option_and_then (λ cs. columns_if (rank_fits cs partition order most) (rank_columns kept cs))) f.typed ∙ ap (λ t. cond t (Some (rank_columns kept columns)) None) h;
    wide = λ rows e. made (answer T rel) refl rows e;
    unions = f.unions;
    projects = f.projects;
  }
    where
      made : (o : Option Rows) → answer T rel ≡ o → (rows : Rows) → option_and_then (rank_rows partition order most kept) o ≡ Some rows → Each (λ row. length row ≡ length (rank_columns kept columns)) rows
      made None i rows e = absurd (cc)
      made (Some all) i rows e =
          each_ranked (λ row. length row ≡ length columns) (λ row. length row ≡ length (rank_columns kept columns)) order most kept (λ row rank l. ranked_width kept columns row rank l) partition all rows (f.wide all i) e

  -- its first rows have the answer of the clause
  pub first_right : (q : Ranked) (x : Relation) (y : RankedList) (most : ℕ) (kept : Bool) → ListIs q x y → FineAt T y.input → IsBound most
      → (reach T (b.first_ranked most kept y) ≡ a.first_ranked y.list most kept (reach T y.input)) × FineAt T (b.first_ranked most kept y)
  first_right q x y most kept h f g =
      let scope = y.input.scope in
      let xs = with_rank kept y.ahead (rank_bound scope) y.behind in
      let zs = with_rank kept (told scope y.list.ahead) (column_at (At (length scope) rank_column)) (told scope y.list.behind) in
      let es = a.ranked_entries kept scope y.list in
      let cols = cols_of scope kept in
      let are : k.AllAre cols SameRow xs zs = all_are scope kept y.ahead y.behind (told scope y.list.ahead) (told scope y.list.behind) (h.ahead_is kept).0 (h.behind_is kept).0 in
      let long : length xs ≡ length es = as_many kept y.ahead (rank_bound scope) y.behind (entries scope y.list.ahead) (a.rank_entry scope y.list.name) (entries scope y.list.behind) (h.ahead_is kept).1 (h.behind_is kept).1 in
      let rel = r.Rank y.input.rel y.partition y.order most kept in
      let fits : rank_fits (types scope) y.partition y.order most ≡ true = (λ i. h.partition_is.1 i && (h.order_is.1 i && g i)) in
      let p = projected_right T rel cols (length cols) refl (rank_fine y.input.rel (types scope) y.partition y.order most kept f fits) xs (typed_all cols SameRow xs zs are) in (
        λ i. record {
          scope = headed_same cols SameRow es xs zs are i;
          rows = (
              p.0
              ∙ (λ j. option_and_then (project_rows (meanings_same cols xs zs are j)) (option_and_then (rank_rows (h.partition_is.0 j) (h.order_is.0 j) most kept) (answer T y.input.rel)))) i;
        },
        subst (λ cs. Fine T (projected (length cols) xs rel) cs) (sym (types_headed es xs long)) p.1,
      )

-- ---- the bound

abbrev BoundFits : Option ℕ → Type 0
BoundFits None = Unit {0}
BoundFits (Some n) = IsBound n

if_fits : (n : ℕ) → BoundFits (bound_if n)
if_fits n = go (nat_le 1 n && nat_le n largest_bound) refl
  where
    go : (t : Bool) → (nat_le 1 n && nat_le n largest_bound) ≡ t → BoundFits (cond t (Some n) None)
    go true e = e
    go false e = tt

by_fits : (op : CompareOp) (o : Option ℕ) → BoundFits (bound_by op o)
by_fits op None = tt
by_fits op (Some n) = if_fits (ranks_left op n)

if_so : (t : Bool) (o : Option ℕ) → BoundFits o → BoundFits (cond t o None)
if_so true o h = h
if_so false o h = tt

of_fits : (look : Lookup) (place : ℕ) (c : Tree) → BoundFits (bound_of look place c)
of_fits look place (t.Compare op x y) = if_so (is_at place (plain_column look x)) (bound_by op (int_literal y)) (by_fits op (int_literal y))
of_fits look place _ = tt

-- the conjunct is there, counted from n
abbrev pub TopFits : ℕ → List Tree → Option Top → Type 0
TopFits n cs None = Unit {0}
TopFits n cs (Some top) = IsBound top.bound × (n ≤ top.conjunct) × (top.conjunct < n + length cs)

pub top_fits : (n : ℕ) (look : Lookup) (place : ℕ) (cs : List Tree) → TopFits n cs (top_from n look place cs)
top_fits n look place [] = tt
top_fits n look place (c ∷ cs) = go (bound_of look place c) (of_fits look place c) (top_from (suc n) look place cs) (top_fits (suc n) look place cs)
  where
    go : (o : Option ℕ) → BoundFits o → (others : Option Top) → TopFits (suc n) cs others → TopFits n (c ∷ cs) (top_or n o others)
    go (Some most) h others l = (h, omega arith, omega arith)
    go None h None l = tt
    go None h (Some top) l = (l.0, (let p : suc n ≤ top.conjunct = l.1 in omega arith), (let p : top.conjunct < suc n + length cs = l.2 in omega arith))

-- ---- all but one

pub without_front : {A : Type 0} (n : ℕ) (xs ys : List A) → n < length xs → without n (xs ++ ys) ≡ without n xs ++ ys
without_front n [] ys l = absurd (omega arith)
without_front zero (x ∷ xs) ys l = refl
without_front (suc n) (x ∷ xs) ys l = ap (λ zs. x ∷ zs) (without_front n xs ys (omega arith))

pub without_behind : {A : Type 0} (n : ℕ) (xs ys : List A) → length xs ≤ n → without n (xs ++ ys) ≡ xs ++ without (n - length xs) ys
without_behind n [] ys l = let e : n ≡ n - 0 = omega arith in ap (λ m. without m ys) e
without_behind zero (x ∷ xs) ys l = absurd (omega arith)
without_behind (suc n) (x ∷ xs) ys l = let e : n - length xs ≡ suc n - suc (length xs) = omega arith in ap (λ zs. x ∷ zs) (without_behind n xs ys (omega arith)) ∙ ap (λ m. x ∷ (xs ++ without m ys)) e
