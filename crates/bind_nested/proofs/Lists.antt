-- At most 64 columns, of which one is the rank's.
use Rattle.std.proofs.Common.{◌≡◌, ℕ, suc, ◌+◌, ◌-◌, ◌<◌, ◌≤◌, nat_lt, lt-ltb, le-ltb, Bool, true, false, List, ◌∷◌, length, cond, Ok, Err, ap, ◌∙◌, arith, length-append}
use Rattle.std.proofs.lemmas.List.{length-map}
use Rattle.ct_value.specs.declared.codes.ScriptCode.{ScriptCode}
use Rattle.ct_value.specs.declared.codes.ScriptCode.TheVariants.{TooManyColumns}
use Rattle.rel_algebra.specs.declared.sort.SortCol.{SortCol}
use Rattle.sql_syntax.specs.Tree as t
use Rattle.query_answer.specs.Ranks.{Ranked, with_rank}
use Rattle.binding.specs.Checked.{Checked, ◌>>=◌}
use Rattle.binding.specs.Expressions.{names, window_bound}
use Rattle.binding.specs.Nodes.{Bound}
use Rattle.binding.specs.Queries.{RankedList, Relation, few, items_bound, places_bound, rank_bound, ranked_list, sorts_bound}
use Rattle.bind_nodes.specs.Views.{bound_view, bounds_view}
use Rattle.bind_nodes.specs.declared.bound.Bound.{Bound as CodeBound}

abbrev all : List CodeBound → Bound → List CodeBound → List Bound
all es x ds = with_rank true (bounds_view es) x (bounds_view ds)

long : (es ds : List CodeBound) (x : Bound) → length (all es x ds) ≡ length es + suc (length ds)
long es ds x = length-append (bounds_view es) (x ∷ bounds_view ds) ∙ (λ i. length-map es bound_view i + suc (length-map ds bound_view i))

few_by : (es ds : List CodeBound) (x : Bound) (t : Bool) → nat_lt 64 (length (all es x ds)) ≡ t → few (all es x ds) ≡ cond t (Err TooManyColumns) (Ok (all es x ds))
few_by es ds x t e = ap (λ t. cond t (Err TooManyColumns) (Ok (all es x ds))) e

pub fits : (es ds : List CodeBound) → length es ≤ 63 → length ds ≤ 63 - length es → (x : Bound) → few (all es x ds) ≡ Ok (all es x ds)
fits es ds l m x = few_by es ds x false (le-ltb 64 (length (all es x ds)) (let e = long es ds x in omega arith))

pub many_ahead : (es ds : List CodeBound) → 63 < length es → (x : Bound) → few (all es x ds) ≡ Err TooManyColumns
many_ahead es ds l x = few_by es ds x true (lt-ltb 64 (length (all es x ds)) (let e = long es ds x in omega arith))

pub many_behind : (es ds : List CodeBound) → length es ≤ 63 → 63 - length es < length ds → (x : Bound) → few (all es x ds) ≡ Err TooManyColumns
many_behind es ds l m x = few_by es ds x true (lt-ltb 64 (length (all es x ds)) (let e = long es ds x in omega arith))

-- ---- a list with too many columns

module _ (q : Ranked) (x : Relation) where
  abbrev whole : List Bound → List ℕ → List SortCol → List Bound → List Bound → Checked RankedList
  whole xs ns ss ys all = Ok (record { list = q; input = x; ahead = xs; partition = ns; order = ss; behind = ys })

  abbrev all_of : List Bound → List ℕ → List SortCol → List Bound → Checked RankedList
  all_of xs ns ss ys = few (with_rank true xs (rank_bound x.scope) ys) >>= whole xs ns ss ys

  abbrev from_behind : List Bound → List ℕ → List SortCol → Checked RankedList
  from_behind xs ns ss = items_bound x.scope q.behind >>= all_of xs ns ss

  abbrev from_order : List Bound → List ℕ → Checked RankedList
  from_order xs ns = sorts_bound x.scope q.order >>= from_behind xs ns

  abbrev from_partition : List Bound → List Bound → Checked RankedList
  from_partition xs walked = places_bound x.scope q.partition >>= from_order xs

  abbrev walk : Checked (List Bound)
  walk = window_bound (names x.scope) 0 (t.some_over (t.over_of q.partition q.order))

  abbrev from_window : List Bound → Checked RankedList
  from_window xs = walk >>= from_partition xs

  pub too_many : (xs ws : List Bound) (ns : List ℕ) (ss : List SortCol) (ys : List Bound) (code : ScriptCode) → items_bound x.scope q.ahead ≡ Ok xs → walk ≡ Ok ws → places_bound x.scope q.partition ≡ Ok ns → sorts_bound x.scope q.order ≡ Ok ss
      → items_bound x.scope q.behind ≡ Ok ys → few (with_rank true xs (rank_bound x.scope) ys) ≡ Err code → ranked_list q x ≡ Err code
  too_many xs ws ns ss ys code a w p o b h =
      ap (λ r. r >>= from_window) a ∙ ap (λ r. r >>= from_partition xs) w ∙ ap (λ r. r >>= from_order xs) p ∙ ap (λ r. r >>= from_behind xs ns) o ∙ ap (λ r. r >>= all_of xs ns ss) b ∙ ap (λ r. r >>= whole xs ns ss ys) h
