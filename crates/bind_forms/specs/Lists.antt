-- Lists with a rank and lists of conjuncts, as the code comes to them.
use Rattle.std.specs.Prelude.{ℕ, suc, Bool, true, false, cond, List, [], ◌∷◌, ◌++◌, map, Option, Some, None, option_map}
use Rattle.rel_algebra.specs.Ranks.{rank_column}
use Rattle.sql_syntax.specs.Tree.{Text}
use Rattle.sql_syntax.specs.Tree as t
use Rattle.sql_syntax.specs.View.{trees_view}
use Rattle.sql_syntax.specs.declared.tree.Tree as d
use Rattle.query_answer.specs.Answer.{Entry, all_conjuncts, under}
use Rattle.query_answer.specs.Names.{Scope}
use Rattle.query_answer.specs.Ranks.{Ranked, has_rank, item_over, written_name}

abbrev pub conjuncts_of : List d.Tree → List t.Tree
conjuncts_of xs = all_conjuncts (t.trees (trees_view xs))

-- where the only rank stands, from the first item and from the others alone
abbrev pub place_from : t.OptionalOver → t.Items → Option ℕ → Option ℕ
place_from t.no_over xs others = option_map suc others
place_from (t.some_over over) xs others = cond (has_rank xs) None (Some 0)

abbrev pub only_place : t.Items → Option ℕ
only_place t.no_items = None
only_place (t.item_and x xs) = place_from (item_over x) xs (only_place xs)

-- a rank with its name between the items ahead of it and those behind it
abbrev pub over_ranked : List t.Item → t.OptionalOver → Option Text → List t.Item → Option Ranked
over_ranked xs t.no_over name ys = None
over_ranked xs (t.some_over over) None ys = None
over_ranked xs (t.some_over (t.over_of partition order)) (Some name) ys = Some (record { ahead = t.items xs; name = name; partition = partition; order = order; behind = t.items ys })

abbrev pub ranked_by : List t.Item → Option t.Item → List t.Item → Option Ranked
ranked_by xs None ys = None
ranked_by xs (Some x) ys = over_ranked xs (item_over x) (written_name x) ys

abbrev pub with_entry : Bool → List Entry → Entry → List Entry
with_entry true es e = es ++ e ∷ []
with_entry false es e = es

abbrev pub named_entries : Option Text → List Entry → Scope
named_entries alias es = map (λ e. under alias e.name rank_column) es
