-- The calls of nodes and of lists.
use Rattle.std.proofs.Common.{◌≡◌, ℕ, ◌+◌, ◌<◌, List, [], ◌∷◌, ◌++◌, Option, Some, None, refl, ap, sym, ◌∙◌, drop, get_or, length, append-nil, append_assoc}
use Rattle.std.specs.Borrow.{Bor}
use Rattle.std.specs.Prelude.{option_copied, option_map, slice_get}
use Rattle.std.proofs.lemmas.List.{at_drop_more}
use Rattle.rel_algebra.specs.declared.agg.AggCall.{AggCall}
use Rattle.sql_syntax.specs.declared.tree.Tree.{Tree}
use Rattle.sql_syntax.specs.declared.tree.TreeWhen.{TreeWhen}
use Rattle.sql_syntax.specs.Tree as t
use Rattle.sql_syntax.specs.View.{view, trees_view, whens_view}
use Rattle.sql_syntax.proofs.laws.Views.{tree_when}
use Rattle.sql_syntax.specs.Walks.{parts}
use Rattle.sql_syntax.proofs.laws.Walks.{by_parts, joined}
use Rattle.query_answer.specs.Calls.{Call, aggregate_of, all_calls, call_at, call_of, call_or, calls, first_tree, own_calls, when_calls}
use Rattle.query_answer.specs.Functions.{function_of}

-- ---- the call that a node is

pub is_aggregate : (name : List ℕ) (args : t.Args) (filter : t.OptionalTree) (over : t.OptionalOver) (c : AggCall) → aggregate_of (function_of name) over ≡ Some c
    → call_at (t.Call name args filter over) ≡ Some (call_of c args filter)
is_aggregate name args filter over c e = ap (option_map (λ c. call_of c args filter)) e

pub is_no_aggregate : (name : List ℕ) (args : t.Args) (filter : t.OptionalTree) (over : t.OptionalOver) → aggregate_of (function_of name) over ≡ None
    → call_at (t.Call name args filter over) ≡ None
is_no_aggregate name args filter over e = ap (option_map (λ c. call_of c args filter)) e

-- ---- the calls of what a walk has still to come to

abbrev pub of_parts : List t.Tree → List Call
of_parts = joined (List Call) [] (λ cs ds. cs ++ ds) own_calls

by_own : (x : t.Tree) → calls x ≡ call_or (call_at x) (of_parts (parts x))
by_own x = by_parts (List Call) [] (λ cs ds. cs ++ ds) own_calls (λ cs. refl) append-nil append_assoc x

pub is_call : (x : t.Tree) (c : Call) → call_at x ≡ Some c → calls x ≡ c ∷ []
is_call x c e = by_own x ∙ ap (λ o. call_or o (of_parts (parts x))) e

-- where the node is no call, those of its parts are still to come
pub begins : (found : List Call) (x : t.Tree) (all : List t.Tree) → all ≡ parts x → call_at x ≡ None → found ++ of_parts all ≡ found ++ calls x
begins found x all e h = ap (λ ys. found ++ of_parts ys) e ∙ ap (λ cs. found ++ cs) (sym (by_own x ∙ ap (λ o. call_or o (of_parts (parts x))) h))

pub goes_on : (found more whole : List Call) (x : t.Tree) (all rest : List t.Tree) → found ++ of_parts all ≡ whole → all ≡ x ∷ rest → more ≡ found ++ calls x → more ++ of_parts rest ≡ whole
goes_on found more whole x all rest e h k = ap (λ cs. cs ++ of_parts rest) k ∙ append_assoc found (calls x) (of_parts rest) ∙ sym (ap (λ ys. found ++ of_parts ys) h) ∙ e

pub ends : (found whole : List Call) (all : List t.Tree) → found ++ of_parts all ≡ whole → all ≡ [] → found ≡ whole
ends found whole all e h = sym (append-nil found) ∙ sym (ap (λ ys. found ++ of_parts ys) h) ∙ e

pub first_of : (xs : List Tree) → option_map view (slice_get xs 0) ≡ first_tree (t.trees (trees_view xs))
first_of [] = refl
first_of (x ∷ xs) = refl

-- ---- the calls of lists, from the i-th item on

abbrev pub of_trees : List Tree → List Call
of_trees xs = all_calls (t.trees (trees_view xs))

abbrev pub of_whens : List TreeWhen → List Call
of_whens xs = when_calls (t.tree_whens (whens_view xs))

pub whens_step : (xs : List TreeWhen) (i : ℕ) (x : TreeWhen) → i < length xs → x ≡ get_or xs i x
    → of_whens (drop i xs) ≡ calls (view x.cond) ++ (calls (view x.result) ++ of_whens (drop (i + 1) xs))
whens_step xs i x l h =
    at_drop_more of_whens xs i x l ∙ ap (λ y. of_whens (y ∷ drop (i + 1) xs)) (sym h)
    ∙ ap (λ v. when_calls (t.tree_when_and v (t.tree_whens (whens_view (drop (i + 1) xs))))) (tree_when x)

-- what was found, with what was found in one item more
pub turned : (found more whole here rest left : List Call) → found ++ left ≡ whole → left ≡ here ++ rest → more ≡ found ++ here → more ++ rest ≡ whole
turned found more whole here rest left e h k = ap (λ xs. xs ++ rest) k ∙ append_assoc found here rest ∙ ap (λ xs. found ++ xs) (sym h) ∙ e

pub turned_twice : (found more most whole here there rest left : List Call) → found ++ left ≡ whole → left ≡ here ++ (there ++ rest) → more ≡ found ++ here → most ≡ more ++ there → most ++ rest ≡ whole
turned_twice found more most whole here there rest left e h k m = turned more most whole there rest (there ++ rest) (turned found more whole here (there ++ rest) left e h k) refl m

pub copied : (o : Option (Bor Tree)) (p : Option Tree) → option_copied o ≡ p → option_map (λ x. view x.now) o ≡ option_map view p
copied None p e = ap (option_map view) e
copied (Some x) p e = ap (option_map view) e
