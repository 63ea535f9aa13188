-- A conjunct that is an IN over a query.
use Rattle.std.proofs.Common.{◌≡◌, Bool, true, false, List, Ok, Err, refl, sym, ap, ◌∙◌}
use Rattle.ct_catalog.specs.declared.table.TableDef.{TableDef}
use Rattle.sql_syntax.specs.declared.tree.Query.{Query}
use Rattle.sql_syntax.specs.declared.tree.Tree.{Tree}
use Rattle.sql_syntax.specs.declared.tree.Tree.TheVariants as trees
use Rattle.sql_syntax.specs.Tree as t
use Rattle.sql_syntax.specs.View.{query_view, view}
use Rattle.sql_syntax.proofs.laws.Views.{tree_in_query}
use Rattle.query_answer.specs.Names.{Scope}
use Rattle.binding.specs.Checked.{Checked, ◌>>=◌}
use Rattle.binding.specs.Queries.{Outside, alone, member_part, own_value, parts_bound, plain_part, query_bound}
use Rattle.binder.specs.Steps.{only_part}

assoc : {A B C : Type 0} (r : Checked A) (f : A → Checked B) (g : B → Checked C) → (r >>= f >>= g) ≡ (r >>= λ x. f x >>= g)
assoc (Ok x) f g = refl
assoc (Err code) f g = refl

of_in_query : (free : Bool) (sources : List TableDef) (outside : Outside) (own : Scope) (u : Tree) (q : Query) (negated : Bool)
    → parts_bound free sources outside own (view (trees.InQuery u q negated)) ≡ only_part free sources outside own (view (trees.InQuery u q negated))
of_in_query free sources outside own u q negated =
    ap (parts_bound free sources outside own) (tree_in_query u q negated) ∙ by negated ∙ ap (only_part free sources outside own) (sym (tree_in_query u q negated))
  where
    by : (n : Bool) → parts_bound free sources outside own (t.InQuery (view u) (query_view q) n) ≡ only_part free sources outside own (t.InQuery (view u) (query_view q) n)
    by true = refl
    by false = sym (assoc (plain_part outside own (view u) >>= own_value) (λ a. query_bound free sources (query_view q) >>= member_part own (view u) a) alone)

pub in_query : (u : Tree) (q : Query) (negated : Bool) (free : Bool) (sources : List TableDef) (outside : Outside) (own : Scope) (x : Tree) → x ≡ trees.InQuery u q negated
    → parts_bound free sources outside own (view x) ≡ only_part free sources outside own (view x)
in_query u q negated free sources outside own x e =
    ap (λ y. parts_bound free sources outside own (view y)) e ∙ of_in_query free sources outside own u q negated ∙ ap (λ y. only_part free sources outside own (view y)) (sym e)
