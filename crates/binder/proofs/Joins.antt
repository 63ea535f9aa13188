-- The joins of FROM, as far as a loop has come.
use Rattle.std.proofs.Common.{Bool, ◌≡◌, ℕ, ◌+◌, ◌<◌, List, ◌∷◌, length, drop, get_or, Ok, Err, ap, sym, ◌∙◌}
use Rattle.std.proofs.lemmas.List.{at_drop_more}
use Rattle.ct_value.specs.declared.codes.ScriptCode.{ScriptCode}
use Rattle.ct_catalog.specs.declared.table.TableDef.{TableDef}
use Rattle.sql_syntax.specs.declared.tree.JoinItem.{JoinItem}
use Rattle.sql_syntax.specs.Tree as t
use Rattle.sql_syntax.specs.View.{joins_view, source_view, view}
use Rattle.sql_syntax.proofs.laws.Views.{join_item}
use Rattle.query_answer.specs.Joins.{kind_of}
use Rattle.binding.specs.Checked.{Checked, ◌>>=◌}
use Rattle.binding.specs.Queries.{Relation, joined, joins_bound, source_bound}

abbrev pub joins_left : Bool → List TableDef → Relation → List JoinItem → Checked Relation
joins_left free sources a xs = joins_bound free sources (t.joins (joins_view xs)) a

module _ (free : Bool) (sources : List TableDef) (whole : Checked Relation) (xs : List JoinItem) (i : ℕ) (a : Relation) (from : whole ≡ joins_left free sources a (drop i xs)) where
  abbrev rest : Relation → Checked Relation
  rest b = joins_left free sources b (drop (i + 1) xs)

  step : (x : JoinItem) → i < length xs → x ≡ get_or xs i x → whole ≡ (source_bound free sources (source_view x.source) >>= λ y. joined (kind_of x.kind) a y (view x.on) >>= rest)
  step x l h =
      from ∙ at_drop_more (joins_left free sources a) xs i x l ∙ ap (λ y. joins_left free sources a (y ∷ drop (i + 1) xs)) (sym h)
      ∙ ap (λ v. joins_bound free sources (t.join_and v (t.joins (joins_view (drop (i + 1) xs)))) a) (join_item x)

  pub source_refused : (x : JoinItem) (code : ScriptCode) → i < length xs → x ≡ get_or xs i x → source_bound free sources (source_view x.source) ≡ Err code → whole ≡ Err code
  source_refused x code l h k = step x l h ∙ ap (λ r. r >>= λ y. joined (kind_of x.kind) a y (view x.on) >>= rest) k

  pub join_refused : (x : JoinItem) (y : Relation) (code : ScriptCode) → i < length xs → x ≡ get_or xs i x → source_bound free sources (source_view x.source) ≡ Ok y → joined (kind_of x.kind) a y (view x.on) ≡ Err code → whole ≡ Err code
  join_refused x y code l h k e = step x l h ∙ ap (λ r. r >>= λ y. joined (kind_of x.kind) a y (view x.on) >>= rest) k ∙ ap (λ r. r >>= rest) e

  pub join_turn : (x : JoinItem) (y b : Relation) → i < length xs → x ≡ get_or xs i x → source_bound free sources (source_view x.source) ≡ Ok y → joined (kind_of x.kind) a y (view x.on) ≡ Ok b → whole ≡ rest b
  join_turn x y b l h k e = step x l h ∙ ap (λ r. r >>= λ y. joined (kind_of x.kind) a y (view x.on) >>= rest) k ∙ ap (λ r. r >>= rest) e
