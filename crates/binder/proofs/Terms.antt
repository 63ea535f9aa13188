-- A query by its terms, and those behind the first as far as a loop has come.
use Rattle.std.proofs.Common.{◌≡◌, ℕ, ◌+◌, ◌<◌, Bool, false, List, ◌∷◌, Option, Ok, Err, length, drop, get_or, sym, ap, ◌∙◌}
use Rattle.std.proofs.lemmas.List.{at_drop_more}
use Rattle.ct_value.specs.declared.codes.ScriptCode.{ScriptCode}
use Rattle.ct_value.specs.declared.codes.ScriptCode.TheVariants.{Unsupported}
use Rattle.ct_catalog.specs.declared.table.TableDef.{TableDef}
use Rattle.sql_syntax.specs.declared.tree.Args.TheViews.{out-Query, out-SelectTail, out-Term, out-TermTail}
use Rattle.sql_syntax.specs.declared.tree.Query.{Query}
use Rattle.sql_syntax.specs.declared.tree.SelectTail.{SelectTail}
use Rattle.sql_syntax.specs.declared.tree.Term.{Term}
use Rattle.sql_syntax.specs.declared.tree.TermTail.{TermTail}
use Rattle.sql_syntax.specs.Tree as t
use Rattle.sql_syntax.specs.View.{query_view, select_tails_view, select_view, sorts_view, term_tails_view, term_view}
use Rattle.sql_syntax.proofs.laws.Views.{query, select_tail, term, term_tail}
use Rattle.query_answer.specs.Forms.{is_plain}
use Rattle.binding.specs.Checked.{Checked, ◌>>=◌}
use Rattle.binding.specs.Queries.{Relation, Run, begun, beside_bound, by_word, intersected_bound, operated, query_bound, select_bound, term_bound}
use Rattle.binder.specs.Steps.{unless_ordered}

pub by_query : (free : Bool) (sources : List TableDef) (x : Query)
    → query_bound free sources (query_view x) ≡ (term_bound free sources (term_view (out-Query x).first) >>= λ y. beside_bound free sources (t.term_tails (term_tails_view (out-Query x).rest)) (begun y) >>= unless_ordered (t.sort_list (sorts_view (out-Query x).order)) (out-Query x).limit)
by_query free sources x = ap (query_bound free sources) (query x)

abbrev pub Ordered : t.SortList → Option t.Text → ScriptCode → Type 0
Ordered order limit code = (is_plain order limit ≡ false) × (code ≡ Unsupported)

-- ---- the selects of a term

abbrev pub selects_left : Bool → List TableDef → Relation → List SelectTail → Checked Relation
selects_left free sources a xs = intersected_bound free sources (t.select_tails (select_tails_view xs)) a

pub by_term : (free : Bool) (sources : List TableDef) (x : Term) → term_bound free sources (term_view x) ≡ (select_bound free sources (select_view (out-Term x).first) >>= λ a. selects_left free sources a (out-Term x).rest)
by_term free sources x = ap (term_bound free sources) (term x)

module _ (free : Bool) (sources : List TableDef) (whole : Checked Relation) (xs : List SelectTail) (i : ℕ) (a : Relation) (from : whole ≡ selects_left free sources a (drop i xs)) where
  abbrev rest : Relation → Checked Relation
  rest b = selects_left free sources b (drop (i + 1) xs)

  step : (x : SelectTail) → i < length xs → x ≡ get_or xs i x → whole ≡ (select_bound free sources (select_view (out-SelectTail x).select) >>= λ y. operated false (out-SelectTail x).all a y >>= rest)
  step x l h =
      from ∙ at_drop_more (selects_left free sources a) xs i x l ∙ ap (λ y. selects_left free sources a (y ∷ drop (i + 1) xs)) (sym h)
      ∙ ap (λ v. intersected_bound free sources (t.select_tail_and v (t.select_tails (select_tails_view (drop (i + 1) xs)))) a) (select_tail x)

  pub select_refused : (x : SelectTail) (code : ScriptCode) → i < length xs → x ≡ get_or xs i x → select_bound free sources (select_view (out-SelectTail x).select) ≡ Err code → whole ≡ Err code
  select_refused x code l h k = step x l h ∙ ap (λ r. r >>= λ y. operated false (out-SelectTail x).all a y >>= rest) k

  pub intersect_refused : (x : SelectTail) (y : Relation) (code : ScriptCode) → i < length xs → x ≡ get_or xs i x → select_bound free sources (select_view (out-SelectTail x).select) ≡ Ok y → operated false (out-SelectTail x).all a y ≡ Err code → whole ≡ Err code
  intersect_refused x y code l h k e = step x l h ∙ ap (λ r. r >>= λ y. operated false (out-SelectTail x).all a y >>= rest) k ∙ ap (λ r. r >>= rest) e

  pub intersect_turn : (x : SelectTail) (y b : Relation) → i < length xs → x ≡ get_or xs i x → select_bound free sources (select_view (out-SelectTail x).select) ≡ Ok y → operated false (out-SelectTail x).all a y ≡ Ok b → whole ≡ rest b
  intersect_turn x y b l h k e = step x l h ∙ ap (λ r. r >>= λ y. operated false (out-SelectTail x).all a y >>= rest) k ∙ ap (λ r. r >>= rest) e

-- ---- the terms of a query

abbrev pub terms_left : Bool → List TableDef → Run → List TermTail → Checked Run
terms_left free sources run xs = beside_bound free sources (t.term_tails (term_tails_view xs)) run

module _ (free : Bool) (sources : List TableDef) (whole : Checked Run) (xs : List TermTail) (i : ℕ) (run : Run) (from : whole ≡ terms_left free sources run (drop i xs)) where
  abbrev behind : Run → Checked Run
  behind next = terms_left free sources next (drop (i + 1) xs)

  term_step : (x : TermTail) → i < length xs → x ≡ get_or xs i x → whole ≡ (term_bound free sources (term_view (out-TermTail x).term) >>= λ y. by_word (out-TermTail x).word run y >>= behind)
  term_step x l h =
      from ∙ at_drop_more (terms_left free sources run) xs i x l ∙ ap (λ y. terms_left free sources run (y ∷ drop (i + 1) xs)) (sym h)
      ∙ ap (λ v. beside_bound free sources (t.term_tail_and v (t.term_tails (term_tails_view (drop (i + 1) xs)))) run) (term_tail x)

  pub term_refused : (x : TermTail) (code : ScriptCode) → i < length xs → x ≡ get_or xs i x → term_bound free sources (term_view (out-TermTail x).term) ≡ Err code → whole ≡ Err code
  term_refused x code l h k = term_step x l h ∙ ap (λ r. r >>= λ y. by_word (out-TermTail x).word run y >>= behind) k

  pub word_refused : (x : TermTail) (y : Relation) (code : ScriptCode) → i < length xs → x ≡ get_or xs i x → term_bound free sources (term_view (out-TermTail x).term) ≡ Ok y → by_word (out-TermTail x).word run y ≡ Err code → whole ≡ Err code
  word_refused x y code l h k e = term_step x l h ∙ ap (λ r. r >>= λ y. by_word (out-TermTail x).word run y >>= behind) k ∙ ap (λ r. r >>= behind) e

  pub word_turn : (x : TermTail) (y : Relation) (next : Run) → i < length xs → x ≡ get_or xs i x → term_bound free sources (term_view (out-TermTail x).term) ≡ Ok y → by_word (out-TermTail x).word run y ≡ Ok next → whole ≡ behind next
  word_turn x y next l h k e = term_step x l h ∙ ap (λ r. r >>= λ y. by_word (out-TermTail x).word run y >>= behind) k ∙ ap (λ r. r >>= behind) e
