-- Names within a subquery, and of which names sources have columns.
use Rattle.std.proofs.Common.{◌≡◌, ℕ, ◌+◌, ◌<◌, Bool, true, false, ◌||◌, ◌&&◌, List, ◌∷◌, length, Option, Some, None, drop, get_or, refl, sym, ap, ◌∙◌}
use Rattle.std.specs.Prelude.{cond, not}
use Rattle.std.specs.Str.{bytes_eq}
use Rattle.std.proofs.lemmas.List.{at_drop_more}
use Rattle.std.proofs.lemmas.Slice.Eq.{bytes_eq-Decides}
use Rattle.ct_catalog.specs.declared.table.TableDef.{TableDef}
use Rattle.sql_syntax.specs.declared.tree.Args.TheViews.{out-Query, out-Term}
use Rattle.sql_syntax.specs.declared.tree.JoinItem.{JoinItem}
use Rattle.sql_syntax.specs.declared.tree.Query.{Query}
use Rattle.sql_syntax.specs.Tree.{Text}
use Rattle.sql_syntax.specs.Tree as t
use Rattle.sql_syntax.specs.View.{joins_view, query_view, select_view, source_view}
use Rattle.sql_syntax.proofs.laws.Views.{join_item, query_parts}
use Rattle.query_answer.specs.Forms.{first_select, is_alone, is_sole}
use Rattle.query_answer.specs.Mentions.{in_exists, in_where, unless_own}
use Rattle.query_answer.specs.Names.{is_called}
use Rattle.query_answer.specs.Ranks.{ranked_query, ranked_select, reads_rank}
use Rattle.query_answer.specs.SourceColumns.{joins_have, of_source, query_has, select_has, source_has, sources_have}
use Rattle.bind_names.specs.declared.sought.RankName.{RankName}
use Rattle.bind_names.specs.Sought.{reads}

-- ---- the name of a rank

both_at : (x : RankName) → x.bare ≡ true → x.sourced ≡ true → (of : Option Text) (name : Text) → reads x of name ≡ reads_rank x.alias.now x.name.now of name
both_at x h k None name = ap (λ b. b && bytes_eq x.name.now name) h
both_at x h k (Some s) name = ap (λ b. b && (is_called s x.alias.now && bytes_eq x.name.now name)) k

pub both_ways : (x : RankName) → x.bare ≡ true → x.sourced ≡ true → reads x ≡ reads_rank x.alias.now x.name.now
both_ways x h k = λ i of name. both_at x h k of name i

swap : (c d b : Bool) → ((c && not d) && b) ≡ (not d && (c && b))
swap true true b = refl
swap true false b = refl
swap false true b = refl
swap false false b = refl

neither : (d c : Bool) → (d && (c && false)) ≡ false
neither true true = refl
neither true false = refl
neither false c = refl

module _ (tables : List TableDef) (from : t.Source) (joins : t.JoinItems) where
  abbrev has : Option Text → Text → Bool
  has of name = sources_have tables (of_source of) name from joins

  bare_at : (c : Bool) (of : Option Text) (x y : Text) → ((c && not (has of x)) && bytes_eq x y) ≡ (not (has of y) && (c && bytes_eq x y))
  bare_at c of x y = swap c (has of x) (bytes_eq x y) ∙ go (bytes_eq x y) refl
    where
      go : (b : Bool) → bytes_eq x y ≡ b → (not (has of x) && (c && b)) ≡ (not (has of y) && (c && b))
      go true e = ap (λ z. not (has of z) && (c && true)) ((bytes_eq-Decides x y).0 e)
      go false e = neither (not (has of x)) c ∙ sym (neither (not (has of y)) c)

  sourced_at : (c : Bool) (alias : Option Text) (x y s : Text) → ((c && not (has alias x)) && (is_called s alias && bytes_eq x y)) ≡ (not (has (Some s) y) && (c && (is_called s alias && bytes_eq x y)))
  sourced_at c None x y s = swap c (has None x) false ∙ neither (not (has None x)) c ∙ sym (neither (not (has (Some s) y)) c)
  sourced_at c (Some a) x y s = go (bytes_eq s a) refl
    where
      go : (b : Bool) → bytes_eq s a ≡ b → ((c && not (has (Some a) x)) && (b && bytes_eq x y)) ≡ (not (has (Some s) y) && (c && (b && bytes_eq x y)))
      go true e = bare_at c (Some a) x y ∙ ap (λ z. not (has (Some z) y) && (c && bytes_eq x y)) (sym ((bytes_eq-Decides s a).0 e))
      go false e = swap c (has (Some a) x) false ∙ neither (not (has (Some a) x)) c ∙ sym (neither (not (has (Some s) y)) c)

  -- within a subquery over these sources
  pub hidden : (r x : RankName) → x.alias ≡ r.alias → x.name ≡ r.name → x.bare ≡ (r.bare && not (has None r.name.now)) → x.sourced ≡ (r.sourced && not (has r.alias.now r.name.now)) → reads x ≡ unless_own tables from joins (reads r)
  hidden r x a n h k = λ i of name. at of name i
    where
      at : (of : Option Text) (name : Text) → reads x of name ≡ unless_own tables from joins (reads r) of name
      at None name = (λ i. h i && bytes_eq (n i).now name) ∙ bare_at r.bare None r.name.now name
      at (Some s) name = (λ i. k i && (is_called s (a i).now && bytes_eq (n i).now name)) ∙ sourced_at r.sourced r.alias.now r.name.now name s

-- ---- a query by its first select

first_parts : (x : Query) → first_select (query_view x) ≡ select_view (out-Term (out-Query x).first).first
first_parts x = ap first_select (query_parts x)

pub by_first : (tables : List TableDef) (name : Text) (x : Query) → query_has tables name (query_view x) ≡ select_has tables name (select_view (out-Term (out-Query x).first).first)
by_first tables name x = ap (query_has tables name) (query_parts x)

pub exists_then : (tables : List TableDef) (test : Option Text → Text → Bool) (x : Query) → is_alone (query_view x) ≡ true → in_where tables test (select_view (out-Term (out-Query x).first).first) ≡ in_exists tables test (query_view x)
exists_then tables test x e = ap (in_where tables test) (sym (first_parts x)) ∙ sym (ap (λ b. b && in_where tables test (first_select (query_view x))) e)

pub exists_else : (tables : List TableDef) (test : Option Text → Text → Bool) (x : Query) → is_alone (query_view x) ≡ false → false ≡ in_exists tables test (query_view x)
exists_else tables test x e = sym (ap (λ b. b && in_where tables test (first_select (query_view x))) e)

pub ranked_then : (x : Query) → is_sole (query_view x) ≡ true → ranked_select (select_view (out-Term (out-Query x).first).first) ≡ ranked_query (query_view x)
ranked_then x e = ap ranked_select (sym (first_parts x)) ∙ sym (ap (λ b. cond b (ranked_select (first_select (query_view x))) None) e)

pub ranked_else : (x : Query) → is_sole (query_view x) ≡ false → None ≡ ranked_query (query_view x)
ranked_else x e = sym (ap (λ b. cond b (ranked_select (first_select (query_view x))) None) e)

-- ---- columns

module _ (tables : List TableDef) (meant : Option Text → Bool) (name : Text) where
  abbrev pub joins_from : List JoinItem → Bool
  joins_from xs = joins_have tables meant name (t.joins (joins_view xs))

  joins_step : (xs : List JoinItem) (i : ℕ) (x : JoinItem) → i < length xs → x ≡ get_or xs i x → joins_from (drop i xs) ≡ (source_has tables meant name (source_view x.source) || joins_from (drop (i + 1) xs))
  joins_step xs i x l h =
      at_drop_more joins_from xs i x l ∙ ap (λ y. joins_from (y ∷ drop (i + 1) xs)) (sym h)
      ∙ ap (λ v. joins_have tables meant name (t.join_and v (t.joins (joins_view (drop (i + 1) xs))))) (join_item x)

  pub joins_yes : (xs : List JoinItem) (i : ℕ) (x : JoinItem) → i < length xs → x ≡ get_or xs i x → source_has tables meant name (source_view x.source) ≡ true → joins_from (drop i xs) ≡ true
  joins_yes xs i x l h e = joins_step xs i x l h ∙ ap (λ b. b || joins_from (drop (i + 1) xs)) e

  pub joins_more : (xs : List JoinItem) (i : ℕ) (x : JoinItem) → i < length xs → x ≡ get_or xs i x → source_has tables meant name (source_view x.source) ≡ false → joins_from (drop i xs) ≡ joins_from (drop (i + 1) xs)
  joins_more xs i x l h e = joins_step xs i x l h ∙ ap (λ b. b || joins_from (drop (i + 1) xs)) e
