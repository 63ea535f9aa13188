-- The conjuncts of a WHERE but for one that may be spent, as far as a loop has come.
use Rattle.std.proofs.Common.{◌≡◌, ℕ, ◌+◌, ◌-◌, ◌<◌, ◌≤◌, nat_lt, Bool, true, false, List, [], ◌∷◌, ◌++◌, length, drop, get_or, cond, Option, Some, None, Ok, Err, refl, sym, ap, ◌∙◌, append-nil}
use Rattle.std.proofs.lemmas.List.{at_drop_more, drop_all}
use Rattle.ct_value.specs.declared.codes.ScriptCode.{ScriptCode}
use Rattle.ct_catalog.specs.declared.table.TableDef.{TableDef}
use Rattle.sql_syntax.specs.declared.tree.Tree.{Tree}
use Rattle.sql_syntax.specs.Tree as t
use Rattle.sql_syntax.specs.View.{view, trees_view}
use Rattle.query_answer.specs.Answer.{conjuncts}
use Rattle.query_answer.specs.Names.{Scope}
use Rattle.binding.specs.Checked.{Checked, ◌>>=◌}
use Rattle.binding.specs.Queries.{Outside, Part, all_parts_bound, all_parts_but, parts_bound, parts_but, tests, where_bound}
use Rattle.binder.specs.Steps.{all_left_bound, left_bound, spent_behind, spent_here}
use Rattle.binder.proofs.Wheres.{behind, more_behind}

module _ (free : Bool) (sources : List TableDef) (outside : Outside) (own : Scope) where
  pub where_left : (spent : Option ℕ) (x : t.Tree) → where_bound free sources spent outside own (t.some_tree x) ≡ (left_bound free sources spent outside own x >>= tests)
  where_left None x = refl
  where_left (Some n) x = refl

  one_more : (spent : Option ℕ) (x : t.Tree) (xs : t.Trees) → all_left_bound free sources spent outside own (t.tree_and x xs)
      ≡ (left_bound free sources (spent_here spent x) outside own x >>= λ ps. all_left_bound free sources (spent_behind spent x) outside own xs >>= λ qs. Ok (ps ++ qs))
  one_more None x xs = refl
  one_more (Some n) x xs = go (nat_lt n (length (conjuncts x)))
    where
      go : (b : Bool) → cond b (parts_but free sources n outside own x >>= λ ps. all_parts_bound free sources outside own xs >>= λ qs. Ok (ps ++ qs)) (parts_bound free sources outside own x >>= λ ps. all_parts_but free sources (n - length (conjuncts x)) outside own xs >>= λ qs. Ok (ps ++ qs))
          ≡ (left_bound free sources (cond b (Some n) None) outside own x >>= λ ps. all_left_bound free sources (cond b None (Some (n - length (conjuncts x)))) outside own xs >>= λ qs. Ok (ps ++ qs))
      go true = refl
      go false = refl

  abbrev pub left_from : Option ℕ → List Tree → Checked (List Part)
  left_from spent xs = all_left_bound free sources spent outside own (t.trees (trees_view xs))

  step : (spent : Option ℕ) (xs : List Tree) (i : ℕ) (x : Tree) → i < length xs → x ≡ get_or xs i x
      → left_from spent (drop i xs) ≡ (left_bound free sources (spent_here spent (view x)) outside own (view x) >>= λ ps. left_from (spent_behind spent (view x)) (drop (i + 1) xs) >>= λ qs. Ok (ps ++ qs))
  step spent xs i x l h = at_drop_more (left_from spent) xs i x l ∙ ap (λ y. left_from spent (y ∷ drop (i + 1) xs)) (sym h) ∙ one_more spent (view x) (t.trees (trees_view (drop (i + 1) xs)))

  module _ (whole : Checked (List Part)) (xs : List Tree) (i : ℕ) (ps : List Part) (spent : Option ℕ) (from : whole ≡ behind ps (left_from spent (drop i xs))) where
    pub left_failed : (x : Tree) (code : ScriptCode) → i < length xs → x ≡ get_or xs i x → left_bound free sources (spent_here spent (view x)) outside own (view x) ≡ Err code → whole ≡ Err code
    left_failed x code l h k = from ∙ ap (behind ps) (step spent xs i x l h ∙ ap (λ r. r >>= λ ps. left_from (spent_behind spent (view x)) (drop (i + 1) xs) >>= λ qs. Ok (ps ++ qs)) k)

    pub left_turn : (x : Tree) (qs more : List Part) → i < length xs → x ≡ get_or xs i x → left_bound free sources (spent_here spent (view x)) outside own (view x) ≡ Ok qs → more ≡ ps ++ qs → whole ≡ behind more (left_from (spent_behind spent (view x)) (drop (i + 1) xs))
    left_turn x qs more l h k p =
        from ∙ ap (behind ps) (step spent xs i x l h ∙ ap (λ r. r >>= λ ps. left_from (spent_behind spent (view x)) (drop (i + 1) xs) >>= λ qs. Ok (ps ++ qs)) k)
        ∙ more_behind ps qs (left_from (spent_behind spent (view x)) (drop (i + 1) xs)) ∙ ap (λ rs. behind rs (left_from (spent_behind spent (view x)) (drop (i + 1) xs))) (sym p)

    nothing_left : (spent : Option ℕ) → left_from spent [] ≡ Ok []
    nothing_left None = refl
    nothing_left (Some n) = refl

    pub left_end : length xs ≤ i → whole ≡ Ok ps
    left_end l = from ∙ ap (λ (ys : List Tree). behind ps (left_from spent ys)) (drop_all i xs l) ∙ ap (behind ps) (nothing_left spent) ∙ ap Ok (append-nil ps)
