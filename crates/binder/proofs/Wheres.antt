-- The conjuncts of a WHERE, as far as a loop has come.
use Rattle.std.proofs.Common.{Bool, ◌≡◌, ℕ, ◌+◌, ◌<◌, ◌≤◌, List, [], ◌∷◌, ◌++◌, length, drop, get_or, Ok, Err, refl, sym, ap, ◌∙◌, append_assoc, append-nil}
use Rattle.std.proofs.lemmas.List.{at_drop_more, drop_all}
use Rattle.ct_value.specs.declared.codes.ScriptCode.{ScriptCode}
use Rattle.ct_catalog.specs.declared.table.TableDef.{TableDef}
use Rattle.sql_syntax.specs.declared.tree.Tree.{Tree}
use Rattle.sql_syntax.specs.Tree as t
use Rattle.sql_syntax.specs.View.{view, trees_view}
use Rattle.query_answer.specs.Names.{Scope}
use Rattle.binding.specs.Checked.{Checked, ◌>>=◌}
use Rattle.binding.specs.Queries.{Outside, Part, all_parts_bound, parts_bound}

-- these, and then those that are left
abbrev pub behind : List Part → Checked (List Part) → Checked (List Part)
behind ps (Ok qs) = Ok (ps ++ qs)
behind ps (Err code) = Err code

pub more_behind : (ps qs : List Part) (r : Checked (List Part)) → behind ps (r >>= λ rs. Ok (qs ++ rs)) ≡ behind (ps ++ qs) r
more_behind ps qs (Ok rs) = ap Ok (sym (append_assoc ps qs rs))
more_behind ps qs (Err code) = refl

pub nothing_before : (r : Checked (List Part)) → r ≡ behind [] r
nothing_before (Ok ps) = refl
nothing_before (Err code) = refl

module _ (free : Bool) (sources : List TableDef) (outside : Outside) (own : Scope) where
  abbrev pub parts_from : List Tree → Checked (List Part)
  parts_from xs = all_parts_bound free sources outside own (t.trees (trees_view xs))

  step : (xs : List Tree) (i : ℕ) (x : Tree) → i < length xs → x ≡ get_or xs i x → parts_from (drop i xs) ≡ (parts_bound free sources outside own (view x) >>= λ ps. parts_from (drop (i + 1) xs) >>= λ qs. Ok (ps ++ qs))
  step xs i x l h = at_drop_more parts_from xs i x l ∙ ap (λ y. parts_from (y ∷ drop (i + 1) xs)) (sym h)

  module _ (whole : Checked (List Part)) (xs : List Tree) (i : ℕ) (ps : List Part) (from : whole ≡ behind ps (parts_from (drop i xs))) where
    pub parts_failed : (x : Tree) (code : ScriptCode) → i < length xs → x ≡ get_or xs i x → parts_bound free sources outside own (view x) ≡ Err code → whole ≡ Err code
    parts_failed x code l h k = from ∙ ap (behind ps) (step xs i x l h ∙ ap (λ r. r >>= λ ps. parts_from (drop (i + 1) xs) >>= λ qs. Ok (ps ++ qs)) k)

    pub parts_turn : (x : Tree) (qs more : List Part) → i < length xs → x ≡ get_or xs i x → parts_bound free sources outside own (view x) ≡ Ok qs → more ≡ ps ++ qs → whole ≡ behind more (parts_from (drop (i + 1) xs))
    parts_turn x qs more l h k p =
        from ∙ ap (behind ps) (step xs i x l h ∙ ap (λ r. r >>= λ ps. parts_from (drop (i + 1) xs) >>= λ qs. Ok (ps ++ qs)) k)
        ∙ more_behind ps qs (parts_from (drop (i + 1) xs)) ∙ ap (λ rs. behind rs (parts_from (drop (i + 1) xs))) (sym p)

    pub parts_end : length xs ≤ i → whole ≡ Ok ps
    parts_end l = from ∙ ap (λ (ys : List Tree). behind ps (parts_from ys)) (drop_all i xs l) ∙ ap Ok (append-nil ps)
