-- LIKE part by part: a part of a pattern stands between two percent signs.
use Rattle.std.specs.Prelude.{ℕ, suc, ◌==◌, Bool, true, false, ◌&&◌, ◌||◌, cond, List, [], ◌∷◌}

-- how many items of a pattern stand before its first percent sign
abbrev pub part_len : List ℕ → ℕ
part_len [] = 0
part_len (p ∷ ps) = cond (p == 37) 0 (suc (part_len ps))

-- whether a text begins with characters that a part matches, one each
abbrev pub fits : List ℕ → List ℕ → Bool
fits [] cs = true
fits (p ∷ ps) [] = false
fits (p ∷ ps) (c ∷ cs) = ((p == 95) || (p == c)) && fits ps cs
