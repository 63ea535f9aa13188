-- The line of a load, put together.
use Rattle.std.proofs.Common.{◌≡◌, ◌++◌, ◌∙◌, ℕ, List, ap, append_assoc, codes}

pub summary_put : (lines changes sums hash : List ℕ) → ((codes "load," ++ (lines ++ (codes "," ++ (changes ++ codes ",")))) ++ sums) ++ (codes "," ++ (hash ++ codes "\n"))
    ≡ codes "load," ++ (lines ++ (codes "," ++ (changes ++ (codes "," ++ (sums ++ (codes "," ++ (hash ++ codes "\n")))))))
summary_put lines changes sums hash =
    let end = codes "," ++ (hash ++ codes "\n") in
    append_assoc (codes "load," ++ (lines ++ (codes "," ++ (changes ++ codes ",")))) sums end
    ∙ ap (λ xs. codes "load," ++ xs) (append_assoc lines (codes "," ++ (changes ++ codes ",")) (sums ++ end) ∙ ap (λ xs. lines ++ (codes "," ++ xs)) (append_assoc changes (codes ",") (sums ++ end)))
