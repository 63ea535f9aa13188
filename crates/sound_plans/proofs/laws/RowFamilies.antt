-- Keys that are a family of sets, and a set beside itself.
use Rattle.std.proofs.Common.{◌≡◌, ℕ, ◌==◌, Bool, true, false, ◌||◌, List, [], ◌∷◌, refl, sym, ap, subst, ⊎_elim}
use Rattle.std.specs.List.{AllByRecursion, Contains, list_any}
use Rattle.std.proofs.lemmas.Bool.{eq-eqb, eqb-true}
use Rattle.ct_change.specs.KeyRows.{is_among}
use Rattle.rel_algebra.proofs.laws.Fits.{both}
use Rattle.column_sets.specs.Sets.{family, is_within, same_set, set_of}
use Rattle.sound_plans.proofs.laws.Members.{none as in_none, here, there, first_or, one_passes, only_one}
use Rattle.sound_plans.proofs.laws.KeyFamilies.{of_family, each_family}
use Rattle.sound_plans.proofs.laws.Sets.{of_set, part_of_within}

pub from_family : (sets own : List (List ℕ)) → own ≡ family sets → (set : List ℕ) → Contains own set → Contains sets set
from_family sets own e set c = of_family sets set (subst (λ (all : List (List ℕ)). Contains all set) e c)

pub each_from_family : (P : List ℕ → Type 0) (sets own : List (List ℕ)) → own ≡ family sets → AllByRecursion P sets → AllByRecursion P own
each_from_family P sets own e h = subst (λ (all : List (List ℕ)). AllByRecursion P all) (sym e) (each_family P sets h)

-- of one set
pub the_only : (one : List ℕ) (own : List (List ℕ)) → own ≡ family (one ∷ []) → (set : List ℕ) → Contains own set → one ≡ set
the_only one own e set c = only_one one set (from_family (one ∷ []) own e set c)

-- of none
pub from_none : (own : List (List ℕ)) → own ≡ [] → (set : List ℕ) → Contains own set → ⊥
from_none own e set c = in_none set (subst (λ (all : List (List ℕ)). Contains all set) e c)

pub each_from_none : (P : List ℕ → Type 0) (own : List (List ℕ)) → own ≡ [] → AllByRecursion P own
each_from_none P own e = subst (λ (all : List (List ℕ)). AllByRecursion P all) (sym e) tt

-- ---- a set is the same as itself

or_true : (a b : Bool) → b ≡ true → (a || b) ≡ true
or_true true b e = refl
or_true false b e = e

pub has_it : (set : List ℕ) (column : ℕ) → Contains set column → list_any (λ other. other == column) set ≡ true
has_it [] column c = absurd (in_none column c)
has_it (x ∷ set) column c =
    ⊎_elim
    (λ e. ap (λ b. b || list_any (λ other. other == column) set) (eq-eqb x column e))
    (λ d. or_true (x == column) (list_any (λ other. other == column) set) (has_it set column d))
    (first_or x set column c)

pub each_has : (set columns : List ℕ) → ((column : ℕ) → Contains columns column → Contains set column) → is_within columns set ≡ true
each_has set [] h = refl
each_has set (column ∷ columns) h = both (list_any (λ other. other == column) set) (is_within columns set) (has_it set column (h column (here column columns))) (each_has set columns (λ x c. h x (there column columns x c)))

pub within_itself : (set : List ℕ) → is_within set set ≡ true
within_itself set = each_has set set (λ column c. c)

pub same_itself : (set : List ℕ) → same_set set set ≡ true
same_itself set = let e = within_itself set in both (is_within set set) (is_within set set) e e

-- columns in order are among the columns
pub set_in : (columns : List ℕ) → is_within (set_of columns) columns ≡ true
set_in columns = each_has columns (set_of columns) (of_set columns)

-- a set has each column of one that is within it
pub among_within : (set more : List ℕ) (column : ℕ) → is_within set more ≡ true → is_among set column ≡ true → is_among more column ≡ true
among_within set more column within has =
    let one = one_passes (λ other. other == column) set has in
    let same : one.0 ≡ column = eqb-true one.0 column one.2 in
    subst (λ c. is_among more c ≡ true) same (has_it more one.0 (part_of_within set more within one.0 one.1))
