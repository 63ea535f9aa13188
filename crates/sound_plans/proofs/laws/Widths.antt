-- Columns that are among so many stay among as many where sets are made of others.
use Rattle.std.specs.Prelude.{◌≡◌, ℕ, ◌+◌, ◌<◌, ◌≤◌, Bool, List, ◌++◌, length}
use Rattle.std.proofs.Common.{zero, suc, true, [], ◌∷◌, sym, subst, ⊎_elim, arith}
use Rattle.std.proofs.lemmas.Bool.{and_parts, ltb-true}
use Rattle.std.specs.List.{AllByRecursion, list_all, range_with_len}
use Rattle.ct_value.specs.declared.ty.ColTy.{ColTy}
use Rattle.rel_algebra.specs.Types.{is_column}
use Rattle.column_sets.specs.Places.{first_columns, shift, shifted}
use Rattle.column_sets.specs.Sets.{is_within, set_of, union, unions}
use Rattle.upsert_keys.specs.Joins.{when}
use Rattle.sound_plans.specs.Outputs.{AreWithin}
use Rattle.sound_plans.proofs.laws.KeyFamilies.{of_shifted, of_unions, of_when}
use Rattle.sound_plans.proofs.laws.Members.{each_of, one_of, each_among, of_append}
use Rattle.sound_plans.proofs.laws.Sets.{IsPart, of_set, of_shift, part_of_within}

-- ---- one set

-- columns that pass the test are there
pub all_within : (columns : List ColTy) (set : List ℕ) → list_all (is_column columns) set ≡ true → AreWithin (length columns) set
all_within columns [] fits = tt
all_within columns (column ∷ set) fits =
    let p = and_parts (is_column columns column) (list_all (is_column columns) set) fits in (ltb-true column (length columns) p.0, all_within columns set p.1)

pub wider : (width more : ℕ) (columns : List ℕ) → width ≤ more → AreWithin width columns → AreWithin more columns
wider width more columns le h = each_of (λ column. column < more) columns (λ column c. let lt = one_of (λ x. x < width) columns column h c in omega (arith, lt))

pub part_within : (width : ℕ) (s t : List ℕ) → IsPart s t → AreWithin width t → AreWithin width s
part_within width s t part h = each_among (λ column. column < width) t s part h

pub within_within : (width : ℕ) (s t : List ℕ) → is_within s t ≡ true → AreWithin width t → AreWithin width s
within_within width s t e h = part_within width s t (part_of_within s t e) h

pub append_within : (width : ℕ) (s t : List ℕ) → AreWithin width s → AreWithin width t → AreWithin width (s ++ t)
append_within width s t one other =
    each_of (λ column. column < width) (s ++ t)
    (λ column c. ⊎_elim (λ d. one_of (λ x. x < width) s column one d) (λ d. one_of (λ x. x < width) t column other d) (of_append s t column c))

pub set_within : (width : ℕ) (columns : List ℕ) → AreWithin width columns → AreWithin width (set_of columns)
set_within width columns h = part_within width (set_of columns) columns (of_set columns) h

pub union_within : (width : ℕ) (s t : List ℕ) → AreWithin width s → AreWithin width t → AreWithin width (union s t)
union_within width s t one other = set_within width (s ++ t) (append_within width s t one other)

pub shift_within : (by width : ℕ) (columns : List ℕ) → AreWithin width columns → AreWithin (by + width) (shift by columns)
shift_within by width columns h =
    each_of (λ column. column < by + width) (shift by columns)
    (λ column c. let other = of_shift by columns column c in let lt = one_of (λ x. x < width) columns other.0 h other.1 in omega (arith, lt, other.2))

-- ---- the first columns

range_within : (from n width : ℕ) → from + n ≤ width → AreWithin width (range_with_len from n)
range_within from zero width le = tt
range_within from (suc n) width le = (omega (arith, le), range_within (from + 1) n width (omega (arith, le)))

pub first_within : (n width : ℕ) → n ≤ width → AreWithin width (first_columns n)
first_within n width le = range_within 0 n width (omega (arith, le))

-- ---- families

pub each_union : (width : ℕ) (ones others : List (List ℕ)) → AllByRecursion (AreWithin width) ones → AllByRecursion (AreWithin width) others → AllByRecursion (AreWithin width) (unions ones others)
each_union width ones others h k =
    each_of (AreWithin width) (unions ones others)
    (λ set c.
    let u = of_unions ones others set c in
    subst (λ s. AreWithin width s) (sym u.is) (union_within width u.one u.other (one_of (AreWithin width) ones u.one h u.has_one) (one_of (AreWithin width) others u.other k u.has_other)))

pub each_shifted : (by width : ℕ) (sets : List (List ℕ)) → AllByRecursion (AreWithin width) sets → AllByRecursion (AreWithin (by + width)) (shifted by sets)
each_shifted by width sets h =
    each_of (AreWithin (by + width)) (shifted by sets)
    (λ set c. let other = of_shifted by sets set c in subst (λ s. AreWithin (by + width) s) other.2 (shift_within by width other.0 (one_of (AreWithin width) sets other.0 h other.1)))

pub each_wider : (width more : ℕ) (sets : List (List ℕ)) → width ≤ more → AllByRecursion (AreWithin width) sets → AllByRecursion (AreWithin more) sets
each_wider width more sets le h = each_of (AreWithin more) sets (λ set c. wider width more set le (one_of (AreWithin width) sets set h c))

pub each_appended : (width : ℕ) (ones others : List (List ℕ)) → AllByRecursion (AreWithin width) ones → AllByRecursion (AreWithin width) others → AllByRecursion (AreWithin width) (ones ++ others)
each_appended width ones others h k =
    each_of (AreWithin width) (ones ++ others)
    (λ set c. ⊎_elim (λ d. one_of (AreWithin width) ones set h d) (λ d. one_of (AreWithin width) others set k d) (of_append ones others set c))

pub each_when : (width : ℕ) (holds : Bool) (sets : List (List ℕ)) → AllByRecursion (AreWithin width) sets → AllByRecursion (AreWithin width) (when holds sets)
each_when width holds sets h = each_of (AreWithin width) (when holds sets) (λ set c. one_of (AreWithin width) sets set h (of_when holds sets set c).1)
