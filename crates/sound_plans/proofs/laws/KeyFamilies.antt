-- Where the sets of a family come from, and those of families that are made of others.
use Rattle.std.specs.Prelude.{◌≡◌, ℕ, Bool, List, filter, fold, map, Option}
use Rattle.std.proofs.Common.{true, false, [], ◌∷◌, refl, sym, ap, ◌∙◌, ⊎_elim, Some, None}
use Rattle.std.specs.BTreeSet.{insert_key}
use Rattle.std.specs.List.{AllByRecursion, Contains}
use Rattle.column_sets.specs.Places.{image, images, shift, shifted, with_set}
use Rattle.column_sets.specs.Sets.{family, has_within, is_least, is_within, largest_family, set_cmp, union, unions}
use Rattle.upsert_keys.specs.Joins.{when}
use Rattle.sound_plans.proofs.laws.Members.{none, here, there, first_or, each_among, of_filter, of_flat_map, of_map, of_sorted, of_take, one_passes}

-- ---- a family

-- it keeps some of its sets
pub of_family : (sets : List (List ℕ)) (set : List ℕ) → Contains (family sets) set → Contains sets set
of_family sets set c =
    let least = filter (is_least sets) sets in
    let sorted = of_take largest_family (fold (insert_key set_cmp) [] least) set c in
    ⊎_elim (λ d. absurd (none set d)) (λ d. (of_filter (is_least sets) sets set d).0) (of_sorted set_cmp [] least set sorted)

pub each_family : (P : List ℕ → Type 0) (sets : List (List ℕ)) → AllByRecursion P sets → AllByRecursion P (family sets)
each_family P sets h = each_among P sets (family sets) (of_family sets) h

-- a set of it that is within some columns
pub one_within : (sets : List (List ℕ)) (columns : List ℕ) → has_within sets columns ≡ true → (set : List ℕ) × Contains sets set × (is_within set columns ≡ true)
one_within sets columns e = one_passes (λ s. is_within s columns) sets e

-- ---- made of others

-- the union of a set of each of two families
pub record IsUnion (ones others : List (List ℕ)) (set : List ℕ) : Type 0 where
  pub one : List ℕ
  pub other : List ℕ
  pub has_one : Contains ones one
  pub has_other : Contains others other
  pub is : set ≡ union one other

pub of_unions : (ones others : List (List ℕ)) (set : List ℕ) → Contains (unions ones others) set → IsUnion ones others set
of_unions ones others set c =
    let h = of_flat_map (λ s. map (union s) others) ones set c in
    let k = of_map (union h.0) others set h.2 in
    record { one = h.0; other = k.0; has_one = h.1; has_other = k.1; is = sym k.2 }

pub of_shifted : (by : ℕ) (sets : List (List ℕ)) (set : List ℕ) → Contains (shifted by sets) set → (other : List ℕ) × Contains sets other × (shift by other ≡ set)
of_shifted by sets set c = of_map (shift by) sets set c

pub of_when : (holds : Bool) (sets : List (List ℕ)) (set : List ℕ) → Contains (when holds sets) set → (holds ≡ true) × Contains sets set
of_when true sets set c = (refl, c)
of_when false sets set c = absurd (none set c)

-- an image is that of one of the sets
pub of_images : (items : List (Option ℕ)) (sets : List (List ℕ)) (set : List ℕ) → Contains (images items sets) set → (other : List ℕ) × Contains sets other × (image items other ≡ Some set)
of_images items [] set c = absurd (none set c)
of_images items (other ∷ sets) set c = go (of_images items sets set) (image items other) refl c
  where
    go : (Contains (images items sets) set → (from : List ℕ) × Contains sets from × (image items from ≡ Some set)) → (made : Option (List ℕ)) → image items other ≡ made → Contains (with_set made (images items sets)) set → (from : List ℕ) × Contains (other ∷ sets) from × (image items from ≡ Some set)
    go others None is d = let h = others d in (h.0, there other sets h.0 h.1, h.2)
    go others (Some made) is d =
        ⊎_elim
        (λ e. (other, here other sets, is ∙ ap (λ (s : List ℕ). Some s) e))
        (λ m. let h = others m in (h.0, there other sets h.0 h.1, h.2))
        (first_or made (images items sets) set d)
