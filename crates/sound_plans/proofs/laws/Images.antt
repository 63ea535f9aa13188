-- Images of sets of columns among the items of a project: each column is handed on, at its first place.
use Rattle.std.proofs.Common.{◌≡◌, ℕ, zero, suc, ◌+◌, ◌<◌, Bool, true, false, cond, List, [], ◌∷◌, length, map, Option, Some, None, refl, sym, ap, subst, ◌∙◌, ⊎_elim, arith}
use Rattle.std.specs.Prelude.{slice_get, option_map}
use Rattle.std.specs.List.{AllByRecursion, Contains}
use Rattle.std.proofs.lemmas.Bool.{eqb-true}
use Rattle.std.proofs.lemmas.List.{length-map}
use Rattle.ct_value.specs.declared.ty.ColTy.{ColTy}
use Rattle.ct_expr.specs.Expr as e
use Rattle.ct_expr.specs.Types.{both_of, type_of}
use Rattle.ct_expr.specs.View.{expr_view}
use Rattle.ct_expr.specs.declared.expr.Expr.{Expr}
use Rattle.rel_algebra.specs.Items.{plain_column}
use Rattle.rel_algebra.specs.Types.{item_columns}
use Rattle.emission_rules.specs.Project.{handed, IsImage}
use Rattle.column_sets.specs.Sets.{set_of, family, is_within}
use Rattle.column_sets.specs.Places.{is_column, place_from, place_of, with_place, places_of, image, images}
use Rattle.phys_plan.specs.Columns.{plain_columns}
use Rattle.sound_plans.specs.Outputs.{AreWithin}
use Rattle.sound_plans.proofs.laws.Members.{none, here, there, first_or, each_of, one_of}
use Rattle.sound_plans.proofs.laws.Sets.{of_set, in_set, part_of_within}
use Rattle.sound_plans.proofs.laws.KeyFamilies.{of_images}
use Rattle.sound_plans.proofs.laws.RowFamilies.{each_has, from_family, each_from_family}

-- ---- one column

-- an item that hands on a column
is_that : (item : Option ℕ) (column : ℕ) → is_column item column ≡ true → item ≡ Some column
is_that None column h = absurd (cc)
is_that (Some own) column h = ap (λ n. Some n) (eqb-true own column h)

-- it stands at its place
stands_from : (items : List (Option ℕ)) (first column place : ℕ) → place_from first column items ≡ Some place → (n : ℕ) × (place ≡ first + n) × (slice_get items n ≡ Some (Some column))
stands_from [] first column place h = absurd (cc)
stands_from (item ∷ items) first column place h = go (λ p k. stands_from items (first + 1) column p k) (is_column item column) refl h
  where
    go : ((p : ℕ) → place_from (first + 1) column items ≡ Some p → (n : ℕ) × (p ≡ first + 1 + n) × (slice_get items n ≡ Some (Some column))) → (b : Bool) → is_column item column ≡ b
        → cond b (Some first) (place_from (first + 1) column items) ≡ Some place → (n : ℕ) × (place ≡ first + n) × (slice_get (item ∷ items) n ≡ Some (Some column))
    go more true is k =
        let same : first ≡ place = cc in
        (0, omega arith, ap (λ (o : Option ℕ). Some o) (is_that item column is))
    go more false is k = let later = more place k in (suc later.0, omega (arith, later.1), later.2)

pub stands : (items : List (Option ℕ)) (column place : ℕ) → place_of items column ≡ Some place → slice_get items place ≡ Some (Some column)
stands items column place h =
    let found = stands_from items 0 column place h in
    let same : found.0 ≡ place = omega (arith, found.1) in
    subst (λ n. slice_get items n ≡ Some (Some column)) same found.2

exists : {A : Type 0} (xs : List A) (n : ℕ) (x : A) → slice_get xs n ≡ Some x → n < length xs
exists [] n x h = absurd (cc)
exists (y ∷ xs) zero x h = omega arith
exists (y ∷ xs) (suc n) x h = let more = exists xs n x h in omega (arith, more)

-- ---- a set

module _ (items : List (Option ℕ)) where
  -- each of the places is the first of one of the columns
  each_place : (columns places : List ℕ) → places_of items columns ≡ Some places → (place : ℕ) → Contains places place → (column : ℕ) × Contains columns column × (place_of items column ≡ Some place)
  each_place [] places h place c = absurd (let same : [] ≡ places = cc in none place (subst (λ (all : List ℕ). Contains all place) (sym same) c))
  each_place (column ∷ columns) places h place c = go (λ others k d. each_place columns others k place d) (place_of items column) refl (places_of items columns) refl h
    where
      go : ((others : List ℕ) → places_of items columns ≡ Some others → Contains others place → (from : ℕ) × Contains columns from × (place_of items from ≡ Some place)) → (o : Option ℕ) → place_of items column ≡ o
          → (q : Option (List ℕ)) → places_of items columns ≡ q → with_place o q ≡ Some places → (from : ℕ) × Contains (column ∷ columns) from × (place_of items from ≡ Some place)
      go more None at q rest k = absurd (cc)
      go more (Some first) at None rest k = absurd (cc)
      go more (Some first) at (Some others) rest k =
          let same : first ∷ others ≡ places = cc in
          ⊎_elim
          (λ e. (column, here column columns, at ∙ ap (λ n. Some n) e))
          (λ d. let later = more others rest d in (later.0, there column columns later.0 later.1, later.2))
          (first_or first others place (subst (λ (all : List ℕ). Contains all place) (sym same) c))

  -- and each of the columns has its place among them
  has_place : (columns places : List ℕ) → places_of items columns ≡ Some places → (column : ℕ) → Contains columns column → (place : ℕ) × (place_of items column ≡ Some place) × Contains places place
  has_place [] places h column c = absurd (none column c)
  has_place (other ∷ columns) places h column c = go (λ others k d. has_place columns others k column d) (place_of items other) refl (places_of items columns) refl h
    where
      go : ((others : List ℕ) → places_of items columns ≡ Some others → Contains columns column → (place : ℕ) × (place_of items column ≡ Some place) × Contains others place) → (o : Option ℕ) → place_of items other ≡ o
          → (q : Option (List ℕ)) → places_of items columns ≡ q → with_place o q ≡ Some places → (place : ℕ) × (place_of items column ≡ Some place) × Contains places place
      go more None at q rest k = absurd (cc)
      go more (Some first) at None rest k = absurd (cc)
      go more (Some first) at (Some others) rest k =
          let same : first ∷ others ≡ places = cc in
          let found : (place : ℕ) × (place_of items column ≡ Some place) × Contains (first ∷ others) place =
          ⊎_elim
          (λ e. (first, ap (place_of items) (sym e) ∙ at, here first others))
          (λ d. let later = more others rest d in (later.0, later.1, there first others later.0 later.2))
          (first_or other columns column c) in
          (found.0, found.1, subst (λ (all : List ℕ). Contains all found.0) same found.2)

  -- the image has the same places
  image_places : (columns set : List ℕ) → image items columns ≡ Some set → (places : List ℕ) × (places_of items columns ≡ Some places) × (set_of places ≡ set)
  image_places columns set h = go (places_of items columns) refl h
    where
      go : (o : Option (List ℕ)) → places_of items columns ≡ o → option_map set_of o ≡ Some set → (places : List ℕ) × (places_of items columns ≡ Some places) × (set_of places ≡ set)
      go None at k = absurd (cc)
      go (Some places) at k = let same : set_of places ≡ set = cc in (places, at, same)

  pub each_of_image : (columns set : List ℕ) → image items columns ≡ Some set → (place : ℕ) → Contains set place → (column : ℕ) × Contains columns column × (place_of items column ≡ Some place)
  each_of_image columns set h place c =
      let made = image_places columns set h in
      each_place columns made.0 made.1 place (of_set made.0 place (subst (λ (s : List ℕ). Contains s place) (sym made.2) c))

  has_in_image : (columns set : List ℕ) → image items columns ≡ Some set → (column : ℕ) → Contains columns column → (place : ℕ) × (place_of items column ≡ Some place) × Contains set place
  has_in_image columns set h column c =
      let made = image_places columns set h in
      let has = has_place columns made.0 made.1 column c in
      (has.0, has.1, subst (λ (s : List ℕ). Contains s has.0) made.2 (in_set made.0 has.0 has.2))

  -- the image of a part is a part of the image
  pub image_part : (part columns part_image set : List ℕ) → is_within part columns ≡ true → image items part ≡ Some part_image → image items columns ≡ Some set → is_within part_image set ≡ true
  image_part part columns part_image set within is_part is_set =
      each_has set part_image
      (λ place c.
      let from = each_of_image part part_image is_part place c in
      let has = has_in_image columns set is_set from.0 (part_of_within part columns within from.0 from.1) in
      let same : has.0 ≡ place = (let both_at : Some has.0 ≡ Some place = sym has.1 ∙ from.2 in cc) in
      subst (λ p. Contains set p) same has.2)

  -- ---- places are there

  pub image_within : (columns set : List ℕ) → image items columns ≡ Some set → AreWithin (length items) set
  image_within columns set h =
      each_of (λ place. place < length items) set
      (λ place c. let from = each_of_image columns set h place c in exists items place (Some from.0) (stands items from.0 place from.2))

  -- ---- families of sets

  pub family_within : (sets own : List (List ℕ)) → own ≡ family (images items sets) → AllByRecursion (AreWithin (length items)) own
  family_within sets own is =
      each_from_family (AreWithin (length items)) (images items sets) own is
      (each_of (AreWithin (length items)) (images items sets) (λ set c. let made = of_images items sets set c in image_within made.0 set made.2))

  -- images of sets that lie in a key lie in the key's image
  pub family_part : (key key_image : List ℕ) (sets own : List (List ℕ)) → image items key ≡ Some key_image → AllByRecursion (λ set. is_within set key ≡ true) sets → own ≡ family (images items sets)
      → AllByRecursion (λ set. is_within set key_image ≡ true) own
  family_part key key_image sets own is_key all is =
      each_from_family (λ set. is_within set key_image ≡ true) (images items sets) own is
      (each_of (λ set. is_within set key_image ≡ true) (images items sets)
      (λ set c.
      let made = of_images items sets set c in
      image_part made.0 key set key_image (one_of (λ s. is_within s key ≡ true) sets made.0 all made.1) made.2 is_key))

-- ---- the items of a plan

pub handed_is : (items : List Expr) → handed (map expr_view items) ≡ plain_columns items
handed_is [] = refl
handed_is (item ∷ items) = ap (λ (others : List (Option ℕ)). plain_column (expr_view item) ∷ others) (handed_is items)

pub image_is : (items : List Expr) (columns set : List ℕ) → image (plain_columns items) columns ≡ Some set → IsImage (map expr_view items) columns set
image_is items columns set h = ap (λ (own : List (Option ℕ)). image own columns) (handed_is items) ∙ h

pub image_of_items : (items : List Expr) (columns set : List ℕ) → IsImage (map expr_view items) columns set → image (plain_columns items) columns ≡ Some set
image_of_items items columns set h = ap (λ (own : List (Option ℕ)). image own columns) (sym (handed_is items)) ∙ h

-- each set of a family of images is the image of one of the sets
pub family_stays : (items : List Expr) (sets own : List (List ℕ)) → own ≡ family (images (plain_columns items) sets) → (set : List ℕ) → Contains own set
    → (from : List ℕ) × Contains sets from × IsImage (map expr_view items) from set
family_stays items sets own is set c =
    let made = of_images (plain_columns items) sets set (from_family (images (plain_columns items) sets) own is set c) in
    (made.0, made.1, image_is items made.0 set made.2)

-- a column is made of each item
made_many : (columns : List ColTy) (items : List e.Expr) (made : List ColTy) → item_columns columns items ≡ Some made → length items ≡ length made
made_many columns [] made h = let same : [] ≡ made = cc in ap length same
made_many columns (item ∷ items) made h = go (λ others k. made_many columns items others k) (type_of item columns) (item_columns columns items) refl h
  where
    go : ((others : List ColTy) → item_columns columns items ≡ Some others → length items ≡ length others) → (o : Option ColTy) (q : Option (List ColTy)) → item_columns columns items ≡ q
        → both_of (λ (column : ColTy) (others : List ColTy). Some (column ∷ others)) o q ≡ Some made → length (item ∷ items) ≡ length made
    go more None q rest k = absurd (cc)
    go more (Some column) None rest k = absurd (cc)
    go more (Some column) (Some others) rest k = let same : column ∷ others ≡ made = cc in ap suc (more others rest) ∙ ap length same

pub as_many : (columns : List ColTy) (items : List Expr) (made : List ColTy) → item_columns columns (map expr_view items) ≡ Some made → length (plain_columns items) ≡ length made
as_many columns items made h =
    length-map items (λ item. plain_column (expr_view item)) ∙ sym (length-map items expr_view) ∙ made_many columns (map expr_view items) made h
