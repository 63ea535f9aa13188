-- Images of sets of columns among the items of a project: each column at its first place.
use Rattle.std.proofs.Common.{◌≡◌, ℕ, zero, suc, ◌+◌, ◌==◌, Bool, true, false, cond, ◌||◌, List, [], ◌∷◌, Option, Some, None, refl, sym, ap, subst, ◌∙◌, arith}
use Rattle.std.specs.Prelude.{fold, option_map, slice_get, slice_index_or, unwrap_or}
use Rattle.std.specs.BTreeSet.{insert_key}
use Rattle.std.specs.Ordering.{nat_cmp, match_ordering}
use Rattle.std.specs.declared.cmp.Ordering.TheVariants.{Less, Equal, Greater}
use Rattle.std.proofs.lemmas.Bool.{eqb-true, eq-eqb}
use Rattle.std.proofs.lemmas.Map.Lookups.{exact_unsigned}
use Rattle.ct_value.specs.Rows.{project as values_of}
use Rattle.ct_value.specs.declared.row.Row.{Row}
use Rattle.ct_value.specs.declared.ty.Ty.{Ty}
use Rattle.ct_value.specs.declared.value.Value.{Value}
use Rattle.ct_value.specs.declared.value.Value.TheVariants.{Null, Bool as Truth}
use Rattle.ct_change.specs.KeyRows.{is_among}
use Rattle.ct_expr.specs.Expr.{Expr, Column}
use Rattle.rel_algebra.specs.Items.{plain_column}
use Rattle.column_sets.specs.Sets.{set_of}
use Rattle.column_sets.specs.Places.{is_column, place_from, place_of, with_place, places_of, image}
use Rattle.op_rules.specs.Edges.{LiesIn}
use Rattle.emission_rules.specs.Project.{handed, value_handed, plain_row, image_of, IsImage}

-- ---- columns of a set

or_none : (a : Bool) → a ≡ (a || false)
or_none true = refl
or_none false = refl

or_right : (a b : Bool) → b ≡ true → (a || b) ≡ true
or_right true b e = refl
or_right false b e = e

or_twice : (a b : Bool) → (a || b) ≡ (a || (a || b))
or_twice true b = refl
or_twice false b = refl

or_swap : (a b c : Bool) → (a || (b || c)) ≡ (b || (a || c))
or_swap true true c = refl
or_swap true false c = refl
or_swap false true c = refl
or_swap false false c = refl

or_between : (a b c : Bool) → ((a || b) || c) ≡ (b || (a || c))
or_between true true c = refl
or_between true false c = refl
or_between false true c = refl
or_between false false c = refl

among_insert : (columns : List ℕ) (k c : ℕ) → is_among (insert_key nat_cmp columns k) c ≡ ((k == c) || is_among columns c)
among_insert [] k c = refl
among_insert (other ∷ columns) k c =
    elim (nat_cmp k other) as (λ r. nat_cmp k other ≡ r → is_among (match_ordering r (k ∷ other ∷ columns) (other ∷ columns) (other ∷ insert_key nat_cmp columns k)) c ≡ ((k == c) || ((other == c) || is_among columns c))) [
      | Less ↦ λ e. refl
      | Equal ↦ λ e. or_twice (other == c) (is_among columns c) ∙ ap (λ n. (n == c) || ((other == c) || is_among columns c)) (sym (exact_unsigned k other e))
      | Greater ↦ λ e. ap (λ b. (other == c) || b) (among_insert columns k c) ∙ or_swap (other == c) (k == c) (is_among columns c)
    ] refl

among_sorted : (done columns : List ℕ) (c : ℕ) → is_among (fold (insert_key nat_cmp) done columns) c ≡ (is_among done c || is_among columns c)
among_sorted done [] c = or_none (is_among done c)
among_sorted done (k ∷ columns) c =
    among_sorted (insert_key nat_cmp done k) columns c
    ∙ ap (λ b. b || is_among columns c) (among_insert done k c)
    ∙ or_between (k == c) (is_among done c) (is_among columns c)

-- columns in order are the same columns
pub among_set : (columns : List ℕ) (c : ℕ) → is_among (set_of columns) c ≡ is_among columns c
among_set columns c = among_sorted [] columns c

-- ---- rows that agree on a set

abbrev pub value_at : ℕ → Row → Value
value_at column row = slice_index_or row column Null

among_here : (column : ℕ) (columns : List ℕ) → is_among (column ∷ columns) column ≡ true
among_here column columns = ap (λ b. b || is_among columns column) (eq-eqb column column refl)

among_behind : (other column : ℕ) (columns : List ℕ) → is_among columns column ≡ true → is_among (other ∷ columns) column ≡ true
among_behind other column columns e = or_right (other == column) (is_among columns column) e

abbrev tail_of : Row → Row
tail_of [] = []
tail_of (x ∷ xs) = xs

-- they agree on each of its columns, and the other way round
pub agree_at : (columns : List ℕ) (a b : Row) (column : ℕ) → is_among columns column ≡ true → values_of columns a ≡ values_of columns b → value_at column a ≡ value_at column b
agree_at [] a b column has e = absurd (cc)
agree_at (other ∷ columns) a b column has e =
    elim (other == column) as (λ t. (other == column) ≡ t → (t || is_among columns column) ≡ true → value_at column a ≡ value_at column b) [
      | true ↦ λ is h. let head : value_at other a ≡ value_at other b = ap (value_at 0) e in subst (λ c. value_at c a ≡ value_at c b) (eqb-true other column is) head
      | false ↦ λ is h. agree_at columns a b column h (ap tail_of e)
    ] refl has

pub agree_on : (columns : List ℕ) (a b : Row) → ((column : ℕ) → is_among columns column ≡ true → value_at column a ≡ value_at column b) → values_of columns a ≡ values_of columns b
agree_on [] a b h = refl
agree_on (other ∷ columns) a b h =
    let first = h other (among_here other columns) in
    let others = agree_on columns a b (λ column e. h column (among_behind other column columns e)) in
    λ i. first i ∷ others i

-- a row that has a value in one column alone
abbrev spike : ℕ → Row
spike zero = Truth true ∷ []
spike (suc n) = Null ∷ spike n

at_spike : (n : ℕ) → value_at n (spike n) ≡ Truth true
at_spike zero = refl
at_spike (suc n) = at_spike n

off_spike : (n column : ℕ) → (column ≡ n → ⊥) → value_at column (spike n) ≡ Null
off_spike zero zero apart = absurd (apart refl)
off_spike zero (suc column) apart = refl
off_spike (suc n) zero apart = refl
off_spike (suc n) (suc column) apart = off_spike n column (λ e. apart (ap suc e))

-- where rows that agree on a key agree on a set, each column of the set is one of the key's
pub lies_among : (own key : List ℕ) → LiesIn own key → (column : ℕ) → is_among own column ≡ true → is_among key column ≡ true
lies_among own key lies column has = go (is_among key column) refl
  where
    go : (t : Bool) → is_among key column ≡ t → is_among key column ≡ true
    go true e = e
    go false e =
        let same : values_of key [] ≡ values_of key (spike column) =
        agree_on key [] (spike column) (λ other is. sym (off_spike column other (λ at. absurd (let f : is_among key column ≡ true = subst (λ c. is_among key c ≡ true) at is in cc)))) in
        let differs : Null ≡ Truth true = agree_at own [] (spike column) column has (lies [] (spike column) same) ∙ at_spike column in
        absurd (cc)

-- ---- first places

-- the item at this place is this column as it is
abbrev pub IsPlain : List Expr → ℕ → ℕ → Type 0
IsPlain items column place = (ty : Ty) × (slice_get items place ≡ Some (Column column ty))

-- an item that hands on a column is that column
column_of : (item : Expr) (column : ℕ) → is_column (plain_column item) column ≡ true → (ty : Ty) × (item ≡ Column column ty)
column_of (Column own ty) column h = (ty, ap (λ n. Column n ty) (eqb-true own column h))
column_of _ column h = absurd (cc)

stands : (items : List Expr) (first column place : ℕ) → place_from first column (handed items) ≡ Some place → (n : ℕ) × (place ≡ first + n) × IsPlain items column n
stands [] first column place h = absurd (cc)
stands (item ∷ items) first column place h = go (λ p k. stands items (first + 1) column p k) (is_column (plain_column item) column) refl h
  where
    go : ((p : ℕ) → place_from (first + 1) column (handed items) ≡ Some p → (n : ℕ) × (p ≡ first + 1 + n) × IsPlain items column n) → (b : Bool) → is_column (plain_column item) column ≡ b
        → cond b (Some first) (place_from (first + 1) column (handed items)) ≡ Some place → (n : ℕ) × (place ≡ first + n) × IsPlain (item ∷ items) column n
    go more true is k =
        let column_is = column_of item column is in
        let same : first ≡ place = cc in
        (0, omega arith, (column_is.0, ap (λ (x : Expr). Some x) column_is.1))
    go more false is k = let later = more place k in (suc later.0, omega (arith, later.1), later.2)

-- at its first place a column stands as it is
pub is_plain : (items : List Expr) (column place : ℕ) → place_of (handed items) column ≡ Some place → IsPlain items column place
is_plain items column place h = let found = stands items 0 column place h in let same : found.0 ≡ place = omega (arith, found.1) in subst (λ n. IsPlain items column n) same found.2

-- there the row of plain columns has its value
pub plain_value : (items : List Expr) (row : Row) (column place : ℕ) → IsPlain items column place → value_at place (plain_row items row) ≡ value_at column row
plain_value [] row column place plain = absurd (let h : None ≡ Some (Column column plain.0) = plain.1 in cc)
plain_value (item ∷ items) row column zero plain =
    let is : item ≡ Column column plain.0 = (let h : Some item ≡ Some (Column column plain.0) = plain.1 in cc) in
    ap (λ x. value_handed row (plain_column x)) is
plain_value (item ∷ items) row column (suc place) plain = plain_value items row column place plain

-- ---- images

-- a place and others, where each of the columns has one
both_places : (o : Option ℕ) (q : Option (List ℕ)) (places : List ℕ) → with_place o q ≡ Some places → (place : ℕ) × (others : List ℕ) × (o ≡ Some place) × (q ≡ Some others) × (place ∷ others ≡ places)
both_places None q places e = absurd (cc)
both_places (Some place) None places e = absurd (cc)
both_places (Some place) (Some others) places e = let same : place ∷ others ≡ places = cc in (place, others, refl, refl, same)

module _ (items : List (Option ℕ)) where
  -- each column has its first place among them
  have_place : (columns places : List ℕ) → places_of items columns ≡ Some places → (column : ℕ) → is_among columns column ≡ true → (place : ℕ) × (place_of items column ≡ Some place) × (is_among places place ≡ true)
  have_place [] places h column has = absurd (cc)
  have_place (other ∷ columns) places h column has =
      let b = both_places (place_of items other) (places_of items columns) places h in
      elim (other == column) as (λ t. (other == column) ≡ t → (t || is_among columns column) ≡ true → (place : ℕ) × (place_of items column ≡ Some place) × (is_among places place ≡ true)) [
        | true ↦ λ is k. (b.0, ap (place_of items) (sym (eqb-true other column is)) ∙ b.2, ap (λ s. is_among s b.0) (sym b.4) ∙ among_here b.0 b.1)
        | false ↦ λ is k.
            let rest = have_place columns b.1 b.3 column k in
            (rest.0, rest.1, ap (λ s. is_among s rest.0) (sym b.4) ∙ among_behind b.0 rest.0 b.1 rest.2)
      ] refl has

  -- and each of them has one of the columns
  have_column : (columns places : List ℕ) → places_of items columns ≡ Some places → (place : ℕ) → is_among places place ≡ true → (column : ℕ) × (place_of items column ≡ Some place) × (is_among columns column ≡ true)
  have_column [] places h place has =
      let same : [] ≡ places = cc in
      absurd (let none : is_among [] place ≡ true = subst (λ s. is_among s place ≡ true) (sym same) has in cc)
  have_column (other ∷ columns) places h place has =
      let b = both_places (place_of items other) (places_of items columns) places h in
      elim (b.0 == place) as (λ t. (b.0 == place) ≡ t → (t || is_among b.1 place) ≡ true → (column : ℕ) × (place_of items column ≡ Some place) × (is_among (other ∷ columns) column ≡ true)) [
        | true ↦ λ is k. (other, b.2 ∙ ap (λ (n : ℕ). Some n) (eqb-true b.0 place is), among_here other columns)
        | false ↦ λ is k.
            let found = have_column columns b.1 b.3 place k in
            (found.0, found.1, among_behind other found.0 columns found.2)
      ] refl (ap (λ s. is_among s place) b.4 ∙ has)

  -- the places of an image, before they are put in order
  unordered : (columns places : List ℕ) → image items columns ≡ Some places → (some : List ℕ) × (places_of items columns ≡ Some some) × (set_of some ≡ places)
  unordered columns places h = go (places_of items columns) refl h
    where
      go : (o : Option (List ℕ)) → places_of items columns ≡ o → option_map set_of o ≡ Some places → (some : List ℕ) × (places_of items columns ≡ Some some) × (set_of some ≡ places)
      go None at k = absurd (cc)
      go (Some some) at k = let same : set_of some ≡ places = cc in (some, at, same)

-- each column of a set has its first place in the set's image
pub image_place : (items : List Expr) (columns places : List ℕ) → IsImage items columns places → (column : ℕ) → is_among columns column ≡ true → (place : ℕ) × (place_of (handed items) column ≡ Some place) × (is_among places place ≡ true)
image_place items columns places h column has =
    let u = unordered (handed items) columns places h in
    let p = have_place (handed items) columns u.0 u.1 column has in
    (p.0, p.1, ap (λ s. is_among s p.0) (sym u.2) ∙ among_set u.0 p.0 ∙ p.2)

-- and each place of the image has one of the set's columns
pub image_column : (items : List Expr) (columns places : List ℕ) → IsImage items columns places → (place : ℕ) → is_among places place ≡ true → (column : ℕ) × (place_of (handed items) column ≡ Some place) × (is_among columns column ≡ true)
image_column items columns places h place has =
    let u = unordered (handed items) columns places h in
    have_column (handed items) columns u.0 u.1 place (sym (among_set u.0 place) ∙ ap (λ s. is_among s place) u.2 ∙ has)

-- the image that a removal is told by
pub image_is : (items : List Expr) (columns places : List ℕ) → IsImage items columns places → image_of items columns ≡ places
image_is items columns places h = ap (λ o. unwrap_or o []) h

-- the image of a set that lies in a key lies in the key's image
pub images_lie : (items : List Expr) (own set key places : List ℕ) → IsImage items own set → IsImage items key places → LiesIn own key → LiesIn set places
images_lie items own set key places is_set is_key lies a b same =
    agree_on set a b (λ place has.
    let at = image_column items own set is_set place has in
    let there = image_place items key places is_key at.0 (lies_among own key lies at.0 at.2) in
    let one : Some there.0 ≡ Some place = sym there.1 ∙ at.1 in
    let is : there.0 ≡ place = cc in
    subst (λ p. value_at p a ≡ value_at p b) is (agree_at places a b there.0 there.2 same))
