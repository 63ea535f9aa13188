-- The row by which a project tells that a row of its key went fits its columns.
use Rattle.std.proofs.Common.{◌≡◌, ℕ, suc, ◌+◌, ◌==◌, Bool, true, false, cond, not, ◌||◌, List, [], ◌∷◌, Option, Some, None, refl, sym, ap, subst, ◌∙◌, arith}
use Rattle.std.specs.Prelude.{slice_get, option_and_then, unwrap_or}
use Rattle.std.proofs.lemmas.Bool.{eqb-true}
use Rattle.ct_value.specs.declared.row.Row.{Row}
use Rattle.ct_value.specs.declared.ty.Ty.{Ty}
use Rattle.ct_value.specs.declared.ty.ColTy.{ColTy}
use Rattle.ct_value.specs.declared.value.Value.TheVariants.{Null}
use Rattle.ct_field.specs.Typed.{col_fits, row_fits}
use Rattle.ct_change.specs.KeyRows.{is_among, key_row, keyed_from}
use Rattle.ct_expr.specs.Expr.{Expr, Column}
use Rattle.ct_expr.specs.Types.{both_of, same_ty, type_of}
use Rattle.rel_algebra.specs.Items.{plain_column}
use Rattle.rel_algebra.specs.Types.{item_columns}
use Rattle.rel_algebra.proofs.laws.Fits.{both}
use Rattle.stream_model.specs.KeysTold.{is_told, nullable_outside, told_fits}
use Rattle.emission_rules.specs.Project.{IsImage, handed, image_of, plain_row, row_gone, value_handed}
use Rattle.plan_rules.proofs.laws.ChangeFits.{key_cell, told_itself, value_told}
use Rattle.sound_plans.proofs.laws.Images.{each_of_image, stands}
use Rattle.sound_plans.proofs.laws.Members.{one_passes}
use Rattle.sound_plans.proofs.laws.RowFamilies.{has_it}

-- ---- plain columns

-- an item that hands on a column is that column
column_of : (item : Expr) (column : ℕ) → plain_column item ≡ Some column → (ty : Ty) × (item ≡ Column column ty)
column_of (Column own ty) column h = let same : own ≡ column = cc in (ty, ap (λ n. Column n ty) same)
column_of _ column h = absurd (cc)

-- and has its type
its_type : (o : Option ColTy) (ty : Ty) (made : ColTy) → option_and_then (λ (column : ColTy). cond (same_ty column.ty ty) (Some column) None) o ≡ Some made → o ≡ Some made
its_type None ty made h = absurd (cc)
its_type (Some own) ty made h = go (same_ty own.ty ty) h
  where
    go : (b : Bool) → cond b (Some own) None ≡ Some made → Some own ≡ Some made
    go true k = k
    go false k = absurd (cc)

handed_type : (columns : List ColTy) (item : Expr) (column : ℕ) (made : ColTy) → plain_column item ≡ Some column → type_of item columns ≡ Some made → slice_get columns column ≡ Some made
handed_type columns item column made h typed =
    let plain = column_of item column h in
    let own : type_of (Column column plain.0) columns ≡ Some made = sym (ap (λ (x : Expr). type_of x columns) plain.1) ∙ typed in
    its_type (slice_get columns column) plain.0 made own

-- ---- the row

module _ (columns : List ColTy) (key places : List ℕ) (row : Row) (fits : told_fits (Some key) columns row ≡ true) where
  -- at each of the places, counted from this one on, an item hands on a column of the key
  abbrev AreHanded : ℕ → List Expr → Type 0
  AreHanded n items = (k : ℕ) → is_among places (n + k) ≡ true → (column : ℕ) × (is_among key column ≡ true) × (slice_get (handed items) k ≡ Some (Some column))

  at_first : (n : ℕ) (item : Expr) (items : List Expr) (made : ColTy) → AreHanded n (item ∷ items) → type_of item columns ≡ Some made → is_among places n ≡ true → col_fits made (value_handed row (plain_column item)) ≡ true
  at_first n item items made has typed among =
      let same : n ≡ n + 0 = omega arith in
      let found = has 0 (subst (λ m. is_among places m ≡ true) same among) in
      let plain : plain_column item ≡ Some found.0 = (let h : Some (plain_column item) ≡ Some (Some found.0) = found.2 in cc) in
      subst (λ (o : Option ℕ). col_fits made (value_handed row o) ≡ true) (sym plain)
      (key_cell key columns row found.0 made fits (handed_type columns item found.0 made plain typed) found.1)

  gone_from : (n : ℕ) (items : List Expr) (made : List ColTy) → item_columns columns items ≡ Some made → AreHanded n items → row_fits (nullable_outside places n made) (keyed_from places n (plain_row items row)) ≡ true
  gone_from n [] made typed has = let same : [] ≡ made = cc in subst (λ (m : List ColTy). row_fits (nullable_outside places n m) [] ≡ true) same refl
  gone_from n (item ∷ items) made typed has = go (λ others k. gone_from (suc n) items others k later) (type_of item columns) refl (item_columns columns items) refl typed
    where
      later : AreHanded (suc n) items
      later k among = let step : suc n + k ≡ n + suc k = omega arith in has (suc k) (subst (λ m. is_among places m ≡ true) step among)

      go : ((others : List ColTy) → item_columns columns items ≡ Some others → row_fits (nullable_outside places (suc n) others) (keyed_from places (suc n) (plain_row items row)) ≡ true) → (o : Option ColTy) → type_of item columns ≡ o
          → (q : Option (List ColTy)) → item_columns columns items ≡ q → both_of (λ (column : ColTy) (others : List ColTy). Some (column ∷ others)) o q ≡ Some made
          → row_fits (nullable_outside places n made) (keyed_from places n (plain_row (item ∷ items) row)) ≡ true
      go more None is q rest k = absurd (cc)
      go more (Some column) is None rest k = absurd (cc)
      go more (Some column) is (Some others) rest k =
          let same : column ∷ others ≡ made = cc in
          subst (λ (m : List ColTy). row_fits (nullable_outside places n m) (keyed_from places n (plain_row (item ∷ items) row)) ≡ true) same
          (both (col_fits (record { ty = column.ty; nullable = column.nullable || not (is_among places n) }) (cond (is_among places n) (value_handed row (plain_column item)) Null))
          (row_fits (nullable_outside places (suc n) others) (keyed_from places (suc n) (plain_row items row)))
          (value_told (is_among places n) column (value_handed row (plain_column item)) (at_first n item items column has is))
          (more others rest))

-- what is handed on at the image of a key
handed_at : (items : List Expr) (key places : List ℕ) → IsImage items key places → (k : ℕ) → is_among places (0 + k) ≡ true → (column : ℕ) × (is_among key column ≡ true) × (slice_get (handed items) k ≡ Some (Some column))
handed_at items key places is k among =
    let one = one_passes (λ other. other == 0 + k) places among in
    let same : one.0 ≡ k = (let h = eqb-true one.0 (0 + k) one.2 in omega (arith, h)) in
    let from = each_of_image (handed items) key places is one.0 one.1 in
    (from.0, has_it key from.0 from.1, subst (λ n. slice_get (handed items) n ≡ Some (Some from.0)) same (stands (handed items) from.0 one.0 from.2))

pub gone_fits : (columns : List ColTy) (items : List Expr) (made : List ColTy) (key places : List ℕ) (row : Row) → item_columns columns items ≡ Some made → IsImage items key places → told_fits (Some key) columns row ≡ true
    → told_fits (Some places) made (row_gone items key row) ≡ true
gone_fits columns items made key places row typed is fits =
    let same : image_of items key ≡ places = ap (λ (o : Option (List ℕ)). unwrap_or o []) is in
    subst (λ (k : List ℕ). told_fits (Some places) made (key_row k (plain_row items row)) ≡ true) (sym same)
    (both (row_fits (nullable_outside places 0 made) (key_row places (plain_row items row))) (is_told (Some places) (key_row places (plain_row items row)))
    (gone_from columns key places row fits 0 items made typed (handed_at items key places is)) (told_itself places (plain_row items row)))
