-- Both sides of a join are routed by one function of the key, since the columns of a pair write a value as one text.
use Rattle.std.specs.Prelude.{◌≡◌, ℕ, ◌<◌, ◌%◌, ◌==◌, Bool, cond, List, ◌++◌, length, slice_get, Option, option_map, is_some}
use Rattle.std.proofs.Common.{true, false, [], ◌∷◌, refl, sym, ap, ◌∙◌, Some, None}
use Rattle.std.proofs.lemmas.Bool.{eqb-true}
use Rattle.std.proofs.lemmas.Option.{get_or_from_slice_get, slice_get_within}
use Rattle.std.proofs.Math.Nat.{mod-lt}
use Rattle.std.specs.List.{AllByRecursion}
use Rattle.ct_value.specs.declared.row.Row.{Row}
use Rattle.ct_value.specs.declared.value.Value.{Value}
use Rattle.ct_value.specs.declared.value.Value.TheVariants.{Null, Bool as Truth, Num, Text}
use Rattle.ct_value.specs.declared.ty.Ty.{Ty}
use Rattle.ct_value.specs.declared.ty.Ty.TheVariants.{Bool as Truths, Int, BigInt, Decimal, Text as Texts}
use Rattle.ct_value.specs.declared.ty.ColTy.{ColTy}
use Rattle.ct_field.specs.Fields.{scale_of, number_text, field_text}
use Rattle.ct_expr.specs.Types.{common_ty, both_of}
use Rattle.rel_algebra.specs.declared.join.Pair.{Pair}
use Rattle.rel_algebra.proofs.laws.Fits.{first, second}
use Rattle.rel_algebra.specs.Types.{common_column, pair_fits, pairs_fit}
use Rattle.rel_algebra.specs.Joins.{left_columns, right_columns}
use Rattle.op_rules.specs.Edges.{hash}
use Rattle.route.specs.Routing.{key_hash, behind_commas, key_text, type_at, types_at}
use Rattle.plan_rules.specs.Plans.{route_by}

-- each key has a subtask
pub routed : (many : ℕ) → 0 < many → (columns : List ColTy) (set : List ℕ) (key : Row) → route_by many columns (hash set) key < many
routed many some columns set key = mod-lt (key_hash (key_text (types_at set columns) key)) some

-- ---- columns that write values alike

-- each value has one text in both types
abbrev IsAlike : Ty → Ty → Type 0
IsAlike s t = (value : Value) → field_text s value ≡ field_text t value

same_scale : (s t : Ty) → scale_of s ≡ scale_of t → IsAlike s t
same_scale s t e Null = refl
same_scale s t e (Truth false) = refl
same_scale s t e (Truth true) = refl
same_scale s t e (Num n) = ap (λ k. number_text k n) e
same_scale s t e (Text x) = refl

one_scale : (p q s t : ℕ) (b : Bool) (u : Ty) → (s == t) ≡ b → cond b (Some (Decimal p s)) None ≡ Some u → s ≡ t
one_scale p q s t true u is e = eqb-true s t is
one_scale p q s t false u is e = absurd (cc)

common_scale : (s t u : Ty) → common_ty s t ≡ Some u → scale_of s ≡ scale_of t
common_scale (Decimal p s) (Decimal q t) u e = one_scale _ q s t (s == t) u refl e
common_scale (Decimal p s) Truths u e = absurd (cc)
common_scale (Decimal p s) Int u e = absurd (cc)
common_scale (Decimal p s) BigInt u e = absurd (cc)
common_scale (Decimal p s) Texts u e = absurd (cc)
common_scale Truths (Decimal q t) u e = absurd (cc)
common_scale Int (Decimal q t) u e = absurd (cc)
common_scale BigInt (Decimal q t) u e = absurd (cc)
common_scale Texts (Decimal q t) u e = absurd (cc)
common_scale _ _ u e = refl

type_is : (columns : List ColTy) (n : ℕ) (column : ColTy) → slice_get columns n ≡ Some column → type_at columns n ≡ column.ty
type_is columns n column e = ap (λ (c : ColTy). c.ty) (get_or_from_slice_get columns n column _ e)

is_there : {A B : Type 0} (f : A → B) (o : Option A) → is_some (option_map f o) ≡ true → (a : A) × (o ≡ Some a)
is_there f None e = absurd (cc)
is_there f (Some a) e = (a, refl)

module _ (left right : List ColTy) where
  pair_alike : (pair : Pair) → pair_fits left right pair ≡ true → (pair.left < length left) × (pair.right < length right) × IsAlike (type_at left pair.left) (type_at right pair.right)
  pair_alike pair fits = go (slice_get left pair.left) (slice_get right pair.right) refl refl fits
    where
      go : (o p : Option ColTy) → slice_get left pair.left ≡ o → slice_get right pair.right ≡ p → is_some (both_of common_column o p) ≡ true
          → (pair.left < length left) × (pair.right < length right) × IsAlike (type_at left pair.left) (type_at right pair.right)
      go None p is other_is e = absurd (cc)
      go (Some column) None is other_is e = absurd (cc)
      go (Some column) (Some other) is other_is e =
          let common = is_there _ (common_ty column.ty other.ty) e in
          let one : scale_of (type_at left pair.left) ≡ scale_of (type_at right pair.right) =
          ap scale_of (type_is left pair.left column is) ∙ common_scale column.ty other.ty common.0 common.1 ∙ sym (ap scale_of (type_is right pair.right other other_is)) in
          (slice_get_within left pair.left column is, slice_get_within right pair.right other other_is, same_scale (type_at left pair.left) (type_at right pair.right) one)

  -- the columns of pairs that fit are there
  pub left_within : (on : List Pair) → pairs_fit left right on ≡ true → AllByRecursion (λ column. column < length left) (left_columns on)
  left_within [] fits = tt
  left_within (pair ∷ on) fits =
      ((pair_alike pair (first (pair_fits left right pair) (pairs_fit left right on) fits)).0, left_within on (second (pair_fits left right pair) (pairs_fit left right on) fits))

  pub right_within : (on : List Pair) → pairs_fit left right on ≡ true → AllByRecursion (λ column. column < length right) (right_columns on)
  right_within [] fits = tt
  right_within (pair ∷ on) fits =
      ((pair_alike pair (first (pair_fits left right pair) (pairs_fit left right on) fits)).1, right_within on (second (pair_fits left right pair) (pairs_fit left right on) fits))

  behind_same : (on : List Pair) → pairs_fit left right on ≡ true → (key : Row) → behind_commas (types_at (left_columns on) left) key ≡ behind_commas (types_at (right_columns on) right) key
  behind_same [] fits key = refl
  behind_same (pair ∷ on) fits [] = refl
  behind_same (pair ∷ on) fits (value ∷ key) =
      let alike = (pair_alike pair (first (pair_fits left right pair) (pairs_fit left right on) fits)).2 value in
      let others = behind_same on (second (pair_fits left right pair) (pairs_fit left right on) fits) key in
      λ i. 44 ∷ (alike i ++ others i)

  text_same : (on : List Pair) → pairs_fit left right on ≡ true → (key : Row) → key_text (types_at (left_columns on) left) key ≡ key_text (types_at (right_columns on) right) key
  text_same [] fits key = refl
  text_same (pair ∷ on) fits [] = refl
  text_same (pair ∷ on) fits (value ∷ key) =
      let alike = (pair_alike pair (first (pair_fits left right pair) (pairs_fit left right on) fits)).2 value in
      let others = behind_same on (second (pair_fits left right pair) (pairs_fit left right on) fits) key in
      λ i. alike i ++ others i

  -- the rows of both sides that have a key go to one subtask
  pub one_route : (many : ℕ) (on : List Pair) → pairs_fit left right on ≡ true → (key : Row) → route_by many left (hash (left_columns on)) key ≡ route_by many right (hash (right_columns on)) key
  one_route many on fits key = ap (λ text. key_hash text % many) (text_same on fits key)
