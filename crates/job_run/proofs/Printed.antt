-- What a run prints are items of its sink: the sink's columns are as wide as those that are sent, and no quiet moment tells more changes than the
-- change files have lines.
use Rattle.std.specs.Prelude.{◌||◌, ◌+ℤ◌, ◌≤ℤ◌, ◌^◌, Bool, ℤ, int_le, int_lt, map, nat_le, neg_ℤ, pos, unsigned_abs}
use Rattle.std.proofs.Common.{◌≡◌, ◌∙◌, ◌++◌, ◌<◌, ◌≤◌, ℕ, true, false, Option, List, [], ◌∷◌, refl, sym, subst, arith, append_assoc, lit<}
use Rattle.std.specs.List.{AllByRecursion}
use Rattle.std.proofs.lemmas.Bool.{leb-true, ltb-true, lt-ltb}
use Rattle.std.proofs.lemmas.Int.{ints}
use Rattle.std.proofs.Math.Nat.{pow-le-pow_right}
use Rattle.ct_value.specs.declared.ty.ColTy.{ColTy}
use Rattle.ct_value.specs.declared.ty.Ty.{Ty}
use Rattle.ct_value.specs.declared.ty.Ty.TheVariants.{Int, BigInt, Decimal}
use Rattle.ct_value.specs.declared.value.Value.{Value}
use Rattle.ct_value.specs.declared.value.Value.TheVariants.{Null, Bool as Truth, Num, Text}
use Rattle.ct_field.specs.Numbers.{in_range}
use Rattle.ct_field.specs.Typed.{value_fits}
use Rattle.ct_field.proofs.laws.Numbers.{both_true, first_true, second_true}
use Rattle.ct_expr.specs.Types.{same_ty}
use Rattle.ct_change.specs.declared.change.Change.{Change}
use Rattle.ct_catalog.specs.declared.table.ColDef.{ColDef}
use Rattle.op_rules.specs.Values.{types_fit, values_fit}
use Rattle.rel_algebra.specs.GoesInto.{go_into, goes_into, widens}
use Rattle.stream_model.specs.declared.events.PrintItem.{PrintItem}
use Rattle.stream_model.specs.declared.events.PrintItem.TheVariants.{Change as Printed, Quiet}
use Rattle.stream_model.specs.KeysTold.{told_by, told_fits}
use Rattle.stream_model.specs.Runs.{changes_in}
use Rattle.stream_model.proofs.laws.KeysTold.{told-is, told-types}
use Rattle.job_text.specs.Printed.{sum_of}
use Rattle.job_text.specs.Told.{AreItemsOf}
use Rattle.typing_laws.proofs.laws.Named.{same_types}

-- ---- wider types

le_of : (a b : ℤ) → int_le a b ≡ true → a ≤ℤ b
le_of a b e = grind (arith, ints)

lt_of : (a b : ℤ) → int_lt a b ≡ true → (a +ℤ pos 1) ≤ℤ b
lt_of a b e = grind (arith, ints)

le_test : (a b : ℤ) → a ≤ℤ b → int_le a b ≡ true
le_test a b h = grind (arith, ints)

lt_test : (a b : ℤ) → (a +ℤ pos 1) ≤ℤ b → int_lt a b ≡ true
lt_test a b h = grind (arith, ints)

wider_whole : (n : ℤ) → in_range Int n ≡ true → in_range BigInt n ≡ true
wider_whole n e =
    let low = le_of (neg_ℤ (pos (2 ^ 31))) n (first_true (int_le (neg_ℤ (pos (2 ^ 31))) n) (int_lt n (pos (2 ^ 31))) e) in
    let high = lt_of n (pos (2 ^ 31)) (second_true (int_le (neg_ℤ (pos (2 ^ 31))) n) (int_lt n (pos (2 ^ 31))) e) in
    both_true (int_le (neg_ℤ (pos (2 ^ 63))) n) (int_lt n (pos (2 ^ 63))) (le_test (neg_ℤ (pos (2 ^ 63))) n (omega (arith, ints, low))) (lt_test n (pos (2 ^ 63)) (omega (arith, ints, high)))

wider_decimal : (p q s u : ℕ) (n : ℤ) → nat_le p q ≡ true → in_range (Decimal p s) n ≡ true → in_range (Decimal q u) n ≡ true
wider_decimal p q s u n more e =
    let within = ltb-true (unsigned_abs n) (10 ^ p) e in
    let powers : 10 ^ p ≤ 10 ^ q = pow-le-pow_right (lit< tt) (leb-true p q more) in
    lt-ltb (unsigned_abs n) (10 ^ q) (omega (arith, within, powers))

wider_value : (from into : Ty) (v : Value) → widens from into ≡ true → value_fits from v ≡ true → value_fits into v ≡ true
wider_value Int BigInt Null e h = refl
wider_value Int BigInt (Num n) e h = wider_whole n h
wider_value Int BigInt (Truth b) e h = absurd (cc (h))
wider_value Int BigInt (Text t) e h = absurd (cc (h))
wider_value (Decimal p s) (Decimal q u) Null e h = refl
wider_value (Decimal p s) (Decimal q u) (Num n) e h = wider_decimal p q s u n (first_true (nat_le p q) _ e) h
wider_value (Decimal p s) (Decimal q u) (Truth b) e h = absurd (cc (h))
wider_value (Decimal p s) (Decimal q u) (Text t) e h = absurd (cc (h))
wider_value _ _ v e h = absurd (cc (e))

goes_value : (from into : Ty) (v : Value) (same wider : Bool) → same_ty from into ≡ same → widens from into ≡ wider → (same || wider) ≡ true → value_fits from v ≡ true → value_fits into v ≡ true
goes_value from into v true wider is may e h = subst (λ ty. value_fits ty v ≡ true) (same_types from into is) h
goes_value from into v false true is may e h = wider_value from into v may h
goes_value from into v false false is may e h = absurd (cc (e))

pub goes_row : (columns : List ColTy) (cols : List ColDef) (row : List Value) → go_into columns (map (λ c. c.ty) cols) ≡ true → types_fit columns row ≡ true → values_fit (map (λ c. c.ty.ty) cols) row ≡ true
goes_row [] [] [] e h = refl
goes_row [] [] (v ∷ vs) e h = absurd (cc (h))
goes_row [] (col ∷ cols) row e h = absurd (cc (e))
goes_row (column ∷ columns) [] row e h = absurd (cc (e))
goes_row (column ∷ columns) (col ∷ cols) [] e h = absurd (cc (h))
goes_row (column ∷ columns) (col ∷ cols) (v ∷ vs) e h =
    let one = first_true (goes_into column col.ty) (go_into columns (map (λ c. c.ty) cols)) e in
    let fits = first_true (value_fits column.ty v) (types_fit columns vs) h in
    both_true (value_fits col.ty.ty v) (values_fit (map (λ c. c.ty.ty) cols) vs)
    (goes_value column.ty col.ty.ty v (same_ty column.ty col.ty.ty) (widens column.ty col.ty.ty) refl refl one fits)
    (goes_row columns cols vs (second_true (goes_into column col.ty) (go_into columns (map (λ c. c.ty) cols)) e) (second_true (value_fits column.ty v) (types_fit columns vs) h))

-- ---- items

module _ (columns : List ColTy) (cols : List ColDef) (key : Option (List ℕ)) (goes : go_into columns (map (λ c. c.ty) cols) ≡ true) (all : List PrintItem) (most : ℕ) (few : most < 2 ^ 64)
    (within : (before after : List PrintItem) (counts : List ℕ) → all ≡ before ++ Quiet counts ∷ after → sum_of counts ≤ most) where
  -- a change has the columns, and tells its key alone where it is a `-D` into an upsert sink
  abbrev pub IsTold : Change → Type 0
  IsTold change = told_fits (told_by key change.kind) columns change.row ≡ true

  below : (n : ℕ) → n ≤ most → n < 2 ^ 64
  below n le = omega (arith, few, le)

  behind : (before items : List PrintItem) → all ≡ before ++ items → AllByRecursion IsTold (changes_in items) → AreItemsOf (map (λ c. c.ty.ty) cols) key items
  behind before [] is fit = tt
  behind before (Printed change ∷ items) is fit =
      let told = told_by key change.kind in
      ((goes_row columns cols change.row goes (told-types told columns change.row fit.0), told-is told columns change.row fit.0), behind (before ++ Printed change ∷ []) items (is ∙ sym (append_assoc before (Printed change ∷ []) items)) fit.1)
  behind before (Quiet counts ∷ items) is fit =
      (below (sum_of counts) (within before items counts is), behind (before ++ Quiet counts ∷ []) items (is ∙ sym (append_assoc before (Quiet counts ∷ []) items)) fit)

  pub items_of_sink : AllByRecursion IsTold (changes_in all) → AreItemsOf (map (λ c. c.ty.ty) cols) key all
  items_of_sink fit = behind [] all refl fit
