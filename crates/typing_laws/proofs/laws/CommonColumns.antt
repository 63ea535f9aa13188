-- The rows of one input of a union have the columns of both, and those of a set operation its columns.
use Rattle.std.proofs.Common.{◌≡◌, ℕ, ◌≤◌, ◌^◌, ◌==◌, Bool, true, false, cond, not, ◌&&◌, ◌||◌, List, [], ◌∷◌, Option, Some, None, refl, sym, ap, ◌∙◌, subst, arith}
use Rattle.std.specs.Prelude.{ℤ, max, option_map, unsigned_abs}
use Rattle.std.proofs.lemmas.Bool.{ltb-true, lt-ltb, eqb-true}
use Rattle.std.proofs.Math.Nat.{pow-le-pow_right}
use Rattle.ct_value.specs.Order.{row_total, row_exact}
use Rattle.ct_value.specs.declared.row.Row.{Row}
use Rattle.ct_value.specs.declared.ty.Ty.{Ty}
use Rattle.ct_value.specs.declared.ty.Ty.TheVariants.{Bool as Truths, Int, BigInt, Decimal, Text as Texts}
use Rattle.ct_value.specs.declared.ty.ColTy.{ColTy}
use Rattle.ct_value.specs.declared.value.Value.{Value}
use Rattle.ct_value.specs.declared.value.Value.TheVariants.{Null, Bool as Truth, Num, Text}
use Rattle.ct_change.specs.Changelog.{Rows}
use Rattle.ct_field.specs.Numbers.{in_range}
use Rattle.ct_field.specs.Typed.{value_fits, is_null, col_fits}
use Rattle.ct_expr.specs.Types.{common_ty, both_of}
use Rattle.rel_algebra.specs.Sums.{Each}
use Rattle.rel_algebra.specs.Clauses.{Fits}
use Rattle.rel_algebra.specs.Sets.{set_form, set_kind, set_rows, set_nullable, set_column, set_columns}
use Rattle.rel_algebra.specs.Types.{common_column, common_columns}
use Rattle.rel_algebra.proofs.laws.Averages.{within_widens}
use Rattle.rel_algebra.proofs.laws.Bags.{each-copies, copies-each}
use Rattle.rel_algebra.proofs.laws.Fits.{first, second, both}
use Rattle.rel_algebra.proofs.laws.Sets.{set_rows-left, set_rows-right}

pub both_parts : {A B C : Type 0} (f : A → B → Option C) (o : Option A) (p : Option B) (c : C) → both_of f o p ≡ Some c → (a : A) × (b : B) × (o ≡ Some a) × (p ≡ Some b) × (f a b ≡ Some c)
both_parts f None p c e = absurd (cc)
both_parts f (Some a) None c e = absurd (cc)
both_parts f (Some a) (Some b) c e = (a, b, refl, refl, e)

pub if_some : {A : Type 0} (test : Bool) (a b : A) → cond test (Some a) None ≡ Some b → (test ≡ true) × (a ≡ b)
if_some true a b e = (refl, cc)
if_some false a b e = absurd (cc)

pub if_all : {A : Type 0} (test : Bool) (o : Option A) (a : A) → cond test o None ≡ Some a → (test ≡ true) × (o ≡ Some a)
if_all true o a e = (refl, e)
if_all false o a e = absurd (cc)

-- ---- common columns

decimal_widens : (p q s t : ℕ) (n : ℤ) → p ≤ q → in_range (Decimal p s) n ≡ true → in_range (Decimal q t) n ≡ true
decimal_widens p q s t n l e = lt-ltb _ _ (let h = ltb-true (unsigned_abs n) (10 ^ p) e in let k : 10 ^ p ≤ 10 ^ q = pow-le-pow_right (let g : 1 ≤ 10 = omega arith in g) l in omega arith)

int_widens : (value : Value) → value_fits Int value ≡ true → value_fits BigInt value ≡ true
int_widens Null e = refl
int_widens (Truth b) e = absurd (cc)
int_widens (Num n) e = within_widens (2 ^ 31) (2 ^ 63) n (omega arith) e
int_widens (Text t) e = absurd (cc)

scaled_widens : (p q s : ℕ) (value : Value) → p ≤ q → value_fits (Decimal p s) value ≡ true → value_fits (Decimal q s) value ≡ true
scaled_widens p q s Null l e = refl
scaled_widens p q s (Truth b) l e = absurd (cc)
scaled_widens p q s (Num n) l e = decimal_widens p q s s n l e
scaled_widens p q s (Text t) l e = absurd (cc)

-- a type that holds the values of another
abbrev Widens : Ty → Ty → Type 0
Widens ty common = (value : Value) → value_fits ty value ≡ true → value_fits common value ≡ true

itself : (ty common : Ty) → Some ty ≡ Some common → Widens ty common
itself ty common e value h = let i : ty ≡ common = cc in subst (λ t. value_fits t value ≡ true) i h

of_int : (common : Ty) → Some BigInt ≡ Some common → Widens Int common
of_int common e value h = let i : BigInt ≡ common = cc in subst (λ t. value_fits t value ≡ true) i (int_widens value h)

of_scale : (p q s t : ℕ) (common : Ty) → cond (s == t) (Some (Decimal (max p q) s)) None ≡ Some common → Widens (Decimal p s) common
of_scale p q s t common e value h = let i = (if_some (s == t) (Decimal (max p q) s) common e).1 in subst (λ t. value_fits t value ≡ true) i (scaled_widens p (max p q) s value (omega arith) h)

of_other_scale : (p q s t : ℕ) (common : Ty) → cond (s == t) (Some (Decimal (max p q) s)) None ≡ Some common → Widens (Decimal q t) common
of_other_scale p q s t common e value h =
    let k = if_some (s == t) (Decimal (max p q) s) common e in
    let j : s ≡ t = eqb-true s t k.0 in
    subst (λ t. value_fits t value ≡ true) k.1 (scaled_widens q (max p q) s value (omega arith) (subst (λ u. value_fits (Decimal q u) value ≡ true) (sym j) h))

common_left : (ty other common : Ty) → common_ty ty other ≡ Some common → Widens ty common
common_left Truths Truths common e = itself Truths common e
common_left Int Int common e = itself Int common e
common_left Int BigInt common e = of_int common e
common_left BigInt Int common e = itself BigInt common e
common_left BigInt BigInt common e = itself BigInt common e
common_left (Decimal p s) (Decimal q t) common e = of_scale p q s t common e
common_left Texts Texts common e = itself Texts common e
common_left ty other common e = absurd (cc)

common_right : (ty other common : Ty) → common_ty ty other ≡ Some common → Widens other common
common_right Truths Truths common e = itself Truths common e
common_right Int Int common e = itself Int common e
common_right Int BigInt common e = itself BigInt common e
common_right BigInt Int common e = of_int common e
common_right BigInt BigInt common e = itself BigInt common e
common_right (Decimal p s) (Decimal q t) common e = of_other_scale p q s t common e
common_right Texts Texts common e = itself Texts common e
common_right ty other common e = absurd (cc)

fits_wider : (ty common : Ty) (nullable other : Bool) (value : Value) → Widens ty common → (value_fits ty value && (nullable || not (is_null value))) ≡ true → (nullable ≡ true → other ≡ true) → (value_fits common value && (other || not (is_null value))) ≡ true
fits_wider ty common nullable other value w h may = both (value_fits common value) _ (w value (first (value_fits ty value) _ h)) (null_stays nullable other (not (is_null value)) (second (value_fits ty value) _ h) may)
  where
    null_stays : (a b c : Bool) → (a || c) ≡ true → (a ≡ true → b ≡ true) → (b || c) ≡ true
    null_stays true b c e f = ap (λ d. d || c) (f refl)
    null_stays false true c e f = refl
    null_stays false false c e f = e

column_parts : (column other common : ColTy) → common_column column other ≡ Some common → (common_ty column.ty other.ty ≡ Some common.ty) × (common.nullable ≡ (column.nullable || other.nullable))
column_parts column other common e = go (common_ty column.ty other.ty) refl e
  where
    go : (t : Option Ty) → common_ty column.ty other.ty ≡ t → option_map (λ ty. record { ty = ty; nullable = column.nullable || other.nullable }) t ≡ Some common → (common_ty column.ty other.ty ≡ Some common.ty) × (common.nullable ≡ (column.nullable || other.nullable))
    go None i j = absurd (cc)
    go (Some ty) i j =
        let k : ◌≡◌ {A = ColTy} (record { ty = ty; nullable = column.nullable || other.nullable }) common = cc in
        (i ∙ ap Some (ap (λ (c : ColTy). c.ty) k), sym (ap (λ (c : ColTy). c.nullable) k))

left_column : (column other common : ColTy) (value : Value) → common_column column other ≡ Some common → col_fits column value ≡ true → col_fits common value ≡ true
left_column column other common value e h =
    let p = column_parts column other common e in
    fits_wider column.ty common.ty column.nullable common.nullable value (common_left column.ty other.ty common.ty p.0) h (λ i. p.1 ∙ ap (λ b. b || other.nullable) i)

right_column : (column other common : ColTy) (value : Value) → common_column column other ≡ Some common → col_fits other value ≡ true → col_fits common value ≡ true
right_column column other common value e h =
    let p = column_parts column other common e in
    fits_wider other.ty common.ty other.nullable common.nullable value (common_right column.ty other.ty common.ty p.0) h (λ i. p.1 ∙ ap (λ b. column.nullable || b) i ∙ always column.nullable)
  where
    always : (b : Bool) → (b || true) ≡ true
    always true = refl
    always false = refl

pub left_row : (columns others common : List ColTy) (row : Row) → common_columns columns others ≡ Some common → Fits columns row → Fits common row
left_row [] [] common row e h = let i : [] ≡ common = cc in subst (λ c. Fits c row) i h
left_row [] (other ∷ others) common row e h = absurd (cc)
left_row (column ∷ columns) [] common row e h = absurd (cc)
left_row (column ∷ columns) (other ∷ others) common [] e h = absurd (cc)
left_row (column ∷ columns) (other ∷ others) common (value ∷ row) e h =
    let p = both_parts (λ c rest. Some (c ∷ rest)) (common_column column other) (common_columns columns others) common e in
    let i : p.0 ∷ p.1 ≡ common = let q = p.4 in cc in
    subst (λ c. Fits c (value ∷ row)) i (both (col_fits p.0 value) _ (left_column column other p.0 value p.2 (first (col_fits column value) _ h)) (left_row columns others p.1 row p.3 (second (col_fits column value) _ h)))

pub right_row : (columns others common : List ColTy) (row : Row) → common_columns columns others ≡ Some common → Fits others row → Fits common row
right_row [] [] common row e h = let i : [] ≡ common = cc in subst (λ c. Fits c row) i h
right_row [] (other ∷ others) common row e h = absurd (cc)
right_row (column ∷ columns) [] common row e h = absurd (cc)
right_row (column ∷ columns) (other ∷ others) common [] e h = absurd (cc)
right_row (column ∷ columns) (other ∷ others) common (value ∷ row) e h =
    let p = both_parts (λ c rest. Some (c ∷ rest)) (common_column column other) (common_columns columns others) common e in
    let i : p.0 ∷ p.1 ≡ common = let q = p.4 in cc in
    subst (λ c. Fits c (value ∷ row)) i (both (col_fits p.0 value) _ (right_column column other p.0 value p.2 (first (col_fits other value) _ h)) (right_row columns others p.1 row p.3 (second (col_fits other value) _ h)))

-- ---- columns of set operations

module _ (except : Bool) where
  set_parts : (left right made : ColTy) → set_column (set_kind except) left right ≡ Some made → (common_ty left.ty right.ty ≡ Some made.ty) × (made.nullable ≡ set_nullable (set_kind except) left right)
  set_parts left right made e = go (common_ty left.ty right.ty) refl e
    where
      go : (t : Option Ty) → common_ty left.ty right.ty ≡ t → option_map (λ ty. record { ty = ty; nullable = set_nullable (set_kind except) left right }) t ≡ Some made → (common_ty left.ty right.ty ≡ Some made.ty) × (made.nullable ≡ set_nullable (set_kind except) left right)
      go None i j = absurd (cc)
      go (Some ty) i j =
          let k : ◌≡◌ {A = ColTy} (record { ty = ty; nullable = set_nullable (set_kind except) left right }) made = cc in
          (i ∙ ap Some (ap (λ (c : ColTy). c.ty) k), sym (ap (λ (c : ColTy). c.nullable) k))

  -- NULL that stands on the left, and under INTERSECT on the right, may stand in the column
  null_there : (left right : ColTy) (some : Bool) → (left.nullable || some) ≡ true → (except ≡ false → (right.nullable || some) ≡ true) → (set_nullable (set_kind except) left right || some) ≡ true
  null_there left right true h k = either (set_nullable (set_kind except) left right)
    where
      either : (b : Bool) → (b || true) ≡ true
      either true = refl
      either false = refl
  null_there left right false h k = ap (λ b. b || false) (go except refl)
    where
      plain : (b : Bool) → (b || false) ≡ true → b ≡ true
      plain true e = refl
      plain false e = absurd (cc)

      go : (x : Bool) → except ≡ x → set_nullable (set_kind x) left right ≡ true
      go true e = plain left.nullable h
      go false e = λ i. plain left.nullable h i && plain right.nullable (k e) i

  set_cell : (left right made : ColTy) (value : Value) → set_column (set_kind except) left right ≡ Some made → col_fits left value ≡ true → (except ≡ false → col_fits right value ≡ true) → col_fits made value ≡ true
  set_cell left right made value e h k =
      let p = set_parts left right made e in
      both (value_fits made.ty value) _ (common_left left.ty right.ty made.ty p.0 value (first (value_fits left.ty value) _ h))
      (ap (λ b. b || not (is_null value)) p.1 ∙ null_there left right (not (is_null value)) (second (value_fits left.ty value) _ h) (λ x. second (value_fits right.ty value) _ (k x)))

  -- a row of the left that is no row of EXCEPT's right, or one of both, has the operation's columns
  pub set_row : (lefts rights made : List ColTy) (row : Row) → set_columns (set_kind except) lefts rights ≡ Some made → Fits lefts row → (except ≡ false → Fits rights row) → Fits made row
  set_row [] [] made row e h k = let i : [] ≡ made = cc in subst (λ c. Fits c row) i h
  set_row [] (right ∷ rights) made row e h k = absurd (cc)
  set_row (left ∷ lefts) [] made row e h k = absurd (cc)
  set_row (left ∷ lefts) (right ∷ rights) made [] e h k = absurd (cc)
  set_row (left ∷ lefts) (right ∷ rights) made (value ∷ row) e h k =
      let p = both_parts (λ c rest. Some (c ∷ rest)) (set_column (set_kind except) left right) (set_columns (set_kind except) lefts rights) made e in
      let i : p.0 ∷ p.1 ≡ made = let q = p.4 in cc in
      subst (λ c. Fits c (value ∷ row)) i
      (both (col_fits p.0 value) _ (set_cell left right p.0 value p.2 (first (col_fits left value) _ h) (λ x. first (col_fits right value) _ (k x)))
      (set_row lefts rights p.1 row p.3 (second (col_fits left value) _ h) (λ x. second (col_fits right value) _ (k x))))

  pub set_rows_fit : (all : Bool) (lefts rights made : List ColTy) (left right : Rows) → set_columns (set_kind except) lefts rights ≡ Some made → Each (Fits lefts) left → Each (Fits rights) right → Each (Fits made) (set_rows (set_form except all) left right)
  set_rows_fit all lefts rights made left right e h k =
      copies-each row_total row_exact (Fits made) (set_rows (set_form except all) left right) (λ row some.
      set_row lefts rights made row e (each-copies row_total row_exact (Fits lefts) left h row (set_rows-left except all left right row some))
      (λ x. each-copies row_total row_exact (Fits rights) right k row (set_rows-right except all left right row x some)))
