-- A node over parts: what it is answered with, and when it is out.
use Rattle.std.proofs.Common.{◌≡◌, ◌⊎◌, inl, inr, ◌≤◌, ◌^◌, Bool, true, false, cond, ◌||◌, List, [], ◌∷◌, Option, Some, None, refl, sym, ap, ◌∙◌, arith}
use Rattle.std.specs.Prelude.{nat_le, option_and_then}
use Rattle.std.specs.List.{list_any, AllByRecursion}
use Rattle.std.specs.Option.{unwrap_or}
use Rattle.std.proofs.lemmas.Bool.{lt-leb, le-leb}
use Rattle.ct_value.specs.Bag.{items, copies}
use Rattle.ct_value.specs.Order.{row_total, row_exact}
use Rattle.ct_value.specs.declared.row.Row.{Row}
use Rattle.ct_value.specs.declared.ty.ColTy.{ColTy}
use Rattle.ct_change.specs.Changelog.{Rows}
use Rattle.ct_expr.specs.Types.{both_of}
use Rattle.rel_algebra.proofs.laws.Bags.{each-copies}
use Rattle.rel_algebra.specs.Rel.{Rel}
use Rattle.rel_algebra.specs.Answer.{Table, types_in, columns_in, answer, too_many, wide}
use Rattle.rel_algebra.specs.Types.{columns_of, columns_if}
use Rattle.batch_answer.specs.Tallies.{Unfit}
use Rattle.batch_answer.specs.Parts.{IsFew, IsPart}
use Rattle.batch_answer.specs.Tables.{IsOut}

-- ---- too many copies of a row

abbrev many : Rows → Row → Bool
many rows row = nat_le (2 ^ 64) (copies rows row)

few_none : (rows : Rows) (xs : List Row) → IsFew rows → list_any (many rows) xs ≡ false
few_none rows [] few = refl
few_none rows (x ∷ xs) few = ap (λ b. b || list_any (many rows) xs) (lt-leb (2 ^ 64) (copies rows x) (few x)) ∙ few_none rows xs few

pub few-narrow : (tables : List Table) (rows : Rows) → IsFew rows → too_many tables (Some rows) ≡ false
few-narrow tables rows few = few_none rows (items rows) few

or_first : (a b : Bool) → (a || b) ≡ false → a ≡ false
or_first true b e = absurd (cc)
or_first false b e = refl

or_second : (a b : Bool) → (a || b) ≡ false → b ≡ false
or_second true b e = absurd (cc)
or_second false b e = e

or_left : (a b : Bool) → a ≡ true → (a || b) ≡ true
or_left true b e = refl
or_left false b e = absurd (cc)

or_right : (a b : Bool) → b ≡ true → (a || b) ≡ true
or_right true b e = refl
or_right false b e = e

none_passes : (test : Row → Bool) (xs : List Row) → list_any test xs ≡ false → AllByRecursion (λ x. test x ≡ false) xs
none_passes test [] e = tt
none_passes test (x ∷ xs) e = (or_first (test x) (list_any test xs) e, none_passes test xs (or_second (test x) (list_any test xs) e))

many-wide : (tables : List Table) (rows : Rows) (row : Row) → 2 ^ 64 ≤ copies rows row → too_many tables (Some rows) ≡ true
many-wide tables rows row h = go (list_any (many rows) (items rows)) refl
  where
    go : (b : Bool) → list_any (many rows) (items rows) ≡ b → list_any (many rows) (items rows) ≡ true
    go true e = e
    go false e =
        let passes : many rows row ≡ true = le-leb (2 ^ 64) (copies rows row) h in
        let fails : many rows row ≡ false = each-copies row_total row_exact (λ x. many rows x ≡ false) rows (none_passes (many rows) (items rows) e) row (omega arith) in
        absurd (cc)

-- out of range, or too many copies of a row
abbrev pub Lost : List Table → Option Rows → Type 0
Lost tables o = (o ≡ None) ⊎ (too_many tables o ≡ true)

pub unfit-lost : (tables : List Table) (o : Option Rows) → Unfit o → Lost tables o
unfit-lost tables None u = inl refl
unfit-lost tables (Some rows) u = inr (many-wide tables rows u.0 u.1)

-- a node is out where its own answer can't be given
lost_whole : (tables : List Table) (o p : Option Rows) (inputs : Bool) → o ≡ p → Lost tables p → (o ≡ None) ⊎ ((too_many tables o || inputs) ≡ true)
lost_whole tables o p inputs e (inl none) = inl (e ∙ none)
lost_whole tables o p inputs e (inr many) = inr (or_left _ inputs (ap (too_many tables) e ∙ many))

pub unfit-whole : (tables : List Table) (o p : Option Rows) (inputs : Bool) → o ≡ p → Unfit p → (o ≡ None) ⊎ ((too_many tables o || inputs) ≡ true)
unfit-whole tables o p inputs e u = lost_whole tables o p inputs e (unfit-lost tables p u)

-- it is not wide where neither its answer nor its inputs are
pub narrow-whole : (tables : List Table) (o : Option Rows) (rows : Rows) (inputs : Bool) → o ≡ Some rows → IsFew rows → inputs ≡ false → (too_many tables o || inputs) ≡ false
narrow-whole tables o rows inputs e few narrow = ap (λ p. too_many tables p || inputs) e ∙ ap (λ b. b || inputs) (few-narrow tables rows few) ∙ narrow

pub if_same : (test : Bool) (columns all : List ColTy) → columns_if test columns ≡ Some all → columns ≡ all
if_same true columns all e = cc
if_same false columns all e = absurd (cc)

pub if_there : (test : Bool) (o : Option (List ColTy)) (all : List ColTy) → cond test o None ≡ Some all → o ≡ Some all
if_there true o all e = e
if_there false o all e = absurd (cc)

-- ---- a node over one part

module _ (tables : List Table) (rel : Rel) (columns : List ColTy) (rows : Rows) (part : IsPart tables rel columns rows) where
  abbrev pub over_one : (Rows → Option Rows) → Option Rows
  over_one f = option_and_then f (answer tables rel)

  abbrev pub columns_over_one : (List ColTy → Option (List ColTy)) → Option (List ColTy)
  columns_over_one g = option_and_then g (columns_of (types_in tables) rel)

  one_is : (f : Rows → Option Rows) → over_one f ≡ f rows
  one_is f = ap (option_and_then f) part.answered

  pub one-answered : (f : Rows → Option Rows) (made : Rows) → f rows ≡ Some made → over_one f ≡ Some made
  one-answered f made e = one_is f ∙ e

  pub one-narrow : (f : Rows → Option Rows) (made : Rows) → f rows ≡ Some made → IsFew made → (too_many tables (over_one f) || wide tables rel) ≡ false
  one-narrow f made e few = narrow-whole tables (over_one f) made (wide tables rel) (one-answered f made e) few part.narrow

  pub one-out : (f : Rows → Option Rows) → Unfit (f rows) → (over_one f ≡ None) ⊎ ((too_many tables (over_one f) || wide tables rel) ≡ true)
  one-out f u = unfit-whole tables (over_one f) (f rows) (wide tables rel) (one_is f) u

  pub one-typed : (g : List ColTy → Option (List ColTy)) (made all : List ColTy) → columns_over_one g ≡ Some all → ((found : List ColTy) → g columns ≡ Some found → made ≡ found) → columns_over_one g ≡ Some made
  one-typed g made all e same = e ∙ ap Some (sym (same all (sym (ap (option_and_then g) part.typed) ∙ e)))

  pub columns_here : columns_in tables rel ≡ columns
  columns_here = ap (λ o. unwrap_or o []) part.typed

-- ---- a node over two parts

module _ (tables : List Table) (rel other : Rel) (left_columns : List ColTy) (left : Rows) (right_columns : List ColTy) (right : Rows) (left_part : IsPart tables rel left_columns left) (right_part : IsPart tables other right_columns right) where
  abbrev pub over_two : (Rows → Rows → Option Rows) → Option Rows
  over_two f = both_of f (answer tables rel) (answer tables other)

  abbrev pub columns_over_two : (List ColTy → List ColTy → Option (List ColTy)) → Option (List ColTy)
  columns_over_two g = both_of g (columns_of (types_in tables) rel) (columns_of (types_in tables) other)

  two_is : (f : Rows → Rows → Option Rows) → over_two f ≡ f left right
  two_is f = ap (λ o. both_of f o (answer tables other)) left_part.answered ∙ ap (both_of f (Some left)) right_part.answered

  pub two-answered : (f : Rows → Rows → Option Rows) (made : Rows) → f left right ≡ Some made → over_two f ≡ Some made
  two-answered f made e = two_is f ∙ e

  neither : (wide tables rel || wide tables other) ≡ false
  neither = ap (λ b. b || wide tables other) left_part.narrow ∙ right_part.narrow

  pub two-narrow : (f : Rows → Rows → Option Rows) (made : Rows) → f left right ≡ Some made → IsFew made → (too_many tables (over_two f) || (wide tables rel || wide tables other)) ≡ false
  two-narrow f made e few = narrow-whole tables (over_two f) made (wide tables rel || wide tables other) (two-answered f made e) few neither

  pub two-out : (f : Rows → Rows → Option Rows) → Unfit (f left right) → (over_two f ≡ None) ⊎ ((too_many tables (over_two f) || (wide tables rel || wide tables other)) ≡ true)
  two-out f u = unfit-whole tables (over_two f) (f left right) (wide tables rel || wide tables other) (two_is f) u

  pub two-typed : (g : List ColTy → List ColTy → Option (List ColTy)) (made all : List ColTy) → columns_over_two g ≡ Some all → ((found : List ColTy) → g left_columns right_columns ≡ Some found → made ≡ found) → columns_over_two g ≡ Some made
  two-typed g made all e same = e ∙ ap Some (sym (same all (sym (ap (λ o. both_of g o (columns_of (types_in tables) other)) left_part.typed ∙ ap (both_of g (Some left_columns)) right_part.typed) ∙ e)))

-- ---- inputs that are out

pub one-lost : (tables : List Table) (rel : Rel) (f : Rows → Option Rows) → IsOut tables rel → (option_and_then f (answer tables rel) ≡ None) ⊎ ((too_many tables (option_and_then f (answer tables rel)) || wide tables rel) ≡ true)
one-lost tables rel f (inl none) = inl (ap (option_and_then f) none)
one-lost tables rel f (inr many) = inr (or_right (too_many tables (option_and_then f (answer tables rel))) (wide tables rel) many)

none_right : (f : Rows → Rows → Option Rows) (o : Option Rows) → both_of f o None ≡ None
none_right f None = refl
none_right f (Some rows) = refl

module _ (tables : List Table) (rel other : Rel) (f : Rows → Rows → Option Rows) where
  abbrev both_wide : Bool
  both_wide = too_many tables (both_of f (answer tables rel) (answer tables other)) || (wide tables rel || wide tables other)

  pub left-lost : IsOut tables rel → (both_of f (answer tables rel) (answer tables other) ≡ None) ⊎ (both_wide ≡ true)
  left-lost (inl none) = inl (ap (λ o. both_of f o (answer tables other)) none)
  left-lost (inr many) = inr (or_right _ _ (or_left (wide tables rel) (wide tables other) many))

  pub right-lost : IsOut tables other → (both_of f (answer tables rel) (answer tables other) ≡ None) ⊎ (both_wide ≡ true)
  right-lost (inl none) = inl (ap (both_of f (answer tables rel)) none ∙ none_right f (answer tables rel))
  right-lost (inr many) = inr (or_right _ _ (or_right (wide tables rel) (wide tables other) many))

-- ---- inputs of a well-typed node

pub one-columns : (g : List ColTy → Option (List ColTy)) (o : Option (List ColTy)) (all : List ColTy) → option_and_then g o ≡ Some all → (columns : List ColTy) × (o ≡ Some columns)
one-columns g None all e = absurd (cc)
one-columns g (Some columns) all e = (columns, refl)

pub left-columns : (g : List ColTy → List ColTy → Option (List ColTy)) (o p : Option (List ColTy)) (all : List ColTy) → both_of g o p ≡ Some all → (columns : List ColTy) × (o ≡ Some columns)
left-columns g None p all e = absurd (cc)
left-columns g (Some columns) p all e = (columns, refl)

pub right-columns : (g : List ColTy → List ColTy → Option (List ColTy)) (o p : Option (List ColTy)) (all : List ColTy) → both_of g o p ≡ Some all → (columns : List ColTy) × (p ≡ Some columns)
right-columns g None p all e = absurd (cc)
right-columns g (Some columns) None all e = absurd (cc)
right-columns g (Some columns) (Some others) all e = (others, refl)
