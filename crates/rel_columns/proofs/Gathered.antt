-- Columns gathered by a loop, as far as each of them is there.
use Rattle.std.proofs.Common.{◌≡◌, ℕ, suc, ◌+◌, ◌<◌, ◌≤◌, Bool, true, false, List, [], ◌∷◌, ◌++◌, length, drop, get_or, map, Option, Some, None, refl, sym, ap, ◌∙◌, append_assoc}
use Rattle.std.specs.Prelude.{option_map}
use Rattle.std.proofs.lemmas.List.{at_drop_more, drop_all}
use Rattle.ct_value.specs.declared.ty.ColTy.{ColTy}
use Rattle.ct_expr.specs.Types.{type_of, both_of}
use Rattle.ct_expr.specs.View.{expr_view, exprs_view}
use Rattle.ct_expr.specs.declared.expr.Expr.{Expr}
use Rattle.rel_algebra.specs.Sets as s
use Rattle.rel_algebra.specs.Types as t
use Rattle.rel_algebra.specs.declared.sets.SetKind.{SetKind}
use Rattle.rel_algebra.specs.Aggregates as a
use Rattle.rel_algebra.specs.Joins.{nullable_if}
use Rattle.rel_algebra.specs.declared.agg.Agg.{Agg}

append_nil : (xs : List ColTy) → xs ++ [] ≡ xs
append_nil [] = refl
append_nil (x ∷ xs) = ap (λ ys. x ∷ ys) (append_nil xs)

-- those so far, and then what is left, are the whole
abbrev pub Gathered : Option (List ColTy) → Option (List ColTy) → List ColTy → Type 0
Gathered whole left made = whole ≡ option_map (λ others. made ++ others) left

-- one column more, from the first of what is left
abbrev pub before : Option ColTy → Option (List ColTy) → Option (List ColTy)
before column columns = both_of (λ c others. Some (c ∷ others)) column columns

pub gathered-start : (whole left : Option (List ColTy)) (made : List ColTy) → left ≡ whole → made ≡ [] → Gathered whole left made
gathered-start whole left made e g = sym e ∙ nothing left ∙ ap (λ xs. option_map (λ others. xs ++ others) left) (sym g)
  where
    nothing : (o : Option (List ColTy)) → o ≡ option_map (λ others. [] ++ others) o
    nothing None = refl
    nothing (Some others) = refl

pub gathered-end : (whole left : Option (List ColTy)) (made : List ColTy) → left ≡ Some [] → Gathered whole left made → Some made ≡ whole
gathered-end whole left made e h = sym (h ∙ ap (option_map (λ others. made ++ others)) e ∙ ap (λ (xs : List ColTy). Some xs) (append_nil made))

-- no column, where that of the first of what is left isn't there
pub gathered-none : (whole left right : Option (List ColTy)) (o : Option ColTy) (made : List ColTy) → left ≡ before o right → o ≡ None → Gathered whole left made → None ≡ whole
gathered-none whole left right o made e f h = sym (h ∙ ap (option_map (λ others. made ++ others)) (e ∙ ap (λ x. before x right) f))

-- one column more
pub gathered-turn : (whole left right : Option (List ColTy)) (o : Option ColTy) (column : ColTy) (made new : List ColTy) → left ≡ before o right → o ≡ Some column → new ≡ made ++ column ∷ [] → Gathered whole left made → Gathered whole right new
gathered-turn whole left right o column made new e f g h =
    h ∙ ap (option_map (λ others. made ++ others)) (e ∙ ap (λ x. before x right) f) ∙ more right ∙ ap (λ xs. option_map (λ others. xs ++ others) right) (sym g)
  where
    more : (p : Option (List ColTy)) → option_map (λ others. made ++ others) (before (Some column) p) ≡ option_map (λ others. (made ++ column ∷ []) ++ others) p
    more None = refl
    more (Some others) = ap (λ (xs : List ColTy). Some xs) (sym (append_assoc made (column ∷ []) others))

-- ---- items

abbrev pub items_from : List ColTy → List Expr → ℕ → Option (List ColTy)
items_from columns items i = t.item_columns columns (exprs_view (drop i items))

pub items_more : (columns : List ColTy) (items : List Expr) (i : ℕ) (item : Expr) → i < length items → item ≡ get_or items i item → items_from columns items i ≡ before (type_of (expr_view item) columns) (items_from columns items (i + 1))
items_more columns items i item l h = at_drop_more (λ xs. t.item_columns columns (exprs_view xs)) items i item l ∙ ap (λ (x : Expr). before (type_of (expr_view x) columns) (items_from columns items (i + 1))) (sym h)

pub items_end : (columns : List ColTy) (items : List Expr) (i : ℕ) → length items ≤ i → items_from columns items i ≡ Some []
items_end columns items i l = ap (λ xs. t.item_columns columns (exprs_view xs)) (drop_all i items l)

-- ---- calls

abbrev pub calls_from : List ColTy → Bool → List Agg → ℕ → Option (List ColTy)
calls_from columns global aggs i = a.agg_types columns global (drop i aggs)

before-column : (o : Option ColTy) (p : Option (List ColTy)) → a.column_before o p ≡ before o p
before-column None p = refl
before-column (Some column) None = refl
before-column (Some column) (Some others) = refl

pub calls_more : (columns : List ColTy) (global : Bool) (aggs : List Agg) (i : ℕ) (d : Agg) → i < length aggs → calls_from columns global aggs i ≡ before (a.agg_type columns global (get_or aggs i d)) (calls_from columns global aggs (i + 1))
calls_more columns global aggs i d l =
    at_drop_more (a.agg_types columns global) aggs i d l
    ∙ before-column (a.agg_type columns global (get_or aggs i d)) (calls_from columns global aggs (i + 1))

pub calls_end : (columns : List ColTy) (global : Bool) (aggs : List Agg) (i : ℕ) → length aggs ≤ i → calls_from columns global aggs i ≡ Some []
calls_end columns global aggs i l = ap (a.agg_types columns global) (drop_all i aggs l)

-- ---- columns of two inputs

abbrev pub sets_from : SetKind → List ColTy → List ColTy → ℕ → Option (List ColTy)
sets_from kind lefts rights i = s.set_columns kind (drop i lefts) (drop i rights)

pub sets_more : (kind : SetKind) (lefts rights : List ColTy) (i : ℕ) (d : ColTy) → i < length lefts → i < length rights → sets_from kind lefts rights i ≡ before (s.set_column kind (get_or lefts i d) (get_or rights i d)) (sets_from kind lefts rights (i + 1))
sets_more kind lefts rights i d l m =
    at_drop_more (λ xs. s.set_columns kind xs (drop i rights)) lefts i d l
    ∙ at_drop_more (λ ys. s.set_columns kind (get_or lefts i d ∷ drop (i + 1) lefts) ys) rights i d m

pub sets_end : (kind : SetKind) (lefts rights : List ColTy) (i : ℕ) → length lefts ≤ i → length rights ≤ i → sets_from kind lefts rights i ≡ Some []
sets_end kind lefts rights i l m =
    ap (λ (xs : List ColTy). s.set_columns kind xs (drop i rights)) (drop_all i lefts l)
    ∙ ap (λ (ys : List ColTy). s.set_columns kind [] ys) (drop_all i rights m)

no-rest : (o : Option ColTy) → before o None ≡ None
no-rest None = refl
no-rest (Some column) = refl

pub uneven : (kind : SetKind) (lefts rights : List ColTy) → (length lefts ≡ length rights → ⊥) → s.set_columns kind lefts rights ≡ None
uneven kind [] [] h = absurd (h refl)
uneven kind [] (right ∷ rights) h = refl
uneven kind (left ∷ lefts) [] h = refl
uneven kind (left ∷ lefts) (right ∷ rights) h = ap (before (s.set_column kind left right)) (uneven kind lefts rights (λ e. h (ap suc e))) ∙ no-rest (s.set_column kind left right)

-- ---- columns that stay

pub none_nullable : (missing : Bool) (columns : List ColTy) → missing ≡ false → columns ≡ map (nullable_if missing) columns
none_nullable true columns e = absurd (cc)
none_nullable false [] e = refl
none_nullable false (column ∷ columns) e = ap (λ (cs : List ColTy). column ∷ cs) (none_nullable false columns refl)
