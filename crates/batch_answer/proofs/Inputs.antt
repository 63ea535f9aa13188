-- The inputs of a Union, as far as a loop has come.
use Rattle.std.proofs.Common.{◌≡◌, inl, inr, ℕ, ◌+◌, ◌<◌, ◌≤◌, ◌^◌, Bool, true, false, ◌||◌, List, Option, Some, None, length, drop, get_or, refl, sym, ap, ◌∙◌, arith}
use Rattle.std.proofs.lemmas.List.{at_drop_more, drop_all}
use Rattle.ct_value.specs.Bag.{none, copies}
use Rattle.ct_value.specs.Order.{row_total, row_exact}
use Rattle.ct_value.specs.declared.ty.ColTy.{ColTy}
use Rattle.ct_change.specs.Changelog.{Rows}
use Rattle.ct_expr.specs.Types.{both_of}
use Rattle.rel_algebra.specs.Sums.{plus, together}
use Rattle.rel_algebra.proofs.laws.Bags.{copies-together, plus-none, plus-none-right, plus-assoc}
use Rattle.rel_algebra.specs.declared.rel.Rel.{Rel as Tree}
use Rattle.rel_algebra.specs.Rel.{Rel, Rels, Union, no_rels, rel_and, rels}
use Rattle.rel_algebra.specs.View.{rel_view, rels_view}
use Rattle.rel_algebra.specs.Answer.{Table, types_in, answers, too_many, any_wide}
use Rattle.rel_algebra.specs.Types.{columns_of, common_columns, common_from, union_columns}
use Rattle.batch_answer.specs.Tallies.{Unfit}
use Rattle.batch_answer.specs.Parts.{IsFew, IsPart, begun}
use Rattle.batch_answer.specs.Tables.{IsTyped, IsOut}
use Rattle.batch_answer.proofs.Parts.{unfit-whole, narrow-whole}

-- the trees from an index on
abbrev pub from : List Tree → ℕ → Rels
from inputs i = rels (rels_view (drop i inputs))

pub from_more : (inputs : List Tree) (i : ℕ) (input : Tree) → i < length inputs → input ≡ get_or inputs i input → from inputs i ≡ rel_and (rel_view input) (from inputs (i + 1))
from_more inputs i input l h = at_drop_more (λ xs. rels (rels_view xs)) inputs i input l ∙ ap (λ (x : Tree). rel_and (rel_view x) (from inputs (i + 1))) (sym h)

pub from_end : (inputs : List Tree) (i : ℕ) → length inputs ≤ i → from inputs i ≡ no_rels
from_end inputs i l = ap (λ xs. rels (rels_view xs)) (drop_all i inputs l)

-- the common columns of those so far and of what is left
abbrev pub columns_left : List (List ColTy) → Option (List ColTy) → Rels → Option (List ColTy)
columns_left types None inputs = union_columns types inputs
columns_left types (Some columns) inputs = common_from types (Some columns) inputs

pub record InputsLeft (tables : List Table) (whole left : Rels) (columns : Option (List ColTy)) (rows : Rows) : Type 0 where
  pub typed : columns_left (types_in tables) columns left ≡ union_columns (types_in tables) whole
  pub answered : plus (Some rows) (answers tables left) ≡ answers tables whole
  pub narrow : any_wide tables left ≡ any_wide tables whole

pub inputs-start : (tables : List Table) (whole left : Rels) (rows : Rows) → left ≡ whole → rows ≡ none → InputsLeft tables whole left None rows
inputs-start tables whole left rows e g = record {
  typed = ap (union_columns (types_in tables)) e;
  answered = ap (λ (r : Rows). plus (Some r) (answers tables left)) g ∙ plus-none row_total row_exact (answers tables left) ∙ ap (answers tables) e;
  narrow = ap (any_wide tables) e;
}

-- without columns so far there are none at the end
lost_columns : (types : List (List ColTy)) (inputs : Rels) → common_from types None inputs ≡ None
lost_columns types no_rels = refl
lost_columns types (rel_and input inputs) = lost_columns types inputs

known_columns : (types : List (List ColTy)) (o : Option (List ColTy)) (inputs : Rels) (all : List ColTy) → common_from types o inputs ≡ Some all → (columns : List ColTy) × (o ≡ Some columns)
known_columns types None inputs all e = absurd (let n = lost_columns types inputs in cc)
known_columns types (Some columns) inputs all e = (columns, refl)

second_known : (f : List ColTy → List ColTy → Option (List ColTy)) (o p : Option (List ColTy)) (all : List ColTy) → both_of f o p ≡ Some all → (columns : List ColTy) × (p ≡ Some columns)
second_known f None p all e = absurd (cc)
second_known f (Some columns) None all e = absurd (cc)
second_known f (Some columns) (Some others) all e = (others, refl)

module _ (tables : List Table) (whole left : Rels) (columns : Option (List ColTy)) (rows : Rows) (input : Rel) (rest : Rels) (before : InputsLeft tables whole left columns rows) (more : left ≡ rel_and input rest) where
  abbrev types : List (List ColTy)
  types = types_in tables

  left_typed : (all : List ColTy) → union_columns types whole ≡ Some all → columns_left types columns (rel_and input rest) ≡ Some all
  left_typed all e = ap (columns_left types columns) (sym more) ∙ before.typed ∙ e

  typed_at : (o : Option (List ColTy)) (all : List ColTy) → columns_left types o (rel_and input rest) ≡ Some all → (found : List ColTy) × (columns_of types input ≡ Some found)
  typed_at None all e = known_columns types (columns_of types input) rest all e
  typed_at (Some so_far) all e =
      let k = known_columns types (both_of common_columns (Some so_far) (columns_of types input)) rest all e in
      second_known common_columns (Some so_far) (columns_of types input) k.0 k.1

  pub input-typed : IsTyped tables (Union whole) → IsTyped tables input
  input-typed typed = typed_at columns typed.0 (left_typed typed.0 typed.1)

  pub input-lost : IsOut tables input → IsOut tables (Union whole)
  input-lost (inl none_) = inl (sym before.answered ∙ ap (λ (l : Rels). plus (Some rows) (answers tables l)) more ∙ ap (λ o. plus (Some rows) (plus o (answers tables rest))) none_)
  input-lost (inr many) = inr (at_end (too_many tables (answers tables whole)) (sym before.narrow ∙ ap (any_wide tables) more ∙ ap (λ b. b || any_wide tables rest) many))
    where
      at_end : (a : Bool) {b : Bool} → b ≡ true → (a || b) ≡ true
      at_end true e = refl
      at_end false e = e

  module _ (input_columns : List ColTy) (others : Rows) (part : IsPart tables input input_columns others) where
    summed : plus (Some (together rows others)) (answers tables rest) ≡ answers tables whole
    summed =
        plus-assoc row_total row_exact (Some rows) (Some others) (answers tables rest)
        ∙ ap (λ o. plus (Some rows) (plus o (answers tables rest))) (sym part.answered)
        ∙ ap (λ (l : Rels). plus (Some rows) (answers tables l)) (sym more) ∙ before.answered

    unfit-plus : (o p : Option Rows) → Unfit o → Unfit (plus o p)
    unfit-plus None p u = tt
    unfit-plus (Some sum) None u = tt
    unfit-plus (Some sum) (Some those) u = (u.0, let h : 2 ^ 64 ≤ copies sum u.0 = u.1 in let e = copies-together row_total row_exact sum those u.0 in omega arith)

    pub sum-lost : Unfit (Some (together rows others)) → IsOut tables (Union whole)
    sum-lost u =
        unfit-whole tables (answers tables whole) (plus (Some (together rows others)) (answers tables rest)) (any_wide tables whole) (sym summed)
        (unfit-plus (Some (together rows others)) (answers tables rest) u)

    common_so_far : (o : Option (List ColTy)) (made all : List ColTy) → columns_left types o (rel_and input rest) ≡ Some all → ((found : List ColTy) → begun o input_columns ≡ Some found → made ≡ found) → columns_left types (Some made) rest ≡ Some all
    common_so_far None made all e same =
        ap (λ (c : List ColTy). common_from types (Some c) rest) (same input_columns refl) ∙ ap (λ o. common_from types o rest) (sym part.typed) ∙ e
    common_so_far (Some so_far) made all e same =
        let here : common_from types (common_columns so_far input_columns) rest ≡ Some all = ap (λ o. common_from types (both_of common_columns (Some so_far) o) rest) (sym part.typed) ∙ e in
        let k = known_columns types (common_columns so_far input_columns) rest all here in
        ap (λ (c : List ColTy). common_from types (Some c) rest) (same k.0 k.1) ∙ ap (λ o. common_from types o rest) (sym k.1) ∙ here

    pub inputs-turn : (made : List ColTy) (new : Rows) → IsTyped tables (Union whole) → ((found : List ColTy) → begun columns input_columns ≡ Some found → made ≡ found) → together rows others ≡ new → InputsLeft tables whole rest (Some made) new
    inputs-turn made new typed same sum = record {
      typed = common_so_far columns made typed.0 (left_typed typed.0 typed.1) same ∙ sym typed.1;
      answered = ap (λ (r : Rows). plus (Some r) (answers tables rest)) (sym sum) ∙ summed;
      narrow = ap (λ b. b || any_wide tables rest) (sym part.narrow) ∙ ap (any_wide tables) (sym more) ∙ before.narrow;
    }

-- where all inputs have come
pub inputs-end : (tables : List Table) (whole left : Rels) (columns : Option (List ColTy)) (rows : Rows) (made : List ColTy) → left ≡ no_rels → InputsLeft tables whole left columns rows → IsTyped tables (Union whole) → IsFew rows
    → ((found : List ColTy) → columns ≡ Some found → made ≡ found) → IsPart tables (Union whole) made rows
inputs-end tables whole left columns rows made e before typed few same =
    let all : answers tables whole ≡ Some rows = sym before.answered ∙ ap (λ (l : Rels). plus (Some rows) (answers tables l)) e ∙ plus-none-right row_total row_exact (Some rows) in
    record {
      typed = go columns (ap (columns_left (types_in tables) columns) (sym e) ∙ before.typed ∙ typed.1) same;
      answered = all;
      narrow = narrow-whole tables (answers tables whole) rows (any_wide tables whole) all few (sym before.narrow ∙ ap (any_wide tables) e);
    }
  where
    go : (o : Option (List ColTy)) → columns_left (types_in tables) o no_rels ≡ Some typed.0 → ((found : List ColTy) → o ≡ Some found → made ≡ found) → union_columns (types_in tables) whole ≡ Some made
    go None h s = absurd (cc)
    go (Some so_far) h s = typed.1 ∙ sym h ∙ ap Some (sym (s so_far refl))
