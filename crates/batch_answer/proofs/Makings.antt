-- What a node of one input, and of two, makes of its parts, and when it is out over them.
use Rattle.std.proofs.Common.{◌≡◌, List, Some, sym, ap, subst, ◌∙◌}
use Rattle.ct_value.specs.declared.ty.ColTy.{ColTy}
use Rattle.ct_change.specs.Changelog.{Rows}
use Rattle.rel_algebra.specs.Rel.{Unary, Binary, Rel, One, Two}
use Rattle.rel_algebra.specs.Batch.{unary_answer, binary_answer}
use Rattle.rel_algebra.specs.Types.{columns_of, unary_columns, binary_columns}
use Rattle.rel_algebra.specs.Answer.{Table, types_in, columns_in}
use Rattle.batch_answer.specs.Tallies.{Unfit}
use Rattle.batch_answer.specs.Parts.{IsFew, IsLost, Makes, IsOutOver, MakesOfTwo, IsOutOverTwo}
use Rattle.batch_answer.specs.Tables.{IsTyped}
use Rattle.batch_answer.proofs.Parts.{one-answered, one-narrow, one-out, one-typed, one-lost, left-lost, right-lost, columns_here, two-answered, two-narrow, two-out, two-typed, one-columns, left-columns, right-columns}

-- ---- of one input

module _ (how : Unary) where
  -- it is well-typed, and where it is out, so is the node
  input-typed : (tables : List Table) (rel : Rel) → IsTyped tables (One how rel) → IsTyped tables rel
  input-typed tables rel typed = one-columns (unary_columns how) (columns_of (types_in tables) rel) typed.0 typed.1

  pub node-lost : (tables : List Table) (rel : Rel) → IsLost tables rel → IsLost tables (One how rel)
  node-lost tables rel lost typed = one-lost tables rel (unary_answer how (columns_in tables rel)) (lost (input-typed tables rel typed))

  module _ (columns : List ColTy) (rows : Rows) where
    pub node-makes : (new_columns : List ColTy) (made : Rows) → IsFew made → ((all : List ColTy) → unary_columns how columns ≡ Some all → new_columns ≡ all) → unary_answer how columns rows ≡ Some made
        → Makes (λ rel. One how rel) columns rows new_columns made
    node-makes new_columns made few same e tables rel asked typed =
        let part = asked (input-typed tables rel typed) in
        let here : unary_answer how (columns_in tables rel) rows ≡ Some made = ap (λ (cs : List ColTy). unary_answer how cs rows) (columns_here tables rel columns rows part) ∙ e in
        record {
          typed = one-typed tables rel columns rows part (unary_columns how) new_columns typed.0 typed.1 same;
          answered = one-answered tables rel columns rows part (unary_answer how (columns_in tables rel)) made here;
          narrow = one-narrow tables rel columns rows part (unary_answer how (columns_in tables rel)) made here few;
        }

    pub node-out : Unfit (unary_answer how columns rows) → IsOutOver (λ rel. One how rel) columns rows
    node-out u tables rel asked typed =
        let part = asked (input-typed tables rel typed) in
        one-out tables rel columns rows part (unary_answer how (columns_in tables rel))
        (subst (λ (cs : List ColTy). Unfit (unary_answer how cs rows)) (sym (columns_here tables rel columns rows part)) u)

-- ---- of two

module _ (how : Binary) where
  left-typed : (tables : List Table) (rel other : Rel) → IsTyped tables (Two how rel other) → IsTyped tables rel
  left-typed tables rel other typed = left-columns (binary_columns how) (columns_of (types_in tables) rel) (columns_of (types_in tables) other) typed.0 typed.1

  right-typed : (tables : List Table) (rel other : Rel) → IsTyped tables (Two how rel other) → IsTyped tables other
  right-typed tables rel other typed = right-columns (binary_columns how) (columns_of (types_in tables) rel) (columns_of (types_in tables) other) typed.0 typed.1

  pub left-node-lost : (tables : List Table) (rel other : Rel) → IsLost tables rel → IsLost tables (Two how rel other)
  left-node-lost tables rel other lost typed = left-lost tables rel other (binary_answer how (columns_in tables rel) (columns_in tables other)) (lost (left-typed tables rel other typed))

  pub right-node-lost : (tables : List Table) (rel other : Rel) → IsLost tables other → IsLost tables (Two how rel other)
  right-node-lost tables rel other lost typed = right-lost tables rel other (binary_answer how (columns_in tables rel) (columns_in tables other)) (lost (right-typed tables rel other typed))

  module _ (left_columns : List ColTy) (left : Rows) (right_columns : List ColTy) (right : Rows) where
    pub two-makes : (new_columns : List ColTy) (made : Rows) → IsFew made → ((all : List ColTy) → binary_columns how left_columns right_columns ≡ Some all → new_columns ≡ all) → binary_answer how left_columns right_columns left right ≡ Some made
        → MakesOfTwo (λ rel other. Two how rel other) left_columns left right_columns right new_columns made
    two-makes new_columns made few same e tables rel other left_asked right_asked typed =
        let p = left_asked (left-typed tables rel other typed) in
        let q = right_asked (right-typed tables rel other typed) in
        let over = binary_answer how (columns_in tables rel) (columns_in tables other) in
        let here : over left right ≡ Some made =
        (λ i. binary_answer how (columns_here tables rel left_columns left p i) (columns_here tables other right_columns right q i) left right) ∙ e in
        record {
          typed = two-typed tables rel other left_columns left right_columns right p q (binary_columns how) new_columns typed.0 typed.1 same;
          answered = two-answered tables rel other left_columns left right_columns right p q over made here;
          narrow = two-narrow tables rel other left_columns left right_columns right p q over made here few;
        }

    pub two-node-out : Unfit (binary_answer how left_columns right_columns left right) → IsOutOverTwo (λ rel other. Two how rel other) left_columns left right_columns right
    two-node-out u tables rel other left_asked right_asked typed =
        let p = left_asked (left-typed tables rel other typed) in
        let q = right_asked (right-typed tables rel other typed) in
        two-out tables rel other left_columns left right_columns right p q (binary_answer how (columns_in tables rel) (columns_in tables other))
        (subst (λ (cs : List ColTy). Unfit (binary_answer how (columns_in tables rel) cs left right)) (sym (columns_here tables other right_columns right q))
        (subst (λ (cs : List ColTy). Unfit (binary_answer how cs right_columns left right)) (sym (columns_here tables rel left_columns left p)) u))
