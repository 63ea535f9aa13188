-- Worked histories: a join, what comes on which side, and what is emitted, or the joined row at which it is out of range.
use Rattle.std.specs.Prelude.{ℕ, pos, true, false, List, [], ◌∷◌, codes, Option, Some, None, Ok, Err}
use Rattle.ct_value.specs.declared.row.Row.{Row}
use Rattle.ct_value.specs.declared.ty.ColTy.{ColTy}
use Rattle.ct_value.specs.declared.ty.Ty.{Ty}
use Rattle.ct_value.specs.declared.ty.Ty.TheVariants.{Int, Text as Texts}
use Rattle.ct_value.specs.declared.value.CompareOp.TheVariants.{Gt}
use Rattle.ct_value.specs.declared.value.Value.{Value}
use Rattle.ct_value.specs.declared.value.Value.TheVariants.{Null, Num, Text}
use Rattle.ct_change.specs.declared.kind.Kind.{Kind}
use Rattle.ct_change.specs.declared.kind.Kind.TheVariants.{I, UB, UA, D}
use Rattle.ct_change.specs.declared.change.Change.{Change}
use Rattle.ct_change.specs.Changelog.{Mode, retract, upsert}
use Rattle.ct_expr.specs.declared.expr.ArithOp.TheVariants.{Add}
use Rattle.ct_expr.specs.Expr.{Expr, Column, Literal, Arith, Compare}
use Rattle.rel_algebra.specs.declared.join.JoinKind.TheVariants.{Inner, Left, Full}
use Rattle.op_rules.specs.Rules.{Answer}
use Rattle.emission_rules.specs.Joining.{Shape, joins, matched, Joining}
use Rattle.run_examples.specs.JoinsListed.{Coming, to_left, to_right}

pub record Example : Type 0 where
  pub joining : Joining
  -- what comes to which side
  pub came : List Coming
  pub sends : Answer

-- ---- words

abbrev pub n : ℕ → Value
n k = Num (pos k)

abbrev pub t : List ℕ → Value
t word = Text word

abbrev pub change : Kind → Row → Change
change kind row = record { kind = kind; row = row }

abbrev pub at_left : Kind → Row → Coming
at_left kind row = to_left (change kind row)

abbrev pub at_right : Kind → Row → Coming
at_right kind row = to_right (change kind row)

abbrev pub col : Ty → ColTy
col ty = record { ty = ty; nullable = true }

-- two numbers on the left; a number and a text on the right; the left's second column equals the right's first
abbrev pub by_number : Shape → Option Expr → Mode → Joining
by_number shape rest mode = record {
  shape = shape;
  on = record { left = 1; right = 0 } ∷ [];
  rest = rest;
  left_columns = col Int ∷ col Int ∷ [];
  right_columns = col Int ∷ col Texts ∷ [];
  left = mode;
  right = retract;
}

-- two numbers on each side, the first ones of which are equal
abbrev pub by_first : Shape → Joining
by_first shape = record {
  shape = shape;
  on = record { left = 0; right = 0 } ∷ [];
  rest = None;
  left_columns = col Int ∷ col Int ∷ [];
  right_columns = col Int ∷ col Int ∷ [];
  left = retract;
  right = retract;
}

abbrev pub x : Value
x = t (codes "x")

abbrev pub largest : ℕ
largest = 2147483647

-- the left's first column and 1 together are above 1
abbrev pub sum_above_one : Expr
sum_above_one = Compare Gt (Arith Add (Column 0 Int) (Literal (n 1) Int)) (Literal (n 1) Int)

abbrev pub examples : List Example
examples =
    -- a left row without a match, its first match, and its last match gone
    record {
      joining = by_number (joins Left) None retract;
      came = at_left I (n 1 ∷ n 5 ∷ []) ∷ at_right I (n 5 ∷ x ∷ []) ∷ at_right D (n 5 ∷ x ∷ []) ∷ [];
      sends = Ok (
          change I (n 1 ∷ n 5 ∷ Null ∷ Null ∷ [])
          ∷ change D (n 1 ∷ n 5 ∷ Null ∷ Null ∷ []) ∷ change I (n 1 ∷ n 5 ∷ n 5 ∷ x ∷ [])
          ∷ change D (n 1 ∷ n 5 ∷ n 5 ∷ x ∷ []) ∷ change I (n 1 ∷ n 5 ∷ Null ∷ Null ∷ []) ∷ []);
    }
    -- two copies of a left row, and two of its match: only the first match takes the padded rows away
    ∷ record {
      joining = by_number (joins Left) None retract;
      came = at_left I (n 1 ∷ n 5 ∷ []) ∷ at_left I (n 1 ∷ n 5 ∷ []) ∷ at_right I (n 5 ∷ x ∷ []) ∷ at_right I (n 5 ∷ x ∷ []) ∷ at_left D (n 1 ∷ n 5 ∷ []) ∷ [];
      sends = Ok (
          change I (n 1 ∷ n 5 ∷ Null ∷ Null ∷ []) ∷ change I (n 1 ∷ n 5 ∷ Null ∷ Null ∷ [])
          ∷ change D (n 1 ∷ n 5 ∷ Null ∷ Null ∷ []) ∷ change I (n 1 ∷ n 5 ∷ n 5 ∷ x ∷ []) ∷ change D (n 1 ∷ n 5 ∷ Null ∷ Null ∷ []) ∷ change I (n 1 ∷ n 5 ∷ n 5 ∷ x ∷ [])
          ∷ change I (n 1 ∷ n 5 ∷ n 5 ∷ x ∷ []) ∷ change I (n 1 ∷ n 5 ∷ n 5 ∷ x ∷ [])
          ∷ change D (n 1 ∷ n 5 ∷ n 5 ∷ x ∷ []) ∷ change D (n 1 ∷ n 5 ∷ n 5 ∷ x ∷ []) ∷ []);
    }
    -- an inner join hands an update on
    ∷ record {
      joining = by_number (joins Inner) None retract;
      came = at_right I (n 1 ∷ t (codes "Rome") ∷ []) ∷ at_right I (n 2 ∷ t (codes "Oslo") ∷ []) ∷ at_left I (n 7 ∷ n 1 ∷ []) ∷ at_left UB (n 7 ∷ n 1 ∷ []) ∷ at_left UA (n 7 ∷ n 2 ∷ []) ∷ [];
      sends = Ok (
          change I (n 7 ∷ n 1 ∷ n 1 ∷ t (codes "Rome") ∷ [])
          ∷ change UB (n 7 ∷ n 1 ∷ n 1 ∷ t (codes "Rome") ∷ []) ∷ change UA (n 7 ∷ n 2 ∷ n 2 ∷ t (codes "Oslo") ∷ []) ∷ []);
    }
    -- NULL in a key meets nothing, not even another NULL
    ∷ record {
      joining = by_first (joins Full);
      came = at_left I (Null ∷ n 1 ∷ []) ∷ at_right I (Null ∷ n 1 ∷ []) ∷ [];
      sends = Ok (change I (Null ∷ n 1 ∷ Null ∷ Null ∷ []) ∷ change I (Null ∷ Null ∷ Null ∷ n 1 ∷ []) ∷ []);
    }
    -- a full join pads both sides
    ∷ record {
      joining = by_first (joins Full);
      came = at_right I (n 1 ∷ n 3 ∷ []) ∷ at_left I (n 1 ∷ n 2 ∷ []) ∷ at_right D (n 1 ∷ n 3 ∷ []) ∷ [];
      sends = Ok (
          change I (Null ∷ Null ∷ n 1 ∷ n 3 ∷ [])
          ∷ change D (Null ∷ Null ∷ n 1 ∷ n 3 ∷ []) ∷ change I (n 1 ∷ n 2 ∷ n 1 ∷ n 3 ∷ [])
          ∷ change D (n 1 ∷ n 2 ∷ n 1 ∷ n 3 ∷ []) ∷ change I (n 1 ∷ n 2 ∷ Null ∷ Null ∷ []) ∷ []);
    }
    -- an after-only side: the old row goes, and the new one comes
    ∷ record {
      joining = by_number (joins Left) None (upsert (1 ∷ []));
      came = at_left I (n 1 ∷ n 5 ∷ []) ∷ at_left UA (n 2 ∷ n 5 ∷ []) ∷ at_right I (n 5 ∷ x ∷ []) ∷ at_left UA (n 3 ∷ n 5 ∷ []) ∷ at_left D (n 9 ∷ n 5 ∷ []) ∷ [];
      sends = Ok (
          change I (n 1 ∷ n 5 ∷ Null ∷ Null ∷ [])
          ∷ change D (n 1 ∷ n 5 ∷ Null ∷ Null ∷ []) ∷ change I (n 2 ∷ n 5 ∷ Null ∷ Null ∷ [])
          ∷ change D (n 2 ∷ n 5 ∷ Null ∷ Null ∷ []) ∷ change I (n 2 ∷ n 5 ∷ n 5 ∷ x ∷ [])
          ∷ change D (n 2 ∷ n 5 ∷ n 5 ∷ x ∷ []) ∷ change I (n 3 ∷ n 5 ∷ n 5 ∷ x ∷ [])
          ∷ change D (n 3 ∷ n 5 ∷ n 5 ∷ x ∷ []) ∷ []);
    }
    -- a row is kept once, however many matches it has, and goes with the last of them
    ∷ record {
      joining = by_number (matched false) None retract;
      came = at_left I (n 1 ∷ n 5 ∷ []) ∷ at_right I (n 5 ∷ x ∷ []) ∷ at_right I (n 5 ∷ x ∷ []) ∷ at_right D (n 5 ∷ x ∷ []) ∷ at_right D (n 5 ∷ x ∷ []) ∷ [];
      sends = Ok (change I (n 1 ∷ n 5 ∷ []) ∷ change D (n 1 ∷ n 5 ∷ []) ∷ []);
    }
    -- an anti join keeps it as long as it has none
    ∷ record {
      joining = by_number (matched true) None retract;
      came = at_left I (n 1 ∷ n 5 ∷ []) ∷ at_right I (n 5 ∷ x ∷ []) ∷ at_right I (n 5 ∷ x ∷ []) ∷ at_right D (n 5 ∷ x ∷ []) ∷ at_right D (n 5 ∷ x ∷ []) ∷ at_left I (n 2 ∷ Null ∷ []) ∷ [];
      sends = Ok (change I (n 1 ∷ n 5 ∷ []) ∷ change D (n 1 ∷ n 5 ∷ []) ∷ change I (n 1 ∷ n 5 ∷ []) ∷ change I (n 2 ∷ Null ∷ []) ∷ []);
    }
    -- the rest is evaluated on pairs that agree, and on no others
    ∷ record {
      joining = by_number (joins Inner) (Some sum_above_one) retract;
      came = at_right I (n 5 ∷ x ∷ []) ∷ at_left I (n largest ∷ n 6 ∷ []) ∷ at_left I (n 0 ∷ n 5 ∷ []) ∷ at_left I (n largest ∷ n 5 ∷ []) ∷ [];
      sends = Err (n largest ∷ n 5 ∷ n 5 ∷ x ∷ []);
    }
    ∷ []
