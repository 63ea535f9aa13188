-- Answers that are out of range are so at rows with a property.
use Rattle.std.specs.Prelude.{◌≡◌, List, ◌++◌}
use Rattle.std.proofs.Common.{Ok, Err}
use Rattle.ct_value.specs.declared.row.Row.{Row}
use Rattle.ct_change.specs.declared.change.Change.{Change}
use Rattle.op_rules.specs.Rules.{Answer, appended}

pub not_err : {A : Type 0} (xs : List Change) (row : Row) → (let r : Answer = Ok xs in r ≡ Err row) → A
not_err xs row e = absurd (cc (e))

pub err_same : (row other : Row) → (let r : Answer = Err row in r ≡ Err other) → row ≡ other
err_same row other e = cc (e)

module _ (P : Row → Type 0) where
  -- an answer that is out of range is so at a row with the property
  abbrev pub OutsAt : Answer → Type 0
  OutsAt answer = (row : Row) → answer ≡ Err row → P row

  pub outs_both : (a b : Answer) → OutsAt a → OutsAt b → OutsAt (appended a b)
  outs_both (Ok xs) (Ok ys) h k row e = not_err (xs ++ ys) row e
  outs_both (Ok xs) (Err other) h k row e = k row e
  outs_both (Err other) b h k row e = h row e
