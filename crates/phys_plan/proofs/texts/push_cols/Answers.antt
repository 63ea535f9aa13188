use Rattle.std.proofs.Common.{◌≡◌, ◌++◌, List, ℕ, OnOk, subst}
use Rattle.phys_plan.specs.Explained as e
use Rattle.phys_plan.proofs.Names.{from_zero}
use Rattle.phys_plan.proofs.texts.push_cols.Goals as goal

pub returns : goal.returns
returns c =
    subst (λ (ns : List ℕ). OnOk c.push_numbers.result (c.push_numbers.new.text ≡ c.args.text.now ++ e.numbers ns)) (from_zero c.args.cols.now) c.push_numbers.ensures
