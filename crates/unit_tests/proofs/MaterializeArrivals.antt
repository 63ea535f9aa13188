-- What a materializer took, after one more change.
use Rattle.std.proofs.Common.{◌≡◌, ℕ, ◌+◌, List, [], ◌∷◌, ◌++◌, length, refl, sym, ap, subst, ◌∙◌, arith}
use Rattle.std.proofs.lemmas.List.{length-append}
use Rattle.ct_change.specs.declared.change.Change.{Change}
use Rattle.ct_change.specs.Changelog.{retract, Rows, apply, fold, MayCome}
use Rattle.ct_change.proofs.laws.Folds.{fold-push}
use Rattle.op_rules.specs.History.{Arrival, arrival, at_port}
use Rattle.op_rules.specs.Rules.{Rule, MayArrive}
use Rattle.op_rules.proofs.laws.Histories.{at_port-push}
use Rattle.emission_rules.specs.Materialize.{materialize_rule}

-- a materializer by the first column stands for so many arrivals, which leave these rows
abbrev pub Fed : (rule : Rule) (stands_for : List Arrival → Type 0) (standing : Rows) (taken : ℕ) → Type 0
Fed rule stands_for standing taken = (before : List Arrival) × (rule ≡ materialize_rule (0 ∷ [])) × stands_for before × (standing ≡ fold retract (at_port 0 before)) × (length before ≡ taken)

-- a row of two columns may come where it may come to a bag
pub pair_may : (rule : Rule) (before : List Arrival) (change : Change) → rule ≡ materialize_rule (0 ∷ []) → length change.row ≡ 2 → MayCome retract (fold retract (at_port 0 before)) change → MayArrive rule before (arrival 0 0 change)
pair_may rule before change is wide may =
    subst (λ r. MayArrive r before (arrival 0 0 change)) (sym is) record {
      port = omega arith;
      change = may;
      fits = rw wide refl;
      key = tt;
    }

module _ (rule : Rule) (stands_for : List Arrival → Type 0) (standing : Rows) (taken : ℕ) (fed : Fed rule stands_for standing taken) (change : Change) where
  pub arrives : MayCome retract standing change → length change.row ≡ 2 → MayArrive rule fed.0 (arrival 0 0 change)
  arrives may wide = pair_may rule fed.0 change fed.1 wide (subst (λ rows. MayCome retract rows change) fed.3 may)

  pub fed_more : (new : Rule) (stands_for_new : List Arrival → Type 0) (rows : Rows) → new ≡ rule → rows ≡ apply retract standing change → stands_for_new (fed.0 ++ arrival 0 0 change ∷ []) → Fed new stands_for_new rows (taken + 1)
  fed_more new stands_for_new rows same is stands = (
    fed.0 ++ arrival 0 0 change ∷ [],
    same ∙ fed.1,
    stands,
    is ∙ ap (λ r. apply retract r change) fed.3 ∙ sym (ap (fold retract) (at_port-push 0 fed.0 (arrival 0 0 change) refl) ∙ fold-push retract (at_port 0 fed.0) change),
    length-append fed.0 (arrival 0 0 change ∷ []) ∙ ap (λ n. n + 1) fed.4,
  )
