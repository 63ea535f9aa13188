-- How many more rows have come than gone, in what partial rows amount to, and the results of the calls.
use Rattle.std.proofs.Common.{◌≡◌, ◌==◌, ◌&&◌, ◌++◌, Bool, true, false, cond, List, Option, Some, None, suc, refl, sym, ap, ◌∙◌, arith, map, drop}
use Rattle.std.specs.Prelude.{ℤ, pos, negsuc, unsigned_abs, is_some, option_map}
use Rattle.std.proofs.lemmas.Bool.{false≢true, and_parts, eqb-true}
use Rattle.ct_value.specs.Order.{number_of}
use Rattle.ct_value.specs.declared.row.Row.{Row}
use Rattle.ct_value.specs.declared.value.Value.{Value}
use Rattle.ct_value.specs.declared.value.Value.TheVariants.{Num}
use Rattle.ct_field.specs.Typed.{cell}
use Rattle.rel_algebra.specs.Clauses.{collect}
use Rattle.agg_fns.specs.Reading.{summed, is_blank}
use Rattle.agg_fns.proofs.laws.Readings.{blank_adds, zero_blank}
use Rattle.phase_rules.specs.LocalGrouping.{LocalGrouping}
use Rattle.phase_rules.specs.Merging.{merged, results_from, row_from}
use Rattle.op_merge.specs.declared.kept.Kept.{Kept}
use Rattle.op_merge.specs.declared.merger.Merger.{Merger}
use Rattle.op_merge.specs.Kept.{IsKept, calls}
use Rattle.op_merge.proofs.Partials.{values}

abs_zero : (n : ℤ) → (unsigned_abs n == 0) ≡ true → n ≡ pos 0
abs_zero (pos n) e = ap pos (eqb-true n 0 e)
abs_zero (negsuc n) e = absurd (let z = eqb-true (suc n) 0 e in omega arith)

-- what a counter tells of its number
module _ (n : ℤ) (told : Bool) (is : told ≡ (is_blank summed (Num n) && true)) where
  pub no_rows : told ≡ true → (unsigned_abs n == 0) ≡ true
  no_rows t = ap (λ m. unsigned_abs m == 0) ((blank_adds summed (Num n) (and_parts (is_blank summed (Num n)) true (sym is ∙ t)).0).0)

  pub some_rows : told ≡ false → (unsigned_abs n == 0) ≡ false
  some_rows f =
      elim (unsigned_abs n == 0) as (λ b. (unsigned_abs n == 0) ≡ b → b ≡ false) [
        | true ↦ λ e. absurd (false≢true (sym f ∙ is ∙ ap (λ b. b && true) (zero_blank n (sym (abs_zero n e)))))
        | false ↦ λ e. refl
      ] refl

  pub not_nothing : (rest : Bool) → told ≡ false → false ≡ (is_blank summed (Num n) && rest)
  not_nothing rest f = go (is_blank summed (Num n)) (sym is ∙ f)
    where
      go : (b : Bool) → (b && true) ≡ false → false ≡ (b && rest)
      go true e = absurd (cc)
      go false e = refl

  pub as_the_rest : (rest other : Bool) → told ≡ true → other ≡ rest → other ≡ (is_blank summed (Num n) && rest)
  as_the_rest rest other t e = e ∙ sym (ap (λ b. b && rest) (and_parts (is_blank summed (Num n)) true (sym is ∙ t)).0)

-- the results of the calls, as those of the grouping
pub results_are : (l : LocalGrouping) (rows : List (List Value)) (kept : Kept) (key made row : Row) (items : List Merger) → IsKept l kept rows → made ≡ key → items ≡ kept.mergers.items
    → option_map (λ more. made ++ more) (collect (values l.columns (calls items) (map (λ r. drop 1 r) rows))) ≡ Some row → option_map (λ more. key ++ more) (results_from l.columns l.aggs (merged l.aggs rows)) ≡ Some row
results_are l rows kept key made row items is same are e =
    (λ i. option_map (λ more. (sym same) i ++ more) (collect (values l.columns ((sym (ap calls are ∙ is.calls_are)) i) (map (λ r. drop 1 r) rows)))) ∙ e

pub some_results : (key row : Row) (o : Option Row) → option_map (λ more. key ++ more) o ≡ Some row → is_some o ≡ true
some_results key row None e = absurd (cc)
some_results key row (Some values) e = refl

-- where a call is out of range there is no row
pub no_row : (l : LocalGrouping) (key : Row) (amounts : List Value) → is_some (results_from l.columns l.aggs amounts) ≡ false → (let none : Option Row = None in none ≡ row_from l key amounts)
no_row l key amounts e = go (unsigned_abs (number_of (cell 0 amounts)) == 0) (results_from l.columns l.aggs amounts) e
  where
    go : (b : Bool) (o : Option Row) → is_some o ≡ false → (let none : Option Row = None in none ≡ cond b None (option_map (λ values. key ++ values) o))
    go true o f = refl
    go false None f = refl
    go false (Some values) f = absurd (cc)
