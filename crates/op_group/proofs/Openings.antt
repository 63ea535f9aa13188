-- Groups of no rows.
use Rattle.std.proofs.Common.{◌≡◌, ℕ, ◌==◌, ◌&&◌, ◌||◌, ◌++◌, Bool, true, false, cond, List, [], ◌∷◌, take, length, Option, Some, None, refl, sym, ap, subst, ◌∙◌, arith}
use Rattle.std.specs.Prelude.{pos, nat_le, not, option_map, is_some}
use Rattle.std.specs.BTreeMap.{BTreeMap, IsOrdered, IsEmpty, is_at}
use Rattle.std.specs.Map.{lookup}
use Rattle.std.proofs.lemmas.Bool.{eq-eqb}
use Rattle.ct_value.specs.Bag.{none}
use Rattle.ct_value.proofs.laws.Bags.{total-none, copies-none}
use Rattle.ct_value.specs.Order.{row_cmp, row_total, row_exact, value_cmp, value_total, value_exact}
use Rattle.ct_value.specs.declared.row.Row.{Row}
use Rattle.ct_value.specs.declared.ty.Ty.{Ty}
use Rattle.ct_value.specs.declared.ty.Ty.TheVariants.{Bool as Truths, Int, BigInt, Decimal, Text as Texts}
use Rattle.ct_value.specs.declared.ty.ColTy.{ColTy}
use Rattle.ct_field.specs.Numbers.{in_range as is_in_range, has_38_digits}
use Rattle.ct_field.specs.Typed.{is_null, is_number}
use Rattle.ct_change.specs.declared.change.Change.{Change}
use Rattle.ct_change.specs.Changelog.{Mode, same_row}
use Rattle.ct_change.specs.Emission.{emission}
use Rattle.rel_algebra.specs.declared.agg.Agg.{Agg}
use Rattle.rel_algebra.specs.declared.agg.AggCall.{AggCall}
use Rattle.rel_algebra.specs.declared.agg.AggCall.TheVariants.{CountAll, Count, CountDistinct, Sum, Min, Max, Avg}
use Rattle.rel_algebra.specs.Aggregates.{known, sum_of, sum_type, values_of, type_in, ty_or_bigint, column_if, call_type, filter_fits, arg_fits, agg_type, column_before, agg_types, sum_fits}
use Rattle.rel_algebra.proofs.laws.Aggregates.{sum_of-none}
use Rattle.rel_algebra.proofs.laws.Bags.{restrict-none}
use Rattle.emission_rules.specs.Grouping.{Grouping, members, row_count, is_shown, results, row_of as row_with, group_row, opening, sums_fit, IsSound}
use Rattle.emission_rules.proofs.laws.Pieces.{counted_none}
use Rattle.op_group.specs.declared.kept.Kept.{Kept}
use Rattle.op_group.specs.declared.groups.GroupBy.{GroupBy}
use Rattle.op_group.specs.Kept.{KeptAt, all_fit, row_in}
use Rattle.op_group.specs.Groups.{IsGrouped, grouping}
use Rattle.op_group.proofs.Shifts.{values-none}

-- ---- sums of no values

sum_zero : sum_of (known none) ≡ pos 0
sum_zero = ap sum_of (restrict-none {R = value_cmp} value_total value_exact (λ value. not (is_null value))) ∙ sum_of-none

zero_fits : (ty : Ty) → is_number ty ≡ true → is_in_range (sum_type ty) (pos 0) ≡ true
zero_fits Truths e = absurd (cc)
zero_fits Int e = refl
zero_fits BigInt e = refl
zero_fits (Decimal p s) e = refl
zero_fits Texts e = absurd (cc)

number : (b : Bool) (column made : ColTy) → column_if b column ≡ Some made → b ≡ true
number true column made e = refl
number false column made e = absurd (cc)

call_fits : (gaps : Bool) (call : AggCall) (arg : Option ColTy) (made : ColTy) → call_type gaps call arg ≡ Some made → sum_fits call (ty_or_bigint arg) none ≡ true
call_fits gaps CountAll arg made e = refl
call_fits gaps Count arg made e = refl
call_fits gaps CountDistinct arg made e = refl
call_fits gaps Sum None made e = absurd (cc)
call_fits gaps Sum (Some arg) made e = ap (is_in_range (sum_type arg.ty)) sum_zero ∙ zero_fits arg.ty (number (is_number arg.ty) _ made e)
call_fits gaps Min arg made e = refl
call_fits gaps Max arg made e = refl
call_fits gaps Avg arg made e = ap has_38_digits sum_zero

agg_fits : (columns : List ColTy) (global : Bool) (agg : Agg) (made : ColTy) → agg_type columns global agg ≡ Some made → sum_fits agg.call (ty_or_bigint (type_in columns agg.arg)) (values_of agg none) ≡ true
agg_fits columns global agg made e =
    ap (sum_fits agg.call (ty_or_bigint (type_in columns agg.arg))) (values-none agg)
    ∙ elim (filter_fits columns agg.filter && arg_fits columns agg.arg) as (λ b. cond b (call_type (global || is_some agg.filter) agg.call (type_in columns agg.arg)) None ≡ Some made → sum_fits agg.call (ty_or_bigint (type_in columns agg.arg)) none ≡ true) [
      | true ↦ λ t. call_fits (global || is_some agg.filter) agg.call (type_in columns agg.arg) made t
      | false ↦ λ t. absurd (cc)
    ] e

both : (a b : Bool) → a ≡ true → b ≡ true → (a && b) ≡ true
both true b e f = f
both false b e f = e

all_fits : (columns : List ColTy) (global : Bool) (aggs : List Agg) (made : List ColTy) → agg_types columns global aggs ≡ Some made → all_fit columns aggs none ≡ true
all_fits columns global [] made e = refl
all_fits columns global (agg ∷ aggs) made e = go (agg_type columns global agg) (agg_types columns global aggs) refl refl (λ others q. all_fits columns global aggs others q) e
  where
    go : (o : Option ColTy) (others : Option (List ColTy)) → agg_type columns global agg ≡ o → agg_types columns global aggs ≡ others → ((each : List ColTy) → agg_types columns global aggs ≡ Some each → all_fit columns aggs none ≡ true) → column_before o others ≡ Some made → all_fit columns (agg ∷ aggs) none ≡ true
    go None others p q rest h = absurd (cc)
    go (Some column) None p q rest h = absurd (cc)
    go (Some column) (Some each) p q rest h =
        both (sum_fits agg.call (ty_or_bigint (type_in columns agg.arg)) (values_of agg none)) (all_fit columns aggs none) (agg_fits columns global agg column p) (rest each q)

pub sums_fit_none : (g : Grouping) → IsSound g → sums_fit g none ≡ true
sums_fit_none g sound = go (nat_le g.keys (length g.columns)) (agg_types g.columns (g.keys == 0) g.aggs) refl sound.typed
  where
    go : (b : Bool) (o : Option (List ColTy)) → agg_types g.columns (g.keys == 0) g.aggs ≡ o → cond b (option_map (λ made. take g.keys g.columns ++ made) o) None ≡ Some sound.made → sums_fit g none ≡ true
    go true None p e = absurd (cc)
    go true (Some made) p e = all_fits g.columns (g.keys == 0) g.aggs made p
    go false o p e = absurd (cc)

-- ---- as what is kept

pub members-none : (g : Grouping) (key : Row) → members g key none ≡ none
members-none g key = restrict-none {R = row_cmp} row_total row_exact (λ row. same_row key (take g.keys row))

pub grouped_none : (by : GroupBy) (g : Grouping) (groups : BTreeMap Row Kept) → IsSound g → IsOrdered row_cmp groups → IsEmpty groups → IsGrouped by g none groups 0
grouped_none by g groups sound ordered empty = record {
  kept = record { ordered = ordered; each = λ key. subst (KeptAt by.tys by.aggs by.retracting (members g key none)) (sym (ap (lookup (is_at (row_cmp key))) empty)) (ap row_count (members-none g key) ∙ total-none {R = row_cmp} row_total (λ _. 1)) };
  fit = λ key. ap (sums_fit g) (members-none g key) ∙ sums_fit_none g sound;
  counted = λ key. ap (λ m. is_some (results g m)) (members-none g key) ∙ counted_none g.columns g.aggs;
  wide = λ row there. absurd (let e = copies-none row_total row in omega arith);
  few = let e = total-none {R = row_cmp} row_total (λ _. 1) in omega arith;
}

-- ---- as what is emitted when the job opens

pub opens : (by : GroupBy) (input output : Mode) (subtask : ℕ) (sent : List Change) (fresh : Option Row) → by.keys ≡ 0 → subtask ≡ 0 → fresh ≡ row_in by.keys by.tys by.aggs [] none → sent ≡ emission output None fresh
    → sent ≡ opening (grouping by input output) subtask
opens by input output subtask sent fresh global first is e =
    let g = grouping by input output in
    let row : group_row g none [] ≡ fresh = ap (λ r. cond (is_shown g r) (row_with g [] r) None) (members-none g []) ∙ sym is in
    e ∙ sym (
    ap (λ b. cond b (cond (subtask == 0) (emission output None (group_row g none [])) []) []) (eq-eqb by.keys 0 global)
    ∙ ap (λ b. cond b (emission output None (group_row g none [])) []) (eq-eqb subtask 0 first) ∙ ap (emission output None) row)
