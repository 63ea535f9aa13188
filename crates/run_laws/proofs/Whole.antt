-- What is known of the row of a change that came at a port: it has the port's columns where it is told whole, and a group's key has
-- them also where a key alone is told.
use Rattle.std.specs.Prelude.{◌≡◌, ◌+◌, ◌<◌, ◌≤◌, ◌||◌, ℕ, Bool, cond, not, List, length, take, slice_index_or}
use Rattle.std.proofs.Common.{zero, suc, true, false, [], ◌∷◌, refl, sym, ap, subst, ◌∙◌, arith, Some}
use Rattle.std.proofs.lemmas.Bool.{and_parts, and_from}
use Rattle.ct_value.specs.declared.row.Row.{Row}
use Rattle.ct_value.specs.declared.ty.ColTy.{ColTy}
use Rattle.ct_value.specs.declared.value.Value.{Value}
use Rattle.ct_value.specs.declared.value.Value.TheVariants.{Null, Bool as Truth}
use Rattle.ct_field.specs.Typed.{col_fits, row_fits}
use Rattle.ct_change.specs.declared.change.Change.{Change}
use Rattle.ct_change.specs.Changelog.{Mode, append, retract, upsert, adds}
use Rattle.ct_change.specs.KeyRows.{is_among, key_row}
use Rattle.ct_change.proofs.laws.KeyRows.{cell-key_row, key_stays, length-key_row}
use Rattle.op_rules.specs.Edges.{Meaning, bag, last_rows, partials}
use Rattle.op_rules.specs.Ports.{IsReadIn}
use Rattle.stream_model.specs.KeysTold.{is_told, nullable_outside, told_fits}
use Rattle.emission_rules.specs.Arriving.{is_whole}
use Rattle.emission_rules.specs.Grouping.{KeepsGroups}
use Rattle.plan_rules.specs.Plans.{change_fits, key_alone}

abbrev pub Fit : List ColTy → Row → Type 0
Fit columns row = row_fits columns row ≡ true

-- ---- rows that are told whole

pub whole_fits : (meaning : Meaning) (mode : Mode) (columns : List ColTy) (change : Change) → IsReadIn meaning mode → change_fits meaning columns change ≡ true → is_whole mode change.kind ≡ true → Fit columns change.row
whole_fits bag append columns change reads fits whole = fits
whole_fits bag retract columns change reads fits whole = fits
whole_fits bag (upsert key) columns change reads fits whole = absurd reads
whole_fits (last_rows own) append columns change reads fits whole = absurd reads
whole_fits (last_rows own) retract columns change reads fits whole = absurd reads
whole_fits (last_rows own) (upsert key) columns change reads fits whole = subst (λ b. told_fits (key_alone (Some own) b) columns change.row ≡ true) whole fits
whole_fits (partials p) append columns change reads fits whole = fits
whole_fits (partials p) retract columns change reads fits whole = absurd reads
whole_fits (partials p) (upsert key) columns change reads fits whole = absurd reads

-- ---- the first columns

pub first_fit : (keys : ℕ) (columns : List ColTy) (row : List Value) → row_fits columns row ≡ true → row_fits (take keys columns) (take keys row) ≡ true
first_fit zero columns row h = refl
first_fit (suc keys) [] [] h = refl
first_fit (suc keys) [] (v ∷ vs) h = absurd (cc (h))
first_fit (suc keys) (col ∷ cols) [] h = absurd (cc (h))
first_fit (suc keys) (col ∷ cols) (v ∷ vs) h =
    let p = and_parts (col_fits col v) (row_fits cols vs) h in
    and_from (col_fits col v) (row_fits (take keys cols) (take keys vs)) p.0 (first_fit keys cols vs p.1)

or_false : (b : Bool) → (b || false) ≡ b
or_false true = refl
or_false false = refl

-- a column of the key, as the key row has it
own_fits : (col : ColTy) (v : Value) (b : Bool) → b ≡ true → col_fits (record { ty = col.ty; nullable = col.nullable || not b }) v ≡ true → col_fits col v ≡ true
own_fits col v b is h = subst (λ (n : Bool). col_fits (record { ty = col.ty; nullable = n }) v ≡ true) (ap (λ x. col.nullable || not x) is ∙ or_false col.nullable) h

-- first columns of a key row fit as they do of a whole row, where all of them are the key's
first_told : (key : List ℕ) (from keys : ℕ) (columns : List ColTy) (row : List Value) → ((c : ℕ) → from ≤ c → c < from + keys → is_among key c ≡ true) → row_fits (nullable_outside key from columns) row ≡ true
    → row_fits (take keys columns) (take keys row) ≡ true
first_told key from zero columns row all h = refl
first_told key from (suc keys) [] [] all h = refl
first_told key from (suc keys) [] (v ∷ vs) all h = absurd (cc (h))
first_told key from (suc keys) (col ∷ cols) [] all h = absurd (cc (h))
first_told key from (suc keys) (col ∷ cols) (v ∷ vs) all h =
    let p = and_parts (col_fits (record { ty = col.ty; nullable = col.nullable || not (is_among key from) }) v) (row_fits (nullable_outside key (suc from) cols) vs) h in
    and_from (col_fits col v) (row_fits (take keys cols) (take keys vs)) (own_fits col v (is_among key from) (all from (omega arith) (omega arith)) p.0)
    (first_told key (suc from) keys cols vs (λ c above below. all c (omega (arith, above)) (omega (arith, below))) p.1)

-- ---- where rows of one key are of one group, the group's columns are the key's

trues : ℕ → List Value
trues zero = []
trues (suc n) = Truth true ∷ trues n

length-trues : (n : ℕ) → length (trues n) ≡ n
unfolding trues
length-trues zero = refl
length-trues (suc n) = ap suc (length-trues n)

cell-trues : (n c : ℕ) → c < n → slice_index_or (trues n) c Null ≡ Truth true
unfolding trues
cell-trues zero c l = absurd (omega (arith, l))
cell-trues (suc n) zero l = refl
cell-trues (suc n) (suc c) l = cell-trues n c (omega (arith, l))

cell-take : (n c : ℕ) (row : List Value) → c < n → slice_index_or (take n row) c Null ≡ slice_index_or row c Null
cell-take zero c row l = absurd (omega (arith, l))
cell-take (suc n) c [] l = refl
cell-take (suc n) zero (v ∷ row) l = refl
cell-take (suc n) (suc c) (v ∷ row) l = cell-take n c row (omega (arith, l))

true_there : (b : Bool) → cond b (Truth true) Null ≡ Truth true → b ≡ true
true_there true e = refl
true_there false e = absurd (cc (e))

group_in_key : (keys : ℕ) (key : List ℕ) → KeepsGroups keys (upsert key) → (c : ℕ) → c < keys → is_among key c ≡ true
group_in_key keys key keeps c l =
    let row = trues keys in
    let many = length-trues keys in
    let told = length-key_row key row in
    let same : take keys (key_row key row) ≡ take keys row = keeps (key_row key row) row (omega (arith, told, many)) (omega (arith, many)) (key_stays key row) in
    true_there (is_among key c)
    (ap (λ v. cond (is_among key c) v Null) (sym (cell-trues keys c l))
    ∙ (sym (cell-key_row key row c)
    ∙ (sym (cell-take keys c (key_row key row) l)
    ∙ (ap (λ (r : List Value). slice_index_or r c Null) same
    ∙ (cell-take keys c row l ∙ cell-trues keys c l)))))

group_by : (keys : ℕ) (own key : List ℕ) (columns : List ColTy) (comes : Bool) (row : Row) → KeepsGroups keys (upsert key) → own ≡ key → told_fits (key_alone (Some own) comes) columns row ≡ true → Fit (take keys columns) (take keys row)
group_by keys own key columns true row keeps same fits = first_fit keys columns row fits
group_by keys own key columns false row keeps same fits =
    first_told own 0 keys columns row (λ c above below. ap (λ (k : List ℕ). is_among k c) same ∙ group_in_key keys key keeps c (omega (arith, below)))
    (and_parts (row_fits (nullable_outside own 0 columns) row) (is_told (Some own) row) fits).0

-- the key of the group of a change that came has its columns
pub group_fits : (meaning : Meaning) (mode : Mode) (keys : ℕ) (columns : List ColTy) (change : Change) → KeepsGroups keys mode → IsReadIn meaning mode → change_fits meaning columns change ≡ true → Fit (take keys columns) (take keys change.row)
group_fits bag mode keys columns change keeps reads fits = first_fit keys columns change.row fits
group_fits (last_rows own) append keys columns change keeps reads fits = absurd reads
group_fits (last_rows own) retract keys columns change keeps reads fits = absurd reads
group_fits (last_rows own) (upsert key) keys columns change keeps reads fits = group_by keys own key columns (adds change.kind) change.row keeps reads fits
group_fits (partials p) mode keys columns change keeps reads fits = first_fit keys columns change.row fits
