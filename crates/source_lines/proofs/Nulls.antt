-- NULL in columns that may not hold it, column by column.
use Rattle.std.proofs.Common.{◌≡◌, ◌<◌, ◌≤◌, ◌+◌, ◌∙◌, ◌||◌, not, ℕ, zero, suc, Bool, true, false, cond, List, [], ◌∷◌, length, map, drop, get_or, Option, Some, None, refl, sym, ap, arith}
use Rattle.std.proofs.lemmas.Bool.{eq-eqb, ne_eqb}
use Rattle.std.proofs.lemmas.List.{drop_all, drop_more}
use Rattle.std.specs.List.{filter}
use Rattle.std.specs.Prelude.{slice_get}
use Rattle.ct_value.specs.declared.row.Row.{Row}
use Rattle.ct_value.specs.declared.value.Value.{Value}
use Rattle.ct_value.specs.declared.value.Value.TheVariants.{Null}
use Rattle.ct_value.specs.declared.codes.ChangeCode.{ChangeCode}
use Rattle.ct_value.specs.declared.codes.ChangeCode.TheVariants.{NullNotAllowed}
use Rattle.ct_field.specs.Typed.{is_null, cell}
use Rattle.ct_catalog.specs.declared.table.ColDef.{ColDef}
use Rattle.ct_change.specs.KeyRows.{is_among}
use Rattle.stream_model.specs.Tables.{null_refusal}
use Rattle.plan_rules.specs.Plans.{required_from}

-- the refusal by the columns from one on
abbrev pub null_left : List ColDef → Row → ℕ → Option ChangeCode
null_left cols row i = null_refusal (required_from i (map (λ c. c.ty) (drop i cols))) row

null_next : (cols : List ColDef) (row : Row) (i : ℕ) (col : ColDef) → i < length cols → col ≡ get_or cols i col
    → null_left cols row i ≡ null_refusal (cond col.ty.nullable (required_from (suc i) (map (λ c. c.ty) (drop (i + 1) cols))) (i ∷ required_from (suc i) (map (λ c. c.ty) (drop (i + 1) cols)))) row
null_next cols row i col h e = ap (λ (cs : List ColDef). null_refusal (required_from i (map (λ c. c.ty) cs)) row) (drop_more cols i col h ∙ ap (λ (c : ColDef). c ∷ drop (i + 1) cols) (sym e))

null_behind : (cols : List ColDef) (row : Row) (i : ℕ) → null_refusal (required_from (suc i) (map (λ c. c.ty) (drop (i + 1) cols))) row ≡ null_left cols row (i + 1)
null_behind cols row i = let e : suc i ≡ i + 1 = omega arith in ap (λ k. null_refusal (required_from k (map (λ c. c.ty) (drop (i + 1) cols))) row) e

-- a column that may hold NULL
pub null_allowed : (cols : List ColDef) (row : Row) (i : ℕ) (col : ColDef) → i < length cols → col ≡ get_or cols i col → col.ty.nullable ≡ true
    → null_left cols row i ≡ null_left cols row (i + 1)
null_allowed cols row i col h e n = null_next cols row i col h e ∙ rw n (null_behind cols row i)

-- a column that may not, and doesn't
pub null_absent : (cols : List ColDef) (row : Row) (i : ℕ) (col : ColDef) → i < length cols → col ≡ get_or cols i col → col.ty.nullable ≡ false → is_null (cell i row) ≡ false
    → null_left cols row i ≡ null_left cols row (i + 1)
null_absent cols row i col h e n v = null_next cols row i col h e ∙ rw n (rw v (null_behind cols row i))

-- a column that may not, and does
pub null_found : (cols : List ColDef) (row : Row) (i : ℕ) (col : ColDef) → i < length cols → col ≡ get_or cols i col → col.ty.nullable ≡ false → is_null (cell i row) ≡ true
    → null_left cols row i ≡ Some (NullNotAllowed (i + 1))
null_found cols row i col h e n v = null_next cols row i col h e ∙ rw n (rw v refl)

-- no column is left behind the last
pub null_none : (cols : List ColDef) (row : Row) (i : ℕ) → i ≡ length cols → null_left cols row i ≡ None
null_none cols row i e = ap (λ (cs : List ColDef). null_refusal (required_from i (map (λ c. c.ty) cs)) row) (drop_all i cols (omega (arith, e)))

-- ---- the columns of a key that is told alone

abbrev pub required : List ColDef → List ℕ
required cols = required_from 0 (map (λ c. c.ty) cols)

-- the refusal by the key's columns from one on
abbrev pub asked_left : List ColDef → List ℕ → Row → ℕ → Option ChangeCode
asked_left cols key row i = null_refusal (filter (is_among (required cols)) (drop i key)) row

asked_next : (cols : List ColDef) (key : List ℕ) (row : Row) (i : ℕ) (b : Bool) → i < length key → is_among (required cols) (get_or key i 0) ≡ b
    → asked_left cols key row i ≡ null_refusal (cond b (get_or key i 0 ∷ filter (is_among (required cols)) (drop (i + 1) key)) (filter (is_among (required cols)) (drop (i + 1) key))) row
asked_next cols key row i b h is =
    let k = get_or key i 0 in
    let rest = filter (is_among (required cols)) (drop (i + 1) key) in
    ap (λ (ks : List ℕ). null_refusal (filter (is_among (required cols)) ks) row) (drop_more key i 0 h) ∙ ap (λ t. null_refusal (cond t (k ∷ rest) rest) row) is

-- a column that may hold NULL
pub asked_allowed : (cols : List ColDef) (key : List ℕ) (row : Row) (i : ℕ) → i < length key → is_among (required cols) (get_or key i 0) ≡ false → asked_left cols key row i ≡ asked_left cols key row (i + 1)
asked_allowed cols key row i h is = asked_next cols key row i false h is

-- a column that may not, and doesn't
pub asked_absent : (cols : List ColDef) (key : List ℕ) (row : Row) (i : ℕ) → i < length key → is_among (required cols) (get_or key i 0) ≡ true → is_null (cell (get_or key i 0) row) ≡ false
    → asked_left cols key row i ≡ asked_left cols key row (i + 1)
asked_absent cols key row i h is stands =
    asked_next cols key row i true h is ∙ ap (λ t. cond t (Some (NullNotAllowed (get_or key i 0 + 1))) (asked_left cols key row (i + 1))) stands

-- a column that may not, and does
pub asked_stops : (cols : List ColDef) (key : List ℕ) (row : Row) (i : ℕ) → i < length key → is_among (required cols) (get_or key i 0) ≡ true → is_null (cell (get_or key i 0) row) ≡ true
    → asked_left cols key row i ≡ Some (NullNotAllowed (get_or key i 0 + 1))
asked_stops cols key row i h is stands =
    asked_next cols key row i true h is ∙ ap (λ t. cond t (Some (NullNotAllowed (get_or key i 0 + 1))) (asked_left cols key row (i + 1))) stands

-- no column is left behind the last
pub asked_none : (cols : List ColDef) (key : List ℕ) (row : Row) (i : ℕ) → i ≡ length key → asked_left cols key row i ≡ None
asked_none cols key row i e = ap (λ (ks : List ℕ). null_refusal (filter (is_among (required cols)) ks) row) (drop_all i key (omega (arith, e)))

-- the columns from one on are none before it
none_before : (m n : ℕ) (cols : List ColDef) → m < n → is_among (required_from n (map (λ c. c.ty) cols)) m ≡ false
none_before m n [] h = refl
none_before m n (col ∷ cols) h =
    let rest = required_from (suc n) (map (λ c. c.ty) cols) in
    let behind : is_among rest m ≡ false = none_before m (suc n) cols (omega (arith, h)) in
    elim col.ty.nullable as (λ b. is_among (cond b rest (n ∷ rest)) m ≡ false) [
      | true ↦ behind
      | false ↦ ap (λ b. b || is_among rest m) (ne_eqb n m (λ e. omega (arith, e, h))) ∙ behind
    ]

-- whether NULL may not stand in a column
required_at : (n : ℕ) (cols : List ColDef) (i : ℕ) (col : ColDef) → slice_get cols i ≡ Some col → is_among (required_from n (map (λ c. c.ty) cols)) (n + i) ≡ not col.ty.nullable
required_at n [] i col e = absurd (cc (e))
required_at n (c ∷ cols) zero col e =
    let rest = required_from (suc n) (map (λ c. c.ty) cols) in
    let same : c ≡ col = cc (e) in
    let here : n + 0 ≡ n = omega arith in
    ap (λ k. is_among (cond c.ty.nullable rest (n ∷ rest)) k) here
    ∙ elim c.ty.nullable as (λ b. is_among (cond b rest (n ∷ rest)) n ≡ not b) [
      | true ↦ none_before n (suc n) cols (omega arith)
      | false ↦ ap (λ b. b || is_among rest n) (eq-eqb n n refl)
    ]
    ∙ ap (λ (x : ColDef). not x.ty.nullable) same
required_at n (c ∷ cols) (suc i) col e =
    let rest = required_from (suc n) (map (λ c. c.ty) cols) in
    let next : n + suc i ≡ suc n + i = omega arith in
    let behind : is_among rest (n + suc i) ≡ not col.ty.nullable = ap (is_among rest) next ∙ required_at (suc n) cols i col e in
    elim c.ty.nullable as (λ b. is_among (cond b rest (n ∷ rest)) (n + suc i) ≡ not col.ty.nullable) [
      | true ↦ behind
      | false ↦ ap (λ b. b || is_among rest (n + suc i)) (ne_eqb n (n + suc i) (λ e. omega (arith, e))) ∙ behind
    ]

pub required_there : (cols : List ColDef) (i : ℕ) (col : ColDef) → slice_get cols i ≡ Some col → is_among (required cols) i ≡ not col.ty.nullable
required_there cols i col e = let here : i ≡ 0 + i = omega arith in ap (is_among (required cols)) here ∙ required_at 0 cols i col e

none_past : (n : ℕ) (cols : List ColDef) (i : ℕ) → slice_get cols i ≡ None → is_among (required_from n (map (λ c. c.ty) cols)) (n + i) ≡ false
none_past n [] i e = refl
none_past n (c ∷ cols) zero e = absurd (cc (e))
none_past n (c ∷ cols) (suc i) e =
    let rest = required_from (suc n) (map (λ c. c.ty) cols) in
    let next : n + suc i ≡ suc n + i = omega arith in
    let behind : is_among rest (n + suc i) ≡ false = ap (is_among rest) next ∙ none_past (suc n) cols i e in
    elim c.ty.nullable as (λ b. is_among (cond b rest (n ∷ rest)) (n + suc i) ≡ false) [
      | true ↦ behind
      | false ↦ ap (λ b. b || is_among rest (n + suc i)) (ne_eqb n (n + suc i) (λ e. omega (arith, e))) ∙ behind
    ]

past_end : (cols : List ColDef) (i : ℕ) → length cols ≤ i → slice_get cols i ≡ None
past_end [] i h = refl
past_end (c ∷ cols) zero h = absurd (omega (arith, h))
past_end (c ∷ cols) (suc i) h = past_end cols i (omega (arith, h))

pub required_past : (cols : List ColDef) (i : ℕ) → length cols ≤ i → is_among (required cols) i ≡ false
required_past cols i h = let here : i ≡ 0 + i = omega arith in ap (is_among (required cols)) here ∙ none_past 0 cols i (past_end cols i h)

-- ---- a row

-- NULL stands past the end of a row
pub null_past : (row : Row) (i : ℕ) → slice_get row i ≡ None → is_null (cell i row) ≡ true
null_past [] i e = refl
null_past (v ∷ vs) zero e = cc e
null_past (v ∷ vs) (suc i) e = null_past vs i e

-- the value of a column, and NULL past the end
pub cell_there : (row : Row) (i : ℕ) (value : Value) → slice_get row i ≡ Some value → value ≡ cell i row
cell_there [] i value e = cc e
cell_there (v ∷ vs) zero value e = cc e
cell_there (v ∷ vs) (suc i) value e = cell_there vs i value e

pub cell_past : (row : Row) (i : ℕ) → slice_get row i ≡ None → Null ≡ cell i row
cell_past [] i e = refl
cell_past (v ∷ vs) zero e = cc e
cell_past (v ∷ vs) (suc i) e = cell_past vs i e
