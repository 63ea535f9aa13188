-- Sets of columns: rows that agree on one set of columns agree on another that has no others.
use Rattle.std.specs.Prelude.{◌≡◌, ℕ, ◌+◌, ◌⊎◌, ◌==◌, List, ◌++◌, slice_index_or}
use Rattle.std.proofs.Common.{true, [], ◌∷◌, refl, subst, inr, ⊎_elim, arith}
use Rattle.std.proofs.lemmas.Bool.{and_parts, eqb-true}
use Rattle.std.proofs.lemmas.List.Elements.{Contains-append_left, Contains-append_right}
use Rattle.std.proofs.lemmas.Map.Lookups.{exact_unsigned}
use Rattle.std.specs.List.{Contains, list_any}
use Rattle.std.specs.Ordering.{nat_cmp}
use Rattle.ct_value.specs.Rows.{project}
use Rattle.ct_value.specs.declared.row.Row.{Row}
use Rattle.ct_value.specs.declared.value.Value.{Value}
use Rattle.ct_value.specs.declared.value.Value.TheVariants.{Null}
use Rattle.op_rules.specs.Edges.{LiesIn}
use Rattle.column_sets.specs.Sets.{set_of, union, is_within, same_set}
use Rattle.column_sets.specs.Places.{shift}
use Rattle.sound_plans.proofs.laws.Members.{none, here, there, first_or, of_append, of_map, in_map, of_sorted, in_sorted, one_passes, each_passes}

-- ---- which columns a set has

-- the one has no column that the other hasn't
abbrev pub IsPart : List ℕ → List ℕ → Type 0
IsPart s t = (column : ℕ) → Contains s column → Contains t column

pub of_set : (columns : List ℕ) → IsPart (set_of columns) columns
of_set columns column c = ⊎_elim (λ d. absurd (none column d)) (λ d. d) (of_sorted nat_cmp [] columns column c)

pub in_set : (columns : List ℕ) → IsPart columns (set_of columns)
in_set columns column c = in_sorted nat_cmp exact_unsigned [] columns column (inr c)

pub left_part : (s t : List ℕ) → IsPart s (union s t)
left_part s t column c = in_set (s ++ t) column (Contains-append_left s t column c)

pub right_part : (s t : List ℕ) → IsPart t (union s t)
right_part s t column c = in_set (s ++ t) column (Contains-append_right s t column c)

pub of_union : (s t : List ℕ) (column : ℕ) → Contains (union s t) column → Contains s column ⊎ Contains t column
of_union s t column c = of_append s t column (of_set (s ++ t) column c)

-- where the test says so
pub part_of_within : (s t : List ℕ) → is_within s t ≡ true → IsPart s t
part_of_within s t e column c =
    let h = one_passes (λ other. other == column) t (each_passes (λ col. list_any (λ other. other == col) t) s column e c) in
    subst (λ z. Contains t z) (eqb-true h.0 column h.2) h.1

pub part_of_same : (s t : List ℕ) → same_set s t ≡ true → IsPart s t × IsPart t s
part_of_same s t e = let h = and_parts (is_within s t) (is_within t s) e in (part_of_within s t h.0, part_of_within t s h.1)

-- ---- columns behind others

pub of_shift : (by : ℕ) (columns : List ℕ) (column : ℕ) → Contains (shift by columns) column → (other : ℕ) × Contains columns other × (other + by ≡ column)
of_shift by columns column c = of_map (λ col. col + by) columns column c

pub in_shift : (by : ℕ) (columns : List ℕ) (column : ℕ) → Contains columns column → Contains (shift by columns) (column + by)
in_shift by columns column c = in_map (λ col. col + by) columns column c

-- the columns themselves, where they are the same behind as many others
pub part_of_shifts : (by : ℕ) (s t : List ℕ) → IsPart (shift by s) (shift by t) → IsPart s t
part_of_shifts by s t part column c =
    let h = of_shift by t (column + by) (part (column + by) (in_shift by s column c)) in
    let same : h.0 ≡ column = omega (arith, h.2) in
    subst (λ z. Contains t z) same h.1

-- ---- rows that agree

abbrev value_in : Row → ℕ → Value
value_in row column = slice_index_or row column Null

agree_at : (t : List ℕ) (a b : Row) (column : ℕ) → Contains t column → project t a ≡ project t b → value_in a column ≡ value_in b column
agree_at [] a b column c e = absurd (none column c)
agree_at (other ∷ t) a b column c e =
    let first : value_in a other ≡ value_in b other = cc in
    let others : project t a ≡ project t b = cc in
    ⊎_elim (λ same. subst (λ x. value_in a x ≡ value_in b x) same first) (λ d. agree_at t a b column d others) (first_or other t column c)

agree_on : (s : List ℕ) (a b : Row) → ((column : ℕ) → Contains s column → value_in a column ≡ value_in b column) → project s a ≡ project s b
agree_on [] a b h = refl
agree_on (column ∷ s) a b h =
    let first = h column (here column s) in
    let others = agree_on s a b (λ other c. h other (there column s other c)) in
    λ i. first i ∷ others i

pub lies : (s t : List ℕ) → IsPart s t → LiesIn s t
lies s t part a b e = agree_on s a b (λ column c. agree_at t a b column (part column c) e)

pub lies_within : (s t : List ℕ) → is_within s t ≡ true → LiesIn s t
lies_within s t e = lies s t (part_of_within s t e)

pub lies_same : (s t : List ℕ) → same_set s t ≡ true → LiesIn s t × LiesIn t s
lies_same s t e = let h = part_of_same s t e in (lies s t h.0, lies t s h.1)

pub lies_itself : (s : List ℕ) → LiesIn s s
lies_itself s a b e = e

pub lies_through : (s t u : List ℕ) → LiesIn s t → LiesIn t u → LiesIn s u
lies_through s t u one other a b e = one a b (other a b e)

-- columns in order
pub set_lies : (columns : List ℕ) → LiesIn (set_of columns) columns
set_lies columns = lies (set_of columns) columns (of_set columns)

pub lies_in_set : (columns : List ℕ) → LiesIn columns (set_of columns)
lies_in_set columns = lies columns (set_of columns) (in_set columns)

-- both sets together
pub left_lies : (s t : List ℕ) → LiesIn s (union s t)
left_lies s t = lies s (union s t) (left_part s t)

pub right_lies : (s t : List ℕ) → LiesIn t (union s t)
right_lies s t = lies t (union s t) (right_part s t)

pub union_lies : (s t key : List ℕ) → LiesIn s key → LiesIn t key → LiesIn (union s t) key
union_lies s t key one other a b e =
    agree_on (union s t) a b (λ column c. ⊎_elim (λ d. agree_at s a b column d (one a b e)) (λ d. agree_at t a b column d (other a b e)) (of_union s t column c))

-- one set before the other
pub append_lies : (s t key : List ℕ) → LiesIn s key → LiesIn t key → LiesIn (s ++ t) key
append_lies s t key one other a b e =
    agree_on (s ++ t) a b (λ column c. ⊎_elim (λ d. agree_at s a b column d (one a b e)) (λ d. agree_at t a b column d (other a b e)) (of_append s t column c))

-- no column at all
pub nothing_lies : (key : List ℕ) → LiesIn [] key
nothing_lies key a b e = refl
