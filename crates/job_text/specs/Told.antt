-- That what is printed tells its items: each item has one line, no item's line is another's, and none begins another's. Where all
-- sources have one change file, quiet moments after as many changes in all are one item.
use Rattle.std.specs.Prelude.{◌≡◌, ◌<◌, ◌^◌, ℕ, Bool, true, List, [], ◌∷◌, ◌++◌, Option}
use Rattle.std.specs.List.{AllByRecursion}
use Rattle.ct_value.specs.declared.ty.Ty.{Ty}
use Rattle.ct_field.specs.Numbers.{is_type}
use Rattle.op_rules.specs.Values.{values_fit}
use Rattle.stream_model.specs.KeysTold.{is_told, told_by}
use Rattle.stream_model.specs.declared.events.PrintItem.{PrintItem}
use Rattle.stream_model.specs.declared.events.PrintItem.TheVariants.{Change, Quiet}
use Rattle.job_text.specs.Printed.{item_line, item_lines, numbers_told, sum_of}

-- types that columns have
abbrev pub AreTypes : List Ty → Type 0
AreTypes tys = AllByRecursion (λ ty. is_type ty ≡ true) tys

-- an item as it is printed of a sink whose columns have these types, and which has this key where it is an upsert table: the row of a
-- `-D` into that is a key row, and so few changes are taken that 64 bits count them
abbrev pub IsItemOf : List Ty → Option (List ℕ) → PrintItem → Type 0
IsItemOf tys key (Change change) = (values_fit tys change.row ≡ true) × (is_told (told_by key change.kind) change.row ≡ true)
IsItemOf tys key (Quiet counts) = sum_of counts < 2 ^ 64

abbrev pub AreItemsOf : List Ty → Option (List ℕ) → List PrintItem → Type 0
AreItemsOf tys key items = AllByRecursion (IsItemOf tys key) items

-- items that are told alike: one change, or quiet moments of the same numbers told
abbrev pub IsSameItem : Bool → PrintItem → PrintItem → Type 0
IsSameItem by_table (Change change) (Change other) = change ≡ other
IsSameItem by_table (Change change) (Quiet others) = ⊥
IsSameItem by_table (Quiet counts) (Change other) = ⊥
IsSameItem by_table (Quiet counts) (Quiet others) = numbers_told by_table counts ≡ numbers_told by_table others

-- the same item by item
abbrev pub AreSameItems : Bool → List PrintItem → List PrintItem → Type 0
AreSameItems by_table [] [] = Unit {0}
AreSameItems by_table [] (other ∷ others) = ⊥
AreSameItems by_table (item ∷ items) [] = ⊥
AreSameItems by_table (item ∷ items) (other ∷ others) = IsSameItem by_table item other × AreSameItems by_table items others

-- ---- the laws

-- where the line of an item, and what stands behind it, is the line of another, and what stands behind that, the items are told alike
abbrev pub LinesTellItems : Type 0
LinesTellItems = (tys : List Ty) → AreTypes tys → (by_table : Bool) (key : Option (List ℕ)) (a b : PrintItem) → IsItemOf tys key a → IsItemOf tys key b → (x y : List ℕ)
    → item_line by_table tys key a ++ x ≡ item_line by_table tys key b ++ y → IsSameItem by_table a b × (x ≡ y)

-- so bytes are the lines of one list of items at most, up to what is told alike
abbrev pub BytesTellItems : Type 0
BytesTellItems = (tys : List Ty) → AreTypes tys → (by_table : Bool) (key : Option (List ℕ)) (items others : List PrintItem) → AreItemsOf tys key items → AreItemsOf tys key others
    → item_lines by_table tys key items ≡ item_lines by_table tys key others → AreSameItems by_table items others
