-- One more change of a key, in a map from keys to lists of changes.
use Rattle.std.proofs.Common.{◌≡◌, ◌+◌, ℕ, zero, suc, Bool, true, false, cond, List, [], ◌∷◌, ◌++◌, Some, None, Ok, Err, refl, sym, ap, arith, map, length-append, reverse}
use mathlib.Core.Bool.{beq, not}
use Rattle.std.proofs.lemmas.List.{reverse-append, reverse-reverse}
use Rattle.std.specs.Prelude.{position, slice_get, OnErr, OnOk, Result}
use Rattle.std.specs.List.{AllByRecursion}
use Rattle.indexmap.specs.IndexMap.{insert_entry, set_value_at}
use Rattle.indexmap.proofs.MapLemmas.{Found-position, Missing-position}
use Rattle.ct_value.specs.declared.row.Row.{Row}
use Rattle.ct_change.specs.declared.change.Change.{Change}
use Rattle.ct_change.specs.Changelog.{same_row}
use Rattle.mini_batch.specs.Held.{Entries, held_in, in_order, with_change}

abbrev lists : Entries → List (List Change)
lists entries = map (λ entry. entry.1) entries

abbrev First : (Row → Bool) → Entries → ℕ → Type 0
First test [] i = ⊥
First test (entry ∷ entries) zero = test entry.0 ≡ true
First test (entry ∷ entries) (suc i) = (test entry.0 ≡ false) × First test entries i

abbrev Absent : (Row → Bool) → Entries → Type 0
Absent test entries = AllByRecursion (λ key. test key ≡ false) (map (λ entry. entry.0) entries)

-- a list that is written as it was
pub set_same : (entries : Entries) (i : ℕ) (changes : List Change) → slice_get (lists entries) i ≡ Some changes → set_value_at entries i changes ≡ entries
set_same [] i changes at = refl
set_same (entry ∷ entries) zero changes at = let is : entry.1 ≡ changes = cc in rw (← is) refl
set_same (entry ∷ entries) (suc i) changes at = ap (λ (es : Entries). entry ∷ es) (set_same entries i changes at)

set_first : (key : Row) (change : Change) (entries : Entries) (i : ℕ) (changes : List Change) → First (same_row key) entries i → slice_get (lists entries) i ≡ Some changes
    → set_value_at entries i (changes ++ change ∷ []) ≡ with_change entries key change
set_first key change [] i changes first at = absurd first
set_first key change (entry ∷ entries) zero changes first at = let is : entry.1 ≡ changes = cc in rw (first, ← is) refl
set_first key change (entry ∷ entries) (suc i) changes first at = rw first.0 (ap (λ (es : Entries). entry ∷ es) (set_first key change entries i changes first.1 at))

-- a list with one change more, at the key's place
pub set_more : (key : Row) (change : Change) (entries : Entries) (i : ℕ) (changes : List Change) → Some i ≡ position (same_row key) (map (λ entry. entry.0) entries) → slice_get (lists entries) i ≡ Some changes
    → set_value_at entries i (changes ++ change ∷ []) ≡ with_change entries key change
set_more key change entries i changes at_key at = set_first key change entries i changes (Found-position (same_row key) entries i (sym at_key)).first at

insert_absent : (key : Row) (change : Change) (entries : Entries) → Absent (same_row key) entries → insert_entry same_row entries key (change ∷ []) ≡ with_change entries key change
insert_absent key change [] absent = refl
insert_absent key change (entry ∷ entries) absent = rw absent.0 (ap (λ (es : Entries). entry ∷ es) (insert_absent key change entries absent.1))

-- a new key, with a list of one change
pub insert_new : (key : Row) (change : Change) (entries : Entries) → None ≡ position (same_row key) (map (λ entry. entry.0) entries)
    → insert_entry same_row entries key (change ∷ []) ≡ with_change entries key change
insert_new key change entries none = insert_absent key change entries (Missing-position (same_row key) entries (sym none)).absent

-- one change more is held
pub held_more : (entries : Entries) (key : Row) (change : Change) → held_in (with_change entries key change) ≡ held_in entries + 1
held_more [] key change = refl
held_more (entry ∷ entries) key change = by (same_row key entry.0) (held_more entries key change)
  where
    by : (b : Bool) → held_in (with_change entries key change) ≡ held_in entries + 1
        → held_in (cond b ((entry.0, entry.1 ++ change ∷ []) ∷ entries) (entry ∷ with_change entries key change)) ≡ held_in (entry ∷ entries) + 1
    by true h = omega (arith, length-append entry.1 (change ∷ []))
    by false h = omega (arith, h)

-- the order of a map that was turned round
pub turned : (was wanted : Bool) (entries : Entries) → not (beq was wanted) ≡ true → in_order wanted (reverse entries) ≡ in_order was entries
turned true false entries e = refl
turned false true entries e = reverse-reverse entries
turned true true entries e = cc e
turned false false entries e = cc e

-- the last entry of a map that lies reversed is the first
pub last_first : (entries : Entries) (entry : Row × List Change) → in_order true (entries ++ entry ∷ []) ≡ entry ∷ in_order true entries
last_first entries entry = reverse-append entries (entry ∷ [])

-- what holds holds of an error
pub on_err : {T E : Type 0} (r : Result T E) (P : Type 0) → P → OnErr r P
on_err (Ok x) P h = tt
on_err (Err x) P h = h

-- what follows from what holds of a value holds of it
pub on_ok : {T E : Type 0} (r : Result T E) {P Q : Type 0} → (P → Q) → OnOk r P → OnOk r Q
on_ok (Ok x) f h = f h
on_ok (Err x) f h = tt
