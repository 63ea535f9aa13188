-- Worked rows: what stands on the left of each, and what was worked by hand for it.
use Rattle.std.specs.Prelude.{◌≡◌, ℕ, pos, Bool, true, false, List, [], ◌∷◌, map, codes, Option, Some, None}
use Rattle.ct_value.specs.declared.ty.Ty.{Ty}
use Rattle.ct_value.specs.declared.ty.Ty.TheVariants.{Bool as Truths, Text as Texts}
use Rattle.ct_value.specs.declared.row.Row.{Row}
use Rattle.ct_value.specs.declared.value.Value.TheVariants.{Null, Bool as Truth, Num, Text}
use Rattle.ct_change.specs.declared.kind.Kind.{Kind}
use Rattle.ct_change.specs.declared.kind.Kind.TheVariants.{I, UB, UA, D}
use Rattle.ct_change.specs.declared.change.Change.{Change}
use Rattle.ct_change.specs.declared.change.Diff.{Diff}
use Rattle.ct_change.specs.Changelog.{Mode, append, retract, upsert, adds, admits}
use Rattle.ct_change.specs.Emission.{emission, replaced_by}
use Rattle.rel_algebra.specs.GroupedCounts.{sized}
use Rattle.route.specs.Routing.{key_text, route_of}

-- the definition gives what was worked, row by row
abbrev pub AgreesWith : {A B : Type 0} → (A → B) → List (A × B) → Type 0
AgreesWith f rows = map (λ row. f row.0) rows ≡ map (λ row. row.1) rows

-- the row of one number, and its change
abbrev pub one : ℕ → Row
one n = Num (pos n) ∷ []

abbrev pub change : Kind → ℕ → Change
change kind n = record { kind = kind; row = one n }

-- ---- kinds: whether it adds, and whether append, retract and upsert admit it

abbrev pub kind_facts : Kind → List Bool
kind_facts kind = adds kind ∷ admits append kind ∷ admits retract kind ∷ admits (upsert (0 ∷ [])) kind ∷ []

abbrev pub kinds : List (Kind × List Bool)
kinds = (I, true ∷ true ∷ true ∷ true ∷ [])
    ∷ (UB, false ∷ false ∷ true ∷ false ∷ [])
    ∷ (UA, true ∷ false ∷ true ∷ true ∷ [])
    ∷ (D, false ∷ false ∷ true ∷ true ∷ [])
    ∷ []

-- ---- what is emitted for a row that is replaced by another

abbrev pub emission_facts : (Mode × Option Row × Option Row) → List Change
emission_facts case = emission case.0 case.1 case.2

abbrev pub emissions : List ((Mode × Option Row × Option Row) × List Change)
emissions = ((append, None, Some (one 7)), change I 7 ∷ [])
    ∷ ((retract, None, None), [])
    ∷ ((retract, None, Some (one 7)), change I 7 ∷ [])
    ∷ ((retract, Some (one 7), Some (one 8)), change UB 7 ∷ change UA 8 ∷ [])
    ∷ ((retract, Some (one 7), Some (one 7)), [])
    ∷ ((retract, Some (one 7), None), change D 7 ∷ [])
    ∷ ((upsert (0 ∷ []), None, Some (one 7)), change I 7 ∷ [])
    ∷ ((upsert (0 ∷ []), Some (one 7), Some (one 8)), change UA 8 ∷ [])
    ∷ ((upsert (0 ∷ []), Some (one 7), Some (one 7)), [])
    ∷ ((upsert (0 ∷ []), Some (one 7), None), change D 7 ∷ [])
    ∷ []

-- ---- what goes and what comes by a change on a key that has this row, or none, in an upsert changelog

abbrev pub difference_facts : (Option Row × Change) → Diff
difference_facts case = replaced_by case.0 case.1

abbrev pub differences : List ((Option Row × Change) × Diff)
differences = ((None, change D 7), record { gone = None; come = None })
    ∷ ((None, change I 7), record { gone = None; come = Some (change I 7) })
    ∷ ((None, change UA 7), record { gone = None; come = Some (change UA 7) })
    ∷ ((Some (one 7), change I 8), record { gone = Some (change UB 7); come = Some (change UA 8) })
    ∷ ((Some (one 7), change UA 7), record { gone = Some (change UB 7); come = Some (change UA 7) })
    ∷ ((Some (one 7), change D 9), record { gone = Some (change D 7); come = None })
    ∷ []

-- ---- what a group emits, of which the size was the first number and is the second

abbrev pub group_facts : (Mode × ℕ × ℕ) → List Change
group_facts case = emission case.0 (sized (Text (codes "a") ∷ []) case.1) (sized (Text (codes "a") ∷ []) case.2)

-- a change of the group's row, with its count
abbrev pub counted : Kind → ℕ → Change
counted kind n = record { kind = kind; row = Text (codes "a") ∷ Num (pos n) ∷ [] }

abbrev pub groups : List ((Mode × ℕ × ℕ) × List Change)
groups = ((retract, 0, 1), counted I 1 ∷ [])
    ∷ ((retract, 1, 2), counted UB 1 ∷ counted UA 2 ∷ [])
    ∷ ((retract, 2, 2), [])
    ∷ ((retract, 1, 0), counted D 1 ∷ [])
    ∷ ((upsert (0 ∷ []), 1, 2), counted UA 2 ∷ [])
    ∷ []

-- ---- the subtask of a key, by the types of its values: the hashes of `1`, `2`, `7` are 49, 50, 55, that of `1,2` is 48503

abbrev pub route_facts : (ℕ × List Ty × Row) → (List ℕ × ℕ)
route_facts case = (key_text case.1 case.2, route_of case.0 case.1 case.2)

abbrev pub routes : List ((ℕ × List Ty × Row) × (List ℕ × ℕ))
routes = ((2, Texts ∷ [], Text (codes "1") ∷ []), (codes "1", 1))
    ∷ ((2, Texts ∷ [], Text (codes "2") ∷ []), (codes "2", 0))
    ∷ ((2, Texts ∷ [], Text (codes "7") ∷ []), (codes "7", 1))
    ∷ ((2, [], []), ([], 0))
    ∷ ((16, Texts ∷ Texts ∷ [], Text (codes "1") ∷ Text (codes "2") ∷ []), (codes "1,2", 7))
    ∷ ((1, Truths ∷ Texts ∷ [], Truth true ∷ Null ∷ []), (codes "TRUE,\\N", 0))
    ∷ []
