-- What the rule Shape says of the tables of a plan: the columns of a key are there, in the order of their positions.
use Rattle.std.specs.Prelude.{◌≡◌, ℕ, ◌+◌, ◌<◌, ◌≤◌, nat_le, List, ◌++◌, fold, length, slice_get, Option}
use Rattle.std.proofs.Common.{true, [], ◌∷◌, refl, sym, ap, ◌∙◌, arith, Some, None, append-nil, append_assoc}
use Rattle.std.specs.List.{AllByRecursion, list_all}
use Rattle.std.specs.Ordering.{nat_cmp, match_ordering}
use Rattle.std.specs.Cmp.{nat_cmp_is}
use Rattle.std.specs.BTreeSet.{insert_key}
use Rattle.std.specs.declared.cmp.Ordering.TheVariants.{Greater}
use Rattle.std.proofs.lemmas.Bool.{leb-true}
use Rattle.ct_change.specs.declared.kind.Declared.TheVariants.{Upsert}
use Rattle.ct_catalog.specs.declared.table.ColDef.{ColDef}
use Rattle.ct_catalog.specs.declared.table.TableDef.{TableDef}
use Rattle.sound_plans.specs.Agrees.{IsOrdered}
use Rattle.sound_plans.specs.Outputs.{AreWithin}
use Rattle.plan_shape.specs.Tables.{has_columns, is_declarable, is_key, is_required, is_required_in, key_fits, rise_from}
use Rattle.sound_plans.proofs.laws.Lists.{both, within}

-- ---- rising numbers are a set as they stand

goes_last : (done : List ℕ) (x : ℕ) → AllByRecursion (λ k. k < x) done → insert_key nat_cmp done x ≡ done ++ x ∷ []
goes_last [] x h = refl
goes_last (y ∷ done) x h =
    ap (λ o. match_ordering o (x ∷ (y ∷ done)) (y ∷ done) (y ∷ insert_key nat_cmp done x)) (sym (nat_cmp_is x y Greater h.0))
    ∙ ap (λ xs. y ∷ xs) (goes_last done x h.1)

higher : (low top : ℕ) → low ≤ top → (done : List ℕ) → AllByRecursion (λ k. k < low) done → AllByRecursion (λ k. k < top) done
higher low top l [] h = tt
higher low top l (y ∷ done) h = (let k = h.0 in omega arith, higher low top l done h.1)

pushed : (done : List ℕ) (x top : ℕ) → AllByRecursion (λ k. k < top) done → x < top → AllByRecursion (λ k. k < top) (done ++ x ∷ [])
pushed [] x top h l = (l, tt)
pushed (y ∷ done) x top h l = (h.0, pushed done x top h.1 l)

stays : (low : ℕ) (done xs : List ℕ) → AllByRecursion (λ k. k < low) done → rise_from low xs ≡ true → fold (insert_key nat_cmp) done xs ≡ done ++ xs
stays low done [] h r = sym (append-nil done)
stays low done (x ∷ xs) h r =
    let b = both (nat_le low x) (rise_from (x + 1) xs) r in
    let l : low ≤ x = leb-true low x b.0 in
    let m : x ≤ x + 1 = omega arith in
    let n : low ≤ x + 1 = omega arith in
    ap (λ set. fold (insert_key nat_cmp) set xs) (goes_last done x (higher low x l done h))
    ∙ stays (x + 1) (done ++ x ∷ []) xs (pushed done x (x + 1) (higher low (x + 1) n done h) (omega arith)) b.1
    ∙ append_assoc done (x ∷ []) xs

rising_is_ordered : (xs : List ℕ) → rise_from 0 xs ≡ true → IsOrdered xs
rising_is_ordered xs r = stays 0 [] xs tt r

-- ---- the key of a table

required_is_there : (cols : List ColDef) (c : ℕ) → is_required cols c ≡ true → c < length cols
required_is_there cols c e = go (slice_get cols c) refl e
  where
    go : (o : Option ColDef) → slice_get cols c ≡ o → is_required_in o ≡ true → c < length cols
    go None i r = absurd (cc)
    go (Some column) i r = within cols c column i

required_are_there : (cols : List ColDef) (key : List ℕ) → list_all (is_required cols) key ≡ true → AreWithin (length cols) key
required_are_there cols [] e = tt
required_are_there cols (c ∷ key) e = let b = both (is_required cols c) (list_all (is_required cols) key) e in (required_is_there cols c b.0, required_are_there cols key b.1)

key_is : (table : TableDef) (key : List ℕ) → is_declarable table ≡ true → table.key ≡ Some key → is_key table.cols key ≡ true
key_is table key d e =
    sym (ap (key_fits table.mode table.cols) e) ∙ (both (has_columns table) (key_fits table.mode table.cols table.key) d).1

pub key_ordered : (table : TableDef) (key : List ℕ) → is_declarable table ≡ true → table.key ≡ Some key → IsOrdered key
key_ordered table key d e = rising_is_ordered key (both (list_all (is_required table.cols) key) (rise_from 0 key) (key_is table key d e)).1

pub key_within : (table : TableDef) (key : List ℕ) → is_declarable table ≡ true → table.key ≡ Some key → AreWithin (length table.cols) key
key_within table key d e = required_are_there table.cols key (both (list_all (is_required table.cols) key) (rise_from 0 key) (key_is table key d e)).0

pub upsert_has_key : (table : TableDef) → is_declarable table ≡ true → table.mode ≡ Upsert → (key : List ℕ) × (table.key ≡ Some key)
upsert_has_key table d m = go table.key refl
  where
    go : (o : Option (List ℕ)) → table.key ≡ o → (key : List ℕ) × (o ≡ Some key)
    go (Some key) e = (key, refl)
    go None e =
        let fits : key_fits Upsert table.cols None ≡ true = sym (λ k. key_fits (m k) table.cols (e k)) ∙ (both (has_columns table) (key_fits table.mode table.cols table.key) d).1 in
        absurd (cc)
