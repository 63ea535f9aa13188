-- What names the rows of a Top-N, and the keys that are inferred of them.
use Rattle.std.specs.Prelude.{◌≡◌, ℕ, ◌<◌, ◌≤◌, ◌⊎◌, ◌==◌, ◌||◌, Bool, cond, List, ◌++◌, length}
use Rattle.std.proofs.Common.{true, false, [], ◌∷◌, refl, subst, inl, inr, ⊎_elim, arith, Some, None, length-append}
use Rattle.std.specs.List.{AllByRecursion, Contains}
use Rattle.ct_value.specs.declared.ty.ColTy.{ColTy}
use Rattle.rel_algebra.specs.Ranks.{rank_column, rank_columns}
use Rattle.op_rules.specs.Edges.{LiesIn}
use Rattle.emission_rules.specs.TopFits.{HasInputKey}
use Rattle.phys_plan.specs.declared.edge.Exchange.TheVariants.{Hash}
use Rattle.phys_plan.specs.declared.node.KeyInfo.{KeyInfo}
use Rattle.column_sets.specs.Sets.{is_within, set_of}
use Rattle.upsert_keys.specs.Joins.{when}
use Rattle.upsert_keys.specs.Keys.{top_keys}
use Rattle.upsert_keys.specs.Seen.{everywhere, families, seen_over}
use Rattle.mode_infer.specs.UpdateKeys.{top_key}
use Rattle.sound_plans.specs.Outputs.{AreWithin}
use Rattle.sound_plans.proofs.laws.KeyFamilies.{of_when}
use Rattle.sound_plans.proofs.laws.Members.{of_append, one_of, only_one}
use Rattle.sound_plans.proofs.laws.RowFamilies.{each_has, within_itself}
use Rattle.sound_plans.proofs.laws.Sets.{left_part, lies_in_set, lies_itself, of_set, set_lies}
use Rattle.sound_plans.proofs.laws.Widths.{append_within, each_appended, each_when, set_within, wider}

-- ---- what names a row

-- the columns of the partition, and the rank where it is shown
abbrev pub naming : Bool → List ℕ → ℕ → List ℕ
naming ranked partition width = cond ranked (partition ++ width ∷ []) partition

-- whether each rank has a row of its own
abbrev pub ranks : Bool → ℕ → Bool
ranks ranked bound = ranked || (bound == 1)

-- the key by which rows are named, where they are
abbrev pub named : Bool → List ℕ → ℕ → ℕ → List (List ℕ)
named true partition bound width = set_of (partition ++ width ∷ []) ∷ []
named false partition bound width = when (bound == 1) (set_of partition ∷ [])

-- it names them, where there is such a key
pub of_named : (ranked : Bool) (partition : List ℕ) (bound width : ℕ) (set : List ℕ) → Contains (named ranked partition bound width) set → (ranks ranked bound ≡ true) × LiesIn (naming ranked partition width) set
of_named true partition bound width set c =
    (refl, subst (λ s. LiesIn (partition ++ width ∷ []) s) (only_one (set_of (partition ++ width ∷ [])) set c) (lies_in_set (partition ++ width ∷ [])))
of_named false partition bound width set c =
    let w = of_when (bound == 1) (set_of partition ∷ []) set c in
    (w.0, subst (λ s. LiesIn partition s) (only_one (set_of partition) set w.1) (lies_in_set partition))

-- the names in order
set_named : (names key : List ℕ) → Some (set_of names) ≡ Some key → LiesIn names key × LiesIn key names
set_named names key e =
    let same : set_of names ≡ key = cc in
    (subst (λ s. LiesIn names s) same (lies_in_set names), subst (λ s. LiesIn s names) same (set_lies names))

-- the update key has the columns that name a row, and no others
pub of_top_key : (ranked : Bool) (partition : List ℕ) (bound width : ℕ) (key : List ℕ) → top_key ranked partition bound width ≡ Some key
    → (ranks ranked bound ≡ true) × LiesIn (naming ranked partition width) key × LiesIn key (naming ranked partition width)
of_top_key true partition bound width key e = let h = set_named (partition ++ width ∷ []) key e in (refl, h.0, h.1)
of_top_key false partition bound width key e = go (bound == 1) e
  where
    go : (alone : Bool) → cond alone (Some (set_of partition)) None ≡ Some key → (alone ≡ true) × LiesIn partition key × LiesIn key partition
    go true is = let h = set_named partition key is in (refl, h.0, h.1)
    go false is = absurd (cc)

-- ---- columns are there

-- no fewer columns leave than come
pub rank_width : (ranked : Bool) (columns : List ColTy) → length columns ≤ length (rank_columns ranked columns)
rank_width true columns = omega (arith, length-append columns (rank_column ∷ []))
rank_width false columns = omega arith

-- and those that name a row are among them
naming_within : (ranked : Bool) (columns : List ColTy) (partition : List ℕ) → AreWithin (length columns) partition → AreWithin (length (rank_columns ranked columns)) (naming ranked partition (length columns))
naming_within true columns partition h =
    let long : length columns < length (rank_columns true columns) = omega (arith, length-append columns (rank_column ∷ [])) in
    append_within (length (rank_columns true columns)) partition (length columns ∷ []) (wider (length columns) (length (rank_columns true columns)) partition (omega (arith, long)) h) (long, tt)
naming_within false columns partition h = h

pub named_within : (ranked : Bool) (columns : List ColTy) (partition : List ℕ) (bound : ℕ) → AreWithin (length columns) partition
    → AllByRecursion (AreWithin (length (rank_columns ranked columns))) (named ranked partition bound (length columns))
named_within true columns partition bound h = (set_within (length (rank_columns true columns)) (partition ++ length columns ∷ []) (naming_within true columns partition h), tt)
named_within false columns partition bound h = each_when (length columns) (bound == 1) (set_of partition ∷ []) (set_within (length columns) partition h, tt)

pub top_key_within : (ranked : Bool) (columns : List ColTy) (partition : List ℕ) (bound : ℕ) → AreWithin (length columns) partition → (key : List ℕ) → top_key ranked partition bound (length columns) ≡ Some key
    → AreWithin (length (rank_columns ranked columns)) key
top_key_within true columns partition bound h key e =
    let same : set_of (partition ++ length columns ∷ []) ≡ key = cc in
    subst (λ s. AreWithin (length (rank_columns true columns)) s) same (set_within (length (rank_columns true columns)) (partition ++ length columns ∷ []) (naming_within true columns partition h))
top_key_within false columns partition bound h key e = go (bound == 1) e
  where
    go : (alone : Bool) → cond alone (Some (set_of partition)) None ≡ Some key → AreWithin (length columns) key
    go true is = let same : set_of partition ≡ key = cc in subst (λ s. AreWithin (length columns) s) same (set_within (length columns) partition h)
    go false is = absurd (cc)

-- the update key has the columns of the partition
pub top_key_tells : (ranked : Bool) (partition : List ℕ) (bound width : ℕ) (key : List ℕ) → top_key ranked partition bound width ≡ Some key → is_within (set_of partition) key ≡ true
top_key_tells true partition bound width key e =
    let same : set_of (partition ++ width ∷ []) ≡ key = cc in
    subst (λ s. is_within (set_of partition) s ≡ true) same
    (each_has (set_of (partition ++ width ∷ [])) (set_of partition) (λ column c. left_part partition (width ∷ []) column (of_set partition column c)))
top_key_tells false partition bound width key e = go (bound == 1) e
  where
    go : (alone : Bool) → cond alone (Some (set_of partition)) None ≡ Some key → is_within (set_of partition) key ≡ true
    go true is = let same : set_of partition ≡ key = cc in subst (λ s. is_within (set_of partition) s ≡ true) same (within_itself (set_of partition))
    go false is = absurd (cc)

-- ---- the keys of what leaves

-- of answers, and without ranks at every moment
pub key_of_rows : (Has : List ℕ → Type 0) (ranked : Bool) (partition : List ℕ) (bound width : ℕ) (sets : List (List ℕ)) → ((set : List ℕ) → Contains sets set → Has set) → AllByRecursion (AreWithin width) sets
    → (set : List ℕ) → Contains (sets ++ named ranked partition bound width) set → HasInputKey Has width set ⊎ ((ranks ranked bound ≡ true) × LiesIn (naming ranked partition width) set)
key_of_rows Has ranked partition bound width sets are_keys within set c =
    ⊎_elim
    (λ d. inl (record { columns = set; has = are_keys set d; within = one_of (AreWithin width) sets set within d; lies = lies_itself set }))
    (λ d. inr (of_named ranked partition bound width set d))
    (of_append sets (named ranked partition bound width) set c)

-- with ranks the names alone
abbrev pub local_sets : Bool → List ℕ → ℕ → ℕ → List (List ℕ) → List (List ℕ)
local_sets true partition bound width sets = named true partition bound width
local_sets false partition bound width sets = sets ++ named false partition bound width

-- the keys that are inferred
pub keys_are : (ranked : Bool) (partition : List ℕ) (bound : ℕ) (columns : List ColTy) (info : KeyInfo)
    → top_keys ranked partition bound (seen_over (Hash partition) columns info)
    ≡ families (info.unique ++ named ranked partition bound (length columns)) (local_sets ranked partition bound (length columns) (everywhere info)) (set_of partition ∷ [])
keys_are true partition bound columns info = refl
keys_are false partition bound columns info = refl

-- of columns that are there
pub local_within : (ranked : Bool) (partition : List ℕ) (bound : ℕ) (columns : List ColTy) (sets : List (List ℕ)) → AreWithin (length columns) partition → AllByRecursion (AreWithin (length columns)) sets
    → AllByRecursion (AreWithin (length (rank_columns ranked columns))) (local_sets ranked partition bound (length columns) sets)
local_within true partition bound columns sets h within = named_within true columns partition bound h
local_within false partition bound columns sets h within = each_appended (length columns) sets (named false partition bound (length columns)) within (named_within false columns partition bound h)
