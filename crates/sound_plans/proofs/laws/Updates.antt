-- How an edge tells updates: in full, or by new rows alone where its consumer takes them so.
use Rattle.std.proofs.Common.{◌≡◌, ℕ, Bool, true, false, cond, ◌&&◌, ◌<◌, List, length, Option, Some, None, refl, sym, subst}
use Rattle.std.specs.List.{AllByRecursion}
use Rattle.ct_value.specs.declared.row.Row.{Row}
use Rattle.ct_value.specs.declared.ty.ColTy.{ColTy}
use Rattle.ct_change.specs.declared.kind.Kind.{Kind}
use Rattle.ct_change.specs.declared.kind.Kind.TheVariants.{I, UB, UA, D}
use Rattle.ct_change.specs.declared.kind.KindSet.{KindSet}
use Rattle.ct_change.specs.Changelog.{Mode, append, retract, has, admits, HasKey}
use Rattle.ct_change.specs.declared.update.Update.{Update}
use Rattle.ct_change.specs.declared.update.Update.TheVariants.{Absent, After, Both}
use Rattle.op_rules.specs.Edges.{bag, meaning_of}
use Rattle.emission_rules.specs.Changes.{after_key, mode_after}
use Rattle.mode_infer.specs.Modes.{edge_kinds}
use Rattle.mode_infer.specs.Updates.{in_full, told}
use Rattle.plan_rules.specs.Plans.{meaning_by}
use Rattle.plan_rules.specs.Around.{mode_read}
use Rattle.plan_rules.proofs.laws.Reading.{kinds_read, of_no_updates, retract_admits}
use Rattle.sound_plans.specs.Outputs.{AreWithin}

-- ---- in full

-- changes in full are read as a bag
pub meaning_full : (kinds : KindSet) → meaning_by (in_full kinds) ≡ bag
meaning_full kinds = elim kinds.ua as (λ b. meaning_by (cond b Both Absent) ≡ bag) [ true ↦ refl | false ↦ refl ]

-- by inserts or by both rows of an update
pub mode_full : (P : Mode → Type 0) (kinds sent : KindSet) → P append → P retract → P (mode_read kinds (in_full sent))
mode_full P kinds sent inserts whole = elim sent.ua as (λ b. P (mode_read kinds (cond b Both Absent))) [ true ↦ whole | false ↦ of_no_updates P kinds inserts whole ]

-- and are of kinds that belong to it
pub kinds_full_read : (kinds sent : KindSet) (kind : Kind) → has kinds kind ≡ true → admits (mode_read kinds (in_full sent)) kind ≡ true
kinds_full_read kinds sent kind h = elim sent.ua as (λ b. admits (mode_read kinds (cond b Both Absent)) kind ≡ true) [ true ↦ retract_admits kind | false ↦ kinds_read kinds kind h ]

-- and an edge in full carries all that its node sends
pub kinds_full : (own kinds : KindSet) → edge_kinds own (in_full kinds) ≡ own
kinds_full own kinds = elim kinds.ua as (λ b. edge_kinds own (cond b Both Absent) ≡ own) [ true ↦ refl | false ↦ refl ]

-- what no one takes otherwise is told in full
pub told_untaken : (kinds : KindSet) (key : Option (List ℕ)) → told kinds key false ≡ in_full kinds
told_untaken kinds None = refl
told_untaken kinds (Some key) = elim kinds.ua as (λ b. cond (b && false) (After key) (cond b Both Absent) ≡ cond b Both Absent) [ true ↦ refl | false ↦ refl ]

-- ---- by new rows

-- whose key is the node's update key
abbrev pub KeyIs : Option (List ℕ) → Update → Type 0
KeyIs key Absent = Unit {0}
KeyIs key (After own) = key ≡ Some own
KeyIs key Both = Unit {0}

full_keyed : (key : Option (List ℕ)) (kinds : KindSet) → KeyIs key (in_full kinds)
full_keyed key kinds = elim kinds.ua as (λ b. KeyIs key (cond b Both Absent)) [ true ↦ tt | false ↦ tt ]

pub told_keyed : (kinds : KindSet) (key : Option (List ℕ)) (taken : Bool) → KeyIs key (told kinds key taken)
told_keyed kinds None taken = full_keyed None kinds
told_keyed kinds (Some key) taken = elim (kinds.ua && taken) as (λ b. KeyIs (Some key) (cond b (After key) (in_full kinds))) [ true ↦ refl | false ↦ full_keyed (Some key) kinds ]

-- ---- however it tells

-- its changes are read as its mode says
pub meaning_after : (update : Update) → meaning_by update ≡ meaning_of (mode_after (after_key update))
meaning_after Absent = refl
meaning_after (After key) = refl
meaning_after Both = refl

-- and are of kinds of its mode
pub kinds_admitted : (kinds : KindSet) (update : Update) (kind : Kind) → has (edge_kinds kinds update) kind ≡ true → admits (mode_after (after_key update)) kind ≡ true
kinds_admitted kinds Absent kind h = retract_admits kind
kinds_admitted kinds (After key) I h = refl
kinds_admitted kinds (After key) UB h = h
kinds_admitted kinds (After key) UA h = refl
kinds_admitted kinds (After key) D h = refl
kinds_admitted kinds Both kind h = retract_admits kind

-- the columns of a key are there in each row
pub columns_there : (columns : List ColTy) (key : List ℕ) → AreWithin (length columns) key → (row : Row) → length row ≡ length columns → AllByRecursion (λ column. column < length row) key
columns_there columns key within row wide = subst (λ n. AllByRecursion (λ column. column < n) key) (sym wide) within

pub mode_keyed : (columns : List ColTy) (key : Option (List ℕ)) (update : Update) → KeyIs key update → ((own : List ℕ) → key ≡ Some own → AreWithin (length columns) own) → (row : Row) → length row ≡ length columns
    → HasKey (mode_after (after_key update)) row
mode_keyed columns key Absent is within row wide = tt
mode_keyed columns key (After own) is within row wide = columns_there columns own (within own is) row wide
mode_keyed columns key Both is within row wide = tt
