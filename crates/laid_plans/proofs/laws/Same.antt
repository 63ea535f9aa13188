-- What is inferred is the same as itself, and stands where it was given.
use Rattle.std.specs.Prelude.{◌≡◌, ℕ, ◌+◌, ◌≤◌, Bool, ◌&&◌, List, length, slice_get, Option, unwrap_or}
use Rattle.std.proofs.Common.{zero, suc, true, false, [], ◌∷◌, refl, sym, ap, ◌∙◌, arith, Some, None}
use Rattle.std.specs.Str.{bytes_eq}
use Rattle.std.proofs.lemmas.Slice.Eq.{bytes_eq-Decides}
use Rattle.ct_change.specs.declared.kind.KindSet.{KindSet}
use Rattle.phys_plan.specs.declared.edge.Edge.{Edge}
use Rattle.ct_change.specs.declared.update.Update.{Update}
use Rattle.ct_change.specs.declared.update.Update.TheVariants.{Absent, After, Both}
use Rattle.phys_plan.specs.declared.node.KeyInfo.{KeyInfo}
use Rattle.phys_plan.specs.declared.node.Node.{Node}
use Rattle.phys_plan.specs.Reading.{at, numbered as item, no_keys}
use Rattle.upsert_keys.specs.Keys.{keyed, keyed_from}
use Rattle.mode_infer.specs.declared.modes.EdgeMode.{EdgeMode}
use Rattle.mode_infer.specs.Modes.{moded, moded_from, no_mode}
use Rattle.plan_inferred.specs.Rules.{says_keys, says_kinds, says_update}
use Rattle.plan_inferred.specs.Same.{same_keys, same_kinds, same_sets, same_truth, same_update}
use Rattle.sound_plans.proofs.laws.Lists.{found}
use Rattle.laid_plans.proofs.laws.Edges.{with_mode}
use Rattle.laid_plans.proofs.laws.Nodes.{with_keys}

-- ---- tests

-- both of two tests
pub both_hold : (a b : Bool) → a ≡ true → b ≡ true → (a && b) ≡ true
both_hold a b e f = ap (λ x. x && b) e ∙ f

-- numbers are the same as themselves
numbers_same : (xs : List ℕ) → bytes_eq xs xs ≡ true
numbers_same xs = (bytes_eq-Decides xs xs).1 refl

-- so are sets of columns
sets_same : (sets : List (List ℕ)) → same_sets sets sets ≡ true
sets_same [] = refl
sets_same (set ∷ sets) = both_hold (bytes_eq set set) (same_sets sets sets) (numbers_same set) (sets_same sets)

-- keys
keys_same : (keys : KeyInfo) → same_keys keys keys ≡ true
keys_same keys =
    both_hold (same_sets keys.unique keys.unique) (same_sets keys.local keys.local && same_sets keys.fixing keys.fixing) (sets_same keys.unique)
    (both_hold (same_sets keys.local keys.local) (same_sets keys.fixing keys.fixing) (sets_same keys.local) (sets_same keys.fixing))

-- truths
truth_same : (a : Bool) → same_truth a a ≡ true
truth_same true = refl
truth_same false = refl

-- kinds
kinds_same : (kinds : KindSet) → same_kinds kinds kinds ≡ true
kinds_same kinds =
    let last = both_hold (same_truth kinds.ua kinds.ua) (same_truth kinds.d kinds.d) (truth_same kinds.ua) (truth_same kinds.d) in
    let later = both_hold (same_truth kinds.ub kinds.ub) (same_truth kinds.ua kinds.ua && same_truth kinds.d kinds.d) (truth_same kinds.ub) last in
    both_hold (same_truth kinds.i kinds.i) (same_truth kinds.ub kinds.ub && (same_truth kinds.ua kinds.ua && same_truth kinds.d kinds.d)) (truth_same kinds.i) later

-- and ways to tell updates
update_same : (update : Update) → same_update update update ≡ true
update_same Absent = refl
update_same (After key) = numbers_same key
update_same Both = refl

-- ---- tables

-- a number that is within a table
pub item_there : {A : Type 0} (d : A) (table : List A) (v : ℕ) → 1 ≤ v → v ≤ length table → item table v ≡ Some (at d table v)
item_there d table zero low high = absurd (omega arith)
item_there d table (suc n) low high = let x = found table n (omega arith) in x.1 ∙ ap (λ y. Some y) (sym (ap (λ o. unwrap_or o d) x.1))

module _ (table : List KeyInfo) where
  -- nodes from a number on say the keys that they are given
  keys_from : (v : ℕ) (nodes : List Node) (n : ℕ) → 1 ≤ v → v + length nodes ≡ suc (length table) → says_keys (item table (v + n)) (slice_get (keyed_from v table nodes) n) ≡ true
  keys_from v [] n low many = refl
  keys_from v (node ∷ nodes) zero low many =
      let here : v + 0 ≡ v = omega arith in
      let there : item table v ≡ Some (at no_keys table v) = item_there no_keys table v low (omega (arith, many)) in
      ap (λ k. says_keys (item table k) (Some (with_keys (at no_keys table v) node))) here
      ∙ ap (λ o. says_keys o (Some (with_keys (at no_keys table v) node))) there ∙ keys_same (at no_keys table v)
  keys_from v (node ∷ nodes) (suc n) low many =
      let there : v + suc n ≡ v + 1 + n = omega arith in
      ap (λ k. says_keys (item table k) (slice_get (keyed_from (v + 1) table nodes) n)) there ∙ keys_from (v + 1) nodes n (omega arith) (omega (arith, many))

  -- and so do all nodes
  pub keys_said : (nodes : List Node) → length table ≡ length nodes → (v : ℕ) → says_keys (item table v) (item (keyed table nodes) v) ≡ true
  keys_said nodes many zero = refl
  keys_said nodes many (suc n) =
      let number : suc n ≡ 1 + n = omega arith in
      ap (λ k. says_keys (item table k) (slice_get (keyed table nodes) n)) number ∙ keys_from 1 nodes n (omega arith) (omega (arith, many))

-- a test of a mode and an edge which holds where the edge has the mode
pub record HoldsOfOwn (test : Option EdgeMode → Option Edge → Bool) : Type 0 where
  pub none : (mode : Option EdgeMode) → test mode None ≡ true
  pub own : (mode : EdgeMode) (edge : Edge) → test (Some mode) (Some (with_mode mode edge)) ≡ true

-- such are the tests of kinds
pub kinds_hold : HoldsOfOwn says_kinds
kinds_hold = record { none = λ mode. refl; own = λ mode edge. kinds_same mode.kinds }

-- and of updates
pub update_holds : HoldsOfOwn says_update
update_holds = record { none = λ mode. refl; own = λ mode edge. update_same mode.update }

module _ (table : List EdgeMode) (test : Option EdgeMode → Option Edge → Bool) (holds : HoldsOfOwn test) where
  -- edges from a number on carry the modes that they are given
  modes_from : (v : ℕ) (edges : List Edge) (n : ℕ) → 1 ≤ v → v + length edges ≡ suc (length table) → test (item table (v + n)) (slice_get (moded_from v table edges) n) ≡ true
  modes_from v [] n low many = holds.none (item table (v + n))
  modes_from v (edge ∷ edges) zero low many =
      let here : v + 0 ≡ v = omega arith in
      let there : item table v ≡ Some (at no_mode table v) = item_there no_mode table v low (omega (arith, many)) in
      ap (λ k. test (item table k) (Some (with_mode (at no_mode table v) edge))) here
      ∙ ap (λ o. test o (Some (with_mode (at no_mode table v) edge))) there ∙ holds.own (at no_mode table v) edge
  modes_from v (edge ∷ edges) (suc n) low many =
      let there : v + suc n ≡ v + 1 + n = omega arith in
      ap (λ k. test (item table k) (slice_get (moded_from (v + 1) table edges) n)) there ∙ modes_from (v + 1) edges n (omega arith) (omega (arith, many))

  -- and so do all edges
  pub modes_said : (edges : List Edge) → length table ≡ length edges → (v : ℕ) → test (item table v) (item (moded table edges) v) ≡ true
  modes_said edges many zero = holds.none None
  modes_said edges many (suc n) =
      let number : suc n ≡ 1 + n = omega arith in
      ap (λ k. test (item table k) (slice_get (moded table edges) n)) number ∙ modes_from 1 edges n (omega arith) (omega (arith, many))
