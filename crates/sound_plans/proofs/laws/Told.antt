-- Where an edge tells of a row that went its key alone, the key has the columns that fix a row's subtask.
use Rattle.std.specs.Prelude.{◌≡◌, ℕ, Bool, List}
use Rattle.std.proofs.Common.{true, sym, ap, subst, ◌∙◌, Some, None}
use Rattle.std.specs.List.{AllByRecursion, Contains}
use Rattle.ct_change.specs.declared.kind.KindSet.{KindSet}
use Rattle.ct_change.specs.declared.update.Update.{Update}
use Rattle.ct_change.specs.declared.update.Update.TheVariants.{Absent, After, Both}
use Rattle.op_rules.specs.Edges.{KeepsKeys}
use Rattle.emission_rules.specs.Changes.{after_key, mode_after}
use Rattle.column_sets.specs.Sets.{is_within}
use Rattle.mode_infer.specs.Updates.{in_full, told}
use Rattle.sound_plans.specs.Outputs.{AreTold, Output}
use Rattle.sound_plans.proofs.laws.Kinds.{of_full, of_told}
use Rattle.sound_plans.proofs.laws.Members.{one_of}
use Rattle.sound_plans.proofs.laws.Sets.{lies_within}

-- rows in full tell all
pub full_tells : (kinds : KindSet) (sets : List (List ℕ)) → AreTold (in_full kinds) sets
full_tells kinds sets = of_full (λ update. AreTold update sets) kinds tt tt

pub told_in_full : (out : Output) → out.edge.update ≡ in_full out.sent → AreTold out.edge.update out.keys.fixing
told_in_full out full = subst (λ update. AreTold update out.keys.fixing) (sym full) (full_tells out.sent out.keys.fixing)

-- a node without an update key tells them so
pub told_unkeyed : (out : Output) (taken : Bool) → out.update_key ≡ None → out.edge.update ≡ told out.sent out.update_key taken → AreTold out.edge.update out.keys.fixing
told_unkeyed out taken none tells = told_in_full out (tells ∙ ap (λ key. told out.sent key taken) none)

-- and one with an update key tells at least that
pub told_by_key : (out : Output) (taken : Bool) → out.edge.update ≡ told out.sent out.update_key taken
    → ((key : List ℕ) → out.update_key ≡ Some key → AllByRecursion (λ set. is_within set key ≡ true) out.keys.fixing) → AreTold out.edge.update out.keys.fixing
told_by_key out taken tells lie =
    subst (λ update. AreTold update out.keys.fixing) (sym tells) (of_told (λ update. AreTold update out.keys.fixing) out.sent out.update_key taken tt tt (λ key is updates taken. lie key is))

-- rows of one key agree on each of the sets
pub keeps_told : (update : Update) (sets : List (List ℕ)) → AreTold update sets → (set : List ℕ) → Contains sets set → KeepsKeys (mode_after (after_key update)) set
keeps_told Absent sets all set c = tt
keeps_told (After key) sets all set c = lies_within set key (one_of (λ s. is_within s key ≡ true) sets set all c)
keeps_told Both sets all set c = tt
