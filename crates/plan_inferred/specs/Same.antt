-- When what is said of a node or of an edge is what is inferred of it.
use Rattle.std.specs.Prelude.{ℕ, Bool, true, false, not, ◌&&◌, List, [], ◌∷◌}
use Rattle.std.specs.Str.{bytes_eq as same_numbers}
use Rattle.ct_change.specs.declared.kind.KindSet.{KindSet}
use Rattle.phys_plan.specs.declared.edge.Exchange.{Exchange}
use Rattle.phys_plan.specs.declared.edge.Exchange.TheVariants.{Forward, Hash}
use Rattle.ct_change.specs.declared.update.Update.{Update}
use Rattle.ct_change.specs.declared.update.Update.TheVariants.{Absent, After, Both}
use Rattle.phys_plan.specs.declared.node.KeyInfo.{KeyInfo}

-- set by set, in order
abbrev pub same_sets : List (List ℕ) → List (List ℕ) → Bool
same_sets [] [] = true
same_sets (set ∷ sets) (other ∷ others) = same_numbers set other && same_sets sets others
same_sets _ _ = false

abbrev pub same_keys : KeyInfo → KeyInfo → Bool
same_keys keys other = same_sets keys.unique other.unique && (same_sets keys.local other.local && same_sets keys.fixing other.fixing)

abbrev pub same_truth : Bool → Bool → Bool
same_truth true other = other
same_truth false other = not other

abbrev pub same_kinds : KindSet → KindSet → Bool
same_kinds kinds other = same_truth kinds.i other.i && (same_truth kinds.ub other.ub && (same_truth kinds.ua other.ua && same_truth kinds.d other.d))

abbrev pub same_update : Update → Update → Bool
same_update Absent Absent = true
same_update (After key) (After other) = same_numbers key other
same_update Both Both = true
same_update _ _ = false

abbrev pub same_exchange : Exchange → Exchange → Bool
same_exchange Forward Forward = true
same_exchange (Hash cols) (Hash others) = same_numbers cols others
same_exchange _ _ = false
