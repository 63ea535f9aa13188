-- What a consumer sees of the keys of an input are keys of its edge.
use Rattle.std.specs.Prelude.{◌≡◌, ℕ, List, length}
use Rattle.std.proofs.Common.{true, refl, sym, subst}
use Rattle.std.specs.List.{AllByRecursion, Contains}
use Rattle.op_rules.specs.Edges.{Edge, Exchange as Sends, HoldsOver, IsSeen, IsSeenBy, LiesIn}
use Rattle.phys_plan.specs.declared.edge.Exchange.{Exchange}
use Rattle.phys_plan.specs.declared.edge.Exchange.TheVariants.{Forward, Hash}
use Rattle.column_sets.specs.Sets.{unions}
use Rattle.upsert_keys.specs.Seen.{everywhere, seen_over}
use Rattle.plan_inferred.specs.Ways.{holds_everywhere}
use Rattle.sound_plans.specs.Outputs.{AreWithin, IsProper, Output, edge_of, no_output, seen}
use Rattle.sound_plans.proofs.laws.KeyFamilies.{of_unions, one_within}
use Rattle.sound_plans.proofs.laws.Sets.{left_lies, lies_through, lies_within, right_lies}
use Rattle.sound_plans.proofs.laws.Widths.{each_union}

-- a local key with a set that fixes the subtask holds over all subtasks
pub over : (edge : Edge) (key : List ℕ) → Contains (unions edge.local edge.fixing) key → HoldsOver edge key
over edge key c =
    let u = of_unions edge.local edge.fixing key c in
    record {
      local = u.one;
      fixing = u.other;
      is_local = u.has_one;
      is_fixing = u.has_other;
      has_local = subst (λ k. LiesIn u.one k) (sym u.is) (left_lies u.one u.other);
      has_fixing = subst (λ k. LiesIn u.other k) (sym u.is) (right_lies u.one u.other);
    }

pub over_of : (many : ℕ) (out : Output) (key : List ℕ) → Contains (everywhere out.keys) key → HoldsOver (edge_of many out) key
over_of many out key c = over (edge_of many out) key c

-- so does each set of columns in which such a key lies
pub holds_over : (many : ℕ) (out : Output) (key : List ℕ) → holds_everywhere out.keys key ≡ true → HoldsOver (edge_of many out) key
holds_over many out key e =
    let one = one_within (everywhere out.keys) key e in
    let whole = over_of many out one.0 one.1 in
    let lies = lies_within one.0 key one.2 in
    record {
      local = whole.local;
      fixing = whole.fixing;
      is_local = whole.is_local;
      is_fixing = whole.is_fixing;
      has_local = lies_through whole.local one.0 key whole.has_local lies;
      has_fixing = lies_through whole.fixing one.0 key whole.has_fixing lies;
    }

-- an exchange as the network has it
abbrev by : Exchange → Sends
by exchange = (edge_of 0 (record no_output { edge = record no_output.edge { exchange = exchange } })).exchange

seen_by : (many : ℕ) (out : Output) (key : List ℕ) (exchange : Exchange) → Contains (seen_over exchange out.columns out.keys).local key → IsSeenBy (by exchange) (edge_of many out) key
seen_by many out key Forward c = c
seen_by many out key (Hash columns) c = over_of many out key c

pub seen_of : (many : ℕ) (out : Output) (key : List ℕ) → Contains (seen out).local key → IsSeen (edge_of many out) key
seen_of many out key c = seen_by many out key out.edge.exchange c

-- behind a hash edge those keys are seen that hold over all subtasks
pub seen_over_all : (many : ℕ) (out : Output) (key columns : List ℕ) → out.edge.exchange ≡ Hash columns → Contains (everywhere out.keys) key → IsSeen (edge_of many out) key
seen_over_all many out key columns e c = subst (λ x. IsSeenBy (by x) (edge_of many out) key) (sym e) (over_of many out key c)

-- ---- what an exchange leaves as it is

unique_by : (out : Output) (exchange : Exchange) → (seen_over exchange out.columns out.keys).unique ≡ out.keys.unique
unique_by out Forward = refl
unique_by out (Hash columns) = refl

pub seen_unique : (out : Output) → (seen out).unique ≡ out.keys.unique
seen_unique out = unique_by out out.edge.exchange

everywhere_by : (out : Output) (exchange : Exchange) → (seen_over exchange out.columns out.keys).everywhere ≡ everywhere out.keys
everywhere_by out Forward = refl
everywhere_by out (Hash columns) = refl

pub seen_everywhere : (out : Output) → (seen out).everywhere ≡ everywhere out.keys
seen_everywhere out = everywhere_by out out.edge.exchange

columns_by : (out : Output) (exchange : Exchange) → (seen_over exchange out.columns out.keys).columns ≡ out.columns
columns_by out Forward = refl
columns_by out (Hash columns) = refl

pub seen_columns : (out : Output) → (seen out).columns ≡ out.columns
seen_columns out = columns_by out out.edge.exchange

-- and a forward edge all else
pub seen_forward : (out : Output) → out.edge.exchange ≡ Forward → seen out ≡ seen_over Forward out.columns out.keys
seen_forward out e = λ i. seen_over (e i) out.columns out.keys

pub seen_hashed : (out : Output) (columns : List ℕ) → out.edge.exchange ≡ Hash columns → seen out ≡ seen_over (Hash columns) out.columns out.keys
seen_hashed out columns e = λ i. seen_over (e i) out.columns out.keys

-- ---- their columns are there

pub everywhere_within : (out : Output) → IsProper out → AllByRecursion (AreWithin (length out.columns)) (everywhere out.keys)
everywhere_within out proper = each_union (length out.columns) out.keys.local out.keys.fixing proper.local proper.fixing

local_by : (out : Output) (exchange : Exchange) → IsProper out → AllByRecursion (AreWithin (length out.columns)) (seen_over exchange out.columns out.keys).local
local_by out Forward proper = proper.local
local_by out (Hash columns) proper = everywhere_within out proper

pub local_within : (out : Output) → IsProper out → AllByRecursion (AreWithin (length out.columns)) (seen out).local
local_within out proper = local_by out out.edge.exchange proper
