-- Worked plans, with the kinds that their edges carry, how these tell updates, and the keys of their nodes. None has a Project, whose items can't
-- be looked at in a computation.
use Rattle.std.specs.Prelude.{ℕ, Bool, true, false, List, [], ◌∷◌, codes, None, Some}
use Rattle.ct_value.specs.declared.value.Value.TheVariants as value
use Rattle.ct_value.specs.declared.ty.Ty.TheVariants as ty
use Rattle.ct_value.specs.declared.ty.ColTy.{ColTy}
use Rattle.ct_change.specs.declared.kind.Declared.{Declared}
use Rattle.ct_change.specs.declared.kind.KindSet.{KindSet}
use Rattle.ct_change.specs.declared.kind.Declared.TheVariants.{Append, Retract, Upsert}
use Rattle.ct_catalog.specs.declared.table.TableDef.{TableDef}
use Rattle.ct_expr.specs.declared.expr.Expr.TheVariants as e
use Rattle.rel_algebra.specs.declared.agg.Agg.{Agg}
use Rattle.rel_algebra.specs.declared.agg.AggCall.TheVariants.{CountAll}
use Rattle.rel_algebra.specs.declared.join.Pair.{Pair}
use Rattle.rel_algebra.specs.declared.join.JoinKind.{JoinKind}
use Rattle.rel_algebra.specs.declared.join.JoinKind.TheVariants.{Inner, Left, Right, Full}
use Rattle.ct_change.specs.declared.update.Update.{Update}
use Rattle.ct_change.specs.declared.update.Update.TheVariants.{Absent, After, Both}
use Rattle.phys_plan.specs.declared.node.KeyInfo.{KeyInfo}
use Rattle.phys_plan.specs.declared.node.Op.{Op}
use Rattle.phys_plan.specs.declared.node.Op.TheVariants as op
use Rattle.mode_infer.specs.Kinds.{inserts, kind_set}
use Rattle.run_examples.specs.Plans.{Example, must, may, table, forward, hashed, families, keyed, fixed, keyless}

-- ---- kinds

abbrev pub inserts_and_deletes : KindSet
inserts_and_deletes = kind_set true false false true

abbrev pub inserts_and_new : KindSet
inserts_and_new = kind_set true false true false

abbrev pub inserts_and_updates : KindSet
inserts_and_updates = kind_set true true true false

abbrev pub all_but_old : KindSet
all_but_old = kind_set true false true true

abbrev pub all_kinds : KindSet
all_kinds = kind_set true true true true

-- ---- operators

abbrev pub filter : Op
filter = op.Filter (e.Literal (value.Bool true) ty.Bool)

-- one COUNT(*)
abbrev pub count : List Agg
count = record { call = CountAll; arg = None; filter = None } ∷ []

abbrev pub group : Op
group = op.Group 1 count

abbrev pub pair : ℕ → ℕ → List Pair
pair left right = record { left = left; right = right } ∷ []

-- the first rows of each partition by the second column, by the third and then the first
abbrev pub top : ℕ → Bool → Op
top bound ranked = op.TopN (1 ∷ []) (record { col = 2; desc = true } ∷ record { col = 0; desc = false } ∷ []) bound ranked

-- ---- a grouped count of words, into a table keyed by the word

abbrev pub words : Declared → TableDef
words mode = table (codes "t") (must ∷ []) mode None

abbrev pub counts : Declared → TableDef
counts mode = table (codes "out_t") (must ∷ may ∷ []) mode (Some (0 ∷ []))

abbrev pub counted : Declared → List KindSet → Update → Example
counted mode kinds update = record {
  sources = words Append ∷ [];
  sink = counts mode;
  laid = hashed 0 (op.Scan 0) [] (must ∷ []) ∷ forward group (1 ∷ []) (must ∷ must ∷ []) ∷ forward op.Sink (2 ∷ []) (must ∷ must ∷ []) ∷ [];
  kinds = kinds;
  keys = fixed 0 ∷ keyed 0 ∷ keyless ∷ [];
  updates = Absent ∷ update ∷ Absent ∷ [];
}

-- new rows come alone into an upsert sink by its key
abbrev pub into_upsert : Example
into_upsert = counted Upsert (inserts ∷ inserts_and_new ∷ inserts_and_new ∷ []) (After (0 ∷ []))

abbrev pub into_retract : Example
into_retract = counted Retract (inserts ∷ inserts_and_updates ∷ inserts_and_updates ∷ []) Both

-- and what another node makes of it
abbrev pub counted_and : Op → List KindSet → KeyInfo → Update → Update → Example
counted_and then kinds keys first second = record {
  sources = words Append ∷ [];
  sink = counts Upsert;
  laid = hashed 0 (op.Scan 0) [] (must ∷ []) ∷ forward group (1 ∷ []) (must ∷ must ∷ []) ∷ forward then (2 ∷ []) (must ∷ must ∷ []) ∷ forward op.Sink (3 ∷ []) (must ∷ must ∷ []) ∷ [];
  kinds = kinds;
  keys = fixed 0 ∷ keyed 0 ∷ keys ∷ keyless ∷ [];
  updates = Absent ∷ first ∷ second ∷ Absent ∷ [];
}

-- a Filter needs the old rows
abbrev pub filtered : Example
filtered = counted_and filter (inserts ∷ inserts_and_updates ∷ inserts_and_updates ∷ inserts_and_deletes ∷ [])
    (keyed 0) Both Both

-- in two phases: above a local group kinds are those of its input
abbrev pub in_phases : Declared → List KindSet → Update → Example
in_phases mode kinds first = record {
  sources = words mode ∷ [];
  sink = counts Retract;
  laid = forward (op.Scan 0) [] (must ∷ []) ∷ hashed 0 (op.LocalGroup 1 count) (1 ∷ []) (must ∷ must ∷ must ∷ []) ∷ forward (op.BatchGroup 1 count) (2 ∷ []) (must ∷ must ∷ []) ∷ forward op.Sink (3 ∷ []) (must ∷ must ∷ []) ∷ [];
  kinds = kinds;
  keys = fixed 0 ∷ keyless ∷ keyed 0 ∷ keyless ∷ [];
  updates = first ∷ Absent ∷ Both ∷ Absent ∷ [];
}

abbrev pub phases_of_inserts : Example
phases_of_inserts = in_phases Append (inserts ∷ inserts ∷ inserts_and_updates ∷ inserts_and_updates ∷ []) Absent

abbrev pub phases_of_changes : Example
phases_of_changes = in_phases Retract (all_kinds ∷ inserts ∷ all_kinds ∷ all_kinds ∷ []) Both

-- ---- orders joined with their customers, into a table keyed by the order's number

pub record Joined : Type 0 where
  pub kind : JoinKind
  pub kinds : KindSet
  pub keys : KeyInfo
  pub update : Update

abbrev pub cities : Joined → Example
cities j = record {
  sources = table (codes "orders") (must ∷ must ∷ []) Retract (Some (0 ∷ [])) ∷ table (codes "customers") (must ∷ may ∷ []) Append (Some (0 ∷ [])) ∷ [];
  sink = table (codes "out_t") (must ∷ may ∷ may ∷ may ∷ []) Upsert (Some (0 ∷ []));
  laid =
      hashed 1 (op.Scan 0) [] (must ∷ must ∷ []) ∷ hashed 0 (op.Scan 1) [] (must ∷ may ∷ [])
      ∷ hashed 0 (op.Join j.kind (pair 1 0) None) (1 ∷ 2 ∷ []) (must ∷ must ∷ must ∷ may ∷ [])
      ∷ forward (op.Materialize (0 ∷ [])) (3 ∷ []) (must ∷ must ∷ must ∷ may ∷ [])
      ∷ forward op.Sink (4 ∷ []) (must ∷ must ∷ must ∷ may ∷ []) ∷ [];
  kinds =
      all_kinds ∷ inserts
      ∷ j.kinds ∷ all_but_old ∷ all_but_old ∷ [];
  keys = keyed 0 ∷ keyed 0 ∷ j.keys ∷ keyed 0 ∷ keyless ∷ [];
  updates = Both ∷ Absent ∷ j.update ∷ After (0 ∷ []) ∷ Absent ∷ [];
}

-- the order's number is a key of each answer and of what one subtask sends. It doesn't hold over all subtasks, since these are fixed
-- by the customer alone
abbrev pub joined_inner : Example
joined_inner = cities (record {
  kind = Inner;
  kinds = all_kinds;
  keys = families ((0 ∷ []) ∷ []) ((0 ∷ []) ∷ []) ((1 ∷ []) ∷ (2 ∷ []) ∷ []);
  update = Both;
})

-- a row without a customer is fixed by its own column alone
abbrev pub joined_left : Example
joined_left = cities (record {
  kind = Left;
  kinds = inserts_and_deletes;
  keys = families ((0 ∷ []) ∷ []) ((0 ∷ []) ∷ []) ((1 ∷ []) ∷ []);
  update = Absent;
})

-- a customer's row without orders has no number of an order
abbrev pub joined_right : Example
joined_right = cities (record {
  kind = Right;
  kinds = inserts_and_deletes;
  keys = families ((0 ∷ 2 ∷ []) ∷ []) ((0 ∷ 2 ∷ []) ∷ []) ((2 ∷ []) ∷ []);
  update = Absent;
})

-- ---- two tables counted, and the counts joined in full

abbrev pub joined_counts : Example
joined_counts = record {
  sources = table (codes "a") (may ∷ []) Append None ∷ table (codes "b") (may ∷ []) Append None ∷ [];
  sink = table (codes "out_t") (may ∷ may ∷ may ∷ may ∷ []) Retract None;
  laid =
      hashed 0 (op.Scan 0) [] (may ∷ []) ∷ hashed 0 group (1 ∷ []) (may ∷ must ∷ [])
      ∷ hashed 0 (op.Scan 1) [] (may ∷ []) ∷ hashed 0 group (3 ∷ []) (may ∷ must ∷ [])
      ∷ forward (op.Join Full (pair 0 0) None) (2 ∷ 4 ∷ []) (may ∷ may ∷ may ∷ may ∷ []) ∷ forward op.Sink (5 ∷ []) (may ∷ may ∷ may ∷ may ∷ []) ∷ [];
  kinds =
      inserts ∷ inserts_and_new
      ∷ inserts ∷ inserts_and_new
      ∷ inserts_and_deletes ∷ inserts_and_deletes ∷ [];
  keys = fixed 0 ∷ keyed 0 ∷ fixed 0 ∷ keyed 0 ∷ families [] [] ((0 ∷ 2 ∷ []) ∷ []) ∷ keyless ∷ [];
  updates = Absent ∷ After (0 ∷ []) ∷ Absent ∷ After (0 ∷ []) ∷ Absent ∷ Absent ∷ [];
}

-- ---- rows with a match, or those with none

abbrev pub matched : Bool → KindSet → Example
matched anti kinds = record {
  sources = table (codes "a") (may ∷ may ∷ []) Append None ∷ table (codes "b") (may ∷ []) Append None ∷ [];
  sink = table (codes "out_t") (may ∷ may ∷ []) Append None;
  laid =
      hashed 1 (op.Scan 0) [] (may ∷ may ∷ []) ∷ hashed 0 (op.Scan 1) [] (may ∷ [])
      ∷ forward (op.Semi anti (pair 1 0) None) (1 ∷ 2 ∷ []) (may ∷ may ∷ []) ∷ forward op.Sink (3 ∷ []) (may ∷ may ∷ []) ∷ [];
  kinds = inserts ∷ inserts ∷ kinds ∷ kinds ∷ [];
  keys = families [] [] ((0 ∷ 1 ∷ []) ∷ []) ∷ fixed 0 ∷ fixed 1 ∷ keyless ∷ [];
  updates = Absent ∷ Absent ∷ Absent ∷ Absent ∷ [];
}

abbrev pub with_match : Example
with_match = matched false inserts

abbrev pub without_match : Example
without_match = matched true inserts_and_deletes

-- ---- three tables joined by their first columns: each key is one of the joined rows, since the others are joined by theirs

abbrev pub joined_three : Example
joined_three = record {
  sources = table (codes "a") (may ∷ may ∷ []) Append (Some (0 ∷ [])) ∷ table (codes "b") (may ∷ may ∷ []) Append (Some (0 ∷ [])) ∷ table (codes "c") (may ∷ may ∷ []) Append (Some (0 ∷ [])) ∷ [];
  sink = table (codes "out_t") (may ∷ may ∷ may ∷ may ∷ may ∷ may ∷ []) Retract None;
  laid =
      hashed 0 (op.Scan 0) [] (may ∷ may ∷ []) ∷ hashed 0 (op.Scan 1) [] (may ∷ may ∷ []) ∷ hashed 0 (op.Scan 2) [] (may ∷ may ∷ [])
      ∷ forward (op.MultiJoin (pair 0 0 ∷ pair 2 0 ∷ [])) (1 ∷ 2 ∷ 3 ∷ []) (may ∷ may ∷ may ∷ may ∷ may ∷ may ∷ []) ∷ forward op.Sink (4 ∷ []) (may ∷ may ∷ may ∷ may ∷ may ∷ may ∷ []) ∷ [];
  kinds =
      inserts ∷ inserts ∷ inserts
      ∷ inserts ∷ inserts ∷ [];
  keys =
      keyed 0 ∷ keyed 0 ∷ keyed 0
      ∷ families ((0 ∷ []) ∷ (2 ∷ []) ∷ (4 ∷ []) ∷ []) ((0 ∷ []) ∷ (2 ∷ []) ∷ (4 ∷ []) ∷ []) ((2 ∷ []) ∷ (4 ∷ []) ∷ []) ∷ keyless ∷ [];
  updates = Absent ∷ Absent ∷ Absent ∷ Absent ∷ Absent ∷ [];
}

-- ---- the first rows of each partition

abbrev pub first_rows : ℕ → Bool → List ColTy → KindSet → Update → KeyInfo → Example
first_rows bound ranked columns kinds update keys = record {
  sources = table (codes "t") (must ∷ may ∷ may ∷ []) Retract (Some (0 ∷ [])) ∷ [];
  sink = table (codes "out_t") columns Retract None;
  laid = hashed 1 (op.Scan 0) [] (must ∷ may ∷ may ∷ []) ∷ forward (top bound ranked) (1 ∷ []) columns ∷ forward op.Sink (2 ∷ []) columns ∷ [];
  kinds = all_kinds ∷ kinds ∷ kinds ∷ [];
  keys = keyed 0 ∷ keys ∷ keyless ∷ [];
  updates = Both ∷ update ∷ Absent ∷ [];
}

-- while a message is told, a row stands at two ranks; only partition and rank are a key at every moment
abbrev pub with_ranks : Example
with_ranks = first_rows 2 true (must ∷ may ∷ may ∷ must ∷ []) all_kinds Both
    (families ((0 ∷ []) ∷ (1 ∷ 3 ∷ []) ∷ []) ((1 ∷ 3 ∷ []) ∷ []) ((1 ∷ []) ∷ []))

abbrev pub without_ranks : Example
without_ranks = first_rows 2 false (must ∷ may ∷ may ∷ []) inserts_and_deletes Absent
    (families ((0 ∷ []) ∷ []) ((0 ∷ []) ∷ []) ((1 ∷ []) ∷ []))

abbrev pub first_alone : Example
first_alone = first_rows 1 false (must ∷ may ∷ may ∷ []) all_kinds Both
    (families ((0 ∷ []) ∷ (1 ∷ []) ∷ []) ((0 ∷ []) ∷ (1 ∷ []) ∷ []) ((1 ∷ []) ∷ []))

-- ---- one table without another, or the rows of both; without ALL rows are keys

abbrev pub of_two : Bool → Bool → KindSet → KeyInfo → Example
of_two except all kinds keys = record {
  sources = table (codes "a") (may ∷ []) Append None ∷ table (codes "b") (may ∷ []) Append None ∷ [];
  sink = table (codes "out_t") (may ∷ []) Append None;
  laid = hashed 0 (op.Scan 0) [] (may ∷ []) ∷ hashed 0 (op.Scan 1) [] (may ∷ []) ∷ forward (op.SetOp except all 1) (1 ∷ 2 ∷ []) (may ∷ []) ∷ forward op.Sink (3 ∷ []) (may ∷ []) ∷ [];
  kinds = inserts ∷ inserts ∷ kinds ∷ kinds ∷ [];
  keys = fixed 0 ∷ fixed 0 ∷ keys ∷ keyless ∷ [];
  updates = Absent ∷ Absent ∷ Absent ∷ Absent ∷ [];
}

abbrev pub excepted : Example
excepted = of_two true false inserts_and_deletes (keyed 0)

abbrev pub intersected : Example
intersected = of_two false true inserts (fixed 0)

-- ---- a table of updates by key, which is normalized

abbrev pub normalized : Example
normalized = record {
  sources = table (codes "c") (must ∷ may ∷ []) Upsert (Some (0 ∷ [])) ∷ [];
  sink = table (codes "out_t") (may ∷ may ∷ []) Retract None;
  laid = hashed 0 (op.Scan 0) [] (must ∷ may ∷ []) ∷ forward (op.Normalize (0 ∷ [])) (1 ∷ []) (must ∷ may ∷ []) ∷ forward op.Sink (2 ∷ []) (must ∷ may ∷ []) ∷ [];
  kinds = all_but_old ∷ all_kinds ∷ all_kinds ∷ [];
  keys = keyed 0 ∷ keyed 0 ∷ keyless ∷ [];
  updates = After (0 ∷ []) ∷ Both ∷ Absent ∷ [];
}

abbrev pub examples : List Example
examples =
    into_upsert ∷ into_retract ∷ filtered ∷ phases_of_inserts ∷ phases_of_changes
    ∷ joined_inner ∷ joined_left ∷ joined_right ∷ joined_counts ∷ with_match ∷ without_match ∷ joined_three
    ∷ with_ranks ∷ without_ranks ∷ first_alone ∷ excepted ∷ intersected ∷ normalized ∷ []
