-- Worked runs over real plans of SELECT word, COUNT(*) FROM t GROUP BY word: into a table of changes, behind a materializer into a table
-- by the word, and in mini-batches.
use Rattle.std.specs.Prelude.{◌≡◌, ℕ, true, false, pos, List, [], ◌∷◌, ◌++◌, codes, Some, None}
use Rattle.ct_value.specs.declared.ty.Ty.TheVariants.{Text as Texts, BigInt}
use Rattle.ct_value.specs.declared.value.Value.TheVariants.{Null, Num, Text}
use Rattle.ct_value.specs.declared.row.Row.{Row}
use Rattle.ct_change.specs.declared.kind.Kind.{Kind}
use Rattle.ct_change.specs.declared.kind.Kind.TheVariants.{I, UB, UA, D}
use Rattle.ct_change.specs.declared.kind.Declared.TheVariants.{Append, Retract, Upsert}
use Rattle.ct_change.specs.declared.kind.KindSet.{KindSet}
use Rattle.ct_change.specs.declared.change.Change.{Change}
use Rattle.ct_change.specs.Changelog.{append, retract, upsert, kinds_of}
use Rattle.ct_catalog.specs.declared.table.ColDef.{ColDef}
use Rattle.ct_catalog.specs.declared.table.TableDef.{TableDef}
use Rattle.rel_algebra.specs.GroupedCounts.{count_all}
use Rattle.rel_algebra.specs.Rel.{Rel}
use Rattle.rel_algebra.specs.Rel as r
use Rattle.phys_plan.specs.declared.edge.Exchange.TheVariants.{Forward, Hash}
use Rattle.ct_change.specs.declared.update.Update.TheVariants.{Absent, Both}
use Rattle.phys_plan.specs.declared.node.Op.TheVariants as op
use Rattle.phys_plan.specs.declared.plan.Plan.{Plan}
use Rattle.mode_infer.specs.Kinds.{kind_set}
use Rattle.plan_rules.specs.Phases.{Bundles}
use Rattle.plan_rules.specs.Pieces.{bare, shown, plan_of_tree}
use Rattle.phys_plan.specs.Reading.{no_keys}
use Rattle.plan_rules.specs.Doings.{network}
use Rattle.stream_model.specs.declared.events.PrintItem.TheVariants.{Change as Printed, Quiet}
use Rattle.run_examples.specs.Worked.{Verb, does, drains, take, printed_by}

-- ---- the plan

abbrev pub word_column : ColDef
word_column = record { name = codes "word"; ty = record { ty = Texts; nullable = false } }

abbrev pub count_column : ColDef
count_column = record { name = codes "n"; ty = record { ty = BigInt; nullable = false } }

abbrev pub word_table : TableDef
word_table = record { name = codes "t"; cols = word_column ∷ []; key = None; mode = Append }

abbrev pub count_table : TableDef
count_table = record { name = codes "out_t"; cols = word_column ∷ count_column ∷ []; key = None; mode = Retract }

-- a count comes and changes, and never goes, where rows only come
abbrev pub counts_change : KindSet
counts_change = kind_set true true true false

-- groups in one phase, in bundles of so many changes
abbrev pub in_bundles : ℕ → Bundles
in_bundles size = record { size = size; two_phase = false }

-- words counted, in one subtask
abbrev pub counts : Plan
counts = record {
  sources = word_table ∷ [];
  sink = count_table;
  nodes =
      record { op = op.Scan 0; inputs = []; keys = no_keys }
      ∷ record { op = op.Group 1 (count_all ∷ []); inputs = 1 ∷ []; keys = no_keys }
      ∷ record { op = op.Sink; inputs = 2 ∷ []; keys = no_keys }
      ∷ [];
  edges =
      record { exchange = Hash (0 ∷ []); kinds = kinds_of append; update = Both }
      ∷ record { exchange = Forward; kinds = counts_change; update = Both }
      ∷ record { exchange = Forward; kinds = kinds_of retract; update = Absent }
      ∷ [];
  parallelism = 1;
  mini_batch = 0;
}

abbrev pub counts_rel : Rel
counts_rel = r.Group (r.Scan 0) 1 (count_all ∷ [])

-- the same behind a materializer by the word, into a table that has one row of each word
abbrev pub word_counts : TableDef
word_counts = record { name = codes "out_t"; cols = word_column ∷ count_column ∷ []; key = Some (0 ∷ []); mode = Upsert }

abbrev pub shown_counts : Plan
shown_counts = record {
  sources = word_table ∷ [];
  sink = word_counts;
  nodes =
      record { op = op.Scan 0; inputs = []; keys = no_keys }
      ∷ record { op = op.Group 1 (count_all ∷ []); inputs = 1 ∷ []; keys = no_keys }
      ∷ record { op = op.Materialize (0 ∷ []); inputs = 2 ∷ []; keys = no_keys }
      ∷ record { op = op.Sink; inputs = 3 ∷ []; keys = no_keys }
      ∷ [];
  edges =
      record { exchange = Hash (0 ∷ []); kinds = kinds_of append; update = Both }
      ∷ record { exchange = Hash (0 ∷ []); kinds = counts_change; update = Both }
      ∷ record { exchange = Forward; kinds = kinds_of (upsert (0 ∷ [])); update = Both }
      ∷ record { exchange = Forward; kinds = kinds_of retract; update = Absent }
      ∷ [];
  parallelism = 1;
  mini_batch = 0;
}

-- the same in mini-batches of a thousand rows, into a table of changes
abbrev pub bundled_counts : Plan
bundled_counts = record {
  sources = word_table ∷ [];
  sink = count_table;
  nodes =
      record { op = op.Scan 0; inputs = []; keys = no_keys }
      ∷ record { op = op.BatchGroup 1 (count_all ∷ []); inputs = 1 ∷ []; keys = no_keys }
      ∷ record { op = op.Sink; inputs = 2 ∷ []; keys = no_keys }
      ∷ [];
  edges =
      record { exchange = Hash (0 ∷ []); kinds = kinds_of append; update = Both }
      ∷ record { exchange = Forward; kinds = counts_change; update = Both }
      ∷ record { exchange = Forward; kinds = kinds_of retract; update = Absent }
      ∷ [];
  parallelism = 1;
  mini_batch = 1000;
}

-- ---- the runs

abbrev pub a_word : Row
a_word = Text (codes "a") ∷ []

abbrev pub a_comes : Change
a_comes = record { kind = I; row = a_word }

-- a row comes twice
abbrev pub twice : List Verb
twice = does (take 0 a_comes ∷ take 0 a_comes ∷ []) ∷ drains ∷ []

abbrev pub counted : Kind → ℕ → Change
counted kind n = record { kind = kind; row = a_word ++ Num (pos n) ∷ [] }

pub record CountsAsWorked : Type 0 where
  pub is_plan : counts ≡ plan_of_tree (word_table ∷ []) count_table 1 (in_bundles 0) bare counts_rel
  -- the first count, and then the second in its place
  pub printed : printed_by (network counts) twice ≡ Printed (counted I 1) ∷ Printed (counted UB 1) ∷ Printed (counted UA 2) ∷ Quiet (2 ∷ []) ∷ []

-- a word's row goes by its key alone
abbrev pub word_gone : Change
word_gone = record { kind = D; row = a_word ++ Null ∷ [] }

pub record ShownAsWorked : Type 0 where
  pub is_plan : shown_counts ≡ plan_of_tree (word_table ∷ []) word_counts 1 (in_bundles 0) (shown (0 ∷ [])) counts_rel
  -- the first count, which goes before the second comes
  pub printed : printed_by (network shown_counts) twice ≡ Printed (counted I 1) ∷ Printed word_gone ∷ Printed (counted I 2) ∷ Quiet (2 ∷ []) ∷ []

pub record BundledAsWorked : Type 0 where
  pub is_plan : bundled_counts ≡ plan_of_tree (word_table ∷ []) count_table 1 (in_bundles 1000) bare counts_rel
  -- both rows are one change of the group
  pub printed : printed_by (network bundled_counts) twice ≡ Printed (counted I 2) ∷ Quiet (2 ∷ []) ∷ []
