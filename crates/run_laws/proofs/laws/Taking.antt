-- What the machine does with a line of a change file.
use Rattle.std.specs.Prelude.{◌≡◌, ℕ, ◌+◌, ◌&&◌, nat_le, nat_lt, Bool, cond, Option, Result, slice_get, option_map}
use Rattle.std.proofs.Common.{true, false, refl, sym, ap, subst, ◌∙◌, Some, None, Ok, Err}
use Rattle.ct_value.specs.declared.codes.ChangeCode.{ChangeCode}
use Rattle.ct_catalog.specs.declared.table.TableDef.{TableDef}
use Rattle.job_text.specs.declared.line.Line.{Line}
use Rattle.job_text.specs.Lines.{Record, line_in}
use Rattle.phys_plan.specs.declared.plan.Plan.{Plan}
use Rattle.stream_model.specs.declared.events.Event.TheVariants.{Take}
use Rattle.stream_model.specs.declared.events.StepFault.{StepFault}
use Rattle.stream_model.specs.declared.events.StepFault.TheVariants.{Change as Refused, Order, Range, Limit, Memory}
use Rattle.stream_model.specs.Tables.{Table as Source, scanned_at}
use Rattle.stream_model.specs.Network.{Network}
use Rattle.stream_model.specs.Machine.{State, scan_count, scanned, take, take_of, take_unless}
use Rattle.stream_model.specs.Runs.{happens, IsTyped}
use Rattle.plan_rules.specs.Plans.{table_of}
use Rattle.plan_rules.specs.Doings.{network}
use Rattle.source_lines.specs.Kept.{refusal_after}
use Rattle.source_lines.specs.Taken.{line_refusal, refusal_in, with_line}
use Rattle.source_lines.specs.Fitting.{LinesFitColumns}
use Rattle.source_lines.proofs.laws.Along.{ok_same}

some_same : {A : Type 0} (o : Option A) (a b : A) → o ≡ Some a → o ≡ Some b → a ≡ b
some_same o a b p q = cc (p, q)

-- a line is taken, refused, or passes the limit
abbrev pub Answers : Result State StepFault → Type 0
Answers (Ok t) = Unit {0}
Answers (Err (Refused code)) = Unit {0}
Answers (Err (Order code)) = ⊥
Answers (Err (Range node subtask row types)) = ⊥
Answers (Err Limit) = Unit {0}
Answers (Err Memory) = ⊥

module _ (plan : Plan) (limit : ℕ) (s : State) (line : Line) where
  abbrev g : Network
  g = network plan

  abbrev Takes : Result State StepFault → Type 0
  Takes r = take g limit s line.table line.change ≡ r

  -- ---- a line that is taken

  pub record TookOne (t : State) : Type 0 where
    pub free : line_refusal plan.sources s.taken line ≡ None
    pub taken : t.taken ≡ with_line s.taken line
    pub printed : t.printed ≡ s.printed

  within : (at : ℕ) (t : State) (b : Bool) → cond b (Ok (scanned g line.table at line.change s)) (Err Limit) ≡ Ok t → scanned g line.table at line.change s ≡ t
  within at t true e = ok_same (scanned g line.table at line.change s) t e
  within at t false e = absurd (cc (e))

  unless : (def : TableDef) (at : ℕ) (t : State) (o : Option ChangeCode) → refusal_after def (s.taken line.table) line.change ≡ o → slice_get plan.sources line.table ≡ Some def → take_unless g limit s line.table line.change at o ≡ Ok t → TookOne t
  unless def at t (Some code) is there e = absurd (cc (e))
  unless def at t None is there e =
      let same = within at t (nat_lt s.took limit && nat_le (s.sends + scan_count g line.table) limit) e in
      record {
        free = ap (λ (o : Option TableDef). refusal_in o (s.taken line.table) line.change) there ∙ is;
        taken = sym (ap (λ (u : State). u.taken) same);
        printed = sym (ap (λ (u : State). u.printed) same);
      }

  by_table : (t : State) (o : Option TableDef) → slice_get plan.sources line.table ≡ o → take_of g limit s line.table line.change (option_map (table_of plan.parallelism) o) ≡ Ok t → TookOne t
  by_table t None there e = absurd (cc (e))
  by_table t (Some def) there e = unless def (scanned_at (table_of plan.parallelism def) line.change) t (refusal_after def (s.taken line.table) line.change) refl there e

  pub took_one : (t : State) → Takes (Ok t) → TookOne t
  took_one t e = by_table t (slice_get plan.sources line.table) refl e

  -- ---- a line that isn't refused

  free_within : (b : Bool) (t : State) (code : ChangeCode) → cond b (Ok t) (Err Limit) ≡ Err (Refused code) → ⊥
  free_within true t code e = absurd (cc (e))
  free_within false t code e = absurd (cc (e))

  free_unless : (at : ℕ) (code : ChangeCode) (o : Option ChangeCode) → o ≡ None → take_unless g limit s line.table line.change at o ≡ Err (Refused code) → ⊥
  free_unless at code (Some other) free e = absurd (cc (free))
  free_unless at code None free e = free_within (nat_lt s.took limit && nat_le (s.sends + scan_count g line.table) limit) (scanned g line.table at line.change s) code e

  free_by_table : (code : ChangeCode) (o : Option TableDef) → refusal_in o (s.taken line.table) line.change ≡ None → take_of g limit s line.table line.change (option_map (table_of plan.parallelism) o) ≡ Err (Refused code) → ⊥
  free_by_table code None free e = absurd (cc (e))
  free_by_table code (Some def) free e = free_unless (scanned_at (table_of plan.parallelism def) line.change) code (refusal_after def (s.taken line.table) line.change) free e

  -- the machine doesn't refuse it
  pub not_refused : (code : ChangeCode) → line_refusal plan.sources s.taken line ≡ None → Takes (Err (Refused code)) → ⊥
  not_refused code free e = free_by_table code (slice_get plan.sources line.table) free e

  -- ---- a line of a source

  module _ (fit : LinesFitColumns) (feed : Option ℕ) (fields : Record) (is : line_in plan.sources feed fields ≡ Ok line) where
    pub one_typed : line_refusal plan.sources s.taken line ≡ None → IsTyped g (happens (Take line.table line.change))
    one_typed free = λ table e.
        let found = fit plan.sources feed fields line s.taken is free in
        let same : table_of plan.parallelism found.0 ≡ table =
        some_same (option_map (table_of plan.parallelism) (slice_get plan.sources line.table)) (table_of plan.parallelism found.0) table (ap (option_map (table_of plan.parallelism)) found.1) e in
        subst (λ (x : Source). x.fits line.change ≡ true) same found.2.is.fits

    answers_within : (b : Bool) (t : State) → Answers (cond b (Ok t) (Err Limit))
    answers_within true t = tt
    answers_within false t = tt

    answers_unless : (at : ℕ) (o : Option ChangeCode) → Answers (take_unless g limit s line.table line.change at o)
    answers_unless at (Some code) = tt
    answers_unless at None = answers_within (nat_lt s.took limit && nat_le (s.sends + scan_count g line.table) limit) (scanned g line.table at line.change s)

    no_table : slice_get plan.sources line.table ≡ None → ⊥
    no_table none =
        let found = fit plan.sources feed fields line s.taken is (ap (λ (o : Option TableDef). refusal_in o (s.taken line.table) line.change) none) in
        cc (none, found.1)

    answers_of : (o : Option TableDef) → slice_get plan.sources line.table ≡ o → Answers (take_of g limit s line.table line.change (option_map (table_of plan.parallelism) o))
    answers_of None none = absurd (no_table none)
    answers_of (Some def) there = answers_unless (scanned_at (table_of plan.parallelism def) line.change) (refusal_after def (s.taken line.table) line.change)

    pub answers : Answers (take g limit s line.table line.change)
    answers = answers_of (slice_get plan.sources line.table) refl
