-- A session that takes lines goes along the machine's run over them.
use Rattle.std.specs.Prelude.{◌≡◌, ◌⊎◌, ◌&&◌, nat_lt, nat_le, ℕ, ◌+◌, cond, set, slice_get, Bool, Option, Result, List, option_map}
use Rattle.std.proofs.Common.{zero, suc, [], ◌∷◌, refl, sym, ap, subst, ◌∙◌, Some, None, Ok, Err, true, false, inl, inr, arith}
use Rattle.ct_value.specs.declared.codes.ChangeCode.{ChangeCode}
use Rattle.ct_change.specs.declared.change.Change.{Change}
use Rattle.ct_change.specs.Changelog.{fold}
use Rattle.ct_catalog.specs.declared.table.TableDef.{TableDef}
use Rattle.job_text.specs.declared.line.Line.{Line}
use Rattle.job_text.specs.declared.line.LineFault.{LineFault}
use Rattle.job_text.specs.declared.line.LineFault.TheVariants.{Change as NotRead, Memory as NoMemory}
use Rattle.job_text.specs.Lines.{LinesLeft, Record, answer_of, line_in, one_read}
use Rattle.job_text.proofs.laws.Fitting.{lines_fit}
use Rattle.phys_plan.specs.declared.plan.Plan.{Plan}
use Rattle.plan_rules.specs.Doings.{network}
use Rattle.plan_rules.specs.Plans.{table_of}
use Rattle.stream_model.specs.declared.events.Event.TheVariants.{Take}
use Rattle.stream_model.specs.declared.events.StepFault.{StepFault}
use Rattle.stream_model.specs.declared.events.StepFault.TheVariants.{Change as Refused, Order, Range, Limit, Memory}
use Rattle.stream_model.specs.Tables.{Table, scanned_at, refusal}
use Rattle.stream_model.specs.Network.{Network}
use Rattle.stream_model.specs.Machine.{State, scan_count, scanned, take, take_of, take_unless}
use Rattle.stream_model.specs.Runs.{happens, IsTyped}
use Rattle.stream_model.specs.Drain.{StopsBy}
use Rattle.source_lines.specs.Run as run
use Rattle.source_lines.specs.Run.{At, Went, on, halts, refused, stopped, job_of}
use Rattle.source_lines.specs.Supply.{read_on, table_told}
use Rattle.exec_core.specs.declared.session.Session.{Session}
use Rattle.exec_core.specs.declared.fault.RunFault.{RunFault}
use Rattle.exec_core.specs.declared.fault.RunFault.TheVariants.{Refused as RefusedAt, Stopped as StoppedBy}
use Rattle.exec_core.specs.Faults.{HaltsAt, IsFaultAt, IsLineFault, RefusesLast}
use Rattle.exec_core.specs.Goes.{HasTables, HasTaken, HasTakenLine, IsOfSource, StandsIn, line_from}

some_same : {A : Type 0} (o : Option A) (a b : A) → o ≡ Some a → o ≡ Some b → a ≡ b
some_same o a b p q = cc (p, q)

ok_is : {A B : Type 0} (x y : A) → (let r : Result A B = Ok x in r ≡ Ok y) → x ≡ y
ok_is x y e = cc

-- a line that is read may come to the machine
pub of_source : (sources : List TableDef) (feed : Option ℕ) (fields : Record) (line : Line) → line_in sources feed fields ≡ Ok line → IsOfSource sources line
of_source sources feed fields line is = let one = lines_fit sources feed fields line is in record { table = one.0; is = one.1; fits = one.2.fits }

pub line_typed : (g : Network) (parallelism : ℕ) (sources : List TableDef) (line : Line) → HasTables g parallelism sources → IsOfSource sources line → IsTyped g (happens (Take line.table line.change))
line_typed g parallelism sources line tables has table is =
    let own : g.tables line.table ≡ Some (table_of parallelism has.table) = tables line.table ∙ ap (option_map (table_of parallelism)) has.is in
    let same : table_of parallelism has.table ≡ table = some_same (g.tables line.table) (table_of parallelism has.table) table own is in
    subst (λ (t : Table). t.fits line.change ≡ true) same has.fits

-- ---- the machine prints nothing where it takes a line

within_silent : (b : Bool) (s u t : State) → u.printed ≡ s.printed → (let r : Result State StepFault = cond b (Ok u) (Err Limit) in r ≡ Ok t) → t.printed ≡ s.printed
within_silent true s u t same e = ap (λ (v : State). v.printed) (sym (ok_is u t e)) ∙ same
within_silent false s u t same e = absurd (cc (e))

unless_silent : (g : Network) (limit : ℕ) (s t : State) (table : ℕ) (change : Change) (i : ℕ) (o : Option ChangeCode) → take_unless g limit s table change i o ≡ Ok t → t.printed ≡ s.printed
unless_silent g limit s t table change i (Some code) e = absurd (cc (e))
unless_silent g limit s t table change i None e = within_silent (nat_lt s.took limit && nat_le (s.sends + scan_count g table) limit) s (scanned g table i change s) t refl e

of_silent : (g : Network) (limit : ℕ) (s t : State) (table : ℕ) (change : Change) (o : Option Table) → take_of g limit s table change o ≡ Ok t → t.printed ≡ s.printed
of_silent g limit s t table change None e = absurd (cc (e))
of_silent g limit s t table change (Some own) e = unless_silent g limit s t table change (scanned_at own change) (refusal own (fold own.mode (s.taken table)) change) e

pub take_silent : (g : Network) (limit : ℕ) (s t : State) (table : ℕ) (change : Change) → take g limit s table change ≡ Ok t → t.printed ≡ s.printed
take_silent g limit s t table change e = of_silent g limit s t table change (g.tables table) e

-- ---- what was read

-- the first record that a file had left was read, and is this line, or refused so
pub record HasRead (sources : List TableDef) (file new : LinesLeft) (r : Result Line ChangeCode) : Type 0 where
  pub first : Record
  pub rest : List Record
  pub are : file.records ≡ first ∷ rest
  pub line : line_in sources file.feed first ≡ r
  pub new_is : new ≡ read_on file rest

-- what is told of a read
abbrev pub ReadsEnd : LinesLeft → LinesLeft → Result (Option Line) LineFault → Type 0
ReadsEnd file new answer = file.records ≡ [] → (answer ≡ Ok None) × (new ≡ file)

abbrev pub ReadsLine : List TableDef → LinesLeft → LinesLeft → Result (Option Line) LineFault → Type 0
ReadsLine sources file new answer = (first : Record) (rest : List Record) → file.records ≡ first ∷ rest
    → ((answer ≡ Err NoMemory) × (new.records ≡ [])) ⊎ ((answer ≡ answer_of (line_in sources file.feed first)) × (new ≡ one_read file rest))

same_read : (file : LinesLeft) (rest : List Record) → one_read file rest ≡ read_on file rest
same_read file rest = let more : file.read + 1 ≡ suc file.read = omega arith in ap (λ n. record file { read = n; records = rest }) more

answer_line : (r : Result Line ChangeCode) (line : Line) → answer_of r ≡ Ok (Some line) → r ≡ Ok line
answer_line (Err code) line e = absurd (cc (e))
answer_line (Ok own) line e = let same : own ≡ line = cc (e) in ap Ok same

answer_none : (r : Result Line ChangeCode) → answer_of r ≡ Ok None → ⊥
answer_none (Err code) e = cc (e)
answer_none (Ok own) e = cc (e)

answer_refused : (r : Result Line ChangeCode) (code : ChangeCode) → answer_of r ≡ Err (NotRead code) → r ≡ Err code
answer_refused (Err own) code e = let same : own ≡ code = cc (e) in ap Err same
answer_refused (Ok own) code e = absurd (cc (e))

module _ (sources : List TableDef) (file new : LinesLeft) (answer : Result (Option Line) LineFault) (end : ReadsEnd file new answer) (reads : ReadsLine sources file new answer) where
  pub read_line : (line : Line) → answer ≡ Ok (Some line) → HasRead sources file new (Ok line)
  read_line line e = go file.records refl
    where
      one : (first : Record) (rest : List Record) → file.records ≡ first ∷ rest → ((answer ≡ Err NoMemory) × (new.records ≡ [])) ⊎ ((answer ≡ answer_of (line_in sources file.feed first)) × (new ≡ one_read file rest))
          → HasRead sources file new (Ok line)
      one first rest are (inl h) = absurd (let both = sym h.0 ∙ e in cc (both))
      one first rest are (inr h) = record { first = first; rest = rest; are = are; line = answer_line (line_in sources file.feed first) line (sym h.0 ∙ e); new_is = h.1 ∙ same_read file rest }

      go : (records : List Record) → file.records ≡ records → HasRead sources file new (Ok line)
      go [] are = absurd (let both = sym (end are).0 ∙ e in cc (both))
      go (first ∷ rest) are = one first rest are (reads first rest are)

  pub read_refused : (code : ChangeCode) → answer ≡ Err (NotRead code) → HasRead sources file new (Err code)
  read_refused code e = go file.records refl
    where
      one : (first : Record) (rest : List Record) → file.records ≡ first ∷ rest → ((answer ≡ Err NoMemory) × (new.records ≡ [])) ⊎ ((answer ≡ answer_of (line_in sources file.feed first)) × (new ≡ one_read file rest))
          → HasRead sources file new (Err code)
      one first rest are (inl h) = absurd (let both = sym h.0 ∙ e in cc (both))
      one first rest are (inr h) = record { first = first; rest = rest; are = are; line = answer_refused (line_in sources file.feed first) code (sym h.0 ∙ e); new_is = h.1 ∙ same_read file rest }

      go : (records : List Record) → file.records ≡ records → HasRead sources file new (Err code)
      go [] are = absurd (let both = sym (end are).0 ∙ e in cc (both))
      go (first ∷ rest) are = one first rest are (reads first rest are)

  pub read_none : answer ≡ Ok None → (file.records ≡ []) × (new ≡ file)
  read_none e = go file.records refl
    where
      none : (first : Record) → {A : Type 0} (rest : List Record) → ((answer ≡ Err NoMemory) × (new.records ≡ [])) ⊎ ((answer ≡ answer_of (line_in sources file.feed first)) × (new ≡ one_read file rest)) → A
      none first rest (inl h) = absurd (let both = sym h.0 ∙ e in cc (both))
      none first rest (inr h) = absurd (answer_none (line_in sources file.feed first) (sym h.0 ∙ e))

      go : (records : List Record) → file.records ≡ records → (file.records ≡ []) × (new ≡ file)
      go [] are = (are, (end are).1)
      go (first ∷ rest) are = none first rest (reads first rest are)

-- ---- a run that goes on by a line

set_same : {A : Type 0} (xs : List A) (i : ℕ) (x : A) → slice_get xs i ≡ Some x → xs ≡ set xs i x
set_same [] i x e = refl
set_same (y ∷ xs) zero x e = let same : y ≡ x = cc (e) in ap (λ z. z ∷ xs) same
set_same (y ∷ xs) (suc i) x e = ap (λ ys. y ∷ ys) (set_same xs i x e)

module _ (plan : Plan) (limit : ℕ) (by_table : Bool) (p : At State) (place : ℕ) (file new : LinesLeft) where
  abbrev Taking : LinesLeft → Result Line ChangeCode → Went (At State)
  Taking next r = run.take_line (job_of (network plan) limit) plan.sources by_table p place next r

  abbrev Took : LinesLeft → Result State StepFault → Went (At State)
  Took next r = run.took (job_of (network plan) limit) plan.sources by_table p place next r

  -- it goes on as the line does that was read
  line_is : (r : Result Line ChangeCode) → HasRead plan.sources file new r → line_from plan limit by_table p place file ≡ Taking new r
  line_is r read =
      ap (λ records. run.take_first (job_of (network plan) limit) plan.sources by_table p place file records) read.are
      ∙ ap (Taking (read_on file read.rest)) read.line
      ∙ ap (λ next. Taking next r) (sym read.new_is)

  pub line_taken : (next : Session) (line : Line) → HasRead plan.sources file new (Ok line) → HasTakenLine next line plan limit p.state → HasTaken next new plan limit p place (line_from plan limit by_table p place file)
  line_taken next line read taken = record {
    state = taken.state;
    stands = taken.stands;
    silent = taken.silent;
    goes = line_is (Ok line) read ∙ ap (Took new) taken.takes;
  }

  -- there is no line
  pub none_taken : (session : Session) → StandsIn session plan limit p.state.printed p.state → slice_get p.files place ≡ Some file → (file.records ≡ []) × (new ≡ file) → HasTaken session new plan limit p place (line_from plan limit by_table p place file)
  none_taken session stands is none = record {
    state = p.state;
    stands = stands;
    silent = refl;
    goes = ap (λ records. run.take_first (job_of (network plan) limit) plan.sources by_table p place file records) none.0
        ∙ ap (λ files. on (record p { files = files })) (set_same p.files place file is ∙ ap (set p.files place) (sym none.1));
  }

  -- ---- why a line isn't taken

  refuses : (r : RunFault) (code : ChangeCode) (went : Went (At State)) → RefusesLast r code new → went ≡ halts (refused code new.read (table_told new.feed)) p → IsLineFault r p went
  refuses (RefusedAt other line table) code went last e =
      e ∙ ap (λ c. halts (refused c new.read (table_told new.feed)) p) (sym last.code_is) ∙ ap (λ n. halts (refused other n (table_told new.feed)) p) (sym last.line_is) ∙ ap (λ n. halts (refused other line n) p) (sym last.table_is)
  refuses (StoppedBy cause) code went memory e = subst (λ c. HaltsAt c p went) (sym memory) tt

  -- the line is none of a source
  pub line_refused : (r : RunFault) (code : ChangeCode) → HasRead plan.sources file new (Err code) → RefusesLast r code new → IsLineFault r p (line_from plan limit by_table p place file)
  line_refused r code read last = refuses r code (line_from plan limit by_table p place file) last (line_is (Err code) read)

  faults : (cause : StepFault) (r : RunFault) (answer : Result State StepFault) → StopsBy answer cause → IsFaultAt cause r new → IsLineFault r p (Took new answer)
  faults (Refused code) r answer e fault = refuses r code (Took new answer) fault (ap (Took new) e)
  faults (Order code) r answer e fault = subst (λ f. IsLineFault f p (Took new answer)) (sym fault) (ap (Took new) e)
  faults (Range node subtask row types) r answer e fault = subst (λ f. IsLineFault f p (Took new answer)) (sym fault) (ap (Took new) e)
  faults Limit r answer e fault = subst (λ f. IsLineFault f p (Took new answer)) (sym fault) (ap (Took new) e)
  faults Memory r answer e fault = subst (λ f. IsLineFault f p (Took new answer)) (sym fault) tt

  -- the job stopped at it
  pub line_stopped : (cause : StepFault) (r : RunFault) (line : Line) → HasRead plan.sources file new (Ok line) → StopsBy (take (network plan) limit p.state line.table line.change) cause → IsFaultAt cause r new
      → IsLineFault r p (line_from plan limit by_table p place file)
  line_stopped cause r line read stops fault = subst (IsLineFault r p) (sym (line_is (Ok line) read)) (faults cause r (take (network plan) limit p.state line.table line.change) stops fault)
