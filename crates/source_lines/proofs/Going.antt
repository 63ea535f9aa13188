-- Lines taken one after the other, and files.
use Rattle.std.proofs.Common.{◌≡◌, ◌⊎◌, inl, inr, ◌≤◌, ◌<◌, ◌+◌, ℕ, suc, List, [], ◌∷◌, ◌++◌, length, take, drop, Option, Some, None, Result, Ok, Err, OnOk, IfErr, refl, sym, ◌∙◌, ap, subst, arith}
use Rattle.std.proofs.lemmas.List.{length-take-le, take-append-drop}
use Rattle.ct_value.specs.declared.codes.ChangeCode.{ChangeCode}
use Rattle.ct_catalog.specs.declared.table.TableDef.{TableDef}
use Rattle.job_text.specs.declared.line.Line.{Line}
use Rattle.job_text.specs.declared.line.LineFault.{LineFault}
use Rattle.job_text.specs.declared.line.LineFault.TheVariants.{Change as RefusedLine, Memory as NoMemory}
use Rattle.job_text.specs.Lines.{LinesLeft, Record, answer_of, line_in, one_read}
use Rattle.source_lines.specs.declared.folds.SourceFold.{SourceFold}
use Rattle.source_lines.specs.declared.fault.TakeFault.{TakeFault}
use Rattle.source_lines.specs.declared.fault.TakeFault.TheVariants.{Refused, Memory}
use Rattle.source_lines.specs.Supply.{read_on}
use Rattle.source_lines.specs.Standing.{Going, StandAll, Took, TookFile}
use Rattle.source_lines.specs.Taken.{IsRefused, Taken, and_then, line_refusal, refused, take_file, take_line, take_records, unless_refused, with_line}
use Rattle.source_lines.proofs.Stand.{few_more}

-- ---- one line

line_is : (r : Result Line ChangeCode) (line : Line) → answer_of r ≡ Ok (Some line) → r ≡ Ok line
line_is (Ok other) line e = cc (e)
line_is (Err code) line e = absurd (cc (e))

code_is : (r : Result Line ChangeCode) (code : ChangeCode) → answer_of r ≡ Err (RefusedLine code) → r ≡ Err code
code_is (Ok other) code e = absurd (cc (e))
code_is (Err other) code e = cc (e)

read_same : (file : LinesLeft) (rest : List Record) → one_read file rest ≡ read_on file rest
read_same file rest = let same : file.read + 1 ≡ suc file.read = omega arith in ap (λ (n : ℕ). record file { read = n; records = rest }) same

-- the record that was read is this line
pub read_line : (r : Result Line ChangeCode) (answer : Result (Option Line) LineFault) (line : Line) (file left : LinesLeft) (rest : List Record) → ((answer ≡ Err NoMemory) × (left.records ≡ [])) ⊎ ((answer ≡ answer_of r) × (left ≡ one_read file rest))
    → answer ≡ Ok (Some line) → (r ≡ Ok line) × (left ≡ read_on file rest)
read_line r answer line file left rest (inl lost) is = absurd (cc (lost.0, is))
read_line r answer line file left rest (inr read) is = (line_is r line (sym read.0 ∙ is), read.1 ∙ read_same file rest)

pub read_code : (r : Result Line ChangeCode) (answer : Result (Option Line) LineFault) (code : ChangeCode) (file left : LinesLeft) (rest : List Record) → ((answer ≡ Err NoMemory) × (left.records ≡ [])) ⊎ ((answer ≡ answer_of r) × (left ≡ one_read file rest))
    → answer ≡ Err (RefusedLine code) → (r ≡ Err code) × (left ≡ read_on file rest)
read_code r answer code file left rest (inl lost) is = absurd (cc (lost.0, is))
read_code r answer code file left rest (inr read) is = (code_is r code (sym read.0 ∙ is), read.1 ∙ read_same file rest)

module _ (sources : List TableDef) (file left : LinesLeft) (taken : Taken) (first : Record) (rest : List Record) (behind : left ≡ read_on file rest) where
  pub took : (line : Line) (folds : List SourceFold) → line_in sources file.feed first ≡ Ok line → line_refusal sources taken line ≡ None → StandAll sources folds (with_line taken line) → Took sources file taken first rest folds left
  took line folds is none stand = record {
    more = with_line taken line;
    accepted = ap (take_line sources file.feed (suc file.read) taken) is ∙ ap (unless_refused file.feed (suc file.read) taken line) none;
    stand = stand;
    few = few_more taken line;
    behind = behind;
  }

  -- a refusal told by what the reader tells behind the line
  module _ (feed : Option ℕ) (number : ℕ) (feed_is : feed ≡ left.feed) (number_is : number ≡ left.read) where
    feed_told : feed ≡ file.feed
    feed_told = feed_is ∙ ap (λ (f : LinesLeft). f.feed) behind

    number_told : number ≡ suc file.read
    number_told = number_is ∙ ap (λ (f : LinesLeft). f.read) behind

    pub refused_line : (line : Line) (fault : TakeFault) → line_in sources file.feed first ≡ Ok line → IsRefused fault (unless_refused feed number taken line (line_refusal sources taken line))
        → IsRefused fault (take_line sources file.feed (suc file.read) taken (line_in sources file.feed first))
    refused_line line fault is told =
        subst (IsRefused fault) (sym (ap (take_line sources file.feed (suc file.read) taken) is))
        (subst (λ f. IsRefused fault (unless_refused f (suc file.read) taken line (line_refusal sources taken line))) feed_told
        (subst (λ n. IsRefused fault (unless_refused feed n taken line (line_refusal sources taken line))) number_told told))

    pub refused_code : (code : ChangeCode) (fault : TakeFault) → line_in sources file.feed first ≡ Err code → IsRefused fault (refused {A = Taken} feed number code)
        → IsRefused fault (take_line sources file.feed (suc file.read) taken (line_in sources file.feed first))
    refused_code code fault is told =
        subst (IsRefused fault) (sym (ap (take_line sources file.feed (suc file.read) taken) is))
        (subst (λ f. IsRefused fault (refused {A = Taken} f (suc file.read) code)) feed_told (subst (λ n. IsRefused fault (refused {A = Taken} feed n code)) number_told told))

-- ---- the lines of a file

pub going_start : (sources : List TableDef) (file whole : LinesLeft) (start : Taken) (count : ℕ) (folds : List SourceFold) → file ≡ record whole { records = take count whole.records } → StandAll sources folds start → Going sources file start 0 folds whole
going_start sources file whole start count folds is stand =
    subst (λ f. Going sources f start 0 folds whole) (sym is) (record {
      taken = start;
      ahead = take count whole.records;
      later = drop count whole.records;
      stand = stand;
      few = λ source. omega arith;
      left_is = sym (take-append-drop count whole.records);
      counted = omega arith;
      so_far = refl;
    })

module _ (sources : List TableDef) (file : LinesLeft) (start : Taken) (count : ℕ) (folds : List SourceFold) (left : LinesLeft) where
  -- what was told of the next line
  abbrev Tells : (Taken → Record → List Record → Type 0) → Type 0
  Tells P = (taken : Taken) (first : Record) (rest : List Record) → StandAll sources folds taken → left.records ≡ first ∷ rest → P taken first rest

  next_in : (next : List SourceFold) (now : LinesLeft) (g : Going sources file start count folds left) (ahead : List Record) → g.ahead ≡ ahead → count < length file.records
      → Tells (λ taken first rest. Took sources left taken first rest next now) → Going sources file start (count + 1) next now
  next_in next now g [] is some step = absurd (let none = ap length is in omega (arith, g.counted, some, none))
  next_in next now g (first ∷ ahead) is some step =
      let told = step g.taken first (ahead ++ g.later) g.stand (g.left_is ∙ ap (λ (l : List Record). l ++ g.later) is) in
      let many = ap length is in
      record {
        taken = told.more;
        ahead = ahead;
        later = g.later;
        stand = told.stand;
        few = λ source. omega (arith, told.few source, g.few source);
        left_is = ap (λ (f : LinesLeft). f.records) told.behind;
        counted = omega (arith, g.counted, many);
        so_far = g.so_far ∙ ap (take_records sources left.feed (suc left.read) g.taken) is ∙ ap (λ r. and_then r (λ more. take_records sources left.feed (suc (suc left.read)) more ahead)) told.accepted
            ∙ sym (ap (λ (f : LinesLeft). take_records sources f.feed (suc f.read) told.more ahead) told.behind);
      }

  pub going_next : (next : List SourceFold) (now : LinesLeft) → Going sources file start count folds left → count < length file.records
      → Tells (λ taken first rest. Took sources left taken first rest next now) → Going sources file start (count + 1) next now
  going_next next now g some step = next_in next now g g.ahead refl some step

  refused_in : (fault : TakeFault) (g : Going sources file start count folds left) (ahead : List Record) → g.ahead ≡ ahead → count < length file.records
      → Tells (λ taken first rest. IsRefused fault (take_line sources left.feed (suc left.read) taken (line_in sources left.feed first))) → IsRefused fault (take_file sources start file)
  refused_in Memory g ahead is some step = tt
  refused_in (Refused code line table) g [] is some step = absurd (let none = ap length is in omega (arith, g.counted, some, none))
  refused_in (Refused code line table) g (first ∷ ahead) is some step =
      let told = step g.taken first (ahead ++ g.later) g.stand (g.left_is ∙ ap (λ (l : List Record). l ++ g.later) is) in
      g.so_far ∙ ap (take_records sources left.feed (suc left.read) g.taken) is ∙ ap (λ r. and_then r (λ more. take_records sources left.feed (suc (suc left.read)) more ahead)) told

  pub going_refused : (fault : TakeFault) → Going sources file start count folds left → count < length file.records
      → Tells (λ taken first rest. IsRefused fault (take_line sources left.feed (suc left.read) taken (line_in sources left.feed first))) → IsRefused fault (take_file sources start file)
  going_refused fault g some step = refused_in fault g g.ahead refl some step

  end_in : (g : Going sources file start count folds left) (ahead : List Record) → g.ahead ≡ ahead → length file.records ≤ count → count ≤ 4294967295 → TookFile sources file start folds
  end_in g [] is all within = record {
    more = g.taken;
    accepted = g.so_far ∙ ap (take_records sources left.feed (suc left.read) g.taken) is;
    stand = g.stand;
    few = λ source. omega (arith, g.few source, within);
  }
  end_in g (first ∷ ahead) is all within = absurd (let many = ap length is in omega (arith, g.counted, all, many))

  pub going_end : Going sources file start count folds left → length file.records ≤ count → count ≤ 4294967295 → TookFile sources file start folds
  going_end g all within = end_in g g.ahead refl all within

-- how many lines are to be taken
pub first_count : (file whole : LinesLeft) (left count : ℕ) → file ≡ record whole { records = take count whole.records } → left ≡ length whole.records → count ≤ left → length file.records ≡ count
first_count file whole left count is all within = ap (λ (f : LinesLeft). length f.records) is ∙ length-take-le count whole.records (omega (arith, all, within))

-- what holds of an answer, where another fact of it gives it
pub on_ok : {A E : Type 0} {P Q : Type 0} (r : Result A E) → OnOk r P → (P → Q) → OnOk r Q
on_ok (Ok x) h f = f h
on_ok (Err e) h f = tt

pub if_err : {A E : Type 0} {P Q : E → Type 0} (r : Result A E) → IfErr r P → ((e : E) → P e → Q e) → IfErr r Q
if_err (Ok x) h f = tt
if_err (Err e) h f = f e h
