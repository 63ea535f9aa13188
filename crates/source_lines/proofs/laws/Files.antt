-- Lines of change files taken in any order, those of each file in its own: what is taken of them all is what is taken file by file.
use Rattle.std.specs.Prelude.{◌≡◌, ℕ, ◌+◌, ◌<◌, ◌≤◌, Option, Result, List, ◌++◌, length, map, set, slice_get, sum, take}
use Rattle.std.proofs.Common.{zero, suc, [], ◌∷◌, refl, sym, ap, subst, ◌∙◌, Some, None, Ok, Err, inl, inr, arith, append_assoc, append-nil}
use Rattle.std.proofs.lemmas.Bool.{cases_eq, cases_lt}
use Rattle.std.proofs.lemmas.List.{length-append, take_at}
use Rattle.ct_catalog.specs.declared.table.TableDef.{TableDef}
use Rattle.job_text.specs.declared.line.Line.{Line}
use Rattle.job_text.specs.Lines.{LinesLeft, Record, line_in, records_of}
use Rattle.job_text.specs.Printed.{numbers_told}
use Rattle.stream_model.specs.Runs.{counts_below}
use Rattle.source_lines.specs.Supply.{AreFor, all_left, all_unread, is_by_table, read_on, unread, unread_from}
use Rattle.source_lines.specs.Taken.{RefusedLine, Taken, and_then, first_of, firsts, line_refusal, nothing_taken, take_files, take_records, with_line}
use Rattle.source_lines.specs.declared.supply.ChangeFiles.{ChangeFiles}
use Rattle.source_lines.specs.declared.supply.ChangeFiles.TheVariants.{One, Each}
use Rattle.source_lines.proofs.Stand.{with_other}
use Rattle.source_lines.proofs.laws.Records.{AreTaken, TakesLine, count_none, cut_taken, fed_counted, fed_moves, fed_refusal, fed_table, first_taken, last_taken, records_counted, same_taken, taken_anywhere, with_alike}

-- what is taken of a file alone is what is taken in all, of the tables that the file is of
abbrev pub Agrees : Option ℕ → Taken → Taken → Type 0
Agrees None alone taken = alone ≡ taken
Agrees (Some place) alone taken = alone place ≡ taken place

-- of a file, of which no line was read, the first lines were: alone they are taken
pub record IsFront (sources : List TableDef) (whole now : LinesLeft) (taken : Taken) : Type 0 where
  pub front : List Record
  pub feed : now.feed ≡ whole.feed
  pub read : now.read ≡ length front
  pub records : whole.records ≡ front ++ now.records
  pub alone : Taken
  pub takes : AreTaken sources whole.feed nothing_taken front alone
  pub agrees : Agrees whole.feed alone taken

-- so it is of each file
abbrev pub AreFronts : List TableDef → List LinesLeft → List LinesLeft → Taken → Type 0
AreFronts sources [] [] taken = Unit {0}
AreFronts sources [] (now ∷ nows) taken = ⊥
AreFronts sources (whole ∷ wholes) [] taken = ⊥
AreFronts sources (whole ∷ wholes) (now ∷ nows) taken = IsFront sources whole now taken × AreFronts sources wholes nows taken

-- nothing is taken of a table that has no file
abbrev pub NoneBeyond : ChangeFiles → Taken → Type 0
NoneBeyond (One bytes) taken = Unit {0}
NoneBeyond (Each files) taken = (table : ℕ) → length files ≤ table → taken table ≡ []

-- of each file so many lines were read as its reader tells, and these, in whatever order, gave what is taken
pub record Interleaved (sources : List TableDef) (files : ChangeFiles) (nows : List LinesLeft) (taken : Taken) : Type 0 where
  pub fronts : AreFronts sources (all_unread files) nows taken
  pub beyond : NoneBeyond files taken

-- how many lines of each file were read
abbrev pub all_read : List LinesLeft → List ℕ
all_read files = map (λ file. file.read) files

-- ---- at the start

agrees_self : (feed : Option ℕ) (taken : Taken) → Agrees feed taken taken
agrees_self None taken = refl
agrees_self (Some place) taken = refl

unread_front : (sources : List TableDef) (feed : Option ℕ) (bytes : List ℕ) → IsFront sources (unread feed bytes) (unread feed bytes) nothing_taken
unread_front sources feed bytes = record { front = []; feed = refl; read = refl; records = refl; alone = nothing_taken; takes = λ number. refl; agrees = agrees_self feed nothing_taken }

unread_fronts : (sources : List TableDef) (place : ℕ) (files : List (List ℕ)) → AreFronts sources (unread_from place files) (unread_from place files) nothing_taken
unread_fronts sources place [] = tt
unread_fronts sources place (bytes ∷ files) = (unread_front sources (Some place) bytes, unread_fronts sources (suc place) files)

-- before a line was read
pub interleaved_start : (sources : List TableDef) (files : ChangeFiles) → Interleaved sources files (all_unread files) nothing_taken
interleaved_start sources (One bytes) = record { fronts = (unread_front sources None bytes, tt); beyond = tt }
interleaved_start sources (Each files) = record { fronts = unread_fronts sources 0 files; beyond = λ table past. refl }

-- ---- a line more

free_alike : (sources : List TableDef) (feed : Option ℕ) (a b : Taken) (fields : Record) (line : Line) → line_in sources feed fields ≡ Ok line → Agrees feed a b → line_refusal sources a line ≡ line_refusal sources b line
free_alike sources None a b fields line is same = ap (λ t. line_refusal sources t line) same
free_alike sources (Some place) a b fields line is same = fed_refusal sources place a b fields line is same

line_agrees : (feed : Option ℕ) (a b : Taken) (line : Line) → Agrees feed a b → Agrees feed (with_line a line) (with_line b line)
line_agrees None a b line same = ap (λ t. with_line t line) same
line_agrees (Some place) a b line same = with_alike [] place a b line place same

-- a file of which one line more was read, which isn't refused
front_step : (sources : List TableDef) (whole file : LinesLeft) (taken : Taken) (fields : Record) (rest : List Record) (line : Line) → IsFront sources whole file taken → file.records ≡ fields ∷ rest
    → line_in sources file.feed fields ≡ Ok line → line_refusal sources taken line ≡ None → IsFront sources whole (read_on file rest) (with_line taken line)
front_step sources whole file taken fields rest line h are is free =
    let own : line_in sources whole.feed fields ≡ Ok line = ap (λ feed. line_in sources feed fields) (sym h.feed) ∙ is in
    let one : TakesLine sources whole.feed h.alone fields (with_line h.alone line) = record { line = line; is = own; free = free_alike sources whole.feed h.alone taken fields line own h.agrees ∙ free; same = refl } in
    record {
      front = h.front ++ fields ∷ [];
      feed = h.feed;
      read = omega (arith, h.read, length-append h.front (fields ∷ []));
      records = h.records ∙ ap (λ records. h.front ++ records) are ∙ sym (append_assoc h.front (fields ∷ []) rest);
      alone = with_line h.alone line;
      takes = last_taken sources whole.feed nothing_taken h.alone (with_line h.alone line) h.front fields h.takes one;
      agrees = line_agrees whole.feed h.alone taken line h.agrees;
    }

one_step : (sources : List TableDef) (whole : LinesLeft) (nows : List LinesLeft) (taken : Taken) (place : ℕ) (file : LinesLeft) (fields : Record) (rest : List Record) (line : Line)
    → AreFronts sources (whole ∷ []) nows taken → slice_get nows place ≡ Some file → file.records ≡ fields ∷ rest → line_in sources file.feed fields ≡ Ok line → line_refusal sources taken line ≡ None
    → AreFronts sources (whole ∷ []) (set nows place (read_on file rest)) (with_line taken line)
one_step sources whole [] taken place file fields rest line h at are is free = absurd h
one_step sources whole (now ∷ (other ∷ nows)) taken place file fields rest line h at are is free = absurd h.1
one_step sources whole (now ∷ []) taken zero file fields rest line h at are is free =
    let same : now ≡ file = cc (at) in
    (front_step sources whole file taken fields rest line (subst (λ f. IsFront sources whole f taken) same h.0) are is free, tt)
one_step sources whole (now ∷ []) taken (suc place) file fields rest line h at are is free = absurd (cc (at))

-- a file's table, and that there is the file
each_place : (sources : List TableDef) (first : ℕ) (files : List (List ℕ)) (nows : List LinesLeft) (taken : Taken) (place : ℕ) (file : LinesLeft) → AreFronts sources (unread_from first files) nows taken → slice_get nows place ≡ Some file
    → (file.feed ≡ Some (first + place)) × (place < length files)
each_place sources first [] [] taken place file h at = absurd (cc (at))
each_place sources first [] (now ∷ nows) taken place file h at = absurd h
each_place sources first (bytes ∷ files) [] taken place file h at = absurd h
each_place sources first (bytes ∷ files) (now ∷ nows) taken zero file h at =
    let same : now ≡ file = cc (at) in
    let start : first ≡ first + 0 = omega arith in
    (ap (λ (f : LinesLeft). f.feed) (sym same) ∙ h.0.feed ∙ ap (λ (n : ℕ). Some n) start, omega arith)
each_place sources first (bytes ∷ files) (now ∷ nows) taken (suc place) file h at =
    let later = each_place sources (suc first) files nows taken place file h.1 at in
    let next : suc first + place ≡ first + suc place = omega arith in
    (later.0 ∙ ap (λ (n : ℕ). Some n) next, omega (arith, later.1))

each_kept : (sources : List TableDef) (first : ℕ) (files : List (List ℕ)) (nows : List LinesLeft) (taken more : Taken) → ((table : ℕ) → first ≤ table → more table ≡ taken table) → AreFronts sources (unread_from first files) nows taken
    → AreFronts sources (unread_from first files) nows more
each_kept sources first [] [] taken more same h = tt
each_kept sources first [] (now ∷ nows) taken more same h = absurd h
each_kept sources first (bytes ∷ files) [] taken more same h = absurd h
each_kept sources first (bytes ∷ files) (now ∷ nows) taken more same h = (
  record { front = h.0.front; feed = h.0.feed; read = h.0.read; records = h.0.records; alone = h.0.alone; takes = h.0.takes; agrees = h.0.agrees ∙ sym (same first (omega arith)) },
  each_kept sources (suc first) files nows taken more (λ table past. same table (omega (arith, past))) h.1,
)

module _ (sources : List TableDef) (taken : Taken) (file : LinesLeft) (fields : Record) (rest : List Record) (line : Line) (are : file.records ≡ fields ∷ rest) (is : line_in sources file.feed fields ≡ Ok line)
    (free : line_refusal sources taken line ≡ None) where
  each_step : (first : ℕ) (files : List (List ℕ)) (nows : List LinesLeft) (place : ℕ) → line.table ≡ first + place → AreFronts sources (unread_from first files) nows taken → slice_get nows place ≡ Some file
      → AreFronts sources (unread_from first files) (set nows place (read_on file rest)) (with_line taken line)
  each_step first [] [] place own h at = absurd (cc (at))
  each_step first [] (now ∷ nows) place own h at = absurd h
  each_step first (bytes ∷ files) [] place own h at = absurd h
  each_step first (bytes ∷ files) (now ∷ nows) zero own h at =
      let same : now ≡ file = cc (at) in (
        front_step sources (unread (Some first) bytes) file taken fields rest line (subst (λ f. IsFront sources (unread (Some first) bytes) f taken) same h.0) are is free,
        each_kept sources (suc first) files nows taken (with_line taken line) (λ table past. with_other taken line table (λ e. omega (arith, past, e, own))) h.1,
      )
  each_step first (bytes ∷ files) (now ∷ nows) (suc place) own h at =
      let off : with_line taken line first ≡ taken first = with_other taken line first (λ e. omega (arith, e, own)) in (
        record { front = h.0.front; feed = h.0.feed; read = h.0.read; records = h.0.records; alone = h.0.alone; takes = h.0.takes; agrees = h.0.agrees ∙ sym off },
        each_step (suc first) files nows place (omega (arith, own)) h.1 at,
      )

-- behind one line more of any file, which isn't refused
pub interleaved_step : (sources : List TableDef) (files : ChangeFiles) (nows : List LinesLeft) (taken : Taken) (place : ℕ) (file : LinesLeft) (fields : Record) (rest : List Record) (line : Line) → Interleaved sources files nows taken
    → slice_get nows place ≡ Some file → file.records ≡ fields ∷ rest → line_in sources file.feed fields ≡ Ok line → line_refusal sources taken line ≡ None
    → Interleaved sources files (set nows place (read_on file rest)) (with_line taken line)
interleaved_step sources (One bytes) nows taken place file fields rest line h at are is free =
    record { fronts = one_step sources (unread None bytes) nows taken place file fields rest line h.fronts at are is free; beyond = tt }
interleaved_step sources (Each files) nows taken place file fields rest line h at are is free =
    let there = each_place sources 0 files nows taken place file h.fronts at in
    let own : line.table ≡ 0 + place = fed_table sources (0 + place) fields line (ap (λ feed. line_in sources feed fields) (sym there.0) ∙ is) in
    record {
      fronts = each_step sources taken file fields rest line are is free 0 files nows place own h.fronts at;
      beyond = λ table past. with_other taken line table (λ e. omega (arith, past, e, own, there.1)) ∙ h.beyond table past;
    }

-- ---- file by file

front_records : (sources : List TableDef) (whole now : LinesLeft) (taken : Taken) (h : IsFront sources whole now taken) → take now.read whole.records ≡ h.front
front_records sources whole now taken h = ap (take now.read) h.records ∙ take_at h.front now.records now.read (sym h.read)

-- these lines are among those of the file
pub front_within : (sources : List TableDef) (whole now : LinesLeft) (taken : Taken) → IsFront sources whole now taken → now.read ≤ length whole.records
front_within sources whole now taken h = omega (arith, h.read, ap length h.records, length-append h.front now.records)

one_taken : (sources : List TableDef) (bytes : List ℕ) (nows : List LinesLeft) (taken : Taken) → AreFronts sources (unread None bytes ∷ []) nows taken → take_files sources nothing_taken (firsts (all_read nows) (unread None bytes ∷ [])) ≡ Ok taken
one_taken sources bytes [] taken h = absurd h
one_taken sources bytes (now ∷ (other ∷ nows)) taken h = absurd h.1
one_taken sources bytes (now ∷ []) taken h =
    ap (λ records. take_files sources nothing_taken (record { feed = None; read = 0; records = records } ∷ [])) (front_records sources (unread None bytes) now taken h.0)
    ∙ ap (λ r. and_then r (λ more. Ok more)) (h.0.takes 1) ∙ ap (λ (t : Taken). let r : Result Taken RefusedLine = Ok t in r) h.0.agrees

module _ (sources : List TableDef) (taken : Taken) where
  each_taken : (place : ℕ) (files : List (List ℕ)) (nows : List LinesLeft) (so_far : Taken) → AreFronts sources (unread_from place files) nows taken → ((table : ℕ) → table < place → so_far table ≡ taken table)
      → ((table : ℕ) → place ≤ table → so_far table ≡ []) → ((table : ℕ) → place + length files ≤ table → taken table ≡ []) → take_files sources so_far (firsts (all_read nows) (unread_from place files)) ≡ Ok taken
  each_taken place [] [] so_far h below above beyond =
      let same : so_far ≡ taken = λ t table. (elim (cases_lt table place) as (λ _. so_far table ≡ taken table) [
        | inl less ↦ below table less
        | inr past ↦ above table past ∙ sym (beyond table (omega (arith, past)))
      ]) t in
      ap (λ (t : Taken). let r : Result Taken RefusedLine = Ok t in r) same
  each_taken place [] (now ∷ nows) so_far h below above beyond = absurd h
  each_taken place (bytes ∷ files) [] so_far h below above beyond = absurd h
  each_taken place (bytes ∷ files) (now ∷ nows) so_far h below above beyond =
      let moved = fed_moves sources place nothing_taken h.0.alone so_far h.0.front h.0.takes (above place (omega arith)) in
      ap (λ records. take_files sources so_far (record { feed = Some place; read = 0; records = records } ∷ firsts (all_read nows) (unread_from (suc place) files))) (front_records sources (unread (Some place) bytes) now taken h.0)
      ∙ ap (λ r. and_then r (λ more. take_files sources more (firsts (all_read nows) (unread_from (suc place) files)))) (moved.takes 1)
      ∙ each_taken (suc place) files nows moved.moved h.1
      (λ table less. elim (cases_eq table place) [
        | inl e ↦ ap moved.moved e ∙ moved.here ∙ h.0.agrees ∙ ap taken (sym e)
        | inr off ↦ moved.elsewhere table off ∙ below table (omega (arith, less, off))
      ])
      (λ table past. moved.elsewhere table (λ e. omega (arith, past, e)) ∙ above table (omega (arith, past)))
      (λ table past. beyond table (omega (arith, past)))

-- the lines that were read give the same taken file by file
pub interleaved_taken : (sources : List TableDef) (files : ChangeFiles) (nows : List LinesLeft) (taken : Taken) → Interleaved sources files nows taken → take_files sources nothing_taken (firsts (all_read nows) (all_unread files)) ≡ Ok taken
interleaved_taken sources (One bytes) nows taken h = one_taken sources bytes nows taken h.fronts
interleaved_taken sources (Each files) nows taken h =
    each_taken sources taken 0 files nows nothing_taken h.fronts (λ table less. absurd (omega (arith, less))) (λ table past. refl) (λ table past. h.beyond table (omega (arith, past)))

-- ---- how many lines were read

-- how many changes were taken of so many tables, from one on
abbrev counts_from : Taken → ℕ → ℕ → List ℕ
counts_from taken place zero = []
counts_from taken place (suc n) = length (taken place) ∷ counts_from taken (suc place) n

counts_last : (taken : Taken) (place n : ℕ) → counts_from taken place n ++ length (taken (place + n)) ∷ [] ≡ counts_from taken place (suc n)
counts_last taken place zero = let same : place + 0 ≡ place = omega arith in ap (λ k. length (taken k) ∷ []) same
counts_last taken place (suc n) =
    let same : place + suc n ≡ suc place + n = omega arith in
    ap (λ counts. length (taken place) ∷ counts) (ap (λ k. counts_from taken (suc place) n ++ length (taken k) ∷ []) same ∙ counts_last taken (suc place) n)

counts_all : (taken : Taken) (n : ℕ) → counts_below taken n ≡ counts_from taken 0 n
counts_all taken zero = refl
counts_all taken (suc n) =
    let same : n ≡ 0 + n = omega arith in
    ap (λ counts. counts ++ length (taken n) ∷ []) (counts_all taken n) ∙ ap (λ k. counts_from taken 0 n ++ length (taken k) ∷ []) same ∙ counts_last taken 0 n

each_counted : (sources : List TableDef) (place : ℕ) (files : List (List ℕ)) (nows : List LinesLeft) (taken : Taken) → AreFronts sources (unread_from place files) nows taken → counts_from taken place (length files) ≡ all_read nows
each_counted sources place [] [] taken h = refl
each_counted sources place [] (now ∷ nows) taken h = absurd h
each_counted sources place (bytes ∷ files) [] taken h = absurd h
each_counted sources place (bytes ∷ files) (now ∷ nows) taken h =
    let own = fed_counted sources place nothing_taken h.0.alone h.0.front h.0.takes in
    let one : length (taken place) ≡ now.read = omega (arith, own, h.0.read, ap length h.0.agrees) in
    ap (λ n. n ∷ counts_from taken (suc place) (length files)) one ∙ ap (λ counts. now.read ∷ counts) (each_counted sources (suc place) files nows taken h.1)

one_counted : (sources : List TableDef) (whole : LinesLeft) (nows : List LinesLeft) (taken : Taken) → whole.feed ≡ None → AreFronts sources (whole ∷ []) nows taken → sum (counts_below taken (length sources)) ∷ [] ≡ all_read nows
one_counted sources whole [] taken is h = absurd h
one_counted sources whole (now ∷ (other ∷ nows)) taken is h = absurd h.1
one_counted sources whole (now ∷ []) taken is h =
    let n = length sources in
    let same : h.0.alone ≡ taken = subst (λ feed. Agrees feed h.0.alone taken) is h.0.agrees in
    let all = records_counted sources whole.feed nothing_taken h.0.alone h.0.front h.0.takes in
    let own : sum (counts_below taken n) ≡ now.read = omega (arith, all, count_none n, h.0.read, ap (λ (t : Taken). sum (counts_below t n)) same) in
    ap (λ k. k ∷ []) own

-- a quiet moment tells them
pub interleaved_told : (sources : List TableDef) (files : ChangeFiles) (nows : List LinesLeft) (taken : Taken) → Interleaved sources files nows taken → AreFor files sources
    → numbers_told (is_by_table files) (counts_below taken (length sources)) ≡ all_read nows
interleaved_told sources (One bytes) nows taken h are = one_counted sources (unread None bytes) nows taken refl h.fronts
interleaved_told sources (Each files) nows taken h are =
    ap (counts_below taken) (sym are) ∙ counts_all taken (length files) ∙ each_counted sources 0 files nows taken h.fronts

done_all : (sources : List TableDef) (wholes nows : List LinesLeft) (taken : Taken) → AreFronts sources wholes nows taken → ((place : ℕ) (file : LinesLeft) → slice_get nows place ≡ Some file → file.records ≡ []) → all_read nows ≡ all_left wholes
done_all sources [] [] taken h none = refl
done_all sources [] (now ∷ nows) taken h none = absurd h
done_all sources (whole ∷ wholes) [] taken h none = absurd h
done_all sources (whole ∷ wholes) (now ∷ nows) taken h none =
    let over : whole.records ≡ h.0.front = h.0.records ∙ ap (λ records. h.0.front ++ records) (none 0 now refl) ∙ append-nil h.0.front in
    let one : now.read ≡ length whole.records = h.0.read ∙ sym (ap length over) in
    ap (λ n. n ∷ all_read nows) one ∙ ap (λ counts. length whole.records ∷ counts) (done_all sources wholes nows taken h.1 (λ place file at. none (suc place) file at))

-- where none is left, all were read
pub interleaved_done : (sources : List TableDef) (files : ChangeFiles) (nows : List LinesLeft) (taken : Taken) → Interleaved sources files nows taken
    → ((place : ℕ) (file : LinesLeft) → slice_get nows place ≡ Some file → file.records ≡ []) → all_read nows ≡ all_left (all_unread files)
interleaved_done sources files nows taken h none = done_all sources (all_unread files) nows taken h.fronts none

-- ---- where no line is refused file by file, none is in any order

-- all lines of a file alone are taken
abbrev IsAlone : List TableDef → LinesLeft → Type 0
IsAlone sources file = (alone : Taken) × AreTaken sources file.feed nothing_taken file.records alone

abbrev AreAlone : List TableDef → List LinesLeft → Type 0
AreAlone sources [] = Unit {0}
AreAlone sources (file ∷ files) = IsAlone sources file × AreAlone sources files

module _ (sources : List TableDef) (all : Taken) where
  -- the first of files is taken, and then the others
  file_taken : (feed : Option ℕ) (records : List Record) (so_far : Taken) (files : List LinesLeft) (r : Result Taken RefusedLine) → take_records sources feed 1 so_far records ≡ r → and_then r (λ more. take_files sources more files) ≡ Ok all
      → (more : Taken) × AreTaken sources feed so_far records more × (take_files sources more files ≡ Ok all)
  file_taken feed records so_far files (Err refusal) is e = absurd (cc (e))
  file_taken feed records so_far files (Ok more) is e = (more, taken_anywhere sources feed 1 so_far more records is, e)

  each_alone : (place : ℕ) (files : List (List ℕ)) (so_far : Taken) → ((table : ℕ) → place ≤ table → so_far table ≡ []) → take_files sources so_far (unread_from place files) ≡ Ok all → AreAlone sources (unread_from place files)
  each_alone place [] so_far above e = tt
  each_alone place (bytes ∷ files) so_far above e =
      let one = file_taken (Some place) (records_of bytes) so_far (unread_from (suc place) files) (take_records sources (Some place) 1 so_far (records_of bytes)) refl e in
      let alone = fed_moves sources place so_far one.0 nothing_taken (records_of bytes) one.1 (sym (above place (omega arith))) in
      let moved = fed_moves sources place so_far one.0 so_far (records_of bytes) one.1 refl in
      let kept = same_taken sources (Some place) so_far one.0 moved.moved (records_of bytes) one.1 moved.takes in (
        (alone.moved, alone.takes),
        each_alone (suc place) files one.0
            (λ table past. ap (λ (t : Taken). t table) kept ∙ moved.elsewhere table (λ e. omega (arith, past, e)) ∙ above table (omega (arith, past))) one.2,
      )

  alone_of : (files : ChangeFiles) → take_files sources nothing_taken (all_unread files) ≡ Ok all → AreAlone sources (all_unread files)
  alone_of (One bytes) e = let one = file_taken None (records_of bytes) nothing_taken [] (take_records sources None 1 nothing_taken (records_of bytes)) refl e in ((one.0, one.1), tt)
  alone_of (Each files) e = each_alone 0 files nothing_taken (λ table past. refl) e

-- the next line of a file is one of a source that isn't refused
abbrev pub IsFree : List TableDef → Option ℕ → Taken → Record → Type 0
IsFree sources feed taken fields = (line : Line) × (line_in sources feed fields ≡ Ok line) × (line_refusal sources taken line ≡ None)

front_free : (sources : List TableDef) (whole now : LinesLeft) (taken : Taken) (fields : Record) (rest : List Record) → IsFront sources whole now taken → IsAlone sources whole → now.records ≡ fields ∷ rest → IsFree sources now.feed taken fields
front_free sources whole now taken fields rest h alone are =
    let split : whole.records ≡ h.front ++ fields ∷ rest = h.records ∙ ap (λ records. h.front ++ records) are in
    let cut = cut_taken sources whole.feed nothing_taken alone.0 h.front (fields ∷ rest) (subst (λ records. AreTaken sources whole.feed nothing_taken records alone.0) split alone.1) in
    let next = first_taken sources whole.feed cut.0 alone.0 fields rest cut.2 in
    let line = next.1.line in
    let same : h.alone ≡ cut.0 = same_taken sources whole.feed nothing_taken h.alone cut.0 h.front h.takes cut.1 in (
      line,
      ap (λ feed. line_in sources feed fields) h.feed ∙ next.1.is,
      sym (free_alike sources whole.feed h.alone taken fields line next.1.is h.agrees) ∙ ap (λ t. line_refusal sources t line) same ∙ next.1.free,
    )

fronts_free : (sources : List TableDef) (wholes nows : List LinesLeft) (taken : Taken) (place : ℕ) (file : LinesLeft) (fields : Record) (rest : List Record) → AreFronts sources wholes nows taken → AreAlone sources wholes
    → slice_get nows place ≡ Some file → file.records ≡ fields ∷ rest → IsFree sources file.feed taken fields
fronts_free sources [] [] taken place file fields rest h alone at are = absurd (cc (at))
fronts_free sources [] (now ∷ nows) taken place file fields rest h alone at are = absurd h
fronts_free sources (whole ∷ wholes) [] taken place file fields rest h alone at are = absurd h
fronts_free sources (whole ∷ wholes) (now ∷ nows) taken zero file fields rest h alone at are =
    let same : now ≡ file = cc (at) in
    front_free sources whole file taken fields rest (subst (λ f. IsFront sources whole f taken) same h.0) alone.0 are
fronts_free sources (whole ∷ wholes) (now ∷ nows) taken (suc place) file fields rest h alone at are = fronts_free sources wholes nows taken place file fields rest h.1 alone.1 at are

pub interleaved_free : (sources : List TableDef) (files : ChangeFiles) (nows : List LinesLeft) (taken all : Taken) (place : ℕ) (file : LinesLeft) (fields : Record) (rest : List Record) → take_files sources nothing_taken (all_unread files) ≡ Ok all
    → Interleaved sources files nows taken → slice_get nows place ≡ Some file → file.records ≡ fields ∷ rest → IsFree sources file.feed taken fields
interleaved_free sources files nows taken all place file fields rest e h at are = fronts_free sources (all_unread files) nows taken place file fields rest h.fronts (alone_of sources all files e) at are

-- all lines of files
pub all_firsts : (files : List LinesLeft) → map (first_of None) files ≡ files
all_firsts [] = refl
all_firsts (file ∷ files) = ap (λ others. file ∷ others) (all_firsts files)
