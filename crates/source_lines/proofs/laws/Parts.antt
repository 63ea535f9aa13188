-- A file that is taken part by part.
use Rattle.std.proofs.Common.{◌≡◌, ◌+◌, ◌∙◌, ℕ, suc, List, [], ◌∷◌, ◌++◌, length, Option, Some, None, Result, Ok, Err, refl, sym, ap, subst, arith}
use Rattle.ct_value.specs.declared.codes.ChangeCode.{ChangeCode}
use Rattle.ct_catalog.specs.declared.table.TableDef.{TableDef}
use Rattle.job_text.specs.declared.line.Line.{Line}
use Rattle.job_text.specs.Lines.{Record, line_in, records_of}
use Rattle.source_lines.specs.declared.fault.TakeFault.{TakeFault}
use Rattle.source_lines.specs.declared.fault.TakeFault.TheVariants.{Refused, Memory}
use Rattle.source_lines.specs.declared.supply.ChangeFiles.TheVariants.{Each}
use Rattle.source_lines.specs.Feeds.{feed_taken}
use Rattle.source_lines.specs.Standing.{AreFew}
use Rattle.source_lines.specs.Taken.{IsRefused, RefusedLine, Taken, and_then, line_refusal, nothing_taken, take_file, take_line, take_records, taken_of, unless_refused, with_line}
use Rattle.source_lines.proofs.Stand.{few_more}

taken_step : (sources : List TableDef) (feed : Option ℕ) (number : ℕ) (xs ys : List Record) (r : Result Taken RefusedLine)
    → ((t : Taken) → take_records sources feed (suc number) t (xs ++ ys) ≡ and_then (take_records sources feed (suc number) t xs) (λ more. take_records sources feed (length xs + suc number) more ys))
    → and_then r (λ t. take_records sources feed (suc number) t (xs ++ ys)) ≡ and_then (and_then r (λ t. take_records sources feed (suc number) t xs)) (λ more. take_records sources feed (suc (length xs) + number) more ys)
taken_step sources feed number xs ys (Ok t) later =
    let place : length xs + suc number ≡ suc (length xs) + number = omega arith in
    later t ∙ ap (λ n. and_then (take_records sources feed (suc number) t xs) (λ more. take_records sources feed n more ys)) place
taken_step sources feed number xs ys (Err refusal) later = refl

-- records behind others
pub taken_behind : (sources : List TableDef) (feed : Option ℕ) (number : ℕ) (taken : Taken) (xs ys : List Record)
    → take_records sources feed number taken (xs ++ ys) ≡ and_then (take_records sources feed number taken xs) (λ more. take_records sources feed (length xs + number) more ys)
taken_behind sources feed number taken [] ys = let place : number ≡ length {A = Record} [] + number = omega arith in ap (λ n. take_records sources feed n taken ys) place
taken_behind sources feed number taken (fields ∷ xs) ys =
    taken_step sources feed number xs ys (take_line sources feed number taken (line_in sources feed fields)) (λ t. taken_behind sources feed (suc number) t xs ys)

-- ---- a file's records bring no more changes than there are

one_more : (sources : List TableDef) (feed : Option ℕ) (number : ℕ) (taken : Taken) (line : Line) (refusal : Option ChangeCode) (more : Taken) → unless_refused feed number taken line refusal ≡ Ok more → AreFew 1 taken more
one_more sources feed number taken line None more is = subst (AreFew 1 taken) (let same : with_line taken line ≡ more = cc (is) in same) (few_more taken line)
one_more sources feed number taken line (Some code) more is = absurd (cc (is))

one_few : (sources : List TableDef) (feed : Option ℕ) (number : ℕ) (taken : Taken) (r : Result Line ChangeCode) (more : Taken) → take_line sources feed number taken r ≡ Ok more → AreFew 1 taken more
one_few sources feed number taken (Ok line) more is = one_more sources feed number taken line (line_refusal sources taken line) more is
one_few sources feed number taken (Err code) more is = absurd (cc (is))

few_step : (sources : List TableDef) (feed : Option ℕ) (number : ℕ) (taken : Taken) (line : Result Line ChangeCode) (xs : List Record) (more : Taken) (r : Result Taken RefusedLine) → take_line sources feed number taken line ≡ r
    → ((t : Taken) → take_records sources feed (suc number) t xs ≡ Ok more → AreFew (length xs) t more) → and_then r (λ t. take_records sources feed (suc number) t xs) ≡ Ok more → AreFew (suc (length xs)) taken more
few_step sources feed number taken line xs more (Ok t) told later is = λ source.
    let one = one_few sources feed number taken line t told source in
    let others = later t is source in
    omega (arith, one, others)
few_step sources feed number taken line xs more (Err refusal) told later is = absurd (cc (is))

pub few_taken : (sources : List TableDef) (feed : Option ℕ) (number : ℕ) (taken : Taken) (xs : List Record) (more : Taken) → take_records sources feed number taken xs ≡ Ok more → AreFew (length xs) taken more
few_taken sources feed number taken [] more is = λ source. let same : taken ≡ more = cc (is) in let n = ap (λ (t : Taken). length (t source)) same in omega (arith, n)
few_taken sources feed number taken (fields ∷ xs) more is =
    few_step sources feed number taken (line_in sources feed fields) xs more (take_line sources feed number taken (line_in sources feed fields)) refl (λ t. few_taken sources feed (suc number) t xs more) is

-- ---- the whole file

alone : (r : Result Taken RefusedLine) → and_then r (λ more. Ok more) ≡ r
alone (Ok taken) = refl
alone (Err refusal) = refl

-- a feed of the first source alone is taken as the file of that
pub feed_is_file : (sources : List TableDef) (bytes : List ℕ) → taken_of sources None (Each (bytes ∷ [])) ≡ feed_taken sources (records_of bytes)
feed_is_file sources bytes = alone (feed_taken sources (records_of bytes))

-- what is refused stays refused, whatever stands behind
pub refused_behind : (sources : List TableDef) (fault : TakeFault) (records more : List Record) → IsRefused fault (feed_taken sources records) → IsRefused fault (feed_taken sources (records ++ more))
refused_behind sources Memory records more is = tt
refused_behind sources (Refused code line table) records more is = taken_behind sources (Some 0) 1 nothing_taken records more ∙ ap (λ r. and_then r (λ t. take_records sources (Some 0) (length records + 1) t more)) is

-- the next part of a file, behind the records of those before it
pub part_taken : (sources : List TableDef) (records more : List Record) (taken : Taken) (read : ℕ) → feed_taken sources records ≡ Ok taken → read ≡ length records
    → take_file sources taken (record { feed = Some 0; read = read; records = more }) ≡ feed_taken sources (records ++ more)
part_taken sources records more taken read is read_is =
    let place : suc read ≡ length records + 1 = omega (arith, read_is) in
    ap (λ n. take_records sources (Some 0) n taken more) place
    ∙ sym (taken_behind sources (Some 0) 1 nothing_taken records more ∙ ap (λ r. and_then r (λ t. take_records sources (Some 0) (length records + 1) t more)) is)
