-- What a load runs and prints: a script over lines that are made, and sums over what that prints.
use Rattle.std.specs.Prelude.{ℕ, ◌+◌, ◌-◌, ◌==◌, false, if◌then◌else◌, List, [], ◌∷◌, ◌++◌, length, take, codes}
use Rattle.std.specs.List.{fold}
use Rattle.std.specs.FinMap.{empty, insert}
use Rattle.std.specs.Fmt.{decimal}
use Rattle.command_line.specs.Words.{FileNames, changes, names}
use Rattle.ct_io.specs.Holdings.{Holdings}
use Rattle.job_text.specs.Made.{made_lines}
use Rattle.job_text.specs.Printed.{but_last, quiet_line}
use Rattle.route.specs.Routing.{key_hash}

-- a script, and a file of this name
abbrev pub script_and : List ℕ → List ℕ → List ℕ → Holdings
script_and script name bytes = record { files = insert (insert empty (codes "script") script) name bytes; others = false }

-- the script that runs, over a change file
unfoldable pub load_script : List ℕ
load_script = codes "CREATE TABLE t (word STRING NOT NULL, v INT NOT NULL) WITH ('changelog' = 'retract'); CREATE TABLE out_t (word STRING PRIMARY KEY NOT ENFORCED, n BIGINT, s INT) WITH ('changelog' = 'upsert'); SET 'table.exec.resource.default-parallelism' = '4'; INSERT INTO out_t SELECT word, COUNT(*), SUM(v) FROM t GROUP BY word;"

abbrev pub load_names : FileNames
load_names = names (codes "script") (changes (codes "changes"))

-- with so many lines made from a seed
abbrev pub load_holdings : ℕ → ℕ → Holdings
load_holdings seed lines = script_and load_script (codes "changes") (made_lines seed lines)

-- the script that sums the table that the other fills
unfoldable pub sums_script : List ℕ
sums_script = codes "CREATE TABLE out_t (word STRING PRIMARY KEY NOT ENFORCED, n BIGINT, s INT) WITH ('changelog' = 'upsert'); CREATE TABLE sums (words BIGINT, total BIGINT) WITH ('changelog' = 'retract'); INSERT INTO sums SELECT COUNT(*), COALESCE(SUM(n), 0) FROM out_t;"

-- of what a run over so many lines has printed all but the quiet line, its last
abbrev pub printed_feed : ℕ → List ℕ → List ℕ
printed_feed lines printed = take (length printed - length (quiet_line (lines ∷ []))) printed

-- how many lines end in these bytes
abbrev pub with_end : ℕ → ℕ → ℕ
with_end count byte = count + (if byte == 10 then 1 else 0)

abbrev pub line_count : List ℕ → ℕ
line_count bytes = fold with_end 0 bytes

-- the one line of a load: how many lines there were, how many changes were printed, their sums, and the hash of all that was printed
abbrev pub summary : ℕ → ℕ → List ℕ → ℕ → List ℕ
summary lines printed sums hash =
    codes "load," ++ (decimal lines ++ (codes "," ++ (decimal printed ++ (codes "," ++ (sums ++ (codes "," ++ (decimal hash ++ codes "\n")))))))

-- by the bytes that were printed, and the line of sums
abbrev pub summary_of : ℕ → List ℕ → List ℕ → List ℕ
summary_of lines printed sums = summary lines (line_count (printed_feed lines printed)) (but_last sums) (key_hash printed)
