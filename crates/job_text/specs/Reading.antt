-- What a reader of change lines has left.
use Rattle.std.specs.Prelude.{◌≡◌, ◌+◌, ◌==◌, ◌∷◌, ◌<◌, ◌≤◌, ℕ, true, false, List, [], length, Option, Some, IsSome, unwrap_or, if◌then◌else◌}
use Rattle.std.specs.Io.Cursor.{cursor_remaining}
use Rattle.std.specs.declared.io.impls.Cursor.{Cursor}
use Rattle.csv.specs.Machine.{ends_at_end}
use Rattle.csv.specs.Reading.{Ready, default_config, has_failed, is_flexible, reader_config, reader_state, reader_trim, records_from, source_of}
use Rattle.csv.specs.declared.parser.State.{State}
use Rattle.csv.specs.declared.reader.Reader.{Reader}
use Rattle.csv.specs.declared.reader.Trim.TheVariants as trim
use Rattle.job_text.specs.Lines.{LinesLeft, Record}

-- the records of a text, from a state between two records
unfoldable pub records_after : State → List ℕ → List Record
records_after s xs = records_from default_config (length xs + 1) s xs

-- a reader that stands between two records, with the settings by which a change file is read
pub record IsReading {R : Type 0} (rem : R → Option (List ℕ)) (rdr : Reader R) : Type 0 where
  pub config : reader_config rdr ≡ default_config
  pub untrimmed : reader_trim rdr ≡ trim.None
  pub flexible : is_flexible rdr ≡ true
  pub ready : Ready rdr
  pub fresh : has_failed rdr ≡ false
  pub between : ends_at_end (reader_state rdr) ≡ false
  pub known : IsSome (source_of rem rdr)

-- the records that a reader has left
abbrev pub left_in : {R : Type 0} → (R → Option (List ℕ)) → Reader R → List Record
left_in rem rdr = records_after (reader_state rdr) (unwrap_or (source_of rem rdr) [])

-- the bytes that a cursor over a file has left
abbrev pub bytes_left : Cursor (List ℕ) → Option (List ℕ)
bytes_left = cursor_remaining Some

-- what a reader of change lines keeps: how many records are left, which it reads on from where there are some
pub record IsCounted (rdr : Reader (Cursor (List ℕ))) (left : ℕ) : Type 0 where
  pub counted : left ≡ length (left_in bytes_left rdr)
  pub good : IsReading bytes_left rdr

-- the records that it has left: none once it was given up
abbrev pub records_left : Reader (Cursor (List ℕ)) → ℕ → List Record
records_left rdr left = if left == 0 then [] else left_in bytes_left rdr

-- the lines that it has left, behind those that were read
abbrev pub lines_left : Option ℕ → ℕ → Reader (Cursor (List ℕ)) → ℕ → LinesLeft
lines_left feed read rdr left = record { feed = feed; read = read; records = records_left rdr left }

-- it reads on from where records are left, and no file has more than so many
pub record IsWithin (read : ℕ) (rdr : Reader (Cursor (List ℕ))) (left : ℕ) : Type 0 where
  pub within : read + left ≤ 67108864
  pub reads_on : 0 < left → IsCounted rdr left

-- a read took the first of the records that were left
pub record Takes {R : Type 0} (rem : R → Option (List ℕ)) (old : Reader R) (fields : Record) (new : Reader R) : Type 0 where
  pub taken : left_in rem old ≡ fields ∷ left_in rem new
  pub good : IsReading rem new
