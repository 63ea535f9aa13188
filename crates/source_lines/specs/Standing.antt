-- For which changes the folds of sources stand, and how far the lines of files are taken.
use Rattle.std.specs.Prelude.{◌≡◌, ◌≤◌, ◌+◌, ◌*◌, ℕ, suc, List, [], ◌∷◌, ◌++◌, length, map, Option, Ok}
use Rattle.ct_catalog.specs.declared.table.TableDef.{TableDef}
use Rattle.job_text.specs.Lines.{LinesLeft, Record, line_in}
use Rattle.source_lines.specs.Folding.{FoldStands}
use Rattle.source_lines.specs.declared.folds.SourceFold.{SourceFold}
use Rattle.source_lines.specs.Supply.{read_on}
use Rattle.source_lines.specs.Taken.{Taken, first_of, nothing_taken, take_file, take_files, take_line, take_records}

-- each source's fold stands for the changes taken of it
abbrev pub StandAll : List TableDef → List SourceFold → Taken → Type 0
StandAll [] [] taken = Unit {0}
StandAll [] (folded ∷ folds) taken = ⊥
StandAll (table ∷ tables) [] taken = ⊥
StandAll (table ∷ tables) (folded ∷ folds) taken = FoldStands table folded (taken 0) × StandAll tables folds (λ source. taken (suc source))

-- no source has more changes than before and so many others
abbrev pub AreFew : ℕ → Taken → Taken → Type 0
AreFew count before after = (source : ℕ) → length (after source) ≤ length (before source) + count

-- the first of a file's lines was taken: the folds stand for what is taken with it, and the lines behind it are left
pub record Took (sources : List TableDef) (file : LinesLeft) (taken : Taken) (first : Record) (rest : List Record) (folds : List SourceFold) (left : LinesLeft) : Type 0 where
  pub more : Taken
  pub accepted : take_line sources file.feed (suc file.read) taken (line_in sources file.feed first) ≡ Ok more
  pub stand : StandAll sources folds more
  pub few : AreFew 1 taken more
  pub behind : left ≡ read_on file rest

-- all lines that a file has left were taken, which are no more than can be counted
pub record TookFile (sources : List TableDef) (file : LinesLeft) (taken : Taken) (folds : List SourceFold) : Type 0 where
  pub more : Taken
  pub accepted : take_file sources taken file ≡ Ok more
  pub stand : StandAll sources folds more
  pub few : AreFew 4294967295 taken more

-- so many of these lines of a file were taken: what is taken of the others behind that is what is taken of all
pub record Going (sources : List TableDef) (file : LinesLeft) (start : Taken) (count : ℕ) (folds : List SourceFold) (left : LinesLeft) : Type 0 where
  pub taken : Taken
  pub ahead : List Record
  pub later : List Record
  pub stand : StandAll sources folds taken
  pub few : AreFew count start taken
  pub left_is : left.records ≡ ahead ++ later
  pub counted : count + length ahead ≡ length file.records
  pub so_far : take_file sources start file ≡ take_records sources left.feed (suc left.read) taken ahead

-- some of these files were taken, and these are left
pub record GoingOn (sources : List TableDef) (first : Option ℕ) (files rest : List LinesLeft) (folds : List SourceFold) : Type 0 where
  pub taken : Taken
  pub stand : StandAll sources folds taken
  pub few : (source : ℕ) → length (taken source) + 4294967295 * length rest ≤ 4294967295 * length files
  pub so_far : take_files sources nothing_taken (map (first_of first) files) ≡ take_files sources taken (map (first_of first) rest)
