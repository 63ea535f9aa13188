-- What a run has printed, in the words of tables: before each quiet line stands a changelog whose fold is the answer over as many first lines
-- of each change file as the line tells, and every edge carried only changes that it admits.
use Rattle.std.specs.Prelude.{◌≡◌, ℕ, ◌<◌, ◌≤◌, true, List, [], ◌∷◌, ◌++◌, length, Some, Option, Ok}
use Rattle.std.specs.List.{AllByRecursion}
use Rattle.ct_change.specs.declared.change.Change.{Change}
use Rattle.ct_change.specs.Changelog.{Mode, Rows, fold, AreOf}
use Rattle.ct_change.specs.KeyRows.{IsChangelog}
use Rattle.ct_catalog.specs.declared.table.TableDef.{TableDef}
use Rattle.job_text.specs.Lines.{LinesLeft}
use Rattle.job_text.specs.Printed.{numbers_told}
use Rattle.job_text.specs.declared.orders.OrderLine.{OrderLine}
use Rattle.rel_algebra.specs.Rel.{Rel}
use Rattle.rel_algebra.specs.Answer.{Table, answer}
use Rattle.op_rules.specs.Edges.{Edge}
use Rattle.phys_plan.specs.declared.plan.Plan.{Plan}
use Rattle.stream_model.specs.declared.events.PrintItem.{PrintItem}
use Rattle.stream_model.specs.declared.events.PrintItem.TheVariants.{Quiet}
use Rattle.stream_model.specs.Network.{Network, IsNode}
use Rattle.stream_model.specs.Machine.{State}
use Rattle.stream_model.specs.Runs.{changes_in, counts_below}
use Rattle.ct_catalog.specs.Columns.{table_mode, column_types}
use Rattle.plan_rules.specs.Doings.{network}
use Rattle.sound_plans.specs.Sound.{IsRuled}
use Rattle.plan_rules.specs.Answers.{Answers}
use Rattle.source_lines.specs.Supply.{all_left, all_unread, is_by_table, AreFor}
use Rattle.source_lines.specs.Taken.{Taken, firsts, nothing_taken, rows_of, take_files}
use Rattle.source_lines.specs.Run.{At, on, place_of, printed_by, whole_run}
use Rattle.source_lines.specs.declared.supply.ChangeFiles.{ChangeFiles}

-- of each file there are so many lines
abbrev pub AreWithin : List ℕ → List LinesLeft → Type 0
AreWithin [] [] = Unit {0}
AreWithin [] (file ∷ files) = ⊥
AreWithin (count ∷ counts) [] = ⊥
AreWithin (count ∷ counts) (file ∷ files) = (count ≤ length file.records) × AreWithin counts files

-- what was printed before a quiet line that tells these numbers of lines, one of each change file: a changelog as it is written in the sink's
-- mode, which folds by it to the answer on the rows that so many first lines of each file leave in each source; and the changes taken of the
-- sources are counted so
pub record IsAnswered (mode : Mode) (sources : List TableDef) (answers : List Rows → Option Rows) (files : ChangeFiles) (counts : List ℕ) (printed : List Change) : Type 0 where
  pub within : AreWithin (numbers_told (is_by_table files) counts) (all_unread files)
  pub taken : Taken
  pub is_taken : take_files sources nothing_taken (firsts (numbers_told (is_by_table files) counts) (all_unread files)) ≡ Ok taken
  pub counted : counts ≡ counts_below taken (length sources)
  pub valid : IsChangelog mode printed
  pub folds : answers (rows_of sources taken) ≡ Some (fold mode printed)

-- so it is before each quiet item
abbrev pub AreAnswered : Mode → List TableDef → (List Rows → Option Rows) → ChangeFiles → List PrintItem → Type 0
AreAnswered mode sources answers files items = (before behind : List PrintItem) (counts : List ℕ) → items ≡ before ++ Quiet counts ∷ behind → IsAnswered mode sources answers files counts (changes_in before)

-- the last item is a quiet one, and tells the number of all lines of each file
abbrev pub EndsQuiet : ChangeFiles → List PrintItem → Type 0
EndsQuiet files items = (before : List PrintItem) × (counts : List ℕ) × (items ≡ before ++ Quiet counts ∷ []) × (numbers_told (is_by_table files) counts ≡ all_left (all_unread files))

-- changes that an edge admits: of the kinds of its mode, and with its columns; of a row that went, where the edge has last rows by a key, with
-- the key's alone
abbrev pub AreAdmitted : Edge → List Change → Type 0
AreAdmitted edge changes = AreOf edge.kinds changes × AllByRecursion (λ change. edge.fits change ≡ true) changes

-- every edge carried only such changes, and so did what was printed
pub record CarriesAdmitted (g : Network) (s : State) (items : List PrintItem) : Type 0 where
  pub edges : (v i : ℕ) → IsNode g v → i < g.subtasks → AreAdmitted (g.edge v) (s.sent v i)
  pub printed : AreAdmitted (g.edge g.count) (changes_in items)

-- ---- the laws

-- the sources with these rows
abbrev pub with_rows : List TableDef → List Rows → List Table
with_rows [] rows = []
with_rows (source ∷ sources) [] = []
with_rows (source ∷ sources) (rows ∷ others) = record { columns = column_types source; rows = rows } ∷ with_rows sources others

-- a run over a sound plan that answers what a tree does has printed the tree's answers, however it ends
abbrev pub RunsPrintAnswers : Type 0
RunsPrintAnswers = (plan : Plan) (rel : Rel) → IsRuled plan → Answers plan rel → (limit : ℕ) (files : ChangeFiles) (orders : List OrderLine) → AreFor files plan.sources
    → AreAnswered (table_mode plan.sink) plan.sources (λ rows. answer (with_rows plan.sources rows) rel) files (printed_by (whole_run (network plan) limit plan.sources files orders))

-- in the state to which a run over a sound plan comes, however it ends, every edge carried only changes that it admits
abbrev pub RunsCarryAdmitted : Type 0
RunsCarryAdmitted = (plan : Plan) → IsRuled plan → (limit : ℕ) (files : ChangeFiles) (orders : List OrderLine)
    → (let went = whole_run (network plan) limit plan.sources files orders in CarriesAdmitted (network plan) (place_of went).state (printed_by went))

-- a run that goes to its end has told a quiet moment after all lines
abbrev pub RunsEndQuiet : Type 0
RunsEndQuiet = (plan : Plan) (limit : ℕ) (files : ChangeFiles) (orders : List OrderLine) → AreFor files plan.sources → (p : At State) → whole_run (network plan) limit plan.sources files orders ≡ on p → EndsQuiet files p.state.printed
