-- A node with its edges, as it runs in several subtasks: what it emits, what a subtask may rely on of the changes that it
-- took, and the facts that are then known of what was emitted.
use Rattle.std.specs.Prelude.{◌≡◌, ℕ, zero, suc, ◌+◌, ◌<◌, ◌⊎◌, true, cond, List, [], take, Option, Some, Ok}
use Rattle.std.specs.List.{Contains, AllByRecursion}
use Rattle.ct_value.specs.Bag.{copies}
use Rattle.ct_value.specs.declared.row.Row.{Row}
use Rattle.ct_change.specs.declared.change.Change.{Change}
use Rattle.ct_change.specs.Changelog.{Rows, AreOf}
use Rattle.op_rules.specs.History.{Arrival, at_port, joined}
use Rattle.op_rules.specs.Rules.{Answer, appended, along}
use Rattle.op_rules.specs.Edges.{Meaning, ReadsAs, Exchange, forward, hash, Edge, belongs_by, IsRouted, IsUnique, IsApart, HoldsOver, IsSeen, AreApartBy}

-- the sum of f over the numbers below n
abbrev pub total : ℕ → (ℕ → ℕ) → ℕ
total zero f = 0
total (suc n) f = total n f + f n

pub record Task : Type 0 where
  pub subtasks : ℕ
  -- its ports, with the edge that feeds each, and the edge that leaves it
  pub ports : ℕ
  pub input : ℕ → Edge
  pub output : Edge
  -- what a subtask emits when the job opens, and for a piece after the changes that it folded before
  pub opening : ℕ → List Change
  pub emits : List Arrival → List Arrival → Answer
  -- the batch answer of a subtask, and of the node, from the rows of the ports; none where it is out of range
  pub part : ℕ → (ℕ → Rows) → Option Rows
  pub batch : (ℕ → Rows) → Option Rows

-- all that a subtask emits: what it opens with, then what it emits for each piece after those before it
abbrev pub emitted_by : Task → ℕ → List (List Arrival) → Answer
emitted_by task j pieces = appended (Ok (task.opening j)) (along task.emits [] pieces)

-- ---- what is relied on

-- what the lists that an edge's subtasks sent have in common
pub record IsFine (many : ℕ) (edge : Edge) (sent : ℕ → List Change) : Type 0 where
  -- each prefix stands for some rows
  pub valid : (i : ℕ) → i < many → (n : ℕ) → (rows : Rows) × ReadsAs edge.meaning (take n (sent i)) rows
  pub apart : AreApartBy edge.meaning many sent
  pub kinds : (i : ℕ) → i < many → AreOf edge.kinds (sent i)
  pub types : (i : ℕ) → i < many → AllByRecursion (λ change. edge.fits change ≡ true) (sent i)
  -- local keys hold at each prefix
  pub keys : (key : List ℕ) → Contains edge.local key → (i : ℕ) → i < many → (n : ℕ) (rows : Rows) → ReadsAs edge.meaning (take n (sent i)) rows → IsUnique key (copies rows)
  -- rows that agree on a fixing set come from one subtask
  pub fixed : (columns : List ℕ) → Contains edge.fixing columns → IsApart columns many sent

-- what a subtask may rely on of the changes that it took
pub record IsReady (task : Task) (j : ℕ) (history : List Arrival) : Type 0 where
  pub ports : AllByRecursion (λ a. a.port < task.ports) history
  -- each prefix of a port's changes stands for some rows
  pub valid : (p : ℕ) → p < task.ports → (n : ℕ) → (rows : Rows) × ReadsAs (task.input p).meaning (at_port p (take n history)) rows
  pub kinds : (p : ℕ) → p < task.ports → AreOf (task.input p).kinds (at_port p history)
  pub types : (p : ℕ) → p < task.ports → AllByRecursion (λ change. (task.input p).fits change ≡ true) (at_port p history)
  -- each key that is seen holds at each prefix
  pub keys : (p : ℕ) → p < task.ports → (key : List ℕ) → IsSeen (task.input p) key → (n : ℕ) (rows : Rows) → ReadsAs (task.input p).meaning (at_port p (take n history)) rows → IsUnique key (copies rows)
  pub placed : (p : ℕ) → p < task.ports → IsRouted (task.input p) j (at_port p history)

-- what is known of the rows that an edge's changes stand for at a quiet moment: its keys, and its columns
pub record IsSettled (edge : Edge) (rows : Rows) : Type 0 where
  pub keys : (key : List ℕ) → Contains edge.unique key ⊎ HoldsOver edge key → IsUnique key (copies rows)
  pub types : (row : Row) → 0 < copies rows row → edge.holds row ≡ true

abbrev pub IsSplitBy : Meaning → Exchange → (Row → ℕ) → ℕ → (ℕ → Rows) → Rows → Type 0
IsSplitBy meaning forward route many parts whole = (row : Row) → copies whole row ≡ total many (λ j. copies (parts j) row)
IsSplitBy meaning (hash columns) route many parts whole = (j : ℕ) → j < many → (row : Row) → copies (parts j) row ≡ cond (belongs_by meaning (hash columns) route 0 j row) (copies whole row) 0

-- how the rows of an edge are split over the subtasks of its consumer
abbrev pub IsSplit : ℕ → Edge → (ℕ → Rows) → Rows → Type 0
IsSplit many edge parts whole = IsSplitBy edge.meaning edge.exchange edge.route many parts whole

abbrev pub ComeFixedBy : Exchange → ℕ → Edge → (ℕ → List Change) → Type 0
ComeFixedBy forward many edge came = (columns : List ℕ) → Contains edge.fixing columns → IsApart columns many came
ComeFixedBy (hash columns) many edge came = Unit {0}

-- on a forward edge rows that agree on a fixing set come to one subtask
abbrev pub ComeFixed : ℕ → Edge → (ℕ → List Change) → Type 0
ComeFixed many edge came = ComeFixedBy edge.exchange many edge came

abbrev pub ComeApartBy : Exchange → Meaning → ℕ → (ℕ → List Change) → Type 0
ComeApartBy forward meaning many came = AreApartBy meaning many came
ComeApartBy (hash columns) meaning many came = Unit {0}

-- on a forward edge of last rows each key comes to one subtask
abbrev pub ComeApart : ℕ → Edge → (ℕ → List Change) → Type 0
ComeApart many edge came = ComeApartBy edge.exchange edge.meaning many came

-- ---- what is known

-- a subtask that took these pieces, on which it may rely, emitted this
pub record Emitted (task : Task) (j : ℕ) (pieces : List (List Arrival)) (sent : List Change) : Type 0 where
  pub subtask : j < task.subtasks
  pub emitted : emitted_by task j pieces ≡ Ok sent
  pub ready : IsReady task j (joined pieces)

-- the same of all subtasks
abbrev pub AllEmitted : Task → (ℕ → List (List Arrival)) → (ℕ → List Change) → Type 0
AllEmitted task pieces sent = (j : ℕ) → j < task.subtasks → Emitted task j (pieces j) (sent j)

-- all that was emitted stands for the batch answer of what the ports' changes stand for, which isn't out of range
abbrev pub FoldsToAnswer : Task → Type 0
FoldsToAnswer task = (j : ℕ) (pieces : List (List Arrival)) (sent : List Change) → Emitted task j pieces sent
    → (rows : ℕ → Rows) → ((p : ℕ) → p < task.ports → ReadsAs (task.input p).meaning (at_port p (joined pieces)) (rows p) × IsSettled (task.input p) (rows p))
    → (answer : Rows) × (task.part j rows ≡ Some answer) × ReadsAs task.output.meaning sent answer

-- each prefix of what was emitted stands for some rows
abbrev pub PrefixesStand : Task → Type 0
PrefixesStand task = (j : ℕ) (pieces : List (List Arrival)) (sent : List Change) → Emitted task j pieces sent
    → (n : ℕ) → (rows : Rows) × ReadsAs task.output.meaning (take n sent) rows

-- what was emitted is of the edge's kinds
abbrev pub KindsStay : Task → Type 0
KindsStay task = (j : ℕ) (pieces : List (List Arrival)) (sent : List Change) → Emitted task j pieces sent → AreOf task.output.kinds sent

-- what was emitted has the edge's columns
abbrev pub TypesStay : Task → Type 0
TypesStay task = (j : ℕ) (pieces : List (List Arrival)) (sent : List Change) → Emitted task j pieces sent
    → AllByRecursion (λ change. task.output.fits change ≡ true) sent

-- the batch answer of the whole is the sum of the subtasks' batch answers of their parts, where these aren't out of range
abbrev pub PartsAddUp : Task → Type 0
PartsAddUp task = (parts : ℕ → ℕ → Rows) (whole answers : ℕ → Rows)
    → ((p : ℕ) → p < task.ports → IsSplit task.subtasks (task.input p) (λ j. parts j p) (whole p))
    → ((j : ℕ) → j < task.subtasks → task.part j (parts j) ≡ Some (answers j))
    → (answer : Rows) × (task.batch whole ≡ Some answer) × ((row : Row) → total task.subtasks (λ j. copies (answers j) row) ≡ copies answer row)

-- local keys hold of each prefix of what was emitted
abbrev pub LocalKeysHold : Task → Type 0
LocalKeysHold task = (j : ℕ) (pieces : List (List Arrival)) (sent : List Change) → Emitted task j pieces sent
    → (key : List ℕ) → Contains task.output.local key → (n : ℕ) (rows : Rows) → ReadsAs task.output.meaning (take n sent) rows → IsUnique key (copies rows)

-- rows that agree on a fixing set leave one subtask
abbrev pub FixingSetsHold : Task → Type 0
FixingSetsHold task = (pieces : ℕ → List (List Arrival)) (sent : ℕ → List Change) → AllEmitted task pieces sent
    → ((p : ℕ) → p < task.ports → ComeFixed task.subtasks (task.input p) (λ j. at_port p (joined (pieces j))))
    → (columns : List ℕ) → Contains task.output.fixing columns → IsApart columns task.subtasks sent

-- of last rows, the changes of one key leave one subtask
abbrev pub LastRowsLeaveApart : Task → Type 0
LastRowsLeaveApart task = (pieces : ℕ → List (List Arrival)) (sent : ℕ → List Change) → AllEmitted task pieces sent
    → ((p : ℕ) → p < task.ports → ComeApart task.subtasks (task.input p) (λ j. at_port p (joined (pieces j))))
    → ((p : ℕ) → p < task.ports → ComeFixed task.subtasks (task.input p) (λ j. at_port p (joined (pieces j))))
    → AreApartBy task.output.meaning task.subtasks sent

-- the batch answer of settled rows has the edge's columns, and its unique keys
abbrev pub AnswersFit : Task → Type 0
AnswersFit task = (whole : ℕ → Rows) (answer : Rows) → task.batch whole ≡ Some answer → ((p : ℕ) → p < task.ports → IsSettled (task.input p) (whole p))
    → (row : Row) → 0 < copies answer row → task.output.holds row ≡ true

abbrev pub UniqueKeysHold : Task → Type 0
UniqueKeysHold task = (whole : ℕ → Rows) (answer : Rows) → task.batch whole ≡ Some answer → ((p : ℕ) → p < task.ports → IsSettled (task.input p) (whole p))
    → (key : List ℕ) → Contains task.output.unique key → IsUnique key (copies answer)

-- what is known of a node
pub record Facts (task : Task) : Type 0 where
  pub folds_to_answer : FoldsToAnswer task
  pub prefixes_stand : PrefixesStand task
  pub kinds_stay : KindsStay task
  pub types_stay : TypesStay task
  pub parts_add_up : PartsAddUp task
  pub local_keys : LocalKeysHold task
  pub fixing_sets : FixingSetsHold task
  pub after_only : LastRowsLeaveApart task
  pub answer_types : AnswersFit task
  pub unique_keys : UniqueKeysHold task
