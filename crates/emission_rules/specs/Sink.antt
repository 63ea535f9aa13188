-- The sink's writer: the rule, as a node between its edges, and what it needs of these.
use Rattle.std.specs.Prelude.{◌≡◌, ℕ, ◌⊎◌, Bool, true, false, List, [], ◌∷◌, Option, Some, None, Ok}
use Rattle.std.specs.List.{Contains}
use Rattle.ct_value.specs.declared.row.Row.{Row}
use Rattle.ct_change.specs.declared.kind.Kind.{Kind}
use Rattle.ct_change.specs.declared.kind.Kind.TheVariants.{I, UB, UA, D}
use Rattle.ct_change.specs.declared.kind.Declared.{Declared}
use Rattle.ct_change.specs.declared.kind.Declared.TheVariants.{Append, Retract, Upsert}
use Rattle.ct_change.specs.declared.change.Change.{Change}
use Rattle.ct_change.specs.Changelog.{Mode, mode_of, adds, has, admits, HasKey}
use Rattle.ct_change.specs.KeyRows.{row_told}
use Rattle.op_rules.specs.Rules.{Answer, Rule}
use Rattle.op_rules.specs.Edges.{Meaning, bag, last_rows, partials, meaning_of, forward, Edge, LiesIn, HoldsOver, KeepsKeys}
use Rattle.op_rules.specs.Tasks.{Task, Facts}
use Rattle.op_rules.specs.Ports.{task_of, TakesAll}
use Rattle.emission_rules.specs.Changes.{row_rule, mode_after}

pub record Sink : Type 0 where
  pub declared : Declared
  -- the key of an upsert sink
  pub key : List ℕ
  -- the key by which the edge that it takes is after-only
  pub after : Option (List ℕ)

-- whether an update is printed as a row that goes and a row that comes: into an upsert sink, from an edge that isn't after-only
abbrev pub splits : Declared → Option (List ℕ) → Bool
splits Append after = false
splits Retract after = false
splits Upsert None = true
splits Upsert (Some key) = false

-- the kind of a row that goes or comes by itself
abbrev pub kind_alone : Kind → Kind
kind_alone I = I
kind_alone UB = D
kind_alone UA = I
kind_alone D = D

abbrev pub kind_printed : Bool → Kind → Kind
kind_printed true kind = kind_alone kind
kind_printed false kind = kind

-- the mode in which it prints
abbrev pub print_mode : Sink → Mode
print_mode sink = mode_of sink.declared sink.key

-- the change as it is printed: an upsert sink tells by its key alone that a row went
abbrev pub printed : Sink → Change → Change
printed sink change = record { kind = kind_printed (splits sink.declared sink.after) change.kind; row = row_told (print_mode sink) (adds change.kind) change.row }

abbrev pub sink_change : Sink → Change → Answer
sink_change sink change = Ok (printed sink change ∷ [])

abbrev pub sink_rule : Sink → Rule
sink_rule sink = row_rule 1 (mode_after sink.after) (sink_change sink)

abbrev pub sink_task : Sink → ℕ → (ℕ → Edge) → Edge → Task
sink_task sink many from to = task_of (sink_rule sink) many from to (λ subtask rows. Some (rows 0)) (λ rows. Some (rows 0))

-- how what was printed may be read: as what came was, or as last rows of a key that holds of all that comes, at every moment
abbrev pub MayBeRead : Edge → Meaning → Meaning → Type 0
MayBeRead from bag bag = Unit {0}
MayBeRead from bag (last_rows key) = HoldsOver from key
MayBeRead from bag (partials p) = ⊥
MayBeRead from (last_rows own) bag = ⊥
MayBeRead from (last_rows own) (last_rows key) = LiesIn own key × LiesIn key own
MayBeRead from (last_rows own) (partials p) = ⊥
MayBeRead from (partials p) meaning = ⊥

-- a sink takes a forward edge, and its own edge carries what it prints
pub record SinkFits (sink : Sink) (from to : Edge) : Type 0 where
  pub forwards : from.exchange ≡ forward
  pub reads : from.meaning ≡ meaning_of (mode_after sink.after)
  pub writes : to.meaning ≡ meaning_of (print_mode sink)
  pub may : MayBeRead from from.meaning to.meaning
  pub admitted : (kind : Kind) → has from.kinds kind ≡ true → admits (mode_after sink.after) kind ≡ true
  pub keyed : (change : Change) → from.fits change ≡ true → HasKey (mode_after sink.after) change.row
  pub kinds : (kind : Kind) → has from.kinds kind ≡ true → has to.kinds (kind_printed (splits sink.declared sink.after) kind) ≡ true
  pub fits : (change : Change) → from.fits change ≡ true → to.fits (printed sink change) ≡ true
  pub holds : (row : Row) → from.holds row ≡ true → to.holds row ≡ true
  -- its keys and fixing sets are some of those of what comes; a fixing set lies in the key of an upsert sink
  pub unique : (key : List ℕ) → Contains to.unique key → Contains from.unique key ⊎ HoldsOver from key
  pub local : (key : List ℕ) → Contains to.local key → Contains from.local key
  pub fixing : (set : List ℕ) → Contains to.fixing set → Contains from.fixing set × KeepsKeys (print_mode sink) set

-- in however many subtasks it runs, it meets the facts of nodes, and its port takes what the edge carries
abbrev pub SinksStand : Type 0
SinksStand = (sink : Sink) (many : ℕ) (from : ℕ → Edge) (to : Edge) → SinkFits sink (from 0) to → Facts (sink_task sink many from to)

abbrev pub SinksTake : Type 0
SinksTake = (sink : Sink) (many : ℕ) (from : ℕ → Edge) (to : Edge) → SinkFits sink (from 0) to → TakesAll (sink_rule sink) (sink_task sink many from to)
