-- Set operations: the rule, as a node between its edges, and what it needs of these.
use Rattle.std.specs.Prelude.{◌≡◌, ℕ, ◌<◌, nat_lt, Bool, true, false, cond, ◌⊎◌, ◌||◌, List, [], ◌∷◌, ◌++◌, Ok}
use Rattle.std.specs.List.{Contains}
use Rattle.ct_value.specs.Bag.{copies}
use Rattle.ct_value.specs.Rows.{project}
use Rattle.ct_value.specs.declared.row.Row.{Row}
use Rattle.ct_value.specs.declared.ty.ColTy.{ColTy}
use Rattle.ct_change.specs.declared.kind.Kind.{Kind}
use Rattle.ct_change.specs.declared.kind.Kind.TheVariants.{I, D}
use Rattle.ct_change.specs.declared.kind.KindSet.{KindSet}
use Rattle.ct_change.specs.declared.change.Change.{Change}
use Rattle.ct_change.specs.Changelog.{Rows, retract, fold, has}
use Rattle.ct_change.specs.Kinds.{has_more_than_inserts}
use Rattle.rel_algebra.specs.Batch.{set_answer}
use Rattle.rel_algebra.specs.Clauses.{Fits}
use Rattle.rel_algebra.specs.Sets.{set_form, set_copies}
use Rattle.op_rules.specs.History.{Arrival, at_port}
use Rattle.op_rules.specs.Rules.{Rule}
use Rattle.op_rules.specs.Edges.{bag, hash, Edge, LiesIn, HoldsOver, IsSeen}
use Rattle.op_rules.specs.Ports.{task_of, TakesAll}
use Rattle.op_rules.specs.Tasks.{Task, Facts}

-- EXCEPT, or else INTERSECT, and whether each copy of a row counts
pub record SetOperation : Type 0 where
  pub except : Bool
  pub all : Bool

-- how many copies of a row the operation leaves where these rows stand on the two sides
abbrev pub number_in : SetOperation → Rows → Rows → Row → ℕ
number_in s left right row = set_copies (set_form s.except s.all) (copies left row) (copies right row)

-- the rows of a port, and the number after these arrivals
abbrev pub rows_of_port : ℕ → List Arrival → Rows
rows_of_port port arrivals = fold retract (at_port port arrivals)

abbrev pub number : SetOperation → List Arrival → Row → ℕ
number s arrivals row = number_in s (rows_of_port 0 arrivals) (rows_of_port 1 arrivals) row

-- `+I` of a row where its number rises, `-D` where it falls, and else nothing
abbrev pub told_by_numbers : ℕ → ℕ → Row → List Change
told_by_numbers old new row = cond (nat_lt old new) (record { kind = I; row = row } ∷ []) (cond (nat_lt new old) (record { kind = D; row = row } ∷ []) [])

abbrev pub set_tells : SetOperation → List Arrival → Arrival → List Change
set_tells s sofar a = told_by_numbers (number s sofar a.change.row) (number s (sofar ++ a ∷ []) a.change.row) a.change.row

-- the same for several, one after the other
abbrev pub set_emits : SetOperation → List Arrival → List Arrival → List Change
set_emits s sofar [] = []
set_emits s sofar (a ∷ others) = set_tells s sofar a ++ set_emits s (sofar ++ a ∷ []) others

-- it takes rows of any columns, and looks at two counts, of which it writes one
abbrev pub set_rule : SetOperation → Rule
set_rule s = record {
  ports = 2;
  mode = λ port. retract;
  fits = λ port change. true;
  opening = λ subtask. [];
  emits = λ sofar piece. Ok (set_emits s sofar piece);
  work = λ sofar a. 4;
}

abbrev pub set_task : ℕ → SetOperation → (ℕ → Edge) → Edge → Task
set_task many s from to = task_of (set_rule s) many from to (λ subtask rows. set_answer s.except s.all (rows 0) (rows 1)) (λ rows. set_answer s.except s.all (rows 0) (rows 1))

-- ---- what is needed

-- a row goes where one may come on the right of an EXCEPT, or go from an input
abbrev pub set_kinds : Bool → KindSet → KindSet → KindSet
set_kinds except left right = record { i = true; ub = false; ua = false; d = except || (has_more_than_inserts left || has_more_than_inserts right) }

-- rows with these columns that agree on the key are one
abbrev pub TellsApart : List ColTy → List ℕ → Type 0
TellsApart columns key = (a b : Row) → Fits columns a → Fits columns b → project key a ≡ project key b → a ≡ b

-- a key of the left lies in it, or under INTERSECT one of the right; or each row stands once, and it tells rows apart
abbrev pub IsKeyOf : SetOperation → List ColTy → (List ℕ → Type 0) → (List ℕ → Type 0) → List ℕ → Type 0
IsKeyOf s columns L R key =
    ((own : List ℕ) × L own × LiesIn own key) ⊎ (((s.except ≡ false) × ((own : List ℕ) × R own × LiesIn own key)) ⊎ ((s.all ≡ false) × TellsApart columns key))

-- an input is a hash edge of bags by these columns
pub record InputFits (many : ℕ) (hashed_by : List ℕ) (columns : List ColTy) (from : Edge) : Type 0 where
  pub reads : from.meaning ≡ bag
  pub hashed : from.exchange ≡ hash hashed_by
  pub routed : (key : Row) → from.route key < many
  pub fits : (change : Change) → from.fits change ≡ true → Fits columns change.row
  pub holds : (row : Row) → from.holds row ≡ true → Fits columns row

-- both are by the same columns; the rows that leave are rows of the left, and under INTERSECT of both
pub record SetFits (many : ℕ) (s : SetOperation) (hashed_by : List ℕ) (left_columns right_columns : List ColTy) (from : ℕ → Edge) (to : Edge) : Type 0 where
  pub left : InputFits many hashed_by left_columns (from 0)
  pub right : InputFits many hashed_by right_columns (from 1)
  pub together : (key : Row) → (from 0).route key ≡ (from 1).route key
  pub writes : to.meaning ≡ bag
  pub kinds : (kind : Kind) → has (set_kinds s.except (from 0).kinds (from 1).kinds) kind ≡ true → has to.kinds kind ≡ true
  pub fits : (change : Change) → Fits left_columns change.row → (s.except ≡ false → Fits right_columns change.row) → to.fits change ≡ true
  pub holds : (row : Row) → Fits left_columns row → (s.except ≡ false → Fits right_columns row) → to.holds row ≡ true
  pub unique : (key : List ℕ) → Contains to.unique key → IsKeyOf s left_columns (λ own. Contains (from 0).unique own ⊎ HoldsOver (from 0) own) (λ own. Contains (from 1).unique own ⊎ HoldsOver (from 1) own) key
  pub local : (key : List ℕ) → Contains to.local key → IsKeyOf s left_columns (IsSeen (from 0)) (IsSeen (from 1)) key
  pub fixing : (set : List ℕ) → Contains to.fixing set → LiesIn hashed_by set

-- ---- what is known

-- a set operation meets the facts of nodes, in however many subtasks it runs
abbrev pub SetOperationsStand : Type 0
SetOperationsStand = (many : ℕ) (s : SetOperation) (hashed_by : List ℕ) (left right : List ColTy) (from : ℕ → Edge) (to : Edge) → SetFits many s hashed_by left right from to → Facts (set_task many s from to)

-- and takes what its edges carry
abbrev pub SetOperationsTake : Type 0
SetOperationsTake = (many : ℕ) (s : SetOperation) (hashed_by : List ℕ) (left right : List ColTy) (from : ℕ → Edge) (to : Edge) → SetFits many s hashed_by left right from to → TakesAll (set_rule s) (set_task many s from to)
