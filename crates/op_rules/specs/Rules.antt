-- A rule says what an operator emits: a function of what it took before and of what comes.
use Rattle.std.specs.Prelude.{◌≡◌, ℕ, ◌+◌, ◌<◌, ◌^◌, Bool, true, List, [], ◌∷◌, ◌++◌, length, map, Result, Ok, Err}
use Rattle.ct_value.specs.declared.row.Row.{Row}
use Rattle.ct_change.specs.declared.change.Change.{Change}
use Rattle.ct_change.specs.Changelog.{Mode, Rows, fold, MayCome, HasKey}
use Rattle.op_rules.specs.History.{Arrival, arrival, at_port}

-- changes, or the row that is out of range
abbrev pub Answer : Type 0
Answer = Result (List Change) Row

-- one answer behind another; where one is out of range, the first such stands
abbrev pub appended : Answer → Answer → Answer
appended (Ok changes) (Ok others) = Ok (changes ++ others)
appended (Ok changes) (Err row) = Err row
appended (Err row) answer = Err row

pub record Rule : Type 0 where
  -- how many ports it has, and the mode in which the changes of each are read
  pub ports : ℕ
  pub mode : ℕ → Mode
  -- whether a change has the columns of a port
  pub fits : ℕ → Change → Bool
  -- what a subtask emits when the job opens
  pub opening : ℕ → List Change
  -- what is emitted for a piece, which comes after what was taken before
  pub emits : List Arrival → List Arrival → Answer
  -- how many counted steps an arrival may cost, after what was taken before
  pub work : List Arrival → Arrival → ℕ

-- the rows that stand at a port after these arrivals
abbrev pub rows_at : Rule → ℕ → List Arrival → Rows
rows_at rule port arrivals = fold (rule.mode port) (at_port port arrivals)

-- all that is emitted for the pieces, after what was taken before
abbrev pub along : (List Arrival → List Arrival → Answer) → List Arrival → List (List Arrival) → Answer
along emits before [] = Ok []
along emits before (piece ∷ pieces) = appended (emits before piece) (along emits (before ++ piece) pieces)

-- all that a subtask emits: what it opens with, then what it emits for each piece after those before it
abbrev pub emitted : Rule → ℕ → List (List Arrival) → Answer
emitted rule subtask pieces = appended (Ok (rule.opening subtask)) (along rule.emits [] pieces)

-- a change may come to a port after what came there: the port is there, the change is valid, and has the columns
pub record MayArrive (rule : Rule) (before : List Arrival) (a : Arrival) : Type 0 where
  pub port : a.port < rule.ports
  pub change : MayCome (rule.mode a.port) (rows_at rule a.port before) a.change
  pub fits : rule.fits a.port a.change ≡ true
  pub key : HasKey (rule.mode a.port) a.change.row

-- each change may come after those before it
abbrev pub ArriveAfter : Rule → List Arrival → List Arrival → Type 0
ArriveAfter rule before [] = Unit {0}
ArriveAfter rule before (a ∷ others) = MayArrive rule before a × ArriveAfter rule (before ++ a ∷ []) others

-- how many counted steps arrivals may cost, one after the other
abbrev pub work_along : Rule → List Arrival → List Arrival → ℕ
work_along rule before [] = 0
work_along rule before (a ∷ others) = rule.work before a + work_along rule (before ++ a ∷ []) others

-- so it is of a change that arrives at a port, from whatever subtask, after all that may have been taken before
abbrev pub ForArriving : Rule → (List Arrival → Type 0) → ℕ → Change → (List Arrival → Arrival → Type 0) → Type 0
ForArriving rule stands port change P = (before : List Arrival) (from : ℕ) → stands before → MayArrive rule before (arrival port from change) → (length before + 1 < 2 ^ 32) → P before (arrival port from change)

-- behind these changes, what is emitted for an arrival after what was taken before makes those
abbrev pub EmitsOnto : Rule → List Arrival → Arrival → List Change → List Change → Type 0
EmitsOnto rule before a old new = appended (Ok old) (rule.emits before (a ∷ [])) ≡ Ok new

-- these changes, which came as one piece after what was taken before, may come to the rule, each after those before it
pub record MayTakePiece (rule : Rule) (before piece : List Arrival) (changes : List Change) : Type 0 where
  pub is : map (λ a. a.change) piece ≡ changes
  pub arrive : ArriveAfter rule before piece
  pub few : length before + length piece < 2 ^ 32
