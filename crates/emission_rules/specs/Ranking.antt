-- The rule of Top-N: what it emits for what comes, from the first rows of the change's partition before and after it.
use Rattle.std.specs.Prelude.{◌≡◌, ℕ, zero, suc, ◌+◌, ◌*◌, ◌<◌, ◌^◌, ◌==◌, Bool, true, cond, ◌||◌, nat_lt, List, [], ◌∷◌, ◌++◌, length, map, take, Some, None, Ok}
use Rattle.std.specs.List.{AllByRecursion}
use Rattle.ct_value.specs.Bag.{total, occurs, drop_one}
use Rattle.ct_value.specs.Order.{row_cmp}
use Rattle.ct_value.specs.Rows.{project}
use Rattle.ct_value.specs.declared.row.Row.{Row}
use Rattle.ct_value.specs.declared.ty.ColTy.{ColTy}
use Rattle.ct_change.specs.declared.kind.Kind.TheVariants.{I, D}
use Rattle.ct_change.specs.declared.change.Change.{Change}
use Rattle.ct_change.specs.Changelog.{Mode, append, retract, upsert, Rows, apply, fold}
use Rattle.ct_change.specs.Emission.{emission}
use Rattle.op_rules.specs.Values.{types_fit}
use Rattle.rel_algebra.specs.declared.sort.SortCol.{SortCol}
use Rattle.rel_algebra.specs.Keys.{rows_of_key}
use Rattle.rel_algebra.specs.Ranks.{in_rank_order, shown}
use Rattle.op_rules.specs.History.{Arrival, at_port}
use Rattle.op_rules.specs.Rules.{Rule}
use Rattle.op_rules.specs.Edges.{KeepsKeys, LiesIn}

-- of rows of these columns the first ones are kept of each partition, which columns name: at most so many in this order, with
-- their rank as the last column or without it; from a changelog in one mode to one in another
pub record Ranking : Type 0 where
  pub partition : List ℕ
  pub order : List SortCol
  pub bound : ℕ
  pub ranked : Bool
  pub columns : List ColTy
  pub input : Mode
  pub output : Mode

-- the columns that name a row's partition
abbrev pub key_of : Ranking → Row → Row
key_of r row = project r.partition row

-- the rows of a partition
abbrev pub members : Ranking → Row → Rows → Rows
members r key rows = rows_of_key (key_of r) key rows

-- the first of them in rank order
abbrev pub first : Ranking → Row → Rows → List Row
first r key rows = take r.bound (in_rank_order r.order (members r key rows))

-- ---- what is told

-- rank by rank, from this one on: the old row of the rank, if there is one, is replaced by the new one, if there is one
abbrev pub told_by_rank : Bool → Mode → ℕ → List Row → List Row → List Change
told_by_rank ranked output rank [] [] = []
told_by_rank ranked output rank [] (new ∷ news) = emission output None (Some (shown ranked (new, rank))) ++ told_by_rank ranked output (suc rank) [] news
told_by_rank ranked output rank (old ∷ olds) [] = emission output (Some (shown ranked (old, rank))) None ++ told_by_rank ranked output (suc rank) olds []
told_by_rank ranked output rank (old ∷ olds) (new ∷ news) = emission output (Some (shown ranked (old, rank))) (Some (shown ranked (new, rank))) ++ told_by_rank ranked output (suc rank) olds news

-- the rows beyond those of another list, copy by copy
abbrev pub beyond : List Row → List Row → List Row
beyond [] others = []
beyond (row ∷ rows) others = cond (occurs row_cmp row others == 0) (row ∷ beyond rows others) (beyond rows (drop_one row_cmp row others))

-- row by row: first what left, then what entered, each in rank order
abbrev pub told_by_row : List Row → List Row → List Change
told_by_row olds news = map (λ row. record { kind = D; row = row }) (beyond olds news) ++ map (λ row. record { kind = I; row = row }) (beyond news olds)

-- whether each rank has a row of its own: where ranks are shown, and where there is one alone
abbrev pub by_rank : Ranking → Bool
by_rank r = r.ranked || (r.bound == 1)

abbrev pub told : Ranking → List Row → List Row → List Change
told r olds news = cond (by_rank r) (told_by_rank r.ranked r.output 1 olds news) (told_by_row olds news)

-- for a change, where these rows stand: the first rows of its partition before and after it are compared once
abbrev pub tells : Ranking → Rows → Change → List Change
tells r rows change = told r (first r (key_of r change.row) rows) (first r (key_of r change.row) (apply r.input rows change))

-- for several, one after the other
abbrev pub tells_all : Ranking → Rows → List Change → List Change
tells_all r rows [] = []
tells_all r rows (change ∷ changes) = tells r rows change ++ tells_all r (apply r.input rows change) changes

-- ---- what it costs

-- the number of binary digits: the least exponent of two whose power is greater
abbrev pub digits_from : ℕ → ℕ → ℕ → ℕ
digits_from zero exponent n = exponent
digits_from (suc fuel) exponent n = cond (nat_lt n (2 ^ exponent)) exponent (digits_from fuel (suc exponent) n)

abbrev pub digits : ℕ → ℕ
digits n = digits_from n 0 n

-- how many rows a partition has, each copy by itself
abbrev pub size : Ranking → Row → Rows → ℕ
size r key rows = total (λ _. 1) (members r key rows)

-- the first rows are read before and after the change, and its place is looked up once or twice
abbrev pub work : Ranking → List Arrival → Arrival → ℕ
work r before a = 4 + 2 * r.bound + 2 * digits (size r (key_of r a.change.row) (fold r.input (at_port 0 before)) + 1)

-- ---- the rule

abbrev pub topn_rule : Ranking → Rule
topn_rule r = record {
  ports = 1;
  mode = λ port. r.input;
  fits = λ port change. types_fit r.columns change.row;
  opening = λ subtask. [];
  emits = λ before piece. Ok (tells_all r (fold r.input (at_port 0 before)) (at_port 0 piece));
  work = work r;
}

-- ---- what a ranking needs

-- the columns by which what is emitted is told apart: those of the partition, and the rank where it is shown
abbrev pub names : Ranking → List ℕ
names r = cond r.ranked (r.partition ++ length r.columns ∷ []) r.partition

-- an output mode in which each change can be told: with a key, each rank has a row of its own, which the key names
abbrev pub TellsRanks : Ranking → Mode → Type 0
TellsRanks r append = ⊥
TellsRanks r retract = Unit {0}
TellsRanks r (upsert key) = (by_rank r ≡ true) × LiesIn (names r) key × LiesIn key (names r)

-- the partition's columns are there, ranks are numbers of the rank's column, and the modes suit: rows with one key of the input
-- are of one partition
pub record IsSound (r : Ranking) : Type 0 where
  pub within : AllByRecursion (λ column. column < length r.columns) r.partition
  pub few : r.bound < 2 ^ 63
  pub keeps : KeepsKeys r.input r.partition
  pub tells : TellsRanks r r.output
