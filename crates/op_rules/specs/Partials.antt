-- What rows of partial results are worth, column by column.
use Rattle.std.specs.Prelude.{◌≡◌, ℕ, ℤ, pos, ◌+ℤ◌, ◌<◌, Bool, true, false, ◌||◌, cond, List, [], ◌∷◌}
use Rattle.ct_value.specs.Bag.{items, copies}
use Rattle.ct_value.specs.Rows.{project}
use Rattle.ct_value.specs.declared.value.Value.{Value}
use Rattle.ct_value.specs.declared.row.Row.{Row}
use Rattle.ct_change.specs.declared.change.Change.{Change}
use Rattle.ct_change.specs.Changelog.{Rows, same_row}

-- by column: a sum, and which values were reached: for a minimum those that are at least one that came, for a maximum
-- those that are at most one
pub record Worth : Type 0 where
  pub sums : ℕ → ℤ
  pub reached : ℕ → Value → Bool

abbrev pub nothing : Worth
nothing = record { sums = λ _. pos 0; reached = λ _ _. false }

-- two worths together
abbrev pub plus : Worth → Worth → Worth
plus a b = record { sums = λ c. a.sums c +ℤ b.sums c; reached = λ c v. a.reached c v || b.reached c v }

-- how partial results are read: the columns of the group in a row that they stand for and in a partial row, whether a row
-- that they stand for has its columns, what a partial row is worth, and what a row that it stands for is worth
pub record Partials : Type 0 where
  pub group : List ℕ
  pub own : List ℕ
  pub holds : Row → Bool
  pub worth : Row → Worth
  pub alone : Row → Worth

-- what the partial rows of a group are worth together
abbrev pub sum_of : Partials → Row → List Change → Worth
sum_of p group [] = nothing
sum_of p group (change ∷ changes) = cond (same_row (project p.own change.row) (project p.own group)) (plus (p.worth change.row) (sum_of p group changes)) (sum_of p group changes)

-- what these rows of a group are worth together
abbrev pub worth_in : Partials → Row → List Row → Worth
worth_in p group [] = nothing
worth_in p group (row ∷ rows) = cond (same_row (project p.group row) (project p.own group)) (plus (p.alone row) (worth_in p group rows)) (worth_in p group rows)

abbrev pub worth_of : Partials → Row → Rows → Worth
worth_of p group rows = worth_in p group (items rows)

-- partial rows stand for rows: these have their columns, and group by group both are worth the same
pub record StandFor (p : Partials) (changes : List Change) (rows : Rows) : Type 0 where
  pub holds : (row : Row) → 0 < copies rows row → p.holds row ≡ true
  pub worth : (group : Row) → sum_of p group changes ≡ worth_of p group rows
