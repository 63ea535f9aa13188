-- What the checks of sources stand for.
use Rattle.std.specs.Prelude.{◌≡◌, ℕ, ◌==◌, cond, List, [], ◌∷◌, ◌++◌, slice_get, Option, Some, None}
use Rattle.ct_change.specs.declared.change.Change.{Change}
use Rattle.ct_change.specs.Changelog.{fold}
use Rattle.stream_model.specs.declared.events.Event.TheVariants.{Take}
use Rattle.stream_model.specs.Tables.{Table, refusal}
use Rattle.stream_model.specs.Network.{Network}
use Rattle.stream_model.specs.Machine.{State}
use Rattle.stream_model.specs.Runs.{happens, IsTyped}

-- the changes taken of each table, after one more
abbrev pub taken_after : (ℕ → List Change) → ℕ → Change → ℕ → List Change
taken_after taken table change = λ t. cond (t == table) (taken t ++ change ∷ []) (taken t)

module _ {S : Type 0} (stands : S → Table → List Change → Type 0) where
  abbrev pub ChecksIn : Option S → Option Table → List Change → Type 0
  ChecksIn None None taken = Unit {0}
  ChecksIn None (Some table) taken = ⊥
  ChecksIn (Some source) None taken = ⊥
  ChecksIn (Some source) (Some table) taken = stands source table taken

  -- the check of each table stands for the changes taken of it
  pub record AllCheck (g : Network) (sources : List S) (taken : ℕ → List Change) : Type 0 where
    pub at : (table : ℕ) → ChecksIn (slice_get sources table) (g.tables table) (taken table)

  -- a change that fits its table may be tested
  pub record MayCheck (g : Network) (s : State) (sources : List S) (number : ℕ) (change : Change) : Type 0 where
    pub checks : AllCheck g sources s.taken
    pub typed : IsTyped g (happens (Take number change))

  -- it isn't refused, and the checks stand for what was taken with it
  pub record IsAccepted (g : Network) (s : State) (sources : List S) (number : ℕ) (change : Change) : Type 0 where
    pub table : Table
    pub is : g.tables number ≡ Some table
    pub accepted : refusal table (fold table.mode (s.taken number)) change ≡ None
    pub checks : AllCheck g sources (taken_after s.taken number change)
