-- What goes and what comes by a change, and the changes that replace one row by another.
use Rattle.std.specs.Prelude.{◌≡◌, ℕ, ◌<◌, Bool, true, false, cond, List, [], ◌∷◌, Option, Some, None}
use Rattle.ct_value.specs.Bag.{copies}
use Rattle.ct_value.specs.Rows.{project}
use Rattle.ct_value.specs.declared.row.Row.{Row}
use Rattle.ct_change.specs.declared.kind.Kind.TheVariants.{I, UB, UA, D}
use Rattle.ct_change.specs.declared.change.Change.{Change}
use Rattle.ct_change.specs.declared.change.Diff.{Diff}
use Rattle.ct_change.specs.Changelog.{Mode, append, retract, upsert, Rows, adds, fold_from, IsValidFrom, row_at, same_row, without, with}
use Rattle.ct_change.specs.KeyRows.{deleted}

-- a change taken as it is: it comes where it adds, and goes where it removes
abbrev pub as_it_is : Bool → Change → Diff
as_it_is true change = record { gone = None; come = Some change }
as_it_is false change = record { gone = Some change; come = None }

-- a change on a key that has no row
abbrev pub put_in : Bool → Change → Diff
put_in true change = record { gone = None; come = Some change }
put_in false change = record { gone = None; come = None }

-- a change on a key that has this row
abbrev pub put_over : Row → Bool → Change → Diff
put_over old true change = record { gone = Some (record { kind = UB; row = old }); come = Some (record { kind = UA; row = change.row }) }
put_over old false change = record { gone = Some (record { kind = D; row = old }); come = None }

abbrev pub replaced_by : Option Row → Change → Diff
replaced_by None change = put_in (adds change.kind) change
replaced_by (Some old) change = put_over old (adds change.kind) change

-- what goes and what comes by a change where these rows stand, in full kinds
abbrev pub difference : Mode → Rows → Change → Diff
difference append rows change = as_it_is (adds change.kind) change
difference retract rows change = as_it_is (adds change.kind) change
difference (upsert key) rows change = replaced_by (row_at rows key change.row) change

abbrev pub row_of : Option Change → Option Row
row_of None = None
row_of (Some change) = Some change.row

-- the rows without the old one and with the fresh one
abbrev pub replaced : Rows → Option Row → Option Row → Rows
replaced rows old fresh = with (without rows old) fresh

-- the rows without what goes and with what comes
abbrev pub settle : Rows → Diff → Rows
settle rows diff = replaced rows (row_of diff.gone) (row_of diff.come)

-- what goes by a change stands
abbrev pub Stands : Rows → Option Change → Type 0
Stands rows None = Unit {0}
Stands rows (Some change) = 0 < copies rows change.row

-- what a change in a difference weighs
abbrev pub weight_of : (Row → ℕ) → Option Change → ℕ
weight_of f None = 0
weight_of f (Some change) = f change.row

-- a row that gives way to the change's, as they are of one key, weighs as much
abbrev pub IsSame : (Row → ℕ) → Mode → Rows → Change → Type 0
IsSame f append rows change = Unit {0}
IsSame f retract rows change = Unit {0}
IsSame f (upsert key) rows change = (old : Row) → row_at rows key change.row ≡ Some old → f old ≡ f change.row

-- the changes that replace a row by one that differs
abbrev pub update : Mode → Row → Row → List Change
update append old fresh = []
update retract old fresh = record { kind = UB; row = old } ∷ record { kind = UA; row = fresh } ∷ []
update (upsert key) old fresh = record { kind = UA; row = fresh } ∷ []

-- the changes that replace one row, or none, by another, or none; equal rows give none, and a row that goes is told as the mode does
abbrev pub emission : Mode → Option Row → Option Row → List Change
emission mode None None = []
emission mode None (Some fresh) = record { kind = I; row = fresh } ∷ []
emission mode (Some old) None = record { kind = D; row = deleted mode old } ∷ []
emission mode (Some old) (Some fresh) = cond (same_row old fresh) [] (update mode old fresh)

-- what a mode can tell: nothing goes from an append changelog, and an update of an upsert changelog keeps the key
abbrev pub CanTell : Mode → Option Row → Option Row → Type 0
CanTell append old fresh = old ≡ None
CanTell retract old fresh = Unit {0}
CanTell (upsert key) (Some old) (Some fresh) = project key old ≡ project key fresh
CanTell (upsert key) None fresh = Unit {0}
CanTell (upsert key) (Some old) None = Unit {0}

-- where these rows stand, the old row is the one that a mode can take away, and the fresh one may take its place
abbrev pub Tells : Mode → Rows → Option Row → Option Row → Type 0
Tells append rows old fresh = old ≡ None
Tells retract rows None fresh = Unit {0}
Tells retract rows (Some old) fresh = 0 < copies rows old
Tells (upsert key) rows None None = Unit {0}
Tells (upsert key) rows None (Some fresh) = row_at rows key fresh ≡ None
Tells (upsert key) rows (Some old) None = row_at rows key old ≡ Some old
Tells (upsert key) rows (Some old) (Some fresh) = (row_at rows key old ≡ Some old) × (project key old ≡ project key fresh)

-- these changes may come where these rows stand, and leave them with the old row replaced by the fresh one
pub record Replaces (mode : Mode) (rows : Rows) (old fresh : Option Row) (changes : List Change) : Type 0 where
  pub folds : fold_from mode rows changes ≡ replaced rows old fresh
  pub valid : IsValidFrom mode rows changes
