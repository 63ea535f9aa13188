-- The rows of a difference: what comes is the change's own row, and what goes is that row or one with its key.
use Rattle.std.proofs.Common.{◌≡◌, Bool, true, false, Option, Some, None, is_some, refl, sym, ap, subst}
use Rattle.ct_value.specs.declared.row.Row.{Row}
use Rattle.ct_change.specs.declared.change.Change.{Change}
use Rattle.ct_change.specs.Changelog.{Mode, append, retract, upsert, Rows, adds, row_at}
use Rattle.ct_change.specs.Emission.{difference, as_it_is, put_in, put_over, replaced_by, row_of}

row-some : (a b : Change) → (let o : Option Change = Some a in o ≡ Some b) → b.row ≡ a.row
row-some a b e = let r : (let o : Option Row = Some a.row in o ≡ Some b.row) = ap row_of e in let same : a.row ≡ b.row = cc in sym same

come_as_it_is : (b : Bool) (change c : Change) → (as_it_is b change).come ≡ Some c → c.row ≡ change.row
come_as_it_is true change c e = row-some change c e
come_as_it_is false change c e = absurd (cc)

come_put_in : (b : Bool) (change c : Change) → (put_in b change).come ≡ Some c → c.row ≡ change.row
come_put_in true change c e = row-some change c e
come_put_in false change c e = absurd (cc)

come_put_over : (old : Row) (b : Bool) (change c : Change) → (put_over old b change).come ≡ Some c → c.row ≡ change.row
come_put_over old true change c e = row-some _ c e
come_put_over old false change c e = absurd (cc)

come_replaced_by : (o : Option Row) (change c : Change) → (replaced_by o change).come ≡ Some c → c.row ≡ change.row
come_replaced_by None change c e = come_put_in (adds change.kind) change c e
come_replaced_by (Some old) change c e = come_put_over old (adds change.kind) change c e

pub come-row : (mode : Mode) (rows : Rows) (change c : Change) → (difference mode rows change).come ≡ Some c → c.row ≡ change.row
come-row append rows change c e = come_as_it_is (adds change.kind) change c e
come-row retract rows change c e = come_as_it_is (adds change.kind) change c e
come-row (upsert key) rows change c e = come_replaced_by (row_at rows key change.row) change c e

pub gone_as_it_is : (b : Bool) (change g : Change) → (as_it_is b change).gone ≡ Some g → g.row ≡ change.row
gone_as_it_is true change g e = absurd (cc)
gone_as_it_is false change g e = row-some change g e

gone_put_over : (old : Row) (b : Bool) (change g : Change) → (put_over old b change).gone ≡ Some g → g.row ≡ old
gone_put_over old true change g e = row-some _ g e
gone_put_over old false change g e = row-some _ g e

gone_put_in : (b : Bool) (change g : Change) → (put_in b change).gone ≡ Some g → ⊥
gone_put_in true change g e = cc
gone_put_in false change g e = cc

pub gone_replaced_by : (P : Row → Type 0) (o : Option Row) (change g : Change) → (replaced_by o change).gone ≡ Some g → ((old : Row) → o ≡ Some old → P old) → P g.row
gone_replaced_by P None change g e h = absurd (gone_put_in (adds change.kind) change g e)
gone_replaced_by P (Some old) change g e h = subst P (sym (gone_put_over old (adds change.kind) change g e)) (h old refl)

-- ---- a row comes where the change adds

comes_as_it_is : (b : Bool) (change : Change) → is_some (as_it_is b change).come ≡ b
comes_as_it_is true change = refl
comes_as_it_is false change = refl

comes_put_in : (b : Bool) (change : Change) → is_some (put_in b change).come ≡ b
comes_put_in true change = refl
comes_put_in false change = refl

comes_put_over : (old : Row) (b : Bool) (change : Change) → is_some (put_over old b change).come ≡ b
comes_put_over old true change = refl
comes_put_over old false change = refl

comes_replaced_by : (o : Option Row) (change : Change) → is_some (replaced_by o change).come ≡ adds change.kind
comes_replaced_by None change = comes_put_in (adds change.kind) change
comes_replaced_by (Some old) change = comes_put_over old (adds change.kind) change

pub comes-adds : (mode : Mode) (rows : Rows) (change : Change) → is_some (difference mode rows change).come ≡ adds change.kind
comes-adds append rows change = comes_as_it_is (adds change.kind) change
comes-adds retract rows change = comes_as_it_is (adds change.kind) change
comes-adds (upsert key) rows change = comes_replaced_by (row_at rows key change.row) change
