-- Laws of folds: lists one after another, what a change adds to a weight, and what its difference says.
use Rattle.std.proofs.Common.{◌≡◌, ℕ, ◌+◌, ◌<◌, ◌≤◌, Bool, true, false, cond, List, [], ◌∷◌, ◌++◌, Option, Some, None, refl, sym, ap, ◌∙◌, arith}
use Rattle.std.specs.List.{find}
use Rattle.std.specs.Cmp.{Equal-is}
use Rattle.std.specs.Option.{is_some}
use Rattle.ct_value.specs.Bag.{items, copies, none, add, remove, total, occurs, one_at}
use Rattle.ct_value.proofs.laws.Bags.{one_at_itself, total-add, total-remove, copies-occurs}
use Rattle.ct_value.specs.Order.{row_cmp, row_total, row_exact}
use Rattle.ct_value.specs.Rows.{project}
use Rattle.ct_value.specs.declared.row.Row.{Row}
use Rattle.ct_change.specs.declared.kind.Kind.{Kind}
use Rattle.ct_change.specs.declared.kind.Kind.TheVariants.{I, UB, UA, D}
use Rattle.ct_change.specs.declared.change.Change.{Change}
use Rattle.ct_change.specs.declared.change.Diff.{Diff}
use Rattle.ct_change.specs.Changelog.{Mode, append, retract, upsert, Rows, adds, admits, apply, fold_from, fold, MayCome, IsValidFrom, row_at, without, with}
use Rattle.ct_change.specs.Emission.{difference, settle, row_of, put_in, put_over, replaced_by, as_it_is, Stands, weight_of, IsSame}

-- ---- lists one after another

pub fold_from-append : (mode : Mode) (rows : Rows) (xs ys : List Change) → fold_from mode rows (xs ++ ys) ≡ fold_from mode (fold_from mode rows xs) ys
fold_from-append mode rows [] ys = refl
fold_from-append mode rows (x ∷ xs) ys = fold_from-append mode (apply mode rows x) xs ys

pub fold-push : (mode : Mode) (xs : List Change) (x : Change) → fold mode (xs ++ x ∷ []) ≡ apply mode (fold mode xs) x
fold-push mode xs x = fold_from-append mode none xs (x ∷ [])

pub IsValidFrom-append : (mode : Mode) (rows : Rows) (xs ys : List Change) → IsValidFrom mode rows xs → IsValidFrom mode (fold_from mode rows xs) ys → IsValidFrom mode rows (xs ++ ys)
IsValidFrom-append mode rows [] ys v w = w
IsValidFrom-append mode rows (x ∷ xs) ys v w = (v.0, IsValidFrom-append mode (apply mode rows x) xs ys v.1 w)

-- a prefix of a valid list is valid, and what follows is valid after it
pub IsValidFrom-front : (mode : Mode) (rows : Rows) (xs ys : List Change) → IsValidFrom mode rows (xs ++ ys) → IsValidFrom mode rows xs
IsValidFrom-front mode rows [] ys v = tt
IsValidFrom-front mode rows (x ∷ xs) ys v = (v.0, IsValidFrom-front mode (apply mode rows x) xs ys v.1)

pub IsValidFrom-back : (mode : Mode) (rows : Rows) (xs ys : List Change) → IsValidFrom mode rows (xs ++ ys) → IsValidFrom mode (fold_from mode rows xs) ys
IsValidFrom-back mode rows [] ys v = v
IsValidFrom-back mode rows (x ∷ xs) ys v = IsValidFrom-back mode (apply mode rows x) xs ys v.1

-- ---- a row that is found stands

find-occurs : (p : Row → Bool) (xs : List Row) (row : Row) → find p xs ≡ Some row → 0 < occurs row_cmp row xs
find-occurs p [] row e = absurd (cc)
find-occurs p (x ∷ xs) row e =
    elim (p x) as (λ b. cond b (Some x) (find p xs) ≡ Some row → 0 < one_at row_cmp row x + occurs row_cmp row xs) [
      | true ↦ λ q. let same : x ≡ row = cc in let one : one_at row_cmp row x ≡ 1 = ap (one_at row_cmp row) same ∙ one_at_itself row_cmp row_total row in omega arith
      | false ↦ λ q. omega (arith, find-occurs p xs row q)
    ] e

pub row_at-stands : (rows : Rows) (key : List ℕ) (row old : Row) → row_at rows key row ≡ Some old → 0 < copies rows old
row_at-stands rows key row old e = rw copies-occurs (find-occurs _ (items rows) old e)

-- ---- a change and its difference

pub append_only : (kind : Kind) → admits append kind ≡ true → adds kind ≡ true
append_only I a = refl
append_only UB a = absurd (cc)
append_only UA a = absurd (cc)
append_only D a = absurd (cc)

append_adds : (kind : Kind) → admits append kind ≡ true → adds kind ≡ false → ⊥
append_adds I a e = cc
append_adds UB a e = cc
append_adds UA a e = cc
append_adds D a e = cc

as_it_is-stands : (rows : Rows) (b : Bool) (change : Change) → (b ≡ false → 0 < copies rows change.row) → Stands rows (as_it_is b change).gone
as_it_is-stands rows true change h = tt
as_it_is-stands rows false change h = h refl

put_in-stands : (rows : Rows) (b : Bool) (change : Change) → Stands rows (put_in b change).gone
put_in-stands rows true change = tt
put_in-stands rows false change = tt

put_over-stands : (rows : Rows) (old : Row) (b : Bool) (change : Change) → 0 < copies rows old → Stands rows (put_over old b change).gone
put_over-stands rows old true change h = h
put_over-stands rows old false change h = h

replaced_by-stands : (rows : Rows) (o : Option Row) (change : Change) → ((old : Row) → o ≡ Some old → 0 < copies rows old) → Stands rows (replaced_by o change).gone
replaced_by-stands rows None change h = put_in-stands rows (adds change.kind) change
replaced_by-stands rows (Some old) change h = put_over-stands rows old (adds change.kind) change (h old refl)

-- what goes stands
pub gone_stands : (mode : Mode) (rows : Rows) (change : Change) → MayCome mode rows change → Stands rows (difference mode rows change).gone
gone_stands append rows change may = as_it_is-stands rows (adds change.kind) change (λ e. absurd (append_adds change.kind may e))
gone_stands retract rows change may = as_it_is-stands rows (adds change.kind) change may
gone_stands (upsert key) rows change may = replaced_by-stands rows (row_at rows key change.row) change (row_at-stands rows key change.row)

settle-as_it_is : (rows : Rows) (b : Bool) (change : Change) → settle rows (as_it_is b change) ≡ cond b (add rows change.row) (remove rows change.row)
settle-as_it_is rows true change = refl
settle-as_it_is rows false change = refl

settle-replaced_by : (rows : Rows) (o : Option Row) (b : Bool) (change : Change) → adds change.kind ≡ b → settle rows (replaced_by o change) ≡ cond b (add (without rows o) change.row) (without rows o)
settle-replaced_by rows None true change e = rw e
settle-replaced_by rows None false change e = rw e
settle-replaced_by rows (Some old) true change e = rw e
settle-replaced_by rows (Some old) false change e = rw e

-- the rows after a change are the rows without what goes and with what comes
pub settle-difference : (mode : Mode) (rows : Rows) (change : Change) → MayCome mode rows change → settle rows (difference mode rows change) ≡ apply mode rows change
settle-difference append rows change may = settle-as_it_is rows (adds change.kind) change ∙ ap (λ b. cond b (add rows change.row) (remove rows change.row)) (append_only change.kind may)
settle-difference retract rows change may = settle-as_it_is rows (adds change.kind) change
settle-difference (upsert key) rows change may = settle-replaced_by rows (row_at rows key change.row) (adds change.kind) change refl

total-settle : (f : Row → ℕ) (rows : Rows) (diff : Diff) → Stands rows diff.gone → total f (settle rows diff) + weight_of f diff.gone ≡ total f rows + weight_of f diff.come
total-settle f rows diff stands =
    let came : (others : Rows) → total f (with others (row_of diff.come)) ≡ total f others + weight_of f diff.come =
    λ others. elim diff.come as (λ o. total f (with others (row_of o)) ≡ total f others + weight_of f o) [ None ↦ omega arith | Some change ↦ omega (arith, total-add row_total f others change.row) ] in
    let went : total f (without rows (row_of diff.gone)) + weight_of f diff.gone ≡ total f rows =
    elim diff.gone as (λ o. Stands rows o → total f (without rows (row_of o)) + weight_of f o ≡ total f rows) [ None ↦ λ s. omega arith | Some change ↦ λ s. omega (arith, total-remove row_total row_exact f rows change.row s) ] stands in
    omega (arith, came (without rows (row_of diff.gone)), went)

-- a change adds to a weight what comes, and takes from it what goes
pub total-apply : (f : Row → ℕ) (mode : Mode) (rows : Rows) (change : Change) → MayCome mode rows change
    → total f (apply mode rows change) + weight_of f (difference mode rows change).gone ≡ total f rows + weight_of f (difference mode rows change).come
total-apply f mode rows change may =
    ap (λ r. total f r + weight_of f (difference mode rows change).gone) (sym (settle-difference mode rows change may))
    ∙ total-settle f rows (difference mode rows change) (gone_stands mode rows change may)

-- ---- what goes and what comes is of the change's own kind of row, where f can't tell the rows of one key apart

as_it_is-gone : (f : Row → ℕ) (b : Bool) (change : Change) → weight_of f (as_it_is b change).gone ≡ cond (is_some (as_it_is b change).gone) (f change.row) 0
as_it_is-gone f true change = refl
as_it_is-gone f false change = refl

as_it_is-come : (f : Row → ℕ) (b : Bool) (change : Change) → weight_of f (as_it_is b change).come ≡ cond (is_some (as_it_is b change).come) (f change.row) 0
as_it_is-come f true change = refl
as_it_is-come f false change = refl

put_in-gone : (f : Row → ℕ) (b : Bool) (change : Change) → weight_of f (put_in b change).gone ≡ cond (is_some (put_in b change).gone) (f change.row) 0
put_in-gone f true change = refl
put_in-gone f false change = refl

put_in-come : (f : Row → ℕ) (b : Bool) (change : Change) → weight_of f (put_in b change).come ≡ cond (is_some (put_in b change).come) (f change.row) 0
put_in-come f true change = refl
put_in-come f false change = refl

put_over-gone : (f : Row → ℕ) (old : Row) (b : Bool) (change : Change) → f old ≡ f change.row → weight_of f (put_over old b change).gone ≡ cond (is_some (put_over old b change).gone) (f change.row) 0
put_over-gone f old true change e = e
put_over-gone f old false change e = e

put_over-come : (f : Row → ℕ) (old : Row) (b : Bool) (change : Change) → weight_of f (put_over old b change).come ≡ cond (is_some (put_over old b change).come) (f change.row) 0
put_over-come f old true change = refl
put_over-come f old false change = refl

replaced_by-gone : (f : Row → ℕ) (o : Option Row) (change : Change) → ((old : Row) → o ≡ Some old → f old ≡ f change.row) → weight_of f (replaced_by o change).gone ≡ cond (is_some (replaced_by o change).gone) (f change.row) 0
replaced_by-gone f None change h = put_in-gone f (adds change.kind) change
replaced_by-gone f (Some old) change h = put_over-gone f old (adds change.kind) change (h old refl)

replaced_by-come : (f : Row → ℕ) (o : Option Row) (change : Change) → weight_of f (replaced_by o change).come ≡ cond (is_some (replaced_by o change).come) (f change.row) 0
replaced_by-come f None change = put_in-come f (adds change.kind) change
replaced_by-come f (Some old) change = put_over-come f old (adds change.kind) change

pub weight-gone : (f : Row → ℕ) (mode : Mode) (rows : Rows) (change : Change) → IsSame f mode rows change
    → weight_of f (difference mode rows change).gone ≡ cond (is_some (difference mode rows change).gone) (f change.row) 0
weight-gone f append rows change h = as_it_is-gone f (adds change.kind) change
weight-gone f retract rows change h = as_it_is-gone f (adds change.kind) change
weight-gone f (upsert key) rows change h = replaced_by-gone f (row_at rows key change.row) change h

pub weight-come : (f : Row → ℕ) (mode : Mode) (rows : Rows) (change : Change)
    → weight_of f (difference mode rows change).come ≡ cond (is_some (difference mode rows change).come) (f change.row) 0
weight-come f append rows change = as_it_is-come f (adds change.kind) change
weight-come f retract rows change = as_it_is-come f (adds change.kind) change
weight-come f (upsert key) rows change = replaced_by-come f (row_at rows key change.row) change

-- a row that is found passes the test
pub find-passes : (p : Row → Bool) (xs : List Row) (row : Row) → find p xs ≡ Some row → p row ≡ true
find-passes p [] row e = absurd (cc)
find-passes p (x ∷ xs) row e =
    elim (p x) as (λ b. p x ≡ b → cond b (Some x) (find p xs) ≡ Some row → p row ≡ true) [
      | true ↦ λ t q. let same : x ≡ row = cc in ap p (sym same) ∙ t
      | false ↦ λ t q. find-passes p xs row q
    ] refl e

-- the row of a key has that key
pub row_at-key : (rows : Rows) (key : List ℕ) (row old : Row) → row_at rows key row ≡ Some old → project key row ≡ project key old
row_at-key rows key row old e = row_exact _ _ ((Equal-is (row_cmp (project key row) (project key old))).0 (find-passes _ (items rows) old e))

Stands-le : (f : Row → ℕ) (rows : Rows) (o : Option Change) → Stands rows o → weight_of f o ≤ total f rows
Stands-le f rows None s = omega arith
Stands-le f rows (Some change) s = omega (arith, total-remove row_total row_exact f rows change.row s)

-- what goes is a part of what stands
pub weight_gone-le : (f : Row → ℕ) (mode : Mode) (rows : Rows) (change : Change) → MayCome mode rows change → weight_of f (difference mode rows change).gone ≤ total f rows
weight_gone-le f mode rows change may = Stands-le f rows (difference mode rows change).gone (gone_stands mode rows change may)
