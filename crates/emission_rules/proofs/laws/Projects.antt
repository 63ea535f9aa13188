-- A project meets its facts.
use Rattle.std.proofs.Common.{◌≡◌, ℕ, zero, suc, Bool, true, false, cond, List, [], ◌∷◌, map, Option, Some, None, Ok, refl, sym, ap, subst, ◌∙◌, arith, inl, inr}
use Rattle.std.specs.Prelude.{option_map, slice_get}
use Rattle.std.specs.List.{AllByRecursion}
use Rattle.ct_value.specs.Rows.{project as values_of}
use Rattle.ct_value.specs.declared.row.Row.{Row}
use Rattle.ct_value.specs.declared.value.Value.{Value}
use Rattle.ct_value.specs.declared.value.Value.TheVariants.{Null}
use Rattle.ct_change.specs.declared.kind.Kind.{Kind}
use Rattle.ct_change.specs.declared.change.Change.{Change}
use Rattle.ct_change.specs.Changelog.{Rows, adds, has, admits, upsert}
use Rattle.ct_change.specs.KeyRows.{is_among, key_row}
use Rattle.ct_change.proofs.laws.KeyRows.{cell-key_row}
use Rattle.ct_expr.specs.Expr.{Expr, Column}
use Rattle.ct_expr.specs.Eval.{eval}
use Rattle.rel_algebra.specs.Clauses.{collect, row_of}
use Rattle.rel_algebra.specs.Sums.{one, sum_over}
use Rattle.rel_algebra.specs.Batch.{project_answer}
use Rattle.column_sets.specs.Places.{place_of}
use Rattle.op_rules.specs.History.{at_port}
use Rattle.op_rules.specs.Edges.{Meaning, meaning_of, IsPartial, Edge, KeepsKeys}
use Rattle.op_rules.specs.Ports.{IsReadIn, Takes}
use Rattle.emission_rules.specs.Changes.{mode_after}
use Rattle.emission_rules.specs.Project.{Project, row_made, handed, plain_row, image_of, row_after, with_row, project_change, project_rule, IsImage, WritesImage, ProjectFits, ProjectsStand, ProjectsTake}
use Rattle.emission_rules.proofs.laws.Moved.{Fate, moved, shown, image, CarriesAs, CarriesRows, Carries, AreInRange}
use Rattle.emission_rules.proofs.laws.RowFacts.{Moves, LeavesOne, row_facts}
use Rattle.emission_rules.proofs.laws.RowReads.{reads_bag, reads_last, bag_whole, last_whole, ReadsFront}
use Rattle.emission_rules.proofs.laws.Filters.{reads_retract, from_first}
use Rattle.emission_rules.proofs.laws.Images.{value_at, IsPlain, agree_at, agree_on, lies_among, is_plain, plain_value, image_place, image_column, image_is}

-- a row that is made
abbrev making : Option Row → Fate
making None = None
making (Some row) = Some (Some row)

same_answer : (change : Change) (o : Option Row) → with_row change o ≡ moved change.kind change.row (making o)
same_answer change None = refl
same_answer change (Some row) = refl

same_rows : (o : Option Row) → option_map one o ≡ option_map shown (making o)
same_rows None = refl
same_rows (Some row) = refl

never_goes : (o : Option Row) → making o ≡ Some None → ⊥
never_goes None e = cc
never_goes (Some row) e = let h : Some (Some row) ≡ Some None = e in cc

is_made : (o : Option Row) (made : Row) → making o ≡ Some (Some made) → o ≡ Some made
is_made None made e = absurd (cc)
is_made (Some row) made e = cc

-- ---- the values of plain columns

-- an item that is a column has its value
made_value : (items : List Expr) (row made : Row) (column place : ℕ) → row_made items row ≡ Some made → IsPlain items column place → value_at place made ≡ value_at column row
made_value [] row made column place e plain = absurd (let h : None ≡ Some (Column column plain.0) = plain.1 in cc)
made_value (item ∷ items) row made column place e plain =
    go (λ place values er at. made_value items row values column place er (plain.0, at)) place plain.1 (eval item row) refl (row_of (map eval items) row) refl e
  where
    go : ((place : ℕ) (values : Row) → row_of (map eval items) row ≡ Some values → slice_get items place ≡ Some (Column column plain.0) → value_at place values ≡ value_at column row) → (place : ℕ) → slice_get (item ∷ items) place ≡ Some (Column column plain.0) → (v : Option Value) → eval item row ≡ v → (rest : Option Row) → row_of (map eval items) row ≡ rest
        → collect (v ∷ map (λ meaning. meaning row) (map eval items)) ≡ Some made → value_at place made ≡ value_at column row
    go ih place at None ev rest er f = absurd (cc)
    go ih place at (Some v) ev None er f = absurd (let g : option_map (λ values. v ∷ values) (row_of (map eval items) row) ≡ Some made = f in let h = ap (option_map (λ values. v ∷ values)) er in cc)
    go ih zero at (Some v) ev (Some values) er f =
        let h : Some (v ∷ values) ≡ Some made = sym (ap (option_map (λ values. v ∷ values)) er) ∙ f in
        let is : v ∷ values ≡ made = cc in
        let col : item ≡ Column column plain.0 = (let g : Some item ≡ Some (Column column plain.0) = at in cc) in
        let value : Some v ≡ Some (value_at column row) = sym ev ∙ ap (λ x. eval x row) col in
        ap (value_at 0) (sym is) ∙ (let g : v ≡ value_at column row = cc in g)
    go ih (suc place) at (Some v) ev (Some values) er f =
        let h : Some (v ∷ values) ≡ Some made = sym (ap (option_map (λ values. v ∷ values)) er) ∙ f in
        let is : v ∷ values ≡ made = cc in
        ap (value_at (suc place)) (sym is) ∙ ih place values er at

-- where an edge is after-only, its key has an image among the items
abbrev HasImage : List Expr → Option (List ℕ) → Type 0
HasImage items None = Unit {0}
HasImage items (Some key) = (places : List ℕ) × IsImage items key places

-- the columns whose values a row tells that comes or goes
abbrev IsToldBy : Option (List ℕ) → ℕ → Type 0
IsToldBy None column = Unit {0}
IsToldBy (Some key) column = is_among key column ≡ true

-- the value of a column of the key stands at the first place of the row by which it is told that a row went
gone_value : (items : List Expr) (key places : List ℕ) → IsImage items key places → (row : Row) (column place : ℕ) → is_among key column ≡ true → place_of (handed items) column ≡ Some place
    → value_at place (key_row (image_of items key) (plain_row items row)) ≡ value_at column row
gone_value items key places is_key row column place in_key at =
    let own = image_place items key places is_key column in_key in
    let one : Some own.0 ≡ Some place = sym own.1 ∙ at in
    let same : own.0 ≡ place = cc in
    let kept : is_among (image_of items key) place ≡ true = ap (λ s. is_among s place) (image_is items key places is_key) ∙ ap (is_among places) (sym same) ∙ own.2 in
    cell-key_row (image_of items key) (plain_row items row) place
    ∙ ap (λ b. cond b (value_at place (plain_row items row)) Null) kept
    ∙ plain_value items row column place (is_plain items column place at)

-- what becomes of a row has the values of the columns that it tells at their first places
sent_value : (items : List Expr) (after : Option (List ℕ)) → HasImage items after → (comes : Bool) (row made : Row) → row_after after items comes row ≡ Some made
    → (column place : ℕ) → IsToldBy after column → place_of (handed items) column ≡ Some place → value_at place made ≡ value_at column row
sent_value items None has comes row made e column place told at = made_value items row made column place e (is_plain items column place at)
sent_value items (Some key) has true row made e column place told at = made_value items row made column place e (is_plain items column place at)
sent_value items (Some key) has false row made e column place told at =
    let h : Some (key_row (image_of items key) (plain_row items row)) ≡ Some made = e in
    let is : key_row (image_of items key) (plain_row items row) ≡ made = cc in
    ap (value_at place) (sym is) ∙ gone_value items key has.0 has.1 row column place told at

-- a set that lies in the key tells its columns
tells_set : (after : Option (List ℕ)) (own : List ℕ) → KeepsKeys (mode_after after) own → (column : ℕ) → is_among own column ≡ true → IsToldBy after column
tells_set None own lies column has = tt
tells_set (Some key) own lies column has = lies_among own key lies column has

-- where rows come, each item is evaluated
comes_made : (after : Option (List ℕ)) (items : List Expr) (row : Row) → row_after after items true row ≡ row_made items row
comes_made None items row = refl
comes_made (Some key) items row = refl

module _ (items : List Expr) where
  abbrev fate : Option (List ℕ) → Bool → Row → Fate
  fate after comes row = making (row_after after items comes row)

  abbrev turn : Kind → Kind
  turn kind = kind

  stays : (kind : Kind) → adds (turn kind) ≡ adds kind
  stays kind = refl

  abbrev over : Option (List ℕ) → Project
  over after = record { items = items; after = after }

  made_rows : (after : Option (List ℕ)) (row : Row) → option_map one (row_made items row) ≡ option_map shown (fate after true row)
  made_rows after row = same_rows (row_made items row) ∙ ap (λ o. option_map shown (making o)) (sym (comes_made after items row))

  batch_is : (after : Option (List ℕ)) (rows : Rows) → project_answer items rows ≡ image (fate after) turn stays rows
  batch_is after rows = ap (λ (f : Row → Option Rows). sum_over f rows) (λ i row. made_rows after row i)

  -- what becomes of a row that comes or goes so has the values of the columns of a set
  abbrev Tells : Option (List ℕ) → Bool → List ℕ → Type 0
  Tells after comes own = (row made : Row) → row_after after items comes row ≡ Some made → (column place : ℕ) → is_among own column ≡ true → place_of (handed items) column ≡ Some place → value_at place made ≡ value_at column row

  -- then the set is kept in its image
  keeps_where : (after : Option (List ℕ)) (x y : Bool) (set own : List ℕ) → IsImage items own set → Tells after x own → Tells after y own → CarriesAs (fate after) turn stays x y set own
  keeps_where after x y set own is_set told other a b fa fb is_a is_b same =
      agree_on own a b (λ column has.
      let at = image_place items own set is_set column has in
      sym (told a fa (is_made (row_after after items x a) fa is_a) column at.0 has at.1)
      ∙ agree_at set fa fb at.0 at.2 same
      ∙ other b fb (is_made (row_after after items y b) fb is_b) column at.0 has at.1)

  tells_rows : (after : Option (List ℕ)) (own : List ℕ) → Tells after true own
  tells_rows after own row made e column place has at = made_value items row made column place (sym (comes_made after items row) ∙ e) (is_plain items column place at)

  keeps_rows : (after : Option (List ℕ)) (set own : List ℕ) → IsImage items own set → CarriesRows (fate after) turn stays set own
  keeps_rows after set own is_set = keeps_where after true true set own is_set (tells_rows after own) (tells_rows after own)

  tells_key : (after : Option (List ℕ)) → HasImage items after → (own : List ℕ) → KeepsKeys (mode_after after) own → (comes : Bool) → Tells after comes own
  tells_key after key_image own lies comes row made e column place has at = sent_value items after key_image comes row made e column place (tells_set after own lies column has) at

  keeps : (after : Option (List ℕ)) → HasImage items after → (set own : List ℕ) → KeepsKeys (mode_after after) own → IsImage items own set → Carries (fate after) turn stays set own
  keeps after key_image set own lies is_set x y = keeps_where after x y set own is_set (tells_key after key_image own lies x) (tells_key after key_image own lies y)

  -- rows that agree on the key agree on its image
  forth : (key places : List ℕ) → IsImage items key places → (x y : Bool) (a b : Row) (fa fb : Row) → fate (Some key) x a ≡ Some (Some fa) → fate (Some key) y b ≡ Some (Some fb)
      → values_of key a ≡ values_of key b → values_of places fa ≡ values_of places fb
  forth key places is_key x y a b fa fb is_a is_b same =
      agree_on places fa fb (λ place has.
      let at = image_column items key places is_key place has in
      sent_value items (Some key) (places, is_key) x a fa (is_made (row_after (Some key) items x a) fa is_a) at.0 place at.2 at.1
      ∙ agree_at key a b at.0 at.2 same
      ∙ sym (sent_value items (Some key) (places, is_key) y b fb (is_made (row_after (Some key) items y b) fb is_b) at.0 place at.2 at.1))

  key_keeps : (key places : List ℕ) → IsImage items key places → Carries (fate (Some key)) turn stays places key
  key_keeps key places is_key = keeps (Some key) (places, is_key) places key (λ a b same. same) is_key

  -- the key's image is there
  image_there : (after : Option (List ℕ)) (m : Meaning) → WritesImage items after m → HasImage items after
  image_there None m writes = tt
  image_there (Some key) m writes = (writes.0, writes.1)

  module _ (many : ℕ) (from : ℕ → Edge) (to : Edge) where
    is : (after : Option (List ℕ)) (change : Change) → project_change (over after) change ≡ moved (turn change.kind) change.row (fate after (adds change.kind) change.row)
    is after change = same_answer change (row_after after items (adds change.kind) change.row)

    abbrev Leaves : Option (List ℕ) → Meaning → Type 0
    Leaves after m = LeavesOne (fate after) turn stays (project_change (over after)) (is after) (project_answer items) (batch_is after) (mode_after after) many from to m

    reads : (after : Option (List ℕ)) → (from 0).meaning ≡ meaning_of (mode_after after) → WritesImage items after to.meaning
        → ((kind : Kind) → has (from 0).kinds kind ≡ true → admits (mode_after after) kind ≡ true)
        → (took : List Change) → AllByRecursion (λ change. has (from 0).kinds change.kind ≡ true) took → AreInRange (fate after) turn stays took → (n : ℕ)
        → ReadsFront (fate after) turn stays (project_answer items) (batch_is after) (from 0) to took n
    reads None is_read writes admitted took kinds known n =
        reads_bag (fate None) turn stays (project_answer items) (batch_is None) (from 0) to (λ row. refl) is_read writes took known n
    reads (Some key) is_read writes admitted took kinds known n =
        reads_last (fate (Some key)) turn stays (project_answer items) (batch_is (Some key)) (from 0) to key writes.0 is_read writes.2
        (λ comes row e. never_goes (row_after (Some key) items comes row) e) (key_keeps key writes.0 writes.1) (forth key writes.0 writes.1) admitted took kinds known n

    whole : (after : Option (List ℕ)) (m : Meaning) → WritesImage items after m → IsPartial m → ⊥
    whole None m writes = bag_whole m writes
    whole (Some key) m writes = last_whole m writes.0 writes.2

    leaves : (after : Option (List ℕ)) (m : Meaning) → (from 0).meaning ≡ meaning_of (mode_after after) → WritesImage items after m → Leaves after m
    leaves None m is_read writes = subst (Leaves None) (sym writes) tt
    leaves (Some key) m is_read writes = subst (Leaves (Some key)) (sym writes.2) (key, key_keeps key writes.0 writes.1, inr is_read)

    -- what is sent for a change, by what becomes of its row
    answered_so : (after : Option (List ℕ)) (change : Change) (row : Row) → row_after after items (adds change.kind) change.row ≡ Some row → project_change (over after) change ≡ Ok (record { kind = change.kind; row = row } ∷ [])
    answered_so after change row e = ap (with_row change) e

    moves : (after : Option (List ℕ)) → ProjectFits (over after) (from 0) to
        → Moves (fate after) turn stays (project_change (over after)) (is after) (project_answer items) (batch_is after) (mode_after after) many from to
    moves after fits =
        let key_image = image_there after to.meaning fits.writes in
        record {
          forwards = fits.forwards;
          reads = λ j history ready known n. reads after fits.reads fits.writes fits.admitted (at_port 0 history) (ready.kinds 0 (omega arith)) known n;
          whole = whole after to.meaning fits.writes;
          leaves = leaves after to.meaning fits.reads fits.writes;
          kinds = fits.kinds;
          fits = λ change row h is_row.
              fits.fits change (record { kind = change.kind; row = row }) h (answered_so after change row (is_made (row_after after items (adds change.kind) change.row) row is_row));
          holds = λ row made h is_row. fits.holds row made h (sym (comes_made after items row) ∙ is_made (row_after after items true row) made is_row);
          unique = λ key has. let own = fits.unique key has in (own.0, inl own.1, keeps_rows after key own.0 own.2);
          local = λ key has. let own = fits.local key has in (own.0, own.1, keeps_rows after key own.0 own.2);
          fixing = λ set has. let own = fits.fixing set has in (own.0, own.1, keeps after key_image set own.0 own.2 own.3);
        }

pub projects_stand : ProjectsStand
projects_stand project many from to fits =
    row_facts (fate project.items project.after) (turn project.items) (stays project.items) (project_change project) (is project.items many from to project.after) (project_answer project.items) (batch_is project.items project.after)
    (mode_after project.after) many from to (moves project.items many from to project.after fits)

-- an edge that is after-only by a key, or of bags, may be read so
pub reads_after : (after : Option (List ℕ)) (m : Meaning) → m ≡ meaning_of (mode_after after) → IsReadIn m (mode_after after)
reads_after None m is = reads_retract m is
reads_after (Some key) m is = subst (λ x. IsReadIn x (upsert key)) (sym is) refl

pub projects_take : ProjectsTake
projects_take project many from to fits = (
  refl,
  from_first (λ p. Takes (project_rule project) p (from p)) (record {
    reads = reads_after project.after (from 0).meaning fits.reads;
    kinds = fits.admitted;
    fits = λ change h. refl;
    keyed = fits.keyed;
  }),
)
