-- What a normalizer tells of a change is what its rule emits.
use Rattle.std.proofs.Common.{◌≡◌, ℕ, Bool, true, false, List, [], ◌∷◌, ◌++◌, Option, Some, None, refl, sym, ap, subst, ◌∙◌, Ok, append-nil}
use Rattle.ct_value.specs.declared.row.Row.{Row}
use Rattle.ct_change.specs.declared.change.Change.{Change}
use Rattle.ct_change.specs.declared.change.Diff.{Diff}
use Rattle.ct_change.specs.Changelog.{Mode, upsert, Rows, adds, row_at, apply, fold}
use Rattle.ct_change.specs.Emission.{difference, replaced_by, put_in, put_over, emission, row_of, CanTell}
use Rattle.ct_change.proofs.laws.Folds.{fold-push}
use Rattle.op_rules.specs.History.{Arrival}
use Rattle.op_rules.specs.Rules.{Answer, appended}
use Rattle.emission_rules.specs.Changes.{changes_of}
use Rattle.emission_rules.specs.Normalize.{Normalize, normalize_emits, normalized, row_left, TellsKey}
use Rattle.emission_rules.proofs.laws.Normalizing.{can-normalize}
use Rattle.emission_rules.proofs.laws.RowFacts.{changes_of-append}

gone-in : (b : Bool) (change : Change) → row_of (put_in b change).gone ≡ None
gone-in true change = refl
gone-in false change = refl

come-in : (b : Bool) (change : Change) → row_of (put_in b change).come ≡ row_left b change.row
come-in true change = refl
come-in false change = refl

gone-over : (old : Row) (b : Bool) (change : Change) → row_of (put_over old b change).gone ≡ Some old
gone-over old true change = refl
gone-over old false change = refl

come-over : (old : Row) (b : Bool) (change : Change) → row_of (put_over old b change).come ≡ row_left b change.row
come-over old true change = refl
come-over old false change = refl

gone : (o : Option Row) (change : Change) → row_of (replaced_by o change).gone ≡ o
gone None change = gone-in (adds change.kind) change
gone (Some old) change = gone-over old (adds change.kind) change

come : (o : Option Row) (change : Change) → row_of (replaced_by o change).come ≡ row_left (adds change.kind) change.row
come None change = come-in (adds change.kind) change
come (Some old) change = come-over old (adds change.kind) change

module _ (key : List ℕ) (mode : Mode) (rows : Rows) (change : Change) (diff : Diff) (is : diff ≡ difference (upsert key) rows change) where
  old_is : row_of diff.gone ≡ row_at rows key change.row
  old_is = ap (λ (d : Diff). row_of d.gone) is ∙ gone (row_at rows key change.row) change

  fresh_is : row_of diff.come ≡ row_left (adds change.kind) change.row
  fresh_is = ap (λ (d : Diff). row_of d.come) is ∙ come (row_at rows key change.row) change

  pub may_tell : TellsKey key mode → CanTell mode (row_of diff.gone) (row_of diff.come)
  may_tell can = subst (λ o. CanTell mode o (row_of diff.come)) (sym old_is) (subst (CanTell mode (row_at rows key change.row)) (sym fresh_is) (can-normalize key mode can rows change))

  told_is : emission mode (row_of diff.gone) (row_of diff.come) ≡ normalized (record { key = key; output = mode }) rows change
  told_is = ap (λ o. emission mode o (row_of diff.come)) old_is ∙ ap (emission mode (row_at rows key change.row)) fresh_is

  pub told_by : (was sent : List Change) (old fresh : Option Row) → old ≡ row_of diff.gone → fresh ≡ row_of diff.come → sent ≡ was ++ emission mode old fresh → sent ≡ was ++ normalized (record { key = key; output = mode }) rows change
  told_by was sent old fresh is_old is_fresh e = e ∙ ap (λ l. was ++ l) (ap (λ o. emission mode o fresh) is_old ∙ ap (emission mode (row_of diff.gone)) is_fresh ∙ told_is)

-- the rows after one more arrival
pub rows_after : (key : List ℕ) (before : List Arrival) (a : Arrival) → fold (upsert key) (changes_of (before ++ a ∷ [])) ≡ apply (upsert key) (fold (upsert key) (changes_of before)) a.change
rows_after key before a = ap (fold (upsert key)) (changes_of-append before (a ∷ [])) ∙ fold-push (upsert key) (changes_of before) a.change

-- what is emitted for one change
pub emits_one : (normalize : Normalize) (before : List Change) (change : Change) (was sent : List Change) → sent ≡ was ++ normalized normalize (fold (upsert normalize.key) before) change → appended (Ok was) (normalize_emits normalize before (change ∷ [])) ≡ Ok sent
emits_one normalize before change was sent e = ap (λ (xs : List Change). let r : Answer = Ok xs in r) (ap (λ l. was ++ l) (append-nil (normalized normalize (fold (upsert normalize.key) before) change)) ∙ sym e)
