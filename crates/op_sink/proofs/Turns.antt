-- What a materializer keeps and tells after a change is its rule's.
use Rattle.std.proofs.Common.{◌≡◌, ℕ, ◌&&◌, nat_lt, ltb-true, Bool, true, false, cond, List, [], ◌∷◌, ◌++◌, length, Option, None, Ok, refl, sym, ap, ◌∙◌, append-nil}
use Rattle.std.specs.List.{list_all, last_or}
use Rattle.std.specs.Option.{unwrap_or}
use Rattle.std.specs.Cmp.{eq_by_cmp_equiv}
use Rattle.std.specs.BTreeMap.{BTreeMap, get}
use Rattle.ct_value.specs.Order.{row_cmp, row_total}
use Rattle.ct_value.specs.Rows.{project}
use Rattle.ct_value.specs.declared.row.Row.{Row}
use Rattle.ct_change.specs.declared.change.Change.{Change}
use Rattle.ct_change.specs.Changelog.{upsert, same_row, HasKey}
use Rattle.ct_change.specs.Emission.{emission}
use Rattle.ct_change.specs.LastRows.{has_key}
use Rattle.ct_change.proofs.laws.Meanings.{same_row-true, same_row-itself}
use Rattle.op_rules.specs.History.{Arrival}
use Rattle.op_rules.specs.Rules.{Answer}
use Rattle.emission_rules.specs.Changes.{changes_of}
use Rattle.emission_rules.specs.Materialize.{stands_after, standing, under, materialized, materialized_all}
use Rattle.emission_rules.proofs.laws.Materializing.{standing-append, under-own, under-other}
use Rattle.emission_rules.proofs.laws.RowFacts.{changes_of-append}
use Rattle.op_sink.specs.Kept.{rows_at, AreKept}

-- a row that fits has the key's columns
pub has_columns : (key : List ℕ) (row : Row) → list_all (λ column. nat_lt column (length row)) key ≡ true → HasKey (upsert key) row
has_columns [] row e = tt
has_columns (column ∷ key) row e = (ltb-true column (length row) (first _ _ e), has_columns key row (second _ _ e))
  where
    first : (a b : Bool) → (a && b) ≡ true → a ≡ true
    first true b e = refl
    first false b e = e

    second : (a b : Bool) → (a && b) ≡ true → b ≡ true
    second true b e = e
    second false b e = absurd (cc (e))

module _ (key : List ℕ) (change : Change) (kept : BTreeMap Row (List Row)) (rows : List Row) (are : AreKept key kept rows) where
  own : has_key key (project key change.row) change.row ≡ true
  own = same_row-itself (project key change.row)

  after_own : stands_after (rows_at kept (project key change.row)) change ≡ under key (project key change.row) (stands_after rows change)
  after_own = ap (λ xs. stands_after xs change) (are (project key change.row)) ∙ sym (under-own key (project key change.row) rows change own)

  -- what is told of the rows under its key is what the rule emits
  pub told_is : (values : Row) → values ≡ project key change.row → (sent : List Change) → sent ≡ emission (upsert key) (last_or None (rows_at kept values)) (last_or None (stands_after (rows_at kept values) change)) → sent ≡ materialized key rows change
  told_is values is sent e =
      e
      ∙ ap (λ v. emission (upsert key) (last_or None (rows_at kept v)) (last_or None (stands_after (rows_at kept v) change))) is
      ∙ ap (λ xs. emission (upsert key) (last_or None xs) (last_or None (stands_after (rows_at kept (project key change.row)) change))) (are (project key change.row))
      ∙ ap (λ xs. emission (upsert key) (last_or None (under key (project key change.row) rows)) (last_or None xs)) after_own

  -- the rows under the other keys stay
  pub kept_after : (values : Row) → values ≡ project key change.row → (new : BTreeMap Row (List Row))
      → ((other : Row) → rows_at new other ≡ cond (same_row values other) (stands_after (rows_at kept values) change) (rows_at kept other)) → AreKept key new (stands_after rows change)
  kept_after values is new each other =
      each other
      ∙ ap (λ v. cond (same_row v other) (stands_after (rows_at kept v) change) (rows_at kept other)) is
      ∙ elim (same_row (project key change.row) other) as (λ b. same_row (project key change.row) other ≡ b → cond b (stands_after (rows_at kept (project key change.row)) change) (rows_at kept other) ≡ under key other (stands_after rows change)) [
        | true ↦ λ e. after_own ∙ ap (λ v. under key v (stands_after rows change)) (same_row-true (project key change.row) other e)
        | false ↦ λ e. are other ∙ sym (under-other key other rows change (sym ((eq_by_cmp_equiv row_total).symm (project key change.row) other) ∙ e))
      ] refl

-- the rows that stand after one more arrival
pub standing_after : (before : List Arrival) (a : Arrival) → standing (changes_of (before ++ a ∷ [])) ≡ stands_after (standing (changes_of before)) a.change
standing_after before a = ap standing (changes_of-append before (a ∷ [])) ∙ standing-append (changes_of before) (a.change ∷ [])

-- what is emitted for one change
pub emits_one : (key : List ℕ) (rows : List Row) (change : Change) (sent : List Change) → sent ≡ materialized key rows change → (let answer : Answer = Ok (materialized_all key rows (change ∷ [])) in answer) ≡ Ok sent
emits_one key rows change sent e = ap (λ (xs : List Change). let r : Answer = Ok xs in r) (append-nil (materialized key rows change) ∙ sym e)

-- ---- one key's rows, written

-- what is put at a key, or taken from it
pub put_at : (new kept : BTreeMap Row (List Row)) (values : Row) (rows : List Row) (written : Option (List Row)) → unwrap_or written [] ≡ rows
    → ((other : Row) → get row_cmp new other ≡ cond (same_row values other) written (get row_cmp kept other)) → (other : Row) → rows_at new other ≡ cond (same_row values other) rows (rows_at kept other)
put_at new kept values rows written is writes other =
    ap (λ o. unwrap_or o []) (writes other)
    ∙ elim (same_row values other) as (λ b. unwrap_or (cond b written (get row_cmp kept other)) [] ≡ cond b rows (rows_at kept other)) [ true ↦ is | false ↦ refl ]

-- the rows under a key that has none stay
pub stay_at : (kept : BTreeMap Row (List Row)) (values : Row) (rows : List Row) → rows ≡ rows_at kept values → (other : Row) → rows_at kept other ≡ cond (same_row values other) rows (rows_at kept other)
stay_at kept values rows is other =
    elim (same_row values other) as (λ b. same_row values other ≡ b → rows_at kept other ≡ cond b rows (rows_at kept other)) [
      | true ↦ λ e. ap (rows_at kept) (sym (same_row-true values other e)) ∙ sym is
      | false ↦ λ e. refl
    ] refl

pub nil_length : (rows : List Row) → length rows ≡ 0 → rows ≡ []
nil_length [] e = refl
nil_length (row ∷ rows) e = absurd (cc (e))
