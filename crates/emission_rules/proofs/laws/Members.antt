-- The rows of groups after one more change, and after a piece.
use Rattle.std.proofs.Common.{◌≡◌, ℕ, ◌+◌, ◌<◌, ◌≤◌, Bool, true, false, cond, ◌||◌, List, [], ◌∷◌, map, length, take, refl, sym, ap, subst, ◌∙◌, arith}
use Rattle.std.specs.List.{list_any, AllByRecursion}
use Rattle.std.specs.Option.{is_some}
use Rattle.ct_value.specs.Bag.{copies, total, one_at}
use Rattle.ct_value.proofs.laws.Bags.{copies-occurs, same_bag}
use Rattle.ct_value.specs.Order.{row_cmp, row_total, row_exact}
use Rattle.ct_value.specs.declared.row.Row.{Row}
use Rattle.ct_change.specs.declared.change.Change.{Change}
use Rattle.ct_change.specs.Changelog.{Mode, append, retract, upsert, Rows, apply, fold_from, adds, MayCome, IsValidFrom, same_row}
use Rattle.ct_change.specs.Emission.{difference, IsSame}
use Rattle.ct_change.proofs.laws.Differences.{comes-adds}
use Rattle.ct_change.proofs.laws.Folds.{total-apply, weight-gone, weight-come, row_at-key, row_at-stands}
use Rattle.ct_change.proofs.laws.Meanings.{same_row-true}
use Rattle.rel_algebra.specs.GroupedCounts.{in_group, in_it, group_size, AreWide}
use Rattle.rel_algebra.proofs.laws.Bags.{copies-restrict, total-restrict}
use Rattle.emission_rules.specs.Grouping.{Grouping, KeepsGroups, members, row_count}

pub same_group : (mode : Mode) (keys : ℕ) (rows : Rows) (change : Change) → KeepsGroups keys mode → AreWide keys rows → keys ≤ length change.row → (group : Row) → IsSame (in_it keys group) mode rows change
same_group append keys rows change keeps wide fits group = tt
same_group retract keys rows change keeps wide fits group = tt
same_group (upsert columns) keys rows change keeps wide fits group = λ old e.
    let old_wide : keys ≤ length old = wide old (row_at-stands rows columns change.row old e) in
    ap (λ (k : Row). cond (same_row group k) 1 0) (keeps old change.row old_wide fits (sym (row_at-key rows columns change.row old e)))

-- 1 for the row, if it is of the group
abbrev pub at : ℕ → Row → Row → Row → ℕ
at keys key row other = cond (in_group keys key other) (one_at row_cmp row other) 0

-- a row of another group gives way to one of that group
same_at : (mode : Mode) (keys : ℕ) (rows : Rows) (change : Change) → KeepsGroups keys mode → AreWide keys rows → keys ≤ length change.row → (key row : Row) → same_row key (take keys change.row) ≡ false → IsSame (at keys key row) mode rows change
same_at append keys rows change keeps wide fits key row apart = tt
same_at retract keys rows change keeps wide fits key row apart = tt
same_at (upsert columns) keys rows change keeps wide fits key row apart = λ old e.
    let old_wide : keys ≤ length old = wide old (row_at-stands rows columns change.row old e) in
    let same : take keys old ≡ take keys change.row = keeps old change.row old_wide fits (sym (row_at-key rows columns change.row old e)) in
    ap (λ b. cond b (one_at row_cmp row old) 0) (ap (same_row key) same ∙ apart) ∙ sym (ap (λ b. cond b (one_at row_cmp row change.row) 0) apart)

pub cond-nothing : (b : Bool) → ◌≡◌ {A = ℕ} (cond b 0 0) 0
cond-nothing true = refl
cond-nothing false = refl

cond-le : (b : Bool) (n : ℕ) → cond b n 0 ≤ n
cond-le true n = omega arith
cond-le false n = omega arith

-- where a change adds, something comes
pub comes : (mode : Mode) (rows : Rows) (change : Change) → adds change.kind ≡ true → is_some (difference mode rows change).come ≡ true
comes mode rows change e = comes-adds mode rows change ∙ e

module _ (mode : Mode) (keys : ℕ) (rows : Rows) (change : Change) (keeps : KeepsGroups keys mode) (wide : AreWide keys rows) (fits : keys ≤ length change.row) (may : MayCome mode rows change) where
  abbrev pub goes : Bool
  goes = is_some (difference mode rows change).gone

  abbrev pub does_come : Bool
  does_come = is_some (difference mode rows change).come

  -- a group loses what goes and gains what comes
  pub size_after : (group : Row) → group_size keys (apply mode rows change) group + cond goes (in_it keys group change.row) 0 ≡ group_size keys rows group + cond does_come (in_it keys group change.row) 0
  size_after group =
      let e = total-apply (in_it keys group) mode rows change may in
      let a = weight-gone (in_it keys group) mode rows change (same_group mode keys rows change keeps wide fits group) in
      let b = weight-come (in_it keys group) mode rows change in
      omega (arith, e, a, b)

  -- an addition makes no group smaller
  pub grows : adds change.kind ≡ true → (group : Row) → group_size keys rows group ≤ group_size keys (apply mode rows change) group
  grows e group =
      let all : cond does_come (in_it keys group change.row) 0 ≡ in_it keys group change.row = ap (λ b. cond b (in_it keys group change.row) 0) (comes mode rows change e) in
      omega (arith, size_after group, cond-le goes (in_it keys group change.row))

  -- other groups keep their rows
  pub other_rows : (key : Row) → same_row key (take keys change.row) ≡ false → (row : Row) → total (at keys key row) (apply mode rows change) ≡ total (at keys key row) rows
  other_rows key apart row =
      let f = at keys key row in
      let none : f change.row ≡ 0 = ap (λ b. cond b (one_at row_cmp row change.row) 0) apart in
      let e = total-apply f mode rows change may in
      let a = weight-gone f mode rows change (same_at mode keys rows change keeps wide fits key row apart) in
      let b = weight-come f mode rows change in
      let c : cond goes (f change.row) 0 ≡ 0 = rw none (cond-nothing goes) in
      let d : cond does_come (f change.row) 0 ≡ 0 = rw none (cond-nothing does_come) in
      omega (arith, e, a, b, c, d)

  -- what holds of each row that stands, and of the change's where it adds, holds of each row after it
  pub all_after : (P : Row → Type 0) → ((row : Row) → 0 < copies rows row → P row) → (adds change.kind ≡ true → P change.row) → (row : Row) → 0 < copies (apply mode rows change) row → P row
  all_after P all fine row there =
      let e = total-apply (one_at row_cmp row) mode rows change may in
      let b = weight-come (one_at row_cmp row) mode rows change in
      let now = copies-occurs (apply mode rows change) row in
      let before = copies-occurs rows row in
      elim (same_row row change.row) as (λ t. same_row row change.row ≡ t → P row) [
        | true ↦ λ t. elim (adds change.kind) as (λ b. adds change.kind ≡ b → P row) [
          | true ↦ λ a. subst P (sym (same_row-true row change.row t)) (fine a)
          | false ↦ λ a.
              let nothing : cond does_come (one_at row_cmp row change.row) 0 ≡ 0 = ap (λ b. cond b (one_at row_cmp row change.row) 0) (comes-adds mode rows change ∙ a) in
              all row (omega arith)
        ] refl
        | false ↦ λ t.
            let none : one_at row_cmp row change.row ≡ 0 = ap (λ b. cond b 1 0) t in
            let nothing : cond does_come (one_at row_cmp row change.row) 0 ≡ 0 = rw none (cond-nothing does_come) in
            all row (omega arith)
      ] refl

  pub wide_after : AreWide keys (apply mode rows change)
  wide_after = all_after (λ row. keys ≤ length row) wide (λ a. fits)

-- ---- after a piece

module _ (mode : Mode) (keys : ℕ) (keeps : KeepsGroups keys mode) where
  pub wide_from : (rows : Rows) (changes : List Change) → AreWide keys rows → AllByRecursion (λ change. keys ≤ length change.row) changes → IsValidFrom mode rows changes → AreWide keys (fold_from mode rows changes)
  wide_from rows [] wide fits valid = wide
  wide_from rows (change ∷ changes) wide fits valid =
      wide_from (apply mode rows change) changes (wide_after mode keys rows change keeps wide fits.0 valid.0) fits.1 valid.1

  pub all_from : (P : Row → Type 0) (rows : Rows) (changes : List Change) → ((row : Row) → 0 < copies rows row → P row) → AllByRecursion (λ change. adds change.kind ≡ true → P change.row) changes → AreWide keys rows → AllByRecursion (λ change. keys ≤ length change.row) changes → IsValidFrom mode rows changes
      → (row : Row) → 0 < copies (fold_from mode rows changes) row → P row
  all_from P rows [] all fine wide fits valid = all
  all_from P rows (change ∷ changes) all fine wide fits valid =
      all_from P (apply mode rows change) changes (all_after mode keys rows change keeps wide fits.0 valid.0 P all fine.0) fine.1 (wide_after mode keys rows change keeps wide fits.0 valid.0) fits.1 valid.1

  -- additions make no group smaller
  pub grows_from : (group : Row) (rows : Rows) (changes : List Change) → AreWide keys rows → AllByRecursion (λ change. keys ≤ length change.row) changes → IsValidFrom mode rows changes
      → AllByRecursion (λ change. adds change.kind ≡ true) changes → group_size keys rows group ≤ group_size keys (fold_from mode rows changes) group
  grows_from group rows [] wide fits valid adding = omega arith
  grows_from group rows (change ∷ changes) wide fits valid adding =
      let one = grows mode keys rows change keeps wide fits.0 valid.0 adding.0 group in
      let rest = grows_from group (apply mode rows change) changes (wide_after mode keys rows change keeps wide fits.0 valid.0) fits.1 valid.1 adding.1 in
      omega arith

-- ---- as the members of groups

module _ (g : Grouping) where
  pub copies-members : (key : Row) (rows : Rows) (row : Row) → copies (members g key rows) row ≡ cond (in_group g.keys key row) (copies rows row) 0
  copies-members key rows row = copies-restrict row_total row_exact (λ other. in_group g.keys key other) rows row

  pub counted-members : (key : Row) (rows : Rows) (row : Row) → copies (members g key rows) row ≡ total (at g.keys key row) rows
  counted-members key rows row = copies-occurs (members g key rows) row ∙ total-restrict row_total row_exact (one_at row_cmp row) (λ other. in_group g.keys key other) rows

  pub row_count-members : (key : Row) (rows : Rows) → row_count (members g key rows) ≡ group_size g.keys rows key
  row_count-members key rows = total-restrict row_total row_exact (λ _. 1) (λ other. in_group g.keys key other) rows

  module _ (keeps : KeepsGroups g.keys g.input) where
    pub other_members : (key : Row) (rows : Rows) (change : Change) → AreWide g.keys rows → g.keys ≤ length change.row → MayCome g.input rows change
        → same_row key (take g.keys change.row) ≡ false → members g key (apply g.input rows change) ≡ members g key rows
    other_members key rows change wide fits may apart = same_bag row_total row_exact _ _ (λ row.
        counted-members key (apply g.input rows change) row ∙ other_rows g.input g.keys rows change keeps wide fits may key apart row ∙ sym (counted-members key rows row))

    -- groups of which no row came keep their members
    pub other_members_from : (key : Row) (rows : Rows) (changes : List Change) → AreWide g.keys rows → AllByRecursion (λ change. g.keys ≤ length change.row) changes → IsValidFrom g.input rows changes
        → list_any (same_row key) (map (λ change. take g.keys change.row) changes) ≡ false → members g key (fold_from g.input rows changes) ≡ members g key rows
    other_members_from key rows [] wide fits valid apart = refl
    other_members_from key rows (change ∷ changes) wide fits valid apart =
        elim (same_row key (take g.keys change.row)) as (λ b. same_row key (take g.keys change.row) ≡ b → (b || list_any (same_row key) (map (λ change. take g.keys change.row) changes)) ≡ false → members g key (fold_from g.input (apply g.input rows change) changes) ≡ members g key rows) [
          | true ↦ λ t h. absurd (cc)
          | false ↦ λ t h.
              other_members_from key (apply g.input rows change) changes (wide_after g.input g.keys rows change keeps wide fits.0 valid.0) fits.1 valid.1 h
              ∙ other_members key rows change wide fits.0 valid.0 t
        ] refl apart
