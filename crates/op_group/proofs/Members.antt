-- The rows of a change's own group after the change: without what goes, and with what comes.
use Rattle.std.proofs.Common.{◌≡◌, ℕ, ◌<◌, ◌≤◌, true, length, take, Option, Some, None, refl, sym, ap, ◌∙◌}
use Rattle.ct_value.specs.Bag.{copies, add, remove}
use Rattle.ct_value.proofs.laws.Bags.{add-remove, remove-add}
use Rattle.ct_value.specs.Order.{row_total, row_exact}
use Rattle.ct_value.specs.declared.row.Row.{Row}
use Rattle.ct_change.specs.declared.change.Change.{Change}
use Rattle.ct_change.specs.declared.change.Diff.{Diff}
use Rattle.ct_change.specs.Changelog.{Mode, append, retract, upsert, Rows, same_row, adds, apply, row_at, MayCome}
use Rattle.ct_change.specs.Emission.{difference, row_of, replaced, Stands as GoneStands}
use Rattle.ct_change.proofs.laws.Differences.{come-row, gone_as_it_is, gone_replaced_by}
use Rattle.ct_change.proofs.laws.Folds.{settle-difference, gone_stands, row_at-key, row_at-stands}
use Rattle.ct_change.proofs.laws.Meanings.{same_row-itself}
use Rattle.rel_algebra.specs.Sums.{add_where}
use Rattle.rel_algebra.proofs.laws.Bags.{restrict-add}
use Rattle.rel_algebra.specs.GroupedCounts.{AreWide}
use Rattle.emission_rules.specs.Grouping.{Grouping, KeepsGroups, members}
use Rattle.op_group.specs.Kept.{HasRow}

pub gone-group : (mode : Mode) (keys : ℕ) (rows : Rows) (change g : Change) → KeepsGroups keys mode → AreWide keys rows → keys ≤ length change.row
    → (difference mode rows change).gone ≡ Some g → take keys g.row ≡ take keys change.row
gone-group append keys rows change g keeps wide fits e = ap (take keys) (gone_as_it_is (adds change.kind) change g e)
gone-group retract keys rows change g keeps wide fits e = ap (take keys) (gone_as_it_is (adds change.kind) change g e)
gone-group (upsert key) keys rows change g keeps wide fits e =
    gone_replaced_by (λ row. take keys row ≡ take keys change.row) (row_at rows key change.row) change g e (λ old at.
    keeps old change.row (wide old (row_at-stands rows key change.row old at)) fits (sym (row_at-key rows key change.row old at)))

-- ---- members

-- the row is of the group, if there is one
abbrev pub IsIn : ℕ → Row → Option Row → Type 0
IsIn keys key None = Unit {0}
IsIn keys key (Some row) = take keys row ≡ key

module _ (g : Grouping) (key : Row) where
  in_test : (row : Row) → take g.keys row ≡ key → same_row key (take g.keys row) ≡ true
  in_test row e = ap (same_row key) e ∙ same_row-itself key

  members-add : (rows : Rows) (row : Row) → take g.keys row ≡ key → members g key (add rows row) ≡ add (members g key rows) row
  members-add rows row e =
      restrict-add row_total row_exact (λ other. same_row key (take g.keys other)) rows row
      ∙ ap (λ b. add_where b row (members g key rows)) (in_test row e)

  members-remove : (rows : Rows) (row : Row) → take g.keys row ≡ key → 0 < copies rows row → members g key (remove rows row) ≡ remove (members g key rows) row
  members-remove rows row e some =
      let back : members g key rows ≡ add (members g key (remove rows row)) row = ap (members g key) (sym (add-remove row_total row_exact rows row some)) ∙ members-add (remove rows row) row e in
      sym (ap (λ b. remove b row) back ∙ remove-add row_total row_exact (members g key (remove rows row)) row)

  members-replaced : (rows : Rows) (gone come : Option Row) → IsIn g.keys key gone → IsIn g.keys key come → HasRow rows gone → members g key (replaced rows gone come) ≡ replaced (members g key rows) gone come
  members-replaced rows None None p q has = refl
  members-replaced rows None (Some come) p q has = members-add rows come q
  members-replaced rows (Some gone) None p q has = members-remove rows gone p has
  members-replaced rows (Some gone) (Some come) p q has = members-add (remove rows gone) come q ∙ ap (λ b. add b come) (members-remove rows gone p has)

is_in : (keys : ℕ) (key : Row) (o : Option Change) → ((change : Change) → o ≡ Some change → take keys change.row ≡ key) → IsIn keys key (row_of o)
is_in keys key None h = tt
is_in keys key (Some change) h = h change refl

has_row : (rows : Rows) (o : Option Change) → GoneStands rows o → HasRow rows (row_of o)
has_row rows None stands = tt
has_row rows (Some change) stands = stands

module _ (g : Grouping) (keeps : KeepsGroups g.keys g.input) (rows : Rows) (change : Change) (wide : AreWide g.keys rows) (fits : g.keys ≤ length change.row) (may : MayCome g.input rows change) where
  abbrev diff : Diff
  diff = difference g.input rows change

  pub gone_there : HasRow rows (row_of (difference g.input rows change).gone)
  gone_there = has_row rows (difference g.input rows change).gone (gone_stands g.input rows change may)

  pub own_members : members g (take g.keys change.row) (apply g.input rows change) ≡ replaced (members g (take g.keys change.row) rows) (row_of (difference g.input rows change).gone) (row_of (difference g.input rows change).come)
  own_members =
      ap (members g (take g.keys change.row)) (sym (settle-difference g.input rows change may))
      ∙ members-replaced g (take g.keys change.row) rows (row_of (difference g.input rows change).gone) (row_of (difference g.input rows change).come)
      (is_in g.keys (take g.keys change.row) (difference g.input rows change).gone (λ c e. gone-group g.input g.keys rows change c keeps wide fits e))
      (is_in g.keys (take g.keys change.row) (difference g.input rows change).come (λ c e. ap (take g.keys) (come-row g.input rows change c e)))
      gone_there
