-- The rows of a change's own partition after the change: without what goes, and with what comes.
use Rattle.std.proofs.Common.{◌≡◌, ◌<◌, true, cond, Option, Some, None, refl, sym, ap, subst, ◌∙◌}
use Rattle.ct_value.specs.Bag.{copies, add, remove}
use Rattle.ct_value.proofs.laws.Bags.{add-remove, remove-add}
use Rattle.ct_value.specs.Order.{row_total, row_exact}
use Rattle.ct_value.specs.declared.row.Row.{Row}
use Rattle.ct_change.specs.declared.change.Change.{Change}
use Rattle.ct_change.specs.Changelog.{Mode, append, retract, upsert, Rows, same_row, adds, apply, row_at, MayCome}
use Rattle.ct_change.specs.Emission.{difference, row_of, replaced, Stands as GoneStands}
use Rattle.ct_change.proofs.laws.Differences.{come-row, gone_as_it_is, gone_replaced_by}
use Rattle.ct_change.proofs.laws.Folds.{settle-difference, gone_stands, row_at-key}
use Rattle.ct_change.proofs.laws.Meanings.{same_row-itself}
use Rattle.op_rules.specs.Edges.{KeepsKeys}
use Rattle.rel_algebra.specs.Sums.{add_where}
use Rattle.rel_algebra.proofs.laws.Bags.{restrict-add}
use Rattle.emission_rules.specs.Ranking.{Ranking, key_of, members}
use Rattle.emission_rules.proofs.laws.Ranked.{copies-members}
use Rattle.op_topn.specs.Kept.{HasRow}

gone-key : (r : Ranking) (mode : Mode) (rows : Rows) (change g : Change) → KeepsKeys mode r.partition → (difference mode rows change).gone ≡ Some g → key_of r g.row ≡ key_of r change.row
gone-key r append rows change g keeps e = ap (key_of r) (gone_as_it_is (adds change.kind) change g e)
gone-key r retract rows change g keeps e = ap (key_of r) (gone_as_it_is (adds change.kind) change g e)
gone-key r (upsert key) rows change g keeps e = gone_replaced_by (λ row. key_of r row ≡ key_of r change.row) (row_at rows key change.row) change g e (λ old at. keeps old change.row (sym (row_at-key rows key change.row old at)))

-- ---- members

-- the row is of the partition, if there is one
abbrev pub IsIn : Ranking → Row → Option Row → Type 0
IsIn r key None = Unit {0}
IsIn r key (Some row) = key_of r row ≡ key

module _ (r : Ranking) (key : Row) where
  in_test : (row : Row) → key_of r row ≡ key → same_row key (key_of r row) ≡ true
  in_test row e = ap (same_row key) e ∙ same_row-itself key

  members-add : (rows : Rows) (row : Row) → key_of r row ≡ key → members r key (add rows row) ≡ add (members r key rows) row
  members-add rows row e =
      restrict-add row_total row_exact (λ other. same_row key (key_of r other)) rows row
      ∙ ap (λ b. add_where b row (members r key rows)) (in_test row e)

  members-remove : (rows : Rows) (row : Row) → key_of r row ≡ key → 0 < copies rows row → members r key (remove rows row) ≡ remove (members r key rows) row
  members-remove rows row e some =
      let back : members r key rows ≡ add (members r key (remove rows row)) row = ap (members r key) (sym (add-remove row_total row_exact rows row some)) ∙ members-add (remove rows row) row e in
      sym (ap (λ b. remove b row) back ∙ remove-add row_total row_exact (members r key (remove rows row)) row)

  members-replaced : (rows : Rows) (gone come : Option Row) → IsIn r key gone → IsIn r key come → HasRow rows gone → members r key (replaced rows gone come) ≡ replaced (members r key rows) gone come
  members-replaced rows None None p q has = refl
  members-replaced rows None (Some come) p q has = members-add rows come q
  members-replaced rows (Some gone) None p q has = members-remove rows gone p has
  members-replaced rows (Some gone) (Some come) p q has = members-add (remove rows gone) come q ∙ ap (λ b. add b come) (members-remove rows gone p has)

is_in : (r : Ranking) (key : Row) (o : Option Change) → ((change : Change) → o ≡ Some change → key_of r change.row ≡ key) → IsIn r key (row_of o)
is_in r key None h = tt
is_in r key (Some change) h = h change refl

has_row : (rows : Rows) (o : Option Change) → GoneStands rows o → HasRow rows (row_of o)
has_row rows None stands = tt
has_row rows (Some change) stands = stands

-- a row of the partition that stands is one of its members
member_row : (r : Ranking) (key : Row) (rows : Rows) (o : Option Row) → IsIn r key o → HasRow rows o → HasRow (members r key rows) o
member_row r key rows None is has = tt
member_row r key rows (Some row) is has =
    let here : same_row key (key_of r row) ≡ true = ap (same_row key) is ∙ same_row-itself key in
    let same : copies (members r key rows) row ≡ copies rows row = copies-members r key rows row ∙ ap (λ b. cond b (copies rows row) 0) here in
    subst (λ n. 0 < n) (sym same) has

module _ (r : Ranking) (keeps : KeepsKeys r.input r.partition) (rows : Rows) (change : Change) (may : MayCome r.input rows change) where
  gone_in : IsIn r (key_of r change.row) (row_of (difference r.input rows change).gone)
  gone_in = is_in r (key_of r change.row) (difference r.input rows change).gone (λ c e. gone-key r r.input rows change c keeps e)

  come_in : IsIn r (key_of r change.row) (row_of (difference r.input rows change).come)
  come_in = is_in r (key_of r change.row) (difference r.input rows change).come (λ c e. ap (key_of r) (come-row r.input rows change c e))

  gone_there : HasRow rows (row_of (difference r.input rows change).gone)
  gone_there = has_row rows (difference r.input rows change).gone (gone_stands r.input rows change may)

  -- what goes is one of the partition's rows
  pub gone_member : HasRow (members r (key_of r change.row) rows) (row_of (difference r.input rows change).gone)
  gone_member = member_row r (key_of r change.row) rows (row_of (difference r.input rows change).gone) gone_in gone_there

  pub own_members : members r (key_of r change.row) (apply r.input rows change) ≡ replaced (members r (key_of r change.row) rows) (row_of (difference r.input rows change).gone) (row_of (difference r.input rows change).come)
  own_members =
      ap (members r (key_of r change.row)) (sym (settle-difference r.input rows change may))
      ∙ members-replaced r (key_of r change.row) rows (row_of (difference r.input rows change).gone) (row_of (difference r.input rows change).come) gone_in come_in gone_there
