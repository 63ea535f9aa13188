-- The first rows of a partition, and what a change leaves of them as it was.
use Rattle.std.proofs.Common.{◌≡◌, ℕ, ◌<◌, ◌≤◌, Bool, true, false, cond, List, length, Option, Some, None, is_some, refl, sym, ap, subst, ◌∙◌, arith}
use Rattle.std.specs.List.{AllByRecursion}
use Rattle.ct_value.specs.Bag.{items, copies, total, weigh, occurs, one_at}
use Rattle.ct_value.proofs.laws.Bags.{copies-occurs, total-bag_of, same_bag}
use Rattle.ct_value.specs.Order.{row_cmp, row_total, row_exact}
use Rattle.ct_value.specs.declared.row.Row.{Row}
use Rattle.ct_change.specs.declared.change.Change.{Change}
use Rattle.ct_change.specs.Changelog.{Mode, append, retract, upsert, Rows, same_row, adds, apply, row_at, MayCome}
use Rattle.ct_change.specs.Emission.{difference, as_it_is, put_in, put_over, replaced_by, weight_of, IsSame}
use Rattle.ct_change.proofs.laws.Differences.{comes-adds}
use Rattle.ct_change.proofs.laws.Folds.{total-apply, weight-gone, weight-come, row_at-key}
use Rattle.ct_change.proofs.laws.Meanings.{same_row-true}
use Rattle.rel_algebra.specs.declared.sort.SortCol.{SortCol}
use Rattle.rel_algebra.specs.Ranks.{rank_cmp, in_rank_order}
use Rattle.rel_algebra.proofs.laws.Ranks.{rank_total}
use Rattle.rel_algebra.proofs.laws.Bags.{copies-restrict, total-restrict}
use Rattle.op_rules.specs.Edges.{KeepsKeys}
use Rattle.emission_rules.specs.Ranking.{Ranking, key_of, members, first}
use Rattle.emission_rules.proofs.laws.Lists.{weigh-take, all-take, take-le, length-weigh, of_occurs}

pub cond-nothing : (b : Bool) → ◌≡◌ {A = ℕ} (cond b 0 0) 0
cond-nothing true = refl
cond-nothing false = refl

pub cond-le : (b : Bool) (n : ℕ) → cond b n 0 ≤ n
cond-le true n = omega arith
cond-le false n = omega arith

-- ---- the rows in rank order are the rows

pub weigh-ranked : (f : Row → ℕ) (order : List SortCol) (rows : Rows) → weigh f (in_rank_order order rows) ≡ total f rows
weigh-ranked f order rows = total-bag_of {R = rank_cmp order} (rank_total order) f (items rows)

pub occurs-ranked : (row : Row) (order : List SortCol) (rows : Rows) → occurs row_cmp row (in_rank_order order rows) ≡ copies rows row
occurs-ranked row order rows = weigh-ranked (one_at row_cmp row) order rows ∙ sym (copies-occurs rows row)

module _ (r : Ranking) where
  pub copies-members : (key : Row) (rows : Rows) (row : Row) → copies (members r key rows) row ≡ cond (same_row key (key_of r row)) (copies rows row) 0
  copies-members key rows row = copies-restrict row_total row_exact (λ other. same_row key (key_of r other)) rows row

  member : (key : Row) (rows : Rows) (row : Row) → 0 < copies (members r key rows) row → (key ≡ key_of r row) × (0 < copies rows row)
  member key rows row some =
      elim (same_row key (key_of r row)) as (λ b. same_row key (key_of r row) ≡ b → copies (members r key rows) row ≡ cond b (copies rows row) 0 → (key ≡ key_of r row) × (0 < copies rows row)) [
        | true ↦ λ t e. (same_row-true key (key_of r row) t, omega arith)
        | false ↦ λ t e. absurd (omega arith)
      ] refl (copies-members key rows row)

  -- no row is among the first more often than it stands
  pub first_few : (key : Row) (rows : Rows) (row : Row) → occurs row_cmp row (first r key rows) ≤ copies rows row
  first_few key rows row =
      let a = weigh-take (one_at row_cmp row) r.bound (in_rank_order r.order (members r key rows)) in
      let b = occurs-ranked row r.order (members r key rows) in
      let c = copies-members key rows row in
      let d = cond-le (same_row key (key_of r row)) (copies rows row) in
      omega arith

  -- the first rows of a partition are of it, and have what all rows have
  pub all-first : (P : Row → Type 0) (key : Row) (rows : Rows) → ((row : Row) → 0 < copies rows row → P row) → AllByRecursion (λ row. (key ≡ key_of r row) × P row) (first r key rows)
  all-first P key rows all = all-take (λ row. (key ≡ key_of r row) × P row) r.bound (in_rank_order r.order (members r key rows))
      (of_occurs (λ row. (key ≡ key_of r row) × P row) (in_rank_order r.order (members r key rows)) (λ row some.
      let m = member key rows row (let e = occurs-ranked row r.order (members r key rows) in omega arith) in (m.0, all row m.1)))

  -- ---- one more change

  -- a row that gives way to the change's is of its partition
  same_by : (f : Row → ℕ) (rows : Rows) (change : Change) → ((row : Row) → key_of r row ≡ key_of r change.row → f row ≡ f change.row) → (mode : Mode) → KeepsKeys mode r.partition → IsSame f mode rows change
  same_by f rows change h append keeps = tt
  same_by f rows change h retract keeps = tt
  same_by f rows change h (upsert key) keeps = λ old e. h old (keeps old change.row (sym (row_at-key rows key change.row old e)))

  module _ (rows : Rows) (change : Change) (keeps : KeepsKeys r.input r.partition) (may : MayCome r.input rows change) where
    -- other partitions keep their rows
    pub other_members : (key : Row) → same_row key (key_of r change.row) ≡ false → members r key (apply r.input rows change) ≡ members r key rows
    other_members key apart = same_bag row_total row_exact _ _ (λ row. counted (apply r.input rows change) row ∙ stays row ∙ sym (counted rows row))
      where
        counted : (all : Rows) (row : Row) → copies (members r key all) row ≡ total (λ other. cond (same_row key (key_of r other)) (one_at row_cmp row other) 0) all
        counted all row = copies-occurs (members r key all) row ∙ total-restrict row_total row_exact (one_at row_cmp row) (λ other. same_row key (key_of r other)) all

        stays : (row : Row) → total (λ other. cond (same_row key (key_of r other)) (one_at row_cmp row other) 0) (apply r.input rows change) ≡ total (λ other. cond (same_row key (key_of r other)) (one_at row_cmp row other) 0) rows
        stays row =
            let f = λ (other : Row). cond (same_row key (key_of r other)) (one_at row_cmp row other) 0 in
            let none_of : (other : Row) → key_of r other ≡ key_of r change.row → f other ≡ 0 = λ other e. ap (λ b. cond b (one_at row_cmp row other) 0) (ap (same_row key) e ∙ apart) in
            let here = none_of change.row refl in
            let e = total-apply f r.input rows change may in
            let a = weight-gone f r.input rows change (same_by f rows change (λ other q. none_of other q ∙ sym here) r.input keeps) in
            let b = weight-come f r.input rows change in
            let c : cond (is_some (difference r.input rows change).gone) (f change.row) 0 ≡ 0 = rw here (cond-nothing (is_some (difference r.input rows change).gone)) in
            let d : cond (is_some (difference r.input rows change).come) (f change.row) 0 ≡ 0 = rw here (cond-nothing (is_some (difference r.input rows change).come)) in
            omega (arith, e, a, b, c, d)

    -- what holds of each row that stands, and of the change's where it adds, holds of each row after it
    pub all_after : (P : Row → Type 0) → ((row : Row) → 0 < copies rows row → P row) → (adds change.kind ≡ true → P change.row) → (row : Row) → 0 < copies (apply r.input rows change) row → P row
    all_after P all fine row there =
        let e = total-apply (one_at row_cmp row) r.input rows change may in
        let b = weight-come (one_at row_cmp row) r.input rows change in
        let now = copies-occurs (apply r.input rows change) row in
        let before = copies-occurs rows row in
        elim (same_row row change.row) as (λ t. same_row row change.row ≡ t → P row) [
          | true ↦ λ t. elim (adds change.kind) as (λ b. adds change.kind ≡ b → P row) [
            | true ↦ λ a. subst P (sym (same_row-true row change.row t)) (fine a)
            | false ↦ λ a.
                let nothing : cond (is_some (difference r.input rows change).come) (one_at row_cmp row change.row) 0 ≡ 0 = ap (λ b. cond b (one_at row_cmp row change.row) 0) (comes-adds r.input rows change ∙ a) in
                all row (omega arith)
          ] refl
          | false ↦ λ t.
              let none : one_at row_cmp row change.row ≡ 0 = ap (λ b. cond b 1 0) t in
              let nothing : cond (is_some (difference r.input rows change).come) (one_at row_cmp row change.row) 0 ≡ 0 = rw none (cond-nothing (is_some (difference r.input rows change).come)) in
              all row (omega arith)
        ] refl

    -- ---- a change that adds leaves a partition no smaller

    come-as_it_is : (f : Row → ℕ) (b : Bool) → b ≡ true → weight_of f (as_it_is b change).come ≡ f change.row
    come-as_it_is f true e = refl
    come-as_it_is f false e = absurd (cc)

    come-replaced : (f : Row → ℕ) (o : Option Row) (b : Bool) → b ≡ true → adds change.kind ≡ b → weight_of f (replaced_by o change).come ≡ f change.row
    come-replaced f None true t e = ap (λ b. weight_of f (put_in b change).come) e
    come-replaced f (Some old) true t e = ap (λ b. weight_of f (put_over old b change).come) e
    come-replaced f o false t e = absurd (cc)

    come-adds : (f : Row → ℕ) (mode : Mode) → adds change.kind ≡ true → weight_of f (difference mode rows change).come ≡ f change.row
    come-adds f append e = come-as_it_is f (adds change.kind) e
    come-adds f retract e = come-as_it_is f (adds change.kind) e
    come-adds f (upsert key) e = come-replaced f (row_at rows key change.row) true refl e

    pub first_grow : adds change.kind ≡ true → (key : Row) → length (first r key rows) ≤ length (first r key (apply r.input rows change))
    first_grow adding key =
        let f = λ (other : Row). cond (same_row key (key_of r other)) 1 0 in
        let e = total-apply f r.input rows change may in
        let a = weight-gone f r.input rows change (same_by f rows change (λ other q. ap (λ k. cond (same_row key k) 1 0) q) r.input keeps) in
        let le = cond-le (is_some (difference r.input rows change).gone) (f change.row) in
        let b = come-adds f r.input adding in
        take-le r.bound _ _ (omega (arith, e, a, b, le, sized rows, sized (apply r.input rows change)))
      where
        sized : (all : Rows) → length (in_rank_order r.order (members r key all)) ≡ total (λ other. cond (same_row key (key_of r other)) 1 0) all
        sized all = length-weigh _ ∙ weigh-ranked (λ _. 1) r.order (members r key all) ∙ total-restrict row_total row_exact (λ _. 1) (λ other. same_row key (key_of r other)) all
