-- What a Top-N without ranks tells of a change: rows go and come, or one row of the partition gives way to another.
use Rattle.std.proofs.Common.{◌≡◌, ℕ, zero, suc, ◌+◌, ◌-◌, ◌<◌, ◌≤◌, true, false, cond, List, [], ◌∷◌, ◌++◌, length, map, refl, sym, ap, ◌∙◌, arith}
use Rattle.std.specs.List.{AllByRecursion}
use Rattle.ct_value.specs.Bag.{occurs, one_at}
use Rattle.ct_value.specs.Order.{row_cmp}
use Rattle.ct_value.specs.Rows.{project}
use Rattle.ct_value.specs.declared.row.Row.{Row}
use Rattle.ct_change.specs.declared.kind.Kind.{Kind}
use Rattle.ct_change.specs.declared.kind.Kind.TheVariants.{I, UB, UA, D}
use Rattle.ct_change.specs.Changelog.{retract, upsert, same_row, admits, addition}
use Rattle.ct_change.specs.Emission.{update}
use Rattle.ct_change.specs.KeyRows.{key_row}
use Rattle.ct_change.proofs.laws.KeyRows.{key_stays}
use Rattle.ct_change.proofs.laws.Meanings.{same_row-true, same_row-itself}
use Rattle.op_rules.specs.Edges.{LiesIn}
use Rattle.emission_rules.specs.Ranking.{Ranking, key_of, told_by_rank, beyond, told_by_row}
use Rattle.emission_rules.proofs.laws.Lists.{at_occurs, weigh-beyond, weigh-beyond-le}
use Rattle.emission_rules.proofs.laws.TopStanding.{Standing, Leads, leads-append, rows_go, rows_come}

none_above : (n : ℕ) → (0 < n → ⊥) → n ≡ 0
none_above zero h = refl
none_above (suc n) h = absurd (h (omega arith))

module _ (r : Ranking) (Ok : Standing → Type 0) (key : Row) where
  abbrev AreIn : List Row → Type 0
  AreIn rows = AllByRecursion (λ row. key ≡ key_of r row) rows

  no_others : (rows : List Row) → AreIn rows → (row : Row) → same_row key (key_of r row) ≡ false → occurs row_cmp row rows ≡ 0
  no_others rows are row apart = none_above _ (λ some.
      let is = at_occurs (λ other. key ≡ key_of r other) rows are row some in
      let same : same_row key (key_of r row) ≡ true = ap (same_row key) (sym is) ∙ same_row-itself key in cc)

  -- these rows of the partition give way to those, and others stay
  pub record Turns (olds news : List Row) (a b : Standing) : Type 0 where
    pub old_in : AreIn olds
    pub new_in : AreIn news
    pub before : (row : Row) → same_row key (key_of r row) ≡ true → a row ≡ occurs row_cmp row olds
    pub after : (row : Row) → same_row key (key_of r row) ≡ true → b row ≡ occurs row_cmp row news
    pub stays : (row : Row) → same_row key (key_of r row) ≡ false → a row ≡ b row

  module _ (a b : Standing) (ok_a : (m : Standing) → ((row : Row) → m row ≤ a row) → Ok m) (ok_b : (m : Standing) → ((row : Row) → m row ≤ b row) → Ok m) where
    balance : (olds news : List Row) → Turns olds news a b → (row : Row) → (a row + occurs row_cmp row news ≡ b row + occurs row_cmp row olds) × (occurs row_cmp row olds ≤ a row) × (occurs row_cmp row news ≤ b row)
    balance olds news t row =
        elim (same_row key (key_of r row)) as (λ q. same_row key (key_of r row) ≡ q → (a row + occurs row_cmp row news ≡ b row + occurs row_cmp row olds) × (occurs row_cmp row olds ≤ a row) × (occurs row_cmp row news ≤ b row)) [
          | true ↦ λ e. let x = t.before row e in let y = t.after row e in (omega arith, omega arith, omega arith)
          | false ↦ λ e.
              let s = t.stays row e in
              let x = no_others olds t.old_in row e in
              let y = no_others news t.new_in row e in
              (omega arith, omega arith, omega arith)
        ] refl

    -- ---- row by row

    pub by_row_leads : (olds news : List Row) → Turns olds news a b → Leads Ok retract a (told_by_row olds news) b
    by_row_leads olds news t =
        let gone = beyond olds news in
        let come = beyond news olds in
        let m : Standing = λ row. a row - occurs row_cmp row gone in
        let even = λ (row : Row). weigh-beyond (one_at row_cmp row) olds news in
        let few = λ (row : Row). weigh-beyond-le (one_at row_cmp row) olds news in
        leads-append Ok retract a m b (map (λ row. record { kind = D; row = row }) gone) (map (λ row. record { kind = I; row = row }) come)
        (rows_go Ok D refl gone a m (λ row. let f = few row in let h = balance olds news t row in let i = h.1 in omega arith) ok_a)
        (rows_come Ok I refl come m b (λ row. let f = few row in let e = even row in let h = balance olds news t row in let i = h.0 in let j = h.1 in omega arith) ok_b)

    -- ---- one row of the partition

    one_row : List Row → Row → ℕ
    one_row rows row = occurs row_cmp row rows

    same_rows : (olds news : List Row) → Turns olds news a b → ((row : Row) → occurs row_cmp row olds ≡ occurs row_cmp row news) → (row : Row) → a row ≡ b row
    same_rows olds news t e row = let h = balance olds news t row in let i = h.0 in let j = e row in omega arith

    pub one_leads_bag : (olds news : List Row) → length olds ≤ 1 → length news ≤ 1 → Turns olds news a b → Leads Ok retract a (told_by_rank false retract 1 olds news) b
    one_leads_bag [] [] p q t = same_rows [] [] t (λ row. refl)
    one_leads_bag [] (y ∷ []) p q t = rows_come Ok I refl (y ∷ []) a b (λ row. let h = balance [] (y ∷ []) t row in let i = h.0 in omega arith) ok_b
    one_leads_bag (x ∷ []) [] p q t = rows_go Ok D refl (x ∷ []) a b (λ row. let h = balance (x ∷ []) [] t row in let i = h.0 in omega arith) ok_a
    one_leads_bag (x ∷ []) (y ∷ []) p q t =
        elim (same_row x y) as (λ c. same_row x y ≡ c → Leads Ok retract a (cond c [] (update retract x y) ++ []) b) [
          | true ↦ λ e. same_rows (x ∷ []) (y ∷ []) t (λ row. ap (λ z. occurs row_cmp row (z ∷ [])) (same_row-true x y e))
          | false ↦ λ e.
              let m : Standing = λ row. a row - occurs row_cmp row (x ∷ []) in
              leads-append Ok retract a m b (record { kind = UB; row = x } ∷ []) (record { kind = UA; row = y } ∷ [])
              (rows_go Ok UB refl (x ∷ []) a m (λ row. let h = balance (x ∷ []) (y ∷ []) t row in let i = h.1 in omega arith) ok_a)
              (rows_come Ok UA refl (y ∷ []) m b (λ row. let h = balance (x ∷ []) (y ∷ []) t row in let i = h.0 in let j = h.1 in omega arith) ok_b)
        ] refl
    one_leads_bag (x ∷ z ∷ olds) news p q t = absurd (omega arith)
    one_leads_bag [] (y ∷ z ∷ news) p q t = absurd (omega arith)
    one_leads_bag (x ∷ []) (y ∷ z ∷ news) p q t = absurd (omega arith)

    -- as last rows, by a key that names the partition
    module _ (columns : List ℕ) (named : LiesIn r.partition columns) (names : LiesIn columns r.partition) where
      named_by : (change row : Row) → key ≡ key_of r change → same_row (project columns change) (project columns row) ≡ same_row key (key_of r row)
      named_by change row is =
          elim (same_row key (key_of r row)) as (λ c. same_row key (key_of r row) ≡ c → same_row (project columns change) (project columns row) ≡ c) [
            | true ↦ λ e. ap (same_row (project columns change)) (sym (names change row (sym is ∙ same_row-true key (key_of r row) e))) ∙ same_row-itself (project columns change)
            | false ↦ λ e. elim (same_row (project columns change) (project columns row)) as (λ c. same_row (project columns change) (project columns row) ≡ c → c ≡ false) [
              | true ↦ λ f.
                  let same : same_row key (key_of r row) ≡ true = ap (same_row key) (sym (is ∙ named change row (same_row-true _ _ f))) ∙ same_row-itself key in
                  absurd (cc)
              | false ↦ λ f. refl
            ] refl
          ] refl

      step_to : (kind : Kind) (x : Row) (olds news : List Row) → admits (upsert columns) kind ≡ true → key ≡ key_of r x → Turns olds news a b
          → ((row : Row) → occurs row_cmp row news ≡ addition row (record { kind = kind; row = x })) → Leads Ok (upsert columns) a (record { kind = kind; row = x } ∷ []) b
      step_to kind x olds news fine is t e = (
        b,
        (
          fine,
          λ row. elim (same_row key (key_of r row)) as (λ c. same_row key (key_of r row) ≡ c → b row ≡ cond (same_row (project columns x) (project columns row)) (addition row (record { kind = kind; row = x })) (a row)) [
            | true ↦ λ q. t.after row q ∙ (e row ∙ sym (ap (λ c. cond c (addition row (record { kind = kind; row = x })) (a row)) (named_by x row is ∙ q)))
            | false ↦ λ q. sym (t.stays row q) ∙ sym (ap (λ c. cond c (addition row (record { kind = kind; row = x })) (a row)) (named_by x row is ∙ q))
          ] refl,
        ),
        ok_b b (λ row. omega arith),
        λ row. refl,
      )

      pub one_leads_last : (olds news : List Row) → length olds ≤ 1 → length news ≤ 1 → Turns olds news a b → Leads Ok (upsert columns) a (told_by_rank false (upsert columns) 1 olds news) b
      one_leads_last [] [] p q t = same_rows [] [] t (λ row. refl)
      one_leads_last [] (y ∷ []) p q t = step_to I y [] (y ∷ []) refl t.new_in.0 t (λ row. omega arith)
      one_leads_last (x ∷ []) [] p q t = step_to D (key_row columns x) (x ∷ []) [] refl (t.old_in.0 ∙ sym (named (key_row columns x) x (key_stays columns x))) t (λ row. refl)
      one_leads_last (x ∷ []) (y ∷ []) p q t =
          elim (same_row x y) as (λ c. same_row x y ≡ c → Leads Ok (upsert columns) a (cond c [] (update (upsert columns) x y) ++ []) b) [
            | true ↦ λ e. same_rows (x ∷ []) (y ∷ []) t (λ row. ap (λ z. occurs row_cmp row (z ∷ [])) (same_row-true x y e))
            | false ↦ λ e. step_to UA y (x ∷ []) (y ∷ []) refl t.new_in.0 t (λ row. omega arith)
          ] refl
      one_leads_last (x ∷ z ∷ olds) news p q t = absurd (omega arith)
      one_leads_last [] (y ∷ z ∷ news) p q t = absurd (omega arith)
      one_leads_last (x ∷ []) (y ∷ z ∷ news) p q t = absurd (omega arith)
