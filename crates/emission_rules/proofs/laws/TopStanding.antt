-- What stands while a list of changes goes on, as a number for each row; and what that says of what the changes stand for.
use Rattle.std.proofs.Common.{◌≡◌, ℕ, zero, suc, ◌+◌, ◌<◌, ◌≤◌, Bool, true, false, cond, List, [], ◌∷◌, ◌++◌, map, take, refl, sym, ap, ◌∙◌, arith}
use Rattle.std.specs.List.{AllByRecursion}
use Rattle.ct_value.specs.Bag.{copies, occurs, one_at, none}
use Rattle.ct_value.proofs.laws.Bags.{one_at_itself, copies-none}
use Rattle.ct_value.specs.Order.{row_cmp, row_total}
use Rattle.ct_value.specs.Rows.{project}
use Rattle.ct_value.specs.declared.row.Row.{Row}
use Rattle.ct_change.specs.declared.kind.Kind.{Kind}
use Rattle.ct_change.specs.declared.change.Change.{Change}
use Rattle.ct_change.specs.Changelog.{Mode, append, retract, upsert, Rows, same_row, admits, adds, apply, addition, removal, additions, removals, IsValidFrom, last_shown}
use Rattle.ct_change.proofs.laws.Meanings.{copies-apply, prefixes_mean, valid-upsert}
use Rattle.op_rules.specs.Edges.{meaning_of, ReadsAs}

abbrev pub Standing : Type 0
Standing = Row → ℕ

abbrev pub nothing : Standing
nothing = λ row. 0

-- what stands after one more change: as a bag, or as the last row of each key
abbrev pub Steps : Mode → Standing → Change → Standing → Type 0
Steps append a change b = ⊥
Steps retract a change b = (row : Row) → b row + removal row change ≡ a row + addition row change
Steps (upsert key) a change b = (admits (upsert key) change.kind ≡ true) × ((row : Row) → b row ≡ cond (same_row (project key change.row) (project key row)) (addition row change) (a row))

module _ (Ok : Standing → Type 0) where
  -- the changes lead from what stood to what stands, each in its turn; and it is fine after each
  abbrev pub Leads : Mode → Standing → List Change → Standing → Type 0
  Leads mode a [] b = (row : Row) → a row ≡ b row
  Leads mode a (change ∷ changes) b = (m : Standing) × Steps mode a change m × Ok m × Leads mode m changes b

  steps-from : (mode : Mode) (a b m : Standing) (change : Change) → ((row : Row) → a row ≡ b row) → Steps mode b change m → Steps mode a change m
  steps-from append a b m change e s = s
  steps-from retract a b m change e s = λ row. s row ∙ ap (λ n. n + addition row change) (sym (e row))
  steps-from (upsert key) a b m change e s = (s.0, λ row. s.1 row ∙ ap (cond (same_row (project key change.row) (project key row)) (addition row change)) (sym (e row)))

  pub leads-from : (mode : Mode) (a b c : Standing) (changes : List Change) → ((row : Row) → a row ≡ b row) → Leads mode b changes c → Leads mode a changes c
  leads-from mode a b c [] e t = λ row. e row ∙ t row
  leads-from mode a b c (change ∷ changes) e t = (t.0, steps-from mode a b t.0 change e t.1, t.2, t.3)

  pub leads-to : (mode : Mode) (a b c : Standing) (changes : List Change) → ((row : Row) → b row ≡ c row) → Leads mode a changes b → Leads mode a changes c
  leads-to mode a b c [] e t = λ row. t row ∙ e row
  leads-to mode a b c (change ∷ changes) e t = (t.0, t.1, t.2, leads-to mode t.0 b c changes e t.3)

  pub leads-append : (mode : Mode) (a b c : Standing) (xs ys : List Change) → Leads mode a xs b → Leads mode b ys c → Leads mode a (xs ++ ys) c
  leads-append mode a b c [] ys t u = leads-from mode a b c ys t u
  leads-append mode a b c (x ∷ xs) ys t u = (t.0, t.1, t.2, leads-append mode t.0 b c xs ys t.3 u)

  pub leads-take : (mode : Mode) (a b : Standing) (n : ℕ) (xs : List Change) → Ok a → Leads mode a xs b → (c : Standing) × Ok c × Leads mode a (take n xs) c
  leads-take mode a b zero xs ok t = (a, ok, λ row. refl)
  leads-take mode a b (suc n) [] ok t = (a, ok, λ row. refl)
  leads-take mode a b (suc n) (x ∷ xs) ok t =
      let rest = leads-take mode t.0 b n xs t.2 t.3 in
      (rest.0, rest.1, (t.0, t.1, t.2, rest.2))

  -- ---- what the changes stand for

  balance : (a b : Standing) (changes : List Change) → Leads retract a changes b → (row : Row) → b row + removals row changes ≡ a row + additions row changes
  balance a b [] t row = omega (arith, t row)
  balance a b (change ∷ changes) t row = omega (arith, t.1 row, balance t.0 b changes t.3 row)

  last_led : (key : List ℕ) (a b : Standing) (changes : List Change) → Leads (upsert key) a changes b → (row : Row) → last_shown key row (a row) changes ≡ b row
  last_led key a b [] t row = t row
  last_led key a b (change ∷ changes) t row = ap (λ n. last_shown key row n changes) (sym (t.1.1 row)) ∙ last_led key t.0 b changes t.3 row

  -- rows that stand at last are what the changes stand for
  pub leads_read : (mode : Mode) (last : Standing) (sent : List Change) → Leads mode nothing sent last → (rows : Rows) → ((row : Row) → copies rows row ≡ last row) → ReadsAs (meaning_of mode) sent rows
  leads_read append last [] t rows are = λ row. let a = are row in let b = t row in omega arith
  leads_read append last (x ∷ xs) t rows are = absurd t.1
  leads_read retract last sent t rows are = λ row. let a = are row in let b = balance nothing last sent t row in omega arith
  leads_read (upsert key) last sent t rows are = λ row. are row ∙ sym (last_led key nothing last sent t row)

  -- and what they stand for are those
  pub reads_led : (mode : Mode) (last : Standing) (sent : List Change) → Leads mode nothing sent last → (rows : Rows) → ReadsAs (meaning_of mode) sent rows → (row : Row) → copies rows row ≡ last row
  reads_led append last [] t rows reads row = let a = reads row in let b = t row in omega arith
  reads_led append last (x ∷ xs) t rows reads row = absurd t.1
  reads_led retract last sent t rows reads row = let a = reads row in let b = balance nothing last sent t row in omega arith
  reads_led (upsert key) last sent t rows reads row = reads row ∙ last_led key nothing last sent t row

  -- ---- each prefix stands for some rows

  goes_where : (b : Bool) (n a m : ℕ) → b ≡ false → n ≡ 1 → m + cond b 0 n ≡ a + cond b n 0 → 0 < a
  goes_where true n a m e one s = absurd (cc)
  goes_where false n a m e one s = omega arith

  valid_led : (rows : Rows) (a b : Standing) (changes : List Change) → ((row : Row) → copies rows row ≡ a row) → Leads retract a changes b → IsValidFrom retract rows changes
  valid_led rows a b [] are t = tt
  valid_led rows a b (change ∷ changes) are t =
      let may : adds change.kind ≡ false → 0 < copies rows change.row = λ e.
      let there = goes_where (adds change.kind) (one_at row_cmp change.row change.row) (a change.row) (t.0 change.row) e (one_at_itself row_cmp row_total change.row) (t.1 change.row) in
      let at = are change.row in omega arith in
      (may, valid_led (apply retract rows change) t.0 b changes (λ row. let e = copies-apply rows change row may in let f = t.1 row in let g = are row in omega arith) t.3)

  admitted : (key : List ℕ) (a b : Standing) (changes : List Change) → Leads (upsert key) a changes b → AllByRecursion (λ change. admits (upsert key) change.kind ≡ true) changes
  admitted key a b [] t = tt
  admitted key a b (change ∷ changes) t = (t.1.0, admitted key t.0 b changes t.3)

  pub prefix_stands : (mode : Mode) (last : Standing) (sent : List Change) → Leads mode nothing sent last → (n : ℕ) → (rows : Rows) × ReadsAs (meaning_of mode) (take n sent) rows
  prefix_stands append last [] t n = (none, nothing_sent n)
    where
      nothing_sent : (n : ℕ) → (row : Row) → additions row (take n []) ≡ removals row (take n []) + copies {R = row_cmp} none row
      nothing_sent zero row = let e = copies-none row_total row in omega arith
      nothing_sent (suc n) row = let e = copies-none row_total row in omega arith
  prefix_stands append last (x ∷ xs) t n = absurd t.1
  prefix_stands retract last sent t n = prefixes_mean retract sent (valid_led none nothing last sent (λ row. copies-none row_total row) t) n
  prefix_stands (upsert key) last sent t n = prefixes_mean (upsert key) sent (valid-upsert key none sent (admitted key nothing last sent t)) n

  -- ---- rows that only go, and rows that only come

  abbrev of_kind : Kind → List Row → List Change
  of_kind kind rows = map (λ row. record { kind = kind; row = row }) rows

  module _ (kind : Kind) where
    pub rows_go : adds kind ≡ false → (rows : List Row) (a b : Standing) → ((row : Row) → a row ≡ b row + occurs row_cmp row rows) → ((m : Standing) → ((row : Row) → m row ≤ a row) → Ok m) → Leads retract a (of_kind kind rows) b
    rows_go gone [] a b e ok = λ row. let r = e row in omega arith
    rows_go gone (x ∷ rows) a b e ok =
        let m : Standing = λ row. b row + occurs row_cmp row rows in (
          m,
          λ row. let r = e row in removed (adds kind) (one_at row_cmp row x) (m row) (a row) gone (omega arith),
          ok m (λ row. let r = e row in omega arith),
          rows_go gone rows m b (λ row. refl) (λ n le. ok n (λ row. let r = e row in let l = le row in omega arith)),
        )
      where
        removed : (t : Bool) (n m a : ℕ) → t ≡ false → a ≡ m + n → m + cond t 0 n ≡ a + cond t n 0
        removed true n m a f g = absurd (cc)
        removed false n m a f g = omega arith

    pub rows_come : adds kind ≡ true → (rows : List Row) (a b : Standing) → ((row : Row) → b row ≡ a row + occurs row_cmp row rows) → ((m : Standing) → ((row : Row) → m row ≤ b row) → Ok m) → Leads retract a (of_kind kind rows) b
    rows_come come [] a b e ok = λ row. let r = e row in omega arith
    rows_come come (x ∷ rows) a b e ok =
        let m : Standing = λ row. a row + one_at row_cmp row x in (
          m,
          λ row. added (adds kind) (one_at row_cmp row x) (a row) come,
          ok m (λ row. let r = e row in omega arith),
          rows_come come rows m b (λ row. let r = e row in omega arith) ok,
        )
      where
        added : (t : Bool) (n a : ℕ) → t ≡ true → a + n + cond t 0 n ≡ a + cond t n 0
        added true n a f = omega arith
        added false n a f = absurd (cc)
