-- The batch answer of a group: which rows it has, where it is in range, and what it is of parts.
use Rattle.std.proofs.Common.{◌≡◌, ◌≢◌, ℕ, zero, suc, ◌+◌, ◌<◌, ◌≤◌, ◌==◌, Bool, true, false, cond, not, ◌||◌, List, [], ◌∷◌, ◌++◌, length, take, Option, Some, None, refl, sym, ap, subst, ◌∙◌, arith}
use Rattle.std.specs.Prelude.{option_map, is_some}
use Rattle.std.proofs.lemmas.Bool.{eqb-true, eqb-false, eq-eqb, ne_eqb}
use Rattle.std.proofs.lemmas.List.{length-take-le}
use Rattle.ct_value.specs.Bag.{copies, none, total}
use Rattle.ct_value.proofs.laws.Bags.{one_at_itself, copies-none, same_bag}
use Rattle.ct_value.specs.Order.{row_cmp, row_total, row_exact}
use Rattle.ct_value.specs.declared.row.Row.{Row}
use Rattle.ct_value.specs.declared.ty.ColTy.{ColTy}
use Rattle.ct_change.specs.Changelog.{Rows, same_row}
use Rattle.ct_change.proofs.laws.Meanings.{same_row-true, same_row-itself}
use Rattle.rel_algebra.specs.Clauses.{Fits}
use Rattle.rel_algebra.specs.Groups.{group_rows, group_columns}
use Rattle.rel_algebra.specs.Keys.{rows_of_key, keys_in}
use Rattle.rel_algebra.specs.Sums.{Each, one, restrict}
use Rattle.rel_algebra.proofs.laws.Bags.{plus_parts, copies-one, copies-together, each-copies, copies-each, each-restrict, some_weighs, nothing_weighs, sum_over-some}
use Rattle.rel_algebra.proofs.laws.ClauseTypes.{group_fits}
use Rattle.rel_algebra.proofs.laws.Groups.{group_row as made_row, group_rows-none, group_rows-one, group_rows-split}
use Rattle.rel_algebra.proofs.laws.Keys.{rows_of_key-all, each-by_key}
use Rattle.rel_algebra.specs.Batch.{group_answer}
use Rattle.rel_algebra.specs.GroupedCounts.{AreWide, one_of}
use Rattle.emission_rules.specs.Grouping.{Grouping, members, row_count, is_shown, results, row_of, group_row, is_counted}
use Rattle.emission_rules.proofs.laws.Members.{copies-members}
use Rattle.emission_rules.proofs.laws.Turns.{Shown, shown_in}

pub take-front : (n : ℕ) (xs ys : Row) → length xs ≡ n → take n (xs ++ ys) ≡ xs
take-front zero [] ys e = refl
take-front zero (x ∷ xs) ys e = absurd (omega arith)
take-front (suc n) [] ys e = absurd (omega arith)
take-front (suc n) (x ∷ xs) ys e = ap (λ r. x ∷ r) (take-front n xs ys (omega arith))

pub length-front : (xs ys : Row) → length xs ≤ length (xs ++ ys)
length-front [] ys = omega arith
length-front (x ∷ xs) ys = let rest = length-front xs ys in omega arith

none_above : (n : ℕ) → (0 < n → ⊥) → n ≡ 0
none_above zero h = refl
none_above (suc n) h = absurd (h (omega arith))

-- a row alone
abbrev alone : Row → Rows
alone row = one row

positive : (n : ℕ) → (suc n == 0) ≡ false
positive n = ne_eqb (suc n) 0 (λ p. omega arith)

some_is : (a b : Rows) → (let o : Option Rows = Some a in o ≡ Some b) → a ≡ b
some_is a b e = cc

module _ (g : Grouping) where
  -- the row that is shown for each group, where these rows stand
  abbrev pub shown_by : Rows → Shown
  shown_by rows = λ key. cond (length key == g.keys) (group_row g rows key) None

  -- all calls have results over each group
  abbrev pub AreCounted : Rows → Type 0
  AreCounted rows = (key : Row) → is_counted g rows key ≡ true

  abbrev answer_of : Rows → Option Rows
  answer_of rows = group_answer g.columns g.keys g.aggs rows

  -- ---- members

  pub member_key : (key : Row) (rows : Rows) (row : Row) → 0 < copies (members g key rows) row → key ≡ take g.keys row
  member_key key rows row some =
      elim (same_row key (take g.keys row)) as (λ b. same_row key (take g.keys row) ≡ b → copies (members g key rows) row ≡ cond b (copies rows row) 0 → key ≡ take g.keys row) [
        | true ↦ λ t e. same_row-true key (take g.keys row) t
        | false ↦ λ t e. absurd (omega arith)
      ] refl (copies-members g key rows row)

  member_stands : (key : Row) (rows : Rows) (row : Row) → 0 < copies (members g key rows) row → 0 < copies rows row
  member_stands key rows row some =
      elim (same_row key (take g.keys row)) as (λ b. copies (members g key rows) row ≡ cond b (copies rows row) 0 → 0 < copies rows row) [
        | true ↦ λ e. omega arith
        | false ↦ λ e. absurd (omega arith)
      ] (copies-members g key rows row)

  pub some_member : (key : Row) (rows : Rows) → 0 < row_count (members g key rows) → (row : Row) × (0 < copies (members g key rows) row)
  some_member key rows some = let w = some_weighs row_total (λ _. 1) (members g key rows) some in (w.0, w.1)

  -- a group that has members has all its columns
  member_wide : (key : Row) (rows : Rows) → AreWide g.keys rows → 0 < row_count (members g key rows) → length key ≡ g.keys
  member_wide key rows wide some =
      let m = some_member key rows some in
      ap length (member_key key rows m.0 m.1) ∙ length-take-le g.keys m.0 (wide m.0 (member_stands key rows m.0 m.1))

  pub no_members : (rows : Rows) → row_count rows ≡ 0 → rows ≡ none
  no_members rows e = same_bag row_total row_exact _ _ (λ row. none_above (copies rows row) (λ some.
      let one : 1 ≡ 0 = each-copies row_total row_exact (λ _. 1 ≡ 0) rows (nothing_weighs (λ _. 1) rows e) row some in absurd (omega arith)) ∙ sym (copies-none row_total row))

  -- without key columns all rows are of the one group
  pub all_members : g.keys ≡ 0 → (rows : Rows) → members g [] rows ≡ rows
  all_members e rows = rows_of_key-all (take g.keys) [] rows (λ row some. ap (λ n. take n row) (sym e))

  -- ---- the row of one group

  made : (key : Row) (m : Rows) → made_row (results g) key m ≡ option_map alone (row_of g key m)
  made key m = go (results g m)
    where
      go : (o : Option Row) → option_map (λ values. alone (key ++ values)) o ≡ option_map alone (option_map (λ values. key ++ values) o)
      go None = refl
      go (Some values) = refl

  -- the answer of a group's members alone is its row
  one_group : (key : Row) (rows : Rows) → length key ≡ g.keys → is_shown g (members g key rows) ≡ true → answer_of (members g key rows) ≡ option_map alone (row_of g key (members g key rows))
  one_group key rows named shown = go g.keys refl
    where
      all : (key : Row) → length key ≡ 0 → (o : Option Row) → option_map alone o ≡ option_map alone (option_map (λ values. key ++ values) o)
      all [] e None = refl
      all [] e (Some values) = refl
      all (x ∷ key) e o = absurd (omega arith)

      go : (n : ℕ) → g.keys ≡ n → group_rows n (results g) (members g key rows) ≡ option_map alone (row_of g key (members g key rows))
      go zero e = all key (named ∙ e) (results g (members g key rows))
      go (suc n) e =
          let some : 0 < row_count (members g key rows) =
          elim (row_count (members g key rows) == 0) as (λ b. (row_count (members g key rows) == 0) ≡ b → ((g.keys == 0) || not b) ≡ true → 0 < row_count (members g key rows)) [
            | true ↦ λ z h. absurd (let k : (g.keys == 0) ≡ false = ap (λ m. m == 0) e ∙ positive n in let l : ((g.keys == 0) || false) ≡ false = ap (λ b. b || false) k in cc)
            | false ↦ λ z h. let apart = eqb-false (row_count (members g key rows)) 0 z in omega arith
          ] refl shown in
          let m = some_member key rows some in
          group_rows-one n (results g) key (members g key rows) m.0 m.1 (λ row there. member_key key rows row there ∙ ap (λ k. take k row) e) ∙ made key (members g key rows)

  -- a group's row has the columns that are made
  pub row_fits_made : (columns : List ColTy) → group_columns g.keys g.columns g.aggs ≡ Some columns → (key : Row) (rows : Rows) → length key ≡ g.keys → Each (Fits g.columns) rows → (row : Row) → group_row g rows key ≡ Some row → Fits columns row
  row_fits_made columns typed key rows named fits row e =
      elim (is_shown g (members g key rows)) as (λ b. is_shown g (members g key rows) ≡ b → cond b (row_of g key (members g key rows)) None ≡ Some row → Fits columns row) [
        | true ↦ λ s q.
            let whole : answer_of (members g key rows) ≡ Some (alone row) = one_group key rows named s ∙ ap (option_map alone) q in
            let fine : Each (Fits g.columns) (members g key rows) =
            copies-each row_total row_exact (Fits g.columns) (members g key rows) (λ other there. each-copies row_total row_exact (Fits g.columns) rows fits other (member_stands key rows other there)) in
            each-copies row_total row_exact (Fits columns) (alone row) (group_fits g.keys g.columns columns g.aggs (members g key rows) (alone row) typed fine whole) row
            (let c = copies-one row_total row_exact row row in let d = one_at_itself row_cmp row_total row in omega arith)
        | false ↦ λ s q. absurd (cc)
      ] refl e

  -- a row that is shown names its group
  pub row_of_group : (key : Row) (m : Rows) (row : Row) → length key ≡ g.keys → cond (is_shown g m) (row_of g key m) None ≡ Some row → (take g.keys row ≡ key) × (g.keys ≤ length row)
  row_of_group key m row named e =
      elim (is_shown g m) as (λ b. cond b (row_of g key m) None ≡ Some row → (take g.keys row ≡ key) × (g.keys ≤ length row)) [
        | true ↦ λ q. go (results g m) q
        | false ↦ λ q. absurd (cc)
      ] e
    where
      go : (o : Option Row) → option_map (λ values. key ++ values) o ≡ Some row → (take g.keys row ≡ key) × (g.keys ≤ length row)
      go None q = absurd (cc)
      go (Some values) q =
          let is : key ++ values ≡ row = cc in
          (ap (take g.keys) (sym is) ∙ take-front g.keys key values named, subst (λ r. g.keys ≤ length r) is (let f = length-front key values in omega arith))

  -- ---- which rows the answer has

  module _ (rows answer : Rows) (wide : AreWide g.keys rows) (e : answer_of rows ≡ Some answer) where
    module _ (row : Row) where
      abbrev key : Row
      key = take g.keys row

      abbrev mine : Rows
      mine = members g (take g.keys row) rows

      -- the rows of other groups make none
      others_none : (n : ℕ) → g.keys ≡ suc n → (c : Rows) → group_rows (suc n) (results g) (restrict (λ other. not (same_row (take (suc n) row) (take (suc n) other))) rows) ≡ Some c → copies c row ≡ 0
      others_none n k c q = none_above (copies c row) (λ some.
          each-copies row_total row_exact (λ other. take (suc n) other ≢ take (suc n) row) c
          (each-by_key (take (suc n)) (made_row (results g)) (λ other. (suc n ≤ length other) × (not (same_row (take (suc n) row) (take (suc n) other)) ≡ true)) (λ other. take (suc n) other ≢ take (suc n) row)
          step (restrict (λ other. not (same_row (take (suc n) row) (take (suc n) other))) rows) c
          (each-restrict row_total row_exact (λ other. suc n ≤ length other) (λ other. not (same_row (take (suc n) row) (take (suc n) other))) rows
          (copies-each row_total row_exact (λ other. suc n ≤ length other) rows (λ other there. subst (λ m. m ≤ length other) k (wide other there)))) q)
          row some refl)
        where
          differ : (t : Bool) → t ≡ true → not t ≡ true → ⊥
          differ true a b = absurd (cc)
          differ false a b = absurd (cc)

          step : (other : Row) (m d : Rows) → Each (λ r. ((suc n ≤ length r) × (not (same_row (take (suc n) row) (take (suc n) r)) ≡ true)) × (same_row other (take (suc n) r) ≡ true)) m → 0 < total (λ _. 1) m → made_row (results g) other m ≡ Some d → Each (λ r. take (suc n) r ≢ take (suc n) row) d
          step other m d each some q =
              let w = some_weighs row_total (λ _. 1) m some in
              let p = each-copies row_total row_exact _ m each w.0 w.1 in
              let is : other ≡ take (suc n) w.0 = same_row-true other (take (suc n) w.0) p.1 in
              let long : length other ≡ suc n = ap length is ∙ length-take-le (suc n) w.0 p.0.0 in
              go (results g m) q
              (λ values same.
              differ (same_row (take (suc n) row) (take (suc n) w.0))
              (ap (same_row (take (suc n) row)) (sym is ∙ sym (take-front (suc n) other values long) ∙ same) ∙ same_row-itself (take (suc n) row)) p.0.1)
            where
              go : (o : Option Row) → option_map (λ values. alone (other ++ values)) o ≡ Some d → ((values : Row) → take (suc n) (other ++ values) ≢ take (suc n) row) → Each (λ r. take (suc n) r ≢ take (suc n) row) d
              go None i apart = absurd (cc)
              go (Some values) i apart =
                  let j : alone (other ++ values) ≡ d = some_is _ d i in
                  subst (λ c. Each (λ r. take (suc n) r ≢ take (suc n) row) c) j
                  (copies-each row_total row_exact _ (alone (other ++ values)) (λ r there.
                  subst (λ z. take (suc n) z ≢ take (suc n) row) (sym (only r (other ++ values) there)) (apart values)))
                where
                  only : (r s : Row) → 0 < copies (alone s) r → r ≡ s
                  only r s there = elim (same_row r s) as (λ b. same_row r s ≡ b → copies (alone s) r ≡ cond b 1 0 → r ≡ s) [
                    | true ↦ λ t c. same_row-true r s t
                    | false ↦ λ t c. absurd (omega arith)
                  ] refl (copies-one row_total row_exact s r)

      -- the rows of its own group make it once, if it is that group's row
      own : (d : Rows) → length key ≡ g.keys → is_shown g mine ≡ true → answer_of mine ≡ Some d → copies d row ≡ one_of (group_row g rows key) row
      own d named shown q =
          go (row_of g key mine) (sym (one_group key rows named shown) ∙ q)
          ∙ sym (ap (λ b. one_of (cond b (row_of g key mine) None) row) shown)
        where
          go : (o : Option Row) → option_map alone o ≡ Some d → copies d row ≡ one_of o row
          go None i = absurd (cc)
          go (Some other) i = ap (λ (c : Rows). copies c row) (sym (some_is (alone other) d i)) ∙ copies-one row_total row_exact other row

      at_key : length key ≡ g.keys → one_of (group_row g rows key) row ≡ shown_in g.keys (shown_by rows) row
      at_key named = ap (λ b. one_of (cond b (group_row g rows key) None) row) (sym (eq-eqb (length key) g.keys named))

      -- a group of no members makes nothing
      unshown : (n : ℕ) → g.keys ≡ suc n → row_count mine ≡ 0 → shown_in g.keys (shown_by rows) row ≡ 0
      unshown n k z =
          let no : is_shown g mine ≡ false = ap (λ b. b || not (row_count mine == 0)) (ap (λ m. m == 0) k ∙ positive n) ∙ ap (λ m. not (m == 0)) z in
          let nothing : group_row g rows key ≡ None = ap (λ b. cond b (row_of g key mine) None) no in
          ap (λ o. one_of (cond (length key == g.keys) o None) row) nothing
          ∙ elim (length key == g.keys) as (λ b. one_of (cond b None None) row ≡ 0) [ true ↦ refl | false ↦ refl ]

      with_keys : (n : ℕ) → g.keys ≡ suc n → copies answer row ≡ shown_in g.keys (shown_by rows) row
      with_keys n k =
          let whole : group_rows (suc n) (results g) rows ≡ Some answer = ap (λ m. group_rows m (results g) rows) (sym k) ∙ e in
          let parts = plus_parts row_total row_exact (group_rows (suc n) (results g) (rows_of_key (take (suc n)) (take (suc n) row) rows)) (group_rows (suc n) (results g) (restrict (λ other. not (same_row (take (suc n) row) (take (suc n) other))) rows)) answer (sym (group_rows-split n (results g) (take (suc n) row) rows) ∙ whole) in
          let rest : copies parts.1 row ≡ 0 = others_none n k parts.1 parts.2.1 in
          let first : answer_of mine ≡ Some parts.0 = ap (λ m. group_rows m (results g) (rows_of_key (take m) (take m row) rows)) k ∙ parts.2.0 in
          let sum : copies answer row ≡ copies parts.0 row + copies parts.1 row = ap (λ (c : Rows). copies c row) parts.2.2 ∙ copies-together row_total row_exact parts.0 parts.1 row in
          elim (row_count mine == 0) as (λ b. (row_count mine == 0) ≡ b → copies answer row ≡ shown_in g.keys (shown_by rows) row) [
            | true ↦ λ z.
                let gone : row_count mine ≡ 0 = eqb-true (row_count mine) 0 z in
                let empty : answer_of mine ≡ Some none = ap answer_of (no_members mine gone) ∙ ap (λ m. group_rows m (results g) none) k ∙ group_rows-none n (results g) in
                let is : none ≡ parts.0 = some_is none parts.0 (sym empty ∙ first) in
                let zero_ : copies parts.0 row ≡ 0 = ap (λ (c : Rows). copies c row) (sym is) ∙ copies-none row_total row in
                let not_there = unshown n k gone in
                omega arith
            | false ↦ λ z.
                let some : 0 < row_count mine = (let apart = eqb-false (row_count mine) 0 z in omega arith) in
                let named : length key ≡ g.keys = member_wide key rows wide some in
                let shown : is_shown g mine ≡ true = ap (λ b. (g.keys == 0) || not b) z ∙ or_true (g.keys == 0) in
                let here = own parts.0 named shown first ∙ at_key named in
                omega arith
          ] refl
        where
          or_true : (b : Bool) → (b || true) ≡ true
          or_true true = refl
          or_true false = refl

      without_keys : g.keys ≡ 0 → copies answer row ≡ shown_in g.keys (shown_by rows) row
      without_keys k =
          let named : length key ≡ g.keys = ap (λ m. length (take m row)) k ∙ sym k in
          let all : mine ≡ rows = ap (λ m. rows_of_key (take g.keys) (take m row) rows) k ∙ all_members k rows in
          let shown : is_shown g mine ≡ true = ap (λ m. (m == 0) || not (row_count mine == 0)) k in
          own answer named shown (ap answer_of all ∙ e) ∙ at_key named

    -- the answer has the rows that are shown
    pub answer_shown : (row : Row) → copies answer row ≡ shown_in g.keys (shown_by rows) row
    answer_shown row = go g.keys refl
      where
        go : (n : ℕ) → g.keys ≡ n → copies answer row ≡ shown_in g.keys (shown_by rows) row
        go zero k = without_keys row k
        go (suc n) k = with_keys row n k

  -- ---- where it is in range

  in_range : (o : Option Row) (key : Row) → is_some o ≡ true → (c : Rows) × (option_map (λ values. alone (key ++ values)) o ≡ Some c)
  in_range None key e = absurd (cc)
  in_range (Some values) key e = (alone (key ++ values), refl)

  -- where all calls have results over each group, the answer is there
  pub counted_answer : (rows : Rows) → AreCounted rows → (answer : Rows) × (answer_of rows ≡ Some answer)
  counted_answer rows counted = go g.keys refl
    where
      all : (o : Option Row) → is_some o ≡ true → (c : Rows) × (option_map alone o ≡ Some c)
      all None e = absurd (cc)
      all (Some values) e = (alone values, refl)

      go : (n : ℕ) → g.keys ≡ n → (c : Rows) × (group_rows n (results g) rows ≡ Some c)
      go zero k = all (results g rows) (ap (λ m. is_some (results g m)) (sym (all_members k rows)) ∙ counted [])
      go (suc n) k =
          sum_over-some row_total row_exact row_total row_exact (λ key. made_row (results g) key (rows_of_key (take (suc n)) key rows))
          (λ key. in_range (results g (rows_of_key (take (suc n)) key rows)) key (ap (λ m. is_some (results g (rows_of_key (take m) key rows))) (sym k) ∙ counted key)) (keys_in (take (suc n)) rows)
