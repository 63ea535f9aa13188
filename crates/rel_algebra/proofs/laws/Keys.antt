-- Laws of what is made key by key: of bags that share no key, it is the sum.
use Rattle.std.proofs.Common.{◌≡◌, ◌≢◌, ℕ, zero, suc, ◌+◌, ◌<◌, ◌==◌, ◌≤◌, Bool, true, false, cond, not, Option, Some, refl, sym, ap, ◌∙◌, subst, arith}
use Rattle.std.proofs.lemmas.Bool.{eqb-true}
use Rattle.std.specs.Ordering.{is_eq}
use Rattle.std.specs.Cmp.{Equal-is, tied_itself}
use Rattle.ct_value.specs.Bag.{none, copies, total, one_at}
use Rattle.ct_value.proofs.laws.Bags.{copies-none, copies-occurs, one_at_itself, same_bag, total-le}
use Rattle.ct_value.specs.Order.{row_cmp, row_total, row_exact}
use Rattle.ct_value.specs.declared.row.Row.{Row}
use Rattle.ct_change.specs.Changelog.{Rows, same_row}
use Rattle.rel_algebra.specs.Sums.{one, together, plus, mapped, restrict, distinct, Each, sum_over}
use Rattle.rel_algebra.specs.Keys.{rows_of_key, keys_in, by_key, AreApart}
use Rattle.rel_algebra.proofs.laws.Bags.{together-none, together-comm, copies-together, copies-one, copies-restrict, copies-distinct, copies-each, each-copies, each-restrict, restrict-together, restrict-both, nothing_weighs, distinct-none, mapped-none, mapped-together, total-mapped, some_weighs, sum_over-none, sum_over-one, sum_over-together, sum_over-same, sum_over-some, each-sum_over}

same : (key row : Row) → same_row key row ≡ true → key ≡ row
same key row e = row_exact key row ((Equal-is (row_cmp key row)).0 e)

itself_same : (key : Row) → same_row key key ≡ true
itself_same key = ap is_eq (tied_itself row_total key)

-- ---- arithmetic of counts

-- 1 where there is something
abbrev pub once : ℕ → ℕ
once n = cond (n == 0) 0 1

once-nothing : (n : ℕ) → n ≡ 0 → once n ≡ 0
once-nothing n e = ap once e

once-some : (n : ℕ) → 0 < n → once n ≡ 1
once-some n h = elim (n == 0) as (λ b. (n == 0) ≡ b → ◌≡◌ {A = ℕ} (cond b 0 1) 1) [ true ↦ λ e. absurd (let z = eqb-true n 0 e in omega arith) | false ↦ λ e. refl ] refl

once-sum : (m n : ℕ) → (0 < m → 0 < n → ⊥) → once (m + n) ≡ once m + once n
once-sum zero n apart = ap once (let e : 0 + n ≡ n = omega arith in e) ∙ let f : once n ≡ 0 + once n = omega arith in f
once-sum (suc m) zero apart = ap once (let e : suc m + 0 ≡ suc m = omega arith in e) ∙ let f : once (suc m) ≡ once (suc m) + 0 = omega arith in f
once-sum (suc m) (suc n) apart = absurd (apart (omega arith) (omega arith))

once-there : (n : ℕ) → 0 < once n → 0 < n
once-there zero h = absurd (omega arith)
once-there (suc n) h = omega arith

module _ (key_of : Row → Row) where
  -- how often a key occurs is how many rows have it
  copies-keys : (rows : Rows) (key : Row) → copies {R = row_cmp} (mapped key_of rows) key ≡ total (λ row. one_at row_cmp key (key_of row)) rows
  copies-keys rows key = copies-occurs (mapped key_of rows) key ∙ total-mapped row_total row_exact row_total row_exact (one_at row_cmp key) key_of rows

  -- a key that occurs is that of a row
  pub key_there : (rows : Rows) (key : Row) → 0 < copies (keys_in key_of rows) key → (row : Row) × (0 < copies rows row) × (key ≡ key_of row)
  key_there rows key some =
      let n : ℕ = copies {R = row_cmp} (mapped key_of rows) key in
      let e : copies (keys_in key_of rows) key ≡ once n = copies-distinct row_total row_exact (mapped key_of rows) key in
      let h : 0 < n = once-there n (omega arith) in
      let q = some_weighs row_total (λ row. one_at row_cmp key (key_of row)) rows (let f = copies-keys rows key in omega arith) in
      (q.0, q.1, at (key_of q.0) q.2)
    where
      at : (other : Row) → 0 < one_at row_cmp key other → key ≡ other
      at other h = elim (same_row key other) as (λ b. same_row key other ≡ b → 0 < cond b 1 0 → key ≡ other) [ true ↦ λ e p. same key other e | false ↦ λ e p. absurd (omega arith) ] refl h

  -- and the key of a row occurs
  pub there_key : (rows : Rows) (row : Row) → 0 < copies rows row → 0 < copies (keys_in key_of rows) (key_of row)
  there_key rows row some =
      let n : ℕ = copies {R = row_cmp} (mapped key_of rows) (key_of row) in
      let e : copies (keys_in key_of rows) (key_of row) ≡ once n = copies-distinct row_total row_exact (mapped key_of rows) (key_of row) in
      let f : n ≡ total (λ other. one_at row_cmp (key_of row) (key_of other)) rows = copies-keys rows (key_of row) in
      let g : 0 < n = at_least n f in
      omega (arith, once-some n g)
    where
      at_least : (n : ℕ) → n ≡ total (λ other. one_at row_cmp (key_of row) (key_of other)) rows → 0 < n
      at_least (suc n) f = omega arith
      at_least zero f = absurd (let h : one_at row_cmp (key_of row) (key_of row) ≡ 0 = each-copies row_total row_exact (λ other. one_at row_cmp (key_of row) (key_of other) ≡ 0) rows (nothing_weighs (λ other. one_at row_cmp (key_of row) (key_of other)) rows (sym f)) row some in let i = one_at_itself row_cmp row_total (key_of row) in omega arith)

  copies-rows_of_key : (key : Row) (rows : Rows) (row : Row) → copies (rows_of_key key_of key rows) row ≡ cond (same_row key (key_of row)) (copies rows row) 0
  copies-rows_of_key key rows row = copies-restrict row_total row_exact (λ row. same_row key (key_of row)) rows row

  -- no row has a key that is none of theirs
  pub rows_of_key-none : (key : Row) (rows : Rows) → ((row : Row) → 0 < copies rows row → key ≢ key_of row) → rows_of_key key_of key rows ≡ none
  rows_of_key-none key rows apart = same_bag row_total row_exact _ _ (λ row. copies-rows_of_key key rows row ∙ at row (copies rows row) refl ∙ sym (copies-none row_total row))
    where
      at : (row : Row) (n : ℕ) → copies rows row ≡ n → cond (same_row key (key_of row)) (copies rows row) 0 ≡ 0
      at row zero e = elim (same_row key (key_of row)) as (λ b. cond b (copies rows row) 0 ≡ 0) [ true ↦ e | false ↦ refl ]
      at row (suc n) e = elim (same_row key (key_of row)) as (λ b. same_row key (key_of row) ≡ b → cond b (copies rows row) 0 ≡ 0) [ true ↦ λ f. absurd (apart row (omega arith) (same key (key_of row) f)) | false ↦ λ f. refl ] refl

  -- all rows of one key are its rows
  pub rows_of_key-all : (key : Row) (rows : Rows) → ((row : Row) → 0 < copies rows row → key ≡ key_of row) → rows_of_key key_of key rows ≡ rows
  rows_of_key-all key rows all = same_bag row_total row_exact _ _ (λ row. copies-rows_of_key key rows row ∙ at row (copies rows row) refl)
    where
      itself : (row : Row) → key ≡ key_of row → same_row key (key_of row) ≡ true
      itself row e = ap (same_row key) (sym e) ∙ itself_same key

      at : (row : Row) (n : ℕ) → copies rows row ≡ n → cond (same_row key (key_of row)) (copies rows row) 0 ≡ copies rows row
      at row zero e = elim (same_row key (key_of row)) as (λ b. cond b (copies rows row) 0 ≡ copies rows row) [ true ↦ refl | false ↦ sym e ]
      at row (suc n) e = ap (λ b. cond b (copies rows row) 0) (itself row (all row (omega arith)))

  keys_in-none : keys_in key_of none ≡ none
  keys_in-none = ap distinct (mapped-none row_total row_exact row_cmp key_of) ∙ distinct-none row_total row_exact

  copies-keys_in : (rows : Rows) (key : Row) → copies (keys_in key_of rows) key ≡ once (copies {R = row_cmp} (mapped key_of rows) key)
  copies-keys_in rows key = copies-distinct row_total row_exact (mapped key_of rows) key

  keys_in-together : (a b : Rows) → AreApart key_of a b → keys_in key_of (together a b) ≡ together (keys_in key_of a) (keys_in key_of b)
  keys_in-together a b apart = same_bag row_total row_exact _ _ (λ key.
      let m : ℕ = copies {R = row_cmp} (mapped key_of a) key in
      let n : ℕ = copies {R = row_cmp} (mapped key_of b) key in
      copies-keys_in (together a b) key
      ∙ ap once (ap (λ (c : Rows). copies c key) (mapped-together row_total row_exact row_total row_exact key_of a b) ∙ copies-together row_total row_exact (mapped key_of a) (mapped key_of b) key)
      ∙ once-sum m n (λ h k.
      let p = key_there a key (let e = copies-keys_in a key in omega (arith, once-some m h)) in
      let q = key_there b key (let e = copies-keys_in b key in omega (arith, once-some n k)) in
      apart p.0 q.0 p.1 q.1 (sym p.2 ∙ q.2))
      ∙ sym (copies-together row_total row_exact (keys_in key_of a) (keys_in key_of b) key ∙ let e = copies-keys_in a key in let f = copies-keys_in b key in omega arith))

  module _ (f : Row → Rows → Option Rows) where
    at_key : Rows → Row → Option Rows
    at_key rows key = f key (rows_of_key key_of key rows)

    pub by_key-none : by_key key_of f none ≡ Some none
    by_key-none = ap (sum_over (λ key. f key (rows_of_key key_of key none))) keys_in-none ∙ sum_over-none row_total row_exact row_cmp (λ key. f key (rows_of_key key_of key none))

    left_alone : (a b : Rows) → AreApart key_of a b → (key : Row) → 0 < copies (keys_in key_of a) key → rows_of_key key_of key (together a b) ≡ rows_of_key key_of key a
    left_alone a b apart key some =
        let p = key_there a key some in
        let e : rows_of_key key_of key b ≡ none = rows_of_key-none key b (λ row there i. apart p.0 row p.1 there (sym p.2 ∙ i)) in
        restrict-together row_total row_exact (λ row. same_row key (key_of row)) a b
        ∙ ap (together (rows_of_key key_of key a)) e ∙ together-comm row_total row_exact (rows_of_key key_of key a) none ∙ together-none row_total row_exact (rows_of_key key_of key a)

    swapped : (a b : Rows) → AreApart key_of a b → AreApart key_of b a
    swapped a b apart row other h k e = apart other row k h (sym e)

    -- of bags that share no key, it is the sum
    pub by_key-together : (a b : Rows) → AreApart key_of a b → by_key key_of f (together a b) ≡ plus (by_key key_of f a) (by_key key_of f b)
    by_key-together a b apart =
        ap (sum_over (λ key. f key (rows_of_key key_of key (together a b)))) (keys_in-together a b apart)
        ∙ sum_over-together row_total row_exact row_total row_exact (λ key. f key (rows_of_key key_of key (together a b))) (keys_in key_of a) (keys_in key_of b)
        ∙ (λ i. plus (first_part i) (second_part i))
      where
        first_part : sum_over (λ key. f key (rows_of_key key_of key (together a b))) (keys_in key_of a) ≡ by_key key_of f a
        first_part = sum_over-same row_total row_exact row_total row_exact _ _ (keys_in key_of a)
            (copies-each row_total row_exact _ (keys_in key_of a) (λ key some. ap (f key) (left_alone a b apart key some)))

        second_part : sum_over (λ key. f key (rows_of_key key_of key (together a b))) (keys_in key_of b) ≡ by_key key_of f b
        second_part = sum_over-same row_total row_exact row_total row_exact _ _ (keys_in key_of b)
            (copies-each row_total row_exact _ (keys_in key_of b) (λ key some.
            ap (λ c. f key (rows_of_key key_of key c)) (together-comm row_total row_exact a b) ∙ ap (f key) (left_alone b a (swapped a b apart) key some)))

    -- of rows of one key, of which there are some, it is what is made of that key and all of them
    pub by_key-one : (key : Row) (rows : Rows) (row : Row) → 0 < copies rows row → ((row : Row) → 0 < copies rows row → key ≡ key_of row) → by_key key_of f rows ≡ f key rows
    by_key-one key rows row some all =
        ap (sum_over (λ key. f key (rows_of_key key_of key rows))) keys
        ∙ sum_over-one row_total row_exact row_total row_exact (λ key. f key (rows_of_key key_of key rows)) key
        ∙ ap (f key) (rows_of_key-all key rows all)
      where
        at : (other : Row) (n : ℕ) → n ≡ once (copies {R = row_cmp} (mapped key_of rows) other) → n ≡ copies (keys_in key_of rows) other → n ≡ one_at row_cmp other key
        at other n e g = elim (same_row other key) as (λ b. same_row other key ≡ b → n ≡ cond b 1 0) [
          | true ↦ λ q.
              let i : key_of row ≡ other = sym (all row some) ∙ sym (same other key q) in
              let h : 0 < copies (keys_in key_of rows) other = subst (λ k. 0 < copies (keys_in key_of rows) k) i (there_key rows row some) in
              e ∙ once-some _ (once-there (copies {R = row_cmp} (mapped key_of rows) other) (omega arith))
          | false ↦ λ q. none_there q n refl
        ] refl
          where
            none_there : same_row other key ≡ false → (m : ℕ) → n ≡ m → n ≡ 0
            none_there q zero i = i
            none_there q (suc m) i = absurd (
                let p = key_there rows other (omega arith) in
                let j : other ≡ key = p.2 ∙ sym (all p.0 p.1) in
                let k : same_row other key ≡ true = ap (λ z. same_row z key) j ∙ itself_same key in cc)

        keys : keys_in key_of rows ≡ one key
        keys = same_bag row_total row_exact _ _ (λ other. at other (copies (keys_in key_of rows) other) (copies-keys_in rows other) refl ∙ sym (copies-one row_total row_exact key other))

    -- it is what is made of the rows of one key, and of the others
    pub by_key-split : (key : Row) (rows : Rows) → by_key key_of f rows ≡ plus (by_key key_of f (rows_of_key key_of key rows)) (by_key key_of f (restrict (λ row. not (same_row key (key_of row))) rows))
    by_key-split key rows =
        ap (by_key key_of f) (sym (restrict-both row_total row_exact (λ row. same_row key (key_of row)) rows))
        ∙ by_key-together (rows_of_key key_of key rows) (restrict (λ row. not (same_row key (key_of row))) rows) (λ row other some more e. cut row other some more e)
      where
        of_test : (t : Bool) (n m : ℕ) → m ≡ cond t n 0 → 0 < m → t ≡ true
        of_test true n m e h = refl
        of_test false n m e h = absurd (omega arith)

        differ : (t : Bool) → t ≡ true → not t ≡ true → ⊥
        differ true e g = absurd (cc)
        differ false e g = absurd (cc)

        cut : (row other : Row) → 0 < copies (rows_of_key key_of key rows) row → 0 < copies (restrict (λ row. not (same_row key (key_of row))) rows) other → key_of row ≡ key_of other → ⊥
        cut row other some more e =
            let p = of_test (same_row key (key_of row)) (copies rows row) _ (copies-rows_of_key key rows row) some in
            let q = of_test (not (same_row key (key_of other))) (copies rows other) _ (copies-restrict row_total row_exact (λ row. not (same_row key (key_of row))) rows other) more in
            differ (same_row key (key_of other)) (sym (ap (same_row key) e) ∙ p) q

    -- never out of range where f never is
    pub by_key-some : ((key : Row) (members : Rows) → (c : Rows) × (f key members ≡ Some c)) → (rows : Rows) → (c : Rows) × (by_key key_of f rows ≡ Some c)
    by_key-some h rows = sum_over-some row_total row_exact row_total row_exact (λ key. f key (rows_of_key key_of key rows)) (λ key. h key (rows_of_key key_of key rows)) (keys_in key_of rows)

    -- what holds of all rows that are made
    pub each-by_key : (P Q : Row → Type 0) → ((key : Row) (members c : Rows) → Each (λ row. P row × (same_row key (key_of row) ≡ true)) members → 0 < total (λ _. 1) members → f key members ≡ Some c → Each Q c) → (rows answer : Rows) → Each P rows → by_key key_of f rows ≡ Some answer → Each Q answer
    each-by_key P Q m rows answer h e =
        each-sum_over row_total row_exact row_total row_exact (λ key. 0 < copies (keys_in key_of rows) key) Q (λ key. f key (rows_of_key key_of key rows))
        (λ key c some i. m key (rows_of_key key_of key rows) c (each-restrict row_total row_exact P (λ row. same_row key (key_of row)) rows h) (size_of key some) i)
        (keys_in key_of rows) (copies-each row_total row_exact _ (keys_in key_of rows) (λ key some. some)) answer e
      where
        size_of : (key : Row) → 0 < copies (keys_in key_of rows) key → 0 < total (λ _. 1) (rows_of_key key_of key rows)
        size_of key some =
            let p = key_there rows key some in
            let e : copies (rows_of_key key_of key rows) p.0 ≡ copies rows p.0 = copies-rows_of_key key rows p.0 ∙ ap (λ b. cond b (copies rows p.0) 0) (ap (λ z. same_row z (key_of p.0)) p.2 ∙ itself_same (key_of p.0)) in
            let g = total-le (one_at row_cmp p.0) (at_most_one p.0) (rows_of_key key_of key rows) in
            let i = copies-occurs (rows_of_key key_of key rows) p.0 in
            let j : 0 < copies rows p.0 = p.1 in omega arith
          where
            at_most_one : (x y : Row) → one_at row_cmp x y ≤ 1
            at_most_one x y = elim (same_row x y) as (λ b. cond b 1 0 ≤ 1) [ true ↦ omega arith | false ↦ omega arith ]
