-- Rows that are one, bags as sums and as parts of others, and what partial results are worth together.
use Rattle.std.specs.Prelude.{◌≡◌, ℕ, ◌+◌, ◌||◌, Bool, cond, List, ◌++◌}
use Rattle.std.proofs.Common.{zero, suc, true, false, [], ◌∷◌, refl, sym, ap, ◌∙◌, arith, inl, inr}
use Rattle.std.specs.List.{filter}
use Rattle.std.specs.Cmp.{Equal-is, tied_itself}
use Rattle.std.specs.Ordering.{is_gt}
use Rattle.std.proofs.lemmas.Bool.{cases_Bool}
use Rattle.std.proofs.Math.IntN.{+ℤ_comm, +ℤ_idr, +ℤ_assoc}
use Rattle.std.proofs.Math.Bool.{or_assoc, or_comm}
use Rattle.ct_value.specs.Bag.{items, copies, none, weigh, occurs, one_at, put, bag_of}
use Rattle.ct_value.proofs.laws.Bags.{weigh-append, copies-occurs, copies-none, copies-bag_of, items-add, items-none, same_bag}
use Rattle.ct_value.specs.Order.{row_cmp, row_total, row_exact}
use Rattle.ct_value.specs.Rows.{project}
use Rattle.ct_value.specs.declared.row.Row.{Row}
use Rattle.ct_change.specs.declared.change.Change.{Change}
use Rattle.ct_change.specs.Changelog.{Rows, same_row, adds, addition, removal}
use Rattle.op_rules.specs.Tasks.{total}
use Rattle.op_rules.specs.Partials.{Worth, nothing, plus, Partials, worth_in, worth_of}

pub same-true : (a b : Row) → same_row a b ≡ true → a ≡ b
same-true a b e = row_exact a b ((Equal-is (row_cmp a b)).0 e)

pub same-itself : (a : Row) → same_row a a ≡ true
same-itself a = (Equal-is (row_cmp a a)).1 (tied_itself row_total a)

-- whether two rows agree on columns
abbrev pub agree : List ℕ → Row → Row → Bool
agree columns a b = same_row (project columns a) (project columns b)

pub agree_from : (columns : List ℕ) (a b : Row) → project columns a ≡ project columns b → agree columns a b ≡ true
agree_from columns a b e = ap (same_row (project columns a)) (sym e) ∙ same-itself (project columns a)

pub either : {A : Type 0} (b : Bool) (x : A) → cond b x x ≡ x
either true x = refl
either false x = refl

pub no_more : (b : Bool) → ◌≡◌ {A = ℕ} (cond b 0 0) 0
no_more true = refl
no_more false = refl

-- what a filter by rows leaves of such a weight
pub weigh-rows : {A : Type 0} (row_of : A → Row) (r : Row) (f : A → ℕ) → ((x : A) → same_row r (row_of x) ≡ false → f x ≡ 0) → (q : Row → Bool) (l : List A) → weigh f (filter (λ x. q (row_of x)) l) ≡ cond (q r) (weigh f l) 0
weigh-rows row_of r f a q [] = sym (no_more (q r))
weigh-rows row_of r f a q (x ∷ xs) =
    elim (cases_Bool (same_row r (row_of x))) [
      | inl e ↦ rw (sym (ap q (same-true r (row_of x) e))) (elim (q r) as (λ b. weigh f (filter (λ x. q (row_of x)) xs) ≡ cond b (weigh f xs) 0 → weigh f (cond b (x ∷ filter (λ x. q (row_of x)) xs) (filter (λ x. q (row_of x)) xs)) ≡ cond b (f x + weigh f xs) 0) [ true ↦ λ h. ap (λ n. f x + n) h | false ↦ λ h. h ] (weigh-rows row_of r f a q xs))
      | inr e ↦ let z : f x ≡ 0 = a x e in
          elim (q (row_of x)) as (λ b. weigh f (cond b (x ∷ filter (λ x. q (row_of x)) xs) (filter (λ x. q (row_of x)) xs)) ≡ cond (q r) (f x + weigh f xs) 0) [
            | true ↦ rw z (rw zero_plus (omega (arith, weigh-rows row_of r f a q xs)))
            | false ↦ rw z (rw zero_plus (weigh-rows row_of r f a q xs))
          ]
    ]
  where
    zero_plus : 0 + weigh f xs ≡ weigh f xs
    zero_plus = omega arith

pub about_addition : (r : Row) (c : Change) → same_row r c.row ≡ false → addition r c ≡ 0
about_addition r c e = ap (λ b. cond (adds c.kind) (cond b 1 0) 0) e ∙ no_more (adds c.kind)

pub about_removal : (r : Row) (c : Change) → same_row r c.row ≡ false → removal r c ≡ 0
about_removal r c e = ap (λ b. cond (adds c.kind) 0 (cond b 1 0)) e ∙ no_more (adds c.kind)

-- ---- bags

abbrev pub union : Rows → Rows → Rows
union a b = bag_of (items a ++ items b)

-- the rows that pass
abbrev pub restricted : (Row → Bool) → Rows → Rows
restricted q b = bag_of (filter q (items b))

-- the rows of the bags below n
abbrev pub sum_rows : ℕ → (ℕ → Rows) → Rows
sum_rows zero f = none
sum_rows (suc n) f = union (sum_rows n f) (f n)

pub copies-union : (a b : Rows) (r : Row) → copies (union a b) r ≡ copies a r + copies b r
copies-union a b r =
    copies-bag_of row_total (items a ++ items b) r
    ∙ (weigh-append (one_at row_cmp r) (items a) (items b)
    ∙ (ap (λ n. n + occurs row_cmp r (items b)) (sym (copies-occurs a r)) ∙ ap (λ n. copies a r + n) (sym (copies-occurs b r))))

pub copies-restricted : (q : Row → Bool) (b : Rows) (r : Row) → copies (restricted q b) r ≡ cond (q r) (copies b r) 0
copies-restricted q b r =
    copies-bag_of row_total (filter q (items b)) r
    ∙ (weigh-rows (λ x. x) r (one_at row_cmp r) (λ x e. ap (λ b. cond b 1 0) e) q (items b)
    ∙ ap (λ n. cond (q r) n 0) (sym (copies-occurs b r)))

pub copies-sum : (n : ℕ) (f : ℕ → Rows) (r : Row) → copies (sum_rows n f) r ≡ total n (λ i. copies (f i) r)
copies-sum zero f r = copies-none row_total r
copies-sum (suc n) f r = copies-union (sum_rows n f) (f n) r ∙ ap (λ a. a + copies (f n) r) (copies-sum n f r)

-- ---- worths

pub plus_nothing : (a : Worth) → plus a nothing ≡ a
plus_nothing a = λ i. record { sums = λ c. +ℤ_idr (a.sums c) i; reached = λ c v. or_false (a.reached c v) i }
  where
    or_false : (b : Bool) → (b || false) ≡ b
    or_false true = refl
    or_false false = refl

pub plus_comm : (a b : Worth) → plus a b ≡ plus b a
plus_comm a b = λ i. record { sums = λ c. +ℤ_comm (a.sums c) (b.sums c) i; reached = λ c v. or_comm (a.reached c v) (b.reached c v) i }

pub plus_assoc : (a b c : Worth) → plus (plus a b) c ≡ plus a (plus b c)
plus_assoc a b c = λ i. record { sums = λ k. +ℤ_assoc (a.sums k) (b.sums k) (c.sums k) i; reached = λ k v. or_assoc (a.reached k v) (b.reached k v) (c.reached k v) i }

pub nothing_plus : (a : Worth) → plus nothing a ≡ a
nothing_plus a = plus_comm nothing a ∙ plus_nothing a

-- sums of worths
abbrev pub total_worth : ℕ → (ℕ → Worth) → Worth
total_worth zero f = nothing
total_worth (suc n) f = plus (total_worth n f) (f n)

module _ (p : Partials) (group : Row) where
  abbrev in_group : Row → Bool
  in_group row = same_row (project p.group row) (project p.own group)

  -- what is worth the same where a row is put in, and of two lists together
  worth-put : (x : Row) (xs : List Row) → worth_in p group (put row_cmp x xs) ≡ worth_in p group (x ∷ xs)
  worth-put x [] = refl
  worth-put x (y ∷ ys) =
      elim (is_gt (row_cmp x y)) as (λ b. worth_in p group (cond b (y ∷ put row_cmp x ys) (x ∷ y ∷ ys)) ≡ worth_in p group (x ∷ y ∷ ys)) [
        | false ↦ refl
        | true ↦ ap (λ w. cond (in_group y) (plus (p.alone y) w) w) (worth-put x ys) ∙ swap (in_group x) (in_group y) (p.alone x) (p.alone y) (worth_in p group ys)
      ]
    where
      swap : (a b : Bool) (u v w : Worth) → cond b (plus v (cond a (plus u w) w)) (cond a (plus u w) w) ≡ cond a (plus u (cond b (plus v w) w)) (cond b (plus v w) w)
      swap true true u v w = sym (plus_assoc v u w) ∙ (ap (λ s. plus s w) (plus_comm v u) ∙ plus_assoc u v w)
      swap true false u v w = refl
      swap false true u v w = refl
      swap false false u v w = refl

  pub worth-bag_of : (xs : List Row) → worth_of p group (bag_of xs) ≡ worth_in p group xs
  worth-bag_of [] = ap (worth_in p group) (items-none row_cmp)
  worth-bag_of (x ∷ xs) =
      ap (worth_in p group) (items-add row_total (bag_of xs) x)
      ∙ (worth-put x (items (bag_of xs)) ∙ ap (λ w. cond (in_group x) (plus (p.alone x) w) w) (worth-bag_of xs))

  pub worth-append : (xs ys : List Row) → worth_in p group (xs ++ ys) ≡ plus (worth_in p group xs) (worth_in p group ys)
  worth-append [] ys = sym (nothing_plus (worth_in p group ys))
  worth-append (x ∷ xs) ys =
      ap (λ w. cond (in_group x) (plus (p.alone x) w) w) (worth-append xs ys)
      ∙ elim (in_group x) as (λ b. cond b (plus (p.alone x) (plus (worth_in p group xs) (worth_in p group ys))) (plus (worth_in p group xs) (worth_in p group ys)) ≡ plus (cond b (plus (p.alone x) (worth_in p group xs)) (worth_in p group xs)) (worth_in p group ys)) [
        | true ↦ sym (plus_assoc (p.alone x) (worth_in p group xs) (worth_in p group ys))
        | false ↦ refl
      ]

  pub worth-none : worth_of p group none ≡ nothing
  worth-none = worth-bag_of []

  pub worth-union : (a b : Rows) → worth_of p group (union a b) ≡ plus (worth_of p group a) (worth_of p group b)
  worth-union a b = worth-bag_of (items a ++ items b) ∙ worth-append (items a) (items b)

  pub worth-total : (n : ℕ) (f : ℕ → Rows) → worth_of p group (sum_rows n f) ≡ total_worth n (λ i. worth_of p group (f i))
  worth-total zero f = worth-none
  worth-total (suc n) f = worth-union (sum_rows n f) (f n) ∙ ap (λ a. plus a (worth_of p group (f n))) (worth-total n f)

  -- rows of the group alone count
  worth-filter : (xs : List Row) → worth_in p group (filter in_group xs) ≡ worth_in p group xs
  worth-filter [] = refl
  worth-filter (x ∷ xs) =
      elim (in_group x) as (λ b. in_group x ≡ b → worth_in p group (cond b (x ∷ filter in_group xs) (filter in_group xs)) ≡ cond b (plus (p.alone x) (worth_in p group xs)) (worth_in p group xs)) [
        | true ↦ λ e. ap (λ b. cond b (plus (p.alone x) (worth_in p group (filter in_group xs))) (worth_in p group (filter in_group xs))) e ∙ ap (plus (p.alone x)) (worth-filter xs)
        | false ↦ λ e. worth-filter xs
      ] refl

  pub worth-near : (a b : Rows) → ((row : Row) → project p.group row ≡ project p.own group → copies a row ≡ copies b row) → worth_of p group a ≡ worth_of p group b
  worth-near a b h =
      let same : restricted in_group a ≡ restricted in_group b = same_bag row_total row_exact _ _ (λ r.
      copies-restricted in_group a r
      ∙ (elim (cases_Bool (in_group r)) [
        | inl e ↦ ap (λ n. cond (in_group r) n 0) (h r (same-true _ _ e))
        | inr e ↦ ap (λ b. cond b (copies a r) 0) e ∙ sym (ap (λ d. cond d (copies b r) 0) e)
      ]
      ∙ sym (copies-restricted in_group b r))) in
      own a ∙ (ap (worth_of p group) same ∙ sym (own b))
    where
      own : (c : Rows) → worth_of p group c ≡ worth_of p group (restricted in_group c)
      own c = sym (worth-bag_of (filter in_group (items c)) ∙ worth-filter (items c))
