-- Keys in the midst of a message: where a weight of rows (1 on the rows with a key) is at most 1 before a row comes or
-- goes and after it, it is at most 1 after each front of what is told, as of the rows that weigh those that go are told first.
use Rattle.std.proofs.Common.{◌≡◌, ℕ, zero, suc, ◌+◌, ◌≤◌, ◌==◌, Bool, true, false, cond, ◌&&◌, List, [], ◌∷◌, ◌++◌, filter, flat_map, take, inl, inr, ◌⊎◌, refl, sym, ap, subst, ◌∙◌, arith}
use Rattle.std.proofs.lemmas.Bool.{eqb-true}
use Rattle.ct_value.specs.Bag.{items, weigh}
use Rattle.ct_value.proofs.laws.Bags.{weigh-append}
use Rattle.ct_value.specs.declared.row.Row.{Row}
use Rattle.ct_change.specs.declared.kind.Kind.{Kind}
use Rattle.ct_change.specs.declared.kind.Kind.TheVariants.{I, D}
use Rattle.ct_change.specs.declared.change.Change.{Change}
use Rattle.ct_change.specs.Changelog.{Rows, adds}
use Rattle.emission_rules.specs.Joins.{Join, match_count, told_if}
use Rattle.emission_rules.proofs.laws.JoinMessages.{up, down, ups, downs, message}

module _ (w : Row → ℕ) where
  -- nothing that weighs has come at a front, or all that weighs and goes has gone
  abbrev pub RemovesFirst : List Change → Type 0
  RemovesFirst xs = (n : ℕ) → (ups w (take n xs) ≡ 0) ⊎ (downs w (take n xs) ≡ downs w xs)

  weigh-take : (f : Change → ℕ) (n : ℕ) (xs : List Change) → weigh f (take n xs) ≤ weigh f xs
  weigh-take f zero xs = omega arith
  weigh-take f (suc n) [] = omega arith
  weigh-take f (suc n) (x ∷ xs) = omega (arith, weigh-take f n xs)

  pub take-append : (n : ℕ) (xs ys : List Change) → (take n (xs ++ ys) ≡ take n xs) ⊎ ((m : ℕ) × (take n (xs ++ ys) ≡ xs ++ take m ys))
  take-append n [] ys = inr (n, refl)
  take-append zero (x ∷ xs) ys = inl refl
  take-append (suc n) (x ∷ xs) ys =
      elim (take-append n xs ys) [
        | inl e ↦ inl (ap (λ zs. x ∷ zs) e)
        | inr e ↦ inr (e.0, ap (λ zs. x ∷ zs) e.1)
      ]

  pub only_removes : (xs : List Change) → ups w xs ≡ 0 → RemovesFirst xs
  only_removes xs e n = inl (let t = weigh-take (up w) n xs in omega arith)

  pub only_adds : (xs : List Change) → downs w xs ≡ 0 → RemovesFirst xs
  only_adds xs e n = inr (let t = weigh-take (down w) n xs in omega arith)

  -- removals before
  pub removes_then : (xs ys : List Change) → ups w xs ≡ 0 → RemovesFirst ys → RemovesFirst (xs ++ ys)
  removes_then xs ys e rest n =
      elim (take-append n xs ys) [
        | inl f ↦ inl (ap (ups w) f ∙ (let t = weigh-take (up w) n xs in omega arith))
        | inr f ↦ elim (rest f.0) [
          | inl u ↦ inl (ap (ups w) f.1 ∙ weigh-append (up w) xs (take f.0 ys) ∙ (omega arith))
          | inr d ↦ inr (ap (downs w) f.1 ∙ weigh-append (down w) xs (take f.0 ys) ∙ (let t = weigh-append (down w) xs ys in omega arith))
        ]
      ]

  -- additions behind
  pub then_adds : (xs ys : List Change) → RemovesFirst xs → downs w ys ≡ 0 → RemovesFirst (xs ++ ys)
  then_adds xs ys first e n =
      let whole = weigh-append (down w) xs ys in
      elim (take-append n xs ys) [
        | inl f ↦ elim (first n) [
          | inl u ↦ inl (ap (ups w) f ∙ u)
          | inr d ↦ inr (ap (downs w) f ∙ d ∙ (omega arith))
        ]
        | inr f ↦ inr (ap (downs w) f.1 ∙ weigh-append (down w) xs (take f.0 ys) ∙ (let t = weigh-take (down w) f.0 ys in omega arith))
      ]

  -- lists of which one weighs at most
  pub one_weighs : (f : Row → List Change) (weighs : Row → Bool) → ((row : Row) → RemovesFirst (f row)) → ((row : Row) → weighs row ≡ false → (ups w (f row) ≡ 0) × (downs w (f row) ≡ 0))
      → (rows : List Row) → weigh (λ row. cond (weighs row) 1 0) rows ≤ 1 → RemovesFirst (flat_map f rows)
  one_weighs f weighs each light [] few = λ n. inr (take-nothing n)
    where
      take-nothing : (n : ℕ) → downs w (take n []) ≡ 0
      take-nothing zero = refl
      take-nothing (suc n) = refl
  one_weighs f weighs each light (row ∷ rows) few =
      elim (weighs row) as (λ b. weighs row ≡ b → cond b 1 0 + weigh (λ row. cond (weighs row) 1 0) rows ≤ 1 → RemovesFirst (f row ++ flat_map f rows)) [
        | true ↦ λ e h. then_adds (f row) (flat_map f rows) (each row) (rest_light rows (omega arith))
        | false ↦ λ e h. removes_then (f row) (flat_map f rows) (light row e).0 (one_weighs f weighs each light rows (omega arith))
      ] refl few
    where
      rest_light : (rows : List Row) → weigh (λ row. cond (weighs row) 1 0) rows ≡ 0 → downs w (flat_map f rows) ≡ 0
      rest_light [] z = refl
      rest_light (r ∷ rs) z =
          let here : downs w (f r) ≡ 0 = elim (weighs r) as (λ b. weighs r ≡ b → cond b 1 0 + weigh (λ row. cond (weighs row) 1 0) rs ≡ 0 → downs w (f r) ≡ 0) [ true ↦ λ e q. absurd (omega arith) | false ↦ λ e q. (light r e).1 ] refl z in
          let rest = rest_light rs (omega arith) in
          weigh-append (down w) (f r) (flat_map f rs) ∙ (omega arith)

  -- at most 1 before and after, and so at each front
  pub at_fronts : (before after : ℕ) (xs : List Change) → RemovesFirst xs → before ≤ 1 → after ≤ 1 → ups w xs + before ≡ downs w xs + after → (n : ℕ) → ups w (take n xs) + before ≤ downs w (take n xs) + 1
  at_fronts before after xs first b a balance n =
      elim (first n) [
        | inl u ↦ omega arith
        | inr d ↦ let t = weigh-take (up w) n xs in omega arith
      ]

  -- ---- a message

  if-nothing-up : (b : Bool) (kind : Kind) (row : Row) → adds kind ≡ false → ups w (told_if b kind row) ≡ 0
  if-nothing-up true kind row e = let z : up w (record { kind = kind; row = row }) ≡ 0 = ap (λ t. cond t (w row) 0) e in omega arith
  if-nothing-up false kind row e = refl

  if-nothing-down : (b : Bool) (kind : Kind) (row : Row) → adds kind ≡ true → downs w (told_if b kind row) ≡ 0
  if-nothing-down true kind row e = let z : down w (record { kind = kind; row = row }) ≡ 0 = ap (λ t. cond t 0 (w row)) e in omega arith
  if-nothing-down false kind row e = refl

  -- what is told of a match: what goes first
  pub match_removes_first : (a b c : Bool) (kind : Kind) (form pair : Row) → RemovesFirst (told_if a D form ++ (told_if b kind pair ++ told_if c I form))
  match_removes_first a b c kind form pair =
      removes_then (told_if a D form) (told_if b kind pair ++ told_if c I form) (if-nothing-up a D form refl)
      (elim (adds kind) as (λ t. adds kind ≡ t → RemovesFirst (told_if b kind pair ++ told_if c I form)) [
        | true ↦ λ e. then_adds (told_if b kind pair) (told_if c I form) (only_adds (told_if b kind pair) (if-nothing-down b kind pair e)) (if-nothing-down c I form refl)
        | false ↦ λ e. removes_then (told_if b kind pair) (told_if c I form) (if-nothing-up b kind pair e) (only_adds (told_if c I form) (if-nothing-down c I form refl))
      ] refl)

  -- ---- when a whole message removes first

  weigh-told_if : (f : Change → ℕ) (b : Bool) (kind : Kind) (row : Row) → f (record { kind = kind; row = row }) ≡ 0 → weigh f (told_if b kind row) ≡ 0
  weigh-told_if f true kind row e = omega (arith, e)
  weigh-told_if f false kind row e = refl

  weigh-told_where : (f : Change → ℕ) (b : Bool) (kind : Kind) (row : Row) → (b ≡ true → f (record { kind = kind; row = row }) ≡ 0) → weigh f (told_if b kind row) ≡ 0
  weigh-told_where f true kind row e = weigh-told_if f true kind row (e refl)
  weigh-told_where f false kind row e = refl

  cond-nothing : (b : Bool) → ◌≡◌ {A = ℕ} (cond b 0 0) 0
  cond-nothing true = refl
  cond-nothing false = refl

  light-change : (kind : Kind) (row : Row) → w row ≡ 0 → (up w (record { kind = kind; row = row }) ≡ 0) × (down w (record { kind = kind; row = row }) ≡ 0)
  light-change kind row e = (ap (λ n. cond (adds kind) n 0) e ∙ cond-nothing (adds kind), ap (λ n. cond (adds kind) 0 n) e ∙ cond-nothing (adds kind))

  filter-nothing : (p : Row → Bool) (xs : List Row) → weigh (λ y. cond (p y) 1 0) xs ≡ 0 → filter p xs ≡ []
  filter-nothing p [] z = refl
  filter-nothing p (x ∷ xs) z = elim (p x) as (λ b. cond b 1 0 + weigh (λ y. cond (p y) 1 0) xs ≡ 0 → cond b (x ∷ filter p xs) (filter p xs) ≡ []) [ true ↦ λ q. absurd (omega arith) | false ↦ λ q. filter-nothing p xs (omega arith) ] z

  three : (f : Change → ℕ) (a b c : List Change) → weigh f a ≡ 0 → weigh f b ≡ 0 → weigh f c ≡ 0 → weigh f (a ++ (b ++ c)) ≡ 0
  three f a b c p q r = omega (arith, weigh-append f a (b ++ c), weigh-append f b c, p, q, r)

  pub one_change : (b : Bool) (k : Kind) (row : Row) → RemovesFirst (told_if b k row)
  one_change b k row = elim (adds k) as (λ t. adds k ≡ t → RemovesFirst (told_if b k row)) [ true ↦ λ e. only_adds (told_if b k row) (if-nothing-down b k row e) | false ↦ λ e. only_removes (told_if b k row) (if-nothing-up b k row e) ] refl

  -- of the rows that match one has the key at most, and the row itself stands alone only where it has no match
  module _ (join : Join) (kind : Kind) (x : Row) (beside others : Rows) (goes comes : Bool) (weighs : Row → Bool)
      (light_form : (match : Row) → weighs match ≡ false → w (join.other.form match) ≡ 0) (light_pair : (match : Row) → join.pairs ≡ true → weighs match ≡ false → w (join.pair x match) ≡ 0)
      (few : weigh (λ row. cond (weighs row) 1 0) (filter (join.matches x) (items others)) ≤ 1) (alone : join.own.matched ≡ false) where
    abbrev free : Row → Bool
    free match = match_count (λ row. join.matches row match) beside == 0

    abbrev told : Row → List Change
    told match = told_if (free match && goes) D (join.other.form match) ++ (told_if join.pairs kind (join.pair x match) ++ told_if (free match && comes) I (join.other.form match))

    each : (match : Row) → RemovesFirst (told match)
    each match = match_removes_first (free match && goes) join.pairs (free match && comes) kind (join.other.form match) (join.pair x match)

    light : (match : Row) → weighs match ≡ false → (ups w (told match) ≡ 0) × (downs w (told match) ≡ 0)
    light match e =
        let f = light_form match e in
        let p : join.pairs ≡ true → w (join.pair x match) ≡ 0 = λ shown. light_pair match shown e in
        let g = free match && goes in
        let c = free match && comes in (
          three (up w) (told_if g D (join.other.form match)) (told_if join.pairs kind (join.pair x match)) (told_if c I (join.other.form match)) (weigh-told_if (up w) g D (join.other.form match) (light-change D (join.other.form match) f).0) (weigh-told_where (up w) join.pairs kind (join.pair x match) (λ shown. (light-change kind (join.pair x match) (p shown)).0)) (weigh-told_if (up w) c I (join.other.form match) (light-change I (join.other.form match) f).0),
          three (down w) (told_if g D (join.other.form match)) (told_if join.pairs kind (join.pair x match)) (told_if c I (join.other.form match)) (weigh-told_if (down w) g D (join.other.form match) (light-change D (join.other.form match) f).1) (weigh-told_where (down w) join.pairs kind (join.pair x match) (λ shown. (light-change kind (join.pair x match) (p shown)).1)) (weigh-told_if (down w) c I (join.other.form match) (light-change I (join.other.form match) f).1),
        )

    pub message_removes_first : RemovesFirst (message join kind x beside others goes comes)
    message_removes_first =
        elim (match_count (join.matches x) others == 0) as (λ z. (match_count (join.matches x) others == 0) ≡ z → RemovesFirst (flat_map told (filter (join.matches x) (items others)) ++ told_if (cond z join.own.unmatched join.own.matched) kind (join.own.form x))) [
          | true ↦ λ z.
              subst (λ (xs : List Row). RemovesFirst (flat_map told xs ++ told_if join.own.unmatched kind (join.own.form x))) (sym (filter-nothing (join.matches x) (items others) (eqb-true (match_count (join.matches x) others) 0 z))) (one_change join.own.unmatched kind (join.own.form x))
          | false ↦ λ z.
              then_adds (flat_map told (filter (join.matches x) (items others))) (told_if join.own.matched kind (join.own.form x)) (one_weighs told weighs each light (filter (join.matches x) (items others)) few) (ap (λ b. downs w (told_if b kind (join.own.form x))) alone)
        ] refl
