-- From what the producers sent to what came to a port.
use Rattle.std.specs.Prelude.{◌≡◌, ℕ, ◌+◌, ◌<◌, ◌≤◌, ◌==◌, ◌||◌, not, Bool, cond, List, length}
use Rattle.std.proofs.Common.{zero, suc, true, false, [], ◌∷◌, refl, sym, ap, subst, ◌∙◌, arith, take, eqb, inl, inr, ◌⊎◌}
use Rattle.std.specs.List.{AllByRecursion, filter}
use Rattle.std.proofs.lemmas.Bool.{cases_Bool, cases_lt, eqb-true, eq-eqb, ne_eqb, cases_eq, false≢true, or_parts, or_cases, false_from_ne_true}
use Rattle.ct_value.specs.Bag.{copies, none, weigh}
use Rattle.ct_value.proofs.laws.Bags.{copies-none}
use Rattle.ct_value.specs.Order.{row_total}
use Rattle.ct_value.specs.Rows.{project}
use Rattle.ct_value.specs.declared.row.Row.{Row}
use Rattle.ct_change.specs.declared.change.Change.{Change}
use Rattle.ct_change.specs.Changelog.{Rows, same_row, addition, removal, additions, removals, last_shown}
use Rattle.op_rules.specs.History.{Arrival, at_port, from_port}
use Rattle.op_rules.specs.Partials.{Worth, nothing, plus, Partials, sum_of, worth_of}
use Rattle.op_rules.specs.Edges.{Meaning, bag, last_rows, partials, IsPartial, ReadsAs, Exchange, forward, hash, goes_by, belongs_by, IsUnique, IsApart, AreApartBy, IsKeyedBy}
use Rattle.op_rules.specs.Tasks.{total}
use Rattle.stream_model.proofs.Sums.{total-zero, total-sum, total-same, total_one, total_part, total_some, total_only, all-take, all-filter, filter_passes, all-weaker, cond_sum}
use Rattle.op_rules.proofs.laws.Worths.{same-true, agree, either, weigh-rows, about_addition, about_removal, restricted, sum_rows, copies-restricted, copies-sum, plus_nothing, plus_comm, plus_assoc, total_worth, worth-none, worth-total, worth-near}

-- what came to a port is what came from each subtask
pub weigh-at : (f : Change → ℕ) (p n : ℕ) (c : List Arrival) → AllByRecursion (λ x. x.from < n) c → weigh f (at_port p c) ≡ total n (λ i. weigh f (from_port p i c))
weigh-at f p n [] h = sym (total-zero n)
weigh-at f p n (x ∷ xs) h =
    elim (x.port == p) as (λ b. weigh f (cond b (x.change ∷ at_port p xs) (at_port p xs)) ≡ total n (λ i. weigh f (cond b (cond (x.from == i) (x.change ∷ from_port p i xs) (from_port p i xs)) (from_port p i xs)))) [
      | false ↦ weigh-at f p n xs h.1
      | true ↦
          ap (λ w. f x.change + w) (weigh-at f p n xs h.1)
          ∙ (ap (λ w. w + total n (λ i. weigh f (from_port p i xs))) (sym (total_one n x.from (f x.change) h.0))
          ∙ (sym (total-sum n (λ i. cond (x.from == i) (f x.change) 0) (λ i. weigh f (from_port p i xs)))
          ∙ total-same n _ _ (λ i l. elim (x.from == i) as (λ b. cond b (f x.change) 0 + weigh f (from_port p i xs) ≡ weigh f (cond b (x.change ∷ from_port p i xs) (from_port p i xs))) [ true ↦ refl | false ↦ omega arith ])))
    ]

pub sel_keep : (p i : ℕ) (c : List Arrival) (n : ℕ) → from_port p i (take n c) ≡ take (length (from_port p i (take n c))) (from_port p i c)
sel_keep p i c zero = refl
sel_keep p i [] (suc n) = refl
sel_keep p i (x ∷ xs) (suc n) =
    elim (x.port == p) as (λ b. cond b (cond (x.from == i) (x.change ∷ from_port p i (take n xs)) (from_port p i (take n xs))) (from_port p i (take n xs)) ≡ take (length (cond b (cond (x.from == i) (x.change ∷ from_port p i (take n xs)) (from_port p i (take n xs))) (from_port p i (take n xs)))) (cond b (cond (x.from == i) (x.change ∷ from_port p i xs) (from_port p i xs)) (from_port p i xs))) [
      | false ↦ sel_keep p i xs n
      | true ↦ elim (x.from == i) as (λ b. cond b (x.change ∷ from_port p i (take n xs)) (from_port p i (take n xs)) ≡ take (length (cond b (x.change ∷ from_port p i (take n xs)) (from_port p i (take n xs)))) (cond b (x.change ∷ from_port p i xs) (from_port p i xs))) [
        | true ↦ ap (λ r. x.change ∷ r) (sel_keep p i xs n)
        | false ↦ sel_keep p i xs n
      ]
    ]

-- each change that came to a port came from some subtask
pub all-at : (P : Change → Type 0) (p n : ℕ) (c : List Arrival) → AllByRecursion (λ x. x.from < n) c → ((i : ℕ) → i < n → AllByRecursion P (from_port p i c)) → AllByRecursion P (at_port p c)
all-at P p n [] b h = tt
all-at P p n (x ∷ xs) b h =
    elim (x.port == p) as (λ t. ((i : ℕ) → i < n → AllByRecursion P (cond t (cond (x.from == i) (x.change ∷ from_port p i xs) (from_port p i xs)) (from_port p i xs))) → AllByRecursion P (cond t (x.change ∷ at_port p xs) (at_port p xs))) [
      | false ↦ λ k. all-at P p n xs b.1 k
      | true ↦ λ k.
          let here : AllByRecursion P (x.change ∷ from_port p x.from xs) = subst (λ t. AllByRecursion P (cond t (x.change ∷ from_port p x.from xs) (from_port p x.from xs))) (eq-eqb x.from x.from refl) (k x.from b.0) in
          (here.0, all-at P p n xs b.1 (λ i l. elim (x.from == i) as (λ t. AllByRecursion P (cond t (x.change ∷ from_port p i xs) (from_port p i xs)) → AllByRecursion P (from_port p i xs)) [ true ↦ λ e. e.1 | false ↦ λ e. e ] (k i l)))
    ] h

pub le_of : (a b : ℕ) → a ≡ b → a ≤ b
le_of a b e = omega arith

differ : (b : Bool) → b ≡ not b → ⊥
differ true e = absurd (false≢true (sym e))
differ false e = absurd (false≢true e)

not_one : (b : Bool) → ◌≡◌ {A = ℕ} (cond b 1 0) 0 → b ≡ false
not_one true h = absurd (omega arith)
not_one false h = refl

is_one : (b : Bool) → 0 < cond {A = ℕ} b 1 0 → b ≡ true
is_one true h = refl
is_one false h = absurd (omega arith)

pub sel_past : (p n j : ℕ) (c : List Arrival) → AllByRecursion (λ x. x.from < n) c → n ≤ j → from_port p j c ≡ []
sel_past p n j [] h l = refl
sel_past p n j (x ∷ xs) h l =
    let e : eqb x.from j ≡ false = ne_eqb x.from j (λ e. omega (arith, h.0)) in
    rw e (rw (sel_past p n j xs h.1 l) (either (x.port == p) []))

pub all_one : {A : Type 0} (P : A → Type 0) (G : ℕ → List A) (i j : ℕ) → AllByRecursion P (G j) → AllByRecursion P (filter (λ x. i == j) (G i))
all_one P G i j h =
    elim (cases_eq i j) [
      | inl e ↦ all-filter P _ (G i) (subst (λ k. AllByRecursion P (G k)) (sym e) h)
      | inr d ↦ all-weaker _ P (λ x q. absurd (d (eqb-true i j q))) (filter (λ x. i == j) (G i)) (filter_passes (λ x. i == j) (G i))
    ]

-- what is said of each row of a list holds of a row that was added
pub mentioned : (Q : Row → Type 0) (r : Row) (l : List Change) → AllByRecursion (λ c. Q c.row) l → 0 < additions r l → Q r
mentioned Q r [] h l = absurd (omega arith)
mentioned Q r (x ∷ xs) h l =
    elim (cases_Bool (same_row r x.row)) [
      | inl e ↦ subst Q (sym (same-true r x.row e)) h.0
      | inr e ↦ mentioned Q r xs h.1 (omega (arith, about_addition r x e))
    ]

-- whether a change of the list has r's value of k
abbrev touches : List ℕ → Row → List Change → Bool
touches k r [] = false
touches k r (x ∷ xs) = agree k x.row r || touches k r xs

shown_untouched : (k : List ℕ) (r : Row) (a : ℕ) (l : List Change) → touches k r l ≡ false → last_shown k r a l ≡ a
shown_untouched k r a [] h = refl
shown_untouched k r a (x ∷ xs) h =
    let o = or_parts (agree k x.row r) (touches k r xs) h in
    rw (o.0) (shown_untouched k r a xs o.1)

-- a filter by what the key fixes
pub shown-filter : (k : List ℕ) (r : Row) (q : Row → Bool) → ((b : Row) → project k b ≡ project k r → q b ≡ q r) → (a : ℕ) (l : List Change) → last_shown k r a (filter (λ c. q c.row) l) ≡ cond (q r) (last_shown k r a l) a
shown-filter k r q h a [] = sym (either (q r) a)
shown-filter k r q h a (x ∷ xs) =
    let w : ℕ = cond (agree k x.row r) (addition r x) a in
    let kept : List Change = filter (λ c. q c.row) xs in
    let apart : q x.row ≡ not (q r) → w ≡ a = λ e. ap (λ b. cond b (addition r x) a) (false_from_ne_true (agree k x.row r) (λ y. differ (q r) (sym (h x.row (same-true _ _ y)) ∙ e))) in
    elim (q x.row) as (λ b. q x.row ≡ b → last_shown k r a (cond b (x ∷ kept) kept) ≡ cond (q r) (last_shown k r w xs) a) [
      | true ↦ λ e. shown-filter k r q h w xs ∙ elim (q r) as (λ d. (q x.row ≡ not d → w ≡ a) → cond d (last_shown k r w xs) w ≡ cond d (last_shown k r w xs) a) [ true ↦ λ f. refl | false ↦ λ f. f e ] apart
      | false ↦ λ e. shown-filter k r q h a xs ∙ elim (q r) as (λ d. (q x.row ≡ not d → w ≡ a) → cond d (last_shown k r a xs) a ≡ cond d (last_shown k r w xs) a) [ true ↦ λ f. ap (λ n. last_shown k r n xs) (sym (f e)) | false ↦ λ f. refl ] apart
    ] refl

-- a list that touches a key has a row with it
touched : (k : List ℕ) (r : Row) (Q : Row → Type 0) (l : List Change) → AllByRecursion (λ c. Q c.row) l → touches k r l ≡ true → (b : Row) × (project k b ≡ project k r) × Q b
touched k r Q [] h e = absurd (false≢true e)
touched k r Q (x ∷ xs) h e =
    elim (or_cases (agree k x.row r) (touches k r xs) e) [
      | inl y ↦ (x.row, same-true _ _ y, h.0)
      | inr y ↦ touched k r Q xs h.1 y
    ]

-- what came to a port shows what came from the one subtask that has the key
shown-at : (k : List ℕ) (r : Row) (p i : ℕ) (a : ℕ) (c : List Arrival) → ((j : ℕ) → (i ≡ j → ⊥) → touches k r (from_port p j c) ≡ false) → last_shown k r a (at_port p c) ≡ last_shown k r a (from_port p i c)
shown-at k r p i a [] h = refl
shown-at k r p i a (x ∷ xs) h =
    elim (x.port == p) as (λ b. ((j : ℕ) → (i ≡ j → ⊥) → touches k r (cond b (cond (x.from == j) (x.change ∷ from_port p j xs) (from_port p j xs)) (from_port p j xs)) ≡ false) → last_shown k r a (cond b (x.change ∷ at_port p xs) (at_port p xs)) ≡ last_shown k r a (cond b (cond (x.from == i) (x.change ∷ from_port p i xs) (from_port p i xs)) (from_port p i xs))) [
      | false ↦ λ h. shown-at k r p i a xs h
      | true ↦ λ h.
          let later : (j : ℕ) → (i ≡ j → ⊥) → touches k r (from_port p j xs) ≡ false = λ j d. elim (x.from == j) as (λ b. touches k r (cond b (x.change ∷ from_port p j xs) (from_port p j xs)) ≡ false → touches k r (from_port p j xs) ≡ false) [ true ↦ λ e. (or_parts (agree k x.change.row r) (touches k r (from_port p j xs)) e).1 | false ↦ λ e. e ] (h j d) in
          elim (cases_eq x.from i) [
            | inl e ↦ let q : eqb x.from i ≡ true = eq-eqb x.from i e in rw q (shown-at k r p i (cond (agree k x.change.row r) (addition r x.change) a) xs later)
            | inr d ↦
                let q : eqb x.from i ≡ false = ne_eqb x.from i d in
                let n : (agree k x.change.row r || touches k r (from_port p x.from xs)) ≡ false = subst (λ b. touches k r (cond b (x.change ∷ from_port p x.from xs) (from_port p x.from xs)) ≡ false) (eq-eqb x.from x.from refl) (h x.from (λ e. d (sym e))) in
                let z : agree k x.change.row r ≡ false = (or_parts (agree k x.change.row r) (touches k r (from_port p x.from xs)) n).0 in
                rw q (ap (λ b. last_shown k r (cond b (addition r x.change) a) (at_port p xs)) z ∙ shown-at k r p i a xs later)
          ]
    ] h

-- as above, the other subtasks show nothing
pub shown-sum : (k : List ℕ) (r : Row) (p n : ℕ) → 0 < n → (c : List Arrival) → AllByRecursion (λ x. x.from < n) c → IsApart k n (λ i. from_port p i c) → last_shown k r 0 (at_port p c) ≡ total n (λ i. last_shown k r 0 (from_port p i c))
shown-sum k r p n some c within apart =
    elim (cases_eq (total n (λ i. cond (touches k r (from_port p i c)) 1 0)) 0) [
      | inl z ↦
          let none : (i : ℕ) → i < n → touches k r (from_port p i c) ≡ false = λ i l. not_one _ (omega (arith, total_part n i (λ i. cond (touches k r (from_port p i c)) 1 0) l)) in
          shown-at k r p 0 0 c (λ j d. elim (cases_lt j n) [ inl l ↦ none j l | inr l ↦ rw (sel_past p n j c within l) refl ])
          ∙ sym (total_only n 0 (λ i. last_shown k r 0 (from_port p i c)) some (λ i l pos. absurd (omega (arith, shown_untouched k r 0 (from_port p i c) (none i l)))))
      | inr d ↦
          let i = total_some n (λ i. cond (touches k r (from_port p i c)) 1 0) (omega arith) in
          let there : touches k r (from_port p i.0 c) ≡ true = is_one _ i.2 in
          let none : (j : ℕ) → (i.0 ≡ j → ⊥) → touches k r (from_port p j c) ≡ false = λ j ne.
          elim (cases_lt j n) [
            | inr l ↦ rw (sel_past p n j c within l) refl
            | inl l ↦ false_from_ne_true _ (λ y.
                let b = touched k r (λ a. (s : Row) → project k s ≡ project k r → project k a ≡ project k s → i.0 ≡ j) (from_port p i.0 c)
                (all-weaker _ _ (λ x h s e1 e2.
                let w = touched k r (λ s. project k x.row ≡ project k s → i.0 ≡ j) (from_port p j c) h y in
                w.2 (e2 ∙ (e1 ∙ sym w.1))) (from_port p i.0 c) (apart i.0 j i.1 l)) there in
                ne (b.2 r refl b.1))
          ] in
          shown-at k r p i.0 0 c none
          ∙ sym (total_only n i.0 (λ i. last_shown k r 0 (from_port p i c)) i.1 (λ j l pos. elim (cases_eq i.0 j) [ inl e ↦ e | inr ne ↦ absurd (omega (arith, shown_untouched k r 0 (from_port p j c) (none j ne))) ]))
    ]

-- what is said of each row of a list holds of a row that a fold has
shown_mentioned : (k : List ℕ) (Q : Row → Type 0) (r : Row) (a : ℕ) (l : List Change) → AllByRecursion (λ c. Q c.row) l → 0 < last_shown k r a l → (0 < a → Q r) → Q r
shown_mentioned k Q r a [] h l z = z l
shown_mentioned k Q r a (x ∷ xs) h l z =
    shown_mentioned k Q r (cond (agree k x.row r) (addition r x) a) xs h.1 l
    (elim (agree k x.row r) as (λ b. 0 < cond b (addition r x) a → Q r) [
      | true ↦ λ pos. mentioned Q r (x ∷ []) (h.0, tt) (omega arith)
      | false ↦ z
    ])

-- what is said of each row of a list holds of a row of its bag
pub means_mentioned : (m : Meaning) (Q : Row → Type 0) (r : Row) (l : List Change) (b : Rows) → ReadsAs m l b → AllByRecursion (λ c. Q c.row) l → 0 < copies b r → Q r ⊎ IsPartial m
means_mentioned bag Q r l b h e pos = inl (mentioned Q r l e (omega (arith, h r)))
means_mentioned (last_rows k) Q r l b h e pos = inl (shown_mentioned k Q r 0 l e (omega (arith, h r)) (λ z. absurd (omega arith)))
means_mentioned (partials o) Q r l b h e pos = inr tt

-- a list stands for one bag
pub means_same : (m : Meaning) (l : List Change) (a b : Rows) → ReadsAs m l a → ReadsAs m l b → ((r : Row) → copies a r ≡ copies b r) ⊎ IsPartial m
means_same bag l a b h k = inl (λ r. omega (arith, h r, k r))
means_same (last_rows s) l a b h k = inl (λ r. h r ∙ sym (k r))
means_same (partials o) l a b h q = inr tt

total_worth-none : (n : ℕ) → total_worth n (λ i. nothing) ≡ nothing
total_worth-none zero = refl
total_worth-none (suc n) = plus_nothing (total_worth n (λ i. nothing)) ∙ total_worth-none n

total_worth-same : (n : ℕ) (f g : ℕ → Worth) → ((i : ℕ) → i < n → f i ≡ g i) → total_worth n f ≡ total_worth n g
total_worth-same zero f g h = refl
total_worth-same (suc n) f g h = ap (λ a. plus a (f n)) (total_worth-same n f g (λ i l. h i (omega arith))) ∙ ap (plus (total_worth n g)) (h n (omega arith))

-- w more at one place
total_worth-past : (n a : ℕ) (w : Worth) (f : ℕ → Worth) → n ≤ a → total_worth n (λ i. cond (eqb a i) (plus w (f i)) (f i)) ≡ total_worth n f
total_worth-past n a w f l = total_worth-same n _ f (λ i il. let q : eqb a i ≡ false = ne_eqb a i (λ e. omega arith) in rw q refl)

total_worth-one : (n a : ℕ) (w : Worth) (f : ℕ → Worth) → a < n → total_worth n (λ i. cond (eqb a i) (plus w (f i)) (f i)) ≡ plus w (total_worth n f)
total_worth-one zero a w f l = absurd (omega arith)
total_worth-one (suc n) a w f l =
    elim (cases_eq a n) [
      | inl e ↦
          let q : cond (eqb a n) (plus w (f n)) (f n) ≡ plus w (f n) = ap (λ b. cond b (plus w (f n)) (f n)) (eq-eqb a n e) in
          ap (plus (total_worth n (λ i. cond (eqb a i) (plus w (f i)) (f i)))) q
          ∙ (ap (λ x. plus x (plus w (f n))) (total_worth-past n a w f (omega arith)) ∙ (sym (plus_assoc (total_worth n f) w (f n)) ∙ (ap (λ x. plus x (f n)) (plus_comm (total_worth n f) w) ∙ plus_assoc w (total_worth n f) (f n))))
      | inr d ↦
          let q : cond (eqb a n) (plus w (f n)) (f n) ≡ f n = ap (λ b. cond b (plus w (f n)) (f n)) (ne_eqb a n d) in
          ap (plus (total_worth n (λ i. cond (eqb a i) (plus w (f i)) (f i)))) q
          ∙ (ap (λ x. plus x (f n)) (total_worth-one n a w f (omega arith)) ∙ plus_assoc w (total_worth n f) (f n))
    ]

sum_of-at : (o : Partials) (r : Row) (p n : ℕ) (c : List Arrival) → AllByRecursion (λ x. x.from < n) c → sum_of o r (at_port p c) ≡ total_worth n (λ i. sum_of o r (from_port p i c))
sum_of-at o r p n [] h = sym (total_worth-none n)
sum_of-at o r p n (x ∷ xs) h =
    elim (x.port == p) as (λ b. sum_of o r (cond b (x.change ∷ at_port p xs) (at_port p xs)) ≡ total_worth n (λ i. sum_of o r (cond b (cond (x.from == i) (x.change ∷ from_port p i xs) (from_port p i xs)) (from_port p i xs)))) [
      | false ↦ sum_of-at o r p n xs h.1
      | true ↦
          elim (cases_Bool (agree o.own x.change.row r)) [
            | inl e ↦
                ap (λ b. cond b (plus (o.worth x.change.row) (sum_of o r (at_port p xs))) (sum_of o r (at_port p xs))) e
                ∙ (ap (plus (o.worth x.change.row)) (sum_of-at o r p n xs h.1)
                ∙ (sym (total_worth-one n x.from (o.worth x.change.row) (λ i. sum_of o r (from_port p i xs)) h.0)
                ∙ total_worth-same n _ _ (λ i l. elim (x.from == i) as (λ b. cond b (plus (o.worth x.change.row) (sum_of o r (from_port p i xs))) (sum_of o r (from_port p i xs)) ≡ sum_of o r (cond b (x.change ∷ from_port p i xs) (from_port p i xs))) [ true ↦ sym (ap (λ b. cond b (plus (o.worth x.change.row) (sum_of o r (from_port p i xs))) (sum_of o r (from_port p i xs))) e) | false ↦ refl ])))
            | inr e ↦
                ap (λ b. cond b (plus (o.worth x.change.row) (sum_of o r (at_port p xs))) (sum_of o r (at_port p xs))) e
                ∙ (sum_of-at o r p n xs h.1
                ∙ total_worth-same n _ _ (λ i l. elim (x.from == i) as (λ b. sum_of o r (from_port p i xs) ≡ sum_of o r (cond b (x.change ∷ from_port p i xs) (from_port p i xs))) [ true ↦ sym (ap (λ b. cond b (plus (o.worth x.change.row) (sum_of o r (from_port p i xs))) (sum_of o r (from_port p i xs))) e) | false ↦ refl ]))
          ]
    ]

sum_of-filter : (o : Partials) (r : Row) (q : Row → Bool) → ((b : Row) → project o.own b ≡ project o.own r → q b ≡ q r) → (l : List Change) → sum_of o r (filter (λ c. q c.row) l) ≡ cond (q r) (sum_of o r l) nothing
sum_of-filter o r q h [] = sym (either (q r) nothing)
sum_of-filter o r q h (x ∷ xs) =
    elim (cases_Bool (agree o.own x.row r)) [
      | inl e ↦
          ap (λ b. sum_of o r (cond b (x ∷ filter (λ c. q c.row) xs) (filter (λ c. q c.row) xs))) (h x.row (same-true _ _ e))
          ∙ elim (q r) as (λ d. sum_of o r (filter (λ c. q c.row) xs) ≡ cond d (sum_of o r xs) nothing → sum_of o r (cond d (x ∷ filter (λ c. q c.row) xs) (filter (λ c. q c.row) xs)) ≡ cond d (sum_of o r (x ∷ xs)) nothing) [
            | true ↦ λ ih. ap (λ s. cond (agree o.own x.row r) (plus (o.worth x.row) s) s) ih
            | false ↦ λ ih. ih
          ] (sum_of-filter o r q h xs)
      | inr e ↦
          let out : (l : List Change) → sum_of o r (x ∷ l) ≡ sum_of o r l = λ l. ap (λ b. cond b (plus (o.worth x.row) (sum_of o r l)) (sum_of o r l)) e in
          elim (q x.row) as (λ d. sum_of o r (cond d (x ∷ filter (λ c. q c.row) xs) (filter (λ c. q c.row) xs)) ≡ sum_of o r (filter (λ c. q c.row) xs)) [ true ↦ out (filter (λ c. q c.row) xs) | false ↦ refl ]
          ∙ (sum_of-filter o r q h xs ∙ ap (λ s. cond (q r) s nothing) (sym (out xs)))
    ]

-- the worth of the rows that belong to one subtask
worth_cond : (o : Partials) (route : Row → ℕ) (b : Rows) (j : ℕ) (r : Row) → worth_of o r (restricted (λ s. route (project o.group s) == j) b) ≡ cond (route (project o.own r) == j) (worth_of o r b) nothing
worth_cond o route b j r =
    elim (cases_Bool (route (project o.own r) == j)) [
      | inl e ↦ rw e (worth-near o r _ b (λ s q. copies-restricted (λ s. route (project o.group s) == j) b s ∙ (ap (λ c. cond (route c == j) (copies b s) 0) q ∙ ap (λ d. cond d (copies b s) 0) e)))
      | inr e ↦ rw e (worth-near o r _ none (λ s q. copies-restricted (λ s. route (project o.group s) == j) b s ∙ (ap (λ c. cond (route c == j) (copies b s) 0) q ∙ (ap (λ d. cond d (copies b s) 0) e ∙ sym (copies-none row_total s)))) ∙ worth-none o r)
    ]

pub IsApart-front : (d : List ℕ) (n : ℕ) (f : ℕ → List Change) (m : ℕ → ℕ) → IsApart d n f → IsApart d n (λ i. take (m i) (f i))
IsApart-front d n f m h i j il jl = all-take _ (m i) (f i) (all-weaker _ _ (λ x q. all-take _ (m j) (f j) q) (f i) (h i j il jl))

pub IsUnique-below : (k : List ℕ) (a b : Row → ℕ) → ((r : Row) → a r ≤ b r) → IsUnique k b → IsUnique k a
IsUnique-below k a b le u r s e x y =
    let w = u r s e (omega (arith, le r)) (omega (arith, le s)) in (w.0, omega (arith, w.1, le r))

-- what came to a port, where of each subtask a list G i came by exchange
module _ (many : ℕ) (e : Exchange) (route : Row → ℕ) (p j : ℕ) (j_in : j < many) (c : List Arrival) (within : AllByRecursion (λ x. x.from < many) c) (G : ℕ → List Change) (came : (i : ℕ) → i < many → from_port p i c ≡ filter (λ x. goes_by e route i j x.row) (G i)) where
  pub weigh_came : (r : Row) (f : Change → ℕ) → ((x : Change) → same_row r x.row ≡ false → f x ≡ 0) → weigh f (at_port p c) ≡ total many (λ i. cond (goes_by e route i j r) (weigh f (G i)) 0)
  weigh_came r f a =
      weigh-at f p many c within
      ∙ total-same many _ _ (λ i l. ap (weigh f) (came i l) ∙ weigh-rows (λ x. x.row) r f a (λ r. goes_by e route i j r) (G i))

  goes_with : (e : Exchange) (k : List ℕ) → IsKeyedBy (last_rows k) e → (i : ℕ) (a b : Row) → project k a ≡ project k b → goes_by e route i j a ≡ goes_by e route i j b
  goes_with forward k h i a b q = refl
  goes_with (hash s) k h i a b q = ap (λ n. route n == j) (h a b q)

  -- the bag of what came to a port, from the bags of what each subtask sent here
  abbrev pub came_bag : Meaning → (ℕ → Rows) → Rows
  came_bag m b = sum_rows many (λ i. restricted (belongs_by m e route i j) (b i))

  pub copies_came : (m : Meaning) (b : ℕ → Rows) (r : Row) → copies (came_bag m b) r ≡ total many (λ i. cond (belongs_by m e route i j r) (copies (b i) r) 0)
  copies_came m b r = copies-sum many (λ i. restricted (belongs_by m e route i j) (b i)) r ∙ total-same many _ _ (λ i l. copies-restricted (belongs_by m e route i j) (b i) r)

  pub means_came : (m : Meaning) → IsKeyedBy m e → AreApartBy m many G → (b : ℕ → Rows) → ((i : ℕ) → i < many → ReadsAs m (G i) (b i)) → ReadsAs m (at_port p c) (came_bag m b)
  means_came bag h ok b means = λ r.
      let split = total-same many (λ i. cond (goes_by e route i j r) (additions r (G i)) 0) (λ i. cond (goes_by e route i j r) (removals r (G i)) 0 + cond (goes_by e route i j r) (copies (b i) r) 0) (λ i l. cond_sum (goes_by e route i j r) _ _ _ (means i l r)) in
      let sums = total-sum many (λ i. cond (goes_by e route i j r) (removals r (G i)) 0) (λ i. cond (goes_by e route i j r) (copies (b i) r) 0) in
      omega (arith, split, sums, copies_came bag b r, weigh_came r (addition r) (about_addition r), weigh_came r (removal r) (about_removal r))
  means_came (last_rows k) h ok b means = λ r.
      copies_came (last_rows k) b r
      ∙ sym (shown-sum k r p many (omega arith) c within
      (λ i l il ll. subst (λ xs. AllByRecursion (λ a. AllByRecursion (λ b. project k a.row ≡ project k b.row → i ≡ l) (from_port p l c)) xs) (sym (came i il))
      (all-filter _ _ (G i) (all-weaker _ _ (λ x q. subst (AllByRecursion _) (sym (came l ll)) (all-filter _ _ (G l) q)) (G i) (ok i l il ll))))
      ∙ total-same many _ _ (λ i l. ap (last_shown k r 0) (came i l) ∙ (shown-filter k r (λ b. goes_by e route i j b) (λ b q. goes_with e k h i b r q) 0 (G i) ∙ ap (λ n. cond (goes_by e route i j r) n 0) (sym (means i l r)))))
  means_came (partials o) h ok b means = record {
    holds = λ r some.
        let from = total_some many (λ i. cond (belongs_by (partials o) e route i j r) (copies (b i) r) 0) (let n = copies_came (partials o) b r in omega arith) in
        (means from.0 from.1).holds r (passed (belongs_by (partials o) e route from.0 j r) (copies (b from.0) r) from.2);
    worth = λ r.
        sum_of-at o r p many c within
        ∙ (total_worth-same many _ _ (λ i l.
        ap (sum_of o r) (came i l)
        ∙ (of_partial o e h i r (G i)
        ∙ (ap (λ a. cond (route (project o.own r) == j) a nothing) ((means i l).worth r)
        ∙ sym (worth_cond o route (b i) j r))))
        ∙ sym (worth-total o r many (λ i. restricted (λ s. route (project o.group s) == j) (b i))));
  }
    where
      passed : (t : Bool) (n : ℕ) → 0 < cond t n 0 → 0 < n
      passed true n l = l
      passed false n l = absurd (omega (arith, l))

      of_partial : (o : Partials) (e : Exchange) → IsKeyedBy (partials o) e → (i : ℕ) (r : Row) (l : List Change) → sum_of o r (filter (λ x. goes_by e route i j x.row) l) ≡ cond (route (project o.own r) == j) (sum_of o r l) nothing
      of_partial o forward h i r l = absurd h
      of_partial o (hash s) h i r l =
          rw h (sum_of-filter o r (λ x. route (project o.own x) == j) (λ b q. ap (λ n. route n == j) q) l)
