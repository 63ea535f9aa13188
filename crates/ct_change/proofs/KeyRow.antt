-- The columns of a key one by one, and the values of a key row one by one.
use Rattle.std.proofs.Common.{◌≡◌, ℕ, zero, suc, ◌+◌, ◌≤◌, ◌<◌, ◌==◌, Bool, true, false, cond, ◌||◌, List, [], ◌∷◌, ◌++◌, length, take, get_or, set, refl, sym, ap, ◌∙◌, arith}
use Rattle.std.proofs.lemmas.Bool.{eqb-true, eqb-false}
use Rattle.std.proofs.lemmas.List.{get_or-set_same, get_or-set_other, length-append}
use Rattle.ct_value.specs.declared.value.Value.{Value}
use Rattle.ct_value.specs.declared.value.Value.TheVariants.{Null}
use Rattle.ct_change.specs.KeyRows.{is_among, keyed_from}

or-false : (a b : Bool) → (a || (b || false)) ≡ (a || b)
or-false true b = refl
or-false false true = refl
or-false false false = refl

or-assoc : (a b c : Bool) → (a || (b || c)) ≡ ((a || b) || c)
or-assoc true b c = refl
or-assoc false b c = refl

-- one column more
among-more : (key : List ℕ) (i c : ℕ) → i < length key → is_among (take (suc i) key) c ≡ (is_among (take i key) c || (get_or key i 0 == c))
among-more [] i c l = absurd (omega arith)
among-more (k ∷ key) zero c l = or-false false (k == c)
among-more (k ∷ key) (suc i) c l = ap (λ b. (k == c) || b) (among-more key i c (omega arith)) ∙ or-assoc (k == c) (is_among (take i key) c) (get_or key i 0 == c)

-- the marks of a key's first columns
abbrev pub AreMarks : List Bool → ℕ → List ℕ → Type 0
AreMarks marks count key = (c : ℕ) → c < count → get_or marks c false ≡ is_among key c

or-right : (a : Bool) → (a || true) ≡ true
or-right true = refl
or-right false = refl

or-none : (a : Bool) → (a || false) ≡ a
or-none true = refl
or-none false = refl

-- with one column more, which is there or isn't
pub marks-set : (marks : List Bool) (count : ℕ) (key : List ℕ) (i : ℕ) → i < length key → length marks ≡ count → get_or key i 0 < count → AreMarks marks count (take i key) → AreMarks (set marks (get_or key i 0) true) count (take (suc i) key)
marks-set marks count key i l long within are c below =
    elim (get_or key i 0 == c) as (λ b. (get_or key i 0 == c) ≡ b → get_or (set marks (get_or key i 0) true) c false ≡ is_among (take (suc i) key) c) [
      | true ↦ λ e.
          let same : get_or key i 0 ≡ c = eqb-true (get_or key i 0) c e in
          ap (λ n. get_or (set marks (get_or key i 0) true) n false) (sym same) ∙ get_or-set_same marks (get_or key i 0) true false (omega arith)
          ∙ sym (among-more key i c l ∙ ap (λ b. is_among (take i key) c || b) e ∙ or-right (is_among (take i key) c))
      | false ↦ λ e.
          let apart = eqb-false (get_or key i 0) c e in
          get_or-set_other marks (get_or key i 0) c true false (λ h. apart (sym h)) ∙ are c below
          ∙ sym (among-more key i c l ∙ ap (λ b. is_among (take i key) c || b) e ∙ or-none (is_among (take i key) c))
    ] refl

pub marks-past : (marks : List Bool) (count : ℕ) (key : List ℕ) (i : ℕ) → i < length key → (get_or key i 0 < count → ⊥) → AreMarks marks count (take i key) → AreMarks marks count (take (suc i) key)
marks-past marks count key i l past are c below =
    let apart : (get_or key i 0 == c) ≡ false = elim (get_or key i 0 == c) as (λ b. (get_or key i 0 == c) ≡ b → b ≡ false) [
      | true ↦ λ e. absurd (let same = eqb-true (get_or key i 0) c e in past (omega arith))
      | false ↦ λ e. refl
    ] refl in
    are c below ∙ sym (among-more key i c l ∙ ap (λ b. is_among (take i key) c || b) apart ∙ or-none (is_among (take i key) c))

-- one value more
keyed-more : (key : List ℕ) (from : ℕ) (row : List Value) (n : ℕ) → n < length row → keyed_from key from (take (suc n) row) ≡ keyed_from key from (take n row) ++ cond (is_among key (from + n)) (get_or row n Null) Null ∷ []
keyed-more key from [] n l = absurd (omega arith)
keyed-more key from (v ∷ vs) zero l = let e : from ≡ from + 0 = omega arith in ap (λ m. cond (is_among key m) v Null ∷ []) e
keyed-more key from (v ∷ vs) (suc n) l =
    let e : suc from + n ≡ from + suc n = omega arith in
    ap (λ xs. cond (is_among key from) v Null ∷ xs) (keyed-more key (suc from) vs n (omega arith) ∙ ap (λ m. keyed_from key (suc from) (take n vs) ++ cond (is_among key m) (get_or vs n Null) Null ∷ []) e)

pub key_row-more : (key : List ℕ) (row : List Value) (n : ℕ) (b : Bool) → n < length row → b ≡ is_among key n → keyed_from key 0 (take (suc n) row) ≡ keyed_from key 0 (take n row) ++ cond b (get_or row n Null) Null ∷ []
key_row-more key row n b l is =
    let e : 0 + n ≡ n = omega arith in
    keyed-more key 0 row n l ∙ ap (λ m. keyed_from key 0 (take n row) ++ cond (is_among key m) (get_or row n Null) Null ∷ []) e ∙ ap (λ t. keyed_from key 0 (take n row) ++ cond t (get_or row n Null) Null ∷ []) (sym is)

-- one more turn of the loop
pub next_value : (key : List ℕ) (cells values longer : List Value) (marks : List Bool) (value : Value) → values ≡ keyed_from key 0 (take (length values) cells) → length values < length cells
    → get_or marks (length values) false ≡ is_among key (length values) → value ≡ cond (get_or marks (length values) false) (get_or cells (length values) Null) Null → longer ≡ values ++ value ∷ []
    → (length longer ≤ length cells) × (longer ≡ keyed_from key 0 (take (length longer) cells))
next_value key cells values longer marks value made within marked is grown =
    let more = key_row-more key cells (length values) (get_or marks (length values) false) within marked in
    let long : length longer ≡ suc (length values) = ap length grown ∙ (let e = length-append values (value ∷ []) in omega arith) in (
      omega arith,
      grown ∙ (λ i. made i ++ is i ∷ []) ∙ sym more ∙ ap (λ n. keyed_from key 0 (take n cells)) (sym long),
    )
