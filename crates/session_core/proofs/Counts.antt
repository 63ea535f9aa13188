-- How many changes were taken of each table.
use Rattle.std.proofs.Common.{◌≡◌, ℕ, zero, suc, ◌+◌, ◌<◌, ◌≤◌, nat_lt, Bool, true, false, cond, List, [], ◌∷◌, ◌++◌, length, get_or, set, slice_get, Some, None, refl, sym, ap, subst, ◌∙◌, arith, inl, inr, eqb}
use Rattle.std.proofs.lemmas.Bool.{cases_eq, cases_lt, eq-eqb, ne_eqb, lt-ltb, le-ltb}
use Rattle.std.proofs.lemmas.List.{length-append, get_or_append_left, set-append_left}
use Rattle.std.proofs.lemmas.Option.{slice_get-get_or, slice_get_past}
use Rattle.std.proofs.Math.Seq.{get_or-append_seam, set-append_seam}
use Rattle.ct_change.specs.declared.change.Change.{Change}
use Rattle.stream_model.specs.Runs.{counts_below}
use Rattle.session_core.specs.Sources.{taken_after}

pub counts_many : (taken : ℕ → List Change) (n : ℕ) → length (counts_below taken n) ≡ n
counts_many taken zero = refl
counts_many taken (suc n) = let before = counts_many taken n in omega (arith, before, length-append (counts_below taken n) (length (taken n) ∷ []))

-- the count of a table
pub count_at : (taken : ℕ → List Change) (n table : ℕ) → table < n → get_or (counts_below taken n) table 0 ≡ length (taken table)
count_at taken zero table l = absurd (omega (arith, l))
count_at taken (suc n) table l =
    let many = counts_many taken n in
    elim (cases_eq table n) [
      | inl same ↦ subst (λ (k : ℕ). get_or (counts_below taken (suc n)) k 0 ≡ length (taken k)) (sym same)
          (subst (λ (k : ℕ). get_or (counts_below taken (suc n)) k 0 ≡ length (taken n)) many (get_or-append_seam (counts_below taken n) (length (taken n)) [] 0))
      | inr other ↦
          let less : table < n = omega (arith, l, other) in
          get_or_append_left (counts_below taken n) (length (taken n) ∷ []) 0 table (omega (arith, many, less)) ∙ count_at taken n table less
    ]

-- and none where there is no such table
pub count_in : (taken : ℕ → List Change) (n table : ℕ) → slice_get (counts_below taken n) table ≡ cond (nat_lt table n) (Some (length (taken table))) None
count_in taken n table =
    let many = counts_many taken n in
    elim (cases_lt table n) [
      | inl l ↦ slice_get-get_or (counts_below taken n) table 0 (omega (arith, many, l)) ∙ (ap Some (count_at taken n table l) ∙ sym (ap (λ b. cond b (Some (length (taken table))) None) (lt-ltb table n l)))
      | inr past ↦ slice_get_past (counts_below taken n) table (omega (arith, many, past)) ∙ sym (ap (λ b. cond b (Some (length (taken table))) None) (le-ltb table n past))
    ]

-- ---- one change more

module _ (taken : ℕ → List Change) (table : ℕ) (change : Change) where
  abbrev more : ℕ → List Change
  more = taken_after taken table change

  longer_here : length (more table) ≡ length (taken table) + 1
  longer_here = ap (λ (b : Bool). length (cond b (taken table ++ change ∷ []) (taken table))) (let q : eqb table table ≡ true = eq-eqb table table refl in q) ∙ length-append (taken table) (change ∷ [])

  same_there : (t : ℕ) → (t ≡ table → ⊥) → length (more t) ≡ length (taken t)
  same_there t off = ap (λ (b : Bool). length (cond b (taken t ++ change ∷ []) (taken t))) (let q : eqb t table ≡ false = ne_eqb t table off in q)

  same_below : (n : ℕ) → n ≤ table → counts_below more n ≡ counts_below taken n
  same_below zero le = refl
  same_below (suc n) le =
      ap (λ (l : List ℕ). l ++ length (more n) ∷ []) (same_below n (omega (arith, le)))
      ∙ ap (λ (k : ℕ). counts_below taken n ++ k ∷ []) (same_there n (λ e. omega (arith, le, e)))

  counts_on : (n : ℕ) → table < n → set (counts_below taken n) table (length (taken table) + 1) ≡ counts_below more n
  counts_on zero l = absurd (omega (arith, l))
  counts_on (suc n) l =
      let many = counts_many taken n in
      let value : ℕ = length (taken table) + 1 in
      elim (cases_eq table n) [
        | inl same ↦
            let here : set (counts_below taken (suc n)) table value ≡ counts_below taken n ++ value ∷ [] = ap (λ (k : ℕ). set (counts_below taken (suc n)) k value) (same ∙ sym many) ∙ set-append_seam (counts_below taken n) (length (taken n)) [] value in
            here
            ∙ (ap (λ (l : List ℕ). l ++ value ∷ []) (sym (same_below n (omega (arith, same))))
            ∙ ap (λ (k : ℕ). counts_below more n ++ k ∷ []) (sym (ap (λ (t : ℕ). length (more t)) (sym same) ∙ longer_here)))
        | inr other ↦
            let less : table < n = omega (arith, l, other) in
            set-append_left (counts_below taken n) (length (taken n) ∷ []) table value (omega (arith, many, less))
            ∙ (ap (λ (l : List ℕ). l ++ length (taken n) ∷ []) (counts_on n less)
            ∙ ap (λ (k : ℕ). counts_below more n ++ k ∷ []) (sym (same_there n (λ e. other (sym e)))))
      ]

-- the count of its table is one more
pub one_taken : (taken : ℕ → List Change) (n table : ℕ) (change : Change) → table < n → set (counts_below taken n) table (get_or (counts_below taken n) table 0 + 1) ≡ counts_below (taken_after taken table change) n
one_taken taken n table change l = ap (λ (k : ℕ). set (counts_below taken n) table (k + 1)) (count_at taken n table l) ∙ counts_on taken table change n l

-- of no table more changes were taken than of all
pub shares_on : (taken : ℕ → List Change) (all table : ℕ) (change : Change) → ((t : ℕ) → length (taken t) ≤ all) → (t : ℕ) → length (taken_after taken table change t) ≤ all + 1
shares_on taken all table change few t =
    let before = few t in
    elim (cases_eq t table) [
      | inl same ↦ let here = few table in subst (λ (k : ℕ). length (taken_after taken table change k) ≤ all + 1) (sym same) (omega (arith, here, longer_here taken table change))
      | inr off ↦ omega (arith, before, same_there taken table change t off)
    ]
