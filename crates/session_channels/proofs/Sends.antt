-- Changes that are sent one by one are sent together.
use Rattle.std.proofs.Common.{◌≡◌, ℕ, ◌<◌, ◌==◌, ◌&&◌, Bool, true, false, cond, List, [], ◌∷◌, ◌++◌, refl, sym, ap, subst, ◌∙◌, inl, inr, ◌⊎◌, eqb}
use Rattle.std.specs.List.{filter}
use Rattle.std.proofs.lemmas.List.{append_assoc, append-nil}
use Rattle.std.proofs.lemmas.List.Elements.{filter-append}
use Rattle.std.proofs.lemmas.Bool.{cases_eq, eq-eqb, ne_eqb, and_from, false≢true}
use Rattle.ct_change.specs.declared.change.Change.{Change}
use Rattle.op_rules.specs.Edges.{Edge, goes}
use Rattle.stream_model.specs.Machine as machine
use Rattle.session_channels.specs.declared.channels.Channels.{Channels}
use Rattle.session_channels.specs.Lanes.{flight_in, put}
use Rattle.session_channels.specs.Sending.{Carry, sent_by}
use Rattle.session_channels.proofs.Lanes.{here_or_there, put_here}

-- at the place, or the test is false
pub at_or_off : (m v k j : ℕ) → ((m ≡ v) × (k ≡ j)) ⊎ (((m == v) && (k == j)) ≡ false)
at_or_off m v k j =
    elim (cases_eq m v) [
      | inl e ↦ elim (cases_eq k j) [
        | inl f ↦ inl (e, f)
        | inr f ↦ inr (let q : eqb m v ≡ true = eq-eqb m v e in let r : eqb k j ≡ false = ne_eqb k j f in rw (q, r) refl)
      ]
      | inr e ↦ inr (let q : eqb m v ≡ false = ne_eqb m v e in rw q refl)
    ]

-- a function changed at a place, there and elsewhere
pub at_put : {A : Type 0} (f : ℕ → ℕ → A) (v i : ℕ) (x : A) → machine.put f v i x v i ≡ x
at_put f v i x =
    let a : eqb v v ≡ true = eq-eqb v v refl in
    let b : eqb i i ≡ true = eq-eqb i i refl in
    rw (a, b) refl

module _ (of : Edge) (flight : ℕ → ℕ → ℕ → List Change) (v i : ℕ) where
  -- nothing sent
  pub sent_none : (m k n : ℕ) → sent_by of flight v i [] m k n ≡ flight m k n
  sent_none m k n = elim (at_or_off m v k i) [
    | inl e ↦ let a : eqb v v ≡ true = eq-eqb v v refl in let b : eqb i i ≡ true = eq-eqb i i refl in rw (e.0, e.1, a, b) (append-nil (flight v i n))
    | inr f ↦ rw f refl
  ]

  module _ (xs : List Change) (change : Change) (to : ℕ) (told : (j : ℕ) → goes of i j change.row ≡ (to == j)) where
    abbrev q : ℕ → Change → Bool
    q n c = goes of i n c.row

    abbrev after : ℕ → ℕ → ℕ → List Change
    after = sent_by of flight v i xs

    one_here : filter (q to) (change ∷ []) ≡ change ∷ []
    one_here = let h : q to change ≡ true = told to ∙ eq-eqb to to refl in rw h refl

    none_there : (n : ℕ) → (n ≡ to → ⊥) → filter (q n) (change ∷ []) ≡ []
    none_there n off = let h : q n change ≡ false = told n ∙ ne_eqb to n (λ e. off (sym e)) in rw h refl

    -- one change more
    pub sent_more : (m k n : ℕ) → put after v i to (after v i to ++ change ∷ []) m k n ≡ sent_by of flight v i (xs ++ change ∷ []) m k n
    sent_more m k n =
        elim (at_or_off m v k i) [
          | inl e ↦ elim (cases_eq n to) [
            | inl f ↦
                rw (e.0, e.1, f) (put_here after v i to (after v i to ++ change ∷ [])
                ∙ (let a : eqb v v ≡ true = eq-eqb v v refl in let b : eqb i i ≡ true = eq-eqb i i refl in
                rw (a, b) (append_assoc (flight v i to) (filter (q to) xs) (change ∷ []) ∙ ap (λ l. flight v i to ++ l) (ap (λ l. filter (q to) xs ++ l) (sym one_here) ∙ sym (filter-append (q to) xs (change ∷ []))))))
            | inr f ↦
                let d : eqb n to ≡ false = ne_eqb n to f in
                let a : eqb v v ≡ true = eq-eqb v v refl in let b : eqb i i ≡ true = eq-eqb i i refl in
                rw (e.0, e.1, a, b, d) (ap (λ l. flight v i n ++ l) (sym (filter-append (q n) xs (change ∷ []) ∙ (ap (λ l. filter (q n) xs ++ l) (none_there n f) ∙ append-nil (filter (q n) xs)))))
          ]
          | inr f ↦ elim (here_or_there m v k i n to) [
            | inl e ↦ absurd (false≢true (sym f ∙ and_from (m == v) (k == i) (eq-eqb m v e.0) (eq-eqb k i e.1)))
            | inr g ↦ rw (g, f) refl
          ]
        ]

-- a change at one place of equal functions
pub put_same : {A : Type 0} (f g : ℕ → ℕ → ℕ → A) (e i j : ℕ) (x y : A) (m k n : ℕ) → f m k n ≡ g m k n → x ≡ y → put f e i j x m k n ≡ put g e i j y m k n
put_same f g e i j x y m k n same value = ap (λ z. cond ((m == e) && ((k == i) && (n == j))) z (f m k n)) value ∙ ap (λ z. cond ((m == e) && ((k == i) && (n == j))) y z) same

-- the channels hold one change more
pub carry_more : (old new : Channels) (of : Edge) (flight : ℕ → ℕ → ℕ → List Change) (v i to : ℕ) (xs : List Change) (change : Change)
    → Carry old (sent_by of flight v i xs) → new.edges ≡ old.edges → new.width ≡ old.width
    → flight_in new.width new.lanes.items ≡ put (flight_in old.width old.lanes.items) v i to (flight_in old.width old.lanes.items v i to ++ change ∷ [])
    → v < old.edges → i < old.width → to < old.width → ((j : ℕ) → goes of i j change.row ≡ (to == j))
    → Carry new (sent_by of flight v i (xs ++ change ∷ []))
carry_more old new of flight v i to xs change kept edges width now lv li lt told = record {
  at = λ m k n lm lk ln.
      let om = subst (λ b. m < b) edges lm in
      let ok = subst (λ b. k < b) width lk in
      let on = subst (λ b. n < b) width ln in
      let was = flight_in old.width old.lanes.items in
      let before = sent_by of flight v i xs in
      ap (λ (f : ℕ → ℕ → ℕ → List Change). f m k n) now
      ∙ (put_same was before v i to (was v i to ++ change ∷ []) (before v i to ++ change ∷ []) m k n (kept.at m k n om ok on) (ap (λ l. l ++ change ∷ []) (kept.at v i to lv li lt))
      ∙ sent_more of flight v i xs change to told m k n);
}

-- the same flight at each place
pub carry_same : (channels : Channels) (f g : ℕ → ℕ → ℕ → List Change) → ((m k n : ℕ) → f m k n ≡ g m k n) → Carry channels f → Carry channels g
carry_same channels f g same kept = record { at = λ m k n lm lk ln. kept.at m k n lm lk ln ∙ same m k n }
