-- Two channels stand at two places.
use Rattle.std.proofs.Common.{◌≡◌, ℕ, ◌+◌, ◌*◌, ◌/◌, ◌<◌, ◌≤◌, ◌==◌, ◌&&◌, nat_lt, true, false, cond, List, [], ◌∷◌, ◌++◌, length, get_or, set, refl, sym, ap, subst, ◌∙◌, arith, inl, inr, ◌⊎◌, eqb, zero, suc}
use Rattle.std.proofs.lemmas.Nat.{div-mul-add}
use Rattle.std.proofs.lemmas.List.{get_or-set_same, get_or-set_other, get_or_default}
use Rattle.std.proofs.Common.{Option, Some, None, IfSome, IfNone, IsNone, All}
use Rattle.std.proofs.lemmas.Bool.{cases_Bool, cases_eq, eq-eqb, ne_eqb, and_parts, and_from, false≢true, ltb-true, lt-ltb}
use Rattle.ct_change.specs.declared.change.Change.{Change}
use Rattle.route.specs.Channel.{Flow, HasPassed}
use Rattle.session_channels.specs.Lanes.{put, place, flight_in, idle, AreIdle}

-- a digit below the base, and what stands before it
pub same_digits : (w a b c d : ℕ) → b < w → d < w → a * w + b ≡ c * w + d → (a ≡ c) × (b ≡ d)
same_digits w a b c d lb ld e =
    let q : a ≡ c = sym (div-mul-add a w b lb) ∙ (ap (λ n. n / w) e ∙ div-mul-add c w d ld) in
    let r : c * w + b ≡ c * w + d = sym (ap (λ n. n * w + b) q) ∙ e in
    (q, omega (arith, r))

same_place : (w e i j m k n : ℕ) → i < w → j < w → k < w → n < w → place w m k n ≡ place w e i j → (m ≡ e) × (k ≡ i) × (n ≡ j)
same_place w e i j m k n li lj lk ln q =
    let r = same_digits w (m * w + k) n (e * w + i) j ln lj q in
    let s = same_digits w m k e i lk li r.0 in
    (s.0, s.1, r.1)

-- at the place, or the test is false
pub here_or_there : (m e k i n j : ℕ) → ((m ≡ e) × (k ≡ i) × (n ≡ j)) ⊎ (((m == e) && ((k == i) && (n == j))) ≡ false)
here_or_there m e k i n j =
    elim (cases_eq m e) [
      | inr a ↦ inr (let q : eqb m e ≡ false = ne_eqb m e a in rw q refl)
      | inl a ↦ elim (cases_eq k i) [
        | inr b ↦ inr (let q : eqb m e ≡ true = eq-eqb m e a in let r : eqb k i ≡ false = ne_eqb k i b in rw (q, r) refl)
        | inl b ↦ elim (cases_eq n j) [
          | inr c ↦ inr (let q : eqb m e ≡ true = eq-eqb m e a in let r : eqb k i ≡ true = eq-eqb k i b in let s : eqb n j ≡ false = ne_eqb n j c in rw (q, r, s) refl)
          | inl c ↦ inl (a, b, c)
        ]
      ]
    ]

pub put_here : {A : Type 0} (f : ℕ → ℕ → ℕ → A) (e i j : ℕ) (x : A) → put f e i j x e i j ≡ x
put_here f e i j x =
    let q : eqb e e ≡ true = eq-eqb e e refl in
    let r : eqb i i ≡ true = eq-eqb i i refl in
    let s : eqb j j ≡ true = eq-eqb j j refl in
    rw (q, r, s) refl

module _ (w : ℕ) (lanes : List Flow) (e i j : ℕ) (x : Flow) (li : i < w) (lj : j < w) (there : place w e i j < length lanes) where
  inside : (k n : ℕ) → k < w → n < w → (nat_lt k w && nat_lt n w) ≡ true
  inside k n lk ln = and_from (nat_lt k w) (nat_lt n w) (lt-ltb k w lk) (lt-ltb n w ln)

  changed_at : (m k n : ℕ) → flight_in w (set lanes (place w e i j) x) m k n ≡ put (flight_in w lanes) e i j x.flight m k n
  changed_at m k n =
      elim (cases_Bool (nat_lt k w && nat_lt n w)) [
        | inl q ↦
            let p = and_parts (nat_lt k w) (nat_lt n w) q in
            elim (here_or_there m e k i n j) [
              | inl t ↦ rw (t.0, t.1, t.2) (rw (inside i j li lj) (ap (λ (f : Flow). f.flight) (get_or-set_same lanes (place w e i j) x idle there)) ∙ sym (put_here (flight_in w lanes) e i j x.flight))
              | inr f ↦ rw f (rw q (ap (λ (f : Flow). f.flight) (get_or-set_other lanes (place w e i j) (place w m k n) x idle (λ same.
                  let t = same_place w e i j m k n li lj (ltb-true k w p.0) (ltb-true n w p.1) same in
                  false≢true (sym f ∙ and_from (m == e) ((k == i) && (n == j)) (eq-eqb m e t.0) (and_from (k == i) (n == j) (eq-eqb k i t.1) (eq-eqb n j t.2)))))))
            ]
        | inr q ↦
            elim (here_or_there m e k i n j) [
              | inl t ↦ absurd (false≢true (sym q ∙ inside k n (rw t.1 li) (rw t.2 lj)))
              | inr f ↦ rw (f, q) refl
            ]
      ]

  -- a channel that is written to
  pub changed : flight_in w (set lanes (place w e i j) x) ≡ put (flight_in w lanes) e i j x.flight
  changed = λ t m k n. changed_at m k n t

  -- what a channel holds
  pub held : flight_in w lanes e i j ≡ (get_or lanes (place w e i j) idle).flight
  held = rw (inside i j li lj) refl

-- what a channel holds that stands at this index
at_index : (w e i j p : ℕ) (lanes : List Flow) → i < w → j < w → p ≡ place w e i j → p < length lanes → (old : Flow) → old ≡ get_or lanes p old → flight_in w lanes e i j ≡ old.flight
at_index w e i j p lanes li lj is there old was =
    held w lanes e i j old li lj (subst (λ n. n < length lanes) is there)
    ∙ ap (λ (f : Flow). f.flight) (ap (λ n. get_or lanes n idle) (sym is) ∙ (get_or_default lanes p idle old there ∙ sym was))

-- the front of a channel is taken
pub front_taken : (w e i j p : ℕ) (lanes : List Flow) → i < w → j < w → p ≡ place w e i j → p < length lanes → (front : Option Change) (old new : Flow) → old ≡ get_or lanes p old → IfSome front (λ change. old.flight ≡ change ∷ new.flight)
    → IfSome front (λ change. (flight_in w lanes e i j ≡ change ∷ flight_in w (set lanes p new) e i j) × (flight_in w (set lanes p new) ≡ put (flight_in w lanes) e i j (flight_in w (set lanes p new) e i j)))
front_taken w e i j p lanes li lj is there None old new was h = tt
front_taken w e i j p lanes li lj is there (Some change) old new was h =
    let within = subst (λ n. n < length lanes) is there in
    let now : flight_in w (set lanes p new) ≡ put (flight_in w lanes) e i j new.flight = ap (λ n. flight_in w (set lanes n new)) is ∙ changed w lanes e i j new li lj within in
    let here : flight_in w (set lanes p new) e i j ≡ new.flight = ap (λ f. f e i j) now ∙ put_here (flight_in w lanes) e i j new.flight in
    (at_index w e i j p lanes li lj is there old was ∙ (h ∙ ap (λ l. change ∷ l) (sym here)), now ∙ ap (put (flight_in w lanes) e i j) (sym here))

-- there is no front where a channel holds nothing
pub front_missing : (w e i j p : ℕ) (lanes : List Flow) → i < w → j < w → p ≡ place w e i j → p < length lanes → (front : Option Change) (old : Flow) → old ≡ get_or lanes p old → (IsNone front → old.flight ≡ []) → IfNone front (flight_in w lanes e i j ≡ [])
front_missing w e i j p lanes li lj is there (Some change) old was h = tt
front_missing w e i j p lanes li lj is there None old was h = at_index w e i j p lanes li lj is there old was ∙ h refl

-- a change is put into a channel
pub change_put : (w e i j p : ℕ) (lanes : List Flow) → i < w → j < w → p ≡ place w e i j → p < length lanes → (old new : Flow) (more : List Change) → old ≡ get_or lanes p old → new.flight ≡ old.flight ++ more
    → flight_in w (set lanes p new) ≡ put (flight_in w lanes) e i j (flight_in w lanes e i j ++ more)
change_put w e i j p lanes li lj is there old new more was h =
    let within = subst (λ n. n < length lanes) is there in
    ap (λ n. flight_in w (set lanes n new)) is ∙ (changed w lanes e i j new li lj within ∙ ap (put (flight_in w lanes) e i j) (h ∙ ap (λ l. l ++ more) (sym (at_index w e i j p lanes li lj is there old was))))

-- how many changes are in flight
pub count_held : (w e i j p : ℕ) (lanes : List Flow) → i < w → j < w → p ≡ place w e i j → p < length lanes → (old : Flow) → old ≡ get_or lanes p old → length old.flight ≡ length (flight_in w lanes e i j)
count_held w e i j p lanes li lj is there old was = ap length (sym (at_index w e i j p lanes li lj is there old was))

-- a channel of these is idle, or there is none
idle_at : (lanes : List Flow) (n : ℕ) → AreIdle lanes → HasPassed (get_or lanes n idle) [] 0
idle_at [] n h = record { in_flight = refl; sent_count = refl; taken_count = refl; within = omega arith }
idle_at (lane ∷ lanes) zero h = h.0
idle_at (lane ∷ lanes) (suc n) h = idle_at lanes n h.1

pub idle_push : (lanes : List Flow) (lane : Flow) → AreIdle lanes → HasPassed lane [] 0 → AreIdle (lanes ++ lane ∷ [])
idle_push [] lane h fresh = (fresh, tt)
idle_push (first ∷ lanes) lane h fresh = (h.0, idle_push lanes lane h.1 fresh)

-- nothing is in flight in idle channels
pub nothing_held : (w : ℕ) (lanes : List Flow) → AreIdle lanes → flight_in w lanes ≡ (λ e i j. [])
nothing_held w lanes h = λ t e i j. (elim (nat_lt i w && nat_lt j w) as (λ b. cond b (get_or lanes (place w e i j) idle).flight [] ≡ []) [ true ↦ (idle_at lanes (place w e i j) h).in_flight | false ↦ refl ]) t

-- nothing was sent through them
pub none_sent : (lanes : List Flow) → AreIdle lanes → All (λ lane. lane.sent ≤ 0) lanes
none_sent lanes h k d within = let e : (get_or lanes k d).sent ≡ 0 = ap (λ (f : Flow). f.sent) (get_or_default lanes k d idle within) ∙ (idle_at lanes k h).sent_count in omega (arith, e)
