-- One operator of many takes a change.
use Rattle.std.proofs.Common.{◌≡◌, ℕ, ◌+◌, ◌*◌, ◌/◌, ◌<◌, ◌==◌, ◌&&◌, Bool, true, false, List, [], ◌∷◌, ◌++◌, length, get_or, set, Option, Some, None, refl, sym, ap, subst, ◌∙◌, arith, inl, inr, ◌⊎◌, eqb}
use Rattle.std.proofs.lemmas.Nat.{div-mul-add}
use Rattle.std.proofs.lemmas.List.{get_or-set_same, get_or-set_other, get_or_default, append_assoc, append-nil}
use Rattle.std.proofs.lemmas.Bool.{cases_eq, eq-eqb, ne_eqb, and_from, false≢true}
use Rattle.ct_change.specs.declared.change.Change.{Change}
use Rattle.op_rules.specs.History.{Arrival, joined}
use Rattle.op_rules.specs.Rules.{Rule}
use Rattle.stream_model.specs.Network.{Network}
use Rattle.stream_model.specs.Machine.{put}
use Rattle.session_subtasks.specs.declared.subtask.Subtask.{Subtask}
use Rattle.session_subtasks.specs.Subtasks.{HasRun, is_full}
use Rattle.session_core.specs.Runs.{HasRunning, AllRun, AllHaveRun, bundle_after, pieces_after}

-- at the place, or the test is false
pub at_or_off : (m v k j : ℕ) → ((m ≡ v) × (k ≡ j)) ⊎ (((m == v) && (k == j)) ≡ false)
at_or_off m v k j =
    elim (cases_eq m v) [
      | inl e ↦ elim (cases_eq k j) [
        | inl f ↦ inl (e, f)
        | inr f ↦ inr (let q : eqb m v ≡ true = eq-eqb m v e in let r : eqb k j ≡ false = ne_eqb k j f in rw (q, r) refl)
      ]
      | inr e ↦ inr (let q : eqb m v ≡ false = ne_eqb m v e in rw q refl)
    ]

pub put_here : {A : Type 0} (f : ℕ → ℕ → A) (v j : ℕ) (x : A) → put f v j x v j ≡ x
put_here f v j x =
    let q : eqb v v ≡ true = eq-eqb v v refl in
    let r : eqb j j ≡ true = eq-eqb j j refl in
    rw (q, r) refl

pub nothing_in : {A : Type 0} (xs : List A) → length xs ≡ 0 → xs ≡ []
nothing_in [] none = refl
nothing_in (x ∷ xs) none = absurd (omega (arith, none))

-- pieces with one more
pub joined-push : (pieces : List (List Arrival)) (piece : List Arrival) → joined (pieces ++ piece ∷ []) ≡ joined pieces ++ piece
joined-push [] piece = append-nil piece
joined-push (x ∷ pieces) piece = ap (λ r. x ++ r) (joined-push pieces piece) ∙ sym (append_assoc x (joined pieces) piece)

same_digits : (w a b c d : ℕ) → b < w → d < w → a * w + b ≡ c * w + d → (a ≡ c) × (b ≡ d)
same_digits w a b c d lb ld e =
    let q : a ≡ c = sym (div-mul-add a w b lb) ∙ (ap (λ n. n / w) e ∙ div-mul-add c w d ld) in
    let r : c * w + b ≡ c * w + d = sym (ap (λ n. n * w + b) q) ∙ e in
    (q, omega (arith, r))

module _ {O : Type 0} (rule_is : O → Rule) (is_broken : O → Bool) (stands : O → List Arrival → Type 0) (takes_pieces : O → Bool) where
  abbrev Running : Network → ℕ → Option (Subtask O) → List Arrival → List Arrival → Type 0
  Running = HasRunning rule_is is_broken stands takes_pieces

  -- the subtask that is there
  pub found : (g : Network) (width : ℕ) (items : List (Option (Subtask O))) (pieces : ℕ → ℕ → List (List Arrival)) (bundle : ℕ → ℕ → List Arrival) (v j p : ℕ) (slot : Option (Subtask O))
      → AllRun rule_is is_broken stands takes_pieces g width items pieces bundle → v < g.count + 1 → j < width
      → p ≡ v * width + j → p < length items → slot ≡ get_or items p slot → Running g v slot (joined (pieces v j)) (bundle v j)
  found g width items pieces bundle v j p slot all lv lj is there was =
      subst (λ s. Running g v s (joined (pieces v j)) (bundle v j))
      (ap (λ n. get_or items n None) (sym is) ∙ (get_or_default items p None slot there ∙ sym was))
      (all.at v j lv lj)

  -- one subtask stands for more, and the others for what they stood for
  pub all_run_after : (g : Network) (width : ℕ) (items : List (Option (Subtask O))) (pieces pieces' : ℕ → ℕ → List (List Arrival)) (bundle bundle' : ℕ → ℕ → List Arrival) (v j p : ℕ) (slot : Option (Subtask O))
      → AllRun rule_is is_broken stands takes_pieces g width items pieces bundle → j < width
      → p ≡ v * width + j → p < length items → Running g v slot (joined (pieces' v j)) (bundle' v j)
      → ((m k : ℕ) → ((m == v) && (k == j)) ≡ false → (pieces' m k ≡ pieces m k) × (bundle' m k ≡ bundle m k))
      → AllRun rule_is is_broken stands takes_pieces g width (set items p slot) pieces' bundle'
  all_run_after g width items pieces pieces' bundle bundle' v j p slot all lj is there runs others = record {
    at = λ m k lm lk.
        elim (at_or_off m v k j) [
          | inl e ↦ rw (e.0, e.1)
              (subst (λ s. Running g v s (joined (pieces' v j)) (bundle' v j))
              (sym (ap (λ n. get_or (set items p slot) n None) (sym is) ∙ get_or-set_same items p slot None there))
              runs)
          | inr f ↦
              let same = others m k f in
              rw (same.0, same.1)
              (subst (λ s. Running g m s (joined (pieces m k)) (bundle m k))
              (sym (get_or-set_other items p (m * width + k) slot None (λ here.
              let t = same_digits width m k v j lk lj (here ∙ is) in
              false≢true (sym f ∙ and_from (m == v) (k == j) (eq-eqb m v t.0) (eq-eqb k j t.1)))))
              (all.at m k lm lk))
        ];
  }

  -- what one subtask did is done, and the others stay
  pub all_have_run : (due : Bool) (g : Network) (width : ℕ) (items : List (Option (Subtask O))) (pieces : ℕ → ℕ → List (List Arrival)) (bundle bundle' : ℕ → ℕ → List Arrival) (v j p : ℕ) (new : Subtask O) (sent : Option (List Change))
      → AllRun rule_is is_broken stands takes_pieces g width items pieces bundle → j < width → p ≡ v * width + j → p < length items
      → ((m k : ℕ) → ((m == v) && (k == j)) ≡ false → bundle' m k ≡ bundle m k)
      → HasRun rule_is is_broken stands takes_pieces due g v new (joined (pieces v j)) (bundle' v j) sent
      → AllHaveRun rule_is is_broken stands takes_pieces due g width (set items p (Some new)) pieces bundle' v j sent
  all_have_run due g width items pieces bundle bundle' v j p new None all lj is there same run =
      (run.0, all_run_after g width items pieces pieces bundle bundle' v j p (Some new) all lj is there run.1 (λ m k off. (refl, same m k off)))
  all_have_run due g width items pieces bundle bundle' v j p new (Some sent) all lj is there same run = (
    run.0,
    run.2.node,
    run.1,
    all_run_after g width items pieces (pieces_after pieces bundle' v j) bundle (put bundle' v j []) v j p (Some new) all lj is there
        (subst (λ (l : List Arrival). Running g v (Some new) (joined (pieces_after pieces bundle' v j v j)) l) (sym (put_here bundle' v j []))
        (subst (λ (l : List Arrival). Running g v (Some new) l []) (sym (ap joined (put_here pieces v j (pieces v j ++ bundle' v j ∷ [])) ∙ joined-push (pieces v j) (bundle' v j))) run.2))
        (λ m k off. (rw off refl, rw off (same m k off))),
  )

  -- a change joins a subtask's bundle
  pub all_consumed : (g : Network) (width : ℕ) (items : List (Option (Subtask O))) (pieces : ℕ → ℕ → List (List Arrival)) (bundle : ℕ → ℕ → List Arrival) (v j p : ℕ) (a : Arrival) (new : Subtask O) (sent : Option (List Change))
      → AllRun rule_is is_broken stands takes_pieces g width items pieces bundle → j < width → p ≡ v * width + j → p < length items
      → HasRun rule_is is_broken stands takes_pieces (is_full g v (bundle v j ++ a ∷ [])) g v new (joined (pieces v j)) (bundle v j ++ a ∷ []) sent
      → AllHaveRun rule_is is_broken stands takes_pieces (is_full g v (bundle_after bundle v j a v j)) g width (set items p (Some new)) pieces (bundle_after bundle v j a) v j sent
  all_consumed g width items pieces bundle v j p a new sent all lj is there run =
      all_have_run (is_full g v (bundle_after bundle v j a v j)) g width items pieces bundle (bundle_after bundle v j a) v j p new sent all lj is there (λ m k off. rw off refl)
      (subst (λ (l : List Arrival). HasRun rule_is is_broken stands takes_pieces (is_full g v l) g v new (joined (pieces v j)) l sent) (sym (put_here bundle v j (bundle v j ++ a ∷ []))) run)
