-- All that a join emits along a history: what it leads to, and what is said of each change.
use Rattle.std.proofs.Common.{◌≡◌, ℕ, ◌<◌, ◌==◌, true, false, cond, List, [], ◌∷◌, ◌++◌, take, Ok, refl, sym, ap, subst, ◌∙◌, arith, append_assoc, append-nil, inl, inr}
use Rattle.std.specs.List.{AllByRecursion}
use Rattle.std.proofs.lemmas.Bool.{eqb-false}
use Rattle.ct_value.specs.Bag.{none, copies, one_at}
use Rattle.ct_value.proofs.laws.Bags.{copies-none, total-none}
use Rattle.ct_value.specs.Order.{row_cmp, row_total, row_exact}
use Rattle.ct_value.specs.declared.row.Row.{Row}
use Rattle.ct_change.specs.declared.change.Change.{Change}
use Rattle.ct_change.specs.Changelog.{Mode, retract, Rows, adds, apply, fold, IsValid, Means}
use Rattle.ct_change.proofs.laws.Folds.{IsValidFrom-front}
use Rattle.ct_change.proofs.laws.Meanings.{means_fold, means_come, prefixes_mean}
use Rattle.rel_algebra.specs.Sums.{Each}
use Rattle.rel_algebra.proofs.laws.Bags.{copies-each}
use Rattle.op_rules.specs.History.{Arrival, at_port}
use Rattle.op_rules.proofs.laws.Histories.{all-append, all-front, at_port-append}
use Rattle.emission_rules.specs.Arriving.{is_whole}
use Rattle.emission_rules.proofs.laws.Arriving.{whole-adds}
use Rattle.emission_rules.specs.Joins.{Join, turned, match_count, join_tells}
use Rattle.emission_rules.specs.Joining.{Joining, join_of, left_rows, right_rows, emits}
use Rattle.emission_rules.proofs.laws.JoinStanding.{standing-turned, shown_at, alone_at}
use Rattle.emission_rules.proofs.laws.Moves.{Moves, moves-nothing, moves-then, valid_where_fronts}
use Rattle.emission_rules.proofs.laws.JoinMessages.{stood, tells_moves}
use Rattle.emission_rules.proofs.laws.JoinTold.{GivesIn, tells_all}
use Rattle.emission_rules.proofs.laws.JoinAnswers.{out_count}
use Rattle.emission_rules.proofs.laws.Walks.{AreLeft, Step, walk, none_at_first, outs_after}

moves-turned : (join : Join) (others rows after : Rows) (changes : List Change) → Moves (stood (turned join) rows others) changes (stood (turned join) after others) → Moves (stood join others rows) changes (stood join others after)
moves-turned join others rows after changes m = record {
  balance = λ row. omega (arith, m.balance row, standing-turned (one_at row_cmp row) join others rows, standing-turned (one_at row_cmp row) join others after);
  fronts = λ row n. let a = m.fronts row n in let b = standing-turned (one_at row_cmp row) join others rows in omega arith;
}

module _ (j : Joining) where
  abbrev join : Join
  join = join_of j

  abbrev pub stood_after : List Arrival → Row → ℕ
  stood_after history = stood join (left_rows j history) (right_rows j history)

  -- ---- what it leads to

  step_moves : (before : List Arrival) (a : Arrival) (sent : List Change) → Step j before a sent → Moves (stood_after before) sent (stood_after (before ++ a ∷ []))
  step_moves before a sent (inl s) =
      subst (λ (xs : List Change). Moves (stood_after before) xs (stood_after (before ++ a ∷ []))) (sym s.told)
      (subst (λ (x : Rows). Moves (stood_after before) (join_tells join j.left (left_rows j before) (right_rows j before) a.change) (stood join (left_rows j (before ++ a ∷ [])) x)) (sym s.right)
      (subst (λ (x : Rows). Moves (stood_after before) (join_tells join j.left (left_rows j before) (right_rows j before) a.change) (stood join x (right_rows j before))) (sym s.left)
      (tells_moves join j.left (left_rows j before) (right_rows j before) a.change s.may)))
  step_moves before a sent (inr s) =
      subst (λ (xs : List Change). Moves (stood_after before) xs (stood_after (before ++ a ∷ []))) (sym s.told)
      (subst (λ (x : Rows). Moves (stood_after before) (join_tells (turned join) j.right (right_rows j before) (left_rows j before) a.change) (stood join (left_rows j (before ++ a ∷ [])) x)) (sym s.right)
      (subst (λ (x : Rows). Moves (stood_after before) (join_tells (turned join) j.right (right_rows j before) (left_rows j before) a.change) (stood join x (apply j.right (right_rows j before) a.change))) (sym s.left)
      (moves-turned join (left_rows j before) (right_rows j before) (apply j.right (right_rows j before) a.change) (join_tells (turned join) j.right (right_rows j before) (left_rows j before) a.change)
      (tells_moves (turned join) j.right (right_rows j before) (left_rows j before) a.change s.may))))

  nothing_stands : (row : Row) → stood_after [] row ≡ 0
  nothing_stands row =
      let a = total-none row_total (shown_at (one_at row_cmp row) join (right_rows j [])) in
      let b = total-none row_total (λ y. alone_at (one_at row_cmp row) join.other (match_count (λ x. join.matches x y) (left_rows j [])) y) in
      omega arith

  -- what was taken, and what was emitted for it
  pub record Run (history : List Arrival) (sent : List Change) : Type 0 where
    pub known : AllByRecursion (λ a. a.port < 2) history
    pub left_valid : IsValid j.left (at_port 0 history)
    pub right_valid : IsValid j.right (at_port 1 history)
    pub emitted : emits j [] history ≡ Ok sent

  module _ (history : List Arrival) (sent : List Change) (run : Run history sent) where
    pub left_now : AreLeft j [] history
    left_now = record { known = run.known; left_valid = run.left_valid; right_valid = run.right_valid }

    anything : (xs : List Arrival) → AllByRecursion (λ a. Unit {0}) xs
    anything [] = tt
    anything (x ∷ xs) = (tt, anything xs)

    moved : Moves (stood_after []) sent (stood_after history) × (outs_after j history ≡ 0)
    moved =
        walk j (λ b. Unit {0}) (λ a. Unit {0}) (λ b others s. Moves (stood_after b) s (stood_after (b ++ others)))
        (λ b f. subst (λ h. Moves (stood_after b) [] (stood_after h)) (sym (append-nil b)) (moves-nothing (stood_after b)))
        (λ b a others s t step f g each rest.
        subst (λ h. Moves (stood_after b) (s ++ t) (stood_after h)) (append_assoc b (a ∷ []) others)
        (moves-then (stood_after b) (stood_after (b ++ a ∷ [])) (stood_after ((b ++ a ∷ []) ++ others)) s t (step_moves b a s step) rest))
        [] history sent left_now (λ front back e. tt) (anything history) run.emitted (none_at_first j)

    -- no pair of what stands is out of range
    pub all_in : out_count join (left_rows j history) (right_rows j history) ≡ 0
    all_in = moved.1

    -- it stands for what stands where the two sides are joined
    pub stands_for : (answer : Rows) → ((row : Row) → copies answer row ≡ stood_after history row) → Means retract sent answer
    stands_for answer is row = let m = moved.0.balance row in let z = nothing_stands row in let c = is row in omega arith

    -- each prefix stands for some rows
    pub prefixes : (n : ℕ) → (rows : Rows) × Means retract (take n sent) rows
    prefixes = prefixes_mean retract sent (valid_where_fronts none sent (λ row n. let a = moved.0.fronts row n in let b = nothing_stands row in let c = copies-none row_total row in omega arith))

    -- ---- what is said of each change

    -- the rows that stand after a front of a history
    rows_of : (P : Row → Type 0) (mode : Mode) (port : ℕ) → IsValid mode (at_port port history) → AllByRecursion (λ change. adds change.kind ≡ true → P change.row) (at_port port history)
        → (front back : List Arrival) → front ++ back ≡ history → Each P (fold mode (at_port port front))
    rows_of P mode port valid all front back e =
        let split : at_port port history ≡ at_port port front ++ at_port port back = sym (ap (at_port port) e) ∙ at_port-append port front back in
        let valid_front = IsValidFrom-front mode none (at_port port front) (at_port port back) (subst (IsValid mode) split valid) in
        let all_front_ = all-front (λ change. adds change.kind ≡ true → P change.row) (at_port port front) (at_port port back) (subst (AllByRecursion (λ change. adds change.kind ≡ true → P change.row)) split all) in
        copies-each row_total row_exact P (fold mode (at_port port front)) (means_come P mode (at_port port front) (fold mode (at_port port front)) (means_fold mode (at_port port front) valid_front) all_front_)

    module _ (P : Change → Type 0) (Left Right : Row → Type 0) where
      pub record FromLeft (change : Change) : Type 0 where
        pub own : is_whole j.left change.kind ≡ true → Left change.row
        pub gives : GivesIn P join Left Right j.left change.kind

      pub record FromRight (change : Change) : Type 0 where
        pub own : is_whole j.right change.kind ≡ true → Right change.row
        pub gives : GivesIn P (turned join) Right Left j.right change.kind

      abbrev FromEither : Arrival → Type 0
      FromEither a = (a.port ≡ 0 → FromLeft a.change) × (a.port ≡ 1 → FromRight a.change)

      abbrev BothStand : List Arrival → Type 0
      BothStand b = Each Left (left_rows j b) × Each Right (right_rows j b)

      step_said : (b : List Arrival) (a : Arrival) (s : List Change) → Step j b a s → BothStand b → FromEither a → AllByRecursion P s
      step_said b a s (inl step) stand from = let f = from.0 step.port in subst (AllByRecursion P) (sym step.told) (tells_all P join Left Right (right_rows j b) stand.1 j.left (left_rows j b) a.change stand.0 f.own f.gives)
      step_said b a s (inr step) stand from = let f = from.1 step.port in subst (AllByRecursion P) (sym step.told) (tells_all P (turned join) Right Left (left_rows j b) stand.0 j.right (right_rows j b) a.change stand.1 f.own f.gives)

      pub all_said : AllByRecursion FromLeft (at_port 0 history) → AllByRecursion FromRight (at_port 1 history) → AllByRecursion P sent
      all_said left right =
          (walk j BothStand FromEither (λ b others s. AllByRecursion P s)
          (λ b f. tt)
          (λ b a others s t step f g each rest. all-append P s t (step_said b a s step f each) rest)
          [] history sent left_now
          (λ front back e. (
            rows_of Left j.left 0 run.left_valid (owns FromLeft Left (λ c f e. f.own (whole-adds j.left c.kind e)) (at_port 0 history) left) front back e,
            rows_of Right j.right 1 run.right_valid (owns FromRight Right (λ c f e. f.own (whole-adds j.right c.kind e)) (at_port 1 history) right) front back e,
          ))
          (of_ports history left right) run.emitted (none_at_first j)).0
        where
          owns : (Q : Change → Type 0) (R : Row → Type 0) → ((c : Change) → Q c → adds c.kind ≡ true → R c.row) → (xs : List Change) → AllByRecursion Q xs → AllByRecursion (λ c. adds c.kind ≡ true → R c.row) xs
          owns Q R h [] q = tt
          owns Q R h (x ∷ xs) q = (h x q.0, owns Q R h xs q.1)

          of_port : (port : ℕ) (Q : Change → Type 0) (a : Arrival) (others : List Arrival) → AllByRecursion Q (at_port port (a ∷ others)) → (a.port ≡ port → Q a.change) × AllByRecursion Q (at_port port others)
          of_port port Q a others q =
              elim (a.port == port) as (λ b. (a.port == port) ≡ b → AllByRecursion Q (cond b (a.change ∷ at_port port others) (at_port port others)) → (a.port ≡ port → Q a.change) × AllByRecursion Q (at_port port others)) [
                | true ↦ λ e h. (λ same. h.0, h.1)
                | false ↦ λ e h. (λ same. absurd (eqb-false a.port port e same), h)
              ] refl q

          of_ports : (xs : List Arrival) → AllByRecursion FromLeft (at_port 0 xs) → AllByRecursion FromRight (at_port 1 xs) → AllByRecursion FromEither xs
          of_ports [] l r = tt
          of_ports (x ∷ xs) l r =
              let a = of_port 0 FromLeft x xs l in
              let b = of_port 1 FromRight x xs r in
              ((a.0, b.0), of_ports xs a.1 b.1)
