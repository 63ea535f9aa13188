-- A weight of what stands that is 1 at most before and after each change is 1 at most after each front of what is told.
use Rattle.std.proofs.Common.{◌≡◌, ℕ, zero, suc, ◌+◌, ◌≤◌, ◌<◌, true, false, cond, List, [], ◌∷◌, ◌++◌, take, Option, Some, None, refl, sym, ap, subst, ◌∙◌, arith, inl, inr, ◌⊎◌, append_assoc, append-nil}
use Rattle.std.specs.List.{AllByRecursion}
use Rattle.ct_value.specs.Bag.{add, remove, copies}
use Rattle.ct_value.proofs.laws.Bags.{add-remove, copies-add, one_at_itself, weigh-append, total-none}
use Rattle.ct_value.specs.Order.{row_cmp, row_total, row_exact}
use Rattle.ct_value.specs.declared.row.Row.{Row}
use Rattle.ct_change.specs.declared.change.Change.{Change}
use Rattle.ct_change.specs.Changelog.{Mode, Rows, adds, apply, without, with, MayCome}
use Rattle.ct_change.specs.Emission.{difference, settle, row_of, Stands}
use Rattle.ct_change.proofs.laws.Folds.{gone_stands, settle-difference}
use Rattle.op_rules.specs.History.{Arrival}
use Rattle.emission_rules.specs.Joins.{Join, turned, match_count, told_kind, told_row, told_of, join_tells}
use Rattle.emission_rules.specs.Joining.{Joining, join_of, left_rows, right_rows}
use Rattle.emission_rules.proofs.laws.JoinStanding.{standing, standing-turned, standing-add, shown_at, alone_at}
use Rattle.emission_rules.proofs.laws.JoinMessages.{ups, downs, message, kind-told, additions-coming, removals-coming, additions-going, removals-going, IsRemoval, IsAddition, difference-signs}
use Rattle.emission_rules.proofs.laws.Fronts.{RemovesFirst, at_fronts, take-append}
use Rattle.emission_rules.proofs.laws.Walks.{Step, walk, none_at_first}
use Rattle.emission_rules.proofs.laws.JoinHistories.{Run, left_now}

module _ (w : Row → ℕ) where
  -- from p to q, and at most 1 at each front
  pub record Passes (xs : List Change) (p q : ℕ) : Type 0 where
    pub balance : ups w xs + p ≡ downs w xs + q
    pub fronts : (n : ℕ) → ups w (take n xs) + p ≤ downs w (take n xs) + 1

  take-nothing : (n : ℕ) → ◌≡◌ {A = List Change} (take n []) []
  take-nothing zero = refl
  take-nothing (suc n) = refl

  pub passes-nothing : (p : ℕ) → p ≤ 1 → Passes [] p p
  passes-nothing p few = record { balance = refl; fronts = λ n. let a = ap (ups w) (take-nothing n) in let b = ap (downs w) (take-nothing n) in omega arith }

  pub passes-then : (xs ys : List Change) (p q r : ℕ) → Passes xs p q → Passes ys q r → Passes (xs ++ ys) p r
  passes-then xs ys p q r one two = record {
    balance = omega (arith, one.balance, two.balance, weigh-append {A = Change} (λ c. cond (adds c.kind) (w c.row) 0) xs ys, weigh-append {A = Change} (λ c. cond (adds c.kind) 0 (w c.row)) xs ys);
    fronts = λ n. front n (take-append w n xs ys);
  }
    where
      front : (n : ℕ) → (take n (xs ++ ys) ≡ take n xs) ⊎ ((m : ℕ) × (take n (xs ++ ys) ≡ xs ++ take m ys)) → ups w (take n (xs ++ ys)) + p ≤ downs w (take n (xs ++ ys)) + 1
      front n (inl e) = let a = ap (ups w) e in let b = ap (downs w) e in let f = one.fronts n in omega arith
      front n (inr e) =
          let a = ap (ups w) e.1 ∙ weigh-append {A = Change} (λ c. cond (adds c.kind) (w c.row) 0) xs (take e.0 ys) in
          let b = ap (downs w) e.1 ∙ weigh-append {A = Change} (λ c. cond (adds c.kind) 0 (w c.row)) xs (take e.0 ys) in
          let f = two.fronts e.0 in
          let g = one.balance in
          omega arith

  -- ---- one change

  module _ (join : Join) where
    come_balance : (beside others : Rows) (change : Change) → adds change.kind ≡ true
        → ups w (told_row join beside others change) + standing w join beside others ≡ downs w (told_row join beside others change) + standing w join (add beside change.row) others
    come_balance beside others change e =
        let kind = told_kind join change.kind in
        let adding = kind-told join change.kind ∙ e in
        let goes = join.other.unmatched in
        let comes = join.other.matched in
        let told : told_row join beside others change ≡ message join kind change.row beside others goes comes =
        ap (λ b. message join kind change.row beside others (cond b join.other.unmatched join.other.matched) (cond b join.other.matched join.other.unmatched)) e in
        let a = ap (ups w) told ∙ additions-coming join kind change.row beside others goes comes adding w in
        let b = ap (downs w) told ∙ removals-coming join kind change.row beside others goes comes adding w in
        let s = standing-add w join beside others change.row in
        omega arith

    go_balance : (beside others : Rows) (change : Change) → adds change.kind ≡ false
        → ups w (told_row join beside others change) + standing w join (add beside change.row) others ≡ downs w (told_row join beside others change) + standing w join beside others
    go_balance beside others change e =
        let kind = told_kind join change.kind in
        let removing = kind-told join change.kind ∙ e in
        let goes = join.other.matched in
        let comes = join.other.unmatched in
        let told : told_row join beside others change ≡ message join kind change.row beside others goes comes =
        ap (λ b. message join kind change.row beside others (cond b join.other.unmatched join.other.matched) (cond b join.other.matched join.other.unmatched)) e in
        let a = ap (ups w) told ∙ additions-going join kind change.row beside others goes comes removing w in
        let b = ap (downs w) told ∙ removals-going join kind change.row beside others goes comes removing w in
        let s = standing-add w join beside others change.row in
        omega arith

  -- rows of the two sides of which what stands weighs 1 at most, also without one of them, and whose messages remove first
  pub record Guards (join : Join) (Safe : Rows → Rows → Type 0) (Own : Row → Type 0) : Type 1 where
    pub once : (rows others : Rows) → Safe rows others → standing w join rows others ≤ 1
    pub fewer : (rows others : Rows) (x : Row) → 0 < copies rows x → Safe rows others → Safe (remove rows x) others
    pub owns : (rows others : Rows) (x : Row) → 0 < copies rows x → Safe rows others → Own x
    pub first : (rows others beside : Rows) (change : Change) → Safe rows others → Own change.row → RemovesFirst w (told_row join beside others change)

  module _ (join : Join) (Safe : Rows → Rows → Type 0) (Own : Row → Type 0) (guards : Guards join Safe Own) where
    safe_beside : (rows others : Rows) (gone : Option Change) → Stands rows gone → Safe rows others → Safe (without rows (row_of gone)) others
    safe_beside rows others None stands safe = safe
    safe_beside rows others (Some change) stands safe = guards.fewer rows others change.row stands safe

    gone_passes : (rows others : Rows) (gone : Option Change) → IsRemoval gone → Stands rows gone → Safe rows others
        → Passes (told_of join (without rows (row_of gone)) others gone) (standing w join rows others) (standing w join (without rows (row_of gone)) others)
    gone_passes rows others None removal stands safe = passes-nothing (standing w join rows others) (guards.once rows others safe)
    gone_passes rows others (Some change) removal stands safe =
        let beside = remove rows change.row in
        let back : standing w join (add beside change.row) others ≡ standing w join rows others = ap (λ (r : Rows). standing w join r others) (add-remove row_total row_exact rows change.row stands) in
        let balance : ups w (told_row join beside others change) + standing w join rows others ≡ downs w (told_row join beside others change) + standing w join beside others =
        (let g = go_balance join beside others change removal in omega arith) in
        record {
          balance = balance;
          fronts = at_fronts w (standing w join rows others) (standing w join beside others) (told_row join beside others change) (guards.first rows others beside change safe (guards.owns rows others change.row stands safe))
              (guards.once rows others safe) (guards.once beside others (guards.fewer rows others change.row stands safe)) balance;
        }

    came_passes : (rows beside others : Rows) (come : Option Change) → IsAddition come → Safe rows others → Safe beside others → Safe (with beside (row_of come)) others → ((c : Change) → come ≡ Some c → Own c.row)
        → Passes (told_of join beside others come) (standing w join beside others) (standing w join (with beside (row_of come)) others)
    came_passes rows beside others None addition safe still after own = passes-nothing (standing w join beside others) (guards.once beside others still)
    came_passes rows beside others (Some change) addition safe still after own =
        let balance = come_balance join beside others change addition in
        record {
          balance = balance;
          fronts = at_fronts w (standing w join beside others) (standing w join (add beside change.row) others) (told_row join beside others change) (guards.first rows others beside change safe (own change refl))
              (guards.once beside others still) (guards.once (add beside change.row) others after) balance;
        }

    pub tells_pass : (mode : Mode) (rows others : Rows) (change : Change) → MayCome mode rows change → Safe rows others → Safe (apply mode rows change) others
        → Passes (join_tells join mode rows others change) (standing w join rows others) (standing w join (apply mode rows change) others)
    tells_pass mode rows others change may safe after =
        let diff = difference mode rows change in
        let signs = difference-signs mode rows change in
        let stands = gone_stands mode rows change may in
        let beside = without rows (row_of diff.gone) in
        let settled = settle-difference mode rows change may in
        let then_safe : Safe (settle rows diff) others = subst (λ (r : Rows). Safe r others) (sym settled) after in
        subst (λ (r : Rows). Passes (join_tells join mode rows others change) (standing w join rows others) (standing w join r others)) settled
        (passes-then (told_of join beside others diff.gone) (told_of join beside others diff.come) (standing w join rows others) (standing w join beside others) (standing w join (settle rows diff) others)
        (gone_passes rows others diff.gone signs.gone stands safe)
        (came_passes rows beside others diff.come signs.come safe (safe_beside rows others diff.gone stands safe) then_safe
        (λ c e. guards.owns (settle rows diff) others c.row (stays c diff.come e beside) then_safe)))
      where
        stays : (c : Change) (come : Option Change) → come ≡ Some c → (beside : Rows) → 0 < copies (with beside (row_of come)) c.row
        stays c None e beside = absurd (cc)
        stays c (Some d) e beside = let is : d ≡ c = cc in subst (λ (x : Change). 0 < copies (add beside d.row) x.row) is (let a = copies-add row_total beside d.row d.row in let b = one_at_itself row_cmp row_total d.row in omega arith)

-- ---- along a history

module _ (j : Joining) (history : List Arrival) (sent : List Change) (run : Run j history sent)
    (w : Row → ℕ) (Safe : Rows → Rows → Type 0) (Left Right : Row → Type 0)
    (left_guards : Guards w (join_of j) Safe Left) (right_guards : Guards w (turned (join_of j)) (λ rights lefts. Safe lefts rights) Right)
    (safe : (front back : List Arrival) → front ++ back ≡ history → Safe (left_rows j front) (right_rows j front)) where
  abbrev standing_after : List Arrival → ℕ
  standing_after b = standing w (join_of j) (left_rows j b) (right_rows j b)

  abbrev SafeAt : List Arrival → Type 0
  SafeAt b = Safe (left_rows j b) (right_rows j b)

  step_passes : (b : List Arrival) (a : Arrival) (s : List Change) → Step j b a s → SafeAt b → SafeAt (b ++ a ∷ []) → Passes w s (standing_after b) (standing_after (b ++ a ∷ []))
  step_passes b a s (inl step) before after =
      let l = left_rows j b in
      let r = right_rows j b in
      let fresh = apply j.left l a.change in
      let told = join_tells (join_of j) j.left l r a.change in
      let then_safe : Safe fresh r = subst (λ (x : Rows). Safe x r) step.left (subst (λ (x : Rows). Safe (left_rows j (b ++ a ∷ [])) x) step.right after) in
      let is : standing w (join_of j) fresh r ≡ standing_after (b ++ a ∷ []) = (λ i. standing w (join_of j) (sym step.left i) (sym step.right i)) in
      subst (λ n. Passes w s (standing_after b) n) is
      (subst (λ (xs : List Change). Passes w xs (standing_after b) (standing w (join_of j) fresh r)) (sym step.told)
      (tells_pass w (join_of j) Safe Left left_guards j.left l r a.change step.may before then_safe))
  step_passes b a s (inr step) before after =
      let l = left_rows j b in
      let r = right_rows j b in
      let fresh = apply j.right r a.change in
      let told = join_tells (turned (join_of j)) j.right r l a.change in
      let then_safe : Safe l fresh = subst (λ (x : Rows). Safe l x) step.right (subst (λ (x : Rows). Safe x (right_rows j (b ++ a ∷ []))) step.left after) in
      let is : standing w (turned (join_of j)) fresh l ≡ standing_after (b ++ a ∷ []) = standing-turned w (join_of j) l fresh ∙ (λ i. standing w (join_of j) (sym step.left i) (sym step.right i)) in
      subst (λ n. Passes w s (standing_after b) n) is
      (subst (λ m. Passes w s m (standing w (turned (join_of j)) fresh l)) (standing-turned w (join_of j) l r)
      (subst (λ (xs : List Change). Passes w xs (standing w (turned (join_of j)) r l) (standing w (turned (join_of j)) fresh l)) (sym step.told)
      (tells_pass w (turned (join_of j)) (λ rights lefts. Safe lefts rights) Right right_guards j.right r l a.change step.may before then_safe)))

  anything : (xs : List Arrival) → AllByRecursion (λ a. Unit {0}) xs
  anything [] = tt
  anything (x ∷ xs) = (tt, anything xs)

  all_pass : Passes w sent (standing_after []) (standing_after history)
  all_pass =
      (walk j SafeAt (λ a. Unit {0}) (λ b others s. Passes w s (standing_after b) (standing_after (b ++ others)))
      (λ b f. subst (λ h. Passes w [] (standing_after b) (standing_after h)) (sym (append-nil b)) (passes-nothing w (standing_after b) (left_guards.once (left_rows j b) (right_rows j b) f)))
      (λ b a others s t step f g each rest.
      subst (λ h. Passes w (s ++ t) (standing_after b) (standing_after h)) (append_assoc b (a ∷ []) others)
      (passes-then w s t (standing_after b) (standing_after (b ++ a ∷ [])) (standing_after ((b ++ a ∷ []) ++ others)) (step_passes b a s step f g) rest))
      [] history sent (left_now j history sent run) safe (anything history) run.emitted (none_at_first j)).0

  pub each_front : (n : ℕ) → ups w (take n sent) ≤ downs w (take n sent) + 1
  each_front n =
      let a = total-none row_total (shown_at w (join_of j) (right_rows j [])) in
      let b = total-none row_total (λ y. alone_at w (join_of j).other (match_count (λ x. (join_of j).matches x y) (left_rows j [])) y) in
      let f = all_pass.fronts n in
      omega arith
