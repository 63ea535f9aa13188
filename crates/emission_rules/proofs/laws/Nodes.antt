-- A join between its edges: its keys, and all facts of nodes.
use Rattle.std.proofs.Common.{◌≡◌, ℕ, zero, suc, ◌<◌, true, List, [], ◌∷◌, ◌++◌, length, take, refl, sym, ap, subst, ◌∙◌, arith, ◌⊎◌}
use Rattle.std.specs.List.{Contains, AllByRecursion}
use Rattle.ct_value.specs.Bag.{none, copies, total}
use Rattle.ct_value.specs.Order.{row_total, row_exact}
use Rattle.ct_value.specs.declared.row.Row.{Row}
use Rattle.ct_value.specs.declared.ty.ColTy.{ColTy}
use Rattle.ct_change.specs.declared.change.Change.{Change}
use Rattle.ct_change.specs.Changelog.{Mode, append, retract, upsert, Rows, adds, fold, IsValid, Means}
use Rattle.ct_change.proofs.laws.Folds.{IsValidFrom-front}
use Rattle.ct_change.proofs.laws.Meanings.{means_fold, means_come}
use Rattle.rel_algebra.specs.Clauses.{Fits}
use Rattle.rel_algebra.specs.Sums.{Each}
use Rattle.rel_algebra.proofs.laws.Bags.{copies-each}
use Rattle.rel_algebra.specs.Joins.{left_columns, right_columns}
use Rattle.op_rules.specs.History.{Arrival, at_port, joined}
use Rattle.op_rules.specs.Edges.{Meaning, meaning_of, ReadsAs, Edge, IsUnique, IsSeen, HoldsOver}
use Rattle.op_rules.specs.Ports.{IsReadIn, Takes}
use Rattle.op_rules.specs.Tasks.{Facts, LocalKeysHold, UniqueKeysHold}
use Rattle.op_rules.proofs.laws.Histories.{at_port-append, all-front, all-each}
use Rattle.emission_rules.proofs.laws.Arriving.{come-fit}
use Rattle.emission_rules.proofs.laws.Weights.{means_weighs}
use Rattle.emission_rules.specs.Joining.{Joining, left_rows, right_rows, join_rule}
use Rattle.emission_rules.specs.JoinFits.{SideFits, JoinFits, JoinsStand, JoinsTake}
use Rattle.emission_rules.proofs.laws.JoinAnswers.{answer_weighs, answer_in}
use Rattle.emission_rules.proofs.laws.JoinFacts.{task, run, side_valid, folds, prefix, kinds_stay, types_stay, answers_fit, parts_add_up, fixing_sets, after_only}
use Rattle.emission_rules.proofs.laws.Guarded.{guarded}
use Rattle.emission_rules.proofs.laws.KeyCases.{w}
use Rattle.emission_rules.proofs.laws.JoinKeys.{unique_where}
use Rattle.emission_rules.proofs.laws.Passes.{each_front}

take-front : {A : Type 0} (xs ys : List A) → take (length xs) (xs ++ ys) ≡ xs
take-front [] ys = take-none ys
  where
    take-none : {A : Type 0} (ys : List A) → take 0 ys ≡ []
    take-none ys = refl
take-front (x ∷ xs) ys = ap (λ zs. x ∷ zs) (take-front xs ys)

reads_in : (mode : Mode) (changes : List Change) (rows : Rows) → Means mode changes rows → ReadsAs (meaning_of mode) changes rows
reads_in append changes rows m = m
reads_in retract changes rows m = m
reads_in (upsert key) changes rows m = m

module _ (many : ℕ) (j : Joining) (from : ℕ → Edge) (to : Edge) (fits : JoinFits many j from to) where
  -- ---- at every moment

  local_keys : LocalKeysHold (task many j from to fits)
  local_keys s pieces sent e key has n rows reads =
      unique_where key rows (λ a there.
      let g = guarded j key a (IsSeen (from 0)) (IsSeen (from 1)) j.shape (fits.local key has) in
      let front = each_front j history sent (run many j from to fits s pieces sent e) (w j key a) g.Safe (Fits j.left_columns) (Fits j.right_columns) g.left_guards g.right_guards (safe_at a) n in
      let means = means_weighs (w j key a) (take n sent) rows (subst (λ m. ReadsAs m (take n sent) rows) fits.writes reads) in
      omega arith)
    where
      history : List Arrival
      history = joined pieces

      -- the rows of a side after a front of what came
      side : (p : ℕ) → p < 2 → (mode : Mode) (columns : List ColTy) (pairs : List ℕ) → SideFits many mode columns pairs (from p) → (front back : List Arrival) → front ++ back ≡ history
          → Each (Fits columns) (fold mode (at_port p front)) × ((k : List ℕ) → IsSeen (from p) k → IsUnique k (copies (fold mode (at_port p front))))
      side p l mode columns pairs fit front back is =
          let split : at_port p history ≡ at_port p front ++ at_port p back = sym (ap (at_port p) is) ∙ at_port-append p front back in
          let valid : IsValid mode (at_port p front) = IsValidFrom-front mode none (at_port p front) (at_port p back) (subst (IsValid mode) split (side_valid many j from to fits s pieces sent e p l mode columns pairs fit)) in
          let means = means_fold mode (at_port p front) valid in
          let typed = all-each (λ change. (from p).fits change ≡ true) (λ change. adds change.kind ≡ true → Fits columns change.row) (λ change t. come-fit mode columns change (fit.fits change t)) (at_port p front) (all-front (λ change. (from p).fits change ≡ true) (at_port p front) (at_port p back) (subst (AllByRecursion (λ change. (from p).fits change ≡ true)) split (e.ready.types p l))) in
          let here : take (length front) history ≡ front = ap (take (length front)) (sym is) ∙ take-front front back in
          let reading : ReadsAs (from p).meaning (at_port p (take (length front) history)) (fold mode (at_port p front)) =
          subst (λ (h : List Arrival). ReadsAs (from p).meaning (at_port p h) (fold mode (at_port p front))) (sym here) (subst (λ m. ReadsAs m (at_port p front) (fold mode (at_port p front))) (sym fit.reads) (reads_in mode (at_port p front) (fold mode (at_port p front)) means)) in (
            copies-each row_total row_exact (Fits columns) (fold mode (at_port p front)) (means_come (Fits columns) mode (at_port p front) (fold mode (at_port p front)) means typed),
            λ k seen. e.ready.keys p l k seen (length front) (fold mode (at_port p front)) reading,
          )

      safe_at : (a : Row) (front back : List Arrival) → front ++ back ≡ history → (guarded j key a (IsSeen (from 0)) (IsSeen (from 1)) j.shape (fits.local key has)).Safe (left_rows j front) (right_rows j front)
      safe_at a front back is =
          let l = side 0 (omega arith) j.left j.left_columns (left_columns j.on) fits.left front back is in
          let r = side 1 (omega arith) j.right j.right_columns (right_columns j.on) fits.right front back is in
          (guarded j key a (IsSeen (from 0)) (IsSeen (from 1)) j.shape (fits.local key has)).safe_where (left_rows j front) (right_rows j front) l.0 r.0 l.1 r.1

  -- ---- of the answer

  abbrev Known : Edge → List ℕ → Type 0
  Known edge key = Contains edge.unique key ⊎ HoldsOver edge key

  unique_keys : UniqueKeysHold (task many j from to fits)
  unique_keys whole answer made settled key has =
      unique_where key answer (λ a there.
      let g = guarded j key a (Known (from 0)) (Known (from 1)) j.shape (fits.unique key has) in
      let safe = g.safe_where (whole 0) (whole 1) left right (λ k known. (settled 0 (omega arith)).keys k known) (λ k known. (settled 1 (omega arith)).keys k known) in
      let once = g.left_guards.once (whole 0) (whole 1) safe in
      let weighs = answer_weighs j (whole 0) (whole 1) (answer_in j (whole 0) (whole 1) answer made) in
      let is : weighs.0 ≡ answer = (let same = sym weighs.1 ∙ made in cc) in
      let e = weighs.2 (w j key a) in
      let f : total (w j key a) weighs.0 ≡ total (w j key a) answer = ap (total (w j key a)) is in
      omega arith)
    where
      left : Each (Fits j.left_columns) (whole 0)
      left = copies-each row_total row_exact (Fits j.left_columns) (whole 0) (λ row some. fits.left.holds row ((settled 0 (omega arith)).types row some))

      right : Each (Fits j.right_columns) (whole 1)
      right = copies-each row_total row_exact (Fits j.right_columns) (whole 1) (λ row some. fits.right.holds row ((settled 1 (omega arith)).types row some))

  pub join_facts : Facts (task many j from to fits)
  join_facts = record {
    folds_to_answer = folds many j from to fits;
    prefixes_stand = prefix many j from to fits;
    kinds_stay = kinds_stay many j from to fits;
    types_stay = types_stay many j from to fits;
    parts_add_up = parts_add_up many j from to fits;
    local_keys = local_keys;
    fixing_sets = fixing_sets many j from to fits;
    after_only = after_only many j from to fits;
    answer_types = answers_fit many j from to fits;
    unique_keys = unique_keys;
  }

pub joins_stand : JoinsStand
joins_stand many j from to fits = join_facts many j from to fits

-- ---- what comes to a port

takes_side : (meaning : Meaning) (mode : Mode) → meaning ≡ meaning_of mode → IsReadIn meaning mode
takes_side meaning mode is = subst (λ m. IsReadIn m mode) (sym is) (go mode)
  where
    go : (mode : Mode) → IsReadIn (meaning_of mode) mode
    go append = tt
    go retract = tt
    go (upsert key) = refl

pub joins_take : JoinsTake
joins_take many j from to fits = (refl, λ p l. side p l)
  where
    side : (p : ℕ) → p < 2 → Takes (join_rule j) p (from p)
    side zero l = record { reads = takes_side (from 0).meaning j.left fits.left.reads; kinds = fits.left.kinds; fits = λ change h. (fits.left.fits change h).types; keyed = fits.left.keyed }
    side (suc zero) l = record { reads = takes_side (from 1).meaning j.right fits.right.reads; kinds = fits.right.kinds; fits = λ change h. (fits.right.fits change h).types; keyed = fits.right.keyed }
    side (suc (suc p)) l = absurd (omega arith)
