-- What a subtask may rely on of all that it consumed lets a bundle come as one piece.
use Rattle.std.proofs.Common.{◌≡◌, ℕ, zero, suc, ◌<◌, true, List, [], ◌∷◌, ◌++◌, take, refl, sym, ap, subst}
use Rattle.std.specs.List.{AllByRecursion}
use Rattle.std.proofs.lemmas.List.{append_assoc}
use Rattle.ct_value.specs.declared.row.Row.{Row}
use Rattle.ct_change.specs.declared.change.Change.{Change}
use Rattle.ct_change.specs.Changelog.{has}
use Rattle.op_rules.specs.History.{Arrival, at_port}
use Rattle.op_rules.specs.Rules.{Rule, ArriveAfter}
use Rattle.op_rules.specs.Edges.{Exchange, forward, hash, IsRoutedBy, ReadsAs}
use Rattle.op_rules.specs.Ports.{TakesAll}
use Rattle.op_rules.specs.Tasks.{Task, IsReady}
use Rattle.op_rules.proofs.laws.Histories.{all-front, at_port-append}
use Rattle.op_rules.proofs.laws.Ready.{ready_arrives}

-- a prefix of the front is one of the whole
front_prefix : (n : ℕ) (xs ys : List Arrival) → (m : ℕ) × (take m (xs ++ ys) ≡ take n xs)
front_prefix zero xs ys = (zero, refl)
front_prefix (suc n) [] ys = (zero, refl)
front_prefix (suc n) (x ∷ xs) ys = let front = front_prefix n xs ys in (suc front.0, ap (λ l. x ∷ l) front.1)

routed_front : (exchange : Exchange) (route : Row → ℕ) (j : ℕ) (xs ys : List Change) → IsRoutedBy exchange route j (xs ++ ys) → IsRoutedBy exchange route j xs
routed_front forward route j xs ys h = tt
routed_front (hash columns) route j xs ys h = all-front _ xs ys h

-- a subtask may rely on the first of what it may rely on
pub ready_front : (task : Task) (j : ℕ) (xs ys : List Arrival) → IsReady task j (xs ++ ys) → IsReady task j xs
ready_front task j xs ys ready = record {
  ports = all-front (λ a. a.port < task.ports) xs ys ready.ports;
  valid = λ p within n.
      let front = front_prefix n xs ys in
      let s = ready.valid p within front.0 in
      (s.0, subst (λ (l : List Arrival). ReadsAs (task.input p).meaning (at_port p l) s.0) front.1 s.1);
  kinds = λ p within. all-front (λ change. has (task.input p).kinds change.kind ≡ true) (at_port p xs) (at_port p ys)
      (subst (AllByRecursion (λ (change : Change). has (task.input p).kinds change.kind ≡ true)) (at_port-append p xs ys) (ready.kinds p within));
  types = λ p within. all-front (λ change. (task.input p).fits change ≡ true) (at_port p xs) (at_port p ys)
      (subst (AllByRecursion (λ (change : Change). (task.input p).fits change ≡ true)) (at_port-append p xs ys) (ready.types p within));
  keys = λ p within key seen n rows reads.
      let front = front_prefix n xs ys in
      ready.keys p within key seen front.0 rows (subst (λ (l : List Arrival). ReadsAs (task.input p).meaning (at_port p l) rows) (sym front.1) reads);
  placed = λ p within. routed_front (task.input p).exchange (task.input p).route j (at_port p xs) (at_port p ys)
      (subst (IsRoutedBy (task.input p).exchange (task.input p).route j) (at_port-append p xs ys) (ready.placed p within));
}

-- each change of a piece may come to the rule after those before it
pub piece_arrives : (rule : Rule) (task : Task) → TakesAll rule task → (j : ℕ) (before piece : List Arrival) → IsReady task j (before ++ piece) → ArriveAfter rule before piece
piece_arrives rule task takes j before [] ready = tt
piece_arrives rule task takes j before (a ∷ others) ready =
    let all = subst (IsReady task j) (sym (append_assoc before (a ∷ []) others)) ready in
    (ready_arrives rule task takes j before a (ready_front task j (before ++ a ∷ []) others all), piece_arrives rule task takes j (before ++ a ∷ []) others all)
