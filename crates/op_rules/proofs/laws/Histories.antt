-- Histories by port, and answers one behind the other.
use Rattle.std.proofs.Common.{◌≡◌, ℕ, zero, suc, ◌==◌, true, false, cond, List, [], ◌∷◌, ◌++◌, take, Ok, Err, refl, ap, ◌∙◌}
use Rattle.std.specs.List.{AllByRecursion}
use Rattle.std.proofs.lemmas.Bool.{eq-eqb}
use Rattle.ct_value.specs.Bag.{none}
use Rattle.ct_change.specs.declared.change.Change.{Change}
use Rattle.ct_change.specs.Changelog.{Mode, fold, fold_from}
use Rattle.ct_change.proofs.laws.Folds.{fold_from-append}
use Rattle.op_rules.specs.History.{Arrival, at_port}
use Rattle.op_rules.specs.Rules.{Answer, appended}

-- ---- lists of changes

pub all-append : {A : Type 0} (P : A → Type 0) (xs ys : List A) → AllByRecursion P xs → AllByRecursion P ys → AllByRecursion P (xs ++ ys)
all-append P [] ys p q = q
all-append P (x ∷ xs) ys p q = (p.0, all-append P xs ys p.1 q)

pub all-front : {A : Type 0} (P : A → Type 0) (xs ys : List A) → AllByRecursion P (xs ++ ys) → AllByRecursion P xs
all-front P [] ys p = tt
all-front P (x ∷ xs) ys p = (p.0, all-front P xs ys p.1)

pub all-back : {A : Type 0} (P : A → Type 0) (xs ys : List A) → AllByRecursion P (xs ++ ys) → AllByRecursion P ys
all-back P [] ys p = p
all-back P (x ∷ xs) ys p = all-back P xs ys p.1

pub all-each : {A : Type 0} (P Q : A → Type 0) → ((x : A) → P x → Q x) → (xs : List A) → AllByRecursion P xs → AllByRecursion Q xs
all-each P Q h [] p = tt
all-each P Q h (x ∷ xs) p = (h x p.0, all-each P Q h xs p.1)

-- ---- by port

pub at_port-append : (port : ℕ) (xs ys : List Arrival) → at_port port (xs ++ ys) ≡ at_port port xs ++ at_port port ys
at_port-append port [] ys = refl
at_port-append port (a ∷ xs) ys =
    elim (a.port == port) as (λ b. cond b (a.change ∷ at_port port (xs ++ ys)) (at_port port (xs ++ ys)) ≡ cond b (a.change ∷ at_port port xs) (at_port port xs) ++ at_port port ys) [
      | true ↦ ap (λ zs. a.change ∷ zs) (at_port-append port xs ys)
      | false ↦ at_port-append port xs ys
    ]

pub at_port-one : (port : ℕ) (a : Arrival) → a.port ≡ port → at_port port (a ∷ []) ≡ a.change ∷ []
at_port-one port a e = ap (λ b. cond b (a.change ∷ []) []) (eq-eqb a.port port e)

pub at_port-push : (port : ℕ) (before : List Arrival) (a : Arrival) → a.port ≡ port → at_port port (before ++ a ∷ []) ≡ at_port port before ++ a.change ∷ []
at_port-push port before a e = at_port-append port before (a ∷ []) ∙ ap (λ xs. at_port port before ++ xs) (at_port-one port a e)

-- each prefix of a port's changes came with a prefix of the history
pub prefix_at : (port n : ℕ) (history : List Arrival) → (m : ℕ) × (at_port port (take m history) ≡ take n (at_port port history))
prefix_at port zero history = (0, refl)
prefix_at port (suc n) [] = (0, refl)
prefix_at port (suc n) (a ∷ others) =
    elim (a.port == port) as (λ b. (a.port == port) ≡ b → (m : ℕ) × (at_port port (take m (a ∷ others)) ≡ take (suc n) (cond b (a.change ∷ at_port port others) (at_port port others)))) [
      | true ↦ λ e.
          let rest = prefix_at port n others in
          (suc rest.0, ap (λ b. cond b (a.change ∷ at_port port (take rest.0 others)) (at_port port (take rest.0 others))) e ∙ ap (λ zs. a.change ∷ zs) rest.1)
      | false ↦ λ e.
          let rest = prefix_at port (suc n) others in
          (suc rest.0, ap (λ b. cond b (a.change ∷ at_port port (take rest.0 others)) (at_port port (take rest.0 others))) e ∙ rest.1)
    ] refl

-- the rows after a piece
pub rows_after : (mode : Mode) (before piece : List Arrival) → fold mode (at_port 0 (before ++ piece)) ≡ fold_from mode (fold mode (at_port 0 before)) (at_port 0 piece)
rows_after mode before piece = ap (fold mode) (at_port-append 0 before piece) ∙ fold_from-append mode none (at_port 0 before) (at_port 0 piece)

-- ---- answers

pub appended-nothing : (answer : Answer) → appended (Ok []) answer ≡ answer
appended-nothing (Ok changes) = refl
appended-nothing (Err row) = refl

-- where two answers together are there, each is
pub record Both (first second : Answer) (sent : List Change) : Type 0 where
  pub front : List Change
  pub back : List Change
  pub is_front : first ≡ Ok front
  pub is_back : second ≡ Ok back
  pub whole : sent ≡ front ++ back

pub ok-same : (a b : List Change) → (let r : Answer = Ok a in r ≡ Ok b) → b ≡ a
ok-same a b e = cc

pub both-appended : (first second : Answer) (sent : List Change) → appended first second ≡ Ok sent → Both first second sent
both-appended (Ok a) (Ok b) sent e = record { front = a; back = b; is_front = refl; is_back = refl; whole = ok-same (a ++ b) sent e }
both-appended (Ok a) (Err row) sent e = absurd (cc)
both-appended (Err row) second sent e = absurd (cc)
