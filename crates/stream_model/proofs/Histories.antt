-- Lists that grow at their ends: histories, emissions and what was taken.
use Rattle.std.specs.Prelude.{◌≡◌, ℕ, ◌<◌, ◌==◌, Bool, cond, List, ◌++◌, map}
use Rattle.std.proofs.Common.{true, false, [], ◌∷◌, refl, sym, ap, subst, ◌∙◌, Ok, Err, None}
use Rattle.std.specs.List.{AllByRecursion, filter}
use Rattle.std.proofs.lemmas.List.{append_assoc, append-nil}
use Rattle.ct_change.specs.declared.change.Change.{Change}
use Rattle.ct_change.specs.Changelog.{fold}
use Rattle.op_rules.specs.History.{Arrival, arrival, at_port, from_port, joined}
use Rattle.op_rules.specs.Rules.{Answer, appended, along}
use Rattle.stream_model.specs.declared.events.PrintItem.{PrintItem}
use Rattle.stream_model.specs.declared.events.PrintItem.TheVariants.{Change as Printed, Quiet}
use Rattle.op_rules.specs.Tasks.{Task, emitted_by}
use Rattle.stream_model.specs.Tables.{Table, refusal, AllTaken}
use Rattle.stream_model.specs.Runs.{changes_in}

pub filter-append : {A : Type 0} (q : A → Bool) (xs ys : List A) → filter q (xs ++ ys) ≡ filter q xs ++ filter q ys
filter-append q [] ys = refl
filter-append q (x ∷ xs) ys =
    elim (q x) as (λ b. cond b (x ∷ filter q (xs ++ ys)) (filter q (xs ++ ys)) ≡ cond b (x ∷ filter q xs) (filter q xs) ++ filter q ys) [ true ↦ ap (λ r. x ∷ r) (filter-append q xs ys) | false ↦ filter-append q xs ys ]

pub joined-push : (xs : List (List Arrival)) (y : List Arrival) → joined (xs ++ y ∷ []) ≡ joined xs ++ y
joined-push [] y = append-nil y
joined-push (x ∷ xs) y = ap (λ r. x ++ r) (joined-push xs y) ∙ sym (append_assoc x (joined xs) y)

pub from_port-append : (p i : ℕ) (xs ys : List Arrival) → from_port p i (xs ++ ys) ≡ from_port p i xs ++ from_port p i ys
from_port-append p i [] ys = refl
from_port-append p i (x ∷ xs) ys =
    elim (x.port == p) as (λ b. cond b (cond (x.from == i) (x.change ∷ from_port p i (xs ++ ys)) (from_port p i (xs ++ ys))) (from_port p i (xs ++ ys)) ≡ cond b (cond (x.from == i) (x.change ∷ from_port p i xs) (from_port p i xs)) (from_port p i xs) ++ from_port p i ys) [
      | false ↦ from_port-append p i xs ys
      | true ↦ elim (x.from == i) as (λ b. cond b (x.change ∷ from_port p i (xs ++ ys)) (from_port p i (xs ++ ys)) ≡ cond b (x.change ∷ from_port p i xs) (from_port p i xs) ++ from_port p i ys) [ true ↦ ap (λ r. x.change ∷ r) (from_port-append p i xs ys) | false ↦ from_port-append p i xs ys ]
    ]

pub at_port-append : (p : ℕ) (xs ys : List Arrival) → at_port p (xs ++ ys) ≡ at_port p xs ++ at_port p ys
at_port-append p [] ys = refl
at_port-append p (x ∷ xs) ys =
    elim (x.port == p) as (λ b. cond b (x.change ∷ at_port p (xs ++ ys)) (at_port p (xs ++ ys)) ≡ cond b (x.change ∷ at_port p xs) (at_port p xs) ++ at_port p ys) [ true ↦ ap (λ r. x.change ∷ r) (at_port-append p xs ys) | false ↦ at_port-append p xs ys ]

pub all-append : {A : Type 0} (P : A → Type 0) (xs ys : List A) → AllByRecursion P xs → AllByRecursion P ys → AllByRecursion P (xs ++ ys)
all-append P [] ys h k = k
all-append P (x ∷ xs) ys h k = (h.0, all-append P xs ys h.1 k)

-- ---- emissions

appended-nothing : (a : Answer) → appended a (Ok []) ≡ a
appended-nothing (Err row) = refl
appended-nothing (Ok a) = ap Ok (append-nil a)

nothing-appended : (a : Answer) → appended (Ok []) a ≡ a
nothing-appended (Err row) = refl
nothing-appended (Ok a) = refl

appended_assoc : (a b c : Answer) → appended (appended a b) c ≡ appended a (appended b c)
appended_assoc (Err row) b c = refl
appended_assoc (Ok a) (Err row) c = refl
appended_assoc (Ok a) (Ok b) (Err row) = refl
appended_assoc (Ok a) (Ok b) (Ok c) = ap Ok (append_assoc a b c)

along-push : (emits : List Arrival → List Arrival → Answer) (before : List Arrival) (pieces : List (List Arrival)) (piece : List Arrival) → along emits before (pieces ++ piece ∷ []) ≡ appended (along emits before pieces) (emits (before ++ joined pieces) piece)
along-push emits before [] piece = appended-nothing (emits before piece) ∙ (sym (nothing-appended (emits before piece)) ∙ ap (λ b. appended (Ok []) (emits b piece)) (sym (append-nil before)))
along-push emits before (p ∷ pieces) piece =
    ap (appended (emits before p)) (along-push emits (before ++ p) pieces piece)
    ∙ (sym (appended_assoc (emits before p) (along emits (before ++ p) pieces) _)
    ∙ ap (λ b. appended (appended (emits before p) (along emits (before ++ p) pieces)) (emits b piece)) (append_assoc before p (joined pieces)))

pub emitted-push : (task : Task) (j : ℕ) (pieces : List (List Arrival)) (piece : List Arrival) → emitted_by task j (pieces ++ piece ∷ []) ≡ appended (emitted_by task j pieces) (task.emits (joined pieces) piece)
emitted-push task j pieces piece = ap (appended (Ok (task.opening j))) (along-push task.emits [] pieces piece) ∙ sym (appended_assoc (Ok (task.opening j)) (along task.emits [] pieces) (task.emits (joined pieces) piece))

-- ---- what was taken, and printed

pub taken-push : (table : Table) (before changes : List Change) (change : Change) → AllTaken table before changes → refusal table (fold table.mode (before ++ changes)) change ≡ None → AllTaken table before (changes ++ change ∷ [])
taken-push table before [] change h e = (subst (λ b. refusal table (fold table.mode b) change ≡ None) (append-nil before) e, tt)
taken-push table before (c ∷ changes) change h e = (h.0, taken-push table (before ++ c ∷ []) changes change h.1 (subst (λ b. refusal table (fold table.mode b) change ≡ None) (sym (append_assoc before (c ∷ []) changes)) e))

pub changes_in-append : (xs ys : List PrintItem) → changes_in (xs ++ ys) ≡ changes_in xs ++ changes_in ys
changes_in-append [] ys = refl
changes_in-append (Printed change ∷ xs) ys = ap (λ r. change ∷ r) (changes_in-append xs ys)
changes_in-append (Quiet n ∷ xs) ys = changes_in-append xs ys

pub changes_in-map : (changes : List Change) → changes_in (map Printed changes) ≡ changes
changes_in-map [] = refl
changes_in-map (change ∷ changes) = ap (λ r. change ∷ r) (changes_in-map changes)

-- changes from one subtask at port 0
abbrev pub all_from : ℕ → List Change → List Arrival
all_from j changes = map (λ change. arrival 0 j change) changes

pub at_port-all_from : (j : ℕ) (changes : List Change) → at_port 0 (all_from j changes) ≡ changes
at_port-all_from j [] = refl
at_port-all_from j (change ∷ changes) = ap (λ r. change ∷ r) (at_port-all_from j changes)

pub from_port-all_from : (i j : ℕ) (changes : List Change) → from_port 0 i (all_from j changes) ≡ cond (j == i) changes []
from_port-all_from i j [] = elim (j == i) as (λ b. ◌≡◌ {A = List Change} [] (cond b [] [])) [ true ↦ refl | false ↦ refl ]
from_port-all_from i j (change ∷ changes) =
    elim (j == i) as (λ b. from_port 0 i (all_from j changes) ≡ cond b changes [] → cond b (change ∷ from_port 0 i (all_from j changes)) (from_port 0 i (all_from j changes)) ≡ cond b (change ∷ changes) []) [ true ↦ λ e. ap (λ r. change ∷ r) e | false ↦ λ e. e ] (from_port-all_from i j changes)

pub within-all_from : (many j : ℕ) (changes : List Change) → j < many → AllByRecursion (λ a. a.from < many) (all_from j changes)
within-all_from many j [] l = tt
within-all_from many j (change ∷ changes) l = (l, within-all_from many j changes l)
