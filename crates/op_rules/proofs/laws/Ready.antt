-- What a subtask may rely on lets each change come.
use Rattle.std.proofs.Common.{◌≡◌, ℕ, ◌<◌, true, List, [], ◌∷◌, ◌++◌, take, refl, subst}
use Rattle.std.specs.List.{AllByRecursion}
use Rattle.ct_value.specs.Bag.{none}
use Rattle.ct_change.specs.declared.change.Change.{Change}
use Rattle.ct_change.specs.Changelog.{Mode, append, retract, upsert, Rows, has, admits, IsValid, IsValidFrom, Means}
use Rattle.ct_change.proofs.laws.Folds.{IsValidFrom-back}
use Rattle.ct_change.proofs.laws.Meanings.{valid_where_means}
use Rattle.op_rules.specs.History.{at_port}
use Rattle.op_rules.specs.Edges.{Meaning, bag, last_rows, partials, ReadsAs}
use Rattle.op_rules.specs.Ports.{IsReadIn, ReadyArrives}
use Rattle.op_rules.proofs.laws.Histories.{all-back, all-each, at_port-push, prefix_at}

-- of kinds that the mode admits, and each prefix of them stands for some rows
valid_as : (meaning : Meaning) (mode : Mode) → IsReadIn meaning mode → (changes : List Change) → AllByRecursion (λ change. admits mode change.kind ≡ true) changes
    → ((n : ℕ) → (rows : Rows) × ReadsAs meaning (take n changes) rows) → IsValid mode changes
valid_as bag append reads changes kinds stands = valid_where_means append changes kinds stands
valid_as bag retract reads changes kinds stands = valid_where_means retract changes kinds stands
valid_as bag (upsert key) reads changes kinds stands = absurd reads
valid_as (last_rows columns) append reads changes kinds stands = absurd reads
valid_as (last_rows columns) retract reads changes kinds stands = absurd reads
valid_as (last_rows columns) (upsert key) reads changes kinds stands =
    valid_where_means (upsert key) changes kinds (λ n. ((stands n).0, subst (λ k. Means (upsert k) (take n changes) (stands n).0) reads (stands n).1))
valid_as (partials p) append reads changes kinds stands = only_inserts changes kinds none
  where
    only_inserts : (changes : List Change) → AllByRecursion (λ change. admits append change.kind ≡ true) changes → (rows : Rows) → IsValidFrom append rows changes
    only_inserts [] kinds rows = tt
    only_inserts (change ∷ changes) kinds rows = (kinds.0, only_inserts changes kinds.1 _)
valid_as (partials p) retract reads changes kinds stands = absurd reads
valid_as (partials p) (upsert key) reads changes kinds stands = absurd reads

pub ready_arrives : ReadyArrives
ready_arrives rule task takes j before a ready =
    let known : a.port < task.ports = (all-back (λ x. x.port < task.ports) before (a ∷ []) ready.ports).0 in
    let port = takes.1 a.port known in
    let mode = rule.mode a.port in
    let edge = task.input a.port in
    let history = before ++ a ∷ [] in
    let split = at_port-push a.port before a refl in
    let kinds = all-each (λ change. has edge.kinds change.kind ≡ true) (λ change. admits mode change.kind ≡ true) (λ change e. port.kinds change.kind e) (at_port a.port history) (ready.kinds a.port known) in
    let stands : (n : ℕ) → (rows : Rows) × ReadsAs edge.meaning (take n (at_port a.port history)) rows =
    λ n. let front = prefix_at a.port n history in let s = ready.valid a.port known front.0 in (s.0, subst (λ changes. ReadsAs edge.meaning changes s.0) front.1 s.1) in
    let valid = subst (IsValid mode) split (valid_as edge.meaning mode port.reads (at_port a.port history) kinds stands) in
    let fits = (all-back (λ change. edge.fits change ≡ true) (at_port a.port before) (a.change ∷ []) (subst (AllByRecursion (λ change. edge.fits change ≡ true)) split (ready.types a.port known))).0 in
    record {
      port = subst (λ n. a.port < n) takes.0 known;
      change = (IsValidFrom-back mode none (at_port a.port before) (a.change ∷ []) valid).0;
      fits = port.fits a.change fits;
      key = port.keyed a.change fits;
    }
