-- The facts of a node speak of the edges at its ports alone.
use Rattle.std.specs.Prelude.{◌≡◌, ℕ, ◌<◌, true, List, take, Option}
use Rattle.std.proofs.Common.{sym, subst, Some, None}
use Rattle.std.specs.List.{AllByRecursion}
use Rattle.ct_value.specs.Bag.{copies}
use Rattle.ct_change.specs.declared.change.Change.{Change}
use Rattle.ct_change.specs.Changelog.{Rows, AreOf}
use Rattle.op_rules.specs.History.{Arrival, at_port, joined}
use Rattle.op_rules.specs.Rules.{Rule}
use Rattle.op_rules.specs.Edges.{Edge, ReadsAs, IsRouted, IsUnique, IsSeen}
use Rattle.op_rules.specs.Tasks.{Task, IsReady, IsSettled, IsSplit, ComeFixed, ComeApart, Emitted, Facts}
use Rattle.op_rules.specs.Ports.{Takes, TakesAll}
use Rattle.plan_rules.specs.Behaviours.{Behaviour, TakesBy}

module _ (task : Task) (other : ℕ → Edge) (same : (p : ℕ) → p < task.ports → other p ≡ task.input p) where
  abbrev with_other : Task
  with_other = record task { input = other }

  ready : (j : ℕ) (history : List Arrival) → IsReady with_other j history → IsReady task j history
  ready j history r = record {
    ports = r.ports;
    valid = λ p l. subst (λ (e : Edge). (n : ℕ) → (rows : Rows) × ReadsAs e.meaning (at_port p (take n history)) rows) (same p l) (r.valid p l);
    kinds = λ p l. subst (λ (e : Edge). AreOf e.kinds (at_port p history)) (same p l) (r.kinds p l);
    types = λ p l. subst (λ (e : Edge). AllByRecursion (λ change. e.fits change ≡ true) (at_port p history)) (same p l) (r.types p l);
    keys = λ p l. subst (λ (e : Edge). (key : List ℕ) → IsSeen e key → (n : ℕ) (rows : Rows) → ReadsAs e.meaning (at_port p (take n history)) rows → IsUnique key (copies rows)) (same p l) (r.keys p l);
    placed = λ p l. subst (λ (e : Edge). IsRouted e j (at_port p history)) (same p l) (r.placed p l);
  }

  emitted : (j : ℕ) (pieces : List (List Arrival)) (sent : List Change) → Emitted with_other j pieces sent → Emitted task j pieces sent
  emitted j pieces sent e = record { subtask = e.subtask; emitted = e.emitted; ready = ready j (joined pieces) e.ready }

  settled : (whole : ℕ → Rows) → ((p : ℕ) → p < task.ports → IsSettled (other p) (whole p)) → (p : ℕ) → p < task.ports → IsSettled (task.input p) (whole p)
  settled whole s p l = subst (λ (e : Edge). IsSettled e (whole p)) (same p l) (s p l)

  pub facts_of_ports : Facts task → Facts with_other
  facts_of_ports f = record {
    folds_to_answer = λ j pieces sent e rows stand.
        f.folds_to_answer j pieces sent (emitted j pieces sent e) rows
        (λ p l. subst (λ (e : Edge). ReadsAs e.meaning (at_port p (joined pieces)) (rows p) × IsSettled e (rows p)) (same p l) (stand p l));
    prefixes_stand = λ j pieces sent e. f.prefixes_stand j pieces sent (emitted j pieces sent e);
    kinds_stay = λ j pieces sent e. f.kinds_stay j pieces sent (emitted j pieces sent e);
    types_stay = λ j pieces sent e. f.types_stay j pieces sent (emitted j pieces sent e);
    parts_add_up = λ parts whole answers split made.
        f.parts_add_up parts whole answers (λ p l. subst (λ (e : Edge). IsSplit task.subtasks e (λ j. parts j p) (whole p)) (same p l) (split p l)) made;
    local_keys = λ j pieces sent e. f.local_keys j pieces sent (emitted j pieces sent e);
    fixing_sets = λ pieces sent all fixed.
        f.fixing_sets pieces sent (λ j l. emitted j (pieces j) (sent j) (all j l))
        (λ p l. subst (λ (e : Edge). ComeFixed task.subtasks e (λ j. at_port p (joined (pieces j)))) (same p l) (fixed p l));
    after_only = λ pieces sent all apart fixed.
        f.after_only pieces sent (λ j l. emitted j (pieces j) (sent j) (all j l))
        (λ p l. subst (λ (e : Edge). ComeApart task.subtasks e (λ j. at_port p (joined (pieces j)))) (same p l) (apart p l))
        (λ p l. subst (λ (e : Edge). ComeFixed task.subtasks e (λ j. at_port p (joined (pieces j)))) (same p l) (fixed p l));
    answer_types = λ whole answer made s. f.answer_types whole answer made (settled whole s);
    unique_keys = λ whole answer made s. f.unique_keys whole answer made (settled whole s);
  }

  pub takes_of_ports : (rule : Rule) → TakesAll rule task → TakesAll rule with_other
  takes_of_ports rule t = (t.0, λ p l. subst (λ (e : Edge). Takes rule p e) (sym (same p l)) (t.1 p l))

  pub takes_by_ports : (b : Option Behaviour) → TakesBy b task → TakesBy b with_other
  takes_by_ports None t = t
  takes_by_ports (Some b) t = takes_of_ports b.rule t
