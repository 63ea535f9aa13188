-- Arrivals, each of which may come to a local group after those before it, as changes of which partial rows may be told.
use Rattle.std.proofs.Common.{◌≡◌, ℕ, suc, ◌+◌, ◌*◌, ◌<◌, ◌≤◌, Bool, true, false, cond, List, [], ◌∷◌, ◌++◌, length, map, refl, sym, ap, subst, ◌∙◌, arith}
use Rattle.std.proofs.lemmas.List.{length-map}
use Rattle.std.proofs.lemmas.Bool.{eq-eqb, false≢true}
use Rattle.std.specs.List.{AllByRecursion}
use Rattle.ct_change.specs.declared.change.Change.{Change}
use Rattle.ct_change.specs.Changelog.{Mode, append, Rows, adds, MayCome}
use Rattle.ct_change.proofs.laws.Folds.{append_only}
use Rattle.rel_algebra.specs.declared.agg.Agg.{Agg}
use Rattle.agg_fns.specs.Partial.{is_signed}
use Rattle.op_rules.specs.History.{Arrival, arrival, at_port}
use Rattle.op_rules.specs.Rules.{Answer, MayArrive, ArriveAfter, MayTakePiece, work_along}
use Rattle.op_rules.proofs.laws.Histories.{at_port-one}
use Rattle.emission_rules.specs.Grouping.{answers, groups_of}
use Rattle.phase_rules.specs.LocalGrouping.{LocalGrouping, SumsUp, local_answer, local_emits, members_of, local_rule}
use Rattle.op_local.specs.Amounting.{AreSigned}
use Rattle.op_local.specs.Telling.{MayBeTold}

first_port : (port : ℕ) → port < 1 → port ≡ 0
first_port port less = omega arith

-- a change that takes a row away comes only where all calls are signed
signed_by : (mode : Mode) (rows : Rows) (change : Change) → MayCome mode rows change → (aggs : List Agg) → AllByRecursion (λ agg. is_signed agg.call ≡ false → mode ≡ append) aggs → adds change.kind ≡ false → AreSigned aggs
signed_by mode rows change may [] stay goes = tt
signed_by mode rows change may (agg ∷ aggs) stay goes = (one (is_signed agg.call) refl, signed_by mode rows change may aggs stay.1 goes)
  where
    one : (b : Bool) → is_signed agg.call ≡ b → is_signed agg.call ≡ true
    one true e = e
    one false e = absurd (false≢true (sym goes ∙ append_only change.kind (subst (λ m. MayCome m rows change) (stay.0 e) may)))

module _ (l : LocalGrouping) (sums_up : SumsUp l) where
  may_go : (before : List Arrival) (a : Arrival) → MayArrive (local_rule l) before a → adds a.change.kind ≡ false → AreSigned l.aggs
  may_go before a may goes = signed_by l.input _ a.change may.change l.aggs sums_up.stay goes

  signed_all : (before piece : List Arrival) → ArriveAfter (local_rule l) before piece → AllByRecursion (λ change. adds change.kind ≡ false → AreSigned l.aggs) (map (λ a. a.change) piece)
  signed_all before [] arrive = tt
  signed_all before (a ∷ piece) arrive = (may_go before a arrive.0, signed_all (before ++ a ∷ []) piece arrive.1)

  at_its_port : (before piece : List Arrival) → ArriveAfter (local_rule l) before piece → at_port 0 piece ≡ map (λ a. a.change) piece
  at_its_port before [] arrive = refl
  at_its_port before (a ∷ piece) arrive =
      ap (λ b. cond b (a.change ∷ at_port 0 piece) (at_port 0 piece)) (eq-eqb a.port 0 (first_port a.port arrive.0.port))
      ∙ ap (λ cs. a.change ∷ cs) (at_its_port (before ++ a ∷ []) piece arrive.1)

  -- ---- a piece

  module _ (before piece : List Arrival) (changes : List Change) (may : MayTakePiece (local_rule l) before piece changes) where
    pub may_tell : MayBeTold l.aggs changes
    may_tell = record {
      have = sums_up.have_partials;
      signed = subst (AllByRecursion (λ change. adds change.kind ≡ false → AreSigned l.aggs)) may.is (signed_all before piece may.arrive);
      few = let size = ap length (sym may.is) ∙ length-map piece (λ (a : Arrival). a.change) in let few = may.few in omega (arith, size, few);
    }

    pub emits_told : (answer : Answer) → answers (λ key. local_answer l.aggs key (members_of l.keys key changes)) (groups_of l.keys changes) ≡ answer → (local_rule l).emits before piece ≡ answer
    emits_told answer e = ap (local_emits l) (at_its_port before piece may.arrive ∙ may.is) ∙ e

    pub size : length changes ≡ length piece
    size = ap length (sym may.is) ∙ length-map piece (λ (a : Arrival). a.change)

  at_most_work : (each rest work : ℕ) → rest ≤ work → suc rest ≤ 2 + 3 * each + work
  at_most_work each rest work h = omega (arith, h)

  pub work_enough : (before piece : List Arrival) → length piece ≤ work_along (local_rule l) before piece
  work_enough before [] = omega arith
  work_enough before (a ∷ piece) = at_most_work (length l.aggs) (length piece) (work_along (local_rule l) (before ++ a ∷ []) piece) (work_enough (before ++ a ∷ []) piece)

  -- the steps of the changes are within the rule's
  pub within : (before piece : List Arrival) (changes : List Change) → MayTakePiece (local_rule l) before piece changes → (old new : ℕ) → new ≤ old + length changes → new ≤ old + work_along (local_rule l) before piece
  within before piece changes may old new h = let count = size before piece changes may in let enough = work_enough before piece in omega (arith, h, count, enough)

  -- ---- one change

  module _ (before : List Arrival) (port from : ℕ) (change : Change) (may : MayArrive (local_rule l) before (arrival port from change)) where
    pub may_tell_one : MayBeTold l.aggs (change ∷ [])
    may_tell_one = record {
      have = sums_up.have_partials;
      signed = (may_go before (arrival port from change) may, tt);
      few = omega arith;
    }

    pub emits_one : (answer : Answer) → answers (λ key. local_answer l.aggs key (members_of l.keys key (change ∷ []))) (groups_of l.keys (change ∷ [])) ≡ answer → (local_rule l).emits before (arrival port from change ∷ []) ≡ answer
    emits_one answer e = ap (local_emits l) (at_port-one 0 (arrival port from change) (first_port port may.port)) ∙ e
