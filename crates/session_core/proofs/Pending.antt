-- What a subtask emitted for its bundle is handed on, or the bundle wasn't due.
use Rattle.std.proofs.Common.{◌≡◌, ℕ, Bool, cond, List, [], Option, Some, None, Ok, refl, sym, ap, subst, ◌∙◌}
use Rattle.ct_change.specs.declared.change.Change.{Change}
use Rattle.op_rules.specs.History.{Arrival}
use Rattle.op_rules.specs.Rules.{Rule, Answer}
use Rattle.stream_model.specs.declared.events.PrintItem.{PrintItem}
use Rattle.stream_model.specs.Tables.{Table}
use Rattle.stream_model.specs.Network.{Network}
use Rattle.stream_model.specs.Machine.{State, answered, flushed, folded, hand_on}
use Rattle.session_core.specs.declared.session.Session.{Session}
use Rattle.session_core.specs.declared.traffic.Traffic.{Traffic}
use Rattle.session_core.specs.Kept.{HasHandedOn, MayHandOn}
use Rattle.session_core.specs.Runs.{AllRun, pieces_after}
use Rattle.session_core.specs.Sources.{AllCheck}
use Rattle.session_core.specs.Stands.{KeepsAnswer, Pends, next_if}
use Rattle.session_core.proofs.Steps.{folded_carries, outside_put}

module _ {O S : Type 0} (rule_is : O → Rule) (is_broken : O → Bool) (stands : O → List Arrival → Type 0) (takes_pieces : O → Bool) (checks : S → Table → List Change → Type 0) where
  module _ (session : Session O S) (v j : ℕ) (due : Bool) (g : Network) (limit : ℕ) (handed : List PrintItem) (s : State) where
    -- a bundle that isn't due stays
    pub stays : (e : Option (List Change)) → Pends rule_is is_broken stands takes_pieces checks session v j None due g limit handed s → KeepsAnswer rule_is is_broken stands takes_pieces checks (next_if due g limit v j s) (record session { emitted = e }) g limit handed
    stays e p =
        let is : next_if due g limit v j s ≡ Ok s = ap (λ b. cond b (flushed g limit v j s) (Ok s)) p.runs.0 in (
          s,
          is,
          record {
            laid = p.laid;
            nodes_are = p.nodes_are;
            width_is = p.width_is;
            carries = p.carries;
            runs = p.runs.1;
            sources = p.sources;
            outside = p.outside;
            opens = p.opens s is;
          },
        )

    module _ (changes : List Change) (p : Pends rule_is is_broken stands takes_pieces checks session v j (Some changes) due g limit handed s) where
      pub handed_is : next_if due g limit v j s ≡ hand_on g limit v j changes (folded v j s)
      handed_is = ap (λ b. cond b (flushed g limit v j s) (Ok s)) p.runs.0 ∙ ap (λ (a : Answer). answered g limit v j a (folded v j s)) p.runs.2

      pub handed_may : MayHandOn session.wiring session.traffic v j changes g limit handed (folded v j s)
      handed_may = record {
        laid = p.laid;
        carries = folded_carries g limit s v j session.traffic handed p.carries;
        node = p.runs.1;
        subtask = p.subtask;
        fit = λ after done. (p.opens after (handed_is ∙ done)).fits [] tt after refl;
      }

      pub handed_keeps : (t : Traffic) (e : Option (List Change)) → HasHandedOn t v j changes g limit handed (folded v j s) → KeepsAnswer rule_is is_broken stands takes_pieces checks (next_if due g limit v j s) (record session { traffic = t; emitted = e }) g limit handed
      handed_keeps t e done = (
        done.0,
        handed_is ∙ done.1,
        record {
          laid = p.laid;
          nodes_are = p.nodes_are;
          width_is = p.width_is;
          carries = done.3;
          runs = subst (λ (pieces : ℕ → ℕ → List (List Arrival)). AllRun rule_is is_broken stands takes_pieces g session.operators.width session.operators.items.items pieces done.0.bundle) (sym done.2.pieces)
              (subst (λ (bundle : ℕ → ℕ → List Arrival). AllRun rule_is is_broken stands takes_pieces g session.operators.width session.operators.items.items (pieces_after s.pieces s.bundle v j) bundle) (sym done.2.bundle) p.runs.3);
          sources = subst (AllCheck checks g session.sources.items) (sym done.2.taken) p.sources;
          outside = λ w k above. ap (λ (f : ℕ → ℕ → List Arrival). f w k) done.2.bundle ∙ outside_put g s.bundle v j [] (p.laid.wired.counted v p.runs.1) p.outside w k above;
          opens = p.opens done.0 (handed_is ∙ done.1);
        },
      )
