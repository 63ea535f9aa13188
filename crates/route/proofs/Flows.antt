-- The change that is taken next of those that were sent.
use Rattle.std.proofs.Common.{◌≡◌, ℕ, zero, suc, ◌+◌, ◌<◌, List, [], ◌∷◌, length, drop, Some, slice_get, sym, ap, ◌∙◌, arith}
use Rattle.ct_change.specs.declared.change.Change.{Change}
use Rattle.route.specs.Channel.{Flow, HasPassed}

-- what stands first behind those that were taken
record IsNext (sent : List Change) (taken : ℕ) (change : Change) (rest : List Change) : Type 0 where
  pub at : slice_get sent taken ≡ Some change
  pub rest_is : drop (suc taken) sent ≡ rest
  pub below : taken < length sent

next : (taken : ℕ) (sent : List Change) (change : Change) (rest : List Change) → drop taken sent ≡ change ∷ rest → IsNext sent taken change rest
next zero [] change rest e = absurd (cc)
next zero (first ∷ sent) change rest e =
    let same : first ≡ change = cc in
    let others : sent ≡ rest = cc in
    record { at = ap Some same; rest_is = others; below = omega arith }
next (suc taken) [] change rest e = absurd (cc)
next (suc taken) (first ∷ sent) change rest e = let n = next taken sent change rest e in record { at = n.at; rest_is = n.rest_is; below = let b = n.below in omega arith }

-- after the change is taken, it was the next, and one more was taken
pub passed_on : (old new : Flow) (change : Change) → old.flight ≡ change ∷ new.flight → new.sent ≡ old.sent → new.taken ≡ old.taken + 1
    → (sent : List Change) (taken : ℕ) → HasPassed old sent taken → (slice_get sent taken ≡ Some change) × HasPassed new sent (taken + 1)
passed_on old new change flight same more sent taken passed =
    let n = next taken sent change new.flight (sym passed.in_flight ∙ flight) in
    let more_by_one : suc taken ≡ taken + 1 = omega arith in (
      n.at,
      record {
        in_flight = sym n.rest_is ∙ ap (λ k. drop k sent) more_by_one;
        sent_count = same ∙ passed.sent_count;
        taken_count = more ∙ ap (λ k. k + 1) passed.taken_count;
        within = let b = n.below in omega arith;
      },
    )
