-- Quiet items among printed ones.
use Rattle.std.specs.Prelude.{◌≡◌, ℕ, List, ◌++◌, map}
use Rattle.std.proofs.Common.{[], ◌∷◌, refl, ap, inl, inr, ◌⊎◌}
use Rattle.ct_change.specs.declared.change.Change.{Change}
use Rattle.stream_model.specs.declared.events.PrintItem.{PrintItem}
use Rattle.stream_model.specs.declared.events.PrintItem.TheVariants.{Change as Printed, Quiet}

pub no_quiet_in : (changes : List Change) (before after : List PrintItem) (counts : List ℕ) → map Printed changes ≡ before ++ Quiet counts ∷ after → ⊥
no_quiet_in [] [] after counts e = absurd (cc (e))
no_quiet_in [] (item ∷ before) after counts e = absurd (cc (e))
no_quiet_in (change ∷ changes) [] after counts e = absurd (cc (e))
no_quiet_in (change ∷ changes) (item ∷ before) after counts e = no_quiet_in changes before after counts (cc (e))

-- a quiet item among items and changes behind them is one of the items
abbrev pub IsAmong : List PrintItem → List PrintItem → List ℕ → Type 0
IsAmong items before counts = (after : List PrintItem) × (items ≡ before ++ Quiet counts ∷ after)

among_more : (item other : PrintItem) (items before : List PrintItem) (counts : List ℕ) → item ≡ other → IsAmong items before counts → IsAmong (item ∷ items) (other ∷ before) counts
among_more item other items before counts same (after, is) = (after, rw (same, is) refl)

pub before_changes : (items : List PrintItem) (changes : List Change) (before after : List PrintItem) (counts : List ℕ) → items ++ map Printed changes ≡ before ++ Quiet counts ∷ after → IsAmong items before counts
before_changes [] changes before after counts e = absurd (no_quiet_in changes before after counts e)
before_changes (item ∷ items) changes [] after counts e = let same : item ≡ Quiet counts = cc (e) in (items, ap (λ x. x ∷ items) same)
before_changes (item ∷ items) changes (other ∷ before) after counts e =
    let same : item ≡ other = cc (e) in
    among_more item other items before counts same (before_changes items changes before after counts (cc (e)))

-- and among items and a quiet one behind them it is one of the items, or that
abbrev pub IsLast : List PrintItem → List PrintItem → List ℕ → List ℕ → Type 0
IsLast items before last counts = (items ≡ before) × (last ≡ counts)

last_more : (item other : PrintItem) (items before : List PrintItem) (last counts : List ℕ) → item ≡ other → IsAmong items before counts ⊎ IsLast items before last counts
    → IsAmong (item ∷ items) (other ∷ before) counts ⊎ IsLast (item ∷ items) (other ∷ before) last counts
last_more item other items before last counts same (inl among) = inl (among_more item other items before counts same among)
last_more item other items before last counts same (inr is) = inr (rw (same, is.0) refl, is.1)

pub before_quiet : (items : List PrintItem) (last : List ℕ) (before after : List PrintItem) (counts : List ℕ) → items ++ Quiet last ∷ [] ≡ before ++ Quiet counts ∷ after → IsAmong items before counts ⊎ IsLast items before last counts
before_quiet [] last [] after counts e = inr (refl, cc (e))
before_quiet [] last (item ∷ []) after counts e = absurd (cc (e))
before_quiet [] last (item ∷ (other ∷ before)) after counts e = absurd (cc (e))
before_quiet (item ∷ items) last [] after counts e = let same : item ≡ Quiet counts = cc (e) in inl (items, ap (λ x. x ∷ items) same)
before_quiet (item ∷ items) last (other ∷ before) after counts e =
    let same : item ≡ other = cc (e) in
    last_more item other items before last counts same (before_quiet items last before after counts (cc (e)))
