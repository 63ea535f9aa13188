-- What holds in every state of every run over a sound plan.
use Rattle.std.specs.Prelude.{◌≡◌, ℕ, List}
use Rattle.std.proofs.Common.{true, [], ◌∷◌, sym, ap, subst, ◌∙◌}
use Rattle.std.specs.List.{AllByRecursion}
use Rattle.std.proofs.lemmas.Bool.{eqb-true}
use Rattle.ct_value.specs.Rows.{project}
use Rattle.ct_value.specs.declared.row.Row.{Row}
use Rattle.ct_change.specs.declared.change.Change.{Change}
use Rattle.op_rules.specs.Edges.{AreApartBy, Exchange, IsApart, IsKeyedBy, Meaning, bag, forward, goes_by, hash, last_rows, partials}
use Rattle.plan_rules.specs.Doings.{network}
use Rattle.stream_model.specs.Machine.{State}
use Rattle.stream_model.specs.Network.{IsWired, Network}
use Rattle.stream_model.specs.Theorem.{Composes, Holds}
use Rattle.sound_plans.specs.Sound.{SoundPlansAreWired, SoundPlansMeetFacts}
use Rattle.sound_plans.specs.States.{KeysKeepToChannels, SoundPlansHold}

all_map : (P Q : Change → Type 0) → ((change : Change) → P change → Q change) → (changes : List Change) → AllByRecursion P changes → AllByRecursion Q changes
all_map P Q each [] all = tt
all_map P Q each (change ∷ changes) all = (each change all.0, all_map P Q each changes all.1)

apart_by : (meaning : Meaning) (key : List ℕ) (many : ℕ) (lists : ℕ → List Change) → meaning ≡ last_rows key → AreApartBy meaning many lists → IsApart key many lists
apart_by bag key many lists is apart = absurd (cc (is))
apart_by (last_rows other) key many lists is apart = let same : other ≡ key = cc (is) in subst (λ columns. IsApart columns many lists) same apart
apart_by (partials p) key many lists is apart = absurd (cc (is))

one_way : (meaning : Meaning) (exchange : Exchange) (route : Row → ℕ) (key : List ℕ) (row other : Row) (i j to others_to : ℕ) → meaning ≡ last_rows key → IsKeyedBy meaning exchange → project key row ≡ project key other → i ≡ j
    → goes_by exchange route i to row ≡ true → goes_by exchange route j others_to other ≡ true → to ≡ others_to
one_way bag exchange route key row other i j to others_to is keyed agree one goes others = absurd (cc (is))
one_way (last_rows k) forward route key row other i j to others_to is keyed agree one goes others = sym (eqb-true i to goes) ∙ one ∙ eqb-true j others_to others
one_way (last_rows k) (hash columns) route key row other i j to others_to is keyed agree one goes others =
    let same : k ≡ key = cc (is) in
    let columns_agree : project columns row ≡ project columns other = keyed row other (subst (λ c. project c row ≡ project c other) (sym same) agree) in
    sym (eqb-true (route (project columns row)) to goes) ∙ ap route columns_agree ∙ eqb-true (route (project columns other)) others_to others
one_way (partials p) exchange route key row other i j to others_to is keyed agree one goes others = absurd (cc (is))

module _ (g : Network) (wired : IsWired g) (s : State) (holds : Holds g s) where
  pub keys_keep : KeysKeepToChannels g s
  keys_keep v i j to others_to key node li lj is =
      let edge = g.edge v in
      let apart = apart_by edge.meaning key g.subtasks (s.sent v) is (holds.fine v node).apart in
      all_map _ _
      (λ change all. all_map _ _
      (λ other together agree goes others. let one = together agree in (one, one_way edge.meaning edge.exchange edge.route key change.row other.row i j to others_to is (wired.formed v).keyed agree one goes others))
      (s.sent v j) all)
      (s.sent v i) (apart i j li lj)

pub plans_hold : SoundPlansAreWired → SoundPlansMeetFacts → Composes → SoundPlansHold
plans_hold wired meets composes plan ruled limit items typed =
    let g = network plan in
    let holds = composes g (wired plan ruled) (meets plan ruled) limit items typed in
    record { holds = holds; channels = keys_keep g (wired plan ruled) _ holds }
