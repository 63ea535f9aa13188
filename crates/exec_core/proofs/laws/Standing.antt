-- Where a session stands after one more item.
use Rattle.std.specs.Prelude.{◌≡◌, ℕ, List, ◌++◌}
use Rattle.std.proofs.Common.{[], ◌∷◌, refl, sym, ap, subst, ◌∙◌, Ok}
use Rattle.phys_plan.specs.declared.plan.Plan.{Plan}
use Rattle.plan_rules.specs.Doings.{network}
use Rattle.stream_model.specs.declared.events.PrintItem.{PrintItem}
use Rattle.stream_model.specs.Network.{Network}
use Rattle.stream_model.specs.Machine.{State, opened}
use Rattle.stream_model.specs.Runs.{Item, after, state_in, step_item}
use Rattle.stream_model.specs.Drain.{Leads}
use Rattle.source_lines.proofs.laws.Along.{leads_after}
use Rattle.exec_core.specs.declared.session.Session.{Session}
use Rattle.exec_core.specs.Goes.{StandsIn}
use Rattle.exec_core.specs.Stands.{Job, RunsBy, Stands, reached}

after-append : (g : Network) (limit : ℕ) (s : State) (xs ys : List Item) → after g limit s (xs ++ ys) ≡ after g limit (after g limit s xs) ys
after-append g limit s [] ys = refl
after-append g limit s (x ∷ xs) ys = after-append g limit (state_in s (step_item g limit s x)) xs ys

-- items lead on to a state
pub reached_along : (plan : Plan) (limit : ℕ) (items more : List Item) (s t : State) → reached plan limit items ≡ s → Leads (network plan) limit s more t → reached plan limit (items ++ more) ≡ t
reached_along plan limit items more s t is leads =
    let g = network plan in
    after-append g limit (opened g) items more ∙ ap (λ (u : State). after g limit u more) is ∙ leads_after g limit s more t leads

-- a session that stands for them too stands in that state
pub stands_along : (next : Session) (plan : Plan) (limit : ℕ) (handed : List PrintItem) (items more : List Item) (s t : State) → reached plan limit items ≡ s
    → Leads (network plan) limit s more t → Stands next plan limit handed (items ++ more) → StandsIn next plan limit handed t
stands_along next plan limit handed items more s t is leads stands = record { items = items ++ more; stands = stands; is = reached_along plan limit items more s t is leads }

-- one more item leads to the state that the machine answers
reached_more : (plan : Plan) (limit : ℕ) (items : List Item) (item : Item) (s t : State) → reached plan limit items ≡ s → step_item (network plan) limit s item ≡ Ok t → reached plan limit (items ++ item ∷ []) ≡ t
reached_more plan limit items item s t is steps = reached_along plan limit items (item ∷ []) s t is (t, steps, refl)

-- a session that stands for one more item stands in that state
pub stands_more : (next : Session) (plan : Plan) (limit : ℕ) (handed : List PrintItem) (items : List Item) (item : Item) (s t : State) → reached plan limit items ≡ s
    → step_item (network plan) limit s item ≡ Ok t → Stands next plan limit handed (items ++ item ∷ []) → StandsIn next plan limit handed t
stands_more next plan limit handed items item s t is steps stands = record { items = items ++ item ∷ []; stands = stands; is = reached_more plan limit items item s t is steps }

-- so it does where it has handed out as much
pub handed_same : (session : Session) (plan : Plan) (limit : ℕ) (handed others : List PrintItem) (s : State) → handed ≡ others → StandsIn session plan limit handed s → StandsIn session plan limit others s
handed_same session plan limit handed others s same stands = subst (λ (l : List PrintItem). StandsIn session plan limit l s) same stands

-- the job in a session's box stands for the session's run
pub held : (session : Session) (job : Job) → job ≡ session.job.value → (plan : Plan) (limit : ℕ) (handed : List PrintItem) (items : List Item) → Stands session plan limit handed items → RunsBy job plan limit handed items
held session job is plan limit handed items stands = subst (λ (it : Job). RunsBy it plan limit handed items) (sym is) stands.stands_for

-- what the job in a box printed, which a call left as it was
pub same_printed : (boxed left : Job) (printed was : List PrintItem) → printed ≡ boxed.traffic.printed → boxed ≡ left → left.traffic.printed ≡ was → was ≡ printed
same_printed boxed left printed was of_box is same = sym (of_box ∙ ap (λ (job : Job). job.traffic.printed) is ∙ same)
