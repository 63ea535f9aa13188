-- Subtasks send what they open with, one behind the other.
use Rattle.std.proofs.Common.{◌≡◌, ℕ, zero, suc, ◌+◌, ◌-◌, ◌*◌, ◌/◌, ◌%◌, ◌<◌, ◌≤◌, nat_lt, ◌==◌, ◌&&◌, Bool, true, false, cond, List, [], ◌∷◌, ◌++◌, length, replicate, Option, Some, None, refl, sym, ap, subst, ◌∙◌, arith, inl, inr, ◌⊎◌, eqb}
use Rattle.std.specs.List.{AllByRecursion, All, filter}
use Rattle.std.proofs.lemmas.Bool.{cases_eq, cases_lt, eq-eqb, ne_eqb, lt-ltb, le-ltb}
use Rattle.std.proofs.lemmas.List.{replicate_more}
use Rattle.std.proofs.lemmas.Nat.{div-mul-add, mod-mul-add, mul-add-lt}
use Rattle.ct_change.specs.declared.change.Change.{Change}
use Rattle.op_rules.specs.Edges.{Edge, goes}
use Rattle.op_rules.specs.History.{Arrival}
use Rattle.op_rules.specs.Rules.{Rule}
use Rattle.op_rules.specs.Tasks.{total}
use Rattle.stream_model.specs.Network.{Network, IsWired}
use Rattle.ct_value.specs.declared.ty.ColTy.{ColTy}
use Rattle.phys_plan.specs.declared.plan.Plan.{Plan}
use Rattle.session_channels.specs.Lanes.{flight_in}
use Rattle.session_core.specs.declared.wiring.Wiring.{Wiring}
use Rattle.session_core.specs.Runs.{HasRunning}
use Rattle.session_subtasks.specs.declared.subtask.Subtask.{Subtask}
use Rattle.session_open.specs.declared.fault.OpenFault.{OpenFault}
use Rattle.session_open.specs.declared.fault.OpenFault.TheVariants.{Limit, Memory}
use Rattle.stream_model.specs.Machine.{opened}
use Rattle.stream_model.specs.Runs.{counts_below}
use Rattle.session_channels.specs.declared.channels.Channels.{Channels}
use Rattle.session_channels.specs.declared.exchange.Route.{Route}
use Rattle.session_channels.specs.declared.exchange.Route.TheVariants.{Forward, Hash}
use Rattle.session_channels.specs.Routes.{IsWide, RoutesFor}
use Rattle.session_channels.specs.Sending.{Carry, sent_by}
use Rattle.session_core.specs.Kept.{AllFit}
use Rattle.session_open.specs.Opening.{HaveOpened, IsStarted, IsOpenedAs, IsTooMany, MayStart, Opens, flight_until, opens_with}

-- ---- sums

pub total_next : (n : ℕ) (f : ℕ → ℕ) → total (n + 1) f ≡ total n f + f n
total_next n f = ap (λ m. total m f) (let e : n + 1 ≡ suc n = omega arith in e)

pub total_more : (k n : ℕ) (f : ℕ → ℕ) → total n f ≤ total (n + k) f
total_more zero n f = let e : total n f ≡ total (n + 0) f = ap (λ m. total m f) (let e : n ≡ n + 0 = omega arith in e) in omega (arith, e)
total_more (suc k) n f =
    let e : total (n + suc k) f ≡ total (n + k) f + f (n + k) = ap (λ m. total m f) (let q : n + suc k ≡ suc (n + k) = omega arith in q) in
    let before = total_more k n f in
    omega (arith, e, before)

pub total_rises : (m n : ℕ) (f : ℕ → ℕ) → m ≤ n → total m f ≤ total n f
total_rises m n f le =
    let e : m + (n - m) ≡ n = omega (arith, le) in
    subst (λ x. total m f ≤ total x f) e (total_more (n - m) m f)

-- ---- one subtask more

split_digits : (w a b c d : ℕ) → b < w → d < w → a * w + b ≡ c * w + d → (a ≡ c) × (b ≡ d)
split_digits w a b c d lb ld e =
    (sym (div-mul-add a w b lb) ∙ (ap (λ n. n / w) e ∙ div-mul-add c w d ld), sym (mod-mul-add a w b lb) ∙ (ap (λ n. n % w) e ∙ mod-mul-add c w d ld))

lt_next : (a b : ℕ) → (a ≡ b → ⊥) → nat_lt a (b + 1) ≡ nat_lt a b
lt_next a b other =
    elim (cases_lt a b) [
      | inl l ↦ lt-ltb a (b + 1) (omega (arith, l)) ∙ sym (lt-ltb a b l)
      | inr ge ↦
          let above : b + 1 ≤ a = elim (cases_eq a b) [ inl same ↦ absurd (other same) | inr off ↦ omega (arith, ge, off) ] in
          le-ltb a (b + 1) above ∙ sym (le-ltb a b ge)
    ]

at_or_off : (m v k j : ℕ) → ((m ≡ v) × (k ≡ j)) ⊎ ((((m == v) && (k == j)) ≡ false) × ((m ≡ v) × (k ≡ j) → ⊥))
at_or_off m v k j =
    elim (cases_eq m v) [
      | inl e ↦ elim (cases_eq k j) [
        | inl f ↦ inl (e, f)
        | inr f ↦ inr (let q : eqb m v ≡ true = eq-eqb m v e in let r : eqb k j ≡ false = ne_eqb k j f in rw (q, r) refl, λ h. f h.1)
      ]
      | inr e ↦ inr (let q : eqb m v ≡ false = ne_eqb m v e in rw q refl, λ h. e h.0)
    ]

module _ (g : Network) (v j : ℕ) (lj : j < g.subtasks) where
  abbrev place : ℕ
  place = v * g.subtasks + j

  pub counted : opens_with g place ≡ length (g.opening v j)
  counted = ap (λ n. length (g.opening n (place % g.subtasks))) (div-mul-add v g.subtasks j lj) ∙ ap (λ n. length (g.opening v n)) (mod-mul-add v g.subtasks j lj)

  pub total_here : total (place + 1) (opens_with g) ≡ total place (opens_with g) + length (g.opening v j)
  total_here = total_next place (opens_with g) ∙ ap (λ n. total place (opens_with g) + n) counted

  abbrev own : ℕ → List Change
  own k = filter (λ change. goes (g.edge v) j k change.row) (g.opening v j)

  started_at : (e i k : ℕ) → i < g.subtasks → sent_by (g.edge v) (flight_until g place) v j (g.opening v j) e i k ≡ flight_until g (place + 1) e i k
  started_at e i k li =
      elim (at_or_off e v i j) [
        | inl p ↦
            let a : eqb v v ≡ true = eq-eqb v v refl in
            let b : eqb j j ≡ true = eq-eqb j j refl in
            let before : nat_lt place place ≡ false = le-ltb place place (omega arith) in
            let now : nat_lt place (place + 1) ≡ true = lt-ltb place (place + 1) (omega arith) in
            subst (λ (m : ℕ). sent_by (g.edge v) (flight_until g place) v j (g.opening v j) m i k ≡ flight_until g (place + 1) m i k) (sym p.0)
            (subst (λ (m : ℕ). sent_by (g.edge v) (flight_until g place) v j (g.opening v j) v m k ≡ flight_until g (place + 1) v m k) (sym p.1)
            (ap (λ c. cond (c && (j == j)) (λ k. flight_until g place v j k ++ own k) (flight_until g place v j) k) a
            ∙ (ap (λ c. cond c (λ k. flight_until g place v j k ++ own k) (flight_until g place v j) k) b
            ∙ (ap (λ c. cond c (own k) [] ++ own k) before
            ∙ sym (ap (λ c. cond c (own k) []) now)))))
        | inr f ↦
            let same = lt_next (e * g.subtasks + i) place (λ same. f.1 (split_digits g.subtasks e i v j li lj same)) in
            ap (λ c. cond c (λ k. flight_until g place v j k ++ own k) (flight_until g place e i) k) f.0
            ∙ sym (ap (λ c. cond c (filter (λ change. goes (g.edge e) i k change.row) (g.opening e i)) []) same)
      ]

  pub started : (channels : Channels) → channels.width ≡ g.subtasks → Carry channels (sent_by (g.edge v) (flight_until g place) v j (g.opening v j)) → Carry channels (flight_until g (place + 1))
  started channels width kept = record { at = λ e i k le li lk. kept.at e i k le li lk ∙ started_at e i k (subst (λ w. i < w) width li) }

-- ---- rows are wide enough

wide_for : (many : ℕ) (route : Route) (edge : Edge) (change : Change) → RoutesFor many route edge → edge.fits change ≡ true → IsWide route change.row
wide_for many Forward edge change is fits = tt
wide_for many (Hash key) edge change is fits = is.wide change fits

pub all_wide : (many : ℕ) (route : Route) (edge : Edge) (changes : List Change) → RoutesFor many route edge → AllByRecursion (λ change. edge.fits change ≡ true) changes → All (λ change. IsWide route change.row) changes
all_wide many route edge [] is fits k d within = absurd (omega (arith, within))
all_wide many route edge (x ∷ xs) is fits zero d within = wide_for many route edge x is fits.0
all_wide many route edge (x ∷ xs) is fits (suc k) d within = all_wide many route edge xs is fits.1 k d (omega (arith, within))

module _ {O : Type 0} (rule_is : O → Rule) (broken_is : O → Bool) (stands : O → List Arrival → Type 0) (takes_pieces : O → Bool) where
  -- what a subtask opens with has its edge's columns
  pub opening_fits : (g : Network) (v j : ℕ) (op : Option (Subtask O)) → IsStarted rule_is broken_is stands takes_pieces g v op → AllFit g (opened g) → j < g.subtasks → AllByRecursion (λ change. (g.edge v).fits change ≡ true) (g.opening v j)
  opening_fits g v j None made fit lj = subst (AllByRecursion (λ (change : Change). (g.edge v).fits change ≡ true)) (sym (made.1 j)) tt
  opening_fits g v j (Some op) made fit lj = fit v j (inr made.0) lj

  pub may_start : (runs : Plan → List (List ColTy) → Network → Type 0) (plan : Plan) (kept : List (List ColTy)) (w : Wiring) (g : Network) (limit : ℕ) (channels : Channels) (v j : ℕ) (op : Option (Subtask O)) (sent : List Change)
      → Opens runs plan kept w g limit → HaveOpened g limit (v * plan.parallelism + j) channels → v < length plan.nodes + 1 → j < plan.parallelism → IsOpenedAs rule_is broken_is stands takes_pieces g v j op sent
      → MayStart w channels v j sent g limit
  may_start runs plan kept w g limit channels v j op sent opens have lv lj made = record {
    laid = opens.laid;
    opened = subst (λ (n : ℕ). HaveOpened g limit (v * n + j) channels) (sym opens.subtasks_are) have;
    node = omega (arith, lv, opens.count_is);
    subtask = omega (arith, lj, opens.subtasks_are);
    changes_are = made.sent_is;
    fit = subst (AllByRecursion (λ (change : Change). (g.edge v).fits change ≡ true)) (sym made.sent_is) (opening_fits g v j op made.made opens.fits (omega (arith, lj, opens.subtasks_are)));
  }

  -- it runs
  pub made_runs : (g : Network) (v : ℕ) (op : Option (Subtask O)) → IsStarted rule_is broken_is stands takes_pieces g v op → HasRunning rule_is broken_is stands takes_pieces g v op [] []
  made_runs g v None made = (made.0, refl)
  made_runs g v (Some subtask) made = record { node = made.0; runs = made.1; held = sym made.2; alone = λ off. refl; few = omega arith }

pub too_many : (limit m n : ℕ) (fault : OpenFault) → m ≤ n → IsTooMany limit m fault → IsTooMany limit n fault
too_many limit m n Limit le h = omega (arith, le, h)
too_many limit m n Memory le h = tt

-- ---- all of them

flat_total : (w : ℕ) (f : ℕ → ℕ → ℕ) (m k : ℕ) → k ≤ w → total (m * w + k) (λ p. f (p / w) (p % w)) ≡ total (m * w) (λ p. f (p / w) (p % w)) + total k (f m)
flat_total w f m zero le = ap (λ n. total n (λ p. f (p / w) (p % w))) (let e : m * w + 0 ≡ m * w = omega arith in e) ∙ (let e : total (m * w) (λ p. f (p / w) (p % w)) ≡ total (m * w) (λ p. f (p / w) (p % w)) + 0 = omega arith in e)
flat_total w f m (suc k) le =
    let before = flat_total w f m k (omega (arith, le)) in
    let next : total (m * w + suc k) (λ p. f (p / w) (p % w)) ≡ total (m * w + k) (λ p. f (p / w) (p % w)) + f ((m * w + k) / w) ((m * w + k) % w) = ap (λ n. total n (λ p. f (p / w) (p % w))) (let e : m * w + suc k ≡ suc (m * w + k) = omega arith in e) in
    let here : f ((m * w + k) / w) ((m * w + k) % w) ≡ f m k = ap (λ n. f n ((m * w + k) % w)) (div-mul-add m w k (omega (arith, le))) ∙ ap (f m) (mod-mul-add m w k (omega (arith, le))) in
    omega (arith, before, next, here)

pub flat : (w : ℕ) (f : ℕ → ℕ → ℕ) (m : ℕ) → total (m * w) (λ p. f (p / w) (p % w)) ≡ total m (λ v. total w (f v))
flat w f zero = ap (λ n. total n (λ p. f (p / w) (p % w))) (let e : 0 * w ≡ 0 = omega arith in e)
flat w f (suc m) =
    let before = flat w f m in
    let next = flat_total w f m w (omega arith) in
    let e : total (suc m * w) (λ p. f (p / w) (p % w)) ≡ total (m * w + w) (λ p. f (p / w) (p % w)) = ap (λ n. total n (λ p. f (p / w) (p % w))) (let e : suc m * w ≡ m * w + w = omega arith in e) in
    omega (arith, before, next, e)

total_same : (n : ℕ) (f h : ℕ → ℕ) → ((k : ℕ) → f k ≡ h k) → total n f ≡ total n h
total_same zero f h same = refl
total_same (suc n) f h same = let a = total_same n f h same in let b = same n in omega (arith, a, b)

total_none : (n : ℕ) (f : ℕ → ℕ) → ((k : ℕ) → f k ≡ 0) → total n f ≡ 0
total_none zero f none = refl
total_none (suc n) f none = let a = total_none n f none in let b = none n in omega (arith, a, b)

pub in_table : (m w v j : ℕ) → v < m → j < w → v * w + j < m * w
in_table m w v j lv lj = let e : w * m ≡ m * w = omega arith in let l = mul-add-lt v w j m lv lj in omega (arith, e, l)

module _ (g : Network) (wired : IsWired g) where
  -- how many changes all subtasks open with
  pub all_counted : total ((g.count + 1) * g.subtasks) (opens_with g) ≡ (opened g).sends
  all_counted =
      let each : ℕ → ℕ → ℕ = λ v i. length (g.opening v i) in
      let last : total g.subtasks (each g.count) ≡ 0 = total_none g.subtasks (each g.count) (λ i. ap length (wired.opens g.count i (omega arith))) in
      let sum : total ((g.count + 1) * g.subtasks) (opens_with g) ≡ total (g.count + 1) (λ v. total g.subtasks (each v)) = flat g.subtasks (λ v i. length (g.opening v i)) (g.count + 1) in
      let next : total (g.count + 1) (λ v. total g.subtasks (each v)) ≡ total g.count (λ v. total g.subtasks (each v)) + total g.subtasks (each g.count) = total_next g.count (λ v. total g.subtasks (each v)) in
      sum ∙ (next ∙ (ap (λ n. total g.count (λ v. total g.subtasks (each v)) + n) last ∙ (let e : total g.count (λ v. total g.subtasks (λ i. length (g.opening v i))) + 0 ≡ total g.count (λ v. total g.subtasks (λ i. length (g.opening v i))) = omega arith in e)))

  -- what is in flight when all have sent what they open with
  pub all_started : (limit : ℕ) (channels : Channels) → HaveOpened g limit ((g.count + 1) * g.subtasks) channels → Carry channels (opened g).flight
  all_started limit channels have = record {
    at = λ e i j le li lj.
        have.flight.at e i j le li lj
        ∙ ap (λ b. cond b (filter (λ change. goes (g.edge e) i j change.row) (g.opening e i)) [])
        (lt-ltb (e * g.subtasks + i) ((g.count + 1) * g.subtasks) (in_table (g.count + 1) g.subtasks e i (omega (arith, le, have.edges)) (omega (arith, li, have.width))));
  }

-- a zero for each table
pub none_counted : (n : ℕ) → replicate n 0 ≡ counts_below (λ table. []) n
none_counted zero = refl
none_counted (suc n) =
    ap (λ (m : ℕ). replicate m 0) (let e : suc n ≡ n + 1 = omega arith in e) ∙ (sym (replicate_more n 0) ∙ ap (λ (l : List ℕ). l ++ 0 ∷ []) (none_counted n))

-- channels through which nothing was sent
pub none_started : (g : Network) (limit : ℕ) (channels : Channels) → channels.width ≡ g.subtasks → channels.edges ≡ g.count + 1 → channels.sent ≡ 0
    → flight_in channels.width channels.lanes.items ≡ (λ e i j. []) → HaveOpened g limit 0 channels
none_started g limit channels width edges sent empty = record {
  width = width;
  edges = edges;
  flight = record { at = λ e i j le li lj. ap (λ (f : ℕ → ℕ → ℕ → List Change). f e i j) empty ∙ sym (ap (λ b. cond b (filter (λ change. goes (g.edge e) i j change.row) (g.opening e i)) []) (le-ltb (e * g.subtasks + i) 0 (omega arith))) };
  sent = sent;
  within = omega (arith, sent);
}
