-- What is in flight after the front of a channel was taken, and after the scans of a table sent a change.
use Rattle.std.proofs.Common.{◌≡◌, ℕ, zero, suc, ◌+◌, ◌<◌, ◌≤◌, nat_lt, nat_le, ◌==◌, ◌&&◌, Bool, true, false, cond, List, [], ◌∷◌, ◌++◌, length, Option, Some, None, Ok, Err, refl, sym, ap, subst, ◌∙◌, arith, inl, inr, ◌⊎◌, eqb}
use Rattle.std.specs.List.{AllByRecursion, All, filter}
use Rattle.std.proofs.lemmas.List.{length-append}
use Rattle.std.proofs.lemmas.List.Sums.{fold-append}
use Rattle.std.proofs.lemmas.Bool.{cases_eq, cases_Bool, eq-eqb, ne_eqb, eqb-true, and_parts, and_from, lt-ltb, le-leb, ltb-true, leb-true, false≢true}
use Rattle.ct_value.specs.Rows.{project}
use Rattle.ct_change.specs.declared.change.Change.{Change}
use Rattle.op_rules.specs.Edges.{Edge, goes}
use Rattle.op_rules.specs.Tasks.{total}
use Rattle.stream_model.specs.declared.events.StepFault.TheVariants.{Limit}
use Rattle.stream_model.specs.Tables.{Table, scanned_at}
use Rattle.stream_model.specs.Network.{Network, IsWired}
use Rattle.stream_model.specs.Machine.{State, put, hand_on, send, print, is_number, is_scan_of, scan_count, scanned, take_within}
use Rattle.session_channels.specs.declared.channels.Channels.{Channels}
use Rattle.session_channels.specs.declared.exchange.Route.{Route}
use Rattle.session_channels.specs.declared.exchange.Route.TheVariants.{Forward, Hash}
use Rattle.session_channels.specs.Lanes as lanes
use Rattle.session_channels.specs.Lanes.{flight_in}
use Rattle.session_channels.specs.Routes.{IsWide, RoutesFor}
use Rattle.session_channels.specs.Sending.{Carry, sent_by, scanned_by}
use Rattle.session_core.specs.LaidOut.{scans_below}
use Rattle.session_core.specs.Kept.{AllFit}

-- at the place, or the test is false
pub at_or_off : (m v k j : ℕ) → ((m ≡ v) × (k ≡ j)) ⊎ (((m == v) && (k == j)) ≡ false)
at_or_off m v k j =
    elim (cases_eq m v) [
      | inl e ↦ elim (cases_eq k j) [
        | inl f ↦ inl (e, f)
        | inr f ↦ inr (let q : eqb m v ≡ true = eq-eqb m v e in let r : eqb k j ≡ false = ne_eqb k j f in rw (q, r) refl)
      ]
      | inr e ↦ inr (let q : eqb m v ≡ false = ne_eqb m v e in rw q refl)
    ]

-- a function changed at a place
pub put_here : {A : Type 0} (f : ℕ → ℕ → A) (v i : ℕ) (x : A) → put f v i x v i ≡ x
put_here f v i x =
    let a : eqb v v ≡ true = eq-eqb v v refl in
    let b : eqb i i ≡ true = eq-eqb i i refl in
    rw (a, b) refl

-- ---- the front of a channel

pub carry_front : (old new : Channels) (flight : ℕ → ℕ → ℕ → List Change) (e i j : ℕ) (rest : List Change) → Carry old flight → new.edges ≡ old.edges → new.width ≡ old.width
    → flight_in new.width new.lanes.items ≡ lanes.put (flight_in old.width old.lanes.items) e i j rest
    → Carry new (put flight e i (λ k. cond (k == j) rest (flight e i k)))
carry_front old new flight e i j rest kept edges width now = record {
  at = λ m k n lm lk ln.
      let was = kept.at m k n (subst (λ b. m < b) edges lm) (subst (λ b. k < b) width lk) (subst (λ b. n < b) width ln) in
      ap (λ (f : ℕ → ℕ → ℕ → List Change). f m k n) now
      ∙ elim (at_or_off m e k i) [
        | inl p ↦
            let a : eqb e e ≡ true = eq-eqb e e refl in let b : eqb i i ≡ true = eq-eqb i i refl in
            let here : flight_in old.width old.lanes.items e i n ≡ flight e i n = subst (λ (x : ℕ). flight_in old.width old.lanes.items x i n ≡ flight x i n) p.0 (subst (λ (x : ℕ). flight_in old.width old.lanes.items m x n ≡ flight m x n) p.1 was) in
            rw (p.0, p.1, a, b) (ap (λ l. cond (n == j) rest l) here)
        | inr f ↦ rw f (off_lane m k n f ∙ was)
      ];
}
  where
    off_lane : (m k n : ℕ) → ((m == e) && (k == i)) ≡ false → lanes.put (flight_in old.width old.lanes.items) e i j rest m k n ≡ flight_in old.width old.lanes.items m k n
    off_lane m k n f =
        elim (cases_Bool (m == e)) [
          | inl a ↦ let b : (k == i) ≡ false = sym (ap (λ x. x && (k == i)) a) ∙ f in rw (a, b) refl
          | inr a ↦ rw a refl
        ]

-- ---- the scans of a table

module _ (g : Network) (table : ℕ) (change : Change) (flight : ℕ → ℕ → ℕ → List Change) (i : ℕ) where
  -- after the scans below a number
  abbrev done : ℕ → ℕ → ℕ → ℕ → List Change
  done n = scanned_by g.edge i change flight (scans_below g table n)

  one_more : (n : ℕ) → is_scan_of g table n ≡ true → done (suc n) ≡ sent_by (g.edge n) (done n) n i (change ∷ [])
  one_more n is =
      ap (λ b. scanned_by g.edge i change flight (cond b (scans_below g table n ++ n ∷ []) (scans_below g table n))) is
      ∙ fold-append (λ (f : ℕ → ℕ → ℕ → List Change) e. sent_by (g.edge e) f e i (change ∷ [])) flight (scans_below g table n) (n ∷ [])

  no_more : (n : ℕ) → is_scan_of g table n ≡ false → done (suc n) ≡ done n
  no_more n off = ap (λ b. scanned_by g.edge i change flight (cond b (scans_below g table n ++ n ∷ []) (scans_below g table n))) off

  at_three : {f h : ℕ → ℕ → ℕ → List Change} → f ≡ h → (e k j : ℕ) → f e k j ≡ h e k j
  at_three same e k j = ap (λ (f : ℕ → ℕ → ℕ → List Change). f e k j) same

  pub missed : (n e k j : ℕ) → ((e < n) × (is_scan_of g table e ≡ true) × (k ≡ i) → ⊥) → done n e k j ≡ flight e k j
  missed zero e k j off = refl
  missed (suc n) e k j off =
      let before = missed n e k j (λ h. off (omega (arith, h.0), h.1, h.2)) in
      elim (cases_Bool (is_scan_of g table n)) [
        | inr out ↦ at_three (no_more n out) e k j ∙ before
        | inl is ↦ at_three (one_more n is) e k j ∙ elim (at_or_off e n k i) [
          | inl p ↦ absurd (off (omega (arith, p.0), subst (λ (v : ℕ). is_scan_of g table v ≡ true) (sym p.0) is, p.1))
          | inr f ↦ ap (λ (b : Bool). (cond b (λ j. done n n i j ++ filter (λ change. goes (g.edge n) i j change.row) (change ∷ [])) (done n e k)) j) f ∙ before
        ]
      ]

  abbrev more : ℕ → ℕ → List Change
  more e j = flight e i j ++ filter (λ change. goes (g.edge e) i j change.row) (change ∷ [])

  pub scanned_there : (n e j : ℕ) → e < n → is_scan_of g table e ≡ true → done n e i j ≡ more e j
  scanned_there zero e j l is = absurd (omega (arith, l))
  scanned_there (suc n) e j l is =
      elim (cases_eq e n) [
        | inl same ↦
            let here : is_scan_of g table n ≡ true = subst (λ (v : ℕ). is_scan_of g table v ≡ true) same is in
            let none : done n n i j ≡ flight n i j = missed n n i j (λ h. omega (arith, h.0)) in
            subst (λ (v : ℕ). done (suc n) v i j ≡ more v j) (sym same)
            (at_three (one_more n here) n i j
            ∙ (ap (λ (h : ℕ → List Change). h j) (put_here (λ m k. done n m k) n i (λ j. done n n i j ++ filter (λ change. goes (g.edge n) i j change.row) (change ∷ [])))
            ∙ ap (λ (r : List Change). r ++ filter (λ change. goes (g.edge n) i j change.row) (change ∷ [])) none))
        | inr other ↦
            let before = scanned_there n e j (omega (arith, l, other)) is in
            elim (cases_Bool (is_scan_of g table n)) [
              | inr out ↦ at_three (no_more n out) e i j ∙ before
              | inl also ↦ at_three (one_more n also) e i j ∙ (let f : eqb e n ≡ false = ne_eqb e n other in rw f before)
            ]
      ]

-- a scan scans the table
pub scan_is : (table : ℕ) (scans : Option ℕ) → is_number table scans ≡ true → scans ≡ Some table
scan_is table None is = absurd (false≢true is)
scan_is table (Some other) is = ap Some (eqb-true other table is)

-- what the channels hold after all scans of a table is what the machine has in flight
pub carry_scanned : (g : Network) → IsWired g → (channels : Channels) (table i : ℕ) (change : Change) (s : State)
    → Carry channels (scanned_by g.edge i change s.flight (scans_below g table g.count)) → Carry channels (scanned g table i change s).flight
carry_scanned g wired channels table i change s kept = record { at = λ e k j le lk lj. kept.at e k j le lk lj ∙ same e k j }
  where
    same : (e k j : ℕ) → scanned_by g.edge i change s.flight (scans_below g table g.count) e k j ≡ (scanned g table i change s).flight e k j
    same e k j =
        elim (cases_Bool (is_scan_of g table e)) [
          | inl is ↦ elim (cases_eq k i) [
            | inl at ↦
                let q : eqb i i ≡ true = eq-eqb i i refl in
                let below = wired.scan_counted e table (scan_is table (g.scans e) is) in
                rw (at, is, q) (scanned_there g table change s.flight i g.count e j below is)
            | inr off ↦ let q : eqb k i ≡ false = ne_eqb k i off in rw (is, q) (missed g table change s.flight i g.count e k j (λ h. off h.2))
          ]
          | inr out ↦ rw out (missed g table change s.flight i g.count e k j (λ h. false≢true (sym out ∙ h.1)))
        ]

-- how many scans there are
pub scans_many : (g : Network) (table n : ℕ) → length (scans_below g table n) ≡ total n (λ v. cond (is_scan_of g table v) 1 0)
scans_many g table zero = refl
scans_many g table (suc n) =
    elim (is_scan_of g table n) as (λ b. length (cond b (scans_below g table n ++ n ∷ []) (scans_below g table n)) ≡ total n (λ v. cond (is_scan_of g table v) 1 0) + cond b 1 0) [
      | true ↦ length-append (scans_below g table n) (n ∷ []) ∙ ap (λ m. m + 1) (scans_many g table n)
      | false ↦ let e = scans_many g table n in omega (arith, e)
    ]

-- ---- rows are wide enough

pub wide_for : (many : ℕ) (route : Route) (edge : Edge) (change : Change) → RoutesFor many route edge → edge.fits change ≡ true → IsWide route change.row
wide_for many Forward edge change is fits = tt
wide_for many (Hash key) edge change is fits = is.wide change fits

pub all_at : {A : Type 0} (P : A → Type 0) (xs : List A) → AllByRecursion P xs → All P xs
all_at P [] h k d within = absurd (omega (arith, within))
all_at P (x ∷ xs) h zero d within = h.0
all_at P (x ∷ xs) h (suc k) d within = all_at P xs h.1 k d (omega (arith, within))

pub rec_behind : {A : Type 0} (P : A → Type 0) (xs ys : List A) → AllByRecursion P (xs ++ ys) → AllByRecursion P ys
rec_behind P [] ys h = h
rec_behind P (x ∷ xs) ys h = rec_behind P xs ys h.1

rec_push : {A : Type 0} (P : A → Type 0) (xs : List A) (x : A) → AllByRecursion P xs → P x → AllByRecursion P (xs ++ x ∷ [])
rec_push P [] x h p = (p, tt)
rec_push P (y ∷ xs) x h p = (h.0, rec_push P xs x h.1 p)

pub rec_map : {A : Type 0} (P Q : A → Type 0) (xs : List A) → ((x : A) → P x → Q x) → AllByRecursion P xs → AllByRecursion Q xs
rec_map P Q [] f h = tt
rec_map P Q (x ∷ xs) f h = (f x h.0, rec_map P Q xs f h.1)

-- what holds of each scan below a number
pub each_scan : (g : Network) (table : ℕ) (P : ℕ → Type 0) (n : ℕ) → ((v : ℕ) → v < n → is_scan_of g table v ≡ true → P v) → AllByRecursion P (scans_below g table n)
each_scan g table P zero f = tt
each_scan g table P (suc n) f =
    let before = each_scan g table P n (λ v l is. f v (omega (arith, l)) is) in
    elim (cases_Bool (is_scan_of g table n)) [
      | inl is ↦ subst (λ (b : Bool). AllByRecursion P (cond b (scans_below g table n ++ n ∷ []) (scans_below g table n))) (sym is) (rec_push P (scans_below g table n) n before (f n (omega arith) is))
      | inr out ↦ subst (λ (b : Bool). AllByRecursion P (cond b (scans_below g table n ++ n ∷ []) (scans_below g table n))) (sym out) before
    ]

-- ---- a take, and what a subtask hands on

pub take_room : (g : Network) (limit : ℕ) (s : State) (table : ℕ) (change : Change) (i : ℕ) → s.took < limit → s.sends + scan_count g table ≤ limit → take_within g limit s table change i ≡ Ok (scanned g table i change s)
take_room g limit s table change i few within =
    let a : nat_lt s.took limit ≡ true = lt-ltb s.took limit few in
    let b : nat_le (s.sends + scan_count g table) limit ≡ true = le-leb (s.sends + scan_count g table) limit within in
    rw (a, b) refl

pub take_full : (g : Network) (limit : ℕ) (s : State) (table : ℕ) (change : Change) (i : ℕ) → (nat_lt s.took limit && nat_le (s.sends + scan_count g table) limit) ≡ false → take_within g limit s table change i ≡ Err Limit
take_full g limit s table change i full = rw full refl

-- the change that a scan sent has its edge's columns
pub scan_fits : (g : Network) (table i : ℕ) (change : Change) (s : State) (v : ℕ) → AllFit g (scanned g table i change s) → is_scan_of g table v ≡ true → i < g.subtasks → (g.edge v).fits change ≡ true
scan_fits g table i change s v fit is li =
    let sent = fit v i (inl (table, scan_is table (g.scans v) is)) li in
    let q : eqb i i ≡ true = eq-eqb i i refl in
    let both : (is_scan_of g table v && (i == i)) ≡ true = and_from (is_scan_of g table v) (i == i) is q in
    (rec_behind (λ (x : Change). (g.edge v).fits x ≡ true) (s.sent v i) (change ∷ [])
    (subst (λ (b : Bool). AllByRecursion (λ (x : Change). (g.edge v).fits x ≡ true) (cond b (s.sent v i ++ change ∷ []) (s.sent v i))) both sent)).0

pub handed_print : (g : Network) (limit v j : ℕ) (changes : List Change) (s : State) → v ≡ g.count → hand_on g limit v j changes s ≡ Ok (print v j changes s)
handed_print g limit v j changes s last = let e : eqb v g.count ≡ true = eq-eqb v g.count last in rw e refl

pub handed_send : (g : Network) (limit v j : ℕ) (changes : List Change) (s : State) → (v ≡ g.count → ⊥) → s.sends + length changes ≤ limit → hand_on g limit v j changes s ≡ Ok (send g v j changes s)
handed_send g limit v j changes s off within =
    let e : eqb v g.count ≡ false = ne_eqb v g.count off in
    let r : nat_le (s.sends + length changes) limit ≡ true = le-leb (s.sends + length changes) limit within in
    rw (e, r) refl

-- what a subtask sent has its edge's columns
pub send_fits : (g : Network) (v j : ℕ) (changes : List Change) (s : State) → AllFit g (send g v j changes s) → 0 < g.ports v → j < g.subtasks → AllByRecursion (λ (x : Change). (g.edge v).fits x ≡ true) changes
send_fits g v j changes s fit some lj =
    rec_behind (λ (x : Change). (g.edge v).fits x ≡ true) (s.sent v j) changes
    (subst (AllByRecursion (λ (x : Change). (g.edge v).fits x ≡ true)) (put_here s.sent v j (s.sent v j ++ changes)) (fit v j (inr some) lj))

-- the subtask of the scans
pub scans_at : (of : Table) (columns : List ℕ) (change : Change) (n : ℕ) → of.spread ≡ columns → n ≡ of.route (project columns change.row) → n ≡ scanned_at of change
scans_at of columns change n spread is = is ∙ ap (λ (c : List ℕ). of.route (project c change.row)) (sym spread)

-- ---- whether there is room

pub same_room : (a a' l l' b b' n n' : ℕ) → a ≡ a' → l ≡ l' → b ≡ b' → n ≡ n' → (nat_lt a l && nat_le (b + n) l) ≡ (nat_lt a' l' && nat_le (b' + n') l')
same_room a a' l l' b b' n n' p q r t =
    ap (λ x. nat_lt x l && nat_le (b + n) l) p ∙ (ap (λ x. nat_lt a' x && nat_le (b + n) x) q ∙ (ap (λ x. nat_lt a' l' && nat_le (x + n) l') r ∙ ap (λ x. nat_lt a' l' && nat_le (b' + x) l') t))

pub room_told : (a l b n : ℕ) → (nat_lt a l && nat_le (b + n) l) ≡ true → (a < l) × (b + n ≤ l)
room_told a l b n h =
    let p = and_parts (nat_lt a l) (nat_le (b + n) l) h in
    (ltb-true a l p.0, leb-true (b + n) l p.1)
