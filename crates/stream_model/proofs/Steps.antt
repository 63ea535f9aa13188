-- The induction over events: what was taken, sent, in flight, consumed and printed hangs together.
use Rattle.std.specs.Prelude.{◌≡◌, ℕ, ◌+◌, ◌<◌, ◌≤◌, ◌==◌, ◌&&◌, nat_le, nat_lt, Bool, cond, Option, Result, List, ◌++◌, length, map}
use Rattle.std.proofs.Common.{true, false, [], ◌∷◌, refl, sym, ap, subst, ◌∙◌, arith, inl, inr, ◌⊎◌, eqb, Some, None, Ok, Err}
use Rattle.std.specs.List.{AllByRecursion, filter}
use Rattle.std.proofs.lemmas.List.{append_assoc, append-nil, length-append}
use Rattle.std.proofs.lemmas.Bool.{eqb-true, eqb-false, eq-eqb, ne_eqb, cases_eq, and_parts, and_from, ltb-true, leb-true, false≢true}
use Rattle.ct_change.specs.declared.change.Change.{Change}
use Rattle.ct_change.specs.Changelog.{fold}
use Rattle.op_rules.specs.History.{Arrival, arrival, at_port, from_port, joined}
use Rattle.op_rules.specs.Rules.{Answer, appended}
use Rattle.stream_model.specs.declared.events.Event.{Event}
use Rattle.stream_model.specs.declared.events.Event.TheVariants.{Take, Move, Flush}
use Rattle.stream_model.specs.declared.events.StepFault.{StepFault}
use Rattle.ct_value.specs.declared.codes.ChangeCode.{ChangeCode}
use Rattle.ct_value.specs.declared.codes.OrderCode.TheVariants.{NoSuchPlace}
use Rattle.stream_model.specs.declared.events.StepFault.TheVariants.{Order, Limit}
use Rattle.stream_model.specs.declared.events.PrintItem.TheVariants.{Change as Printed, Quiet}
use Rattle.op_rules.specs.Edges.{goes}
use Rattle.op_rules.specs.Tasks.{total, emitted_by}
use Rattle.stream_model.specs.Tables.{Table, scanned_at, refusal, AllTaken}
use Rattle.stream_model.specs.Network.{Feed, Network, task, IsWired, scanned_by}
use Rattle.stream_model.specs.Machine.{State, consumed, put, opened, send, print, joins, folded, answered, flushed, size_of, flushed_if_full, is_channel, move_front, move_to, flush_held, flush_bundle, is_place, is_number, is_scan_of, scan_count, scanned, take_unless, take_of, step}
use Rattle.stream_model.specs.Runs.{Item, happens, quiet, counts, told_quiet, step_item, state_in, after, changes_in, IsTyped, AreTyped}
use Rattle.stream_model.proofs.Sums.{total-sum, total-same, total_at}
use Rattle.stream_model.proofs.Histories.{filter-append, joined-push, from_port-append, at_port-append, all-append, emitted-push, taken-push, changes_in-append, changes_in-map, all_from, at_port-all_from, from_port-all_from, within-all_from}

pub put_cases : (m a n b : ℕ) → ((m ≡ a) × (n ≡ b)) ⊎ (((m == a) && (n == b)) ≡ false)
put_cases m a n b =
    elim (cases_eq m a) [
      | inl e ↦ elim (cases_eq n b) [
        | inl f ↦ inl (e, f)
        | inr f ↦ inr (let q : eqb m a ≡ true = eq-eqb m a e in let r : eqb n b ≡ false = ne_eqb n b f in rw (q, r) refl)
      ]
      | inr e ↦ inr (let q : eqb m a ≡ false = ne_eqb m a e in rw q refl)
    ]

pub put_here : {A : Type 0} (f : ℕ → ℕ → A) (a b : ℕ) (x : A) → put f a b x a b ≡ x
put_here f a b x =
    let q : eqb a a ≡ true = eq-eqb a a refl in
    let r : eqb b b ≡ true = eq-eqb b b refl in
    rw (q, r) refl

pub put_there : {A : Type 0} (f : ℕ → ℕ → A) (a b : ℕ) (x : A) (m n : ℕ) → ((m ≡ a) × (n ≡ b) → ⊥) → put f a b x m n ≡ f m n
put_there f a b x m n apart = elim (put_cases m a n b) [ inl q ↦ absurd (apart q) | inr q ↦ rw q refl ]

both_ways : (m a n b : ℕ) → m ≡ a → n ≡ b → ((m == a) && (n == b)) ≡ false → ⊥
both_ways m a n b e f q =
    let x : eqb m a ≡ true = eq-eqb m a e in
    let z : eqb n b ≡ true = eq-eqb n b f in
    false≢true (sym q ∙ and_from (eqb m a) (eqb n b) x z)

-- a sum in which one term grows
pub total_more : (n a w : ℕ) (f h : ℕ → ℕ) → a < n → h a ≡ f a + w → ((k : ℕ) → (k ≡ a → ⊥) → h k ≡ f k) → total n h ≡ total n f + w
total_more n a w f h l here there =
    total-same n h (λ k. f k + cond (eqb k a) w 0) (λ k m.
    elim (cases_eq k a) [
      | inl e ↦ let q : eqb k a ≡ true = eq-eqb k a e in rw q (ap h e ∙ (here ∙ ap (λ k. f k + w) (sym e)))
      | inr d ↦ let q : eqb k a ≡ false = ne_eqb k a d in rw q (let t = there k d in omega arith)
    ])
    ∙ (total-sum n f (λ k. cond (eqb k a) w 0) ∙ ap (λ s. total n f + s) (total_at n a (λ _. w) l))

module _ (g : Network) (wired : IsWired g) where
  -- what of a list goes through a channel
  abbrev through : ℕ → ℕ → ℕ → List Change → List Change
  through e i j changes = filter (λ change. goes (g.edge e) i j change.row) changes

  -- how many changes were sent, as lists have them
  abbrev sent_in_all : (ℕ → ℕ → List Change) → ℕ
  sent_in_all sent = total g.count (λ v. total g.subtasks (λ i. length (sent v i)))

  pub record HangsTogether (s : State) : Type 0 where
    -- each subtask sent what it emits for the pieces that it folded
    pub runs : (v j : ℕ) → g.scans v ≡ None → emitted_by (task g v) j (s.pieces v j) ≡ Ok (s.sent v j)
    -- a scan sent the changes that were taken
    pub scanned : (v table : ℕ) (t : Table) → g.scans v ≡ Some table → g.tables table ≡ Some t → (i : ℕ) → s.sent v i ≡ scanned_by t (s.taken table) i
    pub taken : (table : ℕ) (t : Table) → g.tables table ≡ Some t → AllTaken t [] (s.taken table)
    pub typed : (table : ℕ) (t : Table) → g.tables table ≡ Some t → AllByRecursion (λ change. t.fits change ≡ true) (s.taken table)
    pub within : (v j : ℕ) → AllByRecursion (λ a. a.from < g.subtasks) (consumed s v j)
    pub ports : (v j : ℕ) → AllByRecursion (λ a. a.port < g.ports v) (consumed s v j)
    -- what came from a subtask, and then what is in flight, is what that subtask sent here
    pub fed : (v j p i : ℕ) → p < g.ports v → from_port p i (consumed s v j) ++ s.flight (g.source v p) i j ≡ through (g.source v p) i j (s.sent (g.source v p) i)
    -- what was printed came from the subtasks of the sink
    pub prints : List Arrival
    pub printed : changes_in s.printed ≡ at_port 0 prints
    pub printed_within : AllByRecursion (λ a. a.from < g.subtasks) prints
    pub printed_from : (i : ℕ) → from_port 0 i prints ≡ s.sent g.count i
    pub counted : s.sends ≡ sent_in_all s.sent

  pub hangs_opened : HangsTogether (opened g)
  hangs_opened = record {
    runs = λ v j none. ap Ok (append-nil (g.opening v j));
    scanned = λ v table t is has i. wired.scan_opens v table is i;
    taken = λ table t has. tt;
    typed = λ table t has. tt;
    within = λ v j. tt;
    ports = λ v j. tt;
    fed = λ v j p i pl. refl;
    prints = [];
    printed = refl;
    printed_within = tt;
    printed_from = λ i. sym (wired.opens g.count i (omega arith));
    counted = refl;
  }

  pub no_scan : (v : ℕ) → 0 < g.ports v → g.scans v ≡ None
  no_scan v some = go (g.scans v) refl
    where
      go : (o : Option ℕ) → g.scans v ≡ o → o ≡ None
      go None e = refl
      go (Some table) e = absurd (let none = wired.scan_ports v table e in omega arith)

  -- a scan isn't the sink, and isn't a node that is none
  not_sink : (v table : ℕ) → g.scans v ≡ Some table → v ≡ g.count → ⊥
  not_sink v table is e = let l = wired.scan_counted v table is in omega arith

  other_scan : (v w table : ℕ) → g.scans v ≡ Some table → g.scans w ≡ None → v ≡ w → ⊥
  other_scan v w table is none e = let a : Some table ≡ None = sym is ∙ (ap g.scans e ∙ none) in cc

  source_before : (v p : ℕ) → p < g.ports v → g.source v p ≡ g.count → ⊥
  source_before v p pl e = let a = wired.below v p pl in let b = wired.counted v (omega arith) in omega arith

  -- ---- a bundle is folded, and what is emitted is sent or printed

  sends : (s : State) (e i : ℕ) (cs : List Change) (u k j : ℕ) (a : List Change) → a ++ s.flight u k j ≡ through u k j (s.sent u k) → a ++ (send g e i cs s).flight u k j ≡ through u k j ((send g e i cs s).sent u k)
  sends s e i cs u k j a h =
      elim (put_cases u e k i) [
        | inl q ↦
            rw (q.0, q.1) (
            ap (λ f. a ++ f j) (put_here s.flight e i (λ j. s.flight e i j ++ through e i j cs))
            ∙ (sym (append_assoc a (s.flight e i j) (through e i j cs))
            ∙ (ap (λ l. l ++ through e i j cs) (subst (λ u. a ++ s.flight u i j ≡ through u i j (s.sent u i)) q.0 (subst (λ k. a ++ s.flight u k j ≡ through u k j (s.sent u k)) q.1 h))
            ∙ (sym (filter-append _ (s.sent e i) cs)
            ∙ ap (through e i j) (sym (put_here s.sent e i (s.sent e i ++ cs)))))))
        | inr q ↦ rw q h
      ]

  same_consumed : (s : State) (v j m n : ℕ) → consumed (folded v j s) m n ≡ consumed s m n
  same_consumed s v j m n =
      elim (put_cases m v n j) [
        | inl q ↦ rw (q.0, q.1) (
            ap (λ c. joined c ++ put s.bundle v j [] v j) (put_here s.pieces v j (s.pieces v j ++ s.bundle v j ∷ []))
            ∙ (ap (λ b. joined (s.pieces v j ++ s.bundle v j ∷ []) ++ b) (put_here s.bundle v j [])
            ∙ (append-nil (joined (s.pieces v j ++ s.bundle v j ∷ []))
            ∙ joined-push (s.pieces v j) (s.bundle v j))))
        | inr q ↦ rw q refl
      ]

  sent_more : (s : State) (v j : ℕ) (cs : List Change) → v < g.count → j < g.subtasks → s.sends ≡ sent_in_all s.sent → s.sends + length cs ≡ sent_in_all (put s.sent v j (s.sent v j ++ cs))
  sent_more s v j cs vl jl h =
      ap (λ n. n + length cs) h
      ∙ sym (total_more g.count v (length cs) (λ m. total g.subtasks (λ i. length (s.sent m i))) (λ m. total g.subtasks (λ i. length (put s.sent v j (s.sent v j ++ cs) m i))) vl
      (total_more g.subtasks j (length cs) (λ i. length (s.sent v i)) (λ i. length (put s.sent v j (s.sent v j ++ cs) v i)) jl
      (ap length (put_here s.sent v j (s.sent v j ++ cs)) ∙ length-append (s.sent v j) cs)
      (λ k d. ap length (put_there s.sent v j (s.sent v j ++ cs) v k (λ q. d q.1))))
      (λ k d. total-same g.subtasks _ _ (λ i il. ap length (put_there s.sent v j (s.sent v j ++ cs) k i (λ q. d q.0)))))

  sent_same : (s : State) (v j : ℕ) (cs : List Change) → g.count ≤ v → s.sends ≡ sent_in_all s.sent → s.sends ≡ sent_in_all (put s.sent v j (s.sent v j ++ cs))
  sent_same s v j cs vl h = h ∙ total-same g.count _ _ (λ m ml. total-same g.subtasks _ _ (λ i il. sym (ap length (put_there s.sent v j (s.sent v j ++ cs) m i (λ q. let e = q.0 in omega arith)))))

  module _ (s : State) (v j : ℕ) (cs : List Change) (none : g.scans v ≡ None) (j_in : j < g.subtasks) (em : g.emits v (joined (s.pieces v j)) (s.bundle v j) ≡ Ok cs) (h : HangsTogether s) where
    now_sent : ℕ → ℕ → List Change
    now_sent = put s.sent v j (s.sent v j ++ cs)

    runs_now : (m n : ℕ) → g.scans m ≡ None → emitted_by (task g m) n ((folded v j s).pieces m n) ≡ Ok (put s.sent v j (s.sent v j ++ cs) m n)
    runs_now m n other =
        elim (put_cases m v n j) [
          | inl q ↦ rw (q.0, q.1) (
              ap (emitted_by (task g v) j) (put_here s.pieces v j (s.pieces v j ++ s.bundle v j ∷ []))
              ∙ (emitted-push (task g v) j (s.pieces v j) (s.bundle v j)
              ∙ (ap (λ a. appended a (g.emits v (joined (s.pieces v j)) (s.bundle v j))) (h.runs v j none)
              ∙ (ap (appended (Ok (s.sent v j))) em
              ∙ ap Ok (sym (put_here s.sent v j (s.sent v j ++ cs)))))))
          | inr q ↦ rw q (h.runs m n other)
        ]

    scanned_now : (m table : ℕ) (t : Table) → g.scans m ≡ Some table → g.tables table ≡ Some t → (i : ℕ) → put s.sent v j (s.sent v j ++ cs) m i ≡ scanned_by t (s.taken table) i
    scanned_now m table t is has i = put_there s.sent v j (s.sent v j ++ cs) m i (λ q. other_scan m v table is none q.0) ∙ h.scanned m table t is has i

    hangs_sent : v < g.count → HangsTogether (send g v j cs (folded v j s))
    hangs_sent vl = record {
      runs = runs_now;
      scanned = scanned_now;
      taken = h.taken;
      typed = h.typed;
      within = λ m n. subst (AllByRecursion (λ a. a.from < g.subtasks)) (sym (same_consumed s v j m n)) (h.within m n);
      ports = λ m n. subst (AllByRecursion (λ a. a.port < g.ports m)) (sym (same_consumed s v j m n)) (h.ports m n);
      fed = λ m n p k pl.
          sends (folded v j s) v j cs (g.source m p) k n (from_port p k (consumed (folded v j s) m n))
          (ap (λ c. from_port p k c ++ s.flight (g.source m p) k n) (same_consumed s v j m n) ∙ h.fed m n p k pl);
      prints = h.prints;
      printed = h.printed;
      printed_within = h.printed_within;
      printed_from = λ i. h.printed_from i ∙ sym (put_there s.sent v j (s.sent v j ++ cs) g.count i (λ q. let e = q.0 in omega arith));
      counted = sent_more s v j cs vl j_in h.counted;
    }

    hangs_printed : v ≡ g.count → HangsTogether (print v j cs (folded v j s))
    hangs_printed is = record {
      runs = runs_now;
      scanned = scanned_now;
      taken = h.taken;
      typed = h.typed;
      within = λ m n. subst (AllByRecursion (λ a. a.from < g.subtasks)) (sym (same_consumed s v j m n)) (h.within m n);
      ports = λ m n. subst (AllByRecursion (λ a. a.port < g.ports m)) (sym (same_consumed s v j m n)) (h.ports m n);
      fed = λ m n p k pl.
          ap (λ c. from_port p k c ++ s.flight (g.source m p) k n) (same_consumed s v j m n)
          ∙ (h.fed m n p k pl
          ∙ ap (through (g.source m p) k n) (sym (put_there s.sent v j (s.sent v j ++ cs) (g.source m p) k (λ q. source_before m p pl (q.0 ∙ is)))));
      prints = h.prints ++ all_from j cs;
      printed =
          changes_in-append s.printed (map Printed cs)
          ∙ (ap (λ x. x ++ changes_in (map Printed cs)) h.printed
          ∙ (ap (λ x. at_port 0 h.prints ++ x) (changes_in-map cs ∙ sym (at_port-all_from j cs))
          ∙ sym (at_port-append 0 h.prints (all_from j cs))));
      printed_within = all-append (λ a. a.from < g.subtasks) h.prints (all_from j cs) h.printed_within (within-all_from g.subtasks j cs j_in);
      printed_from = λ i.
          from_port-append 0 i h.prints (all_from j cs)
          ∙ (ap (λ x. x ++ from_port 0 i (all_from j cs)) (h.printed_from i)
          ∙ (ap (λ x. s.sent g.count i ++ x) (from_port-all_from i j cs)
          ∙ here i));
      counted = sent_same s v j cs (omega (arith, is)) h.counted;
    }
      where
        here : (i : ℕ) → s.sent g.count i ++ cond (j == i) cs [] ≡ put s.sent v j (s.sent v j ++ cs) g.count i
        here i =
            elim (cases_eq j i) [
              | inl e ↦
                  let q : eqb j i ≡ true = eq-eqb j i e in
                  rw q (subst (λ w. s.sent w i ++ cs ≡ put s.sent v j (s.sent v j ++ cs) w i) is (subst (λ k. s.sent v k ++ cs ≡ put s.sent v j (s.sent v j ++ cs) v k) e (sym (put_here s.sent v j (s.sent v j ++ cs)))))
              | inr d ↦
                  let q : eqb j i ≡ false = ne_eqb j i d in
                  rw q (append-nil (s.sent g.count i) ∙ sym (put_there s.sent v j (s.sent v j ++ cs) g.count i (λ z. d (sym z.1))))
            ]

  -- where there is a next state, it hangs together
  abbrev Keeps : Result State StepFault → Type 0
  Keeps (Ok next) = HangsTogether next
  Keeps (Err fault) = Unit {0}

  module _ (limit : ℕ) where
    hangs_flushed : (s : State) (v j : ℕ) → g.scans v ≡ None → v ≤ g.count → j < g.subtasks → HangsTogether s → Keeps (flushed g limit v j s)
    hangs_flushed s v j none vl jl h = go (g.emits v (joined (s.pieces v j)) (s.bundle v j)) refl
      where
        go : (a : Answer) → g.emits v (joined (s.pieces v j)) (s.bundle v j) ≡ a → Keeps (answered g limit v j a (folded v j s))
        go (Err row) em = tt
        go (Ok cs) em =
            elim (v == g.count) as (λ b. (v == g.count) ≡ b → Keeps (cond b (Ok (print v j cs (folded v j s))) (cond (nat_le (s.sends + length cs) limit) (Ok (send g v j cs (folded v j s))) (Err Limit)))) [
              | true ↦ λ e. hangs_printed s v j cs none jl em h (eqb-true v g.count e)
              | false ↦ λ e. elim (nat_le (s.sends + length cs) limit) as (λ b. Keeps (cond b (Ok (send g v j cs (folded v j s))) (Err Limit))) [
                | true ↦ hangs_sent s v j cs none jl em h (let d = eqb-false v g.count e in omega arith)
                | false ↦ tt
              ]
            ] refl

    -- ---- a change joins a bundle

    module _ (s : State) (e i j : ℕ) (feed : Feed) (c : Change) (rest : List Change) (fed : g.fed e ≡ Some feed) (i_in : i < g.subtasks) (front : s.flight e i j ≡ c ∷ rest) (h : HangsTogether s) where
      item : Arrival
      item = arrival feed.port i c

      next : State
      next = joins e i j feed c rest s

      port_in : feed.port < g.ports feed.node
      port_in = (wired.feeds_port e feed fed).0

      source_is : g.source feed.node feed.port ≡ e
      source_is = (wired.feeds_port e feed fed).1

      -- an edge feeds one port
      one_port : (m p : ℕ) → p < g.ports m → g.source m p ≡ e → (feed.node ≡ m) × (feed.port ≡ p)
      one_port m p pl q = let same : Some feed ≡ Some (record { node = m; port = p }) = sym fed ∙ (ap g.fed (sym q) ∙ wired.feeds m p pl) in (ap Feed.node (let one : feed ≡ record { node = m; port = p } = cc in one), ap Feed.port (let one : feed ≡ record { node = m; port = p } = cc in one))

      now_here : consumed next feed.node j ≡ consumed s feed.node j ++ item ∷ []
      unfolding next item
      now_here =
          ap (λ b. joined (s.pieces feed.node j) ++ b) (put_here s.bundle feed.node j (s.bundle feed.node j ++ item ∷ []))
          ∙ sym (append_assoc (joined (s.pieces feed.node j)) (s.bundle feed.node j) (item ∷ []))

      now_there : (m n : ℕ) → ((m == feed.node) && (n == j)) ≡ false → consumed next m n ≡ consumed s m n
      unfolding next
      now_there m n q = rw q refl

      all_now : (P : ℕ → Arrival → Type 0) → ((m n : ℕ) → AllByRecursion (P m) (consumed s m n)) → P feed.node item → (m n : ℕ) → AllByRecursion (P m) (consumed next m n)
      all_now P old here m n =
          elim (put_cases m feed.node n j) [
            | inl q ↦ rw (q.0, q.1) (subst (AllByRecursion (P feed.node)) (sym now_here) (all-append (P feed.node) (consumed s feed.node j) (item ∷ []) (old feed.node j) (here, tt)))
            | inr q ↦ subst (AllByRecursion (P m)) (sym (now_there m n q)) (old m n)
          ]

      flight_there : (w k n : ℕ) → ((w == e) && (k == i)) ≡ false → next.flight w k n ≡ s.flight w k n
      unfolding next
      flight_there w k n q = rw q refl

      flight_here : next.flight e i j ≡ rest
      unfolding next
      flight_here =
          ap (λ f. f j) (put_here s.flight e i (λ k. cond (k == j) rest (s.flight e i k)))
          ∙ (let q : eqb j j ≡ true = eq-eqb j j refl in rw q refl)

      flight_beside : (n : ℕ) → (n ≡ j → ⊥) → next.flight e i n ≡ s.flight e i n
      unfolding next
      flight_beside n d =
          ap (λ f. f n) (put_here s.flight e i (λ k. cond (k == j) rest (s.flight e i k)))
          ∙ (let q : eqb n j ≡ false = ne_eqb n j d in rw q refl)

      from_item : from_port feed.port i (item ∷ []) ≡ c ∷ []
      unfolding item
      from_item =
          let q : eqb feed.port feed.port ≡ true = eq-eqb feed.port feed.port refl in
          let r : eqb i i ≡ true = eq-eqb i i refl in
          rw (q, r) refl

      from_other : (p k : ℕ) → (feed.port ≡ p → i ≡ k → ⊥) → from_port p k (item ∷ []) ≡ []
      unfolding item
      from_other p k d =
          elim (cases_eq feed.port p) [
            | inl q ↦ let a : eqb feed.port p ≡ true = eq-eqb feed.port p q in let r : eqb i k ≡ false = ne_eqb i k (d q) in rw (a, r) refl
            | inr q ↦ let a : eqb feed.port p ≡ false = ne_eqb feed.port p q in rw a refl
          ]

      fed_here : (p k : ℕ) → p < g.ports feed.node → from_port p k (consumed next feed.node j) ++ next.flight (g.source feed.node p) k j ≡ through (g.source feed.node p) k j (s.sent (g.source feed.node p) k)
      fed_here p k pl =
          let a : from_port p k (consumed next feed.node j) ≡ from_port p k (consumed s feed.node j) ++ from_port p k (item ∷ []) = ap (from_port p k) now_here ∙ from_port-append p k (consumed s feed.node j) (item ∷ []) in
          let old = h.fed feed.node j p k pl in
          elim (put_cases p feed.port k i) [
            | inl q ↦
                let same : g.source feed.node p ≡ e = ap (g.source feed.node) q.0 ∙ source_is in
                ap (λ l. l ++ next.flight (g.source feed.node p) k j) (a ∙ ap (λ l. from_port p k (consumed s feed.node j) ++ l) (subst (λ k. from_port p k (item ∷ []) ≡ c ∷ []) (sym q.1) (subst (λ p. from_port p i (item ∷ []) ≡ c ∷ []) (sym q.0) from_item)))
                ∙ (append_assoc (from_port p k (consumed s feed.node j)) (c ∷ []) (next.flight (g.source feed.node p) k j)
                ∙ (ap (λ f. from_port p k (consumed s feed.node j) ++ c ∷ f) (ap (λ w. next.flight w k j) same ∙ (ap (λ k. next.flight e k j) q.1 ∙ flight_here))
                ∙ (ap (λ f. from_port p k (consumed s feed.node j) ++ f) (sym (ap (λ w. s.flight w k j) same ∙ (ap (λ k. s.flight e k j) q.1 ∙ front)))
                ∙ old)))
            | inr q ↦
                let apart : feed.port ≡ p → i ≡ k → ⊥ = λ x y. both_ways p feed.port k i (sym x) (sym y) q in
                let away : ((g.source feed.node p == e) && (k == i)) ≡ false = elim (put_cases (g.source feed.node p) e k i) [
                  | inl z ↦ absurd (apart (one_port feed.node p pl z.0).1 (sym z.1))
                  | inr z ↦ z
                ] in
                ap (λ l. l ++ next.flight (g.source feed.node p) k j) (a ∙ (ap (λ l. from_port p k (consumed s feed.node j) ++ l) (from_other p k apart) ∙ append-nil (from_port p k (consumed s feed.node j))))
                ∙ (ap (λ f. from_port p k (consumed s feed.node j) ++ f) (flight_there (g.source feed.node p) k j away) ∙ old)
          ]

      fed_there : (m n p k : ℕ) → ((m == feed.node) && (n == j)) ≡ false → p < g.ports m → from_port p k (consumed next m n) ++ next.flight (g.source m p) k n ≡ through (g.source m p) k n (s.sent (g.source m p) k)
      fed_there m n p k q pl =
          ap (λ l. from_port p k l ++ next.flight (g.source m p) k n) (now_there m n q)
          ∙ (ap (λ f. from_port p k (consumed s m n) ++ f)
          (elim (put_cases (g.source m p) e k i) [
            | inr z ↦ flight_there (g.source m p) k n z
            | inl z ↦
                let aside : n ≡ j → ⊥ = λ x. both_ways m feed.node n j (sym (one_port m p pl z.0).0) x q in
                ap (λ w. next.flight w k n) z.0 ∙ (ap (λ k. next.flight e k n) z.1 ∙ (flight_beside n aside ∙ sym (ap (λ w. s.flight w k n) z.0 ∙ ap (λ k. s.flight e k n) z.1)))
          ])
          ∙ h.fed m n p k pl)

      fed_now : (m n p k : ℕ) → p < g.ports m → from_port p k (consumed next m n) ++ next.flight (g.source m p) k n ≡ through (g.source m p) k n (s.sent (g.source m p) k)
      fed_now m n p k pl =
          elim (put_cases m feed.node n j) [
            | inl q ↦ rw (q.0, q.1) (fed_here p k (subst (λ m. p < g.ports m) q.0 pl))
            | inr q ↦ fed_there m n p k q pl
          ]

      pub hangs_joined : HangsTogether (joins e i j feed c rest s)
      unfolding next item
      hangs_joined = record {
        runs = h.runs;
        scanned = h.scanned;
        taken = h.taken;
        typed = h.typed;
        within = all_now (λ m a. a.from < g.subtasks) h.within i_in;
        ports = all_now (λ m a. a.port < g.ports m) h.ports port_in;
        fed = fed_now;
        prints = h.prints;
        printed = h.printed;
        printed_within = h.printed_within;
        printed_from = h.printed_from;
        counted = h.counted;
      }

      pub consumed_joined : consumed (joins e i j feed c rest s) feed.node j ≡ consumed s feed.node j ++ arrival feed.port i c ∷ []
      unfolding next item
      consumed_joined = now_here

    hangs_full : (s : State) (v j : ℕ) → 0 < g.ports v → j < g.subtasks → HangsTogether s → Keeps (flushed_if_full g limit v j s)
    hangs_full s v j some jl h =
        elim (nat_le (size_of (g.bundle v)) (length (s.bundle v j))) as (λ b. Keeps (cond b (flushed g limit v j s) (Ok s))) [ true ↦ hangs_flushed s v j (no_scan v some) (wired.counted v some) jl h | false ↦ h ]

    hangs_front : (s : State) (e i j : ℕ) (feed : Feed) → g.fed e ≡ Some feed → i < g.subtasks → j < g.subtasks → (l : List Change) → s.flight e i j ≡ l → HangsTogether s → Keeps (move_front g limit s e i j feed l)
    hangs_front s e i j feed fed il jl [] f h = tt
    hangs_front s e i j feed fed il jl (c ∷ rest) f h = hangs_full _ feed.node j (let port = (wired.feeds_port e feed fed).0 in omega arith) jl (hangs_joined s e i j feed c rest fed il f h)

    hangs_move : (s : State) (e i j : ℕ) (o : Option Feed) → g.fed e ≡ o → HangsTogether s → Keeps (move_to g limit s e i j o)
    hangs_move s e i j None fed h = tt
    hangs_move s e i j (Some feed) fed h =
        elim (is_channel g e i j) as (λ b. is_channel g e i j ≡ b → Keeps (cond b (move_front g limit s e i j feed (s.flight e i j)) (Err (Order NoSuchPlace)))) [
          | true ↦ λ q.
              let a = and_parts _ _ q in
              let b = and_parts _ _ a.1 in
              hangs_front s e i j feed fed (ltb-true i g.subtasks a.0) (ltb-true j g.subtasks b.0) (s.flight e i j) refl h
          | false ↦ λ q. tt
        ] refl

    -- ---- a bundle is flushed

    hangs_held : (s : State) (v j : ℕ) → v ≤ g.count → j < g.subtasks → (l : List Arrival) → s.bundle v j ≡ l → HangsTogether s → Keeps (flush_held g limit s v j l)
    hangs_held s v j vl jl [] f h = h
    hangs_held s v j vl jl (a ∷ others) f h =
        hangs_flushed s v j (no_scan v (let port : a.port < g.ports v = some_port (joined (s.pieces v j)) (subst (λ b. AllByRecursion (λ a. a.port < g.ports v) (joined (s.pieces v j) ++ b)) f (h.ports v j)) in omega arith)) vl jl h
      where
        some_port : (xs : List Arrival) → AllByRecursion (λ a. a.port < g.ports v) (xs ++ a ∷ others) → a.port < g.ports v
        some_port [] all = all.0
        some_port (x ∷ xs) all = some_port xs all.1

    hangs_flush : (s : State) (v j : ℕ) (o : Option ℕ) → v ≤ g.count → j < g.subtasks → HangsTogether s → Keeps (flush_bundle g limit s v j o)
    hangs_flush s v j None vl jl h = tt
    hangs_flush s v j (Some size) vl jl h = hangs_held s v j vl jl (s.bundle v j) refl h

    -- ---- a change is taken

    module _ (s : State) (table : ℕ) (t : Table) (change : Change) (has : g.tables table ≡ Some t) (may : refusal t (fold t.mode (s.taken table)) change ≡ None) (fits : t.fits change ≡ true) (h : HangsTogether s) where
      i : ℕ
      i = scanned_at t change

      abbrev at : ℕ → ℕ → Bool
      at v k = is_scan_of g table v && (k == scanned_at t change)

      no_scan_of : (v : ℕ) → g.scans v ≡ None → is_scan_of g table v ≡ false
      no_scan_of v none = ap (is_number table) none

      same_sent : (v : ℕ) → is_scan_of g table v ≡ false → (k : ℕ) → (scanned g table (scanned_at t change) change s).sent v k ≡ s.sent v k
      same_sent v out k = ap (λ b. cond (b && (k == scanned_at t change)) (s.sent v k ++ change ∷ []) (s.sent v k)) out

      scan_now : (v other : ℕ) (u : Table) → g.scans v ≡ Some other → g.tables other ≡ Some u → (k : ℕ) → (scanned g table (scanned_at t change) change s).sent v k ≡ scanned_by u ((scanned g table (scanned_at t change) change s).taken other) k
      scan_now v other u is got k =
          elim (cases_eq other table) [
            | inr d ↦
                let off : eqb other table ≡ false = ne_eqb other table d in
                same_sent v (ap (is_number table) is ∙ off) k ∙ (h.scanned v other u is got k ∙ ap (λ b. scanned_by u (cond b (s.taken other ++ change ∷ []) (s.taken other)) k) (sym off))
            | inl e ↦
                let on : eqb other table ≡ true = eq-eqb other table e in
                let one : u ≡ t = (let both : Some u ≡ Some t = sym got ∙ (ap g.tables e ∙ has) in cc) in
                ap (λ b. cond (b && (k == scanned_at t change)) (s.sent v k ++ change ∷ []) (s.sent v k)) (ap (is_number table) is ∙ on)
                ∙ (ap (λ l. cond (k == scanned_at t change) (l ++ change ∷ []) l) (h.scanned v other u is got k)
                ∙ (here u one k
                ∙ ap (λ b. scanned_by u (cond b (s.taken other ++ change ∷ []) (s.taken other)) k) (sym on)))
          ]
        where
          here : (u : Table) → u ≡ t → (k : ℕ) → cond (k == scanned_at t change) (scanned_by u (s.taken other) k ++ change ∷ []) (scanned_by u (s.taken other) k) ≡ scanned_by u (s.taken other ++ change ∷ []) k
          here u one k =
              elim (cases_eq k (scanned_at t change)) [
                | inl e ↦
                    let q : eqb k (scanned_at t change) ≡ true = eq-eqb k (scanned_at t change) e in
                    let r : eqb (scanned_at u change) k ≡ true = eq-eqb (scanned_at u change) k (ap (λ w. scanned_at w change) one ∙ sym e) in
                    ap (λ b. cond b (scanned_by u (s.taken other) k ++ change ∷ []) (scanned_by u (s.taken other) k)) q
                    ∙ (ap (λ b. scanned_by u (s.taken other) k ++ cond b (change ∷ []) []) (sym r) ∙ sym (filter-append _ (s.taken other) (change ∷ [])))
                | inr d ↦
                    let q : eqb k (scanned_at t change) ≡ false = ne_eqb k (scanned_at t change) d in
                    let r : eqb (scanned_at u change) k ≡ false = ne_eqb (scanned_at u change) k (λ x. d (sym x ∙ ap (λ w. scanned_at w change) one)) in
                    ap (λ b. cond b (scanned_by u (s.taken other) k ++ change ∷ []) (scanned_by u (s.taken other) k)) q
                    ∙ (sym (append-nil (scanned_by u (s.taken other) k))
                    ∙ (ap (λ b. scanned_by u (s.taken other) k ++ cond b (change ∷ []) []) (sym r) ∙ sym (filter-append _ (s.taken other) (change ∷ []))))
              ]

      of_taken : (P : Table → List Change → Type 0) → ((other : ℕ) (u : Table) → g.tables other ≡ Some u → P u (s.taken other)) → P t (s.taken table ++ change ∷ []) → (other : ℕ) (u : Table) → g.tables other ≡ Some u → P u (cond (other == table) (s.taken other ++ change ∷ []) (s.taken other))
      of_taken P old new other u got =
          elim (cases_eq other table) [
            | inr d ↦ let off : eqb other table ≡ false = ne_eqb other table d in rw off (old other u got)
            | inl e ↦
                let on : eqb other table ≡ true = eq-eqb other table e in
                let one : u ≡ t = (let both : Some u ≡ Some t = sym got ∙ (ap g.tables e ∙ has) in cc) in
                rw on (subst (λ n. P u (s.taken n ++ change ∷ [])) (sym e) (subst (λ w. P w (s.taken table ++ change ∷ [])) (sym one) new))
          ]

      fed_scanned : (m n p k : ℕ) → p < g.ports m → from_port p k (consumed s m n) ++ (scanned g table (scanned_at t change) change s).flight (g.source m p) k n ≡ through (g.source m p) k n ((scanned g table (scanned_at t change) change s).sent (g.source m p) k)
      fed_scanned m n p k pl =
          let u : ℕ = g.source m p in
          elim (at u k) as (λ b. from_port p k (consumed s m n) ++ cond b (s.flight u k n ++ through u k n (change ∷ [])) (s.flight u k n) ≡ through u k n (cond b (s.sent u k ++ change ∷ []) (s.sent u k))) [
            | true ↦
                sym (append_assoc (from_port p k (consumed s m n)) (s.flight u k n) (through u k n (change ∷ [])))
                ∙ (ap (λ l. l ++ through u k n (change ∷ [])) (h.fed m n p k pl) ∙ sym (filter-append _ (s.sent u k) (change ∷ [])))
            | false ↦ h.fed m n p k pl
          ]

      one_more : (v : ℕ) → total g.subtasks (λ k. length ((scanned g table (scanned_at t change) change s).sent v k)) ≡ total g.subtasks (λ k. length (s.sent v k)) + cond (is_scan_of g table v) 1 0
      one_more v =
          elim (is_scan_of g table v) as (λ b. total g.subtasks (λ k. length (cond (b && (k == scanned_at t change)) (s.sent v k ++ change ∷ []) (s.sent v k))) ≡ total g.subtasks (λ k. length (s.sent v k)) + cond b 1 0) [
            | false ↦ omega arith
            | true ↦
                total-same g.subtasks _ (λ k. length (s.sent v k) + cond (k == scanned_at t change) 1 0) (λ k kl.
                elim (k == scanned_at t change) as (λ b. length (cond b (s.sent v k ++ change ∷ []) (s.sent v k)) ≡ length (s.sent v k) + cond b 1 0) [
                  | true ↦ length-append (s.sent v k) (change ∷ [])
                  | false ↦ omega arith
                ])
                ∙ (total-sum g.subtasks (λ k. length (s.sent v k)) (λ k. cond (k == scanned_at t change) 1 0)
                ∙ ap (λ n. total g.subtasks (λ k. length (s.sent v k)) + n) (total_at g.subtasks (scanned_at t change) (λ _. 1) (wired.routed table t has _)))
          ]

      hangs_scanned : HangsTogether (scanned g table (scanned_at t change) change s)
      hangs_scanned = record {
        runs = λ v j none. h.runs v j none ∙ ap Ok (sym (same_sent v (no_scan_of v none) j));
        scanned = scan_now;
        taken = of_taken (λ u l. AllTaken u [] l) h.taken (taken-push t [] (s.taken table) change (h.taken table t has) may);
        typed = of_taken (λ u l. AllByRecursion (λ c. u.fits c ≡ true) l) h.typed (all-append (λ c. t.fits c ≡ true) (s.taken table) (change ∷ []) (h.typed table t has) (fits, tt));
        within = h.within;
        ports = h.ports;
        fed = fed_scanned;
        prints = h.prints;
        printed = h.printed;
        printed_within = h.printed_within;
        printed_from = λ k. h.printed_from k ∙ sym (same_sent g.count (sink_scans (g.scans g.count) refl) k);
        counted =
            ap (λ n. n + scan_count g table) h.counted
            ∙ sym (total-same g.count _ _ (λ v vl. one_more v) ∙ total-sum g.count (λ v. total g.subtasks (λ k. length (s.sent v k))) (λ v. cond (is_scan_of g table v) 1 0));
      }
        where
          sink_scans : (o : Option ℕ) → g.scans g.count ≡ o → is_number table o ≡ false
          sink_scans None e = refl
          sink_scans (Some other) e = absurd (not_sink g.count other e refl)

    hangs_take : (s : State) (table : ℕ) (change : Change) → HangsTogether s → (o : Option Table) → g.tables table ≡ o → ((t : Table) → g.tables table ≡ Some t → t.fits change ≡ true) → Keeps (take_of g limit s table change o)
    hangs_take s table change h None has typed = tt
    hangs_take s table change h (Some t) has typed = go (refusal t (fold t.mode (s.taken table)) change) refl
      where
        go : (r : Option ChangeCode) → refusal t (fold t.mode (s.taken table)) change ≡ r → Keeps (take_unless g limit s table change (scanned_at t change) r)
        go (Some code) e = tt
        go None e =
            elim (nat_lt s.took limit && nat_le (s.sends + scan_count g table) limit) as (λ b. Keeps (cond b (Ok (scanned g table (scanned_at t change) change s)) (Err Limit))) [
              | true ↦ hangs_scanned s table t change has e (typed t has) h
              | false ↦ tt
            ]

    -- ---- one step, and all

    hangs_step : (s : State) (event : Event) → IsTyped g (happens event) → HangsTogether s → Keeps (step g limit s event)
    hangs_step s (Take table change) typed h = hangs_take s table change h (g.tables table) refl typed
    hangs_step s (Move e i j) typed h = hangs_move s e i j (g.fed e) refl h
    hangs_step s (Flush v j) typed h =
        elim (is_place g v j) as (λ b. is_place g v j ≡ b → Keeps (cond b (flush_bundle g limit s v j (g.bundle v)) (Err (Order NoSuchPlace)))) [
          | true ↦ λ q.
              let a = and_parts _ _ q in
              let b = and_parts _ _ a.1 in
              hangs_flush s v j (g.bundle v) (leb-true v g.count b.0) (ltb-true j g.subtasks b.1) h
          | false ↦ λ q. tt
        ] refl

    hangs_told : (s : State) → HangsTogether s → HangsTogether (told_quiet g s)
    hangs_told s h = record {
      runs = h.runs;
      scanned = h.scanned;
      taken = h.taken;
      typed = h.typed;
      within = h.within;
      ports = h.ports;
      fed = h.fed;
      prints = h.prints;
      printed = changes_in-append s.printed (Quiet (counts g s) ∷ []) ∙ (append-nil (changes_in s.printed) ∙ h.printed);
      printed_within = h.printed_within;
      printed_from = h.printed_from;
      counted = h.counted;
    }

    pub hangs_item : (s : State) (item : Item) → IsTyped g item → HangsTogether s → Keeps (step_item g limit s item)
    hangs_item s (happens event) typed h = hangs_step s event typed h
    hangs_item s quiet typed h = hangs_told s h

    hangs_in : (s : State) (r : Result State StepFault) → HangsTogether s → Keeps r → HangsTogether (state_in s r)
    hangs_in s (Err fault) h k = h
    hangs_in s (Ok later) h k = k

    pub hangs_after : (s : State) (items : List Item) → AreTyped g items → HangsTogether s → HangsTogether (after g limit s items)
    hangs_after s [] typed h = h
    hangs_after s (item ∷ items) typed h = hangs_after (state_in s (step_item g limit s item)) items typed.1 (hangs_in s (step_item g limit s item) h (hangs_item s item typed.0 h))
