-- From what a node's subtasks consumed to what they sent, node by node, inside one state.
use Rattle.std.specs.Prelude.{◌≡◌, ℕ, ◌<◌, ◌≤◌, ◌==◌, cond, List, ◌++◌, length, min, Ok}
use Rattle.std.proofs.Common.{zero, suc, refl, sym, ap, subst, ◌∙◌, arith, take, inl, inr, ⊎_elim, Some}
use Rattle.std.specs.List.{AllByRecursion, filter}
use Rattle.std.proofs.lemmas.List.{take_all}
use Rattle.std.proofs.lemmas.Bool.{cases_lt, eqb-true}
use Rattle.ct_value.specs.Bag.{copies, none}
use Rattle.ct_value.specs.Rows.{project}
use Rattle.ct_value.specs.declared.row.Row.{Row}
use Rattle.ct_change.specs.declared.change.Change.{Change}
use Rattle.ct_change.specs.Changelog.{Rows}
use Rattle.op_rules.specs.History.{Arrival, at_port, from_port, joined}
use Rattle.op_rules.specs.Edges.{Meaning, bag, last_rows, partials, IsPartial, ReadsAs, Exchange, forward, hash, goes_by, goes, belongs_by, belongs, IsRoutedBy, IsUnique, IsApart, HoldsOver, IsSeenBy, IsSeen, AreApartBy, IsKeyedBy}
use Rattle.op_rules.specs.Tasks.{total, emitted_by, IsFine, IsReady, IsSettled, IsSplitBy, ComeFixedBy, ComeApartBy, Emitted, Facts}
use Rattle.stream_model.specs.Network.{Network, task, IsNode, IsWired, IsAnswered, IsAnswer, of_scan, of_node}
use Rattle.stream_model.proofs.Sums.{reach, take-filter, total-same, total_le, total_some, total_only, total_at, total_cond, all-take, all-append_left, all-filter, filter_passes, all-weaker, take_end, take_both, cond_below}
use Rattle.op_rules.proofs.laws.Worths.{restricted, sum_rows, copies-restricted, copies-sum}
use Rattle.stream_model.proofs.Exchange.{sel_keep, all-at, le_of, all_one, means_mentioned, means_same, IsApart-front, IsUnique-below, came_bag, copies_came, means_came}

-- how what was consumed hangs together with what was sent
pub record Linked (g : Network) (sent : ℕ → ℕ → List Change) (consumed : ℕ → ℕ → List Arrival) : Type 0 where
  pub within : (v j : ℕ) → AllByRecursion (λ a. a.from < g.subtasks) (consumed v j)
  pub ports : (v j : ℕ) → AllByRecursion (λ a. a.port < g.ports v) (consumed v j)
  pub fed : (v j p i : ℕ) → p < g.ports v → i < g.subtasks → j < g.subtasks → (rest : List Change) × (from_port p i (consumed v j) ++ rest ≡ filter (λ c. goes (g.edge (g.source v p)) i j c.row) (sent (g.source v p) i))

module _ (g : Network) (wired : IsWired g) where
  module _ (sent : ℕ → ℕ → List Change) (consumed : ℕ → ℕ → List Arrival) (w : Linked g sent consumed) (v j : ℕ) (j_in : j < g.subtasks) where
    -- the first of what was consumed holds, of each subtask of a port, what a front of its list sent here
    pub front : (p i n : ℕ) → p < g.ports v → i < g.subtasks → (m : ℕ) × (from_port p i (take n (consumed v j)) ≡ filter (λ c. goes (g.edge (g.source v p)) i j c.row) (take m (sent (g.source v p) i)))
    front p i n pl il =
        let f = w.fed v j p i pl il j_in in
        let a : List Change = from_port p i (consumed v j) in
        let k : List Change = filter (λ c. goes (g.edge (g.source v p)) i j c.row) (sent (g.source v p) i) in
        let many : ℕ = length (from_port p i (take n (consumed v j))) in
        let e1 : from_port p i (take n (consumed v j)) ≡ take many a = sel_keep p i (consumed v j) n in
        let e2 : a ≡ take (length a) k = take_end a f.0 k f.1 in
        let least : ℕ = min many (length a) in
        let e3 : take many (take (length a) k) ≡ take least k = take_both many (length a) k in (
          reach (λ c. goes (g.edge (g.source v p)) i j c.row) least (sent (g.source v p) i),
          e1 ∙ (ap (take many) e2 ∙ (e3 ∙ take-filter (λ c. goes (g.edge (g.source v p)) i j c.row) least (sent (g.source v p) i))),
        )

    module _ (p n : ℕ) (p_in : p < g.ports v) where
      -- how far into the list of each subtask
      pub far : ℕ → ℕ
      far i = elim (cases_lt i g.subtasks) [ inl l ↦ (front p i n p_in l).0 | inr l ↦ 0 ]

      pub far_is : (i : ℕ) → i < g.subtasks → from_port p i (take n (consumed v j)) ≡ filter (λ c. goes (g.edge (g.source v p)) i j c.row) (take (far i) (sent (g.source v p) i))
      unfolding far
      far_is i l = elim (cases_lt i g.subtasks) as (λ s. from_port p i (take n (consumed v j)) ≡ filter (λ c. goes (g.edge (g.source v p)) i j c.row) (take (elim s as (λ _. ℕ) [ inl l ↦ (front p i n p_in l).0 | inr l ↦ 0 ]) (sent (g.source v p) i))) [
        | inl m ↦ (front p i n p_in m).1
        | inr m ↦ absurd (omega arith)
      ]

  -- each key that holds over all subtasks holds at every choice of one front per subtask
  module _ (u : ℕ) (sent : ℕ → List Change) (fine : IsFine g.subtasks (g.edge u) sent) where
    pub over : (k : List ℕ) → HoldsOver (g.edge u) k → (m : ℕ → ℕ) (b : ℕ → Rows) → ((i : ℕ) → i < g.subtasks → ReadsAs (g.edge u).meaning (take (m i) (sent i)) (b i)) → IsUnique k (λ r. total g.subtasks (λ i. copies (b i) r))
    over k o m b means r s e x y =
        let l : List ℕ = o.local in
        let d : List ℕ = o.fixing in
        let i = total_some g.subtasks (λ i. copies (b i) r) x in
        let j = total_some g.subtasks (λ i. copies (b i) s) y in
        let same : (a c : ℕ) (q z : Row) → a < g.subtasks → c < g.subtasks → 0 < copies (b a) q → 0 < copies (b c) z → project d q ≡ project d z → a ≡ c
        = λ a c q z al cl qa zc qz.
        rows_are (λ q. project d q ≡ project d z → a ≡ c) q a al
        (all-take _ (m a) (sent a) (all-weaker _ _ (λ x h. rows_are (λ z. project d x.row ≡ project d z → a ≡ c) z c cl (all-take _ (m c) (sent c) h) zc) (sent a) (fine.fixed d o.is_fixing a c al cl)))
        qa qz in
        let ij : i.0 ≡ j.0 = same i.0 j.0 r s i.1 j.1 i.2 j.2 (o.has_fixing r s e) in
        let there : 0 < copies (b i.0) s = subst (λ a. 0 < copies (b a) s) (sym ij) j.2 in
        let one = fine.keys l o.is_local i.0 i.1 (m i.0) (b i.0) (means i.0 i.1) r s (o.has_local r s e) i.2 there in
        let all : total g.subtasks (λ i. copies (b i) r) ≡ copies (b i.0) r
        = total_only g.subtasks i.0 (λ i. copies (b i) r) i.1 (λ a al pos. same i.0 a r r i.1 al i.2 pos refl) in
        (one.0, omega (arith, all, one.1))
      where
        rows_are : (Q : Row → Type 0) (r : Row) (a : ℕ) → a < g.subtasks → AllByRecursion (λ c. Q c.row) (take (m a) (sent a)) → 0 < copies (b a) r → Q r
        rows_are Q r a al h pos = ⊎_elim (λ q. q) (λ z. absurd ((wired.formed u).unkeyed z o.local o.is_local)) (means_mentioned (g.edge u).meaning Q r (take (m a) (sent a)) (b a) (means a al) h pos)

  module _ (sent : ℕ → ℕ → List Change) (consumed : ℕ → ℕ → List Arrival) (w : Linked g sent consumed) where
    -- a subtask may rely on what it consumes, where its inputs are fine
    module _ (v j : ℕ) (j_in : j < g.subtasks) (inputs : (p : ℕ) → p < g.ports v → IsFine g.subtasks (g.edge (g.source v p)) (sent (g.source v p))) where
      within_front : (n : ℕ) → AllByRecursion (λ x. x.from < g.subtasks) (take n (consumed v j))
      within_front n = all-take (λ x. x.from < g.subtasks) n (consumed v j) (w.within v j)

      apart_fronts : (m : Meaning) (s : ℕ → List Change) (n : ℕ → ℕ) → AreApartBy m g.subtasks s → AreApartBy m g.subtasks (λ i. take (n i) (s i))
      apart_fronts bag s n h = tt
      apart_fronts (last_rows k) s n h = IsApart-front k g.subtasks s n h
      apart_fronts (partials w) s n h = tt

      -- the bag of a front of each subtask's list
      module _ (p n : ℕ) (pl : p < g.ports v) where
        bag_at : ℕ → Rows
        bag_at i = elim (cases_lt i g.subtasks) [ inl l ↦ ((inputs p pl).valid i l (far sent consumed w v j j_in p n pl i)).0 | inr l ↦ none ]

        bag_at_is : (i : ℕ) → i < g.subtasks → ReadsAs (g.edge (g.source v p)).meaning (take (far sent consumed w v j j_in p n pl i) (sent (g.source v p) i)) (bag_at i)
        unfolding bag_at
        bag_at_is i l = elim (cases_lt i g.subtasks) as (λ s. ReadsAs (g.edge (g.source v p)).meaning (take (far sent consumed w v j j_in p n pl i) (sent (g.source v p) i)) (elim s as (λ _. Rows) [ inl l ↦ ((inputs p pl).valid i l (far sent consumed w v j j_in p n pl i)).0 | inr l ↦ none ])) [
          | inl m ↦ ((inputs p pl).valid i m (far sent consumed w v j j_in p n pl i)).1
          | inr m ↦ absurd (omega arith)
        ]

        came_is : ReadsAs (g.edge (g.source v p)).meaning (at_port p (take n (consumed v j))) (came_bag g.subtasks (g.edge (g.source v p)).exchange (g.edge (g.source v p)).route p j j_in (take n (consumed v j)) (within_front n) (λ i. take (far sent consumed w v j j_in p n pl i) (sent (g.source v p) i)) (far_is sent consumed w v j j_in p n pl) (g.edge (g.source v p)).meaning bag_at)
        came_is = means_came g.subtasks (g.edge (g.source v p)).exchange (g.edge (g.source v p)).route p j j_in (take n (consumed v j)) (within_front n) (λ i. take (far sent consumed w v j j_in p n pl i) (sent (g.source v p) i)) (far_is sent consumed w v j j_in p n pl) (g.edge (g.source v p)).meaning ((wired.formed (g.source v p)).keyed) (apart_fronts (g.edge (g.source v p)).meaning (sent (g.source v p)) (far sent consumed w v j j_in p n pl) (inputs p pl).apart) bag_at bag_at_is

        -- by the exchange: of one subtask, or of all
        keys_by : (e : Exchange) (m : Meaning) (a : Rows) (k : List ℕ) → ((r : Row) → copies a r ≡ total g.subtasks (λ i. cond (belongs_by m e (g.edge (g.source v p)).route i j r) (copies (bag_at i) r) 0)) → (IsPartial m → IsPartial (g.edge (g.source v p)).meaning) → IsSeenBy e (g.edge (g.source v p)) k → IsUnique k (copies a)
        keys_by forward bag a k is q c =
            IsUnique-below k (copies a) (copies (bag_at j)) (λ r. omega (arith, is r, total_at g.subtasks j (λ i. copies (bag_at i) r) j_in)) ((inputs p pl).keys k c j j_in (far sent consumed w v j j_in p n pl j) (bag_at j) (bag_at_is j j_in))
        keys_by forward (last_rows s) a k is q c =
            IsUnique-below k (copies a) (copies (bag_at j)) (λ r. omega (arith, is r, total_at g.subtasks j (λ i. copies (bag_at i) r) j_in)) ((inputs p pl).keys k c j j_in (far sent consumed w v j j_in p n pl j) (bag_at j) (bag_at_is j j_in))
        keys_by forward (partials s) a k is q c = absurd ((wired.formed (g.source v p)).unkeyed (q tt) k c)
        keys_by (hash s) m a k is q c =
            IsUnique-below k (copies a) (λ r. total g.subtasks (λ i. copies (bag_at i) r))
            (λ r. let le : total g.subtasks (λ i. cond (belongs_by m (hash s) (g.edge (g.source v p)).route i j r) (copies (bag_at i) r) 0) ≤ total g.subtasks (λ i. copies (bag_at i) r) = total_le g.subtasks _ _ (λ i l. cond_below (belongs_by m (hash s) (g.edge (g.source v p)).route i j r) (copies (bag_at i) r)) in omega (arith, is r))
            (over (g.source v p) (sent (g.source v p)) (inputs p pl) k c (far sent consumed w v j j_in p n pl) bag_at bag_at_is)

        no_keys : (e : Exchange) (k : List ℕ) → IsPartial (g.edge (g.source v p)).meaning → IsSeenBy e (g.edge (g.source v p)) k → ⊥
        no_keys forward k z c = (wired.formed (g.source v p)).unkeyed z k c
        no_keys (hash s) k z c = (wired.formed (g.source v p)).unkeyed z c.local c.is_local

        keys_at : (k : List ℕ) → IsSeen (g.edge (g.source v p)) k → (b : Rows) → ReadsAs (g.edge (g.source v p)).meaning (at_port p (take n (consumed v j))) b → IsUnique k (copies b)
        keys_at k c b h =
            ⊎_elim
            (λ is. keys_by (g.edge (g.source v p)).exchange (g.edge (g.source v p)).meaning b k (λ r. is r ∙ copies_came g.subtasks (g.edge (g.source v p)).exchange (g.edge (g.source v p)).route p j j_in (take n (consumed v j)) (within_front n) (λ i. take (far sent consumed w v j j_in p n pl i) (sent (g.source v p) i)) (far_is sent consumed w v j j_in p n pl) (g.edge (g.source v p)).meaning bag_at r) (λ z. z) c)
            (λ z. absurd (no_keys (g.edge (g.source v p)).exchange k z c))
            (means_same (g.edge (g.source v p)).meaning (at_port p (take n (consumed v j))) b _ h came_is)

      pub all_kept : (P : Change → Type 0) (p : ℕ) → p < g.ports v → ((i : ℕ) → i < g.subtasks → AllByRecursion P (filter (λ c. goes (g.edge (g.source v p)) i j c.row) (sent (g.source v p) i))) → AllByRecursion P (at_port p (consumed v j))
      all_kept P p pl h =
          all-at P p g.subtasks (consumed v j) (w.within v j) (λ i l.
          let f = w.fed v j p i pl l j_in in
          all-append_left P (from_port p i (consumed v j)) f.0 (subst (AllByRecursion P) (sym f.1) (h i l)))

      placed_by : (e : Exchange) (p : ℕ) → ((P : Change → Type 0) → ((i : ℕ) → i < g.subtasks → AllByRecursion P (filter (λ c. goes_by e (g.edge (g.source v p)).route i j c.row) (sent (g.source v p) i))) → AllByRecursion P (at_port p (consumed v j))) → IsRoutedBy e (g.edge (g.source v p)).route j (at_port p (consumed v j))
      placed_by forward p k = tt
      placed_by (hash s) p k =
          k (λ c. (g.edge (g.source v p)).route (project s c.row) ≡ j) (λ i l. all-weaker _ _ (λ c q. eqb-true ((g.edge (g.source v p)).route (project s c.row)) j q) (filter (λ c. goes_by (hash s) (g.edge (g.source v p)).route i j c.row) (sent (g.source v p) i)) (filter_passes (λ c. goes_by (hash s) (g.edge (g.source v p)).route i j c.row) (sent (g.source v p) i)))

      pub ready : IsReady (task g v) j (consumed v j)
      ready = record {
        ports = w.ports v j;
        valid = λ p pl n. (_, came_is p n pl);
        kinds = λ p pl. all_kept _ p pl (λ i l. all-filter _ _ (sent (g.source v p) i) ((inputs p pl).kinds i l));
        types = λ p pl. all_kept _ p pl (λ i l. all-filter _ _ (sent (g.source v p) i) ((inputs p pl).types i l));
        keys = λ p pl k c n. keys_at p n pl k c;
        placed = λ p pl. placed_by (g.edge (g.source v p)).exchange p (λ P. all_kept P p pl);
      }

    -- what reaches a node's subtasks over an edge
    abbrev Reaches : ℕ → Exchange → (Row → ℕ) → ℕ → ℕ → Type 1
    Reaches v e route u p = (j : ℕ) → j < g.subtasks → (P : Change → Type 0) → ((i : ℕ) → i < g.subtasks → AllByRecursion P (filter (λ c. goes_by e route i j c.row) (sent u i))) → AllByRecursion P (at_port p (consumed v j))

    -- lists that are apart stay so over a forward edge
    apart_by : (v u p : ℕ) (d : List ℕ) → IsApart d g.subtasks (sent u) → Reaches v forward (g.edge u).route u p → IsApart d g.subtasks (λ j. at_port p (consumed v j))
    apart_by v u p d f k i j il jl =
        k i il _ (λ a al. all_one _ (sent u) a i (all-weaker _ _ (λ x h. k j jl _ (λ b bl. all_one _ (sent u) b j h)) (sent u i) (f i j il jl)))

    fixed_by : (v : ℕ) (e : Exchange) (u p : ℕ) → IsFine g.subtasks (g.edge u) (sent u) → Reaches v e (g.edge u).route u p → ComeFixedBy e g.subtasks (g.edge u) (λ j. at_port p (consumed v j))
    fixed_by v forward u p f k = λ d c. apart_by v u p d (f.fixed d c) k
    fixed_by v (hash s) u p f k = tt

    kept_by : (v : ℕ) (e : Exchange) (m : Meaning) (u p : ℕ) → AreApartBy m g.subtasks (sent u) → Reaches v e (g.edge u).route u p → ComeApartBy e m g.subtasks (λ j. at_port p (consumed v j))
    kept_by v forward bag u p f k = tt
    kept_by v forward (last_rows s) u p f k = apart_by v u p s f k
    kept_by v forward (partials w) u p f k = tt
    kept_by v (hash s) m u p f k = tt

  module _ (sent : ℕ → ℕ → List Change) (cuts : ℕ → ℕ → List (List Arrival)) (w : Linked g sent (λ v j. joined (cuts v j))) (runs : (v j : ℕ) → 0 < g.ports v → j < g.subtasks → emitted_by (task g v) j (cuts v j) ≡ Ok (sent v j)) where
    abbrev consumed : ℕ → ℕ → List Arrival
    consumed v j = joined (cuts v j)

    -- a node's output is fine, where its inputs are
    pub fine_of : (v : ℕ) → 0 < g.ports v → Facts (task g v) → ((p : ℕ) → p < g.ports v → IsFine g.subtasks (g.edge (g.source v p)) (sent (g.source v p))) → IsFine g.subtasks (g.edge v) (sent v)
    fine_of v some facts inputs =
        let r : (j : ℕ) → j < g.subtasks → IsReady (task g v) j (consumed v j) = λ j l. ready sent consumed w v j l inputs in
        let e : (j : ℕ) → j < g.subtasks → Emitted (task g v) j (cuts v j) (sent v j) = λ j l. record { subtask = l; emitted = runs v j some l; ready = r j l } in
        record {
          valid = λ j l n. facts.prefixes_stand j (cuts v j) (sent v j) (e j l) n;
          apart = facts.after_only (cuts v) (sent v) e (λ p pl. kept_by sent consumed w v (g.edge (g.source v p)).exchange (g.edge (g.source v p)).meaning (g.source v p) p (inputs p pl).apart (λ j l P. all_kept sent consumed w v j l inputs P p pl)) (λ p pl. fixed_by sent consumed w v (g.edge (g.source v p)).exchange (g.source v p) p (inputs p pl) (λ j l P. all_kept sent consumed w v j l inputs P p pl));
          kinds = λ j l. facts.kinds_stay j (cuts v j) (sent v j) (e j l);
          types = λ j l. facts.types_stay j (cuts v j) (sent v j) (e j l);
          keys = λ k c j l n. facts.local_keys j (cuts v j) (sent v j) (e j l) k c n;
          fixed = λ d c. facts.fixing_sets (cuts v) (sent v) e (λ p pl. fixed_by sent consumed w v (g.edge (g.source v p)).exchange (g.source v p) p (inputs p pl) (λ j l P. all_kept sent consumed w v j l inputs P p pl)) d c;
        }

    module _ (facts : (v : ℕ) → 0 < g.ports v → Facts (task g v)) (scans : (v table : ℕ) → g.scans v ≡ Some table → IsFine g.subtasks (g.edge v) (sent v)) where
      -- the induction over the nodes, in number order
      fine_below : (n v : ℕ) → v < n → IsNode g v → IsFine g.subtasks (g.edge v) (sent v)
      fine_below zero v l is = absurd (omega arith)
      fine_below (suc n) v l (inl scan) = scans v scan.0 scan.1
      fine_below (suc n) v l (inr some) = fine_of v some (facts v some) (λ p pl. fine_below n (g.source v p) (let below = wired.below v p pl in omega arith) (wired.sourced v p pl))

      pub all_fine : (v : ℕ) → IsNode g v → IsFine g.subtasks (g.edge v) (sent v)
      all_fine v is = fine_below (suc v) v (omega arith) is

      pub all_ready : (v j : ℕ) → j < g.subtasks → IsReady (task g v) j (consumed v j)
      all_ready v j l = ready sent consumed w v j l (λ p pl. all_fine (g.source v p) (wired.sourced v p pl))

      module _ (quiet : (v j p i : ℕ) → p < g.ports v → i < g.subtasks → j < g.subtasks → from_port p i (consumed v j) ≡ filter (λ c. goes (g.edge (g.source v p)) i j c.row) (sent (g.source v p) i)) where
        settled_same : (u : ℕ) (a b : Rows) → ((r : Row) → copies a r ≤ copies b r) → IsSettled (g.edge u) b → IsSettled (g.edge u) a
        settled_same u a b le s = record {
          keys = λ k m. IsUnique-below k (copies a) (copies b) le (s.keys k m);
          types = λ r pos. s.types r (omega (arith, le r));
        }

        -- a node's answer, from its inputs'
        module _ (v : ℕ) (some : 0 < g.ports v) (whole : ℕ → Rows) (inputs : (p : ℕ) → p < g.ports v → IsAnswered g.subtasks (g.edge (g.source v p)) (sent (g.source v p)) (whole p)) where
          -- the bags of what an input's subtasks sent
          bags_of : ℕ → ℕ → Rows
          bags_of p = elim (cases_lt p (g.ports v)) [ inl l ↦ (inputs p l).rows | inr l ↦ λ i. none ]

          means_of : (p : ℕ) → p < g.ports v → (i : ℕ) → i < g.subtasks → ReadsAs (g.edge (g.source v p)).meaning (sent (g.source v p) i) (bags_of p i)
          unfolding bags_of
          means_of p pl = elim (cases_lt p (g.ports v)) as (λ s. (i : ℕ) → i < g.subtasks → ReadsAs (g.edge (g.source v p)).meaning (sent (g.source v p) i) ((elim s as (λ _. ℕ → Rows) [ inl l ↦ (inputs p l).rows | inr l ↦ λ i. none ]) i)) [
            | inl l ↦ (inputs p l).stands
            | inr l ↦ absurd (omega arith)
          ]

          together_of : (p : ℕ) → p < g.ports v → (r : Row) → total g.subtasks (λ i. copies (bags_of p i) r) ≡ copies (whole p) r
          unfolding bags_of
          together_of p pl = elim (cases_lt p (g.ports v)) as (λ s. (r : Row) → total g.subtasks (λ i. copies ((elim s as (λ _. ℕ → Rows) [ inl l ↦ (inputs p l).rows | inr l ↦ λ i. none ]) i) r) ≡ copies (whole p) r) [
            | inl l ↦ (inputs p l).together
            | inr l ↦ absurd (omega arith)
          ]

          -- the bag of what came to a port of a subtask
          part_of : ℕ → ℕ → Rows
          part_of j p = sum_rows g.subtasks (λ i. restricted (belongs (g.edge (g.source v p)) i j) (bags_of p i))

          copies_part : (j p : ℕ) (r : Row) → copies (part_of j p) r ≡ total g.subtasks (λ i. cond (belongs (g.edge (g.source v p)) i j r) (copies (bags_of p i) r) 0)
          unfolding part_of
          copies_part j p r = copies-sum g.subtasks _ r ∙ total-same g.subtasks _ _ (λ i l. copies-restricted _ (bags_of p i) r)

          means_part : (j p : ℕ) → j < g.subtasks → p < g.ports v → ReadsAs (g.edge (g.source v p)).meaning (at_port p (consumed v j)) (part_of j p)
          unfolding part_of
          means_part j p jl pl = means_came g.subtasks (g.edge (g.source v p)).exchange (g.edge (g.source v p)).route p j jl (consumed v j) (w.within v j) (sent (g.source v p)) (λ i il. quiet v j p i pl il jl) (g.edge (g.source v p)).meaning ((wired.formed (g.source v p)).keyed) (all_fine (g.source v p) (wired.sourced v p pl)).apart (bags_of p) (means_of p pl)

          split_by : (m : Meaning) (e : Exchange) (p : ℕ) → p < g.ports v → IsKeyedBy m e → (parts : ℕ → Rows) → ((j : ℕ) (r : Row) → copies (parts j) r ≡ total g.subtasks (λ i. cond (belongs_by m e (g.edge (g.source v p)).route i j r) (copies (bags_of p i) r) 0)) → IsSplitBy m e (g.edge (g.source v p)).route g.subtasks parts (whole p)
          split_by bag forward p pl k parts q = λ r. sym (together_of p pl r) ∙ total-same g.subtasks _ _ (λ j jl. sym (q j r ∙ total_at g.subtasks j (λ i. copies (bags_of p i) r) jl))
          split_by (last_rows s) forward p pl k parts q = λ r. sym (together_of p pl r) ∙ total-same g.subtasks _ _ (λ j jl. sym (q j r ∙ total_at g.subtasks j (λ i. copies (bags_of p i) r) jl))
          split_by (partials w) forward p pl k parts q = absurd k
          split_by bag (hash s) p pl k parts q = λ j jl r. q j r ∙ (total_cond g.subtasks ((g.edge (g.source v p)).route (project s r) == j) (λ i. copies (bags_of p i) r) ∙ ap (λ n. cond ((g.edge (g.source v p)).route (project s r) == j) n 0) (together_of p pl r))
          split_by (last_rows x) (hash s) p pl k parts q = λ j jl r. q j r ∙ (total_cond g.subtasks ((g.edge (g.source v p)).route (project s r) == j) (λ i. copies (bags_of p i) r) ∙ ap (λ n. cond ((g.edge (g.source v p)).route (project s r) == j) n 0) (together_of p pl r))
          split_by (partials x) (hash s) p pl k parts q = λ j jl r. q j r ∙ (total_cond g.subtasks ((g.edge (g.source v p)).route (project x.group r) == j) (λ i. copies (bags_of p i) r) ∙ ap (λ n. cond ((g.edge (g.source v p)).route (project x.group r) == j) n 0) (together_of p pl r))

          part_le : (j p : ℕ) → p < g.ports v → (r : Row) → copies (part_of j p) r ≤ copies (whole p) r
          part_le j p pl r =
              let le : total g.subtasks (λ i. cond (belongs (g.edge (g.source v p)) i j r) (copies (bags_of p i) r) 0) ≤ total g.subtasks (λ i. copies (bags_of p i) r) = total_le g.subtasks _ _ (λ i l. cond_below (belongs (g.edge (g.source v p)) i j r) (copies (bags_of p i) r)) in
              omega (arith, copies_part j p r, together_of p pl r)

          made : (j : ℕ) → j < g.subtasks → (b : Rows) × (g.part v j (part_of j) ≡ Some b) × ReadsAs (g.edge v).meaning (sent v j) b
          made j jl =
              (facts v some).folds_to_answer j (cuts v j) (sent v j) (record { subtask = jl; emitted = runs v j some jl; ready = all_ready v j jl }) (part_of j) (λ p pl. (means_part j p jl pl, settled_same (g.source v p) (part_of j p) (whole p) (part_le j p pl) (inputs p pl).settled))

          bag_out : ℕ → Rows
          bag_out j = elim (cases_lt j g.subtasks) [ inl l ↦ (made j l).0 | inr l ↦ none ]

          bag_out_is : (j : ℕ) → j < g.subtasks → (g.part v j (part_of j) ≡ Some (bag_out j)) × ReadsAs (g.edge v).meaning (sent v j) (bag_out j)
          unfolding bag_out
          bag_out_is j jl = elim (cases_lt j g.subtasks) as (λ s. (g.part v j (part_of j) ≡ Some (elim s as (λ _. Rows) [ inl l ↦ (made j l).0 | inr l ↦ none ])) × ReadsAs (g.edge v).meaning (sent v j) (elim s as (λ _. Rows) [ inl l ↦ (made j l).0 | inr l ↦ none ])) [
            | inl l ↦ ((made j l).1, (made j l).2)
            | inr l ↦ absurd (omega arith)
          ]

          sum_is : (b : Rows) × (g.batch v whole ≡ Some b) × ((r : Row) → total g.subtasks (λ j. copies (bag_out j) r) ≡ copies b r)
          sum_is = (facts v some).parts_add_up part_of whole bag_out (λ p pl. split_by (g.edge (g.source v p)).meaning (g.edge (g.source v p)).exchange p pl ((wired.formed (g.source v p)).keyed) (λ j. part_of j p) (λ j. copies_part j p)) (λ j jl. (bag_out_is j jl).0)

          answered_of : (b : Rows) × (g.batch v whole ≡ Some b) × IsAnswered g.subtasks (g.edge v) (sent v) b
          answered_of =
              let q = sum_is in (
                q.0,
                q.1,
                record {
                  rows = bag_out;
                  stands = λ j jl. (bag_out_is j jl).1;
                  together = q.2;
                  settled = record {
                    keys = λ k. ⊎_elim
                        (λ c. (facts v some).unique_keys whole q.0 q.1 (λ p pl. (inputs p pl).settled) k c)
                        (λ o. IsUnique-below k (copies q.0) _ (λ r. le_of _ _ (sym (q.2 r)))
                        (over v (sent v) (all_fine v (inr some)) k o (λ i. length (sent v i)) bag_out (λ i il. subst (λ l. ReadsAs (g.edge v).meaning l (bag_out i)) (sym (take_all (length (sent v i)) (sent v i) (omega arith))) (bag_out_is i il).1)));
                    types = (facts v some).answer_types whole q.0 q.1 (λ p pl. (inputs p pl).settled);
                  };
                },
              )

        module _ (tables : ℕ → Rows) (first : (v table : ℕ) → g.scans v ≡ Some table → IsAnswered g.subtasks (g.edge v) (sent v) (tables table)) where
          abbrev HasAnswer : ℕ → Type 0
          HasAnswer v = (b : Rows) × IsAnswer g tables v b × IsAnswered g.subtasks (g.edge v) (sent v) b

          -- the answers of the inputs, by port
          whole_of : (v : ℕ) → ((p : ℕ) → p < g.ports v → HasAnswer (g.source v p)) → (f : ℕ → Rows) × ((p : ℕ) → p < g.ports v → IsAnswer g tables (g.source v p) (f p) × IsAnswered g.subtasks (g.edge (g.source v p)) (sent (g.source v p)) (f p))
          whole_of v ins = (
            λ p. elim (cases_lt p (g.ports v)) as (λ _. Rows) [ inl l ↦ (ins p l).0 | inr l ↦ none ],
            λ p pl. elim (cases_lt p (g.ports v)) as (λ s. IsAnswer g tables (g.source v p) (elim s as (λ _. Rows) [ inl l ↦ (ins p l).0 | inr l ↦ none ]) × IsAnswered g.subtasks (g.edge (g.source v p)) (sent (g.source v p)) (elim s as (λ _. Rows) [ inl l ↦ (ins p l).0 | inr l ↦ none ])) [
              | inl l ↦ ((ins p l).1, (ins p l).2)
              | inr l ↦ absurd (omega arith)
            ],
          )

          of_inputs : (v : ℕ) → 0 < g.ports v → ((p : ℕ) → p < g.ports v → HasAnswer (g.source v p)) → HasAnswer v
          of_inputs v some ins =
              let w = whole_of v ins in
              let a = answered_of v some w.0 (λ p pl. (w.1 p pl).1) in
              (a.0, of_node w.0 some (λ p pl. (w.1 p pl).0) a.1, a.2)

          -- at quiet what each node sent stands for its answer
          answer_below : (n v : ℕ) → v < n → IsNode g v → HasAnswer v
          answer_below zero v l is = absurd (omega arith)
          answer_below (suc n) v l (inl scan) = (tables scan.0, of_scan scan.1, first v scan.0 scan.1)
          answer_below (suc n) v l (inr some) = of_inputs v some (λ p pl. answer_below n (g.source v p) (let below = wired.below v p pl in omega arith) (wired.sourced v p pl))

          pub answered : (v : ℕ) → IsNode g v → HasAnswer v
          answered v is = answer_below (suc v) v (omega arith) is
