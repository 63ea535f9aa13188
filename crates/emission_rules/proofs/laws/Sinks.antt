-- A sink's writer meets its facts.
use Rattle.std.proofs.Common.{◌≡◌, ℕ, zero, suc, ◌<◌, ◌==◌, Bool, true, false, cond, List, [], ◌∷◌, take, Option, Some, None, Ok, refl, sym, ap, subst, ◌∙◌, arith, inl, inr}
use Rattle.std.specs.List.{Contains}
use Rattle.std.proofs.lemmas.Bool.{eqb-true, eqb-false}
use Rattle.ct_value.specs.Bag.{copies, none, one_at}
use Rattle.ct_value.proofs.laws.Bags.{one_at_itself, copies-none}
use Rattle.ct_value.specs.Order.{row_cmp, row_total, row_exact}
use Rattle.ct_value.specs.Rows.{project}
use Rattle.ct_value.specs.declared.row.Row.{Row}
use Rattle.ct_change.specs.declared.kind.Kind.{Kind}
use Rattle.ct_change.specs.declared.kind.Kind.TheVariants.{I, UB, UA, D}
use Rattle.ct_change.specs.declared.change.Change.{Change}
use Rattle.ct_change.specs.Changelog.{Mode, append, retract, upsert, Rows, same_row as is_row, adds, has, admits, addition, removal, last_shown, apply, fold, fold_from, MayCome, IsValid, IsValidFrom, Means}
use Rattle.ct_change.specs.KeyRows.{key_row, row_told}
use Rattle.ct_change.proofs.laws.KeyRows.{key_stays, key-told}
use Rattle.ct_change.proofs.laws.Meanings.{same_row-true, same_row-itself, copies-apply, means_fold, fold_means, valid_where_prefixes_mean, IsValidFrom-take}
use Rattle.rel_algebra.specs.Sums.{one, plus, sum_over}
use Rattle.rel_algebra.proofs.laws.Bags.{by_items, plus-one, sum_over-none, sum_over-add}
use Rattle.op_rules.specs.History.{Arrival, at_port}
use Rattle.op_rules.specs.Rules.{Answer}
use Rattle.op_rules.specs.Edges.{Meaning, bag, last_rows, partials, meaning_of, IsPartial, ReadsAs, Exchange, forward, hash, Edge, IsUnique, HoldsOver, LiesIn, KeepsKeys, IsSeenBy}
use Rattle.op_rules.specs.Tasks.{Task, IsReady}
use Rattle.op_rules.specs.Ports.{Takes}
use Rattle.op_rules.proofs.laws.Histories.{prefix_at}
use Rattle.emission_rules.specs.Changes.{mode_after}
use Rattle.emission_rules.specs.Sink.{Sink, splits, kind_printed, print_mode, sink_change, sink_rule, MayBeRead, SinkFits, SinksStand, SinksTake}
use Rattle.emission_rules.proofs.laws.Moved.{Fate, moved, image, sent_of, CarriesRows, Carries, AreInRange}
use Rattle.emission_rules.proofs.laws.RowFacts.{Moves, LeavesOne, node, row_facts}
use Rattle.emission_rules.proofs.laws.RowReads.{reads_bag, reads_last, bag_whole, last_whole, ReadsFront}
use Rattle.emission_rules.proofs.laws.Filters.{from_first}
use Rattle.emission_rules.proofs.laws.Projects.{reads_after}

-- a row that comes stays what it is, and one that goes is told as the mode does
abbrev fate : Mode → Bool → Row → Fate
fate mode comes row = Some (Some (row_told mode comes row))

is_told : (mode : Mode) (comes : Bool) (row made : Row) → fate mode comes row ≡ Some (Some made) → row_told mode comes row ≡ made
is_told mode comes row made e = let h : Some (Some (row_told mode comes row)) ≡ Some (Some made) = e in cc

printed_adds : (split : Bool) (kind : Kind) → adds (kind_printed split kind) ≡ adds kind
printed_adds true I = refl
printed_adds true UB = refl
printed_adds true UA = refl
printed_adds true D = refl
printed_adds false kind = refl

itself : (rows : Rows) → sum_over (λ row. Some (one row)) rows ≡ Some rows
itself rows = by_items row_total row_exact (λ b. sum_over (λ row. Some (one row)) b ≡ Some b)
    (sum_over-none row_total row_exact row_cmp (λ row. Some (one row)))
    (λ b x h. sum_over-add row_total row_exact row_total row_exact (λ row. Some (one row)) b x ∙ ap (plus (Some (one x))) h ∙ plus-one row_total row_exact b x)
    rows

-- a prefix of a prefix is a prefix
take-take : {A : Type 0} (m n : ℕ) (xs : List A) → (k : ℕ) × (take m (take n xs) ≡ take k xs)
take-take zero n xs = (0, refl)
take-take (suc m) zero xs = (0, refl)
take-take (suc m) (suc n) [] = (0, refl)
take-take (suc m) (suc n) (x ∷ xs) = let rest = take-take m n xs in (suc rest.0, ap (λ ys. x ∷ ys) rest.1)

-- ---- changes of a bag in which at each moment a key holds are changes of last rows by that key

apart_rows : (row other : Row) → is_row row other ≡ false → one_at row_cmp row other ≡ 0
apart_rows row other e = ap (λ b. cond {A = ℕ} b 1 0) e

-- a row by which it is told that another went weighs nothing
told_weighs : (key : List ℕ) (row other : Row) (comes : Bool) → cond {A = ℕ} comes (one_at row_cmp row (row_told (upsert key) comes other)) 0 ≡ cond comes (one_at row_cmp row other) 0
told_weighs key row other true = refl
told_weighs key row other false = refl

module _ (turn : Kind → Kind) (stays : (kind : Kind) → adds (turn kind) ≡ adds kind) (key : List ℕ) where
  -- the change as it is sent
  abbrev sent : Change → Change
  sent change = record { kind = turn change.kind; row = row_told (upsert key) (adds change.kind) change.row }

  adds_so : (row : Row) (change : Change) → addition row (sent change) ≡ cond (adds change.kind) (one_at row_cmp row change.row) 0
  adds_so row change = ap (λ b. cond b (one_at row_cmp row (row_told (upsert key) (adds change.kind) change.row)) 0) (stays change.kind) ∙ told_weighs key row change.row (adds change.kind)

  module _ (rows : Rows) (change : Change) (may : MayCome retract rows change) (before : IsUnique key (copies rows)) (after : IsUnique key (copies (apply retract rows change))) (row : Row) where
    stays_apart : is_row (project key change.row) (project key row) ≡ false → one_at row_cmp row change.row ≡ 0
    stays_apart e =
        elim (is_row row change.row) as (λ t. is_row row change.row ≡ t → cond {A = ℕ} t 1 0 ≡ 0) [
          | true ↦ λ t. absurd (
              let yes_ : is_row (project key change.row) (project key row) ≡ true = ap (λ r. is_row (project key change.row) (project key r)) (same_row-true row change.row t) ∙ same_row-itself (project key change.row) in
              cc)
          | false ↦ λ t. refl
        ] refl

    -- only the change's own row stands with its key
    only : (some : Rows) → IsUnique key (copies some) → 0 < copies some change.row → project key change.row ≡ project key row → copies some row ≡ one_at row_cmp row change.row
    only some unique stands same =
        elim (is_row row change.row) as (λ t. is_row row change.row ≡ t → copies some row ≡ cond t 1 0) [
          | true ↦ λ t.
              let is = same_row-true row change.row t in
              let at : copies some row ≡ copies some change.row = ap (copies some) is in
              omega (arith, at, (unique change.row change.row refl stands stands).1)
          | false ↦ λ t.
              elim (copies some row == 0) as (λ z. (copies some row == 0) ≡ z → copies some row ≡ 0) [
                | true ↦ λ z. eqb-true (copies some row) 0 z
                | false ↦ λ z. absurd (
                    let n = eqb-false (copies some row) 0 z in
                    let is : change.row ≡ row = (unique change.row row same stands (omega arith)).0 in
                    let yes_ : is_row row change.row ≡ true = ap (is_row row) is ∙ same_row-itself row in
                    cc)
              ] refl
        ] refl

    at_key : project key change.row ≡ project key row → copies (apply retract rows change) row ≡ cond (adds change.kind) (one_at row_cmp row change.row) 0
    at_key same =
        let e = copies-apply rows change row may in
        let own = copies-apply rows change change.row may in
        let itself_ : one_at row_cmp change.row change.row ≡ 1 = one_at_itself row_cmp row_total change.row in
        elim (adds change.kind) as (λ t. adds change.kind ≡ t → copies (apply retract rows change) row ≡ cond t (one_at row_cmp row change.row) 0) [
          | true ↦ λ t.
              let come : addition change.row change ≡ 1 = ap (λ b. cond b (one_at row_cmp change.row change.row) 0) t ∙ itself_ in
              let go : removal change.row change ≡ 0 = ap (λ b. cond b 0 (one_at row_cmp change.row change.row)) t in
              only (apply retract rows change) after (omega arith) same
          | false ↦ λ t.
              let come : addition row change ≡ 0 = ap (λ b. cond b (one_at row_cmp row change.row) 0) t in
              let go : removal row change ≡ one_at row_cmp row change.row = ap (λ b. cond b 0 (one_at row_cmp row change.row)) t in
              let had = only rows before (may t) same in
              omega arith
        ] refl

    one_more : copies (apply retract rows change) row ≡ cond (is_row (project key change.row) (project key row)) (addition row (sent change)) (copies rows row)
    one_more =
        elim (is_row (project key change.row) (project key row)) as (λ t. is_row (project key change.row) (project key row) ≡ t → copies (apply retract rows change) row ≡ cond t (addition row (sent change)) (copies rows row)) [
          | true ↦ λ s. at_key (same_row-true _ _ s) ∙ sym (adds_so row change)
          | false ↦ λ s.
              let z = stays_apart s in
              let e = copies-apply rows change row may in
              let come : addition row change ≡ 0 = zero_of (adds change.kind) z in
              let go : removal row change ≡ 0 = zero_or (adds change.kind) z in
              omega arith
        ] refl
      where
        zero_of : (t : Bool) → one_at row_cmp row change.row ≡ 0 → cond t (one_at row_cmp row change.row) 0 ≡ 0
        zero_of true z = z
        zero_of false z = refl

        zero_or : (t : Bool) → one_at row_cmp row change.row ≡ 0 → cond t 0 (one_at row_cmp row change.row) ≡ 0
        zero_or true z = refl
        zero_or false z = z

  -- the row that is told has the key of the change's row
  told_key : (row : Row) (start : ℕ) (change : Change)
      → cond (is_row (project key change.row) (project key row)) (addition row (sent change)) start ≡ cond (is_row (project key (sent change).row) (project key row)) (addition row (sent change)) start
  told_key row start change = ap (λ k. cond (is_row k (project key row)) (addition row (sent change)) start) (sym (key-told key (adds change.kind) change.row))

  shows : (rows : Rows) (changes : List Change) → IsValidFrom retract rows changes → ((n : ℕ) → IsUnique key (copies (fold_from retract rows (take n changes)))) → (row : Row)
      → copies (fold_from retract rows changes) row ≡ last_shown key row (copies rows row) (sent_of (fate (upsert key)) turn stays changes)
  shows rows [] valid unique row = refl
  shows rows (change ∷ changes) valid unique row =
      shows (apply retract rows change) changes valid.1 (λ n. unique (suc n)) row
      ∙ ap (λ k. last_shown key row k (sent_of (fate (upsert key)) turn stays changes)) (one_more rows change valid.0 (unique 0) (unique 1) row ∙ told_key row (copies rows row) change)

  -- where the key holds of each prefix of what came, what is printed stands for the same rows by last rows
  pub by_last : (took : List Change) (n : ℕ) (rows : Rows) → IsValid retract took → ((m : ℕ) → IsUnique key (copies (fold retract (take m took)))) → Means retract (take n took) rows
      → Means (upsert key) (sent_of (fate (upsert key)) turn stays (take n took)) rows
  by_last took n rows valid unique means =
      let part = IsValidFrom-take retract none n took valid in
      let is : rows ≡ fold retract (take n took) = fold_means retract (take n took) rows part means in
      λ row.
      ap (λ r. copies r row) is
      ∙ shows none (take n took) part (λ m. let k = take-take m n took in subst (λ l. IsUnique key (copies (fold retract l))) (sym k.1) (unique k.0)) row
      ∙ ap (λ z. last_shown key row z (sent_of (fate (upsert key)) turn stays (take n took))) (copies-none row_total row)

-- what lies in the key of a mode is told by each row
told_keeps : (mode : Mode) (set : List ℕ) → KeepsKeys mode set → (comes : Bool) (row : Row) → project set (row_told mode comes row) ≡ project set row
told_keeps append set lies true row = refl
told_keeps append set lies false row = refl
told_keeps retract set lies true row = refl
told_keeps retract set lies false row = refl
told_keeps (upsert key) set lies true row = refl
told_keeps (upsert key) set lies false row = lies (key_row key row) row (key_stays key row)

-- the change as a writer of this mode tells it
abbrev told_change : (Kind → Kind) → Mode → Change → Answer
told_change turn mode change = Ok (record { kind = turn change.kind; row = row_told mode (adds change.kind) change.row } ∷ [])

module _ (sink : Sink) where
  abbrev turn : Kind → Kind
  turn kind = kind_printed (splits sink.declared sink.after) kind

  stays : (kind : Kind) → adds (turn kind) ≡ adds kind
  stays kind = printed_adds (splits sink.declared sink.after) kind

  abbrev whole_of : Rows → Option Rows
  whole_of rows = Some rows

  batch_is : (mode : Mode) (rows : Rows) → whole_of rows ≡ image (fate mode) turn stays rows
  batch_is mode rows = sym (itself rows)

  -- sets that lie in a set are kept in it: as rows stand, and as they come or go where it lies in the key
  keeps_rows : (mode : Mode) (set own : List ℕ) → LiesIn own set → CarriesRows (fate mode) turn stays set own
  keeps_rows mode set own lies a b fa fb is_a is_b same = lies a b (ap (project set) (is_told mode true a fa is_a) ∙ same ∙ sym (ap (project set) (is_told mode true b fb is_b)))

  keeps : (mode : Mode) (set own : List ℕ) → LiesIn own set → KeepsKeys mode set → Carries (fate mode) turn stays set own
  keeps mode set own lies kept x y a b fa fb is_a is_b same =
      lies a b
      (sym (told_keeps mode set kept x a)
      ∙ ap (project set) (is_told mode x a fa is_a)
      ∙ same
      ∙ sym (ap (project set) (is_told mode y b fb is_b))
      ∙ told_keeps mode set kept y b)

  key_keeps : (own key : List ℕ) → LiesIn own key → Carries (fate (upsert key)) turn stays key own
  key_keeps own key lies = keeps (upsert key) key own lies (λ a b same. same)

  forth : (own key : List ℕ) → LiesIn key own → (x y : Bool) (a b : Row) (fa fb : Row) → fate (upsert key) x a ≡ Some (Some fa) → fate (upsert key) y b ≡ Some (Some fb) → project own a ≡ project own b → project key fa ≡ project key fb
  forth own key lies x y a b fa fb is_a is_b same =
      sym (ap (project key) (is_told (upsert key) x a fa is_a))
      ∙ key-told key x a
      ∙ lies a b same
      ∙ sym (key-told key y b)
      ∙ ap (project key) (is_told (upsert key) y b fb is_b)

  module _ (many : ℕ) (from : ℕ → Edge) (to : Edge) (fits : SinkFits sink (from 0) to) where
    is : (mode : Mode) (change : Change) → told_change turn mode change ≡ moved (turn change.kind) change.row (fate mode (adds change.kind) change.row)
    is mode change = refl

    abbrev task : Mode → Task
    task mode = node (fate mode) turn stays (told_change turn mode) (is mode) whole_of (batch_is mode) (mode_after sink.after) many from to

    abbrev Leaves : Mode → Meaning → Type 0
    Leaves mode m = LeavesOne (fate mode) turn stays (told_change turn mode) (is mode) whole_of (batch_is mode) (mode_after sink.after) many from to m

    abbrev Front : Mode → List Change → ℕ → Type 0
    Front mode took n = ReadsFront (fate mode) turn stays whole_of (batch_is mode) (from 0) to took n

    seen : (exchange : Exchange) → exchange ≡ forward → (key : List ℕ) → Contains (from 0).local key → IsSeenBy exchange (from 0) key
    seen forward e key has = has
    seen (hash columns) e key has = absurd (cc)

    -- a key that holds of all that comes, at every moment
    by_key : (key : List ℕ) → (from 0).meaning ≡ bag → to.meaning ≡ last_rows key → HoldsOver (from 0) key → (j : ℕ) (history : List Arrival) → IsReady (task (upsert key)) j history → (n : ℕ) → Front (upsert key) (at_port 0 history) n
    by_key key is_bag is_last over j history ready n rows reads =
        let took = at_port 0 history in
        let means : (m : ℕ) → (some : Rows) × Means retract (take m (at_port 0 history)) some =
        λ m. let f = prefix_at 0 m history in let s = ready.valid 0 (omega arith) f.0 in (s.0, subst (λ l. Means retract l s.0) f.1 (subst (λ x. ReadsAs x (at_port 0 (take f.0 history)) s.0) is_bag s.1)) in
        let valid : IsValid retract (at_port 0 history) = valid_where_prefixes_mean (at_port 0 history) means in
        let unique : (m : ℕ) → IsUnique key (copies (fold retract (take m (at_port 0 history)))) =
        λ m.
        let f = prefix_at 0 m history in
        let folded : Means retract (take m (at_port 0 history)) (fold retract (take m (at_port 0 history))) = means_fold retract (take m (at_port 0 history)) (IsValidFrom-take retract none m (at_port 0 history) valid) in
        let one_row = ready.keys 0 (omega arith) over.local (seen (from 0).exchange fits.forwards over.local over.is_local) f.0 (fold retract (take m (at_port 0 history)))
        (subst (λ x. ReadsAs x (at_port 0 (take f.0 history)) (fold retract (take m (at_port 0 history)))) (sym is_bag) (subst (λ l. Means retract l (fold retract (take m (at_port 0 history)))) (sym f.1) folded)) in
        λ a b same x y. one_row a b (over.has_local a b same) x y in (
          rows,
          refl,
          subst (λ x. ReadsAs x (sent_of (fate (upsert key)) turn stays (take n (at_port 0 history))) rows) (sym is_last)
              (by_last turn stays key (at_port 0 history) n rows valid unique (subst (λ x. ReadsAs x (take n (at_port 0 history)) rows) is_bag reads)),
        )

    reads : (mode : Mode) (m : Meaning) → (from 0).meaning ≡ m → to.meaning ≡ meaning_of mode → m ≡ meaning_of (mode_after sink.after) → MayBeRead (from 0) m (meaning_of mode)
        → (j : ℕ) (history : List Arrival) → IsReady (task mode) j history → AreInRange (fate mode) turn stays (at_port 0 history) → (n : ℕ) → Front mode (at_port 0 history) n
    reads append bag e f own may j history ready known n = reads_bag (fate append) turn stays whole_of (batch_is append) (from 0) to (λ row. refl) e f (at_port 0 history) known n
    reads append (last_rows own) e f is_own may j history ready known n = absurd may
    reads append (partials p) e f own may j history ready known n = absurd may
    reads retract bag e f own may j history ready known n = reads_bag (fate retract) turn stays whole_of (batch_is retract) (from 0) to (λ row. refl) e f (at_port 0 history) known n
    reads retract (last_rows own) e f is_own may j history ready known n = absurd may
    reads retract (partials p) e f own may j history ready known n = absurd may
    reads (upsert key) bag e f own may j history ready known n = by_key key e f may j history ready n
    reads (upsert key) (last_rows own) e f is_own may j history ready known n =
        reads_last (fate (upsert key)) turn stays whole_of (batch_is (upsert key)) (from 0) to own key e f (λ comes row g. let h : Some (Some (row_told (upsert key) comes row)) ≡ Some None = g in cc) (key_keeps own key may.0) (forth own key may.1)
        (admitted sink.after is_own fits.admitted) (at_port 0 history) (ready.kinds 0 (omega arith)) known n
      where
        admitted : (after : Option (List ℕ)) → last_rows own ≡ meaning_of (mode_after after) → ((kind : Kind) → has (from 0).kinds kind ≡ true → admits (mode_after after) kind ≡ true) → (kind : Kind) → has (from 0).kinds kind ≡ true → admits (upsert own) kind ≡ true
        admitted None is_own all kind h = absurd (let g : last_rows own ≡ bag = is_own in cc)
        admitted (Some key) is_own all kind h = let g : last_rows own ≡ last_rows key = is_own in let i : own ≡ key = cc in subst (λ k. admits (upsert k) kind ≡ true) (sym i) (all kind h)
    reads (upsert key) (partials p) e f own may j history ready known n = absurd may

    whole : (mode : Mode) (m : Meaning) → m ≡ meaning_of mode → IsPartial m → ⊥
    whole append m writes = bag_whole m writes
    whole retract m writes = bag_whole m writes
    whole (upsert key) m writes = last_whole m key writes

    leaves : (mode : Mode) (m : Meaning) → (from 0).meaning ≡ m → MayBeRead (from 0) m (meaning_of mode) → Leaves mode (meaning_of mode)
    leaves append m e may = tt
    leaves retract m e may = tt
    leaves (upsert key) bag e may = (may.fixing, key_keeps may.fixing key may.has_fixing, inl may.is_fixing)
    leaves (upsert key) (last_rows own) e may = (own, key_keeps own key may.0, inr e)
    leaves (upsert key) (partials p) e may = absurd may

    abbrev written : Mode
    written = print_mode sink

    may_be : MayBeRead (from 0) (from 0).meaning (meaning_of written)
    may_be = subst (λ m. MayBeRead (from 0) (from 0).meaning m) fits.writes fits.may

    itself_lies : (set : List ℕ) → LiesIn set set
    itself_lies set a b same = same

    moves : Moves (fate written) turn stays (sink_change sink) (is written) whole_of (batch_is written) (mode_after sink.after) many from to
    moves = record {
      forwards = fits.forwards;
      reads = λ j history ready known n. reads written (from 0).meaning refl fits.writes fits.reads may_be j history ready known n;
      whole = whole written to.meaning fits.writes;
      leaves = subst (Leaves written) (sym fits.writes) (leaves written (from 0).meaning refl may_be);
      kinds = fits.kinds;
      fits = λ change row h is_row. subst (λ r. to.fits (record { kind = turn change.kind; row = r }) ≡ true) (is_told written (adds change.kind) change.row row is_row) (fits.fits change h);
      holds = λ row made h is_row. subst (λ r. to.holds r ≡ true) (is_told written true row made is_row) (fits.holds row h);
      unique = λ key has. (key, fits.unique key has, keeps_rows written key key (itself_lies key));
      local = λ key has. (key, fits.local key has, keeps_rows written key key (itself_lies key));
      fixing = λ set has. let from_set = fits.fixing set has in (set, from_set.0, keeps written set set (itself_lies set) from_set.1);
    }

pub sinks_stand : SinksStand
sinks_stand sink many from to fits =
    row_facts (fate (print_mode sink)) (turn sink) (stays sink) (sink_change sink) (is sink many from to fits (print_mode sink)) (whole_of sink) (batch_is sink (print_mode sink)) (mode_after sink.after) many from to (moves sink many from to fits)

pub sinks_take : SinksTake
sinks_take sink many from to fits = (
  refl,
  from_first (λ p. Takes (sink_rule sink) p (from p)) (record {
    reads = reads_after sink.after (from 0).meaning fits.reads;
    kinds = fits.admitted;
    fits = λ change h. refl;
    keyed = fits.keyed;
  }),
)
