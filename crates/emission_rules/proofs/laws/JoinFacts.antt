-- A join meets the facts of nodes.
use Rattle.std.proofs.Common.{◌≡◌, ℕ, zero, suc, ◌+◌, ◌<◌, ◌==◌, true, false, cond, List, [], ◌∷◌, ◌++◌, length, map, take, Some, Ok, refl, sym, ap, subst, ◌∙◌, arith, inl, inr, ◌⊎◌}
use Rattle.std.specs.List.{AllByRecursion}
use Rattle.ct_value.specs.Bag.{copies, one_at}
use Rattle.ct_value.proofs.laws.Bags.{copies-occurs}
use Rattle.ct_value.specs.Order.{row_cmp, row_total, row_exact}
use Rattle.ct_value.specs.Rows.{project}
use Rattle.ct_value.specs.declared.row.Row.{Row}
use Rattle.ct_value.specs.declared.ty.ColTy.{ColTy}
use Rattle.ct_value.specs.declared.value.Value.TheVariants.{Null}
use Rattle.ct_change.specs.declared.change.Change.{Change}
use Rattle.ct_change.specs.Changelog.{Mode, append, retract, upsert, Rows, has, admits, AreOf, fold, IsValid, Means}
use Rattle.ct_change.proofs.laws.Meanings.{valid_where_means, fold_means}
use Rattle.ct_field.specs.Typed.{cell}
use Rattle.rel_algebra.specs.declared.join.JoinKind.{JoinKind}
use Rattle.rel_algebra.specs.declared.join.JoinKind.TheVariants.{Inner, Left as Lefts, Right as Rights, Full}
use Rattle.rel_algebra.specs.declared.join.Pair.{Pair}
use Rattle.rel_algebra.specs.Clauses.{Fits}
use Rattle.rel_algebra.specs.Joins.{nulls, nullable_if, join_columns, keeps_left, keeps_right, left_columns, right_columns}
use Rattle.rel_algebra.specs.Sums.{Each}
use Rattle.rel_algebra.proofs.laws.Bags.{each-copies, copies-each}
use Rattle.rel_algebra.proofs.laws.ClauseTypes.{join_fits, semi_fits}
use Rattle.rel_algebra.proofs.laws.Fits.{fits-append, fits-map-nullable_if, fits-nulls, fits-length}
use Rattle.op_rules.specs.History.{Arrival, at_port, joined}
use Rattle.op_rules.specs.Rules.{appended}
use Rattle.op_rules.specs.Edges.{meaning_of, ReadsAs, hash, Edge, IsRoutedBy, AreApartBy, LiesIn}
use Rattle.op_rules.specs.Tasks.{Task, IsSplitBy, Emitted, FoldsToAnswer, PrefixesStand, KindsStay, TypesStay, PartsAddUp, FixingSetsHold, LastRowsLeaveApart, AnswersFit}
use Rattle.op_rules.proofs.laws.Histories.{prefix_at, all-each, appended-nothing}
use Rattle.emission_rules.specs.Arriving.{is_whole}
use Rattle.emission_rules.specs.Joins.{turned}
use Rattle.emission_rules.specs.Joining.{Shape, joins, matched, Joining, match_of, join_of, answer_by, joined_answer, left_rows, right_rows, emits}
use Rattle.emission_rules.specs.JoinFits.{join_task, columns_by, behind, FixesBy, SideFits, JoinFits}
use Rattle.emission_rules.proofs.laws.JoinAnswers.{answer_weighs, none_out}
use Rattle.emission_rules.proofs.laws.JoinHistories.{Run, all_in, stands_for, prefixes, all_said}
use Rattle.emission_rules.proofs.laws.Made.{IsOwn, PairOf, MadeBy, Sent, gives_left, gives_right, gives_in}
use Rattle.emission_rules.proofs.laws.Parts.{adds_up}
use Rattle.emission_rules.proofs.laws.Walks.{along-emits}

means_in : (mode : Mode) (changes : List Change) (rows : Rows) → ReadsAs (meaning_of mode) changes rows → Means mode changes rows
means_in append changes rows m = m
means_in retract changes rows m = m
means_in (upsert key) changes rows m = m

split_in : (mode : Mode) (columns : List ℕ) (route : Row → ℕ) (many : ℕ) (parts : ℕ → Rows) (whole : Rows) → IsSplitBy (meaning_of mode) (hash columns) route many parts whole
    → (i : ℕ) → i < many → (row : Row) → copies (parts i) row ≡ cond (route (project columns row) == i) (copies whole row) 0
split_in append columns route many parts whole split = split
split_in retract columns route many parts whole split = split
split_in (upsert key) columns route many parts whole split = split

-- ---- columns of rows side by side

pub project-within : (columns : List ℕ) (l r : Row) → AllByRecursion (λ column. column < length l) columns → project columns (l ++ r) ≡ project columns l
project-within [] l r h = refl
project-within (c ∷ columns) l r h = (λ i. at c l h.0 i ∷ project-within columns l r h.1 i)
  where
    at : (n : ℕ) (l : Row) → n < length l → cell n (l ++ r) ≡ cell n l
    at n [] h = absurd (omega arith)
    at zero (x ∷ l) h = refl
    at (suc n) (x ∷ l) h = at n l (omega arith)

pub project-behind : (columns : List ℕ) (width : ℕ) (l r : Row) → length l ≡ width → project (behind width columns) (l ++ r) ≡ project columns r
project-behind [] width l r e = refl
project-behind (c ∷ columns) width l r e = (λ i. (ap (λ n. cell (n + c) (l ++ r)) (sym e) ∙ past c l) i ∷ project-behind columns width l r e i)
  where
    past : (n : ℕ) (l : Row) → cell (length l + n) (l ++ r) ≡ cell n r
    past n [] = let e : 0 + n ≡ n = omega arith in ap (λ m. cell m r) e
    past n (x ∷ l) = (let e : length (x ∷ l) + n ≡ suc (length l + n) = omega arith in ap (λ m. cell m (x ∷ (l ++ r))) e) ∙ past n l

pub nulls-length : (n : ℕ) → length (nulls n) ≡ n
nulls-length zero = refl
nulls-length (suc n) = ap suc (nulls-length n)

pub cell-nulls : (n m : ℕ) → cell m (nulls n) ≡ Null
cell-nulls zero m = refl
cell-nulls (suc n) zero = refl
cell-nulls (suc n) (suc m) = cell-nulls n m

-- the columns of the pairs in rows of NULLs
nulls-agree : (on : List Pair) (n m : ℕ) → project (left_columns on) (nulls n) ≡ project (right_columns on) (nulls m)
nulls-agree [] n m = refl
nulls-agree (pair ∷ on) n m = (λ i. (cell-nulls n pair.left ∙ sym (cell-nulls m pair.right)) i ∷ nulls-agree on n m i)

module _ (many : ℕ) (j : Joining) (from : ℕ → Edge) (to : Edge) (fits : JoinFits many j from to) where
  abbrev pub task : Task
  task = join_task many j from to

  abbrev lw : ℕ
  lw = length j.left_columns

  abbrev rw : ℕ
  rw = length j.right_columns

  abbrev pub Left : ℕ → Row → Type 0
  Left s = IsOwn (from 0) j.left_columns (left_columns j.on) s

  abbrev pub Right : ℕ → Row → Type 0
  Right s = IsOwn (from 1) j.right_columns (right_columns j.on) s

  abbrev SentFrom : ℕ → Change → Type 0
  SentFrom s = Sent (Left s) (Right s) lw rw (from 0).kinds (from 1).kinds (match_of j) j.shape

  -- ---- what a subtask took and sent

  module _ (s : ℕ) (pieces : List (List Arrival)) (sent : List Change) (e : Emitted task s pieces sent) where
    abbrev pub took : List Arrival
    took = joined pieces

    pub side_valid : (p : ℕ) → p < 2 → (mode : Mode) (columns : List ColTy) (pairs : List ℕ) → SideFits many mode columns pairs (from p) → IsValid mode (at_port p took)
    side_valid p l mode columns pairs side =
        valid_where_means mode (at_port p took) (all-each (λ change. has (from p).kinds change.kind ≡ true) (λ change. admits mode change.kind ≡ true) (λ change k. side.kinds change.kind k) (at_port p took) (e.ready.kinds p l))
        (λ n.
        let m = prefix_at p n took in
        let stands = e.ready.valid p l m.0 in
        (stands.0, means_in mode (take n (at_port p took)) stands.0 (subst (λ meaning. ReadsAs meaning (take n (at_port p took)) stands.0) side.reads (subst (λ xs. ReadsAs (from p).meaning xs stands.0) m.1 stands.1))))

    -- each change of a side has its columns, routes here, and is of its kinds
    record Came (p : ℕ) (mode : Mode) (columns : List ColTy) (pairs : List ℕ) (change : Change) : Type 0 where
      pub own : is_whole mode change.kind ≡ true → IsOwn (from p) columns pairs s change.row
      pub kind : has (from p).kinds change.kind ≡ true

    side_came : (p : ℕ) → p < 2 → (mode : Mode) (columns : List ColTy) (pairs : List ℕ) → SideFits many mode columns pairs (from p) → AllByRecursion (Came p mode columns pairs) (at_port p took)
    side_came p l mode columns pairs side = go (at_port p took) (e.ready.types p l) (subst (λ x. IsRoutedBy x (from p).route s (at_port p took)) side.hashed (e.ready.placed p l)) (e.ready.kinds p l)
      where
        go : (xs : List Change) → AllByRecursion (λ change. (from p).fits change ≡ true) xs → AllByRecursion (λ change. (from p).route (project pairs change.row) ≡ s) xs → AreOf (from p).kinds xs → AllByRecursion (Came p mode columns pairs) xs
        go [] f r k = tt
        go (change ∷ xs) f r k = (record { own = λ w. record { fits = (side.fits change f.0).whole w; here = r.0 }; kind = k.0 }, go xs f.1 r.1 k.1)

    pub run : Run j took sent
    run = record {
      known = e.ready.ports;
      left_valid = side_valid 0 (omega arith) j.left j.left_columns (left_columns j.on) fits.left;
      right_valid = side_valid 1 (omega arith) j.right j.right_columns (right_columns j.on) fits.right;
      emitted = sym (appended-nothing (emits j [] took)) ∙ ap (appended (Ok [])) (sym (along-emits j [] pieces)) ∙ e.emitted;
    }

    -- each change that was sent
    pub all_sent : AllByRecursion (SentFrom s) sent
    all_sent =
        all_said j took sent run (SentFrom s) (Left s) (Right s)
        (all-each (Came 0 j.left j.left_columns (left_columns j.on)) _ (λ change c. record {
          own = c.own;
          gives = gives_in (SentFrom s) (join_of j) (Left s) (Right s) j.left (from 0).kinds (gives_left (Left s) (Right s) lw rw (from 0).kinds (from 1).kinds (match_of j) j.shape) fits.left.updates change.kind c.kind (fits.left.kinds change.kind c.kind);
        }) (at_port 0 took) (side_came 0 (omega arith) j.left j.left_columns (left_columns j.on) fits.left))
        (all-each (Came 1 j.right j.right_columns (right_columns j.on)) _ (λ change c. record {
          own = c.own;
          gives = gives_in (SentFrom s) (turned (join_of j)) (Right s) (Left s) j.right (from 1).kinds (gives_right (Left s) (Right s) lw rw (from 0).kinds (from 1).kinds (match_of j) j.shape) fits.right.updates change.kind c.kind (fits.right.kinds change.kind c.kind);
        }) (at_port 1 took) (side_came 1 (omega arith) j.right j.right_columns (right_columns j.on) fits.right))

    -- what the sides' changes stand for
    pub rows_are : (p : ℕ) (l : p < 2) (mode : Mode) (columns : List ColTy) (pairs : List ℕ) → SideFits many mode columns pairs (from p) → (rows : Rows) → ReadsAs (from p).meaning (at_port p took) rows → rows ≡ fold mode (at_port p took)
    rows_are p l mode columns pairs side rows reads =
        fold_means mode (at_port p took) rows (side_valid p l mode columns pairs side) (means_in mode (at_port p took) rows (subst (λ m. ReadsAs m (at_port p took) rows) side.reads reads))

  -- ---- folds, prefixes, kinds

  bag_leaves : (changes : List Change) (rows : Rows) → Means retract changes rows → ReadsAs to.meaning changes rows
  bag_leaves changes rows means = subst (λ m. ReadsAs m changes rows) (sym fits.writes) means

  pub folds : FoldsToAnswer task
  folds s pieces sent e rows known =
      let r = run s pieces sent e in
      let h = took s pieces sent e in
      let left = rows_are s pieces sent e 0 (omega arith) j.left j.left_columns (left_columns j.on) fits.left (rows 0) (known 0 (omega arith)).0 in
      let right = rows_are s pieces sent e 1 (omega arith) j.right j.right_columns (right_columns j.on) fits.right (rows 1) (known 1 (omega arith)).0 in
      let answer = answer_weighs j (left_rows j h) (right_rows j h) (none_out j (left_rows j h) (right_rows j h) (all_in j h sent r)) in (
        answer.0,
        (λ i. joined_answer j (left i) (right i)) ∙ answer.1,
        bag_leaves sent answer.0 (stands_for j h sent r answer.0 (λ row. copies-occurs answer.0 row ∙ answer.2 (one_at row_cmp row))),
      )

  pub prefix : PrefixesStand task
  prefix s pieces sent e n = let rows = prefixes j (took s pieces sent e) sent (run s pieces sent e) n in (rows.0, bag_leaves (take n sent) rows.0 rows.1)

  pub kinds_stay : KindsStay task
  kinds_stay s pieces sent e = all-each (SentFrom s) (λ change. has to.kinds change.kind ≡ true) (λ change c. fits.out_kinds change.kind c.0) sent (all_sent s pieces sent e)

  -- ---- types

  abbrev Wide : JoinKind → Row → Type 0
  Wide kind = Fits (join_columns kind j.left_columns j.right_columns)

  pair_fits : (s : ℕ) (kind : JoinKind) (row : Row) → PairOf (Left s) (Right s) lw rw kind row → Wide kind row
  pair_fits s kind row p = subst (Wide kind) (sym p.is) (go p.left p.right p.which)
    where
      side_by_side : (l r : Row) → Fits (map (nullable_if (keeps_right kind)) j.left_columns) l → Fits (map (nullable_if (keeps_left kind)) j.right_columns) r → Wide kind (l ++ r)
      side_by_side l r h k = fits-append (map (nullable_if (keeps_right kind)) j.left_columns) (map (nullable_if (keeps_left kind)) j.right_columns) l r h k

      go : (l r : Row) → (Left s l × Right s r) ⊎ ((Left s l × (r ≡ nulls rw) × (keeps_left kind ≡ true)) ⊎ ((l ≡ nulls lw) × Right s r × (keeps_right kind ≡ true))) → Wide kind (l ++ r)
      go l r (inl h) = side_by_side l r (fits-map-nullable_if (keeps_right kind) j.left_columns l h.0.fits) (fits-map-nullable_if (keeps_left kind) j.right_columns r h.1.fits)
      go l r (inr (inl h)) =
          side_by_side l r (fits-map-nullable_if (keeps_right kind) j.left_columns l h.0.fits)
          (subst (λ (x : Row). Fits (map (nullable_if (keeps_left kind)) j.right_columns) x) (sym h.1) (subst (λ b. Fits (map (nullable_if b) j.right_columns) (nulls rw)) (sym h.2) (fits-nulls j.right_columns)))
      go l r (inr (inr h)) =
          side_by_side l r
          (subst (λ (x : Row). Fits (map (nullable_if (keeps_right kind)) j.left_columns) x) (sym h.0) (subst (λ b. Fits (map (nullable_if b) j.left_columns) (nulls lw)) (sym h.2) (fits-nulls j.left_columns)))
          (fits-map-nullable_if (keeps_left kind) j.right_columns r h.1.fits)

  made_fits : (s : ℕ) (shape : Shape) (row : Row) → MadeBy (Left s) (Right s) lw rw shape row → Fits (columns_by shape j.left_columns j.right_columns) row
  made_fits s (joins kind) row p = pair_fits s kind row p
  made_fits s (matched anti) row p = p.fits

  pub types_stay : TypesStay task
  types_stay s pieces sent e = all-each (SentFrom s) (λ change. to.fits change ≡ true) (λ change c. fits.out_fits change (made_fits s j.shape change.row c.1)) sent (all_sent s pieces sent e)

  pub answers_fit : AnswersFit task
  answers_fit whole answer e settled row there = fits.out_holds row (each-copies row_total row_exact (Fits (columns_by j.shape j.left_columns j.right_columns)) answer (go j.shape e) row there)
    where
      left : Each (Fits j.left_columns) (whole 0)
      left = copies-each row_total row_exact (Fits j.left_columns) (whole 0) (λ row some. fits.left.holds row ((settled 0 (omega arith)).types row some))

      right : Each (Fits j.right_columns) (whole 1)
      right = copies-each row_total row_exact (Fits j.right_columns) (whole 1) (λ row some. fits.right.holds row ((settled 1 (omega arith)).types row some))

      go : (shape : Shape) → answer_by shape j (whole 0) (whole 1) ≡ Some answer → Each (Fits (columns_by shape j.left_columns j.right_columns)) answer
      go (joins kind) h = join_fits kind j.left_columns j.right_columns (match_of j) (whole 0) (whole 1) answer left right h
      go (matched anti) h = semi_fits anti j.left_columns (match_of j) (whole 0) (whole 1) answer left h

  -- ---- parts

  pub parts_add_up : PartsAddUp task
  parts_add_up parts whole answers split made =
      adds_up j many (from 0).route fits.left.routed (λ i. parts i 0) (λ i. parts i 1) (whole 0) (whole 1) answers
      (split_in j.left (left_columns j.on) (from 0).route many (λ i. parts i 0) (whole 0) (of_side 0 (omega arith) j.left j.left_columns (left_columns j.on) fits.left))
      (λ i l row.
      split_in j.right (right_columns j.on) (from 1).route many (λ i. parts i 1) (whole 1) (of_side 1 (omega arith) j.right j.right_columns (right_columns j.on) fits.right) i l row
      ∙ ap (λ n. cond (n == i) (copies (whole 1) row) 0) (sym (fits.together (project (right_columns j.on) row))))
      made
    where
      of_side : (p : ℕ) → p < 2 → (mode : Mode) (columns : List ColTy) (pairs : List ℕ) → SideFits many mode columns pairs (from p) → IsSplitBy (meaning_of mode) (hash pairs) (from p).route many (λ i. parts i p) (whole p)
      of_side p l mode columns pairs side = subst (λ x. IsSplitBy (meaning_of mode) x (from p).route many (λ i. parts i p) (whole p)) side.hashed (subst (λ m. IsSplitBy m (from p).exchange (from p).route many (λ i. parts i p) (whole p)) side.reads (split p l))

  -- ---- fixing sets

  pub left_length : (l : Row) → Fits j.left_columns l → length l ≡ lw
  left_length l h = fits-length j.left_columns l h

  pub left_within : (l : Row) → length l ≡ lw → AllByRecursion (λ column. column < length l) (left_columns j.on)
  left_within l e = subst (λ n. AllByRecursion (λ column. column < n) (left_columns j.on)) (sym e) fits.within

  -- rows that agree on a set that fixes the subtask were sent by one
  module _ (set : List ℕ) (s t : ℕ) (a b : Row) (same : project set a ≡ project set b) where
    abbrev behind_pairs : List ℕ
    behind_pairs = behind lw (right_columns j.on)

    left_value : (l r : Row) → length l ≡ lw → project (left_columns j.on) (l ++ r) ≡ project (left_columns j.on) l
    left_value l r e = project-within (left_columns j.on) l r (left_within l e)

    right_value : (l r : Row) → length l ≡ lw → project behind_pairs (l ++ r) ≡ project (right_columns j.on) r
    right_value l r e = project-behind (right_columns j.on) lw l r e

    module _ (l r m q : Row) (is_a : a ≡ l ++ r) (is_b : b ≡ m ++ q) (wide_l : length l ≡ lw) (wide_m : length m ≡ lw) where
      lefts_agree : LiesIn (left_columns j.on) set → project (left_columns j.on) l ≡ project (left_columns j.on) m
      lefts_agree lies =
          sym (left_value l r wide_l) ∙ ap (project (left_columns j.on)) (sym is_a) ∙ lies a b same ∙ ap (project (left_columns j.on)) is_b ∙ left_value m q wide_m

      rights_agree : LiesIn behind_pairs set → project (right_columns j.on) r ≡ project (right_columns j.on) q
      rights_agree lies =
          sym (right_value l r wide_l) ∙ ap (project behind_pairs) (sym is_a) ∙ lies a b same ∙ ap (project behind_pairs) is_b ∙ right_value m q wide_m

      by_left : LiesIn (left_columns j.on) set → Left s l → Left t m → s ≡ t
      by_left lies x y = sym x.here ∙ ap (from 0).route (lefts_agree lies) ∙ y.here

      by_right : LiesIn behind_pairs set → Right s r → Right t q → s ≡ t
      by_right lies x y = sym x.here ∙ ap (from 1).route (rights_agree lies) ∙ y.here

      -- of rows of which one has no right side and the other no left one, all these columns are NULL
      left_only : LiesIn (left_columns j.on) set → LiesIn behind_pairs set → Left s l → r ≡ nulls rw → m ≡ nulls lw → Right t q → s ≡ t
      left_only lies other x none_right none_left y =
          sym x.here
          ∙ ap (from 0).route (lefts_agree lies ∙ ap (project (left_columns j.on)) none_left ∙ nulls-agree j.on lw rw ∙ ap (project (right_columns j.on)) (sym none_right) ∙ rights_agree other)
          ∙ fits.together (project (right_columns j.on) q) ∙ y.here

      right_only : LiesIn (left_columns j.on) set → LiesIn behind_pairs set → l ≡ nulls lw → Right s r → Left t m → q ≡ nulls rw → s ≡ t
      right_only lies other none_left x y none_right =
          sym x.here
          ∙ ap (from 1).route (rights_agree other ∙ ap (project (right_columns j.on)) none_right ∙ sym (nulls-agree j.on lw rw) ∙ ap (project (left_columns j.on)) (sym none_left) ∙ lefts_agree lies)
          ∙ sym (fits.together (project (left_columns j.on) m)) ∙ y.here

    abbrev Which : JoinKind → ℕ → Row → Row → Type 0
    Which kind n l r = (Left n l × Right n r) ⊎ ((Left n l × (r ≡ nulls rw) × (keeps_left kind ≡ true)) ⊎ ((l ≡ nulls lw) × Right n r × (keeps_right kind ≡ true)))

    wide : (kind : JoinKind) (n : ℕ) (l r : Row) → Which kind n l r → length l ≡ lw
    wide kind n l r (inl h) = left_length l h.0.fits
    wide kind n l r (inr (inl h)) = left_length l h.0.fits
    wide kind n l r (inr (inr h)) = ap length h.0 ∙ nulls-length lw

    has_left : (kind : JoinKind) (n : ℕ) (l r : Row) → keeps_right kind ≡ false → Which kind n l r → Left n l
    has_left kind n l r e (inl h) = h.0
    has_left kind n l r e (inr (inl h)) = h.0
    has_left kind n l r e (inr (inr h)) = absurd (let wrong : true ≡ false = sym h.2 ∙ e in cc)

    has_right : (kind : JoinKind) (n : ℕ) (l r : Row) → keeps_left kind ≡ false → Which kind n l r → Right n r
    has_right kind n l r e (inl h) = h.1
    has_right kind n l r e (inr (inl h)) = absurd (let wrong : true ≡ false = sym h.2 ∙ e in cc)
    has_right kind n l r e (inr (inr h)) = h.1

    of_lefts : (kind : JoinKind) → keeps_right kind ≡ false → LiesIn (left_columns j.on) set → PairOf (Left s) (Right s) lw rw kind a → PairOf (Left t) (Right t) lw rw kind b → s ≡ t
    of_lefts kind e lies x y = by_left x.left x.right y.left y.right x.is y.is (wide kind s x.left x.right x.which) (wide kind t y.left y.right y.which) lies (has_left kind s x.left x.right e x.which) (has_left kind t y.left y.right e y.which)

    of_rights : (kind : JoinKind) → keeps_left kind ≡ false → LiesIn behind_pairs set → PairOf (Left s) (Right s) lw rw kind a → PairOf (Left t) (Right t) lw rw kind b → s ≡ t
    of_rights kind e lies x y = by_right x.left x.right y.left y.right x.is y.is (wide kind s x.left x.right x.which) (wide kind t y.left y.right y.which) lies (has_right kind s x.left x.right e x.which) (has_right kind t y.left y.right e y.which)

    of_either : LiesIn (left_columns j.on) set → LiesIn behind_pairs set → (l r m q : Row) → a ≡ l ++ r → b ≡ m ++ q → length l ≡ lw → length m ≡ lw → Which Full s l r → Which Full t m q → s ≡ t
    of_either lies other l r m q x y u v (inl h) (inl k) = by_left l r m q x y u v lies h.0 k.0
    of_either lies other l r m q x y u v (inl h) (inr (inl k)) = by_left l r m q x y u v lies h.0 k.0
    of_either lies other l r m q x y u v (inl h) (inr (inr k)) = by_right l r m q x y u v other h.1 k.1
    of_either lies other l r m q x y u v (inr (inl h)) (inl k) = by_left l r m q x y u v lies h.0 k.0
    of_either lies other l r m q x y u v (inr (inl h)) (inr (inl k)) = by_left l r m q x y u v lies h.0 k.0
    of_either lies other l r m q x y u v (inr (inl h)) (inr (inr k)) = left_only l r m q x y u v lies other h.0 h.1 k.0 k.1
    of_either lies other l r m q x y u v (inr (inr h)) (inl k) = by_right l r m q x y u v other h.1 k.1
    of_either lies other l r m q x y u v (inr (inr h)) (inr (inl k)) = right_only l r m q x y u v lies other h.0 h.1 k.0 k.1
    of_either lies other l r m q x y u v (inr (inr h)) (inr (inr k)) = by_right l r m q x y u v other h.1 k.1

    one_subtask : (shape : Shape) → FixesBy shape j set → MadeBy (Left s) (Right s) lw rw shape a → MadeBy (Left t) (Right t) lw rw shape b → s ≡ t
    one_subtask (joins Inner) (inl lies) x y = of_lefts Inner refl lies x y
    one_subtask (joins Inner) (inr lies) x y = of_rights Inner refl lies x y
    one_subtask (joins Lefts) lies x y = of_lefts Lefts refl lies x y
    one_subtask (joins Rights) lies x y = of_rights Rights refl lies x y
    one_subtask (joins Full) lies x y = of_either lies.0 lies.1 x.left x.right y.left y.right x.is y.is (wide Full s x.left x.right x.which) (wide Full t y.left y.right y.which) x.which y.which
    one_subtask (matched anti) lies x y = sym x.here ∙ ap (from 0).route (lies a b same) ∙ y.here

  pub fixing_sets : FixingSetsHold task
  fixing_sets pieces sent all come set has_set i k il kl =
      all-each (SentFrom i) _ (λ a x. all-each (SentFrom k) _ (λ b y same. one_subtask set i k a.row b.row same j.shape (fits.fixing set has_set) x.1 y.1) (sent k) (all_sent k (pieces k) (sent k) (all k kl))) (sent i) (all_sent i (pieces i) (sent i) (all i il))

  pub after_only : LastRowsLeaveApart task
  after_only pieces sent all come fixed = subst (λ m. AreApartBy m many sent) (sym fits.writes) tt
