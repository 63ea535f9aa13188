-- The cases of keys, kind by kind: what stands with one value of a key is one row at most, and messages remove first.
use Rattle.std.proofs.Common.{◌≡◌, ℕ, zero, suc, ◌+◌, ◌<◌, ◌≤◌, ◌==◌, Bool, true, false, cond, List, [], ◌∷◌, ◌++◌, length, filter, flat_map, refl, sym, ap, subst, ◌∙◌, arith, inl, inr, ◌⊎◌, slice_index_or}
use Rattle.std.proofs.lemmas.List.{length-map}
use Rattle.std.specs.List.{AllByRecursion, Contains}
use Rattle.ct_value.specs.Bag.{copies, items, total, weigh}
use Rattle.ct_value.specs.Order.{row_total, row_exact}
use Rattle.ct_value.specs.Rows.{project}
use Rattle.ct_value.specs.declared.row.Row.{Row}
use Rattle.ct_change.specs.declared.kind.Kind.{Kind}
use Rattle.ct_change.specs.declared.change.Change.{Change}
use Rattle.ct_change.specs.Changelog.{Rows, adds}
use Rattle.ct_field.specs.Typed.{cell, is_null}
use Rattle.rel_algebra.specs.declared.join.JoinKind.{JoinKind}
use Rattle.rel_algebra.specs.declared.join.JoinKind.TheVariants.{Inner, Left as Lefts, Right as Rights, Full}
use Rattle.rel_algebra.specs.Clauses.{Fits}
use Rattle.rel_algebra.specs.Joins.{nulls, keeps_left, keeps_right, left_columns, right_columns}
use Rattle.rel_algebra.specs.Sums.{Each}
use Rattle.rel_algebra.proofs.laws.Bags.{each-copies, copies-each}
use Rattle.rel_algebra.proofs.laws.Fits.{fits-length}
use Rattle.op_rules.specs.Edges.{IsUnique, LiesIn}
use Rattle.emission_rules.proofs.laws.Weights.{total-below}
use Rattle.emission_rules.specs.Joins.{Join, turned, match_count, told_kind, told_match, inner_or_outer, semi_or_anti}
use Rattle.emission_rules.specs.Joining.{Shape, joins, matched, Joining, match_of, join_by}
use Rattle.emission_rules.specs.JoinFits.{behind, LeftKey, RightKey, HasNotNull, IsKeyBy}
use Rattle.emission_rules.proofs.laws.JoinFacts.{project-within, project-behind, nulls-length, cell-nulls}
use Rattle.emission_rules.proofs.laws.Fronts.{removes_then, one_change, message_removes_first}
use Rattle.emission_rules.proofs.laws.KeyCases.{w, own, other, is_joined, small, light_left, light_right, few_left, few_right, one_left, one_right, weightless, is_there, first_of, cell_of_set, not_null, remove-le, each-remove, none-weighs, filter-le}
use Rattle.emission_rules.proofs.laws.JoinKeys.{one_if, has_value, few_of_key, stands_once}
use Rattle.emission_rules.proofs.laws.JoinMessages.{ups}
use Rattle.emission_rules.proofs.laws.Passes.{Guards}
use Rattle.emission_rules.proofs.laws.JoinStanding.{standing, standing-turned, paired_at, alone_at}
use Rattle.emission_rules.proofs.laws.Sums.{weigh-same, weigh-filter, weigh-nothing}

-- rows of the two sides that a key of what is joined holds of
pub record Guarded (j : Joining) (join : Join) (weight : Row → ℕ) (L R : List ℕ → Type 0) : Type 1 where
  pub Safe : Rows → Rows → Type 0
  pub left_guards : Guards weight join Safe (Fits j.left_columns)
  pub right_guards : Guards weight (turned join) (λ rights lefts. Safe lefts rights) (Fits j.right_columns)
  pub safe_where : (rows others : Rows) → Each (Fits j.left_columns) rows → Each (Fits j.right_columns) others
      → ((key : List ℕ) → L key → IsUnique key (copies rows)) → ((key : List ℕ) → R key → IsUnique key (copies others)) → Safe rows others

module _ (j : Joining) (key : List ℕ) (a : Row) where
  abbrev wt : Row → ℕ
  wt = w j key a

  abbrev lw : ℕ
  lw = length j.left_columns

  abbrev rw : ℕ
  rw = length j.right_columns

  abbrev FitsLeft : Row → Type 0
  FitsLeft = Fits j.left_columns

  abbrev FitsRight : Row → Type 0
  FitsRight = Fits j.right_columns

  abbrev matches : Row → Row → Bool
  matches x y = is_joined j key a x y

  wide_of : (rows : Rows) → Each FitsLeft rows → (x : Row) → 0 < copies rows x → length x ≡ lw
  wide_of rows fits x there = fits-length j.left_columns x (each-copies row_total row_exact FitsLeft rows fits x there)

  module _ (kind : JoinKind) where
    abbrev join : Join
    join = inner_or_outer kind lw rw (match_of j)

    -- what of the rows of each side is few, and by which test what a row of the other side tells is found
    record LeftPart : Type 0 where
      pub few : Row → Row → ℕ
      pub weighs : Row → Bool
      pub light : (x y : Row) → weighs x ≡ false → wt (x ++ y) ≡ 0
      pub filtered : (y : Row) (rows : Rows) → weigh (λ x. cond (weighs x) 1 0) (filter (λ x. matches x y) (items rows)) ≤ total (few y) rows

    record RightPart : Type 0 where
      pub few : Row → Row → ℕ
      pub weighs : Row → Bool
      pub light : (x y : Row) → length x ≡ lw → weighs y ≡ false → wt (x ++ y) ≡ 0
      pub filtered : (x : Row) (others : Rows) → weigh (λ y. cond (weighs y) 1 0) (filter (λ y. matches x y) (items others)) ≤ total (few x) others

    absurd_weight : (row : Row) → true ≡ false → wt row ≡ 0
    absurd_weight row e = absurd (cc)

    abbrev left_by_key : (l : List ℕ) → AllByRecursion (λ column. column < lw) l → LiesIn l key → LeftPart
    left_by_key l within lies = record {
      few = λ y x. one_if (own j key a l x);
      weighs = own j key a l;
      light = light_left j key a l within lies;
      filtered = λ y rows. filter-le (λ x. one_if (own j key a l x)) (λ x. matches x y) (items rows);
    }

    abbrev left_by_match : LeftPart
    left_by_match = record {
      few = λ y x. one_if (matches x y);
      weighs = λ x. true;
      light = λ x y e. absurd_weight (x ++ y) e;
      filtered = λ y rows. let e = weigh-filter (λ x. 1) (λ x. matches x y) (items rows) in omega arith;
    }

    abbrev right_by_key : (r : List ℕ) → LiesIn (behind lw r) key → RightPart
    right_by_key r lies = record {
      few = λ x y. one_if (other j key a r y);
      weighs = other j key a r;
      light = light_right j key a r lies;
      filtered = λ x others. filter-le (λ y. one_if (other j key a r y)) (λ y. matches x y) (items others);
    }

    abbrev right_by_match : RightPart
    right_by_match = record {
      few = λ x y. one_if (matches x y);
      weighs = λ y. true;
      light = λ x y e f. absurd_weight (x ++ y) f;
      filtered = λ x others. let e = weigh-filter (λ y. 1) (λ y. matches x y) (items others) in omega arith;
    }

    module _ (left : LeftPart) (right : RightPart) where
      record Safe (rows others : Rows) : Type 0 where
        pub fits_left : Each FitsLeft rows
        pub fits_right : Each FitsRight others
        pub few_left : (y : Row) → total (left.few y) rows ≤ 1
        pub few_right : (x : Row) → total (right.few x) others ≤ 1

      module _ (once : (rows others : Rows) → Safe rows others → standing wt join rows others ≤ 1) where
        left_guards : Guards wt join Safe FitsLeft
        left_guards = record {
          once = once;
          fewer = λ rows others x there safe. record {
            fits_left = each-remove FitsLeft rows x there safe.fits_left;
            fits_right = safe.fits_right;
            few_left = λ y. (let le = remove-le (left.few y) rows x there in let f = safe.few_left y in omega arith);
            few_right = safe.few_right;
          };
          owns = λ rows others x there safe. each-copies row_total row_exact FitsLeft rows safe.fits_left x there;
          first = λ rows others beside change safe fits.
              let x = change.row in
              let wide = fits-length j.left_columns x fits in
              message_removes_first wt join (told_kind join change.kind) x beside others (cond (adds change.kind) join.other.unmatched join.other.matched) (cond (adds change.kind) join.other.matched join.other.unmatched) right.weighs
              (λ y e. right.light (nulls lw) y (nulls-length lw) e) (λ y shown e. right.light x y wide e)
              (let le = right.filtered x others in let f = safe.few_right x in omega arith) refl;
        }

        right_guards : Guards wt (turned join) (λ rights lefts. Safe lefts rights) FitsRight
        right_guards = record {
          once = λ others rows safe. (let t = standing-turned wt join rows others in let o = once rows others safe in omega arith);
          fewer = λ others rows y there safe. record {
            fits_left = safe.fits_left;
            fits_right = each-remove FitsRight others y there safe.fits_right;
            few_left = safe.few_left;
            few_right = λ x. (let le = remove-le (right.few x) others y there in let f = safe.few_right x in omega arith);
          };
          owns = λ others rows y there safe. each-copies row_total row_exact FitsRight others safe.fits_right y there;
          first = λ others rows beside change safe fits.
              let y = change.row in
              message_removes_first wt (turned join) (told_kind join change.kind) y beside rows (cond (adds change.kind) join.own.unmatched join.own.matched) (cond (adds change.kind) join.own.matched join.own.unmatched) left.weighs
              (λ x e. left.light x (nulls rw) e) (λ x shown e. left.light x y e)
              (let le = left.filtered y rows in let f = safe.few_left y in omega arith) refl;
        }

    -- ---- which side leads

    -- no padded row of a side weighs
    abbrev NoneRight : Rows → Rows → Type 0
    NoneRight rows others = total (λ y. alone_at wt join.other (match_count (λ x. join.matches x y) rows) y) others ≡ 0

    abbrev NoneLeft : Rows → Rows → Type 0
    NoneLeft rows others = total (λ x. alone_at wt join.own (match_count (join.matches x) others) x) rows ≡ 0

    cond-nothing : (b : Bool) → ◌≡◌ {A = ℕ} (cond b 0 0) 0
    cond-nothing true = refl
    cond-nothing false = refl

    never-padded : (z outer : Bool) (n : ℕ) → outer ≡ false → cond (cond z outer false) n 0 ≡ 0
    never-padded true outer n e = ap (λ b. cond b n 0) e
    never-padded false outer n e = refl

    inner_right : keeps_right kind ≡ false → (rows others : Rows) → NoneRight rows others
    inner_right e rows others = weigh-same _ _ (λ y. never-padded (match_count (λ x. matches x y) rows == 0) (keeps_right kind) (wt (nulls lw ++ y)) e) (items others) ∙ weigh-nothing (items others)

    inner_left : keeps_left kind ≡ false → (rows others : Rows) → NoneLeft rows others
    inner_left e rows others = weigh-same _ _ (λ x. never-padded (match_count (λ y. matches x y) others == 0) (keeps_left kind) (wt (x ++ nulls rw)) e) (items rows) ∙ weigh-nothing (items rows)

    light_none_right : (rows others : Rows) → ((y : Row) → 0 < copies others y → wt (nulls lw ++ y) ≡ 0) → NoneRight rows others
    light_none_right rows others h =
        none-weighs _ others (λ y there. ap (λ n. cond (cond (match_count (λ x. matches x y) rows == 0) (keeps_right kind) false) n 0) (h y there) ∙ cond-nothing (cond (match_count (λ x. matches x y) rows == 0) (keeps_right kind) false))

    light_none_left : (rows others : Rows) → ((x : Row) → 0 < copies rows x → wt (x ++ nulls rw) ≡ 0) → NoneLeft rows others
    light_none_left rows others h =
        none-weighs _ rows (λ x there. ap (λ n. cond (cond (match_count (λ y. matches x y) others == 0) (keeps_left kind) false) n 0) (h x there) ∙ cond-nothing (cond (match_count (λ y. matches x y) others == 0) (keeps_left kind) false))

    -- a sum of what is below what is few is 1 where the row has the value, else nothing
    sum-le : (b : Bool) (f g : Row → ℕ) (rows : Rows) → total g rows ≤ 1 → ((x : Row) → 0 < copies rows x → f x ≤ g x) → ((x : Row) → 0 < copies rows x → b ≡ false → f x ≡ 0) → total f rows ≤ one_if b
    sum-le true f g rows few below none = let le = total-below f g rows below in omega arith
    sum-le false f g rows few below none = let z = none-weighs f rows (λ x there. none x there refl) in omega arith

    form-le : (b : Bool) (n : ℕ) → n ≤ 1 → (b ≡ false → n ≡ 0) → n ≤ one_if b
    form-le true n few none = few
    form-le false n few none = let z = none refl in omega arith

    pair-le : (b c : Bool) (n : ℕ) → n ≤ 1 → (c ≡ false → n ≡ 0) → cond b n 0 ≤ one_if c
    pair-le true c n few none = form-le c n few none
    pair-le false c n few none = omega arith

    pair-match : (b : Bool) (n : ℕ) → n ≤ 1 → cond b n 0 ≤ one_if b
    pair-match true n few = few
    pair-match false n few = omega arith

    pair-none : (b : Bool) (n : ℕ) → n ≡ 0 → cond b n 0 ≡ 0
    pair-none true n e = e
    pair-none false n e = refl

    small_ : (row : Row) → wt row ≤ 1
    small_ row = small j key a row

    -- the left leads, each of whose rows has a few matches with the value
    left_leads : (l : List ℕ) (within : AllByRecursion (λ column. column < lw) l) (lies : LiesIn l key) (rows others : Rows) (g : Row → Row → ℕ) → total (λ x. one_if (own j key a l x)) rows ≤ 1
        → ((x : Row) → total (g x) others ≤ 1) → ((x y : Row) → 0 < copies rows x → cond (matches x y) (wt (x ++ y)) 0 ≤ g x y) → NoneRight rows others → standing wt join rows others ≤ 1
    left_leads l within lies rows others g few meets below none =
        stands_once wt small_ join (own j key a l) rows others (record {
          pairs = copies-each row_total row_exact _ rows (λ x there. sum-le (own j key a l x) (paired_at wt join x) (g x) others (meets x) (λ y some. below x y there) (λ y some e. pair-none (matches x y) (wt (x ++ y)) (light_left j key a l within lies x y e)));
          form = copies-each row_total row_exact _ rows (λ x there. form-le (own j key a l x) (wt (x ++ nulls rw)) (small_ (x ++ nulls rw)) (light_left j key a l within lies x (nulls rw)));
          apart = inl refl;
          few = few;
          other_none = none;
        })

    right_leads : (r : List ℕ) (lies : LiesIn (behind lw r) key) (rows others : Rows) → Each FitsLeft rows → (g : Row → Row → ℕ) → total (λ y. one_if (other j key a r y)) others ≤ 1
        → ((y : Row) → total (g y) rows ≤ 1) → ((x y : Row) → cond (matches x y) (wt (x ++ y)) 0 ≤ g y x) → NoneLeft rows others → standing wt join rows others ≤ 1
    right_leads r lies rows others fits g few meets below none =
        let t = standing-turned wt join rows others in
        let o = stands_once wt small_ (turned join) (other j key a r) others rows (record {
          pairs = copies-each row_total row_exact _ others (λ y there. sum-le (other j key a r y) (paired_at wt (turned join) y) (g y) rows (meets y) (λ x some. below x y) (λ x some e. pair-none (matches x y) (wt (x ++ y)) (light_right j key a r lies x y (wide_of rows fits x some) e)));
          form = copies-each row_total row_exact _ others (λ y there. form-le (other j key a r y) (wt (nulls lw ++ y)) (small_ (nulls lw ++ y)) (λ e. light_right j key a r lies (nulls lw) y (nulls-length lw) e));
          apart = inl refl;
          few = few;
          other_none = none;
        }) in
        omega arith

  -- ---- kind by kind

  module _ (L R : List ℕ → Type 0) where
    abbrev LeftHas : Rows → Type 0
    LeftHas rows = (k : List ℕ) → L k → IsUnique k (copies rows)

    abbrev RightHas : Rows → Type 0
    RightHas others = (k : List ℕ) → R k → IsUnique k (copies others)

    module _ (kind : JoinKind) where
      by_parts : (left : LeftPart kind) (right : RightPart kind) → ((rows others : Rows) → Safe kind left right rows others → standing wt (join kind) rows others ≤ 1)
          → ((rows : Rows) → Each FitsLeft rows → LeftHas rows → (y : Row) → total (left.few y) rows ≤ 1) → ((others : Rows) → RightHas others → (x : Row) → total (right.few x) others ≤ 1) → Guarded j (join kind) wt L R
      by_parts left right once few_l few_r = record {
        Safe = Safe kind left right;
        left_guards = left_guards kind left right once;
        right_guards = right_guards kind left right once;
        safe_where = λ rows others fl fr has_l has_r. record { fits_left = fl; fits_right = fr; few_left = few_l rows fl has_l; few_right = few_r others has_r };
      }

      abbrev BothParts : LeftKey L lw key → RightKey R lw key → Rows → Rows → Type 0
      BothParts l r rows others = Safe kind (left_by_key kind l.columns l.within l.lies) (right_by_key kind r.columns r.lies) rows others

      both_left : (l : LeftKey L lw key) (r : RightKey R lw key) (rows others : Rows) → BothParts l r rows others → NoneRight kind rows others → standing wt (join kind) rows others ≤ 1
      both_left l r rows others safe none =
          left_leads kind l.columns l.within l.lies rows others (λ x y. one_if (other j key a r.columns y)) (safe.few_left []) safe.few_right
          (λ x y there. pair-le kind (matches x y) (other j key a r.columns y) (wt (x ++ y)) (small_ kind (x ++ y)) (light_right j key a r.columns r.lies x y (wide_of rows safe.fits_left x there))) none

      both_right : (l : LeftKey L lw key) (r : RightKey R lw key) (rows others : Rows) → BothParts l r rows others → NoneLeft kind rows others → standing wt (join kind) rows others ≤ 1
      both_right l r rows others safe none =
          right_leads kind r.columns r.lies rows others safe.fits_left (λ y x. one_if (own j key a l.columns x)) (safe.few_right []) safe.few_left
          (λ x y. pair-le kind (matches x y) (own j key a l.columns x) (wt (x ++ y)) (small_ kind (x ++ y)) (light_left j key a l.columns l.within l.lies x y)) none

      guarded_both : (l : LeftKey L lw key) (r : RightKey R lw key) → ((rows others : Rows) → BothParts l r rows others → standing wt (join kind) rows others ≤ 1) → Guarded j (join kind) wt L R
      guarded_both l r once =
          by_parts (left_by_key kind l.columns l.within l.lies) (right_by_key kind r.columns r.lies) once
          (λ rows fits has y. few_left j key a l.columns l.within l.lies rows fits (has l.columns l.has)) (λ others has x. few_right j key a r.columns r.lies others (has r.columns r.has))

      guarded_left : (l : LeftKey L lw key) (c : List ℕ) → R c → LiesIn c (right_columns j.on) → keeps_right kind ≡ false → Guarded j (join kind) wt L R
      guarded_left l c has_c lies inner =
          by_parts (left_by_key kind l.columns l.within l.lies) (right_by_match kind)
          (λ rows others safe. left_leads kind l.columns l.within l.lies rows others (λ x y. one_if (matches x y)) (safe.few_left []) safe.few_right (λ x y there. pair-match kind (matches x y) (wt (x ++ y)) (small_ kind (x ++ y))) (inner_right kind inner rows others))
          (λ rows fits has y. few_left j key a l.columns l.within l.lies rows fits (has l.columns l.has)) (λ others has x. one_right j key a c lies others (has c has_c) x)

      guarded_right : (r : RightKey R lw key) (c : List ℕ) → L c → LiesIn c (left_columns j.on) → keeps_left kind ≡ false → Guarded j (join kind) wt L R
      guarded_right r c has_c lies inner =
          by_parts (left_by_match kind) (right_by_key kind r.columns r.lies)
          (λ rows others safe. right_leads kind r.columns r.lies rows others safe.fits_left (λ y x. one_if (matches x y)) (safe.few_right []) safe.few_left (λ x y. pair-match kind (matches x y) (wt (x ++ y)) (small_ kind (x ++ y))) (inner_left kind inner rows others))
          (λ rows fits has y. one_left j key a c lies rows (has c has_c) y) (λ others has x. few_right j key a r.columns r.lies others (has r.columns r.has))

    -- ---- padded rows of both sides

    module _ (l : LeftKey L lw key) (r : RightKey R lw key) where
      null_apart : (b : Bool) → b ≡ true → b ≡ false → ⊥
      null_apart b e f = let wrong : true ≡ false = sym e ∙ f in absurd (cc)

      -- in a column of the left's key that isn't nullable, the value tells rows without a left side
      full_by_left : HasNotNull l.columns j.left_columns → (rows others : Rows) → BothParts Full l r rows others → standing wt (join Full) rows others ≤ 1
      full_by_left not_nullable rows others safe =
          let n = not_nullable.0 in
          let column = not_nullable.1 in
          let has_n = not_nullable.2 in
          elim (is_null (cell n a)) as (λ b. is_null (cell n a) ≡ b → standing wt (join Full) rows others ≤ 1) [
            | true ↦ λ e.
                both_right Full l r rows others safe (light_none_left Full rows others (λ x there.
                let fits = each-copies row_total row_exact FitsLeft rows safe.fits_left x there in
                let wide = fits-length j.left_columns x fits in
                weightless j key a false (x ++ nulls rw) (λ same.
                let agree : project l.columns x ≡ project l.columns a = sym (project-within l.columns x (nulls rw) (subst (λ m. AllByRecursion (λ c. c < m) l.columns) (sym wide) l.within)) ∙ l.lies (x ++ nulls rw) a same in
                absurd (null_apart (is_null (cell n x)) (ap is_null (cell_of_set l.columns x a n has_n agree) ∙ e) (not_null j.left_columns x n column fits not_nullable.3 not_nullable.4))) refl))
            | false ↦ λ e.
                both_left Full l r rows others safe (light_none_right Full rows others (λ y there.
                weightless j key a false (nulls lw ++ y) (λ same.
                let agree : project l.columns (nulls lw) ≡ project l.columns a = sym (project-within l.columns (nulls lw) y (subst (λ m. AllByRecursion (λ c. c < m) l.columns) (sym (nulls-length lw)) l.within)) ∙ l.lies (nulls lw ++ y) a same in
                absurd (null_apart (is_null (cell n a)) (ap is_null (sym (cell_of_set l.columns (nulls lw) a n has_n agree) ∙ cell-nulls lw n)) e)) refl))
          ] refl

      -- and in one of the right's key, rows without a right side
      full_by_right : HasNotNull r.columns j.right_columns → (rows others : Rows) → BothParts Full l r rows others → standing wt (join Full) rows others ≤ 1
      full_by_right not_nullable rows others safe =
          let n = not_nullable.0 in
          let column = not_nullable.1 in
          let has_n = not_nullable.2 in
          elim (is_null (cell (lw + n) a)) as (λ b. is_null (cell (lw + n) a) ≡ b → standing wt (join Full) rows others ≤ 1) [
            | true ↦ λ e.
                both_left Full l r rows others safe (light_none_right Full rows others (λ y there.
                let fits = each-copies row_total row_exact FitsRight others safe.fits_right y there in
                weightless j key a false (nulls lw ++ y) (λ same.
                absurd (null_apart (is_null (cell n y)) (ap is_null (at_right (nulls lw) y (nulls-length lw) n has_n (r.lies (nulls lw ++ y) a same)) ∙ e) (not_null j.right_columns y n column fits not_nullable.3 not_nullable.4))) refl))
            | false ↦ λ e.
                both_right Full l r rows others safe (light_none_left Full rows others (λ x there.
                let wide = wide_of rows safe.fits_left x there in
                weightless j key a false (x ++ nulls rw) (λ same.
                absurd (null_apart (is_null (cell (lw + n) a)) (ap is_null (sym (at_right x (nulls rw) wide n has_n (r.lies (x ++ nulls rw) a same)) ∙ cell-nulls rw n)) e)) refl))
          ] refl
        where
          behind-has : (columns : List ℕ) (n : ℕ) → Contains columns n → Contains (behind lw columns) (lw + n)
          behind-has columns n has = (has.0, omega (arith, has.1, length-map columns (λ c. lw + c)), at columns has.0 has.1 has.2)
            where
              at : (columns : List ℕ) (k : ℕ) → k < length columns → slice_index_or columns k n ≡ n → slice_index_or (behind lw columns) k (lw + n) ≡ lw + n
              at [] k l e = absurd (omega arith)
              at (c ∷ columns) zero l e = ap (λ m. lw + m) e
              at (c ∷ columns) (suc k) l e = at columns k (omega arith) e

          at_right : (x y : Row) → length x ≡ lw → (n : ℕ) → Contains r.columns n → project (behind lw r.columns) (x ++ y) ≡ project (behind lw r.columns) a → cell n y ≡ cell (lw + n) a
          at_right x y wide n has same =
              sym (ap first_of (project-behind (n ∷ []) lw x y wide)) ∙ cell_of_set (behind lw r.columns) (x ++ y) a (lw + n) (behind-has r.columns n has) same

    -- ---- rows that are kept by whether they have a match

    module _ (anti : Bool) (c : List ℕ) (has_c : L c) (lies : LiesIn c key) where
      abbrev kept : Join
      kept = semi_or_anti anti (match_of j)

      abbrev valued : Row → Bool
      valued x = has_value c (project c a) x

      light : (x : Row) → valued x ≡ false → wt x ≡ 0
      light x e = weightless j key a (valued x) x (λ same. is_there j key a c (project c a) x (lies x a same)) e

      abbrev SafeKept : Rows → Rows → Type 0
      SafeKept rows others = Each FitsLeft rows × Each FitsRight others × (total (λ x. one_if (valued x)) rows ≤ 1)

      never : (z : Bool) (n : ℕ) → cond (cond z false false) n 0 ≡ 0
      never true n = refl
      never false n = refl

      nothing : (b : Bool) → ◌≡◌ {A = ℕ} (cond b 0 0) 0
      nothing true = refl
      nothing false = refl

      form-one : (b : Bool) (n : ℕ) → n ≤ 1 → (b ≡ false → n ≡ 0) → n ≤ one_if b
      form-one true n few none = few
      form-one false n few none = let z = none refl in omega arith

      kept_once : (rows others : Rows) → SafeKept rows others → standing wt kept rows others ≤ 1
      kept_once rows others safe =
          stands_once wt (small j key a) kept valued rows others (record {
            pairs = copies-each row_total row_exact _ rows (λ x there. (let z = weigh-same (paired_at wt kept x) (λ _. 0) (λ y. nothing (matches x y)) (items others) ∙ weigh-nothing (items others) in omega arith));
            form = copies-each row_total row_exact _ rows (λ x there. form-one (valued x) (wt x) (small j key a x) (light x));
            apart = inr refl;
            few = safe.2;
            other_none = weigh-same _ _ (λ y. never (match_count (λ x. matches x y) rows == 0) (wt y)) (items others) ∙ weigh-nothing (items others);
          })

      -- of a row that it matches, a row of the left tells nothing
      tells-nothing : (adding free : Bool) (kind : Kind) (x y : Row) → told_match kept adding kind x free y ≡ []
      tells-nothing true true kind x y = refl
      tells-nothing true false kind x y = refl
      tells-nothing false true kind x y = refl
      tells-nothing false false kind x y = refl

      flat-nothing : (f : Row → List Change) → ((y : Row) → f y ≡ []) → (ys : List Row) → flat_map f ys ≡ []
      flat-nothing f h [] = refl
      flat-nothing f h (y ∷ ys) = ap (λ xs. xs ++ flat_map f ys) (h y) ∙ flat-nothing f h ys

      kept_guarded : Guarded j kept wt L R
      kept_guarded = record {
        Safe = SafeKept;
        left_guards = record {
          once = kept_once;
          fewer = λ rows others x there safe. (each-remove FitsLeft rows x there safe.0, safe.1, (let le = remove-le (λ x. one_if (valued x)) rows x there in let f = safe.2 in omega arith));
          owns = λ rows others x there safe. each-copies row_total row_exact FitsLeft rows safe.0 x there;
          first = λ rows others beside change safe fits.
              removes_then wt _ _
              (ap (ups wt) (flat-nothing (λ match. told_match kept (adds change.kind) (told_kind kept change.kind) change.row (match_count (λ row. kept.matches row match) beside == 0) match)
              (λ y. tells-nothing (adds change.kind) (match_count (λ row. kept.matches row y) beside == 0) (told_kind kept change.kind) change.row y) (filter (kept.matches change.row) (items others))))
              (one_change wt (cond (match_count (kept.matches change.row) others == 0) kept.own.unmatched kept.own.matched) (told_kind kept change.kind) change.row);
        };
        right_guards = record {
          once = λ others rows safe. (let t = standing-turned wt kept rows others in let o = kept_once rows others safe in omega arith);
          fewer = λ others rows y there safe. (safe.0, each-remove FitsRight others y there safe.1, safe.2);
          owns = λ others rows y there safe. each-copies row_total row_exact FitsRight others safe.1 y there;
          first = λ others rows beside change safe fits.
              message_removes_first wt (turned kept) (told_kind kept change.kind) change.row beside rows (cond (adds change.kind) kept.own.unmatched kept.own.matched) (cond (adds change.kind) kept.own.matched kept.own.unmatched) valued
              (λ x e. light x e) (λ x shown e. absurd (cc))
              (let le = filter-le (λ x. one_if (valued x)) (λ x. matches x change.row) (items rows) in let f = safe.2 in omega arith) refl;
        };
        safe_where = λ rows others fl fr has_l has_r. (fl, fr, few_of_key c rows (has_l c has_c) (project c a));
      }

    -- ---- all kinds

    pub guarded : (shape : Shape) → IsKeyBy shape L R j key → Guarded j (join_by shape lw rw (match_of j)) wt L R
    guarded (joins Inner) (inl h) = guarded_both Inner h.0 h.1 (λ rows others safe. both_left Inner h.0 h.1 rows others safe (inner_right Inner refl rows others))
    guarded (joins Inner) (inr (inl h)) = guarded_left Inner h.0 h.1.0 h.1.1 h.1.2 refl
    guarded (joins Inner) (inr (inr h)) = guarded_right Inner h.0 h.1.0 h.1.1 h.1.2 refl
    guarded (joins Lefts) (inl h) = guarded_both Lefts h.0 h.1 (λ rows others safe. both_left Lefts h.0 h.1 rows others safe (inner_right Lefts refl rows others))
    guarded (joins Lefts) (inr h) = guarded_left Lefts h.0 h.1.0 h.1.1 h.1.2 refl
    guarded (joins Rights) (inl h) = guarded_both Rights h.0 h.1 (λ rows others safe. both_right Rights h.0 h.1 rows others safe (inner_left Rights refl rows others))
    guarded (joins Rights) (inr h) = guarded_right Rights h.0 h.1.0 h.1.1 h.1.2 refl
    guarded (joins Full) h = guarded_both Full h.0 h.1 (of h.2)
      where
        of : HasNotNull h.0.columns j.left_columns ⊎ HasNotNull h.1.columns j.right_columns → (rows others : Rows) → BothParts Full h.0 h.1 rows others → standing wt (join Full) rows others ≤ 1
        of (inl n) = full_by_left h.0 h.1 n
        of (inr n) = full_by_right h.0 h.1 n
    guarded (matched anti) h = kept_guarded anti h.0 h.1 h.2
