-- The joined row at which a join is out of range is made of a row of each side that came, or that stands of what came.
use Rattle.std.specs.Prelude.{◌≡◌, ℕ, ◌<◌, ◌==◌, Bool, cond, List, ◌++◌, Option}
use Rattle.std.proofs.Common.{zero, suc, true, false, [], ◌∷◌, refl, sym, subst, arith, Some, None}
use Rattle.std.specs.List.{AllByRecursion, find}
use Rattle.std.specs.Ordering.{eq_by_cmp}
use Rattle.std.proofs.lemmas.Bool.{eqb-true}
use Rattle.std.specs.declared.cmp.Ordering.{Ordering}
use Rattle.ct_value.specs.Bag.{none, add, remove, items, drop_one}
use Rattle.ct_value.proofs.laws.Bags.{items-remove}
use Rattle.ct_value.specs.Order.{row_cmp, row_total, row_exact}
use Rattle.ct_value.specs.Rows.{project}
use Rattle.ct_value.specs.declared.row.Row.{Row}
use Rattle.ct_change.specs.declared.change.Change.{Change}
use Rattle.ct_change.specs.Changelog.{Mode, append, retract, upsert, Rows, adds, apply, fold, fold_from, row_at, same_row, without}
use Rattle.ct_change.specs.Emission.{as_it_is, put_in, put_over, replaced_by, difference, row_of}
use Rattle.rel_algebra.specs.Joins.{Matching}
use Rattle.rel_algebra.specs.Sums.{Each}
use Rattle.rel_algebra.proofs.laws.Bags.{each-none, each-add}
use Rattle.rel_algebra.proofs.laws.Fits.{fits-append}
use Rattle.op_rules.specs.History.{Arrival, at_port}
use Rattle.emission_rules.specs.Arriving.{is_whole}
use Rattle.emission_rules.specs.Joins.{Join, turned, told_of, pair_with, first_out, unless, join_emits}
use Rattle.emission_rules.specs.Joining.{Shape, joins, matched, Joining, match_of, join_by, join_of, left_rows, right_rows, emits_one, emits}
use Rattle.run_laws.proofs.Answers.{OutsAt, outs_both, not_err, err_same}
use Rattle.run_laws.proofs.Whole.{Fit}

-- ---- rows that stand

module _ (P : Row → Type 0) where
  each_drop : (R : Row → Row → Ordering) (x : Row) (xs : List Row) → AllByRecursion P xs → AllByRecursion P (drop_one R x xs)
  each_drop R x [] h = tt
  each_drop R x (y ∷ ys) h = elim (eq_by_cmp R x y) as (λ b. AllByRecursion P (cond b ys (y ∷ drop_one R x ys))) [ true ↦ h.1 | false ↦ (h.0, each_drop R x ys h.1) ]

  each_remove : (rows : Rows) (row : Row) → Each P rows → Each P (remove rows row)
  each_remove rows row h = subst (λ (xs : List Row). AllByRecursion P xs) (sym (items-remove row_total rows row)) (each_drop row_cmp row (items rows) h)

  each_without : (rows : Rows) (o : Option Row) → Each P rows → Each P (without rows o)
  each_without rows None h = h
  each_without rows (Some row) h = each_remove rows row h

  -- the row of a change has the property, where it is told whole
  abbrev pub IsTold : Mode → Change → Type 0
  IsTold mode change = is_whole mode change.kind ≡ true → P change.row

  each_if : (b : Bool) (rows others : Rows) (row : Row) → (b ≡ true → P row) → Each P rows → Each P others → Each P (cond b (add rows row) others)
  each_if true rows others row p h k = each-add row_total row_exact P rows row (p refl) h
  each_if false rows others row p h k = k

  each_after : (mode : Mode) (rows : Rows) (change : Change) → IsTold mode change → Each P rows → Each P (apply mode rows change)
  each_after append rows change p h = each-add row_total row_exact P rows change.row (p refl) h
  each_after retract rows change p h = each_if (adds change.kind) rows (remove rows change.row) change.row (λ e. p refl) h (each_remove rows change.row h)
  each_after (upsert key) rows change p h =
      let k = each_without rows (row_at rows key change.row) h in
      each_if (adds change.kind) (without rows (row_at rows key change.row)) (without rows (row_at rows key change.row)) change.row p k k

  each_fold : (mode : Mode) (rows : Rows) (changes : List Change) → AllByRecursion (IsTold mode) changes → Each P rows → Each P (fold_from mode rows changes)
  each_fold mode rows [] all h = h
  each_fold mode rows (change ∷ changes) all h = each_fold mode (apply mode rows change) changes all.1 (each_after mode rows change all.0 h)

  rows_stand : (mode : Mode) (changes : List Change) → AllByRecursion (IsTold mode) changes → Each P (fold mode changes)
  rows_stand mode changes all = each_fold mode none changes all (each-none row_total row_exact P)

  -- the row, if there is one, has the property
  abbrev If : Option Row → Type 0
  If None = Unit {0}
  If (Some row) = P row

  found_here : (b : Bool) (row : Row) (o : Option Row) → P row → If o → If (cond b (Some row) o)
  found_here true row o p h = p
  found_here false row o p h = h

  found : (test : Row → Bool) (rows : List Row) → AllByRecursion P rows → If (find test rows)
  found test [] h = tt
  found test (row ∷ rows) h = found_here (test row) row (find test rows) h.0 (found test rows h.1)

  -- what goes and what comes by a change
  abbrev IfChange : Option Change → Type 0
  IfChange None = Unit {0}
  IfChange (Some change) = P change.row

  as_it_goes : (b : Bool) (change : Change) → P change.row → IfChange (as_it_is b change).gone × IfChange (as_it_is b change).come
  as_it_goes true change p = (tt, p)
  as_it_goes false change p = (p, tt)

  replaced_goes : (o : Option Row) (b : Bool) (change : Change) → adds change.kind ≡ b → If o → (b ≡ true → P change.row) → IfChange (replaced_by o change).gone × IfChange (replaced_by o change).come
  replaced_goes None true change e h p = subst (λ b. IfChange (put_in b change).gone × IfChange (put_in b change).come) (sym e) (tt, p refl)
  replaced_goes None false change e h p = subst (λ b. IfChange (put_in b change).gone × IfChange (put_in b change).come) (sym e) (tt, tt)
  replaced_goes (Some old) true change e h p = subst (λ b. IfChange (put_over old b change).gone × IfChange (put_over old b change).come) (sym e) (h, p refl)
  replaced_goes (Some old) false change e h p = subst (λ b. IfChange (put_over old b change).gone × IfChange (put_over old b change).come) (sym e) (h, tt)

  difference_goes : (mode : Mode) (rows : Rows) (change : Change) → Each P rows → IsTold mode change → IfChange (difference mode rows change).gone × IfChange (difference mode rows change).come
  difference_goes append rows change each p = as_it_goes (adds change.kind) change (p refl)
  difference_goes retract rows change each p = as_it_goes (adds change.kind) change (p refl)
  difference_goes (upsert key) rows change each p =
      replaced_goes (row_at rows key change.row) (adds change.kind) change refl (found (λ other. same_row (project key change.row) (project key other)) (items rows) each) p

-- ---- of one change

-- a join, seen from one side: its rows, those of the other side, and the rows at which it is out of range
module _ (join : Join) (Own Other Whole : Row → Type 0) (whole : (row match : Row) → Own row → Other match → Whole (join.pair row match)) where
  outs_unless : (o : Option Row) (changes : List Change) → If Whole o → OutsAt Whole (unless o changes)
  outs_unless None changes h row e = not_err changes row e
  outs_unless (Some out) changes h row e = subst Whole (err_same out row e) h

  pair_is : (row : Row) (o : Option Row) → Own row → If Other o → If Whole (pair_with join row o)
  pair_is row None p h = tt
  pair_is row (Some match) p h = whole row match p h

  first_is : (others : Rows) (o : Option Change) → Each Other others → IfChange Own o → If Whole (first_out join others o)
  first_is others None each h = tt
  first_is others (Some change) each h = pair_is change.row (find (join.outs change.row) (items others)) h (found Other (join.outs change.row) (items others) each)

  join_outs : (mode : Mode) (rows others : Rows) (change : Change) → Each Own rows → Each Other others → IsTold Own mode change → OutsAt Whole (join_emits join mode rows others change)
  join_outs mode rows others change stand each p =
      let diff = difference mode rows change in
      let beside = without rows (row_of diff.gone) in
      let d = difference_goes Own mode rows change stand p in
      outs_both Whole _ _ (outs_unless (first_out join others diff.gone) (told_of join beside others diff.gone) (first_is others diff.gone each d.0))
      (outs_unless (first_out join others diff.come) (told_of join beside others diff.come) (first_is others diff.come each d.1))

-- ---- along a history

module _ (Left Right : Change → Type 0) where
  -- a change of the left, or of the right
  abbrev IsOf : Bool → Change → Type 0
  IsOf true change = Left change
  IsOf false change = Right change

  abbrev pub Arrives : Arrival → Type 0
  Arrives a = IsOf (a.port == 0) a.change

  abbrev AllLeft : List Change → Type 0
  AllLeft changes = AllByRecursion Left changes

  abbrev AllRight : List Change → Type 0
  AllRight changes = AllByRecursion Right changes

  one_arrives : (p : ℕ) (change : Change) (xs ys : List Change) → p < 2 → AllLeft (cond (p == 0) (change ∷ xs) xs) → AllRight (cond (p == 1) (change ∷ ys) ys) → IsOf (p == 0) change × AllLeft xs × AllRight ys
  one_arrives zero change xs ys l h k = (h.0, h.1, k)
  one_arrives (suc zero) change xs ys l h k = (k.0, h, k.1)
  one_arrives (suc (suc p)) change xs ys l h k = absurd (omega (arith, l))

  pub all_arrive : (history : List Arrival) → AllByRecursion (λ a. a.port < 2) history → AllLeft (at_port 0 history) → AllRight (at_port 1 history) → AllByRecursion Arrives history
  all_arrive [] w h k = tt
  all_arrive (a ∷ history) w h k =
      let one = one_arrives a.port a.change (at_port 0 history) (at_port 1 history) w.0 h k in
      (one.0, all_arrive history w.1 one.1 one.2)

  left_one : (b : Bool) (change : Change) (xs : List Change) → IsOf b change → AllLeft xs → AllLeft (cond b (change ∷ xs) xs)
  left_one true change xs h k = (h, k)
  left_one false change xs h k = k

  right_one : (p : ℕ) (change : Change) (xs : List Change) → IsOf (p == 0) change → AllRight xs → AllRight (cond (p == 1) (change ∷ xs) xs)
  right_one p change xs h k = go (p == 1) refl
    where
      go : (b : Bool) → (p == 1) ≡ b → AllRight (cond b (change ∷ xs) xs)
      go true e = (subst (λ n. IsOf (n == 0) change) (eqb-true p 1 e) h, k)
      go false e = k

  all_left : (history : List Arrival) → AllByRecursion Arrives history → AllLeft (at_port 0 history)
  all_left [] h = tt
  all_left (a ∷ history) h = left_one (a.port == 0) a.change (at_port 0 history) h.0 (all_left history h.1)

  all_right : (history : List Arrival) → AllByRecursion Arrives history → AllRight (at_port 1 history)
  all_right [] h = tt
  all_right (a ∷ history) h = right_one a.port a.change (at_port 1 history) h.0 (all_right history h.1)

all_both : {A : Type 0} (P : A → Type 0) (xs ys : List A) → AllByRecursion P xs → AllByRecursion P ys → AllByRecursion P (xs ++ ys)
all_both P [] ys h k = k
all_both P (x ∷ xs) ys h k = (h.0, all_both P xs ys h.1 k)

-- what both sides of a join make of a pair that is out of range is the joined row
joined_pair : (shape : Shape) (left_width right_width : ℕ) (match : Matching) (W : Row → Type 0) (left right : Row) → W (left ++ right) → W ((join_by shape left_width right_width match).pair left right)
joined_pair (joins kind) left_width right_width match W left right h = h
joined_pair (matched anti) left_width right_width match W left right h = h

module _ (j : Joining) where
  -- a change of a side has its columns, where its row is told whole
  abbrev pub Left : Change → Type 0
  Left = IsTold (Fit j.left_columns) j.left

  abbrev pub Right : Change → Type 0
  Right = IsTold (Fit j.right_columns) j.right

  abbrev Whole : Row → Type 0
  Whole = Fit (j.left_columns ++ j.right_columns)

  whole : (left right : Row) → Fit j.left_columns left → Fit j.right_columns right → Whole ((join_of j).pair left right)
  whole left right h k = joined_pair j.shape _ _ (match_of j) Whole left right (fits-append j.left_columns j.right_columns left right h k)

  one_out : (before : List Arrival) (a : Arrival) → AllByRecursion (Arrives Left Right) before → Arrives Left Right a → OutsAt Whole (emits_one j before a)
  one_out before a h k =
      let left = rows_stand (Fit j.left_columns) j.left (at_port 0 before) (all_left Left Right before h) in
      let right = rows_stand (Fit j.right_columns) j.right (at_port 1 before) (all_right Left Right before h) in
      go (a.port == 0) k left right
    where
      go : (b : Bool) → IsOf Left Right b a.change → Each (Fit j.left_columns) (left_rows j before) → Each (Fit j.right_columns) (right_rows j before)
          → OutsAt Whole (cond b (join_emits (join_of j) j.left (left_rows j before) (right_rows j before) a.change) (join_emits (turned (join_of j)) j.right (right_rows j before) (left_rows j before) a.change))
      go true k left right = join_outs (join_of j) (Fit j.left_columns) (Fit j.right_columns) Whole whole j.left (left_rows j before) (right_rows j before) a.change left right k
      go false k left right = join_outs (turned (join_of j)) (Fit j.right_columns) (Fit j.left_columns) Whole (λ row match p q. whole match row q p) j.right (right_rows j before) (left_rows j before) a.change right left k

  pub joins_out : (before piece : List Arrival) → AllByRecursion (Arrives Left Right) before → AllByRecursion (Arrives Left Right) piece → OutsAt Whole (emits j before piece)
  joins_out before [] h k = λ row e. not_err [] row e
  joins_out before (a ∷ piece) h k =
      outs_both Whole (emits_one j before a) (emits j (before ++ a ∷ []) piece) (one_out before a h k.0)
      (joins_out (before ++ a ∷ []) piece (all_both (Arrives Left Right) before (a ∷ []) h (k.0, tt)) k.1)
