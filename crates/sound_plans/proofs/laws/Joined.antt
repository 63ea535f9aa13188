-- The keys that are inferred of joined rows are keys of a join, of columns that are there.
use Rattle.std.specs.Prelude.{◌≡◌, ℕ, ◌+◌, ◌<◌, ◌⊎◌, Bool, not, List, ◌++◌, length, slice_get, Option}
use Rattle.std.proofs.Common.{zero, suc, true, false, [], ◌∷◌, refl, sym, ap, subst, ◌∙◌, inl, inr, ⊎_elim, arith, Some, None}
use Rattle.std.specs.List.{AllByRecursion, Contains, filter}
use Rattle.ct_value.specs.declared.ty.ColTy.{ColTy}
use Rattle.rel_algebra.specs.declared.join.JoinKind.{JoinKind}
use Rattle.rel_algebra.specs.declared.join.JoinKind.TheVariants.{Inner, Left, Right, Full}
use Rattle.rel_algebra.specs.Joins.{left_columns, right_columns}
use Rattle.op_rules.specs.Edges.{LiesIn}
use Rattle.emission_rules.specs.Joining.{Joining, joins}
use Rattle.emission_rules.specs.JoinFits.{FixesBy, HasBoth, HasBothApart, HasLeft, HasNotNull, HasRight, IsKeyBy, LeftKey, MatchesOne, RightKey, behind}
use Rattle.column_sets.specs.Places.{shift, shifted}
use Rattle.column_sets.specs.Sets.{family, has_within, is_within, set_of, union, unions}
use Rattle.upsert_keys.specs.Joins.{has_required, is_required, join_fixing, join_sets, of_left, of_right}
use Rattle.upsert_keys.specs.declared.joins.Joining.{Joining as Inferred}
use Rattle.sound_plans.specs.Outputs.{AreWithin}
use Rattle.sound_plans.proofs.laws.KeyFamilies.{IsUnion, of_family, of_shifted, of_unions, of_when, one_within}
use Rattle.sound_plans.proofs.laws.Members.{first_or, of_append, of_filter, one_of, one_passes, only_one, each_among}
use Rattle.sound_plans.proofs.laws.Sets.{left_lies, lies, lies_in_set, lies_itself, lies_within, of_shift, of_union, part_of_shifts, part_of_within, right_lies}
use Rattle.sound_plans.proofs.laws.Widths.{each_appended, each_shifted, each_union, each_when, each_wider, set_within, shift_within, union_within, wider}

-- ---- columns side by side

-- a column of the first list, and one of the second
in_front : {A : Type 0} (xs ys : List A) (n : ℕ) → n < length xs → slice_get (xs ++ ys) n ≡ slice_get xs n
in_front [] ys n l = absurd (omega (arith, l))
in_front (x ∷ xs) ys zero l = refl
in_front (x ∷ xs) ys (suc n) l = in_front xs ys n (omega (arith, l))

in_back : {A : Type 0} (xs ys : List A) (n : ℕ) → slice_get (xs ++ ys) (n + length xs) ≡ slice_get ys n
in_back [] ys n = let e : n + 0 ≡ n = omega arith in ap (λ k. slice_get ys k) e
in_back (x ∷ xs) ys n = let e : n + suc (length xs) ≡ suc (n + length xs) = omega arith in ap (λ k. slice_get (x ∷ xs ++ ys) k) e ∙ in_back xs ys n

-- the same in either order
behind-shift : (width : ℕ) (columns : List ℕ) → behind width columns ≡ shift width columns
behind-shift width [] = refl
behind-shift width (column ∷ columns) =
    let e : width + column ≡ column + width = omega arith in
    let others = behind-shift width columns in
    λ i. e i ∷ others i

-- ---- columns in which NULL may not stand

-- a required column is there, and isn't nullable
not_true : (b : Bool) → not b ≡ true → b ≡ false
not_true true e = absurd (cc)
not_true false e = refl

required : (o : Option ColTy) → is_required o ≡ true → (column : ColTy) × (o ≡ Some column) × (column.nullable ≡ false)
required None e = absurd (cc)
required (Some column) e = (column, refl, not_true column.nullable e)

-- ---- keys

module _ (j : Joining) where
  abbrev width : ℕ
  width = length j.left_columns

  -- the join as keys are inferred of it
  abbrev pub inferred : JoinKind → Inferred
  inferred kind = record { kind = kind; left = left_columns j.on; right = shift width (right_columns j.on); columns = j.left_columns ++ j.right_columns }

  -- from keys of both sides
  module _ (L R : List ℕ → Type 0) (lefts rights : List (List ℕ)) (are_left : (set : List ℕ) → Contains lefts set → L set) (are_right : (set : List ℕ) → Contains rights set → R set)
      (within : AllByRecursion (AreWithin width) lefts) where
    -- where it lies in a key of what is joined
    abbrev left_key : (set key : List ℕ) → Contains lefts set → LiesIn set key → LeftKey L width key
    left_key set key c lie = record { columns = set; has = are_left set c; within = one_of (AreWithin width) lefts set within c; lies = lie }

    abbrev right_key : (set key : List ℕ) → Contains rights set → LiesIn (shift width set) key → RightKey R width key
    right_key set key c lie = record { columns = set; has = are_right set c; lies = subst (λ s. LiesIn s key) (sym (behind-shift width set)) lie }

    -- of the union of two keys
    abbrev union_left : (key : List ℕ) → IsUnion lefts (shifted width rights) key → LeftKey L width key
    union_left key u = left_key u.one key u.has_one (subst (λ k. LiesIn u.one k) (sym u.is) (left_lies u.one u.other))

    abbrev union_right : (key : List ℕ) → IsUnion lefts (shifted width rights) key → RightKey R width key
    union_right key u =
        let right = of_shifted width rights u.other u.has_other in
        right_key right.0 key right.1 (subst (λ s. LiesIn s key) (sym right.2) (subst (λ k. LiesIn u.other k) (sym u.is) (right_lies u.one u.other)))

    -- the sets of which keys are chosen
    abbrev pairs_of : List (List ℕ)
    pairs_of = unions lefts (shifted width rights)

    abbrev by_left_side : JoinKind → List (List ℕ)
    by_left_side kind = of_left (inferred kind) lefts (shifted width rights)

    abbrev by_right_side : JoinKind → List (List ℕ)
    by_right_side kind = of_right (inferred kind) lefts (shifted width rights)

    -- keys of both sides, of the left alone, and of the right alone
    both : (key : List ℕ) → Contains pairs_of key → HasBoth L R width key
    both key c = let u = of_unions lefts (shifted width rights) key c in (union_left key u, union_right key u)

    -- a key of the right lies in the columns of the pairs
    right_matches : (set : List ℕ) → Contains (shifted width rights) set → is_within set (shift width (right_columns j.on)) ≡ true → MatchesOne R (right_columns j.on)
    right_matches set c e =
        let right = of_shifted width rights set c in
        let is : is_within (shift width right.0) (shift width (right_columns j.on)) ≡ true = subst (λ s. is_within s (shift width (right_columns j.on)) ≡ true) (sym right.2) e in
        (right.0, are_right right.0 right.1, lies right.0 (right_columns j.on) (part_of_shifts width right.0 (right_columns j.on) (part_of_within (shift width right.0) (shift width (right_columns j.on)) is)))

    has_left : (kind : JoinKind) (key : List ℕ) → Contains (by_left_side kind) key → HasLeft L R j key
    has_left kind key c =
        let w = of_when (has_within (shifted width rights) (shift width (right_columns j.on))) lefts key c in
        let right = one_within (shifted width rights) (shift width (right_columns j.on)) w.0 in
        (left_key key key w.1 (lies_itself key), right_matches right.0 right.1 right.2)

    has_right : (kind : JoinKind) (key : List ℕ) → Contains (by_right_side kind) key → HasRight L R j key
    has_right kind key c =
        let w = of_when (has_within lefts (left_columns j.on)) (shifted width rights) key c in
        let left = one_within lefts (left_columns j.on) w.0 in
        let right = of_shifted width rights key w.1 in
        (right_key right.0 key right.1 (subst (λ s. LiesIn s key) (sym right.2) (lies_itself key)), (left.0, are_left left.0 left.1, lies_within left.0 (left_columns j.on) left.2))

    -- a column of the union that NULL may not stand in is one of the left or one of the right
    not_null : (one set : List ℕ) (at : ℕ) (column : ColTy) → AreWithin width one → Contains (union one (shift width set)) at → slice_get (j.left_columns ++ j.right_columns) at ≡ Some column
        → column.nullable ≡ false → HasNotNull one j.left_columns ⊎ HasNotNull set j.right_columns
    not_null one set at column there c is full =
        ⊎_elim
        (λ d.
        let lt = one_of (λ x. x < width) one at there d in
        inl (at, column, d, sym (in_front j.left_columns j.right_columns at lt) ∙ is, full))
        (λ d.
        let other = of_shift width set at d in
        inr (other.0, column, other.1, sym (in_back j.left_columns j.right_columns other.0) ∙ ap (λ k. slice_get (j.left_columns ++ j.right_columns) k) other.2 ∙ is, full))
        (of_union one (shift width set) at c)

    -- with a column that tells padded rows apart
    apart : (key : List ℕ) → Contains (filter (has_required (j.left_columns ++ j.right_columns)) (unions lefts (shifted width rights))) key → HasBothApart L R j key
    apart key c =
        let kept = of_filter (has_required (j.left_columns ++ j.right_columns)) (unions lefts (shifted width rights)) key c in
        let u = of_unions lefts (shifted width rights) key kept.0 in
        let right = of_shifted width rights u.other u.has_other in
        let found = one_passes (λ col. is_required (slice_get (j.left_columns ++ j.right_columns) col)) key kept.1 in
        let column = required (slice_get (j.left_columns ++ j.right_columns) found.0) found.2 in
        let same : key ≡ union u.one (shift width right.0) = u.is ∙ ap (λ s. union u.one s) (sym right.2) in
        let there = one_of (AreWithin width) lefts u.one within u.has_one in (
          union_left key u,
          union_right key u,
          not_null u.one right.0 found.0 column.0 there (subst (λ k. Contains k found.0) same found.1) column.1 column.2,
        )

    -- each inferred key is one
    pub key_of_join : (kind : JoinKind) (key : List ℕ) → Contains (join_sets kind (inferred kind) lefts (shifted width rights)) key → IsKeyBy (joins kind) L R j key
    key_of_join Inner key c =
        ⊎_elim
        (λ d. inl (both key d))
        (λ d. inr (⊎_elim (λ e. inl (has_left Inner key e)) (λ e. inr (has_right Inner key e)) (of_append (by_left_side Inner) (by_right_side Inner) key d)))
        (of_append pairs_of (by_left_side Inner ++ by_right_side Inner) key c)
    key_of_join Left key c = ⊎_elim (λ d. inl (both key d)) (λ d. inr (has_left Left key d)) (of_append pairs_of (by_left_side Left) key c)
    key_of_join Right key c = ⊎_elim (λ d. inl (both key d)) (λ d. inr (has_right Right key d)) (of_append pairs_of (by_right_side Right) key c)
    key_of_join Full key c = apart key c

  -- ---- sets that fix the subtask

  -- the columns of the pairs of one side, or of both
  by_left : (set : List ℕ) → set_of (left_columns j.on) ≡ set → LiesIn (left_columns j.on) set
  by_left set e = subst (λ s. LiesIn (left_columns j.on) s) e (lies_in_set (left_columns j.on))

  by_right : (set : List ℕ) → set_of (shift width (right_columns j.on)) ≡ set → LiesIn (behind width (right_columns j.on)) set
  by_right set e = subst (λ s. LiesIn s set) (sym (behind-shift width (right_columns j.on))) (subst (λ s. LiesIn (shift width (right_columns j.on)) s) e (lies_in_set (shift width (right_columns j.on))))

  by_both : (set : List ℕ) → union (left_columns j.on) (shift width (right_columns j.on)) ≡ set → LiesIn (left_columns j.on) set × LiesIn (behind width (right_columns j.on)) set
  by_both set e = (
    subst (λ s. LiesIn (left_columns j.on) s) e (left_lies (left_columns j.on) (shift width (right_columns j.on))),
    subst (λ s. LiesIn s set) (sym (behind-shift width (right_columns j.on)))
        (subst (λ s. LiesIn (shift width (right_columns j.on)) s) e (right_lies (left_columns j.on) (shift width (right_columns j.on)))),
  )

  abbrev ones : List ℕ
  ones = set_of (left_columns j.on)

  abbrev others : List ℕ
  others = set_of (shift width (right_columns j.on))

  -- each inferred set is one
  pub fixes : (kind : JoinKind) (set : List ℕ) → Contains (family (join_fixing kind (inferred kind))) set → FixesBy (joins kind) j set
  fixes Inner set c =
      ⊎_elim (λ e. inl (by_left set e)) (λ d. inr (by_right set (only_one others set d))) (first_or ones (others ∷ []) set (of_family (join_fixing Inner (inferred Inner)) set c))
  fixes Left set c = by_left set (only_one ones set (of_family (join_fixing Left (inferred Left)) set c))
  fixes Right set c = by_right set (only_one others set (of_family (join_fixing Right (inferred Right)) set c))
  fixes Full set c = by_both set (only_one (union (left_columns j.on) (shift width (right_columns j.on))) set (of_family (join_fixing Full (inferred Full)) set c))

-- ---- columns are there

module _ (j : Joining) (lefts rights : List (List ℕ)) (left_there : AllByRecursion (AreWithin (length j.left_columns)) lefts) (right_there : AllByRecursion (AreWithin (length j.right_columns)) rights) where
  abbrev all : ℕ
  all = length j.left_columns + length j.right_columns

  abbrev behinds : List (List ℕ)
  behinds = shifted (length j.left_columns) rights

  lefts_within : AllByRecursion (AreWithin all) lefts
  lefts_within = each_wider (length j.left_columns) all lefts (omega arith) left_there

  rights_within : AllByRecursion (AreWithin all) behinds
  rights_within = each_shifted (length j.left_columns) (length j.right_columns) rights right_there

  unions_within : AllByRecursion (AreWithin all) (unions lefts behinds)
  unions_within = each_union all lefts behinds lefts_within rights_within

  left_side_within : (kind : JoinKind) → AllByRecursion (AreWithin all) (of_left (inferred j kind) lefts behinds)
  left_side_within kind = each_when all (has_within behinds (shift (length j.left_columns) (right_columns j.on))) lefts lefts_within

  right_side_within : (kind : JoinKind) → AllByRecursion (AreWithin all) (of_right (inferred j kind) lefts behinds)
  right_side_within kind = each_when all (has_within lefts (left_columns j.on)) behinds rights_within

  -- all sets that may be keys
  pub sets_within : (kind : JoinKind) → AllByRecursion (AreWithin all) (join_sets kind (inferred j kind) lefts behinds)
  sets_within Inner =
      each_appended all (unions lefts behinds) (of_left (inferred j Inner) lefts behinds ++ of_right (inferred j Inner) lefts behinds) unions_within
      (each_appended all (of_left (inferred j Inner) lefts behinds) (of_right (inferred j Inner) lefts behinds) (left_side_within Inner) (right_side_within Inner))
  sets_within Left = each_appended all (unions lefts behinds) (of_left (inferred j Left) lefts behinds) unions_within (left_side_within Left)
  sets_within Right = each_appended all (unions lefts behinds) (of_right (inferred j Right) lefts behinds) unions_within (right_side_within Right)
  sets_within Full =
      each_among (AreWithin all) (unions lefts behinds) (filter (has_required (j.left_columns ++ j.right_columns)) (unions lefts behinds))
      (λ set c. (of_filter (has_required (j.left_columns ++ j.right_columns)) (unions lefts behinds) set c).0) unions_within

module _ (j : Joining) (left_there : AreWithin (length j.left_columns) (left_columns j.on)) (right_there : AreWithin (length j.right_columns) (right_columns j.on)) where
  abbrev every : ℕ
  every = length j.left_columns + length j.right_columns

  abbrev lefts_of : List ℕ
  lefts_of = left_columns j.on

  abbrev rights_of : List ℕ
  rights_of = shift (length j.left_columns) (right_columns j.on)

  left_pairs_within : AreWithin every lefts_of
  left_pairs_within = wider (length j.left_columns) every lefts_of (omega arith) left_there

  right_pairs_within : AreWithin every rights_of
  right_pairs_within = shift_within (length j.left_columns) (length j.right_columns) (right_columns j.on) right_there

  -- and all that may fix the subtask
  pub fixing_within : (kind : JoinKind) → AllByRecursion (AreWithin every) (join_fixing kind (inferred j kind))
  fixing_within Inner = (set_within every lefts_of left_pairs_within, (set_within every rights_of right_pairs_within, tt))
  fixing_within Left = (set_within every lefts_of left_pairs_within, tt)
  fixing_within Right = (set_within every rights_of right_pairs_within, tt)
  fixing_within Full = (union_within every lefts_of rights_of left_pairs_within right_pairs_within, tt)
