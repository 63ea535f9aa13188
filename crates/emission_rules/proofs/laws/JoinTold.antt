-- What is said of each change that a join tells, from what is said of pairs and of rows that stand by themselves.
use Rattle.std.proofs.Common.{◌≡◌, ℕ, ◌==◌, Bool, true, false, cond, ◌&&◌, ◌||◌, List, [], ◌∷◌, ◌++◌, filter, flat_map, Option, Some, None, refl, sym, ap, subst}
use Rattle.std.specs.List.{AllByRecursion}
use Rattle.ct_value.specs.Bag.{items}
use Rattle.ct_value.specs.Order.{row_total, row_exact}
use Rattle.ct_value.specs.declared.row.Row.{Row}
use Rattle.ct_change.specs.declared.kind.Kind.{Kind}
use Rattle.ct_change.specs.declared.kind.Kind.TheVariants.{I, UB, UA, D}
use Rattle.ct_change.specs.declared.change.Change.{Change}
use Rattle.ct_change.specs.Changelog.{Mode, append, retract, upsert, Rows, adds, without, row_at}
use Rattle.ct_change.specs.Emission.{row_of, as_it_is, put_in, put_over, replaced_by}
use Rattle.ct_change.proofs.laws.Folds.{row_at-stands}
use Rattle.rel_algebra.specs.Sums.{Each}
use Rattle.rel_algebra.proofs.laws.Bags.{each-copies}
use Rattle.op_rules.proofs.laws.Histories.{all-append}
use Rattle.emission_rules.specs.Arriving.{is_whole}
use Rattle.emission_rules.specs.Joins.{Join, match_count, is_alone, told_if, told_kind, told_match, told_row, told_of, join_tells}

abbrev pub told : Kind → Row → Change
told kind row = record { kind = kind; row = row }

module _ (P : Change → Type 0) (join : Join) (Own Other : Row → Type 0) where
  abbrev pub All : List Change → Type 0
  All changes = AllByRecursion P changes

  -- what is said of what a row tells that comes or goes with a kind
  pub record Gives (kind : Kind) : Type 0 where
    pub pair : (x y : Row) → Own x → Other y → join.pairs ≡ true → P (told (told_kind join kind) (join.pair x y))
    pub own_form : (x : Row) → Own x → (join.own.matched || join.own.unmatched) ≡ true → P (told (told_kind join kind) (join.own.form x))
    pub goes : (y : Row) → Other y → cond (adds kind) join.other.unmatched join.other.matched ≡ true → P (told D (join.other.form y))
    pub comes : (y : Row) → Other y → cond (adds kind) join.other.matched join.other.unmatched ≡ true → P (told I (join.other.form y))

  all-if : (b : Bool) (kind : Kind) (row : Row) → (b ≡ true → P (told kind row)) → All (told_if b kind row)
  all-if true kind row p = (p refl, tt)
  all-if false kind row p = tt

  and-second : (a b : Bool) → (a && b) ≡ true → b ≡ true
  and-second true b e = e
  and-second false b e = absurd (cc)

  kept : (p : Row → Bool) (xs : List Row) → AllByRecursion Other xs → AllByRecursion Other (filter p xs)
  kept p [] h = tt
  kept p (x ∷ xs) h = elim (p x) as (λ b. AllByRecursion Other (cond b (x ∷ filter p xs) (filter p xs))) [ true ↦ (h.0, kept p xs h.1) | false ↦ kept p xs h.1 ]

  row_tells : (beside others : Rows) (change : Change) → Own change.row → Each Other others → Gives change.kind → All (told_row join beside others change)
  row_tells beside others change own each k =
      all-append P _ _
      (all_matches (filter (join.matches change.row) (items others)) (kept (join.matches change.row) (items others) each))
      (all-if (is_alone join.own (match_count (join.matches change.row) others)) (told_kind join change.kind) (join.own.form change.row) (λ e. k.own_form change.row own (alone (match_count (join.matches change.row) others == 0) join.own.matched join.own.unmatched e)))
    where
      alone : (z m u : Bool) → cond z u m ≡ true → (m || u) ≡ true
      alone true true u e = refl
      alone true false u e = e
      alone false m u e = ap (λ b. b || u) e

      all_matches : (rows : List Row) → AllByRecursion Other rows → All (flat_map (λ match. told_match join (adds change.kind) (told_kind join change.kind) change.row (match_count (λ row. join.matches row match) beside == 0) match) rows)
      all_matches [] h = tt
      all_matches (match ∷ rows) h =
          let free = match_count (λ row. join.matches row match) beside == 0 in
          all-append P _ _
          (all-append P _ _ (all-if (free && cond (adds change.kind) join.other.unmatched join.other.matched) D (join.other.form match) (λ e. k.goes match h.0 (and-second free _ e)))
          (all-append P _ _ (all-if join.pairs (told_kind join change.kind) (join.pair change.row match) (λ e. k.pair change.row match own h.0 e))
          (all-if (free && cond (adds change.kind) join.other.matched join.other.unmatched) I (join.other.form match) (λ e. k.comes match h.0 (and-second free _ e)))))
          (all_matches rows h.1)

  -- the kinds with which rows go and come by a change: its own, or on an after-only edge `-U` before `+U`
  pub record GivesIn (mode : Mode) (kind : Kind) : Type 0 where
    pub itself : Gives kind
    pub update : adds kind ≡ true → (key : List ℕ) → mode ≡ upsert key → Gives UB × Gives UA
    pub removal : adds kind ≡ false → (key : List ℕ) → mode ≡ upsert key → Gives D

  pub record IsSaid (change : Change) : Type 0 where
    pub own : Own change.row
    pub gives : Gives change.kind

  abbrev Said : Option Change → Type 0
  Said o = (change : Change) → o ≡ Some change → IsSaid change

  module _ (others : Rows) (each : Each Other others) where
    of_said : (beside : Rows) (o : Option Change) → Said o → All (told_of join beside others o)
    of_said beside None k = tt
    of_said beside (Some change) k = let s = k change refl in row_tells beside others change s.own each s.gives

    both_said : (rows : Rows) (gone come : Option Change) → Said gone → Said come → All (told_of join (without rows (row_of gone)) others gone ++ told_of join (without rows (row_of gone)) others come)
    both_said rows gone come g c = all-append P _ _ (of_said (without rows (row_of gone)) gone g) (of_said (without rows (row_of gone)) come c)

    is : (one change : Change) → (let o : Option Change = Some one in o ≡ Some change) → IsSaid one → IsSaid change
    is one change e k = let same : one ≡ change = cc in subst (λ (c : Change). IsSaid c) same k

    not_there : (change : Change) → (let o : Option Change = None in o ≡ Some change) → IsSaid change
    not_there change e = absurd (cc)

    taken_as_is : (rows : Rows) (b : Bool) (change : Change) → IsSaid change → All (let diff = as_it_is b change in told_of join (without rows (row_of diff.gone)) others diff.gone ++ told_of join (without rows (row_of diff.gone)) others diff.come)
    taken_as_is rows true change k = both_said rows None (Some change) not_there (λ c e. is change c e k)
    taken_as_is rows false change k = both_said rows (Some change) None (λ c e. is change c e k) not_there

    replaced : (rows : Rows) (o : Option Row) (change : Change) → (b : Bool) → adds change.kind ≡ b → (b ≡ true → IsSaid change) → ((old : Row) → o ≡ Some old → Own old) → (b ≡ true → Gives UB × Gives UA) → (b ≡ false → Gives D)
        → All (let diff = replaced_by o change in told_of join (without rows (row_of diff.gone)) others diff.gone ++ told_of join (without rows (row_of diff.gone)) others diff.come)
    replaced rows None change true e k old u d = subst (λ b. All (let diff = put_in b change in told_of join (without rows (row_of diff.gone)) others diff.gone ++ told_of join (without rows (row_of diff.gone)) others diff.come)) (sym e) (both_said rows None (Some change) not_there (λ c q. is change c q (k refl)))
    replaced rows None change false e k old u d = subst (λ b. All (let diff = put_in b change in told_of join (without rows (row_of diff.gone)) others diff.gone ++ told_of join (without rows (row_of diff.gone)) others diff.come)) (sym e) tt
    replaced rows (Some old) change true e k own u d = subst (λ b. All (let diff = put_over old b change in told_of join (without rows (row_of diff.gone)) others diff.gone ++ told_of join (without rows (row_of diff.gone)) others diff.come)) (sym e)
        (both_said rows (Some (told UB old)) (Some (told UA change.row)) (λ c q. is (told UB old) c q (record { own = own old refl; gives = (u refl).0 })) (λ c q. is (told UA change.row) c q (record { own = (k refl).own; gives = (u refl).1 })))
    replaced rows (Some old) change false e k own u d = subst (λ b. All (let diff = put_over old b change in told_of join (without rows (row_of diff.gone)) others diff.gone ++ told_of join (without rows (row_of diff.gone)) others diff.come)) (sym e)
        (both_said rows (Some (told D old)) None (λ c q. is (told D old) c q (record { own = own old refl; gives = d refl })) not_there)

    -- of each change that is told where these rows stand
    pub tells_all : (mode : Mode) (rows : Rows) (change : Change) → Each Own rows → (is_whole mode change.kind ≡ true → Own change.row) → GivesIn mode change.kind → All (join_tells join mode rows others change)
    tells_all append rows change stand own k = taken_as_is rows (adds change.kind) change (record { own = own refl; gives = k.itself })
    tells_all retract rows change stand own k = taken_as_is rows (adds change.kind) change (record { own = own refl; gives = k.itself })
    tells_all (upsert key) rows change stand own k =
        replaced rows (row_at rows key change.row) change (adds change.kind) refl (λ e. record { own = own e; gives = k.itself })
        (λ old e. each-copies row_total row_exact Own rows stand old (row_at-stands rows key change.row old e))
        (λ e. k.update e key refl) (λ e. k.removal e key refl)
