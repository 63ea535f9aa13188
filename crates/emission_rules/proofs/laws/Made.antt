-- The changes that a join sends from one subtask: of which kinds they are, and of which rows theirs are made.
use Rattle.std.proofs.Common.{◌≡◌, ℕ, Bool, true, false, cond, ◌||◌, List, ◌++◌, refl, ap, subst, inl, inr, ◌⊎◌}
use Rattle.ct_value.specs.Rows.{project}
use Rattle.ct_value.specs.declared.row.Row.{Row}
use Rattle.ct_value.specs.declared.ty.ColTy.{ColTy}
use Rattle.ct_change.specs.declared.kind.Kind.{Kind}
use Rattle.ct_change.specs.declared.kind.Kind.TheVariants.{I, UB, UA, D}
use Rattle.ct_change.specs.declared.kind.KindSet.{KindSet}
use Rattle.ct_change.specs.declared.change.Change.{Change}
use Rattle.ct_change.specs.Changelog.{Mode, upsert, adds, has, admits}
use Rattle.rel_algebra.specs.declared.join.JoinKind.{JoinKind}
use Rattle.rel_algebra.specs.declared.join.JoinKind.TheVariants.{Inner, Left as Lefts, Right as Rights, Full}
use Rattle.rel_algebra.specs.Clauses.{Fits}
use Rattle.rel_algebra.specs.Joins.{Matching, nulls, keeps_left, keeps_right}
use Rattle.op_rules.specs.Edges.{Edge}
use Rattle.emission_rules.specs.Joins.{Join, turned, is_inner}
use Rattle.emission_rules.specs.Joining.{Shape, joins, matched, join_by}
use Rattle.emission_rules.specs.JoinFits.{kinds_by, SaysUpdates}
use Rattle.ct_change.specs.Kinds.{has_more_than_inserts}
use Rattle.emission_rules.proofs.laws.JoinTold.{Gives, GivesIn}

-- ---- kinds

-- a change of these kinds may be told with these
abbrev pub full : KindSet → KindSet
full kinds = record { i = true; ub = kinds.ub || kinds.ua; ua = kinds.ua; d = kinds.d }

or-left : (a b : Bool) → a ≡ true → (a || b) ≡ true
or-left a b e = ap (λ c. c || b) e

or-right : (a b : Bool) → b ≡ true → (a || b) ≡ true
or-right true b e = refl
or-right false b e = e

or-more : (a b c d : Bool) → (a || b) ≡ true → (a || (b || (c || d))) ≡ true
or-more true b c d e = refl
or-more false b c d e = or-left b (c || d) e

or-last : (a b c d : Bool) → (c || d) ≡ true → (a || (b || (c || d))) ≡ true
or-last a b c d e = or-right a (b || (c || d)) (or-right b (c || d) e)

full_itself : (kinds : KindSet) (kind : Kind) → has kinds kind ≡ true → has (full kinds) kind ≡ true
full_itself kinds I h = refl
full_itself kinds UB h = or-left kinds.ub kinds.ua h
full_itself kinds UA h = h
full_itself kinds D h = h

when-left : (b c : Bool) → cond b c false ≡ true → c ≡ true
when-left true c e = e
when-left false c e = absurd (cc)

when-right : (b c : Bool) → cond b false c ≡ true → c ≡ true
when-right true c e = absurd (cc)
when-right false c e = e

never-both : (b : Bool) → cond b false false ≡ true → ⊥
never-both true e = absurd (cc)
never-both false e = absurd (cc)

module _ (l r : KindSet) where
  told-outer : (kinds : KindSet) → kinds.i ≡ true → kinds.d ≡ true → (b : Bool) → has kinds (cond b I D) ≡ true
  told-outer kinds i d true = i
  told-outer kinds i d false = d

  inner-left : (kind : Kind) → has (full l) kind ≡ true → has (kinds_by (joins Inner) l r) kind ≡ true
  inner-left I h = refl
  inner-left UB h = or-more l.ub l.ua r.ub r.ua h
  inner-left UA h = or-left l.ua r.ua h
  inner-left D h = or-left l.d r.d h

  inner-right : (kind : Kind) → has (full r) kind ≡ true → has (kinds_by (joins Inner) l r) kind ≡ true
  inner-right I h = refl
  inner-right UB h = or-last l.ub l.ua r.ub r.ua h
  inner-right UA h = or-right l.ua r.ua h
  inner-right D h = or-right l.d r.d h

  told-left : (shape : JoinKind) (kind : Kind) → has (full l) kind ≡ true → has (kinds_by (joins shape) l r) (cond (is_inner shape) kind (cond (adds kind) I D)) ≡ true
  told-left Inner kind h = inner-left kind h
  told-left Lefts kind h = told-outer (kinds_by (joins Lefts) l r) refl refl (adds kind)
  told-left Rights kind h = told-outer (kinds_by (joins Rights) l r) refl refl (adds kind)
  told-left Full kind h = told-outer (kinds_by (joins Full) l r) refl refl (adds kind)

  told-right : (shape : JoinKind) (kind : Kind) → has (full r) kind ≡ true → has (kinds_by (joins shape) l r) (cond (is_inner shape) kind (cond (adds kind) I D)) ≡ true
  told-right Inner kind h = inner-right kind h
  told-right Lefts kind h = told-outer (kinds_by (joins Lefts) l r) refl refl (adds kind)
  told-right Rights kind h = told-outer (kinds_by (joins Rights) l r) refl refl (adds kind)
  told-right Full kind h = told-outer (kinds_by (joins Full) l r) refl refl (adds kind)

  inserts : (shape : JoinKind) → has (kinds_by (joins shape) l r) I ≡ true
  inserts Inner = refl
  inserts Lefts = refl
  inserts Rights = refl
  inserts Full = refl

  deletes-right : (shape : JoinKind) → keeps_right shape ≡ true → has (kinds_by (joins shape) l r) D ≡ true
  deletes-right Inner e = absurd (cc)
  deletes-right Lefts e = absurd (cc)
  deletes-right Rights e = refl
  deletes-right Full e = refl

  deletes-left : (shape : JoinKind) → keeps_left shape ≡ true → has (kinds_by (joins shape) l r) D ≡ true
  deletes-left Inner e = absurd (cc)
  deletes-left Lefts e = refl
  deletes-left Rights e = absurd (cc)
  deletes-left Full e = refl

  matched-left : (anti : Bool) (kind : Kind) → has (full l) kind ≡ true → has (kinds_by (matched anti) l r) kind ≡ true
  matched-left anti I h = refl
  matched-left anti UB h = h
  matched-left anti UA h = h
  matched-left anti D h = or-right anti (l.d || has_more_than_inserts r) (or-left l.d (has_more_than_inserts r) h)

  -- a change of the right that gives or takes the first match
  removes : (kind : Kind) → has (full r) kind ≡ true → adds kind ≡ false → has_more_than_inserts r ≡ true
  removes I h e = absurd (cc)
  removes UB h e = go r.ub r.ua h
    where
      go : (a b : Bool) → (a || b) ≡ true → (a || (b || r.d)) ≡ true
      go true b q = refl
      go false b q = or-left b r.d q
  removes UA h e = absurd (cc)
  removes D h e = or-right r.ub (r.ua || r.d) (or-right r.ua r.d h)

  matched-right : (anti : Bool) (kind : Kind) → has (full r) kind ≡ true → cond (adds kind) anti (cond anti false true) ≡ true → has (kinds_by (matched anti) l r) D ≡ true
  matched-right true kind h e = refl
  matched-right false kind h e = or-right l.d (has_more_than_inserts r) (removes kind h (going (adds kind) e))
    where
      going : (b : Bool) → cond b false true ≡ true → b ≡ false
      going true q = absurd (cc)
      going false q = refl

-- ---- rows

-- a row of a side that routes to this subtask
pub record IsOwn (edge : Edge) (columns : List ColTy) (pairs : List ℕ) (subtask : ℕ) (row : Row) : Type 0 where
  pub fits : Fits columns row
  pub here : edge.route (project pairs row) ≡ subtask

module _ (Left Right : Row → Type 0) (lw rw : ℕ) where
  -- a row of both sides, or one of a side whose rows are kept, padded
  pub record PairOf (kind : JoinKind) (row : Row) : Type 0 where
    pub left : Row
    pub right : Row
    pub is : row ≡ left ++ right
    pub which : (Left left × Right right) ⊎ ((Left left × (right ≡ nulls rw) × (keeps_left kind ≡ true)) ⊎ ((left ≡ nulls lw) × Right right × (keeps_right kind ≡ true)))

  abbrev pub MadeBy : Shape → Row → Type 0
  MadeBy (joins kind) row = PairOf kind row
  MadeBy (matched anti) row = Left row

  module _ (l r : KindSet) (match : Matching) where
    abbrev pub Sent : Shape → Change → Type 0
    Sent shape change = (has (kinds_by shape l r) change.kind ≡ true) × MadeBy shape change.row

    both_of : (kind : JoinKind) (x y : Row) → Left x → Right y → PairOf kind (x ++ y)
    both_of kind x y p q = record { left = x; right = y; is = refl; which = inl (p, q) }

    left_of : (kind : JoinKind) (x : Row) → Left x → keeps_left kind ≡ true → PairOf kind (x ++ nulls rw)
    left_of kind x p e = record { left = x; right = nulls rw; is = refl; which = inr (inl (p, refl, e)) }

    right_of : (kind : JoinKind) (y : Row) → Right y → keeps_right kind ≡ true → PairOf kind (nulls lw ++ y)
    right_of kind y q e = record { left = nulls lw; right = y; is = refl; which = inr (inr (refl, q, e)) }

    pub gives_left : (shape : Shape) (kind : Kind) → has (full l) kind ≡ true → Gives (Sent shape) (join_by shape lw rw match) Left Right kind
    gives_left (joins shape) kind h = record {
      pair = λ x y p q e. (told-left l r shape kind h, both_of shape x y p q);
      own_form = λ x p e. (told-left l r shape kind h, left_of shape x p e);
      goes = λ y q e. let k = when-left (adds kind) (keeps_right shape) e in (deletes-right l r shape k, right_of shape y q k);
      comes = λ y q e. let k = when-right (adds kind) (keeps_right shape) e in (inserts l r shape, right_of shape y q k);
    }
    gives_left (matched anti) kind h = record {
      pair = λ x y p q e. absurd (cc);
      own_form = λ x p e. (matched-left l r anti kind h, p);
      goes = λ y q e. absurd (never-both (adds kind) e);
      comes = λ y q e. absurd (never-both (adds kind) e);
    }

    pub gives_right : (shape : Shape) (kind : Kind) → has (full r) kind ≡ true → Gives (Sent shape) (turned (join_by shape lw rw match)) Right Left kind
    gives_right (joins shape) kind h = record {
      pair = λ y x q p e. (told-right l r shape kind h, both_of shape x y p q);
      own_form = λ y q e. (told-right l r shape kind h, right_of shape y q e);
      goes = λ x p e. let k = when-left (adds kind) (keeps_left shape) e in (deletes-left l r shape k, left_of shape x p k);
      comes = λ x p e. let k = when-right (adds kind) (keeps_left shape) e in (inserts l r shape, left_of shape x p k);
    }
    gives_right (matched anti) kind h = record {
      pair = λ y x q p e. absurd (cc);
      own_form = λ y q e. absurd (cc);
      goes = λ x p e. (matched-right l r anti kind h e, p);
      comes = λ x p e. (refl, p);
    }

-- also of the rows that give way by a change
pub gives_in : (P : Change → Type 0) (join : Join) (Own Other : Row → Type 0) (mode : Mode) (kinds : KindSet) → ((kind : Kind) → has (full kinds) kind ≡ true → Gives P join Own Other kind)
    → SaysUpdates mode kinds → (kind : Kind) → has kinds kind ≡ true → admits mode kind ≡ true → GivesIn P join Own Other mode kind
gives_in P join Own Other mode kinds gives updates kind h admitted = record {
  itself = gives kind (full_itself kinds kind h);
  update = λ e key is. let ua : kinds.ua ≡ true = subst (λ m. SaysUpdates m kinds) is updates in (gives UB (or-right kinds.ub kinds.ua ua), gives UA ua);
  removal = λ e key is. gives D (gone key kind h e (subst (λ m. admits m kind ≡ true) is admitted));
}
  where
    gone : (key : List ℕ) (k : Kind) → has kinds k ≡ true → adds k ≡ false → admits (upsert key) k ≡ true → kinds.d ≡ true
    gone key I q e a = absurd (cc)
    gone key UB q e a = absurd (cc)
    gone key UA q e a = absurd (cc)
    gone key D q e a = q
