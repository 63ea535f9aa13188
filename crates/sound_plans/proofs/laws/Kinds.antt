-- How an edge tells updates, and the kinds that it carries.
use Rattle.std.specs.Prelude.{◌≡◌, ℕ, ◌⊎◌, Bool, cond, ◌&&◌, ◌||◌, List, Option}
use Rattle.std.proofs.Common.{true, false, refl, sym, subst, ◌∙◌, inl, inr, ⊎_elim, Some, None}
use Rattle.ct_change.specs.Changelog.{admits, has}
use Rattle.ct_change.specs.declared.kind.Kind.{Kind}
use Rattle.ct_change.specs.declared.kind.Kind.TheVariants.{I, UB, UA, D}
use Rattle.ct_change.specs.declared.kind.KindSet.{KindSet}
use Rattle.ct_catalog.specs.declared.table.TableDef.{TableDef}
use Rattle.rel_algebra.specs.declared.join.JoinKind.{JoinKind}
use Rattle.rel_algebra.specs.declared.join.JoinKind.TheVariants.{Inner, Left, Right, Full}
use Rattle.emission_rules.specs.Joining.{Shape, joins, matched}
use Rattle.emission_rules.specs.JoinFits.{kinds_by}
use Rattle.ct_change.specs.declared.update.Update.{Update}
use Rattle.ct_change.specs.declared.update.Update.TheVariants.{Absent, After, Both}
use Rattle.phys_plan.specs.declared.node.Op.{Op}
use Rattle.plan_rules.specs.Around.{mode_read}
use Rattle.plan_rules.proofs.laws.Reading.{kinds_read, retract_admits}
use Rattle.mode_infer.specs.Kinds.{either, inserts, join_kinds, semi_kinds, with_old}
use Rattle.ct_change.specs.Kinds.{has_more_than_inserts}
use Rattle.mode_infer.specs.Modes.{edge_kinds}
use Rattle.mode_infer.specs.Updates.{in_full, takes, told}
use Rattle.sound_plans.specs.Agrees.{IsAsked, taken_by}
use Rattle.sound_plans.specs.Outputs.{Output}

-- ---- how updates are told

-- with the old rows, where there are updates
pub of_full : (P : Update → Type 0) (sent : KindSet) → P Absent → P Both → P (in_full sent)
of_full P sent absent whole = elim sent.ua as (λ b. P (cond b Both Absent)) [ true ↦ whole | false ↦ absent ]

-- or by the new ones alone, by the update key, where they are taken so
pub of_told : (P : Update → Type 0) (sent : KindSet) (key : Option (List ℕ)) (taken : Bool) → P Absent → P Both
    → ((columns : List ℕ) → key ≡ Some columns → sent.ua ≡ true → taken ≡ true → P (After columns)) → P (told sent key taken)
of_told P sent None taken absent whole after = of_full P sent absent whole
of_told P sent (Some columns) taken absent whole after = go sent.ua taken refl refl
  where
    go : (updates takes_them : Bool) → sent.ua ≡ updates → taken ≡ takes_them → P (cond (updates && takes_them) (After columns) (in_full sent))
    go true true is are = after columns refl is are
    go true false is are = of_full P sent absent whole
    go false takes_them is are = of_full P sent absent whole

-- an input tells new rows alone only where its consumer takes them
pub of_asked : (P : Update → Type 0) (sink : TableDef) (o : Op) (own : Update) (port : ℕ) (input : Output) → IsAsked sink o own port input → P Absent → P Both
    → ((columns : List ℕ) → input.update_key ≡ Some columns → input.sent.ua ≡ true → takes sink o port own columns ≡ true → P (After columns)) → P input.edge.update
of_asked P sink o own port input asks absent whole after =
    subst P (sym asks.tells)
    (of_told P input.sent input.update_key (taken_by sink o port own input.update_key) absent whole
    (λ columns is updates taken. after columns is updates (subst (λ k. taken_by sink o port own k ≡ true) is taken)))

-- ---- the kinds of an edge

-- the one set has no kind that the other hasn't
abbrev pub IsLess : KindSet → KindSet → Type 0
IsLess less kinds = (kind : Kind) → has less kind ≡ true → has kinds kind ≡ true

-- nothing that isn't sent
pub are_sent : (sent : KindSet) (update : Update) → IsLess (edge_kinds sent update) sent
are_sent sent Absent kind h = h
are_sent sent (After columns) I h = h
are_sent sent (After columns) UB h = absurd (cc)
are_sent sent (After columns) UA h = h
are_sent sent (After columns) D h = h
are_sent sent Both kind h = h

-- nothing that doesn't belong to the mode in which it is read
pub are_admitted : (sent : KindSet) (update : Update) (kind : Kind) → has (edge_kinds sent update) kind ≡ true → admits (mode_read (edge_kinds sent update) update) kind ≡ true
are_admitted sent Absent kind h = kinds_read sent kind h
are_admitted sent (After columns) I h = refl
are_admitted sent (After columns) UB h = absurd (cc)
are_admitted sent (After columns) UA h = refl
are_admitted sent (After columns) D h = refl
are_admitted sent Both kind h = retract_admits kind

-- ---- choices

-- where one of the first two holds, one of the other two does
or_less : (a b c d : Bool) → (a ≡ true → c ≡ true) → (b ≡ true → d ≡ true) → (a || b) ≡ true → (c || d) ≡ true
or_less true b true d one other e = refl
or_less true b false d one other e = absurd (let wrong : false ≡ true = one refl in cc)
or_less false b true d one other e = refl
or_less false b false d one other e = other e

-- which of two holds, and that one of two does
either_of : (a b : Bool) → (a || b) ≡ true → (a ≡ true) ⊎ (b ≡ true)
either_of true b e = inl refl
either_of false b e = inr e

left_of : (a b : Bool) → a ≡ true → (a || b) ≡ true
left_of true b e = refl
left_of false b e = absurd (cc)

right_of : (a b : Bool) → b ≡ true → (a || b) ≡ true
right_of true b e = refl
right_of false b e = e

-- with fewer kinds there are no others than inserts where there are none with more
more_less : (less kinds : KindSet) → IsLess less kinds → has_more_than_inserts less ≡ true → has_more_than_inserts kinds ≡ true
more_less less kinds h e = or_less less.ub (less.ua || less.d) kinds.ub (kinds.ua || kinds.d) (h UB) (or_less less.ua less.d kinds.ua kinds.d (h UA) (h D)) e

-- whether there are other kinds than inserts
pub more_sent : (sent : KindSet) (update : Update) → has_more_than_inserts (edge_kinds sent update) ≡ true → has_more_than_inserts sent ≡ true
more_sent sent update e = more_less (edge_kinds sent update) sent (are_sent sent update) e

-- ---- the kinds of a join

-- the fewer kinds come, the fewer leave
pub kinds_less : (shape : Shape) (left right lefts rights : KindSet) → IsLess left lefts → IsLess right rights → IsLess (kinds_by shape left right) (kinds_by shape lefts rights)
kinds_less (joins Inner) left right lefts rights p q I h = h
kinds_less (joins Inner) left right lefts rights p q UB h =
    or_less left.ub (left.ua || (right.ub || right.ua)) lefts.ub (lefts.ua || (rights.ub || rights.ua)) (p UB)
    (or_less left.ua (right.ub || right.ua) lefts.ua (rights.ub || rights.ua) (p UA) (or_less right.ub right.ua rights.ub rights.ua (q UB) (q UA))) h
kinds_less (joins Inner) left right lefts rights p q UA h = or_less left.ua right.ua lefts.ua rights.ua (p UA) (q UA) h
kinds_less (joins Inner) left right lefts rights p q D h = or_less left.d right.d lefts.d rights.d (p D) (q D) h
kinds_less (joins Left) left right lefts rights p q I h = h
kinds_less (joins Left) left right lefts rights p q UB h = h
kinds_less (joins Left) left right lefts rights p q UA h = h
kinds_less (joins Left) left right lefts rights p q D h = h
kinds_less (joins Right) left right lefts rights p q I h = h
kinds_less (joins Right) left right lefts rights p q UB h = h
kinds_less (joins Right) left right lefts rights p q UA h = h
kinds_less (joins Right) left right lefts rights p q D h = h
kinds_less (joins Full) left right lefts rights p q I h = h
kinds_less (joins Full) left right lefts rights p q UB h = h
kinds_less (joins Full) left right lefts rights p q UA h = h
kinds_less (joins Full) left right lefts rights p q D h = h
kinds_less (matched anti) left right lefts rights p q I h = h
kinds_less (matched anti) left right lefts rights p q UB h = or_less left.ub left.ua lefts.ub lefts.ua (p UB) (p UA) h
kinds_less (matched anti) left right lefts rights p q UA h = p UA h
kinds_less (matched anti) left right lefts rights p q D h =
    or_less anti (left.d || has_more_than_inserts right) anti (lefts.d || has_more_than_inserts rights) (λ e. e) (or_less left.d (has_more_than_inserts right) lefts.d (has_more_than_inserts rights) (p D) (more_less right rights q)) h

-- the old rows of both sides, and then the new ones
old_apart : (a b c d : Bool) → (a || (b || (c || d))) ≡ true → ((a || c) || (b || d)) ≡ true
old_apart a b c d e =
    ⊎_elim
    (λ h. left_of (a || c) (b || d) (left_of a c h))
    (λ f.
    ⊎_elim
    (λ h. right_of (a || c) (b || d) (left_of b d h))
    (λ g.
    ⊎_elim
    (λ h. left_of (a || c) (b || d) (right_of a c h))
    (λ h. right_of (a || c) (b || d) (right_of b d h))
    (either_of c d g))
    (either_of b (c || d) f))
    (either_of a (b || (c || d)) e)

-- rows of both sides alone come where nothing else does
no_more : (left right : KindSet) → (has_more_than_inserts left || has_more_than_inserts right) ≡ false → (kind : Kind) → has (kinds_by (joins Inner) left right) kind ≡ true → has inserts kind ≡ true
no_more left right none I h = refl
no_more left right none UB h =
    let some : (has_more_than_inserts left || has_more_than_inserts right) ≡ true =
    ⊎_elim
    (λ e. left_of (has_more_than_inserts left) (has_more_than_inserts right) (left_of left.ub (left.ua || left.d) e))
    (λ f.
    ⊎_elim
    (λ e. left_of (has_more_than_inserts left) (has_more_than_inserts right) (right_of left.ub (left.ua || left.d) (left_of left.ua left.d e)))
    (λ g.
    ⊎_elim
    (λ e. right_of (has_more_than_inserts left) (has_more_than_inserts right) (left_of right.ub (right.ua || right.d) e))
    (λ e. right_of (has_more_than_inserts left) (has_more_than_inserts right) (right_of right.ub (right.ua || right.d) (left_of right.ua right.d e)))
    (either_of right.ub right.ua g))
    (either_of left.ua (right.ub || right.ua) f))
    (either_of left.ub (left.ua || (right.ub || right.ua)) h) in
    absurd (let wrong : false ≡ true = sym none ∙ some in cc)
no_more left right none UA h =
    let some : (has_more_than_inserts left || has_more_than_inserts right) ≡ true =
    or_less left.ua right.ua (has_more_than_inserts left) (has_more_than_inserts right)
    (λ e. right_of left.ub (left.ua || left.d) (left_of left.ua left.d e))
    (λ e. right_of right.ub (right.ua || right.d) (left_of right.ua right.d e)) h in
    absurd (let wrong : false ≡ true = sym none ∙ some in cc)
no_more left right none D h =
    let some : (has_more_than_inserts left || has_more_than_inserts right) ≡ true =
    or_less left.d right.d (has_more_than_inserts left) (has_more_than_inserts right)
    (λ e. right_of left.ub (left.ua || left.d) (right_of left.ua left.d e))
    (λ e. right_of right.ub (right.ua || right.d) (right_of right.ua right.d e)) h in
    absurd (let wrong : false ≡ true = sym none ∙ some in cc)

-- of an inner join, where other kinds come and where none do
inner_inferred : (left right : KindSet) → left.i ≡ true → (more : Bool) → (has_more_than_inserts left || has_more_than_inserts right) ≡ more → (kind : Kind) → has (kinds_by (joins Inner) left right) kind ≡ true
    → has (cond more (with_old (either left right)) inserts) kind ≡ true
inner_inferred left right some false is kind h = no_more left right is kind h
inner_inferred left right some true is I h = left_of left.i right.i some
inner_inferred left right some true is UB h = old_apart left.ub left.ua right.ub right.ua h
inner_inferred left right some true is UA h = h
inner_inferred left right some true is D h = h

-- what leaves is inferred, where inserts come
pub join_inferred : (kind : JoinKind) (left right : KindSet) → left.i ≡ true → IsLess (kinds_by (joins kind) left right) (join_kinds kind left right)
join_inferred Inner left right some k h = inner_inferred left right some (has_more_than_inserts left || has_more_than_inserts right) refl k h
join_inferred Left left right some I h = h
join_inferred Left left right some UB h = h
join_inferred Left left right some UA h = h
join_inferred Left left right some D h = h
join_inferred Right left right some I h = h
join_inferred Right left right some UB h = h
join_inferred Right left right some UA h = h
join_inferred Right left right some D h = h
join_inferred Full left right some I h = h
join_inferred Full left right some UB h = h
join_inferred Full left right some UA h = h
join_inferred Full left right some D h = h

pub semi_inferred : (anti : Bool) (left right : KindSet) → left.i ≡ true → IsLess (kinds_by (matched anti) left right) (semi_kinds anti left right)
semi_inferred anti left right some I h = some
semi_inferred anti left right some UB h = h
semi_inferred anti left right some UA h = h
semi_inferred anti left right some D h =
    ⊎_elim
    (λ e. right_of left.d (anti || has_more_than_inserts right) (left_of anti (has_more_than_inserts right) e))
    (λ f.
    ⊎_elim
    (λ e. left_of left.d (anti || has_more_than_inserts right) e)
    (λ e. right_of left.d (anti || has_more_than_inserts right) (right_of anti (has_more_than_inserts right) e))
    (either_of left.d (has_more_than_inserts right) f))
    (either_of anti (left.d || has_more_than_inserts right) h)

-- ---- inserts come, and with old rows new ones

abbrev Replaces : KindSet → Type 0
Replaces kinds = kinds.ub ≡ true → kinds.ua ≡ true

inner_inserts : (left right : KindSet) → left.i ≡ true → (more : Bool) → (cond more (with_old (either left right)) inserts).i ≡ true
inner_inserts left right some true = left_of left.i right.i some
inner_inserts left right some false = refl

pub join_inserts : (kind : JoinKind) (left right : KindSet) → left.i ≡ true → (join_kinds kind left right).i ≡ true
join_inserts Inner left right some = inner_inserts left right some (has_more_than_inserts left || has_more_than_inserts right)
join_inserts Left left right some = refl
join_inserts Right left right some = refl
join_inserts Full left right some = refl

inner_replaces : (left right : KindSet) → Replaces left → Replaces right → (more : Bool) → Replaces (cond more (with_old (either left right)) inserts)
inner_replaces left right p q true e =
    ⊎_elim
    (λ h. or_less left.ub right.ub left.ua right.ua p q h)
    (λ h. h)
    (either_of (left.ub || right.ub) (left.ua || right.ua) e)
inner_replaces left right p q false e = absurd (cc)

pub join_replaces : (kind : JoinKind) (left right : KindSet) → (left.ub ≡ true → left.ua ≡ true) → (right.ub ≡ true → right.ua ≡ true) → (join_kinds kind left right).ub ≡ true → (join_kinds kind left right).ua ≡ true
join_replaces Inner left right p q e = inner_replaces left right p q (has_more_than_inserts left || has_more_than_inserts right) e
join_replaces Left left right p q e = absurd (cc)
join_replaces Right left right p q e = absurd (cc)
join_replaces Full left right p q e = absurd (cc)

pub semi_replaces : (anti : Bool) (left right : KindSet) → (left.ub ≡ true → left.ua ≡ true) → (semi_kinds anti left right).ub ≡ true → (semi_kinds anti left right).ua ≡ true
semi_replaces anti left right p e = ⊎_elim p (λ h. h) (either_of left.ub left.ua e)
