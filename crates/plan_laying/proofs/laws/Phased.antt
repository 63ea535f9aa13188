-- An operator over the last node, and a group that is laid in two phases.
use Rattle.std.specs.Prelude.{◌≡◌, ℕ, ◌+◌, ◌==◌, Bool, ◌&&◌, ◌||◌, not, cond, List, length, Option}
use Rattle.std.proofs.Common.{true, false, [], ◌∷◌, refl, sym, ap, subst, ◌∙◌, Some, None}
use Rattle.std.specs.List.{list_all}
use Rattle.std.proofs.lemmas.Bool.{and_parts}
use Rattle.ct_change.specs.declared.kind.KindSet.{KindSet}
use Rattle.column_sets.specs.Places.{first_columns}
use Rattle.mode_infer.specs.declared.kinds.Flow.{Flow}
use Rattle.mode_infer.specs.Kinds.{asked, by_columns, group_kinds, inserts, plain}
use Rattle.rel_algebra.specs.declared.agg.Agg.{Agg}
use Rattle.rel_algebra.specs.Rel.{Unary, filter_by, project_on, group_by, rank_in, Rel, One}
use Rattle.phys_plan.specs.declared.edge.Exchange.{Exchange}
use Rattle.phys_plan.specs.declared.edge.Exchange.TheVariants.{Forward, Hash}
use Rattle.phys_plan.specs.declared.node.Op.{Op}
use Rattle.phys_plan.specs.declared.node.Op.TheVariants as op
use Rattle.plan_rules.specs.Phases.{Bundles, has_parts, in_phases, local_below}
use Rattle.plan_rules.specs.Pieces.{Piece, full_piece, one_pieces, pieces_of, topped}
use Rattle.plan_rules.specs.Roles.{group_op, unary_way}
use Rattle.plan_rules.specs.TreeKinds.{tree_kinds}
use Rattle.plan_laying.specs.declared.laying.Laid.{Laid}
use Rattle.plan_laying.specs.declared.laying.Laying.{Laying}
use Rattle.plan_laying.specs.Laying.{bundles_of, Above, Adds, Lays, Phased, Resent, Sends, Tops}
use Rattle.plan_laying.specs.Steps.{local_of}
use Rattle.plan_laying.proofs.laws.Laid.{adds_count, adds_more, local_before, one_lays, sends_adds, sends_root}
use Rattle.plan_laying.proofs.laws.Resent.{resent_lays, unary_asks}

-- the local group below the operator of a tree is the tree's
local_is : (b : Bundles) (how : Unary) (kinds : KindSet) → local_of b.two_phase ((unary_way how).op b.size) kinds ≡ local_below b how kinds
local_is b (filter_by condition) kinds = refl
local_is b (project_on items) kinds = refl
local_is b (rank_in partition order bound ranked) kinds = refl
local_is b (group_by keys aggs) kinds = by b.two_phase (b.size == 0 || keys == 0)
  where
    by : (two none : Bool) → local_of two (cond none (op.Group keys aggs) (op.BatchGroup keys aggs)) kinds
        ≡ cond (two && (not none && list_all (λ (agg : Agg). has_parts kinds agg.call) aggs)) (Some (op.LocalGroup keys aggs)) None
    by true true = refl
    by true false = refl
    by false true = refl
    by false false = refl

-- what is found by the operator is found by the tree
local_found : (mid : Laying) (o : Op) (how : Unary) (kinds : KindSet) (local : Option Op) → o ≡ (unary_way how).op mid.mini_batch → local_of mid.two_phase o kinds ≡ local → local_below (bundles_of mid) how kinds ≡ local
local_found mid o how kinds local is found = sym (local_is (bundles_of mid) how kinds) ∙ ap (λ (q : Op). local_of mid.two_phase q kinds) (sym is) ∙ found

-- ---- one phase

pub whole_tops : (mid new : Laying) (below laid : Laid) (o : Op) → local_of mid.two_phase o below.kinds ≡ None → Above mid new below o laid → (how : Unary) (input : Rel) → o ≡ (unary_way how).op mid.mini_batch → Tops mid new below (One how input) laid
whole_tops mid new below laid o found a how input is =
    let asks : Resent (unary_way how).asks mid a.ahead = subst (λ (x : Exchange). Resent x mid a.ahead) (ap (λ (q : Op). by_columns (asked q 0)) is ∙ unary_asks mid.mini_batch how) a.resent in
    let size : a.ahead.mini_batch ≡ mid.mini_batch = ap (λ (b : Bundles). b.size) a.resent.bundles in
    let none : local_below (bundles_of a.ahead) how below.kinds ≡ None = ap (λ (b : Bundles). local_below b how below.kinds) a.resent.bundles ∙ local_found mid o how below.kinds None is found in
    let sends : Sends a.ahead new ((unary_way how).op a.ahead.mini_batch) (below.root ∷ []) (plain below.kinds ∷ []) Forward laid =
    subst (λ (q : Op). Sends a.ahead new q (below.root ∷ []) (plain below.kinds ∷ []) Forward laid) (is ∙ ap (λ m. (unary_way how).op m) (sym size)) a.sends in
    record { tops = λ old l. one_lays old a.ahead new Forward how input below laid (resent_lays old mid a.ahead Forward (unary_way how).asks input below l asks) none sends }

-- ---- two

not_true : (b : Bool) → not b ≡ true → b ≡ false
not_true true e = absurd (cc)
not_true false e = refl

-- a group that is taken in two phases keeps bundles
bundled : (b : Bundles) (keys : ℕ) (aggs : List Agg) (kinds : KindSet) → in_phases b keys aggs kinds ≡ true → group_op b.size keys aggs ≡ op.BatchGroup keys aggs
bundled b keys aggs kinds taken =
    let none : Bool = b.size == 0 || keys == 0 in
    let parts = and_parts b.two_phase (not none && list_all (λ (agg : Agg). has_parts kinds agg.call) aggs) taken in
    let some = and_parts (not none) (list_all (λ (agg : Agg). has_parts kinds agg.call) aggs) parts.1 in
    ap (λ t. cond t (op.Group keys aggs) (op.BatchGroup keys aggs)) (not_true none some.0)

module _ (old mid new : Laying) (keys : ℕ) (aggs : List Agg) (input : Rel) (below laid : Laid) (l : Lays old mid Forward input below)
    (taken : in_phases (bundles_of mid) keys aggs below.kinds ≡ true) (p : Phased mid new below (op.LocalGroup keys aggs) (op.BatchGroup keys aggs) laid) where
  abbrev n : ℕ
  n = length old.nodes

  abbrev kinds : KindSet
  kinds = tree_kinds old.sources (One (group_by keys aggs) input)

  abbrev merged : Op
  merged = op.BatchGroup keys aggs

  abbrev summed : Op
  summed = op.LocalGroup keys aggs

  abbrev partial : List Flow
  partial = record { sent = p.part.kinds; meant = below.kinds } ∷ []

  abbrev ps : List Piece
  ps = pieces_of old.sources (bundles_of old) (length old.nodes) Forward input

  abbrev qs : List Piece
  qs = topped n ps summed (Hash (first_columns keys)) inserts

  below_is : below.root ≡ n + length ps
  below_is = l.root_is ∙ adds_count old mid ps l.adds

  part_adds : Adds old p.middle qs
  part_adds =
      let own = sends_adds mid p.middle summed (below.root ∷ []) (plain below.kinds ∷ []) (Hash (first_columns keys)) p.part inserts p.summed p.summed.kinds_are in
      adds_more old mid p.middle ps (full_piece summed ((n + length ps) ∷ []) (Hash (first_columns keys)) inserts ∷ []) l.adds
      (subst (λ m. Adds mid p.middle (full_piece summed (m ∷ []) (Hash (first_columns keys)) inserts ∷ [])) below_is own)

  part_is : p.part.root ≡ n + length qs
  part_is = sends_root mid p.middle summed (below.root ∷ []) (plain below.kinds ∷ []) (Hash (first_columns keys)) p.part p.summed ∙ adds_count old p.middle qs part_adds

  sent : laid.kinds ≡ kinds
  sent = p.merged.kinds_are ∙ ap (group_kinds keys aggs) l.sends

  all_adds : Adds old new (topped n qs merged Forward kinds)
  all_adds =
      let own = sends_adds p.middle new merged (p.part.root ∷ []) partial Forward laid kinds p.merged sent in
      adds_more old p.middle new qs (full_piece merged ((n + length qs) ∷ []) Forward kinds ∷ []) part_adds
      (subst (λ m. Adds p.middle new (full_piece merged (m ∷ []) Forward kinds ∷ [])) part_is own)

  phases_lays : Lays old new Forward (One (group_by keys aggs) input) laid
  phases_lays =
      let op_is : group_op old.mini_batch keys aggs ≡ merged = ap (λ (b : Bundles). group_op b.size keys aggs) (sym l.adds.bundles) ∙ bundled (bundles_of mid) keys aggs below.kinds taken in
      let whole : Adds old new (topped n qs (group_op old.mini_batch keys aggs) Forward kinds) = subst (λ (o : Op). Adds old new (topped n qs o Forward kinds)) (sym op_is) all_adds in
      let held = local_before old mid Forward (group_by keys aggs) input below l ∙ ap (λ t. cond t (Some summed) None) taken in
      record {
        adds = subst (λ (local : Option Op). Adds old new (one_pieces n (bundles_of old) (group_by keys aggs) local (λ asks. pieces_of old.sources (bundles_of old) (length old.nodes) asks input) Forward kinds)) (sym held) whole;
        root_is = sends_root p.middle new merged (p.part.root ∷ []) partial Forward laid p.merged;
        sends = sent;
        tables = l.tables;
      }

-- ---- over any input

group_tops : (mid new : Laying) (below laid : Laid) (local o : Op) (keys : ℕ) (aggs : List Agg) (input : Rel) (t : Bool) → in_phases (bundles_of mid) keys aggs below.kinds ≡ t → cond t (Some (op.LocalGroup keys aggs)) None ≡ Some local
    → o ≡ group_op mid.mini_batch keys aggs → Phased mid new below local o laid → Tops mid new below (One (group_by keys aggs) input) laid
group_tops mid new below laid local o keys aggs input true taken found is p =
    let local_same : local ≡ op.LocalGroup keys aggs = cc (found) in
    let same : o ≡ op.BatchGroup keys aggs = is ∙ bundled (bundles_of mid) keys aggs below.kinds taken in
    let own = subst (λ (q : Op). Phased mid new below (op.LocalGroup keys aggs) q laid) same (subst (λ (q : Op). Phased mid new below q o laid) local_same p) in
    record { tops = λ old l. phases_lays old mid new keys aggs input below laid l taken own }
group_tops mid new below laid local o keys aggs input false taken found is p = absurd (cc)

found_tops : (mid new : Laying) (below laid : Laid) (local o : Op) (how : Unary) (input : Rel) → local_below (bundles_of mid) how below.kinds ≡ Some local → o ≡ (unary_way how).op mid.mini_batch → Phased mid new below local o laid
    → Tops mid new below (One how input) laid
found_tops mid new below laid local o (group_by keys aggs) input found is p = group_tops mid new below laid local o keys aggs input (in_phases (bundles_of mid) keys aggs below.kinds) refl found is p
found_tops mid new below laid local o (filter_by condition) input found is p = absurd (cc)
found_tops mid new below laid local o (project_on items) input found is p = absurd (cc)
found_tops mid new below laid local o (rank_in partition order bound ranked) input found is p = absurd (cc)

pub phases_tops : (mid new : Laying) (below laid : Laid) (local o : Op) → local_of mid.two_phase o below.kinds ≡ Some local → Phased mid new below local o laid → (how : Unary) (input : Rel) → o ≡ (unary_way how).op mid.mini_batch
    → Tops mid new below (One how input) laid
phases_tops mid new below laid local o found p how input is = found_tops mid new below laid local o how input (local_found mid o how below.kinds (Some local) is found) is p
