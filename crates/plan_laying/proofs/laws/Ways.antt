-- How a tree is laid on the way up its first inputs.
use Rattle.std.specs.Prelude.{◌≡◌, ◌+◌, ◌<◌, List, ◌++◌, length, map, Option, option_map}
use Rattle.std.specs.Borrow.{Bor}
use Rattle.std.proofs.Common.{true, [], ◌∷◌, refl, sym, ap, subst, ◌∙◌, arith, Some, None}
use Rattle.std.proofs.lemmas.Bool.{or_left}
use Rattle.std.proofs.lemmas.List.{append-nil, append_assoc, map-append}
use Rattle.ct_catalog.specs.declared.table.TableDef.{TableDef}
use Rattle.rel_algebra.specs.declared.rel.Rel.{Rel as CodeRel}
use Rattle.rel_algebra.specs.Rel.{Rel, Scan, One, Two, Many}
use Rattle.phys_plan.specs.declared.edge.Exchange.TheVariants.{Forward}
use Rattle.plan_laying.specs.declared.laying_fault.LayingFault.{LayingFault}
use Rattle.plan_laying.specs.declared.laying_fault.LayingFault.TheVariants.{NoTable, Memory}
use Rattle.plan_laying.specs.declared.laying.Laid.{Laid}
use Rattle.plan_laying.specs.declared.laying.Laying.{Laying}
use Rattle.plan_laying.specs.Faults.{lacks_table}
use Rattle.plan_laying.specs.Laying.{Lays, Fails, Begun, Tops}
use Rattle.plan_laying.specs.Ways.{first_input, seen, way_of}

-- ---- the way down

abbrev pub rest_of : Option Rel → List Rel
rest_of None = []
rest_of (Some top) = way_of top

pub way_is : (rel : Rel) → way_of rel ≡ rel ∷ rest_of (first_input rel)
way_is (Scan source) = refl
way_is (One how input) = refl
way_is (Two how left right) = refl
way_is (Many inputs) = refl

-- one is put behind others, or taken from behind them
pub viewed_behind : (whole others : List (Bor CodeRel)) (last : Bor CodeRel) → whole ≡ others ++ last ∷ [] → map seen whole ≡ map seen others ++ seen last ∷ []
viewed_behind whole others last is = ap (map seen) is ∙ map-append seen others (last ∷ [])

-- a tree more is taken down
pub step_down : (whole : List Rel) (way longer : List (Bor CodeRel)) (next input : Option (Bor CodeRel)) (top : Bor CodeRel) → whole ≡ map seen way ++ rest_of (option_map seen next) → next ≡ Some top
    → option_map seen input ≡ first_input (seen top) → longer ≡ way ++ top ∷ [] → whole ≡ map seen longer ++ rest_of (option_map seen input)
step_down whole way longer next input top e there is taken =
    let rest = rest_of (option_map seen input) in
    e ∙ ap (λ (o : Option (Bor CodeRel)). map seen way ++ rest_of (option_map seen o)) there
    ∙ ap (λ (ts : List Rel). map seen way ++ ts) (way_is (seen top) ∙ ap (λ (o : Option Rel). seen top ∷ rest_of o) (sym is)) ∙ sym (append_assoc (map seen way) (seen top ∷ []) rest)
    ∙ ap (λ (ts : List Rel). ts ++ rest) (sym (viewed_behind longer way top taken))

-- so fewer are left
pub step_shorter : (top : Bor CodeRel) (input : Option (Bor CodeRel)) → option_map seen input ≡ first_input (seen top) → length (rest_of (option_map seen input)) < length (rest_of (Some (seen top)))
step_shorter top input is =
    let all : length (rest_of (Some (seen top))) ≡ length (seen top ∷ rest_of (first_input (seen top))) = ap length (way_is (seen top)) in
    let rest : length (rest_of (first_input (seen top))) ≡ length (rest_of (option_map seen input)) = ap (λ (o : Option Rel). length (rest_of o)) (sym is) in
    omega (arith, all, rest)

-- where none is left, all are taken
pub down_ends : (whole way : List Rel) → whole ≡ way ++ rest_of None → way ≡ whole
down_ends whole way e = sym (e ∙ append-nil way)

-- ---- the way up

not_none : {A : Type 0} (xs : List A) (y : A) (zs : List A) → [] ≡ xs ++ y ∷ zs → ⊥
not_none [] y zs e = cc
not_none (x ∷ xs) y zs e = cc

first_same : {A : Type 0} (x y : A) (xs ys : List A) → x ∷ xs ≡ y ∷ ys → x ≡ y
first_same x y xs ys e = cc

others_same : {A : Type 0} (x y : A) (xs ys : List A) → x ∷ xs ≡ y ∷ ys → xs ≡ ys
others_same x y xs ys e = cc

-- behind a tree on the way stands the way from its first input
behind : (rest : List Rel) (rel top : Rel) (done : List Rel) → way_of rel ≡ rest ++ top ∷ done → rest_of (first_input top) ≡ done
behind [] rel top done e =
    let here = sym (way_is rel) ∙ e in
    ap (λ (t : Rel). rest_of (first_input t)) (sym (first_same rel top (rest_of (first_input rel)) done here)) ∙ others_same rel top (rest_of (first_input rel)) done here
behind (a ∷ rest) (Scan source) top done e = absurd (not_none rest top done (others_same _ _ _ _ e))
behind (a ∷ rest) (One how input) top done e = behind rest input top done (others_same _ _ _ _ e)
behind (a ∷ rest) (Two how left right) top done e = behind rest left top done (others_same _ _ _ _ e)
behind (a ∷ rest) (Many inputs) top done e = absurd (not_none rest top done (others_same _ _ _ _ e))

-- what such a tree lacks, the whole lacks
lacks : (sources : List TableDef) (rest : List Rel) (rel top : Rel) (done : List Rel) → way_of rel ≡ rest ++ top ∷ done → lacks_table sources top ≡ true → lacks_table sources rel ≡ true
lacks sources [] rel top done e f = ap (λ (t : Rel). lacks_table sources t) (first_same rel top (rest_of (first_input rel)) done (sym (way_is rel) ∙ e)) ∙ f
lacks sources (a ∷ rest) (Scan source) top done e f = absurd (not_none rest top done (others_same _ _ _ _ e))
lacks sources (a ∷ rest) (One how input) top done e f = lacks sources rest input top done (others_same _ _ _ _ e) f
lacks sources (a ∷ rest) (Two how left right) top done e f = or_left (lacks_table sources left) (lacks_table sources right) (lacks sources rest left top done (others_same _ _ _ _ e) f)
lacks sources (a ∷ rest) (Many inputs) top done e f = absurd (not_none rest top done (others_same _ _ _ _ e))

-- of these trees the first is laid, up to this node
abbrev pub Reached : Laying → Laying → Laid → List Rel → Type 0
Reached old now root [] = old ≡ now
Reached old now root (top ∷ done) = Lays old now Forward top root

reached_sources : (old now : Laying) (root : Laid) (done : List Rel) → Reached old now root done → now.sources ≡ old.sources
reached_sources old now root [] r = ap (λ (l : Laying). l.sources) (sym r)
reached_sources old now root (top ∷ done) r = r.adds.sources

-- some trees of a way are left to be laid, and the first of the others is
pub record Upward (old now : Laying) (root : Laid) (rel : Rel) (left : List Rel) : Type 0 where
  pub done : List Rel
  pub parts : way_of rel ≡ left ++ done
  pub reached : Reached old now root done

pub up_begins : (l : Laying) (root : Laid) (rel : Rel) (way : List Rel) → way ≡ way_of rel → Upward l l root rel way
up_begins l root rel way is = record { done = []; parts = sym (append-nil way ∙ is); reached = refl }

begun : (old mid : Laying) (below : Laid) (rel : Rel) (done : List Rel) → rest_of (first_input rel) ≡ done → Reached old mid below done → Begun old mid below rel
begun old mid below (Scan source) done e r = subst (Reached old mid below) (sym e) r
begun old mid below (One how input) done e r = subst (Reached old mid below) (way_is input) (subst (Reached old mid below) (sym e) r)
begun old mid below (Two how left right) done e r = subst (Reached old mid below) (way_is left) (subst (Reached old mid below) (sym e) r)
begun old mid below (Many inputs) done e r = subst (Reached old mid below) (sym e) r

module _ (old mid : Laying) (below : Laid) (rel : Rel) (left rest : List Rel) (top : Rel) (u : Upward old mid below rel left) (popped : left ≡ rest ++ top ∷ []) where
  parts_at : way_of rel ≡ rest ++ top ∷ u.done
  parts_at = u.parts ∙ ap (λ (ts : List Rel). ts ++ u.done) popped ∙ append_assoc rest (top ∷ []) u.done

  -- one more is laid
  pub step_up : (new : Laying) (root : Laid) → Tops mid new below top root → Upward old new root rel rest
  step_up new root t =
      let l = t.tops old (begun old mid below top u.done (behind rest rel top u.done parts_at) u.reached) in
      record { done = top ∷ u.done; parts = parts_at; reached = l }

  pub up_fails : (fault : LayingFault) → Fails mid top fault → Fails old rel fault
  up_fails NoTable f = lacks old.sources rest rel top u.done parts_at (subst (λ (sources : List TableDef). lacks_table sources top ≡ true) (reached_sources old mid below u.done u.reached) f)
  up_fails Memory f = tt

-- all are
pub up_ends : (old new : Laying) (root : Laid) (rel : Rel) (left : List Rel) → left ≡ [] → Upward old new root rel left → Lays old new Forward rel root
up_ends old new root rel left none u = subst (Reached old new root) (sym (u.parts ∙ ap (λ (ts : List Rel). ts ++ u.done) none) ∙ way_is rel) u.reached
