-- Several trees, laid one behind the other.
use Rattle.std.specs.Prelude.{◌≡◌, ℕ, ◌+◌, ◌<◌, ◌≤◌, ◌||◌, List, ◌++◌, length, map, take, get_or, slice_get}
use Rattle.std.proofs.Common.{zero, suc, true, false, [], ◌∷◌, refl, sym, ap, subst, ◌∙◌, arith, Bool, Some, length-append}
use Rattle.std.proofs.lemmas.List.{append-nil, append_assoc, map-append, take_more, take_all}
use Rattle.ct_catalog.specs.declared.table.TableDef.{TableDef}
use Rattle.rel_algebra.specs.declared.rel.Rel.{Rel as Tree}
use Rattle.rel_algebra.specs.Rel.{Rel, rels}
use Rattle.rel_algebra.specs.View.{rel_view, rels_view}
use Rattle.phys_plan.specs.declared.edge.Exchange.TheVariants.{Forward}
use Rattle.ct_change.specs.declared.kind.KindSet.{KindSet}
use Rattle.mode_infer.specs.declared.kinds.Flow.{Flow}
use Rattle.mode_infer.specs.Kinds.{plain, sent_of}
use Rattle.plan_rules.specs.Phases.{Bundles}
use Rattle.plan_rules.specs.TreeKinds.{tree_kinds, trees_kinds}
use Rattle.plan_rules.specs.Pieces.{Piece, pieces_of, pieces_of_all, roots_of}
use Rattle.plan_laying.specs.declared.laying_fault.LayingFault.{LayingFault}
use Rattle.plan_laying.specs.declared.laying_fault.LayingFault.TheVariants.{NoTable, Memory}
use Rattle.plan_laying.specs.declared.laying.Laid.{Laid}
use Rattle.plan_laying.specs.declared.laying.Laying.{Laying}
use Rattle.plan_laying.specs.Faults.{lacks_table, any_lacks}
use Rattle.plan_laying.specs.Laying.{bundles_of, Adds, Lays, LaysAll, Fails, FailsAll}
use Rattle.plan_laying.proofs.laws.Laid.{adds_behind, adds_count, adds_more}

-- ---- one tree more

or_not : (a b : Bool) → a ≡ false → b ≡ false → (a || b) ≡ false
or_not a b p q = ap (λ x. x || b) p ∙ q

left_not : (a b : Bool) → (a || b) ≡ false → a ≡ false
left_not true b e = absurd (cc)
left_not false b e = refl

right_not : (a b : Bool) → (a || b) ≡ false → b ≡ false
right_not true b e = absurd (cc)
right_not false b e = e

tables_behind : (sources : List TableDef) (xs : List Rel) (x : Rel) → any_lacks sources (rels xs) ≡ false → lacks_table sources x ≡ false → any_lacks sources (rels (xs ++ x ∷ [])) ≡ false
tables_behind sources [] x all one = or_not (lacks_table sources x) false one refl
tables_behind sources (y ∷ xs) x all one =
    or_not (lacks_table sources y) (any_lacks sources (rels (xs ++ x ∷ []))) (left_not (lacks_table sources y) (any_lacks sources (rels xs)) all)
    (tables_behind sources xs x (right_not (lacks_table sources y) (any_lacks sources (rels xs)) all) one)

-- the pieces of a tree more, and its root
module _ (sources : List TableDef) (b : Bundles) (x : Rel) where
  -- where they begin
  abbrev next : ℕ → List Rel → ℕ
  next n xs = n + length (pieces_of_all sources b n (rels xs))

  more_pieces : (n : ℕ) (xs : List Rel) → pieces_of_all sources b n (rels (xs ++ x ∷ [])) ≡ pieces_of_all sources b n (rels xs) ++ pieces_of sources b (next n xs) Forward x
  more_pieces n [] =
      let none : n ≡ n + 0 = omega arith in
      append-nil (pieces_of sources b n Forward x) ∙ ap (λ m. pieces_of sources b m Forward x) none
  more_pieces n (y ∷ xs) =
      let ps = pieces_of sources b n Forward y in
      let mid : ℕ = n + length (pieces_of sources b n Forward y) in
      let qs = pieces_of_all sources b (n + length (pieces_of sources b n Forward y)) (rels xs) in
      let same : mid + length qs ≡ n + length (ps ++ qs) = omega (arith, length-append ps qs) in
      ap (λ (rest : List Piece). ps ++ rest) (more_pieces mid xs ∙ ap (λ m. qs ++ pieces_of sources b m Forward x) same) ∙ sym (append_assoc ps qs (pieces_of sources b (n + length (ps ++ qs)) Forward x))

  more_roots : (n : ℕ) (xs : List Rel) → roots_of sources b n (rels (xs ++ x ∷ [])) ≡ roots_of sources b n (rels xs) ++ (next n xs + length (pieces_of sources b (next n xs) Forward x)) ∷ []
  more_roots n [] =
      let none : n ≡ n + 0 = omega arith in ap (λ m. (m + length (pieces_of sources b m Forward x)) ∷ []) none
  more_roots n (y ∷ xs) =
      let ps = pieces_of sources b n Forward y in
      let mid : ℕ = n + length (pieces_of sources b n Forward y) in
      let qs = pieces_of_all sources b (n + length (pieces_of sources b n Forward y)) (rels xs) in
      let same : mid + length qs ≡ n + length (ps ++ qs) = omega (arith, length-append ps qs) in
      ap (λ (rest : List ℕ). mid ∷ rest) (more_roots mid xs ∙ ap (λ m. roots_of sources b mid (rels xs) ++ (m + length (pieces_of sources b m Forward x)) ∷ []) same)

-- and what it sends
more_kinds : (sources : List TableDef) (xs : List Rel) (x : Rel) (flows : List Flow) (kinds : KindSet) → map sent_of flows ≡ trees_kinds sources (rels xs) → kinds ≡ tree_kinds sources x → map sent_of (flows ++ plain kinds ∷ []) ≡ trees_kinds sources (rels (xs ++ x ∷ []))
more_kinds sources xs x flows kinds all one = map-append sent_of flows (plain kinds ∷ []) ∙ (λ i. all i ++ one i ∷ []) ∙ behind xs
  where
    behind : (ys : List Rel) → trees_kinds sources (rels ys) ++ tree_kinds sources x ∷ [] ≡ trees_kinds sources (rels (ys ++ x ∷ []))
    behind [] = refl
    behind (y ∷ ys) = ap (λ ks. tree_kinds sources y ∷ ks) (behind ys)

one_more_lays : (old mid new : Laying) (xs : List Rel) (x : Rel) (roots : List ℕ) (flows : List Flow) (laid : Laid) → LaysAll old mid (rels xs) roots flows → Lays mid new Forward x laid → LaysAll old new (rels (xs ++ x ∷ [])) (roots ++ laid.root ∷ []) (flows ++ plain laid.kinds ∷ [])
one_more_lays old mid new xs x roots flows laid all l =
    let n = length old.nodes in
    let ps = pieces_of_all old.sources (bundles_of old) (length old.nodes) (rels xs) in
    let qs = pieces_of old.sources (bundles_of old) (length old.nodes + length (pieces_of_all old.sources (bundles_of old) (length old.nodes) (rels xs))) Forward x in
    let count : length mid.nodes ≡ n + length ps = adds_count old mid ps all.adds in
    let behind : Adds mid new qs = adds_behind old mid new (n + length ps) Forward x laid all.adds.sources all.adds.bundles count l in
    let root_is : laid.root ≡ n + length ps + length qs = l.root_is ∙ adds_count mid new qs behind ∙ ap (λ k. k + length qs) count in
    record {
      adds = subst (λ (pieces : List Piece). Adds old new pieces) (sym (more_pieces old.sources (bundles_of old) x n xs)) (adds_more old mid new ps qs all.adds behind);
      roots_are = (λ i. all.roots_are i ++ root_is i ∷ []) ∙ sym (more_roots old.sources (bundles_of old) x n xs);
      send = more_kinds old.sources xs x flows laid.kinds all.send (l.sends ∙ ap (λ (s : List TableDef). tree_kinds s x) all.adds.sources);
      tables = tables_behind old.sources xs x all.tables (subst (λ (s : List TableDef). lacks_table s x ≡ false) all.adds.sources l.tables);
    }

-- ---- one that isn't laid

or_right : (a b : Bool) → b ≡ true → (a || b) ≡ true
or_right true b e = refl
or_right false b e = e

or_left : (a b : Bool) → a ≡ true → (a || b) ≡ true
or_left true b e = refl
or_left false b e = absurd (cc)

lacks_at : (sources : List TableDef) (xs : List Rel) (p : ℕ) (x : Rel) → slice_get xs p ≡ Some x → lacks_table sources x ≡ true → any_lacks sources (rels xs) ≡ true
lacks_at sources [] p x e f = absurd (cc)
lacks_at sources (y ∷ xs) zero x e f = let same : y ≡ x = cc in or_left (lacks_table sources y) (any_lacks sources (rels xs)) (ap (lacks_table sources) same ∙ f)
lacks_at sources (y ∷ xs) (suc p) x e f = or_right (lacks_table sources y) (any_lacks sources (rels xs)) (lacks_at sources xs p x e f)

one_fails : (old mid : Laying) (xs : List Rel) (p : ℕ) (x : Rel) (roots : List ℕ) (flows : List Flow) (fault : LayingFault) → slice_get xs p ≡ Some x → LaysAll old mid (rels (take p xs)) roots flows → Fails mid x fault → FailsAll old (rels xs) fault
one_fails old mid xs p x roots flows NoTable e all f = lacks_at old.sources xs p x e (subst (λ (s : List TableDef). lacks_table s x ≡ true) all.adds.sources f)
one_fails old mid xs p x roots flows Memory e all f = tt

-- ---- the code's trees

viewed_behind : (xs : List Tree) (x : Tree) → rels_view (xs ++ x ∷ []) ≡ rels_view xs ++ rel_view x ∷ []
viewed_behind [] x = refl
viewed_behind (y ∷ xs) x = ap (λ l. rel_view y ∷ l) (viewed_behind xs x)

viewed_at : (xs : List Tree) (i : ℕ) (x : Tree) → i < length xs → x ≡ get_or xs i x → slice_get (rels_view xs) i ≡ Some (rel_view x)
viewed_at [] i x l e = absurd (omega arith)
viewed_at (y ∷ xs) zero x l e = ap (λ z. Some (rel_view z)) (sym e)
viewed_at (y ∷ xs) (suc i) x l e = viewed_at xs i x (omega arith) e

viewed_front : (xs : List Tree) (i : ℕ) → rels_view (take i xs) ≡ take i (rels_view xs)
viewed_front [] zero = refl
viewed_front [] (suc i) = refl
viewed_front (y ∷ xs) zero = refl
viewed_front (y ∷ xs) (suc i) = ap (λ l. rel_view y ∷ l) (viewed_front xs i)

pub turn_lays : (old mid new : Laying) (inputs : List Tree) (i : ℕ) (x : Tree) (roots next : List ℕ) (flows more : List Flow) (laid : Laid) → i < length inputs → x ≡ get_or inputs i x → LaysAll old mid (rels (rels_view (take i inputs))) roots flows
    → Lays mid new Forward (rel_view x) laid → next ≡ roots ++ laid.root ∷ [] → more ≡ flows ++ plain laid.kinds ∷ [] → LaysAll old new (rels (rels_view (take (i + 1) inputs))) next more
turn_lays old mid new inputs i x roots next flows more laid l e all one is sent =
    let taken : take (i + 1) inputs ≡ take i inputs ++ x ∷ [] = take_more inputs i x l ∙ ap (λ y. take i inputs ++ y ∷ []) (sym e) in
    let viewed : rels_view (take (i + 1) inputs) ≡ rels_view (take i inputs) ++ rel_view x ∷ [] = ap rels_view taken ∙ viewed_behind (take i inputs) x in
    let behind = one_more_lays old mid new (rels_view (take i inputs)) (rel_view x) roots flows laid all one in
    subst (λ (xs : List Rel). LaysAll old new (rels xs) next more) (sym viewed)
    (subst (λ (fs : List Flow). LaysAll old new (rels (rels_view (take i inputs) ++ rel_view x ∷ [])) next fs) (sym sent)
    (subst (λ (ro : List ℕ). LaysAll old new (rels (rels_view (take i inputs) ++ rel_view x ∷ [])) ro (flows ++ plain laid.kinds ∷ [])) (sym is) behind))

pub turn_fails : (old mid : Laying) (inputs : List Tree) (i : ℕ) (x : Tree) (roots : List ℕ) (flows : List Flow) (fault : LayingFault) → i < length inputs → x ≡ get_or inputs i x → LaysAll old mid (rels (rels_view (take i inputs))) roots flows
    → Fails mid (rel_view x) fault → FailsAll old (rels (rels_view inputs)) fault
turn_fails old mid inputs i x roots flows fault l e all fails =
    one_fails old mid (rels_view inputs) i (rel_view x) roots flows fault (viewed_at inputs i x l e) (subst (λ (xs : List Rel). LaysAll old mid (rels xs) roots flows) (viewed_front inputs i) all) fails

pub all_laid : (old new : Laying) (inputs : List Tree) (i : ℕ) (roots : List ℕ) (flows : List Flow) → length inputs ≤ i → LaysAll old new (rels (rels_view (take i inputs))) roots flows → LaysAll old new (rels (rels_view inputs)) roots flows
all_laid old new inputs i roots flows l all = subst (λ (xs : List Tree). LaysAll old new (rels (rels_view xs)) roots flows) (take_all i inputs l) all
