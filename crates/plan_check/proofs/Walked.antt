-- Loops over nodes and over the inputs of chains, as far as they have come.
use Rattle.std.proofs.Common.{◌≡◌, ℕ, suc, ◌+◌, ◌<◌, ◌≤◌, ◌==◌, false, List, [], ◌∷◌, ◌++◌, length, map, drop, get_or, Option, Some, None, refl, sym, ap, ◌∙◌, arith}
use Rattle.std.proofs.lemmas.Bool.{eqb-false}
use Rattle.std.proofs.lemmas.List.{at_drop_more, drop_all}
use Rattle.ct_catalog.specs.declared.table.TableDef.{TableDef}
use Rattle.ct_value.specs.declared.ty.ColTy.{ColTy}
use Rattle.phys_plan.specs.declared.node.Node.{Node}
use Rattle.rel_algebra.specs.declared.join.Pair.{Pair}
use Rattle.plan_check.specs.declared.chains.Chain.{Chain}
use Rattle.plan_check.specs.Chains.{begun, chain_columns, ended, longer}
use Rattle.plan_check.specs.Types.{next_types, types_after}

-- ---- one node behind the other

pub after-more : (sources : List TableDef) (done : List (Option (List ColTy))) (nodes : List Node) (i : ℕ) (node : Node) → i < length nodes → node ≡ get_or nodes i node
    → types_after sources done (drop i nodes) ≡ types_after sources (done ++ next_types sources done node ∷ []) (drop (i + 1) nodes)
after-more sources done nodes i node l h =
    at_drop_more (types_after sources done) nodes i node l
    ∙ ap (λ (x : Node). types_after sources (done ++ next_types sources done x ∷ []) (drop (i + 1) nodes)) (sym h)

pub after-end : (sources : List TableDef) (done : List (Option (List ColTy))) (nodes : List Node) (i : ℕ) → length nodes ≤ i → types_after sources done (drop i nodes) ≡ done
after-end sources done nodes i l = ap (types_after sources done) (drop_all i nodes l)

-- ---- chains

abbrev pub Found : Type 0
Found = List (Option (List ColTy))

-- there is an input more for each list, else there are no columns
pub uneven-ended : (chain : Option Chain) (on : List (List Pair)) (inputs : Found) → (length inputs ≡ length on → ⊥) → ended chain on inputs ≡ None
uneven-ended None on inputs h = refl
uneven-ended (Some chain) [] [] h = absurd (h refl)
uneven-ended (Some chain) [] (input ∷ inputs) h = refl
uneven-ended (Some chain) (pairs ∷ on) [] h = refl
uneven-ended (Some chain) (pairs ∷ on) (input ∷ inputs) h = uneven-ended (longer chain pairs input) on inputs (λ e. h (ap suc e))

length-map : (f : ℕ → Option (List ColTy)) (xs : List ℕ) → length (map f xs) ≡ length xs
length-map f [] = refl
length-map f (x ∷ xs) = ap suc (length-map f xs)

not-begun : (on : List (List Pair)) → ended (begun on []) on [] ≡ None
not-begun [] = refl
not-begun (pairs ∷ on) = refl

pub uneven-columns : (f : ℕ → Option (List ColTy)) (on : List (List Pair)) (inputs : List ℕ) → (length inputs == length on + 1) ≡ false → chain_columns on (map f inputs) ≡ None
uneven-columns f on [] e = not-begun on
uneven-columns f on (input ∷ inputs) e = uneven-ended (begun on (map f (input ∷ inputs))) on (map f inputs) apart
  where
    apart : length (map f inputs) ≡ length on → ⊥
    apart h =
        let l : length (map f inputs) ≡ length inputs = length-map f inputs in
        let n : suc (length inputs) ≡ length on + 1 = omega (arith, h, l) in
        eqb-false (suc (length inputs)) (length on + 1) e n
