-- Walks over two lists, as far as both go.
use Rattle.std.proofs.Common.{◌≡◌, ℕ, zero, suc, ◌+◌, ◌<◌, ◌≤◌, min, false, cond, List, [], ◌∷◌, length, drop, get_or, refl, ◌∙◌, arith}
use Rattle.std.proofs.lemmas.List.{at_drop_more}
use Rattle.ct_change.specs.declared.kind.Declared.{Declared}
use Rattle.ct_catalog.specs.declared.table.TableDef.{TableDef}
use Rattle.ct_change.specs.declared.update.Update.{Update}
use Rattle.phys_plan.specs.declared.node.Node.{Node}
use Rattle.phys_plan.specs.Reading.{wires}
use Rattle.mode_infer.specs.declared.kinds.Flow.{Flow}
use Rattle.mode_infer.specs.declared.modes.EdgeMode.{EdgeMode}
use Rattle.mode_infer.specs.Kinds.{takes}
use Rattle.mode_infer.specs.Updates.{is_input, port_of, takes_after}
use Rattle.mode_infer.specs.Modes.{modes_of, all_modes}

-- where one of the lists is at its end
ended : {A B C : Type 0} (f : List A → List B → C) (z : C) (xs : List A) (ys : List B) (i : ℕ) → ((ys : List B) → f [] ys ≡ z) → ((x : A) (xs : List A) → f (x ∷ xs) [] ≡ z) → min (length xs) (length ys) ≤ i → f (drop i xs) (drop i ys) ≡ z
ended f z [] ys zero e g h = e ys
ended f z (x ∷ xs) [] zero e g h = g x xs
ended f z (x ∷ xs) (y ∷ ys) zero e g h = absurd (let k : min (suc (length xs)) (suc (length ys)) ≤ 0 = h in omega (arith, k))
ended f z [] ys (suc i) e g h = e (drop (suc i) ys)
ended f z (x ∷ xs) [] (suc i) e g h = none (drop i xs)
  where
    none : (zs : List _) → f zs [] ≡ z
    none [] = e []
    none (w ∷ zs) = g w zs
ended f z (x ∷ xs) (y ∷ ys) (suc i) e g h = ended f z xs ys i e g (let k : min (suc (length xs)) (suc (length ys)) ≤ suc i = h in omega (arith, k))

pub modes_end : (flows : List Flow) (updates : List Update) (i : ℕ) → min (length flows) (length updates) ≤ i → modes_of (drop i flows) (drop i updates) ≡ []
modes_end flows updates i h = ended modes_of [] flows updates i (λ us. refl) (λ f fs. refl) h

pub all_end : (declared : Declared) (modes : List EdgeMode) (nodes : List Node) (own : List EdgeMode) (i : ℕ) → min (length nodes) (length own) ≤ i → all_modes declared modes (wires (drop i nodes)) (drop i own) ≡ []
all_end declared modes nodes own i h = ended (λ ns. all_modes declared modes (wires ns)) [] nodes own i (λ os. refl) (λ n ns. refl) h

pub taken_end : (sink : TableDef) (key : List ℕ) (v : ℕ) (later : List Node) (updates : List Update) (i : ℕ) → min (length later) (length updates) ≤ i → takes_after sink key v (wires (drop i later)) (drop i updates) ≡ false
taken_end sink key v later updates i h = ended (λ ns. takes_after sink key v (wires ns)) false later updates i (λ us. refl) (λ n ns. refl) h

-- one node and its edge more
pub taken_more : (sink : TableDef) (key : List ℕ) (v : ℕ) (later : List Node) (updates : List Update) (i : ℕ) (n : Node) (u : Update) → i < length later → i < length updates → takes_after sink key v (wires (drop i later)) (drop i updates) ≡ cond (is_input v (get_or later i n).inputs) (takes sink (get_or later i n).op (port_of v (get_or later i n).inputs) (get_or updates i u) key) (takes_after sink key v (wires (drop (i + 1) later)) (drop (i + 1) updates))
taken_more sink key v later updates i n u h k =
    at_drop_more (λ ns. takes_after sink key v (wires ns) (drop i updates)) later i n h
    ∙ at_drop_more (λ us. takes_after sink key v (wires (get_or later i n ∷ drop (i + 1) later)) us) updates i u k
