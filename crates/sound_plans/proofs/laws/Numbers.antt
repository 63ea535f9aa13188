-- Lists by number, and the columns of nodes by their numbers.
use Rattle.std.specs.Prelude.{◌≡◌, ℕ, ◌<◌, ◌≤◌, ◌⊎◌, ◌==◌, List, length, map, slice_get, slice_index_or, Option, option_and_then}
use Rattle.std.proofs.Common.{zero, suc, true, false, [], ◌∷◌, refl, subst, arith, Some, None, inl, inr}
use Rattle.std.specs.List.{AllByRecursion}
use Rattle.std.proofs.lemmas.Bool.{eqb-true}
use Rattle.ct_catalog.specs.declared.table.TableDef.{TableDef}
use Rattle.phys_plan.specs.declared.node.Node.{Node}
use Rattle.phys_plan.specs.Reading.{numbered}
use Rattle.plan_rules.specs.Columns.{columns_by, node_columns}
use Rattle.plan_rules.proofs.laws.Answering.{columns_made as made_of}

-- ---- what is there

pub the_same : {A : Type 0} (a b : A) → Some a ≡ Some b → a ≡ b
the_same a b e = cc

pub then_parts : {A B : Type 0} (f : A → Option B) (o : Option A) (b : B) → option_and_then f o ≡ Some b → (a : A) × (o ≡ Some a) × (f a ≡ Some b)
then_parts f None b e = absurd (cc)
then_parts f (Some a) b e = (a, refl, e)

pub all-map : {A : Type 0} (P Q : A → Type 0) → ((x : A) → P x → Q x) → (xs : List A) → AllByRecursion P xs → AllByRecursion Q xs
all-map P Q f [] h = tt
all-map P Q f (x ∷ xs) h = (f x h.0, all-map P Q f xs h.1)

pub all_at : {A : Type 0} (P : A → Type 0) (xs : List A) → AllByRecursion P xs → (n : ℕ) (x : A) → slice_get xs n ≡ Some x → P x
all_at P [] h n x e = absurd (cc)
all_at P (y ∷ xs) h zero x e = subst P (the_same y x e) h.0
all_at P (y ∷ xs) h (suc n) x e = all_at P xs h.1 n x e

-- ---- numbers

pub side : (v mid : ℕ) → (v ≤ mid) ⊎ (mid < v)
side zero mid = inl (omega arith)
side (suc v) zero = inr (omega arith)
side (suc v) (suc mid) = elim (side v mid) [ inl h ↦ inl (omega arith) | inr h ↦ inr (omega arith) ]

pub below_is_not : (e n : ℕ) → e < n → (e == n) ≡ false
below_is_not e n l = elim (e == n) as (λ b. (e == n) ≡ b → b ≡ false) [ true ↦ λ s. absurd (let k = eqb-true e n s in omega arith) | false ↦ λ s. refl ] refl

pub within : {A : Type 0} (xs : List A) (n : ℕ) (x : A) → slice_get xs n ≡ Some x → n < length xs
within [] n x e = absurd (cc)
within (y ∷ xs) zero x e = omega arith
within (y ∷ xs) (suc n) x e = omega (arith, within xs n x e)

pub numbered_within : {A : Type 0} (xs : List A) (v : ℕ) (x : A) → numbered xs v ≡ Some x → (0 < v) × (v ≤ length xs)
numbered_within xs zero x e = absurd (cc)
numbered_within xs (suc n) x e = (omega arith, omega (arith, within xs n x e))

pub index_at : (xs : List ℕ) (n : ℕ) → n < length xs → slice_get xs n ≡ Some (slice_index_or xs n 0)
index_at [] n l = absurd (omega arith)
index_at (x ∷ xs) zero l = refl
index_at (x ∷ xs) (suc n) l = index_at xs n (omega arith)

-- ---- columns

-- the columns of a node are made of those of its inputs
pub columns_made : (sources : List TableDef) (nodes : List Node) (v : ℕ) (node : Node) → numbered nodes v ≡ Some node → AllByRecursion (λ input. input < v) node.inputs
    → node_columns sources nodes v ≡ columns_by sources node.op (map (node_columns sources nodes) node.inputs)
columns_made sources nodes v node e b =
    made_of sources nodes v node e (λ p l. all_at (λ input. input < v) node.inputs b p (slice_index_or node.inputs p 0) (index_at node.inputs p l))
