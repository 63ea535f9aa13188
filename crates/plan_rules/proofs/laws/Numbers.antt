-- What is read up of nodes, by their numbers: each entry is made of those of the node's inputs, where these have smaller numbers.
use Rattle.std.proofs.Common.{◌≡◌, ℕ, zero, suc, ◌+◌, ◌<◌, ◌≤◌, List, [], ◌∷◌, ◌++◌, length, map, slice_get, slice_index_or, Some, option_map, refl, sym, ap, ◌∙◌, arith, append_assoc, append-nil, length-append}
use Rattle.std.specs.Option.{unwrap_or}
use Rattle.std.proofs.lemmas.Option.{slice_get-map}
use Rattle.phys_plan.specs.Reading.{Wire, at, numbered, read_up, wire, wires}
use Rattle.phys_plan.specs.declared.node.Node.{Node}

-- ---- lists

pub get_more : {A : Type 0} (xs ys : List A) (i : ℕ) (x : A) → slice_get xs i ≡ Some x → slice_get (xs ++ ys) i ≡ Some x
get_more [] ys i x e = absurd (cc)
get_more (y ∷ xs) ys zero x e = e
get_more (y ∷ xs) ys (suc i) x e = get_more xs ys i x e

pub get_at : {A : Type 0} (xs ys : List A) (x : A) → slice_get (xs ++ x ∷ ys) (length xs) ≡ Some x
get_at [] ys x = refl
get_at (y ∷ xs) ys x = get_at xs ys x

pub get_below : {A : Type 0} (xs : List A) (i : ℕ) → i < length xs → (x : A) × (slice_get xs i ≡ Some x)
get_below [] i l = absurd (omega arith)
get_below (x ∷ xs) zero l = (x, refl)
get_below (x ∷ xs) (suc i) l = get_below xs i (omega arith)

get_within : {A : Type 0} (xs : List A) (i : ℕ) (x : A) → slice_get xs i ≡ Some x → i < length xs
get_within [] i x e = absurd (cc)
get_within (y ∷ xs) zero x e = omega arith
get_within (y ∷ xs) (suc i) x e = omega (arith, get_within xs i x e)

pub numbered_below : {A : Type 0} (xs : List A) (u : ℕ) → 0 < u → u ≤ length xs → (x : A) × (numbered xs u ≡ Some x)
numbered_below xs zero p l = absurd (omega arith)
numbered_below xs (suc u) p l = get_below xs u l

pub numbered_within : {A : Type 0} (xs : List A) (v : ℕ) (x : A) → numbered xs v ≡ Some x → (0 < v) × (v ≤ length xs)
numbered_within xs zero x e = absurd (cc)
numbered_within xs (suc v) x e = (omega arith, get_within xs v x e)

pub index_there : (xs : List ℕ) (p : ℕ) → p < length xs → slice_get xs p ≡ Some (slice_index_or xs p 0)
index_there [] p l = absurd (omega arith)
index_there (x ∷ xs) zero l = refl
index_there (x ∷ xs) (suc p) l = index_there xs p (omega arith)

-- functions that agree at each number of a list make the same of it
pub map_same : {A : Type 0} (f g : ℕ → A) (xs : List ℕ) → ((p : ℕ) → p < length xs → f (slice_index_or xs p 0) ≡ g (slice_index_or xs p 0)) → map f xs ≡ map g xs
map_same f g [] h = refl
map_same f g (x ∷ xs) h = λ i. h 0 (omega arith) i ∷ map_same f g xs (λ p l. h (suc p) (omega arith)) i

-- ---- read up

module _ {B : Type 0} (f : Wire → List B → B) (d : B) where
  abbrev step : List B → Wire → B
  step done w = f w (map (at d done) w.inputs)

  read_extends : (done : List B) (ws : List Wire) → (made : List B) × (read_up f d done ws ≡ done ++ made)
  read_extends done [] = ([], sym (append-nil done))
  read_extends done (w ∷ ws) =
      let rest = read_extends (done ++ step done w ∷ []) ws in
      (step done w ∷ rest.0, rest.1 ∙ append_assoc done (step done w ∷ []) rest.0)

  -- an entry is made of the entries before it
  made_at : (done : List B) (ws : List Wire) (i : ℕ) (w : Wire) → slice_get ws i ≡ Some w → (before after : List B) × (read_up f d done ws ≡ before ++ step before w ∷ after) × (length before ≡ length done + i)
  made_at done [] i w e = absurd (cc)
  made_at done (other ∷ ws) zero w e =
      let same : other ≡ w = cc in
      let rest = read_extends (done ++ step done other ∷ []) ws in
      (done, rest.0, rest.1 ∙ append_assoc done (step done other ∷ []) rest.0 ∙ ap (λ x. done ++ step done x ∷ rest.0) same, omega arith)
  made_at done (other ∷ ws) (suc i) w e =
      let rest = made_at (done ++ step done other ∷ []) ws i w e in
      (rest.0, rest.1, rest.2, omega (arith, rest.3, length-append done (step done other ∷ [])))

  get_before : (xs ys : List B) (u : ℕ) → u < length xs → unwrap_or (slice_get (xs ++ ys) u) d ≡ unwrap_or (slice_get xs u) d
  get_before xs ys u l = let there = get_below xs u l in ap (λ o. unwrap_or o d) (get_more xs ys u there.0 there.1 ∙ sym there.1)

  same_before : (xs ys : List B) (u : ℕ) → u ≤ length xs → at d (xs ++ ys) u ≡ at d xs u
  same_before xs ys zero l = refl
  same_before xs ys (suc u) l = get_before xs ys u l

  module _ (nodes : List Node) where
    abbrev table : List B
    table = read_up f d [] (wires nodes)

    -- that of a node goes by those of its inputs
    pub read_at : (v : ℕ) (node : Node) → numbered nodes v ≡ Some node → ((p : ℕ) → p < length node.inputs → slice_index_or node.inputs p 0 < v) → at d table v ≡ f (wire node) (map (at d table) node.inputs)
    read_at zero node e lower = absurd (cc)
    read_at (suc v) node e lower =
        let made = made_at [] (wires nodes) v (wire node) (slice_get-map wire nodes v ∙ ap (option_map wire) e) in
        let size : length made.0 ≡ v = omega (arith, made.3) in
        ap (λ l. at d l (suc v)) made.2
        ∙ ap (λ n. unwrap_or (slice_get (made.0 ++ step made.0 (wire node) ∷ made.1) n) d) (sym size)
        ∙ ap (λ o. unwrap_or o d) (get_at made.0 made.1 (step made.0 (wire node)))
        ∙ ap (f (wire node)) (map_same (at d made.0) (at d table) node.inputs
        (λ p l. sym (same_before made.0 (step made.0 (wire node) ∷ made.1) (slice_index_or node.inputs p 0) (omega (arith, size, lower p l))) ∙ ap (λ t. at d t (slice_index_or node.inputs p 0)) (sym made.2)))
