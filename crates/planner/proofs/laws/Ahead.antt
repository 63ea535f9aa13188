-- What is inferred of the first nodes of a plan goes by them alone, and by the exchanges of the edges between them.
use Rattle.std.specs.Prelude.{◌≡◌, ℕ, ◌+◌, ◌<◌, ◌≤◌, List, ◌++◌, length, map, slice_get, Option, option_map, unwrap_or}
use Rattle.std.proofs.Common.{zero, suc, [], ◌∷◌, refl, sym, ap, ◌∙◌, arith, Some}
use Rattle.std.proofs.lemmas.List.{length_push, map-append}
use Rattle.std.proofs.lemmas.Option.{slice_get-map, unwrap_or-slice_get}
use Rattle.std.specs.List.{AllByRecursion}
use Rattle.ct_value.specs.declared.ty.ColTy.{ColTy}
use Rattle.ct_catalog.specs.declared.table.TableDef.{TableDef}
use Rattle.phys_plan.specs.declared.edge.Edge.{Edge}
use Rattle.phys_plan.specs.declared.node.KeyInfo.{KeyInfo}
use Rattle.phys_plan.specs.declared.node.Node.{Node}
use Rattle.phys_plan.specs.Columns.{columns_in}
use Rattle.phys_plan.specs.Reading.{Wire, at, no_keys, numbered, read_up, wire, wires}
use Rattle.phys_plan.proofs.laws.Reading.{read_append}
use Rattle.upsert_keys.specs.Keys.{keys, keys_of}
use Rattle.upsert_keys.specs.Seen.{all_seen, exchange_in, seen_over}
use Rattle.plan_check.specs.Sound.{columns_or_none, sent_columns}
use Rattle.plan_check.specs.Types.{all_types, next_types, types_after}

-- ---- lists

pub in_front : {A : Type 0} (xs ys : List A) (n : ℕ) → n < length xs → slice_get (xs ++ ys) n ≡ slice_get xs n
in_front [] ys n l = absurd (omega arith)
in_front (x ∷ xs) ys zero l = refl
in_front (x ∷ xs) ys (suc n) l = in_front xs ys n (omega arith)

pub behind : {A : Type 0} (xs ys : List A) (n : ℕ) → slice_get (xs ++ ys) (length xs + n) ≡ slice_get ys n
behind [] ys n = let none : 0 + n ≡ n = omega arith in ap (slice_get ys) none
behind (x ∷ xs) ys n = let one : suc (length xs) + n ≡ suc (length xs + n) = omega arith in ap (slice_get (x ∷ (xs ++ ys))) one ∙ behind xs ys n

pub at_last : {A : Type 0} (xs : List A) (x : A) → numbered (xs ++ x ∷ []) (suc (length xs)) ≡ Some x
at_last [] x = refl
at_last (y ∷ xs) x = at_last xs x

-- ---- what is read from the inputs up

module _ {B : Type 0} (f : Wire → List B → B) (d : B) where
  pub read_many : (done : List B) (nodes : List Node) → length (read_up f d done (wires nodes)) ≡ length done + length nodes
  read_many done [] = let e : length done ≡ length done + 0 = omega arith in e
  read_many done (node ∷ nodes) =
      let next = f (wire node) (map (at d done) node.inputs) in
      let one = length_push done next in
      let e : length (done ++ next ∷ []) + length nodes ≡ length done + suc (length nodes) = omega (arith, one) in
      read_many (done ++ next ∷ []) nodes ∙ e

  stays : (done : List B) (ws : List Wire) (n : ℕ) → n < length done → slice_get (read_up f d done ws) n ≡ slice_get done n
  stays done [] n l = refl
  stays done (w ∷ ws) n l =
      let next = f w (map (at d done) w.inputs) in
      stays (done ++ next ∷ []) ws n (let one = length_push done next in omega (arith, one)) ∙ in_front done (next ∷ []) n l

  -- the values of the first nodes, by number
  pub read_ahead : (nodes more : List Node) (v : ℕ) → v ≤ length nodes → numbered (read_up f d [] (wires (nodes ++ more))) v ≡ numbered (read_up f d [] (wires nodes)) v
  read_ahead nodes more zero l = refl
  read_ahead nodes more (suc n) l =
      let many = read_many [] nodes in
      ap (λ ws. slice_get (read_up f d [] ws) n) (map-append wire nodes more) ∙ ap (λ done. slice_get done n) (read_append f d [] (wires nodes) (wires more))
      ∙ stays (read_up f d [] (wires nodes)) (wires more) n (omega (arith, many))

  -- what is read alike of each of some nodes is read alike of all
  pub read_alike : (g : Wire → List B → B) (done : List B) (nodes : List Node) → AllByRecursion (λ node. (inputs : List B) → f (wire node) inputs ≡ g (wire node) inputs) nodes
      → read_up f d done (wires nodes) ≡ read_up g d done (wires nodes)
  read_alike g done [] same = refl
  read_alike g done (node ∷ nodes) same =
      ap (λ x. read_up f d (done ++ x ∷ []) (wires nodes)) (same.0 (map (at d done) node.inputs)) ∙ read_alike g (done ++ g (wire node) (map (at d done) node.inputs) ∷ []) nodes same.1

-- ---- columns

module _ (sources : List TableDef) where
  types_append : (done : List (Option (List ColTy))) (nodes more : List Node) → types_after sources done (nodes ++ more) ≡ types_after sources (types_after sources done nodes) more
  types_append done [] more = refl
  types_append done (node ∷ nodes) more = types_append (done ++ next_types sources done node ∷ []) nodes more

  types_many : (done : List (Option (List ColTy))) (nodes : List Node) → length (types_after sources done nodes) ≡ length done + length nodes
  types_many done [] = let e : length done ≡ length done + 0 = omega arith in e
  types_many done (node ∷ nodes) =
      let next = next_types sources done node in
      let one = length_push done next in
      let e : length (done ++ next ∷ []) + length nodes ≡ length done + suc (length nodes) = omega (arith, one) in
      types_many (done ++ next ∷ []) nodes ∙ e

  types_stay : (done : List (Option (List ColTy))) (nodes : List Node) (n : ℕ) → n < length done → slice_get (types_after sources done nodes) n ≡ slice_get done n
  types_stay done [] n l = refl
  types_stay done (node ∷ nodes) n l =
      let next = next_types sources done node in
      types_stay (done ++ next ∷ []) nodes n (let one = length_push done next in omega (arith, one)) ∙ in_front done (next ∷ []) n l

  -- the columns that the first nodes send, by place
  types_ahead : (nodes more : List Node) (n : ℕ) → n < length nodes → slice_get (all_types sources (nodes ++ more)) n ≡ slice_get (all_types sources nodes) n
  types_ahead nodes more n l =
      let many = types_many [] nodes in
      ap (λ done. slice_get done n) (types_append [] nodes more)
      ∙ types_stay (all_types sources nodes) more n (omega (arith, many))

  sent_at : (types : List (Option (List ColTy))) (n : ℕ) → columns_in (sent_columns types) (suc n) ≡ unwrap_or (option_map columns_or_none (slice_get types n)) []
  sent_at types n = sym (unwrap_or-slice_get (map columns_or_none types) n []) ∙ ap (λ o. unwrap_or o []) (slice_get-map columns_or_none types n)

  -- and by number, whatever stands behind them
  pub columns_ahead : (nodes more others : List Node) → (v : ℕ) → v ≤ length nodes → columns_in (sent_columns (all_types sources (nodes ++ more))) v ≡ columns_in (sent_columns (all_types sources (nodes ++ others))) v
  columns_ahead nodes more others zero l = refl
  columns_ahead nodes more others (suc n) l =
      let here = types_ahead nodes more n (omega arith) in
      let there = types_ahead nodes others n (omega arith) in
      sent_at (all_types sources (nodes ++ more)) n
      ∙ ap (λ o. unwrap_or (option_map columns_or_none o) []) (here ∙ sym there)
      ∙ sym (sent_at (all_types sources (nodes ++ others)) n)

-- ---- keys

module _ (columns others : ℕ → List ColTy) (edges further : List Edge) where
  -- an input sends the same columns, and by the same exchange
  pub record IsAlike (input : ℕ) : Type 0 where
    pub sent : columns input ≡ others input
    pub exchanged : exchange_in (numbered edges input) ≡ exchange_in (numbered further input)

  seen_alike : (inputs : List ℕ) (done : List KeyInfo) → AllByRecursion IsAlike inputs → all_seen columns edges inputs done ≡ all_seen others further inputs done
  seen_alike [] done a = refl
  seen_alike (input ∷ inputs) [] a = refl
  seen_alike (input ∷ inputs) (key ∷ done) a = λ i. seen_over (a.0.exchanged i) (a.0.sent i) key ∷ seen_alike inputs done a.1 i

  each_alike : (sources : List TableDef) (nodes : List Node) → AllByRecursion (λ node. AllByRecursion IsAlike node.inputs) nodes
      → AllByRecursion (λ node. (below : List KeyInfo) → keys_of sources node.op (all_seen columns edges node.inputs below) ≡ keys_of sources node.op (all_seen others further node.inputs below)) nodes
  each_alike sources [] a = tt
  each_alike sources (node ∷ nodes) a = (λ below. ap (keys_of sources node.op) (seen_alike node.inputs below a.0), each_alike sources nodes a.1)

  -- the keys of the first nodes, by number, whatever stands behind them
  pub keys_ahead : (sources : List TableDef) (nodes more again : List Node) → AllByRecursion (λ node. AllByRecursion IsAlike node.inputs) nodes → (v : ℕ) → v ≤ length nodes
      → numbered (keys columns sources edges (wires (nodes ++ more))) v ≡ numbered (keys others sources further (wires (nodes ++ again))) v
  keys_ahead sources nodes more again a v l =
      let f : Wire → List KeyInfo → KeyInfo = λ w below. keys_of sources w.op (all_seen columns edges w.inputs below) in
      let g : Wire → List KeyInfo → KeyInfo = λ w below. keys_of sources w.op (all_seen others further w.inputs below) in
      read_ahead f no_keys nodes more v l ∙ ap (λ table. numbered table v) (read_alike f no_keys g [] nodes (each_alike sources nodes a)) ∙ sym (read_ahead g no_keys nodes again v l)
