-- Of two keys that differ in their abbreviations the one with the less stands first.
use Rattle.std.proofs.Common.{◌≡◌, ℕ, ◌-◌, ◌/◌, ◌%◌, ◌^◌, ◌<◌, List, [], ◌∷◌, refl, sym, ap, ◌∙◌, arith, Less, Equal, Greater}
use Rattle.std.proofs.lemmas.Nat.{div-add-mod', mod_below}
use Rattle.std.specs.Ordering.{ordering_then, ordering_reverse}
use Rattle.std.specs.Cmp.Lexicographic.{slice_cmp}
use Rattle.ct_value.specs.Abbreviations.{value_abbreviation}
use Rattle.ct_value.specs.Order.{row_cmp}
use Rattle.ct_value.specs.declared.value.Value.{Value}
use Rattle.ct_value.proofs.laws.Abbreviations.{value_first, value_small}
use Rattle.op_topn.specs.Keys.{Directed, Up, Down, Key, key_cmp, key_total, directed_cmp, directed_abbreviation, first_abbreviation}

half_less : (m n : ℕ) → m / 2 < n / 2 → m < n
half_less m n h = let a = div-add-mod' m 2 in let b = div-add-mod' n 2 in let c : m % 2 < 2 = mod_below m 2 (omega arith) in omega arith

half_small : (v : Value) → value_abbreviation v / 2 < 2 ^ 63
half_small v = let a = div-add-mod' (value_abbreviation v) 2 in let s = value_small v in omega arith

pub directed_first : (d e : Directed) → directed_abbreviation d < directed_abbreviation e → directed_cmp d e ≡ Less
directed_first (Up v) (Up w) h = ap (λ o. ordering_then o Equal) (value_first v w (half_less (value_abbreviation v) (value_abbreviation w) h))
directed_first (Up v) (Down w) h = refl
directed_first (Down v) (Up w) h = let a = half_small v in let b = half_small w in absurd (omega arith)
directed_first (Down v) (Down w) h =
    let a = half_small v in
    let b = half_small w in
    value_first w v (half_less (value_abbreviation w) (value_abbreviation v) (omega arith))

pub less_first : (k l : Key) → first_abbreviation k.0 < first_abbreviation l.0 → Less ≡ key_cmp k l
less_first k l h = go k.0 l.0 h
  where
    go : (ds es : List Directed) → first_abbreviation ds < first_abbreviation es → Less ≡ ordering_then (slice_cmp directed_cmp ds es) (row_cmp k.1 l.1)
    go [] [] h = absurd (omega arith)
    go [] (e ∷ es) h = refl
    go (d ∷ ds) [] h = absurd (omega arith)
    go (d ∷ ds) (e ∷ es) h = ap (λ o. ordering_then (ordering_then o (slice_cmp directed_cmp ds es)) (row_cmp k.1 l.1)) (sym (directed_first d e h))

pub more_last : (k l : Key) → first_abbreviation l.0 < first_abbreviation k.0 → Greater ≡ key_cmp k l
more_last k l h = ap ordering_reverse (less_first l k h) ∙ sym (key_total.antisymm k l)
