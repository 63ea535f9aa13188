-- A first part of the lines of items is lines and a first part of one more.
use Rattle.std.proofs.Common.{◌≡◌, ◌<◌, ◌⊎◌, ◌∙◌, ◌++◌, ℕ, Bool, Option, List, [], ◌∷◌, length, inl, inr, refl, sym, ap, arith, append_assoc}
use Rattle.ct_value.specs.declared.ty.Ty.{Ty}
use Rattle.stream_model.specs.declared.events.PrintItem.{PrintItem}
use Rattle.job_text.specs.Printed.{item_line, item_lines}
use Rattle.job_text.specs.Told.{AreItemsOf}
use Rattle.job_run.specs.Answers.{IsTorn}

-- one list stands within the first part of the other, or it reaches beyond
abbrev Within : List ℕ → List ℕ → List ℕ → List ℕ → Type 0
Within xs ys us vs = (middle : List ℕ) × (us ≡ xs ++ middle) × (ys ≡ middle ++ vs)

abbrev Beyond : List ℕ → List ℕ → Type 0
Beyond xs us = (rest : List ℕ) × (xs ≡ us ++ rest) × (0 < length rest)

one_more : (x u : ℕ) (xs ys us vs : List ℕ) → x ≡ u → Within xs ys us vs ⊎ Beyond xs us → Within (x ∷ xs) ys (u ∷ us) vs ⊎ Beyond (x ∷ xs) (u ∷ us)
one_more x u xs ys us vs same (inl (middle, first, last)) = inl (middle, rw (same, first) refl, last)
one_more x u xs ys us vs same (inr (rest, first, some)) = inr (rest, rw (same, first) refl, some)

splits : (xs ys us vs : List ℕ) → xs ++ ys ≡ us ++ vs → Within xs ys us vs ⊎ Beyond xs us
splits [] ys us vs e = inl (us, refl, e)
splits (x ∷ xs) ys [] vs e = inr (x ∷ xs, refl, omega arith)
splits (x ∷ xs) ys (u ∷ us) vs e = let same : x ≡ u = cc (e) in one_more x u xs ys us vs same (splits xs ys us vs (cc (e)))

pub nothing_left : (xs ys : List ℕ) → [] ≡ xs ++ ys → xs ≡ []
nothing_left [] ys e = refl
nothing_left (x ∷ xs) ys e = absurd (cc (e))

pub record Part (by_table : Bool) (tys : List Ty) (key : Option (List ℕ)) (items : List PrintItem) (written : List ℕ) : Type 0 where
  pub whole : List PrintItem
  pub others : List PrintItem
  pub torn : List ℕ
  pub split : items ≡ whole ++ others
  pub reads : written ≡ item_lines by_table tys key whole ++ torn
  pub is_torn : IsTorn by_table tys key torn
  pub typed : AreItemsOf tys key whole

module _ (by_table : Bool) (tys : List Ty) (key : Option (List ℕ)) where
  first_of : (item : PrintItem) (items : List PrintItem) (written rest : List ℕ) → AreItemsOf tys key (item ∷ items) → ((middle : List ℕ) → item_lines by_table tys key items ≡ middle ++ rest → Part by_table tys key items middle)
      → Within (item_line by_table tys key item) (item_lines by_table tys key items) written rest ⊎ Beyond (item_line by_table tys key item) written → Part by_table tys key (item ∷ items) written
  first_of item items written rest typed others (inl (middle, first, last)) =
      let p = others middle last in
      record {
        whole = item ∷ p.whole;
        others = p.others;
        torn = p.torn;
        split = ap (λ xs. item ∷ xs) p.split;
        reads = first ∙ ap (λ xs. item_line by_table tys key item ++ xs) p.reads ∙ sym (append_assoc (item_line by_table tys key item) (item_lines by_table tys key p.whole) p.torn);
        is_torn = p.is_torn;
        typed = (typed.0, p.typed);
      }
  first_of item items written rest typed others (inr (more, line, some)) = record {
    whole = [];
    others = item ∷ items;
    torn = written;
    split = refl;
    reads = refl;
    is_torn = inr (item, more, typed.0, line, some);
    typed = tt;
  }

  pub first_part : (items : List PrintItem) (written rest : List ℕ) → AreItemsOf tys key items → item_lines by_table tys key items ≡ written ++ rest → Part by_table tys key items written
  first_part [] written rest typed e = record { whole = []; others = []; torn = []; split = refl; reads = nothing_left written rest e; is_torn = inl refl; typed = tt }
  first_part (item ∷ items) written rest typed e =
      first_of item items written rest typed (λ middle last. first_part items middle rest typed.1 last) (splits (item_line by_table tys key item) (item_lines by_table tys key items) written rest e)
