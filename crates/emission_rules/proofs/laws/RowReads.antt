-- What is sent for changes of a bag, or for changes of last rows, stands for the batch answer.
use Rattle.std.proofs.Common.{◌≡◌, ℕ, zero, suc, Bool, true, false, List, [], ◌∷◌, take, Option, Some, None, sym, subst, ◌∙◌}
use Rattle.std.specs.List.{AllByRecursion}
use Rattle.ct_value.specs.Rows.{project}
use Rattle.ct_value.specs.declared.row.Row.{Row}
use Rattle.ct_change.specs.declared.kind.Kind.{Kind}
use Rattle.ct_change.specs.declared.change.Change.{Change}
use Rattle.ct_change.specs.Changelog.{upsert, Rows, adds, has, admits}
use Rattle.op_rules.specs.Edges.{Meaning, bag, last_rows, IsPartial, ReadsAs, Edge}
use Rattle.op_rules.proofs.laws.Histories.{all-each}
use Rattle.emission_rules.proofs.laws.Moved.{Fate, sent_of, AreInRange, image, Carries, moved_means, moved_last}

pub all-take : {A : Type 0} (P : A → Type 0) (n : ℕ) (xs : List A) → AllByRecursion P xs → AllByRecursion P (take n xs)
all-take P zero xs h = tt
all-take P (suc n) [] h = tt
all-take P (suc n) (x ∷ xs) h = (h.0, all-take P n xs h.1)

pub bag_whole : (m : Meaning) → m ≡ bag → IsPartial m → ⊥
bag_whole m is p = subst IsPartial is p

pub last_whole : (m : Meaning) (key : List ℕ) → m ≡ last_rows key → IsPartial m → ⊥
last_whole m key is p = subst IsPartial is p

module _ (fate : Bool → Row → Fate) (turn : Kind → Kind) (stays : (kind : Kind) → adds (turn kind) ≡ adds kind)
    (batch : Rows → Option Rows) (batch_is : (rows : Rows) → batch rows ≡ image fate turn stays rows)
    (from to : Edge) where
  -- what is sent for a prefix of what came stands for the batch answer of what that stands for
  abbrev pub ReadsFront : List Change → ℕ → Type 0
  ReadsFront took n = (rows : Rows) → ReadsAs from.meaning (take n took) rows → (answer : Rows) × (batch rows ≡ Some answer) × ReadsAs to.meaning (sent_of fate turn stays (take n took)) answer

  pub reads_bag : ((row : Row) → fate false row ≡ fate true row) → from.meaning ≡ bag → to.meaning ≡ bag → (took : List Change) → AreInRange fate turn stays took → (n : ℕ) → ReadsFront took n
  reads_bag same reads writes took known n rows means =
      let r = moved_means fate turn stays same (take n took) rows (all-take _ n took known) (subst (λ m. ReadsAs m (take n took) rows) reads means) in
      (r.0, batch_is rows ∙ r.1, subst (λ m. ReadsAs m (sent_of fate turn stays (take n took)) r.0) (sym writes) r.2)

  pub reads_last : (own key : List ℕ) → from.meaning ≡ last_rows own → to.meaning ≡ last_rows key
      → ((x : Bool) (row : Row) → fate x row ≡ Some None → ⊥) → Carries fate turn stays key own
      → ((x y : Bool) (a b : Row) (fa fb : Row) → fate x a ≡ Some (Some fa) → fate y b ≡ Some (Some fb) → project own a ≡ project own b → project key fa ≡ project key fb)
      → ((kind : Kind) → has from.kinds kind ≡ true → admits (upsert own) kind ≡ true)
      → (took : List Change) → AllByRecursion (λ change. has from.kinds change.kind ≡ true) took → AreInRange fate turn stays took → (n : ℕ) → ReadsFront took n
  reads_last own key reads writes never back forth admitted took kinds known n rows means =
      let r = moved_last fate turn stays own key never back forth (take n took) rows
      (all-each (λ change. has from.kinds change.kind ≡ true) (λ change. admits (upsert own) change.kind ≡ true) (λ change h. admitted change.kind h) (take n took) (all-take _ n took kinds))
      (all-take _ n took known) (subst (λ m. ReadsAs m (take n took) rows) reads means) in
      (r.0, batch_is rows ∙ r.1, subst (λ m. ReadsAs m (sent_of fate turn stays (take n took)) r.0) (sym writes) r.2)
