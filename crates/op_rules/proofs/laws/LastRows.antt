-- Of changes that are read as last rows, one row at most stands with each key.
use Rattle.std.proofs.Common.{◌≡◌, ℕ, ◌<◌, ◌≤◌, Bool, true, false, cond, List, [], ◌∷◌, refl, sym, ap, subst, ◌∙◌, arith}
use Rattle.ct_value.specs.Bag.{copies, one_at}
use Rattle.ct_value.specs.Order.{row_cmp}
use Rattle.ct_value.specs.Rows.{project}
use Rattle.ct_value.specs.declared.row.Row.{Row}
use Rattle.ct_change.specs.declared.change.Change.{Change}
use Rattle.ct_change.specs.Changelog.{Rows, same_row, adds, addition, last_shown}
use Rattle.ct_change.proofs.laws.Meanings.{same_row-true}
use Rattle.op_rules.specs.Edges.{last_rows, ReadsAs, IsUnique}

-- whether two rows agree on columns
abbrev pub agree : List ℕ → Row → Row → Bool
agree columns a b = same_row (project columns a) (project columns b)

pub added : (row : Row) (change : Change) → 0 < addition row change → (adds change.kind ≡ true) × (row ≡ change.row)
added row change p =
    elim (adds change.kind) as (λ b. adds change.kind ≡ b → 0 < cond b (one_at row_cmp row change.row) 0 → (b ≡ true) × (row ≡ change.row)) [
      | true ↦ λ e q. (refl, elim (same_row row change.row) as (λ s. same_row row change.row ≡ s → 0 < cond {A = ℕ} s 1 0 → row ≡ change.row) [ true ↦ λ s z. same_row-true row change.row s | false ↦ λ s z. absurd (omega arith) ] refl q)
      | false ↦ λ e q. absurd (omega arith)
    ] refl p

addition_le : (row : Row) (change : Change) → addition row change ≤ 1
addition_le row change =
    elim (adds change.kind) as (λ b. cond b (one_at row_cmp row change.row) 0 ≤ 1) [
      | true ↦ elim (same_row row change.row) as (λ s. cond {A = ℕ} s 1 0 ≤ 1) [ true ↦ omega arith | false ↦ omega arith ]
      | false ↦ omega arith
    ]

abbrev IsOne : Row → Row → ℕ → ℕ → Type 0
IsOne a b x y = (0 < x → 0 < y → a ≡ b) × (x ≤ 1)

shown_one : (key : List ℕ) (a b : Row) → project key a ≡ project key b → (changes : List Change) (x y : ℕ) → IsOne a b x y → IsOne a b (last_shown key a x changes) (last_shown key b y changes)
shown_one key a b e [] x y h = h
shown_one key a b e (change ∷ changes) x y h =
    shown_one key a b e changes (cond (agree key change.row a) (addition a change) x) (cond (agree key change.row b) (addition b change) y)
    (subst (λ q. IsOne a b (cond (agree key change.row a) (addition a change) x) (cond q (addition b change) y)) (ap (same_row (project key change.row)) e)
    (elim (agree key change.row a) as (λ q. IsOne a b (cond q (addition a change) x) (cond q (addition b change) y)) [
      | true ↦ (λ p q. (added a change p).1 ∙ sym (added b change q).1, addition_le a change)
      | false ↦ h
    ]))

pub last_unique : (key : List ℕ) (changes : List Change) (rows : Rows) → ReadsAs (last_rows key) changes rows → IsUnique key (copies rows)
last_unique key changes rows reads a b e x y =
    let one = shown_one key a b e changes 0 0 (λ p q. absurd (omega arith), omega arith) in
    (one.0 (omega (arith, reads a)) (omega (arith, reads b)), omega (arith, one.1, reads a))
