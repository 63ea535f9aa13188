-- The lines of a bag's rows, run by run.
use Rattle.std.proofs.Common.{◌≡◌, ℕ, suc, true, false, cond, List, [], ◌∷◌, ◌++◌, length, Option, refl, sym, ap, subst, ◌∙◌, append_assoc, append-nil}
use Rattle.std.specs.List.{AllByRecursion}
use Rattle.ct_io.specs.Written.{Appends, AppendsUpTo, AppendsPart}
use Rattle.ct_io.proofs.laws.Appending.{up_to_start}
use Rattle.ct_value.specs.declared.row.Row.{Row}
use Rattle.ct_value.specs.declared.ty.Ty.{Ty}
use Rattle.ct_change.specs.Changelog.{same_row}
use Rattle.ct_change.specs.Counts.{one_more, runs}
use Rattle.ct_change.proofs.laws.Meanings.{same_row-true}
use Rattle.ct_io.specs.Copies.{copies_text}
use Rattle.ct_io.proofs.laws.Pieces.{part_in_piece, up_to_piece, whole_at_end}
use Rattle.job_text.specs.Printed.{row_line, row_lines}
use Rattle.job_batch.specs.Runs.{run_lines}

module _ (tys : List Ty) where
  lines_more : (row : Row) (entries : List (Row × ℕ)) → run_lines tys (one_more row entries) ≡ row_line tys row ++ run_lines tys entries
  lines_more row [] = append-nil (row_line tys row ++ []) ∙ append-nil (row_line tys row) ∙ sym (append-nil (row_line tys row))
  lines_more row (entry ∷ entries) =
      elim (same_row row entry.0) as (λ b. same_row row entry.0 ≡ b → run_lines tys (cond b ((row, suc entry.1) ∷ entries) ((row, 1) ∷ entry ∷ entries)) ≡ row_line tys row ++ run_lines tys (entry ∷ entries)) [
        | true ↦ λ e. append_assoc (row_line tys row) (copies_text entry.1 (row_line tys row)) (run_lines tys entries) ∙ ap (λ (r : Row). row_line tys row ++ (copies_text entry.1 (row_line tys r) ++ run_lines tys entries)) (same_row-true row entry.0 e)
        | false ↦ λ e. ap (λ (l : List ℕ). l ++ run_lines tys (entry ∷ entries)) (append-nil (row_line tys row))
      ] refl

  pub lines_of_runs : (rows : List Row) → run_lines tys (runs rows) ≡ row_lines tys rows
  lines_of_runs [] = refl
  lines_of_runs (row ∷ rows) = lines_more row (runs rows) ∙ ap (λ (l : List ℕ). row_line tys row ++ l) (lines_of_runs rows)

  pub started : (o : Option (List ℕ)) (rows : List Row) (left : List (Row × ℕ)) → left ≡ runs rows → AppendsUpTo o o (row_lines tys rows) (run_lines tys left)
  started o rows left is = subst (λ (l : List ℕ). AppendsUpTo o o (row_lines tys rows) l) (sym (ap (run_lines tys) is ∙ lines_of_runs rows)) (up_to_start o (row_lines tys rows))

  module _ (width : ℕ) where
    wide_more : (row : Row) (entries : List (Row × ℕ)) → length row ≡ width → AllByRecursion (λ run. length run.0 ≡ width) entries → AllByRecursion (λ run. length run.0 ≡ width) (one_more row entries)
    wide_more row [] w h = (w, tt)
    wide_more row (entry ∷ entries) w h =
        elim (same_row row entry.0) as (λ b. AllByRecursion (λ (run : Row × ℕ). length run.0 ≡ width) (cond b ((row, suc entry.1) ∷ entries) ((row, 1) ∷ entry ∷ entries))) [ true ↦ (w, h.1) | false ↦ (w, h) ]

    wide_all : (rows : List Row) → AllByRecursion (λ row. length row ≡ width) rows → AllByRecursion (λ run. length run.0 ≡ width) (runs rows)
    wide_all [] h = tt
    wide_all (row ∷ rows) h = wide_more row (runs rows) h.0 (wide_all rows h.1)

    pub wide_runs : (rows : List Row) (left : List (Row × ℕ)) → left ≡ runs rows → AllByRecursion (λ row. length row ≡ width) rows → AllByRecursion (λ run. length run.0 ≡ width) left
    wide_runs rows left is h = subst (λ (l : List (Row × ℕ)). AllByRecursion (λ (run : Row × ℕ). length run.0 ≡ width) l) (sym is) (wide_all rows h)

  module _ (a b c : Option (List ℕ)) (whole : List ℕ) (old left : List (Row × ℕ)) (row : Row) (count : ℕ) (is : old ≡ (row, count) ∷ left) (so_far : AppendsUpTo a b whole (run_lines tys old)) where
    turn : run_lines tys old ≡ copies_text count (row_line tys row) ++ run_lines tys left
    turn = ap (run_lines tys) is

    pub run_more : Appends b c (copies_text count (row_line tys row)) → AppendsUpTo a c whole (run_lines tys left)
    run_more more = up_to_piece a b c whole (run_lines tys old) (copies_text count (row_line tys row)) (run_lines tys left) so_far turn more

    pub run_part : AppendsPart b c (copies_text count (row_line tys row)) → AppendsPart a c whole
    run_part more = part_in_piece a b c whole (run_lines tys old) (copies_text count (row_line tys row)) (run_lines tys left) so_far turn more

  pub ended : (a b : Option (List ℕ)) (whole : List ℕ) (left : List (Row × ℕ)) → left ≡ [] → AppendsUpTo a b whole (run_lines tys left) → Appends a b whole
  ended a b whole left is so_far = whole_at_end a b whole (run_lines tys left) so_far (ap (run_lines tys) is)
