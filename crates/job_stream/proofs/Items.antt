-- Lines of items, one after the other.
use Rattle.std.proofs.Common.{◌≡◌, ◌<◌, ◌+◌, ℕ, Bool, List, [], ◌∷◌, ◌++◌, drop, get_or, length, Option, refl, sym, ap, subst, ◌∙◌, append_assoc}
use Rattle.std.proofs.lemmas.List.{drop_more}
use Rattle.std.specs.List.{AllByRecursion}
use Rattle.ct_io.specs.Written.{Appends, AppendsUpTo, AppendsPart}
use Rattle.ct_value.specs.declared.ty.Ty.{Ty}
use Rattle.ct_io.proofs.laws.Pieces.{part_in_piece, up_to_piece}
use Rattle.stream_model.specs.declared.events.PrintItem.{PrintItem}
use Rattle.job_text.specs.Printed.{IsWide, item_line, item_lines}
use Rattle.job_stream.specs.declared.sheet.Sheet.{Sheet}
use Rattle.job_stream.specs.Writing.{lines_on}

module _ (sheet : Sheet) (a b c : Option (List ℕ)) (whole : List ℕ) (old left : List PrintItem) (item : PrintItem) (is : old ≡ item ∷ left) (so_far : AppendsUpTo a b whole (lines_on sheet old)) where
  abbrev Line : List ℕ
  Line = item_line sheet.by_table sheet.tys.items sheet.key item

  pub item_more : Appends b c Line → AppendsUpTo a c whole (lines_on sheet left)
  item_more more = up_to_piece a b c whole (lines_on sheet old) Line (lines_on sheet left) so_far (ap (lines_on sheet) is) more

  pub item_part : AppendsPart b c Line → AppendsPart a c whole
  item_part more = part_in_piece a b c whole (lines_on sheet old) Line (lines_on sheet left) so_far (ap (lines_on sheet) is) more

-- the item at an index stands before those behind it
pub item_next : {A : Type 0} (items : List A) (i : ℕ) (item : A) → i < length items → item ≡ get_or items i item → drop i items ≡ item ∷ drop (i + 1) items
item_next items i item below is = drop_more items i item below ∙ ap (λ x. x ∷ drop (i + 1) items) (sym is)

pub item_wide : (width : ℕ) (old left : List PrintItem) (item : PrintItem) → old ≡ item ∷ left → AllByRecursion (IsWide width) old → IsWide width item × AllByRecursion (IsWide width) left
item_wide width old left item is wide = subst (AllByRecursion (IsWide width)) is wide

-- those behind the first ones
pub wide_behind : (width : ℕ) (items more : List PrintItem) → AllByRecursion (IsWide width) (items ++ more) → AllByRecursion (IsWide width) more
wide_behind width [] more h = h
wide_behind width (item ∷ items) more h = wide_behind width items more h.1

-- lines of more items
pub lines_both : (by_table : Bool) (tys : List Ty) (key : Option (List ℕ)) (xs ys : List PrintItem) → item_lines by_table tys key (xs ++ ys) ≡ item_lines by_table tys key xs ++ item_lines by_table tys key ys
lines_both by_table tys key [] ys = refl
lines_both by_table tys key (x ∷ xs) ys = ap (λ l. item_line by_table tys key x ++ l) (lines_both by_table tys key xs ys) ∙ sym (append_assoc (item_line by_table tys key x) (item_lines by_table tys key xs) (item_lines by_table tys key ys))
