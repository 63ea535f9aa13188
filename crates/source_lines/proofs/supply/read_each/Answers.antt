use Rattle.std.proofs.Common.{rules, ◌≡◌, ◌∷◌, ◌++◌, ◌+◌, ◌<◌, [], Some, length, drop, get_or, suc, ℕ, List, ap, sym, subst, ◌∙◌, append_assoc, arith}
use Rattle.std.proofs.lemmas.List.{drop_more}
use Rattle.std.specs.List.{AllByRecursion}
use Rattle.job_text.specs.Lines.{LinesLeft}
use Rattle.source_lines.specs.Supply.{IsWithin, unread, unread_from}
use Rattle.source_lines.proofs.supply.read_each.Goals as goal

-- the file at an index stands before those behind it
from_next : (files : List (List ℕ)) (i : ℕ) (bytes : List ℕ) → i < length files → bytes ≡ get_or files i bytes → drop i files ≡ bytes ∷ drop (i + 1) files
from_next files i bytes below is = drop_more files i bytes below ∙ ap (λ x. x ∷ drop (i + 1) files) (sym is)

-- its reader stands behind the others
reader_next : (all : List LinesLeft) (readers more : List LinesLeft) (place : ℕ) (reader : LinesLeft) (bytes : List ℕ) (left others : List (List ℕ)) → all ≡ readers ++ unread_from (length readers) left → left ≡ bytes ∷ others
    → reader ≡ unread (Some place) bytes → place ≡ length readers → more ≡ readers ++ reader ∷ [] → length more ≡ suc (length readers) → all ≡ more ++ unread_from (length more) others
reader_next all readers more place reader bytes left others is first made place_is pushed long =
    is ∙ ap (λ l. readers ++ unread_from (length readers) l) first
    ∙ sym (append_assoc readers (unread (Some (length readers)) bytes ∷ []) (unread_from (suc (length readers)) others))
    ∙ ap (λ x. (readers ++ x ∷ []) ++ unread_from (suc (length readers)) others) (ap (λ n. unread (Some n) bytes) (sym place_is) ∙ sym made)
    ∙ ap (λ l. l ++ unread_from (suc (length readers)) others) (sym pushed)
    ∙ ap (λ n. more ++ unread_from n others) (sym long)

pub loop-bytes-preserved : goal.loop-bytes-preserved
loop-bytes-preserved c =
    let files = c.args.files.now in
    let i = c.loop-bytes.bytes-index in
    let first = from_next files i c.bytes-item.result c.loop-bytes-test.true c.bytes-item.is in
    let readers = c.loop-bytes.readers.items in
    let place : c.in-Ok.place ≡ length readers = search rules in
    let made : c.in_ok-new.field-0 ≡ unread (Some c.in-Ok.place) c.bytes-item.result = c.in_ok-new.ensures ∙ ap (λ bytes. unread (Some c.in-Ok.place) bytes) c.as_slice.ensures in
    let one : length c.push.new.self.items ≡ length readers + 1 = search rules in
    let long : length c.push.new.self.items ≡ suc (length readers) = omega (arith, one) in
    record {
      within = (subst (AllByRecursion IsWithin) first c.loop-bytes.invariant.within).1;
      so_far = reader_next (unread_from 0 files) readers c.push.new.self.items c.in-Ok.place c.in_ok-new.field-0 c.bytes-item.result (drop i files) (drop (i + 1) files) c.loop-bytes.invariant.so_far first made place c.in_ok-push.ensures.items long;
    }
