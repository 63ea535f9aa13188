-- The places of sources by their names, of which some are yet to be entered.
use Rattle.std.proofs.Common.{◌≡◌, ◌+◌, ◌<◌, ◌∙◌, ℕ, Bool, true, false, cond, List, Some, Vec, length, drop, get_or, refl, sym, ap, subst}
use Rattle.std.specs.BTreeMap.{BTreeMap, UpdatesBy}
use Rattle.std.specs.Cmp.Lexicographic.{slice_cmp}
use Rattle.std.specs.List.{position_from}
use Rattle.std.specs.Map.{AreApart, IsKeyTest, KeepsOthers, lookup}
use Rattle.std.specs.Ordering.{is_eq, nat_cmp}
use Rattle.std.specs.Str.{bytes_eq}
use Rattle.std.specs.declared.alloc.Global.{Global}
use Rattle.std.proofs.lemmas.Cmp.{eq_by_cmp_equiv, nat_list_cmp_total, nat_list_eq_equiv}
use Rattle.std.proofs.lemmas.List.{drop_more}
use Rattle.std.proofs.lemmas.Map.Text.{is_eq-slice_cmp}
use Rattle.std.proofs.lemmas.Slice.Eq.{bytes_eq-Decides}
use Rattle.ct_catalog.specs.declared.table.TableDef.{TableDef}
use Rattle.job_text.specs.Lines.{Field}
use Rattle.job_text.specs.Names.{place_of}

-- ---- a look-up behind an entry

other_entries : {K X : Type 0} (eq : K → K → Bool) (test : K → Bool) (old new : List (K × X)) → KeepsOthers eq test old new
    → (other : K → Bool) → IsKeyTest eq other → AreApart test other → lookup other new ≡ lookup other old
unfolding KeepsOthers
other_entries eq test old new h = h

apart : (key name word : Field) → bytes_eq key name ≡ false → is_eq (slice_cmp nat_cmp key word) ≡ true → is_eq (slice_cmp nat_cmp name word) ≡ false
apart key name word differ same =
    is_eq-slice_cmp name word ∙ nat_list_eq_equiv.symm name word
    ∙ sym (nat_list_eq_equiv.congr key word name (sym (is_eq-slice_cmp key word) ∙ same)) ∙ differ

pub entered : (key : Vec ℕ Global) (old new : BTreeMap (Vec ℕ Global) ℕ) (place : ℕ)
    → UpdatesBy (λ x y. slice_cmp nat_cmp x.items y.items) (λ k. slice_cmp nat_cmp key.items k.items) old new (Some place)
    → (name : Field) → place_of new name ≡ cond (bytes_eq key.items name) (Some place) (place_of old name)
entered key old new place h name = by (bytes_eq key.items name) refl
  where
    by : (b : Bool) → bytes_eq key.items name ≡ b → place_of new name ≡ cond b (Some place) (place_of old name)
    by true e = subst (λ word. place_of new word ≡ Some place) ((bytes_eq-Decides key.items name).0 e) h.1
    by false e = other_entries _ _ _ _ h.3 _ (λ x y. (eq_by_cmp_equiv nat_list_cmp_total).congr name x.items y.items) (λ k. apart key.items name k.items e)

-- ---- the first place from one on

abbrev pub is_named : Field → TableDef → Bool
is_named name table = bytes_eq table.name name

pub first_from : (sources : List TableDef) (place : ℕ) (other : TableDef) (name : Field) → place < length sources
    → position_from (is_named name) place (drop place sources) ≡ cond (bytes_eq (get_or sources place other).name name) (Some place) (position_from (is_named name) (place + 1) (drop (place + 1) sources))
first_from sources place other name within = ap (position_from (is_named name) place) (drop_more sources place other within)
