-- What a list with a rank lists.
use Rattle.std.proofs.Common.{◌≡◌, Bool, true, false, List, [], ◌∷◌, ◌++◌, refl, ◌∙◌, append_assoc}
use Rattle.std.proofs.lemmas.List.{map-append}
use Rattle.query_answer.specs.Answer as a
use Rattle.query_answer.specs.Ranks.{with_rank}
use Rattle.bind_names.specs.Entries.{entries_view, entry_view}
use Rattle.bind_names.specs.declared.entries.Entry.{Entry}
use Rattle.bind_forms.specs.Lists.{with_entry}

with_others : (kept : Bool) (es : List a.Entry) (e : a.Entry) (ds : List a.Entry) → with_entry kept es e ++ ds ≡ with_rank kept es e ds
with_others true es e ds = append_assoc es (e ∷ []) ds
with_others false es e ds = refl

pub all_listed : (xs ys : List Entry) (kept : Bool) (es : List a.Entry) (e : a.Entry) (ds : List a.Entry) → entries_view xs ≡ with_entry kept es e → entries_view ys ≡ ds → entries_view (xs ++ ys) ≡ with_rank kept es e ds
all_listed xs ys kept es e ds h k = map-append entry_view xs ys ∙ ((λ i. h i ++ k i) ∙ with_others kept es e ds)
