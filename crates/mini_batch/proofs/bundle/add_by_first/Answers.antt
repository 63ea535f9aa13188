use Rattle.std.proofs.Common.{◌≡◌, ◌∙◌, ◌∷◌, [], Some, None, ap, map, take, subst}
use Rattle.std.specs.Prelude.{position}
use Rattle.indexmap.specs.IndexMap.{insert_entry, set_value_at}
use Rattle.ct_value.specs.declared.row.Row.{Row}
use Rattle.ct_change.specs.Changelog.{same_row}
use Rattle.mini_batch.proofs.Changes.{insert_new, on_err, on_ok, set_more, set_same}
use Rattle.mini_batch.proofs.bundle.add_by_first.Goals as goal

pub returns-in_err-push-clause-err : goal.returns-in_err-push-clause-err
returns-in_err-push-clause-err c =
    let entries = c.args.map.now.entries in
    on_err c.from_residual.result _
    (ap (set_value_at entries c.in-Some.place) c.in_err-push.ensures.err ∙ set_same entries c.in-Some.place c.index_mut-changes.result.now c.index_mut-changes.ensures.value)

pub returns-in-Some-clause-ok : goal.returns-in-Some-clause-ok
returns-in-Some-clause-ok c =
    let entries = c.args.map.now.entries in
    let key : Row = take c.args.keys c.args.change.row in
    let at = subst (λ (k : Row). Some c.in-Some.place ≡ position (same_row k) (map (λ entry. entry.0) entries)) c.new.ensures c.in-Some.ensures.index in
    ap (set_value_at entries c.in-Some.place) c.in_ok-push.ensures.ok
    ∙ set_more key c.args.change entries c.in-Some.place c.index_mut-changes.result.now at c.index_mut-changes.ensures.value

pub returns-clause-ok : goal.returns-clause-ok
returns-clause-ok c =
    let entries = c.args.map.now.entries in
    let key : Row = take c.args.keys c.args.change.row in
    let none = subst (λ (k : Row). None ≡ position (same_row k) (map (λ entry. entry.0) entries)) c.new.ensures c.in_default.ensures.index in
    on_ok c.begin.result (λ e. e ∙ ap (λ (k : Row). insert_entry same_row entries k (c.args.change ∷ [])) c.in_ok-key.ensures ∙ insert_new key c.args.change entries none) c.begin.ensures.ok
