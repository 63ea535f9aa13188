use Rattle.std.proofs.Common.{◌++◌, ◌∷◌, ◌∙◌, ap, codes, option_copied}
use Rattle.job_text.specs.Printed.{field_texts, fields_behind, kind_text, record_line, told_texts}
use Rattle.job_text.proofs.RecordLines.{change_put}
use Rattle.job_text.proofs.lines.push_change.Goals as goal

pub returns : goal.returns
returns c =
    let line = c.args.line.now in
    let change = c.args.change.now in
    let tys = c.args.tys.now in
    let told = option_copied c.told_key-told.result in
    let texts = told_texts told (field_texts tys c.as_slice.result.now) in
    c.in_ok-push.ensures.ok
    ∙ ap (λ xs. xs ++ codes "\n") (c.in_ok-push_row.ensures ∙ ap (λ xs. xs ++ fields_behind texts) (c.in_ok-extend.ensures.ok ∙ ap (λ xs. line ++ xs) (c.as_bytes.ensures.value ∙ c.kind_text.ensures)))
    ∙ change_put line change.kind texts
    ∙ ap (λ row. line ++ record_line (kind_text change.kind ∷ told_texts told (field_texts tys row))) c.as_slice.ensures
    ∙ ap (λ key. line ++ record_line (kind_text change.kind ∷ told_texts key (field_texts tys change.row))) c.told_key-told.ensures
