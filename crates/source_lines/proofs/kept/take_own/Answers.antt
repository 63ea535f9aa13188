use Rattle.std.proofs.Common.{◌≡◌, ◌∙◌, Some, true, sym}
use Rattle.ct_change.specs.Changelog.{admits}
use Rattle.ct_catalog.specs.Columns.{table_mode}
use Rattle.source_lines.specs.Kept.{key_of}
use Rattle.source_lines.proofs.Takes.{by_rows}
use Rattle.source_lines.proofs.kept.take_own.Goals as goal

pub returns-clause-refused : goal.returns-clause-refused
returns-clause-refused c = λ code is rows stands.
    let table = c.args.table.now in
    let change = c.args.change in
    let admitted : admits (table_mode table) change.kind ≡ true = sym (c.admits.ensures (key_of table)) ∙ c.if-not-admits.false in
    by_rows table rows change (Some code) admitted c.in_ok-check_nulls.ensures.ok (c.keep_own.ensures.refused code is rows stands)
