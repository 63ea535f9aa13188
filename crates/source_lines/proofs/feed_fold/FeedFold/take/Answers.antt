use Rattle.std.proofs.Common.{◌≡◌, ◌∙◌, ◌++◌, List, Ok, Some, ap, arith, length, length-append, subst, sym}
use Rattle.std.proofs.lemmas.Result.{err_from_is_err_and}
use Rattle.ct_catalog.specs.declared.table.TableDef.{TableDef}
use Rattle.job_text.specs.Lines.{LinesLeft, Record, records_of}
use Rattle.source_lines.specs.Feeds.{feed_taken}
use Rattle.source_lines.specs.Standing.{StandAll}
use Rattle.source_lines.specs.Taken.{IsRefused, Taken, nothing_taken, take_file}
use Rattle.source_lines.proofs.laws.Parts.{few_taken, part_taken}
use Rattle.source_lines.proofs.feed_fold.FeedFold.take.Goals as goal

-- the part as it is read and as it stands in the file
same_part : (sources named : List TableDef) (records part : List Record) (taken : Taken) (read : _) (lines : LinesLeft) → named ≡ sources → lines ≡ record { feed = Some 0; read = read; records = part } → feed_taken sources records ≡ Ok taken → read ≡ length records
    → take_file named taken lines ≡ feed_taken sources (records ++ part)
same_part sources named records part taken read lines named_is lines_is accepted read_is =
    ap (λ (tables : List TableDef). take_file tables taken lines) named_is ∙ ap (take_file sources taken) lines_is ∙ part_taken sources records part taken read accepted read_is

pub take_first-requires : goal.take_first-requires
take_first-requires c =
    let r = c.requires in
    let stands = r.2 in
    let few = few_taken r.0 (Some 0) 1 nothing_taken r.1 stands.taken stands.accepted in
    (stands.taken, subst (λ (tables : List TableDef). StandAll tables c.args.self.now.folds.items stands.taken) (sym (c.in_ok-named.ensures ∙ stands.of_sources)) stands.stand, (λ source. omega (arith, few source, r.3)))

pub returns-in_err-take_first-clause-refused : goal.returns-in_err-take_first-clause-refused
returns-in_err-take_first-clause-refused c =
    let p = err_from_is_err_and c.from_residual-in_err-take_first.result c.from_residual-in_err-take_first.ensures.1 in
    rw (p.1, p.2) (λ sources records stands.
    let named_is = c.in_ok-named.ensures ∙ stands.of_sources in
    subst (IsRefused c.in_err-take_first.field-0.0) (same_part sources c.in_ok-named.named records (records_of c.args.part.now) stands.taken c.args.self.now.read c.in_ok-lines.lines named_is c.in_ok-lines.ensures stands.accepted stands.read_is)
    (c.in_err-take_first.ensures.refused stands.taken (subst (λ (tables : List TableDef). StandAll tables c.args.self.now.folds.items stands.taken) (sym named_is) stands.stand)))

pub returns-clause-ok : goal.returns-clause-ok
returns-clause-ok c = λ sources records stands.
    let named_is = c.in_ok-named.ensures ∙ stands.of_sources in
    let part = records_of c.args.part.now in
    let told = c.in_ok-take_first.ensures.ok stands.taken (subst (λ (tables : List TableDef). StandAll tables c.args.self.now.folds.items stands.taken) (sym named_is) stands.stand) in
    let same = same_part sources c.in_ok-named.named records part stands.taken c.args.self.now.read c.in_ok-lines.lines named_is c.in_ok-lines.ensures stands.accepted stands.read_is in
    let count = c.left-count.ensures ∙ ap (λ (lines : LinesLeft). length lines.records) c.in_ok-lines.ensures in
    record {
      taken = told.more;
      accepted = sym same ∙ told.accepted;
      of_sources = stands.of_sources;
      stand = subst (λ (tables : List TableDef). StandAll tables c.take_first.new.folds.items told.more) named_is told.stand;
      read_is = let n = length-append records part in omega (arith, stands.read_is, count, n);
    }
