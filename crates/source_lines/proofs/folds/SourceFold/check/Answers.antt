use Rattle.std.proofs.Common.{Result, Ok, Err, OnOk}
use Rattle.ct_change.specs.Changelog.{fold}
use Rattle.ct_catalog.specs.Columns.{table_mode}
use Rattle.source_lines.proofs.Takes.{took}
use Rattle.source_lines.proofs.folds.SourceFold.check.Goals as goal

under : {T E A B : Type 0} (r : Result T E) → OnOk r A → (A → B) → OnOk r B
under (Ok x) a f = f a
under (Err e) a f = tt

pub returns-clause-ok : goal.returns-clause-ok
returns-clause-ok c = under c.take_own.result c.take_own.ensures.ok (λ takes. λ table changes stands.
    let taken = took c.args.self.now.table table c.args.self.now.kept c.take_own.new.kept changes c.args.change stands.of_table stands.kept takes in
    (taken.0, record { of_table = stands.of_table; kept = taken.1; whole = c.take_own.ensures.whole stands.whole }))

pub returns-clause-refused : goal.returns-clause-refused
returns-clause-refused c = λ code is table changes stands.
    (rw stands.of_table at (c.take_own.ensures.refused code is)) (fold (table_mode table) changes) stands.kept
