use Rattle.std.proofs.Common.{◌≡◌, IfOk, IfErr, rules}
use Rattle.sql_syntax.specs.View.{statements_view}
use Rattle.sql_grammar.specs.ReadsScripts.{answered, read_text}
use Rattle.sql_parse.specs.Faults.{IsRefusal}
use Rattle.sql_parse.proofs.Scripts.{Laws, ok_is, refused_is, script_is, refusal_is}
use Rattle.sql_parse.proofs.script.parse_script.Goals as goal
use Rattle.sql_grammar.proofs.laws.Theorems.{text_is_script, text_is_refused}

pub returns-clause-ok : goal.returns-clause-ok
returns-clause-ok c =
    let laws : Laws c.args.text.now = record { script = text_is_script c.args.text.now; refusal = text_is_refused c.args.text.now } in
    let a : IfOk c.read_text.result (λ s. read_text c.args.text.now ≡ answered (statements_view s.statements)) = search rules in
    ok_is c.args.text.now laws c.read_text.result a

pub returns-clause-refused : goal.returns-clause-refused
returns-clause-refused c =
    let laws : Laws c.args.text.now = record { script = text_is_script c.args.text.now; refusal = text_is_refused c.args.text.now } in
    let b : IfErr c.read_text.result (λ fault. IsRefusal fault (read_text c.args.text.now)) = search rules in
    refused_is c.args.text.now laws c.read_text.result b

pub returns-clause-spelled : goal.returns-clause-spelled
returns-clause-spelled c x h =
    let laws : Laws c.args.text.now = record { script = text_is_script c.args.text.now; refusal = text_is_refused c.args.text.now } in
    let a : IfOk c.read_text.result (λ s. read_text c.args.text.now ≡ answered (statements_view s.statements)) = search rules in
    let b : IfErr c.read_text.result (λ fault. IsRefusal fault (read_text c.args.text.now)) = search rules in
    script_is c.args.text.now laws c.read_text.result x a b h

pub returns-clause-first : goal.returns-clause-first
returns-clause-first c code number h =
    let laws : Laws c.args.text.now = record { script = text_is_script c.args.text.now; refusal = text_is_refused c.args.text.now } in
    let a : IfOk c.read_text.result (λ s. read_text c.args.text.now ≡ answered (statements_view s.statements)) = search rules in
    let b : IfErr c.read_text.result (λ fault. IsRefusal fault (read_text c.args.text.now)) = search rules in
    refusal_is c.args.text.now laws c.read_text.result code number a b h
