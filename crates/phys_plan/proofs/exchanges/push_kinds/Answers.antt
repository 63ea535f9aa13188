use Rattle.std.proofs.Common.{◌≡◌, ◌++◌, List, ℕ, OnOk, append_assoc, ap, ◌∙◌, subst}
use Rattle.std.specs.Prelude.{codes}
use Rattle.phys_plan.specs.Explained as e
use Rattle.phys_plan.proofs.exchanges.push_kinds.Goals as goal

pub returns : goal.returns
returns c =
    let text = c.args.text.now in
    let word = codes " changelogMode=[" in
    let names = e.commas (e.kind_names c.args.kinds) in
    let so_far : c.push_names.new.text ≡ (text ++ word) ++ names = c.in_ok-push_names.ensures ∙ ap (λ t. t ++ names) c.in_ok-extend.ensures.ok in
    let whole : c.push_names.new.text ++ codes "]" ≡ text ++ (word ++ (names ++ codes "]")) =
    ap (λ t. t ++ codes "]") so_far ∙ append_assoc (text ++ word) names (codes "]") ∙ append_assoc text word (names ++ codes "]") in
    subst (λ (t : List ℕ). OnOk c.extend-2.result (c.extend-2.new.self ≡ t)) whole c.extend-2.ensures.ok
