-- An accepted script is bound over the tables of its text.
use Rattle.std.proofs.Common.{◌≡◌, ℕ, List, [], ◌∷◌, Ok, Err, refl, subst}
use Rattle.sql_syntax.specs.Tree as t
use Rattle.judge.specs.Judgement.{Asked, Insert, Judged, asked_of, then}
use Rattle.binding.specs.Checked.{Checked}
use Rattle.binding.specs.Inserts.{Inserted, insert_bound}
use Rattle.job_judgement.specs.Judged.{IsBound, IsJudged}
use Rattle.job_judgement.specs.Judgement.{Accepted, accepted_of, at_statement, bound_insert, first_bound}

module _ (text : List ℕ) (asked : Asked) (asks : asked_of text ≡ Ok asked) (script : Accepted) where
  at_bound : (number : ℕ) (table : t.Text) (query : t.Query) (r : Checked Inserted) → insert_bound asked.catalogue.tables table query ≡ r → at_statement asked.catalogue number query r ≡ Ok script → IsBound script
  at_bound number table query (Err code) is e = absurd (cc)
  at_bound number table query (Ok inserted) is e =
      let made : Accepted = record { statement = number; catalogue = asked.catalogue; query = query; inserted = inserted } in
      let same : made ≡ script = cc in
      subst IsBound same (record { text = text; asked = asked; table = table; asks = asks; tables = refl; bound = is })

  insert_is : (number : ℕ) (statement : t.Statement) → bound_insert asked.catalogue number statement ≡ Ok script → IsBound script
  insert_is number (t.Insert table query) e = at_bound number table query _ refl e
  insert_is number (t.Create name elements options) e = absurd (cc)
  insert_is number (t.Set key value) e = absurd (cc)

  first_is : (inserts : List Insert) → first_bound asked.catalogue inserts ≡ Ok script → IsBound script
  first_is [] e = absurd (cc)
  first_is (insert ∷ others) e = insert_is insert.number insert.statement e

step_is : (text : List ℕ) (j : Judged Asked) (script : Accepted) → asked_of text ≡ j → then accepted_of j ≡ Ok script → IsBound script
step_is text (Err refusal) script is e = absurd (cc)
step_is text (Ok asked) script is e = first_is text asked is script asked.inserts e

pub script_bound : (script : Accepted) → IsJudged script → IsBound script
script_bound script is = step_is is.text (asked_of is.text) script refl is.judged
