-- The two walks of an INSERT, one behind the other.
use Rattle.std.proofs.Common.{◌≡◌, List, Ok, Err, ap, ◌∙◌}
use Rattle.ct_value.specs.declared.codes.ScriptCode.{ScriptCode}
use Rattle.ct_catalog.specs.declared.table.TableDef.{TableDef}
use Rattle.rel_algebra.specs.Rel.{Rel}
use Rattle.sql_syntax.specs.Tree.{Query, Text}
use Rattle.binding.specs.Checked.{◌>>=◌}
use Rattle.binding.specs.Inserts.{insert_bound}
use Rattle.binder.specs.Bound.{Bound, names_bound}
use Rattle.rewrite.specs.Rewritten.{inserted, rewritten}
use Rattle.rewrite.proofs.laws.Theorems.{two_walks}

pub first_passed : (tables : List TableDef) (name : Text) (query : Query) (x : Bound) → names_bound tables name query ≡ Ok x → insert_bound tables name query ≡ inserted x
first_passed tables name query x e = two_walks tables name query ∙ ap (λ r. r >>= inserted) e

pub first_refused : (tables : List TableDef) (name : Text) (query : Query) (code : ScriptCode) → names_bound tables name query ≡ Err code → insert_bound tables name query ≡ Err code
first_refused tables name query code e = two_walks tables name query ∙ ap (λ r. r >>= inserted) e

pub has_algebra : (x : Bound) (rel : Rel) → rewritten x.query ≡ Ok rel → inserted x ≡ Ok (record { query = record { rel = rel; scope = x.query.columns }; sources = x.sources; sink = x.sink })
has_algebra x rel e = ap (λ r. r >>= λ rel. Ok (record { query = record { rel = rel; scope = x.query.columns }; sources = x.sources; sink = x.sink })) e

pub has_none : (x : Bound) (code : ScriptCode) → rewritten x.query ≡ Err code → inserted x ≡ Err code
has_none x code e = ap (λ r. r >>= λ rel. Ok (record { query = record { rel = rel; scope = x.query.columns }; sources = x.sources; sink = x.sink })) e
