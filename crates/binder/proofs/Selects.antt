-- The select list of a select.
use Rattle.std.proofs.Common.{◌≡◌, ◌==◌, Bool, false, List, [], ◌∷◌, length, Ok, refl, ap, sym}
use Rattle.sql_syntax.specs.Tree.{Tree}
use Rattle.sql_syntax.specs.Tree as t
use Rattle.query_answer.specs.Answer as a
use Rattle.query_answer.specs.Answer.{listed_trees}
use Rattle.binding.specs.Checked.{◌>>=◌}
use Rattle.binding.specs.Queries as q
use Rattle.bind_names.specs.declared.entries.Entry.{Entry}
use Rattle.bind_names.specs.Entries.{entries_view}
use Rattle.binder.specs.Steps.{listed}

pub listed_all : (xs : List Tree) → listed_trees (t.trees xs) ≡ xs
listed_all [] = refl
listed_all (x ∷ xs) = ap (λ ys. x ∷ ys) (listed_all xs)

pub some_listed : (d : Bool) (es : List Entry) (whole : List a.Entry) (groups : List Tree) (having : t.OptionalTree) (x : q.Relation) → (length es == 0) ≡ false → entries_view es ≡ whole
    → q.selected d whole (listed_trees (t.trees groups)) having x ≡ (listed (entries_view es) groups having x >>= λ y. Ok (q.once d y))
some_listed d [] whole groups having x h e = absurd (cc)
some_listed d (y ∷ es) whole groups having x h e = λ j. q.selected d (sym e j) (listed_all groups j) having x
