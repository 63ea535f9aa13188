-- Laws of Filter, Project and Union: of a sum of bags, they are the sum.
use Rattle.std.proofs.Common.{◌≡◌, suc, true, List, [], ◌∷◌, ◌++◌, map, Bool, false, Option, Some, None, refl, sym, ap, ◌∙◌, subst}
use Rattle.std.specs.Prelude.{option_map, length}
use Rattle.std.specs.List.{AllByRecursion}
use Rattle.ct_value.specs.Bag.{items, none}
use Rattle.ct_value.specs.Order.{row_cmp, row_total, row_exact}
use Rattle.ct_value.specs.declared.row.Row.{Row}
use Rattle.ct_value.specs.declared.value.Value.{Value}
use Rattle.ct_change.specs.Changelog.{Rows}
use Rattle.rel_algebra.specs.Sums.{one, kept, together, plus, Each}
use Rattle.rel_algebra.specs.Clauses.{Meaning, holds, collect, row_of, rows_where, filter_rows, project_rows, union_rows}
use Rattle.rel_algebra.proofs.laws.Bags.{together-none, together-assoc, together-comm, each-none, each-add, each-together, sum_over-none, sum_over-together, sum_over-same, each-sum_over}

-- what passes a test at one row
abbrev pub passing : (Row → Option Bool) → Row → Option Rows
passing test row = option_map (λ passes. kept passes row) (test row)

pub rows_where-none : (test : Row → Option Bool) → rows_where test none ≡ Some none
rows_where-none test = sum_over-none row_total row_exact row_cmp (passing test)

pub rows_where-together : (test : Row → Option Bool) (a b : Rows) → rows_where test (together a b) ≡ plus (rows_where test a) (rows_where test b)
rows_where-together test a b = sum_over-together row_total row_exact row_total row_exact (passing test) a b

-- tests that agree on the rows
pub rows_where-same : (test other : Row → Option Bool) (rows : Rows) → Each (λ row. test row ≡ other row) rows → rows_where test rows ≡ rows_where other rows
rows_where-same test other rows h = sum_over-same row_total row_exact row_total row_exact (passing test) (passing other) rows
    (each_fact rows h)
  where
    go : (xs : List Row) → AllByRecursion (λ row. test row ≡ other row) xs → AllByRecursion (λ row. passing test row ≡ passing other row) xs
    go [] h = tt
    go (x ∷ xs) h = (ap (option_map (λ passes. kept passes x)) h.0, go xs h.1)

    each_fact : (rows : Rows) → Each (λ row. test row ≡ other row) rows → Each (λ row. passing test row ≡ passing other row) rows
    each_fact rows h = go (items rows) h

each_kept : (P : Row → Type 0) (row : Row) → P row → (passes : Bool) → Each {R = row_cmp} P (kept passes row)
each_kept P row p true = each-add row_total row_exact P none row p (each-none row_total row_exact P)
each_kept P row p false = each-none row_total row_exact P

-- what holds of all rows holds of those that pass
pub each-rows_where : (P : Row → Type 0) (test : Row → Option Bool) (rows answer : Rows) → Each P rows → rows_where test rows ≡ Some answer → Each P answer
each-rows_where P test rows answer h e = each-sum_over row_total row_exact row_total row_exact P P (passing test) (λ row c p i. made row c p (test row) i) rows h answer e
  where
    made : (row : Row) (c : Rows) → P row → (t : Option Bool) → option_map (λ passes. kept {R = row_cmp} passes row) t ≡ Some c → Each P c
    made row c p None i = absurd (cc)
    made row c p (Some passes) i = let j : kept passes row ≡ c = cc in subst (λ (d : Rows). Each P d) j (each_kept P row p passes)

-- ---- Filter

pub filter_rows-together : (condition : Meaning) (a b : Rows) → filter_rows condition (together a b) ≡ plus (filter_rows condition a) (filter_rows condition b)
filter_rows-together condition a b = rows_where-together (holds condition) a b

-- ---- Project

pub project_rows-together : (meanings : List Meaning) (a b : Rows) → project_rows meanings (together a b) ≡ plus (project_rows meanings a) (project_rows meanings b)
project_rows-together meanings a b = sum_over-together row_total row_exact row_total row_exact (λ row. option_map one (row_of meanings row)) a b

-- each row is made of the items' values at one of the rows
pub each-project_rows : (P Q : Row → Type 0) (meanings : List Meaning) → ((row made : Row) → P row → row_of meanings row ≡ Some made → Q made) → (rows answer : Rows) → Each P rows → project_rows meanings rows ≡ Some answer → Each Q answer
each-project_rows P Q meanings m rows answer h e =
    each-sum_over row_total row_exact row_total row_exact P Q (λ row. option_map one (row_of meanings row)) (λ row c p i. made row c p (row_of meanings row) refl i) rows h answer e
  where
    made : (row : Row) (c : Rows) → P row → (values : Option Row) → row_of meanings row ≡ values → option_map (one {R = row_cmp}) values ≡ Some c → Each Q c
    made row c p None v i = absurd (cc)
    made row c p (Some values) v i = let j : one values ≡ c = cc in subst (λ (d : Rows). Each Q d) j (each-add row_total row_exact Q none values (m row values p v) (each-none row_total row_exact Q))

-- as many values as items
pub length-collect : (values : List (Option Value)) (row : Row) → collect values ≡ Some row → length row ≡ length values
length-collect [] row e = let i : [] ≡ row = cc in sym (ap length i)
length-collect (None ∷ others) row e = absurd (cc)
length-collect (Some value ∷ others) row e = go (λ values i. length-collect others values i) (collect others) refl e
  where
    go : ((values : Row) → collect others ≡ Some values → length values ≡ length others) → (rest : Option Row) → collect others ≡ rest → option_map (λ values. value ∷ values) rest ≡ Some row → length row ≡ suc (length others)
    go ih None i j = absurd (cc)
    go ih (Some values) i j = let k : value ∷ values ≡ row = cc in sym (ap length k) ∙ ap suc (ih values i)

-- ---- Union

pub union_rows-append : (inputs others : List Rows) → union_rows (inputs ++ others) ≡ together (union_rows inputs) (union_rows others)
union_rows-append [] others = sym (together-none row_total row_exact (union_rows others))
union_rows-append (rows ∷ inputs) others = ap (together rows) (union_rows-append inputs others) ∙ sym (together-assoc row_total row_exact rows (union_rows inputs) (union_rows others))

-- of inputs that are sums of two parts each, the sum of the unions of the parts
pub union_rows-together : (parts : List (Rows × Rows)) → union_rows (map (λ p. together p.0 p.1) parts) ≡ together (union_rows (map (λ p. p.0) parts)) (union_rows (map (λ p. p.1) parts))
union_rows-together [] = sym (together-none row_total row_exact none)
union_rows-together (p ∷ parts) =
    ap (together (together p.0 p.1)) (union_rows-together parts) ∙ four p.0 p.1 (union_rows (map (λ p. p.0) parts)) (union_rows (map (λ p. p.1) parts))
  where
    four : (a b c d : Rows) → together (together a b) (together c d) ≡ together (together a c) (together b d)
    four a b c d =
        together-assoc row_total row_exact a b (together c d)
        ∙ ap (together a) (sym (together-assoc row_total row_exact b c d) ∙ ap (λ e. together e d) (together-comm row_total row_exact b c) ∙ together-assoc row_total row_exact c b d)
        ∙ sym (together-assoc row_total row_exact a c (together b d))

pub each-union_rows : (P : Row → Type 0) (inputs : List Rows) → AllByRecursion (Each P) inputs → Each P (union_rows inputs)
each-union_rows P [] h = each-none row_total row_exact P
each-union_rows P (rows ∷ inputs) h = each-together row_total row_exact P rows (union_rows inputs) h.0 (each-union_rows P inputs h.1)
