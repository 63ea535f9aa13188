-- Laws of joins: of parts whose rows match within their part alone, a join is the sum.
use Rattle.std.proofs.Common.{◌≡◌, ◌<◌, ◌++◌, Bool, true, false, not, Option, Some, None, refl, sym, ap, ◌∙◌, subst}
use Rattle.std.specs.Prelude.{ℕ, option_map}
use Rattle.ct_value.specs.Bag.{none, copies}
use Rattle.ct_value.specs.Order.{row_cmp, row_total, row_exact}
use Rattle.ct_value.specs.declared.row.Row.{Row}
use Rattle.ct_change.specs.Changelog.{Rows, is_empty}
use Rattle.rel_algebra.specs.declared.join.JoinKind.{JoinKind}
use Rattle.rel_algebra.specs.Sums.{kept, together, plus, mapped, Each, sum_over}
use Rattle.rel_algebra.specs.Clauses.{rows_where}
use Rattle.rel_algebra.specs.Joins.{Matching, turned, inner_join, has_match, apart_if, semi_join, nulls, padded_if, keeps_left, keeps_right, join_rows, MatchNone, pairs_of}
use Rattle.rel_algebra.proofs.laws.Bags.{together-comm, copies-each, each-none, each-add, each-together, each-mapped, mapped-together, plus-none, plus-plus, plus-none-right, plus_parts, sum_over-together, sum_over-plus, sum_over-same, sum_over-nothing, each-sum_over}
use Rattle.rel_algebra.proofs.laws.Clauses.{rows_where-together, rows_where-same, each-rows_where}

pub inner_join-left : (match : Matching) (a b right : Rows) → inner_join match (together a b) right ≡ plus (inner_join match a right) (inner_join match b right)
inner_join-left match a b right = sum_over-together row_total row_exact row_total row_exact (λ row. sum_over (pairs_of match row) right) a b

pub inner_join-right : (match : Matching) (left c d : Rows) → inner_join match left (together c d) ≡ plus (inner_join match left c) (inner_join match left d)
inner_join-right match left c d =
    ap (λ (f : Row → Option Rows). sum_over f left) (λ i row. sum_over-together row_total row_exact row_total row_exact (pairs_of match row) c d i)
    ∙ sum_over-plus row_total row_exact row_total row_exact (λ row. sum_over (pairs_of match row) c) (λ row. sum_over (pairs_of match row) d) left

-- ---- rows that don't match

nothing_of : (row other : Row) (t : Option Bool) → t ≡ Some false → option_map (λ t. kept {R = row_cmp} t (row ++ other)) t ≡ Some none
nothing_of row other t e = ap (option_map (λ t. kept t (row ++ other))) e

pub inner_join-apart : (match : Matching) (left right : Rows) → MatchNone match left right → inner_join match left right ≡ Some none
inner_join-apart match left right apart =
    sum_over-same row_total row_exact row_total row_exact (λ row. sum_over (pairs_of match row) right) (λ row. Some none) left
    (copies-each row_total row_exact _ left (λ row there.
    sum_over-same row_total row_exact row_total row_exact (pairs_of match row) (λ other. Some none) right
    (copies-each row_total row_exact _ right (λ other stands. nothing_of row other (match row other) (apart row other there stands)))
    ∙ sum_over-nothing row_total row_exact row_total row_exact right))
    ∙ sum_over-nothing row_total row_exact row_total row_exact left

pub rows_where-apart : (test : Row → Option Bool) (rows : Rows) → ((row : Row) → 0 < copies rows row → test row ≡ Some false) → rows_where test rows ≡ Some none
rows_where-apart test rows apart =
    rows_where-same test (λ row. Some false) rows (copies-each row_total row_exact _ rows apart)
    ∙ sum_over-nothing row_total row_exact row_total row_exact rows

-- rows that don't match make no match
pub has_match-apart : (matches : Row → Option Bool) (c d : Rows) → ((other : Row) → 0 < copies d other → matches other ≡ Some false) → has_match matches (together c d) ≡ has_match matches c
has_match-apart matches c d apart = ap (option_map (λ found. not (is_empty found)))
    (rows_where-together matches c d ∙ ap (plus (rows_where matches c)) (rows_where-apart matches d apart) ∙ plus-none-right row_total row_exact (rows_where matches c))

-- ---- of two parts on each side

module _ (match : Matching) (a b c d : Rows) (apart : MatchNone match a d) (other_apart : MatchNone match b c) where
  pub inner_join-together : inner_join match (together a b) (together c d) ≡ plus (inner_join match a c) (inner_join match b d)
  inner_join-together =
      inner_join-left match a b (together c d)
      ∙ (λ i. plus ((inner_join-right match a c d ∙ ap (plus (inner_join match a c)) (inner_join-apart match a d apart) ∙ plus-none-right row_total row_exact (inner_join match a c)) i)
      ((inner_join-right match b c d ∙ ap (λ s. plus s (inner_join match b d)) (inner_join-apart match b c other_apart) ∙ plus-none row_total row_exact (inner_join match b d)) i))

  pub semi_join-together : (anti : Bool) → semi_join anti match (together a b) (together c d) ≡ plus (semi_join anti match a c) (semi_join anti match b d)
  semi_join-together anti =
      rows_where-together (λ row. option_map (apart_if anti) (has_match (match row) (together c d))) a b
      ∙ (λ i. plus (first_part i) (second_part i))
    where
      first_part : rows_where (λ row. option_map (apart_if anti) (has_match (match row) (together c d))) a ≡ semi_join anti match a c
      first_part = rows_where-same _ _ a (copies-each row_total row_exact _ a (λ row there. ap (option_map (apart_if anti)) (has_match-apart (match row) c d (λ other stands. apart row other there stands))))

      second_part : rows_where (λ row. option_map (apart_if anti) (has_match (match row) (together c d))) b ≡ semi_join anti match b d
      second_part = rows_where-same _ _ b (copies-each row_total row_exact _ b (λ row there.
          ap (option_map (apart_if anti)) (ap (has_match (match row)) (together-comm row_total row_exact c d) ∙ has_match-apart (match row) d c (λ other stands. other_apart row other there stands))))

  mapped_plus : (pad : Row → Row) (s t : Option Rows) → option_map (mapped {S = row_cmp} pad) (plus s t) ≡ plus (option_map (mapped pad) s) (option_map (mapped pad) t)
  mapped_plus pad None t = refl
  mapped_plus pad (Some s) None = refl
  mapped_plus pad (Some s) (Some t) = ap Some (mapped-together row_total row_exact row_total row_exact pad s t)

  pub padded_if-together : (outer : Bool) (pad : Row → Row) → padded_if outer pad match (together a b) (together c d) ≡ plus (padded_if outer pad match a c) (padded_if outer pad match b d)
  padded_if-together false pad = sym (plus-none row_total row_exact (Some none))
  padded_if-together true pad = ap (option_map (mapped pad)) (semi_join-together true) ∙ mapped_plus pad (semi_join true match a c) (semi_join true match b d)

pub join_rows-together : (kind : JoinKind) (left_width right_width : ℕ) (match : Matching) (a b c d : Rows) → MatchNone match a d → MatchNone match b c
    → join_rows kind left_width right_width match (together a b) (together c d) ≡ plus (join_rows kind left_width right_width match a c) (join_rows kind left_width right_width match b d)
join_rows-together kind left_width right_width match a b c d apart other_apart =
    (λ i. plus (inner_join-together match a b c d apart other_apart i)
    (plus (padded_if-together match a b c d apart other_apart (keeps_left kind) pad_right i)
    (padded_if-together (turned match) c d a b (λ row other there stands. other_apart other row stands there) (λ row other there stands. apart other row stands there) (keeps_right kind) pad_left i)))
    ∙ ap (plus (plus (inner_join match a c) (inner_join match b d))) (plus-plus row_total row_exact (left_padded a c) (left_padded b d) (right_padded c a) (right_padded d b))
    ∙ plus-plus row_total row_exact (inner_join match a c) (inner_join match b d) (plus (left_padded a c) (right_padded c a)) (plus (left_padded b d) (right_padded d b))
  where
    pad_right : Row → Row
    pad_right row = row ++ nulls right_width

    pad_left : Row → Row
    pad_left row = nulls left_width ++ row

    left_padded : Rows → Rows → Option Rows
    left_padded rows others = padded_if (keeps_left kind) pad_right match rows others

    right_padded : Rows → Rows → Option Rows
    right_padded rows others = padded_if (keeps_right kind) pad_left (turned match) rows others

-- ---- which rows a join has

-- what holds of each pair of a row of the left and one of the right
pub each-inner_join : (P Q S : Row → Type 0) (match : Matching) → ((row other : Row) → P row → Q other → S (row ++ other)) → (left right answer : Rows) → Each P left → Each Q right → inner_join match left right ≡ Some answer → Each S answer
each-inner_join P Q S match m left right answer h k e =
    each-sum_over row_total row_exact row_total row_exact P S (λ row. sum_over (pairs_of match row) right)
    (λ row c p i. each-sum_over row_total row_exact row_total row_exact Q S (pairs_of match row) (λ other d q j. made row other d p q (match row other) j) right k c i)
    left h answer e
  where
    each_pair : (row other : Row) → P row → Q other → (t : Bool) → Each {R = row_cmp} S (kept t (row ++ other))
    each_pair row other p q true = each-add row_total row_exact S none (row ++ other) (m row other p q) (each-none row_total row_exact S)
    each_pair row other p q false = each-none row_total row_exact S

    made : (row other : Row) (d : Rows) → P row → Q other → (t : Option Bool) → option_map (λ t. kept {R = row_cmp} t (row ++ other)) t ≡ Some d → Each S d
    made row other d p q None j = absurd (cc)
    made row other d p q (Some t) j = let g : kept t (row ++ other) ≡ d = cc in subst (λ (r : Rows). Each S r) g (each_pair row other p q t)

pub each-semi_join : (P : Row → Type 0) (anti : Bool) (match : Matching) (left right answer : Rows) → Each P left → semi_join anti match left right ≡ Some answer → Each P answer
each-semi_join P anti match left right answer h e = each-rows_where P (λ row. option_map (apart_if anti) (has_match (match row) right)) left answer h e

each-padded_if : (P S : Row → Type 0) (outer : Bool) (pad : Row → Row) (match : Matching) → ((row : Row) → P row → outer ≡ true → S (pad row)) → (rows others answer : Rows) → Each P rows → padded_if outer pad match rows others ≡ Some answer → Each S answer
each-padded_if P S false pad match m rows others answer h e = let i : none ≡ answer = cc in subst (λ (r : Rows). Each S r) i (each-none row_total row_exact S)
each-padded_if P S true pad match m rows others answer h e = go (semi_join true match rows others) refl e
  where
    go : (s : Option Rows) → semi_join true match rows others ≡ s → option_map (mapped {S = row_cmp} pad) s ≡ Some answer → Each S answer
    go None i j = absurd (cc)
    go (Some c) i j = let g : mapped pad c ≡ answer = cc in subst (λ (r : Rows). Each S r) g (each-mapped row_total row_exact row_total row_exact P S pad (λ row p. m row p refl) c (each-semi_join P true match rows others c h i))

-- what holds of pairs, and of padded rows of the sides that are outer
pub each-join_rows : (P Q S : Row → Type 0) (kind : JoinKind) (left_width right_width : ℕ) (match : Matching)
    → ((row other : Row) → P row → Q other → S (row ++ other)) → ((row : Row) → P row → keeps_left kind ≡ true → S (row ++ nulls right_width)) → ((other : Row) → Q other → keeps_right kind ≡ true → S (nulls left_width ++ other))
    → (left right answer : Rows) → Each P left → Each Q right → join_rows kind left_width right_width match left right ≡ Some answer → Each S answer
each-join_rows P Q S kind left_width right_width match pair left_pad right_pad left right answer h k e =
    let p = plus_parts row_total row_exact (inner_join match left right) _ answer e in
    let q = plus_parts row_total row_exact (padded_if (keeps_left kind) (λ row. row ++ nulls right_width) match left right) _ p.1 p.2.1 in
    subst (λ (r : Rows). Each S r) (sym p.2.2) (each-together row_total row_exact S p.0 p.1
    (each-inner_join P Q S match pair left right p.0 h k p.2.0)
    (subst (λ (r : Rows). Each S r) (sym q.2.2) (each-together row_total row_exact S q.0 q.1
    (each-padded_if P S (keeps_left kind) (λ row. row ++ nulls right_width) match left_pad left right q.0 h q.2.0)
    (each-padded_if Q S (keeps_right kind) (λ row. nulls left_width ++ row) (turned match) right_pad right left q.1 k q.2.1))))
