-- Sets of columns, as lists in ascending order, and families of such sets.
use Rattle.std.specs.Prelude.{ℕ, ◌==◌, Bool, not, ◌&&◌, ◌||◌, List, [], ◌++◌, length, take, map, filter, fold}
use Rattle.std.specs.List.{list_any, list_all, flat_map}
use Rattle.std.specs.Ordering.{nat_cmp, then_cmp, on}
use Rattle.std.specs.Cmp.{IsTotalOrder, nat_cmp_total, on_total, then_total}
use Rattle.std.specs.Cmp.Lexicographic.{slice_cmp, lists_total}
use Rattle.std.specs.BTreeSet.{insert_key}
use Rattle.std.specs.declared.cmp.Ordering.{Ordering}

-- ---- sets

-- the columns of a list, in ascending order and each once
abbrev pub set_of : List ℕ → List ℕ
set_of cols = fold (insert_key nat_cmp) [] cols

-- the columns of both sets
abbrev pub union : List ℕ → List ℕ → List ℕ
union s t = set_of (s ++ t)

-- whether each column of s is in t
abbrev pub is_within : List ℕ → List ℕ → Bool
is_within s t = list_all (λ col. list_any (λ other. other == col) t) s

-- whether two lists have the same columns
abbrev pub same_set : List ℕ → List ℕ → Bool
same_set s t = is_within s t && is_within t s

-- ---- families

-- by size, and then by the columns
abbrev pub set_cmp : List ℕ → List ℕ → Ordering
set_cmp = then_cmp (on length nat_cmp) (slice_cmp nat_cmp)

pub set_total : IsTotalOrder set_cmp
set_total = then_total (on_total length nat_cmp_total) (lists_total nat_cmp_total)

-- whether t is no smaller set within s
abbrev pub is_no_part : List ℕ → List ℕ → Bool
is_no_part s t = not (is_within t s) || is_within s t

-- whether s contains no other of these sets
abbrev pub is_least : List (List ℕ) → List ℕ → Bool
is_least sets s = list_all (is_no_part s) sets

-- the most sets that a family keeps
abbrev pub largest_family : ℕ
largest_family = 16

-- the sets that contain no other, in order and each once, and of these the first few
abbrev pub family : List (List ℕ) → List (List ℕ)
family sets = take largest_family (fold (insert_key set_cmp) [] (filter (is_least sets) sets))

-- each set of one family joined with each of another
abbrev pub unions : List (List ℕ) → List (List ℕ) → List (List ℕ)
unions ones others = flat_map (λ s. map (union s) others) ones

-- whether one of these sets is within a set
abbrev pub has_within : List (List ℕ) → List ℕ → Bool
has_within sets cols = list_any (λ s. is_within s cols) sets
