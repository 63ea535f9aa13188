use Rattle.std.proofs.Common.{◌≡◌, ◌≤◌, ℕ, List, drop, length}
use Rattle.std.specs.List.{position_from}
use Rattle.job_text.specs.Names.{place_of}
use Rattle.job_text.proofs.Names.{is_named}
use Rattle.job_text.proofs.named.places_of.Given as goal

abbrev pub invariant-place : goal.invariant-place
invariant-place l = record {
  within : l.place ≤ length l.sources;
  found : (name : List ℕ) → place_of l.places name ≡ position_from (is_named name) l.place (drop l.place l.sources);
}

abbrev pub decreases-place : goal.decreases-place
decreases-place l = l.place
