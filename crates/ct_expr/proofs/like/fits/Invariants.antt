use Rattle.std.proofs.Common.{◌≡◌, ◌≤◌, ◌-◌, length, drop}
use Rattle.ct_expr.specs.Like.{fits}
use Rattle.ct_expr.proofs.like.fits.Given as goal

abbrev pub invariant-places : goal.invariant-places
invariant-places l = record {
  same : fits l.part l.text ≡ fits (drop l.place l.part) (drop l.place l.text);
  within : l.place ≤ length l.part;
  room : length l.part ≤ length l.text;
}

abbrev pub decreases-places : goal.decreases-places
decreases-places l = length l.part - l.place
