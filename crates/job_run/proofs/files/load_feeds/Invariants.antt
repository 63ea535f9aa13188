use Rattle.std.proofs.Common.{◌≡◌, ◌≤◌, drop}
use Rattle.std.specs.List.{AllByRecursion}
use Rattle.source_lines.specs.Supply.{IsWithin}
use Rattle.job_run.proofs.Loading.{LeadTo}
use Rattle.job_run.proofs.files.load_feeds.Given as goal

abbrev pub invariant-loop-table : goal.invariant-loop-table
invariant-loop-table g l = record {
  leads : LeadTo (g.F.Shelf.holdings l.initial.shelf) l.prefix 67108864 l.tables l.left (drop l.table-index l.tables) l.feeds;
  within : AllByRecursion IsWithin l.feeds;
  small : l.left ≤ 67108864;
  same : g.F.Shelf.holdings l.shelf ≡ g.F.Shelf.holdings l.initial.shelf;
  later : g.F.Shelf.faults l.initial.shelf ≤ g.F.Shelf.faults l.shelf;
}
