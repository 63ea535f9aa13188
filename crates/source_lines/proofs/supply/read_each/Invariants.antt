use Rattle.std.proofs.Common.{◌≡◌, ◌++◌, drop, length}
use Rattle.std.specs.List.{AllByRecursion}
use Rattle.source_lines.specs.Supply.{IsWithin, unread_from}
use Rattle.source_lines.proofs.supply.read_each.Given as goal

abbrev pub invariant-loop-bytes : goal.invariant-loop-bytes
invariant-loop-bytes l = record {
  within : AllByRecursion IsWithin (drop l.bytes-index l.files);
  so_far : unread_from 0 l.files ≡ l.readers.items ++ unread_from (length l.readers.items) (drop l.bytes-index l.files);
}
