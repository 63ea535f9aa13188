-- An ordered map by names, seen as a finite map.
use Rattle.std.proofs.Common.{◌≡◌, cond, Some}
use Rattle.std.specs.Ordering.{nat_cmp}
use Rattle.std.specs.Cmp.Lexicographic.{slice_cmp, nat_list_cmp_total}
use Rattle.std.specs.BTreeMap as tree
use Rattle.std.specs.BTreeMap.{BTreeMap, is_at}
use Rattle.std.specs.FinMap.{get, insert, nat_cmp-IsAntisymmetric, slice_cmp-IsAntisymmetric}
use Rattle.ct_value.specs.declared.text.Text.{Text}
use Rattle.ct_value.specs.declared.bytes.Bytes.{Bytes}
use Rattle.ct_value.specs.Maps.{map_of}
use Rattle.ct_value.proofs.laws.Maps.{get-map_of, put-map_of}

pub get-by_name : (m : BTreeMap Text Bytes) (q : Text) → get (map_of (slice_cmp nat_cmp) m) q ≡ tree.get (slice_cmp nat_cmp) m q
get-by_name m q = get-map_of nat_list_cmp_total (slice_cmp-IsAntisymmetric nat_cmp-IsAntisymmetric) m q

pub put-by_name : (m n : BTreeMap Text Bytes) (k : Text) (v : Bytes) → ((q : Text) → tree.get (slice_cmp nat_cmp) n q ≡ cond (is_at (slice_cmp nat_cmp k) q) (Some v) (tree.get (slice_cmp nat_cmp) m q)) → map_of (slice_cmp nat_cmp) n ≡ insert (map_of (slice_cmp nat_cmp) m) k v
put-by_name = put-map_of nat_list_cmp_total (slice_cmp-IsAntisymmetric nat_cmp-IsAntisymmetric)
