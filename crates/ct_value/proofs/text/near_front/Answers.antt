use Rattle.ct_value.proofs.Fronts.{near_is}
use Rattle.ct_value.proofs.text.near_front.Goals as goal

pub returns : goal.returns
returns c = near_is c.args.bytes.now c.args.len c.from_be_bytes-eight.result c.min.result c.told-bytes c.fits-bytes c.min.ensures c.from_be_bytes-eight.ensures
