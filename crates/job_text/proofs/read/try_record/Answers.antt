use Rattle.csv.specs.Records.{fields_of}
use Rattle.job_text.proofs.Readers.{takes-read}
use Rattle.job_text.proofs.read.try_record.Goals as goal

pub returns : goal.returns
returns g c =
    let e = c.in-Ok.ensures in
    takes-read g.R.Read.remaining c.args.reader.now c.read_byte_record.new.self c.in-Ok.found (fields_of c.read_byte_record.new.row) c.requires
    e.goes e.flexible (e.ready c.requires.untrimmed) (e.reads c.requires.untrimmed c.requires.ready)
