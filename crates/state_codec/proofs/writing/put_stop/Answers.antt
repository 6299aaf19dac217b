-- The seven fields of a stop follow each other
use Rattle.state_codec.specs.Bytes.{number_bytes, signed_bytes}
use Rattle.state_codec.proofs.WritingLemmas.{in_six}
use Rattle.state_codec.proofs.writing.put_stop.Goals as goal

pub returns : goal.returns
returns c =
    let s = c.args.stop.now in
    rw (c.in_ok-put_u32-4.ensures, c.in_ok-put_u32-3.ensures, c.in_ok-put_u32-2.ensures, c.in_ok-put_demand.ensures, c.in_ok-put_point.ensures, c.in_ok-put_u32.ensures)
    (in_six c.args.out.now.items (number_bytes 4 s.number) (signed_bytes s.x) (signed_bytes s.y) (signed_bytes s.demand) (number_bytes 4 s.earliest)
    (number_bytes 4 s.latest) (number_bytes 4 s.service))
