-- Each warning found in the prefix is one of the image, and the image has no others.
use Rattle.checkpoint.proofs.IntegrityLemmas.{damaged_there, mixed_there}
use Rattle.checkpoint.proofs.integrity.warnings_in.Goals as goal

pub returns : goal.returns
returns c image whole = record {
  lost = c.is_header_lost.ensures image whole;
  apart = c.are_headers_apart.ensures image whole;
  damaged = damaged_there c.args.sectors c.args.prefix.now image whole c.has_damaged_record.result c.has_damaged_record.ensures;
  mixed = mixed_there c.args.sectors c.args.prefix.now image whole c.are_records_mixed.result c.are_records_mixed.ensures;
}
