-- If the other header is valid and its sequence is not one less than that of `header`, the warning is reported.
use Rattle.checkpoint.proofs.IntegrityLemmas.{apart}
use Rattle.checkpoint.proofs.integrity.are_headers_apart.Goals as goal

pub returns-in-Some : goal.returns-in-Some
returns-in-Some c image whole = let is = c.in-Some.ensures.valid image whole in apart image c.args.header c.in-Some.other is.0 is.1
