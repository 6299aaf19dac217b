-- A binary search for a name that is not in the list ends between the smaller and the greater names.
use Rattle.std.proofs.Common.{Ok, Err}
use Rattle.plan_types.proofs.InsertLemmas.{search_split}
use Rattle.plan_types.proofs.problems.insertion_place.Goals as goal

pub returns-in-Ok-clause-lesser : goal.returns-in-Ok-clause-lesser
returns-in-Ok-clause-lesser c =
    absurd (search_split c.args.name c.args.requests.now.entries c.requires.ascending c.requires.absent (Ok c.in-Ok.place) c.in-Ok.ensures.position)

pub returns-in-Ok-clause-greater : goal.returns-in-Ok-clause-greater
returns-in-Ok-clause-greater c =
    absurd (search_split c.args.name c.args.requests.now.entries c.requires.ascending c.requires.absent (Ok c.in-Ok.place) c.in-Ok.ensures.position)

pub returns-in-Err-clause-lesser : goal.returns-in-Err-clause-lesser
returns-in-Err-clause-lesser c =
    (search_split c.args.name c.args.requests.now.entries c.requires.ascending c.requires.absent (Err c.in-Err.place) c.in-Err.ensures.position).0

pub returns-in-Err-clause-greater : goal.returns-in-Err-clause-greater
returns-in-Err-clause-greater c =
    (search_split c.args.name c.args.requests.now.entries c.requires.ascending c.requires.absent (Err c.in-Err.place) c.in-Err.ensures.position).1
