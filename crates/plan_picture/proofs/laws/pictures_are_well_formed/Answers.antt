-- Pictures of plans and of single routes are well-formed.
use Rattle.plan_picture.proofs.PictureReadLemmas.{pictures_are_well_formed, route_pictures_are_well_formed}
use Rattle.plan_picture.proofs.laws.pictures_are_well_formed.Goals as goal

pub returns : goal.returns
returns c = record { whole = pictures_are_well_formed; route = route_pictures_are_well_formed }
