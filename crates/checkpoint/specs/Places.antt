-- The place of a new store, and the places after a record and after a snapshot.
use Rattle.std.specs.Prelude.{◌+◌}
use Rattle.checkpoint.specs.declared.places.Place.{Place}

abbrev pub first_place : Place
first_place = record { sequence = 1; used = 0 }

abbrev pub place_after_record : Place → Place
place_after_record place = record { sequence = place.sequence; used = place.used + 1 }

abbrev pub place_after_snapshot : Place → Place
place_after_snapshot place = record { sequence = place.sequence + 1; used = 0 }
