-- The existence and uniqueness of readings, from the laws of the text formats.
use Rattle.std.proofs.Common.{◌≡◌, inl, inr, List, ℕ, Ok, Err, Result, ap}
use Rattle.plan_types.specs.Instance.{Instance}
use Rattle.instance_read.specs.Readable.{SpellsOrFails, TextsHaveAReading, ReadingsAreUnique}
use Rattle.instance_read.specs.declared.faults.ReadFault.{ReadFault}
use Rattle.instance_read.specs.declared.formats.Format.{Format}
use Rattle.instance_read.specs.Readings.{InstanceFault, IsReadResult, SpellsInstance}
use Rattle.instance_read.specs.Readings.{Reading as InstanceReading, IsReading as IsInstanceReading}
use Rattle.vehicle_assignment.specs.Laws.{AssignmentIsUnique, AssignmentFunctionExists}
use Rattle.command_text.specs.Laws.{ReadingsAgree, SomeReadingExists}

abbrev Reads : Format → List ℕ → Type 0
Reads format text = SpellsOrFails (SpellsInstance format text) (InstanceFault format text)

module _ (law : TextsHaveAReading) where
  read_as : (format : Format) (text : List ℕ) → Reads format text → Result Instance ReadFault
  read_as format text (inl spelled) = Ok spelled.0
  read_as format text (inr first) = Err first.0

  is_found : (format : Format) (text : List ℕ) (r : Reads format text) → IsReadResult format text (read_as format text r)
  unfolding read_as
  is_found format text (inl spelled) = spelled.1
  is_found format text (inr first) = first.1

  some_instances : (reading : InstanceReading) × IsInstanceReading reading
  some_instances = ((λ format text. read_as format text (law format text)), (λ format text. is_found format text (law format text)))

pub some_reading : TextsHaveAReading → AssignmentFunctionExists → SomeReadingExists
some_reading law plans =
    let instances = some_instances law in
    (record { instance = instances.0; plan = plans.0 }, record { instances = instances.1; plans = plans.1 })

module _ (law : ReadingsAreUnique) where
  same : (format : Format) (text : List ℕ) (r q : Result Instance ReadFault) → IsReadResult format text r → IsReadResult format text q → r ≡ q
  same format text (Ok p) (Ok q) a b = ap (λ x. Ok x) ((law format text).problems p q a b)
  same format text (Ok p) (Err f) a b = absurd ((law format text).either p f a b)
  same format text (Err f) (Ok p) a b = absurd ((law format text).either p f b a)
  same format text (Err f) (Err g) a b = ap (λ x. Err x) ((law format text).faults f g a b)

pub readings_agree : ReadingsAreUnique → AssignmentIsUnique → ReadingsAgree
readings_agree law plans reading other a b = record {
  instances = λ format text. same law format text (reading.instance format text) (other.instance format text) (a.instances format text) (b.instances format text);
  plans = λ p pins text valid. plans p pins text (reading.plan p pins text) (other.plan p pins text) (a.plans p pins text valid) (b.plans p pins text valid);
}
