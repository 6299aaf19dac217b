-- Before the calls since the last sync, a sector has one possible content. Each of these calls that writes to
-- the sector adds one more. So in the crash image, each sector has the chosen one of its possible contents.
use Rattle.std.proofs.Common.{◌≡◌, ◌∙◌, ◌∷◌, [], ◌-◌, ◌/◌, ◌%◌, ℕ, List, length, map, take, drop, ap, sym, subst, arith}
use Rattle.std.specs.Prelude.{slice_index, slice_index_or}
use Rattle.std.specs.List.{flat_map, filter_map}
use Rattle.std.proofs.lemmas.List.{take_rest}
use Rattle.sector_disk.specs.declared.mem_device.Call.{Call as Kept}
use Rattle.sector_disk.specs.Image.{sector}
use Rattle.sector_disk.specs.Model.{settled, run}
use Rattle.sector_disk.specs.Memory.{Call, events_of}
use Rattle.sector_disk.specs.Consistency.{call_of}
use Rattle.sector_disk.specs.Crash.{content_of, chosen}
use Rattle.sector_disk.proofs.ConsistencySteps.{calls_split, fit_front}
use Rattle.sector_disk.proofs.Contents.{contents-stopped}
use Rattle.sector_disk.proofs.mem_device.crash_image.Goals as goal

pub replay-requires : goal.replay-requires
replay-requires c = fit_front (length c.args.image.now) c.args.calls.now c.synced_calls-synced.result c.requires

pub returns : goal.returns
returns c = λ i lt.
    let start = c.args.image.now in
    let calls = c.args.calls.now in
    let n = c.synced_calls-synced.result in
    let front = map call_of (take n calls) in
    let back = map call_of (drop n calls) in
    let choice = slice_index c.args.choices.now i in
    let contents : (run (settled start) (flat_map events_of (map call_of calls))).contents i ≡ sector i c.replay.new.image ∷ filter_map (content_of i) back =
    ap (λ (l : List Call). (run (settled start) (flat_map events_of l)).contents i) (calls_split calls n)
    ∙ contents-stopped start front back i c.synced_calls-synced.ensures.settled c.synced_calls-synced.ensures.rest
    ∙ ap (λ (image : List ℕ). sector i image ∷ filter_map (content_of i) back) (sym c.replay.ensures) in
    let size : length c.replay.new.image / 512 ≡ length start / 512 = ap (λ (m : ℕ). m / 512) c.replay.auto.image in
    let rest : take (length calls - n) (drop n calls) ≡ drop n calls = take_rest calls n in
    let taken : sector i c.choose.new.image ≡ chosen (sector i c.replay.new.image) (filter_map (content_of i) back) choice =
    c.choose.ensures i (omega (arith, lt, size))
    ∙ ap (λ (l : List Kept). chosen (sector i c.replay.new.image) (filter_map (content_of i) (map call_of l)) choice) rest in
    subst (λ (l : List (List ℕ)). sector i c.choose.new.image ≡ slice_index_or l (choice % length l) []) (sym contents) taken
