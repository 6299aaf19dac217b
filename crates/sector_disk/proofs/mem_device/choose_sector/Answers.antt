-- The content with the chosen number exists. The call puts it into the sector, and changes no other sector.
use Rattle.std.proofs.Common.{◌≡◌, ⊎_elim, ◌∙◌, ◌+◌, ◌*◌, ◌%◌, ◌<◌, ◌≤◌, ℕ, length, map, sym, ap, arith}
use Rattle.std.specs.List.{filter_map}
use Rattle.std.proofs.lemmas.List.{take_all}
use Rattle.sector_disk.specs.Image.{sector, written}
use Rattle.sector_disk.specs.ImageLaws.{sector-written_inside, sector-written_cases}
use Rattle.sector_disk.specs.Consistency.{call_of}
use Rattle.sector_disk.specs.Crash.{content_of}
use Rattle.sector_disk.proofs.Contents.{chosen_later, chosen_there}
use Rattle.sector_disk.proofs.Steps.{is_none}
use Rattle.sector_disk.proofs.mem_device.choose_sector.Goals as goal

pub returns-in-Some-clause-chosen : goal.returns-in-Some-clause-chosen
returns-in-Some-clause-chosen c =
    let image = c.args.image.now in
    let index = c.args.index in
    let since = filter_map (content_of index) (map call_of c.args.unsynced.now) in
    let content = c.in-Some.content.now in
    let whole : length content ≡ 512 * 1 = omega (arith, c.in-Some.ensures.size) in
    let inside : 512 * index + 512 * 1 ≤ length image = omega (arith, c.requires) in
    ap (sector index) c.put.ensures
    ∙ ap (λ (n : ℕ). sector n (written index content image)) (omega arith)
    ∙ sector-written_inside index 1 content image whole inside 0 (omega arith)
    ∙ take_all 512 content (omega (arith, c.in-Some.ensures.size))
    ∙ sym (chosen_later (sector index image) since c.args.choice c.count_for.result c.count_for.ensures.count content
    (omega (arith, c.if-number-eq0.false)) c.in-Some.ensures.content)

pub returns-in-Some-clause-others : goal.returns-in-Some-clause-others
returns-in-Some-clause-others c = λ i other.
    let image = c.args.image.now in
    let index = c.args.index in
    let content = c.in-Some.content.now in
    let whole : length content ≡ 512 * 1 = omega (arith, c.in-Some.ensures.size) in
    let inside : 512 * index + 512 * 1 ≤ length image = omega (arith, c.requires) in
    ap (sector i) c.put.ensures
    ∙ ⊎_elim (λ (this : (j : ℕ) × (i ≡ index + j) × (j < 1)). absurd (other (omega (arith, this.1, this.2))))
    (λ (same : sector i (written index content image) ≡ sector i image). same) (sector-written_cases index 1 content image whole inside i)

pub returns-in_default-clause-chosen : goal.returns-in_default-clause-chosen
returns-in_default-clause-chosen c =
    let synced = sector c.args.index c.args.image.now in
    let since = filter_map (content_of c.args.index) (map call_of c.args.unsynced.now) in
    let later : 0 < c.args.choice % (c.count_for.result + 1) = omega (arith, c.if-number-eq0.false) in
    absurd (chosen_there synced since c.args.choice c.count_for.result c.count_for.ensures.count later
    (sym c.nth_content.ensures.content ∙ is_none c.nth_content.result c.in_default.not-Some))
