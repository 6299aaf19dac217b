-- A point is put into the table at its node, which had no point.
use Rattle.std.proofs.Common.{ap, ◌∙◌, refl}
use Rattle.std.proofs.lemmas.List.{with_items_is}
use Rattle.text_lines.specs.Words.{words_of}
use Rattle.instance_read.specs.Drafts.{nodes_in}
use Rattle.instance_read.specs.Vrp.{coordinate_limits}
use Rattle.instance_read.proofs.NodeLemmas.{put_is, takes_point}
use Rattle.instance_read.proofs.vrp_draft.VrpDraft.take_coordinates.Goals as goal

pub returns : goal.returns
returns c =
    let old = c.args.self.now in
    let read = c.in_ok-node.ensures in
    let held = with_items_is old.coordinates c.put_once.new.table (c.put_once.auto.table ∙ c.deref_mut.ensures.len) in
    put_is 3 (coordinate_limits old.scale c.node_count.result) (coordinate_limits old.scale (nodes_in old)) (ap (coordinate_limits old.scale) c.node_count.ensures)
    (words_of c.args.text.now) read.read.0 c.in_ok-node.node read.within.0 read.read.1 old.coordinates.items _ _ c.deref_mut.ensures.value _ c.put_once.result c.put_once.ensures
    (λ put. takes_point old _ c.args.text.now c.requires.draft c.in_ok-node.point read.within.2 read.read.2 refl (held ∙ put))
