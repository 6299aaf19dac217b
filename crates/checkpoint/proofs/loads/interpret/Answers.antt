-- If the snapshot decodes and the journal belongs to its state, the image holds them. Otherwise the fault is
-- the one of the image.
use Rattle.std.proofs.Common.{◌≡◌, ℕ, List, Ok, sym, ◌∙◌, subst}
use Rattle.state_codec.specs.Bytes.{state_bytes}
use Rattle.state_codec.specs.DecodeResults.{Decodes}
use Rattle.checkpoint.specs.Stores.{snapshot_in}
use Rattle.checkpoint.specs.Reads.{IsImagePrefix}
use Rattle.checkpoint.specs.Holds.{Holds, layout_of}
use Rattle.checkpoint.specs.InvalidImages.{IsContentFault, HoldsNothing, UnlessReadFailed}
use Rattle.checkpoint.proofs.LoadLemmas.{journal_refused, codec_refused, of_bytes}
use Rattle.checkpoint.proofs.loads.interpret.Goals as goal

pub returns-in-Ok-clause-found : goal.returns-in-Ok-clause-found
returns-in-Ok-clause-found c sectors image parts =
    let header = c.args.opened.now.header in
    let decoded : Decodes c.args.version c.args.bytes.now (Ok c.in-Ok.state) = subst (Decodes c.args.version c.args.bytes.now) c.in-Ok.is c.requires.decodes in
    let whole : IsImagePrefix sectors c.deref.result.now image = subst (λ (f : List ℕ). IsImagePrefix sectors f image) (sym c.deref.ensures.value) parts.whole in
    let snapshot : snapshot_in (layout_of c.args.version) image header.sequence header.length ≡ state_bytes c.args.version c.in-Ok.state = sym parts.snapshot ∙ decoded.0 in
    journal_refused (λ loaded. Holds c.args.version image loaded.state loaded.commands.items loaded.place) c.args.version image header c.in-Ok.state parts.counts
    (λ journal. record { state = c.in-Ok.state; snapshot = snapshot; facts = c.load_journal.ensures.facts; reported = decoded.1; journal = journal })
    c.load_journal.result c.load_journal.ensures.fails (c.load_journal.ensures.found sectors image whole parts.counts snapshot decoded.1)

pub returns-in-Err : goal.returns-in-Err
returns-in-Err c = record {
  fails = subst IsContentFault (sym c.store_fault_of.ensures) (of_bytes c.in-Err.fault);
  well_formed = λ sectors fits. tt;
  found = λ sectors image parts. subst (UnlessReadFailed (HoldsNothing c.args.version image)) (sym c.store_fault_of.ensures)
      (codec_refused c.args.version image c.args.opened.now.header c.args.bytes.now parts.counts parts.snapshot c.in-Err.fault
      (subst (Decodes c.args.version c.args.bytes.now) c.in-Err.is c.requires.decodes));
}
