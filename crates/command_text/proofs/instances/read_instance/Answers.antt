-- The result is the problem or the fault that the reading has for the text, or out of memory.
use Rattle.command_text.proofs.ReadLemmas.{read_once}
use Rattle.command_text.proofs.instances.read_instance.Goals as goal

pub returns : goal.returns
returns c reading is =
    read_once c.args.format c.args.text.now c.read_instance.result
    (reading.instance c.args.format c.args.text.now) c.read_instance.ensures.value c.read_instance.ensures.fault (is.instances c.args.format c.args.text.now)
