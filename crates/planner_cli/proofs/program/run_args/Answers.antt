-- Either the command line was parsed, or memory for that ran out and nothing is printed.
use Rattle.std.proofs.Common.{◌≡◌, inl, inr, refl}
use Rattle.command_line.specs.Invocations.{invocation_value}
use Rattle.clap.specs.Words.{kind_of}
use Rattle.auditor_cli.proofs.UsageLemmas.{no_memory_reported, usage_reported}
use Rattle.planner_cli.proofs.MessageLemmas.{status_can}
use Rattle.planner_cli.proofs.program.run_args.Goals as goal

pub returns-in-Ok-clause-does : goal.returns-in-Ok-clause-does
returns-in-Ok-clause-does g c = λ a positional asks.
    let read = c.in-Ok.ensures positional in
    let same : a ≡ invocation_value c.in-Ok.invocation = cc in
    let reported = c.dispatch-reported.result.0 in
    let done = c.dispatch-reported.ensures in
    rw same (inl (record {
      reported = reported;
      ends = c.status_of.ensures;
      done = done.done;
      statuses = status_can (invocation_value c.in-Ok.invocation) reported _ done.status c.status_of.ensures;
    }))

pub returns-in-Err-clause-does : goal.returns-in-Err-clause-does
returns-in-Err-clause-does g c = λ a positional asks.
    elim (c.in-Err.ensures positional) [
      | inl memory ↦
          let usage = c.print_usage-reported.ensures in
          let reported = no_memory_reported (kind_of c.in-Err.error) c.print_usage-reported.result c.status_of-in-Err.result c.args.streams.output _ c.args.streams.errors _
          memory usage.memory usage.output usage.errors c.status_of-in-Err.ensures in
          inr (reported.0, rw (reported.1, reported.2) refl, c.none.ensures)
      | inr none ↦ absurd (let both = none.0 in cc)
    ]

pub returns-in-Err-clause-usage : goal.returns-in-Err-clause-usage
returns-in-Err-clause-usage g c = λ positional none.
    let usage = c.print_usage-reported.ensures in
    let reported = usage_reported _ (kind_of c.in-Err.error) c.print_usage-reported.result c.status_of-in-Err.result c.args.streams.output _ c.args.streams.errors _ (c.in-Err.ensures positional)
    usage.status usage.output usage.errors c.status_of-in-Err.ensures in
    record {
      files = refl;
      new_files = refl;
      disks = refl;
      devices = c.none.ensures;
      input = refl;
      reads = refl;
      help = λ z. rw (reported.0 z) refl;
      mistake = λ z. rw (reported.1 z) refl;
      memory = λ z. let both = reported.2 z in rw (both.0, both.1) refl;
      statuses = reported.3;
    }
