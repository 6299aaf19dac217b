-- If a command line requests something, it fails to parse only if memory ran out, and then nothing is printed.
-- For every other command line, help or an error is printed.
use Rattle.std.proofs.Common.{inl, inr, refl}
use Rattle.clap.specs.Words.{kind_of}
use Rattle.auditor_cli.proofs.UsageLemmas.{no_memory_reported, usage_reported}
use Rattle.auditor_cli.proofs.program.audit_args.Goals as goal

pub returns-in-Err-clause-does : goal.returns-in-Err-clause-does
returns-in-Err-clause-does g c = λ a positional asks.
    elim (c.in-Err.ensures positional) [
      | inl memory ↦
          let usage = c.print_usage.ensures in
          let reported = no_memory_reported (kind_of c.in-Err.error) c.print_usage.result c.status_of-in-Err.result _ _ _ _ memory usage.memory usage.output usage.errors c.status_of-in-Err.ensures in
          inr (reported.0, rw (reported.1, reported.2) refl)
      | inr none ↦ absurd (let both = none.0 in cc)
    ]

pub returns-in-Err-clause-usage : goal.returns-in-Err-clause-usage
returns-in-Err-clause-usage g c = λ positional none.
    let usage = c.print_usage.ensures in
    let reported = usage_reported _ (kind_of c.in-Err.error) c.print_usage.result c.status_of-in-Err.result _ _ _ _
    (c.in-Err.ensures positional) usage.status usage.output usage.errors c.status_of-in-Err.ensures in
    record {
      files = refl;
      help = λ z. rw (reported.0 z) refl;
      mistake = λ z. rw (reported.1 z) refl;
      memory = λ z. let both = reported.2 z in rw (both.0, both.1) refl;
      statuses = reported.3;
    }
