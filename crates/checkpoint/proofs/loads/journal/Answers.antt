-- The records are the journal of the state, unless a sector after them is stray, or they add a stop whose
-- number is too high for the version.
use Rattle.std.proofs.Common.{inl, inr, List, sym, ◌≡◌, ℕ, length, subst, arith}
use Rattle.command_types.specs.declared.commands.Command.{Command}
use Rattle.checkpoint.specs.Numbers.{HaveValidNumbers}
use Rattle.checkpoint.specs.Reads.{IsClearFrom, HasStrayFrom}
use Rattle.checkpoint.proofs.loads.journal.Goals as goal

pub returns-in-Some-clause-found : goal.returns-in-Some-clause-found
returns-in-Some-clause-found c =
    let counted : c.len.result ≡ length c.in-Ok.commands.items = omega (arith, c.len.ensures, c.in-Ok.commands.ok.0) in
    record {
      commands = c.in-Ok.commands.items;
      records = c.in-Ok.ensures;
      why = inl (subst (λ (n : ℕ). HasStrayFrom n c.args.prefix.now c.args.sequence) counted c.in-Some.ensures);
    }

pub returns-then-have_valid_numbers-clause-found : goal.returns-then-have_valid_numbers-clause-found
returns-then-have_valid_numbers-clause-found c =
    let counted : c.len.result ≡ length c.in-Ok.commands.items = omega (arith, c.len.ensures, c.in-Ok.commands.ok.0) in
    record {
      records = c.in-Ok.ensures;
      clear = subst (λ (n : ℕ). IsClearFrom n c.args.prefix.now c.args.sequence) counted c.in-None.ensures;
      numbers = subst (λ (l : List Command). HaveValidNumbers c.args.version c.args.state.now l) c.deref.ensures.value (c.have_valid_numbers.ensures.0 c.if-have_valid_numbers.true);
    }

pub returns-else-have_valid_numbers-clause-found : goal.returns-else-have_valid_numbers-clause-found
returns-else-have_valid_numbers-clause-found c = record {
  commands = c.in-Ok.commands.items;
  records = c.in-Ok.ensures;
  why = inr
      (λ numbers.
      let yes = c.have_valid_numbers.ensures.1 (subst (λ (l : List Command). HaveValidNumbers c.args.version c.args.state.now l) (sym c.deref.ensures.value) numbers) in
      cc (yes, c.if-have_valid_numbers.false));
}
