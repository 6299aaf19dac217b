-- The argument accepts exactly the given names.
use Rattle.std.proofs.Common.{◌≡◌, ◌∙◌, ap, ap₂, Option, Some}
use Rattle.clap.specs.Words.{Rule, rule_of}
use Rattle.clap.specs.declared.builder.Arg.{Arg}
use Rattle.clap.specs.declared.builder.ValueParser.{ValueParser}
use Rattle.clap.specs.declared.builder.ValueParser.TheVariants.{Names}
use Rattle.command_line.proofs.commands.kind_arg.Goals as goal

pub returns : goal.returns
returns c =
    let given = c.value_parser.ensures.given in
    let parser_is : c.value_parser.result.value_parser ≡ Some (Names c.args.kinds) = given.1 ∙ ap (λ (p : ValueParser). Some p) given.2 in
    record {
      rule = ap rule_of c.value_parser.ensures.others ∙ ap₂ (λ (r : Rule) (p : Option ValueParser). record r { parser = p }) c.required_arg.ensures.rule parser_is;
      local = ap (λ (a : Arg). a.global) c.value_parser.ensures.others ∙ c.required_arg.ensures.local;
    }
