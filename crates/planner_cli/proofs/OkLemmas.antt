-- If a byte of `ok` was written, all calls of the reported command had finished.
use Rattle.std.proofs.Common.{◌≡◌, ◌∙◌, ℕ, ◌+◌, ◌≤◌, Bool, true, ◌&&◌, cond, List, [], ◌∷◌, ◌++◌, take, Result, Ok, Err, refl, sym, ap, subst, arith}
use Rattle.std.specs.Prelude.{◌≢◌, length, nat_le, is_ok, codes, ⊤}
use Rattle.std.specs.List.{AllByRecursion}
use Rattle.std.specs.declared.io.Error.{Error}
use Rattle.std.proofs.lemmas.Bool.{le-leb}
use Rattle.std.proofs.lemmas.List.{append_cancel_left}
use Rattle.std.proofs.lemmas.List.Sums.{sum_by-cons}
use Rattle.command_core.specs.Effects.{effect}
use Rattle.command_core.specs.Runs.{after}
use Rattle.command_types.specs.declared.commands.Command.{Command}
use Rattle.command_types.specs.declared.states.State.{State}
use Rattle.command_server.specs.Streams.{Event, Put, Stream, put_by}
use Rattle.command_server.specs.AnswerOrder.{calls_at}
use Rattle.command_text.specs.Answers.{line}
use Rattle.planner_cli.specs.OkLaws.{OkFollowsCommand, OkFollowsFormat, IsWrittenBy}
use Rattle.planner_cli.specs.Messages.{PrintsOk}
use Rattle.recover.specs.Moments.{RunLeaves, RecoversToPrefix}
use Rattle.recover.specs.Replies.{acknowledged_count, is_acknowledged, kept_commands, kept_first}
use Rattle.recover.specs.RecoversTo.{RecoversTo}
use Rattle.recover.specs.declared.denials.Denial.{Denial}
use Rattle.recover.specs.declared.replies.Reply.{Reply}
use Rattle.sector_disk.specs.declared.sectors.Sectors as sectors
use Rattle.state_codec.specs.declared.version.Version.TheVariants.{Two}

-- If a part of the only text was written when at most m calls had finished, the number recorded with the text is
-- at most m.
one_put : (calls m : ℕ) (text : List ℕ) (first others : List Event) → first ++ others ≡ Put calls text ∷ [] → AllByRecursion (λ event. calls_at event ≤ m) first → put_by first ≢ []
    → calls ≤ m
one_put calls m text [] others is early some = absurd (some refl)
one_put calls m text (event ∷ rest) others is early some =
    let same : event ≡ Put calls text = cc in
    subst (λ (e : Event). calls_at e ≤ m) same early.0

finished : (calls m : ℕ) (before after : Stream) (reported : Result ℕ Error) → PrintsOk calls before after reported → IsWrittenBy m before after → calls ≤ m
finished calls m before after (Ok status) tells by =
    one_put calls m (line (codes "ok")) by.first by.others (append_cancel_left before.events (by.first ++ by.others) _ (sym by.noted ∙ tells.1.noted)) by.early by.some
finished calls m before after (Err error) tells by =
    one_put calls m (take tells.1.len (line (codes "ok"))) by.first by.others (append_cancel_left before.events (by.first ++ by.others) _ (sym by.noted ∙ tells.1.put.noted)) by.early by.some

-- If the only command was acknowledged, the image recovers to the state after it.
one_done : (state : State) (command : Command) (commands : List Command) (acknowledged : ℕ) (image : List ℕ) → commands ≡ command ∷ [] → acknowledged ≡ 1
    → RecoversToPrefix state commands acknowledged image → RecoversTo Two image (effect state command)
one_done state command commands acknowledged image all one some =
    let most : length commands ≡ 1 = ap length all in
    let count : some.count ≡ 1 = omega (arith, one, most, some.all_acknowledged, some.within) in
    let same : take some.count commands ≡ command ∷ [] = ap (λ (k : ℕ). take k commands) count ∙ ap (take 1) all in
    subst (RecoversTo Two image) (ap (after state) same) some.recovers

-- If a command was answered with success when at most m calls had finished, an image after m calls recovers to
-- the state after the command.
acknowledged : (state : State) (command : Command) (reply : Reply) (done : ⊤) (m : ℕ) (image : List ℕ) → reply.answer ≡ Ok done → reply.calls ≤ m
    → RunLeaves state (command ∷ []) (reply ∷ []) m image → RecoversTo Two image (effect state command)
acknowledged state command reply done m image answered early leaves =
    let all : kept_commands (command ∷ []) (reply ∷ []) ≡ command ∷ [] = ap (λ (a : Result ⊤ Denial). kept_first command a []) answered in
    let is : is_acknowledged m reply ≡ true = ap (λ (a : Result ⊤ Denial). is_ok a && nat_le reply.calls m) answered ∙ le-leb reply.calls m early in
    let one : acknowledged_count m (reply ∷ []) ≡ 1 = sum_by-cons (λ r. cond (is_acknowledged m r) 1 0) reply [] ∙ ap (λ (b : Bool). cond b 1 0 + acknowledged_count m []) is in
    one_done state command (kept_commands (command ∷ []) (reply ∷ [])) (acknowledged_count m (reply ∷ [])) image all one leaves

module _ {D : Type 0} (on : sectors.Ghosts D) where
  pub made_before : OkFollowsFormat on
  made_before state old new place before after reported made tells honest m image left by =
      let moment = (made.moments honest).each m image left in
      let late : on.calls new ≤ m = finished (on.calls new) m before after reported tells by in
      moment.done (omega (arith, late, moment.to, made.finished))

  pub done_before : OkFollowsCommand on
  done_before old new command reply done before after reported applied whole answered tells honest m image left by =
      let late : on.calls new.device ≤ m = finished (on.calls new.device) m before after reported tells by in
      acknowledged old.state command reply done m image answered (omega (arith, late, applied.count)) ((applied.moments whole honest).each m image left)
