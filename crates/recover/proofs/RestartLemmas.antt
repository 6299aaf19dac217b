-- Consecutive restarts are links.
use Rattle.std.proofs.Common.{◌≡◌, ℕ, suc, List, [], ◌∷◌, ◌++◌, length, take, refl, sym, ◌∙◌, ap, subst, append-nil}
use Rattle.std.specs.Prelude.{Result, Ok, Err, map}
use Rattle.std.proofs.Math.Seq.{take-append_seam}
use Rattle.sector_disk.specs.MemDevice.{memory}
use Rattle.sector_disk.specs.Memory.{MayLeave}
use Rattle.sector_disk.specs.declared.mem_device.MemDevice.{MemDevice}
use Rattle.plan_audit.specs.Locality.{PassesDecidesTheVerdict}
use Rattle.command_core.specs.RunLaws.{RunsKeepInvariants, PlansNeverCostMore}
use Rattle.command_types.specs.declared.states.State.{State}
use Rattle.command_types.specs.declared.commands.Command.{Command}
use Rattle.checkpoint.specs.declared.faults.StoreFault.{StoreFault}
use Rattle.state_codec.specs.declared.version.Version.TheVariants.{Two}
use Rattle.recover.specs.declared.replies.Run.{Run}
use Rattle.recover.specs.declared.rounds.RoundsFault.{RoundsFault}
use Rattle.recover.specs.declared.rounds.RoundsFault.TheVariants as rounds
use Rattle.recover.specs.declared.restarts.Restart.{Restart}
use Rattle.recover.specs.RecoversTo.{RecoversTo}
use Rattle.recover.specs.Replies.{kept_commands}
use Rattle.recover.specs.Moments.{RecoversToPrefix}
use Rattle.recover.specs.Sessions.{SessionValue}
use Rattle.recover.specs.Headline.{IsRecovered}
use Rattle.recover.specs.Links.{Restart as Link, AreLinked, LinksCompose}
use Rattle.recover.specs.Rounds.{seen_in, count_ok, IsMemoryOpened, IsUnbegun}
use Rattle.recover.specs.Restarts.{CarriesOut, IsRestart, IsNoRestart, AreRestarts, EndsRestarts, IsFirstOpened, AreJoined, CutsRestarts, kept_by}
use Rattle.recover.proofs.Headlines.{recovered, recovered_is_state}
use Rattle.recover.proofs.RoundLemmas.{reads_possible}

-- The kept commands and the acknowledged count of each link.
abbrev runs_of_links : List Link → List (List Command × ℕ)
runs_of_links links = map (λ link. (link.commands, link.acknowledged)) links

-- A run that began in this state kept these commands. The recovered ones lead to the state that the next
-- opening returned, and so on up to the last state.
record GoesOn (begun : State) (commands : List Command) (acknowledged : ℕ) (restarts : List Restart) (runs : List (Result Run StoreFault)) (last : State) : Type 0 where
  pub given : State
  pub recovered : IsRecovered begun commands acknowledged given
  pub links : List Link
  pub one_each : runs_of_links links ≡ kept_by restarts runs
  pub linked : AreLinked given links last

-- The first opening that succeeds recovers a state from an image that a crash may leave. The recovered commands
-- of each run lead from this state to the last one.
record Begins (first device : MemDevice) (restarts : List Restart) (runs : List (Result Run StoreFault)) (last : State) : Type 0 where
  pub image : List ℕ
  pub possible : MayLeave (memory first) image
  pub seen : IsFirstOpened runs → image ≡ seen_in device
  pub begun : State
  pub recovers : RecoversTo Two image begun
  pub links : List Link
  pub one_each : runs_of_links links ≡ kept_by restarts runs
  pub linked : AreLinked begun links last

module _ (keep : RunsKeepInvariants) (never_more : PlansNeverCostMore) (say : PassesDecidesTheVerdict) where
  -- A run and the opening of the device that it left are a link.
  link_to : (begun : State) (commands : List Command) (acknowledged : ℕ) (device : MemDevice) (session : SessionValue MemDevice)
      → ((image : List ℕ) → MayLeave (memory device) image → RecoversToPrefix begun commands acknowledged image) → IsMemoryOpened device session → IsRecovered begun commands acknowledged session.state
  link_to begun commands acknowledged device session images opened =
      let stop = images (seen_in device) (reads_possible device) in
      recovered keep never_more say begun commands acknowledged (seen_in device) stop session.state (opened.alone _ stop.recovers)

  goes_on : (restarts : List Restart) (runs : List (Result Run StoreFault)) (device left : MemDevice) (session : SessionValue MemDevice)
      → AreRestarts device restarts runs left → IsMemoryOpened left session → (begun : State) (commands : List Command) (acknowledged : ℕ)
      → ((image : List ℕ) → MayLeave (memory device) image → RecoversToPrefix begun commands acknowledged image) → GoesOn begun commands acknowledged restarts runs session.state
  goes_on [] [] device left session are opened begun commands acknowledged images = record {
    given = session.state;
    recovered = link_to begun commands acknowledged device session images (subst (λ (d : MemDevice). IsMemoryOpened d session) are opened);
    links = [];
    one_each = refl;
    linked = refl;
  }
  goes_on (restart ∷ restarts) (Ok run ∷ runs) device left session are opened begun commands acknowledged images =
      let here = are.1 in
      let came : CarriesOut here.armed restart.commands.items run.replies.items here.handed = here.came in
      let mine : List Command = kept_commands restart.commands.items run.replies.items in
      let many : ℕ = count_ok run.replies.items in
      let rest = goes_on restarts runs are.0 left session are.2 opened came.first.state mine many (λ image possible. came.images image (here.images image possible)) in record {
        given = came.first.state;
        recovered = link_to begun commands acknowledged here.armed came.first (λ image possible. images image (here.same.images.nothing_else image possible)) came.opened;
        links = (record { commands = mine; acknowledged = many; given = rest.given }) ∷ rest.links;
        one_each = ap (λ reported. (mine, many) ∷ reported) rest.one_each;
        linked = (rest.recovered, rest.linked);
      }
  goes_on (restart ∷ restarts) (Err fault ∷ runs) device left session are opened begun commands acknowledged images =
      let here = are.1 in
      let rest = goes_on restarts runs are.0 left session are.2 opened begun commands acknowledged
      (λ image possible. images image (here.same.images.nothing_else image (here.came.images image (here.images image possible)))) in record {
        given = rest.given;
        recovered = rest.recovered;
        links = rest.links;
        one_each = rest.one_each;
        linked = rest.linked;
      }
  goes_on [] (run ∷ runs) device left session are opened begun commands acknowledged images = elim are [ ]
  goes_on (restart ∷ restarts) [] device left session are opened begun commands acknowledged images = elim are [ ]

  begins : (restarts : List Restart) (runs : List (Result Run StoreFault)) (first device left : MemDevice) (session : SessionValue MemDevice)
      → ((image : List ℕ) → MayLeave (memory device) image → MayLeave (memory first) image) → AreRestarts device restarts runs left → IsMemoryOpened left session
      → Begins first device restarts runs session.state
  begins [] [] first device left session images are opened = record {
    image = seen_in device;
    possible = images (seen_in device) (reads_possible device);
    seen = λ at. refl;
    begun = session.state;
    recovers = subst (λ (d : MemDevice). RecoversTo Two (seen_in d) session.state) are opened.recovers;
    links = [];
    one_each = refl;
    linked = refl;
  }
  begins (restart ∷ restarts) (Ok run ∷ runs) first device left session images are opened =
      let here = are.1 in
      let came : CarriesOut here.armed restart.commands.items run.replies.items here.handed = here.came in
      let mine : List Command = kept_commands restart.commands.items run.replies.items in
      let many : ℕ = count_ok run.replies.items in
      let rest = goes_on restarts runs are.0 left session are.2 opened came.first.state mine many (λ image possible. came.images image (here.images image possible)) in record {
        image = seen_in here.armed;
        possible = images (seen_in here.armed) (here.same.images.nothing_else (seen_in here.armed) (reads_possible here.armed));
        seen = λ at. here.same.seen;
        begun = came.first.state;
        recovers = came.opened.recovers;
        links = (record { commands = mine; acknowledged = many; given = rest.given }) ∷ rest.links;
        one_each = ap (λ reported. (mine, many) ∷ reported) rest.one_each;
        linked = (rest.recovered, rest.linked);
      }
  begins (restart ∷ restarts) (Err fault ∷ runs) first device left session images are opened =
      let here = are.1 in
      let rest = begins restarts runs first are.0 left session
      (λ image possible. images image (here.same.images.nothing_else image (here.came.images image (here.images image possible)))) are.2 opened in record {
        image = rest.image;
        possible = rest.possible;
        seen = λ at. elim at [ ];
        begun = rest.begun;
        recovers = rest.recovers;
        links = rest.links;
        one_each = rest.one_each;
        linked = rest.linked;
      }
  begins [] (run ∷ runs) first device left session images are opened = elim are [ ]
  begins (restart ∷ restarts) [] first device left session images are opened = elim are [ ]

  pub are_joined : LinksCompose → (device : MemDevice) (restarts : List Restart) (runs : List (Result Run StoreFault)) (session : SessionValue MemDevice)
      → EndsRestarts device restarts runs session → AreJoined device restarts runs session.state
  are_joined lead device restarts runs session ends =
      let all = begins restarts runs device device ends.left session (λ image possible. possible) ends.done ends.opened in record {
        image = all.image;
        possible = all.possible;
        seen = all.seen;
        begun = all.begun;
        recovers = all.recovers;
        links = all.links;
        one_each = all.one_each;
        linked = all.linked;
        leads = lead all.begun session.state all.links (recovered_is_state keep never_more say all.image all.begun all.recovers) all.linked;
      }

-- Restarts and one more are a longer list of restarts.
pub restarts_more : (restarts : List Restart) (runs : List (Result Run StoreFault)) (device mid left : MemDevice) (restart : Restart) (run : Result Run StoreFault)
    → AreRestarts device restarts runs mid → IsRestart mid restart run left → AreRestarts device (restarts ++ restart ∷ []) (runs ++ run ∷ []) left
restarts_more [] [] device mid left restart run are more = (left, subst (λ (d : MemDevice). IsRestart d restart run left) are more, refl)
restarts_more (r ∷ restarts) (x ∷ runs) device mid left restart run are more = (are.0, are.1, restarts_more restarts runs are.0 mid left restart run are.2 more)
restarts_more [] (x ∷ runs) device mid left restart run are more = elim are [ ]
restarts_more (r ∷ restarts) [] device mid left restart run are more = elim are [ ]

-- Restarts have one result each.
pub one_each : (restarts : List Restart) (runs : List (Result Run StoreFault)) (device left : MemDevice) → AreRestarts device restarts runs left → length runs ≡ length restarts
one_each [] [] device left are = refl
one_each (r ∷ restarts) (x ∷ runs) device left are = ap suc (one_each restarts runs are.0 left are.2)
one_each [] (x ∷ runs) device left are = elim are [ ]
one_each (r ∷ restarts) [] device left are = elim are [ ]

-- If the restarts in `before` were executed and then the next one did not begin, or the last opening failed, the
-- list was cut there.
pub cuts_restarts : (restarts before more : List Restart) (runs : List (Result Run StoreFault)) (device mid left : MemDevice) (fault : RoundsFault) → before ++ more ≡ restarts
    → AreRestarts device before runs mid → IsUnbegun mid fault left → ((cause : StoreFault) → fault ≡ rounds.Open cause → more ≡ []) → CutsRestarts device restarts fault left
cuts_restarts restarts before more runs device mid left fault all are unbegun last = record {
  runs = runs;
  mid = mid;
  done = subst (λ (r : List Restart). AreRestarts device r runs mid)
      (sym (take-append_seam before more) ∙ ap (λ (n : ℕ). take n (before ++ more)) (sym many) ∙ ap (take (length runs)) all) are;
  unbegun = unbegun;
  last = λ cause is. many ∙ ap length (sym (append-nil before) ∙ ap (λ (r : List Restart). before ++ r) (sym (last cause is)) ∙ all);
}
  where
    many : length runs ≡ length before
    many = one_each before runs device mid are

-- If there was no memory for the answers of a restart, it did not begin.
pub unbegun_of : (device left : MemDevice) (fault : RoundsFault) → IsNoRestart device fault left → IsUnbegun device fault left
unbegun_of device left (rounds.Open cause) unbegun = elim unbegun [ ]
unbegun_of device left rounds.OutOfMemory unbegun = unbegun

-- If a restart did not begin, the cause is not that its opening failed.
pub no_opening : (device left : MemDevice) (fault : RoundsFault) (P : Type 0) → IsNoRestart device fault left → (cause : StoreFault) → fault ≡ rounds.Open cause → P
no_opening device left fault P unbegun cause is = absurd (subst (λ (f : RoundsFault). IsNoRestart device f left) is unbegun)
