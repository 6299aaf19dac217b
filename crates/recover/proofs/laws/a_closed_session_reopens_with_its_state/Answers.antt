-- A closed session returns the same state when its device is opened again.
use Rattle.recover.proofs.laws.a_closed_session_reopens_with_its_state.Goals as goal

pub returns : goal.returns
returns g c device state outcome honest recovers opens = opens state (recovers (g.D.Sectors.seen device) (g.met.D.Sectors.reads_possible device honest))
