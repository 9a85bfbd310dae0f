-- A reading, seen as a state.
use Rattle.sq_packet.specs.declared.draft.Reading.{Reading}
use Rattle.sq_packet.specs.Packet.{State, state}

abbrev pub state_of : Reading → State
state_of r = state r.rest.now r.inside r.draft
