-- "Turn each order [...] into DER": the orders of the steps have what their kinds have, so that 36 is only of what the caller gives.
use Rattle.std.specs.Prelude.{List, true, ◌≡◌}
use Rattle.protocol.specs.declared.Outgoing.{Outgoing}
use Rattle.protocol.specs.Run.{End, Call, run}
use Rattle.protocol.specs.Agreement.{Issued}
use Rattle.encoding.specs.Fits.{order_fits}

-- whatever calls were made, every order that one of them gave fits
abbrev pub OrdersFit : Type 0
OrdersFit = (calls : List Call) (end : End) (o : Outgoing) → Issued end o (run calls).past → order_fits o ≡ true
