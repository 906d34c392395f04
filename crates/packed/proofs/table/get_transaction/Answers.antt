-- Each part is read where the definition says.
use mathlib.Core.Bool.{true}
use mathlib.Core.Path.{◌≡◌, sym, ◌∙◌}
use lib.Dec.{ltb}
use lib.ListN.{get_or}
use Rattle.std.specs.Prelude.{Some}
use Rattle.packed.specs.Places.{transaction_board_at, transaction_kind_at, transaction_state_at}
use Rattle.packed.specs.Table.{transaction_state_of, transaction_of}
use Rattle.packed.proofs.Numbers.{two_read}
use Rattle.packed.proofs.Tests.{answered}
use Rattle.packed.proofs.table.get_transaction.Goals as goal

pub returns : goal.returns
unfolding transaction_of
returns c =
    let s = c.args.bytes.now in
    let n = get_or s transaction_state_at 0 in
    let state : (ltb n 7 ≡ true) × (transaction_state_of n ≡ c.in_ok-state.state) = answered (ltb n 7) c.in_ok-state.ensures in
    rw state.0 (
    λ i. Some (record {
      id = record { bytes = c.get.ensures i };
      board = record { 0 = (c.from_be_bytes.ensures ∙ two_read transaction_board_at s _ c.get-2.ensures) i };
      kind = get_or s transaction_kind_at 0;
      taken = record { bytes = c.get-3.ensures i };
      sent = record { bytes = c.get-4.ensures i };
      hash = record { bytes = c.get-5.ensures i };
      state = sym state.1 i;
    }))
