-- Each part is read where the definition says.
use mathlib.Core.Path.{◌∙◌}
use Rattle.packed.specs.Places.{outgoing_status_at, outgoing_number_at}
use Rattle.packed.proofs.Numbers.{four_read}
use Rattle.packed.proofs.sent.get_contents.Goals as goal

pub returns : goal.returns
returns c =
    let s = c.args.bytes.now in
    λ i. record {
      has_status = c.get_flag.ensures i;
      status = (c.from_be_bytes.ensures ∙ four_read outgoing_status_at s _ c.get.ensures) i;
      hash = record { bytes = c.get-2.ensures i };
      failure = c.failure_of.ensures i;
      has_number = c.get_flag-2.ensures i;
      number = (c.from_be_bytes-2.ensures ∙ four_read outgoing_number_at s _ c.get-3.ensures) i;
    }
