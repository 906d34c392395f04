-- The examples, computed.
use mathlib.Core.Path.{refl}
use Rattle.der.specs.Head.{tag_ok, inside, length81, length82, length_of, head_of}
use Rattle.paths.specs.Walk.{elements_up_to, elements_between, walk}
use Rattle.der.specs.Integer.{unsigned, integer_of}
use Rattle.paths.specs.Table.{place_of, path_of, span_at}
use Rattle.paths.specs.Examples.{w, OnW, TwoIntegers}

pub on_w : OnW
unfolding w place_of path_of span_at walk elements_between elements_up_to head_of length_of length81 length82 inside tag_ok integer_of unsigned
on_w =
    record {
      header = refl;
      sender = refl;
      recipient = refl;
      message_time = refl;
      protection_alg = refl;
      sender_kID = refl;
      recip_kID = refl;
      transaction_iD = refl;
      sender_nonce = refl;
      recip_nonce = refl;
      free_text = refl;
      general_info = refl;
      body = refl;
      ca_pubs = refl;
      cert_hash = refl;
      hash_alg = refl;
      certificate = refl;
      request = refl;
      protection = refl;
      extra_certs = refl;
      pvno = refl;
      cert_req_id = refl;
      has_status = refl;
      entries = refl;
    }

pub two_integers : TwoIntegers
unfolding elements_between elements_up_to head_of length_of length81 length82 inside tag_ok integer_of unsigned
two_integers = record { less = refl; more = refl }
