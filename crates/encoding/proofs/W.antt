-- W comes out byte for byte, by computation.
use mathlib.Core.Path.{◌≡◌, refl}
use lib.ListN.{length}
use Rattle.der.specs.Head.{tag_ok, inside, length81, length82, length_of, head_of, head_bytes}
use Rattle.der.specs.Content.{integer_ok, bit_string_ok, arcs_ok, oid_ok, content_ok}
use Rattle.der.specs.Element.{form_ok, judge, element_of, each_element, content_at, check_at, fills, is_element}
use Rattle.grammar.specs.Cursor.{head_in, tag_at, need_of, any_of, rest_of, done_of, enter_of, leave_of}
use Rattle.grammar.specs.Parts.{typed_of}
use Rattle.grammar.specs.Header.{name_tag}
use Rattle.grammar.specs.Message.{start_at}
use Rattle.encoding.specs.Element.{element, field, wrapped, integer_bytes, integer}
use Rattle.encoding.specs.Message.{names_bytes, options_bytes, ids_bytes, header_bytes, status_bytes, confirmations_bytes, content_bytes, body_bytes, encode}
use Rattle.encoding.specs.Fits.{name_fits, typed_fits, header_fits, request_fits, response_fits, contents_with, contents_fit, fits}
use Rattle.encoding.specs.Write.{refusal_of}
use Rattle.encoding.specs.W.{given, order, w, WComesOut}

bytes : encode given order ≡ w
unfolding given order w head_bytes element field wrapped integer_bytes integer names_bytes options_bytes ids_bytes header_bytes status_bytes confirmations_bytes content_bytes body_bytes encode
bytes = refl

size : length w ≡ 140
unfolding w
size = refl

pub w_comes_out : WComesOut
unfolding given order head_bytes element field wrapped integer_bytes integer names_bytes options_bytes ids_bytes header_bytes status_bytes confirmations_bytes content_bytes body_bytes encode refusal_of fits header_fits request_fits response_fits contents_fit contents_with name_fits typed_fits is_element fills check_at each_element content_at element_of judge form_ok content_ok oid_ok arcs_ok bit_string_ok integer_ok head_of length_of length81 length82 inside tag_ok name_tag typed_of head_in tag_at need_of any_of rest_of done_of enter_of leave_of start_at
w_comes_out = record { bytes = bytes; size = size; written = refl; short = refl }
