-- The samples are right, by computing them.
use mathlib.Core.Path.{refl}
use Rattle.der.specs.Head.{tag_ok, inside, length81, length82, length_of, head_of, head_bytes}
use Rattle.der.specs.Content.{boolean_ok, integer_ok, bit_string_ok, arcs_ok, oid_ok, content_ok}
use Rattle.der.specs.Element.{form_ok, judge, element_of, each_element, content_at, check_at, fills, is_element}
use Rattle.grammar.specs.Cursor.{head_in, tag_at, need_of, done_of, enter_of, leave_of, content_of, value_of, small_integer_of}
use Rattle.grammar.specs.Entries.{request_of}
use Rattle.grammar.specs.Header.{name_tag}
use Rattle.grammar.specs.Message.{start_at}
use Rattle.protocol.specs.Bytes.{same_bytes}
use Rattle.encoding.specs.Element.{element, field, wrapped, optional, integer_bytes, integer}
use Rattle.encoding.specs.Message.{names_bytes, options_bytes, ids_bytes, header_bytes, bit_content, status_bytes, requests_bytes, key_pair_bytes, responses_bytes, confirmations_bytes, error_bytes, content_bytes, body_bytes, encode}
use Rattle.encoding.specs.Fits.{name_fits, header_fits, request_message_fits, certificate_fits, request_fits, response_fits, blank, contents_with, contents_fit, fits}
use Rattle.encoding.specs.Write.{refusal_of}
use Rattle.encoding.specs.Samples.{around, order_with, nest, written, refused, all_hold, written_ones, refused_ones, SamplesHold}

pub samples_hold : SamplesHold
unfolding around order_with nest written refused all_hold written_ones refused_ones head_bytes element field wrapped optional integer_bytes integer names_bytes options_bytes ids_bytes header_bytes bit_content status_bytes requests_bytes key_pair_bytes responses_bytes confirmations_bytes error_bytes content_bytes body_bytes encode refusal_of fits header_fits request_fits response_fits blank contents_fit contents_with name_fits request_message_fits certificate_fits is_element fills check_at each_element content_at element_of judge form_ok content_ok oid_ok arcs_ok bit_string_ok integer_ok boolean_ok head_of length_of length81 length82 inside tag_ok name_tag head_in tag_at need_of done_of enter_of leave_of content_of value_of small_integer_of request_of start_at same_bytes
samples_hold = refl
