-- What the reader finds in the witnesses' eight messages. Each equation is computed by the reader's definition.
use Rattle.std.specs.Prelude.{Ok}
use Prim.Native.Nat.{ℕ}
use mathlib.Core.List.{List, []}
use mathlib.Core.Bool.{Bool, true, false}
use mathlib.Core.Option.{Option, none, some}
use mathlib.Core.Path.{◌≡◌, refl}
use lib.ListN.{replicate}
use Rattle.der.specs.Head.{tag_ok, inside, length81, length82, length_of, head_of}
use Rattle.der.specs.Content.{boolean_ok, integer_ok, bit_string_ok, arcs_ok, oid_ok, content_ok}
use Rattle.der.specs.Integer.{shift_in, signed32}
use Rattle.der.specs.Element.{form_ok, judge, element_of, each_element, content_at, check_at, check}
use Rattle.grammar.specs.Cursor.{head_in, tag_at, need_of, any_of, maybe_of, rest_of, done_of, enter_of, leave_of, content_of, value_of, small_integer_of, more_at, repeat}
use Rattle.grammar.specs.Parts.{found_of, typed_of, one_of, all_by, sequence_by, sequence_of, field_of, typed_field, any_field, sequence_field, maybe_text, last_bit_set, fail_info_of, status_of, maybe_status}
use Rattle.grammar.specs.Header.{name_tag, name_of, names_of, options_of, ids_of, header_of}
use Rattle.grammar.specs.Entries.{request_of, choice_of, key_pair, maybe_key_pair, response_of, cert_status_of, entry_of, entries_of}
use Rattle.grammar.specs.Body.{at_least_one, requests_of, responses_of, confirmations_of, error_of, p10cr_of, other_of, contents_of, body_tag, body_of}
use Rattle.grammar.specs.Message.{start_at, message_of}
use Rattle.message.specs.Read.{lowest, reading_of}
use Rattle.grammar.specs.declared.Message.{Message}
use Rattle.protocol.specs.Message.{minus_one, Fields, fields_of}
use Rattle.protocol.specs.Witness.{ir_bytes, ip_bytes, accept_bytes, decline_bytes, pki_conf_bytes, p10cr_bytes, cp_bytes, accept_p10cr_bytes}

-- the bytes read cleanly, and their fields are these
pub record ReadsAs (bytes : List ℕ) (f : Fields) : Type 0 where
  pub message : Message
  pub reads : reading_of bytes ≡ Ok message
  pub fields : fields_of bytes message ≡ f

-- a protected message of version 2 for the id: its kind, nonces, entries, number, status, hash and whether it has a certificate
abbrev pub fields_with : ℕ → ℕ → Option (List ℕ) → ℕ → (number : ℕ) → Option ℕ → List ℕ → Bool → Fields
fields_with k n a e q s h c =
    record {
      kind = k;
      version = 2;
      id = some (replicate 16 0x11);
      sender_nonce = some (replicate 16 n);
      recip_nonce = a;
      protected = true;
      entries = e;
      request = q;
      status = s;
      hash = record { bytes = h };
      hash_alg = false;
      certificate = c;
    }

abbrev pub ir_fields : Fields
ir_fields = fields_with 0 1 none 1 0 none [] false

abbrev pub ip_fields : Fields
ip_fields = fields_with 1 3 (some (replicate 16 1)) 1 0 (some 0) [] true

abbrev pub accept_fields : Fields
accept_fields = fields_with 24 4 (some (replicate 16 3)) 1 0 none (replicate 32 0xAB) false

abbrev pub decline_fields : Fields
decline_fields = fields_with 24 4 (some (replicate 16 3)) 1 0 (some 2) (replicate 32 0xAB) false

abbrev pub pki_conf_fields : Fields
pki_conf_fields = fields_with 19 5 (some (replicate 16 4)) 0 0 none [] false

abbrev pub p10cr_fields : Fields
p10cr_fields = fields_with 4 1 none 0 0 none [] false

abbrev pub cp_fields : Fields
cp_fields = fields_with 3 3 (some (replicate 16 1)) 1 minus_one (some 0) [] true

abbrev pub accept_p10cr_fields : Fields
accept_p10cr_fields = fields_with 24 4 (some (replicate 16 3)) 1 minus_one none (replicate 32 0xAB) false

-- all eight, computed
all_read :
    ReadsAs ir_bytes ir_fields × ReadsAs ip_bytes ip_fields × ReadsAs accept_bytes accept_fields × ReadsAs decline_bytes decline_fields × ReadsAs pki_conf_bytes pki_conf_fields
    × ReadsAs p10cr_bytes p10cr_fields × ReadsAs cp_bytes cp_fields × ReadsAs accept_p10cr_bytes accept_p10cr_fields
unfolding tag_ok inside length81 length82 length_of head_of boolean_ok integer_ok bit_string_ok arcs_ok oid_ok content_ok form_ok judge
    element_of each_element content_at check_at check head_in tag_at need_of any_of maybe_of rest_of done_of enter_of leave_of content_of shift_in
    signed32 value_of small_integer_of more_at repeat found_of typed_of one_of all_by sequence_by sequence_of field_of typed_field any_field
    sequence_field maybe_text last_bit_set fail_info_of status_of maybe_status name_tag name_of names_of options_of ids_of header_of request_of
    choice_of key_pair maybe_key_pair response_of cert_status_of entry_of entries_of at_least_one requests_of responses_of confirmations_of
    error_of p10cr_of other_of contents_of body_tag body_of start_at message_of lowest reading_of fields_of
all_read = (
  record { message = _; reads = refl; fields = refl },
  record { message = _; reads = refl; fields = refl },
  record { message = _; reads = refl; fields = refl },
  record { message = _; reads = refl; fields = refl },
  record { message = _; reads = refl; fields = refl },
  record { message = _; reads = refl; fields = refl },
  record { message = _; reads = refl; fields = refl },
  record { message = _; reads = refl; fields = refl },
)

pub ir_reads : ReadsAs ir_bytes ir_fields
ir_reads = all_read.0

pub ip_reads : ReadsAs ip_bytes ip_fields
ip_reads = all_read.1

pub accept_reads : ReadsAs accept_bytes accept_fields
accept_reads = all_read.2

pub decline_reads : ReadsAs decline_bytes decline_fields
decline_reads = all_read.3

pub pkiconf_reads : ReadsAs pki_conf_bytes pki_conf_fields
pkiconf_reads = all_read.4

pub p10cr-reads : ReadsAs p10cr_bytes p10cr_fields
p10cr-reads = all_read.5

pub cp_reads : ReadsAs cp_bytes cp_fields
cp_reads = all_read.6

pub accept_p10cr_reads : ReadsAs accept_p10cr_bytes accept_p10cr_fields
accept_p10cr_reads = all_read.7
