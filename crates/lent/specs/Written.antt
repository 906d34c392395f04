-- Writing at the exported call: what duskstall_write returns and leaves in the buffer, from the bytes of a message to be sent as an answer holds them.
use Rattle.std.specs.Prelude.{ℕ, ◌+◌, ◌*◌, ◌<◌, ◌≤◌, ◌^◌, List, ◌++◌, true, ◌≡◌, ◌≢◌, length, take, drop, get_or}
use Rattle.std.proofs.Math.Option.{Option}
use Rattle.grammar.specs.declared.Span.{Span}
use Rattle.message.specs.Read.{max_message, reading_of}
use Rattle.protocol.specs.Bytes.{bytes_of}
use Rattle.protocol.specs.Message.{optional_part}
use Rattle.protocol.specs.Run.{End}
use Rattle.packed.specs.Bytes.{AllBytes}
use Rattle.packed.specs.Outgoing.{outgoing_bytes, outgoing_of}
use Rattle.packed.specs.Table.{table_bytes}
use Rattle.encoding.specs.Given.{Given}
use Rattle.encoding.specs.Fits.{order_fits}
use Rattle.encoding.specs.Message.{encode}
use Rattle.encoding.specs.ReadBack.{ReadsBack}
use Rattle.encoding.specs.WriteRules.{RefusalRules}
use Rattle.given.specs.declared.GivenSpans.{GivenSpans}
use Rattle.given.specs.Spans.{given_of, spans_inside}
use Rattle.duskstall.specs.Write.{write_number, write_buffer}
use Rattle.lent.specs.HeaderPlaces.{given_sender_place, given_recipient_place, given_message_time_place, given_protection_alg_place, given_sender_kid_place, given_recip_kid_place, given_free_text_place, given_general_info_place, given_protection_place, given_request_place, given_certificate_place, given_end}
use Rattle.lent.specs.Lent.{LentCall, LentEvent, lent_after, lent_beginning}
use Rattle.lent.specs.Header.{Sent, IssuedBytes}

-- ## The numbers, at the header's places

abbrev pub span_in : List ℕ → (place : ℕ) → Span
span_in s k = record { start = record { 0 = get_or s k 0 }; len = get_or s (k + 1) 0 }

-- all eleven, and pvno
abbrev pub spans_in : (version : ℕ) → List ℕ → GivenSpans
spans_in v s =
    record {
      version = v;
      sender = span_in s given_sender_place;
      recipient = span_in s given_recipient_place;
      message_time = span_in s given_message_time_place;
      protection_alg = span_in s given_protection_alg_place;
      sender_kid = span_in s given_sender_kid_place;
      recip_kid = span_in s given_recip_kid_place;
      free_text = span_in s given_free_text_place;
      general_info = span_in s given_general_info_place;
      protection = span_in s given_protection_place;
      request = span_in s given_request_place;
      certificate = span_in s given_certificate_place;
    }

-- the part that they name in the source, where they are not 0 and 0
abbrev pub part_in : (s src : List ℕ) → (place : ℕ) → Option (List ℕ)
part_in s src k = optional_part src (span_in s k)

-- what is handed in, by its bytes
abbrev pub given_in : (version : ℕ) → (given source : List ℕ) → Given
given_in v given src = given_of src (spans_in v given)

pub record GivenInPlace (v : ℕ) (s src : List ℕ) (g : Given) : Type 0 where
  pub version : g.version ≡ v
  pub sender : g.sender ≡ bytes_of (part_in s src given_sender_place)
  pub recipient : g.recipient ≡ bytes_of (part_in s src given_recipient_place)
  pub message_time : g.message_time ≡ part_in s src given_message_time_place
  pub protection_alg : g.protection_alg ≡ part_in s src given_protection_alg_place
  pub sender_kid : g.sender_kid ≡ part_in s src given_sender_kid_place
  pub recip_kid : g.recip_kid ≡ part_in s src given_recip_kid_place
  pub free_text : g.free_text ≡ part_in s src given_free_text_place
  pub general_info : g.general_info ≡ part_in s src given_general_info_place
  pub protection : g.protection ≡ part_in s src given_protection_place
  pub request : g.request ≡ part_in s src given_request_place
  pub certificate : g.certificate ≡ part_in s src given_certificate_place

abbrev pub AllGivenInPlace : Type 0
AllGivenInPlace = (v : ℕ) (s src : List ℕ) → GivenInPlace v s src (given_in v s src)

-- ## What the call does, whatever it is handed

-- as many bytes and numbers as the header says
abbrev pub RightLengths : (out given : List ℕ) → Type 0
RightLengths out given = (length out ≡ outgoing_bytes) × (length given ≡ given_end)

-- a number that tells why nothing is written stands in the high 32 bits
abbrev pub in_high_bits : ℕ → ℕ
in_high_bits k = k * 2 ^ 32

-- n is what the call returned, `after` the buffer after it
pub record WriteAnswers (out given src buf after : List ℕ) (v n : ℕ) : Type 0 where
  -- 252 for another length, and nothing has changed
  pub lengths : (RightLengths out given → ⊥) → (n ≡ in_high_bits 252) × (after ≡ buf)
  -- else a refusal k by 34, 35 or 36, and nothing has changed; where there is none, the size, and the message before the buffer's own bytes
  pub answer :
      RightLengths out given
      → (k : ℕ)
      × RefusalRules (spans_inside src (spans_in v given)) (given_in v given src) (outgoing_of out) (length buf) k
      × (k ≢ 0 → (n ≡ in_high_bits k) × (after ≡ buf))
      × (k ≡ 0 → (n ≡ length (encode (given_in v given src) (outgoing_of out))) × (after ≡ encode (given_in v given src) (outgoing_of out) ++ drop n buf))

abbrev pub AllWriteAnswers : Type 0
AllWriteAnswers = (out given src buf : List ℕ) (v : ℕ) → WriteAnswers out given src buf (write_buffer out v given src buf) v (write_number out v given src buf)

-- ## What it wrote

-- n is the size that the call returned, `after` the buffer after it
pub record WroteBytes (out given src buf after : List ℕ) (v n : ℕ) : Type 0 where
  pub size : n ≡ length (encode (given_in v given src) (outgoing_of out))
  pub limit : n ≤ max_message
  pub room : n ≤ length buf
  -- the message, then the buffer's own bytes
  pub result : take n after ≡ encode (given_in v given src) (outgoing_of out)
  pub others : drop n after ≡ drop n buf
  -- "Reading what was written gives the order back", and every given part
  pub back : ReadsBack (given_in v given src) (outgoing_of out)
  -- "bytes written from an order are a message issued by the end that gave it": an answer at the end held these bytes as what is to be sent
  pub issued : (p : End) (past : List LentEvent) → Sent p (λ o. take outgoing_bytes o ≡ out) past → IssuedBytes p (take n after) (reading_of (take n after)) past

-- the number returned is a size: nothing stands in its high 32 bits
abbrev pub BytesWritten : Type 0
BytesWritten =
    (out given src buf : List ℕ) (v n : ℕ) → AllBytes out → AllBytes src → v < 2 ^ 32
    → write_number out v given src buf ≡ n → n < 2 ^ 32
    → WroteBytes out given src buf (write_buffer out v given src buf) v n

-- ## What an answer hands out

-- whatever was called, what an answer held as to be sent is an order that fits, so that 36 is for what the host gives
abbrev pub HandedOutFits : Type 0
HandedOutFits =
    (s : List ℕ) → length s ≡ table_bytes → (calls : List LentCall) (p : End) (out : List ℕ)
    → Sent p (λ o. take outgoing_bytes o ≡ out) (lent_after (lent_beginning s) calls).past
    → length out ≡ outgoing_bytes → order_fits (outgoing_of out) ≡ true
