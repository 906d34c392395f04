-- What duskstall_read writes of a message, at DUSKSTALL_FIELD_*: each part from where RFC 9810 puts it.
use Rattle.std.specs.Prelude.{ℕ, ◌+◌, List, cond, ◌≡◌, get_or}
use Rattle.fields.specs.Fields.{read_answer, read_fields}
use Rattle.paths.specs.Walk.{walk}
use Rattle.paths.specs.Walk.Step.{any}
use Rattle.paths.specs.Walk.Path.{message, ◌▸◌}
use Rattle.paths.specs.Table.{context, Part, place_of, span_at, Number, path_of, number_at, entry_list, size_at, status_info, found, tag_of}

-- where a part's start stands; its length stands after it
abbrev pub start_place : Part → ℕ
start_place Part.Header = 3
start_place Part.Body = 5
start_place Part.Protection = 7
start_place Part.ExtraCerts = 9
start_place Part.Sender = 11
start_place Part.Recipient = 13
start_place Part.MessageTime = 15
start_place Part.ProtectionAlg = 17
start_place Part.SenderKID = 19
start_place Part.RecipKID = 21
start_place Part.TransactionID = 23
start_place Part.SenderNonce = 25
start_place Part.RecipNonce = 27
start_place Part.FreeText = 29
start_place Part.GeneralInfo = 31
start_place Part.CaPubs = 33
start_place Part.CertHash = 38
start_place Part.HashAlg = 40
start_place Part.Certificate = 42
start_place Part.Request = 44

abbrev pub number_place : Number → ℕ
number_place Number.Version = 1
number_place Number.CertReqId = 35
number_place Number.Status = 37

-- the numbers l say of the message m what stands in it
pub record WrittenInPlace (m l : List ℕ) : Type 0 where
  pub starts : (p : Part) → get_or l (start_place p) 0 ≡ (span_at m (place_of p)).start.0
  pub lengths : (p : Part) → get_or l (start_place p + 1) 0 ≡ (span_at m (place_of p)).len
  pub numbers : (n : Number) → get_or l (number_place n) 0 ≡ number_at m (walk m (path_of n))
  pub kind : tag_of (walk m (message ▸ any 1)) ≡ context (get_or l 0 0)
  pub entries : get_or l 2 0 ≡ size_at m (walk m entry_list)
  pub has_status : get_or l 36 0 ≡ cond (found (walk m status_info)) 1 0

-- where it returns 0, into any array
abbrev pub ReadInPlace : Type 0
ReadInPlace = (m l : List ℕ) → read_answer m l ≡ 0 → WrittenInPlace m (read_fields m l)
