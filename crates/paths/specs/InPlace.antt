-- Demand 2, "each field is found exactly where the standard puts it": what holds of a message x that was read from the bytes m.
use Rattle.der.specs.Types.{whole_head}
use Rattle.std.specs.Prelude.{ℕ, ◌+◌, ◌≤◌, ◌≡◌, List, ◌↔◌, ◌≢◌, length, Ok, is_some}
use Rattle.std.proofs.Math.Option.{none}
use Rattle.der.specs.Head.{head_of}
use Rattle.grammar.specs.declared.Span.{Span}
use Rattle.grammar.specs.Span.{part_of}
use Rattle.grammar.specs.declared.Message.{Message}
use Rattle.message.specs.Read.{reading_of}
use Rattle.paths.specs.Walk.{walk}
use Rattle.paths.specs.Walk.Step.{any, option, only}
use Rattle.paths.specs.Walk.Path.{message, ◌▸◌}
use Rattle.paths.specs.Table.{bit_string, SEQUENCE, context, primitive, Part, Number, place_of, path_in, path_of, status_info, entry_list, handed, told}
use Rattle.paths.specs.Table.{span_at, number_at, length_at, found, size_at, tag_of}

-- ## Every part in its place

pub record InPlace (m : List ℕ) (x : Message) : Type 0 where
  -- a part is the element, or the content of the element, at its path
  pub parts : (p : Part) → handed x p ≡ span_at m (place_of p)
  -- it begins at 0 exactly where no element stands at its path, and then it has no bytes
  pub absent : (p : Part) → ((handed x p).start.0 ≡ 0) ↔ (walk m (path_in (place_of p)) ≡ none)
  pub empty : (p : Part) → (handed x p).start.0 ≡ 0 → (handed x p).len ≡ 0
  -- a number is what the INTEGER at its path says, 0 where none stands there; four bytes at most say it, so that 32 bits hold it
  pub numbers : (n : Number) → told x n ≡ number_at m (walk m (path_of n))
  pub small : (n : Number) → length_at (walk m (path_of n)) ≤ 4
  -- there is a status exactly where there is a PKIStatusInfo
  pub has_status : is_some x.body.entry.status ≡ found (walk m status_info)
  -- the entries are the components of what holds them
  pub entries : x.body.entries ≡ size_at m (walk m entry_list)
  -- the kind is the number of the body's tag
  pub kind : tag_of (walk m (message ▸ any 1)) ≡ context x.body.kind
  -- protection and extraCerts are handed back with their tags: where there is one, it holds a BIT STRING, a SEQUENCE, and no other
  -- element
  pub bits : found (walk m (message ▸ option 2 (context 0) ▸ only bit_string)) ≡ found (walk m (message ▸ option 2 (context 0)))
  pub certs : found (walk m (message ▸ option 2 (context 1) ▸ only SEQUENCE)) ≡ found (walk m (message ▸ option 2 (context 1)))

-- THE THEOREM: `as_the_standard_says` in proofs/Theorem.antt
abbrev pub AsTheStandardSays : Type 0
AsTheStandardSays = (m : List ℕ) (x : Message) → reading_of m ≡ Ok x → InPlace m x

-- ## Every part that is an element, whole

-- s is one element with this tag: it begins with a head of `start` bytes, and the content ends where s ends
pub record OneElement (tag : ℕ) (s : List ℕ) : Type 0 where
  pub start : ℕ
  pub len : ℕ
  pub head : head_of s ≡ whole_head tag start len
  pub ends : start + len ≡ length s

-- the tags of a GeneralName (RFC 5280 4.2.1.6), which is a CHOICE
pub data NameTag : ℕ → Type 0 where
  other_name : NameTag (context 0)
  rfc822_name : NameTag (primitive 1)
  dns_name : NameTag (primitive 2)
  x400_address : NameTag (context 3)
  directory_name : NameTag (context 4)
  edi_party_name : NameTag (context 5)
  uniform_resource_identifier : NameTag (primitive 6)
  ip_address : NameTag (primitive 7)
  registered_iD : NameTag (primitive 8)

abbrev pub OneName : List ℕ → Type 0
OneName s = (tag : ℕ) × NameTag tag × OneElement tag s

-- a part that is there is one element with this tag
abbrev pub OneIfThere : ℕ → List ℕ → Span → Type 0
OneIfThere tag m s = s.start.0 ≢ 0 → OneElement tag (part_of m s)

pub record WholeElements (m : List ℕ) (x : Message) : Type 0 where
  -- the message itself: nothing stands before it or after it
  pub message : OneElement SEQUENCE m
  -- what every message has
  pub header : OneElement SEQUENCE (part_of m x.header_span)
  pub body : OneElement (context x.body.kind) (part_of m x.body_span)
  pub sender : OneName (part_of m x.header.sender)
  pub recipient : OneName (part_of m x.header.recipient)
  -- what it may have
  pub protection : OneIfThere (context 0) m x.protection
  pub extra_certs : OneIfThere (context 1) m x.extra_certs
  pub protection_alg : OneIfThere SEQUENCE m x.header.protection_alg
  pub free_text : OneIfThere SEQUENCE m x.header.free_text
  pub general_info : OneIfThere SEQUENCE m x.header.general_info
  pub ca_pubs : OneIfThere SEQUENCE m x.body.ca_pubs
  pub hash_alg : OneIfThere SEQUENCE m x.body.entry.hash_alg
  pub certificate : OneIfThere SEQUENCE m x.body.entry.certificate
  -- the request: a CertReqMsg, or in a p10cr (4), which always has it, an element with any tag
  pub request : x.body.kind ≢ 4 → OneIfThere SEQUENCE m x.body.entry.request
  pub p10cr : x.body.kind ≡ 4 → (tag : ℕ) × OneElement tag (part_of m x.body.entry.request)

-- THE THEOREM: `all_whole` in proofs/Theorem.antt
abbrev pub AllWhole : Type 0
AllWhole = (m : List ℕ) (x : Message) → reading_of m ≡ Ok x → WholeElements m x
