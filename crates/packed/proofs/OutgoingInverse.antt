-- A message to be sent reads back as it was packed.
use Prim.Native.Nat.{ℕ}
use mathlib.Core.List.{List, [], ◌∷◌, ◌++◌, append-nil, append_assoc}
use mathlib.Core.Path.{◌≡◌, sym, ◌∙◌, ap}
use lib.ListN.{length}
use Rattle.protocol.specs.declared.Outgoing.{Outgoing}
use Rattle.packed.specs.Places.{id_bytes, nonce_bytes, hash_bytes}
use Rattle.packed.specs.Outgoing.{failure_number, failure_of, outgoing_bytes, pack_names, pack_contents, pack_outgoing, outgoing_of, OutgoingSized}
use Rattle.packed.proofs.FieldLaws.{Field, Bytes, Byte, Four, Flag, joined, AllFit, AllRead, read_back, joined_length}

abbrev fields : Outgoing → List Field
fields o =
    Byte o.kind
    ∷ Bytes id_bytes o.id.bytes
    ∷ Bytes nonce_bytes o.sender_nonce.bytes
    ∷ Flag o.has_recip_nonce
    ∷ Bytes nonce_bytes o.recip_nonce.bytes
    ∷ Flag o.contents.has_status
    ∷ Four o.contents.status
    ∷ Bytes hash_bytes o.contents.hash.bytes
    ∷ Byte (failure_number o.contents.failure)
    ∷ Flag o.contents.has_number
    ∷ Four o.contents.number
    ∷ []

module _ (o : Outgoing) (z : OutgoingSized o) where
  all_fit : AllFit (fields o)
  all_fit = search

  all_are : (rest : List ℕ) → pack_outgoing o ++ rest ≡ joined (fields o) rest
  unfolding pack_names pack_contents
  all_are rest = simp append_assoc

  is_read : (s : List ℕ) → AllRead 0 (fields o) s → outgoing_of s ≡ o
  unfolding outgoing_of
  is_read s (kind, (id, (sender-nonce, (has-recip-nonce, (recip-nonce, (has-status, (status, (hash, (failure, (has-number, (number, _))))))))))) =
      λ i. record {
        kind = kind i;
        id = record { bytes = id i };
        sender_nonce = record { bytes = sender-nonce i };
        has_recip_nonce = has-recip-nonce i;
        recip_nonce = record { bytes = recip-nonce i };
        contents = record { has_status = has-status i; status = status i; hash = record { bytes = hash i }; failure = (ap failure_of failure ∙ z.failure) i; has_number = has-number i; number = number i };
      }

  pub outgoing-back : (rest : List ℕ) → outgoing_of (pack_outgoing o ++ rest) ≡ o
  outgoing-back rest = is_read _ (rw (all_are rest) (read_back (fields o) all_fit rest))

  pub outgoing-length : length (pack_outgoing o) ≡ outgoing_bytes
  outgoing-length = ap length (sym (append-nil (pack_outgoing o)) ∙ all_are []) ∙ joined_length (fields o) all_fit []
