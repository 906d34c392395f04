-- The table of refusals for a message at the registrar, a definition for each row, in 01's order.
use Rattle.std.specs.Prelude.{List, [], ◌∷◌, ◌++◌, Bool, true, false, not, cond, ◌&&◌, ◌||◌, eqb, Some, None}
use Rattle.std.proofs.Math.Option.{Option, none, some, get_or}
use Rattle.protocol.specs.declared.Board.{Board}
use Rattle.protocol.specs.Types.{Verdict}
use Rattle.protocol.specs.declared.Transaction.{Transaction}
use Rattle.protocol.specs.Bytes.{present, is_nonce, same_hash}
use Rattle.protocol.specs.Message.{Fields, is_opening_kind, cert_conf, request_number, status_or0}
use Rattle.protocol.specs.Table.{has_free_slot, free_transaction}
use Rattle.protocol.specs.States.{has_sent, has_hash, settled_by, is_granted}
use Rattle.protocol.specs.Refusals.{Row, head_rows, row}

abbrev pub is_good : Verdict → Bool
is_good None = false
is_good (Some b) = true

-- the verdict names this board
abbrev pub names : Verdict → Board → Bool
names None b = false
names (Some a) b = eqb a.0 b.0

abbrev pub is_known : Option Transaction → Bool
is_known none = false
is_known (some r) = true

abbrev pub opens : Fields → Bool
opens m = is_opening_kind m.kind

abbrev pub confirms : Fields → Bool
confirms m = eqb m.kind cert_conf

abbrev pub one_entry : Fields → Bool
one_entry m = eqb m.entries 1

-- "0, 2, 7, 24": the kinds whose entries are counted
abbrev pub has_entries : Fields → Bool
has_entries m = eqb m.kind 0 || eqb m.kind 2 || eqb m.kind 7 || confirms m

-- 8: "kind not taken here (D: 0, 2, 4, 7, 24)"
abbrev pub other_kind : Fields → Bool
other_kind m = not (opens m || confirms m)

-- 9: "opening with recipNonce"
abbrev pub opens_with_nonce : Fields → Bool
opens_with_nonce m = opens m && present m.recip_nonce

-- 10: "opening, id in the book"
abbrev pub opens_known : Option Transaction → Fields → Bool
opens_known f m = opens m && is_known f

-- 11: "opening, no free place"
abbrev pub opens_full : List Transaction → Fields → Bool
opens_full rs m = opens m && not (has_free_slot rs)

-- 12: "certConf, id not in the book"
abbrev pub confirms_unknown : Option Transaction → Fields → Bool
confirms_unknown f m = confirms m && not (is_known f)

-- 13: "certConf, verdict names another board than the record"
abbrev pub confirms_for_another : Verdict → Transaction → Fields → Bool
confirms_for_another v r m = confirms m && not (names v r.board)

-- 14: "recipNonce absent or not the last nonce this record sent"
abbrev pub confirms_other_nonce : Transaction → Fields → Bool
confirms_other_nonce r m = confirms m && not (has_sent r.state && is_nonce m.recip_nonce r.sent)

-- 15: "not exactly one entry (0, 2, 7, 24)"
abbrev pub not_one_entry : Fields → Bool
not_one_entry m = has_entries m && not (one_entry m)

-- 16: certReqId in that one entry "not -1 for p10cr, not 0 for the others", by the transaction's kind: of a certConf the one held, of a request its own
abbrev pub other_request : Transaction → Fields → Bool
other_request r m = has_entries m && one_entry m && not (eqb m.request (request_number (cond (confirms m) r.kind m.kind)))

-- 17: "certConf, hashAlg with pvno 2"
abbrev pub hash_alg_too_early : Fields → Bool
hash_alg_too_early m = confirms m && one_entry m && m.hash_alg && eqb m.version 2

-- 18: "certConf status not 0 or 2"
abbrev pub other_status : Fields → Bool
other_status m = confirms m && one_entry m && not (eqb (status_or0 m.status) 0 || eqb (status_or0 m.status) 2)

-- 19: "certHash not the record's 32 bytes, or no hash set"
abbrev pub other_hash : Transaction → Fields → Bool
other_hash r m = confirms m && one_entry m && not (has_hash r && same_hash m.hash r.hash)

-- "At Confirmed or Declined the same senderNonce, hash and status give again"
abbrev pub repeats : Transaction → Fields → Bool
repeats r m = settled_by r.state (status_or0 m.status) && is_nonce m.sender_nonce r.taken

-- 20: "the state doesn't take it"
abbrev pub not_taken : Transaction → Fields → Bool
not_taken r m = confirms m && not (is_granted r.state || repeats r m)

-- 8 to 14: f is the transaction with the message's id, r the same or a free one where there is none
abbrev pub transaction_rows : List Transaction → Option Transaction → Verdict → Transaction → Fields → List Row
transaction_rows rs f v r m =
    row 8 (other_kind m)
    ∷ row 9 (opens_with_nonce m)
    ∷ row 10 (opens_known f m)
    ∷ row 11 (opens_full rs m)
    ∷ row 12 (confirms_unknown f m)
    ∷ row 13 (confirms_for_another v r m)
    ∷ row 14 (confirms_other_nonce r m)
    ∷ []

-- 15 to 20
abbrev pub entry_rows : Transaction → Fields → List Row
entry_rows r m =
    row 15 (not_one_entry m)
    ∷ row 16 (other_request r m)
    ∷ row 17 (hash_alg_too_early m)
    ∷ row 18 (other_status m)
    ∷ row 19 (other_hash r m)
    ∷ row 20 (not_taken r m)
    ∷ []

-- 8 to 20
abbrev pub later_rows : List Transaction → Option Transaction → Verdict → Transaction → Fields → List Row
later_rows rs f v r m = transaction_rows rs f v r m ++ entry_rows r m

-- the whole table: rows 13 to 20 look at the transaction with the message's id, or at a free one where there is none
unfoldable pub registrar_rows : List Transaction → Option Transaction → Verdict → Fields → List Row
registrar_rows rs f v m = head_rows (is_good v) m ++ later_rows rs f v (get_or f free_transaction) m
