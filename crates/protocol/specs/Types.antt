-- Types that the definitions name as src/ does: antt has no names for aliases.
use Rattle.std.specs.Prelude.{ℕ, Option}
use Rattle.protocol.specs.declared.Board.{Board}
use Rattle.protocol.specs.declared.Outgoing.{Outgoing}

-- the protection of a message: the board whose key checked, or none where it is bad
abbrev pub Verdict : Type 0
Verdict = Option Board

-- a PKIFailureInfo bit, or none
abbrev pub FailureInfo : Type 0
FailureInfo = Option ℕ

-- a status, or none: the grammar's
abbrev pub GivenStatus : Type 0
GivenStatus = Option ℕ

-- what an answer gives to be sent, or nothing
abbrev pub ToSend : Type 0
ToSend = Option Outgoing
