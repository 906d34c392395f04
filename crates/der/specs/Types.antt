-- Types that the definitions name as src/ does, since antt has no names for aliases; and their values.
use Rattle.std.specs.Prelude.{ℕ, Result, Ok, Err}
use Rattle.der.specs.declared.Offset.{Offset}
use Rattle.der.specs.declared.head.Whole.{Whole}
use Rattle.der.specs.declared.element.FirstFault.{FirstFault}

-- tag and length of an element, or the rule that they break
abbrev pub Head : Type 0
Head = Result Whole ℕ

-- a head with this tag, whose content is `len` bytes from `start`
abbrev pub whole_head : (tag start len : ℕ) → Head
whole_head tag start len = Ok (record { tag = tag; start = start; len = len })

-- no fault, or the first one
abbrev pub Check : Type 0
Check = Result (Unit {0}) FirstFault

-- the first fault is at this offset, by this rule
abbrev pub fault_by : Offset → (rule : ℕ) → Check
fault_by at rule = Err (record { at = at; rule = rule })
