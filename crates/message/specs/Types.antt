-- A type that the definitions name as src/ does: antt has no name for an alias.
use Rattle.std.specs.Prelude.{Result}
use Rattle.grammar.specs.declared.Message.{Message}
use Rattle.message.specs.declared.ReadFault.{ReadFault}

-- what a reading found, or its fault
abbrev pub Reading : Type 0
Reading = Result Message ReadFault
