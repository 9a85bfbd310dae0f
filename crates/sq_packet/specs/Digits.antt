-- The classes of digits.
use Rattle.sq_packet.specs.declared.mark.Class.{Class}
use Rattle.sq_packet.specs.declared.mark.Class.TheVariants as class

abbrev pub IsDigits : Class → Type 0
IsDigits class.Digit = Unit {0}
IsDigits class.HexDigit = Unit {0}
IsDigits other = ⊥
